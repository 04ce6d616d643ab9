use Rattle.std.proofs.Common.{refl, rules}
use Rattle.syn_grammar.specs.Rules as grammar
use Rattle.syn_grammar.specs.Rules.{bound}
use Rattle.syn_grammar.specs.Grammar.{rule}
use Rattle.syn_parse.specs.Form.{of}
use Rattle.syn_parse.specs.Refusals.{IsSyntax}
use Rattle.syn_tokens.specs.Kinds.{plus_syntax}
use Rattle.syn_lower.specs.Bounds.{syntax_of_TypeParamBound}
use Rattle.syn_lower.proofs.Solid.{results_solid}
use Rattle.syn_item.proofs.BoundLists.{type_bounds_list}
use Rattle.syn_item.proofs.pieces.type_bounds.Goals as goal

pub returns-clause-reads : goal.returns-clause-reads
returns-clause-reads c =
    results_solid grammar.type_bounds bound _ _ _ type_bounds_list 4 refl IsSyntax syntax_of_TypeParamBound plus_syntax c.args.input.now c.punctuated_list.result c.punctuated_list.new.input
    (c.punctuated_list.ensures.reads grammar.type_bounds (of (rule bound)) syntax_of_TypeParamBound type_bounds_list (record { says = λ old new x h. search (rules, h) }))
