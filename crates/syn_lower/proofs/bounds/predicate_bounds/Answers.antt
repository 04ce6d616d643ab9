use Rattle.std.proofs.Common.{rules}
use Rattle.syn_grammar.specs.Rules.{bound, predicate_bounds}
use Rattle.syn_grammar.specs.Grammar.{rule}
use Rattle.syn_parse.specs.Form.{of}
use Rattle.syn_lower.specs.Bounds.{syntax_of_TypeParamBound}
use Rattle.syn_lower.proofs.BoundLists.{predicate_bounds_list}
use Rattle.syn_lower.proofs.bounds.predicate_bounds.Goals as goal

pub returns-clause-reads : goal.returns-clause-reads
returns-clause-reads c = c.punctuated_list.ensures.reads predicate_bounds (of (rule bound)) syntax_of_TypeParamBound predicate_bounds_list (record { says = λ old new x h. search (rules, h) })
