use Rattle.std.proofs.Common.{refl, rules}
use Rattle.syn_grammar.specs.Rules.{predicate, predicates}
use Rattle.syn_grammar.specs.Grammar.{rule}
use Rattle.syn_parse.specs.Form.{of}
use Rattle.syn_parse.specs.Refusals.{IsSyntax}
use Rattle.syn_tokens.specs.Kinds.{comma_syntax}
use Rattle.syn_lower.specs.WhereClauses.{syntax_of_WherePredicate}
use Rattle.syn_lower.proofs.BoundLists.{predicates_list}
use Rattle.syn_lower.proofs.Solid.{results_solid}
use Rattle.syn_lower.proofs.where_clause.predicates.Goals as goal

pub returns-clause-reads : goal.returns-clause-reads
returns-clause-reads c =
    results_solid predicates predicate _ _ _ predicates_list 6 refl IsSyntax syntax_of_WherePredicate comma_syntax c.args.input.now c.punctuated_list.result c.punctuated_list.new.input
    (c.punctuated_list.ensures.reads predicates (of (rule predicate)) syntax_of_WherePredicate predicates_list (record { says = λ old new x h. search (rules, h) }))
