use Rattle.std.proofs.Common.{refl, rules}
use Rattle.syn_grammar.specs.Rules.{statements}
use Rattle.syn_grammar.specs.Grammar.{rule}
use Rattle.syn_grammar.proofs.Outcomes.{meaning_of_rule, outcome_of}
use Rattle.syn_tokens.specs.Faults.{IsSyntaxError}
use Rattle.syn_parse.proofs.Refused.{refused_by_syntax}
use Rattle.syn_expr.specs.Statements.{statements_syntax}
use Rattle.syn_expr.proofs.stmt.Block.parse_within.Goals as goal

pub returns-in_err-stmts-clause-outcome : goal.returns-in_err-stmts-clause-outcome
returns-in_err-stmts-clause-outcome c =
    outcome_of IsSyntaxError (λ v. statements_syntax v.items) (rule statements) (meaning_of_rule statements) c.args.input.now c.from_residual.result c.args.input.now (search (rules, refused_by_syntax)) (λ e h. refl)

pub returns-clause-outcome : goal.returns-clause-outcome
returns-clause-outcome c = λ v. ((meaning_of_rule statements c.args.input.now v).0 _ _).0 (search rules)
