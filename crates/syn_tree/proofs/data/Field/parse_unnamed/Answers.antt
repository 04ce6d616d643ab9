use Rattle.std.proofs.Common.{refl, rules}
use Rattle.syn_grammar.specs.Rules.{unnamed_field}
use Rattle.syn_grammar.specs.Grammar.{rule}
use Rattle.syn_grammar.specs.Promises.{itself}
use Rattle.syn_grammar.proofs.Outcomes.{meaning_of_rule, outcome_of}
use Rattle.syn_tokens.specs.Faults.{IsSyntaxError}
use Rattle.std.proofs.lemmas.Result.{err_from_is_err_and}
use Rattle.syn_parse.proofs.Refused.{refused_by_syntax}
use Rattle.syn_tree.proofs.Defaults.{default_fault}
use Rattle.syn_tree.proofs.data.Field.parse_unnamed.Goals as goal

pub returns-in_err-field-clause-outcome : goal.returns-in_err-field-clause-outcome
returns-in_err-field-clause-outcome c =
    outcome_of IsSyntaxError itself (rule unnamed_field) (meaning_of_rule unnamed_field) c.args.input.now c.from_residual.result c.args.input.now (search (rules, refused_by_syntax)) (λ e h. refl)

pub returns-clause-outcome : goal.returns-clause-outcome
returns-clause-outcome c = λ v. ((meaning_of_rule unnamed_field c.args.input.now v).0 _ _).0 (search rules)

pub returns-in_err-field-clause-default : goal.returns-in_err-field-clause-default
returns-in_err-field-clause-default c =
    let error = err_from_is_err_and c.from_residual.result c.from_residual.ensures.1 in
    default_fault c.args.input.now c.from_residual.result error.0 _ error.1 error.2 (rw c.fork-ahead.ensures at c.in_err-field.ensures.default)

pub returns-clause-default : goal.returns-clause-default
returns-clause-default c = rw c.fork-ahead.ensures at c.in_ok-field.ensures.default
