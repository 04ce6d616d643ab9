use Rattle.std.proofs.Common.{refl, rules}
use Rattle.syn_grammar.specs.Rules.{inner_attributes}
use Rattle.syn_grammar.specs.Grammar.{rule}
use Rattle.syn_grammar.proofs.Outcomes.{meaning_of_rule, outcome_of}
use Rattle.syn_tokens.specs.Faults.{IsSyntaxError}
use Rattle.syn_parse.proofs.Refused.{refused_by_syntax}
use Rattle.syn_lower.specs.Attributes.{inner_attributes_syntax}
use Rattle.syn_lower.proofs.attr.Attribute.parse_inner.Goals as goal

pub returns-in_err-attrs-clause-outcome : goal.returns-in_err-attrs-clause-outcome
returns-in_err-attrs-clause-outcome c =
    outcome_of IsSyntaxError (λ v. inner_attributes_syntax v.items) (rule inner_attributes) (meaning_of_rule inner_attributes) c.args.input.now c.from_residual.result c.args.input.now (search (rules, refused_by_syntax)) (λ e h. refl)

pub returns-clause-outcome : goal.returns-clause-outcome
returns-clause-outcome c = λ v. ((meaning_of_rule inner_attributes c.args.input.now v).0 _ _).0 (search rules)
