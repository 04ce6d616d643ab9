use Rattle.std.proofs.Common.{rules}
use Rattle.syn_grammar.specs.Rules.{static_mutability}
use Rattle.syn_grammar.proofs.Outcomes.{meaning_of_rule}
use Rattle.syn_item.proofs.simple.StaticMutability.parse.Goals as goal

pub returns-clause-outcome : goal.returns-clause-outcome
returns-clause-outcome c = λ v. ((meaning_of_rule static_mutability c.args.input.now v).0 _ _).0 (search rules)
