use Rattle.syn_grammar.proofs.StatementPlans.{statement_plan_is}
use Rattle.syn_grammar.proofs.computed.statement_plan.Goals as goal

pub returns : goal.returns
returns c = record { as_the_rule = statement_plan_is }
