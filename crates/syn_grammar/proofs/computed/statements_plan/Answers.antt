use Rattle.syn_grammar.proofs.StatementPlans.{statements_plan_is}
use Rattle.syn_grammar.proofs.computed.statements_plan.Goals as goal

pub returns : goal.returns
returns c = record { as_the_rule = statements_plan_is }
