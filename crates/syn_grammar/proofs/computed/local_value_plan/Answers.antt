use Rattle.syn_grammar.proofs.SmallPlans.{local_value_plan_is}
use Rattle.syn_grammar.proofs.computed.local_value_plan.Goals as goal

pub returns : goal.returns
returns c = record { as_the_form = local_value_plan_is }
