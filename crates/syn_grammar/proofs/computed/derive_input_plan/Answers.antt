use Rattle.syn_grammar.proofs.SmallPlans.{derive_input_plan_is}
use Rattle.syn_grammar.proofs.computed.derive_input_plan.Goals as goal

pub returns : goal.returns
returns c = record { as_the_form = derive_input_plan_is }
