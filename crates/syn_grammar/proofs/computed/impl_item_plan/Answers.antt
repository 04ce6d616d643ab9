use Rattle.syn_grammar.proofs.MemberPlans.{impl_item_plan_is}
use Rattle.syn_grammar.proofs.computed.impl_item_plan.Goals as goal

pub returns : goal.returns
returns c = record { as_the_rule = impl_item_plan_is }
