use Rattle.syn_grammar.proofs.MemberPlans.{foreign_item_plan_is}
use Rattle.syn_grammar.proofs.computed.foreign_item_plan.Goals as goal

pub returns : goal.returns
returns c = record { as_the_rule = foreign_item_plan_is }
