use Rattle.syn_grammar.proofs.MemberPlans.{trait_item_plan_is}
use Rattle.syn_grammar.proofs.computed.trait_item_plan.Goals as goal

pub returns : goal.returns
returns c = record { as_the_rule = trait_item_plan_is }
