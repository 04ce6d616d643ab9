use Rattle.syn_grammar.proofs.ItemPlan.{item_plan_is}
use Rattle.syn_grammar.proofs.computed.item_plan.Goals as goal

pub returns : goal.returns
returns c = record { as_the_rule = item_plan_is }
