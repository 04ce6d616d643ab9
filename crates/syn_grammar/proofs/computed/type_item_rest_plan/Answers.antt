use Rattle.syn_grammar.proofs.AlonePlans.{type_alone_is}
use Rattle.syn_grammar.proofs.computed.type_item_rest_plan.Goals as goal

pub returns : goal.returns
returns c = record { as_the_rule = type_alone_is }
