use Rattle.syn_grammar.proofs.AlonePlans.{use_alone_is}
use Rattle.syn_grammar.proofs.computed.use_item_rest_plan.Goals as goal

pub returns : goal.returns
returns c = record { as_the_rule = use_alone_is }
