use Rattle.syn_grammar.proofs.AlonePlans.{impl_alone_is}
use Rattle.syn_grammar.proofs.computed.impl_definition_rest_plan.Goals as goal

pub returns : goal.returns
returns c = record { as_the_rule = impl_alone_is }
