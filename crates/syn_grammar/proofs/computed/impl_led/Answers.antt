use Rattle.syn_grammar.proofs.Leads.{impl_led}
use Rattle.syn_grammar.proofs.computed.impl_led.Goals as goal

pub returns : goal.returns
returns c = record { by_tokens = impl_led }
