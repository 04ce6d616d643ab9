use Rattle.syn_grammar.proofs.Leads.{type_leads}
use Rattle.syn_grammar.proofs.computed.type_leads.Goals as goal

pub returns : goal.returns
returns c = record { by_tokens = type_leads }
