use Rattle.syn_grammar.proofs.Outcomes.{one_value}
use Rattle.syn_grammar.proofs.computed.one_value.Goals as goal

pub returns : goal.returns
returns c = record { unambiguous = one_value }
