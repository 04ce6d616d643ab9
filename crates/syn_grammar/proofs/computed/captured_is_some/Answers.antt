use Rattle.syn_grammar.proofs.Outcomes.{captured_is_some}
use Rattle.syn_grammar.proofs.computed.captured_is_some.Goals as goal

pub returns : goal.returns
returns c = record { some_derivation = captured_is_some }
