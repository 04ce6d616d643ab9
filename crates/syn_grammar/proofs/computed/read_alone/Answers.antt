use Rattle.syn_grammar.proofs.Alone as by
use Rattle.syn_grammar.proofs.computed.read_alone.Goals as goal

pub returns : goal.returns
returns c = record { read_alone = by.read_alone }
