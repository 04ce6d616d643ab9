use Rattle.syn_grammar.proofs.Same.{same_stream_plain}
use Rattle.syn_grammar.proofs.equality.same_streams_are_plain.Goals as goal

pub returns : goal.returns
returns c = record { tested = same_stream_plain }
