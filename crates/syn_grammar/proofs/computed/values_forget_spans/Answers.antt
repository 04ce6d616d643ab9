use Rattle.syn_grammar.proofs.Alone.{like_values}
use Rattle.syn_grammar.proofs.computed.values_forget_spans.Goals as goal

pub returns : goal.returns
returns c = record { like_values = like_values }
