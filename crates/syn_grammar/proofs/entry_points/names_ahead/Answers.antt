use Rattle.syn_grammar.proofs.Listed.{names_ahead}
use Rattle.syn_grammar.proofs.entry_points.names_ahead.Goals as goal

pub returns : goal.returns
returns c = record { after_the_word = names_ahead }
