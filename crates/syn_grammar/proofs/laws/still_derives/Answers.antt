use Rattle.syn_grammar.proofs.StillProved.{still_derives}
use Rattle.syn_grammar.proofs.laws.still_derives.Goals as goal

pub returns : goal.returns
returns c = record { grown = still_derives }
