use Rattle.syn_grammar.proofs.StillProved.{lift_keeps}
use Rattle.syn_grammar.proofs.laws.lift_keeps.Goals as goal

pub returns : goal.returns
returns c = record { kept = lift_keeps }
