use Rattle.syn_recognize.specs.Ladder.{Passes}
use Rattle.syn_recognize.proofs.levels.first_level.Given as goal

abbrev pub invariant-levels : goal.invariant-levels
invariant-levels l = Passes l.from l.to l.level l.next
