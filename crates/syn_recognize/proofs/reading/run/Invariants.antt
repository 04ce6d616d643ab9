use Rattle.std.proofs.Common.{◌≡◌, ◌-◌, length}
use Rattle.syn_recognize.specs.Copies.{Reached}
use Rattle.syn_recognize.specs.Steps.{todo}
use Rattle.syn_recognize.proofs.reading.run.Given as goal

abbrev pub invariant-all : goal.invariant-all
invariant-all l = todo l.initial.steps.items (Reached l.initial.out l.initial.input) ≡ todo l.steps.items (Reached l.out l.input)

-- the log of a run is shorter than any vector may be
abbrev pub decreases-all : goal.decreases-all
decreases-all l = 9223372036854775808 - length l.log.items
