use Rattle.std.proofs.Common.{◌≡◌}
use Rattle.syn_recognize.specs.Copies.{Reached}
use Rattle.syn_recognize.specs.Steps.{todo}
use Rattle.syn_recognize.proofs.reading.run_some.Given as goal

abbrev pub invariant-some : goal.invariant-some
invariant-some l = todo l.initial.steps.items (Reached l.initial.out l.initial.input) ≡ todo l.steps.items (Reached l.out l.input)
