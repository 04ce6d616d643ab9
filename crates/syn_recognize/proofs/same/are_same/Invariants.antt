use Rattle.std.proofs.Common.{◌≡◌, drop, length}
use Rattle.syn_recognize.proofs.same.are_same.Given as goal

abbrev pub invariant-loop-i : goal.invariant-loop-i
invariant-loop-i l = (length l.ones ≡ length l.others) × (drop l.i l.ones ≡ drop l.i l.others → l.ones ≡ l.others)
