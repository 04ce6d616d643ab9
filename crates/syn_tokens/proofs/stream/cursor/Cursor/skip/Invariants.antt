use Rattle.std.proofs.Common.{◌≡◌}
use Rattle.syn_tokens.specs.Places.{after}
use Rattle.syn_tokens.proofs.stream.cursor.Cursor.skip.Given as goal

abbrev pub invariant-loop-i : goal.invariant-loop-i
invariant-loop-i l = l.self ≡ after l.i l.initial.self
