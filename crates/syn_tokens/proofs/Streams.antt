-- Streams one after another.
use Rattle.std.specs.Prelude.{◌≡◌, refl, suc, false, ◌==◌}
use Rattle.std.proofs.Common.{ℕ, sym, arith}
use Rattle.std.proofs.lemmas.Bool.Decides.{nat_tests}
use Rattle.syn_grammar.specs.Tokens.{Stream, end, leaf, punct, group}
use Rattle.syn_grammar.specs.Take.{is_end, length}

suc_is_not_zero : (n : ℕ) → (suc n == 0) ≡ false
suc_is_not_zero n = grind (arith, nat_tests)

-- a stream is at its end if it has no trees
pub is_end_of : (ts : Stream) → is_end ts ≡ (length ts == 0)
unfolding is_end
is_end_of end = refl
is_end_of (leaf x sp m) = sym (suc_is_not_zero (length m))
is_end_of (punct c j sp m) = sym (suc_is_not_zero (length m))
is_end_of (group d o c i m) = sym (suc_is_not_zero (length m))
