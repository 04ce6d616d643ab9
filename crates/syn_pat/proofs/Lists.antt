-- Values in order.
use Rattle.std.proofs.Common.{ℕ, zero, suc, ◌<◌, ◌≤◌, List, [], ◌∷◌, length, get_or, arith}
use Rattle.syn_grammar.specs.Grammar.{Syntax}
use Rattle.syn_tokens.specs.InOrder.{in_order}
use Rattle.syn_lower.specs.Sizes.{tree_size}

-- one of some values in order
pub one_smaller : {T : Type 0} (v : T → Syntax) (l : List T) (i : ℕ) (d : T) → i < length l → tree_size (v (get_or l i d)) ≤ tree_size (in_order v l)
one_smaller v [] i d h = absurd (omega arith)
one_smaller v (x ∷ l) zero d h = omega arith
one_smaller v (x ∷ l) (suc i) d h = omega (arith, one_smaller v l i d (omega (arith, h)))
