-- THE SIZE OF A TREE: larger than that of each of its parts. Recursions over trees end by it.
use Rattle.std.specs.Prelude.{ℕ, ◌+◌, ◌≤◌, max, List, [], ◌∷◌, Option, Some, None}
use Rattle.std.proofs.Common.{arith}
use denote.Param.Weighed.{most}
use mathlib.Core.Logic.{◌⊎◌, inl, inr}
use Rattle.syn_grammar.specs.Grammar.{Syntax, Nothing, Token, Mark, Lifetime, Both, Left, Right, Node, Vanishing, Group, Raw, Rest, Case, Such, Shaped, Captured, Unshown, Added, Impl, Done, Last, More, Order}
use Rattle.syn_tokens.specs.Leaves.{maybe}
use Rattle.syn_tokens.specs.Listing.{list_of, joined_of}

abbrev pub tree_size : Syntax → ℕ
tree_size Nothing = 1
tree_size (Token x sp) = 1
tree_size (Mark xs) = 1
tree_size (Lifetime sp x sq) = 1
tree_size (Both s t) = tree_size s + tree_size t + 1
tree_size (Left s) = tree_size s + 1
tree_size (Right s) = tree_size s + 1
tree_size (Node s) = tree_size s + 1
tree_size (Vanishing b s) = tree_size s + 1
tree_size (Group d o c s) = tree_size s + 1
tree_size (Raw d o c i) = 1
tree_size (Rest xs i) = 1
tree_size (Case k s) = tree_size s + 1
tree_size (Such s) = tree_size s + 1
tree_size (Shaped j s) = tree_size s + 1
tree_size (Captured s i) = tree_size s + 1
tree_size (Unshown s) = tree_size s + 1
tree_size (Added x) = 1
tree_size (Impl l s) = tree_size l + tree_size s + 1
tree_size Done = 1
tree_size (Last k s) = tree_size s + 1
tree_size (More k s sp t) = tree_size s + tree_size t + 1
tree_size (Order xs l ys) = tree_size l + 1

-- the values of a list, together
abbrev pub last_size : {T : Type 0} → (T → Syntax) → Option T → ℕ
last_size v None = 0
last_size v (Some t) = tree_size (v t)

abbrev pub values_size : {T P : Type 0} → (T → Syntax) → List (T × P) → Option T → ℕ
values_size v [] o = last_size v o
values_size v (x ∷ l) o = tree_size (v x.0) + values_size v l o

-- a tree that is in another one
abbrev pub above : Syntax → ℕ
above s = tree_size s + 1

pub above_falls : (s : Syntax) → above s ≤ tree_size s + 1
above_falls s = omega arith

-- options, as the measure of what leads back to itself has them: in a field, and at the end of a list
abbrev pub split : {A : Type 0} → Option A → Unit {0} ⊎ ((A × Unit {0}) ⊎ ⊥)
split None = inl tt
split (Some x) = inr (inl (x, tt))

abbrev pub weight : {A : Type 0} → (A → ℕ) → Unit {0} ⊎ ((A × Unit {0}) ⊎ ⊥) → ℕ
weight d (inl x) = 0
weight d (inr (inl p)) = max (d p.0) 0
weight d (inr (inr z)) = 0

abbrev pub split_last : {A : Type 0} → Option A → Unit {0} ⊎ A
split_last None = inl tt
split_last (Some x) = inr x

abbrev pub weight_last : {A : Type 0} → (A → ℕ) → Unit {0} ⊎ A → ℕ
weight_last d (inl x) = 0
weight_last d (inr x) = d x

-- what is in an optional part, and in a list
module _ {T : Type 0} (v : T → Syntax) (d : T → ℕ) (falls : (t : T) → d t ≤ tree_size (v t) + 1) where
  pub maybe_falls : (o : Option T) → weight d (split o) ≤ tree_size (maybe v o)
  maybe_falls None = omega arith
  maybe_falls (Some t) = omega (arith, falls t)

  module _ {P : Type 0} (w : P → Syntax) where
    pub list_falls : (l : List (T × P)) (o : Option T) → max (most (λ e. max (d e.0) 0) l) (weight_last d (split_last o)) ≤ tree_size (list_of v w l o)
    list_falls [] None = omega arith
    list_falls [] (Some t) = omega (arith, falls t)
    list_falls (x ∷ l) o = omega (arith, falls x.0, list_falls l o)

    pub joined_falls : (l : List (T × P)) (o : Option T) → max (most (λ e. max (d e.0) 0) l) (weight_last d (split_last o)) ≤ tree_size (joined_of v w l o)
    joined_falls [] None = omega arith
    joined_falls [] (Some t) = omega (arith, falls t)
    joined_falls (x ∷ l) o = omega (arith, falls x.0, joined_falls l o)
