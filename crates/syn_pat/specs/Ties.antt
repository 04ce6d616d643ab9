-- FUNCTION VALUES that may be called on values of one size, and what they do then.
use Rattle.std.specs.Prelude.{◌≡◌, ℕ, Bool, OnOk, IfOk, Result}
use Rattle.std.specs.Global.{Global}
use Rattle.std.specs.declared.alloc.AllocError.{AllocError}
use denote.Ref.{Bor, MutBor}
use Rattle.syn_grammar.specs.Grammar.{Syntax, print}
use Rattle.syn_grammar.specs.Same.{same_syntax}
use Rattle.syn_tokens.specs.Building.{Building, added}
use Rattle.syn_lower.specs.Sizes.{tree_size}

module _ {T : Type 0} (v : T → Syntax) (n : ℕ) where
  -- it prints them
  pub record PrintTies (pre : Bor T → MutBor Building → Type 0) (post : Bor T → MutBor Building → Result (Unit {0}) AllocError → MutBor Building → Type 0) : Type 0 where
    pub callable : (x : Bor T) (out : MutBor Building) → tree_size (v x.now) ≡ n → pre x out
    pub prints : (x : Bor T) (old new : MutBor Building) (r : Result (Unit {0}) AllocError) → tree_size (v x.now) ≡ n → post x old r new →
        OnOk r (new.now ≡ added old.now (print (v x.now)))
    pub begins : (x : Bor T) (old new : MutBor Building) (r : Result (Unit {0}) AllocError) → tree_size (v x.now) ≡ n → post x old r new →
        new.now.before ≡ old.now.before

  -- it copies them
  pub record CopyTies (pre : Bor T → Global → Type 0) (post : Bor T → Global → Result T AllocError → Type 0) : Type 0 where
    pub callable : (x : Bor T) (alloc : Global) → tree_size (v x.now) ≡ n → pre x alloc
    pub copies : (x : Bor T) (alloc : Global) (r : Result T AllocError) → tree_size (v x.now) ≡ n → post x alloc r → IfOk r (λ copy. v copy ≡ v x.now)

  -- it compares them
  pub record CompareTies (pre : Bor T → Bor T → Type 0) (post : Bor T → Bor T → Bool → Type 0) : Type 0 where
    pub callable : (x y : Bor T) → tree_size (v x.now) ≡ n → pre x y
    pub compares : (x y : Bor T) (answer : Bool) → tree_size (v x.now) ≡ n → post x y answer → answer ≡ same_syntax (v x.now) (v y.now)
