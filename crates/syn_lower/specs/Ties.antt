-- FUNCTION VALUES that may be called on types of one size, and what they do then.
use Rattle.std.specs.Prelude.{◌≡◌, ℕ, Bool, OnOk, IfOk, Result}
use Rattle.std.specs.Global.{Global}
use Rattle.std.specs.declared.alloc.AllocError.{AllocError}
use denote.Ref.{Bor, MutBor}
use Rattle.syn_grammar.specs.Grammar.{print}
use Rattle.syn_grammar.specs.Same.{same_syntax}
use Rattle.syn_tokens.specs.Building.{Building, added}
use Rattle.syn_lower.specs.Sizes.{tree_size}
use Rattle.syn_lower.specs.Types.{syntax_of_Type}
use Rattle.syn_lower.specs.declared.ty.Type.TheVariants as Type-m

-- it prints them
pub record PrintTies (n : ℕ) (pre : Bor Type-m.the_data → MutBor Building → Type 0)
    (post : Bor Type-m.the_data → MutBor Building → Result (Unit {0}) AllocError → MutBor Building → Type 0) : Type 0 where
  pub callable : (x : Bor Type-m.the_data) (out : MutBor Building) → tree_size (syntax_of_Type x.now) ≡ n → pre x out
  pub prints : (x : Bor Type-m.the_data) (old new : MutBor Building) (r : Result (Unit {0}) AllocError) → tree_size (syntax_of_Type x.now) ≡ n → post x old r new →
      OnOk r (new.now ≡ added old.now (print (syntax_of_Type x.now)))
  pub begins : (x : Bor Type-m.the_data) (old new : MutBor Building) (r : Result (Unit {0}) AllocError) → tree_size (syntax_of_Type x.now) ≡ n → post x old r new →
      new.now.before ≡ old.now.before

-- it copies them
pub record CopyTies (n : ℕ) (pre : Bor Type-m.the_data → Global → Type 0) (post : Bor Type-m.the_data → Global → Result Type-m.the_data AllocError → Type 0) : Type 0 where
  pub callable : (x : Bor Type-m.the_data) (alloc : Global) → tree_size (syntax_of_Type x.now) ≡ n → pre x alloc
  pub copies : (x : Bor Type-m.the_data) (alloc : Global) (r : Result Type-m.the_data AllocError) → tree_size (syntax_of_Type x.now) ≡ n → post x alloc r →
      IfOk r (λ copy. syntax_of_Type copy ≡ syntax_of_Type x.now)

-- it compares them
pub record CompareTies (n : ℕ) (pre : Bor Type-m.the_data → Bor Type-m.the_data → Type 0) (post : Bor Type-m.the_data → Bor Type-m.the_data → Bool → Type 0) : Type 0 where
  pub callable : (x y : Bor Type-m.the_data) → tree_size (syntax_of_Type x.now) ≡ n → pre x y
  pub compares : (x y : Bor Type-m.the_data) (answer : Bool) → tree_size (syntax_of_Type x.now) ≡ n → post x y answer →
      answer ≡ same_syntax (syntax_of_Type x.now) (syntax_of_Type y.now)
