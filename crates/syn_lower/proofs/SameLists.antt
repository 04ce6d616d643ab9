-- Lists are compared value by value.
use Rattle.std.proofs.Common.{◌≡◌, ℕ, suc, ◌+◌, ◌<◌, ◌≤◌, Bool, true, false, List, [], ◌∷◌, length, drop, get_or, Option, Some, None, refl, sym, ap, ap₂, ◌∙◌, true≢false}
use Rattle.std.proofs.lemmas.List.{at_drop_more, drop_all}
use Rattle.syn_grammar.specs.Tokens.{and}
use Rattle.syn_grammar.specs.Grammar.{Syntax, Done, Last, More}
use Rattle.syn_grammar.specs.Same.{same_bool, same_syntax}
use Rattle.syn_grammar.proofs.Same.{and_true, and_false, and_assoc}
use Rattle.syn_tokens.specs.InOrder.{in_order}
use Rattle.syn_tokens.specs.Leaves.{maybe}
use Rattle.syn_tokens.specs.Listing.{list_of}
use Rattle.syn_lower.specs.Ordered.{ordered_of}

module _ {T : Type 0} (v : T → Syntax) where
  pub unlike : (l m : List T) → (length l ≡ length m → ⊥) → same_syntax (in_order v l) (in_order v m) ≡ false
  unlike [] [] h = absurd (h refl)
  unlike [] (y ∷ m) h = refl
  unlike (x ∷ l) [] h = refl
  unlike (x ∷ l) (y ∷ m) h = ap (and (same_syntax (v x) (v y))) (unlike l m (λ e. h (ap suc e))) ∙ and_false (same_syntax (v x) (v y))

  -- what is left on both sides, one step on
  pub same_step : (l m : List T) (i : ℕ) (d e : T) → i < length l → i < length m →
      same_syntax (in_order v (drop i l)) (in_order v (drop i m)) ≡ and (same_syntax (v (get_or l i d)) (v (get_or m i e))) (same_syntax (in_order v (drop (i + 1) l)) (in_order v (drop (i + 1) m)))
  same_step l m i d e h k = ap₂ same_syntax (at_drop_more (in_order v) l i d h) (at_drop_more (in_order v) m i e k)

  pub same_done : (l m : List T) (i : ℕ) → length l ≤ i → length m ≤ i → same_syntax (in_order v (drop i l)) (in_order v (drop i m)) ≡ true
  same_done l m i h k = ap₂ (λ p q. same_syntax (in_order v p) (in_order v q)) (drop_all i l h) (drop_all i m k)

-- LISTS IN `< >`: what is the same is of one form, so the form needs no comparison

no_yes : false ≡ true → ⊥
no_yes e = true≢false (sym e)

same_forms : (b c d e : Bool) → (d ≡ true → b ≡ c) → and (same_bool b c) (and d e) ≡ and d e
same_forms true c true e h = ap (λ x. and x e) (sym (h refl))
same_forms false true true e h = absurd (no_yes (h refl))
same_forms false false true e h = refl
same_forms b c false e h = and_false (same_bool b c)

module _ {T P : Type 0} (f : Syntax → Bool) (apart : (s t : Syntax) → same_syntax s t ≡ true → f s ≡ f t) (v : T → Syntax) (w : P → Syntax) where
  pub same_ordered_members : (l m : List (T × P)) (o q : Option T) →
      same_syntax (ordered_of f (list_of v w l o)) (ordered_of f (list_of v w m q)) ≡ and (same_syntax (in_order (λ x. v x.0) l) (in_order (λ x. v x.0) m)) (same_syntax (maybe v o) (maybe v q))
  same_ordered_members [] [] None None = refl
  same_ordered_members [] [] None (Some u) = refl
  same_ordered_members [] [] (Some t) None = refl
  same_ordered_members [] [] (Some t) (Some u) = sym (ap (and (same_bool (f (v t)) (f (v u)))) (and_true (same_syntax (v t) (v u)))) ∙ same_forms (f (v t)) (f (v u)) (same_syntax (v t) (v u)) true (apart (v t) (v u)) ∙ and_true (same_syntax (v t) (v u))
  same_ordered_members [] (y ∷ m) None q = refl
  same_ordered_members [] (y ∷ m) (Some t) q = refl
  same_ordered_members (x ∷ l) [] o None = refl
  same_ordered_members (x ∷ l) [] o (Some u) = refl
  same_ordered_members (x ∷ l) (y ∷ m) o q =
      same_forms (f (v x.0)) (f (v y.0)) (same_syntax (v x.0) (v y.0)) _ (apart (v x.0) (v y.0))
      ∙ ap (and (same_syntax (v x.0) (v y.0))) (same_ordered_members l m o q)
      ∙ and_assoc (same_syntax (v x.0) (v y.0)) (same_syntax (in_order (λ z. v z.0) l) (in_order (λ z. v z.0) m)) (same_syntax (maybe v o) (maybe v q))

  -- where the values before the last are the same, the last decides; else they are not the same
  pub ordered_then : (l m : List (T × P)) (o q : Option T) (k n : List (T × P)) (a r : Bool) → k ≡ l → n ≡ m →
      a ≡ same_syntax (in_order (λ x. v x.0) k) (in_order (λ x. v x.0) n) → a ≡ true → r ≡ same_syntax (maybe v o) (maybe v q) →
      r ≡ same_syntax (ordered_of f (list_of v w l o)) (ordered_of f (list_of v w m q))
  ordered_then l m o q k n a r d e g h u =
      u ∙ sym (same_ordered_members l m o q
      ∙ ap (λ z. and z (same_syntax (maybe v o) (maybe v q))) (sym (g ∙ ap₂ (λ x y. same_syntax (in_order (λ z. v z.0) x) (in_order (λ z. v z.0) y)) d e) ∙ h))

  pub ordered_else : (l m : List (T × P)) (o q : Option T) →
      same_syntax (in_order (λ x. v x.0) l) (in_order (λ x. v x.0) m) ≡ false →
      false ≡ same_syntax (ordered_of f (list_of v w l o)) (ordered_of f (list_of v w m q))
  ordered_else l m o q h = sym (same_ordered_members l m o q ∙ ap (λ z. and z (same_syntax (maybe v o) (maybe v q))) h)
