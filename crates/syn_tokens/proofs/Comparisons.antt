-- Comparisons of marks and lists, ignoring spans.
use Rattle.std.proofs.Common.{◌≡◌, suc, Bool, true, false, ◌&&◌, List, [], ◌∷◌, length, refl, sym, ap, ◌∙◌, arith}
use Rattle.std.specs.Prelude.{◌==◌, Option, Some, None}
use Rattle.std.specs.List.{list_all, zip}
use Rattle.std.proofs.lemmas.Bool.{eq-eqb, ne_eqb}
use Rattle.syn_grammar.specs.Words.{Text}
use Rattle.syn_grammar.specs.Tokens.{and}
use Rattle.syn_grammar.specs.Grammar.{Syntax, Nothing, Node, Left, Right}
use Rattle.syn_grammar.specs.Same.{same_mark, same_syntax}
use Rattle.syn_grammar.proofs.Same.{and_both, and_true, and_false, same_syntax_refl}
use Rattle.syn_tokens.specs.Leaves.{placed, maybe}
use Rattle.syn_tokens.specs.Listing.{listed, list_of, joined_of, untagged}
use Rattle.syn_tokens.specs.InOrder.{in_order, pair_of}
use Rattle.syn_tokens.specs.declared.span.Span.{Span}

-- two marks of one text are the same
pub same_placed : (x : Text) (l m : List Span) → length l ≡ length m → same_mark (placed x l) (placed x m) ≡ true
same_placed [] l m e = refl
same_placed (c ∷ x) [] [] e = refl
same_placed (c ∷ x) [] (t ∷ m) e = absurd (omega arith)
same_placed (c ∷ x) (s ∷ l) [] e = absurd (omega arith)
same_placed (c ∷ x) (s ∷ l) (t ∷ m) e = and_both (eq-eqb c c refl) (same_placed x l m (omega arith))

module _ {T : Type 0} (v : T → Syntax) where
  -- values are compared by iterating over both lists at once
  pub same_zipped : (l m : List T) → length l ≡ length m → list_all (λ (p : T × T). same_syntax (v p.0) (v p.1)) (zip l m) ≡ same_syntax (in_order v l) (in_order v m)
  same_zipped [] [] e = refl
  same_zipped [] (y ∷ m) e = absurd (omega arith)
  same_zipped (x ∷ l) [] e = absurd (omega arith)
  same_zipped (x ∷ l) (y ∷ m) e = go (same_syntax (v x) (v y)) (same_zipped l m (omega arith))
    where
      go : (b : Bool) {c d : Bool} → c ≡ d → (b && c) ≡ and b d
      go true h = h
      go false h = refl

  pub unlike_lengths : (l m : List T) → (length l ≡ length m → ⊥) → (length l == length m) ≡ same_syntax (in_order v l) (in_order v m)
  unlike_lengths l m h = ne_eqb (length l) (length m) h ∙ sym (go l m h)
    where
      go : (l m : List T) → (length l ≡ length m → ⊥) → same_syntax (in_order v l) (in_order v m) ≡ false
      go [] [] h = absurd (h refl)
      go [] (y ∷ m) h = refl
      go (x ∷ l) [] h = refl
      go (x ∷ l) (y ∷ m) h = ap (and (same_syntax (v x) (v y))) (go l m (λ e. h (ap suc e))) ∙ and_false (same_syntax (v x) (v y))

module _ {T P : Type 0} (v : T → Syntax) (w : P → Syntax) where
  -- A list is compared by its pairs, and then by its last value.
  module _ (tag : Syntax → Syntax) (empty : Syntax)
      (tagged : (s t : Syntax) → same_syntax (tag s) (tag t) ≡ same_syntax s t)
      (shorter : (s : Syntax) → same_syntax empty (Node (tag s)) ≡ false)
      (longer : (s : Syntax) → same_syntax (Node (tag s)) empty ≡ false) where
    same_listed : (l m : List (T × P)) (o q : Option T) → same_syntax (listed tag v w empty l o) (listed tag v w empty m q) ≡ and (same_syntax (in_order (pair_of v w) l) (in_order (pair_of v w) m)) (same_syntax (maybe v o) (maybe v q))
    same_listed [] [] None None = same_syntax_refl empty
    same_listed [] [] None (Some u) = shorter _
    same_listed [] [] (Some t) None = longer _
    same_listed [] [] (Some t) (Some u) = tagged _ _ ∙ and_true (same_syntax (v t) (v u))
    same_listed [] (y ∷ m) None q = shorter _
    same_listed [] (y ∷ m) (Some t) q = tagged _ _ ∙ and_false (same_syntax (v t) (v y.0))
    same_listed (x ∷ l) [] o None = longer _
    same_listed (x ∷ l) [] o (Some u) = tagged _ _ ∙ and_false (same_syntax (v x.0) (v u))
    same_listed (x ∷ l) (y ∷ m) o q =
        tagged _ _ ∙ ap (λ z. and (same_syntax (v x.0) (v y.0)) (and (same_syntax (w x.1) (w y.1)) z)) (same_listed l m o q)
        ∙ regroup (same_syntax (v x.0) (v y.0)) (same_syntax (w x.1) (w y.1)) (same_syntax (in_order (pair_of v w) l) (in_order (pair_of v w) m)) _
      where
        regroup : (a b c d : Bool) → and a (and b (and c d)) ≡ and (and (and a b) c) d
        regroup true true c d = refl
        regroup true false c d = refl
        regroup false b c d = refl

  pub same_list : (l m : List (T × P)) (o q : Option T) → same_syntax (list_of v w l o) (list_of v w m q) ≡ and (same_syntax (in_order (pair_of v w) l) (in_order (pair_of v w) m)) (same_syntax (maybe v o) (maybe v q))
  same_list = same_listed Right (Node (Left Nothing)) (λ s t. refl) (λ s. refl) (λ s. refl)

  pub same_joined : (l m : List (T × P)) (o q : Option T) → same_syntax (joined_of v w l o) (joined_of v w m q) ≡ and (same_syntax (in_order (pair_of v w) l) (in_order (pair_of v w) m)) (same_syntax (maybe v o) (maybe v q))
  same_joined = same_listed untagged Nothing (λ s t. refl) (λ s. refl) (λ s. refl)
