-- Operators, compared where spans don't count.
use Rattle.std.proofs.Common.{◌≡◌, ℕ, zero, suc, ◌<◌, Bool, true, false, List, [], ◌∷◌, length, get_or, nat_eq, refl, sym, ap, ap₂, ◌∙◌, true≢false, arith}
use Rattle.syn_grammar.specs.Words.{Text}
use Rattle.syn_grammar.specs.Tokens.{and, same_text}
use Rattle.syn_grammar.specs.Same.{same_bool, same_mark, same_syntax}
use Rattle.syn_tokens.specs.Leaves.{placed, syntax_of_mark}
use Rattle.syn_tokens.specs.declared.span.Span.{Span as TokenSpan}
use Rattle.syn_expr_parse.specs.Operators.{number_of_BinOp, number_of_UnOp, placed_BinOp, placed_UnOp, syntax_of_BinOp, syntax_of_UnOp}
use Rattle.syn_expr_parse.specs.declared.op.BinOp.TheVariants as BinOp-m
use Rattle.syn_expr_parse.specs.declared.op.UnOp.TheVariants as UnOp-m

-- two marks with a place for each of their characters are the same where their texts are
same_marks : (x y : Text) (l m : List TokenSpan) → length l ≡ length x → length m ≡ length y → same_mark (placed x l) (placed y m) ≡ same_text x y
same_marks [] [] l m e f = refl
same_marks [] (d ∷ y) l [] e f = absurd (omega (arith, f))
same_marks [] (d ∷ y) l (t ∷ m) e f = refl
same_marks (c ∷ x) [] [] m e f = absurd (omega (arith, e))
same_marks (c ∷ x) [] (s ∷ l) m e f = refl
same_marks (c ∷ x) (d ∷ y) [] m e f = absurd (omega (arith, e))
same_marks (c ∷ x) (d ∷ y) (s ∷ l) [] e f = absurd (omega (arith, f))
same_marks (c ∷ x) (d ∷ y) (s ∷ l) (t ∷ m) e f = ap (and (nat_eq c d)) (same_marks x y l m (omega (arith, e)) (omega (arith, f)))

-- WHAT HOLDS OF ALL NUMBERS BELOW ONE

abbrev all_below : ℕ → (ℕ → Bool) → Bool
all_below zero f = true
all_below (suc n) f = and (f zero) (all_below n (λ k. f (suc k)))

first_true : (a b : Bool) → and a b ≡ true → a ≡ true
first_true true b e = refl
first_true false b e = e

second_true : (a b : Bool) → and a b ≡ true → b ≡ true
second_true true b e = e
second_true false b e = absurd (true≢false (sym e))

below : (n : ℕ) (f : ℕ → Bool) (i : ℕ) → i < n → all_below n f ≡ true → f i ≡ true
below zero f i h e = absurd (omega (arith, h))
below (suc n) f zero h e = first_true (f zero) _ e
below (suc n) f (suc i) h e = below n (λ k. f (suc k)) i (omega (arith, h)) (second_true (f zero) _ e)

-- two tests that are known to agree
known_alike : (a b : Bool) → same_bool a b ≡ true → a ≡ b
known_alike true b e = sym e
known_alike false true e = absurd (true≢false (sym e))
known_alike false false e = refl

-- BINARY OPERATORS

-- the characters of each, by its number
abbrev texts_of_BinOp : List Text
texts_of_BinOp = (43 ∷ []) ∷ (45 ∷ []) ∷ (42 ∷ []) ∷ (47 ∷ []) ∷ (37 ∷ []) ∷ (38 ∷ 38 ∷ []) ∷ (124 ∷ 124 ∷ []) ∷ (94 ∷ []) ∷ (38 ∷ []) ∷ (124 ∷ []) ∷ (60 ∷ 60 ∷ []) ∷ (62 ∷ 62 ∷ []) ∷ (61 ∷ 61 ∷ []) ∷ (60 ∷ []) ∷ (60 ∷ 61 ∷ []) ∷ (33 ∷ 61 ∷ []) ∷ (62 ∷ 61 ∷ []) ∷ (62 ∷ []) ∷ (43 ∷ 61 ∷ []) ∷ (45 ∷ 61 ∷ []) ∷ (42 ∷ 61 ∷ []) ∷ (47 ∷ 61 ∷ []) ∷ (37 ∷ 61 ∷ []) ∷ (94 ∷ 61 ∷ []) ∷ (38 ∷ 61 ∷ []) ∷ (124 ∷ 61 ∷ []) ∷ (60 ∷ 60 ∷ 61 ∷ []) ∷ (62 ∷ 62 ∷ 61 ∷ []) ∷ []

abbrev text_of_BinOp : BinOp-m.the_data → Text
text_of_BinOp o = get_or texts_of_BinOp (number_of_BinOp o) []

abbrev spans_of_BinOp : BinOp-m.the_data → List TokenSpan
spans_of_BinOp (BinOp-m.Add o) = o.spans
spans_of_BinOp (BinOp-m.Sub o) = o.spans
spans_of_BinOp (BinOp-m.Mul o) = o.spans
spans_of_BinOp (BinOp-m.Div o) = o.spans
spans_of_BinOp (BinOp-m.Rem o) = o.spans
spans_of_BinOp (BinOp-m.And o) = o.spans
spans_of_BinOp (BinOp-m.Or o) = o.spans
spans_of_BinOp (BinOp-m.BitXor o) = o.spans
spans_of_BinOp (BinOp-m.BitAnd o) = o.spans
spans_of_BinOp (BinOp-m.BitOr o) = o.spans
spans_of_BinOp (BinOp-m.Shl o) = o.spans
spans_of_BinOp (BinOp-m.Shr o) = o.spans
spans_of_BinOp (BinOp-m.Eq o) = o.spans
spans_of_BinOp (BinOp-m.Lt o) = o.spans
spans_of_BinOp (BinOp-m.Le o) = o.spans
spans_of_BinOp (BinOp-m.Ne o) = o.spans
spans_of_BinOp (BinOp-m.Ge o) = o.spans
spans_of_BinOp (BinOp-m.Gt o) = o.spans
spans_of_BinOp (BinOp-m.AddAssign o) = o.spans
spans_of_BinOp (BinOp-m.SubAssign o) = o.spans
spans_of_BinOp (BinOp-m.MulAssign o) = o.spans
spans_of_BinOp (BinOp-m.DivAssign o) = o.spans
spans_of_BinOp (BinOp-m.RemAssign o) = o.spans
spans_of_BinOp (BinOp-m.BitXorAssign o) = o.spans
spans_of_BinOp (BinOp-m.BitAndAssign o) = o.spans
spans_of_BinOp (BinOp-m.BitOrAssign o) = o.spans
spans_of_BinOp (BinOp-m.ShlAssign o) = o.spans
spans_of_BinOp (BinOp-m.ShrAssign o) = o.spans

is_mark_BinOp : (o : BinOp-m.the_data) → syntax_of_BinOp o ≡ syntax_of_mark (text_of_BinOp o) (spans_of_BinOp o)
is_mark_BinOp (BinOp-m.Add o) = refl
is_mark_BinOp (BinOp-m.Sub o) = refl
is_mark_BinOp (BinOp-m.Mul o) = refl
is_mark_BinOp (BinOp-m.Div o) = refl
is_mark_BinOp (BinOp-m.Rem o) = refl
is_mark_BinOp (BinOp-m.And o) = refl
is_mark_BinOp (BinOp-m.Or o) = refl
is_mark_BinOp (BinOp-m.BitXor o) = refl
is_mark_BinOp (BinOp-m.BitAnd o) = refl
is_mark_BinOp (BinOp-m.BitOr o) = refl
is_mark_BinOp (BinOp-m.Shl o) = refl
is_mark_BinOp (BinOp-m.Shr o) = refl
is_mark_BinOp (BinOp-m.Eq o) = refl
is_mark_BinOp (BinOp-m.Lt o) = refl
is_mark_BinOp (BinOp-m.Le o) = refl
is_mark_BinOp (BinOp-m.Ne o) = refl
is_mark_BinOp (BinOp-m.Ge o) = refl
is_mark_BinOp (BinOp-m.Gt o) = refl
is_mark_BinOp (BinOp-m.AddAssign o) = refl
is_mark_BinOp (BinOp-m.SubAssign o) = refl
is_mark_BinOp (BinOp-m.MulAssign o) = refl
is_mark_BinOp (BinOp-m.DivAssign o) = refl
is_mark_BinOp (BinOp-m.RemAssign o) = refl
is_mark_BinOp (BinOp-m.BitXorAssign o) = refl
is_mark_BinOp (BinOp-m.BitAndAssign o) = refl
is_mark_BinOp (BinOp-m.BitOrAssign o) = refl
is_mark_BinOp (BinOp-m.ShlAssign o) = refl
is_mark_BinOp (BinOp-m.ShrAssign o) = refl

is_placed_BinOp : (o : BinOp-m.the_data) → placed_BinOp o → length (spans_of_BinOp o) ≡ length (text_of_BinOp o)
is_placed_BinOp (BinOp-m.Add o) h = h
is_placed_BinOp (BinOp-m.Sub o) h = h
is_placed_BinOp (BinOp-m.Mul o) h = h
is_placed_BinOp (BinOp-m.Div o) h = h
is_placed_BinOp (BinOp-m.Rem o) h = h
is_placed_BinOp (BinOp-m.And o) h = h
is_placed_BinOp (BinOp-m.Or o) h = h
is_placed_BinOp (BinOp-m.BitXor o) h = h
is_placed_BinOp (BinOp-m.BitAnd o) h = h
is_placed_BinOp (BinOp-m.BitOr o) h = h
is_placed_BinOp (BinOp-m.Shl o) h = h
is_placed_BinOp (BinOp-m.Shr o) h = h
is_placed_BinOp (BinOp-m.Eq o) h = h
is_placed_BinOp (BinOp-m.Lt o) h = h
is_placed_BinOp (BinOp-m.Le o) h = h
is_placed_BinOp (BinOp-m.Ne o) h = h
is_placed_BinOp (BinOp-m.Ge o) h = h
is_placed_BinOp (BinOp-m.Gt o) h = h
is_placed_BinOp (BinOp-m.AddAssign o) h = h
is_placed_BinOp (BinOp-m.SubAssign o) h = h
is_placed_BinOp (BinOp-m.MulAssign o) h = h
is_placed_BinOp (BinOp-m.DivAssign o) h = h
is_placed_BinOp (BinOp-m.RemAssign o) h = h
is_placed_BinOp (BinOp-m.BitXorAssign o) h = h
is_placed_BinOp (BinOp-m.BitAndAssign o) h = h
is_placed_BinOp (BinOp-m.BitOrAssign o) h = h
is_placed_BinOp (BinOp-m.ShlAssign o) h = h
is_placed_BinOp (BinOp-m.ShrAssign o) h = h

bounded_BinOp : (o : BinOp-m.the_data) → number_of_BinOp o < 28
bounded_BinOp (BinOp-m.Add o) = omega arith
bounded_BinOp (BinOp-m.Sub o) = omega arith
bounded_BinOp (BinOp-m.Mul o) = omega arith
bounded_BinOp (BinOp-m.Div o) = omega arith
bounded_BinOp (BinOp-m.Rem o) = omega arith
bounded_BinOp (BinOp-m.And o) = omega arith
bounded_BinOp (BinOp-m.Or o) = omega arith
bounded_BinOp (BinOp-m.BitXor o) = omega arith
bounded_BinOp (BinOp-m.BitAnd o) = omega arith
bounded_BinOp (BinOp-m.BitOr o) = omega arith
bounded_BinOp (BinOp-m.Shl o) = omega arith
bounded_BinOp (BinOp-m.Shr o) = omega arith
bounded_BinOp (BinOp-m.Eq o) = omega arith
bounded_BinOp (BinOp-m.Lt o) = omega arith
bounded_BinOp (BinOp-m.Le o) = omega arith
bounded_BinOp (BinOp-m.Ne o) = omega arith
bounded_BinOp (BinOp-m.Ge o) = omega arith
bounded_BinOp (BinOp-m.Gt o) = omega arith
bounded_BinOp (BinOp-m.AddAssign o) = omega arith
bounded_BinOp (BinOp-m.SubAssign o) = omega arith
bounded_BinOp (BinOp-m.MulAssign o) = omega arith
bounded_BinOp (BinOp-m.DivAssign o) = omega arith
bounded_BinOp (BinOp-m.RemAssign o) = omega arith
bounded_BinOp (BinOp-m.BitXorAssign o) = omega arith
bounded_BinOp (BinOp-m.BitAndAssign o) = omega arith
bounded_BinOp (BinOp-m.BitOrAssign o) = omega arith
bounded_BinOp (BinOp-m.ShlAssign o) = omega arith
bounded_BinOp (BinOp-m.ShrAssign o) = omega arith

-- their texts are all different
abbrev test_BinOp : ℕ → ℕ → Bool
test_BinOp i j = same_bool (same_text (get_or texts_of_BinOp i []) (get_or texts_of_BinOp j [])) (nat_eq i j)

same_texts_BinOp : (o p : BinOp-m.the_data) → same_text (text_of_BinOp o) (text_of_BinOp p) ≡ nat_eq (number_of_BinOp o) (number_of_BinOp p)
same_texts_BinOp o p = known_alike _ _ (below 28 (test_BinOp (number_of_BinOp o)) (number_of_BinOp p) (bounded_BinOp p) (below 28 (λ i. all_below 28 (test_BinOp i)) (number_of_BinOp o) (bounded_BinOp o) refl))

pub same_BinOp : (o p : BinOp-m.the_data) → placed_BinOp o → placed_BinOp p → same_syntax (syntax_of_BinOp o) (syntax_of_BinOp p) ≡ nat_eq (number_of_BinOp o) (number_of_BinOp p)
same_BinOp o p h k = ap₂ same_syntax (is_mark_BinOp o) (is_mark_BinOp p) ∙ same_marks (text_of_BinOp o) (text_of_BinOp p) (spans_of_BinOp o) (spans_of_BinOp p) (is_placed_BinOp o h) (is_placed_BinOp p k) ∙ same_texts_BinOp o p

-- SIGNS

-- the characters of each, by its number
abbrev texts_of_UnOp : List Text
texts_of_UnOp = (42 ∷ []) ∷ (33 ∷ []) ∷ (45 ∷ []) ∷ []

abbrev text_of_UnOp : UnOp-m.the_data → Text
text_of_UnOp o = get_or texts_of_UnOp (number_of_UnOp o) []

abbrev spans_of_UnOp : UnOp-m.the_data → List TokenSpan
spans_of_UnOp (UnOp-m.Deref o) = o.spans
spans_of_UnOp (UnOp-m.Not o) = o.spans
spans_of_UnOp (UnOp-m.Neg o) = o.spans

is_mark_UnOp : (o : UnOp-m.the_data) → syntax_of_UnOp o ≡ syntax_of_mark (text_of_UnOp o) (spans_of_UnOp o)
is_mark_UnOp (UnOp-m.Deref o) = refl
is_mark_UnOp (UnOp-m.Not o) = refl
is_mark_UnOp (UnOp-m.Neg o) = refl

is_placed_UnOp : (o : UnOp-m.the_data) → placed_UnOp o → length (spans_of_UnOp o) ≡ length (text_of_UnOp o)
is_placed_UnOp (UnOp-m.Deref o) h = h
is_placed_UnOp (UnOp-m.Not o) h = h
is_placed_UnOp (UnOp-m.Neg o) h = h

bounded_UnOp : (o : UnOp-m.the_data) → number_of_UnOp o < 3
bounded_UnOp (UnOp-m.Deref o) = omega arith
bounded_UnOp (UnOp-m.Not o) = omega arith
bounded_UnOp (UnOp-m.Neg o) = omega arith

-- their texts are all different
abbrev test_UnOp : ℕ → ℕ → Bool
test_UnOp i j = same_bool (same_text (get_or texts_of_UnOp i []) (get_or texts_of_UnOp j [])) (nat_eq i j)

same_texts_UnOp : (o p : UnOp-m.the_data) → same_text (text_of_UnOp o) (text_of_UnOp p) ≡ nat_eq (number_of_UnOp o) (number_of_UnOp p)
same_texts_UnOp o p = known_alike _ _ (below 3 (test_UnOp (number_of_UnOp o)) (number_of_UnOp p) (bounded_UnOp p) (below 3 (λ i. all_below 3 (test_UnOp i)) (number_of_UnOp o) (bounded_UnOp o) refl))

pub same_UnOp : (o p : UnOp-m.the_data) → placed_UnOp o → placed_UnOp p → same_syntax (syntax_of_UnOp o) (syntax_of_UnOp p) ≡ nat_eq (number_of_UnOp o) (number_of_UnOp p)
same_UnOp o p h k = ap₂ same_syntax (is_mark_UnOp o) (is_mark_UnOp p) ∙ same_marks (text_of_UnOp o) (text_of_UnOp p) (spans_of_UnOp o) (spans_of_UnOp p) (is_placed_UnOp o h) (is_placed_UnOp p k) ∙ same_texts_UnOp o p
