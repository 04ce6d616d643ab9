-- The prints of qualified paths.
use Rattle.std.proofs.Common.{◌≡◌, ℕ, zero, suc, ◌+◌, ◌-◌, ◌<◌, ◌≤◌, min, Bool, true, false, nat_eq, List, [], ◌∷◌, ◌++◌, map, length, drop, get_or, Option, Some, None, refl, sym, ap, ◌∙◌, arith}
use Rattle.std.proofs.lemmas.Bool.Decides.{nat_tests}
use Rattle.std.proofs.lemmas.List.{at_drop_more, drop_all}
use Rattle.syn_grammar.specs.Tokens.{Stream, end, ◌⧺◌, pick}
use Rattle.syn_grammar.specs.Grammar.{Syntax, Nothing, Node, Both, Left, Right, print}
use Rattle.syn_grammar.proofs.Streams.{append_end, append_append}
use Rattle.syn_tokens.specs.Leaves.{maybe}
use Rattle.syn_tokens.specs.Lists.{listed}
use Rattle.syn_tokens.specs.Listing.{joined_of}
use Rattle.syn_tokens.specs.Rows.{row}
use Rattle.syn_tokens.proofs.Rows.{joined_row}
use Rattle.syn_lower.specs.QualifiedPaths.{part, surplus, words_in, separator_after, words_after, qualified}
use Rattle.syn_lower.specs.QualifiedPrints.{word_part, words_row}

pub print_part : {X : Type 0} (v : X → Syntax) (o : Option X) → print (part (maybe v o)) ≡ print (maybe v o)
print_part v (Some x) = refl
print_part v None = refl

print_surplus : (n : ℕ) → print (surplus n) ≡ end
print_surplus zero = refl
print_surplus (suc n) = refl

several : (n : ℕ) → 2 ≤ n → nat_eq n 1 ≡ false
several n h = grind (arith, h, nat_tests)

module _ {T P : Type 0} (v : T → Syntax) (w : P → Syntax) (gt : Stream) where
  none_inside : (t : T) → word_part v gt 0 t ≡ print (v t)
  unfolding word_part
  none_inside t = append_end (print (v t))

  last_inside : (t : T) → word_part v gt 1 t ≡ print (v t) ⧺ gt
  unfolding word_part
  last_inside t = refl

  more_inside : (n : ℕ) (t : T) → 2 ≤ n → word_part v gt n t ≡ print (v t)
  unfolding word_part
  more_inside n t h = ap (λ b. print (v t) ⧺ pick b gt end) (several n h) ∙ append_end (print (v t))

  row_following : (l : List (T × P)) (o : Option T) → words_row v w gt 0 l o ≡ row v w l o
  row_following [] None = refl
  row_following [] (Some t) = none_inside t
  row_following (x ∷ l) o = ap (λ s. s ⧺ (print (w x.1) ⧺ words_row v w gt 0 l o)) (none_inside x.0) ∙ ap (λ s. print (v x.0) ⧺ (print (w x.1) ⧺ s)) (row_following l o)

  abbrev number : List (T × P) → Option T → ℕ
  number l o = length (map (λ p. p.0) l ++ listed o)

  -- the words inside, `>`, the mark after them and the others
  abbrev cut_print : ℕ → Syntax → Stream
  cut_print n s = print (words_in n s) ⧺ (gt ⧺ (print (separator_after n s) ⧺ print (words_after n s)))

  -- of one word alone, with a mark after it or without
  cut_last : (n k : ℕ) (t : T) → k ≡ 1 → cut_print n (joined_of {P = P} v w [] (Some t)) ≡ words_row v w gt k [] (Some t)
  cut_last zero k t e = ap (λ s. s ⧺ (gt ⧺ end)) (append_end (print (v t))) ∙ ap (λ s. print (v t) ⧺ s) (append_end gt) ∙ sym (last_inside t) ∙ ap (λ j. word_part v gt j t) (sym e)
  cut_last (suc n) k t e = ap (λ s. s ⧺ (gt ⧺ end)) (append_end (print (v t))) ∙ ap (λ s. print (v t) ⧺ s) (append_end gt) ∙ sym (last_inside t) ∙ ap (λ j. word_part v gt j t) (sym e)

  cut_here : (k : ℕ) (x : T × P) (l : List (T × P)) (o : Option T) (s : Stream) → k ≡ 1 → s ≡ words_row v w gt 0 l o →
      (print (v x.0) ⧺ end) ⧺ (gt ⧺ (print (w x.1) ⧺ s)) ≡ words_row v w gt k (x ∷ l) o
  cut_here k x l o s e f =
      ap (λ a. a ⧺ (gt ⧺ (print (w x.1) ⧺ s))) (append_end (print (v x.0)))
      ∙ sym (append_append (print (v x.0)) gt (print (w x.1) ⧺ s))
      ∙ ap (λ a. a ⧺ (print (w x.1) ⧺ s)) (sym (last_inside x.0))
      ∙ ap (λ r. word_part v gt 1 x.0 ⧺ (print (w x.1) ⧺ r)) f
      ∙ ap (λ j. words_row v w gt j (x ∷ l) o) (sym e)

  cut_later : (n k : ℕ) (x : T × P) (l : List (T × P)) (o : Option T) → 2 ≤ k → cut_print n (joined_of v w l o) ≡ words_row v w gt (k - 1) l o →
      (print (v x.0) ⧺ (print (w x.1) ⧺ print (words_in n (joined_of v w l o)))) ⧺ (gt ⧺ (print (separator_after n (joined_of v w l o)) ⧺ print (words_after n (joined_of v w l o)))) ≡ words_row v w gt k (x ∷ l) o
  cut_later n k x l o h e =
      append_append (print (v x.0)) _ _ ∙ ap (λ s. print (v x.0) ⧺ s) (append_append (print (w x.1)) _ _)
      ∙ ap (λ s. print (v x.0) ⧺ (print (w x.1) ⧺ s)) e
      ∙ ap (λ s. s ⧺ (print (w x.1) ⧺ words_row v w gt (k - 1) l o)) (sym (more_inside k x.0 h))

  cut_row : (n k : ℕ) (l : List (T × P)) (o : Option T) → k ≡ min (suc n) (number l o) → 0 < number l o → cut_print n (joined_of v w l o) ≡ words_row v w gt k l o
  cut_row n k [] None e h = absurd (omega arith)
  cut_row n k [] (Some t) e h = cut_last n k t (omega (arith, e))
  cut_row zero k (x ∷ l) o e h = cut_here k x l o (print (joined_of v w l o)) (omega (arith, e)) (joined_row v w l o ∙ sym (row_following l o))
  cut_row (suc n) k (x ∷ []) None e h = cut_here k x [] None end (omega (arith, e)) refl
  cut_row (suc n) k (x ∷ []) (Some t) e h = cut_later n k x [] (Some t) (omega (arith, e)) (cut_row n (k - 1) [] (Some t) (omega (arith, e)) (omega arith))
  cut_row (suc n) k (x ∷ y ∷ l) o e h = cut_later n k x (y ∷ l) o (omega (arith, e)) (cut_row n (k - 1) (y ∷ l) o (omega (arith, e)) (omega arith))

  -- what is left of the words, one step on
  pub words_step : (n : ℕ) (l : List (T × P)) (o : Option T) (i : ℕ) (d : T × P) → i < length l →
      words_row v w gt n (drop i l) o ≡ word_part v gt n (get_or l i d).0 ⧺ (print (w (get_or l i d).1) ⧺ words_row v w gt (n - 1) (drop (i + 1) l) o)
  words_step n l o i d h = at_drop_more (λ m. words_row v w gt n m o) l i d h

  pub words_done : (n : ℕ) (l : List (T × P)) (o : Option T) (i : ℕ) → length l ≤ i → words_row v w gt n (drop i l) o ≡ words_row v w gt n [] o
  words_done n l o i h = ap (λ m. words_row v w gt n m o) (drop_all i l h)

-- AFTER THE TYPE

module _ {T P : Type 0} (v : T → Syntax) (w : P → Syntax) where
  pub print_no_word_inside : (n : ℕ) (as_token gt leading : Syntax) (l : List (T × P)) (o : Option T) → min n (length (map (λ p. p.0) l ++ listed o)) ≡ 0 →
      print (qualified n as_token gt leading (joined_of v w l o)) ≡ print gt ⧺ (print (part leading) ⧺ print (joined_of v w l o))
  print_no_word_inside zero as_token gt leading l o e = refl
  print_no_word_inside (suc n) as_token gt leading [] None e = refl
  print_no_word_inside (suc n) as_token gt leading [] (Some t) e = absurd (omega (arith, e))
  print_no_word_inside (suc n) as_token gt leading (x ∷ l) o e = absurd (omega (arith, e))

  inside_first : (a b c d : Stream) → (a ⧺ (b ⧺ c)) ⧺ d ≡ a ⧺ (b ⧺ (c ⧺ d))
  inside_first a b c d = append_append a (b ⧺ c) d ∙ ap (λ s. a ⧺ s) (append_append b c d)

  pub print_words_inside : (n : ℕ) (as_token gt leading : Syntax) (l : List (T × P)) (o : Option T) → 0 < min n (length (map (λ p. p.0) l ++ listed o)) →
      print (qualified n as_token gt leading (joined_of v w l o)) ≡ print (part as_token) ⧺ (print leading ⧺ words_row v w (print gt) (min n (length (map (λ p. p.0) l ++ listed o))) l o)
  print_words_inside zero as_token gt leading l o h = absurd (omega (arith, h))
  print_words_inside (suc n) as_token gt leading [] None h = absurd (omega (arith, h))
  print_words_inside (suc n) as_token gt leading [] (Some t) h =
      inside_first (print (part as_token)) (print leading) _ _ ∙ ap (λ s. print (part as_token) ⧺ (print leading ⧺ s)) (cut_row v w (print gt) n _ [] (Some t) refl (omega arith))
  print_words_inside (suc n) as_token gt leading (x ∷ l) o h =
      inside_first (print (part as_token)) (print leading) _ _ ∙ ap (λ s. print (part as_token) ⧺ (print leading ⧺ s)) (cut_row v w (print gt) n _ (x ∷ l) o refl (omega arith))
