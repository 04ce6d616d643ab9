-- The table of keywords holds the keywords.
use Rattle.std.proofs.Common.{◌≡◌, ℕ, zero, suc, ◌-◌, ◌<◌, Bool, true, false, ◌||◌, List, [], ◌∷◌, length, map, get_or, refl, sym, ap, ◌∙◌, if◌then◌else◌, ◌⊎◌, inl, inr, true≢false, Some, None, arith}
use Rattle.std.specs.List.{list_any, slice_get}
use Rattle.std.specs.Str.{bytes_eq}
use Rattle.std.specs.Borrow.{Bor}
use Rattle.std.specs.Int.{is_in_range}
use Rattle.syn_grammar.specs.Words.{Text, keywords}
use Rattle.syn_grammar.specs.Tokens.{or, and, same_text, one_of_texts}
use Rattle.syn_grammar.proofs.Same.{bytes_same_text}
use Rattle.syn_grammar.proofs.Sets.{same_text_eq, or_split, and_left, and_right}
use Rattle.syn_tokens.specs.Idents.{is_keyword}
use Rattle.syn_tokens.specs.Keywords.{texts, by_letter, at_place, keywords_from}
use Rattle.syn_tokens.specs.declared.ident.keyword.TheConstants.{OTHERS}

or_is : (b : Bool) (c d : Bool) → c ≡ d → (b || c) ≡ or b d
or_is true c d e = refl
or_is false c d e = e

pub among_is : (x : Text) (words : List (Bor Text)) → list_any (λ w. bytes_eq x w.now) words ≡ one_of_texts x (texts words)
among_is x [] = refl
among_is x (w ∷ ws) = ap (λ b. b || list_any (λ v. bytes_eq x v.now) ws) (bytes_same_text x w.now) ∙ or_is (same_text x w.now) _ _ (among_is x ws)

pub row_is : (n : ℕ) (rows : List (Bor (List (Bor Text)))) (d : Bor (List (Bor Text))) → n < length rows → texts (get_or rows n d).now ≡ at_place n (map (λ row. texts row.now) rows)
row_is n [] d h = absurd (omega arith)
row_is zero (r ∷ rs) d h = refl
row_is (suc n) (r ∷ rs) d h = row_is n rs d (omega arith)

-- each text of a list passes a test
abbrev all_pass : (Text → Bool) → List Text → Bool
all_pass p [] = true
all_pass p (x ∷ l) = and (p x) (all_pass p l)

abbrev all_rows_pass : (Text → Bool) → List (List Text) → Bool
all_rows_pass p [] = true
all_rows_pass p (row ∷ rows) = and (all_pass p row) (all_rows_pass p rows)

found_passes : (p : Text → Bool) (x : Text) (l : List Text) → all_pass p l ≡ true → one_of_texts x l ≡ true → p x ≡ true
found_passes p x [] a f = absurd (true≢false (sym f))
found_passes p x (y ∷ l) a f = go (found_passes p x l (and_right (p y) _ a)) (or_split (same_text x y) _ f)
  where
    go : (one_of_texts x l ≡ true → p x ≡ true) → (same_text x y ≡ true) ⊎ (one_of_texts x l ≡ true) → p x ≡ true
    go ih (inl e) = ap p (same_text_eq x y e) ∙ and_left (p y) _ a
    go ih (inr e) = ih e

row_passes : (p : Text → Bool) (n : ℕ) (rows : List (List Text)) → all_rows_pass p rows ≡ true → all_pass p (at_place n rows) ≡ true
row_passes p n [] a = refl
row_passes p zero (row ∷ rows) a = and_left (all_pass p row) _ a
row_passes p (suc n) (row ∷ rows) a = row_passes p n rows (and_right (all_pass p row) _ a)

abbrev in_row : Text → Bool
in_row [] = false
in_row (c ∷ cs) = one_of_texts (c ∷ cs) (keywords_from c)

-- a keyword is in its row, and the rows hold only keywords
keyword_in_row : (x : Text) → is_keyword x ≡ true → in_row x ≡ true
unfolding is_keyword keywords_from
keyword_in_row x e = found_passes in_row x keywords refl e

all_keywords : (c : ℕ) → all_pass is_keyword (keywords_from c) ≡ true
unfolding is_keyword keywords_from
all_keywords c = go (is_in_range 97 122 c)
  where
    go : (b : Bool) → all_pass is_keyword (if b then at_place (c - 97) by_letter else map (λ w. w.now) OTHERS) ≡ true
    go true = row_passes is_keyword (c - 97) by_letter refl
    go false = refl

same_truth : (a b : Bool) → (a ≡ true → b ≡ true) → (b ≡ true → a ≡ true) → a ≡ b
same_truth true true u v = refl
same_truth true false u v = absurd (true≢false (sym (u refl)))
same_truth false true u v = absurd (true≢false (sym (v refl)))
same_truth false false u v = refl

keyword_is : (c : ℕ) (cs : Text) → one_of_texts (c ∷ cs) (keywords_from c) ≡ is_keyword (c ∷ cs)
keyword_is c cs =
    same_truth _ _ (found_passes is_keyword (c ∷ cs) (keywords_from c) (all_keywords c)) (keyword_in_row (c ∷ cs))

-- a text is a keyword if it is in the row of its first byte
pub in_row_is : (text : Text) (c : ℕ) → Some c ≡ slice_get text 0 → (row : List Text) → row ≡ keywords_from c → one_of_texts text row ≡ is_keyword text
in_row_is [] c e row f = cc
in_row_is (x ∷ xs) c e row f = let g : c ≡ x = cc in ap (one_of_texts (x ∷ xs)) (f ∙ ap keywords_from g) ∙ keyword_is x xs

pub no_keyword : (text : Text) → None ≡ slice_get text 0 → is_keyword text ≡ false
unfolding is_keyword
no_keyword [] e = refl
no_keyword (x ∷ xs) e = cc
