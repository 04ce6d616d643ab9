-- Texts of characters that make up identifiers.
use Rattle.std.proofs.Common.{◌≡◌, ℕ, Bool, true, false, ◌&&◌, ◌==◌, List, [], ◌∷◌, ◌++◌, drop, codes, nat_eq, refl, sym, ap, ◌∙◌, subst, true≢false, lit<, append_assoc, inl, inr}
use Rattle.std.proofs.lemmas.Bool.{eqb-true}
use Rattle.std.specs.List.{list_all}
use Rattle.std.specs.Char.{encode_utf8}
use Rattle.std.specs.Str.{IsUtf8, chars}
use Rattle.std.proofs.lemmas.List.{append_cancel_right}
use Rattle.std.proofs.lemmas.Str.{chars_past_char, encodes-chars, scalars-chars, chars-encodes}
use lib.Utf8.{scalars, encodes}
use Rattle.unicode_ident.specs.Ident.{is_xid_continue}
use Rattle.unicode_ident.proofs.IdentLemmas.{is_xid_continue-ascii}
use Rattle.syn_grammar.specs.Tokens.{and, begins_text}
use Rattle.syn_tokens.specs.Idents.{may_start, is_name, without_raw, is_identifier}
use Rattle.syn_reader.specs.Scanning.{drop_while, begins_raw_name, after_word}
use Rattle.syn_reader.specs.Places.{BeginsName}

-- `#` does not continue an identifier
pound_stops : is_xid_continue 35 ≡ true → ⊥
pound_stops e = true≢false (sym e ∙ is_xid_continue-ascii 35 (lit< tt))

second_continues : (c d : ℕ) (cs ds : List ℕ) → c ∷ d ∷ ds ≡ cs → list_all is_xid_continue (drop 1 cs) ≡ true → is_xid_continue d ≡ true
second_continues c d cs ds e h = left (is_xid_continue d) (list_all is_xid_continue ds) (ap (λ l. list_all is_xid_continue (drop 1 l)) e ∙ h)
  where
    left : (a b : Bool) → (a && b) ≡ true → a ≡ true
    left true b h = refl
    left false b h = h

-- so a text whose later characters continue an identifier doesn't start with `r#`
no_raw : (x : List ℕ) → list_all is_xid_continue (drop 1 (chars x)) ≡ true → begins_text (codes "r#") x ≡ false
unfolding chars
no_raw [] h = refl
no_raw (a ∷ []) h = go (nat_eq 114 a)
  where
    go : (u : Bool) → and u false ≡ false
    go true = refl
    go false = refl
no_raw (a ∷ b ∷ l) h = go (nat_eq 114 a) (nat_eq 35 b) refl refl
  where
    raw : (l : List ℕ) → list_all is_xid_continue (drop 1 (chars (114 ∷ 35 ∷ l))) ≡ true → ⊥
    raw [] k = pound_stops (second_continues 114 35 (chars (114 ∷ 35 ∷ [])) [] refl k)
    raw (d ∷ l) k = pound_stops (second_continues 114 35 (chars (114 ∷ 35 ∷ d ∷ l)) (chars (d ∷ l)) refl k)

    go : (u v : Bool) → nat_eq 114 a ≡ u → nat_eq 35 b ≡ v → and u (and v true) ≡ false
    go false v e f = refl
    go true false e f = refl
    go true true e f =
        let Goes : ℕ → ℕ → Type 0 = λ x y. list_all is_xid_continue (drop 1 (chars (x ∷ y ∷ l))) ≡ true in
        absurd (raw l (subst (λ (x : ℕ). Goes x 35) (sym (eqb-true 114 a e)) (subst (λ (y : ℕ). Goes a y) (sym (eqb-true 35 b f)) h)))

-- a character that may start a name, followed by such as may continue it
pub name_is : (x rest : List ℕ) (c : ℕ) → IsUtf8 x → x ≡ encode_utf8 c ++ rest → may_start c ≡ true → list_all is_xid_continue (chars rest) ≡ true → is_name (chars x) ≡ true
unfolding is_name
name_is x rest c u e s h = rw (chars_past_char x rest c u e, s, h) refl

proceeds : (cs : List ℕ) → is_name cs ≡ true → list_all is_xid_continue (drop 1 cs) ≡ true
unfolding is_name
proceeds [] h = absurd (true≢false (sym h))
proceeds (c ∷ cs) h = right (may_start c) (list_all is_xid_continue cs) h
  where
    right : (a b : Bool) → (a && b) ≡ true → b ≡ true
    right true b h = h
    right false b h = absurd (true≢false (sym h))

-- a name is an identifier
pub name_is_identifier : (x : List ℕ) → is_name (chars x) ≡ true → is_identifier x ≡ true
unfolding is_identifier without_raw
name_is_identifier x h =
    let plain : begins_text (codes "r#") x ≡ false = no_raw x (proceeds (chars x) h) in
    rw (plain, h) refl

-- `r#` and a name
raw_is_identifier : (x zs : List ℕ) → IsUtf8 x → chars x ≡ 114 ∷ 35 ∷ zs → is_name zs ≡ true → is_identifier x ≡ true
unfolding is_identifier without_raw encode_utf8
raw_is_identifier x zs u e h =
    let bytes : x ≡ 114 ∷ 35 ∷ encodes zs = sym (encodes-chars x u) ∙ ap encodes e in
    let all : scalars (114 ∷ 35 ∷ zs) ≡ true = ap scalars (sym e) ∙ scalars-chars x u in
    let name : is_name (chars (encodes zs)) ≡ true = ap is_name (chars-encodes zs all) ∙ h in
    ap is_identifier bytes ∙ name

-- the characters at the front that pass
pub record Passing (test : ℕ → Bool) (cs : List ℕ) : Type 0 where
  pub front : List ℕ
  pub all : list_all test front ≡ true
  pub split : cs ≡ front ++ drop_while test cs

passing_first : (test : ℕ → Bool) (c : ℕ) (cs : List ℕ) (b : Bool) → test c ≡ b → Passing test cs → Passing test (c ∷ cs)
passing_first test c cs true e p = record { front = c ∷ p.front; all = rw (e, p.all) refl; split = rw e (ap (λ l. c ∷ l) p.split) }
passing_first test c cs false e p = record { front = []; all = refl; split = rw e refl }

pub passing : (test : ℕ → Bool) (cs : List ℕ) → Passing test cs
passing test [] = record { front = []; all = refl; split = refl }
passing test (c ∷ cs) = passing_first test c cs (test c) refl (passing test cs)

starts : (c : ℕ) (cs : List ℕ) → may_start c ≡ true → list_all is_xid_continue cs ≡ true → is_name (c ∷ cs) ≡ true
unfolding is_name
starts c cs h g = rw (h, g) refl

-- a text that starts and continues as an identifier is one
pub word_is : (x front more : List ℕ) → IsUtf8 x → chars x ++ drop_while is_xid_continue more ≡ front ++ more → BeginsName front → is_identifier x ≡ true
word_is x front more u e begins =
    let p = passing is_xid_continue more in
    let whole : chars x ≡ front ++ p.front =
    append_cancel_right (chars x) (front ++ p.front) (drop_while is_xid_continue more)
    (e ∙ (ap (λ l. front ++ l) p.split ∙ sym (append_assoc front p.front (drop_while is_xid_continue more)))) in
    elim begins.2 as (λ _. is_identifier x ≡ true) [
      | inl plain ↦ name_is_identifier x (ap is_name (whole ∙ ap (λ l. l ++ p.front) plain) ∙ starts begins.0 p.front begins.1 p.all)
      | inr raw ↦ raw_is_identifier x (begins.0 ∷ p.front) u (whole ∙ ap (λ l. l ++ p.front) raw) (starts begins.0 p.front begins.1 p.all)
    ]

and_first : (a b : Bool) → (a && b) ≡ true → a ≡ true
and_first true b h = refl
and_first false b h = h

and_second : (a b : Bool) → (a && b) ≡ true → b ≡ true
and_second true b h = h
and_second false b h = absurd (true≢false (sym h))

-- what a raw identifier has after its `r`
pub raw_front : (cs : List ℕ) → begins_raw_name cs ≡ true → (c : ℕ) × (may_start c ≡ true) × (cs ≡ 35 ∷ c ∷ drop 1 (drop 1 cs))
unfolding begins_raw_name
raw_front [] h = absurd (true≢false (sym h))
raw_front (a ∷ []) h = absurd (true≢false (sym (and_second (a == 35) false h)))
raw_front (a ∷ b ∷ l) h = (b, and_second (a == 35) (may_start b) h, ap (λ x. x ∷ b ∷ l) (eqb-true a 35 (and_first (a == 35) (may_start b) h)))

pub raw_word : (cs es : List ℕ) → begins_raw_name cs ≡ true → es ≡ drop 1 (drop 1 cs) → drop_while is_xid_continue es ≡ after_word 114 cs
unfolding after_word
raw_word cs es h e = let f = raw_front cs h in rw (h, e) (ap (λ l. drop_while is_xid_continue (drop 1 (drop 1 l))) f.2 ∙ sym (ap (λ l. drop_while is_xid_continue (drop 2 l)) f.2))
