-- Texts of ASCII letters and `_` are identifiers.
use Rattle.std.specs.Prelude.{◌≡◌, ℕ, zero, suc, Bool, true, false, ◌&&◌, ◌||◌, ◌==◌, [], ◌∷◌, nat_lt, nat_eq, drop, codes, if◌then◌else◌, refl}
use Rattle.std.proofs.Common.{sym, ap, ◌∙◌, true≢false, subst, lit<}
use Rattle.std.proofs.lemmas.Bool.{ltb-true, eqb-true}
use Rattle.std.specs.List.{list_all}
use Rattle.std.specs.Str.{chars, IsAscii}
use Rattle.std.specs.Char.{is_ascii_alphabetic}
use Rattle.std.specs.Int.{is_in_range}
use Rattle.std.proofs.lemmas.Str.{chars-IsAscii}
use Rattle.unicode_ident.specs.Ident.{is_xid_continue}
use Rattle.unicode_ident.proofs.IdentLemmas.{is_xid_start-ascii, is_xid_continue-ascii}
use Rattle.syn_grammar.specs.Words.{Text}
use Rattle.syn_grammar.specs.Tokens.{and, or, begins_text}
use Rattle.syn_tokens.specs.Idents.{may_start, is_name, without_raw, is_identifier}

-- an ASCII letter or `_`
abbrev pub is_letter : ℕ → Bool
is_letter c = and (nat_lt c 128) (or (is_ascii_alphabetic c) (c == 95))

abbrev pub all_letters : Text → Bool
all_letters [] = true
all_letters (c ∷ l) = and (is_letter c) (all_letters l)

abbrev pub is_plain_word : Text → Bool
is_plain_word [] = false
is_plain_word (c ∷ l) = all_letters (c ∷ l)

and_left : (a b : Bool) → and a b ≡ true → a ≡ true
and_left true b e = refl
and_left false b e = absurd (true≢false (sym e))

and_right : (a b : Bool) → and a b ≡ true → b ≡ true
and_right true b e = e
and_right false b e = absurd (true≢false (sym e))

proceeds : (c : ℕ) → is_letter c ≡ true → is_xid_continue c ≡ true
proceeds c e = is_xid_continue-ascii c (ltb-true c 128 (and_left (nat_lt c 128) _ e)) ∙ go (is_in_range 48 57 c) (is_in_range 65 90 c) (is_in_range 97 122 c) (c == 95) (and_right (nat_lt c 128) _ e)
  where
    go : (d a b u : Bool) → or (a || b) u ≡ true → (((d || a) || b) || u) ≡ true
    go true a b u f = refl
    go false true b u f = refl
    go false false true u f = refl
    go false false false u f = f

starts : (c : ℕ) → is_letter c ≡ true → may_start c ≡ true
starts c e = ap (λ a. (c == 95) || a) (is_xid_start-ascii c (ltb-true c 128 (and_left (nat_lt c 128) _ e))) ∙ go (is_ascii_alphabetic c) (c == 95) (and_right (nat_lt c 128) _ e)
  where
    go : (a u : Bool) → or a u ≡ true → (u || a) ≡ true
    go true true f = refl
    go true false f = refl
    go false true f = refl
    go false false f = f

all_ascii : (l : Text) → all_letters l ≡ true → IsAscii l
all_ascii [] e i = lit< tt
all_ascii (c ∷ l) e zero = ltb-true c 128 (and_left (nat_lt c 128) _ (and_left (is_letter c) _ e))
all_ascii (c ∷ l) e (suc i) = all_ascii l (and_right (is_letter c) _ e) i

all_go_on : (l : Text) → all_letters l ≡ true → list_all is_xid_continue l ≡ true
all_go_on [] e = refl
all_go_on (c ∷ l) e = ap (λ a. a && list_all is_xid_continue l) (proceeds c (and_left (is_letter c) _ e)) ∙ all_go_on l (and_right (is_letter c) _ e)

not_raw : (c d : ℕ) (l : Text) → is_letter d ≡ true → begins_text (codes "r#") (c ∷ d ∷ l) ≡ false
not_raw c d l e = go (nat_eq 114 c) (nat_eq 35 d) refl
  where
    go : (a b : Bool) → nat_eq 35 d ≡ b → and a (and b true) ≡ false
    go false b f = refl
    go true false f = refl
    go true true f = absurd (true≢false (sym (subst (λ n. is_letter n ≡ true) (sym (eqb-true 35 d f)) e)))

no_raw : (x : Text) → all_letters x ≡ true → without_raw x ≡ x
unfolding without_raw
no_raw [] e = refl
no_raw (c ∷ []) e = go (nat_eq 114 c)
  where
    go : (b : Bool) → (if and b false then drop 2 (c ∷ []) else (c ∷ [])) ≡ c ∷ []
    go true = refl
    go false = refl
no_raw (c ∷ d ∷ l) e = ap (λ b. if b then drop 2 (c ∷ d ∷ l) else (c ∷ d ∷ l)) (not_raw c d l (and_left (is_letter d) _ (and_right (is_letter c) _ e)))

-- such a text is an identifier
pub word_is_identifier : (x : Text) → is_plain_word x ≡ true → is_identifier x ≡ true
unfolding is_identifier is_name
word_is_identifier [] e = absurd (true≢false (sym e))
word_is_identifier (c ∷ l) e =
    ap (λ y. is_name (chars y)) (no_raw (c ∷ l) e) ∙ ap is_name (chars-IsAscii (c ∷ l) (all_ascii (c ∷ l) e))
    ∙ ap (λ a. a && list_all is_xid_continue l) (starts c (and_left (is_letter c) _ e)) ∙ all_go_on l (and_right (is_letter c) _ e)
