-- The first characters of literals, comments and identifiers.
use Rattle.std.proofs.Common.{◌≡◌, ℕ, Bool, true, false, ◌&&◌, ◌||◌, ◌==◌, ◌<◌, List, ◌∷◌, refl, sym, ap, ◌∙◌, true≢false, lit<}
use Rattle.std.proofs.lemmas.Bool.{eqb-true}
use Rattle.std.specs.Char.{is_ascii_digit, is_ascii_alphabetic}
use Rattle.unicode_ident.specs.Ident.{is_xid_start, is_xid_continue}
use Rattle.unicode_ident.proofs.IdentLemmas.{is_xid_start-ascii}
use Rattle.syn_tokens.specs.Idents.{may_start}
use Rattle.syn_tokens.specs.Punct.{is_punct_character}
use Rattle.syn_reader.specs.Scanning.{Absent, first_passes, is_comment_sign, drop_while, begins_comment, begins_raw_name, after_word, begins_raw_string, begins_byte, closed, after_quote, after_raw_string, raw_string_at, prefixed_at, after_b, literal_from, lettered, number_at}
use Rattle.syn_tokens.specs.declared.literal.LitKind.TheVariants.{Str, ByteStr, CStr}

-- a character that passes differs from one that doesn't
apart : (test : ℕ → Bool) (c d : ℕ) → test c ≡ true → test d ≡ false → (c == d) ≡ false
apart test c d h g = go (c == d) refl
  where
    go : (b : Bool) → (c == d) ≡ b → b ≡ false
    go true e = absurd (true≢false (sym h ∙ (ap test (eqb-true c d e) ∙ g)))
    go false e = refl

pub differs : (c d : ℕ) → (c ≡ d → ⊥) → (c == d) ≡ false
differs c d h = go (c == d) refl
  where
    go : (b : Bool) → (c == d) ≡ b → b ≡ false
    go true e = absurd (h (eqb-true c d e))
    go false e = refl

pub digit_from : (c : ℕ) (cs : List ℕ) → is_ascii_digit c ≡ true → literal_from c cs ≡ number_at c cs
unfolding literal_from
digit_from c cs h = rw (apart is_ascii_digit c 34 h refl, apart is_ascii_digit c 39 h refl, h) refl

pub name_from : (c : ℕ) (cs : List ℕ) → may_start c ≡ true → is_ascii_digit c ≡ false → literal_from c cs ≡ lettered c cs
unfolding literal_from
name_from c cs h d = rw (apart may_start c 34 h (is_xid_start-ascii 34 (lit< tt)), apart may_start c 39 h (is_xid_start-ascii 39 (lit< tt)), d) refl

pub mark_from : (c : ℕ) (cs : List ℕ) → is_punct_character c ≡ true → (c == 39) ≡ false → is_ascii_digit c ≡ false → literal_from c cs ≡ Absent
unfolding literal_from lettered is_punct_character
mark_from c cs h a d =
    rw (apart is_punct_character c 34 h refl, a, d, apart is_punct_character c 114 h refl, apart is_punct_character c 98 h refl, apart is_punct_character c 99 h refl) refl

-- no literal starts with any other letter
pub other_letter : (c : ℕ) (cs : List ℕ) → may_start c ≡ true → is_ascii_digit c ≡ false → (c ≡ 114 → ⊥) → (c ≡ 98 → ⊥) → (c ≡ 99 → ⊥) → literal_from c cs ≡ Absent
unfolding lettered
other_letter c cs h d r b s = name_from c cs h d ∙ (rw (differs c 114 r, differs c 98 b, differs c 99 s) refl)

pub quote_from : (cs : List ℕ) → literal_from 34 cs ≡ closed Str (after_quote 34 cs)
unfolding literal_from
quote_from cs = refl

-- after `c`, `b` and `r`
pub c_from : (cs : List ℕ) → literal_from 99 cs ≡ prefixed_at CStr cs
unfolding literal_from lettered
c_from cs = refl

pub b_from : (cs : List ℕ) → begins_byte cs ≡ false → literal_from 98 cs ≡ prefixed_at ByteStr cs
unfolding literal_from lettered after_b
b_from cs h = rw h refl

pub r_from : (cs : List ℕ) → begins_raw_string cs ≡ true → literal_from 114 cs ≡ closed Str (after_raw_string 0 cs)
unfolding literal_from lettered raw_string_at
r_from cs h = rw h refl

pub r_absent : (cs : List ℕ) → begins_raw_string cs ≡ false → literal_from 114 cs ≡ Absent
unfolding literal_from lettered raw_string_at
r_absent cs h = rw h refl

-- letters may start identifiers
pub letter_starts : (c : ℕ) → c < 128 → is_ascii_alphabetic c ≡ true → may_start c ≡ true
letter_starts c l h = go (c == 95)
  where
    go : (b : Bool) → (b || is_xid_start c) ≡ true
    go true = refl
    go false = is_xid_start-ascii c l ∙ h

-- a comment starts with `/`
pub comment_slash : (c : ℕ) (cs : List ℕ) → begins_comment (c ∷ cs) ≡ true → c ≡ 47
unfolding begins_comment
comment_slash c cs h = eqb-true c 47 (first (c == 47) (first_passes is_comment_sign cs) h)
  where
    first : (a b : Bool) → (a && b) ≡ true → a ≡ true
    first true b e = refl
    first false b e = e

-- an identifier that isn't raw
pub plain_word : (c : ℕ) (cs : List ℕ) → ((c == 114) && begins_raw_name cs) ≡ false → drop_while is_xid_continue cs ≡ after_word c cs
unfolding after_word
plain_word c cs h = rw h refl

pub other_word : (c : ℕ) (cs : List ℕ) → (c ≡ 114 → ⊥) → drop_while is_xid_continue cs ≡ after_word c cs
other_word c cs h = plain_word c cs (rw (differs c 114 h) refl)
