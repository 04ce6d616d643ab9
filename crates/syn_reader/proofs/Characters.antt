-- The first character of a text.
use Rattle.std.proofs.Common.{◌≡◌, ℕ, Bool, true, false, true≢false, ◌&&◌, List, [], ◌∷◌, ◌++◌, Option, Some, None, refl, sym, ap, subst, ◌∙◌, arith, append_assoc, append-nil}
use Rattle.std.specs.Option.{IfSome}
use Rattle.std.specs.Char.{IsScalar, encode_utf8}
use Rattle.std.specs.Str.{IsUtf8, EmptyOrStartsWithPassing, chars}
use Rattle.std.specs.List.{list_all}
use Rattle.std.specs.Str.Pattern.{FindsPrefixBy, CutsPrefixes}
use Rattle.std.proofs.lemmas.List.Folds.{list_all-append}
use Rattle.std.proofs.lemmas.Str.{encodes-chars, scalars-chars, len_utf8_bounds, cons_from_encodes, chars-nil, chars-append, chars_past_char, IsUtf8-nil, IsUtf8-append, IsUtf8-encode, IsUtf8-past_char}
use lib.Utf8.{scalar, scalars, encodes}
use Rattle.syn_reader.specs.Scanning.{first_passes, drop_while}
use Rattle.syn_reader.specs.Spelling.{begins_by}

and_left : (a b : Bool) → (a && b) ≡ true → a ≡ true
and_left true b e = refl
and_left false b e = e

and_right : (a b : Bool) → (a && b) ≡ true → b ≡ true
and_right true b e = e
and_right false b e = absurd (true≢false (sym e))

-- the first character is not one that passes
first_fails : (test : ℕ → Bool) (cs bytes : List ℕ) → encodes cs ≡ bytes → scalars cs ≡ true
    → ((c : ℕ) (rest : List ℕ) → IsScalar c → bytes ≡ encode_utf8 c ++ rest → test c ≡ false) → first_passes test cs ≡ false
first_fails test [] bytes e s h = refl
first_fails test (c ∷ cs) bytes e s h = h c (encodes cs) (and_left _ _ s) (sym e)

-- the first character, if there is one, passes if the text is empty or starts with one that does
pub passes_there : (test : ℕ → Bool) (bytes rest : List ℕ) → IsUtf8 bytes → EmptyOrStartsWithPassing test bytes rest → (c : ℕ) (cs : List ℕ) → chars bytes ≡ c ∷ cs → test c ≡ true
passes_there test [] rest u h c cs e = let none : [] ≡ c ∷ cs = sym chars-nil ∙ e in absurd (cc)
passes_there test (b ∷ bytes) rest u h c cs e =
    let found = h (omega arith) in
    let both : found.0 ∷ chars rest ≡ c ∷ cs = sym (chars_past_char (b ∷ bytes) rest found.0 u found.2) ∙ e in
    let same : found.0 ≡ c = cc in
    subst (λ (n : ℕ). test n ≡ true) same found.1

-- what remains when all characters that pass are cut off
pub trimmed_stops : (test : ℕ → Bool) (bytes : List ℕ) → IsUtf8 bytes → (o : Option ℕ) → FindsPrefixBy test bytes o → IfSome o (λ n. n ≡ 0) → begins_by test bytes ≡ false
trimmed_stops test bytes u None h z = first_fails test (chars bytes) bytes (encodes-chars bytes u) (scalars-chars bytes u) h
trimmed_stops test bytes u (Some n) h z = absurd (omega (arith, z, h.2.ends, (len_utf8_bounds h.0).0))

-- what was cut off: characters that pass
pub record Cut (test : ℕ → Bool) (bytes rest : List ℕ) : Type 0 where
  pub front : List ℕ
  pub split : bytes ≡ front ++ rest
  pub front_utf8 : IsUtf8 front
  pub rest_utf8 : IsUtf8 rest
  pub all : list_all test (chars front) ≡ true

first_scalar : (bytes rest : List ℕ) (c : ℕ) → IsUtf8 bytes → bytes ≡ encode_utf8 c ++ rest → IsScalar c
first_scalar bytes rest c u e =
    let parts = cons_from_encodes u.0 rest c (u.1.1 ∙ e) in
    let same : scalars (c ∷ parts.0) ≡ true = ap scalars (sym parts.1) ∙ u.1.0 in
    and_left (scalar c) (scalars parts.0) same

chars_of_one : (c : ℕ) → IsScalar c → chars (encode_utf8 c) ≡ c ∷ []
chars_of_one c s = chars_past_char (encode_utf8 c) [] c (IsUtf8-encode c s) (sym (append-nil (encode_utf8 c))) ∙ ap (λ l. c ∷ l) chars-nil

one_more : (test : ℕ → Bool) (bytes middle rest : List ℕ) (c : ℕ) → Cut test bytes middle → test c ≡ true → middle ≡ encode_utf8 c ++ rest → Cut test bytes rest
one_more test bytes middle rest c h t e =
    let s : IsScalar c = first_scalar middle rest c h.rest_utf8 e in
    let both : chars (h.front ++ encode_utf8 c) ≡ chars h.front ++ (c ∷ []) =
    chars-append h.front (encode_utf8 c) h.front_utf8 ∙ ap (λ l. chars h.front ++ l) (chars_of_one c s) in
    record {
      front = h.front ++ encode_utf8 c;
      split = h.split ∙ (ap (λ m. h.front ++ m) e ∙ sym (append_assoc h.front (encode_utf8 c) rest));
      front_utf8 = IsUtf8-append h.front (encode_utf8 c) h.front_utf8 (IsUtf8-encode c s);
      rest_utf8 = IsUtf8-past_char middle rest c h.rest_utf8 e;
      all = rw (both, list_all-append test (chars h.front) (c ∷ []), h.all, t) refl;
    }

pub cut_passes : (test : ℕ → Bool) (R : List ℕ → Option ℕ → Type 0) → ((m : List ℕ) (o : Option ℕ) → R m o → FindsPrefixBy test m o)
    → (bytes : List ℕ) (ns rest : List ℕ) → IsUtf8 bytes → CutsPrefixes R bytes ns rest → Cut test bytes rest
cut_passes test R finds bytes [] rest u h = record { front = []; split = sym h; front_utf8 = IsUtf8-nil; rest_utf8 = subst IsUtf8 (sym h) u; all = rw chars-nil refl }
cut_passes test R finds bytes (n ∷ ns) rest u h =
    let found = finds h.0 (Some n) h.2 in
    one_more test bytes h.0 rest found.0 (cut_passes test R finds bytes ns h.0 u h.1) found.1 (found.2.split ∙ ap (λ r. encode_utf8 found.0 ++ r) (sym h.3))

-- the rest after the characters that pass, from the first one that doesn't
dropped : (test : ℕ → Bool) (xs ys : List ℕ) → list_all test xs ≡ true → first_passes test ys ≡ false → drop_while test (xs ++ ys) ≡ ys
dropped test [] [] h e = refl
dropped test [] (y ∷ ys) h e = rw e refl
dropped test (x ∷ xs) ys h e =
    rw (and_left (test x) (list_all test xs) h) (dropped test xs ys (and_right (test x) (list_all test xs) h) e)

pub cut_dropped : (test : ℕ → Bool) (bytes rest : List ℕ) → Cut test bytes rest → begins_by test rest ≡ false → chars rest ≡ drop_while test (chars bytes)
cut_dropped test bytes rest h e =
    sym (ap (λ b. drop_while test (chars b)) h.split ∙ (ap (drop_while test) (chars-append h.front rest h.front_utf8) ∙ dropped test (chars h.front) (chars rest) h.all e))
