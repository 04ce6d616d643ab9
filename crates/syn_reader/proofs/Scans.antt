-- How literals are split off, one character after another.
use Rattle.std.proofs.Common.{◌≡◌, ℕ, suc, ◌+◌, ◌-◌, ◌<◌, ◌≤◌, Bool, true, false, true≢false, ◌&&◌, ◌||◌, List, [], ◌∷◌, length, drop, Some, None, Bor, refl, sym, ap, ◌∙◌, subst, arith}
use Rattle.std.specs.Prelude.{◌==◌, if◌then◌else◌}
use Rattle.std.specs.Char.{is_ascii_digit, encode_utf8}
use Rattle.std.proofs.lemmas.Bool.{eq-eqb, ne_eqb, eqb-true, cond-true, cond-false, and_from, and_left, and_right, and_parts}
use Rattle.std.proofs.lemmas.List.{length-drop, drop-drop, drop_all}
use Rattle.std.specs.Str.{chars}
use Rattle.std.proofs.lemmas.Str.{chars-nil}
use Rattle.unicode_ident.specs.Ident.{is_xid_continue}
use Rattle.syn_tokens.specs.Idents.{may_start}
use Rattle.syn_tokens.specs.declared.literal.LitKind.{LitKind}
use Rattle.syn_tokens.specs.declared.literal.LitKind.TheVariants.{Byte, Char, Int, Float}
use Rattle.syn_tokens.specs.declared.span.Span.{Span}
use Rattle.syn_tokens.specs.declared.punct.Spacing.TheVariants.{Joint}
use Rattle.syn_tokens.specs.Punct.{PunctValue}
use Rattle.syn_reader.specs.declared.reader.cursor.Cursor.{Cursor}
use Rattle.syn_reader.specs.declared.reader.lexer.Lexeme.TheVariants.{Punct}
use Rattle.syn_reader.specs.Places.{left, IsPast}
use Rattle.syn_reader.specs.Spelling.{Present}
use Rattle.syn_reader.specs.Lexemes.{IsLexemeFrom}
use Rattle.syn_reader.specs.Scanning.{following, begins_comment, first_passes, begins_with, drop_while, after_quote, has_hashes, after_raw, after_raw_string, begins_raw_string, begins_character, begins_byte, after_suffix, Absent, Scanned, closed, raw_string_at, character_at, prefixed_at, after_b, continues_number, after_sign, number_at, decimal_at, after_digits, is_plain, begins_fraction, literal_at, literal_from, lettered, begins_raw_name, after_word}

-- one step fewer remains
pub shorter : (cs ds : List ℕ) (c : ℕ) → cs ≡ c ∷ ds → length ds < length cs
shorter cs ds c e = omega (arith, ap length e)

-- and fewer still after another one
pub shorter_still : (cs ds es : List ℕ) (c : ℕ) → cs ≡ c ∷ ds → es ≡ drop 1 ds → length es < length cs
shorter_still cs ds es c e f = omega (arith, ap length e, ap length f, length-drop 1 ds)

-- nothing remains at the end
pub left_none : (text : List ℕ) (i : ℕ) → length text ≤ i → following text i ≡ []
left_none text i h = ap chars (drop_all i text h) ∙ chars-nil

-- SUFFIXES

pub suffix_there : (cs ds : List ℕ) → first_passes may_start cs ≡ true → ds ≡ drop_while is_xid_continue cs → ds ≡ after_suffix cs
unfolding after_suffix
suffix_there cs ds e f = f ∙ sym (cond-true (first_passes may_start cs) (drop_while is_xid_continue cs) cs e)

-- A QUOTE

pub quote_ends : (q : ℕ) (cs : List ℕ) → cs ≡ [] → after_quote q cs ≡ None
unfolding after_quote
quote_ends q cs e = rw e refl

here : (q : ℕ) (ds : List ℕ) → (q == q) ≡ true → after_quote q (q ∷ ds) ≡ Some ds
unfolding after_quote
here q [] e = cond-true (q == q) _ _ e
here q (d ∷ ds) e = cond-true (q == q) _ _ e

pub quote_here : (q : ℕ) (cs ds : List ℕ) (c : ℕ) → cs ≡ c ∷ ds → c ≡ q → after_quote q cs ≡ Some ds
quote_here q cs ds c e f = ap (after_quote q) (e ∙ ap (λ (x : ℕ). x ∷ ds) f) ∙ here q ds (eq-eqb q q refl)

other : (q c : ℕ) (ds : List ℕ) → (c == q) ≡ false → (c == 92) ≡ false → after_quote q (c ∷ ds) ≡ after_quote q ds
unfolding after_quote
other q c [] e f = cond-false (c == q) _ _ e
other q c (d ∷ ds) e f = cond-false (c == q) _ _ e ∙ cond-false (c == 92) _ _ f

pub quote_later : (q : ℕ) (cs ds : List ℕ) (c : ℕ) → cs ≡ c ∷ ds → (c ≡ q → ⊥) → (c ≡ 92 → ⊥) → after_quote q cs ≡ after_quote q ds
quote_later q cs ds c e f g = ap (after_quote q) e ∙ other q c ds (ne_eqb c q f) (ne_eqb c 92 g)

escaped : (q c : ℕ) (ds : List ℕ) → (c == q) ≡ false → (c == 92) ≡ true → after_quote q (c ∷ ds) ≡ after_quote q (drop 1 ds)
unfolding after_quote
escaped q c [] f g = cond-false (c == q) _ _ f
escaped q c (d ∷ ds) f g = cond-false (c == q) _ _ f ∙ cond-true (c == 92) _ _ g

-- a backslash escapes the character after it
pub quote_escaped : (q : ℕ) (cs ds es : List ℕ) (c : ℕ) → cs ≡ c ∷ ds → es ≡ drop 1 ds → (c ≡ q → ⊥) → c ≡ 92 → after_quote q cs ≡ after_quote q es
quote_escaped q cs ds es c e d f g =
    ap (after_quote q) e ∙ (escaped q c ds (ne_eqb c q f) (eq-eqb c 92 g) ∙ ap (after_quote q) (sym d))

-- HASHES

hash_taken : (n : ℕ) (cs : List ℕ) → begins_with 35 cs ≡ true → has_hashes (suc n) cs ≡ has_hashes n (drop 1 cs)
unfolding has_hashes
hash_taken n [] e = absurd (true≢false (sym e))
hash_taken n (c ∷ cs) e = ap (λ b. b && has_hashes n cs) e

hash_missing : (n : ℕ) (cs : List ℕ) → begins_with 35 cs ≡ false → has_hashes (suc n) cs ≡ false
unfolding has_hashes
hash_missing n [] e = refl
hash_missing n (c ∷ cs) e = ap (λ b. b && has_hashes n cs) e

no_hashes : (cs : List ℕ) → has_hashes 0 cs ≡ true
unfolding has_hashes
no_hashes cs = refl

-- no quote is a hash
hash_no_quote : (n : ℕ) (cs : List ℕ) → begins_with 35 cs ≡ true → after_raw n (drop 1 cs) ≡ after_raw n cs
unfolding after_raw
hash_no_quote n [] e = absurd (true≢false (sym e))
hash_no_quote n (c ∷ cs) e =
    let other : (c == 34) ≡ false = ap (λ (x : ℕ). x == 34) (eqb-true c 35 e) in
    sym (cond-false (c == 34 && has_hashes n cs) _ _ (ap (λ b. b && has_hashes n cs) other))

-- of n hashes to skip, i are skipped
pub record Hashed (n i : ℕ) (cs ds : List ℕ) : Type 0 where
  pub same : has_hashes n cs ≡ has_hashes (n - i) ds
  pub all : drop n cs ≡ drop (n - i) ds
  pub raw : (m : ℕ) → after_raw m ds ≡ after_raw m cs
  pub no_more : length ds ≤ length cs

pub hashed_none : (n : ℕ) (cs : List ℕ) → Hashed n 0 cs cs
hashed_none n cs =
    let e : n ≡ n - 0 = omega arith in
    record { same = ap (λ k. has_hashes k cs) e; all = ap (λ k. drop k cs) e; raw = λ m. refl; no_more = omega arith }

pub hashed_more : {n i : ℕ} {cs ds es : List ℕ} → Hashed n i cs ds → i < n → begins_with 35 ds ≡ true → es ≡ drop 1 ds → Hashed n (i + 1) cs es
hashed_more {n} {i} {cs} {ds} {es} h l b e =
    let less : n - i ≡ suc (n - (i + 1)) = omega arith in
    let less' : n - i ≡ 1 + (n - (i + 1)) = omega arith in
    record {
      same = h.same ∙ (ap (λ k. has_hashes k ds) less ∙ (hash_taken (n - (i + 1)) ds b ∙ ap (has_hashes (n - (i + 1))) (sym e)));
      all = h.all ∙ (ap (λ k. drop k ds) less' ∙ (sym (drop-drop (n - (i + 1)) 1 ds) ∙ ap (drop (n - (i + 1))) (sym e)));
      raw = λ m. ap (after_raw m) e ∙ (hash_no_quote m ds b ∙ h.raw m);
      no_more = omega (arith, h.no_more, ap length e, length-drop 1 ds);
    }

pub hashed_stops : {n i : ℕ} {cs ds : List ℕ} → Hashed n i cs ds → i < n → begins_with 35 ds ≡ false → has_hashes n cs ≡ false
hashed_stops {n} {i} {cs} {ds} h l b =
    let less : n - i ≡ suc (n - (i + 1)) = omega arith in
    h.same ∙ (ap (λ k. has_hashes k ds) less ∙ hash_missing (n - (i + 1)) ds b)

pub hashed_present : {n i : ℕ} {cs ds : List ℕ} → Hashed n i cs ds → n ≤ i → has_hashes n cs ≡ true
hashed_present {n} {i} {cs} {ds} h l =
    let none : n - i ≡ 0 = omega arith in
    h.same ∙ (ap (λ k. has_hashes k ds) none ∙ no_hashes ds)

pub hashed_all : {n i : ℕ} {cs ds : List ℕ} → Hashed n i cs ds → n ≤ i → ds ≡ drop n cs
hashed_all {n} {i} {cs} {ds} h l =
    let none : n - i ≡ 0 = omega arith in
    sym (h.all ∙ ap (λ k. drop k ds) none)

-- RAW STRINGS

pub raw_ends : (n : ℕ) (cs : List ℕ) → cs ≡ [] → after_raw n cs ≡ None
unfolding after_raw
raw_ends n cs e = rw e refl

raw_at : (n c : ℕ) (ds : List ℕ) → after_raw n (c ∷ ds) ≡ (if c == 34 && has_hashes n ds then Some (drop n ds) else after_raw n ds)
unfolding after_raw
raw_at n c ds = refl

pub raw_later : (n : ℕ) (cs ds : List ℕ) (c : ℕ) → cs ≡ c ∷ ds → (c ≡ 34 → ⊥) → after_raw n cs ≡ after_raw n ds
raw_later n cs ds c e f = ap (after_raw n) e ∙ (raw_at n c ds ∙ cond-false _ _ _ (and_left (c == 34) (has_hashes n ds) (ne_eqb c 34 f)))

pub raw_here : (n : ℕ) (cs ds es : List ℕ) (c : ℕ) → cs ≡ c ∷ ds → c ≡ 34 → has_hashes n ds ≡ true → es ≡ drop n ds → after_raw n cs ≡ Some es
raw_here n cs ds es c e f h d =
    ap (after_raw n) e ∙ (raw_at n c ds ∙ (cond-true _ _ _ (and_from (c == 34) (has_hashes n ds) (eq-eqb c 34 f) h) ∙ ap (λ (l : List ℕ). Some l) (sym d)))

pub raw_not_here : (n : ℕ) (cs ds es : List ℕ) (c : ℕ) → cs ≡ c ∷ ds → has_hashes n ds ≡ false → after_raw n es ≡ after_raw n ds → after_raw n cs ≡ after_raw n es
raw_not_here n cs ds es c e h s =
    ap (after_raw n) e ∙ (raw_at n c ds ∙ (cond-false _ _ _ (and_right (c == 34) (has_hashes n ds) h) ∙ sym s))

pub raw_string_ends : (n : ℕ) (cs : List ℕ) → cs ≡ [] → after_raw_string n cs ≡ None
unfolding after_raw_string
raw_string_ends n cs e = rw e refl

raw_string_from : (n c : ℕ) (ds : List ℕ) → after_raw_string n (c ∷ ds) ≡ (if c == 35 then after_raw_string (suc n) ds else if c == 34 then after_raw n ds else None)
unfolding after_raw_string
raw_string_from n c ds = refl

pub raw_string_hash : (n : ℕ) (cs ds : List ℕ) (c : ℕ) → cs ≡ c ∷ ds → c ≡ 35 → after_raw_string n cs ≡ after_raw_string (n + 1) ds
raw_string_hash n cs ds c e f =
    let more : suc n ≡ n + 1 = omega arith in
    ap (after_raw_string n) e ∙ (raw_string_from n c ds ∙ (cond-true (c == 35) _ _ (eq-eqb c 35 f) ∙ ap (λ k. after_raw_string k ds) more))

pub raw_string_quote : (n : ℕ) (cs ds : List ℕ) (c : ℕ) → cs ≡ c ∷ ds → c ≡ 34 → after_raw_string n cs ≡ after_raw n ds
raw_string_quote n cs ds c e f =
    let no_hash : (c == 35) ≡ false = ap (λ (x : ℕ). x == 35) f in
    ap (after_raw_string n) e ∙ (raw_string_from n c ds ∙ (cond-false (c == 35) _ _ no_hash ∙ cond-true (c == 34) _ _ (eq-eqb c 34 f)))

pub raw_string_none : (n : ℕ) (cs ds : List ℕ) (c : ℕ) → cs ≡ c ∷ ds → (c ≡ 35 → ⊥) → (c ≡ 34 → ⊥) → after_raw_string n cs ≡ None
raw_string_none n cs ds c e f g =
    ap (after_raw_string n) e ∙ (raw_string_from n c ds ∙ (cond-false (c == 35) _ _ (ne_eqb c 35 f) ∙ cond-false (c == 34) _ _ (ne_eqb c 34 g)))

-- CHARACTERS

pub character_escaped : (k : LitKind) (cs : List ℕ) → begins_character cs ≡ true → begins_with 92 cs ≡ true → character_at k cs ≡ closed k (after_quote 39 cs)
unfolding character_at
character_escaped k cs b e = cond-true (begins_character cs) _ _ b ∙ cond-true (begins_with 92 cs) _ _ e

pub character_plain : (k : LitKind) (cs : List ℕ) → begins_character cs ≡ true → begins_with 92 cs ≡ false → character_at k cs ≡ closed k (Some (drop 1 (drop 1 cs)))
unfolding character_at
character_plain k cs b e =
    cond-true (begins_character cs) _ _ b ∙ (cond-false (begins_with 92 cs) _ _ e ∙ ap (λ (l : List ℕ). closed k (Some l)) (sym (drop-drop 1 1 cs)))

pub no_character : (k : LitKind) (cs : List ℕ) → begins_character cs ≡ false → character_at k cs ≡ Absent
unfolding character_at
no_character k cs b = cond-false (begins_character cs) _ _ b

-- NUMBERS

pub based_number : (digit : ℕ) (cs ds : List ℕ) → digit ≡ 48 → (begins_with 120 cs || begins_with 111 cs || begins_with 98 cs) ≡ true
    → ds ≡ drop_while continues_number cs → number_at digit cs ≡ Scanned Int ds
unfolding number_at
based_number digit cs ds e b d =
    cond-true (digit == 48 && (begins_with 120 cs || begins_with 111 cs || begins_with 98 cs)) _ _ (and_from (digit == 48) _ (eq-eqb digit 48 e) b)
    ∙ ap (Scanned Int) (sym d)

-- the exponent has no sign
pub unsigned : (cs ds : List ℕ) → (begins_with 43 cs || begins_with 45 cs) ≡ false → ds ≡ drop_while (λ c. c == 95) cs
    → first_passes is_ascii_digit ds ≡ true → after_sign cs ≡ Some cs
unfolding after_sign
unsigned cs ds e d t =
    cond-false (begins_with 43 cs || begins_with 45 cs) _ _ e
    ∙ cond-true (first_passes is_ascii_digit (drop_while (λ c. c == 95) cs)) _ _ (ap (first_passes is_ascii_digit) (sym d) ∙ t)

pub no_exponent : (cs ds : List ℕ) → (begins_with 43 cs || begins_with 45 cs) ≡ false → ds ≡ drop_while (λ c. c == 95) cs
    → first_passes is_ascii_digit ds ≡ false → after_sign cs ≡ None
unfolding after_sign
no_exponent cs ds e d t =
    cond-false (begins_with 43 cs || begins_with 45 cs) _ _ e
    ∙ cond-false (first_passes is_ascii_digit (drop_while (λ c. c == 95) cs)) _ _ (ap (first_passes is_ascii_digit) (sym d) ∙ t)

pub fraction : (cs ds es fs : List ℕ) (plain : Bool) → ds ≡ after_digits true cs → begins_fraction ds ≡ true → plain ≡ is_plain cs → es ≡ drop 1 ds
    → fs ≡ after_digits plain es → decimal_at cs ≡ Scanned Float fs
unfolding decimal_at
fraction cs ds es fs plain d b p e f =
    cond-true (begins_fraction (after_digits true cs)) _ _ (ap begins_fraction (sym d) ∙ b)
    ∙ ap (Scanned Float) (sym (f ∙ (ap (λ (x : Bool). after_digits x es) p ∙ ap (after_digits (is_plain cs)) (e ∙ ap (drop 1) d))))

-- PREFIXES

pub prefixed_string : (k : LitKind) (cs : List ℕ) → begins_with 34 cs ≡ true → prefixed_at k cs ≡ closed k (after_quote 34 (drop 1 cs))
unfolding prefixed_at
prefixed_string k cs e = cond-true (begins_with 34 cs) _ _ e

pub prefixed_raw : (k : LitKind) (cs : List ℕ) → begins_with 34 cs ≡ false → (begins_with 114 cs && begins_raw_string (drop 1 cs)) ≡ true
    → prefixed_at k cs ≡ closed k (after_raw_string 0 (drop 1 cs))
unfolding prefixed_at raw_string_at
prefixed_raw k cs e f =
    let both = and_parts (begins_with 114 cs) (begins_raw_string (drop 1 cs)) f in
    cond-false (begins_with 34 cs) _ _ e ∙ (cond-true (begins_with 114 cs) _ _ both.0 ∙ cond-true (begins_raw_string (drop 1 cs)) _ _ both.1)

pub no_prefixed : (k : LitKind) (cs : List ℕ) → begins_with 34 cs ≡ false → (begins_with 114 cs && begins_raw_string (drop 1 cs)) ≡ false → prefixed_at k cs ≡ Absent
unfolding prefixed_at raw_string_at
no_prefixed k cs e f = cond-false (begins_with 34 cs) _ _ e ∙ go (begins_with 114 cs) (begins_raw_string (drop 1 cs)) f
  where
    go : (a b : Bool) → (a && b) ≡ false → (if a then (if b then closed k (after_raw_string 0 (drop 1 cs)) else Absent) else Absent) ≡ Absent
    go false b g = refl
    go true false g = refl
    go true true g = absurd (true≢false g)

-- BY THE FIRST CHARACTER

pub quote_literal : (cs ds : List ℕ) → cs ≡ 39 ∷ ds → literal_at cs ≡ character_at Char ds
unfolding literal_from
quote_literal cs ds e = ap literal_at e

pub byte_literal : (cs ds es : List ℕ) → cs ≡ 98 ∷ ds → begins_byte ds ≡ true → es ≡ drop 1 ds → literal_at cs ≡ character_at Byte es
unfolding literal_from lettered after_b
byte_literal cs ds es e b d = ap literal_at e ∙ (cond-true (begins_byte ds) _ _ b ∙ ap (character_at Byte) (sym d))

pub byte_character : (ds es : List ℕ) → begins_byte ds ≡ true → es ≡ drop 1 ds → begins_character es ≡ true
unfolding begins_byte
byte_character ds es b d = ap begins_character d ∙ (and_parts (begins_with 39 ds) _ b).1

-- a word extends as far as its characters continue it, unless it is raw
pub plain_word : (c : ℕ) (cs : List ℕ) → (c == 114) ≡ false → drop_while is_xid_continue cs ≡ after_word c cs
unfolding after_word
plain_word c cs e = ap (drop_while is_xid_continue) (sym (cond-false (c == 114 && begins_raw_name cs) (drop 2 cs) cs (and_left (c == 114) _ e)))

-- the `'` of a lifetime
pub lifetime_apostrophe : (start next : Cursor) (p : PunctValue) (s : Span) → IsPast 39 start next → Present start.text.now (encode_utf8 39) start.offset next.offset
    → begins_character (left next) ≡ false → first_passes may_start (left next) ≡ true → p ≡ record { character = 39; spacing = Joint; span = s }
    → s ≡ record { start = start.offset; end = next.offset } → IsLexemeFrom start.text.now start.offset (Punct p) next.offset
unfolding begins_comment
lifetime_apostrophe start next p s past present b n e f =
    let same : left next ≡ following start.text.now next.offset = ap (λ (t : Bor (List ℕ)). following t.now next.offset) past.0 in
    let named : first_passes may_start (following start.text.now next.offset) ≡ true = ap (first_passes may_start) (sym same) ∙ n in
    let mark : ℕ → Span → Type 0 = λ c x. IsLexemeFrom start.text.now start.offset (Punct (record { character = c; spacing = Joint; span = x })) next.offset in
    subst (λ (q : PunctValue). IsLexemeFrom start.text.now start.offset (Punct q) next.offset) (sym e)
    (subst (mark 39) (sym f) (
      (present, past.1, (named, ap begins_comment past.2, quote_literal _ _ past.2 ∙ no_character Char _ b, sym named)),
      refl,
      refl,
    ))
