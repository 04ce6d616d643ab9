-- HOW LITERALS, WORDS AND COMMENTS ARE SPLIT OFF A TEXT, by its characters from a position on.
use Rattle.std.specs.Prelude.{ℕ, zero, suc, Bool, true, false, not, ◌&&◌, ◌||◌, ◌==◌, List, [], ◌∷◌, drop, if◌then◌else◌, Option, Some, None}
use Rattle.std.specs.Str.{chars}
use Rattle.std.specs.Char.{is_ascii_digit, is_ascii_alphanumeric}
use Rattle.unicode_ident.specs.Ident.{is_xid_continue}
use Rattle.syn_tokens.specs.Idents.{may_start}
use Rattle.syn_tokens.specs.declared.literal.LitKind.{LitKind}
use Rattle.syn_tokens.specs.declared.literal.LitKind.TheVariants.{Str, ByteStr, CStr, Byte, Char, Int, Float}

-- the characters of a text from byte i on
abbrev pub following : List ℕ → ℕ → List ℕ
following text i = chars (drop i text)

-- the first one; none at the end of the text
abbrev pub first_of : List ℕ → Option ℕ
first_of [] = None
first_of (c ∷ cs) = Some c

-- nothing, or these characters
abbrev pub where_found : Bool → List ℕ → Option (List ℕ)
where_found false cs = None
where_found true cs = Some cs

-- the first one passes the test; false if there is none
abbrev pub first_passes : (ℕ → Bool) → List ℕ → Bool
first_passes test [] = false
first_passes test (c ∷ cs) = test c

-- this character comes first
abbrev pub begins_with : ℕ → List ℕ → Bool
begins_with c = first_passes (λ d. d == c)

-- without the first ones that pass the test
abbrev pub drop_while : (ℕ → Bool) → List ℕ → List ℕ
drop_while test [] = []
drop_while test (c ∷ cs) = if test c then drop_while test cs else c ∷ cs

-- STRINGS AND CHARACTERS

-- The characters after the next such quote; a backslash escapes the character after it. None if the text ends before it.
unfoldable pub after_quote : ℕ → List ℕ → Option (List ℕ)
after_quote q [] = None
after_quote q (c ∷ []) = if c == q then Some [] else None
after_quote q (c ∷ d ∷ cs) = if c == q then Some (d ∷ cs) else if c == 92 then after_quote q cs else after_quote q (d ∷ cs)

-- there are n `#`s here
unfoldable pub has_hashes : ℕ → List ℕ → Bool
has_hashes zero cs = true
has_hashes (suc n) [] = false
has_hashes (suc n) (c ∷ cs) = c == 35 && has_hashes n cs

-- the characters after the next `"` that is followed by n `#`s, and after these
unfoldable pub after_raw : ℕ → List ℕ → Option (List ℕ)
after_raw n [] = None
after_raw n (c ∷ cs) = if c == 34 && has_hashes n cs then Some (drop n cs) else after_raw n cs

-- the characters after a raw string, from after its prefix letters and n of its `#`s
unfoldable pub after_raw_string : ℕ → List ℕ → Option (List ℕ)
after_raw_string n [] = None
after_raw_string n (c ∷ cs) = if c == 35 then after_raw_string (suc n) cs else if c == 34 then after_raw n cs else None

-- a raw string continues so after its prefix letters: any number of `#`s, and `"`
unfoldable pub begins_raw_string : List ℕ → Bool
begins_raw_string cs = begins_with 34 (drop_while (λ c. c == 35) cs)

-- a character continues so after its opening quote: a backslash, or one character and the closing quote
unfoldable pub begins_character : List ℕ → Bool
begins_character [] = false
begins_character (c ∷ cs) = c == 92 || begins_with 39 cs

-- the characters after the suffix, if there is one
unfoldable pub after_suffix : List ℕ → List ℕ
after_suffix cs = if first_passes may_start cs then drop_while is_xid_continue cs else cs

-- The literal at the start of a text: none; an unclosed one; or one of this kind, with the characters after it.
pub data Scan : Type 0 where
  Absent : Scan
  Unclosed : Scan
  Scanned : LitKind → List ℕ → Scan

-- a literal of this kind with these characters after its closing quote, if it is closed
unfoldable pub closed : LitKind → Option (List ℕ) → Scan
closed k None = Unclosed
closed k (Some cs) = Scanned k (after_suffix cs)

-- the raw string, from after its prefix letters
unfoldable pub raw_string_at : LitKind → List ℕ → Scan
raw_string_at k cs = if begins_raw_string cs then closed k (after_raw_string 0 cs) else Absent

-- the character or byte, from after its opening quote
unfoldable pub character_at : LitKind → List ℕ → Scan
character_at k cs =
    if begins_character cs then (if begins_with 92 cs then closed k (after_quote 39 cs) else closed k (Some (drop 2 cs))) else Absent

-- the string, from after its letter `b` or `c`
unfoldable pub prefixed_at : LitKind → List ℕ → Scan
prefixed_at k cs =
    if begins_with 34 cs then closed k (after_quote 34 (drop 1 cs)) else if begins_with 114 cs then raw_string_at k (drop 1 cs) else Absent

-- a byte continues so after its `b`
unfoldable pub begins_byte : List ℕ → Bool
begins_byte cs = begins_with 39 cs && begins_character (drop 1 cs)

-- the literal, from after its `b`
unfoldable pub after_b : List ℕ → Scan
after_b cs = if begins_byte cs then character_at Byte (drop 1 cs) else prefixed_at ByteStr cs

-- NUMBERS

abbrev pub is_decimal : ℕ → Bool
is_decimal c = is_ascii_digit c || c == 95

abbrev pub continues_number : ℕ → Bool
continues_number c = is_ascii_alphanumeric c || c == 95

-- the characters after the sign of an exponent, or after its letter if it has no sign; none if no digit follows
unfoldable pub after_sign : List ℕ → Option (List ℕ)
after_sign cs =
    if begins_with 43 cs || begins_with 45 cs
    then (if first_passes is_ascii_digit (drop 1 cs) then Some (drop 1 cs) else None)
    else (if first_passes is_ascii_digit (drop_while (λ c. c == 95) cs) then Some cs else None)

-- the characters after the letter of an exponent and its sign; none if there is no exponent
unfoldable pub after_exponent : List ℕ → Option (List ℕ)
after_exponent cs = if begins_with 101 cs || begins_with 69 cs then after_sign (drop 1 cs) else None

abbrev pub is_some : Option (List ℕ) → Bool
is_some None = false
is_some (Some cs) = true

abbrev pub or_else : Option (List ℕ) → List ℕ → List ℕ
or_else None cs = cs
or_else (Some ds) cs = ds

-- an exponent follows the decimal digits
unfoldable pub has_exponent : List ℕ → Bool
has_exponent cs = is_some (after_exponent (drop_while is_decimal cs))

-- no letter follows the decimal digits
unfoldable pub is_plain : List ℕ → Bool
is_plain cs = not (first_passes continues_number (drop_while is_decimal cs))

-- the characters after decimal digits, an exponent if one is allowed, and the letters and digits after them
unfoldable pub after_digits : Bool → List ℕ → List ℕ
after_digits exponents cs =
    drop_while continues_number (if exponents then or_else (after_exponent (drop_while is_decimal cs)) (drop_while is_decimal cs) else drop_while is_decimal cs)

-- the `.` of a number comes first: no other `.`, no `_` and no identifier follows it
unfoldable pub begins_fraction : List ℕ → Bool
begins_fraction cs = begins_with 46 cs && not (begins_with 46 (drop 1 cs)) && not (first_passes may_start (drop 1 cs))

-- a number without a base prefix, from after its first digit
unfoldable pub decimal_at : List ℕ → Scan
decimal_at cs =
    if begins_fraction (after_digits true cs)
    then Scanned Float (after_digits (is_plain cs) (drop 1 (after_digits true cs)))
    else Scanned (if has_exponent cs then Float else Int) (after_digits true cs)

-- a number, from after its first digit
unfoldable pub number_at : ℕ → List ℕ → Scan
number_at digit cs =
    if digit == 48 && (begins_with 120 cs || begins_with 111 cs || begins_with 98 cs) then Scanned Int (drop_while continues_number cs) else decimal_at cs

-- LITERALS, WORDS, COMMENTS

-- the literal that starts with this letter
unfoldable pub lettered : ℕ → List ℕ → Scan
lettered c cs = if c == 114 then raw_string_at Str cs else if c == 98 then after_b cs else if c == 99 then prefixed_at CStr cs else Absent

-- the literal that starts with this character
unfoldable pub literal_from : ℕ → List ℕ → Scan
literal_from c cs =
    if c == 34 then closed Str (after_quote 34 cs)
    else if c == 39 then character_at Char cs
    else if is_ascii_digit c then number_at c cs
    else lettered c cs

abbrev pub literal_at : List ℕ → Scan
literal_at [] = Absent
literal_at (c ∷ cs) = literal_from c cs

-- after `r`: `#` and an identifier
unfoldable pub begins_raw_name : List ℕ → Bool
begins_raw_name cs = begins_with 35 cs && first_passes may_start (drop 1 cs)

-- the characters after an identifier, from after its first character
unfoldable pub after_word : ℕ → List ℕ → List ℕ
after_word c cs = drop_while is_xid_continue (if c == 114 && begins_raw_name cs then drop 2 cs else cs)

-- a comment continues so after `/`
abbrev pub is_comment_sign : ℕ → Bool
is_comment_sign c = c == 47 || c == 42

-- `//` or `/*` comes first
unfoldable pub begins_comment : List ℕ → Bool
begins_comment cs = begins_with 47 cs && first_passes is_comment_sign (drop 1 cs)

-- the characters after n nested open block comments; none if one isn't closed
unfoldable pub after_blocks : ℕ → List ℕ → Option (List ℕ)
after_blocks zero cs = Some cs
after_blocks (suc n) [] = None
after_blocks (suc n) (c ∷ []) = None
after_blocks (suc n) (c ∷ d ∷ cs) =
    if c == 42 && d == 47 then after_blocks n cs
    else if c == 47 && d == 42 then after_blocks (suc (suc n)) cs
    else after_blocks (suc n) (d ∷ cs)

-- the characters after a comment, from after its first `/`; none if it isn't closed. A line comment ends before its newline.
unfoldable pub after_comment : List ℕ → Option (List ℕ)
after_comment cs = if begins_with 42 cs then after_blocks 1 (drop 1 cs) else Some (drop_while (λ c. not (c == 10)) cs)
