-- Positions in a text.
use Rattle.std.specs.Prelude.{◌≡◌, ◌⊎◌, ◌<◌, ◌≤◌, ℕ, Bool, true, List, [], ◌∷◌, drop}
use Rattle.syn_tokens.specs.Idents.{may_start}
use Rattle.std.specs.List.{list_all}
use Rattle.std.specs.Str.{IsUtf8, chars}
use Rattle.syn_reader.specs.declared.reader.cursor.Cursor.{Cursor}
use Rattle.syn_reader.specs.Scanning.{following}
use Rattle.syn_reader.specs.Spelling.{Present}

-- the text ends with these bytes
abbrev pub EndsWith : List ℕ → List ℕ → Type 0
EndsWith text rest = (n : ℕ) × (rest ≡ drop n text)

-- the characters from byte i to byte j pass the test
pub record Skips (test : ℕ → Bool) (text : List ℕ) (i j : ℕ) : Type 0 where
  pub bytes : List ℕ
  pub utf8 : IsUtf8 bytes
  pub all : list_all test (chars bytes) ≡ true
  pub present : Present text bytes i j

-- the characters after a position
abbrev pub left : Cursor → List ℕ
left c = following c.text.now c.offset

-- the second position is in the same text, and not before the first
abbrev pub Onward : Cursor → Cursor → Type 0
Onward old new = (new.text ≡ old.text) × (old.offset ≤ new.offset)

-- the second position is after the first character at the first position, which is this one
abbrev pub IsPast : ℕ → Cursor → Cursor → Type 0
IsPast first start next = (next.text ≡ start.text) × (start.offset < next.offset) × (left start ≡ first ∷ left next)

-- the first characters of an identifier: one that may start it, optionally with `r#` before it
abbrev pub BeginsName : List ℕ → Type 0
BeginsName cs = (c : ℕ) × (may_start c ≡ true) × ((cs ≡ c ∷ []) ⊎ (cs ≡ 114 ∷ 35 ∷ c ∷ []))
