-- WHAT IS COUNTED, kind by kind.
use Rattle.std.specs.Prelude.{ℕ, ◌+◌, ◌-◌, ◌^◌, ◌==◌, ◌||◌, List, [], map, min, length, nat_lt, string_bytes, if◌then◌else◌, slice_index_or, slice_set}
use Rattle.syn_tokens.specs.declared.literal.LitKind.TheVariants.{Str, ByteStr, CStr, Byte, Char, Int, Float}
use Rattle.token_stats.specs.declared.stats.Kind.{Kind}
use Rattle.token_stats.specs.declared.stats.Kind.TheVariants.{Identifier, Keyword, Lifetime, Mark, Literal, Parentheses, Braces, Brackets}
use Rattle.token_stats.specs.declared.stats.Row.{Row as T_Row}
use Rattle.token_stats.specs.declared.stats.Stats.{Stats}

-- how many tokens of one kind there are, and the first of their longest texts
pub record Row : Type 0 where
  pub count : ℕ
  pub longest : List ℕ

abbrev pub nothing : Row
nothing = record { count = 0; longest = [] }

-- one token more of this text; the count stops at the greatest number of 64 bits
abbrev pub with_token : List ℕ → Row → Row
with_token text r = record {
  count = min (r.count + 1) (2 ^ 64 - 1);
  longest = if (r.count == 0) || nat_lt (length r.longest) (length text) then text else r.longest;
}

-- the number of the kind's line
abbrev pub line_number : Kind → ℕ
line_number Identifier = 0
line_number Keyword = 1
line_number Lifetime = 2
line_number Mark = 3
line_number (Literal Str) = 4
line_number (Literal ByteStr) = 5
line_number (Literal CStr) = 6
line_number (Literal Byte) = 7
line_number (Literal Char) = 8
line_number (Literal Int) = 9
line_number (Literal Float) = 10
line_number Parentheses = 11
line_number Braces = 12
line_number Brackets = 13

abbrev pub row_of : T_Row → Row
row_of r = record { count = r.count; longest = string_bytes r.longest }

-- the rows, in the order of the lines
abbrev pub table_of : Stats → List Row
table_of s = map row_of s.rows

-- one token more of this kind and text, and every other kind as it was
abbrev pub counted : List Row → Kind → List ℕ → List Row
counted rows kind text = slice_set rows (line_number kind) (with_token text (slice_index_or rows (line_number kind) nothing))
