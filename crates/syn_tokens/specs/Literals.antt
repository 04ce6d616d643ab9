-- Literals, and their kinds in the grammar.
use Rattle.std.specs.Prelude.{ℕ, List, ◌∷◌}
use Rattle.syn_grammar.specs.Tokens as grammar
use Rattle.syn_tokens.specs.declared.span.Span.{Span}
use Rattle.syn_tokens.specs.declared.literal.LitKind.{LitKind}
use Rattle.syn_tokens.specs.declared.literal.LitKind.TheVariants.{Str, ByteStr, CStr, Byte, Char, Int, Float}

-- a literal, as callers see it
pub record LiteralValue : Type 0 where
  pub kind : LitKind
  pub text : List ℕ
  pub span : Span

abbrev pub kind_of : LitKind → grammar.LitKind
kind_of Str = grammar.Str
kind_of ByteStr = grammar.ByteStr
kind_of CStr = grammar.CStr
kind_of Byte = grammar.Byte
kind_of Char = grammar.Char
kind_of Int = grammar.Int
kind_of Float = grammar.Float

abbrev pub number_of : LitKind → ℕ
number_of k = grammar.kind_number (kind_of k)

-- what two equal literals have in common
abbrev pub spelling : LiteralValue → List ℕ
spelling l = number_of l.kind ∷ l.text
