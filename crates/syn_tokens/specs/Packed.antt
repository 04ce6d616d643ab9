-- How a stream stores tokens and delimiters of groups.
use Rattle.std.specs.Prelude.{◌≡◌, IsTrue}
use Rattle.syn_tokens.specs.Idents.{is_keyword}
use Rattle.syn_tokens.specs.CompactSpans.{wide}
use Rattle.syn_tokens.specs.Punct.{is_punct_character}
use Rattle.syn_tokens.specs.declared.stream.entry.Token.{Token}
use Rattle.syn_tokens.specs.declared.stream.entry.Token.TheVariants as E
use Rattle.syn_tokens.specs.declared.stream.entry.Packed.TheVariants as P
use Rattle.syn_tokens.specs.declared.stream.entry.Far.TheVariants as F

-- an entry without a compact span
abbrev pub far_token : F.the_data → Token
far_token (F.Ident i) = E.Ident i
far_token (F.Literal l) = E.Literal l
far_token (F.Punct p) = E.Punct p
far_token (F.Open o) = E.Open o
far_token (F.Close c) = E.Close c

abbrev pub unpacked : P.the_data → Token
unpacked (P.Ident keyword place text) = E.Ident (record { text = text; span = wide place })
unpacked (P.Literal kind place text) = E.Literal (record { kind = kind; text = text; span = wide place })
unpacked (P.Punct spacing character place) = E.Punct (record { character = character; spacing = spacing; span = wide place })
unpacked (P.Open delimiter place skip) = E.Open (record { delimiter = delimiter; span = wide place; skip = skip })
unpacked (P.Close delimiter place trees) = E.Close (record { delimiter = delimiter; span = wide place; trees = trees })
unpacked (P.Far far) = far_token far.value

-- the flag says whether an identifier is a keyword, and the characters of marks are allowed there
abbrev pub IsPacked : P.the_data → Type 0
IsPacked (P.Ident keyword place text) = keyword ≡ is_keyword text
IsPacked (P.Punct spacing character place) = IsTrue (is_punct_character character)
IsPacked _ = Unit {0}
