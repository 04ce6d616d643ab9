-- What comes first, or doesn't: in entries, and in a stream.
use Rattle.std.specs.Prelude.{Bool, false}
use Rattle.syn_grammar.specs.Tokens.{ident, Stream, leaf, punct}
use Rattle.syn_grammar.specs.Take.{same_delimiter}
use Rattle.syn_tokens.specs.Delimiters.{delimiter_of}
use Rattle.syn_tokens.specs.declared.delimiter.Delimiter.{Delimiter}
use Rattle.syn_tokens.specs.declared.stream.entry.Token.{Token as Entry}
use Rattle.syn_tokens.specs.declared.stream.entry.Token.TheVariants as E

-- the entry is not an identifier; not a character of a mark
abbrev pub IsNoIdent : Entry → Type 0
IsNoIdent (E.Ident i) = ⊥
IsNoIdent _ = Unit {0}

abbrev pub IsNoPunct : Entry → Type 0
IsNoPunct (E.Punct p) = ⊥
IsNoPunct _ = Unit {0}

-- the entry is the opening delimiter of a group with these delimiters
abbrev pub opens : Delimiter → Entry → Bool
opens d (E.Open o) = same_delimiter (delimiter_of d) (delimiter_of o.delimiter)
opens d _ = false

-- the stream starts with no identifier; with no character of a mark
abbrev pub NoIdentFirst : Stream → Type 0
NoIdentFirst (leaf (ident x) sp r) = ⊥
NoIdentFirst _ = Unit {0}

abbrev pub NoPunctFirst : Stream → Type 0
NoPunctFirst (punct c j sp r) = ⊥
NoPunctFirst _ = Unit {0}
