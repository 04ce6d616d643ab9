-- The text of a token stream once more, entry by entry: the text from an entry on depends on the entries after it and on
-- whether it follows directly, and on nothing before it.
use Rattle.std.specs.Prelude.{ℕ, Bool, false, List, [], ◌∷◌, ◌++◌, if◌then◌else◌}
use Rattle.std.specs.Char.{encode_utf8}
use Rattle.syn_grammar.specs.Tokens.{Delimiter, is_visible}
use Rattle.syn_tokens.specs.Delimiters.{delimiter_of}
use Rattle.syn_tokens.specs.Punct.{is_joint}
use Rattle.syn_tokens.specs.declared.stream.entry.Token.{Token as Entry}
use Rattle.syn_tokens.specs.declared.stream.entry.Token.TheVariants as E
use Rattle.syn_reader.specs.Spelling.{opening_delimiter, closing_delimiter}
use Rattle.syn_reader.specs.Texts.{gap}

-- the text of a group's delimiter; empty if the group is invisible
abbrev pub delimiter_text : Bool → Delimiter → List ℕ → List ℕ
delimiter_text direct d group_delimiter = if is_visible d then gap direct ++ group_delimiter else []

-- the text of one entry, including the space before it; the flag says whether it follows directly
abbrev pub entry_text : Bool → Entry → List ℕ
entry_text direct (E.Ident i) = gap direct ++ i.text
entry_text direct (E.Literal l) = gap direct ++ l.text
entry_text direct (E.Punct p) = gap direct ++ encode_utf8 p.character
entry_text direct (E.Open o) = delimiter_text direct (delimiter_of o.delimiter) (opening_delimiter (delimiter_of o.delimiter))
entry_text direct (E.Close c) = delimiter_text direct (delimiter_of c.delimiter) (closing_delimiter (delimiter_of c.delimiter))

-- whether the entry after a delimiter follows directly: never after one that is printed
abbrev pub direct_after_delimiter : Bool → Delimiter → Bool
direct_after_delimiter direct d = if is_visible d then false else direct

-- whether the entry after this one follows directly
abbrev pub direct_after : Bool → Entry → Bool
direct_after direct (E.Ident i) = false
direct_after direct (E.Literal l) = false
direct_after direct (E.Punct p) = is_joint p.spacing
direct_after direct (E.Open o) = direct_after_delimiter direct (delimiter_of o.delimiter)
direct_after direct (E.Close c) = direct_after_delimiter direct (delimiter_of c.delimiter)

-- the text of entries in sequence
abbrev pub entries_text : Bool → List Entry → List ℕ
entries_text direct [] = []
entries_text direct (e ∷ es) = entry_text direct e ++ entries_text (direct_after direct e) es
