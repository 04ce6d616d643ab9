-- Equality of entries, which ignores spans.
use Rattle.std.specs.Prelude.{Bool, true, false, List, [], ◌∷◌}
use Rattle.syn_grammar.specs.Tokens.{and, same_text}
use Rattle.syn_grammar.specs.Same.{same_delimiter}
use Rattle.syn_tokens.specs.Delimiters.{delimiter_of}
use Rattle.syn_tokens.specs.Literals.{spelling}
use Rattle.syn_tokens.specs.Punct.{same_punct}
use Rattle.syn_tokens.specs.declared.stream.entry.Token.{Token as Entry}
use Rattle.syn_tokens.specs.declared.stream.entry.Token.TheVariants as E

-- the same token, or the same opening delimiter; all closing delimiters count as the same
abbrev pub same_entry : Entry → Entry → Bool
same_entry (E.Ident i) (E.Ident j) = same_text i.text j.text
same_entry (E.Literal k) (E.Literal l) = same_text (spelling k) (spelling l)
same_entry (E.Punct p) (E.Punct q) = same_punct p q
same_entry (E.Open o) (E.Open p) = same_delimiter (delimiter_of o.delimiter) (delimiter_of p.delimiter)
same_entry (E.Close c) (E.Close d) = true
same_entry _ _ = false

abbrev pub same_entries : List Entry → List Entry → Bool
same_entries [] [] = true
same_entries (e ∷ es) (f ∷ fs) = and (same_entry e f) (same_entries es fs)
same_entries _ _ = false
