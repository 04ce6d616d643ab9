-- WHETHER A STREAM CONTAINS AN INVISIBLE GROUP, decided from its entries.
use Rattle.std.specs.Prelude.{Bool, true, false, List, [], ◌∷◌}
use Rattle.syn_grammar.specs.Tokens.{or}
use Rattle.syn_tokens.specs.declared.delimiter.Delimiter.{Delimiter}
use Rattle.syn_tokens.specs.declared.delimiter.Delimiter.TheVariants as D
use Rattle.syn_tokens.specs.declared.stream.entry.Token.{Token as Entry}
use Rattle.syn_tokens.specs.declared.stream.entry.Token.TheVariants as E

abbrev pub is_hidden : Delimiter → Bool
is_hidden D.None = true
is_hidden d = false

abbrev pub is_invisible : Entry → Bool
is_invisible (E.Open o) = is_hidden o.delimiter
is_invisible e = false

abbrev pub invisible_in : List Entry → Bool
invisible_in [] = false
invisible_in (e ∷ l) = or (is_invisible e) (invisible_in l)
