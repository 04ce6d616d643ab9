-- WHETHER `:` IS BEFORE A TREE of a use in braces, among the entries of a stream.
use Rattle.std.specs.Prelude.{Bool, true, false, List, [], ◌∷◌, nat_eq}
use Rattle.syn_grammar.specs.Tokens.{and, or}
use Rattle.syn_tokens.specs.declared.stream.entry.Token.{Token as Entry}
use Rattle.syn_tokens.specs.declared.stream.entry.Token.TheVariants as E

abbrev pub colon_entry : Entry → Bool
colon_entry (E.Punct p) = nat_eq p.character 58
colon_entry _ = false

-- a tree begins after it
abbrev pub begins_entry : Entry → Bool
begins_entry (E.Punct p) = nat_eq p.character 44
begins_entry (E.Open o) = true
begins_entry _ = false

-- the flag is whether a tree begins at the first of them
abbrev pub roots_in : Bool → List Entry → Bool
roots_in b [] = false
roots_in b (e ∷ l) = or (and b (colon_entry e)) (roots_in (begins_entry e) l)
