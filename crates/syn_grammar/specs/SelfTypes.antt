-- The self types of impls.
use Rattle.std.specs.Prelude.{List, [], ◌∷◌}
use Rattle.syn_grammar.specs.Rules.{Rule, self_type}

-- The rules by which an impl reads the type after `for`: if the print of such a type would be parsed as generics, empty generics
-- are printed before the impl as `< >`.
abbrev pub self_types : List Rule
self_types = self_type ∷ []
