-- Values in sequence, as syntax.
use Rattle.std.specs.Prelude.{List, [], ◌∷◌}
use Rattle.syn_grammar.specs.Grammar.{Syntax, Nothing, Both}

abbrev pub in_order : {T : Type 0} → (T → Syntax) → List T → Syntax
in_order view [] = Nothing
in_order view (x ∷ l) = Both (view x) (in_order view l)

abbrev pub pair_of : {T P : Type 0} → (T → Syntax) → (P → Syntax) → T × P → Syntax
pair_of view separator_view x = Both (view x.0) (separator_view x.1)
