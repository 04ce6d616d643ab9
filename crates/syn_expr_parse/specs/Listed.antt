-- A LIST OF STATEMENTS, as far as it was read.
use Rattle.std.specs.Prelude.{Bool, true, false, List, [], ◌∷◌}
use Rattle.syn_grammar.specs.Grammar.{Syntax}
use Rattle.syn_expr_parse.specs.StatementForms.{before_others}
use Rattle.syn_expr_parse.specs.declared.parsing.stmts.Place.TheVariants as Place-m

-- these statements, before others
abbrev pub statements_before : {S : Type 0} → (S → Syntax) → List S → Syntax → Syntax
statements_before view [] l = l
statements_before view (s ∷ more) l = before_others (view s) (statements_before view more l)

abbrev pub is_listed : Place-m.the_data → Bool
is_listed Place-m.Alone = false
is_listed Place-m.Listed = true
