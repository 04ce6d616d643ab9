-- The printed form of a list, whichever rule parses it.
use Rattle.std.specs.Prelude.{List, [], ◌∷◌, Option, Some, None}
use Rattle.syn_grammar.specs.Tokens.{Stream, end, ◌⧺◌}
use Rattle.syn_grammar.specs.Grammar.{Syntax, print}

module _ {T P : Type 0} (view : T → Syntax) (separator_view : P → Syntax) where
  abbrev pub row : List (T × P) → Option T → Stream
  row [] None = end
  row [] (Some t) = print (view t)
  row (x ∷ l) o = print (view x.0) ⧺ (print (separator_view x.1) ⧺ row l o)
