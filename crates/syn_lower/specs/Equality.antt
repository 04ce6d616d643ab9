-- THE RESULT OF `==` ON TREES, of every type: true exactly where the trees are equal once every span is 0 to 0.
use Rattle.std.specs.Prelude.{◌≡◌, ◌↔◌, Bool, IsTrue}
use Rattle.syn_grammar.specs.Tokens.{plain}
use Rattle.syn_grammar.specs.Grammar.{Syntax, plain_syntax, print}
use Rattle.syn_grammar.specs.Same.{same_syntax}

module _ {A : Type 0} (view : A → Syntax) (a b : A) (answer : Bool) where
  -- it is the test of the grammar
  abbrev pub IsSame : Type 0
  IsSame = answer ≡ same_syntax (view a) (view b)

  -- it is true exactly where they are equal, spans aside
  abbrev pub IsEqual : Type 0
  IsEqual = IsTrue answer ↔ (plain_syntax (view a) ≡ plain_syntax (view b))

  -- where it is true, they print alike, spans aside
  abbrev pub PrintsAlike : Type 0
  PrintsAlike = IsTrue answer → plain (print (view a)) ≡ plain (print (view b))
