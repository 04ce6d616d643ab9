-- The conditions on operators, by their parts.
use Rattle.std.proofs.Common.{◌≡◌, Bool, true, false, List, [], ◌∷◌, ◌++◌, Option, Some, None, refl}
use Rattle.syn_grammar.specs.Tokens.{Stream, pick}
use Rattle.syn_grammar.specs.Take.{Out, sees, take_mark}
use Rattle.syn_expr_parse.specs.Levels.{Operator, arithmetic_assignments, bit_assignments, assignment_operators, first_operator}

-- of two lists
abbrev pub or_other : Option Out → Option Out → Option Out
or_other (Some o) p = Some o
or_other None p = p

first_of_two : (l m : List Operator) (ts : Stream) → first_operator (l ++ m) ts ≡ or_other (first_operator l ts) (first_operator m ts)
first_of_two [] m ts = refl
first_of_two (o ∷ l) m ts = go (sees o.0 ts) (first_of_two l m ts)
  where
    go : (b : Bool) → first_operator (l ++ m) ts ≡ or_other (first_operator l ts) (first_operator m ts) →
        pick b (Some (take_mark o.1 ts)) (first_operator (l ++ m) ts) ≡ or_other (pick b (Some (take_mark o.1 ts)) (first_operator l ts)) (first_operator m ts)
    go true ih = refl
    go false ih = ih

pub first_assignment : (ts : Stream) → first_operator assignment_operators ts ≡ or_other (first_operator arithmetic_assignments ts) (first_operator bit_assignments ts)
first_assignment ts = first_of_two arithmetic_assignments bit_assignments ts
