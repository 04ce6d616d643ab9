-- LISTS IN `< >` whose members of one form are printed first.
use Rattle.std.specs.Prelude.{Bool, List, [], ◌∷◌}
use Rattle.syn_grammar.specs.Tokens.{Span, call_site, pick}
use Rattle.syn_grammar.specs.Grammar.{Syntax, Nothing, Mark, Both, Left, Right, Node, Done, Last, More}

-- the span of a mark of one character
abbrev pub place_of : Syntax → Span
place_of (Mark (x ∷ [])) = x.1
place_of s = call_site

-- a list, where this test decides which members are printed first
abbrev pub ordered_of : (Syntax → Bool) → Syntax → Syntax
ordered_of is_first (Node (Left Nothing)) = Done
ordered_of is_first (Node (Right (Both s (Right Nothing)))) = Last (is_first s) s
ordered_of is_first (Node (Right (Both s (Left (Both comma l))))) = More (is_first s) s (place_of comma) (ordered_of is_first l)
ordered_of is_first s = s

-- a member as it is parsed: by the form of those that are printed first, or by that of the others
abbrev pub member_of : (Syntax → Bool) → Syntax → Syntax
member_of is_first s = pick (is_first s) (Left s) (Right s)

module _ {T P : Type 0} (is_first : Syntax → Bool) (view : T → Syntax) (comma_view : P → Syntax) where
  -- the pairs of an ordered list, followed by its other members
  abbrev pub ordered_onto : List (T × P) → Syntax → Syntax
  ordered_onto [] s = s
  ordered_onto (x ∷ l) s = More (is_first (view x.0)) (view x.0) (place_of (comma_view x.1)) (ordered_onto l s)
