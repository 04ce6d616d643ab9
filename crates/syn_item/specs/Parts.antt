-- HOW A VIEW OF AN ITEM IS MADE of the syntax of its parts, where it isn't simply all of them in print order.
use Rattle.std.specs.Prelude.{false, List, [], ◌∷◌}
use Rattle.syn_grammar.specs.Tokens.{Stream, end, ◌⧺◌}
use Rattle.syn_grammar.specs.Grammar.{Syntax, Nothing, Both, Left, Right, Node, Vanishing, Group, Unshown, print}

-- an optional part that is never printed
abbrev pub aside : Syntax → Syntax
aside (Left part) = Unshown (Left part)
aside s = Unshown Nothing

-- generics that are never printed
abbrev pub generics_aside : Syntax → Syntax
generics_aside (Both (Node (Vanishing false (Right Nothing))) (Unshown Nothing)) = Unshown Nothing
generics_aside generics = Unshown (Left generics)

-- in braces, after inner attributes
abbrev pub after_inner : Syntax → Syntax → Syntax
after_inner inner (Group d o c s) = Group d o c (Both inner s)
after_inner inner s = Both inner s

-- members in order, as a rule that continues to the end reads them
abbrev pub members_of : {T : Type 0} → (T → Syntax) → List T → Syntax
members_of view [] = Node (Left Nothing)
members_of view (x ∷ l) = Node (Right (Both (view x) (members_of view l)))

-- what is printed of them
abbrev pub members_row : {T : Type 0} → (T → Syntax) → List T → Stream
members_row view [] = end
members_row view (x ∷ l) = print (view x) ⧺ members_row view l
