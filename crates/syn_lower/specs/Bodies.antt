-- THE ATTRIBUTES OF WHAT HAS A BODY: a value holds the outer ones, which are before it, and the inner ones, which are in its braces,
-- in one list. If they aren't in that order, the list is repeated, unshown.
use Rattle.std.specs.Prelude.{Bool, true, List, [], ◌∷◌}
use Rattle.syn_grammar.specs.Tokens.{Stream, end, ◌⧺◌, pick}
use Rattle.syn_grammar.specs.Grammar.{Syntax, Nothing, Both, Node, Group, print}
use Rattle.syn_tokens.specs.InOrder.{in_order}
use Rattle.syn_lower.specs.Attributes.{every, is_inner, is_outer, shown_before, syntax_of_Attribute}
use Rattle.syn_lower.specs.declared.attr.Attribute.{Attribute}

-- the inner ones follow the outer ones
abbrev pub outer_first : Syntax → Bool
outer_first (Both a l) = pick (is_outer a) (outer_first l) (every is_inner (Both a l))
outer_first _ = true

-- of attributes in order
unfoldable pub listed_before : Syntax → Syntax
listed_before l = shown_before is_outer (pick (outer_first l) Nothing l) l

unfoldable pub listed_inside : Syntax → Syntax
listed_inside l = shown_before is_inner Nothing l

-- of a vector's items
abbrev pub attributes_before_body : List Attribute → Syntax
attributes_before_body l = listed_before (in_order syntax_of_Attribute l)

abbrev pub attributes_in_body : List Attribute → Syntax
attributes_in_body l = listed_inside (in_order syntax_of_Attribute l)

-- a block with inner attributes in its braces
abbrev pub with_inner : Syntax → Syntax → Syntax
with_inner inner (Node (Group d o c s)) = Node (Group d o c (Both inner s))
with_inner inner s = Both inner s

abbrev pub body : List Attribute → Syntax → Syntax
body attrs block = with_inner (attributes_in_body attrs) block

-- what is printed of an attribute, and of some in order, where inner ones are printed
abbrev pub inner_part : Attribute → Stream
inner_part a = pick (is_inner (syntax_of_Attribute a)) (print (syntax_of_Attribute a)) end

abbrev pub inner_row : List Attribute → Stream
inner_row [] = end
inner_row (a ∷ l) = inner_part a ⧺ inner_row l
