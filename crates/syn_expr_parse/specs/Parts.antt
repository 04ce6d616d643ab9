-- PARTS OF EXPRESSIONS AND STATEMENTS, by the syntax of what they are made of.
use Rattle.std.specs.Prelude.{List, [], ◌∷◌, Option, Some, None}
use Rattle.syn_grammar.specs.Tokens as grammar
use Rattle.syn_grammar.specs.Tokens.{call_site}
use Rattle.syn_grammar.specs.Shape.{Block, If, choice, expr, listed, untagged}
use Rattle.syn_grammar.specs.Grammar.{Syntax, Nothing, Both, Left, Right, Node, Group, Shaped}
use Rattle.syn_tokens.specs.Kinds.{Colon, colon_syntax}
use Rattle.syn_tokens.specs.Leaves.{maybe}
use Rattle.syn_tokens.specs.declared.lifetime.Lifetime.{Lifetime}
use Rattle.syn_lower.specs.Types.{syntax_of_lifetime}

-- a field: its number, or its name alone
abbrev pub field_member : Syntax → Syntax
field_member (Left index) = Node (Left index)
field_member (Right name) = Node (Right (Both name (Right (Right Nothing))))
field_member s = s

-- a method's arguments, after generic ones or none; of a tree made by hand the `::` before these may be missing
abbrev pub method_arguments : Option Syntax → Syntax → Syntax
method_arguments None arguments = Right (Left arguments)
method_arguments (Some (Both (Left colons) generic)) arguments = Left (Both colons (Both generic arguments))
method_arguments (Some generic) arguments = Both generic arguments

-- the content of an array's brackets, of a comma list
abbrev pub array_elements : Syntax → Syntax
array_elements (Node (Right (Both s others))) = Node (Right (Both s (Right others)))
array_elements s = s

-- a literal's token
abbrev pub token_of : Syntax → Syntax
token_of (Left s) = token_of s
token_of (Right s) = token_of s
token_of s = s

-- a label, or none
abbrev pub label_syntax : Option (Lifetime × Colon) → Syntax
label_syntax l = maybe (λ p. Both (syntax_of_lifetime p.0) (colon_syntax p.1)) l

-- A block follows `else`. Anything else, which only a tree made by hand holds there, is printed in braces.
abbrev pub in_braces : Syntax → Syntax
in_braces s = Group grammar.Brace call_site call_site (Shaped choice s)

abbrev pub block_after_else : Syntax → Syntax
block_after_else (Shaped (expr Block) s) = Shaped (expr Block) s
block_after_else s = in_braces s

-- a block or another `if`
abbrev pub after_else : Syntax → Syntax
after_else (Shaped (expr If) s) = Right (Node (Shaped (expr If) s))
after_else s = Left (block_after_else s)

-- `else` and a block, or nothing
abbrev pub diverging : Syntax → Syntax
diverging (Left s) = Shaped untagged s
diverging (Right s) = Shaped untagged s
diverging s = Shaped untagged s

-- statements in order
abbrev pub statements_of : {S : Type 0} → (S → Syntax) → List S → Syntax
statements_of view [] = Node (Left Nothing)
statements_of view (s ∷ l) = Node (Right (Shaped listed (Both (view s) (statements_of view l))))
