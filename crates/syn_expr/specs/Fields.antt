-- THE FIELDS OF STRUCT LITERALS: what is printed of a value, and how large it is.
use Rattle.std.specs.Prelude.{ℕ, Bool, true, false}
use Rattle.syn_grammar.specs.Shape.{Path, expr}
use Rattle.syn_grammar.specs.Grammar.{Syntax, Nothing, Both, Left, Node, Shaped}
use Rattle.syn_lower.specs.Sizes.{tree_size}

-- a colon and a value, or nothing
abbrev pub following_member : Syntax → Syntax → Syntax
following_member (Left sign) value = Both sign (Node value)
following_member sign value = Nothing

abbrev pub is_path : Syntax → Bool
is_path (Shaped (expr Path) s) = true
is_path s = false

-- of what leads back to an expression
abbrev pub size_unless_path : Syntax → ℕ
size_unless_path (Shaped (expr Path) s) = 0
size_unless_path s = tree_size s
