-- THE SYNTAX OF FUNCTIONS, one level at a time, every field.
use Rattle.syn_grammar.specs.Grammar.{Syntax, Both, Node}
use Rattle.syn_lower.specs.Bodies.{attributes_before_body, body}
use Rattle.syn_tree.specs.Derive.{item_of}
use Rattle.syn_tree.specs.Modifiers.{syntax_of_FnModifiers}
use Rattle.syn_tree.specs.Restriction.{syntax_of_Visibility}
use Rattle.syn_item.specs.Parts.{aside}
use Rattle.syn_item.specs.declared.function.ItemFn.TheInside as ItemFn-in

-- modifiers are never printed
abbrev pub view_ItemFn : ItemFn-in.Inside → Syntax
view_ItemFn a =
    item_of (attributes_before_body a.attrs.items) (syntax_of_Visibility a.vis)
    (Both (aside (syntax_of_FnModifiers a.modifiers)) (Both a.sig (body a.attrs.items a.block)))

abbrev pub syntax_of_ItemFn : Syntax → Syntax
syntax_of_ItemFn = Node
