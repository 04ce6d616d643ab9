-- THE SYNTAX OF FOREIGN MODULES AND THEIR MEMBERS, one level at a time, every field.
use Rattle.syn_grammar.specs.Tokens.{Brace}
use Rattle.syn_grammar.specs.Rules.{foreign_function, foreign_macro_as_item, foreign_static, foreign_type, kept_foreign_item}
use Rattle.syn_grammar.specs.Grammar.{Syntax, Nothing, Both, Node, Case, Captured}
use Rattle.syn_tokens.specs.Kinds.{colon_syntax, semi_syntax, static_syntax, type_syntax, unsafe_syntax}
use Rattle.syn_tokens.specs.Leaves.{maybe, syntax_of_ident}
use Rattle.syn_lower.specs.Attributes.{attributes_syntax}
use Rattle.syn_lower.specs.Bodies.{attributes_before_body, attributes_in_body}
use Rattle.syn_lower.specs.Generics.{clause_of}
use Rattle.syn_lower.specs.Parts.{first, group_syntax}
use Rattle.syn_lower.specs.Types.{syntax_of_Type}
use Rattle.syn_tree.specs.Modifiers.{syntax_of_FnModifiers, syntax_of_TypeModifiers}
use Rattle.syn_tree.specs.Restriction.{syntax_of_Visibility}
use Rattle.syn_item.specs.Macros.{among_members}
use Rattle.syn_item.specs.Parts.{aside, members_of}
use Rattle.syn_item.specs.Signatures.{syntax_of_Safety}
use Rattle.syn_item.specs.Simple.{mutability_syntax}
use Rattle.syn_item.specs.declared.foreign.ForeignItem.TheVariants as ForeignItem-m
use Rattle.syn_item.specs.declared.foreign.ForeignItemFn.TheInside as ForeignItemFn-in
use Rattle.syn_item.specs.declared.foreign.ForeignItemStatic.TheInside as ForeignItemStatic-in
use Rattle.syn_item.specs.declared.foreign.ForeignItemType.TheInside as ForeignItemType-in
use Rattle.syn_item.specs.declared.foreign.ItemForeignMod.TheInside as ItemForeignMod-in

abbrev pub syntax_of_ForeignItem : ForeignItem-m.the_data → Syntax
syntax_of_ForeignItem (ForeignItem-m.Fn t) = Node (Case foreign_function t)
syntax_of_ForeignItem (ForeignItem-m.Static t) = Node (Case foreign_static t)
syntax_of_ForeignItem (ForeignItem-m.Ty t) = Node (Case foreign_type t)
syntax_of_ForeignItem (ForeignItem-m.Macro t) = Node (Case foreign_macro_as_item (among_members t))
syntax_of_ForeignItem (ForeignItem-m.Verbatim tokens) = Node (Case kept_foreign_item (Captured Nothing tokens))

-- modifiers are never printed
abbrev pub view_ForeignItemFn : ForeignItemFn-in.Inside → Syntax
view_ForeignItemFn a =
    Both (attributes_syntax a.attrs.items) (Both (syntax_of_Visibility a.vis) (Both (aside (syntax_of_FnModifiers a.modifiers)) (Both a.sig (semi_syntax a.semi_token))))

abbrev pub syntax_of_ForeignItemFn : Syntax → Syntax
syntax_of_ForeignItemFn = Node

abbrev pub view_ForeignItemStatic : ForeignItemStatic-in.Inside → Syntax
view_ForeignItemStatic a =
    Both (attributes_syntax a.attrs.items) (Both (syntax_of_Visibility a.vis)
    (Both (Node (Both (syntax_of_Safety a.safety) (Both (static_syntax a.static_token) (Both (mutability_syntax a.mutability) (Both (syntax_of_ident a.ident)
    (Both (colon_syntax a.colon_token) (syntax_of_Type a.ty.value))))))) (semi_syntax a.semi_token)))

abbrev pub syntax_of_ForeignItemStatic : Syntax → Syntax
syntax_of_ForeignItemStatic = Node

-- modifiers are never printed
abbrev pub view_ForeignItemType : ForeignItemType-in.Inside → Syntax
view_ForeignItemType a =
    Both (attributes_syntax a.attrs.items) (Both (syntax_of_Visibility a.vis)
    (Both (aside (syntax_of_TypeModifiers a.modifiers)) (Both (type_syntax a.type_token) (Both (syntax_of_ident a.ident) (Both (first a.generics)
    (Both (clause_of a.generics) (semi_syntax a.semi_token)))))))

abbrev pub syntax_of_ForeignItemType : Syntax → Syntax
syntax_of_ForeignItemType = Node

abbrev pub view_ItemForeignMod : ItemForeignMod-in.Inside → Syntax
view_ItemForeignMod a =
    Both (attributes_before_body a.attrs.items)
    (Node (Both (maybe unsafe_syntax a.unsafety) (Both a.abi
    (group_syntax Brace a.brace_token (Both (attributes_in_body a.attrs.items) (members_of syntax_of_ForeignItem a.items.items))))))

abbrev pub syntax_of_ItemForeignMod : Syntax → Syntax
syntax_of_ItemForeignMod = Node
