-- THE SYNTAX OF TRAITS AND THEIR MEMBERS, one level at a time, every field.
use Rattle.syn_grammar.specs.Words.{semicolon}
use Rattle.syn_grammar.specs.Tokens.{Brace}
use Rattle.syn_grammar.specs.Rules.{kept_trait_item, trait_const, trait_function, trait_macro_as_item, trait_type}
use Rattle.syn_grammar.specs.Grammar.{Syntax, Nothing, Both, Left, Right, Node, Case, Captured}
use Rattle.syn_grammar.specs.Promises.{itself}
use Rattle.syn_tokens.specs.InOrder.{pair_of}
use Rattle.syn_tokens.specs.Kinds.{auto_syntax, colon_syntax, const_syntax, eq_syntax, semi_syntax, trait_syntax, type_syntax, unsafe_syntax}
use Rattle.syn_tokens.specs.Leaves.{maybe, syntax_of_ident}
use Rattle.syn_lower.specs.Attributes.{attributes_syntax}
use Rattle.syn_lower.specs.Bodies.{attributes_before_body, attributes_in_body, with_inner}
use Rattle.syn_lower.specs.Generics.{bounds_syntax, clause_of}
use Rattle.syn_lower.specs.Parts.{first, group_syntax, or_added}
use Rattle.syn_lower.specs.Types.{syntax_of_Type}
use Rattle.syn_tree.specs.Derive.{item_of}
use Rattle.syn_tree.specs.Modifiers.{syntax_of_ConstModifiers, syntax_of_FnModifiers, syntax_of_TypeModifiers}
use Rattle.syn_tree.specs.Restriction.{syntax_of_Visibility}
use Rattle.syn_item.specs.Macros.{among_members}
use Rattle.syn_item.specs.Parts.{aside, generics_aside, members_of}
use Rattle.syn_item.specs.Simple.{attributes_by_content}
use Rattle.syn_item.specs.declared.traits.ItemTrait.TheInside as ItemTrait-in
use Rattle.syn_item.specs.declared.traits.TraitItem.TheVariants as TraitItem-m
use Rattle.syn_item.specs.declared.traits.TraitItemConst.TheInside as TraitItemConst-in
use Rattle.syn_item.specs.declared.traits.TraitItemFn.TheInside as TraitItemFn-in
use Rattle.syn_item.specs.declared.traits.TraitItemType.TheInside as TraitItemType-in

-- MEMBERS

abbrev pub syntax_of_TraitItem : TraitItem-m.the_data → Syntax
syntax_of_TraitItem (TraitItem-m.Const t) = Node (Case trait_const t)
syntax_of_TraitItem (TraitItem-m.Fn t) = Node (Case trait_function t)
syntax_of_TraitItem (TraitItem-m.Ty t) = Node (Case trait_type t)
syntax_of_TraitItem (TraitItem-m.Macro t) = Node (Case trait_macro_as_item (among_members t))
syntax_of_TraitItem (TraitItem-m.Verbatim tokens) = Node (Case kept_trait_item (Captured Nothing tokens))

-- modifiers and generics are never printed
abbrev pub view_TraitItemConst : TraitItemConst-in.Inside → Syntax
view_TraitItemConst a =
    Both (attributes_syntax a.attrs.items)
    (Both (aside (syntax_of_ConstModifiers a.modifiers)) (Both (const_syntax a.const_token) (Both (syntax_of_ident a.ident) (Both (generics_aside a.generics)
    (Both (colon_syntax a.colon_token) (Both (syntax_of_Type a.ty) (Both (maybe (pair_of eq_syntax itself) a.default) (semi_syntax a.semi_token))))))))

abbrev pub syntax_of_TraitItemConst : Syntax → Syntax
syntax_of_TraitItemConst = Node

-- what follows a signature: a body, after which a `;` is never printed; or a `;`, which is printed in any case
abbrev pub function_end : Syntax → Syntax → Syntax → Syntax
function_end inner (Left block) semi_token = Right (Both (aside semi_token) (with_inner inner block))
function_end inner s semi_token = Left (or_added semicolon semi_token)

-- modifiers are never printed
abbrev pub view_TraitItemFn : TraitItemFn-in.Inside → Syntax
view_TraitItemFn a =
    Both (attributes_by_content (maybe itself a.default) (attributes_before_body a.attrs.items) (attributes_syntax a.attrs.items))
    (Node (Both (aside (syntax_of_FnModifiers a.modifiers)) (Both a.sig (function_end (attributes_in_body a.attrs.items) (maybe itself a.default) (maybe semi_syntax a.semi_token)))))

abbrev pub syntax_of_TraitItemFn : Syntax → Syntax
syntax_of_TraitItemFn = Node

-- modifiers are never printed
abbrev pub view_TraitItemType : TraitItemType-in.Inside → Syntax
view_TraitItemType a =
    Both (attributes_syntax a.attrs.items)
    (Node (Both (aside (syntax_of_TypeModifiers a.modifiers)) (Both (type_syntax a.type_token) (Both (syntax_of_ident a.ident) (Both (first a.generics)
    (Both (bounds_syntax (a.colon_token, a.bounds)) (Both (maybe (pair_of eq_syntax syntax_of_Type) a.default) (Both (clause_of a.generics) (semi_syntax a.semi_token)))))))))

abbrev pub syntax_of_TraitItemType : Syntax → Syntax
syntax_of_TraitItemType = Node

-- TRAITS

abbrev pub view_ItemTrait : ItemTrait-in.Inside → Syntax
view_ItemTrait a =
    item_of (attributes_before_body a.attrs.items) (syntax_of_Visibility a.vis)
    (Both (maybe const_syntax a.modifiers.constness)
    (Node (Both (maybe unsafe_syntax a.unsafety) (Both (maybe auto_syntax a.modifiers.auto_token) (Both (trait_syntax a.trait_token) (Both (syntax_of_ident a.ident) (Both (first a.generics)
    (Both (bounds_syntax (a.colon_token, a.supertraits)) (Both (clause_of a.generics)
    (group_syntax Brace a.brace_token (Both (attributes_in_body a.attrs.items) (members_of syntax_of_TraitItem a.items.items))))))))))))

abbrev pub syntax_of_ItemTrait : Syntax → Syntax
syntax_of_ItemTrait = Node

-- what follows `auto`, where that is allowed: the word of a trait, its name and the rest
abbrev pub after_auto : Syntax → Syntax
after_auto (Both attrs (Node (Both vis (Both constness (Node (Both unsafety (Both auto rest))))))) = rest
after_auto s = s

-- what follows its name
abbrev pub after_name : Syntax → Syntax
after_name (Both attrs (Node (Both vis (Both constness (Node (Both unsafety (Both auto (Both word (Both ident rest))))))))) = rest
after_name s = s
