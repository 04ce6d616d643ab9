-- THE SYNTAX OF ITEMS WITHOUT MEMBERS, one level at a time, every field.
-- A struct represents what its rule's form reads, without the mark of the rule, which decides the kind of an item.
use Rattle.std.specs.Prelude.{false, Option}
use Rattle.syn_grammar.specs.Words.{semicolon}
use Rattle.syn_grammar.specs.Tokens.{Brace}
use Rattle.syn_grammar.specs.Grammar.{Syntax, Nothing, Both, Left, Right, Node, Vanishing, Such, Unshown}
use Rattle.syn_tokens.specs.InOrder.{pair_of}
use Rattle.syn_tokens.specs.Kinds.{as_syntax, colon_syntax, const_syntax, crate_syntax, eq_syntax, extern_syntax, mod_syntax, mut_syntax, plus_syntax, semi_syntax, static_syntax, trait_syntax, type_syntax, unsafe_syntax}
use Rattle.syn_tokens.specs.Kinds as kinds
use Rattle.syn_tokens.specs.Leaves.{maybe, syntax_of_ident}
use Rattle.syn_tokens.specs.Listing.{list_of}
use Rattle.syn_lower.specs.Attributes.{attributes_syntax}
use Rattle.syn_lower.specs.Bodies.{attributes_before_body, attributes_in_body}
use Rattle.syn_lower.specs.Bounds.{syntax_of_TypeParamBound}
use Rattle.syn_lower.specs.Generics.{clause_of, no_clause}
use Rattle.syn_lower.specs.Parts.{first, group_syntax, or_added}
use Rattle.syn_lower.specs.Types.{syntax_of_Type}
use Rattle.syn_tree.specs.Derive.{item_of}
use Rattle.syn_tree.specs.Modifiers.{syntax_of_ConstModifiers, syntax_of_TypeModifiers}
use Rattle.syn_tree.specs.Restriction.{syntax_of_Visibility}
use Rattle.syn_item.specs.Parts.{aside, after_inner, generics_aside}
use Rattle.syn_item.specs.declared.simple.ItemConst.TheInside as ItemConst-in
use Rattle.syn_item.specs.declared.simple.ItemExternCrate.TheInside as ItemExternCrate-in
use Rattle.syn_item.specs.declared.simple.ItemMod.TheInside as ItemMod-in
use Rattle.syn_item.specs.declared.simple.ItemStatic.TheInside as ItemStatic-in
use Rattle.syn_item.specs.declared.simple.ItemTraitAlias.TheInside as ItemTraitAlias-in
use Rattle.syn_item.specs.declared.simple.ItemType.TheInside as ItemType-in
use Rattle.syn_item.specs.declared.simple.StaticMutability.TheVariants as StaticMutability-m
use Rattle.syn_item.specs.declared.simple.WhereClausePlacement.TheVariants as WhereClausePlacement-m

-- CONSTANTS AND STATICS

-- modifiers and generics are never printed
abbrev pub view_ItemConst : ItemConst-in.Inside → Syntax
view_ItemConst a =
    item_of (attributes_syntax a.attrs.items) (syntax_of_Visibility a.vis)
    (Both (aside (syntax_of_ConstModifiers a.modifiers)) (Both (const_syntax a.const_token) (Both (syntax_of_ident a.ident) (Both (generics_aside a.generics)
    (Both (colon_syntax a.colon_token) (Both (syntax_of_Type a.ty.value) (Both (eq_syntax a.eq_token) (Both a.expr (semi_syntax a.semi_token)))))))))

abbrev pub syntax_of_ItemConst : Syntax → Syntax
syntax_of_ItemConst = Node

-- the mutability of a static, as a part of its rule
abbrev pub mutability_syntax : StaticMutability-m.the_data → Syntax
mutability_syntax (StaticMutability-m.Mut w) = Left (mut_syntax w)
mutability_syntax StaticMutability-m.None = Right Nothing

-- and by itself, as its own rule
abbrev pub syntax_of_StaticMutability : StaticMutability-m.the_data → Syntax
syntax_of_StaticMutability m = Node (mutability_syntax m)

abbrev pub view_ItemStatic : ItemStatic-in.Inside → Syntax
view_ItemStatic a =
    item_of (attributes_syntax a.attrs.items) (syntax_of_Visibility a.vis)
    (Both (static_syntax a.static_token) (Both (mutability_syntax a.mutability) (Both (syntax_of_ident a.ident)
    (Both (colon_syntax a.colon_token) (Both (syntax_of_Type a.ty.value) (Both (eq_syntax a.eq_token) (Both a.expr (semi_syntax a.semi_token))))))))

abbrev pub syntax_of_ItemStatic : Syntax → Syntax
syntax_of_ItemStatic = Node

-- ALIASES

-- a mark that is never printed
abbrev pub syntax_of_WhereClausePlacement : WhereClausePlacement-m.the_data → Syntax
syntax_of_WhereClausePlacement WhereClausePlacement-m.Early = Nothing
syntax_of_WhereClausePlacement WhereClausePlacement-m.Late = Right Nothing

-- where a clause would be that isn't there
abbrev pub place_aside : Syntax → Syntax → Syntax
place_aside place (Node (Vanishing false (Right Nothing))) = Unshown place
place_aside place clause = Unshown Nothing

-- the clause before `=`, and the one after the type
abbrev pub early : Syntax → Syntax → Syntax
early Nothing clause = clause
early place clause = no_clause

abbrev pub late : Syntax → Syntax → Syntax
late Nothing clause = no_clause
late place clause = clause

-- `=` and a type, followed by a where clause before it or
abbrev pub aliased : Syntax → Syntax → Syntax → Syntax → Syntax
aliased place clause sign ty = Such (Both (early place clause) (Both sign (Both ty (late place clause))))

-- modifiers are never printed
abbrev pub view_ItemType : ItemType-in.Inside → Syntax
view_ItemType a =
    item_of (attributes_syntax a.attrs.items) (syntax_of_Visibility a.vis)
    (Both (aside (syntax_of_TypeModifiers a.modifiers)) (Both (type_syntax a.type_token) (Both (syntax_of_ident a.ident) (Both (first a.generics)
    (Both (place_aside (syntax_of_WhereClausePlacement a.where_clause_placement) (clause_of a.generics))
    (Both (aliased (syntax_of_WhereClausePlacement a.where_clause_placement) (clause_of a.generics) (eq_syntax a.eq_token) (syntax_of_Type a.ty.value)) (semi_syntax a.semi_token)))))))

-- of a type alias: the place of a where clause that isn't there, and what it represents
abbrev pub placed_alias : Syntax → Syntax
placed_alias (Both attrs (Node (Both vis (Both modifiers (Both word (Both ident (Both params (Both place (Both alias semi))))))))) = Both place alias
placed_alias s = s

abbrev pub syntax_of_ItemType : Syntax → Syntax
syntax_of_ItemType = Node

abbrev pub view_ItemTraitAlias : ItemTraitAlias-in.Inside → Syntax
view_ItemTraitAlias a =
    item_of (attributes_syntax a.attrs.items) (syntax_of_Visibility a.vis)
    (Node (Both (trait_syntax a.trait_token) (Both (syntax_of_ident a.ident) (Both (first a.generics) (Both (eq_syntax a.eq_token)
    (Both (list_of syntax_of_TypeParamBound plus_syntax a.bounds.pairs a.bounds.last) (Both (clause_of a.generics) (semi_syntax a.semi_token))))))))

abbrev pub syntax_of_ItemTraitAlias : Syntax → Syntax
syntax_of_ItemTraitAlias = Node

-- EXTERN CRATES AND MODULES

abbrev pub view_ItemExternCrate : ItemExternCrate-in.Inside → Syntax
view_ItemExternCrate a =
    item_of (attributes_syntax a.attrs.items) (syntax_of_Visibility a.vis)
    (Both (extern_syntax a.extern_token) (Both (crate_syntax a.crate_token) (Both (syntax_of_ident a.ident)
    (Both (maybe (pair_of as_syntax syntax_of_ident) a.rename) (semi_syntax a.semi_token)))))

abbrev pub syntax_of_ItemExternCrate : Syntax → Syntax
syntax_of_ItemExternCrate = Node

-- the items of a module in braces, or none
abbrev pub content_syntax : Option (kinds.Brace × Syntax) → Syntax
content_syntax = maybe (λ p. group_syntax Brace p.0 p.1)

-- what follows a module's name: items in braces, after which a `;` is never printed; or a `;`, which is printed in any case
abbrev pub module_content : Syntax → Syntax → Syntax → Syntax
module_content inner (Left content) semi_token = Right (Both (aside semi_token) (after_inner inner content))
module_content inner s semi_token = Left (or_added semicolon semi_token)

-- inner attributes are printed in the braces, and without braces never
abbrev pub attributes_by_content : Syntax → Syntax → Syntax → Syntax
attributes_by_content (Left content) before alone = before
attributes_by_content s before alone = alone

abbrev pub view_ItemMod : ItemMod-in.Inside → Syntax
view_ItemMod a =
    item_of (attributes_by_content (content_syntax a.content) (attributes_before_body a.attrs.items) (attributes_syntax a.attrs.items)) (syntax_of_Visibility a.vis)
    (Both (maybe unsafe_syntax a.unsafety) (Both (mod_syntax a.mod_token) (Both (syntax_of_ident a.ident)
    (module_content (attributes_in_body a.attrs.items) (content_syntax a.content) (maybe semi_syntax a.semi)))))

abbrev pub syntax_of_ItemMod : Syntax → Syntax
syntax_of_ItemMod = Node
