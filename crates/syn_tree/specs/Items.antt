-- THE SYNTAX OF ITEMS, one level at a time, every field.
-- A struct represents what its rule's form reads, without the mark of the rule, which decides the kind of an item.
use Rattle.syn_grammar.specs.Tokens.{Brace}
use Rattle.syn_grammar.specs.Grammar.{Syntax, Both, Node}
use Rattle.syn_grammar.specs.Promises.{itself}
use Rattle.syn_tokens.specs.Leaves.{maybe, syntax_of_ident}
use Rattle.syn_tokens.specs.Idents.{IdentValue}
use Rattle.syn_tokens.specs.Kinds.{comma_syntax, enum_syntax, semi_syntax, struct_syntax, union_syntax}
use Rattle.syn_tokens.specs.Listing.{list_of}
use Rattle.syn_lower.specs.Parts.{group_syntax, first}
use Rattle.syn_lower.specs.Attributes.{attributes_syntax}
use Rattle.syn_tree.specs.Restriction.{syntax_of_Visibility}
use Rattle.syn_lower.specs.Generics.{clause_of}
use Rattle.syn_tree.specs.Data.{syntax_of_Fields}
use Rattle.syn_tree.specs.Derive.{braced_of, enumeration_syntax, item_of, structure_of, structure_syntax, union_item_syntax}
use Rattle.syn_tree.specs.declared.restriction.Visibility.TheVariants as Visibility-m
use Rattle.syn_tree.specs.declared.derive.DataStruct.{DataStruct}
use Rattle.syn_tree.specs.declared.derive.DataEnum.{DataEnum}
use Rattle.syn_tree.specs.declared.derive.DataUnion.{DataUnion}
use Rattle.syn_tree.specs.declared.item.ItemEnum.TheInside as ItemEnum-in
use Rattle.syn_tree.specs.declared.item.ItemStruct.TheInside as ItemStruct-in
use Rattle.syn_tree.specs.declared.item.ItemUnion.TheInside as ItemUnion-in

abbrev pub view_ItemStruct : ItemStruct-in.Inside → Syntax
view_ItemStruct a =
    item_of (attributes_syntax a.attrs.items) (syntax_of_Visibility a.vis)
    (structure_of (syntax_of_ident a.ident) (first a.generics) (clause_of a.generics) (Both (struct_syntax a.struct_token) (Both (syntax_of_Fields a.fields) (maybe semi_syntax a.semi_token))))

abbrev pub view_ItemEnum : ItemEnum-in.Inside → Syntax
view_ItemEnum a =
    item_of (attributes_syntax a.attrs.items) (syntax_of_Visibility a.vis)
    (braced_of (syntax_of_ident a.ident) (first a.generics) (clause_of a.generics) (Both (enum_syntax a.enum_token) (group_syntax Brace a.brace_token (list_of itself comma_syntax a.variants.pairs a.variants.last))))

abbrev pub view_ItemUnion : ItemUnion-in.Inside → Syntax
view_ItemUnion a =
    item_of (attributes_syntax a.attrs.items) (syntax_of_Visibility a.vis)
    (braced_of (syntax_of_ident a.ident) (first a.generics) (clause_of a.generics) (Both (union_syntax a.union_token) a.fields))

abbrev pub syntax_of_ItemStruct : Syntax → Syntax
syntax_of_ItemStruct = Node

abbrev pub syntax_of_ItemEnum : Syntax → Syntax
syntax_of_ItemEnum = Node

abbrev pub syntax_of_ItemUnion : Syntax → Syntax
syntax_of_ItemUnion = Node

-- AS THEY ARE READ, after the attributes

abbrev pub structure_rest_syntax : Visibility-m.the_data × IdentValue × Syntax × DataStruct → Syntax
structure_rest_syntax p = Node (Both (syntax_of_Visibility p.0) (structure_syntax (p.1, p.2, p.3)))

abbrev pub enumeration_rest_syntax : Visibility-m.the_data × IdentValue × Syntax × DataEnum → Syntax
enumeration_rest_syntax p = Node (Both (syntax_of_Visibility p.0) (enumeration_syntax (p.1, p.2, p.3)))

abbrev pub union_item_rest_syntax : Visibility-m.the_data × IdentValue × Syntax × DataUnion → Syntax
union_item_rest_syntax p = Node (Both (syntax_of_Visibility p.0) (union_item_syntax (p.1, p.2, p.3)))
