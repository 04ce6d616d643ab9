-- THE SYNTAX OF ITEMS: each by its kind.
-- Written by tools/kinds.py down to the next such comment; edits are lost.
use Rattle.syn_grammar.specs.Rules.{const_item, enumeration, extern_crate, foreign_module, function, impl_definition, kept_item, macro_as_item, module_item, static_item, structure, trait_alias, trait_definition, type_item, union_item, use_item}
-- End of the part that tools/kinds.py writes.
use Rattle.syn_grammar.specs.Grammar.{Syntax, Nothing, Node, Case, Captured}
use Rattle.syn_item.specs.Macros.{among_items}
use Rattle.syn_item.specs.declared.item.Item.TheVariants as Item-m

-- Written by tools/kinds.py down to the next such comment; edits are lost.
abbrev pub syntax_of_Item : Item-m.the_data → Syntax
syntax_of_Item (Item-m.Const t) = Node (Case const_item t)
syntax_of_Item (Item-m.Enum t) = Node (Case enumeration t)
syntax_of_Item (Item-m.ExternCrate t) = Node (Case extern_crate t)
syntax_of_Item (Item-m.Fn t) = Node (Case function t)
syntax_of_Item (Item-m.ForeignMod t) = Node (Case foreign_module t)
syntax_of_Item (Item-m.Impl t) = Node (Case impl_definition t)
syntax_of_Item (Item-m.Macro t) = Node (Case macro_as_item (among_items t))
syntax_of_Item (Item-m.Mod t) = Node (Case module_item t)
syntax_of_Item (Item-m.Static t) = Node (Case static_item t)
syntax_of_Item (Item-m.Struct t) = Node (Case structure t)
syntax_of_Item (Item-m.Trait t) = Node (Case trait_definition t)
syntax_of_Item (Item-m.TraitAlias t) = Node (Case trait_alias t)
syntax_of_Item (Item-m.Ty t) = Node (Case type_item t)
syntax_of_Item (Item-m.Union t) = Node (Case union_item t)
syntax_of_Item (Item-m.Use t) = Node (Case use_item t)
syntax_of_Item (Item-m.Verbatim tokens) = Node (Case kept_item (Captured Nothing tokens))

-- End of the part that tools/kinds.py writes.

-- the item that the input of a derive is
abbrev pub item_in : Syntax → Item-m.the_data
item_in (Node (Case enumeration s)) = Item-m.Enum s
item_in (Node (Case structure s)) = Item-m.Struct s
item_in (Node (Case union_item s)) = Item-m.Union s
item_in s = Item-m.Struct s
