-- THE SYNTAX OF THE TREES OF USES, one level at a time, every field.
use Rattle.syn_grammar.specs.Tokens.{Brace}
use Rattle.syn_grammar.specs.Grammar.{Syntax, Nothing, Both, Left, Right, Node, Group, Such}
use Rattle.syn_grammar.specs.UseGroups.{rooted}
use Rattle.syn_tokens.specs.Kinds.{as_syntax, comma_syntax, path_sep_syntax, semi_syntax, star_syntax, use_syntax}
use Rattle.syn_tokens.specs.Leaves.{maybe, syntax_of_ident}
use Rattle.syn_tokens.specs.Listing.{list_of}
use Rattle.syn_lower.specs.Attributes.{attributes_syntax}
use Rattle.syn_lower.specs.Parts.{group_syntax}
use Rattle.syn_tree.specs.Derive.{item_of}
use Rattle.syn_tree.specs.Restriction.{syntax_of_Visibility}
use Rattle.syn_item.specs.declared.simple.ItemUse.TheInside as ItemUse-in
use Rattle.syn_item.specs.declared.use_tree.UseGlob.TheInside as UseGlob-in
use Rattle.syn_item.specs.declared.use_tree.UseGroup.TheInside as UseGroup-in
use Rattle.syn_item.specs.declared.use_tree.UseName.TheInside as UseName-in
use Rattle.syn_item.specs.declared.use_tree.UsePath.TheInside as UsePath-in
use Rattle.syn_item.specs.declared.use_tree.UseRename.TheInside as UseRename-in
use Rattle.syn_item.specs.declared.use_tree.UseTree.TheVariants as UseTree-m

-- a tree, by the alternatives of its rule
abbrev pub by_word : Syntax → Syntax
by_word s = Node (Right (Right s))

abbrev pub syntax_of_UseTree : UseTree-m.the_data → Syntax
syntax_of_UseTree (UseTree-m.Path t) = by_word t
syntax_of_UseTree (UseTree-m.Name t) = by_word t
syntax_of_UseTree (UseTree-m.Rename t) = by_word t
syntax_of_UseTree (UseTree-m.Glob t) = Node (Left t)
syntax_of_UseTree (UseTree-m.Group t) = Node (Right (Left t))

abbrev pub view_UsePath : UsePath-in.Inside → Syntax
view_UsePath a = Both (syntax_of_ident a.ident) (Left (Both (path_sep_syntax a.colon2_token) (syntax_of_UseTree a.tree.value)))

abbrev pub view_UseName : UseName-in.Inside → Syntax
view_UseName a = Both (syntax_of_ident a.ident) (Right (Right Nothing))

abbrev pub view_UseRename : UseRename-in.Inside → Syntax
view_UseRename a = Both (syntax_of_ident a.ident) (Right (Left (Both (as_syntax a.as_token) (syntax_of_ident a.rename))))

abbrev pub view_UseGlob : UseGlob-in.Inside → Syntax
view_UseGlob a = star_syntax a.star_token

abbrev pub view_UseGroup : UseGroup-in.Inside → Syntax
view_UseGroup a = group_syntax Brace a.brace_token (list_of syntax_of_UseTree comma_syntax a.items.pairs a.items.last)

-- the tree of a use, with `::` before it or without it: trees in braces without it are read by a rule of their own
abbrev pub used : Syntax → Syntax → Syntax
used (Right Nothing) (Node (Right (Left (Group d o c (Node l))))) = Left (Such (Group d o c (Node (rooted l))))
used leading_colon tree = Right (Both leading_colon tree)

abbrev pub view_ItemUse : ItemUse-in.Inside → Syntax
view_ItemUse a =
    item_of (attributes_syntax a.attrs.items) (syntax_of_Visibility a.vis)
    (Both (use_syntax a.use_token) (Both (used (maybe path_sep_syntax a.leading_colon) (syntax_of_UseTree a.tree)) (semi_syntax a.semi_token)))

abbrev pub syntax_of_ItemUse : Syntax → Syntax
syntax_of_ItemUse = Node
