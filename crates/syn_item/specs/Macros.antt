-- THE SYNTAX OF MACROS AMONG ITEMS AND MEMBERS, one level at a time, every field.
use Rattle.std.specs.Prelude.{Some, None}
use Rattle.syn_grammar.specs.Words.{semicolon}
use Rattle.syn_grammar.specs.Take.{Parser, take_mark}
use Rattle.syn_grammar.specs.Run.{wrap}
use Rattle.syn_grammar.specs.Grammar.{Syntax, Both, Left, Right, Node, Raw}
use Rattle.syn_tokens.specs.Kinds.{semi_syntax}
use Rattle.syn_tokens.specs.Leaves.{maybe, syntax_of_ident}
use Rattle.syn_lower.specs.Attributes.{attributes_syntax}
use Rattle.syn_item.specs.declared.foreign.ForeignItemMacro.TheInside as ForeignItemMacro-in
use Rattle.syn_item.specs.declared.impls.ImplItemMacro.TheInside as ImplItemMacro-in
use Rattle.syn_item.specs.declared.simple.ItemMacro.TheInside as ItemMacro-in
use Rattle.syn_item.specs.declared.traits.TraitItemMacro.TheInside as TraitItemMacro-in

-- a macro's group, whichever delimiters it has, followed by `;` or without it (what is no group is distinguished from one followed by `;`)
abbrev pub ended_group : Syntax → Syntax → Syntax
ended_group semi_token (Left s) = Left (ended_group semi_token s)
ended_group semi_token (Right s) = Right (ended_group semi_token s)
ended_group (Left semi) group = Both group semi
ended_group s (Raw d o c i) = Raw d o c i
ended_group s group = Both group s

-- a macro as an item, with a name or without one
abbrev pub named_macro : Syntax → Syntax → Syntax → Syntax
named_macro ident semi_token (Node (Both path (Both bang group))) = Node (Both path (Both bang (Both ident (Node (ended_group semi_token group)))))
named_macro ident semi_token s = Both s (Both ident semi_token)

-- a macro as a member
abbrev pub ended_macro : Syntax → Syntax → Syntax
ended_macro semi_token (Node (Both path (Both bang group))) = Node (Both path (Both bang (Node (ended_group semi_token group))))
ended_macro semi_token s = Both s semi_token

abbrev pub view_ItemMacro : ItemMacro-in.Inside → Syntax
view_ItemMacro a = Both (attributes_syntax a.attrs.items) (named_macro (maybe syntax_of_ident a.ident) (maybe semi_syntax a.semi_token) a.mac)

abbrev pub syntax_of_ItemMacro : Syntax → Syntax
syntax_of_ItemMacro = Node

abbrev pub view_TraitItemMacro : TraitItemMacro-in.Inside → Syntax
view_TraitItemMacro a = Both (attributes_syntax a.attrs.items) (ended_macro (maybe semi_syntax a.semi_token) a.mac)

abbrev pub syntax_of_TraitItemMacro : Syntax → Syntax
syntax_of_TraitItemMacro = Node

abbrev pub view_ImplItemMacro : ImplItemMacro-in.Inside → Syntax
view_ImplItemMacro a = Both (attributes_syntax a.attrs.items) (ended_macro (maybe semi_syntax a.semi_token) a.mac)

abbrev pub syntax_of_ImplItemMacro : Syntax → Syntax
syntax_of_ImplItemMacro = Node

abbrev pub view_ForeignItemMacro : ForeignItemMacro-in.Inside → Syntax
view_ForeignItemMacro a = Both (attributes_syntax a.attrs.items) (ended_macro (maybe semi_syntax a.semi_token) a.mac)

abbrev pub syntax_of_ForeignItemMacro : Syntax → Syntax
syntax_of_ForeignItemMacro = Node

-- AMONG OTHERS, where some paths are refused: what follows the attributes is read by a rule, or in a form, of its own

abbrev pub among_items : Syntax → Syntax
among_items (Both attrs rest) = Both attrs (Node (Right rest))
among_items s = s

abbrev pub among_members : Syntax → Syntax
among_members (Both attrs rest) = Both attrs (Right rest)
among_members s = s

-- AS A GROUP IS READ, followed by what ends it: `;`, unless it is in braces

unfoldable pub ended_after : Syntax → Parser
ended_after (Right (Right s)) ts = Some (Right (Right s), ts)
ended_after (Right (Left s)) ts = wrap (λ semi. Right (Left (Both s semi))) (take_mark semicolon ts)
ended_after (Left s) ts = wrap (λ semi. Left (Both s semi)) (take_mark semicolon ts)
ended_after s ts = None
