-- LOOKAHEADS IN ITEMS, in parts.
use Rattle.std.specs.Prelude.{Bool}
use Rattle.syn_grammar.specs.Words.{w_async, w_auto, w_const, w_default, w_enum, w_extern, w_fn, w_impl, w_macro, w_mod, w_move, w_pub, w_static, w_struct, w_trait, w_type, w_union, w_unsafe, w_use, bar, less_equals, less, colons, greater, w_as}
use Rattle.syn_grammar.specs.Tokens.{Look, Brace, Paren, Bang_brace, Bang_name, Before_macro, Begins_item, Not_item, Stream, and, at_mark, at_parameter, at_path_word, at_word, at_group, ahead, ◌or_else◌, ◌and_also◌, ◌but_not◌}
use Rattle.syn_grammar.specs.Take.{sees}
use Rattle.syn_grammar.specs.Table.{at_lone_crate, at_module_path}

-- a macro with a name
abbrev pub at_named_macro : Look
at_named_macro = at_module_path and_also ahead Bang_name

-- a macro whose path continues here; one with braces; and one with a name
abbrev pub macro_from : Stream → Bool
macro_from ts = and (sees at_path_word ts) (sees (ahead Before_macro) ts)

abbrev pub brace_macro_from : Stream → Bool
brace_macro_from ts = and (sees at_path_word ts) (sees (ahead Bang_brace) ts)

abbrev pub named_macro_from : Stream → Bool
named_macro_from ts = and (sees at_path_word ts) (sees (ahead Bang_name) ts)

-- a word that always begins an item: one that isn't the word of a kind of types; or one that is, `impl` or `macro`
abbrev pub at_first_item_word : Look
at_first_item_word = at_word w_pub or_else at_word w_extern or_else at_word w_use or_else at_word w_fn or_else at_word w_mod

abbrev pub at_other_item_word : Look
at_other_item_word = at_word w_type or_else at_word w_struct or_else at_word w_enum or_else at_word w_trait or_else at_word w_impl or_else at_word w_macro

abbrev pub at_item_word : Look
at_item_word = at_first_item_word or_else at_other_item_word

-- `crate` without `::` after it that is not the whole path of a macro with a group in braces
abbrev pub at_crate_item : Look
at_crate_item = at_lone_crate but_not ahead Bang_brace

-- what begins an expression after `const`
abbrev pub at_const_expression : Look
at_const_expression = at_group Brace or_else at_word w_static or_else at_word w_move or_else at_mark bar or_else at_word w_async but_not ahead Begins_item

-- words that begin an item depending on the tokens after them
abbrev pub at_const_item : Look
at_const_item = at_word w_const but_not ahead Not_item

abbrev pub at_unsafe_item : Look
at_unsafe_item = at_word w_unsafe but_not ahead Not_item

abbrev pub at_static_item : Look
at_static_item = at_word w_static and_also ahead Begins_item

abbrev pub at_async_item : Look
at_async_item = at_word w_async and_also ahead Begins_item

abbrev pub at_union_item : Look
at_union_item = at_word w_union and_also ahead Begins_item

abbrev pub at_auto_item : Look
at_auto_item = at_word w_auto and_also ahead Begins_item

abbrev pub at_default_item : Look
at_default_item = at_word w_default and_also ahead Begins_item

abbrev pub at_marked_word : Look
at_marked_word = at_const_item or_else at_unsafe_item or_else at_static_item or_else at_async_item or_else at_union_item or_else at_auto_item or_else at_default_item

-- what continues a type after an identifier
abbrev pub at_type_rest : Look
at_type_rest = at_mark colons or_else at_mark less but_not at_mark less_equals or_else at_group Paren or_else at_word w_as

-- what follows the `<` of generics
abbrev pub at_first_parameter : Look
at_first_parameter = at_mark greater or_else at_parameter
