-- THE NEXT TOKENS, by which a plan continues: several looks at once.
use Rattle.std.specs.Prelude.{◌≡◌, Bool, true, false, Some, None}
use Rattle.syn_grammar.specs.Words.{w_async, w_const, w_default, w_fn, w_pub, w_safe, w_static, w_type, w_unsafe}
use Rattle.syn_grammar.specs.Tokens.{Stream, Before_colons, Before_macro, ahead, and, at_empty_group, at_word, no, or, pick}
use Rattle.syn_grammar.specs.Table.{at_brace, at_equals, at_exclamation, at_extern, at_module_path}
use Rattle.syn_grammar.specs.Rules.{use_item_rest}
use Rattle.syn_grammar.specs.Grammar.{Syntax}
use Rattle.syn_grammar.specs.Take.{Out, sees}
use Rattle.syn_grammar.specs.Run.{parse_rule}
use Rattle.syn_grammar.specs.MemberPlans.{at_function}
use Rattle.syn_parse.specs.Peeks.{past}

-- a signature: a word that begins one, or `const` followed by such a word
abbrev pub function_next : Stream → Bool
function_next ts = pick (sees (at_word w_const) ts) (sees at_function (past ts)) (sees at_function ts)

-- a member of a trait that is kept verbatim: after a visibility, or `default`
abbrev pub marked_next : Stream → Bool
marked_next ts = or (sees (at_word w_pub) ts) (or (sees at_empty_group ts) (sees (at_word w_default) ts))

-- no word of another member of an impl
abbrev pub no_member_word : Stream → Bool
no_member_word ts = and (no (sees (at_word w_type) ts)) (and (no (sees (at_word w_const) ts)) (no (sees at_function ts)))

-- `const`, which begins no signature
abbrev pub constant_next : Stream → Bool
constant_next ts = and (sees (at_word w_const) ts) (no (function_next ts))

-- a macro as a member of an impl, or nothing that is allowed
abbrev pub impl_macro_next : Stream → Bool
impl_macro_next ts = pick (or (sees (at_word w_pub) ts) (sees at_empty_group ts)) false (pick (sees (at_word w_default) ts) (sees (ahead Before_macro) ts) (no_member_word ts))

-- a static, perhaps after `safe` or `unsafe`
abbrev pub static_next : Stream → Bool
static_next ts = pick (or (sees (at_word w_safe) ts) (sees (at_word w_unsafe) ts)) (sees (at_word w_static) (past ts)) (sees (at_word w_static) ts)

-- a word that begins a foreign signature and isn't `safe`
abbrev pub foreign_word : Stream → Bool
foreign_word ts = or (sees (at_word w_unsafe) ts) (or (sees (at_word w_const) ts) (or (sees (at_word w_async) ts) (or (sees at_extern ts) (sees (at_word w_fn) ts))))

-- a foreign signature, after a visibility or if there is none; `safe` may also begin a path, which no visibility is before
abbrev pub foreign_function_next : Bool → Stream → Bool
foreign_function_next marked ts = pick (sees (at_word w_safe) ts) (or marked (no (or (sees (ahead Before_macro) ts) (sees (ahead Before_colons) ts)))) (foreign_word ts)

-- `!`, with neither braces nor a path in module style after it
abbrev pub odd_negative : Stream → Bool
odd_negative ts = and (sees at_exclamation ts) (and (no (sees at_brace (past ts))) (no (sees at_module_path (past ts))))

-- a use of trees in braces that isn't read, since one of them has `::` before it; or a use without braces, or one that is read
abbrev pub IsRootedGroup : Bool → Stream → Type 0
IsRootedGroup true ts = (sees at_brace (past ts) ≡ true) × (parse_rule use_item_rest ts ≡ None)
IsRootedGroup false ts = sees at_brace (past ts) ≡ true → (p : Syntax × Stream) × (parse_rule use_item_rest ts ≡ Some p)

-- whether `=` follows a where clause that was read; a clause that isn't read is refused at its place
abbrev pub equals_ahead : Out → Bool
equals_ahead None = true
equals_ahead (Some p) = sees at_equals p.1
