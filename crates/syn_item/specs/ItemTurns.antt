-- TURNS OF THE PLAN OF ITEMS: what is left of it where a word says what continues.
use Rattle.std.specs.Prelude.{Bool, true, false, Some, None}
use Rattle.syn_grammar.specs.Words.{w_auto, w_async, w_const, w_crate, w_default, w_extern, w_fn, w_impl, w_macro, w_mod, w_pub, w_trait, w_unsafe}
use Rattle.syn_grammar.specs.Tokens.{Stream, Before_macro, Begins_item, ahead, and, at_empty_group, at_word, no, ◌and_also◌, ◌or_else◌, pick}
use Rattle.syn_grammar.specs.Rules.{abi, impl_body, signature, type}
use Rattle.syn_grammar.specs.Grammar.{Syntax, Both, Left, Right, Node, ◌&◌, rule, word}
use Rattle.syn_grammar.specs.Forms.{plainly}
use Rattle.syn_grammar.specs.Table.{at_brace, at_extern, at_for, at_where, item_word, optional_item_word}
use Rattle.syn_grammar.specs.Take.{Out, sees}
use Rattle.syn_grammar.specs.Values.{untag}
use Rattle.syn_grammar.specs.Run.{parse_form}
use Rattle.syn_grammar.specs.Plan.{Plan, ends, keeps, reads, turns}
use Rattle.syn_grammar.specs.ItemPlan.{Place, public, unwritten, plain, absent, bare_impl_plan, following_const, const_plan, definition_plan, extern_crate_plan, extern_plan, function_end, impl_of, impl_plan, kept_impl, module_plan, other_plan, restricted_end, signature_end, trait_or_alias, trait_plan, unsafe_plan}

-- the place of an item, by the next token
abbrev pub place_next : Stream → Place
place_next ts = pick (sees (at_word w_pub) ts) public (pick (sees at_empty_group ts) unwritten plain)

-- no visibility is before it
abbrev pub no_visibility : Place → Bool
no_visibility public = false
no_visibility unwritten = false
no_visibility plain = true

-- `default`, which begins no macro
abbrev pub default_next : Stream → Bool
default_next ts = and (sees (at_word w_default) ts) (no (sees (ahead Before_macro) ts))

-- from a word on
abbrev pub function_turn : Syntax → Syntax → Plan
function_turn a v = reads (rule signature) λ s. function_end a v s

abbrev pub extern_turn : Place → Syntax → Syntax → Plan
extern_turn p a v =
    reads (plainly (word w_extern)) λ e.
    turns (at_word w_crate) (extern_crate_plan a v e)
    (extern_plan p a v absent (Node absent) e)

abbrev pub unsafe_turn : Place → Syntax → Syntax → Plan
unsafe_turn p a v =
    reads (item_word w_unsafe) λ u.
    turns (at_word w_mod) (module_plan a v (Left u))
    (turns (at_word w_trait or_else at_word w_auto) (trait_plan a v absent (Left u))
    (unsafe_plan p a v u))

-- neither an extern crate, nor a module, a trait or an impl
abbrev pub module_or_function_turn : Place → Syntax → Syntax → Plan
module_or_function_turn p a v =
    turns at_extern (reads (plainly (word w_extern)) λ e. extern_plan p a v absent (Node absent) e)
    (reads (item_word w_unsafe) λ u.
    turns at_extern (reads (plainly (word w_extern)) λ e. extern_plan p a v (Left u) (Node (Left (untag u))) e)
    (signature_end a v absent absent (Node (Left (untag u))) absent))

abbrev pub const_turn : Place → Syntax → Syntax → Plan
const_turn p a v = reads (item_word w_const) λ c. following_const p a v c

abbrev pub const_or_kept_turn : Syntax → Syntax → Plan
const_or_kept_turn a v = reads (item_word w_const) λ c. const_plan a v c

abbrev pub default_impl_turn : Syntax → Plan
default_impl_turn a = reads (item_word w_default) λ d. reads (optional_item_word w_const) λ c. reads (optional_item_word w_unsafe) λ u. impl_plan a (Left d) c u

-- the kinds after the first seven
abbrev pub other_kinds_turn : Place → Syntax → Syntax → Plan
other_kinds_turn p a v =
    turns (at_word w_trait) (trait_or_alias a v)
    (turns (at_word w_auto and_also ahead Begins_item) (trait_plan a v absent absent)
    (turns (at_word w_macro) definition_plan
    (turns (at_word w_fn or_else at_word w_async) (function_turn a v)
    (turns at_extern (extern_turn p a v)
    (turns (at_word w_unsafe) (unsafe_turn p a v)
    (turns (at_word w_const) (const_turn p a v)
    (turns (at_word w_impl) (bare_impl_plan p a)
    (other_plan p a))))))))

-- an impl of a type in parentheses that hold one word, or a trait after such a restriction, after `impl`
abbrev pub lone_word_turn : Syntax → Syntax → Syntax → Syntax → Syntax → Plan
lone_word_turn a d c u k =
    reads (rule type) λ t.
    turns at_for kept_impl
    (turns (at_where or_else at_brace) (reads (rule impl_body) λ b. ends (impl_of a d c u k absent (Right (Right (Both t b)))))
    (keeps restricted_end))

-- braces follow an ABI, perhaps with `unsafe` before it
abbrev pub braces_next : Out → Bool
braces_next (Some p) = sees at_brace p.1
braces_next None = false

abbrev pub module_next : Stream → Bool
module_next ts = braces_next (parse_form (optional_item_word w_unsafe & rule abi) ts)
