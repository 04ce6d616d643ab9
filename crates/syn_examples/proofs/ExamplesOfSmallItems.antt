-- Written by tools/grammar.py from specs/Table.antt; edits are lost.
-- Worked examples of constants, statics, uses, modules, type aliases and macros, from tools/examples.txt: what each rule reads, prints and refuses. The checker computes each.
use Rattle.std.proofs.Common.{true, false, [], ◌∷◌, refl}
use Rattle.syn_grammar.specs.Words.{w_underscore, w_as, w_const, w_crate, w_extern, w_fn, w_mod, w_mut, w_pub, w_Self_type, w_self, w_static, w_super, w_trait, w_try, w_type, w_unsafe, w_use, w_where, w_default}
use Rattle.syn_grammar.specs.Tokens.{call_site, Paren, Brace, Bracket, Int, ident, literal, end, leaf, punct, group}
use Rattle.syn_grammar.specs.Rules.{crate_macro, brace_macro, crate_macro_item, const_item, const_item_rest, static_mutability, static_item, static_item_rest, extern_crate, extern_crate_rest, use_tree, use_trees, root_mark, rooted_tree, rooted_trees, use_item, use_item_rest, rooted_use, module_item, module_item_rest, alias_bounds, type_bounds, alias, trait_alias, trait_alias_rest, type_item, type_item_rest, macro_end, macro_item, macro_item_rest, macro_as_item, macro_as_item_rest}
use Rattle.syn_grammar.specs.Grammar.{rule}
use Rattle.syn_grammar.specs.Take.{left, is_end, lookahead_at, sees, take_token, take_lifetime, take_mark, take_group, before, first_span}
use Rattle.syn_grammar.specs.Run.{rows_for, rows, run, parse_rule}
use Rattle.syn_grammar.specs.Promises.{Refused, NotDerived}
use Rattle.syn_grammar.proofs.Means.{not_derived}
use Rattle.syn_grammar.proofs.Shown.{at, DerivesAs, computed, not_read}

-- `#[a] pub const b: c = d;` prints `# [a] pub const b : c = d ;`
const_whole : DerivesAs const_item
    (punct 35 false (at 0 1) (group Bracket (at 1 2) (at 3 4) (leaf (ident (97 ∷ [])) (at 2 3) end) (leaf (ident w_pub) (at 5 8) (leaf (ident w_const) (at 9 14) (leaf (ident (98 ∷ [])) (at 15 16) (punct 58 false (at 16 17) (leaf (ident (99 ∷ [])) (at 18 19) (punct 61 false (at 20 21) (leaf (ident (100 ∷ [])) (at 22 23) (punct 59 false (at 23 24) end))))))))))
    (punct 35 false call_site (group Bracket call_site call_site (leaf (ident (97 ∷ [])) call_site end) (leaf (ident w_pub) call_site (leaf (ident w_const) call_site (leaf (ident (98 ∷ [])) call_site (punct 58 false call_site (leaf (ident (99 ∷ [])) call_site (punct 61 false call_site (leaf (ident (100 ∷ [])) call_site (punct 59 false call_site end))))))))))
    (end)
unfolding left is_end lookahead_at sees take_token take_lifetime take_mark take_group before rows_for rows run parse_rule
const_whole = computed const_item _ _ _ refl

-- `const _: a = b;` prints `const _ : a = b ;`
const_underscore : DerivesAs const_item
    (leaf (ident w_const) (at 0 5) (leaf (ident w_underscore) (at 6 7) (punct 58 false (at 7 8) (leaf (ident (97 ∷ [])) (at 9 10) (punct 61 false (at 11 12) (leaf (ident (98 ∷ [])) (at 13 14) (punct 59 false (at 14 15) end)))))))
    (leaf (ident w_const) call_site (leaf (ident w_underscore) call_site (punct 58 false call_site (leaf (ident (97 ∷ [])) call_site (punct 61 false call_site (leaf (ident (98 ∷ [])) call_site (punct 59 false call_site end)))))))
    (end)
unfolding left is_end lookahead_at sees take_token take_lifetime take_mark take_group before rows_for rows run parse_rule
const_underscore = computed const_item _ _ _ refl

-- `const a<b>: c = d;`: nothing is read
const_generics : NotDerived (rule const_item)
    (leaf (ident w_const) (at 0 5) (leaf (ident (97 ∷ [])) (at 6 7) (punct 60 false (at 7 8) (leaf (ident (98 ∷ [])) (at 8 9) (punct 62 true (at 9 10) (punct 58 false (at 10 11) (leaf (ident (99 ∷ [])) (at 12 13) (punct 61 false (at 14 15) (leaf (ident (100 ∷ [])) (at 16 17) (punct 59 false (at 17 18) end))))))))))
unfolding left is_end lookahead_at sees take_token take_lifetime take_mark take_group before rows_for rows run parse_rule
const_generics = not_read const_item _ refl

-- `const a: b;`: nothing is read
const_no_value : NotDerived (rule const_item)
    (leaf (ident w_const) (at 0 5) (leaf (ident (97 ∷ [])) (at 6 7) (punct 58 false (at 7 8) (leaf (ident (98 ∷ [])) (at 9 10) (punct 59 false (at 10 11) end)))))
unfolding left is_end lookahead_at sees take_token take_lifetime take_mark take_group before rows_for rows run parse_rule
const_no_value = not_read const_item _ refl

-- `const a: b = 1 + 2;` prints `const a : b = 1 + 2 ;`
const_rest_plain : DerivesAs const_item_rest
    (leaf (ident w_const) (at 0 5) (leaf (ident (97 ∷ [])) (at 6 7) (punct 58 false (at 7 8) (leaf (ident (98 ∷ [])) (at 9 10) (punct 61 false (at 11 12) (leaf (literal Int (49 ∷ [])) (at 13 14) (punct 43 false (at 15 16) (leaf (literal Int (50 ∷ [])) (at 17 18) (punct 59 false (at 18 19) end)))))))))
    (leaf (ident w_const) call_site (leaf (ident (97 ∷ [])) call_site (punct 58 false call_site (leaf (ident (98 ∷ [])) call_site (punct 61 false call_site (leaf (literal Int (49 ∷ [])) call_site (punct 43 false call_site (leaf (literal Int (50 ∷ [])) call_site (punct 59 false call_site end)))))))))
    (end)
unfolding left is_end lookahead_at sees take_token take_lifetime take_mark take_group before rows_for rows run parse_rule
const_rest_plain = computed const_item_rest _ _ _ refl

-- `const a = 1;`: nothing is read
const_rest_no_type : NotDerived (rule const_item_rest)
    (leaf (ident w_const) (at 0 5) (leaf (ident (97 ∷ [])) (at 6 7) (punct 61 false (at 8 9) (leaf (literal Int (49 ∷ [])) (at 10 11) (punct 59 false (at 11 12) end)))))
unfolding left is_end lookahead_at sees take_token take_lifetime take_mark take_group before rows_for rows run parse_rule
const_rest_no_type = not_read const_item_rest _ refl

-- `mut` prints `mut`
static_mutability_mut : DerivesAs static_mutability
    (leaf (ident w_mut) (at 0 3) end)
    (leaf (ident w_mut) call_site end)
    (end)
unfolding left is_end lookahead_at sees take_token take_lifetime take_mark take_group before rows_for rows run parse_rule
static_mutability_mut = computed static_mutability _ _ _ refl

-- `const` prints `` and leaves `const`
static_mutability_none : DerivesAs static_mutability
    (leaf (ident w_const) (at 0 5) end)
    (end)
    (leaf (ident w_const) (at 0 5) end)
unfolding left is_end lookahead_at sees take_token take_lifetime take_mark take_group before rows_for rows run parse_rule
static_mutability_none = computed static_mutability _ _ _ refl

-- `a` prints `` and leaves `a`
static_mutability_name : DerivesAs static_mutability
    (leaf (ident (97 ∷ [])) (at 0 1) end)
    (end)
    (leaf (ident (97 ∷ [])) (at 0 1) end)
unfolding left is_end lookahead_at sees take_token take_lifetime take_mark take_group before rows_for rows run parse_rule
static_mutability_name = computed static_mutability _ _ _ refl

-- no tokens prints ``
static_mutability_empty : DerivesAs static_mutability
    (end)
    (end)
    (end)
unfolding left is_end lookahead_at sees take_token take_lifetime take_mark take_group before rows_for rows run parse_rule
static_mutability_empty = computed static_mutability _ _ _ refl

-- `mut mut` prints `mut` and leaves `mut`
static_mutability_left : DerivesAs static_mutability
    (leaf (ident w_mut) (at 0 3) (leaf (ident w_mut) (at 4 7) end))
    (leaf (ident w_mut) call_site end)
    (leaf (ident w_mut) (at 4 7) end)
unfolding left is_end lookahead_at sees take_token take_lifetime take_mark take_group before rows_for rows run parse_rule
static_mutability_left = computed static_mutability _ _ _ refl

-- `const` is refused
static_mutability_whole : Refused static_mutability
    (leaf (ident w_const) (at 0 5) end)
unfolding left is_end lookahead_at sees take_token take_lifetime take_mark take_group before rows_for rows run parse_rule
static_mutability_whole = not_derived static_mutability _ refl

-- `#[a] static mut b: c = d;` prints `# [a] static mut b : c = d ;`
static_whole : DerivesAs static_item
    (punct 35 false (at 0 1) (group Bracket (at 1 2) (at 3 4) (leaf (ident (97 ∷ [])) (at 2 3) end) (leaf (ident w_static) (at 5 11) (leaf (ident w_mut) (at 12 15) (leaf (ident (98 ∷ [])) (at 16 17) (punct 58 false (at 17 18) (leaf (ident (99 ∷ [])) (at 19 20) (punct 61 false (at 21 22) (leaf (ident (100 ∷ [])) (at 23 24) (punct 59 false (at 24 25) end))))))))))
    (punct 35 false call_site (group Bracket call_site call_site (leaf (ident (97 ∷ [])) call_site end) (leaf (ident w_static) call_site (leaf (ident w_mut) call_site (leaf (ident (98 ∷ [])) call_site (punct 58 false call_site (leaf (ident (99 ∷ [])) call_site (punct 61 false call_site (leaf (ident (100 ∷ [])) call_site (punct 59 false call_site end))))))))))
    (end)
unfolding left is_end lookahead_at sees take_token take_lifetime take_mark take_group before rows_for rows run parse_rule
static_whole = computed static_item _ _ _ refl

-- `static _: a = b;`: nothing is read
static_underscore : NotDerived (rule static_item)
    (leaf (ident w_static) (at 0 6) (leaf (ident w_underscore) (at 7 8) (punct 58 false (at 8 9) (leaf (ident (97 ∷ [])) (at 10 11) (punct 61 false (at 12 13) (leaf (ident (98 ∷ [])) (at 14 15) (punct 59 false (at 15 16) end)))))))
unfolding left is_end lookahead_at sees take_token take_lifetime take_mark take_group before rows_for rows run parse_rule
static_underscore = not_read static_item _ refl

-- `pub static a: b = c;` prints `pub static a : b = c ;`
static_rest_plain : DerivesAs static_item_rest
    (leaf (ident w_pub) (at 0 3) (leaf (ident w_static) (at 4 10) (leaf (ident (97 ∷ [])) (at 11 12) (punct 58 false (at 12 13) (leaf (ident (98 ∷ [])) (at 14 15) (punct 61 false (at 16 17) (leaf (ident (99 ∷ [])) (at 18 19) (punct 59 false (at 19 20) end))))))))
    (leaf (ident w_pub) call_site (leaf (ident w_static) call_site (leaf (ident (97 ∷ [])) call_site (punct 58 false call_site (leaf (ident (98 ∷ [])) call_site (punct 61 false call_site (leaf (ident (99 ∷ [])) call_site (punct 59 false call_site end))))))))
    (end)
unfolding left is_end lookahead_at sees take_token take_lifetime take_mark take_group before rows_for rows run parse_rule
static_rest_plain = computed static_item_rest _ _ _ refl

-- `static a = b;`: nothing is read
static_rest_no_type : NotDerived (rule static_item_rest)
    (leaf (ident w_static) (at 0 6) (leaf (ident (97 ∷ [])) (at 7 8) (punct 61 false (at 9 10) (leaf (ident (98 ∷ [])) (at 11 12) (punct 59 false (at 12 13) end)))))
unfolding left is_end lookahead_at sees take_token take_lifetime take_mark take_group before rows_for rows run parse_rule
static_rest_no_type = not_read static_item_rest _ refl

-- `#[a] pub extern crate b as c;` prints `# [a] pub extern crate b as c ;`
extern_whole : DerivesAs extern_crate
    (punct 35 false (at 0 1) (group Bracket (at 1 2) (at 3 4) (leaf (ident (97 ∷ [])) (at 2 3) end) (leaf (ident w_pub) (at 5 8) (leaf (ident w_extern) (at 9 15) (leaf (ident w_crate) (at 16 21) (leaf (ident (98 ∷ [])) (at 22 23) (leaf (ident w_as) (at 24 26) (leaf (ident (99 ∷ [])) (at 27 28) (punct 59 false (at 28 29) end)))))))))
    (punct 35 false call_site (group Bracket call_site call_site (leaf (ident (97 ∷ [])) call_site end) (leaf (ident w_pub) call_site (leaf (ident w_extern) call_site (leaf (ident w_crate) call_site (leaf (ident (98 ∷ [])) call_site (leaf (ident w_as) call_site (leaf (ident (99 ∷ [])) call_site (punct 59 false call_site end)))))))))
    (end)
unfolding left is_end lookahead_at sees take_token take_lifetime take_mark take_group before rows_for rows run parse_rule
extern_whole = computed extern_crate _ _ _ refl

-- `extern crate self as _;` prints `extern crate self as _ ;`
extern_self : DerivesAs extern_crate
    (leaf (ident w_extern) (at 0 6) (leaf (ident w_crate) (at 7 12) (leaf (ident w_self) (at 13 17) (leaf (ident w_as) (at 18 20) (leaf (ident w_underscore) (at 21 22) (punct 59 false (at 22 23) end))))))
    (leaf (ident w_extern) call_site (leaf (ident w_crate) call_site (leaf (ident w_self) call_site (leaf (ident w_as) call_site (leaf (ident w_underscore) call_site (punct 59 false call_site end))))))
    (end)
unfolding left is_end lookahead_at sees take_token take_lifetime take_mark take_group before rows_for rows run parse_rule
extern_self = computed extern_crate _ _ _ refl

-- `extern crate crate;`: nothing is read
extern_crate_word : NotDerived (rule extern_crate)
    (leaf (ident w_extern) (at 0 6) (leaf (ident w_crate) (at 7 12) (leaf (ident w_crate) (at 13 18) (punct 59 false (at 18 19) end))))
unfolding left is_end lookahead_at sees take_token take_lifetime take_mark take_group before rows_for rows run parse_rule
extern_crate_word = not_read extern_crate _ refl

-- `extern crate a;` prints `extern crate a ;`
extern_rest_plain : DerivesAs extern_crate_rest
    (leaf (ident w_extern) (at 0 6) (leaf (ident w_crate) (at 7 12) (leaf (ident (97 ∷ [])) (at 13 14) (punct 59 false (at 14 15) end))))
    (leaf (ident w_extern) call_site (leaf (ident w_crate) call_site (leaf (ident (97 ∷ [])) call_site (punct 59 false call_site end))))
    (end)
unfolding left is_end lookahead_at sees take_token take_lifetime take_mark take_group before rows_for rows run parse_rule
extern_rest_plain = computed extern_crate_rest _ _ _ refl

-- `extern crate a::b;`: nothing is read
extern_rest_twice : NotDerived (rule extern_crate_rest)
    (leaf (ident w_extern) (at 0 6) (leaf (ident w_crate) (at 7 12) (leaf (ident (97 ∷ [])) (at 13 14) (punct 58 true (at 14 15) (punct 58 false (at 15 16) (leaf (ident (98 ∷ [])) (at 16 17) (punct 59 false (at 17 18) end)))))))
unfolding left is_end lookahead_at sees take_token take_lifetime take_mark take_group before rows_for rows run parse_rule
extern_rest_twice = not_read extern_crate_rest _ refl

-- `a::b` prints `a :: b`
use_tree_path : DerivesAs use_tree
    (leaf (ident (97 ∷ [])) (at 0 1) (punct 58 true (at 1 2) (punct 58 false (at 2 3) (leaf (ident (98 ∷ [])) (at 3 4) end))))
    (leaf (ident (97 ∷ [])) call_site (punct 58 true call_site (punct 58 false call_site (leaf (ident (98 ∷ [])) call_site end))))
    (end)
unfolding left is_end lookahead_at sees take_token take_lifetime take_mark take_group before rows_for rows run parse_rule
use_tree_path = computed use_tree _ _ _ refl

-- `crate::super::self` prints `crate :: super :: self`
use_tree_words : DerivesAs use_tree
    (leaf (ident w_crate) (at 0 5) (punct 58 true (at 5 6) (punct 58 false (at 6 7) (leaf (ident w_super) (at 7 12) (punct 58 true (at 12 13) (punct 58 false (at 13 14) (leaf (ident w_self) (at 14 18) end)))))))
    (leaf (ident w_crate) call_site (punct 58 true call_site (punct 58 false call_site (leaf (ident w_super) call_site (punct 58 true call_site (punct 58 false call_site (leaf (ident w_self) call_site end)))))))
    (end)
unfolding left is_end lookahead_at sees take_token take_lifetime take_mark take_group before rows_for rows run parse_rule
use_tree_words = computed use_tree _ _ _ refl

-- `a as _` prints `a as _`
use_tree_rename : DerivesAs use_tree
    (leaf (ident (97 ∷ [])) (at 0 1) (leaf (ident w_as) (at 2 4) (leaf (ident w_underscore) (at 5 6) end)))
    (leaf (ident (97 ∷ [])) call_site (leaf (ident w_as) call_site (leaf (ident w_underscore) call_site end)))
    (end)
unfolding left is_end lookahead_at sees take_token take_lifetime take_mark take_group before rows_for rows run parse_rule
use_tree_rename = computed use_tree _ _ _ refl

-- `a::*` prints `a :: *`
use_tree_glob : DerivesAs use_tree
    (leaf (ident (97 ∷ [])) (at 0 1) (punct 58 true (at 1 2) (punct 58 true (at 2 3) (punct 42 false (at 3 4) end))))
    (leaf (ident (97 ∷ [])) call_site (punct 58 true call_site (punct 58 false call_site (punct 42 false call_site end))))
    (end)
unfolding left is_end lookahead_at sees take_token take_lifetime take_mark take_group before rows_for rows run parse_rule
use_tree_glob = computed use_tree _ _ _ refl

-- `a::{b, c as d,}` prints `a :: {b , c as d ,}`
use_tree_group : DerivesAs use_tree
    (leaf (ident (97 ∷ [])) (at 0 1) (punct 58 true (at 1 2) (punct 58 false (at 2 3) (group Brace (at 3 4) (at 14 15) (leaf (ident (98 ∷ [])) (at 4 5) (punct 44 false (at 5 6) (leaf (ident (99 ∷ [])) (at 7 8) (leaf (ident w_as) (at 9 11) (leaf (ident (100 ∷ [])) (at 12 13) (punct 44 false (at 13 14) end)))))) end))))
    (leaf (ident (97 ∷ [])) call_site (punct 58 true call_site (punct 58 false call_site (group Brace call_site call_site (leaf (ident (98 ∷ [])) call_site (punct 44 false call_site (leaf (ident (99 ∷ [])) call_site (leaf (ident w_as) call_site (leaf (ident (100 ∷ [])) call_site (punct 44 false call_site end)))))) end))))
    (end)
unfolding left is_end lookahead_at sees take_token take_lifetime take_mark take_group before rows_for rows run parse_rule
use_tree_group = computed use_tree _ _ _ refl

-- `::a`: nothing is read
use_tree_rooted : NotDerived (rule use_tree)
    (punct 58 true (at 0 1) (punct 58 false (at 1 2) (leaf (ident (97 ∷ [])) (at 2 3) end)))
unfolding left is_end lookahead_at sees take_token take_lifetime take_mark take_group before rows_for rows run parse_rule
use_tree_rooted = not_read use_tree _ refl

-- `{::a}`: nothing is read
use_tree_inner_rooted : NotDerived (rule use_tree)
    (group Brace (at 0 1) (at 4 5) (punct 58 true (at 1 2) (punct 58 false (at 2 3) (leaf (ident (97 ∷ [])) (at 3 4) end))) end)
unfolding left is_end lookahead_at sees take_token take_lifetime take_mark take_group before rows_for rows run parse_rule
use_tree_inner_rooted = not_read use_tree _ refl

-- `a as 1`: nothing is read
use_tree_number : NotDerived (rule use_tree)
    (leaf (ident (97 ∷ [])) (at 0 1) (leaf (ident w_as) (at 2 4) (leaf (literal Int (49 ∷ [])) (at 5 6) end)))
unfolding left is_end lookahead_at sees take_token take_lifetime take_mark take_group before rows_for rows run parse_rule
use_tree_number = not_read use_tree _ refl

-- `a, *` prints `a , *`
use_trees_two : DerivesAs use_trees
    (leaf (ident (97 ∷ [])) (at 0 1) (punct 44 false (at 1 2) (punct 42 false (at 3 4) end)))
    (leaf (ident (97 ∷ [])) call_site (punct 44 false call_site (punct 42 false call_site end)))
    (end)
unfolding left is_end lookahead_at sees take_token take_lifetime take_mark take_group before rows_for rows run parse_rule
use_trees_two = computed use_trees _ _ _ refl

-- `::a`: nothing is read
use_trees_rooted : NotDerived (rule use_trees)
    (punct 58 true (at 0 1) (punct 58 false (at 1 2) (leaf (ident (97 ∷ [])) (at 2 3) end)))
unfolding left is_end lookahead_at sees take_token take_lifetime take_mark take_group before rows_for rows run parse_rule
use_trees_rooted = not_read use_trees _ refl

-- `::` prints `::`
root_mark_colons : DerivesAs root_mark
    (punct 58 true (at 0 1) (punct 58 false (at 1 2) end))
    (punct 58 true call_site (punct 58 false call_site end))
    (end)
unfolding left is_end lookahead_at sees take_token take_lifetime take_mark take_group before rows_for rows run parse_rule
root_mark_colons = computed root_mark _ _ _ refl

-- `:`: nothing is read
root_mark_colon : NotDerived (rule root_mark)
    (punct 58 false (at 0 1) end)
unfolding left is_end lookahead_at sees take_token take_lifetime take_mark take_group before rows_for rows run parse_rule
root_mark_colon = not_read root_mark _ refl

-- `::a::b` prints `:: a :: b`
rooted_tree_rooted : DerivesAs rooted_tree
    (punct 58 true (at 0 1) (punct 58 false (at 1 2) (leaf (ident (97 ∷ [])) (at 2 3) (punct 58 true (at 3 4) (punct 58 false (at 4 5) (leaf (ident (98 ∷ [])) (at 5 6) end))))))
    (punct 58 true call_site (punct 58 false call_site (leaf (ident (97 ∷ [])) call_site (punct 58 true call_site (punct 58 false call_site (leaf (ident (98 ∷ [])) call_site end))))))
    (end)
unfolding left is_end lookahead_at sees take_token take_lifetime take_mark take_group before rows_for rows run parse_rule
rooted_tree_rooted = computed rooted_tree _ _ _ refl

-- `{::a, b}` prints `{:: a , b}`
rooted_tree_group : DerivesAs rooted_tree
    (group Brace (at 0 1) (at 7 8) (punct 58 true (at 1 2) (punct 58 false (at 2 3) (leaf (ident (97 ∷ [])) (at 3 4) (punct 44 false (at 4 5) (leaf (ident (98 ∷ [])) (at 6 7) end))))) end)
    (group Brace call_site call_site (punct 58 true call_site (punct 58 false call_site (leaf (ident (97 ∷ [])) call_site (punct 44 false call_site (leaf (ident (98 ∷ [])) call_site end))))) end)
    (end)
unfolding left is_end lookahead_at sees take_token take_lifetime take_mark take_group before rows_for rows run parse_rule
rooted_tree_group = computed rooted_tree _ _ _ refl

-- `a::{::b}`: nothing is read
rooted_tree_inside : NotDerived (rule rooted_tree)
    (leaf (ident (97 ∷ [])) (at 0 1) (punct 58 true (at 1 2) (punct 58 false (at 2 3) (group Brace (at 3 4) (at 7 8) (punct 58 true (at 4 5) (punct 58 false (at 5 6) (leaf (ident (98 ∷ [])) (at 6 7) end))) end))))
unfolding left is_end lookahead_at sees take_token take_lifetime take_mark take_group before rows_for rows run parse_rule
rooted_tree_inside = not_read rooted_tree _ refl

-- `a, ::b,` prints `a , :: b ,`
rooted_trees_two : DerivesAs rooted_trees
    (leaf (ident (97 ∷ [])) (at 0 1) (punct 44 false (at 1 2) (punct 58 true (at 3 4) (punct 58 false (at 4 5) (leaf (ident (98 ∷ [])) (at 5 6) (punct 44 false (at 6 7) end))))))
    (leaf (ident (97 ∷ [])) call_site (punct 44 false call_site (punct 58 true call_site (punct 58 false call_site (leaf (ident (98 ∷ [])) call_site (punct 44 false call_site end))))))
    (end)
unfolding left is_end lookahead_at sees take_token take_lifetime take_mark take_group before rows_for rows run parse_rule
rooted_trees_two = computed rooted_trees _ _ _ refl

-- `::::a`: nothing is read
rooted_trees_rooted_twice : NotDerived (rule rooted_trees)
    (punct 58 true (at 0 1) (punct 58 true (at 1 2) (punct 58 true (at 2 3) (punct 58 false (at 3 4) (leaf (ident (97 ∷ [])) (at 4 5) end)))))
unfolding left is_end lookahead_at sees take_token take_lifetime take_mark take_group before rows_for rows run parse_rule
rooted_trees_rooted_twice = not_read rooted_trees _ refl

-- `#[a] pub use ::b::c;` prints `# [a] pub use :: b :: c ;`
use_item_whole : DerivesAs use_item
    (punct 35 false (at 0 1) (group Bracket (at 1 2) (at 3 4) (leaf (ident (97 ∷ [])) (at 2 3) end) (leaf (ident w_pub) (at 5 8) (leaf (ident w_use) (at 9 12) (punct 58 true (at 13 14) (punct 58 false (at 14 15) (leaf (ident (98 ∷ [])) (at 15 16) (punct 58 true (at 16 17) (punct 58 false (at 17 18) (leaf (ident (99 ∷ [])) (at 18 19) (punct 59 false (at 19 20) end)))))))))))
    (punct 35 false call_site (group Bracket call_site call_site (leaf (ident (97 ∷ [])) call_site end) (leaf (ident w_pub) call_site (leaf (ident w_use) call_site (punct 58 true call_site (punct 58 false call_site (leaf (ident (98 ∷ [])) call_site (punct 58 true call_site (punct 58 false call_site (leaf (ident (99 ∷ [])) call_site (punct 59 false call_site end)))))))))))
    (end)
unfolding left is_end lookahead_at sees take_token take_lifetime take_mark take_group before rows_for rows run parse_rule
use_item_whole = computed use_item _ _ _ refl

-- `use {a, {b}};` prints `use {a , {b}} ;`
use_item_group : DerivesAs use_item
    (leaf (ident w_use) (at 0 3) (group Brace (at 4 5) (at 11 12) (leaf (ident (97 ∷ [])) (at 5 6) (punct 44 false (at 6 7) (group Brace (at 8 9) (at 10 11) (leaf (ident (98 ∷ [])) (at 9 10) end) end))) (punct 59 false (at 12 13) end)))
    (leaf (ident w_use) call_site (group Brace call_site call_site (leaf (ident (97 ∷ [])) call_site (punct 44 false call_site (group Brace call_site call_site (leaf (ident (98 ∷ [])) call_site end) end))) (punct 59 false call_site end)))
    (end)
unfolding left is_end lookahead_at sees take_token take_lifetime take_mark take_group before rows_for rows run parse_rule
use_item_group = computed use_item _ _ _ refl

-- `use {::a};`: nothing is read
use_item_rooted : NotDerived (rule use_item)
    (leaf (ident w_use) (at 0 3) (group Brace (at 4 5) (at 8 9) (punct 58 true (at 5 6) (punct 58 false (at 6 7) (leaf (ident (97 ∷ [])) (at 7 8) end))) (punct 59 false (at 9 10) end)))
unfolding left is_end lookahead_at sees take_token take_lifetime take_mark take_group before rows_for rows run parse_rule
use_item_rooted = not_read use_item _ refl

-- `use a;` prints `use a ;`
use_rest_plain : DerivesAs use_item_rest
    (leaf (ident w_use) (at 0 3) (leaf (ident (97 ∷ [])) (at 4 5) (punct 59 false (at 5 6) end)))
    (leaf (ident w_use) call_site (leaf (ident (97 ∷ [])) call_site (punct 59 false call_site end)))
    (end)
unfolding left is_end lookahead_at sees take_token take_lifetime take_mark take_group before rows_for rows run parse_rule
use_rest_plain = computed use_item_rest _ _ _ refl

-- `use ::{::a};`: nothing is read
use_rest_rooted_group : NotDerived (rule use_item_rest)
    (leaf (ident w_use) (at 0 3) (punct 58 true (at 4 5) (punct 58 false (at 5 6) (group Brace (at 6 7) (at 10 11) (punct 58 true (at 7 8) (punct 58 false (at 8 9) (leaf (ident (97 ∷ [])) (at 9 10) end))) (punct 59 false (at 11 12) end)))))
unfolding left is_end lookahead_at sees take_token take_lifetime take_mark take_group before rows_for rows run parse_rule
use_rest_rooted_group = not_read use_item_rest _ refl

-- `pub use {a, {::b}};` prints `pub use {a , {:: b}} ;`
rooted_use_inner : DerivesAs rooted_use
    (leaf (ident w_pub) (at 0 3) (leaf (ident w_use) (at 4 7) (group Brace (at 8 9) (at 17 18) (leaf (ident (97 ∷ [])) (at 9 10) (punct 44 false (at 10 11) (group Brace (at 12 13) (at 16 17) (punct 58 true (at 13 14) (punct 58 false (at 14 15) (leaf (ident (98 ∷ [])) (at 15 16) end))) end))) (punct 59 false (at 18 19) end))))
    (leaf (ident w_pub) call_site (leaf (ident w_use) call_site (group Brace call_site call_site (leaf (ident (97 ∷ [])) call_site (punct 44 false call_site (group Brace call_site call_site (punct 58 true call_site (punct 58 false call_site (leaf (ident (98 ∷ [])) call_site end))) end))) (punct 59 false call_site end))))
    (end)
unfolding left is_end lookahead_at sees take_token take_lifetime take_mark take_group before rows_for rows run parse_rule
rooted_use_inner = computed rooted_use _ _ _ refl

-- `use {a};`: nothing is read
rooted_use_plain : NotDerived (rule rooted_use)
    (leaf (ident w_use) (at 0 3) (group Brace (at 4 5) (at 6 7) (leaf (ident (97 ∷ [])) (at 5 6) end) (punct 59 false (at 7 8) end)))
unfolding left is_end lookahead_at sees take_token take_lifetime take_mark take_group before rows_for rows run parse_rule
rooted_use_plain = not_read rooted_use _ refl

-- `#[a] pub mod b { #![c] use d; }` prints `# [a] pub mod b {# ! [c] use d ;}`
module_braces : DerivesAs module_item
    (punct 35 false (at 0 1) (group Bracket (at 1 2) (at 3 4) (leaf (ident (97 ∷ [])) (at 2 3) end) (leaf (ident w_pub) (at 5 8) (leaf (ident w_mod) (at 9 12) (leaf (ident (98 ∷ [])) (at 13 14) (group Brace (at 15 16) (at 30 31) (punct 35 true (at 17 18) (punct 33 false (at 18 19) (group Bracket (at 19 20) (at 21 22) (leaf (ident (99 ∷ [])) (at 20 21) end) (leaf (ident w_use) (at 23 26) (leaf (ident (100 ∷ [])) (at 27 28) (punct 59 false (at 28 29) end)))))) end))))))
    (punct 35 false call_site (group Bracket call_site call_site (leaf (ident (97 ∷ [])) call_site end) (leaf (ident w_pub) call_site (leaf (ident w_mod) call_site (leaf (ident (98 ∷ [])) call_site (group Brace call_site call_site (punct 35 false call_site (punct 33 false call_site (group Bracket call_site call_site (leaf (ident (99 ∷ [])) call_site end) (leaf (ident w_use) call_site (leaf (ident (100 ∷ [])) call_site (punct 59 false call_site end)))))) end))))))
    (end)
unfolding left is_end lookahead_at sees take_token take_lifetime take_mark take_group before first_span rows_for rows run parse_rule
module_braces = computed module_item _ _ _ refl

-- `unsafe mod try;` prints `unsafe mod try ;`
module_semi : DerivesAs module_item
    (leaf (ident w_unsafe) (at 0 6) (leaf (ident w_mod) (at 7 10) (leaf (ident w_try) (at 11 14) (punct 59 false (at 14 15) end))))
    (leaf (ident w_unsafe) call_site (leaf (ident w_mod) call_site (leaf (ident w_try) call_site (punct 59 false call_site end))))
    (end)
unfolding left is_end lookahead_at sees take_token take_lifetime take_mark take_group before first_span rows_for rows run parse_rule
module_semi = computed module_item _ _ _ refl

-- `mod a {};` prints `mod a {}` and leaves `;`
module_braces_semi : DerivesAs module_item
    (leaf (ident w_mod) (at 0 3) (leaf (ident (97 ∷ [])) (at 4 5) (group Brace (at 6 7) (at 7 8) end (punct 59 false (at 8 9) end))))
    (leaf (ident w_mod) call_site (leaf (ident (97 ∷ [])) call_site (group Brace call_site call_site end end)))
    (punct 59 false (at 8 9) end)
unfolding left is_end lookahead_at sees take_token take_lifetime take_mark take_group before first_span rows_for rows run parse_rule
module_braces_semi = computed module_item _ _ _ refl

-- `mod fn {}`: nothing is read
module_keyword : NotDerived (rule module_item)
    (leaf (ident w_mod) (at 0 3) (leaf (ident w_fn) (at 4 6) (group Brace (at 7 8) (at 8 9) end end)))
unfolding left is_end lookahead_at sees take_token take_lifetime take_mark take_group before first_span rows_for rows run parse_rule
module_keyword = not_read module_item _ refl

-- `mod a { mod b; }` prints `mod a {mod b ;}`
module_rest_plain : DerivesAs module_item_rest
    (leaf (ident w_mod) (at 0 3) (leaf (ident (97 ∷ [])) (at 4 5) (group Brace (at 6 7) (at 15 16) (leaf (ident w_mod) (at 8 11) (leaf (ident (98 ∷ [])) (at 12 13) (punct 59 false (at 13 14) end))) end)))
    (leaf (ident w_mod) call_site (leaf (ident (97 ∷ [])) call_site (group Brace call_site call_site (leaf (ident w_mod) call_site (leaf (ident (98 ∷ [])) call_site (punct 59 false call_site end))) end)))
    (end)
unfolding left is_end lookahead_at sees take_token take_lifetime take_mark take_group before first_span rows_for rows run parse_rule
module_rest_plain = computed module_item_rest _ _ _ refl

-- `mod a { use b; #![c] }`: nothing is read
module_rest_inner_attribute : NotDerived (rule module_item_rest)
    (leaf (ident w_mod) (at 0 3) (leaf (ident (97 ∷ [])) (at 4 5) (group Brace (at 6 7) (at 21 22) (leaf (ident w_use) (at 8 11) (leaf (ident (98 ∷ [])) (at 12 13) (punct 59 false (at 13 14) (punct 35 true (at 15 16) (punct 33 false (at 16 17) (group Bracket (at 17 18) (at 19 20) (leaf (ident (99 ∷ [])) (at 18 19) end) end)))))) end)))
unfolding left is_end lookahead_at sees take_token take_lifetime take_mark take_group before first_span rows_for rows run parse_rule
module_rest_inner_attribute = not_read module_item_rest _ refl

-- `a + 'b +;` prints `a + 'b +` and leaves `;`
alias_bounds_two : DerivesAs alias_bounds
    (leaf (ident (97 ∷ [])) (at 0 1) (punct 43 false (at 2 3) (punct 39 true (at 4 5) (leaf (ident (98 ∷ [])) (at 5 6) (punct 43 true (at 7 8) (punct 59 false (at 8 9) end))))))
    (leaf (ident (97 ∷ [])) call_site (punct 43 false call_site (punct 39 true call_site (leaf (ident (98 ∷ [])) call_site (punct 43 false call_site end)))))
    (punct 59 false (at 8 9) end)
unfolding left is_end lookahead_at sees take_token take_lifetime take_mark take_group before rows_for rows run parse_rule
alias_bounds_two = computed alias_bounds _ _ _ refl

-- `+`: nothing is read
alias_bounds_plus : NotDerived (rule alias_bounds)
    (punct 43 false (at 0 1) end)
unfolding left is_end lookahead_at sees take_token take_lifetime take_mark take_group before rows_for rows run parse_rule
alias_bounds_plus = not_read alias_bounds _ refl

-- `a = b` prints `a` and leaves `= b`
type_bounds_one : DerivesAs type_bounds
    (leaf (ident (97 ∷ [])) (at 0 1) (punct 61 false (at 2 3) (leaf (ident (98 ∷ [])) (at 4 5) end)))
    (leaf (ident (97 ∷ [])) call_site end)
    (punct 61 false (at 2 3) (leaf (ident (98 ∷ [])) (at 4 5) end))
unfolding left is_end lookahead_at sees take_token take_lifetime take_mark take_group before rows_for rows run parse_rule
type_bounds_one = computed type_bounds _ _ _ refl

-- `+`: nothing is read
type_bounds_plus : NotDerived (rule type_bounds)
    (punct 43 false (at 0 1) end)
unfolding left is_end lookahead_at sees take_token take_lifetime take_mark take_group before rows_for rows run parse_rule
type_bounds_plus = not_read type_bounds _ refl

-- `trait a<b> = c + d where e: f;` prints `trait a < b > = c + d where e : f ;`
alias_plain : DerivesAs alias
    (leaf (ident w_trait) (at 0 5) (leaf (ident (97 ∷ [])) (at 6 7) (punct 60 false (at 7 8) (leaf (ident (98 ∷ [])) (at 8 9) (punct 62 false (at 9 10) (punct 61 false (at 11 12) (leaf (ident (99 ∷ [])) (at 13 14) (punct 43 false (at 15 16) (leaf (ident (100 ∷ [])) (at 17 18) (leaf (ident w_where) (at 19 24) (leaf (ident (101 ∷ [])) (at 25 26) (punct 58 false (at 26 27) (leaf (ident (102 ∷ [])) (at 28 29) (punct 59 false (at 29 30) end))))))))))))))
    (leaf (ident w_trait) call_site (leaf (ident (97 ∷ [])) call_site (punct 60 false call_site (leaf (ident (98 ∷ [])) call_site (punct 62 false call_site (punct 61 false call_site (leaf (ident (99 ∷ [])) call_site (punct 43 false call_site (leaf (ident (100 ∷ [])) call_site (leaf (ident w_where) call_site (leaf (ident (101 ∷ [])) call_site (punct 58 false call_site (leaf (ident (102 ∷ [])) call_site (punct 59 false call_site end))))))))))))))
    (end)
unfolding left is_end lookahead_at sees take_token take_lifetime take_mark take_group before rows_for rows run parse_rule
alias_plain = computed alias _ _ _ refl

-- `trait a;`: nothing is read
alias_no_equals : NotDerived (rule alias)
    (leaf (ident w_trait) (at 0 5) (leaf (ident (97 ∷ [])) (at 6 7) (punct 59 false (at 7 8) end)))
unfolding left is_end lookahead_at sees take_token take_lifetime take_mark take_group before rows_for rows run parse_rule
alias_no_equals = not_read alias _ refl

-- `#[a] pub trait b = c;` prints `# [a] pub trait b = c ;`
trait_alias_whole : DerivesAs trait_alias
    (punct 35 false (at 0 1) (group Bracket (at 1 2) (at 3 4) (leaf (ident (97 ∷ [])) (at 2 3) end) (leaf (ident w_pub) (at 5 8) (leaf (ident w_trait) (at 9 14) (leaf (ident (98 ∷ [])) (at 15 16) (punct 61 false (at 17 18) (leaf (ident (99 ∷ [])) (at 19 20) (punct 59 false (at 20 21) end))))))))
    (punct 35 false call_site (group Bracket call_site call_site (leaf (ident (97 ∷ [])) call_site end) (leaf (ident w_pub) call_site (leaf (ident w_trait) call_site (leaf (ident (98 ∷ [])) call_site (punct 61 false call_site (leaf (ident (99 ∷ [])) call_site (punct 59 false call_site end))))))))
    (end)
unfolding left is_end lookahead_at sees take_token take_lifetime take_mark take_group before rows_for rows run parse_rule
trait_alias_whole = computed trait_alias _ _ _ refl

-- `trait a {}`: nothing is read
trait_alias_braces : NotDerived (rule trait_alias)
    (leaf (ident w_trait) (at 0 5) (leaf (ident (97 ∷ [])) (at 6 7) (group Brace (at 8 9) (at 9 10) end end)))
unfolding left is_end lookahead_at sees take_token take_lifetime take_mark take_group before rows_for rows run parse_rule
trait_alias_braces = not_read trait_alias _ refl

-- `trait a =;` prints `trait a = ;`
trait_alias_rest_plain : DerivesAs trait_alias_rest
    (leaf (ident w_trait) (at 0 5) (leaf (ident (97 ∷ [])) (at 6 7) (punct 61 true (at 8 9) (punct 59 false (at 9 10) end))))
    (leaf (ident w_trait) call_site (leaf (ident (97 ∷ [])) call_site (punct 61 false call_site (punct 59 false call_site end))))
    (end)
unfolding left is_end lookahead_at sees take_token take_lifetime take_mark take_group before rows_for rows run parse_rule
trait_alias_rest_plain = computed trait_alias_rest _ _ _ refl

-- `const trait a = b;`: nothing is read
trait_alias_rest_const : NotDerived (rule trait_alias_rest)
    (leaf (ident w_const) (at 0 5) (leaf (ident w_trait) (at 6 11) (leaf (ident (97 ∷ [])) (at 12 13) (punct 61 false (at 14 15) (leaf (ident (98 ∷ [])) (at 16 17) (punct 59 false (at 17 18) end))))))
unfolding left is_end lookahead_at sees take_token take_lifetime take_mark take_group before rows_for rows run parse_rule
trait_alias_rest_const = not_read trait_alias_rest _ refl

-- `type a<b> where c: d = e;` prints `type a < b > where c : d = e ;`
type_early : DerivesAs type_item
    (leaf (ident w_type) (at 0 4) (leaf (ident (97 ∷ [])) (at 5 6) (punct 60 false (at 6 7) (leaf (ident (98 ∷ [])) (at 7 8) (punct 62 false (at 8 9) (leaf (ident w_where) (at 10 15) (leaf (ident (99 ∷ [])) (at 16 17) (punct 58 false (at 17 18) (leaf (ident (100 ∷ [])) (at 19 20) (punct 61 false (at 21 22) (leaf (ident (101 ∷ [])) (at 23 24) (punct 59 false (at 24 25) end))))))))))))
    (leaf (ident w_type) call_site (leaf (ident (97 ∷ [])) call_site (punct 60 false call_site (leaf (ident (98 ∷ [])) call_site (punct 62 false call_site (leaf (ident w_where) call_site (leaf (ident (99 ∷ [])) call_site (punct 58 false call_site (leaf (ident (100 ∷ [])) call_site (punct 61 false call_site (leaf (ident (101 ∷ [])) call_site (punct 59 false call_site end))))))))))))
    (end)
unfolding left is_end lookahead_at sees take_token take_lifetime take_mark take_group before rows_for rows run parse_rule
type_early = computed type_item _ _ _ refl

-- `#[a] type b = c where d: e;` prints `# [a] type b = c where d : e ;`
type_late : DerivesAs type_item
    (punct 35 false (at 0 1) (group Bracket (at 1 2) (at 3 4) (leaf (ident (97 ∷ [])) (at 2 3) end) (leaf (ident w_type) (at 5 9) (leaf (ident (98 ∷ [])) (at 10 11) (punct 61 false (at 12 13) (leaf (ident (99 ∷ [])) (at 14 15) (leaf (ident w_where) (at 16 21) (leaf (ident (100 ∷ [])) (at 22 23) (punct 58 false (at 23 24) (leaf (ident (101 ∷ [])) (at 25 26) (punct 59 false (at 26 27) end)))))))))))
    (punct 35 false call_site (group Bracket call_site call_site (leaf (ident (97 ∷ [])) call_site end) (leaf (ident w_type) call_site (leaf (ident (98 ∷ [])) call_site (punct 61 false call_site (leaf (ident (99 ∷ [])) call_site (leaf (ident w_where) call_site (leaf (ident (100 ∷ [])) call_site (punct 58 false call_site (leaf (ident (101 ∷ [])) call_site (punct 59 false call_site end)))))))))))
    (end)
unfolding left is_end lookahead_at sees take_token take_lifetime take_mark take_group before rows_for rows run parse_rule
type_late = computed type_item _ _ _ refl

-- `type a where = b where;`: nothing is read
type_where_twice : NotDerived (rule type_item)
    (leaf (ident w_type) (at 0 4) (leaf (ident (97 ∷ [])) (at 5 6) (leaf (ident w_where) (at 7 12) (punct 61 false (at 13 14) (leaf (ident (98 ∷ [])) (at 15 16) (leaf (ident w_where) (at 17 22) (punct 59 false (at 22 23) end)))))))
unfolding left is_end lookahead_at sees take_token take_lifetime take_mark take_group before rows_for rows run parse_rule
type_where_twice = not_read type_item _ refl

-- `type a: b = c;`: nothing is read
type_bounds_refused : NotDerived (rule type_item)
    (leaf (ident w_type) (at 0 4) (leaf (ident (97 ∷ [])) (at 5 6) (punct 58 false (at 6 7) (leaf (ident (98 ∷ [])) (at 8 9) (punct 61 false (at 10 11) (leaf (ident (99 ∷ [])) (at 12 13) (punct 59 false (at 13 14) end)))))))
unfolding left is_end lookahead_at sees take_token take_lifetime take_mark take_group before rows_for rows run parse_rule
type_bounds_refused = not_read type_item _ refl

-- `pub type a = b;` prints `pub type a = b ;`
type_rest_plain : DerivesAs type_item_rest
    (leaf (ident w_pub) (at 0 3) (leaf (ident w_type) (at 4 8) (leaf (ident (97 ∷ [])) (at 9 10) (punct 61 false (at 11 12) (leaf (ident (98 ∷ [])) (at 13 14) (punct 59 false (at 14 15) end))))))
    (leaf (ident w_pub) call_site (leaf (ident w_type) call_site (leaf (ident (97 ∷ [])) call_site (punct 61 false call_site (leaf (ident (98 ∷ [])) call_site (punct 59 false call_site end))))))
    (end)
unfolding left is_end lookahead_at sees take_token take_lifetime take_mark take_group before rows_for rows run parse_rule
type_rest_plain = computed type_item_rest _ _ _ refl

-- `type a;`: nothing is read
type_rest_no_type : NotDerived (rule type_item_rest)
    (leaf (ident w_type) (at 0 4) (leaf (ident (97 ∷ [])) (at 5 6) (punct 59 false (at 6 7) end)))
unfolding left is_end lookahead_at sees take_token take_lifetime take_mark take_group before rows_for rows run parse_rule
type_rest_no_type = not_read type_item_rest _ refl

-- `(a);` prints `(a) ;`
macro_end_parens : DerivesAs macro_end
    (group Paren (at 0 1) (at 2 3) (leaf (ident (97 ∷ [])) (at 1 2) end) (punct 59 false (at 3 4) end))
    (group Paren call_site call_site (leaf (ident (97 ∷ [])) call_site end) (punct 59 false call_site end))
    (end)
unfolding left is_end lookahead_at sees take_token take_lifetime take_mark take_group before rows_for rows run parse_rule
macro_end_parens = computed macro_end _ _ _ refl

-- `{a};` prints `{a}` and leaves `;`
macro_end_braces : DerivesAs macro_end
    (group Brace (at 0 1) (at 2 3) (leaf (ident (97 ∷ [])) (at 1 2) end) (punct 59 false (at 3 4) end))
    (group Brace call_site call_site (leaf (ident (97 ∷ [])) call_site end) end)
    (punct 59 false (at 3 4) end)
unfolding left is_end lookahead_at sees take_token take_lifetime take_mark take_group before rows_for rows run parse_rule
macro_end_braces = computed macro_end _ _ _ refl

-- `(a)`: nothing is read
macro_end_no_semi : NotDerived (rule macro_end)
    (group Paren (at 0 1) (at 2 3) (leaf (ident (97 ∷ [])) (at 1 2) end) end)
unfolding left is_end lookahead_at sees take_token take_lifetime take_mark take_group before rows_for rows run parse_rule
macro_end_no_semi = not_read macro_end _ refl

-- `#[a] b! try {}` prints `# [a] b ! try {}`
macro_item_named : DerivesAs macro_item
    (punct 35 false (at 0 1) (group Bracket (at 1 2) (at 3 4) (leaf (ident (97 ∷ [])) (at 2 3) end) (leaf (ident (98 ∷ [])) (at 5 6) (punct 33 false (at 6 7) (leaf (ident w_try) (at 8 11) (group Brace (at 12 13) (at 13 14) end end))))))
    (punct 35 false call_site (group Bracket call_site call_site (leaf (ident (97 ∷ [])) call_site end) (leaf (ident (98 ∷ [])) call_site (punct 33 false call_site (leaf (ident w_try) call_site (group Brace call_site call_site end end))))))
    (end)
unfolding left is_end lookahead_at sees take_token take_lifetime take_mark take_group before rows_for rows run parse_rule
macro_item_named = computed macro_item _ _ _ refl

-- `default::a!{}` prints `default :: a ! {}`
macro_item_default : DerivesAs macro_item
    (leaf (ident w_default) (at 0 7) (punct 58 true (at 7 8) (punct 58 false (at 8 9) (leaf (ident (97 ∷ [])) (at 9 10) (punct 33 false (at 10 11) (group Brace (at 11 12) (at 12 13) end end))))))
    (leaf (ident w_default) call_site (punct 58 true call_site (punct 58 false call_site (leaf (ident (97 ∷ [])) call_site (punct 33 false call_site (group Brace call_site call_site end end))))))
    (end)
unfolding left is_end lookahead_at sees take_token take_lifetime take_mark take_group before rows_for rows run parse_rule
macro_item_default = computed macro_item _ _ _ refl

-- `a![b]`: nothing is read
macro_item_no_semi : NotDerived (rule macro_item)
    (leaf (ident (97 ∷ [])) (at 0 1) (punct 33 false (at 1 2) (group Bracket (at 2 3) (at 4 5) (leaf (ident (98 ∷ [])) (at 3 4) end) end)))
unfolding left is_end lookahead_at sees take_token take_lifetime take_mark take_group before rows_for rows run parse_rule
macro_item_no_semi = not_read macro_item _ refl

-- `::a!(b);` prints `:: a ! (b) ;`
macro_rest_plain : DerivesAs macro_item_rest
    (punct 58 true (at 0 1) (punct 58 false (at 1 2) (leaf (ident (97 ∷ [])) (at 2 3) (punct 33 false (at 3 4) (group Paren (at 4 5) (at 6 7) (leaf (ident (98 ∷ [])) (at 5 6) end) (punct 59 false (at 7 8) end))))))
    (punct 58 true call_site (punct 58 false call_site (leaf (ident (97 ∷ [])) call_site (punct 33 false call_site (group Paren call_site call_site (leaf (ident (98 ∷ [])) call_site end) (punct 59 false call_site end))))))
    (end)
unfolding left is_end lookahead_at sees take_token take_lifetime take_mark take_group before rows_for rows run parse_rule
macro_rest_plain = computed macro_item_rest _ _ _ refl

-- `a<b>!{}`: nothing is read
macro_rest_arguments : NotDerived (rule macro_item_rest)
    (leaf (ident (97 ∷ [])) (at 0 1) (punct 60 false (at 1 2) (leaf (ident (98 ∷ [])) (at 2 3) (punct 62 true (at 3 4) (punct 33 false (at 4 5) (group Brace (at 5 6) (at 6 7) end end))))))
unfolding left is_end lookahead_at sees take_token take_lifetime take_mark take_group before rows_for rows run parse_rule
macro_rest_arguments = not_read macro_item_rest _ refl

-- `crate!();` prints `crate ! () ;`
macro_as_item_plain : DerivesAs macro_as_item
    (leaf (ident w_crate) (at 0 5) (punct 33 false (at 5 6) (group Paren (at 6 7) (at 7 8) end (punct 59 false (at 8 9) end))))
    (leaf (ident w_crate) call_site (punct 33 false call_site (group Paren call_site call_site end (punct 59 false call_site end))))
    (end)
unfolding left is_end lookahead_at sees take_token take_lifetime take_mark take_group before rows_for rows run parse_rule
macro_as_item_plain = computed macro_as_item _ _ _ refl

-- `Self!{}`: nothing is read
macro_as_item_self : NotDerived (rule macro_as_item)
    (leaf (ident w_Self_type) (at 0 4) (punct 33 false (at 4 5) (group Brace (at 5 6) (at 6 7) end end)))
unfolding left is_end lookahead_at sees take_token take_lifetime take_mark take_group before rows_for rows run parse_rule
macro_as_item_self = not_read macro_as_item _ refl

-- `default!();` prints `default ! () ;`
macro_as_item_rest_default : DerivesAs macro_as_item_rest
    (leaf (ident w_default) (at 0 7) (punct 33 false (at 7 8) (group Paren (at 8 9) (at 9 10) end (punct 59 false (at 10 11) end))))
    (leaf (ident w_default) call_site (punct 33 false call_site (group Paren call_site call_site end (punct 59 false call_site end))))
    (end)
unfolding left is_end lookahead_at sees take_token take_lifetime take_mark take_group before rows_for rows run parse_rule
macro_as_item_rest_default = computed macro_as_item_rest _ _ _ refl

-- `default::a!{}`: nothing is read
macro_as_item_rest_path : NotDerived (rule macro_as_item_rest)
    (leaf (ident w_default) (at 0 7) (punct 58 true (at 7 8) (punct 58 false (at 8 9) (leaf (ident (97 ∷ [])) (at 9 10) (punct 33 false (at 10 11) (group Brace (at 11 12) (at 12 13) end end))))))
unfolding left is_end lookahead_at sees take_token take_lifetime take_mark take_group before rows_for rows run parse_rule
macro_as_item_rest_path = not_read macro_as_item_rest _ refl

-- `crate!{};` prints `crate ! {} ;`
crate_macro_alone : DerivesAs crate_macro
    (leaf (ident w_crate) (at 0 5) (punct 33 false (at 5 6) (group Brace (at 6 7) (at 7 8) end (punct 59 false (at 8 9) end))))
    (leaf (ident w_crate) call_site (punct 33 false call_site (group Brace call_site call_site end (punct 59 false call_site end))))
    (end)
unfolding left is_end lookahead_at sees take_token take_lifetime take_mark take_group before rows_for rows run parse_rule
crate_macro_alone = computed crate_macro _ _ _ refl

-- `crate!{}.a` prints `crate ! {}` and leaves `.a`
crate_macro_dot : DerivesAs crate_macro
    (leaf (ident w_crate) (at 0 5) (punct 33 false (at 5 6) (group Brace (at 6 7) (at 7 8) end (punct 46 false (at 8 9) (leaf (ident (97 ∷ [])) (at 9 10) end)))))
    (leaf (ident w_crate) call_site (punct 33 false call_site (group Brace call_site call_site end end)))
    (punct 46 false (at 8 9) (leaf (ident (97 ∷ [])) (at 9 10) end))
unfolding left is_end lookahead_at sees take_token take_lifetime take_mark take_group before rows_for rows run parse_rule
crate_macro_dot = computed crate_macro _ _ _ refl

-- `crate!()`: nothing is read
crate_macro_parens : NotDerived (rule crate_macro)
    (leaf (ident w_crate) (at 0 5) (punct 33 false (at 5 6) (group Paren (at 6 7) (at 7 8) end end)))
unfolding left is_end lookahead_at sees take_token take_lifetime take_mark take_group before rows_for rows run parse_rule
crate_macro_parens = not_read crate_macro _ refl

-- `a::b!{c}` prints `a :: b ! {c}`
brace_macro_path : DerivesAs brace_macro
    (leaf (ident (97 ∷ [])) (at 0 1) (punct 58 true (at 1 2) (punct 58 false (at 2 3) (leaf (ident (98 ∷ [])) (at 3 4) (punct 33 false (at 4 5) (group Brace (at 5 6) (at 7 8) (leaf (ident (99 ∷ [])) (at 6 7) end) end))))))
    (leaf (ident (97 ∷ [])) call_site (punct 58 true call_site (punct 58 false call_site (leaf (ident (98 ∷ [])) call_site (punct 33 false call_site (group Brace call_site call_site (leaf (ident (99 ∷ [])) call_site end) end))))))
    (end)
unfolding left is_end lookahead_at sees take_token take_lifetime take_mark take_group before rows_for rows run parse_rule
brace_macro_path = computed brace_macro _ _ _ refl

-- `a!()`: nothing is read
brace_macro_parens : NotDerived (rule brace_macro)
    (leaf (ident (97 ∷ [])) (at 0 1) (punct 33 false (at 1 2) (group Paren (at 2 3) (at 3 4) end end)))
unfolding left is_end lookahead_at sees take_token take_lifetime take_mark take_group before rows_for rows run parse_rule
brace_macro_parens = not_read brace_macro _ refl

-- `crate!{}` prints `crate ! {}`
crate_macro_item_braces : DerivesAs crate_macro_item
    (leaf (ident w_crate) (at 0 5) (punct 33 false (at 5 6) (group Brace (at 6 7) (at 7 8) end end)))
    (leaf (ident w_crate) call_site (punct 33 false call_site (group Brace call_site call_site end end)))
    (end)
unfolding left is_end lookahead_at sees take_token take_lifetime take_mark take_group before rows_for rows run parse_rule
crate_macro_item_braces = computed crate_macro_item _ _ _ refl

-- `crate {}`: nothing is read
crate_macro_item_no_bang : NotDerived (rule crate_macro_item)
    (leaf (ident w_crate) (at 0 5) (group Brace (at 6 7) (at 7 8) end end))
unfolding left is_end lookahead_at sees take_token take_lifetime take_mark take_group before rows_for rows run parse_rule
crate_macro_item_no_bang = not_read crate_macro_item _ refl
