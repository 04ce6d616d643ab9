-- Written by tools/grammar.py from specs/Table.antt; edits are lost.
-- Worked examples of items of all kinds, items in blocks, and files, from tools/examples.txt: what each rule reads, prints and refuses. The checker computes each.
use Rattle.std.proofs.Common.{true, false, [], ◌∷◌, refl}
use Rattle.syn_grammar.specs.Words.{w_underscore, w_const, w_crate, w_fn, w_for, w_impl, w_in, w_macro, w_mod, w_mut, w_pub, w_Self_type, w_static, w_struct, w_trait, w_type, w_unsafe, w_use, w_where, w_union, w_default}
use Rattle.syn_grammar.specs.Tokens.{call_site, Paren, Brace, Bracket, Int, ident, literal, end, leaf, punct, group}
use Rattle.syn_grammar.specs.Rules.{body, statements, statement, bodiless_function, untyped_static, valueless_static, odd_const, macro_definition, odd_type, const_alias, restricted_trait, kept_item_rest, kept_item, kept_in_block, item_rest, item, items, file}
use Rattle.syn_grammar.specs.Grammar.{rule}
use Rattle.syn_grammar.specs.Take.{left, is_end, lookahead_at, sees, take_token, take_lifetime, take_mark, take_group, before, first_span}
use Rattle.syn_grammar.specs.Run.{rows_for, rows, run, parse_rule}
use Rattle.syn_grammar.specs.Promises.{NotDerived}
use Rattle.syn_grammar.proofs.Shown.{at, DerivesAs, computed, not_read}

-- `pub const fn a();` prints `pub const fn a () ;`
kept_bodiless : DerivesAs bodiless_function
    (leaf (ident w_pub) (at 0 3) (leaf (ident w_const) (at 4 9) (leaf (ident w_fn) (at 10 12) (leaf (ident (97 ∷ [])) (at 13 14) (group Paren (at 14 15) (at 15 16) end (punct 59 false (at 16 17) end))))))
    (leaf (ident w_pub) call_site (leaf (ident w_const) call_site (leaf (ident w_fn) call_site (leaf (ident (97 ∷ [])) call_site (group Paren call_site call_site end (punct 59 false call_site end))))))
    (end)
unfolding left is_end lookahead_at sees take_token take_lifetime take_mark take_group before first_span rows_for rows run parse_rule
kept_bodiless = computed bodiless_function _ _ _ refl

-- `fn a() {}`: nothing is read
kept_bodiless_body : NotDerived (rule bodiless_function)
    (leaf (ident w_fn) (at 0 2) (leaf (ident (97 ∷ [])) (at 3 4) (group Paren (at 4 5) (at 5 6) end (group Brace (at 7 8) (at 8 9) end end))))
unfolding left is_end lookahead_at sees take_token take_lifetime take_mark take_group before first_span rows_for rows run parse_rule
kept_bodiless_body = not_read bodiless_function _ refl

-- `pub static mut a = b;` prints `pub static mut a = b ;`
untyped_static_plain : DerivesAs untyped_static
    (leaf (ident w_pub) (at 0 3) (leaf (ident w_static) (at 4 10) (leaf (ident w_mut) (at 11 14) (leaf (ident (97 ∷ [])) (at 15 16) (punct 61 false (at 17 18) (leaf (ident (98 ∷ [])) (at 19 20) (punct 59 false (at 20 21) end)))))))
    (leaf (ident w_pub) call_site (leaf (ident w_static) call_site (leaf (ident w_mut) call_site (leaf (ident (97 ∷ [])) call_site (punct 61 false call_site (leaf (ident (98 ∷ [])) call_site (punct 59 false call_site end)))))))
    (end)
unfolding left is_end lookahead_at sees take_token take_lifetime take_mark take_group before rows_for rows run parse_rule
untyped_static_plain = computed untyped_static _ _ _ refl

-- `static a: b = c;`: nothing is read
untyped_static_typed : NotDerived (rule untyped_static)
    (leaf (ident w_static) (at 0 6) (leaf (ident (97 ∷ [])) (at 7 8) (punct 58 false (at 8 9) (leaf (ident (98 ∷ [])) (at 10 11) (punct 61 false (at 12 13) (leaf (ident (99 ∷ [])) (at 14 15) (punct 59 false (at 15 16) end)))))))
unfolding left is_end lookahead_at sees take_token take_lifetime take_mark take_group before rows_for rows run parse_rule
untyped_static_typed = not_read untyped_static _ refl

-- `static a: b;` prints `static a : b ;`
valueless_static_plain : DerivesAs valueless_static
    (leaf (ident w_static) (at 0 6) (leaf (ident (97 ∷ [])) (at 7 8) (punct 58 false (at 8 9) (leaf (ident (98 ∷ [])) (at 10 11) (punct 59 false (at 11 12) end)))))
    (leaf (ident w_static) call_site (leaf (ident (97 ∷ [])) call_site (punct 58 false call_site (leaf (ident (98 ∷ [])) call_site (punct 59 false call_site end)))))
    (end)
unfolding left is_end lookahead_at sees take_token take_lifetime take_mark take_group before rows_for rows run parse_rule
valueless_static_plain = computed valueless_static _ _ _ refl

-- `static a: b = c;`: nothing is read
valueless_static_value : NotDerived (rule valueless_static)
    (leaf (ident w_static) (at 0 6) (leaf (ident (97 ∷ [])) (at 7 8) (punct 58 false (at 8 9) (leaf (ident (98 ∷ [])) (at 10 11) (punct 61 false (at 12 13) (leaf (ident (99 ∷ [])) (at 14 15) (punct 59 false (at 15 16) end)))))))
unfolding left is_end lookahead_at sees take_token take_lifetime take_mark take_group before rows_for rows run parse_rule
valueless_static_value = not_read valueless_static _ refl

-- `pub const a<b>: c = d where e: f;` prints `pub const a < b > : c = d where e : f ;`
odd_const_generics : DerivesAs odd_const
    (leaf (ident w_pub) (at 0 3) (leaf (ident w_const) (at 4 9) (leaf (ident (97 ∷ [])) (at 10 11) (punct 60 false (at 11 12) (leaf (ident (98 ∷ [])) (at 12 13) (punct 62 true (at 13 14) (punct 58 false (at 14 15) (leaf (ident (99 ∷ [])) (at 16 17) (punct 61 false (at 18 19) (leaf (ident (100 ∷ [])) (at 20 21) (leaf (ident w_where) (at 22 27) (leaf (ident (101 ∷ [])) (at 28 29) (punct 58 false (at 29 30) (leaf (ident (102 ∷ [])) (at 31 32) (punct 59 false (at 32 33) end)))))))))))))))
    (leaf (ident w_pub) call_site (leaf (ident w_const) call_site (leaf (ident (97 ∷ [])) call_site (punct 60 false call_site (leaf (ident (98 ∷ [])) call_site (punct 62 false call_site (punct 58 false call_site (leaf (ident (99 ∷ [])) call_site (punct 61 false call_site (leaf (ident (100 ∷ [])) call_site (leaf (ident w_where) call_site (leaf (ident (101 ∷ [])) call_site (punct 58 false call_site (leaf (ident (102 ∷ [])) call_site (punct 59 false call_site end)))))))))))))))
    (end)
unfolding left is_end lookahead_at sees take_token take_lifetime take_mark take_group before rows_for rows run parse_rule
odd_const_generics = computed odd_const _ _ _ refl

-- `const _: a;` prints `const _ : a ;`
odd_const_no_value : DerivesAs odd_const
    (leaf (ident w_const) (at 0 5) (leaf (ident w_underscore) (at 6 7) (punct 58 false (at 7 8) (leaf (ident (97 ∷ [])) (at 9 10) (punct 59 false (at 10 11) end)))))
    (leaf (ident w_const) call_site (leaf (ident w_underscore) call_site (punct 58 false call_site (leaf (ident (97 ∷ [])) call_site (punct 59 false call_site end)))))
    (end)
unfolding left is_end lookahead_at sees take_token take_lifetime take_mark take_group before rows_for rows run parse_rule
odd_const_no_value = computed odd_const _ _ _ refl

-- `const a: b = c where;` prints `const a : b = c where ;`
odd_const_where : DerivesAs odd_const
    (leaf (ident w_const) (at 0 5) (leaf (ident (97 ∷ [])) (at 6 7) (punct 58 false (at 7 8) (leaf (ident (98 ∷ [])) (at 9 10) (punct 61 false (at 11 12) (leaf (ident (99 ∷ [])) (at 13 14) (leaf (ident w_where) (at 15 20) (punct 59 false (at 20 21) end))))))))
    (leaf (ident w_const) call_site (leaf (ident (97 ∷ [])) call_site (punct 58 false call_site (leaf (ident (98 ∷ [])) call_site (punct 61 false call_site (leaf (ident (99 ∷ [])) call_site (leaf (ident w_where) call_site (punct 59 false call_site end))))))))
    (end)
unfolding left is_end lookahead_at sees take_token take_lifetime take_mark take_group before rows_for rows run parse_rule
odd_const_where = computed odd_const _ _ _ refl

-- `const a: b = c;`: nothing is read
odd_const_plain : NotDerived (rule odd_const)
    (leaf (ident w_const) (at 0 5) (leaf (ident (97 ∷ [])) (at 6 7) (punct 58 false (at 7 8) (leaf (ident (98 ∷ [])) (at 9 10) (punct 61 false (at 11 12) (leaf (ident (99 ∷ [])) (at 13 14) (punct 59 false (at 14 15) end)))))))
unfolding left is_end lookahead_at sees take_token take_lifetime take_mark take_group before rows_for rows run parse_rule
odd_const_plain = not_read odd_const _ refl

-- `pub macro a(b) {c}` prints `pub macro a (b) {c}`
macro_definition_plain : DerivesAs macro_definition
    (leaf (ident w_pub) (at 0 3) (leaf (ident w_macro) (at 4 9) (leaf (ident (97 ∷ [])) (at 10 11) (group Paren (at 11 12) (at 13 14) (leaf (ident (98 ∷ [])) (at 12 13) end) (group Brace (at 15 16) (at 17 18) (leaf (ident (99 ∷ [])) (at 16 17) end) end)))))
    (leaf (ident w_pub) call_site (leaf (ident w_macro) call_site (leaf (ident (97 ∷ [])) call_site (group Paren call_site call_site (leaf (ident (98 ∷ [])) call_site end) (group Brace call_site call_site (leaf (ident (99 ∷ [])) call_site end) end)))))
    (end)
unfolding left is_end lookahead_at sees take_token take_lifetime take_mark take_group before rows_for rows run parse_rule
macro_definition_plain = computed macro_definition _ _ _ refl

-- `macro a {}` prints `macro a {}`
macro_definition_braces : DerivesAs macro_definition
    (leaf (ident w_macro) (at 0 5) (leaf (ident (97 ∷ [])) (at 6 7) (group Brace (at 8 9) (at 9 10) end end)))
    (leaf (ident w_macro) call_site (leaf (ident (97 ∷ [])) call_site (group Brace call_site call_site end end)))
    (end)
unfolding left is_end lookahead_at sees take_token take_lifetime take_mark take_group before rows_for rows run parse_rule
macro_definition_braces = computed macro_definition _ _ _ refl

-- `macro a[b] {}`: nothing is read
macro_definition_brackets : NotDerived (rule macro_definition)
    (leaf (ident w_macro) (at 0 5) (leaf (ident (97 ∷ [])) (at 6 7) (group Bracket (at 7 8) (at 9 10) (leaf (ident (98 ∷ [])) (at 8 9) end) (group Brace (at 11 12) (at 12 13) end end))))
unfolding left is_end lookahead_at sees take_token take_lifetime take_mark take_group before rows_for rows run parse_rule
macro_definition_brackets = not_read macro_definition _ refl

-- `pub type a: b where c: d = e;` prints `pub type a : b where c : d = e ;`
odd_type_bounds : DerivesAs odd_type
    (leaf (ident w_pub) (at 0 3) (leaf (ident w_type) (at 4 8) (leaf (ident (97 ∷ [])) (at 9 10) (punct 58 false (at 10 11) (leaf (ident (98 ∷ [])) (at 12 13) (leaf (ident w_where) (at 14 19) (leaf (ident (99 ∷ [])) (at 20 21) (punct 58 false (at 21 22) (leaf (ident (100 ∷ [])) (at 23 24) (punct 61 false (at 25 26) (leaf (ident (101 ∷ [])) (at 27 28) (punct 59 false (at 28 29) end))))))))))))
    (leaf (ident w_pub) call_site (leaf (ident w_type) call_site (leaf (ident (97 ∷ [])) call_site (punct 58 false call_site (leaf (ident (98 ∷ [])) call_site (leaf (ident w_where) call_site (leaf (ident (99 ∷ [])) call_site (punct 58 false call_site (leaf (ident (100 ∷ [])) call_site (punct 61 false call_site (leaf (ident (101 ∷ [])) call_site (punct 59 false call_site end))))))))))))
    (end)
unfolding left is_end lookahead_at sees take_token take_lifetime take_mark take_group before rows_for rows run parse_rule
odd_type_bounds = computed odd_type _ _ _ refl

-- `type a: = b where c: d;` prints `type a : = b where c : d ;`
odd_type_late : DerivesAs odd_type
    (leaf (ident w_type) (at 0 4) (leaf (ident (97 ∷ [])) (at 5 6) (punct 58 false (at 6 7) (punct 61 false (at 8 9) (leaf (ident (98 ∷ [])) (at 10 11) (leaf (ident w_where) (at 12 17) (leaf (ident (99 ∷ [])) (at 18 19) (punct 58 false (at 19 20) (leaf (ident (100 ∷ [])) (at 21 22) (punct 59 false (at 22 23) end))))))))))
    (leaf (ident w_type) call_site (leaf (ident (97 ∷ [])) call_site (punct 58 false call_site (punct 61 false call_site (leaf (ident (98 ∷ [])) call_site (leaf (ident w_where) call_site (leaf (ident (99 ∷ [])) call_site (punct 58 false call_site (leaf (ident (100 ∷ [])) call_site (punct 59 false call_site end))))))))))
    (end)
unfolding left is_end lookahead_at sees take_token take_lifetime take_mark take_group before rows_for rows run parse_rule
odd_type_late = computed odd_type _ _ _ refl

-- `type a where b: c;` prints `type a where b : c ;`
odd_type_no_type : DerivesAs odd_type
    (leaf (ident w_type) (at 0 4) (leaf (ident (97 ∷ [])) (at 5 6) (leaf (ident w_where) (at 7 12) (leaf (ident (98 ∷ [])) (at 13 14) (punct 58 false (at 14 15) (leaf (ident (99 ∷ [])) (at 16 17) (punct 59 false (at 17 18) end)))))))
    (leaf (ident w_type) call_site (leaf (ident (97 ∷ [])) call_site (leaf (ident w_where) call_site (leaf (ident (98 ∷ [])) call_site (punct 58 false call_site (leaf (ident (99 ∷ [])) call_site (punct 59 false call_site end)))))))
    (end)
unfolding left is_end lookahead_at sees take_token take_lifetime take_mark take_group before rows_for rows run parse_rule
odd_type_no_type = computed odd_type _ _ _ refl

-- `type a = b;`: nothing is read
odd_type_plain : NotDerived (rule odd_type)
    (leaf (ident w_type) (at 0 4) (leaf (ident (97 ∷ [])) (at 5 6) (punct 61 false (at 7 8) (leaf (ident (98 ∷ [])) (at 9 10) (punct 59 false (at 10 11) end)))))
unfolding left is_end lookahead_at sees take_token take_lifetime take_mark take_group before rows_for rows run parse_rule
odd_type_plain = not_read odd_type _ refl

-- `pub const trait a = b;` prints `pub const trait a = b ;`
const_alias_plain : DerivesAs const_alias
    (leaf (ident w_pub) (at 0 3) (leaf (ident w_const) (at 4 9) (leaf (ident w_trait) (at 10 15) (leaf (ident (97 ∷ [])) (at 16 17) (punct 61 false (at 18 19) (leaf (ident (98 ∷ [])) (at 20 21) (punct 59 false (at 21 22) end)))))))
    (leaf (ident w_pub) call_site (leaf (ident w_const) call_site (leaf (ident w_trait) call_site (leaf (ident (97 ∷ [])) call_site (punct 61 false call_site (leaf (ident (98 ∷ [])) call_site (punct 59 false call_site end)))))))
    (end)
unfolding left is_end lookahead_at sees take_token take_lifetime take_mark take_group before rows_for rows run parse_rule
const_alias_plain = computed const_alias _ _ _ refl

-- `const trait a {}`: nothing is read
const_alias_braces : NotDerived (rule const_alias)
    (leaf (ident w_const) (at 0 5) (leaf (ident w_trait) (at 6 11) (leaf (ident (97 ∷ [])) (at 12 13) (group Brace (at 14 15) (at 15 16) end end))))
unfolding left is_end lookahead_at sees take_token take_lifetime take_mark take_group before rows_for rows run parse_rule
const_alias_braces = not_read const_alias _ refl

-- `pub impl(in a::b) const unsafe trait c {}` prints `pub impl (in a :: b) const unsafe trait c {}`
restricted_plain : DerivesAs restricted_trait
    (leaf (ident w_pub) (at 0 3) (leaf (ident w_impl) (at 4 8) (group Paren (at 8 9) (at 16 17) (leaf (ident w_in) (at 9 11) (leaf (ident (97 ∷ [])) (at 12 13) (punct 58 true (at 13 14) (punct 58 false (at 14 15) (leaf (ident (98 ∷ [])) (at 15 16) end))))) (leaf (ident w_const) (at 18 23) (leaf (ident w_unsafe) (at 24 30) (leaf (ident w_trait) (at 31 36) (leaf (ident (99 ∷ [])) (at 37 38) (group Brace (at 39 40) (at 40 41) end end))))))))
    (leaf (ident w_pub) call_site (leaf (ident w_impl) call_site (group Paren call_site call_site (leaf (ident w_in) call_site (leaf (ident (97 ∷ [])) call_site (punct 58 true call_site (punct 58 false call_site (leaf (ident (98 ∷ [])) call_site end))))) (leaf (ident w_const) call_site (leaf (ident w_unsafe) call_site (leaf (ident w_trait) call_site (leaf (ident (99 ∷ [])) call_site (group Brace call_site call_site end end))))))))
    (end)
unfolding left is_end lookahead_at sees take_token take_lifetime take_mark take_group before first_span rows_for rows run parse_rule
restricted_plain = computed restricted_trait _ _ _ refl

-- `impl(crate) trait a = b;`: nothing is read
restricted_alias : NotDerived (rule restricted_trait)
    (leaf (ident w_impl) (at 0 4) (group Paren (at 4 5) (at 10 11) (leaf (ident w_crate) (at 5 10) end) (leaf (ident w_trait) (at 12 17) (leaf (ident (97 ∷ [])) (at 18 19) (punct 61 false (at 20 21) (leaf (ident (98 ∷ [])) (at 22 23) (punct 59 false (at 23 24) end)))))))
unfolding left is_end lookahead_at sees take_token take_lifetime take_mark take_group before first_span rows_for rows run parse_rule
restricted_alias = not_read restricted_trait _ refl

-- `fn a();` prints `fn a () ;`
kept_rest_function : DerivesAs kept_item_rest
    (leaf (ident w_fn) (at 0 2) (leaf (ident (97 ∷ [])) (at 3 4) (group Paren (at 4 5) (at 5 6) end (punct 59 false (at 6 7) end))))
    (leaf (ident w_fn) call_site (leaf (ident (97 ∷ [])) call_site (group Paren call_site call_site end (punct 59 false call_site end))))
    (end)
unfolding left is_end lookahead_at sees take_token take_lifetime take_mark take_group before first_span rows_for rows run parse_rule
kept_rest_function = computed kept_item_rest _ _ _ refl

-- `fn a() {}`: nothing is read
kept_rest_plain : NotDerived (rule kept_item_rest)
    (leaf (ident w_fn) (at 0 2) (leaf (ident (97 ∷ [])) (at 3 4) (group Paren (at 4 5) (at 5 6) end (group Brace (at 7 8) (at 8 9) end end))))
unfolding left is_end lookahead_at sees take_token take_lifetime take_mark take_group before first_span rows_for rows run parse_rule
kept_rest_plain = not_read kept_item_rest _ refl

-- `#[a] impl &b for c {}` prints `# [a] impl & b for c {}`
kept_item_attributes : DerivesAs kept_item
    (punct 35 false (at 0 1) (group Bracket (at 1 2) (at 3 4) (leaf (ident (97 ∷ [])) (at 2 3) end) (leaf (ident w_impl) (at 5 9) (punct 38 false (at 10 11) (leaf (ident (98 ∷ [])) (at 11 12) (leaf (ident w_for) (at 13 16) (leaf (ident (99 ∷ [])) (at 17 18) (group Brace (at 19 20) (at 20 21) end end))))))))
    (punct 35 false call_site (group Bracket call_site call_site (leaf (ident (97 ∷ [])) call_site end) (leaf (ident w_impl) call_site (punct 38 false call_site (leaf (ident (98 ∷ [])) call_site (leaf (ident w_for) call_site (leaf (ident (99 ∷ [])) call_site (group Brace call_site call_site end end))))))))
    (end)
unfolding left is_end lookahead_at sees take_token take_lifetime take_mark take_group before first_span rows_for rows run parse_rule
kept_item_attributes = computed kept_item _ _ _ refl

-- `impl a for b {}`: nothing is read
kept_item_plain : NotDerived (rule kept_item)
    (leaf (ident w_impl) (at 0 4) (leaf (ident (97 ∷ [])) (at 5 6) (leaf (ident w_for) (at 7 10) (leaf (ident (98 ∷ [])) (at 11 12) (group Brace (at 13 14) (at 14 15) end end)))))
unfolding left is_end lookahead_at sees take_token take_lifetime take_mark take_group before first_span rows_for rows run parse_rule
kept_item_plain = not_read kept_item _ refl

-- `#[a] fn b();` prints `# [a] fn b () ;`
kept_in_block_function : DerivesAs kept_in_block
    (punct 35 false (at 0 1) (group Bracket (at 1 2) (at 3 4) (leaf (ident (97 ∷ [])) (at 2 3) end) (leaf (ident w_fn) (at 5 7) (leaf (ident (98 ∷ [])) (at 8 9) (group Paren (at 9 10) (at 10 11) end (punct 59 false (at 11 12) end))))))
    (punct 35 false call_site (group Bracket call_site call_site (leaf (ident (97 ∷ [])) call_site end) (leaf (ident w_fn) call_site (leaf (ident (98 ∷ [])) call_site (group Paren call_site call_site end (punct 59 false call_site end))))))
    (end)
unfolding left is_end lookahead_at sees take_token take_lifetime take_mark take_group before first_span rows_for rows run parse_rule
kept_in_block_function = computed kept_in_block _ _ _ refl

-- `default const impl &a for b {}`: nothing is read
kept_in_block_default : NotDerived (rule kept_in_block)
    (leaf (ident w_default) (at 0 7) (leaf (ident w_const) (at 8 13) (leaf (ident w_impl) (at 14 18) (punct 38 false (at 19 20) (leaf (ident (97 ∷ [])) (at 20 21) (leaf (ident w_for) (at 22 25) (leaf (ident (98 ∷ [])) (at 26 27) (group Brace (at 28 29) (at 29 30) end end))))))))
unfolding left is_end lookahead_at sees take_token take_lifetime take_mark take_group before first_span rows_for rows run parse_rule
kept_in_block_default = not_read kept_in_block _ refl

-- `struct a;` prints `struct a ;`
item_rest_struct : DerivesAs item_rest
    (leaf (ident w_struct) (at 0 6) (leaf (ident (97 ∷ [])) (at 7 8) (punct 59 false (at 8 9) end)))
    (leaf (ident w_struct) call_site (leaf (ident (97 ∷ [])) call_site (punct 59 false call_site end)))
    (end)
unfolding left is_end lookahead_at sees take_token take_lifetime take_mark take_group before first_span rows_for rows run parse_rule
item_rest_struct = computed item_rest _ _ _ refl

-- `default const impl a for b {}` prints `default const impl a for b {}`
item_rest_impl : DerivesAs item_rest
    (leaf (ident w_default) (at 0 7) (leaf (ident w_const) (at 8 13) (leaf (ident w_impl) (at 14 18) (leaf (ident (97 ∷ [])) (at 19 20) (leaf (ident w_for) (at 21 24) (leaf (ident (98 ∷ [])) (at 25 26) (group Brace (at 27 28) (at 28 29) end end)))))))
    (leaf (ident w_default) call_site (leaf (ident w_const) call_site (leaf (ident w_impl) call_site (leaf (ident (97 ∷ [])) call_site (leaf (ident w_for) call_site (leaf (ident (98 ∷ [])) call_site (group Brace call_site call_site end end)))))))
    (end)
unfolding left is_end lookahead_at sees take_token take_lifetime take_mark take_group before first_span rows_for rows run parse_rule
item_rest_impl = computed item_rest _ _ _ refl

-- `#[a] struct b;`: nothing is read
item_rest_attribute : NotDerived (rule item_rest)
    (punct 35 false (at 0 1) (group Bracket (at 1 2) (at 3 4) (leaf (ident (97 ∷ [])) (at 2 3) end) (leaf (ident w_struct) (at 5 11) (leaf (ident (98 ∷ [])) (at 12 13) (punct 59 false (at 13 14) end)))))
unfolding left is_end lookahead_at sees take_token take_lifetime take_mark take_group before first_span rows_for rows run parse_rule
item_rest_attribute = not_read item_rest _ refl

-- `#[a] pub struct b;` prints `# [a] pub struct b ;`
item_struct : DerivesAs item
    (punct 35 false (at 0 1) (group Bracket (at 1 2) (at 3 4) (leaf (ident (97 ∷ [])) (at 2 3) end) (leaf (ident w_pub) (at 5 8) (leaf (ident w_struct) (at 9 15) (leaf (ident (98 ∷ [])) (at 16 17) (punct 59 false (at 17 18) end))))))
    (punct 35 false call_site (group Bracket call_site call_site (leaf (ident (97 ∷ [])) call_site end) (leaf (ident w_pub) call_site (leaf (ident w_struct) call_site (leaf (ident (98 ∷ [])) call_site (punct 59 false call_site end))))))
    (end)
unfolding left is_end lookahead_at sees take_token take_lifetime take_mark take_group before first_span rows_for rows run parse_rule
item_struct = computed item _ _ _ refl

-- `default!();` prints `default ! () ;`
item_macro : DerivesAs item
    (leaf (ident w_default) (at 0 7) (punct 33 false (at 7 8) (group Paren (at 8 9) (at 9 10) end (punct 59 false (at 10 11) end))))
    (leaf (ident w_default) call_site (punct 33 false call_site (group Paren call_site call_site end (punct 59 false call_site end))))
    (end)
unfolding left is_end lookahead_at sees take_token take_lifetime take_mark take_group before first_span rows_for rows run parse_rule
item_macro = computed item _ _ _ refl

-- `const trait a {}` prints `const trait a {}`
item_const_trait : DerivesAs item
    (leaf (ident w_const) (at 0 5) (leaf (ident w_trait) (at 6 11) (leaf (ident (97 ∷ [])) (at 12 13) (group Brace (at 14 15) (at 15 16) end end))))
    (leaf (ident w_const) call_site (leaf (ident w_trait) call_site (leaf (ident (97 ∷ [])) call_site (group Brace call_site call_site end end))))
    (end)
unfolding left is_end lookahead_at sees take_token take_lifetime take_mark take_group before first_span rows_for rows run parse_rule
item_const_trait = computed item _ _ _ refl

-- `type a: b += c;` prints `type a : b += c ;`
item_kept_type : DerivesAs item
    (leaf (ident w_type) (at 0 4) (leaf (ident (97 ∷ [])) (at 5 6) (punct 58 false (at 6 7) (leaf (ident (98 ∷ [])) (at 8 9) (punct 43 true (at 10 11) (punct 61 false (at 11 12) (leaf (ident (99 ∷ [])) (at 13 14) (punct 59 false (at 14 15) end))))))))
    (leaf (ident w_type) call_site (leaf (ident (97 ∷ [])) call_site (punct 58 false call_site (leaf (ident (98 ∷ [])) call_site (punct 43 true call_site (punct 61 false call_site (leaf (ident (99 ∷ [])) call_site (punct 59 false call_site end))))))))
    (end)
unfolding left is_end lookahead_at sees take_token take_lifetime take_mark take_group before first_span rows_for rows run parse_rule
item_kept_type = computed item _ _ _ refl

-- `use {a, {::b}};` prints `use {a , {:: b}} ;`
item_kept_use : DerivesAs item
    (leaf (ident w_use) (at 0 3) (group Brace (at 4 5) (at 13 14) (leaf (ident (97 ∷ [])) (at 5 6) (punct 44 false (at 6 7) (group Brace (at 8 9) (at 12 13) (punct 58 true (at 9 10) (punct 58 false (at 10 11) (leaf (ident (98 ∷ [])) (at 11 12) end))) end))) (punct 59 false (at 14 15) end)))
    (leaf (ident w_use) call_site (group Brace call_site call_site (leaf (ident (97 ∷ [])) call_site (punct 44 false call_site (group Brace call_site call_site (punct 58 true call_site (punct 58 false call_site (leaf (ident (98 ∷ [])) call_site end))) end))) (punct 59 false call_site end)))
    (end)
unfolding left is_end lookahead_at sees take_token take_lifetime take_mark take_group before first_span rows_for rows run parse_rule
item_kept_use = computed item _ _ _ refl

-- `pub const impl a for b {}` prints `pub const impl a for b {}`
item_kept_impl : DerivesAs item
    (leaf (ident w_pub) (at 0 3) (leaf (ident w_const) (at 4 9) (leaf (ident w_impl) (at 10 14) (leaf (ident (97 ∷ [])) (at 15 16) (leaf (ident w_for) (at 17 20) (leaf (ident (98 ∷ [])) (at 21 22) (group Brace (at 23 24) (at 24 25) end end)))))))
    (leaf (ident w_pub) call_site (leaf (ident w_const) call_site (leaf (ident w_impl) call_site (leaf (ident (97 ∷ [])) call_site (leaf (ident w_for) call_site (leaf (ident (98 ∷ [])) call_site (group Brace call_site call_site end end)))))))
    (end)
unfolding left is_end lookahead_at sees take_token take_lifetime take_mark take_group before first_span rows_for rows run parse_rule
item_kept_impl = computed item _ _ _ refl

-- `Self!{}`: nothing is read
item_self_macro : NotDerived (rule item)
    (leaf (ident w_Self_type) (at 0 4) (punct 33 false (at 4 5) (group Brace (at 5 6) (at 6 7) end end)))
unfolding left is_end lookahead_at sees take_token take_lifetime take_mark take_group before first_span rows_for rows run parse_rule
item_self_macro = not_read item _ refl

-- `default::a!{}`: nothing is read
item_default_macro : NotDerived (rule item)
    (leaf (ident w_default) (at 0 7) (punct 58 true (at 7 8) (punct 58 false (at 8 9) (leaf (ident (97 ∷ [])) (at 9 10) (punct 33 false (at 10 11) (group Brace (at 11 12) (at 12 13) end end))))))
unfolding left is_end lookahead_at sees take_token take_lifetime take_mark take_group before first_span rows_for rows run parse_rule
item_default_macro = not_read item _ refl

-- `struct a {};` prints `struct a {}` and leaves `;`
item_semi : DerivesAs item
    (leaf (ident w_struct) (at 0 6) (leaf (ident (97 ∷ [])) (at 7 8) (group Brace (at 9 10) (at 10 11) end (punct 59 false (at 11 12) end))))
    (leaf (ident w_struct) call_site (leaf (ident (97 ∷ [])) call_site (group Brace call_site call_site end end)))
    (punct 59 false (at 11 12) end)
unfolding left is_end lookahead_at sees take_token take_lifetime take_mark take_group before first_span rows_for rows run parse_rule
item_semi = computed item _ _ _ refl

-- `struct a; fn b() {}` prints `struct a ; fn b () {}`
items_two : DerivesAs items
    (leaf (ident w_struct) (at 0 6) (leaf (ident (97 ∷ [])) (at 7 8) (punct 59 false (at 8 9) (leaf (ident w_fn) (at 10 12) (leaf (ident (98 ∷ [])) (at 13 14) (group Paren (at 14 15) (at 15 16) end (group Brace (at 17 18) (at 18 19) end end)))))))
    (leaf (ident w_struct) call_site (leaf (ident (97 ∷ [])) call_site (punct 59 false call_site (leaf (ident w_fn) call_site (leaf (ident (98 ∷ [])) call_site (group Paren call_site call_site end (group Brace call_site call_site end end)))))))
    (end)
unfolding left is_end lookahead_at sees take_token take_lifetime take_mark take_group before first_span rows_for rows run parse_rule
items_two = computed items _ _ _ refl

-- `struct a; ?`: nothing is read
items_question : NotDerived (rule items)
    (leaf (ident w_struct) (at 0 6) (leaf (ident (97 ∷ [])) (at 7 8) (punct 59 false (at 8 9) (punct 63 false (at 10 11) end))))
unfolding left is_end lookahead_at sees take_token take_lifetime take_mark take_group before first_span rows_for rows run parse_rule
items_question = not_read items _ refl

-- no tokens prints ``
file_empty : DerivesAs file
    (end)
    (end)
    (end)
unfolding left is_end lookahead_at sees take_token take_lifetime take_mark take_group before first_span rows_for rows run parse_rule
file_empty = computed file _ _ _ refl

-- `#![a] use b; mod c;` prints `# ! [a] use b ; mod c ;`
file_attributes : DerivesAs file
    (punct 35 true (at 0 1) (punct 33 false (at 1 2) (group Bracket (at 2 3) (at 4 5) (leaf (ident (97 ∷ [])) (at 3 4) end) (leaf (ident w_use) (at 6 9) (leaf (ident (98 ∷ [])) (at 10 11) (punct 59 false (at 11 12) (leaf (ident w_mod) (at 13 16) (leaf (ident (99 ∷ [])) (at 17 18) (punct 59 false (at 18 19) end)))))))))
    (punct 35 false call_site (punct 33 false call_site (group Bracket call_site call_site (leaf (ident (97 ∷ [])) call_site end) (leaf (ident w_use) call_site (leaf (ident (98 ∷ [])) call_site (punct 59 false call_site (leaf (ident w_mod) call_site (leaf (ident (99 ∷ [])) call_site (punct 59 false call_site end)))))))))
    (end)
unfolding left is_end lookahead_at sees take_token take_lifetime take_mark take_group before first_span rows_for rows run parse_rule
file_attributes = computed file _ _ _ refl

-- `struct a; ?`: nothing is read
file_question : NotDerived (rule file)
    (leaf (ident w_struct) (at 0 6) (leaf (ident (97 ∷ [])) (at 7 8) (punct 59 false (at 8 9) (punct 63 false (at 10 11) end))))
unfolding left is_end lookahead_at sees take_token take_lifetime take_mark take_group before first_span rows_for rows run parse_rule
file_question = not_read file _ refl

-- `#[a] fn b() {}` prints `# [a] fn b () {}`
stmt_item : DerivesAs statement
    (punct 35 false (at 0 1) (group Bracket (at 1 2) (at 3 4) (leaf (ident (97 ∷ [])) (at 2 3) end) (leaf (ident w_fn) (at 5 7) (leaf (ident (98 ∷ [])) (at 8 9) (group Paren (at 9 10) (at 10 11) end (group Brace (at 12 13) (at 13 14) end end))))))
    (punct 35 false call_site (group Bracket call_site call_site (leaf (ident (97 ∷ [])) call_site end) (leaf (ident w_fn) call_site (leaf (ident (98 ∷ [])) call_site (group Paren call_site call_site end (group Brace call_site call_site end end))))))
    (end)
unfolding left is_end lookahead_at sees take_token take_lifetime take_mark take_group before first_span rows_for rows run parse_rule
stmt_item = computed statement _ _ _ refl

-- `#[a] fn b();` prints `# [a] fn b () ;`
stmt_item_kept : DerivesAs statement
    (punct 35 false (at 0 1) (group Bracket (at 1 2) (at 3 4) (leaf (ident (97 ∷ [])) (at 2 3) end) (leaf (ident w_fn) (at 5 7) (leaf (ident (98 ∷ [])) (at 8 9) (group Paren (at 9 10) (at 10 11) end (punct 59 false (at 11 12) end))))))
    (punct 35 false call_site (group Bracket call_site call_site (leaf (ident (97 ∷ [])) call_site end) (leaf (ident w_fn) call_site (leaf (ident (98 ∷ [])) call_site (group Paren call_site call_site end (punct 59 false call_site end))))))
    (end)
unfolding left is_end lookahead_at sees take_token take_lifetime take_mark take_group before first_span rows_for rows run parse_rule
stmt_item_kept = computed statement _ _ _ refl

-- `union = 1;` prints `union = 1 ;`
stmt_union : DerivesAs statement
    (leaf (ident w_union) (at 0 5) (punct 61 false (at 6 7) (leaf (literal Int (49 ∷ [])) (at 8 9) (punct 59 false (at 9 10) end))))
    (leaf (ident w_union) call_site (punct 61 false call_site (leaf (literal Int (49 ∷ [])) call_site (punct 59 false call_site end))))
    (end)
unfolding left is_end lookahead_at sees take_token take_lifetime take_mark take_group before first_span rows_for rows run parse_rule
stmt_union = computed statement _ _ _ refl

-- `a! b {}` prints `a ! b {}`
stmt_macro_named : DerivesAs statement
    (leaf (ident (97 ∷ [])) (at 0 1) (punct 33 false (at 1 2) (leaf (ident (98 ∷ [])) (at 3 4) (group Brace (at 5 6) (at 6 7) end end))))
    (leaf (ident (97 ∷ [])) call_site (punct 33 false call_site (leaf (ident (98 ∷ [])) call_site (group Brace call_site call_site end end))))
    (end)
unfolding left is_end lookahead_at sees take_token take_lifetime take_mark take_group before first_span rows_for rows run parse_rule
stmt_macro_named = computed statement _ _ _ refl

-- `Self! a {}`: nothing is read
stmt_self_macro_named : NotDerived (rule statement)
    (leaf (ident w_Self_type) (at 0 4) (punct 33 false (at 4 5) (leaf (ident (97 ∷ [])) (at 6 7) (group Brace (at 8 9) (at 9 10) end end))))
unfolding left is_end lookahead_at sees take_token take_lifetime take_mark take_group before first_span rows_for rows run parse_rule
stmt_self_macro_named = not_read statement _ refl

-- `default const impl a for b {}`: nothing is read
stmt_default_const : NotDerived (rule statement)
    (leaf (ident w_default) (at 0 7) (leaf (ident w_const) (at 8 13) (leaf (ident w_impl) (at 14 18) (leaf (ident (97 ∷ [])) (at 19 20) (leaf (ident w_for) (at 21 24) (leaf (ident (98 ∷ [])) (at 25 26) (group Brace (at 27 28) (at 28 29) end end)))))))
unfolding left is_end lookahead_at sees take_token take_lifetime take_mark take_group before first_span rows_for rows run parse_rule
stmt_default_const = not_read statement _ refl

-- `unsafe {}` prints `unsafe {}`
stmt_unsafe_block : DerivesAs statement
    (leaf (ident w_unsafe) (at 0 6) (group Brace (at 7 8) (at 8 9) end end))
    (leaf (ident w_unsafe) call_site (group Brace call_site call_site end end))
    (end)
unfolding left is_end lookahead_at sees take_token take_lifetime take_mark take_group before first_span rows_for rows run parse_rule
stmt_unsafe_block = computed statement _ _ _ refl

-- `const {}`: nothing is read
stmt_const_block : NotDerived (rule statement)
    (leaf (ident w_const) (at 0 5) (group Brace (at 6 7) (at 7 8) end end))
unfolding left is_end lookahead_at sees take_token take_lifetime take_mark take_group before first_span rows_for rows run parse_rule
stmt_const_block = not_read statement _ refl

-- `fn a() {} a()` prints `fn a () {} a ()`
stmts_item : DerivesAs statements
    (leaf (ident w_fn) (at 0 2) (leaf (ident (97 ∷ [])) (at 3 4) (group Paren (at 4 5) (at 5 6) end (group Brace (at 7 8) (at 8 9) end (leaf (ident (97 ∷ [])) (at 10 11) (group Paren (at 11 12) (at 12 13) end end))))))
    (leaf (ident w_fn) call_site (leaf (ident (97 ∷ [])) call_site (group Paren call_site call_site end (group Brace call_site call_site end (leaf (ident (97 ∷ [])) call_site (group Paren call_site call_site end end))))))
    (end)
unfolding left is_end lookahead_at sees take_token take_lifetime take_mark take_group before first_span rows_for rows run parse_rule
stmts_item = computed statements _ _ _ refl

-- `use {::a}; b` prints `use {:: a} ; b`
stmts_item_kept : DerivesAs statements
    (leaf (ident w_use) (at 0 3) (group Brace (at 4 5) (at 8 9) (punct 58 true (at 5 6) (punct 58 false (at 6 7) (leaf (ident (97 ∷ [])) (at 7 8) end))) (punct 59 false (at 9 10) (leaf (ident (98 ∷ [])) (at 11 12) end))))
    (leaf (ident w_use) call_site (group Brace call_site call_site (punct 58 true call_site (punct 58 false call_site (leaf (ident (97 ∷ [])) call_site end))) (punct 59 false call_site (leaf (ident (98 ∷ [])) call_site end))))
    (end)
unfolding left is_end lookahead_at sees take_token take_lifetime take_mark take_group before first_span rows_for rows run parse_rule
stmts_item_kept = computed statements _ _ _ refl

-- `crate!();` prints `crate ! () ;`
stmts_crate_item : DerivesAs statements
    (leaf (ident w_crate) (at 0 5) (punct 33 false (at 5 6) (group Paren (at 6 7) (at 7 8) end (punct 59 false (at 8 9) end))))
    (leaf (ident w_crate) call_site (punct 33 false call_site (group Paren call_site call_site end (punct 59 false call_site end))))
    (end)
unfolding left is_end lookahead_at sees take_token take_lifetime take_mark take_group before first_span rows_for rows run parse_rule
stmts_crate_item = computed statements _ _ _ refl

-- `{ #![a] struct b; b }` prints `{# ! [a] struct b ; b}`
body_items : DerivesAs body
    (group Brace (at 0 1) (at 20 21) (punct 35 true (at 2 3) (punct 33 false (at 3 4) (group Bracket (at 4 5) (at 6 7) (leaf (ident (97 ∷ [])) (at 5 6) end) (leaf (ident w_struct) (at 8 14) (leaf (ident (98 ∷ [])) (at 15 16) (punct 59 false (at 16 17) (leaf (ident (98 ∷ [])) (at 18 19) end))))))) end)
    (group Brace call_site call_site (punct 35 false call_site (punct 33 false call_site (group Bracket call_site call_site (leaf (ident (97 ∷ [])) call_site end) (leaf (ident w_struct) call_site (leaf (ident (98 ∷ [])) call_site (punct 59 false call_site (leaf (ident (98 ∷ [])) call_site end))))))) end)
    (end)
unfolding left is_end lookahead_at sees take_token take_lifetime take_mark take_group before rows_for rows run parse_rule
body_items = computed body _ _ _ refl
