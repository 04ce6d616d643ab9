-- Written by tools/grammar.py from specs/Table.antt; edits are lost.
-- Worked examples of traits, impls and foreign modules, from tools/examples.txt: what each rule reads, prints and refuses. The checker computes each.
use Rattle.std.proofs.Common.{true, false, [], ◌∷◌, refl}
use Rattle.syn_grammar.specs.Words.{w_async, w_const, w_crate, w_extern, w_fn, w_for, w_impl, w_mut, w_pub, w_Self_type, w_self, w_static, w_trait, w_type, w_unsafe, w_where, w_auto, w_default, w_safe}
use Rattle.syn_grammar.specs.Tokens.{call_site, Paren, Brace, Bracket, Str, ident, literal, end, leaf, punct, group}
use Rattle.syn_grammar.specs.Rules.{supertraits, bare_trait, trait_definition, trait_definition_rest, self_type, for_self_type, impl_body, impl_definition, impl_definition_rest, odd_impl, visible_const_impl, const_trait, const_impl, odd_const_impl, foreign_module, foreign_module_rest, member_macro, bare_trait_function, bare_trait_type, trait_const, trait_function, trait_type, trait_macro, trait_macro_as_item, any_const, marked_member, odd_trait_const, kept_trait_item, trait_item, trait_items, impl_const, impl_function, impl_type, impl_macro, impl_macro_as_item, bodiless_impl_function, odd_impl_const, odd_impl_type, kept_impl_item, impl_item, impl_items, foreign_signature, bare_foreign_static, foreign_function, foreign_static, foreign_type, foreign_macro, foreign_macro_as_item, foreign_body, foreign_value, odd_foreign_type, kept_foreign_item, foreign_item, foreign_items}
use Rattle.syn_grammar.specs.Grammar.{rule}
use Rattle.syn_grammar.specs.Take.{left, is_end, lookahead_at, sees, take_token, take_lifetime, take_mark, take_group, before, first_span}
use Rattle.syn_grammar.specs.Run.{rows_for, rows, run, parse_rule}
use Rattle.syn_grammar.specs.Promises.{NotDerived}
use Rattle.syn_grammar.proofs.Shown.{at, DerivesAs, computed, not_read}

-- `'a + b + {}` prints `'a + b +` and leaves `{}`
supertraits_two : DerivesAs supertraits
    (punct 39 true (at 0 1) (leaf (ident (97 ∷ [])) (at 1 2) (punct 43 false (at 3 4) (leaf (ident (98 ∷ [])) (at 5 6) (punct 43 false (at 7 8) (group Brace (at 9 10) (at 10 11) end end))))))
    (punct 39 true call_site (leaf (ident (97 ∷ [])) call_site (punct 43 false call_site (leaf (ident (98 ∷ [])) call_site (punct 43 false call_site end)))))
    (group Brace (at 9 10) (at 10 11) end end)
unfolding left is_end lookahead_at sees take_token take_lifetime take_mark take_group before rows_for rows run parse_rule
supertraits_two = computed supertraits _ _ _ refl

-- `+`: nothing is read
supertraits_plus : NotDerived (rule supertraits)
    (punct 43 false (at 0 1) end)
unfolding left is_end lookahead_at sees take_token take_lifetime take_mark take_group before rows_for rows run parse_rule
supertraits_plus = not_read supertraits _ refl

-- `unsafe auto trait a<b>: c where d: e { #![f] fn g(); }` prints `unsafe auto trait a < b > : c where d : e {# ! [f] fn g () ;}`
bare_trait_all : DerivesAs bare_trait
    (leaf (ident w_unsafe) (at 0 6) (leaf (ident w_auto) (at 7 11) (leaf (ident w_trait) (at 12 17) (leaf (ident (97 ∷ [])) (at 18 19) (punct 60 false (at 19 20) (leaf (ident (98 ∷ [])) (at 20 21) (punct 62 true (at 21 22) (punct 58 false (at 22 23) (leaf (ident (99 ∷ [])) (at 24 25) (leaf (ident w_where) (at 26 31) (leaf (ident (100 ∷ [])) (at 32 33) (punct 58 false (at 33 34) (leaf (ident (101 ∷ [])) (at 35 36) (group Brace (at 37 38) (at 53 54) (punct 35 true (at 39 40) (punct 33 false (at 40 41) (group Bracket (at 41 42) (at 43 44) (leaf (ident (102 ∷ [])) (at 42 43) end) (leaf (ident w_fn) (at 45 47) (leaf (ident (103 ∷ [])) (at 48 49) (group Paren (at 49 50) (at 50 51) end (punct 59 false (at 51 52) end))))))) end))))))))))))))
    (leaf (ident w_unsafe) call_site (leaf (ident w_auto) call_site (leaf (ident w_trait) call_site (leaf (ident (97 ∷ [])) call_site (punct 60 false call_site (leaf (ident (98 ∷ [])) call_site (punct 62 false call_site (punct 58 false call_site (leaf (ident (99 ∷ [])) call_site (leaf (ident w_where) call_site (leaf (ident (100 ∷ [])) call_site (punct 58 false call_site (leaf (ident (101 ∷ [])) call_site (group Brace call_site call_site (punct 35 false call_site (punct 33 false call_site (group Bracket call_site call_site (leaf (ident (102 ∷ [])) call_site end) (leaf (ident w_fn) call_site (leaf (ident (103 ∷ [])) call_site (group Paren call_site call_site end (punct 59 false call_site end))))))) end))))))))))))))
    (end)
unfolding left is_end lookahead_at sees take_token take_lifetime take_mark take_group before first_span rows_for rows run parse_rule
bare_trait_all = computed bare_trait _ _ _ refl

-- `auto unsafe trait a {}`: nothing is read
bare_trait_order : NotDerived (rule bare_trait)
    (leaf (ident w_auto) (at 0 4) (leaf (ident w_unsafe) (at 5 11) (leaf (ident w_trait) (at 12 17) (leaf (ident (97 ∷ [])) (at 18 19) (group Brace (at 20 21) (at 21 22) end end)))))
unfolding left is_end lookahead_at sees take_token take_lifetime take_mark take_group before first_span rows_for rows run parse_rule
bare_trait_order = not_read bare_trait _ refl

-- `#[a] pub const trait b {}` prints `# [a] pub const trait b {}`
trait_whole : DerivesAs trait_definition
    (punct 35 false (at 0 1) (group Bracket (at 1 2) (at 3 4) (leaf (ident (97 ∷ [])) (at 2 3) end) (leaf (ident w_pub) (at 5 8) (leaf (ident w_const) (at 9 14) (leaf (ident w_trait) (at 15 20) (leaf (ident (98 ∷ [])) (at 21 22) (group Brace (at 23 24) (at 24 25) end end)))))))
    (punct 35 false call_site (group Bracket call_site call_site (leaf (ident (97 ∷ [])) call_site end) (leaf (ident w_pub) call_site (leaf (ident w_const) call_site (leaf (ident w_trait) call_site (leaf (ident (98 ∷ [])) call_site (group Brace call_site call_site end end)))))))
    (end)
unfolding left is_end lookahead_at sees take_token take_lifetime take_mark take_group before first_span rows_for rows run parse_rule
trait_whole = computed trait_definition _ _ _ refl

-- `trait a = b;`: nothing is read
trait_alias_refused : NotDerived (rule trait_definition)
    (leaf (ident w_trait) (at 0 5) (leaf (ident (97 ∷ [])) (at 6 7) (punct 61 false (at 8 9) (leaf (ident (98 ∷ [])) (at 10 11) (punct 59 false (at 11 12) end)))))
unfolding left is_end lookahead_at sees take_token take_lifetime take_mark take_group before first_span rows_for rows run parse_rule
trait_alias_refused = not_read trait_definition _ refl

-- `trait a<>: where {}` prints `trait a {}`
trait_rest_empty : DerivesAs trait_definition_rest
    (leaf (ident w_trait) (at 0 5) (leaf (ident (97 ∷ [])) (at 6 7) (punct 60 true (at 7 8) (punct 62 true (at 8 9) (punct 58 false (at 9 10) (leaf (ident w_where) (at 11 16) (group Brace (at 17 18) (at 18 19) end end)))))))
    (leaf (ident w_trait) call_site (leaf (ident (97 ∷ [])) call_site (group Brace call_site call_site end end)))
    (end)
unfolding left is_end lookahead_at sees take_token take_lifetime take_mark take_group before first_span rows_for rows run parse_rule
trait_rest_empty = computed trait_definition_rest _ _ _ refl

-- `impl(crate) trait a {}`: nothing is read
trait_rest_impl : NotDerived (rule trait_definition_rest)
    (leaf (ident w_impl) (at 0 4) (group Paren (at 4 5) (at 10 11) (leaf (ident w_crate) (at 5 10) end) (leaf (ident w_trait) (at 12 17) (leaf (ident (97 ∷ [])) (at 18 19) (group Brace (at 20 21) (at 21 22) end end)))))
unfolding left is_end lookahead_at sees take_token take_lifetime take_mark take_group before first_span rows_for rows run parse_rule
trait_rest_impl = not_read trait_definition_rest _ refl

-- `&a` prints `& a`
self_type_reference : DerivesAs self_type
    (punct 38 false (at 0 1) (leaf (ident (97 ∷ [])) (at 1 2) end))
    (punct 38 false call_site (leaf (ident (97 ∷ [])) call_site end))
    (end)
unfolding left is_end lookahead_at sees take_token take_lifetime take_mark take_group before rows_for rows run parse_rule
self_type_reference = computed self_type _ _ _ refl

-- `fn`: nothing is read
self_type_word : NotDerived (rule self_type)
    (leaf (ident w_fn) (at 0 2) end)
unfolding left is_end lookahead_at sees take_token take_lifetime take_mark take_group before rows_for rows run parse_rule
self_type_word = not_read self_type _ refl

-- `for a` prints `for a`
for_self_type_path : DerivesAs for_self_type
    (leaf (ident w_for) (at 0 3) (leaf (ident (97 ∷ [])) (at 4 5) end))
    (leaf (ident w_for) call_site (leaf (ident (97 ∷ [])) call_site end))
    (end)
unfolding left is_end lookahead_at sees take_token take_lifetime take_mark take_group before rows_for rows run parse_rule
for_self_type_path = computed for_self_type _ _ _ refl

-- `a`: nothing is read
for_self_type_alone : NotDerived (rule for_self_type)
    (leaf (ident (97 ∷ [])) (at 0 1) end)
unfolding left is_end lookahead_at sees take_token take_lifetime take_mark take_group before rows_for rows run parse_rule
for_self_type_alone = not_read for_self_type _ refl

-- `where a: b { #![c] type d = e; }` prints `where a : b {# ! [c] type d = e ;}`
impl_body_where : DerivesAs impl_body
    (leaf (ident w_where) (at 0 5) (leaf (ident (97 ∷ [])) (at 6 7) (punct 58 false (at 7 8) (leaf (ident (98 ∷ [])) (at 9 10) (group Brace (at 11 12) (at 31 32) (punct 35 true (at 13 14) (punct 33 false (at 14 15) (group Bracket (at 15 16) (at 17 18) (leaf (ident (99 ∷ [])) (at 16 17) end) (leaf (ident w_type) (at 19 23) (leaf (ident (100 ∷ [])) (at 24 25) (punct 61 false (at 26 27) (leaf (ident (101 ∷ [])) (at 28 29) (punct 59 false (at 29 30) end)))))))) end)))))
    (leaf (ident w_where) call_site (leaf (ident (97 ∷ [])) call_site (punct 58 false call_site (leaf (ident (98 ∷ [])) call_site (group Brace call_site call_site (punct 35 false call_site (punct 33 false call_site (group Bracket call_site call_site (leaf (ident (99 ∷ [])) call_site end) (leaf (ident w_type) call_site (leaf (ident (100 ∷ [])) call_site (punct 61 false call_site (leaf (ident (101 ∷ [])) call_site (punct 59 false call_site end)))))))) end)))))
    (end)
unfolding left is_end lookahead_at sees take_token take_lifetime take_mark take_group before first_span rows_for rows run parse_rule
impl_body_where = computed impl_body _ _ _ refl

-- `;`: nothing is read
impl_body_semi : NotDerived (rule impl_body)
    (punct 59 false (at 0 1) end)
unfolding left is_end lookahead_at sees take_token take_lifetime take_mark take_group before first_span rows_for rows run parse_rule
impl_body_semi = not_read impl_body _ refl

-- `#[a] impl<b> c<b> {}` prints `# [a] impl < b > c < b > {}`
impl_inherent : DerivesAs impl_definition
    (punct 35 false (at 0 1) (group Bracket (at 1 2) (at 3 4) (leaf (ident (97 ∷ [])) (at 2 3) end) (leaf (ident w_impl) (at 5 9) (punct 60 false (at 9 10) (leaf (ident (98 ∷ [])) (at 10 11) (punct 62 false (at 11 12) (leaf (ident (99 ∷ [])) (at 13 14) (punct 60 false (at 14 15) (leaf (ident (98 ∷ [])) (at 15 16) (punct 62 false (at 16 17) (group Brace (at 18 19) (at 19 20) end end)))))))))))
    (punct 35 false call_site (group Bracket call_site call_site (leaf (ident (97 ∷ [])) call_site end) (leaf (ident w_impl) call_site (punct 60 false call_site (leaf (ident (98 ∷ [])) call_site (punct 62 false call_site (leaf (ident (99 ∷ [])) call_site (punct 60 false call_site (leaf (ident (98 ∷ [])) call_site (punct 62 false call_site (group Brace call_site call_site end end)))))))))))
    (end)
unfolding left is_end lookahead_at sees take_token take_lifetime take_mark take_group before first_span rows_for rows run parse_rule
impl_inherent = computed impl_definition _ _ _ refl

-- `default const unsafe impl !a for b {}` prints `default const unsafe impl ! a for b {}`
impl_trait : DerivesAs impl_definition
    (leaf (ident w_default) (at 0 7) (leaf (ident w_const) (at 8 13) (leaf (ident w_unsafe) (at 14 20) (leaf (ident w_impl) (at 21 25) (punct 33 false (at 26 27) (leaf (ident (97 ∷ [])) (at 27 28) (leaf (ident w_for) (at 29 32) (leaf (ident (98 ∷ [])) (at 33 34) (group Brace (at 35 36) (at 36 37) end end)))))))))
    (leaf (ident w_default) call_site (leaf (ident w_const) call_site (leaf (ident w_unsafe) call_site (leaf (ident w_impl) call_site (punct 33 false call_site (leaf (ident (97 ∷ [])) call_site (leaf (ident w_for) call_site (leaf (ident (98 ∷ [])) call_site (group Brace call_site call_site end end)))))))))
    (end)
unfolding left is_end lookahead_at sees take_token take_lifetime take_mark take_group before first_span rows_for rows run parse_rule
impl_trait = computed impl_definition _ _ _ refl

-- `impl ! {}` prints `impl ! {}`
impl_never : DerivesAs impl_definition
    (leaf (ident w_impl) (at 0 4) (punct 33 false (at 5 6) (group Brace (at 7 8) (at 8 9) end end)))
    (leaf (ident w_impl) call_site (punct 33 false call_site (group Brace call_site call_site end end)))
    (end)
unfolding left is_end lookahead_at sees take_token take_lifetime take_mark take_group before first_span rows_for rows run parse_rule
impl_never = computed impl_definition _ _ _ refl

-- `impl<> <a>::b {}` prints `impl < > < a > :: b {}`
impl_empty_generics : DerivesAs impl_definition
    (leaf (ident w_impl) (at 0 4) (punct 60 true (at 4 5) (punct 62 false (at 5 6) (punct 60 false (at 7 8) (leaf (ident (97 ∷ [])) (at 8 9) (punct 62 true (at 9 10) (punct 58 true (at 10 11) (punct 58 false (at 11 12) (leaf (ident (98 ∷ [])) (at 12 13) (group Brace (at 14 15) (at 15 16) end end))))))))))
    (leaf (ident w_impl) call_site (punct 60 false call_site (punct 62 false call_site (punct 60 false call_site (leaf (ident (97 ∷ [])) call_site (punct 62 false call_site (punct 58 true call_site (punct 58 false call_site (leaf (ident (98 ∷ [])) call_site (group Brace call_site call_site end end))))))))))
    (end)
unfolding left is_end lookahead_at sees take_token take_lifetime take_mark take_group before first_span rows_for rows run parse_rule
impl_empty_generics = computed impl_definition _ _ _ refl

-- `impl a for <b>::c {}` prints `impl < > a for < b > :: c {}`
impl_type_as_generics : DerivesAs impl_definition
    (leaf (ident w_impl) (at 0 4) (leaf (ident (97 ∷ [])) (at 5 6) (leaf (ident w_for) (at 7 10) (punct 60 false (at 11 12) (leaf (ident (98 ∷ [])) (at 12 13) (punct 62 true (at 13 14) (punct 58 true (at 14 15) (punct 58 false (at 15 16) (leaf (ident (99 ∷ [])) (at 16 17) (group Brace (at 18 19) (at 19 20) end end))))))))))
    (leaf (ident w_impl) call_site (punct 60 false call_site (punct 62 false call_site (leaf (ident (97 ∷ [])) call_site (leaf (ident w_for) call_site (punct 60 false call_site (leaf (ident (98 ∷ [])) call_site (punct 62 false call_site (punct 58 true call_site (punct 58 false call_site (leaf (ident (99 ∷ [])) call_site (group Brace call_site call_site end end))))))))))))
    (end)
unfolding left is_end lookahead_at sees take_token take_lifetime take_mark take_group before first_span rows_for rows run parse_rule
impl_type_as_generics = computed impl_definition _ _ _ refl

-- `impl &a {}` prints `impl & a {}`
impl_reference : DerivesAs impl_definition
    (leaf (ident w_impl) (at 0 4) (punct 38 false (at 5 6) (leaf (ident (97 ∷ [])) (at 6 7) (group Brace (at 8 9) (at 9 10) end end))))
    (leaf (ident w_impl) call_site (punct 38 false call_site (leaf (ident (97 ∷ [])) call_site (group Brace call_site call_site end end))))
    (end)
unfolding left is_end lookahead_at sees take_token take_lifetime take_mark take_group before first_span rows_for rows run parse_rule
impl_reference = computed impl_definition _ _ _ refl

-- `impl !a {}`: nothing is read
impl_negative : NotDerived (rule impl_definition)
    (leaf (ident w_impl) (at 0 4) (punct 33 false (at 5 6) (leaf (ident (97 ∷ [])) (at 6 7) (group Brace (at 8 9) (at 9 10) end end))))
unfolding left is_end lookahead_at sees take_token take_lifetime take_mark take_group before first_span rows_for rows run parse_rule
impl_negative = not_read impl_definition _ refl

-- `impl &a for b {}`: nothing is read
impl_reference_for : NotDerived (rule impl_definition)
    (leaf (ident w_impl) (at 0 4) (punct 38 false (at 5 6) (leaf (ident (97 ∷ [])) (at 6 7) (leaf (ident w_for) (at 8 11) (leaf (ident (98 ∷ [])) (at 12 13) (group Brace (at 14 15) (at 15 16) end end))))))
unfolding left is_end lookahead_at sees take_token take_lifetime take_mark take_group before first_span rows_for rows run parse_rule
impl_reference_for = not_read impl_definition _ refl

-- `impl a {}` prints `impl a {}`
impl_rest_plain : DerivesAs impl_definition_rest
    (leaf (ident w_impl) (at 0 4) (leaf (ident (97 ∷ [])) (at 5 6) (group Brace (at 7 8) (at 8 9) end end)))
    (leaf (ident w_impl) call_site (leaf (ident (97 ∷ [])) call_site (group Brace call_site call_site end end)))
    (end)
unfolding left is_end lookahead_at sees take_token take_lifetime take_mark take_group before first_span rows_for rows run parse_rule
impl_rest_plain = computed impl_definition_rest _ _ _ refl

-- `pub const impl a {}`: nothing is read
impl_rest_visible : NotDerived (rule impl_definition_rest)
    (leaf (ident w_pub) (at 0 3) (leaf (ident w_const) (at 4 9) (leaf (ident w_impl) (at 10 14) (leaf (ident (97 ∷ [])) (at 15 16) (group Brace (at 17 18) (at 18 19) end end)))))
unfolding left is_end lookahead_at sees take_token take_lifetime take_mark take_group before first_span rows_for rows run parse_rule
impl_rest_visible = not_read impl_definition_rest _ refl

-- `default impl &a for b {}` prints `default impl & a for b {}`
odd_impl_reference : DerivesAs odd_impl
    (leaf (ident w_default) (at 0 7) (leaf (ident w_impl) (at 8 12) (punct 38 false (at 13 14) (leaf (ident (97 ∷ [])) (at 14 15) (leaf (ident w_for) (at 16 19) (leaf (ident (98 ∷ [])) (at 20 21) (group Brace (at 22 23) (at 23 24) end end)))))))
    (leaf (ident w_default) call_site (leaf (ident w_impl) call_site (punct 38 false call_site (leaf (ident (97 ∷ [])) call_site (leaf (ident w_for) call_site (leaf (ident (98 ∷ [])) call_site (group Brace call_site call_site end end)))))))
    (end)
unfolding left is_end lookahead_at sees take_token take_lifetime take_mark take_group before first_span rows_for rows run parse_rule
odd_impl_reference = computed odd_impl _ _ _ refl

-- `impl a for b {}`: nothing is read
odd_impl_path : NotDerived (rule odd_impl)
    (leaf (ident w_impl) (at 0 4) (leaf (ident (97 ∷ [])) (at 5 6) (leaf (ident w_for) (at 7 10) (leaf (ident (98 ∷ [])) (at 11 12) (group Brace (at 13 14) (at 14 15) end end)))))
unfolding left is_end lookahead_at sees take_token take_lifetime take_mark take_group before first_span rows_for rows run parse_rule
odd_impl_path = not_read odd_impl _ refl

-- `pub const impl !&a for b {}` prints `pub const impl !& a for b {}`
visible_impl_any : DerivesAs visible_const_impl
    (leaf (ident w_pub) (at 0 3) (leaf (ident w_const) (at 4 9) (leaf (ident w_impl) (at 10 14) (punct 33 true (at 15 16) (punct 38 false (at 16 17) (leaf (ident (97 ∷ [])) (at 17 18) (leaf (ident w_for) (at 19 22) (leaf (ident (98 ∷ [])) (at 23 24) (group Brace (at 25 26) (at 26 27) end end)))))))))
    (leaf (ident w_pub) call_site (leaf (ident w_const) call_site (leaf (ident w_impl) call_site (punct 33 true call_site (punct 38 false call_site (leaf (ident (97 ∷ [])) call_site (leaf (ident w_for) call_site (leaf (ident (98 ∷ [])) call_site (group Brace call_site call_site end end)))))))))
    (end)
unfolding left is_end lookahead_at sees take_token take_lifetime take_mark take_group before first_span rows_for rows run parse_rule
visible_impl_any = computed visible_const_impl _ _ _ refl

-- `pub impl a {}`: nothing is read
visible_impl_plain : NotDerived (rule visible_const_impl)
    (leaf (ident w_pub) (at 0 3) (leaf (ident w_impl) (at 4 8) (leaf (ident (97 ∷ [])) (at 9 10) (group Brace (at 11 12) (at 12 13) end end))))
unfolding left is_end lookahead_at sees take_token take_lifetime take_mark take_group before first_span rows_for rows run parse_rule
visible_impl_plain = not_read visible_const_impl _ refl

-- `const trait a {}`: nothing is read
const_trait_before : NotDerived (rule const_trait)
    (leaf (ident w_const) (at 0 5) (leaf (ident w_trait) (at 6 11) (leaf (ident (97 ∷ [])) (at 12 13) (group Brace (at 14 15) (at 15 16) end end))))
unfolding left is_end lookahead_at sees take_token take_lifetime take_mark take_group before rows_for rows run parse_rule
const_trait_before = not_read const_trait _ refl

-- `const impl a {}`: nothing is read
const_impl_before : NotDerived (rule const_impl)
    (leaf (ident w_const) (at 0 5) (leaf (ident w_impl) (at 6 10) (leaf (ident (97 ∷ [])) (at 11 12) (group Brace (at 13 14) (at 14 15) end end))))
unfolding left is_end lookahead_at sees take_token take_lifetime take_mark take_group before rows_for rows run parse_rule
const_impl_before = not_read const_impl _ refl

-- `const impl &a for b {}`: nothing is read
odd_const_impl_before : NotDerived (rule odd_const_impl)
    (leaf (ident w_const) (at 0 5) (leaf (ident w_impl) (at 6 10) (punct 38 false (at 11 12) (leaf (ident (97 ∷ [])) (at 12 13) (leaf (ident w_for) (at 14 17) (leaf (ident (98 ∷ [])) (at 18 19) (group Brace (at 20 21) (at 21 22) end end)))))))
unfolding left is_end lookahead_at sees take_token take_lifetime take_mark take_group before rows_for rows run parse_rule
odd_const_impl_before = not_read odd_const_impl _ refl

-- `#[a] unsafe extern "C" { #![b] safe fn c(); }` prints `# [a] unsafe extern "C" {# ! [b] safe fn c () ;}`
foreign_whole : DerivesAs foreign_module
    (punct 35 false (at 0 1) (group Bracket (at 1 2) (at 3 4) (leaf (ident (97 ∷ [])) (at 2 3) end) (leaf (ident w_unsafe) (at 5 11) (leaf (ident w_extern) (at 12 18) (leaf (literal Str (34 ∷ 67 ∷ 34 ∷ [])) (at 19 22) (group Brace (at 23 24) (at 44 45) (punct 35 true (at 25 26) (punct 33 false (at 26 27) (group Bracket (at 27 28) (at 29 30) (leaf (ident (98 ∷ [])) (at 28 29) end) (leaf (ident w_safe) (at 31 35) (leaf (ident w_fn) (at 36 38) (leaf (ident (99 ∷ [])) (at 39 40) (group Paren (at 40 41) (at 41 42) end (punct 59 false (at 42 43) end)))))))) end))))))
    (punct 35 false call_site (group Bracket call_site call_site (leaf (ident (97 ∷ [])) call_site end) (leaf (ident w_unsafe) call_site (leaf (ident w_extern) call_site (leaf (literal Str (34 ∷ 67 ∷ 34 ∷ [])) call_site (group Brace call_site call_site (punct 35 false call_site (punct 33 false call_site (group Bracket call_site call_site (leaf (ident (98 ∷ [])) call_site end) (leaf (ident w_safe) call_site (leaf (ident w_fn) call_site (leaf (ident (99 ∷ [])) call_site (group Paren call_site call_site end (punct 59 false call_site end)))))))) end))))))
    (end)
unfolding left is_end lookahead_at sees take_token take_lifetime take_mark take_group before first_span rows_for rows run parse_rule
foreign_whole = computed foreign_module _ _ _ refl

-- `extern "C";`: nothing is read
foreign_semi : NotDerived (rule foreign_module)
    (leaf (ident w_extern) (at 0 6) (leaf (literal Str (34 ∷ 67 ∷ 34 ∷ [])) (at 7 10) (punct 59 false (at 10 11) end)))
unfolding left is_end lookahead_at sees take_token take_lifetime take_mark take_group before first_span rows_for rows run parse_rule
foreign_semi = not_read foreign_module _ refl

-- `extern {}` prints `extern {}`
foreign_rest_plain : DerivesAs foreign_module_rest
    (leaf (ident w_extern) (at 0 6) (group Brace (at 7 8) (at 8 9) end end))
    (leaf (ident w_extern) call_site (group Brace call_site call_site end end))
    (end)
unfolding left is_end lookahead_at sees take_token take_lifetime take_mark take_group before first_span rows_for rows run parse_rule
foreign_rest_plain = computed foreign_module_rest _ _ _ refl

-- `pub extern {}`: nothing is read
foreign_rest_visible : NotDerived (rule foreign_module_rest)
    (leaf (ident w_pub) (at 0 3) (leaf (ident w_extern) (at 4 10) (group Brace (at 11 12) (at 12 13) end end)))
unfolding left is_end lookahead_at sees take_token take_lifetime take_mark take_group before first_span rows_for rows run parse_rule
foreign_rest_visible = not_read foreign_module_rest _ refl

-- `a::b!();` prints `a :: b ! () ;`
member_macro_path : DerivesAs member_macro
    (leaf (ident (97 ∷ [])) (at 0 1) (punct 58 true (at 1 2) (punct 58 false (at 2 3) (leaf (ident (98 ∷ [])) (at 3 4) (punct 33 false (at 4 5) (group Paren (at 5 6) (at 6 7) end (punct 59 false (at 7 8) end)))))))
    (leaf (ident (97 ∷ [])) call_site (punct 58 true call_site (punct 58 false call_site (leaf (ident (98 ∷ [])) call_site (punct 33 false call_site (group Paren call_site call_site end (punct 59 false call_site end)))))))
    (end)
unfolding left is_end lookahead_at sees take_token take_lifetime take_mark take_group before rows_for rows run parse_rule
member_macro_path = computed member_macro _ _ _ refl

-- `a! b {}`: nothing is read
member_macro_named : NotDerived (rule member_macro)
    (leaf (ident (97 ∷ [])) (at 0 1) (punct 33 false (at 1 2) (leaf (ident (98 ∷ [])) (at 3 4) (group Brace (at 5 6) (at 6 7) end end))))
unfolding left is_end lookahead_at sees take_token take_lifetime take_mark take_group before rows_for rows run parse_rule
member_macro_named = not_read member_macro _ refl

-- `fn a();` prints `fn a () ;`
bare_function_semi : DerivesAs bare_trait_function
    (leaf (ident w_fn) (at 0 2) (leaf (ident (97 ∷ [])) (at 3 4) (group Paren (at 4 5) (at 5 6) end (punct 59 false (at 6 7) end))))
    (leaf (ident w_fn) call_site (leaf (ident (97 ∷ [])) call_site (group Paren call_site call_site end (punct 59 false call_site end))))
    (end)
unfolding left is_end lookahead_at sees take_token take_lifetime take_mark take_group before first_span rows_for rows run parse_rule
bare_function_semi = computed bare_trait_function _ _ _ refl

-- `async fn a() {}` prints `async fn a () {}`
bare_function_body : DerivesAs bare_trait_function
    (leaf (ident w_async) (at 0 5) (leaf (ident w_fn) (at 6 8) (leaf (ident (97 ∷ [])) (at 9 10) (group Paren (at 10 11) (at 11 12) end (group Brace (at 13 14) (at 14 15) end end)))))
    (leaf (ident w_async) call_site (leaf (ident w_fn) call_site (leaf (ident (97 ∷ [])) call_site (group Paren call_site call_site end (group Brace call_site call_site end end)))))
    (end)
unfolding left is_end lookahead_at sees take_token take_lifetime take_mark take_group before first_span rows_for rows run parse_rule
bare_function_body = computed bare_trait_function _ _ _ refl

-- `fn a()`: nothing is read
bare_function_nothing : NotDerived (rule bare_trait_function)
    (leaf (ident w_fn) (at 0 2) (leaf (ident (97 ∷ [])) (at 3 4) (group Paren (at 4 5) (at 5 6) end end)))
unfolding left is_end lookahead_at sees take_token take_lifetime take_mark take_group before first_span rows_for rows run parse_rule
bare_function_nothing = not_read bare_trait_function _ refl

-- `type a<b>: c = d where e: f;` prints `type a < b > : c = d where e : f ;`
bare_type_all : DerivesAs bare_trait_type
    (leaf (ident w_type) (at 0 4) (leaf (ident (97 ∷ [])) (at 5 6) (punct 60 false (at 6 7) (leaf (ident (98 ∷ [])) (at 7 8) (punct 62 true (at 8 9) (punct 58 false (at 9 10) (leaf (ident (99 ∷ [])) (at 11 12) (punct 61 false (at 13 14) (leaf (ident (100 ∷ [])) (at 15 16) (leaf (ident w_where) (at 17 22) (leaf (ident (101 ∷ [])) (at 23 24) (punct 58 false (at 24 25) (leaf (ident (102 ∷ [])) (at 26 27) (punct 59 false (at 27 28) end))))))))))))))
    (leaf (ident w_type) call_site (leaf (ident (97 ∷ [])) call_site (punct 60 false call_site (leaf (ident (98 ∷ [])) call_site (punct 62 false call_site (punct 58 false call_site (leaf (ident (99 ∷ [])) call_site (punct 61 false call_site (leaf (ident (100 ∷ [])) call_site (leaf (ident w_where) call_site (leaf (ident (101 ∷ [])) call_site (punct 58 false call_site (leaf (ident (102 ∷ [])) call_site (punct 59 false call_site end))))))))))))))
    (end)
unfolding left is_end lookahead_at sees take_token take_lifetime take_mark take_group before rows_for rows run parse_rule
bare_type_all = computed bare_trait_type _ _ _ refl

-- `type a where b: c = d;`: nothing is read
bare_type_early : NotDerived (rule bare_trait_type)
    (leaf (ident w_type) (at 0 4) (leaf (ident (97 ∷ [])) (at 5 6) (leaf (ident w_where) (at 7 12) (leaf (ident (98 ∷ [])) (at 13 14) (punct 58 false (at 14 15) (leaf (ident (99 ∷ [])) (at 16 17) (punct 61 false (at 18 19) (leaf (ident (100 ∷ [])) (at 20 21) (punct 59 false (at 21 22) end)))))))))
unfolding left is_end lookahead_at sees take_token take_lifetime take_mark take_group before rows_for rows run parse_rule
bare_type_early = not_read bare_trait_type _ refl

-- `#[a] const b: c = d;` prints `# [a] const b : c = d ;`
trait_const_value : DerivesAs trait_const
    (punct 35 false (at 0 1) (group Bracket (at 1 2) (at 3 4) (leaf (ident (97 ∷ [])) (at 2 3) end) (leaf (ident w_const) (at 5 10) (leaf (ident (98 ∷ [])) (at 11 12) (punct 58 false (at 12 13) (leaf (ident (99 ∷ [])) (at 14 15) (punct 61 false (at 16 17) (leaf (ident (100 ∷ [])) (at 18 19) (punct 59 false (at 19 20) end)))))))))
    (punct 35 false call_site (group Bracket call_site call_site (leaf (ident (97 ∷ [])) call_site end) (leaf (ident w_const) call_site (leaf (ident (98 ∷ [])) call_site (punct 58 false call_site (leaf (ident (99 ∷ [])) call_site (punct 61 false call_site (leaf (ident (100 ∷ [])) call_site (punct 59 false call_site end)))))))))
    (end)
unfolding left is_end lookahead_at sees take_token take_lifetime take_mark take_group before rows_for rows run parse_rule
trait_const_value = computed trait_const _ _ _ refl

-- `const a: b;` prints `const a : b ;`
trait_const_alone : DerivesAs trait_const
    (leaf (ident w_const) (at 0 5) (leaf (ident (97 ∷ [])) (at 6 7) (punct 58 false (at 7 8) (leaf (ident (98 ∷ [])) (at 9 10) (punct 59 false (at 10 11) end)))))
    (leaf (ident w_const) call_site (leaf (ident (97 ∷ [])) call_site (punct 58 false call_site (leaf (ident (98 ∷ [])) call_site (punct 59 false call_site end)))))
    (end)
unfolding left is_end lookahead_at sees take_token take_lifetime take_mark take_group before rows_for rows run parse_rule
trait_const_alone = computed trait_const _ _ _ refl

-- `pub const a: b;`: nothing is read
trait_const_visible : NotDerived (rule trait_const)
    (leaf (ident w_pub) (at 0 3) (leaf (ident w_const) (at 4 9) (leaf (ident (97 ∷ [])) (at 10 11) (punct 58 false (at 11 12) (leaf (ident (98 ∷ [])) (at 13 14) (punct 59 false (at 14 15) end))))))
unfolding left is_end lookahead_at sees take_token take_lifetime take_mark take_group before rows_for rows run parse_rule
trait_const_visible = not_read trait_const _ refl

-- `#[a] fn b() {}` prints `# [a] fn b () {}`
trait_function_default : DerivesAs trait_function
    (punct 35 false (at 0 1) (group Bracket (at 1 2) (at 3 4) (leaf (ident (97 ∷ [])) (at 2 3) end) (leaf (ident w_fn) (at 5 7) (leaf (ident (98 ∷ [])) (at 8 9) (group Paren (at 9 10) (at 10 11) end (group Brace (at 12 13) (at 13 14) end end))))))
    (punct 35 false call_site (group Bracket call_site call_site (leaf (ident (97 ∷ [])) call_site end) (leaf (ident w_fn) call_site (leaf (ident (98 ∷ [])) call_site (group Paren call_site call_site end (group Brace call_site call_site end end))))))
    (end)
unfolding left is_end lookahead_at sees take_token take_lifetime take_mark take_group before first_span rows_for rows run parse_rule
trait_function_default = computed trait_function _ _ _ refl

-- `pub fn a();`: nothing is read
trait_function_visible : NotDerived (rule trait_function)
    (leaf (ident w_pub) (at 0 3) (leaf (ident w_fn) (at 4 6) (leaf (ident (97 ∷ [])) (at 7 8) (group Paren (at 8 9) (at 9 10) end (punct 59 false (at 10 11) end)))))
unfolding left is_end lookahead_at sees take_token take_lifetime take_mark take_group before first_span rows_for rows run parse_rule
trait_function_visible = not_read trait_function _ refl

-- `#[a] type b;` prints `# [a] type b ;`
trait_type_plain : DerivesAs trait_type
    (punct 35 false (at 0 1) (group Bracket (at 1 2) (at 3 4) (leaf (ident (97 ∷ [])) (at 2 3) end) (leaf (ident w_type) (at 5 9) (leaf (ident (98 ∷ [])) (at 10 11) (punct 59 false (at 11 12) end)))))
    (punct 35 false call_site (group Bracket call_site call_site (leaf (ident (97 ∷ [])) call_site end) (leaf (ident w_type) call_site (leaf (ident (98 ∷ [])) call_site (punct 59 false call_site end)))))
    (end)
unfolding left is_end lookahead_at sees take_token take_lifetime take_mark take_group before rows_for rows run parse_rule
trait_type_plain = computed trait_type _ _ _ refl

-- `pub type a;`: nothing is read
trait_type_visible : NotDerived (rule trait_type)
    (leaf (ident w_pub) (at 0 3) (leaf (ident w_type) (at 4 8) (leaf (ident (97 ∷ [])) (at 9 10) (punct 59 false (at 10 11) end))))
unfolding left is_end lookahead_at sees take_token take_lifetime take_mark take_group before rows_for rows run parse_rule
trait_type_visible = not_read trait_type _ refl

-- `#[a] default!();` prints `# [a] default ! () ;`
trait_macro_default : DerivesAs trait_macro
    (punct 35 false (at 0 1) (group Bracket (at 1 2) (at 3 4) (leaf (ident (97 ∷ [])) (at 2 3) end) (leaf (ident w_default) (at 5 12) (punct 33 false (at 12 13) (group Paren (at 13 14) (at 14 15) end (punct 59 false (at 15 16) end))))))
    (punct 35 false call_site (group Bracket call_site call_site (leaf (ident (97 ∷ [])) call_site end) (leaf (ident w_default) call_site (punct 33 false call_site (group Paren call_site call_site end (punct 59 false call_site end))))))
    (end)
unfolding left is_end lookahead_at sees take_token take_lifetime take_mark take_group before rows_for rows run parse_rule
trait_macro_default = computed trait_macro _ _ _ refl

-- `a();`: nothing is read
trait_macro_no_bang : NotDerived (rule trait_macro)
    (leaf (ident (97 ∷ [])) (at 0 1) (group Paren (at 1 2) (at 2 3) end (punct 59 false (at 3 4) end)))
unfolding left is_end lookahead_at sees take_token take_lifetime take_mark take_group before rows_for rows run parse_rule
trait_macro_no_bang = not_read trait_macro _ refl

-- `a!{}` prints `a ! {}`
trait_macro_item_plain : DerivesAs trait_macro_as_item
    (leaf (ident (97 ∷ [])) (at 0 1) (punct 33 false (at 1 2) (group Brace (at 2 3) (at 3 4) end end)))
    (leaf (ident (97 ∷ [])) call_site (punct 33 false call_site (group Brace call_site call_site end end)))
    (end)
unfolding left is_end lookahead_at sees take_token take_lifetime take_mark take_group before rows_for rows run parse_rule
trait_macro_item_plain = computed trait_macro_as_item _ _ _ refl

-- `default!();`: nothing is read
trait_macro_item_default : NotDerived (rule trait_macro_as_item)
    (leaf (ident w_default) (at 0 7) (punct 33 false (at 7 8) (group Paren (at 8 9) (at 9 10) end (punct 59 false (at 10 11) end))))
unfolding left is_end lookahead_at sees take_token take_lifetime take_mark take_group before rows_for rows run parse_rule
trait_macro_item_default = not_read trait_macro_as_item _ refl

-- `const a<b>: c = d where e: f;` prints `const a < b > : c = d where e : f ;`
any_const_all : DerivesAs any_const
    (leaf (ident w_const) (at 0 5) (leaf (ident (97 ∷ [])) (at 6 7) (punct 60 false (at 7 8) (leaf (ident (98 ∷ [])) (at 8 9) (punct 62 true (at 9 10) (punct 58 false (at 10 11) (leaf (ident (99 ∷ [])) (at 12 13) (punct 61 false (at 14 15) (leaf (ident (100 ∷ [])) (at 16 17) (leaf (ident w_where) (at 18 23) (leaf (ident (101 ∷ [])) (at 24 25) (punct 58 false (at 25 26) (leaf (ident (102 ∷ [])) (at 27 28) (punct 59 false (at 28 29) end))))))))))))))
    (leaf (ident w_const) call_site (leaf (ident (97 ∷ [])) call_site (punct 60 false call_site (leaf (ident (98 ∷ [])) call_site (punct 62 false call_site (punct 58 false call_site (leaf (ident (99 ∷ [])) call_site (punct 61 false call_site (leaf (ident (100 ∷ [])) call_site (leaf (ident w_where) call_site (leaf (ident (101 ∷ [])) call_site (punct 58 false call_site (leaf (ident (102 ∷ [])) call_site (punct 59 false call_site end))))))))))))))
    (end)
unfolding left is_end lookahead_at sees take_token take_lifetime take_mark take_group before rows_for rows run parse_rule
any_const_all = computed any_const _ _ _ refl

-- `const a = b;`: nothing is read
any_const_no_type : NotDerived (rule any_const)
    (leaf (ident w_const) (at 0 5) (leaf (ident (97 ∷ [])) (at 6 7) (punct 61 false (at 8 9) (leaf (ident (98 ∷ [])) (at 10 11) (punct 59 false (at 11 12) end)))))
unfolding left is_end lookahead_at sees take_token take_lifetime take_mark take_group before rows_for rows run parse_rule
any_const_no_type = not_read any_const _ refl

-- `pub default fn a();` prints `pub default fn a () ;`
marked_visible : DerivesAs marked_member
    (leaf (ident w_pub) (at 0 3) (leaf (ident w_default) (at 4 11) (leaf (ident w_fn) (at 12 14) (leaf (ident (97 ∷ [])) (at 15 16) (group Paren (at 16 17) (at 17 18) end (punct 59 false (at 18 19) end))))))
    (leaf (ident w_pub) call_site (leaf (ident w_default) call_site (leaf (ident w_fn) call_site (leaf (ident (97 ∷ [])) call_site (group Paren call_site call_site end (punct 59 false call_site end))))))
    (end)
unfolding left is_end lookahead_at sees take_token take_lifetime take_mark take_group before first_span rows_for rows run parse_rule
marked_visible = computed marked_member _ _ _ refl

-- `default const a<>: b;` prints `default const a < > : b ;`
marked_default : DerivesAs marked_member
    (leaf (ident w_default) (at 0 7) (leaf (ident w_const) (at 8 13) (leaf (ident (97 ∷ [])) (at 14 15) (punct 60 true (at 15 16) (punct 62 true (at 16 17) (punct 58 false (at 17 18) (leaf (ident (98 ∷ [])) (at 19 20) (punct 59 false (at 20 21) end))))))))
    (leaf (ident w_default) call_site (leaf (ident w_const) call_site (leaf (ident (97 ∷ [])) call_site (punct 60 false call_site (punct 62 false call_site (punct 58 false call_site (leaf (ident (98 ∷ [])) call_site (punct 59 false call_site end))))))))
    (end)
unfolding left is_end lookahead_at sees take_token take_lifetime take_mark take_group before first_span rows_for rows run parse_rule
marked_default = computed marked_member _ _ _ refl

-- `fn a();`: nothing is read
marked_plain : NotDerived (rule marked_member)
    (leaf (ident w_fn) (at 0 2) (leaf (ident (97 ∷ [])) (at 3 4) (group Paren (at 4 5) (at 5 6) end (punct 59 false (at 6 7) end))))
unfolding left is_end lookahead_at sees take_token take_lifetime take_mark take_group before first_span rows_for rows run parse_rule
marked_plain = not_read marked_member _ refl

-- `const a<b>: c;` prints `const a < b > : c ;`
odd_trait_const_generics : DerivesAs odd_trait_const
    (leaf (ident w_const) (at 0 5) (leaf (ident (97 ∷ [])) (at 6 7) (punct 60 false (at 7 8) (leaf (ident (98 ∷ [])) (at 8 9) (punct 62 true (at 9 10) (punct 58 false (at 10 11) (leaf (ident (99 ∷ [])) (at 12 13) (punct 59 false (at 13 14) end))))))))
    (leaf (ident w_const) call_site (leaf (ident (97 ∷ [])) call_site (punct 60 false call_site (leaf (ident (98 ∷ [])) call_site (punct 62 false call_site (punct 58 false call_site (leaf (ident (99 ∷ [])) call_site (punct 59 false call_site end))))))))
    (end)
unfolding left is_end lookahead_at sees take_token take_lifetime take_mark take_group before rows_for rows run parse_rule
odd_trait_const_generics = computed odd_trait_const _ _ _ refl

-- `const a: b = c where;` prints `const a : b = c where ;`
odd_trait_const_where : DerivesAs odd_trait_const
    (leaf (ident w_const) (at 0 5) (leaf (ident (97 ∷ [])) (at 6 7) (punct 58 false (at 7 8) (leaf (ident (98 ∷ [])) (at 9 10) (punct 61 false (at 11 12) (leaf (ident (99 ∷ [])) (at 13 14) (leaf (ident w_where) (at 15 20) (punct 59 false (at 20 21) end))))))))
    (leaf (ident w_const) call_site (leaf (ident (97 ∷ [])) call_site (punct 58 false call_site (leaf (ident (98 ∷ [])) call_site (punct 61 false call_site (leaf (ident (99 ∷ [])) call_site (leaf (ident w_where) call_site (punct 59 false call_site end))))))))
    (end)
unfolding left is_end lookahead_at sees take_token take_lifetime take_mark take_group before rows_for rows run parse_rule
odd_trait_const_where = computed odd_trait_const _ _ _ refl

-- `const a: b;`: nothing is read
odd_trait_const_plain : NotDerived (rule odd_trait_const)
    (leaf (ident w_const) (at 0 5) (leaf (ident (97 ∷ [])) (at 6 7) (punct 58 false (at 7 8) (leaf (ident (98 ∷ [])) (at 9 10) (punct 59 false (at 10 11) end)))))
unfolding left is_end lookahead_at sees take_token take_lifetime take_mark take_group before rows_for rows run parse_rule
odd_trait_const_plain = not_read odd_trait_const _ refl

-- `#[a] pub fn b();` prints `# [a] pub fn b () ;`
kept_trait_visible : DerivesAs kept_trait_item
    (punct 35 false (at 0 1) (group Bracket (at 1 2) (at 3 4) (leaf (ident (97 ∷ [])) (at 2 3) end) (leaf (ident w_pub) (at 5 8) (leaf (ident w_fn) (at 9 11) (leaf (ident (98 ∷ [])) (at 12 13) (group Paren (at 13 14) (at 14 15) end (punct 59 false (at 15 16) end)))))))
    (punct 35 false call_site (group Bracket call_site call_site (leaf (ident (97 ∷ [])) call_site end) (leaf (ident w_pub) call_site (leaf (ident w_fn) call_site (leaf (ident (98 ∷ [])) call_site (group Paren call_site call_site end (punct 59 false call_site end)))))))
    (end)
unfolding left is_end lookahead_at sees take_token take_lifetime take_mark take_group before first_span rows_for rows run parse_rule
kept_trait_visible = computed kept_trait_item _ _ _ refl

-- `fn a();`: nothing is read
kept_trait_plain : NotDerived (rule kept_trait_item)
    (leaf (ident w_fn) (at 0 2) (leaf (ident (97 ∷ [])) (at 3 4) (group Paren (at 4 5) (at 5 6) end (punct 59 false (at 6 7) end))))
unfolding left is_end lookahead_at sees take_token take_lifetime take_mark take_group before first_span rows_for rows run parse_rule
kept_trait_plain = not_read kept_trait_item _ refl

-- `type a: b += c;` prints `type a : b + = c ;`
trait_item_bounds : DerivesAs trait_item
    (leaf (ident w_type) (at 0 4) (leaf (ident (97 ∷ [])) (at 5 6) (punct 58 false (at 6 7) (leaf (ident (98 ∷ [])) (at 8 9) (punct 43 true (at 10 11) (punct 61 false (at 11 12) (leaf (ident (99 ∷ [])) (at 13 14) (punct 59 false (at 14 15) end))))))))
    (leaf (ident w_type) call_site (leaf (ident (97 ∷ [])) call_site (punct 58 false call_site (leaf (ident (98 ∷ [])) call_site (punct 43 false call_site (punct 61 false call_site (leaf (ident (99 ∷ [])) call_site (punct 59 false call_site end))))))))
    (end)
unfolding left is_end lookahead_at sees take_token take_lifetime take_mark take_group before first_span rows_for rows run parse_rule
trait_item_bounds = computed trait_item _ _ _ refl

-- `default const a: b;` prints `default const a : b ;`
trait_item_kept : DerivesAs trait_item
    (leaf (ident w_default) (at 0 7) (leaf (ident w_const) (at 8 13) (leaf (ident (97 ∷ [])) (at 14 15) (punct 58 false (at 15 16) (leaf (ident (98 ∷ [])) (at 17 18) (punct 59 false (at 18 19) end))))))
    (leaf (ident w_default) call_site (leaf (ident w_const) call_site (leaf (ident (97 ∷ [])) call_site (punct 58 false call_site (leaf (ident (98 ∷ [])) call_site (punct 59 false call_site end))))))
    (end)
unfolding left is_end lookahead_at sees take_token take_lifetime take_mark take_group before first_span rows_for rows run parse_rule
trait_item_kept = computed trait_item _ _ _ refl

-- `default::a!{}`: nothing is read
trait_item_macro : NotDerived (rule trait_item)
    (leaf (ident w_default) (at 0 7) (punct 58 true (at 7 8) (punct 58 false (at 8 9) (leaf (ident (97 ∷ [])) (at 9 10) (punct 33 false (at 10 11) (group Brace (at 11 12) (at 12 13) end end))))))
unfolding left is_end lookahead_at sees take_token take_lifetime take_mark take_group before first_span rows_for rows run parse_rule
trait_item_macro = not_read trait_item _ refl

-- `fn a(); type b;` prints `fn a () ; type b ;`
trait_items_two : DerivesAs trait_items
    (leaf (ident w_fn) (at 0 2) (leaf (ident (97 ∷ [])) (at 3 4) (group Paren (at 4 5) (at 5 6) end (punct 59 false (at 6 7) (leaf (ident w_type) (at 8 12) (leaf (ident (98 ∷ [])) (at 13 14) (punct 59 false (at 14 15) end)))))))
    (leaf (ident w_fn) call_site (leaf (ident (97 ∷ [])) call_site (group Paren call_site call_site end (punct 59 false call_site (leaf (ident w_type) call_site (leaf (ident (98 ∷ [])) call_site (punct 59 false call_site end)))))))
    (end)
unfolding left is_end lookahead_at sees take_token take_lifetime take_mark take_group before first_span rows_for rows run parse_rule
trait_items_two = computed trait_items _ _ _ refl

-- `;`: nothing is read
trait_items_semi : NotDerived (rule trait_items)
    (punct 59 false (at 0 1) end)
unfolding left is_end lookahead_at sees take_token take_lifetime take_mark take_group before first_span rows_for rows run parse_rule
trait_items_semi = not_read trait_items _ refl

-- `#[a] pub default const b: c = d;` prints `# [a] pub default const b : c = d ;`
impl_const_whole : DerivesAs impl_const
    (punct 35 false (at 0 1) (group Bracket (at 1 2) (at 3 4) (leaf (ident (97 ∷ [])) (at 2 3) end) (leaf (ident w_pub) (at 5 8) (leaf (ident w_default) (at 9 16) (leaf (ident w_const) (at 17 22) (leaf (ident (98 ∷ [])) (at 23 24) (punct 58 false (at 24 25) (leaf (ident (99 ∷ [])) (at 26 27) (punct 61 false (at 28 29) (leaf (ident (100 ∷ [])) (at 30 31) (punct 59 false (at 31 32) end)))))))))))
    (punct 35 false call_site (group Bracket call_site call_site (leaf (ident (97 ∷ [])) call_site end) (leaf (ident w_pub) call_site (leaf (ident w_default) call_site (leaf (ident w_const) call_site (leaf (ident (98 ∷ [])) call_site (punct 58 false call_site (leaf (ident (99 ∷ [])) call_site (punct 61 false call_site (leaf (ident (100 ∷ [])) call_site (punct 59 false call_site end)))))))))))
    (end)
unfolding left is_end lookahead_at sees take_token take_lifetime take_mark take_group before rows_for rows run parse_rule
impl_const_whole = computed impl_const _ _ _ refl

-- `const a: b;`: nothing is read
impl_const_no_value : NotDerived (rule impl_const)
    (leaf (ident w_const) (at 0 5) (leaf (ident (97 ∷ [])) (at 6 7) (punct 58 false (at 7 8) (leaf (ident (98 ∷ [])) (at 9 10) (punct 59 false (at 10 11) end)))))
unfolding left is_end lookahead_at sees take_token take_lifetime take_mark take_group before rows_for rows run parse_rule
impl_const_no_value = not_read impl_const _ refl

-- `#[a] pub default fn b(&self) { c }` prints `# [a] pub default fn b (& self) {c}`
impl_function_whole : DerivesAs impl_function
    (punct 35 false (at 0 1) (group Bracket (at 1 2) (at 3 4) (leaf (ident (97 ∷ [])) (at 2 3) end) (leaf (ident w_pub) (at 5 8) (leaf (ident w_default) (at 9 16) (leaf (ident w_fn) (at 17 19) (leaf (ident (98 ∷ [])) (at 20 21) (group Paren (at 21 22) (at 27 28) (punct 38 false (at 22 23) (leaf (ident w_self) (at 23 27) end)) (group Brace (at 29 30) (at 33 34) (leaf (ident (99 ∷ [])) (at 31 32) end) end))))))))
    (punct 35 false call_site (group Bracket call_site call_site (leaf (ident (97 ∷ [])) call_site end) (leaf (ident w_pub) call_site (leaf (ident w_default) call_site (leaf (ident w_fn) call_site (leaf (ident (98 ∷ [])) call_site (group Paren call_site call_site (punct 38 false call_site (leaf (ident w_self) call_site end)) (group Brace call_site call_site (leaf (ident (99 ∷ [])) call_site end) end))))))))
    (end)
unfolding left is_end lookahead_at sees take_token take_lifetime take_mark take_group before first_span rows_for rows run parse_rule
impl_function_whole = computed impl_function _ _ _ refl

-- `fn a();`: nothing is read
impl_function_semi : NotDerived (rule impl_function)
    (leaf (ident w_fn) (at 0 2) (leaf (ident (97 ∷ [])) (at 3 4) (group Paren (at 4 5) (at 5 6) end (punct 59 false (at 6 7) end))))
unfolding left is_end lookahead_at sees take_token take_lifetime take_mark take_group before first_span rows_for rows run parse_rule
impl_function_semi = not_read impl_function _ refl

-- `#[a] default type b<c> = d where e: f;` prints `# [a] default type b < c > = d where e : f ;`
impl_type_whole : DerivesAs impl_type
    (punct 35 false (at 0 1) (group Bracket (at 1 2) (at 3 4) (leaf (ident (97 ∷ [])) (at 2 3) end) (leaf (ident w_default) (at 5 12) (leaf (ident w_type) (at 13 17) (leaf (ident (98 ∷ [])) (at 18 19) (punct 60 false (at 19 20) (leaf (ident (99 ∷ [])) (at 20 21) (punct 62 false (at 21 22) (punct 61 false (at 23 24) (leaf (ident (100 ∷ [])) (at 25 26) (leaf (ident w_where) (at 27 32) (leaf (ident (101 ∷ [])) (at 33 34) (punct 58 false (at 34 35) (leaf (ident (102 ∷ [])) (at 36 37) (punct 59 false (at 37 38) end)))))))))))))))
    (punct 35 false call_site (group Bracket call_site call_site (leaf (ident (97 ∷ [])) call_site end) (leaf (ident w_default) call_site (leaf (ident w_type) call_site (leaf (ident (98 ∷ [])) call_site (punct 60 false call_site (leaf (ident (99 ∷ [])) call_site (punct 62 false call_site (punct 61 false call_site (leaf (ident (100 ∷ [])) call_site (leaf (ident w_where) call_site (leaf (ident (101 ∷ [])) call_site (punct 58 false call_site (leaf (ident (102 ∷ [])) call_site (punct 59 false call_site end)))))))))))))))
    (end)
unfolding left is_end lookahead_at sees take_token take_lifetime take_mark take_group before rows_for rows run parse_rule
impl_type_whole = computed impl_type _ _ _ refl

-- `type a where b: c = d;`: nothing is read
impl_type_early : NotDerived (rule impl_type)
    (leaf (ident w_type) (at 0 4) (leaf (ident (97 ∷ [])) (at 5 6) (leaf (ident w_where) (at 7 12) (leaf (ident (98 ∷ [])) (at 13 14) (punct 58 false (at 14 15) (leaf (ident (99 ∷ [])) (at 16 17) (punct 61 false (at 18 19) (leaf (ident (100 ∷ [])) (at 20 21) (punct 59 false (at 21 22) end)))))))))
unfolding left is_end lookahead_at sees take_token take_lifetime take_mark take_group before rows_for rows run parse_rule
impl_type_early = not_read impl_type _ refl

-- `Self!();` prints `Self ! () ;`
impl_macro_self : DerivesAs impl_macro
    (leaf (ident w_Self_type) (at 0 4) (punct 33 false (at 4 5) (group Paren (at 5 6) (at 6 7) end (punct 59 false (at 7 8) end))))
    (leaf (ident w_Self_type) call_site (punct 33 false call_site (group Paren call_site call_site end (punct 59 false call_site end))))
    (end)
unfolding left is_end lookahead_at sees take_token take_lifetime take_mark take_group before rows_for rows run parse_rule
impl_macro_self = computed impl_macro _ _ _ refl

-- `a();`: nothing is read
impl_macro_no_bang : NotDerived (rule impl_macro)
    (leaf (ident (97 ∷ [])) (at 0 1) (group Paren (at 1 2) (at 2 3) end (punct 59 false (at 3 4) end)))
unfolding left is_end lookahead_at sees take_token take_lifetime take_mark take_group before rows_for rows run parse_rule
impl_macro_no_bang = not_read impl_macro _ refl

-- `default!();` prints `default ! () ;`
impl_macro_item_default : DerivesAs impl_macro_as_item
    (leaf (ident w_default) (at 0 7) (punct 33 false (at 7 8) (group Paren (at 8 9) (at 9 10) end (punct 59 false (at 10 11) end))))
    (leaf (ident w_default) call_site (punct 33 false call_site (group Paren call_site call_site end (punct 59 false call_site end))))
    (end)
unfolding left is_end lookahead_at sees take_token take_lifetime take_mark take_group before rows_for rows run parse_rule
impl_macro_item_default = computed impl_macro_as_item _ _ _ refl

-- `default::a!{}`: nothing is read
impl_macro_item_path : NotDerived (rule impl_macro_as_item)
    (leaf (ident w_default) (at 0 7) (punct 58 true (at 7 8) (punct 58 false (at 8 9) (leaf (ident (97 ∷ [])) (at 9 10) (punct 33 false (at 10 11) (group Brace (at 11 12) (at 12 13) end end))))))
unfolding left is_end lookahead_at sees take_token take_lifetime take_mark take_group before rows_for rows run parse_rule
impl_macro_item_path = not_read impl_macro_as_item _ refl

-- `pub default fn a();` prints `pub default fn a () ;`
bodiless_impl_plain : DerivesAs bodiless_impl_function
    (leaf (ident w_pub) (at 0 3) (leaf (ident w_default) (at 4 11) (leaf (ident w_fn) (at 12 14) (leaf (ident (97 ∷ [])) (at 15 16) (group Paren (at 16 17) (at 17 18) end (punct 59 false (at 18 19) end))))))
    (leaf (ident w_pub) call_site (leaf (ident w_default) call_site (leaf (ident w_fn) call_site (leaf (ident (97 ∷ [])) call_site (group Paren call_site call_site end (punct 59 false call_site end))))))
    (end)
unfolding left is_end lookahead_at sees take_token take_lifetime take_mark take_group before first_span rows_for rows run parse_rule
bodiless_impl_plain = computed bodiless_impl_function _ _ _ refl

-- `fn a() {}`: nothing is read
bodiless_impl_body : NotDerived (rule bodiless_impl_function)
    (leaf (ident w_fn) (at 0 2) (leaf (ident (97 ∷ [])) (at 3 4) (group Paren (at 4 5) (at 5 6) end (group Brace (at 7 8) (at 8 9) end end))))
unfolding left is_end lookahead_at sees take_token take_lifetime take_mark take_group before first_span rows_for rows run parse_rule
bodiless_impl_body = not_read bodiless_impl_function _ refl

-- `const a: b where;` prints `const a : b where ;`
odd_impl_const_where : DerivesAs odd_impl_const
    (leaf (ident w_const) (at 0 5) (leaf (ident (97 ∷ [])) (at 6 7) (punct 58 false (at 7 8) (leaf (ident (98 ∷ [])) (at 9 10) (leaf (ident w_where) (at 11 16) (punct 59 false (at 16 17) end))))))
    (leaf (ident w_const) call_site (leaf (ident (97 ∷ [])) call_site (punct 58 false call_site (leaf (ident (98 ∷ [])) call_site (leaf (ident w_where) call_site (punct 59 false call_site end))))))
    (end)
unfolding left is_end lookahead_at sees take_token take_lifetime take_mark take_group before rows_for rows run parse_rule
odd_impl_const_where = computed odd_impl_const _ _ _ refl

-- `const a: b = c;`: nothing is read
odd_impl_const_plain : NotDerived (rule odd_impl_const)
    (leaf (ident w_const) (at 0 5) (leaf (ident (97 ∷ [])) (at 6 7) (punct 58 false (at 7 8) (leaf (ident (98 ∷ [])) (at 9 10) (punct 61 false (at 11 12) (leaf (ident (99 ∷ [])) (at 13 14) (punct 59 false (at 14 15) end)))))))
unfolding left is_end lookahead_at sees take_token take_lifetime take_mark take_group before rows_for rows run parse_rule
odd_impl_const_plain = not_read odd_impl_const _ refl

-- `type a: b = c;` prints `type a : b = c ;`
odd_impl_type_bounds : DerivesAs odd_impl_type
    (leaf (ident w_type) (at 0 4) (leaf (ident (97 ∷ [])) (at 5 6) (punct 58 false (at 6 7) (leaf (ident (98 ∷ [])) (at 8 9) (punct 61 false (at 10 11) (leaf (ident (99 ∷ [])) (at 12 13) (punct 59 false (at 13 14) end)))))))
    (leaf (ident w_type) call_site (leaf (ident (97 ∷ [])) call_site (punct 58 false call_site (leaf (ident (98 ∷ [])) call_site (punct 61 false call_site (leaf (ident (99 ∷ [])) call_site (punct 59 false call_site end)))))))
    (end)
unfolding left is_end lookahead_at sees take_token take_lifetime take_mark take_group before rows_for rows run parse_rule
odd_impl_type_bounds = computed odd_impl_type _ _ _ refl

-- `type a = b;`: nothing is read
odd_impl_type_plain : NotDerived (rule odd_impl_type)
    (leaf (ident w_type) (at 0 4) (leaf (ident (97 ∷ [])) (at 5 6) (punct 61 false (at 7 8) (leaf (ident (98 ∷ [])) (at 9 10) (punct 59 false (at 10 11) end)))))
unfolding left is_end lookahead_at sees take_token take_lifetime take_mark take_group before rows_for rows run parse_rule
odd_impl_type_plain = not_read odd_impl_type _ refl

-- `#[a] fn b();` prints `# [a] fn b () ;`
kept_impl_function : DerivesAs kept_impl_item
    (punct 35 false (at 0 1) (group Bracket (at 1 2) (at 3 4) (leaf (ident (97 ∷ [])) (at 2 3) end) (leaf (ident w_fn) (at 5 7) (leaf (ident (98 ∷ [])) (at 8 9) (group Paren (at 9 10) (at 10 11) end (punct 59 false (at 11 12) end))))))
    (punct 35 false call_site (group Bracket call_site call_site (leaf (ident (97 ∷ [])) call_site end) (leaf (ident w_fn) call_site (leaf (ident (98 ∷ [])) call_site (group Paren call_site call_site end (punct 59 false call_site end))))))
    (end)
unfolding left is_end lookahead_at sees take_token take_lifetime take_mark take_group before first_span rows_for rows run parse_rule
kept_impl_function = computed kept_impl_item _ _ _ refl

-- `fn a() {}`: nothing is read
kept_impl_plain : NotDerived (rule kept_impl_item)
    (leaf (ident w_fn) (at 0 2) (leaf (ident (97 ∷ [])) (at 3 4) (group Paren (at 4 5) (at 5 6) end (group Brace (at 7 8) (at 8 9) end end))))
unfolding left is_end lookahead_at sees take_token take_lifetime take_mark take_group before first_span rows_for rows run parse_rule
kept_impl_plain = not_read kept_impl_item _ refl

-- `type a = b where c: d;` prints `type a = b where c : d ;`
impl_item_type : DerivesAs impl_item
    (leaf (ident w_type) (at 0 4) (leaf (ident (97 ∷ [])) (at 5 6) (punct 61 false (at 7 8) (leaf (ident (98 ∷ [])) (at 9 10) (leaf (ident w_where) (at 11 16) (leaf (ident (99 ∷ [])) (at 17 18) (punct 58 false (at 18 19) (leaf (ident (100 ∷ [])) (at 20 21) (punct 59 false (at 21 22) end)))))))))
    (leaf (ident w_type) call_site (leaf (ident (97 ∷ [])) call_site (punct 61 false call_site (leaf (ident (98 ∷ [])) call_site (leaf (ident w_where) call_site (leaf (ident (99 ∷ [])) call_site (punct 58 false call_site (leaf (ident (100 ∷ [])) call_site (punct 59 false call_site end)))))))))
    (end)
unfolding left is_end lookahead_at sees take_token take_lifetime take_mark take_group before first_span rows_for rows run parse_rule
impl_item_type = computed impl_item _ _ _ refl

-- `type a: b;` prints `type a : b ;`
impl_item_kept : DerivesAs impl_item
    (leaf (ident w_type) (at 0 4) (leaf (ident (97 ∷ [])) (at 5 6) (punct 58 false (at 6 7) (leaf (ident (98 ∷ [])) (at 8 9) (punct 59 false (at 9 10) end)))))
    (leaf (ident w_type) call_site (leaf (ident (97 ∷ [])) call_site (punct 58 false call_site (leaf (ident (98 ∷ [])) call_site (punct 59 false call_site end)))))
    (end)
unfolding left is_end lookahead_at sees take_token take_lifetime take_mark take_group before first_span rows_for rows run parse_rule
impl_item_kept = computed impl_item _ _ _ refl

-- `Self!{}`: nothing is read
impl_item_self_macro : NotDerived (rule impl_item)
    (leaf (ident w_Self_type) (at 0 4) (punct 33 false (at 4 5) (group Brace (at 5 6) (at 6 7) end end)))
unfolding left is_end lookahead_at sees take_token take_lifetime take_mark take_group before first_span rows_for rows run parse_rule
impl_item_self_macro = not_read impl_item _ refl

-- `fn a() {} a!{}` prints `fn a () {} a ! {}`
impl_items_two : DerivesAs impl_items
    (leaf (ident w_fn) (at 0 2) (leaf (ident (97 ∷ [])) (at 3 4) (group Paren (at 4 5) (at 5 6) end (group Brace (at 7 8) (at 8 9) end (leaf (ident (97 ∷ [])) (at 10 11) (punct 33 false (at 11 12) (group Brace (at 12 13) (at 13 14) end end)))))))
    (leaf (ident w_fn) call_site (leaf (ident (97 ∷ [])) call_site (group Paren call_site call_site end (group Brace call_site call_site end (leaf (ident (97 ∷ [])) call_site (punct 33 false call_site (group Brace call_site call_site end end)))))))
    (end)
unfolding left is_end lookahead_at sees take_token take_lifetime take_mark take_group before first_span rows_for rows run parse_rule
impl_items_two = computed impl_items _ _ _ refl

-- `;`: nothing is read
impl_items_semi : NotDerived (rule impl_items)
    (punct 59 false (at 0 1) end)
unfolding left is_end lookahead_at sees take_token take_lifetime take_mark take_group before first_span rows_for rows run parse_rule
impl_items_semi = not_read impl_items _ refl

-- `const async safe extern fn a(...)` prints `const async safe extern fn a (...)`
foreign_signature_safe : DerivesAs foreign_signature
    (leaf (ident w_const) (at 0 5) (leaf (ident w_async) (at 6 11) (leaf (ident w_safe) (at 12 16) (leaf (ident w_extern) (at 17 23) (leaf (ident w_fn) (at 24 26) (leaf (ident (97 ∷ [])) (at 27 28) (group Paren (at 28 29) (at 32 33) (punct 46 true (at 29 30) (punct 46 true (at 30 31) (punct 46 false (at 31 32) end))) end)))))))
    (leaf (ident w_const) call_site (leaf (ident w_async) call_site (leaf (ident w_safe) call_site (leaf (ident w_extern) call_site (leaf (ident w_fn) call_site (leaf (ident (97 ∷ [])) call_site (group Paren call_site call_site (punct 46 true call_site (punct 46 true call_site (punct 46 false call_site end))) end)))))))
    (end)
unfolding left is_end lookahead_at sees take_token take_lifetime take_mark take_group before first_span rows_for rows run parse_rule
foreign_signature_safe = computed foreign_signature _ _ _ refl

-- `safe unsafe fn a()`: nothing is read
foreign_signature_both : NotDerived (rule foreign_signature)
    (leaf (ident w_safe) (at 0 4) (leaf (ident w_unsafe) (at 5 11) (leaf (ident w_fn) (at 12 14) (leaf (ident (97 ∷ [])) (at 15 16) (group Paren (at 16 17) (at 17 18) end end)))))
unfolding left is_end lookahead_at sees take_token take_lifetime take_mark take_group before first_span rows_for rows run parse_rule
foreign_signature_both = not_read foreign_signature _ refl

-- `unsafe static mut a: b` prints `unsafe static mut a : b`
foreign_static_bare : DerivesAs bare_foreign_static
    (leaf (ident w_unsafe) (at 0 6) (leaf (ident w_static) (at 7 13) (leaf (ident w_mut) (at 14 17) (leaf (ident (97 ∷ [])) (at 18 19) (punct 58 false (at 19 20) (leaf (ident (98 ∷ [])) (at 21 22) end))))))
    (leaf (ident w_unsafe) call_site (leaf (ident w_static) call_site (leaf (ident w_mut) call_site (leaf (ident (97 ∷ [])) call_site (punct 58 false call_site (leaf (ident (98 ∷ [])) call_site end))))))
    (end)
unfolding left is_end lookahead_at sees take_token take_lifetime take_mark take_group before rows_for rows run parse_rule
foreign_static_bare = computed bare_foreign_static _ _ _ refl

-- `static a`: nothing is read
foreign_static_no_type : NotDerived (rule bare_foreign_static)
    (leaf (ident w_static) (at 0 6) (leaf (ident (97 ∷ [])) (at 7 8) end))
unfolding left is_end lookahead_at sees take_token take_lifetime take_mark take_group before rows_for rows run parse_rule
foreign_static_no_type = not_read bare_foreign_static _ refl

-- `#[a] pub safe fn b();` prints `# [a] pub safe fn b () ;`
foreign_function_plain : DerivesAs foreign_function
    (punct 35 false (at 0 1) (group Bracket (at 1 2) (at 3 4) (leaf (ident (97 ∷ [])) (at 2 3) end) (leaf (ident w_pub) (at 5 8) (leaf (ident w_safe) (at 9 13) (leaf (ident w_fn) (at 14 16) (leaf (ident (98 ∷ [])) (at 17 18) (group Paren (at 18 19) (at 19 20) end (punct 59 false (at 20 21) end))))))))
    (punct 35 false call_site (group Bracket call_site call_site (leaf (ident (97 ∷ [])) call_site end) (leaf (ident w_pub) call_site (leaf (ident w_safe) call_site (leaf (ident w_fn) call_site (leaf (ident (98 ∷ [])) call_site (group Paren call_site call_site end (punct 59 false call_site end))))))))
    (end)
unfolding left is_end lookahead_at sees take_token take_lifetime take_mark take_group before first_span rows_for rows run parse_rule
foreign_function_plain = computed foreign_function _ _ _ refl

-- `fn a() {}`: nothing is read
foreign_function_body : NotDerived (rule foreign_function)
    (leaf (ident w_fn) (at 0 2) (leaf (ident (97 ∷ [])) (at 3 4) (group Paren (at 4 5) (at 5 6) end (group Brace (at 7 8) (at 8 9) end end))))
unfolding left is_end lookahead_at sees take_token take_lifetime take_mark take_group before first_span rows_for rows run parse_rule
foreign_function_body = not_read foreign_function _ refl

-- `#[a] pub safe static b: c;` prints `# [a] pub safe static b : c ;`
foreign_static_plain : DerivesAs foreign_static
    (punct 35 false (at 0 1) (group Bracket (at 1 2) (at 3 4) (leaf (ident (97 ∷ [])) (at 2 3) end) (leaf (ident w_pub) (at 5 8) (leaf (ident w_safe) (at 9 13) (leaf (ident w_static) (at 14 20) (leaf (ident (98 ∷ [])) (at 21 22) (punct 58 false (at 22 23) (leaf (ident (99 ∷ [])) (at 24 25) (punct 59 false (at 25 26) end)))))))))
    (punct 35 false call_site (group Bracket call_site call_site (leaf (ident (97 ∷ [])) call_site end) (leaf (ident w_pub) call_site (leaf (ident w_safe) call_site (leaf (ident w_static) call_site (leaf (ident (98 ∷ [])) call_site (punct 58 false call_site (leaf (ident (99 ∷ [])) call_site (punct 59 false call_site end)))))))))
    (end)
unfolding left is_end lookahead_at sees take_token take_lifetime take_mark take_group before rows_for rows run parse_rule
foreign_static_plain = computed foreign_static _ _ _ refl

-- `static a: b = c;`: nothing is read
foreign_static_value : NotDerived (rule foreign_static)
    (leaf (ident w_static) (at 0 6) (leaf (ident (97 ∷ [])) (at 7 8) (punct 58 false (at 8 9) (leaf (ident (98 ∷ [])) (at 10 11) (punct 61 false (at 12 13) (leaf (ident (99 ∷ [])) (at 14 15) (punct 59 false (at 15 16) end)))))))
unfolding left is_end lookahead_at sees take_token take_lifetime take_mark take_group before rows_for rows run parse_rule
foreign_static_value = not_read foreign_static _ refl

-- `#[a] pub type b<c> where d: e;` prints `# [a] pub type b < c > where d : e ;`
foreign_type_plain : DerivesAs foreign_type
    (punct 35 false (at 0 1) (group Bracket (at 1 2) (at 3 4) (leaf (ident (97 ∷ [])) (at 2 3) end) (leaf (ident w_pub) (at 5 8) (leaf (ident w_type) (at 9 13) (leaf (ident (98 ∷ [])) (at 14 15) (punct 60 false (at 15 16) (leaf (ident (99 ∷ [])) (at 16 17) (punct 62 false (at 17 18) (leaf (ident w_where) (at 19 24) (leaf (ident (100 ∷ [])) (at 25 26) (punct 58 false (at 26 27) (leaf (ident (101 ∷ [])) (at 28 29) (punct 59 false (at 29 30) end)))))))))))))
    (punct 35 false call_site (group Bracket call_site call_site (leaf (ident (97 ∷ [])) call_site end) (leaf (ident w_pub) call_site (leaf (ident w_type) call_site (leaf (ident (98 ∷ [])) call_site (punct 60 false call_site (leaf (ident (99 ∷ [])) call_site (punct 62 false call_site (leaf (ident w_where) call_site (leaf (ident (100 ∷ [])) call_site (punct 58 false call_site (leaf (ident (101 ∷ [])) call_site (punct 59 false call_site end)))))))))))))
    (end)
unfolding left is_end lookahead_at sees take_token take_lifetime take_mark take_group before rows_for rows run parse_rule
foreign_type_plain = computed foreign_type _ _ _ refl

-- `type a = b;`: nothing is read
foreign_type_value : NotDerived (rule foreign_type)
    (leaf (ident w_type) (at 0 4) (leaf (ident (97 ∷ [])) (at 5 6) (punct 61 false (at 7 8) (leaf (ident (98 ∷ [])) (at 9 10) (punct 59 false (at 10 11) end)))))
unfolding left is_end lookahead_at sees take_token take_lifetime take_mark take_group before rows_for rows run parse_rule
foreign_type_value = not_read foreign_type _ refl

-- `Self!{}` prints `Self ! {}`
foreign_macro_self : DerivesAs foreign_macro
    (leaf (ident w_Self_type) (at 0 4) (punct 33 false (at 4 5) (group Brace (at 5 6) (at 6 7) end end)))
    (leaf (ident w_Self_type) call_site (punct 33 false call_site (group Brace call_site call_site end end)))
    (end)
unfolding left is_end lookahead_at sees take_token take_lifetime take_mark take_group before rows_for rows run parse_rule
foreign_macro_self = computed foreign_macro _ _ _ refl

-- `a();`: nothing is read
foreign_macro_no_bang : NotDerived (rule foreign_macro)
    (leaf (ident (97 ∷ [])) (at 0 1) (group Paren (at 1 2) (at 2 3) end (punct 59 false (at 3 4) end)))
unfolding left is_end lookahead_at sees take_token take_lifetime take_mark take_group before rows_for rows run parse_rule
foreign_macro_no_bang = not_read foreign_macro _ refl

-- `default::a!{}` prints `default :: a ! {}`
foreign_macro_item_default : DerivesAs foreign_macro_as_item
    (leaf (ident w_default) (at 0 7) (punct 58 true (at 7 8) (punct 58 false (at 8 9) (leaf (ident (97 ∷ [])) (at 9 10) (punct 33 false (at 10 11) (group Brace (at 11 12) (at 12 13) end end))))))
    (leaf (ident w_default) call_site (punct 58 true call_site (punct 58 false call_site (leaf (ident (97 ∷ [])) call_site (punct 33 false call_site (group Brace call_site call_site end end))))))
    (end)
unfolding left is_end lookahead_at sees take_token take_lifetime take_mark take_group before rows_for rows run parse_rule
foreign_macro_item_default = computed foreign_macro_as_item _ _ _ refl

-- `Self!{}`: nothing is read
foreign_macro_item_self : NotDerived (rule foreign_macro_as_item)
    (leaf (ident w_Self_type) (at 0 4) (punct 33 false (at 4 5) (group Brace (at 5 6) (at 6 7) end end)))
unfolding left is_end lookahead_at sees take_token take_lifetime take_mark take_group before rows_for rows run parse_rule
foreign_macro_item_self = not_read foreign_macro_as_item _ refl

-- `pub safe fn a() {}` prints `pub safe fn a () {}`
foreign_body_plain : DerivesAs foreign_body
    (leaf (ident w_pub) (at 0 3) (leaf (ident w_safe) (at 4 8) (leaf (ident w_fn) (at 9 11) (leaf (ident (97 ∷ [])) (at 12 13) (group Paren (at 13 14) (at 14 15) end (group Brace (at 16 17) (at 17 18) end end))))))
    (leaf (ident w_pub) call_site (leaf (ident w_safe) call_site (leaf (ident w_fn) call_site (leaf (ident (97 ∷ [])) call_site (group Paren call_site call_site end (group Brace call_site call_site end end))))))
    (end)
unfolding left is_end lookahead_at sees take_token take_lifetime take_mark take_group before first_span rows_for rows run parse_rule
foreign_body_plain = computed foreign_body _ _ _ refl

-- `fn a();`: nothing is read
foreign_body_semi : NotDerived (rule foreign_body)
    (leaf (ident w_fn) (at 0 2) (leaf (ident (97 ∷ [])) (at 3 4) (group Paren (at 4 5) (at 5 6) end (punct 59 false (at 6 7) end))))
unfolding left is_end lookahead_at sees take_token take_lifetime take_mark take_group before first_span rows_for rows run parse_rule
foreign_body_semi = not_read foreign_body _ refl

-- `safe static a: b = c;` prints `safe static a : b = c ;`
foreign_value_plain : DerivesAs foreign_value
    (leaf (ident w_safe) (at 0 4) (leaf (ident w_static) (at 5 11) (leaf (ident (97 ∷ [])) (at 12 13) (punct 58 false (at 13 14) (leaf (ident (98 ∷ [])) (at 15 16) (punct 61 false (at 17 18) (leaf (ident (99 ∷ [])) (at 19 20) (punct 59 false (at 20 21) end))))))))
    (leaf (ident w_safe) call_site (leaf (ident w_static) call_site (leaf (ident (97 ∷ [])) call_site (punct 58 false call_site (leaf (ident (98 ∷ [])) call_site (punct 61 false call_site (leaf (ident (99 ∷ [])) call_site (punct 59 false call_site end))))))))
    (end)
unfolding left is_end lookahead_at sees take_token take_lifetime take_mark take_group before rows_for rows run parse_rule
foreign_value_plain = computed foreign_value _ _ _ refl

-- `static a = b;`: nothing is read
foreign_value_no_type : NotDerived (rule foreign_value)
    (leaf (ident w_static) (at 0 6) (leaf (ident (97 ∷ [])) (at 7 8) (punct 61 false (at 9 10) (leaf (ident (98 ∷ [])) (at 11 12) (punct 59 false (at 12 13) end)))))
unfolding left is_end lookahead_at sees take_token take_lifetime take_mark take_group before rows_for rows run parse_rule
foreign_value_no_type = not_read foreign_value _ refl

-- `type a: b where c: d = e;` prints `type a : b where c : d = e ;`
odd_foreign_bounds : DerivesAs odd_foreign_type
    (leaf (ident w_type) (at 0 4) (leaf (ident (97 ∷ [])) (at 5 6) (punct 58 false (at 6 7) (leaf (ident (98 ∷ [])) (at 8 9) (leaf (ident w_where) (at 10 15) (leaf (ident (99 ∷ [])) (at 16 17) (punct 58 false (at 17 18) (leaf (ident (100 ∷ [])) (at 19 20) (punct 61 false (at 21 22) (leaf (ident (101 ∷ [])) (at 23 24) (punct 59 false (at 24 25) end)))))))))))
    (leaf (ident w_type) call_site (leaf (ident (97 ∷ [])) call_site (punct 58 false call_site (leaf (ident (98 ∷ [])) call_site (leaf (ident w_where) call_site (leaf (ident (99 ∷ [])) call_site (punct 58 false call_site (leaf (ident (100 ∷ [])) call_site (punct 61 false call_site (leaf (ident (101 ∷ [])) call_site (punct 59 false call_site end)))))))))))
    (end)
unfolding left is_end lookahead_at sees take_token take_lifetime take_mark take_group before rows_for rows run parse_rule
odd_foreign_bounds = computed odd_foreign_type _ _ _ refl

-- `type a = b where c: d;` prints `type a = b where c : d ;`
odd_foreign_value : DerivesAs odd_foreign_type
    (leaf (ident w_type) (at 0 4) (leaf (ident (97 ∷ [])) (at 5 6) (punct 61 false (at 7 8) (leaf (ident (98 ∷ [])) (at 9 10) (leaf (ident w_where) (at 11 16) (leaf (ident (99 ∷ [])) (at 17 18) (punct 58 false (at 18 19) (leaf (ident (100 ∷ [])) (at 20 21) (punct 59 false (at 21 22) end)))))))))
    (leaf (ident w_type) call_site (leaf (ident (97 ∷ [])) call_site (punct 61 false call_site (leaf (ident (98 ∷ [])) call_site (leaf (ident w_where) call_site (leaf (ident (99 ∷ [])) call_site (punct 58 false call_site (leaf (ident (100 ∷ [])) call_site (punct 59 false call_site end)))))))))
    (end)
unfolding left is_end lookahead_at sees take_token take_lifetime take_mark take_group before rows_for rows run parse_rule
odd_foreign_value = computed odd_foreign_type _ _ _ refl

-- `type a;`: nothing is read
odd_foreign_plain : NotDerived (rule odd_foreign_type)
    (leaf (ident w_type) (at 0 4) (leaf (ident (97 ∷ [])) (at 5 6) (punct 59 false (at 6 7) end)))
unfolding left is_end lookahead_at sees take_token take_lifetime take_mark take_group before rows_for rows run parse_rule
odd_foreign_plain = not_read odd_foreign_type _ refl

-- `#[a] fn b() {}` prints `# [a] fn b () {}`
kept_foreign_function : DerivesAs kept_foreign_item
    (punct 35 false (at 0 1) (group Bracket (at 1 2) (at 3 4) (leaf (ident (97 ∷ [])) (at 2 3) end) (leaf (ident w_fn) (at 5 7) (leaf (ident (98 ∷ [])) (at 8 9) (group Paren (at 9 10) (at 10 11) end (group Brace (at 12 13) (at 13 14) end end))))))
    (punct 35 false call_site (group Bracket call_site call_site (leaf (ident (97 ∷ [])) call_site end) (leaf (ident w_fn) call_site (leaf (ident (98 ∷ [])) call_site (group Paren call_site call_site end (group Brace call_site call_site end end))))))
    (end)
unfolding left is_end lookahead_at sees take_token take_lifetime take_mark take_group before first_span rows_for rows run parse_rule
kept_foreign_function = computed kept_foreign_item _ _ _ refl

-- `fn a();`: nothing is read
kept_foreign_plain : NotDerived (rule kept_foreign_item)
    (leaf (ident w_fn) (at 0 2) (leaf (ident (97 ∷ [])) (at 3 4) (group Paren (at 4 5) (at 5 6) end (punct 59 false (at 6 7) end))))
unfolding left is_end lookahead_at sees take_token take_lifetime take_mark take_group before first_span rows_for rows run parse_rule
kept_foreign_plain = not_read kept_foreign_item _ refl

-- `static a: b;` prints `static a : b ;`
foreign_item_static : DerivesAs foreign_item
    (leaf (ident w_static) (at 0 6) (leaf (ident (97 ∷ [])) (at 7 8) (punct 58 false (at 8 9) (leaf (ident (98 ∷ [])) (at 10 11) (punct 59 false (at 11 12) end)))))
    (leaf (ident w_static) call_site (leaf (ident (97 ∷ [])) call_site (punct 58 false call_site (leaf (ident (98 ∷ [])) call_site (punct 59 false call_site end)))))
    (end)
unfolding left is_end lookahead_at sees take_token take_lifetime take_mark take_group before first_span rows_for rows run parse_rule
foreign_item_static = computed foreign_item _ _ _ refl

-- `type a = b;` prints `type a = b ;`
foreign_item_kept : DerivesAs foreign_item
    (leaf (ident w_type) (at 0 4) (leaf (ident (97 ∷ [])) (at 5 6) (punct 61 false (at 7 8) (leaf (ident (98 ∷ [])) (at 9 10) (punct 59 false (at 10 11) end)))))
    (leaf (ident w_type) call_site (leaf (ident (97 ∷ [])) call_site (punct 61 false call_site (leaf (ident (98 ∷ [])) call_site (punct 59 false call_site end)))))
    (end)
unfolding left is_end lookahead_at sees take_token take_lifetime take_mark take_group before first_span rows_for rows run parse_rule
foreign_item_kept = computed foreign_item _ _ _ refl

-- `Self!{}`: nothing is read
foreign_item_self_macro : NotDerived (rule foreign_item)
    (leaf (ident w_Self_type) (at 0 4) (punct 33 false (at 4 5) (group Brace (at 5 6) (at 6 7) end end)))
unfolding left is_end lookahead_at sees take_token take_lifetime take_mark take_group before first_span rows_for rows run parse_rule
foreign_item_self_macro = not_read foreign_item _ refl

-- `fn a(); type b;` prints `fn a () ; type b ;`
foreign_items_two : DerivesAs foreign_items
    (leaf (ident w_fn) (at 0 2) (leaf (ident (97 ∷ [])) (at 3 4) (group Paren (at 4 5) (at 5 6) end (punct 59 false (at 6 7) (leaf (ident w_type) (at 8 12) (leaf (ident (98 ∷ [])) (at 13 14) (punct 59 false (at 14 15) end)))))))
    (leaf (ident w_fn) call_site (leaf (ident (97 ∷ [])) call_site (group Paren call_site call_site end (punct 59 false call_site (leaf (ident w_type) call_site (leaf (ident (98 ∷ [])) call_site (punct 59 false call_site end)))))))
    (end)
unfolding left is_end lookahead_at sees take_token take_lifetime take_mark take_group before first_span rows_for rows run parse_rule
foreign_items_two = computed foreign_items _ _ _ refl

-- `;`: nothing is read
foreign_items_semi : NotDerived (rule foreign_items)
    (punct 59 false (at 0 1) end)
unfolding left is_end lookahead_at sees take_token take_lifetime take_mark take_group before first_span rows_for rows run parse_rule
foreign_items_semi = not_read foreign_items _ refl
