-- Written by tools/grammar.py from specs/Table.antt; edits are lost.
-- Worked examples of borders of impls and their members, from tools/examples.txt: what each rule reads, prints and refuses. The checker computes each.
use Rattle.std.proofs.Common.{true, false, [], ◌∷◌, refl}
use Rattle.syn_grammar.specs.Words.{w_underscore, w_const, w_continue, w_crate, w_false, w_fn, w_for, w_impl, w_mut, w_pub, w_return, w_Self_type, w_self, w_super, w_true, w_type, w_unsafe, w_where, w_union, w_auto, w_default, w_safe}
use Rattle.syn_grammar.specs.Tokens.{call_site, Paren, Brace, Bracket, None, Byte, Char, Int, ident, literal, end, leaf, punct, group}
use Rattle.syn_grammar.specs.Rules.{for_self_type, impl_body, impl_definition, impl_definition_rest, impl_const, impl_function, impl_type, impl_macro, impl_item, impl_items}
use Rattle.syn_grammar.specs.Grammar.{rule}
use Rattle.syn_grammar.specs.Take.{left, is_end, lookahead_at, sees, take_token, take_lifetime, take_mark, take_group, before, first_span}
use Rattle.syn_grammar.specs.Run.{rows_for, rows, run, parse_rule}
use Rattle.syn_grammar.specs.Promises.{NotDerived}
use Rattle.syn_grammar.proofs.Shown.{at, DerivesAs, computed, not_read}

-- `Self !`: nothing is read
for_self_type_border_1 : NotDerived (rule for_self_type)
    (leaf (ident w_Self_type) (at 0 4) (punct 33 false (at 5 6) end))
unfolding left is_end lookahead_at sees take_token take_lifetime take_mark take_group before rows_for rows run parse_rule
for_self_type_border_1 = not_read for_self_type _ refl

-- `b for !`: nothing is read
for_self_type_border_2 : NotDerived (rule for_self_type)
    (leaf (ident (98 ∷ [])) (at 0 1) (leaf (ident w_for) (at 2 5) (punct 33 false (at 6 7) end)))
unfolding left is_end lookahead_at sees take_token take_lifetime take_mark take_group before rows_for rows run parse_rule
for_self_type_border_2 = not_read for_self_type _ refl

-- `for for !`: nothing is read
for_self_type_border_3 : NotDerived (rule for_self_type)
    (leaf (ident w_for) (at 0 3) (leaf (ident w_for) (at 4 7) (punct 33 false (at 8 9) end)))
unfolding left is_end lookahead_at sees take_token take_lifetime take_mark take_group before rows_for rows run parse_rule
for_self_type_border_3 = not_read for_self_type _ refl

-- `()`: nothing is read
impl_body_border_1 : NotDerived (rule impl_body)
    (group Paren (at 0 1) (at 1 2) end end)
unfolding left is_end lookahead_at sees take_token take_lifetime take_mark take_group before first_span rows_for rows run parse_rule
impl_body_border_1 = not_read impl_body _ refl

-- `[]`: nothing is read
impl_body_border_2 : NotDerived (rule impl_body)
    (group Bracket (at 0 1) (at 1 2) end end)
unfolding left is_end lookahead_at sees take_token take_lifetime take_mark take_group before first_span rows_for rows run parse_rule
impl_body_border_2 = not_read impl_body _ refl

-- `where a : b where {#! [c] type d = e ;}`: nothing is read
impl_body_border_3 : NotDerived (rule impl_body)
    (leaf (ident w_where) (at 0 5) (leaf (ident (97 ∷ [])) (at 6 7) (punct 58 false (at 8 9) (leaf (ident (98 ∷ [])) (at 10 11) (leaf (ident w_where) (at 12 17) (group Brace (at 18 19) (at 38 39) (punct 35 true (at 19 20) (punct 33 false (at 20 21) (group Bracket (at 22 23) (at 24 25) (leaf (ident (99 ∷ [])) (at 23 24) end) (leaf (ident w_type) (at 26 30) (leaf (ident (100 ∷ [])) (at 31 32) (punct 61 false (at 33 34) (leaf (ident (101 ∷ [])) (at 35 36) (punct 59 false (at 37 38) end)))))))) end))))))
unfolding left is_end lookahead_at sees take_token take_lifetime take_mark take_group before first_span rows_for rows run parse_rule
impl_body_border_3 = not_read impl_body _ refl

-- `! {}`: nothing is read
impl_definition_border_1 : NotDerived (rule impl_definition)
    (punct 33 false (at 0 1) (group Brace (at 2 3) (at 3 4) end end))
unfolding left is_end lookahead_at sees take_token take_lifetime take_mark take_group before first_span rows_for rows run parse_rule
impl_definition_border_1 = not_read impl_definition _ refl

-- `impl ! {} # [c]` prints `impl ! {}` and leaves `# [c]`
impl_definition_border_2 : DerivesAs impl_definition
    (leaf (ident w_impl) (at 0 4) (punct 33 false (at 5 6) (group Brace (at 7 8) (at 8 9) end (punct 35 false (at 10 11) (group Bracket (at 12 13) (at 14 15) (leaf (ident (99 ∷ [])) (at 13 14) end) end)))))
    (leaf (ident w_impl) call_site (punct 33 false call_site (group Brace call_site call_site end end)))
    (punct 35 false (at 10 11) (group Bracket (at 12 13) (at 14 15) (leaf (ident (99 ∷ [])) (at 13 14) end) end))
unfolding left is_end lookahead_at sees take_token take_lifetime take_mark take_group before first_span rows_for rows run parse_rule
impl_definition_border_2 = computed impl_definition _ _ _ refl

-- `impl ! {} const` prints `impl ! {}` and leaves `const`
impl_definition_border_3 : DerivesAs impl_definition
    (leaf (ident w_impl) (at 0 4) (punct 33 false (at 5 6) (group Brace (at 7 8) (at 8 9) end (leaf (ident w_const) (at 10 15) end))))
    (leaf (ident w_impl) call_site (punct 33 false call_site (group Brace call_site call_site end end)))
    (leaf (ident w_const) (at 10 15) end)
unfolding left is_end lookahead_at sees take_token take_lifetime take_mark take_group before first_span rows_for rows run parse_rule
impl_definition_border_3 = computed impl_definition _ _ _ refl

-- `impl impl ! {}`: nothing is read
impl_definition_rest_border_1 : NotDerived (rule impl_definition_rest)
    (leaf (ident w_impl) (at 0 4) (leaf (ident w_impl) (at 5 9) (punct 33 false (at 10 11) (group Brace (at 12 13) (at 13 14) end end))))
unfolding left is_end lookahead_at sees take_token take_lifetime take_mark take_group before first_span rows_for rows run parse_rule
impl_definition_rest_border_1 = not_read impl_definition_rest _ refl

-- `impl ! {} const` prints `impl ! {}` and leaves `const`
impl_definition_rest_border_2 : DerivesAs impl_definition_rest
    (leaf (ident w_impl) (at 0 4) (punct 33 false (at 5 6) (group Brace (at 7 8) (at 8 9) end (leaf (ident w_const) (at 10 15) end))))
    (leaf (ident w_impl) call_site (punct 33 false call_site (group Brace call_site call_site end end)))
    (leaf (ident w_const) (at 10 15) end)
unfolding left is_end lookahead_at sees take_token take_lifetime take_mark take_group before first_span rows_for rows run parse_rule
impl_definition_rest_border_2 = computed impl_definition_rest _ _ _ refl

-- `impl const ! {}`: nothing is read
impl_definition_rest_border_3 : NotDerived (rule impl_definition_rest)
    (leaf (ident w_impl) (at 0 4) (leaf (ident w_const) (at 5 10) (punct 33 false (at 11 12) (group Brace (at 13 14) (at 14 15) end end))))
unfolding left is_end lookahead_at sees take_token take_lifetime take_mark take_group before first_span rows_for rows run parse_rule
impl_definition_rest_border_3 = not_read impl_definition_rest _ refl

-- `impl default {}` prints `impl default {}`
impl_definition_rest_border_4 : DerivesAs impl_definition_rest
    (leaf (ident w_impl) (at 0 4) (leaf (ident w_default) (at 5 12) (group Brace (at 13 14) (at 14 15) end end)))
    (leaf (ident w_impl) call_site (leaf (ident w_default) call_site (group Brace call_site call_site end end)))
    (end)
unfolding left is_end lookahead_at sees take_token take_lifetime take_mark take_group before first_span rows_for rows run parse_rule
impl_definition_rest_border_4 = computed impl_definition_rest _ _ _ refl

-- `impl ! {} unsafe` prints `impl ! {}` and leaves `unsafe`
impl_definition_rest_border_5 : DerivesAs impl_definition_rest
    (leaf (ident w_impl) (at 0 4) (punct 33 false (at 5 6) (group Brace (at 7 8) (at 8 9) end (leaf (ident w_unsafe) (at 10 16) end))))
    (leaf (ident w_impl) call_site (punct 33 false call_site (group Brace call_site call_site end end)))
    (leaf (ident w_unsafe) (at 10 16) end)
unfolding left is_end lookahead_at sees take_token take_lifetime take_mark take_group before first_span rows_for rows run parse_rule
impl_definition_rest_border_5 = computed impl_definition_rest _ _ _ refl

-- `impl unsafe ! {}`: nothing is read
impl_definition_rest_border_6 : NotDerived (rule impl_definition_rest)
    (leaf (ident w_impl) (at 0 4) (leaf (ident w_unsafe) (at 5 11) (punct 33 false (at 12 13) (group Brace (at 14 15) (at 15 16) end end))))
unfolding left is_end lookahead_at sees take_token take_lifetime take_mark take_group before first_span rows_for rows run parse_rule
impl_definition_rest_border_6 = not_read impl_definition_rest _ refl

-- `impl ! {} default` prints `impl ! {}` and leaves `default`
impl_definition_rest_border_7 : DerivesAs impl_definition_rest
    (leaf (ident w_impl) (at 0 4) (punct 33 false (at 5 6) (group Brace (at 7 8) (at 8 9) end (leaf (ident w_default) (at 10 17) end))))
    (leaf (ident w_impl) call_site (punct 33 false call_site (group Brace call_site call_site end end)))
    (leaf (ident w_default) (at 10 17) end)
unfolding left is_end lookahead_at sees take_token take_lifetime take_mark take_group before first_span rows_for rows run parse_rule
impl_definition_rest_border_7 = computed impl_definition_rest _ _ _ refl

-- `const unsafe impl ! {}` prints `const unsafe impl ! {}`
impl_definition_rest_border_8 : DerivesAs impl_definition_rest
    (leaf (ident w_const) (at 0 5) (leaf (ident w_unsafe) (at 6 12) (leaf (ident w_impl) (at 13 17) (punct 33 false (at 18 19) (group Brace (at 20 21) (at 21 22) end end)))))
    (leaf (ident w_const) call_site (leaf (ident w_unsafe) call_site (leaf (ident w_impl) call_site (punct 33 false call_site (group Brace call_site call_site end end)))))
    (end)
unfolding left is_end lookahead_at sees take_token take_lifetime take_mark take_group before first_span rows_for rows run parse_rule
impl_definition_rest_border_8 = computed impl_definition_rest _ _ _ refl

-- `unsafe unsafe impl ! {}`: nothing is read
impl_definition_rest_border_9 : NotDerived (rule impl_definition_rest)
    (leaf (ident w_unsafe) (at 0 6) (leaf (ident w_unsafe) (at 7 13) (leaf (ident w_impl) (at 14 18) (punct 33 false (at 19 20) (group Brace (at 21 22) (at 22 23) end end)))))
unfolding left is_end lookahead_at sees take_token take_lifetime take_mark take_group before first_span rows_for rows run parse_rule
impl_definition_rest_border_9 = not_read impl_definition_rest _ refl

-- `! {} impl < union , > Self {}`: nothing is read
impl_definition_rest_border_10 : NotDerived (rule impl_definition_rest)
    (punct 33 false (at 0 1) (group Brace (at 2 3) (at 3 4) end (leaf (ident w_impl) (at 5 9) (punct 60 false (at 10 11) (leaf (ident w_union) (at 12 17) (punct 44 false (at 18 19) (punct 62 false (at 20 21) (leaf (ident w_Self_type) (at 22 26) (group Brace (at 27 28) (at 28 29) end end)))))))))
unfolding left is_end lookahead_at sees take_token take_lifetime take_mark take_group before first_span rows_for rows run parse_rule
impl_definition_rest_border_10 = not_read impl_definition_rest _ refl

-- `default const impl < b > () {}` prints `default const impl < b > () {}`
impl_definition_rest_border_11 : DerivesAs impl_definition_rest
    (leaf (ident w_default) (at 0 7) (leaf (ident w_const) (at 8 13) (leaf (ident w_impl) (at 14 18) (punct 60 false (at 19 20) (leaf (ident (98 ∷ [])) (at 21 22) (punct 62 false (at 23 24) (group Paren (at 25 26) (at 26 27) end (group Brace (at 28 29) (at 29 30) end end))))))))
    (leaf (ident w_default) call_site (leaf (ident w_const) call_site (leaf (ident w_impl) call_site (punct 60 false call_site (leaf (ident (98 ∷ [])) call_site (punct 62 false call_site (group Paren call_site call_site end (group Brace call_site call_site end end))))))))
    (end)
unfolding left is_end lookahead_at sees take_token take_lifetime take_mark take_group before first_span rows_for rows run parse_rule
impl_definition_rest_border_11 = computed impl_definition_rest _ _ _ refl

-- `default default impl < > () {}`: nothing is read
impl_definition_rest_border_12 : NotDerived (rule impl_definition_rest)
    (leaf (ident w_default) (at 0 7) (leaf (ident w_default) (at 8 15) (leaf (ident w_impl) (at 16 20) (punct 60 false (at 21 22) (punct 62 false (at 23 24) (group Paren (at 25 26) (at 26 27) end (group Brace (at 28 29) (at 29 30) end end)))))))
unfolding left is_end lookahead_at sees take_token take_lifetime take_mark take_group before first_span rows_for rows run parse_rule
impl_definition_rest_border_12 = not_read impl_definition_rest _ refl

-- `const const unsafe impl auto {}`: nothing is read
impl_definition_rest_border_13 : NotDerived (rule impl_definition_rest)
    (leaf (ident w_const) (at 0 5) (leaf (ident w_const) (at 6 11) (leaf (ident w_unsafe) (at 12 18) (leaf (ident w_impl) (at 19 23) (leaf (ident w_auto) (at 24 28) (group Brace (at 29 30) (at 30 31) end end))))))
unfolding left is_end lookahead_at sees take_token take_lifetime take_mark take_group before first_span rows_for rows run parse_rule
impl_definition_rest_border_13 = not_read impl_definition_rest _ refl

-- `default const const impl < > () {}`: nothing is read
impl_definition_rest_border_14 : NotDerived (rule impl_definition_rest)
    (leaf (ident w_default) (at 0 7) (leaf (ident w_const) (at 8 13) (leaf (ident w_const) (at 14 19) (leaf (ident w_impl) (at 20 24) (punct 60 false (at 25 26) (punct 62 false (at 27 28) (group Paren (at 29 30) (at 30 31) end (group Brace (at 32 33) (at 33 34) end end))))))))
unfolding left is_end lookahead_at sees take_token take_lifetime take_mark take_group before first_span rows_for rows run parse_rule
impl_definition_rest_border_14 = not_read impl_definition_rest _ refl

-- `default const impl :: auto {} impl` prints `default const impl :: auto {}` and leaves `impl`
impl_definition_rest_border_15 : DerivesAs impl_definition_rest
    (leaf (ident w_default) (at 0 7) (leaf (ident w_const) (at 8 13) (leaf (ident w_impl) (at 14 18) (punct 58 true (at 19 20) (punct 58 false (at 20 21) (leaf (ident w_auto) (at 22 26) (group Brace (at 27 28) (at 28 29) end (leaf (ident w_impl) (at 30 34) end))))))))
    (leaf (ident w_default) call_site (leaf (ident w_const) call_site (leaf (ident w_impl) call_site (punct 58 true call_site (punct 58 false call_site (leaf (ident w_auto) call_site (group Brace call_site call_site end end)))))))
    (leaf (ident w_impl) (at 30 34) end)
unfolding left is_end lookahead_at sees take_token take_lifetime take_mark take_group before first_span rows_for rows run parse_rule
impl_definition_rest_border_15 = computed impl_definition_rest _ _ _ refl

-- `default const impl < # [c] > () {}`: nothing is read
impl_definition_rest_border_16 : NotDerived (rule impl_definition_rest)
    (leaf (ident w_default) (at 0 7) (leaf (ident w_const) (at 8 13) (leaf (ident w_impl) (at 14 18) (punct 60 false (at 19 20) (punct 35 false (at 21 22) (group Bracket (at 23 24) (at 25 26) (leaf (ident (99 ∷ [])) (at 24 25) end) (punct 62 false (at 27 28) (group Paren (at 29 30) (at 30 31) end (group Brace (at 32 33) (at 33 34) end end)))))))))
unfolding left is_end lookahead_at sees take_token take_lifetime take_mark take_group before first_span rows_for rows run parse_rule
impl_definition_rest_border_16 = not_read impl_definition_rest _ refl

-- `default const unsafe impl < 'mut 'b > auto for ! {}`: nothing is read
impl_definition_rest_border_17 : NotDerived (rule impl_definition_rest)
    (leaf (ident w_default) (at 0 7) (leaf (ident w_const) (at 8 13) (leaf (ident w_unsafe) (at 14 20) (leaf (ident w_impl) (at 21 25) (punct 60 false (at 26 27) (punct 39 true (at 28 29) (leaf (ident w_mut) (at 29 32) (punct 39 true (at 33 34) (leaf (ident (98 ∷ [])) (at 34 35) (punct 62 false (at 36 37) (leaf (ident w_auto) (at 38 42) (leaf (ident w_for) (at 43 46) (punct 33 false (at 47 48) (group Brace (at 49 50) (at 50 51) end end))))))))))))))
unfolding left is_end lookahead_at sees take_token take_lifetime take_mark take_group before first_span rows_for rows run parse_rule
impl_definition_rest_border_17 = not_read impl_definition_rest _ refl

-- `safe : ! = auto ;`: nothing is read
impl_const_border_1 : NotDerived (rule impl_const)
    (leaf (ident w_safe) (at 0 4) (punct 58 false (at 5 6) (punct 33 false (at 7 8) (punct 61 false (at 9 10) (leaf (ident w_auto) (at 11 15) (punct 59 false (at 16 17) end))))))
unfolding left is_end lookahead_at sees take_token take_lifetime take_mark take_group before rows_for rows run parse_rule
impl_const_border_1 = not_read impl_const _ refl

-- `const : ! = auto ;`: nothing is read
impl_const_border_2 : NotDerived (rule impl_const)
    (leaf (ident w_const) (at 0 5) (punct 58 false (at 6 7) (punct 33 false (at 8 9) (punct 61 false (at 10 11) (leaf (ident w_auto) (at 12 16) (punct 59 false (at 17 18) end))))))
unfolding left is_end lookahead_at sees take_token take_lifetime take_mark take_group before rows_for rows run parse_rule
impl_const_border_2 = not_read impl_const _ refl

-- `const 1 : ! = auto ;`: nothing is read
impl_const_border_3 : NotDerived (rule impl_const)
    (leaf (ident w_const) (at 0 5) (leaf (literal Int (49 ∷ [])) (at 6 7) (punct 58 false (at 8 9) (punct 33 false (at 10 11) (punct 61 false (at 12 13) (leaf (ident w_auto) (at 14 18) (punct 59 false (at 19 20) end)))))))
unfolding left is_end lookahead_at sees take_token take_lifetime take_mark take_group before rows_for rows run parse_rule
impl_const_border_3 = not_read impl_const _ refl

-- `const _ : ! = auto ;` prints `const _ : ! = auto ;`
impl_const_border_4 : DerivesAs impl_const
    (leaf (ident w_const) (at 0 5) (leaf (ident w_underscore) (at 6 7) (punct 58 false (at 8 9) (punct 33 false (at 10 11) (punct 61 false (at 12 13) (leaf (ident w_auto) (at 14 18) (punct 59 false (at 19 20) end)))))))
    (leaf (ident w_const) call_site (leaf (ident w_underscore) call_site (punct 58 false call_site (punct 33 false call_site (punct 61 false call_site (leaf (ident w_auto) call_site (punct 59 false call_site end)))))))
    (end)
unfolding left is_end lookahead_at sees take_token take_lifetime take_mark take_group before rows_for rows run parse_rule
impl_const_border_4 = computed impl_const _ _ _ refl

-- `const safe : ! = 1 ;` prints `const safe : ! = 1 ;`
impl_const_border_5 : DerivesAs impl_const
    (leaf (ident w_const) (at 0 5) (leaf (ident w_safe) (at 6 10) (punct 58 false (at 11 12) (punct 33 false (at 13 14) (punct 61 false (at 15 16) (leaf (literal Int (49 ∷ [])) (at 17 18) (punct 59 false (at 19 20) end)))))))
    (leaf (ident w_const) call_site (leaf (ident w_safe) call_site (punct 58 false call_site (punct 33 false call_site (punct 61 false call_site (leaf (literal Int (49 ∷ [])) call_site (punct 59 false call_site end)))))))
    (end)
unfolding left is_end lookahead_at sees take_token take_lifetime take_mark take_group before rows_for rows run parse_rule
impl_const_border_5 = computed impl_const _ _ _ refl

-- `const fn : ! = auto ;`: nothing is read
impl_const_border_6 : NotDerived (rule impl_const)
    (leaf (ident w_const) (at 0 5) (leaf (ident w_fn) (at 6 8) (punct 58 false (at 9 10) (punct 33 false (at 11 12) (punct 61 false (at 13 14) (leaf (ident w_auto) (at 15 19) (punct 59 false (at 20 21) end)))))))
unfolding left is_end lookahead_at sees take_token take_lifetime take_mark take_group before rows_for rows run parse_rule
impl_const_border_6 = not_read impl_const _ refl

-- `const Self : ! = auto ;`: nothing is read
impl_const_border_7 : NotDerived (rule impl_const)
    (leaf (ident w_const) (at 0 5) (leaf (ident w_Self_type) (at 6 10) (punct 58 false (at 11 12) (punct 33 false (at 13 14) (punct 61 false (at 15 16) (leaf (ident w_auto) (at 17 21) (punct 59 false (at 22 23) end)))))))
unfolding left is_end lookahead_at sees take_token take_lifetime take_mark take_group before rows_for rows run parse_rule
impl_const_border_7 = not_read impl_const _ refl

-- `const auto : ! = auto ;` prints `const auto : ! = auto ;`
impl_const_border_8 : DerivesAs impl_const
    (leaf (ident w_const) (at 0 5) (leaf (ident w_auto) (at 6 10) (punct 58 false (at 11 12) (punct 33 false (at 13 14) (punct 61 false (at 15 16) (leaf (ident w_auto) (at 17 21) (punct 59 false (at 22 23) end)))))))
    (leaf (ident w_const) call_site (leaf (ident w_auto) call_site (punct 58 false call_site (punct 33 false call_site (punct 61 false call_site (leaf (ident w_auto) call_site (punct 59 false call_site end)))))))
    (end)
unfolding left is_end lookahead_at sees take_token take_lifetime take_mark take_group before rows_for rows run parse_rule
impl_const_border_8 = computed impl_const _ _ _ refl

-- `const self : ! = auto ;`: nothing is read
impl_const_border_9 : NotDerived (rule impl_const)
    (leaf (ident w_const) (at 0 5) (leaf (ident w_self) (at 6 10) (punct 58 false (at 11 12) (punct 33 false (at 13 14) (punct 61 false (at 15 16) (leaf (ident w_auto) (at 17 21) (punct 59 false (at 22 23) end)))))))
unfolding left is_end lookahead_at sees take_token take_lifetime take_mark take_group before rows_for rows run parse_rule
impl_const_border_9 = not_read impl_const _ refl

-- `const crate : ! = auto ;`: nothing is read
impl_const_border_10 : NotDerived (rule impl_const)
    (leaf (ident w_const) (at 0 5) (leaf (ident w_crate) (at 6 11) (punct 58 false (at 12 13) (punct 33 false (at 14 15) (punct 61 false (at 16 17) (leaf (ident w_auto) (at 18 22) (punct 59 false (at 23 24) end)))))))
unfolding left is_end lookahead_at sees take_token take_lifetime take_mark take_group before rows_for rows run parse_rule
impl_const_border_10 = not_read impl_const _ refl

-- `const super : ! = auto ;`: nothing is read
impl_const_border_11 : NotDerived (rule impl_const)
    (leaf (ident w_const) (at 0 5) (leaf (ident w_super) (at 6 11) (punct 58 false (at 12 13) (punct 33 false (at 14 15) (punct 61 false (at 16 17) (leaf (ident w_auto) (at 18 22) (punct 59 false (at 23 24) end)))))))
unfolding left is_end lookahead_at sees take_token take_lifetime take_mark take_group before rows_for rows run parse_rule
impl_const_border_11 = not_read impl_const _ refl

-- `const union : ! = auto ;` prints `const union : ! = auto ;`
impl_const_border_12 : DerivesAs impl_const
    (leaf (ident w_const) (at 0 5) (leaf (ident w_union) (at 6 11) (punct 58 false (at 12 13) (punct 33 false (at 14 15) (punct 61 false (at 16 17) (leaf (ident w_auto) (at 18 22) (punct 59 false (at 23 24) end)))))))
    (leaf (ident w_const) call_site (leaf (ident w_union) call_site (punct 58 false call_site (punct 33 false call_site (punct 61 false call_site (leaf (ident w_auto) call_site (punct 59 false call_site end)))))))
    (end)
unfolding left is_end lookahead_at sees take_token take_lifetime take_mark take_group before rows_for rows run parse_rule
impl_const_border_12 = computed impl_const _ _ _ refl

-- `const default ! = false ;`: nothing is read
impl_const_border_13 : NotDerived (rule impl_const)
    (leaf (ident w_const) (at 0 5) (leaf (ident w_default) (at 6 13) (punct 33 false (at 14 15) (punct 61 false (at 16 17) (leaf (ident w_false) (at 18 23) (punct 59 false (at 24 25) end))))))
unfolding left is_end lookahead_at sees take_token take_lifetime take_mark take_group before rows_for rows run parse_rule
impl_const_border_13 = not_read impl_const _ refl

-- `const default :! = false ,`: nothing is read
impl_const_border_14 : NotDerived (rule impl_const)
    (leaf (ident w_const) (at 0 5) (leaf (ident w_default) (at 6 13) (punct 58 true (at 14 15) (punct 33 false (at 15 16) (punct 61 false (at 17 18) (leaf (ident w_false) (at 19 24) (punct 44 false (at 25 26) end)))))))
unfolding left is_end lookahead_at sees take_token take_lifetime take_mark take_group before rows_for rows run parse_rule
impl_const_border_14 = not_read impl_const _ refl

-- `const default =! = false ;`: nothing is read
impl_const_border_15 : NotDerived (rule impl_const)
    (leaf (ident w_const) (at 0 5) (leaf (ident w_default) (at 6 13) (punct 61 true (at 14 15) (punct 33 false (at 15 16) (punct 61 false (at 17 18) (leaf (ident w_false) (at 19 24) (punct 59 false (at 25 26) end)))))))
unfolding left is_end lookahead_at sees take_token take_lifetime take_mark take_group before rows_for rows run parse_rule
impl_const_border_15 = not_read impl_const _ refl

-- `pub const safe = :() =[] ;`: nothing is read
impl_const_border_16 : NotDerived (rule impl_const)
    (leaf (ident w_pub) (at 0 3) (leaf (ident w_const) (at 4 9) (leaf (ident w_safe) (at 10 14) (punct 61 false (at 15 16) (punct 58 false (at 17 18) (group Paren (at 18 19) (at 19 20) end (punct 61 false (at 21 22) (group Bracket (at 22 23) (at 23 24) end (punct 59 false (at 25 26) end)))))))))
unfolding left is_end lookahead_at sees take_token take_lifetime take_mark take_group before rows_for rows run parse_rule
impl_const_border_16 = not_read impl_const _ refl

-- `const default ::! = false ;`: nothing is read
impl_const_border_17 : NotDerived (rule impl_const)
    (leaf (ident w_const) (at 0 5) (leaf (ident w_default) (at 6 13) (punct 58 true (at 14 15) (punct 58 true (at 15 16) (punct 33 false (at 16 17) (punct 61 false (at 18 19) (leaf (ident w_false) (at 20 25) (punct 59 false (at 26 27) end))))))))
unfolding left is_end lookahead_at sees take_token take_lifetime take_mark take_group before rows_for rows run parse_rule
impl_const_border_17 = not_read impl_const _ refl

-- `; const default :! = false ;`: nothing is read
impl_const_border_18 : NotDerived (rule impl_const)
    (punct 59 false (at 0 1) (leaf (ident w_const) (at 2 7) (leaf (ident w_default) (at 8 15) (punct 58 true (at 16 17) (punct 33 false (at 17 18) (punct 61 false (at 19 20) (leaf (ident w_false) (at 21 26) (punct 59 false (at 27 28) end))))))))
unfolding left is_end lookahead_at sees take_token take_lifetime take_mark take_group before rows_for rows run parse_rule
impl_const_border_18 = not_read impl_const _ refl

-- `const ; default :! = false ;`: nothing is read
impl_const_border_19 : NotDerived (rule impl_const)
    (leaf (ident w_const) (at 0 5) (punct 59 false (at 6 7) (leaf (ident w_default) (at 8 15) (punct 58 true (at 16 17) (punct 33 false (at 17 18) (punct 61 false (at 19 20) (leaf (ident w_false) (at 21 26) (punct 59 false (at 27 28) end))))))))
unfolding left is_end lookahead_at sees take_token take_lifetime take_mark take_group before rows_for rows run parse_rule
impl_const_border_19 = not_read impl_const _ refl

-- `const b default :! = false ;`: nothing is read
impl_const_border_20 : NotDerived (rule impl_const)
    (leaf (ident w_const) (at 0 5) (leaf (ident (98 ∷ [])) (at 6 7) (leaf (ident w_default) (at 8 15) (punct 58 true (at 16 17) (punct 33 false (at 17 18) (punct 61 false (at 19 20) (leaf (ident w_false) (at 21 26) (punct 59 false (at 27 28) end))))))))
unfolding left is_end lookahead_at sees take_token take_lifetime take_mark take_group before rows_for rows run parse_rule
impl_const_border_20 = not_read impl_const _ refl

-- `const default :! ; = false ;`: nothing is read
impl_const_border_21 : NotDerived (rule impl_const)
    (leaf (ident w_const) (at 0 5) (leaf (ident w_default) (at 6 13) (punct 58 true (at 14 15) (punct 33 false (at 15 16) (punct 59 false (at 17 18) (punct 61 false (at 19 20) (leaf (ident w_false) (at 21 26) (punct 59 false (at 27 28) end))))))))
unfolding left is_end lookahead_at sees take_token take_lifetime take_mark take_group before rows_for rows run parse_rule
impl_const_border_21 = not_read impl_const _ refl

-- `const default :! = ; false ;`: nothing is read
impl_const_border_22 : NotDerived (rule impl_const)
    (leaf (ident w_const) (at 0 5) (leaf (ident w_default) (at 6 13) (punct 58 true (at 14 15) (punct 33 false (at 15 16) (punct 61 false (at 17 18) (punct 59 false (at 19 20) (leaf (ident w_false) (at 21 26) (punct 59 false (at 27 28) end))))))))
unfolding left is_end lookahead_at sees take_token take_lifetime take_mark take_group before rows_for rows run parse_rule
impl_const_border_22 = not_read impl_const _ refl

-- `const default :! = default ;` prints `const default : ! = default ;`
impl_const_border_23 : DerivesAs impl_const
    (leaf (ident w_const) (at 0 5) (leaf (ident w_default) (at 6 13) (punct 58 true (at 14 15) (punct 33 false (at 15 16) (punct 61 false (at 17 18) (leaf (ident w_default) (at 19 26) (punct 59 false (at 27 28) end)))))))
    (leaf (ident w_const) call_site (leaf (ident w_default) call_site (punct 58 false call_site (punct 33 false call_site (punct 61 false call_site (leaf (ident w_default) call_site (punct 59 false call_site end)))))))
    (end)
unfolding left is_end lookahead_at sees take_token take_lifetime take_mark take_group before rows_for rows run parse_rule
impl_const_border_23 = computed impl_const _ _ _ refl

-- `const default :! = false ; ;` prints `const default : ! = false ;` and leaves `;`
impl_const_border_24 : DerivesAs impl_const
    (leaf (ident w_const) (at 0 5) (leaf (ident w_default) (at 6 13) (punct 58 true (at 14 15) (punct 33 false (at 15 16) (punct 61 false (at 17 18) (leaf (ident w_false) (at 19 24) (punct 59 false (at 25 26) (punct 59 false (at 27 28) end))))))))
    (leaf (ident w_const) call_site (leaf (ident w_default) call_site (punct 58 false call_site (punct 33 false call_site (punct 61 false call_site (leaf (ident w_false) call_site (punct 59 false call_site end)))))))
    (punct 59 false (at 27 28) end)
unfolding left is_end lookahead_at sees take_token take_lifetime take_mark take_group before rows_for rows run parse_rule
impl_const_border_24 = computed impl_const _ _ _ refl

-- `const default :; ! = false ;`: nothing is read
impl_const_border_25 : NotDerived (rule impl_const)
    (leaf (ident w_const) (at 0 5) (leaf (ident w_default) (at 6 13) (punct 58 true (at 14 15) (punct 59 false (at 15 16) (punct 33 false (at 17 18) (punct 61 false (at 19 20) (leaf (ident w_false) (at 21 26) (punct 59 false (at 27 28) end))))))))
unfolding left is_end lookahead_at sees take_token take_lifetime take_mark take_group before rows_for rows run parse_rule
impl_const_border_25 = not_read impl_const _ refl

-- `const default ; :! = false ;`: nothing is read
impl_const_border_26 : NotDerived (rule impl_const)
    (leaf (ident w_const) (at 0 5) (leaf (ident w_default) (at 6 13) (punct 59 false (at 14 15) (punct 58 true (at 16 17) (punct 33 false (at 17 18) (punct 61 false (at 19 20) (leaf (ident w_false) (at 21 26) (punct 59 false (at 27 28) end))))))))
unfolding left is_end lookahead_at sees take_token take_lifetime take_mark take_group before rows_for rows run parse_rule
impl_const_border_26 = not_read impl_const _ refl

-- `const default : () ==* true ;`: nothing is read
impl_const_border_27 : NotDerived (rule impl_const)
    (leaf (ident w_const) (at 0 5) (leaf (ident w_default) (at 6 13) (punct 58 false (at 14 15) (group Paren (at 16 17) (at 17 18) end (punct 61 true (at 19 20) (punct 61 true (at 20 21) (punct 42 false (at 21 22) (leaf (ident w_true) (at 23 27) (punct 59 false (at 28 29) end)))))))))
unfolding left is_end lookahead_at sees take_token take_lifetime take_mark take_group before rows_for rows run parse_rule
impl_const_border_27 = not_read impl_const _ refl

-- `const default :! = c = false ;` prints `const default : ! = c = false ;`
impl_const_border_28 : DerivesAs impl_const
    (leaf (ident w_const) (at 0 5) (leaf (ident w_default) (at 6 13) (punct 58 true (at 14 15) (punct 33 false (at 15 16) (punct 61 false (at 17 18) (leaf (ident (99 ∷ [])) (at 19 20) (punct 61 false (at 21 22) (leaf (ident w_false) (at 23 28) (punct 59 false (at 29 30) end)))))))))
    (leaf (ident w_const) call_site (leaf (ident w_default) call_site (punct 58 false call_site (punct 33 false call_site (punct 61 false call_site (leaf (ident (99 ∷ [])) call_site (punct 61 false call_site (leaf (ident w_false) call_site (punct 59 false call_site end)))))))))
    (end)
unfolding left is_end lookahead_at sees take_token take_lifetime take_mark take_group before rows_for rows run parse_rule
impl_const_border_28 = computed impl_const _ _ _ refl

-- `const default :! = false ; : c` prints `const default : ! = false ;` and leaves `: c`
impl_const_border_29 : DerivesAs impl_const
    (leaf (ident w_const) (at 0 5) (leaf (ident w_default) (at 6 13) (punct 58 true (at 14 15) (punct 33 false (at 15 16) (punct 61 false (at 17 18) (leaf (ident w_false) (at 19 24) (punct 59 false (at 25 26) (punct 58 false (at 27 28) (leaf (ident (99 ∷ [])) (at 29 30) end)))))))))
    (leaf (ident w_const) call_site (leaf (ident w_default) call_site (punct 58 false call_site (punct 33 false call_site (punct 61 false call_site (leaf (ident w_false) call_site (punct 59 false call_site end)))))))
    (punct 58 false (at 27 28) (leaf (ident (99 ∷ [])) (at 29 30) end))
unfolding left is_end lookahead_at sees take_token take_lifetime take_mark take_group before rows_for rows run parse_rule
impl_const_border_29 = computed impl_const _ _ _ refl

-- `const default :! = false ; = c` prints `const default : ! = false ;` and leaves `= c`
impl_const_border_30 : DerivesAs impl_const
    (leaf (ident w_const) (at 0 5) (leaf (ident w_default) (at 6 13) (punct 58 true (at 14 15) (punct 33 false (at 15 16) (punct 61 false (at 17 18) (leaf (ident w_false) (at 19 24) (punct 59 false (at 25 26) (punct 61 false (at 27 28) (leaf (ident (99 ∷ [])) (at 29 30) end)))))))))
    (leaf (ident w_const) call_site (leaf (ident w_default) call_site (punct 58 false call_site (punct 33 false call_site (punct 61 false call_site (leaf (ident w_false) call_site (punct 59 false call_site end)))))))
    (punct 61 false (at 27 28) (leaf (ident (99 ∷ [])) (at 29 30) end))
unfolding left is_end lookahead_at sees take_token take_lifetime take_mark take_group before rows_for rows run parse_rule
impl_const_border_30 = computed impl_const _ _ _ refl

-- `const default :! = false ; pub` prints `const default : ! = false ;` and leaves `pub`
impl_const_border_31 : DerivesAs impl_const
    (leaf (ident w_const) (at 0 5) (leaf (ident w_default) (at 6 13) (punct 58 true (at 14 15) (punct 33 false (at 15 16) (punct 61 false (at 17 18) (leaf (ident w_false) (at 19 24) (punct 59 false (at 25 26) (leaf (ident w_pub) (at 27 30) end))))))))
    (leaf (ident w_const) call_site (leaf (ident w_default) call_site (punct 58 false call_site (punct 33 false call_site (punct 61 false call_site (leaf (ident w_false) call_site (punct 59 false call_site end)))))))
    (leaf (ident w_pub) (at 27 30) end)
unfolding left is_end lookahead_at sees take_token take_lifetime take_mark take_group before rows_for rows run parse_rule
impl_const_border_31 = computed impl_const _ _ _ refl

-- `const default :! = false pub ;`: nothing is read
impl_const_border_32 : NotDerived (rule impl_const)
    (leaf (ident w_const) (at 0 5) (leaf (ident w_default) (at 6 13) (punct 58 true (at 14 15) (punct 33 false (at 15 16) (punct 61 false (at 17 18) (leaf (ident w_false) (at 19 24) (leaf (ident w_pub) (at 25 28) (punct 59 false (at 29 30) end))))))))
unfolding left is_end lookahead_at sees take_token take_lifetime take_mark take_group before rows_for rows run parse_rule
impl_const_border_32 = not_read impl_const _ refl

-- `const default :! = pub false ;`: nothing is read
impl_const_border_33 : NotDerived (rule impl_const)
    (leaf (ident w_const) (at 0 5) (leaf (ident w_default) (at 6 13) (punct 58 true (at 14 15) (punct 33 false (at 15 16) (punct 61 false (at 17 18) (leaf (ident w_pub) (at 19 22) (leaf (ident w_false) (at 23 28) (punct 59 false (at 29 30) end))))))))
unfolding left is_end lookahead_at sees take_token take_lifetime take_mark take_group before rows_for rows run parse_rule
impl_const_border_33 = not_read impl_const _ refl

-- `const default :! pub = false ;`: nothing is read
impl_const_border_34 : NotDerived (rule impl_const)
    (leaf (ident w_const) (at 0 5) (leaf (ident w_default) (at 6 13) (punct 58 true (at 14 15) (punct 33 false (at 15 16) (leaf (ident w_pub) (at 17 20) (punct 61 false (at 21 22) (leaf (ident w_false) (at 23 28) (punct 59 false (at 29 30) end))))))))
unfolding left is_end lookahead_at sees take_token take_lifetime take_mark take_group before rows_for rows run parse_rule
impl_const_border_34 = not_read impl_const _ refl

-- `const default :pub ! = false ;`: nothing is read
impl_const_border_35 : NotDerived (rule impl_const)
    (leaf (ident w_const) (at 0 5) (leaf (ident w_default) (at 6 13) (punct 58 false (at 14 15) (leaf (ident w_pub) (at 15 18) (punct 33 false (at 19 20) (punct 61 false (at 21 22) (leaf (ident w_false) (at 23 28) (punct 59 false (at 29 30) end))))))))
unfolding left is_end lookahead_at sees take_token take_lifetime take_mark take_group before rows_for rows run parse_rule
impl_const_border_35 = not_read impl_const _ refl

-- `const default pub :! = false ;`: nothing is read
impl_const_border_36 : NotDerived (rule impl_const)
    (leaf (ident w_const) (at 0 5) (leaf (ident w_default) (at 6 13) (leaf (ident w_pub) (at 14 17) (punct 58 true (at 18 19) (punct 33 false (at 19 20) (punct 61 false (at 21 22) (leaf (ident w_false) (at 23 28) (punct 59 false (at 29 30) end))))))))
unfolding left is_end lookahead_at sees take_token take_lifetime take_mark take_group before rows_for rows run parse_rule
impl_const_border_36 = not_read impl_const _ refl

-- `const pub default :! = false ;`: nothing is read
impl_const_border_37 : NotDerived (rule impl_const)
    (leaf (ident w_const) (at 0 5) (leaf (ident w_pub) (at 6 9) (leaf (ident w_default) (at 10 17) (punct 58 true (at 18 19) (punct 33 false (at 19 20) (punct 61 false (at 21 22) (leaf (ident w_false) (at 23 28) (punct 59 false (at 29 30) end))))))))
unfolding left is_end lookahead_at sees take_token take_lifetime take_mark take_group before rows_for rows run parse_rule
impl_const_border_37 = not_read impl_const _ refl

-- `const # [c] default :! = false ;`: nothing is read
impl_const_border_38 : NotDerived (rule impl_const)
    (leaf (ident w_const) (at 0 5) (punct 35 false (at 6 7) (group Bracket (at 8 9) (at 10 11) (leaf (ident (99 ∷ [])) (at 9 10) end) (leaf (ident w_default) (at 12 19) (punct 58 true (at 20 21) (punct 33 false (at 21 22) (punct 61 false (at 23 24) (leaf (ident w_false) (at 25 30) (punct 59 false (at 31 32) end)))))))))
unfolding left is_end lookahead_at sees take_token take_lifetime take_mark take_group before rows_for rows run parse_rule
impl_const_border_38 = not_read impl_const _ refl

-- `const const default :! = false ;`: nothing is read
impl_const_border_39 : NotDerived (rule impl_const)
    (leaf (ident w_const) (at 0 5) (leaf (ident w_const) (at 6 11) (leaf (ident w_default) (at 12 19) (punct 58 true (at 20 21) (punct 33 false (at 21 22) (punct 61 false (at 23 24) (leaf (ident w_false) (at 25 30) (punct 59 false (at 31 32) end))))))))
unfolding left is_end lookahead_at sees take_token take_lifetime take_mark take_group before rows_for rows run parse_rule
impl_const_border_39 = not_read impl_const _ refl

-- `const default # [c] :! = false ;`: nothing is read
impl_const_border_40 : NotDerived (rule impl_const)
    (leaf (ident w_const) (at 0 5) (leaf (ident w_default) (at 6 13) (punct 35 false (at 14 15) (group Bracket (at 16 17) (at 18 19) (leaf (ident (99 ∷ [])) (at 17 18) end) (punct 58 true (at 20 21) (punct 33 false (at 21 22) (punct 61 false (at 23 24) (leaf (ident w_false) (at 25 30) (punct 59 false (at 31 32) end)))))))))
unfolding left is_end lookahead_at sees take_token take_lifetime take_mark take_group before rows_for rows run parse_rule
impl_const_border_40 = not_read impl_const _ refl

-- `const default : () =: c * true ;`: nothing is read
impl_const_border_41 : NotDerived (rule impl_const)
    (leaf (ident w_const) (at 0 5) (leaf (ident w_default) (at 6 13) (punct 58 false (at 14 15) (group Paren (at 16 17) (at 17 18) end (punct 61 true (at 19 20) (punct 58 false (at 20 21) (leaf (ident (99 ∷ [])) (at 22 23) (punct 42 false (at 24 25) (leaf (ident w_true) (at 26 30) (punct 59 false (at 31 32) end))))))))))
unfolding left is_end lookahead_at sees take_token take_lifetime take_mark take_group before rows_for rows run parse_rule
impl_const_border_41 = not_read impl_const _ refl

-- `const default : = c () =* true ;`: nothing is read
impl_const_border_42 : NotDerived (rule impl_const)
    (leaf (ident w_const) (at 0 5) (leaf (ident w_default) (at 6 13) (punct 58 false (at 14 15) (punct 61 false (at 16 17) (leaf (ident (99 ∷ [])) (at 18 19) (group Paren (at 20 21) (at 21 22) end (punct 61 true (at 23 24) (punct 42 false (at 24 25) (leaf (ident w_true) (at 26 30) (punct 59 false (at 31 32) end))))))))))
unfolding left is_end lookahead_at sees take_token take_lifetime take_mark take_group before rows_for rows run parse_rule
impl_const_border_42 = not_read impl_const _ refl

-- `const default :! # [c] = false ;`: nothing is read
impl_const_border_43 : NotDerived (rule impl_const)
    (leaf (ident w_const) (at 0 5) (leaf (ident w_default) (at 6 13) (punct 58 true (at 14 15) (punct 33 false (at 15 16) (punct 35 false (at 17 18) (group Bracket (at 19 20) (at 21 22) (leaf (ident (99 ∷ [])) (at 20 21) end) (punct 61 false (at 23 24) (leaf (ident w_false) (at 25 30) (punct 59 false (at 31 32) end)))))))))
unfolding left is_end lookahead_at sees take_token take_lifetime take_mark take_group before rows_for rows run parse_rule
impl_const_border_43 = not_read impl_const _ refl

-- `const default :! = const false ;`: nothing is read
impl_const_border_44 : NotDerived (rule impl_const)
    (leaf (ident w_const) (at 0 5) (leaf (ident w_default) (at 6 13) (punct 58 true (at 14 15) (punct 33 false (at 15 16) (punct 61 false (at 17 18) (leaf (ident w_const) (at 19 24) (leaf (ident w_false) (at 25 30) (punct 59 false (at 31 32) end))))))))
unfolding left is_end lookahead_at sees take_token take_lifetime take_mark take_group before rows_for rows run parse_rule
impl_const_border_44 = not_read impl_const _ refl

-- `const default :! = false # [c] ;`: nothing is read
impl_const_border_45 : NotDerived (rule impl_const)
    (leaf (ident w_const) (at 0 5) (leaf (ident w_default) (at 6 13) (punct 58 true (at 14 15) (punct 33 false (at 15 16) (punct 61 false (at 17 18) (leaf (ident w_false) (at 19 24) (punct 35 false (at 25 26) (group Bracket (at 27 28) (at 29 30) (leaf (ident (99 ∷ [])) (at 28 29) end) (punct 59 false (at 31 32) end)))))))))
unfolding left is_end lookahead_at sees take_token take_lifetime take_mark take_group before rows_for rows run parse_rule
impl_const_border_45 = not_read impl_const _ refl

-- `const default :! = false ; # [c]` prints `const default : ! = false ;` and leaves `# [c]`
impl_const_border_46 : DerivesAs impl_const
    (leaf (ident w_const) (at 0 5) (leaf (ident w_default) (at 6 13) (punct 58 true (at 14 15) (punct 33 false (at 15 16) (punct 61 false (at 17 18) (leaf (ident w_false) (at 19 24) (punct 59 false (at 25 26) (punct 35 false (at 27 28) (group Bracket (at 29 30) (at 31 32) (leaf (ident (99 ∷ [])) (at 30 31) end) end)))))))))
    (leaf (ident w_const) call_site (leaf (ident w_default) call_site (punct 58 false call_site (punct 33 false call_site (punct 61 false call_site (leaf (ident w_false) call_site (punct 59 false call_site end)))))))
    (punct 35 false (at 27 28) (group Bracket (at 29 30) (at 31 32) (leaf (ident (99 ∷ [])) (at 30 31) end) end))
unfolding left is_end lookahead_at sees take_token take_lifetime take_mark take_group before rows_for rows run parse_rule
impl_const_border_46 = computed impl_const _ _ _ refl

-- `const default :! = false ; const` prints `const default : ! = false ;` and leaves `const`
impl_const_border_47 : DerivesAs impl_const
    (leaf (ident w_const) (at 0 5) (leaf (ident w_default) (at 6 13) (punct 58 true (at 14 15) (punct 33 false (at 15 16) (punct 61 false (at 17 18) (leaf (ident w_false) (at 19 24) (punct 59 false (at 25 26) (leaf (ident w_const) (at 27 32) end))))))))
    (leaf (ident w_const) call_site (leaf (ident w_default) call_site (punct 58 false call_site (punct 33 false call_site (punct 61 false call_site (leaf (ident w_false) call_site (punct 59 false call_site end)))))))
    (leaf (ident w_const) (at 27 32) end)
unfolding left is_end lookahead_at sees take_token take_lifetime take_mark take_group before rows_for rows run parse_rule
impl_const_border_47 = computed impl_const _ _ _ refl

-- `const default :! = false const ;`: nothing is read
impl_const_border_48 : NotDerived (rule impl_const)
    (leaf (ident w_const) (at 0 5) (leaf (ident w_default) (at 6 13) (punct 58 true (at 14 15) (punct 33 false (at 15 16) (punct 61 false (at 17 18) (leaf (ident w_false) (at 19 24) (leaf (ident w_const) (at 25 30) (punct 59 false (at 31 32) end))))))))
unfolding left is_end lookahead_at sees take_token take_lifetime take_mark take_group before rows_for rows run parse_rule
impl_const_border_48 = not_read impl_const _ refl

-- `const default :! const = false ;`: nothing is read
impl_const_border_49 : NotDerived (rule impl_const)
    (leaf (ident w_const) (at 0 5) (leaf (ident w_default) (at 6 13) (punct 58 true (at 14 15) (punct 33 false (at 15 16) (leaf (ident w_const) (at 17 22) (punct 61 false (at 23 24) (leaf (ident w_false) (at 25 30) (punct 59 false (at 31 32) end))))))))
unfolding left is_end lookahead_at sees take_token take_lifetime take_mark take_group before rows_for rows run parse_rule
impl_const_border_49 = not_read impl_const _ refl

-- `const default :# [c] ! = false ;`: nothing is read
impl_const_border_50 : NotDerived (rule impl_const)
    (leaf (ident w_const) (at 0 5) (leaf (ident w_default) (at 6 13) (punct 58 true (at 14 15) (punct 35 false (at 15 16) (group Bracket (at 17 18) (at 19 20) (leaf (ident (99 ∷ [])) (at 18 19) end) (punct 33 false (at 21 22) (punct 61 false (at 23 24) (leaf (ident w_false) (at 25 30) (punct 59 false (at 31 32) end)))))))))
unfolding left is_end lookahead_at sees take_token take_lifetime take_mark take_group before rows_for rows run parse_rule
impl_const_border_50 = not_read impl_const _ refl

-- `const default :const ! = false ;`: nothing is read
impl_const_border_51 : NotDerived (rule impl_const)
    (leaf (ident w_const) (at 0 5) (leaf (ident w_default) (at 6 13) (punct 58 false (at 14 15) (leaf (ident w_const) (at 15 20) (punct 33 false (at 21 22) (punct 61 false (at 23 24) (leaf (ident w_false) (at 25 30) (punct 59 false (at 31 32) end))))))))
unfolding left is_end lookahead_at sees take_token take_lifetime take_mark take_group before rows_for rows run parse_rule
impl_const_border_51 = not_read impl_const _ refl

-- `const default const :! = false ;`: nothing is read
impl_const_border_52 : NotDerived (rule impl_const)
    (leaf (ident w_const) (at 0 5) (leaf (ident w_default) (at 6 13) (leaf (ident w_const) (at 14 19) (punct 58 true (at 20 21) (punct 33 false (at 21 22) (punct 61 false (at 23 24) (leaf (ident w_false) (at 25 30) (punct 59 false (at 31 32) end))))))))
unfolding left is_end lookahead_at sees take_token take_lifetime take_mark take_group before rows_for rows run parse_rule
impl_const_border_52 = not_read impl_const _ refl

-- `default = const T : () = return ;`: nothing is read
impl_const_border_53 : NotDerived (rule impl_const)
    (leaf (ident w_default) (at 0 7) (punct 61 false (at 8 9) (leaf (ident w_const) (at 10 15) (leaf (ident (84 ∷ [])) (at 16 17) (punct 58 false (at 18 19) (group Paren (at 20 21) (at 21 22) end (punct 61 false (at 23 24) (leaf (ident w_return) (at 25 31) (punct 59 false (at 32 33) end)))))))))
unfolding left is_end lookahead_at sees take_token take_lifetime take_mark take_group before rows_for rows run parse_rule
impl_const_border_53 = not_read impl_const _ refl

-- `const default :! = false ; default` prints `const default : ! = false ;` and leaves `default`
impl_const_border_54 : DerivesAs impl_const
    (leaf (ident w_const) (at 0 5) (leaf (ident w_default) (at 6 13) (punct 58 true (at 14 15) (punct 33 false (at 15 16) (punct 61 false (at 17 18) (leaf (ident w_false) (at 19 24) (punct 59 false (at 25 26) (leaf (ident w_default) (at 27 34) end))))))))
    (leaf (ident w_const) call_site (leaf (ident w_default) call_site (punct 58 false call_site (punct 33 false call_site (punct 61 false call_site (leaf (ident w_false) call_site (punct 59 false call_site end)))))))
    (leaf (ident w_default) (at 27 34) end)
unfolding left is_end lookahead_at sees take_token take_lifetime take_mark take_group before rows_for rows run parse_rule
impl_const_border_54 = computed impl_const _ _ _ refl

-- `const default :! = false default ;`: nothing is read
impl_const_border_55 : NotDerived (rule impl_const)
    (leaf (ident w_const) (at 0 5) (leaf (ident w_default) (at 6 13) (punct 58 true (at 14 15) (punct 33 false (at 15 16) (punct 61 false (at 17 18) (leaf (ident w_false) (at 19 24) (leaf (ident w_default) (at 25 32) (punct 59 false (at 33 34) end))))))))
unfolding left is_end lookahead_at sees take_token take_lifetime take_mark take_group before rows_for rows run parse_rule
impl_const_border_55 = not_read impl_const _ refl

-- `const default :! default = false ;`: nothing is read
impl_const_border_56 : NotDerived (rule impl_const)
    (leaf (ident w_const) (at 0 5) (leaf (ident w_default) (at 6 13) (punct 58 true (at 14 15) (punct 33 false (at 15 16) (leaf (ident w_default) (at 17 24) (punct 61 false (at 25 26) (leaf (ident w_false) (at 27 32) (punct 59 false (at 33 34) end))))))))
unfolding left is_end lookahead_at sees take_token take_lifetime take_mark take_group before rows_for rows run parse_rule
impl_const_border_56 = not_read impl_const _ refl

-- `const default :default ! = false ;`: nothing is read
impl_const_border_57 : NotDerived (rule impl_const)
    (leaf (ident w_const) (at 0 5) (leaf (ident w_default) (at 6 13) (punct 58 false (at 14 15) (leaf (ident w_default) (at 15 22) (punct 33 false (at 23 24) (punct 61 false (at 25 26) (leaf (ident w_false) (at 27 32) (punct 59 false (at 33 34) end))))))))
unfolding left is_end lookahead_at sees take_token take_lifetime take_mark take_group before rows_for rows run parse_rule
impl_const_border_57 = not_read impl_const _ refl

-- `# [unsafe] :const default :! = {} ;`: nothing is read
impl_const_border_58 : NotDerived (rule impl_const)
    (punct 35 false (at 0 1) (group Bracket (at 2 3) (at 9 10) (leaf (ident w_unsafe) (at 3 9) end) (punct 58 false (at 11 12) (leaf (ident w_const) (at 12 17) (leaf (ident w_default) (at 18 25) (punct 58 true (at 26 27) (punct 33 false (at 27 28) (punct 61 false (at 29 30) (group Brace (at 31 32) (at 32 33) end (punct 59 false (at 34 35) end))))))))))
unfolding left is_end lookahead_at sees take_token take_lifetime take_mark take_group before rows_for rows run parse_rule
impl_const_border_58 = not_read impl_const _ refl

-- `: default const auto : () = false ;`: nothing is read
impl_const_border_59 : NotDerived (rule impl_const)
    (punct 58 false (at 0 1) (leaf (ident w_default) (at 2 9) (leaf (ident w_const) (at 10 15) (leaf (ident w_auto) (at 16 20) (punct 58 false (at 21 22) (group Paren (at 23 24) (at 24 25) end (punct 61 false (at 26 27) (leaf (ident w_false) (at 28 33) (punct 59 false (at 34 35) end)))))))))
unfolding left is_end lookahead_at sees take_token take_lifetime take_mark take_group before rows_for rows run parse_rule
impl_const_border_59 = not_read impl_const _ refl

-- `= default const auto : Self = b'x' ;`: nothing is read
impl_const_border_60 : NotDerived (rule impl_const)
    (punct 61 false (at 0 1) (leaf (ident w_default) (at 2 9) (leaf (ident w_const) (at 10 15) (leaf (ident w_auto) (at 16 20) (punct 58 false (at 21 22) (leaf (ident w_Self_type) (at 23 27) (punct 61 false (at 28 29) (leaf (literal Byte (98 ∷ 39 ∷ 120 ∷ 39 ∷ [])) (at 30 34) (punct 59 false (at 35 36) end)))))))))
unfolding left is_end lookahead_at sees take_token take_lifetime take_mark take_group before rows_for rows run parse_rule
impl_const_border_60 = not_read impl_const _ refl

-- `default const = default : () =true ;`: nothing is read
impl_const_border_61 : NotDerived (rule impl_const)
    (leaf (ident w_default) (at 0 7) (leaf (ident w_const) (at 8 13) (punct 61 false (at 14 15) (leaf (ident w_default) (at 16 23) (punct 58 false (at 24 25) (group Paren (at 26 27) (at 27 28) end (punct 61 false (at 29 30) (leaf (ident w_true) (at 30 34) (punct 59 false (at 35 36) end)))))))))
unfolding left is_end lookahead_at sees take_token take_lifetime take_mark take_group before rows_for rows run parse_rule
impl_const_border_61 = not_read impl_const _ refl

-- `# [a] pub pub default const b : c = d ;`: nothing is read
impl_const_border_62 : NotDerived (rule impl_const)
    (punct 35 false (at 0 1) (group Bracket (at 2 3) (at 4 5) (leaf (ident (97 ∷ [])) (at 3 4) end) (leaf (ident w_pub) (at 6 9) (leaf (ident w_pub) (at 10 13) (leaf (ident w_default) (at 14 21) (leaf (ident w_const) (at 22 27) (leaf (ident (98 ∷ [])) (at 28 29) (punct 58 false (at 30 31) (leaf (ident (99 ∷ [])) (at 32 33) (punct 61 false (at 34 35) (leaf (ident (100 ∷ [])) (at 36 37) (punct 59 false (at 38 39) end))))))))))))
unfolding left is_end lookahead_at sees take_token take_lifetime take_mark take_group before rows_for rows run parse_rule
impl_const_border_62 = not_read impl_const _ refl

-- `pub # [a] pub default const b : c = d ;`: nothing is read
impl_const_border_63 : NotDerived (rule impl_const)
    (leaf (ident w_pub) (at 0 3) (punct 35 false (at 4 5) (group Bracket (at 6 7) (at 8 9) (leaf (ident (97 ∷ [])) (at 7 8) end) (leaf (ident w_pub) (at 10 13) (leaf (ident w_default) (at 14 21) (leaf (ident w_const) (at 22 27) (leaf (ident (98 ∷ [])) (at 28 29) (punct 58 false (at 30 31) (leaf (ident (99 ∷ [])) (at 32 33) (punct 61 false (at 34 35) (leaf (ident (100 ∷ [])) (at 36 37) (punct 59 false (at 38 39) end))))))))))))
unfolding left is_end lookahead_at sees take_token take_lifetime take_mark take_group before rows_for rows run parse_rule
impl_const_border_63 = not_read impl_const _ refl

-- `# [a] pub # [c] default const b : c = d ;`: nothing is read
impl_const_border_64 : NotDerived (rule impl_const)
    (punct 35 false (at 0 1) (group Bracket (at 2 3) (at 4 5) (leaf (ident (97 ∷ [])) (at 3 4) end) (leaf (ident w_pub) (at 6 9) (punct 35 false (at 10 11) (group Bracket (at 12 13) (at 14 15) (leaf (ident (99 ∷ [])) (at 13 14) end) (leaf (ident w_default) (at 16 23) (leaf (ident w_const) (at 24 29) (leaf (ident (98 ∷ [])) (at 30 31) (punct 58 false (at 32 33) (leaf (ident (99 ∷ [])) (at 34 35) (punct 61 false (at 36 37) (leaf (ident (100 ∷ [])) (at 38 39) (punct 59 false (at 40 41) end)))))))))))))
unfolding left is_end lookahead_at sees take_token take_lifetime take_mark take_group before rows_for rows run parse_rule
impl_const_border_64 = not_read impl_const _ refl

-- `default default _ : () =true & continue ;`: nothing is read
impl_const_border_65 : NotDerived (rule impl_const)
    (leaf (ident w_default) (at 0 7) (leaf (ident w_default) (at 8 15) (leaf (ident w_underscore) (at 16 17) (punct 58 false (at 18 19) (group Paren (at 20 21) (at 21 22) end (punct 61 false (at 23 24) (leaf (ident w_true) (at 24 28) (punct 38 false (at 29 30) (leaf (ident w_continue) (at 31 39) (punct 59 false (at 40 41) end))))))))))
unfolding left is_end lookahead_at sees take_token take_lifetime take_mark take_group before rows_for rows run parse_rule
impl_const_border_65 = not_read impl_const _ refl

-- `pub const union : () : = # [auto] return ;`: nothing is read
impl_const_border_66 : NotDerived (rule impl_const)
    (leaf (ident w_pub) (at 0 3) (leaf (ident w_const) (at 4 9) (leaf (ident w_union) (at 10 15) (punct 58 false (at 16 17) (group Paren (at 18 19) (at 19 20) end (punct 58 false (at 21 22) (punct 61 false (at 23 24) (punct 35 false (at 25 26) (group Bracket (at 27 28) (at 32 33) (leaf (ident w_auto) (at 28 32) end) (leaf (ident w_return) (at 34 40) (punct 59 false (at 41 42) end)))))))))))
unfolding left is_end lookahead_at sees take_token take_lifetime take_mark take_group before rows_for rows run parse_rule
impl_const_border_66 = not_read impl_const _ refl

-- `default pub const _ : () =true & continue ;`: nothing is read
impl_const_border_67 : NotDerived (rule impl_const)
    (leaf (ident w_default) (at 0 7) (leaf (ident w_pub) (at 8 11) (leaf (ident w_const) (at 12 17) (leaf (ident w_underscore) (at 18 19) (punct 58 false (at 20 21) (group Paren (at 22 23) (at 23 24) end (punct 61 false (at 25 26) (leaf (ident w_true) (at 26 30) (punct 38 false (at 31 32) (leaf (ident w_continue) (at 33 41) (punct 59 false (at 42 43) end)))))))))))
unfolding left is_end lookahead_at sees take_token take_lifetime take_mark take_group before rows_for rows run parse_rule
impl_const_border_67 = not_read impl_const _ refl

-- `default # [c] const _ : () =true & continue ;`: nothing is read
impl_const_border_68 : NotDerived (rule impl_const)
    (leaf (ident w_default) (at 0 7) (punct 35 false (at 8 9) (group Bracket (at 10 11) (at 12 13) (leaf (ident (99 ∷ [])) (at 11 12) end) (leaf (ident w_const) (at 14 19) (leaf (ident w_underscore) (at 20 21) (punct 58 false (at 22 23) (group Paren (at 24 25) (at 25 26) end (punct 61 false (at 27 28) (leaf (ident w_true) (at 28 32) (punct 38 false (at 33 34) (leaf (ident w_continue) (at 35 43) (punct 59 false (at 44 45) end))))))))))))
unfolding left is_end lookahead_at sees take_token take_lifetime take_mark take_group before rows_for rows run parse_rule
impl_const_border_68 = not_read impl_const _ refl

-- `default const auto : !=- a . auto & return : ;`: nothing is read
impl_const_border_69 : NotDerived (rule impl_const)
    (leaf (ident w_default) (at 0 7) (leaf (ident w_const) (at 8 13) (leaf (ident w_auto) (at 14 18) (punct 58 false (at 19 20) (punct 33 true (at 21 22) (punct 61 true (at 22 23) (punct 45 false (at 23 24) (leaf (ident (97 ∷ [])) (at 25 26) (punct 46 false (at 27 28) (leaf (ident w_auto) (at 29 33) (punct 38 false (at 34 35) (leaf (ident w_return) (at 36 42) (punct 58 false (at 43 44) (punct 59 false (at 45 46) end))))))))))))))
unfolding left is_end lookahead_at sees take_token take_lifetime take_mark take_group before rows_for rows run parse_rule
impl_const_border_69 = not_read impl_const _ refl

-- `default default const _ : () =true & continue ;`: nothing is read
impl_const_border_70 : NotDerived (rule impl_const)
    (leaf (ident w_default) (at 0 7) (leaf (ident w_default) (at 8 15) (leaf (ident w_const) (at 16 21) (leaf (ident w_underscore) (at 22 23) (punct 58 false (at 24 25) (group Paren (at 26 27) (at 27 28) end (punct 61 false (at 29 30) (leaf (ident w_true) (at 30 34) (punct 38 false (at 35 36) (leaf (ident w_continue) (at 37 45) (punct 59 false (at 46 47) end)))))))))))
unfolding left is_end lookahead_at sees take_token take_lifetime take_mark take_group before rows_for rows run parse_rule
impl_const_border_70 = not_read impl_const _ refl

-- `fn safe () {} {}` prints `fn safe () {}` and leaves `{}`
impl_function_border_1 : DerivesAs impl_function
    (leaf (ident w_fn) (at 0 2) (leaf (ident w_safe) (at 3 7) (group Paren (at 8 9) (at 9 10) end (group Brace (at 11 12) (at 12 13) end (group Brace (at 14 15) (at 15 16) end end)))))
    (leaf (ident w_fn) call_site (leaf (ident w_safe) call_site (group Paren call_site call_site end (group Brace call_site call_site end end))))
    (group Brace (at 14 15) (at 15 16) end end)
unfolding left is_end lookahead_at sees take_token take_lifetime take_mark take_group before first_span rows_for rows run parse_rule
impl_function_border_1 = computed impl_function _ _ _ refl

-- `{} fn safe () {}`: nothing is read
impl_function_border_2 : NotDerived (rule impl_function)
    (group Brace (at 0 1) (at 1 2) end (leaf (ident w_fn) (at 3 5) (leaf (ident w_safe) (at 6 10) (group Paren (at 11 12) (at 12 13) end (group Brace (at 14 15) (at 15 16) end end)))))
unfolding left is_end lookahead_at sees take_token take_lifetime take_mark take_group before first_span rows_for rows run parse_rule
impl_function_border_2 = not_read impl_function _ refl

-- `fn safe () pub {}`: nothing is read
impl_function_border_3 : NotDerived (rule impl_function)
    (leaf (ident w_fn) (at 0 2) (leaf (ident w_safe) (at 3 7) (group Paren (at 8 9) (at 9 10) end (leaf (ident w_pub) (at 11 14) (group Brace (at 15 16) (at 16 17) end end)))))
unfolding left is_end lookahead_at sees take_token take_lifetime take_mark take_group before first_span rows_for rows run parse_rule
impl_function_border_3 = not_read impl_function _ refl

-- `fn safe () {} pub` prints `fn safe () {}` and leaves `pub`
impl_function_border_4 : DerivesAs impl_function
    (leaf (ident w_fn) (at 0 2) (leaf (ident w_safe) (at 3 7) (group Paren (at 8 9) (at 9 10) end (group Brace (at 11 12) (at 12 13) end (leaf (ident w_pub) (at 14 17) end)))))
    (leaf (ident w_fn) call_site (leaf (ident w_safe) call_site (group Paren call_site call_site end (group Brace call_site call_site end end))))
    (leaf (ident w_pub) (at 14 17) end)
unfolding left is_end lookahead_at sees take_token take_lifetime take_mark take_group before first_span rows_for rows run parse_rule
impl_function_border_4 = computed impl_function _ _ _ refl

-- `const fn safe () {}` prints `const fn safe () {}`
impl_function_border_5 : DerivesAs impl_function
    (leaf (ident w_const) (at 0 5) (leaf (ident w_fn) (at 6 8) (leaf (ident w_safe) (at 9 13) (group Paren (at 14 15) (at 15 16) end (group Brace (at 17 18) (at 18 19) end end)))))
    (leaf (ident w_const) call_site (leaf (ident w_fn) call_site (leaf (ident w_safe) call_site (group Paren call_site call_site end (group Brace call_site call_site end end)))))
    (end)
unfolding left is_end lookahead_at sees take_token take_lifetime take_mark take_group before first_span rows_for rows run parse_rule
impl_function_border_5 = computed impl_function _ _ _ refl

-- `fn auto () # [c] {}`: nothing is read
impl_function_border_6 : NotDerived (rule impl_function)
    (leaf (ident w_fn) (at 0 2) (leaf (ident w_auto) (at 3 7) (group Paren (at 8 9) (at 9 10) end (punct 35 false (at 11 12) (group Bracket (at 13 14) (at 15 16) (leaf (ident (99 ∷ [])) (at 14 15) end) (group Brace (at 17 18) (at 18 19) end end))))))
unfolding left is_end lookahead_at sees take_token take_lifetime take_mark take_group before first_span rows_for rows run parse_rule
impl_function_border_6 = not_read impl_function _ refl

-- `fn auto () {} # [c]` prints `fn auto () {}` and leaves `# [c]`
impl_function_border_7 : DerivesAs impl_function
    (leaf (ident w_fn) (at 0 2) (leaf (ident w_auto) (at 3 7) (group Paren (at 8 9) (at 9 10) end (group Brace (at 11 12) (at 12 13) end (punct 35 false (at 14 15) (group Bracket (at 16 17) (at 18 19) (leaf (ident (99 ∷ [])) (at 17 18) end) end))))))
    (leaf (ident w_fn) call_site (leaf (ident w_auto) call_site (group Paren call_site call_site end (group Brace call_site call_site end end))))
    (punct 35 false (at 14 15) (group Bracket (at 16 17) (at 18 19) (leaf (ident (99 ∷ [])) (at 17 18) end) end))
unfolding left is_end lookahead_at sees take_token take_lifetime take_mark take_group before first_span rows_for rows run parse_rule
impl_function_border_7 = computed impl_function _ _ _ refl

-- `fn safe () {} const` prints `fn safe () {}` and leaves `const`
impl_function_border_8 : DerivesAs impl_function
    (leaf (ident w_fn) (at 0 2) (leaf (ident w_safe) (at 3 7) (group Paren (at 8 9) (at 9 10) end (group Brace (at 11 12) (at 12 13) end (leaf (ident w_const) (at 14 19) end)))))
    (leaf (ident w_fn) call_site (leaf (ident w_safe) call_site (group Paren call_site call_site end (group Brace call_site call_site end end))))
    (leaf (ident w_const) (at 14 19) end)
unfolding left is_end lookahead_at sees take_token take_lifetime take_mark take_group before first_span rows_for rows run parse_rule
impl_function_border_8 = computed impl_function _ _ _ refl

-- `fn safe () default {}`: nothing is read
impl_function_border_9 : NotDerived (rule impl_function)
    (leaf (ident w_fn) (at 0 2) (leaf (ident w_safe) (at 3 7) (group Paren (at 8 9) (at 9 10) end (leaf (ident w_default) (at 11 18) (group Brace (at 19 20) (at 20 21) end end)))))
unfolding left is_end lookahead_at sees take_token take_lifetime take_mark take_group before first_span rows_for rows run parse_rule
impl_function_border_9 = not_read impl_function _ refl

-- `fn safe () {} default` prints `fn safe () {}` and leaves `default`
impl_function_border_10 : DerivesAs impl_function
    (leaf (ident w_fn) (at 0 2) (leaf (ident w_safe) (at 3 7) (group Paren (at 8 9) (at 9 10) end (group Brace (at 11 12) (at 12 13) end (leaf (ident w_default) (at 14 21) end)))))
    (leaf (ident w_fn) call_site (leaf (ident w_safe) call_site (group Paren call_site call_site end (group Brace call_site call_site end end))))
    (leaf (ident w_default) (at 14 21) end)
unfolding left is_end lookahead_at sees take_token take_lifetime take_mark take_group before first_span rows_for rows run parse_rule
impl_function_border_10 = computed impl_function _ _ _ refl

-- `default pub fn a () {}`: nothing is read
impl_function_border_11 : NotDerived (rule impl_function)
    (leaf (ident w_default) (at 0 7) (leaf (ident w_pub) (at 8 11) (leaf (ident w_fn) (at 12 14) (leaf (ident (97 ∷ [])) (at 15 16) (group Paren (at 17 18) (at 18 19) end (group Brace (at 20 21) (at 21 22) end end))))))
unfolding left is_end lookahead_at sees take_token take_lifetime take_mark take_group before first_span rows_for rows run parse_rule
impl_function_border_11 = not_read impl_function _ refl

-- `fn a () fn safe () {} %`: nothing is read
impl_function_border_12 : NotDerived (rule impl_function)
    (leaf (ident w_fn) (at 0 2) (leaf (ident (97 ∷ [])) (at 3 4) (group Paren (at 5 6) (at 6 7) end (leaf (ident w_fn) (at 8 10) (leaf (ident w_safe) (at 11 15) (group Paren (at 16 17) (at 17 18) end (group Brace (at 19 20) (at 20 21) end (punct 37 false (at 22 23) end))))))))
unfolding left is_end lookahead_at sees take_token take_lifetime take_mark take_group before first_span rows_for rows run parse_rule
impl_function_border_12 = not_read impl_function _ refl

-- `pub # [c] fn auto () {}`: nothing is read
impl_function_border_13 : NotDerived (rule impl_function)
    (leaf (ident w_pub) (at 0 3) (punct 35 false (at 4 5) (group Bracket (at 6 7) (at 8 9) (leaf (ident (99 ∷ [])) (at 7 8) end) (leaf (ident w_fn) (at 10 12) (leaf (ident w_auto) (at 13 17) (group Paren (at 18 19) (at 19 20) end (group Brace (at 21 22) (at 22 23) end end)))))))
unfolding left is_end lookahead_at sees take_token take_lifetime take_mark take_group before first_span rows_for rows run parse_rule
impl_function_border_13 = not_read impl_function _ refl

-- `default default fn a () {}`: nothing is read
impl_function_border_14 : NotDerived (rule impl_function)
    (leaf (ident w_default) (at 0 7) (leaf (ident w_default) (at 8 15) (leaf (ident w_fn) (at 16 18) (leaf (ident (97 ∷ [])) (at 19 20) (group Paren (at 21 22) (at 22 23) end (group Brace (at 24 25) (at 25 26) end end))))))
unfolding left is_end lookahead_at sees take_token take_lifetime take_mark take_group before first_span rows_for rows run parse_rule
impl_function_border_14 = not_read impl_function _ refl

-- `# [a] pub pub default fn b (& self) {c}`: nothing is read
impl_function_border_15 : NotDerived (rule impl_function)
    (punct 35 false (at 0 1) (group Bracket (at 2 3) (at 4 5) (leaf (ident (97 ∷ [])) (at 3 4) end) (leaf (ident w_pub) (at 6 9) (leaf (ident w_pub) (at 10 13) (leaf (ident w_default) (at 14 21) (leaf (ident w_fn) (at 22 24) (leaf (ident (98 ∷ [])) (at 25 26) (group Paren (at 27 28) (at 34 35) (punct 38 false (at 28 29) (leaf (ident w_self) (at 30 34) end)) (group Brace (at 36 37) (at 38 39) (leaf (ident (99 ∷ [])) (at 37 38) end) end)))))))))
unfolding left is_end lookahead_at sees take_token take_lifetime take_mark take_group before first_span rows_for rows run parse_rule
impl_function_border_15 = not_read impl_function _ refl

-- `type = ! ;`: nothing is read
impl_type_border_1 : NotDerived (rule impl_type)
    (leaf (ident w_type) (at 0 4) (punct 61 false (at 5 6) (punct 33 false (at 7 8) (punct 59 false (at 9 10) end))))
unfolding left is_end lookahead_at sees take_token take_lifetime take_mark take_group before rows_for rows run parse_rule
impl_type_border_1 = not_read impl_type _ refl

-- `type 1 = ! ;`: nothing is read
impl_type_border_2 : NotDerived (rule impl_type)
    (leaf (ident w_type) (at 0 4) (leaf (literal Int (49 ∷ [])) (at 5 6) (punct 61 false (at 7 8) (punct 33 false (at 9 10) (punct 59 false (at 11 12) end)))))
unfolding left is_end lookahead_at sees take_token take_lifetime take_mark take_group before rows_for rows run parse_rule
impl_type_border_2 = not_read impl_type _ refl

-- `type _ = ! ;`: nothing is read
impl_type_border_3 : NotDerived (rule impl_type)
    (leaf (ident w_type) (at 0 4) (leaf (ident w_underscore) (at 5 6) (punct 61 false (at 7 8) (punct 33 false (at 9 10) (punct 59 false (at 11 12) end)))))
unfolding left is_end lookahead_at sees take_token take_lifetime take_mark take_group before rows_for rows run parse_rule
impl_type_border_3 = not_read impl_type _ refl

-- `auto = auto ;`: nothing is read
impl_type_border_4 : NotDerived (rule impl_type)
    (leaf (ident w_auto) (at 0 4) (punct 61 false (at 5 6) (leaf (ident w_auto) (at 7 11) (punct 59 false (at 12 13) end))))
unfolding left is_end lookahead_at sees take_token take_lifetime take_mark take_group before rows_for rows run parse_rule
impl_type_border_4 = not_read impl_type _ refl

-- `type fn = ! ;`: nothing is read
impl_type_border_5 : NotDerived (rule impl_type)
    (leaf (ident w_type) (at 0 4) (leaf (ident w_fn) (at 5 7) (punct 61 false (at 8 9) (punct 33 false (at 10 11) (punct 59 false (at 12 13) end)))))
unfolding left is_end lookahead_at sees take_token take_lifetime take_mark take_group before rows_for rows run parse_rule
impl_type_border_5 = not_read impl_type _ refl

-- `type Self = ! ;`: nothing is read
impl_type_border_6 : NotDerived (rule impl_type)
    (leaf (ident w_type) (at 0 4) (leaf (ident w_Self_type) (at 5 9) (punct 61 false (at 10 11) (punct 33 false (at 12 13) (punct 59 false (at 14 15) end)))))
unfolding left is_end lookahead_at sees take_token take_lifetime take_mark take_group before rows_for rows run parse_rule
impl_type_border_6 = not_read impl_type _ refl

-- `type safe = ! ;` prints `type safe = ! ;`
impl_type_border_7 : DerivesAs impl_type
    (leaf (ident w_type) (at 0 4) (leaf (ident w_safe) (at 5 9) (punct 61 false (at 10 11) (punct 33 false (at 12 13) (punct 59 false (at 14 15) end)))))
    (leaf (ident w_type) call_site (leaf (ident w_safe) call_site (punct 61 false call_site (punct 33 false call_site (punct 59 false call_site end)))))
    (end)
unfolding left is_end lookahead_at sees take_token take_lifetime take_mark take_group before rows_for rows run parse_rule
impl_type_border_7 = computed impl_type _ _ _ refl

-- `type self = ! ;`: nothing is read
impl_type_border_8 : NotDerived (rule impl_type)
    (leaf (ident w_type) (at 0 4) (leaf (ident w_self) (at 5 9) (punct 61 false (at 10 11) (punct 33 false (at 12 13) (punct 59 false (at 14 15) end)))))
unfolding left is_end lookahead_at sees take_token take_lifetime take_mark take_group before rows_for rows run parse_rule
impl_type_border_8 = not_read impl_type _ refl

-- `type auto auto ;`: nothing is read
impl_type_border_9 : NotDerived (rule impl_type)
    (leaf (ident w_type) (at 0 4) (leaf (ident w_auto) (at 5 9) (leaf (ident w_auto) (at 10 14) (punct 59 false (at 15 16) end))))
unfolding left is_end lookahead_at sees take_token take_lifetime take_mark take_group before rows_for rows run parse_rule
impl_type_border_9 = not_read impl_type _ refl

-- `type crate = ! ;`: nothing is read
impl_type_border_10 : NotDerived (rule impl_type)
    (leaf (ident w_type) (at 0 4) (leaf (ident w_crate) (at 5 10) (punct 61 false (at 11 12) (punct 33 false (at 13 14) (punct 59 false (at 15 16) end)))))
unfolding left is_end lookahead_at sees take_token take_lifetime take_mark take_group before rows_for rows run parse_rule
impl_type_border_10 = not_read impl_type _ refl

-- `type super = ! ;`: nothing is read
impl_type_border_11 : NotDerived (rule impl_type)
    (leaf (ident w_type) (at 0 4) (leaf (ident w_super) (at 5 10) (punct 61 false (at 11 12) (punct 33 false (at 13 14) (punct 59 false (at 15 16) end)))))
unfolding left is_end lookahead_at sees take_token take_lifetime take_mark take_group before rows_for rows run parse_rule
impl_type_border_11 = not_read impl_type _ refl

-- `type union = ! ;` prints `type union = ! ;`
impl_type_border_12 : DerivesAs impl_type
    (leaf (ident w_type) (at 0 4) (leaf (ident w_union) (at 5 10) (punct 61 false (at 11 12) (punct 33 false (at 13 14) (punct 59 false (at 15 16) end)))))
    (leaf (ident w_type) call_site (leaf (ident w_union) call_site (punct 61 false call_site (punct 33 false call_site (punct 59 false call_site end)))))
    (end)
unfolding left is_end lookahead_at sees take_token take_lifetime take_mark take_group before rows_for rows run parse_rule
impl_type_border_12 = computed impl_type _ _ _ refl

-- `type a = ! ;# [c]` prints `type a = ! ;` and leaves `# [c]`
impl_type_border_13 : DerivesAs impl_type
    (leaf (ident w_type) (at 0 4) (leaf (ident (97 ∷ [])) (at 5 6) (punct 61 false (at 7 8) (punct 33 false (at 9 10) (punct 59 true (at 11 12) (punct 35 false (at 12 13) (group Bracket (at 14 15) (at 16 17) (leaf (ident (99 ∷ [])) (at 15 16) end) end)))))))
    (leaf (ident w_type) call_site (leaf (ident (97 ∷ [])) call_site (punct 61 false call_site (punct 33 false call_site (punct 59 false call_site end)))))
    (punct 35 false (at 12 13) (group Bracket (at 14 15) (at 16 17) (leaf (ident (99 ∷ [])) (at 15 16) end) end))
unfolding left is_end lookahead_at sees take_token take_lifetime take_mark take_group before rows_for rows run parse_rule
impl_type_border_13 = computed impl_type _ _ _ refl

-- `= type auto = () ;`: nothing is read
impl_type_border_14 : NotDerived (rule impl_type)
    (punct 61 false (at 0 1) (leaf (ident w_type) (at 2 6) (leaf (ident w_auto) (at 7 11) (punct 61 false (at 12 13) (group Paren (at 14 15) (at 15 16) end (punct 59 false (at 17 18) end))))))
unfolding left is_end lookahead_at sees take_token take_lifetime take_mark take_group before rows_for rows run parse_rule
impl_type_border_14 = not_read impl_type _ refl

-- `type # [c] a = ! ;`: nothing is read
impl_type_border_15 : NotDerived (rule impl_type)
    (leaf (ident w_type) (at 0 4) (punct 35 false (at 5 6) (group Bracket (at 7 8) (at 9 10) (leaf (ident (99 ∷ [])) (at 8 9) end) (leaf (ident (97 ∷ [])) (at 11 12) (punct 61 false (at 13 14) (punct 33 false (at 15 16) (punct 59 false (at 17 18) end)))))))
unfolding left is_end lookahead_at sees take_token take_lifetime take_mark take_group before rows_for rows run parse_rule
impl_type_border_15 = not_read impl_type _ refl

-- `type a # [c] = ! ;`: nothing is read
impl_type_border_16 : NotDerived (rule impl_type)
    (leaf (ident w_type) (at 0 4) (leaf (ident (97 ∷ [])) (at 5 6) (punct 35 false (at 7 8) (group Bracket (at 9 10) (at 11 12) (leaf (ident (99 ∷ [])) (at 10 11) end) (punct 61 false (at 13 14) (punct 33 false (at 15 16) (punct 59 false (at 17 18) end)))))))
unfolding left is_end lookahead_at sees take_token take_lifetime take_mark take_group before rows_for rows run parse_rule
impl_type_border_16 = not_read impl_type _ refl

-- `type a = ! # [c] ;`: nothing is read
impl_type_border_17 : NotDerived (rule impl_type)
    (leaf (ident w_type) (at 0 4) (leaf (ident (97 ∷ [])) (at 5 6) (punct 61 false (at 7 8) (punct 33 false (at 9 10) (punct 35 false (at 11 12) (group Bracket (at 13 14) (at 15 16) (leaf (ident (99 ∷ [])) (at 14 15) end) (punct 59 false (at 17 18) end)))))))
unfolding left is_end lookahead_at sees take_token take_lifetime take_mark take_group before rows_for rows run parse_rule
impl_type_border_17 = not_read impl_type _ refl

-- `type a = # [c] ! ;`: nothing is read
impl_type_border_18 : NotDerived (rule impl_type)
    (leaf (ident w_type) (at 0 4) (leaf (ident (97 ∷ [])) (at 5 6) (punct 61 false (at 7 8) (punct 35 false (at 9 10) (group Bracket (at 11 12) (at 13 14) (leaf (ident (99 ∷ [])) (at 12 13) end) (punct 33 false (at 15 16) (punct 59 false (at 17 18) end)))))))
unfolding left is_end lookahead_at sees take_token take_lifetime take_mark take_group before rows_for rows run parse_rule
impl_type_border_18 = not_read impl_type _ refl

-- `type auto = auto ,`: nothing is read
impl_type_border_19 : NotDerived (rule impl_type)
    (leaf (ident w_type) (at 0 4) (leaf (ident w_auto) (at 5 9) (punct 61 false (at 10 11) (leaf (ident w_auto) (at 12 16) (punct 44 false (at 17 18) end)))))
unfolding left is_end lookahead_at sees take_token take_lifetime take_mark take_group before rows_for rows run parse_rule
impl_type_border_19 = not_read impl_type _ refl

-- `type default = ! ;` prints `type default = ! ;`
impl_type_border_20 : DerivesAs impl_type
    (leaf (ident w_type) (at 0 4) (leaf (ident w_default) (at 5 12) (punct 61 false (at 13 14) (punct 33 false (at 15 16) (punct 59 false (at 17 18) end)))))
    (leaf (ident w_type) call_site (leaf (ident w_default) call_site (punct 61 false call_site (punct 33 false call_site (punct 59 false call_site end)))))
    (end)
unfolding left is_end lookahead_at sees take_token take_lifetime take_mark take_group before rows_for rows run parse_rule
impl_type_border_20 = computed impl_type _ _ _ refl

-- `type safe = ! < > ;`: nothing is read
impl_type_border_21 : NotDerived (rule impl_type)
    (leaf (ident w_type) (at 0 4) (leaf (ident w_safe) (at 5 9) (punct 61 false (at 10 11) (punct 33 false (at 12 13) (punct 60 false (at 14 15) (punct 62 false (at 16 17) (punct 59 false (at 18 19) end)))))))
unfolding left is_end lookahead_at sees take_token take_lifetime take_mark take_group before rows_for rows run parse_rule
impl_type_border_21 = not_read impl_type _ refl

-- `; type auto = auto ;`: nothing is read
impl_type_border_22 : NotDerived (rule impl_type)
    (punct 59 false (at 0 1) (leaf (ident w_type) (at 2 6) (leaf (ident w_auto) (at 7 11) (punct 61 false (at 12 13) (leaf (ident w_auto) (at 14 18) (punct 59 false (at 19 20) end))))))
unfolding left is_end lookahead_at sees take_token take_lifetime take_mark take_group before rows_for rows run parse_rule
impl_type_border_22 = not_read impl_type _ refl

-- `\(\) type type = ! ;`: nothing is read
impl_type_border_23 : NotDerived (rule impl_type)
    (group None (at 0 2) (at 2 4) end (leaf (ident w_type) (at 5 9) (leaf (ident w_type) (at 10 14) (punct 61 false (at 15 16) (punct 33 false (at 17 18) (punct 59 false (at 19 20) end))))))
unfolding left is_end lookahead_at sees take_token take_lifetime take_mark take_group before rows_for rows run parse_rule
impl_type_border_23 = not_read impl_type _ refl

-- `type ; auto = auto ;`: nothing is read
impl_type_border_24 : NotDerived (rule impl_type)
    (leaf (ident w_type) (at 0 4) (punct 59 false (at 5 6) (leaf (ident w_auto) (at 7 11) (punct 61 false (at 12 13) (leaf (ident w_auto) (at 14 18) (punct 59 false (at 19 20) end))))))
unfolding left is_end lookahead_at sees take_token take_lifetime take_mark take_group before rows_for rows run parse_rule
impl_type_border_24 = not_read impl_type _ refl

-- `type = default = ! ;`: nothing is read
impl_type_border_25 : NotDerived (rule impl_type)
    (leaf (ident w_type) (at 0 4) (punct 61 false (at 5 6) (leaf (ident w_default) (at 7 14) (punct 61 false (at 15 16) (punct 33 false (at 17 18) (punct 59 false (at 19 20) end))))))
unfolding left is_end lookahead_at sees take_token take_lifetime take_mark take_group before rows_for rows run parse_rule
impl_type_border_25 = not_read impl_type _ refl

-- `type auto ; = auto ;`: nothing is read
impl_type_border_26 : NotDerived (rule impl_type)
    (leaf (ident w_type) (at 0 4) (leaf (ident w_auto) (at 5 9) (punct 59 false (at 10 11) (punct 61 false (at 12 13) (leaf (ident w_auto) (at 14 18) (punct 59 false (at 19 20) end))))))
unfolding left is_end lookahead_at sees take_token take_lifetime take_mark take_group before rows_for rows run parse_rule
impl_type_border_26 = not_read impl_type _ refl

-- `type auto = ; auto ;`: nothing is read
impl_type_border_27 : NotDerived (rule impl_type)
    (leaf (ident w_type) (at 0 4) (leaf (ident w_auto) (at 5 9) (punct 61 false (at 10 11) (punct 59 false (at 12 13) (leaf (ident w_auto) (at 14 18) (punct 59 false (at 19 20) end))))))
unfolding left is_end lookahead_at sees take_token take_lifetime take_mark take_group before rows_for rows run parse_rule
impl_type_border_27 = not_read impl_type _ refl

-- `type auto = auto ; ;` prints `type auto = auto ;` and leaves `;`
impl_type_border_28 : DerivesAs impl_type
    (leaf (ident w_type) (at 0 4) (leaf (ident w_auto) (at 5 9) (punct 61 false (at 10 11) (leaf (ident w_auto) (at 12 16) (punct 59 false (at 17 18) (punct 59 false (at 19 20) end))))))
    (leaf (ident w_type) call_site (leaf (ident w_auto) call_site (punct 61 false call_site (leaf (ident w_auto) call_site (punct 59 false call_site end)))))
    (punct 59 false (at 19 20) end)
unfolding left is_end lookahead_at sees take_token take_lifetime take_mark take_group before rows_for rows run parse_rule
impl_type_border_28 = computed impl_type _ _ _ refl

-- `type auto = () ; type` prints `type auto = () ;` and leaves `type`
impl_type_border_29 : DerivesAs impl_type
    (leaf (ident w_type) (at 0 4) (leaf (ident w_auto) (at 5 9) (punct 61 false (at 10 11) (group Paren (at 12 13) (at 13 14) end (punct 59 false (at 15 16) (leaf (ident w_type) (at 17 21) end))))))
    (leaf (ident w_type) call_site (leaf (ident w_auto) call_site (punct 61 false call_site (group Paren call_site call_site end (punct 59 false call_site end)))))
    (leaf (ident w_type) (at 17 21) end)
unfolding left is_end lookahead_at sees take_token take_lifetime take_mark take_group before rows_for rows run parse_rule
impl_type_border_29 = computed impl_type _ _ _ refl

-- `type auto = default ;` prints `type auto = default ;`
impl_type_border_30 : DerivesAs impl_type
    (leaf (ident w_type) (at 0 4) (leaf (ident w_auto) (at 5 9) (punct 61 false (at 10 11) (leaf (ident w_default) (at 12 19) (punct 59 false (at 20 21) end)))))
    (leaf (ident w_type) call_site (leaf (ident w_auto) call_site (punct 61 false call_site (leaf (ident w_default) call_site (punct 59 false call_site end)))))
    (end)
unfolding left is_end lookahead_at sees take_token take_lifetime take_mark take_group before rows_for rows run parse_rule
impl_type_border_30 = computed impl_type _ _ _ refl

-- `< > type auto = auto ;`: nothing is read
impl_type_border_31 : NotDerived (rule impl_type)
    (punct 60 false (at 0 1) (punct 62 false (at 2 3) (leaf (ident w_type) (at 4 8) (leaf (ident w_auto) (at 9 13) (punct 61 false (at 14 15) (leaf (ident w_auto) (at 16 20) (punct 59 false (at 21 22) end)))))))
unfolding left is_end lookahead_at sees take_token take_lifetime take_mark take_group before rows_for rows run parse_rule
impl_type_border_31 = not_read impl_type _ refl

-- `\(\) type safe == () ;`: nothing is read
impl_type_border_32 : NotDerived (rule impl_type)
    (group None (at 0 2) (at 2 4) end (leaf (ident w_type) (at 5 9) (leaf (ident w_safe) (at 10 14) (punct 61 true (at 15 16) (punct 61 false (at 16 17) (group Paren (at 18 19) (at 19 20) end (punct 59 false (at 21 22) end)))))))
unfolding left is_end lookahead_at sees take_token take_lifetime take_mark take_group before rows_for rows run parse_rule
impl_type_border_32 = not_read impl_type _ refl

-- `type < > auto = auto ;`: nothing is read
impl_type_border_33 : NotDerived (rule impl_type)
    (leaf (ident w_type) (at 0 4) (punct 60 false (at 5 6) (punct 62 false (at 7 8) (leaf (ident w_auto) (at 9 13) (punct 61 false (at 14 15) (leaf (ident w_auto) (at 16 20) (punct 59 false (at 21 22) end)))))))
unfolding left is_end lookahead_at sees take_token take_lifetime take_mark take_group before rows_for rows run parse_rule
impl_type_border_33 = not_read impl_type _ refl

-- `type auto = < > auto ;`: nothing is read
impl_type_border_34 : NotDerived (rule impl_type)
    (leaf (ident w_type) (at 0 4) (leaf (ident w_auto) (at 5 9) (punct 61 false (at 10 11) (punct 60 false (at 12 13) (punct 62 false (at 14 15) (leaf (ident w_auto) (at 16 20) (punct 59 false (at 21 22) end)))))))
unfolding left is_end lookahead_at sees take_token take_lifetime take_mark take_group before rows_for rows run parse_rule
impl_type_border_34 = not_read impl_type _ refl

-- `type auto = auto ; < >` prints `type auto = auto ;` and leaves `< >`
impl_type_border_35 : DerivesAs impl_type
    (leaf (ident w_type) (at 0 4) (leaf (ident w_auto) (at 5 9) (punct 61 false (at 10 11) (leaf (ident w_auto) (at 12 16) (punct 59 false (at 17 18) (punct 60 false (at 19 20) (punct 62 false (at 21 22) end)))))))
    (leaf (ident w_type) call_site (leaf (ident w_auto) call_site (punct 61 false call_site (leaf (ident w_auto) call_site (punct 59 false call_site end)))))
    (punct 60 false (at 19 20) (punct 62 false (at 21 22) end))
unfolding left is_end lookahead_at sees take_token take_lifetime take_mark take_group before rows_for rows run parse_rule
impl_type_border_35 = computed impl_type _ _ _ refl

-- `type auto = auto ; = c` prints `type auto = auto ;` and leaves `= c`
impl_type_border_36 : DerivesAs impl_type
    (leaf (ident w_type) (at 0 4) (leaf (ident w_auto) (at 5 9) (punct 61 false (at 10 11) (leaf (ident w_auto) (at 12 16) (punct 59 false (at 17 18) (punct 61 false (at 19 20) (leaf (ident (99 ∷ [])) (at 21 22) end)))))))
    (leaf (ident w_type) call_site (leaf (ident w_auto) call_site (punct 61 false call_site (leaf (ident w_auto) call_site (punct 59 false call_site end)))))
    (punct 61 false (at 19 20) (leaf (ident (99 ∷ [])) (at 21 22) end))
unfolding left is_end lookahead_at sees take_token take_lifetime take_mark take_group before rows_for rows run parse_rule
impl_type_border_36 = computed impl_type _ _ _ refl

-- `type auto = auto ; pub` prints `type auto = auto ;` and leaves `pub`
impl_type_border_37 : DerivesAs impl_type
    (leaf (ident w_type) (at 0 4) (leaf (ident w_auto) (at 5 9) (punct 61 false (at 10 11) (leaf (ident w_auto) (at 12 16) (punct 59 false (at 17 18) (leaf (ident w_pub) (at 19 22) end))))))
    (leaf (ident w_type) call_site (leaf (ident w_auto) call_site (punct 61 false call_site (leaf (ident w_auto) call_site (punct 59 false call_site end)))))
    (leaf (ident w_pub) (at 19 22) end)
unfolding left is_end lookahead_at sees take_token take_lifetime take_mark take_group before rows_for rows run parse_rule
impl_type_border_37 = computed impl_type _ _ _ refl

-- `type auto = auto pub ;`: nothing is read
impl_type_border_38 : NotDerived (rule impl_type)
    (leaf (ident w_type) (at 0 4) (leaf (ident w_auto) (at 5 9) (punct 61 false (at 10 11) (leaf (ident w_auto) (at 12 16) (leaf (ident w_pub) (at 17 20) (punct 59 false (at 21 22) end))))))
unfolding left is_end lookahead_at sees take_token take_lifetime take_mark take_group before rows_for rows run parse_rule
impl_type_border_38 = not_read impl_type _ refl

-- `type auto = pub auto ;`: nothing is read
impl_type_border_39 : NotDerived (rule impl_type)
    (leaf (ident w_type) (at 0 4) (leaf (ident w_auto) (at 5 9) (punct 61 false (at 10 11) (leaf (ident w_pub) (at 12 15) (leaf (ident w_auto) (at 16 20) (punct 59 false (at 21 22) end))))))
unfolding left is_end lookahead_at sees take_token take_lifetime take_mark take_group before rows_for rows run parse_rule
impl_type_border_39 = not_read impl_type _ refl

-- `type auto pub = auto ;`: nothing is read
impl_type_border_40 : NotDerived (rule impl_type)
    (leaf (ident w_type) (at 0 4) (leaf (ident w_auto) (at 5 9) (leaf (ident w_pub) (at 10 13) (punct 61 false (at 14 15) (leaf (ident w_auto) (at 16 20) (punct 59 false (at 21 22) end))))))
unfolding left is_end lookahead_at sees take_token take_lifetime take_mark take_group before rows_for rows run parse_rule
impl_type_border_40 = not_read impl_type _ refl

-- `type pub auto = auto ;`: nothing is read
impl_type_border_41 : NotDerived (rule impl_type)
    (leaf (ident w_type) (at 0 4) (leaf (ident w_pub) (at 5 8) (leaf (ident w_auto) (at 9 13) (punct 61 false (at 14 15) (leaf (ident w_auto) (at 16 20) (punct 59 false (at 21 22) end))))))
unfolding left is_end lookahead_at sees take_token take_lifetime take_mark take_group before rows_for rows run parse_rule
impl_type_border_41 = not_read impl_type _ refl

-- `type union = super = ;`: nothing is read
impl_type_border_42 : NotDerived (rule impl_type)
    (leaf (ident w_type) (at 0 4) (leaf (ident w_union) (at 5 10) (punct 61 false (at 11 12) (leaf (ident w_super) (at 13 18) (punct 61 false (at 19 20) (punct 59 false (at 21 22) end))))))
unfolding left is_end lookahead_at sees take_token take_lifetime take_mark take_group before rows_for rows run parse_rule
impl_type_border_42 = not_read impl_type _ refl

-- `type default = type ! ;`: nothing is read
impl_type_border_43 : NotDerived (rule impl_type)
    (leaf (ident w_type) (at 0 4) (leaf (ident w_default) (at 5 12) (punct 61 false (at 13 14) (leaf (ident w_type) (at 15 19) (punct 33 false (at 20 21) (punct 59 false (at 22 23) end))))))
unfolding left is_end lookahead_at sees take_token take_lifetime take_mark take_group before rows_for rows run parse_rule
impl_type_border_43 = not_read impl_type _ refl

-- `type type auto = auto ;`: nothing is read
impl_type_border_44 : NotDerived (rule impl_type)
    (leaf (ident w_type) (at 0 4) (leaf (ident w_type) (at 5 9) (leaf (ident w_auto) (at 10 14) (punct 61 false (at 15 16) (leaf (ident w_auto) (at 17 21) (punct 59 false (at 22 23) end))))))
unfolding left is_end lookahead_at sees take_token take_lifetime take_mark take_group before rows_for rows run parse_rule
impl_type_border_44 = not_read impl_type _ refl

-- `type auto = auto ; where` prints `type auto = auto ;` and leaves `where`
impl_type_border_45 : DerivesAs impl_type
    (leaf (ident w_type) (at 0 4) (leaf (ident w_auto) (at 5 9) (punct 61 false (at 10 11) (leaf (ident w_auto) (at 12 16) (punct 59 false (at 17 18) (leaf (ident w_where) (at 19 24) end))))))
    (leaf (ident w_type) call_site (leaf (ident w_auto) call_site (punct 61 false call_site (leaf (ident w_auto) call_site (punct 59 false call_site end)))))
    (leaf (ident w_where) (at 19 24) end)
unfolding left is_end lookahead_at sees take_token take_lifetime take_mark take_group before rows_for rows run parse_rule
impl_type_border_45 = computed impl_type _ _ _ refl

-- `type auto = auto ; default` prints `type auto = auto ;` and leaves `default`
impl_type_border_46 : DerivesAs impl_type
    (leaf (ident w_type) (at 0 4) (leaf (ident w_auto) (at 5 9) (punct 61 false (at 10 11) (leaf (ident w_auto) (at 12 16) (punct 59 false (at 17 18) (leaf (ident w_default) (at 19 26) end))))))
    (leaf (ident w_type) call_site (leaf (ident w_auto) call_site (punct 61 false call_site (leaf (ident w_auto) call_site (punct 59 false call_site end)))))
    (leaf (ident w_default) (at 19 26) end)
unfolding left is_end lookahead_at sees take_token take_lifetime take_mark take_group before rows_for rows run parse_rule
impl_type_border_46 = computed impl_type _ _ _ refl

-- `type auto = auto default ;`: nothing is read
impl_type_border_47 : NotDerived (rule impl_type)
    (leaf (ident w_type) (at 0 4) (leaf (ident w_auto) (at 5 9) (punct 61 false (at 10 11) (leaf (ident w_auto) (at 12 16) (leaf (ident w_default) (at 17 24) (punct 59 false (at 25 26) end))))))
unfolding left is_end lookahead_at sees take_token take_lifetime take_mark take_group before rows_for rows run parse_rule
impl_type_border_47 = not_read impl_type _ refl

-- `type auto default = auto ;`: nothing is read
impl_type_border_48 : NotDerived (rule impl_type)
    (leaf (ident w_type) (at 0 4) (leaf (ident w_auto) (at 5 9) (leaf (ident w_default) (at 10 17) (punct 61 false (at 18 19) (leaf (ident w_auto) (at 20 24) (punct 59 false (at 25 26) end))))))
unfolding left is_end lookahead_at sees take_token take_lifetime take_mark take_group before rows_for rows run parse_rule
impl_type_border_48 = not_read impl_type _ refl

-- `pub pub type auto = union ;`: nothing is read
impl_type_border_49 : NotDerived (rule impl_type)
    (leaf (ident w_pub) (at 0 3) (leaf (ident w_pub) (at 4 7) (leaf (ident w_type) (at 8 12) (leaf (ident w_auto) (at 13 17) (punct 61 false (at 18 19) (leaf (ident w_union) (at 20 25) (punct 59 false (at 26 27) end)))))))
unfolding left is_end lookahead_at sees take_token take_lifetime take_mark take_group before rows_for rows run parse_rule
impl_type_border_49 = not_read impl_type _ refl

-- `type safe type =union ;safe`: nothing is read
impl_type_border_50 : NotDerived (rule impl_type)
    (leaf (ident w_type) (at 0 4) (leaf (ident w_safe) (at 5 9) (leaf (ident w_type) (at 10 14) (punct 61 false (at 15 16) (leaf (ident w_union) (at 16 21) (punct 59 false (at 22 23) (leaf (ident w_safe) (at 23 27) end)))))))
unfolding left is_end lookahead_at sees take_token take_lifetime take_mark take_group before rows_for rows run parse_rule
impl_type_border_50 = not_read impl_type _ refl

-- `# [c] pub type auto = union ;` prints `# [c] pub type auto = union ;`
impl_type_border_51 : DerivesAs impl_type
    (punct 35 false (at 0 1) (group Bracket (at 2 3) (at 4 5) (leaf (ident (99 ∷ [])) (at 3 4) end) (leaf (ident w_pub) (at 6 9) (leaf (ident w_type) (at 10 14) (leaf (ident w_auto) (at 15 19) (punct 61 false (at 20 21) (leaf (ident w_union) (at 22 27) (punct 59 false (at 28 29) end))))))))
    (punct 35 false call_site (group Bracket call_site call_site (leaf (ident (99 ∷ [])) call_site end) (leaf (ident w_pub) call_site (leaf (ident w_type) call_site (leaf (ident w_auto) call_site (punct 61 false call_site (leaf (ident w_union) call_site (punct 59 false call_site end))))))))
    (end)
unfolding left is_end lookahead_at sees take_token take_lifetime take_mark take_group before rows_for rows run parse_rule
impl_type_border_51 = computed impl_type _ _ _ refl

-- `pub # [c] type auto = union ;`: nothing is read
impl_type_border_52 : NotDerived (rule impl_type)
    (leaf (ident w_pub) (at 0 3) (punct 35 false (at 4 5) (group Bracket (at 6 7) (at 8 9) (leaf (ident (99 ∷ [])) (at 7 8) end) (leaf (ident w_type) (at 10 14) (leaf (ident w_auto) (at 15 19) (punct 61 false (at 20 21) (leaf (ident w_union) (at 22 27) (punct 59 false (at 28 29) end))))))))
unfolding left is_end lookahead_at sees take_token take_lifetime take_mark take_group before rows_for rows run parse_rule
impl_type_border_52 = not_read impl_type _ refl

-- `default pub type auto = default ;`: nothing is read
impl_type_border_53 : NotDerived (rule impl_type)
    (leaf (ident w_default) (at 0 7) (leaf (ident w_pub) (at 8 11) (leaf (ident w_type) (at 12 16) (leaf (ident w_auto) (at 17 21) (punct 61 false (at 22 23) (leaf (ident w_default) (at 24 31) (punct 59 false (at 32 33) end)))))))
unfolding left is_end lookahead_at sees take_token take_lifetime take_mark take_group before rows_for rows run parse_rule
impl_type_border_53 = not_read impl_type _ refl

-- `default type default = [union] type ;`: nothing is read
impl_type_border_54 : NotDerived (rule impl_type)
    (leaf (ident w_default) (at 0 7) (leaf (ident w_type) (at 8 12) (leaf (ident w_default) (at 13 20) (punct 61 false (at 21 22) (group Bracket (at 23 24) (at 29 30) (leaf (ident w_union) (at 24 29) end) (leaf (ident w_type) (at 31 35) (punct 59 false (at 36 37) end)))))))
unfolding left is_end lookahead_at sees take_token take_lifetime take_mark take_group before rows_for rows run parse_rule
impl_type_border_54 = not_read impl_type _ refl

-- `# [a] default default b < c > = d where e : f ;`: nothing is read
impl_type_border_55 : NotDerived (rule impl_type)
    (punct 35 false (at 0 1) (group Bracket (at 2 3) (at 4 5) (leaf (ident (97 ∷ [])) (at 3 4) end) (leaf (ident w_default) (at 6 13) (leaf (ident w_default) (at 14 21) (leaf (ident (98 ∷ [])) (at 22 23) (punct 60 false (at 24 25) (leaf (ident (99 ∷ [])) (at 26 27) (punct 62 false (at 28 29) (punct 61 false (at 30 31) (leaf (ident (100 ∷ [])) (at 32 33) (leaf (ident w_where) (at 34 39) (leaf (ident (101 ∷ [])) (at 40 41) (punct 58 false (at 42 43) (leaf (ident (102 ∷ [])) (at 44 45) (punct 59 false (at 46 47) end)))))))))))))))
unfolding left is_end lookahead_at sees take_token take_lifetime take_mark take_group before rows_for rows run parse_rule
impl_type_border_55 = not_read impl_type _ refl

-- `# [a] default type b < > < c > = d where e : f ;`: nothing is read
impl_type_border_56 : NotDerived (rule impl_type)
    (punct 35 false (at 0 1) (group Bracket (at 2 3) (at 4 5) (leaf (ident (97 ∷ [])) (at 3 4) end) (leaf (ident w_default) (at 6 13) (leaf (ident w_type) (at 14 18) (leaf (ident (98 ∷ [])) (at 19 20) (punct 60 false (at 21 22) (punct 62 false (at 23 24) (punct 60 false (at 25 26) (leaf (ident (99 ∷ [])) (at 27 28) (punct 62 false (at 29 30) (punct 61 false (at 31 32) (leaf (ident (100 ∷ [])) (at 33 34) (leaf (ident w_where) (at 35 40) (leaf (ident (101 ∷ [])) (at 41 42) (punct 58 false (at 43 44) (leaf (ident (102 ∷ [])) (at 45 46) (punct 59 false (at 47 48) end)))))))))))))))))
unfolding left is_end lookahead_at sees take_token take_lifetime take_mark take_group before rows_for rows run parse_rule
impl_type_border_56 = not_read impl_type _ refl

-- `# [a] default type b < c > = d where e : f where ;`: nothing is read
impl_type_border_57 : NotDerived (rule impl_type)
    (punct 35 false (at 0 1) (group Bracket (at 2 3) (at 4 5) (leaf (ident (97 ∷ [])) (at 3 4) end) (leaf (ident w_default) (at 6 13) (leaf (ident w_type) (at 14 18) (leaf (ident (98 ∷ [])) (at 19 20) (punct 60 false (at 21 22) (leaf (ident (99 ∷ [])) (at 23 24) (punct 62 false (at 25 26) (punct 61 false (at 27 28) (leaf (ident (100 ∷ [])) (at 29 30) (leaf (ident w_where) (at 31 36) (leaf (ident (101 ∷ [])) (at 37 38) (punct 58 false (at 39 40) (leaf (ident (102 ∷ [])) (at 41 42) (leaf (ident w_where) (at 43 48) (punct 59 false (at 49 50) end))))))))))))))))
unfolding left is_end lookahead_at sees take_token take_lifetime take_mark take_group before rows_for rows run parse_rule
impl_type_border_57 = not_read impl_type _ refl

-- `# [a] default default type b < c > = d where e : f ;`: nothing is read
impl_type_border_58 : NotDerived (rule impl_type)
    (punct 35 false (at 0 1) (group Bracket (at 2 3) (at 4 5) (leaf (ident (97 ∷ [])) (at 3 4) end) (leaf (ident w_default) (at 6 13) (leaf (ident w_default) (at 14 21) (leaf (ident w_type) (at 22 26) (leaf (ident (98 ∷ [])) (at 27 28) (punct 60 false (at 29 30) (leaf (ident (99 ∷ [])) (at 31 32) (punct 62 false (at 33 34) (punct 61 false (at 35 36) (leaf (ident (100 ∷ [])) (at 37 38) (leaf (ident w_where) (at 39 44) (leaf (ident (101 ∷ [])) (at 45 46) (punct 58 false (at 47 48) (leaf (ident (102 ∷ [])) (at 49 50) (punct 59 false (at 51 52) end))))))))))))))))
unfolding left is_end lookahead_at sees take_token take_lifetime take_mark take_group before rows_for rows run parse_rule
impl_type_border_58 = not_read impl_type _ refl

-- `! {!}`: nothing is read
impl_macro_border_1 : NotDerived (rule impl_macro)
    (punct 33 false (at 0 1) (group Brace (at 2 3) (at 4 5) (punct 33 false (at 3 4) end) end))
unfolding left is_end lookahead_at sees take_token take_lifetime take_mark take_group before rows_for rows run parse_rule
impl_macro_border_1 = not_read impl_macro _ refl

-- `Self ! {&} b` prints `Self ! {&}` and leaves `b`
impl_macro_border_2 : DerivesAs impl_macro
    (leaf (ident w_Self_type) (at 0 4) (punct 33 false (at 5 6) (group Brace (at 7 8) (at 9 10) (punct 38 false (at 8 9) end) (leaf (ident (98 ∷ [])) (at 11 12) end))))
    (leaf (ident w_Self_type) call_site (punct 33 false call_site (group Brace call_site call_site (punct 38 false call_site end) end)))
    (leaf (ident (98 ∷ [])) (at 11 12) end)
unfolding left is_end lookahead_at sees take_token take_lifetime take_mark take_group before rows_for rows run parse_rule
impl_macro_border_2 = computed impl_macro _ _ _ refl

-- `# [c] Self ! {&}` prints `# [c] Self ! {&}`
impl_macro_border_3 : DerivesAs impl_macro
    (punct 35 false (at 0 1) (group Bracket (at 2 3) (at 4 5) (leaf (ident (99 ∷ [])) (at 3 4) end) (leaf (ident w_Self_type) (at 6 10) (punct 33 false (at 11 12) (group Brace (at 13 14) (at 15 16) (punct 38 false (at 14 15) end) end)))))
    (punct 35 false call_site (group Bracket call_site call_site (leaf (ident (99 ∷ [])) call_site end) (leaf (ident w_Self_type) call_site (punct 33 false call_site (group Brace call_site call_site (punct 38 false call_site end) end)))))
    (end)
unfolding left is_end lookahead_at sees take_token take_lifetime take_mark take_group before rows_for rows run parse_rule
impl_macro_border_3 = computed impl_macro _ _ _ refl

-- `Self ! {&} # [c]` prints `Self ! {&}` and leaves `# [c]`
impl_macro_border_4 : DerivesAs impl_macro
    (leaf (ident w_Self_type) (at 0 4) (punct 33 false (at 5 6) (group Brace (at 7 8) (at 9 10) (punct 38 false (at 8 9) end) (punct 35 false (at 11 12) (group Bracket (at 13 14) (at 15 16) (leaf (ident (99 ∷ [])) (at 14 15) end) end)))))
    (leaf (ident w_Self_type) call_site (punct 33 false call_site (group Brace call_site call_site (punct 38 false call_site end) end)))
    (punct 35 false (at 11 12) (group Bracket (at 13 14) (at 15 16) (leaf (ident (99 ∷ [])) (at 14 15) end) end))
unfolding left is_end lookahead_at sees take_token take_lifetime take_mark take_group before rows_for rows run parse_rule
impl_macro_border_4 = computed impl_macro _ _ _ refl

-- `auto !{}` prints `auto ! {}`
impl_item_border_1 : DerivesAs impl_item
    (leaf (ident w_auto) (at 0 4) (punct 33 false (at 5 6) (group Brace (at 6 7) (at 7 8) end end)))
    (leaf (ident w_auto) call_site (punct 33 false call_site (group Brace call_site call_site end end)))
    (end)
unfolding left is_end lookahead_at sees take_token take_lifetime take_mark take_group before first_span rows_for rows run parse_rule
impl_item_border_1 = computed impl_item _ _ _ refl

-- `fn a () {}` prints `fn a () {}`
impl_item_border_2 : DerivesAs impl_item
    (leaf (ident w_fn) (at 0 2) (leaf (ident (97 ∷ [])) (at 3 4) (group Paren (at 5 6) (at 6 7) end (group Brace (at 8 9) (at 9 10) end end))))
    (leaf (ident w_fn) call_site (leaf (ident (97 ∷ [])) call_site (group Paren call_site call_site end (group Brace call_site call_site end end))))
    (end)
unfolding left is_end lookahead_at sees take_token take_lifetime take_mark take_group before first_span rows_for rows run parse_rule
impl_item_border_2 = computed impl_item _ _ _ refl

-- `type auto ; b` prints `type auto ;` and leaves `b`
impl_item_border_3 : DerivesAs impl_item
    (leaf (ident w_type) (at 0 4) (leaf (ident w_auto) (at 5 9) (punct 59 false (at 10 11) (leaf (ident (98 ∷ [])) (at 12 13) end))))
    (leaf (ident w_type) call_site (leaf (ident w_auto) call_site (punct 59 false call_site end)))
    (leaf (ident (98 ∷ [])) (at 12 13) end)
unfolding left is_end lookahead_at sees take_token take_lifetime take_mark take_group before first_span rows_for rows run parse_rule
impl_item_border_3 = computed impl_item _ _ _ refl

-- `const _ : ! = 'c' ;` prints `const _ : ! = 'c' ;`
impl_item_border_4 : DerivesAs impl_item
    (leaf (ident w_const) (at 0 5) (leaf (ident w_underscore) (at 6 7) (punct 58 false (at 8 9) (punct 33 false (at 10 11) (punct 61 false (at 12 13) (leaf (literal Char (39 ∷ 99 ∷ 39 ∷ [])) (at 14 17) (punct 59 false (at 18 19) end)))))))
    (leaf (ident w_const) call_site (leaf (ident w_underscore) call_site (punct 58 false call_site (punct 33 false call_site (punct 61 false call_site (leaf (literal Char (39 ∷ 99 ∷ 39 ∷ [])) call_site (punct 59 false call_site end)))))))
    (end)
unfolding left is_end lookahead_at sees take_token take_lifetime take_mark take_group before first_span rows_for rows run parse_rule
impl_item_border_4 = computed impl_item _ _ _ refl

-- `type a ;` prints `type a ;`
impl_items_border_1 : DerivesAs impl_items
    (leaf (ident w_type) (at 0 4) (leaf (ident (97 ∷ [])) (at 5 6) (punct 59 false (at 7 8) end)))
    (leaf (ident w_type) call_site (leaf (ident (97 ∷ [])) call_site (punct 59 false call_site end)))
    (end)
unfolding left is_end lookahead_at sees take_token take_lifetime take_mark take_group before first_span rows_for rows run parse_rule
impl_items_border_1 = computed impl_items _ _ _ refl
