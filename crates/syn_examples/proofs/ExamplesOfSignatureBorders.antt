-- Written by tools/grammar.py from specs/Table.antt; edits are lost.
-- Worked examples of borders of functions, their parameters and modifiers, from tools/examples.txt: what each rule reads, prints and refuses. The checker computes each.
use Rattle.std.proofs.Common.{true, false, [], ◌∷◌, refl}
use Rattle.syn_grammar.specs.Words.{w_underscore, w_async, w_const, w_crate, w_else, w_extern, w_fn, w_mut, w_pub, w_Self_type, w_self, w_super, w_unsafe, w_where, w_union, w_auto, w_default, w_safe}
use Rattle.syn_grammar.specs.Tokens.{call_site, Paren, Brace, Bracket, Str, Int, ident, literal, end, leaf, punct, group}
use Rattle.syn_grammar.specs.Rules.{receiver, receiver_rest, argument, inputs, later_inputs, input_rest, variadic, abi, unsafe_only, safe_or_unsafe, signature, signature_rest, function_rest, foreign_signature}
use Rattle.syn_grammar.specs.Grammar.{rule}
use Rattle.syn_grammar.specs.Take.{left, is_end, lookahead_at, sees, take_token, take_lifetime, take_mark, take_group, before, first_span}
use Rattle.syn_grammar.specs.Run.{rows_for, rows, run, parse_rule}
use Rattle.syn_grammar.specs.Promises.{NotDerived}
use Rattle.syn_grammar.proofs.Shown.{at, DerivesAs, computed, not_read}

-- `self self` prints `self` and leaves `self`
receiver_border_1 : DerivesAs receiver
    (leaf (ident w_self) (at 0 4) (leaf (ident w_self) (at 5 9) end))
    (leaf (ident w_self) call_site end)
    (leaf (ident w_self) (at 5 9) end)
unfolding left is_end lookahead_at sees take_token take_lifetime take_mark take_group before rows_for rows run parse_rule
receiver_border_1 = computed receiver _ _ _ refl

-- `self # [c]` prints `self` and leaves `# [c]`
receiver_border_2 : DerivesAs receiver
    (leaf (ident w_self) (at 0 4) (punct 35 false (at 5 6) (group Bracket (at 7 8) (at 9 10) (leaf (ident (99 ∷ [])) (at 8 9) end) end)))
    (leaf (ident w_self) call_site end)
    (punct 35 false (at 5 6) (group Bracket (at 7 8) (at 9 10) (leaf (ident (99 ∷ [])) (at 8 9) end) end))
unfolding left is_end lookahead_at sees take_token take_lifetime take_mark take_group before rows_for rows run parse_rule
receiver_border_2 = computed receiver _ _ _ refl

-- `* self`: nothing is read
receiver_rest_border_1 : NotDerived (rule receiver_rest)
    (punct 42 false (at 0 1) (leaf (ident w_self) (at 2 6) end))
unfolding left is_end lookahead_at sees take_token take_lifetime take_mark take_group before rows_for rows run parse_rule
receiver_rest_border_1 = not_read receiver_rest _ refl

-- `self :`: nothing is read
receiver_rest_border_2 : NotDerived (rule receiver_rest)
    (leaf (ident w_self) (at 0 4) (punct 58 false (at 5 6) end))
unfolding left is_end lookahead_at sees take_token take_lifetime take_mark take_group before rows_for rows run parse_rule
receiver_rest_border_2 = not_read receiver_rest _ refl

-- `& & self`: nothing is read
receiver_rest_border_3 : NotDerived (rule receiver_rest)
    (punct 38 false (at 0 1) (punct 38 false (at 2 3) (leaf (ident w_self) (at 4 8) end)))
unfolding left is_end lookahead_at sees take_token take_lifetime take_mark take_group before rows_for rows run parse_rule
receiver_rest_border_3 = not_read receiver_rest _ refl

-- `& self &` prints `& self` and leaves `&`
receiver_rest_border_4 : DerivesAs receiver_rest
    (punct 38 false (at 0 1) (leaf (ident w_self) (at 2 6) (punct 38 false (at 7 8) end)))
    (punct 38 false call_site (leaf (ident w_self) call_site end))
    (punct 38 false (at 7 8) end)
unfolding left is_end lookahead_at sees take_token take_lifetime take_mark take_group before rows_for rows run parse_rule
receiver_rest_border_4 = computed receiver_rest _ _ _ refl

-- `mut self` prints `mut self`
receiver_rest_border_5 : DerivesAs receiver_rest
    (leaf (ident w_mut) (at 0 3) (leaf (ident w_self) (at 4 8) end))
    (leaf (ident w_mut) call_site (leaf (ident w_self) call_site end))
    (end)
unfolding left is_end lookahead_at sees take_token take_lifetime take_mark take_group before rows_for rows run parse_rule
receiver_rest_border_5 = computed receiver_rest _ _ _ refl

-- `self : 1`: nothing is read
receiver_rest_border_6 : NotDerived (rule receiver_rest)
    (leaf (ident w_self) (at 0 4) (punct 58 false (at 5 6) (leaf (literal Int (49 ∷ [])) (at 7 8) end)))
unfolding left is_end lookahead_at sees take_token take_lifetime take_mark take_group before rows_for rows run parse_rule
receiver_rest_border_6 = not_read receiver_rest _ refl

-- `self = c` prints `self` and leaves `= c`
receiver_rest_border_7 : DerivesAs receiver_rest
    (leaf (ident w_self) (at 0 4) (punct 61 false (at 5 6) (leaf (ident (99 ∷ [])) (at 7 8) end)))
    (leaf (ident w_self) call_site end)
    (punct 61 false (at 5 6) (leaf (ident (99 ∷ [])) (at 7 8) end))
unfolding left is_end lookahead_at sees take_token take_lifetime take_mark take_group before rows_for rows run parse_rule
receiver_rest_border_7 = computed receiver_rest _ _ _ refl

-- `self mut` prints `self` and leaves `mut`
receiver_rest_border_8 : DerivesAs receiver_rest
    (leaf (ident w_self) (at 0 4) (leaf (ident w_mut) (at 5 8) end))
    (leaf (ident w_self) call_site end)
    (leaf (ident w_mut) (at 5 8) end)
unfolding left is_end lookahead_at sees take_token take_lifetime take_mark take_group before rows_for rows run parse_rule
receiver_rest_border_8 = computed receiver_rest _ _ _ refl

-- `self self` prints `self` and leaves `self`
receiver_rest_border_9 : DerivesAs receiver_rest
    (leaf (ident w_self) (at 0 4) (leaf (ident w_self) (at 5 9) end))
    (leaf (ident w_self) call_site end)
    (leaf (ident w_self) (at 5 9) end)
unfolding left is_end lookahead_at sees take_token take_lifetime take_mark take_group before rows_for rows run parse_rule
receiver_rest_border_9 = computed receiver_rest _ _ _ refl

-- `& mut self` prints `& mut self`
receiver_rest_border_10 : DerivesAs receiver_rest
    (punct 38 false (at 0 1) (leaf (ident w_mut) (at 2 5) (leaf (ident w_self) (at 6 10) end)))
    (punct 38 false call_site (leaf (ident w_mut) call_site (leaf (ident w_self) call_site end)))
    (end)
unfolding left is_end lookahead_at sees take_token take_lifetime take_mark take_group before rows_for rows run parse_rule
receiver_rest_border_10 = computed receiver_rest _ _ _ refl

-- `& self mut` prints `& self` and leaves `mut`
receiver_rest_border_11 : DerivesAs receiver_rest
    (punct 38 false (at 0 1) (leaf (ident w_self) (at 2 6) (leaf (ident w_mut) (at 7 10) end)))
    (punct 38 false call_site (leaf (ident w_self) call_site end))
    (leaf (ident w_mut) (at 7 10) end)
unfolding left is_end lookahead_at sees take_token take_lifetime take_mark take_group before rows_for rows run parse_rule
receiver_rest_border_11 = computed receiver_rest _ _ _ refl

-- `& self self` prints `& self` and leaves `self`
receiver_rest_border_12 : DerivesAs receiver_rest
    (punct 38 false (at 0 1) (leaf (ident w_self) (at 2 6) (leaf (ident w_self) (at 7 11) end)))
    (punct 38 false call_site (leaf (ident w_self) call_site end))
    (leaf (ident w_self) (at 7 11) end)
unfolding left is_end lookahead_at sees take_token take_lifetime take_mark take_group before rows_for rows run parse_rule
receiver_rest_border_12 = computed receiver_rest _ _ _ refl

-- `mut mut self`: nothing is read
receiver_rest_border_13 : NotDerived (rule receiver_rest)
    (leaf (ident w_mut) (at 0 3) (leaf (ident w_mut) (at 4 7) (leaf (ident w_self) (at 8 12) end)))
unfolding left is_end lookahead_at sees take_token take_lifetime take_mark take_group before rows_for rows run parse_rule
receiver_rest_border_13 = not_read receiver_rest _ refl

-- `&self 'else a` prints `& self` and leaves `'else a`
receiver_rest_border_14 : DerivesAs receiver_rest
    (punct 38 false (at 0 1) (leaf (ident w_self) (at 1 5) (punct 39 true (at 6 7) (leaf (ident w_else) (at 7 11) (leaf (ident (97 ∷ [])) (at 12 13) end)))))
    (punct 38 false call_site (leaf (ident w_self) call_site end))
    (punct 39 true (at 6 7) (leaf (ident w_else) (at 7 11) (leaf (ident (97 ∷ [])) (at 12 13) end)))
unfolding left is_end lookahead_at sees take_token take_lifetime take_mark take_group before rows_for rows run parse_rule
receiver_rest_border_14 = computed receiver_rest _ _ _ refl

-- `& mut mut self`: nothing is read
receiver_rest_border_15 : NotDerived (rule receiver_rest)
    (punct 38 false (at 0 1) (leaf (ident w_mut) (at 2 5) (leaf (ident w_mut) (at 6 9) (leaf (ident w_self) (at 10 14) end))))
unfolding left is_end lookahead_at sees take_token take_lifetime take_mark take_group before rows_for rows run parse_rule
receiver_rest_border_15 = not_read receiver_rest _ refl

-- `self : : default`: nothing is read
receiver_rest_border_16 : NotDerived (rule receiver_rest)
    (leaf (ident w_self) (at 0 4) (punct 58 false (at 5 6) (punct 58 false (at 7 8) (leaf (ident w_default) (at 9 16) end))))
unfolding left is_end lookahead_at sees take_token take_lifetime take_mark take_group before rows_for rows run parse_rule
receiver_rest_border_16 = not_read receiver_rest _ refl

-- `self : () default` prints `self : ()` and leaves `default`
receiver_rest_border_17 : DerivesAs receiver_rest
    (leaf (ident w_self) (at 0 4) (punct 58 false (at 5 6) (group Paren (at 7 8) (at 8 9) end (leaf (ident w_default) (at 10 17) end))))
    (leaf (ident w_self) call_site (punct 58 false call_site (group Paren call_site call_site end end)))
    (leaf (ident w_default) (at 10 17) end)
unfolding left is_end lookahead_at sees take_token take_lifetime take_mark take_group before rows_for rows run parse_rule
receiver_rest_border_17 = computed receiver_rest _ _ _ refl

-- `& 'mut 'a mut self`: nothing is read
receiver_rest_border_18 : NotDerived (rule receiver_rest)
    (punct 38 false (at 0 1) (punct 39 true (at 2 3) (leaf (ident w_mut) (at 3 6) (punct 39 true (at 7 8) (leaf (ident (97 ∷ [])) (at 8 9) (leaf (ident w_mut) (at 10 13) (leaf (ident w_self) (at 14 18) end)))))))
unfolding left is_end lookahead_at sees take_token take_lifetime take_mark take_group before rows_for rows run parse_rule
receiver_rest_border_18 = not_read receiver_rest _ refl

-- `self : c : default` prints `self : c` and leaves `: default`
receiver_rest_border_19 : DerivesAs receiver_rest
    (leaf (ident w_self) (at 0 4) (punct 58 false (at 5 6) (leaf (ident (99 ∷ [])) (at 7 8) (punct 58 false (at 9 10) (leaf (ident w_default) (at 11 18) end)))))
    (leaf (ident w_self) call_site (punct 58 false call_site (leaf (ident (99 ∷ [])) call_site end)))
    (punct 58 false (at 9 10) (leaf (ident w_default) (at 11 18) end))
unfolding left is_end lookahead_at sees take_token take_lifetime take_mark take_group before rows_for rows run parse_rule
receiver_rest_border_19 = computed receiver_rest _ _ _ refl

-- `safe :`: nothing is read
argument_border_1 : NotDerived (rule argument)
    (leaf (ident w_safe) (at 0 4) (punct 58 false (at 5 6) end))
unfolding left is_end lookahead_at sees take_token take_lifetime take_mark take_group before first_span rows_for rows run parse_rule
argument_border_1 = not_read argument _ refl

-- `mut self` prints `mut self`
argument_border_2 : DerivesAs argument
    (leaf (ident w_mut) (at 0 3) (leaf (ident w_self) (at 4 8) end))
    (leaf (ident w_mut) call_site (leaf (ident w_self) call_site end))
    (end)
unfolding left is_end lookahead_at sees take_token take_lifetime take_mark take_group before first_span rows_for rows run parse_rule
argument_border_2 = computed argument _ _ _ refl

-- `: default`: nothing is read
argument_border_3 : NotDerived (rule argument)
    (punct 58 false (at 0 1) (leaf (ident w_default) (at 2 9) end))
unfolding left is_end lookahead_at sees take_token take_lifetime take_mark take_group before first_span rows_for rows run parse_rule
argument_border_3 = not_read argument _ refl

-- `self self` prints `self` and leaves `self`
argument_border_4 : DerivesAs argument
    (leaf (ident w_self) (at 0 4) (leaf (ident w_self) (at 5 9) end))
    (leaf (ident w_self) call_site end)
    (leaf (ident w_self) (at 5 9) end)
unfolding left is_end lookahead_at sees take_token take_lifetime take_mark take_group before first_span rows_for rows run parse_rule
argument_border_4 = computed argument _ _ _ refl

-- `b union :!`: nothing is read
argument_border_5 : NotDerived (rule argument)
    (leaf (ident (98 ∷ [])) (at 0 1) (leaf (ident w_union) (at 2 7) (punct 58 true (at 8 9) (punct 33 false (at 9 10) end))))
unfolding left is_end lookahead_at sees take_token take_lifetime take_mark take_group before first_span rows_for rows run parse_rule
argument_border_5 = not_read argument _ refl

-- `self # [c]` prints `self` and leaves `# [c]`
argument_border_6 : DerivesAs argument
    (leaf (ident w_self) (at 0 4) (punct 35 false (at 5 6) (group Bracket (at 7 8) (at 9 10) (leaf (ident (99 ∷ [])) (at 8 9) end) end)))
    (leaf (ident w_self) call_site end)
    (punct 35 false (at 5 6) (group Bracket (at 7 8) (at 9 10) (leaf (ident (99 ∷ [])) (at 8 9) end) end))
unfolding left is_end lookahead_at sees take_token take_lifetime take_mark take_group before first_span rows_for rows run parse_rule
argument_border_6 = computed argument _ _ _ refl

-- `union :! b` prints `union : !` and leaves `b`
argument_border_7 : DerivesAs argument
    (leaf (ident w_union) (at 0 5) (punct 58 true (at 6 7) (punct 33 false (at 7 8) (leaf (ident (98 ∷ [])) (at 9 10) end))))
    (leaf (ident w_union) call_site (punct 58 false call_site (punct 33 false call_site end)))
    (leaf (ident (98 ∷ [])) (at 9 10) end)
unfolding left is_end lookahead_at sees take_token take_lifetime take_mark take_group before first_span rows_for rows run parse_rule
argument_border_7 = computed argument _ _ _ refl

-- `,`: nothing is read
inputs_border_1 : NotDerived (rule inputs)
    (punct 44 false (at 0 1) end)
unfolding left is_end lookahead_at sees take_token take_lifetime take_mark take_group before first_span rows_for rows run parse_rule
inputs_border_1 = not_read inputs _ refl

-- `# [c]`: nothing is read
inputs_border_2 : NotDerived (rule inputs)
    (punct 35 false (at 0 1) (group Bracket (at 2 3) (at 4 5) (leaf (ident (99 ∷ [])) (at 3 4) end) end))
unfolding left is_end lookahead_at sees take_token take_lifetime take_mark take_group before first_span rows_for rows run parse_rule
inputs_border_2 = not_read inputs _ refl

-- `& self` prints `& self`
inputs_border_3 : DerivesAs inputs
    (punct 38 false (at 0 1) (leaf (ident w_self) (at 2 6) end))
    (punct 38 false call_site (leaf (ident w_self) call_site end))
    (end)
unfolding left is_end lookahead_at sees take_token take_lifetime take_mark take_group before first_span rows_for rows run parse_rule
inputs_border_3 = computed inputs _ _ _ refl

-- `self ,` prints `self ,`
inputs_border_4 : DerivesAs inputs
    (leaf (ident w_self) (at 0 4) (punct 44 false (at 5 6) end))
    (leaf (ident w_self) call_site (punct 44 false call_site end))
    (end)
unfolding left is_end lookahead_at sees take_token take_lifetime take_mark take_group before first_span rows_for rows run parse_rule
inputs_border_4 = computed inputs _ _ _ refl

-- `mut self` prints `mut self`
inputs_border_5 : DerivesAs inputs
    (leaf (ident w_mut) (at 0 3) (leaf (ident w_self) (at 4 8) end))
    (leaf (ident w_mut) call_site (leaf (ident w_self) call_site end))
    (end)
unfolding left is_end lookahead_at sees take_token take_lifetime take_mark take_group before first_span rows_for rows run parse_rule
inputs_border_5 = computed inputs _ _ _ refl

-- `self , , a : b ,`: nothing is read
inputs_border_6 : NotDerived (rule inputs)
    (leaf (ident w_self) (at 0 4) (punct 44 false (at 5 6) (punct 44 false (at 7 8) (leaf (ident (97 ∷ [])) (at 9 10) (punct 58 false (at 11 12) (leaf (ident (98 ∷ [])) (at 13 14) (punct 44 false (at 15 16) end)))))))
unfolding left is_end lookahead_at sees take_token take_lifetime take_mark take_group before first_span rows_for rows run parse_rule
inputs_border_6 = not_read inputs _ refl

-- `+`: nothing is read
later_inputs_border_1 : NotDerived (rule later_inputs)
    (punct 43 false (at 0 1) end)
unfolding left is_end lookahead_at sees take_token take_lifetime take_mark take_group before first_span rows_for rows run parse_rule
later_inputs_border_1 = not_read later_inputs _ refl

-- `# [c] ...` prints `# [c] ...`
later_inputs_border_2 : DerivesAs later_inputs
    (punct 35 false (at 0 1) (group Bracket (at 2 3) (at 4 5) (leaf (ident (99 ∷ [])) (at 3 4) end) (punct 46 true (at 6 7) (punct 46 true (at 7 8) (punct 46 false (at 8 9) end)))))
    (punct 35 false call_site (group Bracket call_site call_site (leaf (ident (99 ∷ [])) call_site end) (punct 46 true call_site (punct 46 true call_site (punct 46 false call_site end)))))
    (end)
unfolding left is_end lookahead_at sees take_token take_lifetime take_mark take_group before first_span rows_for rows run parse_rule
later_inputs_border_2 = computed later_inputs _ _ _ refl

-- `...` prints `...`
input_rest_border_1 : DerivesAs input_rest
    (punct 46 true (at 0 1) (punct 46 true (at 1 2) (punct 46 false (at 2 3) end)))
    (punct 46 true call_site (punct 46 true call_site (punct 46 false call_site end)))
    (end)
unfolding left is_end lookahead_at sees take_token take_lifetime take_mark take_group before first_span rows_for rows run parse_rule
input_rest_border_1 = computed input_rest _ _ _ refl

-- `: !`: nothing is read
input_rest_border_2 : NotDerived (rule input_rest)
    (punct 58 false (at 0 1) (punct 33 false (at 2 3) end))
unfolding left is_end lookahead_at sees take_token take_lifetime take_mark take_group before first_span rows_for rows run parse_rule
input_rest_border_2 = not_read input_rest _ refl

-- `_ : !` prints `_ : !`
input_rest_border_3 : DerivesAs input_rest
    (leaf (ident w_underscore) (at 0 1) (punct 58 false (at 2 3) (punct 33 false (at 4 5) end)))
    (leaf (ident w_underscore) call_site (punct 58 false call_site (punct 33 false call_site end)))
    (end)
unfolding left is_end lookahead_at sees take_token take_lifetime take_mark take_group before first_span rows_for rows run parse_rule
input_rest_border_3 = computed input_rest _ _ _ refl

-- `Self :`: nothing is read
input_rest_border_4 : NotDerived (rule input_rest)
    (leaf (ident w_Self_type) (at 0 4) (punct 58 false (at 5 6) end))
unfolding left is_end lookahead_at sees take_token take_lifetime take_mark take_group before first_span rows_for rows run parse_rule
input_rest_border_4 = not_read input_rest _ refl

-- `Self :...` prints `Self : ...`
input_rest_border_5 : DerivesAs input_rest
    (leaf (ident w_Self_type) (at 0 4) (punct 58 true (at 5 6) (punct 46 true (at 6 7) (punct 46 true (at 7 8) (punct 46 false (at 8 9) end)))))
    (leaf (ident w_Self_type) call_site (punct 58 false call_site (punct 46 true call_site (punct 46 true call_site (punct 46 false call_site end)))))
    (end)
unfolding left is_end lookahead_at sees take_token take_lifetime take_mark take_group before first_span rows_for rows run parse_rule
input_rest_border_5 = computed input_rest _ _ _ refl

-- `Self : union ,` prints `Self : union ,`
input_rest_border_6 : DerivesAs input_rest
    (leaf (ident w_Self_type) (at 0 4) (punct 58 false (at 5 6) (leaf (ident w_union) (at 7 12) (punct 44 false (at 13 14) end))))
    (leaf (ident w_Self_type) call_site (punct 58 false call_site (leaf (ident w_union) call_site (punct 44 false call_site end))))
    (end)
unfolding left is_end lookahead_at sees take_token take_lifetime take_mark take_group before first_span rows_for rows run parse_rule
input_rest_border_6 = computed input_rest _ _ _ refl

-- `a : b , , c : d`: nothing is read
input_rest_border_7 : NotDerived (rule input_rest)
    (leaf (ident (97 ∷ [])) (at 0 1) (punct 58 false (at 2 3) (leaf (ident (98 ∷ [])) (at 4 5) (punct 44 false (at 6 7) (punct 44 false (at 8 9) (leaf (ident (99 ∷ [])) (at 10 11) (punct 58 false (at 12 13) (leaf (ident (100 ∷ [])) (at 14 15) end))))))))
unfolding left is_end lookahead_at sees take_token take_lifetime take_mark take_group before first_span rows_for rows run parse_rule
input_rest_border_7 = not_read input_rest _ refl

-- `Self Self : union`: nothing is read
input_rest_border_8 : NotDerived (rule input_rest)
    (leaf (ident w_Self_type) (at 0 4) (leaf (ident w_Self_type) (at 5 9) (punct 58 false (at 10 11) (leaf (ident w_union) (at 12 17) end))))
unfolding left is_end lookahead_at sees take_token take_lifetime take_mark take_group before first_span rows_for rows run parse_rule
input_rest_border_8 = not_read input_rest _ refl

-- `super , (Self) : auto`: nothing is read
input_rest_border_9 : NotDerived (rule input_rest)
    (leaf (ident w_super) (at 0 5) (punct 44 false (at 6 7) (group Paren (at 8 9) (at 13 14) (leaf (ident w_Self_type) (at 9 13) end) (punct 58 false (at 15 16) (leaf (ident w_auto) (at 17 21) end)))))
unfolding left is_end lookahead_at sees take_token take_lifetime take_mark take_group before first_span rows_for rows run parse_rule
input_rest_border_9 = not_read input_rest _ refl

-- `,`: nothing is read
variadic_border_1 : NotDerived (rule variadic)
    (punct 44 false (at 0 1) end)
unfolding left is_end lookahead_at sees take_token take_lifetime take_mark take_group before rows_for rows run parse_rule
variadic_border_1 = not_read variadic _ refl

-- `, ...`: nothing is read
variadic_border_2 : NotDerived (rule variadic)
    (punct 44 false (at 0 1) (punct 46 true (at 2 3) (punct 46 true (at 3 4) (punct 46 false (at 4 5) end))))
unfolding left is_end lookahead_at sees take_token take_lifetime take_mark take_group before rows_for rows run parse_rule
variadic_border_2 = not_read variadic _ refl

-- `... ;`: nothing is read
variadic_border_3 : NotDerived (rule variadic)
    (punct 46 true (at 0 1) (punct 46 true (at 1 2) (punct 46 false (at 2 3) (punct 59 false (at 4 5) end))))
unfolding left is_end lookahead_at sees take_token take_lifetime take_mark take_group before rows_for rows run parse_rule
variadic_border_3 = not_read variadic _ refl

-- `... , ,`: nothing is read
variadic_border_4 : NotDerived (rule variadic)
    (punct 46 true (at 0 1) (punct 46 true (at 1 2) (punct 46 false (at 2 3) (punct 44 false (at 4 5) (punct 44 false (at 6 7) end)))))
unfolding left is_end lookahead_at sees take_token take_lifetime take_mark take_group before rows_for rows run parse_rule
variadic_border_4 = not_read variadic _ refl

-- `... ...`: nothing is read
variadic_border_5 : NotDerived (rule variadic)
    (punct 46 true (at 0 1) (punct 46 true (at 1 2) (punct 46 false (at 2 3) (punct 46 true (at 4 5) (punct 46 true (at 5 6) (punct 46 false (at 6 7) end))))))
unfolding left is_end lookahead_at sees take_token take_lifetime take_mark take_group before rows_for rows run parse_rule
variadic_border_5 = not_read variadic _ refl

-- `extern extern` prints `extern` and leaves `extern`
abi_border_1 : DerivesAs abi
    (leaf (ident w_extern) (at 0 6) (leaf (ident w_extern) (at 7 13) end))
    (leaf (ident w_extern) call_site end)
    (leaf (ident w_extern) (at 7 13) end)
unfolding left is_end lookahead_at sees take_token take_lifetime take_mark take_group before rows_for rows run parse_rule
abi_border_1 = computed abi _ _ _ refl

-- `"s" extern "s"`: nothing is read
abi_border_2 : NotDerived (rule abi)
    (leaf (literal Str (34 ∷ 115 ∷ 34 ∷ [])) (at 0 3) (leaf (ident w_extern) (at 4 10) (leaf (literal Str (34 ∷ 115 ∷ 34 ∷ [])) (at 11 14) end)))
unfolding left is_end lookahead_at sees take_token take_lifetime take_mark take_group before rows_for rows run parse_rule
abi_border_2 = not_read abi _ refl

-- `extern "C" "C"` prints `extern "C"` and leaves `"C"`
abi_border_3 : DerivesAs abi
    (leaf (ident w_extern) (at 0 6) (leaf (literal Str (34 ∷ 67 ∷ 34 ∷ [])) (at 7 10) (leaf (literal Str (34 ∷ 67 ∷ 34 ∷ [])) (at 11 14) end)))
    (leaf (ident w_extern) call_site (leaf (literal Str (34 ∷ 67 ∷ 34 ∷ [])) call_site end))
    (leaf (literal Str (34 ∷ 67 ∷ 34 ∷ [])) (at 11 14) end)
unfolding left is_end lookahead_at sees take_token take_lifetime take_mark take_group before rows_for rows run parse_rule
abi_border_3 = computed abi _ _ _ refl

-- `unsafe unsafe` prints `unsafe` and leaves `unsafe`
unsafe_only_border_1 : DerivesAs unsafe_only
    (leaf (ident w_unsafe) (at 0 6) (leaf (ident w_unsafe) (at 7 13) end))
    (leaf (ident w_unsafe) call_site end)
    (leaf (ident w_unsafe) (at 7 13) end)
unfolding left is_end lookahead_at sees take_token take_lifetime take_mark take_group before rows_for rows run parse_rule
unsafe_only_border_1 = computed unsafe_only _ _ _ refl

-- `a` prints `` and leaves `a`
safe_or_unsafe_border_1 : DerivesAs safe_or_unsafe
    (leaf (ident (97 ∷ [])) (at 0 1) end)
    (end)
    (leaf (ident (97 ∷ [])) (at 0 1) end)
unfolding left is_end lookahead_at sees take_token take_lifetime take_mark take_group before rows_for rows run parse_rule
safe_or_unsafe_border_1 = computed safe_or_unsafe _ _ _ refl

-- `safe safe` prints `safe` and leaves `safe`
safe_or_unsafe_border_2 : DerivesAs safe_or_unsafe
    (leaf (ident w_safe) (at 0 4) (leaf (ident w_safe) (at 5 9) end))
    (leaf (ident w_safe) call_site end)
    (leaf (ident w_safe) (at 5 9) end)
unfolding left is_end lookahead_at sees take_token take_lifetime take_mark take_group before rows_for rows run parse_rule
safe_or_unsafe_border_2 = computed safe_or_unsafe _ _ _ refl

-- `unsafe unsafe` prints `unsafe` and leaves `unsafe`
safe_or_unsafe_border_3 : DerivesAs safe_or_unsafe
    (leaf (ident w_unsafe) (at 0 6) (leaf (ident w_unsafe) (at 7 13) end))
    (leaf (ident w_unsafe) call_site end)
    (leaf (ident w_unsafe) (at 7 13) end)
unfolding left is_end lookahead_at sees take_token take_lifetime take_mark take_group before rows_for rows run parse_rule
safe_or_unsafe_border_3 = computed safe_or_unsafe _ _ _ refl

-- `fn a () fn` prints `fn a ()` and leaves `fn`
signature_border_1 : DerivesAs signature
    (leaf (ident w_fn) (at 0 2) (leaf (ident (97 ∷ [])) (at 3 4) (group Paren (at 5 6) (at 6 7) end (leaf (ident w_fn) (at 8 10) end))))
    (leaf (ident w_fn) call_site (leaf (ident (97 ∷ [])) call_site (group Paren call_site call_site end end)))
    (leaf (ident w_fn) (at 8 10) end)
unfolding left is_end lookahead_at sees take_token take_lifetime take_mark take_group before first_span rows_for rows run parse_rule
signature_border_1 = computed signature _ _ _ refl

-- `fn auto () async` prints `fn auto ()` and leaves `async`
signature_border_2 : DerivesAs signature
    (leaf (ident w_fn) (at 0 2) (leaf (ident w_auto) (at 3 7) (group Paren (at 8 9) (at 9 10) end (leaf (ident w_async) (at 11 16) end))))
    (leaf (ident w_fn) call_site (leaf (ident w_auto) call_site (group Paren call_site call_site end end)))
    (leaf (ident w_async) (at 11 16) end)
unfolding left is_end lookahead_at sees take_token take_lifetime take_mark take_group before first_span rows_for rows run parse_rule
signature_border_2 = computed signature _ _ _ refl

-- `fn auto () const` prints `fn auto ()` and leaves `const`
signature_border_3 : DerivesAs signature
    (leaf (ident w_fn) (at 0 2) (leaf (ident w_auto) (at 3 7) (group Paren (at 8 9) (at 9 10) end (leaf (ident w_const) (at 11 16) end))))
    (leaf (ident w_fn) call_site (leaf (ident w_auto) call_site (group Paren call_site call_site end end)))
    (leaf (ident w_const) (at 11 16) end)
unfolding left is_end lookahead_at sees take_token take_lifetime take_mark take_group before first_span rows_for rows run parse_rule
signature_border_3 = computed signature _ _ _ refl

-- `fn auto () unsafe` prints `fn auto ()` and leaves `unsafe`
signature_border_4 : DerivesAs signature
    (leaf (ident w_fn) (at 0 2) (leaf (ident w_auto) (at 3 7) (group Paren (at 8 9) (at 9 10) end (leaf (ident w_unsafe) (at 11 17) end))))
    (leaf (ident w_fn) call_site (leaf (ident w_auto) call_site (group Paren call_site call_site end end)))
    (leaf (ident w_unsafe) (at 11 17) end)
unfolding left is_end lookahead_at sees take_token take_lifetime take_mark take_group before first_span rows_for rows run parse_rule
signature_border_4 = computed signature _ _ _ refl

-- `const const fn union ()`: nothing is read
signature_border_5 : NotDerived (rule signature)
    (leaf (ident w_const) (at 0 5) (leaf (ident w_const) (at 6 11) (leaf (ident w_fn) (at 12 14) (leaf (ident w_union) (at 15 20) (group Paren (at 21 22) (at 22 23) end end)))))
unfolding left is_end lookahead_at sees take_token take_lifetime take_mark take_group before first_span rows_for rows run parse_rule
signature_border_5 = not_read signature _ refl

-- `extern extern fn auto ()`: nothing is read
signature_border_6 : NotDerived (rule signature)
    (leaf (ident w_extern) (at 0 6) (leaf (ident w_extern) (at 7 13) (leaf (ident w_fn) (at 14 16) (leaf (ident w_auto) (at 17 21) (group Paren (at 22 23) (at 23 24) end end)))))
unfolding left is_end lookahead_at sees take_token take_lifetime take_mark take_group before first_span rows_for rows run parse_rule
signature_border_6 = not_read signature _ refl

-- `async async fn default ()`: nothing is read
signature_border_7 : NotDerived (rule signature)
    (leaf (ident w_async) (at 0 5) (leaf (ident w_async) (at 6 11) (leaf (ident w_fn) (at 12 14) (leaf (ident w_default) (at 15 22) (group Paren (at 23 24) (at 24 25) end end)))))
unfolding left is_end lookahead_at sees take_token take_lifetime take_mark take_group before first_span rows_for rows run parse_rule
signature_border_7 = not_read signature _ refl

-- `unsafe unsafe fn union ()`: nothing is read
signature_border_8 : NotDerived (rule signature)
    (leaf (ident w_unsafe) (at 0 6) (leaf (ident w_unsafe) (at 7 13) (leaf (ident w_fn) (at 14 16) (leaf (ident w_union) (at 17 22) (group Paren (at 23 24) (at 24 25) end end)))))
unfolding left is_end lookahead_at sees take_token take_lifetime take_mark take_group before first_span rows_for rows run parse_rule
signature_border_8 = not_read signature _ refl

-- `const async extern fn safe () extern` prints `const async extern fn safe ()` and leaves `extern`
signature_border_9 : DerivesAs signature
    (leaf (ident w_const) (at 0 5) (leaf (ident w_async) (at 6 11) (leaf (ident w_extern) (at 12 18) (leaf (ident w_fn) (at 19 21) (leaf (ident w_safe) (at 22 26) (group Paren (at 27 28) (at 28 29) end (leaf (ident w_extern) (at 30 36) end)))))))
    (leaf (ident w_const) call_site (leaf (ident w_async) call_site (leaf (ident w_extern) call_site (leaf (ident w_fn) call_site (leaf (ident w_safe) call_site (group Paren call_site call_site end end))))))
    (leaf (ident w_extern) (at 30 36) end)
unfolding left is_end lookahead_at sees take_token take_lifetime take_mark take_group before first_span rows_for rows run parse_rule
signature_border_9 = computed signature _ _ _ refl

-- `a ()`: nothing is read
signature_rest_border_1 : NotDerived (rule signature_rest)
    (leaf (ident (97 ∷ [])) (at 0 1) (group Paren (at 2 3) (at 3 4) end end))
unfolding left is_end lookahead_at sees take_token take_lifetime take_mark take_group before first_span rows_for rows run parse_rule
signature_rest_border_1 = not_read signature_rest _ refl

-- `fn 1 ()`: nothing is read
signature_rest_border_2 : NotDerived (rule signature_rest)
    (leaf (ident w_fn) (at 0 2) (leaf (literal Int (49 ∷ [])) (at 3 4) (group Paren (at 5 6) (at 6 7) end end)))
unfolding left is_end lookahead_at sees take_token take_lifetime take_mark take_group before first_span rows_for rows run parse_rule
signature_rest_border_2 = not_read signature_rest _ refl

-- `fn _ ()`: nothing is read
signature_rest_border_3 : NotDerived (rule signature_rest)
    (leaf (ident w_fn) (at 0 2) (leaf (ident w_underscore) (at 3 4) (group Paren (at 5 6) (at 6 7) end end)))
unfolding left is_end lookahead_at sees take_token take_lifetime take_mark take_group before first_span rows_for rows run parse_rule
signature_rest_border_3 = not_read signature_rest _ refl

-- `fn a []`: nothing is read
signature_rest_border_4 : NotDerived (rule signature_rest)
    (leaf (ident w_fn) (at 0 2) (leaf (ident (97 ∷ [])) (at 3 4) (group Bracket (at 5 6) (at 6 7) end end)))
unfolding left is_end lookahead_at sees take_token take_lifetime take_mark take_group before first_span rows_for rows run parse_rule
signature_rest_border_4 = not_read signature_rest _ refl

-- `fn a {}`: nothing is read
signature_rest_border_5 : NotDerived (rule signature_rest)
    (leaf (ident w_fn) (at 0 2) (leaf (ident (97 ∷ [])) (at 3 4) (group Brace (at 5 6) (at 6 7) end end)))
unfolding left is_end lookahead_at sees take_token take_lifetime take_mark take_group before first_span rows_for rows run parse_rule
signature_rest_border_5 = not_read signature_rest _ refl

-- `fn fn ()`: nothing is read
signature_rest_border_6 : NotDerived (rule signature_rest)
    (leaf (ident w_fn) (at 0 2) (leaf (ident w_fn) (at 3 5) (group Paren (at 6 7) (at 7 8) end end)))
unfolding left is_end lookahead_at sees take_token take_lifetime take_mark take_group before first_span rows_for rows run parse_rule
signature_rest_border_6 = not_read signature_rest _ refl

-- `Self a ()`: nothing is read
signature_rest_border_7 : NotDerived (rule signature_rest)
    (leaf (ident w_Self_type) (at 0 4) (leaf (ident (97 ∷ [])) (at 5 6) (group Paren (at 7 8) (at 8 9) end end)))
unfolding left is_end lookahead_at sees take_token take_lifetime take_mark take_group before first_span rows_for rows run parse_rule
signature_rest_border_7 = not_read signature_rest _ refl

-- `b fn a ()`: nothing is read
signature_rest_border_8 : NotDerived (rule signature_rest)
    (leaf (ident (98 ∷ [])) (at 0 1) (leaf (ident w_fn) (at 2 4) (leaf (ident (97 ∷ [])) (at 5 6) (group Paren (at 7 8) (at 8 9) end end))))
unfolding left is_end lookahead_at sees take_token take_lifetime take_mark take_group before first_span rows_for rows run parse_rule
signature_rest_border_8 = not_read signature_rest _ refl

-- `fn a () b` prints `fn a ()` and leaves `b`
signature_rest_border_9 : DerivesAs signature_rest
    (leaf (ident w_fn) (at 0 2) (leaf (ident (97 ∷ [])) (at 3 4) (group Paren (at 5 6) (at 6 7) end (leaf (ident (98 ∷ [])) (at 8 9) end))))
    (leaf (ident w_fn) call_site (leaf (ident (97 ∷ [])) call_site (group Paren call_site call_site end end)))
    (leaf (ident (98 ∷ [])) (at 8 9) end)
unfolding left is_end lookahead_at sees take_token take_lifetime take_mark take_group before first_span rows_for rows run parse_rule
signature_rest_border_9 = computed signature_rest _ _ _ refl

-- `fn a a ()`: nothing is read
signature_rest_border_10 : NotDerived (rule signature_rest)
    (leaf (ident w_fn) (at 0 2) (leaf (ident (97 ∷ [])) (at 3 4) (leaf (ident (97 ∷ [])) (at 5 6) (group Paren (at 7 8) (at 8 9) end end))))
unfolding left is_end lookahead_at sees take_token take_lifetime take_mark take_group before first_span rows_for rows run parse_rule
signature_rest_border_10 = not_read signature_rest _ refl

-- `() fn a ()`: nothing is read
signature_rest_border_11 : NotDerived (rule signature_rest)
    (group Paren (at 0 1) (at 1 2) end (leaf (ident w_fn) (at 3 5) (leaf (ident (97 ∷ [])) (at 6 7) (group Paren (at 8 9) (at 9 10) end end))))
unfolding left is_end lookahead_at sees take_token take_lifetime take_mark take_group before first_span rows_for rows run parse_rule
signature_rest_border_11 = not_read signature_rest _ refl

-- `fn () a ()`: nothing is read
signature_rest_border_12 : NotDerived (rule signature_rest)
    (leaf (ident w_fn) (at 0 2) (group Paren (at 3 4) (at 4 5) end (leaf (ident (97 ∷ [])) (at 6 7) (group Paren (at 8 9) (at 9 10) end end))))
unfolding left is_end lookahead_at sees take_token take_lifetime take_mark take_group before first_span rows_for rows run parse_rule
signature_rest_border_12 = not_read signature_rest _ refl

-- `fn Self ()`: nothing is read
signature_rest_border_13 : NotDerived (rule signature_rest)
    (leaf (ident w_fn) (at 0 2) (leaf (ident w_Self_type) (at 3 7) (group Paren (at 8 9) (at 9 10) end end)))
unfolding left is_end lookahead_at sees take_token take_lifetime take_mark take_group before first_span rows_for rows run parse_rule
signature_rest_border_13 = not_read signature_rest _ refl

-- `fn a () ()` prints `fn a ()` and leaves `()`
signature_rest_border_14 : DerivesAs signature_rest
    (leaf (ident w_fn) (at 0 2) (leaf (ident (97 ∷ [])) (at 3 4) (group Paren (at 5 6) (at 6 7) end (group Paren (at 8 9) (at 9 10) end end))))
    (leaf (ident w_fn) call_site (leaf (ident (97 ∷ [])) call_site (group Paren call_site call_site end end)))
    (group Paren (at 8 9) (at 9 10) end end)
unfolding left is_end lookahead_at sees take_token take_lifetime take_mark take_group before first_span rows_for rows run parse_rule
signature_rest_border_14 = computed signature_rest _ _ _ refl

-- `fn auto ()` prints `fn auto ()`
signature_rest_border_15 : DerivesAs signature_rest
    (leaf (ident w_fn) (at 0 2) (leaf (ident w_auto) (at 3 7) (group Paren (at 8 9) (at 9 10) end end)))
    (leaf (ident w_fn) call_site (leaf (ident w_auto) call_site (group Paren call_site call_site end end)))
    (end)
unfolding left is_end lookahead_at sees take_token take_lifetime take_mark take_group before first_span rows_for rows run parse_rule
signature_rest_border_15 = computed signature_rest _ _ _ refl

-- `fn fn a ()`: nothing is read
signature_rest_border_16 : NotDerived (rule signature_rest)
    (leaf (ident w_fn) (at 0 2) (leaf (ident w_fn) (at 3 5) (leaf (ident (97 ∷ [])) (at 6 7) (group Paren (at 8 9) (at 9 10) end end))))
unfolding left is_end lookahead_at sees take_token take_lifetime take_mark take_group before first_span rows_for rows run parse_rule
signature_rest_border_16 = not_read signature_rest _ refl

-- `fn safe ()` prints `fn safe ()`
signature_rest_border_17 : DerivesAs signature_rest
    (leaf (ident w_fn) (at 0 2) (leaf (ident w_safe) (at 3 7) (group Paren (at 8 9) (at 9 10) end end)))
    (leaf (ident w_fn) call_site (leaf (ident w_safe) call_site (group Paren call_site call_site end end)))
    (end)
unfolding left is_end lookahead_at sees take_token take_lifetime take_mark take_group before first_span rows_for rows run parse_rule
signature_rest_border_17 = computed signature_rest _ _ _ refl

-- `fn self ()`: nothing is read
signature_rest_border_18 : NotDerived (rule signature_rest)
    (leaf (ident w_fn) (at 0 2) (leaf (ident w_self) (at 3 7) (group Paren (at 8 9) (at 9 10) end end)))
unfolding left is_end lookahead_at sees take_token take_lifetime take_mark take_group before first_span rows_for rows run parse_rule
signature_rest_border_18 = not_read signature_rest _ refl

-- `< > fn a ()`: nothing is read
signature_rest_border_19 : NotDerived (rule signature_rest)
    (punct 60 false (at 0 1) (punct 62 false (at 2 3) (leaf (ident w_fn) (at 4 6) (leaf (ident (97 ∷ [])) (at 7 8) (group Paren (at 9 10) (at 10 11) end end)))))
unfolding left is_end lookahead_at sees take_token take_lifetime take_mark take_group before first_span rows_for rows run parse_rule
signature_rest_border_19 = not_read signature_rest _ refl

-- `fn < > a ()`: nothing is read
signature_rest_border_20 : NotDerived (rule signature_rest)
    (leaf (ident w_fn) (at 0 2) (punct 60 false (at 3 4) (punct 62 false (at 5 6) (leaf (ident (97 ∷ [])) (at 7 8) (group Paren (at 9 10) (at 10 11) end end)))))
unfolding left is_end lookahead_at sees take_token take_lifetime take_mark take_group before first_span rows_for rows run parse_rule
signature_rest_border_20 = not_read signature_rest _ refl

-- `fn a () < >` prints `fn a ()` and leaves `< >`
signature_rest_border_21 : DerivesAs signature_rest
    (leaf (ident w_fn) (at 0 2) (leaf (ident (97 ∷ [])) (at 3 4) (group Paren (at 5 6) (at 6 7) end (punct 60 false (at 8 9) (punct 62 false (at 10 11) end)))))
    (leaf (ident w_fn) call_site (leaf (ident (97 ∷ [])) call_site (group Paren call_site call_site end end)))
    (punct 60 false (at 8 9) (punct 62 false (at 10 11) end))
unfolding left is_end lookahead_at sees take_token take_lifetime take_mark take_group before first_span rows_for rows run parse_rule
signature_rest_border_21 = computed signature_rest _ _ _ refl

-- `fn a < > ()` prints `fn a ()`
signature_rest_border_22 : DerivesAs signature_rest
    (leaf (ident w_fn) (at 0 2) (leaf (ident (97 ∷ [])) (at 3 4) (punct 60 false (at 5 6) (punct 62 false (at 7 8) (group Paren (at 9 10) (at 10 11) end end)))))
    (leaf (ident w_fn) call_site (leaf (ident (97 ∷ [])) call_site (group Paren call_site call_site end end)))
    (end)
unfolding left is_end lookahead_at sees take_token take_lifetime take_mark take_group before first_span rows_for rows run parse_rule
signature_rest_border_22 = computed signature_rest _ _ _ refl

-- `fn crate ()`: nothing is read
signature_rest_border_23 : NotDerived (rule signature_rest)
    (leaf (ident w_fn) (at 0 2) (leaf (ident w_crate) (at 3 8) (group Paren (at 9 10) (at 10 11) end end)))
unfolding left is_end lookahead_at sees take_token take_lifetime take_mark take_group before first_span rows_for rows run parse_rule
signature_rest_border_23 = not_read signature_rest _ refl

-- `fn super ()`: nothing is read
signature_rest_border_24 : NotDerived (rule signature_rest)
    (leaf (ident w_fn) (at 0 2) (leaf (ident w_super) (at 3 8) (group Paren (at 9 10) (at 10 11) end end)))
unfolding left is_end lookahead_at sees take_token take_lifetime take_mark take_group before first_span rows_for rows run parse_rule
signature_rest_border_24 = not_read signature_rest _ refl

-- `fn safe fn ()`: nothing is read
signature_rest_border_25 : NotDerived (rule signature_rest)
    (leaf (ident w_fn) (at 0 2) (leaf (ident w_safe) (at 3 7) (leaf (ident w_fn) (at 8 10) (group Paren (at 11 12) (at 12 13) end end))))
unfolding left is_end lookahead_at sees take_token take_lifetime take_mark take_group before first_span rows_for rows run parse_rule
signature_rest_border_25 = not_read signature_rest _ refl

-- `fn safe -> ! ()`: nothing is read
signature_rest_border_26 : NotDerived (rule signature_rest)
    (leaf (ident w_fn) (at 0 2) (leaf (ident w_safe) (at 3 7) (punct 45 true (at 8 9) (punct 62 false (at 9 10) (punct 33 false (at 11 12) (group Paren (at 13 14) (at 14 15) end end))))))
unfolding left is_end lookahead_at sees take_token take_lifetime take_mark take_group before first_span rows_for rows run parse_rule
signature_rest_border_26 = not_read signature_rest _ refl

-- `fn union (self)` prints `fn union (self)`
signature_rest_border_27 : DerivesAs signature_rest
    (leaf (ident w_fn) (at 0 2) (leaf (ident w_union) (at 3 8) (group Paren (at 9 10) (at 14 15) (leaf (ident w_self) (at 10 14) end) end)))
    (leaf (ident w_fn) call_site (leaf (ident w_union) call_site (group Paren call_site call_site (leaf (ident w_self) call_site end) end)))
    (end)
unfolding left is_end lookahead_at sees take_token take_lifetime take_mark take_group before first_span rows_for rows run parse_rule
signature_rest_border_27 = computed signature_rest _ _ _ refl

-- `fn default () fn` prints `fn default ()` and leaves `fn`
signature_rest_border_28 : DerivesAs signature_rest
    (leaf (ident w_fn) (at 0 2) (leaf (ident w_default) (at 3 10) (group Paren (at 11 12) (at 12 13) end (leaf (ident w_fn) (at 14 16) end))))
    (leaf (ident w_fn) call_site (leaf (ident w_default) call_site (group Paren call_site call_site end end)))
    (leaf (ident w_fn) (at 14 16) end)
unfolding left is_end lookahead_at sees take_token take_lifetime take_mark take_group before first_span rows_for rows run parse_rule
signature_rest_border_28 = computed signature_rest _ _ _ refl

-- `-> () fn union ()`: nothing is read
signature_rest_border_29 : NotDerived (rule signature_rest)
    (punct 45 true (at 0 1) (punct 62 false (at 1 2) (group Paren (at 3 4) (at 4 5) end (leaf (ident w_fn) (at 6 8) (leaf (ident w_union) (at 9 14) (group Paren (at 15 16) (at 16 17) end end))))))
unfolding left is_end lookahead_at sees take_token take_lifetime take_mark take_group before first_span rows_for rows run parse_rule
signature_rest_border_29 = not_read signature_rest _ refl

-- `fn auto < > < > ()`: nothing is read
signature_rest_border_30 : NotDerived (rule signature_rest)
    (leaf (ident w_fn) (at 0 2) (leaf (ident w_auto) (at 3 7) (punct 60 false (at 8 9) (punct 62 false (at 10 11) (punct 60 false (at 12 13) (punct 62 false (at 14 15) (group Paren (at 16 17) (at 17 18) end end)))))))
unfolding left is_end lookahead_at sees take_token take_lifetime take_mark take_group before first_span rows_for rows run parse_rule
signature_rest_border_30 = not_read signature_rest _ refl

-- `fn a (mut self < >)`: nothing is read
signature_rest_border_31 : NotDerived (rule signature_rest)
    (leaf (ident w_fn) (at 0 2) (leaf (ident (97 ∷ [])) (at 3 4) (group Paren (at 5 6) (at 18 19) (leaf (ident w_mut) (at 6 9) (leaf (ident w_self) (at 10 14) (punct 60 false (at 15 16) (punct 62 false (at 17 18) end)))) end)))
unfolding left is_end lookahead_at sees take_token take_lifetime take_mark take_group before first_span rows_for rows run parse_rule
signature_rest_border_31 = not_read signature_rest _ refl

-- `fn -> auto safe (self)`: nothing is read
signature_rest_border_32 : NotDerived (rule signature_rest)
    (leaf (ident w_fn) (at 0 2) (punct 45 true (at 3 4) (punct 62 false (at 4 5) (leaf (ident w_auto) (at 6 10) (leaf (ident w_safe) (at 11 15) (group Paren (at 16 17) (at 21 22) (leaf (ident w_self) (at 17 21) end) end))))))
unfolding left is_end lookahead_at sees take_token take_lifetime take_mark take_group before first_span rows_for rows run parse_rule
signature_rest_border_32 = not_read signature_rest _ refl

-- `fn default () -> ! where` prints `fn default () -> !`
signature_rest_border_33 : DerivesAs signature_rest
    (leaf (ident w_fn) (at 0 2) (leaf (ident w_default) (at 3 10) (group Paren (at 11 12) (at 12 13) end (punct 45 true (at 14 15) (punct 62 false (at 15 16) (punct 33 false (at 17 18) (leaf (ident w_where) (at 19 24) end)))))))
    (leaf (ident w_fn) call_site (leaf (ident w_default) call_site (group Paren call_site call_site end (punct 45 true call_site (punct 62 false call_site (punct 33 false call_site end))))))
    (end)
unfolding left is_end lookahead_at sees take_token take_lifetime take_mark take_group before first_span rows_for rows run parse_rule
signature_rest_border_33 = computed signature_rest _ _ _ refl

-- `fn auto () {} {}` prints `fn auto () {}` and leaves `{}`
function_rest_border_1 : DerivesAs function_rest
    (leaf (ident w_fn) (at 0 2) (leaf (ident w_auto) (at 3 7) (group Paren (at 8 9) (at 9 10) end (group Brace (at 11 12) (at 12 13) end (group Brace (at 14 15) (at 15 16) end end)))))
    (leaf (ident w_fn) call_site (leaf (ident w_auto) call_site (group Paren call_site call_site end (group Brace call_site call_site end end))))
    (group Brace (at 14 15) (at 15 16) end end)
unfolding left is_end lookahead_at sees take_token take_lifetime take_mark take_group before first_span rows_for rows run parse_rule
function_rest_border_1 = computed function_rest _ _ _ refl

-- `{} fn auto () {}`: nothing is read
function_rest_border_2 : NotDerived (rule function_rest)
    (group Brace (at 0 1) (at 1 2) end (leaf (ident w_fn) (at 3 5) (leaf (ident w_auto) (at 6 10) (group Paren (at 11 12) (at 12 13) end (group Brace (at 14 15) (at 15 16) end end)))))
unfolding left is_end lookahead_at sees take_token take_lifetime take_mark take_group before first_span rows_for rows run parse_rule
function_rest_border_2 = not_read function_rest _ refl

-- `fn auto () pub {}`: nothing is read
function_rest_border_3 : NotDerived (rule function_rest)
    (leaf (ident w_fn) (at 0 2) (leaf (ident w_auto) (at 3 7) (group Paren (at 8 9) (at 9 10) end (leaf (ident w_pub) (at 11 14) (group Brace (at 15 16) (at 16 17) end end)))))
unfolding left is_end lookahead_at sees take_token take_lifetime take_mark take_group before first_span rows_for rows run parse_rule
function_rest_border_3 = not_read function_rest _ refl

-- `fn auto () {} pub` prints `fn auto () {}` and leaves `pub`
function_rest_border_4 : DerivesAs function_rest
    (leaf (ident w_fn) (at 0 2) (leaf (ident w_auto) (at 3 7) (group Paren (at 8 9) (at 9 10) end (group Brace (at 11 12) (at 12 13) end (leaf (ident w_pub) (at 14 17) end)))))
    (leaf (ident w_fn) call_site (leaf (ident w_auto) call_site (group Paren call_site call_site end (group Brace call_site call_site end end))))
    (leaf (ident w_pub) (at 14 17) end)
unfolding left is_end lookahead_at sees take_token take_lifetime take_mark take_group before first_span rows_for rows run parse_rule
function_rest_border_4 = computed function_rest _ _ _ refl

-- `fn auto () {} const` prints `fn auto () {}` and leaves `const`
function_rest_border_5 : DerivesAs function_rest
    (leaf (ident w_fn) (at 0 2) (leaf (ident w_auto) (at 3 7) (group Paren (at 8 9) (at 9 10) end (group Brace (at 11 12) (at 12 13) end (leaf (ident w_const) (at 14 19) end)))))
    (leaf (ident w_fn) call_site (leaf (ident w_auto) call_site (group Paren call_site call_site end (group Brace call_site call_site end end))))
    (leaf (ident w_const) (at 14 19) end)
unfolding left is_end lookahead_at sees take_token take_lifetime take_mark take_group before first_span rows_for rows run parse_rule
function_rest_border_5 = computed function_rest _ _ _ refl

-- `pub (crate) pub async fn a () {}`: nothing is read
function_rest_border_6 : NotDerived (rule function_rest)
    (leaf (ident w_pub) (at 0 3) (group Paren (at 4 5) (at 10 11) (leaf (ident w_crate) (at 5 10) end) (leaf (ident w_pub) (at 12 15) (leaf (ident w_async) (at 16 21) (leaf (ident w_fn) (at 22 24) (leaf (ident (97 ∷ [])) (at 25 26) (group Paren (at 27 28) (at 28 29) end (group Brace (at 30 31) (at 31 32) end end))))))))
unfolding left is_end lookahead_at sees take_token take_lifetime take_mark take_group before first_span rows_for rows run parse_rule
function_rest_border_6 = not_read function_rest _ refl

-- `unsafe fn union () fn auto () {}`: nothing is read
function_rest_border_7 : NotDerived (rule function_rest)
    (leaf (ident w_unsafe) (at 0 6) (leaf (ident w_fn) (at 7 9) (leaf (ident w_union) (at 10 15) (group Paren (at 16 17) (at 17 18) end (leaf (ident w_fn) (at 19 21) (leaf (ident w_auto) (at 22 26) (group Paren (at 27 28) (at 28 29) end (group Brace (at 30 31) (at 31 32) end end))))))))
unfolding left is_end lookahead_at sees take_token take_lifetime take_mark take_group before first_span rows_for rows run parse_rule
function_rest_border_7 = not_read function_rest _ refl

-- `safe fn a ()` prints `safe fn a ()`
foreign_signature_border_1 : DerivesAs foreign_signature
    (leaf (ident w_safe) (at 0 4) (leaf (ident w_fn) (at 5 7) (leaf (ident (97 ∷ [])) (at 8 9) (group Paren (at 10 11) (at 11 12) end end))))
    (leaf (ident w_safe) call_site (leaf (ident w_fn) call_site (leaf (ident (97 ∷ [])) call_site (group Paren call_site call_site end end))))
    (end)
unfolding left is_end lookahead_at sees take_token take_lifetime take_mark take_group before first_span rows_for rows run parse_rule
foreign_signature_border_1 = computed foreign_signature _ _ _ refl

-- `fn auto () fn` prints `fn auto ()` and leaves `fn`
foreign_signature_border_2 : DerivesAs foreign_signature
    (leaf (ident w_fn) (at 0 2) (leaf (ident w_auto) (at 3 7) (group Paren (at 8 9) (at 9 10) end (leaf (ident w_fn) (at 11 13) end))))
    (leaf (ident w_fn) call_site (leaf (ident w_auto) call_site (group Paren call_site call_site end end)))
    (leaf (ident w_fn) (at 11 13) end)
unfolding left is_end lookahead_at sees take_token take_lifetime take_mark take_group before first_span rows_for rows run parse_rule
foreign_signature_border_2 = computed foreign_signature _ _ _ refl

-- `fn auto () const` prints `fn auto ()` and leaves `const`
foreign_signature_border_3 : DerivesAs foreign_signature
    (leaf (ident w_fn) (at 0 2) (leaf (ident w_auto) (at 3 7) (group Paren (at 8 9) (at 9 10) end (leaf (ident w_const) (at 11 16) end))))
    (leaf (ident w_fn) call_site (leaf (ident w_auto) call_site (group Paren call_site call_site end end)))
    (leaf (ident w_const) (at 11 16) end)
unfolding left is_end lookahead_at sees take_token take_lifetime take_mark take_group before first_span rows_for rows run parse_rule
foreign_signature_border_3 = computed foreign_signature _ _ _ refl

-- `fn auto () unsafe` prints `fn auto ()` and leaves `unsafe`
foreign_signature_border_4 : DerivesAs foreign_signature
    (leaf (ident w_fn) (at 0 2) (leaf (ident w_auto) (at 3 7) (group Paren (at 8 9) (at 9 10) end (leaf (ident w_unsafe) (at 11 17) end))))
    (leaf (ident w_fn) call_site (leaf (ident w_auto) call_site (group Paren call_site call_site end end)))
    (leaf (ident w_unsafe) (at 11 17) end)
unfolding left is_end lookahead_at sees take_token take_lifetime take_mark take_group before first_span rows_for rows run parse_rule
foreign_signature_border_4 = computed foreign_signature _ _ _ refl

-- `const const fn union ()`: nothing is read
foreign_signature_border_5 : NotDerived (rule foreign_signature)
    (leaf (ident w_const) (at 0 5) (leaf (ident w_const) (at 6 11) (leaf (ident w_fn) (at 12 14) (leaf (ident w_union) (at 15 20) (group Paren (at 21 22) (at 22 23) end end)))))
unfolding left is_end lookahead_at sees take_token take_lifetime take_mark take_group before first_span rows_for rows run parse_rule
foreign_signature_border_5 = not_read foreign_signature _ refl

-- `const fn union () extern` prints `const fn union ()` and leaves `extern`
foreign_signature_border_6 : DerivesAs foreign_signature
    (leaf (ident w_const) (at 0 5) (leaf (ident w_fn) (at 6 8) (leaf (ident w_union) (at 9 14) (group Paren (at 15 16) (at 16 17) end (leaf (ident w_extern) (at 18 24) end)))))
    (leaf (ident w_const) call_site (leaf (ident w_fn) call_site (leaf (ident w_union) call_site (group Paren call_site call_site end end))))
    (leaf (ident w_extern) (at 18 24) end)
unfolding left is_end lookahead_at sees take_token take_lifetime take_mark take_group before first_span rows_for rows run parse_rule
foreign_signature_border_6 = computed foreign_signature _ _ _ refl

-- `extern extern fn auto ()`: nothing is read
foreign_signature_border_7 : NotDerived (rule foreign_signature)
    (leaf (ident w_extern) (at 0 6) (leaf (ident w_extern) (at 7 13) (leaf (ident w_fn) (at 14 16) (leaf (ident w_auto) (at 17 21) (group Paren (at 22 23) (at 23 24) end end)))))
unfolding left is_end lookahead_at sees take_token take_lifetime take_mark take_group before first_span rows_for rows run parse_rule
foreign_signature_border_7 = not_read foreign_signature _ refl

-- `async async fn default ()`: nothing is read
foreign_signature_border_8 : NotDerived (rule foreign_signature)
    (leaf (ident w_async) (at 0 5) (leaf (ident w_async) (at 6 11) (leaf (ident w_fn) (at 12 14) (leaf (ident w_default) (at 15 22) (group Paren (at 23 24) (at 24 25) end end)))))
unfolding left is_end lookahead_at sees take_token take_lifetime take_mark take_group before first_span rows_for rows run parse_rule
foreign_signature_border_8 = not_read foreign_signature _ refl

-- `const async extern fn safe () async` prints `const async extern fn safe ()` and leaves `async`
foreign_signature_border_9 : DerivesAs foreign_signature
    (leaf (ident w_const) (at 0 5) (leaf (ident w_async) (at 6 11) (leaf (ident w_extern) (at 12 18) (leaf (ident w_fn) (at 19 21) (leaf (ident w_safe) (at 22 26) (group Paren (at 27 28) (at 28 29) end (leaf (ident w_async) (at 30 35) end)))))))
    (leaf (ident w_const) call_site (leaf (ident w_async) call_site (leaf (ident w_extern) call_site (leaf (ident w_fn) call_site (leaf (ident w_safe) call_site (group Paren call_site call_site end end))))))
    (leaf (ident w_async) (at 30 35) end)
unfolding left is_end lookahead_at sees take_token take_lifetime take_mark take_group before first_span rows_for rows run parse_rule
foreign_signature_border_9 = computed foreign_signature _ _ _ refl
