-- Written by tools/grammar.py from specs/Table.antt; edits are lost.
-- Worked examples of borders of items in their places, of statements, and of struct literals, from tools/examples.txt: what each rule reads, prints and refuses. The checker computes each.
use Rattle.std.proofs.Common.{true, false, [], ◌∷◌, refl}
use Rattle.syn_grammar.specs.Words.{w_underscore, w_break, w_const, w_crate, w_enum, w_extern, w_fn, w_for, w_impl, w_mod, w_return, w_Self_type, w_self, w_static, w_super, w_trait, w_true, w_type, w_use, w_union, w_auto, w_default, w_safe}
use Rattle.syn_grammar.specs.Tokens.{call_site, Paren, Brace, Bracket, Str, CStr, Int, ident, literal, end, leaf, punct, group}
use Rattle.syn_grammar.specs.Rules.{more_type_words, variants, primary, literal_fields, literal_field, statement, item_rest, item, items}
use Rattle.syn_grammar.specs.Grammar.{rule}
use Rattle.syn_grammar.specs.Take.{left, is_end, lookahead_at, sees, take_token, take_lifetime, take_mark, take_group, before, first_span}
use Rattle.syn_grammar.specs.Run.{rows_for, rows, run, parse_rule}
use Rattle.syn_grammar.specs.Promises.{NotDerived}
use Rattle.syn_grammar.proofs.Shown.{at, DerivesAs, computed, not_read}

-- `1`: nothing is read
more_type_words_border_1 : NotDerived (rule more_type_words)
    (leaf (literal Int (49 ∷ [])) (at 0 1) end)
unfolding left is_end lookahead_at sees take_token take_lifetime take_mark take_group before rows_for rows run parse_rule
more_type_words_border_1 = not_read more_type_words _ refl

-- `_`: nothing is read
more_type_words_border_2 : NotDerived (rule more_type_words)
    (leaf (ident w_underscore) (at 0 1) end)
unfolding left is_end lookahead_at sees take_token take_lifetime take_mark take_group before rows_for rows run parse_rule
more_type_words_border_2 = not_read more_type_words _ refl

-- `fn`: nothing is read
more_type_words_border_3 : NotDerived (rule more_type_words)
    (leaf (ident w_fn) (at 0 2) end)
unfolding left is_end lookahead_at sees take_token take_lifetime take_mark take_group before rows_for rows run parse_rule
more_type_words_border_3 = not_read more_type_words _ refl

-- `Self` prints `Self`
more_type_words_border_4 : DerivesAs more_type_words
    (leaf (ident w_Self_type) (at 0 4) end)
    (leaf (ident w_Self_type) call_site end)
    (end)
unfolding left is_end lookahead_at sees take_token take_lifetime take_mark take_group before rows_for rows run parse_rule
more_type_words_border_4 = computed more_type_words _ _ _ refl

-- `safe` prints `safe`
more_type_words_border_5 : DerivesAs more_type_words
    (leaf (ident w_safe) (at 0 4) end)
    (leaf (ident w_safe) call_site end)
    (end)
unfolding left is_end lookahead_at sees take_token take_lifetime take_mark take_group before rows_for rows run parse_rule
more_type_words_border_5 = computed more_type_words _ _ _ refl

-- `self` prints `self`
more_type_words_border_6 : DerivesAs more_type_words
    (leaf (ident w_self) (at 0 4) end)
    (leaf (ident w_self) call_site end)
    (end)
unfolding left is_end lookahead_at sees take_token take_lifetime take_mark take_group before rows_for rows run parse_rule
more_type_words_border_6 = computed more_type_words _ _ _ refl

-- `crate` prints `crate`
more_type_words_border_7 : DerivesAs more_type_words
    (leaf (ident w_crate) (at 0 5) end)
    (leaf (ident w_crate) call_site end)
    (end)
unfolding left is_end lookahead_at sees take_token take_lifetime take_mark take_group before rows_for rows run parse_rule
more_type_words_border_7 = computed more_type_words _ _ _ refl

-- `super` prints `super`
more_type_words_border_8 : DerivesAs more_type_words
    (leaf (ident w_super) (at 0 5) end)
    (leaf (ident w_super) call_site end)
    (end)
unfolding left is_end lookahead_at sees take_token take_lifetime take_mark take_group before rows_for rows run parse_rule
more_type_words_border_8 = computed more_type_words _ _ _ refl

-- `union` prints `union`
more_type_words_border_9 : DerivesAs more_type_words
    (leaf (ident w_union) (at 0 5) end)
    (leaf (ident w_union) call_site end)
    (end)
unfolding left is_end lookahead_at sees take_token take_lifetime take_mark take_group before rows_for rows run parse_rule
more_type_words_border_9 = computed more_type_words _ _ _ refl

-- `default` prints `default`
more_type_words_border_10 : DerivesAs more_type_words
    (leaf (ident w_default) (at 0 7) end)
    (leaf (ident w_default) call_site end)
    (end)
unfolding left is_end lookahead_at sees take_token take_lifetime take_mark take_group before rows_for rows run parse_rule
more_type_words_border_10 = computed more_type_words _ _ _ refl

-- `safe :: ::auto`: nothing is read
more_type_words_border_11 : NotDerived (rule more_type_words)
    (leaf (ident w_safe) (at 0 4) (punct 58 true (at 5 6) (punct 58 false (at 6 7) (punct 58 true (at 8 9) (punct 58 false (at 9 10) (leaf (ident w_auto) (at 10 14) end))))))
unfolding left is_end lookahead_at sees take_token take_lifetime take_mark take_group before rows_for rows run parse_rule
more_type_words_border_11 = not_read more_type_words _ refl

-- `:: auto a >:: default`: nothing is read
more_type_words_border_12 : NotDerived (rule more_type_words)
    (punct 58 true (at 0 1) (punct 58 false (at 1 2) (leaf (ident w_auto) (at 3 7) (leaf (ident (97 ∷ [])) (at 8 9) (punct 62 true (at 10 11) (punct 58 true (at 11 12) (punct 58 false (at 12 13) (leaf (ident w_default) (at 14 21) end))))))))
unfolding left is_end lookahead_at sees take_token take_lifetime take_mark take_group before rows_for rows run parse_rule
more_type_words_border_12 = not_read more_type_words _ refl

-- `1`: nothing is read
variants_border_1 : NotDerived (rule variants)
    (leaf (literal Int (49 ∷ [])) (at 0 1) end)
unfolding left is_end lookahead_at sees take_token take_lifetime take_mark take_group before rows_for rows run parse_rule
variants_border_1 = not_read variants _ refl

-- `a {+}`: nothing is read
primary_border_1 : NotDerived (rule primary)
    (leaf (ident (97 ∷ [])) (at 0 1) (group Brace (at 2 3) (at 4 5) (punct 43 false (at 3 4) end) end))
unfolding left is_end lookahead_at sees take_token take_lifetime take_mark take_group before rows_for rows run parse_rule
primary_border_1 = not_read primary _ refl

-- `Self ()` prints `Self` and leaves `()`
primary_border_2 : DerivesAs primary
    (leaf (ident w_Self_type) (at 0 4) (group Paren (at 5 6) (at 6 7) end end))
    (leaf (ident w_Self_type) call_site end)
    (group Paren (at 5 6) (at 6 7) end end)
unfolding left is_end lookahead_at sees take_token take_lifetime take_mark take_group before rows_for rows run parse_rule
primary_border_2 = computed primary _ _ _ refl

-- `a {} {}` prints `a {}` and leaves `{}`
primary_border_3 : DerivesAs primary
    (leaf (ident (97 ∷ [])) (at 0 1) (group Brace (at 2 3) (at 3 4) end (group Brace (at 5 6) (at 6 7) end end)))
    (leaf (ident (97 ∷ [])) call_site (group Brace call_site call_site end end))
    (group Brace (at 5 6) (at 6 7) end end)
unfolding left is_end lookahead_at sees take_token take_lifetime take_mark take_group before rows_for rows run parse_rule
primary_border_3 = computed primary _ _ _ refl

-- `a` prints `a`
literal_fields_border_1 : DerivesAs literal_fields
    (leaf (ident (97 ∷ [])) (at 0 1) end)
    (leaf (ident (97 ∷ [])) call_site end)
    (end)
unfolding left is_end lookahead_at sees take_token take_lifetime take_mark take_group before rows_for rows run parse_rule
literal_fields_border_1 = computed literal_fields _ _ _ refl

-- `0 : [] , ,`: nothing is read
literal_fields_border_3 : NotDerived (rule literal_fields)
    (leaf (literal Int (48 ∷ [])) (at 0 1) (punct 58 false (at 2 3) (group Bracket (at 4 5) (at 5 6) end (punct 44 false (at 7 8) (punct 44 false (at 9 10) end)))))
unfolding left is_end lookahead_at sees take_token take_lifetime take_mark take_group before rows_for rows run parse_rule
literal_fields_border_3 = not_read literal_fields _ refl

-- `_`: nothing is read
literal_field_border_1 : NotDerived (rule literal_field)
    (leaf (ident w_underscore) (at 0 1) end)
unfolding left is_end lookahead_at sees take_token take_lifetime take_mark take_group before rows_for rows run parse_rule
literal_field_border_1 = not_read literal_field _ refl

-- `fn`: nothing is read
literal_field_border_2 : NotDerived (rule literal_field)
    (leaf (ident w_fn) (at 0 2) end)
unfolding left is_end lookahead_at sees take_token take_lifetime take_mark take_group before rows_for rows run parse_rule
literal_field_border_2 = not_read literal_field _ refl

-- `"s"`: nothing is read
literal_field_border_3 : NotDerived (rule literal_field)
    (leaf (literal Str (34 ∷ 115 ∷ 34 ∷ [])) (at 0 3) end)
unfolding left is_end lookahead_at sees take_token take_lifetime take_mark take_group before rows_for rows run parse_rule
literal_field_border_3 = not_read literal_field _ refl

-- `a a` prints `a` and leaves `a`
literal_field_border_4 : DerivesAs literal_field
    (leaf (ident (97 ∷ [])) (at 0 1) (leaf (ident (97 ∷ [])) (at 2 3) end))
    (leaf (ident (97 ∷ [])) call_site end)
    (leaf (ident (97 ∷ [])) (at 2 3) end)
unfolding left is_end lookahead_at sees take_token take_lifetime take_mark take_group before rows_for rows run parse_rule
literal_field_border_4 = computed literal_field _ _ _ refl

-- `Self`: nothing is read
literal_field_border_5 : NotDerived (rule literal_field)
    (leaf (ident w_Self_type) (at 0 4) end)
unfolding left is_end lookahead_at sees take_token take_lifetime take_mark take_group before rows_for rows run parse_rule
literal_field_border_5 = not_read literal_field _ refl

-- `auto` prints `auto`
literal_field_border_6 : DerivesAs literal_field
    (leaf (ident w_auto) (at 0 4) end)
    (leaf (ident w_auto) call_site end)
    (end)
unfolding left is_end lookahead_at sees take_token take_lifetime take_mark take_group before rows_for rows run parse_rule
literal_field_border_6 = computed literal_field _ _ _ refl

-- `safe` prints `safe`
literal_field_border_7 : DerivesAs literal_field
    (leaf (ident w_safe) (at 0 4) end)
    (leaf (ident w_safe) call_site end)
    (end)
unfolding left is_end lookahead_at sees take_token take_lifetime take_mark take_group before rows_for rows run parse_rule
literal_field_border_7 = computed literal_field _ _ _ refl

-- `0 : 1` prints `0 : 1`
literal_field_border_8 : DerivesAs literal_field
    (leaf (literal Int (48 ∷ [])) (at 0 1) (punct 58 false (at 2 3) (leaf (literal Int (49 ∷ [])) (at 4 5) end)))
    (leaf (literal Int (48 ∷ [])) call_site (punct 58 false call_site (leaf (literal Int (49 ∷ [])) call_site end)))
    (end)
unfolding left is_end lookahead_at sees take_token take_lifetime take_mark take_group before rows_for rows run parse_rule
literal_field_border_8 = computed literal_field _ _ _ refl

-- `0 = a`: nothing is read
literal_field_border_9 : NotDerived (rule literal_field)
    (leaf (literal Int (48 ∷ [])) (at 0 1) (punct 61 false (at 2 3) (leaf (ident (97 ∷ [])) (at 4 5) end)))
unfolding left is_end lookahead_at sees take_token take_lifetime take_mark take_group before rows_for rows run parse_rule
literal_field_border_9 = not_read literal_field _ refl

-- `: c a`: nothing is read
literal_field_border_10 : NotDerived (rule literal_field)
    (punct 58 false (at 0 1) (leaf (ident (99 ∷ [])) (at 2 3) (leaf (ident (97 ∷ [])) (at 4 5) end)))
unfolding left is_end lookahead_at sees take_token take_lifetime take_mark take_group before rows_for rows run parse_rule
literal_field_border_10 = not_read literal_field _ refl

-- `crate`: nothing is read
literal_field_border_11 : NotDerived (rule literal_field)
    (leaf (ident w_crate) (at 0 5) end)
unfolding left is_end lookahead_at sees take_token take_lifetime take_mark take_group before rows_for rows run parse_rule
literal_field_border_11 = not_read literal_field _ refl

-- `super`: nothing is read
literal_field_border_12 : NotDerived (rule literal_field)
    (leaf (ident w_super) (at 0 5) end)
unfolding left is_end lookahead_at sees take_token take_lifetime take_mark take_group before rows_for rows run parse_rule
literal_field_border_12 = not_read literal_field _ refl

-- `union` prints `union`
literal_field_border_13 : DerivesAs literal_field
    (leaf (ident w_union) (at 0 5) end)
    (leaf (ident w_union) call_site end)
    (end)
unfolding left is_end lookahead_at sees take_token take_lifetime take_mark take_group before rows_for rows run parse_rule
literal_field_border_13 = computed literal_field _ _ _ refl

-- `0 0 : a`: nothing is read
literal_field_border_14 : NotDerived (rule literal_field)
    (leaf (literal Int (48 ∷ [])) (at 0 1) (leaf (literal Int (48 ∷ [])) (at 2 3) (punct 58 false (at 4 5) (leaf (ident (97 ∷ [])) (at 6 7) end))))
unfolding left is_end lookahead_at sees take_token take_lifetime take_mark take_group before rows_for rows run parse_rule
literal_field_border_14 = not_read literal_field _ refl

-- `0 : a 2` prints `0 : a` and leaves `2`
literal_field_border_15 : DerivesAs literal_field
    (leaf (literal Int (48 ∷ [])) (at 0 1) (punct 58 false (at 2 3) (leaf (ident (97 ∷ [])) (at 4 5) (leaf (literal Int (50 ∷ [])) (at 6 7) end))))
    (leaf (literal Int (48 ∷ [])) call_site (punct 58 false call_site (leaf (ident (97 ∷ [])) call_site end)))
    (leaf (literal Int (50 ∷ [])) (at 6 7) end)
unfolding left is_end lookahead_at sees take_token take_lifetime take_mark take_group before rows_for rows run parse_rule
literal_field_border_15 = computed literal_field _ _ _ refl

-- `a # [c]` prints `a` and leaves `# [c]`
literal_field_border_16 : DerivesAs literal_field
    (leaf (ident (97 ∷ [])) (at 0 1) (punct 35 false (at 2 3) (group Bracket (at 4 5) (at 6 7) (leaf (ident (99 ∷ [])) (at 5 6) end) end)))
    (leaf (ident (97 ∷ [])) call_site end)
    (punct 35 false (at 2 3) (group Bracket (at 4 5) (at 6 7) (leaf (ident (99 ∷ [])) (at 5 6) end) end))
unfolding left is_end lookahead_at sees take_token take_lifetime take_mark take_group before rows_for rows run parse_rule
literal_field_border_16 = computed literal_field _ _ _ refl

-- `a : b c` prints `a : b` and leaves `c`
literal_field_border_17 : DerivesAs literal_field
    (leaf (ident (97 ∷ [])) (at 0 1) (punct 58 false (at 2 3) (leaf (ident (98 ∷ [])) (at 4 5) (leaf (ident (99 ∷ [])) (at 6 7) end))))
    (leaf (ident (97 ∷ [])) call_site (punct 58 false call_site (leaf (ident (98 ∷ [])) call_site end)))
    (leaf (ident (99 ∷ [])) (at 6 7) end)
unfolding left is_end lookahead_at sees take_token take_lifetime take_mark take_group before rows_for rows run parse_rule
literal_field_border_17 = computed literal_field _ _ _ refl

-- `default` prints `default`
literal_field_border_18 : DerivesAs literal_field
    (leaf (ident w_default) (at 0 7) end)
    (leaf (ident w_default) call_site end)
    (end)
unfolding left is_end lookahead_at sees take_token take_lifetime take_mark take_group before rows_for rows run parse_rule
literal_field_border_18 = computed literal_field _ _ _ refl

-- `0 : a : c` prints `0 : a` and leaves `: c`
literal_field_border_19 : DerivesAs literal_field
    (leaf (literal Int (48 ∷ [])) (at 0 1) (punct 58 false (at 2 3) (leaf (ident (97 ∷ [])) (at 4 5) (punct 58 false (at 6 7) (leaf (ident (99 ∷ [])) (at 8 9) end)))))
    (leaf (literal Int (48 ∷ [])) call_site (punct 58 false call_site (leaf (ident (97 ∷ [])) call_site end)))
    (punct 58 false (at 6 7) (leaf (ident (99 ∷ [])) (at 8 9) end))
unfolding left is_end lookahead_at sees take_token take_lifetime take_mark take_group before rows_for rows run parse_rule
literal_field_border_19 = computed literal_field _ _ _ refl

-- `0 : a = c` prints `0 : a = c`
literal_field_border_20 : DerivesAs literal_field
    (leaf (literal Int (48 ∷ [])) (at 0 1) (punct 58 false (at 2 3) (leaf (ident (97 ∷ [])) (at 4 5) (punct 61 false (at 6 7) (leaf (ident (99 ∷ [])) (at 8 9) end)))))
    (leaf (literal Int (48 ∷ [])) call_site (punct 58 false call_site (leaf (ident (97 ∷ [])) call_site (punct 61 false call_site (leaf (ident (99 ∷ [])) call_site end)))))
    (end)
unfolding left is_end lookahead_at sees take_token take_lifetime take_mark take_group before rows_for rows run parse_rule
literal_field_border_20 = computed literal_field _ _ _ refl

-- `0 ::return`: nothing is read
literal_field_border_21 : NotDerived (rule literal_field)
    (leaf (literal Int (48 ∷ [])) (at 0 1) (punct 58 true (at 2 3) (punct 58 false (at 3 4) (leaf (ident w_return) (at 4 10) end))))
unfolding left is_end lookahead_at sees take_token take_lifetime take_mark take_group before rows_for rows run parse_rule
literal_field_border_21 = not_read literal_field _ refl

-- `a : : b , c`: nothing is read
literal_field_border_22 : NotDerived (rule literal_field)
    (leaf (ident (97 ∷ [])) (at 0 1) (punct 58 false (at 2 3) (punct 58 false (at 4 5) (leaf (ident (98 ∷ [])) (at 6 7) (punct 44 false (at 8 9) (leaf (ident (99 ∷ [])) (at 10 11) end))))))
unfolding left is_end lookahead_at sees take_token take_lifetime take_mark take_group before rows_for rows run parse_rule
literal_field_border_22 = not_read literal_field _ refl

-- `a : b : c , c` prints `a : b` and leaves `: c , c`
literal_field_border_23 : DerivesAs literal_field
    (leaf (ident (97 ∷ [])) (at 0 1) (punct 58 false (at 2 3) (leaf (ident (98 ∷ [])) (at 4 5) (punct 58 false (at 6 7) (leaf (ident (99 ∷ [])) (at 8 9) (punct 44 false (at 10 11) (leaf (ident (99 ∷ [])) (at 12 13) end)))))))
    (leaf (ident (97 ∷ [])) call_site (punct 58 false call_site (leaf (ident (98 ∷ [])) call_site end)))
    (punct 58 false (at 6 7) (leaf (ident (99 ∷ [])) (at 8 9) (punct 44 false (at 10 11) (leaf (ident (99 ∷ [])) (at 12 13) end))))
unfolding left is_end lookahead_at sees take_token take_lifetime take_mark take_group before rows_for rows run parse_rule
literal_field_border_23 = computed literal_field _ _ _ refl

-- `a : b = c , c` prints `a : b = c` and leaves `, c`
literal_field_border_24 : DerivesAs literal_field
    (leaf (ident (97 ∷ [])) (at 0 1) (punct 58 false (at 2 3) (leaf (ident (98 ∷ [])) (at 4 5) (punct 61 false (at 6 7) (leaf (ident (99 ∷ [])) (at 8 9) (punct 44 false (at 10 11) (leaf (ident (99 ∷ [])) (at 12 13) end)))))))
    (leaf (ident (97 ∷ [])) call_site (punct 58 false call_site (leaf (ident (98 ∷ [])) call_site (punct 61 false call_site (leaf (ident (99 ∷ [])) call_site end)))))
    (punct 44 false (at 10 11) (leaf (ident (99 ∷ [])) (at 12 13) end))
unfolding left is_end lookahead_at sees take_token take_lifetime take_mark take_group before rows_for rows run parse_rule
literal_field_border_24 = computed literal_field _ _ _ refl

-- `a b ;`: nothing is read
statement_border_1 : NotDerived (rule statement)
    (leaf (ident (97 ∷ [])) (at 0 1) (leaf (ident (98 ∷ [])) (at 2 3) (punct 59 false (at 4 5) end)))
unfolding left is_end lookahead_at sees take_token take_lifetime take_mark take_group before first_span rows_for rows run parse_rule
statement_border_1 = not_read statement _ refl

-- `use {} ;` prints `use {} ;`
statement_border_2 : DerivesAs statement
    (leaf (ident w_use) (at 0 3) (group Brace (at 4 5) (at 5 6) end (punct 59 false (at 7 8) end)))
    (leaf (ident w_use) call_site (group Brace call_site call_site end (punct 59 false call_site end)))
    (end)
unfolding left is_end lookahead_at sees take_token take_lifetime take_mark take_group before first_span rows_for rows run parse_rule
statement_border_2 = computed statement _ _ _ refl

-- `self ! b {}` prints `self ! b {}`
statement_border_3 : DerivesAs statement
    (leaf (ident w_self) (at 0 4) (punct 33 false (at 5 6) (leaf (ident (98 ∷ [])) (at 7 8) (group Brace (at 9 10) (at 10 11) end end))))
    (leaf (ident w_self) call_site (punct 33 false call_site (leaf (ident (98 ∷ [])) call_site (group Brace call_site call_site end end))))
    (end)
unfolding left is_end lookahead_at sees take_token take_lifetime take_mark take_group before first_span rows_for rows run parse_rule
statement_border_3 = computed statement _ _ _ refl

-- `super ! b {}` prints `super ! b {}`
statement_border_4 : DerivesAs statement
    (leaf (ident w_super) (at 0 5) (punct 33 false (at 6 7) (leaf (ident (98 ∷ [])) (at 8 9) (group Brace (at 10 11) (at 11 12) end end))))
    (leaf (ident w_super) call_site (punct 33 false call_site (leaf (ident (98 ∷ [])) call_site (group Brace call_site call_site end end))))
    (end)
unfolding left is_end lookahead_at sees take_token take_lifetime take_mark take_group before first_span rows_for rows run parse_rule
statement_border_4 = computed statement _ _ _ refl

-- `union a {} b` prints `union a {}` and leaves `b`
statement_border_5 : DerivesAs statement
    (leaf (ident w_union) (at 0 5) (leaf (ident (97 ∷ [])) (at 6 7) (group Brace (at 8 9) (at 9 10) end (leaf (ident (98 ∷ [])) (at 11 12) end))))
    (leaf (ident w_union) call_site (leaf (ident (97 ∷ [])) call_site (group Brace call_site call_site end end)))
    (leaf (ident (98 ∷ [])) (at 11 12) end)
unfolding left is_end lookahead_at sees take_token take_lifetime take_mark take_group before first_span rows_for rows run parse_rule
statement_border_5 = computed statement _ _ _ refl

-- `type default ; const` prints `type default ;` and leaves `const`
statement_border_6 : DerivesAs statement
    (leaf (ident w_type) (at 0 4) (leaf (ident w_default) (at 5 12) (punct 59 false (at 13 14) (leaf (ident w_const) (at 15 20) end))))
    (leaf (ident w_type) call_site (leaf (ident w_default) call_site (punct 59 false call_site end)))
    (leaf (ident w_const) (at 15 20) end)
unfolding left is_end lookahead_at sees take_token take_lifetime take_mark take_group before first_span rows_for rows run parse_rule
statement_border_6 = computed statement _ _ _ refl

-- `const impl default for () {}` prints `const impl default for () {}`
statement_border_7 : DerivesAs statement
    (leaf (ident w_const) (at 0 5) (leaf (ident w_impl) (at 6 10) (leaf (ident w_default) (at 11 18) (leaf (ident w_for) (at 19 22) (group Paren (at 23 24) (at 24 25) end (group Brace (at 26 27) (at 27 28) end end))))))
    (leaf (ident w_const) call_site (leaf (ident w_impl) call_site (leaf (ident w_default) call_site (leaf (ident w_for) call_site (group Paren call_site call_site end (group Brace call_site call_site end end))))))
    (end)
unfolding left is_end lookahead_at sees take_token take_lifetime take_mark take_group before first_span rows_for rows run parse_rule
statement_border_7 = computed statement _ _ _ refl

-- `mod a ;` prints `mod a ;`
item_rest_border_1 : DerivesAs item_rest
    (leaf (ident w_mod) (at 0 3) (leaf (ident (97 ∷ [])) (at 4 5) (punct 59 false (at 6 7) end)))
    (leaf (ident w_mod) call_site (leaf (ident (97 ∷ [])) call_site (punct 59 false call_site end)))
    (end)
unfolding left is_end lookahead_at sees take_token take_lifetime take_mark take_group before first_span rows_for rows run parse_rule
item_rest_border_1 = computed item_rest _ _ _ refl

-- `use * ;` prints `use * ;`
item_rest_border_2 : DerivesAs item_rest
    (leaf (ident w_use) (at 0 3) (punct 42 false (at 4 5) (punct 59 false (at 6 7) end)))
    (leaf (ident w_use) call_site (punct 42 false call_site (punct 59 false call_site end)))
    (end)
unfolding left is_end lookahead_at sees take_token take_lifetime take_mark take_group before first_span rows_for rows run parse_rule
item_rest_border_2 = computed item_rest _ _ _ refl

-- `enum a {}` prints `enum a {}`
item_rest_border_3 : DerivesAs item_rest
    (leaf (ident w_enum) (at 0 4) (leaf (ident (97 ∷ [])) (at 5 6) (group Brace (at 7 8) (at 8 9) end end)))
    (leaf (ident w_enum) call_site (leaf (ident (97 ∷ [])) call_site (group Brace call_site call_site end end)))
    (end)
unfolding left is_end lookahead_at sees take_token take_lifetime take_mark take_group before first_span rows_for rows run parse_rule
item_rest_border_3 = computed item_rest _ _ _ refl

-- `trait a =;` prints `trait a = ;`
item_rest_border_4 : DerivesAs item_rest
    (leaf (ident w_trait) (at 0 5) (leaf (ident (97 ∷ [])) (at 6 7) (punct 61 true (at 8 9) (punct 59 false (at 9 10) end))))
    (leaf (ident w_trait) call_site (leaf (ident (97 ∷ [])) call_site (punct 61 false call_site (punct 59 false call_site end))))
    (end)
unfolding left is_end lookahead_at sees take_token take_lifetime take_mark take_group before first_span rows_for rows run parse_rule
item_rest_border_4 = computed item_rest _ _ _ refl

-- `trait a {}` prints `trait a {}`
item_rest_border_5 : DerivesAs item_rest
    (leaf (ident w_trait) (at 0 5) (leaf (ident (97 ∷ [])) (at 6 7) (group Brace (at 8 9) (at 9 10) end end)))
    (leaf (ident w_trait) call_site (leaf (ident (97 ∷ [])) call_site (group Brace call_site call_site end end)))
    (end)
unfolding left is_end lookahead_at sees take_token take_lifetime take_mark take_group before first_span rows_for rows run parse_rule
item_rest_border_5 = computed item_rest _ _ _ refl

-- `union a {}` prints `union a {}`
item_rest_border_6 : DerivesAs item_rest
    (leaf (ident w_union) (at 0 5) (leaf (ident (97 ∷ [])) (at 6 7) (group Brace (at 8 9) (at 9 10) end end)))
    (leaf (ident w_union) call_site (leaf (ident (97 ∷ [])) call_site (group Brace call_site call_site end end)))
    (end)
unfolding left is_end lookahead_at sees take_token take_lifetime take_mark take_group before first_span rows_for rows run parse_rule
item_rest_border_6 = computed item_rest _ _ _ refl

-- `extern {} b` prints `extern {}` and leaves `b`
item_rest_border_7 : DerivesAs item_rest
    (leaf (ident w_extern) (at 0 6) (group Brace (at 7 8) (at 8 9) end (leaf (ident (98 ∷ [])) (at 10 11) end)))
    (leaf (ident w_extern) call_site (group Brace call_site call_site end end))
    (leaf (ident (98 ∷ [])) (at 10 11) end)
unfolding left is_end lookahead_at sees take_token take_lifetime take_mark take_group before first_span rows_for rows run parse_rule
item_rest_border_7 = computed item_rest _ _ _ refl

-- `default ! {}` prints `default ! {}`
item_rest_border_8 : DerivesAs item_rest
    (leaf (ident w_default) (at 0 7) (punct 33 false (at 8 9) (group Brace (at 10 11) (at 11 12) end end)))
    (leaf (ident w_default) call_site (punct 33 false call_site (group Brace call_site call_site end end)))
    (end)
unfolding left is_end lookahead_at sees take_token take_lifetime take_mark take_group before first_span rows_for rows run parse_rule
item_rest_border_8 = computed item_rest _ _ _ refl

-- `type a = ! ;` prints `type a = ! ;`
item_rest_border_9 : DerivesAs item_rest
    (leaf (ident w_type) (at 0 4) (leaf (ident (97 ∷ [])) (at 5 6) (punct 61 false (at 7 8) (punct 33 false (at 9 10) (punct 59 false (at 11 12) end)))))
    (leaf (ident w_type) call_site (leaf (ident (97 ∷ [])) call_site (punct 61 false call_site (punct 33 false call_site (punct 59 false call_site end)))))
    (end)
unfolding left is_end lookahead_at sees take_token take_lifetime take_mark take_group before first_span rows_for rows run parse_rule
item_rest_border_9 = computed item_rest _ _ _ refl

-- `fn auto () {}` prints `fn auto () {}`
item_rest_border_10 : DerivesAs item_rest
    (leaf (ident w_fn) (at 0 2) (leaf (ident w_auto) (at 3 7) (group Paren (at 8 9) (at 9 10) end (group Brace (at 11 12) (at 12 13) end end))))
    (leaf (ident w_fn) call_site (leaf (ident w_auto) call_site (group Paren call_site call_site end (group Brace call_site call_site end end))))
    (end)
unfolding left is_end lookahead_at sees take_token take_lifetime take_mark take_group before first_span rows_for rows run parse_rule
item_rest_border_10 = computed item_rest _ _ _ refl

-- `extern crate a ;` prints `extern crate a ;`
item_rest_border_11 : DerivesAs item_rest
    (leaf (ident w_extern) (at 0 6) (leaf (ident w_crate) (at 7 12) (leaf (ident (97 ∷ [])) (at 13 14) (punct 59 false (at 15 16) end))))
    (leaf (ident w_extern) call_site (leaf (ident w_crate) call_site (leaf (ident (97 ∷ [])) call_site (punct 59 false call_site end))))
    (end)
unfolding left is_end lookahead_at sees take_token take_lifetime take_mark take_group before first_span rows_for rows run parse_rule
item_rest_border_11 = computed item_rest _ _ _ refl

-- `const _ :() =return ;` prints `const _ : () = return ;`
item_rest_border_12 : DerivesAs item_rest
    (leaf (ident w_const) (at 0 5) (leaf (ident w_underscore) (at 6 7) (punct 58 false (at 8 9) (group Paren (at 9 10) (at 10 11) end (punct 61 false (at 12 13) (leaf (ident w_return) (at 13 19) (punct 59 false (at 20 21) end)))))))
    (leaf (ident w_const) call_site (leaf (ident w_underscore) call_site (punct 58 false call_site (group Paren call_site call_site end (punct 61 false call_site (leaf (ident w_return) call_site (punct 59 false call_site end)))))))
    (end)
unfolding left is_end lookahead_at sees take_token take_lifetime take_mark take_group before first_span rows_for rows run parse_rule
item_rest_border_12 = computed item_rest _ _ _ refl

-- `static default : ! = & true ;` prints `static default : ! = & true ;`
item_rest_border_13 : DerivesAs item_rest
    (leaf (ident w_static) (at 0 6) (leaf (ident w_default) (at 7 14) (punct 58 false (at 15 16) (punct 33 false (at 17 18) (punct 61 false (at 19 20) (punct 38 false (at 21 22) (leaf (ident w_true) (at 23 27) (punct 59 false (at 28 29) end))))))))
    (leaf (ident w_static) call_site (leaf (ident w_default) call_site (punct 58 false call_site (punct 33 false call_site (punct 61 false call_site (punct 38 false call_site (leaf (ident w_true) call_site (punct 59 false call_site end))))))))
    (end)
unfolding left is_end lookahead_at sees take_token take_lifetime take_mark take_group before first_span rows_for rows run parse_rule
item_rest_border_13 = computed item_rest _ _ _ refl

-- `mod a ;` prints `mod a ;`
item_border_1 : DerivesAs item
    (leaf (ident w_mod) (at 0 3) (leaf (ident (97 ∷ [])) (at 4 5) (punct 59 false (at 6 7) end)))
    (leaf (ident w_mod) call_site (leaf (ident (97 ∷ [])) call_site (punct 59 false call_site end)))
    (end)
unfolding left is_end lookahead_at sees take_token take_lifetime take_mark take_group before first_span rows_for rows run parse_rule
item_border_1 = computed item _ _ _ refl

-- `use a ;` prints `use a ;`
item_border_2 : DerivesAs item
    (leaf (ident w_use) (at 0 3) (leaf (ident (97 ∷ [])) (at 4 5) (punct 59 false (at 6 7) end)))
    (leaf (ident w_use) call_site (leaf (ident (97 ∷ [])) call_site (punct 59 false call_site end)))
    (end)
unfolding left is_end lookahead_at sees take_token take_lifetime take_mark take_group before first_span rows_for rows run parse_rule
item_border_2 = computed item _ _ _ refl

-- `enum a {}` prints `enum a {}`
item_border_3 : DerivesAs item
    (leaf (ident w_enum) (at 0 4) (leaf (ident (97 ∷ [])) (at 5 6) (group Brace (at 7 8) (at 8 9) end end)))
    (leaf (ident w_enum) call_site (leaf (ident (97 ∷ [])) call_site (group Brace call_site call_site end end)))
    (end)
unfolding left is_end lookahead_at sees take_token take_lifetime take_mark take_group before first_span rows_for rows run parse_rule
item_border_3 = computed item _ _ _ refl

-- `impl ! {}` prints `impl ! {}`
item_border_4 : DerivesAs item
    (leaf (ident w_impl) (at 0 4) (punct 33 false (at 5 6) (group Brace (at 7 8) (at 8 9) end end)))
    (leaf (ident w_impl) call_site (punct 33 false call_site (group Brace call_site call_site end end)))
    (end)
unfolding left is_end lookahead_at sees take_token take_lifetime take_mark take_group before first_span rows_for rows run parse_rule
item_border_4 = computed item _ _ _ refl

-- `fn a () {}` prints `fn a () {}`
item_border_5 : DerivesAs item
    (leaf (ident w_fn) (at 0 2) (leaf (ident (97 ∷ [])) (at 3 4) (group Paren (at 5 6) (at 6 7) end (group Brace (at 8 9) (at 9 10) end end))))
    (leaf (ident w_fn) call_site (leaf (ident (97 ∷ [])) call_site (group Paren call_site call_site end (group Brace call_site call_site end end))))
    (end)
unfolding left is_end lookahead_at sees take_token take_lifetime take_mark take_group before first_span rows_for rows run parse_rule
item_border_5 = computed item _ _ _ refl

-- `union a {}` prints `union a {}`
item_border_6 : DerivesAs item
    (leaf (ident w_union) (at 0 5) (leaf (ident (97 ∷ [])) (at 6 7) (group Brace (at 8 9) (at 9 10) end end)))
    (leaf (ident w_union) call_site (leaf (ident (97 ∷ [])) call_site (group Brace call_site call_site end end)))
    (end)
unfolding left is_end lookahead_at sees take_token take_lifetime take_mark take_group before first_span rows_for rows run parse_rule
item_border_6 = computed item _ _ _ refl

-- `extern {} b` prints `extern {}` and leaves `b`
item_border_7 : DerivesAs item
    (leaf (ident w_extern) (at 0 6) (group Brace (at 7 8) (at 8 9) end (leaf (ident (98 ∷ [])) (at 10 11) end)))
    (leaf (ident w_extern) call_site (group Brace call_site call_site end end))
    (leaf (ident (98 ∷ [])) (at 10 11) end)
unfolding left is_end lookahead_at sees take_token take_lifetime take_mark take_group before first_span rows_for rows run parse_rule
item_border_7 = computed item _ _ _ refl

-- `trait a = ;` prints `trait a = ;`
item_border_8 : DerivesAs item
    (leaf (ident w_trait) (at 0 5) (leaf (ident (97 ∷ [])) (at 6 7) (punct 61 false (at 8 9) (punct 59 false (at 10 11) end))))
    (leaf (ident w_trait) call_site (leaf (ident (97 ∷ [])) call_site (punct 61 false call_site (punct 59 false call_site end))))
    (end)
unfolding left is_end lookahead_at sees take_token take_lifetime take_mark take_group before first_span rows_for rows run parse_rule
item_border_8 = computed item _ _ _ refl

-- `extern crate a ;` prints `extern crate a ;`
item_border_9 : DerivesAs item
    (leaf (ident w_extern) (at 0 6) (leaf (ident w_crate) (at 7 12) (leaf (ident (97 ∷ [])) (at 13 14) (punct 59 false (at 15 16) end))))
    (leaf (ident w_extern) call_site (leaf (ident w_crate) call_site (leaf (ident (97 ∷ [])) call_site (punct 59 false call_site end))))
    (end)
unfolding left is_end lookahead_at sees take_token take_lifetime take_mark take_group before first_span rows_for rows run parse_rule
item_border_9 = computed item _ _ _ refl

-- `type safe = () ;` prints `type safe = () ;`
item_border_10 : DerivesAs item
    (leaf (ident w_type) (at 0 4) (leaf (ident w_safe) (at 5 9) (punct 61 false (at 10 11) (group Paren (at 12 13) (at 13 14) end (punct 59 false (at 15 16) end)))))
    (leaf (ident w_type) call_site (leaf (ident w_safe) call_site (punct 61 false call_site (group Paren call_site call_site end (punct 59 false call_site end)))))
    (end)
unfolding left is_end lookahead_at sees take_token take_lifetime take_mark take_group before first_span rows_for rows run parse_rule
item_border_10 = computed item _ _ _ refl

-- `const _ : () = break ;` prints `const _ : () = break ;`
item_border_11 : DerivesAs item
    (leaf (ident w_const) (at 0 5) (leaf (ident w_underscore) (at 6 7) (punct 58 false (at 8 9) (group Paren (at 10 11) (at 11 12) end (punct 61 false (at 13 14) (leaf (ident w_break) (at 15 20) (punct 59 false (at 21 22) end)))))))
    (leaf (ident w_const) call_site (leaf (ident w_underscore) call_site (punct 58 false call_site (group Paren call_site call_site end (punct 61 false call_site (leaf (ident w_break) call_site (punct 59 false call_site end)))))))
    (end)
unfolding left is_end lookahead_at sees take_token take_lifetime take_mark take_group before first_span rows_for rows run parse_rule
item_border_11 = computed item _ _ _ refl

-- `static safe : & union = c"x" ;` prints `static safe : & union = c"x" ;`
item_border_12 : DerivesAs item
    (leaf (ident w_static) (at 0 6) (leaf (ident w_safe) (at 7 11) (punct 58 false (at 12 13) (punct 38 false (at 14 15) (leaf (ident w_union) (at 16 21) (punct 61 false (at 22 23) (leaf (literal CStr (99 ∷ 34 ∷ 120 ∷ 34 ∷ [])) (at 24 28) (punct 59 false (at 29 30) end))))))))
    (leaf (ident w_static) call_site (leaf (ident w_safe) call_site (punct 58 false call_site (punct 38 false call_site (leaf (ident w_union) call_site (punct 61 false call_site (leaf (literal CStr (99 ∷ 34 ∷ 120 ∷ 34 ∷ [])) call_site (punct 59 false call_site end))))))))
    (end)
unfolding left is_end lookahead_at sees take_token take_lifetime take_mark take_group before first_span rows_for rows run parse_rule
item_border_12 = computed item _ _ _ refl

-- `extern {}` prints `extern {}`
items_border_1 : DerivesAs items
    (leaf (ident w_extern) (at 0 6) (group Brace (at 7 8) (at 8 9) end end))
    (leaf (ident w_extern) call_site (group Brace call_site call_site end end))
    (end)
unfolding left is_end lookahead_at sees take_token take_lifetime take_mark take_group before first_span rows_for rows run parse_rule
items_border_1 = computed items _ _ _ refl
