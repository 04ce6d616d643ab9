-- Written by tools/grammar.py from specs/Table.antt; edits are lost.
-- Worked examples of fields and variants, from tools/examples.txt: what each rule reads, prints and refuses. The checker computes each.
use Rattle.std.proofs.Common.{true, false, [], ◌∷◌, refl}
use Rattle.syn_grammar.specs.Words.{w_underscore, w_as, w_crate, w_false, w_fn, w_in, w_pub, w_Self_type, w_self, w_struct, w_super, w_true, w_union, w_auto, w_default, w_safe}
use Rattle.syn_grammar.specs.Tokens.{call_site, Paren, Brace, Bracket, None, Int, ident, literal, end, leaf, punct, group}
use Rattle.syn_grammar.specs.Rules.{fields_named, named_fields, named_field, nameless_fields, unnamed_field, unnamed_fields, fields_unnamed, variant, variants}
use Rattle.syn_grammar.specs.Grammar.{rule}
use Rattle.syn_grammar.specs.Take.{left, is_end, lookahead_at, sees, take_token, take_lifetime, take_mark, take_group, before}
use Rattle.syn_grammar.specs.Run.{rows_for, rows, run, parse_rule}
use Rattle.syn_grammar.specs.Promises.{Refused, NotDerived}
use Rattle.syn_grammar.proofs.Means.{not_derived}
use Rattle.syn_grammar.proofs.Shown.{at, DerivesAs, computed, not_read}

-- `{ a: u8, pub b: T }` prints `{ a : u8 , pub b : T }`
braces_two : DerivesAs fields_named
    (group Brace (at 0 1) (at 18 19) (leaf (ident (97 ∷ [])) (at 2 3) (punct 58 false (at 3 4) (leaf (ident (117 ∷ 56 ∷ [])) (at 5 7) (punct 44 false (at 7 8) (leaf (ident w_pub) (at 9 12) (leaf (ident (98 ∷ [])) (at 13 14) (punct 58 false (at 14 15) (leaf (ident (84 ∷ [])) (at 16 17) end)))))))) end)
    (group Brace call_site call_site (leaf (ident (97 ∷ [])) call_site (punct 58 false call_site (leaf (ident (117 ∷ 56 ∷ [])) call_site (punct 44 false call_site (leaf (ident w_pub) call_site (leaf (ident (98 ∷ [])) call_site (punct 58 false call_site (leaf (ident (84 ∷ [])) call_site end)))))))) end)
    (end)
unfolding left is_end lookahead_at sees take_token take_lifetime take_mark take_group before rows_for rows run parse_rule
braces_two = computed fields_named _ _ _ refl

-- `[]`: nothing is read
braces_brackets : NotDerived (rule fields_named)
    (group Bracket (at 0 1) (at 1 2) end end)
unfolding left is_end lookahead_at sees take_token take_lifetime take_mark take_group before rows_for rows run parse_rule
braces_brackets = not_read fields_named _ refl

-- `{ a: b c: d }`: nothing is read
braces_no_comma : NotDerived (rule fields_named)
    (group Brace (at 0 1) (at 12 13) (leaf (ident (97 ∷ [])) (at 2 3) (punct 58 false (at 3 4) (leaf (ident (98 ∷ [])) (at 5 6) (leaf (ident (99 ∷ [])) (at 7 8) (punct 58 false (at 8 9) (leaf (ident (100 ∷ [])) (at 10 11) end)))))) end)
unfolding left is_end lookahead_at sees take_token take_lifetime take_mark take_group before rows_for rows run parse_rule
braces_no_comma = not_read fields_named _ refl

-- `()`: nothing is read
braces_parentheses : NotDerived (rule fields_named)
    (group Paren (at 0 1) (at 1 2) end end)
unfolding left is_end lookahead_at sees take_token take_lifetime take_mark take_group before rows_for rows run parse_rule
braces_parentheses = not_read fields_named _ refl

-- `{} {}` prints `{ }` and leaves `{}`
braces_leave_braces : DerivesAs fields_named
    (group Brace (at 0 1) (at 1 2) end (group Brace (at 3 4) (at 4 5) end end))
    (group Brace call_site call_site end end)
    (group Brace (at 3 4) (at 4 5) end end)
unfolding left is_end lookahead_at sees take_token take_lifetime take_mark take_group before rows_for rows run parse_rule
braces_leave_braces = computed fields_named _ _ _ refl

-- `a: u8, b: T,` prints `a : u8 , b : T ,`
named_list_two : DerivesAs named_fields
    (leaf (ident (97 ∷ [])) (at 0 1) (punct 58 false (at 1 2) (leaf (ident (117 ∷ 56 ∷ [])) (at 3 5) (punct 44 false (at 5 6) (leaf (ident (98 ∷ [])) (at 7 8) (punct 58 false (at 8 9) (leaf (ident (84 ∷ [])) (at 10 11) (punct 44 false (at 11 12) end))))))))
    (leaf (ident (97 ∷ [])) call_site (punct 58 false call_site (leaf (ident (117 ∷ 56 ∷ [])) call_site (punct 44 false call_site (leaf (ident (98 ∷ [])) call_site (punct 58 false call_site (leaf (ident (84 ∷ [])) call_site (punct 44 false call_site end))))))))
    (end)
unfolding left is_end lookahead_at sees take_token take_lifetime take_mark take_group before rows_for rows run parse_rule
named_list_two = computed named_fields _ _ _ refl

-- `a: b c` prints `a : b` and leaves `c`
named_list_leaves_word : DerivesAs named_fields
    (leaf (ident (97 ∷ [])) (at 0 1) (punct 58 false (at 1 2) (leaf (ident (98 ∷ [])) (at 3 4) (leaf (ident (99 ∷ [])) (at 5 6) end))))
    (leaf (ident (97 ∷ [])) call_site (punct 58 false call_site (leaf (ident (98 ∷ [])) call_site end)))
    (leaf (ident (99 ∷ [])) (at 5 6) end)
unfolding left is_end lookahead_at sees take_token take_lifetime take_mark take_group before rows_for rows run parse_rule
named_list_leaves_word = computed named_fields _ _ _ refl

-- `a: b` prints `a : b`
named_list_one : DerivesAs named_fields
    (leaf (ident (97 ∷ [])) (at 0 1) (punct 58 false (at 1 2) (leaf (ident (98 ∷ [])) (at 3 4) end)))
    (leaf (ident (97 ∷ [])) call_site (punct 58 false call_site (leaf (ident (98 ∷ [])) call_site end)))
    (end)
unfolding left is_end lookahead_at sees take_token take_lifetime take_mark take_group before rows_for rows run parse_rule
named_list_one = computed named_fields _ _ _ refl

-- `, a: b c: d`: nothing is read
named_list_comma_first : NotDerived (rule named_fields)
    (punct 44 false (at 0 1) (leaf (ident (97 ∷ [])) (at 2 3) (punct 58 false (at 3 4) (leaf (ident (98 ∷ [])) (at 5 6) (leaf (ident (99 ∷ [])) (at 7 8) (punct 58 false (at 8 9) (leaf (ident (100 ∷ [])) (at 10 11) end)))))))
unfolding left is_end lookahead_at sees take_token take_lifetime take_mark take_group before rows_for rows run parse_rule
named_list_comma_first = not_read named_fields _ refl

-- `a: b, _: c[]` prints `a : b , _ : c` and leaves `[]`
named_list_leaves_brackets : DerivesAs named_fields
    (leaf (ident (97 ∷ [])) (at 0 1) (punct 58 false (at 1 2) (leaf (ident (98 ∷ [])) (at 3 4) (punct 44 false (at 4 5) (leaf (ident w_underscore) (at 6 7) (punct 58 false (at 7 8) (leaf (ident (99 ∷ [])) (at 9 10) (group Bracket (at 10 11) (at 11 12) end end))))))))
    (leaf (ident (97 ∷ [])) call_site (punct 58 false call_site (leaf (ident (98 ∷ [])) call_site (punct 44 false call_site (leaf (ident w_underscore) call_site (punct 58 false call_site (leaf (ident (99 ∷ [])) call_site end)))))))
    (group Bracket (at 10 11) (at 11 12) end end)
unfolding left is_end lookahead_at sees take_token take_lifetime take_mark take_group before rows_for rows run parse_rule
named_list_leaves_brackets = computed named_fields _ _ _ refl

-- `a: b,, c: d`: nothing is read
named_list_two_commas : NotDerived (rule named_fields)
    (leaf (ident (97 ∷ [])) (at 0 1) (punct 58 false (at 1 2) (leaf (ident (98 ∷ [])) (at 3 4) (punct 44 true (at 4 5) (punct 44 false (at 5 6) (leaf (ident (99 ∷ [])) (at 7 8) (punct 58 false (at 8 9) (leaf (ident (100 ∷ [])) (at 10 11) end))))))))
unfolding left is_end lookahead_at sees take_token take_lifetime take_mark take_group before rows_for rows run parse_rule
named_list_two_commas = not_read named_fields _ refl

-- `_: struct {};` prints `_ : struct { }` and leaves `;`
named_list_semicolon : DerivesAs named_fields
    (leaf (ident w_underscore) (at 0 1) (punct 58 false (at 1 2) (leaf (ident w_struct) (at 3 9) (group Brace (at 10 11) (at 11 12) end (punct 59 false (at 12 13) end)))))
    (leaf (ident w_underscore) call_site (punct 58 false call_site (leaf (ident w_struct) call_site (group Brace call_site call_site end end))))
    (punct 59 false (at 12 13) end)
unfolding left is_end lookahead_at sees take_token take_lifetime take_mark take_group before rows_for rows run parse_rule
named_list_semicolon = computed named_fields _ _ _ refl

-- `pub a: u8 = 1` prints `pub a : u8 = 1`
named_default : DerivesAs named_field
    (leaf (ident w_pub) (at 0 3) (leaf (ident (97 ∷ [])) (at 4 5) (punct 58 false (at 5 6) (leaf (ident (117 ∷ 56 ∷ [])) (at 7 9) (punct 61 false (at 10 11) (leaf (literal Int (49 ∷ [])) (at 12 13) end))))))
    (leaf (ident w_pub) call_site (leaf (ident (97 ∷ [])) call_site (punct 58 false call_site (leaf (ident (117 ∷ 56 ∷ [])) call_site (punct 61 false call_site (leaf (literal Int (49 ∷ [])) call_site end))))))
    (end)
unfolding left is_end lookahead_at sees take_token take_lifetime take_mark take_group before rows_for rows run parse_rule
named_default = computed named_field _ _ _ refl

-- `pub enabled: bool` prints `pub enabled : bool`
named_enabled : DerivesAs named_field
    (leaf (ident w_pub) (at 0 3) (leaf (ident (101 ∷ 110 ∷ 97 ∷ 98 ∷ 108 ∷ 101 ∷ 100 ∷ [])) (at 4 11) (punct 58 false (at 11 12) (leaf (ident (98 ∷ 111 ∷ 111 ∷ 108 ∷ [])) (at 13 17) end))))
    (leaf (ident w_pub) call_site (leaf (ident (101 ∷ 110 ∷ 97 ∷ 98 ∷ 108 ∷ 101 ∷ 100 ∷ [])) call_site (punct 58 false call_site (leaf (ident (98 ∷ 111 ∷ 111 ∷ 108 ∷ [])) call_site end))))
    (end)
unfolding left is_end lookahead_at sees take_token take_lifetime take_mark take_group before rows_for rows run parse_rule
named_enabled = computed named_field _ _ _ refl

-- `a:::b` prints `a : :: b`
named_split : DerivesAs named_field
    (leaf (ident (97 ∷ [])) (at 0 1) (punct 58 true (at 1 2) (punct 58 true (at 2 3) (punct 58 false (at 3 4) (leaf (ident (98 ∷ [])) (at 4 5) end)))))
    (leaf (ident (97 ∷ [])) call_site (punct 58 false call_site (punct 58 true call_site (punct 58 false call_site (leaf (ident (98 ∷ [])) call_site end)))))
    (end)
unfolding left is_end lookahead_at sees take_token take_lifetime take_mark take_group before rows_for rows run parse_rule
named_split = computed named_field _ _ _ refl

-- `_: union { a: u8 }` prints `_ : union { a : u8 }`
named_underscore : DerivesAs named_field
    (leaf (ident w_underscore) (at 0 1) (punct 58 false (at 1 2) (leaf (ident w_union) (at 3 8) (group Brace (at 9 10) (at 17 18) (leaf (ident (97 ∷ [])) (at 11 12) (punct 58 false (at 12 13) (leaf (ident (117 ∷ 56 ∷ [])) (at 14 16) end))) end))))
    (leaf (ident w_underscore) call_site (punct 58 false call_site (leaf (ident w_union) call_site (group Brace call_site call_site (leaf (ident (97 ∷ [])) call_site (punct 58 false call_site (leaf (ident (117 ∷ 56 ∷ [])) call_site end))) end))))
    (end)
unfolding left is_end lookahead_at sees take_token take_lifetime take_mark take_group before rows_for rows run parse_rule
named_underscore = computed named_field _ _ _ refl

-- `_: struct { #[a==b] c:::d }` prints `_ : struct { # [ a == b ] c ::: d }`
named_underscore_kept : DerivesAs named_field
    (leaf (ident w_underscore) (at 0 1) (punct 58 false (at 1 2) (leaf (ident w_struct) (at 3 9) (group Brace (at 10 11) (at 26 27) (punct 35 false (at 12 13) (group Bracket (at 13 14) (at 18 19) (leaf (ident (97 ∷ [])) (at 14 15) (punct 61 true (at 15 16) (punct 61 false (at 16 17) (leaf (ident (98 ∷ [])) (at 17 18) end)))) (leaf (ident (99 ∷ [])) (at 20 21) (punct 58 true (at 21 22) (punct 58 true (at 22 23) (punct 58 false (at 23 24) (leaf (ident (100 ∷ [])) (at 24 25) end))))))) end))))
    (leaf (ident w_underscore) call_site (punct 58 false call_site (leaf (ident w_struct) call_site (group Brace call_site call_site (punct 35 false call_site (group Bracket call_site call_site (leaf (ident (97 ∷ [])) call_site (punct 61 true call_site (punct 61 false call_site (leaf (ident (98 ∷ [])) call_site end)))) (leaf (ident (99 ∷ [])) call_site (punct 58 true call_site (punct 58 true call_site (punct 58 false call_site (leaf (ident (100 ∷ [])) call_site end))))))) end))))
    (end)
unfolding left is_end lookahead_at sees take_token take_lifetime take_mark take_group before rows_for rows run parse_rule
named_underscore_kept = computed named_field _ _ _ refl

-- `_: union` prints `_ : union`
named_underscore_union : DerivesAs named_field
    (leaf (ident w_underscore) (at 0 1) (punct 58 false (at 1 2) (leaf (ident w_union) (at 3 8) end)))
    (leaf (ident w_underscore) call_site (punct 58 false call_site (leaf (ident w_union) call_site end)))
    (end)
unfolding left is_end lookahead_at sees take_token take_lifetime take_mark take_group before rows_for rows run parse_rule
named_underscore_union = computed named_field _ _ _ refl

-- `_: struct`: nothing is read
named_underscore_open : NotDerived (rule named_field)
    (leaf (ident w_underscore) (at 0 1) (punct 58 false (at 1 2) (leaf (ident w_struct) (at 3 9) end)))
unfolding left is_end lookahead_at sees take_token take_lifetime take_mark take_group before rows_for rows run parse_rule
named_underscore_open = not_read named_field _ refl

-- `_: a {}` prints `_ : a` and leaves `{}`
named_brace : DerivesAs named_field
    (leaf (ident w_underscore) (at 0 1) (punct 58 false (at 1 2) (leaf (ident (97 ∷ [])) (at 3 4) (group Brace (at 5 6) (at 6 7) end end))))
    (leaf (ident w_underscore) call_site (punct 58 false call_site (leaf (ident (97 ∷ [])) call_site end)))
    (group Brace (at 5 6) (at 6 7) end end)
unfolding left is_end lookahead_at sees take_token take_lifetime take_mark take_group before rows_for rows run parse_rule
named_brace = computed named_field _ _ _ refl

-- `_: union::a {}` prints `_ : union :: a` and leaves `{}`
named_union_path : DerivesAs named_field
    (leaf (ident w_underscore) (at 0 1) (punct 58 false (at 1 2) (leaf (ident w_union) (at 3 8) (punct 58 true (at 8 9) (punct 58 false (at 9 10) (leaf (ident (97 ∷ [])) (at 10 11) (group Brace (at 12 13) (at 13 14) end end)))))))
    (leaf (ident w_underscore) call_site (punct 58 false call_site (leaf (ident w_union) call_site (punct 58 true call_site (punct 58 false call_site (leaf (ident (97 ∷ [])) call_site end))))))
    (group Brace (at 12 13) (at 13 14) end end)
unfolding left is_end lookahead_at sees take_token take_lifetime take_mark take_group before rows_for rows run parse_rule
named_union_path = computed named_field _ _ _ refl

-- `_: union {} a` prints `_ : union {}` and leaves `a`
named_union_brace : DerivesAs named_field
    (leaf (ident w_underscore) (at 0 1) (punct 58 false (at 1 2) (leaf (ident w_union) (at 3 8) (group Brace (at 9 10) (at 10 11) end (leaf (ident (97 ∷ [])) (at 12 13) end)))))
    (leaf (ident w_underscore) call_site (punct 58 false call_site (leaf (ident w_union) call_site (group Brace call_site call_site end end))))
    (leaf (ident (97 ∷ [])) (at 12 13) end)
unfolding left is_end lookahead_at sees take_token take_lifetime take_mark take_group before rows_for rows run parse_rule
named_union_brace = computed named_field _ _ _ refl

-- `= 1 a: a`: nothing is read
named_default_first : NotDerived (rule named_field)
    (punct 61 false (at 0 1) (leaf (literal Int (49 ∷ [])) (at 2 3) (leaf (ident (97 ∷ [])) (at 4 5) (punct 58 false (at 5 6) (leaf (ident (97 ∷ [])) (at 7 8) end)))))
unfolding left is_end lookahead_at sees take_token take_lifetime take_mark take_group before rows_for rows run parse_rule
named_default_first = not_read named_field _ refl

-- `a: b c` prints `a : b` and leaves `c`
named_leaves_type : DerivesAs named_field
    (leaf (ident (97 ∷ [])) (at 0 1) (punct 58 false (at 1 2) (leaf (ident (98 ∷ [])) (at 3 4) (leaf (ident (99 ∷ [])) (at 5 6) end))))
    (leaf (ident (97 ∷ [])) call_site (punct 58 false call_site (leaf (ident (98 ∷ [])) call_site end)))
    (leaf (ident (99 ∷ [])) (at 5 6) end)
unfolding left is_end lookahead_at sees take_token take_lifetime take_mark take_group before rows_for rows run parse_rule
named_leaves_type = computed named_field _ _ _ refl

-- `a:`: nothing is read
named_no_type : NotDerived (rule named_field)
    (leaf (ident (97 ∷ [])) (at 0 1) (punct 58 false (at 1 2) end))
unfolding left is_end lookahead_at sees take_token take_lifetime take_mark take_group before rows_for rows run parse_rule
named_no_type = not_read named_field _ refl

-- `fn: a`: nothing is read
named_keyword : NotDerived (rule named_field)
    (leaf (ident w_fn) (at 0 2) (punct 58 false (at 2 3) (leaf (ident (97 ∷ [])) (at 4 5) end)))
unfolding left is_end lookahead_at sees take_token take_lifetime take_mark take_group before rows_for rows run parse_rule
named_keyword = not_read named_field _ refl

-- `a: b == true`: nothing is read
named_equals_twice : NotDerived (rule named_field)
    (leaf (ident (97 ∷ [])) (at 0 1) (punct 58 false (at 1 2) (leaf (ident (98 ∷ [])) (at 3 4) (punct 61 true (at 5 6) (punct 61 false (at 6 7) (leaf (ident w_true) (at 8 12) end))))))
unfolding left is_end lookahead_at sees take_token take_lifetime take_mark take_group before rows_for rows run parse_rule
named_equals_twice = not_read named_field _ refl

-- `a b: c`: nothing is read
named_two_names : NotDerived (rule named_field)
    (leaf (ident (97 ∷ [])) (at 0 1) (leaf (ident (98 ∷ [])) (at 2 3) (punct 58 false (at 3 4) (leaf (ident (99 ∷ [])) (at 5 6) end))))
unfolding left is_end lookahead_at sees take_token take_lifetime take_mark take_group before rows_for rows run parse_rule
named_two_names = not_read named_field _ refl

-- `_::a`: nothing is read
named_underscore_colons : NotDerived (rule named_field)
    (leaf (ident w_underscore) (at 0 1) (punct 58 true (at 1 2) (punct 58 false (at 2 3) (leaf (ident (97 ∷ [])) (at 3 4) end))))
unfolding left is_end lookahead_at sees take_token take_lifetime take_mark take_group before rows_for rows run parse_rule
named_underscore_colons = not_read named_field _ refl

-- `_: a #` prints `_ : a` and leaves `#`
named_underscore_leaves_pound : DerivesAs named_field
    (leaf (ident w_underscore) (at 0 1) (punct 58 false (at 1 2) (leaf (ident (97 ∷ [])) (at 3 4) (punct 35 false (at 5 6) end))))
    (leaf (ident w_underscore) call_site (punct 58 false call_site (leaf (ident (97 ∷ [])) call_site end)))
    (punct 35 false (at 5 6) end)
unfolding left is_end lookahead_at sees take_token take_lifetime take_mark take_group before rows_for rows run parse_rule
named_underscore_leaves_pound = computed named_field _ _ _ refl

-- `_ a: b`: nothing is read
named_underscore_name : NotDerived (rule named_field)
    (leaf (ident w_underscore) (at 0 1) (leaf (ident (97 ∷ [])) (at 2 3) (punct 58 false (at 3 4) (leaf (ident (98 ∷ [])) (at 5 6) end))))
unfolding left is_end lookahead_at sees take_token take_lifetime take_mark take_group before rows_for rows run parse_rule
named_underscore_name = not_read named_field _ refl

-- `: a: b`: nothing is read
named_colon_first : NotDerived (rule named_field)
    (punct 58 false (at 0 1) (leaf (ident (97 ∷ [])) (at 2 3) (punct 58 false (at 3 4) (leaf (ident (98 ∷ [])) (at 5 6) end))))
unfolding left is_end lookahead_at sees take_token take_lifetime take_mark take_group before rows_for rows run parse_rule
named_colon_first = not_read named_field _ refl

-- `pub #[a] b: c`: nothing is read
named_attribute_after_pub : NotDerived (rule named_field)
    (leaf (ident w_pub) (at 0 3) (punct 35 false (at 4 5) (group Bracket (at 5 6) (at 7 8) (leaf (ident (97 ∷ [])) (at 6 7) end) (leaf (ident (98 ∷ [])) (at 9 10) (punct 58 false (at 10 11) (leaf (ident (99 ∷ [])) (at 12 13) end))))))
unfolding left is_end lookahead_at sees take_token take_lifetime take_mark take_group before rows_for rows run parse_rule
named_attribute_after_pub = not_read named_field _ refl

-- `a: b pub` prints `a : b` and leaves `pub`
named_leaves_pub : DerivesAs named_field
    (leaf (ident (97 ∷ [])) (at 0 1) (punct 58 false (at 1 2) (leaf (ident (98 ∷ [])) (at 3 4) (leaf (ident w_pub) (at 5 8) end))))
    (leaf (ident (97 ∷ [])) call_site (punct 58 false call_site (leaf (ident (98 ∷ [])) call_site end)))
    (leaf (ident w_pub) (at 5 8) end)
unfolding left is_end lookahead_at sees take_token take_lifetime take_mark take_group before rows_for rows run parse_rule
named_leaves_pub = computed named_field _ _ _ refl

-- `a: b = true =`: nothing is read
named_default_two_equals : NotDerived (rule named_field)
    (leaf (ident (97 ∷ [])) (at 0 1) (punct 58 false (at 1 2) (leaf (ident (98 ∷ [])) (at 3 4) (punct 61 false (at 5 6) (leaf (ident w_true) (at 7 11) (punct 61 false (at 12 13) end))))))
unfolding left is_end lookahead_at sees take_token take_lifetime take_mark take_group before rows_for rows run parse_rule
named_default_two_equals = not_read named_field _ refl

-- `a: b = 1 + c` prints `a : b = 1 + c`
named_default_sum : DerivesAs named_field
    (leaf (ident (97 ∷ [])) (at 0 1) (punct 58 false (at 1 2) (leaf (ident (98 ∷ [])) (at 3 4) (punct 61 false (at 5 6) (leaf (literal Int (49 ∷ [])) (at 7 8) (punct 43 false (at 9 10) (leaf (ident (99 ∷ [])) (at 11 12) end)))))))
    (leaf (ident (97 ∷ [])) call_site (punct 58 false call_site (leaf (ident (98 ∷ [])) call_site (punct 61 false call_site (leaf (literal Int (49 ∷ [])) call_site (punct 43 false call_site (leaf (ident (99 ∷ [])) call_site end)))))))
    (end)
unfolding left is_end lookahead_at sees take_token take_lifetime take_mark take_group before rows_for rows run parse_rule
named_default_sum = computed named_field _ _ _ refl

-- `a: b = c = d` prints `a : b = c = d`
named_default_assigned : DerivesAs named_field
    (leaf (ident (97 ∷ [])) (at 0 1) (punct 58 false (at 1 2) (leaf (ident (98 ∷ [])) (at 3 4) (punct 61 false (at 5 6) (leaf (ident (99 ∷ [])) (at 7 8) (punct 61 false (at 9 10) (leaf (ident (100 ∷ [])) (at 11 12) end)))))))
    (leaf (ident (97 ∷ [])) call_site (punct 58 false call_site (leaf (ident (98 ∷ [])) call_site (punct 61 false call_site (leaf (ident (99 ∷ [])) call_site (punct 61 false call_site (leaf (ident (100 ∷ [])) call_site end)))))))
    (end)
unfolding left is_end lookahead_at sees take_token take_lifetime take_mark take_group before rows_for rows run parse_rule
named_default_assigned = computed named_field _ _ _ refl

-- `a: b = 1 !` prints `a : b = 1` and leaves `!`
named_default_leaves_bang : DerivesAs named_field
    (leaf (ident (97 ∷ [])) (at 0 1) (punct 58 false (at 1 2) (leaf (ident (98 ∷ [])) (at 3 4) (punct 61 false (at 5 6) (leaf (literal Int (49 ∷ [])) (at 7 8) (punct 33 false (at 9 10) end))))))
    (leaf (ident (97 ∷ [])) call_site (punct 58 false call_site (leaf (ident (98 ∷ [])) call_site (punct 61 false call_site (leaf (literal Int (49 ∷ [])) call_site end)))))
    (punct 33 false (at 9 10) end)
unfolding left is_end lookahead_at sees take_token take_lifetime take_mark take_group before rows_for rows run parse_rule
named_default_leaves_bang = computed named_field _ _ _ refl

-- `a: b = c as d e` prints `a : b = c as d` and leaves `e`
named_default_cast : DerivesAs named_field
    (leaf (ident (97 ∷ [])) (at 0 1) (punct 58 false (at 1 2) (leaf (ident (98 ∷ [])) (at 3 4) (punct 61 false (at 5 6) (leaf (ident (99 ∷ [])) (at 7 8) (leaf (ident w_as) (at 9 11) (leaf (ident (100 ∷ [])) (at 12 13) (leaf (ident (101 ∷ [])) (at 14 15) end))))))))
    (leaf (ident (97 ∷ [])) call_site (punct 58 false call_site (leaf (ident (98 ∷ [])) call_site (punct 61 false call_site (leaf (ident (99 ∷ [])) call_site (leaf (ident w_as) call_site (leaf (ident (100 ∷ [])) call_site end)))))))
    (leaf (ident (101 ∷ [])) (at 14 15) end)
unfolding left is_end lookahead_at sees take_token take_lifetime take_mark take_group before rows_for rows run parse_rule
named_default_cast = computed named_field _ _ _ refl

-- `a = b`: nothing is read
named_equals_for_colon : NotDerived (rule named_field)
    (leaf (ident (97 ∷ [])) (at 0 1) (punct 61 false (at 2 3) (leaf (ident (98 ∷ [])) (at 4 5) end)))
unfolding left is_end lookahead_at sees take_token take_lifetime take_mark take_group before rows_for rows run parse_rule
named_equals_for_colon = not_read named_field _ refl

-- `1: a`: nothing is read
named_number : NotDerived (rule named_field)
    (leaf (literal Int (49 ∷ [])) (at 0 1) (punct 58 false (at 1 2) (leaf (ident (97 ∷ [])) (at 3 4) end)))
unfolding left is_end lookahead_at sees take_token take_lifetime take_mark take_group before rows_for rows run parse_rule
named_number = not_read named_field _ refl

-- `_: a:` prints `_ : a` and leaves `:`
named_underscore_leaves_colon : DerivesAs named_field
    (leaf (ident w_underscore) (at 0 1) (punct 58 false (at 1 2) (leaf (ident (97 ∷ [])) (at 3 4) (punct 58 false (at 4 5) end))))
    (leaf (ident w_underscore) call_site (punct 58 false call_site (leaf (ident (97 ∷ [])) call_site end)))
    (punct 58 false (at 4 5) end)
unfolding left is_end lookahead_at sees take_token take_lifetime take_mark take_group before rows_for rows run parse_rule
named_underscore_leaves_colon = computed named_field _ _ _ refl

-- `_: _ a`: nothing is read
named_underscore_no_colon : NotDerived (rule named_field)
    (leaf (ident w_underscore) (at 0 1) (punct 58 false (at 1 2) (leaf (ident w_underscore) (at 3 4) (leaf (ident (97 ∷ [])) (at 5 6) end))))
unfolding left is_end lookahead_at sees take_token take_lifetime take_mark take_group before rows_for rows run parse_rule
named_underscore_no_colon = not_read named_field _ refl

-- `_ _: a`: nothing is read
named_underscore_twice : NotDerived (rule named_field)
    (leaf (ident w_underscore) (at 0 1) (leaf (ident w_underscore) (at 2 3) (punct 58 false (at 3 4) (leaf (ident (97 ∷ [])) (at 5 6) end))))
unfolding left is_end lookahead_at sees take_token take_lifetime take_mark take_group before rows_for rows run parse_rule
named_underscore_twice = not_read named_field _ refl

-- `a: b:` prints `a : b` and leaves `:`
named_leaves_colon : DerivesAs named_field
    (leaf (ident (97 ∷ [])) (at 0 1) (punct 58 false (at 1 2) (leaf (ident (98 ∷ [])) (at 3 4) (punct 58 false (at 4 5) end))))
    (leaf (ident (97 ∷ [])) call_site (punct 58 false call_site (leaf (ident (98 ∷ [])) call_site end)))
    (punct 58 false (at 4 5) end)
unfolding left is_end lookahead_at sees take_token take_lifetime take_mark take_group before rows_for rows run parse_rule
named_leaves_colon = computed named_field _ _ _ refl

-- `self: a`: nothing is read
named_self : NotDerived (rule named_field)
    (leaf (ident w_self) (at 0 4) (punct 58 false (at 4 5) (leaf (ident (97 ∷ [])) (at 6 7) end)))
unfolding left is_end lookahead_at sees take_token take_lifetime take_mark take_group before rows_for rows run parse_rule
named_self = not_read named_field _ refl

-- `safe: a` prints `safe : a`
named_safe : DerivesAs named_field
    (leaf (ident w_safe) (at 0 4) (punct 58 false (at 4 5) (leaf (ident (97 ∷ [])) (at 6 7) end)))
    (leaf (ident w_safe) call_site (punct 58 false call_site (leaf (ident (97 ∷ [])) call_site end)))
    (end)
unfolding left is_end lookahead_at sees take_token take_lifetime take_mark take_group before rows_for rows run parse_rule
named_safe = computed named_field _ _ _ refl

-- `auto: a` prints `auto : a`
named_auto : DerivesAs named_field
    (leaf (ident w_auto) (at 0 4) (punct 58 false (at 4 5) (leaf (ident (97 ∷ [])) (at 6 7) end)))
    (leaf (ident w_auto) call_site (punct 58 false call_site (leaf (ident (97 ∷ [])) call_site end)))
    (end)
unfolding left is_end lookahead_at sees take_token take_lifetime take_mark take_group before rows_for rows run parse_rule
named_auto = computed named_field _ _ _ refl

-- `Self: a`: nothing is read
named_self_type : NotDerived (rule named_field)
    (leaf (ident w_Self_type) (at 0 4) (punct 58 false (at 4 5) (leaf (ident (97 ∷ [])) (at 6 7) end)))
unfolding left is_end lookahead_at sees take_token take_lifetime take_mark take_group before rows_for rows run parse_rule
named_self_type = not_read named_field _ refl

-- `union: !` prints `union : !`
named_union : DerivesAs named_field
    (leaf (ident w_union) (at 0 5) (punct 58 false (at 5 6) (punct 33 false (at 7 8) end)))
    (leaf (ident w_union) call_site (punct 58 false call_site (punct 33 false call_site end)))
    (end)
unfolding left is_end lookahead_at sees take_token take_lifetime take_mark take_group before rows_for rows run parse_rule
named_union = computed named_field _ _ _ refl

-- `super: a`: nothing is read
named_super : NotDerived (rule named_field)
    (leaf (ident w_super) (at 0 5) (punct 58 false (at 5 6) (leaf (ident (97 ∷ [])) (at 7 8) end)))
unfolding left is_end lookahead_at sees take_token take_lifetime take_mark take_group before rows_for rows run parse_rule
named_super = not_read named_field _ refl

-- `crate: a`: nothing is read
named_crate : NotDerived (rule named_field)
    (leaf (ident w_crate) (at 0 5) (punct 58 false (at 5 6) (leaf (ident (97 ∷ [])) (at 7 8) end)))
unfolding left is_end lookahead_at sees take_token take_lifetime take_mark take_group before rows_for rows run parse_rule
named_crate = not_read named_field _ refl

-- `pub pub a: b`: nothing is read
named_two_public : NotDerived (rule named_field)
    (leaf (ident w_pub) (at 0 3) (leaf (ident w_pub) (at 4 7) (leaf (ident (97 ∷ [])) (at 8 9) (punct 58 false (at 9 10) (leaf (ident (98 ∷ [])) (at 11 12) end)))))
unfolding left is_end lookahead_at sees take_token take_lifetime take_mark take_group before rows_for rows run parse_rule
named_two_public = not_read named_field _ refl

-- `default: a` prints `default : a`
named_called_default : DerivesAs named_field
    (leaf (ident w_default) (at 0 7) (punct 58 false (at 7 8) (leaf (ident (97 ∷ [])) (at 9 10) end)))
    (leaf (ident w_default) call_site (punct 58 false call_site (leaf (ident (97 ∷ [])) call_site end)))
    (end)
unfolding left is_end lookahead_at sees take_token take_lifetime take_mark take_group before rows_for rows run parse_rule
named_called_default = computed named_field _ _ _ refl

-- `_: struct {} _` prints `_ : struct { }` and leaves `_`
named_struct_leaves_underscore : DerivesAs named_field
    (leaf (ident w_underscore) (at 0 1) (punct 58 false (at 1 2) (leaf (ident w_struct) (at 3 9) (group Brace (at 10 11) (at 11 12) end (leaf (ident w_underscore) (at 13 14) end)))))
    (leaf (ident w_underscore) call_site (punct 58 false call_site (leaf (ident w_struct) call_site (group Brace call_site call_site end end))))
    (leaf (ident w_underscore) (at 13 14) end)
unfolding left is_end lookahead_at sees take_token take_lifetime take_mark take_group before rows_for rows run parse_rule
named_struct_leaves_underscore = computed named_field _ _ _ refl

-- `_: struct {} = false false` prints `_ : struct { } = false` and leaves `false`
named_struct_default : DerivesAs named_field
    (leaf (ident w_underscore) (at 0 1) (punct 58 false (at 1 2) (leaf (ident w_struct) (at 3 9) (group Brace (at 10 11) (at 11 12) end (punct 61 false (at 13 14) (leaf (ident w_false) (at 15 20) (leaf (ident w_false) (at 21 26) end)))))))
    (leaf (ident w_underscore) call_site (punct 58 false call_site (leaf (ident w_struct) call_site (group Brace call_site call_site end (punct 61 false call_site (leaf (ident w_false) call_site end))))))
    (leaf (ident w_false) (at 21 26) end)
unfolding left is_end lookahead_at sees take_token take_lifetime take_mark take_group before rows_for rows run parse_rule
named_struct_default = computed named_field _ _ _ refl

-- `_: struct {} struct {}` prints `_ : struct { }` and leaves `struct {}`
named_nameless_twice : DerivesAs named_field
    (leaf (ident w_underscore) (at 0 1) (punct 58 false (at 1 2) (leaf (ident w_struct) (at 3 9) (group Brace (at 10 11) (at 11 12) end (leaf (ident w_struct) (at 13 19) (group Brace (at 20 21) (at 21 22) end end))))))
    (leaf (ident w_underscore) call_site (punct 58 false call_site (leaf (ident w_struct) call_site (group Brace call_site call_site end end))))
    (leaf (ident w_struct) (at 13 19) (group Brace (at 20 21) (at 21 22) end end))
unfolding left is_end lookahead_at sees take_token take_lifetime take_mark take_group before rows_for rows run parse_rule
named_nameless_twice = computed named_field _ _ _ refl

-- `_:`: nothing is read
named_underscore_nothing : NotDerived (rule named_field)
    (leaf (ident w_underscore) (at 0 1) (punct 58 false (at 1 2) end))
unfolding left is_end lookahead_at sees take_token take_lifetime take_mark take_group before rows_for rows run parse_rule
named_underscore_nothing = not_read named_field _ refl

-- `_: !` prints `_ : !`
named_underscore_never : DerivesAs named_field
    (leaf (ident w_underscore) (at 0 1) (punct 58 false (at 1 2) (punct 33 false (at 3 4) end)))
    (leaf (ident w_underscore) call_site (punct 58 false call_site (punct 33 false call_site end)))
    (end)
unfolding left is_end lookahead_at sees take_token take_lifetime take_mark take_group before rows_for rows run parse_rule
named_underscore_never = computed named_field _ _ _ refl

-- `a: b c` prints `a : b` and leaves `c`
named_leaves_second_type : DerivesAs named_field
    (leaf (ident (97 ∷ [])) (at 0 1) (punct 58 false (at 1 2) (leaf (ident (98 ∷ [])) (at 3 4) (leaf (ident (99 ∷ [])) (at 5 6) end))))
    (leaf (ident (97 ∷ [])) call_site (punct 58 false call_site (leaf (ident (98 ∷ [])) call_site end)))
    (leaf (ident (99 ∷ [])) (at 5 6) end)
unfolding left is_end lookahead_at sees take_token take_lifetime take_mark take_group before rows_for rows run parse_rule
named_leaves_second_type = computed named_field _ _ _ refl

-- `\(\) a: b` prints `a : b`
named_invisible : DerivesAs named_field
    (group None (at 0 2) (at 2 4) end (leaf (ident (97 ∷ [])) (at 5 6) (punct 58 false (at 6 7) (leaf (ident (98 ∷ [])) (at 8 9) end))))
    (leaf (ident (97 ∷ [])) call_site (punct 58 false call_site (leaf (ident (98 ∷ [])) call_site end)))
    (end)
unfolding left is_end lookahead_at sees take_token take_lifetime take_mark take_group before rows_for rows run parse_rule
named_invisible = computed named_field _ _ _ refl

-- `\(\) _: struct { \(\) a: b }` prints `_ : struct { \(\) a : b }`
named_invisible_underscore : DerivesAs named_field
    (group None (at 0 2) (at 2 4) end (leaf (ident w_underscore) (at 5 6) (punct 58 false (at 6 7) (leaf (ident w_struct) (at 8 14) (group Brace (at 15 16) (at 27 28) (group None (at 17 19) (at 19 21) end (leaf (ident (97 ∷ [])) (at 22 23) (punct 58 false (at 23 24) (leaf (ident (98 ∷ [])) (at 25 26) end)))) end)))))
    (leaf (ident w_underscore) call_site (punct 58 false call_site (leaf (ident w_struct) call_site (group Brace call_site call_site (group None call_site call_site end (leaf (ident (97 ∷ [])) call_site (punct 58 false call_site (leaf (ident (98 ∷ [])) call_site end)))) end))))
    (end)
unfolding left is_end lookahead_at sees take_token take_lifetime take_mark take_group before rows_for rows run parse_rule
named_invisible_underscore = computed named_field _ _ _ refl

-- `\(\) \(\) a: b`: nothing is read
named_invisible_twice : NotDerived (rule named_field)
    (group None (at 0 2) (at 2 4) end (group None (at 5 7) (at 7 9) end (leaf (ident (97 ∷ [])) (at 10 11) (punct 58 false (at 11 12) (leaf (ident (98 ∷ [])) (at 13 14) end)))))
unfolding left is_end lookahead_at sees take_token take_lifetime take_mark take_group before rows_for rows run parse_rule
named_invisible_twice = not_read named_field _ refl

-- `\(\) pub a: b`: nothing is read
named_invisible_public : NotDerived (rule named_field)
    (group None (at 0 2) (at 2 4) end (leaf (ident w_pub) (at 5 8) (leaf (ident (97 ∷ [])) (at 9 10) (punct 58 false (at 10 11) (leaf (ident (98 ∷ [])) (at 12 13) end)))))
unfolding left is_end lookahead_at sees take_token take_lifetime take_mark take_group before rows_for rows run parse_rule
named_invisible_public = not_read named_field _ refl

-- `pub \(\) a: b`: nothing is read
named_public_invisible : NotDerived (rule named_field)
    (leaf (ident w_pub) (at 0 3) (group None (at 4 6) (at 6 8) end (leaf (ident (97 ∷ [])) (at 9 10) (punct 58 false (at 10 11) (leaf (ident (98 ∷ [])) (at 12 13) end)))))
unfolding left is_end lookahead_at sees take_token take_lifetime take_mark take_group before rows_for rows run parse_rule
named_public_invisible = not_read named_field _ refl

-- `\(a\) b: c`: nothing is read
named_invisible_name : NotDerived (rule named_field)
    (group None (at 0 2) (at 3 5) (leaf (ident (97 ∷ [])) (at 2 3) end) (leaf (ident (98 ∷ [])) (at 6 7) (punct 58 false (at 7 8) (leaf (ident (99 ∷ [])) (at 9 10) end))))
unfolding left is_end lookahead_at sees take_token take_lifetime take_mark take_group before rows_for rows run parse_rule
named_invisible_name = not_read named_field _ refl

-- `_: a b` prints `_ : a` and leaves `b`
named_underscore_leaves_type : DerivesAs named_field
    (leaf (ident w_underscore) (at 0 1) (punct 58 false (at 1 2) (leaf (ident (97 ∷ [])) (at 3 4) (leaf (ident (98 ∷ [])) (at 5 6) end))))
    (leaf (ident w_underscore) call_site (punct 58 false call_site (leaf (ident (97 ∷ [])) call_site end)))
    (leaf (ident (98 ∷ [])) (at 5 6) end)
unfolding left is_end lookahead_at sees take_token take_lifetime take_mark take_group before rows_for rows run parse_rule
named_underscore_leaves_type = computed named_field _ _ _ refl

-- `struct { a: u8 }` prints `struct { a : u8 }`
nameless_struct : DerivesAs nameless_fields
    (leaf (ident w_struct) (at 0 6) (group Brace (at 7 8) (at 15 16) (leaf (ident (97 ∷ [])) (at 9 10) (punct 58 false (at 10 11) (leaf (ident (117 ∷ 56 ∷ [])) (at 12 14) end))) end))
    (leaf (ident w_struct) call_site (group Brace call_site call_site (leaf (ident (97 ∷ [])) call_site (punct 58 false call_site (leaf (ident (117 ∷ 56 ∷ [])) call_site end))) end))
    (end)
unfolding left is_end lookahead_at sees take_token take_lifetime take_mark take_group before rows_for rows run parse_rule
nameless_struct = computed nameless_fields _ _ _ refl

-- `union {}` prints `union { }`
nameless_union : DerivesAs nameless_fields
    (leaf (ident w_union) (at 0 5) (group Brace (at 6 7) (at 7 8) end end))
    (leaf (ident w_union) call_site (group Brace call_site call_site end end))
    (end)
unfolding left is_end lookahead_at sees take_token take_lifetime take_mark take_group before rows_for rows run parse_rule
nameless_union = computed nameless_fields _ _ _ refl

-- `struct {}` prints `struct { }`
nameless_struct_empty : DerivesAs nameless_fields
    (leaf (ident w_struct) (at 0 6) (group Brace (at 7 8) (at 8 9) end end))
    (leaf (ident w_struct) call_site (group Brace call_site call_site end end))
    (end)
unfolding left is_end lookahead_at sees take_token take_lifetime take_mark take_group before rows_for rows run parse_rule
nameless_struct_empty = computed nameless_fields _ _ _ refl

-- `union {} union` prints `union { }` and leaves `union`
nameless_leaves_union : DerivesAs nameless_fields
    (leaf (ident w_union) (at 0 5) (group Brace (at 6 7) (at 7 8) end (leaf (ident w_union) (at 9 14) end)))
    (leaf (ident w_union) call_site (group Brace call_site call_site end end))
    (leaf (ident w_union) (at 9 14) end)
unfolding left is_end lookahead_at sees take_token take_lifetime take_mark take_group before rows_for rows run parse_rule
nameless_leaves_union = computed nameless_fields _ _ _ refl

-- `{}`: nothing is read
nameless_braces_alone : NotDerived (rule nameless_fields)
    (group Brace (at 0 1) (at 1 2) end end)
unfolding left is_end lookahead_at sees take_token take_lifetime take_mark take_group before rows_for rows run parse_rule
nameless_braces_alone = not_read nameless_fields _ refl

-- `union union {}`: nothing is read
nameless_two_words : NotDerived (rule nameless_fields)
    (leaf (ident w_union) (at 0 5) (leaf (ident w_union) (at 6 11) (group Brace (at 12 13) (at 13 14) end end)))
unfolding left is_end lookahead_at sees take_token take_lifetime take_mark take_group before rows_for rows run parse_rule
nameless_two_words = not_read nameless_fields _ refl

-- `{} union {}`: nothing is read
nameless_braces_first : NotDerived (rule nameless_fields)
    (group Brace (at 0 1) (at 1 2) end (leaf (ident w_union) (at 3 8) (group Brace (at 9 10) (at 10 11) end end)))
unfolding left is_end lookahead_at sees take_token take_lifetime take_mark take_group before rows_for rows run parse_rule
nameless_braces_first = not_read nameless_fields _ refl

-- `struct struct {}`: nothing is read
nameless_struct_twice : NotDerived (rule nameless_fields)
    (leaf (ident w_struct) (at 0 6) (leaf (ident w_struct) (at 7 13) (group Brace (at 14 15) (at 15 16) end end)))
unfolding left is_end lookahead_at sees take_token take_lifetime take_mark take_group before rows_for rows run parse_rule
nameless_struct_twice = not_read nameless_fields _ refl

-- `_ {}`: nothing is read
nameless_other_word : NotDerived (rule nameless_fields)
    (leaf (ident w_underscore) (at 0 1) (group Brace (at 2 3) (at 3 4) end end))
unfolding left is_end lookahead_at sees take_token take_lifetime take_mark take_group before rows_for rows run parse_rule
nameless_other_word = not_read nameless_fields _ refl

-- `a {}`: nothing is read
nameless_name : NotDerived (rule nameless_fields)
    (leaf (ident (97 ∷ [])) (at 0 1) (group Brace (at 2 3) (at 3 4) end end))
unfolding left is_end lookahead_at sees take_token take_lifetime take_mark take_group before rows_for rows run parse_rule
nameless_name = not_read nameless_fields _ refl

-- no tokens: nothing is read
nameless_nothing : NotDerived (rule nameless_fields)
    (end)
unfolding left is_end lookahead_at sees take_token take_lifetime take_mark take_group before rows_for rows run parse_rule
nameless_nothing = not_read nameless_fields _ refl

-- `struct {} {}` prints `struct { }` and leaves `{}`
nameless_leaves_braces : DerivesAs nameless_fields
    (leaf (ident w_struct) (at 0 6) (group Brace (at 7 8) (at 8 9) end (group Brace (at 10 11) (at 11 12) end end)))
    (leaf (ident w_struct) call_site (group Brace call_site call_site end end))
    (group Brace (at 10 11) (at 11 12) end end)
unfolding left is_end lookahead_at sees take_token take_lifetime take_mark take_group before rows_for rows run parse_rule
nameless_leaves_braces = computed nameless_fields _ _ _ refl

-- `u8` prints `u8`
field_plain : DerivesAs unnamed_field
    (leaf (ident (117 ∷ 56 ∷ [])) (at 0 2) end)
    (leaf (ident (117 ∷ 56 ∷ [])) call_site end)
    (end)
unfolding left is_end lookahead_at sees take_token take_lifetime take_mark take_group before rows_for rows run parse_rule
field_plain = computed unnamed_field _ _ _ refl

-- `pub primitive::bool` prints `pub primitive :: bool`
field_public : DerivesAs unnamed_field
    (leaf (ident w_pub) (at 0 3) (leaf (ident (112 ∷ 114 ∷ 105 ∷ 109 ∷ 105 ∷ 116 ∷ 105 ∷ 118 ∷ 101 ∷ [])) (at 4 13) (punct 58 true (at 13 14) (punct 58 false (at 14 15) (leaf (ident (98 ∷ 111 ∷ 111 ∷ 108 ∷ [])) (at 15 19) end)))))
    (leaf (ident w_pub) call_site (leaf (ident (112 ∷ 114 ∷ 105 ∷ 109 ∷ 105 ∷ 116 ∷ 105 ∷ 118 ∷ 101 ∷ [])) call_site (punct 58 true call_site (punct 58 false call_site (leaf (ident (98 ∷ 111 ∷ 111 ∷ 108 ∷ [])) call_site end)))))
    (end)
unfolding left is_end lookahead_at sees take_token take_lifetime take_mark take_group before rows_for rows run parse_rule
field_public = computed unnamed_field _ _ _ refl

-- `pub(in a) b` prints `pub ( in a ) b`
field_restricted : DerivesAs unnamed_field
    (leaf (ident w_pub) (at 0 3) (group Paren (at 3 4) (at 8 9) (leaf (ident w_in) (at 4 6) (leaf (ident (97 ∷ [])) (at 7 8) end)) (leaf (ident (98 ∷ [])) (at 10 11) end)))
    (leaf (ident w_pub) call_site (group Paren call_site call_site (leaf (ident w_in) call_site (leaf (ident (97 ∷ [])) call_site end)) (leaf (ident (98 ∷ [])) call_site end)))
    (end)
unfolding left is_end lookahead_at sees take_token take_lifetime take_mark take_group before rows_for rows run parse_rule
field_restricted = computed unnamed_field _ _ _ refl

-- `pub ::b` prints `pub :: b`
field_rooted : DerivesAs unnamed_field
    (leaf (ident w_pub) (at 0 3) (punct 58 true (at 4 5) (punct 58 false (at 5 6) (leaf (ident (98 ∷ [])) (at 6 7) end))))
    (leaf (ident w_pub) call_site (punct 58 true call_site (punct 58 false call_site (leaf (ident (98 ∷ [])) call_site end))))
    (end)
unfolding left is_end lookahead_at sees take_token take_lifetime take_mark take_group before rows_for rows run parse_rule
field_rooted = computed unnamed_field _ _ _ refl

-- `u8, u16` prints `u8` and leaves `, u16`
field_leaves_comma : DerivesAs unnamed_field
    (leaf (ident (117 ∷ 56 ∷ [])) (at 0 2) (punct 44 false (at 2 3) (leaf (ident (117 ∷ 49 ∷ 54 ∷ [])) (at 4 7) end)))
    (leaf (ident (117 ∷ 56 ∷ [])) call_site end)
    (punct 44 false (at 2 3) (leaf (ident (117 ∷ 49 ∷ 54 ∷ [])) (at 4 7) end))
unfolding left is_end lookahead_at sees take_token take_lifetime take_mark take_group before rows_for rows run parse_rule
field_leaves_comma = computed unnamed_field _ _ _ refl

-- `a: u8` is refused
field_named : Refused unnamed_field
    (leaf (ident (97 ∷ [])) (at 0 1) (punct 58 false (at 1 2) (leaf (ident (117 ∷ 56 ∷ [])) (at 3 5) end)))
unfolding left is_end lookahead_at sees take_token take_lifetime take_mark take_group before rows_for rows run parse_rule
field_named = not_derived unnamed_field _ refl

-- `u8 = 1`: nothing is read
field_default : NotDerived (rule unnamed_field)
    (leaf (ident (117 ∷ 56 ∷ [])) (at 0 2) (punct 61 false (at 3 4) (leaf (literal Int (49 ∷ [])) (at 5 6) end)))
unfolding left is_end lookahead_at sees take_token take_lifetime take_mark take_group before rows_for rows run parse_rule
field_default = not_read unnamed_field _ refl

-- `u8 == 1`: nothing is read
field_default_first : NotDerived (rule unnamed_field)
    (leaf (ident (117 ∷ 56 ∷ [])) (at 0 2) (punct 61 true (at 3 4) (punct 61 false (at 4 5) (leaf (literal Int (49 ∷ [])) (at 6 7) end))))
unfolding left is_end lookahead_at sees take_token take_lifetime take_mark take_group before rows_for rows run parse_rule
field_default_first = not_read unnamed_field _ refl

-- `pub (crate)`: nothing is read
field_public_tuple : NotDerived (rule unnamed_field)
    (leaf (ident w_pub) (at 0 3) (group Paren (at 4 5) (at 10 11) (leaf (ident w_crate) (at 5 10) end) end))
unfolding left is_end lookahead_at sees take_token take_lifetime take_mark take_group before rows_for rows run parse_rule
field_public_tuple = not_read unnamed_field _ refl

-- `!a` prints `!` and leaves `a`
field_leaves_type : DerivesAs unnamed_field
    (punct 33 false (at 0 1) (leaf (ident (97 ∷ [])) (at 1 2) end))
    (punct 33 false call_site end)
    (leaf (ident (97 ∷ [])) (at 1 2) end)
unfolding left is_end lookahead_at sees take_token take_lifetime take_mark take_group before rows_for rows run parse_rule
field_leaves_type = computed unnamed_field _ _ _ refl

-- `a #` prints `a` and leaves `#`
field_leaves_pound : DerivesAs unnamed_field
    (leaf (ident (97 ∷ [])) (at 0 1) (punct 35 false (at 2 3) end))
    (leaf (ident (97 ∷ [])) call_site end)
    (punct 35 false (at 2 3) end)
unfolding left is_end lookahead_at sees take_token take_lifetime take_mark take_group before rows_for rows run parse_rule
field_leaves_pound = computed unnamed_field _ _ _ refl

-- `pub #[a] b`: nothing is read
field_attribute_after_pub : NotDerived (rule unnamed_field)
    (leaf (ident w_pub) (at 0 3) (punct 35 false (at 4 5) (group Bracket (at 5 6) (at 7 8) (leaf (ident (97 ∷ [])) (at 6 7) end) (leaf (ident (98 ∷ [])) (at 9 10) end))))
unfolding left is_end lookahead_at sees take_token take_lifetime take_mark take_group before rows_for rows run parse_rule
field_attribute_after_pub = not_read unnamed_field _ refl

-- `a pub` prints `a` and leaves `pub`
field_leaves_public : DerivesAs unnamed_field
    (leaf (ident (97 ∷ [])) (at 0 1) (leaf (ident w_pub) (at 2 5) end))
    (leaf (ident (97 ∷ [])) call_site end)
    (leaf (ident w_pub) (at 2 5) end)
unfolding left is_end lookahead_at sees take_token take_lifetime take_mark take_group before rows_for rows run parse_rule
field_leaves_public = computed unnamed_field _ _ _ refl

-- `#[a] b` prints `# [ a ] b`
field_attribute : DerivesAs unnamed_field
    (punct 35 false (at 0 1) (group Bracket (at 1 2) (at 3 4) (leaf (ident (97 ∷ [])) (at 2 3) end) (leaf (ident (98 ∷ [])) (at 5 6) end)))
    (punct 35 false call_site (group Bracket call_site call_site (leaf (ident (97 ∷ [])) call_site end) (leaf (ident (98 ∷ [])) call_site end)))
    (end)
unfolding left is_end lookahead_at sees take_token take_lifetime take_mark take_group before rows_for rows run parse_rule
field_attribute = computed unnamed_field _ _ _ refl

-- `pub pub a`: nothing is read
field_two_public : NotDerived (rule unnamed_field)
    (leaf (ident w_pub) (at 0 3) (leaf (ident w_pub) (at 4 7) (leaf (ident (97 ∷ [])) (at 8 9) end)))
unfolding left is_end lookahead_at sees take_token take_lifetime take_mark take_group before rows_for rows run parse_rule
field_two_public = not_read unnamed_field _ refl

-- `\(\) a` prints `a`
field_invisible : DerivesAs unnamed_field
    (group None (at 0 2) (at 2 4) end (leaf (ident (97 ∷ [])) (at 5 6) end))
    (leaf (ident (97 ∷ [])) call_site end)
    (end)
unfolding left is_end lookahead_at sees take_token take_lifetime take_mark take_group before rows_for rows run parse_rule
field_invisible = computed unnamed_field _ _ _ refl

-- `\(a\)` prints `\( a \)`
field_invisible_type : DerivesAs unnamed_field
    (group None (at 0 2) (at 3 5) (leaf (ident (97 ∷ [])) (at 2 3) end) end)
    (group None call_site call_site (leaf (ident (97 ∷ [])) call_site end) end)
    (end)
unfolding left is_end lookahead_at sees take_token take_lifetime take_mark take_group before rows_for rows run parse_rule
field_invisible_type = computed unnamed_field _ _ _ refl

-- `\(\) \(a\)` prints `\( a \)`
field_invisible_before_type : DerivesAs unnamed_field
    (group None (at 0 2) (at 2 4) end (group None (at 5 7) (at 8 10) (leaf (ident (97 ∷ [])) (at 7 8) end) end))
    (group None call_site call_site (leaf (ident (97 ∷ [])) call_site end) end)
    (end)
unfolding left is_end lookahead_at sees take_token take_lifetime take_mark take_group before rows_for rows run parse_rule
field_invisible_before_type = computed unnamed_field _ _ _ refl

-- `pub \(a\)` prints `pub \( a \)`
field_public_invisible_type : DerivesAs unnamed_field
    (leaf (ident w_pub) (at 0 3) (group None (at 4 6) (at 7 9) (leaf (ident (97 ∷ [])) (at 6 7) end) end))
    (leaf (ident w_pub) call_site (group None call_site call_site (leaf (ident (97 ∷ [])) call_site end) end))
    (end)
unfolding left is_end lookahead_at sees take_token take_lifetime take_mark take_group before rows_for rows run parse_rule
field_public_invisible_type = computed unnamed_field _ _ _ refl

-- `\(\)`: nothing is read
field_invisible_alone : NotDerived (rule unnamed_field)
    (group None (at 0 2) (at 2 4) end end)
unfolding left is_end lookahead_at sees take_token take_lifetime take_mark take_group before rows_for rows run parse_rule
field_invisible_alone = not_read unnamed_field _ refl

-- `\(\) \(\) a`: nothing is read
field_invisible_twice : NotDerived (rule unnamed_field)
    (group None (at 0 2) (at 2 4) end (group None (at 5 7) (at 7 9) end (leaf (ident (97 ∷ [])) (at 10 11) end)))
unfolding left is_end lookahead_at sees take_token take_lifetime take_mark take_group before rows_for rows run parse_rule
field_invisible_twice = not_read unnamed_field _ refl

-- `\(\) pub a`: nothing is read
field_invisible_public : NotDerived (rule unnamed_field)
    (group None (at 0 2) (at 2 4) end (leaf (ident w_pub) (at 5 8) (leaf (ident (97 ∷ [])) (at 9 10) end)))
unfolding left is_end lookahead_at sees take_token take_lifetime take_mark take_group before rows_for rows run parse_rule
field_invisible_public = not_read unnamed_field _ refl

-- `pub \(\) a`: nothing is read
field_public_invisible : NotDerived (rule unnamed_field)
    (leaf (ident w_pub) (at 0 3) (group None (at 4 6) (at 6 8) end (leaf (ident (97 ∷ [])) (at 9 10) end)))
unfolding left is_end lookahead_at sees take_token take_lifetime take_mark take_group before rows_for rows run parse_rule
field_public_invisible = not_read unnamed_field _ refl

-- `\(\) ()` prints `( )`
field_invisible_parentheses : DerivesAs unnamed_field
    (group None (at 0 2) (at 2 4) end (group Paren (at 5 6) (at 6 7) end end))
    (group Paren call_site call_site end end)
    (end)
unfolding left is_end lookahead_at sees take_token take_lifetime take_mark take_group before rows_for rows run parse_rule
field_invisible_parentheses = computed unnamed_field _ _ _ refl

-- no tokens prints ``
list_none : DerivesAs unnamed_fields
    (end)
    (end)
    (end)
unfolding left is_end lookahead_at sees take_token take_lifetime take_mark take_group before rows_for rows run parse_rule
list_none = computed unnamed_fields _ _ _ refl

-- `a, b` prints `a , b`
list_two : DerivesAs unnamed_fields
    (leaf (ident (97 ∷ [])) (at 0 1) (punct 44 false (at 1 2) (leaf (ident (98 ∷ [])) (at 3 4) end)))
    (leaf (ident (97 ∷ [])) call_site (punct 44 false call_site (leaf (ident (98 ∷ [])) call_site end)))
    (end)
unfolding left is_end lookahead_at sees take_token take_lifetime take_mark take_group before rows_for rows run parse_rule
list_two = computed unnamed_fields _ _ _ refl

-- `a, pub b,` prints `a , pub b ,`
list_last_comma : DerivesAs unnamed_fields
    (leaf (ident (97 ∷ [])) (at 0 1) (punct 44 false (at 1 2) (leaf (ident w_pub) (at 3 6) (leaf (ident (98 ∷ [])) (at 7 8) (punct 44 false (at 8 9) end)))))
    (leaf (ident (97 ∷ [])) call_site (punct 44 false call_site (leaf (ident w_pub) call_site (leaf (ident (98 ∷ [])) call_site (punct 44 false call_site end)))))
    (end)
unfolding left is_end lookahead_at sees take_token take_lifetime take_mark take_group before rows_for rows run parse_rule
list_last_comma = computed unnamed_fields _ _ _ refl

-- `,`: nothing is read
list_comma_alone : NotDerived (rule unnamed_fields)
    (punct 44 false (at 0 1) end)
unfolding left is_end lookahead_at sees take_token take_lifetime take_mark take_group before rows_for rows run parse_rule
list_comma_alone = not_read unnamed_fields _ refl

-- `a,,`: nothing is read
list_two_commas : NotDerived (rule unnamed_fields)
    (leaf (ident (97 ∷ [])) (at 0 1) (punct 44 true (at 1 2) (punct 44 false (at 2 3) end)))
unfolding left is_end lookahead_at sees take_token take_lifetime take_mark take_group before rows_for rows run parse_rule
list_two_commas = not_read unnamed_fields _ refl

-- `a b` is refused
list_no_comma : Refused unnamed_fields
    (leaf (ident (97 ∷ [])) (at 0 1) (leaf (ident (98 ∷ [])) (at 2 3) end))
unfolding left is_end lookahead_at sees take_token take_lifetime take_mark take_group before rows_for rows run parse_rule
list_no_comma = not_derived unnamed_fields _ refl

-- `a;` prints `a` and leaves `;`
list_semicolon : DerivesAs unnamed_fields
    (leaf (ident (97 ∷ [])) (at 0 1) (punct 59 false (at 1 2) end))
    (leaf (ident (97 ∷ [])) call_site end)
    (punct 59 false (at 1 2) end)
unfolding left is_end lookahead_at sees take_token take_lifetime take_mark take_group before rows_for rows run parse_rule
list_semicolon = computed unnamed_fields _ _ _ refl

-- `, a b`: nothing is read
list_comma_first : NotDerived (rule unnamed_fields)
    (punct 44 false (at 0 1) (leaf (ident (97 ∷ [])) (at 2 3) (leaf (ident (98 ∷ [])) (at 4 5) end)))
unfolding left is_end lookahead_at sees take_token take_lifetime take_mark take_group before rows_for rows run parse_rule
list_comma_first = not_read unnamed_fields _ refl

-- `a, b +` prints `a , b` and leaves `+`
list_leaves_plus : DerivesAs unnamed_fields
    (leaf (ident (97 ∷ [])) (at 0 1) (punct 44 false (at 1 2) (leaf (ident (98 ∷ [])) (at 3 4) (punct 43 false (at 5 6) end))))
    (leaf (ident (97 ∷ [])) call_site (punct 44 false call_site (leaf (ident (98 ∷ [])) call_site end)))
    (punct 43 false (at 5 6) end)
unfolding left is_end lookahead_at sees take_token take_lifetime take_mark take_group before rows_for rows run parse_rule
list_leaves_plus = computed unnamed_fields _ _ _ refl

-- `()` prints `( )`
fields_none : DerivesAs fields_unnamed
    (group Paren (at 0 1) (at 1 2) end end)
    (group Paren call_site call_site end end)
    (end)
unfolding left is_end lookahead_at sees take_token take_lifetime take_mark take_group before rows_for rows run parse_rule
fields_none = computed fields_unnamed _ _ _ refl

-- `(pub(crate) x::y, z,)` prints `( pub ( crate ) x :: y , z , )`
fields_public : DerivesAs fields_unnamed
    (group Paren (at 0 1) (at 20 21) (leaf (ident w_pub) (at 1 4) (group Paren (at 4 5) (at 10 11) (leaf (ident w_crate) (at 5 10) end) (leaf (ident (120 ∷ [])) (at 12 13) (punct 58 true (at 13 14) (punct 58 false (at 14 15) (leaf (ident (121 ∷ [])) (at 15 16) (punct 44 false (at 16 17) (leaf (ident (122 ∷ [])) (at 18 19) (punct 44 false (at 19 20) end))))))))) end)
    (group Paren call_site call_site (leaf (ident w_pub) call_site (group Paren call_site call_site (leaf (ident w_crate) call_site end) (leaf (ident (120 ∷ [])) call_site (punct 58 true call_site (punct 58 false call_site (leaf (ident (121 ∷ [])) call_site (punct 44 false call_site (leaf (ident (122 ∷ [])) call_site (punct 44 false call_site end))))))))) end)
    (end)
unfolding left is_end lookahead_at sees take_token take_lifetime take_mark take_group before rows_for rows run parse_rule
fields_public = computed fields_unnamed _ _ _ refl

-- `(a) b` prints `( a )` and leaves `b`
fields_leave : DerivesAs fields_unnamed
    (group Paren (at 0 1) (at 2 3) (leaf (ident (97 ∷ [])) (at 1 2) end) (leaf (ident (98 ∷ [])) (at 4 5) end))
    (group Paren call_site call_site (leaf (ident (97 ∷ [])) call_site end) end)
    (leaf (ident (98 ∷ [])) (at 4 5) end)
unfolding left is_end lookahead_at sees take_token take_lifetime take_mark take_group before rows_for rows run parse_rule
fields_leave = computed fields_unnamed _ _ _ refl

-- `{a}`: nothing is read
fields_braces : NotDerived (rule fields_unnamed)
    (group Brace (at 0 1) (at 2 3) (leaf (ident (97 ∷ [])) (at 1 2) end) end)
unfolding left is_end lookahead_at sees take_token take_lifetime take_mark take_group before rows_for rows run parse_rule
fields_braces = not_read fields_unnamed _ refl

-- `(a)(b)` is refused
fields_two_groups : Refused fields_unnamed
    (group Paren (at 0 1) (at 2 3) (leaf (ident (97 ∷ [])) (at 1 2) end) (group Paren (at 3 4) (at 5 6) (leaf (ident (98 ∷ [])) (at 4 5) end) end))
unfolding left is_end lookahead_at sees take_token take_lifetime take_mark take_group before rows_for rows run parse_rule
fields_two_groups = not_derived fields_unnamed _ refl

-- `(a;)`: nothing is read
fields_inner_rest : NotDerived (rule fields_unnamed)
    (group Paren (at 0 1) (at 3 4) (leaf (ident (97 ∷ [])) (at 1 2) (punct 59 false (at 2 3) end)) end)
unfolding left is_end lookahead_at sees take_token take_lifetime take_mark take_group before rows_for rows run parse_rule
fields_inner_rest = not_read fields_unnamed _ refl

-- `[]`: nothing is read
fields_brackets : NotDerived (rule fields_unnamed)
    (group Bracket (at 0 1) (at 1 2) end end)
unfolding left is_end lookahead_at sees take_token take_lifetime take_mark take_group before rows_for rows run parse_rule
fields_brackets = not_read fields_unnamed _ refl

-- `(a b)`: nothing is read
fields_two_types : NotDerived (rule fields_unnamed)
    (group Paren (at 0 1) (at 4 5) (leaf (ident (97 ∷ [])) (at 1 2) (leaf (ident (98 ∷ [])) (at 3 4) end)) end)
unfolding left is_end lookahead_at sees take_token take_lifetime take_mark take_group before rows_for rows run parse_rule
fields_two_types = not_read fields_unnamed _ refl

-- `pub A = 1` prints `A = 1`
variant_hidden : DerivesAs variant
    (leaf (ident w_pub) (at 0 3) (leaf (ident (65 ∷ [])) (at 4 5) (punct 61 false (at 6 7) (leaf (literal Int (49 ∷ [])) (at 8 9) end))))
    (leaf (ident (65 ∷ [])) call_site (punct 61 false call_site (leaf (literal Int (49 ∷ [])) call_site end)))
    (end)
unfolding left is_end lookahead_at sees take_token take_lifetime take_mark take_group before rows_for rows run parse_rule
variant_hidden = computed variant _ _ _ refl

-- `#[a] B(pub c,) = 2` prints `# [ a ] B ( pub c , ) = 2`
variant_fields : DerivesAs variant
    (punct 35 false (at 0 1) (group Bracket (at 1 2) (at 3 4) (leaf (ident (97 ∷ [])) (at 2 3) end) (leaf (ident (66 ∷ [])) (at 5 6) (group Paren (at 6 7) (at 13 14) (leaf (ident w_pub) (at 7 10) (leaf (ident (99 ∷ [])) (at 11 12) (punct 44 false (at 12 13) end))) (punct 61 false (at 15 16) (leaf (literal Int (50 ∷ [])) (at 17 18) end))))))
    (punct 35 false call_site (group Bracket call_site call_site (leaf (ident (97 ∷ [])) call_site end) (leaf (ident (66 ∷ [])) call_site (group Paren call_site call_site (leaf (ident w_pub) call_site (leaf (ident (99 ∷ [])) call_site (punct 44 false call_site end))) (punct 61 false call_site (leaf (literal Int (50 ∷ [])) call_site end))))))
    (end)
unfolding left is_end lookahead_at sees take_token take_lifetime take_mark take_group before rows_for rows run parse_rule
variant_fields = computed variant _ _ _ refl

-- `fn`: nothing is read
variant_keyword : NotDerived (rule variant)
    (leaf (ident w_fn) (at 0 2) end)
unfolding left is_end lookahead_at sees take_token take_lifetime take_mark take_group before rows_for rows run parse_rule
variant_keyword = not_read variant _ refl

-- `a {} {}` prints `a { }` and leaves `{}`
variant_leaves_braces : DerivesAs variant
    (leaf (ident (97 ∷ [])) (at 0 1) (group Brace (at 2 3) (at 3 4) end (group Brace (at 5 6) (at 6 7) end end)))
    (leaf (ident (97 ∷ [])) call_site (group Brace call_site call_site end end))
    (group Brace (at 5 6) (at 6 7) end end)
unfolding left is_end lookahead_at sees take_token take_lifetime take_mark take_group before rows_for rows run parse_rule
variant_leaves_braces = computed variant _ _ _ refl

-- `a b` prints `a` and leaves `b`
variant_leaves_name : DerivesAs variant
    (leaf (ident (97 ∷ [])) (at 0 1) (leaf (ident (98 ∷ [])) (at 2 3) end))
    (leaf (ident (97 ∷ [])) call_site end)
    (leaf (ident (98 ∷ [])) (at 2 3) end)
unfolding left is_end lookahead_at sees take_token take_lifetime take_mark take_group before rows_for rows run parse_rule
variant_leaves_name = computed variant _ _ _ refl

-- `a #` prints `a` and leaves `#`
variant_leaves_pound : DerivesAs variant
    (leaf (ident (97 ∷ [])) (at 0 1) (punct 35 false (at 2 3) end))
    (leaf (ident (97 ∷ [])) call_site end)
    (punct 35 false (at 2 3) end)
unfolding left is_end lookahead_at sees take_token take_lifetime take_mark take_group before rows_for rows run parse_rule
variant_leaves_pound = computed variant _ _ _ refl

-- `{} a`: nothing is read
variant_fields_first : NotDerived (rule variant)
    (group Brace (at 0 1) (at 1 2) end (leaf (ident (97 ∷ [])) (at 3 4) end))
unfolding left is_end lookahead_at sees take_token take_lifetime take_mark take_group before rows_for rows run parse_rule
variant_fields_first = not_read variant _ refl

-- `= 1 a`: nothing is read
variant_value_first : NotDerived (rule variant)
    (punct 61 false (at 0 1) (leaf (literal Int (49 ∷ [])) (at 2 3) (leaf (ident (97 ∷ [])) (at 4 5) end)))
unfolding left is_end lookahead_at sees take_token take_lifetime take_mark take_group before rows_for rows run parse_rule
variant_value_first = not_read variant _ refl

-- `a == 1`: nothing is read
variant_equals_twice : NotDerived (rule variant)
    (leaf (ident (97 ∷ [])) (at 0 1) (punct 61 true (at 2 3) (punct 61 false (at 3 4) (leaf (literal Int (49 ∷ [])) (at 5 6) end))))
unfolding left is_end lookahead_at sees take_token take_lifetime take_mark take_group before rows_for rows run parse_rule
variant_equals_twice = not_read variant _ refl

-- `a = 1 =`: nothing is read
variant_value_two_equals : NotDerived (rule variant)
    (leaf (ident (97 ∷ [])) (at 0 1) (punct 61 false (at 2 3) (leaf (literal Int (49 ∷ [])) (at 4 5) (punct 61 false (at 6 7) end))))
unfolding left is_end lookahead_at sees take_token take_lifetime take_mark take_group before rows_for rows run parse_rule
variant_value_two_equals = not_read variant _ refl

-- `a = 1 + b` prints `a = 1 + b`
variant_value_sum : DerivesAs variant
    (leaf (ident (97 ∷ [])) (at 0 1) (punct 61 false (at 2 3) (leaf (literal Int (49 ∷ [])) (at 4 5) (punct 43 false (at 6 7) (leaf (ident (98 ∷ [])) (at 8 9) end)))))
    (leaf (ident (97 ∷ [])) call_site (punct 61 false call_site (leaf (literal Int (49 ∷ [])) call_site (punct 43 false call_site (leaf (ident (98 ∷ [])) call_site end)))))
    (end)
unfolding left is_end lookahead_at sees take_token take_lifetime take_mark take_group before rows_for rows run parse_rule
variant_value_sum = computed variant _ _ _ refl

-- `a = {b}` prints `a = { b }`
variant_value_block : DerivesAs variant
    (leaf (ident (97 ∷ [])) (at 0 1) (punct 61 false (at 2 3) (group Brace (at 4 5) (at 6 7) (leaf (ident (98 ∷ [])) (at 5 6) end) end)))
    (leaf (ident (97 ∷ [])) call_site (punct 61 false call_site (group Brace call_site call_site (leaf (ident (98 ∷ [])) call_site end) end)))
    (end)
unfolding left is_end lookahead_at sees take_token take_lifetime take_mark take_group before rows_for rows run parse_rule
variant_value_block = computed variant _ _ _ refl

-- `a = b = c` prints `a = b = c`
variant_value_assigned : DerivesAs variant
    (leaf (ident (97 ∷ [])) (at 0 1) (punct 61 false (at 2 3) (leaf (ident (98 ∷ [])) (at 4 5) (punct 61 false (at 6 7) (leaf (ident (99 ∷ [])) (at 8 9) end)))))
    (leaf (ident (97 ∷ [])) call_site (punct 61 false call_site (leaf (ident (98 ∷ [])) call_site (punct 61 false call_site (leaf (ident (99 ∷ [])) call_site end)))))
    (end)
unfolding left is_end lookahead_at sees take_token take_lifetime take_mark take_group before rows_for rows run parse_rule
variant_value_assigned = computed variant _ _ _ refl

-- `a = 1 {}` prints `a = 1` and leaves `{}`
variant_value_leaves_braces : DerivesAs variant
    (leaf (ident (97 ∷ [])) (at 0 1) (punct 61 false (at 2 3) (leaf (literal Int (49 ∷ [])) (at 4 5) (group Brace (at 6 7) (at 7 8) end end))))
    (leaf (ident (97 ∷ [])) call_site (punct 61 false call_site (leaf (literal Int (49 ∷ [])) call_site end)))
    (group Brace (at 6 7) (at 7 8) end end)
unfolding left is_end lookahead_at sees take_token take_lifetime take_mark take_group before rows_for rows run parse_rule
variant_value_leaves_braces = computed variant _ _ _ refl

-- `a = b as c d` prints `a = b as c` and leaves `d`
variant_value_leaves_path : DerivesAs variant
    (leaf (ident (97 ∷ [])) (at 0 1) (punct 61 false (at 2 3) (leaf (ident (98 ∷ [])) (at 4 5) (leaf (ident w_as) (at 6 8) (leaf (ident (99 ∷ [])) (at 9 10) (leaf (ident (100 ∷ [])) (at 11 12) end))))))
    (leaf (ident (97 ∷ [])) call_site (punct 61 false call_site (leaf (ident (98 ∷ [])) call_site (leaf (ident w_as) call_site (leaf (ident (99 ∷ [])) call_site end)))))
    (leaf (ident (100 ∷ [])) (at 11 12) end)
unfolding left is_end lookahead_at sees take_token take_lifetime take_mark take_group before rows_for rows run parse_rule
variant_value_leaves_path = computed variant _ _ _ refl

-- `a pub` prints `a` and leaves `pub`
variant_leaves_public : DerivesAs variant
    (leaf (ident (97 ∷ [])) (at 0 1) (leaf (ident w_pub) (at 2 5) end))
    (leaf (ident (97 ∷ [])) call_site end)
    (leaf (ident w_pub) (at 2 5) end)
unfolding left is_end lookahead_at sees take_token take_lifetime take_mark take_group before rows_for rows run parse_rule
variant_leaves_public = computed variant _ _ _ refl

-- `a[]` prints `a` and leaves `[]`
variant_leaves_brackets : DerivesAs variant
    (leaf (ident (97 ∷ [])) (at 0 1) (group Bracket (at 1 2) (at 2 3) end end))
    (leaf (ident (97 ∷ [])) call_site end)
    (group Bracket (at 1 2) (at 2 3) end end)
unfolding left is_end lookahead_at sees take_token take_lifetime take_mark take_group before rows_for rows run parse_rule
variant_leaves_brackets = computed variant _ _ _ refl

-- `pub pub a`: nothing is read
variant_two_public : NotDerived (rule variant)
    (leaf (ident w_pub) (at 0 3) (leaf (ident w_pub) (at 4 7) (leaf (ident (97 ∷ [])) (at 8 9) end)))
unfolding left is_end lookahead_at sees take_token take_lifetime take_mark take_group before rows_for rows run parse_rule
variant_two_public = not_read variant _ refl

-- `a() ()` prints `a ( )` and leaves `()`
variant_leaves_parentheses : DerivesAs variant
    (leaf (ident (97 ∷ [])) (at 0 1) (group Paren (at 1 2) (at 2 3) end (group Paren (at 4 5) (at 5 6) end end)))
    (leaf (ident (97 ∷ [])) call_site (group Paren call_site call_site end end))
    (group Paren (at 4 5) (at 5 6) end end)
unfolding left is_end lookahead_at sees take_token take_lifetime take_mark take_group before rows_for rows run parse_rule
variant_leaves_parentheses = computed variant _ _ _ refl

-- `safe` prints `safe`
variant_safe : DerivesAs variant
    (leaf (ident w_safe) (at 0 4) end)
    (leaf (ident w_safe) call_site end)
    (end)
unfolding left is_end lookahead_at sees take_token take_lifetime take_mark take_group before rows_for rows run parse_rule
variant_safe = computed variant _ _ _ refl

-- `_`: nothing is read
variant_underscore : NotDerived (rule variant)
    (leaf (ident w_underscore) (at 0 1) end)
unfolding left is_end lookahead_at sees take_token take_lifetime take_mark take_group before rows_for rows run parse_rule
variant_underscore = not_read variant _ refl

-- `1`: nothing is read
variant_number : NotDerived (rule variant)
    (leaf (literal Int (49 ∷ [])) (at 0 1) end)
unfolding left is_end lookahead_at sees take_token take_lifetime take_mark take_group before rows_for rows run parse_rule
variant_number = not_read variant _ refl

-- `pub #[a] b`: nothing is read
variant_attribute_after_pub : NotDerived (rule variant)
    (leaf (ident w_pub) (at 0 3) (punct 35 false (at 4 5) (group Bracket (at 5 6) (at 7 8) (leaf (ident (97 ∷ [])) (at 6 7) end) (leaf (ident (98 ∷ [])) (at 9 10) end))))
unfolding left is_end lookahead_at sees take_token take_lifetime take_mark take_group before rows_for rows run parse_rule
variant_attribute_after_pub = not_read variant _ refl

-- `self`: nothing is read
variant_self : NotDerived (rule variant)
    (leaf (ident w_self) (at 0 4) end)
unfolding left is_end lookahead_at sees take_token take_lifetime take_mark take_group before rows_for rows run parse_rule
variant_self = not_read variant _ refl

-- `auto` prints `auto`
variant_auto : DerivesAs variant
    (leaf (ident w_auto) (at 0 4) end)
    (leaf (ident w_auto) call_site end)
    (end)
unfolding left is_end lookahead_at sees take_token take_lifetime take_mark take_group before rows_for rows run parse_rule
variant_auto = computed variant _ _ _ refl

-- `Self`: nothing is read
variant_self_type : NotDerived (rule variant)
    (leaf (ident w_Self_type) (at 0 4) end)
unfolding left is_end lookahead_at sees take_token take_lifetime take_mark take_group before rows_for rows run parse_rule
variant_self_type = not_read variant _ refl

-- `union` prints `union`
variant_union : DerivesAs variant
    (leaf (ident w_union) (at 0 5) end)
    (leaf (ident w_union) call_site end)
    (end)
unfolding left is_end lookahead_at sees take_token take_lifetime take_mark take_group before rows_for rows run parse_rule
variant_union = computed variant _ _ _ refl

-- `super`: nothing is read
variant_super : NotDerived (rule variant)
    (leaf (ident w_super) (at 0 5) end)
unfolding left is_end lookahead_at sees take_token take_lifetime take_mark take_group before rows_for rows run parse_rule
variant_super = not_read variant _ refl

-- `crate`: nothing is read
variant_crate : NotDerived (rule variant)
    (leaf (ident w_crate) (at 0 5) end)
unfolding left is_end lookahead_at sees take_token take_lifetime take_mark take_group before rows_for rows run parse_rule
variant_crate = not_read variant _ refl

-- `a = 1 false` prints `a = 1` and leaves `false`
variant_value_leaves_false : DerivesAs variant
    (leaf (ident (97 ∷ [])) (at 0 1) (punct 61 false (at 2 3) (leaf (literal Int (49 ∷ [])) (at 4 5) (leaf (ident w_false) (at 6 11) end))))
    (leaf (ident (97 ∷ [])) call_site (punct 61 false call_site (leaf (literal Int (49 ∷ [])) call_site end)))
    (leaf (ident w_false) (at 6 11) end)
unfolding left is_end lookahead_at sees take_token take_lifetime take_mark take_group before rows_for rows run parse_rule
variant_value_leaves_false = computed variant _ _ _ refl

-- `default` prints `default`
variant_default : DerivesAs variant
    (leaf (ident w_default) (at 0 7) end)
    (leaf (ident w_default) call_site end)
    (end)
unfolding left is_end lookahead_at sees take_token take_lifetime take_mark take_group before rows_for rows run parse_rule
variant_default = computed variant _ _ _ refl

-- `\(\) a` prints `a`
variant_invisible : DerivesAs variant
    (group None (at 0 2) (at 2 4) end (leaf (ident (97 ∷ [])) (at 5 6) end))
    (leaf (ident (97 ∷ [])) call_site end)
    (end)
unfolding left is_end lookahead_at sees take_token take_lifetime take_mark take_group before rows_for rows run parse_rule
variant_invisible = computed variant _ _ _ refl

-- `#[a] \(\) B(\(\) c) = 1` prints `# [ a ] B ( c ) = 1`
variant_invisible_fields : DerivesAs variant
    (punct 35 false (at 0 1) (group Bracket (at 1 2) (at 3 4) (leaf (ident (97 ∷ [])) (at 2 3) end) (group None (at 5 7) (at 7 9) end (leaf (ident (66 ∷ [])) (at 10 11) (group Paren (at 11 12) (at 18 19) (group None (at 12 14) (at 14 16) end (leaf (ident (99 ∷ [])) (at 17 18) end)) (punct 61 false (at 20 21) (leaf (literal Int (49 ∷ [])) (at 22 23) end)))))))
    (punct 35 false call_site (group Bracket call_site call_site (leaf (ident (97 ∷ [])) call_site end) (leaf (ident (66 ∷ [])) call_site (group Paren call_site call_site (leaf (ident (99 ∷ [])) call_site end) (punct 61 false call_site (leaf (literal Int (49 ∷ [])) call_site end))))))
    (end)
unfolding left is_end lookahead_at sees take_token take_lifetime take_mark take_group before rows_for rows run parse_rule
variant_invisible_fields = computed variant _ _ _ refl

-- `\(\) \(\) a`: nothing is read
variant_invisible_twice : NotDerived (rule variant)
    (group None (at 0 2) (at 2 4) end (group None (at 5 7) (at 7 9) end (leaf (ident (97 ∷ [])) (at 10 11) end)))
unfolding left is_end lookahead_at sees take_token take_lifetime take_mark take_group before rows_for rows run parse_rule
variant_invisible_twice = not_read variant _ refl

-- `\(\) pub a`: nothing is read
variant_invisible_public : NotDerived (rule variant)
    (group None (at 0 2) (at 2 4) end (leaf (ident w_pub) (at 5 8) (leaf (ident (97 ∷ [])) (at 9 10) end)))
unfolding left is_end lookahead_at sees take_token take_lifetime take_mark take_group before rows_for rows run parse_rule
variant_invisible_public = not_read variant _ refl

-- `pub \(\) a`: nothing is read
variant_public_invisible : NotDerived (rule variant)
    (leaf (ident w_pub) (at 0 3) (group None (at 4 6) (at 6 8) end (leaf (ident (97 ∷ [])) (at 9 10) end)))
unfolding left is_end lookahead_at sees take_token take_lifetime take_mark take_group before rows_for rows run parse_rule
variant_public_invisible = not_read variant _ refl

-- `\(pub\) a`: nothing is read
variant_invisible_word : NotDerived (rule variant)
    (group None (at 0 2) (at 5 7) (leaf (ident w_pub) (at 2 5) end) (leaf (ident (97 ∷ [])) (at 8 9) end))
unfolding left is_end lookahead_at sees take_token take_lifetime take_mark take_group before rows_for rows run parse_rule
variant_invisible_word = not_read variant _ refl

-- `\(b\) a`: nothing is read
variant_invisible_name : NotDerived (rule variant)
    (group None (at 0 2) (at 3 5) (leaf (ident (98 ∷ [])) (at 2 3) end) (leaf (ident (97 ∷ [])) (at 6 7) end))
unfolding left is_end lookahead_at sees take_token take_lifetime take_mark take_group before rows_for rows run parse_rule
variant_invisible_name = not_read variant _ refl

-- `a \(\)` prints `a` and leaves `\(\)`
variant_leaves_invisible : DerivesAs variant
    (leaf (ident (97 ∷ [])) (at 0 1) (group None (at 2 4) (at 4 6) end end))
    (leaf (ident (97 ∷ [])) call_site end)
    (group None (at 2 4) (at 4 6) end end)
unfolding left is_end lookahead_at sees take_token take_lifetime take_mark take_group before rows_for rows run parse_rule
variant_leaves_invisible = computed variant _ _ _ refl

-- `() a`: nothing is read
variant_parentheses_first : NotDerived (rule variant)
    (group Paren (at 0 1) (at 1 2) end (leaf (ident (97 ∷ [])) (at 3 4) end))
unfolding left is_end lookahead_at sees take_token take_lifetime take_mark take_group before rows_for rows run parse_rule
variant_parentheses_first = not_read variant _ refl

-- `[] a`: nothing is read
variant_brackets_first : NotDerived (rule variant)
    (group Bracket (at 0 1) (at 1 2) end (leaf (ident (97 ∷ [])) (at 3 4) end))
unfolding left is_end lookahead_at sees take_token take_lifetime take_mark take_group before rows_for rows run parse_rule
variant_brackets_first = not_read variant _ refl

-- no tokens: nothing is read
variant_nothing : NotDerived (rule variant)
    (end)
unfolding left is_end lookahead_at sees take_token take_lifetime take_mark take_group before rows_for rows run parse_rule
variant_nothing = not_read variant _ refl

-- `A, B(u8), C { a: u8 }` prints `A , B ( u8 ) , C { a : u8 }`
variants_three : DerivesAs variants
    (leaf (ident (65 ∷ [])) (at 0 1) (punct 44 false (at 1 2) (leaf (ident (66 ∷ [])) (at 3 4) (group Paren (at 4 5) (at 7 8) (leaf (ident (117 ∷ 56 ∷ [])) (at 5 7) end) (punct 44 false (at 8 9) (leaf (ident (67 ∷ [])) (at 10 11) (group Brace (at 12 13) (at 20 21) (leaf (ident (97 ∷ [])) (at 14 15) (punct 58 false (at 15 16) (leaf (ident (117 ∷ 56 ∷ [])) (at 17 19) end))) end)))))))
    (leaf (ident (65 ∷ [])) call_site (punct 44 false call_site (leaf (ident (66 ∷ [])) call_site (group Paren call_site call_site (leaf (ident (117 ∷ 56 ∷ [])) call_site end) (punct 44 false call_site (leaf (ident (67 ∷ [])) call_site (group Brace call_site call_site (leaf (ident (97 ∷ [])) call_site (punct 58 false call_site (leaf (ident (117 ∷ 56 ∷ [])) call_site end))) end)))))))
    (end)
unfolding left is_end lookahead_at sees take_token take_lifetime take_mark take_group before rows_for rows run parse_rule
variants_three = computed variants _ _ _ refl

-- `a, b c` prints `a , b` and leaves `c`
variants_leave_name : DerivesAs variants
    (leaf (ident (97 ∷ [])) (at 0 1) (punct 44 false (at 1 2) (leaf (ident (98 ∷ [])) (at 3 4) (leaf (ident (99 ∷ [])) (at 5 6) end))))
    (leaf (ident (97 ∷ [])) call_site (punct 44 false call_site (leaf (ident (98 ∷ [])) call_site end)))
    (leaf (ident (99 ∷ [])) (at 5 6) end)
unfolding left is_end lookahead_at sees take_token take_lifetime take_mark take_group before rows_for rows run parse_rule
variants_leave_name = computed variants _ _ _ refl

-- `a,,`: nothing is read
variants_two_commas : NotDerived (rule variants)
    (leaf (ident (97 ∷ [])) (at 0 1) (punct 44 true (at 1 2) (punct 44 false (at 2 3) end)))
unfolding left is_end lookahead_at sees take_token take_lifetime take_mark take_group before rows_for rows run parse_rule
variants_two_commas = not_read variants _ refl

-- `a;` prints `a` and leaves `;`
variants_semicolon : DerivesAs variants
    (leaf (ident (97 ∷ [])) (at 0 1) (punct 59 false (at 1 2) end))
    (leaf (ident (97 ∷ [])) call_site end)
    (punct 59 false (at 1 2) end)
unfolding left is_end lookahead_at sees take_token take_lifetime take_mark take_group before rows_for rows run parse_rule
variants_semicolon = computed variants _ _ _ refl

-- `a,` prints `a ,`
variants_last_comma : DerivesAs variants
    (leaf (ident (97 ∷ [])) (at 0 1) (punct 44 false (at 1 2) end))
    (leaf (ident (97 ∷ [])) call_site (punct 44 false call_site end))
    (end)
unfolding left is_end lookahead_at sees take_token take_lifetime take_mark take_group before rows_for rows run parse_rule
variants_last_comma = computed variants _ _ _ refl

-- `, a b`: nothing is read
variants_comma_first : NotDerived (rule variants)
    (punct 44 false (at 0 1) (leaf (ident (97 ∷ [])) (at 2 3) (leaf (ident (98 ∷ [])) (at 4 5) end)))
unfolding left is_end lookahead_at sees take_token take_lifetime take_mark take_group before rows_for rows run parse_rule
variants_comma_first = not_read variants _ refl
