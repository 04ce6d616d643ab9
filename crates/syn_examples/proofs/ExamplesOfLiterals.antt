-- Written by tools/grammar.py from specs/Table.antt; edits are lost.
-- Worked examples of struct literals, from tools/examples.txt: what each rule reads, prints and refuses. The checker computes each.
use Rattle.std.proofs.Common.{true, false, [], ◌∷◌, refl}
use Rattle.syn_grammar.specs.Words.{w_else, w_if, w_let, w_self}
use Rattle.syn_grammar.specs.Tokens.{call_site, Paren, Brace, Bracket, Int, ident, literal, end, leaf, punct, group}
use Rattle.syn_grammar.specs.Rules.{more_type_words, primary, literal_fields, literal_field, whole_expression, statements, statement, local}
use Rattle.syn_grammar.specs.Grammar.{rule}
use Rattle.syn_grammar.specs.Take.{left, is_end, lookahead_at, sees, take_token, take_lifetime, take_mark, take_group, before, first_span}
use Rattle.syn_grammar.specs.Run.{rows_for, rows, run, parse_rule}
use Rattle.syn_grammar.specs.Promises.{Refused, NotDerived}
use Rattle.syn_grammar.proofs.Means.{not_derived}
use Rattle.syn_grammar.proofs.Shown.{at, DerivesAs, computed, not_read}

-- `a::b<c>` prints `a :: b < c >`
more_words_two : DerivesAs more_type_words
    (leaf (ident (97 ∷ [])) (at 0 1) (punct 58 true (at 1 2) (punct 58 false (at 2 3) (leaf (ident (98 ∷ [])) (at 3 4) (punct 60 false (at 4 5) (leaf (ident (99 ∷ [])) (at 5 6) (punct 62 false (at 6 7) end)))))))
    (leaf (ident (97 ∷ [])) call_site (punct 58 true call_site (punct 58 false call_site (leaf (ident (98 ∷ [])) call_site (punct 60 false call_site (leaf (ident (99 ∷ [])) call_site (punct 62 false call_site end)))))))
    (end)
unfolding left is_end lookahead_at sees take_token take_lifetime take_mark take_group before rows_for rows run parse_rule
more_words_two = computed more_type_words _ _ _ refl

-- `::a`: nothing is read
more_words_rooted : NotDerived (rule more_type_words)
    (punct 58 true (at 0 1) (punct 58 false (at 1 2) (leaf (ident (97 ∷ [])) (at 2 3) end)))
unfolding left is_end lookahead_at sees take_token take_lifetime take_mark take_group before rows_for rows run parse_rule
more_words_rooted = not_read more_type_words _ refl

-- no tokens prints ``
literal_fields_none : DerivesAs literal_fields
    (end)
    (end)
    (end)
unfolding left is_end lookahead_at sees take_token take_lifetime take_mark take_group before rows_for rows run parse_rule
literal_fields_none = computed literal_fields _ _ _ refl

-- `a, b: c, 0: d,` prints `a , b : c , 0 : d ,`
literal_fields_three : DerivesAs literal_fields
    (leaf (ident (97 ∷ [])) (at 0 1) (punct 44 false (at 1 2) (leaf (ident (98 ∷ [])) (at 3 4) (punct 58 false (at 4 5) (leaf (ident (99 ∷ [])) (at 6 7) (punct 44 false (at 7 8) (leaf (literal Int (48 ∷ [])) (at 9 10) (punct 58 false (at 10 11) (leaf (ident (100 ∷ [])) (at 12 13) (punct 44 false (at 13 14) end))))))))))
    (leaf (ident (97 ∷ [])) call_site (punct 44 false call_site (leaf (ident (98 ∷ [])) call_site (punct 58 false call_site (leaf (ident (99 ∷ [])) call_site (punct 44 false call_site (leaf (literal Int (48 ∷ [])) call_site (punct 58 false call_site (leaf (ident (100 ∷ [])) call_site (punct 44 false call_site end))))))))))
    (end)
unfolding left is_end lookahead_at sees take_token take_lifetime take_mark take_group before rows_for rows run parse_rule
literal_fields_three = computed literal_fields _ _ _ refl

-- `a, ..b` prints `a , ..b`
literal_fields_base : DerivesAs literal_fields
    (leaf (ident (97 ∷ [])) (at 0 1) (punct 44 false (at 1 2) (punct 46 true (at 3 4) (punct 46 false (at 4 5) (leaf (ident (98 ∷ [])) (at 5 6) end)))))
    (leaf (ident (97 ∷ [])) call_site (punct 44 false call_site (punct 46 true call_site (punct 46 false call_site (leaf (ident (98 ∷ [])) call_site end)))))
    (end)
unfolding left is_end lookahead_at sees take_token take_lifetime take_mark take_group before rows_for rows run parse_rule
literal_fields_base = computed literal_fields _ _ _ refl

-- `..b` prints `..b`
literal_fields_base_alone : DerivesAs literal_fields
    (punct 46 true (at 0 1) (punct 46 false (at 1 2) (leaf (ident (98 ∷ [])) (at 2 3) end)))
    (punct 46 true call_site (punct 46 false call_site (leaf (ident (98 ∷ [])) call_site end)))
    (end)
unfolding left is_end lookahead_at sees take_token take_lifetime take_mark take_group before rows_for rows run parse_rule
literal_fields_base_alone = computed literal_fields _ _ _ refl

-- `..b,` prints `..b` and leaves `,`
literal_fields_base_comma : DerivesAs literal_fields
    (punct 46 true (at 0 1) (punct 46 false (at 1 2) (leaf (ident (98 ∷ [])) (at 2 3) (punct 44 false (at 3 4) end))))
    (punct 46 true call_site (punct 46 false call_site (leaf (ident (98 ∷ [])) call_site end)))
    (punct 44 false (at 3 4) end)
unfolding left is_end lookahead_at sees take_token take_lifetime take_mark take_group before rows_for rows run parse_rule
literal_fields_base_comma = computed literal_fields _ _ _ refl

-- `a ..b` prints `a` and leaves `..b`
literal_fields_base_joined : DerivesAs literal_fields
    (leaf (ident (97 ∷ [])) (at 0 1) (punct 46 true (at 2 3) (punct 46 false (at 3 4) (leaf (ident (98 ∷ [])) (at 4 5) end))))
    (leaf (ident (97 ∷ [])) call_site end)
    (punct 46 true (at 2 3) (punct 46 false (at 3 4) (leaf (ident (98 ∷ [])) (at 4 5) end)))
unfolding left is_end lookahead_at sees take_token take_lifetime take_mark take_group before rows_for rows run parse_rule
literal_fields_base_joined = computed literal_fields _ _ _ refl

-- `a, ..`: nothing is read
literal_fields_rest_alone : NotDerived (rule literal_fields)
    (leaf (ident (97 ∷ [])) (at 0 1) (punct 44 false (at 1 2) (punct 46 true (at 3 4) (punct 46 false (at 4 5) end))))
unfolding left is_end lookahead_at sees take_token take_lifetime take_mark take_group before rows_for rows run parse_rule
literal_fields_rest_alone = not_read literal_fields _ refl

-- `a; b` prints `a` and leaves `; b`
literal_fields_semi : DerivesAs literal_fields
    (leaf (ident (97 ∷ [])) (at 0 1) (punct 59 false (at 1 2) (leaf (ident (98 ∷ [])) (at 3 4) end)))
    (leaf (ident (97 ∷ [])) call_site end)
    (punct 59 false (at 1 2) (leaf (ident (98 ∷ [])) (at 3 4) end))
unfolding left is_end lookahead_at sees take_token take_lifetime take_mark take_group before rows_for rows run parse_rule
literal_fields_semi = computed literal_fields _ _ _ refl

-- `a; b` is refused
literal_fields_semi_whole : Refused literal_fields
    (leaf (ident (97 ∷ [])) (at 0 1) (punct 59 false (at 1 2) (leaf (ident (98 ∷ [])) (at 3 4) end)))
unfolding left is_end lookahead_at sees take_token take_lifetime take_mark take_group before rows_for rows run parse_rule
literal_fields_semi_whole = not_derived literal_fields _ refl

-- `#[a] b: c + d` prints `# [a] b : c + d`
literal_field_value : DerivesAs literal_field
    (punct 35 false (at 0 1) (group Bracket (at 1 2) (at 3 4) (leaf (ident (97 ∷ [])) (at 2 3) end) (leaf (ident (98 ∷ [])) (at 5 6) (punct 58 false (at 6 7) (leaf (ident (99 ∷ [])) (at 8 9) (punct 43 false (at 10 11) (leaf (ident (100 ∷ [])) (at 12 13) end)))))))
    (punct 35 false call_site (group Bracket call_site call_site (leaf (ident (97 ∷ [])) call_site end) (leaf (ident (98 ∷ [])) call_site (punct 58 false call_site (leaf (ident (99 ∷ [])) call_site (punct 43 false call_site (leaf (ident (100 ∷ [])) call_site end)))))))
    (end)
unfolding left is_end lookahead_at sees take_token take_lifetime take_mark take_group before rows_for rows run parse_rule
literal_field_value = computed literal_field _ _ _ refl

-- `a` prints `a`
literal_field_name : DerivesAs literal_field
    (leaf (ident (97 ∷ [])) (at 0 1) end)
    (leaf (ident (97 ∷ [])) call_site end)
    (end)
unfolding left is_end lookahead_at sees take_token take_lifetime take_mark take_group before rows_for rows run parse_rule
literal_field_name = computed literal_field _ _ _ refl

-- `0: a` prints `0 : a`
literal_field_number : DerivesAs literal_field
    (leaf (literal Int (48 ∷ [])) (at 0 1) (punct 58 false (at 1 2) (leaf (ident (97 ∷ [])) (at 3 4) end)))
    (leaf (literal Int (48 ∷ [])) call_site (punct 58 false call_site (leaf (ident (97 ∷ [])) call_site end)))
    (end)
unfolding left is_end lookahead_at sees take_token take_lifetime take_mark take_group before rows_for rows run parse_rule
literal_field_number = computed literal_field _ _ _ refl

-- `0`: nothing is read
literal_field_number_alone : NotDerived (rule literal_field)
    (leaf (literal Int (48 ∷ [])) (at 0 1) end)
unfolding left is_end lookahead_at sees take_token take_lifetime take_mark take_group before rows_for rows run parse_rule
literal_field_number_alone = not_read literal_field _ refl

-- `01: a`: nothing is read
literal_field_leading_zero : NotDerived (rule literal_field)
    (leaf (literal Int (48 ∷ 49 ∷ [])) (at 0 2) (punct 58 false (at 2 3) (leaf (ident (97 ∷ [])) (at 4 5) end)))
unfolding left is_end lookahead_at sees take_token take_lifetime take_mark take_group before rows_for rows run parse_rule
literal_field_leading_zero = not_read literal_field _ refl

-- `self`: nothing is read
literal_field_keyword : NotDerived (rule literal_field)
    (leaf (ident w_self) (at 0 4) end)
unfolding left is_end lookahead_at sees take_token take_lifetime take_mark take_group before rows_for rows run parse_rule
literal_field_keyword = not_read literal_field _ refl

-- `a: b, c` prints `a : b` and leaves `, c`
literal_field_two : DerivesAs literal_field
    (leaf (ident (97 ∷ [])) (at 0 1) (punct 58 false (at 1 2) (leaf (ident (98 ∷ [])) (at 3 4) (punct 44 false (at 4 5) (leaf (ident (99 ∷ [])) (at 6 7) end)))))
    (leaf (ident (97 ∷ [])) call_site (punct 58 false call_site (leaf (ident (98 ∷ [])) call_site end)))
    (punct 44 false (at 4 5) (leaf (ident (99 ∷ [])) (at 6 7) end))
unfolding left is_end lookahead_at sees take_token take_lifetime take_mark take_group before rows_for rows run parse_rule
literal_field_two = computed literal_field _ _ _ refl

-- `a {}` prints `a {}`
prim_literal : DerivesAs primary
    (leaf (ident (97 ∷ [])) (at 0 1) (group Brace (at 2 3) (at 3 4) end end))
    (leaf (ident (97 ∷ [])) call_site (group Brace call_site call_site end end))
    (end)
unfolding left is_end lookahead_at sees take_token take_lifetime take_mark take_group before rows_for rows run parse_rule
prim_literal = computed primary _ _ _ refl

-- `a::b { c: d, ..e }` prints `a :: b {c : d , ..e}`
prim_literal_base : DerivesAs primary
    (leaf (ident (97 ∷ [])) (at 0 1) (punct 58 true (at 1 2) (punct 58 false (at 2 3) (leaf (ident (98 ∷ [])) (at 3 4) (group Brace (at 5 6) (at 17 18) (leaf (ident (99 ∷ [])) (at 7 8) (punct 58 false (at 8 9) (leaf (ident (100 ∷ [])) (at 10 11) (punct 44 false (at 11 12) (punct 46 true (at 13 14) (punct 46 false (at 14 15) (leaf (ident (101 ∷ [])) (at 15 16) end))))))) end)))))
    (leaf (ident (97 ∷ [])) call_site (punct 58 true call_site (punct 58 false call_site (leaf (ident (98 ∷ [])) call_site (group Brace call_site call_site (leaf (ident (99 ∷ [])) call_site (punct 58 false call_site (leaf (ident (100 ∷ [])) call_site (punct 44 false call_site (punct 46 true call_site (punct 46 false call_site (leaf (ident (101 ∷ [])) call_site end))))))) end)))))
    (end)
unfolding left is_end lookahead_at sees take_token take_lifetime take_mark take_group before rows_for rows run parse_rule
prim_literal_base = computed primary _ _ _ refl

-- `<a>::b { c }` prints `< a > :: b {c}`
prim_literal_qualified : DerivesAs primary
    (punct 60 false (at 0 1) (leaf (ident (97 ∷ [])) (at 1 2) (punct 62 true (at 2 3) (punct 58 true (at 3 4) (punct 58 false (at 4 5) (leaf (ident (98 ∷ [])) (at 5 6) (group Brace (at 7 8) (at 11 12) (leaf (ident (99 ∷ [])) (at 9 10) end) end)))))))
    (punct 60 false call_site (leaf (ident (97 ∷ [])) call_site (punct 62 false call_site (punct 58 true call_site (punct 58 false call_site (leaf (ident (98 ∷ [])) call_site (group Brace call_site call_site (leaf (ident (99 ∷ [])) call_site end) end)))))))
    (end)
unfolding left is_end lookahead_at sees take_token take_lifetime take_mark take_group before rows_for rows run parse_rule
prim_literal_qualified = computed primary _ _ _ refl

-- `a [b]` prints `a` and leaves `[b]`
prim_literal_brackets : DerivesAs primary
    (leaf (ident (97 ∷ [])) (at 0 1) (group Bracket (at 2 3) (at 4 5) (leaf (ident (98 ∷ [])) (at 3 4) end) end))
    (leaf (ident (97 ∷ [])) call_site end)
    (group Bracket (at 2 3) (at 4 5) (leaf (ident (98 ∷ [])) (at 3 4) end) end)
unfolding left is_end lookahead_at sees take_token take_lifetime take_mark take_group before rows_for rows run parse_rule
prim_literal_brackets = computed primary _ _ _ refl

-- `a {}.b()` prints `a {} . b ()`
expr_literal_method : DerivesAs whole_expression
    (leaf (ident (97 ∷ [])) (at 0 1) (group Brace (at 2 3) (at 3 4) end (punct 46 false (at 4 5) (leaf (ident (98 ∷ [])) (at 5 6) (group Paren (at 6 7) (at 7 8) end end)))))
    (leaf (ident (97 ∷ [])) call_site (group Brace call_site call_site end (punct 46 false call_site (leaf (ident (98 ∷ [])) call_site (group Paren call_site call_site end end)))))
    (end)
unfolding left is_end lookahead_at sees take_token take_lifetime take_mark take_group before rows_for rows run parse_rule
expr_literal_method = computed whole_expression _ _ _ refl

-- `a {}`: nothing is read
stmt_literal : NotDerived (rule statement)
    (leaf (ident (97 ∷ [])) (at 0 1) (group Brace (at 2 3) (at 3 4) end end))
unfolding left is_end lookahead_at sees take_token take_lifetime take_mark take_group before first_span rows_for rows run parse_rule
stmt_literal = not_read statement _ refl

-- `a { b, c: 1, ..d }` prints `a {b , c : 1 , ..d}`
stmts_literal : DerivesAs statements
    (leaf (ident (97 ∷ [])) (at 0 1) (group Brace (at 2 3) (at 17 18) (leaf (ident (98 ∷ [])) (at 4 5) (punct 44 false (at 5 6) (leaf (ident (99 ∷ [])) (at 7 8) (punct 58 false (at 8 9) (leaf (literal Int (49 ∷ [])) (at 10 11) (punct 44 false (at 11 12) (punct 46 true (at 13 14) (punct 46 false (at 14 15) (leaf (ident (100 ∷ [])) (at 15 16) end))))))))) end))
    (leaf (ident (97 ∷ [])) call_site (group Brace call_site call_site (leaf (ident (98 ∷ [])) call_site (punct 44 false call_site (leaf (ident (99 ∷ [])) call_site (punct 58 false call_site (leaf (literal Int (49 ∷ [])) call_site (punct 44 false call_site (punct 46 true call_site (punct 46 false call_site (leaf (ident (100 ∷ [])) call_site end))))))))) end))
    (end)
unfolding left is_end lookahead_at sees take_token take_lifetime take_mark take_group before first_span rows_for rows run parse_rule
stmts_literal = computed statements _ _ _ refl

-- `if a {} {}` prints `if a {} {}`
stmts_if_path : DerivesAs statements
    (leaf (ident w_if) (at 0 2) (leaf (ident (97 ∷ [])) (at 3 4) (group Brace (at 5 6) (at 6 7) end (group Brace (at 8 9) (at 9 10) end end))))
    (leaf (ident w_if) call_site (leaf (ident (97 ∷ [])) call_site (group Brace call_site call_site end (group Brace call_site call_site end end))))
    (end)
unfolding left is_end lookahead_at sees take_token take_lifetime take_mark take_group before first_span rows_for rows run parse_rule
stmts_if_path = computed statements _ _ _ refl

-- `if (a {}) {}` prints `if (a {}) {}`
stmts_if_literal : DerivesAs statements
    (leaf (ident w_if) (at 0 2) (group Paren (at 3 4) (at 8 9) (leaf (ident (97 ∷ [])) (at 4 5) (group Brace (at 6 7) (at 7 8) end end)) (group Brace (at 10 11) (at 11 12) end end)))
    (leaf (ident w_if) call_site (group Paren call_site call_site (leaf (ident (97 ∷ [])) call_site (group Brace call_site call_site end end)) (group Brace call_site call_site end end)))
    (end)
unfolding left is_end lookahead_at sees take_token take_lifetime take_mark take_group before first_span rows_for rows run parse_rule
stmts_if_literal = computed statements _ _ _ refl

-- `let a = b {} else {};`: nothing is read
local_literal_else : NotDerived (rule local)
    (leaf (ident w_let) (at 0 3) (leaf (ident (97 ∷ [])) (at 4 5) (punct 61 false (at 6 7) (leaf (ident (98 ∷ [])) (at 8 9) (group Brace (at 10 11) (at 11 12) end (leaf (ident w_else) (at 13 17) (group Brace (at 18 19) (at 19 20) end (punct 59 false (at 20 21) end))))))))
unfolding left is_end lookahead_at sees take_token take_lifetime take_mark take_group before rows_for rows run parse_rule
local_literal_else = not_read local _ refl
