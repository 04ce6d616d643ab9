-- Written by tools/grammar.py from specs/Table.antt; edits are lost.
-- Worked examples of expressions in the head of an `if`, a `while` or a `for`, from tools/examples.txt: what each rule reads, prints and refuses. The checker computes each.
use Rattle.std.proofs.Common.{true, false, [], ◌∷◌, refl}
use Rattle.syn_grammar.specs.Words.{w_as, w_return}
use Rattle.syn_grammar.specs.Tokens.{call_site, Paren, Brace, Bracket, ident, end, leaf, punct, group}
use Rattle.syn_grammar.specs.Rules.{primary_head, unary_head, cast_head, products_head, product_head, sums_head, sum_head, shifts_head, shift_head, bit_ands_head, bit_and_head, bit_xors_head, bit_xor_head, bit_ors_head, bit_or_head, compared_head, comparison_head, conjunctions_head, conjunction_head, disjunctions_head, disjunction_head, assigned_head, whole_expression_head}
use Rattle.syn_grammar.specs.Grammar.{rule}
use Rattle.syn_grammar.specs.Take.{left, is_end, lookahead_at, sees, take_token, take_lifetime, take_mark, take_group, before}
use Rattle.syn_grammar.specs.Run.{rows_for, rows, run, parse_rule}
use Rattle.syn_grammar.specs.Promises.{NotDerived}
use Rattle.syn_grammar.proofs.Shown.{at, DerivesAs, computed, not_read}

-- `a` prints `a`
head_prim_path : DerivesAs primary_head
    (leaf (ident (97 ∷ [])) (at 0 1) end)
    (leaf (ident (97 ∷ [])) call_site end)
    (end)
unfolding left is_end lookahead_at sees take_token take_lifetime take_mark take_group before rows_for rows run parse_rule
head_prim_path = computed primary_head _ _ _ refl

-- `a {}` prints `a` and leaves `{}`
head_prim_braces : DerivesAs primary_head
    (leaf (ident (97 ∷ [])) (at 0 1) (group Brace (at 2 3) (at 3 4) end end))
    (leaf (ident (97 ∷ [])) call_site end)
    (group Brace (at 2 3) (at 3 4) end end)
unfolding left is_end lookahead_at sees take_token take_lifetime take_mark take_group before rows_for rows run parse_rule
head_prim_braces = computed primary_head _ _ _ refl

-- `(a {})` prints `(a {})`
head_prim_group : DerivesAs primary_head
    (group Paren (at 0 1) (at 5 6) (leaf (ident (97 ∷ [])) (at 1 2) (group Brace (at 3 4) (at 4 5) end end)) end)
    (group Paren call_site call_site (leaf (ident (97 ∷ [])) call_site (group Brace call_site call_site end end)) end)
    (end)
unfolding left is_end lookahead_at sees take_token take_lifetime take_mark take_group before rows_for rows run parse_rule
head_prim_group = computed primary_head _ _ _ refl

-- `return a {}` prints `return a` and leaves `{}`
head_prim_return : DerivesAs primary_head
    (leaf (ident w_return) (at 0 6) (leaf (ident (97 ∷ [])) (at 7 8) (group Brace (at 9 10) (at 10 11) end end)))
    (leaf (ident w_return) call_site (leaf (ident (97 ∷ [])) call_site end))
    (group Brace (at 9 10) (at 10 11) end end)
unfolding left is_end lookahead_at sees take_token take_lifetime take_mark take_group before rows_for rows run parse_rule
head_prim_return = computed primary_head _ _ _ refl

-- `,`: nothing is read
head_prim_comma : NotDerived (rule primary_head)
    (punct 44 false (at 0 1) end)
unfolding left is_end lookahead_at sees take_token take_lifetime take_mark take_group before rows_for rows run parse_rule
head_prim_comma = not_read primary_head _ refl

-- `-a.b {}` prints `- a . b` and leaves `{}`
head_unary_minus : DerivesAs unary_head
    (punct 45 false (at 0 1) (leaf (ident (97 ∷ [])) (at 1 2) (punct 46 false (at 2 3) (leaf (ident (98 ∷ [])) (at 3 4) (group Brace (at 5 6) (at 6 7) end end)))))
    (punct 45 false call_site (leaf (ident (97 ∷ [])) call_site (punct 46 false call_site (leaf (ident (98 ∷ [])) call_site end))))
    (group Brace (at 5 6) (at 6 7) end end)
unfolding left is_end lookahead_at sees take_token take_lifetime take_mark take_group before rows_for rows run parse_rule
head_unary_minus = computed unary_head _ _ _ refl

-- `#[a] *b` prints `# [a] * b`
head_unary_attribute : DerivesAs unary_head
    (punct 35 false (at 0 1) (group Bracket (at 1 2) (at 3 4) (leaf (ident (97 ∷ [])) (at 2 3) end) (punct 42 false (at 5 6) (leaf (ident (98 ∷ [])) (at 6 7) end))))
    (punct 35 false call_site (group Bracket call_site call_site (leaf (ident (97 ∷ [])) call_site end) (punct 42 false call_site (leaf (ident (98 ∷ [])) call_site end))))
    (end)
unfolding left is_end lookahead_at sees take_token take_lifetime take_mark take_group before rows_for rows run parse_rule
head_unary_attribute = computed unary_head _ _ _ refl

-- `+a`: nothing is read
head_unary_plus : NotDerived (rule unary_head)
    (punct 43 false (at 0 1) (leaf (ident (97 ∷ [])) (at 1 2) end))
unfolding left is_end lookahead_at sees take_token take_lifetime take_mark take_group before rows_for rows run parse_rule
head_unary_plus = not_read unary_head _ refl

-- `a as b {}` prints `a as b` and leaves `{}`
head_cast : DerivesAs cast_head
    (leaf (ident (97 ∷ [])) (at 0 1) (leaf (ident w_as) (at 2 4) (leaf (ident (98 ∷ [])) (at 5 6) (group Brace (at 7 8) (at 8 9) end end))))
    (leaf (ident (97 ∷ [])) call_site (leaf (ident w_as) call_site (leaf (ident (98 ∷ [])) call_site end)))
    (group Brace (at 7 8) (at 8 9) end end)
unfolding left is_end lookahead_at sees take_token take_lifetime take_mark take_group before rows_for rows run parse_rule
head_cast = computed cast_head _ _ _ refl

-- `,`: nothing is read
head_cast_comma : NotDerived (rule cast_head)
    (punct 44 false (at 0 1) end)
unfolding left is_end lookahead_at sees take_token take_lifetime take_mark take_group before rows_for rows run parse_rule
head_cast_comma = not_read cast_head _ refl

-- `* a / b % c {}` prints `* a / b % c` and leaves `{}`
head_products : DerivesAs products_head
    (punct 42 false (at 0 1) (leaf (ident (97 ∷ [])) (at 2 3) (punct 47 false (at 4 5) (leaf (ident (98 ∷ [])) (at 6 7) (punct 37 false (at 8 9) (leaf (ident (99 ∷ [])) (at 10 11) (group Brace (at 12 13) (at 13 14) end end)))))))
    (punct 42 false call_site (leaf (ident (97 ∷ [])) call_site (punct 47 false call_site (leaf (ident (98 ∷ [])) call_site (punct 37 false call_site (leaf (ident (99 ∷ [])) call_site end))))))
    (group Brace (at 12 13) (at 13 14) end end)
unfolding left is_end lookahead_at sees take_token take_lifetime take_mark take_group before rows_for rows run parse_rule
head_products = computed products_head _ _ _ refl

-- `*= a` prints `` and leaves `*= a`
head_products_equals : DerivesAs products_head
    (punct 42 true (at 0 1) (punct 61 false (at 1 2) (leaf (ident (97 ∷ [])) (at 3 4) end)))
    (end)
    (punct 42 true (at 0 1) (punct 61 false (at 1 2) (leaf (ident (97 ∷ [])) (at 3 4) end)))
unfolding left is_end lookahead_at sees take_token take_lifetime take_mark take_group before rows_for rows run parse_rule
head_products_equals = computed products_head _ _ _ refl

-- `* ,`: nothing is read
head_products_wrong : NotDerived (rule products_head)
    (punct 42 false (at 0 1) (punct 44 false (at 2 3) end))
unfolding left is_end lookahead_at sees take_token take_lifetime take_mark take_group before rows_for rows run parse_rule
head_products_wrong = not_read products_head _ refl

-- `a * b {}` prints `a * b` and leaves `{}`
head_product : DerivesAs product_head
    (leaf (ident (97 ∷ [])) (at 0 1) (punct 42 false (at 2 3) (leaf (ident (98 ∷ [])) (at 4 5) (group Brace (at 6 7) (at 7 8) end end))))
    (leaf (ident (97 ∷ [])) call_site (punct 42 false call_site (leaf (ident (98 ∷ [])) call_site end)))
    (group Brace (at 6 7) (at 7 8) end end)
unfolding left is_end lookahead_at sees take_token take_lifetime take_mark take_group before rows_for rows run parse_rule
head_product = computed product_head _ _ _ refl

-- `a * ,`: nothing is read
head_product_comma : NotDerived (rule product_head)
    (leaf (ident (97 ∷ [])) (at 0 1) (punct 42 false (at 2 3) (punct 44 false (at 4 5) end)))
unfolding left is_end lookahead_at sees take_token take_lifetime take_mark take_group before rows_for rows run parse_rule
head_product_comma = not_read product_head _ refl

-- `+ a - b {}` prints `+ a - b` and leaves `{}`
head_sums : DerivesAs sums_head
    (punct 43 false (at 0 1) (leaf (ident (97 ∷ [])) (at 2 3) (punct 45 false (at 4 5) (leaf (ident (98 ∷ [])) (at 6 7) (group Brace (at 8 9) (at 9 10) end end)))))
    (punct 43 false call_site (leaf (ident (97 ∷ [])) call_site (punct 45 false call_site (leaf (ident (98 ∷ [])) call_site end))))
    (group Brace (at 8 9) (at 9 10) end end)
unfolding left is_end lookahead_at sees take_token take_lifetime take_mark take_group before rows_for rows run parse_rule
head_sums = computed sums_head _ _ _ refl

-- `+ ,`: nothing is read
head_sums_comma : NotDerived (rule sums_head)
    (punct 43 false (at 0 1) (punct 44 false (at 2 3) end))
unfolding left is_end lookahead_at sees take_token take_lifetime take_mark take_group before rows_for rows run parse_rule
head_sums_comma = not_read sums_head _ refl

-- `a + b {}` prints `a + b` and leaves `{}`
head_sum : DerivesAs sum_head
    (leaf (ident (97 ∷ [])) (at 0 1) (punct 43 false (at 2 3) (leaf (ident (98 ∷ [])) (at 4 5) (group Brace (at 6 7) (at 7 8) end end))))
    (leaf (ident (97 ∷ [])) call_site (punct 43 false call_site (leaf (ident (98 ∷ [])) call_site end)))
    (group Brace (at 6 7) (at 7 8) end end)
unfolding left is_end lookahead_at sees take_token take_lifetime take_mark take_group before rows_for rows run parse_rule
head_sum = computed sum_head _ _ _ refl

-- `a + ,`: nothing is read
head_sum_comma : NotDerived (rule sum_head)
    (leaf (ident (97 ∷ [])) (at 0 1) (punct 43 false (at 2 3) (punct 44 false (at 4 5) end)))
unfolding left is_end lookahead_at sees take_token take_lifetime take_mark take_group before rows_for rows run parse_rule
head_sum_comma = not_read sum_head _ refl

-- `<< a >> b {}` prints `<< a >> b` and leaves `{}`
head_shifts : DerivesAs shifts_head
    (punct 60 true (at 0 1) (punct 60 false (at 1 2) (leaf (ident (97 ∷ [])) (at 3 4) (punct 62 true (at 5 6) (punct 62 false (at 6 7) (leaf (ident (98 ∷ [])) (at 8 9) (group Brace (at 10 11) (at 11 12) end end)))))))
    (punct 60 true call_site (punct 60 false call_site (leaf (ident (97 ∷ [])) call_site (punct 62 true call_site (punct 62 false call_site (leaf (ident (98 ∷ [])) call_site end))))))
    (group Brace (at 10 11) (at 11 12) end end)
unfolding left is_end lookahead_at sees take_token take_lifetime take_mark take_group before rows_for rows run parse_rule
head_shifts = computed shifts_head _ _ _ refl

-- `<< ,`: nothing is read
head_shifts_comma : NotDerived (rule shifts_head)
    (punct 60 true (at 0 1) (punct 60 false (at 1 2) (punct 44 false (at 3 4) end)))
unfolding left is_end lookahead_at sees take_token take_lifetime take_mark take_group before rows_for rows run parse_rule
head_shifts_comma = not_read shifts_head _ refl

-- `a << b {}` prints `a << b` and leaves `{}`
head_shift : DerivesAs shift_head
    (leaf (ident (97 ∷ [])) (at 0 1) (punct 60 true (at 2 3) (punct 60 false (at 3 4) (leaf (ident (98 ∷ [])) (at 5 6) (group Brace (at 7 8) (at 8 9) end end)))))
    (leaf (ident (97 ∷ [])) call_site (punct 60 true call_site (punct 60 false call_site (leaf (ident (98 ∷ [])) call_site end))))
    (group Brace (at 7 8) (at 8 9) end end)
unfolding left is_end lookahead_at sees take_token take_lifetime take_mark take_group before rows_for rows run parse_rule
head_shift = computed shift_head _ _ _ refl

-- `a << ,`: nothing is read
head_shift_comma : NotDerived (rule shift_head)
    (leaf (ident (97 ∷ [])) (at 0 1) (punct 60 true (at 2 3) (punct 60 false (at 3 4) (punct 44 false (at 5 6) end))))
unfolding left is_end lookahead_at sees take_token take_lifetime take_mark take_group before rows_for rows run parse_rule
head_shift_comma = not_read shift_head _ refl

-- `& a & b {}` prints `& a & b` and leaves `{}`
head_bit_ands : DerivesAs bit_ands_head
    (punct 38 false (at 0 1) (leaf (ident (97 ∷ [])) (at 2 3) (punct 38 false (at 4 5) (leaf (ident (98 ∷ [])) (at 6 7) (group Brace (at 8 9) (at 9 10) end end)))))
    (punct 38 false call_site (leaf (ident (97 ∷ [])) call_site (punct 38 false call_site (leaf (ident (98 ∷ [])) call_site end))))
    (group Brace (at 8 9) (at 9 10) end end)
unfolding left is_end lookahead_at sees take_token take_lifetime take_mark take_group before rows_for rows run parse_rule
head_bit_ands = computed bit_ands_head _ _ _ refl

-- `& ,`: nothing is read
head_bit_ands_comma : NotDerived (rule bit_ands_head)
    (punct 38 false (at 0 1) (punct 44 false (at 2 3) end))
unfolding left is_end lookahead_at sees take_token take_lifetime take_mark take_group before rows_for rows run parse_rule
head_bit_ands_comma = not_read bit_ands_head _ refl

-- `a & b {}` prints `a & b` and leaves `{}`
head_bit_and : DerivesAs bit_and_head
    (leaf (ident (97 ∷ [])) (at 0 1) (punct 38 false (at 2 3) (leaf (ident (98 ∷ [])) (at 4 5) (group Brace (at 6 7) (at 7 8) end end))))
    (leaf (ident (97 ∷ [])) call_site (punct 38 false call_site (leaf (ident (98 ∷ [])) call_site end)))
    (group Brace (at 6 7) (at 7 8) end end)
unfolding left is_end lookahead_at sees take_token take_lifetime take_mark take_group before rows_for rows run parse_rule
head_bit_and = computed bit_and_head _ _ _ refl

-- `a & ,`: nothing is read
head_bit_and_comma : NotDerived (rule bit_and_head)
    (leaf (ident (97 ∷ [])) (at 0 1) (punct 38 false (at 2 3) (punct 44 false (at 4 5) end)))
unfolding left is_end lookahead_at sees take_token take_lifetime take_mark take_group before rows_for rows run parse_rule
head_bit_and_comma = not_read bit_and_head _ refl

-- `^ a ^ b {}` prints `^ a ^ b` and leaves `{}`
head_bit_xors : DerivesAs bit_xors_head
    (punct 94 false (at 0 1) (leaf (ident (97 ∷ [])) (at 2 3) (punct 94 false (at 4 5) (leaf (ident (98 ∷ [])) (at 6 7) (group Brace (at 8 9) (at 9 10) end end)))))
    (punct 94 false call_site (leaf (ident (97 ∷ [])) call_site (punct 94 false call_site (leaf (ident (98 ∷ [])) call_site end))))
    (group Brace (at 8 9) (at 9 10) end end)
unfolding left is_end lookahead_at sees take_token take_lifetime take_mark take_group before rows_for rows run parse_rule
head_bit_xors = computed bit_xors_head _ _ _ refl

-- `^ ,`: nothing is read
head_bit_xors_comma : NotDerived (rule bit_xors_head)
    (punct 94 false (at 0 1) (punct 44 false (at 2 3) end))
unfolding left is_end lookahead_at sees take_token take_lifetime take_mark take_group before rows_for rows run parse_rule
head_bit_xors_comma = not_read bit_xors_head _ refl

-- `a ^ b {}` prints `a ^ b` and leaves `{}`
head_bit_xor : DerivesAs bit_xor_head
    (leaf (ident (97 ∷ [])) (at 0 1) (punct 94 false (at 2 3) (leaf (ident (98 ∷ [])) (at 4 5) (group Brace (at 6 7) (at 7 8) end end))))
    (leaf (ident (97 ∷ [])) call_site (punct 94 false call_site (leaf (ident (98 ∷ [])) call_site end)))
    (group Brace (at 6 7) (at 7 8) end end)
unfolding left is_end lookahead_at sees take_token take_lifetime take_mark take_group before rows_for rows run parse_rule
head_bit_xor = computed bit_xor_head _ _ _ refl

-- `a ^ ,`: nothing is read
head_bit_xor_comma : NotDerived (rule bit_xor_head)
    (leaf (ident (97 ∷ [])) (at 0 1) (punct 94 false (at 2 3) (punct 44 false (at 4 5) end)))
unfolding left is_end lookahead_at sees take_token take_lifetime take_mark take_group before rows_for rows run parse_rule
head_bit_xor_comma = not_read bit_xor_head _ refl

-- `| a | b {}` prints `| a | b` and leaves `{}`
head_bit_ors : DerivesAs bit_ors_head
    (punct 124 false (at 0 1) (leaf (ident (97 ∷ [])) (at 2 3) (punct 124 false (at 4 5) (leaf (ident (98 ∷ [])) (at 6 7) (group Brace (at 8 9) (at 9 10) end end)))))
    (punct 124 false call_site (leaf (ident (97 ∷ [])) call_site (punct 124 false call_site (leaf (ident (98 ∷ [])) call_site end))))
    (group Brace (at 8 9) (at 9 10) end end)
unfolding left is_end lookahead_at sees take_token take_lifetime take_mark take_group before rows_for rows run parse_rule
head_bit_ors = computed bit_ors_head _ _ _ refl

-- `| ,`: nothing is read
head_bit_ors_comma : NotDerived (rule bit_ors_head)
    (punct 124 false (at 0 1) (punct 44 false (at 2 3) end))
unfolding left is_end lookahead_at sees take_token take_lifetime take_mark take_group before rows_for rows run parse_rule
head_bit_ors_comma = not_read bit_ors_head _ refl

-- `a | b {}` prints `a | b` and leaves `{}`
head_bit_or : DerivesAs bit_or_head
    (leaf (ident (97 ∷ [])) (at 0 1) (punct 124 false (at 2 3) (leaf (ident (98 ∷ [])) (at 4 5) (group Brace (at 6 7) (at 7 8) end end))))
    (leaf (ident (97 ∷ [])) call_site (punct 124 false call_site (leaf (ident (98 ∷ [])) call_site end)))
    (group Brace (at 6 7) (at 7 8) end end)
unfolding left is_end lookahead_at sees take_token take_lifetime take_mark take_group before rows_for rows run parse_rule
head_bit_or = computed bit_or_head _ _ _ refl

-- `a | ,`: nothing is read
head_bit_or_comma : NotDerived (rule bit_or_head)
    (leaf (ident (97 ∷ [])) (at 0 1) (punct 124 false (at 2 3) (punct 44 false (at 4 5) end)))
unfolding left is_end lookahead_at sees take_token take_lifetime take_mark take_group before rows_for rows run parse_rule
head_bit_or_comma = not_read bit_or_head _ refl

-- `== a {}` prints `== a` and leaves `{}`
head_compared : DerivesAs compared_head
    (punct 61 true (at 0 1) (punct 61 false (at 1 2) (leaf (ident (97 ∷ [])) (at 3 4) (group Brace (at 5 6) (at 6 7) end end))))
    (punct 61 true call_site (punct 61 false call_site (leaf (ident (97 ∷ [])) call_site end)))
    (group Brace (at 5 6) (at 6 7) end end)
unfolding left is_end lookahead_at sees take_token take_lifetime take_mark take_group before rows_for rows run parse_rule
head_compared = computed compared_head _ _ _ refl

-- `== ,`: nothing is read
head_compared_comma : NotDerived (rule compared_head)
    (punct 61 true (at 0 1) (punct 61 false (at 1 2) (punct 44 false (at 3 4) end)))
unfolding left is_end lookahead_at sees take_token take_lifetime take_mark take_group before rows_for rows run parse_rule
head_compared_comma = not_read compared_head _ refl

-- `a < b {}` prints `a < b` and leaves `{}`
head_comparison : DerivesAs comparison_head
    (leaf (ident (97 ∷ [])) (at 0 1) (punct 60 false (at 2 3) (leaf (ident (98 ∷ [])) (at 4 5) (group Brace (at 6 7) (at 7 8) end end))))
    (leaf (ident (97 ∷ [])) call_site (punct 60 false call_site (leaf (ident (98 ∷ [])) call_site end)))
    (group Brace (at 6 7) (at 7 8) end end)
unfolding left is_end lookahead_at sees take_token take_lifetime take_mark take_group before rows_for rows run parse_rule
head_comparison = computed comparison_head _ _ _ refl

-- `a < ,`: nothing is read
head_comparison_comma : NotDerived (rule comparison_head)
    (leaf (ident (97 ∷ [])) (at 0 1) (punct 60 false (at 2 3) (punct 44 false (at 4 5) end)))
unfolding left is_end lookahead_at sees take_token take_lifetime take_mark take_group before rows_for rows run parse_rule
head_comparison_comma = not_read comparison_head _ refl

-- `&& a && b {}` prints `&& a && b` and leaves `{}`
head_conjunctions : DerivesAs conjunctions_head
    (punct 38 true (at 0 1) (punct 38 false (at 1 2) (leaf (ident (97 ∷ [])) (at 3 4) (punct 38 true (at 5 6) (punct 38 false (at 6 7) (leaf (ident (98 ∷ [])) (at 8 9) (group Brace (at 10 11) (at 11 12) end end)))))))
    (punct 38 true call_site (punct 38 false call_site (leaf (ident (97 ∷ [])) call_site (punct 38 true call_site (punct 38 false call_site (leaf (ident (98 ∷ [])) call_site end))))))
    (group Brace (at 10 11) (at 11 12) end end)
unfolding left is_end lookahead_at sees take_token take_lifetime take_mark take_group before rows_for rows run parse_rule
head_conjunctions = computed conjunctions_head _ _ _ refl

-- `&& ,`: nothing is read
head_conjunctions_comma : NotDerived (rule conjunctions_head)
    (punct 38 true (at 0 1) (punct 38 false (at 1 2) (punct 44 false (at 3 4) end)))
unfolding left is_end lookahead_at sees take_token take_lifetime take_mark take_group before rows_for rows run parse_rule
head_conjunctions_comma = not_read conjunctions_head _ refl

-- `a && b {}` prints `a && b` and leaves `{}`
head_conjunction : DerivesAs conjunction_head
    (leaf (ident (97 ∷ [])) (at 0 1) (punct 38 true (at 2 3) (punct 38 false (at 3 4) (leaf (ident (98 ∷ [])) (at 5 6) (group Brace (at 7 8) (at 8 9) end end)))))
    (leaf (ident (97 ∷ [])) call_site (punct 38 true call_site (punct 38 false call_site (leaf (ident (98 ∷ [])) call_site end))))
    (group Brace (at 7 8) (at 8 9) end end)
unfolding left is_end lookahead_at sees take_token take_lifetime take_mark take_group before rows_for rows run parse_rule
head_conjunction = computed conjunction_head _ _ _ refl

-- `a && ,`: nothing is read
head_conjunction_comma : NotDerived (rule conjunction_head)
    (leaf (ident (97 ∷ [])) (at 0 1) (punct 38 true (at 2 3) (punct 38 false (at 3 4) (punct 44 false (at 5 6) end))))
unfolding left is_end lookahead_at sees take_token take_lifetime take_mark take_group before rows_for rows run parse_rule
head_conjunction_comma = not_read conjunction_head _ refl

-- `|| a || b {}` prints `|| a || b` and leaves `{}`
head_disjunctions : DerivesAs disjunctions_head
    (punct 124 true (at 0 1) (punct 124 false (at 1 2) (leaf (ident (97 ∷ [])) (at 3 4) (punct 124 true (at 5 6) (punct 124 false (at 6 7) (leaf (ident (98 ∷ [])) (at 8 9) (group Brace (at 10 11) (at 11 12) end end)))))))
    (punct 124 true call_site (punct 124 false call_site (leaf (ident (97 ∷ [])) call_site (punct 124 true call_site (punct 124 false call_site (leaf (ident (98 ∷ [])) call_site end))))))
    (group Brace (at 10 11) (at 11 12) end end)
unfolding left is_end lookahead_at sees take_token take_lifetime take_mark take_group before rows_for rows run parse_rule
head_disjunctions = computed disjunctions_head _ _ _ refl

-- `|| ,`: nothing is read
head_disjunctions_comma : NotDerived (rule disjunctions_head)
    (punct 124 true (at 0 1) (punct 124 false (at 1 2) (punct 44 false (at 3 4) end)))
unfolding left is_end lookahead_at sees take_token take_lifetime take_mark take_group before rows_for rows run parse_rule
head_disjunctions_comma = not_read disjunctions_head _ refl

-- `a || b {}` prints `a || b` and leaves `{}`
head_disjunction : DerivesAs disjunction_head
    (leaf (ident (97 ∷ [])) (at 0 1) (punct 124 true (at 2 3) (punct 124 false (at 3 4) (leaf (ident (98 ∷ [])) (at 5 6) (group Brace (at 7 8) (at 8 9) end end)))))
    (leaf (ident (97 ∷ [])) call_site (punct 124 true call_site (punct 124 false call_site (leaf (ident (98 ∷ [])) call_site end))))
    (group Brace (at 7 8) (at 8 9) end end)
unfolding left is_end lookahead_at sees take_token take_lifetime take_mark take_group before rows_for rows run parse_rule
head_disjunction = computed disjunction_head _ _ _ refl

-- `a || ,`: nothing is read
head_disjunction_comma : NotDerived (rule disjunction_head)
    (leaf (ident (97 ∷ [])) (at 0 1) (punct 124 true (at 2 3) (punct 124 false (at 3 4) (punct 44 false (at 5 6) end))))
unfolding left is_end lookahead_at sees take_token take_lifetime take_mark take_group before rows_for rows run parse_rule
head_disjunction_comma = not_read disjunction_head _ refl

-- `= a += b {}` prints `= a += b` and leaves `{}`
head_assigned : DerivesAs assigned_head
    (punct 61 false (at 0 1) (leaf (ident (97 ∷ [])) (at 2 3) (punct 43 true (at 4 5) (punct 61 false (at 5 6) (leaf (ident (98 ∷ [])) (at 7 8) (group Brace (at 9 10) (at 10 11) end end))))))
    (punct 61 false call_site (leaf (ident (97 ∷ [])) call_site (punct 43 true call_site (punct 61 false call_site (leaf (ident (98 ∷ [])) call_site end)))))
    (group Brace (at 9 10) (at 10 11) end end)
unfolding left is_end lookahead_at sees take_token take_lifetime take_mark take_group before rows_for rows run parse_rule
head_assigned = computed assigned_head _ _ _ refl

-- `= ,`: nothing is read
head_assigned_comma : NotDerived (rule assigned_head)
    (punct 61 false (at 0 1) (punct 44 false (at 2 3) end))
unfolding left is_end lookahead_at sees take_token take_lifetime take_mark take_group before rows_for rows run parse_rule
head_assigned_comma = not_read assigned_head _ refl

-- `a == b {}` prints `a == b` and leaves `{}`
head_whole : DerivesAs whole_expression_head
    (leaf (ident (97 ∷ [])) (at 0 1) (punct 61 true (at 2 3) (punct 61 false (at 3 4) (leaf (ident (98 ∷ [])) (at 5 6) (group Brace (at 7 8) (at 8 9) end end)))))
    (leaf (ident (97 ∷ [])) call_site (punct 61 true call_site (punct 61 false call_site (leaf (ident (98 ∷ [])) call_site end))))
    (group Brace (at 7 8) (at 8 9) end end)
unfolding left is_end lookahead_at sees take_token take_lifetime take_mark take_group before rows_for rows run parse_rule
head_whole = computed whole_expression_head _ _ _ refl

-- `a == b == c`: nothing is read
head_whole_twice : NotDerived (rule whole_expression_head)
    (leaf (ident (97 ∷ [])) (at 0 1) (punct 61 true (at 2 3) (punct 61 false (at 3 4) (leaf (ident (98 ∷ [])) (at 5 6) (punct 61 true (at 7 8) (punct 61 false (at 8 9) (leaf (ident (99 ∷ [])) (at 10 11) end)))))))
unfolding left is_end lookahead_at sees take_token take_lifetime take_mark take_group before rows_for rows run parse_rule
head_whole_twice = not_read whole_expression_head _ refl
