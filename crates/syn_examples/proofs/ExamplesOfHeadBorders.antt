-- Written by tools/grammar.py from specs/Table.antt; edits are lost.
-- Worked examples of borders of expressions in heads, from tools/examples.txt: what each rule reads, prints and refuses. The checker computes each.
use Rattle.std.proofs.Common.{true, false, [], ◌∷◌, refl}
use Rattle.syn_grammar.specs.Words.{w_underscore, w_as, w_break, w_continue, w_crate, w_false, w_for, w_if, w_in, w_loop, w_mut, w_return, w_Self_type, w_self, w_super, w_true, w_unsafe, w_while, w_auto, w_default, w_safe}
use Rattle.syn_grammar.specs.Tokens.{call_site, Paren, Brace, Bracket, None, Str, ByteStr, CStr, Byte, Char, Int, Float, ident, literal, end, leaf, punct, group}
use Rattle.syn_grammar.specs.Rules.{primary_head, unary_head, cast_head, product_head, sum_head, shift_head, bit_and_head, bit_xor_head, bit_or_head, comparison_head, conjunction_head, disjunction_head, whole_expression_head}
use Rattle.syn_grammar.specs.Grammar.{rule}
use Rattle.syn_grammar.specs.Take.{left, is_end, lookahead_at, sees, take_token, take_lifetime, take_mark, take_group, before}
use Rattle.syn_grammar.specs.Run.{rows_for, rows, run, parse_rule}
use Rattle.syn_grammar.specs.Promises.{NotDerived}
use Rattle.syn_grammar.proofs.Shown.{at, DerivesAs, computed, not_read}

-- `_`: nothing is read
primary_head_border_1 : NotDerived (rule primary_head)
    (leaf (ident w_underscore) (at 0 1) end)
unfolding left is_end lookahead_at sees take_token take_lifetime take_mark take_group before rows_for rows run parse_rule
primary_head_border_1 = not_read primary_head _ refl

-- `1 1` prints `1` and leaves `1`
primary_head_border_2 : DerivesAs primary_head
    (leaf (literal Int (49 ∷ [])) (at 0 1) (leaf (literal Int (49 ∷ [])) (at 2 3) end))
    (leaf (literal Int (49 ∷ [])) call_site end)
    (leaf (literal Int (49 ∷ [])) (at 2 3) end)
unfolding left is_end lookahead_at sees take_token take_lifetime take_mark take_group before rows_for rows run parse_rule
primary_head_border_2 = computed primary_head _ _ _ refl

-- `{;}` prints `{;}`
primary_head_border_3 : DerivesAs primary_head
    (group Brace (at 0 1) (at 2 3) (punct 59 false (at 1 2) end) end)
    (group Brace call_site call_site (punct 59 false call_site end) end)
    (end)
unfolding left is_end lookahead_at sees take_token take_lifetime take_mark take_group before rows_for rows run parse_rule
primary_head_border_3 = computed primary_head _ _ _ refl

-- `\(\)`: nothing is read
primary_head_border_4 : NotDerived (rule primary_head)
    (group None (at 0 2) (at 2 4) end end)
unfolding left is_end lookahead_at sees take_token take_lifetime take_mark take_group before rows_for rows run parse_rule
primary_head_border_4 = not_read primary_head _ refl

-- `() ()` prints `()` and leaves `()`
primary_head_border_5 : DerivesAs primary_head
    (group Paren (at 0 1) (at 1 2) end (group Paren (at 3 4) (at 4 5) end end))
    (group Paren call_site call_site end end)
    (group Paren (at 3 4) (at 4 5) end end)
unfolding left is_end lookahead_at sees take_token take_lifetime take_mark take_group before rows_for rows run parse_rule
primary_head_border_5 = computed primary_head _ _ _ refl

-- `(a b)`: nothing is read
primary_head_border_6 : NotDerived (rule primary_head)
    (group Paren (at 0 1) (at 4 5) (leaf (ident (97 ∷ [])) (at 1 2) (leaf (ident (98 ∷ [])) (at 3 4) end)) end)
unfolding left is_end lookahead_at sees take_token take_lifetime take_mark take_group before rows_for rows run parse_rule
primary_head_border_6 = not_read primary_head _ refl

-- `[] []` prints `[]` and leaves `[]`
primary_head_border_7 : DerivesAs primary_head
    (group Bracket (at 0 1) (at 1 2) end (group Bracket (at 3 4) (at 4 5) end end))
    (group Bracket call_site call_site end end)
    (group Bracket (at 3 4) (at 4 5) end end)
unfolding left is_end lookahead_at sees take_token take_lifetime take_mark take_group before rows_for rows run parse_rule
primary_head_border_7 = computed primary_head _ _ _ refl

-- `[a b]`: nothing is read
primary_head_border_8 : NotDerived (rule primary_head)
    (group Bracket (at 0 1) (at 4 5) (leaf (ident (97 ∷ [])) (at 1 2) (leaf (ident (98 ∷ [])) (at 3 4) end)) end)
unfolding left is_end lookahead_at sees take_token take_lifetime take_mark take_group before rows_for rows run parse_rule
primary_head_border_8 = not_read primary_head _ refl

-- `{} {}` prints `{}` and leaves `{}`
primary_head_border_9 : DerivesAs primary_head
    (group Brace (at 0 1) (at 1 2) end (group Brace (at 3 4) (at 4 5) end end))
    (group Brace call_site call_site end end)
    (group Brace (at 3 4) (at 4 5) end end)
unfolding left is_end lookahead_at sees take_token take_lifetime take_mark take_group before rows_for rows run parse_rule
primary_head_border_9 = computed primary_head _ _ _ refl

-- `[a ; 1]` prints `[a ; 1]`
primary_head_border_10 : DerivesAs primary_head
    (group Bracket (at 0 1) (at 6 7) (leaf (ident (97 ∷ [])) (at 1 2) (punct 59 false (at 3 4) (leaf (literal Int (49 ∷ [])) (at 5 6) end))) end)
    (group Bracket call_site call_site (leaf (ident (97 ∷ [])) call_site (punct 59 false call_site (leaf (literal Int (49 ∷ [])) call_site end))) end)
    (end)
unfolding left is_end lookahead_at sees take_token take_lifetime take_mark take_group before rows_for rows run parse_rule
primary_head_border_10 = computed primary_head _ _ _ refl

-- `break '` prints `break` and leaves `'`
primary_head_border_11 : DerivesAs primary_head
    (leaf (ident w_break) (at 0 5) (punct 39 true (at 6 7) end))
    (leaf (ident w_break) call_site end)
    (punct 39 true (at 6 7) end)
unfolding left is_end lookahead_at sees take_token take_lifetime take_mark take_group before rows_for rows run parse_rule
primary_head_border_11 = computed primary_head _ _ _ refl

-- `break 1`: nothing is read
primary_head_border_12 : NotDerived (rule primary_head)
    (leaf (ident w_break) (at 0 5) (leaf (literal Int (49 ∷ [])) (at 6 7) end))
unfolding left is_end lookahead_at sees take_token take_lifetime take_mark take_group before rows_for rows run parse_rule
primary_head_border_12 = not_read primary_head _ refl

-- `break a`: nothing is read
primary_head_border_13 : NotDerived (rule primary_head)
    (leaf (ident w_break) (at 0 5) (leaf (ident (97 ∷ [])) (at 6 7) end))
unfolding left is_end lookahead_at sees take_token take_lifetime take_mark take_group before rows_for rows run parse_rule
primary_head_border_13 = not_read primary_head _ refl

-- `super !`: nothing is read
primary_head_border_14 : NotDerived (rule primary_head)
    (leaf (ident w_super) (at 0 5) (punct 33 false (at 6 7) end))
unfolding left is_end lookahead_at sees take_token take_lifetime take_mark take_group before rows_for rows run parse_rule
primary_head_border_14 = not_read primary_head _ refl

-- `a ! () a` prints `a ! ()` and leaves `a`
primary_head_border_15 : DerivesAs primary_head
    (leaf (ident (97 ∷ [])) (at 0 1) (punct 33 false (at 2 3) (group Paren (at 4 5) (at 5 6) end (leaf (ident (97 ∷ [])) (at 7 8) end))))
    (leaf (ident (97 ∷ [])) call_site (punct 33 false call_site (group Paren call_site call_site end end)))
    (leaf (ident (97 ∷ [])) (at 7 8) end)
unfolding left is_end lookahead_at sees take_token take_lifetime take_mark take_group before rows_for rows run parse_rule
primary_head_border_15 = computed primary_head _ _ _ refl

-- `break 'a` prints `break 'a`
primary_head_border_16 : DerivesAs primary_head
    (leaf (ident w_break) (at 0 5) (punct 39 true (at 6 7) (leaf (ident (97 ∷ [])) (at 7 8) end)))
    (leaf (ident w_break) call_site (punct 39 true call_site (leaf (ident (97 ∷ [])) call_site end)))
    (end)
unfolding left is_end lookahead_at sees take_token take_lifetime take_mark take_group before rows_for rows run parse_rule
primary_head_border_16 = computed primary_head _ _ _ refl

-- `break []`: nothing is read
primary_head_border_17 : NotDerived (rule primary_head)
    (leaf (ident w_break) (at 0 5) (group Bracket (at 6 7) (at 7 8) end end))
unfolding left is_end lookahead_at sees take_token take_lifetime take_mark take_group before rows_for rows run parse_rule
primary_head_border_17 = not_read primary_head _ refl

-- `break if`: nothing is read
primary_head_border_18 : NotDerived (rule primary_head)
    (leaf (ident w_break) (at 0 5) (leaf (ident w_if) (at 6 8) end))
unfolding left is_end lookahead_at sees take_token take_lifetime take_mark take_group before rows_for rows run parse_rule
primary_head_border_18 = not_read primary_head _ refl

-- `continue` prints `continue`
primary_head_border_19 : DerivesAs primary_head
    (leaf (ident w_continue) (at 0 8) end)
    (leaf (ident w_continue) call_site end)
    (end)
unfolding left is_end lookahead_at sees take_token take_lifetime take_mark take_group before rows_for rows run parse_rule
primary_head_border_19 = computed primary_head _ _ _ refl

-- `return #`: nothing is read
primary_head_border_20 : NotDerived (rule primary_head)
    (leaf (ident w_return) (at 0 6) (punct 35 false (at 7 8) end))
unfolding left is_end lookahead_at sees take_token take_lifetime take_mark take_group before rows_for rows run parse_rule
primary_head_border_20 = not_read primary_head _ refl

-- `return '` prints `return` and leaves `'`
primary_head_border_21 : DerivesAs primary_head
    (leaf (ident w_return) (at 0 6) (punct 39 true (at 7 8) end))
    (leaf (ident w_return) call_site end)
    (punct 39 true (at 7 8) end)
unfolding left is_end lookahead_at sees take_token take_lifetime take_mark take_group before rows_for rows run parse_rule
primary_head_border_21 = computed primary_head _ _ _ refl

-- `return 0` prints `return 0`
primary_head_border_22 : DerivesAs primary_head
    (leaf (ident w_return) (at 0 6) (leaf (literal Int (48 ∷ [])) (at 7 8) end))
    (leaf (ident w_return) call_site (leaf (literal Int (48 ∷ [])) call_site end))
    (end)
unfolding left is_end lookahead_at sees take_token take_lifetime take_mark take_group before rows_for rows run parse_rule
primary_head_border_22 = computed primary_head _ _ _ refl

-- `:: a ! ()` prints `:: a ! ()`
primary_head_border_23 : DerivesAs primary_head
    (punct 58 true (at 0 1) (punct 58 false (at 1 2) (leaf (ident (97 ∷ [])) (at 3 4) (punct 33 false (at 5 6) (group Paren (at 7 8) (at 8 9) end end)))))
    (punct 58 true call_site (punct 58 false call_site (leaf (ident (97 ∷ [])) call_site (punct 33 false call_site (group Paren call_site call_site end end)))))
    (end)
unfolding left is_end lookahead_at sees take_token take_lifetime take_mark take_group before rows_for rows run parse_rule
primary_head_border_23 = computed primary_head _ _ _ refl

-- `< T >:: a` prints `< T > :: a`
primary_head_border_24 : DerivesAs primary_head
    (punct 60 false (at 0 1) (leaf (ident (84 ∷ [])) (at 2 3) (punct 62 true (at 4 5) (punct 58 true (at 5 6) (punct 58 false (at 6 7) (leaf (ident (97 ∷ [])) (at 8 9) end))))))
    (punct 60 false call_site (leaf (ident (84 ∷ [])) call_site (punct 62 false call_site (punct 58 true call_site (punct 58 false call_site (leaf (ident (97 ∷ [])) call_site end))))))
    (end)
unfolding left is_end lookahead_at sees take_token take_lifetime take_mark take_group before rows_for rows run parse_rule
primary_head_border_24 = computed primary_head _ _ _ refl

-- `Self ! ()` prints `Self ! ()`
primary_head_border_25 : DerivesAs primary_head
    (leaf (ident w_Self_type) (at 0 4) (punct 33 false (at 5 6) (group Paren (at 7 8) (at 8 9) end end)))
    (leaf (ident w_Self_type) call_site (punct 33 false call_site (group Paren call_site call_site end end)))
    (end)
unfolding left is_end lookahead_at sees take_token take_lifetime take_mark take_group before rows_for rows run parse_rule
primary_head_border_25 = computed primary_head _ _ _ refl

-- `break ! a`: nothing is read
primary_head_border_26 : NotDerived (rule primary_head)
    (leaf (ident w_break) (at 0 5) (punct 33 false (at 6 7) (leaf (ident (97 ∷ [])) (at 8 9) end)))
unfolding left is_end lookahead_at sees take_token take_lifetime take_mark take_group before rows_for rows run parse_rule
primary_head_border_26 = not_read primary_head _ refl

-- `break "s"`: nothing is read
primary_head_border_27 : NotDerived (rule primary_head)
    (leaf (ident w_break) (at 0 5) (leaf (literal Str (34 ∷ 115 ∷ 34 ∷ [])) (at 6 9) end))
unfolding left is_end lookahead_at sees take_token take_lifetime take_mark take_group before rows_for rows run parse_rule
primary_head_border_27 = not_read primary_head _ refl

-- `break & a`: nothing is read
primary_head_border_28 : NotDerived (rule primary_head)
    (leaf (ident w_break) (at 0 5) (punct 38 false (at 6 7) (leaf (ident (97 ∷ [])) (at 8 9) end)))
unfolding left is_end lookahead_at sees take_token take_lifetime take_mark take_group before rows_for rows run parse_rule
primary_head_border_28 = not_read primary_head _ refl

-- `break 'c'`: nothing is read
primary_head_border_29 : NotDerived (rule primary_head)
    (leaf (ident w_break) (at 0 5) (leaf (literal Char (39 ∷ 99 ∷ 39 ∷ [])) (at 6 9) end))
unfolding left is_end lookahead_at sees take_token take_lifetime take_mark take_group before rows_for rows run parse_rule
primary_head_border_29 = not_read primary_head _ refl

-- `break (a)`: nothing is read
primary_head_border_30 : NotDerived (rule primary_head)
    (leaf (ident w_break) (at 0 5) (group Paren (at 6 7) (at 8 9) (leaf (ident (97 ∷ [])) (at 7 8) end) end))
unfolding left is_end lookahead_at sees take_token take_lifetime take_mark take_group before rows_for rows run parse_rule
primary_head_border_30 = not_read primary_head _ refl

-- `break * a`: nothing is read
primary_head_border_31 : NotDerived (rule primary_head)
    (leaf (ident w_break) (at 0 5) (punct 42 false (at 6 7) (leaf (ident (97 ∷ [])) (at 8 9) end)))
unfolding left is_end lookahead_at sees take_token take_lifetime take_mark take_group before rows_for rows run parse_rule
primary_head_border_31 = not_read primary_head _ refl

-- `break - a`: nothing is read
primary_head_border_32 : NotDerived (rule primary_head)
    (leaf (ident w_break) (at 0 5) (punct 45 false (at 6 7) (leaf (ident (97 ∷ [])) (at 8 9) end)))
unfolding left is_end lookahead_at sees take_token take_lifetime take_mark take_group before rows_for rows run parse_rule
primary_head_border_32 = not_read primary_head _ refl

-- `break 1.5`: nothing is read
primary_head_border_33 : NotDerived (rule primary_head)
    (leaf (ident w_break) (at 0 5) (leaf (literal Float (49 ∷ 46 ∷ 53 ∷ [])) (at 6 9) end))
unfolding left is_end lookahead_at sees take_token take_lifetime take_mark take_group before rows_for rows run parse_rule
primary_head_border_33 = not_read primary_head _ refl

-- `break : a` prints `break` and leaves `: a`
primary_head_border_34 : DerivesAs primary_head
    (leaf (ident w_break) (at 0 5) (punct 58 false (at 6 7) (leaf (ident (97 ∷ [])) (at 8 9) end)))
    (leaf (ident w_break) call_site end)
    (punct 58 false (at 6 7) (leaf (ident (97 ∷ [])) (at 8 9) end))
unfolding left is_end lookahead_at sees take_token take_lifetime take_mark take_group before rows_for rows run parse_rule
primary_head_border_34 = computed primary_head _ _ _ refl

-- `break {a}`: nothing is read
primary_head_border_35 : NotDerived (rule primary_head)
    (leaf (ident w_break) (at 0 5) (group Brace (at 6 7) (at 8 9) (leaf (ident (97 ∷ [])) (at 7 8) end) end))
unfolding left is_end lookahead_at sees take_token take_lifetime take_mark take_group before rows_for rows run parse_rule
primary_head_border_35 = not_read primary_head _ refl

-- `return {}` prints `return {}`
primary_head_border_36 : DerivesAs primary_head
    (leaf (ident w_return) (at 0 6) (group Brace (at 7 8) (at 8 9) end end))
    (leaf (ident w_return) call_site (group Brace call_site call_site end end))
    (end)
unfolding left is_end lookahead_at sees take_token take_lifetime take_mark take_group before rows_for rows run parse_rule
primary_head_border_36 = computed primary_head _ _ _ refl

-- `self ! ()` prints `self ! ()`
primary_head_border_37 : DerivesAs primary_head
    (leaf (ident w_self) (at 0 4) (punct 33 false (at 5 6) (group Paren (at 7 8) (at 8 9) end end)))
    (leaf (ident w_self) call_site (punct 33 false call_site (group Paren call_site call_site end end)))
    (end)
unfolding left is_end lookahead_at sees take_token take_lifetime take_mark take_group before rows_for rows run parse_rule
primary_head_border_37 = computed primary_head _ _ _ refl

-- `true true` prints `true` and leaves `true`
primary_head_border_38 : DerivesAs primary_head
    (leaf (ident w_true) (at 0 4) (leaf (ident w_true) (at 5 9) end))
    (leaf (ident w_true) call_site end)
    (leaf (ident w_true) (at 5 9) end)
unfolding left is_end lookahead_at sees take_token take_lifetime take_mark take_group before rows_for rows run parse_rule
primary_head_border_38 = computed primary_head _ _ _ refl

-- `break :: a`: nothing is read
primary_head_border_39 : NotDerived (rule primary_head)
    (leaf (ident w_break) (at 0 5) (punct 58 true (at 6 7) (punct 58 false (at 7 8) (leaf (ident (97 ∷ [])) (at 9 10) end))))
unfolding left is_end lookahead_at sees take_token take_lifetime take_mark take_group before rows_for rows run parse_rule
primary_head_border_39 = not_read primary_head _ refl

-- `break <= a`: nothing is read
primary_head_border_40 : NotDerived (rule primary_head)
    (leaf (ident w_break) (at 0 5) (punct 60 true (at 6 7) (punct 61 false (at 7 8) (leaf (ident (97 ∷ [])) (at 9 10) end))))
unfolding left is_end lookahead_at sees take_token take_lifetime take_mark take_group before rows_for rows run parse_rule
primary_head_border_40 = not_read primary_head _ refl

-- `break Self`: nothing is read
primary_head_border_41 : NotDerived (rule primary_head)
    (leaf (ident w_break) (at 0 5) (leaf (ident w_Self_type) (at 6 10) end))
unfolding left is_end lookahead_at sees take_token take_lifetime take_mark take_group before rows_for rows run parse_rule
primary_head_border_41 = not_read primary_head _ refl

-- `break b"x"`: nothing is read
primary_head_border_42 : NotDerived (rule primary_head)
    (leaf (ident w_break) (at 0 5) (leaf (literal ByteStr (98 ∷ 34 ∷ 120 ∷ 34 ∷ [])) (at 6 10) end))
unfolding left is_end lookahead_at sees take_token take_lifetime take_mark take_group before rows_for rows run parse_rule
primary_head_border_42 = not_read primary_head _ refl

-- `break b'x'`: nothing is read
primary_head_border_43 : NotDerived (rule primary_head)
    (leaf (ident w_break) (at 0 5) (leaf (literal Byte (98 ∷ 39 ∷ 120 ∷ 39 ∷ [])) (at 6 10) end))
unfolding left is_end lookahead_at sees take_token take_lifetime take_mark take_group before rows_for rows run parse_rule
primary_head_border_43 = not_read primary_head _ refl

-- `break c"x"`: nothing is read
primary_head_border_44 : NotDerived (rule primary_head)
    (leaf (ident w_break) (at 0 5) (leaf (literal CStr (99 ∷ 34 ∷ 120 ∷ 34 ∷ [])) (at 6 10) end))
unfolding left is_end lookahead_at sees take_token take_lifetime take_mark take_group before rows_for rows run parse_rule
primary_head_border_44 = not_read primary_head _ refl

-- `break self`: nothing is read
primary_head_border_45 : NotDerived (rule primary_head)
    (leaf (ident w_break) (at 0 5) (leaf (ident w_self) (at 6 10) end))
unfolding left is_end lookahead_at sees take_token take_lifetime take_mark take_group before rows_for rows run parse_rule
primary_head_border_45 = not_read primary_head _ refl

-- `break true`: nothing is read
primary_head_border_46 : NotDerived (rule primary_head)
    (leaf (ident w_break) (at 0 5) (leaf (ident w_true) (at 6 10) end))
unfolding left is_end lookahead_at sees take_token take_lifetime take_mark take_group before rows_for rows run parse_rule
primary_head_border_46 = not_read primary_head _ refl

-- `continue '` prints `continue` and leaves `'`
primary_head_border_47 : DerivesAs primary_head
    (leaf (ident w_continue) (at 0 8) (punct 39 true (at 9 10) end))
    (leaf (ident w_continue) call_site end)
    (punct 39 true (at 9 10) end)
unfolding left is_end lookahead_at sees take_token take_lifetime take_mark take_group before rows_for rows run parse_rule
primary_head_border_47 = computed primary_head _ _ _ refl

-- `crate ! ()` prints `crate ! ()`
primary_head_border_48 : DerivesAs primary_head
    (leaf (ident w_crate) (at 0 5) (punct 33 false (at 6 7) (group Paren (at 8 9) (at 9 10) end end)))
    (leaf (ident w_crate) call_site (punct 33 false call_site (group Paren call_site call_site end end)))
    (end)
unfolding left is_end lookahead_at sees take_token take_lifetime take_mark take_group before rows_for rows run parse_rule
primary_head_border_48 = computed primary_head _ _ _ refl

-- `return ! a` prints `return ! a`
primary_head_border_49 : DerivesAs primary_head
    (leaf (ident w_return) (at 0 6) (punct 33 false (at 7 8) (leaf (ident (97 ∷ [])) (at 9 10) end)))
    (leaf (ident w_return) call_site (punct 33 false call_site (leaf (ident (97 ∷ [])) call_site end)))
    (end)
unfolding left is_end lookahead_at sees take_token take_lifetime take_mark take_group before rows_for rows run parse_rule
primary_head_border_49 = computed primary_head _ _ _ refl

-- `return "s"` prints `return "s"`
primary_head_border_50 : DerivesAs primary_head
    (leaf (ident w_return) (at 0 6) (leaf (literal Str (34 ∷ 115 ∷ 34 ∷ [])) (at 7 10) end))
    (leaf (ident w_return) call_site (leaf (literal Str (34 ∷ 115 ∷ 34 ∷ [])) call_site end))
    (end)
unfolding left is_end lookahead_at sees take_token take_lifetime take_mark take_group before rows_for rows run parse_rule
primary_head_border_50 = computed primary_head _ _ _ refl

-- `return & a` prints `return & a`
primary_head_border_51 : DerivesAs primary_head
    (leaf (ident w_return) (at 0 6) (punct 38 false (at 7 8) (leaf (ident (97 ∷ [])) (at 9 10) end)))
    (leaf (ident w_return) call_site (punct 38 false call_site (leaf (ident (97 ∷ [])) call_site end)))
    (end)
unfolding left is_end lookahead_at sees take_token take_lifetime take_mark take_group before rows_for rows run parse_rule
primary_head_border_51 = computed primary_head _ _ _ refl

-- `return 'c'` prints `return 'c'`
primary_head_border_52 : DerivesAs primary_head
    (leaf (ident w_return) (at 0 6) (leaf (literal Char (39 ∷ 99 ∷ 39 ∷ [])) (at 7 10) end))
    (leaf (ident w_return) call_site (leaf (literal Char (39 ∷ 99 ∷ 39 ∷ [])) call_site end))
    (end)
unfolding left is_end lookahead_at sees take_token take_lifetime take_mark take_group before rows_for rows run parse_rule
primary_head_border_52 = computed primary_head _ _ _ refl

-- `return (&)`: nothing is read
primary_head_border_53 : NotDerived (rule primary_head)
    (leaf (ident w_return) (at 0 6) (group Paren (at 7 8) (at 9 10) (punct 38 false (at 8 9) end) end))
unfolding left is_end lookahead_at sees take_token take_lifetime take_mark take_group before rows_for rows run parse_rule
primary_head_border_53 = not_read primary_head _ refl

-- `return * a` prints `return * a`
primary_head_border_54 : DerivesAs primary_head
    (leaf (ident w_return) (at 0 6) (punct 42 false (at 7 8) (leaf (ident (97 ∷ [])) (at 9 10) end)))
    (leaf (ident w_return) call_site (punct 42 false call_site (leaf (ident (97 ∷ [])) call_site end)))
    (end)
unfolding left is_end lookahead_at sees take_token take_lifetime take_mark take_group before rows_for rows run parse_rule
primary_head_border_54 = computed primary_head _ _ _ refl

-- `return - a` prints `return - a`
primary_head_border_55 : DerivesAs primary_head
    (leaf (ident w_return) (at 0 6) (punct 45 false (at 7 8) (leaf (ident (97 ∷ [])) (at 9 10) end)))
    (leaf (ident w_return) call_site (punct 45 false call_site (leaf (ident (97 ∷ [])) call_site end)))
    (end)
unfolding left is_end lookahead_at sees take_token take_lifetime take_mark take_group before rows_for rows run parse_rule
primary_head_border_55 = computed primary_head _ _ _ refl

-- `return 1.5` prints `return 1.5`
primary_head_border_56 : DerivesAs primary_head
    (leaf (ident w_return) (at 0 6) (leaf (literal Float (49 ∷ 46 ∷ 53 ∷ [])) (at 7 10) end))
    (leaf (ident w_return) call_site (leaf (literal Float (49 ∷ 46 ∷ 53 ∷ [])) call_site end))
    (end)
unfolding left is_end lookahead_at sees take_token take_lifetime take_mark take_group before rows_for rows run parse_rule
primary_head_border_56 = computed primary_head _ _ _ refl

-- `return : a` prints `return` and leaves `: a`
primary_head_border_57 : DerivesAs primary_head
    (leaf (ident w_return) (at 0 6) (punct 58 false (at 7 8) (leaf (ident (97 ∷ [])) (at 9 10) end)))
    (leaf (ident w_return) call_site end)
    (punct 58 false (at 7 8) (leaf (ident (97 ∷ [])) (at 9 10) end))
unfolding left is_end lookahead_at sees take_token take_lifetime take_mark take_group before rows_for rows run parse_rule
primary_head_border_57 = computed primary_head _ _ _ refl

-- `return [a]` prints `return [a]`
primary_head_border_58 : DerivesAs primary_head
    (leaf (ident w_return) (at 0 6) (group Bracket (at 7 8) (at 9 10) (leaf (ident (97 ∷ [])) (at 8 9) end) end))
    (leaf (ident w_return) call_site (group Bracket call_site call_site (leaf (ident (97 ∷ [])) call_site end) end))
    (end)
unfolding left is_end lookahead_at sees take_token take_lifetime take_mark take_group before rows_for rows run parse_rule
primary_head_border_58 = computed primary_head _ _ _ refl

-- `break 'a 'a`: nothing is read
primary_head_border_59 : NotDerived (rule primary_head)
    (leaf (ident w_break) (at 0 5) (punct 39 true (at 6 7) (leaf (ident (97 ∷ [])) (at 7 8) (punct 39 true (at 9 10) (leaf (ident (97 ∷ [])) (at 10 11) end)))))
unfolding left is_end lookahead_at sees take_token take_lifetime take_mark take_group before rows_for rows run parse_rule
primary_head_border_59 = not_read primary_head _ refl

-- `break <<= a`: nothing is read
primary_head_border_60 : NotDerived (rule primary_head)
    (leaf (ident w_break) (at 0 5) (punct 60 true (at 6 7) (punct 60 true (at 7 8) (punct 61 false (at 8 9) (leaf (ident (97 ∷ [])) (at 10 11) end)))))
unfolding left is_end lookahead_at sees take_token take_lifetime take_mark take_group before rows_for rows run parse_rule
primary_head_border_60 = not_read primary_head _ refl

-- `break break`: nothing is read
primary_head_border_61 : NotDerived (rule primary_head)
    (leaf (ident w_break) (at 0 5) (leaf (ident w_break) (at 6 11) end))
unfolding left is_end lookahead_at sees take_token take_lifetime take_mark take_group before rows_for rows run parse_rule
primary_head_border_61 = not_read primary_head _ refl

-- `break crate`: nothing is read
primary_head_border_62 : NotDerived (rule primary_head)
    (leaf (ident w_break) (at 0 5) (leaf (ident w_crate) (at 6 11) end))
unfolding left is_end lookahead_at sees take_token take_lifetime take_mark take_group before rows_for rows run parse_rule
primary_head_border_62 = not_read primary_head _ refl

-- `break false`: nothing is read
primary_head_border_63 : NotDerived (rule primary_head)
    (leaf (ident w_break) (at 0 5) (leaf (ident w_false) (at 6 11) end))
unfolding left is_end lookahead_at sees take_token take_lifetime take_mark take_group before rows_for rows run parse_rule
primary_head_border_63 = not_read primary_head _ refl

-- `break super`: nothing is read
primary_head_border_64 : NotDerived (rule primary_head)
    (leaf (ident w_break) (at 0 5) (leaf (ident w_super) (at 6 11) end))
unfolding left is_end lookahead_at sees take_token take_lifetime take_mark take_group before rows_for rows run parse_rule
primary_head_border_64 = not_read primary_head _ refl

-- `return :: a` prints `return :: a`
primary_head_border_65 : DerivesAs primary_head
    (leaf (ident w_return) (at 0 6) (punct 58 true (at 7 8) (punct 58 false (at 8 9) (leaf (ident (97 ∷ [])) (at 10 11) end))))
    (leaf (ident w_return) call_site (punct 58 true call_site (punct 58 false call_site (leaf (ident (97 ∷ [])) call_site end))))
    (end)
unfolding left is_end lookahead_at sees take_token take_lifetime take_mark take_group before rows_for rows run parse_rule
primary_head_border_65 = computed primary_head _ _ _ refl

-- `return <= a`: nothing is read
primary_head_border_66 : NotDerived (rule primary_head)
    (leaf (ident w_return) (at 0 6) (punct 60 true (at 7 8) (punct 61 false (at 8 9) (leaf (ident (97 ∷ [])) (at 10 11) end))))
unfolding left is_end lookahead_at sees take_token take_lifetime take_mark take_group before rows_for rows run parse_rule
primary_head_border_66 = not_read primary_head _ refl

-- `return Self` prints `return Self`
primary_head_border_67 : DerivesAs primary_head
    (leaf (ident w_return) (at 0 6) (leaf (ident w_Self_type) (at 7 11) end))
    (leaf (ident w_return) call_site (leaf (ident w_Self_type) call_site end))
    (end)
unfolding left is_end lookahead_at sees take_token take_lifetime take_mark take_group before rows_for rows run parse_rule
primary_head_border_67 = computed primary_head _ _ _ refl

-- `return b"x"` prints `return b"x"`
primary_head_border_68 : DerivesAs primary_head
    (leaf (ident w_return) (at 0 6) (leaf (literal ByteStr (98 ∷ 34 ∷ 120 ∷ 34 ∷ [])) (at 7 11) end))
    (leaf (ident w_return) call_site (leaf (literal ByteStr (98 ∷ 34 ∷ 120 ∷ 34 ∷ [])) call_site end))
    (end)
unfolding left is_end lookahead_at sees take_token take_lifetime take_mark take_group before rows_for rows run parse_rule
primary_head_border_68 = computed primary_head _ _ _ refl

-- `return b'x'` prints `return b'x'`
primary_head_border_69 : DerivesAs primary_head
    (leaf (ident w_return) (at 0 6) (leaf (literal Byte (98 ∷ 39 ∷ 120 ∷ 39 ∷ [])) (at 7 11) end))
    (leaf (ident w_return) call_site (leaf (literal Byte (98 ∷ 39 ∷ 120 ∷ 39 ∷ [])) call_site end))
    (end)
unfolding left is_end lookahead_at sees take_token take_lifetime take_mark take_group before rows_for rows run parse_rule
primary_head_border_69 = computed primary_head _ _ _ refl

-- `return c"x"` prints `return c"x"`
primary_head_border_70 : DerivesAs primary_head
    (leaf (ident w_return) (at 0 6) (leaf (literal CStr (99 ∷ 34 ∷ 120 ∷ 34 ∷ [])) (at 7 11) end))
    (leaf (ident w_return) call_site (leaf (literal CStr (99 ∷ 34 ∷ 120 ∷ 34 ∷ [])) call_site end))
    (end)
unfolding left is_end lookahead_at sees take_token take_lifetime take_mark take_group before rows_for rows run parse_rule
primary_head_border_70 = computed primary_head _ _ _ refl

-- `return self` prints `return self`
primary_head_border_71 : DerivesAs primary_head
    (leaf (ident w_return) (at 0 6) (leaf (ident w_self) (at 7 11) end))
    (leaf (ident w_return) call_site (leaf (ident w_self) call_site end))
    (end)
unfolding left is_end lookahead_at sees take_token take_lifetime take_mark take_group before rows_for rows run parse_rule
primary_head_border_71 = computed primary_head _ _ _ refl

-- `return true` prints `return true`
primary_head_border_72 : DerivesAs primary_head
    (leaf (ident w_return) (at 0 6) (leaf (ident w_true) (at 7 11) end))
    (leaf (ident w_return) call_site (leaf (ident w_true) call_site end))
    (end)
unfolding left is_end lookahead_at sees take_token take_lifetime take_mark take_group before rows_for rows run parse_rule
primary_head_border_72 = computed primary_head _ _ _ refl

-- `break return`: nothing is read
primary_head_border_73 : NotDerived (rule primary_head)
    (leaf (ident w_break) (at 0 5) (leaf (ident w_return) (at 6 12) end))
unfolding left is_end lookahead_at sees take_token take_lifetime take_mark take_group before rows_for rows run parse_rule
primary_head_border_73 = not_read primary_head _ refl

-- `return <<= a`: nothing is read
primary_head_border_74 : NotDerived (rule primary_head)
    (leaf (ident w_return) (at 0 6) (punct 60 true (at 7 8) (punct 60 true (at 8 9) (punct 61 false (at 9 10) (leaf (ident (97 ∷ [])) (at 11 12) end)))))
unfolding left is_end lookahead_at sees take_token take_lifetime take_mark take_group before rows_for rows run parse_rule
primary_head_border_74 = not_read primary_head _ refl

-- `return a = b` prints `return a = b`
primary_head_border_75 : DerivesAs primary_head
    (leaf (ident w_return) (at 0 6) (leaf (ident (97 ∷ [])) (at 7 8) (punct 61 false (at 9 10) (leaf (ident (98 ∷ [])) (at 11 12) end))))
    (leaf (ident w_return) call_site (leaf (ident (97 ∷ [])) call_site (punct 61 false call_site (leaf (ident (98 ∷ [])) call_site end))))
    (end)
unfolding left is_end lookahead_at sees take_token take_lifetime take_mark take_group before rows_for rows run parse_rule
primary_head_border_75 = computed primary_head _ _ _ refl

-- `return break` prints `return break`
primary_head_border_76 : DerivesAs primary_head
    (leaf (ident w_return) (at 0 6) (leaf (ident w_break) (at 7 12) end))
    (leaf (ident w_return) call_site (leaf (ident w_break) call_site end))
    (end)
unfolding left is_end lookahead_at sees take_token take_lifetime take_mark take_group before rows_for rows run parse_rule
primary_head_border_76 = computed primary_head _ _ _ refl

-- `return crate` prints `return crate`
primary_head_border_77 : DerivesAs primary_head
    (leaf (ident w_return) (at 0 6) (leaf (ident w_crate) (at 7 12) end))
    (leaf (ident w_return) call_site (leaf (ident w_crate) call_site end))
    (end)
unfolding left is_end lookahead_at sees take_token take_lifetime take_mark take_group before rows_for rows run parse_rule
primary_head_border_77 = computed primary_head _ _ _ refl

-- `return false` prints `return false`
primary_head_border_78 : DerivesAs primary_head
    (leaf (ident w_return) (at 0 6) (leaf (ident w_false) (at 7 12) end))
    (leaf (ident w_return) call_site (leaf (ident w_false) call_site end))
    (end)
unfolding left is_end lookahead_at sees take_token take_lifetime take_mark take_group before rows_for rows run parse_rule
primary_head_border_78 = computed primary_head _ _ _ refl

-- `return super` prints `return super`
primary_head_border_79 : DerivesAs primary_head
    (leaf (ident w_return) (at 0 6) (leaf (ident w_super) (at 7 12) end))
    (leaf (ident w_return) call_site (leaf (ident w_super) call_site end))
    (end)
unfolding left is_end lookahead_at sees take_token take_lifetime take_mark take_group before rows_for rows run parse_rule
primary_head_border_79 = computed primary_head _ _ _ refl

-- `break # [a] b`: nothing is read
primary_head_border_80 : NotDerived (rule primary_head)
    (leaf (ident w_break) (at 0 5) (punct 35 false (at 6 7) (group Bracket (at 8 9) (at 10 11) (leaf (ident (97 ∷ [])) (at 9 10) end) (leaf (ident (98 ∷ [])) (at 12 13) end))))
unfolding left is_end lookahead_at sees take_token take_lifetime take_mark take_group before rows_for rows run parse_rule
primary_head_border_80 = not_read primary_head _ refl

-- `break loop {}`: nothing is read
primary_head_border_81 : NotDerived (rule primary_head)
    (leaf (ident w_break) (at 0 5) (leaf (ident w_loop) (at 6 10) (group Brace (at 11 12) (at 12 13) end end)))
unfolding left is_end lookahead_at sees take_token take_lifetime take_mark take_group before rows_for rows run parse_rule
primary_head_border_81 = not_read primary_head _ refl

-- `return return` prints `return return`
primary_head_border_82 : DerivesAs primary_head
    (leaf (ident w_return) (at 0 6) (leaf (ident w_return) (at 7 13) end))
    (leaf (ident w_return) call_site (leaf (ident w_return) call_site end))
    (end)
unfolding left is_end lookahead_at sees take_token take_lifetime take_mark take_group before rows_for rows run parse_rule
primary_head_border_82 = computed primary_head _ _ _ refl

-- `break continue`: nothing is read
primary_head_border_83 : NotDerived (rule primary_head)
    (leaf (ident w_break) (at 0 5) (leaf (ident w_continue) (at 6 14) end))
unfolding left is_end lookahead_at sees take_token take_lifetime take_mark take_group before rows_for rows run parse_rule
primary_head_border_83 = not_read primary_head _ refl

-- `continue 'a 'b` prints `continue 'a` and leaves `'b`
primary_head_border_84 : DerivesAs primary_head
    (leaf (ident w_continue) (at 0 8) (punct 39 true (at 9 10) (leaf (ident (97 ∷ [])) (at 10 11) (punct 39 true (at 12 13) (leaf (ident (98 ∷ [])) (at 13 14) end)))))
    (leaf (ident w_continue) call_site (punct 39 true call_site (leaf (ident (97 ∷ [])) call_site end)))
    (punct 39 true (at 12 13) (leaf (ident (98 ∷ [])) (at 13 14) end))
unfolding left is_end lookahead_at sees take_token take_lifetime take_mark take_group before rows_for rows run parse_rule
primary_head_border_84 = computed primary_head _ _ _ refl

-- `false false {}` prints `false` and leaves `false {}`
primary_head_border_85 : DerivesAs primary_head
    (leaf (ident w_false) (at 0 5) (leaf (ident w_false) (at 6 11) (group Brace (at 12 13) (at 13 14) end end)))
    (leaf (ident w_false) call_site end)
    (leaf (ident w_false) (at 6 11) (group Brace (at 12 13) (at 13 14) end end))
unfolding left is_end lookahead_at sees take_token take_lifetime take_mark take_group before rows_for rows run parse_rule
primary_head_border_85 = computed primary_head _ _ _ refl

-- `return if a {}` prints `return if a {}`
primary_head_border_86 : DerivesAs primary_head
    (leaf (ident w_return) (at 0 6) (leaf (ident w_if) (at 7 9) (leaf (ident (97 ∷ [])) (at 10 11) (group Brace (at 12 13) (at 13 14) end end))))
    (leaf (ident w_return) call_site (leaf (ident w_if) call_site (leaf (ident (97 ∷ [])) call_site (group Brace call_site call_site end end))))
    (end)
unfolding left is_end lookahead_at sees take_token take_lifetime take_mark take_group before rows_for rows run parse_rule
primary_head_border_86 = computed primary_head _ _ _ refl

-- `return loop {}` prints `return loop {}`
primary_head_border_87 : DerivesAs primary_head
    (leaf (ident w_return) (at 0 6) (leaf (ident w_loop) (at 7 11) (group Brace (at 12 13) (at 13 14) end end)))
    (leaf (ident w_return) call_site (leaf (ident w_loop) call_site (group Brace call_site call_site end end)))
    (end)
unfolding left is_end lookahead_at sees take_token take_lifetime take_mark take_group before rows_for rows run parse_rule
primary_head_border_87 = computed primary_head _ _ _ refl

-- `break unsafe {}`: nothing is read
primary_head_border_88 : NotDerived (rule primary_head)
    (leaf (ident w_break) (at 0 5) (leaf (ident w_unsafe) (at 6 12) (group Brace (at 13 14) (at 14 15) end end)))
unfolding left is_end lookahead_at sees take_token take_lifetime take_mark take_group before rows_for rows run parse_rule
primary_head_border_88 = not_read primary_head _ refl

-- `break while a {}`: nothing is read
primary_head_border_89 : NotDerived (rule primary_head)
    (leaf (ident w_break) (at 0 5) (leaf (ident w_while) (at 6 11) (leaf (ident (97 ∷ [])) (at 12 13) (group Brace (at 14 15) (at 15 16) end end))))
unfolding left is_end lookahead_at sees take_token take_lifetime take_mark take_group before rows_for rows run parse_rule
primary_head_border_89 = not_read primary_head _ refl

-- `return unsafe {}` prints `return unsafe {}`
primary_head_border_90 : DerivesAs primary_head
    (leaf (ident w_return) (at 0 6) (leaf (ident w_unsafe) (at 7 13) (group Brace (at 14 15) (at 15 16) end end)))
    (leaf (ident w_return) call_site (leaf (ident w_unsafe) call_site (group Brace call_site call_site end end)))
    (end)
unfolding left is_end lookahead_at sees take_token take_lifetime take_mark take_group before rows_for rows run parse_rule
primary_head_border_90 = computed primary_head _ _ _ refl

-- `continue continue` prints `continue` and leaves `continue`
primary_head_border_91 : DerivesAs primary_head
    (leaf (ident w_continue) (at 0 8) (leaf (ident w_continue) (at 9 17) end))
    (leaf (ident w_continue) call_site end)
    (leaf (ident w_continue) (at 9 17) end)
unfolding left is_end lookahead_at sees take_token take_lifetime take_mark take_group before rows_for rows run parse_rule
primary_head_border_91 = computed primary_head _ _ _ refl

-- `return while a {}` prints `return while a {}`
primary_head_border_92 : DerivesAs primary_head
    (leaf (ident w_return) (at 0 6) (leaf (ident w_while) (at 7 12) (leaf (ident (97 ∷ [])) (at 13 14) (group Brace (at 15 16) (at 16 17) end end))))
    (leaf (ident w_return) call_site (leaf (ident w_while) call_site (leaf (ident (97 ∷ [])) call_site (group Brace call_site call_site end end))))
    (end)
unfolding left is_end lookahead_at sees take_token take_lifetime take_mark take_group before rows_for rows run parse_rule
primary_head_border_92 = computed primary_head _ _ _ refl

-- `break for a in b {}`: nothing is read
primary_head_border_93 : NotDerived (rule primary_head)
    (leaf (ident w_break) (at 0 5) (leaf (ident w_for) (at 6 9) (leaf (ident (97 ∷ [])) (at 10 11) (leaf (ident w_in) (at 12 14) (leaf (ident (98 ∷ [])) (at 15 16) (group Brace (at 17 18) (at 18 19) end end))))))
unfolding left is_end lookahead_at sees take_token take_lifetime take_mark take_group before rows_for rows run parse_rule
primary_head_border_93 = not_read primary_head _ refl

-- `return for a in b {}` prints `return for a in b {}`
primary_head_border_94 : DerivesAs primary_head
    (leaf (ident w_return) (at 0 6) (leaf (ident w_for) (at 7 10) (leaf (ident (97 ∷ [])) (at 11 12) (leaf (ident w_in) (at 13 15) (leaf (ident (98 ∷ [])) (at 16 17) (group Brace (at 18 19) (at 19 20) end end))))))
    (leaf (ident w_return) call_site (leaf (ident w_for) call_site (leaf (ident (97 ∷ [])) call_site (leaf (ident w_in) call_site (leaf (ident (98 ∷ [])) call_site (group Brace call_site call_site end end))))))
    (end)
unfolding left is_end lookahead_at sees take_token take_lifetime take_mark take_group before rows_for rows run parse_rule
primary_head_border_94 = computed primary_head _ _ _ refl

-- `return continue return` prints `return continue` and leaves `return`
primary_head_border_95 : DerivesAs primary_head
    (leaf (ident w_return) (at 0 6) (leaf (ident w_continue) (at 7 15) (leaf (ident w_return) (at 16 22) end)))
    (leaf (ident w_return) call_site (leaf (ident w_continue) call_site end))
    (leaf (ident w_return) (at 16 22) end)
unfolding left is_end lookahead_at sees take_token take_lifetime take_mark take_group before rows_for rows run parse_rule
primary_head_border_95 = computed primary_head _ _ _ refl

-- `!`: nothing is read
unary_head_border_1 : NotDerived (rule unary_head)
    (punct 33 false (at 0 1) end)
unfolding left is_end lookahead_at sees take_token take_lifetime take_mark take_group before rows_for rows run parse_rule
unary_head_border_1 = not_read unary_head _ refl

-- `*`: nothing is read
unary_head_border_2 : NotDerived (rule unary_head)
    (punct 42 false (at 0 1) end)
unfolding left is_end lookahead_at sees take_token take_lifetime take_mark take_group before rows_for rows run parse_rule
unary_head_border_2 = not_read unary_head _ refl

-- `-`: nothing is read
unary_head_border_3 : NotDerived (rule unary_head)
    (punct 45 false (at 0 1) end)
unfolding left is_end lookahead_at sees take_token take_lifetime take_mark take_group before rows_for rows run parse_rule
unary_head_border_3 = not_read unary_head _ refl

-- `()` prints `()`
unary_head_border_4 : DerivesAs unary_head
    (group Paren (at 0 1) (at 1 2) end end)
    (group Paren call_site call_site end end)
    (end)
unfolding left is_end lookahead_at sees take_token take_lifetime take_mark take_group before rows_for rows run parse_rule
unary_head_border_4 = computed unary_head _ _ _ refl

-- `a b` prints `a` and leaves `b`
unary_head_border_5 : DerivesAs unary_head
    (leaf (ident (97 ∷ [])) (at 0 1) (leaf (ident (98 ∷ [])) (at 2 3) end))
    (leaf (ident (97 ∷ [])) call_site end)
    (leaf (ident (98 ∷ [])) (at 2 3) end)
unfolding left is_end lookahead_at sees take_token take_lifetime take_mark take_group before rows_for rows run parse_rule
unary_head_border_5 = computed unary_head _ _ _ refl

-- `! ! a` prints `! ! a`
unary_head_border_6 : DerivesAs unary_head
    (punct 33 false (at 0 1) (punct 33 false (at 2 3) (leaf (ident (97 ∷ [])) (at 4 5) end)))
    (punct 33 false call_site (punct 33 false call_site (leaf (ident (97 ∷ [])) call_site end)))
    (end)
unfolding left is_end lookahead_at sees take_token take_lifetime take_mark take_group before rows_for rows run parse_rule
unary_head_border_6 = computed unary_head _ _ _ refl

-- `! 1 !` prints `! 1` and leaves `!`
unary_head_border_7 : DerivesAs unary_head
    (punct 33 false (at 0 1) (leaf (literal Int (49 ∷ [])) (at 2 3) (punct 33 false (at 4 5) end)))
    (punct 33 false call_site (leaf (literal Int (49 ∷ [])) call_site end))
    (punct 33 false (at 4 5) end)
unfolding left is_end lookahead_at sees take_token take_lifetime take_mark take_group before rows_for rows run parse_rule
unary_head_border_7 = computed unary_head _ _ _ refl

-- `* * a` prints `* * a`
unary_head_border_8 : DerivesAs unary_head
    (punct 42 false (at 0 1) (punct 42 false (at 2 3) (leaf (ident (97 ∷ [])) (at 4 5) end)))
    (punct 42 false call_site (punct 42 false call_site (leaf (ident (97 ∷ [])) call_site end)))
    (end)
unfolding left is_end lookahead_at sees take_token take_lifetime take_mark take_group before rows_for rows run parse_rule
unary_head_border_8 = computed unary_head _ _ _ refl

-- `- a -` prints `- a` and leaves `-`
unary_head_border_9 : DerivesAs unary_head
    (punct 45 false (at 0 1) (leaf (ident (97 ∷ [])) (at 2 3) (punct 45 false (at 4 5) end)))
    (punct 45 false call_site (leaf (ident (97 ∷ [])) call_site end))
    (punct 45 false (at 4 5) end)
unfolding left is_end lookahead_at sees take_token take_lifetime take_mark take_group before rows_for rows run parse_rule
unary_head_border_9 = computed unary_head _ _ _ refl

-- `& 1 mut` prints `& 1` and leaves `mut`
unary_head_border_10 : DerivesAs unary_head
    (punct 38 false (at 0 1) (leaf (literal Int (49 ∷ [])) (at 2 3) (leaf (ident w_mut) (at 4 7) end)))
    (punct 38 false call_site (leaf (literal Int (49 ∷ [])) call_site end))
    (leaf (ident w_mut) (at 4 7) end)
unfolding left is_end lookahead_at sees take_token take_lifetime take_mark take_group before rows_for rows run parse_rule
unary_head_border_10 = computed unary_head _ _ _ refl

-- `&* a *!` prints `& * a` and leaves `*!`
unary_head_border_11 : DerivesAs unary_head
    (punct 38 true (at 0 1) (punct 42 false (at 1 2) (leaf (ident (97 ∷ [])) (at 3 4) (punct 42 true (at 5 6) (punct 33 false (at 6 7) end)))))
    (punct 38 false call_site (punct 42 false call_site (leaf (ident (97 ∷ [])) call_site end)))
    (punct 42 true (at 5 6) (punct 33 false (at 6 7) end))
unfolding left is_end lookahead_at sees take_token take_lifetime take_mark take_group before rows_for rows run parse_rule
unary_head_border_11 = computed unary_head _ _ _ refl

-- `a # [b]` prints `a` and leaves `# [b]`
unary_head_border_12 : DerivesAs unary_head
    (leaf (ident (97 ∷ [])) (at 0 1) (punct 35 false (at 2 3) (group Bracket (at 4 5) (at 6 7) (leaf (ident (98 ∷ [])) (at 5 6) end) end)))
    (leaf (ident (97 ∷ [])) call_site end)
    (punct 35 false (at 2 3) (group Bracket (at 4 5) (at 6 7) (leaf (ident (98 ∷ [])) (at 5 6) end) end))
unfolding left is_end lookahead_at sees take_token take_lifetime take_mark take_group before rows_for rows run parse_rule
unary_head_border_12 = computed unary_head _ _ _ refl

-- `& & mut a` prints `& & mut a`
unary_head_border_13 : DerivesAs unary_head
    (punct 38 false (at 0 1) (punct 38 false (at 2 3) (leaf (ident w_mut) (at 4 7) (leaf (ident (97 ∷ [])) (at 8 9) end))))
    (punct 38 false call_site (punct 38 false call_site (leaf (ident w_mut) call_site (leaf (ident (97 ∷ [])) call_site end))))
    (end)
unfolding left is_end lookahead_at sees take_token take_lifetime take_mark take_group before rows_for rows run parse_rule
unary_head_border_13 = computed unary_head _ _ _ refl

-- `& a & mut` prints `& a` and leaves `& mut`
unary_head_border_14 : DerivesAs unary_head
    (punct 38 false (at 0 1) (leaf (ident (97 ∷ [])) (at 2 3) (punct 38 false (at 4 5) (leaf (ident w_mut) (at 6 9) end))))
    (punct 38 false call_site (leaf (ident (97 ∷ [])) call_site end))
    (punct 38 false (at 4 5) (leaf (ident w_mut) (at 6 9) end))
unfolding left is_end lookahead_at sees take_token take_lifetime take_mark take_group before rows_for rows run parse_rule
unary_head_border_14 = computed unary_head _ _ _ refl

-- `& mut mut a`: nothing is read
unary_head_border_15 : NotDerived (rule unary_head)
    (punct 38 false (at 0 1) (leaf (ident w_mut) (at 2 5) (leaf (ident w_mut) (at 6 9) (leaf (ident (97 ∷ [])) (at 10 11) end))))
unfolding left is_end lookahead_at sees take_token take_lifetime take_mark take_group before rows_for rows run parse_rule
unary_head_border_15 = not_read unary_head _ refl

-- `! a` prints `! a`
cast_head_border_1 : DerivesAs cast_head
    (punct 33 false (at 0 1) (leaf (ident (97 ∷ [])) (at 2 3) end))
    (punct 33 false call_site (leaf (ident (97 ∷ [])) call_site end))
    (end)
unfolding left is_end lookahead_at sees take_token take_lifetime take_mark take_group before rows_for rows run parse_rule
cast_head_border_1 = computed cast_head _ _ _ refl

-- `as default true`: nothing is read
cast_head_border_2 : NotDerived (rule cast_head)
    (leaf (ident w_as) (at 0 2) (leaf (ident w_default) (at 3 10) (leaf (ident w_true) (at 11 15) end)))
unfolding left is_end lookahead_at sees take_token take_lifetime take_mark take_group before rows_for rows run parse_rule
cast_head_border_2 = not_read cast_head _ refl

-- no tokens: nothing is read
product_head_border_1 : NotDerived (rule product_head)
    (end)
unfolding left is_end lookahead_at sees take_token take_lifetime take_mark take_group before rows_for rows run parse_rule
product_head_border_1 = not_read product_head _ refl

-- `* a` prints `* a`
product_head_border_2 : DerivesAs product_head
    (punct 42 false (at 0 1) (leaf (ident (97 ∷ [])) (at 2 3) end))
    (punct 42 false call_site (leaf (ident (97 ∷ [])) call_site end))
    (end)
unfolding left is_end lookahead_at sees take_token take_lifetime take_mark take_group before rows_for rows run parse_rule
product_head_border_2 = computed product_head _ _ _ refl

-- `a as`: nothing is read
product_head_border_3 : NotDerived (rule product_head)
    (leaf (ident (97 ∷ [])) (at 0 1) (leaf (ident w_as) (at 2 4) end))
unfolding left is_end lookahead_at sees take_token take_lifetime take_mark take_group before rows_for rows run parse_rule
product_head_border_3 = not_read product_head _ refl

-- no tokens: nothing is read
sum_head_border_1 : NotDerived (rule sum_head)
    (end)
unfolding left is_end lookahead_at sees take_token take_lifetime take_mark take_group before rows_for rows run parse_rule
sum_head_border_1 = not_read sum_head _ refl

-- `- a` prints `- a`
sum_head_border_2 : DerivesAs sum_head
    (punct 45 false (at 0 1) (leaf (ident (97 ∷ [])) (at 2 3) end))
    (punct 45 false call_site (leaf (ident (97 ∷ [])) call_site end))
    (end)
unfolding left is_end lookahead_at sees take_token take_lifetime take_mark take_group before rows_for rows run parse_rule
sum_head_border_2 = computed sum_head _ _ _ refl

-- `a *`: nothing is read
sum_head_border_3 : NotDerived (rule sum_head)
    (leaf (ident (97 ∷ [])) (at 0 1) (punct 42 false (at 2 3) end))
unfolding left is_end lookahead_at sees take_token take_lifetime take_mark take_group before rows_for rows run parse_rule
sum_head_border_3 = not_read sum_head _ refl

-- `a +`: nothing is read
shift_head_border_1 : NotDerived (rule shift_head)
    (leaf (ident (97 ∷ [])) (at 0 1) (punct 43 false (at 2 3) end))
unfolding left is_end lookahead_at sees take_token take_lifetime take_mark take_group before rows_for rows run parse_rule
shift_head_border_1 = not_read shift_head _ refl

-- `>> [] true << break`: nothing is read
shift_head_border_2 : NotDerived (rule shift_head)
    (punct 62 true (at 0 1) (punct 62 false (at 1 2) (group Bracket (at 3 4) (at 4 5) end (leaf (ident w_true) (at 6 10) (punct 60 true (at 11 12) (punct 60 false (at 12 13) (leaf (ident w_break) (at 14 19) end)))))))
unfolding left is_end lookahead_at sees take_token take_lifetime take_mark take_group before rows_for rows run parse_rule
shift_head_border_2 = not_read shift_head _ refl

-- no tokens: nothing is read
bit_and_head_border_1 : NotDerived (rule bit_and_head)
    (end)
unfolding left is_end lookahead_at sees take_token take_lifetime take_mark take_group before rows_for rows run parse_rule
bit_and_head_border_1 = not_read bit_and_head _ refl

-- `& a` prints `& a`
bit_and_head_border_2 : DerivesAs bit_and_head
    (punct 38 false (at 0 1) (leaf (ident (97 ∷ [])) (at 2 3) end))
    (punct 38 false call_site (leaf (ident (97 ∷ [])) call_site end))
    (end)
unfolding left is_end lookahead_at sees take_token take_lifetime take_mark take_group before rows_for rows run parse_rule
bit_and_head_border_2 = computed bit_and_head _ _ _ refl

-- `a << b` prints `a << b`
bit_and_head_border_3 : DerivesAs bit_and_head
    (leaf (ident (97 ∷ [])) (at 0 1) (punct 60 true (at 2 3) (punct 60 false (at 3 4) (leaf (ident (98 ∷ [])) (at 5 6) end))))
    (leaf (ident (97 ∷ [])) call_site (punct 60 true call_site (punct 60 false call_site (leaf (ident (98 ∷ [])) call_site end))))
    (end)
unfolding left is_end lookahead_at sees take_token take_lifetime take_mark take_group before rows_for rows run parse_rule
bit_and_head_border_3 = computed bit_and_head _ _ _ refl

-- `a & b` prints `a & b`
bit_xor_head_border_1 : DerivesAs bit_xor_head
    (leaf (ident (97 ∷ [])) (at 0 1) (punct 38 false (at 2 3) (leaf (ident (98 ∷ [])) (at 4 5) end)))
    (leaf (ident (97 ∷ [])) call_site (punct 38 false call_site (leaf (ident (98 ∷ [])) call_site end)))
    (end)
unfolding left is_end lookahead_at sees take_token take_lifetime take_mark take_group before rows_for rows run parse_rule
bit_xor_head_border_1 = computed bit_xor_head _ _ _ refl

-- `^ [] false ^ safe >> {}`: nothing is read
bit_xor_head_border_2 : NotDerived (rule bit_xor_head)
    (punct 94 false (at 0 1) (group Bracket (at 2 3) (at 3 4) end (leaf (ident w_false) (at 5 10) (punct 94 false (at 11 12) (leaf (ident w_safe) (at 13 17) (punct 62 true (at 18 19) (punct 62 false (at 19 20) (group Brace (at 21 22) (at 22 23) end end))))))))
unfolding left is_end lookahead_at sees take_token take_lifetime take_mark take_group before rows_for rows run parse_rule
bit_xor_head_border_2 = not_read bit_xor_head _ refl

-- `a ^ b` prints `a ^ b`
bit_or_head_border_1 : DerivesAs bit_or_head
    (leaf (ident (97 ∷ [])) (at 0 1) (punct 94 false (at 2 3) (leaf (ident (98 ∷ [])) (at 4 5) end)))
    (leaf (ident (97 ∷ [])) call_site (punct 94 false call_site (leaf (ident (98 ∷ [])) call_site end)))
    (end)
unfolding left is_end lookahead_at sees take_token take_lifetime take_mark take_group before rows_for rows run parse_rule
bit_or_head_border_1 = computed bit_or_head _ _ _ refl

-- `| true auto`: nothing is read
bit_or_head_border_2 : NotDerived (rule bit_or_head)
    (punct 124 false (at 0 1) (leaf (ident w_true) (at 2 6) (leaf (ident w_auto) (at 7 11) end)))
unfolding left is_end lookahead_at sees take_token take_lifetime take_mark take_group before rows_for rows run parse_rule
bit_or_head_border_2 = not_read bit_or_head _ refl

-- `false |`: nothing is read
comparison_head_border_1 : NotDerived (rule comparison_head)
    (leaf (ident w_false) (at 0 5) (punct 124 false (at 6 7) end))
unfolding left is_end lookahead_at sees take_token take_lifetime take_mark take_group before rows_for rows run parse_rule
comparison_head_border_1 = not_read comparison_head _ refl

-- `== () true`: nothing is read
comparison_head_border_2 : NotDerived (rule comparison_head)
    (punct 61 true (at 0 1) (punct 61 false (at 1 2) (group Paren (at 3 4) (at 4 5) end (leaf (ident w_true) (at 6 10) end))))
unfolding left is_end lookahead_at sees take_token take_lifetime take_mark take_group before rows_for rows run parse_rule
comparison_head_border_2 = not_read comparison_head _ refl

-- no tokens: nothing is read
conjunction_head_border_1 : NotDerived (rule conjunction_head)
    (end)
unfolding left is_end lookahead_at sees take_token take_lifetime take_mark take_group before rows_for rows run parse_rule
conjunction_head_border_1 = not_read conjunction_head _ refl

-- `&& a` prints `& & a`
conjunction_head_border_2 : DerivesAs conjunction_head
    (punct 38 true (at 0 1) (punct 38 false (at 1 2) (leaf (ident (97 ∷ [])) (at 3 4) end)))
    (punct 38 false call_site (punct 38 false call_site (leaf (ident (97 ∷ [])) call_site end)))
    (end)
unfolding left is_end lookahead_at sees take_token take_lifetime take_mark take_group before rows_for rows run parse_rule
conjunction_head_border_2 = computed conjunction_head _ _ _ refl

-- `a < b` prints `a < b`
conjunction_head_border_3 : DerivesAs conjunction_head
    (leaf (ident (97 ∷ [])) (at 0 1) (punct 60 false (at 2 3) (leaf (ident (98 ∷ [])) (at 4 5) end)))
    (leaf (ident (97 ∷ [])) call_site (punct 60 false call_site (leaf (ident (98 ∷ [])) call_site end)))
    (end)
unfolding left is_end lookahead_at sees take_token take_lifetime take_mark take_group before rows_for rows run parse_rule
conjunction_head_border_3 = computed conjunction_head _ _ _ refl

-- `a && b` prints `a && b`
disjunction_head_border_1 : DerivesAs disjunction_head
    (leaf (ident (97 ∷ [])) (at 0 1) (punct 38 true (at 2 3) (punct 38 false (at 3 4) (leaf (ident (98 ∷ [])) (at 5 6) end))))
    (leaf (ident (97 ∷ [])) call_site (punct 38 true call_site (punct 38 false call_site (leaf (ident (98 ∷ [])) call_site end))))
    (end)
unfolding left is_end lookahead_at sees take_token take_lifetime take_mark take_group before rows_for rows run parse_rule
disjunction_head_border_1 = computed disjunction_head _ _ _ refl

-- `|| a b`: nothing is read
disjunction_head_border_2 : NotDerived (rule disjunction_head)
    (punct 124 true (at 0 1) (punct 124 false (at 1 2) (leaf (ident (97 ∷ [])) (at 3 4) (leaf (ident (98 ∷ [])) (at 5 6) end))))
unfolding left is_end lookahead_at sees take_token take_lifetime take_mark take_group before rows_for rows run parse_rule
disjunction_head_border_2 = not_read disjunction_head _ refl

-- `= a b`: nothing is read
whole_expression_head_border_1 : NotDerived (rule whole_expression_head)
    (punct 61 false (at 0 1) (leaf (ident (97 ∷ [])) (at 2 3) (leaf (ident (98 ∷ [])) (at 4 5) end)))
unfolding left is_end lookahead_at sees take_token take_lifetime take_mark take_group before rows_for rows run parse_rule
whole_expression_head_border_1 = not_read whole_expression_head _ refl

-- `a || b` prints `a || b`
whole_expression_head_border_3 : DerivesAs whole_expression_head
    (leaf (ident (97 ∷ [])) (at 0 1) (punct 124 true (at 2 3) (punct 124 false (at 3 4) (leaf (ident (98 ∷ [])) (at 5 6) end))))
    (leaf (ident (97 ∷ [])) call_site (punct 124 true call_site (punct 124 false call_site (leaf (ident (98 ∷ [])) call_site end))))
    (end)
unfolding left is_end lookahead_at sees take_token take_lifetime take_mark take_group before rows_for rows run parse_rule
whole_expression_head_border_3 = computed whole_expression_head _ _ _ refl

-- `true !` prints `true` and leaves `!`
whole_expression_head_border_4 : DerivesAs whole_expression_head
    (leaf (ident w_true) (at 0 4) (punct 33 false (at 5 6) end))
    (leaf (ident w_true) call_site end)
    (punct 33 false (at 5 6) end)
unfolding left is_end lookahead_at sees take_token take_lifetime take_mark take_group before rows_for rows run parse_rule
whole_expression_head_border_4 = computed whole_expression_head _ _ _ refl

-- `a <<= b` prints `a <<= b`
whole_expression_head_border_5 : DerivesAs whole_expression_head
    (leaf (ident (97 ∷ [])) (at 0 1) (punct 60 true (at 2 3) (punct 60 true (at 3 4) (punct 61 false (at 4 5) (leaf (ident (98 ∷ [])) (at 6 7) end)))))
    (leaf (ident (97 ∷ [])) call_site (punct 60 true call_site (punct 60 true call_site (punct 61 false call_site (leaf (ident (98 ∷ [])) call_site end)))))
    (end)
unfolding left is_end lookahead_at sees take_token take_lifetime take_mark take_group before rows_for rows run parse_rule
whole_expression_head_border_5 = computed whole_expression_head _ _ _ refl

-- `a as !?`: nothing is read
whole_expression_head_border_6 : NotDerived (rule whole_expression_head)
    (leaf (ident (97 ∷ [])) (at 0 1) (leaf (ident w_as) (at 2 4) (punct 33 true (at 5 6) (punct 63 false (at 6 7) end))))
unfolding left is_end lookahead_at sees take_token take_lifetime take_mark take_group before rows_for rows run parse_rule
whole_expression_head_border_6 = not_read whole_expression_head _ refl

-- `a < b < c`: nothing is read
whole_expression_head_border_7 : NotDerived (rule whole_expression_head)
    (leaf (ident (97 ∷ [])) (at 0 1) (punct 60 false (at 2 3) (leaf (ident (98 ∷ [])) (at 4 5) (punct 60 false (at 6 7) (leaf (ident (99 ∷ [])) (at 8 9) end)))))
unfolding left is_end lookahead_at sees take_token take_lifetime take_mark take_group before rows_for rows run parse_rule
whole_expression_head_border_7 = not_read whole_expression_head _ refl

-- `a > b > c`: nothing is read
whole_expression_head_border_8 : NotDerived (rule whole_expression_head)
    (leaf (ident (97 ∷ [])) (at 0 1) (punct 62 false (at 2 3) (leaf (ident (98 ∷ [])) (at 4 5) (punct 62 false (at 6 7) (leaf (ident (99 ∷ [])) (at 8 9) end)))))
unfolding left is_end lookahead_at sees take_token take_lifetime take_mark take_group before rows_for rows run parse_rule
whole_expression_head_border_8 = not_read whole_expression_head _ refl

-- `a as !. b`: nothing is read
whole_expression_head_border_9 : NotDerived (rule whole_expression_head)
    (leaf (ident (97 ∷ [])) (at 0 1) (leaf (ident w_as) (at 2 4) (punct 33 true (at 5 6) (punct 46 false (at 6 7) (leaf (ident (98 ∷ [])) (at 8 9) end)))))
unfolding left is_end lookahead_at sees take_token take_lifetime take_mark take_group before rows_for rows run parse_rule
whole_expression_head_border_9 = not_read whole_expression_head _ refl

-- `a as ! (b)`: nothing is read
whole_expression_head_border_10 : NotDerived (rule whole_expression_head)
    (leaf (ident (97 ∷ [])) (at 0 1) (leaf (ident w_as) (at 2 4) (punct 33 false (at 5 6) (group Paren (at 7 8) (at 9 10) (leaf (ident (98 ∷ [])) (at 8 9) end) end))))
unfolding left is_end lookahead_at sees take_token take_lifetime take_mark take_group before rows_for rows run parse_rule
whole_expression_head_border_10 = not_read whole_expression_head _ refl

-- `a as ! [b]`: nothing is read
whole_expression_head_border_11 : NotDerived (rule whole_expression_head)
    (leaf (ident (97 ∷ [])) (at 0 1) (leaf (ident w_as) (at 2 4) (punct 33 false (at 5 6) (group Bracket (at 7 8) (at 9 10) (leaf (ident (98 ∷ [])) (at 8 9) end) end))))
unfolding left is_end lookahead_at sees take_token take_lifetime take_mark take_group before rows_for rows run parse_rule
whole_expression_head_border_11 = not_read whole_expression_head _ refl

-- `a == b != c`: nothing is read
whole_expression_head_border_12 : NotDerived (rule whole_expression_head)
    (leaf (ident (97 ∷ [])) (at 0 1) (punct 61 true (at 2 3) (punct 61 false (at 3 4) (leaf (ident (98 ∷ [])) (at 5 6) (punct 33 true (at 7 8) (punct 61 false (at 8 9) (leaf (ident (99 ∷ [])) (at 10 11) end)))))))
unfolding left is_end lookahead_at sees take_token take_lifetime take_mark take_group before rows_for rows run parse_rule
whole_expression_head_border_12 = not_read whole_expression_head _ refl
