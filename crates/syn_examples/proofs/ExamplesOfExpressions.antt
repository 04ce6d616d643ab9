-- Written by tools/grammar.py from specs/Table.antt; edits are lost.
-- Worked examples of expressions without operators, from tools/examples.txt: what each rule reads, prints and refuses. The checker computes each.
use Rattle.std.proofs.Common.{true, false, [], ◌∷◌, refl}
use Rattle.syn_grammar.specs.Words.{w_underscore, w_break, w_continue, w_crate, w_false, w_fn, w_for, w_if, w_in, w_loop, w_mut, w_return, w_Self_type, w_self, w_super, w_true, w_unsafe, w_while, w_union, w_auto, w_default, w_safe}
use Rattle.syn_grammar.specs.Tokens.{call_site, Paren, Brace, Bracket, None, Str, ByteStr, CStr, Byte, Char, Int, Float, ident, literal, end, leaf, punct, group}
use Rattle.syn_grammar.specs.Rules.{expressions, array_content, primary, postfixes, member, unary}
use Rattle.syn_grammar.specs.Grammar.{rule}
use Rattle.syn_grammar.specs.Take.{left, is_end, lookahead_at, sees, take_token, take_lifetime, take_mark, take_group, before}
use Rattle.syn_grammar.specs.Run.{rows_for, rows, run, parse_rule}
use Rattle.syn_grammar.specs.Promises.{NotDerived}
use Rattle.syn_grammar.proofs.Shown.{at, DerivesAs, computed, not_read}

-- `_`: nothing is read
prim_underscore : NotDerived (rule primary)
    (leaf (ident w_underscore) (at 0 1) end)
unfolding left is_end lookahead_at sees take_token take_lifetime take_mark take_group before rows_for rows run parse_rule
prim_underscore = not_read primary _ refl

-- `1 1` prints `1` and leaves `1`
prim_n1_n1 : DerivesAs primary
    (leaf (literal Int (49 ∷ [])) (at 0 1) (leaf (literal Int (49 ∷ [])) (at 2 3) end))
    (leaf (literal Int (49 ∷ [])) call_site end)
    (leaf (literal Int (49 ∷ [])) (at 2 3) end)
unfolding left is_end lookahead_at sees take_token take_lifetime take_mark take_group before rows_for rows run parse_rule
prim_n1_n1 = computed primary _ _ _ refl

-- `true true` prints `true` and leaves `true`
prim_true_true : DerivesAs primary
    (leaf (ident w_true) (at 0 4) (leaf (ident w_true) (at 5 9) end))
    (leaf (ident w_true) call_site end)
    (leaf (ident w_true) (at 5 9) end)
unfolding left is_end lookahead_at sees take_token take_lifetime take_mark take_group before rows_for rows run parse_rule
prim_true_true = computed primary _ _ _ refl

-- `false false {}` prints `false` and leaves `false {}`
prim_false_false_braces : DerivesAs primary
    (leaf (ident w_false) (at 0 5) (leaf (ident w_false) (at 6 11) (group Brace (at 12 13) (at 13 14) end end)))
    (leaf (ident w_false) call_site end)
    (leaf (ident w_false) (at 6 11) (group Brace (at 12 13) (at 13 14) end end))
unfolding left is_end lookahead_at sees take_token take_lifetime take_mark take_group before rows_for rows run parse_rule
prim_false_false_braces = computed primary _ _ _ refl

-- `a!() a` prints `a ! ()` and leaves `a`
prim_a_bang_parens_a : DerivesAs primary
    (leaf (ident (97 ∷ [])) (at 0 1) (punct 33 false (at 1 2) (group Paren (at 2 3) (at 3 4) end (leaf (ident (97 ∷ [])) (at 5 6) end))))
    (leaf (ident (97 ∷ [])) call_site (punct 33 false call_site (group Paren call_site call_site end end)))
    (leaf (ident (97 ∷ [])) (at 5 6) end)
unfolding left is_end lookahead_at sees take_token take_lifetime take_mark take_group before rows_for rows run parse_rule
prim_a_bang_parens_a = computed primary _ _ _ refl

-- `() ()` prints `()` and leaves `()`
prim_parens_parens : DerivesAs primary
    (group Paren (at 0 1) (at 1 2) end (group Paren (at 3 4) (at 4 5) end end))
    (group Paren call_site call_site end end)
    (group Paren (at 3 4) (at 4 5) end end)
unfolding left is_end lookahead_at sees take_token take_lifetime take_mark take_group before rows_for rows run parse_rule
prim_parens_parens = computed primary _ _ _ refl

-- `(1)` prints `(1)`
prim_in_paren_n1 : DerivesAs primary
    (group Paren (at 0 1) (at 2 3) (leaf (literal Int (49 ∷ [])) (at 1 2) end) end)
    (group Paren call_site call_site (leaf (literal Int (49 ∷ [])) call_site end) end)
    (end)
unfolding left is_end lookahead_at sees take_token take_lifetime take_mark take_group before rows_for rows run parse_rule
prim_in_paren_n1 = computed primary _ _ _ refl

-- `(a b)`: nothing is read
prim_in_paren_a_b : NotDerived (rule primary)
    (group Paren (at 0 1) (at 4 5) (leaf (ident (97 ∷ [])) (at 1 2) (leaf (ident (98 ∷ [])) (at 3 4) end)) end)
unfolding left is_end lookahead_at sees take_token take_lifetime take_mark take_group before rows_for rows run parse_rule
prim_in_paren_a_b = not_read primary _ refl

-- `[] []` prints `[]` and leaves `[]`
prim_brackets_brackets : DerivesAs primary
    (group Bracket (at 0 1) (at 1 2) end (group Bracket (at 3 4) (at 4 5) end end))
    (group Bracket call_site call_site end end)
    (group Bracket (at 3 4) (at 4 5) end end)
unfolding left is_end lookahead_at sees take_token take_lifetime take_mark take_group before rows_for rows run parse_rule
prim_brackets_brackets = computed primary _ _ _ refl

-- `[a b]`: nothing is read
prim_in_bracket_a_b : NotDerived (rule primary)
    (group Bracket (at 0 1) (at 4 5) (leaf (ident (97 ∷ [])) (at 1 2) (leaf (ident (98 ∷ [])) (at 3 4) end)) end)
unfolding left is_end lookahead_at sees take_token take_lifetime take_mark take_group before rows_for rows run parse_rule
prim_in_bracket_a_b = not_read primary _ refl

-- `\(\)`: nothing is read
prim_hidden : NotDerived (rule primary)
    (group None (at 0 2) (at 2 4) end end)
unfolding left is_end lookahead_at sees take_token take_lifetime take_mark take_group before rows_for rows run parse_rule
prim_hidden = not_read primary _ refl

-- `\(a\) \(a\)` prints `\(a\)` and leaves `\(a\)`
prim_in_none_a_in_none_a : DerivesAs primary
    (group None (at 0 2) (at 3 5) (leaf (ident (97 ∷ [])) (at 2 3) end) (group None (at 6 8) (at 9 11) (leaf (ident (97 ∷ [])) (at 8 9) end) end))
    (group None call_site call_site (leaf (ident (97 ∷ [])) call_site end) end)
    (group None (at 6 8) (at 9 11) (leaf (ident (97 ∷ [])) (at 8 9) end) end)
unfolding left is_end lookahead_at sees take_token take_lifetime take_mark take_group before rows_for rows run parse_rule
prim_in_none_a_in_none_a = computed primary _ _ _ refl

-- `\(a b\)`: nothing is read
prim_in_none_a_b : NotDerived (rule primary)
    (group None (at 0 2) (at 5 7) (leaf (ident (97 ∷ [])) (at 2 3) (leaf (ident (98 ∷ [])) (at 4 5) end)) end)
unfolding left is_end lookahead_at sees take_token take_lifetime take_mark take_group before rows_for rows run parse_rule
prim_in_none_a_b = not_read primary _ refl

-- `{} {}` prints `{}` and leaves `{}`
prim_braces_braces : DerivesAs primary
    (group Brace (at 0 1) (at 1 2) end (group Brace (at 3 4) (at 4 5) end end))
    (group Brace call_site call_site end end)
    (group Brace (at 3 4) (at 4 5) end end)
unfolding left is_end lookahead_at sees take_token take_lifetime take_mark take_group before rows_for rows run parse_rule
prim_braces_braces = computed primary _ _ _ refl

-- `return continue return` prints `return continue` and leaves `return`
prim_return_continue_return : DerivesAs primary
    (leaf (ident w_return) (at 0 6) (leaf (ident w_continue) (at 7 15) (leaf (ident w_return) (at 16 22) end)))
    (leaf (ident w_return) call_site (leaf (ident w_continue) call_site end))
    (leaf (ident w_return) (at 16 22) end)
unfolding left is_end lookahead_at sees take_token take_lifetime take_mark take_group before rows_for rows run parse_rule
prim_return_continue_return = computed primary _ _ _ refl

-- `break 'a` prints `break 'a`
prim_break_tick_a : DerivesAs primary
    (leaf (ident w_break) (at 0 5) (punct 39 true (at 6 7) (leaf (ident (97 ∷ [])) (at 7 8) end)))
    (leaf (ident w_break) call_site (punct 39 true call_site (leaf (ident (97 ∷ [])) call_site end)))
    (end)
unfolding left is_end lookahead_at sees take_token take_lifetime take_mark take_group before rows_for rows run parse_rule
prim_break_tick_a = computed primary _ _ _ refl

-- `break break`: nothing is read
prim_break_break : NotDerived (rule primary)
    (leaf (ident w_break) (at 0 5) (leaf (ident w_break) (at 6 11) end))
unfolding left is_end lookahead_at sees take_token take_lifetime take_mark take_group before rows_for rows run parse_rule
prim_break_break = not_read primary _ refl

-- `break 'a ' a`: nothing is read
prim_break_tick_a_tick_a : NotDerived (rule primary)
    (leaf (ident w_break) (at 0 5) (punct 39 true (at 6 7) (leaf (ident (97 ∷ [])) (at 7 8) (punct 39 true (at 9 10) (leaf (ident (97 ∷ [])) (at 11 12) end)))))
unfolding left is_end lookahead_at sees take_token take_lifetime take_mark take_group before rows_for rows run parse_rule
prim_break_tick_a_tick_a = not_read primary _ refl

-- `continue continue` prints `continue` and leaves `continue`
prim_continue_continue : DerivesAs primary
    (leaf (ident w_continue) (at 0 8) (leaf (ident w_continue) (at 9 17) end))
    (leaf (ident w_continue) call_site end)
    (leaf (ident w_continue) (at 9 17) end)
unfolding left is_end lookahead_at sees take_token take_lifetime take_mark take_group before rows_for rows run parse_rule
prim_continue_continue = computed primary _ _ _ refl

-- `continue 'a 'b` prints `continue 'a` and leaves `'b`
prim_continue_tick_a_tick_b : DerivesAs primary
    (leaf (ident w_continue) (at 0 8) (punct 39 true (at 9 10) (leaf (ident (97 ∷ [])) (at 10 11) (punct 39 true (at 12 13) (leaf (ident (98 ∷ [])) (at 13 14) end)))))
    (leaf (ident w_continue) call_site (punct 39 true call_site (leaf (ident (97 ∷ [])) call_site end)))
    (punct 39 true (at 12 13) (leaf (ident (98 ∷ [])) (at 13 14) end))
unfolding left is_end lookahead_at sees take_token take_lifetime take_mark take_group before rows_for rows run parse_rule
prim_continue_tick_a_tick_b = computed primary _ _ _ refl

-- `return b"x"` prints `return b"x"`
prim_return_bytes : DerivesAs primary
    (leaf (ident w_return) (at 0 6) (leaf (literal ByteStr (98 ∷ 34 ∷ 120 ∷ 34 ∷ [])) (at 7 11) end))
    (leaf (ident w_return) call_site (leaf (literal ByteStr (98 ∷ 34 ∷ 120 ∷ 34 ∷ [])) call_site end))
    (end)
unfolding left is_end lookahead_at sees take_token take_lifetime take_mark take_group before rows_for rows run parse_rule
prim_return_bytes = computed primary _ _ _ refl

-- `return 'c'` prints `return 'c'`
prim_return_char : DerivesAs primary
    (leaf (ident w_return) (at 0 6) (leaf (literal Char (39 ∷ 99 ∷ 39 ∷ [])) (at 7 10) end))
    (leaf (ident w_return) call_site (leaf (literal Char (39 ∷ 99 ∷ 39 ∷ [])) call_site end))
    (end)
unfolding left is_end lookahead_at sees take_token take_lifetime take_mark take_group before rows_for rows run parse_rule
prim_return_char = computed primary _ _ _ refl

-- `return 1.5` prints `return 1.5`
prim_return_float : DerivesAs primary
    (leaf (ident w_return) (at 0 6) (leaf (literal Float (49 ∷ 46 ∷ 53 ∷ [])) (at 7 10) end))
    (leaf (ident w_return) call_site (leaf (literal Float (49 ∷ 46 ∷ 53 ∷ [])) call_site end))
    (end)
unfolding left is_end lookahead_at sees take_token take_lifetime take_mark take_group before rows_for rows run parse_rule
prim_return_float = computed primary _ _ _ refl

-- `::a!()` prints `:: a ! ()`
prim_colons_a_bang_parens : DerivesAs primary
    (punct 58 true (at 0 1) (punct 58 false (at 1 2) (leaf (ident (97 ∷ [])) (at 2 3) (punct 33 false (at 3 4) (group Paren (at 4 5) (at 5 6) end end)))))
    (punct 58 true call_site (punct 58 false call_site (leaf (ident (97 ∷ [])) call_site (punct 33 false call_site (group Paren call_site call_site end end)))))
    (end)
unfolding left is_end lookahead_at sees take_token take_lifetime take_mark take_group before rows_for rows run parse_rule
prim_colons_a_bang_parens = computed primary _ _ _ refl

-- `super !`: nothing is read
prim_super_bang : NotDerived (rule primary)
    (leaf (ident w_super) (at 0 5) (punct 33 false (at 6 7) end))
unfolding left is_end lookahead_at sees take_token take_lifetime take_mark take_group before rows_for rows run parse_rule
prim_super_bang = not_read primary _ refl

-- `self!()` prints `self ! ()`
prim_self_bang_parens : DerivesAs primary
    (leaf (ident w_self) (at 0 4) (punct 33 false (at 4 5) (group Paren (at 5 6) (at 6 7) end end)))
    (leaf (ident w_self) call_site (punct 33 false call_site (group Paren call_site call_site end end)))
    (end)
unfolding left is_end lookahead_at sees take_token take_lifetime take_mark take_group before rows_for rows run parse_rule
prim_self_bang_parens = computed primary _ _ _ refl

-- `Self!()` prints `Self ! ()`
prim_Self_bang_parens : DerivesAs primary
    (leaf (ident w_Self_type) (at 0 4) (punct 33 false (at 4 5) (group Paren (at 5 6) (at 6 7) end end)))
    (leaf (ident w_Self_type) call_site (punct 33 false call_site (group Paren call_site call_site end end)))
    (end)
unfolding left is_end lookahead_at sees take_token take_lifetime take_mark take_group before rows_for rows run parse_rule
prim_Self_bang_parens = computed primary _ _ _ refl

-- `crate!()` prints `crate ! ()`
prim_crate_bang_parens : DerivesAs primary
    (leaf (ident w_crate) (at 0 5) (punct 33 false (at 5 6) (group Paren (at 6 7) (at 7 8) end end)))
    (leaf (ident w_crate) call_site (punct 33 false call_site (group Paren call_site call_site end end)))
    (end)
unfolding left is_end lookahead_at sees take_token take_lifetime take_mark take_group before rows_for rows run parse_rule
prim_crate_bang_parens = computed primary _ _ _ refl

-- `[a; 1]` prints `[a ; 1]`
prim_in_bracket_a_semi_n1 : DerivesAs primary
    (group Bracket (at 0 1) (at 5 6) (leaf (ident (97 ∷ [])) (at 1 2) (punct 59 false (at 2 3) (leaf (literal Int (49 ∷ [])) (at 4 5) end))) end)
    (group Bracket call_site call_site (leaf (ident (97 ∷ [])) call_site (punct 59 false call_site (leaf (literal Int (49 ∷ [])) call_site end))) end)
    (end)
unfolding left is_end lookahead_at sees take_token take_lifetime take_mark take_group before rows_for rows run parse_rule
prim_in_bracket_a_semi_n1 = computed primary _ _ _ refl

-- `\(a = b\)` prints `\(a = b\)`
prim_in_none_a_eq_b : DerivesAs primary
    (group None (at 0 2) (at 7 9) (leaf (ident (97 ∷ [])) (at 2 3) (punct 61 false (at 4 5) (leaf (ident (98 ∷ [])) (at 6 7) end))) end)
    (group None call_site call_site (leaf (ident (97 ∷ [])) call_site (punct 61 false call_site (leaf (ident (98 ∷ [])) call_site end))) end)
    (end)
unfolding left is_end lookahead_at sees take_token take_lifetime take_mark take_group before rows_for rows run parse_rule
prim_in_none_a_eq_b = computed primary _ _ _ refl

-- `return "s"` prints `return "s"`
prim_return_str : DerivesAs primary
    (leaf (ident w_return) (at 0 6) (leaf (literal Str (34 ∷ 115 ∷ 34 ∷ [])) (at 7 10) end))
    (leaf (ident w_return) call_site (leaf (literal Str (34 ∷ 115 ∷ 34 ∷ [])) call_site end))
    (end)
unfolding left is_end lookahead_at sees take_token take_lifetime take_mark take_group before rows_for rows run parse_rule
prim_return_str = computed primary _ _ _ refl

-- `return c"x"` prints `return c"x"`
prim_return_cstr : DerivesAs primary
    (leaf (ident w_return) (at 0 6) (leaf (literal CStr (99 ∷ 34 ∷ 120 ∷ 34 ∷ [])) (at 7 11) end))
    (leaf (ident w_return) call_site (leaf (literal CStr (99 ∷ 34 ∷ 120 ∷ 34 ∷ [])) call_site end))
    (end)
unfolding left is_end lookahead_at sees take_token take_lifetime take_mark take_group before rows_for rows run parse_rule
prim_return_cstr = computed primary _ _ _ refl

-- `return b'x'` prints `return b'x'`
prim_return_byte : DerivesAs primary
    (leaf (ident w_return) (at 0 6) (leaf (literal Byte (98 ∷ 39 ∷ 120 ∷ 39 ∷ [])) (at 7 11) end))
    (leaf (ident w_return) call_site (leaf (literal Byte (98 ∷ 39 ∷ 120 ∷ 39 ∷ [])) call_site end))
    (end)
unfolding left is_end lookahead_at sees take_token take_lifetime take_mark take_group before rows_for rows run parse_rule
prim_return_byte = computed primary _ _ _ refl

-- `return 0` prints `return 0`
prim_return_n0 : DerivesAs primary
    (leaf (ident w_return) (at 0 6) (leaf (literal Int (48 ∷ [])) (at 7 8) end))
    (leaf (ident w_return) call_site (leaf (literal Int (48 ∷ [])) call_site end))
    (end)
unfolding left is_end lookahead_at sees take_token take_lifetime take_mark take_group before rows_for rows run parse_rule
prim_return_n0 = computed primary _ _ _ refl

-- `return true` prints `return true`
prim_return_true : DerivesAs primary
    (leaf (ident w_return) (at 0 6) (leaf (ident w_true) (at 7 11) end))
    (leaf (ident w_return) call_site (leaf (ident w_true) call_site end))
    (end)
unfolding left is_end lookahead_at sees take_token take_lifetime take_mark take_group before rows_for rows run parse_rule
prim_return_true = computed primary _ _ _ refl

-- `return false` prints `return false`
prim_return_false : DerivesAs primary
    (leaf (ident w_return) (at 0 6) (leaf (ident w_false) (at 7 12) end))
    (leaf (ident w_return) call_site (leaf (ident w_false) call_site end))
    (end)
unfolding left is_end lookahead_at sees take_token take_lifetime take_mark take_group before rows_for rows run parse_rule
prim_return_false = computed primary _ _ _ refl

-- `return Self` prints `return Self`
prim_return_Self : DerivesAs primary
    (leaf (ident w_return) (at 0 6) (leaf (ident w_Self_type) (at 7 11) end))
    (leaf (ident w_return) call_site (leaf (ident w_Self_type) call_site end))
    (end)
unfolding left is_end lookahead_at sees take_token take_lifetime take_mark take_group before rows_for rows run parse_rule
prim_return_Self = computed primary _ _ _ refl

-- `return self` prints `return self`
prim_return_self : DerivesAs primary
    (leaf (ident w_return) (at 0 6) (leaf (ident w_self) (at 7 11) end))
    (leaf (ident w_return) call_site (leaf (ident w_self) call_site end))
    (end)
unfolding left is_end lookahead_at sees take_token take_lifetime take_mark take_group before rows_for rows run parse_rule
prim_return_self = computed primary _ _ _ refl

-- `return crate` prints `return crate`
prim_return_crate : DerivesAs primary
    (leaf (ident w_return) (at 0 6) (leaf (ident w_crate) (at 7 12) end))
    (leaf (ident w_return) call_site (leaf (ident w_crate) call_site end))
    (end)
unfolding left is_end lookahead_at sees take_token take_lifetime take_mark take_group before rows_for rows run parse_rule
prim_return_crate = computed primary _ _ _ refl

-- `return super` prints `return super`
prim_return_super : DerivesAs primary
    (leaf (ident w_return) (at 0 6) (leaf (ident w_super) (at 7 12) end))
    (leaf (ident w_return) call_site (leaf (ident w_super) call_site end))
    (end)
unfolding left is_end lookahead_at sees take_token take_lifetime take_mark take_group before rows_for rows run parse_rule
prim_return_super = computed primary _ _ _ refl

-- `return ::a` prints `return :: a`
prim_return_colons_a : DerivesAs primary
    (leaf (ident w_return) (at 0 6) (punct 58 true (at 7 8) (punct 58 false (at 8 9) (leaf (ident (97 ∷ [])) (at 9 10) end))))
    (leaf (ident w_return) call_site (punct 58 true call_site (punct 58 false call_site (leaf (ident (97 ∷ [])) call_site end))))
    (end)
unfolding left is_end lookahead_at sees take_token take_lifetime take_mark take_group before rows_for rows run parse_rule
prim_return_colons_a = computed primary _ _ _ refl

-- `return : a` prints `return` and leaves `: a`
prim_return_colon_a : DerivesAs primary
    (leaf (ident w_return) (at 0 6) (punct 58 false (at 7 8) (leaf (ident (97 ∷ [])) (at 9 10) end)))
    (leaf (ident w_return) call_site end)
    (punct 58 false (at 7 8) (leaf (ident (97 ∷ [])) (at 9 10) end))
unfolding left is_end lookahead_at sees take_token take_lifetime take_mark take_group before rows_for rows run parse_rule
prim_return_colon_a = computed primary _ _ _ refl

-- `return <= a`: nothing is read
prim_return_lt_eq_a : NotDerived (rule primary)
    (leaf (ident w_return) (at 0 6) (punct 60 true (at 7 8) (punct 61 false (at 8 9) (leaf (ident (97 ∷ [])) (at 10 11) end))))
unfolding left is_end lookahead_at sees take_token take_lifetime take_mark take_group before rows_for rows run parse_rule
prim_return_lt_eq_a = not_read primary _ refl

-- `return <<= a`: nothing is read
prim_return_shl_eq_a : NotDerived (rule primary)
    (leaf (ident w_return) (at 0 6) (punct 60 true (at 7 8) (punct 60 true (at 8 9) (punct 61 false (at 9 10) (leaf (ident (97 ∷ [])) (at 11 12) end)))))
unfolding left is_end lookahead_at sees take_token take_lifetime take_mark take_group before rows_for rows run parse_rule
prim_return_shl_eq_a = not_read primary _ refl

-- `return if a {}` prints `return if a {}`
prim_return_if_a_braces : DerivesAs primary
    (leaf (ident w_return) (at 0 6) (leaf (ident w_if) (at 7 9) (leaf (ident (97 ∷ [])) (at 10 11) (group Brace (at 12 13) (at 13 14) end end))))
    (leaf (ident w_return) call_site (leaf (ident w_if) call_site (leaf (ident (97 ∷ [])) call_site (group Brace call_site call_site end end))))
    (end)
unfolding left is_end lookahead_at sees take_token take_lifetime take_mark take_group before rows_for rows run parse_rule
prim_return_if_a_braces = computed primary _ _ _ refl

-- `return loop {}` prints `return loop {}`
prim_return_loop_braces : DerivesAs primary
    (leaf (ident w_return) (at 0 6) (leaf (ident w_loop) (at 7 11) (group Brace (at 12 13) (at 13 14) end end)))
    (leaf (ident w_return) call_site (leaf (ident w_loop) call_site (group Brace call_site call_site end end)))
    (end)
unfolding left is_end lookahead_at sees take_token take_lifetime take_mark take_group before rows_for rows run parse_rule
prim_return_loop_braces = computed primary _ _ _ refl

-- `return while a {}` prints `return while a {}`
prim_return_while_a_braces : DerivesAs primary
    (leaf (ident w_return) (at 0 6) (leaf (ident w_while) (at 7 12) (leaf (ident (97 ∷ [])) (at 13 14) (group Brace (at 15 16) (at 16 17) end end))))
    (leaf (ident w_return) call_site (leaf (ident w_while) call_site (leaf (ident (97 ∷ [])) call_site (group Brace call_site call_site end end))))
    (end)
unfolding left is_end lookahead_at sees take_token take_lifetime take_mark take_group before rows_for rows run parse_rule
prim_return_while_a_braces = computed primary _ _ _ refl

-- `return for a in b {}` prints `return for a in b {}`
prim_return_for_a_in_b_braces : DerivesAs primary
    (leaf (ident w_return) (at 0 6) (leaf (ident w_for) (at 7 10) (leaf (ident (97 ∷ [])) (at 11 12) (leaf (ident w_in) (at 13 15) (leaf (ident (98 ∷ [])) (at 16 17) (group Brace (at 18 19) (at 19 20) end end))))))
    (leaf (ident w_return) call_site (leaf (ident w_for) call_site (leaf (ident (97 ∷ [])) call_site (leaf (ident w_in) call_site (leaf (ident (98 ∷ [])) call_site (group Brace call_site call_site end end))))))
    (end)
unfolding left is_end lookahead_at sees take_token take_lifetime take_mark take_group before rows_for rows run parse_rule
prim_return_for_a_in_b_braces = computed primary _ _ _ refl

-- `return unsafe {}` prints `return unsafe {}`
prim_return_unsafe_braces : DerivesAs primary
    (leaf (ident w_return) (at 0 6) (leaf (ident w_unsafe) (at 7 13) (group Brace (at 14 15) (at 15 16) end end)))
    (leaf (ident w_return) call_site (leaf (ident w_unsafe) call_site (group Brace call_site call_site end end)))
    (end)
unfolding left is_end lookahead_at sees take_token take_lifetime take_mark take_group before rows_for rows run parse_rule
prim_return_unsafe_braces = computed primary _ _ _ refl

-- `return return` prints `return return`
prim_return_return : DerivesAs primary
    (leaf (ident w_return) (at 0 6) (leaf (ident w_return) (at 7 13) end))
    (leaf (ident w_return) call_site (leaf (ident w_return) call_site end))
    (end)
unfolding left is_end lookahead_at sees take_token take_lifetime take_mark take_group before rows_for rows run parse_rule
prim_return_return = computed primary _ _ _ refl

-- `return break` prints `return break`
prim_return_break : DerivesAs primary
    (leaf (ident w_return) (at 0 6) (leaf (ident w_break) (at 7 12) end))
    (leaf (ident w_return) call_site (leaf (ident w_break) call_site end))
    (end)
unfolding left is_end lookahead_at sees take_token take_lifetime take_mark take_group before rows_for rows run parse_rule
prim_return_break = computed primary _ _ _ refl

-- `return #`: nothing is read
prim_return_pound : NotDerived (rule primary)
    (leaf (ident w_return) (at 0 6) (punct 35 false (at 7 8) end))
unfolding left is_end lookahead_at sees take_token take_lifetime take_mark take_group before rows_for rows run parse_rule
prim_return_pound = not_read primary _ refl

-- `return (&)`: nothing is read
prim_return_in_paren_amp : NotDerived (rule primary)
    (leaf (ident w_return) (at 0 6) (group Paren (at 7 8) (at 9 10) (punct 38 false (at 8 9) end) end))
unfolding left is_end lookahead_at sees take_token take_lifetime take_mark take_group before rows_for rows run parse_rule
prim_return_in_paren_amp = not_read primary _ refl

-- `return [a]` prints `return [a]`
prim_return_in_bracket_a : DerivesAs primary
    (leaf (ident w_return) (at 0 6) (group Bracket (at 7 8) (at 9 10) (leaf (ident (97 ∷ [])) (at 8 9) end) end))
    (leaf (ident w_return) call_site (group Bracket call_site call_site (leaf (ident (97 ∷ [])) call_site end) end))
    (end)
unfolding left is_end lookahead_at sees take_token take_lifetime take_mark take_group before rows_for rows run parse_rule
prim_return_in_bracket_a = computed primary _ _ _ refl

-- `return {}` prints `return {}`
prim_return_braces : DerivesAs primary
    (leaf (ident w_return) (at 0 6) (group Brace (at 7 8) (at 8 9) end end))
    (leaf (ident w_return) call_site (group Brace call_site call_site end end))
    (end)
unfolding left is_end lookahead_at sees take_token take_lifetime take_mark take_group before rows_for rows run parse_rule
prim_return_braces = computed primary _ _ _ refl

-- `return -a` prints `return - a`
prim_return_minus_a : DerivesAs primary
    (leaf (ident w_return) (at 0 6) (punct 45 false (at 7 8) (leaf (ident (97 ∷ [])) (at 8 9) end)))
    (leaf (ident w_return) call_site (punct 45 false call_site (leaf (ident (97 ∷ [])) call_site end)))
    (end)
unfolding left is_end lookahead_at sees take_token take_lifetime take_mark take_group before rows_for rows run parse_rule
prim_return_minus_a = computed primary _ _ _ refl

-- `return !a` prints `return ! a`
prim_return_bang_a : DerivesAs primary
    (leaf (ident w_return) (at 0 6) (punct 33 false (at 7 8) (leaf (ident (97 ∷ [])) (at 8 9) end)))
    (leaf (ident w_return) call_site (punct 33 false call_site (leaf (ident (97 ∷ [])) call_site end)))
    (end)
unfolding left is_end lookahead_at sees take_token take_lifetime take_mark take_group before rows_for rows run parse_rule
prim_return_bang_a = computed primary _ _ _ refl

-- `return *a` prints `return * a`
prim_return_star_a : DerivesAs primary
    (leaf (ident w_return) (at 0 6) (punct 42 false (at 7 8) (leaf (ident (97 ∷ [])) (at 8 9) end)))
    (leaf (ident w_return) call_site (punct 42 false call_site (leaf (ident (97 ∷ [])) call_site end)))
    (end)
unfolding left is_end lookahead_at sees take_token take_lifetime take_mark take_group before rows_for rows run parse_rule
prim_return_star_a = computed primary _ _ _ refl

-- `return &a` prints `return & a`
prim_return_amp_a : DerivesAs primary
    (leaf (ident w_return) (at 0 6) (punct 38 false (at 7 8) (leaf (ident (97 ∷ [])) (at 8 9) end)))
    (leaf (ident w_return) call_site (punct 38 false call_site (leaf (ident (97 ∷ [])) call_site end)))
    (end)
unfolding left is_end lookahead_at sees take_token take_lifetime take_mark take_group before rows_for rows run parse_rule
prim_return_amp_a = computed primary _ _ _ refl

-- `return '` prints `return` and leaves `'`
prim_return_tick : DerivesAs primary
    (leaf (ident w_return) (at 0 6) (punct 39 true (at 7 8) end))
    (leaf (ident w_return) call_site end)
    (punct 39 true (at 7 8) end)
unfolding left is_end lookahead_at sees take_token take_lifetime take_mark take_group before rows_for rows run parse_rule
prim_return_tick = computed primary _ _ _ refl

-- `return a = b` prints `return a = b`
prim_return_a_eq_b : DerivesAs primary
    (leaf (ident w_return) (at 0 6) (leaf (ident (97 ∷ [])) (at 7 8) (punct 61 false (at 9 10) (leaf (ident (98 ∷ [])) (at 11 12) end))))
    (leaf (ident w_return) call_site (leaf (ident (97 ∷ [])) call_site (punct 61 false call_site (leaf (ident (98 ∷ [])) call_site end))))
    (end)
unfolding left is_end lookahead_at sees take_token take_lifetime take_mark take_group before rows_for rows run parse_rule
prim_return_a_eq_b = computed primary _ _ _ refl

-- `break '` prints `break` and leaves `'`
prim_break_tick : DerivesAs primary
    (leaf (ident w_break) (at 0 5) (punct 39 true (at 6 7) end))
    (leaf (ident w_break) call_site end)
    (punct 39 true (at 6 7) end)
unfolding left is_end lookahead_at sees take_token take_lifetime take_mark take_group before rows_for rows run parse_rule
prim_break_tick = computed primary _ _ _ refl

-- `break 1`: nothing is read
prim_break_n1 : NotDerived (rule primary)
    (leaf (ident w_break) (at 0 5) (leaf (literal Int (49 ∷ [])) (at 6 7) end))
unfolding left is_end lookahead_at sees take_token take_lifetime take_mark take_group before rows_for rows run parse_rule
prim_break_n1 = not_read primary _ refl

-- `break "s"`: nothing is read
prim_break_str : NotDerived (rule primary)
    (leaf (ident w_break) (at 0 5) (leaf (literal Str (34 ∷ 115 ∷ 34 ∷ [])) (at 6 9) end))
unfolding left is_end lookahead_at sees take_token take_lifetime take_mark take_group before rows_for rows run parse_rule
prim_break_str = not_read primary _ refl

-- `break b"x"`: nothing is read
prim_break_bytes : NotDerived (rule primary)
    (leaf (ident w_break) (at 0 5) (leaf (literal ByteStr (98 ∷ 34 ∷ 120 ∷ 34 ∷ [])) (at 6 10) end))
unfolding left is_end lookahead_at sees take_token take_lifetime take_mark take_group before rows_for rows run parse_rule
prim_break_bytes = not_read primary _ refl

-- `break c"x"`: nothing is read
prim_break_cstr : NotDerived (rule primary)
    (leaf (ident w_break) (at 0 5) (leaf (literal CStr (99 ∷ 34 ∷ 120 ∷ 34 ∷ [])) (at 6 10) end))
unfolding left is_end lookahead_at sees take_token take_lifetime take_mark take_group before rows_for rows run parse_rule
prim_break_cstr = not_read primary _ refl

-- `break b'x'`: nothing is read
prim_break_byte : NotDerived (rule primary)
    (leaf (ident w_break) (at 0 5) (leaf (literal Byte (98 ∷ 39 ∷ 120 ∷ 39 ∷ [])) (at 6 10) end))
unfolding left is_end lookahead_at sees take_token take_lifetime take_mark take_group before rows_for rows run parse_rule
prim_break_byte = not_read primary _ refl

-- `break 'c'`: nothing is read
prim_break_char : NotDerived (rule primary)
    (leaf (ident w_break) (at 0 5) (leaf (literal Char (39 ∷ 99 ∷ 39 ∷ [])) (at 6 9) end))
unfolding left is_end lookahead_at sees take_token take_lifetime take_mark take_group before rows_for rows run parse_rule
prim_break_char = not_read primary _ refl

-- `break 1.5`: nothing is read
prim_break_float : NotDerived (rule primary)
    (leaf (ident w_break) (at 0 5) (leaf (literal Float (49 ∷ 46 ∷ 53 ∷ [])) (at 6 9) end))
unfolding left is_end lookahead_at sees take_token take_lifetime take_mark take_group before rows_for rows run parse_rule
prim_break_float = not_read primary _ refl

-- `break true`: nothing is read
prim_break_true : NotDerived (rule primary)
    (leaf (ident w_break) (at 0 5) (leaf (ident w_true) (at 6 10) end))
unfolding left is_end lookahead_at sees take_token take_lifetime take_mark take_group before rows_for rows run parse_rule
prim_break_true = not_read primary _ refl

-- `break false`: nothing is read
prim_break_false : NotDerived (rule primary)
    (leaf (ident w_break) (at 0 5) (leaf (ident w_false) (at 6 11) end))
unfolding left is_end lookahead_at sees take_token take_lifetime take_mark take_group before rows_for rows run parse_rule
prim_break_false = not_read primary _ refl

-- `break a`: nothing is read
prim_break_a : NotDerived (rule primary)
    (leaf (ident w_break) (at 0 5) (leaf (ident (97 ∷ [])) (at 6 7) end))
unfolding left is_end lookahead_at sees take_token take_lifetime take_mark take_group before rows_for rows run parse_rule
prim_break_a = not_read primary _ refl

-- `break Self`: nothing is read
prim_break_Self : NotDerived (rule primary)
    (leaf (ident w_break) (at 0 5) (leaf (ident w_Self_type) (at 6 10) end))
unfolding left is_end lookahead_at sees take_token take_lifetime take_mark take_group before rows_for rows run parse_rule
prim_break_Self = not_read primary _ refl

-- `break self`: nothing is read
prim_break_self : NotDerived (rule primary)
    (leaf (ident w_break) (at 0 5) (leaf (ident w_self) (at 6 10) end))
unfolding left is_end lookahead_at sees take_token take_lifetime take_mark take_group before rows_for rows run parse_rule
prim_break_self = not_read primary _ refl

-- `break crate`: nothing is read
prim_break_crate : NotDerived (rule primary)
    (leaf (ident w_break) (at 0 5) (leaf (ident w_crate) (at 6 11) end))
unfolding left is_end lookahead_at sees take_token take_lifetime take_mark take_group before rows_for rows run parse_rule
prim_break_crate = not_read primary _ refl

-- `break super`: nothing is read
prim_break_super : NotDerived (rule primary)
    (leaf (ident w_break) (at 0 5) (leaf (ident w_super) (at 6 11) end))
unfolding left is_end lookahead_at sees take_token take_lifetime take_mark take_group before rows_for rows run parse_rule
prim_break_super = not_read primary _ refl

-- `break ::a`: nothing is read
prim_break_colons_a : NotDerived (rule primary)
    (leaf (ident w_break) (at 0 5) (punct 58 true (at 6 7) (punct 58 false (at 7 8) (leaf (ident (97 ∷ [])) (at 8 9) end))))
unfolding left is_end lookahead_at sees take_token take_lifetime take_mark take_group before rows_for rows run parse_rule
prim_break_colons_a = not_read primary _ refl

-- `break : a` prints `break` and leaves `: a`
prim_break_colon_a : DerivesAs primary
    (leaf (ident w_break) (at 0 5) (punct 58 false (at 6 7) (leaf (ident (97 ∷ [])) (at 8 9) end)))
    (leaf (ident w_break) call_site end)
    (punct 58 false (at 6 7) (leaf (ident (97 ∷ [])) (at 8 9) end))
unfolding left is_end lookahead_at sees take_token take_lifetime take_mark take_group before rows_for rows run parse_rule
prim_break_colon_a = computed primary _ _ _ refl

-- `break <= a`: nothing is read
prim_break_lt_eq_a : NotDerived (rule primary)
    (leaf (ident w_break) (at 0 5) (punct 60 true (at 6 7) (punct 61 false (at 7 8) (leaf (ident (97 ∷ [])) (at 9 10) end))))
unfolding left is_end lookahead_at sees take_token take_lifetime take_mark take_group before rows_for rows run parse_rule
prim_break_lt_eq_a = not_read primary _ refl

-- `break <<= a`: nothing is read
prim_break_shl_eq_a : NotDerived (rule primary)
    (leaf (ident w_break) (at 0 5) (punct 60 true (at 6 7) (punct 60 true (at 7 8) (punct 61 false (at 8 9) (leaf (ident (97 ∷ [])) (at 10 11) end)))))
unfolding left is_end lookahead_at sees take_token take_lifetime take_mark take_group before rows_for rows run parse_rule
prim_break_shl_eq_a = not_read primary _ refl

-- `break if`: nothing is read
prim_break_if : NotDerived (rule primary)
    (leaf (ident w_break) (at 0 5) (leaf (ident w_if) (at 6 8) end))
unfolding left is_end lookahead_at sees take_token take_lifetime take_mark take_group before rows_for rows run parse_rule
prim_break_if = not_read primary _ refl

-- `break loop {}`: nothing is read
prim_break_loop_braces : NotDerived (rule primary)
    (leaf (ident w_break) (at 0 5) (leaf (ident w_loop) (at 6 10) (group Brace (at 11 12) (at 12 13) end end)))
unfolding left is_end lookahead_at sees take_token take_lifetime take_mark take_group before rows_for rows run parse_rule
prim_break_loop_braces = not_read primary _ refl

-- `break while a {}`: nothing is read
prim_break_while_a_braces : NotDerived (rule primary)
    (leaf (ident w_break) (at 0 5) (leaf (ident w_while) (at 6 11) (leaf (ident (97 ∷ [])) (at 12 13) (group Brace (at 14 15) (at 15 16) end end))))
unfolding left is_end lookahead_at sees take_token take_lifetime take_mark take_group before rows_for rows run parse_rule
prim_break_while_a_braces = not_read primary _ refl

-- `break for a in b {}`: nothing is read
prim_break_for_a_in_b_braces : NotDerived (rule primary)
    (leaf (ident w_break) (at 0 5) (leaf (ident w_for) (at 6 9) (leaf (ident (97 ∷ [])) (at 10 11) (leaf (ident w_in) (at 12 14) (leaf (ident (98 ∷ [])) (at 15 16) (group Brace (at 17 18) (at 18 19) end end))))))
unfolding left is_end lookahead_at sees take_token take_lifetime take_mark take_group before rows_for rows run parse_rule
prim_break_for_a_in_b_braces = not_read primary _ refl

-- `break unsafe {}`: nothing is read
prim_break_unsafe_braces : NotDerived (rule primary)
    (leaf (ident w_break) (at 0 5) (leaf (ident w_unsafe) (at 6 12) (group Brace (at 13 14) (at 14 15) end end)))
unfolding left is_end lookahead_at sees take_token take_lifetime take_mark take_group before rows_for rows run parse_rule
prim_break_unsafe_braces = not_read primary _ refl

-- `break return`: nothing is read
prim_break_return : NotDerived (rule primary)
    (leaf (ident w_break) (at 0 5) (leaf (ident w_return) (at 6 12) end))
unfolding left is_end lookahead_at sees take_token take_lifetime take_mark take_group before rows_for rows run parse_rule
prim_break_return = not_read primary _ refl

-- `break continue`: nothing is read
prim_break_continue : NotDerived (rule primary)
    (leaf (ident w_break) (at 0 5) (leaf (ident w_continue) (at 6 14) end))
unfolding left is_end lookahead_at sees take_token take_lifetime take_mark take_group before rows_for rows run parse_rule
prim_break_continue = not_read primary _ refl

-- `break (a)`: nothing is read
prim_break_in_paren_a : NotDerived (rule primary)
    (leaf (ident w_break) (at 0 5) (group Paren (at 6 7) (at 8 9) (leaf (ident (97 ∷ [])) (at 7 8) end) end))
unfolding left is_end lookahead_at sees take_token take_lifetime take_mark take_group before rows_for rows run parse_rule
prim_break_in_paren_a = not_read primary _ refl

-- `break []`: nothing is read
prim_break_brackets : NotDerived (rule primary)
    (leaf (ident w_break) (at 0 5) (group Bracket (at 6 7) (at 7 8) end end))
unfolding left is_end lookahead_at sees take_token take_lifetime take_mark take_group before rows_for rows run parse_rule
prim_break_brackets = not_read primary _ refl

-- `break {a}`: nothing is read
prim_break_in_brace_a : NotDerived (rule primary)
    (leaf (ident w_break) (at 0 5) (group Brace (at 6 7) (at 8 9) (leaf (ident (97 ∷ [])) (at 7 8) end) end))
unfolding left is_end lookahead_at sees take_token take_lifetime take_mark take_group before rows_for rows run parse_rule
prim_break_in_brace_a = not_read primary _ refl

-- `break -a`: nothing is read
prim_break_minus_a : NotDerived (rule primary)
    (leaf (ident w_break) (at 0 5) (punct 45 false (at 6 7) (leaf (ident (97 ∷ [])) (at 7 8) end)))
unfolding left is_end lookahead_at sees take_token take_lifetime take_mark take_group before rows_for rows run parse_rule
prim_break_minus_a = not_read primary _ refl

-- `break !a`: nothing is read
prim_break_bang_a : NotDerived (rule primary)
    (leaf (ident w_break) (at 0 5) (punct 33 false (at 6 7) (leaf (ident (97 ∷ [])) (at 7 8) end)))
unfolding left is_end lookahead_at sees take_token take_lifetime take_mark take_group before rows_for rows run parse_rule
prim_break_bang_a = not_read primary _ refl

-- `break *a`: nothing is read
prim_break_star_a : NotDerived (rule primary)
    (leaf (ident w_break) (at 0 5) (punct 42 false (at 6 7) (leaf (ident (97 ∷ [])) (at 7 8) end)))
unfolding left is_end lookahead_at sees take_token take_lifetime take_mark take_group before rows_for rows run parse_rule
prim_break_star_a = not_read primary _ refl

-- `break &a`: nothing is read
prim_break_amp_a : NotDerived (rule primary)
    (leaf (ident w_break) (at 0 5) (punct 38 false (at 6 7) (leaf (ident (97 ∷ [])) (at 7 8) end)))
unfolding left is_end lookahead_at sees take_token take_lifetime take_mark take_group before rows_for rows run parse_rule
prim_break_amp_a = not_read primary _ refl

-- `break #[a] b`: nothing is read
prim_break_pound_in_bracket_a_b : NotDerived (rule primary)
    (leaf (ident w_break) (at 0 5) (punct 35 false (at 6 7) (group Bracket (at 7 8) (at 9 10) (leaf (ident (97 ∷ [])) (at 8 9) end) (leaf (ident (98 ∷ [])) (at 11 12) end))))
unfolding left is_end lookahead_at sees take_token take_lifetime take_mark take_group before rows_for rows run parse_rule
prim_break_pound_in_bracket_a_b = not_read primary _ refl

-- `continue '` prints `continue` and leaves `'`
prim_continue_tick : DerivesAs primary
    (leaf (ident w_continue) (at 0 8) (punct 39 true (at 9 10) end))
    (leaf (ident w_continue) call_site end)
    (punct 39 true (at 9 10) end)
unfolding left is_end lookahead_at sees take_token take_lifetime take_mark take_group before rows_for rows run parse_rule
prim_continue_tick = computed primary _ _ _ refl

-- `continue` prints `continue`
prim_continue : DerivesAs primary
    (leaf (ident w_continue) (at 0 8) end)
    (leaf (ident w_continue) call_site end)
    (end)
unfolding left is_end lookahead_at sees take_token take_lifetime take_mark take_group before rows_for rows run parse_rule
prim_continue = computed primary _ _ _ refl

-- `<T>::a` prints `< T > :: a`
prim_lt_T_gt_colons_a : DerivesAs primary
    (punct 60 false (at 0 1) (leaf (ident (84 ∷ [])) (at 1 2) (punct 62 true (at 2 3) (punct 58 true (at 3 4) (punct 58 false (at 4 5) (leaf (ident (97 ∷ [])) (at 5 6) end))))))
    (punct 60 false call_site (leaf (ident (84 ∷ [])) call_site (punct 62 false call_site (punct 58 true call_site (punct 58 false call_site (leaf (ident (97 ∷ [])) call_site end))))))
    (end)
unfolding left is_end lookahead_at sees take_token take_lifetime take_mark take_group before rows_for rows run parse_rule
prim_lt_T_gt_colons_a = computed primary _ _ _ refl

-- `{;}` prints `{;}`
prim_in_brace_semi : DerivesAs primary
    (group Brace (at 0 1) (at 2 3) (punct 59 false (at 1 2) end) end)
    (group Brace call_site call_site (punct 59 false call_site end) end)
    (end)
unfolding left is_end lookahead_at sees take_token take_lifetime take_mark take_group before rows_for rows run parse_rule
prim_in_brace_semi = computed primary _ _ _ refl

-- `1;` prints `1` and leaves `;`
exprs_n1_semi : DerivesAs expressions
    (leaf (literal Int (49 ∷ [])) (at 0 1) (punct 59 false (at 1 2) end))
    (leaf (literal Int (49 ∷ [])) call_site end)
    (punct 59 false (at 1 2) end)
unfolding left is_end lookahead_at sees take_token take_lifetime take_mark take_group before rows_for rows run parse_rule
exprs_n1_semi = computed expressions _ _ _ refl

-- `1,` prints `1 ,`
exprs_n1_comma : DerivesAs expressions
    (leaf (literal Int (49 ∷ [])) (at 0 1) (punct 44 false (at 1 2) end))
    (leaf (literal Int (49 ∷ [])) call_site (punct 44 false call_site end))
    (end)
unfolding left is_end lookahead_at sees take_token take_lifetime take_mark take_group before rows_for rows run parse_rule
exprs_n1_comma = computed expressions _ _ _ refl

-- `, c d`: nothing is read
exprs_comma_c_d : NotDerived (rule expressions)
    (punct 44 false (at 0 1) (leaf (ident (99 ∷ [])) (at 2 3) (leaf (ident (100 ∷ [])) (at 4 5) end)))
unfolding left is_end lookahead_at sees take_token take_lifetime take_mark take_group before rows_for rows run parse_rule
exprs_comma_c_d = not_read expressions _ refl

-- `a,,`: nothing is read
exprs_a_comma_comma : NotDerived (rule expressions)
    (leaf (ident (97 ∷ [])) (at 0 1) (punct 44 true (at 1 2) (punct 44 false (at 2 3) end)))
unfolding left is_end lookahead_at sees take_token take_lifetime take_mark take_group before rows_for rows run parse_rule
exprs_a_comma_comma = not_read expressions _ refl

-- `1, c d` prints `1 , c` and leaves `d`
exprs_n1_comma_c_d : DerivesAs expressions
    (leaf (literal Int (49 ∷ [])) (at 0 1) (punct 44 false (at 1 2) (leaf (ident (99 ∷ [])) (at 3 4) (leaf (ident (100 ∷ [])) (at 5 6) end))))
    (leaf (literal Int (49 ∷ [])) call_site (punct 44 false call_site (leaf (ident (99 ∷ [])) call_site end)))
    (leaf (ident (100 ∷ [])) (at 5 6) end)
unfolding left is_end lookahead_at sees take_token take_lifetime take_mark take_group before rows_for rows run parse_rule
exprs_n1_comma_c_d = computed expressions _ _ _ refl

-- `a = b` prints `a = b`
exprs_a_eq_b : DerivesAs expressions
    (leaf (ident (97 ∷ [])) (at 0 1) (punct 61 false (at 2 3) (leaf (ident (98 ∷ [])) (at 4 5) end)))
    (leaf (ident (97 ∷ [])) call_site (punct 61 false call_site (leaf (ident (98 ∷ [])) call_site end)))
    (end)
unfolding left is_end lookahead_at sees take_token take_lifetime take_mark take_group before rows_for rows run parse_rule
exprs_a_eq_b = computed expressions _ _ _ refl

-- `,`: nothing is read
array_comma : NotDerived (rule array_content)
    (punct 44 false (at 0 1) end)
unfolding left is_end lookahead_at sees take_token take_lifetime take_mark take_group before rows_for rows run parse_rule
array_comma = not_read array_content _ refl

-- `1 c` prints `1` and leaves `c`
array_n1_c : DerivesAs array_content
    (leaf (literal Int (49 ∷ [])) (at 0 1) (leaf (ident (99 ∷ [])) (at 2 3) end))
    (leaf (literal Int (49 ∷ [])) call_site end)
    (leaf (ident (99 ∷ [])) (at 2 3) end)
unfolding left is_end lookahead_at sees take_token take_lifetime take_mark take_group before rows_for rows run parse_rule
array_n1_c = computed array_content _ _ _ refl

-- `1,` prints `1 ,`
array_n1_comma : DerivesAs array_content
    (leaf (literal Int (49 ∷ [])) (at 0 1) (punct 44 false (at 1 2) end))
    (leaf (literal Int (49 ∷ [])) call_site (punct 44 false call_site end))
    (end)
unfolding left is_end lookahead_at sees take_token take_lifetime take_mark take_group before rows_for rows run parse_rule
array_n1_comma = computed array_content _ _ _ refl

-- `a, b;` prints `a , b` and leaves `;`
array_a_comma_b_semi : DerivesAs array_content
    (leaf (ident (97 ∷ [])) (at 0 1) (punct 44 false (at 1 2) (leaf (ident (98 ∷ [])) (at 3 4) (punct 59 false (at 4 5) end))))
    (leaf (ident (97 ∷ [])) call_site (punct 44 false call_site (leaf (ident (98 ∷ [])) call_site end)))
    (punct 59 false (at 4 5) end)
unfolding left is_end lookahead_at sees take_token take_lifetime take_mark take_group before rows_for rows run parse_rule
array_a_comma_b_semi = computed array_content _ _ _ refl

-- `; () break ,`: nothing is read
array_semi_parens_break_comma : NotDerived (rule array_content)
    (punct 59 false (at 0 1) (group Paren (at 2 3) (at 3 4) end (leaf (ident w_break) (at 5 10) (punct 44 false (at 11 12) end))))
unfolding left is_end lookahead_at sees take_token take_lifetime take_mark take_group before rows_for rows run parse_rule
array_semi_parens_break_comma = not_read array_content _ refl

-- `continue ; ; {}`: nothing is read
array_continue_semi_semi_braces : NotDerived (rule array_content)
    (leaf (ident w_continue) (at 0 8) (punct 59 false (at 9 10) (punct 59 false (at 11 12) (group Brace (at 13 14) (at 14 15) end end))))
unfolding left is_end lookahead_at sees take_token take_lifetime take_mark take_group before rows_for rows run parse_rule
array_continue_semi_semi_braces = not_read array_content _ refl

-- `1; c; d` prints `1 ; c` and leaves `; d`
array_n1_semi_c_semi_d : DerivesAs array_content
    (leaf (literal Int (49 ∷ [])) (at 0 1) (punct 59 false (at 1 2) (leaf (ident (99 ∷ [])) (at 3 4) (punct 59 false (at 4 5) (leaf (ident (100 ∷ [])) (at 6 7) end)))))
    (leaf (literal Int (49 ∷ [])) call_site (punct 59 false call_site (leaf (ident (99 ∷ [])) call_site end)))
    (punct 59 false (at 4 5) (leaf (ident (100 ∷ [])) (at 6 7) end))
unfolding left is_end lookahead_at sees take_token take_lifetime take_mark take_group before rows_for rows run parse_rule
array_n1_semi_c_semi_d = computed array_content _ _ _ refl

-- `- true ; & false break` prints `- true ; & false` and leaves `break`
array_minus_true_semi_amp_false_break : DerivesAs array_content
    (punct 45 false (at 0 1) (leaf (ident w_true) (at 2 6) (punct 59 false (at 7 8) (punct 38 false (at 9 10) (leaf (ident w_false) (at 11 16) (leaf (ident w_break) (at 17 22) end))))))
    (punct 45 false call_site (leaf (ident w_true) call_site (punct 59 false call_site (punct 38 false call_site (leaf (ident w_false) call_site end)))))
    (leaf (ident w_break) (at 17 22) end)
unfolding left is_end lookahead_at sees take_token take_lifetime take_mark take_group before rows_for rows run parse_rule
array_minus_true_semi_amp_false_break = computed array_content _ _ _ refl

-- `a,,`: nothing is read
array_a_comma_comma : NotDerived (rule array_content)
    (leaf (ident (97 ∷ [])) (at 0 1) (punct 44 true (at 1 2) (punct 44 false (at 2 3) end)))
unfolding left is_end lookahead_at sees take_token take_lifetime take_mark take_group before rows_for rows run parse_rule
array_a_comma_comma = not_read array_content _ refl

-- no tokens prints ``
array_nothing : DerivesAs array_content
    (end)
    (end)
    (end)
unfolding left is_end lookahead_at sees take_token take_lifetime take_mark take_group before rows_for rows run parse_rule
array_nothing = computed array_content _ _ _ refl

-- `{} =`: nothing is read
array_braces_eq : NotDerived (rule array_content)
    (group Brace (at 0 1) (at 1 2) end (punct 61 false (at 3 4) end))
unfolding left is_end lookahead_at sees take_token take_lifetime take_mark take_group before rows_for rows run parse_rule
array_braces_eq = not_read array_content _ refl

-- `1` prints `1`
array_n1 : DerivesAs array_content
    (leaf (literal Int (49 ∷ [])) (at 0 1) end)
    (leaf (literal Int (49 ∷ [])) call_site end)
    (end)
unfolding left is_end lookahead_at sees take_token take_lifetime take_mark take_group before rows_for rows run parse_rule
array_n1 = computed array_content _ _ _ refl

-- `1; c = d` prints `1 ; c = d`
array_n1_semi_c_eq_d : DerivesAs array_content
    (leaf (literal Int (49 ∷ [])) (at 0 1) (punct 59 false (at 1 2) (leaf (ident (99 ∷ [])) (at 3 4) (punct 61 false (at 5 6) (leaf (ident (100 ∷ [])) (at 7 8) end)))))
    (leaf (literal Int (49 ∷ [])) call_site (punct 59 false call_site (leaf (ident (99 ∷ [])) call_site (punct 61 false call_site (leaf (ident (100 ∷ [])) call_site end)))))
    (end)
unfolding left is_end lookahead_at sees take_token take_lifetime take_mark take_group before rows_for rows run parse_rule
array_n1_semi_c_eq_d = computed array_content _ _ _ refl

-- `.`: nothing is read
postfixes_dot : NotDerived (rule postfixes)
    (punct 46 false (at 0 1) end)
unfolding left is_end lookahead_at sees take_token take_lifetime take_mark take_group before rows_for rows run parse_rule
postfixes_dot = not_read postfixes _ refl

-- `()?` prints `() ?`
postfixes_parens_question : DerivesAs postfixes
    (group Paren (at 0 1) (at 1 2) end (punct 63 false (at 2 3) end))
    (group Paren call_site call_site end (punct 63 false call_site end))
    (end)
unfolding left is_end lookahead_at sees take_token take_lifetime take_mark take_group before rows_for rows run parse_rule
postfixes_parens_question = computed postfixes _ _ _ refl

-- `(a, b)` prints `(a , b)`
postfixes_in_paren_a_comma_b : DerivesAs postfixes
    (group Paren (at 0 1) (at 5 6) (leaf (ident (97 ∷ [])) (at 1 2) (punct 44 false (at 2 3) (leaf (ident (98 ∷ [])) (at 4 5) end))) end)
    (group Paren call_site call_site (leaf (ident (97 ∷ [])) call_site (punct 44 false call_site (leaf (ident (98 ∷ [])) call_site end))) end)
    (end)
unfolding left is_end lookahead_at sees take_token take_lifetime take_mark take_group before rows_for rows run parse_rule
postfixes_in_paren_a_comma_b = computed postfixes _ _ _ refl

-- `(a b)`: nothing is read
postfixes_in_paren_a_b : NotDerived (rule postfixes)
    (group Paren (at 0 1) (at 4 5) (leaf (ident (97 ∷ [])) (at 1 2) (leaf (ident (98 ∷ [])) (at 3 4) end)) end)
unfolding left is_end lookahead_at sees take_token take_lifetime take_mark take_group before rows_for rows run parse_rule
postfixes_in_paren_a_b = not_read postfixes _ refl

-- `[]`: nothing is read
postfixes_brackets : NotDerived (rule postfixes)
    (group Bracket (at 0 1) (at 1 2) end end)
unfolding left is_end lookahead_at sees take_token take_lifetime take_mark take_group before rows_for rows run parse_rule
postfixes_brackets = not_read postfixes _ refl

-- `[a]?` prints `[a] ?`
postfixes_in_bracket_a_question : DerivesAs postfixes
    (group Bracket (at 0 1) (at 2 3) (leaf (ident (97 ∷ [])) (at 1 2) end) (punct 63 false (at 3 4) end))
    (group Bracket call_site call_site (leaf (ident (97 ∷ [])) call_site end) (punct 63 false call_site end))
    (end)
unfolding left is_end lookahead_at sees take_token take_lifetime take_mark take_group before rows_for rows run parse_rule
postfixes_in_bracket_a_question = computed postfixes _ _ _ refl

-- `[a b]`: nothing is read
postfixes_in_bracket_a_b : NotDerived (rule postfixes)
    (group Bracket (at 0 1) (at 4 5) (leaf (ident (97 ∷ [])) (at 1 2) (leaf (ident (98 ∷ [])) (at 3 4) end)) end)
unfolding left is_end lookahead_at sees take_token take_lifetime take_mark take_group before rows_for rows run parse_rule
postfixes_in_bracket_a_b = not_read postfixes _ refl

-- `??` prints `? ?`
postfixes_question_question : DerivesAs postfixes
    (punct 63 true (at 0 1) (punct 63 false (at 1 2) end))
    (punct 63 false call_site (punct 63 false call_site end))
    (end)
unfolding left is_end lookahead_at sees take_token take_lifetime take_mark take_group before rows_for rows run parse_rule
postfixes_question_question = computed postfixes _ _ _ refl

-- `. .a`: nothing is read
postfixes_dot_dot_a : NotDerived (rule postfixes)
    (punct 46 false (at 0 1) (punct 46 false (at 2 3) (leaf (ident (97 ∷ [])) (at 3 4) end)))
unfolding left is_end lookahead_at sees take_token take_lifetime take_mark take_group before rows_for rows run parse_rule
postfixes_dot_dot_a = not_read postfixes _ refl

-- `.0.b` prints `. 0 . b`
postfixes_dot_n0_dot_b : DerivesAs postfixes
    (punct 46 false (at 0 1) (leaf (literal Int (48 ∷ [])) (at 1 2) (punct 46 false (at 2 3) (leaf (ident (98 ∷ [])) (at 3 4) end))))
    (punct 46 false call_site (leaf (literal Int (48 ∷ [])) call_site (punct 46 false call_site (leaf (ident (98 ∷ [])) call_site end))))
    (end)
unfolding left is_end lookahead_at sees take_token take_lifetime take_mark take_group before rows_for rows run parse_rule
postfixes_dot_n0_dot_b = computed postfixes _ _ _ refl

-- `.0 b` prints `. 0` and leaves `b`
postfixes_dot_n0_b : DerivesAs postfixes
    (punct 46 false (at 0 1) (leaf (literal Int (48 ∷ [])) (at 1 2) (leaf (ident (98 ∷ [])) (at 3 4) end)))
    (punct 46 false call_site (leaf (literal Int (48 ∷ [])) call_site end))
    (leaf (ident (98 ∷ [])) (at 3 4) end)
unfolding left is_end lookahead_at sees take_token take_lifetime take_mark take_group before rows_for rows run parse_rule
postfixes_dot_n0_b = computed postfixes _ _ _ refl

-- `{}` prints `` and leaves `{}`
postfixes_braces : DerivesAs postfixes
    (group Brace (at 0 1) (at 1 2) end end)
    (end)
    (group Brace (at 0 1) (at 1 2) end end)
unfolding left is_end lookahead_at sees take_token take_lifetime take_mark take_group before rows_for rows run parse_rule
postfixes_braces = computed postfixes _ _ _ refl

-- `() + a` prints `()` and leaves `+ a`
postfixes_parens_plus_a : DerivesAs postfixes
    (group Paren (at 0 1) (at 1 2) end (punct 43 false (at 3 4) (leaf (ident (97 ∷ [])) (at 5 6) end)))
    (group Paren call_site call_site end end)
    (punct 43 false (at 3 4) (leaf (ident (97 ∷ [])) (at 5 6) end))
unfolding left is_end lookahead_at sees take_token take_lifetime take_mark take_group before rows_for rows run parse_rule
postfixes_parens_plus_a = computed postfixes _ _ _ refl

-- `[a = b]` prints `[a = b]`
postfixes_in_bracket_a_eq_b : DerivesAs postfixes
    (group Bracket (at 0 1) (at 6 7) (leaf (ident (97 ∷ [])) (at 1 2) (punct 61 false (at 3 4) (leaf (ident (98 ∷ [])) (at 5 6) end))) end)
    (group Bracket call_site call_site (leaf (ident (97 ∷ [])) call_site (punct 61 false call_site (leaf (ident (98 ∷ [])) call_site end))) end)
    (end)
unfolding left is_end lookahead_at sees take_token take_lifetime take_mark take_group before rows_for rows run parse_rule
postfixes_in_bracket_a_eq_b = computed postfixes _ _ _ refl

-- `...a` prints `` and leaves `...a`
postfixes_dots_dot_a : DerivesAs postfixes
    (punct 46 true (at 0 1) (punct 46 true (at 1 2) (punct 46 false (at 2 3) (leaf (ident (97 ∷ [])) (at 3 4) end))))
    (end)
    (punct 46 true (at 0 1) (punct 46 true (at 1 2) (punct 46 false (at 2 3) (leaf (ident (97 ∷ [])) (at 3 4) end))))
unfolding left is_end lookahead_at sees take_token take_lifetime take_mark take_group before rows_for rows run parse_rule
postfixes_dots_dot_a = computed postfixes _ _ _ refl

-- `..a` prints `` and leaves `..a`
postfixes_dots_a : DerivesAs postfixes
    (punct 46 true (at 0 1) (punct 46 false (at 1 2) (leaf (ident (97 ∷ [])) (at 2 3) end)))
    (end)
    (punct 46 true (at 0 1) (punct 46 false (at 1 2) (leaf (ident (97 ∷ [])) (at 2 3) end)))
unfolding left is_end lookahead_at sees take_token take_lifetime take_mark take_group before rows_for rows run parse_rule
postfixes_dots_a = computed postfixes _ _ _ refl

-- `.a..b` prints `. a` and leaves `..b`
postfixes_dot_a_dots_b : DerivesAs postfixes
    (punct 46 false (at 0 1) (leaf (ident (97 ∷ [])) (at 1 2) (punct 46 true (at 2 3) (punct 46 false (at 3 4) (leaf (ident (98 ∷ [])) (at 4 5) end)))))
    (punct 46 false call_site (leaf (ident (97 ∷ [])) call_site end))
    (punct 46 true (at 2 3) (punct 46 false (at 3 4) (leaf (ident (98 ∷ [])) (at 4 5) end)))
unfolding left is_end lookahead_at sees take_token take_lifetime take_mark take_group before rows_for rows run parse_rule
postfixes_dot_a_dots_b = computed postfixes _ _ _ refl

-- `0 0` prints `0` and leaves `0`
member_n0_n0 : DerivesAs member
    (leaf (literal Int (48 ∷ [])) (at 0 1) (leaf (literal Int (48 ∷ [])) (at 2 3) end))
    (leaf (literal Int (48 ∷ [])) call_site end)
    (leaf (literal Int (48 ∷ [])) (at 2 3) end)
unfolding left is_end lookahead_at sees take_token take_lifetime take_mark take_group before rows_for rows run parse_rule
member_n0_n0 = computed member _ _ _ refl

-- `a b` prints `a` and leaves `b`
member_a_b : DerivesAs member
    (leaf (ident (97 ∷ [])) (at 0 1) (leaf (ident (98 ∷ [])) (at 2 3) end))
    (leaf (ident (97 ∷ [])) call_site end)
    (leaf (ident (98 ∷ [])) (at 2 3) end)
unfolding left is_end lookahead_at sees take_token take_lifetime take_mark take_group before rows_for rows run parse_rule
member_a_b = computed member _ _ _ refl

-- `a() ()` prints `a ()` and leaves `()`
member_a_parens_parens : DerivesAs member
    (leaf (ident (97 ∷ [])) (at 0 1) (group Paren (at 1 2) (at 2 3) end (group Paren (at 4 5) (at 5 6) end end)))
    (leaf (ident (97 ∷ [])) call_site (group Paren call_site call_site end end))
    (group Paren (at 4 5) (at 5 6) end end)
unfolding left is_end lookahead_at sees take_token take_lifetime take_mark take_group before rows_for rows run parse_rule
member_a_parens_parens = computed member _ _ _ refl

-- `() auto`: nothing is read
member_parens_auto : NotDerived (rule member)
    (group Paren (at 0 1) (at 1 2) end (leaf (ident w_auto) (at 3 7) end))
unfolding left is_end lookahead_at sees take_token take_lifetime take_mark take_group before rows_for rows run parse_rule
member_parens_auto = not_read member _ refl

-- `auto :: :: <> ()`: nothing is read
member_auto_colons_colons_lt_gt_parens : NotDerived (rule member)
    (leaf (ident w_auto) (at 0 4) (punct 58 true (at 5 6) (punct 58 false (at 6 7) (punct 58 true (at 8 9) (punct 58 false (at 9 10) (punct 60 true (at 11 12) (punct 62 false (at 12 13) (group Paren (at 14 15) (at 15 16) end end))))))))
unfolding left is_end lookahead_at sees take_token take_lifetime take_mark take_group before rows_for rows run parse_rule
member_auto_colons_colons_lt_gt_parens = not_read member _ refl

-- `union ::<> :: ()`: nothing is read
member_union_colons_lt_gt_colons_parens : NotDerived (rule member)
    (leaf (ident w_union) (at 0 5) (punct 58 true (at 6 7) (punct 58 true (at 7 8) (punct 60 true (at 8 9) (punct 62 false (at 9 10) (punct 58 true (at 11 12) (punct 58 false (at 12 13) (group Paren (at 14 15) (at 15 16) end end))))))))
unfolding left is_end lookahead_at sees take_token take_lifetime take_mark take_group before rows_for rows run parse_rule
member_union_colons_lt_gt_colons_parens = not_read member _ refl

-- `auto :: < > () ::` prints `auto :: < > ()` and leaves `::`
member_auto_colons_lt_gt_parens_colons : DerivesAs member
    (leaf (ident w_auto) (at 0 4) (punct 58 true (at 5 6) (punct 58 false (at 6 7) (punct 60 false (at 8 9) (punct 62 false (at 10 11) (group Paren (at 12 13) (at 13 14) end (punct 58 true (at 15 16) (punct 58 false (at 16 17) end))))))))
    (leaf (ident w_auto) call_site (punct 58 true call_site (punct 58 false call_site (punct 60 false call_site (punct 62 false call_site (group Paren call_site call_site end end))))))
    (punct 58 true (at 15 16) (punct 58 false (at 16 17) end))
unfolding left is_end lookahead_at sees take_token take_lifetime take_mark take_group before rows_for rows run parse_rule
member_auto_colons_lt_gt_parens_colons = computed member _ _ _ refl

-- `b :: < >< > ()`: nothing is read
member_b_colons_lt_gt_lt_gt_parens : NotDerived (rule member)
    (leaf (ident (98 ∷ [])) (at 0 1) (punct 58 true (at 2 3) (punct 58 false (at 3 4) (punct 60 false (at 5 6) (punct 62 true (at 7 8) (punct 60 false (at 8 9) (punct 62 false (at 10 11) (group Paren (at 12 13) (at 13 14) end end))))))))
unfolding left is_end lookahead_at sees take_token take_lifetime take_mark take_group before rows_for rows run parse_rule
member_b_colons_lt_gt_lt_gt_parens = not_read member _ refl

-- `union :: < > () < >` prints `union :: < > ()` and leaves `< >`
member_union_colons_lt_gt_parens_lt_gt : DerivesAs member
    (leaf (ident w_union) (at 0 5) (punct 58 true (at 6 7) (punct 58 false (at 7 8) (punct 60 false (at 9 10) (punct 62 false (at 11 12) (group Paren (at 13 14) (at 14 15) end (punct 60 false (at 16 17) (punct 62 false (at 18 19) end))))))))
    (leaf (ident w_union) call_site (punct 58 true call_site (punct 58 false call_site (punct 60 false call_site (punct 62 false call_site (group Paren call_site call_site end end))))))
    (punct 60 false (at 16 17) (punct 62 false (at 18 19) end))
unfolding left is_end lookahead_at sees take_token take_lifetime take_mark take_group before rows_for rows run parse_rule
member_union_colons_lt_gt_parens_lt_gt = computed member _ _ _ refl

-- `b :: () < > ()`: nothing is read
member_b_colons_parens_lt_gt_parens : NotDerived (rule member)
    (leaf (ident (98 ∷ [])) (at 0 1) (punct 58 true (at 2 3) (punct 58 false (at 3 4) (group Paren (at 5 6) (at 6 7) end (punct 60 false (at 8 9) (punct 62 false (at 10 11) (group Paren (at 12 13) (at 13 14) end end)))))))
unfolding left is_end lookahead_at sees take_token take_lifetime take_mark take_group before rows_for rows run parse_rule
member_b_colons_parens_lt_gt_parens = not_read member _ refl

-- `a :: < > () ()` prints `a :: < > ()` and leaves `()`
member_a_colons_lt_gt_parens_parens : DerivesAs member
    (leaf (ident (97 ∷ [])) (at 0 1) (punct 58 true (at 2 3) (punct 58 false (at 3 4) (punct 60 false (at 5 6) (punct 62 false (at 7 8) (group Paren (at 9 10) (at 10 11) end (group Paren (at 12 13) (at 13 14) end end)))))))
    (leaf (ident (97 ∷ [])) call_site (punct 58 true call_site (punct 58 false call_site (punct 60 false call_site (punct 62 false call_site (group Paren call_site call_site end end))))))
    (group Paren (at 12 13) (at 13 14) end end)
unfolding left is_end lookahead_at sees take_token take_lifetime take_mark take_group before rows_for rows run parse_rule
member_a_colons_lt_gt_parens_parens = computed member _ _ _ refl

-- `auto :: < > (return)` prints `auto :: < > (return)`
member_auto_colons_lt_gt_in_paren_return : DerivesAs member
    (leaf (ident w_auto) (at 0 4) (punct 58 true (at 5 6) (punct 58 false (at 6 7) (punct 60 false (at 8 9) (punct 62 false (at 10 11) (group Paren (at 12 13) (at 19 20) (leaf (ident w_return) (at 13 19) end) end))))))
    (leaf (ident w_auto) call_site (punct 58 true call_site (punct 58 false call_site (punct 60 false call_site (punct 62 false call_site (group Paren call_site call_site (leaf (ident w_return) call_site end) end))))))
    (end)
unfolding left is_end lookahead_at sees take_token take_lifetime take_mark take_group before rows_for rows run parse_rule
member_auto_colons_lt_gt_in_paren_return = computed member _ _ _ refl

-- `a::<T>(b c)`: nothing is read
member_a_colons_lt_T_gt_in_paren_b_c : NotDerived (rule member)
    (leaf (ident (97 ∷ [])) (at 0 1) (punct 58 true (at 1 2) (punct 58 true (at 2 3) (punct 60 false (at 3 4) (leaf (ident (84 ∷ [])) (at 4 5) (punct 62 false (at 5 6) (group Paren (at 6 7) (at 10 11) (leaf (ident (98 ∷ [])) (at 7 8) (leaf (ident (99 ∷ [])) (at 9 10) end)) end)))))))
unfolding left is_end lookahead_at sees take_token take_lifetime take_mark take_group before rows_for rows run parse_rule
member_a_colons_lt_T_gt_in_paren_b_c = not_read member _ refl

-- `a(b)` prints `a (b)`
member_a_in_paren_b : DerivesAs member
    (leaf (ident (97 ∷ [])) (at 0 1) (group Paren (at 1 2) (at 3 4) (leaf (ident (98 ∷ [])) (at 2 3) end) end))
    (leaf (ident (97 ∷ [])) call_site (group Paren call_site call_site (leaf (ident (98 ∷ [])) call_site end) end))
    (end)
unfolding left is_end lookahead_at sees take_token take_lifetime take_mark take_group before rows_for rows run parse_rule
member_a_in_paren_b = computed member _ _ _ refl

-- `a(b c)`: nothing is read
member_a_in_paren_b_c : NotDerived (rule member)
    (leaf (ident (97 ∷ [])) (at 0 1) (group Paren (at 1 2) (at 5 6) (leaf (ident (98 ∷ [])) (at 2 3) (leaf (ident (99 ∷ [])) (at 4 5) end)) end))
unfolding left is_end lookahead_at sees take_token take_lifetime take_mark take_group before rows_for rows run parse_rule
member_a_in_paren_b_c = not_read member _ refl

-- `a:` prints `a` and leaves `:`
member_a_colon : DerivesAs member
    (leaf (ident (97 ∷ [])) (at 0 1) (punct 58 false (at 1 2) end))
    (leaf (ident (97 ∷ [])) call_site end)
    (punct 58 false (at 1 2) end)
unfolding left is_end lookahead_at sees take_token take_lifetime take_mark take_group before rows_for rows run parse_rule
member_a_colon = computed member _ _ _ refl

-- `a{}` prints `a` and leaves `{}`
member_a_braces : DerivesAs member
    (leaf (ident (97 ∷ [])) (at 0 1) (group Brace (at 1 2) (at 2 3) end end))
    (leaf (ident (97 ∷ [])) call_site end)
    (group Brace (at 1 2) (at 2 3) end end)
unfolding left is_end lookahead_at sees take_token take_lifetime take_mark take_group before rows_for rows run parse_rule
member_a_braces = computed member _ _ _ refl

-- `a[]` prints `a` and leaves `[]`
member_a_brackets : DerivesAs member
    (leaf (ident (97 ∷ [])) (at 0 1) (group Bracket (at 1 2) (at 2 3) end end))
    (leaf (ident (97 ∷ [])) call_site end)
    (group Bracket (at 1 2) (at 2 3) end end)
unfolding left is_end lookahead_at sees take_token take_lifetime take_mark take_group before rows_for rows run parse_rule
member_a_brackets = computed member _ _ _ refl

-- `b . < > ()` prints `b` and leaves `. < > ()`
member_b_dot_lt_gt_parens : DerivesAs member
    (leaf (ident (98 ∷ [])) (at 0 1) (punct 46 false (at 2 3) (punct 60 false (at 4 5) (punct 62 false (at 6 7) (group Paren (at 8 9) (at 9 10) end end)))))
    (leaf (ident (98 ∷ [])) call_site end)
    (punct 46 false (at 2 3) (punct 60 false (at 4 5) (punct 62 false (at 6 7) (group Paren (at 8 9) (at 9 10) end end))))
unfolding left is_end lookahead_at sees take_token take_lifetime take_mark take_group before rows_for rows run parse_rule
member_b_dot_lt_gt_parens = computed member _ _ _ refl

-- `_`: nothing is read
member_underscore : NotDerived (rule member)
    (leaf (ident w_underscore) (at 0 1) end)
unfolding left is_end lookahead_at sees take_token take_lifetime take_mark take_group before rows_for rows run parse_rule
member_underscore = not_read member _ refl

-- `self`: nothing is read
member_self : NotDerived (rule member)
    (leaf (ident w_self) (at 0 4) end)
unfolding left is_end lookahead_at sees take_token take_lifetime take_mark take_group before rows_for rows run parse_rule
member_self = not_read member _ refl

-- `Self`: nothing is read
member_Self : NotDerived (rule member)
    (leaf (ident w_Self_type) (at 0 4) end)
unfolding left is_end lookahead_at sees take_token take_lifetime take_mark take_group before rows_for rows run parse_rule
member_Self = not_read member _ refl

-- `super`: nothing is read
member_super : NotDerived (rule member)
    (leaf (ident w_super) (at 0 5) end)
unfolding left is_end lookahead_at sees take_token take_lifetime take_mark take_group before rows_for rows run parse_rule
member_super = not_read member _ refl

-- `crate`: nothing is read
member_crate : NotDerived (rule member)
    (leaf (ident w_crate) (at 0 5) end)
unfolding left is_end lookahead_at sees take_token take_lifetime take_mark take_group before rows_for rows run parse_rule
member_crate = not_read member _ refl

-- `fn`: nothing is read
member_fn : NotDerived (rule member)
    (leaf (ident w_fn) (at 0 2) end)
unfolding left is_end lookahead_at sees take_token take_lifetime take_mark take_group before rows_for rows run parse_rule
member_fn = not_read member _ refl

-- `default` prints `default`
member_default : DerivesAs member
    (leaf (ident w_default) (at 0 7) end)
    (leaf (ident w_default) call_site end)
    (end)
unfolding left is_end lookahead_at sees take_token take_lifetime take_mark take_group before rows_for rows run parse_rule
member_default = computed member _ _ _ refl

-- `safe` prints `safe`
member_safe : DerivesAs member
    (leaf (ident w_safe) (at 0 4) end)
    (leaf (ident w_safe) call_site end)
    (end)
unfolding left is_end lookahead_at sees take_token take_lifetime take_mark take_group before rows_for rows run parse_rule
member_safe = computed member _ _ _ refl

-- `"s"`: nothing is read
member_str : NotDerived (rule member)
    (leaf (literal Str (34 ∷ 115 ∷ 34 ∷ [])) (at 0 3) end)
unfolding left is_end lookahead_at sees take_token take_lifetime take_mark take_group before rows_for rows run parse_rule
member_str = not_read member _ refl

-- `!`: nothing is read
unary_bang : NotDerived (rule unary)
    (punct 33 false (at 0 1) end)
unfolding left is_end lookahead_at sees take_token take_lifetime take_mark take_group before rows_for rows run parse_rule
unary_bang = not_read unary _ refl

-- `#[a] 1` prints `# [a] 1`
unary_pound_in_bracket_a_n1 : DerivesAs unary
    (punct 35 false (at 0 1) (group Bracket (at 1 2) (at 3 4) (leaf (ident (97 ∷ [])) (at 2 3) end) (leaf (literal Int (49 ∷ [])) (at 5 6) end)))
    (punct 35 false call_site (group Bracket call_site call_site (leaf (ident (97 ∷ [])) call_site end) (leaf (literal Int (49 ∷ [])) call_site end)))
    (end)
unfolding left is_end lookahead_at sees take_token take_lifetime take_mark take_group before rows_for rows run parse_rule
unary_pound_in_bracket_a_n1 = computed unary _ _ _ refl

-- `a #[b]` prints `a` and leaves `# [b]`
unary_a_pound_in_bracket_b : DerivesAs unary
    (leaf (ident (97 ∷ [])) (at 0 1) (punct 35 false (at 2 3) (group Bracket (at 3 4) (at 5 6) (leaf (ident (98 ∷ [])) (at 4 5) end) end)))
    (leaf (ident (97 ∷ [])) call_site end)
    (punct 35 false (at 2 3) (group Bracket (at 3 4) (at 5 6) (leaf (ident (98 ∷ [])) (at 4 5) end) end))
unfolding left is_end lookahead_at sees take_token take_lifetime take_mark take_group before rows_for rows run parse_rule
unary_a_pound_in_bracket_b = computed unary _ _ _ refl

-- `-`: nothing is read
unary_minus : NotDerived (rule unary)
    (punct 45 false (at 0 1) end)
unfolding left is_end lookahead_at sees take_token take_lifetime take_mark take_group before rows_for rows run parse_rule
unary_minus = not_read unary _ refl

-- `- a -` prints `- a` and leaves `-`
unary_minus_a_minus : DerivesAs unary
    (punct 45 false (at 0 1) (leaf (ident (97 ∷ [])) (at 2 3) (punct 45 false (at 4 5) end)))
    (punct 45 false call_site (leaf (ident (97 ∷ [])) call_site end))
    (punct 45 false (at 4 5) end)
unfolding left is_end lookahead_at sees take_token take_lifetime take_mark take_group before rows_for rows run parse_rule
unary_minus_a_minus = computed unary _ _ _ refl

-- `! a -` prints `! a` and leaves `-`
unary_bang_a_minus : DerivesAs unary
    (punct 33 false (at 0 1) (leaf (ident (97 ∷ [])) (at 2 3) (punct 45 false (at 4 5) end)))
    (punct 33 false call_site (leaf (ident (97 ∷ [])) call_site end))
    (punct 45 false (at 4 5) end)
unfolding left is_end lookahead_at sees take_token take_lifetime take_mark take_group before rows_for rows run parse_rule
unary_bang_a_minus = computed unary _ _ _ refl

-- `*`: nothing is read
unary_star : NotDerived (rule unary)
    (punct 42 false (at 0 1) end)
unfolding left is_end lookahead_at sees take_token take_lifetime take_mark take_group before rows_for rows run parse_rule
unary_star = not_read unary _ refl

-- `&* a *!` prints `& * a` and leaves `*!`
unary_amp_star_a_star_bang : DerivesAs unary
    (punct 38 true (at 0 1) (punct 42 false (at 1 2) (leaf (ident (97 ∷ [])) (at 3 4) (punct 42 true (at 5 6) (punct 33 false (at 6 7) end)))))
    (punct 38 false call_site (punct 42 false call_site (leaf (ident (97 ∷ [])) call_site end)))
    (punct 42 true (at 5 6) (punct 33 false (at 6 7) end))
unfolding left is_end lookahead_at sees take_token take_lifetime take_mark take_group before rows_for rows run parse_rule
unary_amp_star_a_star_bang = computed unary _ _ _ refl

-- `a b` prints `a` and leaves `b`
unary_a_b : DerivesAs unary
    (leaf (ident (97 ∷ [])) (at 0 1) (leaf (ident (98 ∷ [])) (at 2 3) end))
    (leaf (ident (97 ∷ [])) call_site end)
    (leaf (ident (98 ∷ [])) (at 2 3) end)
unfolding left is_end lookahead_at sees take_token take_lifetime take_mark take_group before rows_for rows run parse_rule
unary_a_b = computed unary _ _ _ refl

-- `& a & mut` prints `& a` and leaves `& mut`
unary_amp_a_amp_mut : DerivesAs unary
    (punct 38 false (at 0 1) (leaf (ident (97 ∷ [])) (at 2 3) (punct 38 false (at 4 5) (leaf (ident w_mut) (at 6 9) end))))
    (punct 38 false call_site (leaf (ident (97 ∷ [])) call_site end))
    (punct 38 false (at 4 5) (leaf (ident w_mut) (at 6 9) end))
unfolding left is_end lookahead_at sees take_token take_lifetime take_mark take_group before rows_for rows run parse_rule
unary_amp_a_amp_mut = computed unary _ _ _ refl

-- `& &mut a` prints `& & mut a`
unary_amp_amp_mut_a : DerivesAs unary
    (punct 38 false (at 0 1) (punct 38 false (at 2 3) (leaf (ident w_mut) (at 3 6) (leaf (ident (97 ∷ [])) (at 7 8) end))))
    (punct 38 false call_site (punct 38 false call_site (leaf (ident w_mut) call_site (leaf (ident (97 ∷ [])) call_site end))))
    (end)
unfolding left is_end lookahead_at sees take_token take_lifetime take_mark take_group before rows_for rows run parse_rule
unary_amp_amp_mut_a = computed unary _ _ _ refl

-- `&mut mut a`: nothing is read
unary_amp_mut_mut_a : NotDerived (rule unary)
    (punct 38 false (at 0 1) (leaf (ident w_mut) (at 1 4) (leaf (ident w_mut) (at 5 8) (leaf (ident (97 ∷ [])) (at 9 10) end))))
unfolding left is_end lookahead_at sees take_token take_lifetime take_mark take_group before rows_for rows run parse_rule
unary_amp_mut_mut_a = not_read unary _ refl

-- `& 1 mut` prints `& 1` and leaves `mut`
unary_amp_n1_mut : DerivesAs unary
    (punct 38 false (at 0 1) (leaf (literal Int (49 ∷ [])) (at 2 3) (leaf (ident w_mut) (at 4 7) end)))
    (punct 38 false call_site (leaf (literal Int (49 ∷ [])) call_site end))
    (leaf (ident w_mut) (at 4 7) end)
unfolding left is_end lookahead_at sees take_token take_lifetime take_mark take_group before rows_for rows run parse_rule
unary_amp_n1_mut = computed unary _ _ _ refl

-- `()` prints `()`
unary_parens : DerivesAs unary
    (group Paren (at 0 1) (at 1 2) end end)
    (group Paren call_site call_site end end)
    (end)
unfolding left is_end lookahead_at sees take_token take_lifetime take_mark take_group before rows_for rows run parse_rule
unary_parens = computed unary _ _ _ refl

-- `a?` prints `a ?`
unary_a_question : DerivesAs unary
    (leaf (ident (97 ∷ [])) (at 0 1) (punct 63 false (at 1 2) end))
    (leaf (ident (97 ∷ [])) call_site (punct 63 false call_site end))
    (end)
unfolding left is_end lookahead_at sees take_token take_lifetime take_mark take_group before rows_for rows run parse_rule
unary_a_question = computed unary _ _ _ refl

-- `-! 1` prints `- ! 1`
unary_minus_bang_n1 : DerivesAs unary
    (punct 45 true (at 0 1) (punct 33 false (at 1 2) (leaf (literal Int (49 ∷ [])) (at 3 4) end)))
    (punct 45 false call_site (punct 33 false call_site (leaf (literal Int (49 ∷ [])) call_site end)))
    (end)
unfolding left is_end lookahead_at sees take_token take_lifetime take_mark take_group before rows_for rows run parse_rule
unary_minus_bang_n1 = computed unary _ _ _ refl

-- `! ! a` prints `! ! a`
unary_bang_bang_a : DerivesAs unary
    (punct 33 false (at 0 1) (punct 33 false (at 2 3) (leaf (ident (97 ∷ [])) (at 4 5) end)))
    (punct 33 false call_site (punct 33 false call_site (leaf (ident (97 ∷ [])) call_site end)))
    (end)
unfolding left is_end lookahead_at sees take_token take_lifetime take_mark take_group before rows_for rows run parse_rule
unary_bang_bang_a = computed unary _ _ _ refl

-- `* * a` prints `* * a`
unary_star_star_a : DerivesAs unary
    (punct 42 false (at 0 1) (punct 42 false (at 2 3) (leaf (ident (97 ∷ [])) (at 4 5) end)))
    (punct 42 false call_site (punct 42 false call_site (leaf (ident (97 ∷ [])) call_site end)))
    (end)
unfolding left is_end lookahead_at sees take_token take_lifetime take_mark take_group before rows_for rows run parse_rule
unary_star_star_a = computed unary _ _ _ refl

-- `!1 !` prints `! 1` and leaves `!`
unary_bang_n1_bang : DerivesAs unary
    (punct 33 false (at 0 1) (leaf (literal Int (49 ∷ [])) (at 1 2) (punct 33 false (at 3 4) end)))
    (punct 33 false call_site (leaf (literal Int (49 ∷ [])) call_site end))
    (punct 33 false (at 3 4) end)
unfolding left is_end lookahead_at sees take_token take_lifetime take_mark take_group before rows_for rows run parse_rule
unary_bang_n1_bang = computed unary _ _ _ refl

-- `!1 !a` prints `! 1` and leaves `! a`
unary_bang_n1_bang_a : DerivesAs unary
    (punct 33 false (at 0 1) (leaf (literal Int (49 ∷ [])) (at 1 2) (punct 33 false (at 3 4) (leaf (ident (97 ∷ [])) (at 4 5) end))))
    (punct 33 false call_site (leaf (literal Int (49 ∷ [])) call_site end))
    (punct 33 false (at 3 4) (leaf (ident (97 ∷ [])) (at 4 5) end))
unfolding left is_end lookahead_at sees take_token take_lifetime take_mark take_group before rows_for rows run parse_rule
unary_bang_n1_bang_a = computed unary _ _ _ refl
