-- Written by tools/grammar.py from specs/Table.antt; edits are lost.
-- Worked examples of blocks and statements, from tools/examples.txt: what each rule reads, prints and refuses. The checker computes each.
use Rattle.std.proofs.Common.{true, false, [], ◌∷◌, refl}
use Rattle.syn_grammar.specs.Words.{w_underscore, w_break, w_continue, w_crate, w_else, w_false, w_for, w_if, w_in, w_let, w_loop, w_mut, w_pub, w_return, w_Self_type, w_self, w_super, w_true, w_unsafe, w_while, w_union, w_auto, w_safe}
use Rattle.syn_grammar.specs.Tokens.{call_site, Paren, Brace, Bracket, Str, ByteStr, Byte, Char, Int, ident, literal, end, leaf, punct, group}
use Rattle.syn_grammar.specs.Rules.{block, body, plain_body, no_inner_attributes, block_like, if_expression, loop_expression, statements, statement_rest, after_block, after_expression, statement, statement_end, local}
use Rattle.syn_grammar.specs.Grammar.{rule}
use Rattle.syn_grammar.specs.Take.{left, is_end, lookahead_at, sees, take_token, take_lifetime, take_mark, take_group, before, first_span}
use Rattle.syn_grammar.specs.Run.{rows_for, rows, run, parse_rule}
use Rattle.syn_grammar.specs.Promises.{NotDerived}
use Rattle.syn_grammar.proofs.Shown.{at, DerivesAs, computed, not_read}

-- `{} {}` prints `{}` and leaves `{}`
block_braces_braces : DerivesAs block
    (group Brace (at 0 1) (at 1 2) end (group Brace (at 3 4) (at 4 5) end end))
    (group Brace call_site call_site end end)
    (group Brace (at 3 4) (at 4 5) end end)
unfolding left is_end lookahead_at sees take_token take_lifetime take_mark take_group before rows_for rows run parse_rule
block_braces_braces = computed block _ _ _ refl

-- `{1}` prints `{1}`
block_in_brace_n1 : DerivesAs block
    (group Brace (at 0 1) (at 2 3) (leaf (literal Int (49 ∷ [])) (at 1 2) end) end)
    (group Brace call_site call_site (leaf (literal Int (49 ∷ [])) call_site end) end)
    (end)
unfolding left is_end lookahead_at sees take_token take_lifetime take_mark take_group before rows_for rows run parse_rule
block_in_brace_n1 = computed block _ _ _ refl

-- `{!}`: nothing is read
block_in_brace_bang : NotDerived (rule block)
    (group Brace (at 0 1) (at 2 3) (punct 33 false (at 1 2) end) end)
unfolding left is_end lookahead_at sees take_token take_lifetime take_mark take_group before rows_for rows run parse_rule
block_in_brace_bang = not_read block _ refl

-- `()`: nothing is read
block_parens : NotDerived (rule block)
    (group Paren (at 0 1) (at 1 2) end end)
unfolding left is_end lookahead_at sees take_token take_lifetime take_mark take_group before rows_for rows run parse_rule
block_parens = not_read block _ refl

-- `[]`: nothing is read
block_brackets : NotDerived (rule block)
    (group Bracket (at 0 1) (at 1 2) end end)
unfolding left is_end lookahead_at sees take_token take_lifetime take_mark take_group before rows_for rows run parse_rule
block_brackets = not_read block _ refl

-- `{} {}` prints `{}` and leaves `{}`
body_braces_braces : DerivesAs body
    (group Brace (at 0 1) (at 1 2) end (group Brace (at 3 4) (at 4 5) end end))
    (group Brace call_site call_site end end)
    (group Brace (at 3 4) (at 4 5) end end)
unfolding left is_end lookahead_at sees take_token take_lifetime take_mark take_group before rows_for rows run parse_rule
body_braces_braces = computed body _ _ _ refl

-- `{#![a]}` prints `{# ! [a]}`
body_in_brace_pound_bang_in_bracket_a : DerivesAs body
    (group Brace (at 0 1) (at 6 7) (punct 35 true (at 1 2) (punct 33 false (at 2 3) (group Bracket (at 3 4) (at 5 6) (leaf (ident (97 ∷ [])) (at 4 5) end) end))) end)
    (group Brace call_site call_site (punct 35 false call_site (punct 33 false call_site (group Bracket call_site call_site (leaf (ident (97 ∷ [])) call_site end) end))) end)
    (end)
unfolding left is_end lookahead_at sees take_token take_lifetime take_mark take_group before rows_for rows run parse_rule
body_in_brace_pound_bang_in_bracket_a = computed body _ _ _ refl

-- `{1}` prints `{1}`
body_in_brace_n1 : DerivesAs body
    (group Brace (at 0 1) (at 2 3) (leaf (literal Int (49 ∷ [])) (at 1 2) end) end)
    (group Brace call_site call_site (leaf (literal Int (49 ∷ [])) call_site end) end)
    (end)
unfolding left is_end lookahead_at sees take_token take_lifetime take_mark take_group before rows_for rows run parse_rule
body_in_brace_n1 = computed body _ _ _ refl

-- `()`: nothing is read
body_parens : NotDerived (rule body)
    (group Paren (at 0 1) (at 1 2) end end)
unfolding left is_end lookahead_at sees take_token take_lifetime take_mark take_group before rows_for rows run parse_rule
body_parens = not_read body _ refl

-- `[]`: nothing is read
body_brackets : NotDerived (rule body)
    (group Bracket (at 0 1) (at 1 2) end end)
unfolding left is_end lookahead_at sees take_token take_lifetime take_mark take_group before rows_for rows run parse_rule
body_brackets = not_read body _ refl

-- `{} {}` prints `{}` and leaves `{}`
plain_body_braces_braces : DerivesAs plain_body
    (group Brace (at 0 1) (at 1 2) end (group Brace (at 3 4) (at 4 5) end end))
    (group Brace call_site call_site end end)
    (group Brace (at 3 4) (at 4 5) end end)
unfolding left is_end lookahead_at sees take_token take_lifetime take_mark take_group before rows_for rows run parse_rule
plain_body_braces_braces = computed plain_body _ _ _ refl

-- `{1}` prints `{1}`
plain_body_in_brace_n1 : DerivesAs plain_body
    (group Brace (at 0 1) (at 2 3) (leaf (literal Int (49 ∷ [])) (at 1 2) end) end)
    (group Brace call_site call_site (leaf (literal Int (49 ∷ [])) call_site end) end)
    (end)
unfolding left is_end lookahead_at sees take_token take_lifetime take_mark take_group before rows_for rows run parse_rule
plain_body_in_brace_n1 = computed plain_body _ _ _ refl

-- `{!}`: nothing is read
plain_body_in_brace_bang : NotDerived (rule plain_body)
    (group Brace (at 0 1) (at 2 3) (punct 33 false (at 1 2) end) end)
unfolding left is_end lookahead_at sees take_token take_lifetime take_mark take_group before rows_for rows run parse_rule
plain_body_in_brace_bang = not_read plain_body _ refl

-- `()`: nothing is read
plain_body_parens : NotDerived (rule plain_body)
    (group Paren (at 0 1) (at 1 2) end end)
unfolding left is_end lookahead_at sees take_token take_lifetime take_mark take_group before rows_for rows run parse_rule
plain_body_parens = not_read plain_body _ refl

-- `[]`: nothing is read
plain_body_brackets : NotDerived (rule plain_body)
    (group Bracket (at 0 1) (at 1 2) end end)
unfolding left is_end lookahead_at sees take_token take_lifetime take_mark take_group before rows_for rows run parse_rule
plain_body_brackets = not_read plain_body _ refl

-- `#![a]`: nothing is read
no_inner_pound_bang_in_bracket_a : NotDerived (rule no_inner_attributes)
    (punct 35 true (at 0 1) (punct 33 false (at 1 2) (group Bracket (at 2 3) (at 4 5) (leaf (ident (97 ∷ [])) (at 3 4) end) end)))
unfolding left is_end lookahead_at sees take_token take_lifetime take_mark take_group before rows_for rows run parse_rule
no_inner_pound_bang_in_bracket_a = not_read no_inner_attributes _ refl

-- `#` prints `` and leaves `#`
no_inner_pound : DerivesAs no_inner_attributes
    (punct 35 false (at 0 1) end)
    (end)
    (punct 35 false (at 0 1) end)
unfolding left is_end lookahead_at sees take_token take_lifetime take_mark take_group before rows_for rows run parse_rule
no_inner_pound = computed no_inner_attributes _ _ _ refl

-- `{} {}` prints `{}` and leaves `{}`
block_like_braces_braces : DerivesAs block_like
    (group Brace (at 0 1) (at 1 2) end (group Brace (at 3 4) (at 4 5) end end))
    (group Brace call_site call_site end end)
    (group Brace (at 3 4) (at 4 5) end end)
unfolding left is_end lookahead_at sees take_token take_lifetime take_mark take_group before rows_for rows run parse_rule
block_like_braces_braces = computed block_like _ _ _ refl

-- `if false {super} if break {pub}` prints `if false {super}` and leaves `if break {pub}`
block_like_if_false_in_brace_super_if_break : DerivesAs block_like
    (leaf (ident w_if) (at 0 2) (leaf (ident w_false) (at 3 8) (group Brace (at 9 10) (at 15 16) (leaf (ident w_super) (at 10 15) end) (leaf (ident w_if) (at 17 19) (leaf (ident w_break) (at 20 25) (group Brace (at 26 27) (at 30 31) (leaf (ident w_pub) (at 27 30) end) end))))))
    (leaf (ident w_if) call_site (leaf (ident w_false) call_site (group Brace call_site call_site (leaf (ident w_super) call_site end) end)))
    (leaf (ident w_if) (at 17 19) (leaf (ident w_break) (at 20 25) (group Brace (at 26 27) (at 30 31) (leaf (ident w_pub) (at 27 30) end) end)))
unfolding left is_end lookahead_at sees take_token take_lifetime take_mark take_group before rows_for rows run parse_rule
block_like_if_false_in_brace_super_if_break = computed block_like _ _ _ refl

-- `unsafe {return} unsafe` prints `unsafe {return}` and leaves `unsafe`
block_like_unsafe_in_brace_return_unsafe : DerivesAs block_like
    (leaf (ident w_unsafe) (at 0 6) (group Brace (at 7 8) (at 14 15) (leaf (ident w_return) (at 8 14) end) (leaf (ident w_unsafe) (at 16 22) end)))
    (leaf (ident w_unsafe) call_site (group Brace call_site call_site (leaf (ident w_return) call_site end) end))
    (leaf (ident w_unsafe) (at 16 22) end)
unfolding left is_end lookahead_at sees take_token take_lifetime take_mark take_group before rows_for rows run parse_rule
block_like_unsafe_in_brace_return_unsafe = computed block_like _ _ _ refl

-- `unsafe unsafe {}`: nothing is read
block_like_unsafe_unsafe_braces : NotDerived (rule block_like)
    (leaf (ident w_unsafe) (at 0 6) (leaf (ident w_unsafe) (at 7 13) (group Brace (at 14 15) (at 15 16) end end)))
unfolding left is_end lookahead_at sees take_token take_lifetime take_mark take_group before rows_for rows run parse_rule
block_like_unsafe_unsafe_braces = not_read block_like _ refl

-- `unsafe {} {}` prints `unsafe {}` and leaves `{}`
block_like_unsafe_braces_braces : DerivesAs block_like
    (leaf (ident w_unsafe) (at 0 6) (group Brace (at 7 8) (at 8 9) end (group Brace (at 10 11) (at 11 12) end end)))
    (leaf (ident w_unsafe) call_site (group Brace call_site call_site end end))
    (group Brace (at 10 11) (at 11 12) end end)
unfolding left is_end lookahead_at sees take_token take_lifetime take_mark take_group before rows_for rows run parse_rule
block_like_unsafe_braces_braces = computed block_like _ _ _ refl

-- `'a : 'b : loop {}`: nothing is read
block_like_tick_a_colon_tick_b_colon_loop_br : NotDerived (rule block_like)
    (punct 39 true (at 0 1) (leaf (ident (97 ∷ [])) (at 1 2) (punct 58 false (at 3 4) (punct 39 true (at 5 6) (leaf (ident (98 ∷ [])) (at 6 7) (punct 58 false (at 8 9) (leaf (ident w_loop) (at 10 14) (group Brace (at 15 16) (at 16 17) end end))))))))
unfolding left is_end lookahead_at sees take_token take_lifetime take_mark take_group before rows_for rows run parse_rule
block_like_tick_a_colon_tick_b_colon_loop_br = not_read block_like _ refl

-- `loop {} '_ :` prints `loop {}` and leaves `'_ :`
block_like_loop_braces_tick_underscore_colon : DerivesAs block_like
    (leaf (ident w_loop) (at 0 4) (group Brace (at 5 6) (at 6 7) end (punct 39 true (at 8 9) (leaf (ident w_underscore) (at 9 10) (punct 58 false (at 11 12) end)))))
    (leaf (ident w_loop) call_site (group Brace call_site call_site end end))
    (punct 39 true (at 8 9) (leaf (ident w_underscore) (at 9 10) (punct 58 false (at 11 12) end)))
unfolding left is_end lookahead_at sees take_token take_lifetime take_mark take_group before rows_for rows run parse_rule
block_like_loop_braces_tick_underscore_colon = computed block_like _ _ _ refl

-- `'a 'a : {}`: nothing is read
block_like_tick_a_tick_a_colon_braces : NotDerived (rule block_like)
    (punct 39 true (at 0 1) (leaf (ident (97 ∷ [])) (at 1 2) (punct 39 true (at 3 4) (leaf (ident (97 ∷ [])) (at 4 5) (punct 58 false (at 6 7) (group Brace (at 8 9) (at 9 10) end end))))))
unfolding left is_end lookahead_at sees take_token take_lifetime take_mark take_group before rows_for rows run parse_rule
block_like_tick_a_tick_a_colon_braces = not_read block_like _ refl

-- `'b : '_ {}`: nothing is read
block_like_tick_b_colon_tick_underscore_brac : NotDerived (rule block_like)
    (punct 39 true (at 0 1) (leaf (ident (98 ∷ [])) (at 1 2) (punct 58 false (at 3 4) (punct 39 true (at 5 6) (leaf (ident w_underscore) (at 6 7) (group Brace (at 8 9) (at 9 10) end end))))))
unfolding left is_end lookahead_at sees take_token take_lifetime take_mark take_group before rows_for rows run parse_rule
block_like_tick_b_colon_tick_underscore_brac = not_read block_like _ refl

-- `'a loop {}`: nothing is read
block_like_tick_a_loop_braces : NotDerived (rule block_like)
    (punct 39 true (at 0 1) (leaf (ident (97 ∷ [])) (at 1 2) (leaf (ident w_loop) (at 3 7) (group Brace (at 8 9) (at 9 10) end end))))
unfolding left is_end lookahead_at sees take_token take_lifetime take_mark take_group before rows_for rows run parse_rule
block_like_tick_a_loop_braces = not_read block_like _ refl

-- `'mut :: for () in false {super}`: nothing is read
block_like_tick_mut_colons_for_parens_in_fal : NotDerived (rule block_like)
    (punct 39 true (at 0 1) (leaf (ident w_mut) (at 1 4) (punct 58 true (at 5 6) (punct 58 false (at 6 7) (leaf (ident w_for) (at 8 11) (group Paren (at 12 13) (at 13 14) end (leaf (ident w_in) (at 15 17) (leaf (ident w_false) (at 18 23) (group Brace (at 24 25) (at 30 31) (leaf (ident w_super) (at 25 30) end) end)))))))))
unfolding left is_end lookahead_at sees take_token take_lifetime take_mark take_group before rows_for rows run parse_rule
block_like_tick_mut_colons_for_parens_in_fal = not_read block_like _ refl

-- `'a : loop {} loop {}` prints `'a : loop {}` and leaves `loop {}`
block_like_tick_a_colon_loop_braces_loop_bra : DerivesAs block_like
    (punct 39 true (at 0 1) (leaf (ident (97 ∷ [])) (at 1 2) (punct 58 false (at 3 4) (leaf (ident w_loop) (at 5 9) (group Brace (at 10 11) (at 11 12) end (leaf (ident w_loop) (at 13 17) (group Brace (at 18 19) (at 19 20) end end)))))))
    (punct 39 true call_site (leaf (ident (97 ∷ [])) call_site (punct 58 false call_site (leaf (ident w_loop) call_site (group Brace call_site call_site end end)))))
    (leaf (ident w_loop) (at 13 17) (group Brace (at 18 19) (at 19 20) end end))
unfolding left is_end lookahead_at sees take_token take_lifetime take_mark take_group before rows_for rows run parse_rule
block_like_tick_a_colon_loop_braces_loop_bra = computed block_like _ _ _ refl

-- `_ {}`: nothing is read
block_like_underscore_braces : NotDerived (rule block_like)
    (leaf (ident w_underscore) (at 0 1) (group Brace (at 2 3) (at 3 4) end end))
unfolding left is_end lookahead_at sees take_token take_lifetime take_mark take_group before rows_for rows run parse_rule
block_like_underscore_braces = not_read block_like _ refl

-- `'b = {}`: nothing is read
block_like_tick_b_eq_braces : NotDerived (rule block_like)
    (punct 39 true (at 0 1) (leaf (ident (98 ∷ [])) (at 1 2) (punct 61 false (at 3 4) (group Brace (at 5 6) (at 6 7) end end))))
unfolding left is_end lookahead_at sees take_token take_lifetime take_mark take_group before rows_for rows run parse_rule
block_like_tick_b_eq_braces = not_read block_like _ refl

-- `a {}`: nothing is read
if_expr_a_braces : NotDerived (rule if_expression)
    (leaf (ident (97 ∷ [])) (at 0 1) (group Brace (at 2 3) (at 3 4) end end))
unfolding left is_end lookahead_at sees take_token take_lifetime take_mark take_group before rows_for rows run parse_rule
if_expr_a_braces = not_read if_expression _ refl

-- `if a {} if b {}` prints `if a {}` and leaves `if b {}`
if_expr_if_a_braces_if_b_braces : DerivesAs if_expression
    (leaf (ident w_if) (at 0 2) (leaf (ident (97 ∷ [])) (at 3 4) (group Brace (at 5 6) (at 6 7) end (leaf (ident w_if) (at 8 10) (leaf (ident (98 ∷ [])) (at 11 12) (group Brace (at 13 14) (at 14 15) end end))))))
    (leaf (ident w_if) call_site (leaf (ident (97 ∷ [])) call_site (group Brace call_site call_site end end)))
    (leaf (ident w_if) (at 8 10) (leaf (ident (98 ∷ [])) (at 11 12) (group Brace (at 13 14) (at 14 15) end end)))
unfolding left is_end lookahead_at sees take_token take_lifetime take_mark take_group before rows_for rows run parse_rule
if_expr_if_a_braces_if_b_braces = computed if_expression _ _ _ refl

-- `if if [] {}`: nothing is read
if_expr_if_if_brackets_braces : NotDerived (rule if_expression)
    (leaf (ident w_if) (at 0 2) (leaf (ident w_if) (at 3 5) (group Bracket (at 6 7) (at 7 8) end (group Brace (at 9 10) (at 10 11) end end))))
unfolding left is_end lookahead_at sees take_token take_lifetime take_mark take_group before rows_for rows run parse_rule
if_expr_if_if_brackets_braces = not_read if_expression _ refl

-- `if [] if {}`: nothing is read
if_expr_if_brackets_if_braces : NotDerived (rule if_expression)
    (leaf (ident w_if) (at 0 2) (group Bracket (at 3 4) (at 4 5) end (leaf (ident w_if) (at 6 8) (group Brace (at 9 10) (at 10 11) end end))))
unfolding left is_end lookahead_at sees take_token take_lifetime take_mark take_group before rows_for rows run parse_rule
if_expr_if_brackets_if_braces = not_read if_expression _ refl

-- `{} if [] {}`: nothing is read
if_expr_braces_if_brackets_braces : NotDerived (rule if_expression)
    (group Brace (at 0 1) (at 1 2) end (leaf (ident w_if) (at 3 5) (group Bracket (at 6 7) (at 7 8) end (group Brace (at 9 10) (at 10 11) end end))))
unfolding left is_end lookahead_at sees take_token take_lifetime take_mark take_group before rows_for rows run parse_rule
if_expr_braces_if_brackets_braces = not_read if_expression _ refl

-- `if {} {}` prints `if {} {}`
if_expr_if_braces_braces : DerivesAs if_expression
    (leaf (ident w_if) (at 0 2) (group Brace (at 3 4) (at 4 5) end (group Brace (at 6 7) (at 7 8) end end)))
    (leaf (ident w_if) call_site (group Brace call_site call_site end (group Brace call_site call_site end end)))
    (end)
unfolding left is_end lookahead_at sees take_token take_lifetime take_mark take_group before rows_for rows run parse_rule
if_expr_if_braces_braces = computed if_expression _ _ _ refl

-- `if a {} {}` prints `if a {}` and leaves `{}`
if_expr_if_a_braces_braces : DerivesAs if_expression
    (leaf (ident w_if) (at 0 2) (leaf (ident (97 ∷ [])) (at 3 4) (group Brace (at 5 6) (at 6 7) end (group Brace (at 8 9) (at 9 10) end end))))
    (leaf (ident w_if) call_site (leaf (ident (97 ∷ [])) call_site (group Brace call_site call_site end end)))
    (group Brace (at 8 9) (at 9 10) end end)
unfolding left is_end lookahead_at sees take_token take_lifetime take_mark take_group before rows_for rows run parse_rule
if_expr_if_a_braces_braces = computed if_expression _ _ _ refl

-- `if a {} else {} else {}` prints `if a {} else {}` and leaves `else {}`
if_expr_if_a_braces_else_braces_else_braces : DerivesAs if_expression
    (leaf (ident w_if) (at 0 2) (leaf (ident (97 ∷ [])) (at 3 4) (group Brace (at 5 6) (at 6 7) end (leaf (ident w_else) (at 8 12) (group Brace (at 13 14) (at 14 15) end (leaf (ident w_else) (at 16 20) (group Brace (at 21 22) (at 22 23) end end)))))))
    (leaf (ident w_if) call_site (leaf (ident (97 ∷ [])) call_site (group Brace call_site call_site end (leaf (ident w_else) call_site (group Brace call_site call_site end end)))))
    (leaf (ident w_else) (at 16 20) (group Brace (at 21 22) (at 22 23) end end))
unfolding left is_end lookahead_at sees take_token take_lifetime take_mark take_group before rows_for rows run parse_rule
if_expr_if_a_braces_else_braces_else_braces = computed if_expression _ _ _ refl

-- `else {} if [] {}`: nothing is read
if_expr_else_braces_if_brackets_braces : NotDerived (rule if_expression)
    (leaf (ident w_else) (at 0 4) (group Brace (at 5 6) (at 6 7) end (leaf (ident w_if) (at 8 10) (group Bracket (at 11 12) (at 12 13) end (group Brace (at 14 15) (at 15 16) end end)))))
unfolding left is_end lookahead_at sees take_token take_lifetime take_mark take_group before rows_for rows run parse_rule
if_expr_else_braces_if_brackets_braces = not_read if_expression _ refl

-- `if else {} b'x' {{}} else {}`: nothing is read
if_expr_if_else_braces_byte_in_brace_braces : NotDerived (rule if_expression)
    (leaf (ident w_if) (at 0 2) (leaf (ident w_else) (at 3 7) (group Brace (at 8 9) (at 9 10) end (leaf (literal Byte (98 ∷ 39 ∷ 120 ∷ 39 ∷ [])) (at 11 15) (group Brace (at 16 17) (at 19 20) (group Brace (at 17 18) (at 18 19) end end) (leaf (ident w_else) (at 21 25) (group Brace (at 26 27) (at 27 28) end end)))))))
unfolding left is_end lookahead_at sees take_token take_lifetime take_mark take_group before rows_for rows run parse_rule
if_expr_if_else_braces_byte_in_brace_braces = not_read if_expression _ refl

-- `if 'c' else {} {}`: nothing is read
if_expr_if_char_else_braces_braces : NotDerived (rule if_expression)
    (leaf (ident w_if) (at 0 2) (leaf (literal Char (39 ∷ 99 ∷ 39 ∷ [])) (at 3 6) (leaf (ident w_else) (at 7 11) (group Brace (at 12 13) (at 13 14) end (group Brace (at 15 16) (at 16 17) end end)))))
unfolding left is_end lookahead_at sees take_token take_lifetime take_mark take_group before rows_for rows run parse_rule
if_expr_if_char_else_braces_braces = not_read if_expression _ refl

-- `if [] {} else else {}`: nothing is read
if_expr_if_brackets_braces_else_else_braces : NotDerived (rule if_expression)
    (leaf (ident w_if) (at 0 2) (group Bracket (at 3 4) (at 4 5) end (group Brace (at 6 7) (at 7 8) end (leaf (ident w_else) (at 9 13) (leaf (ident w_else) (at 14 18) (group Brace (at 19 20) (at 20 21) end end))))))
unfolding left is_end lookahead_at sees take_token take_lifetime take_mark take_group before rows_for rows run parse_rule
if_expr_if_brackets_braces_else_else_braces = not_read if_expression _ refl

-- `if safe {} else {} {}` prints `if safe {} else {}` and leaves `{}`
if_expr_if_safe_braces_else_braces_braces : DerivesAs if_expression
    (leaf (ident w_if) (at 0 2) (leaf (ident w_safe) (at 3 7) (group Brace (at 8 9) (at 9 10) end (leaf (ident w_else) (at 11 15) (group Brace (at 16 17) (at 17 18) end (group Brace (at 19 20) (at 20 21) end end))))))
    (leaf (ident w_if) call_site (leaf (ident w_safe) call_site (group Brace call_site call_site end (leaf (ident w_else) call_site (group Brace call_site call_site end end)))))
    (group Brace (at 19 20) (at 20 21) end end)
unfolding left is_end lookahead_at sees take_token take_lifetime take_mark take_group before rows_for rows run parse_rule
if_expr_if_safe_braces_else_braces_braces = computed if_expression _ _ _ refl

-- `if a {} else if b {}` prints `if a {} else if b {}`
if_expr_if_a_braces_else_if_b_braces : DerivesAs if_expression
    (leaf (ident w_if) (at 0 2) (leaf (ident (97 ∷ [])) (at 3 4) (group Brace (at 5 6) (at 6 7) end (leaf (ident w_else) (at 8 12) (leaf (ident w_if) (at 13 15) (leaf (ident (98 ∷ [])) (at 16 17) (group Brace (at 18 19) (at 19 20) end end)))))))
    (leaf (ident w_if) call_site (leaf (ident (97 ∷ [])) call_site (group Brace call_site call_site end (leaf (ident w_else) call_site (leaf (ident w_if) call_site (leaf (ident (98 ∷ [])) call_site (group Brace call_site call_site end end)))))))
    (end)
unfolding left is_end lookahead_at sees take_token take_lifetime take_mark take_group before rows_for rows run parse_rule
if_expr_if_a_braces_else_if_b_braces = computed if_expression _ _ _ refl

-- `if [] |= false {}` prints `if [] |= false {}`
if_expr_if_brackets_bar_eq_false_braces : DerivesAs if_expression
    (leaf (ident w_if) (at 0 2) (group Bracket (at 3 4) (at 4 5) end (punct 124 true (at 6 7) (punct 61 false (at 7 8) (leaf (ident w_false) (at 9 14) (group Brace (at 15 16) (at 16 17) end end))))))
    (leaf (ident w_if) call_site (group Bracket call_site call_site end (punct 124 true call_site (punct 61 false call_site (leaf (ident w_false) call_site (group Brace call_site call_site end end))))))
    (end)
unfolding left is_end lookahead_at sees take_token take_lifetime take_mark take_group before rows_for rows run parse_rule
if_expr_if_brackets_bar_eq_false_braces = computed if_expression _ _ _ refl

-- `if a {} b` prints `if a {}` and leaves `b`
if_expr_if_a_braces_b : DerivesAs if_expression
    (leaf (ident w_if) (at 0 2) (leaf (ident (97 ∷ [])) (at 3 4) (group Brace (at 5 6) (at 6 7) end (leaf (ident (98 ∷ [])) (at 8 9) end))))
    (leaf (ident w_if) call_site (leaf (ident (97 ∷ [])) call_site (group Brace call_site call_site end end)))
    (leaf (ident (98 ∷ [])) (at 8 9) end)
unfolding left is_end lookahead_at sees take_token take_lifetime take_mark take_group before rows_for rows run parse_rule
if_expr_if_a_braces_b = computed if_expression _ _ _ refl

-- `if a {} else 1`: nothing is read
if_expr_if_a_braces_else_n1 : NotDerived (rule if_expression)
    (leaf (ident w_if) (at 0 2) (leaf (ident (97 ∷ [])) (at 3 4) (group Brace (at 5 6) (at 6 7) end (leaf (ident w_else) (at 8 12) (leaf (literal Int (49 ∷ [])) (at 13 14) end)))))
unfolding left is_end lookahead_at sees take_token take_lifetime take_mark take_group before rows_for rows run parse_rule
if_expr_if_a_braces_else_n1 = not_read if_expression _ refl

-- `else {} {}`: nothing is read
if_expr_else_braces_braces : NotDerived (rule if_expression)
    (leaf (ident w_else) (at 0 4) (group Brace (at 5 6) (at 6 7) end (group Brace (at 8 9) (at 9 10) end end)))
unfolding left is_end lookahead_at sees take_token take_lifetime take_mark take_group before rows_for rows run parse_rule
if_expr_else_braces_braces = not_read if_expression _ refl

-- `if a {} else if b {} if c {}` prints `if a {} else if b {}` and leaves `if c {}`
if_expr_if_a_braces_else_if_b_braces_if_c_br : DerivesAs if_expression
    (leaf (ident w_if) (at 0 2) (leaf (ident (97 ∷ [])) (at 3 4) (group Brace (at 5 6) (at 6 7) end (leaf (ident w_else) (at 8 12) (leaf (ident w_if) (at 13 15) (leaf (ident (98 ∷ [])) (at 16 17) (group Brace (at 18 19) (at 19 20) end (leaf (ident w_if) (at 21 23) (leaf (ident (99 ∷ [])) (at 24 25) (group Brace (at 26 27) (at 27 28) end end))))))))))
    (leaf (ident w_if) call_site (leaf (ident (97 ∷ [])) call_site (group Brace call_site call_site end (leaf (ident w_else) call_site (leaf (ident w_if) call_site (leaf (ident (98 ∷ [])) call_site (group Brace call_site call_site end end)))))))
    (leaf (ident w_if) (at 21 23) (leaf (ident (99 ∷ [])) (at 24 25) (group Brace (at 26 27) (at 27 28) end end)))
unfolding left is_end lookahead_at sees take_token take_lifetime take_mark take_group before rows_for rows run parse_rule
if_expr_if_a_braces_else_if_b_braces_if_c_br = computed if_expression _ _ _ refl

-- `loop {} loop >` prints `loop {}` and leaves `loop >`
looping_loop_braces_loop_gt : DerivesAs loop_expression
    (leaf (ident w_loop) (at 0 4) (group Brace (at 5 6) (at 6 7) end (leaf (ident w_loop) (at 8 12) (punct 62 false (at 13 14) end))))
    (leaf (ident w_loop) call_site (group Brace call_site call_site end end))
    (leaf (ident w_loop) (at 8 12) (punct 62 false (at 13 14) end))
unfolding left is_end lookahead_at sees take_token take_lifetime take_mark take_group before rows_for rows run parse_rule
looping_loop_braces_loop_gt = computed loop_expression _ _ _ refl

-- `loop loop {}`: nothing is read
looping_loop_loop_braces : NotDerived (rule loop_expression)
    (leaf (ident w_loop) (at 0 4) (leaf (ident w_loop) (at 5 9) (group Brace (at 10 11) (at 11 12) end end)))
unfolding left is_end lookahead_at sees take_token take_lifetime take_mark take_group before rows_for rows run parse_rule
looping_loop_loop_braces = not_read loop_expression _ refl

-- `loop {} {}` prints `loop {}` and leaves `{}`
looping_loop_braces_braces : DerivesAs loop_expression
    (leaf (ident w_loop) (at 0 4) (group Brace (at 5 6) (at 6 7) end (group Brace (at 8 9) (at 9 10) end end)))
    (leaf (ident w_loop) call_site (group Brace call_site call_site end end))
    (group Brace (at 8 9) (at 9 10) end end)
unfolding left is_end lookahead_at sees take_token take_lifetime take_mark take_group before rows_for rows run parse_rule
looping_loop_braces_braces = computed loop_expression _ _ _ refl

-- `for b in continue {} for b a in false` prints `for b in continue {}` and leaves `for b a in false`
looping_for_b_in_continue_braces_for_b_a_in : DerivesAs loop_expression
    (leaf (ident w_for) (at 0 3) (leaf (ident (98 ∷ [])) (at 4 5) (leaf (ident w_in) (at 6 8) (leaf (ident w_continue) (at 9 17) (group Brace (at 18 19) (at 19 20) end (leaf (ident w_for) (at 21 24) (leaf (ident (98 ∷ [])) (at 25 26) (leaf (ident (97 ∷ [])) (at 27 28) (leaf (ident w_in) (at 29 31) (leaf (ident w_false) (at 32 37) end))))))))))
    (leaf (ident w_for) call_site (leaf (ident (98 ∷ [])) call_site (leaf (ident w_in) call_site (leaf (ident w_continue) call_site (group Brace call_site call_site end end)))))
    (leaf (ident w_for) (at 21 24) (leaf (ident (98 ∷ [])) (at 25 26) (leaf (ident (97 ∷ [])) (at 27 28) (leaf (ident w_in) (at 29 31) (leaf (ident w_false) (at 32 37) end)))))
unfolding left is_end lookahead_at sees take_token take_lifetime take_mark take_group before rows_for rows run parse_rule
looping_for_b_in_continue_braces_for_b_a_in = computed loop_expression _ _ _ refl

-- `while 7u8 {} while false <<= false {}` prints `while 7u8 {}` and leaves `while false <<= false {}`
looping_while_n7u8_braces_while_false_shl_eq : DerivesAs loop_expression
    (leaf (ident w_while) (at 0 5) (leaf (literal Int (55 ∷ 117 ∷ 56 ∷ [])) (at 6 9) (group Brace (at 10 11) (at 11 12) end (leaf (ident w_while) (at 13 18) (leaf (ident w_false) (at 19 24) (punct 60 true (at 25 26) (punct 60 true (at 26 27) (punct 61 false (at 27 28) (leaf (ident w_false) (at 29 34) (group Brace (at 35 36) (at 36 37) end end))))))))))
    (leaf (ident w_while) call_site (leaf (literal Int (55 ∷ 117 ∷ 56 ∷ [])) call_site (group Brace call_site call_site end end)))
    (leaf (ident w_while) (at 13 18) (leaf (ident w_false) (at 19 24) (punct 60 true (at 25 26) (punct 60 true (at 26 27) (punct 61 false (at 27 28) (leaf (ident w_false) (at 29 34) (group Brace (at 35 36) (at 36 37) end end)))))))
unfolding left is_end lookahead_at sees take_token take_lifetime take_mark take_group before rows_for rows run parse_rule
looping_while_n7u8_braces_while_false_shl_eq = computed loop_expression _ _ _ refl

-- `while while {} {}`: nothing is read
looping_while_while_braces_braces : NotDerived (rule loop_expression)
    (leaf (ident w_while) (at 0 5) (leaf (ident w_while) (at 6 11) (group Brace (at 12 13) (at 13 14) end (group Brace (at 15 16) (at 16 17) end end))))
unfolding left is_end lookahead_at sees take_token take_lifetime take_mark take_group before rows_for rows run parse_rule
looping_while_while_braces_braces = not_read loop_expression _ refl

-- `while return {} while {} {# ! [crate]}`: nothing is read
looping_while_return_braces_while_braces_in : NotDerived (rule loop_expression)
    (leaf (ident w_while) (at 0 5) (leaf (ident w_return) (at 6 12) (group Brace (at 13 14) (at 14 15) end (leaf (ident w_while) (at 16 21) (group Brace (at 22 23) (at 23 24) end (group Brace (at 25 26) (at 37 38) (punct 35 false (at 26 27) (punct 33 false (at 28 29) (group Bracket (at 30 31) (at 36 37) (leaf (ident w_crate) (at 31 36) end) end))) end))))))
unfolding left is_end lookahead_at sees take_token take_lifetime take_mark take_group before rows_for rows run parse_rule
looping_while_return_braces_while_braces_in = not_read loop_expression _ refl

-- `while {} {}` prints `while {} {}`
looping_while_braces_braces : DerivesAs loop_expression
    (leaf (ident w_while) (at 0 5) (group Brace (at 6 7) (at 7 8) end (group Brace (at 9 10) (at 10 11) end end)))
    (leaf (ident w_while) call_site (group Brace call_site call_site end (group Brace call_site call_site end end)))
    (end)
unfolding left is_end lookahead_at sees take_token take_lifetime take_mark take_group before rows_for rows run parse_rule
looping_while_braces_braces = computed loop_expression _ _ _ refl

-- `while a {} {}` prints `while a {}` and leaves `{}`
looping_while_a_braces_braces : DerivesAs loop_expression
    (leaf (ident w_while) (at 0 5) (leaf (ident (97 ∷ [])) (at 6 7) (group Brace (at 8 9) (at 9 10) end (group Brace (at 11 12) (at 12 13) end end))))
    (leaf (ident w_while) call_site (leaf (ident (97 ∷ [])) call_site (group Brace call_site call_site end end)))
    (group Brace (at 11 12) (at 12 13) end end)
unfolding left is_end lookahead_at sees take_token take_lifetime take_mark take_group before rows_for rows run parse_rule
looping_while_a_braces_braces = computed loop_expression _ _ _ refl

-- `Self in 0 {}`: nothing is read
looping_Self_in_n0_braces : NotDerived (rule loop_expression)
    (leaf (ident w_Self_type) (at 0 4) (leaf (ident w_in) (at 5 7) (leaf (literal Int (48 ∷ [])) (at 8 9) (group Brace (at 10 11) (at 11 12) end end))))
unfolding left is_end lookahead_at sees take_token take_lifetime take_mark take_group before rows_for rows run parse_rule
looping_Self_in_n0_braces = not_read loop_expression _ refl

-- `for for a in b {}`: nothing is read
looping_for_for_a_in_b_braces : NotDerived (rule loop_expression)
    (leaf (ident w_for) (at 0 3) (leaf (ident w_for) (at 4 7) (leaf (ident (97 ∷ [])) (at 8 9) (leaf (ident w_in) (at 10 12) (leaf (ident (98 ∷ [])) (at 13 14) (group Brace (at 15 16) (at 16 17) end end))))))
unfolding left is_end lookahead_at sees take_token take_lifetime take_mark take_group before rows_for rows run parse_rule
looping_for_for_a_in_b_braces = not_read loop_expression _ refl

-- `for _ for in () {}`: nothing is read
looping_for_underscore_for_in_parens_braces : NotDerived (rule loop_expression)
    (leaf (ident w_for) (at 0 3) (leaf (ident w_underscore) (at 4 5) (leaf (ident w_for) (at 6 9) (leaf (ident w_in) (at 10 12) (group Paren (at 13 14) (at 14 15) end (group Brace (at 16 17) (at 17 18) end end))))))
unfolding left is_end lookahead_at sees take_token take_lifetime take_mark take_group before rows_for rows run parse_rule
looping_for_underscore_for_in_parens_braces = not_read loop_expression _ refl

-- `for _ in for () {}`: nothing is read
looping_for_underscore_in_for_parens_braces : NotDerived (rule loop_expression)
    (leaf (ident w_for) (at 0 3) (leaf (ident w_underscore) (at 4 5) (leaf (ident w_in) (at 6 8) (leaf (ident w_for) (at 9 12) (group Paren (at 13 14) (at 14 15) end (group Brace (at 16 17) (at 17 18) end end))))))
unfolding left is_end lookahead_at sees take_token take_lifetime take_mark take_group before rows_for rows run parse_rule
looping_for_underscore_in_for_parens_braces = not_read loop_expression _ refl

-- `for b in () for {}`: nothing is read
looping_for_b_in_parens_for_braces : NotDerived (rule loop_expression)
    (leaf (ident w_for) (at 0 3) (leaf (ident (98 ∷ [])) (at 4 5) (leaf (ident w_in) (at 6 8) (group Paren (at 9 10) (at 10 11) end (leaf (ident w_for) (at 12 15) (group Brace (at 16 17) (at 17 18) end end))))))
unfolding left is_end lookahead_at sees take_token take_lifetime take_mark take_group before rows_for rows run parse_rule
looping_for_b_in_parens_for_braces = not_read loop_expression _ refl

-- `for in T {}`: nothing is read
looping_for_in_T_braces : NotDerived (rule loop_expression)
    (leaf (ident w_for) (at 0 3) (leaf (ident w_in) (at 4 6) (leaf (ident (84 ∷ [])) (at 7 8) (group Brace (at 9 10) (at 10 11) end end))))
unfolding left is_end lookahead_at sees take_token take_lifetime take_mark take_group before rows_for rows run parse_rule
looping_for_in_T_braces = not_read loop_expression _ refl

-- `Self for () in "s" {}`: nothing is read
looping_Self_for_parens_in_str_braces : NotDerived (rule loop_expression)
    (leaf (ident w_Self_type) (at 0 4) (leaf (ident w_for) (at 5 8) (group Paren (at 9 10) (at 10 11) end (leaf (ident w_in) (at 12 14) (leaf (literal Str (34 ∷ 115 ∷ 34 ∷ [])) (at 15 18) (group Brace (at 19 20) (at 20 21) end end))))))
unfolding left is_end lookahead_at sees take_token take_lifetime take_mark take_group before rows_for rows run parse_rule
looping_Self_for_parens_in_str_braces = not_read loop_expression _ refl

-- `for a a in b {}`: nothing is read
looping_for_a_a_in_b_braces : NotDerived (rule loop_expression)
    (leaf (ident w_for) (at 0 3) (leaf (ident (97 ∷ [])) (at 4 5) (leaf (ident (97 ∷ [])) (at 6 7) (leaf (ident w_in) (at 8 10) (leaf (ident (98 ∷ [])) (at 11 12) (group Brace (at 13 14) (at 14 15) end end))))))
unfolding left is_end lookahead_at sees take_token take_lifetime take_mark take_group before rows_for rows run parse_rule
looping_for_a_a_in_b_braces = not_read loop_expression _ refl

-- `for a in a b {}`: nothing is read
looping_for_a_in_a_b_braces : NotDerived (rule loop_expression)
    (leaf (ident w_for) (at 0 3) (leaf (ident (97 ∷ [])) (at 4 5) (leaf (ident w_in) (at 6 8) (leaf (ident (97 ∷ [])) (at 9 10) (leaf (ident (98 ∷ [])) (at 11 12) (group Brace (at 13 14) (at 14 15) end end))))))
unfolding left is_end lookahead_at sees take_token take_lifetime take_mark take_group before rows_for rows run parse_rule
looping_for_a_in_a_b_braces = not_read loop_expression _ refl

-- `for a in b {} c` prints `for a in b {}` and leaves `c`
looping_for_a_in_b_braces_c : DerivesAs loop_expression
    (leaf (ident w_for) (at 0 3) (leaf (ident (97 ∷ [])) (at 4 5) (leaf (ident w_in) (at 6 8) (leaf (ident (98 ∷ [])) (at 9 10) (group Brace (at 11 12) (at 12 13) end (leaf (ident (99 ∷ [])) (at 14 15) end))))))
    (leaf (ident w_for) call_site (leaf (ident (97 ∷ [])) call_site (leaf (ident w_in) call_site (leaf (ident (98 ∷ [])) call_site (group Brace call_site call_site end end)))))
    (leaf (ident (99 ∷ [])) (at 14 15) end)
unfolding left is_end lookahead_at sees take_token take_lifetime take_mark take_group before rows_for rows run parse_rule
looping_for_a_in_b_braces_c = computed loop_expression _ _ _ refl

-- `for a b {}`: nothing is read
looping_for_a_b_braces : NotDerived (rule loop_expression)
    (leaf (ident w_for) (at 0 3) (leaf (ident (97 ∷ [])) (at 4 5) (leaf (ident (98 ∷ [])) (at 6 7) (group Brace (at 8 9) (at 9 10) end end))))
unfolding left is_end lookahead_at sees take_token take_lifetime take_mark take_group before rows_for rows run parse_rule
looping_for_a_b_braces = not_read loop_expression _ refl

-- `in for _ in true {}`: nothing is read
looping_in_for_underscore_in_true_braces : NotDerived (rule loop_expression)
    (leaf (ident w_in) (at 0 2) (leaf (ident w_for) (at 3 6) (leaf (ident w_underscore) (at 7 8) (leaf (ident w_in) (at 9 11) (leaf (ident w_true) (at 12 16) (group Brace (at 17 18) (at 18 19) end end))))))
unfolding left is_end lookahead_at sees take_token take_lifetime take_mark take_group before rows_for rows run parse_rule
looping_in_for_underscore_in_true_braces = not_read loop_expression _ refl

-- `for in _ in () {}`: nothing is read
looping_for_in_underscore_in_parens_braces : NotDerived (rule loop_expression)
    (leaf (ident w_for) (at 0 3) (leaf (ident w_in) (at 4 6) (leaf (ident w_underscore) (at 7 8) (leaf (ident w_in) (at 9 11) (group Paren (at 12 13) (at 13 14) end (group Brace (at 15 16) (at 16 17) end end))))))
unfolding left is_end lookahead_at sees take_token take_lifetime take_mark take_group before rows_for rows run parse_rule
looping_for_in_underscore_in_parens_braces = not_read loop_expression _ refl

-- `for _ in in a {}`: nothing is read
looping_for_underscore_in_in_a_braces : NotDerived (rule loop_expression)
    (leaf (ident w_for) (at 0 3) (leaf (ident w_underscore) (at 4 5) (leaf (ident w_in) (at 6 8) (leaf (ident w_in) (at 9 11) (leaf (ident (97 ∷ [])) (at 12 13) (group Brace (at 14 15) (at 15 16) end end))))))
unfolding left is_end lookahead_at sees take_token take_lifetime take_mark take_group before rows_for rows run parse_rule
looping_for_underscore_in_in_a_braces = not_read loop_expression _ refl

-- `for auto in 'c' in {}`: nothing is read
looping_for_auto_in_char_in_braces : NotDerived (rule loop_expression)
    (leaf (ident w_for) (at 0 3) (leaf (ident w_auto) (at 4 8) (leaf (ident w_in) (at 9 11) (leaf (literal Char (39 ∷ 99 ∷ 39 ∷ [])) (at 12 15) (leaf (ident w_in) (at 16 18) (group Brace (at 19 20) (at 20 21) end end))))))
unfolding left is_end lookahead_at sees take_token take_lifetime take_mark take_group before rows_for rows run parse_rule
looping_for_auto_in_char_in_braces = not_read loop_expression _ refl

-- `for auto in {} {} in` prints `for auto in {} {}` and leaves `in`
looping_for_auto_in_braces_braces_in : DerivesAs loop_expression
    (leaf (ident w_for) (at 0 3) (leaf (ident w_auto) (at 4 8) (leaf (ident w_in) (at 9 11) (group Brace (at 12 13) (at 13 14) end (group Brace (at 15 16) (at 16 17) end (leaf (ident w_in) (at 18 20) end))))))
    (leaf (ident w_for) call_site (leaf (ident w_auto) call_site (leaf (ident w_in) call_site (group Brace call_site call_site end (group Brace call_site call_site end end)))))
    (leaf (ident w_in) (at 18 20) end)
unfolding left is_end lookahead_at sees take_token take_lifetime take_mark take_group before rows_for rows run parse_rule
looping_for_auto_in_braces_braces_in = computed loop_expression _ _ _ refl

-- `{} for () in {} {}`: nothing is read
looping_braces_for_parens_in_braces_braces : NotDerived (rule loop_expression)
    (group Brace (at 0 1) (at 1 2) end (leaf (ident w_for) (at 3 6) (group Paren (at 7 8) (at 8 9) end (leaf (ident w_in) (at 10 12) (group Brace (at 13 14) (at 14 15) end (group Brace (at 16 17) (at 17 18) end end))))))
unfolding left is_end lookahead_at sees take_token take_lifetime take_mark take_group before rows_for rows run parse_rule
looping_braces_for_parens_in_braces_braces = not_read loop_expression _ refl

-- `for {} _ in () {}`: nothing is read
looping_for_braces_underscore_in_parens_brac : NotDerived (rule loop_expression)
    (leaf (ident w_for) (at 0 3) (group Brace (at 4 5) (at 5 6) end (leaf (ident w_underscore) (at 7 8) (leaf (ident w_in) (at 9 11) (group Paren (at 12 13) (at 13 14) end (group Brace (at 15 16) (at 16 17) end end))))))
unfolding left is_end lookahead_at sees take_token take_lifetime take_mark take_group before rows_for rows run parse_rule
looping_for_braces_underscore_in_parens_brac = not_read loop_expression _ refl

-- `for union {{}} in # [unsafe] {} {}`: nothing is read
looping_for_union_in_brace_braces_in_pound_i : NotDerived (rule loop_expression)
    (leaf (ident w_for) (at 0 3) (leaf (ident w_union) (at 4 9) (group Brace (at 10 11) (at 13 14) (group Brace (at 11 12) (at 12 13) end end) (leaf (ident w_in) (at 15 17) (punct 35 false (at 18 19) (group Bracket (at 20 21) (at 27 28) (leaf (ident w_unsafe) (at 21 27) end) (group Brace (at 29 30) (at 30 31) end (group Brace (at 32 33) (at 33 34) end end))))))))
unfolding left is_end lookahead_at sees take_token take_lifetime take_mark take_group before rows_for rows run parse_rule
looping_for_union_in_brace_braces_in_pound_i = not_read loop_expression _ refl

-- `for _ in b {} {}` prints `for _ in b {}` and leaves `{}`
looping_for_underscore_in_b_braces_braces : DerivesAs loop_expression
    (leaf (ident w_for) (at 0 3) (leaf (ident w_underscore) (at 4 5) (leaf (ident w_in) (at 6 8) (leaf (ident (98 ∷ [])) (at 9 10) (group Brace (at 11 12) (at 12 13) end (group Brace (at 14 15) (at 15 16) end end))))))
    (leaf (ident w_for) call_site (leaf (ident w_underscore) call_site (leaf (ident w_in) call_site (leaf (ident (98 ∷ [])) call_site (group Brace call_site call_site end end)))))
    (group Brace (at 14 15) (at 15 16) end end)
unfolding left is_end lookahead_at sees take_token take_lifetime take_mark take_group before rows_for rows run parse_rule
looping_for_underscore_in_b_braces_braces = computed loop_expression _ _ _ refl

-- `while a = b {}` prints `while a = b {}`
looping_while_a_eq_b_braces : DerivesAs loop_expression
    (leaf (ident w_while) (at 0 5) (leaf (ident (97 ∷ [])) (at 6 7) (punct 61 false (at 8 9) (leaf (ident (98 ∷ [])) (at 10 11) (group Brace (at 12 13) (at 13 14) end end)))))
    (leaf (ident w_while) call_site (leaf (ident (97 ∷ [])) call_site (punct 61 false call_site (leaf (ident (98 ∷ [])) call_site (group Brace call_site call_site end end)))))
    (end)
unfolding left is_end lookahead_at sees take_token take_lifetime take_mark take_group before rows_for rows run parse_rule
looping_while_a_eq_b_braces = computed loop_expression _ _ _ refl

-- `for a, b in c {}`: nothing is read
looping_for_a_comma_b_in_c_braces : NotDerived (rule loop_expression)
    (leaf (ident w_for) (at 0 3) (leaf (ident (97 ∷ [])) (at 4 5) (punct 44 false (at 5 6) (leaf (ident (98 ∷ [])) (at 7 8) (leaf (ident w_in) (at 9 11) (leaf (ident (99 ∷ [])) (at 12 13) (group Brace (at 14 15) (at 15 16) end end)))))))
unfolding left is_end lookahead_at sees take_token take_lifetime take_mark take_group before rows_for rows run parse_rule
looping_for_a_comma_b_in_c_braces = not_read loop_expression _ refl

-- `for a in b = c {}` prints `for a in b = c {}`
looping_for_a_in_b_eq_c_braces : DerivesAs loop_expression
    (leaf (ident w_for) (at 0 3) (leaf (ident (97 ∷ [])) (at 4 5) (leaf (ident w_in) (at 6 8) (leaf (ident (98 ∷ [])) (at 9 10) (punct 61 false (at 11 12) (leaf (ident (99 ∷ [])) (at 13 14) (group Brace (at 15 16) (at 16 17) end end)))))))
    (leaf (ident w_for) call_site (leaf (ident (97 ∷ [])) call_site (leaf (ident w_in) call_site (leaf (ident (98 ∷ [])) call_site (punct 61 false call_site (leaf (ident (99 ∷ [])) call_site (group Brace call_site call_site end end)))))))
    (end)
unfolding left is_end lookahead_at sees take_token take_lifetime take_mark take_group before rows_for rows run parse_rule
looping_for_a_in_b_eq_c_braces = computed loop_expression _ _ _ refl

-- `in {}`: nothing is read
looping_in_braces : NotDerived (rule loop_expression)
    (leaf (ident w_in) (at 0 2) (group Brace (at 3 4) (at 4 5) end end))
unfolding left is_end lookahead_at sees take_token take_lifetime take_mark take_group before rows_for rows run parse_rule
looping_in_braces = not_read loop_expression _ refl

-- `in false -= false | () {}`: nothing is read
looping_in_false_minus_eq_false_bar_parens_b : NotDerived (rule loop_expression)
    (leaf (ident w_in) (at 0 2) (leaf (ident w_false) (at 3 8) (punct 45 true (at 9 10) (punct 61 false (at 10 11) (leaf (ident w_false) (at 12 17) (punct 124 false (at 18 19) (group Paren (at 20 21) (at 21 22) end (group Brace (at 23 24) (at 24 25) end end))))))))
unfolding left is_end lookahead_at sees take_token take_lifetime take_mark take_group before rows_for rows run parse_rule
looping_in_false_minus_eq_false_bar_parens_b = not_read loop_expression _ refl

-- `in () in b"x" {}`: nothing is read
looping_in_parens_in_bytes_braces : NotDerived (rule loop_expression)
    (leaf (ident w_in) (at 0 2) (group Paren (at 3 4) (at 4 5) end (leaf (ident w_in) (at 6 8) (leaf (literal ByteStr (98 ∷ 34 ∷ 120 ∷ 34 ∷ [])) (at 9 13) (group Brace (at 14 15) (at 15 16) end end)))))
unfolding left is_end lookahead_at sees take_token take_lifetime take_mark take_group before rows_for rows run parse_rule
looping_in_parens_in_bytes_braces = not_read loop_expression _ refl

-- `for () for {} {}`: nothing is read
looping_for_parens_for_braces_braces : NotDerived (rule loop_expression)
    (leaf (ident w_for) (at 0 3) (group Paren (at 4 5) (at 5 6) end (leaf (ident w_for) (at 7 10) (group Brace (at 11 12) (at 12 13) end (group Brace (at 14 15) (at 15 16) end end)))))
unfolding left is_end lookahead_at sees take_token take_lifetime take_mark take_group before rows_for rows run parse_rule
looping_for_parens_for_braces_braces = not_read loop_expression _ refl

-- `for auto loop () {}`: nothing is read
looping_for_auto_loop_parens_braces : NotDerived (rule loop_expression)
    (leaf (ident w_for) (at 0 3) (leaf (ident w_auto) (at 4 8) (leaf (ident w_loop) (at 9 13) (group Paren (at 14 15) (at 15 16) end (group Brace (at 17 18) (at 18 19) end end)))))
unfolding left is_end lookahead_at sees take_token take_lifetime take_mark take_group before rows_for rows run parse_rule
looping_for_auto_loop_parens_braces = not_read loop_expression _ refl

-- `for () while auto {}`: nothing is read
looping_for_parens_while_auto_braces : NotDerived (rule loop_expression)
    (leaf (ident w_for) (at 0 3) (group Paren (at 4 5) (at 5 6) end (leaf (ident w_while) (at 7 12) (leaf (ident w_auto) (at 13 17) (group Brace (at 18 19) (at 19 20) end end)))))
unfolding left is_end lookahead_at sees take_token take_lifetime take_mark take_group before rows_for rows run parse_rule
looping_for_parens_while_auto_braces = not_read loop_expression _ refl

-- `1` prints `1`
stmts_n1 : DerivesAs statements
    (leaf (literal Int (49 ∷ [])) (at 0 1) end)
    (leaf (literal Int (49 ∷ [])) call_site end)
    (end)
unfolding left is_end lookahead_at sees take_token take_lifetime take_mark take_group before first_span rows_for rows run parse_rule
stmts_n1 = computed statements _ _ _ refl

-- `;` prints `;`
stmts_semi : DerivesAs statements
    (punct 59 false (at 0 1) end)
    (punct 59 false call_site end)
    (end)
unfolding left is_end lookahead_at sees take_token take_lifetime take_mark take_group before first_span rows_for rows run parse_rule
stmts_semi = computed statements _ _ _ refl

-- `;;` prints `; ;`
stmts_semi_semi : DerivesAs statements
    (punct 59 true (at 0 1) (punct 59 false (at 1 2) end))
    (punct 59 false call_site (punct 59 false call_site end))
    (end)
unfolding left is_end lookahead_at sees take_token take_lifetime take_mark take_group before first_span rows_for rows run parse_rule
stmts_semi_semi = computed statements _ _ _ refl

-- `#[a] let b;` prints `# [a] let b ;`
stmts_pound_in_bracket_a_let_b_semi : DerivesAs statements
    (punct 35 false (at 0 1) (group Bracket (at 1 2) (at 3 4) (leaf (ident (97 ∷ [])) (at 2 3) end) (leaf (ident w_let) (at 5 8) (leaf (ident (98 ∷ [])) (at 9 10) (punct 59 false (at 10 11) end)))))
    (punct 35 false call_site (group Bracket call_site call_site (leaf (ident (97 ∷ [])) call_site end) (leaf (ident w_let) call_site (leaf (ident (98 ∷ [])) call_site (punct 59 false call_site end)))))
    (end)
unfolding left is_end lookahead_at sees take_token take_lifetime take_mark take_group before first_span rows_for rows run parse_rule
stmts_pound_in_bracket_a_let_b_semi = computed statements _ _ _ refl

-- `, a`: nothing is read
stmts_comma_a : NotDerived (rule statements)
    (punct 44 false (at 0 1) (leaf (ident (97 ∷ [])) (at 2 3) end))
unfolding left is_end lookahead_at sees take_token take_lifetime take_mark take_group before first_span rows_for rows run parse_rule
stmts_comma_a = not_read statements _ refl

-- no tokens: nothing is read
stmt_rest_nothing : NotDerived (rule statement_rest)
    (end)
unfolding left is_end lookahead_at sees take_token take_lifetime take_mark take_group before rows_for rows run parse_rule
stmt_rest_nothing = not_read statement_rest _ refl

-- `crate!{}` prints `crate ! {}`
stmt_rest_crate_bang_braces : DerivesAs statement_rest
    (leaf (ident w_crate) (at 0 5) (punct 33 false (at 5 6) (group Brace (at 6 7) (at 7 8) end end)))
    (leaf (ident w_crate) call_site (punct 33 false call_site (group Brace call_site call_site end end)))
    (end)
unfolding left is_end lookahead_at sees take_token take_lifetime take_mark take_group before rows_for rows run parse_rule
stmt_rest_crate_bang_braces = computed statement_rest _ _ _ refl

-- `crate!{} a` prints `crate ! {} a`
stmt_rest_crate_bang_braces_a : DerivesAs statement_rest
    (leaf (ident w_crate) (at 0 5) (punct 33 false (at 5 6) (group Brace (at 6 7) (at 7 8) end (leaf (ident (97 ∷ [])) (at 9 10) end))))
    (leaf (ident w_crate) call_site (punct 33 false call_site (group Brace call_site call_site end (leaf (ident (97 ∷ [])) call_site end))))
    (end)
unfolding left is_end lookahead_at sees take_token take_lifetime take_mark take_group before rows_for rows run parse_rule
stmt_rest_crate_bang_braces_a = computed statement_rest _ _ _ refl

-- `a!{} b` prints `a ! {} b`
stmt_rest_a_bang_braces_b : DerivesAs statement_rest
    (leaf (ident (97 ∷ [])) (at 0 1) (punct 33 false (at 1 2) (group Brace (at 2 3) (at 3 4) end (leaf (ident (98 ∷ [])) (at 5 6) end))))
    (leaf (ident (97 ∷ [])) call_site (punct 33 false call_site (group Brace call_site call_site end (leaf (ident (98 ∷ [])) call_site end))))
    (end)
unfolding left is_end lookahead_at sees take_token take_lifetime take_mark take_group before rows_for rows run parse_rule
stmt_rest_a_bang_braces_b = computed statement_rest _ _ _ refl

-- `let a;` prints `let a ;`
stmt_rest_let_a_semi : DerivesAs statement_rest
    (leaf (ident w_let) (at 0 3) (leaf (ident (97 ∷ [])) (at 4 5) (punct 59 false (at 5 6) end)))
    (leaf (ident w_let) call_site (leaf (ident (97 ∷ [])) call_site (punct 59 false call_site end)))
    (end)
unfolding left is_end lookahead_at sees take_token take_lifetime take_mark take_group before rows_for rows run parse_rule
stmt_rest_let_a_semi = computed statement_rest _ _ _ refl

-- `let a; b` prints `let a ; b`
stmt_rest_let_a_semi_b : DerivesAs statement_rest
    (leaf (ident w_let) (at 0 3) (leaf (ident (97 ∷ [])) (at 4 5) (punct 59 false (at 5 6) (leaf (ident (98 ∷ [])) (at 7 8) end))))
    (leaf (ident w_let) call_site (leaf (ident (97 ∷ [])) call_site (punct 59 false call_site (leaf (ident (98 ∷ [])) call_site end))))
    (end)
unfolding left is_end lookahead_at sees take_token take_lifetime take_mark take_group before rows_for rows run parse_rule
stmt_rest_let_a_semi_b = computed statement_rest _ _ _ refl

-- `a b`: nothing is read
stmt_rest_a_b : NotDerived (rule statement_rest)
    (leaf (ident (97 ∷ [])) (at 0 1) (leaf (ident (98 ∷ [])) (at 2 3) end))
unfolding left is_end lookahead_at sees take_token take_lifetime take_mark take_group before rows_for rows run parse_rule
stmt_rest_a_b = not_read statement_rest _ refl

-- `crate!{}?`: nothing is read
stmt_rest_crate_bang_braces_question : NotDerived (rule statement_rest)
    (leaf (ident w_crate) (at 0 5) (punct 33 false (at 5 6) (group Brace (at 6 7) (at 7 8) end (punct 63 false (at 8 9) end))))
unfolding left is_end lookahead_at sees take_token take_lifetime take_mark take_group before rows_for rows run parse_rule
stmt_rest_crate_bang_braces_question = not_read statement_rest _ refl

-- `crate!()` prints `crate ! ()`
stmt_rest_crate_bang_parens : DerivesAs statement_rest
    (leaf (ident w_crate) (at 0 5) (punct 33 false (at 5 6) (group Paren (at 6 7) (at 7 8) end end)))
    (leaf (ident w_crate) call_site (punct 33 false call_site (group Paren call_site call_site end end)))
    (end)
unfolding left is_end lookahead_at sees take_token take_lifetime take_mark take_group before rows_for rows run parse_rule
stmt_rest_crate_bang_parens = computed statement_rest _ _ _ refl

-- `a!{}?` prints `a ! {} ?`
stmt_rest_a_bang_braces_question : DerivesAs statement_rest
    (leaf (ident (97 ∷ [])) (at 0 1) (punct 33 false (at 1 2) (group Brace (at 2 3) (at 3 4) end (punct 63 false (at 4 5) end))))
    (leaf (ident (97 ∷ [])) call_site (punct 33 false call_site (group Brace call_site call_site end (punct 63 false call_site end))))
    (end)
unfolding left is_end lookahead_at sees take_token take_lifetime take_mark take_group before rows_for rows run parse_rule
stmt_rest_a_bang_braces_question = computed statement_rest _ _ _ refl

-- `crate::a!{}.b;` prints `crate :: a ! {} . b ;`
stmt_rest_crate_colons_a_bang_braces_dot_b_s : DerivesAs statement_rest
    (leaf (ident w_crate) (at 0 5) (punct 58 true (at 5 6) (punct 58 false (at 6 7) (leaf (ident (97 ∷ [])) (at 7 8) (punct 33 false (at 8 9) (group Brace (at 9 10) (at 10 11) end (punct 46 false (at 11 12) (leaf (ident (98 ∷ [])) (at 12 13) (punct 59 false (at 13 14) end)))))))))
    (leaf (ident w_crate) call_site (punct 58 true call_site (punct 58 false call_site (leaf (ident (97 ∷ [])) call_site (punct 33 false call_site (group Brace call_site call_site end (punct 46 false call_site (leaf (ident (98 ∷ [])) call_site (punct 59 false call_site end)))))))))
    (end)
unfolding left is_end lookahead_at sees take_token take_lifetime take_mark take_group before rows_for rows run parse_rule
stmt_rest_crate_colons_a_bang_braces_dot_b_s = computed statement_rest _ _ _ refl

-- `crate!{}.a`: nothing is read
stmt_rest_crate_bang_braces_dot_a : NotDerived (rule statement_rest)
    (leaf (ident w_crate) (at 0 5) (punct 33 false (at 5 6) (group Brace (at 6 7) (at 7 8) end (punct 46 false (at 8 9) (leaf (ident (97 ∷ [])) (at 9 10) end)))))
unfolding left is_end lookahead_at sees take_token take_lifetime take_mark take_group before rows_for rows run parse_rule
stmt_rest_crate_bang_braces_dot_a = not_read statement_rest _ refl

-- `! {}` prints `! {}`
stmt_rest_bang_braces : DerivesAs statement_rest
    (punct 33 false (at 0 1) (group Brace (at 2 3) (at 3 4) end end))
    (punct 33 false call_site (group Brace call_site call_site end end))
    (end)
unfolding left is_end lookahead_at sees take_token take_lifetime take_mark take_group before rows_for rows run parse_rule
stmt_rest_bang_braces = computed statement_rest _ _ _ refl

-- `::a!{} b` prints `:: a ! {} b`
stmt_rest_colons_a_bang_braces_b : DerivesAs statement_rest
    (punct 58 true (at 0 1) (punct 58 false (at 1 2) (leaf (ident (97 ∷ [])) (at 2 3) (punct 33 false (at 3 4) (group Brace (at 4 5) (at 5 6) end (leaf (ident (98 ∷ [])) (at 7 8) end))))))
    (punct 58 true call_site (punct 58 false call_site (leaf (ident (97 ∷ [])) call_site (punct 33 false call_site (group Brace call_site call_site end (leaf (ident (98 ∷ [])) call_site end))))))
    (end)
unfolding left is_end lookahead_at sees take_token take_lifetime take_mark take_group before rows_for rows run parse_rule
stmt_rest_colons_a_bang_braces_b = computed statement_rest _ _ _ refl

-- `Self!{} a` prints `Self ! {} a`
stmt_rest_Self_bang_braces_a : DerivesAs statement_rest
    (leaf (ident w_Self_type) (at 0 4) (punct 33 false (at 4 5) (group Brace (at 5 6) (at 6 7) end (leaf (ident (97 ∷ [])) (at 8 9) end))))
    (leaf (ident w_Self_type) call_site (punct 33 false call_site (group Brace call_site call_site end (leaf (ident (97 ∷ [])) call_site end))))
    (end)
unfolding left is_end lookahead_at sees take_token take_lifetime take_mark take_group before rows_for rows run parse_rule
stmt_rest_Self_bang_braces_a = computed statement_rest _ _ _ refl

-- `self!{} a` prints `self ! {} a`
stmt_rest_self_bang_braces_a : DerivesAs statement_rest
    (leaf (ident w_self) (at 0 4) (punct 33 false (at 4 5) (group Brace (at 5 6) (at 6 7) end (leaf (ident (97 ∷ [])) (at 8 9) end))))
    (leaf (ident w_self) call_site (punct 33 false call_site (group Brace call_site call_site end (leaf (ident (97 ∷ [])) call_site end))))
    (end)
unfolding left is_end lookahead_at sees take_token take_lifetime take_mark take_group before rows_for rows run parse_rule
stmt_rest_self_bang_braces_a = computed statement_rest _ _ _ refl

-- `super!{} a` prints `super ! {} a`
stmt_rest_super_bang_braces_a : DerivesAs statement_rest
    (leaf (ident w_super) (at 0 5) (punct 33 false (at 5 6) (group Brace (at 6 7) (at 7 8) end (leaf (ident (97 ∷ [])) (at 9 10) end))))
    (leaf (ident w_super) call_site (punct 33 false call_site (group Brace call_site call_site end (leaf (ident (97 ∷ [])) call_site end))))
    (end)
unfolding left is_end lookahead_at sees take_token take_lifetime take_mark take_group before rows_for rows run parse_rule
stmt_rest_super_bang_braces_a = computed statement_rest _ _ _ refl

-- `crate::b!{} c` prints `crate :: b ! {} c`
stmt_rest_crate_colons_b_bang_braces_c : DerivesAs statement_rest
    (leaf (ident w_crate) (at 0 5) (punct 58 true (at 5 6) (punct 58 false (at 6 7) (leaf (ident (98 ∷ [])) (at 7 8) (punct 33 false (at 8 9) (group Brace (at 9 10) (at 10 11) end (leaf (ident (99 ∷ [])) (at 12 13) end)))))))
    (leaf (ident w_crate) call_site (punct 58 true call_site (punct 58 false call_site (leaf (ident (98 ∷ [])) call_site (punct 33 false call_site (group Brace call_site call_site end (leaf (ident (99 ∷ [])) call_site end)))))))
    (end)
unfolding left is_end lookahead_at sees take_token take_lifetime take_mark take_group before rows_for rows run parse_rule
stmt_rest_crate_colons_b_bang_braces_c = computed statement_rest _ _ _ refl

-- `crate::a` prints `crate :: a`
stmt_rest_crate_colons_a : DerivesAs statement_rest
    (leaf (ident w_crate) (at 0 5) (punct 58 true (at 5 6) (punct 58 false (at 6 7) (leaf (ident (97 ∷ [])) (at 7 8) end))))
    (leaf (ident w_crate) call_site (punct 58 true call_site (punct 58 false call_site (leaf (ident (97 ∷ [])) call_site end))))
    (end)
unfolding left is_end lookahead_at sees take_token take_lifetime take_mark take_group before rows_for rows run parse_rule
stmt_rest_crate_colons_a = computed statement_rest _ _ _ refl

-- `{} a` prints `{} a`
stmt_rest_braces_a : DerivesAs statement_rest
    (group Brace (at 0 1) (at 1 2) end (leaf (ident (97 ∷ [])) (at 3 4) end))
    (group Brace call_site call_site end (leaf (ident (97 ∷ [])) call_site end))
    (end)
unfolding left is_end lookahead_at sees take_token take_lifetime take_mark take_group before rows_for rows run parse_rule
stmt_rest_braces_a = computed statement_rest _ _ _ refl

-- `loop {} a` prints `loop {} a`
stmt_rest_loop_braces_a : DerivesAs statement_rest
    (leaf (ident w_loop) (at 0 4) (group Brace (at 5 6) (at 6 7) end (leaf (ident (97 ∷ [])) (at 8 9) end)))
    (leaf (ident w_loop) call_site (group Brace call_site call_site end (leaf (ident (97 ∷ [])) call_site end)))
    (end)
unfolding left is_end lookahead_at sees take_token take_lifetime take_mark take_group before rows_for rows run parse_rule
stmt_rest_loop_braces_a = computed statement_rest _ _ _ refl

-- `(a);` prints `(a) ;`
stmt_rest_in_paren_a_semi : DerivesAs statement_rest
    (group Paren (at 0 1) (at 2 3) (leaf (ident (97 ∷ [])) (at 1 2) end) (punct 59 false (at 3 4) end))
    (group Paren call_site call_site (leaf (ident (97 ∷ [])) call_site end) (punct 59 false call_site end))
    (end)
unfolding left is_end lookahead_at sees take_token take_lifetime take_mark take_group before rows_for rows run parse_rule
stmt_rest_in_paren_a_semi = computed statement_rest _ _ _ refl

-- `[a];` prints `[a] ;`
stmt_rest_in_bracket_a_semi : DerivesAs statement_rest
    (group Bracket (at 0 1) (at 2 3) (leaf (ident (97 ∷ [])) (at 1 2) end) (punct 59 false (at 3 4) end))
    (group Bracket call_site call_site (leaf (ident (97 ∷ [])) call_site end) (punct 59 false call_site end))
    (end)
unfolding left is_end lookahead_at sees take_token take_lifetime take_mark take_group before rows_for rows run parse_rule
stmt_rest_in_bracket_a_semi = computed statement_rest _ _ _ refl

-- `if a {} b` prints `if a {} b`
stmt_rest_if_a_braces_b : DerivesAs statement_rest
    (leaf (ident w_if) (at 0 2) (leaf (ident (97 ∷ [])) (at 3 4) (group Brace (at 5 6) (at 6 7) end (leaf (ident (98 ∷ [])) (at 8 9) end))))
    (leaf (ident w_if) call_site (leaf (ident (97 ∷ [])) call_site (group Brace call_site call_site end (leaf (ident (98 ∷ [])) call_site end))))
    (end)
unfolding left is_end lookahead_at sees take_token take_lifetime take_mark take_group before rows_for rows run parse_rule
stmt_rest_if_a_braces_b = computed statement_rest _ _ _ refl

-- `while a {} b` prints `while a {} b`
stmt_rest_while_a_braces_b : DerivesAs statement_rest
    (leaf (ident w_while) (at 0 5) (leaf (ident (97 ∷ [])) (at 6 7) (group Brace (at 8 9) (at 9 10) end (leaf (ident (98 ∷ [])) (at 11 12) end))))
    (leaf (ident w_while) call_site (leaf (ident (97 ∷ [])) call_site (group Brace call_site call_site end (leaf (ident (98 ∷ [])) call_site end))))
    (end)
unfolding left is_end lookahead_at sees take_token take_lifetime take_mark take_group before rows_for rows run parse_rule
stmt_rest_while_a_braces_b = computed statement_rest _ _ _ refl

-- `for a in b {} c` prints `for a in b {} c`
stmt_rest_for_a_in_b_braces_c : DerivesAs statement_rest
    (leaf (ident w_for) (at 0 3) (leaf (ident (97 ∷ [])) (at 4 5) (leaf (ident w_in) (at 6 8) (leaf (ident (98 ∷ [])) (at 9 10) (group Brace (at 11 12) (at 12 13) end (leaf (ident (99 ∷ [])) (at 14 15) end))))))
    (leaf (ident w_for) call_site (leaf (ident (97 ∷ [])) call_site (leaf (ident w_in) call_site (leaf (ident (98 ∷ [])) call_site (group Brace call_site call_site end (leaf (ident (99 ∷ [])) call_site end))))))
    (end)
unfolding left is_end lookahead_at sees take_token take_lifetime take_mark take_group before rows_for rows run parse_rule
stmt_rest_for_a_in_b_braces_c = computed statement_rest _ _ _ refl

-- `unsafe {} a` prints `unsafe {} a`
stmt_rest_unsafe_braces_a : DerivesAs statement_rest
    (leaf (ident w_unsafe) (at 0 6) (group Brace (at 7 8) (at 8 9) end (leaf (ident (97 ∷ [])) (at 10 11) end)))
    (leaf (ident w_unsafe) call_site (group Brace call_site call_site end (leaf (ident (97 ∷ [])) call_site end)))
    (end)
unfolding left is_end lookahead_at sees take_token take_lifetime take_mark take_group before rows_for rows run parse_rule
stmt_rest_unsafe_braces_a = computed statement_rest _ _ _ refl

-- `{}?` prints `{} ?`
stmt_rest_braces_question : DerivesAs statement_rest
    (group Brace (at 0 1) (at 1 2) end (punct 63 false (at 2 3) end))
    (group Brace call_site call_site end (punct 63 false call_site end))
    (end)
unfolding left is_end lookahead_at sees take_token take_lifetime take_mark take_group before rows_for rows run parse_rule
stmt_rest_braces_question = computed statement_rest _ _ _ refl

-- `a = b` prints `a = b`
stmt_rest_a_eq_b : DerivesAs statement_rest
    (leaf (ident (97 ∷ [])) (at 0 1) (punct 61 false (at 2 3) (leaf (ident (98 ∷ [])) (at 4 5) end)))
    (leaf (ident (97 ∷ [])) call_site (punct 61 false call_site (leaf (ident (98 ∷ [])) call_site end)))
    (end)
unfolding left is_end lookahead_at sees take_token take_lifetime take_mark take_group before rows_for rows run parse_rule
stmt_rest_a_eq_b = computed statement_rest _ _ _ refl

-- `crate!{}..b`: nothing is read
stmt_rest_crate_bang_braces_dots_b : NotDerived (rule statement_rest)
    (leaf (ident w_crate) (at 0 5) (punct 33 false (at 5 6) (group Brace (at 6 7) (at 7 8) end (punct 46 true (at 8 9) (punct 46 false (at 9 10) (leaf (ident (98 ∷ [])) (at 10 11) end))))))
unfolding left is_end lookahead_at sees take_token take_lifetime take_mark take_group before rows_for rows run parse_rule
stmt_rest_crate_bang_braces_dots_b = not_read statement_rest _ refl

-- `a!{}..b`: nothing is read
stmt_rest_a_bang_braces_dots_b : NotDerived (rule statement_rest)
    (leaf (ident (97 ∷ [])) (at 0 1) (punct 33 false (at 1 2) (group Brace (at 2 3) (at 3 4) end (punct 46 true (at 4 5) (punct 46 false (at 5 6) (leaf (ident (98 ∷ [])) (at 6 7) end))))))
unfolding left is_end lookahead_at sees take_token take_lifetime take_mark take_group before rows_for rows run parse_rule
stmt_rest_a_bang_braces_dots_b = not_read statement_rest _ refl

-- `crate!{}.a;`: nothing is read
stmt_rest_crate_bang_braces_dot_a_semi : NotDerived (rule statement_rest)
    (leaf (ident w_crate) (at 0 5) (punct 33 false (at 5 6) (group Brace (at 6 7) (at 7 8) end (punct 46 false (at 8 9) (leaf (ident (97 ∷ [])) (at 9 10) (punct 59 false (at 10 11) end))))))
unfolding left is_end lookahead_at sees take_token take_lifetime take_mark take_group before rows_for rows run parse_rule
stmt_rest_crate_bang_braces_dot_a_semi = not_read statement_rest _ refl

-- `crate!{}?;`: nothing is read
stmt_rest_crate_bang_braces_question_semi : NotDerived (rule statement_rest)
    (leaf (ident w_crate) (at 0 5) (punct 33 false (at 5 6) (group Brace (at 6 7) (at 7 8) end (punct 63 true (at 8 9) (punct 59 false (at 9 10) end)))))
unfolding left is_end lookahead_at sees take_token take_lifetime take_mark take_group before rows_for rows run parse_rule
stmt_rest_crate_bang_braces_question_semi = not_read statement_rest _ refl

-- `;` prints `;`
after_block_semi : DerivesAs after_block
    (punct 59 false (at 0 1) end)
    (punct 59 false call_site end)
    (end)
unfolding left is_end lookahead_at sees take_token take_lifetime take_mark take_group before rows_for rows run parse_rule
after_block_semi = computed after_block _ _ _ refl

-- `;;` prints `; ;`
after_block_semi_semi : DerivesAs after_block
    (punct 59 true (at 0 1) (punct 59 false (at 1 2) end))
    (punct 59 false call_site (punct 59 false call_site end))
    (end)
unfolding left is_end lookahead_at sees take_token take_lifetime take_mark take_group before rows_for rows run parse_rule
after_block_semi_semi = computed after_block _ _ _ refl

-- `?` prints `?`
after_block_question : DerivesAs after_block
    (punct 63 false (at 0 1) end)
    (punct 63 false call_site end)
    (end)
unfolding left is_end lookahead_at sees take_token take_lifetime take_mark take_group before rows_for rows run parse_rule
after_block_question = computed after_block _ _ _ refl

-- `a` prints `a`
after_block_a : DerivesAs after_block
    (leaf (ident (97 ∷ [])) (at 0 1) end)
    (leaf (ident (97 ∷ [])) call_site end)
    (end)
unfolding left is_end lookahead_at sees take_token take_lifetime take_mark take_group before rows_for rows run parse_rule
after_block_a = computed after_block _ _ _ refl

-- no tokens prints ``
after_block_nothing : DerivesAs after_block
    (end)
    (end)
    (end)
unfolding left is_end lookahead_at sees take_token take_lifetime take_mark take_group before rows_for rows run parse_rule
after_block_nothing = computed after_block _ _ _ refl

-- `.a + b` prints `. a + b`
after_block_dot_a_plus_b : DerivesAs after_block
    (punct 46 false (at 0 1) (leaf (ident (97 ∷ [])) (at 1 2) (punct 43 false (at 3 4) (leaf (ident (98 ∷ [])) (at 5 6) end))))
    (punct 46 false call_site (leaf (ident (97 ∷ [])) call_site (punct 43 false call_site (leaf (ident (98 ∷ [])) call_site end))))
    (end)
unfolding left is_end lookahead_at sees take_token take_lifetime take_mark take_group before rows_for rows run parse_rule
after_block_dot_a_plus_b = computed after_block _ _ _ refl

-- `.a b`: nothing is read
after_block_dot_a_b : NotDerived (rule after_block)
    (punct 46 false (at 0 1) (leaf (ident (97 ∷ [])) (at 1 2) (leaf (ident (98 ∷ [])) (at 3 4) end)))
unfolding left is_end lookahead_at sees take_token take_lifetime take_mark take_group before rows_for rows run parse_rule
after_block_dot_a_b = not_read after_block _ refl

-- `, a`: nothing is read
after_block_comma_a : NotDerived (rule after_block)
    (punct 44 false (at 0 1) (leaf (ident (97 ∷ [])) (at 2 3) end))
unfolding left is_end lookahead_at sees take_token take_lifetime take_mark take_group before rows_for rows run parse_rule
after_block_comma_a = not_read after_block _ refl

-- `.a == b == c;`: nothing is read
after_block_dot_a_eq_eq_b_eq_eq_c_semi : NotDerived (rule after_block)
    (punct 46 false (at 0 1) (leaf (ident (97 ∷ [])) (at 1 2) (punct 61 true (at 3 4) (punct 61 false (at 4 5) (leaf (ident (98 ∷ [])) (at 6 7) (punct 61 true (at 8 9) (punct 61 false (at 9 10) (leaf (ident (99 ∷ [])) (at 11 12) (punct 59 false (at 12 13) end)))))))))
unfolding left is_end lookahead_at sees take_token take_lifetime take_mark take_group before rows_for rows run parse_rule
after_block_dot_a_eq_eq_b_eq_eq_c_semi = not_read after_block _ refl

-- `..a`: nothing is read
after_block_dots_a : NotDerived (rule after_block)
    (punct 46 true (at 0 1) (punct 46 false (at 1 2) (leaf (ident (97 ∷ [])) (at 2 3) end)))
unfolding left is_end lookahead_at sees take_token take_lifetime take_mark take_group before rows_for rows run parse_rule
after_block_dots_a = not_read after_block _ refl

-- `;` prints `;`
after_expr_semi : DerivesAs after_expression
    (punct 59 false (at 0 1) end)
    (punct 59 false call_site end)
    (end)
unfolding left is_end lookahead_at sees take_token take_lifetime take_mark take_group before rows_for rows run parse_rule
after_expr_semi = computed after_expression _ _ _ refl

-- `;;` prints `; ;`
after_expr_semi_semi : DerivesAs after_expression
    (punct 59 true (at 0 1) (punct 59 false (at 1 2) end))
    (punct 59 false call_site (punct 59 false call_site end))
    (end)
unfolding left is_end lookahead_at sees take_token take_lifetime take_mark take_group before rows_for rows run parse_rule
after_expr_semi_semi = computed after_expression _ _ _ refl

-- no tokens prints ``
after_expr_nothing : DerivesAs after_expression
    (end)
    (end)
    (end)
unfolding left is_end lookahead_at sees take_token take_lifetime take_mark take_group before rows_for rows run parse_rule
after_expr_nothing = computed after_expression _ _ _ refl

-- `, a`: nothing is read
after_expr_comma_a : NotDerived (rule after_expression)
    (punct 44 false (at 0 1) (leaf (ident (97 ∷ [])) (at 2 3) end))
unfolding left is_end lookahead_at sees take_token take_lifetime take_mark take_group before rows_for rows run parse_rule
after_expr_comma_a = not_read after_expression _ refl

-- `#[a] {}` prints `# [a] {}`
stmt_pound_in_bracket_a_braces : DerivesAs statement
    (punct 35 false (at 0 1) (group Bracket (at 1 2) (at 3 4) (leaf (ident (97 ∷ [])) (at 2 3) end) (group Brace (at 5 6) (at 6 7) end end)))
    (punct 35 false call_site (group Bracket call_site call_site (leaf (ident (97 ∷ [])) call_site end) (group Brace call_site call_site end end)))
    (end)
unfolding left is_end lookahead_at sees take_token take_lifetime take_mark take_group before first_span rows_for rows run parse_rule
stmt_pound_in_bracket_a_braces = computed statement _ _ _ refl

-- `a ! {} #.` prints `a ! {}` and leaves `#.`
stmt_a_bang_braces_pound_dot : DerivesAs statement
    (leaf (ident (97 ∷ [])) (at 0 1) (punct 33 false (at 2 3) (group Brace (at 4 5) (at 5 6) end (punct 35 true (at 7 8) (punct 46 false (at 8 9) end)))))
    (leaf (ident (97 ∷ [])) call_site (punct 33 false call_site (group Brace call_site call_site end end)))
    (punct 35 true (at 7 8) (punct 46 false (at 8 9) end))
unfolding left is_end lookahead_at sees take_token take_lifetime take_mark take_group before first_span rows_for rows run parse_rule
stmt_a_bang_braces_pound_dot = computed statement _ _ _ refl

-- `crate!{}` prints `crate ! {}`
stmt_crate_bang_braces : DerivesAs statement
    (leaf (ident w_crate) (at 0 5) (punct 33 false (at 5 6) (group Brace (at 6 7) (at 7 8) end end)))
    (leaf (ident w_crate) call_site (punct 33 false call_site (group Brace call_site call_site end end)))
    (end)
unfolding left is_end lookahead_at sees take_token take_lifetime take_mark take_group before first_span rows_for rows run parse_rule
stmt_crate_bang_braces = computed statement _ _ _ refl

-- `crate!{} a` prints `crate ! {}` and leaves `a`
stmt_crate_bang_braces_a : DerivesAs statement
    (leaf (ident w_crate) (at 0 5) (punct 33 false (at 5 6) (group Brace (at 6 7) (at 7 8) end (leaf (ident (97 ∷ [])) (at 9 10) end))))
    (leaf (ident w_crate) call_site (punct 33 false call_site (group Brace call_site call_site end end)))
    (leaf (ident (97 ∷ [])) (at 9 10) end)
unfolding left is_end lookahead_at sees take_token take_lifetime take_mark take_group before first_span rows_for rows run parse_rule
stmt_crate_bang_braces_a = computed statement _ _ _ refl

-- `crate!{};;` prints `crate ! {} ;` and leaves `;`
stmt_crate_bang_braces_semi_semi : DerivesAs statement
    (leaf (ident w_crate) (at 0 5) (punct 33 false (at 5 6) (group Brace (at 6 7) (at 7 8) end (punct 59 true (at 8 9) (punct 59 false (at 9 10) end)))))
    (leaf (ident w_crate) call_site (punct 33 false call_site (group Brace call_site call_site end (punct 59 false call_site end))))
    (punct 59 false (at 9 10) end)
unfolding left is_end lookahead_at sees take_token take_lifetime take_mark take_group before first_span rows_for rows run parse_rule
stmt_crate_bang_braces_semi_semi = computed statement _ _ _ refl

-- `a!{} b` prints `a ! {}` and leaves `b`
stmt_a_bang_braces_b : DerivesAs statement
    (leaf (ident (97 ∷ [])) (at 0 1) (punct 33 false (at 1 2) (group Brace (at 2 3) (at 3 4) end (leaf (ident (98 ∷ [])) (at 5 6) end))))
    (leaf (ident (97 ∷ [])) call_site (punct 33 false call_site (group Brace call_site call_site end end)))
    (leaf (ident (98 ∷ [])) (at 5 6) end)
unfolding left is_end lookahead_at sees take_token take_lifetime take_mark take_group before first_span rows_for rows run parse_rule
stmt_a_bang_braces_b = computed statement _ _ _ refl

-- `a!{};;` prints `a ! {} ;` and leaves `;`
stmt_a_bang_braces_semi_semi : DerivesAs statement
    (leaf (ident (97 ∷ [])) (at 0 1) (punct 33 false (at 1 2) (group Brace (at 2 3) (at 3 4) end (punct 59 true (at 4 5) (punct 59 false (at 5 6) end)))))
    (leaf (ident (97 ∷ [])) call_site (punct 33 false call_site (group Brace call_site call_site end (punct 59 false call_site end))))
    (punct 59 false (at 5 6) end)
unfolding left is_end lookahead_at sees take_token take_lifetime take_mark take_group before first_span rows_for rows run parse_rule
stmt_a_bang_braces_semi_semi = computed statement _ _ _ refl

-- `let a; let b;` prints `let a ;` and leaves `let b ;`
stmt_let_a_semi_let_b_semi : DerivesAs statement
    (leaf (ident w_let) (at 0 3) (leaf (ident (97 ∷ [])) (at 4 5) (punct 59 false (at 5 6) (leaf (ident w_let) (at 7 10) (leaf (ident (98 ∷ [])) (at 11 12) (punct 59 false (at 12 13) end))))))
    (leaf (ident w_let) call_site (leaf (ident (97 ∷ [])) call_site (punct 59 false call_site end)))
    (leaf (ident w_let) (at 7 10) (leaf (ident (98 ∷ [])) (at 11 12) (punct 59 false (at 12 13) end)))
unfolding left is_end lookahead_at sees take_token take_lifetime take_mark take_group before first_span rows_for rows run parse_rule
stmt_let_a_semi_let_b_semi = computed statement _ _ _ refl

-- `{} {}` prints `{}` and leaves `{}`
stmt_braces_braces : DerivesAs statement
    (group Brace (at 0 1) (at 1 2) end (group Brace (at 3 4) (at 4 5) end end))
    (group Brace call_site call_site end end)
    (group Brace (at 3 4) (at 4 5) end end)
unfolding left is_end lookahead_at sees take_token take_lifetime take_mark take_group before first_span rows_for rows run parse_rule
stmt_braces_braces = computed statement _ _ _ refl

-- `{};;` prints `{} ;` and leaves `;`
stmt_braces_semi_semi : DerivesAs statement
    (group Brace (at 0 1) (at 1 2) end (punct 59 true (at 2 3) (punct 59 false (at 3 4) end)))
    (group Brace call_site call_site end (punct 59 false call_site end))
    (punct 59 false (at 3 4) end)
unfolding left is_end lookahead_at sees take_token take_lifetime take_mark take_group before first_span rows_for rows run parse_rule
stmt_braces_semi_semi = computed statement _ _ _ refl

-- `a; b` prints `a ;` and leaves `b`
stmt_a_semi_b : DerivesAs statement
    (leaf (ident (97 ∷ [])) (at 0 1) (punct 59 false (at 1 2) (leaf (ident (98 ∷ [])) (at 3 4) end)))
    (leaf (ident (97 ∷ [])) call_site (punct 59 false call_site end))
    (leaf (ident (98 ∷ [])) (at 3 4) end)
unfolding left is_end lookahead_at sees take_token take_lifetime take_mark take_group before first_span rows_for rows run parse_rule
stmt_a_semi_b = computed statement _ _ _ refl

-- `a {} ;` prints `a { } ;`
stmt_a_braces_semi : DerivesAs statement
    (leaf (ident (97 ∷ [])) (at 0 1) (group Brace (at 2 3) (at 3 4) end (punct 59 false (at 5 6) end)))
    (leaf (ident (97 ∷ [])) call_site (group Brace call_site call_site end (punct 59 false call_site end)))
    (end)
unfolding left is_end lookahead_at sees take_token take_lifetime take_mark take_group before first_span rows_for rows run parse_rule
stmt_a_braces_semi = computed statement _ _ _ refl

-- `;a;`: nothing is read
stmt_semi_a_semi : NotDerived (rule statement)
    (punct 59 false (at 0 1) (leaf (ident (97 ∷ [])) (at 1 2) (punct 59 false (at 2 3) end)))
unfolding left is_end lookahead_at sees take_token take_lifetime take_mark take_group before first_span rows_for rows run parse_rule
stmt_semi_a_semi = not_read statement _ refl

-- `a;;` prints `a ;` and leaves `;`
stmt_a_semi_semi : DerivesAs statement
    (leaf (ident (97 ∷ [])) (at 0 1) (punct 59 true (at 1 2) (punct 59 false (at 2 3) end)))
    (leaf (ident (97 ∷ [])) call_site (punct 59 false call_site end))
    (punct 59 false (at 2 3) end)
unfolding left is_end lookahead_at sees take_token take_lifetime take_mark take_group before first_span rows_for rows run parse_rule
stmt_a_semi_semi = computed statement _ _ _ refl

-- `crate!{}?;` prints `crate ! {}` and leaves `?;`
stmt_crate_bang_braces_question_semi : DerivesAs statement
    (leaf (ident w_crate) (at 0 5) (punct 33 false (at 5 6) (group Brace (at 6 7) (at 7 8) end (punct 63 true (at 8 9) (punct 59 false (at 9 10) end)))))
    (leaf (ident w_crate) call_site (punct 33 false call_site (group Brace call_site call_site end end)))
    (punct 63 true (at 8 9) (punct 59 false (at 9 10) end))
unfolding left is_end lookahead_at sees take_token take_lifetime take_mark take_group before first_span rows_for rows run parse_rule
stmt_crate_bang_braces_question_semi = computed statement _ _ _ refl

-- `crate!()`: nothing is read
stmt_crate_bang_parens : NotDerived (rule statement)
    (leaf (ident w_crate) (at 0 5) (punct 33 false (at 5 6) (group Paren (at 6 7) (at 7 8) end end)))
unfolding left is_end lookahead_at sees take_token take_lifetime take_mark take_group before first_span rows_for rows run parse_rule
stmt_crate_bang_parens = not_read statement _ refl

-- `a!{}?; b` prints `a ! {} ? ;` and leaves `b`
stmt_a_bang_braces_question_semi_b : DerivesAs statement
    (leaf (ident (97 ∷ [])) (at 0 1) (punct 33 false (at 1 2) (group Brace (at 2 3) (at 3 4) end (punct 63 true (at 4 5) (punct 59 false (at 5 6) (leaf (ident (98 ∷ [])) (at 7 8) end))))))
    (leaf (ident (97 ∷ [])) call_site (punct 33 false call_site (group Brace call_site call_site end (punct 63 false call_site (punct 59 false call_site end)))))
    (leaf (ident (98 ∷ [])) (at 7 8) end)
unfolding left is_end lookahead_at sees take_token take_lifetime take_mark take_group before first_span rows_for rows run parse_rule
stmt_a_bang_braces_question_semi_b = computed statement _ _ _ refl

-- `crate::a!{}.b;` prints `crate :: a ! {} . b ;`
stmt_crate_colons_a_bang_braces_dot_b_semi : DerivesAs statement
    (leaf (ident w_crate) (at 0 5) (punct 58 true (at 5 6) (punct 58 false (at 6 7) (leaf (ident (97 ∷ [])) (at 7 8) (punct 33 false (at 8 9) (group Brace (at 9 10) (at 10 11) end (punct 46 false (at 11 12) (leaf (ident (98 ∷ [])) (at 12 13) (punct 59 false (at 13 14) end)))))))))
    (leaf (ident w_crate) call_site (punct 58 true call_site (punct 58 false call_site (leaf (ident (97 ∷ [])) call_site (punct 33 false call_site (group Brace call_site call_site end (punct 46 false call_site (leaf (ident (98 ∷ [])) call_site (punct 59 false call_site end)))))))))
    (end)
unfolding left is_end lookahead_at sees take_token take_lifetime take_mark take_group before first_span rows_for rows run parse_rule
stmt_crate_colons_a_bang_braces_dot_b_semi = computed statement _ _ _ refl

-- `crate!{}.a;` prints `crate ! {}` and leaves `.a;`
stmt_crate_bang_braces_dot_a_semi : DerivesAs statement
    (leaf (ident w_crate) (at 0 5) (punct 33 false (at 5 6) (group Brace (at 6 7) (at 7 8) end (punct 46 false (at 8 9) (leaf (ident (97 ∷ [])) (at 9 10) (punct 59 false (at 10 11) end))))))
    (leaf (ident w_crate) call_site (punct 33 false call_site (group Brace call_site call_site end end)))
    (punct 46 false (at 8 9) (leaf (ident (97 ∷ [])) (at 9 10) (punct 59 false (at 10 11) end)))
unfolding left is_end lookahead_at sees take_token take_lifetime take_mark take_group before first_span rows_for rows run parse_rule
stmt_crate_bang_braces_dot_a_semi = computed statement _ _ _ refl

-- `! {super} ;` prints `! {super} ;`
stmt_bang_in_brace_super_semi : DerivesAs statement
    (punct 33 false (at 0 1) (group Brace (at 2 3) (at 8 9) (leaf (ident w_super) (at 3 8) end) (punct 59 false (at 10 11) end)))
    (punct 33 false call_site (group Brace call_site call_site (leaf (ident w_super) call_site end) (punct 59 false call_site end)))
    (end)
unfolding left is_end lookahead_at sees take_token take_lifetime take_mark take_group before first_span rows_for rows run parse_rule
stmt_bang_in_brace_super_semi = computed statement _ _ _ refl

-- `::a!{}` prints `:: a ! {}`
stmt_colons_a_bang_braces : DerivesAs statement
    (punct 58 true (at 0 1) (punct 58 false (at 1 2) (leaf (ident (97 ∷ [])) (at 2 3) (punct 33 false (at 3 4) (group Brace (at 4 5) (at 5 6) end end)))))
    (punct 58 true call_site (punct 58 false call_site (leaf (ident (97 ∷ [])) call_site (punct 33 false call_site (group Brace call_site call_site end end)))))
    (end)
unfolding left is_end lookahead_at sees take_token take_lifetime take_mark take_group before first_span rows_for rows run parse_rule
stmt_colons_a_bang_braces = computed statement _ _ _ refl

-- `Self!{}` prints `Self ! {}`
stmt_Self_bang_braces : DerivesAs statement
    (leaf (ident w_Self_type) (at 0 4) (punct 33 false (at 4 5) (group Brace (at 5 6) (at 6 7) end end)))
    (leaf (ident w_Self_type) call_site (punct 33 false call_site (group Brace call_site call_site end end)))
    (end)
unfolding left is_end lookahead_at sees take_token take_lifetime take_mark take_group before first_span rows_for rows run parse_rule
stmt_Self_bang_braces = computed statement _ _ _ refl

-- `self!{}` prints `self ! {}`
stmt_self_bang_braces : DerivesAs statement
    (leaf (ident w_self) (at 0 4) (punct 33 false (at 4 5) (group Brace (at 5 6) (at 6 7) end end)))
    (leaf (ident w_self) call_site (punct 33 false call_site (group Brace call_site call_site end end)))
    (end)
unfolding left is_end lookahead_at sees take_token take_lifetime take_mark take_group before first_span rows_for rows run parse_rule
stmt_self_bang_braces = computed statement _ _ _ refl

-- `super!{}` prints `super ! {}`
stmt_super_bang_braces : DerivesAs statement
    (leaf (ident w_super) (at 0 5) (punct 33 false (at 5 6) (group Brace (at 6 7) (at 7 8) end end)))
    (leaf (ident w_super) call_site (punct 33 false call_site (group Brace call_site call_site end end)))
    (end)
unfolding left is_end lookahead_at sees take_token take_lifetime take_mark take_group before first_span rows_for rows run parse_rule
stmt_super_bang_braces = computed statement _ _ _ refl

-- `crate::a!{}` prints `crate :: a ! {}`
stmt_crate_colons_a_bang_braces : DerivesAs statement
    (leaf (ident w_crate) (at 0 5) (punct 58 true (at 5 6) (punct 58 false (at 6 7) (leaf (ident (97 ∷ [])) (at 7 8) (punct 33 false (at 8 9) (group Brace (at 9 10) (at 10 11) end end))))))
    (leaf (ident w_crate) call_site (punct 58 true call_site (punct 58 false call_site (leaf (ident (97 ∷ [])) call_site (punct 33 false call_site (group Brace call_site call_site end end))))))
    (end)
unfolding left is_end lookahead_at sees take_token take_lifetime take_mark take_group before first_span rows_for rows run parse_rule
stmt_crate_colons_a_bang_braces = computed statement _ _ _ refl

-- `crate;`: nothing is read
stmt_crate_semi : NotDerived (rule statement)
    (leaf (ident w_crate) (at 0 5) (punct 59 false (at 5 6) end))
unfolding left is_end lookahead_at sees take_token take_lifetime take_mark take_group before first_span rows_for rows run parse_rule
stmt_crate_semi = not_read statement _ refl

-- `crate::a;` prints `crate :: a ;`
stmt_crate_colons_a_semi : DerivesAs statement
    (leaf (ident w_crate) (at 0 5) (punct 58 true (at 5 6) (punct 58 false (at 6 7) (leaf (ident (97 ∷ [])) (at 7 8) (punct 59 false (at 8 9) end)))))
    (leaf (ident w_crate) call_site (punct 58 true call_site (punct 58 false call_site (leaf (ident (97 ∷ [])) call_site (punct 59 false call_site end)))))
    (end)
unfolding left is_end lookahead_at sees take_token take_lifetime take_mark take_group before first_span rows_for rows run parse_rule
stmt_crate_colons_a_semi = computed statement _ _ _ refl

-- `loop {}` prints `loop {}`
stmt_loop_braces : DerivesAs statement
    (leaf (ident w_loop) (at 0 4) (group Brace (at 5 6) (at 6 7) end end))
    (leaf (ident w_loop) call_site (group Brace call_site call_site end end))
    (end)
unfolding left is_end lookahead_at sees take_token take_lifetime take_mark take_group before first_span rows_for rows run parse_rule
stmt_loop_braces = computed statement _ _ _ refl

-- `(a);` prints `(a) ;`
stmt_in_paren_a_semi : DerivesAs statement
    (group Paren (at 0 1) (at 2 3) (leaf (ident (97 ∷ [])) (at 1 2) end) (punct 59 false (at 3 4) end))
    (group Paren call_site call_site (leaf (ident (97 ∷ [])) call_site end) (punct 59 false call_site end))
    (end)
unfolding left is_end lookahead_at sees take_token take_lifetime take_mark take_group before first_span rows_for rows run parse_rule
stmt_in_paren_a_semi = computed statement _ _ _ refl

-- `[a];` prints `[a] ;`
stmt_in_bracket_a_semi : DerivesAs statement
    (group Bracket (at 0 1) (at 2 3) (leaf (ident (97 ∷ [])) (at 1 2) end) (punct 59 false (at 3 4) end))
    (group Bracket call_site call_site (leaf (ident (97 ∷ [])) call_site end) (punct 59 false call_site end))
    (end)
unfolding left is_end lookahead_at sees take_token take_lifetime take_mark take_group before first_span rows_for rows run parse_rule
stmt_in_bracket_a_semi = computed statement _ _ _ refl

-- `if a {} b` prints `if a {}` and leaves `b`
stmt_if_a_braces_b : DerivesAs statement
    (leaf (ident w_if) (at 0 2) (leaf (ident (97 ∷ [])) (at 3 4) (group Brace (at 5 6) (at 6 7) end (leaf (ident (98 ∷ [])) (at 8 9) end))))
    (leaf (ident w_if) call_site (leaf (ident (97 ∷ [])) call_site (group Brace call_site call_site end end)))
    (leaf (ident (98 ∷ [])) (at 8 9) end)
unfolding left is_end lookahead_at sees take_token take_lifetime take_mark take_group before first_span rows_for rows run parse_rule
stmt_if_a_braces_b = computed statement _ _ _ refl

-- `while a {}` prints `while a {}`
stmt_while_a_braces : DerivesAs statement
    (leaf (ident w_while) (at 0 5) (leaf (ident (97 ∷ [])) (at 6 7) (group Brace (at 8 9) (at 9 10) end end)))
    (leaf (ident w_while) call_site (leaf (ident (97 ∷ [])) call_site (group Brace call_site call_site end end)))
    (end)
unfolding left is_end lookahead_at sees take_token take_lifetime take_mark take_group before first_span rows_for rows run parse_rule
stmt_while_a_braces = computed statement _ _ _ refl

-- `for a in b {}` prints `for a in b {}`
stmt_for_a_in_b_braces : DerivesAs statement
    (leaf (ident w_for) (at 0 3) (leaf (ident (97 ∷ [])) (at 4 5) (leaf (ident w_in) (at 6 8) (leaf (ident (98 ∷ [])) (at 9 10) (group Brace (at 11 12) (at 12 13) end end)))))
    (leaf (ident w_for) call_site (leaf (ident (97 ∷ [])) call_site (leaf (ident w_in) call_site (leaf (ident (98 ∷ [])) call_site (group Brace call_site call_site end end)))))
    (end)
unfolding left is_end lookahead_at sees take_token take_lifetime take_mark take_group before first_span rows_for rows run parse_rule
stmt_for_a_in_b_braces = computed statement _ _ _ refl

-- `unsafe {}` prints `unsafe {}`
stmt_unsafe_braces : DerivesAs statement
    (leaf (ident w_unsafe) (at 0 6) (group Brace (at 7 8) (at 8 9) end end))
    (leaf (ident w_unsafe) call_site (group Brace call_site call_site end end))
    (end)
unfolding left is_end lookahead_at sees take_token take_lifetime take_mark take_group before first_span rows_for rows run parse_rule
stmt_unsafe_braces = computed statement _ _ _ refl

-- `a = b;` prints `a = b ;`
stmt_a_eq_b_semi : DerivesAs statement
    (leaf (ident (97 ∷ [])) (at 0 1) (punct 61 false (at 2 3) (leaf (ident (98 ∷ [])) (at 4 5) (punct 59 false (at 5 6) end))))
    (leaf (ident (97 ∷ [])) call_site (punct 61 false call_site (leaf (ident (98 ∷ [])) call_site (punct 59 false call_site end))))
    (end)
unfolding left is_end lookahead_at sees take_token take_lifetime take_mark take_group before first_span rows_for rows run parse_rule
stmt_a_eq_b_semi = computed statement _ _ _ refl

-- `a,`: nothing is read
stmt_a_comma : NotDerived (rule statement)
    (leaf (ident (97 ∷ [])) (at 0 1) (punct 44 false (at 1 2) end))
unfolding left is_end lookahead_at sees take_token take_lifetime take_mark take_group before first_span rows_for rows run parse_rule
stmt_a_comma = not_read statement _ refl

-- `crate!{}..b` prints `crate ! {}` and leaves `..b`
stmt_crate_bang_braces_dots_b : DerivesAs statement
    (leaf (ident w_crate) (at 0 5) (punct 33 false (at 5 6) (group Brace (at 6 7) (at 7 8) end (punct 46 true (at 8 9) (punct 46 false (at 9 10) (leaf (ident (98 ∷ [])) (at 10 11) end))))))
    (leaf (ident w_crate) call_site (punct 33 false call_site (group Brace call_site call_site end end)))
    (punct 46 true (at 8 9) (punct 46 false (at 9 10) (leaf (ident (98 ∷ [])) (at 10 11) end)))
unfolding left is_end lookahead_at sees take_token take_lifetime take_mark take_group before first_span rows_for rows run parse_rule
stmt_crate_bang_braces_dots_b = computed statement _ _ _ refl

-- `a!{}..b` prints `a ! {}` and leaves `..b`
stmt_a_bang_braces_dots_b : DerivesAs statement
    (leaf (ident (97 ∷ [])) (at 0 1) (punct 33 false (at 1 2) (group Brace (at 2 3) (at 3 4) end (punct 46 true (at 4 5) (punct 46 false (at 5 6) (leaf (ident (98 ∷ [])) (at 6 7) end))))))
    (leaf (ident (97 ∷ [])) call_site (punct 33 false call_site (group Brace call_site call_site end end)))
    (punct 46 true (at 4 5) (punct 46 false (at 5 6) (leaf (ident (98 ∷ [])) (at 6 7) end)))
unfolding left is_end lookahead_at sees take_token take_lifetime take_mark take_group before first_span rows_for rows run parse_rule
stmt_a_bang_braces_dots_b = computed statement _ _ _ refl

-- `;;` prints `;` and leaves `;`
stmt_end_semi_semi : DerivesAs statement_end
    (punct 59 true (at 0 1) (punct 59 false (at 1 2) end))
    (punct 59 false call_site end)
    (punct 59 false (at 1 2) end)
unfolding left is_end lookahead_at sees take_token take_lifetime take_mark take_group before rows_for rows run parse_rule
stmt_end_semi_semi = computed statement_end _ _ _ refl

-- `.a ;;` prints `. a ;` and leaves `;`
stmt_end_dot_a_semi_semi : DerivesAs statement_end
    (punct 46 false (at 0 1) (leaf (ident (97 ∷ [])) (at 1 2) (punct 59 true (at 3 4) (punct 59 false (at 4 5) end))))
    (punct 46 false call_site (leaf (ident (97 ∷ [])) call_site (punct 59 false call_site end)))
    (punct 59 false (at 4 5) end)
unfolding left is_end lookahead_at sees take_token take_lifetime take_mark take_group before rows_for rows run parse_rule
stmt_end_dot_a_semi_semi = computed statement_end _ _ _ refl

-- no tokens prints ``
stmt_end_nothing : DerivesAs statement_end
    (end)
    (end)
    (end)
unfolding left is_end lookahead_at sees take_token take_lifetime take_mark take_group before rows_for rows run parse_rule
stmt_end_nothing = computed statement_end _ _ _ refl

-- `.a + b;` prints `. a + b ;`
stmt_end_dot_a_plus_b_semi : DerivesAs statement_end
    (punct 46 false (at 0 1) (leaf (ident (97 ∷ [])) (at 1 2) (punct 43 false (at 3 4) (leaf (ident (98 ∷ [])) (at 5 6) (punct 59 false (at 6 7) end)))))
    (punct 46 false call_site (leaf (ident (97 ∷ [])) call_site (punct 43 false call_site (leaf (ident (98 ∷ [])) call_site (punct 59 false call_site end)))))
    (end)
unfolding left is_end lookahead_at sees take_token take_lifetime take_mark take_group before rows_for rows run parse_rule
stmt_end_dot_a_plus_b_semi = computed statement_end _ _ _ refl

-- `?,`: nothing is read
stmt_end_question_comma : NotDerived (rule statement_end)
    (punct 63 true (at 0 1) (punct 44 false (at 1 2) end))
unfolding left is_end lookahead_at sees take_token take_lifetime take_mark take_group before rows_for rows run parse_rule
stmt_end_question_comma = not_read statement_end _ refl

-- `.a == b == c;`: nothing is read
stmt_end_dot_a_eq_eq_b_eq_eq_c_semi : NotDerived (rule statement_end)
    (punct 46 false (at 0 1) (leaf (ident (97 ∷ [])) (at 1 2) (punct 61 true (at 3 4) (punct 61 false (at 4 5) (leaf (ident (98 ∷ [])) (at 6 7) (punct 61 true (at 8 9) (punct 61 false (at 9 10) (leaf (ident (99 ∷ [])) (at 11 12) (punct 59 false (at 12 13) end)))))))))
unfolding left is_end lookahead_at sees take_token take_lifetime take_mark take_group before rows_for rows run parse_rule
stmt_end_dot_a_eq_eq_b_eq_eq_c_semi = not_read statement_end _ refl

-- `.a; .b` prints `. a ;` and leaves `. b`
stmt_end_dot_a_semi_dot_b : DerivesAs statement_end
    (punct 46 false (at 0 1) (leaf (ident (97 ∷ [])) (at 1 2) (punct 59 false (at 2 3) (punct 46 false (at 4 5) (leaf (ident (98 ∷ [])) (at 5 6) end)))))
    (punct 46 false call_site (leaf (ident (97 ∷ [])) call_site (punct 59 false call_site end)))
    (punct 46 false (at 4 5) (leaf (ident (98 ∷ [])) (at 5 6) end))
unfolding left is_end lookahead_at sees take_token take_lifetime take_mark take_group before rows_for rows run parse_rule
stmt_end_dot_a_semi_dot_b = computed statement_end _ _ _ refl

-- `.a; .b;` prints `. a ;` and leaves `. b ;`
stmt_end_dot_a_semi_dot_b_semi : DerivesAs statement_end
    (punct 46 false (at 0 1) (leaf (ident (97 ∷ [])) (at 1 2) (punct 59 false (at 2 3) (punct 46 false (at 4 5) (leaf (ident (98 ∷ [])) (at 5 6) (punct 59 false (at 6 7) end))))))
    (punct 46 false call_site (leaf (ident (97 ∷ [])) call_site (punct 59 false call_site end)))
    (punct 46 false (at 4 5) (leaf (ident (98 ∷ [])) (at 5 6) (punct 59 false (at 6 7) end)))
unfolding left is_end lookahead_at sees take_token take_lifetime take_mark take_group before rows_for rows run parse_rule
stmt_end_dot_a_semi_dot_b_semi = computed statement_end _ _ _ refl

-- `..a` prints `` and leaves `..a`
stmt_end_dots_a : DerivesAs statement_end
    (punct 46 true (at 0 1) (punct 46 false (at 1 2) (leaf (ident (97 ∷ [])) (at 2 3) end)))
    (end)
    (punct 46 true (at 0 1) (punct 46 false (at 1 2) (leaf (ident (97 ∷ [])) (at 2 3) end)))
unfolding left is_end lookahead_at sees take_token take_lifetime take_mark take_group before rows_for rows run parse_rule
stmt_end_dots_a = computed statement_end _ _ _ refl

-- `a;`: nothing is read
local_a_semi : NotDerived (rule local)
    (leaf (ident (97 ∷ [])) (at 0 1) (punct 59 false (at 1 2) end))
unfolding left is_end lookahead_at sees take_token take_lifetime take_mark take_group before rows_for rows run parse_rule
local_a_semi = not_read local _ refl

-- `let let a;`: nothing is read
local_let_let_a_semi : NotDerived (rule local)
    (leaf (ident w_let) (at 0 3) (leaf (ident w_let) (at 4 7) (leaf (ident (97 ∷ [])) (at 8 9) (punct 59 false (at 9 10) end))))
unfolding left is_end lookahead_at sees take_token take_lifetime take_mark take_group before rows_for rows run parse_rule
local_let_let_a_semi = not_read local _ refl

-- `let a: 1 = 2;`: nothing is read
local_let_a_type_number : NotDerived (rule local)
    (leaf (ident w_let) (at 0 3) (leaf (ident (97 ∷ [])) (at 4 5) (punct 58 false (at 5 6) (leaf (literal Int (49 ∷ [])) (at 7 8) (punct 61 false (at 9 10) (leaf (literal Int (50 ∷ [])) (at 11 12) (punct 59 false (at 12 13) end)))))))
unfolding left is_end lookahead_at sees take_token take_lifetime take_mark take_group before rows_for rows run parse_rule
local_let_a_type_number = not_read local _ refl

-- `let a b;`: nothing is read
local_let_a_b_semi : NotDerived (rule local)
    (leaf (ident w_let) (at 0 3) (leaf (ident (97 ∷ [])) (at 4 5) (leaf (ident (98 ∷ [])) (at 6 7) (punct 59 false (at 7 8) end))))
unfolding left is_end lookahead_at sees take_token take_lifetime take_mark take_group before rows_for rows run parse_rule
local_let_a_b_semi = not_read local _ refl

-- `let a = b; c` prints `let a = b ;` and leaves `c`
local_let_a_eq_b_semi_c : DerivesAs local
    (leaf (ident w_let) (at 0 3) (leaf (ident (97 ∷ [])) (at 4 5) (punct 61 false (at 6 7) (leaf (ident (98 ∷ [])) (at 8 9) (punct 59 false (at 9 10) (leaf (ident (99 ∷ [])) (at 11 12) end))))))
    (leaf (ident w_let) call_site (leaf (ident (97 ∷ [])) call_site (punct 61 false call_site (leaf (ident (98 ∷ [])) call_site (punct 59 false call_site end)))))
    (leaf (ident (99 ∷ [])) (at 11 12) end)
unfolding left is_end lookahead_at sees take_token take_lifetime take_mark take_group before rows_for rows run parse_rule
local_let_a_eq_b_semi_c = computed local _ _ _ refl

-- `let = a b = c ;`: nothing is read
local_let_eq_a_b_eq_c_semi : NotDerived (rule local)
    (leaf (ident w_let) (at 0 3) (punct 61 false (at 4 5) (leaf (ident (97 ∷ [])) (at 6 7) (leaf (ident (98 ∷ [])) (at 8 9) (punct 61 false (at 10 11) (leaf (ident (99 ∷ [])) (at 12 13) (punct 59 false (at 14 15) end)))))))
unfolding left is_end lookahead_at sees take_token take_lifetime take_mark take_group before rows_for rows run parse_rule
local_let_eq_a_b_eq_c_semi = not_read local _ refl

-- `let ; T = b ; a`: nothing is read
local_let_semi_T_eq_b_semi_a : NotDerived (rule local)
    (leaf (ident w_let) (at 0 3) (punct 59 false (at 4 5) (leaf (ident (84 ∷ [])) (at 6 7) (punct 61 false (at 8 9) (leaf (ident (98 ∷ [])) (at 10 11) (punct 59 false (at 12 13) (leaf (ident (97 ∷ [])) (at 14 15) end)))))))
unfolding left is_end lookahead_at sees take_token take_lifetime take_mark take_group before rows_for rows run parse_rule
local_let_semi_T_eq_b_semi_a = not_read local _ refl

-- `let a: T;;` prints `let a : T ;` and leaves `;`
local_let_a_colon_T_semi_semi : DerivesAs local
    (leaf (ident w_let) (at 0 3) (leaf (ident (97 ∷ [])) (at 4 5) (punct 58 false (at 5 6) (leaf (ident (84 ∷ [])) (at 7 8) (punct 59 true (at 8 9) (punct 59 false (at 9 10) end))))))
    (leaf (ident w_let) call_site (leaf (ident (97 ∷ [])) call_site (punct 58 false call_site (leaf (ident (84 ∷ [])) call_site (punct 59 false call_site end)))))
    (punct 59 false (at 9 10) end)
unfolding left is_end lookahead_at sees take_token take_lifetime take_mark take_group before rows_for rows run parse_rule
local_let_a_colon_T_semi_semi = computed local _ _ _ refl

-- `let a: T: U;`: nothing is read
local_let_a_colon_T_colon_U_semi : NotDerived (rule local)
    (leaf (ident w_let) (at 0 3) (leaf (ident (97 ∷ [])) (at 4 5) (punct 58 false (at 5 6) (leaf (ident (84 ∷ [])) (at 7 8) (punct 58 false (at 8 9) (leaf (ident (85 ∷ [])) (at 10 11) (punct 59 false (at 11 12) end)))))))
unfolding left is_end lookahead_at sees take_token take_lifetime take_mark take_group before rows_for rows run parse_rule
local_let_a_colon_T_colon_U_semi = not_read local _ refl

-- `let a: : T;`: nothing is read
local_let_a_colon_colon_T_semi : NotDerived (rule local)
    (leaf (ident w_let) (at 0 3) (leaf (ident (97 ∷ [])) (at 4 5) (punct 58 false (at 5 6) (punct 58 false (at 7 8) (leaf (ident (84 ∷ [])) (at 9 10) (punct 59 false (at 10 11) end))))))
unfolding left is_end lookahead_at sees take_token take_lifetime take_mark take_group before rows_for rows run parse_rule
local_let_a_colon_colon_T_semi = not_read local _ refl

-- `let a: = b;`: nothing is read
local_let_a_colon_eq_b_semi : NotDerived (rule local)
    (leaf (ident w_let) (at 0 3) (leaf (ident (97 ∷ [])) (at 4 5) (punct 58 false (at 5 6) (punct 61 false (at 7 8) (leaf (ident (98 ∷ [])) (at 9 10) (punct 59 false (at 10 11) end))))))
unfolding left is_end lookahead_at sees take_token take_lifetime take_mark take_group before rows_for rows run parse_rule
local_let_a_colon_eq_b_semi = not_read local _ refl

-- `let a: A b;`: nothing is read
local_let_a_colon_A_b_semi : NotDerived (rule local)
    (leaf (ident w_let) (at 0 3) (leaf (ident (97 ∷ [])) (at 4 5) (punct 58 false (at 5 6) (leaf (ident (65 ∷ [])) (at 7 8) (leaf (ident (98 ∷ [])) (at 9 10) (punct 59 false (at 10 11) end))))))
unfolding left is_end lookahead_at sees take_token take_lifetime take_mark take_group before rows_for rows run parse_rule
local_let_a_colon_A_b_semi = not_read local _ refl

-- `let a == b;`: nothing is read
local_let_a_eq_eq_b_semi : NotDerived (rule local)
    (leaf (ident w_let) (at 0 3) (leaf (ident (97 ∷ [])) (at 4 5) (punct 61 true (at 6 7) (punct 61 false (at 7 8) (leaf (ident (98 ∷ [])) (at 9 10) (punct 59 false (at 10 11) end))))))
unfolding left is_end lookahead_at sees take_token take_lifetime take_mark take_group before rows_for rows run parse_rule
local_let_a_eq_eq_b_semi = not_read local _ refl

-- `let a = ;`: nothing is read
local_let_a_eq_semi : NotDerived (rule local)
    (leaf (ident w_let) (at 0 3) (leaf (ident (97 ∷ [])) (at 4 5) (punct 61 false (at 6 7) (punct 59 false (at 8 9) end))))
unfolding left is_end lookahead_at sees take_token take_lifetime take_mark take_group before rows_for rows run parse_rule
local_let_a_eq_semi = not_read local _ refl

-- `let a = b c;`: nothing is read
local_let_a_eq_b_c_semi : NotDerived (rule local)
    (leaf (ident w_let) (at 0 3) (leaf (ident (97 ∷ [])) (at 4 5) (punct 61 false (at 6 7) (leaf (ident (98 ∷ [])) (at 8 9) (leaf (ident (99 ∷ [])) (at 10 11) (punct 59 false (at 11 12) end))))))
unfolding left is_end lookahead_at sees take_token take_lifetime take_mark take_group before rows_for rows run parse_rule
local_let_a_eq_b_c_semi = not_read local _ refl

-- `let a = {};` prints `let a = {} ;`
local_let_a_eq_braces_semi : DerivesAs local
    (leaf (ident w_let) (at 0 3) (leaf (ident (97 ∷ [])) (at 4 5) (punct 61 false (at 6 7) (group Brace (at 8 9) (at 9 10) end (punct 59 false (at 10 11) end)))))
    (leaf (ident w_let) call_site (leaf (ident (97 ∷ [])) call_site (punct 61 false call_site (group Brace call_site call_site end (punct 59 false call_site end)))))
    (end)
unfolding left is_end lookahead_at sees take_token take_lifetime take_mark take_group before rows_for rows run parse_rule
local_let_a_eq_braces_semi = computed local _ _ _ refl

-- `let a = {} {};`: nothing is read
local_let_a_eq_braces_braces_semi : NotDerived (rule local)
    (leaf (ident w_let) (at 0 3) (leaf (ident (97 ∷ [])) (at 4 5) (punct 61 false (at 6 7) (group Brace (at 8 9) (at 9 10) end (group Brace (at 11 12) (at 12 13) end (punct 59 false (at 13 14) end))))))
unfolding left is_end lookahead_at sees take_token take_lifetime take_mark take_group before rows_for rows run parse_rule
local_let_a_eq_braces_braces_semi = not_read local _ refl

-- `let a = b else {};` prints `let a = b else {} ;`
local_let_a_eq_b_else_braces_semi : DerivesAs local
    (leaf (ident w_let) (at 0 3) (leaf (ident (97 ∷ [])) (at 4 5) (punct 61 false (at 6 7) (leaf (ident (98 ∷ [])) (at 8 9) (leaf (ident w_else) (at 10 14) (group Brace (at 15 16) (at 16 17) end (punct 59 false (at 17 18) end)))))))
    (leaf (ident w_let) call_site (leaf (ident (97 ∷ [])) call_site (punct 61 false call_site (leaf (ident (98 ∷ [])) call_site (leaf (ident w_else) call_site (group Brace call_site call_site end (punct 59 false call_site end)))))))
    (end)
unfolding left is_end lookahead_at sees take_token take_lifetime take_mark take_group before rows_for rows run parse_rule
local_let_a_eq_b_else_braces_semi = computed local _ _ _ refl

-- `let a = b else {} else {};`: nothing is read
local_let_a_eq_b_else_braces_else_braces_sem : NotDerived (rule local)
    (leaf (ident w_let) (at 0 3) (leaf (ident (97 ∷ [])) (at 4 5) (punct 61 false (at 6 7) (leaf (ident (98 ∷ [])) (at 8 9) (leaf (ident w_else) (at 10 14) (group Brace (at 15 16) (at 16 17) end (leaf (ident w_else) (at 18 22) (group Brace (at 23 24) (at 24 25) end (punct 59 false (at 25 26) end)))))))))
unfolding left is_end lookahead_at sees take_token take_lifetime take_mark take_group before rows_for rows run parse_rule
local_let_a_eq_b_else_braces_else_braces_sem = not_read local _ refl

-- `let a = b else else {};`: nothing is read
local_let_a_eq_b_else_else_braces_semi : NotDerived (rule local)
    (leaf (ident w_let) (at 0 3) (leaf (ident (97 ∷ [])) (at 4 5) (punct 61 false (at 6 7) (leaf (ident (98 ∷ [])) (at 8 9) (leaf (ident w_else) (at 10 14) (leaf (ident w_else) (at 15 19) (group Brace (at 20 21) (at 21 22) end (punct 59 false (at 22 23) end))))))))
unfolding left is_end lookahead_at sees take_token take_lifetime take_mark take_group before rows_for rows run parse_rule
local_let_a_eq_b_else_else_braces_semi = not_read local _ refl

-- `let a = b else;`: nothing is read
local_let_a_eq_b_else_semi : NotDerived (rule local)
    (leaf (ident w_let) (at 0 3) (leaf (ident (97 ∷ [])) (at 4 5) (punct 61 false (at 6 7) (leaf (ident (98 ∷ [])) (at 8 9) (leaf (ident w_else) (at 10 14) (punct 59 false (at 14 15) end))))))
unfolding left is_end lookahead_at sees take_token take_lifetime take_mark take_group before rows_for rows run parse_rule
local_let_a_eq_b_else_semi = not_read local _ refl

-- `let a, b;`: nothing is read
local_let_a_comma_b_semi : NotDerived (rule local)
    (leaf (ident w_let) (at 0 3) (leaf (ident (97 ∷ [])) (at 4 5) (punct 44 false (at 5 6) (leaf (ident (98 ∷ [])) (at 7 8) (punct 59 false (at 8 9) end)))))
unfolding left is_end lookahead_at sees take_token take_lifetime take_mark take_group before rows_for rows run parse_rule
local_let_a_comma_b_semi = not_read local _ refl

-- `let (a, b);` prints `let (a , b) ;`
local_let_in_paren_a_comma_b_semi : DerivesAs local
    (leaf (ident w_let) (at 0 3) (group Paren (at 4 5) (at 9 10) (leaf (ident (97 ∷ [])) (at 5 6) (punct 44 false (at 6 7) (leaf (ident (98 ∷ [])) (at 8 9) end))) (punct 59 false (at 10 11) end)))
    (leaf (ident w_let) call_site (group Paren call_site call_site (leaf (ident (97 ∷ [])) call_site (punct 44 false call_site (leaf (ident (98 ∷ [])) call_site end))) (punct 59 false call_site end)))
    (end)
unfolding left is_end lookahead_at sees take_token take_lifetime take_mark take_group before rows_for rows run parse_rule
local_let_in_paren_a_comma_b_semi = computed local _ _ _ refl

-- `let a: T, U;`: nothing is read
local_let_a_colon_T_comma_U_semi : NotDerived (rule local)
    (leaf (ident w_let) (at 0 3) (leaf (ident (97 ∷ [])) (at 4 5) (punct 58 false (at 5 6) (leaf (ident (84 ∷ [])) (at 7 8) (punct 44 false (at 8 9) (leaf (ident (85 ∷ [])) (at 10 11) (punct 59 false (at 11 12) end)))))))
unfolding left is_end lookahead_at sees take_token take_lifetime take_mark take_group before rows_for rows run parse_rule
local_let_a_colon_T_comma_U_semi = not_read local _ refl

-- `let a = b = c;` prints `let a = b = c ;`
local_let_a_eq_b_eq_c_semi : DerivesAs local
    (leaf (ident w_let) (at 0 3) (leaf (ident (97 ∷ [])) (at 4 5) (punct 61 false (at 6 7) (leaf (ident (98 ∷ [])) (at 8 9) (punct 61 false (at 10 11) (leaf (ident (99 ∷ [])) (at 12 13) (punct 59 false (at 13 14) end)))))))
    (leaf (ident w_let) call_site (leaf (ident (97 ∷ [])) call_site (punct 61 false call_site (leaf (ident (98 ∷ [])) call_site (punct 61 false call_site (leaf (ident (99 ∷ [])) call_site (punct 59 false call_site end)))))))
    (end)
unfolding left is_end lookahead_at sees take_token take_lifetime take_mark take_group before rows_for rows run parse_rule
local_let_a_eq_b_eq_c_semi = computed local _ _ _ refl

-- `else a;`: nothing is read
local_else_a_semi : NotDerived (rule local)
    (leaf (ident w_else) (at 0 4) (leaf (ident (97 ∷ [])) (at 5 6) (punct 59 false (at 6 7) end)))
unfolding left is_end lookahead_at sees take_token take_lifetime take_mark take_group before rows_for rows run parse_rule
local_else_a_semi = not_read local _ refl

-- `let a = b let {};`: nothing is read
local_let_a_eq_b_let_braces_semi : NotDerived (rule local)
    (leaf (ident w_let) (at 0 3) (leaf (ident (97 ∷ [])) (at 4 5) (punct 61 false (at 6 7) (leaf (ident (98 ∷ [])) (at 8 9) (leaf (ident w_let) (at 10 13) (group Brace (at 14 15) (at 15 16) end (punct 59 false (at 16 17) end)))))))
unfolding left is_end lookahead_at sees take_token take_lifetime take_mark take_group before rows_for rows run parse_rule
local_let_a_eq_b_let_braces_semi = not_read local _ refl

-- `let a let = b;`: nothing is read
local_let_a_let_eq_b_semi : NotDerived (rule local)
    (leaf (ident w_let) (at 0 3) (leaf (ident (97 ∷ [])) (at 4 5) (leaf (ident w_let) (at 6 9) (punct 61 false (at 10 11) (leaf (ident (98 ∷ [])) (at 12 13) (punct 59 false (at 13 14) end))))))
unfolding left is_end lookahead_at sees take_token take_lifetime take_mark take_group before rows_for rows run parse_rule
local_let_a_let_eq_b_semi = not_read local _ refl

-- `let a let;`: nothing is read
local_let_a_let_semi : NotDerived (rule local)
    (leaf (ident w_let) (at 0 3) (leaf (ident (97 ∷ [])) (at 4 5) (leaf (ident w_let) (at 6 9) (punct 59 false (at 9 10) end))))
unfolding left is_end lookahead_at sees take_token take_lifetime take_mark take_group before rows_for rows run parse_rule
local_let_a_let_semi = not_read local _ refl

-- `let a; let` prints `let a ;` and leaves `let`
local_let_a_semi_let : DerivesAs local
    (leaf (ident w_let) (at 0 3) (leaf (ident (97 ∷ [])) (at 4 5) (punct 59 false (at 5 6) (leaf (ident w_let) (at 7 10) end))))
    (leaf (ident w_let) call_site (leaf (ident (97 ∷ [])) call_site (punct 59 false call_site end)))
    (leaf (ident w_let) (at 7 10) end)
unfolding left is_end lookahead_at sees take_token take_lifetime take_mark take_group before rows_for rows run parse_rule
local_let_a_semi_let = computed local _ _ _ refl

-- `a let b;`: nothing is read
local_a_let_b_semi : NotDerived (rule local)
    (leaf (ident (97 ∷ [])) (at 0 1) (leaf (ident w_let) (at 2 5) (leaf (ident (98 ∷ [])) (at 6 7) (punct 59 false (at 7 8) end))))
unfolding left is_end lookahead_at sees take_token take_lifetime take_mark take_group before rows_for rows run parse_rule
local_a_let_b_semi = not_read local _ refl

-- `= a let b;`: nothing is read
local_eq_a_let_b_semi : NotDerived (rule local)
    (punct 61 false (at 0 1) (leaf (ident (97 ∷ [])) (at 2 3) (leaf (ident w_let) (at 4 7) (leaf (ident (98 ∷ [])) (at 8 9) (punct 59 false (at 9 10) end)))))
unfolding left is_end lookahead_at sees take_token take_lifetime take_mark take_group before rows_for rows run parse_rule
local_eq_a_let_b_semi = not_read local _ refl

-- `let a; = b` prints `let a ;` and leaves `= b`
local_let_a_semi_eq_b : DerivesAs local
    (leaf (ident w_let) (at 0 3) (leaf (ident (97 ∷ [])) (at 4 5) (punct 59 false (at 5 6) (punct 61 false (at 7 8) (leaf (ident (98 ∷ [])) (at 9 10) end)))))
    (leaf (ident w_let) call_site (leaf (ident (97 ∷ [])) call_site (punct 59 false call_site end)))
    (punct 61 false (at 7 8) (leaf (ident (98 ∷ [])) (at 9 10) end))
unfolding left is_end lookahead_at sees take_token take_lifetime take_mark take_group before rows_for rows run parse_rule
local_let_a_semi_eq_b = computed local _ _ _ refl

-- `; let a;`: nothing is read
local_semi_let_a_semi : NotDerived (rule local)
    (punct 59 false (at 0 1) (leaf (ident w_let) (at 2 5) (leaf (ident (97 ∷ [])) (at 6 7) (punct 59 false (at 7 8) end))))
unfolding left is_end lookahead_at sees take_token take_lifetime take_mark take_group before rows_for rows run parse_rule
local_semi_let_a_semi = not_read local _ refl

-- `let a: T:;`: nothing is read
local_let_a_colon_T_colon_semi : NotDerived (rule local)
    (leaf (ident w_let) (at 0 3) (leaf (ident (97 ∷ [])) (at 4 5) (punct 58 false (at 5 6) (leaf (ident (84 ∷ [])) (at 7 8) (punct 58 true (at 8 9) (punct 59 false (at 9 10) end))))))
unfolding left is_end lookahead_at sees take_token take_lifetime take_mark take_group before rows_for rows run parse_rule
local_let_a_colon_T_colon_semi = not_read local _ refl

-- `let _ ::T: U;`: nothing is read
local_let_underscore_colons_T_colon_U_semi : NotDerived (rule local)
    (leaf (ident w_let) (at 0 3) (leaf (ident w_underscore) (at 4 5) (punct 58 true (at 6 7) (punct 58 false (at 7 8) (leaf (ident (84 ∷ [])) (at 8 9) (punct 58 false (at 9 10) (leaf (ident (85 ∷ [])) (at 11 12) (punct 59 false (at 12 13) end))))))))
unfolding left is_end lookahead_at sees take_token take_lifetime take_mark take_group before rows_for rows run parse_rule
local_let_underscore_colons_T_colon_U_semi = not_read local _ refl

-- `let _ ::T;`: nothing is read
local_let_underscore_colons_T_semi : NotDerived (rule local)
    (leaf (ident w_let) (at 0 3) (leaf (ident w_underscore) (at 4 5) (punct 58 true (at 6 7) (punct 58 false (at 7 8) (leaf (ident (84 ∷ [])) (at 8 9) (punct 59 false (at 9 10) end))))))
unfolding left is_end lookahead_at sees take_token take_lifetime take_mark take_group before rows_for rows run parse_rule
local_let_underscore_colons_T_semi = not_read local _ refl

-- `let a = b else {} =;`: nothing is read
local_let_a_eq_b_else_braces_eq_semi : NotDerived (rule local)
    (leaf (ident w_let) (at 0 3) (leaf (ident (97 ∷ [])) (at 4 5) (punct 61 false (at 6 7) (leaf (ident (98 ∷ [])) (at 8 9) (leaf (ident w_else) (at 10 14) (group Brace (at 15 16) (at 16 17) end (punct 61 true (at 18 19) (punct 59 false (at 19 20) end))))))))
unfolding left is_end lookahead_at sees take_token take_lifetime take_mark take_group before rows_for rows run parse_rule
local_let_a_eq_b_else_braces_eq_semi = not_read local _ refl

-- `let a = else {} b;`: nothing is read
local_let_a_eq_else_braces_b_semi : NotDerived (rule local)
    (leaf (ident w_let) (at 0 3) (leaf (ident (97 ∷ [])) (at 4 5) (punct 61 false (at 6 7) (leaf (ident w_else) (at 8 12) (group Brace (at 13 14) (at 14 15) end (leaf (ident (98 ∷ [])) (at 16 17) (punct 59 false (at 17 18) end)))))))
unfolding left is_end lookahead_at sees take_token take_lifetime take_mark take_group before rows_for rows run parse_rule
local_let_a_eq_else_braces_b_semi = not_read local _ refl

-- `let a = b else {} else;`: nothing is read
local_let_a_eq_b_else_braces_else_semi : NotDerived (rule local)
    (leaf (ident w_let) (at 0 3) (leaf (ident (97 ∷ [])) (at 4 5) (punct 61 false (at 6 7) (leaf (ident (98 ∷ [])) (at 8 9) (leaf (ident w_else) (at 10 14) (group Brace (at 15 16) (at 16 17) end (leaf (ident w_else) (at 18 22) (punct 59 false (at 22 23) end))))))))
unfolding left is_end lookahead_at sees take_token take_lifetime take_mark take_group before rows_for rows run parse_rule
local_let_a_eq_b_else_braces_else_semi = not_read local _ refl

-- `let a = b else {} {};`: nothing is read
local_let_a_eq_b_else_braces_braces_semi : NotDerived (rule local)
    (leaf (ident w_let) (at 0 3) (leaf (ident (97 ∷ [])) (at 4 5) (punct 61 false (at 6 7) (leaf (ident (98 ∷ [])) (at 8 9) (leaf (ident w_else) (at 10 14) (group Brace (at 15 16) (at 16 17) end (group Brace (at 18 19) (at 19 20) end (punct 59 false (at 20 21) end))))))))
unfolding left is_end lookahead_at sees take_token take_lifetime take_mark take_group before rows_for rows run parse_rule
local_let_a_eq_b_else_braces_braces_semi = not_read local _ refl

-- `let a: ();` prints `let a : () ;`
local_let_a_colon_parens_semi : DerivesAs local
    (leaf (ident w_let) (at 0 3) (leaf (ident (97 ∷ [])) (at 4 5) (punct 58 false (at 5 6) (group Paren (at 7 8) (at 8 9) end (punct 59 false (at 9 10) end)))))
    (leaf (ident w_let) call_site (leaf (ident (97 ∷ [])) call_site (punct 58 false call_site (group Paren call_site call_site end (punct 59 false call_site end)))))
    (end)
unfolding left is_end lookahead_at sees take_token take_lifetime take_mark take_group before rows_for rows run parse_rule
local_let_a_colon_parens_semi = computed local _ _ _ refl

-- `let a = b = {};` prints `let a = b = {} ;`
local_let_a_eq_b_eq_braces_semi : DerivesAs local
    (leaf (ident w_let) (at 0 3) (leaf (ident (97 ∷ [])) (at 4 5) (punct 61 false (at 6 7) (leaf (ident (98 ∷ [])) (at 8 9) (punct 61 false (at 10 11) (group Brace (at 12 13) (at 13 14) end (punct 59 false (at 14 15) end)))))))
    (leaf (ident w_let) call_site (leaf (ident (97 ∷ [])) call_site (punct 61 false call_site (leaf (ident (98 ∷ [])) call_site (punct 61 false call_site (group Brace call_site call_site end (punct 59 false call_site end)))))))
    (end)
unfolding left is_end lookahead_at sees take_token take_lifetime take_mark take_group before rows_for rows run parse_rule
local_let_a_eq_b_eq_braces_semi = computed local _ _ _ refl
