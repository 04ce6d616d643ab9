-- Written by tools/grammar.py from specs/Table.antt; edits are lost.
-- Worked examples of borders of constants and statics, from tools/examples.txt: what each rule reads, prints and refuses. The checker computes each.
use Rattle.std.proofs.Common.{true, false, [], ◌∷◌, refl}
use Rattle.syn_grammar.specs.Words.{w_underscore, w_break, w_const, w_continue, w_crate, w_false, w_fn, w_loop, w_mut, w_pub, w_return, w_Self_type, w_self, w_static, w_super, w_true, w_union, w_auto, w_default, w_safe}
use Rattle.syn_grammar.specs.Tokens.{call_site, Paren, Brace, Bracket, None, Str, Int, ident, literal, end, leaf, punct, group}
use Rattle.syn_grammar.specs.Rules.{const_item_rest, static_item, static_item_rest}
use Rattle.syn_grammar.specs.Grammar.{rule}
use Rattle.syn_grammar.specs.Take.{left, is_end, lookahead_at, sees, take_token, take_lifetime, take_mark, take_group, before}
use Rattle.syn_grammar.specs.Run.{rows_for, rows, run, parse_rule}
use Rattle.syn_grammar.specs.Promises.{NotDerived}
use Rattle.syn_grammar.proofs.Shown.{at, DerivesAs, computed, not_read}

-- `const : ! = break ;`: nothing is read
const_item_rest_border_1 : NotDerived (rule const_item_rest)
    (leaf (ident w_const) (at 0 5) (punct 58 false (at 6 7) (punct 33 false (at 8 9) (punct 61 false (at 10 11) (leaf (ident w_break) (at 12 17) (punct 59 false (at 18 19) end))))))
unfolding left is_end lookahead_at sees take_token take_lifetime take_mark take_group before rows_for rows run parse_rule
const_item_rest_border_1 = not_read const_item_rest _ refl

-- `const a ::() = {} ;`: nothing is read
const_item_rest_border_2 : NotDerived (rule const_item_rest)
    (leaf (ident w_const) (at 0 5) (leaf (ident (97 ∷ [])) (at 6 7) (punct 58 true (at 8 9) (punct 58 false (at 9 10) (group Paren (at 10 11) (at 11 12) end (punct 61 false (at 13 14) (group Brace (at 15 16) (at 16 17) end (punct 59 false (at 18 19) end))))))))
unfolding left is_end lookahead_at sees take_token take_lifetime take_mark take_group before rows_for rows run parse_rule
const_item_rest_border_2 = not_read const_item_rest _ refl

-- `: const _ : ! = [] ;`: nothing is read
const_item_rest_border_3 : NotDerived (rule const_item_rest)
    (punct 58 false (at 0 1) (leaf (ident w_const) (at 2 7) (leaf (ident w_underscore) (at 8 9) (punct 58 false (at 10 11) (punct 33 false (at 12 13) (punct 61 false (at 14 15) (group Bracket (at 16 17) (at 17 18) end (punct 59 false (at 19 20) end))))))))
unfolding left is_end lookahead_at sees take_token take_lifetime take_mark take_group before rows_for rows run parse_rule
const_item_rest_border_3 = not_read const_item_rest _ refl

-- `_ : default = false ;`: nothing is read
const_item_rest_border_4 : NotDerived (rule const_item_rest)
    (leaf (ident w_underscore) (at 0 1) (punct 58 false (at 2 3) (leaf (ident w_default) (at 4 11) (punct 61 false (at 12 13) (leaf (ident w_false) (at 14 19) (punct 59 false (at 20 21) end))))))
unfolding left is_end lookahead_at sees take_token take_lifetime take_mark take_group before rows_for rows run parse_rule
const_item_rest_border_4 = not_read const_item_rest _ refl

-- `const 1 : ! = break ;`: nothing is read
const_item_rest_border_5 : NotDerived (rule const_item_rest)
    (leaf (ident w_const) (at 0 5) (leaf (literal Int (49 ∷ [])) (at 6 7) (punct 58 false (at 8 9) (punct 33 false (at 10 11) (punct 61 false (at 12 13) (leaf (ident w_break) (at 14 19) (punct 59 false (at 20 21) end)))))))
unfolding left is_end lookahead_at sees take_token take_lifetime take_mark take_group before rows_for rows run parse_rule
const_item_rest_border_5 = not_read const_item_rest _ refl

-- `const union : ! = 1 ;` prints `const union : ! = 1 ;`
const_item_rest_border_6 : DerivesAs const_item_rest
    (leaf (ident w_const) (at 0 5) (leaf (ident w_union) (at 6 11) (punct 58 false (at 12 13) (punct 33 false (at 14 15) (punct 61 false (at 16 17) (leaf (literal Int (49 ∷ [])) (at 18 19) (punct 59 false (at 20 21) end)))))))
    (leaf (ident w_const) call_site (leaf (ident w_union) call_site (punct 58 false call_site (punct 33 false call_site (punct 61 false call_site (leaf (literal Int (49 ∷ [])) call_site (punct 59 false call_site end)))))))
    (end)
unfolding left is_end lookahead_at sees take_token take_lifetime take_mark take_group before rows_for rows run parse_rule
const_item_rest_border_6 = computed const_item_rest _ _ _ refl

-- `const fn : ! = break ;`: nothing is read
const_item_rest_border_7 : NotDerived (rule const_item_rest)
    (leaf (ident w_const) (at 0 5) (leaf (ident w_fn) (at 6 8) (punct 58 false (at 9 10) (punct 33 false (at 11 12) (punct 61 false (at 13 14) (leaf (ident w_break) (at 15 20) (punct 59 false (at 21 22) end)))))))
unfolding left is_end lookahead_at sees take_token take_lifetime take_mark take_group before rows_for rows run parse_rule
const_item_rest_border_7 = not_read const_item_rest _ refl

-- `= const safe : ! = () ;`: nothing is read
const_item_rest_border_8 : NotDerived (rule const_item_rest)
    (punct 61 false (at 0 1) (leaf (ident w_const) (at 2 7) (leaf (ident w_safe) (at 8 12) (punct 58 false (at 13 14) (punct 33 false (at 15 16) (punct 61 false (at 17 18) (group Paren (at 19 20) (at 20 21) end (punct 59 false (at 22 23) end))))))))
unfolding left is_end lookahead_at sees take_token take_lifetime take_mark take_group before rows_for rows run parse_rule
const_item_rest_border_8 = not_read const_item_rest _ refl

-- `const default : ! = 1 ;` prints `const default : ! = 1 ;`
const_item_rest_border_9 : DerivesAs const_item_rest
    (leaf (ident w_const) (at 0 5) (leaf (ident w_default) (at 6 13) (punct 58 false (at 14 15) (punct 33 false (at 16 17) (punct 61 false (at 18 19) (leaf (literal Int (49 ∷ [])) (at 20 21) (punct 59 false (at 22 23) end)))))))
    (leaf (ident w_const) call_site (leaf (ident w_default) call_site (punct 58 false call_site (punct 33 false call_site (punct 61 false call_site (leaf (literal Int (49 ∷ [])) call_site (punct 59 false call_site end)))))))
    (end)
unfolding left is_end lookahead_at sees take_token take_lifetime take_mark take_group before rows_for rows run parse_rule
const_item_rest_border_9 = computed const_item_rest _ _ _ refl

-- `const Self : ! = break ;`: nothing is read
const_item_rest_border_10 : NotDerived (rule const_item_rest)
    (leaf (ident w_const) (at 0 5) (leaf (ident w_Self_type) (at 6 10) (punct 58 false (at 11 12) (punct 33 false (at 13 14) (punct 61 false (at 15 16) (leaf (ident w_break) (at 17 22) (punct 59 false (at 23 24) end)))))))
unfolding left is_end lookahead_at sees take_token take_lifetime take_mark take_group before rows_for rows run parse_rule
const_item_rest_border_10 = not_read const_item_rest _ refl

-- `const _ = ::: safe = 1 ;`: nothing is read
const_item_rest_border_11 : NotDerived (rule const_item_rest)
    (leaf (ident w_const) (at 0 5) (leaf (ident w_underscore) (at 6 7) (punct 61 false (at 8 9) (punct 58 true (at 10 11) (punct 58 true (at 11 12) (punct 58 false (at 12 13) (leaf (ident w_safe) (at 14 18) (punct 61 false (at 19 20) (leaf (literal Int (49 ∷ [])) (at 21 22) (punct 59 false (at 23 24) end))))))))))
unfolding left is_end lookahead_at sees take_token take_lifetime take_mark take_group before rows_for rows run parse_rule
const_item_rest_border_11 = not_read const_item_rest _ refl

-- `const auto : ! = break ;` prints `const auto : ! = break ;`
const_item_rest_border_12 : DerivesAs const_item_rest
    (leaf (ident w_const) (at 0 5) (leaf (ident w_auto) (at 6 10) (punct 58 false (at 11 12) (punct 33 false (at 13 14) (punct 61 false (at 15 16) (leaf (ident w_break) (at 17 22) (punct 59 false (at 23 24) end)))))))
    (leaf (ident w_const) call_site (leaf (ident w_auto) call_site (punct 58 false call_site (punct 33 false call_site (punct 61 false call_site (leaf (ident w_break) call_site (punct 59 false call_site end)))))))
    (end)
unfolding left is_end lookahead_at sees take_token take_lifetime take_mark take_group before rows_for rows run parse_rule
const_item_rest_border_12 = computed const_item_rest _ _ _ refl

-- `const self : ! = break ;`: nothing is read
const_item_rest_border_13 : NotDerived (rule const_item_rest)
    (leaf (ident w_const) (at 0 5) (leaf (ident w_self) (at 6 10) (punct 58 false (at 11 12) (punct 33 false (at 13 14) (punct 61 false (at 15 16) (leaf (ident w_break) (at 17 22) (punct 59 false (at 23 24) end)))))))
unfolding left is_end lookahead_at sees take_token take_lifetime take_mark take_group before rows_for rows run parse_rule
const_item_rest_border_13 = not_read const_item_rest _ refl

-- `const : x :() = loop {} ;`: nothing is read
const_item_rest_border_14 : NotDerived (rule const_item_rest)
    (leaf (ident w_const) (at 0 5) (punct 58 false (at 6 7) (leaf (ident (120 ∷ [])) (at 8 9) (punct 58 false (at 10 11) (group Paren (at 11 12) (at 12 13) end (punct 61 false (at 14 15) (leaf (ident w_loop) (at 16 20) (group Brace (at 21 22) (at 22 23) end (punct 59 false (at 24 25) end)))))))))
unfolding left is_end lookahead_at sees take_token take_lifetime take_mark take_group before rows_for rows run parse_rule
const_item_rest_border_14 = not_read const_item_rest _ refl

-- `const _ default = false ;`: nothing is read
const_item_rest_border_15 : NotDerived (rule const_item_rest)
    (leaf (ident w_const) (at 0 5) (leaf (ident w_underscore) (at 6 7) (leaf (ident w_default) (at 8 15) (punct 61 false (at 16 17) (leaf (ident w_false) (at 18 23) (punct 59 false (at 24 25) end))))))
unfolding left is_end lookahead_at sees take_token take_lifetime take_mark take_group before rows_for rows run parse_rule
const_item_rest_border_15 = not_read const_item_rest _ refl

-- `const const : auto = () ;`: nothing is read
const_item_rest_border_16 : NotDerived (rule const_item_rest)
    (leaf (ident w_const) (at 0 5) (leaf (ident w_const) (at 6 11) (punct 58 false (at 12 13) (leaf (ident w_auto) (at 14 18) (punct 61 false (at 19 20) (group Paren (at 21 22) (at 22 23) end (punct 59 false (at 24 25) end)))))))
unfolding left is_end lookahead_at sees take_token take_lifetime take_mark take_group before rows_for rows run parse_rule
const_item_rest_border_16 = not_read const_item_rest _ refl

-- `const crate : ! = break ;`: nothing is read
const_item_rest_border_17 : NotDerived (rule const_item_rest)
    (leaf (ident w_const) (at 0 5) (leaf (ident w_crate) (at 6 11) (punct 58 false (at 12 13) (punct 33 false (at 14 15) (punct 61 false (at 16 17) (leaf (ident w_break) (at 18 23) (punct 59 false (at 24 25) end)))))))
unfolding left is_end lookahead_at sees take_token take_lifetime take_mark take_group before rows_for rows run parse_rule
const_item_rest_border_17 = not_read const_item_rest _ refl

-- `const super : ! = break ;`: nothing is read
const_item_rest_border_18 : NotDerived (rule const_item_rest)
    (leaf (ident w_const) (at 0 5) (leaf (ident w_super) (at 6 11) (punct 58 false (at 12 13) (punct 33 false (at 14 15) (punct 61 false (at 16 17) (leaf (ident w_break) (at 18 23) (punct 59 false (at 24 25) end)))))))
unfolding left is_end lookahead_at sees take_token take_lifetime take_mark take_group before rows_for rows run parse_rule
const_item_rest_border_18 = not_read const_item_rest _ refl

-- `const union : ! ==false ;`: nothing is read
const_item_rest_border_19 : NotDerived (rule const_item_rest)
    (leaf (ident w_const) (at 0 5) (leaf (ident w_union) (at 6 11) (punct 58 false (at 12 13) (punct 33 false (at 14 15) (punct 61 true (at 16 17) (punct 61 false (at 17 18) (leaf (ident w_false) (at 18 23) (punct 59 false (at 24 25) end))))))))
unfolding left is_end lookahead_at sees take_token take_lifetime take_mark take_group before rows_for rows run parse_rule
const_item_rest_border_19 = not_read const_item_rest _ refl

-- `Self _ : default = false ;`: nothing is read
const_item_rest_border_20 : NotDerived (rule const_item_rest)
    (leaf (ident w_Self_type) (at 0 4) (leaf (ident w_underscore) (at 5 6) (punct 58 false (at 7 8) (leaf (ident w_default) (at 9 16) (punct 61 false (at 17 18) (leaf (ident w_false) (at 19 24) (punct 59 false (at 25 26) end)))))))
unfolding left is_end lookahead_at sees take_token take_lifetime take_mark take_group before rows_for rows run parse_rule
const_item_rest_border_20 = not_read const_item_rest _ refl

-- `const auto :() : = false ;`: nothing is read
const_item_rest_border_21 : NotDerived (rule const_item_rest)
    (leaf (ident w_const) (at 0 5) (leaf (ident w_auto) (at 6 10) (punct 58 false (at 11 12) (group Paren (at 12 13) (at 13 14) end (punct 58 false (at 15 16) (punct 61 false (at 17 18) (leaf (ident w_false) (at 19 24) (punct 59 false (at 25 26) end))))))))
unfolding left is_end lookahead_at sees take_token take_lifetime take_mark take_group before rows_for rows run parse_rule
const_item_rest_border_21 = not_read const_item_rest _ refl

-- `const _ : default = false ,`: nothing is read
const_item_rest_border_22 : NotDerived (rule const_item_rest)
    (leaf (ident w_const) (at 0 5) (leaf (ident w_underscore) (at 6 7) (punct 58 false (at 8 9) (leaf (ident w_default) (at 10 17) (punct 61 false (at 18 19) (leaf (ident w_false) (at 20 25) (punct 44 false (at 26 27) end)))))))
unfolding left is_end lookahead_at sees take_token take_lifetime take_mark take_group before rows_for rows run parse_rule
const_item_rest_border_22 = not_read const_item_rest _ refl

-- `const _ = default = false ;`: nothing is read
const_item_rest_border_23 : NotDerived (rule const_item_rest)
    (leaf (ident w_const) (at 0 5) (leaf (ident w_underscore) (at 6 7) (punct 61 false (at 8 9) (leaf (ident w_default) (at 10 17) (punct 61 false (at 18 19) (leaf (ident w_false) (at 20 25) (punct 59 false (at 26 27) end)))))))
unfolding left is_end lookahead_at sees take_token take_lifetime take_mark take_group before rows_for rows run parse_rule
const_item_rest_border_23 = not_read const_item_rest _ refl

-- `const foo : auto = : c () ;`: nothing is read
const_item_rest_border_24 : NotDerived (rule const_item_rest)
    (leaf (ident w_const) (at 0 5) (leaf (ident (102 ∷ 111 ∷ 111 ∷ [])) (at 6 9) (punct 58 false (at 10 11) (leaf (ident w_auto) (at 12 16) (punct 61 false (at 17 18) (punct 58 false (at 19 20) (leaf (ident (99 ∷ [])) (at 21 22) (group Paren (at 23 24) (at 24 25) end (punct 59 false (at 26 27) end)))))))))
unfolding left is_end lookahead_at sees take_token take_lifetime take_mark take_group before rows_for rows run parse_rule
const_item_rest_border_24 = not_read const_item_rest _ refl

-- `const union :() = false : ;`: nothing is read
const_item_rest_border_25 : NotDerived (rule const_item_rest)
    (leaf (ident w_const) (at 0 5) (leaf (ident w_union) (at 6 11) (punct 58 false (at 12 13) (group Paren (at 13 14) (at 14 15) end (punct 61 false (at 16 17) (leaf (ident w_false) (at 18 23) (punct 58 false (at 24 25) (punct 59 false (at 26 27) end))))))))
unfolding left is_end lookahead_at sees take_token take_lifetime take_mark take_group before rows_for rows run parse_rule
const_item_rest_border_25 = not_read const_item_rest _ refl

-- `const =_ : Self = continue ;`: nothing is read
const_item_rest_border_26 : NotDerived (rule const_item_rest)
    (leaf (ident w_const) (at 0 5) (punct 61 false (at 6 7) (leaf (ident w_underscore) (at 7 8) (punct 58 false (at 9 10) (leaf (ident w_Self_type) (at 11 15) (punct 61 false (at 16 17) (leaf (ident w_continue) (at 18 26) (punct 59 false (at 27 28) end))))))))
unfolding left is_end lookahead_at sees take_token take_lifetime take_mark take_group before rows_for rows run parse_rule
const_item_rest_border_26 = not_read const_item_rest _ refl

-- `; const _ : default = false ;`: nothing is read
const_item_rest_border_27 : NotDerived (rule const_item_rest)
    (punct 59 false (at 0 1) (leaf (ident w_const) (at 2 7) (leaf (ident w_underscore) (at 8 9) (punct 58 false (at 10 11) (leaf (ident w_default) (at 12 19) (punct 61 false (at 20 21) (leaf (ident w_false) (at 22 27) (punct 59 false (at 28 29) end))))))))
unfolding left is_end lookahead_at sees take_token take_lifetime take_mark take_group before rows_for rows run parse_rule
const_item_rest_border_27 = not_read const_item_rest _ refl

-- `b const _ : default = false ;`: nothing is read
const_item_rest_border_28 : NotDerived (rule const_item_rest)
    (leaf (ident (98 ∷ [])) (at 0 1) (leaf (ident w_const) (at 2 7) (leaf (ident w_underscore) (at 8 9) (punct 58 false (at 10 11) (leaf (ident w_default) (at 12 19) (punct 61 false (at 20 21) (leaf (ident w_false) (at 22 27) (punct 59 false (at 28 29) end))))))))
unfolding left is_end lookahead_at sees take_token take_lifetime take_mark take_group before rows_for rows run parse_rule
const_item_rest_border_28 = not_read const_item_rest _ refl

-- `const ; _ : default = false ;`: nothing is read
const_item_rest_border_29 : NotDerived (rule const_item_rest)
    (leaf (ident w_const) (at 0 5) (punct 59 false (at 6 7) (leaf (ident w_underscore) (at 8 9) (punct 58 false (at 10 11) (leaf (ident w_default) (at 12 19) (punct 61 false (at 20 21) (leaf (ident w_false) (at 22 27) (punct 59 false (at 28 29) end))))))))
unfolding left is_end lookahead_at sees take_token take_lifetime take_mark take_group before rows_for rows run parse_rule
const_item_rest_border_29 = not_read const_item_rest _ refl

-- `const _ : ; default = false ;`: nothing is read
const_item_rest_border_30 : NotDerived (rule const_item_rest)
    (leaf (ident w_const) (at 0 5) (leaf (ident w_underscore) (at 6 7) (punct 58 false (at 8 9) (punct 59 false (at 10 11) (leaf (ident w_default) (at 12 19) (punct 61 false (at 20 21) (leaf (ident w_false) (at 22 27) (punct 59 false (at 28 29) end))))))))
unfolding left is_end lookahead_at sees take_token take_lifetime take_mark take_group before rows_for rows run parse_rule
const_item_rest_border_30 = not_read const_item_rest _ refl

-- `const _ : = c () = continue ;`: nothing is read
const_item_rest_border_31 : NotDerived (rule const_item_rest)
    (leaf (ident w_const) (at 0 5) (leaf (ident w_underscore) (at 6 7) (punct 58 false (at 8 9) (punct 61 false (at 10 11) (leaf (ident (99 ∷ [])) (at 12 13) (group Paren (at 14 15) (at 15 16) end (punct 61 false (at 17 18) (leaf (ident w_continue) (at 19 27) (punct 59 false (at 28 29) end)))))))))
unfolding left is_end lookahead_at sees take_token take_lifetime take_mark take_group before rows_for rows run parse_rule
const_item_rest_border_31 = not_read const_item_rest _ refl

-- `const _ : b default = false ;`: nothing is read
const_item_rest_border_32 : NotDerived (rule const_item_rest)
    (leaf (ident w_const) (at 0 5) (leaf (ident w_underscore) (at 6 7) (punct 58 false (at 8 9) (leaf (ident (98 ∷ [])) (at 10 11) (leaf (ident w_default) (at 12 19) (punct 61 false (at 20 21) (leaf (ident w_false) (at 22 27) (punct 59 false (at 28 29) end))))))))
unfolding left is_end lookahead_at sees take_token take_lifetime take_mark take_group before rows_for rows run parse_rule
const_item_rest_border_32 = not_read const_item_rest _ refl

-- `const _ : default ; = false ;`: nothing is read
const_item_rest_border_33 : NotDerived (rule const_item_rest)
    (leaf (ident w_const) (at 0 5) (leaf (ident w_underscore) (at 6 7) (punct 58 false (at 8 9) (leaf (ident w_default) (at 10 17) (punct 59 false (at 18 19) (punct 61 false (at 20 21) (leaf (ident w_false) (at 22 27) (punct 59 false (at 28 29) end))))))))
unfolding left is_end lookahead_at sees take_token take_lifetime take_mark take_group before rows_for rows run parse_rule
const_item_rest_border_33 = not_read const_item_rest _ refl

-- `const _ : default = ; false ;`: nothing is read
const_item_rest_border_34 : NotDerived (rule const_item_rest)
    (leaf (ident w_const) (at 0 5) (leaf (ident w_underscore) (at 6 7) (punct 58 false (at 8 9) (leaf (ident w_default) (at 10 17) (punct 61 false (at 18 19) (punct 59 false (at 20 21) (leaf (ident w_false) (at 22 27) (punct 59 false (at 28 29) end))))))))
unfolding left is_end lookahead_at sees take_token take_lifetime take_mark take_group before rows_for rows run parse_rule
const_item_rest_border_34 = not_read const_item_rest _ refl

-- `const _ : default = false ; ;` prints `const _ : default = false ;` and leaves `;`
const_item_rest_border_35 : DerivesAs const_item_rest
    (leaf (ident w_const) (at 0 5) (leaf (ident w_underscore) (at 6 7) (punct 58 false (at 8 9) (leaf (ident w_default) (at 10 17) (punct 61 false (at 18 19) (leaf (ident w_false) (at 20 25) (punct 59 false (at 26 27) (punct 59 false (at 28 29) end))))))))
    (leaf (ident w_const) call_site (leaf (ident w_underscore) call_site (punct 58 false call_site (leaf (ident w_default) call_site (punct 61 false call_site (leaf (ident w_false) call_site (punct 59 false call_site end)))))))
    (punct 59 false (at 28 29) end)
unfolding left is_end lookahead_at sees take_token take_lifetime take_mark take_group before rows_for rows run parse_rule
const_item_rest_border_35 = computed const_item_rest _ _ _ refl

-- `const _ : default = false ; b` prints `const _ : default = false ;` and leaves `b`
const_item_rest_border_36 : DerivesAs const_item_rest
    (leaf (ident w_const) (at 0 5) (leaf (ident w_underscore) (at 6 7) (punct 58 false (at 8 9) (leaf (ident w_default) (at 10 17) (punct 61 false (at 18 19) (leaf (ident w_false) (at 20 25) (punct 59 false (at 26 27) (leaf (ident (98 ∷ [])) (at 28 29) end))))))))
    (leaf (ident w_const) call_site (leaf (ident w_underscore) call_site (punct 58 false call_site (leaf (ident w_default) call_site (punct 61 false call_site (leaf (ident w_false) call_site (punct 59 false call_site end)))))))
    (leaf (ident (98 ∷ [])) (at 28 29) end)
unfolding left is_end lookahead_at sees take_token take_lifetime take_mark take_group before rows_for rows run parse_rule
const_item_rest_border_36 = computed const_item_rest _ _ _ refl

-- `const _ : default = false b ;`: nothing is read
const_item_rest_border_37 : NotDerived (rule const_item_rest)
    (leaf (ident w_const) (at 0 5) (leaf (ident w_underscore) (at 6 7) (punct 58 false (at 8 9) (leaf (ident w_default) (at 10 17) (punct 61 false (at 18 19) (leaf (ident w_false) (at 20 25) (leaf (ident (98 ∷ [])) (at 26 27) (punct 59 false (at 28 29) end))))))))
unfolding left is_end lookahead_at sees take_token take_lifetime take_mark take_group before rows_for rows run parse_rule
const_item_rest_border_37 = not_read const_item_rest _ refl

-- `const _ ; : default = false ;`: nothing is read
const_item_rest_border_38 : NotDerived (rule const_item_rest)
    (leaf (ident w_const) (at 0 5) (leaf (ident w_underscore) (at 6 7) (punct 59 false (at 8 9) (punct 58 false (at 10 11) (leaf (ident w_default) (at 12 19) (punct 61 false (at 20 21) (leaf (ident w_false) (at 22 27) (punct 59 false (at 28 29) end))))))))
unfolding left is_end lookahead_at sees take_token take_lifetime take_mark take_group before rows_for rows run parse_rule
const_item_rest_border_38 = not_read const_item_rest _ refl

-- `const _ b : default = false ;`: nothing is read
const_item_rest_border_39 : NotDerived (rule const_item_rest)
    (leaf (ident w_const) (at 0 5) (leaf (ident w_underscore) (at 6 7) (leaf (ident (98 ∷ [])) (at 8 9) (punct 58 false (at 10 11) (leaf (ident w_default) (at 12 19) (punct 61 false (at 20 21) (leaf (ident w_false) (at 22 27) (punct 59 false (at 28 29) end))))))))
unfolding left is_end lookahead_at sees take_token take_lifetime take_mark take_group before rows_for rows run parse_rule
const_item_rest_border_39 = not_read const_item_rest _ refl

-- `\(\) pub const _ : ! = break ;`: nothing is read
const_item_rest_border_40 : NotDerived (rule const_item_rest)
    (group None (at 0 2) (at 2 4) end (leaf (ident w_pub) (at 5 8) (leaf (ident w_const) (at 9 14) (leaf (ident w_underscore) (at 15 16) (punct 58 false (at 17 18) (punct 33 false (at 19 20) (punct 61 false (at 21 22) (leaf (ident w_break) (at 23 28) (punct 59 false (at 29 30) end)))))))))
unfolding left is_end lookahead_at sees take_token take_lifetime take_mark take_group before rows_for rows run parse_rule
const_item_rest_border_40 = not_read const_item_rest _ refl

-- `const safe : Self = continue ;` prints `const safe : Self = continue ;`
const_item_rest_border_41 : DerivesAs const_item_rest
    (leaf (ident w_const) (at 0 5) (leaf (ident w_safe) (at 6 10) (punct 58 false (at 11 12) (leaf (ident w_Self_type) (at 13 17) (punct 61 false (at 18 19) (leaf (ident w_continue) (at 20 28) (punct 59 false (at 29 30) end)))))))
    (leaf (ident w_const) call_site (leaf (ident w_safe) call_site (punct 58 false call_site (leaf (ident w_Self_type) call_site (punct 61 false call_site (leaf (ident w_continue) call_site (punct 59 false call_site end)))))))
    (end)
unfolding left is_end lookahead_at sees take_token take_lifetime take_mark take_group before rows_for rows run parse_rule
const_item_rest_border_41 = computed const_item_rest _ _ _ refl

-- `const _ : default = c = false ;` prints `const _ : default = c = false ;`
const_item_rest_border_42 : DerivesAs const_item_rest
    (leaf (ident w_const) (at 0 5) (leaf (ident w_underscore) (at 6 7) (punct 58 false (at 8 9) (leaf (ident w_default) (at 10 17) (punct 61 false (at 18 19) (leaf (ident (99 ∷ [])) (at 20 21) (punct 61 false (at 22 23) (leaf (ident w_false) (at 24 29) (punct 59 false (at 30 31) end)))))))))
    (leaf (ident w_const) call_site (leaf (ident w_underscore) call_site (punct 58 false call_site (leaf (ident w_default) call_site (punct 61 false call_site (leaf (ident (99 ∷ [])) call_site (punct 61 false call_site (leaf (ident w_false) call_site (punct 59 false call_site end)))))))))
    (end)
unfolding left is_end lookahead_at sees take_token take_lifetime take_mark take_group before rows_for rows run parse_rule
const_item_rest_border_42 = computed const_item_rest _ _ _ refl

-- `const _ : default = false ; : c` prints `const _ : default = false ;` and leaves `: c`
const_item_rest_border_43 : DerivesAs const_item_rest
    (leaf (ident w_const) (at 0 5) (leaf (ident w_underscore) (at 6 7) (punct 58 false (at 8 9) (leaf (ident w_default) (at 10 17) (punct 61 false (at 18 19) (leaf (ident w_false) (at 20 25) (punct 59 false (at 26 27) (punct 58 false (at 28 29) (leaf (ident (99 ∷ [])) (at 30 31) end)))))))))
    (leaf (ident w_const) call_site (leaf (ident w_underscore) call_site (punct 58 false call_site (leaf (ident w_default) call_site (punct 61 false call_site (leaf (ident w_false) call_site (punct 59 false call_site end)))))))
    (punct 58 false (at 28 29) (leaf (ident (99 ∷ [])) (at 30 31) end))
unfolding left is_end lookahead_at sees take_token take_lifetime take_mark take_group before rows_for rows run parse_rule
const_item_rest_border_43 = computed const_item_rest _ _ _ refl

-- `const _ : default = false ; = c` prints `const _ : default = false ;` and leaves `= c`
const_item_rest_border_44 : DerivesAs const_item_rest
    (leaf (ident w_const) (at 0 5) (leaf (ident w_underscore) (at 6 7) (punct 58 false (at 8 9) (leaf (ident w_default) (at 10 17) (punct 61 false (at 18 19) (leaf (ident w_false) (at 20 25) (punct 59 false (at 26 27) (punct 61 false (at 28 29) (leaf (ident (99 ∷ [])) (at 30 31) end)))))))))
    (leaf (ident w_const) call_site (leaf (ident w_underscore) call_site (punct 58 false call_site (leaf (ident w_default) call_site (punct 61 false call_site (leaf (ident w_false) call_site (punct 59 false call_site end)))))))
    (punct 61 false (at 28 29) (leaf (ident (99 ∷ [])) (at 30 31) end))
unfolding left is_end lookahead_at sees take_token take_lifetime take_mark take_group before rows_for rows run parse_rule
const_item_rest_border_44 = computed const_item_rest _ _ _ refl

-- `const _ : default = false ; pub` prints `const _ : default = false ;` and leaves `pub`
const_item_rest_border_45 : DerivesAs const_item_rest
    (leaf (ident w_const) (at 0 5) (leaf (ident w_underscore) (at 6 7) (punct 58 false (at 8 9) (leaf (ident w_default) (at 10 17) (punct 61 false (at 18 19) (leaf (ident w_false) (at 20 25) (punct 59 false (at 26 27) (leaf (ident w_pub) (at 28 31) end))))))))
    (leaf (ident w_const) call_site (leaf (ident w_underscore) call_site (punct 58 false call_site (leaf (ident w_default) call_site (punct 61 false call_site (leaf (ident w_false) call_site (punct 59 false call_site end)))))))
    (leaf (ident w_pub) (at 28 31) end)
unfolding left is_end lookahead_at sees take_token take_lifetime take_mark take_group before rows_for rows run parse_rule
const_item_rest_border_45 = computed const_item_rest _ _ _ refl

-- `const _ : default = false pub ;`: nothing is read
const_item_rest_border_46 : NotDerived (rule const_item_rest)
    (leaf (ident w_const) (at 0 5) (leaf (ident w_underscore) (at 6 7) (punct 58 false (at 8 9) (leaf (ident w_default) (at 10 17) (punct 61 false (at 18 19) (leaf (ident w_false) (at 20 25) (leaf (ident w_pub) (at 26 29) (punct 59 false (at 30 31) end))))))))
unfolding left is_end lookahead_at sees take_token take_lifetime take_mark take_group before rows_for rows run parse_rule
const_item_rest_border_46 = not_read const_item_rest _ refl

-- `const _ : default = pub false ;`: nothing is read
const_item_rest_border_47 : NotDerived (rule const_item_rest)
    (leaf (ident w_const) (at 0 5) (leaf (ident w_underscore) (at 6 7) (punct 58 false (at 8 9) (leaf (ident w_default) (at 10 17) (punct 61 false (at 18 19) (leaf (ident w_pub) (at 20 23) (leaf (ident w_false) (at 24 29) (punct 59 false (at 30 31) end))))))))
unfolding left is_end lookahead_at sees take_token take_lifetime take_mark take_group before rows_for rows run parse_rule
const_item_rest_border_47 = not_read const_item_rest _ refl

-- `const _ : default pub = false ;`: nothing is read
const_item_rest_border_48 : NotDerived (rule const_item_rest)
    (leaf (ident w_const) (at 0 5) (leaf (ident w_underscore) (at 6 7) (punct 58 false (at 8 9) (leaf (ident w_default) (at 10 17) (leaf (ident w_pub) (at 18 21) (punct 61 false (at 22 23) (leaf (ident w_false) (at 24 29) (punct 59 false (at 30 31) end))))))))
unfolding left is_end lookahead_at sees take_token take_lifetime take_mark take_group before rows_for rows run parse_rule
const_item_rest_border_48 = not_read const_item_rest _ refl

-- `const _ : pub default = false ;`: nothing is read
const_item_rest_border_49 : NotDerived (rule const_item_rest)
    (leaf (ident w_const) (at 0 5) (leaf (ident w_underscore) (at 6 7) (punct 58 false (at 8 9) (leaf (ident w_pub) (at 10 13) (leaf (ident w_default) (at 14 21) (punct 61 false (at 22 23) (leaf (ident w_false) (at 24 29) (punct 59 false (at 30 31) end))))))))
unfolding left is_end lookahead_at sees take_token take_lifetime take_mark take_group before rows_for rows run parse_rule
const_item_rest_border_49 = not_read const_item_rest _ refl

-- `const _ pub : default = false ;`: nothing is read
const_item_rest_border_50 : NotDerived (rule const_item_rest)
    (leaf (ident w_const) (at 0 5) (leaf (ident w_underscore) (at 6 7) (leaf (ident w_pub) (at 8 11) (punct 58 false (at 12 13) (leaf (ident w_default) (at 14 21) (punct 61 false (at 22 23) (leaf (ident w_false) (at 24 29) (punct 59 false (at 30 31) end))))))))
unfolding left is_end lookahead_at sees take_token take_lifetime take_mark take_group before rows_for rows run parse_rule
const_item_rest_border_50 = not_read const_item_rest _ refl

-- `const pub _ : default = false ;`: nothing is read
const_item_rest_border_51 : NotDerived (rule const_item_rest)
    (leaf (ident w_const) (at 0 5) (leaf (ident w_pub) (at 6 9) (leaf (ident w_underscore) (at 10 11) (punct 58 false (at 12 13) (leaf (ident w_default) (at 14 21) (punct 61 false (at 22 23) (leaf (ident w_false) (at 24 29) (punct 59 false (at 30 31) end))))))))
unfolding left is_end lookahead_at sees take_token take_lifetime take_mark take_group before rows_for rows run parse_rule
const_item_rest_border_51 = not_read const_item_rest _ refl

-- `pub const _ : default = false ;` prints `pub const _ : default = false ;`
const_item_rest_border_52 : DerivesAs const_item_rest
    (leaf (ident w_pub) (at 0 3) (leaf (ident w_const) (at 4 9) (leaf (ident w_underscore) (at 10 11) (punct 58 false (at 12 13) (leaf (ident w_default) (at 14 21) (punct 61 false (at 22 23) (leaf (ident w_false) (at 24 29) (punct 59 false (at 30 31) end))))))))
    (leaf (ident w_pub) call_site (leaf (ident w_const) call_site (leaf (ident w_underscore) call_site (punct 58 false call_site (leaf (ident w_default) call_site (punct 61 false call_site (leaf (ident w_false) call_site (punct 59 false call_site end))))))))
    (end)
unfolding left is_end lookahead_at sees take_token take_lifetime take_mark take_group before rows_for rows run parse_rule
const_item_rest_border_52 = computed const_item_rest _ _ _ refl

-- `const _ : const default = false ;`: nothing is read
const_item_rest_border_53 : NotDerived (rule const_item_rest)
    (leaf (ident w_const) (at 0 5) (leaf (ident w_underscore) (at 6 7) (punct 58 false (at 8 9) (leaf (ident w_const) (at 10 15) (leaf (ident w_default) (at 16 23) (punct 61 false (at 24 25) (leaf (ident w_false) (at 26 31) (punct 59 false (at 32 33) end))))))))
unfolding left is_end lookahead_at sees take_token take_lifetime take_mark take_group before rows_for rows run parse_rule
const_item_rest_border_53 = not_read const_item_rest _ refl

-- `const _ : default = const false ;`: nothing is read
const_item_rest_border_54 : NotDerived (rule const_item_rest)
    (leaf (ident w_const) (at 0 5) (leaf (ident w_underscore) (at 6 7) (punct 58 false (at 8 9) (leaf (ident w_default) (at 10 17) (punct 61 false (at 18 19) (leaf (ident w_const) (at 20 25) (leaf (ident w_false) (at 26 31) (punct 59 false (at 32 33) end))))))))
unfolding left is_end lookahead_at sees take_token take_lifetime take_mark take_group before rows_for rows run parse_rule
const_item_rest_border_54 = not_read const_item_rest _ refl

-- `const _ : default = false ; const` prints `const _ : default = false ;` and leaves `const`
const_item_rest_border_55 : DerivesAs const_item_rest
    (leaf (ident w_const) (at 0 5) (leaf (ident w_underscore) (at 6 7) (punct 58 false (at 8 9) (leaf (ident w_default) (at 10 17) (punct 61 false (at 18 19) (leaf (ident w_false) (at 20 25) (punct 59 false (at 26 27) (leaf (ident w_const) (at 28 33) end))))))))
    (leaf (ident w_const) call_site (leaf (ident w_underscore) call_site (punct 58 false call_site (leaf (ident w_default) call_site (punct 61 false call_site (leaf (ident w_false) call_site (punct 59 false call_site end)))))))
    (leaf (ident w_const) (at 28 33) end)
unfolding left is_end lookahead_at sees take_token take_lifetime take_mark take_group before rows_for rows run parse_rule
const_item_rest_border_55 = computed const_item_rest _ _ _ refl

-- `const _ : default = false const ;`: nothing is read
const_item_rest_border_56 : NotDerived (rule const_item_rest)
    (leaf (ident w_const) (at 0 5) (leaf (ident w_underscore) (at 6 7) (punct 58 false (at 8 9) (leaf (ident w_default) (at 10 17) (punct 61 false (at 18 19) (leaf (ident w_false) (at 20 25) (leaf (ident w_const) (at 26 31) (punct 59 false (at 32 33) end))))))))
unfolding left is_end lookahead_at sees take_token take_lifetime take_mark take_group before rows_for rows run parse_rule
const_item_rest_border_56 = not_read const_item_rest _ refl

-- `const _ : default const = false ;`: nothing is read
const_item_rest_border_57 : NotDerived (rule const_item_rest)
    (leaf (ident w_const) (at 0 5) (leaf (ident w_underscore) (at 6 7) (punct 58 false (at 8 9) (leaf (ident w_default) (at 10 17) (leaf (ident w_const) (at 18 23) (punct 61 false (at 24 25) (leaf (ident w_false) (at 26 31) (punct 59 false (at 32 33) end))))))))
unfolding left is_end lookahead_at sees take_token take_lifetime take_mark take_group before rows_for rows run parse_rule
const_item_rest_border_57 = not_read const_item_rest _ refl

-- `const _ const : default = false ;`: nothing is read
const_item_rest_border_58 : NotDerived (rule const_item_rest)
    (leaf (ident w_const) (at 0 5) (leaf (ident w_underscore) (at 6 7) (leaf (ident w_const) (at 8 13) (punct 58 false (at 14 15) (leaf (ident w_default) (at 16 23) (punct 61 false (at 24 25) (leaf (ident w_false) (at 26 31) (punct 59 false (at 32 33) end))))))))
unfolding left is_end lookahead_at sees take_token take_lifetime take_mark take_group before rows_for rows run parse_rule
const_item_rest_border_58 = not_read const_item_rest _ refl

-- `const const _ : default = false ;`: nothing is read
const_item_rest_border_59 : NotDerived (rule const_item_rest)
    (leaf (ident w_const) (at 0 5) (leaf (ident w_const) (at 6 11) (leaf (ident w_underscore) (at 12 13) (punct 58 false (at 14 15) (leaf (ident w_default) (at 16 23) (punct 61 false (at 24 25) (leaf (ident w_false) (at 26 31) (punct 59 false (at 32 33) end))))))))
unfolding left is_end lookahead_at sees take_token take_lifetime take_mark take_group before rows_for rows run parse_rule
const_item_rest_border_59 = not_read const_item_rest _ refl

-- `static a : ! = false ; # [c]` prints `static a : ! = false ;` and leaves `# [c]`
static_item_border_1 : DerivesAs static_item
    (leaf (ident w_static) (at 0 6) (leaf (ident (97 ∷ [])) (at 7 8) (punct 58 false (at 9 10) (punct 33 false (at 11 12) (punct 61 false (at 13 14) (leaf (ident w_false) (at 15 20) (punct 59 false (at 21 22) (punct 35 false (at 23 24) (group Bracket (at 25 26) (at 27 28) (leaf (ident (99 ∷ [])) (at 26 27) end) end)))))))))
    (leaf (ident w_static) call_site (leaf (ident (97 ∷ [])) call_site (punct 58 false call_site (punct 33 false call_site (punct 61 false call_site (leaf (ident w_false) call_site (punct 59 false call_site end)))))))
    (punct 35 false (at 23 24) (group Bracket (at 25 26) (at 27 28) (leaf (ident (99 ∷ [])) (at 26 27) end) end))
unfolding left is_end lookahead_at sees take_token take_lifetime take_mark take_group before rows_for rows run parse_rule
static_item_border_1 = computed static_item _ _ _ refl

-- `a static a : b = c ;`: nothing is read
static_item_rest_border_1 : NotDerived (rule static_item_rest)
    (leaf (ident (97 ∷ [])) (at 0 1) (leaf (ident w_static) (at 2 8) (leaf (ident (97 ∷ [])) (at 9 10) (punct 58 false (at 11 12) (leaf (ident (98 ∷ [])) (at 13 14) (punct 61 false (at 15 16) (leaf (ident (99 ∷ [])) (at 17 18) (punct 59 false (at 19 20) end))))))))
unfolding left is_end lookahead_at sees take_token take_lifetime take_mark take_group before rows_for rows run parse_rule
static_item_rest_border_1 = not_read static_item_rest _ refl

-- `static : ! =continue ;`: nothing is read
static_item_rest_border_2 : NotDerived (rule static_item_rest)
    (leaf (ident w_static) (at 0 6) (punct 58 false (at 7 8) (punct 33 false (at 9 10) (punct 61 false (at 11 12) (leaf (ident w_continue) (at 12 20) (punct 59 false (at 21 22) end))))))
unfolding left is_end lookahead_at sees take_token take_lifetime take_mark take_group before rows_for rows run parse_rule
static_item_rest_border_2 = not_read static_item_rest _ refl

-- `static : safe : != () ;`: nothing is read
static_item_rest_border_3 : NotDerived (rule static_item_rest)
    (leaf (ident w_static) (at 0 6) (punct 58 false (at 7 8) (leaf (ident w_safe) (at 9 13) (punct 58 false (at 14 15) (punct 33 true (at 16 17) (punct 61 false (at 17 18) (group Paren (at 19 20) (at 20 21) end (punct 59 false (at 22 23) end))))))))
unfolding left is_end lookahead_at sees take_token take_lifetime take_mark take_group before rows_for rows run parse_rule
static_item_rest_border_3 = not_read static_item_rest _ refl

-- `static 1 : ! =continue ;`: nothing is read
static_item_rest_border_4 : NotDerived (rule static_item_rest)
    (leaf (ident w_static) (at 0 6) (leaf (literal Int (49 ∷ [])) (at 7 8) (punct 58 false (at 9 10) (punct 33 false (at 11 12) (punct 61 false (at 13 14) (leaf (ident w_continue) (at 14 22) (punct 59 false (at 23 24) end)))))))
unfolding left is_end lookahead_at sees take_token take_lifetime take_mark take_group before rows_for rows run parse_rule
static_item_rest_border_4 = not_read static_item_rest _ refl

-- `static _ : ! =continue ;`: nothing is read
static_item_rest_border_5 : NotDerived (rule static_item_rest)
    (leaf (ident w_static) (at 0 6) (leaf (ident w_underscore) (at 7 8) (punct 58 false (at 9 10) (punct 33 false (at 11 12) (punct 61 false (at 13 14) (leaf (ident w_continue) (at 14 22) (punct 59 false (at 23 24) end)))))))
unfolding left is_end lookahead_at sees take_token take_lifetime take_mark take_group before rows_for rows run parse_rule
static_item_rest_border_5 = not_read static_item_rest _ refl

-- `static auto ! =continue ;`: nothing is read
static_item_rest_border_6 : NotDerived (rule static_item_rest)
    (leaf (ident w_static) (at 0 6) (leaf (ident w_auto) (at 7 11) (punct 33 false (at 12 13) (punct 61 false (at 14 15) (leaf (ident w_continue) (at 15 23) (punct 59 false (at 24 25) end))))))
unfolding left is_end lookahead_at sees take_token take_lifetime take_mark take_group before rows_for rows run parse_rule
static_item_rest_border_6 = not_read static_item_rest _ refl

-- `static auto := c () =[] ;`: nothing is read
static_item_rest_border_7 : NotDerived (rule static_item_rest)
    (leaf (ident w_static) (at 0 6) (leaf (ident w_auto) (at 7 11) (punct 58 true (at 12 13) (punct 61 false (at 13 14) (leaf (ident (99 ∷ [])) (at 15 16) (group Paren (at 17 18) (at 18 19) end (punct 61 false (at 20 21) (group Bracket (at 21 22) (at 22 23) end (punct 59 false (at 24 25) end)))))))))
unfolding left is_end lookahead_at sees take_token take_lifetime take_mark take_group before rows_for rows run parse_rule
static_item_rest_border_7 = not_read static_item_rest _ refl

-- `static fn : ! =continue ;`: nothing is read
static_item_rest_border_8 : NotDerived (rule static_item_rest)
    (leaf (ident w_static) (at 0 6) (leaf (ident w_fn) (at 7 9) (punct 58 false (at 10 11) (punct 33 false (at 12 13) (punct 61 false (at 14 15) (leaf (ident w_continue) (at 15 23) (punct 59 false (at 24 25) end)))))))
unfolding left is_end lookahead_at sees take_token take_lifetime take_mark take_group before rows_for rows run parse_rule
static_item_rest_border_8 = not_read static_item_rest _ refl

-- `pub pub static a : b = c ;`: nothing is read
static_item_rest_border_9 : NotDerived (rule static_item_rest)
    (leaf (ident w_pub) (at 0 3) (leaf (ident w_pub) (at 4 7) (leaf (ident w_static) (at 8 14) (leaf (ident (97 ∷ [])) (at 15 16) (punct 58 false (at 17 18) (leaf (ident (98 ∷ [])) (at 19 20) (punct 61 false (at 21 22) (leaf (ident (99 ∷ [])) (at 23 24) (punct 59 false (at 25 26) end)))))))))
unfolding left is_end lookahead_at sees take_token take_lifetime take_mark take_group before rows_for rows run parse_rule
static_item_rest_border_9 = not_read static_item_rest _ refl

-- `static union ::! = false ;`: nothing is read
static_item_rest_border_10 : NotDerived (rule static_item_rest)
    (leaf (ident w_static) (at 0 6) (leaf (ident w_union) (at 7 12) (punct 58 true (at 13 14) (punct 58 true (at 14 15) (punct 33 false (at 15 16) (punct 61 false (at 17 18) (leaf (ident w_false) (at 19 24) (punct 59 false (at 25 26) end))))))))
unfolding left is_end lookahead_at sees take_token take_lifetime take_mark take_group before rows_for rows run parse_rule
static_item_rest_border_10 = not_read static_item_rest _ refl

-- `static Self : ! =continue ;`: nothing is read
static_item_rest_border_11 : NotDerived (rule static_item_rest)
    (leaf (ident w_static) (at 0 6) (leaf (ident w_Self_type) (at 7 11) (punct 58 false (at 12 13) (punct 33 false (at 14 15) (punct 61 false (at 16 17) (leaf (ident w_continue) (at 17 25) (punct 59 false (at 26 27) end)))))))
unfolding left is_end lookahead_at sees take_token take_lifetime take_mark take_group before rows_for rows run parse_rule
static_item_rest_border_11 = not_read static_item_rest _ refl

-- `static auto : ! =continue ,`: nothing is read
static_item_rest_border_12 : NotDerived (rule static_item_rest)
    (leaf (ident w_static) (at 0 6) (leaf (ident w_auto) (at 7 11) (punct 58 false (at 12 13) (punct 33 false (at 14 15) (punct 61 false (at 16 17) (leaf (ident w_continue) (at 17 25) (punct 44 false (at 26 27) end)))))))
unfolding left is_end lookahead_at sees take_token take_lifetime take_mark take_group before rows_for rows run parse_rule
static_item_rest_border_12 = not_read static_item_rest _ refl

-- `static auto = ! =continue ;`: nothing is read
static_item_rest_border_13 : NotDerived (rule static_item_rest)
    (leaf (ident w_static) (at 0 6) (leaf (ident w_auto) (at 7 11) (punct 61 false (at 12 13) (punct 33 false (at 14 15) (punct 61 false (at 16 17) (leaf (ident w_continue) (at 17 25) (punct 59 false (at 26 27) end)))))))
unfolding left is_end lookahead_at sees take_token take_lifetime take_mark take_group before rows_for rows run parse_rule
static_item_rest_border_13 = not_read static_item_rest _ refl

-- `static self : ! =continue ;`: nothing is read
static_item_rest_border_14 : NotDerived (rule static_item_rest)
    (leaf (ident w_static) (at 0 6) (leaf (ident w_self) (at 7 11) (punct 58 false (at 12 13) (punct 33 false (at 14 15) (punct 61 false (at 16 17) (leaf (ident w_continue) (at 17 25) (punct 59 false (at 26 27) end)))))))
unfolding left is_end lookahead_at sees take_token take_lifetime take_mark take_group before rows_for rows run parse_rule
static_item_rest_border_14 = not_read static_item_rest _ refl

-- `: static safe : () = break ;`: nothing is read
static_item_rest_border_15 : NotDerived (rule static_item_rest)
    (punct 58 false (at 0 1) (leaf (ident w_static) (at 2 8) (leaf (ident w_safe) (at 9 13) (punct 58 false (at 14 15) (group Paren (at 16 17) (at 17 18) end (punct 61 false (at 19 20) (leaf (ident w_break) (at 21 26) (punct 59 false (at 27 28) end))))))))
unfolding left is_end lookahead_at sees take_token take_lifetime take_mark take_group before rows_for rows run parse_rule
static_item_rest_border_15 = not_read static_item_rest _ refl

-- `static auto : ! ==continue ;`: nothing is read
static_item_rest_border_16 : NotDerived (rule static_item_rest)
    (leaf (ident w_static) (at 0 6) (leaf (ident w_auto) (at 7 11) (punct 58 false (at 12 13) (punct 33 false (at 14 15) (punct 61 true (at 16 17) (punct 61 false (at 17 18) (leaf (ident w_continue) (at 18 26) (punct 59 false (at 27 28) end))))))))
unfolding left is_end lookahead_at sees take_token take_lifetime take_mark take_group before rows_for rows run parse_rule
static_item_rest_border_16 = not_read static_item_rest _ refl

-- `static crate : ! =continue ;`: nothing is read
static_item_rest_border_17 : NotDerived (rule static_item_rest)
    (leaf (ident w_static) (at 0 6) (leaf (ident w_crate) (at 7 12) (punct 58 false (at 13 14) (punct 33 false (at 15 16) (punct 61 false (at 17 18) (leaf (ident w_continue) (at 18 26) (punct 59 false (at 27 28) end)))))))
unfolding left is_end lookahead_at sees take_token take_lifetime take_mark take_group before rows_for rows run parse_rule
static_item_rest_border_17 = not_read static_item_rest _ refl

-- `static super : ! =continue ;`: nothing is read
static_item_rest_border_18 : NotDerived (rule static_item_rest)
    (leaf (ident w_static) (at 0 6) (leaf (ident w_super) (at 7 12) (punct 58 false (at 13 14) (punct 33 false (at 15 16) (punct 61 false (at 17 18) (leaf (ident w_continue) (at 18 26) (punct 59 false (at 27 28) end)))))))
unfolding left is_end lookahead_at sees take_token take_lifetime take_mark take_group before rows_for rows run parse_rule
static_item_rest_border_18 = not_read static_item_rest _ refl

-- `static union : ! =continue ;` prints `static union : ! = continue ;`
static_item_rest_border_19 : DerivesAs static_item_rest
    (leaf (ident w_static) (at 0 6) (leaf (ident w_union) (at 7 12) (punct 58 false (at 13 14) (punct 33 false (at 15 16) (punct 61 false (at 17 18) (leaf (ident w_continue) (at 18 26) (punct 59 false (at 27 28) end)))))))
    (leaf (ident w_static) call_site (leaf (ident w_union) call_site (punct 58 false call_site (punct 33 false call_site (punct 61 false call_site (leaf (ident w_continue) call_site (punct 59 false call_site end)))))))
    (end)
unfolding left is_end lookahead_at sees take_token take_lifetime take_mark take_group before rows_for rows run parse_rule
static_item_rest_border_19 = computed static_item_rest _ _ _ refl

-- `; static auto : ! =continue ;`: nothing is read
static_item_rest_border_20 : NotDerived (rule static_item_rest)
    (punct 59 false (at 0 1) (leaf (ident w_static) (at 2 8) (leaf (ident w_auto) (at 9 13) (punct 58 false (at 14 15) (punct 33 false (at 16 17) (punct 61 false (at 18 19) (leaf (ident w_continue) (at 19 27) (punct 59 false (at 28 29) end))))))))
unfolding left is_end lookahead_at sees take_token take_lifetime take_mark take_group before rows_for rows run parse_rule
static_item_rest_border_20 = not_read static_item_rest _ refl

-- `static ; auto : ! =continue ;`: nothing is read
static_item_rest_border_21 : NotDerived (rule static_item_rest)
    (leaf (ident w_static) (at 0 6) (punct 59 false (at 7 8) (leaf (ident w_auto) (at 9 13) (punct 58 false (at 14 15) (punct 33 false (at 16 17) (punct 61 false (at 18 19) (leaf (ident w_continue) (at 19 27) (punct 59 false (at 28 29) end))))))))
unfolding left is_end lookahead_at sees take_token take_lifetime take_mark take_group before rows_for rows run parse_rule
static_item_rest_border_21 = not_read static_item_rest _ refl

-- `static auto : ! ; =continue ;`: nothing is read
static_item_rest_border_22 : NotDerived (rule static_item_rest)
    (leaf (ident w_static) (at 0 6) (leaf (ident w_auto) (at 7 11) (punct 58 false (at 12 13) (punct 33 false (at 14 15) (punct 59 false (at 16 17) (punct 61 false (at 18 19) (leaf (ident w_continue) (at 19 27) (punct 59 false (at 28 29) end))))))))
unfolding left is_end lookahead_at sees take_token take_lifetime take_mark take_group before rows_for rows run parse_rule
static_item_rest_border_22 = not_read static_item_rest _ refl

-- `static auto : ! =; continue ;`: nothing is read
static_item_rest_border_23 : NotDerived (rule static_item_rest)
    (leaf (ident w_static) (at 0 6) (leaf (ident w_auto) (at 7 11) (punct 58 false (at 12 13) (punct 33 false (at 14 15) (punct 61 true (at 16 17) (punct 59 false (at 17 18) (leaf (ident w_continue) (at 19 27) (punct 59 false (at 28 29) end))))))))
unfolding left is_end lookahead_at sees take_token take_lifetime take_mark take_group before rows_for rows run parse_rule
static_item_rest_border_23 = not_read static_item_rest _ refl

-- `static auto : ! =continue ; ;` prints `static auto : ! = continue ;` and leaves `;`
static_item_rest_border_24 : DerivesAs static_item_rest
    (leaf (ident w_static) (at 0 6) (leaf (ident w_auto) (at 7 11) (punct 58 false (at 12 13) (punct 33 false (at 14 15) (punct 61 false (at 16 17) (leaf (ident w_continue) (at 17 25) (punct 59 false (at 26 27) (punct 59 false (at 28 29) end))))))))
    (leaf (ident w_static) call_site (leaf (ident w_auto) call_site (punct 58 false call_site (punct 33 false call_site (punct 61 false call_site (leaf (ident w_continue) call_site (punct 59 false call_site end)))))))
    (punct 59 false (at 28 29) end)
unfolding left is_end lookahead_at sees take_token take_lifetime take_mark take_group before rows_for rows run parse_rule
static_item_rest_border_24 = computed static_item_rest _ _ _ refl

-- `static auto : ! =continue ; b` prints `static auto : ! = continue ;` and leaves `b`
static_item_rest_border_25 : DerivesAs static_item_rest
    (leaf (ident w_static) (at 0 6) (leaf (ident w_auto) (at 7 11) (punct 58 false (at 12 13) (punct 33 false (at 14 15) (punct 61 false (at 16 17) (leaf (ident w_continue) (at 17 25) (punct 59 false (at 26 27) (leaf (ident (98 ∷ [])) (at 28 29) end))))))))
    (leaf (ident w_static) call_site (leaf (ident w_auto) call_site (punct 58 false call_site (punct 33 false call_site (punct 61 false call_site (leaf (ident w_continue) call_site (punct 59 false call_site end)))))))
    (leaf (ident (98 ∷ [])) (at 28 29) end)
unfolding left is_end lookahead_at sees take_token take_lifetime take_mark take_group before rows_for rows run parse_rule
static_item_rest_border_25 = computed static_item_rest _ _ _ refl

-- `static auto : ! =continue b ;`: nothing is read
static_item_rest_border_26 : NotDerived (rule static_item_rest)
    (leaf (ident w_static) (at 0 6) (leaf (ident w_auto) (at 7 11) (punct 58 false (at 12 13) (punct 33 false (at 14 15) (punct 61 false (at 16 17) (leaf (ident w_continue) (at 17 25) (leaf (ident (98 ∷ [])) (at 26 27) (punct 59 false (at 28 29) end))))))))
unfolding left is_end lookahead_at sees take_token take_lifetime take_mark take_group before rows_for rows run parse_rule
static_item_rest_border_26 = not_read static_item_rest _ refl

-- `static auto : ! b =continue ;`: nothing is read
static_item_rest_border_27 : NotDerived (rule static_item_rest)
    (leaf (ident w_static) (at 0 6) (leaf (ident w_auto) (at 7 11) (punct 58 false (at 12 13) (punct 33 false (at 14 15) (leaf (ident (98 ∷ [])) (at 16 17) (punct 61 false (at 18 19) (leaf (ident w_continue) (at 19 27) (punct 59 false (at 28 29) end))))))))
unfolding left is_end lookahead_at sees take_token take_lifetime take_mark take_group before rows_for rows run parse_rule
static_item_rest_border_27 = not_read static_item_rest _ refl

-- `static auto : ; ! =continue ;`: nothing is read
static_item_rest_border_28 : NotDerived (rule static_item_rest)
    (leaf (ident w_static) (at 0 6) (leaf (ident w_auto) (at 7 11) (punct 58 false (at 12 13) (punct 59 false (at 14 15) (punct 33 false (at 16 17) (punct 61 false (at 18 19) (leaf (ident w_continue) (at 19 27) (punct 59 false (at 28 29) end))))))))
unfolding left is_end lookahead_at sees take_token take_lifetime take_mark take_group before rows_for rows run parse_rule
static_item_rest_border_28 = not_read static_item_rest _ refl

-- `static auto ; : ! =continue ;`: nothing is read
static_item_rest_border_29 : NotDerived (rule static_item_rest)
    (leaf (ident w_static) (at 0 6) (leaf (ident w_auto) (at 7 11) (punct 59 false (at 12 13) (punct 58 false (at 14 15) (punct 33 false (at 16 17) (punct 61 false (at 18 19) (leaf (ident w_continue) (at 19 27) (punct 59 false (at 28 29) end))))))))
unfolding left is_end lookahead_at sees take_token take_lifetime take_mark take_group before rows_for rows run parse_rule
static_item_rest_border_29 = not_read static_item_rest _ refl

-- `static auto : ! = c =continue ;` prints `static auto : ! = c = continue ;`
static_item_rest_border_30 : DerivesAs static_item_rest
    (leaf (ident w_static) (at 0 6) (leaf (ident w_auto) (at 7 11) (punct 58 false (at 12 13) (punct 33 false (at 14 15) (punct 61 false (at 16 17) (leaf (ident (99 ∷ [])) (at 18 19) (punct 61 false (at 20 21) (leaf (ident w_continue) (at 21 29) (punct 59 false (at 30 31) end)))))))))
    (leaf (ident w_static) call_site (leaf (ident w_auto) call_site (punct 58 false call_site (punct 33 false call_site (punct 61 false call_site (leaf (ident (99 ∷ [])) call_site (punct 61 false call_site (leaf (ident w_continue) call_site (punct 59 false call_site end)))))))))
    (end)
unfolding left is_end lookahead_at sees take_token take_lifetime take_mark take_group before rows_for rows run parse_rule
static_item_rest_border_30 = computed static_item_rest _ _ _ refl

-- `static auto : ! =continue ; : c` prints `static auto : ! = continue ;` and leaves `: c`
static_item_rest_border_31 : DerivesAs static_item_rest
    (leaf (ident w_static) (at 0 6) (leaf (ident w_auto) (at 7 11) (punct 58 false (at 12 13) (punct 33 false (at 14 15) (punct 61 false (at 16 17) (leaf (ident w_continue) (at 17 25) (punct 59 false (at 26 27) (punct 58 false (at 28 29) (leaf (ident (99 ∷ [])) (at 30 31) end)))))))))
    (leaf (ident w_static) call_site (leaf (ident w_auto) call_site (punct 58 false call_site (punct 33 false call_site (punct 61 false call_site (leaf (ident w_continue) call_site (punct 59 false call_site end)))))))
    (punct 58 false (at 28 29) (leaf (ident (99 ∷ [])) (at 30 31) end))
unfolding left is_end lookahead_at sees take_token take_lifetime take_mark take_group before rows_for rows run parse_rule
static_item_rest_border_31 = computed static_item_rest _ _ _ refl

-- `static auto : ! =continue ; = c` prints `static auto : ! = continue ;` and leaves `= c`
static_item_rest_border_32 : DerivesAs static_item_rest
    (leaf (ident w_static) (at 0 6) (leaf (ident w_auto) (at 7 11) (punct 58 false (at 12 13) (punct 33 false (at 14 15) (punct 61 false (at 16 17) (leaf (ident w_continue) (at 17 25) (punct 59 false (at 26 27) (punct 61 false (at 28 29) (leaf (ident (99 ∷ [])) (at 30 31) end)))))))))
    (leaf (ident w_static) call_site (leaf (ident w_auto) call_site (punct 58 false call_site (punct 33 false call_site (punct 61 false call_site (leaf (ident w_continue) call_site (punct 59 false call_site end)))))))
    (punct 61 false (at 28 29) (leaf (ident (99 ∷ [])) (at 30 31) end))
unfolding left is_end lookahead_at sees take_token take_lifetime take_mark take_group before rows_for rows run parse_rule
static_item_rest_border_32 = computed static_item_rest _ _ _ refl

-- `static auto : ! =continue ; pub` prints `static auto : ! = continue ;` and leaves `pub`
static_item_rest_border_33 : DerivesAs static_item_rest
    (leaf (ident w_static) (at 0 6) (leaf (ident w_auto) (at 7 11) (punct 58 false (at 12 13) (punct 33 false (at 14 15) (punct 61 false (at 16 17) (leaf (ident w_continue) (at 17 25) (punct 59 false (at 26 27) (leaf (ident w_pub) (at 28 31) end))))))))
    (leaf (ident w_static) call_site (leaf (ident w_auto) call_site (punct 58 false call_site (punct 33 false call_site (punct 61 false call_site (leaf (ident w_continue) call_site (punct 59 false call_site end)))))))
    (leaf (ident w_pub) (at 28 31) end)
unfolding left is_end lookahead_at sees take_token take_lifetime take_mark take_group before rows_for rows run parse_rule
static_item_rest_border_33 = computed static_item_rest _ _ _ refl

-- `static auto : ! =continue pub ;`: nothing is read
static_item_rest_border_34 : NotDerived (rule static_item_rest)
    (leaf (ident w_static) (at 0 6) (leaf (ident w_auto) (at 7 11) (punct 58 false (at 12 13) (punct 33 false (at 14 15) (punct 61 false (at 16 17) (leaf (ident w_continue) (at 17 25) (leaf (ident w_pub) (at 26 29) (punct 59 false (at 30 31) end))))))))
unfolding left is_end lookahead_at sees take_token take_lifetime take_mark take_group before rows_for rows run parse_rule
static_item_rest_border_34 = not_read static_item_rest _ refl

-- `static auto : ! =pub continue ;`: nothing is read
static_item_rest_border_35 : NotDerived (rule static_item_rest)
    (leaf (ident w_static) (at 0 6) (leaf (ident w_auto) (at 7 11) (punct 58 false (at 12 13) (punct 33 false (at 14 15) (punct 61 false (at 16 17) (leaf (ident w_pub) (at 17 20) (leaf (ident w_continue) (at 21 29) (punct 59 false (at 30 31) end))))))))
unfolding left is_end lookahead_at sees take_token take_lifetime take_mark take_group before rows_for rows run parse_rule
static_item_rest_border_35 = not_read static_item_rest _ refl

-- `static auto : ! pub =continue ;`: nothing is read
static_item_rest_border_36 : NotDerived (rule static_item_rest)
    (leaf (ident w_static) (at 0 6) (leaf (ident w_auto) (at 7 11) (punct 58 false (at 12 13) (punct 33 false (at 14 15) (leaf (ident w_pub) (at 16 19) (punct 61 false (at 20 21) (leaf (ident w_continue) (at 21 29) (punct 59 false (at 30 31) end))))))))
unfolding left is_end lookahead_at sees take_token take_lifetime take_mark take_group before rows_for rows run parse_rule
static_item_rest_border_36 = not_read static_item_rest _ refl

-- `static auto : pub ! =continue ;`: nothing is read
static_item_rest_border_37 : NotDerived (rule static_item_rest)
    (leaf (ident w_static) (at 0 6) (leaf (ident w_auto) (at 7 11) (punct 58 false (at 12 13) (leaf (ident w_pub) (at 14 17) (punct 33 false (at 18 19) (punct 61 false (at 20 21) (leaf (ident w_continue) (at 21 29) (punct 59 false (at 30 31) end))))))))
unfolding left is_end lookahead_at sees take_token take_lifetime take_mark take_group before rows_for rows run parse_rule
static_item_rest_border_37 = not_read static_item_rest _ refl

-- `static auto pub : ! =continue ;`: nothing is read
static_item_rest_border_38 : NotDerived (rule static_item_rest)
    (leaf (ident w_static) (at 0 6) (leaf (ident w_auto) (at 7 11) (leaf (ident w_pub) (at 12 15) (punct 58 false (at 16 17) (punct 33 false (at 18 19) (punct 61 false (at 20 21) (leaf (ident w_continue) (at 21 29) (punct 59 false (at 30 31) end))))))))
unfolding left is_end lookahead_at sees take_token take_lifetime take_mark take_group before rows_for rows run parse_rule
static_item_rest_border_38 = not_read static_item_rest _ refl

-- `static mut a : () = mut union ;`: nothing is read
static_item_rest_border_39 : NotDerived (rule static_item_rest)
    (leaf (ident w_static) (at 0 6) (leaf (ident w_mut) (at 7 10) (leaf (ident (97 ∷ [])) (at 11 12) (punct 58 false (at 13 14) (group Paren (at 15 16) (at 16 17) end (punct 61 false (at 18 19) (leaf (ident w_mut) (at 20 23) (leaf (ident w_union) (at 24 29) (punct 59 false (at 30 31) end)))))))))
unfolding left is_end lookahead_at sees take_token take_lifetime take_mark take_group before rows_for rows run parse_rule
static_item_rest_border_39 = not_read static_item_rest _ refl

-- `static mut a mut : auto = "s" ;`: nothing is read
static_item_rest_border_40 : NotDerived (rule static_item_rest)
    (leaf (ident w_static) (at 0 6) (leaf (ident w_mut) (at 7 10) (leaf (ident (97 ∷ [])) (at 11 12) (leaf (ident w_mut) (at 13 16) (punct 58 false (at 17 18) (leaf (ident w_auto) (at 19 23) (punct 61 false (at 24 25) (leaf (literal Str (34 ∷ 115 ∷ 34 ∷ [])) (at 26 29) (punct 59 false (at 30 31) end)))))))))
unfolding left is_end lookahead_at sees take_token take_lifetime take_mark take_group before rows_for rows run parse_rule
static_item_rest_border_40 = not_read static_item_rest _ refl

-- `static mut auto : !=default : ;`: nothing is read
static_item_rest_border_41 : NotDerived (rule static_item_rest)
    (leaf (ident w_static) (at 0 6) (leaf (ident w_mut) (at 7 10) (leaf (ident w_auto) (at 11 15) (punct 58 false (at 16 17) (punct 33 true (at 18 19) (punct 61 false (at 19 20) (leaf (ident w_default) (at 20 27) (punct 58 false (at 28 29) (punct 59 false (at 30 31) end)))))))))
unfolding left is_end lookahead_at sees take_token take_lifetime take_mark take_group before rows_for rows run parse_rule
static_item_rest_border_41 = not_read static_item_rest _ refl

-- `static pub auto : ! =continue ;`: nothing is read
static_item_rest_border_42 : NotDerived (rule static_item_rest)
    (leaf (ident w_static) (at 0 6) (leaf (ident w_pub) (at 7 10) (leaf (ident w_auto) (at 11 15) (punct 58 false (at 16 17) (punct 33 false (at 18 19) (punct 61 false (at 20 21) (leaf (ident w_continue) (at 21 29) (punct 59 false (at 30 31) end))))))))
unfolding left is_end lookahead_at sees take_token take_lifetime take_mark take_group before rows_for rows run parse_rule
static_item_rest_border_42 = not_read static_item_rest _ refl

-- `static safe : mut () = return ;`: nothing is read
static_item_rest_border_43 : NotDerived (rule static_item_rest)
    (leaf (ident w_static) (at 0 6) (leaf (ident w_safe) (at 7 11) (punct 58 false (at 12 13) (leaf (ident w_mut) (at 14 17) (group Paren (at 18 19) (at 19 20) end (punct 61 false (at 21 22) (leaf (ident w_return) (at 23 29) (punct 59 false (at 30 31) end))))))))
unfolding left is_end lookahead_at sees take_token take_lifetime take_mark take_group before rows_for rows run parse_rule
static_item_rest_border_43 = not_read static_item_rest _ refl

-- `static safe :() = () & return ;` prints `static safe : () = () & return ;`
static_item_rest_border_44 : DerivesAs static_item_rest
    (leaf (ident w_static) (at 0 6) (leaf (ident w_safe) (at 7 11) (punct 58 false (at 12 13) (group Paren (at 13 14) (at 14 15) end (punct 61 false (at 16 17) (group Paren (at 18 19) (at 19 20) end (punct 38 false (at 21 22) (leaf (ident w_return) (at 23 29) (punct 59 false (at 30 31) end)))))))))
    (leaf (ident w_static) call_site (leaf (ident w_safe) call_site (punct 58 false call_site (group Paren call_site call_site end (punct 61 false call_site (group Paren call_site call_site end (punct 38 false call_site (leaf (ident w_return) call_site (punct 59 false call_site end)))))))))
    (end)
unfolding left is_end lookahead_at sees take_token take_lifetime take_mark take_group before rows_for rows run parse_rule
static_item_rest_border_44 = computed static_item_rest _ _ _ refl

-- `static auto auto : ! =continue ;`: nothing is read
static_item_rest_border_45 : NotDerived (rule static_item_rest)
    (leaf (ident w_static) (at 0 6) (leaf (ident w_auto) (at 7 11) (leaf (ident w_auto) (at 12 16) (punct 58 false (at 17 18) (punct 33 false (at 19 20) (punct 61 false (at 21 22) (leaf (ident w_continue) (at 22 30) (punct 59 false (at 31 32) end))))))))
unfolding left is_end lookahead_at sees take_token take_lifetime take_mark take_group before rows_for rows run parse_rule
static_item_rest_border_45 = not_read static_item_rest _ refl

-- `static mut auto static :! = () ;`: nothing is read
static_item_rest_border_46 : NotDerived (rule static_item_rest)
    (leaf (ident w_static) (at 0 6) (leaf (ident w_mut) (at 7 10) (leaf (ident w_auto) (at 11 15) (leaf (ident w_static) (at 16 22) (punct 58 true (at 23 24) (punct 33 false (at 24 25) (punct 61 false (at 26 27) (group Paren (at 28 29) (at 29 30) end (punct 59 false (at 31 32) end)))))))))
unfolding left is_end lookahead_at sees take_token take_lifetime take_mark take_group before rows_for rows run parse_rule
static_item_rest_border_46 = not_read static_item_rest _ refl

-- `static union = : () = continue ;`: nothing is read
static_item_rest_border_47 : NotDerived (rule static_item_rest)
    (leaf (ident w_static) (at 0 6) (leaf (ident w_union) (at 7 12) (punct 61 false (at 13 14) (punct 58 false (at 15 16) (group Paren (at 17 18) (at 18 19) end (punct 61 false (at 20 21) (leaf (ident w_continue) (at 22 30) (punct 59 false (at 31 32) end))))))))
unfolding left is_end lookahead_at sees take_token take_lifetime take_mark take_group before rows_for rows run parse_rule
static_item_rest_border_47 = not_read static_item_rest _ refl

-- `static safe : () = static false ;`: nothing is read
static_item_rest_border_48 : NotDerived (rule static_item_rest)
    (leaf (ident w_static) (at 0 6) (leaf (ident w_safe) (at 7 11) (punct 58 false (at 12 13) (group Paren (at 14 15) (at 15 16) end (punct 61 false (at 17 18) (leaf (ident w_static) (at 19 25) (leaf (ident w_false) (at 26 31) (punct 59 false (at 32 33) end))))))))
unfolding left is_end lookahead_at sees take_token take_lifetime take_mark take_group before rows_for rows run parse_rule
static_item_rest_border_48 = not_read static_item_rest _ refl

-- `static union : ! mut = continue ;`: nothing is read
static_item_rest_border_49 : NotDerived (rule static_item_rest)
    (leaf (ident w_static) (at 0 6) (leaf (ident w_union) (at 7 12) (punct 58 false (at 13 14) (punct 33 false (at 15 16) (leaf (ident w_mut) (at 17 20) (punct 61 false (at 21 22) (leaf (ident w_continue) (at 23 31) (punct 59 false (at 32 33) end))))))))
unfolding left is_end lookahead_at sees take_token take_lifetime take_mark take_group before rows_for rows run parse_rule
static_item_rest_border_49 = not_read static_item_rest _ refl

-- `static static auto : ! =continue ;`: nothing is read
static_item_rest_border_50 : NotDerived (rule static_item_rest)
    (leaf (ident w_static) (at 0 6) (leaf (ident w_static) (at 7 13) (leaf (ident w_auto) (at 14 18) (punct 58 false (at 19 20) (punct 33 false (at 21 22) (punct 61 false (at 23 24) (leaf (ident w_continue) (at 24 32) (punct 59 false (at 33 34) end))))))))
unfolding left is_end lookahead_at sees take_token take_lifetime take_mark take_group before rows_for rows run parse_rule
static_item_rest_border_50 = not_read static_item_rest _ refl

-- `mut static mut union : () = break ;`: nothing is read
static_item_rest_border_51 : NotDerived (rule static_item_rest)
    (leaf (ident w_mut) (at 0 3) (leaf (ident w_static) (at 4 10) (leaf (ident w_mut) (at 11 14) (leaf (ident w_union) (at 15 20) (punct 58 false (at 21 22) (group Paren (at 23 24) (at 24 25) end (punct 61 false (at 26 27) (leaf (ident w_break) (at 28 33) (punct 59 false (at 34 35) end)))))))))
unfolding left is_end lookahead_at sees take_token take_lifetime take_mark take_group before rows_for rows run parse_rule
static_item_rest_border_51 = not_read static_item_rest _ refl

-- `static union : Self static = safe ;`: nothing is read
static_item_rest_border_52 : NotDerived (rule static_item_rest)
    (leaf (ident w_static) (at 0 6) (leaf (ident w_union) (at 7 12) (punct 58 false (at 13 14) (leaf (ident w_Self_type) (at 15 19) (leaf (ident w_static) (at 20 26) (punct 61 false (at 27 28) (leaf (ident w_safe) (at 29 33) (punct 59 false (at 34 35) end))))))))
unfolding left is_end lookahead_at sees take_token take_lifetime take_mark take_group before rows_for rows run parse_rule
static_item_rest_border_52 = not_read static_item_rest _ refl

-- `mut union : self = true / continue ;`: nothing is read
static_item_rest_border_53 : NotDerived (rule static_item_rest)
    (leaf (ident w_mut) (at 0 3) (leaf (ident w_union) (at 4 9) (punct 58 false (at 10 11) (leaf (ident w_self) (at 12 16) (punct 61 false (at 17 18) (leaf (ident w_true) (at 19 23) (punct 47 false (at 24 25) (leaf (ident w_continue) (at 26 34) (punct 59 false (at 35 36) end)))))))))
unfolding left is_end lookahead_at sees take_token take_lifetime take_mark take_group before rows_for rows run parse_rule
static_item_rest_border_53 = not_read static_item_rest _ refl

-- `static auto : static () = union () ;`: nothing is read
static_item_rest_border_54 : NotDerived (rule static_item_rest)
    (leaf (ident w_static) (at 0 6) (leaf (ident w_auto) (at 7 11) (punct 58 false (at 12 13) (leaf (ident w_static) (at 14 20) (group Paren (at 21 22) (at 22 23) end (punct 61 false (at 24 25) (leaf (ident w_union) (at 26 31) (group Paren (at 32 33) (at 33 34) end (punct 59 false (at 35 36) end)))))))))
unfolding left is_end lookahead_at sees take_token take_lifetime take_mark take_group before rows_for rows run parse_rule
static_item_rest_border_54 = not_read static_item_rest _ refl

-- `static union : [default] : = return ;`: nothing is read
static_item_rest_border_55 : NotDerived (rule static_item_rest)
    (leaf (ident w_static) (at 0 6) (leaf (ident w_union) (at 7 12) (punct 58 false (at 13 14) (group Bracket (at 15 16) (at 23 24) (leaf (ident w_default) (at 16 23) end) (punct 58 false (at 25 26) (punct 61 false (at 27 28) (leaf (ident w_return) (at 29 35) (punct 59 false (at 36 37) end))))))))
unfolding left is_end lookahead_at sees take_token take_lifetime take_mark take_group before rows_for rows run parse_rule
static_item_rest_border_55 = not_read static_item_rest _ refl

-- `static auto : union = false . 1 static ;`: nothing is read
static_item_rest_border_56 : NotDerived (rule static_item_rest)
    (leaf (ident w_static) (at 0 6) (leaf (ident w_auto) (at 7 11) (punct 58 false (at 12 13) (leaf (ident w_union) (at 14 19) (punct 61 false (at 20 21) (leaf (ident w_false) (at 22 27) (punct 46 false (at 28 29) (leaf (literal Int (49 ∷ [])) (at 30 31) (leaf (ident w_static) (at 32 38) (punct 59 false (at 39 40) end))))))))))
unfolding left is_end lookahead_at sees take_token take_lifetime take_mark take_group before rows_for rows run parse_rule
static_item_rest_border_56 = not_read static_item_rest _ refl

-- `pub static mut auto : () = return ; static` prints `pub static mut auto : () = return ;` and leaves `static`
static_item_rest_border_57 : DerivesAs static_item_rest
    (leaf (ident w_pub) (at 0 3) (leaf (ident w_static) (at 4 10) (leaf (ident w_mut) (at 11 14) (leaf (ident w_auto) (at 15 19) (punct 58 false (at 20 21) (group Paren (at 22 23) (at 23 24) end (punct 61 false (at 25 26) (leaf (ident w_return) (at 27 33) (punct 59 false (at 34 35) (leaf (ident w_static) (at 36 42) end))))))))))
    (leaf (ident w_pub) call_site (leaf (ident w_static) call_site (leaf (ident w_mut) call_site (leaf (ident w_auto) call_site (punct 58 false call_site (group Paren call_site call_site end (punct 61 false call_site (leaf (ident w_return) call_site (punct 59 false call_site end)))))))))
    (leaf (ident w_static) (at 36 42) end)
unfolding left is_end lookahead_at sees take_token take_lifetime take_mark take_group before rows_for rows run parse_rule
static_item_rest_border_57 = computed static_item_rest _ _ _ refl

-- `static = mut union : () = {} + & true . auto ;`: nothing is read
static_item_rest_border_58 : NotDerived (rule static_item_rest)
    (leaf (ident w_static) (at 0 6) (punct 61 false (at 7 8) (leaf (ident w_mut) (at 9 12) (leaf (ident w_union) (at 13 18) (punct 58 false (at 19 20) (group Paren (at 21 22) (at 22 23) end (punct 61 false (at 24 25) (group Brace (at 26 27) (at 27 28) end (punct 43 false (at 29 30) (punct 38 false (at 31 32) (leaf (ident w_true) (at 33 37) (punct 46 false (at 38 39) (leaf (ident w_auto) (at 40 44) (punct 59 false (at 45 46) end))))))))))))))
unfolding left is_end lookahead_at sees take_token take_lifetime take_mark take_group before rows_for rows run parse_rule
static_item_rest_border_58 = not_read static_item_rest _ refl

-- `static mut default : safe = return | true ; mut` prints `static mut default : safe = return | true ;` and leaves `mut`
static_item_rest_border_59 : DerivesAs static_item_rest
    (leaf (ident w_static) (at 0 6) (leaf (ident w_mut) (at 7 10) (leaf (ident w_default) (at 11 18) (punct 58 false (at 19 20) (leaf (ident w_safe) (at 21 25) (punct 61 false (at 26 27) (leaf (ident w_return) (at 28 34) (punct 124 false (at 35 36) (leaf (ident w_true) (at 37 41) (punct 59 false (at 42 43) (leaf (ident w_mut) (at 44 47) end)))))))))))
    (leaf (ident w_static) call_site (leaf (ident w_mut) call_site (leaf (ident w_default) call_site (punct 58 false call_site (leaf (ident w_safe) call_site (punct 61 false call_site (leaf (ident w_return) call_site (punct 124 false call_site (leaf (ident w_true) call_site (punct 59 false call_site end))))))))))
    (leaf (ident w_mut) (at 44 47) end)
unfolding left is_end lookahead_at sees take_token take_lifetime take_mark take_group before rows_for rows run parse_rule
static_item_rest_border_59 = computed static_item_rest _ _ _ refl

-- `static mut mut union : self = true / continue ;`: nothing is read
static_item_rest_border_60 : NotDerived (rule static_item_rest)
    (leaf (ident w_static) (at 0 6) (leaf (ident w_mut) (at 7 10) (leaf (ident w_mut) (at 11 14) (leaf (ident w_union) (at 15 20) (punct 58 false (at 21 22) (leaf (ident w_self) (at 23 27) (punct 61 false (at 28 29) (leaf (ident w_true) (at 30 34) (punct 47 false (at 35 36) (leaf (ident w_continue) (at 37 45) (punct 59 false (at 46 47) end)))))))))))
unfolding left is_end lookahead_at sees take_token take_lifetime take_mark take_group before rows_for rows run parse_rule
static_item_rest_border_60 = not_read static_item_rest _ refl

-- `static auto : default = : c & continue . safe && safe ;`: nothing is read
static_item_rest_border_61 : NotDerived (rule static_item_rest)
    (leaf (ident w_static) (at 0 6) (leaf (ident w_auto) (at 7 11) (punct 58 false (at 12 13) (leaf (ident w_default) (at 14 21) (punct 61 false (at 22 23) (punct 58 false (at 24 25) (leaf (ident (99 ∷ [])) (at 26 27) (punct 38 false (at 28 29) (leaf (ident w_continue) (at 30 38) (punct 46 false (at 39 40) (leaf (ident w_safe) (at 41 45) (punct 38 true (at 46 47) (punct 38 false (at 47 48) (leaf (ident w_safe) (at 49 53) (punct 59 false (at 54 55) end)))))))))))))))
unfolding left is_end lookahead_at sees take_token take_lifetime take_mark take_group before rows_for rows run parse_rule
static_item_rest_border_61 = not_read static_item_rest _ refl
