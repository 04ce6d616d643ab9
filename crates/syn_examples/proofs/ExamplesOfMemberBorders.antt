-- Written by tools/grammar.py from specs/Table.antt; edits are lost.
-- Worked examples of borders of members of traits and foreign modules, from tools/examples.txt: what each rule reads, prints and refuses. The checker computes each.
use Rattle.std.proofs.Common.{true, false, [], ◌∷◌, refl}
use Rattle.syn_grammar.specs.Words.{w_underscore, w_const, w_continue, w_crate, w_extern, w_fn, w_loop, w_pub, w_Self_type, w_self, w_static, w_super, w_true, w_type, w_unsafe, w_where, w_union, w_auto, w_default, w_safe}
use Rattle.syn_grammar.specs.Tokens.{call_site, Paren, Brace, Bracket, None, Str, Int, ident, literal, end, leaf, punct, group}
use Rattle.syn_grammar.specs.Rules.{foreign_module, foreign_module_rest, trait_const, trait_function, trait_type, trait_macro, trait_item, trait_items, foreign_function, foreign_static, foreign_type, foreign_macro, foreign_item, foreign_items}
use Rattle.syn_grammar.specs.Grammar.{rule}
use Rattle.syn_grammar.specs.Take.{left, is_end, lookahead_at, sees, take_token, take_lifetime, take_mark, take_group, before, first_span}
use Rattle.syn_grammar.specs.Run.{rows_for, rows, run, parse_rule}
use Rattle.syn_grammar.specs.Promises.{NotDerived}
use Rattle.syn_grammar.proofs.Shown.{at, DerivesAs, computed, not_read}

-- `{}`: nothing is read
foreign_module_border_1 : NotDerived (rule foreign_module)
    (group Brace (at 0 1) (at 1 2) end end)
unfolding left is_end lookahead_at sees take_token take_lifetime take_mark take_group before first_span rows_for rows run parse_rule
foreign_module_border_1 = not_read foreign_module _ refl

-- `extern {} # [c]` prints `extern {}` and leaves `# [c]`
foreign_module_border_2 : DerivesAs foreign_module
    (leaf (ident w_extern) (at 0 6) (group Brace (at 7 8) (at 8 9) end (punct 35 false (at 10 11) (group Bracket (at 12 13) (at 14 15) (leaf (ident (99 ∷ [])) (at 13 14) end) end))))
    (leaf (ident w_extern) call_site (group Brace call_site call_site end end))
    (punct 35 false (at 10 11) (group Bracket (at 12 13) (at 14 15) (leaf (ident (99 ∷ [])) (at 13 14) end) end))
unfolding left is_end lookahead_at sees take_token take_lifetime take_mark take_group before first_span rows_for rows run parse_rule
foreign_module_border_2 = computed foreign_module _ _ _ refl

-- `extern {} unsafe` prints `extern {}` and leaves `unsafe`
foreign_module_border_3 : DerivesAs foreign_module
    (leaf (ident w_extern) (at 0 6) (group Brace (at 7 8) (at 8 9) end (leaf (ident w_unsafe) (at 10 16) end)))
    (leaf (ident w_extern) call_site (group Brace call_site call_site end end))
    (leaf (ident w_unsafe) (at 10 16) end)
unfolding left is_end lookahead_at sees take_token take_lifetime take_mark take_group before first_span rows_for rows run parse_rule
foreign_module_border_3 = computed foreign_module _ _ _ refl

-- `extern {} {}` prints `extern {}` and leaves `{}`
foreign_module_rest_border_1 : DerivesAs foreign_module_rest
    (leaf (ident w_extern) (at 0 6) (group Brace (at 7 8) (at 8 9) end (group Brace (at 10 11) (at 11 12) end end)))
    (leaf (ident w_extern) call_site (group Brace call_site call_site end end))
    (group Brace (at 10 11) (at 11 12) end end)
unfolding left is_end lookahead_at sees take_token take_lifetime take_mark take_group before first_span rows_for rows run parse_rule
foreign_module_rest_border_1 = computed foreign_module_rest _ _ _ refl

-- `{} extern {}`: nothing is read
foreign_module_rest_border_2 : NotDerived (rule foreign_module_rest)
    (group Brace (at 0 1) (at 1 2) end (leaf (ident w_extern) (at 3 9) (group Brace (at 10 11) (at 11 12) end end)))
unfolding left is_end lookahead_at sees take_token take_lifetime take_mark take_group before first_span rows_for rows run parse_rule
foreign_module_rest_border_2 = not_read foreign_module_rest _ refl

-- `extern extern {}`: nothing is read
foreign_module_rest_border_3 : NotDerived (rule foreign_module_rest)
    (leaf (ident w_extern) (at 0 6) (leaf (ident w_extern) (at 7 13) (group Brace (at 14 15) (at 15 16) end end)))
unfolding left is_end lookahead_at sees take_token take_lifetime take_mark take_group before first_span rows_for rows run parse_rule
foreign_module_rest_border_3 = not_read foreign_module_rest _ refl

-- `extern unsafe {}`: nothing is read
foreign_module_rest_border_4 : NotDerived (rule foreign_module_rest)
    (leaf (ident w_extern) (at 0 6) (leaf (ident w_unsafe) (at 7 13) (group Brace (at 14 15) (at 15 16) end end)))
unfolding left is_end lookahead_at sees take_token take_lifetime take_mark take_group before first_span rows_for rows run parse_rule
foreign_module_rest_border_4 = not_read foreign_module_rest _ refl

-- `extern {} unsafe` prints `extern {}` and leaves `unsafe`
foreign_module_rest_border_5 : DerivesAs foreign_module_rest
    (leaf (ident w_extern) (at 0 6) (group Brace (at 7 8) (at 8 9) end (leaf (ident w_unsafe) (at 10 16) end)))
    (leaf (ident w_extern) call_site (group Brace call_site call_site end end))
    (leaf (ident w_unsafe) (at 10 16) end)
unfolding left is_end lookahead_at sees take_token take_lifetime take_mark take_group before first_span rows_for rows run parse_rule
foreign_module_rest_border_5 = computed foreign_module_rest _ _ _ refl

-- `extern {# ! [Self]}` prints `extern {# ! [Self]}`
foreign_module_rest_border_6 : DerivesAs foreign_module_rest
    (leaf (ident w_extern) (at 0 6) (group Brace (at 7 8) (at 18 19) (punct 35 false (at 8 9) (punct 33 false (at 10 11) (group Bracket (at 12 13) (at 17 18) (leaf (ident w_Self_type) (at 13 17) end) end))) end))
    (leaf (ident w_extern) call_site (group Brace call_site call_site (punct 35 false call_site (punct 33 false call_site (group Bracket call_site call_site (leaf (ident w_Self_type) call_site end) end))) end))
    (end)
unfolding left is_end lookahead_at sees take_token take_lifetime take_mark take_group before first_span rows_for rows run parse_rule
foreign_module_rest_border_6 = computed foreign_module_rest _ _ _ refl

-- `extern {type safe ;}` prints `extern {type safe ;}`
foreign_module_rest_border_7 : DerivesAs foreign_module_rest
    (leaf (ident w_extern) (at 0 6) (group Brace (at 7 8) (at 19 20) (leaf (ident w_type) (at 8 12) (leaf (ident w_safe) (at 13 17) (punct 59 false (at 18 19) end))) end))
    (leaf (ident w_extern) call_site (group Brace call_site call_site (leaf (ident w_type) call_site (leaf (ident w_safe) call_site (punct 59 false call_site end))) end))
    (end)
unfolding left is_end lookahead_at sees take_token take_lifetime take_mark take_group before first_span rows_for rows run parse_rule
foreign_module_rest_border_7 = computed foreign_module_rest _ _ _ refl

-- `unsafe unsafe extern {}`: nothing is read
foreign_module_rest_border_8 : NotDerived (rule foreign_module_rest)
    (leaf (ident w_unsafe) (at 0 6) (leaf (ident w_unsafe) (at 7 13) (leaf (ident w_extern) (at 14 20) (group Brace (at 21 22) (at 22 23) end end))))
unfolding left is_end lookahead_at sees take_token take_lifetime take_mark take_group before first_span rows_for rows run parse_rule
foreign_module_rest_border_8 = not_read foreign_module_rest _ refl

-- `unsafe extern {} extern "s" super` prints `unsafe extern {}` and leaves `extern "s" super`
foreign_module_rest_border_9 : DerivesAs foreign_module_rest
    (leaf (ident w_unsafe) (at 0 6) (leaf (ident w_extern) (at 7 13) (group Brace (at 14 15) (at 15 16) end (leaf (ident w_extern) (at 17 23) (leaf (literal Str (34 ∷ 115 ∷ 34 ∷ [])) (at 24 27) (leaf (ident w_super) (at 28 33) end))))))
    (leaf (ident w_unsafe) call_site (leaf (ident w_extern) call_site (group Brace call_site call_site end end)))
    (leaf (ident w_extern) (at 17 23) (leaf (literal Str (34 ∷ 115 ∷ 34 ∷ [])) (at 24 27) (leaf (ident w_super) (at 28 33) end)))
unfolding left is_end lookahead_at sees take_token take_lifetime take_mark take_group before first_span rows_for rows run parse_rule
foreign_module_rest_border_9 = computed foreign_module_rest _ _ _ refl

-- `_ : ! ;`: nothing is read
trait_const_border_1 : NotDerived (rule trait_const)
    (leaf (ident w_underscore) (at 0 1) (punct 58 false (at 2 3) (punct 33 false (at 4 5) (punct 59 false (at 6 7) end))))
unfolding left is_end lookahead_at sees take_token take_lifetime take_mark take_group before rows_for rows run parse_rule
trait_const_border_1 = not_read trait_const _ refl

-- `const : ! ;`: nothing is read
trait_const_border_2 : NotDerived (rule trait_const)
    (leaf (ident w_const) (at 0 5) (punct 58 false (at 6 7) (punct 33 false (at 8 9) (punct 59 false (at 10 11) end))))
unfolding left is_end lookahead_at sees take_token take_lifetime take_mark take_group before rows_for rows run parse_rule
trait_const_border_2 = not_read trait_const _ refl

-- `const 1 : ! ;`: nothing is read
trait_const_border_3 : NotDerived (rule trait_const)
    (leaf (ident w_const) (at 0 5) (leaf (literal Int (49 ∷ [])) (at 6 7) (punct 58 false (at 8 9) (punct 33 false (at 10 11) (punct 59 false (at 12 13) end)))))
unfolding left is_end lookahead_at sees take_token take_lifetime take_mark take_group before rows_for rows run parse_rule
trait_const_border_3 = not_read trait_const _ refl

-- `const _ self ;`: nothing is read
trait_const_border_4 : NotDerived (rule trait_const)
    (leaf (ident w_const) (at 0 5) (leaf (ident w_underscore) (at 6 7) (leaf (ident w_self) (at 8 12) (punct 59 false (at 13 14) end))))
unfolding left is_end lookahead_at sees take_token take_lifetime take_mark take_group before rows_for rows run parse_rule
trait_const_border_4 = not_read trait_const _ refl

-- `const fn : ! ;`: nothing is read
trait_const_border_5 : NotDerived (rule trait_const)
    (leaf (ident w_const) (at 0 5) (leaf (ident w_fn) (at 6 8) (punct 58 false (at 9 10) (punct 33 false (at 11 12) (punct 59 false (at 13 14) end)))))
unfolding left is_end lookahead_at sees take_token take_lifetime take_mark take_group before rows_for rows run parse_rule
trait_const_border_5 = not_read trait_const _ refl

-- `Self _ : self ;`: nothing is read
trait_const_border_6 : NotDerived (rule trait_const)
    (leaf (ident w_Self_type) (at 0 4) (leaf (ident w_underscore) (at 5 6) (punct 58 false (at 7 8) (leaf (ident w_self) (at 9 13) (punct 59 false (at 14 15) end)))))
unfolding left is_end lookahead_at sees take_token take_lifetime take_mark take_group before rows_for rows run parse_rule
trait_const_border_6 = not_read trait_const _ refl

-- `const Self : ! ;`: nothing is read
trait_const_border_7 : NotDerived (rule trait_const)
    (leaf (ident w_const) (at 0 5) (leaf (ident w_Self_type) (at 6 10) (punct 58 false (at 11 12) (punct 33 false (at 13 14) (punct 59 false (at 15 16) end)))))
unfolding left is_end lookahead_at sees take_token take_lifetime take_mark take_group before rows_for rows run parse_rule
trait_const_border_7 = not_read trait_const _ refl

-- `const _ : self ,`: nothing is read
trait_const_border_8 : NotDerived (rule trait_const)
    (leaf (ident w_const) (at 0 5) (leaf (ident w_underscore) (at 6 7) (punct 58 false (at 8 9) (leaf (ident w_self) (at 10 14) (punct 44 false (at 15 16) end)))))
unfolding left is_end lookahead_at sees take_token take_lifetime take_mark take_group before rows_for rows run parse_rule
trait_const_border_8 = not_read trait_const _ refl

-- `const _ = self ;`: nothing is read
trait_const_border_9 : NotDerived (rule trait_const)
    (leaf (ident w_const) (at 0 5) (leaf (ident w_underscore) (at 6 7) (punct 61 false (at 8 9) (leaf (ident w_self) (at 10 14) (punct 59 false (at 15 16) end)))))
unfolding left is_end lookahead_at sees take_token take_lifetime take_mark take_group before rows_for rows run parse_rule
trait_const_border_9 = not_read trait_const _ refl

-- `const auto : ! ;` prints `const auto : ! ;`
trait_const_border_10 : DerivesAs trait_const
    (leaf (ident w_const) (at 0 5) (leaf (ident w_auto) (at 6 10) (punct 58 false (at 11 12) (punct 33 false (at 13 14) (punct 59 false (at 15 16) end)))))
    (leaf (ident w_const) call_site (leaf (ident w_auto) call_site (punct 58 false call_site (punct 33 false call_site (punct 59 false call_site end)))))
    (end)
unfolding left is_end lookahead_at sees take_token take_lifetime take_mark take_group before rows_for rows run parse_rule
trait_const_border_10 = computed trait_const _ _ _ refl

-- `const self : ! ;`: nothing is read
trait_const_border_11 : NotDerived (rule trait_const)
    (leaf (ident w_const) (at 0 5) (leaf (ident w_self) (at 6 10) (punct 58 false (at 11 12) (punct 33 false (at 13 14) (punct 59 false (at 15 16) end)))))
unfolding left is_end lookahead_at sees take_token take_lifetime take_mark take_group before rows_for rows run parse_rule
trait_const_border_11 = not_read trait_const _ refl

-- `const crate : ! ;`: nothing is read
trait_const_border_12 : NotDerived (rule trait_const)
    (leaf (ident w_const) (at 0 5) (leaf (ident w_crate) (at 6 11) (punct 58 false (at 12 13) (punct 33 false (at 14 15) (punct 59 false (at 16 17) end)))))
unfolding left is_end lookahead_at sees take_token take_lifetime take_mark take_group before rows_for rows run parse_rule
trait_const_border_12 = not_read trait_const _ refl

-- `const super : ! ;`: nothing is read
trait_const_border_13 : NotDerived (rule trait_const)
    (leaf (ident w_const) (at 0 5) (leaf (ident w_super) (at 6 11) (punct 58 false (at 12 13) (punct 33 false (at 14 15) (punct 59 false (at 16 17) end)))))
unfolding left is_end lookahead_at sees take_token take_lifetime take_mark take_group before rows_for rows run parse_rule
trait_const_border_13 = not_read trait_const _ refl

-- `const union : ! ;` prints `const union : ! ;`
trait_const_border_14 : DerivesAs trait_const
    (leaf (ident w_const) (at 0 5) (leaf (ident w_union) (at 6 11) (punct 58 false (at 12 13) (punct 33 false (at 14 15) (punct 59 false (at 16 17) end)))))
    (leaf (ident w_const) call_site (leaf (ident w_union) call_site (punct 58 false call_site (punct 33 false call_site (punct 59 false call_site end)))))
    (end)
unfolding left is_end lookahead_at sees take_token take_lifetime take_mark take_group before rows_for rows run parse_rule
trait_const_border_14 = computed trait_const _ _ _ refl

-- `; const _ : self ;`: nothing is read
trait_const_border_15 : NotDerived (rule trait_const)
    (punct 59 false (at 0 1) (leaf (ident w_const) (at 2 7) (leaf (ident w_underscore) (at 8 9) (punct 58 false (at 10 11) (leaf (ident w_self) (at 12 16) (punct 59 false (at 17 18) end))))))
unfolding left is_end lookahead_at sees take_token take_lifetime take_mark take_group before rows_for rows run parse_rule
trait_const_border_15 = not_read trait_const _ refl

-- `b const _ : self ;`: nothing is read
trait_const_border_16 : NotDerived (rule trait_const)
    (leaf (ident (98 ∷ [])) (at 0 1) (leaf (ident w_const) (at 2 7) (leaf (ident w_underscore) (at 8 9) (punct 58 false (at 10 11) (leaf (ident w_self) (at 12 16) (punct 59 false (at 17 18) end))))))
unfolding left is_end lookahead_at sees take_token take_lifetime take_mark take_group before rows_for rows run parse_rule
trait_const_border_16 = not_read trait_const _ refl

-- `const ; _ : self ;`: nothing is read
trait_const_border_17 : NotDerived (rule trait_const)
    (leaf (ident w_const) (at 0 5) (punct 59 false (at 6 7) (leaf (ident w_underscore) (at 8 9) (punct 58 false (at 10 11) (leaf (ident w_self) (at 12 16) (punct 59 false (at 17 18) end))))))
unfolding left is_end lookahead_at sees take_token take_lifetime take_mark take_group before rows_for rows run parse_rule
trait_const_border_17 = not_read trait_const _ refl

-- `const _ : ; self ;`: nothing is read
trait_const_border_18 : NotDerived (rule trait_const)
    (leaf (ident w_const) (at 0 5) (leaf (ident w_underscore) (at 6 7) (punct 58 false (at 8 9) (punct 59 false (at 10 11) (leaf (ident w_self) (at 12 16) (punct 59 false (at 17 18) end))))))
unfolding left is_end lookahead_at sees take_token take_lifetime take_mark take_group before rows_for rows run parse_rule
trait_const_border_18 = not_read trait_const _ refl

-- `const _ : self ; ;` prints `const _ : self ;` and leaves `;`
trait_const_border_19 : DerivesAs trait_const
    (leaf (ident w_const) (at 0 5) (leaf (ident w_underscore) (at 6 7) (punct 58 false (at 8 9) (leaf (ident w_self) (at 10 14) (punct 59 false (at 15 16) (punct 59 false (at 17 18) end))))))
    (leaf (ident w_const) call_site (leaf (ident w_underscore) call_site (punct 58 false call_site (leaf (ident w_self) call_site (punct 59 false call_site end)))))
    (punct 59 false (at 17 18) end)
unfolding left is_end lookahead_at sees take_token take_lifetime take_mark take_group before rows_for rows run parse_rule
trait_const_border_19 = computed trait_const _ _ _ refl

-- `const _ : self ; b` prints `const _ : self ;` and leaves `b`
trait_const_border_20 : DerivesAs trait_const
    (leaf (ident w_const) (at 0 5) (leaf (ident w_underscore) (at 6 7) (punct 58 false (at 8 9) (leaf (ident w_self) (at 10 14) (punct 59 false (at 15 16) (leaf (ident (98 ∷ [])) (at 17 18) end))))))
    (leaf (ident w_const) call_site (leaf (ident w_underscore) call_site (punct 58 false call_site (leaf (ident w_self) call_site (punct 59 false call_site end)))))
    (leaf (ident (98 ∷ [])) (at 17 18) end)
unfolding left is_end lookahead_at sees take_token take_lifetime take_mark take_group before rows_for rows run parse_rule
trait_const_border_20 = computed trait_const _ _ _ refl

-- `const _ : self b ;`: nothing is read
trait_const_border_21 : NotDerived (rule trait_const)
    (leaf (ident w_const) (at 0 5) (leaf (ident w_underscore) (at 6 7) (punct 58 false (at 8 9) (leaf (ident w_self) (at 10 14) (leaf (ident (98 ∷ [])) (at 15 16) (punct 59 false (at 17 18) end))))))
unfolding left is_end lookahead_at sees take_token take_lifetime take_mark take_group before rows_for rows run parse_rule
trait_const_border_21 = not_read trait_const _ refl

-- `const _ ; : self ;`: nothing is read
trait_const_border_22 : NotDerived (rule trait_const)
    (leaf (ident w_const) (at 0 5) (leaf (ident w_underscore) (at 6 7) (punct 59 false (at 8 9) (punct 58 false (at 10 11) (leaf (ident w_self) (at 12 16) (punct 59 false (at 17 18) end))))))
unfolding left is_end lookahead_at sees take_token take_lifetime take_mark take_group before rows_for rows run parse_rule
trait_const_border_22 = not_read trait_const _ refl

-- `const _ b : self ;`: nothing is read
trait_const_border_23 : NotDerived (rule trait_const)
    (leaf (ident w_const) (at 0 5) (leaf (ident w_underscore) (at 6 7) (leaf (ident (98 ∷ [])) (at 8 9) (punct 58 false (at 10 11) (leaf (ident w_self) (at 12 16) (punct 59 false (at 17 18) end))))))
unfolding left is_end lookahead_at sees take_token take_lifetime take_mark take_group before rows_for rows run parse_rule
trait_const_border_23 = not_read trait_const _ refl

-- `const union :: ! ;`: nothing is read
trait_const_border_24 : NotDerived (rule trait_const)
    (leaf (ident w_const) (at 0 5) (leaf (ident w_union) (at 6 11) (punct 58 true (at 12 13) (punct 58 false (at 13 14) (punct 33 false (at 15 16) (punct 59 false (at 17 18) end))))))
unfolding left is_end lookahead_at sees take_token take_lifetime take_mark take_group before rows_for rows run parse_rule
trait_const_border_24 = not_read trait_const _ refl

-- `const # [c] _ : ! ;`: nothing is read
trait_const_border_25 : NotDerived (rule trait_const)
    (leaf (ident w_const) (at 0 5) (punct 35 false (at 6 7) (group Bracket (at 8 9) (at 10 11) (leaf (ident (99 ∷ [])) (at 9 10) end) (leaf (ident w_underscore) (at 12 13) (punct 58 false (at 14 15) (punct 33 false (at 16 17) (punct 59 false (at 18 19) end)))))))
unfolding left is_end lookahead_at sees take_token take_lifetime take_mark take_group before rows_for rows run parse_rule
trait_const_border_25 = not_read trait_const _ refl

-- `const : safe : () ;`: nothing is read
trait_const_border_26 : NotDerived (rule trait_const)
    (leaf (ident w_const) (at 0 5) (punct 58 false (at 6 7) (leaf (ident w_safe) (at 8 12) (punct 58 false (at 13 14) (group Paren (at 15 16) (at 16 17) end (punct 59 false (at 18 19) end))))))
unfolding left is_end lookahead_at sees take_token take_lifetime take_mark take_group before rows_for rows run parse_rule
trait_const_border_26 = not_read trait_const _ refl

-- `const _ # [c] : ! ;`: nothing is read
trait_const_border_27 : NotDerived (rule trait_const)
    (leaf (ident w_const) (at 0 5) (leaf (ident w_underscore) (at 6 7) (punct 35 false (at 8 9) (group Bracket (at 10 11) (at 12 13) (leaf (ident (99 ∷ [])) (at 11 12) end) (punct 58 false (at 14 15) (punct 33 false (at 16 17) (punct 59 false (at 18 19) end)))))))
unfolding left is_end lookahead_at sees take_token take_lifetime take_mark take_group before rows_for rows run parse_rule
trait_const_border_27 = not_read trait_const _ refl

-- `const _ : ! # [c] ;`: nothing is read
trait_const_border_28 : NotDerived (rule trait_const)
    (leaf (ident w_const) (at 0 5) (leaf (ident w_underscore) (at 6 7) (punct 58 false (at 8 9) (punct 33 false (at 10 11) (punct 35 false (at 12 13) (group Bracket (at 14 15) (at 16 17) (leaf (ident (99 ∷ [])) (at 15 16) end) (punct 59 false (at 18 19) end)))))))
unfolding left is_end lookahead_at sees take_token take_lifetime take_mark take_group before rows_for rows run parse_rule
trait_const_border_28 = not_read trait_const _ refl

-- `const _ : ! ; # [c]` prints `const _ : ! ;` and leaves `# [c]`
trait_const_border_29 : DerivesAs trait_const
    (leaf (ident w_const) (at 0 5) (leaf (ident w_underscore) (at 6 7) (punct 58 false (at 8 9) (punct 33 false (at 10 11) (punct 59 false (at 12 13) (punct 35 false (at 14 15) (group Bracket (at 16 17) (at 18 19) (leaf (ident (99 ∷ [])) (at 17 18) end) end)))))))
    (leaf (ident w_const) call_site (leaf (ident w_underscore) call_site (punct 58 false call_site (punct 33 false call_site (punct 59 false call_site end)))))
    (punct 35 false (at 14 15) (group Bracket (at 16 17) (at 18 19) (leaf (ident (99 ∷ [])) (at 17 18) end) end))
unfolding left is_end lookahead_at sees take_token take_lifetime take_mark take_group before rows_for rows run parse_rule
trait_const_border_29 = computed trait_const _ _ _ refl

-- `const _ : ! ; const` prints `const _ : ! ;` and leaves `const`
trait_const_border_30 : DerivesAs trait_const
    (leaf (ident w_const) (at 0 5) (leaf (ident w_underscore) (at 6 7) (punct 58 false (at 8 9) (punct 33 false (at 10 11) (punct 59 false (at 12 13) (leaf (ident w_const) (at 14 19) end))))))
    (leaf (ident w_const) call_site (leaf (ident w_underscore) call_site (punct 58 false call_site (punct 33 false call_site (punct 59 false call_site end)))))
    (leaf (ident w_const) (at 14 19) end)
unfolding left is_end lookahead_at sees take_token take_lifetime take_mark take_group before rows_for rows run parse_rule
trait_const_border_30 = computed trait_const _ _ _ refl

-- `const _ : ! const ;`: nothing is read
trait_const_border_31 : NotDerived (rule trait_const)
    (leaf (ident w_const) (at 0 5) (leaf (ident w_underscore) (at 6 7) (punct 58 false (at 8 9) (punct 33 false (at 10 11) (leaf (ident w_const) (at 12 17) (punct 59 false (at 18 19) end))))))
unfolding left is_end lookahead_at sees take_token take_lifetime take_mark take_group before rows_for rows run parse_rule
trait_const_border_31 = not_read trait_const _ refl

-- `const _ : # [c] ! ;`: nothing is read
trait_const_border_32 : NotDerived (rule trait_const)
    (leaf (ident w_const) (at 0 5) (leaf (ident w_underscore) (at 6 7) (punct 58 false (at 8 9) (punct 35 false (at 10 11) (group Bracket (at 12 13) (at 14 15) (leaf (ident (99 ∷ [])) (at 13 14) end) (punct 33 false (at 16 17) (punct 59 false (at 18 19) end)))))))
unfolding left is_end lookahead_at sees take_token take_lifetime take_mark take_group before rows_for rows run parse_rule
trait_const_border_32 = not_read trait_const _ refl

-- `const _ : const ! ;`: nothing is read
trait_const_border_33 : NotDerived (rule trait_const)
    (leaf (ident w_const) (at 0 5) (leaf (ident w_underscore) (at 6 7) (punct 58 false (at 8 9) (leaf (ident w_const) (at 10 15) (punct 33 false (at 16 17) (punct 59 false (at 18 19) end))))))
unfolding left is_end lookahead_at sees take_token take_lifetime take_mark take_group before rows_for rows run parse_rule
trait_const_border_33 = not_read trait_const _ refl

-- `const _ const : ! ;`: nothing is read
trait_const_border_34 : NotDerived (rule trait_const)
    (leaf (ident w_const) (at 0 5) (leaf (ident w_underscore) (at 6 7) (leaf (ident w_const) (at 8 13) (punct 58 false (at 14 15) (punct 33 false (at 16 17) (punct 59 false (at 18 19) end))))))
unfolding left is_end lookahead_at sees take_token take_lifetime take_mark take_group before rows_for rows run parse_rule
trait_const_border_34 = not_read trait_const _ refl

-- `const const _ : ! ;`: nothing is read
trait_const_border_35 : NotDerived (rule trait_const)
    (leaf (ident w_const) (at 0 5) (leaf (ident w_const) (at 6 11) (leaf (ident w_underscore) (at 12 13) (punct 58 false (at 14 15) (punct 33 false (at 16 17) (punct 59 false (at 18 19) end))))))
unfolding left is_end lookahead_at sees take_token take_lifetime take_mark take_group before rows_for rows run parse_rule
trait_const_border_35 = not_read trait_const _ refl

-- `const default : ! ;` prints `const default : ! ;`
trait_const_border_36 : DerivesAs trait_const
    (leaf (ident w_const) (at 0 5) (leaf (ident w_default) (at 6 13) (punct 58 false (at 14 15) (punct 33 false (at 16 17) (punct 59 false (at 18 19) end)))))
    (leaf (ident w_const) call_site (leaf (ident w_default) call_site (punct 58 false call_site (punct 33 false call_site (punct 59 false call_site end)))))
    (end)
unfolding left is_end lookahead_at sees take_token take_lifetime take_mark take_group before rows_for rows run parse_rule
trait_const_border_36 = computed trait_const _ _ _ refl

-- `const safe :union ;` prints `const safe : union ;`
trait_const_border_37 : DerivesAs trait_const
    (leaf (ident w_const) (at 0 5) (leaf (ident w_safe) (at 6 10) (punct 58 false (at 11 12) (leaf (ident w_union) (at 12 17) (punct 59 false (at 18 19) end)))))
    (leaf (ident w_const) call_site (leaf (ident w_safe) call_site (punct 58 false call_site (leaf (ident w_union) call_site (punct 59 false call_site end)))))
    (end)
unfolding left is_end lookahead_at sees take_token take_lifetime take_mark take_group before rows_for rows run parse_rule
trait_const_border_37 = computed trait_const _ _ _ refl

-- `= c const _ : self ;`: nothing is read
trait_const_border_38 : NotDerived (rule trait_const)
    (punct 61 false (at 0 1) (leaf (ident (99 ∷ [])) (at 2 3) (leaf (ident w_const) (at 4 9) (leaf (ident w_underscore) (at 10 11) (punct 58 false (at 12 13) (leaf (ident w_self) (at 14 18) (punct 59 false (at 19 20) end)))))))
unfolding left is_end lookahead_at sees take_token take_lifetime take_mark take_group before rows_for rows run parse_rule
trait_const_border_38 = not_read trait_const _ refl

-- `const = c _ : self ;`: nothing is read
trait_const_border_39 : NotDerived (rule trait_const)
    (leaf (ident w_const) (at 0 5) (punct 61 false (at 6 7) (leaf (ident (99 ∷ [])) (at 8 9) (leaf (ident w_underscore) (at 10 11) (punct 58 false (at 12 13) (leaf (ident w_self) (at 14 18) (punct 59 false (at 19 20) end)))))))
unfolding left is_end lookahead_at sees take_token take_lifetime take_mark take_group before rows_for rows run parse_rule
trait_const_border_39 = not_read trait_const _ refl

-- `const _ : = c self ;`: nothing is read
trait_const_border_40 : NotDerived (rule trait_const)
    (leaf (ident w_const) (at 0 5) (leaf (ident w_underscore) (at 6 7) (punct 58 false (at 8 9) (punct 61 false (at 10 11) (leaf (ident (99 ∷ [])) (at 12 13) (leaf (ident w_self) (at 14 18) (punct 59 false (at 19 20) end)))))))
unfolding left is_end lookahead_at sees take_token take_lifetime take_mark take_group before rows_for rows run parse_rule
trait_const_border_40 = not_read trait_const _ refl

-- `const _ : self ; : c` prints `const _ : self ;` and leaves `: c`
trait_const_border_41 : DerivesAs trait_const
    (leaf (ident w_const) (at 0 5) (leaf (ident w_underscore) (at 6 7) (punct 58 false (at 8 9) (leaf (ident w_self) (at 10 14) (punct 59 false (at 15 16) (punct 58 false (at 17 18) (leaf (ident (99 ∷ [])) (at 19 20) end)))))))
    (leaf (ident w_const) call_site (leaf (ident w_underscore) call_site (punct 58 false call_site (leaf (ident w_self) call_site (punct 59 false call_site end)))))
    (punct 58 false (at 17 18) (leaf (ident (99 ∷ [])) (at 19 20) end))
unfolding left is_end lookahead_at sees take_token take_lifetime take_mark take_group before rows_for rows run parse_rule
trait_const_border_41 = computed trait_const _ _ _ refl

-- `const _ : self ; = c` prints `const _ : self ;` and leaves `= c`
trait_const_border_42 : DerivesAs trait_const
    (leaf (ident w_const) (at 0 5) (leaf (ident w_underscore) (at 6 7) (punct 58 false (at 8 9) (leaf (ident w_self) (at 10 14) (punct 59 false (at 15 16) (punct 61 false (at 17 18) (leaf (ident (99 ∷ [])) (at 19 20) end)))))))
    (leaf (ident w_const) call_site (leaf (ident w_underscore) call_site (punct 58 false call_site (leaf (ident w_self) call_site (punct 59 false call_site end)))))
    (punct 61 false (at 17 18) (leaf (ident (99 ∷ [])) (at 19 20) end))
unfolding left is_end lookahead_at sees take_token take_lifetime take_mark take_group before rows_for rows run parse_rule
trait_const_border_42 = computed trait_const _ _ _ refl

-- `const _ = c : self ;`: nothing is read
trait_const_border_43 : NotDerived (rule trait_const)
    (leaf (ident w_const) (at 0 5) (leaf (ident w_underscore) (at 6 7) (punct 61 false (at 8 9) (leaf (ident (99 ∷ [])) (at 10 11) (punct 58 false (at 12 13) (leaf (ident w_self) (at 14 18) (punct 59 false (at 19 20) end)))))))
unfolding left is_end lookahead_at sees take_token take_lifetime take_mark take_group before rows_for rows run parse_rule
trait_const_border_43 = not_read trait_const _ refl

-- `# [a] const b : c = ;`: nothing is read
trait_const_border_44 : NotDerived (rule trait_const)
    (punct 35 false (at 0 1) (group Bracket (at 2 3) (at 4 5) (leaf (ident (97 ∷ [])) (at 3 4) end) (leaf (ident w_const) (at 6 11) (leaf (ident (98 ∷ [])) (at 12 13) (punct 58 false (at 14 15) (leaf (ident (99 ∷ [])) (at 16 17) (punct 61 false (at 18 19) (punct 59 false (at 20 21) end))))))))
unfolding left is_end lookahead_at sees take_token take_lifetime take_mark take_group before rows_for rows run parse_rule
trait_const_border_44 = not_read trait_const _ refl

-- `const auto :() := safe ;`: nothing is read
trait_const_border_45 : NotDerived (rule trait_const)
    (leaf (ident w_const) (at 0 5) (leaf (ident w_auto) (at 6 10) (punct 58 false (at 11 12) (group Paren (at 12 13) (at 13 14) end (punct 58 true (at 15 16) (punct 61 false (at 16 17) (leaf (ident w_safe) (at 18 22) (punct 59 false (at 23 24) end))))))))
unfolding left is_end lookahead_at sees take_token take_lifetime take_mark take_group before rows_for rows run parse_rule
trait_const_border_45 = not_read trait_const _ refl

-- `# [a] const b : c = 2 d ;`: nothing is read
trait_const_border_46 : NotDerived (rule trait_const)
    (punct 35 false (at 0 1) (group Bracket (at 2 3) (at 4 5) (leaf (ident (97 ∷ [])) (at 3 4) end) (leaf (ident w_const) (at 6 11) (leaf (ident (98 ∷ [])) (at 12 13) (punct 58 false (at 14 15) (leaf (ident (99 ∷ [])) (at 16 17) (punct 61 false (at 18 19) (leaf (literal Int (50 ∷ [])) (at 20 21) (leaf (ident (100 ∷ [])) (at 22 23) (punct 59 false (at 24 25) end))))))))))
unfolding left is_end lookahead_at sees take_token take_lifetime take_mark take_group before rows_for rows run parse_rule
trait_const_border_46 = not_read trait_const _ refl

-- `# [a] const b : c = = d ;`: nothing is read
trait_const_border_47 : NotDerived (rule trait_const)
    (punct 35 false (at 0 1) (group Bracket (at 2 3) (at 4 5) (leaf (ident (97 ∷ [])) (at 3 4) end) (leaf (ident w_const) (at 6 11) (leaf (ident (98 ∷ [])) (at 12 13) (punct 58 false (at 14 15) (leaf (ident (99 ∷ [])) (at 16 17) (punct 61 false (at 18 19) (punct 61 false (at 20 21) (leaf (ident (100 ∷ [])) (at 22 23) (punct 59 false (at 24 25) end))))))))))
unfolding left is_end lookahead_at sees take_token take_lifetime take_mark take_group before rows_for rows run parse_rule
trait_const_border_47 = not_read trait_const _ refl

-- `# [a] const b : c = c = d ;` prints `# [a] const b : c = c = d ;`
trait_const_border_48 : DerivesAs trait_const
    (punct 35 false (at 0 1) (group Bracket (at 2 3) (at 4 5) (leaf (ident (97 ∷ [])) (at 3 4) end) (leaf (ident w_const) (at 6 11) (leaf (ident (98 ∷ [])) (at 12 13) (punct 58 false (at 14 15) (leaf (ident (99 ∷ [])) (at 16 17) (punct 61 false (at 18 19) (leaf (ident (99 ∷ [])) (at 20 21) (punct 61 false (at 22 23) (leaf (ident (100 ∷ [])) (at 24 25) (punct 59 false (at 26 27) end)))))))))))
    (punct 35 false call_site (group Bracket call_site call_site (leaf (ident (97 ∷ [])) call_site end) (leaf (ident w_const) call_site (leaf (ident (98 ∷ [])) call_site (punct 58 false call_site (leaf (ident (99 ∷ [])) call_site (punct 61 false call_site (leaf (ident (99 ∷ [])) call_site (punct 61 false call_site (leaf (ident (100 ∷ [])) call_site (punct 59 false call_site end)))))))))))
    (end)
unfolding left is_end lookahead_at sees take_token take_lifetime take_mark take_group before rows_for rows run parse_rule
trait_const_border_48 = computed trait_const _ _ _ refl

-- `: const safe : () = true |default ;`: nothing is read
trait_const_border_49 : NotDerived (rule trait_const)
    (punct 58 false (at 0 1) (leaf (ident w_const) (at 2 7) (leaf (ident w_safe) (at 8 12) (punct 58 false (at 13 14) (group Paren (at 15 16) (at 16 17) end (punct 61 false (at 18 19) (leaf (ident w_true) (at 20 24) (punct 124 false (at 25 26) (leaf (ident w_default) (at 26 33) (punct 59 false (at 34 35) end))))))))))
unfolding left is_end lookahead_at sees take_token take_lifetime take_mark take_group before rows_for rows run parse_rule
trait_const_border_49 = not_read trait_const _ refl

-- `const union : (crate) = continue : ;`: nothing is read
trait_const_border_50 : NotDerived (rule trait_const)
    (leaf (ident w_const) (at 0 5) (leaf (ident w_union) (at 6 11) (punct 58 false (at 12 13) (group Paren (at 14 15) (at 20 21) (leaf (ident w_crate) (at 15 20) end) (punct 61 false (at 22 23) (leaf (ident w_continue) (at 24 32) (punct 58 false (at 33 34) (punct 59 false (at 35 36) end))))))))
unfolding left is_end lookahead_at sees take_token take_lifetime take_mark take_group before rows_for rows run parse_rule
trait_const_border_50 = not_read trait_const _ refl

-- `fn auto () ;# [c]` prints `fn auto () ;` and leaves `# [c]`
trait_function_border_1 : DerivesAs trait_function
    (leaf (ident w_fn) (at 0 2) (leaf (ident w_auto) (at 3 7) (group Paren (at 8 9) (at 9 10) end (punct 59 true (at 11 12) (punct 35 false (at 12 13) (group Bracket (at 14 15) (at 16 17) (leaf (ident (99 ∷ [])) (at 15 16) end) end))))))
    (leaf (ident w_fn) call_site (leaf (ident w_auto) call_site (group Paren call_site call_site end (punct 59 false call_site end))))
    (punct 35 false (at 12 13) (group Bracket (at 14 15) (at 16 17) (leaf (ident (99 ∷ [])) (at 15 16) end) end))
unfolding left is_end lookahead_at sees take_token take_lifetime take_mark take_group before first_span rows_for rows run parse_rule
trait_function_border_1 = computed trait_function _ _ _ refl

-- `fn auto () ;const` prints `fn auto () ;` and leaves `const`
trait_function_border_2 : DerivesAs trait_function
    (leaf (ident w_fn) (at 0 2) (leaf (ident w_auto) (at 3 7) (group Paren (at 8 9) (at 9 10) end (punct 59 false (at 11 12) (leaf (ident w_const) (at 12 17) end)))))
    (leaf (ident w_fn) call_site (leaf (ident w_auto) call_site (group Paren call_site call_site end (punct 59 false call_site end))))
    (leaf (ident w_const) (at 12 17) end)
unfolding left is_end lookahead_at sees take_token take_lifetime take_mark take_group before first_span rows_for rows run parse_rule
trait_function_border_2 = computed trait_function _ _ _ refl

-- `type auto ; # [c]` prints `type auto ;` and leaves `# [c]`
trait_type_border_1 : DerivesAs trait_type
    (leaf (ident w_type) (at 0 4) (leaf (ident w_auto) (at 5 9) (punct 59 false (at 10 11) (punct 35 false (at 12 13) (group Bracket (at 14 15) (at 16 17) (leaf (ident (99 ∷ [])) (at 15 16) end) end)))))
    (leaf (ident w_type) call_site (leaf (ident w_auto) call_site (punct 59 false call_site end)))
    (punct 35 false (at 12 13) (group Bracket (at 14 15) (at 16 17) (leaf (ident (99 ∷ [])) (at 15 16) end) end))
unfolding left is_end lookahead_at sees take_token take_lifetime take_mark take_group before rows_for rows run parse_rule
trait_type_border_1 = computed trait_type _ _ _ refl

-- `type auto ; type loop ;` prints `type auto ;` and leaves `type loop ;`
trait_type_border_2 : DerivesAs trait_type
    (leaf (ident w_type) (at 0 4) (leaf (ident w_auto) (at 5 9) (punct 59 false (at 10 11) (leaf (ident w_type) (at 12 16) (leaf (ident w_loop) (at 17 21) (punct 59 false (at 22 23) end))))))
    (leaf (ident w_type) call_site (leaf (ident w_auto) call_site (punct 59 false call_site end)))
    (leaf (ident w_type) (at 12 16) (leaf (ident w_loop) (at 17 21) (punct 59 false (at 22 23) end)))
unfolding left is_end lookahead_at sees take_token take_lifetime take_mark take_group before rows_for rows run parse_rule
trait_type_border_2 = computed trait_type _ _ _ refl

-- `! {!}`: nothing is read
trait_macro_border_1 : NotDerived (rule trait_macro)
    (punct 33 false (at 0 1) (group Brace (at 2 3) (at 4 5) (punct 33 false (at 3 4) end) end))
unfolding left is_end lookahead_at sees take_token take_lifetime take_mark take_group before rows_for rows run parse_rule
trait_macro_border_1 = not_read trait_macro _ refl

-- `Self ! {self} b` prints `Self ! {self}` and leaves `b`
trait_macro_border_2 : DerivesAs trait_macro
    (leaf (ident w_Self_type) (at 0 4) (punct 33 false (at 5 6) (group Brace (at 7 8) (at 12 13) (leaf (ident w_self) (at 8 12) end) (leaf (ident (98 ∷ [])) (at 14 15) end))))
    (leaf (ident w_Self_type) call_site (punct 33 false call_site (group Brace call_site call_site (leaf (ident w_self) call_site end) end)))
    (leaf (ident (98 ∷ [])) (at 14 15) end)
unfolding left is_end lookahead_at sees take_token take_lifetime take_mark take_group before rows_for rows run parse_rule
trait_macro_border_2 = computed trait_macro _ _ _ refl

-- `Self ! {self} # [c]` prints `Self ! {self}` and leaves `# [c]`
trait_macro_border_3 : DerivesAs trait_macro
    (leaf (ident w_Self_type) (at 0 4) (punct 33 false (at 5 6) (group Brace (at 7 8) (at 12 13) (leaf (ident w_self) (at 8 12) end) (punct 35 false (at 14 15) (group Bracket (at 16 17) (at 18 19) (leaf (ident (99 ∷ [])) (at 17 18) end) end)))))
    (leaf (ident w_Self_type) call_site (punct 33 false call_site (group Brace call_site call_site (leaf (ident w_self) call_site end) end)))
    (punct 35 false (at 14 15) (group Bracket (at 16 17) (at 18 19) (leaf (ident (99 ∷ [])) (at 17 18) end) end))
unfolding left is_end lookahead_at sees take_token take_lifetime take_mark take_group before rows_for rows run parse_rule
trait_macro_border_3 = computed trait_macro _ _ _ refl

-- `1 T ;`: nothing is read
trait_item_border_1 : NotDerived (rule trait_item)
    (leaf (literal Int (49 ∷ [])) (at 0 1) (leaf (ident (84 ∷ [])) (at 2 3) (punct 59 false (at 4 5) end)))
unfolding left is_end lookahead_at sees take_token take_lifetime take_mark take_group before first_span rows_for rows run parse_rule
trait_item_border_1 = not_read trait_item _ refl

-- `fn a () ;` prints `fn a () ;`
trait_item_border_2 : DerivesAs trait_item
    (leaf (ident w_fn) (at 0 2) (leaf (ident (97 ∷ [])) (at 3 4) (group Paren (at 5 6) (at 6 7) end (punct 59 false (at 8 9) end))))
    (leaf (ident w_fn) call_site (leaf (ident (97 ∷ [])) call_site (group Paren call_site call_site end (punct 59 false call_site end))))
    (end)
unfolding left is_end lookahead_at sees take_token take_lifetime take_mark take_group before first_span rows_for rows run parse_rule
trait_item_border_2 = computed trait_item _ _ _ refl

-- `safe ! {}` prints `safe ! {}`
trait_item_border_3 : DerivesAs trait_item
    (leaf (ident w_safe) (at 0 4) (punct 33 false (at 5 6) (group Brace (at 7 8) (at 8 9) end end)))
    (leaf (ident w_safe) call_site (punct 33 false call_site (group Brace call_site call_site end end)))
    (end)
unfolding left is_end lookahead_at sees take_token take_lifetime take_mark take_group before first_span rows_for rows run parse_rule
trait_item_border_3 = computed trait_item _ _ _ refl

-- `type T ; b` prints `type T ;` and leaves `b`
trait_item_border_4 : DerivesAs trait_item
    (leaf (ident w_type) (at 0 4) (leaf (ident (84 ∷ [])) (at 5 6) (punct 59 false (at 7 8) (leaf (ident (98 ∷ [])) (at 9 10) end))))
    (leaf (ident w_type) call_site (leaf (ident (84 ∷ [])) call_site (punct 59 false call_site end)))
    (leaf (ident (98 ∷ [])) (at 9 10) end)
unfolding left is_end lookahead_at sees take_token take_lifetime take_mark take_group before first_span rows_for rows run parse_rule
trait_item_border_4 = computed trait_item _ _ _ refl

-- `const _ : ! ;` prints `const _ : ! ;`
trait_item_border_5 : DerivesAs trait_item
    (leaf (ident w_const) (at 0 5) (leaf (ident w_underscore) (at 6 7) (punct 58 false (at 8 9) (punct 33 false (at 10 11) (punct 59 false (at 12 13) end)))))
    (leaf (ident w_const) call_site (leaf (ident w_underscore) call_site (punct 58 false call_site (punct 33 false call_site (punct 59 false call_site end)))))
    (end)
unfolding left is_end lookahead_at sees take_token take_lifetime take_mark take_group before first_span rows_for rows run parse_rule
trait_item_border_5 = computed trait_item _ _ _ refl

-- `type a ;` prints `type a ;`
trait_items_border_1 : DerivesAs trait_items
    (leaf (ident w_type) (at 0 4) (leaf (ident (97 ∷ [])) (at 5 6) (punct 59 false (at 7 8) end)))
    (leaf (ident w_type) call_site (leaf (ident (97 ∷ [])) call_site (punct 59 false call_site end)))
    (end)
unfolding left is_end lookahead_at sees take_token take_lifetime take_mark take_group before first_span rows_for rows run parse_rule
trait_items_border_1 = computed trait_items _ _ _ refl

-- `fn a () ,`: nothing is read
foreign_function_border_1 : NotDerived (rule foreign_function)
    (leaf (ident w_fn) (at 0 2) (leaf (ident (97 ∷ [])) (at 3 4) (group Paren (at 5 6) (at 6 7) end (punct 44 false (at 8 9) end))))
unfolding left is_end lookahead_at sees take_token take_lifetime take_mark take_group before first_span rows_for rows run parse_rule
foreign_function_border_1 = not_read foreign_function _ refl

-- `; fn a () ;`: nothing is read
foreign_function_border_2 : NotDerived (rule foreign_function)
    (punct 59 false (at 0 1) (leaf (ident w_fn) (at 2 4) (leaf (ident (97 ∷ [])) (at 5 6) (group Paren (at 7 8) (at 8 9) end (punct 59 false (at 10 11) end)))))
unfolding left is_end lookahead_at sees take_token take_lifetime take_mark take_group before first_span rows_for rows run parse_rule
foreign_function_border_2 = not_read foreign_function _ refl

-- `fn a () ; ;` prints `fn a () ;` and leaves `;`
foreign_function_border_3 : DerivesAs foreign_function
    (leaf (ident w_fn) (at 0 2) (leaf (ident (97 ∷ [])) (at 3 4) (group Paren (at 5 6) (at 6 7) end (punct 59 false (at 8 9) (punct 59 false (at 10 11) end)))))
    (leaf (ident w_fn) call_site (leaf (ident (97 ∷ [])) call_site (group Paren call_site call_site end (punct 59 false call_site end))))
    (punct 59 false (at 10 11) end)
unfolding left is_end lookahead_at sees take_token take_lifetime take_mark take_group before first_span rows_for rows run parse_rule
foreign_function_border_3 = computed foreign_function _ _ _ refl

-- `fn a () ; pub` prints `fn a () ;` and leaves `pub`
foreign_function_border_4 : DerivesAs foreign_function
    (leaf (ident w_fn) (at 0 2) (leaf (ident (97 ∷ [])) (at 3 4) (group Paren (at 5 6) (at 6 7) end (punct 59 false (at 8 9) (leaf (ident w_pub) (at 10 13) end)))))
    (leaf (ident w_fn) call_site (leaf (ident (97 ∷ [])) call_site (group Paren call_site call_site end (punct 59 false call_site end))))
    (leaf (ident w_pub) (at 10 13) end)
unfolding left is_end lookahead_at sees take_token take_lifetime take_mark take_group before first_span rows_for rows run parse_rule
foreign_function_border_4 = computed foreign_function _ _ _ refl

-- `fn a () pub ;`: nothing is read
foreign_function_border_5 : NotDerived (rule foreign_function)
    (leaf (ident w_fn) (at 0 2) (leaf (ident (97 ∷ [])) (at 3 4) (group Paren (at 5 6) (at 6 7) end (leaf (ident w_pub) (at 8 11) (punct 59 false (at 12 13) end)))))
unfolding left is_end lookahead_at sees take_token take_lifetime take_mark take_group before first_span rows_for rows run parse_rule
foreign_function_border_5 = not_read foreign_function _ refl

-- `fn a () # [c] ;`: nothing is read
foreign_function_border_6 : NotDerived (rule foreign_function)
    (leaf (ident w_fn) (at 0 2) (leaf (ident (97 ∷ [])) (at 3 4) (group Paren (at 5 6) (at 6 7) end (punct 35 false (at 8 9) (group Bracket (at 10 11) (at 12 13) (leaf (ident (99 ∷ [])) (at 11 12) end) (punct 59 false (at 14 15) end))))))
unfolding left is_end lookahead_at sees take_token take_lifetime take_mark take_group before first_span rows_for rows run parse_rule
foreign_function_border_6 = not_read foreign_function _ refl

-- `fn a () ; # [c]` prints `fn a () ;` and leaves `# [c]`
foreign_function_border_7 : DerivesAs foreign_function
    (leaf (ident w_fn) (at 0 2) (leaf (ident (97 ∷ [])) (at 3 4) (group Paren (at 5 6) (at 6 7) end (punct 59 false (at 8 9) (punct 35 false (at 10 11) (group Bracket (at 12 13) (at 14 15) (leaf (ident (99 ∷ [])) (at 13 14) end) end))))))
    (leaf (ident w_fn) call_site (leaf (ident (97 ∷ [])) call_site (group Paren call_site call_site end (punct 59 false call_site end))))
    (punct 35 false (at 10 11) (group Bracket (at 12 13) (at 14 15) (leaf (ident (99 ∷ [])) (at 13 14) end) end))
unfolding left is_end lookahead_at sees take_token take_lifetime take_mark take_group before first_span rows_for rows run parse_rule
foreign_function_border_7 = computed foreign_function _ _ _ refl

-- `fn a () ; const` prints `fn a () ;` and leaves `const`
foreign_function_border_8 : DerivesAs foreign_function
    (leaf (ident w_fn) (at 0 2) (leaf (ident (97 ∷ [])) (at 3 4) (group Paren (at 5 6) (at 6 7) end (punct 59 false (at 8 9) (leaf (ident w_const) (at 10 15) end)))))
    (leaf (ident w_fn) call_site (leaf (ident (97 ∷ [])) call_site (group Paren call_site call_site end (punct 59 false call_site end))))
    (leaf (ident w_const) (at 10 15) end)
unfolding left is_end lookahead_at sees take_token take_lifetime take_mark take_group before first_span rows_for rows run parse_rule
foreign_function_border_8 = computed foreign_function _ _ _ refl

-- `pub pub fn a () ;`: nothing is read
foreign_function_border_9 : NotDerived (rule foreign_function)
    (leaf (ident w_pub) (at 0 3) (leaf (ident w_pub) (at 4 7) (leaf (ident w_fn) (at 8 10) (leaf (ident (97 ∷ [])) (at 11 12) (group Paren (at 13 14) (at 14 15) end (punct 59 false (at 16 17) end))))))
unfolding left is_end lookahead_at sees take_token take_lifetime take_mark take_group before first_span rows_for rows run parse_rule
foreign_function_border_9 = not_read foreign_function _ refl

-- `pub # [c] fn a () ;`: nothing is read
foreign_function_border_10 : NotDerived (rule foreign_function)
    (leaf (ident w_pub) (at 0 3) (punct 35 false (at 4 5) (group Bracket (at 6 7) (at 8 9) (leaf (ident (99 ∷ [])) (at 7 8) end) (leaf (ident w_fn) (at 10 12) (leaf (ident (97 ∷ [])) (at 13 14) (group Paren (at 15 16) (at 16 17) end (punct 59 false (at 18 19) end)))))))
unfolding left is_end lookahead_at sees take_token take_lifetime take_mark take_group before first_span rows_for rows run parse_rule
foreign_function_border_10 = not_read foreign_function _ refl

-- `fn union () extern fn safe () ;`: nothing is read
foreign_function_border_11 : NotDerived (rule foreign_function)
    (leaf (ident w_fn) (at 0 2) (leaf (ident w_union) (at 3 8) (group Paren (at 9 10) (at 10 11) end (leaf (ident w_extern) (at 12 18) (leaf (ident w_fn) (at 19 21) (leaf (ident w_safe) (at 22 26) (group Paren (at 27 28) (at 28 29) end (punct 59 false (at 30 31) end))))))))
unfolding left is_end lookahead_at sees take_token take_lifetime take_mark take_group before first_span rows_for rows run parse_rule
foreign_function_border_11 = not_read foreign_function _ refl

-- `; static a : ! ;`: nothing is read
foreign_static_border_1 : NotDerived (rule foreign_static)
    (punct 59 false (at 0 1) (leaf (ident w_static) (at 2 8) (leaf (ident (97 ∷ [])) (at 9 10) (punct 58 false (at 11 12) (punct 33 false (at 13 14) (punct 59 false (at 15 16) end))))))
unfolding left is_end lookahead_at sees take_token take_lifetime take_mark take_group before rows_for rows run parse_rule
foreign_static_border_1 = not_read foreign_static _ refl

-- `static a : ! ; pub` prints `static a : ! ;` and leaves `pub`
foreign_static_border_2 : DerivesAs foreign_static
    (leaf (ident w_static) (at 0 6) (leaf (ident (97 ∷ [])) (at 7 8) (punct 58 false (at 9 10) (punct 33 false (at 11 12) (punct 59 false (at 13 14) (leaf (ident w_pub) (at 15 18) end))))))
    (leaf (ident w_static) call_site (leaf (ident (97 ∷ [])) call_site (punct 58 false call_site (punct 33 false call_site (punct 59 false call_site end)))))
    (leaf (ident w_pub) (at 15 18) end)
unfolding left is_end lookahead_at sees take_token take_lifetime take_mark take_group before rows_for rows run parse_rule
foreign_static_border_2 = computed foreign_static _ _ _ refl

-- `static a : ! pub ;`: nothing is read
foreign_static_border_3 : NotDerived (rule foreign_static)
    (leaf (ident w_static) (at 0 6) (leaf (ident (97 ∷ [])) (at 7 8) (punct 58 false (at 9 10) (punct 33 false (at 11 12) (leaf (ident w_pub) (at 13 16) (punct 59 false (at 17 18) end))))))
unfolding left is_end lookahead_at sees take_token take_lifetime take_mark take_group before rows_for rows run parse_rule
foreign_static_border_3 = not_read foreign_static _ refl

-- `static a : ! # [c] ;`: nothing is read
foreign_static_border_4 : NotDerived (rule foreign_static)
    (leaf (ident w_static) (at 0 6) (leaf (ident (97 ∷ [])) (at 7 8) (punct 58 false (at 9 10) (punct 33 false (at 11 12) (punct 35 false (at 13 14) (group Bracket (at 15 16) (at 17 18) (leaf (ident (99 ∷ [])) (at 16 17) end) (punct 59 false (at 19 20) end)))))))
unfolding left is_end lookahead_at sees take_token take_lifetime take_mark take_group before rows_for rows run parse_rule
foreign_static_border_4 = not_read foreign_static _ refl

-- `static a : ! ; # [c]` prints `static a : ! ;` and leaves `# [c]`
foreign_static_border_5 : DerivesAs foreign_static
    (leaf (ident w_static) (at 0 6) (leaf (ident (97 ∷ [])) (at 7 8) (punct 58 false (at 9 10) (punct 33 false (at 11 12) (punct 59 false (at 13 14) (punct 35 false (at 15 16) (group Bracket (at 17 18) (at 19 20) (leaf (ident (99 ∷ [])) (at 18 19) end) end)))))))
    (leaf (ident w_static) call_site (leaf (ident (97 ∷ [])) call_site (punct 58 false call_site (punct 33 false call_site (punct 59 false call_site end)))))
    (punct 35 false (at 15 16) (group Bracket (at 17 18) (at 19 20) (leaf (ident (99 ∷ [])) (at 18 19) end) end))
unfolding left is_end lookahead_at sees take_token take_lifetime take_mark take_group before rows_for rows run parse_rule
foreign_static_border_5 = computed foreign_static _ _ _ refl

-- `\(\) static default :! static auto :< :: auto >:: safe ;`: nothing is read
foreign_static_border_6 : NotDerived (rule foreign_static)
    (group None (at 0 2) (at 2 4) end (leaf (ident w_static) (at 5 11) (leaf (ident w_default) (at 12 19) (punct 58 true (at 20 21) (punct 33 false (at 21 22) (leaf (ident w_static) (at 23 29) (leaf (ident w_auto) (at 30 34) (punct 58 true (at 35 36) (punct 60 false (at 36 37) (punct 58 true (at 38 39) (punct 58 false (at 39 40) (leaf (ident w_auto) (at 41 45) (punct 62 true (at 46 47) (punct 58 true (at 47 48) (punct 58 false (at 48 49) (leaf (ident w_safe) (at 50 54) (punct 59 false (at 55 56) end)))))))))))))))))
unfolding left is_end lookahead_at sees take_token take_lifetime take_mark take_group before rows_for rows run parse_rule
foreign_static_border_6 = not_read foreign_static _ refl

-- `a ;`: nothing is read
foreign_type_border_1 : NotDerived (rule foreign_type)
    (leaf (ident (97 ∷ [])) (at 0 1) (punct 59 false (at 2 3) end))
unfolding left is_end lookahead_at sees take_token take_lifetime take_mark take_group before rows_for rows run parse_rule
foreign_type_border_1 = not_read foreign_type _ refl

-- `Self a ;`: nothing is read
foreign_type_border_2 : NotDerived (rule foreign_type)
    (leaf (ident w_Self_type) (at 0 4) (leaf (ident (97 ∷ [])) (at 5 6) (punct 59 false (at 7 8) end)))
unfolding left is_end lookahead_at sees take_token take_lifetime take_mark take_group before rows_for rows run parse_rule
foreign_type_border_2 = not_read foreign_type _ refl

-- `type 1 ;`: nothing is read
foreign_type_border_3 : NotDerived (rule foreign_type)
    (leaf (ident w_type) (at 0 4) (leaf (literal Int (49 ∷ [])) (at 5 6) (punct 59 false (at 7 8) end)))
unfolding left is_end lookahead_at sees take_token take_lifetime take_mark take_group before rows_for rows run parse_rule
foreign_type_border_3 = not_read foreign_type _ refl

-- `type _ ;`: nothing is read
foreign_type_border_4 : NotDerived (rule foreign_type)
    (leaf (ident w_type) (at 0 4) (leaf (ident w_underscore) (at 5 6) (punct 59 false (at 7 8) end)))
unfolding left is_end lookahead_at sees take_token take_lifetime take_mark take_group before rows_for rows run parse_rule
foreign_type_border_4 = not_read foreign_type _ refl

-- `type a ,`: nothing is read
foreign_type_border_5 : NotDerived (rule foreign_type)
    (leaf (ident w_type) (at 0 4) (leaf (ident (97 ∷ [])) (at 5 6) (punct 44 false (at 7 8) end)))
unfolding left is_end lookahead_at sees take_token take_lifetime take_mark take_group before rows_for rows run parse_rule
foreign_type_border_5 = not_read foreign_type _ refl

-- `type fn ;`: nothing is read
foreign_type_border_6 : NotDerived (rule foreign_type)
    (leaf (ident w_type) (at 0 4) (leaf (ident w_fn) (at 5 7) (punct 59 false (at 8 9) end)))
unfolding left is_end lookahead_at sees take_token take_lifetime take_mark take_group before rows_for rows run parse_rule
foreign_type_border_6 = not_read foreign_type _ refl

-- `; type a ;`: nothing is read
foreign_type_border_7 : NotDerived (rule foreign_type)
    (punct 59 false (at 0 1) (leaf (ident w_type) (at 2 6) (leaf (ident (97 ∷ [])) (at 7 8) (punct 59 false (at 9 10) end))))
unfolding left is_end lookahead_at sees take_token take_lifetime take_mark take_group before rows_for rows run parse_rule
foreign_type_border_7 = not_read foreign_type _ refl

-- `b type a ;`: nothing is read
foreign_type_border_8 : NotDerived (rule foreign_type)
    (leaf (ident (98 ∷ [])) (at 0 1) (leaf (ident w_type) (at 2 6) (leaf (ident (97 ∷ [])) (at 7 8) (punct 59 false (at 9 10) end))))
unfolding left is_end lookahead_at sees take_token take_lifetime take_mark take_group before rows_for rows run parse_rule
foreign_type_border_8 = not_read foreign_type _ refl

-- `type ; a ;`: nothing is read
foreign_type_border_9 : NotDerived (rule foreign_type)
    (leaf (ident w_type) (at 0 4) (punct 59 false (at 5 6) (leaf (ident (97 ∷ [])) (at 7 8) (punct 59 false (at 9 10) end))))
unfolding left is_end lookahead_at sees take_token take_lifetime take_mark take_group before rows_for rows run parse_rule
foreign_type_border_9 = not_read foreign_type _ refl

-- `type a ; ;` prints `type a ;` and leaves `;`
foreign_type_border_10 : DerivesAs foreign_type
    (leaf (ident w_type) (at 0 4) (leaf (ident (97 ∷ [])) (at 5 6) (punct 59 false (at 7 8) (punct 59 false (at 9 10) end))))
    (leaf (ident w_type) call_site (leaf (ident (97 ∷ [])) call_site (punct 59 false call_site end)))
    (punct 59 false (at 9 10) end)
unfolding left is_end lookahead_at sees take_token take_lifetime take_mark take_group before rows_for rows run parse_rule
foreign_type_border_10 = computed foreign_type _ _ _ refl

-- `type a ; b` prints `type a ;` and leaves `b`
foreign_type_border_11 : DerivesAs foreign_type
    (leaf (ident w_type) (at 0 4) (leaf (ident (97 ∷ [])) (at 5 6) (punct 59 false (at 7 8) (leaf (ident (98 ∷ [])) (at 9 10) end))))
    (leaf (ident w_type) call_site (leaf (ident (97 ∷ [])) call_site (punct 59 false call_site end)))
    (leaf (ident (98 ∷ [])) (at 9 10) end)
unfolding left is_end lookahead_at sees take_token take_lifetime take_mark take_group before rows_for rows run parse_rule
foreign_type_border_11 = computed foreign_type _ _ _ refl

-- `type a a ;`: nothing is read
foreign_type_border_12 : NotDerived (rule foreign_type)
    (leaf (ident w_type) (at 0 4) (leaf (ident (97 ∷ [])) (at 5 6) (leaf (ident (97 ∷ [])) (at 7 8) (punct 59 false (at 9 10) end))))
unfolding left is_end lookahead_at sees take_token take_lifetime take_mark take_group before rows_for rows run parse_rule
foreign_type_border_12 = not_read foreign_type _ refl

-- `type Self ;`: nothing is read
foreign_type_border_13 : NotDerived (rule foreign_type)
    (leaf (ident w_type) (at 0 4) (leaf (ident w_Self_type) (at 5 9) (punct 59 false (at 10 11) end)))
unfolding left is_end lookahead_at sees take_token take_lifetime take_mark take_group before rows_for rows run parse_rule
foreign_type_border_13 = not_read foreign_type _ refl

-- `type safe ;` prints `type safe ;`
foreign_type_border_14 : DerivesAs foreign_type
    (leaf (ident w_type) (at 0 4) (leaf (ident w_safe) (at 5 9) (punct 59 false (at 10 11) end)))
    (leaf (ident w_type) call_site (leaf (ident w_safe) call_site (punct 59 false call_site end)))
    (end)
unfolding left is_end lookahead_at sees take_token take_lifetime take_mark take_group before rows_for rows run parse_rule
foreign_type_border_14 = computed foreign_type _ _ _ refl

-- `type self ;`: nothing is read
foreign_type_border_15 : NotDerived (rule foreign_type)
    (leaf (ident w_type) (at 0 4) (leaf (ident w_self) (at 5 9) (punct 59 false (at 10 11) end)))
unfolding left is_end lookahead_at sees take_token take_lifetime take_mark take_group before rows_for rows run parse_rule
foreign_type_border_15 = not_read foreign_type _ refl

-- `type type ;`: nothing is read
foreign_type_border_16 : NotDerived (rule foreign_type)
    (leaf (ident w_type) (at 0 4) (leaf (ident w_type) (at 5 9) (punct 59 false (at 10 11) end)))
unfolding left is_end lookahead_at sees take_token take_lifetime take_mark take_group before rows_for rows run parse_rule
foreign_type_border_16 = not_read foreign_type _ refl

-- `< > type a ;`: nothing is read
foreign_type_border_17 : NotDerived (rule foreign_type)
    (punct 60 false (at 0 1) (punct 62 false (at 2 3) (leaf (ident w_type) (at 4 8) (leaf (ident (97 ∷ [])) (at 9 10) (punct 59 false (at 11 12) end)))))
unfolding left is_end lookahead_at sees take_token take_lifetime take_mark take_group before rows_for rows run parse_rule
foreign_type_border_17 = not_read foreign_type _ refl

-- `type < > a ;`: nothing is read
foreign_type_border_18 : NotDerived (rule foreign_type)
    (leaf (ident w_type) (at 0 4) (punct 60 false (at 5 6) (punct 62 false (at 7 8) (leaf (ident (97 ∷ [])) (at 9 10) (punct 59 false (at 11 12) end)))))
unfolding left is_end lookahead_at sees take_token take_lifetime take_mark take_group before rows_for rows run parse_rule
foreign_type_border_18 = not_read foreign_type _ refl

-- `type a ; < >` prints `type a ;` and leaves `< >`
foreign_type_border_19 : DerivesAs foreign_type
    (leaf (ident w_type) (at 0 4) (leaf (ident (97 ∷ [])) (at 5 6) (punct 59 false (at 7 8) (punct 60 false (at 9 10) (punct 62 false (at 11 12) end)))))
    (leaf (ident w_type) call_site (leaf (ident (97 ∷ [])) call_site (punct 59 false call_site end)))
    (punct 60 false (at 9 10) (punct 62 false (at 11 12) end))
unfolding left is_end lookahead_at sees take_token take_lifetime take_mark take_group before rows_for rows run parse_rule
foreign_type_border_19 = computed foreign_type _ _ _ refl

-- `type a ; pub` prints `type a ;` and leaves `pub`
foreign_type_border_20 : DerivesAs foreign_type
    (leaf (ident w_type) (at 0 4) (leaf (ident (97 ∷ [])) (at 5 6) (punct 59 false (at 7 8) (leaf (ident w_pub) (at 9 12) end))))
    (leaf (ident w_type) call_site (leaf (ident (97 ∷ [])) call_site (punct 59 false call_site end)))
    (leaf (ident w_pub) (at 9 12) end)
unfolding left is_end lookahead_at sees take_token take_lifetime take_mark take_group before rows_for rows run parse_rule
foreign_type_border_20 = computed foreign_type _ _ _ refl

-- `type a pub ;`: nothing is read
foreign_type_border_21 : NotDerived (rule foreign_type)
    (leaf (ident w_type) (at 0 4) (leaf (ident (97 ∷ [])) (at 5 6) (leaf (ident w_pub) (at 7 10) (punct 59 false (at 11 12) end))))
unfolding left is_end lookahead_at sees take_token take_lifetime take_mark take_group before rows_for rows run parse_rule
foreign_type_border_21 = not_read foreign_type _ refl

-- `type crate ;`: nothing is read
foreign_type_border_22 : NotDerived (rule foreign_type)
    (leaf (ident w_type) (at 0 4) (leaf (ident w_crate) (at 5 10) (punct 59 false (at 11 12) end)))
unfolding left is_end lookahead_at sees take_token take_lifetime take_mark take_group before rows_for rows run parse_rule
foreign_type_border_22 = not_read foreign_type _ refl

-- `type pub a ;`: nothing is read
foreign_type_border_23 : NotDerived (rule foreign_type)
    (leaf (ident w_type) (at 0 4) (leaf (ident w_pub) (at 5 8) (leaf (ident (97 ∷ [])) (at 9 10) (punct 59 false (at 11 12) end))))
unfolding left is_end lookahead_at sees take_token take_lifetime take_mark take_group before rows_for rows run parse_rule
foreign_type_border_23 = not_read foreign_type _ refl

-- `type super ;`: nothing is read
foreign_type_border_24 : NotDerived (rule foreign_type)
    (leaf (ident w_type) (at 0 4) (leaf (ident w_super) (at 5 10) (punct 59 false (at 11 12) end)))
unfolding left is_end lookahead_at sees take_token take_lifetime take_mark take_group before rows_for rows run parse_rule
foreign_type_border_24 = not_read foreign_type _ refl

-- `type union ;` prints `type union ;`
foreign_type_border_25 : DerivesAs foreign_type
    (leaf (ident w_type) (at 0 4) (leaf (ident w_union) (at 5 10) (punct 59 false (at 11 12) end)))
    (leaf (ident w_type) call_site (leaf (ident w_union) call_site (punct 59 false call_site end)))
    (end)
unfolding left is_end lookahead_at sees take_token take_lifetime take_mark take_group before rows_for rows run parse_rule
foreign_type_border_25 = computed foreign_type _ _ _ refl

-- `type type a ;`: nothing is read
foreign_type_border_26 : NotDerived (rule foreign_type)
    (leaf (ident w_type) (at 0 4) (leaf (ident w_type) (at 5 9) (leaf (ident (97 ∷ [])) (at 10 11) (punct 59 false (at 12 13) end))))
unfolding left is_end lookahead_at sees take_token take_lifetime take_mark take_group before rows_for rows run parse_rule
foreign_type_border_26 = not_read foreign_type _ refl

-- `type # [c] a ;`: nothing is read
foreign_type_border_27 : NotDerived (rule foreign_type)
    (leaf (ident w_type) (at 0 4) (punct 35 false (at 5 6) (group Bracket (at 7 8) (at 9 10) (leaf (ident (99 ∷ [])) (at 8 9) end) (leaf (ident (97 ∷ [])) (at 11 12) (punct 59 false (at 13 14) end)))))
unfolding left is_end lookahead_at sees take_token take_lifetime take_mark take_group before rows_for rows run parse_rule
foreign_type_border_27 = not_read foreign_type _ refl

-- `type a # [c] ;`: nothing is read
foreign_type_border_28 : NotDerived (rule foreign_type)
    (leaf (ident w_type) (at 0 4) (leaf (ident (97 ∷ [])) (at 5 6) (punct 35 false (at 7 8) (group Bracket (at 9 10) (at 11 12) (leaf (ident (99 ∷ [])) (at 10 11) end) (punct 59 false (at 13 14) end)))))
unfolding left is_end lookahead_at sees take_token take_lifetime take_mark take_group before rows_for rows run parse_rule
foreign_type_border_28 = not_read foreign_type _ refl

-- `type a ; # [c]` prints `type a ;` and leaves `# [c]`
foreign_type_border_29 : DerivesAs foreign_type
    (leaf (ident w_type) (at 0 4) (leaf (ident (97 ∷ [])) (at 5 6) (punct 59 false (at 7 8) (punct 35 false (at 9 10) (group Bracket (at 11 12) (at 13 14) (leaf (ident (99 ∷ [])) (at 12 13) end) end)))))
    (leaf (ident w_type) call_site (leaf (ident (97 ∷ [])) call_site (punct 59 false call_site end)))
    (punct 35 false (at 9 10) (group Bracket (at 11 12) (at 13 14) (leaf (ident (99 ∷ [])) (at 12 13) end) end))
unfolding left is_end lookahead_at sees take_token take_lifetime take_mark take_group before rows_for rows run parse_rule
foreign_type_border_29 = computed foreign_type _ _ _ refl

-- `type a ; where` prints `type a ;` and leaves `where`
foreign_type_border_30 : DerivesAs foreign_type
    (leaf (ident w_type) (at 0 4) (leaf (ident (97 ∷ [])) (at 5 6) (punct 59 false (at 7 8) (leaf (ident w_where) (at 9 14) end))))
    (leaf (ident w_type) call_site (leaf (ident (97 ∷ [])) call_site (punct 59 false call_site end)))
    (leaf (ident w_where) (at 9 14) end)
unfolding left is_end lookahead_at sees take_token take_lifetime take_mark take_group before rows_for rows run parse_rule
foreign_type_border_30 = computed foreign_type _ _ _ refl

-- `type default ;` prints `type default ;`
foreign_type_border_31 : DerivesAs foreign_type
    (leaf (ident w_type) (at 0 4) (leaf (ident w_default) (at 5 12) (punct 59 false (at 13 14) end)))
    (leaf (ident w_type) call_site (leaf (ident w_default) call_site (punct 59 false call_site end)))
    (end)
unfolding left is_end lookahead_at sees take_token take_lifetime take_mark take_group before rows_for rows run parse_rule
foreign_type_border_31 = computed foreign_type _ _ _ refl

-- `type auto ;type` prints `type auto ;` and leaves `type`
foreign_type_border_32 : DerivesAs foreign_type
    (leaf (ident w_type) (at 0 4) (leaf (ident w_auto) (at 5 9) (punct 59 false (at 10 11) (leaf (ident w_type) (at 11 15) end))))
    (leaf (ident w_type) call_site (leaf (ident w_auto) call_site (punct 59 false call_site end)))
    (leaf (ident w_type) (at 11 15) end)
unfolding left is_end lookahead_at sees take_token take_lifetime take_mark take_group before rows_for rows run parse_rule
foreign_type_border_32 = computed foreign_type _ _ _ refl

-- `type default type ;`: nothing is read
foreign_type_border_33 : NotDerived (rule foreign_type)
    (leaf (ident w_type) (at 0 4) (leaf (ident w_default) (at 5 12) (leaf (ident w_type) (at 13 17) (punct 59 false (at 18 19) end))))
unfolding left is_end lookahead_at sees take_token take_lifetime take_mark take_group before rows_for rows run parse_rule
foreign_type_border_33 = not_read foreign_type _ refl

-- `pub pub type default ;`: nothing is read
foreign_type_border_34 : NotDerived (rule foreign_type)
    (leaf (ident w_pub) (at 0 3) (leaf (ident w_pub) (at 4 7) (leaf (ident w_type) (at 8 12) (leaf (ident w_default) (at 13 20) (punct 59 false (at 21 22) end)))))
unfolding left is_end lookahead_at sees take_token take_lifetime take_mark take_group before rows_for rows run parse_rule
foreign_type_border_34 = not_read foreign_type _ refl

-- `pub # [c] type default ;`: nothing is read
foreign_type_border_35 : NotDerived (rule foreign_type)
    (leaf (ident w_pub) (at 0 3) (punct 35 false (at 4 5) (group Bracket (at 6 7) (at 8 9) (leaf (ident (99 ∷ [])) (at 7 8) end) (leaf (ident w_type) (at 10 14) (leaf (ident w_default) (at 15 22) (punct 59 false (at 23 24) end))))))
unfolding left is_end lookahead_at sees take_token take_lifetime take_mark take_group before rows_for rows run parse_rule
foreign_type_border_35 = not_read foreign_type _ refl

-- `# [a] pub type b < > < c > where d : e ;`: nothing is read
foreign_type_border_36 : NotDerived (rule foreign_type)
    (punct 35 false (at 0 1) (group Bracket (at 2 3) (at 4 5) (leaf (ident (97 ∷ [])) (at 3 4) end) (leaf (ident w_pub) (at 6 9) (leaf (ident w_type) (at 10 14) (leaf (ident (98 ∷ [])) (at 15 16) (punct 60 false (at 17 18) (punct 62 false (at 19 20) (punct 60 false (at 21 22) (leaf (ident (99 ∷ [])) (at 23 24) (punct 62 false (at 25 26) (leaf (ident w_where) (at 27 32) (leaf (ident (100 ∷ [])) (at 33 34) (punct 58 false (at 35 36) (leaf (ident (101 ∷ [])) (at 37 38) (punct 59 false (at 39 40) end)))))))))))))))
unfolding left is_end lookahead_at sees take_token take_lifetime take_mark take_group before rows_for rows run parse_rule
foreign_type_border_36 = not_read foreign_type _ refl

-- `# [a] pub type b < c > where d : e where ;`: nothing is read
foreign_type_border_37 : NotDerived (rule foreign_type)
    (punct 35 false (at 0 1) (group Bracket (at 2 3) (at 4 5) (leaf (ident (97 ∷ [])) (at 3 4) end) (leaf (ident w_pub) (at 6 9) (leaf (ident w_type) (at 10 14) (leaf (ident (98 ∷ [])) (at 15 16) (punct 60 false (at 17 18) (leaf (ident (99 ∷ [])) (at 19 20) (punct 62 false (at 21 22) (leaf (ident w_where) (at 23 28) (leaf (ident (100 ∷ [])) (at 29 30) (punct 58 false (at 31 32) (leaf (ident (101 ∷ [])) (at 33 34) (leaf (ident w_where) (at 35 40) (punct 59 false (at 41 42) end))))))))))))))
unfolding left is_end lookahead_at sees take_token take_lifetime take_mark take_group before rows_for rows run parse_rule
foreign_type_border_37 = not_read foreign_type _ refl

-- `! {!}`: nothing is read
foreign_macro_border_1 : NotDerived (rule foreign_macro)
    (punct 33 false (at 0 1) (group Brace (at 2 3) (at 4 5) (punct 33 false (at 3 4) end) end))
unfolding left is_end lookahead_at sees take_token take_lifetime take_mark take_group before rows_for rows run parse_rule
foreign_macro_border_1 = not_read foreign_macro _ refl

-- `Self ! {&} b` prints `Self ! {&}` and leaves `b`
foreign_macro_border_2 : DerivesAs foreign_macro
    (leaf (ident w_Self_type) (at 0 4) (punct 33 false (at 5 6) (group Brace (at 7 8) (at 9 10) (punct 38 false (at 8 9) end) (leaf (ident (98 ∷ [])) (at 11 12) end))))
    (leaf (ident w_Self_type) call_site (punct 33 false call_site (group Brace call_site call_site (punct 38 false call_site end) end)))
    (leaf (ident (98 ∷ [])) (at 11 12) end)
unfolding left is_end lookahead_at sees take_token take_lifetime take_mark take_group before rows_for rows run parse_rule
foreign_macro_border_2 = computed foreign_macro _ _ _ refl

-- `# [c] Self ! {&}` prints `# [c] Self ! {&}`
foreign_macro_border_3 : DerivesAs foreign_macro
    (punct 35 false (at 0 1) (group Bracket (at 2 3) (at 4 5) (leaf (ident (99 ∷ [])) (at 3 4) end) (leaf (ident w_Self_type) (at 6 10) (punct 33 false (at 11 12) (group Brace (at 13 14) (at 15 16) (punct 38 false (at 14 15) end) end)))))
    (punct 35 false call_site (group Bracket call_site call_site (leaf (ident (99 ∷ [])) call_site end) (leaf (ident w_Self_type) call_site (punct 33 false call_site (group Brace call_site call_site (punct 38 false call_site end) end)))))
    (end)
unfolding left is_end lookahead_at sees take_token take_lifetime take_mark take_group before rows_for rows run parse_rule
foreign_macro_border_3 = computed foreign_macro _ _ _ refl

-- `Self ! {&} # [c]` prints `Self ! {&}` and leaves `# [c]`
foreign_macro_border_4 : DerivesAs foreign_macro
    (leaf (ident w_Self_type) (at 0 4) (punct 33 false (at 5 6) (group Brace (at 7 8) (at 9 10) (punct 38 false (at 8 9) end) (punct 35 false (at 11 12) (group Bracket (at 13 14) (at 15 16) (leaf (ident (99 ∷ [])) (at 14 15) end) end)))))
    (leaf (ident w_Self_type) call_site (punct 33 false call_site (group Brace call_site call_site (punct 38 false call_site end) end)))
    (punct 35 false (at 11 12) (group Bracket (at 13 14) (at 15 16) (leaf (ident (99 ∷ [])) (at 14 15) end) end))
unfolding left is_end lookahead_at sees take_token take_lifetime take_mark take_group before rows_for rows run parse_rule
foreign_macro_border_4 = computed foreign_macro _ _ _ refl

-- `crate !{}` prints `crate ! {}`
foreign_item_border_1 : DerivesAs foreign_item
    (leaf (ident w_crate) (at 0 5) (punct 33 false (at 6 7) (group Brace (at 7 8) (at 8 9) end end)))
    (leaf (ident w_crate) call_site (punct 33 false call_site (group Brace call_site call_site end end)))
    (end)
unfolding left is_end lookahead_at sees take_token take_lifetime take_mark take_group before first_span rows_for rows run parse_rule
foreign_item_border_1 = computed foreign_item _ _ _ refl

-- `fn a () ;` prints `fn a () ;`
foreign_item_border_2 : DerivesAs foreign_item
    (leaf (ident w_fn) (at 0 2) (leaf (ident (97 ∷ [])) (at 3 4) (group Paren (at 5 6) (at 6 7) end (punct 59 false (at 8 9) end))))
    (leaf (ident w_fn) call_site (leaf (ident (97 ∷ [])) call_site (group Paren call_site call_site end (punct 59 false call_site end))))
    (end)
unfolding left is_end lookahead_at sees take_token take_lifetime take_mark take_group before first_span rows_for rows run parse_rule
foreign_item_border_2 = computed foreign_item _ _ _ refl

-- `type auto ; b` prints `type auto ;` and leaves `b`
foreign_item_border_3 : DerivesAs foreign_item
    (leaf (ident w_type) (at 0 4) (leaf (ident w_auto) (at 5 9) (punct 59 false (at 10 11) (leaf (ident (98 ∷ [])) (at 12 13) end))))
    (leaf (ident w_type) call_site (leaf (ident w_auto) call_site (punct 59 false call_site end)))
    (leaf (ident (98 ∷ [])) (at 12 13) end)
unfolding left is_end lookahead_at sees take_token take_lifetime take_mark take_group before first_span rows_for rows run parse_rule
foreign_item_border_3 = computed foreign_item _ _ _ refl

-- `type a ;` prints `type a ;`
foreign_items_border_1 : DerivesAs foreign_items
    (leaf (ident w_type) (at 0 4) (leaf (ident (97 ∷ [])) (at 5 6) (punct 59 false (at 7 8) end)))
    (leaf (ident w_type) call_site (leaf (ident (97 ∷ [])) call_site (punct 59 false call_site end)))
    (end)
unfolding left is_end lookahead_at sees take_token take_lifetime take_mark take_group before first_span rows_for rows run parse_rule
foreign_items_border_1 = computed foreign_items _ _ _ refl
