-- Written by tools/grammar.py from specs/Table.antt; edits are lost.
-- Worked examples of paths of expressions, macros and patterns, from tools/examples.txt: what each rule reads, prints and refuses. The checker computes each.
use Rattle.std.proofs.Common.{true, false, [], ◌∷◌, refl}
use Rattle.syn_grammar.specs.Words.{w_underscore, w_as, w_break, w_crate, w_fn, w_in, w_loop, w_mut, w_ref, w_Self_type, w_self, w_super, w_unsafe, w_union, w_auto, w_default, w_safe}
use Rattle.syn_grammar.specs.Tokens.{call_site, Paren, Brace, Bracket, None, Int, ident, literal, end, leaf, punct, group}
use Rattle.syn_grammar.specs.Rules.{expression_path, expression_words, qualified_expression_path, path_as_expression, macro_invocation, pattern, patterns}
use Rattle.syn_grammar.specs.Grammar.{rule}
use Rattle.syn_grammar.specs.Take.{left, is_end, lookahead_at, sees, take_token, take_lifetime, take_mark, take_group, before}
use Rattle.syn_grammar.specs.Run.{rows_for, rows, run, parse_rule}
use Rattle.syn_grammar.specs.Promises.{NotDerived}
use Rattle.syn_grammar.proofs.Shown.{at, DerivesAs, computed, not_read}

-- `::a` prints `:: a`
epath_colons_a : DerivesAs expression_path
    (punct 58 true (at 0 1) (punct 58 false (at 1 2) (leaf (ident (97 ∷ [])) (at 2 3) end)))
    (punct 58 true call_site (punct 58 false call_site (leaf (ident (97 ∷ [])) call_site end)))
    (end)
unfolding left is_end lookahead_at sees take_token take_lifetime take_mark take_group before rows_for rows run parse_rule
epath_colons_a = computed expression_path _ _ _ refl

-- `::::a`: nothing is read
epath_colons_colons_a : NotDerived (rule expression_path)
    (punct 58 true (at 0 1) (punct 58 true (at 1 2) (punct 58 true (at 2 3) (punct 58 false (at 3 4) (leaf (ident (97 ∷ [])) (at 4 5) end)))))
unfolding left is_end lookahead_at sees take_token take_lifetime take_mark take_group before rows_for rows run parse_rule
epath_colons_colons_a = not_read expression_path _ refl

-- `a b` prints `a` and leaves `b`
epath_a_b : DerivesAs expression_path
    (leaf (ident (97 ∷ [])) (at 0 1) (leaf (ident (98 ∷ [])) (at 2 3) end))
    (leaf (ident (97 ∷ [])) call_site end)
    (leaf (ident (98 ∷ [])) (at 2 3) end)
unfolding left is_end lookahead_at sees take_token take_lifetime take_mark take_group before rows_for rows run parse_rule
epath_a_b = computed expression_path _ _ _ refl

-- `:a`: nothing is read
epath_colon_a : NotDerived (rule expression_path)
    (punct 58 false (at 0 1) (leaf (ident (97 ∷ [])) (at 1 2) end))
unfolding left is_end lookahead_at sees take_token take_lifetime take_mark take_group before rows_for rows run parse_rule
epath_colon_a = not_read expression_path _ refl

-- `. crate loop`: nothing is read
epath_dot_crate_loop : NotDerived (rule expression_path)
    (punct 46 false (at 0 1) (leaf (ident w_crate) (at 2 7) (leaf (ident w_loop) (at 8 12) end)))
unfolding left is_end lookahead_at sees take_token take_lifetime take_mark take_group before rows_for rows run parse_rule
epath_dot_crate_loop = not_read expression_path _ refl

-- `1`: nothing is read
ewords_n1 : NotDerived (rule expression_words)
    (leaf (literal Int (49 ∷ [])) (at 0 1) end)
unfolding left is_end lookahead_at sees take_token take_lifetime take_mark take_group before rows_for rows run parse_rule
ewords_n1 = not_read expression_words _ refl

-- `safe` prints `safe`
ewords_safe : DerivesAs expression_words
    (leaf (ident w_safe) (at 0 4) end)
    (leaf (ident w_safe) call_site end)
    (end)
unfolding left is_end lookahead_at sees take_token take_lifetime take_mark take_group before rows_for rows run parse_rule
ewords_safe = computed expression_words _ _ _ refl

-- `auto auto` prints `auto` and leaves `auto`
ewords_auto_auto : DerivesAs expression_words
    (leaf (ident w_auto) (at 0 4) (leaf (ident w_auto) (at 5 9) end))
    (leaf (ident w_auto) call_site end)
    (leaf (ident w_auto) (at 5 9) end)
unfolding left is_end lookahead_at sees take_token take_lifetime take_mark take_group before rows_for rows run parse_rule
ewords_auto_auto = computed expression_words _ _ _ refl

-- `:: default auto ()`: nothing is read
ewords_colons_default_auto_parens : NotDerived (rule expression_words)
    (punct 58 true (at 0 1) (punct 58 false (at 1 2) (leaf (ident w_default) (at 3 10) (leaf (ident w_auto) (at 11 15) (group Paren (at 16 17) (at 17 18) end end)))))
unfolding left is_end lookahead_at sees take_token take_lifetime take_mark take_group before rows_for rows run parse_rule
ewords_colons_default_auto_parens = not_read expression_words _ refl

-- `a::<>` prints `a :: < >`
ewords_a_colons_lt_gt : DerivesAs expression_words
    (leaf (ident (97 ∷ [])) (at 0 1) (punct 58 true (at 1 2) (punct 58 true (at 2 3) (punct 60 true (at 3 4) (punct 62 false (at 4 5) end)))))
    (leaf (ident (97 ∷ [])) call_site (punct 58 true call_site (punct 58 false call_site (punct 60 false call_site (punct 62 false call_site end)))))
    (end)
unfolding left is_end lookahead_at sees take_token take_lifetime take_mark take_group before rows_for rows run parse_rule
ewords_a_colons_lt_gt = computed expression_words _ _ _ refl

-- `a::<T>::<U>`: nothing is read
ewords_a_colons_lt_T_gt_colons_lt_U_gt : NotDerived (rule expression_words)
    (leaf (ident (97 ∷ [])) (at 0 1) (punct 58 true (at 1 2) (punct 58 true (at 2 3) (punct 60 false (at 3 4) (leaf (ident (84 ∷ [])) (at 4 5) (punct 62 true (at 5 6) (punct 58 true (at 6 7) (punct 58 true (at 7 8) (punct 60 false (at 8 9) (leaf (ident (85 ∷ [])) (at 9 10) (punct 62 false (at 10 11) end)))))))))))
unfolding left is_end lookahead_at sees take_token take_lifetime take_mark take_group before rows_for rows run parse_rule
ewords_a_colons_lt_T_gt_colons_lt_U_gt = not_read expression_words _ refl

-- `crate` prints `crate`
ewords_crate : DerivesAs expression_words
    (leaf (ident w_crate) (at 0 5) end)
    (leaf (ident w_crate) call_site end)
    (end)
unfolding left is_end lookahead_at sees take_token take_lifetime take_mark take_group before rows_for rows run parse_rule
ewords_crate = computed expression_words _ _ _ refl

-- `self crate` prints `self` and leaves `crate`
ewords_self_crate : DerivesAs expression_words
    (leaf (ident w_self) (at 0 4) (leaf (ident w_crate) (at 5 10) end))
    (leaf (ident w_self) call_site end)
    (leaf (ident w_crate) (at 5 10) end)
unfolding left is_end lookahead_at sees take_token take_lifetime take_mark take_group before rows_for rows run parse_rule
ewords_self_crate = computed expression_words _ _ _ refl

-- `a::::b`: nothing is read
ewords_a_colons_colons_b : NotDerived (rule expression_words)
    (leaf (ident (97 ∷ [])) (at 0 1) (punct 58 true (at 1 2) (punct 58 true (at 2 3) (punct 58 true (at 3 4) (punct 58 false (at 4 5) (leaf (ident (98 ∷ [])) (at 5 6) end))))))
unfolding left is_end lookahead_at sees take_token take_lifetime take_mark take_group before rows_for rows run parse_rule
ewords_a_colons_colons_b = not_read expression_words _ refl

-- `Self :: self Self` prints `Self :: self` and leaves `Self`
ewords_Self_colons_self_Self : DerivesAs expression_words
    (leaf (ident w_Self_type) (at 0 4) (punct 58 true (at 5 6) (punct 58 false (at 6 7) (leaf (ident w_self) (at 8 12) (leaf (ident w_Self_type) (at 13 17) end)))))
    (leaf (ident w_Self_type) call_site (punct 58 true call_site (punct 58 false call_site (leaf (ident w_self) call_site end))))
    (leaf (ident w_Self_type) (at 13 17) end)
unfolding left is_end lookahead_at sees take_token take_lifetime take_mark take_group before rows_for rows run parse_rule
ewords_Self_colons_self_Self = computed expression_words _ _ _ refl

-- `a:<T>` prints `a` and leaves `:< T >`
ewords_a_colon_lt_T_gt : DerivesAs expression_words
    (leaf (ident (97 ∷ [])) (at 0 1) (punct 58 true (at 1 2) (punct 60 false (at 2 3) (leaf (ident (84 ∷ [])) (at 3 4) (punct 62 false (at 4 5) end)))))
    (leaf (ident (97 ∷ [])) call_site end)
    (punct 58 true (at 1 2) (punct 60 false (at 2 3) (leaf (ident (84 ∷ [])) (at 3 4) (punct 62 false (at 4 5) end))))
unfolding left is_end lookahead_at sees take_token take_lifetime take_mark take_group before rows_for rows run parse_rule
ewords_a_colon_lt_T_gt = computed expression_words _ _ _ refl

-- `union . super` prints `union` and leaves `. super`
ewords_union_dot_super : DerivesAs expression_words
    (leaf (ident w_union) (at 0 5) (punct 46 false (at 6 7) (leaf (ident w_super) (at 8 13) end)))
    (leaf (ident w_union) call_site end)
    (punct 46 false (at 6 7) (leaf (ident w_super) (at 8 13) end))
unfolding left is_end lookahead_at sees take_token take_lifetime take_mark take_group before rows_for rows run parse_rule
ewords_union_dot_super = computed expression_words _ _ _ refl

-- `default` prints `default`
ewords_default : DerivesAs expression_words
    (leaf (ident w_default) (at 0 7) end)
    (leaf (ident w_default) call_site end)
    (end)
unfolding left is_end lookahead_at sees take_token take_lifetime take_mark take_group before rows_for rows run parse_rule
ewords_default = computed expression_words _ _ _ refl

-- `_`: nothing is read
ewords_underscore : NotDerived (rule expression_words)
    (leaf (ident w_underscore) (at 0 1) end)
unfolding left is_end lookahead_at sees take_token take_lifetime take_mark take_group before rows_for rows run parse_rule
ewords_underscore = not_read expression_words _ refl

-- `fn`: nothing is read
ewords_fn : NotDerived (rule expression_words)
    (leaf (ident w_fn) (at 0 2) end)
unfolding left is_end lookahead_at sees take_token take_lifetime take_mark take_group before rows_for rows run parse_rule
ewords_fn = not_read expression_words _ refl

-- `super` prints `super`
ewords_super : DerivesAs expression_words
    (leaf (ident w_super) (at 0 5) end)
    (leaf (ident w_super) call_site end)
    (end)
unfolding left is_end lookahead_at sees take_token take_lifetime take_mark take_group before rows_for rows run parse_rule
ewords_super = computed expression_words _ _ _ refl

-- `! > :: auto`: nothing is read
eqpath_bang_gt_colons_auto : NotDerived (rule qualified_expression_path)
    (punct 33 false (at 0 1) (punct 62 false (at 2 3) (punct 58 true (at 4 5) (punct 58 false (at 5 6) (leaf (ident w_auto) (at 7 11) end)))))
unfolding left is_end lookahead_at sees take_token take_lifetime take_mark take_group before rows_for rows run parse_rule
eqpath_bang_gt_colons_auto = not_read qualified_expression_path _ refl

-- `< < \(()\) >:: union`: nothing is read
eqpath_lt_lt_in_none_parens_gt_colons_union : NotDerived (rule qualified_expression_path)
    (punct 60 false (at 0 1) (punct 60 false (at 2 3) (group None (at 4 6) (at 8 10) (group Paren (at 6 7) (at 7 8) end end) (punct 62 true (at 11 12) (punct 58 true (at 12 13) (punct 58 false (at 13 14) (leaf (ident w_union) (at 15 20) end)))))))
unfolding left is_end lookahead_at sees take_token take_lifetime take_mark take_group before rows_for rows run parse_rule
eqpath_lt_lt_in_none_parens_gt_colons_union = not_read qualified_expression_path _ refl

-- `< ! < > :: union`: nothing is read
eqpath_lt_bang_lt_gt_colons_union : NotDerived (rule qualified_expression_path)
    (punct 60 false (at 0 1) (punct 33 false (at 2 3) (punct 60 false (at 4 5) (punct 62 false (at 6 7) (punct 58 true (at 8 9) (punct 58 false (at 9 10) (leaf (ident w_union) (at 11 16) end)))))))
unfolding left is_end lookahead_at sees take_token take_lifetime take_mark take_group before rows_for rows run parse_rule
eqpath_lt_bang_lt_gt_colons_union = not_read qualified_expression_path _ refl

-- `< () as auto > < :: auto`: nothing is read
eqpath_lt_parens_as_auto_gt_lt_colons_auto : NotDerived (rule qualified_expression_path)
    (punct 60 false (at 0 1) (group Paren (at 2 3) (at 3 4) end (leaf (ident w_as) (at 5 7) (leaf (ident w_auto) (at 8 12) (punct 62 false (at 13 14) (punct 60 false (at 15 16) (punct 58 true (at 17 18) (punct 58 false (at 18 19) (leaf (ident w_auto) (at 20 24) end)))))))))
unfolding left is_end lookahead_at sees take_token take_lifetime take_mark take_group before rows_for rows run parse_rule
eqpath_lt_parens_as_auto_gt_lt_colons_auto = not_read qualified_expression_path _ refl

-- `<T>::<U>`: nothing is read
eqpath_lt_T_gt_colons_lt_U_gt : NotDerived (rule qualified_expression_path)
    (punct 60 false (at 0 1) (leaf (ident (84 ∷ [])) (at 1 2) (punct 62 true (at 2 3) (punct 58 true (at 3 4) (punct 58 true (at 4 5) (punct 60 false (at 5 6) (leaf (ident (85 ∷ [])) (at 6 7) (punct 62 false (at 7 8) end))))))))
unfolding left is_end lookahead_at sees take_token take_lifetime take_mark take_group before rows_for rows run parse_rule
eqpath_lt_T_gt_colons_lt_U_gt = not_read qualified_expression_path _ refl

-- `< () >:: Self <` prints `< () > :: Self` and leaves `<`
eqpath_lt_parens_gt_colons_Self_lt : DerivesAs qualified_expression_path
    (punct 60 false (at 0 1) (group Paren (at 2 3) (at 3 4) end (punct 62 true (at 5 6) (punct 58 true (at 6 7) (punct 58 false (at 7 8) (leaf (ident w_Self_type) (at 9 13) (punct 60 false (at 14 15) end)))))))
    (punct 60 false call_site (group Paren call_site call_site end (punct 62 false call_site (punct 58 true call_site (punct 58 false call_site (leaf (ident w_Self_type) call_site end))))))
    (punct 60 false (at 14 15) end)
unfolding left is_end lookahead_at sees take_token take_lifetime take_mark take_group before rows_for rows run parse_rule
eqpath_lt_parens_gt_colons_Self_lt = computed qualified_expression_path _ _ _ refl

-- `<>::a`: nothing is read
eqpath_lt_gt_colons_a : NotDerived (rule qualified_expression_path)
    (punct 60 true (at 0 1) (punct 62 true (at 1 2) (punct 58 true (at 2 3) (punct 58 false (at 3 4) (leaf (ident (97 ∷ [])) (at 4 5) end)))))
unfolding left is_end lookahead_at sees take_token take_lifetime take_mark take_group before rows_for rows run parse_rule
eqpath_lt_gt_colons_a = not_read qualified_expression_path _ refl

-- `<T a>::b`: nothing is read
eqpath_lt_T_a_gt_colons_b : NotDerived (rule qualified_expression_path)
    (punct 60 false (at 0 1) (leaf (ident (84 ∷ [])) (at 1 2) (leaf (ident (97 ∷ [])) (at 3 4) (punct 62 true (at 4 5) (punct 58 true (at 5 6) (punct 58 false (at 6 7) (leaf (ident (98 ∷ [])) (at 7 8) end)))))))
unfolding left is_end lookahead_at sees take_token take_lifetime take_mark take_group before rows_for rows run parse_rule
eqpath_lt_T_a_gt_colons_b = not_read qualified_expression_path _ refl

-- `<T as A as B>::c`: nothing is read
eqpath_lt_T_as_A_as_B_gt_colons_c : NotDerived (rule qualified_expression_path)
    (punct 60 false (at 0 1) (leaf (ident (84 ∷ [])) (at 1 2) (leaf (ident w_as) (at 3 5) (leaf (ident (65 ∷ [])) (at 6 7) (leaf (ident w_as) (at 8 10) (leaf (ident (66 ∷ [])) (at 11 12) (punct 62 true (at 12 13) (punct 58 true (at 13 14) (punct 58 false (at 14 15) (leaf (ident (99 ∷ [])) (at 15 16) end))))))))))
unfolding left is_end lookahead_at sees take_token take_lifetime take_mark take_group before rows_for rows run parse_rule
eqpath_lt_T_as_A_as_B_gt_colons_c = not_read qualified_expression_path _ refl

-- `as self < ! > :: default`: nothing is read
eqpath_as_self_lt_bang_gt_colons_default : NotDerived (rule qualified_expression_path)
    (leaf (ident w_as) (at 0 2) (leaf (ident w_self) (at 3 7) (punct 60 false (at 8 9) (punct 33 false (at 10 11) (punct 62 false (at 12 13) (punct 58 true (at 14 15) (punct 58 false (at 15 16) (leaf (ident w_default) (at 17 24) end))))))))
unfolding left is_end lookahead_at sees take_token take_lifetime take_mark take_group before rows_for rows run parse_rule
eqpath_as_self_lt_bang_gt_colons_default = not_read qualified_expression_path _ refl

-- `< as union ! > :: auto`: nothing is read
eqpath_lt_as_union_bang_gt_colons_auto : NotDerived (rule qualified_expression_path)
    (punct 60 false (at 0 1) (leaf (ident w_as) (at 2 4) (leaf (ident w_union) (at 5 10) (punct 33 false (at 11 12) (punct 62 false (at 13 14) (punct 58 true (at 15 16) (punct 58 false (at 16 17) (leaf (ident w_auto) (at 18 22) end))))))))
unfolding left is_end lookahead_at sees take_token take_lifetime take_mark take_group before rows_for rows run parse_rule
eqpath_lt_as_union_bang_gt_colons_auto = not_read qualified_expression_path _ refl

-- `< ! as super > :: as safe a`: nothing is read
eqpath_lt_bang_as_super_gt_colons_as_safe_a : NotDerived (rule qualified_expression_path)
    (punct 60 false (at 0 1) (punct 33 false (at 2 3) (leaf (ident w_as) (at 4 6) (leaf (ident w_super) (at 7 12) (punct 62 false (at 13 14) (punct 58 true (at 15 16) (punct 58 false (at 16 17) (leaf (ident w_as) (at 18 20) (leaf (ident w_safe) (at 21 25) (leaf (ident (97 ∷ [])) (at 26 27) end))))))))))
unfolding left is_end lookahead_at sees take_token take_lifetime take_mark take_group before rows_for rows run parse_rule
eqpath_lt_bang_as_super_gt_colons_as_safe_a = not_read qualified_expression_path _ refl

-- `< T > :: T as auto` prints `< T > :: T` and leaves `as auto`
eqpath_lt_T_gt_colons_T_as_auto : DerivesAs qualified_expression_path
    (punct 60 false (at 0 1) (leaf (ident (84 ∷ [])) (at 2 3) (punct 62 false (at 4 5) (punct 58 true (at 6 7) (punct 58 false (at 7 8) (leaf (ident (84 ∷ [])) (at 9 10) (leaf (ident w_as) (at 11 13) (leaf (ident w_auto) (at 14 18) end))))))))
    (punct 60 false call_site (leaf (ident (84 ∷ [])) call_site (punct 62 false call_site (punct 58 true call_site (punct 58 false call_site (leaf (ident (84 ∷ [])) call_site end))))))
    (leaf (ident w_as) (at 11 13) (leaf (ident w_auto) (at 14 18) end))
unfolding left is_end lookahead_at sees take_token take_lifetime take_mark take_group before rows_for rows run parse_rule
eqpath_lt_T_gt_colons_T_as_auto = computed qualified_expression_path _ _ _ refl

-- `< () :: auto`: nothing is read
eqpath_lt_parens_colons_auto : NotDerived (rule qualified_expression_path)
    (punct 60 false (at 0 1) (group Paren (at 2 3) (at 3 4) end (punct 58 true (at 5 6) (punct 58 false (at 6 7) (leaf (ident w_auto) (at 8 12) end)))))
unfolding left is_end lookahead_at sees take_token take_lifetime take_mark take_group before rows_for rows run parse_rule
eqpath_lt_parens_colons_auto = not_read qualified_expression_path _ refl

-- `> < !>:: Self :: union`: nothing is read
eqpath_gt_lt_bang_gt_colons_Self_colons_unio : NotDerived (rule qualified_expression_path)
    (punct 62 false (at 0 1) (punct 60 false (at 2 3) (punct 33 true (at 4 5) (punct 62 true (at 5 6) (punct 58 true (at 6 7) (punct 58 false (at 7 8) (leaf (ident w_Self_type) (at 9 13) (punct 58 true (at 14 15) (punct 58 false (at 15 16) (leaf (ident w_union) (at 17 22) end))))))))))
unfolding left is_end lookahead_at sees take_token take_lifetime take_mark take_group before rows_for rows run parse_rule
eqpath_gt_lt_bang_gt_colons_Self_colons_unio = not_read qualified_expression_path _ refl

-- `< > ! > :: crate`: nothing is read
eqpath_lt_gt_bang_gt_colons_crate : NotDerived (rule qualified_expression_path)
    (punct 60 false (at 0 1) (punct 62 false (at 2 3) (punct 33 false (at 4 5) (punct 62 false (at 6 7) (punct 58 true (at 8 9) (punct 58 false (at 9 10) (leaf (ident w_crate) (at 11 16) end)))))))
unfolding left is_end lookahead_at sees take_token take_lifetime take_mark take_group before rows_for rows run parse_rule
eqpath_lt_gt_bang_gt_colons_crate = not_read qualified_expression_path _ refl

-- `< ! > > :: safe`: nothing is read
eqpath_lt_bang_gt_gt_colons_safe : NotDerived (rule qualified_expression_path)
    (punct 60 false (at 0 1) (punct 33 false (at 2 3) (punct 62 false (at 4 5) (punct 62 false (at 6 7) (punct 58 true (at 8 9) (punct 58 false (at 9 10) (leaf (ident w_safe) (at 11 15) end)))))))
unfolding left is_end lookahead_at sees take_token take_lifetime take_mark take_group before rows_for rows run parse_rule
eqpath_lt_bang_gt_gt_colons_safe = not_read qualified_expression_path _ refl

-- `< () > ::> self`: nothing is read
eqpath_lt_parens_gt_colons_gt_self : NotDerived (rule qualified_expression_path)
    (punct 60 false (at 0 1) (group Paren (at 2 3) (at 3 4) end (punct 62 false (at 5 6) (punct 58 true (at 7 8) (punct 58 true (at 8 9) (punct 62 false (at 9 10) (leaf (ident w_self) (at 11 15) end)))))))
unfolding left is_end lookahead_at sees take_token take_lifetime take_mark take_group before rows_for rows run parse_rule
eqpath_lt_parens_gt_colons_gt_self = not_read qualified_expression_path _ refl

-- `< ! > :: safe >` prints `< ! > :: safe` and leaves `>`
eqpath_lt_bang_gt_colons_safe_gt : DerivesAs qualified_expression_path
    (punct 60 false (at 0 1) (punct 33 false (at 2 3) (punct 62 false (at 4 5) (punct 58 true (at 6 7) (punct 58 false (at 7 8) (leaf (ident w_safe) (at 9 13) (punct 62 false (at 14 15) end)))))))
    (punct 60 false call_site (punct 33 false call_site (punct 62 false call_site (punct 58 true call_site (punct 58 false call_site (leaf (ident w_safe) call_site end))))))
    (punct 62 false (at 14 15) end)
unfolding left is_end lookahead_at sees take_token take_lifetime take_mark take_group before rows_for rows run parse_rule
eqpath_lt_bang_gt_colons_safe_gt = computed qualified_expression_path _ _ _ refl

-- `<T> a`: nothing is read
eqpath_lt_T_gt_a : NotDerived (rule qualified_expression_path)
    (punct 60 false (at 0 1) (leaf (ident (84 ∷ [])) (at 1 2) (punct 62 false (at 2 3) (leaf (ident (97 ∷ [])) (at 4 5) end))))
unfolding left is_end lookahead_at sees take_token take_lifetime take_mark take_group before rows_for rows run parse_rule
eqpath_lt_T_gt_a = not_read qualified_expression_path _ refl

-- `:: < ! >:: auto`: nothing is read
eqpath_colons_lt_bang_gt_colons_auto : NotDerived (rule qualified_expression_path)
    (punct 58 true (at 0 1) (punct 58 false (at 1 2) (punct 60 false (at 3 4) (punct 33 false (at 5 6) (punct 62 true (at 7 8) (punct 58 true (at 8 9) (punct 58 false (at 9 10) (leaf (ident w_auto) (at 11 15) end))))))))
unfolding left is_end lookahead_at sees take_token take_lifetime take_mark take_group before rows_for rows run parse_rule
eqpath_colons_lt_bang_gt_colons_auto = not_read qualified_expression_path _ refl

-- `< :: \(auto\) > :: auto`: nothing is read
eqpath_lt_colons_in_none_auto_gt_colons_auto : NotDerived (rule qualified_expression_path)
    (punct 60 false (at 0 1) (punct 58 true (at 2 3) (punct 58 false (at 3 4) (group None (at 5 7) (at 11 13) (leaf (ident w_auto) (at 7 11) end) (punct 62 false (at 14 15) (punct 58 true (at 16 17) (punct 58 false (at 17 18) (leaf (ident w_auto) (at 19 23) end))))))))
unfolding left is_end lookahead_at sees take_token take_lifetime take_mark take_group before rows_for rows run parse_rule
eqpath_lt_colons_in_none_auto_gt_colons_auto = not_read qualified_expression_path _ refl

-- `< () :: >:: auto`: nothing is read
eqpath_lt_parens_colons_gt_colons_auto : NotDerived (rule qualified_expression_path)
    (punct 60 false (at 0 1) (group Paren (at 2 3) (at 3 4) end (punct 58 true (at 5 6) (punct 58 false (at 6 7) (punct 62 true (at 8 9) (punct 58 true (at 9 10) (punct 58 false (at 10 11) (leaf (ident w_auto) (at 12 16) end))))))))
unfolding left is_end lookahead_at sees take_token take_lifetime take_mark take_group before rows_for rows run parse_rule
eqpath_lt_parens_colons_gt_colons_auto = not_read qualified_expression_path _ refl

-- `<T>::::a`: nothing is read
eqpath_lt_T_gt_colons_colons_a : NotDerived (rule qualified_expression_path)
    (punct 60 false (at 0 1) (leaf (ident (84 ∷ [])) (at 1 2) (punct 62 true (at 2 3) (punct 58 true (at 3 4) (punct 58 true (at 4 5) (punct 58 true (at 5 6) (punct 58 false (at 6 7) (leaf (ident (97 ∷ [])) (at 7 8) end))))))))
unfolding left is_end lookahead_at sees take_token take_lifetime take_mark take_group before rows_for rows run parse_rule
eqpath_lt_T_gt_colons_colons_a = not_read qualified_expression_path _ refl

-- `safe < () > :: self`: nothing is read
eqpath_safe_lt_parens_gt_colons_self : NotDerived (rule qualified_expression_path)
    (leaf (ident w_safe) (at 0 4) (punct 60 false (at 5 6) (group Paren (at 7 8) (at 8 9) end (punct 62 false (at 10 11) (punct 58 true (at 12 13) (punct 58 false (at 13 14) (leaf (ident w_self) (at 15 19) end)))))))
unfolding left is_end lookahead_at sees take_token take_lifetime take_mark take_group before rows_for rows run parse_rule
eqpath_safe_lt_parens_gt_colons_self = not_read qualified_expression_path _ refl

-- `<T>::a b` prints `< T > :: a` and leaves `b`
eqpath_lt_T_gt_colons_a_b : DerivesAs qualified_expression_path
    (punct 60 false (at 0 1) (leaf (ident (84 ∷ [])) (at 1 2) (punct 62 true (at 2 3) (punct 58 true (at 3 4) (punct 58 false (at 4 5) (leaf (ident (97 ∷ [])) (at 5 6) (leaf (ident (98 ∷ [])) (at 7 8) end)))))))
    (punct 60 false call_site (leaf (ident (84 ∷ [])) call_site (punct 62 false call_site (punct 58 true call_site (punct 58 false call_site (leaf (ident (97 ∷ [])) call_site end))))))
    (leaf (ident (98 ∷ [])) (at 7 8) end)
unfolding left is_end lookahead_at sees take_token take_lifetime take_mark take_group before rows_for rows run parse_rule
eqpath_lt_T_gt_colons_a_b = computed qualified_expression_path _ _ _ refl

-- `< ! as as self > :: union in`: nothing is read
eqpath_lt_bang_as_as_self_gt_colons_union_in : NotDerived (rule qualified_expression_path)
    (punct 60 false (at 0 1) (punct 33 false (at 2 3) (leaf (ident w_as) (at 4 6) (leaf (ident w_as) (at 7 9) (leaf (ident w_self) (at 10 14) (punct 62 false (at 15 16) (punct 58 true (at 17 18) (punct 58 false (at 18 19) (leaf (ident w_union) (at 20 25) (leaf (ident w_in) (at 26 28) end))))))))))
unfolding left is_end lookahead_at sees take_token take_lifetime take_mark take_group before rows_for rows run parse_rule
eqpath_lt_bang_as_as_self_gt_colons_union_in = not_read qualified_expression_path _ refl

-- `<& () as self as >:: crate`: nothing is read
eqpath_lt_amp_parens_as_self_as_gt_colons_cr : NotDerived (rule qualified_expression_path)
    (punct 60 true (at 0 1) (punct 38 false (at 1 2) (group Paren (at 3 4) (at 4 5) end (leaf (ident w_as) (at 6 8) (leaf (ident w_self) (at 9 13) (leaf (ident w_as) (at 14 16) (punct 62 true (at 17 18) (punct 58 true (at 18 19) (punct 58 false (at 19 20) (leaf (ident w_crate) (at 21 26) end))))))))))
unfolding left is_end lookahead_at sees take_token take_lifetime take_mark take_group before rows_for rows run parse_rule
eqpath_lt_amp_parens_as_self_as_gt_colons_cr = not_read qualified_expression_path _ refl

-- `<T as>::a`: nothing is read
eqpath_lt_T_as_gt_colons_a : NotDerived (rule qualified_expression_path)
    (punct 60 false (at 0 1) (leaf (ident (84 ∷ [])) (at 1 2) (leaf (ident w_as) (at 3 5) (punct 62 true (at 5 6) (punct 58 true (at 6 7) (punct 58 false (at 7 8) (leaf (ident (97 ∷ [])) (at 8 9) end)))))))
unfolding left is_end lookahead_at sees take_token take_lifetime take_mark take_group before rows_for rows run parse_rule
eqpath_lt_T_as_gt_colons_a = not_read qualified_expression_path _ refl

-- `<T as A B>::c`: nothing is read
eqpath_lt_T_as_A_B_gt_colons_c : NotDerived (rule qualified_expression_path)
    (punct 60 false (at 0 1) (leaf (ident (84 ∷ [])) (at 1 2) (leaf (ident w_as) (at 3 5) (leaf (ident (65 ∷ [])) (at 6 7) (leaf (ident (66 ∷ [])) (at 8 9) (punct 62 true (at 9 10) (punct 58 true (at 10 11) (punct 58 false (at 11 12) (leaf (ident (99 ∷ [])) (at 12 13) end)))))))))
unfolding left is_end lookahead_at sees take_token take_lifetime take_mark take_group before rows_for rows run parse_rule
eqpath_lt_T_as_A_B_gt_colons_c = not_read qualified_expression_path _ refl

-- `<T, U>::a`: nothing is read
eqpath_lt_T_comma_U_gt_colons_a : NotDerived (rule qualified_expression_path)
    (punct 60 false (at 0 1) (leaf (ident (84 ∷ [])) (at 1 2) (punct 44 false (at 2 3) (leaf (ident (85 ∷ [])) (at 4 5) (punct 62 true (at 5 6) (punct 58 true (at 6 7) (punct 58 false (at 7 8) (leaf (ident (97 ∷ [])) (at 8 9) end))))))))
unfolding left is_end lookahead_at sees take_token take_lifetime take_mark take_group before rows_for rows run parse_rule
eqpath_lt_T_comma_U_gt_colons_a = not_read qualified_expression_path _ refl

-- `<T as ::A>::b` prints `< T as :: A > :: b`
eqpath_lt_T_as_colons_A_gt_colons_b : DerivesAs qualified_expression_path
    (punct 60 false (at 0 1) (leaf (ident (84 ∷ [])) (at 1 2) (leaf (ident w_as) (at 3 5) (punct 58 true (at 6 7) (punct 58 false (at 7 8) (leaf (ident (65 ∷ [])) (at 8 9) (punct 62 true (at 9 10) (punct 58 true (at 10 11) (punct 58 false (at 11 12) (leaf (ident (98 ∷ [])) (at 12 13) end))))))))))
    (punct 60 false call_site (leaf (ident (84 ∷ [])) call_site (leaf (ident w_as) call_site (punct 58 true call_site (punct 58 false call_site (leaf (ident (65 ∷ [])) call_site (punct 62 false call_site (punct 58 true call_site (punct 58 false call_site (leaf (ident (98 ∷ [])) call_site end))))))))))
    (end)
unfolding left is_end lookahead_at sees take_token take_lifetime take_mark take_group before rows_for rows run parse_rule
eqpath_lt_T_as_colons_A_gt_colons_b = computed qualified_expression_path _ _ _ refl

-- `<T a A>::b`: nothing is read
eqpath_lt_T_a_A_gt_colons_b : NotDerived (rule qualified_expression_path)
    (punct 60 false (at 0 1) (leaf (ident (84 ∷ [])) (at 1 2) (leaf (ident (97 ∷ [])) (at 3 4) (leaf (ident (65 ∷ [])) (at 5 6) (punct 62 true (at 6 7) (punct 58 true (at 7 8) (punct 58 false (at 8 9) (leaf (ident (98 ∷ [])) (at 9 10) end))))))))
unfolding left is_end lookahead_at sees take_token take_lifetime take_mark take_group before rows_for rows run parse_rule
eqpath_lt_T_a_A_gt_colons_b = not_read qualified_expression_path _ refl

-- `<T>:a`: nothing is read
eqpath_lt_T_gt_colon_a : NotDerived (rule qualified_expression_path)
    (punct 60 false (at 0 1) (leaf (ident (84 ∷ [])) (at 1 2) (punct 62 true (at 2 3) (punct 58 false (at 3 4) (leaf (ident (97 ∷ [])) (at 4 5) end)))))
unfolding left is_end lookahead_at sees take_token take_lifetime take_mark take_group before rows_for rows run parse_rule
eqpath_lt_T_gt_colon_a = not_read qualified_expression_path _ refl

-- `< ! > . union`: nothing is read
eqpath_lt_bang_gt_dot_union : NotDerived (rule qualified_expression_path)
    (punct 60 false (at 0 1) (punct 33 false (at 2 3) (punct 62 false (at 4 5) (punct 46 false (at 6 7) (leaf (ident w_union) (at 8 13) end)))))
unfolding left is_end lookahead_at sees take_token take_lifetime take_mark take_group before rows_for rows run parse_rule
eqpath_lt_bang_gt_dot_union = not_read qualified_expression_path _ refl

-- no tokens: nothing is read
path_expr_nothing : NotDerived (rule path_as_expression)
    (end)
unfolding left is_end lookahead_at sees take_token take_lifetime take_mark take_group before rows_for rows run parse_rule
path_expr_nothing = not_read path_as_expression _ refl

-- `a a` prints `a` and leaves `a`
path_expr_a_a : DerivesAs path_as_expression
    (leaf (ident (97 ∷ [])) (at 0 1) (leaf (ident (97 ∷ [])) (at 2 3) end))
    (leaf (ident (97 ∷ [])) call_site end)
    (leaf (ident (97 ∷ [])) (at 2 3) end)
unfolding left is_end lookahead_at sees take_token take_lifetime take_mark take_group before rows_for rows run parse_rule
path_expr_a_a = computed path_as_expression _ _ _ refl

-- `<T>::a <U>::b` prints `< T > :: a` and leaves `< U >:: b`
path_expr_lt_T_gt_colons_a_lt_U_gt_colons_b : DerivesAs path_as_expression
    (punct 60 false (at 0 1) (leaf (ident (84 ∷ [])) (at 1 2) (punct 62 true (at 2 3) (punct 58 true (at 3 4) (punct 58 false (at 4 5) (leaf (ident (97 ∷ [])) (at 5 6) (punct 60 false (at 7 8) (leaf (ident (85 ∷ [])) (at 8 9) (punct 62 true (at 9 10) (punct 58 true (at 10 11) (punct 58 false (at 11 12) (leaf (ident (98 ∷ [])) (at 12 13) end))))))))))))
    (punct 60 false call_site (leaf (ident (84 ∷ [])) call_site (punct 62 false call_site (punct 58 true call_site (punct 58 false call_site (leaf (ident (97 ∷ [])) call_site end))))))
    (punct 60 false (at 7 8) (leaf (ident (85 ∷ [])) (at 8 9) (punct 62 true (at 9 10) (punct 58 true (at 10 11) (punct 58 false (at 11 12) (leaf (ident (98 ∷ [])) (at 12 13) end))))))
unfolding left is_end lookahead_at sees take_token take_lifetime take_mark take_group before rows_for rows run parse_rule
path_expr_lt_T_gt_colons_a_lt_U_gt_colons_b = computed path_as_expression _ _ _ refl

-- `:: T` prints `:: T`
path_expr_colons_T : DerivesAs path_as_expression
    (punct 58 true (at 0 1) (punct 58 false (at 1 2) (leaf (ident (84 ∷ [])) (at 3 4) end)))
    (punct 58 true call_site (punct 58 false call_site (leaf (ident (84 ∷ [])) call_site end)))
    (end)
unfolding left is_end lookahead_at sees take_token take_lifetime take_mark take_group before rows_for rows run parse_rule
path_expr_colons_T = computed path_as_expression _ _ _ refl

-- `!()`: nothing is read
mac_bang_parens : NotDerived (rule macro_invocation)
    (punct 33 false (at 0 1) (group Paren (at 1 2) (at 2 3) end end))
unfolding left is_end lookahead_at sees take_token take_lifetime take_mark take_group before rows_for rows run parse_rule
mac_bang_parens = not_read macro_invocation _ refl

-- `x super ! {break mut}`: nothing is read
mac_x_super_bang_in_brace_break_mut : NotDerived (rule macro_invocation)
    (leaf (ident (120 ∷ [])) (at 0 1) (leaf (ident w_super) (at 2 7) (punct 33 false (at 8 9) (group Brace (at 10 11) (at 20 21) (leaf (ident w_break) (at 11 16) (leaf (ident w_mut) (at 17 20) end)) end))))
unfolding left is_end lookahead_at sees take_token take_lifetime take_mark take_group before rows_for rows run parse_rule
mac_x_super_bang_in_brace_break_mut = not_read macro_invocation _ refl

-- `x ! super (=)`: nothing is read
mac_x_bang_super_in_paren_eq : NotDerived (rule macro_invocation)
    (leaf (ident (120 ∷ [])) (at 0 1) (punct 33 false (at 2 3) (leaf (ident w_super) (at 4 9) (group Paren (at 10 11) (at 12 13) (punct 61 false (at 11 12) end) end))))
unfolding left is_end lookahead_at sees take_token take_lifetime take_mark take_group before rows_for rows run parse_rule
mac_x_bang_super_in_paren_eq = not_read macro_invocation _ refl

-- `a!() b` prints `a ! ()` and leaves `b`
mac_a_bang_parens_b : DerivesAs macro_invocation
    (leaf (ident (97 ∷ [])) (at 0 1) (punct 33 false (at 1 2) (group Paren (at 2 3) (at 3 4) end (leaf (ident (98 ∷ [])) (at 5 6) end))))
    (leaf (ident (97 ∷ [])) call_site (punct 33 false call_site (group Paren call_site call_site end end)))
    (leaf (ident (98 ∷ [])) (at 5 6) end)
unfolding left is_end lookahead_at sees take_token take_lifetime take_mark take_group before rows_for rows run parse_rule
mac_a_bang_parens_b = computed macro_invocation _ _ _ refl

-- `! default ! ()`: nothing is read
mac_bang_default_bang_parens : NotDerived (rule macro_invocation)
    (punct 33 false (at 0 1) (leaf (ident w_default) (at 2 9) (punct 33 false (at 10 11) (group Paren (at 12 13) (at 13 14) end end))))
unfolding left is_end lookahead_at sees take_token take_lifetime take_mark take_group before rows_for rows run parse_rule
mac_bang_default_bang_parens = not_read macro_invocation _ refl

-- `a!![]`: nothing is read
mac_a_bang_bang_brackets : NotDerived (rule macro_invocation)
    (leaf (ident (97 ∷ [])) (at 0 1) (punct 33 true (at 1 2) (punct 33 false (at 2 3) (group Bracket (at 3 4) (at 4 5) end end))))
unfolding left is_end lookahead_at sees take_token take_lifetime take_mark take_group before rows_for rows run parse_rule
mac_a_bang_bang_brackets = not_read macro_invocation _ refl

-- `T ! [] !` prints `T ! []` and leaves `!`
mac_T_bang_brackets_bang : DerivesAs macro_invocation
    (leaf (ident (84 ∷ [])) (at 0 1) (punct 33 false (at 2 3) (group Bracket (at 4 5) (at 5 6) end (punct 33 false (at 7 8) end))))
    (leaf (ident (84 ∷ [])) call_site (punct 33 false call_site (group Bracket call_site call_site end end)))
    (punct 33 false (at 7 8) end)
unfolding left is_end lookahead_at sees take_token take_lifetime take_mark take_group before rows_for rows run parse_rule
mac_T_bang_brackets_bang = computed macro_invocation _ _ _ refl

-- `{} super ! (a)`: nothing is read
mac_braces_super_bang_in_paren_a : NotDerived (rule macro_invocation)
    (group Brace (at 0 1) (at 1 2) end (leaf (ident w_super) (at 3 8) (punct 33 false (at 9 10) (group Paren (at 11 12) (at 13 14) (leaf (ident (97 ∷ [])) (at 12 13) end) end))))
unfolding left is_end lookahead_at sees take_token take_lifetime take_mark take_group before rows_for rows run parse_rule
mac_braces_super_bang_in_paren_a = not_read macro_invocation _ refl

-- `union {} ! [unsafe]`: nothing is read
mac_union_braces_bang_in_bracket_unsafe : NotDerived (rule macro_invocation)
    (leaf (ident w_union) (at 0 5) (group Brace (at 6 7) (at 7 8) end (punct 33 false (at 9 10) (group Bracket (at 11 12) (at 18 19) (leaf (ident w_unsafe) (at 12 18) end) end))))
unfolding left is_end lookahead_at sees take_token take_lifetime take_mark take_group before rows_for rows run parse_rule
mac_union_braces_bang_in_bracket_unsafe = not_read macro_invocation _ refl

-- `a!() ()` prints `a ! ()` and leaves `()`
mac_a_bang_parens_parens : DerivesAs macro_invocation
    (leaf (ident (97 ∷ [])) (at 0 1) (punct 33 false (at 1 2) (group Paren (at 2 3) (at 3 4) end (group Paren (at 5 6) (at 6 7) end end))))
    (leaf (ident (97 ∷ [])) call_site (punct 33 false call_site (group Paren call_site call_site end end)))
    (group Paren (at 5 6) (at 6 7) end end)
unfolding left is_end lookahead_at sees take_token take_lifetime take_mark take_group before rows_for rows run parse_rule
mac_a_bang_parens_parens = computed macro_invocation _ _ _ refl

-- `a![] []` prints `a ! []` and leaves `[]`
mac_a_bang_brackets_brackets : DerivesAs macro_invocation
    (leaf (ident (97 ∷ [])) (at 0 1) (punct 33 false (at 1 2) (group Bracket (at 2 3) (at 3 4) end (group Bracket (at 5 6) (at 6 7) end end))))
    (leaf (ident (97 ∷ [])) call_site (punct 33 false call_site (group Bracket call_site call_site end end)))
    (group Bracket (at 5 6) (at 6 7) end end)
unfolding left is_end lookahead_at sees take_token take_lifetime take_mark take_group before rows_for rows run parse_rule
mac_a_bang_brackets_brackets = computed macro_invocation _ _ _ refl

-- `a!{}{}` prints `a ! {}` and leaves `{}`
mac_a_bang_braces_braces : DerivesAs macro_invocation
    (leaf (ident (97 ∷ [])) (at 0 1) (punct 33 false (at 1 2) (group Brace (at 2 3) (at 3 4) end (group Brace (at 4 5) (at 5 6) end end))))
    (leaf (ident (97 ∷ [])) call_site (punct 33 false call_site (group Brace call_site call_site end end)))
    (group Brace (at 4 5) (at 5 6) end end)
unfolding left is_end lookahead_at sees take_token take_lifetime take_mark take_group before rows_for rows run parse_rule
mac_a_bang_braces_braces = computed macro_invocation _ _ _ refl

-- `::a!{}` prints `:: a ! {}`
mac_colons_a_bang_braces : DerivesAs macro_invocation
    (punct 58 true (at 0 1) (punct 58 false (at 1 2) (leaf (ident (97 ∷ [])) (at 2 3) (punct 33 false (at 3 4) (group Brace (at 4 5) (at 5 6) end end)))))
    (punct 58 true call_site (punct 58 false call_site (leaf (ident (97 ∷ [])) call_site (punct 33 false call_site (group Brace call_site call_site end end)))))
    (end)
unfolding left is_end lookahead_at sees take_token take_lifetime take_mark take_group before rows_for rows run parse_rule
mac_colons_a_bang_braces = computed macro_invocation _ _ _ refl

-- `1`: nothing is read
pat_n1 : NotDerived (rule pattern)
    (leaf (literal Int (49 ∷ [])) (at 0 1) end)
unfolding left is_end lookahead_at sees take_token take_lifetime take_mark take_group before rows_for rows run parse_rule
pat_n1 = not_read pattern _ refl

-- `_ _` prints `_` and leaves `_`
pat_underscore_underscore : DerivesAs pattern
    (leaf (ident w_underscore) (at 0 1) (leaf (ident w_underscore) (at 2 3) end))
    (leaf (ident w_underscore) call_site end)
    (leaf (ident w_underscore) (at 2 3) end)
unfolding left is_end lookahead_at sees take_token take_lifetime take_mark take_group before rows_for rows run parse_rule
pat_underscore_underscore = computed pattern _ _ _ refl

-- `() ()` prints `()` and leaves `()`
pat_parens_parens : DerivesAs pattern
    (group Paren (at 0 1) (at 1 2) end (group Paren (at 3 4) (at 4 5) end end))
    (group Paren call_site call_site end end)
    (group Paren (at 3 4) (at 4 5) end end)
unfolding left is_end lookahead_at sees take_token take_lifetime take_mark take_group before rows_for rows run parse_rule
pat_parens_parens = computed pattern _ _ _ refl

-- `(_)` prints `(_)`
pat_in_paren_underscore : DerivesAs pattern
    (group Paren (at 0 1) (at 2 3) (leaf (ident w_underscore) (at 1 2) end) end)
    (group Paren call_site call_site (leaf (ident w_underscore) call_site end) end)
    (end)
unfolding left is_end lookahead_at sees take_token take_lifetime take_mark take_group before rows_for rows run parse_rule
pat_in_paren_underscore = computed pattern _ _ _ refl

-- `(a b)`: nothing is read
pat_in_paren_a_b : NotDerived (rule pattern)
    (group Paren (at 0 1) (at 4 5) (leaf (ident (97 ∷ [])) (at 1 2) (leaf (ident (98 ∷ [])) (at 3 4) end)) end)
unfolding left is_end lookahead_at sees take_token take_lifetime take_mark take_group before rows_for rows run parse_rule
pat_in_paren_a_b = not_read pattern _ refl

-- `crate x` prints `crate` and leaves `x`
pat_crate_x : DerivesAs pattern
    (leaf (ident w_crate) (at 0 5) (leaf (ident (120 ∷ [])) (at 6 7) end))
    (leaf (ident w_crate) call_site end)
    (leaf (ident (120 ∷ [])) (at 6 7) end)
unfolding left is_end lookahead_at sees take_token take_lifetime take_mark take_group before rows_for rows run parse_rule
pat_crate_x = computed pattern _ _ _ refl

-- `Self () ()` prints `Self ()` and leaves `()`
pat_Self_parens_parens : DerivesAs pattern
    (leaf (ident w_Self_type) (at 0 4) (group Paren (at 5 6) (at 6 7) end (group Paren (at 8 9) (at 9 10) end end)))
    (leaf (ident w_Self_type) call_site (group Paren call_site call_site end end))
    (group Paren (at 8 9) (at 9 10) end end)
unfolding left is_end lookahead_at sees take_token take_lifetime take_mark take_group before rows_for rows run parse_rule
pat_Self_parens_parens = computed pattern _ _ _ refl

-- `a(b c)`: nothing is read
pat_a_in_paren_b_c : NotDerived (rule pattern)
    (leaf (ident (97 ∷ [])) (at 0 1) (group Paren (at 1 2) (at 5 6) (leaf (ident (98 ∷ [])) (at 2 3) (leaf (ident (99 ∷ [])) (at 4 5) end)) end))
unfolding left is_end lookahead_at sees take_token take_lifetime take_mark take_group before rows_for rows run parse_rule
pat_a_in_paren_b_c = not_read pattern _ refl

-- `mut ref a`: nothing is read
pat_mut_ref_a : NotDerived (rule pattern)
    (leaf (ident w_mut) (at 0 3) (leaf (ident w_ref) (at 4 7) (leaf (ident (97 ∷ [])) (at 8 9) end)))
unfolding left is_end lookahead_at sees take_token take_lifetime take_mark take_group before rows_for rows run parse_rule
pat_mut_ref_a = not_read pattern _ refl

-- `ref ref a`: nothing is read
pat_ref_ref_a : NotDerived (rule pattern)
    (leaf (ident w_ref) (at 0 3) (leaf (ident w_ref) (at 4 7) (leaf (ident (97 ∷ [])) (at 8 9) end)))
unfolding left is_end lookahead_at sees take_token take_lifetime take_mark take_group before rows_for rows run parse_rule
pat_ref_ref_a = not_read pattern _ refl

-- `mut a ref` prints `mut a` and leaves `ref`
pat_mut_a_ref : DerivesAs pattern
    (leaf (ident w_mut) (at 0 3) (leaf (ident (97 ∷ [])) (at 4 5) (leaf (ident w_ref) (at 6 9) end)))
    (leaf (ident w_mut) call_site (leaf (ident (97 ∷ [])) call_site end))
    (leaf (ident w_ref) (at 6 9) end)
unfolding left is_end lookahead_at sees take_token take_lifetime take_mark take_group before rows_for rows run parse_rule
pat_mut_a_ref = computed pattern _ _ _ refl

-- `mut mut a`: nothing is read
pat_mut_mut_a : NotDerived (rule pattern)
    (leaf (ident w_mut) (at 0 3) (leaf (ident w_mut) (at 4 7) (leaf (ident (97 ∷ [])) (at 8 9) end)))
unfolding left is_end lookahead_at sees take_token take_lifetime take_mark take_group before rows_for rows run parse_rule
pat_mut_mut_a = not_read pattern _ refl

-- `ref a mut` prints `ref a` and leaves `mut`
pat_ref_a_mut : DerivesAs pattern
    (leaf (ident w_ref) (at 0 3) (leaf (ident (97 ∷ [])) (at 4 5) (leaf (ident w_mut) (at 6 9) end)))
    (leaf (ident w_ref) call_site (leaf (ident (97 ∷ [])) call_site end))
    (leaf (ident w_mut) (at 6 9) end)
unfolding left is_end lookahead_at sees take_token take_lifetime take_mark take_group before rows_for rows run parse_rule
pat_ref_a_mut = computed pattern _ _ _ refl

-- `ref a b` prints `ref a` and leaves `b`
pat_ref_a_b : DerivesAs pattern
    (leaf (ident w_ref) (at 0 3) (leaf (ident (97 ∷ [])) (at 4 5) (leaf (ident (98 ∷ [])) (at 6 7) end)))
    (leaf (ident w_ref) call_site (leaf (ident (97 ∷ [])) call_site end))
    (leaf (ident (98 ∷ [])) (at 6 7) end)
unfolding left is_end lookahead_at sees take_token take_lifetime take_mark take_group before rows_for rows run parse_rule
pat_ref_a_b = computed pattern _ _ _ refl

-- `::a` prints `:: a`
pat_colons_a : DerivesAs pattern
    (punct 58 true (at 0 1) (punct 58 false (at 1 2) (leaf (ident (97 ∷ [])) (at 2 3) end)))
    (punct 58 true call_site (punct 58 false call_site (leaf (ident (97 ∷ [])) call_site end)))
    (end)
unfolding left is_end lookahead_at sees take_token take_lifetime take_mark take_group before rows_for rows run parse_rule
pat_colons_a = computed pattern _ _ _ refl

-- `< T > :: a` prints `< T > :: a`
pat_lt_T_gt_colons_a : DerivesAs pattern
    (punct 60 false (at 0 1) (leaf (ident (84 ∷ [])) (at 2 3) (punct 62 false (at 4 5) (punct 58 true (at 6 7) (punct 58 false (at 7 8) (leaf (ident (97 ∷ [])) (at 9 10) end))))))
    (punct 60 false call_site (leaf (ident (84 ∷ [])) call_site (punct 62 false call_site (punct 58 true call_site (punct 58 false call_site (leaf (ident (97 ∷ [])) call_site end))))))
    (end)
unfolding left is_end lookahead_at sees take_token take_lifetime take_mark take_group before rows_for rows run parse_rule
pat_lt_T_gt_colons_a = computed pattern _ _ _ refl

-- `super` prints `super`
pat_super : DerivesAs pattern
    (leaf (ident w_super) (at 0 5) end)
    (leaf (ident w_super) call_site end)
    (end)
unfolding left is_end lookahead_at sees take_token take_lifetime take_mark take_group before rows_for rows run parse_rule
pat_super = computed pattern _ _ _ refl

-- `self::a` prints `self :: a`
pat_self_colons_a : DerivesAs pattern
    (leaf (ident w_self) (at 0 4) (punct 58 true (at 4 5) (punct 58 false (at 5 6) (leaf (ident (97 ∷ [])) (at 6 7) end))))
    (leaf (ident w_self) call_site (punct 58 true call_site (punct 58 false call_site (leaf (ident (97 ∷ [])) call_site end))))
    (end)
unfolding left is_end lookahead_at sees take_token take_lifetime take_mark take_group before rows_for rows run parse_rule
pat_self_colons_a = computed pattern _ _ _ refl

-- `self`: nothing is read
pat_self : NotDerived (rule pattern)
    (leaf (ident w_self) (at 0 4) end)
unfolding left is_end lookahead_at sees take_token take_lifetime take_mark take_group before rows_for rows run parse_rule
pat_self = not_read pattern _ refl

-- `a::b` prints `a :: b`
pat_a_colons_b : DerivesAs pattern
    (leaf (ident (97 ∷ [])) (at 0 1) (punct 58 true (at 1 2) (punct 58 false (at 2 3) (leaf (ident (98 ∷ [])) (at 3 4) end))))
    (leaf (ident (97 ∷ [])) call_site (punct 58 true call_site (punct 58 false call_site (leaf (ident (98 ∷ [])) call_site end))))
    (end)
unfolding left is_end lookahead_at sees take_token take_lifetime take_mark take_group before rows_for rows run parse_rule
pat_a_colons_b = computed pattern _ _ _ refl

-- `Self {}` prints `Self` and leaves `{}`
pat_Self_braces : DerivesAs pattern
    (leaf (ident w_Self_type) (at 0 4) (group Brace (at 5 6) (at 6 7) end end))
    (leaf (ident w_Self_type) call_site end)
    (group Brace (at 5 6) (at 6 7) end end)
unfolding left is_end lookahead_at sees take_token take_lifetime take_mark take_group before rows_for rows run parse_rule
pat_Self_braces = computed pattern _ _ _ refl

-- `Self []` prints `Self` and leaves `[]`
pat_Self_brackets : DerivesAs pattern
    (leaf (ident w_Self_type) (at 0 4) (group Bracket (at 5 6) (at 6 7) end end))
    (leaf (ident w_Self_type) call_site end)
    (group Bracket (at 5 6) (at 6 7) end end)
unfolding left is_end lookahead_at sees take_token take_lifetime take_mark take_group before rows_for rows run parse_rule
pat_Self_brackets = computed pattern _ _ _ refl

-- `a(b), c` prints `a (b)` and leaves `, c`
pat_a_in_paren_b_comma_c : DerivesAs pattern
    (leaf (ident (97 ∷ [])) (at 0 1) (group Paren (at 1 2) (at 3 4) (leaf (ident (98 ∷ [])) (at 2 3) end) (punct 44 false (at 4 5) (leaf (ident (99 ∷ [])) (at 6 7) end))))
    (leaf (ident (97 ∷ [])) call_site (group Paren call_site call_site (leaf (ident (98 ∷ [])) call_site end) end))
    (punct 44 false (at 4 5) (leaf (ident (99 ∷ [])) (at 6 7) end))
unfolding left is_end lookahead_at sees take_token take_lifetime take_mark take_group before rows_for rows run parse_rule
pat_a_in_paren_b_comma_c = computed pattern _ _ _ refl

-- `safe :` prints `safe` and leaves `:`
pat_safe_colon : DerivesAs pattern
    (leaf (ident w_safe) (at 0 4) (punct 58 false (at 5 6) end))
    (leaf (ident w_safe) call_site end)
    (punct 58 false (at 5 6) end)
unfolding left is_end lookahead_at sees take_token take_lifetime take_mark take_group before rows_for rows run parse_rule
pat_safe_colon = computed pattern _ _ _ refl

-- `ref _ union`: nothing is read
pat_ref_underscore_union : NotDerived (rule pattern)
    (leaf (ident w_ref) (at 0 3) (leaf (ident w_underscore) (at 4 5) (leaf (ident w_union) (at 6 11) end)))
unfolding left is_end lookahead_at sees take_token take_lifetime take_mark take_group before rows_for rows run parse_rule
pat_ref_underscore_union = not_read pattern _ refl

-- `mut self`: nothing is read
pat_mut_self : NotDerived (rule pattern)
    (leaf (ident w_mut) (at 0 3) (leaf (ident w_self) (at 4 8) end))
unfolding left is_end lookahead_at sees take_token take_lifetime take_mark take_group before rows_for rows run parse_rule
pat_mut_self = not_read pattern _ refl

-- `ref Self`: nothing is read
pat_ref_Self : NotDerived (rule pattern)
    (leaf (ident w_ref) (at 0 3) (leaf (ident w_Self_type) (at 4 8) end))
unfolding left is_end lookahead_at sees take_token take_lifetime take_mark take_group before rows_for rows run parse_rule
pat_ref_Self = not_read pattern _ refl

-- `ref super`: nothing is read
pat_ref_super : NotDerived (rule pattern)
    (leaf (ident w_ref) (at 0 3) (leaf (ident w_super) (at 4 9) end))
unfolding left is_end lookahead_at sees take_token take_lifetime take_mark take_group before rows_for rows run parse_rule
pat_ref_super = not_read pattern _ refl

-- `ref crate`: nothing is read
pat_ref_crate : NotDerived (rule pattern)
    (leaf (ident w_ref) (at 0 3) (leaf (ident w_crate) (at 4 9) end))
unfolding left is_end lookahead_at sees take_token take_lifetime take_mark take_group before rows_for rows run parse_rule
pat_ref_crate = not_read pattern _ refl

-- `ref fn`: nothing is read
pat_ref_fn : NotDerived (rule pattern)
    (leaf (ident w_ref) (at 0 3) (leaf (ident w_fn) (at 4 6) end))
unfolding left is_end lookahead_at sees take_token take_lifetime take_mark take_group before rows_for rows run parse_rule
pat_ref_fn = not_read pattern _ refl

-- `ref union` prints `ref union`
pat_ref_union : DerivesAs pattern
    (leaf (ident w_ref) (at 0 3) (leaf (ident w_union) (at 4 9) end))
    (leaf (ident w_ref) call_site (leaf (ident w_union) call_site end))
    (end)
unfolding left is_end lookahead_at sees take_token take_lifetime take_mark take_group before rows_for rows run parse_rule
pat_ref_union = computed pattern _ _ _ refl

-- `ref auto` prints `ref auto`
pat_ref_auto : DerivesAs pattern
    (leaf (ident w_ref) (at 0 3) (leaf (ident w_auto) (at 4 8) end))
    (leaf (ident w_ref) call_site (leaf (ident w_auto) call_site end))
    (end)
unfolding left is_end lookahead_at sees take_token take_lifetime take_mark take_group before rows_for rows run parse_rule
pat_ref_auto = computed pattern _ _ _ refl

-- `mut default` prints `mut default`
pat_mut_default : DerivesAs pattern
    (leaf (ident w_mut) (at 0 3) (leaf (ident w_default) (at 4 11) end))
    (leaf (ident w_mut) call_site (leaf (ident w_default) call_site end))
    (end)
unfolding left is_end lookahead_at sees take_token take_lifetime take_mark take_group before rows_for rows run parse_rule
pat_mut_default = computed pattern _ _ _ refl

-- `mut safe` prints `mut safe`
pat_mut_safe : DerivesAs pattern
    (leaf (ident w_mut) (at 0 3) (leaf (ident w_safe) (at 4 8) end))
    (leaf (ident w_mut) call_site (leaf (ident w_safe) call_site end))
    (end)
unfolding left is_end lookahead_at sees take_token take_lifetime take_mark take_group before rows_for rows run parse_rule
pat_mut_safe = computed pattern _ _ _ refl

-- `ref 1`: nothing is read
pat_ref_n1 : NotDerived (rule pattern)
    (leaf (ident w_ref) (at 0 3) (leaf (literal Int (49 ∷ [])) (at 4 5) end))
unfolding left is_end lookahead_at sees take_token take_lifetime take_mark take_group before rows_for rows run parse_rule
pat_ref_n1 = not_read pattern _ refl

-- `fn`: nothing is read
pat_fn : NotDerived (rule pattern)
    (leaf (ident w_fn) (at 0 2) end)
unfolding left is_end lookahead_at sees take_token take_lifetime take_mark take_group before rows_for rows run parse_rule
pat_fn = not_read pattern _ refl

-- `union` prints `union`
pat_union : DerivesAs pattern
    (leaf (ident w_union) (at 0 5) end)
    (leaf (ident w_union) call_site end)
    (end)
unfolding left is_end lookahead_at sees take_token take_lifetime take_mark take_group before rows_for rows run parse_rule
pat_union = computed pattern _ _ _ refl

-- `auto` prints `auto`
pat_auto : DerivesAs pattern
    (leaf (ident w_auto) (at 0 4) end)
    (leaf (ident w_auto) call_site end)
    (end)
unfolding left is_end lookahead_at sees take_token take_lifetime take_mark take_group before rows_for rows run parse_rule
pat_auto = computed pattern _ _ _ refl

-- `default` prints `default`
pat_default : DerivesAs pattern
    (leaf (ident w_default) (at 0 7) end)
    (leaf (ident w_default) call_site end)
    (end)
unfolding left is_end lookahead_at sees take_token take_lifetime take_mark take_group before rows_for rows run parse_rule
pat_default = computed pattern _ _ _ refl

-- `_;` prints `_` and leaves `;`
pats_underscore_semi : DerivesAs patterns
    (leaf (ident w_underscore) (at 0 1) (punct 59 false (at 1 2) end))
    (leaf (ident w_underscore) call_site end)
    (punct 59 false (at 1 2) end)
unfolding left is_end lookahead_at sees take_token take_lifetime take_mark take_group before rows_for rows run parse_rule
pats_underscore_semi = computed patterns _ _ _ refl

-- `T ,` prints `T ,`
pats_T_comma : DerivesAs patterns
    (leaf (ident (84 ∷ [])) (at 0 1) (punct 44 false (at 2 3) end))
    (leaf (ident (84 ∷ [])) call_site (punct 44 false call_site end))
    (end)
unfolding left is_end lookahead_at sees take_token take_lifetime take_mark take_group before rows_for rows run parse_rule
pats_T_comma = computed patterns _ _ _ refl

-- `, c d`: nothing is read
pats_comma_c_d : NotDerived (rule patterns)
    (punct 44 false (at 0 1) (leaf (ident (99 ∷ [])) (at 2 3) (leaf (ident (100 ∷ [])) (at 4 5) end)))
unfolding left is_end lookahead_at sees take_token take_lifetime take_mark take_group before rows_for rows run parse_rule
pats_comma_c_d = not_read patterns _ refl

-- `a,,`: nothing is read
pats_a_comma_comma : NotDerived (rule patterns)
    (leaf (ident (97 ∷ [])) (at 0 1) (punct 44 true (at 1 2) (punct 44 false (at 2 3) end)))
unfolding left is_end lookahead_at sees take_token take_lifetime take_mark take_group before rows_for rows run parse_rule
pats_a_comma_comma = not_read patterns _ refl

-- `_, c d` prints `_ , c` and leaves `d`
pats_underscore_comma_c_d : DerivesAs patterns
    (leaf (ident w_underscore) (at 0 1) (punct 44 false (at 1 2) (leaf (ident (99 ∷ [])) (at 3 4) (leaf (ident (100 ∷ [])) (at 5 6) end))))
    (leaf (ident w_underscore) call_site (punct 44 false call_site (leaf (ident (99 ∷ [])) call_site end)))
    (leaf (ident (100 ∷ [])) (at 5 6) end)
unfolding left is_end lookahead_at sees take_token take_lifetime take_mark take_group before rows_for rows run parse_rule
pats_underscore_comma_c_d = computed patterns _ _ _ refl

-- `T` prints `T`
pats_T : DerivesAs patterns
    (leaf (ident (84 ∷ [])) (at 0 1) end)
    (leaf (ident (84 ∷ [])) call_site end)
    (end)
unfolding left is_end lookahead_at sees take_token take_lifetime take_mark take_group before rows_for rows run parse_rule
pats_T = computed patterns _ _ _ refl
