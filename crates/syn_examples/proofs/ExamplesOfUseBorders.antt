-- Written by tools/grammar.py from specs/Table.antt; edits are lost.
-- Worked examples of borders of uses, extern crates and macros, from tools/examples.txt: what each rule reads, prints and refuses. The checker computes each.
use Rattle.std.proofs.Common.{true, false, [], ◌∷◌, refl}
use Rattle.syn_grammar.specs.Words.{w_underscore, w_as, w_crate, w_extern, w_fn, w_in, w_pub, w_Self_type, w_self, w_struct, w_super, w_try, w_use, w_union, w_auto, w_default, w_safe}
use Rattle.syn_grammar.specs.Tokens.{call_site, Paren, Brace, Bracket, None, Int, ident, literal, end, leaf, punct, group}
use Rattle.syn_grammar.specs.Rules.{crate_macro, brace_macro, extern_crate, extern_crate_rest, use_tree, use_trees, rooted_tree, rooted_trees, use_item, use_item_rest, macro_end, macro_item, macro_item_rest, macro_as_item_rest, member_macro}
use Rattle.syn_grammar.specs.Grammar.{rule}
use Rattle.syn_grammar.specs.Take.{left, is_end, lookahead_at, sees, take_token, take_lifetime, take_mark, take_group, before}
use Rattle.syn_grammar.specs.Run.{rows_for, rows, run, parse_rule}
use Rattle.syn_grammar.specs.Promises.{NotDerived}
use Rattle.syn_grammar.proofs.Shown.{at, DerivesAs, computed, not_read}

-- `! {#}`: nothing is read
crate_macro_border_1 : NotDerived (rule crate_macro)
    (punct 33 false (at 0 1) (group Brace (at 2 3) (at 4 5) (punct 35 false (at 3 4) end) end))
unfolding left is_end lookahead_at sees take_token take_lifetime take_mark take_group before rows_for rows run parse_rule
crate_macro_border_1 = not_read crate_macro _ refl

-- `! {!}`: nothing is read
brace_macro_border_1 : NotDerived (rule brace_macro)
    (punct 33 false (at 0 1) (group Brace (at 2 3) (at 4 5) (punct 33 false (at 3 4) end) end))
unfolding left is_end lookahead_at sees take_token take_lifetime take_mark take_group before rows_for rows run parse_rule
brace_macro_border_1 = not_read brace_macro _ refl

-- `Self {*}`: nothing is read
brace_macro_border_2 : NotDerived (rule brace_macro)
    (leaf (ident w_Self_type) (at 0 4) (group Brace (at 5 6) (at 7 8) (punct 42 false (at 6 7) end) end))
unfolding left is_end lookahead_at sees take_token take_lifetime take_mark take_group before rows_for rows run parse_rule
brace_macro_border_2 = not_read brace_macro _ refl

-- `!crate ! {^}`: nothing is read
brace_macro_border_3 : NotDerived (rule brace_macro)
    (punct 33 false (at 0 1) (leaf (ident w_crate) (at 1 6) (punct 33 false (at 7 8) (group Brace (at 9 10) (at 11 12) (punct 94 false (at 10 11) end) end))))
unfolding left is_end lookahead_at sees take_token take_lifetime take_mark take_group before rows_for rows run parse_rule
brace_macro_border_3 = not_read brace_macro _ refl

-- `Self ! ! {*}`: nothing is read
brace_macro_border_4 : NotDerived (rule brace_macro)
    (leaf (ident w_Self_type) (at 0 4) (punct 33 false (at 5 6) (punct 33 false (at 7 8) (group Brace (at 9 10) (at 11 12) (punct 42 false (at 10 11) end) end))))
unfolding left is_end lookahead_at sees take_token take_lifetime take_mark take_group before rows_for rows run parse_rule
brace_macro_border_4 = not_read brace_macro _ refl

-- `Self ! b {*}`: nothing is read
brace_macro_border_5 : NotDerived (rule brace_macro)
    (leaf (ident w_Self_type) (at 0 4) (punct 33 false (at 5 6) (leaf (ident (98 ∷ [])) (at 7 8) (group Brace (at 9 10) (at 11 12) (punct 42 false (at 10 11) end) end))))
unfolding left is_end lookahead_at sees take_token take_lifetime take_mark take_group before rows_for rows run parse_rule
brace_macro_border_5 = not_read brace_macro _ refl

-- `:: crate !{&}` prints `:: crate ! {&}`
brace_macro_border_6 : DerivesAs brace_macro
    (punct 58 true (at 0 1) (punct 58 false (at 1 2) (leaf (ident w_crate) (at 3 8) (punct 33 false (at 9 10) (group Brace (at 10 11) (at 12 13) (punct 38 false (at 11 12) end) end)))))
    (punct 58 true call_site (punct 58 false call_site (leaf (ident w_crate) call_site (punct 33 false call_site (group Brace call_site call_site (punct 38 false call_site end) end)))))
    (end)
unfolding left is_end lookahead_at sees take_token take_lifetime take_mark take_group before rows_for rows run parse_rule
brace_macro_border_6 = computed brace_macro _ _ _ refl

-- `Self Self ! {*}`: nothing is read
brace_macro_border_7 : NotDerived (rule brace_macro)
    (leaf (ident w_Self_type) (at 0 4) (leaf (ident w_Self_type) (at 5 9) (punct 33 false (at 10 11) (group Brace (at 12 13) (at 14 15) (punct 42 false (at 13 14) end) end))))
unfolding left is_end lookahead_at sees take_token take_lifetime take_mark take_group before rows_for rows run parse_rule
brace_macro_border_7 = not_read brace_macro _ refl

-- `crate auto ;`: nothing is read
extern_crate_border_1 : NotDerived (rule extern_crate)
    (leaf (ident w_crate) (at 0 5) (leaf (ident w_auto) (at 6 10) (punct 59 false (at 11 12) end)))
unfolding left is_end lookahead_at sees take_token take_lifetime take_mark take_group before rows_for rows run parse_rule
extern_crate_border_1 = not_read extern_crate _ refl

-- `extern crate auto ; pub` prints `extern crate auto ;` and leaves `pub`
extern_crate_border_2 : DerivesAs extern_crate
    (leaf (ident w_extern) (at 0 6) (leaf (ident w_crate) (at 7 12) (leaf (ident w_auto) (at 13 17) (punct 59 false (at 18 19) (leaf (ident w_pub) (at 20 23) end)))))
    (leaf (ident w_extern) call_site (leaf (ident w_crate) call_site (leaf (ident w_auto) call_site (punct 59 false call_site end))))
    (leaf (ident w_pub) (at 20 23) end)
unfolding left is_end lookahead_at sees take_token take_lifetime take_mark take_group before rows_for rows run parse_rule
extern_crate_border_2 = computed extern_crate _ _ _ refl

-- `extern crate auto ; # [c]` prints `extern crate auto ;` and leaves `# [c]`
extern_crate_border_3 : DerivesAs extern_crate
    (leaf (ident w_extern) (at 0 6) (leaf (ident w_crate) (at 7 12) (leaf (ident w_auto) (at 13 17) (punct 59 false (at 18 19) (punct 35 false (at 20 21) (group Bracket (at 22 23) (at 24 25) (leaf (ident (99 ∷ [])) (at 23 24) end) end))))))
    (leaf (ident w_extern) call_site (leaf (ident w_crate) call_site (leaf (ident w_auto) call_site (punct 59 false call_site end))))
    (punct 35 false (at 20 21) (group Bracket (at 22 23) (at 24 25) (leaf (ident (99 ∷ [])) (at 23 24) end) end))
unfolding left is_end lookahead_at sees take_token take_lifetime take_mark take_group before rows_for rows run parse_rule
extern_crate_border_3 = computed extern_crate _ _ _ refl

-- `crate a ;`: nothing is read
extern_crate_rest_border_1 : NotDerived (rule extern_crate_rest)
    (leaf (ident w_crate) (at 0 5) (leaf (ident (97 ∷ [])) (at 6 7) (punct 59 false (at 8 9) end)))
unfolding left is_end lookahead_at sees take_token take_lifetime take_mark take_group before rows_for rows run parse_rule
extern_crate_rest_border_1 = not_read extern_crate_rest _ refl

-- `extern a ;`: nothing is read
extern_crate_rest_border_2 : NotDerived (rule extern_crate_rest)
    (leaf (ident w_extern) (at 0 6) (leaf (ident (97 ∷ [])) (at 7 8) (punct 59 false (at 9 10) end)))
unfolding left is_end lookahead_at sees take_token take_lifetime take_mark take_group before rows_for rows run parse_rule
extern_crate_rest_border_2 = not_read extern_crate_rest _ refl

-- `as crate auto ;`: nothing is read
extern_crate_rest_border_3 : NotDerived (rule extern_crate_rest)
    (leaf (ident w_as) (at 0 2) (leaf (ident w_crate) (at 3 8) (leaf (ident w_auto) (at 9 13) (punct 59 false (at 14 15) end))))
unfolding left is_end lookahead_at sees take_token take_lifetime take_mark take_group before rows_for rows run parse_rule
extern_crate_rest_border_3 = not_read extern_crate_rest _ refl

-- `crate crate a ;`: nothing is read
extern_crate_rest_border_4 : NotDerived (rule extern_crate_rest)
    (leaf (ident w_crate) (at 0 5) (leaf (ident w_crate) (at 6 11) (leaf (ident (97 ∷ [])) (at 12 13) (punct 59 false (at 14 15) end))))
unfolding left is_end lookahead_at sees take_token take_lifetime take_mark take_group before rows_for rows run parse_rule
extern_crate_rest_border_4 = not_read extern_crate_rest _ refl

-- `extern crate 1 ;`: nothing is read
extern_crate_rest_border_5 : NotDerived (rule extern_crate_rest)
    (leaf (ident w_extern) (at 0 6) (leaf (ident w_crate) (at 7 12) (leaf (literal Int (49 ∷ [])) (at 13 14) (punct 59 false (at 15 16) end))))
unfolding left is_end lookahead_at sees take_token take_lifetime take_mark take_group before rows_for rows run parse_rule
extern_crate_rest_border_5 = not_read extern_crate_rest _ refl

-- `extern crate _ ;`: nothing is read
extern_crate_rest_border_6 : NotDerived (rule extern_crate_rest)
    (leaf (ident w_extern) (at 0 6) (leaf (ident w_crate) (at 7 12) (leaf (ident w_underscore) (at 13 14) (punct 59 false (at 15 16) end))))
unfolding left is_end lookahead_at sees take_token take_lifetime take_mark take_group before rows_for rows run parse_rule
extern_crate_rest_border_6 = not_read extern_crate_rest _ refl

-- `extern crate a ,`: nothing is read
extern_crate_rest_border_7 : NotDerived (rule extern_crate_rest)
    (leaf (ident w_extern) (at 0 6) (leaf (ident w_crate) (at 7 12) (leaf (ident (97 ∷ [])) (at 13 14) (punct 44 false (at 15 16) end))))
unfolding left is_end lookahead_at sees take_token take_lifetime take_mark take_group before rows_for rows run parse_rule
extern_crate_rest_border_7 = not_read extern_crate_rest _ refl

-- `extern crate as ;`: nothing is read
extern_crate_rest_border_8 : NotDerived (rule extern_crate_rest)
    (leaf (ident w_extern) (at 0 6) (leaf (ident w_crate) (at 7 12) (leaf (ident w_as) (at 13 15) (punct 59 false (at 16 17) end))))
unfolding left is_end lookahead_at sees take_token take_lifetime take_mark take_group before rows_for rows run parse_rule
extern_crate_rest_border_8 = not_read extern_crate_rest _ refl

-- `extern crate fn ;`: nothing is read
extern_crate_rest_border_9 : NotDerived (rule extern_crate_rest)
    (leaf (ident w_extern) (at 0 6) (leaf (ident w_crate) (at 7 12) (leaf (ident w_fn) (at 13 15) (punct 59 false (at 16 17) end))))
unfolding left is_end lookahead_at sees take_token take_lifetime take_mark take_group before rows_for rows run parse_rule
extern_crate_rest_border_9 = not_read extern_crate_rest _ refl

-- `; extern crate a ;`: nothing is read
extern_crate_rest_border_10 : NotDerived (rule extern_crate_rest)
    (punct 59 false (at 0 1) (leaf (ident w_extern) (at 2 8) (leaf (ident w_crate) (at 9 14) (leaf (ident (97 ∷ [])) (at 15 16) (punct 59 false (at 17 18) end)))))
unfolding left is_end lookahead_at sees take_token take_lifetime take_mark take_group before rows_for rows run parse_rule
extern_crate_rest_border_10 = not_read extern_crate_rest _ refl

-- `extern ; crate a ;`: nothing is read
extern_crate_rest_border_11 : NotDerived (rule extern_crate_rest)
    (leaf (ident w_extern) (at 0 6) (punct 59 false (at 7 8) (leaf (ident w_crate) (at 9 14) (leaf (ident (97 ∷ [])) (at 15 16) (punct 59 false (at 17 18) end)))))
unfolding left is_end lookahead_at sees take_token take_lifetime take_mark take_group before rows_for rows run parse_rule
extern_crate_rest_border_11 = not_read extern_crate_rest _ refl

-- `extern b crate a ;`: nothing is read
extern_crate_rest_border_12 : NotDerived (rule extern_crate_rest)
    (leaf (ident w_extern) (at 0 6) (leaf (ident (98 ∷ [])) (at 7 8) (leaf (ident w_crate) (at 9 14) (leaf (ident (97 ∷ [])) (at 15 16) (punct 59 false (at 17 18) end)))))
unfolding left is_end lookahead_at sees take_token take_lifetime take_mark take_group before rows_for rows run parse_rule
extern_crate_rest_border_12 = not_read extern_crate_rest _ refl

-- `extern crate ; a ;`: nothing is read
extern_crate_rest_border_13 : NotDerived (rule extern_crate_rest)
    (leaf (ident w_extern) (at 0 6) (leaf (ident w_crate) (at 7 12) (punct 59 false (at 13 14) (leaf (ident (97 ∷ [])) (at 15 16) (punct 59 false (at 17 18) end)))))
unfolding left is_end lookahead_at sees take_token take_lifetime take_mark take_group before rows_for rows run parse_rule
extern_crate_rest_border_13 = not_read extern_crate_rest _ refl

-- `extern crate T b ;`: nothing is read
extern_crate_rest_border_14 : NotDerived (rule extern_crate_rest)
    (leaf (ident w_extern) (at 0 6) (leaf (ident w_crate) (at 7 12) (leaf (ident (84 ∷ [])) (at 13 14) (leaf (ident (98 ∷ [])) (at 15 16) (punct 59 false (at 17 18) end)))))
unfolding left is_end lookahead_at sees take_token take_lifetime take_mark take_group before rows_for rows run parse_rule
extern_crate_rest_border_14 = not_read extern_crate_rest _ refl

-- `extern crate a ; ;` prints `extern crate a ;` and leaves `;`
extern_crate_rest_border_15 : DerivesAs extern_crate_rest
    (leaf (ident w_extern) (at 0 6) (leaf (ident w_crate) (at 7 12) (leaf (ident (97 ∷ [])) (at 13 14) (punct 59 false (at 15 16) (punct 59 false (at 17 18) end)))))
    (leaf (ident w_extern) call_site (leaf (ident w_crate) call_site (leaf (ident (97 ∷ [])) call_site (punct 59 false call_site end))))
    (punct 59 false (at 17 18) end)
unfolding left is_end lookahead_at sees take_token take_lifetime take_mark take_group before rows_for rows run parse_rule
extern_crate_rest_border_15 = computed extern_crate_rest _ _ _ refl

-- `extern crate a ; b` prints `extern crate a ;` and leaves `b`
extern_crate_rest_border_16 : DerivesAs extern_crate_rest
    (leaf (ident w_extern) (at 0 6) (leaf (ident w_crate) (at 7 12) (leaf (ident (97 ∷ [])) (at 13 14) (punct 59 false (at 15 16) (leaf (ident (98 ∷ [])) (at 17 18) end)))))
    (leaf (ident w_extern) call_site (leaf (ident w_crate) call_site (leaf (ident (97 ∷ [])) call_site (punct 59 false call_site end))))
    (leaf (ident (98 ∷ [])) (at 17 18) end)
unfolding left is_end lookahead_at sees take_token take_lifetime take_mark take_group before rows_for rows run parse_rule
extern_crate_rest_border_16 = computed extern_crate_rest _ _ _ refl

-- `extern as default ;`: nothing is read
extern_crate_rest_border_17 : NotDerived (rule extern_crate_rest)
    (leaf (ident w_extern) (at 0 6) (leaf (ident w_as) (at 7 9) (leaf (ident w_default) (at 10 17) (punct 59 false (at 18 19) end))))
unfolding left is_end lookahead_at sees take_token take_lifetime take_mark take_group before rows_for rows run parse_rule
extern_crate_rest_border_17 = not_read extern_crate_rest _ refl

-- `extern crate Self ;`: nothing is read
extern_crate_rest_border_18 : NotDerived (rule extern_crate_rest)
    (leaf (ident w_extern) (at 0 6) (leaf (ident w_crate) (at 7 12) (leaf (ident w_Self_type) (at 13 17) (punct 59 false (at 18 19) end))))
unfolding left is_end lookahead_at sees take_token take_lifetime take_mark take_group before rows_for rows run parse_rule
extern_crate_rest_border_18 = not_read extern_crate_rest _ refl

-- `extern crate T as ;`: nothing is read
extern_crate_rest_border_19 : NotDerived (rule extern_crate_rest)
    (leaf (ident w_extern) (at 0 6) (leaf (ident w_crate) (at 7 12) (leaf (ident (84 ∷ [])) (at 13 14) (leaf (ident w_as) (at 15 17) (punct 59 false (at 18 19) end)))))
unfolding left is_end lookahead_at sees take_token take_lifetime take_mark take_group before rows_for rows run parse_rule
extern_crate_rest_border_19 = not_read extern_crate_rest _ refl

-- `extern crate auto ;` prints `extern crate auto ;`
extern_crate_rest_border_20 : DerivesAs extern_crate_rest
    (leaf (ident w_extern) (at 0 6) (leaf (ident w_crate) (at 7 12) (leaf (ident w_auto) (at 13 17) (punct 59 false (at 18 19) end))))
    (leaf (ident w_extern) call_site (leaf (ident w_crate) call_site (leaf (ident w_auto) call_site (punct 59 false call_site end))))
    (end)
unfolding left is_end lookahead_at sees take_token take_lifetime take_mark take_group before rows_for rows run parse_rule
extern_crate_rest_border_20 = computed extern_crate_rest _ _ _ refl

-- `extern crate safe ;` prints `extern crate safe ;`
extern_crate_rest_border_21 : DerivesAs extern_crate_rest
    (leaf (ident w_extern) (at 0 6) (leaf (ident w_crate) (at 7 12) (leaf (ident w_safe) (at 13 17) (punct 59 false (at 18 19) end))))
    (leaf (ident w_extern) call_site (leaf (ident w_crate) call_site (leaf (ident w_safe) call_site (punct 59 false call_site end))))
    (end)
unfolding left is_end lookahead_at sees take_token take_lifetime take_mark take_group before rows_for rows run parse_rule
extern_crate_rest_border_21 = computed extern_crate_rest _ _ _ refl

-- `extern crate a ; pub` prints `extern crate a ;` and leaves `pub`
extern_crate_rest_border_22 : DerivesAs extern_crate_rest
    (leaf (ident w_extern) (at 0 6) (leaf (ident w_crate) (at 7 12) (leaf (ident (97 ∷ [])) (at 13 14) (punct 59 false (at 15 16) (leaf (ident w_pub) (at 17 20) end)))))
    (leaf (ident w_extern) call_site (leaf (ident w_crate) call_site (leaf (ident (97 ∷ [])) call_site (punct 59 false call_site end))))
    (leaf (ident w_pub) (at 17 20) end)
unfolding left is_end lookahead_at sees take_token take_lifetime take_mark take_group before rows_for rows run parse_rule
extern_crate_rest_border_22 = computed extern_crate_rest _ _ _ refl

-- `extern crate a pub ;`: nothing is read
extern_crate_rest_border_23 : NotDerived (rule extern_crate_rest)
    (leaf (ident w_extern) (at 0 6) (leaf (ident w_crate) (at 7 12) (leaf (ident (97 ∷ [])) (at 13 14) (leaf (ident w_pub) (at 15 18) (punct 59 false (at 19 20) end)))))
unfolding left is_end lookahead_at sees take_token take_lifetime take_mark take_group before rows_for rows run parse_rule
extern_crate_rest_border_23 = not_read extern_crate_rest _ refl

-- `extern crate crate ;`: nothing is read
extern_crate_rest_border_24 : NotDerived (rule extern_crate_rest)
    (leaf (ident w_extern) (at 0 6) (leaf (ident w_crate) (at 7 12) (leaf (ident w_crate) (at 13 18) (punct 59 false (at 19 20) end))))
unfolding left is_end lookahead_at sees take_token take_lifetime take_mark take_group before rows_for rows run parse_rule
extern_crate_rest_border_24 = not_read extern_crate_rest _ refl

-- `extern crate pub a ;`: nothing is read
extern_crate_rest_border_25 : NotDerived (rule extern_crate_rest)
    (leaf (ident w_extern) (at 0 6) (leaf (ident w_crate) (at 7 12) (leaf (ident w_pub) (at 13 16) (leaf (ident (97 ∷ [])) (at 17 18) (punct 59 false (at 19 20) end)))))
unfolding left is_end lookahead_at sees take_token take_lifetime take_mark take_group before rows_for rows run parse_rule
extern_crate_rest_border_25 = not_read extern_crate_rest _ refl

-- `extern crate super ;`: nothing is read
extern_crate_rest_border_26 : NotDerived (rule extern_crate_rest)
    (leaf (ident w_extern) (at 0 6) (leaf (ident w_crate) (at 7 12) (leaf (ident w_super) (at 13 18) (punct 59 false (at 19 20) end))))
unfolding left is_end lookahead_at sees take_token take_lifetime take_mark take_group before rows_for rows run parse_rule
extern_crate_rest_border_26 = not_read extern_crate_rest _ refl

-- `extern pub crate a ;`: nothing is read
extern_crate_rest_border_27 : NotDerived (rule extern_crate_rest)
    (leaf (ident w_extern) (at 0 6) (leaf (ident w_pub) (at 7 10) (leaf (ident w_crate) (at 11 16) (leaf (ident (97 ∷ [])) (at 17 18) (punct 59 false (at 19 20) end)))))
unfolding left is_end lookahead_at sees take_token take_lifetime take_mark take_group before rows_for rows run parse_rule
extern_crate_rest_border_27 = not_read extern_crate_rest _ refl

-- `pub extern crate a ;` prints `pub extern crate a ;`
extern_crate_rest_border_28 : DerivesAs extern_crate_rest
    (leaf (ident w_pub) (at 0 3) (leaf (ident w_extern) (at 4 10) (leaf (ident w_crate) (at 11 16) (leaf (ident (97 ∷ [])) (at 17 18) (punct 59 false (at 19 20) end)))))
    (leaf (ident w_pub) call_site (leaf (ident w_extern) call_site (leaf (ident w_crate) call_site (leaf (ident (97 ∷ [])) call_site (punct 59 false call_site end)))))
    (end)
unfolding left is_end lookahead_at sees take_token take_lifetime take_mark take_group before rows_for rows run parse_rule
extern_crate_rest_border_28 = computed extern_crate_rest _ _ _ refl

-- `a extern crate auto ;`: nothing is read
extern_crate_rest_border_29 : NotDerived (rule extern_crate_rest)
    (leaf (ident (97 ∷ [])) (at 0 1) (leaf (ident w_extern) (at 2 8) (leaf (ident w_crate) (at 9 14) (leaf (ident w_auto) (at 15 19) (punct 59 false (at 20 21) end)))))
unfolding left is_end lookahead_at sees take_token take_lifetime take_mark take_group before rows_for rows run parse_rule
extern_crate_rest_border_29 = not_read extern_crate_rest _ refl

-- `extern crate T as 1 ;`: nothing is read
extern_crate_rest_border_30 : NotDerived (rule extern_crate_rest)
    (leaf (ident w_extern) (at 0 6) (leaf (ident w_crate) (at 7 12) (leaf (ident (84 ∷ [])) (at 13 14) (leaf (ident w_as) (at 15 17) (leaf (literal Int (49 ∷ [])) (at 18 19) (punct 59 false (at 20 21) end))))))
unfolding left is_end lookahead_at sees take_token take_lifetime take_mark take_group before rows_for rows run parse_rule
extern_crate_rest_border_30 = not_read extern_crate_rest _ refl

-- `extern crate T as _ ;` prints `extern crate T as _ ;`
extern_crate_rest_border_31 : DerivesAs extern_crate_rest
    (leaf (ident w_extern) (at 0 6) (leaf (ident w_crate) (at 7 12) (leaf (ident (84 ∷ [])) (at 13 14) (leaf (ident w_as) (at 15 17) (leaf (ident w_underscore) (at 18 19) (punct 59 false (at 20 21) end))))))
    (leaf (ident w_extern) call_site (leaf (ident w_crate) call_site (leaf (ident (84 ∷ [])) call_site (leaf (ident w_as) call_site (leaf (ident w_underscore) call_site (punct 59 false call_site end))))))
    (end)
unfolding left is_end lookahead_at sees take_token take_lifetime take_mark take_group before rows_for rows run parse_rule
extern_crate_rest_border_31 = computed extern_crate_rest _ _ _ refl

-- `extern crate T as fn ;`: nothing is read
extern_crate_rest_border_32 : NotDerived (rule extern_crate_rest)
    (leaf (ident w_extern) (at 0 6) (leaf (ident w_crate) (at 7 12) (leaf (ident (84 ∷ [])) (at 13 14) (leaf (ident w_as) (at 15 17) (leaf (ident w_fn) (at 18 20) (punct 59 false (at 21 22) end))))))
unfolding left is_end lookahead_at sees take_token take_lifetime take_mark take_group before rows_for rows run parse_rule
extern_crate_rest_border_32 = not_read extern_crate_rest _ refl

-- `extern crate crate a ;`: nothing is read
extern_crate_rest_border_33 : NotDerived (rule extern_crate_rest)
    (leaf (ident w_extern) (at 0 6) (leaf (ident w_crate) (at 7 12) (leaf (ident w_crate) (at 13 18) (leaf (ident (97 ∷ [])) (at 19 20) (punct 59 false (at 21 22) end)))))
unfolding left is_end lookahead_at sees take_token take_lifetime take_mark take_group before rows_for rows run parse_rule
extern_crate_rest_border_33 = not_read extern_crate_rest _ refl

-- `extern crate default ;` prints `extern crate default ;`
extern_crate_rest_border_34 : DerivesAs extern_crate_rest
    (leaf (ident w_extern) (at 0 6) (leaf (ident w_crate) (at 7 12) (leaf (ident w_default) (at 13 20) (punct 59 false (at 21 22) end))))
    (leaf (ident w_extern) call_site (leaf (ident w_crate) call_site (leaf (ident w_default) call_site (punct 59 false call_site end))))
    (end)
unfolding left is_end lookahead_at sees take_token take_lifetime take_mark take_group before rows_for rows run parse_rule
extern_crate_rest_border_34 = computed extern_crate_rest _ _ _ refl

-- `extern crate T ; as b ;` prints `extern crate T ;` and leaves `as b ;`
extern_crate_rest_border_35 : DerivesAs extern_crate_rest
    (leaf (ident w_extern) (at 0 6) (leaf (ident w_crate) (at 7 12) (leaf (ident (84 ∷ [])) (at 13 14) (punct 59 false (at 15 16) (leaf (ident w_as) (at 17 19) (leaf (ident (98 ∷ [])) (at 20 21) (punct 59 false (at 22 23) end)))))))
    (leaf (ident w_extern) call_site (leaf (ident w_crate) call_site (leaf (ident (84 ∷ [])) call_site (punct 59 false call_site end))))
    (leaf (ident w_as) (at 17 19) (leaf (ident (98 ∷ [])) (at 20 21) (punct 59 false (at 22 23) end)))
unfolding left is_end lookahead_at sees take_token take_lifetime take_mark take_group before rows_for rows run parse_rule
extern_crate_rest_border_35 = computed extern_crate_rest _ _ _ refl

-- `extern crate T as b b ;`: nothing is read
extern_crate_rest_border_36 : NotDerived (rule extern_crate_rest)
    (leaf (ident w_extern) (at 0 6) (leaf (ident w_crate) (at 7 12) (leaf (ident (84 ∷ [])) (at 13 14) (leaf (ident w_as) (at 15 17) (leaf (ident (98 ∷ [])) (at 18 19) (leaf (ident (98 ∷ [])) (at 20 21) (punct 59 false (at 22 23) end)))))))
unfolding left is_end lookahead_at sees take_token take_lifetime take_mark take_group before rows_for rows run parse_rule
extern_crate_rest_border_36 = not_read extern_crate_rest _ refl

-- `extern extern crate a ;`: nothing is read
extern_crate_rest_border_37 : NotDerived (rule extern_crate_rest)
    (leaf (ident w_extern) (at 0 6) (leaf (ident w_extern) (at 7 13) (leaf (ident w_crate) (at 14 19) (leaf (ident (97 ∷ [])) (at 20 21) (punct 59 false (at 22 23) end)))))
unfolding left is_end lookahead_at sees take_token take_lifetime take_mark take_group before rows_for rows run parse_rule
extern_crate_rest_border_37 = not_read extern_crate_rest _ refl

-- `extern crate T as Self ;`: nothing is read
extern_crate_rest_border_38 : NotDerived (rule extern_crate_rest)
    (leaf (ident w_extern) (at 0 6) (leaf (ident w_crate) (at 7 12) (leaf (ident (84 ∷ [])) (at 13 14) (leaf (ident w_as) (at 15 17) (leaf (ident w_Self_type) (at 18 22) (punct 59 false (at 23 24) end))))))
unfolding left is_end lookahead_at sees take_token take_lifetime take_mark take_group before rows_for rows run parse_rule
extern_crate_rest_border_38 = not_read extern_crate_rest _ refl

-- `extern crate T as as b ;`: nothing is read
extern_crate_rest_border_39 : NotDerived (rule extern_crate_rest)
    (leaf (ident w_extern) (at 0 6) (leaf (ident w_crate) (at 7 12) (leaf (ident (84 ∷ [])) (at 13 14) (leaf (ident w_as) (at 15 17) (leaf (ident w_as) (at 18 20) (leaf (ident (98 ∷ [])) (at 21 22) (punct 59 false (at 23 24) end)))))))
unfolding left is_end lookahead_at sees take_token take_lifetime take_mark take_group before rows_for rows run parse_rule
extern_crate_rest_border_39 = not_read extern_crate_rest _ refl

-- `extern crate T as auto ;` prints `extern crate T as auto ;`
extern_crate_rest_border_40 : DerivesAs extern_crate_rest
    (leaf (ident w_extern) (at 0 6) (leaf (ident w_crate) (at 7 12) (leaf (ident (84 ∷ [])) (at 13 14) (leaf (ident w_as) (at 15 17) (leaf (ident w_auto) (at 18 22) (punct 59 false (at 23 24) end))))))
    (leaf (ident w_extern) call_site (leaf (ident w_crate) call_site (leaf (ident (84 ∷ [])) call_site (leaf (ident w_as) call_site (leaf (ident w_auto) call_site (punct 59 false call_site end))))))
    (end)
unfolding left is_end lookahead_at sees take_token take_lifetime take_mark take_group before rows_for rows run parse_rule
extern_crate_rest_border_40 = computed extern_crate_rest _ _ _ refl

-- `extern crate T as self ;`: nothing is read
extern_crate_rest_border_41 : NotDerived (rule extern_crate_rest)
    (leaf (ident w_extern) (at 0 6) (leaf (ident w_crate) (at 7 12) (leaf (ident (84 ∷ [])) (at 13 14) (leaf (ident w_as) (at 15 17) (leaf (ident w_self) (at 18 22) (punct 59 false (at 23 24) end))))))
unfolding left is_end lookahead_at sees take_token take_lifetime take_mark take_group before rows_for rows run parse_rule
extern_crate_rest_border_41 = not_read extern_crate_rest _ refl

-- `extern crate T crate b ;`: nothing is read
extern_crate_rest_border_42 : NotDerived (rule extern_crate_rest)
    (leaf (ident w_extern) (at 0 6) (leaf (ident w_crate) (at 7 12) (leaf (ident (84 ∷ [])) (at 13 14) (leaf (ident w_crate) (at 15 20) (leaf (ident (98 ∷ [])) (at 21 22) (punct 59 false (at 23 24) end))))))
unfolding left is_end lookahead_at sees take_token take_lifetime take_mark take_group before rows_for rows run parse_rule
extern_crate_rest_border_42 = not_read extern_crate_rest _ refl

-- `crate extern crate auto ;`: nothing is read
extern_crate_rest_border_43 : NotDerived (rule extern_crate_rest)
    (leaf (ident w_crate) (at 0 5) (leaf (ident w_extern) (at 6 12) (leaf (ident w_crate) (at 13 18) (leaf (ident w_auto) (at 19 23) (punct 59 false (at 24 25) end)))))
unfolding left is_end lookahead_at sees take_token take_lifetime take_mark take_group before rows_for rows run parse_rule
extern_crate_rest_border_43 = not_read extern_crate_rest _ refl

-- `extern as union crate x ;`: nothing is read
extern_crate_rest_border_44 : NotDerived (rule extern_crate_rest)
    (leaf (ident w_extern) (at 0 6) (leaf (ident w_as) (at 7 9) (leaf (ident w_union) (at 10 15) (leaf (ident w_crate) (at 16 21) (leaf (ident (120 ∷ [])) (at 22 23) (punct 59 false (at 24 25) end))))))
unfolding left is_end lookahead_at sees take_token take_lifetime take_mark take_group before rows_for rows run parse_rule
extern_crate_rest_border_44 = not_read extern_crate_rest _ refl

-- `extern crate T as crate ;`: nothing is read
extern_crate_rest_border_45 : NotDerived (rule extern_crate_rest)
    (leaf (ident w_extern) (at 0 6) (leaf (ident w_crate) (at 7 12) (leaf (ident (84 ∷ [])) (at 13 14) (leaf (ident w_as) (at 15 17) (leaf (ident w_crate) (at 18 23) (punct 59 false (at 24 25) end))))))
unfolding left is_end lookahead_at sees take_token take_lifetime take_mark take_group before rows_for rows run parse_rule
extern_crate_rest_border_45 = not_read extern_crate_rest _ refl

-- `extern crate T as super ;`: nothing is read
extern_crate_rest_border_46 : NotDerived (rule extern_crate_rest)
    (leaf (ident w_extern) (at 0 6) (leaf (ident w_crate) (at 7 12) (leaf (ident (84 ∷ [])) (at 13 14) (leaf (ident w_as) (at 15 17) (leaf (ident w_super) (at 18 23) (punct 59 false (at 24 25) end))))))
unfolding left is_end lookahead_at sees take_token take_lifetime take_mark take_group before rows_for rows run parse_rule
extern_crate_rest_border_46 = not_read extern_crate_rest _ refl

-- `extern crate T as union ;` prints `extern crate T as union ;`
extern_crate_rest_border_47 : DerivesAs extern_crate_rest
    (leaf (ident w_extern) (at 0 6) (leaf (ident w_crate) (at 7 12) (leaf (ident (84 ∷ [])) (at 13 14) (leaf (ident w_as) (at 15 17) (leaf (ident w_union) (at 18 23) (punct 59 false (at 24 25) end))))))
    (leaf (ident w_extern) call_site (leaf (ident w_crate) call_site (leaf (ident (84 ∷ [])) call_site (leaf (ident w_as) call_site (leaf (ident w_union) call_site (punct 59 false call_site end))))))
    (end)
unfolding left is_end lookahead_at sees take_token take_lifetime take_mark take_group before rows_for rows run parse_rule
extern_crate_rest_border_47 = computed extern_crate_rest _ _ _ refl

-- `extern crate auto crate ;`: nothing is read
extern_crate_rest_border_48 : NotDerived (rule extern_crate_rest)
    (leaf (ident w_extern) (at 0 6) (leaf (ident w_crate) (at 7 12) (leaf (ident w_auto) (at 13 17) (leaf (ident w_crate) (at 18 23) (punct 59 false (at 24 25) end)))))
unfolding left is_end lookahead_at sees take_token take_lifetime take_mark take_group before rows_for rows run parse_rule
extern_crate_rest_border_48 = not_read extern_crate_rest _ refl

-- `extern crate self as as ;`: nothing is read
extern_crate_rest_border_49 : NotDerived (rule extern_crate_rest)
    (leaf (ident w_extern) (at 0 6) (leaf (ident w_crate) (at 7 12) (leaf (ident w_self) (at 13 17) (leaf (ident w_as) (at 18 20) (leaf (ident w_as) (at 21 23) (punct 59 false (at 24 25) end))))))
unfolding left is_end lookahead_at sees take_token take_lifetime take_mark take_group before rows_for rows run parse_rule
extern_crate_rest_border_49 = not_read extern_crate_rest _ refl

-- `\(\) extern crate extern ;`: nothing is read
extern_crate_rest_border_50 : NotDerived (rule extern_crate_rest)
    (group None (at 0 2) (at 2 4) end (leaf (ident w_extern) (at 5 11) (leaf (ident w_crate) (at 12 17) (leaf (ident w_extern) (at 18 24) (punct 59 false (at 25 26) end)))))
unfolding left is_end lookahead_at sees take_token take_lifetime take_mark take_group before rows_for rows run parse_rule
extern_crate_rest_border_50 = not_read extern_crate_rest _ refl

-- `extern crate union extern ;`: nothing is read
extern_crate_rest_border_51 : NotDerived (rule extern_crate_rest)
    (leaf (ident w_extern) (at 0 6) (leaf (ident w_crate) (at 7 12) (leaf (ident w_union) (at 13 18) (leaf (ident w_extern) (at 19 25) (punct 59 false (at 26 27) end)))))
unfolding left is_end lookahead_at sees take_token take_lifetime take_mark take_group before rows_for rows run parse_rule
extern_crate_rest_border_51 = not_read extern_crate_rest _ refl

-- `pub pub extern crate auto ;`: nothing is read
extern_crate_rest_border_52 : NotDerived (rule extern_crate_rest)
    (leaf (ident w_pub) (at 0 3) (leaf (ident w_pub) (at 4 7) (leaf (ident w_extern) (at 8 14) (leaf (ident w_crate) (at 15 20) (leaf (ident w_auto) (at 21 25) (punct 59 false (at 26 27) end))))))
unfolding left is_end lookahead_at sees take_token take_lifetime take_mark take_group before rows_for rows run parse_rule
extern_crate_rest_border_52 = not_read extern_crate_rest _ refl

-- `extern crate safe as extern ;`: nothing is read
extern_crate_rest_border_53 : NotDerived (rule extern_crate_rest)
    (leaf (ident w_extern) (at 0 6) (leaf (ident w_crate) (at 7 12) (leaf (ident w_safe) (at 13 17) (leaf (ident w_as) (at 18 20) (leaf (ident w_extern) (at 21 27) (punct 59 false (at 28 29) end))))))
unfolding left is_end lookahead_at sees take_token take_lifetime take_mark take_group before rows_for rows run parse_rule
extern_crate_rest_border_53 = not_read extern_crate_rest _ refl

-- `extern extern union as auto ;`: nothing is read
extern_crate_rest_border_54 : NotDerived (rule extern_crate_rest)
    (leaf (ident w_extern) (at 0 6) (leaf (ident w_extern) (at 7 13) (leaf (ident w_union) (at 14 19) (leaf (ident w_as) (at 20 22) (leaf (ident w_auto) (at 23 27) (punct 59 false (at 28 29) end))))))
unfolding left is_end lookahead_at sees take_token take_lifetime take_mark take_group before rows_for rows run parse_rule
extern_crate_rest_border_54 = not_read extern_crate_rest _ refl

-- `extern crate auto as safe as ;`: nothing is read
extern_crate_rest_border_55 : NotDerived (rule extern_crate_rest)
    (leaf (ident w_extern) (at 0 6) (leaf (ident w_crate) (at 7 12) (leaf (ident w_auto) (at 13 17) (leaf (ident w_as) (at 18 20) (leaf (ident w_safe) (at 21 25) (leaf (ident w_as) (at 26 28) (punct 59 false (at 29 30) end)))))))
unfolding left is_end lookahead_at sees take_token take_lifetime take_mark take_group before rows_for rows run parse_rule
extern_crate_rest_border_55 = not_read extern_crate_rest _ refl

-- `pub extern crate extern self ;`: nothing is read
extern_crate_rest_border_56 : NotDerived (rule extern_crate_rest)
    (leaf (ident w_pub) (at 0 3) (leaf (ident w_extern) (at 4 10) (leaf (ident w_crate) (at 11 16) (leaf (ident w_extern) (at 17 23) (leaf (ident w_self) (at 24 28) (punct 59 false (at 29 30) end))))))
unfolding left is_end lookahead_at sees take_token take_lifetime take_mark take_group before rows_for rows run parse_rule
extern_crate_rest_border_56 = not_read extern_crate_rest _ refl

-- `extern crate default extern foo ;`: nothing is read
extern_crate_rest_border_57 : NotDerived (rule extern_crate_rest)
    (leaf (ident w_extern) (at 0 6) (leaf (ident w_crate) (at 7 12) (leaf (ident w_default) (at 13 20) (leaf (ident w_extern) (at 21 27) (leaf (ident (102 ∷ 111 ∷ 111 ∷ [])) (at 28 31) (punct 59 false (at 32 33) end))))))
unfolding left is_end lookahead_at sees take_token take_lifetime take_mark take_group before rows_for rows run parse_rule
extern_crate_rest_border_57 = not_read extern_crate_rest _ refl

-- `extern crate union as safe ; crate` prints `extern crate union as safe ;` and leaves `crate`
extern_crate_rest_border_58 : DerivesAs extern_crate_rest
    (leaf (ident w_extern) (at 0 6) (leaf (ident w_crate) (at 7 12) (leaf (ident w_union) (at 13 18) (leaf (ident w_as) (at 19 21) (leaf (ident w_safe) (at 22 26) (punct 59 false (at 27 28) (leaf (ident w_crate) (at 29 34) end)))))))
    (leaf (ident w_extern) call_site (leaf (ident w_crate) call_site (leaf (ident w_union) call_site (leaf (ident w_as) call_site (leaf (ident w_safe) call_site (punct 59 false call_site end))))))
    (leaf (ident w_crate) (at 29 34) end)
unfolding left is_end lookahead_at sees take_token take_lifetime take_mark take_group before rows_for rows run parse_rule
extern_crate_rest_border_58 = computed extern_crate_rest _ _ _ refl

-- `extern crate as union self as safe ;`: nothing is read
extern_crate_rest_border_59 : NotDerived (rule extern_crate_rest)
    (leaf (ident w_extern) (at 0 6) (leaf (ident w_crate) (at 7 12) (leaf (ident w_as) (at 13 15) (leaf (ident w_union) (at 16 21) (leaf (ident w_self) (at 22 26) (leaf (ident w_as) (at 27 29) (leaf (ident w_safe) (at 30 34) (punct 59 false (at 35 36) end))))))))
unfolding left is_end lookahead_at sees take_token take_lifetime take_mark take_group before rows_for rows run parse_rule
extern_crate_rest_border_59 = not_read extern_crate_rest _ refl

-- `extern crate auto as auto as union ;`: nothing is read
extern_crate_rest_border_60 : NotDerived (rule extern_crate_rest)
    (leaf (ident w_extern) (at 0 6) (leaf (ident w_crate) (at 7 12) (leaf (ident w_auto) (at 13 17) (leaf (ident w_as) (at 18 20) (leaf (ident w_auto) (at 21 25) (leaf (ident w_as) (at 26 28) (leaf (ident w_union) (at 29 34) (punct 59 false (at 35 36) end))))))))
unfolding left is_end lookahead_at sees take_token take_lifetime take_mark take_group before rows_for rows run parse_rule
extern_crate_rest_border_60 = not_read extern_crate_rest _ refl

-- `extern crate self as default ; extern` prints `extern crate self as default ;` and leaves `extern`
extern_crate_rest_border_61 : DerivesAs extern_crate_rest
    (leaf (ident w_extern) (at 0 6) (leaf (ident w_crate) (at 7 12) (leaf (ident w_self) (at 13 17) (leaf (ident w_as) (at 18 20) (leaf (ident w_default) (at 21 28) (punct 59 false (at 29 30) (leaf (ident w_extern) (at 31 37) end)))))))
    (leaf (ident w_extern) call_site (leaf (ident w_crate) call_site (leaf (ident w_self) call_site (leaf (ident w_as) call_site (leaf (ident w_default) call_site (punct 59 false call_site end))))))
    (leaf (ident w_extern) (at 31 37) end)
unfolding left is_end lookahead_at sees take_token take_lifetime take_mark take_group before rows_for rows run parse_rule
extern_crate_rest_border_61 = computed extern_crate_rest _ _ _ refl

-- `as _ extern crate default as default ;`: nothing is read
extern_crate_rest_border_62 : NotDerived (rule extern_crate_rest)
    (leaf (ident w_as) (at 0 2) (leaf (ident w_underscore) (at 3 4) (leaf (ident w_extern) (at 5 11) (leaf (ident w_crate) (at 12 17) (leaf (ident w_default) (at 18 25) (leaf (ident w_as) (at 26 28) (leaf (ident w_default) (at 29 36) (punct 59 false (at 37 38) end))))))))
unfolding left is_end lookahead_at sees take_token take_lifetime take_mark take_group before rows_for rows run parse_rule
extern_crate_rest_border_62 = not_read extern_crate_rest _ refl

-- `1`: nothing is read
use_tree_border_1 : NotDerived (rule use_tree)
    (leaf (literal Int (49 ∷ [])) (at 0 1) end)
unfolding left is_end lookahead_at sees take_token take_lifetime take_mark take_group before rows_for rows run parse_rule
use_tree_border_1 = not_read use_tree _ refl

-- `_`: nothing is read
use_tree_border_2 : NotDerived (rule use_tree)
    (leaf (ident w_underscore) (at 0 1) end)
unfolding left is_end lookahead_at sees take_token take_lifetime take_mark take_group before rows_for rows run parse_rule
use_tree_border_2 = not_read use_tree _ refl

-- `()`: nothing is read
use_tree_border_3 : NotDerived (rule use_tree)
    (group Paren (at 0 1) (at 1 2) end end)
unfolding left is_end lookahead_at sees take_token take_lifetime take_mark take_group before rows_for rows run parse_rule
use_tree_border_3 = not_read use_tree _ refl

-- `[]`: nothing is read
use_tree_border_4 : NotDerived (rule use_tree)
    (group Bracket (at 0 1) (at 1 2) end end)
unfolding left is_end lookahead_at sees take_token take_lifetime take_mark take_group before rows_for rows run parse_rule
use_tree_border_4 = not_read use_tree _ refl

-- `fn`: nothing is read
use_tree_border_5 : NotDerived (rule use_tree)
    (leaf (ident w_fn) (at 0 2) end)
unfolding left is_end lookahead_at sees take_token take_lifetime take_mark take_group before rows_for rows run parse_rule
use_tree_border_5 = not_read use_tree _ refl

-- `* *` prints `*` and leaves `*`
use_tree_border_6 : DerivesAs use_tree
    (punct 42 false (at 0 1) (punct 42 false (at 2 3) end))
    (punct 42 false call_site end)
    (punct 42 false (at 2 3) end)
unfolding left is_end lookahead_at sees take_token take_lifetime take_mark take_group before rows_for rows run parse_rule
use_tree_border_6 = computed use_tree _ _ _ refl

-- `try` prints `try`
use_tree_border_7 : DerivesAs use_tree
    (leaf (ident w_try) (at 0 3) end)
    (leaf (ident w_try) call_site end)
    (end)
unfolding left is_end lookahead_at sees take_token take_lifetime take_mark take_group before rows_for rows run parse_rule
use_tree_border_7 = computed use_tree _ _ _ refl

-- `Self`: nothing is read
use_tree_border_8 : NotDerived (rule use_tree)
    (leaf (ident w_Self_type) (at 0 4) end)
unfolding left is_end lookahead_at sees take_token take_lifetime take_mark take_group before rows_for rows run parse_rule
use_tree_border_8 = not_read use_tree _ refl

-- `a ::`: nothing is read
use_tree_border_9 : NotDerived (rule use_tree)
    (leaf (ident (97 ∷ [])) (at 0 1) (punct 58 true (at 2 3) (punct 58 false (at 3 4) end)))
unfolding left is_end lookahead_at sees take_token take_lifetime take_mark take_group before rows_for rows run parse_rule
use_tree_border_9 = not_read use_tree _ refl

-- `a : b` prints `a` and leaves `: b`
use_tree_border_10 : DerivesAs use_tree
    (leaf (ident (97 ∷ [])) (at 0 1) (punct 58 false (at 2 3) (leaf (ident (98 ∷ [])) (at 4 5) end)))
    (leaf (ident (97 ∷ [])) call_site end)
    (punct 58 false (at 2 3) (leaf (ident (98 ∷ [])) (at 4 5) end))
unfolding left is_end lookahead_at sees take_token take_lifetime take_mark take_group before rows_for rows run parse_rule
use_tree_border_10 = computed use_tree _ _ _ refl

-- `union` prints `union`
use_tree_border_11 : DerivesAs use_tree
    (leaf (ident w_union) (at 0 5) end)
    (leaf (ident w_union) call_site end)
    (end)
unfolding left is_end lookahead_at sees take_token take_lifetime take_mark take_group before rows_for rows run parse_rule
use_tree_border_11 = computed use_tree _ _ _ refl

-- `{} {}` prints `{}` and leaves `{}`
use_tree_border_12 : DerivesAs use_tree
    (group Brace (at 0 1) (at 1 2) end (group Brace (at 3 4) (at 4 5) end end))
    (group Brace call_site call_site end end)
    (group Brace (at 3 4) (at 4 5) end end)
unfolding left is_end lookahead_at sees take_token take_lifetime take_mark take_group before rows_for rows run parse_rule
use_tree_border_12 = computed use_tree _ _ _ refl

-- `a as fn`: nothing is read
use_tree_border_13 : NotDerived (rule use_tree)
    (leaf (ident (97 ∷ [])) (at 0 1) (leaf (ident w_as) (at 2 4) (leaf (ident w_fn) (at 5 7) end)))
unfolding left is_end lookahead_at sees take_token take_lifetime take_mark take_group before rows_for rows run parse_rule
use_tree_border_13 = not_read use_tree _ refl

-- `default` prints `default`
use_tree_border_14 : DerivesAs use_tree
    (leaf (ident w_default) (at 0 7) end)
    (leaf (ident w_default) call_site end)
    (end)
unfolding left is_end lookahead_at sees take_token take_lifetime take_mark take_group before rows_for rows run parse_rule
use_tree_border_14 = computed use_tree _ _ _ refl

-- `{b try}`: nothing is read
use_tree_border_15 : NotDerived (rule use_tree)
    (group Brace (at 0 1) (at 6 7) (leaf (ident (98 ∷ [])) (at 1 2) (leaf (ident w_try) (at 3 6) end)) end)
unfolding left is_end lookahead_at sees take_token take_lifetime take_mark take_group before rows_for rows run parse_rule
use_tree_border_15 = not_read use_tree _ refl

-- `a :: b b` prints `a :: b` and leaves `b`
use_tree_border_16 : DerivesAs use_tree
    (leaf (ident (97 ∷ [])) (at 0 1) (punct 58 true (at 2 3) (punct 58 false (at 3 4) (leaf (ident (98 ∷ [])) (at 5 6) (leaf (ident (98 ∷ [])) (at 7 8) end)))))
    (leaf (ident (97 ∷ [])) call_site (punct 58 true call_site (punct 58 false call_site (leaf (ident (98 ∷ [])) call_site end))))
    (leaf (ident (98 ∷ [])) (at 7 8) end)
unfolding left is_end lookahead_at sees take_token take_lifetime take_mark take_group before rows_for rows run parse_rule
use_tree_border_16 = computed use_tree _ _ _ refl

-- `a as _ _` prints `a as _` and leaves `_`
use_tree_border_17 : DerivesAs use_tree
    (leaf (ident (97 ∷ [])) (at 0 1) (leaf (ident w_as) (at 2 4) (leaf (ident w_underscore) (at 5 6) (leaf (ident w_underscore) (at 7 8) end))))
    (leaf (ident (97 ∷ [])) call_site (leaf (ident w_as) call_site (leaf (ident w_underscore) call_site end)))
    (leaf (ident w_underscore) (at 7 8) end)
unfolding left is_end lookahead_at sees take_token take_lifetime take_mark take_group before rows_for rows run parse_rule
use_tree_border_17 = computed use_tree _ _ _ refl

-- `a as Self`: nothing is read
use_tree_border_18 : NotDerived (rule use_tree)
    (leaf (ident (97 ∷ [])) (at 0 1) (leaf (ident w_as) (at 2 4) (leaf (ident w_Self_type) (at 5 9) end)))
unfolding left is_end lookahead_at sees take_token take_lifetime take_mark take_group before rows_for rows run parse_rule
use_tree_border_18 = not_read use_tree _ refl

-- `a as as _`: nothing is read
use_tree_border_19 : NotDerived (rule use_tree)
    (leaf (ident (97 ∷ [])) (at 0 1) (leaf (ident w_as) (at 2 4) (leaf (ident w_as) (at 5 7) (leaf (ident w_underscore) (at 8 9) end))))
unfolding left is_end lookahead_at sees take_token take_lifetime take_mark take_group before rows_for rows run parse_rule
use_tree_border_19 = not_read use_tree _ refl

-- `a as auto` prints `a as auto`
use_tree_border_20 : DerivesAs use_tree
    (leaf (ident (97 ∷ [])) (at 0 1) (leaf (ident w_as) (at 2 4) (leaf (ident w_auto) (at 5 9) end)))
    (leaf (ident (97 ∷ [])) call_site (leaf (ident w_as) call_site (leaf (ident w_auto) call_site end)))
    (end)
unfolding left is_end lookahead_at sees take_token take_lifetime take_mark take_group before rows_for rows run parse_rule
use_tree_border_20 = computed use_tree _ _ _ refl

-- `a as self`: nothing is read
use_tree_border_21 : NotDerived (rule use_tree)
    (leaf (ident (97 ∷ [])) (at 0 1) (leaf (ident w_as) (at 2 4) (leaf (ident w_self) (at 5 9) end)))
unfolding left is_end lookahead_at sees take_token take_lifetime take_mark take_group before rows_for rows run parse_rule
use_tree_border_21 = not_read use_tree _ refl

-- `auto auto` prints `auto` and leaves `auto`
use_tree_border_22 : DerivesAs use_tree
    (leaf (ident w_auto) (at 0 4) (leaf (ident w_auto) (at 5 9) end))
    (leaf (ident w_auto) call_site end)
    (leaf (ident w_auto) (at 5 9) end)
unfolding left is_end lookahead_at sees take_token take_lifetime take_mark take_group before rows_for rows run parse_rule
use_tree_border_22 = computed use_tree _ _ _ refl

-- `a as crate`: nothing is read
use_tree_border_23 : NotDerived (rule use_tree)
    (leaf (ident (97 ∷ [])) (at 0 1) (leaf (ident w_as) (at 2 4) (leaf (ident w_crate) (at 5 10) end)))
unfolding left is_end lookahead_at sees take_token take_lifetime take_mark take_group before rows_for rows run parse_rule
use_tree_border_23 = not_read use_tree _ refl

-- `a as super`: nothing is read
use_tree_border_24 : NotDerived (rule use_tree)
    (leaf (ident (97 ∷ [])) (at 0 1) (leaf (ident w_as) (at 2 4) (leaf (ident w_super) (at 5 10) end)))
unfolding left is_end lookahead_at sees take_token take_lifetime take_mark take_group before rows_for rows run parse_rule
use_tree_border_24 = not_read use_tree _ refl

-- `a as union` prints `a as union`
use_tree_border_25 : DerivesAs use_tree
    (leaf (ident (97 ∷ [])) (at 0 1) (leaf (ident w_as) (at 2 4) (leaf (ident w_union) (at 5 10) end)))
    (leaf (ident (97 ∷ [])) call_site (leaf (ident w_as) call_site (leaf (ident w_union) call_site end)))
    (end)
unfolding left is_end lookahead_at sees take_token take_lifetime take_mark take_group before rows_for rows run parse_rule
use_tree_border_25 = computed use_tree _ _ _ refl

-- `a as default` prints `a as default`
use_tree_border_26 : DerivesAs use_tree
    (leaf (ident (97 ∷ [])) (at 0 1) (leaf (ident w_as) (at 2 4) (leaf (ident w_default) (at 5 12) end)))
    (leaf (ident (97 ∷ [])) call_site (leaf (ident w_as) call_site (leaf (ident w_default) call_site end)))
    (end)
unfolding left is_end lookahead_at sees take_token take_lifetime take_mark take_group before rows_for rows run parse_rule
use_tree_border_26 = computed use_tree _ _ _ refl

-- `safe as safe =` prints `safe as safe` and leaves `=`
use_tree_border_27 : DerivesAs use_tree
    (leaf (ident w_safe) (at 0 4) (leaf (ident w_as) (at 5 7) (leaf (ident w_safe) (at 8 12) (punct 61 false (at 13 14) end))))
    (leaf (ident w_safe) call_site (leaf (ident w_as) call_site (leaf (ident w_safe) call_site end)))
    (punct 61 false (at 13 14) end)
unfolding left is_end lookahead_at sees take_token take_lifetime take_mark take_group before rows_for rows run parse_rule
use_tree_border_27 = computed use_tree _ _ _ refl

-- `as default self`: nothing is read
use_tree_border_28 : NotDerived (rule use_tree)
    (leaf (ident w_as) (at 0 2) (leaf (ident w_default) (at 3 10) (leaf (ident w_self) (at 11 15) end)))
unfolding left is_end lookahead_at sees take_token take_lifetime take_mark take_group before rows_for rows run parse_rule
use_tree_border_28 = not_read use_tree _ refl

-- `crate . default` prints `crate` and leaves `. default`
use_tree_border_29 : DerivesAs use_tree
    (leaf (ident w_crate) (at 0 5) (punct 46 false (at 6 7) (leaf (ident w_default) (at 8 15) end)))
    (leaf (ident w_crate) call_site end)
    (punct 46 false (at 6 7) (leaf (ident w_default) (at 8 15) end))
unfolding left is_end lookahead_at sees take_token take_lifetime take_mark take_group before rows_for rows run parse_rule
use_tree_border_29 = computed use_tree _ _ _ refl

-- `crate :: :: self`: nothing is read
use_tree_border_30 : NotDerived (rule use_tree)
    (leaf (ident w_crate) (at 0 5) (punct 58 true (at 6 7) (punct 58 false (at 7 8) (punct 58 true (at 9 10) (punct 58 false (at 10 11) (leaf (ident w_self) (at 12 16) end))))))
unfolding left is_end lookahead_at sees take_token take_lifetime take_mark take_group before rows_for rows run parse_rule
use_tree_border_30 = not_read use_tree _ refl

-- `* ,` prints `* ,`
use_trees_border_1 : DerivesAs use_trees
    (punct 42 false (at 0 1) (punct 44 false (at 2 3) end))
    (punct 42 false call_site (punct 44 false call_site end))
    (end)
unfolding left is_end lookahead_at sees take_token take_lifetime take_mark take_group before rows_for rows run parse_rule
use_trees_border_1 = computed use_trees _ _ _ refl

-- `a , , *`: nothing is read
use_trees_border_2 : NotDerived (rule use_trees)
    (leaf (ident (97 ∷ [])) (at 0 1) (punct 44 false (at 2 3) (punct 44 false (at 4 5) (punct 42 false (at 6 7) end))))
unfolding left is_end lookahead_at sees take_token take_lifetime take_mark take_group before rows_for rows run parse_rule
use_trees_border_2 = not_read use_trees _ refl

-- `, super union`: nothing is read
use_trees_border_3 : NotDerived (rule use_trees)
    (punct 44 false (at 0 1) (leaf (ident w_super) (at 2 7) (leaf (ident w_union) (at 8 13) end)))
unfolding left is_end lookahead_at sees take_token take_lifetime take_mark take_group before rows_for rows run parse_rule
use_trees_border_3 = not_read use_trees _ refl

-- `()`: nothing is read
rooted_tree_border_1 : NotDerived (rule rooted_tree)
    (group Paren (at 0 1) (at 1 2) end end)
unfolding left is_end lookahead_at sees take_token take_lifetime take_mark take_group before rows_for rows run parse_rule
rooted_tree_border_1 = not_read rooted_tree _ refl

-- `::`: nothing is read
rooted_tree_border_2 : NotDerived (rule rooted_tree)
    (punct 58 true (at 0 1) (punct 58 false (at 1 2) end))
unfolding left is_end lookahead_at sees take_token take_lifetime take_mark take_group before rows_for rows run parse_rule
rooted_tree_border_2 = not_read rooted_tree _ refl

-- `[]`: nothing is read
rooted_tree_border_3 : NotDerived (rule rooted_tree)
    (group Bracket (at 0 1) (at 1 2) end end)
unfolding left is_end lookahead_at sees take_token take_lifetime take_mark take_group before rows_for rows run parse_rule
rooted_tree_border_3 = not_read rooted_tree _ refl

-- `:: :: b`: nothing is read
rooted_tree_border_4 : NotDerived (rule rooted_tree)
    (punct 58 true (at 0 1) (punct 58 false (at 1 2) (punct 58 true (at 3 4) (punct 58 false (at 4 5) (leaf (ident (98 ∷ [])) (at 6 7) end)))))
unfolding left is_end lookahead_at sees take_token take_lifetime take_mark take_group before rows_for rows run parse_rule
rooted_tree_border_4 = not_read rooted_tree _ refl

-- `{auto auto}`: nothing is read
rooted_tree_border_5 : NotDerived (rule rooted_tree)
    (group Brace (at 0 1) (at 10 11) (leaf (ident w_auto) (at 1 5) (leaf (ident w_auto) (at 6 10) end)) end)
unfolding left is_end lookahead_at sees take_token take_lifetime take_mark take_group before rows_for rows run parse_rule
rooted_tree_border_5 = not_read rooted_tree _ refl

-- `*` prints `*`
rooted_trees_border_1 : DerivesAs rooted_trees
    (punct 42 false (at 0 1) end)
    (punct 42 false call_site end)
    (end)
unfolding left is_end lookahead_at sees take_token take_lifetime take_mark take_group before rows_for rows run parse_rule
rooted_trees_border_1 = computed rooted_trees _ _ _ refl

-- `a , , :: b ,`: nothing is read
rooted_trees_border_2 : NotDerived (rule rooted_trees)
    (leaf (ident (97 ∷ [])) (at 0 1) (punct 44 false (at 2 3) (punct 44 false (at 4 5) (punct 58 true (at 6 7) (punct 58 false (at 7 8) (leaf (ident (98 ∷ [])) (at 9 10) (punct 44 false (at 11 12) end)))))))
unfolding left is_end lookahead_at sees take_token take_lifetime take_mark take_group before rows_for rows run parse_rule
rooted_trees_border_2 = not_read rooted_trees _ refl

-- `* ;`: nothing is read
use_item_border_1 : NotDerived (rule use_item)
    (punct 42 false (at 0 1) (punct 59 false (at 2 3) end))
unfolding left is_end lookahead_at sees take_token take_lifetime take_mark take_group before rows_for rows run parse_rule
use_item_border_1 = not_read use_item _ refl

-- `use * ;pub` prints `use * ;` and leaves `pub`
use_item_border_2 : DerivesAs use_item
    (leaf (ident w_use) (at 0 3) (punct 42 false (at 4 5) (punct 59 false (at 6 7) (leaf (ident w_pub) (at 7 10) end))))
    (leaf (ident w_use) call_site (punct 42 false call_site (punct 59 false call_site end)))
    (leaf (ident w_pub) (at 7 10) end)
unfolding left is_end lookahead_at sees take_token take_lifetime take_mark take_group before rows_for rows run parse_rule
use_item_border_2 = computed use_item _ _ _ refl

-- `use * ;# [c]` prints `use * ;` and leaves `# [c]`
use_item_border_3 : DerivesAs use_item
    (leaf (ident w_use) (at 0 3) (punct 42 false (at 4 5) (punct 59 true (at 6 7) (punct 35 false (at 7 8) (group Bracket (at 9 10) (at 11 12) (leaf (ident (99 ∷ [])) (at 10 11) end) end)))))
    (leaf (ident w_use) call_site (punct 42 false call_site (punct 59 false call_site end)))
    (punct 35 false (at 7 8) (group Bracket (at 9 10) (at 11 12) (leaf (ident (99 ∷ [])) (at 10 11) end) end))
unfolding left is_end lookahead_at sees take_token take_lifetime take_mark take_group before rows_for rows run parse_rule
use_item_border_3 = computed use_item _ _ _ refl

-- `* ;`: nothing is read
use_item_rest_border_1 : NotDerived (rule use_item_rest)
    (punct 42 false (at 0 1) (punct 59 false (at 2 3) end))
unfolding left is_end lookahead_at sees take_token take_lifetime take_mark take_group before rows_for rows run parse_rule
use_item_rest_border_1 = not_read use_item_rest _ refl

-- `use * ,`: nothing is read
use_item_rest_border_2 : NotDerived (rule use_item_rest)
    (leaf (ident w_use) (at 0 3) (punct 42 false (at 4 5) (punct 44 false (at 6 7) end)))
unfolding left is_end lookahead_at sees take_token take_lifetime take_mark take_group before rows_for rows run parse_rule
use_item_rest_border_2 = not_read use_item_rest _ refl

-- `Self * ;`: nothing is read
use_item_rest_border_3 : NotDerived (rule use_item_rest)
    (leaf (ident w_Self_type) (at 0 4) (punct 42 false (at 5 6) (punct 59 false (at 7 8) end)))
unfolding left is_end lookahead_at sees take_token take_lifetime take_mark take_group before rows_for rows run parse_rule
use_item_rest_border_3 = not_read use_item_rest _ refl

-- `use () ;`: nothing is read
use_item_rest_border_4 : NotDerived (rule use_item_rest)
    (leaf (ident w_use) (at 0 3) (group Paren (at 4 5) (at 5 6) end (punct 59 false (at 7 8) end)))
unfolding left is_end lookahead_at sees take_token take_lifetime take_mark take_group before rows_for rows run parse_rule
use_item_rest_border_4 = not_read use_item_rest _ refl

-- `use [] ;`: nothing is read
use_item_rest_border_5 : NotDerived (rule use_item_rest)
    (leaf (ident w_use) (at 0 3) (group Bracket (at 4 5) (at 5 6) end (punct 59 false (at 7 8) end)))
unfolding left is_end lookahead_at sees take_token take_lifetime take_mark take_group before rows_for rows run parse_rule
use_item_rest_border_5 = not_read use_item_rest _ refl

-- `; use * ;`: nothing is read
use_item_rest_border_6 : NotDerived (rule use_item_rest)
    (punct 59 false (at 0 1) (leaf (ident w_use) (at 2 5) (punct 42 false (at 6 7) (punct 59 false (at 8 9) end))))
unfolding left is_end lookahead_at sees take_token take_lifetime take_mark take_group before rows_for rows run parse_rule
use_item_rest_border_6 = not_read use_item_rest _ refl

-- `b use * ;`: nothing is read
use_item_rest_border_7 : NotDerived (rule use_item_rest)
    (leaf (ident (98 ∷ [])) (at 0 1) (leaf (ident w_use) (at 2 5) (punct 42 false (at 6 7) (punct 59 false (at 8 9) end))))
unfolding left is_end lookahead_at sees take_token take_lifetime take_mark take_group before rows_for rows run parse_rule
use_item_rest_border_7 = not_read use_item_rest _ refl

-- `use * * ;`: nothing is read
use_item_rest_border_8 : NotDerived (rule use_item_rest)
    (leaf (ident w_use) (at 0 3) (punct 42 false (at 4 5) (punct 42 false (at 6 7) (punct 59 false (at 8 9) end))))
unfolding left is_end lookahead_at sees take_token take_lifetime take_mark take_group before rows_for rows run parse_rule
use_item_rest_border_8 = not_read use_item_rest _ refl

-- `use * ; ;` prints `use * ;` and leaves `;`
use_item_rest_border_9 : DerivesAs use_item_rest
    (leaf (ident w_use) (at 0 3) (punct 42 false (at 4 5) (punct 59 false (at 6 7) (punct 59 false (at 8 9) end))))
    (leaf (ident w_use) call_site (punct 42 false call_site (punct 59 false call_site end)))
    (punct 59 false (at 8 9) end)
unfolding left is_end lookahead_at sees take_token take_lifetime take_mark take_group before rows_for rows run parse_rule
use_item_rest_border_9 = computed use_item_rest _ _ _ refl

-- `use * ; b` prints `use * ;` and leaves `b`
use_item_rest_border_10 : DerivesAs use_item_rest
    (leaf (ident w_use) (at 0 3) (punct 42 false (at 4 5) (punct 59 false (at 6 7) (leaf (ident (98 ∷ [])) (at 8 9) end))))
    (leaf (ident w_use) call_site (punct 42 false call_site (punct 59 false call_site end)))
    (leaf (ident (98 ∷ [])) (at 8 9) end)
unfolding left is_end lookahead_at sees take_token take_lifetime take_mark take_group before rows_for rows run parse_rule
use_item_rest_border_10 = computed use_item_rest _ _ _ refl

-- `use ; * ;`: nothing is read
use_item_rest_border_11 : NotDerived (rule use_item_rest)
    (leaf (ident w_use) (at 0 3) (punct 59 false (at 4 5) (punct 42 false (at 6 7) (punct 59 false (at 8 9) end))))
unfolding left is_end lookahead_at sees take_token take_lifetime take_mark take_group before rows_for rows run parse_rule
use_item_rest_border_11 = not_read use_item_rest _ refl

-- `use {b} ;` prints `use {b} ;`
use_item_rest_border_12 : DerivesAs use_item_rest
    (leaf (ident w_use) (at 0 3) (group Brace (at 4 5) (at 6 7) (leaf (ident (98 ∷ [])) (at 5 6) end) (punct 59 false (at 8 9) end)))
    (leaf (ident w_use) call_site (group Brace call_site call_site (leaf (ident (98 ∷ [])) call_site end) (punct 59 false call_site end)))
    (end)
unfolding left is_end lookahead_at sees take_token take_lifetime take_mark take_group before rows_for rows run parse_rule
use_item_rest_border_12 = computed use_item_rest _ _ _ refl

-- `use * :: ;`: nothing is read
use_item_rest_border_13 : NotDerived (rule use_item_rest)
    (leaf (ident w_use) (at 0 3) (punct 42 false (at 4 5) (punct 58 true (at 6 7) (punct 58 false (at 7 8) (punct 59 false (at 9 10) end)))))
unfolding left is_end lookahead_at sees take_token take_lifetime take_mark take_group before rows_for rows run parse_rule
use_item_rest_border_13 = not_read use_item_rest _ refl

-- `use :: a ;` prints `use :: a ;`
use_item_rest_border_14 : DerivesAs use_item_rest
    (leaf (ident w_use) (at 0 3) (punct 58 true (at 4 5) (punct 58 false (at 5 6) (leaf (ident (97 ∷ [])) (at 7 8) (punct 59 false (at 9 10) end)))))
    (leaf (ident w_use) call_site (punct 58 true call_site (punct 58 false call_site (leaf (ident (97 ∷ [])) call_site (punct 59 false call_site end)))))
    (end)
unfolding left is_end lookahead_at sees take_token take_lifetime take_mark take_group before rows_for rows run parse_rule
use_item_rest_border_14 = computed use_item_rest _ _ _ refl

-- `pub use * ;` prints `pub use * ;`
use_item_rest_border_15 : DerivesAs use_item_rest
    (leaf (ident w_pub) (at 0 3) (leaf (ident w_use) (at 4 7) (punct 42 false (at 8 9) (punct 59 false (at 10 11) end))))
    (leaf (ident w_pub) call_site (leaf (ident w_use) call_site (punct 42 false call_site (punct 59 false call_site end))))
    (end)
unfolding left is_end lookahead_at sees take_token take_lifetime take_mark take_group before rows_for rows run parse_rule
use_item_rest_border_15 = computed use_item_rest _ _ _ refl

-- `use * ; pub` prints `use * ;` and leaves `pub`
use_item_rest_border_16 : DerivesAs use_item_rest
    (leaf (ident w_use) (at 0 3) (punct 42 false (at 4 5) (punct 59 false (at 6 7) (leaf (ident w_pub) (at 8 11) end))))
    (leaf (ident w_use) call_site (punct 42 false call_site (punct 59 false call_site end)))
    (leaf (ident w_pub) (at 8 11) end)
unfolding left is_end lookahead_at sees take_token take_lifetime take_mark take_group before rows_for rows run parse_rule
use_item_rest_border_16 = computed use_item_rest _ _ _ refl

-- `use * pub ;`: nothing is read
use_item_rest_border_17 : NotDerived (rule use_item_rest)
    (leaf (ident w_use) (at 0 3) (punct 42 false (at 4 5) (leaf (ident w_pub) (at 6 9) (punct 59 false (at 10 11) end))))
unfolding left is_end lookahead_at sees take_token take_lifetime take_mark take_group before rows_for rows run parse_rule
use_item_rest_border_17 = not_read use_item_rest _ refl

-- `use pub * ;`: nothing is read
use_item_rest_border_18 : NotDerived (rule use_item_rest)
    (leaf (ident w_use) (at 0 3) (leaf (ident w_pub) (at 4 7) (punct 42 false (at 8 9) (punct 59 false (at 10 11) end))))
unfolding left is_end lookahead_at sees take_token take_lifetime take_mark take_group before rows_for rows run parse_rule
use_item_rest_border_18 = not_read use_item_rest _ refl

-- `use use * ;`: nothing is read
use_item_rest_border_19 : NotDerived (rule use_item_rest)
    (leaf (ident w_use) (at 0 3) (leaf (ident w_use) (at 4 7) (punct 42 false (at 8 9) (punct 59 false (at 10 11) end))))
unfolding left is_end lookahead_at sees take_token take_lifetime take_mark take_group before rows_for rows run parse_rule
use_item_rest_border_19 = not_read use_item_rest _ refl

-- `use {} {} ;`: nothing is read
use_item_rest_border_20 : NotDerived (rule use_item_rest)
    (leaf (ident w_use) (at 0 3) (group Brace (at 4 5) (at 5 6) end (group Brace (at 7 8) (at 8 9) end (punct 59 false (at 10 11) end))))
unfolding left is_end lookahead_at sees take_token take_lifetime take_mark take_group before rows_for rows run parse_rule
use_item_rest_border_20 = not_read use_item_rest _ refl

-- `use . self ;`: nothing is read
use_item_rest_border_21 : NotDerived (rule use_item_rest)
    (leaf (ident w_use) (at 0 3) (punct 46 false (at 4 5) (leaf (ident w_self) (at 6 10) (punct 59 false (at 11 12) end))))
unfolding left is_end lookahead_at sees take_token take_lifetime take_mark take_group before rows_for rows run parse_rule
use_item_rest_border_21 = not_read use_item_rest _ refl

-- `use : safe ;`: nothing is read
use_item_rest_border_22 : NotDerived (rule use_item_rest)
    (leaf (ident w_use) (at 0 3) (punct 58 false (at 4 5) (leaf (ident w_safe) (at 6 10) (punct 59 false (at 11 12) end))))
unfolding left is_end lookahead_at sees take_token take_lifetime take_mark take_group before rows_for rows run parse_rule
use_item_rest_border_22 = not_read use_item_rest _ refl

-- `use {b {}} ;`: nothing is read
use_item_rest_border_23 : NotDerived (rule use_item_rest)
    (leaf (ident w_use) (at 0 3) (group Brace (at 4 5) (at 9 10) (leaf (ident (98 ∷ [])) (at 5 6) (group Brace (at 7 8) (at 8 9) end end)) (punct 59 false (at 11 12) end)))
unfolding left is_end lookahead_at sees take_token take_lifetime take_mark take_group before rows_for rows run parse_rule
use_item_rest_border_23 = not_read use_item_rest _ refl

-- `use {} ; use` prints `use {} ;` and leaves `use`
use_item_rest_border_24 : DerivesAs use_item_rest
    (leaf (ident w_use) (at 0 3) (group Brace (at 4 5) (at 5 6) end (punct 59 false (at 7 8) (leaf (ident w_use) (at 9 12) end))))
    (leaf (ident w_use) call_site (group Brace call_site call_site end (punct 59 false call_site end)))
    (leaf (ident w_use) (at 9 12) end)
unfolding left is_end lookahead_at sees take_token take_lifetime take_mark take_group before rows_for rows run parse_rule
use_item_rest_border_24 = computed use_item_rest _ _ _ refl

-- `use {} use ;`: nothing is read
use_item_rest_border_25 : NotDerived (rule use_item_rest)
    (leaf (ident w_use) (at 0 3) (group Brace (at 4 5) (at 5 6) end (leaf (ident w_use) (at 7 10) (punct 59 false (at 11 12) end))))
unfolding left is_end lookahead_at sees take_token take_lifetime take_mark take_group before rows_for rows run parse_rule
use_item_rest_border_25 = not_read use_item_rest _ refl

-- `\(\) pub use *;`: nothing is read
use_item_rest_border_26 : NotDerived (rule use_item_rest)
    (group None (at 0 2) (at 2 4) end (leaf (ident w_pub) (at 5 8) (leaf (ident w_use) (at 9 12) (punct 42 true (at 13 14) (punct 59 false (at 14 15) end)))))
unfolding left is_end lookahead_at sees take_token take_lifetime take_mark take_group before rows_for rows run parse_rule
use_item_rest_border_26 = not_read use_item_rest _ refl

-- `[] ;` prints `[] ;`
macro_end_border_1 : DerivesAs macro_end
    (group Bracket (at 0 1) (at 1 2) end (punct 59 false (at 3 4) end))
    (group Bracket call_site call_site end (punct 59 false call_site end))
    (end)
unfolding left is_end lookahead_at sees take_token take_lifetime take_mark take_group before rows_for rows run parse_rule
macro_end_border_1 = computed macro_end _ _ _ refl

-- `[pub] ,`: nothing is read
macro_end_border_2 : NotDerived (rule macro_end)
    (group Bracket (at 0 1) (at 4 5) (leaf (ident w_pub) (at 1 4) end) (punct 44 false (at 6 7) end))
unfolding left is_end lookahead_at sees take_token take_lifetime take_mark take_group before rows_for rows run parse_rule
macro_end_border_2 = not_read macro_end _ refl

-- `(Self) (in) ;`: nothing is read
macro_end_border_3 : NotDerived (rule macro_end)
    (group Paren (at 0 1) (at 5 6) (leaf (ident w_Self_type) (at 1 5) end) (group Paren (at 7 8) (at 10 11) (leaf (ident w_in) (at 8 10) end) (punct 59 false (at 12 13) end)))
unfolding left is_end lookahead_at sees take_token take_lifetime take_mark take_group before rows_for rows run parse_rule
macro_end_border_3 = not_read macro_end _ refl

-- `[pub] [pub] ;`: nothing is read
macro_end_border_4 : NotDerived (rule macro_end)
    (group Bracket (at 0 1) (at 4 5) (leaf (ident w_pub) (at 1 4) end) (group Bracket (at 6 7) (at 10 11) (leaf (ident w_pub) (at 7 10) end) (punct 59 false (at 12 13) end)))
unfolding left is_end lookahead_at sees take_token take_lifetime take_mark take_group before rows_for rows run parse_rule
macro_end_border_4 = not_read macro_end _ refl

-- `! {!}`: nothing is read
macro_item_border_1 : NotDerived (rule macro_item)
    (punct 33 false (at 0 1) (group Brace (at 2 3) (at 4 5) (punct 33 false (at 3 4) end) end))
unfolding left is_end lookahead_at sees take_token take_lifetime take_mark take_group before rows_for rows run parse_rule
macro_item_border_1 = not_read macro_item _ refl

-- `Self ! {#} b` prints `Self ! {#}` and leaves `b`
macro_item_border_2 : DerivesAs macro_item
    (leaf (ident w_Self_type) (at 0 4) (punct 33 false (at 5 6) (group Brace (at 7 8) (at 9 10) (punct 35 false (at 8 9) end) (leaf (ident (98 ∷ [])) (at 11 12) end))))
    (leaf (ident w_Self_type) call_site (punct 33 false call_site (group Brace call_site call_site (punct 35 false call_site end) end)))
    (leaf (ident (98 ∷ [])) (at 11 12) end)
unfolding left is_end lookahead_at sees take_token take_lifetime take_mark take_group before rows_for rows run parse_rule
macro_item_border_2 = computed macro_item _ _ _ refl

-- `Self ! {#} # [c]` prints `Self ! {#}` and leaves `# [c]`
macro_item_border_3 : DerivesAs macro_item
    (leaf (ident w_Self_type) (at 0 4) (punct 33 false (at 5 6) (group Brace (at 7 8) (at 9 10) (punct 35 false (at 8 9) end) (punct 35 false (at 11 12) (group Bracket (at 13 14) (at 15 16) (leaf (ident (99 ∷ [])) (at 14 15) end) end)))))
    (leaf (ident w_Self_type) call_site (punct 33 false call_site (group Brace call_site call_site (punct 35 false call_site end) end)))
    (punct 35 false (at 11 12) (group Bracket (at 13 14) (at 15 16) (leaf (ident (99 ∷ [])) (at 14 15) end) end))
unfolding left is_end lookahead_at sees take_token take_lifetime take_mark take_group before rows_for rows run parse_rule
macro_item_border_3 = computed macro_item _ _ _ refl

-- `! {!}`: nothing is read
macro_item_rest_border_1 : NotDerived (rule macro_item_rest)
    (punct 33 false (at 0 1) (group Brace (at 2 3) (at 4 5) (punct 33 false (at 3 4) end) end))
unfolding left is_end lookahead_at sees take_token take_lifetime take_mark take_group before rows_for rows run parse_rule
macro_item_rest_border_1 = not_read macro_item_rest _ refl

-- `Self ! ! {;}`: nothing is read
macro_item_rest_border_2 : NotDerived (rule macro_item_rest)
    (leaf (ident w_Self_type) (at 0 4) (punct 33 false (at 5 6) (punct 33 false (at 7 8) (group Brace (at 9 10) (at 11 12) (punct 59 false (at 10 11) end) end))))
unfolding left is_end lookahead_at sees take_token take_lifetime take_mark take_group before rows_for rows run parse_rule
macro_item_rest_border_2 = not_read macro_item_rest _ refl

-- `Self ! {;} b` prints `Self ! {;}` and leaves `b`
macro_item_rest_border_3 : DerivesAs macro_item_rest
    (leaf (ident w_Self_type) (at 0 4) (punct 33 false (at 5 6) (group Brace (at 7 8) (at 9 10) (punct 59 false (at 8 9) end) (leaf (ident (98 ∷ [])) (at 11 12) end))))
    (leaf (ident w_Self_type) call_site (punct 33 false call_site (group Brace call_site call_site (punct 59 false call_site end) end)))
    (leaf (ident (98 ∷ [])) (at 11 12) end)
unfolding left is_end lookahead_at sees take_token take_lifetime take_mark take_group before rows_for rows run parse_rule
macro_item_rest_border_3 = computed macro_item_rest _ _ _ refl

-- `Self b ! {;}`: nothing is read
macro_item_rest_border_4 : NotDerived (rule macro_item_rest)
    (leaf (ident w_Self_type) (at 0 4) (leaf (ident (98 ∷ [])) (at 5 6) (punct 33 false (at 7 8) (group Brace (at 9 10) (at 11 12) (punct 59 false (at 10 11) end) end))))
unfolding left is_end lookahead_at sees take_token take_lifetime take_mark take_group before rows_for rows run parse_rule
macro_item_rest_border_4 = not_read macro_item_rest _ refl

-- `Self ! {;} ()` prints `Self ! {;}` and leaves `()`
macro_item_rest_border_5 : DerivesAs macro_item_rest
    (leaf (ident w_Self_type) (at 0 4) (punct 33 false (at 5 6) (group Brace (at 7 8) (at 9 10) (punct 59 false (at 8 9) end) (group Paren (at 11 12) (at 12 13) end end))))
    (leaf (ident w_Self_type) call_site (punct 33 false call_site (group Brace call_site call_site (punct 59 false call_site end) end)))
    (group Paren (at 11 12) (at 12 13) end end)
unfolding left is_end lookahead_at sees take_token take_lifetime take_mark take_group before rows_for rows run parse_rule
macro_item_rest_border_5 = computed macro_item_rest _ _ _ refl

-- `Self {} ! {;}`: nothing is read
macro_item_rest_border_6 : NotDerived (rule macro_item_rest)
    (leaf (ident w_Self_type) (at 0 4) (group Brace (at 5 6) (at 6 7) end (punct 33 false (at 8 9) (group Brace (at 10 11) (at 12 13) (punct 59 false (at 11 12) end) end))))
unfolding left is_end lookahead_at sees take_token take_lifetime take_mark take_group before rows_for rows run parse_rule
macro_item_rest_border_6 = not_read macro_item_rest _ refl

-- `{} Self ! {;}`: nothing is read
macro_item_rest_border_7 : NotDerived (rule macro_item_rest)
    (group Brace (at 0 1) (at 1 2) end (leaf (ident w_Self_type) (at 3 7) (punct 33 false (at 8 9) (group Brace (at 10 11) (at 12 13) (punct 59 false (at 11 12) end) end))))
unfolding left is_end lookahead_at sees take_token take_lifetime take_mark take_group before rows_for rows run parse_rule
macro_item_rest_border_7 = not_read macro_item_rest _ refl

-- `Self !safe {;}` prints `Self ! safe {;}`
macro_item_rest_border_8 : DerivesAs macro_item_rest
    (leaf (ident w_Self_type) (at 0 4) (punct 33 false (at 5 6) (leaf (ident w_safe) (at 6 10) (group Brace (at 11 12) (at 13 14) (punct 59 false (at 12 13) end) end))))
    (leaf (ident w_Self_type) call_site (punct 33 false call_site (leaf (ident w_safe) call_site (group Brace call_site call_site (punct 59 false call_site end) end))))
    (end)
unfolding left is_end lookahead_at sees take_token take_lifetime take_mark take_group before rows_for rows run parse_rule
macro_item_rest_border_8 = computed macro_item_rest _ _ _ refl

-- `crate ! union {}` prints `crate ! union {}`
macro_item_rest_border_9 : DerivesAs macro_item_rest
    (leaf (ident w_crate) (at 0 5) (punct 33 false (at 6 7) (leaf (ident w_union) (at 8 13) (group Brace (at 14 15) (at 15 16) end end))))
    (leaf (ident w_crate) call_site (punct 33 false call_site (leaf (ident w_union) call_site (group Brace call_site call_site end end))))
    (end)
unfolding left is_end lookahead_at sees take_token take_lifetime take_mark take_group before rows_for rows run parse_rule
macro_item_rest_border_9 = computed macro_item_rest _ _ _ refl

-- `Self ! default {&}` prints `Self ! default {&}`
macro_item_rest_border_10 : DerivesAs macro_item_rest
    (leaf (ident w_Self_type) (at 0 4) (punct 33 false (at 5 6) (leaf (ident w_default) (at 7 14) (group Brace (at 15 16) (at 17 18) (punct 38 false (at 16 17) end) end))))
    (leaf (ident w_Self_type) call_site (punct 33 false call_site (leaf (ident w_default) call_site (group Brace call_site call_site (punct 38 false call_site end) end))))
    (end)
unfolding left is_end lookahead_at sees take_token take_lifetime take_mark take_group before rows_for rows run parse_rule
macro_item_rest_border_10 = computed macro_item_rest _ _ _ refl

-- `crate ! try {struct}` prints `crate ! try {struct}`
macro_item_rest_border_11 : DerivesAs macro_item_rest
    (leaf (ident w_crate) (at 0 5) (punct 33 false (at 6 7) (leaf (ident w_try) (at 8 11) (group Brace (at 12 13) (at 19 20) (leaf (ident w_struct) (at 13 19) end) end))))
    (leaf (ident w_crate) call_site (punct 33 false call_site (leaf (ident w_try) call_site (group Brace call_site call_site (leaf (ident w_struct) call_site end) end))))
    (end)
unfolding left is_end lookahead_at sees take_token take_lifetime take_mark take_group before rows_for rows run parse_rule
macro_item_rest_border_11 = computed macro_item_rest _ _ _ refl

-- `! safe ! auto {super}`: nothing is read
macro_item_rest_border_12 : NotDerived (rule macro_item_rest)
    (punct 33 false (at 0 1) (leaf (ident w_safe) (at 2 6) (punct 33 false (at 7 8) (leaf (ident w_auto) (at 9 13) (group Brace (at 14 15) (at 20 21) (leaf (ident w_super) (at 15 20) end) end)))))
unfolding left is_end lookahead_at sees take_token take_lifetime take_mark take_group before rows_for rows run parse_rule
macro_item_rest_border_12 = not_read macro_item_rest _ refl

-- `union ! auto {\(\)} !` prints `union ! auto {\(\)}` and leaves `!`
macro_item_rest_border_13 : DerivesAs macro_item_rest
    (leaf (ident w_union) (at 0 5) (punct 33 false (at 6 7) (leaf (ident w_auto) (at 8 12) (group Brace (at 13 14) (at 18 19) (group None (at 14 16) (at 16 18) end end) (punct 33 false (at 20 21) end)))))
    (leaf (ident w_union) call_site (punct 33 false call_site (leaf (ident w_auto) call_site (group Brace call_site call_site (group None call_site call_site end end) end))))
    (punct 33 false (at 20 21) end)
unfolding left is_end lookahead_at sees take_token take_lifetime take_mark take_group before rows_for rows run parse_rule
macro_item_rest_border_13 = computed macro_item_rest _ _ _ refl

-- `crate ! b union {struct}`: nothing is read
macro_item_rest_border_14 : NotDerived (rule macro_item_rest)
    (leaf (ident w_crate) (at 0 5) (punct 33 false (at 6 7) (leaf (ident (98 ∷ [])) (at 8 9) (leaf (ident w_union) (at 10 15) (group Brace (at 16 17) (at 23 24) (leaf (ident w_struct) (at 17 23) end) end)))))
unfolding left is_end lookahead_at sees take_token take_lifetime take_mark take_group before rows_for rows run parse_rule
macro_item_rest_border_14 = not_read macro_item_rest _ refl

-- `! () ;`: nothing is read
macro_as_item_rest_border_1 : NotDerived (rule macro_as_item_rest)
    (punct 33 false (at 0 1) (group Paren (at 2 3) (at 3 4) end (punct 59 false (at 5 6) end)))
unfolding left is_end lookahead_at sees take_token take_lifetime take_mark take_group before rows_for rows run parse_rule
macro_as_item_rest_border_1 = not_read macro_as_item_rest _ refl

-- `Self ! () ;`: nothing is read
macro_as_item_rest_border_2 : NotDerived (rule macro_as_item_rest)
    (leaf (ident w_Self_type) (at 0 4) (punct 33 false (at 5 6) (group Paren (at 7 8) (at 8 9) end (punct 59 false (at 10 11) end))))
unfolding left is_end lookahead_at sees take_token take_lifetime take_mark take_group before rows_for rows run parse_rule
macro_as_item_rest_border_2 = not_read macro_as_item_rest _ refl

-- `auto ::union ! {^}` prints `auto :: union ! {^}`
macro_as_item_rest_border_3 : DerivesAs macro_as_item_rest
    (leaf (ident w_auto) (at 0 4) (punct 58 true (at 5 6) (punct 58 false (at 6 7) (leaf (ident w_union) (at 7 12) (punct 33 false (at 13 14) (group Brace (at 15 16) (at 17 18) (punct 94 false (at 16 17) end) end))))))
    (leaf (ident w_auto) call_site (punct 58 true call_site (punct 58 false call_site (leaf (ident w_union) call_site (punct 33 false call_site (group Brace call_site call_site (punct 94 false call_site end) end))))))
    (end)
unfolding left is_end lookahead_at sees take_token take_lifetime take_mark take_group before rows_for rows run parse_rule
macro_as_item_rest_border_3 = computed macro_as_item_rest _ _ _ refl

-- `! {%}`: nothing is read
member_macro_border_1 : NotDerived (rule member_macro)
    (punct 33 false (at 0 1) (group Brace (at 2 3) (at 4 5) (punct 37 false (at 3 4) end) end))
unfolding left is_end lookahead_at sees take_token take_lifetime take_mark take_group before rows_for rows run parse_rule
member_macro_border_1 = not_read member_macro _ refl

-- `!safe ! {>}`: nothing is read
member_macro_border_2 : NotDerived (rule member_macro)
    (punct 33 false (at 0 1) (leaf (ident w_safe) (at 1 5) (punct 33 false (at 6 7) (group Brace (at 8 9) (at 10 11) (punct 62 false (at 9 10) end) end))))
unfolding left is_end lookahead_at sees take_token take_lifetime take_mark take_group before rows_for rows run parse_rule
member_macro_border_2 = not_read member_macro _ refl

-- `Self ! ! {&}`: nothing is read
member_macro_border_3 : NotDerived (rule member_macro)
    (leaf (ident w_Self_type) (at 0 4) (punct 33 false (at 5 6) (punct 33 false (at 7 8) (group Brace (at 9 10) (at 11 12) (punct 38 false (at 10 11) end) end))))
unfolding left is_end lookahead_at sees take_token take_lifetime take_mark take_group before rows_for rows run parse_rule
member_macro_border_3 = not_read member_macro _ refl

-- `:: Self ! {;}` prints `:: Self ! {;}`
member_macro_border_4 : DerivesAs member_macro
    (punct 58 true (at 0 1) (punct 58 false (at 1 2) (leaf (ident w_Self_type) (at 3 7) (punct 33 false (at 8 9) (group Brace (at 10 11) (at 12 13) (punct 59 false (at 11 12) end) end)))))
    (punct 58 true call_site (punct 58 false call_site (leaf (ident w_Self_type) call_site (punct 33 false call_site (group Brace call_site call_site (punct 59 false call_site end) end)))))
    (end)
unfolding left is_end lookahead_at sees take_token take_lifetime take_mark take_group before rows_for rows run parse_rule
member_macro_border_4 = computed member_macro _ _ _ refl

-- `Self {} ! {&}`: nothing is read
member_macro_border_5 : NotDerived (rule member_macro)
    (leaf (ident w_Self_type) (at 0 4) (group Brace (at 5 6) (at 6 7) end (punct 33 false (at 8 9) (group Brace (at 10 11) (at 12 13) (punct 38 false (at 11 12) end) end))))
unfolding left is_end lookahead_at sees take_token take_lifetime take_mark take_group before rows_for rows run parse_rule
member_macro_border_5 = not_read member_macro _ refl

-- `{} Self ! {&}`: nothing is read
member_macro_border_6 : NotDerived (rule member_macro)
    (group Brace (at 0 1) (at 1 2) end (leaf (ident w_Self_type) (at 3 7) (punct 33 false (at 8 9) (group Brace (at 10 11) (at 12 13) (punct 38 false (at 11 12) end) end))))
unfolding left is_end lookahead_at sees take_token take_lifetime take_mark take_group before rows_for rows run parse_rule
member_macro_border_6 = not_read member_macro _ refl

-- `Self Self ! {&}`: nothing is read
member_macro_border_7 : NotDerived (rule member_macro)
    (leaf (ident w_Self_type) (at 0 4) (leaf (ident w_Self_type) (at 5 9) (punct 33 false (at 10 11) (group Brace (at 12 13) (at 14 15) (punct 38 false (at 13 14) end) end))))
unfolding left is_end lookahead_at sees take_token take_lifetime take_mark take_group before rows_for rows run parse_rule
member_macro_border_7 = not_read member_macro _ refl
