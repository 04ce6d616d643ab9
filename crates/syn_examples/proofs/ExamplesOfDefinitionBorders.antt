-- Written by tools/grammar.py from specs/Table.antt; edits are lost.
-- Worked examples of borders of type aliases, modules, traits and trait aliases, from tools/examples.txt: what each rule reads, prints and refuses. The checker computes each.
use Rattle.std.proofs.Common.{true, false, [], ◌∷◌, refl}
use Rattle.syn_grammar.specs.Words.{w_underscore, w_const, w_crate, w_fn, w_mod, w_pub, w_Self_type, w_self, w_super, w_trait, w_try, w_type, w_unsafe, w_where, w_union, w_auto, w_default, w_safe}
use Rattle.syn_grammar.specs.Tokens.{call_site, Paren, Brace, Bracket, None, Int, ident, literal, end, leaf, punct, group}
use Rattle.syn_grammar.specs.Rules.{module_item, module_item_rest, alias_bounds, type_bounds, alias, trait_alias, trait_alias_rest, type_item, type_item_rest, supertraits, trait_definition, trait_definition_rest}
use Rattle.syn_grammar.specs.Grammar.{rule}
use Rattle.syn_grammar.specs.Take.{left, is_end, lookahead_at, sees, take_token, take_lifetime, take_mark, take_group, before, first_span}
use Rattle.syn_grammar.specs.Run.{rows_for, rows, run, parse_rule}
use Rattle.syn_grammar.specs.Promises.{NotDerived}
use Rattle.syn_grammar.proofs.Shown.{at, DerivesAs, computed, not_read}

-- `auto ;`: nothing is read
module_item_border_1 : NotDerived (rule module_item)
    (leaf (ident w_auto) (at 0 4) (punct 59 false (at 5 6) end))
unfolding left is_end lookahead_at sees take_token take_lifetime take_mark take_group before first_span rows_for rows run parse_rule
module_item_border_1 = not_read module_item _ refl

-- `mod auto ; pub` prints `mod auto ;` and leaves `pub`
module_item_border_2 : DerivesAs module_item
    (leaf (ident w_mod) (at 0 3) (leaf (ident w_auto) (at 4 8) (punct 59 false (at 9 10) (leaf (ident w_pub) (at 11 14) end))))
    (leaf (ident w_mod) call_site (leaf (ident w_auto) call_site (punct 59 false call_site end)))
    (leaf (ident w_pub) (at 11 14) end)
unfolding left is_end lookahead_at sees take_token take_lifetime take_mark take_group before first_span rows_for rows run parse_rule
module_item_border_2 = computed module_item _ _ _ refl

-- `mod auto ; # [c]` prints `mod auto ;` and leaves `# [c]`
module_item_border_3 : DerivesAs module_item
    (leaf (ident w_mod) (at 0 3) (leaf (ident w_auto) (at 4 8) (punct 59 false (at 9 10) (punct 35 false (at 11 12) (group Bracket (at 13 14) (at 15 16) (leaf (ident (99 ∷ [])) (at 14 15) end) end)))))
    (leaf (ident w_mod) call_site (leaf (ident w_auto) call_site (punct 59 false call_site end)))
    (punct 35 false (at 11 12) (group Bracket (at 13 14) (at 15 16) (leaf (ident (99 ∷ [])) (at 14 15) end) end))
unfolding left is_end lookahead_at sees take_token take_lifetime take_mark take_group before first_span rows_for rows run parse_rule
module_item_border_3 = computed module_item _ _ _ refl

-- `a ;`: nothing is read
module_item_rest_border_1 : NotDerived (rule module_item_rest)
    (leaf (ident (97 ∷ [])) (at 0 1) (punct 59 false (at 2 3) end))
unfolding left is_end lookahead_at sees take_token take_lifetime take_mark take_group before first_span rows_for rows run parse_rule
module_item_rest_border_1 = not_read module_item_rest _ refl

-- `mod 1 ;`: nothing is read
module_item_rest_border_2 : NotDerived (rule module_item_rest)
    (leaf (ident w_mod) (at 0 3) (leaf (literal Int (49 ∷ [])) (at 4 5) (punct 59 false (at 6 7) end)))
unfolding left is_end lookahead_at sees take_token take_lifetime take_mark take_group before first_span rows_for rows run parse_rule
module_item_rest_border_2 = not_read module_item_rest _ refl

-- `mod _ ;`: nothing is read
module_item_rest_border_3 : NotDerived (rule module_item_rest)
    (leaf (ident w_mod) (at 0 3) (leaf (ident w_underscore) (at 4 5) (punct 59 false (at 6 7) end)))
unfolding left is_end lookahead_at sees take_token take_lifetime take_mark take_group before first_span rows_for rows run parse_rule
module_item_rest_border_3 = not_read module_item_rest _ refl

-- `mod a ,`: nothing is read
module_item_rest_border_4 : NotDerived (rule module_item_rest)
    (leaf (ident w_mod) (at 0 3) (leaf (ident (97 ∷ [])) (at 4 5) (punct 44 false (at 6 7) end)))
unfolding left is_end lookahead_at sees take_token take_lifetime take_mark take_group before first_span rows_for rows run parse_rule
module_item_rest_border_4 = not_read module_item_rest _ refl

-- `mod fn ;`: nothing is read
module_item_rest_border_5 : NotDerived (rule module_item_rest)
    (leaf (ident w_mod) (at 0 3) (leaf (ident w_fn) (at 4 6) (punct 59 false (at 7 8) end)))
unfolding left is_end lookahead_at sees take_token take_lifetime take_mark take_group before first_span rows_for rows run parse_rule
module_item_rest_border_5 = not_read module_item_rest _ refl

-- `; mod a ;`: nothing is read
module_item_rest_border_6 : NotDerived (rule module_item_rest)
    (punct 59 false (at 0 1) (leaf (ident w_mod) (at 2 5) (leaf (ident (97 ∷ [])) (at 6 7) (punct 59 false (at 8 9) end))))
unfolding left is_end lookahead_at sees take_token take_lifetime take_mark take_group before first_span rows_for rows run parse_rule
module_item_rest_border_6 = not_read module_item_rest _ refl

-- `a mod a ;`: nothing is read
module_item_rest_border_7 : NotDerived (rule module_item_rest)
    (leaf (ident (97 ∷ [])) (at 0 1) (leaf (ident w_mod) (at 2 5) (leaf (ident (97 ∷ [])) (at 6 7) (punct 59 false (at 8 9) end))))
unfolding left is_end lookahead_at sees take_token take_lifetime take_mark take_group before first_span rows_for rows run parse_rule
module_item_rest_border_7 = not_read module_item_rest _ refl

-- `mod ; a ;`: nothing is read
module_item_rest_border_8 : NotDerived (rule module_item_rest)
    (leaf (ident w_mod) (at 0 3) (punct 59 false (at 4 5) (leaf (ident (97 ∷ [])) (at 6 7) (punct 59 false (at 8 9) end))))
unfolding left is_end lookahead_at sees take_token take_lifetime take_mark take_group before first_span rows_for rows run parse_rule
module_item_rest_border_8 = not_read module_item_rest _ refl

-- `mod a ; ;` prints `mod a ;` and leaves `;`
module_item_rest_border_9 : DerivesAs module_item_rest
    (leaf (ident w_mod) (at 0 3) (leaf (ident (97 ∷ [])) (at 4 5) (punct 59 false (at 6 7) (punct 59 false (at 8 9) end))))
    (leaf (ident w_mod) call_site (leaf (ident (97 ∷ [])) call_site (punct 59 false call_site end)))
    (punct 59 false (at 8 9) end)
unfolding left is_end lookahead_at sees take_token take_lifetime take_mark take_group before first_span rows_for rows run parse_rule
module_item_rest_border_9 = computed module_item_rest _ _ _ refl

-- `mod a ; b` prints `mod a ;` and leaves `b`
module_item_rest_border_10 : DerivesAs module_item_rest
    (leaf (ident w_mod) (at 0 3) (leaf (ident (97 ∷ [])) (at 4 5) (punct 59 false (at 6 7) (leaf (ident (98 ∷ [])) (at 8 9) end))))
    (leaf (ident w_mod) call_site (leaf (ident (97 ∷ [])) call_site (punct 59 false call_site end)))
    (leaf (ident (98 ∷ [])) (at 8 9) end)
unfolding left is_end lookahead_at sees take_token take_lifetime take_mark take_group before first_span rows_for rows run parse_rule
module_item_rest_border_10 = computed module_item_rest _ _ _ refl

-- `mod a a ;`: nothing is read
module_item_rest_border_11 : NotDerived (rule module_item_rest)
    (leaf (ident w_mod) (at 0 3) (leaf (ident (97 ∷ [])) (at 4 5) (leaf (ident (97 ∷ [])) (at 6 7) (punct 59 false (at 8 9) end))))
unfolding left is_end lookahead_at sees take_token take_lifetime take_mark take_group before first_span rows_for rows run parse_rule
module_item_rest_border_11 = not_read module_item_rest _ refl

-- `mod mod ;`: nothing is read
module_item_rest_border_12 : NotDerived (rule module_item_rest)
    (leaf (ident w_mod) (at 0 3) (leaf (ident w_mod) (at 4 7) (punct 59 false (at 8 9) end)))
unfolding left is_end lookahead_at sees take_token take_lifetime take_mark take_group before first_span rows_for rows run parse_rule
module_item_rest_border_12 = not_read module_item_rest _ refl

-- `mod try ;` prints `mod try ;`
module_item_rest_border_13 : DerivesAs module_item_rest
    (leaf (ident w_mod) (at 0 3) (leaf (ident w_try) (at 4 7) (punct 59 false (at 8 9) end)))
    (leaf (ident w_mod) call_site (leaf (ident w_try) call_site (punct 59 false call_site end)))
    (end)
unfolding left is_end lookahead_at sees take_token take_lifetime take_mark take_group before first_span rows_for rows run parse_rule
module_item_rest_border_13 = computed module_item_rest _ _ _ refl

-- `mod Self ;`: nothing is read
module_item_rest_border_14 : NotDerived (rule module_item_rest)
    (leaf (ident w_mod) (at 0 3) (leaf (ident w_Self_type) (at 4 8) (punct 59 false (at 9 10) end)))
unfolding left is_end lookahead_at sees take_token take_lifetime take_mark take_group before first_span rows_for rows run parse_rule
module_item_rest_border_14 = not_read module_item_rest _ refl

-- `mod safe ;` prints `mod safe ;`
module_item_rest_border_15 : DerivesAs module_item_rest
    (leaf (ident w_mod) (at 0 3) (leaf (ident w_safe) (at 4 8) (punct 59 false (at 9 10) end)))
    (leaf (ident w_mod) call_site (leaf (ident w_safe) call_site (punct 59 false call_site end)))
    (end)
unfolding left is_end lookahead_at sees take_token take_lifetime take_mark take_group before first_span rows_for rows run parse_rule
module_item_rest_border_15 = computed module_item_rest _ _ _ refl

-- `mod self ;`: nothing is read
module_item_rest_border_16 : NotDerived (rule module_item_rest)
    (leaf (ident w_mod) (at 0 3) (leaf (ident w_self) (at 4 8) (punct 59 false (at 9 10) end)))
unfolding left is_end lookahead_at sees take_token take_lifetime take_mark take_group before first_span rows_for rows run parse_rule
module_item_rest_border_16 = not_read module_item_rest _ refl

-- `mod a ; pub` prints `mod a ;` and leaves `pub`
module_item_rest_border_17 : DerivesAs module_item_rest
    (leaf (ident w_mod) (at 0 3) (leaf (ident (97 ∷ [])) (at 4 5) (punct 59 false (at 6 7) (leaf (ident w_pub) (at 8 11) end))))
    (leaf (ident w_mod) call_site (leaf (ident (97 ∷ [])) call_site (punct 59 false call_site end)))
    (leaf (ident w_pub) (at 8 11) end)
unfolding left is_end lookahead_at sees take_token take_lifetime take_mark take_group before first_span rows_for rows run parse_rule
module_item_rest_border_17 = computed module_item_rest _ _ _ refl

-- `mod a pub ;`: nothing is read
module_item_rest_border_18 : NotDerived (rule module_item_rest)
    (leaf (ident w_mod) (at 0 3) (leaf (ident (97 ∷ [])) (at 4 5) (leaf (ident w_pub) (at 6 9) (punct 59 false (at 10 11) end))))
unfolding left is_end lookahead_at sees take_token take_lifetime take_mark take_group before first_span rows_for rows run parse_rule
module_item_rest_border_18 = not_read module_item_rest _ refl

-- `mod auto ()`: nothing is read
module_item_rest_border_19 : NotDerived (rule module_item_rest)
    (leaf (ident w_mod) (at 0 3) (leaf (ident w_auto) (at 4 8) (group Paren (at 9 10) (at 10 11) end end)))
unfolding left is_end lookahead_at sees take_token take_lifetime take_mark take_group before first_span rows_for rows run parse_rule
module_item_rest_border_19 = not_read module_item_rest _ refl

-- `mod auto []`: nothing is read
module_item_rest_border_20 : NotDerived (rule module_item_rest)
    (leaf (ident w_mod) (at 0 3) (leaf (ident w_auto) (at 4 8) (group Bracket (at 9 10) (at 10 11) end end)))
unfolding left is_end lookahead_at sees take_token take_lifetime take_mark take_group before first_span rows_for rows run parse_rule
module_item_rest_border_20 = not_read module_item_rest _ refl

-- `mod crate ;`: nothing is read
module_item_rest_border_21 : NotDerived (rule module_item_rest)
    (leaf (ident w_mod) (at 0 3) (leaf (ident w_crate) (at 4 9) (punct 59 false (at 10 11) end)))
unfolding left is_end lookahead_at sees take_token take_lifetime take_mark take_group before first_span rows_for rows run parse_rule
module_item_rest_border_21 = not_read module_item_rest _ refl

-- `mod mod a ;`: nothing is read
module_item_rest_border_22 : NotDerived (rule module_item_rest)
    (leaf (ident w_mod) (at 0 3) (leaf (ident w_mod) (at 4 7) (leaf (ident (97 ∷ [])) (at 8 9) (punct 59 false (at 10 11) end))))
unfolding left is_end lookahead_at sees take_token take_lifetime take_mark take_group before first_span rows_for rows run parse_rule
module_item_rest_border_22 = not_read module_item_rest _ refl

-- `mod pub a ;`: nothing is read
module_item_rest_border_23 : NotDerived (rule module_item_rest)
    (leaf (ident w_mod) (at 0 3) (leaf (ident w_pub) (at 4 7) (leaf (ident (97 ∷ [])) (at 8 9) (punct 59 false (at 10 11) end))))
unfolding left is_end lookahead_at sees take_token take_lifetime take_mark take_group before first_span rows_for rows run parse_rule
module_item_rest_border_23 = not_read module_item_rest _ refl

-- `mod super ;`: nothing is read
module_item_rest_border_24 : NotDerived (rule module_item_rest)
    (leaf (ident w_mod) (at 0 3) (leaf (ident w_super) (at 4 9) (punct 59 false (at 10 11) end)))
unfolding left is_end lookahead_at sees take_token take_lifetime take_mark take_group before first_span rows_for rows run parse_rule
module_item_rest_border_24 = not_read module_item_rest _ refl

-- `mod unsafe {}`: nothing is read
module_item_rest_border_25 : NotDerived (rule module_item_rest)
    (leaf (ident w_mod) (at 0 3) (leaf (ident w_unsafe) (at 4 10) (group Brace (at 11 12) (at 12 13) end end)))
unfolding left is_end lookahead_at sees take_token take_lifetime take_mark take_group before first_span rows_for rows run parse_rule
module_item_rest_border_25 = not_read module_item_rest _ refl

-- `mod a ; unsafe` prints `mod a ;` and leaves `unsafe`
module_item_rest_border_26 : DerivesAs module_item_rest
    (leaf (ident w_mod) (at 0 3) (leaf (ident (97 ∷ [])) (at 4 5) (punct 59 false (at 6 7) (leaf (ident w_unsafe) (at 8 14) end))))
    (leaf (ident w_mod) call_site (leaf (ident (97 ∷ [])) call_site (punct 59 false call_site end)))
    (leaf (ident w_unsafe) (at 8 14) end)
unfolding left is_end lookahead_at sees take_token take_lifetime take_mark take_group before first_span rows_for rows run parse_rule
module_item_rest_border_26 = computed module_item_rest _ _ _ refl

-- `mod a unsafe ;`: nothing is read
module_item_rest_border_27 : NotDerived (rule module_item_rest)
    (leaf (ident w_mod) (at 0 3) (leaf (ident (97 ∷ [])) (at 4 5) (leaf (ident w_unsafe) (at 6 12) (punct 59 false (at 13 14) end))))
unfolding left is_end lookahead_at sees take_token take_lifetime take_mark take_group before first_span rows_for rows run parse_rule
module_item_rest_border_27 = not_read module_item_rest _ refl

-- `mod auto {} {}` prints `mod auto {}` and leaves `{}`
module_item_rest_border_28 : DerivesAs module_item_rest
    (leaf (ident w_mod) (at 0 3) (leaf (ident w_auto) (at 4 8) (group Brace (at 9 10) (at 10 11) end (group Brace (at 12 13) (at 13 14) end end))))
    (leaf (ident w_mod) call_site (leaf (ident w_auto) call_site (group Brace call_site call_site end end)))
    (group Brace (at 12 13) (at 13 14) end end)
unfolding left is_end lookahead_at sees take_token take_lifetime take_mark take_group before first_span rows_for rows run parse_rule
module_item_rest_border_28 = computed module_item_rest _ _ _ refl

-- `mod unsafe a ;`: nothing is read
module_item_rest_border_29 : NotDerived (rule module_item_rest)
    (leaf (ident w_mod) (at 0 3) (leaf (ident w_unsafe) (at 4 10) (leaf (ident (97 ∷ [])) (at 11 12) (punct 59 false (at 13 14) end))))
unfolding left is_end lookahead_at sees take_token take_lifetime take_mark take_group before first_span rows_for rows run parse_rule
module_item_rest_border_29 = not_read module_item_rest _ refl

-- `pub pub mod default ;`: nothing is read
module_item_rest_border_30 : NotDerived (rule module_item_rest)
    (leaf (ident w_pub) (at 0 3) (leaf (ident w_pub) (at 4 7) (leaf (ident w_mod) (at 8 11) (leaf (ident w_default) (at 12 19) (punct 59 false (at 20 21) end)))))
unfolding left is_end lookahead_at sees take_token take_lifetime take_mark take_group before first_span rows_for rows run parse_rule
module_item_rest_border_30 = not_read module_item_rest _ refl

-- `unsafe unsafe auto {}`: nothing is read
module_item_rest_border_31 : NotDerived (rule module_item_rest)
    (leaf (ident w_unsafe) (at 0 6) (leaf (ident w_unsafe) (at 7 13) (leaf (ident w_auto) (at 14 18) (group Brace (at 19 20) (at 20 21) end end))))
unfolding left is_end lookahead_at sees take_token take_lifetime take_mark take_group before first_span rows_for rows run parse_rule
module_item_rest_border_31 = not_read module_item_rest _ refl

-- `unsafe unsafe mod a ;`: nothing is read
module_item_rest_border_32 : NotDerived (rule module_item_rest)
    (leaf (ident w_unsafe) (at 0 6) (leaf (ident w_unsafe) (at 7 13) (leaf (ident w_mod) (at 14 17) (leaf (ident (97 ∷ [])) (at 18 19) (punct 59 false (at 20 21) end)))))
unfolding left is_end lookahead_at sees take_token take_lifetime take_mark take_group before first_span rows_for rows run parse_rule
module_item_rest_border_32 = not_read module_item_rest _ refl

-- `unsafe mod auto mod {}`: nothing is read
module_item_rest_border_33 : NotDerived (rule module_item_rest)
    (leaf (ident w_unsafe) (at 0 6) (leaf (ident w_mod) (at 7 10) (leaf (ident w_auto) (at 11 15) (leaf (ident w_mod) (at 16 19) (group Brace (at 20 21) (at 21 22) end end)))))
unfolding left is_end lookahead_at sees take_token take_lifetime take_mark take_group before first_span rows_for rows run parse_rule
module_item_rest_border_33 = not_read module_item_rest _ refl

-- `\(\) mod union {#! [union]}` prints `mod union {# ! [union]}`
module_item_rest_border_34 : DerivesAs module_item_rest
    (group None (at 0 2) (at 2 4) end (leaf (ident w_mod) (at 5 8) (leaf (ident w_union) (at 9 14) (group Brace (at 15 16) (at 26 27) (punct 35 true (at 16 17) (punct 33 false (at 17 18) (group Bracket (at 19 20) (at 25 26) (leaf (ident w_union) (at 20 25) end) end))) end))))
    (leaf (ident w_mod) call_site (leaf (ident w_union) call_site (group Brace call_site call_site (punct 35 false call_site (punct 33 false call_site (group Bracket call_site call_site (leaf (ident w_union) call_site end) end))) end)))
    (end)
unfolding left is_end lookahead_at sees take_token take_lifetime take_mark take_group before first_span rows_for rows run parse_rule
module_item_rest_border_34 = computed module_item_rest _ _ _ refl

-- `\(\) unsafe mod default {} mod` prints `unsafe mod default {}` and leaves `mod`
module_item_rest_border_35 : DerivesAs module_item_rest
    (group None (at 0 2) (at 2 4) end (leaf (ident w_unsafe) (at 5 11) (leaf (ident w_mod) (at 12 15) (leaf (ident w_default) (at 16 23) (group Brace (at 24 25) (at 25 26) end (leaf (ident w_mod) (at 27 30) end))))))
    (leaf (ident w_unsafe) call_site (leaf (ident w_mod) call_site (leaf (ident w_default) call_site (group Brace call_site call_site end end))))
    (leaf (ident w_mod) (at 27 30) end)
unfolding left is_end lookahead_at sees take_token take_lifetime take_mark take_group before first_span rows_for rows run parse_rule
module_item_rest_border_35 = computed module_item_rest _ _ _ refl

-- `auto ,` prints `auto` and leaves `,`
alias_bounds_border_1 : DerivesAs alias_bounds
    (leaf (ident w_auto) (at 0 4) (punct 44 false (at 5 6) end))
    (leaf (ident w_auto) call_site end)
    (punct 44 false (at 5 6) end)
unfolding left is_end lookahead_at sees take_token take_lifetime take_mark take_group before rows_for rows run parse_rule
alias_bounds_border_1 = computed alias_bounds _ _ _ refl

-- `auto auto` prints `auto` and leaves `auto`
alias_bounds_border_2 : DerivesAs alias_bounds
    (leaf (ident w_auto) (at 0 4) (leaf (ident w_auto) (at 5 9) end))
    (leaf (ident w_auto) call_site end)
    (leaf (ident w_auto) (at 5 9) end)
unfolding left is_end lookahead_at sees take_token take_lifetime take_mark take_group before rows_for rows run parse_rule
alias_bounds_border_2 = computed alias_bounds _ _ _ refl

-- `where auto` prints `` and leaves `where auto`
alias_bounds_border_3 : DerivesAs alias_bounds
    (leaf (ident w_where) (at 0 5) (leaf (ident w_auto) (at 6 10) end))
    (end)
    (leaf (ident w_where) (at 0 5) (leaf (ident w_auto) (at 6 10) end))
unfolding left is_end lookahead_at sees take_token take_lifetime take_mark take_group before rows_for rows run parse_rule
alias_bounds_border_3 = computed alias_bounds _ _ _ refl

-- `a + 'b + +;`: nothing is read
alias_bounds_border_4 : NotDerived (rule alias_bounds)
    (leaf (ident (97 ∷ [])) (at 0 1) (punct 43 false (at 2 3) (punct 39 true (at 4 5) (leaf (ident (98 ∷ [])) (at 5 6) (punct 43 false (at 7 8) (punct 43 true (at 9 10) (punct 59 false (at 10 11) end)))))))
unfolding left is_end lookahead_at sees take_token take_lifetime take_mark take_group before rows_for rows run parse_rule
alias_bounds_border_4 = not_read alias_bounds _ refl

-- `crate + :: default` prints `crate + :: default`
alias_bounds_border_5 : DerivesAs alias_bounds
    (leaf (ident w_crate) (at 0 5) (punct 43 false (at 6 7) (punct 58 true (at 8 9) (punct 58 false (at 9 10) (leaf (ident w_default) (at 11 18) end)))))
    (leaf (ident w_crate) call_site (punct 43 false call_site (punct 58 true call_site (punct 58 false call_site (leaf (ident w_default) call_site end)))))
    (end)
unfolding left is_end lookahead_at sees take_token take_lifetime take_mark take_group before rows_for rows run parse_rule
alias_bounds_border_5 = computed alias_bounds _ _ _ refl

-- `a b` prints `a` and leaves `b`
type_bounds_border_1 : DerivesAs type_bounds
    (leaf (ident (97 ∷ [])) (at 0 1) (leaf (ident (98 ∷ [])) (at 2 3) end))
    (leaf (ident (97 ∷ [])) call_site end)
    (leaf (ident (98 ∷ [])) (at 2 3) end)
unfolding left is_end lookahead_at sees take_token take_lifetime take_mark take_group before rows_for rows run parse_rule
type_bounds_border_1 = computed type_bounds _ _ _ refl

-- `; auto` prints `` and leaves `; auto`
type_bounds_border_2 : DerivesAs type_bounds
    (punct 59 false (at 0 1) (leaf (ident w_auto) (at 2 6) end))
    (end)
    (punct 59 false (at 0 1) (leaf (ident w_auto) (at 2 6) end))
unfolding left is_end lookahead_at sees take_token take_lifetime take_mark take_group before rows_for rows run parse_rule
type_bounds_border_2 = computed type_bounds _ _ _ refl

-- `auto +`: nothing is read
type_bounds_border_3 : NotDerived (rule type_bounds)
    (leaf (ident w_auto) (at 0 4) (punct 43 false (at 5 6) end))
unfolding left is_end lookahead_at sees take_token take_lifetime take_mark take_group before rows_for rows run parse_rule
type_bounds_border_3 = not_read type_bounds _ refl

-- `auto ,` prints `auto` and leaves `,`
type_bounds_border_4 : DerivesAs type_bounds
    (leaf (ident w_auto) (at 0 4) (punct 44 false (at 5 6) end))
    (leaf (ident w_auto) call_site end)
    (punct 44 false (at 5 6) end)
unfolding left is_end lookahead_at sees take_token take_lifetime take_mark take_group before rows_for rows run parse_rule
type_bounds_border_4 = computed type_bounds _ _ _ refl

-- `a + = b` prints `a +` and leaves `= b`
type_bounds_border_5 : DerivesAs type_bounds
    (leaf (ident (97 ∷ [])) (at 0 1) (punct 43 false (at 2 3) (punct 61 false (at 4 5) (leaf (ident (98 ∷ [])) (at 6 7) end))))
    (leaf (ident (97 ∷ [])) call_site (punct 43 false call_site end))
    (punct 61 false (at 4 5) (leaf (ident (98 ∷ [])) (at 6 7) end))
unfolding left is_end lookahead_at sees take_token take_lifetime take_mark take_group before rows_for rows run parse_rule
type_bounds_border_5 = computed type_bounds _ _ _ refl

-- `where auto` prints `` and leaves `where auto`
type_bounds_border_6 : DerivesAs type_bounds
    (leaf (ident w_where) (at 0 5) (leaf (ident w_auto) (at 6 10) end))
    (end)
    (leaf (ident w_where) (at 0 5) (leaf (ident w_auto) (at 6 10) end))
unfolding left is_end lookahead_at sees take_token take_lifetime take_mark take_group before rows_for rows run parse_rule
type_bounds_border_6 = computed type_bounds _ _ _ refl

-- `+ union ? union`: nothing is read
type_bounds_border_7 : NotDerived (rule type_bounds)
    (punct 43 false (at 0 1) (leaf (ident w_union) (at 2 7) (punct 63 false (at 8 9) (leaf (ident w_union) (at 10 15) end))))
unfolding left is_end lookahead_at sees take_token take_lifetime take_mark take_group before rows_for rows run parse_rule
type_bounds_border_7 = not_read type_bounds _ refl

-- `crate + :: default` prints `crate + :: default`
type_bounds_border_8 : DerivesAs type_bounds
    (leaf (ident w_crate) (at 0 5) (punct 43 false (at 6 7) (punct 58 true (at 8 9) (punct 58 false (at 9 10) (leaf (ident w_default) (at 11 18) end)))))
    (leaf (ident w_crate) call_site (punct 43 false call_site (punct 58 true call_site (punct 58 false call_site (leaf (ident w_default) call_site end)))))
    (end)
unfolding left is_end lookahead_at sees take_token take_lifetime take_mark take_group before rows_for rows run parse_rule
type_bounds_border_8 = computed type_bounds _ _ _ refl

-- `a = ;`: nothing is read
alias_border_1 : NotDerived (rule alias)
    (leaf (ident (97 ∷ [])) (at 0 1) (punct 61 false (at 2 3) (punct 59 false (at 4 5) end)))
unfolding left is_end lookahead_at sees take_token take_lifetime take_mark take_group before rows_for rows run parse_rule
alias_border_1 = not_read alias _ refl

-- `trait = ;`: nothing is read
alias_border_2 : NotDerived (rule alias)
    (leaf (ident w_trait) (at 0 5) (punct 61 false (at 6 7) (punct 59 false (at 8 9) end)))
unfolding left is_end lookahead_at sees take_token take_lifetime take_mark take_group before rows_for rows run parse_rule
alias_border_2 = not_read alias _ refl

-- `trait 1 = ;`: nothing is read
alias_border_3 : NotDerived (rule alias)
    (leaf (ident w_trait) (at 0 5) (leaf (literal Int (49 ∷ [])) (at 6 7) (punct 61 false (at 8 9) (punct 59 false (at 10 11) end))))
unfolding left is_end lookahead_at sees take_token take_lifetime take_mark take_group before rows_for rows run parse_rule
alias_border_3 = not_read alias _ refl

-- `trait _ = ;`: nothing is read
alias_border_4 : NotDerived (rule alias)
    (leaf (ident w_trait) (at 0 5) (leaf (ident w_underscore) (at 6 7) (punct 61 false (at 8 9) (punct 59 false (at 10 11) end))))
unfolding left is_end lookahead_at sees take_token take_lifetime take_mark take_group before rows_for rows run parse_rule
alias_border_4 = not_read alias _ refl

-- `trait fn = ;`: nothing is read
alias_border_5 : NotDerived (rule alias)
    (leaf (ident w_trait) (at 0 5) (leaf (ident w_fn) (at 6 8) (punct 61 false (at 9 10) (punct 59 false (at 11 12) end))))
unfolding left is_end lookahead_at sees take_token take_lifetime take_mark take_group before rows_for rows run parse_rule
alias_border_5 = not_read alias _ refl

-- `Self auto = ;`: nothing is read
alias_border_6 : NotDerived (rule alias)
    (leaf (ident w_Self_type) (at 0 4) (leaf (ident w_auto) (at 5 9) (punct 61 false (at 10 11) (punct 59 false (at 12 13) end))))
unfolding left is_end lookahead_at sees take_token take_lifetime take_mark take_group before rows_for rows run parse_rule
alias_border_6 = not_read alias _ refl

-- `b trait a = ;`: nothing is read
alias_border_7 : NotDerived (rule alias)
    (leaf (ident (98 ∷ [])) (at 0 1) (leaf (ident w_trait) (at 2 7) (leaf (ident (97 ∷ [])) (at 8 9) (punct 61 false (at 10 11) (punct 59 false (at 12 13) end)))))
unfolding left is_end lookahead_at sees take_token take_lifetime take_mark take_group before rows_for rows run parse_rule
alias_border_7 = not_read alias _ refl

-- `trait a a = ;`: nothing is read
alias_border_8 : NotDerived (rule alias)
    (leaf (ident w_trait) (at 0 5) (leaf (ident (97 ∷ [])) (at 6 7) (leaf (ident (97 ∷ [])) (at 8 9) (punct 61 false (at 10 11) (punct 59 false (at 12 13) end)))))
unfolding left is_end lookahead_at sees take_token take_lifetime take_mark take_group before rows_for rows run parse_rule
alias_border_8 = not_read alias _ refl

-- `trait Self = ;`: nothing is read
alias_border_9 : NotDerived (rule alias)
    (leaf (ident w_trait) (at 0 5) (leaf (ident w_Self_type) (at 6 10) (punct 61 false (at 11 12) (punct 59 false (at 13 14) end))))
unfolding left is_end lookahead_at sees take_token take_lifetime take_mark take_group before rows_for rows run parse_rule
alias_border_9 = not_read alias _ refl

-- `trait safe = ;` prints `trait safe = ;`
alias_border_10 : DerivesAs alias
    (leaf (ident w_trait) (at 0 5) (leaf (ident w_safe) (at 6 10) (punct 61 false (at 11 12) (punct 59 false (at 13 14) end))))
    (leaf (ident w_trait) call_site (leaf (ident w_safe) call_site (punct 61 false call_site (punct 59 false call_site end))))
    (end)
unfolding left is_end lookahead_at sees take_token take_lifetime take_mark take_group before rows_for rows run parse_rule
alias_border_10 = computed alias _ _ _ refl

-- `trait safe ==;`: nothing is read
alias_border_11 : NotDerived (rule alias)
    (leaf (ident w_trait) (at 0 5) (leaf (ident w_safe) (at 6 10) (punct 61 true (at 11 12) (punct 61 true (at 12 13) (punct 59 false (at 13 14) end)))))
unfolding left is_end lookahead_at sees take_token take_lifetime take_mark take_group before rows_for rows run parse_rule
alias_border_11 = not_read alias _ refl

-- `trait self = ;`: nothing is read
alias_border_12 : NotDerived (rule alias)
    (leaf (ident w_trait) (at 0 5) (leaf (ident w_self) (at 6 10) (punct 61 false (at 11 12) (punct 59 false (at 13 14) end))))
unfolding left is_end lookahead_at sees take_token take_lifetime take_mark take_group before rows_for rows run parse_rule
alias_border_12 = not_read alias _ refl

-- `< > trait a = ;`: nothing is read
alias_border_13 : NotDerived (rule alias)
    (punct 60 false (at 0 1) (punct 62 false (at 2 3) (leaf (ident w_trait) (at 4 9) (leaf (ident (97 ∷ [])) (at 10 11) (punct 61 false (at 12 13) (punct 59 false (at 14 15) end))))))
unfolding left is_end lookahead_at sees take_token take_lifetime take_mark take_group before rows_for rows run parse_rule
alias_border_13 = not_read alias _ refl

-- `trait crate = ;`: nothing is read
alias_border_14 : NotDerived (rule alias)
    (leaf (ident w_trait) (at 0 5) (leaf (ident w_crate) (at 6 11) (punct 61 false (at 12 13) (punct 59 false (at 14 15) end))))
unfolding left is_end lookahead_at sees take_token take_lifetime take_mark take_group before rows_for rows run parse_rule
alias_border_14 = not_read alias _ refl

-- `trait super = ;`: nothing is read
alias_border_15 : NotDerived (rule alias)
    (leaf (ident w_trait) (at 0 5) (leaf (ident w_super) (at 6 11) (punct 61 false (at 12 13) (punct 59 false (at 14 15) end))))
unfolding left is_end lookahead_at sees take_token take_lifetime take_mark take_group before rows_for rows run parse_rule
alias_border_15 = not_read alias _ refl

-- `trait trait = ;`: nothing is read
alias_border_16 : NotDerived (rule alias)
    (leaf (ident w_trait) (at 0 5) (leaf (ident w_trait) (at 6 11) (punct 61 false (at 12 13) (punct 59 false (at 14 15) end))))
unfolding left is_end lookahead_at sees take_token take_lifetime take_mark take_group before rows_for rows run parse_rule
alias_border_16 = not_read alias _ refl

-- `trait union = ;` prints `trait union = ;`
alias_border_17 : DerivesAs alias
    (leaf (ident w_trait) (at 0 5) (leaf (ident w_union) (at 6 11) (punct 61 false (at 12 13) (punct 59 false (at 14 15) end))))
    (leaf (ident w_trait) call_site (leaf (ident w_union) call_site (punct 61 false call_site (punct 59 false call_site end))))
    (end)
unfolding left is_end lookahead_at sees take_token take_lifetime take_mark take_group before rows_for rows run parse_rule
alias_border_17 = computed alias _ _ _ refl

-- `; trait auto = ;`: nothing is read
alias_border_18 : NotDerived (rule alias)
    (punct 59 false (at 0 1) (leaf (ident w_trait) (at 2 7) (leaf (ident w_auto) (at 8 12) (punct 61 false (at 13 14) (punct 59 false (at 15 16) end)))))
unfolding left is_end lookahead_at sees take_token take_lifetime take_mark take_group before rows_for rows run parse_rule
alias_border_18 = not_read alias _ refl

-- `trait ; auto = ;`: nothing is read
alias_border_19 : NotDerived (rule alias)
    (leaf (ident w_trait) (at 0 5) (punct 59 false (at 6 7) (leaf (ident w_auto) (at 8 12) (punct 61 false (at 13 14) (punct 59 false (at 15 16) end)))))
unfolding left is_end lookahead_at sees take_token take_lifetime take_mark take_group before rows_for rows run parse_rule
alias_border_19 = not_read alias _ refl

-- `trait a trait =;`: nothing is read
alias_border_20 : NotDerived (rule alias)
    (leaf (ident w_trait) (at 0 5) (leaf (ident (97 ∷ [])) (at 6 7) (leaf (ident w_trait) (at 8 13) (punct 61 true (at 14 15) (punct 59 false (at 15 16) end)))))
unfolding left is_end lookahead_at sees take_token take_lifetime take_mark take_group before rows_for rows run parse_rule
alias_border_20 = not_read alias _ refl

-- `trait auto ; = ;`: nothing is read
alias_border_21 : NotDerived (rule alias)
    (leaf (ident w_trait) (at 0 5) (leaf (ident w_auto) (at 6 10) (punct 59 false (at 11 12) (punct 61 false (at 13 14) (punct 59 false (at 15 16) end)))))
unfolding left is_end lookahead_at sees take_token take_lifetime take_mark take_group before rows_for rows run parse_rule
alias_border_21 = not_read alias _ refl

-- `trait auto = ; ;` prints `trait auto = ;` and leaves `;`
alias_border_22 : DerivesAs alias
    (leaf (ident w_trait) (at 0 5) (leaf (ident w_auto) (at 6 10) (punct 61 false (at 11 12) (punct 59 false (at 13 14) (punct 59 false (at 15 16) end)))))
    (leaf (ident w_trait) call_site (leaf (ident w_auto) call_site (punct 61 false call_site (punct 59 false call_site end))))
    (punct 59 false (at 15 16) end)
unfolding left is_end lookahead_at sees take_token take_lifetime take_mark take_group before rows_for rows run parse_rule
alias_border_22 = computed alias _ _ _ refl

-- `trait auto = ; b` prints `trait auto = ;` and leaves `b`
alias_border_23 : DerivesAs alias
    (leaf (ident w_trait) (at 0 5) (leaf (ident w_auto) (at 6 10) (punct 61 false (at 11 12) (punct 59 false (at 13 14) (leaf (ident (98 ∷ [])) (at 15 16) end)))))
    (leaf (ident w_trait) call_site (leaf (ident w_auto) call_site (punct 61 false call_site (punct 59 false call_site end))))
    (leaf (ident (98 ∷ [])) (at 15 16) end)
unfolding left is_end lookahead_at sees take_token take_lifetime take_mark take_group before rows_for rows run parse_rule
alias_border_23 = computed alias _ _ _ refl

-- `trait T = where ,`: nothing is read
alias_border_24 : NotDerived (rule alias)
    (leaf (ident w_trait) (at 0 5) (leaf (ident (84 ∷ [])) (at 6 7) (punct 61 false (at 8 9) (leaf (ident w_where) (at 10 15) (punct 44 false (at 16 17) end)))))
unfolding left is_end lookahead_at sees take_token take_lifetime take_mark take_group before rows_for rows run parse_rule
alias_border_24 = not_read alias _ refl

-- `trait trait a = ;`: nothing is read
alias_border_25 : NotDerived (rule alias)
    (leaf (ident w_trait) (at 0 5) (leaf (ident w_trait) (at 6 11) (leaf (ident (97 ∷ [])) (at 12 13) (punct 61 false (at 14 15) (punct 59 false (at 16 17) end)))))
unfolding left is_end lookahead_at sees take_token take_lifetime take_mark take_group before rows_for rows run parse_rule
alias_border_25 = not_read alias _ refl

-- `= trait default =;`: nothing is read
alias_border_26 : NotDerived (rule alias)
    (punct 61 false (at 0 1) (leaf (ident w_trait) (at 2 7) (leaf (ident w_default) (at 8 15) (punct 61 true (at 16 17) (punct 59 false (at 17 18) end)))))
unfolding left is_end lookahead_at sees take_token take_lifetime take_mark take_group before rows_for rows run parse_rule
alias_border_26 = not_read alias _ refl

-- `trait < > auto = ;`: nothing is read
alias_border_27 : NotDerived (rule alias)
    (leaf (ident w_trait) (at 0 5) (punct 60 false (at 6 7) (punct 62 false (at 8 9) (leaf (ident w_auto) (at 10 14) (punct 61 false (at 15 16) (punct 59 false (at 17 18) end))))))
unfolding left is_end lookahead_at sees take_token take_lifetime take_mark take_group before rows_for rows run parse_rule
alias_border_27 = not_read alias _ refl

-- `trait auto = ; < >` prints `trait auto = ;` and leaves `< >`
alias_border_28 : DerivesAs alias
    (leaf (ident w_trait) (at 0 5) (leaf (ident w_auto) (at 6 10) (punct 61 false (at 11 12) (punct 59 false (at 13 14) (punct 60 false (at 15 16) (punct 62 false (at 17 18) end))))))
    (leaf (ident w_trait) call_site (leaf (ident w_auto) call_site (punct 61 false call_site (punct 59 false call_site end))))
    (punct 60 false (at 15 16) (punct 62 false (at 17 18) end))
unfolding left is_end lookahead_at sees take_token take_lifetime take_mark take_group before rows_for rows run parse_rule
alias_border_28 = computed alias _ _ _ refl

-- `trait auto = ; = c` prints `trait auto = ;` and leaves `= c`
alias_border_29 : DerivesAs alias
    (leaf (ident w_trait) (at 0 5) (leaf (ident w_auto) (at 6 10) (punct 61 false (at 11 12) (punct 59 false (at 13 14) (punct 61 false (at 15 16) (leaf (ident (99 ∷ [])) (at 17 18) end))))))
    (leaf (ident w_trait) call_site (leaf (ident w_auto) call_site (punct 61 false call_site (punct 59 false call_site end))))
    (punct 61 false (at 15 16) (leaf (ident (99 ∷ [])) (at 17 18) end))
unfolding left is_end lookahead_at sees take_token take_lifetime take_mark take_group before rows_for rows run parse_rule
alias_border_29 = computed alias _ _ _ refl

-- `trait auto = < > ;`: nothing is read
alias_border_30 : NotDerived (rule alias)
    (leaf (ident w_trait) (at 0 5) (leaf (ident w_auto) (at 6 10) (punct 61 false (at 11 12) (punct 60 false (at 13 14) (punct 62 false (at 15 16) (punct 59 false (at 17 18) end))))))
unfolding left is_end lookahead_at sees take_token take_lifetime take_mark take_group before rows_for rows run parse_rule
alias_border_30 = not_read alias _ refl

-- `trait auto = c = ;`: nothing is read
alias_border_31 : NotDerived (rule alias)
    (leaf (ident w_trait) (at 0 5) (leaf (ident w_auto) (at 6 10) (punct 61 false (at 11 12) (leaf (ident (99 ∷ [])) (at 13 14) (punct 61 false (at 15 16) (punct 59 false (at 17 18) end))))))
unfolding left is_end lookahead_at sees take_token take_lifetime take_mark take_group before rows_for rows run parse_rule
alias_border_31 = not_read alias _ refl

-- `trait = default = ;`: nothing is read
alias_border_32 : NotDerived (rule alias)
    (leaf (ident w_trait) (at 0 5) (punct 61 false (at 6 7) (leaf (ident w_default) (at 8 15) (punct 61 false (at 16 17) (punct 59 false (at 18 19) end)))))
unfolding left is_end lookahead_at sees take_token take_lifetime take_mark take_group before rows_for rows run parse_rule
alias_border_32 = not_read alias _ refl

-- `trait auto = ; where` prints `trait auto = ;` and leaves `where`
alias_border_33 : DerivesAs alias
    (leaf (ident w_trait) (at 0 5) (leaf (ident w_auto) (at 6 10) (punct 61 false (at 11 12) (punct 59 false (at 13 14) (leaf (ident w_where) (at 15 20) end)))))
    (leaf (ident w_trait) call_site (leaf (ident w_auto) call_site (punct 61 false call_site (punct 59 false call_site end))))
    (leaf (ident w_where) (at 15 20) end)
unfolding left is_end lookahead_at sees take_token take_lifetime take_mark take_group before rows_for rows run parse_rule
alias_border_33 = computed alias _ _ _ refl

-- `trait auto where = ;`: nothing is read
alias_border_34 : NotDerived (rule alias)
    (leaf (ident w_trait) (at 0 5) (leaf (ident w_auto) (at 6 10) (leaf (ident w_where) (at 11 16) (punct 61 false (at 17 18) (punct 59 false (at 19 20) end)))))
unfolding left is_end lookahead_at sees take_token take_lifetime take_mark take_group before rows_for rows run parse_rule
alias_border_34 = not_read alias _ refl

-- `trait safe = trait ;`: nothing is read
alias_border_35 : NotDerived (rule alias)
    (leaf (ident w_trait) (at 0 5) (leaf (ident w_safe) (at 6 10) (punct 61 false (at 11 12) (leaf (ident w_trait) (at 13 18) (punct 59 false (at 19 20) end)))))
unfolding left is_end lookahead_at sees take_token take_lifetime take_mark take_group before rows_for rows run parse_rule
alias_border_35 = not_read alias _ refl

-- `trait auto < > < > = ;`: nothing is read
alias_border_36 : NotDerived (rule alias)
    (leaf (ident w_trait) (at 0 5) (leaf (ident w_auto) (at 6 10) (punct 60 false (at 11 12) (punct 62 false (at 13 14) (punct 60 false (at 15 16) (punct 62 false (at 17 18) (punct 61 false (at 19 20) (punct 59 false (at 21 22) end))))))))
unfolding left is_end lookahead_at sees take_token take_lifetime take_mark take_group before rows_for rows run parse_rule
alias_border_36 = not_read alias _ refl

-- `trait auto = b union ;`: nothing is read
alias_border_37 : NotDerived (rule alias)
    (leaf (ident w_trait) (at 0 5) (leaf (ident w_auto) (at 6 10) (punct 61 false (at 11 12) (leaf (ident (98 ∷ [])) (at 13 14) (leaf (ident w_union) (at 15 20) (punct 59 false (at 21 22) end))))))
unfolding left is_end lookahead_at sees take_token take_lifetime take_mark take_group before rows_for rows run parse_rule
alias_border_37 = not_read alias _ refl

-- `trait default =; trait` prints `trait default = ;` and leaves `trait`
alias_border_38 : DerivesAs alias
    (leaf (ident w_trait) (at 0 5) (leaf (ident w_default) (at 6 13) (punct 61 true (at 14 15) (punct 59 false (at 15 16) (leaf (ident w_trait) (at 17 22) end)))))
    (leaf (ident w_trait) call_site (leaf (ident w_default) call_site (punct 61 false call_site (punct 59 false call_site end))))
    (leaf (ident w_trait) (at 17 22) end)
unfolding left is_end lookahead_at sees take_token take_lifetime take_mark take_group before rows_for rows run parse_rule
alias_border_38 = computed alias _ _ _ refl

-- `trait a < b > = c + d where e : f where ;`: nothing is read
alias_border_39 : NotDerived (rule alias)
    (leaf (ident w_trait) (at 0 5) (leaf (ident (97 ∷ [])) (at 6 7) (punct 60 false (at 8 9) (leaf (ident (98 ∷ [])) (at 10 11) (punct 62 false (at 12 13) (punct 61 false (at 14 15) (leaf (ident (99 ∷ [])) (at 16 17) (punct 43 false (at 18 19) (leaf (ident (100 ∷ [])) (at 20 21) (leaf (ident w_where) (at 22 27) (leaf (ident (101 ∷ [])) (at 28 29) (punct 58 false (at 30 31) (leaf (ident (102 ∷ [])) (at 32 33) (leaf (ident w_where) (at 34 39) (punct 59 false (at 40 41) end)))))))))))))))
unfolding left is_end lookahead_at sees take_token take_lifetime take_mark take_group before rows_for rows run parse_rule
alias_border_39 = not_read alias _ refl

-- `a =;`: nothing is read
trait_alias_border_1 : NotDerived (rule trait_alias)
    (leaf (ident (97 ∷ [])) (at 0 1) (punct 61 true (at 2 3) (punct 59 false (at 3 4) end)))
unfolding left is_end lookahead_at sees take_token take_lifetime take_mark take_group before rows_for rows run parse_rule
trait_alias_border_1 = not_read trait_alias _ refl

-- `trait a =;pub` prints `trait a = ;` and leaves `pub`
trait_alias_border_2 : DerivesAs trait_alias
    (leaf (ident w_trait) (at 0 5) (leaf (ident (97 ∷ [])) (at 6 7) (punct 61 true (at 8 9) (punct 59 false (at 9 10) (leaf (ident w_pub) (at 10 13) end)))))
    (leaf (ident w_trait) call_site (leaf (ident (97 ∷ [])) call_site (punct 61 false call_site (punct 59 false call_site end))))
    (leaf (ident w_pub) (at 10 13) end)
unfolding left is_end lookahead_at sees take_token take_lifetime take_mark take_group before rows_for rows run parse_rule
trait_alias_border_2 = computed trait_alias _ _ _ refl

-- `trait a =;# [c]` prints `trait a = ;` and leaves `# [c]`
trait_alias_border_3 : DerivesAs trait_alias
    (leaf (ident w_trait) (at 0 5) (leaf (ident (97 ∷ [])) (at 6 7) (punct 61 true (at 8 9) (punct 59 true (at 9 10) (punct 35 false (at 10 11) (group Bracket (at 12 13) (at 14 15) (leaf (ident (99 ∷ [])) (at 13 14) end) end))))))
    (leaf (ident w_trait) call_site (leaf (ident (97 ∷ [])) call_site (punct 61 false call_site (punct 59 false call_site end))))
    (punct 35 false (at 10 11) (group Bracket (at 12 13) (at 14 15) (leaf (ident (99 ∷ [])) (at 13 14) end) end))
unfolding left is_end lookahead_at sees take_token take_lifetime take_mark take_group before rows_for rows run parse_rule
trait_alias_border_3 = computed trait_alias _ _ _ refl

-- `pub trait a = ;` prints `pub trait a = ;`
trait_alias_rest_border_1 : DerivesAs trait_alias_rest
    (leaf (ident w_pub) (at 0 3) (leaf (ident w_trait) (at 4 9) (leaf (ident (97 ∷ [])) (at 10 11) (punct 61 false (at 12 13) (punct 59 false (at 14 15) end)))))
    (leaf (ident w_pub) call_site (leaf (ident w_trait) call_site (leaf (ident (97 ∷ [])) call_site (punct 61 false call_site (punct 59 false call_site end)))))
    (end)
unfolding left is_end lookahead_at sees take_token take_lifetime take_mark take_group before rows_for rows run parse_rule
trait_alias_rest_border_1 = computed trait_alias_rest _ _ _ refl

-- `trait a = ; pub` prints `trait a = ;` and leaves `pub`
trait_alias_rest_border_2 : DerivesAs trait_alias_rest
    (leaf (ident w_trait) (at 0 5) (leaf (ident (97 ∷ [])) (at 6 7) (punct 61 false (at 8 9) (punct 59 false (at 10 11) (leaf (ident w_pub) (at 12 15) end)))))
    (leaf (ident w_trait) call_site (leaf (ident (97 ∷ [])) call_site (punct 61 false call_site (punct 59 false call_site end))))
    (leaf (ident w_pub) (at 12 15) end)
unfolding left is_end lookahead_at sees take_token take_lifetime take_mark take_group before rows_for rows run parse_rule
trait_alias_rest_border_2 = computed trait_alias_rest _ _ _ refl

-- `\(\) pub trait safe = ;`: nothing is read
trait_alias_rest_border_3 : NotDerived (rule trait_alias_rest)
    (group None (at 0 2) (at 2 4) end (leaf (ident w_pub) (at 5 8) (leaf (ident w_trait) (at 9 14) (leaf (ident w_safe) (at 15 19) (punct 61 false (at 20 21) (punct 59 false (at 22 23) end))))))
unfolding left is_end lookahead_at sees take_token take_lifetime take_mark take_group before rows_for rows run parse_rule
trait_alias_rest_border_3 = not_read trait_alias_rest _ refl

-- `trait safe = ; trait union =` prints `trait safe = ;` and leaves `trait union =`
trait_alias_rest_border_4 : DerivesAs trait_alias_rest
    (leaf (ident w_trait) (at 0 5) (leaf (ident w_safe) (at 6 10) (punct 61 false (at 11 12) (punct 59 false (at 13 14) (leaf (ident w_trait) (at 15 20) (leaf (ident w_union) (at 21 26) (punct 61 false (at 27 28) end)))))))
    (leaf (ident w_trait) call_site (leaf (ident w_safe) call_site (punct 61 false call_site (punct 59 false call_site end))))
    (leaf (ident w_trait) (at 15 20) (leaf (ident w_union) (at 21 26) (punct 61 false (at 27 28) end)))
unfolding left is_end lookahead_at sees take_token take_lifetime take_mark take_group before rows_for rows run parse_rule
trait_alias_rest_border_4 = computed trait_alias_rest _ _ _ refl

-- `T = !;`: nothing is read
type_item_border_1 : NotDerived (rule type_item)
    (leaf (ident (84 ∷ [])) (at 0 1) (punct 61 false (at 2 3) (punct 33 true (at 4 5) (punct 59 false (at 5 6) end))))
unfolding left is_end lookahead_at sees take_token take_lifetime take_mark take_group before rows_for rows run parse_rule
type_item_border_1 = not_read type_item _ refl

-- `type T = !; pub` prints `type T = ! ;` and leaves `pub`
type_item_border_2 : DerivesAs type_item
    (leaf (ident w_type) (at 0 4) (leaf (ident (84 ∷ [])) (at 5 6) (punct 61 false (at 7 8) (punct 33 true (at 9 10) (punct 59 false (at 10 11) (leaf (ident w_pub) (at 12 15) end))))))
    (leaf (ident w_type) call_site (leaf (ident (84 ∷ [])) call_site (punct 61 false call_site (punct 33 false call_site (punct 59 false call_site end)))))
    (leaf (ident w_pub) (at 12 15) end)
unfolding left is_end lookahead_at sees take_token take_lifetime take_mark take_group before rows_for rows run parse_rule
type_item_border_2 = computed type_item _ _ _ refl

-- `type T = !; # [c]` prints `type T = ! ;` and leaves `# [c]`
type_item_border_3 : DerivesAs type_item
    (leaf (ident w_type) (at 0 4) (leaf (ident (84 ∷ [])) (at 5 6) (punct 61 false (at 7 8) (punct 33 true (at 9 10) (punct 59 false (at 10 11) (punct 35 false (at 12 13) (group Bracket (at 14 15) (at 16 17) (leaf (ident (99 ∷ [])) (at 15 16) end) end)))))))
    (leaf (ident w_type) call_site (leaf (ident (84 ∷ [])) call_site (punct 61 false call_site (punct 33 false call_site (punct 59 false call_site end)))))
    (punct 35 false (at 12 13) (group Bracket (at 14 15) (at 16 17) (leaf (ident (99 ∷ [])) (at 15 16) end) end))
unfolding left is_end lookahead_at sees take_token take_lifetime take_mark take_group before rows_for rows run parse_rule
type_item_border_3 = computed type_item _ _ _ refl

-- `auto = !;`: nothing is read
type_item_rest_border_1 : NotDerived (rule type_item_rest)
    (leaf (ident w_auto) (at 0 4) (punct 61 false (at 5 6) (punct 33 true (at 7 8) (punct 59 false (at 8 9) end))))
unfolding left is_end lookahead_at sees take_token take_lifetime take_mark take_group before rows_for rows run parse_rule
type_item_rest_border_1 = not_read type_item_rest _ refl

-- `type = ! ;`: nothing is read
type_item_rest_border_2 : NotDerived (rule type_item_rest)
    (leaf (ident w_type) (at 0 4) (punct 61 false (at 5 6) (punct 33 false (at 7 8) (punct 59 false (at 9 10) end))))
unfolding left is_end lookahead_at sees take_token take_lifetime take_mark take_group before rows_for rows run parse_rule
type_item_rest_border_2 = not_read type_item_rest _ refl

-- `type 1 = ! ;`: nothing is read
type_item_rest_border_3 : NotDerived (rule type_item_rest)
    (leaf (ident w_type) (at 0 4) (leaf (literal Int (49 ∷ [])) (at 5 6) (punct 61 false (at 7 8) (punct 33 false (at 9 10) (punct 59 false (at 11 12) end)))))
unfolding left is_end lookahead_at sees take_token take_lifetime take_mark take_group before rows_for rows run parse_rule
type_item_rest_border_3 = not_read type_item_rest _ refl

-- `type _ = ! ;`: nothing is read
type_item_rest_border_4 : NotDerived (rule type_item_rest)
    (leaf (ident w_type) (at 0 4) (leaf (ident w_underscore) (at 5 6) (punct 61 false (at 7 8) (punct 33 false (at 9 10) (punct 59 false (at 11 12) end)))))
unfolding left is_end lookahead_at sees take_token take_lifetime take_mark take_group before rows_for rows run parse_rule
type_item_rest_border_4 = not_read type_item_rest _ refl

-- `type auto !;`: nothing is read
type_item_rest_border_5 : NotDerived (rule type_item_rest)
    (leaf (ident w_type) (at 0 4) (leaf (ident w_auto) (at 5 9) (punct 33 true (at 10 11) (punct 59 false (at 11 12) end))))
unfolding left is_end lookahead_at sees take_token take_lifetime take_mark take_group before rows_for rows run parse_rule
type_item_rest_border_5 = not_read type_item_rest _ refl

-- `type auto = ;`: nothing is read
type_item_rest_border_6 : NotDerived (rule type_item_rest)
    (leaf (ident w_type) (at 0 4) (leaf (ident w_auto) (at 5 9) (punct 61 false (at 10 11) (punct 59 false (at 12 13) end))))
unfolding left is_end lookahead_at sees take_token take_lifetime take_mark take_group before rows_for rows run parse_rule
type_item_rest_border_6 = not_read type_item_rest _ refl

-- `type fn = ! ;`: nothing is read
type_item_rest_border_7 : NotDerived (rule type_item_rest)
    (leaf (ident w_type) (at 0 4) (leaf (ident w_fn) (at 5 7) (punct 61 false (at 8 9) (punct 33 false (at 10 11) (punct 59 false (at 12 13) end)))))
unfolding left is_end lookahead_at sees take_token take_lifetime take_mark take_group before rows_for rows run parse_rule
type_item_rest_border_7 = not_read type_item_rest _ refl

-- `Self auto = !;`: nothing is read
type_item_rest_border_8 : NotDerived (rule type_item_rest)
    (leaf (ident w_Self_type) (at 0 4) (leaf (ident w_auto) (at 5 9) (punct 61 false (at 10 11) (punct 33 true (at 12 13) (punct 59 false (at 13 14) end)))))
unfolding left is_end lookahead_at sees take_token take_lifetime take_mark take_group before rows_for rows run parse_rule
type_item_rest_border_8 = not_read type_item_rest _ refl

-- `a type a = b ;`: nothing is read
type_item_rest_border_9 : NotDerived (rule type_item_rest)
    (leaf (ident (97 ∷ [])) (at 0 1) (leaf (ident w_type) (at 2 6) (leaf (ident (97 ∷ [])) (at 7 8) (punct 61 false (at 9 10) (leaf (ident (98 ∷ [])) (at 11 12) (punct 59 false (at 13 14) end))))))
unfolding left is_end lookahead_at sees take_token take_lifetime take_mark take_group before rows_for rows run parse_rule
type_item_rest_border_9 = not_read type_item_rest _ refl

-- `type auto = !,`: nothing is read
type_item_rest_border_10 : NotDerived (rule type_item_rest)
    (leaf (ident w_type) (at 0 4) (leaf (ident w_auto) (at 5 9) (punct 61 false (at 10 11) (punct 33 true (at 12 13) (punct 44 false (at 13 14) end)))))
unfolding left is_end lookahead_at sees take_token take_lifetime take_mark take_group before rows_for rows run parse_rule
type_item_rest_border_10 = not_read type_item_rest _ refl

-- `type Self = ! ;`: nothing is read
type_item_rest_border_11 : NotDerived (rule type_item_rest)
    (leaf (ident w_type) (at 0 4) (leaf (ident w_Self_type) (at 5 9) (punct 61 false (at 10 11) (punct 33 false (at 12 13) (punct 59 false (at 14 15) end)))))
unfolding left is_end lookahead_at sees take_token take_lifetime take_mark take_group before rows_for rows run parse_rule
type_item_rest_border_11 = not_read type_item_rest _ refl

-- `type safe = ! ;` prints `type safe = ! ;`
type_item_rest_border_12 : DerivesAs type_item_rest
    (leaf (ident w_type) (at 0 4) (leaf (ident w_safe) (at 5 9) (punct 61 false (at 10 11) (punct 33 false (at 12 13) (punct 59 false (at 14 15) end)))))
    (leaf (ident w_type) call_site (leaf (ident w_safe) call_site (punct 61 false call_site (punct 33 false call_site (punct 59 false call_site end)))))
    (end)
unfolding left is_end lookahead_at sees take_token take_lifetime take_mark take_group before rows_for rows run parse_rule
type_item_rest_border_12 = computed type_item_rest _ _ _ refl

-- `type self = ! ;`: nothing is read
type_item_rest_border_13 : NotDerived (rule type_item_rest)
    (leaf (ident w_type) (at 0 4) (leaf (ident w_self) (at 5 9) (punct 61 false (at 10 11) (punct 33 false (at 12 13) (punct 59 false (at 14 15) end)))))
unfolding left is_end lookahead_at sees take_token take_lifetime take_mark take_group before rows_for rows run parse_rule
type_item_rest_border_13 = not_read type_item_rest _ refl

-- `; type auto = !;`: nothing is read
type_item_rest_border_14 : NotDerived (rule type_item_rest)
    (punct 59 false (at 0 1) (leaf (ident w_type) (at 2 6) (leaf (ident w_auto) (at 7 11) (punct 61 false (at 12 13) (punct 33 true (at 14 15) (punct 59 false (at 15 16) end))))))
unfolding left is_end lookahead_at sees take_token take_lifetime take_mark take_group before rows_for rows run parse_rule
type_item_rest_border_14 = not_read type_item_rest _ refl

-- `type ; auto = !;`: nothing is read
type_item_rest_border_15 : NotDerived (rule type_item_rest)
    (leaf (ident w_type) (at 0 4) (punct 59 false (at 5 6) (leaf (ident w_auto) (at 7 11) (punct 61 false (at 12 13) (punct 33 true (at 14 15) (punct 59 false (at 15 16) end))))))
unfolding left is_end lookahead_at sees take_token take_lifetime take_mark take_group before rows_for rows run parse_rule
type_item_rest_border_15 = not_read type_item_rest _ refl

-- `type auto ; = !;`: nothing is read
type_item_rest_border_16 : NotDerived (rule type_item_rest)
    (leaf (ident w_type) (at 0 4) (leaf (ident w_auto) (at 5 9) (punct 59 false (at 10 11) (punct 61 false (at 12 13) (punct 33 true (at 14 15) (punct 59 false (at 15 16) end))))))
unfolding left is_end lookahead_at sees take_token take_lifetime take_mark take_group before rows_for rows run parse_rule
type_item_rest_border_16 = not_read type_item_rest _ refl

-- `type auto = !; ;` prints `type auto = ! ;` and leaves `;`
type_item_rest_border_17 : DerivesAs type_item_rest
    (leaf (ident w_type) (at 0 4) (leaf (ident w_auto) (at 5 9) (punct 61 false (at 10 11) (punct 33 true (at 12 13) (punct 59 false (at 13 14) (punct 59 false (at 15 16) end))))))
    (leaf (ident w_type) call_site (leaf (ident w_auto) call_site (punct 61 false call_site (punct 33 false call_site (punct 59 false call_site end)))))
    (punct 59 false (at 15 16) end)
unfolding left is_end lookahead_at sees take_token take_lifetime take_mark take_group before rows_for rows run parse_rule
type_item_rest_border_17 = computed type_item_rest _ _ _ refl

-- `type auto = !; b` prints `type auto = ! ;` and leaves `b`
type_item_rest_border_18 : DerivesAs type_item_rest
    (leaf (ident w_type) (at 0 4) (leaf (ident w_auto) (at 5 9) (punct 61 false (at 10 11) (punct 33 true (at 12 13) (punct 59 false (at 13 14) (leaf (ident (98 ∷ [])) (at 15 16) end))))))
    (leaf (ident w_type) call_site (leaf (ident w_auto) call_site (punct 61 false call_site (punct 33 false call_site (punct 59 false call_site end)))))
    (leaf (ident (98 ∷ [])) (at 15 16) end)
unfolding left is_end lookahead_at sees take_token take_lifetime take_mark take_group before rows_for rows run parse_rule
type_item_rest_border_18 = computed type_item_rest _ _ _ refl

-- `type auto = !b ;`: nothing is read
type_item_rest_border_19 : NotDerived (rule type_item_rest)
    (leaf (ident w_type) (at 0 4) (leaf (ident w_auto) (at 5 9) (punct 61 false (at 10 11) (punct 33 false (at 12 13) (leaf (ident (98 ∷ [])) (at 13 14) (punct 59 false (at 15 16) end))))))
unfolding left is_end lookahead_at sees take_token take_lifetime take_mark take_group before rows_for rows run parse_rule
type_item_rest_border_19 = not_read type_item_rest _ refl

-- `type crate = ! ;`: nothing is read
type_item_rest_border_20 : NotDerived (rule type_item_rest)
    (leaf (ident w_type) (at 0 4) (leaf (ident w_crate) (at 5 10) (punct 61 false (at 11 12) (punct 33 false (at 13 14) (punct 59 false (at 15 16) end)))))
unfolding left is_end lookahead_at sees take_token take_lifetime take_mark take_group before rows_for rows run parse_rule
type_item_rest_border_20 = not_read type_item_rest _ refl

-- `type safe ==() ;`: nothing is read
type_item_rest_border_21 : NotDerived (rule type_item_rest)
    (leaf (ident w_type) (at 0 4) (leaf (ident w_safe) (at 5 9) (punct 61 true (at 10 11) (punct 61 false (at 11 12) (group Paren (at 12 13) (at 13 14) end (punct 59 false (at 15 16) end))))))
unfolding left is_end lookahead_at sees take_token take_lifetime take_mark take_group before rows_for rows run parse_rule
type_item_rest_border_21 = not_read type_item_rest _ refl

-- `type super = ! ;`: nothing is read
type_item_rest_border_22 : NotDerived (rule type_item_rest)
    (leaf (ident w_type) (at 0 4) (leaf (ident w_super) (at 5 10) (punct 61 false (at 11 12) (punct 33 false (at 13 14) (punct 59 false (at 15 16) end)))))
unfolding left is_end lookahead_at sees take_token take_lifetime take_mark take_group before rows_for rows run parse_rule
type_item_rest_border_22 = not_read type_item_rest _ refl

-- `type type = () ;`: nothing is read
type_item_rest_border_23 : NotDerived (rule type_item_rest)
    (leaf (ident w_type) (at 0 4) (leaf (ident w_type) (at 5 9) (punct 61 false (at 10 11) (group Paren (at 12 13) (at 13 14) end (punct 59 false (at 15 16) end)))))
unfolding left is_end lookahead_at sees take_token take_lifetime take_mark take_group before rows_for rows run parse_rule
type_item_rest_border_23 = not_read type_item_rest _ refl

-- `type b = ! type ;`: nothing is read
type_item_rest_border_24 : NotDerived (rule type_item_rest)
    (leaf (ident w_type) (at 0 4) (leaf (ident (98 ∷ [])) (at 5 6) (punct 61 false (at 7 8) (punct 33 false (at 9 10) (leaf (ident w_type) (at 11 15) (punct 59 false (at 16 17) end))))))
unfolding left is_end lookahead_at sees take_token take_lifetime take_mark take_group before rows_for rows run parse_rule
type_item_rest_border_24 = not_read type_item_rest _ refl

-- `< > type auto = !;`: nothing is read
type_item_rest_border_25 : NotDerived (rule type_item_rest)
    (punct 60 false (at 0 1) (punct 62 false (at 2 3) (leaf (ident w_type) (at 4 8) (leaf (ident w_auto) (at 9 13) (punct 61 false (at 14 15) (punct 33 true (at 16 17) (punct 59 false (at 17 18) end)))))))
unfolding left is_end lookahead_at sees take_token take_lifetime take_mark take_group before rows_for rows run parse_rule
type_item_rest_border_25 = not_read type_item_rest _ refl

-- `= c type auto = !;`: nothing is read
type_item_rest_border_26 : NotDerived (rule type_item_rest)
    (punct 61 false (at 0 1) (leaf (ident (99 ∷ [])) (at 2 3) (leaf (ident w_type) (at 4 8) (leaf (ident w_auto) (at 9 13) (punct 61 false (at 14 15) (punct 33 true (at 16 17) (punct 59 false (at 17 18) end)))))))
unfolding left is_end lookahead_at sees take_token take_lifetime take_mark take_group before rows_for rows run parse_rule
type_item_rest_border_26 = not_read type_item_rest _ refl

-- `type < > auto = !;`: nothing is read
type_item_rest_border_27 : NotDerived (rule type_item_rest)
    (leaf (ident w_type) (at 0 4) (punct 60 false (at 5 6) (punct 62 false (at 7 8) (leaf (ident w_auto) (at 9 13) (punct 61 false (at 14 15) (punct 33 true (at 16 17) (punct 59 false (at 17 18) end)))))))
unfolding left is_end lookahead_at sees take_token take_lifetime take_mark take_group before rows_for rows run parse_rule
type_item_rest_border_27 = not_read type_item_rest _ refl

-- `type = c auto = !;`: nothing is read
type_item_rest_border_28 : NotDerived (rule type_item_rest)
    (leaf (ident w_type) (at 0 4) (punct 61 false (at 5 6) (leaf (ident (99 ∷ [])) (at 7 8) (leaf (ident w_auto) (at 9 13) (punct 61 false (at 14 15) (punct 33 true (at 16 17) (punct 59 false (at 17 18) end)))))))
unfolding left is_end lookahead_at sees take_token take_lifetime take_mark take_group before rows_for rows run parse_rule
type_item_rest_border_28 = not_read type_item_rest _ refl

-- `type auto < > = !;` prints `type auto = ! ;`
type_item_rest_border_29 : DerivesAs type_item_rest
    (leaf (ident w_type) (at 0 4) (leaf (ident w_auto) (at 5 9) (punct 60 false (at 10 11) (punct 62 false (at 12 13) (punct 61 false (at 14 15) (punct 33 true (at 16 17) (punct 59 false (at 17 18) end)))))))
    (leaf (ident w_type) call_site (leaf (ident w_auto) call_site (punct 61 false call_site (punct 33 false call_site (punct 59 false call_site end)))))
    (end)
unfolding left is_end lookahead_at sees take_token take_lifetime take_mark take_group before rows_for rows run parse_rule
type_item_rest_border_29 = computed type_item_rest _ _ _ refl

-- `type auto = !; < >` prints `type auto = ! ;` and leaves `< >`
type_item_rest_border_30 : DerivesAs type_item_rest
    (leaf (ident w_type) (at 0 4) (leaf (ident w_auto) (at 5 9) (punct 61 false (at 10 11) (punct 33 true (at 12 13) (punct 59 false (at 13 14) (punct 60 false (at 15 16) (punct 62 false (at 17 18) end)))))))
    (leaf (ident w_type) call_site (leaf (ident w_auto) call_site (punct 61 false call_site (punct 33 false call_site (punct 59 false call_site end)))))
    (punct 60 false (at 15 16) (punct 62 false (at 17 18) end))
unfolding left is_end lookahead_at sees take_token take_lifetime take_mark take_group before rows_for rows run parse_rule
type_item_rest_border_30 = computed type_item_rest _ _ _ refl

-- `type auto = !; pub` prints `type auto = ! ;` and leaves `pub`
type_item_rest_border_31 : DerivesAs type_item_rest
    (leaf (ident w_type) (at 0 4) (leaf (ident w_auto) (at 5 9) (punct 61 false (at 10 11) (punct 33 true (at 12 13) (punct 59 false (at 13 14) (leaf (ident w_pub) (at 15 18) end))))))
    (leaf (ident w_type) call_site (leaf (ident w_auto) call_site (punct 61 false call_site (punct 33 false call_site (punct 59 false call_site end)))))
    (leaf (ident w_pub) (at 15 18) end)
unfolding left is_end lookahead_at sees take_token take_lifetime take_mark take_group before rows_for rows run parse_rule
type_item_rest_border_31 = computed type_item_rest _ _ _ refl

-- `type auto = !< > ;`: nothing is read
type_item_rest_border_32 : NotDerived (rule type_item_rest)
    (leaf (ident w_type) (at 0 4) (leaf (ident w_auto) (at 5 9) (punct 61 false (at 10 11) (punct 33 true (at 12 13) (punct 60 false (at 13 14) (punct 62 false (at 15 16) (punct 59 false (at 17 18) end)))))))
unfolding left is_end lookahead_at sees take_token take_lifetime take_mark take_group before rows_for rows run parse_rule
type_item_rest_border_32 = not_read type_item_rest _ refl

-- `type auto = != c ;`: nothing is read
type_item_rest_border_33 : NotDerived (rule type_item_rest)
    (leaf (ident w_type) (at 0 4) (leaf (ident w_auto) (at 5 9) (punct 61 false (at 10 11) (punct 33 true (at 12 13) (punct 61 false (at 13 14) (leaf (ident (99 ∷ [])) (at 15 16) (punct 59 false (at 17 18) end)))))))
unfolding left is_end lookahead_at sees take_token take_lifetime take_mark take_group before rows_for rows run parse_rule
type_item_rest_border_33 = not_read type_item_rest _ refl

-- `type auto = !pub ;`: nothing is read
type_item_rest_border_34 : NotDerived (rule type_item_rest)
    (leaf (ident w_type) (at 0 4) (leaf (ident w_auto) (at 5 9) (punct 61 false (at 10 11) (punct 33 false (at 12 13) (leaf (ident w_pub) (at 13 16) (punct 59 false (at 17 18) end))))))
unfolding left is_end lookahead_at sees take_token take_lifetime take_mark take_group before rows_for rows run parse_rule
type_item_rest_border_34 = not_read type_item_rest _ refl

-- `type auto pub = !;`: nothing is read
type_item_rest_border_35 : NotDerived (rule type_item_rest)
    (leaf (ident w_type) (at 0 4) (leaf (ident w_auto) (at 5 9) (leaf (ident w_pub) (at 10 13) (punct 61 false (at 14 15) (punct 33 true (at 16 17) (punct 59 false (at 17 18) end))))))
unfolding left is_end lookahead_at sees take_token take_lifetime take_mark take_group before rows_for rows run parse_rule
type_item_rest_border_35 = not_read type_item_rest _ refl

-- `type default = ! ;` prints `type default = ! ;`
type_item_rest_border_36 : DerivesAs type_item_rest
    (leaf (ident w_type) (at 0 4) (leaf (ident w_default) (at 5 12) (punct 61 false (at 13 14) (punct 33 false (at 15 16) (punct 59 false (at 17 18) end)))))
    (leaf (ident w_type) call_site (leaf (ident w_default) call_site (punct 61 false call_site (punct 33 false call_site (punct 59 false call_site end)))))
    (end)
unfolding left is_end lookahead_at sees take_token take_lifetime take_mark take_group before rows_for rows run parse_rule
type_item_rest_border_36 = computed type_item_rest _ _ _ refl

-- `type pub auto = !;`: nothing is read
type_item_rest_border_37 : NotDerived (rule type_item_rest)
    (leaf (ident w_type) (at 0 4) (leaf (ident w_pub) (at 5 8) (leaf (ident w_auto) (at 9 13) (punct 61 false (at 14 15) (punct 33 true (at 16 17) (punct 59 false (at 17 18) end))))))
unfolding left is_end lookahead_at sees take_token take_lifetime take_mark take_group before rows_for rows run parse_rule
type_item_rest_border_37 = not_read type_item_rest _ refl

-- `type auto auto = !;`: nothing is read
type_item_rest_border_38 : NotDerived (rule type_item_rest)
    (leaf (ident w_type) (at 0 4) (leaf (ident w_auto) (at 5 9) (leaf (ident w_auto) (at 10 14) (punct 61 false (at 15 16) (punct 33 true (at 17 18) (punct 59 false (at 18 19) end))))))
unfolding left is_end lookahead_at sees take_token take_lifetime take_mark take_group before rows_for rows run parse_rule
type_item_rest_border_38 = not_read type_item_rest _ refl

-- `type type auto = !;`: nothing is read
type_item_rest_border_39 : NotDerived (rule type_item_rest)
    (leaf (ident w_type) (at 0 4) (leaf (ident w_type) (at 5 9) (leaf (ident w_auto) (at 10 14) (punct 61 false (at 15 16) (punct 33 true (at 17 18) (punct 59 false (at 18 19) end))))))
unfolding left is_end lookahead_at sees take_token take_lifetime take_mark take_group before rows_for rows run parse_rule
type_item_rest_border_39 = not_read type_item_rest _ refl

-- `pub pub type a = b ;`: nothing is read
type_item_rest_border_40 : NotDerived (rule type_item_rest)
    (leaf (ident w_pub) (at 0 3) (leaf (ident w_pub) (at 4 7) (leaf (ident w_type) (at 8 12) (leaf (ident (97 ∷ [])) (at 13 14) (punct 61 false (at 15 16) (leaf (ident (98 ∷ [])) (at 17 18) (punct 59 false (at 19 20) end)))))))
unfolding left is_end lookahead_at sees take_token take_lifetime take_mark take_group before rows_for rows run parse_rule
type_item_rest_border_40 = not_read type_item_rest _ refl

-- `type auto = !; where` prints `type auto = ! ;` and leaves `where`
type_item_rest_border_41 : DerivesAs type_item_rest
    (leaf (ident w_type) (at 0 4) (leaf (ident w_auto) (at 5 9) (punct 61 false (at 10 11) (punct 33 true (at 12 13) (punct 59 false (at 13 14) (leaf (ident w_where) (at 15 20) end))))))
    (leaf (ident w_type) call_site (leaf (ident w_auto) call_site (punct 61 false call_site (punct 33 false call_site (punct 59 false call_site end)))))
    (leaf (ident w_where) (at 15 20) end)
unfolding left is_end lookahead_at sees take_token take_lifetime take_mark take_group before rows_for rows run parse_rule
type_item_rest_border_41 = computed type_item_rest _ _ _ refl

-- `type auto = !where ;` prints `type auto = ! ;`
type_item_rest_border_42 : DerivesAs type_item_rest
    (leaf (ident w_type) (at 0 4) (leaf (ident w_auto) (at 5 9) (punct 61 false (at 10 11) (punct 33 false (at 12 13) (leaf (ident w_where) (at 13 18) (punct 59 false (at 19 20) end))))))
    (leaf (ident w_type) call_site (leaf (ident w_auto) call_site (punct 61 false call_site (punct 33 false call_site (punct 59 false call_site end)))))
    (end)
unfolding left is_end lookahead_at sees take_token take_lifetime take_mark take_group before rows_for rows run parse_rule
type_item_rest_border_42 = computed type_item_rest _ _ _ refl

-- `type auto =super = ;`: nothing is read
type_item_rest_border_43 : NotDerived (rule type_item_rest)
    (leaf (ident w_type) (at 0 4) (leaf (ident w_auto) (at 5 9) (punct 61 false (at 10 11) (leaf (ident w_super) (at 11 16) (punct 61 false (at 17 18) (punct 59 false (at 19 20) end))))))
unfolding left is_end lookahead_at sees take_token take_lifetime take_mark take_group before rows_for rows run parse_rule
type_item_rest_border_43 = not_read type_item_rest _ refl

-- `type auto where = !;` prints `type auto = ! ;`
type_item_rest_border_44 : DerivesAs type_item_rest
    (leaf (ident w_type) (at 0 4) (leaf (ident w_auto) (at 5 9) (leaf (ident w_where) (at 10 15) (punct 61 false (at 16 17) (punct 33 true (at 18 19) (punct 59 false (at 19 20) end))))))
    (leaf (ident w_type) call_site (leaf (ident w_auto) call_site (punct 61 false call_site (punct 33 false call_site (punct 59 false call_site end)))))
    (end)
unfolding left is_end lookahead_at sees take_token take_lifetime take_mark take_group before rows_for rows run parse_rule
type_item_rest_border_44 = computed type_item_rest _ _ _ refl

-- `type default type = ! ;`: nothing is read
type_item_rest_border_45 : NotDerived (rule type_item_rest)
    (leaf (ident w_type) (at 0 4) (leaf (ident w_default) (at 5 12) (leaf (ident w_type) (at 13 17) (punct 61 false (at 18 19) (punct 33 false (at 20 21) (punct 59 false (at 22 23) end))))))
unfolding left is_end lookahead_at sees take_token take_lifetime take_mark take_group before rows_for rows run parse_rule
type_item_rest_border_45 = not_read type_item_rest _ refl

-- `type union = auto ; type` prints `type union = auto ;` and leaves `type`
type_item_rest_border_46 : DerivesAs type_item_rest
    (leaf (ident w_type) (at 0 4) (leaf (ident w_union) (at 5 10) (punct 61 false (at 11 12) (leaf (ident w_auto) (at 13 17) (punct 59 false (at 18 19) (leaf (ident w_type) (at 20 24) end))))))
    (leaf (ident w_type) call_site (leaf (ident w_union) call_site (punct 61 false call_site (leaf (ident w_auto) call_site (punct 59 false call_site end)))))
    (leaf (ident w_type) (at 20 24) end)
unfolding left is_end lookahead_at sees take_token take_lifetime take_mark take_group before rows_for rows run parse_rule
type_item_rest_border_46 = computed type_item_rest _ _ _ refl

-- `type default where = & ! where ;`: nothing is read
type_item_rest_border_47 : NotDerived (rule type_item_rest)
    (leaf (ident w_type) (at 0 4) (leaf (ident w_default) (at 5 12) (leaf (ident w_where) (at 13 18) (punct 61 false (at 19 20) (punct 38 false (at 21 22) (punct 33 false (at 23 24) (leaf (ident w_where) (at 25 30) (punct 59 false (at 31 32) end))))))))
unfolding left is_end lookahead_at sees take_token take_lifetime take_mark take_group before rows_for rows run parse_rule
type_item_rest_border_47 = not_read type_item_rest _ refl

-- `()`: nothing is read
supertraits_border_1 : NotDerived (rule supertraits)
    (group Paren (at 0 1) (at 1 2) end end)
unfolding left is_end lookahead_at sees take_token take_lifetime take_mark take_group before rows_for rows run parse_rule
supertraits_border_1 = not_read supertraits _ refl

-- `auto ,` prints `auto` and leaves `,`
supertraits_border_2 : DerivesAs supertraits
    (leaf (ident w_auto) (at 0 4) (punct 44 false (at 5 6) end))
    (leaf (ident w_auto) call_site end)
    (punct 44 false (at 5 6) end)
unfolding left is_end lookahead_at sees take_token take_lifetime take_mark take_group before rows_for rows run parse_rule
supertraits_border_2 = computed supertraits _ _ _ refl

-- `'a + + {}`: nothing is read
supertraits_border_3 : NotDerived (rule supertraits)
    (punct 39 true (at 0 1) (leaf (ident (97 ∷ [])) (at 1 2) (punct 43 false (at 3 4) (punct 43 false (at 5 6) (group Brace (at 7 8) (at 8 9) end end)))))
unfolding left is_end lookahead_at sees take_token take_lifetime take_mark take_group before rows_for rows run parse_rule
supertraits_border_3 = not_read supertraits _ refl

-- `auto auto` prints `auto` and leaves `auto`
supertraits_border_4 : DerivesAs supertraits
    (leaf (ident w_auto) (at 0 4) (leaf (ident w_auto) (at 5 9) end))
    (leaf (ident w_auto) call_site end)
    (leaf (ident w_auto) (at 5 9) end)
unfolding left is_end lookahead_at sees take_token take_lifetime take_mark take_group before rows_for rows run parse_rule
supertraits_border_4 = computed supertraits _ _ _ refl

-- `where auto` prints `` and leaves `where auto`
supertraits_border_5 : DerivesAs supertraits
    (leaf (ident w_where) (at 0 5) (leaf (ident w_auto) (at 6 10) end))
    (end)
    (leaf (ident w_where) (at 0 5) (leaf (ident w_auto) (at 6 10) end))
unfolding left is_end lookahead_at sees take_token take_lifetime take_mark take_group before rows_for rows run parse_rule
supertraits_border_5 = computed supertraits _ _ _ refl

-- `'a + b + []`: nothing is read
supertraits_border_6 : NotDerived (rule supertraits)
    (punct 39 true (at 0 1) (leaf (ident (97 ∷ [])) (at 1 2) (punct 43 false (at 3 4) (leaf (ident (98 ∷ [])) (at 5 6) (punct 43 false (at 7 8) (group Bracket (at 9 10) (at 10 11) end end))))))
unfolding left is_end lookahead_at sees take_token take_lifetime take_mark take_group before rows_for rows run parse_rule
supertraits_border_6 = not_read supertraits _ refl

-- `crate + :: default` prints `crate + :: default`
supertraits_border_7 : DerivesAs supertraits
    (leaf (ident w_crate) (at 0 5) (punct 43 false (at 6 7) (punct 58 true (at 8 9) (punct 58 false (at 9 10) (leaf (ident w_default) (at 11 18) end)))))
    (leaf (ident w_crate) call_site (punct 43 false call_site (punct 58 true call_site (punct 58 false call_site (leaf (ident w_default) call_site end)))))
    (end)
unfolding left is_end lookahead_at sees take_token take_lifetime take_mark take_group before rows_for rows run parse_rule
supertraits_border_7 = computed supertraits _ _ _ refl

-- `a {}`: nothing is read
trait_definition_border_1 : NotDerived (rule trait_definition)
    (leaf (ident (97 ∷ [])) (at 0 1) (group Brace (at 2 3) (at 3 4) end end))
unfolding left is_end lookahead_at sees take_token take_lifetime take_mark take_group before first_span rows_for rows run parse_rule
trait_definition_border_1 = not_read trait_definition _ refl

-- `trait a {} # [c]` prints `trait a {}` and leaves `# [c]`
trait_definition_border_2 : DerivesAs trait_definition
    (leaf (ident w_trait) (at 0 5) (leaf (ident (97 ∷ [])) (at 6 7) (group Brace (at 8 9) (at 9 10) end (punct 35 false (at 11 12) (group Bracket (at 13 14) (at 15 16) (leaf (ident (99 ∷ [])) (at 14 15) end) end)))))
    (leaf (ident w_trait) call_site (leaf (ident (97 ∷ [])) call_site (group Brace call_site call_site end end)))
    (punct 35 false (at 11 12) (group Bracket (at 13 14) (at 15 16) (leaf (ident (99 ∷ [])) (at 14 15) end) end))
unfolding left is_end lookahead_at sees take_token take_lifetime take_mark take_group before first_span rows_for rows run parse_rule
trait_definition_border_2 = computed trait_definition _ _ _ refl

-- `trait a {} const` prints `trait a {}` and leaves `const`
trait_definition_border_3 : DerivesAs trait_definition
    (leaf (ident w_trait) (at 0 5) (leaf (ident (97 ∷ [])) (at 6 7) (group Brace (at 8 9) (at 9 10) end (leaf (ident w_const) (at 11 16) end))))
    (leaf (ident w_trait) call_site (leaf (ident (97 ∷ [])) call_site (group Brace call_site call_site end end)))
    (leaf (ident w_const) (at 11 16) end)
unfolding left is_end lookahead_at sees take_token take_lifetime take_mark take_group before first_span rows_for rows run parse_rule
trait_definition_border_3 = computed trait_definition _ _ _ refl

-- `auto trait a {}` prints `auto trait a {}`
trait_definition_rest_border_1 : DerivesAs trait_definition_rest
    (leaf (ident w_auto) (at 0 4) (leaf (ident w_trait) (at 5 10) (leaf (ident (97 ∷ [])) (at 11 12) (group Brace (at 13 14) (at 14 15) end end))))
    (leaf (ident w_auto) call_site (leaf (ident w_trait) call_site (leaf (ident (97 ∷ [])) call_site (group Brace call_site call_site end end))))
    (end)
unfolding left is_end lookahead_at sees take_token take_lifetime take_mark take_group before first_span rows_for rows run parse_rule
trait_definition_rest_border_1 = computed trait_definition_rest _ _ _ refl

-- `const trait a {}` prints `const trait a {}`
trait_definition_rest_border_2 : DerivesAs trait_definition_rest
    (leaf (ident w_const) (at 0 5) (leaf (ident w_trait) (at 6 11) (leaf (ident (97 ∷ [])) (at 12 13) (group Brace (at 14 15) (at 15 16) end end))))
    (leaf (ident w_const) call_site (leaf (ident w_trait) call_site (leaf (ident (97 ∷ [])) call_site (group Brace call_site call_site end end))))
    (end)
unfolding left is_end lookahead_at sees take_token take_lifetime take_mark take_group before first_span rows_for rows run parse_rule
trait_definition_rest_border_2 = computed trait_definition_rest _ _ _ refl

-- `pub trait auto {}` prints `pub trait auto {}`
trait_definition_rest_border_3 : DerivesAs trait_definition_rest
    (leaf (ident w_pub) (at 0 3) (leaf (ident w_trait) (at 4 9) (leaf (ident w_auto) (at 10 14) (group Brace (at 15 16) (at 16 17) end end))))
    (leaf (ident w_pub) call_site (leaf (ident w_trait) call_site (leaf (ident w_auto) call_site (group Brace call_site call_site end end))))
    (end)
unfolding left is_end lookahead_at sees take_token take_lifetime take_mark take_group before first_span rows_for rows run parse_rule
trait_definition_rest_border_3 = computed trait_definition_rest _ _ _ refl

-- `trait auto {} pub` prints `trait auto {}` and leaves `pub`
trait_definition_rest_border_4 : DerivesAs trait_definition_rest
    (leaf (ident w_trait) (at 0 5) (leaf (ident w_auto) (at 6 10) (group Brace (at 11 12) (at 12 13) end (leaf (ident w_pub) (at 14 17) end))))
    (leaf (ident w_trait) call_site (leaf (ident w_auto) call_site (group Brace call_site call_site end end)))
    (leaf (ident w_pub) (at 14 17) end)
unfolding left is_end lookahead_at sees take_token take_lifetime take_mark take_group before first_span rows_for rows run parse_rule
trait_definition_rest_border_4 = computed trait_definition_rest _ _ _ refl

-- `trait auto {} const` prints `trait auto {}` and leaves `const`
trait_definition_rest_border_5 : DerivesAs trait_definition_rest
    (leaf (ident w_trait) (at 0 5) (leaf (ident w_auto) (at 6 10) (group Brace (at 11 12) (at 12 13) end (leaf (ident w_const) (at 14 19) end))))
    (leaf (ident w_trait) call_site (leaf (ident w_auto) call_site (group Brace call_site call_site end end)))
    (leaf (ident w_const) (at 14 19) end)
unfolding left is_end lookahead_at sees take_token take_lifetime take_mark take_group before first_span rows_for rows run parse_rule
trait_definition_rest_border_5 = computed trait_definition_rest _ _ _ refl

-- `trait auto {} unsafe` prints `trait auto {}` and leaves `unsafe`
trait_definition_rest_border_6 : DerivesAs trait_definition_rest
    (leaf (ident w_trait) (at 0 5) (leaf (ident w_auto) (at 6 10) (group Brace (at 11 12) (at 12 13) end (leaf (ident w_unsafe) (at 14 20) end))))
    (leaf (ident w_trait) call_site (leaf (ident w_auto) call_site (group Brace call_site call_site end end)))
    (leaf (ident w_unsafe) (at 14 20) end)
unfolding left is_end lookahead_at sees take_token take_lifetime take_mark take_group before first_span rows_for rows run parse_rule
trait_definition_rest_border_6 = computed trait_definition_rest _ _ _ refl

-- `const pub trait auto {}`: nothing is read
trait_definition_rest_border_7 : NotDerived (rule trait_definition_rest)
    (leaf (ident w_const) (at 0 5) (leaf (ident w_pub) (at 6 9) (leaf (ident w_trait) (at 10 15) (leaf (ident w_auto) (at 16 20) (group Brace (at 21 22) (at 22 23) end end)))))
unfolding left is_end lookahead_at sees take_token take_lifetime take_mark take_group before first_span rows_for rows run parse_rule
trait_definition_rest_border_7 = not_read trait_definition_rest _ refl

-- `const const trait auto {}`: nothing is read
trait_definition_rest_border_8 : NotDerived (rule trait_definition_rest)
    (leaf (ident w_const) (at 0 5) (leaf (ident w_const) (at 6 11) (leaf (ident w_trait) (at 12 17) (leaf (ident w_auto) (at 18 22) (group Brace (at 23 24) (at 24 25) end end)))))
unfolding left is_end lookahead_at sees take_token take_lifetime take_mark take_group before first_span rows_for rows run parse_rule
trait_definition_rest_border_8 = not_read trait_definition_rest _ refl
