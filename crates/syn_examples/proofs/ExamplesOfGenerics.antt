-- Written by tools/grammar.py from specs/Table.antt; edits are lost.
-- Worked examples of generics, bounds and where clauses, from tools/examples.txt: what each rule reads, prints and refuses. The checker computes each.
use Rattle.std.proofs.Common.{true, false, [], ◌∷◌, refl}
use Rattle.syn_grammar.specs.Words.{w_underscore, w_const, w_crate, w_fn, w_for, w_in, w_Self_type, w_self, w_super, w_where, w_union, w_auto, w_default, w_safe}
use Rattle.syn_grammar.specs.Tokens.{call_site, Paren, Brace, Bracket, Int, ident, literal, end, leaf, punct, group}
use Rattle.syn_grammar.specs.Rules.{generics, lifetime_parameter, lifetimes, parameter_bounds, bound, trait_bound, bound_lifetimes, lifetime_parameters, where_clause, predicates, predicate, predicate_bounds}
use Rattle.syn_grammar.specs.Grammar.{rule}
use Rattle.syn_grammar.specs.Take.{left, is_end, lookahead_at, sees, take_token, take_lifetime, take_mark, take_group, before}
use Rattle.syn_grammar.specs.Run.{rows_for, rows, run, parse_rule}
use Rattle.syn_grammar.specs.Promises.{Refused, NotDerived}
use Rattle.syn_grammar.proofs.Means.{not_derived}
use Rattle.syn_grammar.proofs.Shown.{at, DerivesAs, computed, not_read}

-- `<>` prints ``
generics_none : DerivesAs generics
    (punct 60 true (at 0 1) (punct 62 false (at 1 2) end))
    (end)
    (end)
unfolding left is_end lookahead_at sees take_token take_lifetime take_mark take_group before rows_for rows run parse_rule
generics_none = computed generics _ _ _ refl

-- `<#[a] T: ?for<'b> A<X = B> + (C) = D, const N: u8 = 3, 'a: 'b +>` prints `< 'a : 'b + , # [ a ] T : ? for < 'b > A < X = B > + ( C ) = D , const N : u8 = 3 , >`
generics_all : DerivesAs generics
    (punct 60 true (at 0 1) (punct 35 false (at 1 2) (group Bracket (at 2 3) (at 4 5) (leaf (ident (97 ∷ [])) (at 3 4) end) (leaf (ident (84 ∷ [])) (at 6 7) (punct 58 false (at 7 8) (punct 63 false (at 9 10) (leaf (ident w_for) (at 10 13) (punct 60 true (at 13 14) (punct 39 true (at 14 15) (leaf (ident (98 ∷ [])) (at 15 16) (punct 62 false (at 16 17) (leaf (ident (65 ∷ [])) (at 18 19) (punct 60 false (at 19 20) (leaf (ident (88 ∷ [])) (at 20 21) (punct 61 false (at 22 23) (leaf (ident (66 ∷ [])) (at 24 25) (punct 62 false (at 25 26) (punct 43 false (at 27 28) (group Paren (at 29 30) (at 31 32) (leaf (ident (67 ∷ [])) (at 30 31) end) (punct 61 false (at 33 34) (leaf (ident (68 ∷ [])) (at 35 36) (punct 44 false (at 36 37) (leaf (ident w_const) (at 38 43) (leaf (ident (78 ∷ [])) (at 44 45) (punct 58 false (at 45 46) (leaf (ident (117 ∷ 56 ∷ [])) (at 47 49) (punct 61 false (at 50 51) (leaf (literal Int (51 ∷ [])) (at 52 53) (punct 44 false (at 53 54) (punct 39 true (at 55 56) (leaf (ident (97 ∷ [])) (at 56 57) (punct 58 false (at 57 58) (punct 39 true (at 59 60) (leaf (ident (98 ∷ [])) (at 60 61) (punct 43 true (at 62 63) (punct 62 false (at 63 64) end))))))))))))))))))))))))))))))))))))
    (punct 60 false call_site (punct 39 true call_site (leaf (ident (97 ∷ [])) call_site (punct 58 false call_site (punct 39 true call_site (leaf (ident (98 ∷ [])) call_site (punct 43 false call_site (punct 44 false call_site (punct 35 false call_site (group Bracket call_site call_site (leaf (ident (97 ∷ [])) call_site end) (leaf (ident (84 ∷ [])) call_site (punct 58 false call_site (punct 63 false call_site (leaf (ident w_for) call_site (punct 60 false call_site (punct 39 true call_site (leaf (ident (98 ∷ [])) call_site (punct 62 false call_site (leaf (ident (65 ∷ [])) call_site (punct 60 false call_site (leaf (ident (88 ∷ [])) call_site (punct 61 false call_site (leaf (ident (66 ∷ [])) call_site (punct 62 false call_site (punct 43 false call_site (group Paren call_site call_site (leaf (ident (67 ∷ [])) call_site end) (punct 61 false call_site (leaf (ident (68 ∷ [])) call_site (punct 44 false call_site (leaf (ident w_const) call_site (leaf (ident (78 ∷ [])) call_site (punct 58 false call_site (leaf (ident (117 ∷ 56 ∷ [])) call_site (punct 61 false call_site (leaf (literal Int (51 ∷ [])) call_site (punct 44 false call_site (punct 62 false call_site end)))))))))))))))))))))))))))))))))))))
    (end)
unfolding left is_end lookahead_at sees take_token take_lifetime take_mark take_group before rows_for rows run parse_rule
generics_all = computed generics _ _ _ refl

-- `<T:, 'a:>` prints `< 'a , T , >`
generics_no_bounds : DerivesAs generics
    (punct 60 false (at 0 1) (leaf (ident (84 ∷ [])) (at 1 2) (punct 58 true (at 2 3) (punct 44 false (at 3 4) (punct 39 true (at 5 6) (leaf (ident (97 ∷ [])) (at 6 7) (punct 58 true (at 7 8) (punct 62 false (at 8 9) end))))))))
    (punct 60 false call_site (punct 39 true call_site (leaf (ident (97 ∷ [])) call_site (punct 44 false call_site (leaf (ident (84 ∷ [])) call_site (punct 44 false call_site (punct 62 false call_site end)))))))
    (end)
unfolding left is_end lookahead_at sees take_token take_lifetime take_mark take_group before rows_for rows run parse_rule
generics_no_bounds = computed generics _ _ _ refl

-- `<B:::C>` prints `< B : :: C >`
generics_split : DerivesAs generics
    (punct 60 false (at 0 1) (leaf (ident (66 ∷ [])) (at 1 2) (punct 58 true (at 2 3) (punct 58 true (at 3 4) (punct 58 false (at 4 5) (leaf (ident (67 ∷ [])) (at 5 6) (punct 62 false (at 6 7) end)))))))
    (punct 60 false call_site (leaf (ident (66 ∷ [])) call_site (punct 58 false call_site (punct 58 true call_site (punct 58 false call_site (leaf (ident (67 ∷ [])) call_site (punct 62 false call_site end)))))))
    (end)
unfolding left is_end lookahead_at sees take_token take_lifetime take_mark take_group before rows_for rows run parse_rule
generics_split = computed generics _ _ _ refl

-- `<T: ('a)>`: nothing is read
generics_lifetime_bound : NotDerived (rule generics)
    (punct 60 false (at 0 1) (leaf (ident (84 ∷ [])) (at 1 2) (punct 58 false (at 2 3) (group Paren (at 4 5) (at 7 8) (punct 39 true (at 5 6) (leaf (ident (97 ∷ [])) (at 6 7) end)) (punct 62 false (at 8 9) end)))))
unfolding left is_end lookahead_at sees take_token take_lifetime take_mark take_group before rows_for rows run parse_rule
generics_lifetime_bound = not_read generics _ refl

-- `<a a>`: nothing is read
generics_no_comma : NotDerived (rule generics)
    (punct 60 false (at 0 1) (leaf (ident (97 ∷ [])) (at 1 2) (leaf (ident (97 ∷ [])) (at 3 4) (punct 62 false (at 4 5) end))))
unfolding left is_end lookahead_at sees take_token take_lifetime take_mark take_group before rows_for rows run parse_rule
generics_no_comma = not_read generics _ refl

-- `<a == b>`: nothing is read
generics_equals_twice : NotDerived (rule generics)
    (punct 60 false (at 0 1) (leaf (ident (97 ∷ [])) (at 1 2) (punct 61 true (at 3 4) (punct 61 false (at 4 5) (leaf (ident (98 ∷ [])) (at 6 7) (punct 62 false (at 7 8) end))))))
unfolding left is_end lookahead_at sees take_token take_lifetime take_mark take_group before rows_for rows run parse_rule
generics_equals_twice = not_read generics _ refl

-- `<_>`: nothing is read
generics_underscore : NotDerived (rule generics)
    (punct 60 false (at 0 1) (leaf (ident w_underscore) (at 1 2) (punct 62 false (at 2 3) end)))
unfolding left is_end lookahead_at sees take_token take_lifetime take_mark take_group before rows_for rows run parse_rule
generics_underscore = not_read generics _ refl

-- `<><` prints `` and leaves `<`
generics_leave_less : DerivesAs generics
    (punct 60 true (at 0 1) (punct 62 true (at 1 2) (punct 60 false (at 2 3) end)))
    (end)
    (punct 60 false (at 2 3) end)
unfolding left is_end lookahead_at sees take_token take_lifetime take_mark take_group before rows_for rows run parse_rule
generics_leave_less = computed generics _ _ _ refl

-- `<,>`: nothing is read
generics_comma_alone : NotDerived (rule generics)
    (punct 60 true (at 0 1) (punct 44 true (at 1 2) (punct 62 false (at 2 3) end)))
unfolding left is_end lookahead_at sees take_token take_lifetime take_mark take_group before rows_for rows run parse_rule
generics_comma_alone = not_read generics _ refl

-- `<const a: b c>`: nothing is read
generics_const_two_types : NotDerived (rule generics)
    (punct 60 false (at 0 1) (leaf (ident w_const) (at 1 6) (leaf (ident (97 ∷ [])) (at 7 8) (punct 58 false (at 8 9) (leaf (ident (98 ∷ [])) (at 10 11) (leaf (ident (99 ∷ [])) (at 12 13) (punct 62 false (at 13 14) end)))))))
unfolding left is_end lookahead_at sees take_token take_lifetime take_mark take_group before rows_for rows run parse_rule
generics_const_two_types = not_read generics _ refl

-- `<a: b:>`: nothing is read
generics_colon_after_bounds : NotDerived (rule generics)
    (punct 60 false (at 0 1) (leaf (ident (97 ∷ [])) (at 1 2) (punct 58 false (at 2 3) (leaf (ident (98 ∷ [])) (at 4 5) (punct 58 true (at 5 6) (punct 62 false (at 6 7) end))))))
unfolding left is_end lookahead_at sees take_token take_lifetime take_mark take_group before rows_for rows run parse_rule
generics_colon_after_bounds = not_read generics _ refl

-- no tokens prints ``
generics_nothing : DerivesAs generics
    (end)
    (end)
    (end)
unfolding left is_end lookahead_at sees take_token take_lifetime take_mark take_group before rows_for rows run parse_rule
generics_nothing = computed generics _ _ _ refl

-- `<a = b = c>`: nothing is read
generics_two_defaults : NotDerived (rule generics)
    (punct 60 false (at 0 1) (leaf (ident (97 ∷ [])) (at 1 2) (punct 61 false (at 3 4) (leaf (ident (98 ∷ [])) (at 5 6) (punct 61 false (at 7 8) (leaf (ident (99 ∷ [])) (at 9 10) (punct 62 false (at 10 11) end)))))))
unfolding left is_end lookahead_at sees take_token take_lifetime take_mark take_group before rows_for rows run parse_rule
generics_two_defaults = not_read generics _ refl

-- `<const a: &b,>` prints `< const a : & b , >`
generics_const_reference : DerivesAs generics
    (punct 60 false (at 0 1) (leaf (ident w_const) (at 1 6) (leaf (ident (97 ∷ [])) (at 7 8) (punct 58 false (at 8 9) (punct 38 false (at 10 11) (leaf (ident (98 ∷ [])) (at 11 12) (punct 44 true (at 12 13) (punct 62 false (at 13 14) end))))))))
    (punct 60 false call_site (leaf (ident w_const) call_site (leaf (ident (97 ∷ [])) call_site (punct 58 false call_site (punct 38 false call_site (leaf (ident (98 ∷ [])) call_site (punct 44 false call_site (punct 62 false call_site end))))))))
    (end)
unfolding left is_end lookahead_at sees take_token take_lifetime take_mark take_group before rows_for rows run parse_rule
generics_const_reference = computed generics _ _ _ refl

-- `<1>`: nothing is read
generics_number : NotDerived (rule generics)
    (punct 60 false (at 0 1) (leaf (literal Int (49 ∷ [])) (at 1 2) (punct 62 false (at 2 3) end)))
unfolding left is_end lookahead_at sees take_token take_lifetime take_mark take_group before rows_for rows run parse_rule
generics_number = not_read generics _ refl

-- `<const fn: a>`: nothing is read
generics_const_keyword : NotDerived (rule generics)
    (punct 60 false (at 0 1) (leaf (ident w_const) (at 1 6) (leaf (ident w_fn) (at 7 9) (punct 58 false (at 9 10) (leaf (ident (97 ∷ [])) (at 11 12) (punct 62 false (at 12 13) end))))))
unfolding left is_end lookahead_at sees take_token take_lifetime take_mark take_group before rows_for rows run parse_rule
generics_const_keyword = not_read generics _ refl

-- `<const a b: c>`: nothing is read
generics_const_two_names : NotDerived (rule generics)
    (punct 60 false (at 0 1) (leaf (ident w_const) (at 1 6) (leaf (ident (97 ∷ [])) (at 7 8) (leaf (ident (98 ∷ [])) (at 9 10) (punct 58 false (at 10 11) (leaf (ident (99 ∷ [])) (at 12 13) (punct 62 false (at 13 14) end)))))))
unfolding left is_end lookahead_at sees take_token take_lifetime take_mark take_group before rows_for rows run parse_rule
generics_const_two_names = not_read generics _ refl

-- `<const a: b:>`: nothing is read
generics_const_colon_after : NotDerived (rule generics)
    (punct 60 false (at 0 1) (leaf (ident w_const) (at 1 6) (leaf (ident (97 ∷ [])) (at 7 8) (punct 58 false (at 8 9) (leaf (ident (98 ∷ [])) (at 10 11) (punct 58 true (at 11 12) (punct 62 false (at 12 13) end)))))))
unfolding left is_end lookahead_at sees take_token take_lifetime take_mark take_group before rows_for rows run parse_rule
generics_const_colon_after = not_read generics _ refl

-- `< = a b>`: nothing is read
generics_default_first : NotDerived (rule generics)
    (punct 60 false (at 0 1) (punct 61 false (at 2 3) (leaf (ident (97 ∷ [])) (at 4 5) (leaf (ident (98 ∷ [])) (at 6 7) (punct 62 false (at 7 8) end)))))
unfolding left is_end lookahead_at sees take_token take_lifetime take_mark take_group before rows_for rows run parse_rule
generics_default_first = not_read generics _ refl

-- `<'a 'b>`: nothing is read
generics_two_lifetimes_no_comma : NotDerived (rule generics)
    (punct 60 true (at 0 1) (punct 39 true (at 1 2) (leaf (ident (97 ∷ [])) (at 2 3) (punct 39 true (at 4 5) (leaf (ident (98 ∷ [])) (at 5 6) (punct 62 false (at 6 7) end))))))
unfolding left is_end lookahead_at sees take_token take_lifetime take_mark take_group before rows_for rows run parse_rule
generics_two_lifetimes_no_comma = not_read generics _ refl

-- `< a = >`: nothing is read
generics_default_nothing : NotDerived (rule generics)
    (punct 60 false (at 0 1) (leaf (ident (97 ∷ [])) (at 2 3) (punct 61 false (at 4 5) (punct 62 false (at 6 7) end))))
unfolding left is_end lookahead_at sees take_token take_lifetime take_mark take_group before rows_for rows run parse_rule
generics_default_nothing = not_read generics _ refl

-- `<fn>`: nothing is read
generics_keyword : NotDerived (rule generics)
    (punct 60 false (at 0 1) (leaf (ident w_fn) (at 1 3) (punct 62 false (at 3 4) end)))
unfolding left is_end lookahead_at sees take_token take_lifetime take_mark take_group before rows_for rows run parse_rule
generics_keyword = not_read generics _ refl

-- `<in>`: nothing is read
generics_named_in : NotDerived (rule generics)
    (punct 60 false (at 0 1) (leaf (ident w_in) (at 1 3) (punct 62 false (at 3 4) end)))
unfolding left is_end lookahead_at sees take_token take_lifetime take_mark take_group before rows_for rows run parse_rule
generics_named_in = not_read generics _ refl

-- `<a #[b]>`: nothing is read
generics_attribute_after : NotDerived (rule generics)
    (punct 60 false (at 0 1) (leaf (ident (97 ∷ [])) (at 1 2) (punct 35 false (at 3 4) (group Bracket (at 4 5) (at 6 7) (leaf (ident (98 ∷ [])) (at 5 6) end) (punct 62 false (at 7 8) end)))))
unfolding left is_end lookahead_at sees take_token take_lifetime take_mark take_group before rows_for rows run parse_rule
generics_attribute_after = not_read generics _ refl

-- `<: a b>`: nothing is read
generics_bounds_first : NotDerived (rule generics)
    (punct 60 true (at 0 1) (punct 58 false (at 1 2) (leaf (ident (97 ∷ [])) (at 3 4) (leaf (ident (98 ∷ [])) (at 5 6) (punct 62 false (at 6 7) end)))))
unfolding left is_end lookahead_at sees take_token take_lifetime take_mark take_group before rows_for rows run parse_rule
generics_bounds_first = not_read generics _ refl

-- `<const a: b const>`: nothing is read
generics_const_after : NotDerived (rule generics)
    (punct 60 false (at 0 1) (leaf (ident w_const) (at 1 6) (leaf (ident (97 ∷ [])) (at 7 8) (punct 58 false (at 8 9) (leaf (ident (98 ∷ [])) (at 10 11) (leaf (ident w_const) (at 12 17) (punct 62 false (at 17 18) end)))))))
unfolding left is_end lookahead_at sees take_token take_lifetime take_mark take_group before rows_for rows run parse_rule
generics_const_after = not_read generics _ refl

-- `<self>`: nothing is read
generics_self : NotDerived (rule generics)
    (punct 60 false (at 0 1) (leaf (ident w_self) (at 1 5) (punct 62 false (at 5 6) end)))
unfolding left is_end lookahead_at sees take_token take_lifetime take_mark take_group before rows_for rows run parse_rule
generics_self = not_read generics _ refl

-- `<safe>` prints `< safe >`
generics_safe : DerivesAs generics
    (punct 60 false (at 0 1) (leaf (ident w_safe) (at 1 5) (punct 62 false (at 5 6) end)))
    (punct 60 false call_site (leaf (ident w_safe) call_site (punct 62 false call_site end)))
    (end)
unfolding left is_end lookahead_at sees take_token take_lifetime take_mark take_group before rows_for rows run parse_rule
generics_safe = computed generics _ _ _ refl

-- `<auto>` prints `< auto >`
generics_auto : DerivesAs generics
    (punct 60 false (at 0 1) (leaf (ident w_auto) (at 1 5) (punct 62 false (at 5 6) end)))
    (punct 60 false call_site (leaf (ident w_auto) call_site (punct 62 false call_site end)))
    (end)
unfolding left is_end lookahead_at sees take_token take_lifetime take_mark take_group before rows_for rows run parse_rule
generics_auto = computed generics _ _ _ refl

-- `<a: b c>`: nothing is read
generics_two_bounds_no_plus : NotDerived (rule generics)
    (punct 60 false (at 0 1) (leaf (ident (97 ∷ [])) (at 1 2) (punct 58 false (at 2 3) (leaf (ident (98 ∷ [])) (at 4 5) (leaf (ident (99 ∷ [])) (at 6 7) (punct 62 false (at 7 8) end))))))
unfolding left is_end lookahead_at sees take_token take_lifetime take_mark take_group before rows_for rows run parse_rule
generics_two_bounds_no_plus = not_read generics _ refl

-- `<a = b c>`: nothing is read
generics_default_two_types : NotDerived (rule generics)
    (punct 60 false (at 0 1) (leaf (ident (97 ∷ [])) (at 1 2) (punct 61 false (at 3 4) (leaf (ident (98 ∷ [])) (at 5 6) (leaf (ident (99 ∷ [])) (at 7 8) (punct 62 false (at 8 9) end))))))
unfolding left is_end lookahead_at sees take_token take_lifetime take_mark take_group before rows_for rows run parse_rule
generics_default_two_types = not_read generics _ refl

-- `<a = &b>` prints `< a = & b >`
generics_default_reference : DerivesAs generics
    (punct 60 false (at 0 1) (leaf (ident (97 ∷ [])) (at 1 2) (punct 61 false (at 3 4) (punct 38 false (at 5 6) (leaf (ident (98 ∷ [])) (at 6 7) (punct 62 false (at 7 8) end))))))
    (punct 60 false call_site (leaf (ident (97 ∷ [])) call_site (punct 61 false call_site (punct 38 false call_site (leaf (ident (98 ∷ [])) call_site (punct 62 false call_site end))))))
    (end)
unfolding left is_end lookahead_at sees take_token take_lifetime take_mark take_group before rows_for rows run parse_rule
generics_default_reference = computed generics _ _ _ refl

-- `<Self>`: nothing is read
generics_self_type : NotDerived (rule generics)
    (punct 60 false (at 0 1) (leaf (ident w_Self_type) (at 1 5) (punct 62 false (at 5 6) end)))
unfolding left is_end lookahead_at sees take_token take_lifetime take_mark take_group before rows_for rows run parse_rule
generics_self_type = not_read generics _ refl

-- `<union>` prints `< union >`
generics_union : DerivesAs generics
    (punct 60 false (at 0 1) (leaf (ident w_union) (at 1 6) (punct 62 false (at 6 7) end)))
    (punct 60 false call_site (leaf (ident w_union) call_site (punct 62 false call_site end)))
    (end)
unfolding left is_end lookahead_at sees take_token take_lifetime take_mark take_group before rows_for rows run parse_rule
generics_union = computed generics _ _ _ refl

-- `<crate>`: nothing is read
generics_crate : NotDerived (rule generics)
    (punct 60 false (at 0 1) (leaf (ident w_crate) (at 1 6) (punct 62 false (at 6 7) end)))
unfolding left is_end lookahead_at sees take_token take_lifetime take_mark take_group before rows_for rows run parse_rule
generics_crate = not_read generics _ refl

-- `<a = b = >`: nothing is read
generics_default_equals_after : NotDerived (rule generics)
    (punct 60 false (at 0 1) (leaf (ident (97 ∷ [])) (at 1 2) (punct 61 false (at 3 4) (leaf (ident (98 ∷ [])) (at 5 6) (punct 61 false (at 7 8) (punct 62 false (at 9 10) end))))))
unfolding left is_end lookahead_at sees take_token take_lifetime take_mark take_group before rows_for rows run parse_rule
generics_default_equals_after = not_read generics _ refl

-- `<default>` prints `< default >`
generics_named_default : DerivesAs generics
    (punct 60 false (at 0 1) (leaf (ident w_default) (at 1 8) (punct 62 false (at 8 9) end)))
    (punct 60 false call_site (leaf (ident w_default) call_site (punct 62 false call_site end)))
    (end)
unfolding left is_end lookahead_at sees take_token take_lifetime take_mark take_group before rows_for rows run parse_rule
generics_named_default = computed generics _ _ _ refl

-- `<const: a>`: nothing is read
generics_const_no_name : NotDerived (rule generics)
    (punct 60 false (at 0 1) (leaf (ident w_const) (at 1 6) (punct 58 false (at 6 7) (leaf (ident (97 ∷ [])) (at 8 9) (punct 62 false (at 9 10) end)))))
unfolding left is_end lookahead_at sees take_token take_lifetime take_mark take_group before rows_for rows run parse_rule
generics_const_no_name = not_read generics _ refl

-- `<const a:>`: nothing is read
generics_const_no_type : NotDerived (rule generics)
    (punct 60 false (at 0 1) (leaf (ident w_const) (at 1 6) (leaf (ident (97 ∷ [])) (at 7 8) (punct 58 true (at 8 9) (punct 62 false (at 9 10) end)))))
unfolding left is_end lookahead_at sees take_token take_lifetime take_mark take_group before rows_for rows run parse_rule
generics_const_no_type = not_read generics _ refl

-- `<const 1: a>`: nothing is read
generics_const_number : NotDerived (rule generics)
    (punct 60 false (at 0 1) (leaf (ident w_const) (at 1 6) (leaf (literal Int (49 ∷ [])) (at 7 8) (punct 58 false (at 8 9) (leaf (ident (97 ∷ [])) (at 10 11) (punct 62 false (at 11 12) end))))))
unfolding left is_end lookahead_at sees take_token take_lifetime take_mark take_group before rows_for rows run parse_rule
generics_const_number = not_read generics _ refl

-- `<const: a: b>`: nothing is read
generics_const_colon_first : NotDerived (rule generics)
    (punct 60 false (at 0 1) (leaf (ident w_const) (at 1 6) (punct 58 false (at 6 7) (leaf (ident (97 ∷ [])) (at 8 9) (punct 58 false (at 9 10) (leaf (ident (98 ∷ [])) (at 11 12) (punct 62 false (at 12 13) end)))))))
unfolding left is_end lookahead_at sees take_token take_lifetime take_mark take_group before rows_for rows run parse_rule
generics_const_colon_first = not_read generics _ refl

-- `<const a::b>`: nothing is read
generics_const_colons : NotDerived (rule generics)
    (punct 60 false (at 0 1) (leaf (ident w_const) (at 1 6) (leaf (ident (97 ∷ [])) (at 7 8) (punct 58 true (at 8 9) (punct 58 false (at 9 10) (leaf (ident (98 ∷ [])) (at 10 11) (punct 62 false (at 11 12) end)))))))
unfolding left is_end lookahead_at sees take_token take_lifetime take_mark take_group before rows_for rows run parse_rule
generics_const_colons = not_read generics _ refl

-- `<const _: a>`: nothing is read
generics_const_underscore : NotDerived (rule generics)
    (punct 60 false (at 0 1) (leaf (ident w_const) (at 1 6) (leaf (ident w_underscore) (at 7 8) (punct 58 false (at 8 9) (leaf (ident (97 ∷ [])) (at 10 11) (punct 62 false (at 11 12) end))))))
unfolding left is_end lookahead_at sees take_token take_lifetime take_mark take_group before rows_for rows run parse_rule
generics_const_underscore = not_read generics _ refl

-- `<const a b::c>`: nothing is read
generics_const_no_colon : NotDerived (rule generics)
    (punct 60 false (at 0 1) (leaf (ident w_const) (at 1 6) (leaf (ident (97 ∷ [])) (at 7 8) (leaf (ident (98 ∷ [])) (at 9 10) (punct 58 true (at 10 11) (punct 58 false (at 11 12) (leaf (ident (99 ∷ [])) (at 12 13) (punct 62 false (at 13 14) end))))))))
unfolding left is_end lookahead_at sees take_token take_lifetime take_mark take_group before rows_for rows run parse_rule
generics_const_no_colon = not_read generics _ refl

-- `<const = 1 a: b>`: nothing is read
generics_const_default_first : NotDerived (rule generics)
    (punct 60 false (at 0 1) (leaf (ident w_const) (at 1 6) (punct 61 false (at 7 8) (leaf (literal Int (49 ∷ [])) (at 9 10) (leaf (ident (97 ∷ [])) (at 11 12) (punct 58 false (at 12 13) (leaf (ident (98 ∷ [])) (at 14 15) (punct 62 false (at 15 16) end))))))))
unfolding left is_end lookahead_at sees take_token take_lifetime take_mark take_group before rows_for rows run parse_rule
generics_const_default_first = not_read generics _ refl

-- `<const a = 1: b>`: nothing is read
generics_const_default_before_colon : NotDerived (rule generics)
    (punct 60 false (at 0 1) (leaf (ident w_const) (at 1 6) (leaf (ident (97 ∷ [])) (at 7 8) (punct 61 false (at 9 10) (leaf (literal Int (49 ∷ [])) (at 11 12) (punct 58 false (at 12 13) (leaf (ident (98 ∷ [])) (at 14 15) (punct 62 false (at 15 16) end))))))))
unfolding left is_end lookahead_at sees take_token take_lifetime take_mark take_group before rows_for rows run parse_rule
generics_const_default_before_colon = not_read generics _ refl

-- `<const const: a>`: nothing is read
generics_const_named_const : NotDerived (rule generics)
    (punct 60 false (at 0 1) (leaf (ident w_const) (at 1 6) (leaf (ident w_const) (at 7 12) (punct 58 false (at 12 13) (leaf (ident (97 ∷ [])) (at 14 15) (punct 62 false (at 15 16) end))))))
unfolding left is_end lookahead_at sees take_token take_lifetime take_mark take_group before rows_for rows run parse_rule
generics_const_named_const = not_read generics _ refl

-- `<const const a: b>`: nothing is read
generics_const_twice : NotDerived (rule generics)
    (punct 60 false (at 0 1) (leaf (ident w_const) (at 1 6) (leaf (ident w_const) (at 7 12) (leaf (ident (97 ∷ [])) (at 13 14) (punct 58 false (at 14 15) (leaf (ident (98 ∷ [])) (at 16 17) (punct 62 false (at 17 18) end)))))))
unfolding left is_end lookahead_at sees take_token take_lifetime take_mark take_group before rows_for rows run parse_rule
generics_const_twice = not_read generics _ refl

-- `<const a const: b>`: nothing is read
generics_const_after_name : NotDerived (rule generics)
    (punct 60 false (at 0 1) (leaf (ident w_const) (at 1 6) (leaf (ident (97 ∷ [])) (at 7 8) (leaf (ident w_const) (at 9 14) (punct 58 false (at 14 15) (leaf (ident (98 ∷ [])) (at 16 17) (punct 62 false (at 17 18) end)))))))
unfolding left is_end lookahead_at sees take_token take_lifetime take_mark take_group before rows_for rows run parse_rule
generics_const_after_name = not_read generics _ refl

-- `<const safe: a>` prints `< const safe : a >`
generics_const_safe : DerivesAs generics
    (punct 60 false (at 0 1) (leaf (ident w_const) (at 1 6) (leaf (ident w_safe) (at 7 11) (punct 58 false (at 11 12) (leaf (ident (97 ∷ [])) (at 13 14) (punct 62 false (at 14 15) end))))))
    (punct 60 false call_site (leaf (ident w_const) call_site (leaf (ident w_safe) call_site (punct 58 false call_site (leaf (ident (97 ∷ [])) call_site (punct 62 false call_site end))))))
    (end)
unfolding left is_end lookahead_at sees take_token take_lifetime take_mark take_group before rows_for rows run parse_rule
generics_const_safe = computed generics _ _ _ refl

-- `<const auto: a>` prints `< const auto : a >`
generics_const_auto : DerivesAs generics
    (punct 60 false (at 0 1) (leaf (ident w_const) (at 1 6) (leaf (ident w_auto) (at 7 11) (punct 58 false (at 11 12) (leaf (ident (97 ∷ [])) (at 13 14) (punct 62 false (at 14 15) end))))))
    (punct 60 false call_site (leaf (ident w_const) call_site (leaf (ident w_auto) call_site (punct 58 false call_site (leaf (ident (97 ∷ [])) call_site (punct 62 false call_site end))))))
    (end)
unfolding left is_end lookahead_at sees take_token take_lifetime take_mark take_group before rows_for rows run parse_rule
generics_const_auto = computed generics _ _ _ refl

-- `<const a: b == 1>`: nothing is read
generics_const_equals_twice : NotDerived (rule generics)
    (punct 60 false (at 0 1) (leaf (ident w_const) (at 1 6) (leaf (ident (97 ∷ [])) (at 7 8) (punct 58 false (at 8 9) (leaf (ident (98 ∷ [])) (at 10 11) (punct 61 true (at 12 13) (punct 61 false (at 13 14) (leaf (literal Int (49 ∷ [])) (at 15 16) (punct 62 false (at 16 17) end)))))))))
unfolding left is_end lookahead_at sees take_token take_lifetime take_mark take_group before rows_for rows run parse_rule
generics_const_equals_twice = not_read generics _ refl

-- `<const a: b = 1 1>`: nothing is read
generics_const_two_values : NotDerived (rule generics)
    (punct 60 false (at 0 1) (leaf (ident w_const) (at 1 6) (leaf (ident (97 ∷ [])) (at 7 8) (punct 58 false (at 8 9) (leaf (ident (98 ∷ [])) (at 10 11) (punct 61 false (at 12 13) (leaf (literal Int (49 ∷ [])) (at 14 15) (leaf (literal Int (49 ∷ [])) (at 16 17) (punct 62 false (at 17 18) end)))))))))
unfolding left is_end lookahead_at sees take_token take_lifetime take_mark take_group before rows_for rows run parse_rule
generics_const_two_values = not_read generics _ refl

-- `<const a: = 1 b>`: nothing is read
generics_const_default_before_type : NotDerived (rule generics)
    (punct 60 false (at 0 1) (leaf (ident w_const) (at 1 6) (leaf (ident (97 ∷ [])) (at 7 8) (punct 58 false (at 8 9) (punct 61 false (at 10 11) (leaf (literal Int (49 ∷ [])) (at 12 13) (leaf (ident (98 ∷ [])) (at 14 15) (punct 62 false (at 15 16) end))))))))
unfolding left is_end lookahead_at sees take_token take_lifetime take_mark take_group before rows_for rows run parse_rule
generics_const_default_before_type = not_read generics _ refl

-- `<const Self: a>`: nothing is read
generics_const_self_type : NotDerived (rule generics)
    (punct 60 false (at 0 1) (leaf (ident w_const) (at 1 6) (leaf (ident w_Self_type) (at 7 11) (punct 58 false (at 11 12) (leaf (ident (97 ∷ [])) (at 13 14) (punct 62 false (at 14 15) end))))))
unfolding left is_end lookahead_at sees take_token take_lifetime take_mark take_group before rows_for rows run parse_rule
generics_const_self_type = not_read generics _ refl

-- `<const union: a>` prints `< const union : a >`
generics_const_union : DerivesAs generics
    (punct 60 false (at 0 1) (leaf (ident w_const) (at 1 6) (leaf (ident w_union) (at 7 12) (punct 58 false (at 12 13) (leaf (ident (97 ∷ [])) (at 14 15) (punct 62 false (at 15 16) end))))))
    (punct 60 false call_site (leaf (ident w_const) call_site (leaf (ident w_union) call_site (punct 58 false call_site (leaf (ident (97 ∷ [])) call_site (punct 62 false call_site end))))))
    (end)
unfolding left is_end lookahead_at sees take_token take_lifetime take_mark take_group before rows_for rows run parse_rule
generics_const_union = computed generics _ _ _ refl

-- `<const self: a>`: nothing is read
generics_const_self : NotDerived (rule generics)
    (punct 60 false (at 0 1) (leaf (ident w_const) (at 1 6) (leaf (ident w_self) (at 7 11) (punct 58 false (at 11 12) (leaf (ident (97 ∷ [])) (at 13 14) (punct 62 false (at 14 15) end))))))
unfolding left is_end lookahead_at sees take_token take_lifetime take_mark take_group before rows_for rows run parse_rule
generics_const_self = not_read generics _ refl

-- `<const crate: a>`: nothing is read
generics_const_crate : NotDerived (rule generics)
    (punct 60 false (at 0 1) (leaf (ident w_const) (at 1 6) (leaf (ident w_crate) (at 7 12) (punct 58 false (at 12 13) (leaf (ident (97 ∷ [])) (at 14 15) (punct 62 false (at 15 16) end))))))
unfolding left is_end lookahead_at sees take_token take_lifetime take_mark take_group before rows_for rows run parse_rule
generics_const_crate = not_read generics _ refl

-- `<const a: b = 1 = 2>`: nothing is read
generics_const_two_defaults : NotDerived (rule generics)
    (punct 60 false (at 0 1) (leaf (ident w_const) (at 1 6) (leaf (ident (97 ∷ [])) (at 7 8) (punct 58 false (at 8 9) (leaf (ident (98 ∷ [])) (at 10 11) (punct 61 false (at 12 13) (leaf (literal Int (49 ∷ [])) (at 14 15) (punct 61 false (at 16 17) (leaf (literal Int (50 ∷ [])) (at 18 19) (punct 62 false (at 19 20) end))))))))))
unfolding left is_end lookahead_at sees take_token take_lifetime take_mark take_group before rows_for rows run parse_rule
generics_const_two_defaults = not_read generics _ refl

-- `<const super: a>`: nothing is read
generics_const_super : NotDerived (rule generics)
    (punct 60 false (at 0 1) (leaf (ident w_const) (at 1 6) (leaf (ident w_super) (at 7 12) (punct 58 false (at 12 13) (leaf (ident (97 ∷ [])) (at 14 15) (punct 62 false (at 15 16) end))))))
unfolding left is_end lookahead_at sees take_token take_lifetime take_mark take_group before rows_for rows run parse_rule
generics_const_super = not_read generics _ refl

-- `<const a: const b>`: nothing is read
generics_const_before_type : NotDerived (rule generics)
    (punct 60 false (at 0 1) (leaf (ident w_const) (at 1 6) (leaf (ident (97 ∷ [])) (at 7 8) (punct 58 false (at 8 9) (leaf (ident w_const) (at 10 15) (leaf (ident (98 ∷ [])) (at 16 17) (punct 62 false (at 17 18) end)))))))
unfolding left is_end lookahead_at sees take_token take_lifetime take_mark take_group before rows_for rows run parse_rule
generics_const_before_type = not_read generics _ refl

-- `<const a: b = 1 = >`: nothing is read
generics_const_equals_after : NotDerived (rule generics)
    (punct 60 false (at 0 1) (leaf (ident w_const) (at 1 6) (leaf (ident (97 ∷ [])) (at 7 8) (punct 58 false (at 8 9) (leaf (ident (98 ∷ [])) (at 10 11) (punct 61 false (at 12 13) (leaf (literal Int (49 ∷ [])) (at 14 15) (punct 61 false (at 16 17) (punct 62 false (at 18 19) end)))))))))
unfolding left is_end lookahead_at sees take_token take_lifetime take_mark take_group before rows_for rows run parse_rule
generics_const_equals_after = not_read generics _ refl

-- `<const default: a>` prints `< const default : a >`
generics_const_named_default : DerivesAs generics
    (punct 60 false (at 0 1) (leaf (ident w_const) (at 1 6) (leaf (ident w_default) (at 7 14) (punct 58 false (at 14 15) (leaf (ident (97 ∷ [])) (at 16 17) (punct 62 false (at 17 18) end))))))
    (punct 60 false call_site (leaf (ident w_const) call_site (leaf (ident w_default) call_site (punct 58 false call_site (leaf (ident (97 ∷ [])) call_site (punct 62 false call_site end))))))
    (end)
unfolding left is_end lookahead_at sees take_token take_lifetime take_mark take_group before rows_for rows run parse_rule
generics_const_named_default = computed generics _ _ _ refl

-- `<super>`: nothing is read
generics_super : NotDerived (rule generics)
    (punct 60 false (at 0 1) (leaf (ident w_super) (at 1 6) (punct 62 false (at 6 7) end)))
unfolding left is_end lookahead_at sees take_token take_lifetime take_mark take_group before rows_for rows run parse_rule
generics_super = not_read generics _ refl

-- `<const a: b =, c>`: nothing is read
generics_const_default_nothing : NotDerived (rule generics)
    (punct 60 false (at 0 1) (leaf (ident w_const) (at 1 6) (leaf (ident (97 ∷ [])) (at 7 8) (punct 58 false (at 8 9) (leaf (ident (98 ∷ [])) (at 10 11) (punct 61 true (at 12 13) (punct 44 false (at 13 14) (leaf (ident (99 ∷ [])) (at 15 16) (punct 62 false (at 16 17) end)))))))))
unfolding left is_end lookahead_at sees take_token take_lifetime take_mark take_group before rows_for rows run parse_rule
generics_const_default_nothing = not_read generics _ refl

-- `#[a] 'a: 'b + 'c` prints `# [ a ] 'a : 'b + 'c`
lifetime_attribute_bounds : DerivesAs lifetime_parameter
    (punct 35 false (at 0 1) (group Bracket (at 1 2) (at 3 4) (leaf (ident (97 ∷ [])) (at 2 3) end) (punct 39 true (at 5 6) (leaf (ident (97 ∷ [])) (at 6 7) (punct 58 false (at 7 8) (punct 39 true (at 9 10) (leaf (ident (98 ∷ [])) (at 10 11) (punct 43 false (at 12 13) (punct 39 true (at 14 15) (leaf (ident (99 ∷ [])) (at 15 16) end))))))))))
    (punct 35 false call_site (group Bracket call_site call_site (leaf (ident (97 ∷ [])) call_site end) (punct 39 true call_site (leaf (ident (97 ∷ [])) call_site (punct 58 false call_site (punct 39 true call_site (leaf (ident (98 ∷ [])) call_site (punct 43 false call_site (punct 39 true call_site (leaf (ident (99 ∷ [])) call_site end))))))))))
    (end)
unfolding left is_end lookahead_at sees take_token take_lifetime take_mark take_group before rows_for rows run parse_rule
lifetime_attribute_bounds = computed lifetime_parameter _ _ _ refl

-- `'a::` prints `'a` and leaves `:`
lifetime_colons : DerivesAs lifetime_parameter
    (punct 39 true (at 0 1) (leaf (ident (97 ∷ [])) (at 1 2) (punct 58 true (at 2 3) (punct 58 false (at 3 4) end))))
    (punct 39 true call_site (leaf (ident (97 ∷ [])) call_site end))
    (punct 58 false (at 3 4) end)
unfolding left is_end lookahead_at sees take_token take_lifetime take_mark take_group before rows_for rows run parse_rule
lifetime_colons = computed lifetime_parameter _ _ _ refl

-- `: 'a 'b`: nothing is read
lifetime_bounds_first : NotDerived (rule lifetime_parameter)
    (punct 58 false (at 0 1) (punct 39 true (at 2 3) (leaf (ident (97 ∷ [])) (at 3 4) (punct 39 true (at 5 6) (leaf (ident (98 ∷ [])) (at 6 7) end)))))
unfolding left is_end lookahead_at sees take_token take_lifetime take_mark take_group before rows_for rows run parse_rule
lifetime_bounds_first = not_read lifetime_parameter _ refl

-- `'a #` prints `'a` and leaves `#`
lifetime_leaves_pound : DerivesAs lifetime_parameter
    (punct 39 true (at 0 1) (leaf (ident (97 ∷ [])) (at 1 2) (punct 35 false (at 3 4) end)))
    (punct 39 true call_site (leaf (ident (97 ∷ [])) call_site end))
    (punct 35 false (at 3 4) end)
unfolding left is_end lookahead_at sees take_token take_lifetime take_mark take_group before rows_for rows run parse_rule
lifetime_leaves_pound = computed lifetime_parameter _ _ _ refl

-- `'a 'b` prints `'a` and leaves `'b`
lifetime_leaves_lifetime : DerivesAs lifetime_parameter
    (punct 39 true (at 0 1) (leaf (ident (97 ∷ [])) (at 1 2) (punct 39 true (at 3 4) (leaf (ident (98 ∷ [])) (at 4 5) end))))
    (punct 39 true call_site (leaf (ident (97 ∷ [])) call_site end))
    (punct 39 true (at 3 4) (leaf (ident (98 ∷ [])) (at 4 5) end))
unfolding left is_end lookahead_at sees take_token take_lifetime take_mark take_group before rows_for rows run parse_rule
lifetime_leaves_lifetime = computed lifetime_parameter _ _ _ refl

-- `'a =` prints `'a` and leaves `=`
lifetime_leaves_equals : DerivesAs lifetime_parameter
    (punct 39 true (at 0 1) (leaf (ident (97 ∷ [])) (at 1 2) (punct 61 false (at 3 4) end)))
    (punct 39 true call_site (leaf (ident (97 ∷ [])) call_site end))
    (punct 61 false (at 3 4) end)
unfolding left is_end lookahead_at sees take_token take_lifetime take_mark take_group before rows_for rows run parse_rule
lifetime_leaves_equals = computed lifetime_parameter _ _ _ refl

-- `#[a] 'b` prints `# [ a ] 'b`
lifetime_attribute : DerivesAs lifetime_parameter
    (punct 35 false (at 0 1) (group Bracket (at 1 2) (at 3 4) (leaf (ident (97 ∷ [])) (at 2 3) end) (punct 39 true (at 5 6) (leaf (ident (98 ∷ [])) (at 6 7) end))))
    (punct 35 false call_site (group Bracket call_site call_site (leaf (ident (97 ∷ [])) call_site end) (punct 39 true call_site (leaf (ident (98 ∷ [])) call_site end))))
    (end)
unfolding left is_end lookahead_at sees take_token take_lifetime take_mark take_group before rows_for rows run parse_rule
lifetime_attribute = computed lifetime_parameter _ _ _ refl

-- `'a: 'b 'c` prints `'a : 'b` and leaves `'c`
lifetime_bound_leaves_lifetime : DerivesAs lifetime_parameter
    (punct 39 true (at 0 1) (leaf (ident (97 ∷ [])) (at 1 2) (punct 58 false (at 2 3) (punct 39 true (at 4 5) (leaf (ident (98 ∷ [])) (at 5 6) (punct 39 true (at 7 8) (leaf (ident (99 ∷ [])) (at 8 9) end)))))))
    (punct 39 true call_site (leaf (ident (97 ∷ [])) call_site (punct 58 false call_site (punct 39 true call_site (leaf (ident (98 ∷ [])) call_site end)))))
    (punct 39 true (at 7 8) (leaf (ident (99 ∷ [])) (at 8 9) end))
unfolding left is_end lookahead_at sees take_token take_lifetime take_mark take_group before rows_for rows run parse_rule
lifetime_bound_leaves_lifetime = computed lifetime_parameter _ _ _ refl

-- `'a + 'b` prints `'a + 'b`
lifetimes_two : DerivesAs lifetimes
    (punct 39 true (at 0 1) (leaf (ident (97 ∷ [])) (at 1 2) (punct 43 false (at 3 4) (punct 39 true (at 5 6) (leaf (ident (98 ∷ [])) (at 6 7) end)))))
    (punct 39 true call_site (leaf (ident (97 ∷ [])) call_site (punct 43 false call_site (punct 39 true call_site (leaf (ident (98 ∷ [])) call_site end)))))
    (end)
unfolding left is_end lookahead_at sees take_token take_lifetime take_mark take_group before rows_for rows run parse_rule
lifetimes_two = computed lifetimes _ _ _ refl

-- `'a + +` prints `'a +` and leaves `+`
lifetimes_two_plus : DerivesAs lifetimes
    (punct 39 true (at 0 1) (leaf (ident (97 ∷ [])) (at 1 2) (punct 43 false (at 3 4) (punct 43 false (at 5 6) end))))
    (punct 39 true call_site (leaf (ident (97 ∷ [])) call_site (punct 43 false call_site end)))
    (punct 43 false (at 5 6) end)
unfolding left is_end lookahead_at sees take_token take_lifetime take_mark take_group before rows_for rows run parse_rule
lifetimes_two_plus = computed lifetimes _ _ _ refl

-- `'a + 'b 'c` prints `'a + 'b` and leaves `'c`
lifetimes_leave_lifetime : DerivesAs lifetimes
    (punct 39 true (at 0 1) (leaf (ident (97 ∷ [])) (at 1 2) (punct 43 false (at 3 4) (punct 39 true (at 5 6) (leaf (ident (98 ∷ [])) (at 6 7) (punct 39 true (at 8 9) (leaf (ident (99 ∷ [])) (at 9 10) end)))))))
    (punct 39 true call_site (leaf (ident (97 ∷ [])) call_site (punct 43 false call_site (punct 39 true call_site (leaf (ident (98 ∷ [])) call_site end)))))
    (punct 39 true (at 8 9) (leaf (ident (99 ∷ [])) (at 9 10) end))
unfolding left is_end lookahead_at sees take_token take_lifetime take_mark take_group before rows_for rows run parse_rule
lifetimes_leave_lifetime = computed lifetimes _ _ _ refl

-- `'a 'b` is refused
lifetimes_no_plus : Refused lifetimes
    (punct 39 true (at 0 1) (leaf (ident (97 ∷ [])) (at 1 2) (punct 39 true (at 3 4) (leaf (ident (98 ∷ [])) (at 4 5) end))))
unfolding left is_end lookahead_at sees take_token take_lifetime take_mark take_group before rows_for rows run parse_rule
lifetimes_no_plus = not_derived lifetimes _ refl

-- no tokens prints ``
lifetimes_none : DerivesAs lifetimes
    (end)
    (end)
    (end)
unfolding left is_end lookahead_at sees take_token take_lifetime take_mark take_group before rows_for rows run parse_rule
lifetimes_none = computed lifetimes _ _ _ refl

-- `'a,` prints `'a` and leaves `,`
lifetimes_comma : DerivesAs lifetimes
    (punct 39 true (at 0 1) (leaf (ident (97 ∷ [])) (at 1 2) (punct 44 false (at 2 3) end)))
    (punct 39 true call_site (leaf (ident (97 ∷ [])) call_site end))
    (punct 44 false (at 2 3) end)
unfolding left is_end lookahead_at sees take_token take_lifetime take_mark take_group before rows_for rows run parse_rule
lifetimes_comma = computed lifetimes _ _ _ refl

-- `' <` prints `` and leaves `' <`
lifetimes_lone_apostrophe : DerivesAs lifetimes
    (punct 39 true (at 0 1) (punct 60 false (at 2 3) end))
    (end)
    (punct 39 true (at 0 1) (punct 60 false (at 2 3) end))
unfolding left is_end lookahead_at sees take_token take_lifetime take_mark take_group before rows_for rows run parse_rule
lifetimes_lone_apostrophe = computed lifetimes _ _ _ refl

-- `A + 'b` prints `A + 'b`
bounds_two : DerivesAs parameter_bounds
    (leaf (ident (65 ∷ [])) (at 0 1) (punct 43 false (at 2 3) (punct 39 true (at 4 5) (leaf (ident (98 ∷ [])) (at 5 6) end))))
    (leaf (ident (65 ∷ [])) call_site (punct 43 false call_site (punct 39 true call_site (leaf (ident (98 ∷ [])) call_site end))))
    (end)
unfolding left is_end lookahead_at sees take_token take_lifetime take_mark take_group before rows_for rows run parse_rule
bounds_two = computed parameter_bounds _ _ _ refl

-- `=` prints `` and leaves `=`
bounds_equals : DerivesAs parameter_bounds
    (punct 61 false (at 0 1) end)
    (end)
    (punct 61 false (at 0 1) end)
unfolding left is_end lookahead_at sees take_token take_lifetime take_mark take_group before rows_for rows run parse_rule
bounds_equals = computed parameter_bounds _ _ _ refl

-- no tokens: nothing is read
bounds_unended : NotDerived (rule parameter_bounds)
    (end)
unfolding left is_end lookahead_at sees take_token take_lifetime take_mark take_group before rows_for rows run parse_rule
bounds_unended = not_read parameter_bounds _ refl

-- `a +>` prints `a +` and leaves `>`
bounds_last_plus : DerivesAs parameter_bounds
    (leaf (ident (97 ∷ [])) (at 0 1) (punct 43 true (at 2 3) (punct 62 false (at 3 4) end)))
    (leaf (ident (97 ∷ [])) call_site (punct 43 false call_site end))
    (punct 62 false (at 3 4) end)
unfolding left is_end lookahead_at sees take_token take_lifetime take_mark take_group before rows_for rows run parse_rule
bounds_last_plus = computed parameter_bounds _ _ _ refl

-- `a?` prints `a` and leaves `?`
bounds_leave_question : DerivesAs parameter_bounds
    (leaf (ident (97 ∷ [])) (at 0 1) (punct 63 false (at 1 2) end))
    (leaf (ident (97 ∷ [])) call_site end)
    (punct 63 false (at 1 2) end)
unfolding left is_end lookahead_at sees take_token take_lifetime take_mark take_group before rows_for rows run parse_rule
bounds_leave_question = computed parameter_bounds _ _ _ refl

-- `,` prints `` and leaves `,`
bounds_comma : DerivesAs parameter_bounds
    (punct 44 false (at 0 1) end)
    (end)
    (punct 44 false (at 0 1) end)
unfolding left is_end lookahead_at sees take_token take_lifetime take_mark take_group before rows_for rows run parse_rule
bounds_comma = computed parameter_bounds _ _ _ refl

-- `a,` prints `a` and leaves `,`
bounds_leave_comma : DerivesAs parameter_bounds
    (leaf (ident (97 ∷ [])) (at 0 1) (punct 44 false (at 1 2) end))
    (leaf (ident (97 ∷ [])) call_site end)
    (punct 44 false (at 1 2) end)
unfolding left is_end lookahead_at sees take_token take_lifetime take_mark take_group before rows_for rows run parse_rule
bounds_leave_comma = computed parameter_bounds _ _ _ refl

-- `+ a b`: nothing is read
bounds_plus_first : NotDerived (rule parameter_bounds)
    (punct 43 false (at 0 1) (leaf (ident (97 ∷ [])) (at 2 3) (leaf (ident (98 ∷ [])) (at 4 5) end)))
unfolding left is_end lookahead_at sees take_token take_lifetime take_mark take_group before rows_for rows run parse_rule
bounds_plus_first = not_read parameter_bounds _ refl

-- `a + +>`: nothing is read
bounds_two_plus : NotDerived (rule parameter_bounds)
    (leaf (ident (97 ∷ [])) (at 0 1) (punct 43 false (at 2 3) (punct 43 true (at 4 5) (punct 62 false (at 5 6) end))))
unfolding left is_end lookahead_at sees take_token take_lifetime take_mark take_group before rows_for rows run parse_rule
bounds_two_plus = not_read parameter_bounds _ refl

-- `?Sized` prints `? Sized`
bound_sized : DerivesAs bound
    (punct 63 false (at 0 1) (leaf (ident (83 ∷ 105 ∷ 122 ∷ 101 ∷ 100 ∷ [])) (at 1 6) end))
    (punct 63 false call_site (leaf (ident (83 ∷ 105 ∷ 122 ∷ 101 ∷ 100 ∷ [])) call_site end))
    (end)
unfolding left is_end lookahead_at sees take_token take_lifetime take_mark take_group before rows_for rows run parse_rule
bound_sized = computed bound _ _ _ refl

-- `(a) ()` prints `( a )` and leaves `()`
bound_leaves_parentheses : DerivesAs bound
    (group Paren (at 0 1) (at 2 3) (leaf (ident (97 ∷ [])) (at 1 2) end) (group Paren (at 4 5) (at 5 6) end end))
    (group Paren call_site call_site (leaf (ident (97 ∷ [])) call_site end) end)
    (group Paren (at 4 5) (at 5 6) end end)
unfolding left is_end lookahead_at sees take_token take_lifetime take_mark take_group before rows_for rows run parse_rule
bound_leaves_parentheses = computed bound _ _ _ refl

-- `'a 'b` prints `'a` and leaves `'b`
bound_leaves_lifetime : DerivesAs bound
    (punct 39 true (at 0 1) (leaf (ident (97 ∷ [])) (at 1 2) (punct 39 true (at 3 4) (leaf (ident (98 ∷ [])) (at 4 5) end))))
    (punct 39 true call_site (leaf (ident (97 ∷ [])) call_site end))
    (punct 39 true (at 3 4) (leaf (ident (98 ∷ [])) (at 4 5) end))
unfolding left is_end lookahead_at sees take_token take_lifetime take_mark take_group before rows_for rows run parse_rule
bound_leaves_lifetime = computed bound _ _ _ refl

-- `()`: nothing is read
bound_empty_parentheses : NotDerived (rule bound)
    (group Paren (at 0 1) (at 1 2) end end)
unfolding left is_end lookahead_at sees take_token take_lifetime take_mark take_group before rows_for rows run parse_rule
bound_empty_parentheses = not_read bound _ refl

-- `(a b)`: nothing is read
bound_two_words : NotDerived (rule bound)
    (group Paren (at 0 1) (at 4 5) (leaf (ident (97 ∷ [])) (at 1 2) (leaf (ident (98 ∷ [])) (at 3 4) end)) end)
unfolding left is_end lookahead_at sees take_token take_lifetime take_mark take_group before rows_for rows run parse_rule
bound_two_words = not_read bound _ refl

-- `a?` prints `a` and leaves `?`
bound_leaves_question : DerivesAs bound
    (leaf (ident (97 ∷ [])) (at 0 1) (punct 63 false (at 1 2) end))
    (leaf (ident (97 ∷ [])) call_site end)
    (punct 63 false (at 1 2) end)
unfolding left is_end lookahead_at sees take_token take_lifetime take_mark take_group before rows_for rows run parse_rule
bound_leaves_question = computed bound _ _ _ refl

-- `{ a }`: nothing is read
bound_braces : NotDerived (rule bound)
    (group Brace (at 0 1) (at 4 5) (leaf (ident (97 ∷ [])) (at 2 3) end) end)
unfolding left is_end lookahead_at sees take_token take_lifetime take_mark take_group before rows_for rows run parse_rule
bound_braces = not_read bound _ refl

-- `[a]`: nothing is read
bound_brackets : NotDerived (rule bound)
    (group Bracket (at 0 1) (at 2 3) (leaf (ident (97 ∷ [])) (at 1 2) end) end)
unfolding left is_end lookahead_at sees take_token take_lifetime take_mark take_group before rows_for rows run parse_rule
bound_brackets = not_read bound _ refl

-- `(?a)` prints `( ? a )`
bound_question_inside : DerivesAs bound
    (group Paren (at 0 1) (at 3 4) (punct 63 false (at 1 2) (leaf (ident (97 ∷ [])) (at 2 3) end)) end)
    (group Paren call_site call_site (punct 63 false call_site (leaf (ident (97 ∷ [])) call_site end)) end)
    (end)
unfolding left is_end lookahead_at sees take_token take_lifetime take_mark take_group before rows_for rows run parse_rule
bound_question_inside = computed bound _ _ _ refl

-- `?for<'a> A<'a>` prints `? for < 'a > A < 'a >`
trait_maybe_for : DerivesAs trait_bound
    (punct 63 false (at 0 1) (leaf (ident w_for) (at 1 4) (punct 60 true (at 4 5) (punct 39 true (at 5 6) (leaf (ident (97 ∷ [])) (at 6 7) (punct 62 false (at 7 8) (leaf (ident (65 ∷ [])) (at 9 10) (punct 60 true (at 10 11) (punct 39 true (at 11 12) (leaf (ident (97 ∷ [])) (at 12 13) (punct 62 false (at 13 14) end)))))))))))
    (punct 63 false call_site (leaf (ident w_for) call_site (punct 60 false call_site (punct 39 true call_site (leaf (ident (97 ∷ [])) call_site (punct 62 false call_site (leaf (ident (65 ∷ [])) call_site (punct 60 false call_site (punct 39 true call_site (leaf (ident (97 ∷ [])) call_site (punct 62 false call_site end)))))))))))
    (end)
unfolding left is_end lookahead_at sees take_token take_lifetime take_mark take_group before rows_for rows run parse_rule
trait_maybe_for = computed trait_bound _ _ _ refl

-- `a b` prints `a` and leaves `b`
trait_leaves_word : DerivesAs trait_bound
    (leaf (ident (97 ∷ [])) (at 0 1) (leaf (ident (98 ∷ [])) (at 2 3) end))
    (leaf (ident (97 ∷ [])) call_site end)
    (leaf (ident (98 ∷ [])) (at 2 3) end)
unfolding left is_end lookahead_at sees take_token take_lifetime take_mark take_group before rows_for rows run parse_rule
trait_leaves_word = computed trait_bound _ _ _ refl

-- `??a`: nothing is read
trait_two_questions : NotDerived (rule trait_bound)
    (punct 63 true (at 0 1) (punct 63 false (at 1 2) (leaf (ident (97 ∷ [])) (at 2 3) end)))
unfolding left is_end lookahead_at sees take_token take_lifetime take_mark take_group before rows_for rows run parse_rule
trait_two_questions = not_read trait_bound _ refl

-- `::a?` prints `:: a` and leaves `?`
trait_leaves_question : DerivesAs trait_bound
    (punct 58 true (at 0 1) (punct 58 false (at 1 2) (leaf (ident (97 ∷ [])) (at 2 3) (punct 63 false (at 3 4) end))))
    (punct 58 true call_site (punct 58 false call_site (leaf (ident (97 ∷ [])) call_site end)))
    (punct 63 false (at 3 4) end)
unfolding left is_end lookahead_at sees take_token take_lifetime take_mark take_group before rows_for rows run parse_rule
trait_leaves_question = computed trait_bound _ _ _ refl

-- `for<> for<> a`: nothing is read
trait_for_twice : NotDerived (rule trait_bound)
    (leaf (ident w_for) (at 0 3) (punct 60 true (at 3 4) (punct 62 false (at 4 5) (leaf (ident w_for) (at 6 9) (punct 60 true (at 9 10) (punct 62 false (at 10 11) (leaf (ident (97 ∷ [])) (at 12 13) end)))))))
unfolding left is_end lookahead_at sees take_token take_lifetime take_mark take_group before rows_for rows run parse_rule
trait_for_twice = not_read trait_bound _ refl

-- `for a`: nothing is read
trait_for_nothing : NotDerived (rule trait_bound)
    (leaf (ident w_for) (at 0 3) (leaf (ident (97 ∷ [])) (at 4 5) end))
unfolding left is_end lookahead_at sees take_token take_lifetime take_mark take_group before rows_for rows run parse_rule
trait_for_nothing = not_read trait_bound _ refl

-- `a for` prints `a` and leaves `for`
trait_leaves_for : DerivesAs trait_bound
    (leaf (ident (97 ∷ [])) (at 0 1) (leaf (ident w_for) (at 2 5) end))
    (leaf (ident (97 ∷ [])) call_site end)
    (leaf (ident w_for) (at 2 5) end)
unfolding left is_end lookahead_at sees take_token take_lifetime take_mark take_group before rows_for rows run parse_rule
trait_leaves_for = computed trait_bound _ _ _ refl

-- `for<> <> a`: nothing is read
trait_two_lists : NotDerived (rule trait_bound)
    (leaf (ident w_for) (at 0 3) (punct 60 true (at 3 4) (punct 62 false (at 4 5) (punct 60 true (at 6 7) (punct 62 false (at 7 8) (leaf (ident (97 ∷ [])) (at 9 10) end))))))
unfolding left is_end lookahead_at sees take_token take_lifetime take_mark take_group before rows_for rows run parse_rule
trait_two_lists = not_read trait_bound _ refl

-- `for<> for a`: nothing is read
trait_for_after : NotDerived (rule trait_bound)
    (leaf (ident w_for) (at 0 3) (punct 60 true (at 3 4) (punct 62 false (at 4 5) (leaf (ident w_for) (at 6 9) (leaf (ident (97 ∷ [])) (at 10 11) end)))))
unfolding left is_end lookahead_at sees take_token take_lifetime take_mark take_group before rows_for rows run parse_rule
trait_for_after = not_read trait_bound _ refl

-- `for for<> a`: nothing is read
trait_for_for : NotDerived (rule trait_bound)
    (leaf (ident w_for) (at 0 3) (leaf (ident w_for) (at 4 7) (punct 60 true (at 7 8) (punct 62 false (at 8 9) (leaf (ident (97 ∷ [])) (at 10 11) end)))))
unfolding left is_end lookahead_at sees take_token take_lifetime take_mark take_group before rows_for rows run parse_rule
trait_for_for = not_read trait_bound _ refl

-- `<'a, 'b: 'a>` prints `< 'a , 'b : 'a >`
for_two : DerivesAs bound_lifetimes
    (punct 60 true (at 0 1) (punct 39 true (at 1 2) (leaf (ident (97 ∷ [])) (at 2 3) (punct 44 false (at 3 4) (punct 39 true (at 5 6) (leaf (ident (98 ∷ [])) (at 6 7) (punct 58 false (at 7 8) (punct 39 true (at 9 10) (leaf (ident (97 ∷ [])) (at 10 11) (punct 62 false (at 11 12) end))))))))))
    (punct 60 false call_site (punct 39 true call_site (leaf (ident (97 ∷ [])) call_site (punct 44 false call_site (punct 39 true call_site (leaf (ident (98 ∷ [])) call_site (punct 58 false call_site (punct 39 true call_site (leaf (ident (97 ∷ [])) call_site (punct 62 false call_site end))))))))))
    (end)
unfolding left is_end lookahead_at sees take_token take_lifetime take_mark take_group before rows_for rows run parse_rule
for_two = computed bound_lifetimes _ _ _ refl

-- `> <>`: nothing is read
for_greater_first : NotDerived (rule bound_lifetimes)
    (punct 62 false (at 0 1) (punct 60 true (at 2 3) (punct 62 false (at 3 4) end)))
unfolding left is_end lookahead_at sees take_token take_lifetime take_mark take_group before rows_for rows run parse_rule
for_greater_first = not_read bound_lifetimes _ refl

-- `<>>` prints `< >` and leaves `>`
for_less_inside : DerivesAs bound_lifetimes
    (punct 60 true (at 0 1) (punct 62 true (at 1 2) (punct 62 false (at 2 3) end)))
    (punct 60 false call_site (punct 62 false call_site end))
    (punct 62 false (at 2 3) end)
unfolding left is_end lookahead_at sees take_token take_lifetime take_mark take_group before rows_for rows run parse_rule
for_less_inside = computed bound_lifetimes _ _ _ refl

-- `<'a<>`: nothing is read
for_leaves_greater : NotDerived (rule bound_lifetimes)
    (punct 60 true (at 0 1) (punct 39 true (at 1 2) (leaf (ident (97 ∷ [])) (at 2 3) (punct 60 true (at 3 4) (punct 62 false (at 4 5) end)))))
unfolding left is_end lookahead_at sees take_token take_lifetime take_mark take_group before rows_for rows run parse_rule
for_leaves_greater = not_read bound_lifetimes _ refl

-- `<> <` prints `< >` and leaves `<`
for_leaves_less : DerivesAs bound_lifetimes
    (punct 60 true (at 0 1) (punct 62 false (at 1 2) (punct 60 false (at 3 4) end)))
    (punct 60 false call_site (punct 62 false call_site end))
    (punct 60 false (at 3 4) end)
unfolding left is_end lookahead_at sees take_token take_lifetime take_mark take_group before rows_for rows run parse_rule
for_leaves_less = computed bound_lifetimes _ _ _ refl

-- `<<>`: nothing is read
for_two_less : NotDerived (rule bound_lifetimes)
    (punct 60 true (at 0 1) (punct 60 true (at 1 2) (punct 62 false (at 2 3) end)))
unfolding left is_end lookahead_at sees take_token take_lifetime take_mark take_group before rows_for rows run parse_rule
for_two_less = not_read bound_lifetimes _ refl

-- `<'a 'b>`: nothing is read
for_no_comma : NotDerived (rule bound_lifetimes)
    (punct 60 true (at 0 1) (punct 39 true (at 1 2) (leaf (ident (97 ∷ [])) (at 2 3) (punct 39 true (at 4 5) (leaf (ident (98 ∷ [])) (at 5 6) (punct 62 false (at 6 7) end))))))
unfolding left is_end lookahead_at sees take_token take_lifetime take_mark take_group before rows_for rows run parse_rule
for_no_comma = not_read bound_lifetimes _ refl

-- `'a, 'b>` prints `'a , 'b` and leaves `>`
for_list_two : DerivesAs lifetime_parameters
    (punct 39 true (at 0 1) (leaf (ident (97 ∷ [])) (at 1 2) (punct 44 false (at 2 3) (punct 39 true (at 4 5) (leaf (ident (98 ∷ [])) (at 5 6) (punct 62 false (at 6 7) end))))))
    (punct 39 true call_site (leaf (ident (97 ∷ [])) call_site (punct 44 false call_site (punct 39 true call_site (leaf (ident (98 ∷ [])) call_site end)))))
    (punct 62 false (at 6 7) end)
unfolding left is_end lookahead_at sees take_token take_lifetime take_mark take_group before rows_for rows run parse_rule
for_list_two = computed lifetime_parameters _ _ _ refl

-- no tokens: nothing is read
for_list_unended : NotDerived (rule lifetime_parameters)
    (end)
unfolding left is_end lookahead_at sees take_token take_lifetime take_mark take_group before rows_for rows run parse_rule
for_list_unended = not_read lifetime_parameters _ refl

-- `'a,>` prints `'a ,` and leaves `>`
for_list_last_comma : DerivesAs lifetime_parameters
    (punct 39 true (at 0 1) (leaf (ident (97 ∷ [])) (at 1 2) (punct 44 true (at 2 3) (punct 62 false (at 3 4) end))))
    (punct 39 true call_site (leaf (ident (97 ∷ [])) call_site (punct 44 false call_site end)))
    (punct 62 false (at 3 4) end)
unfolding left is_end lookahead_at sees take_token take_lifetime take_mark take_group before rows_for rows run parse_rule
for_list_last_comma = computed lifetime_parameters _ _ _ refl

-- `'a #` prints `'a` and leaves `#`
for_list_leaves_pound : DerivesAs lifetime_parameters
    (punct 39 true (at 0 1) (leaf (ident (97 ∷ [])) (at 1 2) (punct 35 false (at 3 4) end)))
    (punct 39 true call_site (leaf (ident (97 ∷ [])) call_site end))
    (punct 35 false (at 3 4) end)
unfolding left is_end lookahead_at sees take_token take_lifetime take_mark take_group before rows_for rows run parse_rule
for_list_leaves_pound = computed lifetime_parameters _ _ _ refl

-- `'a, 'b` prints `'a , 'b`
for_list_unclosed : DerivesAs lifetime_parameters
    (punct 39 true (at 0 1) (leaf (ident (97 ∷ [])) (at 1 2) (punct 44 false (at 2 3) (punct 39 true (at 4 5) (leaf (ident (98 ∷ [])) (at 5 6) end)))))
    (punct 39 true call_site (leaf (ident (97 ∷ [])) call_site (punct 44 false call_site (punct 39 true call_site (leaf (ident (98 ∷ [])) call_site end)))))
    (end)
unfolding left is_end lookahead_at sees take_token take_lifetime take_mark take_group before rows_for rows run parse_rule
for_list_unclosed = computed lifetime_parameters _ _ _ refl

-- `'a;` prints `'a` and leaves `;`
for_list_semicolon : DerivesAs lifetime_parameters
    (punct 39 true (at 0 1) (leaf (ident (97 ∷ [])) (at 1 2) (punct 59 false (at 2 3) end)))
    (punct 39 true call_site (leaf (ident (97 ∷ [])) call_site end))
    (punct 59 false (at 2 3) end)
unfolding left is_end lookahead_at sees take_token take_lifetime take_mark take_group before rows_for rows run parse_rule
for_list_semicolon = computed lifetime_parameters _ _ _ refl

-- `, 'a 'b`: nothing is read
for_list_comma_first : NotDerived (rule lifetime_parameters)
    (punct 44 false (at 0 1) (punct 39 true (at 2 3) (leaf (ident (97 ∷ [])) (at 3 4) (punct 39 true (at 5 6) (leaf (ident (98 ∷ [])) (at 6 7) end)))))
unfolding left is_end lookahead_at sees take_token take_lifetime take_mark take_group before rows_for rows run parse_rule
for_list_comma_first = not_read lifetime_parameters _ refl

-- `'a,, 'b`: nothing is read
for_list_two_commas : NotDerived (rule lifetime_parameters)
    (punct 39 true (at 0 1) (leaf (ident (97 ∷ [])) (at 1 2) (punct 44 true (at 2 3) (punct 44 false (at 3 4) (punct 39 true (at 5 6) (leaf (ident (98 ∷ [])) (at 6 7) end))))))
unfolding left is_end lookahead_at sees take_token take_lifetime take_mark take_group before rows_for rows run parse_rule
for_list_two_commas = not_read lifetime_parameters _ refl

-- `where {}` prints `` and leaves `{}`
where_empty : DerivesAs where_clause
    (leaf (ident w_where) (at 0 5) (group Brace (at 6 7) (at 7 8) end end))
    (end)
    (group Brace (at 6 7) (at 7 8) end end)
unfolding left is_end lookahead_at sees take_token take_lifetime take_mark take_group before rows_for rows run parse_rule
where_empty = computed where_clause _ _ _ refl

-- `where 'a: 'b, for<'c> T: A, ;` prints `where 'a : 'b , for < 'c > T : A ,` and leaves `;`
where_two : DerivesAs where_clause
    (leaf (ident w_where) (at 0 5) (punct 39 true (at 6 7) (leaf (ident (97 ∷ [])) (at 7 8) (punct 58 false (at 8 9) (punct 39 true (at 10 11) (leaf (ident (98 ∷ [])) (at 11 12) (punct 44 false (at 12 13) (leaf (ident w_for) (at 14 17) (punct 60 true (at 17 18) (punct 39 true (at 18 19) (leaf (ident (99 ∷ [])) (at 19 20) (punct 62 false (at 20 21) (leaf (ident (84 ∷ [])) (at 22 23) (punct 58 false (at 23 24) (leaf (ident (65 ∷ [])) (at 25 26) (punct 44 false (at 26 27) (punct 59 false (at 28 29) end)))))))))))))))))
    (leaf (ident w_where) call_site (punct 39 true call_site (leaf (ident (97 ∷ [])) call_site (punct 58 false call_site (punct 39 true call_site (leaf (ident (98 ∷ [])) call_site (punct 44 false call_site (leaf (ident w_for) call_site (punct 60 false call_site (punct 39 true call_site (leaf (ident (99 ∷ [])) call_site (punct 62 false call_site (leaf (ident (84 ∷ [])) call_site (punct 58 false call_site (leaf (ident (65 ∷ [])) call_site (punct 44 false call_site end))))))))))))))))
    (punct 59 false (at 28 29) end)
unfolding left is_end lookahead_at sees take_token take_lifetime take_mark take_group before rows_for rows run parse_rule
where_two = computed where_clause _ _ _ refl

-- `where T: ;` prints `where T :` and leaves `;`
where_no_bounds : DerivesAs where_clause
    (leaf (ident w_where) (at 0 5) (leaf (ident (84 ∷ [])) (at 6 7) (punct 58 false (at 7 8) (punct 59 false (at 9 10) end))))
    (leaf (ident w_where) call_site (leaf (ident (84 ∷ [])) call_site (punct 58 false call_site end)))
    (punct 59 false (at 9 10) end)
unfolding left is_end lookahead_at sees take_token take_lifetime take_mark take_group before rows_for rows run parse_rule
where_no_bounds = computed where_clause _ _ _ refl

-- `where T;`: nothing is read
where_no_colon : NotDerived (rule where_clause)
    (leaf (ident w_where) (at 0 5) (leaf (ident (84 ∷ [])) (at 6 7) (punct 59 false (at 7 8) end)))
unfolding left is_end lookahead_at sees take_token take_lifetime take_mark take_group before rows_for rows run parse_rule
where_no_colon = not_read where_clause _ refl

-- `where ():::A` prints `where ( ) : :: A`
where_split : DerivesAs where_clause
    (leaf (ident w_where) (at 0 5) (group Paren (at 6 7) (at 7 8) end (punct 58 true (at 8 9) (punct 58 true (at 9 10) (punct 58 false (at 10 11) (leaf (ident (65 ∷ [])) (at 11 12) end))))))
    (leaf (ident w_where) call_site (group Paren call_site call_site end (punct 58 false call_site (punct 58 true call_site (punct 58 false call_site (leaf (ident (65 ∷ [])) call_site end))))))
    (end)
unfolding left is_end lookahead_at sees take_token take_lifetime take_mark take_group before rows_for rows run parse_rule
where_split = computed where_clause _ _ _ refl

-- `a` prints `` and leaves `a`
where_name : DerivesAs where_clause
    (leaf (ident (97 ∷ [])) (at 0 1) end)
    (end)
    (leaf (ident (97 ∷ [])) (at 0 1) end)
unfolding left is_end lookahead_at sees take_token take_lifetime take_mark take_group before rows_for rows run parse_rule
where_name = computed where_clause _ _ _ refl

-- no tokens prints ``
where_nothing : DerivesAs where_clause
    (end)
    (end)
    (end)
unfolding left is_end lookahead_at sees take_token take_lifetime take_mark take_group before rows_for rows run parse_rule
where_nothing = computed where_clause _ _ _ refl

-- `where 'a: where` prints `where 'a :` and leaves `where`
where_twice : DerivesAs where_clause
    (leaf (ident w_where) (at 0 5) (punct 39 true (at 6 7) (leaf (ident (97 ∷ [])) (at 7 8) (punct 58 false (at 8 9) (leaf (ident w_where) (at 10 15) end)))))
    (leaf (ident w_where) call_site (punct 39 true call_site (leaf (ident (97 ∷ [])) call_site (punct 58 false call_site end))))
    (leaf (ident w_where) (at 10 15) end)
unfolding left is_end lookahead_at sees take_token take_lifetime take_mark take_group before rows_for rows run parse_rule
where_twice = computed where_clause _ _ _ refl

-- `where where`: nothing is read
where_where : NotDerived (rule where_clause)
    (leaf (ident w_where) (at 0 5) (leaf (ident w_where) (at 6 11) end))
unfolding left is_end lookahead_at sees take_token take_lifetime take_mark take_group before rows_for rows run parse_rule
where_where = not_read where_clause _ refl

-- `T: A, 'a: 'b` prints `T : A , 'a : 'b`
predicates_two : DerivesAs predicates
    (leaf (ident (84 ∷ [])) (at 0 1) (punct 58 false (at 1 2) (leaf (ident (65 ∷ [])) (at 3 4) (punct 44 false (at 4 5) (punct 39 true (at 6 7) (leaf (ident (97 ∷ [])) (at 7 8) (punct 58 false (at 8 9) (punct 39 true (at 10 11) (leaf (ident (98 ∷ [])) (at 11 12) end)))))))))
    (leaf (ident (84 ∷ [])) call_site (punct 58 false call_site (leaf (ident (65 ∷ [])) call_site (punct 44 false call_site (punct 39 true call_site (leaf (ident (97 ∷ [])) call_site (punct 58 false call_site (punct 39 true call_site (leaf (ident (98 ∷ [])) call_site end)))))))))
    (end)
unfolding left is_end lookahead_at sees take_token take_lifetime take_mark take_group before rows_for rows run parse_rule
predicates_two = computed predicates _ _ _ refl

-- `=` prints `` and leaves `=`
predicates_equals : DerivesAs predicates
    (punct 61 false (at 0 1) end)
    (end)
    (punct 61 false (at 0 1) end)
unfolding left is_end lookahead_at sees take_token take_lifetime take_mark take_group before rows_for rows run parse_rule
predicates_equals = computed predicates _ _ _ refl

-- `a:,,` prints `a : ,` and leaves `,`
predicates_two_commas : DerivesAs predicates
    (leaf (ident (97 ∷ [])) (at 0 1) (punct 58 true (at 1 2) (punct 44 true (at 2 3) (punct 44 false (at 3 4) end))))
    (leaf (ident (97 ∷ [])) call_site (punct 58 false call_site (punct 44 false call_site end)))
    (punct 44 false (at 3 4) end)
unfolding left is_end lookahead_at sees take_token take_lifetime take_mark take_group before rows_for rows run parse_rule
predicates_two_commas = computed predicates _ _ _ refl

-- `:` prints `` and leaves `:`
predicates_colon : DerivesAs predicates
    (punct 58 false (at 0 1) end)
    (end)
    (punct 58 false (at 0 1) end)
unfolding left is_end lookahead_at sees take_token take_lifetime take_mark take_group before rows_for rows run parse_rule
predicates_colon = computed predicates _ _ _ refl

-- `():, a: b c` prints `( ) : , a : b` and leaves `c`
predicates_leave_word : DerivesAs predicates
    (group Paren (at 0 1) (at 1 2) end (punct 58 true (at 2 3) (punct 44 false (at 3 4) (leaf (ident (97 ∷ [])) (at 5 6) (punct 58 false (at 6 7) (leaf (ident (98 ∷ [])) (at 8 9) (leaf (ident (99 ∷ [])) (at 10 11) end)))))))
    (group Paren call_site call_site end (punct 58 false call_site (punct 44 false call_site (leaf (ident (97 ∷ [])) call_site (punct 58 false call_site (leaf (ident (98 ∷ [])) call_site end))))))
    (leaf (ident (99 ∷ [])) (at 10 11) end)
unfolding left is_end lookahead_at sees take_token take_lifetime take_mark take_group before rows_for rows run parse_rule
predicates_leave_word = computed predicates _ _ _ refl

-- no tokens prints ``
predicates_none : DerivesAs predicates
    (end)
    (end)
    (end)
unfolding left is_end lookahead_at sees take_token take_lifetime take_mark take_group before rows_for rows run parse_rule
predicates_none = computed predicates _ _ _ refl

-- `?`: nothing is read
predicates_question : NotDerived (rule predicates)
    (punct 63 false (at 0 1) end)
unfolding left is_end lookahead_at sees take_token take_lifetime take_mark take_group before rows_for rows run parse_rule
predicates_question = not_read predicates _ refl

-- `;` prints `` and leaves `;`
predicates_semicolon : DerivesAs predicates
    (punct 59 false (at 0 1) end)
    (end)
    (punct 59 false (at 0 1) end)
unfolding left is_end lookahead_at sees take_token take_lifetime take_mark take_group before rows_for rows run parse_rule
predicates_semicolon = computed predicates _ _ _ refl

-- `{}` prints `` and leaves `{}`
predicates_braces : DerivesAs predicates
    (group Brace (at 0 1) (at 1 2) end end)
    (end)
    (group Brace (at 0 1) (at 1 2) end end)
unfolding left is_end lookahead_at sees take_token take_lifetime take_mark take_group before rows_for rows run parse_rule
predicates_braces = computed predicates _ _ _ refl

-- `::`: nothing is read
predicates_colons : NotDerived (rule predicates)
    (punct 58 true (at 0 1) (punct 58 false (at 1 2) end))
unfolding left is_end lookahead_at sees take_token take_lifetime take_mark take_group before rows_for rows run parse_rule
predicates_colons = not_read predicates _ refl

-- `[a]:` prints `[ a ] :`
predicates_slice : DerivesAs predicates
    (group Bracket (at 0 1) (at 2 3) (leaf (ident (97 ∷ [])) (at 1 2) end) (punct 58 false (at 3 4) end))
    (group Bracket call_site call_site (leaf (ident (97 ∷ [])) call_site end) (punct 58 false call_site end))
    (end)
unfolding left is_end lookahead_at sees take_token take_lifetime take_mark take_group before rows_for rows run parse_rule
predicates_slice = computed predicates _ _ _ refl

-- `a: ; b:` prints `a :` and leaves `; b:`
predicates_leave_semicolon : DerivesAs predicates
    (leaf (ident (97 ∷ [])) (at 0 1) (punct 58 false (at 1 2) (punct 59 false (at 3 4) (leaf (ident (98 ∷ [])) (at 5 6) (punct 58 false (at 6 7) end)))))
    (leaf (ident (97 ∷ [])) call_site (punct 58 false call_site end))
    (punct 59 false (at 3 4) (leaf (ident (98 ∷ [])) (at 5 6) (punct 58 false (at 6 7) end)))
unfolding left is_end lookahead_at sees take_token take_lifetime take_mark take_group before rows_for rows run parse_rule
predicates_leave_semicolon = computed predicates _ _ _ refl

-- `for<'a> &'a T: A` prints `for < 'a > & 'a T : A`
predicate_for_reference : DerivesAs predicate
    (leaf (ident w_for) (at 0 3) (punct 60 true (at 3 4) (punct 39 true (at 4 5) (leaf (ident (97 ∷ [])) (at 5 6) (punct 62 false (at 6 7) (punct 38 true (at 8 9) (punct 39 true (at 9 10) (leaf (ident (97 ∷ [])) (at 10 11) (leaf (ident (84 ∷ [])) (at 12 13) (punct 58 false (at 13 14) (leaf (ident (65 ∷ [])) (at 15 16) end)))))))))))
    (leaf (ident w_for) call_site (punct 60 false call_site (punct 39 true call_site (leaf (ident (97 ∷ [])) call_site (punct 62 false call_site (punct 38 false call_site (punct 39 true call_site (leaf (ident (97 ∷ [])) call_site (leaf (ident (84 ∷ [])) call_site (punct 58 false call_site (leaf (ident (65 ∷ [])) call_site end)))))))))))
    (end)
unfolding left is_end lookahead_at sees take_token take_lifetime take_mark take_group before rows_for rows run parse_rule
predicate_for_reference = computed predicate _ _ _ refl

-- `'a::` prints `'a :` and leaves `:`
predicate_lifetime_colons : DerivesAs predicate
    (punct 39 true (at 0 1) (leaf (ident (97 ∷ [])) (at 1 2) (punct 58 true (at 2 3) (punct 58 false (at 3 4) end))))
    (punct 39 true call_site (leaf (ident (97 ∷ [])) call_site (punct 58 false call_site end)))
    (punct 58 false (at 3 4) end)
unfolding left is_end lookahead_at sees take_token take_lifetime take_mark take_group before rows_for rows run parse_rule
predicate_lifetime_colons = computed predicate _ _ _ refl

-- `!::` prints `! :` and leaves `:`
predicate_type_colons : DerivesAs predicate
    (punct 33 true (at 0 1) (punct 58 true (at 1 2) (punct 58 false (at 2 3) end)))
    (punct 33 false call_site (punct 58 false call_site end))
    (punct 58 false (at 2 3) end)
unfolding left is_end lookahead_at sees take_token take_lifetime take_mark take_group before rows_for rows run parse_rule
predicate_type_colons = computed predicate _ _ _ refl

-- `a: 'b c` prints `a : 'b` and leaves `c`
predicate_bound_leaves_word : DerivesAs predicate
    (leaf (ident (97 ∷ [])) (at 0 1) (punct 58 false (at 1 2) (punct 39 true (at 3 4) (leaf (ident (98 ∷ [])) (at 4 5) (leaf (ident (99 ∷ [])) (at 6 7) end)))))
    (leaf (ident (97 ∷ [])) call_site (punct 58 false call_site (punct 39 true call_site (leaf (ident (98 ∷ [])) call_site end))))
    (leaf (ident (99 ∷ [])) (at 6 7) end)
unfolding left is_end lookahead_at sees take_token take_lifetime take_mark take_group before rows_for rows run parse_rule
predicate_bound_leaves_word = computed predicate _ _ _ refl

-- `'a 'b:`: nothing is read
predicate_two_lifetimes : NotDerived (rule predicate)
    (punct 39 true (at 0 1) (leaf (ident (97 ∷ [])) (at 1 2) (punct 39 true (at 3 4) (leaf (ident (98 ∷ [])) (at 4 5) (punct 58 false (at 5 6) end)))))
unfolding left is_end lookahead_at sees take_token take_lifetime take_mark take_group before rows_for rows run parse_rule
predicate_two_lifetimes = not_read predicate _ refl

-- `: a`: nothing is read
predicate_no_type : NotDerived (rule predicate)
    (punct 58 false (at 0 1) (leaf (ident (97 ∷ [])) (at 2 3) end))
unfolding left is_end lookahead_at sees take_token take_lifetime take_mark take_group before rows_for rows run parse_rule
predicate_no_type = not_read predicate _ refl

-- `a =`: nothing is read
predicate_no_colon : NotDerived (rule predicate)
    (leaf (ident (97 ∷ [])) (at 0 1) (punct 61 false (at 2 3) end))
unfolding left is_end lookahead_at sees take_token take_lifetime take_mark take_group before rows_for rows run parse_rule
predicate_no_colon = not_read predicate _ refl

-- `'a: 'b 'c` prints `'a : 'b` and leaves `'c`
predicate_bound_leaves_lifetime : DerivesAs predicate
    (punct 39 true (at 0 1) (leaf (ident (97 ∷ [])) (at 1 2) (punct 58 false (at 2 3) (punct 39 true (at 4 5) (leaf (ident (98 ∷ [])) (at 5 6) (punct 39 true (at 7 8) (leaf (ident (99 ∷ [])) (at 8 9) end)))))))
    (punct 39 true call_site (leaf (ident (97 ∷ [])) call_site (punct 58 false call_site (punct 39 true call_site (leaf (ident (98 ∷ [])) call_site end)))))
    (punct 39 true (at 7 8) (leaf (ident (99 ∷ [])) (at 8 9) end))
unfolding left is_end lookahead_at sees take_token take_lifetime take_mark take_group before rows_for rows run parse_rule
predicate_bound_leaves_lifetime = computed predicate _ _ _ refl

-- `a: b for` prints `a : b` and leaves `for`
predicate_leaves_for : DerivesAs predicate
    (leaf (ident (97 ∷ [])) (at 0 1) (punct 58 false (at 1 2) (leaf (ident (98 ∷ [])) (at 3 4) (leaf (ident w_for) (at 5 8) end))))
    (leaf (ident (97 ∷ [])) call_site (punct 58 false call_site (leaf (ident (98 ∷ [])) call_site end)))
    (leaf (ident w_for) (at 5 8) end)
unfolding left is_end lookahead_at sees take_token take_lifetime take_mark take_group before rows_for rows run parse_rule
predicate_leaves_for = computed predicate _ _ _ refl

-- `: a:`: nothing is read
predicate_colon_first : NotDerived (rule predicate)
    (punct 58 false (at 0 1) (leaf (ident (97 ∷ [])) (at 2 3) (punct 58 false (at 3 4) end)))
unfolding left is_end lookahead_at sees take_token take_lifetime take_mark take_group before rows_for rows run parse_rule
predicate_colon_first = not_read predicate _ refl

-- `for a:`: nothing is read
predicate_for_without_list : NotDerived (rule predicate)
    (leaf (ident w_for) (at 0 3) (leaf (ident (97 ∷ [])) (at 4 5) (punct 58 false (at 5 6) end)))
unfolding left is_end lookahead_at sees take_token take_lifetime take_mark take_group before rows_for rows run parse_rule
predicate_for_without_list = not_read predicate _ refl

-- `a: for<>`: nothing is read
predicate_for_after_colon : NotDerived (rule predicate)
    (leaf (ident (97 ∷ [])) (at 0 1) (punct 58 false (at 1 2) (leaf (ident w_for) (at 3 6) (punct 60 true (at 6 7) (punct 62 false (at 7 8) end)))))
unfolding left is_end lookahead_at sees take_token take_lifetime take_mark take_group before rows_for rows run parse_rule
predicate_for_after_colon = not_read predicate _ refl

-- `a for<>:`: nothing is read
predicate_for_after_type : NotDerived (rule predicate)
    (leaf (ident (97 ∷ [])) (at 0 1) (leaf (ident w_for) (at 2 5) (punct 60 true (at 5 6) (punct 62 true (at 6 7) (punct 58 false (at 7 8) end)))))
unfolding left is_end lookahead_at sees take_token take_lifetime take_mark take_group before rows_for rows run parse_rule
predicate_for_after_type = not_read predicate _ refl

-- `for<> <> a:`: nothing is read
predicate_for_two_lists : NotDerived (rule predicate)
    (leaf (ident w_for) (at 0 3) (punct 60 true (at 3 4) (punct 62 false (at 4 5) (punct 60 true (at 6 7) (punct 62 false (at 7 8) (leaf (ident (97 ∷ [])) (at 9 10) (punct 58 false (at 10 11) end)))))))
unfolding left is_end lookahead_at sees take_token take_lifetime take_mark take_group before rows_for rows run parse_rule
predicate_for_two_lists = not_read predicate _ refl

-- `for<> for a:`: nothing is read
predicate_for_after_list : NotDerived (rule predicate)
    (leaf (ident w_for) (at 0 3) (punct 60 true (at 3 4) (punct 62 false (at 4 5) (leaf (ident w_for) (at 6 9) (leaf (ident (97 ∷ [])) (at 10 11) (punct 58 false (at 11 12) end))))))
unfolding left is_end lookahead_at sees take_token take_lifetime take_mark take_group before rows_for rows run parse_rule
predicate_for_after_list = not_read predicate _ refl

-- `for for<> a:`: nothing is read
predicate_for_for : NotDerived (rule predicate)
    (leaf (ident w_for) (at 0 3) (leaf (ident w_for) (at 4 7) (punct 60 true (at 7 8) (punct 62 false (at 8 9) (leaf (ident (97 ∷ [])) (at 10 11) (punct 58 false (at 11 12) end))))))
unfolding left is_end lookahead_at sees take_token take_lifetime take_mark take_group before rows_for rows run parse_rule
predicate_for_for = not_read predicate _ refl

-- `a, b:`: nothing is read
predicate_two_types : NotDerived (rule predicate)
    (leaf (ident (97 ∷ [])) (at 0 1) (punct 44 false (at 1 2) (leaf (ident (98 ∷ [])) (at 3 4) (punct 58 false (at 4 5) end))))
unfolding left is_end lookahead_at sees take_token take_lifetime take_mark take_group before rows_for rows run parse_rule
predicate_two_types = not_read predicate _ refl

-- `for<> for<> a:`: nothing is read
predicate_for_twice : NotDerived (rule predicate)
    (leaf (ident w_for) (at 0 3) (punct 60 true (at 3 4) (punct 62 false (at 4 5) (leaf (ident w_for) (at 6 9) (punct 60 true (at 9 10) (punct 62 false (at 10 11) (leaf (ident (97 ∷ [])) (at 12 13) (punct 58 false (at 13 14) end))))))))
unfolding left is_end lookahead_at sees take_token take_lifetime take_mark take_group before rows_for rows run parse_rule
predicate_for_twice = not_read predicate _ refl

-- `A + B {}` prints `A + B` and leaves `{}`
predicate_bounds_leave_braces : DerivesAs predicate_bounds
    (leaf (ident (65 ∷ [])) (at 0 1) (punct 43 false (at 2 3) (leaf (ident (66 ∷ [])) (at 4 5) (group Brace (at 6 7) (at 7 8) end end))))
    (leaf (ident (65 ∷ [])) call_site (punct 43 false call_site (leaf (ident (66 ∷ [])) call_site end)))
    (group Brace (at 6 7) (at 7 8) end end)
unfolding left is_end lookahead_at sees take_token take_lifetime take_mark take_group before rows_for rows run parse_rule
predicate_bounds_leave_braces = computed predicate_bounds _ _ _ refl

-- `=` prints `` and leaves `=`
predicate_bounds_equals : DerivesAs predicate_bounds
    (punct 61 false (at 0 1) end)
    (end)
    (punct 61 false (at 0 1) end)
unfolding left is_end lookahead_at sees take_token take_lifetime take_mark take_group before rows_for rows run parse_rule
predicate_bounds_equals = computed predicate_bounds _ _ _ refl

-- `:` prints `` and leaves `:`
predicate_bounds_colon : DerivesAs predicate_bounds
    (punct 58 false (at 0 1) end)
    (end)
    (punct 58 false (at 0 1) end)
unfolding left is_end lookahead_at sees take_token take_lifetime take_mark take_group before rows_for rows run parse_rule
predicate_bounds_colon = computed predicate_bounds _ _ _ refl

-- `a + b c` prints `a + b` and leaves `c`
predicate_bounds_leave_word : DerivesAs predicate_bounds
    (leaf (ident (97 ∷ [])) (at 0 1) (punct 43 false (at 2 3) (leaf (ident (98 ∷ [])) (at 4 5) (leaf (ident (99 ∷ [])) (at 6 7) end))))
    (leaf (ident (97 ∷ [])) call_site (punct 43 false call_site (leaf (ident (98 ∷ [])) call_site end)))
    (leaf (ident (99 ∷ [])) (at 6 7) end)
unfolding left is_end lookahead_at sees take_token take_lifetime take_mark take_group before rows_for rows run parse_rule
predicate_bounds_leave_word = computed predicate_bounds _ _ _ refl

-- `(a) + +`: nothing is read
predicate_bounds_two_plus : NotDerived (rule predicate_bounds)
    (group Paren (at 0 1) (at 2 3) (leaf (ident (97 ∷ [])) (at 1 2) end) (punct 43 false (at 4 5) (punct 43 false (at 6 7) end)))
unfolding left is_end lookahead_at sees take_token take_lifetime take_mark take_group before rows_for rows run parse_rule
predicate_bounds_two_plus = not_read predicate_bounds _ refl

-- `a +` prints `a +`
predicate_bounds_last_plus : DerivesAs predicate_bounds
    (leaf (ident (97 ∷ [])) (at 0 1) (punct 43 false (at 2 3) end))
    (leaf (ident (97 ∷ [])) call_site (punct 43 false call_site end))
    (end)
unfolding left is_end lookahead_at sees take_token take_lifetime take_mark take_group before rows_for rows run parse_rule
predicate_bounds_last_plus = computed predicate_bounds _ _ _ refl

-- `'a` prints `'a`
predicate_bounds_lifetime : DerivesAs predicate_bounds
    (punct 39 true (at 0 1) (leaf (ident (97 ∷ [])) (at 1 2) end))
    (punct 39 true call_site (leaf (ident (97 ∷ [])) call_site end))
    (end)
unfolding left is_end lookahead_at sees take_token take_lifetime take_mark take_group before rows_for rows run parse_rule
predicate_bounds_lifetime = computed predicate_bounds _ _ _ refl

-- `;` prints `` and leaves `;`
predicate_bounds_semicolon : DerivesAs predicate_bounds
    (punct 59 false (at 0 1) end)
    (end)
    (punct 59 false (at 0 1) end)
unfolding left is_end lookahead_at sees take_token take_lifetime take_mark take_group before rows_for rows run parse_rule
predicate_bounds_semicolon = computed predicate_bounds _ _ _ refl

-- `,` prints `` and leaves `,`
predicate_bounds_comma : DerivesAs predicate_bounds
    (punct 44 false (at 0 1) end)
    (end)
    (punct 44 false (at 0 1) end)
unfolding left is_end lookahead_at sees take_token take_lifetime take_mark take_group before rows_for rows run parse_rule
predicate_bounds_comma = computed predicate_bounds _ _ _ refl

-- `{}` prints `` and leaves `{}`
predicate_bounds_none : DerivesAs predicate_bounds
    (group Brace (at 0 1) (at 1 2) end end)
    (end)
    (group Brace (at 0 1) (at 1 2) end end)
unfolding left is_end lookahead_at sees take_token take_lifetime take_mark take_group before rows_for rows run parse_rule
predicate_bounds_none = computed predicate_bounds _ _ _ refl

-- `a,` prints `a` and leaves `,`
predicate_bounds_leave_comma : DerivesAs predicate_bounds
    (leaf (ident (97 ∷ [])) (at 0 1) (punct 44 false (at 1 2) end))
    (leaf (ident (97 ∷ [])) call_site end)
    (punct 44 false (at 1 2) end)
unfolding left is_end lookahead_at sees take_token take_lifetime take_mark take_group before rows_for rows run parse_rule
predicate_bounds_leave_comma = computed predicate_bounds _ _ _ refl

-- `[]`: nothing is read
predicate_bounds_brackets : NotDerived (rule predicate_bounds)
    (group Bracket (at 0 1) (at 1 2) end end)
unfolding left is_end lookahead_at sees take_token take_lifetime take_mark take_group before rows_for rows run parse_rule
predicate_bounds_brackets = not_read predicate_bounds _ refl

-- `::`: nothing is read
predicate_bounds_colons : NotDerived (rule predicate_bounds)
    (punct 58 true (at 0 1) (punct 58 false (at 1 2) end))
unfolding left is_end lookahead_at sees take_token take_lifetime take_mark take_group before rows_for rows run parse_rule
predicate_bounds_colons = not_read predicate_bounds _ refl

-- `+ a b`: nothing is read
predicate_bounds_plus_first : NotDerived (rule predicate_bounds)
    (punct 43 false (at 0 1) (leaf (ident (97 ∷ [])) (at 2 3) (leaf (ident (98 ∷ [])) (at 4 5) end)))
unfolding left is_end lookahead_at sees take_token take_lifetime take_mark take_group before rows_for rows run parse_rule
predicate_bounds_plus_first = not_read predicate_bounds _ refl
