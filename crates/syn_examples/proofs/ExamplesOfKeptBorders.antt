-- Written by tools/grammar.py from specs/Table.antt; edits are lost.
-- Worked examples of borders of what is kept as tokens, from tools/examples.txt: what each rule reads, prints and refuses. The checker computes each.
use Rattle.std.proofs.Common.{true, false, [], ◌∷◌, refl}
use Rattle.syn_grammar.specs.Words.{w_underscore, w_break, w_const, w_continue, w_crate, w_else, w_false, w_fn, w_for, w_impl, w_in, w_loop, w_macro, w_mut, w_pub, w_return, w_Self_type, w_self, w_static, w_super, w_trait, w_true, w_type, w_unsafe, w_use, w_where, w_union, w_auto, w_default, w_safe}
use Rattle.syn_grammar.specs.Tokens.{call_site, Paren, Brace, Bracket, None, ByteStr, CStr, Int, ident, literal, end, leaf, punct, group}
use Rattle.syn_grammar.specs.Rules.{rooted_use, bodiless_function, untyped_static, valueless_static, odd_const, macro_definition, odd_type, bare_trait, const_alias, restricted_trait, bare_trait_function, bare_trait_type, marked_member, odd_trait_const, bodiless_impl_function, odd_impl_const, odd_impl_type, kept_impl_item, bare_foreign_static, foreign_body, foreign_value, odd_foreign_type, kept_item_rest, kept_item}
use Rattle.syn_grammar.specs.Grammar.{rule}
use Rattle.syn_grammar.specs.Take.{left, is_end, lookahead_at, sees, take_token, take_lifetime, take_mark, take_group, before, first_span}
use Rattle.syn_grammar.specs.Run.{rows_for, rows, run, parse_rule}
use Rattle.syn_grammar.specs.Promises.{NotDerived}
use Rattle.syn_grammar.proofs.Shown.{at, DerivesAs, computed, not_read}

-- `pub {a , {:: b}} ;`: nothing is read
rooted_use_border_1 : NotDerived (rule rooted_use)
    (leaf (ident w_pub) (at 0 3) (group Brace (at 4 5) (at 15 16) (leaf (ident (97 ∷ [])) (at 5 6) (punct 44 false (at 7 8) (group Brace (at 9 10) (at 14 15) (punct 58 true (at 10 11) (punct 58 false (at 11 12) (leaf (ident (98 ∷ [])) (at 13 14) end))) end))) (punct 59 false (at 17 18) end)))
unfolding left is_end lookahead_at sees take_token take_lifetime take_mark take_group before rows_for rows run parse_rule
rooted_use_border_1 = not_read rooted_use _ refl

-- `use {a , {:: b}} ;` prints `use {a , {:: b}} ;`
rooted_use_border_2 : DerivesAs rooted_use
    (leaf (ident w_use) (at 0 3) (group Brace (at 4 5) (at 15 16) (leaf (ident (97 ∷ [])) (at 5 6) (punct 44 false (at 7 8) (group Brace (at 9 10) (at 14 15) (punct 58 true (at 10 11) (punct 58 false (at 11 12) (leaf (ident (98 ∷ [])) (at 13 14) end))) end))) (punct 59 false (at 17 18) end)))
    (leaf (ident w_use) call_site (group Brace call_site call_site (leaf (ident (97 ∷ [])) call_site (punct 44 false call_site (group Brace call_site call_site (punct 58 true call_site (punct 58 false call_site (leaf (ident (98 ∷ [])) call_site end))) end))) (punct 59 false call_site end)))
    (end)
unfolding left is_end lookahead_at sees take_token take_lifetime take_mark take_group before rows_for rows run parse_rule
rooted_use_border_2 = computed rooted_use _ _ _ refl

-- `pub use {a {:: b}} ;`: nothing is read
rooted_use_border_3 : NotDerived (rule rooted_use)
    (leaf (ident w_pub) (at 0 3) (leaf (ident w_use) (at 4 7) (group Brace (at 8 9) (at 17 18) (leaf (ident (97 ∷ [])) (at 9 10) (group Brace (at 11 12) (at 16 17) (punct 58 true (at 12 13) (punct 58 false (at 13 14) (leaf (ident (98 ∷ [])) (at 15 16) end))) end)) (punct 59 false (at 19 20) end))))
unfolding left is_end lookahead_at sees take_token take_lifetime take_mark take_group before rows_for rows run parse_rule
rooted_use_border_3 = not_read rooted_use _ refl

-- `pub use (a , {:: b}) ;`: nothing is read
rooted_use_border_4 : NotDerived (rule rooted_use)
    (leaf (ident w_pub) (at 0 3) (leaf (ident w_use) (at 4 7) (group Paren (at 8 9) (at 19 20) (leaf (ident (97 ∷ [])) (at 9 10) (punct 44 false (at 11 12) (group Brace (at 13 14) (at 18 19) (punct 58 true (at 14 15) (punct 58 false (at 15 16) (leaf (ident (98 ∷ [])) (at 17 18) end))) end))) (punct 59 false (at 21 22) end))))
unfolding left is_end lookahead_at sees take_token take_lifetime take_mark take_group before rows_for rows run parse_rule
rooted_use_border_4 = not_read rooted_use _ refl

-- `pub use [a , {:: b}] ;`: nothing is read
rooted_use_border_5 : NotDerived (rule rooted_use)
    (leaf (ident w_pub) (at 0 3) (leaf (ident w_use) (at 4 7) (group Bracket (at 8 9) (at 19 20) (leaf (ident (97 ∷ [])) (at 9 10) (punct 44 false (at 11 12) (group Brace (at 13 14) (at 18 19) (punct 58 true (at 14 15) (punct 58 false (at 15 16) (leaf (ident (98 ∷ [])) (at 17 18) end))) end))) (punct 59 false (at 21 22) end))))
unfolding left is_end lookahead_at sees take_token take_lifetime take_mark take_group before rows_for rows run parse_rule
rooted_use_border_5 = not_read rooted_use _ refl

-- `pub use {a , {:: b}} ,`: nothing is read
rooted_use_border_6 : NotDerived (rule rooted_use)
    (leaf (ident w_pub) (at 0 3) (leaf (ident w_use) (at 4 7) (group Brace (at 8 9) (at 19 20) (leaf (ident (97 ∷ [])) (at 9 10) (punct 44 false (at 11 12) (group Brace (at 13 14) (at 18 19) (punct 58 true (at 14 15) (punct 58 false (at 15 16) (leaf (ident (98 ∷ [])) (at 17 18) end))) end))) (punct 44 false (at 21 22) end))))
unfolding left is_end lookahead_at sees take_token take_lifetime take_mark take_group before rows_for rows run parse_rule
rooted_use_border_6 = not_read rooted_use _ refl

-- `pub Self {a , {:: b}} ;`: nothing is read
rooted_use_border_7 : NotDerived (rule rooted_use)
    (leaf (ident w_pub) (at 0 3) (leaf (ident w_Self_type) (at 4 8) (group Brace (at 9 10) (at 20 21) (leaf (ident (97 ∷ [])) (at 10 11) (punct 44 false (at 12 13) (group Brace (at 14 15) (at 19 20) (punct 58 true (at 15 16) (punct 58 false (at 16 17) (leaf (ident (98 ∷ [])) (at 18 19) end))) end))) (punct 59 false (at 22 23) end))))
unfolding left is_end lookahead_at sees take_token take_lifetime take_mark take_group before rows_for rows run parse_rule
rooted_use_border_7 = not_read rooted_use _ refl

-- `; pub use {a , {:: b}} ;`: nothing is read
rooted_use_border_8 : NotDerived (rule rooted_use)
    (punct 59 false (at 0 1) (leaf (ident w_pub) (at 2 5) (leaf (ident w_use) (at 6 9) (group Brace (at 10 11) (at 21 22) (leaf (ident (97 ∷ [])) (at 11 12) (punct 44 false (at 13 14) (group Brace (at 15 16) (at 20 21) (punct 58 true (at 16 17) (punct 58 false (at 17 18) (leaf (ident (98 ∷ [])) (at 19 20) end))) end))) (punct 59 false (at 23 24) end)))))
unfolding left is_end lookahead_at sees take_token take_lifetime take_mark take_group before rows_for rows run parse_rule
rooted_use_border_8 = not_read rooted_use _ refl

-- `pub ; use {a , {:: b}} ;`: nothing is read
rooted_use_border_9 : NotDerived (rule rooted_use)
    (leaf (ident w_pub) (at 0 3) (punct 59 false (at 4 5) (leaf (ident w_use) (at 6 9) (group Brace (at 10 11) (at 21 22) (leaf (ident (97 ∷ [])) (at 11 12) (punct 44 false (at 13 14) (group Brace (at 15 16) (at 20 21) (punct 58 true (at 16 17) (punct 58 false (at 17 18) (leaf (ident (98 ∷ [])) (at 19 20) end))) end))) (punct 59 false (at 23 24) end)))))
unfolding left is_end lookahead_at sees take_token take_lifetime take_mark take_group before rows_for rows run parse_rule
rooted_use_border_9 = not_read rooted_use _ refl

-- `pub use ; {a , {:: b}} ;`: nothing is read
rooted_use_border_10 : NotDerived (rule rooted_use)
    (leaf (ident w_pub) (at 0 3) (leaf (ident w_use) (at 4 7) (punct 59 false (at 8 9) (group Brace (at 10 11) (at 21 22) (leaf (ident (97 ∷ [])) (at 11 12) (punct 44 false (at 13 14) (group Brace (at 15 16) (at 20 21) (punct 58 true (at 16 17) (punct 58 false (at 17 18) (leaf (ident (98 ∷ [])) (at 19 20) end))) end))) (punct 59 false (at 23 24) end)))))
unfolding left is_end lookahead_at sees take_token take_lifetime take_mark take_group before rows_for rows run parse_rule
rooted_use_border_10 = not_read rooted_use _ refl

-- `pub use {a , {:: b} +} ;`: nothing is read
rooted_use_border_11 : NotDerived (rule rooted_use)
    (leaf (ident w_pub) (at 0 3) (leaf (ident w_use) (at 4 7) (group Brace (at 8 9) (at 21 22) (leaf (ident (97 ∷ [])) (at 9 10) (punct 44 false (at 11 12) (group Brace (at 13 14) (at 18 19) (punct 58 true (at 14 15) (punct 58 false (at 15 16) (leaf (ident (98 ∷ [])) (at 17 18) end))) (punct 43 false (at 20 21) end)))) (punct 59 false (at 23 24) end))))
unfolding left is_end lookahead_at sees take_token take_lifetime take_mark take_group before rows_for rows run parse_rule
rooted_use_border_11 = not_read rooted_use _ refl

-- `pub pub use {a , {:: b}} ;`: nothing is read
rooted_use_border_12 : NotDerived (rule rooted_use)
    (leaf (ident w_pub) (at 0 3) (leaf (ident w_pub) (at 4 7) (leaf (ident w_use) (at 8 11) (group Brace (at 12 13) (at 23 24) (leaf (ident (97 ∷ [])) (at 13 14) (punct 44 false (at 15 16) (group Brace (at 17 18) (at 22 23) (punct 58 true (at 18 19) (punct 58 false (at 19 20) (leaf (ident (98 ∷ [])) (at 21 22) end))) end))) (punct 59 false (at 25 26) end)))))
unfolding left is_end lookahead_at sees take_token take_lifetime take_mark take_group before rows_for rows run parse_rule
rooted_use_border_12 = not_read rooted_use _ refl

-- `pub use pub {a , {:: b}} ;`: nothing is read
rooted_use_border_13 : NotDerived (rule rooted_use)
    (leaf (ident w_pub) (at 0 3) (leaf (ident w_use) (at 4 7) (leaf (ident w_pub) (at 8 11) (group Brace (at 12 13) (at 23 24) (leaf (ident (97 ∷ [])) (at 13 14) (punct 44 false (at 15 16) (group Brace (at 17 18) (at 22 23) (punct 58 true (at 18 19) (punct 58 false (at 19 20) (leaf (ident (98 ∷ [])) (at 21 22) end))) end))) (punct 59 false (at 25 26) end)))))
unfolding left is_end lookahead_at sees take_token take_lifetime take_mark take_group before rows_for rows run parse_rule
rooted_use_border_13 = not_read rooted_use _ refl

-- `pub use use {a , {:: b}} ;`: nothing is read
rooted_use_border_14 : NotDerived (rule rooted_use)
    (leaf (ident w_pub) (at 0 3) (leaf (ident w_use) (at 4 7) (leaf (ident w_use) (at 8 11) (group Brace (at 12 13) (at 23 24) (leaf (ident (97 ∷ [])) (at 13 14) (punct 44 false (at 15 16) (group Brace (at 17 18) (at 22 23) (punct 58 true (at 18 19) (punct 58 false (at 19 20) (leaf (ident (98 ∷ [])) (at 21 22) end))) end))) (punct 59 false (at 25 26) end)))))
unfolding left is_end lookahead_at sees take_token take_lifetime take_mark take_group before rows_for rows run parse_rule
rooted_use_border_14 = not_read rooted_use _ refl

-- `pub use {a , {:: b}} pub ;`: nothing is read
rooted_use_border_15 : NotDerived (rule rooted_use)
    (leaf (ident w_pub) (at 0 3) (leaf (ident w_use) (at 4 7) (group Brace (at 8 9) (at 19 20) (leaf (ident (97 ∷ [])) (at 9 10) (punct 44 false (at 11 12) (group Brace (at 13 14) (at 18 19) (punct 58 true (at 14 15) (punct 58 false (at 15 16) (leaf (ident (98 ∷ [])) (at 17 18) end))) end))) (leaf (ident w_pub) (at 21 24) (punct 59 false (at 25 26) end)))))
unfolding left is_end lookahead_at sees take_token take_lifetime take_mark take_group before rows_for rows run parse_rule
rooted_use_border_15 = not_read rooted_use _ refl

-- `pub use {a , {:: b}} {a , {:: b}} ;`: nothing is read
rooted_use_border_16 : NotDerived (rule rooted_use)
    (leaf (ident w_pub) (at 0 3) (leaf (ident w_use) (at 4 7) (group Brace (at 8 9) (at 19 20) (leaf (ident (97 ∷ [])) (at 9 10) (punct 44 false (at 11 12) (group Brace (at 13 14) (at 18 19) (punct 58 true (at 14 15) (punct 58 false (at 15 16) (leaf (ident (98 ∷ [])) (at 17 18) end))) end))) (group Brace (at 21 22) (at 32 33) (leaf (ident (97 ∷ [])) (at 22 23) (punct 44 false (at 24 25) (group Brace (at 26 27) (at 31 32) (punct 58 true (at 27 28) (punct 58 false (at 28 29) (leaf (ident (98 ∷ [])) (at 30 31) end))) end))) (punct 59 false (at 34 35) end)))))
unfolding left is_end lookahead_at sees take_token take_lifetime take_mark take_group before rows_for rows run parse_rule
rooted_use_border_16 = not_read rooted_use _ refl

-- `fn auto () ,`: nothing is read
bodiless_function_border_1 : NotDerived (rule bodiless_function)
    (leaf (ident w_fn) (at 0 2) (leaf (ident w_auto) (at 3 7) (group Paren (at 8 9) (at 9 10) end (punct 44 false (at 11 12) end))))
unfolding left is_end lookahead_at sees take_token take_lifetime take_mark take_group before first_span rows_for rows run parse_rule
bodiless_function_border_1 = not_read bodiless_function _ refl

-- `; fn auto () ;`: nothing is read
bodiless_function_border_2 : NotDerived (rule bodiless_function)
    (punct 59 false (at 0 1) (leaf (ident w_fn) (at 2 4) (leaf (ident w_auto) (at 5 9) (group Paren (at 10 11) (at 11 12) end (punct 59 false (at 13 14) end)))))
unfolding left is_end lookahead_at sees take_token take_lifetime take_mark take_group before first_span rows_for rows run parse_rule
bodiless_function_border_2 = not_read bodiless_function _ refl

-- `fn auto () pub ;`: nothing is read
bodiless_function_border_3 : NotDerived (rule bodiless_function)
    (leaf (ident w_fn) (at 0 2) (leaf (ident w_auto) (at 3 7) (group Paren (at 8 9) (at 9 10) end (leaf (ident w_pub) (at 11 14) (punct 59 false (at 15 16) end)))))
unfolding left is_end lookahead_at sees take_token take_lifetime take_mark take_group before first_span rows_for rows run parse_rule
bodiless_function_border_3 = not_read bodiless_function _ refl

-- `pub pub fn safe () ;`: nothing is read
bodiless_function_border_4 : NotDerived (rule bodiless_function)
    (leaf (ident w_pub) (at 0 3) (leaf (ident w_pub) (at 4 7) (leaf (ident w_fn) (at 8 10) (leaf (ident w_safe) (at 11 15) (group Paren (at 16 17) (at 17 18) end (punct 59 false (at 19 20) end))))))
unfolding left is_end lookahead_at sees take_token take_lifetime take_mark take_group before first_span rows_for rows run parse_rule
bodiless_function_border_4 = not_read bodiless_function _ refl

-- `fn default () const fn default () ;`: nothing is read
bodiless_function_border_5 : NotDerived (rule bodiless_function)
    (leaf (ident w_fn) (at 0 2) (leaf (ident w_default) (at 3 10) (group Paren (at 11 12) (at 12 13) end (leaf (ident w_const) (at 14 19) (leaf (ident w_fn) (at 20 22) (leaf (ident w_default) (at 23 30) (group Paren (at 31 32) (at 32 33) end (punct 59 false (at 34 35) end))))))))
unfolding left is_end lookahead_at sees take_token take_lifetime take_mark take_group before first_span rows_for rows run parse_rule
bodiless_function_border_5 = not_read bodiless_function _ refl

-- `mut auto =c"x" ;`: nothing is read
untyped_static_border_1 : NotDerived (rule untyped_static)
    (leaf (ident w_mut) (at 0 3) (leaf (ident w_auto) (at 4 8) (punct 61 false (at 9 10) (leaf (literal CStr (99 ∷ 34 ∷ 120 ∷ 34 ∷ [])) (at 10 14) (punct 59 false (at 15 16) end)))))
unfolding left is_end lookahead_at sees take_token take_lifetime take_mark take_group before rows_for rows run parse_rule
untyped_static_border_1 = not_read untyped_static _ refl

-- `static _ = break ;`: nothing is read
untyped_static_border_2 : NotDerived (rule untyped_static)
    (leaf (ident w_static) (at 0 6) (leaf (ident w_underscore) (at 7 8) (punct 61 false (at 9 10) (leaf (ident w_break) (at 11 16) (punct 59 false (at 17 18) end)))))
unfolding left is_end lookahead_at sees take_token take_lifetime take_mark take_group before rows_for rows run parse_rule
untyped_static_border_2 = not_read untyped_static _ refl

-- `static fn = break ;`: nothing is read
untyped_static_border_3 : NotDerived (rule untyped_static)
    (leaf (ident w_static) (at 0 6) (leaf (ident w_fn) (at 7 9) (punct 61 false (at 10 11) (leaf (ident w_break) (at 12 17) (punct 59 false (at 18 19) end)))))
unfolding left is_end lookahead_at sees take_token take_lifetime take_mark take_group before rows_for rows run parse_rule
untyped_static_border_3 = not_read untyped_static _ refl

-- `static auto ==self ;`: nothing is read
untyped_static_border_4 : NotDerived (rule untyped_static)
    (leaf (ident w_static) (at 0 6) (leaf (ident w_auto) (at 7 11) (punct 61 true (at 12 13) (punct 61 false (at 13 14) (leaf (ident w_self) (at 14 18) (punct 59 false (at 19 20) end))))))
unfolding left is_end lookahead_at sees take_token take_lifetime take_mark take_group before rows_for rows run parse_rule
untyped_static_border_4 = not_read untyped_static _ refl

-- `static Self = break ;`: nothing is read
untyped_static_border_5 : NotDerived (rule untyped_static)
    (leaf (ident w_static) (at 0 6) (leaf (ident w_Self_type) (at 7 11) (punct 61 false (at 12 13) (leaf (ident w_break) (at 14 19) (punct 59 false (at 20 21) end)))))
unfolding left is_end lookahead_at sees take_token take_lifetime take_mark take_group before rows_for rows run parse_rule
untyped_static_border_5 = not_read untyped_static _ refl

-- `static a = continue ,`: nothing is read
untyped_static_border_6 : NotDerived (rule untyped_static)
    (leaf (ident w_static) (at 0 6) (leaf (ident (97 ∷ [])) (at 7 8) (punct 61 false (at 9 10) (leaf (ident w_continue) (at 11 19) (punct 44 false (at 20 21) end)))))
unfolding left is_end lookahead_at sees take_token take_lifetime take_mark take_group before rows_for rows run parse_rule
untyped_static_border_6 = not_read untyped_static _ refl

-- `static self = break ;`: nothing is read
untyped_static_border_7 : NotDerived (rule untyped_static)
    (leaf (ident w_static) (at 0 6) (leaf (ident w_self) (at 7 11) (punct 61 false (at 12 13) (leaf (ident w_break) (at 14 19) (punct 59 false (at 20 21) end)))))
unfolding left is_end lookahead_at sees take_token take_lifetime take_mark take_group before rows_for rows run parse_rule
untyped_static_border_7 = not_read untyped_static _ refl

-- `static crate = break ;`: nothing is read
untyped_static_border_8 : NotDerived (rule untyped_static)
    (leaf (ident w_static) (at 0 6) (leaf (ident w_crate) (at 7 12) (punct 61 false (at 13 14) (leaf (ident w_break) (at 15 20) (punct 59 false (at 21 22) end)))))
unfolding left is_end lookahead_at sees take_token take_lifetime take_mark take_group before rows_for rows run parse_rule
untyped_static_border_8 = not_read untyped_static _ refl

-- `static super = break ;`: nothing is read
untyped_static_border_9 : NotDerived (rule untyped_static)
    (leaf (ident w_static) (at 0 6) (leaf (ident w_super) (at 7 12) (punct 61 false (at 13 14) (leaf (ident w_break) (at 15 20) (punct 59 false (at 21 22) end)))))
unfolding left is_end lookahead_at sees take_token take_lifetime take_mark take_group before rows_for rows run parse_rule
untyped_static_border_9 = not_read untyped_static _ refl

-- `; static a = continue ;`: nothing is read
untyped_static_border_10 : NotDerived (rule untyped_static)
    (punct 59 false (at 0 1) (leaf (ident w_static) (at 2 8) (leaf (ident (97 ∷ [])) (at 9 10) (punct 61 false (at 11 12) (leaf (ident w_continue) (at 13 21) (punct 59 false (at 22 23) end))))))
unfolding left is_end lookahead_at sees take_token take_lifetime take_mark take_group before rows_for rows run parse_rule
untyped_static_border_10 = not_read untyped_static _ refl

-- `b static a = continue ;`: nothing is read
untyped_static_border_11 : NotDerived (rule untyped_static)
    (leaf (ident (98 ∷ [])) (at 0 1) (leaf (ident w_static) (at 2 8) (leaf (ident (97 ∷ [])) (at 9 10) (punct 61 false (at 11 12) (leaf (ident w_continue) (at 13 21) (punct 59 false (at 22 23) end))))))
unfolding left is_end lookahead_at sees take_token take_lifetime take_mark take_group before rows_for rows run parse_rule
untyped_static_border_11 = not_read untyped_static _ refl

-- `static ; a = continue ;`: nothing is read
untyped_static_border_12 : NotDerived (rule untyped_static)
    (leaf (ident w_static) (at 0 6) (punct 59 false (at 7 8) (leaf (ident (97 ∷ [])) (at 9 10) (punct 61 false (at 11 12) (leaf (ident w_continue) (at 13 21) (punct 59 false (at 22 23) end))))))
unfolding left is_end lookahead_at sees take_token take_lifetime take_mark take_group before rows_for rows run parse_rule
untyped_static_border_12 = not_read untyped_static _ refl

-- `static a ; = continue ;`: nothing is read
untyped_static_border_13 : NotDerived (rule untyped_static)
    (leaf (ident w_static) (at 0 6) (leaf (ident (97 ∷ [])) (at 7 8) (punct 59 false (at 9 10) (punct 61 false (at 11 12) (leaf (ident w_continue) (at 13 21) (punct 59 false (at 22 23) end))))))
unfolding left is_end lookahead_at sees take_token take_lifetime take_mark take_group before rows_for rows run parse_rule
untyped_static_border_13 = not_read untyped_static _ refl

-- `static a = ; continue ;`: nothing is read
untyped_static_border_14 : NotDerived (rule untyped_static)
    (leaf (ident w_static) (at 0 6) (leaf (ident (97 ∷ [])) (at 7 8) (punct 61 false (at 9 10) (punct 59 false (at 11 12) (leaf (ident w_continue) (at 13 21) (punct 59 false (at 22 23) end))))))
unfolding left is_end lookahead_at sees take_token take_lifetime take_mark take_group before rows_for rows run parse_rule
untyped_static_border_14 = not_read untyped_static _ refl

-- `static a = continue b ;`: nothing is read
untyped_static_border_15 : NotDerived (rule untyped_static)
    (leaf (ident w_static) (at 0 6) (leaf (ident (97 ∷ [])) (at 7 8) (punct 61 false (at 9 10) (leaf (ident w_continue) (at 11 19) (leaf (ident (98 ∷ [])) (at 20 21) (punct 59 false (at 22 23) end))))))
unfolding left is_end lookahead_at sees take_token take_lifetime take_mark take_group before rows_for rows run parse_rule
untyped_static_border_15 = not_read untyped_static _ refl

-- `static a a = continue ;`: nothing is read
untyped_static_border_16 : NotDerived (rule untyped_static)
    (leaf (ident w_static) (at 0 6) (leaf (ident (97 ∷ [])) (at 7 8) (leaf (ident (97 ∷ [])) (at 9 10) (punct 61 false (at 11 12) (leaf (ident w_continue) (at 13 21) (punct 59 false (at 22 23) end))))))
unfolding left is_end lookahead_at sees take_token take_lifetime take_mark take_group before rows_for rows run parse_rule
untyped_static_border_16 = not_read untyped_static _ refl

-- `static static =return ;`: nothing is read
untyped_static_border_17 : NotDerived (rule untyped_static)
    (leaf (ident w_static) (at 0 6) (leaf (ident w_static) (at 7 13) (punct 61 false (at 14 15) (leaf (ident w_return) (at 15 21) (punct 59 false (at 22 23) end)))))
unfolding left is_end lookahead_at sees take_token take_lifetime take_mark take_group before rows_for rows run parse_rule
untyped_static_border_17 = not_read untyped_static _ refl

-- `= static safe = b + [] ;`: nothing is read
untyped_static_border_18 : NotDerived (rule untyped_static)
    (punct 61 false (at 0 1) (leaf (ident w_static) (at 2 8) (leaf (ident w_safe) (at 9 13) (punct 61 false (at 14 15) (leaf (ident (98 ∷ [])) (at 16 17) (punct 43 false (at 18 19) (group Bracket (at 20 21) (at 21 22) end (punct 59 false (at 23 24) end))))))))
unfolding left is_end lookahead_at sees take_token take_lifetime take_mark take_group before rows_for rows run parse_rule
untyped_static_border_18 = not_read untyped_static _ refl

-- `static a = c = continue ;` prints `static a = c = continue ;`
untyped_static_border_19 : DerivesAs untyped_static
    (leaf (ident w_static) (at 0 6) (leaf (ident (97 ∷ [])) (at 7 8) (punct 61 false (at 9 10) (leaf (ident (99 ∷ [])) (at 11 12) (punct 61 false (at 13 14) (leaf (ident w_continue) (at 15 23) (punct 59 false (at 24 25) end)))))))
    (leaf (ident w_static) call_site (leaf (ident (97 ∷ [])) call_site (punct 61 false call_site (leaf (ident (99 ∷ [])) call_site (punct 61 false call_site (leaf (ident w_continue) call_site (punct 59 false call_site end)))))))
    (end)
unfolding left is_end lookahead_at sees take_token take_lifetime take_mark take_group before rows_for rows run parse_rule
untyped_static_border_19 = computed untyped_static _ _ _ refl

-- `static a = continue pub ;`: nothing is read
untyped_static_border_20 : NotDerived (rule untyped_static)
    (leaf (ident w_static) (at 0 6) (leaf (ident (97 ∷ [])) (at 7 8) (punct 61 false (at 9 10) (leaf (ident w_continue) (at 11 19) (leaf (ident w_pub) (at 20 23) (punct 59 false (at 24 25) end))))))
unfolding left is_end lookahead_at sees take_token take_lifetime take_mark take_group before rows_for rows run parse_rule
untyped_static_border_20 = not_read untyped_static _ refl

-- `static a = pub continue ;`: nothing is read
untyped_static_border_21 : NotDerived (rule untyped_static)
    (leaf (ident w_static) (at 0 6) (leaf (ident (97 ∷ [])) (at 7 8) (punct 61 false (at 9 10) (leaf (ident w_pub) (at 11 14) (leaf (ident w_continue) (at 15 23) (punct 59 false (at 24 25) end))))))
unfolding left is_end lookahead_at sees take_token take_lifetime take_mark take_group before rows_for rows run parse_rule
untyped_static_border_21 = not_read untyped_static _ refl

-- `static a pub = continue ;`: nothing is read
untyped_static_border_22 : NotDerived (rule untyped_static)
    (leaf (ident w_static) (at 0 6) (leaf (ident (97 ∷ [])) (at 7 8) (leaf (ident w_pub) (at 9 12) (punct 61 false (at 13 14) (leaf (ident w_continue) (at 15 23) (punct 59 false (at 24 25) end))))))
unfolding left is_end lookahead_at sees take_token take_lifetime take_mark take_group before rows_for rows run parse_rule
untyped_static_border_22 = not_read untyped_static _ refl

-- `static pub a = continue ;`: nothing is read
untyped_static_border_23 : NotDerived (rule untyped_static)
    (leaf (ident w_static) (at 0 6) (leaf (ident w_pub) (at 7 10) (leaf (ident (97 ∷ [])) (at 11 12) (punct 61 false (at 13 14) (leaf (ident w_continue) (at 15 23) (punct 59 false (at 24 25) end))))))
unfolding left is_end lookahead_at sees take_token take_lifetime take_mark take_group before rows_for rows run parse_rule
untyped_static_border_23 = not_read untyped_static _ refl

-- `static mut auto = () mut ;`: nothing is read
untyped_static_border_24 : NotDerived (rule untyped_static)
    (leaf (ident w_static) (at 0 6) (leaf (ident w_mut) (at 7 10) (leaf (ident w_auto) (at 11 15) (punct 61 false (at 16 17) (group Paren (at 18 19) (at 19 20) end (leaf (ident w_mut) (at 21 24) (punct 59 false (at 25 26) end)))))))
unfolding left is_end lookahead_at sees take_token take_lifetime take_mark take_group before rows_for rows run parse_rule
untyped_static_border_24 = not_read untyped_static _ refl

-- `pub static mut mut = Self ;`: nothing is read
untyped_static_border_25 : NotDerived (rule untyped_static)
    (leaf (ident w_pub) (at 0 3) (leaf (ident w_static) (at 4 10) (leaf (ident w_mut) (at 11 14) (leaf (ident w_mut) (at 15 18) (punct 61 false (at 19 20) (leaf (ident w_Self_type) (at 21 25) (punct 59 false (at 26 27) end)))))))
unfolding left is_end lookahead_at sees take_token take_lifetime take_mark take_group before rows_for rows run parse_rule
untyped_static_border_25 = not_read untyped_static _ refl

-- `static mut mut auto =c"x" ;`: nothing is read
untyped_static_border_26 : NotDerived (rule untyped_static)
    (leaf (ident w_static) (at 0 6) (leaf (ident w_mut) (at 7 10) (leaf (ident w_mut) (at 11 14) (leaf (ident w_auto) (at 15 19) (punct 61 false (at 20 21) (leaf (literal CStr (99 ∷ 34 ∷ 120 ∷ 34 ∷ [])) (at 21 25) (punct 59 false (at 26 27) end)))))))
unfolding left is_end lookahead_at sees take_token take_lifetime take_mark take_group before rows_for rows run parse_rule
untyped_static_border_26 = not_read untyped_static _ refl

-- `static mut safe = a static ;`: nothing is read
untyped_static_border_27 : NotDerived (rule untyped_static)
    (leaf (ident w_static) (at 0 6) (leaf (ident w_mut) (at 7 10) (leaf (ident w_safe) (at 11 15) (punct 61 false (at 16 17) (leaf (ident (97 ∷ [])) (at 18 19) (leaf (ident w_static) (at 20 26) (punct 59 false (at 27 28) end)))))))
unfolding left is_end lookahead_at sees take_token take_lifetime take_mark take_group before rows_for rows run parse_rule
untyped_static_border_27 = not_read untyped_static _ refl

-- `static mut safe = mut b"x" ;`: nothing is read
untyped_static_border_28 : NotDerived (rule untyped_static)
    (leaf (ident w_static) (at 0 6) (leaf (ident w_mut) (at 7 10) (leaf (ident w_safe) (at 11 15) (punct 61 false (at 16 17) (leaf (ident w_mut) (at 18 21) (leaf (literal ByteStr (98 ∷ 34 ∷ 120 ∷ 34 ∷ [])) (at 22 26) (punct 59 false (at 27 28) end)))))))
unfolding left is_end lookahead_at sees take_token take_lifetime take_mark take_group before rows_for rows run parse_rule
untyped_static_border_28 = not_read untyped_static _ refl

-- `static static a = continue ;`: nothing is read
untyped_static_border_29 : NotDerived (rule untyped_static)
    (leaf (ident w_static) (at 0 6) (leaf (ident w_static) (at 7 13) (leaf (ident (97 ∷ [])) (at 14 15) (punct 61 false (at 16 17) (leaf (ident w_continue) (at 18 26) (punct 59 false (at 27 28) end))))))
unfolding left is_end lookahead_at sees take_token take_lifetime take_mark take_group before rows_for rows run parse_rule
untyped_static_border_29 = not_read untyped_static _ refl

-- `mut static mut union = false ;`: nothing is read
untyped_static_border_30 : NotDerived (rule untyped_static)
    (leaf (ident w_mut) (at 0 3) (leaf (ident w_static) (at 4 10) (leaf (ident w_mut) (at 11 14) (leaf (ident w_union) (at 15 20) (punct 61 false (at 21 22) (leaf (ident w_false) (at 23 28) (punct 59 false (at 29 30) end)))))))
unfolding left is_end lookahead_at sees take_token take_lifetime take_mark take_group before rows_for rows run parse_rule
untyped_static_border_30 = not_read untyped_static _ refl

-- `static union = static return ;`: nothing is read
untyped_static_border_31 : NotDerived (rule untyped_static)
    (leaf (ident w_static) (at 0 6) (leaf (ident w_union) (at 7 12) (punct 61 false (at 13 14) (leaf (ident w_static) (at 15 21) (leaf (ident w_return) (at 22 28) (punct 59 false (at 29 30) end))))))
unfolding left is_end lookahead_at sees take_token take_lifetime take_mark take_group before rows_for rows run parse_rule
untyped_static_border_31 = not_read untyped_static _ refl

-- `static = auto = true +default ;`: nothing is read
untyped_static_border_32 : NotDerived (rule untyped_static)
    (leaf (ident w_static) (at 0 6) (punct 61 false (at 7 8) (leaf (ident w_auto) (at 9 13) (punct 61 false (at 14 15) (leaf (ident w_true) (at 16 20) (punct 43 false (at 21 22) (leaf (ident w_default) (at 22 29) (punct 59 false (at 30 31) end))))))))
unfolding left is_end lookahead_at sees take_token take_lifetime take_mark take_group before rows_for rows run parse_rule
untyped_static_border_32 = not_read untyped_static _ refl

-- `pub static mut safe mut = break ;`: nothing is read
untyped_static_border_33 : NotDerived (rule untyped_static)
    (leaf (ident w_pub) (at 0 3) (leaf (ident w_static) (at 4 10) (leaf (ident w_mut) (at 11 14) (leaf (ident w_safe) (at 15 19) (leaf (ident w_mut) (at 20 23) (punct 61 false (at 24 25) (leaf (ident w_break) (at 26 31) (punct 59 false (at 32 33) end))))))))
unfolding left is_end lookahead_at sees take_token take_lifetime take_mark take_group before rows_for rows run parse_rule
untyped_static_border_33 = not_read untyped_static _ refl

-- `\(\) static mut default static = () ;`: nothing is read
untyped_static_border_34 : NotDerived (rule untyped_static)
    (group None (at 0 2) (at 2 4) end (leaf (ident w_static) (at 5 11) (leaf (ident w_mut) (at 12 15) (leaf (ident w_default) (at 16 23) (leaf (ident w_static) (at 24 30) (punct 61 false (at 31 32) (group Paren (at 33 34) (at 34 35) end (punct 59 false (at 36 37) end))))))))
unfolding left is_end lookahead_at sees take_token take_lifetime take_mark take_group before rows_for rows run parse_rule
untyped_static_border_34 = not_read untyped_static _ refl

-- `static : ! ;`: nothing is read
valueless_static_border_1 : NotDerived (rule valueless_static)
    (leaf (ident w_static) (at 0 6) (punct 58 false (at 7 8) (punct 33 false (at 9 10) (punct 59 false (at 11 12) end))))
unfolding left is_end lookahead_at sees take_token take_lifetime take_mark take_group before rows_for rows run parse_rule
valueless_static_border_1 = not_read valueless_static _ refl

-- `static a ! ;`: nothing is read
valueless_static_border_2 : NotDerived (rule valueless_static)
    (leaf (ident w_static) (at 0 6) (leaf (ident (97 ∷ [])) (at 7 8) (punct 33 false (at 9 10) (punct 59 false (at 11 12) end))))
unfolding left is_end lookahead_at sees take_token take_lifetime take_mark take_group before rows_for rows run parse_rule
valueless_static_border_2 = not_read valueless_static _ refl

-- `static 1 : ! ;`: nothing is read
valueless_static_border_3 : NotDerived (rule valueless_static)
    (leaf (ident w_static) (at 0 6) (leaf (literal Int (49 ∷ [])) (at 7 8) (punct 58 false (at 9 10) (punct 33 false (at 11 12) (punct 59 false (at 13 14) end)))))
unfolding left is_end lookahead_at sees take_token take_lifetime take_mark take_group before rows_for rows run parse_rule
valueless_static_border_3 = not_read valueless_static _ refl

-- `static _ : ! ;`: nothing is read
valueless_static_border_4 : NotDerived (rule valueless_static)
    (leaf (ident w_static) (at 0 6) (leaf (ident w_underscore) (at 7 8) (punct 58 false (at 9 10) (punct 33 false (at 11 12) (punct 59 false (at 13 14) end)))))
unfolding left is_end lookahead_at sees take_token take_lifetime take_mark take_group before rows_for rows run parse_rule
valueless_static_border_4 = not_read valueless_static _ refl

-- `static a : ! ,`: nothing is read
valueless_static_border_5 : NotDerived (rule valueless_static)
    (leaf (ident w_static) (at 0 6) (leaf (ident (97 ∷ [])) (at 7 8) (punct 58 false (at 9 10) (punct 33 false (at 11 12) (punct 44 false (at 13 14) end)))))
unfolding left is_end lookahead_at sees take_token take_lifetime take_mark take_group before rows_for rows run parse_rule
valueless_static_border_5 = not_read valueless_static _ refl

-- `static a = ! ;`: nothing is read
valueless_static_border_6 : NotDerived (rule valueless_static)
    (leaf (ident w_static) (at 0 6) (leaf (ident (97 ∷ [])) (at 7 8) (punct 61 false (at 9 10) (punct 33 false (at 11 12) (punct 59 false (at 13 14) end)))))
unfolding left is_end lookahead_at sees take_token take_lifetime take_mark take_group before rows_for rows run parse_rule
valueless_static_border_6 = not_read valueless_static _ refl

-- `static fn : ! ;`: nothing is read
valueless_static_border_7 : NotDerived (rule valueless_static)
    (leaf (ident w_static) (at 0 6) (leaf (ident w_fn) (at 7 9) (punct 58 false (at 10 11) (punct 33 false (at 12 13) (punct 59 false (at 14 15) end)))))
unfolding left is_end lookahead_at sees take_token take_lifetime take_mark take_group before rows_for rows run parse_rule
valueless_static_border_7 = not_read valueless_static _ refl

-- `; static a : ! ;`: nothing is read
valueless_static_border_8 : NotDerived (rule valueless_static)
    (punct 59 false (at 0 1) (leaf (ident w_static) (at 2 8) (leaf (ident (97 ∷ [])) (at 9 10) (punct 58 false (at 11 12) (punct 33 false (at 13 14) (punct 59 false (at 15 16) end))))))
unfolding left is_end lookahead_at sees take_token take_lifetime take_mark take_group before rows_for rows run parse_rule
valueless_static_border_8 = not_read valueless_static _ refl

-- `b static a : ! ;`: nothing is read
valueless_static_border_9 : NotDerived (rule valueless_static)
    (leaf (ident (98 ∷ [])) (at 0 1) (leaf (ident w_static) (at 2 8) (leaf (ident (97 ∷ [])) (at 9 10) (punct 58 false (at 11 12) (punct 33 false (at 13 14) (punct 59 false (at 15 16) end))))))
unfolding left is_end lookahead_at sees take_token take_lifetime take_mark take_group before rows_for rows run parse_rule
valueless_static_border_9 = not_read valueless_static _ refl

-- `mut union : () ;`: nothing is read
valueless_static_border_10 : NotDerived (rule valueless_static)
    (leaf (ident w_mut) (at 0 3) (leaf (ident w_union) (at 4 9) (punct 58 false (at 10 11) (group Paren (at 12 13) (at 13 14) end (punct 59 false (at 15 16) end)))))
unfolding left is_end lookahead_at sees take_token take_lifetime take_mark take_group before rows_for rows run parse_rule
valueless_static_border_10 = not_read valueless_static _ refl

-- `static ; a : ! ;`: nothing is read
valueless_static_border_11 : NotDerived (rule valueless_static)
    (leaf (ident w_static) (at 0 6) (punct 59 false (at 7 8) (leaf (ident (97 ∷ [])) (at 9 10) (punct 58 false (at 11 12) (punct 33 false (at 13 14) (punct 59 false (at 15 16) end))))))
unfolding left is_end lookahead_at sees take_token take_lifetime take_mark take_group before rows_for rows run parse_rule
valueless_static_border_11 = not_read valueless_static _ refl

-- `static a : ! b ;`: nothing is read
valueless_static_border_12 : NotDerived (rule valueless_static)
    (leaf (ident w_static) (at 0 6) (leaf (ident (97 ∷ [])) (at 7 8) (punct 58 false (at 9 10) (punct 33 false (at 11 12) (leaf (ident (98 ∷ [])) (at 13 14) (punct 59 false (at 15 16) end))))))
unfolding left is_end lookahead_at sees take_token take_lifetime take_mark take_group before rows_for rows run parse_rule
valueless_static_border_12 = not_read valueless_static _ refl

-- `static a : ; ! ;`: nothing is read
valueless_static_border_13 : NotDerived (rule valueless_static)
    (leaf (ident w_static) (at 0 6) (leaf (ident (97 ∷ [])) (at 7 8) (punct 58 false (at 9 10) (punct 59 false (at 11 12) (punct 33 false (at 13 14) (punct 59 false (at 15 16) end))))))
unfolding left is_end lookahead_at sees take_token take_lifetime take_mark take_group before rows_for rows run parse_rule
valueless_static_border_13 = not_read valueless_static _ refl

-- `static a ; : ! ;`: nothing is read
valueless_static_border_14 : NotDerived (rule valueless_static)
    (leaf (ident w_static) (at 0 6) (leaf (ident (97 ∷ [])) (at 7 8) (punct 59 false (at 9 10) (punct 58 false (at 11 12) (punct 33 false (at 13 14) (punct 59 false (at 15 16) end))))))
unfolding left is_end lookahead_at sees take_token take_lifetime take_mark take_group before rows_for rows run parse_rule
valueless_static_border_14 = not_read valueless_static _ refl

-- `static a a : ! ;`: nothing is read
valueless_static_border_15 : NotDerived (rule valueless_static)
    (leaf (ident w_static) (at 0 6) (leaf (ident (97 ∷ [])) (at 7 8) (leaf (ident (97 ∷ [])) (at 9 10) (punct 58 false (at 11 12) (punct 33 false (at 13 14) (punct 59 false (at 15 16) end))))))
unfolding left is_end lookahead_at sees take_token take_lifetime take_mark take_group before rows_for rows run parse_rule
valueless_static_border_15 = not_read valueless_static _ refl

-- `static Self : ! ;`: nothing is read
valueless_static_border_16 : NotDerived (rule valueless_static)
    (leaf (ident w_static) (at 0 6) (leaf (ident w_Self_type) (at 7 11) (punct 58 false (at 12 13) (punct 33 false (at 14 15) (punct 59 false (at 16 17) end)))))
unfolding left is_end lookahead_at sees take_token take_lifetime take_mark take_group before rows_for rows run parse_rule
valueless_static_border_16 = not_read valueless_static _ refl

-- `static auto : ! ;` prints `static auto : ! ;`
valueless_static_border_17 : DerivesAs valueless_static
    (leaf (ident w_static) (at 0 6) (leaf (ident w_auto) (at 7 11) (punct 58 false (at 12 13) (punct 33 false (at 14 15) (punct 59 false (at 16 17) end)))))
    (leaf (ident w_static) call_site (leaf (ident w_auto) call_site (punct 58 false call_site (punct 33 false call_site (punct 59 false call_site end)))))
    (end)
unfolding left is_end lookahead_at sees take_token take_lifetime take_mark take_group before rows_for rows run parse_rule
valueless_static_border_17 = computed valueless_static _ _ _ refl

-- `static self : ! ;`: nothing is read
valueless_static_border_18 : NotDerived (rule valueless_static)
    (leaf (ident w_static) (at 0 6) (leaf (ident w_self) (at 7 11) (punct 58 false (at 12 13) (punct 33 false (at 14 15) (punct 59 false (at 16 17) end)))))
unfolding left is_end lookahead_at sees take_token take_lifetime take_mark take_group before rows_for rows run parse_rule
valueless_static_border_18 = not_read valueless_static _ refl

-- `static : safe : !;`: nothing is read
valueless_static_border_19 : NotDerived (rule valueless_static)
    (leaf (ident w_static) (at 0 6) (punct 58 false (at 7 8) (leaf (ident w_safe) (at 9 13) (punct 58 false (at 14 15) (punct 33 true (at 16 17) (punct 59 false (at 17 18) end))))))
unfolding left is_end lookahead_at sees take_token take_lifetime take_mark take_group before rows_for rows run parse_rule
valueless_static_border_19 = not_read valueless_static _ refl

-- `static a : ! pub ;`: nothing is read
valueless_static_border_20 : NotDerived (rule valueless_static)
    (leaf (ident w_static) (at 0 6) (leaf (ident (97 ∷ [])) (at 7 8) (punct 58 false (at 9 10) (punct 33 false (at 11 12) (leaf (ident w_pub) (at 13 16) (punct 59 false (at 17 18) end))))))
unfolding left is_end lookahead_at sees take_token take_lifetime take_mark take_group before rows_for rows run parse_rule
valueless_static_border_20 = not_read valueless_static _ refl

-- `static a : pub ! ;`: nothing is read
valueless_static_border_21 : NotDerived (rule valueless_static)
    (leaf (ident w_static) (at 0 6) (leaf (ident (97 ∷ [])) (at 7 8) (punct 58 false (at 9 10) (leaf (ident w_pub) (at 11 14) (punct 33 false (at 15 16) (punct 59 false (at 17 18) end))))))
unfolding left is_end lookahead_at sees take_token take_lifetime take_mark take_group before rows_for rows run parse_rule
valueless_static_border_21 = not_read valueless_static _ refl

-- `static a pub : ! ;`: nothing is read
valueless_static_border_22 : NotDerived (rule valueless_static)
    (leaf (ident w_static) (at 0 6) (leaf (ident (97 ∷ [])) (at 7 8) (leaf (ident w_pub) (at 9 12) (punct 58 false (at 13 14) (punct 33 false (at 15 16) (punct 59 false (at 17 18) end))))))
unfolding left is_end lookahead_at sees take_token take_lifetime take_mark take_group before rows_for rows run parse_rule
valueless_static_border_22 = not_read valueless_static _ refl

-- `static crate : ! ;`: nothing is read
valueless_static_border_23 : NotDerived (rule valueless_static)
    (leaf (ident w_static) (at 0 6) (leaf (ident w_crate) (at 7 12) (punct 58 false (at 13 14) (punct 33 false (at 15 16) (punct 59 false (at 17 18) end)))))
unfolding left is_end lookahead_at sees take_token take_lifetime take_mark take_group before rows_for rows run parse_rule
valueless_static_border_23 = not_read valueless_static _ refl

-- `static mut a : ! ;` prints `static mut a : ! ;`
valueless_static_border_24 : DerivesAs valueless_static
    (leaf (ident w_static) (at 0 6) (leaf (ident w_mut) (at 7 10) (leaf (ident (97 ∷ [])) (at 11 12) (punct 58 false (at 13 14) (punct 33 false (at 15 16) (punct 59 false (at 17 18) end))))))
    (leaf (ident w_static) call_site (leaf (ident w_mut) call_site (leaf (ident (97 ∷ [])) call_site (punct 58 false call_site (punct 33 false call_site (punct 59 false call_site end))))))
    (end)
unfolding left is_end lookahead_at sees take_token take_lifetime take_mark take_group before rows_for rows run parse_rule
valueless_static_border_24 = computed valueless_static _ _ _ refl

-- `static pub a : ! ;`: nothing is read
valueless_static_border_25 : NotDerived (rule valueless_static)
    (leaf (ident w_static) (at 0 6) (leaf (ident w_pub) (at 7 10) (leaf (ident (97 ∷ [])) (at 11 12) (punct 58 false (at 13 14) (punct 33 false (at 15 16) (punct 59 false (at 17 18) end))))))
unfolding left is_end lookahead_at sees take_token take_lifetime take_mark take_group before rows_for rows run parse_rule
valueless_static_border_25 = not_read valueless_static _ refl

-- `static super : ! ;`: nothing is read
valueless_static_border_26 : NotDerived (rule valueless_static)
    (leaf (ident w_static) (at 0 6) (leaf (ident w_super) (at 7 12) (punct 58 false (at 13 14) (punct 33 false (at 15 16) (punct 59 false (at 17 18) end)))))
unfolding left is_end lookahead_at sees take_token take_lifetime take_mark take_group before rows_for rows run parse_rule
valueless_static_border_26 = not_read valueless_static _ refl

-- `: static mut x : !;`: nothing is read
valueless_static_border_27 : NotDerived (rule valueless_static)
    (punct 58 false (at 0 1) (leaf (ident w_static) (at 2 8) (leaf (ident w_mut) (at 9 12) (leaf (ident (120 ∷ [])) (at 13 14) (punct 58 false (at 15 16) (punct 33 true (at 17 18) (punct 59 false (at 18 19) end)))))))
unfolding left is_end lookahead_at sees take_token take_lifetime take_mark take_group before rows_for rows run parse_rule
valueless_static_border_27 = not_read valueless_static _ refl

-- `static static : ! ;`: nothing is read
valueless_static_border_28 : NotDerived (rule valueless_static)
    (leaf (ident w_static) (at 0 6) (leaf (ident w_static) (at 7 13) (punct 58 false (at 14 15) (punct 33 false (at 16 17) (punct 59 false (at 18 19) end)))))
unfolding left is_end lookahead_at sees take_token take_lifetime take_mark take_group before rows_for rows run parse_rule
valueless_static_border_28 = not_read valueless_static _ refl

-- `pub static safe :! ;` prints `pub static safe : ! ;`
valueless_static_border_29 : DerivesAs valueless_static
    (leaf (ident w_pub) (at 0 3) (leaf (ident w_static) (at 4 10) (leaf (ident w_safe) (at 11 15) (punct 58 true (at 16 17) (punct 33 false (at 17 18) (punct 59 false (at 19 20) end))))))
    (leaf (ident w_pub) call_site (leaf (ident w_static) call_site (leaf (ident w_safe) call_site (punct 58 false call_site (punct 33 false call_site (punct 59 false call_site end))))))
    (end)
unfolding left is_end lookahead_at sees take_token take_lifetime take_mark take_group before rows_for rows run parse_rule
valueless_static_border_29 = computed valueless_static _ _ _ refl

-- `static default : ! ;` prints `static default : ! ;`
valueless_static_border_30 : DerivesAs valueless_static
    (leaf (ident w_static) (at 0 6) (leaf (ident w_default) (at 7 14) (punct 58 false (at 15 16) (punct 33 false (at 17 18) (punct 59 false (at 19 20) end)))))
    (leaf (ident w_static) call_site (leaf (ident w_default) call_site (punct 58 false call_site (punct 33 false call_site (punct 59 false call_site end)))))
    (end)
unfolding left is_end lookahead_at sees take_token take_lifetime take_mark take_group before rows_for rows run parse_rule
valueless_static_border_30 = computed valueless_static _ _ _ refl

-- `mut static mut T : !;`: nothing is read
valueless_static_border_31 : NotDerived (rule valueless_static)
    (leaf (ident w_mut) (at 0 3) (leaf (ident w_static) (at 4 10) (leaf (ident w_mut) (at 11 14) (leaf (ident (84 ∷ [])) (at 15 16) (punct 58 false (at 17 18) (punct 33 true (at 19 20) (punct 59 false (at 20 21) end)))))))
unfolding left is_end lookahead_at sees take_token take_lifetime take_mark take_group before rows_for rows run parse_rule
valueless_static_border_31 = not_read valueless_static _ refl

-- `static static a : ! ;`: nothing is read
valueless_static_border_32 : NotDerived (rule valueless_static)
    (leaf (ident w_static) (at 0 6) (leaf (ident w_static) (at 7 13) (leaf (ident (97 ∷ [])) (at 14 15) (punct 58 false (at 16 17) (punct 33 false (at 18 19) (punct 59 false (at 20 21) end))))))
unfolding left is_end lookahead_at sees take_token take_lifetime take_mark take_group before rows_for rows run parse_rule
valueless_static_border_32 = not_read valueless_static _ refl

-- `static mut mut x : ! ;`: nothing is read
valueless_static_border_33 : NotDerived (rule valueless_static)
    (leaf (ident w_static) (at 0 6) (leaf (ident w_mut) (at 7 10) (leaf (ident w_mut) (at 11 14) (leaf (ident (120 ∷ [])) (at 15 16) (punct 58 false (at 17 18) (punct 33 false (at 19 20) (punct 59 false (at 21 22) end)))))))
unfolding left is_end lookahead_at sees take_token take_lifetime take_mark take_group before rows_for rows run parse_rule
valueless_static_border_33 = not_read valueless_static _ refl

-- `static union mut : ! ;`: nothing is read
valueless_static_border_34 : NotDerived (rule valueless_static)
    (leaf (ident w_static) (at 0 6) (leaf (ident w_union) (at 7 12) (leaf (ident w_mut) (at 13 16) (punct 58 false (at 17 18) (punct 33 false (at 19 20) (punct 59 false (at 21 22) end))))))
unfolding left is_end lookahead_at sees take_token take_lifetime take_mark take_group before rows_for rows run parse_rule
valueless_static_border_34 = not_read valueless_static _ refl

-- `static foo :: default ;`: nothing is read
valueless_static_border_35 : NotDerived (rule valueless_static)
    (leaf (ident w_static) (at 0 6) (leaf (ident (102 ∷ 111 ∷ 111 ∷ [])) (at 7 10) (punct 58 true (at 11 12) (punct 58 false (at 12 13) (leaf (ident w_default) (at 14 21) (punct 59 false (at 22 23) end))))))
unfolding left is_end lookahead_at sees take_token take_lifetime take_mark take_group before rows_for rows run parse_rule
valueless_static_border_35 = not_read valueless_static _ refl

-- `static mut union :() :;`: nothing is read
valueless_static_border_36 : NotDerived (rule valueless_static)
    (leaf (ident w_static) (at 0 6) (leaf (ident w_mut) (at 7 10) (leaf (ident w_union) (at 11 16) (punct 58 false (at 17 18) (group Paren (at 18 19) (at 19 20) end (punct 58 true (at 21 22) (punct 59 false (at 22 23) end)))))))
unfolding left is_end lookahead_at sees take_token take_lifetime take_mark take_group before rows_for rows run parse_rule
valueless_static_border_36 = not_read valueless_static _ refl

-- `static mut foo : mut () ;`: nothing is read
valueless_static_border_37 : NotDerived (rule valueless_static)
    (leaf (ident w_static) (at 0 6) (leaf (ident w_mut) (at 7 10) (leaf (ident (102 ∷ 111 ∷ 111 ∷ [])) (at 11 14) (punct 58 false (at 15 16) (leaf (ident w_mut) (at 17 20) (group Paren (at 21 22) (at 22 23) end (punct 59 false (at 24 25) end)))))))
unfolding left is_end lookahead_at sees take_token take_lifetime take_mark take_group before rows_for rows run parse_rule
valueless_static_border_37 = not_read valueless_static _ refl

-- `static mut auto : safe mut ;`: nothing is read
valueless_static_border_38 : NotDerived (rule valueless_static)
    (leaf (ident w_static) (at 0 6) (leaf (ident w_mut) (at 7 10) (leaf (ident w_auto) (at 11 15) (punct 58 false (at 16 17) (leaf (ident w_safe) (at 18 22) (leaf (ident w_mut) (at 23 26) (punct 59 false (at 27 28) end)))))))
unfolding left is_end lookahead_at sees take_token take_lifetime take_mark take_group before rows_for rows run parse_rule
valueless_static_border_38 = not_read valueless_static _ refl

-- `static mut safe : static ! ;`: nothing is read
valueless_static_border_39 : NotDerived (rule valueless_static)
    (leaf (ident w_static) (at 0 6) (leaf (ident w_mut) (at 7 10) (leaf (ident w_safe) (at 11 15) (punct 58 false (at 16 17) (leaf (ident w_static) (at 18 24) (punct 33 false (at 25 26) (punct 59 false (at 27 28) end)))))))
unfolding left is_end lookahead_at sees take_token take_lifetime take_mark take_group before rows_for rows run parse_rule
valueless_static_border_39 = not_read valueless_static _ refl

-- `static mut safe static : ! ;`: nothing is read
valueless_static_border_40 : NotDerived (rule valueless_static)
    (leaf (ident w_static) (at 0 6) (leaf (ident w_mut) (at 7 10) (leaf (ident w_safe) (at 11 15) (leaf (ident w_static) (at 16 22) (punct 58 false (at 23 24) (punct 33 false (at 25 26) (punct 59 false (at 27 28) end)))))))
unfolding left is_end lookahead_at sees take_token take_lifetime take_mark take_group before rows_for rows run parse_rule
valueless_static_border_40 = not_read valueless_static _ refl

-- `static mut union :() static ;`: nothing is read
valueless_static_border_41 : NotDerived (rule valueless_static)
    (leaf (ident w_static) (at 0 6) (leaf (ident w_mut) (at 7 10) (leaf (ident w_union) (at 11 16) (punct 58 false (at 17 18) (group Paren (at 18 19) (at 19 20) end (leaf (ident w_static) (at 21 27) (punct 59 false (at 28 29) end)))))))
unfolding left is_end lookahead_at sees take_token take_lifetime take_mark take_group before rows_for rows run parse_rule
valueless_static_border_41 = not_read valueless_static _ refl

-- `pub pub static auto : default ;`: nothing is read
valueless_static_border_42 : NotDerived (rule valueless_static)
    (leaf (ident w_pub) (at 0 3) (leaf (ident w_pub) (at 4 7) (leaf (ident w_static) (at 8 14) (leaf (ident w_auto) (at 15 19) (punct 58 false (at 20 21) (leaf (ident w_default) (at 22 29) (punct 59 false (at 30 31) end)))))))
unfolding left is_end lookahead_at sees take_token take_lifetime take_mark take_group before rows_for rows run parse_rule
valueless_static_border_42 = not_read valueless_static _ refl

-- `_ : a ;`: nothing is read
odd_const_border_1 : NotDerived (rule odd_const)
    (leaf (ident w_underscore) (at 0 1) (punct 58 false (at 2 3) (leaf (ident (97 ∷ [])) (at 4 5) (punct 59 false (at 6 7) end))))
unfolding left is_end lookahead_at sees take_token take_lifetime take_mark take_group before rows_for rows run parse_rule
odd_const_border_1 = not_read odd_const _ refl

-- `b const _ : a ;`: nothing is read
odd_const_border_2 : NotDerived (rule odd_const)
    (leaf (ident (98 ∷ [])) (at 0 1) (leaf (ident w_const) (at 2 7) (leaf (ident w_underscore) (at 8 9) (punct 58 false (at 10 11) (leaf (ident (97 ∷ [])) (at 12 13) (punct 59 false (at 14 15) end))))))
unfolding left is_end lookahead_at sees take_token take_lifetime take_mark take_group before rows_for rows run parse_rule
odd_const_border_2 = not_read odd_const _ refl

-- `const _ _ : a ;`: nothing is read
odd_const_border_3 : NotDerived (rule odd_const)
    (leaf (ident w_const) (at 0 5) (leaf (ident w_underscore) (at 6 7) (leaf (ident w_underscore) (at 8 9) (punct 58 false (at 10 11) (leaf (ident (97 ∷ [])) (at 12 13) (punct 59 false (at 14 15) end))))))
unfolding left is_end lookahead_at sees take_token take_lifetime take_mark take_group before rows_for rows run parse_rule
odd_const_border_3 = not_read odd_const _ refl

-- `const _ pub : a ;`: nothing is read
odd_const_border_4 : NotDerived (rule odd_const)
    (leaf (ident w_const) (at 0 5) (leaf (ident w_underscore) (at 6 7) (leaf (ident w_pub) (at 8 11) (punct 58 false (at 12 13) (leaf (ident (97 ∷ [])) (at 14 15) (punct 59 false (at 16 17) end))))))
unfolding left is_end lookahead_at sees take_token take_lifetime take_mark take_group before rows_for rows run parse_rule
odd_const_border_4 = not_read odd_const _ refl

-- `const pub _ : a ;`: nothing is read
odd_const_border_5 : NotDerived (rule odd_const)
    (leaf (ident w_const) (at 0 5) (leaf (ident w_pub) (at 6 9) (leaf (ident w_underscore) (at 10 11) (punct 58 false (at 12 13) (leaf (ident (97 ∷ [])) (at 14 15) (punct 59 false (at 16 17) end))))))
unfolding left is_end lookahead_at sees take_token take_lifetime take_mark take_group before rows_for rows run parse_rule
odd_const_border_5 = not_read odd_const _ refl

-- `const _ const : a ;`: nothing is read
odd_const_border_6 : NotDerived (rule odd_const)
    (leaf (ident w_const) (at 0 5) (leaf (ident w_underscore) (at 6 7) (leaf (ident w_const) (at 8 13) (punct 58 false (at 14 15) (leaf (ident (97 ∷ [])) (at 16 17) (punct 59 false (at 18 19) end))))))
unfolding left is_end lookahead_at sees take_token take_lifetime take_mark take_group before rows_for rows run parse_rule
odd_const_border_6 = not_read odd_const _ refl

-- `const const _ : a ;`: nothing is read
odd_const_border_7 : NotDerived (rule odd_const)
    (leaf (ident w_const) (at 0 5) (leaf (ident w_const) (at 6 11) (leaf (ident w_underscore) (at 12 13) (punct 58 false (at 14 15) (leaf (ident (97 ∷ [])) (at 16 17) (punct 59 false (at 18 19) end))))))
unfolding left is_end lookahead_at sees take_token take_lifetime take_mark take_group before rows_for rows run parse_rule
odd_const_border_7 = not_read odd_const _ refl

-- `const : T ; _ < > : () ;`: nothing is read
odd_const_border_8 : NotDerived (rule odd_const)
    (leaf (ident w_const) (at 0 5) (punct 58 false (at 6 7) (leaf (ident (84 ∷ [])) (at 8 9) (punct 59 false (at 10 11) (leaf (ident w_underscore) (at 12 13) (punct 60 false (at 14 15) (punct 62 false (at 16 17) (punct 58 false (at 18 19) (group Paren (at 20 21) (at 21 22) end (punct 59 false (at 23 24) end))))))))))
unfolding left is_end lookahead_at sees take_token take_lifetime take_mark take_group before rows_for rows run parse_rule
odd_const_border_8 = not_read odd_const _ refl

-- `const auto < > : &auto : ;`: nothing is read
odd_const_border_9 : NotDerived (rule odd_const)
    (leaf (ident w_const) (at 0 5) (leaf (ident w_auto) (at 6 10) (punct 60 false (at 11 12) (punct 62 false (at 13 14) (punct 58 false (at 15 16) (punct 38 false (at 17 18) (leaf (ident w_auto) (at 18 22) (punct 58 false (at 23 24) (punct 59 false (at 25 26) end)))))))))
unfolding left is_end lookahead_at sees take_token take_lifetime take_mark take_group before rows_for rows run parse_rule
odd_const_border_9 = not_read odd_const _ refl

-- `pub const a < b >: c d where e : f ;`: nothing is read
odd_const_border_10 : NotDerived (rule odd_const)
    (leaf (ident w_pub) (at 0 3) (leaf (ident w_const) (at 4 9) (leaf (ident (97 ∷ [])) (at 10 11) (punct 60 false (at 12 13) (leaf (ident (98 ∷ [])) (at 14 15) (punct 62 true (at 16 17) (punct 58 false (at 17 18) (leaf (ident (99 ∷ [])) (at 19 20) (leaf (ident (100 ∷ [])) (at 21 22) (leaf (ident w_where) (at 23 28) (leaf (ident (101 ∷ [])) (at 29 30) (punct 58 false (at 31 32) (leaf (ident (102 ∷ [])) (at 33 34) (punct 59 false (at 35 36) end))))))))))))))
unfolding left is_end lookahead_at sees take_token take_lifetime take_mark take_group before rows_for rows run parse_rule
odd_const_border_10 = not_read odd_const _ refl

-- `pub const a < b >c = d where e : f ;`: nothing is read
odd_const_border_11 : NotDerived (rule odd_const)
    (leaf (ident w_pub) (at 0 3) (leaf (ident w_const) (at 4 9) (leaf (ident (97 ∷ [])) (at 10 11) (punct 60 false (at 12 13) (leaf (ident (98 ∷ [])) (at 14 15) (punct 62 false (at 16 17) (leaf (ident (99 ∷ [])) (at 17 18) (punct 61 false (at 19 20) (leaf (ident (100 ∷ [])) (at 21 22) (leaf (ident w_where) (at 23 28) (leaf (ident (101 ∷ [])) (at 29 30) (punct 58 false (at 31 32) (leaf (ident (102 ∷ [])) (at 33 34) (punct 59 false (at 35 36) end))))))))))))))
unfolding left is_end lookahead_at sees take_token take_lifetime take_mark take_group before rows_for rows run parse_rule
odd_const_border_11 = not_read odd_const _ refl

-- `pub const a < b >: : c = d where e : f ;`: nothing is read
odd_const_border_12 : NotDerived (rule odd_const)
    (leaf (ident w_pub) (at 0 3) (leaf (ident w_const) (at 4 9) (leaf (ident (97 ∷ [])) (at 10 11) (punct 60 false (at 12 13) (leaf (ident (98 ∷ [])) (at 14 15) (punct 62 true (at 16 17) (punct 58 false (at 17 18) (punct 58 false (at 19 20) (leaf (ident (99 ∷ [])) (at 21 22) (punct 61 false (at 23 24) (leaf (ident (100 ∷ [])) (at 25 26) (leaf (ident w_where) (at 27 32) (leaf (ident (101 ∷ [])) (at 33 34) (punct 58 false (at 35 36) (leaf (ident (102 ∷ [])) (at 37 38) (punct 59 false (at 39 40) end))))))))))))))))
unfolding left is_end lookahead_at sees take_token take_lifetime take_mark take_group before rows_for rows run parse_rule
odd_const_border_12 = not_read odd_const _ refl

-- `pub const a < b >: ; c = d where e : f ;`: nothing is read
odd_const_border_13 : NotDerived (rule odd_const)
    (leaf (ident w_pub) (at 0 3) (leaf (ident w_const) (at 4 9) (leaf (ident (97 ∷ [])) (at 10 11) (punct 60 false (at 12 13) (leaf (ident (98 ∷ [])) (at 14 15) (punct 62 true (at 16 17) (punct 58 false (at 17 18) (punct 59 false (at 19 20) (leaf (ident (99 ∷ [])) (at 21 22) (punct 61 false (at 23 24) (leaf (ident (100 ∷ [])) (at 25 26) (leaf (ident w_where) (at 27 32) (leaf (ident (101 ∷ [])) (at 33 34) (punct 58 false (at 35 36) (leaf (ident (102 ∷ [])) (at 37 38) (punct 59 false (at 39 40) end))))))))))))))))
unfolding left is_end lookahead_at sees take_token take_lifetime take_mark take_group before rows_for rows run parse_rule
odd_const_border_13 = not_read odd_const _ refl

-- `pub const a < b >: c = d where e : b f ;`: nothing is read
odd_const_border_14 : NotDerived (rule odd_const)
    (leaf (ident w_pub) (at 0 3) (leaf (ident w_const) (at 4 9) (leaf (ident (97 ∷ [])) (at 10 11) (punct 60 false (at 12 13) (leaf (ident (98 ∷ [])) (at 14 15) (punct 62 true (at 16 17) (punct 58 false (at 17 18) (leaf (ident (99 ∷ [])) (at 19 20) (punct 61 false (at 21 22) (leaf (ident (100 ∷ [])) (at 23 24) (leaf (ident w_where) (at 25 30) (leaf (ident (101 ∷ [])) (at 31 32) (punct 58 false (at 33 34) (leaf (ident (98 ∷ [])) (at 35 36) (leaf (ident (102 ∷ [])) (at 37 38) (punct 59 false (at 39 40) end))))))))))))))))
unfolding left is_end lookahead_at sees take_token take_lifetime take_mark take_group before rows_for rows run parse_rule
odd_const_border_14 = not_read odd_const _ refl

-- `pub const a < b >; : c = d where e : f ;`: nothing is read
odd_const_border_15 : NotDerived (rule odd_const)
    (leaf (ident w_pub) (at 0 3) (leaf (ident w_const) (at 4 9) (leaf (ident (97 ∷ [])) (at 10 11) (punct 60 false (at 12 13) (leaf (ident (98 ∷ [])) (at 14 15) (punct 62 true (at 16 17) (punct 59 false (at 17 18) (punct 58 false (at 19 20) (leaf (ident (99 ∷ [])) (at 21 22) (punct 61 false (at 23 24) (leaf (ident (100 ∷ [])) (at 25 26) (leaf (ident w_where) (at 27 32) (leaf (ident (101 ∷ [])) (at 33 34) (punct 58 false (at 35 36) (leaf (ident (102 ∷ [])) (at 37 38) (punct 59 false (at 39 40) end))))))))))))))))
unfolding left is_end lookahead_at sees take_token take_lifetime take_mark take_group before rows_for rows run parse_rule
odd_const_border_15 = not_read odd_const _ refl

-- `pub const a < b >b : c = d where e : f ;`: nothing is read
odd_const_border_16 : NotDerived (rule odd_const)
    (leaf (ident w_pub) (at 0 3) (leaf (ident w_const) (at 4 9) (leaf (ident (97 ∷ [])) (at 10 11) (punct 60 false (at 12 13) (leaf (ident (98 ∷ [])) (at 14 15) (punct 62 false (at 16 17) (leaf (ident (98 ∷ [])) (at 17 18) (punct 58 false (at 19 20) (leaf (ident (99 ∷ [])) (at 21 22) (punct 61 false (at 23 24) (leaf (ident (100 ∷ [])) (at 25 26) (leaf (ident w_where) (at 27 32) (leaf (ident (101 ∷ [])) (at 33 34) (punct 58 false (at 35 36) (leaf (ident (102 ∷ [])) (at 37 38) (punct 59 false (at 39 40) end))))))))))))))))
unfolding left is_end lookahead_at sees take_token take_lifetime take_mark take_group before rows_for rows run parse_rule
odd_const_border_16 = not_read odd_const _ refl

-- `pub const a < > < b >: c = d where e : f ;`: nothing is read
odd_const_border_17 : NotDerived (rule odd_const)
    (leaf (ident w_pub) (at 0 3) (leaf (ident w_const) (at 4 9) (leaf (ident (97 ∷ [])) (at 10 11) (punct 60 false (at 12 13) (punct 62 false (at 14 15) (punct 60 false (at 16 17) (leaf (ident (98 ∷ [])) (at 18 19) (punct 62 true (at 20 21) (punct 58 false (at 21 22) (leaf (ident (99 ∷ [])) (at 23 24) (punct 61 false (at 25 26) (leaf (ident (100 ∷ [])) (at 27 28) (leaf (ident w_where) (at 29 34) (leaf (ident (101 ∷ [])) (at 35 36) (punct 58 false (at 37 38) (leaf (ident (102 ∷ [])) (at 39 40) (punct 59 false (at 41 42) end)))))))))))))))))
unfolding left is_end lookahead_at sees take_token take_lifetime take_mark take_group before rows_for rows run parse_rule
odd_const_border_17 = not_read odd_const _ refl

-- `pub const a < b >: < > c = d where e : f ;`: nothing is read
odd_const_border_18 : NotDerived (rule odd_const)
    (leaf (ident w_pub) (at 0 3) (leaf (ident w_const) (at 4 9) (leaf (ident (97 ∷ [])) (at 10 11) (punct 60 false (at 12 13) (leaf (ident (98 ∷ [])) (at 14 15) (punct 62 true (at 16 17) (punct 58 false (at 17 18) (punct 60 false (at 19 20) (punct 62 false (at 21 22) (leaf (ident (99 ∷ [])) (at 23 24) (punct 61 false (at 25 26) (leaf (ident (100 ∷ [])) (at 27 28) (leaf (ident w_where) (at 29 34) (leaf (ident (101 ∷ [])) (at 35 36) (punct 58 false (at 37 38) (leaf (ident (102 ∷ [])) (at 39 40) (punct 59 false (at 41 42) end)))))))))))))))))
unfolding left is_end lookahead_at sees take_token take_lifetime take_mark take_group before rows_for rows run parse_rule
odd_const_border_18 = not_read odd_const _ refl

-- `pub const a < b >: = c c = d where e : f ;`: nothing is read
odd_const_border_19 : NotDerived (rule odd_const)
    (leaf (ident w_pub) (at 0 3) (leaf (ident w_const) (at 4 9) (leaf (ident (97 ∷ [])) (at 10 11) (punct 60 false (at 12 13) (leaf (ident (98 ∷ [])) (at 14 15) (punct 62 true (at 16 17) (punct 58 false (at 17 18) (punct 61 false (at 19 20) (leaf (ident (99 ∷ [])) (at 21 22) (leaf (ident (99 ∷ [])) (at 23 24) (punct 61 false (at 25 26) (leaf (ident (100 ∷ [])) (at 27 28) (leaf (ident w_where) (at 29 34) (leaf (ident (101 ∷ [])) (at 35 36) (punct 58 false (at 37 38) (leaf (ident (102 ∷ [])) (at 39 40) (punct 59 false (at 41 42) end)))))))))))))))))
unfolding left is_end lookahead_at sees take_token take_lifetime take_mark take_group before rows_for rows run parse_rule
odd_const_border_19 = not_read odd_const _ refl

-- `pub const a < b >: c = d where e : f = c ;`: nothing is read
odd_const_border_20 : NotDerived (rule odd_const)
    (leaf (ident w_pub) (at 0 3) (leaf (ident w_const) (at 4 9) (leaf (ident (97 ∷ [])) (at 10 11) (punct 60 false (at 12 13) (leaf (ident (98 ∷ [])) (at 14 15) (punct 62 true (at 16 17) (punct 58 false (at 17 18) (leaf (ident (99 ∷ [])) (at 19 20) (punct 61 false (at 21 22) (leaf (ident (100 ∷ [])) (at 23 24) (leaf (ident w_where) (at 25 30) (leaf (ident (101 ∷ [])) (at 31 32) (punct 58 false (at 33 34) (leaf (ident (102 ∷ [])) (at 35 36) (punct 61 false (at 37 38) (leaf (ident (99 ∷ [])) (at 39 40) (punct 59 false (at 41 42) end)))))))))))))))))
unfolding left is_end lookahead_at sees take_token take_lifetime take_mark take_group before rows_for rows run parse_rule
odd_const_border_20 = not_read odd_const _ refl

-- `pub const a < b >= c : c = d where e : f ;`: nothing is read
odd_const_border_21 : NotDerived (rule odd_const)
    (leaf (ident w_pub) (at 0 3) (leaf (ident w_const) (at 4 9) (leaf (ident (97 ∷ [])) (at 10 11) (punct 60 false (at 12 13) (leaf (ident (98 ∷ [])) (at 14 15) (punct 62 true (at 16 17) (punct 61 false (at 17 18) (leaf (ident (99 ∷ [])) (at 19 20) (punct 58 false (at 21 22) (leaf (ident (99 ∷ [])) (at 23 24) (punct 61 false (at 25 26) (leaf (ident (100 ∷ [])) (at 27 28) (leaf (ident w_where) (at 29 34) (leaf (ident (101 ∷ [])) (at 35 36) (punct 58 false (at 37 38) (leaf (ident (102 ∷ [])) (at 39 40) (punct 59 false (at 41 42) end)))))))))))))))))
unfolding left is_end lookahead_at sees take_token take_lifetime take_mark take_group before rows_for rows run parse_rule
odd_const_border_21 = not_read odd_const _ refl

-- `pub pub const a < b >: c = d where e : f ;`: nothing is read
odd_const_border_22 : NotDerived (rule odd_const)
    (leaf (ident w_pub) (at 0 3) (leaf (ident w_pub) (at 4 7) (leaf (ident w_const) (at 8 13) (leaf (ident (97 ∷ [])) (at 14 15) (punct 60 false (at 16 17) (leaf (ident (98 ∷ [])) (at 18 19) (punct 62 true (at 20 21) (punct 58 false (at 21 22) (leaf (ident (99 ∷ [])) (at 23 24) (punct 61 false (at 25 26) (leaf (ident (100 ∷ [])) (at 27 28) (leaf (ident w_where) (at 29 34) (leaf (ident (101 ∷ [])) (at 35 36) (punct 58 false (at 37 38) (leaf (ident (102 ∷ [])) (at 39 40) (punct 59 false (at 41 42) end))))))))))))))))
unfolding left is_end lookahead_at sees take_token take_lifetime take_mark take_group before rows_for rows run parse_rule
odd_const_border_22 = not_read odd_const _ refl

-- `pub const a < # [c] b >: c = d where e : f ;` prints `pub const a < # [c] b > : c = d where e : f ;`
odd_const_border_23 : DerivesAs odd_const
    (leaf (ident w_pub) (at 0 3) (leaf (ident w_const) (at 4 9) (leaf (ident (97 ∷ [])) (at 10 11) (punct 60 false (at 12 13) (punct 35 false (at 14 15) (group Bracket (at 16 17) (at 18 19) (leaf (ident (99 ∷ [])) (at 17 18) end) (leaf (ident (98 ∷ [])) (at 20 21) (punct 62 true (at 22 23) (punct 58 false (at 23 24) (leaf (ident (99 ∷ [])) (at 25 26) (punct 61 false (at 27 28) (leaf (ident (100 ∷ [])) (at 29 30) (leaf (ident w_where) (at 31 36) (leaf (ident (101 ∷ [])) (at 37 38) (punct 58 false (at 39 40) (leaf (ident (102 ∷ [])) (at 41 42) (punct 59 false (at 43 44) end)))))))))))))))))
    (leaf (ident w_pub) call_site (leaf (ident w_const) call_site (leaf (ident (97 ∷ [])) call_site (punct 60 false call_site (punct 35 false call_site (group Bracket call_site call_site (leaf (ident (99 ∷ [])) call_site end) (leaf (ident (98 ∷ [])) call_site (punct 62 false call_site (punct 58 false call_site (leaf (ident (99 ∷ [])) call_site (punct 61 false call_site (leaf (ident (100 ∷ [])) call_site (leaf (ident w_where) call_site (leaf (ident (101 ∷ [])) call_site (punct 58 false call_site (leaf (ident (102 ∷ [])) call_site (punct 59 false call_site end)))))))))))))))))
    (end)
unfolding left is_end lookahead_at sees take_token take_lifetime take_mark take_group before rows_for rows run parse_rule
odd_const_border_23 = computed odd_const _ _ _ refl

-- `pub const a < b >: c = d where e : f where ;`: nothing is read
odd_const_border_24 : NotDerived (rule odd_const)
    (leaf (ident w_pub) (at 0 3) (leaf (ident w_const) (at 4 9) (leaf (ident (97 ∷ [])) (at 10 11) (punct 60 false (at 12 13) (leaf (ident (98 ∷ [])) (at 14 15) (punct 62 true (at 16 17) (punct 58 false (at 17 18) (leaf (ident (99 ∷ [])) (at 19 20) (punct 61 false (at 21 22) (leaf (ident (100 ∷ [])) (at 23 24) (leaf (ident w_where) (at 25 30) (leaf (ident (101 ∷ [])) (at 31 32) (punct 58 false (at 33 34) (leaf (ident (102 ∷ [])) (at 35 36) (leaf (ident w_where) (at 37 42) (punct 59 false (at 43 44) end))))))))))))))))
unfolding left is_end lookahead_at sees take_token take_lifetime take_mark take_group before rows_for rows run parse_rule
odd_const_border_24 = not_read odd_const _ refl

-- `pub const a < b >: c where = d where e : f ;`: nothing is read
odd_const_border_25 : NotDerived (rule odd_const)
    (leaf (ident w_pub) (at 0 3) (leaf (ident w_const) (at 4 9) (leaf (ident (97 ∷ [])) (at 10 11) (punct 60 false (at 12 13) (leaf (ident (98 ∷ [])) (at 14 15) (punct 62 true (at 16 17) (punct 58 false (at 17 18) (leaf (ident (99 ∷ [])) (at 19 20) (leaf (ident w_where) (at 21 26) (punct 61 false (at 27 28) (leaf (ident (100 ∷ [])) (at 29 30) (leaf (ident w_where) (at 31 36) (leaf (ident (101 ∷ [])) (at 37 38) (punct 58 false (at 39 40) (leaf (ident (102 ∷ [])) (at 41 42) (punct 59 false (at 43 44) end))))))))))))))))
unfolding left is_end lookahead_at sees take_token take_lifetime take_mark take_group before rows_for rows run parse_rule
odd_const_border_25 = not_read odd_const _ refl

-- `pub const a < b >where : c = d where e : f ;`: nothing is read
odd_const_border_26 : NotDerived (rule odd_const)
    (leaf (ident w_pub) (at 0 3) (leaf (ident w_const) (at 4 9) (leaf (ident (97 ∷ [])) (at 10 11) (punct 60 false (at 12 13) (leaf (ident (98 ∷ [])) (at 14 15) (punct 62 false (at 16 17) (leaf (ident w_where) (at 17 22) (punct 58 false (at 23 24) (leaf (ident (99 ∷ [])) (at 25 26) (punct 61 false (at 27 28) (leaf (ident (100 ∷ [])) (at 29 30) (leaf (ident w_where) (at 31 36) (leaf (ident (101 ∷ [])) (at 37 38) (punct 58 false (at 39 40) (leaf (ident (102 ∷ [])) (at 41 42) (punct 59 false (at 43 44) end))))))))))))))))
unfolding left is_end lookahead_at sees take_token take_lifetime take_mark take_group before rows_for rows run parse_rule
odd_const_border_26 = not_read odd_const _ refl

-- `a {}`: nothing is read
macro_definition_border_1 : NotDerived (rule macro_definition)
    (leaf (ident (97 ∷ [])) (at 0 1) (group Brace (at 2 3) (at 3 4) end end))
unfolding left is_end lookahead_at sees take_token take_lifetime take_mark take_group before rows_for rows run parse_rule
macro_definition_border_1 = not_read macro_definition _ refl

-- `Self a {}`: nothing is read
macro_definition_border_2 : NotDerived (rule macro_definition)
    (leaf (ident w_Self_type) (at 0 4) (leaf (ident (97 ∷ [])) (at 5 6) (group Brace (at 7 8) (at 8 9) end end)))
unfolding left is_end lookahead_at sees take_token take_lifetime take_mark take_group before rows_for rows run parse_rule
macro_definition_border_2 = not_read macro_definition _ refl

-- `macro 1 {}`: nothing is read
macro_definition_border_3 : NotDerived (rule macro_definition)
    (leaf (ident w_macro) (at 0 5) (leaf (literal Int (49 ∷ [])) (at 6 7) (group Brace (at 8 9) (at 9 10) end end)))
unfolding left is_end lookahead_at sees take_token take_lifetime take_mark take_group before rows_for rows run parse_rule
macro_definition_border_3 = not_read macro_definition _ refl

-- `macro _ {}`: nothing is read
macro_definition_border_4 : NotDerived (rule macro_definition)
    (leaf (ident w_macro) (at 0 5) (leaf (ident w_underscore) (at 6 7) (group Brace (at 8 9) (at 9 10) end end)))
unfolding left is_end lookahead_at sees take_token take_lifetime take_mark take_group before rows_for rows run parse_rule
macro_definition_border_4 = not_read macro_definition _ refl

-- `macro fn {}`: nothing is read
macro_definition_border_5 : NotDerived (rule macro_definition)
    (leaf (ident w_macro) (at 0 5) (leaf (ident w_fn) (at 6 8) (group Brace (at 9 10) (at 10 11) end end)))
unfolding left is_end lookahead_at sees take_token take_lifetime take_mark take_group before rows_for rows run parse_rule
macro_definition_border_5 = not_read macro_definition _ refl

-- `b macro a {}`: nothing is read
macro_definition_border_6 : NotDerived (rule macro_definition)
    (leaf (ident (98 ∷ [])) (at 0 1) (leaf (ident w_macro) (at 2 7) (leaf (ident (97 ∷ [])) (at 8 9) (group Brace (at 10 11) (at 11 12) end end))))
unfolding left is_end lookahead_at sees take_token take_lifetime take_mark take_group before rows_for rows run parse_rule
macro_definition_border_6 = not_read macro_definition _ refl

-- `macro a a {}`: nothing is read
macro_definition_border_7 : NotDerived (rule macro_definition)
    (leaf (ident w_macro) (at 0 5) (leaf (ident (97 ∷ [])) (at 6 7) (leaf (ident (97 ∷ [])) (at 8 9) (group Brace (at 10 11) (at 11 12) end end))))
unfolding left is_end lookahead_at sees take_token take_lifetime take_mark take_group before rows_for rows run parse_rule
macro_definition_border_7 = not_read macro_definition _ refl

-- `() macro a {}`: nothing is read
macro_definition_border_8 : NotDerived (rule macro_definition)
    (group Paren (at 0 1) (at 1 2) end (leaf (ident w_macro) (at 3 8) (leaf (ident (97 ∷ [])) (at 9 10) (group Brace (at 11 12) (at 12 13) end end))))
unfolding left is_end lookahead_at sees take_token take_lifetime take_mark take_group before rows_for rows run parse_rule
macro_definition_border_8 = not_read macro_definition _ refl

-- `macro () a {}`: nothing is read
macro_definition_border_9 : NotDerived (rule macro_definition)
    (leaf (ident w_macro) (at 0 5) (group Paren (at 6 7) (at 7 8) end (leaf (ident (97 ∷ [])) (at 9 10) (group Brace (at 11 12) (at 12 13) end end))))
unfolding left is_end lookahead_at sees take_token take_lifetime take_mark take_group before rows_for rows run parse_rule
macro_definition_border_9 = not_read macro_definition _ refl

-- `macro Self {}`: nothing is read
macro_definition_border_10 : NotDerived (rule macro_definition)
    (leaf (ident w_macro) (at 0 5) (leaf (ident w_Self_type) (at 6 10) (group Brace (at 11 12) (at 12 13) end end)))
unfolding left is_end lookahead_at sees take_token take_lifetime take_mark take_group before rows_for rows run parse_rule
macro_definition_border_10 = not_read macro_definition _ refl

-- `macro safe {}` prints `macro safe {}`
macro_definition_border_11 : DerivesAs macro_definition
    (leaf (ident w_macro) (at 0 5) (leaf (ident w_safe) (at 6 10) (group Brace (at 11 12) (at 12 13) end end)))
    (leaf (ident w_macro) call_site (leaf (ident w_safe) call_site (group Brace call_site call_site end end)))
    (end)
unfolding left is_end lookahead_at sees take_token take_lifetime take_mark take_group before rows_for rows run parse_rule
macro_definition_border_11 = computed macro_definition _ _ _ refl

-- `macro self {}`: nothing is read
macro_definition_border_12 : NotDerived (rule macro_definition)
    (leaf (ident w_macro) (at 0 5) (leaf (ident w_self) (at 6 10) (group Brace (at 11 12) (at 12 13) end end)))
unfolding left is_end lookahead_at sees take_token take_lifetime take_mark take_group before rows_for rows run parse_rule
macro_definition_border_12 = not_read macro_definition _ refl

-- `macro {} a {}`: nothing is read
macro_definition_border_13 : NotDerived (rule macro_definition)
    (leaf (ident w_macro) (at 0 5) (group Brace (at 6 7) (at 7 8) end (leaf (ident (97 ∷ [])) (at 9 10) (group Brace (at 11 12) (at 12 13) end end))))
unfolding left is_end lookahead_at sees take_token take_lifetime take_mark take_group before rows_for rows run parse_rule
macro_definition_border_13 = not_read macro_definition _ refl

-- `{} macro a {}`: nothing is read
macro_definition_border_14 : NotDerived (rule macro_definition)
    (group Brace (at 0 1) (at 1 2) end (leaf (ident w_macro) (at 3 8) (leaf (ident (97 ∷ [])) (at 9 10) (group Brace (at 11 12) (at 12 13) end end))))
unfolding left is_end lookahead_at sees take_token take_lifetime take_mark take_group before rows_for rows run parse_rule
macro_definition_border_14 = not_read macro_definition _ refl

-- `macro a pub {}`: nothing is read
macro_definition_border_15 : NotDerived (rule macro_definition)
    (leaf (ident w_macro) (at 0 5) (leaf (ident (97 ∷ [])) (at 6 7) (leaf (ident w_pub) (at 8 11) (group Brace (at 12 13) (at 13 14) end end))))
unfolding left is_end lookahead_at sees take_token take_lifetime take_mark take_group before rows_for rows run parse_rule
macro_definition_border_15 = not_read macro_definition _ refl

-- `macro crate {}`: nothing is read
macro_definition_border_16 : NotDerived (rule macro_definition)
    (leaf (ident w_macro) (at 0 5) (leaf (ident w_crate) (at 6 11) (group Brace (at 12 13) (at 13 14) end end)))
unfolding left is_end lookahead_at sees take_token take_lifetime take_mark take_group before rows_for rows run parse_rule
macro_definition_border_16 = not_read macro_definition _ refl

-- `macro pub a {}`: nothing is read
macro_definition_border_17 : NotDerived (rule macro_definition)
    (leaf (ident w_macro) (at 0 5) (leaf (ident w_pub) (at 6 9) (leaf (ident (97 ∷ [])) (at 10 11) (group Brace (at 12 13) (at 13 14) end end))))
unfolding left is_end lookahead_at sees take_token take_lifetime take_mark take_group before rows_for rows run parse_rule
macro_definition_border_17 = not_read macro_definition _ refl

-- `macro super {}`: nothing is read
macro_definition_border_18 : NotDerived (rule macro_definition)
    (leaf (ident w_macro) (at 0 5) (leaf (ident w_super) (at 6 11) (group Brace (at 12 13) (at 13 14) end end)))
unfolding left is_end lookahead_at sees take_token take_lifetime take_mark take_group before rows_for rows run parse_rule
macro_definition_border_18 = not_read macro_definition _ refl

-- `macro union {}` prints `macro union {}`
macro_definition_border_19 : DerivesAs macro_definition
    (leaf (ident w_macro) (at 0 5) (leaf (ident w_union) (at 6 11) (group Brace (at 12 13) (at 13 14) end end)))
    (leaf (ident w_macro) call_site (leaf (ident w_union) call_site (group Brace call_site call_site end end)))
    (end)
unfolding left is_end lookahead_at sees take_token take_lifetime take_mark take_group before rows_for rows run parse_rule
macro_definition_border_19 = computed macro_definition _ _ _ refl

-- `macro macro {a}`: nothing is read
macro_definition_border_20 : NotDerived (rule macro_definition)
    (leaf (ident w_macro) (at 0 5) (leaf (ident w_macro) (at 6 11) (group Brace (at 12 13) (at 14 15) (leaf (ident (97 ∷ [])) (at 13 14) end) end)))
unfolding left is_end lookahead_at sees take_token take_lifetime take_mark take_group before rows_for rows run parse_rule
macro_definition_border_20 = not_read macro_definition _ refl

-- `macro default {}` prints `macro default {}`
macro_definition_border_21 : DerivesAs macro_definition
    (leaf (ident w_macro) (at 0 5) (leaf (ident w_default) (at 6 13) (group Brace (at 14 15) (at 15 16) end end)))
    (leaf (ident w_macro) call_site (leaf (ident w_default) call_site (group Brace call_site call_site end end)))
    (end)
unfolding left is_end lookahead_at sees take_token take_lifetime take_mark take_group before rows_for rows run parse_rule
macro_definition_border_21 = computed macro_definition _ _ _ refl

-- `macro macro a {}`: nothing is read
macro_definition_border_22 : NotDerived (rule macro_definition)
    (leaf (ident w_macro) (at 0 5) (leaf (ident w_macro) (at 6 11) (leaf (ident (97 ∷ [])) (at 12 13) (group Brace (at 14 15) (at 15 16) end end))))
unfolding left is_end lookahead_at sees take_token take_lifetime take_mark take_group before rows_for rows run parse_rule
macro_definition_border_22 = not_read macro_definition _ refl

-- `macro safe macro {^}`: nothing is read
macro_definition_border_23 : NotDerived (rule macro_definition)
    (leaf (ident w_macro) (at 0 5) (leaf (ident w_safe) (at 6 10) (leaf (ident w_macro) (at 11 16) (group Brace (at 17 18) (at 19 20) (punct 94 false (at 18 19) end) end))))
unfolding left is_end lookahead_at sees take_token take_lifetime take_mark take_group before rows_for rows run parse_rule
macro_definition_border_23 = not_read macro_definition _ refl

-- `macro union (1) (else) {/}`: nothing is read
macro_definition_border_24 : NotDerived (rule macro_definition)
    (leaf (ident w_macro) (at 0 5) (leaf (ident w_union) (at 6 11) (group Paren (at 12 13) (at 14 15) (leaf (literal Int (49 ∷ [])) (at 13 14) end) (group Paren (at 16 17) (at 21 22) (leaf (ident w_else) (at 17 21) end) (group Brace (at 23 24) (at 25 26) (punct 47 false (at 24 25) end) end)))))
unfolding left is_end lookahead_at sees take_token take_lifetime take_mark take_group before rows_for rows run parse_rule
macro_definition_border_24 = not_read macro_definition _ refl

-- `pub pub macro T (where) {<}`: nothing is read
macro_definition_border_25 : NotDerived (rule macro_definition)
    (leaf (ident w_pub) (at 0 3) (leaf (ident w_pub) (at 4 7) (leaf (ident w_macro) (at 8 13) (leaf (ident (84 ∷ [])) (at 14 15) (group Paren (at 16 17) (at 22 23) (leaf (ident w_where) (at 17 22) end) (group Brace (at 24 25) (at 26 27) (punct 60 false (at 25 26) end) end))))))
unfolding left is_end lookahead_at sees take_token take_lifetime take_mark take_group before rows_for rows run parse_rule
macro_definition_border_25 = not_read macro_definition _ refl

-- `auto ;`: nothing is read
odd_type_border_1 : NotDerived (rule odd_type)
    (leaf (ident w_auto) (at 0 4) (punct 59 false (at 5 6) end))
unfolding left is_end lookahead_at sees take_token take_lifetime take_mark take_group before rows_for rows run parse_rule
odd_type_border_1 = not_read odd_type _ refl

-- `; type auto ;`: nothing is read
odd_type_border_2 : NotDerived (rule odd_type)
    (punct 59 false (at 0 1) (leaf (ident w_type) (at 2 6) (leaf (ident w_auto) (at 7 11) (punct 59 false (at 12 13) end))))
unfolding left is_end lookahead_at sees take_token take_lifetime take_mark take_group before rows_for rows run parse_rule
odd_type_border_2 = not_read odd_type _ refl

-- `type ; auto ;`: nothing is read
odd_type_border_3 : NotDerived (rule odd_type)
    (leaf (ident w_type) (at 0 4) (punct 59 false (at 5 6) (leaf (ident w_auto) (at 7 11) (punct 59 false (at 12 13) end))))
unfolding left is_end lookahead_at sees take_token take_lifetime take_mark take_group before rows_for rows run parse_rule
odd_type_border_3 = not_read odd_type _ refl

-- `where auto ;%`: nothing is read
odd_type_border_4 : NotDerived (rule odd_type)
    (leaf (ident w_where) (at 0 5) (leaf (ident w_auto) (at 6 10) (punct 59 true (at 11 12) (punct 37 false (at 12 13) end))))
unfolding left is_end lookahead_at sees take_token take_lifetime take_mark take_group before rows_for rows run parse_rule
odd_type_border_4 = not_read odd_type _ refl

-- `a type union ;`: nothing is read
odd_type_border_5 : NotDerived (rule odd_type)
    (leaf (ident (97 ∷ [])) (at 0 1) (leaf (ident w_type) (at 2 6) (leaf (ident w_union) (at 7 12) (punct 59 false (at 13 14) end))))
unfolding left is_end lookahead_at sees take_token take_lifetime take_mark take_group before rows_for rows run parse_rule
odd_type_border_5 = not_read odd_type _ refl

-- `type a < > : ;` prints `type a : ;`
odd_type_border_6 : DerivesAs odd_type
    (leaf (ident w_type) (at 0 4) (leaf (ident (97 ∷ [])) (at 5 6) (punct 60 false (at 7 8) (punct 62 false (at 9 10) (punct 58 false (at 11 12) (punct 59 false (at 13 14) end))))))
    (leaf (ident w_type) call_site (leaf (ident (97 ∷ [])) call_site (punct 58 false call_site (punct 59 false call_site end))))
    (end)
unfolding left is_end lookahead_at sees take_token take_lifetime take_mark take_group before rows_for rows run parse_rule
odd_type_border_6 = computed odd_type _ _ _ refl

-- `: c type auto ;`: nothing is read
odd_type_border_7 : NotDerived (rule odd_type)
    (punct 58 false (at 0 1) (leaf (ident (99 ∷ [])) (at 2 3) (leaf (ident w_type) (at 4 8) (leaf (ident w_auto) (at 9 13) (punct 59 false (at 14 15) end)))))
unfolding left is_end lookahead_at sees take_token take_lifetime take_mark take_group before rows_for rows run parse_rule
odd_type_border_7 = not_read odd_type _ refl

-- `< > type auto ;`: nothing is read
odd_type_border_8 : NotDerived (rule odd_type)
    (punct 60 false (at 0 1) (punct 62 false (at 2 3) (leaf (ident w_type) (at 4 8) (leaf (ident w_auto) (at 9 13) (punct 59 false (at 14 15) end)))))
unfolding left is_end lookahead_at sees take_token take_lifetime take_mark take_group before rows_for rows run parse_rule
odd_type_border_8 = not_read odd_type _ refl

-- `type : c auto ;`: nothing is read
odd_type_border_9 : NotDerived (rule odd_type)
    (leaf (ident w_type) (at 0 4) (punct 58 false (at 5 6) (leaf (ident (99 ∷ [])) (at 7 8) (leaf (ident w_auto) (at 9 13) (punct 59 false (at 14 15) end)))))
unfolding left is_end lookahead_at sees take_token take_lifetime take_mark take_group before rows_for rows run parse_rule
odd_type_border_9 = not_read odd_type _ refl

-- `type < > auto ;`: nothing is read
odd_type_border_10 : NotDerived (rule odd_type)
    (leaf (ident w_type) (at 0 4) (punct 60 false (at 5 6) (punct 62 false (at 7 8) (leaf (ident w_auto) (at 9 13) (punct 59 false (at 14 15) end)))))
unfolding left is_end lookahead_at sees take_token take_lifetime take_mark take_group before rows_for rows run parse_rule
odd_type_border_10 = not_read odd_type _ refl

-- `type auto : : ;`: nothing is read
odd_type_border_11 : NotDerived (rule odd_type)
    (leaf (ident w_type) (at 0 4) (leaf (ident w_auto) (at 5 9) (punct 58 false (at 10 11) (punct 58 false (at 12 13) (punct 59 false (at 14 15) end)))))
unfolding left is_end lookahead_at sees take_token take_lifetime take_mark take_group before rows_for rows run parse_rule
odd_type_border_11 = not_read odd_type _ refl

-- `type auto pub ;`: nothing is read
odd_type_border_12 : NotDerived (rule odd_type)
    (leaf (ident w_type) (at 0 4) (leaf (ident w_auto) (at 5 9) (leaf (ident w_pub) (at 10 13) (punct 59 false (at 14 15) end))))
unfolding left is_end lookahead_at sees take_token take_lifetime take_mark take_group before rows_for rows run parse_rule
odd_type_border_12 = not_read odd_type _ refl

-- `type pub auto ;`: nothing is read
odd_type_border_13 : NotDerived (rule odd_type)
    (leaf (ident w_type) (at 0 4) (leaf (ident w_pub) (at 5 8) (leaf (ident w_auto) (at 9 13) (punct 59 false (at 14 15) end))))
unfolding left is_end lookahead_at sees take_token take_lifetime take_mark take_group before rows_for rows run parse_rule
odd_type_border_13 = not_read odd_type _ refl

-- `type auto auto ;`: nothing is read
odd_type_border_14 : NotDerived (rule odd_type)
    (leaf (ident w_type) (at 0 4) (leaf (ident w_auto) (at 5 9) (leaf (ident w_auto) (at 10 14) (punct 59 false (at 15 16) end))))
unfolding left is_end lookahead_at sees take_token take_lifetime take_mark take_group before rows_for rows run parse_rule
odd_type_border_14 = not_read odd_type _ refl

-- `type type auto ;`: nothing is read
odd_type_border_15 : NotDerived (rule odd_type)
    (leaf (ident w_type) (at 0 4) (leaf (ident w_type) (at 5 9) (leaf (ident w_auto) (at 10 14) (punct 59 false (at 15 16) end))))
unfolding left is_end lookahead_at sees take_token take_lifetime take_mark take_group before rows_for rows run parse_rule
odd_type_border_15 = not_read odd_type _ refl

-- `type auto : c : ;`: nothing is read
odd_type_border_16 : NotDerived (rule odd_type)
    (leaf (ident w_type) (at 0 4) (leaf (ident w_auto) (at 5 9) (punct 58 false (at 10 11) (leaf (ident (99 ∷ [])) (at 12 13) (punct 58 false (at 14 15) (punct 59 false (at 16 17) end))))))
unfolding left is_end lookahead_at sees take_token take_lifetime take_mark take_group before rows_for rows run parse_rule
odd_type_border_16 = not_read odd_type _ refl

-- `type default < > ;` prints `type default ;`
odd_type_border_17 : DerivesAs odd_type
    (leaf (ident w_type) (at 0 4) (leaf (ident w_default) (at 5 12) (punct 60 false (at 13 14) (punct 62 false (at 15 16) (punct 59 false (at 17 18) end)))))
    (leaf (ident w_type) call_site (leaf (ident w_default) call_site (punct 59 false call_site end)))
    (end)
unfolding left is_end lookahead_at sees take_token take_lifetime take_mark take_group before rows_for rows run parse_rule
odd_type_border_17 = computed odd_type _ _ _ refl

-- `pub pub type union ;`: nothing is read
odd_type_border_18 : NotDerived (rule odd_type)
    (leaf (ident w_pub) (at 0 3) (leaf (ident w_pub) (at 4 7) (leaf (ident w_type) (at 8 12) (leaf (ident w_union) (at 13 18) (punct 59 false (at 19 20) end)))))
unfolding left is_end lookahead_at sees take_token take_lifetime take_mark take_group before rows_for rows run parse_rule
odd_type_border_18 = not_read odd_type _ refl

-- `type default where ;` prints `type default where ;`
odd_type_border_19 : DerivesAs odd_type
    (leaf (ident w_type) (at 0 4) (leaf (ident w_default) (at 5 12) (leaf (ident w_where) (at 13 18) (punct 59 false (at 19 20) end))))
    (leaf (ident w_type) call_site (leaf (ident w_default) call_site (leaf (ident w_where) call_site (punct 59 false call_site end))))
    (end)
unfolding left is_end lookahead_at sees take_token take_lifetime take_mark take_group before rows_for rows run parse_rule
odd_type_border_19 = computed odd_type _ _ _ refl

-- `type union < > < > ;`: nothing is read
odd_type_border_20 : NotDerived (rule odd_type)
    (leaf (ident w_type) (at 0 4) (leaf (ident w_union) (at 5 10) (punct 60 false (at 11 12) (punct 62 false (at 13 14) (punct 60 false (at 15 16) (punct 62 false (at 17 18) (punct 59 false (at 19 20) end)))))))
unfolding left is_end lookahead_at sees take_token take_lifetime take_mark take_group before rows_for rows run parse_rule
odd_type_border_20 = not_read odd_type _ refl

-- `type union < > type ;`: nothing is read
odd_type_border_21 : NotDerived (rule odd_type)
    (leaf (ident w_type) (at 0 4) (leaf (ident w_union) (at 5 10) (punct 60 false (at 11 12) (punct 62 false (at 13 14) (leaf (ident w_type) (at 15 19) (punct 59 false (at 20 21) end))))))
unfolding left is_end lookahead_at sees take_token take_lifetime take_mark take_group before rows_for rows run parse_rule
odd_type_border_21 = not_read odd_type _ refl

-- `type union type where ;`: nothing is read
odd_type_border_22 : NotDerived (rule odd_type)
    (leaf (ident w_type) (at 0 4) (leaf (ident w_union) (at 5 10) (leaf (ident w_type) (at 11 15) (leaf (ident w_where) (at 16 21) (punct 59 false (at 22 23) end)))))
unfolding left is_end lookahead_at sees take_token take_lifetime take_mark take_group before rows_for rows run parse_rule
odd_type_border_22 = not_read odd_type _ refl

-- `type a : = where c : d ;`: nothing is read
odd_type_border_23 : NotDerived (rule odd_type)
    (leaf (ident w_type) (at 0 4) (leaf (ident (97 ∷ [])) (at 5 6) (punct 58 false (at 7 8) (punct 61 false (at 9 10) (leaf (ident w_where) (at 11 16) (leaf (ident (99 ∷ [])) (at 17 18) (punct 58 false (at 19 20) (leaf (ident (100 ∷ [])) (at 21 22) (punct 59 false (at 23 24) end)))))))))
unfolding left is_end lookahead_at sees take_token take_lifetime take_mark take_group before rows_for rows run parse_rule
odd_type_border_23 = not_read odd_type _ refl

-- `type a where b : c where ;`: nothing is read
odd_type_border_24 : NotDerived (rule odd_type)
    (leaf (ident w_type) (at 0 4) (leaf (ident (97 ∷ [])) (at 5 6) (leaf (ident w_where) (at 7 12) (leaf (ident (98 ∷ [])) (at 13 14) (punct 58 false (at 15 16) (leaf (ident (99 ∷ [])) (at 17 18) (leaf (ident w_where) (at 19 24) (punct 59 false (at 25 26) end))))))))
unfolding left is_end lookahead_at sees take_token take_lifetime take_mark take_group before rows_for rows run parse_rule
odd_type_border_24 = not_read odd_type _ refl

-- `type a where where b : c ;`: nothing is read
odd_type_border_25 : NotDerived (rule odd_type)
    (leaf (ident w_type) (at 0 4) (leaf (ident (97 ∷ [])) (at 5 6) (leaf (ident w_where) (at 7 12) (leaf (ident w_where) (at 13 18) (leaf (ident (98 ∷ [])) (at 19 20) (punct 58 false (at 21 22) (leaf (ident (99 ∷ [])) (at 23 24) (punct 59 false (at 25 26) end))))))))
unfolding left is_end lookahead_at sees take_token take_lifetime take_mark take_group before rows_for rows run parse_rule
odd_type_border_25 = not_read odd_type _ refl

-- `type a : = = b where c : d ;`: nothing is read
odd_type_border_26 : NotDerived (rule odd_type)
    (leaf (ident w_type) (at 0 4) (leaf (ident (97 ∷ [])) (at 5 6) (punct 58 false (at 7 8) (punct 61 false (at 9 10) (punct 61 false (at 11 12) (leaf (ident (98 ∷ [])) (at 13 14) (leaf (ident w_where) (at 15 20) (leaf (ident (99 ∷ [])) (at 21 22) (punct 58 false (at 23 24) (leaf (ident (100 ∷ [])) (at 25 26) (punct 59 false (at 27 28) end)))))))))))
unfolding left is_end lookahead_at sees take_token take_lifetime take_mark take_group before rows_for rows run parse_rule
odd_type_border_26 = not_read odd_type _ refl

-- `type a : = b b where c : d ;`: nothing is read
odd_type_border_27 : NotDerived (rule odd_type)
    (leaf (ident w_type) (at 0 4) (leaf (ident (97 ∷ [])) (at 5 6) (punct 58 false (at 7 8) (punct 61 false (at 9 10) (leaf (ident (98 ∷ [])) (at 11 12) (leaf (ident (98 ∷ [])) (at 13 14) (leaf (ident w_where) (at 15 20) (leaf (ident (99 ∷ [])) (at 21 22) (punct 58 false (at 23 24) (leaf (ident (100 ∷ [])) (at 25 26) (punct 59 false (at 27 28) end)))))))))))
unfolding left is_end lookahead_at sees take_token take_lifetime take_mark take_group before rows_for rows run parse_rule
odd_type_border_27 = not_read odd_type _ refl

-- `type a : = b where c : b d ;`: nothing is read
odd_type_border_28 : NotDerived (rule odd_type)
    (leaf (ident w_type) (at 0 4) (leaf (ident (97 ∷ [])) (at 5 6) (punct 58 false (at 7 8) (punct 61 false (at 9 10) (leaf (ident (98 ∷ [])) (at 11 12) (leaf (ident w_where) (at 13 18) (leaf (ident (99 ∷ [])) (at 19 20) (punct 58 false (at 21 22) (leaf (ident (98 ∷ [])) (at 23 24) (leaf (ident (100 ∷ [])) (at 25 26) (punct 59 false (at 27 28) end)))))))))))
unfolding left is_end lookahead_at sees take_token take_lifetime take_mark take_group before rows_for rows run parse_rule
odd_type_border_28 = not_read odd_type _ refl

-- `pub type a : b where c : d = ;`: nothing is read
odd_type_border_29 : NotDerived (rule odd_type)
    (leaf (ident w_pub) (at 0 3) (leaf (ident w_type) (at 4 8) (leaf (ident (97 ∷ [])) (at 9 10) (punct 58 false (at 11 12) (leaf (ident (98 ∷ [])) (at 13 14) (leaf (ident w_where) (at 15 20) (leaf (ident (99 ∷ [])) (at 21 22) (punct 58 false (at 23 24) (leaf (ident (100 ∷ [])) (at 25 26) (punct 61 false (at 27 28) (punct 59 false (at 29 30) end)))))))))))
unfolding left is_end lookahead_at sees take_token take_lifetime take_mark take_group before rows_for rows run parse_rule
odd_type_border_29 = not_read odd_type _ refl

-- `type a : = b = c where c : d ;`: nothing is read
odd_type_border_30 : NotDerived (rule odd_type)
    (leaf (ident w_type) (at 0 4) (leaf (ident (97 ∷ [])) (at 5 6) (punct 58 false (at 7 8) (punct 61 false (at 9 10) (leaf (ident (98 ∷ [])) (at 11 12) (punct 61 false (at 13 14) (leaf (ident (99 ∷ [])) (at 15 16) (leaf (ident w_where) (at 17 22) (leaf (ident (99 ∷ [])) (at 23 24) (punct 58 false (at 25 26) (leaf (ident (100 ∷ [])) (at 27 28) (punct 59 false (at 29 30) end))))))))))))
unfolding left is_end lookahead_at sees take_token take_lifetime take_mark take_group before rows_for rows run parse_rule
odd_type_border_30 = not_read odd_type _ refl

-- `type a : = b where c : d where ;`: nothing is read
odd_type_border_31 : NotDerived (rule odd_type)
    (leaf (ident w_type) (at 0 4) (leaf (ident (97 ∷ [])) (at 5 6) (punct 58 false (at 7 8) (punct 61 false (at 9 10) (leaf (ident (98 ∷ [])) (at 11 12) (leaf (ident w_where) (at 13 18) (leaf (ident (99 ∷ [])) (at 19 20) (punct 58 false (at 21 22) (leaf (ident (100 ∷ [])) (at 23 24) (leaf (ident w_where) (at 25 30) (punct 59 false (at 31 32) end)))))))))))
unfolding left is_end lookahead_at sees take_token take_lifetime take_mark take_group before rows_for rows run parse_rule
odd_type_border_31 = not_read odd_type _ refl

-- `type a : = b where where c : d ;`: nothing is read
odd_type_border_32 : NotDerived (rule odd_type)
    (leaf (ident w_type) (at 0 4) (leaf (ident (97 ∷ [])) (at 5 6) (punct 58 false (at 7 8) (punct 61 false (at 9 10) (leaf (ident (98 ∷ [])) (at 11 12) (leaf (ident w_where) (at 13 18) (leaf (ident w_where) (at 19 24) (leaf (ident (99 ∷ [])) (at 25 26) (punct 58 false (at 27 28) (leaf (ident (100 ∷ [])) (at 29 30) (punct 59 false (at 31 32) end)))))))))))
unfolding left is_end lookahead_at sees take_token take_lifetime take_mark take_group before rows_for rows run parse_rule
odd_type_border_32 = not_read odd_type _ refl

-- `type a : where = b where c : d ;`: nothing is read
odd_type_border_33 : NotDerived (rule odd_type)
    (leaf (ident w_type) (at 0 4) (leaf (ident (97 ∷ [])) (at 5 6) (punct 58 false (at 7 8) (leaf (ident w_where) (at 9 14) (punct 61 false (at 15 16) (leaf (ident (98 ∷ [])) (at 17 18) (leaf (ident w_where) (at 19 24) (leaf (ident (99 ∷ [])) (at 25 26) (punct 58 false (at 27 28) (leaf (ident (100 ∷ [])) (at 29 30) (punct 59 false (at 31 32) end)))))))))))
unfolding left is_end lookahead_at sees take_token take_lifetime take_mark take_group before rows_for rows run parse_rule
odd_type_border_33 = not_read odd_type _ refl

-- `pub type a : b b where c : d = e ;`: nothing is read
odd_type_border_34 : NotDerived (rule odd_type)
    (leaf (ident w_pub) (at 0 3) (leaf (ident w_type) (at 4 8) (leaf (ident (97 ∷ [])) (at 9 10) (punct 58 false (at 11 12) (leaf (ident (98 ∷ [])) (at 13 14) (leaf (ident (98 ∷ [])) (at 15 16) (leaf (ident w_where) (at 17 22) (leaf (ident (99 ∷ [])) (at 23 24) (punct 58 false (at 25 26) (leaf (ident (100 ∷ [])) (at 27 28) (punct 61 false (at 29 30) (leaf (ident (101 ∷ [])) (at 31 32) (punct 59 false (at 33 34) end)))))))))))))
unfolding left is_end lookahead_at sees take_token take_lifetime take_mark take_group before rows_for rows run parse_rule
odd_type_border_34 = not_read odd_type _ refl

-- `pub type a : b where c : d = = e ;`: nothing is read
odd_type_border_35 : NotDerived (rule odd_type)
    (leaf (ident w_pub) (at 0 3) (leaf (ident w_type) (at 4 8) (leaf (ident (97 ∷ [])) (at 9 10) (punct 58 false (at 11 12) (leaf (ident (98 ∷ [])) (at 13 14) (leaf (ident w_where) (at 15 20) (leaf (ident (99 ∷ [])) (at 21 22) (punct 58 false (at 23 24) (leaf (ident (100 ∷ [])) (at 25 26) (punct 61 false (at 27 28) (punct 61 false (at 29 30) (leaf (ident (101 ∷ [])) (at 31 32) (punct 59 false (at 33 34) end)))))))))))))
unfolding left is_end lookahead_at sees take_token take_lifetime take_mark take_group before rows_for rows run parse_rule
odd_type_border_35 = not_read odd_type _ refl

-- `pub type a : b where c : d = b e ;`: nothing is read
odd_type_border_36 : NotDerived (rule odd_type)
    (leaf (ident w_pub) (at 0 3) (leaf (ident w_type) (at 4 8) (leaf (ident (97 ∷ [])) (at 9 10) (punct 58 false (at 11 12) (leaf (ident (98 ∷ [])) (at 13 14) (leaf (ident w_where) (at 15 20) (leaf (ident (99 ∷ [])) (at 21 22) (punct 58 false (at 23 24) (leaf (ident (100 ∷ [])) (at 25 26) (punct 61 false (at 27 28) (leaf (ident (98 ∷ [])) (at 29 30) (leaf (ident (101 ∷ [])) (at 31 32) (punct 59 false (at 33 34) end)))))))))))))
unfolding left is_end lookahead_at sees take_token take_lifetime take_mark take_group before rows_for rows run parse_rule
odd_type_border_36 = not_read odd_type _ refl

-- `pub type a : b where c : d = c = e ;`: nothing is read
odd_type_border_37 : NotDerived (rule odd_type)
    (leaf (ident w_pub) (at 0 3) (leaf (ident w_type) (at 4 8) (leaf (ident (97 ∷ [])) (at 9 10) (punct 58 false (at 11 12) (leaf (ident (98 ∷ [])) (at 13 14) (leaf (ident w_where) (at 15 20) (leaf (ident (99 ∷ [])) (at 21 22) (punct 58 false (at 23 24) (leaf (ident (100 ∷ [])) (at 25 26) (punct 61 false (at 27 28) (leaf (ident (99 ∷ [])) (at 29 30) (punct 61 false (at 31 32) (leaf (ident (101 ∷ [])) (at 33 34) (punct 59 false (at 35 36) end))))))))))))))
unfolding left is_end lookahead_at sees take_token take_lifetime take_mark take_group before rows_for rows run parse_rule
odd_type_border_37 = not_read odd_type _ refl

-- `pub type a : b where c : d where = e ;`: nothing is read
odd_type_border_38 : NotDerived (rule odd_type)
    (leaf (ident w_pub) (at 0 3) (leaf (ident w_type) (at 4 8) (leaf (ident (97 ∷ [])) (at 9 10) (punct 58 false (at 11 12) (leaf (ident (98 ∷ [])) (at 13 14) (leaf (ident w_where) (at 15 20) (leaf (ident (99 ∷ [])) (at 21 22) (punct 58 false (at 23 24) (leaf (ident (100 ∷ [])) (at 25 26) (leaf (ident w_where) (at 27 32) (punct 61 false (at 33 34) (leaf (ident (101 ∷ [])) (at 35 36) (punct 59 false (at 37 38) end)))))))))))))
unfolding left is_end lookahead_at sees take_token take_lifetime take_mark take_group before rows_for rows run parse_rule
odd_type_border_38 = not_read odd_type _ refl

-- `pub type a : b where where c : d = e ;`: nothing is read
odd_type_border_39 : NotDerived (rule odd_type)
    (leaf (ident w_pub) (at 0 3) (leaf (ident w_type) (at 4 8) (leaf (ident (97 ∷ [])) (at 9 10) (punct 58 false (at 11 12) (leaf (ident (98 ∷ [])) (at 13 14) (leaf (ident w_where) (at 15 20) (leaf (ident w_where) (at 21 26) (leaf (ident (99 ∷ [])) (at 27 28) (punct 58 false (at 29 30) (leaf (ident (100 ∷ [])) (at 31 32) (punct 61 false (at 33 34) (leaf (ident (101 ∷ [])) (at 35 36) (punct 59 false (at 37 38) end)))))))))))))
unfolding left is_end lookahead_at sees take_token take_lifetime take_mark take_group before rows_for rows run parse_rule
odd_type_border_39 = not_read odd_type _ refl

-- `default {}`: nothing is read
bare_trait_border_1 : NotDerived (rule bare_trait)
    (leaf (ident w_default) (at 0 7) (group Brace (at 8 9) (at 9 10) end end))
unfolding left is_end lookahead_at sees take_token take_lifetime take_mark take_group before first_span rows_for rows run parse_rule
bare_trait_border_1 = not_read bare_trait _ refl

-- `trait 1 {}`: nothing is read
bare_trait_border_2 : NotDerived (rule bare_trait)
    (leaf (ident w_trait) (at 0 5) (leaf (literal Int (49 ∷ [])) (at 6 7) (group Brace (at 8 9) (at 9 10) end end)))
unfolding left is_end lookahead_at sees take_token take_lifetime take_mark take_group before first_span rows_for rows run parse_rule
bare_trait_border_2 = not_read bare_trait _ refl

-- `trait _ {}`: nothing is read
bare_trait_border_3 : NotDerived (rule bare_trait)
    (leaf (ident w_trait) (at 0 5) (leaf (ident w_underscore) (at 6 7) (group Brace (at 8 9) (at 9 10) end end)))
unfolding left is_end lookahead_at sees take_token take_lifetime take_mark take_group before first_span rows_for rows run parse_rule
bare_trait_border_3 = not_read bare_trait _ refl

-- `trait fn {}`: nothing is read
bare_trait_border_4 : NotDerived (rule bare_trait)
    (leaf (ident w_trait) (at 0 5) (leaf (ident w_fn) (at 6 8) (group Brace (at 9 10) (at 10 11) end end)))
unfolding left is_end lookahead_at sees take_token take_lifetime take_mark take_group before first_span rows_for rows run parse_rule
bare_trait_border_4 = not_read bare_trait _ refl

-- `trait Self {}`: nothing is read
bare_trait_border_5 : NotDerived (rule bare_trait)
    (leaf (ident w_trait) (at 0 5) (leaf (ident w_Self_type) (at 6 10) (group Brace (at 11 12) (at 12 13) end end)))
unfolding left is_end lookahead_at sees take_token take_lifetime take_mark take_group before first_span rows_for rows run parse_rule
bare_trait_border_5 = not_read bare_trait _ refl

-- `trait auto ()`: nothing is read
bare_trait_border_6 : NotDerived (rule bare_trait)
    (leaf (ident w_trait) (at 0 5) (leaf (ident w_auto) (at 6 10) (group Paren (at 11 12) (at 12 13) end end)))
unfolding left is_end lookahead_at sees take_token take_lifetime take_mark take_group before first_span rows_for rows run parse_rule
bare_trait_border_6 = not_read bare_trait _ refl

-- `trait auto []`: nothing is read
bare_trait_border_7 : NotDerived (rule bare_trait)
    (leaf (ident w_trait) (at 0 5) (leaf (ident w_auto) (at 6 10) (group Bracket (at 11 12) (at 12 13) end end)))
unfolding left is_end lookahead_at sees take_token take_lifetime take_mark take_group before first_span rows_for rows run parse_rule
bare_trait_border_7 = not_read bare_trait _ refl

-- `trait self {}`: nothing is read
bare_trait_border_8 : NotDerived (rule bare_trait)
    (leaf (ident w_trait) (at 0 5) (leaf (ident w_self) (at 6 10) (group Brace (at 11 12) (at 12 13) end end)))
unfolding left is_end lookahead_at sees take_token take_lifetime take_mark take_group before first_span rows_for rows run parse_rule
bare_trait_border_8 = not_read bare_trait _ refl

-- `trait crate {}`: nothing is read
bare_trait_border_9 : NotDerived (rule bare_trait)
    (leaf (ident w_trait) (at 0 5) (leaf (ident w_crate) (at 6 11) (group Brace (at 12 13) (at 13 14) end end)))
unfolding left is_end lookahead_at sees take_token take_lifetime take_mark take_group before first_span rows_for rows run parse_rule
bare_trait_border_9 = not_read bare_trait _ refl

-- `trait super {}`: nothing is read
bare_trait_border_10 : NotDerived (rule bare_trait)
    (leaf (ident w_trait) (at 0 5) (leaf (ident w_super) (at 6 11) (group Brace (at 12 13) (at 13 14) end end)))
unfolding left is_end lookahead_at sees take_token take_lifetime take_mark take_group before first_span rows_for rows run parse_rule
bare_trait_border_10 = not_read bare_trait _ refl

-- `trait union {}` prints `trait union {}`
bare_trait_border_11 : DerivesAs bare_trait
    (leaf (ident w_trait) (at 0 5) (leaf (ident w_union) (at 6 11) (group Brace (at 12 13) (at 13 14) end end)))
    (leaf (ident w_trait) call_site (leaf (ident w_union) call_site (group Brace call_site call_site end end)))
    (end)
unfolding left is_end lookahead_at sees take_token take_lifetime take_mark take_group before first_span rows_for rows run parse_rule
bare_trait_border_11 = computed bare_trait _ _ _ refl

-- `trait default {}` prints `trait default {}`
bare_trait_border_12 : DerivesAs bare_trait
    (leaf (ident w_trait) (at 0 5) (leaf (ident w_default) (at 6 13) (group Brace (at 14 15) (at 15 16) end end)))
    (leaf (ident w_trait) call_site (leaf (ident w_default) call_site (group Brace call_site call_site end end)))
    (end)
unfolding left is_end lookahead_at sees take_token take_lifetime take_mark take_group before first_span rows_for rows run parse_rule
bare_trait_border_12 = computed bare_trait _ _ _ refl

-- `trait trait : {}`: nothing is read
bare_trait_border_13 : NotDerived (rule bare_trait)
    (leaf (ident w_trait) (at 0 5) (leaf (ident w_trait) (at 6 11) (punct 58 false (at 12 13) (group Brace (at 14 15) (at 15 16) end end))))
unfolding left is_end lookahead_at sees take_token take_lifetime take_mark take_group before first_span rows_for rows run parse_rule
bare_trait_border_13 = not_read bare_trait _ refl

-- `trait {} auto {}`: nothing is read
bare_trait_border_14 : NotDerived (rule bare_trait)
    (leaf (ident w_trait) (at 0 5) (group Brace (at 6 7) (at 7 8) end (leaf (ident w_auto) (at 9 13) (group Brace (at 14 15) (at 15 16) end end))))
unfolding left is_end lookahead_at sees take_token take_lifetime take_mark take_group before first_span rows_for rows run parse_rule
bare_trait_border_14 = not_read bare_trait _ refl

-- `{} trait auto {}`: nothing is read
bare_trait_border_15 : NotDerived (rule bare_trait)
    (group Brace (at 0 1) (at 1 2) end (leaf (ident w_trait) (at 3 8) (leaf (ident w_auto) (at 9 13) (group Brace (at 14 15) (at 15 16) end end))))
unfolding left is_end lookahead_at sees take_token take_lifetime take_mark take_group before first_span rows_for rows run parse_rule
bare_trait_border_15 = not_read bare_trait _ refl

-- `: c trait auto {}`: nothing is read
bare_trait_border_16 : NotDerived (rule bare_trait)
    (punct 58 false (at 0 1) (leaf (ident (99 ∷ [])) (at 2 3) (leaf (ident w_trait) (at 4 9) (leaf (ident w_auto) (at 10 14) (group Brace (at 15 16) (at 16 17) end end)))))
unfolding left is_end lookahead_at sees take_token take_lifetime take_mark take_group before first_span rows_for rows run parse_rule
bare_trait_border_16 = not_read bare_trait _ refl

-- `< > trait auto {}`: nothing is read
bare_trait_border_17 : NotDerived (rule bare_trait)
    (punct 60 false (at 0 1) (punct 62 false (at 2 3) (leaf (ident w_trait) (at 4 9) (leaf (ident w_auto) (at 10 14) (group Brace (at 15 16) (at 16 17) end end)))))
unfolding left is_end lookahead_at sees take_token take_lifetime take_mark take_group before first_span rows_for rows run parse_rule
bare_trait_border_17 = not_read bare_trait _ refl

-- `auto auto auto {}`: nothing is read
bare_trait_border_18 : NotDerived (rule bare_trait)
    (leaf (ident w_auto) (at 0 4) (leaf (ident w_auto) (at 5 9) (leaf (ident w_auto) (at 10 14) (group Brace (at 15 16) (at 16 17) end end))))
unfolding left is_end lookahead_at sees take_token take_lifetime take_mark take_group before first_span rows_for rows run parse_rule
bare_trait_border_18 = not_read bare_trait _ refl

-- `trait : c auto {}`: nothing is read
bare_trait_border_19 : NotDerived (rule bare_trait)
    (leaf (ident w_trait) (at 0 5) (punct 58 false (at 6 7) (leaf (ident (99 ∷ [])) (at 8 9) (leaf (ident w_auto) (at 10 14) (group Brace (at 15 16) (at 16 17) end end)))))
unfolding left is_end lookahead_at sees take_token take_lifetime take_mark take_group before first_span rows_for rows run parse_rule
bare_trait_border_19 = not_read bare_trait _ refl

-- `trait < > auto {}`: nothing is read
bare_trait_border_20 : NotDerived (rule bare_trait)
    (leaf (ident w_trait) (at 0 5) (punct 60 false (at 6 7) (punct 62 false (at 8 9) (leaf (ident w_auto) (at 10 14) (group Brace (at 15 16) (at 16 17) end end)))))
unfolding left is_end lookahead_at sees take_token take_lifetime take_mark take_group before first_span rows_for rows run parse_rule
bare_trait_border_20 = not_read bare_trait _ refl

-- `trait auto = c {}`: nothing is read
bare_trait_border_21 : NotDerived (rule bare_trait)
    (leaf (ident w_trait) (at 0 5) (leaf (ident w_auto) (at 6 10) (punct 61 false (at 11 12) (leaf (ident (99 ∷ [])) (at 13 14) (group Brace (at 15 16) (at 16 17) end end)))))
unfolding left is_end lookahead_at sees take_token take_lifetime take_mark take_group before first_span rows_for rows run parse_rule
bare_trait_border_21 = not_read bare_trait _ refl

-- `trait auto : c :{}`: nothing is read
bare_trait_border_22 : NotDerived (rule bare_trait)
    (leaf (ident w_trait) (at 0 5) (leaf (ident w_auto) (at 6 10) (punct 58 false (at 11 12) (leaf (ident (99 ∷ [])) (at 13 14) (punct 58 false (at 15 16) (group Brace (at 16 17) (at 17 18) end end))))))
unfolding left is_end lookahead_at sees take_token take_lifetime take_mark take_group before first_span rows_for rows run parse_rule
bare_trait_border_22 = not_read bare_trait _ refl

-- `trait auto auto {}`: nothing is read
bare_trait_border_23 : NotDerived (rule bare_trait)
    (leaf (ident w_trait) (at 0 5) (leaf (ident w_auto) (at 6 10) (leaf (ident w_auto) (at 11 15) (group Brace (at 16 17) (at 17 18) end end))))
unfolding left is_end lookahead_at sees take_token take_lifetime take_mark take_group before first_span rows_for rows run parse_rule
bare_trait_border_23 = not_read bare_trait _ refl

-- `trait b < > < > {}`: nothing is read
bare_trait_border_24 : NotDerived (rule bare_trait)
    (leaf (ident w_trait) (at 0 5) (leaf (ident (98 ∷ [])) (at 6 7) (punct 60 false (at 8 9) (punct 62 false (at 10 11) (punct 60 false (at 12 13) (punct 62 false (at 14 15) (group Brace (at 16 17) (at 17 18) end end)))))))
unfolding left is_end lookahead_at sees take_token take_lifetime take_mark take_group before first_span rows_for rows run parse_rule
bare_trait_border_24 = not_read bare_trait _ refl

-- `trait trait auto {}`: nothing is read
bare_trait_border_25 : NotDerived (rule bare_trait)
    (leaf (ident w_trait) (at 0 5) (leaf (ident w_trait) (at 6 11) (leaf (ident w_auto) (at 12 16) (group Brace (at 17 18) (at 18 19) end end))))
unfolding left is_end lookahead_at sees take_token take_lifetime take_mark take_group before first_span rows_for rows run parse_rule
bare_trait_border_25 = not_read bare_trait _ refl

-- `auto auto trait T {}`: nothing is read
bare_trait_border_26 : NotDerived (rule bare_trait)
    (leaf (ident w_auto) (at 0 4) (leaf (ident w_auto) (at 5 9) (leaf (ident w_trait) (at 10 15) (leaf (ident (84 ∷ [])) (at 16 17) (group Brace (at 18 19) (at 19 20) end end)))))
unfolding left is_end lookahead_at sees take_token take_lifetime take_mark take_group before first_span rows_for rows run parse_rule
bare_trait_border_26 = not_read bare_trait _ refl

-- `auto trait safe : {}` prints `auto trait safe {}`
bare_trait_border_27 : DerivesAs bare_trait
    (leaf (ident w_auto) (at 0 4) (leaf (ident w_trait) (at 5 10) (leaf (ident w_safe) (at 11 15) (punct 58 false (at 16 17) (group Brace (at 18 19) (at 19 20) end end)))))
    (leaf (ident w_auto) call_site (leaf (ident w_trait) call_site (leaf (ident w_safe) call_site (group Brace call_site call_site end end))))
    (end)
unfolding left is_end lookahead_at sees take_token take_lifetime take_mark take_group before first_span rows_for rows run parse_rule
bare_trait_border_27 = computed bare_trait _ _ _ refl

-- `trait auto unsafe {}`: nothing is read
bare_trait_border_28 : NotDerived (rule bare_trait)
    (leaf (ident w_trait) (at 0 5) (leaf (ident w_auto) (at 6 10) (leaf (ident w_unsafe) (at 11 17) (group Brace (at 18 19) (at 19 20) end end))))
unfolding left is_end lookahead_at sees take_token take_lifetime take_mark take_group before first_span rows_for rows run parse_rule
bare_trait_border_28 = not_read bare_trait _ refl

-- `trait auto where :{}`: nothing is read
bare_trait_border_29 : NotDerived (rule bare_trait)
    (leaf (ident w_trait) (at 0 5) (leaf (ident w_auto) (at 6 10) (leaf (ident w_where) (at 11 16) (punct 58 false (at 17 18) (group Brace (at 18 19) (at 19 20) end end)))))
unfolding left is_end lookahead_at sees take_token take_lifetime take_mark take_group before first_span rows_for rows run parse_rule
bare_trait_border_29 = not_read bare_trait _ refl

-- `trait unsafe auto {}`: nothing is read
bare_trait_border_30 : NotDerived (rule bare_trait)
    (leaf (ident w_trait) (at 0 5) (leaf (ident w_unsafe) (at 6 12) (leaf (ident w_auto) (at 13 17) (group Brace (at 18 19) (at 19 20) end end))))
unfolding left is_end lookahead_at sees take_token take_lifetime take_mark take_group before first_span rows_for rows run parse_rule
bare_trait_border_30 = not_read bare_trait _ refl

-- `auto unsafe safe : {}`: nothing is read
bare_trait_border_31 : NotDerived (rule bare_trait)
    (leaf (ident w_auto) (at 0 4) (leaf (ident w_unsafe) (at 5 11) (leaf (ident w_safe) (at 12 16) (punct 58 false (at 17 18) (group Brace (at 19 20) (at 20 21) end end)))))
unfolding left is_end lookahead_at sees take_token take_lifetime take_mark take_group before first_span rows_for rows run parse_rule
bare_trait_border_31 = not_read bare_trait _ refl

-- `unsafe trait safe trait {}`: nothing is read
bare_trait_border_32 : NotDerived (rule bare_trait)
    (leaf (ident w_unsafe) (at 0 6) (leaf (ident w_trait) (at 7 12) (leaf (ident w_safe) (at 13 17) (leaf (ident w_trait) (at 18 23) (group Brace (at 24 25) (at 25 26) end end)))))
unfolding left is_end lookahead_at sees take_token take_lifetime take_mark take_group before first_span rows_for rows run parse_rule
bare_trait_border_32 = not_read bare_trait _ refl

-- `unsafe auto trait unsafe {}`: nothing is read
bare_trait_border_33 : NotDerived (rule bare_trait)
    (leaf (ident w_unsafe) (at 0 6) (leaf (ident w_auto) (at 7 11) (leaf (ident w_trait) (at 12 17) (leaf (ident w_unsafe) (at 18 24) (group Brace (at 25 26) (at 26 27) end end)))))
unfolding left is_end lookahead_at sees take_token take_lifetime take_mark take_group before first_span rows_for rows run parse_rule
bare_trait_border_33 = not_read bare_trait _ refl

-- `unsafe unsafe trait safe {}`: nothing is read
bare_trait_border_34 : NotDerived (rule bare_trait)
    (leaf (ident w_unsafe) (at 0 6) (leaf (ident w_unsafe) (at 7 13) (leaf (ident w_trait) (at 14 19) (leaf (ident w_safe) (at 20 24) (group Brace (at 25 26) (at 26 27) end end)))))
unfolding left is_end lookahead_at sees take_token take_lifetime take_mark take_group before first_span rows_for rows run parse_rule
bare_trait_border_34 = not_read bare_trait _ refl

-- `unsafe auto trait default :: {}`: nothing is read
bare_trait_border_35 : NotDerived (rule bare_trait)
    (leaf (ident w_unsafe) (at 0 6) (leaf (ident w_auto) (at 7 11) (leaf (ident w_trait) (at 12 17) (leaf (ident w_default) (at 18 25) (punct 58 true (at 26 27) (punct 58 false (at 27 28) (group Brace (at 29 30) (at 30 31) end end)))))))
unfolding left is_end lookahead_at sees take_token take_lifetime take_mark take_group before first_span rows_for rows run parse_rule
bare_trait_border_35 = not_read bare_trait _ refl

-- `unsafe auto trait a < b >: b c where d : e {#! [f] fn g () ;}`: nothing is read
bare_trait_border_36 : NotDerived (rule bare_trait)
    (leaf (ident w_unsafe) (at 0 6) (leaf (ident w_auto) (at 7 11) (leaf (ident w_trait) (at 12 17) (leaf (ident (97 ∷ [])) (at 18 19) (punct 60 false (at 20 21) (leaf (ident (98 ∷ [])) (at 22 23) (punct 62 true (at 24 25) (punct 58 false (at 25 26) (leaf (ident (98 ∷ [])) (at 27 28) (leaf (ident (99 ∷ [])) (at 29 30) (leaf (ident w_where) (at 31 36) (leaf (ident (100 ∷ [])) (at 37 38) (punct 58 false (at 39 40) (leaf (ident (101 ∷ [])) (at 41 42) (group Brace (at 43 44) (at 60 61) (punct 35 true (at 44 45) (punct 33 false (at 45 46) (group Bracket (at 47 48) (at 49 50) (leaf (ident (102 ∷ [])) (at 48 49) end) (leaf (ident w_fn) (at 51 53) (leaf (ident (103 ∷ [])) (at 54 55) (group Paren (at 56 57) (at 57 58) end (punct 59 false (at 59 60) end))))))) end)))))))))))))))
unfolding left is_end lookahead_at sees take_token take_lifetime take_mark take_group before first_span rows_for rows run parse_rule
bare_trait_border_36 = not_read bare_trait _ refl

-- `unsafe auto trait a < b >: c where d : e where {#! [f] fn g () ;}`: nothing is read
bare_trait_border_37 : NotDerived (rule bare_trait)
    (leaf (ident w_unsafe) (at 0 6) (leaf (ident w_auto) (at 7 11) (leaf (ident w_trait) (at 12 17) (leaf (ident (97 ∷ [])) (at 18 19) (punct 60 false (at 20 21) (leaf (ident (98 ∷ [])) (at 22 23) (punct 62 true (at 24 25) (punct 58 false (at 25 26) (leaf (ident (99 ∷ [])) (at 27 28) (leaf (ident w_where) (at 29 34) (leaf (ident (100 ∷ [])) (at 35 36) (punct 58 false (at 37 38) (leaf (ident (101 ∷ [])) (at 39 40) (leaf (ident w_where) (at 41 46) (group Brace (at 47 48) (at 64 65) (punct 35 true (at 48 49) (punct 33 false (at 49 50) (group Bracket (at 51 52) (at 53 54) (leaf (ident (102 ∷ [])) (at 52 53) end) (leaf (ident w_fn) (at 55 57) (leaf (ident (103 ∷ [])) (at 58 59) (group Paren (at 60 61) (at 61 62) end (punct 59 false (at 63 64) end))))))) end)))))))))))))))
unfolding left is_end lookahead_at sees take_token take_lifetime take_mark take_group before first_span rows_for rows run parse_rule
bare_trait_border_37 = not_read bare_trait _ refl

-- `Self trait auto = ;`: nothing is read
const_alias_border_1 : NotDerived (rule const_alias)
    (leaf (ident w_Self_type) (at 0 4) (leaf (ident w_trait) (at 5 10) (leaf (ident w_auto) (at 11 15) (punct 61 false (at 16 17) (punct 59 false (at 18 19) end)))))
unfolding left is_end lookahead_at sees take_token take_lifetime take_mark take_group before rows_for rows run parse_rule
const_alias_border_1 = not_read const_alias _ refl

-- `const pub trait auto = ;`: nothing is read
const_alias_border_2 : NotDerived (rule const_alias)
    (leaf (ident w_const) (at 0 5) (leaf (ident w_pub) (at 6 9) (leaf (ident w_trait) (at 10 15) (leaf (ident w_auto) (at 16 20) (punct 61 false (at 21 22) (punct 59 false (at 23 24) end))))))
unfolding left is_end lookahead_at sees take_token take_lifetime take_mark take_group before rows_for rows run parse_rule
const_alias_border_2 = not_read const_alias _ refl

-- `const const trait auto = ;`: nothing is read
const_alias_border_3 : NotDerived (rule const_alias)
    (leaf (ident w_const) (at 0 5) (leaf (ident w_const) (at 6 11) (leaf (ident w_trait) (at 12 17) (leaf (ident w_auto) (at 18 22) (punct 61 false (at 23 24) (punct 59 false (at 25 26) end))))))
unfolding left is_end lookahead_at sees take_token take_lifetime take_mark take_group before rows_for rows run parse_rule
const_alias_border_3 = not_read const_alias _ refl

-- `pub pub const trait a = b ;`: nothing is read
const_alias_border_4 : NotDerived (rule const_alias)
    (leaf (ident w_pub) (at 0 3) (leaf (ident w_pub) (at 4 7) (leaf (ident w_const) (at 8 13) (leaf (ident w_trait) (at 14 19) (leaf (ident (97 ∷ [])) (at 20 21) (punct 61 false (at 22 23) (leaf (ident (98 ∷ [])) (at 24 25) (punct 59 false (at 26 27) end))))))))
unfolding left is_end lookahead_at sees take_token take_lifetime take_mark take_group before rows_for rows run parse_rule
const_alias_border_4 = not_read const_alias _ refl

-- `trait auto = ; const trait auto = ;`: nothing is read
const_alias_border_5 : NotDerived (rule const_alias)
    (leaf (ident w_trait) (at 0 5) (leaf (ident w_auto) (at 6 10) (punct 61 false (at 11 12) (punct 59 false (at 13 14) (leaf (ident w_const) (at 15 20) (leaf (ident w_trait) (at 21 26) (leaf (ident w_auto) (at 27 31) (punct 61 false (at 32 33) (punct 59 false (at 34 35) end)))))))))
unfolding left is_end lookahead_at sees take_token take_lifetime take_mark take_group before rows_for rows run parse_rule
const_alias_border_5 = not_read const_alias _ refl

-- `(crate) trait a {}`: nothing is read
restricted_trait_border_1 : NotDerived (rule restricted_trait)
    (group Paren (at 0 1) (at 6 7) (leaf (ident w_crate) (at 1 6) end) (leaf (ident w_trait) (at 8 13) (leaf (ident (97 ∷ [])) (at 14 15) (group Brace (at 16 17) (at 17 18) end end))))
unfolding left is_end lookahead_at sees take_token take_lifetime take_mark take_group before first_span rows_for rows run parse_rule
restricted_trait_border_1 = not_read restricted_trait _ refl

-- `impl (Self) trait a {}`: nothing is read
restricted_trait_border_2 : NotDerived (rule restricted_trait)
    (leaf (ident w_impl) (at 0 4) (group Paren (at 5 6) (at 10 11) (leaf (ident w_Self_type) (at 6 10) end) (leaf (ident w_trait) (at 12 17) (leaf (ident (97 ∷ [])) (at 18 19) (group Brace (at 20 21) (at 21 22) end end)))))
unfolding left is_end lookahead_at sees take_token take_lifetime take_mark take_group before first_span rows_for rows run parse_rule
restricted_trait_border_2 = not_read restricted_trait _ refl

-- `const (self) trait union {}`: nothing is read
restricted_trait_border_3 : NotDerived (rule restricted_trait)
    (leaf (ident w_const) (at 0 5) (group Paren (at 6 7) (at 11 12) (leaf (ident w_self) (at 7 11) end) (leaf (ident w_trait) (at 13 18) (leaf (ident w_union) (at 19 24) (group Brace (at 25 26) (at 26 27) end end)))))
unfolding left is_end lookahead_at sees take_token take_lifetime take_mark take_group before first_span rows_for rows run parse_rule
restricted_trait_border_3 = not_read restricted_trait _ refl

-- `impl (crate) pub trait a {}`: nothing is read
restricted_trait_border_4 : NotDerived (rule restricted_trait)
    (leaf (ident w_impl) (at 0 4) (group Paren (at 5 6) (at 11 12) (leaf (ident w_crate) (at 6 11) end) (leaf (ident w_pub) (at 13 16) (leaf (ident w_trait) (at 17 22) (leaf (ident (97 ∷ [])) (at 23 24) (group Brace (at 25 26) (at 26 27) end end))))))
unfolding left is_end lookahead_at sees take_token take_lifetime take_mark take_group before first_span rows_for rows run parse_rule
restricted_trait_border_4 = not_read restricted_trait _ refl

-- `impl impl (crate) trait a {}`: nothing is read
restricted_trait_border_5 : NotDerived (rule restricted_trait)
    (leaf (ident w_impl) (at 0 4) (leaf (ident w_impl) (at 5 9) (group Paren (at 10 11) (at 16 17) (leaf (ident w_crate) (at 11 16) end) (leaf (ident w_trait) (at 18 23) (leaf (ident (97 ∷ [])) (at 24 25) (group Brace (at 26 27) (at 27 28) end end))))))
unfolding left is_end lookahead_at sees take_token take_lifetime take_mark take_group before first_span rows_for rows run parse_rule
restricted_trait_border_5 = not_read restricted_trait _ refl

-- `const impl (crate) trait a {}`: nothing is read
restricted_trait_border_6 : NotDerived (rule restricted_trait)
    (leaf (ident w_const) (at 0 5) (leaf (ident w_impl) (at 6 10) (group Paren (at 11 12) (at 17 18) (leaf (ident w_crate) (at 12 17) end) (leaf (ident w_trait) (at 19 24) (leaf (ident (97 ∷ [])) (at 25 26) (group Brace (at 27 28) (at 28 29) end end))))))
unfolding left is_end lookahead_at sees take_token take_lifetime take_mark take_group before first_span rows_for rows run parse_rule
restricted_trait_border_6 = not_read restricted_trait _ refl

-- `impl const (crate) trait a {}`: nothing is read
restricted_trait_border_7 : NotDerived (rule restricted_trait)
    (leaf (ident w_impl) (at 0 4) (leaf (ident w_const) (at 5 10) (group Paren (at 11 12) (at 17 18) (leaf (ident w_crate) (at 12 17) end) (leaf (ident w_trait) (at 19 24) (leaf (ident (97 ∷ [])) (at 25 26) (group Brace (at 27 28) (at 28 29) end end))))))
unfolding left is_end lookahead_at sees take_token take_lifetime take_mark take_group before first_span rows_for rows run parse_rule
restricted_trait_border_7 = not_read restricted_trait _ refl

-- `impl (crate) (crate) trait a {}`: nothing is read
restricted_trait_border_8 : NotDerived (rule restricted_trait)
    (leaf (ident w_impl) (at 0 4) (group Paren (at 5 6) (at 11 12) (leaf (ident w_crate) (at 6 11) end) (group Paren (at 13 14) (at 19 20) (leaf (ident w_crate) (at 14 19) end) (leaf (ident w_trait) (at 21 26) (leaf (ident (97 ∷ [])) (at 27 28) (group Brace (at 29 30) (at 30 31) end end))))))
unfolding left is_end lookahead_at sees take_token take_lifetime take_mark take_group before first_span rows_for rows run parse_rule
restricted_trait_border_8 = not_read restricted_trait _ refl

-- `impl \(\) (super) trait union {}`: nothing is read
restricted_trait_border_9 : NotDerived (rule restricted_trait)
    (leaf (ident w_impl) (at 0 4) (group None (at 5 7) (at 7 9) end (group Paren (at 10 11) (at 16 17) (leaf (ident w_super) (at 11 16) end) (leaf (ident w_trait) (at 18 23) (leaf (ident w_union) (at 24 29) (group Brace (at 30 31) (at 31 32) end end))))))
unfolding left is_end lookahead_at sees take_token take_lifetime take_mark take_group before first_span rows_for rows run parse_rule
restricted_trait_border_9 = not_read restricted_trait _ refl

-- `impl (self) auto trait default {}` prints `impl (self) auto trait default {}`
restricted_trait_border_10 : DerivesAs restricted_trait
    (leaf (ident w_impl) (at 0 4) (group Paren (at 5 6) (at 10 11) (leaf (ident w_self) (at 6 10) end) (leaf (ident w_auto) (at 12 16) (leaf (ident w_trait) (at 17 22) (leaf (ident w_default) (at 23 30) (group Brace (at 31 32) (at 32 33) end end))))))
    (leaf (ident w_impl) call_site (group Paren call_site call_site (leaf (ident w_self) call_site end) (leaf (ident w_auto) call_site (leaf (ident w_trait) call_site (leaf (ident w_default) call_site (group Brace call_site call_site end end))))))
    (end)
unfolding left is_end lookahead_at sees take_token take_lifetime take_mark take_group before first_span rows_for rows run parse_rule
restricted_trait_border_10 = computed restricted_trait _ _ _ refl

-- `(super) impl (self) trait union {}`: nothing is read
restricted_trait_border_11 : NotDerived (rule restricted_trait)
    (group Paren (at 0 1) (at 6 7) (leaf (ident w_super) (at 1 6) end) (leaf (ident w_impl) (at 8 12) (group Paren (at 13 14) (at 18 19) (leaf (ident w_self) (at 14 18) end) (leaf (ident w_trait) (at 20 25) (leaf (ident w_union) (at 26 31) (group Brace (at 32 33) (at 33 34) end end))))))
unfolding left is_end lookahead_at sees take_token take_lifetime take_mark take_group before first_span rows_for rows run parse_rule
restricted_trait_border_11 = not_read restricted_trait _ refl

-- `\(\) pub impl (self) trait union {}`: nothing is read
restricted_trait_border_12 : NotDerived (rule restricted_trait)
    (group None (at 0 2) (at 2 4) end (leaf (ident w_pub) (at 5 8) (leaf (ident w_impl) (at 9 13) (group Paren (at 14 15) (at 19 20) (leaf (ident w_self) (at 15 19) end) (leaf (ident w_trait) (at 21 26) (leaf (ident w_union) (at 27 32) (group Brace (at 33 34) (at 34 35) end end)))))))
unfolding left is_end lookahead_at sees take_token take_lifetime take_mark take_group before first_span rows_for rows run parse_rule
restricted_trait_border_12 = not_read restricted_trait _ refl

-- `impl (in super) impl trait union {}`: nothing is read
restricted_trait_border_13 : NotDerived (rule restricted_trait)
    (leaf (ident w_impl) (at 0 4) (group Paren (at 5 6) (at 14 15) (leaf (ident w_in) (at 6 8) (leaf (ident w_super) (at 9 14) end)) (leaf (ident w_impl) (at 16 20) (leaf (ident w_trait) (at 21 26) (leaf (ident w_union) (at 27 32) (group Brace (at 33 34) (at 34 35) end end))))))
unfolding left is_end lookahead_at sees take_token take_lifetime take_mark take_group before first_span rows_for rows run parse_rule
restricted_trait_border_13 = not_read restricted_trait _ refl

-- `impl (crate) const const trait safe {}`: nothing is read
restricted_trait_border_14 : NotDerived (rule restricted_trait)
    (leaf (ident w_impl) (at 0 4) (group Paren (at 5 6) (at 11 12) (leaf (ident w_crate) (at 6 11) end) (leaf (ident w_const) (at 13 18) (leaf (ident w_const) (at 19 24) (leaf (ident w_trait) (at 25 30) (leaf (ident w_safe) (at 31 35) (group Brace (at 36 37) (at 37 38) end end)))))))
unfolding left is_end lookahead_at sees take_token take_lifetime take_mark take_group before first_span rows_for rows run parse_rule
restricted_trait_border_14 = not_read restricted_trait _ refl

-- `trait union {} impl (self) trait safe {}`: nothing is read
restricted_trait_border_15 : NotDerived (rule restricted_trait)
    (leaf (ident w_trait) (at 0 5) (leaf (ident w_union) (at 6 11) (group Brace (at 12 13) (at 13 14) end (leaf (ident w_impl) (at 15 19) (group Paren (at 20 21) (at 25 26) (leaf (ident w_self) (at 21 25) end) (leaf (ident w_trait) (at 27 32) (leaf (ident w_safe) (at 33 37) (group Brace (at 38 39) (at 39 40) end end))))))))
unfolding left is_end lookahead_at sees take_token take_lifetime take_mark take_group before first_span rows_for rows run parse_rule
restricted_trait_border_15 = not_read restricted_trait _ refl

-- `impl trait auto {} (super) const trait safe {}`: nothing is read
restricted_trait_border_16 : NotDerived (rule restricted_trait)
    (leaf (ident w_impl) (at 0 4) (leaf (ident w_trait) (at 5 10) (leaf (ident w_auto) (at 11 15) (group Brace (at 16 17) (at 17 18) end (group Paren (at 19 20) (at 25 26) (leaf (ident w_super) (at 20 25) end) (leaf (ident w_const) (at 27 32) (leaf (ident w_trait) (at 33 38) (leaf (ident w_safe) (at 39 43) (group Brace (at 44 45) (at 45 46) end end)))))))))
unfolding left is_end lookahead_at sees take_token take_lifetime take_mark take_group before first_span rows_for rows run parse_rule
restricted_trait_border_16 = not_read restricted_trait _ refl

-- `pub impl (in a :: b b) const unsafe trait c {}`: nothing is read
restricted_trait_border_17 : NotDerived (rule restricted_trait)
    (leaf (ident w_pub) (at 0 3) (leaf (ident w_impl) (at 4 8) (group Paren (at 9 10) (at 21 22) (leaf (ident w_in) (at 10 12) (leaf (ident (97 ∷ [])) (at 13 14) (punct 58 true (at 15 16) (punct 58 false (at 16 17) (leaf (ident (98 ∷ [])) (at 18 19) (leaf (ident (98 ∷ [])) (at 20 21) end)))))) (leaf (ident w_const) (at 23 28) (leaf (ident w_unsafe) (at 29 35) (leaf (ident w_trait) (at 36 41) (leaf (ident (99 ∷ [])) (at 42 43) (group Brace (at 44 45) (at 45 46) end end))))))))
unfolding left is_end lookahead_at sees take_token take_lifetime take_mark take_group before first_span rows_for rows run parse_rule
restricted_trait_border_17 = not_read restricted_trait _ refl

-- `fn a () ,`: nothing is read
bare_trait_function_border_1 : NotDerived (rule bare_trait_function)
    (leaf (ident w_fn) (at 0 2) (leaf (ident (97 ∷ [])) (at 3 4) (group Paren (at 5 6) (at 6 7) end (punct 44 false (at 8 9) end))))
unfolding left is_end lookahead_at sees take_token take_lifetime take_mark take_group before first_span rows_for rows run parse_rule
bare_trait_function_border_1 = not_read bare_trait_function _ refl

-- `; fn a () ;`: nothing is read
bare_trait_function_border_2 : NotDerived (rule bare_trait_function)
    (punct 59 false (at 0 1) (leaf (ident w_fn) (at 2 4) (leaf (ident (97 ∷ [])) (at 5 6) (group Paren (at 7 8) (at 8 9) end (punct 59 false (at 10 11) end)))))
unfolding left is_end lookahead_at sees take_token take_lifetime take_mark take_group before first_span rows_for rows run parse_rule
bare_trait_function_border_2 = not_read bare_trait_function _ refl

-- `unsafe fn union () fn safe () ;`: nothing is read
bare_trait_function_border_3 : NotDerived (rule bare_trait_function)
    (leaf (ident w_unsafe) (at 0 6) (leaf (ident w_fn) (at 7 9) (leaf (ident w_union) (at 10 15) (group Paren (at 16 17) (at 17 18) end (leaf (ident w_fn) (at 19 21) (leaf (ident w_safe) (at 22 26) (group Paren (at 27 28) (at 28 29) end (punct 59 false (at 30 31) end))))))))
unfolding left is_end lookahead_at sees take_token take_lifetime take_mark take_group before first_span rows_for rows run parse_rule
bare_trait_function_border_3 = not_read bare_trait_function _ refl

-- `auto ;`: nothing is read
bare_trait_type_border_1 : NotDerived (rule bare_trait_type)
    (leaf (ident w_auto) (at 0 4) (punct 59 false (at 5 6) end))
unfolding left is_end lookahead_at sees take_token take_lifetime take_mark take_group before rows_for rows run parse_rule
bare_trait_type_border_1 = not_read bare_trait_type _ refl

-- `type 1 ;`: nothing is read
bare_trait_type_border_2 : NotDerived (rule bare_trait_type)
    (leaf (ident w_type) (at 0 4) (leaf (literal Int (49 ∷ [])) (at 5 6) (punct 59 false (at 7 8) end)))
unfolding left is_end lookahead_at sees take_token take_lifetime take_mark take_group before rows_for rows run parse_rule
bare_trait_type_border_2 = not_read bare_trait_type _ refl

-- `type _ ;`: nothing is read
bare_trait_type_border_3 : NotDerived (rule bare_trait_type)
    (leaf (ident w_type) (at 0 4) (leaf (ident w_underscore) (at 5 6) (punct 59 false (at 7 8) end)))
unfolding left is_end lookahead_at sees take_token take_lifetime take_mark take_group before rows_for rows run parse_rule
bare_trait_type_border_3 = not_read bare_trait_type _ refl

-- `type fn ;`: nothing is read
bare_trait_type_border_4 : NotDerived (rule bare_trait_type)
    (leaf (ident w_type) (at 0 4) (leaf (ident w_fn) (at 5 7) (punct 59 false (at 8 9) end)))
unfolding left is_end lookahead_at sees take_token take_lifetime take_mark take_group before rows_for rows run parse_rule
bare_trait_type_border_4 = not_read bare_trait_type _ refl

-- `Self auto ;`: nothing is read
bare_trait_type_border_5 : NotDerived (rule bare_trait_type)
    (leaf (ident w_Self_type) (at 0 4) (leaf (ident w_auto) (at 5 9) (punct 59 false (at 10 11) end)))
unfolding left is_end lookahead_at sees take_token take_lifetime take_mark take_group before rows_for rows run parse_rule
bare_trait_type_border_5 = not_read bare_trait_type _ refl

-- `type Self ;`: nothing is read
bare_trait_type_border_6 : NotDerived (rule bare_trait_type)
    (leaf (ident w_type) (at 0 4) (leaf (ident w_Self_type) (at 5 9) (punct 59 false (at 10 11) end)))
unfolding left is_end lookahead_at sees take_token take_lifetime take_mark take_group before rows_for rows run parse_rule
bare_trait_type_border_6 = not_read bare_trait_type _ refl

-- `type auto ,`: nothing is read
bare_trait_type_border_7 : NotDerived (rule bare_trait_type)
    (leaf (ident w_type) (at 0 4) (leaf (ident w_auto) (at 5 9) (punct 44 false (at 10 11) end)))
unfolding left is_end lookahead_at sees take_token take_lifetime take_mark take_group before rows_for rows run parse_rule
bare_trait_type_border_7 = not_read bare_trait_type _ refl

-- `type self ;`: nothing is read
bare_trait_type_border_8 : NotDerived (rule bare_trait_type)
    (leaf (ident w_type) (at 0 4) (leaf (ident w_self) (at 5 9) (punct 59 false (at 10 11) end)))
unfolding left is_end lookahead_at sees take_token take_lifetime take_mark take_group before rows_for rows run parse_rule
bare_trait_type_border_8 = not_read bare_trait_type _ refl

-- `type crate ;`: nothing is read
bare_trait_type_border_9 : NotDerived (rule bare_trait_type)
    (leaf (ident w_type) (at 0 4) (leaf (ident w_crate) (at 5 10) (punct 59 false (at 11 12) end)))
unfolding left is_end lookahead_at sees take_token take_lifetime take_mark take_group before rows_for rows run parse_rule
bare_trait_type_border_9 = not_read bare_trait_type _ refl

-- `type super ;`: nothing is read
bare_trait_type_border_10 : NotDerived (rule bare_trait_type)
    (leaf (ident w_type) (at 0 4) (leaf (ident w_super) (at 5 10) (punct 59 false (at 11 12) end)))
unfolding left is_end lookahead_at sees take_token take_lifetime take_mark take_group before rows_for rows run parse_rule
bare_trait_type_border_10 = not_read bare_trait_type _ refl

-- `; type auto ;`: nothing is read
bare_trait_type_border_11 : NotDerived (rule bare_trait_type)
    (punct 59 false (at 0 1) (leaf (ident w_type) (at 2 6) (leaf (ident w_auto) (at 7 11) (punct 59 false (at 12 13) end))))
unfolding left is_end lookahead_at sees take_token take_lifetime take_mark take_group before rows_for rows run parse_rule
bare_trait_type_border_11 = not_read bare_trait_type _ refl

-- `b type auto ;`: nothing is read
bare_trait_type_border_12 : NotDerived (rule bare_trait_type)
    (leaf (ident (98 ∷ [])) (at 0 1) (leaf (ident w_type) (at 2 6) (leaf (ident w_auto) (at 7 11) (punct 59 false (at 12 13) end))))
unfolding left is_end lookahead_at sees take_token take_lifetime take_mark take_group before rows_for rows run parse_rule
bare_trait_type_border_12 = not_read bare_trait_type _ refl

-- `type ; auto ;`: nothing is read
bare_trait_type_border_13 : NotDerived (rule bare_trait_type)
    (leaf (ident w_type) (at 0 4) (punct 59 false (at 5 6) (leaf (ident w_auto) (at 7 11) (punct 59 false (at 12 13) end))))
unfolding left is_end lookahead_at sees take_token take_lifetime take_mark take_group before rows_for rows run parse_rule
bare_trait_type_border_13 = not_read bare_trait_type _ refl

-- `type auto = ;`: nothing is read
bare_trait_type_border_14 : NotDerived (rule bare_trait_type)
    (leaf (ident w_type) (at 0 4) (leaf (ident w_auto) (at 5 9) (punct 61 false (at 10 11) (punct 59 false (at 12 13) end))))
unfolding left is_end lookahead_at sees take_token take_lifetime take_mark take_group before rows_for rows run parse_rule
bare_trait_type_border_14 = not_read bare_trait_type _ refl

-- `type safe ::;`: nothing is read
bare_trait_type_border_15 : NotDerived (rule bare_trait_type)
    (leaf (ident w_type) (at 0 4) (leaf (ident w_safe) (at 5 9) (punct 58 true (at 10 11) (punct 58 true (at 11 12) (punct 59 false (at 12 13) end)))))
unfolding left is_end lookahead_at sees take_token take_lifetime take_mark take_group before rows_for rows run parse_rule
bare_trait_type_border_15 = not_read bare_trait_type _ refl

-- `type type : ;`: nothing is read
bare_trait_type_border_16 : NotDerived (rule bare_trait_type)
    (leaf (ident w_type) (at 0 4) (leaf (ident w_type) (at 5 9) (punct 58 false (at 10 11) (punct 59 false (at 12 13) end))))
unfolding left is_end lookahead_at sees take_token take_lifetime take_mark take_group before rows_for rows run parse_rule
bare_trait_type_border_16 = not_read bare_trait_type _ refl

-- `: c type auto ;`: nothing is read
bare_trait_type_border_17 : NotDerived (rule bare_trait_type)
    (punct 58 false (at 0 1) (leaf (ident (99 ∷ [])) (at 2 3) (leaf (ident w_type) (at 4 8) (leaf (ident w_auto) (at 9 13) (punct 59 false (at 14 15) end)))))
unfolding left is_end lookahead_at sees take_token take_lifetime take_mark take_group before rows_for rows run parse_rule
bare_trait_type_border_17 = not_read bare_trait_type _ refl

-- `< > type auto ;`: nothing is read
bare_trait_type_border_18 : NotDerived (rule bare_trait_type)
    (punct 60 false (at 0 1) (punct 62 false (at 2 3) (leaf (ident w_type) (at 4 8) (leaf (ident w_auto) (at 9 13) (punct 59 false (at 14 15) end)))))
unfolding left is_end lookahead_at sees take_token take_lifetime take_mark take_group before rows_for rows run parse_rule
bare_trait_type_border_18 = not_read bare_trait_type _ refl

-- `= c type auto ;`: nothing is read
bare_trait_type_border_19 : NotDerived (rule bare_trait_type)
    (punct 61 false (at 0 1) (leaf (ident (99 ∷ [])) (at 2 3) (leaf (ident w_type) (at 4 8) (leaf (ident w_auto) (at 9 13) (punct 59 false (at 14 15) end)))))
unfolding left is_end lookahead_at sees take_token take_lifetime take_mark take_group before rows_for rows run parse_rule
bare_trait_type_border_19 = not_read bare_trait_type _ refl

-- `type : c auto ;`: nothing is read
bare_trait_type_border_20 : NotDerived (rule bare_trait_type)
    (leaf (ident w_type) (at 0 4) (punct 58 false (at 5 6) (leaf (ident (99 ∷ [])) (at 7 8) (leaf (ident w_auto) (at 9 13) (punct 59 false (at 14 15) end)))))
unfolding left is_end lookahead_at sees take_token take_lifetime take_mark take_group before rows_for rows run parse_rule
bare_trait_type_border_20 = not_read bare_trait_type _ refl

-- `type < > auto ;`: nothing is read
bare_trait_type_border_21 : NotDerived (rule bare_trait_type)
    (leaf (ident w_type) (at 0 4) (punct 60 false (at 5 6) (punct 62 false (at 7 8) (leaf (ident w_auto) (at 9 13) (punct 59 false (at 14 15) end)))))
unfolding left is_end lookahead_at sees take_token take_lifetime take_mark take_group before rows_for rows run parse_rule
bare_trait_type_border_21 = not_read bare_trait_type _ refl

-- `type = c auto ;`: nothing is read
bare_trait_type_border_22 : NotDerived (rule bare_trait_type)
    (leaf (ident w_type) (at 0 4) (punct 61 false (at 5 6) (leaf (ident (99 ∷ [])) (at 7 8) (leaf (ident w_auto) (at 9 13) (punct 59 false (at 14 15) end)))))
unfolding left is_end lookahead_at sees take_token take_lifetime take_mark take_group before rows_for rows run parse_rule
bare_trait_type_border_22 = not_read bare_trait_type _ refl

-- `type auto ==! ;`: nothing is read
bare_trait_type_border_23 : NotDerived (rule bare_trait_type)
    (leaf (ident w_type) (at 0 4) (leaf (ident w_auto) (at 5 9) (punct 61 true (at 10 11) (punct 61 true (at 11 12) (punct 33 false (at 12 13) (punct 59 false (at 14 15) end))))))
unfolding left is_end lookahead_at sees take_token take_lifetime take_mark take_group before rows_for rows run parse_rule
bare_trait_type_border_23 = not_read bare_trait_type _ refl

-- `type auto auto ;`: nothing is read
bare_trait_type_border_24 : NotDerived (rule bare_trait_type)
    (leaf (ident w_type) (at 0 4) (leaf (ident w_auto) (at 5 9) (leaf (ident w_auto) (at 10 14) (punct 59 false (at 15 16) end))))
unfolding left is_end lookahead_at sees take_token take_lifetime take_mark take_group before rows_for rows run parse_rule
bare_trait_type_border_24 = not_read bare_trait_type _ refl

-- `type safe type ;`: nothing is read
bare_trait_type_border_25 : NotDerived (rule bare_trait_type)
    (leaf (ident w_type) (at 0 4) (leaf (ident w_safe) (at 5 9) (leaf (ident w_type) (at 10 14) (punct 59 false (at 15 16) end))))
unfolding left is_end lookahead_at sees take_token take_lifetime take_mark take_group before rows_for rows run parse_rule
bare_trait_type_border_25 = not_read bare_trait_type _ refl

-- `type type auto ;`: nothing is read
bare_trait_type_border_26 : NotDerived (rule bare_trait_type)
    (leaf (ident w_type) (at 0 4) (leaf (ident w_type) (at 5 9) (leaf (ident w_auto) (at 10 14) (punct 59 false (at 15 16) end))))
unfolding left is_end lookahead_at sees take_token take_lifetime take_mark take_group before rows_for rows run parse_rule
bare_trait_type_border_26 = not_read bare_trait_type _ refl

-- `type auto : c : ;`: nothing is read
bare_trait_type_border_27 : NotDerived (rule bare_trait_type)
    (leaf (ident w_type) (at 0 4) (leaf (ident w_auto) (at 5 9) (punct 58 false (at 10 11) (leaf (ident (99 ∷ [])) (at 12 13) (punct 58 false (at 14 15) (punct 59 false (at 16 17) end))))))
unfolding left is_end lookahead_at sees take_token take_lifetime take_mark take_group before rows_for rows run parse_rule
bare_trait_type_border_27 = not_read bare_trait_type _ refl

-- `type auto < > < > ;`: nothing is read
bare_trait_type_border_28 : NotDerived (rule bare_trait_type)
    (leaf (ident w_type) (at 0 4) (leaf (ident w_auto) (at 5 9) (punct 60 false (at 10 11) (punct 62 false (at 12 13) (punct 60 false (at 14 15) (punct 62 false (at 16 17) (punct 59 false (at 18 19) end)))))))
unfolding left is_end lookahead_at sees take_token take_lifetime take_mark take_group before rows_for rows run parse_rule
bare_trait_type_border_28 = not_read bare_trait_type _ refl

-- `type auto = b safe ;`: nothing is read
bare_trait_type_border_29 : NotDerived (rule bare_trait_type)
    (leaf (ident w_type) (at 0 4) (leaf (ident w_auto) (at 5 9) (punct 61 false (at 10 11) (leaf (ident (98 ∷ [])) (at 12 13) (leaf (ident w_safe) (at 14 18) (punct 59 false (at 19 20) end))))))
unfolding left is_end lookahead_at sees take_token take_lifetime take_mark take_group before rows_for rows run parse_rule
bare_trait_type_border_29 = not_read bare_trait_type _ refl

-- `type auto = c = safe ;`: nothing is read
bare_trait_type_border_30 : NotDerived (rule bare_trait_type)
    (leaf (ident w_type) (at 0 4) (leaf (ident w_auto) (at 5 9) (punct 61 false (at 10 11) (leaf (ident (99 ∷ [])) (at 12 13) (punct 61 false (at 14 15) (leaf (ident w_safe) (at 16 20) (punct 59 false (at 21 22) end)))))))
unfolding left is_end lookahead_at sees take_token take_lifetime take_mark take_group before rows_for rows run parse_rule
bare_trait_type_border_30 = not_read bare_trait_type _ refl

-- `type a < b >: c d where e : f ;`: nothing is read
bare_trait_type_border_31 : NotDerived (rule bare_trait_type)
    (leaf (ident w_type) (at 0 4) (leaf (ident (97 ∷ [])) (at 5 6) (punct 60 false (at 7 8) (leaf (ident (98 ∷ [])) (at 9 10) (punct 62 true (at 11 12) (punct 58 false (at 12 13) (leaf (ident (99 ∷ [])) (at 14 15) (leaf (ident (100 ∷ [])) (at 16 17) (leaf (ident w_where) (at 18 23) (leaf (ident (101 ∷ [])) (at 24 25) (punct 58 false (at 26 27) (leaf (ident (102 ∷ [])) (at 28 29) (punct 59 false (at 30 31) end)))))))))))))
unfolding left is_end lookahead_at sees take_token take_lifetime take_mark take_group before rows_for rows run parse_rule
bare_trait_type_border_31 = not_read bare_trait_type _ refl

-- `type union : = default = where ;`: nothing is read
bare_trait_type_border_32 : NotDerived (rule bare_trait_type)
    (leaf (ident w_type) (at 0 4) (leaf (ident w_union) (at 5 10) (punct 58 false (at 11 12) (punct 61 false (at 13 14) (leaf (ident w_default) (at 15 22) (punct 61 false (at 23 24) (leaf (ident w_where) (at 25 30) (punct 59 false (at 31 32) end))))))))
unfolding left is_end lookahead_at sees take_token take_lifetime take_mark take_group before rows_for rows run parse_rule
bare_trait_type_border_32 = not_read bare_trait_type _ refl

-- `type a < b >: c = d where e : f where ;`: nothing is read
bare_trait_type_border_33 : NotDerived (rule bare_trait_type)
    (leaf (ident w_type) (at 0 4) (leaf (ident (97 ∷ [])) (at 5 6) (punct 60 false (at 7 8) (leaf (ident (98 ∷ [])) (at 9 10) (punct 62 true (at 11 12) (punct 58 false (at 12 13) (leaf (ident (99 ∷ [])) (at 14 15) (punct 61 false (at 16 17) (leaf (ident (100 ∷ [])) (at 18 19) (leaf (ident w_where) (at 20 25) (leaf (ident (101 ∷ [])) (at 26 27) (punct 58 false (at 28 29) (leaf (ident (102 ∷ [])) (at 30 31) (leaf (ident w_where) (at 32 37) (punct 59 false (at 38 39) end)))))))))))))))
unfolding left is_end lookahead_at sees take_token take_lifetime take_mark take_group before rows_for rows run parse_rule
bare_trait_type_border_33 = not_read bare_trait_type _ refl

-- `pub fn a () ;` prints `pub fn a () ;`
marked_member_border_1 : DerivesAs marked_member
    (leaf (ident w_pub) (at 0 3) (leaf (ident w_fn) (at 4 6) (leaf (ident (97 ∷ [])) (at 7 8) (group Paren (at 9 10) (at 10 11) end (punct 59 false (at 12 13) end)))))
    (leaf (ident w_pub) call_site (leaf (ident w_fn) call_site (leaf (ident (97 ∷ [])) call_site (group Paren call_site call_site end (punct 59 false call_site end)))))
    (end)
unfolding left is_end lookahead_at sees take_token take_lifetime take_mark take_group before first_span rows_for rows run parse_rule
marked_member_border_1 = computed marked_member _ _ _ refl

-- `default pub type a ;`: nothing is read
marked_member_border_2 : NotDerived (rule marked_member)
    (leaf (ident w_default) (at 0 7) (leaf (ident w_pub) (at 8 11) (leaf (ident w_type) (at 12 16) (leaf (ident (97 ∷ [])) (at 17 18) (punct 59 false (at 19 20) end)))))
unfolding left is_end lookahead_at sees take_token take_lifetime take_mark take_group before first_span rows_for rows run parse_rule
marked_member_border_2 = not_read marked_member _ refl

-- `pub default type a ;` prints `pub default type a ;`
marked_member_border_3 : DerivesAs marked_member
    (leaf (ident w_pub) (at 0 3) (leaf (ident w_default) (at 4 11) (leaf (ident w_type) (at 12 16) (leaf (ident (97 ∷ [])) (at 17 18) (punct 59 false (at 19 20) end)))))
    (leaf (ident w_pub) call_site (leaf (ident w_default) call_site (leaf (ident w_type) call_site (leaf (ident (97 ∷ [])) call_site (punct 59 false call_site end)))))
    (end)
unfolding left is_end lookahead_at sees take_token take_lifetime take_mark take_group before first_span rows_for rows run parse_rule
marked_member_border_3 = computed marked_member _ _ _ refl

-- `default default type a ;`: nothing is read
marked_member_border_4 : NotDerived (rule marked_member)
    (leaf (ident w_default) (at 0 7) (leaf (ident w_default) (at 8 15) (leaf (ident w_type) (at 16 20) (leaf (ident (97 ∷ [])) (at 21 22) (punct 59 false (at 23 24) end)))))
unfolding left is_end lookahead_at sees take_token take_lifetime take_mark take_group before first_span rows_for rows run parse_rule
marked_member_border_4 = not_read marked_member _ refl

-- `pub default pub fn a () ;`: nothing is read
marked_member_border_5 : NotDerived (rule marked_member)
    (leaf (ident w_pub) (at 0 3) (leaf (ident w_default) (at 4 11) (leaf (ident w_pub) (at 12 15) (leaf (ident w_fn) (at 16 18) (leaf (ident (97 ∷ [])) (at 19 20) (group Paren (at 21 22) (at 22 23) end (punct 59 false (at 24 25) end)))))))
unfolding left is_end lookahead_at sees take_token take_lifetime take_mark take_group before first_span rows_for rows run parse_rule
marked_member_border_5 = not_read marked_member _ refl

-- `pub pub default fn a () ;`: nothing is read
marked_member_border_6 : NotDerived (rule marked_member)
    (leaf (ident w_pub) (at 0 3) (leaf (ident w_pub) (at 4 7) (leaf (ident w_default) (at 8 15) (leaf (ident w_fn) (at 16 18) (leaf (ident (97 ∷ [])) (at 19 20) (group Paren (at 21 22) (at 22 23) end (punct 59 false (at 24 25) end)))))))
unfolding left is_end lookahead_at sees take_token take_lifetime take_mark take_group before first_span rows_for rows run parse_rule
marked_member_border_6 = not_read marked_member _ refl

-- `pub default default fn a () ;`: nothing is read
marked_member_border_7 : NotDerived (rule marked_member)
    (leaf (ident w_pub) (at 0 3) (leaf (ident w_default) (at 4 11) (leaf (ident w_default) (at 12 19) (leaf (ident w_fn) (at 20 22) (leaf (ident (97 ∷ [])) (at 23 24) (group Paren (at 25 26) (at 26 27) end (punct 59 false (at 28 29) end)))))))
unfolding left is_end lookahead_at sees take_token take_lifetime take_mark take_group before first_span rows_for rows run parse_rule
marked_member_border_7 = not_read marked_member _ refl

-- `pub default const default : ! ;` prints `pub default const default : ! ;`
marked_member_border_8 : DerivesAs marked_member
    (leaf (ident w_pub) (at 0 3) (leaf (ident w_default) (at 4 11) (leaf (ident w_const) (at 12 17) (leaf (ident w_default) (at 18 25) (punct 58 false (at 26 27) (punct 33 false (at 28 29) (punct 59 false (at 30 31) end)))))))
    (leaf (ident w_pub) call_site (leaf (ident w_default) call_site (leaf (ident w_const) call_site (leaf (ident w_default) call_site (punct 58 false call_site (punct 33 false call_site (punct 59 false call_site end)))))))
    (end)
unfolding left is_end lookahead_at sees take_token take_lifetime take_mark take_group before first_span rows_for rows run parse_rule
marked_member_border_8 = computed marked_member _ _ _ refl

-- `const a < b >c ;`: nothing is read
odd_trait_const_border_1 : NotDerived (rule odd_trait_const)
    (leaf (ident w_const) (at 0 5) (leaf (ident (97 ∷ [])) (at 6 7) (punct 60 false (at 8 9) (leaf (ident (98 ∷ [])) (at 10 11) (punct 62 false (at 12 13) (leaf (ident (99 ∷ [])) (at 13 14) (punct 59 false (at 15 16) end)))))))
unfolding left is_end lookahead_at sees take_token take_lifetime take_mark take_group before rows_for rows run parse_rule
odd_trait_const_border_1 = not_read odd_trait_const _ refl

-- `_ : super where ;`: nothing is read
odd_trait_const_border_2 : NotDerived (rule odd_trait_const)
    (leaf (ident w_underscore) (at 0 1) (punct 58 false (at 2 3) (leaf (ident w_super) (at 4 9) (leaf (ident w_where) (at 10 15) (punct 59 false (at 16 17) end)))))
unfolding left is_end lookahead_at sees take_token take_lifetime take_mark take_group before rows_for rows run parse_rule
odd_trait_const_border_2 = not_read odd_trait_const _ refl

-- `const _ ! where ;`: nothing is read
odd_trait_const_border_3 : NotDerived (rule odd_trait_const)
    (leaf (ident w_const) (at 0 5) (leaf (ident w_underscore) (at 6 7) (punct 33 false (at 8 9) (leaf (ident w_where) (at 10 15) (punct 59 false (at 16 17) end)))))
unfolding left is_end lookahead_at sees take_token take_lifetime take_mark take_group before rows_for rows run parse_rule
odd_trait_const_border_3 = not_read odd_trait_const _ refl

-- `const _ : where ;`: nothing is read
odd_trait_const_border_4 : NotDerived (rule odd_trait_const)
    (leaf (ident w_const) (at 0 5) (leaf (ident w_underscore) (at 6 7) (punct 58 false (at 8 9) (leaf (ident w_where) (at 10 15) (punct 59 false (at 16 17) end)))))
unfolding left is_end lookahead_at sees take_token take_lifetime take_mark take_group before rows_for rows run parse_rule
odd_trait_const_border_4 = not_read odd_trait_const _ refl

-- `const a < , b >: c ;`: nothing is read
odd_trait_const_border_5 : NotDerived (rule odd_trait_const)
    (leaf (ident w_const) (at 0 5) (leaf (ident (97 ∷ [])) (at 6 7) (punct 60 false (at 8 9) (punct 44 false (at 10 11) (leaf (ident (98 ∷ [])) (at 12 13) (punct 62 true (at 14 15) (punct 58 false (at 15 16) (leaf (ident (99 ∷ [])) (at 17 18) (punct 59 false (at 19 20) end)))))))))
unfolding left is_end lookahead_at sees take_token take_lifetime take_mark take_group before rows_for rows run parse_rule
odd_trait_const_border_5 = not_read odd_trait_const _ refl

-- `const a < b >: : c ;`: nothing is read
odd_trait_const_border_6 : NotDerived (rule odd_trait_const)
    (leaf (ident w_const) (at 0 5) (leaf (ident (97 ∷ [])) (at 6 7) (punct 60 false (at 8 9) (leaf (ident (98 ∷ [])) (at 10 11) (punct 62 true (at 12 13) (punct 58 false (at 13 14) (punct 58 false (at 15 16) (leaf (ident (99 ∷ [])) (at 17 18) (punct 59 false (at 19 20) end)))))))))
unfolding left is_end lookahead_at sees take_token take_lifetime take_mark take_group before rows_for rows run parse_rule
odd_trait_const_border_6 = not_read odd_trait_const _ refl

-- `const a < b >: ; c ;`: nothing is read
odd_trait_const_border_7 : NotDerived (rule odd_trait_const)
    (leaf (ident w_const) (at 0 5) (leaf (ident (97 ∷ [])) (at 6 7) (punct 60 false (at 8 9) (leaf (ident (98 ∷ [])) (at 10 11) (punct 62 true (at 12 13) (punct 58 false (at 13 14) (punct 59 false (at 15 16) (leaf (ident (99 ∷ [])) (at 17 18) (punct 59 false (at 19 20) end)))))))))
unfolding left is_end lookahead_at sees take_token take_lifetime take_mark take_group before rows_for rows run parse_rule
odd_trait_const_border_7 = not_read odd_trait_const _ refl

-- `const a < b >: b c ;`: nothing is read
odd_trait_const_border_8 : NotDerived (rule odd_trait_const)
    (leaf (ident w_const) (at 0 5) (leaf (ident (97 ∷ [])) (at 6 7) (punct 60 false (at 8 9) (leaf (ident (98 ∷ [])) (at 10 11) (punct 62 true (at 12 13) (punct 58 false (at 13 14) (leaf (ident (98 ∷ [])) (at 15 16) (leaf (ident (99 ∷ [])) (at 17 18) (punct 59 false (at 19 20) end)))))))))
unfolding left is_end lookahead_at sees take_token take_lifetime take_mark take_group before rows_for rows run parse_rule
odd_trait_const_border_8 = not_read odd_trait_const _ refl

-- `const a < b >; : c ;`: nothing is read
odd_trait_const_border_9 : NotDerived (rule odd_trait_const)
    (leaf (ident w_const) (at 0 5) (leaf (ident (97 ∷ [])) (at 6 7) (punct 60 false (at 8 9) (leaf (ident (98 ∷ [])) (at 10 11) (punct 62 true (at 12 13) (punct 59 false (at 13 14) (punct 58 false (at 15 16) (leaf (ident (99 ∷ [])) (at 17 18) (punct 59 false (at 19 20) end)))))))))
unfolding left is_end lookahead_at sees take_token take_lifetime take_mark take_group before rows_for rows run parse_rule
odd_trait_const_border_9 = not_read odd_trait_const _ refl

-- `const a < b >b : c ;`: nothing is read
odd_trait_const_border_10 : NotDerived (rule odd_trait_const)
    (leaf (ident w_const) (at 0 5) (leaf (ident (97 ∷ [])) (at 6 7) (punct 60 false (at 8 9) (leaf (ident (98 ∷ [])) (at 10 11) (punct 62 false (at 12 13) (leaf (ident (98 ∷ [])) (at 13 14) (punct 58 false (at 15 16) (leaf (ident (99 ∷ [])) (at 17 18) (punct 59 false (at 19 20) end)))))))))
unfolding left is_end lookahead_at sees take_token take_lifetime take_mark take_group before rows_for rows run parse_rule
odd_trait_const_border_10 = not_read odd_trait_const _ refl

-- `const a < b b >: c ;`: nothing is read
odd_trait_const_border_11 : NotDerived (rule odd_trait_const)
    (leaf (ident w_const) (at 0 5) (leaf (ident (97 ∷ [])) (at 6 7) (punct 60 false (at 8 9) (leaf (ident (98 ∷ [])) (at 10 11) (leaf (ident (98 ∷ [])) (at 12 13) (punct 62 true (at 14 15) (punct 58 false (at 15 16) (leaf (ident (99 ∷ [])) (at 17 18) (punct 59 false (at 19 20) end)))))))))
unfolding left is_end lookahead_at sees take_token take_lifetime take_mark take_group before rows_for rows run parse_rule
odd_trait_const_border_11 = not_read odd_trait_const _ refl

-- `const _ : ! : where ;`: nothing is read
odd_trait_const_border_12 : NotDerived (rule odd_trait_const)
    (leaf (ident w_const) (at 0 5) (leaf (ident w_underscore) (at 6 7) (punct 58 false (at 8 9) (punct 33 false (at 10 11) (punct 58 false (at 12 13) (leaf (ident w_where) (at 14 19) (punct 59 false (at 20 21) end)))))))
unfolding left is_end lookahead_at sees take_token take_lifetime take_mark take_group before rows_for rows run parse_rule
odd_trait_const_border_12 = not_read odd_trait_const _ refl

-- `const a < : c b >: c ;`: nothing is read
odd_trait_const_border_13 : NotDerived (rule odd_trait_const)
    (leaf (ident w_const) (at 0 5) (leaf (ident (97 ∷ [])) (at 6 7) (punct 60 false (at 8 9) (punct 58 false (at 10 11) (leaf (ident (99 ∷ [])) (at 12 13) (leaf (ident (98 ∷ [])) (at 14 15) (punct 62 true (at 16 17) (punct 58 false (at 17 18) (leaf (ident (99 ∷ [])) (at 19 20) (punct 59 false (at 21 22) end))))))))))
unfolding left is_end lookahead_at sees take_token take_lifetime take_mark take_group before rows_for rows run parse_rule
odd_trait_const_border_13 = not_read odd_trait_const _ refl

-- `const a < = c b >: c ;`: nothing is read
odd_trait_const_border_14 : NotDerived (rule odd_trait_const)
    (leaf (ident w_const) (at 0 5) (leaf (ident (97 ∷ [])) (at 6 7) (punct 60 false (at 8 9) (punct 61 false (at 10 11) (leaf (ident (99 ∷ [])) (at 12 13) (leaf (ident (98 ∷ [])) (at 14 15) (punct 62 true (at 16 17) (punct 58 false (at 17 18) (leaf (ident (99 ∷ [])) (at 19 20) (punct 59 false (at 21 22) end))))))))))
unfolding left is_end lookahead_at sees take_token take_lifetime take_mark take_group before rows_for rows run parse_rule
odd_trait_const_border_14 = not_read odd_trait_const _ refl

-- `const a < > < b >: c ;`: nothing is read
odd_trait_const_border_15 : NotDerived (rule odd_trait_const)
    (leaf (ident w_const) (at 0 5) (leaf (ident (97 ∷ [])) (at 6 7) (punct 60 false (at 8 9) (punct 62 false (at 10 11) (punct 60 false (at 12 13) (leaf (ident (98 ∷ [])) (at 14 15) (punct 62 true (at 16 17) (punct 58 false (at 17 18) (leaf (ident (99 ∷ [])) (at 19 20) (punct 59 false (at 21 22) end))))))))))
unfolding left is_end lookahead_at sees take_token take_lifetime take_mark take_group before rows_for rows run parse_rule
odd_trait_const_border_15 = not_read odd_trait_const _ refl

-- `const a < b : c >: c ;` prints `const a < b : c > : c ;`
odd_trait_const_border_16 : DerivesAs odd_trait_const
    (leaf (ident w_const) (at 0 5) (leaf (ident (97 ∷ [])) (at 6 7) (punct 60 false (at 8 9) (leaf (ident (98 ∷ [])) (at 10 11) (punct 58 false (at 12 13) (leaf (ident (99 ∷ [])) (at 14 15) (punct 62 true (at 16 17) (punct 58 false (at 17 18) (leaf (ident (99 ∷ [])) (at 19 20) (punct 59 false (at 21 22) end))))))))))
    (leaf (ident w_const) call_site (leaf (ident (97 ∷ [])) call_site (punct 60 false call_site (leaf (ident (98 ∷ [])) call_site (punct 58 false call_site (leaf (ident (99 ∷ [])) call_site (punct 62 false call_site (punct 58 false call_site (leaf (ident (99 ∷ [])) call_site (punct 59 false call_site end))))))))))
    (end)
unfolding left is_end lookahead_at sees take_token take_lifetime take_mark take_group before rows_for rows run parse_rule
odd_trait_const_border_16 = computed odd_trait_const _ _ _ refl

-- `const a < b = c >: c ;` prints `const a < b = c > : c ;`
odd_trait_const_border_17 : DerivesAs odd_trait_const
    (leaf (ident w_const) (at 0 5) (leaf (ident (97 ∷ [])) (at 6 7) (punct 60 false (at 8 9) (leaf (ident (98 ∷ [])) (at 10 11) (punct 61 false (at 12 13) (leaf (ident (99 ∷ [])) (at 14 15) (punct 62 true (at 16 17) (punct 58 false (at 17 18) (leaf (ident (99 ∷ [])) (at 19 20) (punct 59 false (at 21 22) end))))))))))
    (leaf (ident w_const) call_site (leaf (ident (97 ∷ [])) call_site (punct 60 false call_site (leaf (ident (98 ∷ [])) call_site (punct 61 false call_site (leaf (ident (99 ∷ [])) call_site (punct 62 false call_site (punct 58 false call_site (leaf (ident (99 ∷ [])) call_site (punct 59 false call_site end))))))))))
    (end)
unfolding left is_end lookahead_at sees take_token take_lifetime take_mark take_group before rows_for rows run parse_rule
odd_trait_const_border_17 = computed odd_trait_const _ _ _ refl

-- `const a < b >: < > c ;`: nothing is read
odd_trait_const_border_18 : NotDerived (rule odd_trait_const)
    (leaf (ident w_const) (at 0 5) (leaf (ident (97 ∷ [])) (at 6 7) (punct 60 false (at 8 9) (leaf (ident (98 ∷ [])) (at 10 11) (punct 62 true (at 12 13) (punct 58 false (at 13 14) (punct 60 false (at 15 16) (punct 62 false (at 17 18) (leaf (ident (99 ∷ [])) (at 19 20) (punct 59 false (at 21 22) end))))))))))
unfolding left is_end lookahead_at sees take_token take_lifetime take_mark take_group before rows_for rows run parse_rule
odd_trait_const_border_18 = not_read odd_trait_const _ refl

-- `const a < b >: = c c ;`: nothing is read
odd_trait_const_border_19 : NotDerived (rule odd_trait_const)
    (leaf (ident w_const) (at 0 5) (leaf (ident (97 ∷ [])) (at 6 7) (punct 60 false (at 8 9) (leaf (ident (98 ∷ [])) (at 10 11) (punct 62 true (at 12 13) (punct 58 false (at 13 14) (punct 61 false (at 15 16) (leaf (ident (99 ∷ [])) (at 17 18) (leaf (ident (99 ∷ [])) (at 19 20) (punct 59 false (at 21 22) end))))))))))
unfolding left is_end lookahead_at sees take_token take_lifetime take_mark take_group before rows_for rows run parse_rule
odd_trait_const_border_19 = not_read odd_trait_const _ refl

-- `const a < b >= c : c ;`: nothing is read
odd_trait_const_border_20 : NotDerived (rule odd_trait_const)
    (leaf (ident w_const) (at 0 5) (leaf (ident (97 ∷ [])) (at 6 7) (punct 60 false (at 8 9) (leaf (ident (98 ∷ [])) (at 10 11) (punct 62 true (at 12 13) (punct 61 false (at 13 14) (leaf (ident (99 ∷ [])) (at 15 16) (punct 58 false (at 17 18) (leaf (ident (99 ∷ [])) (at 19 20) (punct 59 false (at 21 22) end))))))))))
unfolding left is_end lookahead_at sees take_token take_lifetime take_mark take_group before rows_for rows run parse_rule
odd_trait_const_border_20 = not_read odd_trait_const _ refl

-- `const union < >: () : ;`: nothing is read
odd_trait_const_border_21 : NotDerived (rule odd_trait_const)
    (leaf (ident w_const) (at 0 5) (leaf (ident w_union) (at 6 11) (punct 60 false (at 12 13) (punct 62 true (at 14 15) (punct 58 false (at 15 16) (group Paren (at 17 18) (at 18 19) end (punct 58 false (at 20 21) (punct 59 false (at 22 23) end))))))))
unfolding left is_end lookahead_at sees take_token take_lifetime take_mark take_group before rows_for rows run parse_rule
odd_trait_const_border_21 = not_read odd_trait_const _ refl

-- `const a < # [c] b >: c ;` prints `const a < # [c] b > : c ;`
odd_trait_const_border_22 : DerivesAs odd_trait_const
    (leaf (ident w_const) (at 0 5) (leaf (ident (97 ∷ [])) (at 6 7) (punct 60 false (at 8 9) (punct 35 false (at 10 11) (group Bracket (at 12 13) (at 14 15) (leaf (ident (99 ∷ [])) (at 13 14) end) (leaf (ident (98 ∷ [])) (at 16 17) (punct 62 true (at 18 19) (punct 58 false (at 19 20) (leaf (ident (99 ∷ [])) (at 21 22) (punct 59 false (at 23 24) end))))))))))
    (leaf (ident w_const) call_site (leaf (ident (97 ∷ [])) call_site (punct 60 false call_site (punct 35 false call_site (group Bracket call_site call_site (leaf (ident (99 ∷ [])) call_site end) (leaf (ident (98 ∷ [])) call_site (punct 62 false call_site (punct 58 false call_site (leaf (ident (99 ∷ [])) call_site (punct 59 false call_site end))))))))))
    (end)
unfolding left is_end lookahead_at sees take_token take_lifetime take_mark take_group before rows_for rows run parse_rule
odd_trait_const_border_22 = computed odd_trait_const _ _ _ refl

-- `const a < b # [c] >: c ;`: nothing is read
odd_trait_const_border_23 : NotDerived (rule odd_trait_const)
    (leaf (ident w_const) (at 0 5) (leaf (ident (97 ∷ [])) (at 6 7) (punct 60 false (at 8 9) (leaf (ident (98 ∷ [])) (at 10 11) (punct 35 false (at 12 13) (group Bracket (at 14 15) (at 16 17) (leaf (ident (99 ∷ [])) (at 15 16) end) (punct 62 true (at 18 19) (punct 58 false (at 19 20) (leaf (ident (99 ∷ [])) (at 21 22) (punct 59 false (at 23 24) end))))))))))
unfolding left is_end lookahead_at sees take_token take_lifetime take_mark take_group before rows_for rows run parse_rule
odd_trait_const_border_23 = not_read odd_trait_const _ refl

-- `const a < b >where : c ;`: nothing is read
odd_trait_const_border_24 : NotDerived (rule odd_trait_const)
    (leaf (ident w_const) (at 0 5) (leaf (ident (97 ∷ [])) (at 6 7) (punct 60 false (at 8 9) (leaf (ident (98 ∷ [])) (at 10 11) (punct 62 false (at 12 13) (leaf (ident w_where) (at 13 18) (punct 58 false (at 19 20) (leaf (ident (99 ∷ [])) (at 21 22) (punct 59 false (at 23 24) end)))))))))
unfolding left is_end lookahead_at sees take_token take_lifetime take_mark take_group before rows_for rows run parse_rule
odd_trait_const_border_24 = not_read odd_trait_const _ refl

-- `b const _ : super where ;`: nothing is read
odd_trait_const_border_25 : NotDerived (rule odd_trait_const)
    (leaf (ident (98 ∷ [])) (at 0 1) (leaf (ident w_const) (at 2 7) (leaf (ident w_underscore) (at 8 9) (punct 58 false (at 10 11) (leaf (ident w_super) (at 12 17) (leaf (ident w_where) (at 18 23) (punct 59 false (at 24 25) end)))))))
unfolding left is_end lookahead_at sees take_token take_lifetime take_mark take_group before rows_for rows run parse_rule
odd_trait_const_border_25 = not_read odd_trait_const _ refl

-- `const _ : : super where ;`: nothing is read
odd_trait_const_border_26 : NotDerived (rule odd_trait_const)
    (leaf (ident w_const) (at 0 5) (leaf (ident w_underscore) (at 6 7) (punct 58 false (at 8 9) (punct 58 false (at 10 11) (leaf (ident w_super) (at 12 17) (leaf (ident w_where) (at 18 23) (punct 59 false (at 24 25) end)))))))
unfolding left is_end lookahead_at sees take_token take_lifetime take_mark take_group before rows_for rows run parse_rule
odd_trait_const_border_26 = not_read odd_trait_const _ refl

-- `const _ : b super where ;`: nothing is read
odd_trait_const_border_27 : NotDerived (rule odd_trait_const)
    (leaf (ident w_const) (at 0 5) (leaf (ident w_underscore) (at 6 7) (punct 58 false (at 8 9) (leaf (ident (98 ∷ [])) (at 10 11) (leaf (ident w_super) (at 12 17) (leaf (ident w_where) (at 18 23) (punct 59 false (at 24 25) end)))))))
unfolding left is_end lookahead_at sees take_token take_lifetime take_mark take_group before rows_for rows run parse_rule
odd_trait_const_border_27 = not_read odd_trait_const _ refl

-- `const _ b : super where ;`: nothing is read
odd_trait_const_border_28 : NotDerived (rule odd_trait_const)
    (leaf (ident w_const) (at 0 5) (leaf (ident w_underscore) (at 6 7) (leaf (ident (98 ∷ [])) (at 8 9) (punct 58 false (at 10 11) (leaf (ident w_super) (at 12 17) (leaf (ident w_where) (at 18 23) (punct 59 false (at 24 25) end)))))))
unfolding left is_end lookahead_at sees take_token take_lifetime take_mark take_group before rows_for rows run parse_rule
odd_trait_const_border_28 = not_read odd_trait_const _ refl

-- `const _ : = c super where ;`: nothing is read
odd_trait_const_border_29 : NotDerived (rule odd_trait_const)
    (leaf (ident w_const) (at 0 5) (leaf (ident w_underscore) (at 6 7) (punct 58 false (at 8 9) (punct 61 false (at 10 11) (leaf (ident (99 ∷ [])) (at 12 13) (leaf (ident w_super) (at 14 19) (leaf (ident w_where) (at 20 25) (punct 59 false (at 26 27) end))))))))
unfolding left is_end lookahead_at sees take_token take_lifetime take_mark take_group before rows_for rows run parse_rule
odd_trait_const_border_29 = not_read odd_trait_const _ refl

-- `const _ : super where = c ;`: nothing is read
odd_trait_const_border_30 : NotDerived (rule odd_trait_const)
    (leaf (ident w_const) (at 0 5) (leaf (ident w_underscore) (at 6 7) (punct 58 false (at 8 9) (leaf (ident w_super) (at 10 15) (leaf (ident w_where) (at 16 21) (punct 61 false (at 22 23) (leaf (ident (99 ∷ [])) (at 24 25) (punct 59 false (at 26 27) end))))))))
unfolding left is_end lookahead_at sees take_token take_lifetime take_mark take_group before rows_for rows run parse_rule
odd_trait_const_border_30 = not_read odd_trait_const _ refl

-- `const _ = c : super where ;`: nothing is read
odd_trait_const_border_31 : NotDerived (rule odd_trait_const)
    (leaf (ident w_const) (at 0 5) (leaf (ident w_underscore) (at 6 7) (punct 61 false (at 8 9) (leaf (ident (99 ∷ [])) (at 10 11) (punct 58 false (at 12 13) (leaf (ident w_super) (at 14 19) (leaf (ident w_where) (at 20 25) (punct 59 false (at 26 27) end))))))))
unfolding left is_end lookahead_at sees take_token take_lifetime take_mark take_group before rows_for rows run parse_rule
odd_trait_const_border_31 = not_read odd_trait_const _ refl

-- `const a < > : b = c where ;` prints `const a < > : b = c where ;`
odd_trait_const_border_32 : DerivesAs odd_trait_const
    (leaf (ident w_const) (at 0 5) (leaf (ident (97 ∷ [])) (at 6 7) (punct 60 false (at 8 9) (punct 62 false (at 10 11) (punct 58 false (at 12 13) (leaf (ident (98 ∷ [])) (at 14 15) (punct 61 false (at 16 17) (leaf (ident (99 ∷ [])) (at 18 19) (leaf (ident w_where) (at 20 25) (punct 59 false (at 26 27) end))))))))))
    (leaf (ident w_const) call_site (leaf (ident (97 ∷ [])) call_site (punct 60 false call_site (punct 62 false call_site (punct 58 false call_site (leaf (ident (98 ∷ [])) call_site (punct 61 false call_site (leaf (ident (99 ∷ [])) call_site (leaf (ident w_where) call_site (punct 59 false call_site end))))))))))
    (end)
unfolding left is_end lookahead_at sees take_token take_lifetime take_mark take_group before rows_for rows run parse_rule
odd_trait_const_border_32 = computed odd_trait_const _ _ _ refl

-- `const union : Self where : ;`: nothing is read
odd_trait_const_border_33 : NotDerived (rule odd_trait_const)
    (leaf (ident w_const) (at 0 5) (leaf (ident w_union) (at 6 11) (punct 58 false (at 12 13) (leaf (ident w_Self_type) (at 14 18) (leaf (ident w_where) (at 19 24) (punct 58 false (at 25 26) (punct 59 false (at 27 28) end)))))))
unfolding left is_end lookahead_at sees take_token take_lifetime take_mark take_group before rows_for rows run parse_rule
odd_trait_const_border_33 = not_read odd_trait_const _ refl

-- `const _ const : super where ;`: nothing is read
odd_trait_const_border_34 : NotDerived (rule odd_trait_const)
    (leaf (ident w_const) (at 0 5) (leaf (ident w_underscore) (at 6 7) (leaf (ident w_const) (at 8 13) (punct 58 false (at 14 15) (leaf (ident w_super) (at 16 21) (leaf (ident w_where) (at 22 27) (punct 59 false (at 28 29) end)))))))
unfolding left is_end lookahead_at sees take_token take_lifetime take_mark take_group before rows_for rows run parse_rule
odd_trait_const_border_34 = not_read odd_trait_const _ refl

-- `const const _ : super where ;`: nothing is read
odd_trait_const_border_35 : NotDerived (rule odd_trait_const)
    (leaf (ident w_const) (at 0 5) (leaf (ident w_const) (at 6 11) (leaf (ident w_underscore) (at 12 13) (punct 58 false (at 14 15) (leaf (ident w_super) (at 16 21) (leaf (ident w_where) (at 22 27) (punct 59 false (at 28 29) end)))))))
unfolding left is_end lookahead_at sees take_token take_lifetime take_mark take_group before rows_for rows run parse_rule
odd_trait_const_border_35 = not_read odd_trait_const _ refl

-- `\(\) const default : ! where ;` prints `const default : ! where ;`
odd_trait_const_border_36 : DerivesAs odd_trait_const
    (group None (at 0 2) (at 2 4) end (leaf (ident w_const) (at 5 10) (leaf (ident w_default) (at 11 18) (punct 58 false (at 19 20) (punct 33 false (at 21 22) (leaf (ident w_where) (at 23 28) (punct 59 false (at 29 30) end)))))))
    (leaf (ident w_const) call_site (leaf (ident w_default) call_site (punct 58 false call_site (punct 33 false call_site (leaf (ident w_where) call_site (punct 59 false call_site end))))))
    (end)
unfolding left is_end lookahead_at sees take_token take_lifetime take_mark take_group before rows_for rows run parse_rule
odd_trait_const_border_36 = computed odd_trait_const _ _ _ refl

-- `: () where ; const _ :() where ;`: nothing is read
odd_trait_const_border_37 : NotDerived (rule odd_trait_const)
    (punct 58 false (at 0 1) (group Paren (at 2 3) (at 3 4) end (leaf (ident w_where) (at 5 10) (punct 59 false (at 11 12) (leaf (ident w_const) (at 13 18) (leaf (ident w_underscore) (at 19 20) (punct 58 false (at 21 22) (group Paren (at 22 23) (at 23 24) end (leaf (ident w_where) (at 25 30) (punct 59 false (at 31 32) end))))))))))
unfolding left is_end lookahead_at sees take_token take_lifetime take_mark take_group before rows_for rows run parse_rule
odd_trait_const_border_37 = not_read odd_trait_const _ refl

-- `const : () where ; default < > : ! ;`: nothing is read
odd_trait_const_border_38 : NotDerived (rule odd_trait_const)
    (leaf (ident w_const) (at 0 5) (punct 58 false (at 6 7) (group Paren (at 8 9) (at 9 10) end (leaf (ident w_where) (at 11 16) (punct 59 false (at 17 18) (leaf (ident w_default) (at 19 26) (punct 60 false (at 27 28) (punct 62 false (at 29 30) (punct 58 false (at 31 32) (punct 33 false (at 33 34) (punct 59 false (at 35 36) end)))))))))))
unfolding left is_end lookahead_at sees take_token take_lifetime take_mark take_group before rows_for rows run parse_rule
odd_trait_const_border_38 = not_read odd_trait_const _ refl

-- `; fn auto () ;`: nothing is read
bodiless_impl_function_border_1 : NotDerived (rule bodiless_impl_function)
    (punct 59 false (at 0 1) (leaf (ident w_fn) (at 2 4) (leaf (ident w_auto) (at 5 9) (group Paren (at 10 11) (at 11 12) end (punct 59 false (at 13 14) end)))))
unfolding left is_end lookahead_at sees take_token take_lifetime take_mark take_group before first_span rows_for rows run parse_rule
bodiless_impl_function_border_1 = not_read bodiless_impl_function _ refl

-- `fn auto () pub ;`: nothing is read
bodiless_impl_function_border_2 : NotDerived (rule bodiless_impl_function)
    (leaf (ident w_fn) (at 0 2) (leaf (ident w_auto) (at 3 7) (group Paren (at 8 9) (at 9 10) end (leaf (ident w_pub) (at 11 14) (punct 59 false (at 15 16) end)))))
unfolding left is_end lookahead_at sees take_token take_lifetime take_mark take_group before first_span rows_for rows run parse_rule
bodiless_impl_function_border_2 = not_read bodiless_impl_function _ refl

-- `fn auto () default ;`: nothing is read
bodiless_impl_function_border_3 : NotDerived (rule bodiless_impl_function)
    (leaf (ident w_fn) (at 0 2) (leaf (ident w_auto) (at 3 7) (group Paren (at 8 9) (at 9 10) end (leaf (ident w_default) (at 11 18) (punct 59 false (at 19 20) end)))))
unfolding left is_end lookahead_at sees take_token take_lifetime take_mark take_group before first_span rows_for rows run parse_rule
bodiless_impl_function_border_3 = not_read bodiless_impl_function _ refl

-- `pub pub fn auto () ;`: nothing is read
bodiless_impl_function_border_4 : NotDerived (rule bodiless_impl_function)
    (leaf (ident w_pub) (at 0 3) (leaf (ident w_pub) (at 4 7) (leaf (ident w_fn) (at 8 10) (leaf (ident w_auto) (at 11 15) (group Paren (at 16 17) (at 17 18) end (punct 59 false (at 19 20) end))))))
unfolding left is_end lookahead_at sees take_token take_lifetime take_mark take_group before first_span rows_for rows run parse_rule
bodiless_impl_function_border_4 = not_read bodiless_impl_function _ refl

-- `default default fn T () ;`: nothing is read
bodiless_impl_function_border_5 : NotDerived (rule bodiless_impl_function)
    (leaf (ident w_default) (at 0 7) (leaf (ident w_default) (at 8 15) (leaf (ident w_fn) (at 16 18) (leaf (ident (84 ∷ [])) (at 19 20) (group Paren (at 21 22) (at 22 23) end (punct 59 false (at 24 25) end))))))
unfolding left is_end lookahead_at sees take_token take_lifetime take_mark take_group before first_span rows_for rows run parse_rule
bodiless_impl_function_border_5 = not_read bodiless_impl_function _ refl

-- `\(\) default fn safe () fn default () ;`: nothing is read
bodiless_impl_function_border_6 : NotDerived (rule bodiless_impl_function)
    (group None (at 0 2) (at 2 4) end (leaf (ident w_default) (at 5 12) (leaf (ident w_fn) (at 13 15) (leaf (ident w_safe) (at 16 20) (group Paren (at 21 22) (at 22 23) end (leaf (ident w_fn) (at 24 26) (leaf (ident w_default) (at 27 34) (group Paren (at 35 36) (at 36 37) end (punct 59 false (at 38 39) end)))))))))
unfolding left is_end lookahead_at sees take_token take_lifetime take_mark take_group before first_span rows_for rows run parse_rule
bodiless_impl_function_border_6 = not_read bodiless_impl_function _ refl

-- `union : safe ;`: nothing is read
odd_impl_const_border_1 : NotDerived (rule odd_impl_const)
    (leaf (ident w_union) (at 0 5) (punct 58 false (at 6 7) (leaf (ident w_safe) (at 8 12) (punct 59 false (at 13 14) end))))
unfolding left is_end lookahead_at sees take_token take_lifetime take_mark take_group before rows_for rows run parse_rule
odd_impl_const_border_1 = not_read odd_impl_const _ refl

-- `const b default : ! ;`: nothing is read
odd_impl_const_border_2 : NotDerived (rule odd_impl_const)
    (leaf (ident w_const) (at 0 5) (leaf (ident (98 ∷ [])) (at 6 7) (leaf (ident w_default) (at 8 15) (punct 58 false (at 16 17) (punct 33 false (at 18 19) (punct 59 false (at 20 21) end))))))
unfolding left is_end lookahead_at sees take_token take_lifetime take_mark take_group before rows_for rows run parse_rule
odd_impl_const_border_2 = not_read odd_impl_const _ refl

-- `const a < > : b where ;` prints `const a < > : b where ;`
odd_impl_const_border_3 : DerivesAs odd_impl_const
    (leaf (ident w_const) (at 0 5) (leaf (ident (97 ∷ [])) (at 6 7) (punct 60 false (at 8 9) (punct 62 false (at 10 11) (punct 58 false (at 12 13) (leaf (ident (98 ∷ [])) (at 14 15) (leaf (ident w_where) (at 16 21) (punct 59 false (at 22 23) end))))))))
    (leaf (ident w_const) call_site (leaf (ident (97 ∷ [])) call_site (punct 60 false call_site (punct 62 false call_site (punct 58 false call_site (leaf (ident (98 ∷ [])) call_site (leaf (ident w_where) call_site (punct 59 false call_site end))))))))
    (end)
unfolding left is_end lookahead_at sees take_token take_lifetime take_mark take_group before rows_for rows run parse_rule
odd_impl_const_border_3 = computed odd_impl_const _ _ _ refl

-- `const default < > : ! ;` prints `const default < > : ! ;`
odd_impl_const_border_4 : DerivesAs odd_impl_const
    (leaf (ident w_const) (at 0 5) (leaf (ident w_default) (at 6 13) (punct 60 false (at 14 15) (punct 62 false (at 16 17) (punct 58 false (at 18 19) (punct 33 false (at 20 21) (punct 59 false (at 22 23) end)))))))
    (leaf (ident w_const) call_site (leaf (ident w_default) call_site (punct 60 false call_site (punct 62 false call_site (punct 58 false call_site (punct 33 false call_site (punct 59 false call_site end)))))))
    (end)
unfolding left is_end lookahead_at sees take_token take_lifetime take_mark take_group before rows_for rows run parse_rule
odd_impl_const_border_4 = computed odd_impl_const _ _ _ refl

-- `const default pub : ! ;`: nothing is read
odd_impl_const_border_5 : NotDerived (rule odd_impl_const)
    (leaf (ident w_const) (at 0 5) (leaf (ident w_default) (at 6 13) (leaf (ident w_pub) (at 14 17) (punct 58 false (at 18 19) (punct 33 false (at 20 21) (punct 59 false (at 22 23) end))))))
unfolding left is_end lookahead_at sees take_token take_lifetime take_mark take_group before rows_for rows run parse_rule
odd_impl_const_border_5 = not_read odd_impl_const _ refl

-- `const pub default : ! ;`: nothing is read
odd_impl_const_border_6 : NotDerived (rule odd_impl_const)
    (leaf (ident w_const) (at 0 5) (leaf (ident w_pub) (at 6 9) (leaf (ident w_default) (at 10 17) (punct 58 false (at 18 19) (punct 33 false (at 20 21) (punct 59 false (at 22 23) end))))))
unfolding left is_end lookahead_at sees take_token take_lifetime take_mark take_group before rows_for rows run parse_rule
odd_impl_const_border_6 = not_read odd_impl_const _ refl

-- `pub const default : ! ;` prints `pub const default : ! ;`
odd_impl_const_border_7 : DerivesAs odd_impl_const
    (leaf (ident w_pub) (at 0 3) (leaf (ident w_const) (at 4 9) (leaf (ident w_default) (at 10 17) (punct 58 false (at 18 19) (punct 33 false (at 20 21) (punct 59 false (at 22 23) end))))))
    (leaf (ident w_pub) call_site (leaf (ident w_const) call_site (leaf (ident w_default) call_site (punct 58 false call_site (punct 33 false call_site (punct 59 false call_site end))))))
    (end)
unfolding left is_end lookahead_at sees take_token take_lifetime take_mark take_group before rows_for rows run parse_rule
odd_impl_const_border_7 = computed odd_impl_const _ _ _ refl

-- `: () ;const auto : auto ;`: nothing is read
odd_impl_const_border_8 : NotDerived (rule odd_impl_const)
    (punct 58 false (at 0 1) (group Paren (at 2 3) (at 3 4) end (punct 59 false (at 5 6) (leaf (ident w_const) (at 6 11) (leaf (ident w_auto) (at 12 16) (punct 58 false (at 17 18) (leaf (ident w_auto) (at 19 23) (punct 59 false (at 24 25) end))))))))
unfolding left is_end lookahead_at sees take_token take_lifetime take_mark take_group before rows_for rows run parse_rule
odd_impl_const_border_8 = not_read odd_impl_const _ refl

-- `const const default : ! ;`: nothing is read
odd_impl_const_border_9 : NotDerived (rule odd_impl_const)
    (leaf (ident w_const) (at 0 5) (leaf (ident w_const) (at 6 11) (leaf (ident w_default) (at 12 19) (punct 58 false (at 20 21) (punct 33 false (at 22 23) (punct 59 false (at 24 25) end))))))
unfolding left is_end lookahead_at sees take_token take_lifetime take_mark take_group before rows_for rows run parse_rule
odd_impl_const_border_9 = not_read odd_impl_const _ refl

-- `const default const : ! ;`: nothing is read
odd_impl_const_border_10 : NotDerived (rule odd_impl_const)
    (leaf (ident w_const) (at 0 5) (leaf (ident w_default) (at 6 13) (leaf (ident w_const) (at 14 19) (punct 58 false (at 20 21) (punct 33 false (at 22 23) (punct 59 false (at 24 25) end))))))
unfolding left is_end lookahead_at sees take_token take_lifetime take_mark take_group before rows_for rows run parse_rule
odd_impl_const_border_10 = not_read odd_impl_const _ refl

-- `default const _ : super ;` prints `default const _ : super ;`
odd_impl_const_border_11 : DerivesAs odd_impl_const
    (leaf (ident w_default) (at 0 7) (leaf (ident w_const) (at 8 13) (leaf (ident w_underscore) (at 14 15) (punct 58 false (at 16 17) (leaf (ident w_super) (at 18 23) (punct 59 false (at 24 25) end))))))
    (leaf (ident w_default) call_site (leaf (ident w_const) call_site (leaf (ident w_underscore) call_site (punct 58 false call_site (leaf (ident w_super) call_site (punct 59 false call_site end))))))
    (end)
unfolding left is_end lookahead_at sees take_token take_lifetime take_mark take_group before rows_for rows run parse_rule
odd_impl_const_border_11 = computed odd_impl_const _ _ _ refl

-- `default const union < > : ;`: nothing is read
odd_impl_const_border_12 : NotDerived (rule odd_impl_const)
    (leaf (ident w_default) (at 0 7) (leaf (ident w_const) (at 8 13) (leaf (ident w_union) (at 14 19) (punct 60 false (at 20 21) (punct 62 false (at 22 23) (punct 58 false (at 24 25) (punct 59 false (at 26 27) end)))))))
unfolding left is_end lookahead_at sees take_token take_lifetime take_mark take_group before rows_for rows run parse_rule
odd_impl_const_border_12 = not_read odd_impl_const _ refl

-- `default const default <> : ()`: nothing is read
odd_impl_const_border_13 : NotDerived (rule odd_impl_const)
    (leaf (ident w_default) (at 0 7) (leaf (ident w_const) (at 8 13) (leaf (ident w_default) (at 14 21) (punct 60 true (at 22 23) (punct 62 false (at 23 24) (punct 58 false (at 25 26) (group Paren (at 27 28) (at 28 29) end end)))))))
unfolding left is_end lookahead_at sees take_token take_lifetime take_mark take_group before rows_for rows run parse_rule
odd_impl_const_border_13 = not_read odd_impl_const _ refl

-- `const union < >< () >::super ;`: nothing is read
odd_impl_const_border_14 : NotDerived (rule odd_impl_const)
    (leaf (ident w_const) (at 0 5) (leaf (ident w_union) (at 6 11) (punct 60 false (at 12 13) (punct 62 true (at 14 15) (punct 60 false (at 15 16) (group Paren (at 17 18) (at 18 19) end (punct 62 true (at 20 21) (punct 58 true (at 21 22) (punct 58 false (at 22 23) (leaf (ident w_super) (at 23 28) (punct 59 false (at 29 30) end)))))))))))
unfolding left is_end lookahead_at sees take_token take_lifetime take_mark take_group before rows_for rows run parse_rule
odd_impl_const_border_14 = not_read odd_impl_const _ refl

-- `default const default < >::: self ;` prints `default const default < > : :: self ;`
odd_impl_const_border_15 : DerivesAs odd_impl_const
    (leaf (ident w_default) (at 0 7) (leaf (ident w_const) (at 8 13) (leaf (ident w_default) (at 14 21) (punct 60 false (at 22 23) (punct 62 true (at 24 25) (punct 58 true (at 25 26) (punct 58 true (at 26 27) (punct 58 false (at 27 28) (leaf (ident w_self) (at 29 33) (punct 59 false (at 34 35) end))))))))))
    (leaf (ident w_default) call_site (leaf (ident w_const) call_site (leaf (ident w_default) call_site (punct 60 false call_site (punct 62 false call_site (punct 58 false call_site (punct 58 true call_site (punct 58 false call_site (leaf (ident w_self) call_site (punct 59 false call_site end))))))))))
    (end)
unfolding left is_end lookahead_at sees take_token take_lifetime take_mark take_group before rows_for rows run parse_rule
odd_impl_const_border_15 = computed odd_impl_const _ _ _ refl

-- `default pub const default : super ;`: nothing is read
odd_impl_const_border_16 : NotDerived (rule odd_impl_const)
    (leaf (ident w_default) (at 0 7) (leaf (ident w_pub) (at 8 11) (leaf (ident w_const) (at 12 17) (leaf (ident w_default) (at 18 25) (punct 58 false (at 26 27) (leaf (ident w_super) (at 28 33) (punct 59 false (at 34 35) end)))))))
unfolding left is_end lookahead_at sees take_token take_lifetime take_mark take_group before rows_for rows run parse_rule
odd_impl_const_border_16 = not_read odd_impl_const _ refl

-- `const : () ; default < > : ! where ;`: nothing is read
odd_impl_const_border_17 : NotDerived (rule odd_impl_const)
    (leaf (ident w_const) (at 0 5) (punct 58 false (at 6 7) (group Paren (at 8 9) (at 9 10) end (punct 59 false (at 11 12) (leaf (ident w_default) (at 13 20) (punct 60 false (at 21 22) (punct 62 false (at 23 24) (punct 58 false (at 25 26) (punct 33 false (at 27 28) (leaf (ident w_where) (at 29 34) (punct 59 false (at 35 36) end)))))))))))
unfolding left is_end lookahead_at sees take_token take_lifetime take_mark take_group before rows_for rows run parse_rule
odd_impl_const_border_17 = not_read odd_impl_const _ refl

-- `default default const default : super ;`: nothing is read
odd_impl_const_border_18 : NotDerived (rule odd_impl_const)
    (leaf (ident w_default) (at 0 7) (leaf (ident w_default) (at 8 15) (leaf (ident w_const) (at 16 21) (leaf (ident w_default) (at 22 29) (punct 58 false (at 30 31) (leaf (ident w_super) (at 32 37) (punct 59 false (at 38 39) end)))))))
unfolding left is_end lookahead_at sees take_token take_lifetime take_mark take_group before rows_for rows run parse_rule
odd_impl_const_border_18 = not_read odd_impl_const _ refl

-- `auto ;`: nothing is read
odd_impl_type_border_1 : NotDerived (rule odd_impl_type)
    (leaf (ident w_auto) (at 0 4) (punct 59 false (at 5 6) end))
unfolding left is_end lookahead_at sees take_token take_lifetime take_mark take_group before rows_for rows run parse_rule
odd_impl_type_border_1 = not_read odd_impl_type _ refl

-- `type 1 ;`: nothing is read
odd_impl_type_border_2 : NotDerived (rule odd_impl_type)
    (leaf (ident w_type) (at 0 4) (leaf (literal Int (49 ∷ [])) (at 5 6) (punct 59 false (at 7 8) end)))
unfolding left is_end lookahead_at sees take_token take_lifetime take_mark take_group before rows_for rows run parse_rule
odd_impl_type_border_2 = not_read odd_impl_type _ refl

-- `type _ ;`: nothing is read
odd_impl_type_border_3 : NotDerived (rule odd_impl_type)
    (leaf (ident w_type) (at 0 4) (leaf (ident w_underscore) (at 5 6) (punct 59 false (at 7 8) end)))
unfolding left is_end lookahead_at sees take_token take_lifetime take_mark take_group before rows_for rows run parse_rule
odd_impl_type_border_3 = not_read odd_impl_type _ refl

-- `type fn ;`: nothing is read
odd_impl_type_border_4 : NotDerived (rule odd_impl_type)
    (leaf (ident w_type) (at 0 4) (leaf (ident w_fn) (at 5 7) (punct 59 false (at 8 9) end)))
unfolding left is_end lookahead_at sees take_token take_lifetime take_mark take_group before rows_for rows run parse_rule
odd_impl_type_border_4 = not_read odd_impl_type _ refl

-- `type Self ;`: nothing is read
odd_impl_type_border_5 : NotDerived (rule odd_impl_type)
    (leaf (ident w_type) (at 0 4) (leaf (ident w_Self_type) (at 5 9) (punct 59 false (at 10 11) end)))
unfolding left is_end lookahead_at sees take_token take_lifetime take_mark take_group before rows_for rows run parse_rule
odd_impl_type_border_5 = not_read odd_impl_type _ refl

-- `type auto ,`: nothing is read
odd_impl_type_border_6 : NotDerived (rule odd_impl_type)
    (leaf (ident w_type) (at 0 4) (leaf (ident w_auto) (at 5 9) (punct 44 false (at 10 11) end)))
unfolding left is_end lookahead_at sees take_token take_lifetime take_mark take_group before rows_for rows run parse_rule
odd_impl_type_border_6 = not_read odd_impl_type _ refl

-- `type self ;`: nothing is read
odd_impl_type_border_7 : NotDerived (rule odd_impl_type)
    (leaf (ident w_type) (at 0 4) (leaf (ident w_self) (at 5 9) (punct 59 false (at 10 11) end)))
unfolding left is_end lookahead_at sees take_token take_lifetime take_mark take_group before rows_for rows run parse_rule
odd_impl_type_border_7 = not_read odd_impl_type _ refl

-- `type type ;`: nothing is read
odd_impl_type_border_8 : NotDerived (rule odd_impl_type)
    (leaf (ident w_type) (at 0 4) (leaf (ident w_type) (at 5 9) (punct 59 false (at 10 11) end)))
unfolding left is_end lookahead_at sees take_token take_lifetime take_mark take_group before rows_for rows run parse_rule
odd_impl_type_border_8 = not_read odd_impl_type _ refl

-- `type crate ;`: nothing is read
odd_impl_type_border_9 : NotDerived (rule odd_impl_type)
    (leaf (ident w_type) (at 0 4) (leaf (ident w_crate) (at 5 10) (punct 59 false (at 11 12) end)))
unfolding left is_end lookahead_at sees take_token take_lifetime take_mark take_group before rows_for rows run parse_rule
odd_impl_type_border_9 = not_read odd_impl_type _ refl

-- `type super ;`: nothing is read
odd_impl_type_border_10 : NotDerived (rule odd_impl_type)
    (leaf (ident w_type) (at 0 4) (leaf (ident w_super) (at 5 10) (punct 59 false (at 11 12) end)))
unfolding left is_end lookahead_at sees take_token take_lifetime take_mark take_group before rows_for rows run parse_rule
odd_impl_type_border_10 = not_read odd_impl_type _ refl

-- `type where ;`: nothing is read
odd_impl_type_border_11 : NotDerived (rule odd_impl_type)
    (leaf (ident w_type) (at 0 4) (leaf (ident w_where) (at 5 10) (punct 59 false (at 11 12) end)))
unfolding left is_end lookahead_at sees take_token take_lifetime take_mark take_group before rows_for rows run parse_rule
odd_impl_type_border_11 = not_read odd_impl_type _ refl

-- `; type auto ;`: nothing is read
odd_impl_type_border_12 : NotDerived (rule odd_impl_type)
    (punct 59 false (at 0 1) (leaf (ident w_type) (at 2 6) (leaf (ident w_auto) (at 7 11) (punct 59 false (at 12 13) end))))
unfolding left is_end lookahead_at sees take_token take_lifetime take_mark take_group before rows_for rows run parse_rule
odd_impl_type_border_12 = not_read odd_impl_type _ refl

-- `type ; auto ;`: nothing is read
odd_impl_type_border_13 : NotDerived (rule odd_impl_type)
    (leaf (ident w_type) (at 0 4) (punct 59 false (at 5 6) (leaf (ident w_auto) (at 7 11) (punct 59 false (at 12 13) end))))
unfolding left is_end lookahead_at sees take_token take_lifetime take_mark take_group before rows_for rows run parse_rule
odd_impl_type_border_13 = not_read odd_impl_type _ refl

-- `where union ;`: nothing is read
odd_impl_type_border_14 : NotDerived (rule odd_impl_type)
    (leaf (ident w_where) (at 0 5) (leaf (ident w_union) (at 6 11) (punct 59 false (at 12 13) end)))
unfolding left is_end lookahead_at sees take_token take_lifetime take_mark take_group before rows_for rows run parse_rule
odd_impl_type_border_14 = not_read odd_impl_type _ refl

-- `type a : b = ;`: nothing is read
odd_impl_type_border_15 : NotDerived (rule odd_impl_type)
    (leaf (ident w_type) (at 0 4) (leaf (ident (97 ∷ [])) (at 5 6) (punct 58 false (at 7 8) (leaf (ident (98 ∷ [])) (at 9 10) (punct 61 false (at 11 12) (punct 59 false (at 13 14) end))))))
unfolding left is_end lookahead_at sees take_token take_lifetime take_mark take_group before rows_for rows run parse_rule
odd_impl_type_border_15 = not_read odd_impl_type _ refl

-- `type a : b c ;`: nothing is read
odd_impl_type_border_16 : NotDerived (rule odd_impl_type)
    (leaf (ident w_type) (at 0 4) (leaf (ident (97 ∷ [])) (at 5 6) (punct 58 false (at 7 8) (leaf (ident (98 ∷ [])) (at 9 10) (leaf (ident (99 ∷ [])) (at 11 12) (punct 59 false (at 13 14) end))))))
unfolding left is_end lookahead_at sees take_token take_lifetime take_mark take_group before rows_for rows run parse_rule
odd_impl_type_border_16 = not_read odd_impl_type _ refl

-- `type default ;` prints `type default ;`
odd_impl_type_border_17 : DerivesAs odd_impl_type
    (leaf (ident w_type) (at 0 4) (leaf (ident w_default) (at 5 12) (punct 59 false (at 13 14) end)))
    (leaf (ident w_type) call_site (leaf (ident w_default) call_site (punct 59 false call_site end)))
    (end)
unfolding left is_end lookahead_at sees take_token take_lifetime take_mark take_group before rows_for rows run parse_rule
odd_impl_type_border_17 = computed odd_impl_type _ _ _ refl

-- `< > type auto ;`: nothing is read
odd_impl_type_border_18 : NotDerived (rule odd_impl_type)
    (punct 60 false (at 0 1) (punct 62 false (at 2 3) (leaf (ident w_type) (at 4 8) (leaf (ident w_auto) (at 9 13) (punct 59 false (at 14 15) end)))))
unfolding left is_end lookahead_at sees take_token take_lifetime take_mark take_group before rows_for rows run parse_rule
odd_impl_type_border_18 = not_read odd_impl_type _ refl

-- `pub type auto ;` prints `pub type auto ;`
odd_impl_type_border_19 : DerivesAs odd_impl_type
    (leaf (ident w_pub) (at 0 3) (leaf (ident w_type) (at 4 8) (leaf (ident w_auto) (at 9 13) (punct 59 false (at 14 15) end))))
    (leaf (ident w_pub) call_site (leaf (ident w_type) call_site (leaf (ident w_auto) call_site (punct 59 false call_site end))))
    (end)
unfolding left is_end lookahead_at sees take_token take_lifetime take_mark take_group before rows_for rows run parse_rule
odd_impl_type_border_19 = computed odd_impl_type _ _ _ refl

-- `type < > auto ;`: nothing is read
odd_impl_type_border_20 : NotDerived (rule odd_impl_type)
    (leaf (ident w_type) (at 0 4) (punct 60 false (at 5 6) (punct 62 false (at 7 8) (leaf (ident w_auto) (at 9 13) (punct 59 false (at 14 15) end)))))
unfolding left is_end lookahead_at sees take_token take_lifetime take_mark take_group before rows_for rows run parse_rule
odd_impl_type_border_20 = not_read odd_impl_type _ refl

-- `type auto < > ;` prints `type auto ;`
odd_impl_type_border_21 : DerivesAs odd_impl_type
    (leaf (ident w_type) (at 0 4) (leaf (ident w_auto) (at 5 9) (punct 60 false (at 10 11) (punct 62 false (at 12 13) (punct 59 false (at 14 15) end)))))
    (leaf (ident w_type) call_site (leaf (ident w_auto) call_site (punct 59 false call_site end)))
    (end)
unfolding left is_end lookahead_at sees take_token take_lifetime take_mark take_group before rows_for rows run parse_rule
odd_impl_type_border_21 = computed odd_impl_type _ _ _ refl

-- `type auto pub ;`: nothing is read
odd_impl_type_border_22 : NotDerived (rule odd_impl_type)
    (leaf (ident w_type) (at 0 4) (leaf (ident w_auto) (at 5 9) (leaf (ident w_pub) (at 10 13) (punct 59 false (at 14 15) end))))
unfolding left is_end lookahead_at sees take_token take_lifetime take_mark take_group before rows_for rows run parse_rule
odd_impl_type_border_22 = not_read odd_impl_type _ refl

-- `type pub auto ;`: nothing is read
odd_impl_type_border_23 : NotDerived (rule odd_impl_type)
    (leaf (ident w_type) (at 0 4) (leaf (ident w_pub) (at 5 8) (leaf (ident w_auto) (at 9 13) (punct 59 false (at 14 15) end))))
unfolding left is_end lookahead_at sees take_token take_lifetime take_mark take_group before rows_for rows run parse_rule
odd_impl_type_border_23 = not_read odd_impl_type _ refl

-- `type type auto ;`: nothing is read
odd_impl_type_border_24 : NotDerived (rule odd_impl_type)
    (leaf (ident w_type) (at 0 4) (leaf (ident w_type) (at 5 9) (leaf (ident w_auto) (at 10 14) (punct 59 false (at 15 16) end))))
unfolding left is_end lookahead_at sees take_token take_lifetime take_mark take_group before rows_for rows run parse_rule
odd_impl_type_border_24 = not_read odd_impl_type _ refl

-- `type auto where ;` prints `type auto where ;`
odd_impl_type_border_25 : DerivesAs odd_impl_type
    (leaf (ident w_type) (at 0 4) (leaf (ident w_auto) (at 5 9) (leaf (ident w_where) (at 10 15) (punct 59 false (at 16 17) end))))
    (leaf (ident w_type) call_site (leaf (ident w_auto) call_site (leaf (ident w_where) call_site (punct 59 false call_site end))))
    (end)
unfolding left is_end lookahead_at sees take_token take_lifetime take_mark take_group before rows_for rows run parse_rule
odd_impl_type_border_25 = computed odd_impl_type _ _ _ refl

-- `where type auto ;`: nothing is read
odd_impl_type_border_26 : NotDerived (rule odd_impl_type)
    (leaf (ident w_where) (at 0 5) (leaf (ident w_type) (at 6 10) (leaf (ident w_auto) (at 11 15) (punct 59 false (at 16 17) end))))
unfolding left is_end lookahead_at sees take_token take_lifetime take_mark take_group before rows_for rows run parse_rule
odd_impl_type_border_26 = not_read odd_impl_type _ refl

-- `type a : b = = c ;`: nothing is read
odd_impl_type_border_27 : NotDerived (rule odd_impl_type)
    (leaf (ident w_type) (at 0 4) (leaf (ident (97 ∷ [])) (at 5 6) (punct 58 false (at 7 8) (leaf (ident (98 ∷ [])) (at 9 10) (punct 61 false (at 11 12) (punct 61 false (at 13 14) (leaf (ident (99 ∷ [])) (at 15 16) (punct 59 false (at 17 18) end))))))))
unfolding left is_end lookahead_at sees take_token take_lifetime take_mark take_group before rows_for rows run parse_rule
odd_impl_type_border_27 = not_read odd_impl_type _ refl

-- `type a : b = b c ;`: nothing is read
odd_impl_type_border_28 : NotDerived (rule odd_impl_type)
    (leaf (ident w_type) (at 0 4) (leaf (ident (97 ∷ [])) (at 5 6) (punct 58 false (at 7 8) (leaf (ident (98 ∷ [])) (at 9 10) (punct 61 false (at 11 12) (leaf (ident (98 ∷ [])) (at 13 14) (leaf (ident (99 ∷ [])) (at 15 16) (punct 59 false (at 17 18) end))))))))
unfolding left is_end lookahead_at sees take_token take_lifetime take_mark take_group before rows_for rows run parse_rule
odd_impl_type_border_28 = not_read odd_impl_type _ refl

-- `default type auto ;` prints `default type auto ;`
odd_impl_type_border_29 : DerivesAs odd_impl_type
    (leaf (ident w_default) (at 0 7) (leaf (ident w_type) (at 8 12) (leaf (ident w_auto) (at 13 17) (punct 59 false (at 18 19) end))))
    (leaf (ident w_default) call_site (leaf (ident w_type) call_site (leaf (ident w_auto) call_site (punct 59 false call_site end))))
    (end)
unfolding left is_end lookahead_at sees take_token take_lifetime take_mark take_group before rows_for rows run parse_rule
odd_impl_type_border_29 = computed odd_impl_type _ _ _ refl

-- `type auto default ;`: nothing is read
odd_impl_type_border_30 : NotDerived (rule odd_impl_type)
    (leaf (ident w_type) (at 0 4) (leaf (ident w_auto) (at 5 9) (leaf (ident w_default) (at 10 17) (punct 59 false (at 18 19) end))))
unfolding left is_end lookahead_at sees take_token take_lifetime take_mark take_group before rows_for rows run parse_rule
odd_impl_type_border_30 = not_read odd_impl_type _ refl

-- `type a : = c b = c ;`: nothing is read
odd_impl_type_border_31 : NotDerived (rule odd_impl_type)
    (leaf (ident w_type) (at 0 4) (leaf (ident (97 ∷ [])) (at 5 6) (punct 58 false (at 7 8) (punct 61 false (at 9 10) (leaf (ident (99 ∷ [])) (at 11 12) (leaf (ident (98 ∷ [])) (at 13 14) (punct 61 false (at 15 16) (leaf (ident (99 ∷ [])) (at 17 18) (punct 59 false (at 19 20) end)))))))))
unfolding left is_end lookahead_at sees take_token take_lifetime take_mark take_group before rows_for rows run parse_rule
odd_impl_type_border_31 = not_read odd_impl_type _ refl

-- `type a : b = c = c ;`: nothing is read
odd_impl_type_border_32 : NotDerived (rule odd_impl_type)
    (leaf (ident w_type) (at 0 4) (leaf (ident (97 ∷ [])) (at 5 6) (punct 58 false (at 7 8) (leaf (ident (98 ∷ [])) (at 9 10) (punct 61 false (at 11 12) (leaf (ident (99 ∷ [])) (at 13 14) (punct 61 false (at 15 16) (leaf (ident (99 ∷ [])) (at 17 18) (punct 59 false (at 19 20) end)))))))))
unfolding left is_end lookahead_at sees take_token take_lifetime take_mark take_group before rows_for rows run parse_rule
odd_impl_type_border_32 = not_read odd_impl_type _ refl

-- `default type safe : : ;`: nothing is read
odd_impl_type_border_33 : NotDerived (rule odd_impl_type)
    (leaf (ident w_default) (at 0 7) (leaf (ident w_type) (at 8 12) (leaf (ident w_safe) (at 13 17) (punct 58 false (at 18 19) (punct 58 false (at 20 21) (punct 59 false (at 22 23) end))))))
unfolding left is_end lookahead_at sees take_token take_lifetime take_mark take_group before rows_for rows run parse_rule
odd_impl_type_border_33 = not_read odd_impl_type _ refl

-- `default default safe : ;`: nothing is read
odd_impl_type_border_34 : NotDerived (rule odd_impl_type)
    (leaf (ident w_default) (at 0 7) (leaf (ident w_default) (at 8 15) (leaf (ident w_safe) (at 16 20) (punct 58 false (at 21 22) (punct 59 false (at 23 24) end)))))
unfolding left is_end lookahead_at sees take_token take_lifetime take_mark take_group before rows_for rows run parse_rule
odd_impl_type_border_34 = not_read odd_impl_type _ refl

-- `type union : = c where ;` prints `type union : = c where ;`
odd_impl_type_border_35 : DerivesAs odd_impl_type
    (leaf (ident w_type) (at 0 4) (leaf (ident w_union) (at 5 10) (punct 58 false (at 11 12) (punct 61 false (at 13 14) (leaf (ident (99 ∷ [])) (at 15 16) (leaf (ident w_where) (at 17 22) (punct 59 false (at 23 24) end)))))))
    (leaf (ident w_type) call_site (leaf (ident w_union) call_site (punct 58 false call_site (punct 61 false call_site (leaf (ident (99 ∷ [])) call_site (leaf (ident w_where) call_site (punct 59 false call_site end)))))))
    (end)
unfolding left is_end lookahead_at sees take_token take_lifetime take_mark take_group before rows_for rows run parse_rule
odd_impl_type_border_35 = computed odd_impl_type _ _ _ refl

-- `type union : where = c ;`: nothing is read
odd_impl_type_border_36 : NotDerived (rule odd_impl_type)
    (leaf (ident w_type) (at 0 4) (leaf (ident w_union) (at 5 10) (punct 58 false (at 11 12) (leaf (ident w_where) (at 13 18) (punct 61 false (at 19 20) (leaf (ident (99 ∷ [])) (at 21 22) (punct 59 false (at 23 24) end)))))))
unfolding left is_end lookahead_at sees take_token take_lifetime take_mark take_group before rows_for rows run parse_rule
odd_impl_type_border_36 = not_read odd_impl_type _ refl

-- `default pub type safe : ;`: nothing is read
odd_impl_type_border_37 : NotDerived (rule odd_impl_type)
    (leaf (ident w_default) (at 0 7) (leaf (ident w_pub) (at 8 11) (leaf (ident w_type) (at 12 16) (leaf (ident w_safe) (at 17 21) (punct 58 false (at 22 23) (punct 59 false (at 24 25) end))))))
unfolding left is_end lookahead_at sees take_token take_lifetime take_mark take_group before rows_for rows run parse_rule
odd_impl_type_border_37 = not_read odd_impl_type _ refl

-- `default type safe : c : ;`: nothing is read
odd_impl_type_border_38 : NotDerived (rule odd_impl_type)
    (leaf (ident w_default) (at 0 7) (leaf (ident w_type) (at 8 12) (leaf (ident w_safe) (at 13 17) (punct 58 false (at 18 19) (leaf (ident (99 ∷ [])) (at 20 21) (punct 58 false (at 22 23) (punct 59 false (at 24 25) end)))))))
unfolding left is_end lookahead_at sees take_token take_lifetime take_mark take_group before rows_for rows run parse_rule
odd_impl_type_border_38 = not_read odd_impl_type _ refl

-- `type union : where where ;`: nothing is read
odd_impl_type_border_39 : NotDerived (rule odd_impl_type)
    (leaf (ident w_type) (at 0 4) (leaf (ident w_union) (at 5 10) (punct 58 false (at 11 12) (leaf (ident w_where) (at 13 18) (leaf (ident w_where) (at 19 24) (punct 59 false (at 25 26) end))))))
unfolding left is_end lookahead_at sees take_token take_lifetime take_mark take_group before rows_for rows run parse_rule
odd_impl_type_border_39 = not_read odd_impl_type _ refl

-- `default default type safe : ;`: nothing is read
odd_impl_type_border_40 : NotDerived (rule odd_impl_type)
    (leaf (ident w_default) (at 0 7) (leaf (ident w_default) (at 8 15) (leaf (ident w_type) (at 16 20) (leaf (ident w_safe) (at 21 25) (punct 58 false (at 26 27) (punct 59 false (at 28 29) end))))))
unfolding left is_end lookahead_at sees take_token take_lifetime take_mark take_group before rows_for rows run parse_rule
odd_impl_type_border_40 = not_read odd_impl_type _ refl

-- `default type default type : ;`: nothing is read
odd_impl_type_border_41 : NotDerived (rule odd_impl_type)
    (leaf (ident w_default) (at 0 7) (leaf (ident w_type) (at 8 12) (leaf (ident w_default) (at 13 20) (leaf (ident w_type) (at 21 25) (punct 58 false (at 26 27) (punct 59 false (at 28 29) end))))))
unfolding left is_end lookahead_at sees take_token take_lifetime take_mark take_group before rows_for rows run parse_rule
odd_impl_type_border_41 = not_read odd_impl_type _ refl

-- `auto ;`: nothing is read
kept_impl_item_border_1 : NotDerived (rule kept_impl_item)
    (leaf (ident w_auto) (at 0 4) (punct 59 false (at 5 6) end))
unfolding left is_end lookahead_at sees take_token take_lifetime take_mark take_group before first_span rows_for rows run parse_rule
kept_impl_item_border_1 = not_read kept_impl_item _ refl

-- `const _ : ! ;` prints `const _ : ! ;`
kept_impl_item_border_2 : DerivesAs kept_impl_item
    (leaf (ident w_const) (at 0 5) (leaf (ident w_underscore) (at 6 7) (punct 58 false (at 8 9) (punct 33 false (at 10 11) (punct 59 false (at 12 13) end)))))
    (leaf (ident w_const) call_site (leaf (ident w_underscore) call_site (punct 58 false call_site (punct 33 false call_site (punct 59 false call_site end)))))
    (end)
unfolding left is_end lookahead_at sees take_token take_lifetime take_mark take_group before first_span rows_for rows run parse_rule
kept_impl_item_border_2 = computed kept_impl_item _ _ _ refl

-- `mut T :!`: nothing is read
bare_foreign_static_border_1 : NotDerived (rule bare_foreign_static)
    (leaf (ident w_mut) (at 0 3) (leaf (ident (84 ∷ [])) (at 4 5) (punct 58 true (at 6 7) (punct 33 false (at 7 8) end))))
unfolding left is_end lookahead_at sees take_token take_lifetime take_mark take_group before rows_for rows run parse_rule
bare_foreign_static_border_1 = not_read bare_foreign_static _ refl

-- `static 1 : !`: nothing is read
bare_foreign_static_border_2 : NotDerived (rule bare_foreign_static)
    (leaf (ident w_static) (at 0 6) (leaf (literal Int (49 ∷ [])) (at 7 8) (punct 58 false (at 9 10) (punct 33 false (at 11 12) end))))
unfolding left is_end lookahead_at sees take_token take_lifetime take_mark take_group before rows_for rows run parse_rule
bare_foreign_static_border_2 = not_read bare_foreign_static _ refl

-- `static _ : !`: nothing is read
bare_foreign_static_border_3 : NotDerived (rule bare_foreign_static)
    (leaf (ident w_static) (at 0 6) (leaf (ident w_underscore) (at 7 8) (punct 58 false (at 9 10) (punct 33 false (at 11 12) end))))
unfolding left is_end lookahead_at sees take_token take_lifetime take_mark take_group before rows_for rows run parse_rule
bare_foreign_static_border_3 = not_read bare_foreign_static _ refl

-- `static auto :`: nothing is read
bare_foreign_static_border_4 : NotDerived (rule bare_foreign_static)
    (leaf (ident w_static) (at 0 6) (leaf (ident w_auto) (at 7 11) (punct 58 false (at 12 13) end)))
unfolding left is_end lookahead_at sees take_token take_lifetime take_mark take_group before rows_for rows run parse_rule
bare_foreign_static_border_4 = not_read bare_foreign_static _ refl

-- `static fn : !`: nothing is read
bare_foreign_static_border_5 : NotDerived (rule bare_foreign_static)
    (leaf (ident w_static) (at 0 6) (leaf (ident w_fn) (at 7 9) (punct 58 false (at 10 11) (punct 33 false (at 12 13) end))))
unfolding left is_end lookahead_at sees take_token take_lifetime take_mark take_group before rows_for rows run parse_rule
bare_foreign_static_border_5 = not_read bare_foreign_static _ refl

-- `static Self : !`: nothing is read
bare_foreign_static_border_6 : NotDerived (rule bare_foreign_static)
    (leaf (ident w_static) (at 0 6) (leaf (ident w_Self_type) (at 7 11) (punct 58 false (at 12 13) (punct 33 false (at 14 15) end))))
unfolding left is_end lookahead_at sees take_token take_lifetime take_mark take_group before rows_for rows run parse_rule
bare_foreign_static_border_6 = not_read bare_foreign_static _ refl

-- `static auto ::!`: nothing is read
bare_foreign_static_border_7 : NotDerived (rule bare_foreign_static)
    (leaf (ident w_static) (at 0 6) (leaf (ident w_auto) (at 7 11) (punct 58 true (at 12 13) (punct 58 true (at 13 14) (punct 33 false (at 14 15) end)))))
unfolding left is_end lookahead_at sees take_token take_lifetime take_mark take_group before rows_for rows run parse_rule
bare_foreign_static_border_7 = not_read bare_foreign_static _ refl

-- `static auto = !`: nothing is read
bare_foreign_static_border_8 : NotDerived (rule bare_foreign_static)
    (leaf (ident w_static) (at 0 6) (leaf (ident w_auto) (at 7 11) (punct 61 false (at 12 13) (punct 33 false (at 14 15) end))))
unfolding left is_end lookahead_at sees take_token take_lifetime take_mark take_group before rows_for rows run parse_rule
bare_foreign_static_border_8 = not_read bare_foreign_static _ refl

-- `static safe : !` prints `static safe : !`
bare_foreign_static_border_9 : DerivesAs bare_foreign_static
    (leaf (ident w_static) (at 0 6) (leaf (ident w_safe) (at 7 11) (punct 58 false (at 12 13) (punct 33 false (at 14 15) end))))
    (leaf (ident w_static) call_site (leaf (ident w_safe) call_site (punct 58 false call_site (punct 33 false call_site end))))
    (end)
unfolding left is_end lookahead_at sees take_token take_lifetime take_mark take_group before rows_for rows run parse_rule
bare_foreign_static_border_9 = computed bare_foreign_static _ _ _ refl

-- `static self : !`: nothing is read
bare_foreign_static_border_10 : NotDerived (rule bare_foreign_static)
    (leaf (ident w_static) (at 0 6) (leaf (ident w_self) (at 7 11) (punct 58 false (at 12 13) (punct 33 false (at 14 15) end))))
unfolding left is_end lookahead_at sees take_token take_lifetime take_mark take_group before rows_for rows run parse_rule
bare_foreign_static_border_10 = not_read bare_foreign_static _ refl

-- `static crate : !`: nothing is read
bare_foreign_static_border_11 : NotDerived (rule bare_foreign_static)
    (leaf (ident w_static) (at 0 6) (leaf (ident w_crate) (at 7 12) (punct 58 false (at 13 14) (punct 33 false (at 15 16) end))))
unfolding left is_end lookahead_at sees take_token take_lifetime take_mark take_group before rows_for rows run parse_rule
bare_foreign_static_border_11 = not_read bare_foreign_static _ refl

-- `static super : !`: nothing is read
bare_foreign_static_border_12 : NotDerived (rule bare_foreign_static)
    (leaf (ident w_static) (at 0 6) (leaf (ident w_super) (at 7 12) (punct 58 false (at 13 14) (punct 33 false (at 15 16) end))))
unfolding left is_end lookahead_at sees take_token take_lifetime take_mark take_group before rows_for rows run parse_rule
bare_foreign_static_border_12 = not_read bare_foreign_static _ refl

-- `static union : !` prints `static union : !`
bare_foreign_static_border_13 : DerivesAs bare_foreign_static
    (leaf (ident w_static) (at 0 6) (leaf (ident w_union) (at 7 12) (punct 58 false (at 13 14) (punct 33 false (at 15 16) end))))
    (leaf (ident w_static) call_site (leaf (ident w_union) call_site (punct 58 false call_site (punct 33 false call_site end))))
    (end)
unfolding left is_end lookahead_at sees take_token take_lifetime take_mark take_group before rows_for rows run parse_rule
bare_foreign_static_border_13 = computed bare_foreign_static _ _ _ refl

-- `static x : mut !`: nothing is read
bare_foreign_static_border_14 : NotDerived (rule bare_foreign_static)
    (leaf (ident w_static) (at 0 6) (leaf (ident (120 ∷ [])) (at 7 8) (punct 58 false (at 9 10) (leaf (ident w_mut) (at 11 14) (punct 33 false (at 15 16) end)))))
unfolding left is_end lookahead_at sees take_token take_lifetime take_mark take_group before rows_for rows run parse_rule
bare_foreign_static_border_14 = not_read bare_foreign_static _ refl

-- `: static safe :()`: nothing is read
bare_foreign_static_border_15 : NotDerived (rule bare_foreign_static)
    (punct 58 false (at 0 1) (leaf (ident w_static) (at 2 8) (leaf (ident w_safe) (at 9 13) (punct 58 false (at 14 15) (group Paren (at 15 16) (at 16 17) end end)))))
unfolding left is_end lookahead_at sees take_token take_lifetime take_mark take_group before rows_for rows run parse_rule
bare_foreign_static_border_15 = not_read bare_foreign_static _ refl

-- `b static auto : !`: nothing is read
bare_foreign_static_border_16 : NotDerived (rule bare_foreign_static)
    (leaf (ident (98 ∷ [])) (at 0 1) (leaf (ident w_static) (at 2 8) (leaf (ident w_auto) (at 9 13) (punct 58 false (at 14 15) (punct 33 false (at 16 17) end)))))
unfolding left is_end lookahead_at sees take_token take_lifetime take_mark take_group before rows_for rows run parse_rule
bare_foreign_static_border_16 = not_read bare_foreign_static _ refl

-- `static a safe : !`: nothing is read
bare_foreign_static_border_17 : NotDerived (rule bare_foreign_static)
    (leaf (ident w_static) (at 0 6) (leaf (ident (97 ∷ [])) (at 7 8) (leaf (ident w_safe) (at 9 13) (punct 58 false (at 14 15) (punct 33 false (at 16 17) end)))))
unfolding left is_end lookahead_at sees take_token take_lifetime take_mark take_group before rows_for rows run parse_rule
bare_foreign_static_border_17 = not_read bare_foreign_static _ refl

-- `static : union : ()`: nothing is read
bare_foreign_static_border_18 : NotDerived (rule bare_foreign_static)
    (leaf (ident w_static) (at 0 6) (punct 58 false (at 7 8) (leaf (ident w_union) (at 9 14) (punct 58 false (at 15 16) (group Paren (at 17 18) (at 18 19) end end)))))
unfolding left is_end lookahead_at sees take_token take_lifetime take_mark take_group before rows_for rows run parse_rule
bare_foreign_static_border_18 = not_read bare_foreign_static _ refl

-- `static mut mut : ()`: nothing is read
bare_foreign_static_border_19 : NotDerived (rule bare_foreign_static)
    (leaf (ident w_static) (at 0 6) (leaf (ident w_mut) (at 7 10) (leaf (ident w_mut) (at 11 14) (punct 58 false (at 15 16) (group Paren (at 17 18) (at 18 19) end end)))))
unfolding left is_end lookahead_at sees take_token take_lifetime take_mark take_group before rows_for rows run parse_rule
bare_foreign_static_border_19 = not_read bare_foreign_static _ refl

-- `static mut mut T :!`: nothing is read
bare_foreign_static_border_20 : NotDerived (rule bare_foreign_static)
    (leaf (ident w_static) (at 0 6) (leaf (ident w_mut) (at 7 10) (leaf (ident w_mut) (at 11 14) (leaf (ident (84 ∷ [])) (at 15 16) (punct 58 true (at 17 18) (punct 33 false (at 18 19) end))))))
unfolding left is_end lookahead_at sees take_token take_lifetime take_mark take_group before rows_for rows run parse_rule
bare_foreign_static_border_20 = not_read bare_foreign_static _ refl

-- `static mut static :!`: nothing is read
bare_foreign_static_border_21 : NotDerived (rule bare_foreign_static)
    (leaf (ident w_static) (at 0 6) (leaf (ident w_mut) (at 7 10) (leaf (ident w_static) (at 11 17) (punct 58 true (at 18 19) (punct 33 false (at 19 20) end)))))
unfolding left is_end lookahead_at sees take_token take_lifetime take_mark take_group before rows_for rows run parse_rule
bare_foreign_static_border_21 = not_read bare_foreign_static _ refl

-- `static union mut : !`: nothing is read
bare_foreign_static_border_22 : NotDerived (rule bare_foreign_static)
    (leaf (ident w_static) (at 0 6) (leaf (ident w_union) (at 7 12) (leaf (ident w_mut) (at 13 16) (punct 58 false (at 17 18) (punct 33 false (at 19 20) end)))))
unfolding left is_end lookahead_at sees take_token take_lifetime take_mark take_group before rows_for rows run parse_rule
bare_foreign_static_border_22 = not_read bare_foreign_static _ refl

-- `static auto : unsafe !`: nothing is read
bare_foreign_static_border_23 : NotDerived (rule bare_foreign_static)
    (leaf (ident w_static) (at 0 6) (leaf (ident w_auto) (at 7 11) (punct 58 false (at 12 13) (leaf (ident w_unsafe) (at 14 20) (punct 33 false (at 21 22) end)))))
unfolding left is_end lookahead_at sees take_token take_lifetime take_mark take_group before rows_for rows run parse_rule
bare_foreign_static_border_23 = not_read bare_foreign_static _ refl

-- `static static auto : !`: nothing is read
bare_foreign_static_border_24 : NotDerived (rule bare_foreign_static)
    (leaf (ident w_static) (at 0 6) (leaf (ident w_static) (at 7 13) (leaf (ident w_auto) (at 14 18) (punct 58 false (at 19 20) (punct 33 false (at 21 22) end)))))
unfolding left is_end lookahead_at sees take_token take_lifetime take_mark take_group before rows_for rows run parse_rule
bare_foreign_static_border_24 = not_read bare_foreign_static _ refl

-- `mut static mut auto : auto`: nothing is read
bare_foreign_static_border_25 : NotDerived (rule bare_foreign_static)
    (leaf (ident w_mut) (at 0 3) (leaf (ident w_static) (at 4 10) (leaf (ident w_mut) (at 11 14) (leaf (ident w_auto) (at 15 19) (punct 58 false (at 20 21) (leaf (ident w_auto) (at 22 26) end))))))
unfolding left is_end lookahead_at sees take_token take_lifetime take_mark take_group before rows_for rows run parse_rule
bare_foreign_static_border_25 = not_read bare_foreign_static _ refl

-- `static union static : safe`: nothing is read
bare_foreign_static_border_26 : NotDerived (rule bare_foreign_static)
    (leaf (ident w_static) (at 0 6) (leaf (ident w_union) (at 7 12) (leaf (ident w_static) (at 13 19) (punct 58 false (at 20 21) (leaf (ident w_safe) (at 22 26) end)))))
unfolding left is_end lookahead_at sees take_token take_lifetime take_mark take_group before rows_for rows run parse_rule
bare_foreign_static_border_26 = not_read bare_foreign_static _ refl

-- `static auto :static default`: nothing is read
bare_foreign_static_border_27 : NotDerived (rule bare_foreign_static)
    (leaf (ident w_static) (at 0 6) (leaf (ident w_auto) (at 7 11) (punct 58 false (at 12 13) (leaf (ident w_static) (at 13 19) (leaf (ident w_default) (at 20 27) end)))))
unfolding left is_end lookahead_at sees take_token take_lifetime take_mark take_group before rows_for rows run parse_rule
bare_foreign_static_border_27 = not_read bare_foreign_static _ refl

-- `unsafe unsafe static mut a : b`: nothing is read
bare_foreign_static_border_28 : NotDerived (rule bare_foreign_static)
    (leaf (ident w_unsafe) (at 0 6) (leaf (ident w_unsafe) (at 7 13) (leaf (ident w_static) (at 14 20) (leaf (ident w_mut) (at 21 24) (leaf (ident (97 ∷ [])) (at 25 26) (punct 58 false (at 27 28) (leaf (ident (98 ∷ [])) (at 29 30) end)))))))
unfolding left is_end lookahead_at sees take_token take_lifetime take_mark take_group before rows_for rows run parse_rule
bare_foreign_static_border_28 = not_read bare_foreign_static _ refl

-- `{} fn auto () {}`: nothing is read
foreign_body_border_1 : NotDerived (rule foreign_body)
    (group Brace (at 0 1) (at 1 2) end (leaf (ident w_fn) (at 3 5) (leaf (ident w_auto) (at 6 10) (group Paren (at 11 12) (at 12 13) end (group Brace (at 14 15) (at 15 16) end end)))))
unfolding left is_end lookahead_at sees take_token take_lifetime take_mark take_group before first_span rows_for rows run parse_rule
foreign_body_border_1 = not_read foreign_body _ refl

-- `fn auto () pub {}`: nothing is read
foreign_body_border_2 : NotDerived (rule foreign_body)
    (leaf (ident w_fn) (at 0 2) (leaf (ident w_auto) (at 3 7) (group Paren (at 8 9) (at 9 10) end (leaf (ident w_pub) (at 11 14) (group Brace (at 15 16) (at 16 17) end end)))))
unfolding left is_end lookahead_at sees take_token take_lifetime take_mark take_group before first_span rows_for rows run parse_rule
foreign_body_border_2 = not_read foreign_body _ refl

-- `pub pub safe fn a () {}`: nothing is read
foreign_body_border_3 : NotDerived (rule foreign_body)
    (leaf (ident w_pub) (at 0 3) (leaf (ident w_pub) (at 4 7) (leaf (ident w_safe) (at 8 12) (leaf (ident w_fn) (at 13 15) (leaf (ident (97 ∷ [])) (at 16 17) (group Paren (at 18 19) (at 19 20) end (group Brace (at 21 22) (at 22 23) end end)))))))
unfolding left is_end lookahead_at sees take_token take_lifetime take_mark take_group before first_span rows_for rows run parse_rule
foreign_body_border_3 = not_read foreign_body _ refl

-- `fn safe () fn auto () {}`: nothing is read
foreign_body_border_4 : NotDerived (rule foreign_body)
    (leaf (ident w_fn) (at 0 2) (leaf (ident w_safe) (at 3 7) (group Paren (at 8 9) (at 9 10) end (leaf (ident w_fn) (at 11 13) (leaf (ident w_auto) (at 14 18) (group Paren (at 19 20) (at 20 21) end (group Brace (at 22 23) (at 23 24) end end)))))))
unfolding left is_end lookahead_at sees take_token take_lifetime take_mark take_group before first_span rows_for rows run parse_rule
foreign_body_border_4 = not_read foreign_body _ refl

-- `= break ;`: nothing is read
foreign_value_border_1 : NotDerived (rule foreign_value)
    (punct 61 false (at 0 1) (leaf (ident w_break) (at 2 7) (punct 59 false (at 8 9) end)))
unfolding left is_end lookahead_at sees take_token take_lifetime take_mark take_group before rows_for rows run parse_rule
foreign_value_border_1 = not_read foreign_value _ refl

-- `1 static a : b = c ;`: nothing is read
foreign_value_border_2 : NotDerived (rule foreign_value)
    (leaf (literal Int (49 ∷ [])) (at 0 1) (leaf (ident w_static) (at 2 8) (leaf (ident (97 ∷ [])) (at 9 10) (punct 58 false (at 11 12) (leaf (ident (98 ∷ [])) (at 13 14) (punct 61 false (at 15 16) (leaf (ident (99 ∷ [])) (at 17 18) (punct 59 false (at 19 20) end))))))))
unfolding left is_end lookahead_at sees take_token take_lifetime take_mark take_group before rows_for rows run parse_rule
foreign_value_border_2 = not_read foreign_value _ refl

-- `static a : ! false ;`: nothing is read
foreign_value_border_3 : NotDerived (rule foreign_value)
    (leaf (ident w_static) (at 0 6) (leaf (ident (97 ∷ [])) (at 7 8) (punct 58 false (at 9 10) (punct 33 false (at 11 12) (leaf (ident w_false) (at 13 18) (punct 59 false (at 19 20) end))))))
unfolding left is_end lookahead_at sees take_token take_lifetime take_mark take_group before rows_for rows run parse_rule
foreign_value_border_3 = not_read foreign_value _ refl

-- `pub static a : ! = false ;` prints `pub static a : ! = false ;`
foreign_value_border_4 : DerivesAs foreign_value
    (leaf (ident w_pub) (at 0 3) (leaf (ident w_static) (at 4 10) (leaf (ident (97 ∷ [])) (at 11 12) (punct 58 false (at 13 14) (punct 33 false (at 15 16) (punct 61 false (at 17 18) (leaf (ident w_false) (at 19 24) (punct 59 false (at 25 26) end))))))))
    (leaf (ident w_pub) call_site (leaf (ident w_static) call_site (leaf (ident (97 ∷ [])) call_site (punct 58 false call_site (punct 33 false call_site (punct 61 false call_site (leaf (ident w_false) call_site (punct 59 false call_site end))))))))
    (end)
unfolding left is_end lookahead_at sees take_token take_lifetime take_mark take_group before rows_for rows run parse_rule
foreign_value_border_4 = computed foreign_value _ _ _ refl

-- `static a : ! = false pub ;`: nothing is read
foreign_value_border_5 : NotDerived (rule foreign_value)
    (leaf (ident w_static) (at 0 6) (leaf (ident (97 ∷ [])) (at 7 8) (punct 58 false (at 9 10) (punct 33 false (at 11 12) (punct 61 false (at 13 14) (leaf (ident w_false) (at 15 20) (leaf (ident w_pub) (at 21 24) (punct 59 false (at 25 26) end))))))))
unfolding left is_end lookahead_at sees take_token take_lifetime take_mark take_group before rows_for rows run parse_rule
foreign_value_border_5 = not_read foreign_value _ refl

-- `static a : ! = pub false ;`: nothing is read
foreign_value_border_6 : NotDerived (rule foreign_value)
    (leaf (ident w_static) (at 0 6) (leaf (ident (97 ∷ [])) (at 7 8) (punct 58 false (at 9 10) (punct 33 false (at 11 12) (punct 61 false (at 13 14) (leaf (ident w_pub) (at 15 18) (leaf (ident w_false) (at 19 24) (punct 59 false (at 25 26) end))))))))
unfolding left is_end lookahead_at sees take_token take_lifetime take_mark take_group before rows_for rows run parse_rule
foreign_value_border_6 = not_read foreign_value _ refl

-- `static a : ! pub = false ;`: nothing is read
foreign_value_border_7 : NotDerived (rule foreign_value)
    (leaf (ident w_static) (at 0 6) (leaf (ident (97 ∷ [])) (at 7 8) (punct 58 false (at 9 10) (punct 33 false (at 11 12) (leaf (ident w_pub) (at 13 16) (punct 61 false (at 17 18) (leaf (ident w_false) (at 19 24) (punct 59 false (at 25 26) end))))))))
unfolding left is_end lookahead_at sees take_token take_lifetime take_mark take_group before rows_for rows run parse_rule
foreign_value_border_7 = not_read foreign_value _ refl

-- `static auto : ! == () () ;`: nothing is read
foreign_value_border_8 : NotDerived (rule foreign_value)
    (leaf (ident w_static) (at 0 6) (leaf (ident w_auto) (at 7 11) (punct 58 false (at 12 13) (punct 33 false (at 14 15) (punct 61 true (at 16 17) (punct 61 false (at 17 18) (group Paren (at 19 20) (at 20 21) end (group Paren (at 22 23) (at 23 24) end (punct 59 false (at 25 26) end)))))))))
unfolding left is_end lookahead_at sees take_token take_lifetime take_mark take_group before rows_for rows run parse_rule
foreign_value_border_8 = not_read foreign_value _ refl

-- `=static union : () = b"x" ;`: nothing is read
foreign_value_border_9 : NotDerived (rule foreign_value)
    (punct 61 false (at 0 1) (leaf (ident w_static) (at 1 7) (leaf (ident w_union) (at 8 13) (punct 58 false (at 14 15) (group Paren (at 16 17) (at 17 18) end (punct 61 false (at 19 20) (leaf (literal ByteStr (98 ∷ 34 ∷ 120 ∷ 34 ∷ [])) (at 21 25) (punct 59 false (at 26 27) end))))))))
unfolding left is_end lookahead_at sees take_token take_lifetime take_mark take_group before rows_for rows run parse_rule
foreign_value_border_9 = not_read foreign_value _ refl

-- `static default : ! = safe ;` prints `static default : ! = safe ;`
foreign_value_border_10 : DerivesAs foreign_value
    (leaf (ident w_static) (at 0 6) (leaf (ident w_default) (at 7 14) (punct 58 false (at 15 16) (punct 33 false (at 17 18) (punct 61 false (at 19 20) (leaf (ident w_safe) (at 21 25) (punct 59 false (at 26 27) end)))))))
    (leaf (ident w_static) call_site (leaf (ident w_default) call_site (punct 58 false call_site (punct 33 false call_site (punct 61 false call_site (leaf (ident w_safe) call_site (punct 59 false call_site end)))))))
    (end)
unfolding left is_end lookahead_at sees take_token take_lifetime take_mark take_group before rows_for rows run parse_rule
foreign_value_border_10 = computed foreign_value _ _ _ refl

-- `static default :! = false ,`: nothing is read
foreign_value_border_11 : NotDerived (rule foreign_value)
    (leaf (ident w_static) (at 0 6) (leaf (ident w_default) (at 7 14) (punct 58 true (at 15 16) (punct 33 false (at 16 17) (punct 61 false (at 18 19) (leaf (ident w_false) (at 20 25) (punct 44 false (at 26 27) end)))))))
unfolding left is_end lookahead_at sees take_token take_lifetime take_mark take_group before rows_for rows run parse_rule
foreign_value_border_11 = not_read foreign_value _ refl

-- `; static default :! = false ;`: nothing is read
foreign_value_border_12 : NotDerived (rule foreign_value)
    (punct 59 false (at 0 1) (leaf (ident w_static) (at 2 8) (leaf (ident w_default) (at 9 16) (punct 58 true (at 17 18) (punct 33 false (at 18 19) (punct 61 false (at 20 21) (leaf (ident w_false) (at 22 27) (punct 59 false (at 28 29) end))))))))
unfolding left is_end lookahead_at sees take_token take_lifetime take_mark take_group before rows_for rows run parse_rule
foreign_value_border_12 = not_read foreign_value _ refl

-- `static default :! ; = false ;`: nothing is read
foreign_value_border_13 : NotDerived (rule foreign_value)
    (leaf (ident w_static) (at 0 6) (leaf (ident w_default) (at 7 14) (punct 58 true (at 15 16) (punct 33 false (at 16 17) (punct 59 false (at 18 19) (punct 61 false (at 20 21) (leaf (ident w_false) (at 22 27) (punct 59 false (at 28 29) end))))))))
unfolding left is_end lookahead_at sees take_token take_lifetime take_mark take_group before rows_for rows run parse_rule
foreign_value_border_13 = not_read foreign_value _ refl

-- `static default :! = ; false ;`: nothing is read
foreign_value_border_14 : NotDerived (rule foreign_value)
    (leaf (ident w_static) (at 0 6) (leaf (ident w_default) (at 7 14) (punct 58 true (at 15 16) (punct 33 false (at 16 17) (punct 61 false (at 18 19) (punct 59 false (at 20 21) (leaf (ident w_false) (at 22 27) (punct 59 false (at 28 29) end))))))))
unfolding left is_end lookahead_at sees take_token take_lifetime take_mark take_group before rows_for rows run parse_rule
foreign_value_border_14 = not_read foreign_value _ refl

-- `static default :! = c = false ;` prints `static default : ! = c = false ;`
foreign_value_border_15 : DerivesAs foreign_value
    (leaf (ident w_static) (at 0 6) (leaf (ident w_default) (at 7 14) (punct 58 true (at 15 16) (punct 33 false (at 16 17) (punct 61 false (at 18 19) (leaf (ident (99 ∷ [])) (at 20 21) (punct 61 false (at 22 23) (leaf (ident w_false) (at 24 29) (punct 59 false (at 30 31) end)))))))))
    (leaf (ident w_static) call_site (leaf (ident w_default) call_site (punct 58 false call_site (punct 33 false call_site (punct 61 false call_site (leaf (ident (99 ∷ [])) call_site (punct 61 false call_site (leaf (ident w_false) call_site (punct 59 false call_site end)))))))))
    (end)
unfolding left is_end lookahead_at sees take_token take_lifetime take_mark take_group before rows_for rows run parse_rule
foreign_value_border_15 = computed foreign_value _ _ _ refl

-- `static a : auto = () static x : () ;`: nothing is read
foreign_value_border_16 : NotDerived (rule foreign_value)
    (leaf (ident w_static) (at 0 6) (leaf (ident (97 ∷ [])) (at 7 8) (punct 58 false (at 9 10) (leaf (ident w_auto) (at 11 15) (punct 61 false (at 16 17) (group Paren (at 18 19) (at 19 20) end (leaf (ident w_static) (at 21 27) (leaf (ident (120 ∷ [])) (at 28 29) (punct 58 false (at 30 31) (group Paren (at 32 33) (at 33 34) end (punct 59 false (at 35 36) end)))))))))))
unfolding left is_end lookahead_at sees take_token take_lifetime take_mark take_group before rows_for rows run parse_rule
foreign_value_border_16 = not_read foreign_value _ refl

-- `pub pub static union : () = loop {} ;`: nothing is read
foreign_value_border_17 : NotDerived (rule foreign_value)
    (leaf (ident w_pub) (at 0 3) (leaf (ident w_pub) (at 4 7) (leaf (ident w_static) (at 8 14) (leaf (ident w_union) (at 15 20) (punct 58 false (at 21 22) (group Paren (at 23 24) (at 24 25) end (punct 61 false (at 26 27) (leaf (ident w_loop) (at 28 32) (group Brace (at 33 34) (at 34 35) end (punct 59 false (at 36 37) end))))))))))
unfolding left is_end lookahead_at sees take_token take_lifetime take_mark take_group before rows_for rows run parse_rule
foreign_value_border_17 = not_read foreign_value _ refl

-- `static default : self = true continue ;`: nothing is read
foreign_value_border_18 : NotDerived (rule foreign_value)
    (leaf (ident w_static) (at 0 6) (leaf (ident w_default) (at 7 14) (punct 58 false (at 15 16) (leaf (ident w_self) (at 17 21) (punct 61 false (at 22 23) (leaf (ident w_true) (at 24 28) (leaf (ident w_continue) (at 29 37) (punct 59 false (at 38 39) end))))))))
unfolding left is_end lookahead_at sees take_token take_lifetime take_mark take_group before rows_for rows run parse_rule
foreign_value_border_18 = not_read foreign_value _ refl

-- `static safe : () static safe : default = {} ;`: nothing is read
foreign_value_border_19 : NotDerived (rule foreign_value)
    (leaf (ident w_static) (at 0 6) (leaf (ident w_safe) (at 7 11) (punct 58 false (at 12 13) (group Paren (at 14 15) (at 15 16) end (leaf (ident w_static) (at 17 23) (leaf (ident w_safe) (at 24 28) (punct 58 false (at 29 30) (leaf (ident w_default) (at 31 38) (punct 61 false (at 39 40) (group Brace (at 41 42) (at 42 43) end (punct 59 false (at 44 45) end)))))))))))
unfolding left is_end lookahead_at sees take_token take_lifetime take_mark take_group before rows_for rows run parse_rule
foreign_value_border_19 = not_read foreign_value _ refl

-- `auto : ;`: nothing is read
odd_foreign_type_border_1 : NotDerived (rule odd_foreign_type)
    (leaf (ident w_auto) (at 0 4) (punct 58 false (at 5 6) (punct 59 false (at 7 8) end)))
unfolding left is_end lookahead_at sees take_token take_lifetime take_mark take_group before rows_for rows run parse_rule
odd_foreign_type_border_1 = not_read odd_foreign_type _ refl

-- `type : ;`: nothing is read
odd_foreign_type_border_2 : NotDerived (rule odd_foreign_type)
    (leaf (ident w_type) (at 0 4) (punct 58 false (at 5 6) (punct 59 false (at 7 8) end)))
unfolding left is_end lookahead_at sees take_token take_lifetime take_mark take_group before rows_for rows run parse_rule
odd_foreign_type_border_2 = not_read odd_foreign_type _ refl

-- `type auto = ;`: nothing is read
odd_foreign_type_border_3 : NotDerived (rule odd_foreign_type)
    (leaf (ident w_type) (at 0 4) (leaf (ident w_auto) (at 5 9) (punct 61 false (at 10 11) (punct 59 false (at 12 13) end))))
unfolding left is_end lookahead_at sees take_token take_lifetime take_mark take_group before rows_for rows run parse_rule
odd_foreign_type_border_3 = not_read odd_foreign_type _ refl

-- `pub type a : ;` prints `pub type a : ;`
odd_foreign_type_border_4 : DerivesAs odd_foreign_type
    (leaf (ident w_pub) (at 0 3) (leaf (ident w_type) (at 4 8) (leaf (ident (97 ∷ [])) (at 9 10) (punct 58 false (at 11 12) (punct 59 false (at 13 14) end)))))
    (leaf (ident w_pub) call_site (leaf (ident w_type) call_site (leaf (ident (97 ∷ [])) call_site (punct 58 false call_site (punct 59 false call_site end)))))
    (end)
unfolding left is_end lookahead_at sees take_token take_lifetime take_mark take_group before rows_for rows run parse_rule
odd_foreign_type_border_4 = computed odd_foreign_type _ _ _ refl

-- `b type auto : ;`: nothing is read
odd_foreign_type_border_5 : NotDerived (rule odd_foreign_type)
    (leaf (ident (98 ∷ [])) (at 0 1) (leaf (ident w_type) (at 2 6) (leaf (ident w_auto) (at 7 11) (punct 58 false (at 12 13) (punct 59 false (at 14 15) end)))))
unfolding left is_end lookahead_at sees take_token take_lifetime take_mark take_group before rows_for rows run parse_rule
odd_foreign_type_border_5 = not_read odd_foreign_type _ refl

-- `type auto : : ;`: nothing is read
odd_foreign_type_border_6 : NotDerived (rule odd_foreign_type)
    (leaf (ident w_type) (at 0 4) (leaf (ident w_auto) (at 5 9) (punct 58 false (at 10 11) (punct 58 false (at 12 13) (punct 59 false (at 14 15) end)))))
unfolding left is_end lookahead_at sees take_token take_lifetime take_mark take_group before rows_for rows run parse_rule
odd_foreign_type_border_6 = not_read odd_foreign_type _ refl

-- `type b where = ;`: nothing is read
odd_foreign_type_border_7 : NotDerived (rule odd_foreign_type)
    (leaf (ident w_type) (at 0 4) (leaf (ident (98 ∷ [])) (at 5 6) (leaf (ident w_where) (at 7 12) (punct 61 false (at 13 14) (punct 59 false (at 15 16) end)))))
unfolding left is_end lookahead_at sees take_token take_lifetime take_mark take_group before rows_for rows run parse_rule
odd_foreign_type_border_7 = not_read odd_foreign_type _ refl

-- `< > type auto : ;`: nothing is read
odd_foreign_type_border_8 : NotDerived (rule odd_foreign_type)
    (punct 60 false (at 0 1) (punct 62 false (at 2 3) (leaf (ident w_type) (at 4 8) (leaf (ident w_auto) (at 9 13) (punct 58 false (at 14 15) (punct 59 false (at 16 17) end))))))
unfolding left is_end lookahead_at sees take_token take_lifetime take_mark take_group before rows_for rows run parse_rule
odd_foreign_type_border_8 = not_read odd_foreign_type _ refl

-- `type < > auto : ;`: nothing is read
odd_foreign_type_border_9 : NotDerived (rule odd_foreign_type)
    (leaf (ident w_type) (at 0 4) (punct 60 false (at 5 6) (punct 62 false (at 7 8) (leaf (ident w_auto) (at 9 13) (punct 58 false (at 14 15) (punct 59 false (at 16 17) end))))))
unfolding left is_end lookahead_at sees take_token take_lifetime take_mark take_group before rows_for rows run parse_rule
odd_foreign_type_border_9 = not_read odd_foreign_type _ refl

-- `type auto : = c ;` prints `type auto : = c ;`
odd_foreign_type_border_10 : DerivesAs odd_foreign_type
    (leaf (ident w_type) (at 0 4) (leaf (ident w_auto) (at 5 9) (punct 58 false (at 10 11) (punct 61 false (at 12 13) (leaf (ident (99 ∷ [])) (at 14 15) (punct 59 false (at 16 17) end))))))
    (leaf (ident w_type) call_site (leaf (ident w_auto) call_site (punct 58 false call_site (punct 61 false call_site (leaf (ident (99 ∷ [])) call_site (punct 59 false call_site end))))))
    (end)
unfolding left is_end lookahead_at sees take_token take_lifetime take_mark take_group before rows_for rows run parse_rule
odd_foreign_type_border_10 = computed odd_foreign_type _ _ _ refl

-- `type auto : c : ;`: nothing is read
odd_foreign_type_border_11 : NotDerived (rule odd_foreign_type)
    (leaf (ident w_type) (at 0 4) (leaf (ident w_auto) (at 5 9) (punct 58 false (at 10 11) (leaf (ident (99 ∷ [])) (at 12 13) (punct 58 false (at 14 15) (punct 59 false (at 16 17) end))))))
unfolding left is_end lookahead_at sees take_token take_lifetime take_mark take_group before rows_for rows run parse_rule
odd_foreign_type_border_11 = not_read odd_foreign_type _ refl

-- `type auto < > : ;` prints `type auto : ;`
odd_foreign_type_border_12 : DerivesAs odd_foreign_type
    (leaf (ident w_type) (at 0 4) (leaf (ident w_auto) (at 5 9) (punct 60 false (at 10 11) (punct 62 false (at 12 13) (punct 58 false (at 14 15) (punct 59 false (at 16 17) end))))))
    (leaf (ident w_type) call_site (leaf (ident w_auto) call_site (punct 58 false call_site (punct 59 false call_site end))))
    (end)
unfolding left is_end lookahead_at sees take_token take_lifetime take_mark take_group before rows_for rows run parse_rule
odd_foreign_type_border_12 = computed odd_foreign_type _ _ _ refl

-- `type auto pub : ;`: nothing is read
odd_foreign_type_border_13 : NotDerived (rule odd_foreign_type)
    (leaf (ident w_type) (at 0 4) (leaf (ident w_auto) (at 5 9) (leaf (ident w_pub) (at 10 13) (punct 58 false (at 14 15) (punct 59 false (at 16 17) end)))))
unfolding left is_end lookahead_at sees take_token take_lifetime take_mark take_group before rows_for rows run parse_rule
odd_foreign_type_border_13 = not_read odd_foreign_type _ refl

-- `type pub auto : ;`: nothing is read
odd_foreign_type_border_14 : NotDerived (rule odd_foreign_type)
    (leaf (ident w_type) (at 0 4) (leaf (ident w_pub) (at 5 8) (leaf (ident w_auto) (at 9 13) (punct 58 false (at 14 15) (punct 59 false (at 16 17) end)))))
unfolding left is_end lookahead_at sees take_token take_lifetime take_mark take_group before rows_for rows run parse_rule
odd_foreign_type_border_14 = not_read odd_foreign_type _ refl

-- `: ; type auto :; *`: nothing is read
odd_foreign_type_border_15 : NotDerived (rule odd_foreign_type)
    (punct 58 false (at 0 1) (punct 59 false (at 2 3) (leaf (ident w_type) (at 4 8) (leaf (ident w_auto) (at 9 13) (punct 58 true (at 14 15) (punct 59 false (at 15 16) (punct 42 false (at 17 18) end)))))))
unfolding left is_end lookahead_at sees take_token take_lifetime take_mark take_group before rows_for rows run parse_rule
odd_foreign_type_border_15 = not_read odd_foreign_type _ refl

-- `type type auto : ;`: nothing is read
odd_foreign_type_border_16 : NotDerived (rule odd_foreign_type)
    (leaf (ident w_type) (at 0 4) (leaf (ident w_type) (at 5 9) (leaf (ident w_auto) (at 10 14) (punct 58 false (at 15 16) (punct 59 false (at 17 18) end)))))
unfolding left is_end lookahead_at sees take_token take_lifetime take_mark take_group before rows_for rows run parse_rule
odd_foreign_type_border_16 = not_read odd_foreign_type _ refl

-- `type union super ;`: nothing is read
odd_foreign_type_border_17 : NotDerived (rule odd_foreign_type)
    (leaf (ident w_type) (at 0 4) (leaf (ident w_union) (at 5 10) (leaf (ident w_super) (at 11 16) (punct 59 false (at 17 18) end))))
unfolding left is_end lookahead_at sees take_token take_lifetime take_mark take_group before rows_for rows run parse_rule
odd_foreign_type_border_17 = not_read odd_foreign_type _ refl

-- `type union : b super ;`: nothing is read
odd_foreign_type_border_18 : NotDerived (rule odd_foreign_type)
    (leaf (ident w_type) (at 0 4) (leaf (ident w_union) (at 5 10) (punct 58 false (at 11 12) (leaf (ident (98 ∷ [])) (at 13 14) (leaf (ident w_super) (at 15 20) (punct 59 false (at 21 22) end))))))
unfolding left is_end lookahead_at sees take_token take_lifetime take_mark take_group before rows_for rows run parse_rule
odd_foreign_type_border_18 = not_read odd_foreign_type _ refl

-- `type union where = () ;` prints `type union where = () ;`
odd_foreign_type_border_19 : DerivesAs odd_foreign_type
    (leaf (ident w_type) (at 0 4) (leaf (ident w_union) (at 5 10) (leaf (ident w_where) (at 11 16) (punct 61 false (at 17 18) (group Paren (at 19 20) (at 20 21) end (punct 59 false (at 22 23) end))))))
    (leaf (ident w_type) call_site (leaf (ident w_union) call_site (leaf (ident w_where) call_site (punct 61 false call_site (group Paren call_site call_site end (punct 59 false call_site end))))))
    (end)
unfolding left is_end lookahead_at sees take_token take_lifetime take_mark take_group before rows_for rows run parse_rule
odd_foreign_type_border_19 = computed odd_foreign_type _ _ _ refl

-- `pub pub type default : ;`: nothing is read
odd_foreign_type_border_20 : NotDerived (rule odd_foreign_type)
    (leaf (ident w_pub) (at 0 3) (leaf (ident w_pub) (at 4 7) (leaf (ident w_type) (at 8 12) (leaf (ident w_default) (at 13 20) (punct 58 false (at 21 22) (punct 59 false (at 23 24) end))))))
unfolding left is_end lookahead_at sees take_token take_lifetime take_mark take_group before rows_for rows run parse_rule
odd_foreign_type_border_20 = not_read odd_foreign_type _ refl

-- `type safe type = union ;`: nothing is read
odd_foreign_type_border_21 : NotDerived (rule odd_foreign_type)
    (leaf (ident w_type) (at 0 4) (leaf (ident w_safe) (at 5 9) (leaf (ident w_type) (at 10 14) (punct 61 false (at 15 16) (leaf (ident w_union) (at 17 22) (punct 59 false (at 23 24) end))))))
unfolding left is_end lookahead_at sees take_token take_lifetime take_mark take_group before rows_for rows run parse_rule
odd_foreign_type_border_21 = not_read odd_foreign_type _ refl

-- `type union : = c super ;`: nothing is read
odd_foreign_type_border_22 : NotDerived (rule odd_foreign_type)
    (leaf (ident w_type) (at 0 4) (leaf (ident w_union) (at 5 10) (punct 58 false (at 11 12) (punct 61 false (at 13 14) (leaf (ident (99 ∷ [])) (at 15 16) (leaf (ident w_super) (at 17 22) (punct 59 false (at 23 24) end)))))))
unfolding left is_end lookahead_at sees take_token take_lifetime take_mark take_group before rows_for rows run parse_rule
odd_foreign_type_border_22 = not_read odd_foreign_type _ refl

-- `type a : b where c : d = ;`: nothing is read
odd_foreign_type_border_23 : NotDerived (rule odd_foreign_type)
    (leaf (ident w_type) (at 0 4) (leaf (ident (97 ∷ [])) (at 5 6) (punct 58 false (at 7 8) (leaf (ident (98 ∷ [])) (at 9 10) (leaf (ident w_where) (at 11 16) (leaf (ident (99 ∷ [])) (at 17 18) (punct 58 false (at 19 20) (leaf (ident (100 ∷ [])) (at 21 22) (punct 61 false (at 23 24) (punct 59 false (at 25 26) end))))))))))
unfolding left is_end lookahead_at sees take_token take_lifetime take_mark take_group before rows_for rows run parse_rule
odd_foreign_type_border_23 = not_read odd_foreign_type _ refl

-- `type a = = b where c : d ;`: nothing is read
odd_foreign_type_border_24 : NotDerived (rule odd_foreign_type)
    (leaf (ident w_type) (at 0 4) (leaf (ident (97 ∷ [])) (at 5 6) (punct 61 false (at 7 8) (punct 61 false (at 9 10) (leaf (ident (98 ∷ [])) (at 11 12) (leaf (ident w_where) (at 13 18) (leaf (ident (99 ∷ [])) (at 19 20) (punct 58 false (at 21 22) (leaf (ident (100 ∷ [])) (at 23 24) (punct 59 false (at 25 26) end))))))))))
unfolding left is_end lookahead_at sees take_token take_lifetime take_mark take_group before rows_for rows run parse_rule
odd_foreign_type_border_24 = not_read odd_foreign_type _ refl

-- `type a = b b where c : d ;`: nothing is read
odd_foreign_type_border_25 : NotDerived (rule odd_foreign_type)
    (leaf (ident w_type) (at 0 4) (leaf (ident (97 ∷ [])) (at 5 6) (punct 61 false (at 7 8) (leaf (ident (98 ∷ [])) (at 9 10) (leaf (ident (98 ∷ [])) (at 11 12) (leaf (ident w_where) (at 13 18) (leaf (ident (99 ∷ [])) (at 19 20) (punct 58 false (at 21 22) (leaf (ident (100 ∷ [])) (at 23 24) (punct 59 false (at 25 26) end))))))))))
unfolding left is_end lookahead_at sees take_token take_lifetime take_mark take_group before rows_for rows run parse_rule
odd_foreign_type_border_25 = not_read odd_foreign_type _ refl

-- `type a = b where c : b d ;`: nothing is read
odd_foreign_type_border_26 : NotDerived (rule odd_foreign_type)
    (leaf (ident w_type) (at 0 4) (leaf (ident (97 ∷ [])) (at 5 6) (punct 61 false (at 7 8) (leaf (ident (98 ∷ [])) (at 9 10) (leaf (ident w_where) (at 11 16) (leaf (ident (99 ∷ [])) (at 17 18) (punct 58 false (at 19 20) (leaf (ident (98 ∷ [])) (at 21 22) (leaf (ident (100 ∷ [])) (at 23 24) (punct 59 false (at 25 26) end))))))))))
unfolding left is_end lookahead_at sees take_token take_lifetime take_mark take_group before rows_for rows run parse_rule
odd_foreign_type_border_26 = not_read odd_foreign_type _ refl

-- `type a a = b where c : d ;`: nothing is read
odd_foreign_type_border_27 : NotDerived (rule odd_foreign_type)
    (leaf (ident w_type) (at 0 4) (leaf (ident (97 ∷ [])) (at 5 6) (leaf (ident (97 ∷ [])) (at 7 8) (punct 61 false (at 9 10) (leaf (ident (98 ∷ [])) (at 11 12) (leaf (ident w_where) (at 13 18) (leaf (ident (99 ∷ [])) (at 19 20) (punct 58 false (at 21 22) (leaf (ident (100 ∷ [])) (at 23 24) (punct 59 false (at 25 26) end))))))))))
unfolding left is_end lookahead_at sees take_token take_lifetime take_mark take_group before rows_for rows run parse_rule
odd_foreign_type_border_27 = not_read odd_foreign_type _ refl

-- `type a : c = b where c : d ;` prints `type a : c = b where c : d ;`
odd_foreign_type_border_28 : DerivesAs odd_foreign_type
    (leaf (ident w_type) (at 0 4) (leaf (ident (97 ∷ [])) (at 5 6) (punct 58 false (at 7 8) (leaf (ident (99 ∷ [])) (at 9 10) (punct 61 false (at 11 12) (leaf (ident (98 ∷ [])) (at 13 14) (leaf (ident w_where) (at 15 20) (leaf (ident (99 ∷ [])) (at 21 22) (punct 58 false (at 23 24) (leaf (ident (100 ∷ [])) (at 25 26) (punct 59 false (at 27 28) end)))))))))))
    (leaf (ident w_type) call_site (leaf (ident (97 ∷ [])) call_site (punct 58 false call_site (leaf (ident (99 ∷ [])) call_site (punct 61 false call_site (leaf (ident (98 ∷ [])) call_site (leaf (ident w_where) call_site (leaf (ident (99 ∷ [])) call_site (punct 58 false call_site (leaf (ident (100 ∷ [])) call_site (punct 59 false call_site end)))))))))))
    (end)
unfolding left is_end lookahead_at sees take_token take_lifetime take_mark take_group before rows_for rows run parse_rule
odd_foreign_type_border_28 = computed odd_foreign_type _ _ _ refl

-- `type a : b where c : d = = e ;`: nothing is read
odd_foreign_type_border_29 : NotDerived (rule odd_foreign_type)
    (leaf (ident w_type) (at 0 4) (leaf (ident (97 ∷ [])) (at 5 6) (punct 58 false (at 7 8) (leaf (ident (98 ∷ [])) (at 9 10) (leaf (ident w_where) (at 11 16) (leaf (ident (99 ∷ [])) (at 17 18) (punct 58 false (at 19 20) (leaf (ident (100 ∷ [])) (at 21 22) (punct 61 false (at 23 24) (punct 61 false (at 25 26) (leaf (ident (101 ∷ [])) (at 27 28) (punct 59 false (at 29 30) end))))))))))))
unfolding left is_end lookahead_at sees take_token take_lifetime take_mark take_group before rows_for rows run parse_rule
odd_foreign_type_border_29 = not_read odd_foreign_type _ refl

-- `type a : b where c : d = b e ;`: nothing is read
odd_foreign_type_border_30 : NotDerived (rule odd_foreign_type)
    (leaf (ident w_type) (at 0 4) (leaf (ident (97 ∷ [])) (at 5 6) (punct 58 false (at 7 8) (leaf (ident (98 ∷ [])) (at 9 10) (leaf (ident w_where) (at 11 16) (leaf (ident (99 ∷ [])) (at 17 18) (punct 58 false (at 19 20) (leaf (ident (100 ∷ [])) (at 21 22) (punct 61 false (at 23 24) (leaf (ident (98 ∷ [])) (at 25 26) (leaf (ident (101 ∷ [])) (at 27 28) (punct 59 false (at 29 30) end))))))))))))
unfolding left is_end lookahead_at sees take_token take_lifetime take_mark take_group before rows_for rows run parse_rule
odd_foreign_type_border_30 = not_read odd_foreign_type _ refl

-- `type a = b where c : d where ;`: nothing is read
odd_foreign_type_border_31 : NotDerived (rule odd_foreign_type)
    (leaf (ident w_type) (at 0 4) (leaf (ident (97 ∷ [])) (at 5 6) (punct 61 false (at 7 8) (leaf (ident (98 ∷ [])) (at 9 10) (leaf (ident w_where) (at 11 16) (leaf (ident (99 ∷ [])) (at 17 18) (punct 58 false (at 19 20) (leaf (ident (100 ∷ [])) (at 21 22) (leaf (ident w_where) (at 23 28) (punct 59 false (at 29 30) end))))))))))
unfolding left is_end lookahead_at sees take_token take_lifetime take_mark take_group before rows_for rows run parse_rule
odd_foreign_type_border_31 = not_read odd_foreign_type _ refl

-- `type a where = b where c : d ;`: nothing is read
odd_foreign_type_border_32 : NotDerived (rule odd_foreign_type)
    (leaf (ident w_type) (at 0 4) (leaf (ident (97 ∷ [])) (at 5 6) (leaf (ident w_where) (at 7 12) (punct 61 false (at 13 14) (leaf (ident (98 ∷ [])) (at 15 16) (leaf (ident w_where) (at 17 22) (leaf (ident (99 ∷ [])) (at 23 24) (punct 58 false (at 25 26) (leaf (ident (100 ∷ [])) (at 27 28) (punct 59 false (at 29 30) end))))))))))
unfolding left is_end lookahead_at sees take_token take_lifetime take_mark take_group before rows_for rows run parse_rule
odd_foreign_type_border_32 = not_read odd_foreign_type _ refl

-- `type a : b = c where c : d = e ;`: nothing is read
odd_foreign_type_border_33 : NotDerived (rule odd_foreign_type)
    (leaf (ident w_type) (at 0 4) (leaf (ident (97 ∷ [])) (at 5 6) (punct 58 false (at 7 8) (leaf (ident (98 ∷ [])) (at 9 10) (punct 61 false (at 11 12) (leaf (ident (99 ∷ [])) (at 13 14) (leaf (ident w_where) (at 15 20) (leaf (ident (99 ∷ [])) (at 21 22) (punct 58 false (at 23 24) (leaf (ident (100 ∷ [])) (at 25 26) (punct 61 false (at 27 28) (leaf (ident (101 ∷ [])) (at 29 30) (punct 59 false (at 31 32) end)))))))))))))
unfolding left is_end lookahead_at sees take_token take_lifetime take_mark take_group before rows_for rows run parse_rule
odd_foreign_type_border_33 = not_read odd_foreign_type _ refl

-- `type a : b where c : d = c = e ;`: nothing is read
odd_foreign_type_border_34 : NotDerived (rule odd_foreign_type)
    (leaf (ident w_type) (at 0 4) (leaf (ident (97 ∷ [])) (at 5 6) (punct 58 false (at 7 8) (leaf (ident (98 ∷ [])) (at 9 10) (leaf (ident w_where) (at 11 16) (leaf (ident (99 ∷ [])) (at 17 18) (punct 58 false (at 19 20) (leaf (ident (100 ∷ [])) (at 21 22) (punct 61 false (at 23 24) (leaf (ident (99 ∷ [])) (at 25 26) (punct 61 false (at 27 28) (leaf (ident (101 ∷ [])) (at 29 30) (punct 59 false (at 31 32) end)))))))))))))
unfolding left is_end lookahead_at sees take_token take_lifetime take_mark take_group before rows_for rows run parse_rule
odd_foreign_type_border_34 = not_read odd_foreign_type _ refl

-- `type a : b where c : d = e where ;`: nothing is read
odd_foreign_type_border_35 : NotDerived (rule odd_foreign_type)
    (leaf (ident w_type) (at 0 4) (leaf (ident (97 ∷ [])) (at 5 6) (punct 58 false (at 7 8) (leaf (ident (98 ∷ [])) (at 9 10) (leaf (ident w_where) (at 11 16) (leaf (ident (99 ∷ [])) (at 17 18) (punct 58 false (at 19 20) (leaf (ident (100 ∷ [])) (at 21 22) (punct 61 false (at 23 24) (leaf (ident (101 ∷ [])) (at 25 26) (leaf (ident w_where) (at 27 32) (punct 59 false (at 33 34) end))))))))))))
unfolding left is_end lookahead_at sees take_token take_lifetime take_mark take_group before rows_for rows run parse_rule
odd_foreign_type_border_35 = not_read odd_foreign_type _ refl

-- `type a : b where c : d where = e ;`: nothing is read
odd_foreign_type_border_36 : NotDerived (rule odd_foreign_type)
    (leaf (ident w_type) (at 0 4) (leaf (ident (97 ∷ [])) (at 5 6) (punct 58 false (at 7 8) (leaf (ident (98 ∷ [])) (at 9 10) (leaf (ident w_where) (at 11 16) (leaf (ident (99 ∷ [])) (at 17 18) (punct 58 false (at 19 20) (leaf (ident (100 ∷ [])) (at 21 22) (leaf (ident w_where) (at 23 28) (punct 61 false (at 29 30) (leaf (ident (101 ∷ [])) (at 31 32) (punct 59 false (at 33 34) end))))))))))))
unfolding left is_end lookahead_at sees take_token take_lifetime take_mark take_group before rows_for rows run parse_rule
odd_foreign_type_border_36 = not_read odd_foreign_type _ refl

-- `type a : b where where c : d = e ;`: nothing is read
odd_foreign_type_border_37 : NotDerived (rule odd_foreign_type)
    (leaf (ident w_type) (at 0 4) (leaf (ident (97 ∷ [])) (at 5 6) (punct 58 false (at 7 8) (leaf (ident (98 ∷ [])) (at 9 10) (leaf (ident w_where) (at 11 16) (leaf (ident w_where) (at 17 22) (leaf (ident (99 ∷ [])) (at 23 24) (punct 58 false (at 25 26) (leaf (ident (100 ∷ [])) (at 27 28) (punct 61 false (at 29 30) (leaf (ident (101 ∷ [])) (at 31 32) (punct 59 false (at 33 34) end))))))))))))
unfolding left is_end lookahead_at sees take_token take_lifetime take_mark take_group before rows_for rows run parse_rule
odd_foreign_type_border_37 = not_read odd_foreign_type _ refl

-- `safe ;`: nothing is read
kept_item_rest_border_1 : NotDerived (rule kept_item_rest)
    (leaf (ident w_safe) (at 0 4) (punct 59 false (at 5 6) end))
unfolding left is_end lookahead_at sees take_token take_lifetime take_mark take_group before first_span rows_for rows run parse_rule
kept_item_rest_border_1 = not_read kept_item_rest _ refl

-- `macro a {}` prints `macro a {}`
kept_item_rest_border_2 : DerivesAs kept_item_rest
    (leaf (ident w_macro) (at 0 5) (leaf (ident (97 ∷ [])) (at 6 7) (group Brace (at 8 9) (at 9 10) end end)))
    (leaf (ident w_macro) call_site (leaf (ident (97 ∷ [])) call_site (group Brace call_site call_site end end)))
    (end)
unfolding left is_end lookahead_at sees take_token take_lifetime take_mark take_group before first_span rows_for rows run parse_rule
kept_item_rest_border_2 = computed kept_item_rest _ _ _ refl

-- `const _ : ! ;` prints `const _ : ! ;`
kept_item_rest_border_3 : DerivesAs kept_item_rest
    (leaf (ident w_const) (at 0 5) (leaf (ident w_underscore) (at 6 7) (punct 58 false (at 8 9) (punct 33 false (at 10 11) (punct 59 false (at 12 13) end)))))
    (leaf (ident w_const) call_site (leaf (ident w_underscore) call_site (punct 58 false call_site (punct 33 false call_site (punct 59 false call_site end)))))
    (end)
unfolding left is_end lookahead_at sees take_token take_lifetime take_mark take_group before first_span rows_for rows run parse_rule
kept_item_rest_border_3 = computed kept_item_rest _ _ _ refl

-- `const trait a = ;` prints `const trait a = ;`
kept_item_rest_border_4 : DerivesAs kept_item_rest
    (leaf (ident w_const) (at 0 5) (leaf (ident w_trait) (at 6 11) (leaf (ident (97 ∷ [])) (at 12 13) (punct 61 false (at 14 15) (punct 59 false (at 16 17) end)))))
    (leaf (ident w_const) call_site (leaf (ident w_trait) call_site (leaf (ident (97 ∷ [])) call_site (punct 61 false call_site (punct 59 false call_site end)))))
    (end)
unfolding left is_end lookahead_at sees take_token take_lifetime take_mark take_group before first_span rows_for rows run parse_rule
kept_item_rest_border_4 = computed kept_item_rest _ _ _ refl

-- `impl () for () {}` prints `impl () for () {}`
kept_item_rest_border_5 : DerivesAs kept_item_rest
    (leaf (ident w_impl) (at 0 4) (group Paren (at 5 6) (at 6 7) end (leaf (ident w_for) (at 8 11) (group Paren (at 12 13) (at 13 14) end (group Brace (at 15 16) (at 16 17) end end)))))
    (leaf (ident w_impl) call_site (group Paren call_site call_site end (leaf (ident w_for) call_site (group Paren call_site call_site end (group Brace call_site call_site end end)))))
    (end)
unfolding left is_end lookahead_at sees take_token take_lifetime take_mark take_group before first_span rows_for rows run parse_rule
kept_item_rest_border_5 = computed kept_item_rest _ _ _ refl

-- `static a = break ;` prints `static a = break ;`
kept_item_rest_border_6 : DerivesAs kept_item_rest
    (leaf (ident w_static) (at 0 6) (leaf (ident (97 ∷ [])) (at 7 8) (punct 61 false (at 9 10) (leaf (ident w_break) (at 11 16) (punct 59 false (at 17 18) end)))))
    (leaf (ident w_static) call_site (leaf (ident (97 ∷ [])) call_site (punct 61 false call_site (leaf (ident w_break) call_site (punct 59 false call_site end)))))
    (end)
unfolding left is_end lookahead_at sees take_token take_lifetime take_mark take_group before first_span rows_for rows run parse_rule
kept_item_rest_border_6 = computed kept_item_rest _ _ _ refl

-- `static auto : () ;` prints `static auto : () ;`
kept_item_rest_border_7 : DerivesAs kept_item_rest
    (leaf (ident w_static) (at 0 6) (leaf (ident w_auto) (at 7 11) (punct 58 false (at 12 13) (group Paren (at 14 15) (at 15 16) end (punct 59 false (at 17 18) end)))))
    (leaf (ident w_static) call_site (leaf (ident w_auto) call_site (punct 58 false call_site (group Paren call_site call_site end (punct 59 false call_site end)))))
    (end)
unfolding left is_end lookahead_at sees take_token take_lifetime take_mark take_group before first_span rows_for rows run parse_rule
kept_item_rest_border_7 = computed kept_item_rest _ _ _ refl

-- `pub const impl ! {}` prints `pub const impl ! {}`
kept_item_rest_border_8 : DerivesAs kept_item_rest
    (leaf (ident w_pub) (at 0 3) (leaf (ident w_const) (at 4 9) (leaf (ident w_impl) (at 10 14) (punct 33 false (at 15 16) (group Brace (at 17 18) (at 18 19) end end)))))
    (leaf (ident w_pub) call_site (leaf (ident w_const) call_site (leaf (ident w_impl) call_site (punct 33 false call_site (group Brace call_site call_site end end)))))
    (end)
unfolding left is_end lookahead_at sees take_token take_lifetime take_mark take_group before first_span rows_for rows run parse_rule
kept_item_rest_border_8 = computed kept_item_rest _ _ _ refl

-- `impl (crate) trait default {}` prints `impl (crate) trait default {}`
kept_item_rest_border_9 : DerivesAs kept_item_rest
    (leaf (ident w_impl) (at 0 4) (group Paren (at 5 6) (at 11 12) (leaf (ident w_crate) (at 6 11) end) (leaf (ident w_trait) (at 13 18) (leaf (ident w_default) (at 19 26) (group Brace (at 27 28) (at 28 29) end end)))))
    (leaf (ident w_impl) call_site (group Paren call_site call_site (leaf (ident w_crate) call_site end) (leaf (ident w_trait) call_site (leaf (ident w_default) call_site (group Brace call_site call_site end end)))))
    (end)
unfolding left is_end lookahead_at sees take_token take_lifetime take_mark take_group before first_span rows_for rows run parse_rule
kept_item_rest_border_9 = computed kept_item_rest _ _ _ refl

-- `T ;`: nothing is read
kept_item_border_1 : NotDerived (rule kept_item)
    (leaf (ident (84 ∷ [])) (at 0 1) (punct 59 false (at 2 3) end))
unfolding left is_end lookahead_at sees take_token take_lifetime take_mark take_group before first_span rows_for rows run parse_rule
kept_item_border_1 = not_read kept_item _ refl
