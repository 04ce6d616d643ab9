-- Written by tools/grammar.py from specs/Table.antt; edits are lost.
-- Worked examples of operators, by levels, from tools/examples.txt: what each rule reads, prints and refuses. The checker computes each.
use Rattle.std.proofs.Common.{true, false, [], ◌∷◌, refl}
use Rattle.syn_grammar.specs.Words.{w_underscore, w_as, w_break, w_continue, w_false, w_if, w_mut, w_true, w_auto, w_default, w_safe}
use Rattle.syn_grammar.specs.Tokens.{call_site, Paren, Brace, Bracket, Int, Float, ident, literal, end, leaf, punct, group}
use Rattle.syn_grammar.specs.Rules.{casts, cast, products, product, sums, sum, shifts, shift, bit_ands, bit_and, bit_xors, bit_xor, bit_ors, bit_or, compared, comparison, conjunctions, conjunction, disjunctions, disjunction, assigned, whole_expression, operand_rest}
use Rattle.syn_grammar.specs.Grammar.{rule}
use Rattle.syn_grammar.specs.Take.{left, is_end, lookahead_at, sees, take_token, take_lifetime, take_mark, take_group, before}
use Rattle.syn_grammar.specs.Run.{rows_for, rows, run, parse_rule}
use Rattle.syn_grammar.specs.Promises.{NotDerived}
use Rattle.syn_grammar.proofs.Shown.{at, DerivesAs, computed, not_read}

-- `as !` prints `as !`
casts_as_bang : DerivesAs casts
    (leaf (ident w_as) (at 0 2) (punct 33 false (at 3 4) end))
    (leaf (ident w_as) call_site (punct 33 false call_site end))
    (end)
unfolding left is_end lookahead_at sees take_token take_lifetime take_mark take_group before rows_for rows run parse_rule
casts_as_bang = computed casts _ _ _ refl

-- `as T as`: nothing is read
casts_as_T_as : NotDerived (rule casts)
    (leaf (ident w_as) (at 0 2) (leaf (ident (84 ∷ [])) (at 3 4) (leaf (ident w_as) (at 5 7) end)))
unfolding left is_end lookahead_at sees take_token take_lifetime take_mark take_group before rows_for rows run parse_rule
casts_as_T_as = not_read casts _ refl

-- `as as T`: nothing is read
casts_as_as_T : NotDerived (rule casts)
    (leaf (ident w_as) (at 0 2) (leaf (ident w_as) (at 3 5) (leaf (ident (84 ∷ [])) (at 6 7) end)))
unfolding left is_end lookahead_at sees take_token take_lifetime take_mark take_group before rows_for rows run parse_rule
casts_as_as_T = not_read casts _ refl

-- `as T T` prints `as T` and leaves `T`
casts_as_T_T : DerivesAs casts
    (leaf (ident w_as) (at 0 2) (leaf (ident (84 ∷ [])) (at 3 4) (leaf (ident (84 ∷ [])) (at 5 6) end)))
    (leaf (ident w_as) call_site (leaf (ident (84 ∷ [])) call_site end))
    (leaf (ident (84 ∷ [])) (at 5 6) end)
unfolding left is_end lookahead_at sees take_token take_lifetime take_mark take_group before rows_for rows run parse_rule
casts_as_T_T = computed casts _ _ _ refl

-- `a *` prints `a` and leaves `*`
cast_a_star : DerivesAs cast
    (leaf (ident (97 ∷ [])) (at 0 1) (punct 42 false (at 2 3) end))
    (leaf (ident (97 ∷ [])) call_site end)
    (punct 42 false (at 2 3) end)
unfolding left is_end lookahead_at sees take_token take_lifetime take_mark take_group before rows_for rows run parse_rule
cast_a_star = computed cast _ _ _ refl

-- `a as`: nothing is read
cast_a_as : NotDerived (rule cast)
    (leaf (ident (97 ∷ [])) (at 0 1) (leaf (ident w_as) (at 2 4) end))
unfolding left is_end lookahead_at sees take_token take_lifetime take_mark take_group before rows_for rows run parse_rule
cast_a_as = not_read cast _ refl

-- `as default true`: nothing is read
cast_as_default_true : NotDerived (rule cast)
    (leaf (ident w_as) (at 0 2) (leaf (ident w_default) (at 3 10) (leaf (ident w_true) (at 11 15) end)))
unfolding left is_end lookahead_at sees take_token take_lifetime take_mark take_group before rows_for rows run parse_rule
cast_as_default_true = not_read cast _ refl

-- `!a` prints `! a`
cast_bang_a : DerivesAs cast
    (punct 33 false (at 0 1) (leaf (ident (97 ∷ [])) (at 1 2) end))
    (punct 33 false call_site (leaf (ident (97 ∷ [])) call_site end))
    (end)
unfolding left is_end lookahead_at sees take_token take_lifetime take_mark take_group before rows_for rows run parse_rule
cast_bang_a = computed cast _ _ _ refl

-- `* a *= b` prints `* a` and leaves `*= b`
products_star_a_star_eq_b : DerivesAs products
    (punct 42 false (at 0 1) (leaf (ident (97 ∷ [])) (at 2 3) (punct 42 true (at 4 5) (punct 61 false (at 5 6) (leaf (ident (98 ∷ [])) (at 7 8) end)))))
    (punct 42 false call_site (leaf (ident (97 ∷ [])) call_site end))
    (punct 42 true (at 4 5) (punct 61 false (at 5 6) (leaf (ident (98 ∷ [])) (at 7 8) end)))
unfolding left is_end lookahead_at sees take_token take_lifetime take_mark take_group before rows_for rows run parse_rule
products_star_a_star_eq_b = computed products _ _ _ refl

-- `* a *`: nothing is read
products_star_a_star : NotDerived (rule products)
    (punct 42 false (at 0 1) (leaf (ident (97 ∷ [])) (at 2 3) (punct 42 false (at 4 5) end)))
unfolding left is_end lookahead_at sees take_token take_lifetime take_mark take_group before rows_for rows run parse_rule
products_star_a_star = not_read products _ refl

-- `/ a /= b` prints `/ a` and leaves `/= b`
products_slash_a_slash_eq_b : DerivesAs products
    (punct 47 false (at 0 1) (leaf (ident (97 ∷ [])) (at 2 3) (punct 47 true (at 4 5) (punct 61 false (at 5 6) (leaf (ident (98 ∷ [])) (at 7 8) end)))))
    (punct 47 false call_site (leaf (ident (97 ∷ [])) call_site end))
    (punct 47 true (at 4 5) (punct 61 false (at 5 6) (leaf (ident (98 ∷ [])) (at 7 8) end)))
unfolding left is_end lookahead_at sees take_token take_lifetime take_mark take_group before rows_for rows run parse_rule
products_slash_a_slash_eq_b = computed products _ _ _ refl

-- `/ a /`: nothing is read
products_slash_a_slash : NotDerived (rule products)
    (punct 47 false (at 0 1) (leaf (ident (97 ∷ [])) (at 2 3) (punct 47 false (at 4 5) end)))
unfolding left is_end lookahead_at sees take_token take_lifetime take_mark take_group before rows_for rows run parse_rule
products_slash_a_slash = not_read products _ refl

-- `/ / a`: nothing is read
products_slash_slash_a : NotDerived (rule products)
    (punct 47 false (at 0 1) (punct 47 false (at 2 3) (leaf (ident (97 ∷ [])) (at 4 5) end)))
unfolding left is_end lookahead_at sees take_token take_lifetime take_mark take_group before rows_for rows run parse_rule
products_slash_slash_a = not_read products _ refl

-- `/ a b` prints `/ a` and leaves `b`
products_slash_a_b : DerivesAs products
    (punct 47 false (at 0 1) (leaf (ident (97 ∷ [])) (at 2 3) (leaf (ident (98 ∷ [])) (at 4 5) end)))
    (punct 47 false call_site (leaf (ident (97 ∷ [])) call_site end))
    (leaf (ident (98 ∷ [])) (at 4 5) end)
unfolding left is_end lookahead_at sees take_token take_lifetime take_mark take_group before rows_for rows run parse_rule
products_slash_a_b = computed products _ _ _ refl

-- `% a %= b` prints `% a` and leaves `%= b`
products_percent_a_percent_eq_b : DerivesAs products
    (punct 37 false (at 0 1) (leaf (ident (97 ∷ [])) (at 2 3) (punct 37 true (at 4 5) (punct 61 false (at 5 6) (leaf (ident (98 ∷ [])) (at 7 8) end)))))
    (punct 37 false call_site (leaf (ident (97 ∷ [])) call_site end))
    (punct 37 true (at 4 5) (punct 61 false (at 5 6) (leaf (ident (98 ∷ [])) (at 7 8) end)))
unfolding left is_end lookahead_at sees take_token take_lifetime take_mark take_group before rows_for rows run parse_rule
products_percent_a_percent_eq_b = computed products _ _ _ refl

-- `% a %`: nothing is read
products_percent_a_percent : NotDerived (rule products)
    (punct 37 false (at 0 1) (leaf (ident (97 ∷ [])) (at 2 3) (punct 37 false (at 4 5) end)))
unfolding left is_end lookahead_at sees take_token take_lifetime take_mark take_group before rows_for rows run parse_rule
products_percent_a_percent = not_read products _ refl

-- `% % a`: nothing is read
products_percent_percent_a : NotDerived (rule products)
    (punct 37 false (at 0 1) (punct 37 false (at 2 3) (leaf (ident (97 ∷ [])) (at 4 5) end)))
unfolding left is_end lookahead_at sees take_token take_lifetime take_mark take_group before rows_for rows run parse_rule
products_percent_percent_a = not_read products _ refl

-- `% a b` prints `% a` and leaves `b`
products_percent_a_b : DerivesAs products
    (punct 37 false (at 0 1) (leaf (ident (97 ∷ [])) (at 2 3) (leaf (ident (98 ∷ [])) (at 4 5) end)))
    (punct 37 false call_site (leaf (ident (97 ∷ [])) call_site end))
    (leaf (ident (98 ∷ [])) (at 4 5) end)
unfolding left is_end lookahead_at sees take_token take_lifetime take_mark take_group before rows_for rows run parse_rule
products_percent_a_b = computed products _ _ _ refl

-- `* a as T` prints `* a as T`
products_star_a_as_T : DerivesAs products
    (punct 42 false (at 0 1) (leaf (ident (97 ∷ [])) (at 2 3) (leaf (ident w_as) (at 4 6) (leaf (ident (84 ∷ [])) (at 7 8) end))))
    (punct 42 false call_site (leaf (ident (97 ∷ [])) call_site (leaf (ident w_as) call_site (leaf (ident (84 ∷ [])) call_site end))))
    (end)
unfolding left is_end lookahead_at sees take_token take_lifetime take_mark take_group before rows_for rows run parse_rule
products_star_a_as_T = computed products _ _ _ refl

-- `/ a as T` prints `/ a as T`
products_slash_a_as_T : DerivesAs products
    (punct 47 false (at 0 1) (leaf (ident (97 ∷ [])) (at 2 3) (leaf (ident w_as) (at 4 6) (leaf (ident (84 ∷ [])) (at 7 8) end))))
    (punct 47 false call_site (leaf (ident (97 ∷ [])) call_site (leaf (ident w_as) call_site (leaf (ident (84 ∷ [])) call_site end))))
    (end)
unfolding left is_end lookahead_at sees take_token take_lifetime take_mark take_group before rows_for rows run parse_rule
products_slash_a_as_T = computed products _ _ _ refl

-- `% a as T` prints `% a as T`
products_percent_a_as_T : DerivesAs products
    (punct 37 false (at 0 1) (leaf (ident (97 ∷ [])) (at 2 3) (leaf (ident w_as) (at 4 6) (leaf (ident (84 ∷ [])) (at 7 8) end))))
    (punct 37 false call_site (leaf (ident (97 ∷ [])) call_site (leaf (ident w_as) call_site (leaf (ident (84 ∷ [])) call_site end))))
    (end)
unfolding left is_end lookahead_at sees take_token take_lifetime take_mark take_group before rows_for rows run parse_rule
products_percent_a_as_T = computed products _ _ _ refl

-- no tokens: nothing is read
product_nothing : NotDerived (rule product)
    (end)
unfolding left is_end lookahead_at sees take_token take_lifetime take_mark take_group before rows_for rows run parse_rule
product_nothing = not_read product _ refl

-- `a b` prints `a` and leaves `b`
product_a_b : DerivesAs product
    (leaf (ident (97 ∷ [])) (at 0 1) (leaf (ident (98 ∷ [])) (at 2 3) end))
    (leaf (ident (97 ∷ [])) call_site end)
    (leaf (ident (98 ∷ [])) (at 2 3) end)
unfolding left is_end lookahead_at sees take_token take_lifetime take_mark take_group before rows_for rows run parse_rule
product_a_b = computed product _ _ _ refl

-- `*a` prints `* a`
product_star_a : DerivesAs product
    (punct 42 false (at 0 1) (leaf (ident (97 ∷ [])) (at 1 2) end))
    (punct 42 false call_site (leaf (ident (97 ∷ [])) call_site end))
    (end)
unfolding left is_end lookahead_at sees take_token take_lifetime take_mark take_group before rows_for rows run parse_rule
product_star_a = computed product _ _ _ refl

-- `a *`: nothing is read
product_a_star : NotDerived (rule product)
    (leaf (ident (97 ∷ [])) (at 0 1) (punct 42 false (at 2 3) end))
unfolding left is_end lookahead_at sees take_token take_lifetime take_mark take_group before rows_for rows run parse_rule
product_a_star = not_read product _ refl

-- `a as`: nothing is read
product_a_as : NotDerived (rule product)
    (leaf (ident (97 ∷ [])) (at 0 1) (leaf (ident w_as) (at 2 4) end))
unfolding left is_end lookahead_at sees take_token take_lifetime take_mark take_group before rows_for rows run parse_rule
product_a_as = not_read product _ refl

-- `+ a += b` prints `+ a` and leaves `+= b`
sums_plus_a_plus_eq_b : DerivesAs sums
    (punct 43 false (at 0 1) (leaf (ident (97 ∷ [])) (at 2 3) (punct 43 true (at 4 5) (punct 61 false (at 5 6) (leaf (ident (98 ∷ [])) (at 7 8) end)))))
    (punct 43 false call_site (leaf (ident (97 ∷ [])) call_site end))
    (punct 43 true (at 4 5) (punct 61 false (at 5 6) (leaf (ident (98 ∷ [])) (at 7 8) end)))
unfolding left is_end lookahead_at sees take_token take_lifetime take_mark take_group before rows_for rows run parse_rule
sums_plus_a_plus_eq_b = computed sums _ _ _ refl

-- `+ a +`: nothing is read
sums_plus_a_plus : NotDerived (rule sums)
    (punct 43 false (at 0 1) (leaf (ident (97 ∷ [])) (at 2 3) (punct 43 false (at 4 5) end)))
unfolding left is_end lookahead_at sees take_token take_lifetime take_mark take_group before rows_for rows run parse_rule
sums_plus_a_plus = not_read sums _ refl

-- `+ + a`: nothing is read
sums_plus_plus_a : NotDerived (rule sums)
    (punct 43 false (at 0 1) (punct 43 false (at 2 3) (leaf (ident (97 ∷ [])) (at 4 5) end)))
unfolding left is_end lookahead_at sees take_token take_lifetime take_mark take_group before rows_for rows run parse_rule
sums_plus_plus_a = not_read sums _ refl

-- `+ a b` prints `+ a` and leaves `b`
sums_plus_a_b : DerivesAs sums
    (punct 43 false (at 0 1) (leaf (ident (97 ∷ [])) (at 2 3) (leaf (ident (98 ∷ [])) (at 4 5) end)))
    (punct 43 false call_site (leaf (ident (97 ∷ [])) call_site end))
    (leaf (ident (98 ∷ [])) (at 4 5) end)
unfolding left is_end lookahead_at sees take_token take_lifetime take_mark take_group before rows_for rows run parse_rule
sums_plus_a_b = computed sums _ _ _ refl

-- `- a -= b` prints `- a` and leaves `-= b`
sums_minus_a_minus_eq_b : DerivesAs sums
    (punct 45 false (at 0 1) (leaf (ident (97 ∷ [])) (at 2 3) (punct 45 true (at 4 5) (punct 61 false (at 5 6) (leaf (ident (98 ∷ [])) (at 7 8) end)))))
    (punct 45 false call_site (leaf (ident (97 ∷ [])) call_site end))
    (punct 45 true (at 4 5) (punct 61 false (at 5 6) (leaf (ident (98 ∷ [])) (at 7 8) end)))
unfolding left is_end lookahead_at sees take_token take_lifetime take_mark take_group before rows_for rows run parse_rule
sums_minus_a_minus_eq_b = computed sums _ _ _ refl

-- `- a -`: nothing is read
sums_minus_a_minus : NotDerived (rule sums)
    (punct 45 false (at 0 1) (leaf (ident (97 ∷ [])) (at 2 3) (punct 45 false (at 4 5) end)))
unfolding left is_end lookahead_at sees take_token take_lifetime take_mark take_group before rows_for rows run parse_rule
sums_minus_a_minus = not_read sums _ refl

-- `+ a % b` prints `+ a % b`
sums_plus_a_percent_b : DerivesAs sums
    (punct 43 false (at 0 1) (leaf (ident (97 ∷ [])) (at 2 3) (punct 37 false (at 4 5) (leaf (ident (98 ∷ [])) (at 6 7) end))))
    (punct 43 false call_site (leaf (ident (97 ∷ [])) call_site (punct 37 false call_site (leaf (ident (98 ∷ [])) call_site end))))
    (end)
unfolding left is_end lookahead_at sees take_token take_lifetime take_mark take_group before rows_for rows run parse_rule
sums_plus_a_percent_b = computed sums _ _ _ refl

-- `- a % b` prints `- a % b`
sums_minus_a_percent_b : DerivesAs sums
    (punct 45 false (at 0 1) (leaf (ident (97 ∷ [])) (at 2 3) (punct 37 false (at 4 5) (leaf (ident (98 ∷ [])) (at 6 7) end))))
    (punct 45 false call_site (leaf (ident (97 ∷ [])) call_site (punct 37 false call_site (leaf (ident (98 ∷ [])) call_site end))))
    (end)
unfolding left is_end lookahead_at sees take_token take_lifetime take_mark take_group before rows_for rows run parse_rule
sums_minus_a_percent_b = computed sums _ _ _ refl

-- `, a` prints `` and leaves `, a`
sums_comma_a : DerivesAs sums
    (punct 44 false (at 0 1) (leaf (ident (97 ∷ [])) (at 2 3) end))
    (end)
    (punct 44 false (at 0 1) (leaf (ident (97 ∷ [])) (at 2 3) end))
unfolding left is_end lookahead_at sees take_token take_lifetime take_mark take_group before rows_for rows run parse_rule
sums_comma_a = computed sums _ _ _ refl

-- no tokens: nothing is read
sum_nothing : NotDerived (rule sum)
    (end)
unfolding left is_end lookahead_at sees take_token take_lifetime take_mark take_group before rows_for rows run parse_rule
sum_nothing = not_read sum _ refl

-- `a b` prints `a` and leaves `b`
sum_a_b : DerivesAs sum
    (leaf (ident (97 ∷ [])) (at 0 1) (leaf (ident (98 ∷ [])) (at 2 3) end))
    (leaf (ident (97 ∷ [])) call_site end)
    (leaf (ident (98 ∷ [])) (at 2 3) end)
unfolding left is_end lookahead_at sees take_token take_lifetime take_mark take_group before rows_for rows run parse_rule
sum_a_b = computed sum _ _ _ refl

-- `-a` prints `- a`
sum_minus_a : DerivesAs sum
    (punct 45 false (at 0 1) (leaf (ident (97 ∷ [])) (at 1 2) end))
    (punct 45 false call_site (leaf (ident (97 ∷ [])) call_site end))
    (end)
unfolding left is_end lookahead_at sees take_token take_lifetime take_mark take_group before rows_for rows run parse_rule
sum_minus_a = computed sum _ _ _ refl

-- `a +`: nothing is read
sum_a_plus : NotDerived (rule sum)
    (leaf (ident (97 ∷ [])) (at 0 1) (punct 43 false (at 2 3) end))
unfolding left is_end lookahead_at sees take_token take_lifetime take_mark take_group before rows_for rows run parse_rule
sum_a_plus = not_read sum _ refl

-- `a *`: nothing is read
sum_a_star : NotDerived (rule sum)
    (leaf (ident (97 ∷ [])) (at 0 1) (punct 42 false (at 2 3) end))
unfolding left is_end lookahead_at sees take_token take_lifetime take_mark take_group before rows_for rows run parse_rule
sum_a_star = not_read sum _ refl

-- `<< a <<= b` prints `<< a` and leaves `<<= b`
shifts_shl_a_shl_eq_b : DerivesAs shifts
    (punct 60 true (at 0 1) (punct 60 false (at 1 2) (leaf (ident (97 ∷ [])) (at 3 4) (punct 60 true (at 5 6) (punct 60 true (at 6 7) (punct 61 false (at 7 8) (leaf (ident (98 ∷ [])) (at 9 10) end)))))))
    (punct 60 true call_site (punct 60 false call_site (leaf (ident (97 ∷ [])) call_site end)))
    (punct 60 true (at 5 6) (punct 60 true (at 6 7) (punct 61 false (at 7 8) (leaf (ident (98 ∷ [])) (at 9 10) end))))
unfolding left is_end lookahead_at sees take_token take_lifetime take_mark take_group before rows_for rows run parse_rule
shifts_shl_a_shl_eq_b = computed shifts _ _ _ refl

-- `<< a <<`: nothing is read
shifts_shl_a_shl : NotDerived (rule shifts)
    (punct 60 true (at 0 1) (punct 60 false (at 1 2) (leaf (ident (97 ∷ [])) (at 3 4) (punct 60 true (at 5 6) (punct 60 false (at 6 7) end)))))
unfolding left is_end lookahead_at sees take_token take_lifetime take_mark take_group before rows_for rows run parse_rule
shifts_shl_a_shl = not_read shifts _ refl

-- `<< << a`: nothing is read
shifts_shl_shl_a : NotDerived (rule shifts)
    (punct 60 true (at 0 1) (punct 60 false (at 1 2) (punct 60 true (at 3 4) (punct 60 false (at 4 5) (leaf (ident (97 ∷ [])) (at 6 7) end)))))
unfolding left is_end lookahead_at sees take_token take_lifetime take_mark take_group before rows_for rows run parse_rule
shifts_shl_shl_a = not_read shifts _ refl

-- `>> a >>= b` prints `>> a` and leaves `>>= b`
shifts_shr_a_shr_eq_b : DerivesAs shifts
    (punct 62 true (at 0 1) (punct 62 false (at 1 2) (leaf (ident (97 ∷ [])) (at 3 4) (punct 62 true (at 5 6) (punct 62 true (at 6 7) (punct 61 false (at 7 8) (leaf (ident (98 ∷ [])) (at 9 10) end)))))))
    (punct 62 true call_site (punct 62 false call_site (leaf (ident (97 ∷ [])) call_site end)))
    (punct 62 true (at 5 6) (punct 62 true (at 6 7) (punct 61 false (at 7 8) (leaf (ident (98 ∷ [])) (at 9 10) end))))
unfolding left is_end lookahead_at sees take_token take_lifetime take_mark take_group before rows_for rows run parse_rule
shifts_shr_a_shr_eq_b = computed shifts _ _ _ refl

-- `>> a >>`: nothing is read
shifts_shr_a_shr : NotDerived (rule shifts)
    (punct 62 true (at 0 1) (punct 62 false (at 1 2) (leaf (ident (97 ∷ [])) (at 3 4) (punct 62 true (at 5 6) (punct 62 false (at 6 7) end)))))
unfolding left is_end lookahead_at sees take_token take_lifetime take_mark take_group before rows_for rows run parse_rule
shifts_shr_a_shr = not_read shifts _ refl

-- `>> >> a`: nothing is read
shifts_shr_shr_a : NotDerived (rule shifts)
    (punct 62 true (at 0 1) (punct 62 false (at 1 2) (punct 62 true (at 3 4) (punct 62 false (at 4 5) (leaf (ident (97 ∷ [])) (at 6 7) end)))))
unfolding left is_end lookahead_at sees take_token take_lifetime take_mark take_group before rows_for rows run parse_rule
shifts_shr_shr_a = not_read shifts _ refl

-- `>> a b` prints `>> a` and leaves `b`
shifts_shr_a_b : DerivesAs shifts
    (punct 62 true (at 0 1) (punct 62 false (at 1 2) (leaf (ident (97 ∷ [])) (at 3 4) (leaf (ident (98 ∷ [])) (at 5 6) end))))
    (punct 62 true call_site (punct 62 false call_site (leaf (ident (97 ∷ [])) call_site end)))
    (leaf (ident (98 ∷ [])) (at 5 6) end)
unfolding left is_end lookahead_at sees take_token take_lifetime take_mark take_group before rows_for rows run parse_rule
shifts_shr_a_b = computed shifts _ _ _ refl

-- `< a` prints `` and leaves `< a`
shifts_lt_a : DerivesAs shifts
    (punct 60 false (at 0 1) (leaf (ident (97 ∷ [])) (at 2 3) end))
    (end)
    (punct 60 false (at 0 1) (leaf (ident (97 ∷ [])) (at 2 3) end))
unfolding left is_end lookahead_at sees take_token take_lifetime take_mark take_group before rows_for rows run parse_rule
shifts_lt_a = computed shifts _ _ _ refl

-- `<< a + b` prints `<< a + b`
shifts_shl_a_plus_b : DerivesAs shifts
    (punct 60 true (at 0 1) (punct 60 false (at 1 2) (leaf (ident (97 ∷ [])) (at 3 4) (punct 43 false (at 5 6) (leaf (ident (98 ∷ [])) (at 7 8) end)))))
    (punct 60 true call_site (punct 60 false call_site (leaf (ident (97 ∷ [])) call_site (punct 43 false call_site (leaf (ident (98 ∷ [])) call_site end)))))
    (end)
unfolding left is_end lookahead_at sees take_token take_lifetime take_mark take_group before rows_for rows run parse_rule
shifts_shl_a_plus_b = computed shifts _ _ _ refl

-- `> a` prints `` and leaves `> a`
shifts_gt_a : DerivesAs shifts
    (punct 62 false (at 0 1) (leaf (ident (97 ∷ [])) (at 2 3) end))
    (end)
    (punct 62 false (at 0 1) (leaf (ident (97 ∷ [])) (at 2 3) end))
unfolding left is_end lookahead_at sees take_token take_lifetime take_mark take_group before rows_for rows run parse_rule
shifts_gt_a = computed shifts _ _ _ refl

-- `>> a + b` prints `>> a + b`
shifts_shr_a_plus_b : DerivesAs shifts
    (punct 62 true (at 0 1) (punct 62 false (at 1 2) (leaf (ident (97 ∷ [])) (at 3 4) (punct 43 false (at 5 6) (leaf (ident (98 ∷ [])) (at 7 8) end)))))
    (punct 62 true call_site (punct 62 false call_site (leaf (ident (97 ∷ [])) call_site (punct 43 false call_site (leaf (ident (98 ∷ [])) call_site end)))))
    (end)
unfolding left is_end lookahead_at sees take_token take_lifetime take_mark take_group before rows_for rows run parse_rule
shifts_shr_a_plus_b = computed shifts _ _ _ refl

-- `a b` prints `a` and leaves `b`
shift_a_b : DerivesAs shift
    (leaf (ident (97 ∷ [])) (at 0 1) (leaf (ident (98 ∷ [])) (at 2 3) end))
    (leaf (ident (97 ∷ [])) call_site end)
    (leaf (ident (98 ∷ [])) (at 2 3) end)
unfolding left is_end lookahead_at sees take_token take_lifetime take_mark take_group before rows_for rows run parse_rule
shift_a_b = computed shift _ _ _ refl

-- `1.5 <<`: nothing is read
shift_float_shl : NotDerived (rule shift)
    (leaf (literal Float (49 ∷ 46 ∷ 53 ∷ [])) (at 0 3) (punct 60 true (at 4 5) (punct 60 false (at 5 6) end)))
unfolding left is_end lookahead_at sees take_token take_lifetime take_mark take_group before rows_for rows run parse_rule
shift_float_shl = not_read shift _ refl

-- `>> [] true << break`: nothing is read
shift_shr_brackets_true_shl_break : NotDerived (rule shift)
    (punct 62 true (at 0 1) (punct 62 false (at 1 2) (group Bracket (at 3 4) (at 4 5) end (leaf (ident w_true) (at 6 10) (punct 60 true (at 11 12) (punct 60 false (at 12 13) (leaf (ident w_break) (at 14 19) end)))))))
unfolding left is_end lookahead_at sees take_token take_lifetime take_mark take_group before rows_for rows run parse_rule
shift_shr_brackets_true_shl_break = not_read shift _ refl

-- `a +`: nothing is read
shift_a_plus : NotDerived (rule shift)
    (leaf (ident (97 ∷ [])) (at 0 1) (punct 43 false (at 2 3) end))
unfolding left is_end lookahead_at sees take_token take_lifetime take_mark take_group before rows_for rows run parse_rule
shift_a_plus = not_read shift _ refl

-- `& a && b` prints `& a` and leaves `&& b`
bit_ands_amp_a_and_b : DerivesAs bit_ands
    (punct 38 false (at 0 1) (leaf (ident (97 ∷ [])) (at 2 3) (punct 38 true (at 4 5) (punct 38 false (at 5 6) (leaf (ident (98 ∷ [])) (at 7 8) end)))))
    (punct 38 false call_site (leaf (ident (97 ∷ [])) call_site end))
    (punct 38 true (at 4 5) (punct 38 false (at 5 6) (leaf (ident (98 ∷ [])) (at 7 8) end)))
unfolding left is_end lookahead_at sees take_token take_lifetime take_mark take_group before rows_for rows run parse_rule
bit_ands_amp_a_and_b = computed bit_ands _ _ _ refl

-- `& a &`: nothing is read
bit_ands_amp_a_amp : NotDerived (rule bit_ands)
    (punct 38 false (at 0 1) (leaf (ident (97 ∷ [])) (at 2 3) (punct 38 false (at 4 5) end)))
unfolding left is_end lookahead_at sees take_token take_lifetime take_mark take_group before rows_for rows run parse_rule
bit_ands_amp_a_amp = not_read bit_ands _ refl

-- `& mut a . b`: nothing is read
bit_ands_amp_mut_a_dot_b : NotDerived (rule bit_ands)
    (punct 38 false (at 0 1) (leaf (ident w_mut) (at 2 5) (leaf (ident (97 ∷ [])) (at 6 7) (punct 46 false (at 8 9) (leaf (ident (98 ∷ [])) (at 10 11) end)))))
unfolding left is_end lookahead_at sees take_token take_lifetime take_mark take_group before rows_for rows run parse_rule
bit_ands_amp_mut_a_dot_b = not_read bit_ands _ refl

-- `&= a` prints `` and leaves `&= a`
bit_ands_amp_eq_a : DerivesAs bit_ands
    (punct 38 true (at 0 1) (punct 61 false (at 1 2) (leaf (ident (97 ∷ [])) (at 3 4) end)))
    (end)
    (punct 38 true (at 0 1) (punct 61 false (at 1 2) (leaf (ident (97 ∷ [])) (at 3 4) end)))
unfolding left is_end lookahead_at sees take_token take_lifetime take_mark take_group before rows_for rows run parse_rule
bit_ands_amp_eq_a = computed bit_ands _ _ _ refl

-- `& a << b` prints `& a << b`
bit_ands_amp_a_shl_b : DerivesAs bit_ands
    (punct 38 false (at 0 1) (leaf (ident (97 ∷ [])) (at 2 3) (punct 60 true (at 4 5) (punct 60 false (at 5 6) (leaf (ident (98 ∷ [])) (at 7 8) end)))))
    (punct 38 false call_site (leaf (ident (97 ∷ [])) call_site (punct 60 true call_site (punct 60 false call_site (leaf (ident (98 ∷ [])) call_site end)))))
    (end)
unfolding left is_end lookahead_at sees take_token take_lifetime take_mark take_group before rows_for rows run parse_rule
bit_ands_amp_a_shl_b = computed bit_ands _ _ _ refl

-- `* a` prints `` and leaves `* a`
bit_ands_star_a : DerivesAs bit_ands
    (punct 42 false (at 0 1) (leaf (ident (97 ∷ [])) (at 2 3) end))
    (end)
    (punct 42 false (at 0 1) (leaf (ident (97 ∷ [])) (at 2 3) end))
unfolding left is_end lookahead_at sees take_token take_lifetime take_mark take_group before rows_for rows run parse_rule
bit_ands_star_a = computed bit_ands _ _ _ refl

-- no tokens: nothing is read
bit_and_nothing : NotDerived (rule bit_and)
    (end)
unfolding left is_end lookahead_at sees take_token take_lifetime take_mark take_group before rows_for rows run parse_rule
bit_and_nothing = not_read bit_and _ refl

-- `a b` prints `a` and leaves `b`
bit_and_a_b : DerivesAs bit_and
    (leaf (ident (97 ∷ [])) (at 0 1) (leaf (ident (98 ∷ [])) (at 2 3) end))
    (leaf (ident (97 ∷ [])) call_site end)
    (leaf (ident (98 ∷ [])) (at 2 3) end)
unfolding left is_end lookahead_at sees take_token take_lifetime take_mark take_group before rows_for rows run parse_rule
bit_and_a_b = computed bit_and _ _ _ refl

-- `&a` prints `& a`
bit_and_amp_a : DerivesAs bit_and
    (punct 38 false (at 0 1) (leaf (ident (97 ∷ [])) (at 1 2) end))
    (punct 38 false call_site (leaf (ident (97 ∷ [])) call_site end))
    (end)
unfolding left is_end lookahead_at sees take_token take_lifetime take_mark take_group before rows_for rows run parse_rule
bit_and_amp_a = computed bit_and _ _ _ refl

-- `{} &`: nothing is read
bit_and_braces_amp : NotDerived (rule bit_and)
    (group Brace (at 0 1) (at 1 2) end (punct 38 false (at 3 4) end))
unfolding left is_end lookahead_at sees take_token take_lifetime take_mark take_group before rows_for rows run parse_rule
bit_and_braces_amp = not_read bit_and _ refl

-- `a << b` prints `a << b`
bit_and_a_shl_b : DerivesAs bit_and
    (leaf (ident (97 ∷ [])) (at 0 1) (punct 60 true (at 2 3) (punct 60 false (at 3 4) (leaf (ident (98 ∷ [])) (at 5 6) end))))
    (leaf (ident (97 ∷ [])) call_site (punct 60 true call_site (punct 60 false call_site (leaf (ident (98 ∷ [])) call_site end))))
    (end)
unfolding left is_end lookahead_at sees take_token take_lifetime take_mark take_group before rows_for rows run parse_rule
bit_and_a_shl_b = computed bit_and _ _ _ refl

-- `^ a ^= b` prints `^ a` and leaves `^= b`
bit_xors_caret_a_caret_eq_b : DerivesAs bit_xors
    (punct 94 false (at 0 1) (leaf (ident (97 ∷ [])) (at 2 3) (punct 94 true (at 4 5) (punct 61 false (at 5 6) (leaf (ident (98 ∷ [])) (at 7 8) end)))))
    (punct 94 false call_site (leaf (ident (97 ∷ [])) call_site end))
    (punct 94 true (at 4 5) (punct 61 false (at 5 6) (leaf (ident (98 ∷ [])) (at 7 8) end)))
unfolding left is_end lookahead_at sees take_token take_lifetime take_mark take_group before rows_for rows run parse_rule
bit_xors_caret_a_caret_eq_b = computed bit_xors _ _ _ refl

-- `^ a ^`: nothing is read
bit_xors_caret_a_caret : NotDerived (rule bit_xors)
    (punct 94 false (at 0 1) (leaf (ident (97 ∷ [])) (at 2 3) (punct 94 false (at 4 5) end)))
unfolding left is_end lookahead_at sees take_token take_lifetime take_mark take_group before rows_for rows run parse_rule
bit_xors_caret_a_caret = not_read bit_xors _ refl

-- `^ ^ a`: nothing is read
bit_xors_caret_caret_a : NotDerived (rule bit_xors)
    (punct 94 false (at 0 1) (punct 94 false (at 2 3) (leaf (ident (97 ∷ [])) (at 4 5) end)))
unfolding left is_end lookahead_at sees take_token take_lifetime take_mark take_group before rows_for rows run parse_rule
bit_xors_caret_caret_a = not_read bit_xors _ refl

-- `^ a b` prints `^ a` and leaves `b`
bit_xors_caret_a_b : DerivesAs bit_xors
    (punct 94 false (at 0 1) (leaf (ident (97 ∷ [])) (at 2 3) (leaf (ident (98 ∷ [])) (at 4 5) end)))
    (punct 94 false call_site (leaf (ident (97 ∷ [])) call_site end))
    (leaf (ident (98 ∷ [])) (at 4 5) end)
unfolding left is_end lookahead_at sees take_token take_lifetime take_mark take_group before rows_for rows run parse_rule
bit_xors_caret_a_b = computed bit_xors _ _ _ refl

-- `^ a & b` prints `^ a & b`
bit_xors_caret_a_amp_b : DerivesAs bit_xors
    (punct 94 false (at 0 1) (leaf (ident (97 ∷ [])) (at 2 3) (punct 38 false (at 4 5) (leaf (ident (98 ∷ [])) (at 6 7) end))))
    (punct 94 false call_site (leaf (ident (97 ∷ [])) call_site (punct 38 false call_site (leaf (ident (98 ∷ [])) call_site end))))
    (end)
unfolding left is_end lookahead_at sees take_token take_lifetime take_mark take_group before rows_for rows run parse_rule
bit_xors_caret_a_amp_b = computed bit_xors _ _ _ refl

-- `a b` prints `a` and leaves `b`
bit_xor_a_b : DerivesAs bit_xor
    (leaf (ident (97 ∷ [])) (at 0 1) (leaf (ident (98 ∷ [])) (at 2 3) end))
    (leaf (ident (97 ∷ [])) call_site end)
    (leaf (ident (98 ∷ [])) (at 2 3) end)
unfolding left is_end lookahead_at sees take_token take_lifetime take_mark take_group before rows_for rows run parse_rule
bit_xor_a_b = computed bit_xor _ _ _ refl

-- `a ^ b` prints `a ^ b`
bit_xor_a_caret_b : DerivesAs bit_xor
    (leaf (ident (97 ∷ [])) (at 0 1) (punct 94 false (at 2 3) (leaf (ident (98 ∷ [])) (at 4 5) end)))
    (leaf (ident (97 ∷ [])) call_site (punct 94 false call_site (leaf (ident (98 ∷ [])) call_site end)))
    (end)
unfolding left is_end lookahead_at sees take_token take_lifetime take_mark take_group before rows_for rows run parse_rule
bit_xor_a_caret_b = computed bit_xor _ _ _ refl

-- `^ [] false ^ safe >> {}`: nothing is read
bit_xor_caret_brackets_false_caret_safe_shr : NotDerived (rule bit_xor)
    (punct 94 false (at 0 1) (group Bracket (at 2 3) (at 3 4) end (leaf (ident w_false) (at 5 10) (punct 94 false (at 11 12) (leaf (ident w_safe) (at 13 17) (punct 62 true (at 18 19) (punct 62 false (at 19 20) (group Brace (at 21 22) (at 22 23) end end))))))))
unfolding left is_end lookahead_at sees take_token take_lifetime take_mark take_group before rows_for rows run parse_rule
bit_xor_caret_brackets_false_caret_safe_shr = not_read bit_xor _ refl

-- `a & b` prints `a & b`
bit_xor_a_amp_b : DerivesAs bit_xor
    (leaf (ident (97 ∷ [])) (at 0 1) (punct 38 false (at 2 3) (leaf (ident (98 ∷ [])) (at 4 5) end)))
    (leaf (ident (97 ∷ [])) call_site (punct 38 false call_site (leaf (ident (98 ∷ [])) call_site end)))
    (end)
unfolding left is_end lookahead_at sees take_token take_lifetime take_mark take_group before rows_for rows run parse_rule
bit_xor_a_amp_b = computed bit_xor _ _ _ refl

-- `| a |= b` prints `| a` and leaves `|= b`
bit_ors_bar_a_bar_eq_b : DerivesAs bit_ors
    (punct 124 false (at 0 1) (leaf (ident (97 ∷ [])) (at 2 3) (punct 124 true (at 4 5) (punct 61 false (at 5 6) (leaf (ident (98 ∷ [])) (at 7 8) end)))))
    (punct 124 false call_site (leaf (ident (97 ∷ [])) call_site end))
    (punct 124 true (at 4 5) (punct 61 false (at 5 6) (leaf (ident (98 ∷ [])) (at 7 8) end)))
unfolding left is_end lookahead_at sees take_token take_lifetime take_mark take_group before rows_for rows run parse_rule
bit_ors_bar_a_bar_eq_b = computed bit_ors _ _ _ refl

-- `| a |`: nothing is read
bit_ors_bar_a_bar : NotDerived (rule bit_ors)
    (punct 124 false (at 0 1) (leaf (ident (97 ∷ [])) (at 2 3) (punct 124 false (at 4 5) end)))
unfolding left is_end lookahead_at sees take_token take_lifetime take_mark take_group before rows_for rows run parse_rule
bit_ors_bar_a_bar = not_read bit_ors _ refl

-- `| | a`: nothing is read
bit_ors_bar_bar_a : NotDerived (rule bit_ors)
    (punct 124 false (at 0 1) (punct 124 false (at 2 3) (leaf (ident (97 ∷ [])) (at 4 5) end)))
unfolding left is_end lookahead_at sees take_token take_lifetime take_mark take_group before rows_for rows run parse_rule
bit_ors_bar_bar_a = not_read bit_ors _ refl

-- `| a b` prints `| a` and leaves `b`
bit_ors_bar_a_b : DerivesAs bit_ors
    (punct 124 false (at 0 1) (leaf (ident (97 ∷ [])) (at 2 3) (leaf (ident (98 ∷ [])) (at 4 5) end)))
    (punct 124 false call_site (leaf (ident (97 ∷ [])) call_site end))
    (leaf (ident (98 ∷ [])) (at 4 5) end)
unfolding left is_end lookahead_at sees take_token take_lifetime take_mark take_group before rows_for rows run parse_rule
bit_ors_bar_a_b = computed bit_ors _ _ _ refl

-- `|| a` prints `` and leaves `|| a`
bit_ors_or_a : DerivesAs bit_ors
    (punct 124 true (at 0 1) (punct 124 false (at 1 2) (leaf (ident (97 ∷ [])) (at 3 4) end)))
    (end)
    (punct 124 true (at 0 1) (punct 124 false (at 1 2) (leaf (ident (97 ∷ [])) (at 3 4) end)))
unfolding left is_end lookahead_at sees take_token take_lifetime take_mark take_group before rows_for rows run parse_rule
bit_ors_or_a = computed bit_ors _ _ _ refl

-- `| a ^ b` prints `| a ^ b`
bit_ors_bar_a_caret_b : DerivesAs bit_ors
    (punct 124 false (at 0 1) (leaf (ident (97 ∷ [])) (at 2 3) (punct 94 false (at 4 5) (leaf (ident (98 ∷ [])) (at 6 7) end))))
    (punct 124 false call_site (leaf (ident (97 ∷ [])) call_site (punct 94 false call_site (leaf (ident (98 ∷ [])) call_site end))))
    (end)
unfolding left is_end lookahead_at sees take_token take_lifetime take_mark take_group before rows_for rows run parse_rule
bit_ors_bar_a_caret_b = computed bit_ors _ _ _ refl

-- `, a` prints `` and leaves `, a`
bit_ors_comma_a : DerivesAs bit_ors
    (punct 44 false (at 0 1) (leaf (ident (97 ∷ [])) (at 2 3) end))
    (end)
    (punct 44 false (at 0 1) (leaf (ident (97 ∷ [])) (at 2 3) end))
unfolding left is_end lookahead_at sees take_token take_lifetime take_mark take_group before rows_for rows run parse_rule
bit_ors_comma_a = computed bit_ors _ _ _ refl

-- `a b` prints `a` and leaves `b`
bit_or_a_b : DerivesAs bit_or
    (leaf (ident (97 ∷ [])) (at 0 1) (leaf (ident (98 ∷ [])) (at 2 3) end))
    (leaf (ident (97 ∷ [])) call_site end)
    (leaf (ident (98 ∷ [])) (at 2 3) end)
unfolding left is_end lookahead_at sees take_token take_lifetime take_mark take_group before rows_for rows run parse_rule
bit_or_a_b = computed bit_or _ _ _ refl

-- `continue |`: nothing is read
bit_or_continue_bar : NotDerived (rule bit_or)
    (leaf (ident w_continue) (at 0 8) (punct 124 false (at 9 10) end))
unfolding left is_end lookahead_at sees take_token take_lifetime take_mark take_group before rows_for rows run parse_rule
bit_or_continue_bar = not_read bit_or _ refl

-- `| true auto`: nothing is read
bit_or_bar_true_auto : NotDerived (rule bit_or)
    (punct 124 false (at 0 1) (leaf (ident w_true) (at 2 6) (leaf (ident w_auto) (at 7 11) end)))
unfolding left is_end lookahead_at sees take_token take_lifetime take_mark take_group before rows_for rows run parse_rule
bit_or_bar_true_auto = not_read bit_or _ refl

-- `a ^ b` prints `a ^ b`
bit_or_a_caret_b : DerivesAs bit_or
    (leaf (ident (97 ∷ [])) (at 0 1) (punct 94 false (at 2 3) (leaf (ident (98 ∷ [])) (at 4 5) end)))
    (leaf (ident (97 ∷ [])) call_site (punct 94 false call_site (leaf (ident (98 ∷ [])) call_site end)))
    (end)
unfolding left is_end lookahead_at sees take_token take_lifetime take_mark take_group before rows_for rows run parse_rule
bit_or_a_caret_b = computed bit_or _ _ _ refl

-- `<`: nothing is read
compared_lt : NotDerived (rule compared)
    (punct 60 false (at 0 1) end)
unfolding left is_end lookahead_at sees take_token take_lifetime take_mark take_group before rows_for rows run parse_rule
compared_lt = not_read compared _ refl

-- `< a <` prints `< a` and leaves `<`
compared_lt_a_lt : DerivesAs compared
    (punct 60 false (at 0 1) (leaf (ident (97 ∷ [])) (at 2 3) (punct 60 false (at 4 5) end)))
    (punct 60 false call_site (leaf (ident (97 ∷ [])) call_site end))
    (punct 60 false (at 4 5) end)
unfolding left is_end lookahead_at sees take_token take_lifetime take_mark take_group before rows_for rows run parse_rule
compared_lt_a_lt = computed compared _ _ _ refl

-- `== a ==` prints `== a` and leaves `==`
compared_eq_eq_a_eq_eq : DerivesAs compared
    (punct 61 true (at 0 1) (punct 61 false (at 1 2) (leaf (ident (97 ∷ [])) (at 3 4) (punct 61 true (at 5 6) (punct 61 false (at 6 7) end)))))
    (punct 61 true call_site (punct 61 false call_site (leaf (ident (97 ∷ [])) call_site end)))
    (punct 61 true (at 5 6) (punct 61 false (at 6 7) end))
unfolding left is_end lookahead_at sees take_token take_lifetime take_mark take_group before rows_for rows run parse_rule
compared_eq_eq_a_eq_eq = computed compared _ _ _ refl

-- `== == a`: nothing is read
compared_eq_eq_eq_eq_a : NotDerived (rule compared)
    (punct 61 true (at 0 1) (punct 61 false (at 1 2) (punct 61 true (at 3 4) (punct 61 false (at 4 5) (leaf (ident (97 ∷ [])) (at 6 7) end)))))
unfolding left is_end lookahead_at sees take_token take_lifetime take_mark take_group before rows_for rows run parse_rule
compared_eq_eq_eq_eq_a = not_read compared _ refl

-- `== a b` prints `== a` and leaves `b`
compared_eq_eq_a_b : DerivesAs compared
    (punct 61 true (at 0 1) (punct 61 false (at 1 2) (leaf (ident (97 ∷ [])) (at 3 4) (leaf (ident (98 ∷ [])) (at 5 6) end))))
    (punct 61 true call_site (punct 61 false call_site (leaf (ident (97 ∷ [])) call_site end)))
    (leaf (ident (98 ∷ [])) (at 5 6) end)
unfolding left is_end lookahead_at sees take_token take_lifetime take_mark take_group before rows_for rows run parse_rule
compared_eq_eq_a_b = computed compared _ _ _ refl

-- `!=`: nothing is read
compared_not_eq : NotDerived (rule compared)
    (punct 33 true (at 0 1) (punct 61 false (at 1 2) end))
unfolding left is_end lookahead_at sees take_token take_lifetime take_mark take_group before rows_for rows run parse_rule
compared_not_eq = not_read compared _ refl

-- `!= a !=` prints `!= a` and leaves `!=`
compared_not_eq_a_not_eq : DerivesAs compared
    (punct 33 true (at 0 1) (punct 61 false (at 1 2) (leaf (ident (97 ∷ [])) (at 3 4) (punct 33 true (at 5 6) (punct 61 false (at 6 7) end)))))
    (punct 33 true call_site (punct 61 false call_site (leaf (ident (97 ∷ [])) call_site end)))
    (punct 33 true (at 5 6) (punct 61 false (at 6 7) end))
unfolding left is_end lookahead_at sees take_token take_lifetime take_mark take_group before rows_for rows run parse_rule
compared_not_eq_a_not_eq = computed compared _ _ _ refl

-- `!= != a`: nothing is read
compared_not_eq_not_eq_a : NotDerived (rule compared)
    (punct 33 true (at 0 1) (punct 61 false (at 1 2) (punct 33 true (at 3 4) (punct 61 false (at 4 5) (leaf (ident (97 ∷ [])) (at 6 7) end)))))
unfolding left is_end lookahead_at sees take_token take_lifetime take_mark take_group before rows_for rows run parse_rule
compared_not_eq_not_eq_a = not_read compared _ refl

-- `< < a`: nothing is read
compared_lt_lt_a : NotDerived (rule compared)
    (punct 60 false (at 0 1) (punct 60 false (at 2 3) (leaf (ident (97 ∷ [])) (at 4 5) end)))
unfolding left is_end lookahead_at sees take_token take_lifetime take_mark take_group before rows_for rows run parse_rule
compared_lt_lt_a = not_read compared _ refl

-- `> a >` prints `> a` and leaves `>`
compared_gt_a_gt : DerivesAs compared
    (punct 62 false (at 0 1) (leaf (ident (97 ∷ [])) (at 2 3) (punct 62 false (at 4 5) end)))
    (punct 62 false call_site (leaf (ident (97 ∷ [])) call_site end))
    (punct 62 false (at 4 5) end)
unfolding left is_end lookahead_at sees take_token take_lifetime take_mark take_group before rows_for rows run parse_rule
compared_gt_a_gt = computed compared _ _ _ refl

-- `> > a`: nothing is read
compared_gt_gt_a : NotDerived (rule compared)
    (punct 62 false (at 0 1) (punct 62 false (at 2 3) (leaf (ident (97 ∷ [])) (at 4 5) end)))
unfolding left is_end lookahead_at sees take_token take_lifetime take_mark take_group before rows_for rows run parse_rule
compared_gt_gt_a = not_read compared _ refl

-- `> a b` prints `> a` and leaves `b`
compared_gt_a_b : DerivesAs compared
    (punct 62 false (at 0 1) (leaf (ident (97 ∷ [])) (at 2 3) (leaf (ident (98 ∷ [])) (at 4 5) end)))
    (punct 62 false call_site (leaf (ident (97 ∷ [])) call_site end))
    (leaf (ident (98 ∷ [])) (at 4 5) end)
unfolding left is_end lookahead_at sees take_token take_lifetime take_mark take_group before rows_for rows run parse_rule
compared_gt_a_b = computed compared _ _ _ refl

-- `<=`: nothing is read
compared_lt_eq : NotDerived (rule compared)
    (punct 60 true (at 0 1) (punct 61 false (at 1 2) end))
unfolding left is_end lookahead_at sees take_token take_lifetime take_mark take_group before rows_for rows run parse_rule
compared_lt_eq = not_read compared _ refl

-- `<= a <=` prints `<= a` and leaves `<=`
compared_lt_eq_a_lt_eq : DerivesAs compared
    (punct 60 true (at 0 1) (punct 61 false (at 1 2) (leaf (ident (97 ∷ [])) (at 3 4) (punct 60 true (at 5 6) (punct 61 false (at 6 7) end)))))
    (punct 60 true call_site (punct 61 false call_site (leaf (ident (97 ∷ [])) call_site end)))
    (punct 60 true (at 5 6) (punct 61 false (at 6 7) end))
unfolding left is_end lookahead_at sees take_token take_lifetime take_mark take_group before rows_for rows run parse_rule
compared_lt_eq_a_lt_eq = computed compared _ _ _ refl

-- `<= <= a`: nothing is read
compared_lt_eq_lt_eq_a : NotDerived (rule compared)
    (punct 60 true (at 0 1) (punct 61 false (at 1 2) (punct 60 true (at 3 4) (punct 61 false (at 4 5) (leaf (ident (97 ∷ [])) (at 6 7) end)))))
unfolding left is_end lookahead_at sees take_token take_lifetime take_mark take_group before rows_for rows run parse_rule
compared_lt_eq_lt_eq_a = not_read compared _ refl

-- `>= a >=` prints `>= a` and leaves `>=`
compared_gt_eq_a_gt_eq : DerivesAs compared
    (punct 62 true (at 0 1) (punct 61 false (at 1 2) (leaf (ident (97 ∷ [])) (at 3 4) (punct 62 true (at 5 6) (punct 61 false (at 6 7) end)))))
    (punct 62 true call_site (punct 61 false call_site (leaf (ident (97 ∷ [])) call_site end)))
    (punct 62 true (at 5 6) (punct 61 false (at 6 7) end))
unfolding left is_end lookahead_at sees take_token take_lifetime take_mark take_group before rows_for rows run parse_rule
compared_gt_eq_a_gt_eq = computed compared _ _ _ refl

-- `>= >= a`: nothing is read
compared_gt_eq_gt_eq_a : NotDerived (rule compared)
    (punct 62 true (at 0 1) (punct 61 false (at 1 2) (punct 62 true (at 3 4) (punct 61 false (at 4 5) (leaf (ident (97 ∷ [])) (at 6 7) end)))))
unfolding left is_end lookahead_at sees take_token take_lifetime take_mark take_group before rows_for rows run parse_rule
compared_gt_eq_gt_eq_a = not_read compared _ refl

-- `>= a b` prints `>= a` and leaves `b`
compared_gt_eq_a_b : DerivesAs compared
    (punct 62 true (at 0 1) (punct 61 false (at 1 2) (leaf (ident (97 ∷ [])) (at 3 4) (leaf (ident (98 ∷ [])) (at 5 6) end))))
    (punct 62 true call_site (punct 61 false call_site (leaf (ident (97 ∷ [])) call_site end)))
    (leaf (ident (98 ∷ [])) (at 5 6) end)
unfolding left is_end lookahead_at sees take_token take_lifetime take_mark take_group before rows_for rows run parse_rule
compared_gt_eq_a_b = computed compared _ _ _ refl

-- `= a` prints `` and leaves `= a`
compared_eq_a : DerivesAs compared
    (punct 61 false (at 0 1) (leaf (ident (97 ∷ [])) (at 2 3) end))
    (end)
    (punct 61 false (at 0 1) (leaf (ident (97 ∷ [])) (at 2 3) end))
unfolding left is_end lookahead_at sees take_token take_lifetime take_mark take_group before rows_for rows run parse_rule
compared_eq_a = computed compared _ _ _ refl

-- no tokens prints ``
compared_nothing : DerivesAs compared
    (end)
    (end)
    (end)
unfolding left is_end lookahead_at sees take_token take_lifetime take_mark take_group before rows_for rows run parse_rule
compared_nothing = computed compared _ _ _ refl

-- `== a | b` prints `== a | b`
compared_eq_eq_a_bar_b : DerivesAs compared
    (punct 61 true (at 0 1) (punct 61 false (at 1 2) (leaf (ident (97 ∷ [])) (at 3 4) (punct 124 false (at 5 6) (leaf (ident (98 ∷ [])) (at 7 8) end)))))
    (punct 61 true call_site (punct 61 false call_site (leaf (ident (97 ∷ [])) call_site (punct 124 false call_site (leaf (ident (98 ∷ [])) call_site end)))))
    (end)
unfolding left is_end lookahead_at sees take_token take_lifetime take_mark take_group before rows_for rows run parse_rule
compared_eq_eq_a_bar_b = computed compared _ _ _ refl

-- `!` prints `` and leaves `!`
compared_bang : DerivesAs compared
    (punct 33 false (at 0 1) end)
    (end)
    (punct 33 false (at 0 1) end)
unfolding left is_end lookahead_at sees take_token take_lifetime take_mark take_group before rows_for rows run parse_rule
compared_bang = computed compared _ _ _ refl

-- `!= a | b` prints `!= a | b`
compared_not_eq_a_bar_b : DerivesAs compared
    (punct 33 true (at 0 1) (punct 61 false (at 1 2) (leaf (ident (97 ∷ [])) (at 3 4) (punct 124 false (at 5 6) (leaf (ident (98 ∷ [])) (at 7 8) end)))))
    (punct 33 true call_site (punct 61 false call_site (leaf (ident (97 ∷ [])) call_site (punct 124 false call_site (leaf (ident (98 ∷ [])) call_site end)))))
    (end)
unfolding left is_end lookahead_at sees take_token take_lifetime take_mark take_group before rows_for rows run parse_rule
compared_not_eq_a_bar_b = computed compared _ _ _ refl

-- `<< a` prints `` and leaves `<< a`
compared_shl_a : DerivesAs compared
    (punct 60 true (at 0 1) (punct 60 false (at 1 2) (leaf (ident (97 ∷ [])) (at 3 4) end)))
    (end)
    (punct 60 true (at 0 1) (punct 60 false (at 1 2) (leaf (ident (97 ∷ [])) (at 3 4) end)))
unfolding left is_end lookahead_at sees take_token take_lifetime take_mark take_group before rows_for rows run parse_rule
compared_shl_a = computed compared _ _ _ refl

-- `< a | b` prints `< a | b`
compared_lt_a_bar_b : DerivesAs compared
    (punct 60 false (at 0 1) (leaf (ident (97 ∷ [])) (at 2 3) (punct 124 false (at 4 5) (leaf (ident (98 ∷ [])) (at 6 7) end))))
    (punct 60 false call_site (leaf (ident (97 ∷ [])) call_site (punct 124 false call_site (leaf (ident (98 ∷ [])) call_site end))))
    (end)
unfolding left is_end lookahead_at sees take_token take_lifetime take_mark take_group before rows_for rows run parse_rule
compared_lt_a_bar_b = computed compared _ _ _ refl

-- `>> a` prints `` and leaves `>> a`
compared_shr_a : DerivesAs compared
    (punct 62 true (at 0 1) (punct 62 false (at 1 2) (leaf (ident (97 ∷ [])) (at 3 4) end)))
    (end)
    (punct 62 true (at 0 1) (punct 62 false (at 1 2) (leaf (ident (97 ∷ [])) (at 3 4) end)))
unfolding left is_end lookahead_at sees take_token take_lifetime take_mark take_group before rows_for rows run parse_rule
compared_shr_a = computed compared _ _ _ refl

-- `> a | b` prints `> a | b`
compared_gt_a_bar_b : DerivesAs compared
    (punct 62 false (at 0 1) (leaf (ident (97 ∷ [])) (at 2 3) (punct 124 false (at 4 5) (leaf (ident (98 ∷ [])) (at 6 7) end))))
    (punct 62 false call_site (leaf (ident (97 ∷ [])) call_site (punct 124 false call_site (leaf (ident (98 ∷ [])) call_site end))))
    (end)
unfolding left is_end lookahead_at sees take_token take_lifetime take_mark take_group before rows_for rows run parse_rule
compared_gt_a_bar_b = computed compared _ _ _ refl

-- `<= a | b` prints `<= a | b`
compared_lt_eq_a_bar_b : DerivesAs compared
    (punct 60 true (at 0 1) (punct 61 false (at 1 2) (leaf (ident (97 ∷ [])) (at 3 4) (punct 124 false (at 5 6) (leaf (ident (98 ∷ [])) (at 7 8) end)))))
    (punct 60 true call_site (punct 61 false call_site (leaf (ident (97 ∷ [])) call_site (punct 124 false call_site (leaf (ident (98 ∷ [])) call_site end)))))
    (end)
unfolding left is_end lookahead_at sees take_token take_lifetime take_mark take_group before rows_for rows run parse_rule
compared_lt_eq_a_bar_b = computed compared _ _ _ refl

-- `>= a | b` prints `>= a | b`
compared_gt_eq_a_bar_b : DerivesAs compared
    (punct 62 true (at 0 1) (punct 61 false (at 1 2) (leaf (ident (97 ∷ [])) (at 3 4) (punct 124 false (at 5 6) (leaf (ident (98 ∷ [])) (at 7 8) end)))))
    (punct 62 true call_site (punct 61 false call_site (leaf (ident (97 ∷ [])) call_site (punct 124 false call_site (leaf (ident (98 ∷ [])) call_site end)))))
    (end)
unfolding left is_end lookahead_at sees take_token take_lifetime take_mark take_group before rows_for rows run parse_rule
compared_gt_eq_a_bar_b = computed compared _ _ _ refl

-- `a < b < c` prints `a < b` and leaves `< c`
comparing_a_lt_b_lt_c : DerivesAs comparison
    (leaf (ident (97 ∷ [])) (at 0 1) (punct 60 false (at 2 3) (leaf (ident (98 ∷ [])) (at 4 5) (punct 60 false (at 6 7) (leaf (ident (99 ∷ [])) (at 8 9) end)))))
    (leaf (ident (97 ∷ [])) call_site (punct 60 false call_site (leaf (ident (98 ∷ [])) call_site end)))
    (punct 60 false (at 6 7) (leaf (ident (99 ∷ [])) (at 8 9) end))
unfolding left is_end lookahead_at sees take_token take_lifetime take_mark take_group before rows_for rows run parse_rule
comparing_a_lt_b_lt_c = computed comparison _ _ _ refl

-- `== () true`: nothing is read
comparing_eq_eq_parens_true : NotDerived (rule comparison)
    (punct 61 true (at 0 1) (punct 61 false (at 1 2) (group Paren (at 3 4) (at 4 5) end (leaf (ident w_true) (at 6 10) end))))
unfolding left is_end lookahead_at sees take_token take_lifetime take_mark take_group before rows_for rows run parse_rule
comparing_eq_eq_parens_true = not_read comparison _ refl

-- `false |`: nothing is read
comparing_false_bar : NotDerived (rule comparison)
    (leaf (ident w_false) (at 0 5) (punct 124 false (at 6 7) end))
unfolding left is_end lookahead_at sees take_token take_lifetime take_mark take_group before rows_for rows run parse_rule
comparing_false_bar = not_read comparison _ refl

-- `&& a &&`: nothing is read
ands_and_a_and : NotDerived (rule conjunctions)
    (punct 38 true (at 0 1) (punct 38 false (at 1 2) (leaf (ident (97 ∷ [])) (at 3 4) (punct 38 true (at 5 6) (punct 38 false (at 6 7) end)))))
unfolding left is_end lookahead_at sees take_token take_lifetime take_mark take_group before rows_for rows run parse_rule
ands_and_a_and = not_read conjunctions _ refl

-- `&& && a` prints `&& & & a`
ands_and_and_a : DerivesAs conjunctions
    (punct 38 true (at 0 1) (punct 38 false (at 1 2) (punct 38 true (at 3 4) (punct 38 false (at 4 5) (leaf (ident (97 ∷ [])) (at 6 7) end)))))
    (punct 38 true call_site (punct 38 false call_site (punct 38 false call_site (punct 38 false call_site (leaf (ident (97 ∷ [])) call_site end)))))
    (end)
unfolding left is_end lookahead_at sees take_token take_lifetime take_mark take_group before rows_for rows run parse_rule
ands_and_and_a = computed conjunctions _ _ _ refl

-- `&& a b` prints `&& a` and leaves `b`
ands_and_a_b : DerivesAs conjunctions
    (punct 38 true (at 0 1) (punct 38 false (at 1 2) (leaf (ident (97 ∷ [])) (at 3 4) (leaf (ident (98 ∷ [])) (at 5 6) end))))
    (punct 38 true call_site (punct 38 false call_site (leaf (ident (97 ∷ [])) call_site end)))
    (leaf (ident (98 ∷ [])) (at 5 6) end)
unfolding left is_end lookahead_at sees take_token take_lifetime take_mark take_group before rows_for rows run parse_rule
ands_and_a_b = computed conjunctions _ _ _ refl

-- `& a` prints `` and leaves `& a`
ands_amp_a : DerivesAs conjunctions
    (punct 38 false (at 0 1) (leaf (ident (97 ∷ [])) (at 2 3) end))
    (end)
    (punct 38 false (at 0 1) (leaf (ident (97 ∷ [])) (at 2 3) end))
unfolding left is_end lookahead_at sees take_token take_lifetime take_mark take_group before rows_for rows run parse_rule
ands_amp_a = computed conjunctions _ _ _ refl

-- `&& a < b` prints `&& a < b`
ands_and_a_lt_b : DerivesAs conjunctions
    (punct 38 true (at 0 1) (punct 38 false (at 1 2) (leaf (ident (97 ∷ [])) (at 3 4) (punct 60 false (at 5 6) (leaf (ident (98 ∷ [])) (at 7 8) end)))))
    (punct 38 true call_site (punct 38 false call_site (leaf (ident (97 ∷ [])) call_site (punct 60 false call_site (leaf (ident (98 ∷ [])) call_site end)))))
    (end)
unfolding left is_end lookahead_at sees take_token take_lifetime take_mark take_group before rows_for rows run parse_rule
ands_and_a_lt_b = computed conjunctions _ _ _ refl

-- no tokens: nothing is read
anding_nothing : NotDerived (rule conjunction)
    (end)
unfolding left is_end lookahead_at sees take_token take_lifetime take_mark take_group before rows_for rows run parse_rule
anding_nothing = not_read conjunction _ refl

-- `a b` prints `a` and leaves `b`
anding_a_b : DerivesAs conjunction
    (leaf (ident (97 ∷ [])) (at 0 1) (leaf (ident (98 ∷ [])) (at 2 3) end))
    (leaf (ident (97 ∷ [])) call_site end)
    (leaf (ident (98 ∷ [])) (at 2 3) end)
unfolding left is_end lookahead_at sees take_token take_lifetime take_mark take_group before rows_for rows run parse_rule
anding_a_b = computed conjunction _ _ _ refl

-- `&&a` prints `& & a`
anding_and_a : DerivesAs conjunction
    (punct 38 true (at 0 1) (punct 38 false (at 1 2) (leaf (ident (97 ∷ [])) (at 2 3) end)))
    (punct 38 false call_site (punct 38 false call_site (leaf (ident (97 ∷ [])) call_site end)))
    (end)
unfolding left is_end lookahead_at sees take_token take_lifetime take_mark take_group before rows_for rows run parse_rule
anding_and_a = computed conjunction _ _ _ refl

-- `a && b` prints `a && b`
anding_a_and_b : DerivesAs conjunction
    (leaf (ident (97 ∷ [])) (at 0 1) (punct 38 true (at 2 3) (punct 38 false (at 3 4) (leaf (ident (98 ∷ [])) (at 5 6) end))))
    (leaf (ident (97 ∷ [])) call_site (punct 38 true call_site (punct 38 false call_site (leaf (ident (98 ∷ [])) call_site end))))
    (end)
unfolding left is_end lookahead_at sees take_token take_lifetime take_mark take_group before rows_for rows run parse_rule
anding_a_and_b = computed conjunction _ _ _ refl

-- `a < b` prints `a < b`
anding_a_lt_b : DerivesAs conjunction
    (leaf (ident (97 ∷ [])) (at 0 1) (punct 60 false (at 2 3) (leaf (ident (98 ∷ [])) (at 4 5) end)))
    (leaf (ident (97 ∷ [])) call_site (punct 60 false call_site (leaf (ident (98 ∷ [])) call_site end)))
    (end)
unfolding left is_end lookahead_at sees take_token take_lifetime take_mark take_group before rows_for rows run parse_rule
anding_a_lt_b = computed conjunction _ _ _ refl

-- `|| a ||`: nothing is read
ors_or_a_or : NotDerived (rule disjunctions)
    (punct 124 true (at 0 1) (punct 124 false (at 1 2) (leaf (ident (97 ∷ [])) (at 3 4) (punct 124 true (at 5 6) (punct 124 false (at 6 7) end)))))
unfolding left is_end lookahead_at sees take_token take_lifetime take_mark take_group before rows_for rows run parse_rule
ors_or_a_or = not_read disjunctions _ refl

-- `|| || a`: nothing is read
ors_or_or_a : NotDerived (rule disjunctions)
    (punct 124 true (at 0 1) (punct 124 false (at 1 2) (punct 124 true (at 3 4) (punct 124 false (at 4 5) (leaf (ident (97 ∷ [])) (at 6 7) end)))))
unfolding left is_end lookahead_at sees take_token take_lifetime take_mark take_group before rows_for rows run parse_rule
ors_or_or_a = not_read disjunctions _ refl

-- `|| a b` prints `|| a` and leaves `b`
ors_or_a_b : DerivesAs disjunctions
    (punct 124 true (at 0 1) (punct 124 false (at 1 2) (leaf (ident (97 ∷ [])) (at 3 4) (leaf (ident (98 ∷ [])) (at 5 6) end))))
    (punct 124 true call_site (punct 124 false call_site (leaf (ident (97 ∷ [])) call_site end)))
    (leaf (ident (98 ∷ [])) (at 5 6) end)
unfolding left is_end lookahead_at sees take_token take_lifetime take_mark take_group before rows_for rows run parse_rule
ors_or_a_b = computed disjunctions _ _ _ refl

-- `| a` prints `` and leaves `| a`
ors_bar_a : DerivesAs disjunctions
    (punct 124 false (at 0 1) (leaf (ident (97 ∷ [])) (at 2 3) end))
    (end)
    (punct 124 false (at 0 1) (leaf (ident (97 ∷ [])) (at 2 3) end))
unfolding left is_end lookahead_at sees take_token take_lifetime take_mark take_group before rows_for rows run parse_rule
ors_bar_a = computed disjunctions _ _ _ refl

-- `|| a && b` prints `|| a && b`
ors_or_a_and_b : DerivesAs disjunctions
    (punct 124 true (at 0 1) (punct 124 false (at 1 2) (leaf (ident (97 ∷ [])) (at 3 4) (punct 38 true (at 5 6) (punct 38 false (at 6 7) (leaf (ident (98 ∷ [])) (at 8 9) end))))))
    (punct 124 true call_site (punct 124 false call_site (leaf (ident (97 ∷ [])) call_site (punct 38 true call_site (punct 38 false call_site (leaf (ident (98 ∷ [])) call_site end))))))
    (end)
unfolding left is_end lookahead_at sees take_token take_lifetime take_mark take_group before rows_for rows run parse_rule
ors_or_a_and_b = computed disjunctions _ _ _ refl

-- `_`: nothing is read
oring_underscore : NotDerived (rule disjunction)
    (leaf (ident w_underscore) (at 0 1) end)
unfolding left is_end lookahead_at sees take_token take_lifetime take_mark take_group before rows_for rows run parse_rule
oring_underscore = not_read disjunction _ refl

-- `a b` prints `a` and leaves `b`
oring_a_b : DerivesAs disjunction
    (leaf (ident (97 ∷ [])) (at 0 1) (leaf (ident (98 ∷ [])) (at 2 3) end))
    (leaf (ident (97 ∷ [])) call_site end)
    (leaf (ident (98 ∷ [])) (at 2 3) end)
unfolding left is_end lookahead_at sees take_token take_lifetime take_mark take_group before rows_for rows run parse_rule
oring_a_b = computed disjunction _ _ _ refl

-- `a || b` prints `a || b`
oring_a_or_b : DerivesAs disjunction
    (leaf (ident (97 ∷ [])) (at 0 1) (punct 124 true (at 2 3) (punct 124 false (at 3 4) (leaf (ident (98 ∷ [])) (at 5 6) end))))
    (leaf (ident (97 ∷ [])) call_site (punct 124 true call_site (punct 124 false call_site (leaf (ident (98 ∷ [])) call_site end))))
    (end)
unfolding left is_end lookahead_at sees take_token take_lifetime take_mark take_group before rows_for rows run parse_rule
oring_a_or_b = computed disjunction _ _ _ refl

-- `a && b` prints `a && b`
oring_a_and_b : DerivesAs disjunction
    (leaf (ident (97 ∷ [])) (at 0 1) (punct 38 true (at 2 3) (punct 38 false (at 3 4) (leaf (ident (98 ∷ [])) (at 5 6) end))))
    (leaf (ident (97 ∷ [])) call_site (punct 38 true call_site (punct 38 false call_site (leaf (ident (98 ∷ [])) call_site end))))
    (end)
unfolding left is_end lookahead_at sees take_token take_lifetime take_mark take_group before rows_for rows run parse_rule
oring_a_and_b = computed disjunction _ _ _ refl

-- `|| a b`: nothing is read
oring_or_a_b : NotDerived (rule disjunction)
    (punct 124 true (at 0 1) (punct 124 false (at 1 2) (leaf (ident (97 ∷ [])) (at 3 4) (leaf (ident (98 ∷ [])) (at 5 6) end))))
unfolding left is_end lookahead_at sees take_token take_lifetime take_mark take_group before rows_for rows run parse_rule
oring_or_a_b = not_read disjunction _ refl

-- `= = a`: nothing is read
assigned_eq_eq_a : NotDerived (rule assigned)
    (punct 61 false (at 0 1) (punct 61 false (at 2 3) (leaf (ident (97 ∷ [])) (at 4 5) end)))
unfolding left is_end lookahead_at sees take_token take_lifetime take_mark take_group before rows_for rows run parse_rule
assigned_eq_eq_a = not_read assigned _ refl

-- `= a b` prints `= a` and leaves `b`
assigned_eq_a_b : DerivesAs assigned
    (punct 61 false (at 0 1) (leaf (ident (97 ∷ [])) (at 2 3) (leaf (ident (98 ∷ [])) (at 4 5) end)))
    (punct 61 false call_site (leaf (ident (97 ∷ [])) call_site end))
    (leaf (ident (98 ∷ [])) (at 4 5) end)
unfolding left is_end lookahead_at sees take_token take_lifetime take_mark take_group before rows_for rows run parse_rule
assigned_eq_a_b = computed assigned _ _ _ refl

-- `+= += a`: nothing is read
assigned_plus_eq_plus_eq_a : NotDerived (rule assigned)
    (punct 43 true (at 0 1) (punct 61 false (at 1 2) (punct 43 true (at 3 4) (punct 61 false (at 4 5) (leaf (ident (97 ∷ [])) (at 6 7) end)))))
unfolding left is_end lookahead_at sees take_token take_lifetime take_mark take_group before rows_for rows run parse_rule
assigned_plus_eq_plus_eq_a = not_read assigned _ refl

-- `+= a b` prints `+= a` and leaves `b`
assigned_plus_eq_a_b : DerivesAs assigned
    (punct 43 true (at 0 1) (punct 61 false (at 1 2) (leaf (ident (97 ∷ [])) (at 3 4) (leaf (ident (98 ∷ [])) (at 5 6) end))))
    (punct 43 true call_site (punct 61 false call_site (leaf (ident (97 ∷ [])) call_site end)))
    (leaf (ident (98 ∷ [])) (at 5 6) end)
unfolding left is_end lookahead_at sees take_token take_lifetime take_mark take_group before rows_for rows run parse_rule
assigned_plus_eq_a_b = computed assigned _ _ _ refl

-- `-= -= a`: nothing is read
assigned_minus_eq_minus_eq_a : NotDerived (rule assigned)
    (punct 45 true (at 0 1) (punct 61 false (at 1 2) (punct 45 true (at 3 4) (punct 61 false (at 4 5) (leaf (ident (97 ∷ [])) (at 6 7) end)))))
unfolding left is_end lookahead_at sees take_token take_lifetime take_mark take_group before rows_for rows run parse_rule
assigned_minus_eq_minus_eq_a = not_read assigned _ refl

-- `-= a b` prints `-= a` and leaves `b`
assigned_minus_eq_a_b : DerivesAs assigned
    (punct 45 true (at 0 1) (punct 61 false (at 1 2) (leaf (ident (97 ∷ [])) (at 3 4) (leaf (ident (98 ∷ [])) (at 5 6) end))))
    (punct 45 true call_site (punct 61 false call_site (leaf (ident (97 ∷ [])) call_site end)))
    (leaf (ident (98 ∷ [])) (at 5 6) end)
unfolding left is_end lookahead_at sees take_token take_lifetime take_mark take_group before rows_for rows run parse_rule
assigned_minus_eq_a_b = computed assigned _ _ _ refl

-- `*= *= a`: nothing is read
assigned_star_eq_star_eq_a : NotDerived (rule assigned)
    (punct 42 true (at 0 1) (punct 61 false (at 1 2) (punct 42 true (at 3 4) (punct 61 false (at 4 5) (leaf (ident (97 ∷ [])) (at 6 7) end)))))
unfolding left is_end lookahead_at sees take_token take_lifetime take_mark take_group before rows_for rows run parse_rule
assigned_star_eq_star_eq_a = not_read assigned _ refl

-- `*= a b` prints `*= a` and leaves `b`
assigned_star_eq_a_b : DerivesAs assigned
    (punct 42 true (at 0 1) (punct 61 false (at 1 2) (leaf (ident (97 ∷ [])) (at 3 4) (leaf (ident (98 ∷ [])) (at 5 6) end))))
    (punct 42 true call_site (punct 61 false call_site (leaf (ident (97 ∷ [])) call_site end)))
    (leaf (ident (98 ∷ [])) (at 5 6) end)
unfolding left is_end lookahead_at sees take_token take_lifetime take_mark take_group before rows_for rows run parse_rule
assigned_star_eq_a_b = computed assigned _ _ _ refl

-- `/= /= a`: nothing is read
assigned_slash_eq_slash_eq_a : NotDerived (rule assigned)
    (punct 47 true (at 0 1) (punct 61 false (at 1 2) (punct 47 true (at 3 4) (punct 61 false (at 4 5) (leaf (ident (97 ∷ [])) (at 6 7) end)))))
unfolding left is_end lookahead_at sees take_token take_lifetime take_mark take_group before rows_for rows run parse_rule
assigned_slash_eq_slash_eq_a = not_read assigned _ refl

-- `/= a b` prints `/= a` and leaves `b`
assigned_slash_eq_a_b : DerivesAs assigned
    (punct 47 true (at 0 1) (punct 61 false (at 1 2) (leaf (ident (97 ∷ [])) (at 3 4) (leaf (ident (98 ∷ [])) (at 5 6) end))))
    (punct 47 true call_site (punct 61 false call_site (leaf (ident (97 ∷ [])) call_site end)))
    (leaf (ident (98 ∷ [])) (at 5 6) end)
unfolding left is_end lookahead_at sees take_token take_lifetime take_mark take_group before rows_for rows run parse_rule
assigned_slash_eq_a_b = computed assigned _ _ _ refl

-- `%= %= a`: nothing is read
assigned_percent_eq_percent_eq_a : NotDerived (rule assigned)
    (punct 37 true (at 0 1) (punct 61 false (at 1 2) (punct 37 true (at 3 4) (punct 61 false (at 4 5) (leaf (ident (97 ∷ [])) (at 6 7) end)))))
unfolding left is_end lookahead_at sees take_token take_lifetime take_mark take_group before rows_for rows run parse_rule
assigned_percent_eq_percent_eq_a = not_read assigned _ refl

-- `%= a b` prints `%= a` and leaves `b`
assigned_percent_eq_a_b : DerivesAs assigned
    (punct 37 true (at 0 1) (punct 61 false (at 1 2) (leaf (ident (97 ∷ [])) (at 3 4) (leaf (ident (98 ∷ [])) (at 5 6) end))))
    (punct 37 true call_site (punct 61 false call_site (leaf (ident (97 ∷ [])) call_site end)))
    (leaf (ident (98 ∷ [])) (at 5 6) end)
unfolding left is_end lookahead_at sees take_token take_lifetime take_mark take_group before rows_for rows run parse_rule
assigned_percent_eq_a_b = computed assigned _ _ _ refl

-- `^= ^= a`: nothing is read
assigned_caret_eq_caret_eq_a : NotDerived (rule assigned)
    (punct 94 true (at 0 1) (punct 61 false (at 1 2) (punct 94 true (at 3 4) (punct 61 false (at 4 5) (leaf (ident (97 ∷ [])) (at 6 7) end)))))
unfolding left is_end lookahead_at sees take_token take_lifetime take_mark take_group before rows_for rows run parse_rule
assigned_caret_eq_caret_eq_a = not_read assigned _ refl

-- `^= a b` prints `^= a` and leaves `b`
assigned_caret_eq_a_b : DerivesAs assigned
    (punct 94 true (at 0 1) (punct 61 false (at 1 2) (leaf (ident (97 ∷ [])) (at 3 4) (leaf (ident (98 ∷ [])) (at 5 6) end))))
    (punct 94 true call_site (punct 61 false call_site (leaf (ident (97 ∷ [])) call_site end)))
    (leaf (ident (98 ∷ [])) (at 5 6) end)
unfolding left is_end lookahead_at sees take_token take_lifetime take_mark take_group before rows_for rows run parse_rule
assigned_caret_eq_a_b = computed assigned _ _ _ refl

-- `&= &= a`: nothing is read
assigned_amp_eq_amp_eq_a : NotDerived (rule assigned)
    (punct 38 true (at 0 1) (punct 61 false (at 1 2) (punct 38 true (at 3 4) (punct 61 false (at 4 5) (leaf (ident (97 ∷ [])) (at 6 7) end)))))
unfolding left is_end lookahead_at sees take_token take_lifetime take_mark take_group before rows_for rows run parse_rule
assigned_amp_eq_amp_eq_a = not_read assigned _ refl

-- `&= a b` prints `&= a` and leaves `b`
assigned_amp_eq_a_b : DerivesAs assigned
    (punct 38 true (at 0 1) (punct 61 false (at 1 2) (leaf (ident (97 ∷ [])) (at 3 4) (leaf (ident (98 ∷ [])) (at 5 6) end))))
    (punct 38 true call_site (punct 61 false call_site (leaf (ident (97 ∷ [])) call_site end)))
    (leaf (ident (98 ∷ [])) (at 5 6) end)
unfolding left is_end lookahead_at sees take_token take_lifetime take_mark take_group before rows_for rows run parse_rule
assigned_amp_eq_a_b = computed assigned _ _ _ refl

-- `|= |= a`: nothing is read
assigned_bar_eq_bar_eq_a : NotDerived (rule assigned)
    (punct 124 true (at 0 1) (punct 61 false (at 1 2) (punct 124 true (at 3 4) (punct 61 false (at 4 5) (leaf (ident (97 ∷ [])) (at 6 7) end)))))
unfolding left is_end lookahead_at sees take_token take_lifetime take_mark take_group before rows_for rows run parse_rule
assigned_bar_eq_bar_eq_a = not_read assigned _ refl

-- `|= a b` prints `|= a` and leaves `b`
assigned_bar_eq_a_b : DerivesAs assigned
    (punct 124 true (at 0 1) (punct 61 false (at 1 2) (leaf (ident (97 ∷ [])) (at 3 4) (leaf (ident (98 ∷ [])) (at 5 6) end))))
    (punct 124 true call_site (punct 61 false call_site (leaf (ident (97 ∷ [])) call_site end)))
    (leaf (ident (98 ∷ [])) (at 5 6) end)
unfolding left is_end lookahead_at sees take_token take_lifetime take_mark take_group before rows_for rows run parse_rule
assigned_bar_eq_a_b = computed assigned _ _ _ refl

-- `<<=`: nothing is read
assigned_shl_eq : NotDerived (rule assigned)
    (punct 60 true (at 0 1) (punct 60 true (at 1 2) (punct 61 false (at 2 3) end)))
unfolding left is_end lookahead_at sees take_token take_lifetime take_mark take_group before rows_for rows run parse_rule
assigned_shl_eq = not_read assigned _ refl

-- `<<= <<= a`: nothing is read
assigned_shl_eq_shl_eq_a : NotDerived (rule assigned)
    (punct 60 true (at 0 1) (punct 60 true (at 1 2) (punct 61 false (at 2 3) (punct 60 true (at 4 5) (punct 60 true (at 5 6) (punct 61 false (at 6 7) (leaf (ident (97 ∷ [])) (at 8 9) end)))))))
unfolding left is_end lookahead_at sees take_token take_lifetime take_mark take_group before rows_for rows run parse_rule
assigned_shl_eq_shl_eq_a = not_read assigned _ refl

-- `<<= a b` prints `<<= a` and leaves `b`
assigned_shl_eq_a_b : DerivesAs assigned
    (punct 60 true (at 0 1) (punct 60 true (at 1 2) (punct 61 false (at 2 3) (leaf (ident (97 ∷ [])) (at 4 5) (leaf (ident (98 ∷ [])) (at 6 7) end)))))
    (punct 60 true call_site (punct 60 true call_site (punct 61 false call_site (leaf (ident (97 ∷ [])) call_site end))))
    (leaf (ident (98 ∷ [])) (at 6 7) end)
unfolding left is_end lookahead_at sees take_token take_lifetime take_mark take_group before rows_for rows run parse_rule
assigned_shl_eq_a_b = computed assigned _ _ _ refl

-- `>>= >>= a`: nothing is read
assigned_shr_eq_shr_eq_a : NotDerived (rule assigned)
    (punct 62 true (at 0 1) (punct 62 true (at 1 2) (punct 61 false (at 2 3) (punct 62 true (at 4 5) (punct 62 true (at 5 6) (punct 61 false (at 6 7) (leaf (ident (97 ∷ [])) (at 8 9) end)))))))
unfolding left is_end lookahead_at sees take_token take_lifetime take_mark take_group before rows_for rows run parse_rule
assigned_shr_eq_shr_eq_a = not_read assigned _ refl

-- `>>= a b` prints `>>= a` and leaves `b`
assigned_shr_eq_a_b : DerivesAs assigned
    (punct 62 true (at 0 1) (punct 62 true (at 1 2) (punct 61 false (at 2 3) (leaf (ident (97 ∷ [])) (at 4 5) (leaf (ident (98 ∷ [])) (at 6 7) end)))))
    (punct 62 true call_site (punct 62 true call_site (punct 61 false call_site (leaf (ident (97 ∷ [])) call_site end))))
    (leaf (ident (98 ∷ [])) (at 6 7) end)
unfolding left is_end lookahead_at sees take_token take_lifetime take_mark take_group before rows_for rows run parse_rule
assigned_shr_eq_a_b = computed assigned _ _ _ refl

-- `== a` prints `` and leaves `== a`
assigned_eq_eq_a_2 : DerivesAs assigned
    (punct 61 true (at 0 1) (punct 61 false (at 1 2) (leaf (ident (97 ∷ [])) (at 3 4) end)))
    (end)
    (punct 61 true (at 0 1) (punct 61 false (at 1 2) (leaf (ident (97 ∷ [])) (at 3 4) end)))
unfolding left is_end lookahead_at sees take_token take_lifetime take_mark take_group before rows_for rows run parse_rule
assigned_eq_eq_a_2 = computed assigned _ _ _ refl

-- `= a =`: nothing is read
assigned_eq_a_eq : NotDerived (rule assigned)
    (punct 61 false (at 0 1) (leaf (ident (97 ∷ [])) (at 2 3) (punct 61 false (at 4 5) end)))
unfolding left is_end lookahead_at sees take_token take_lifetime take_mark take_group before rows_for rows run parse_rule
assigned_eq_a_eq = not_read assigned _ refl

-- `+ a` prints `` and leaves `+ a`
assigned_plus_a : DerivesAs assigned
    (punct 43 false (at 0 1) (leaf (ident (97 ∷ [])) (at 2 3) end))
    (end)
    (punct 43 false (at 0 1) (leaf (ident (97 ∷ [])) (at 2 3) end))
unfolding left is_end lookahead_at sees take_token take_lifetime take_mark take_group before rows_for rows run parse_rule
assigned_plus_a = computed assigned _ _ _ refl

-- `+= a +=`: nothing is read
assigned_plus_eq_a_plus_eq : NotDerived (rule assigned)
    (punct 43 true (at 0 1) (punct 61 false (at 1 2) (leaf (ident (97 ∷ [])) (at 3 4) (punct 43 true (at 5 6) (punct 61 false (at 6 7) end)))))
unfolding left is_end lookahead_at sees take_token take_lifetime take_mark take_group before rows_for rows run parse_rule
assigned_plus_eq_a_plus_eq = not_read assigned _ refl

-- `- a` prints `` and leaves `- a`
assigned_minus_a : DerivesAs assigned
    (punct 45 false (at 0 1) (leaf (ident (97 ∷ [])) (at 2 3) end))
    (end)
    (punct 45 false (at 0 1) (leaf (ident (97 ∷ [])) (at 2 3) end))
unfolding left is_end lookahead_at sees take_token take_lifetime take_mark take_group before rows_for rows run parse_rule
assigned_minus_a = computed assigned _ _ _ refl

-- `-= a -=`: nothing is read
assigned_minus_eq_a_minus_eq : NotDerived (rule assigned)
    (punct 45 true (at 0 1) (punct 61 false (at 1 2) (leaf (ident (97 ∷ [])) (at 3 4) (punct 45 true (at 5 6) (punct 61 false (at 6 7) end)))))
unfolding left is_end lookahead_at sees take_token take_lifetime take_mark take_group before rows_for rows run parse_rule
assigned_minus_eq_a_minus_eq = not_read assigned _ refl

-- `* a` prints `` and leaves `* a`
assigned_star_a : DerivesAs assigned
    (punct 42 false (at 0 1) (leaf (ident (97 ∷ [])) (at 2 3) end))
    (end)
    (punct 42 false (at 0 1) (leaf (ident (97 ∷ [])) (at 2 3) end))
unfolding left is_end lookahead_at sees take_token take_lifetime take_mark take_group before rows_for rows run parse_rule
assigned_star_a = computed assigned _ _ _ refl

-- `*= a *=`: nothing is read
assigned_star_eq_a_star_eq : NotDerived (rule assigned)
    (punct 42 true (at 0 1) (punct 61 false (at 1 2) (leaf (ident (97 ∷ [])) (at 3 4) (punct 42 true (at 5 6) (punct 61 false (at 6 7) end)))))
unfolding left is_end lookahead_at sees take_token take_lifetime take_mark take_group before rows_for rows run parse_rule
assigned_star_eq_a_star_eq = not_read assigned _ refl

-- `/ a` prints `` and leaves `/ a`
assigned_slash_a : DerivesAs assigned
    (punct 47 false (at 0 1) (leaf (ident (97 ∷ [])) (at 2 3) end))
    (end)
    (punct 47 false (at 0 1) (leaf (ident (97 ∷ [])) (at 2 3) end))
unfolding left is_end lookahead_at sees take_token take_lifetime take_mark take_group before rows_for rows run parse_rule
assigned_slash_a = computed assigned _ _ _ refl

-- `/= a /=`: nothing is read
assigned_slash_eq_a_slash_eq : NotDerived (rule assigned)
    (punct 47 true (at 0 1) (punct 61 false (at 1 2) (leaf (ident (97 ∷ [])) (at 3 4) (punct 47 true (at 5 6) (punct 61 false (at 6 7) end)))))
unfolding left is_end lookahead_at sees take_token take_lifetime take_mark take_group before rows_for rows run parse_rule
assigned_slash_eq_a_slash_eq = not_read assigned _ refl

-- `% a` prints `` and leaves `% a`
assigned_percent_a : DerivesAs assigned
    (punct 37 false (at 0 1) (leaf (ident (97 ∷ [])) (at 2 3) end))
    (end)
    (punct 37 false (at 0 1) (leaf (ident (97 ∷ [])) (at 2 3) end))
unfolding left is_end lookahead_at sees take_token take_lifetime take_mark take_group before rows_for rows run parse_rule
assigned_percent_a = computed assigned _ _ _ refl

-- `%= a %=`: nothing is read
assigned_percent_eq_a_percent_eq : NotDerived (rule assigned)
    (punct 37 true (at 0 1) (punct 61 false (at 1 2) (leaf (ident (97 ∷ [])) (at 3 4) (punct 37 true (at 5 6) (punct 61 false (at 6 7) end)))))
unfolding left is_end lookahead_at sees take_token take_lifetime take_mark take_group before rows_for rows run parse_rule
assigned_percent_eq_a_percent_eq = not_read assigned _ refl

-- `^ a` prints `` and leaves `^ a`
assigned_caret_a : DerivesAs assigned
    (punct 94 false (at 0 1) (leaf (ident (97 ∷ [])) (at 2 3) end))
    (end)
    (punct 94 false (at 0 1) (leaf (ident (97 ∷ [])) (at 2 3) end))
unfolding left is_end lookahead_at sees take_token take_lifetime take_mark take_group before rows_for rows run parse_rule
assigned_caret_a = computed assigned _ _ _ refl

-- `^= a ^=`: nothing is read
assigned_caret_eq_a_caret_eq : NotDerived (rule assigned)
    (punct 94 true (at 0 1) (punct 61 false (at 1 2) (leaf (ident (97 ∷ [])) (at 3 4) (punct 94 true (at 5 6) (punct 61 false (at 6 7) end)))))
unfolding left is_end lookahead_at sees take_token take_lifetime take_mark take_group before rows_for rows run parse_rule
assigned_caret_eq_a_caret_eq = not_read assigned _ refl

-- `& a` prints `` and leaves `& a`
assigned_amp_a : DerivesAs assigned
    (punct 38 false (at 0 1) (leaf (ident (97 ∷ [])) (at 2 3) end))
    (end)
    (punct 38 false (at 0 1) (leaf (ident (97 ∷ [])) (at 2 3) end))
unfolding left is_end lookahead_at sees take_token take_lifetime take_mark take_group before rows_for rows run parse_rule
assigned_amp_a = computed assigned _ _ _ refl

-- `&= a &=`: nothing is read
assigned_amp_eq_a_amp_eq : NotDerived (rule assigned)
    (punct 38 true (at 0 1) (punct 61 false (at 1 2) (leaf (ident (97 ∷ [])) (at 3 4) (punct 38 true (at 5 6) (punct 61 false (at 6 7) end)))))
unfolding left is_end lookahead_at sees take_token take_lifetime take_mark take_group before rows_for rows run parse_rule
assigned_amp_eq_a_amp_eq = not_read assigned _ refl

-- `| a` prints `` and leaves `| a`
assigned_bar_a : DerivesAs assigned
    (punct 124 false (at 0 1) (leaf (ident (97 ∷ [])) (at 2 3) end))
    (end)
    (punct 124 false (at 0 1) (leaf (ident (97 ∷ [])) (at 2 3) end))
unfolding left is_end lookahead_at sees take_token take_lifetime take_mark take_group before rows_for rows run parse_rule
assigned_bar_a = computed assigned _ _ _ refl

-- `|= a |=`: nothing is read
assigned_bar_eq_a_bar_eq : NotDerived (rule assigned)
    (punct 124 true (at 0 1) (punct 61 false (at 1 2) (leaf (ident (97 ∷ [])) (at 3 4) (punct 124 true (at 5 6) (punct 61 false (at 6 7) end)))))
unfolding left is_end lookahead_at sees take_token take_lifetime take_mark take_group before rows_for rows run parse_rule
assigned_bar_eq_a_bar_eq = not_read assigned _ refl

-- `<< a` prints `` and leaves `<< a`
assigned_shl_a : DerivesAs assigned
    (punct 60 true (at 0 1) (punct 60 false (at 1 2) (leaf (ident (97 ∷ [])) (at 3 4) end)))
    (end)
    (punct 60 true (at 0 1) (punct 60 false (at 1 2) (leaf (ident (97 ∷ [])) (at 3 4) end)))
unfolding left is_end lookahead_at sees take_token take_lifetime take_mark take_group before rows_for rows run parse_rule
assigned_shl_a = computed assigned _ _ _ refl

-- `<<= a = b` prints `<<= a = b`
assigned_shl_eq_a_eq_b : DerivesAs assigned
    (punct 60 true (at 0 1) (punct 60 true (at 1 2) (punct 61 false (at 2 3) (leaf (ident (97 ∷ [])) (at 4 5) (punct 61 false (at 6 7) (leaf (ident (98 ∷ [])) (at 8 9) end))))))
    (punct 60 true call_site (punct 60 true call_site (punct 61 false call_site (leaf (ident (97 ∷ [])) call_site (punct 61 false call_site (leaf (ident (98 ∷ [])) call_site end))))))
    (end)
unfolding left is_end lookahead_at sees take_token take_lifetime take_mark take_group before rows_for rows run parse_rule
assigned_shl_eq_a_eq_b = computed assigned _ _ _ refl

-- `>> a` prints `` and leaves `>> a`
assigned_shr_a : DerivesAs assigned
    (punct 62 true (at 0 1) (punct 62 false (at 1 2) (leaf (ident (97 ∷ [])) (at 3 4) end)))
    (end)
    (punct 62 true (at 0 1) (punct 62 false (at 1 2) (leaf (ident (97 ∷ [])) (at 3 4) end)))
unfolding left is_end lookahead_at sees take_token take_lifetime take_mark take_group before rows_for rows run parse_rule
assigned_shr_a = computed assigned _ _ _ refl

-- `>>= a = b` prints `>>= a = b`
assigned_shr_eq_a_eq_b : DerivesAs assigned
    (punct 62 true (at 0 1) (punct 62 true (at 1 2) (punct 61 false (at 2 3) (leaf (ident (97 ∷ [])) (at 4 5) (punct 61 false (at 6 7) (leaf (ident (98 ∷ [])) (at 8 9) end))))))
    (punct 62 true call_site (punct 62 true call_site (punct 61 false call_site (leaf (ident (97 ∷ [])) call_site (punct 61 false call_site (leaf (ident (98 ∷ [])) call_site end))))))
    (end)
unfolding left is_end lookahead_at sees take_token take_lifetime take_mark take_group before rows_for rows run parse_rule
assigned_shr_eq_a_eq_b = computed assigned _ _ _ refl

-- `_`: nothing is read
whole_underscore : NotDerived (rule whole_expression)
    (leaf (ident w_underscore) (at 0 1) end)
unfolding left is_end lookahead_at sees take_token take_lifetime take_mark take_group before rows_for rows run parse_rule
whole_underscore = not_read whole_expression _ refl

-- `a <<= b` prints `a <<= b`
whole_a_shl_eq_b : DerivesAs whole_expression
    (leaf (ident (97 ∷ [])) (at 0 1) (punct 60 true (at 2 3) (punct 60 true (at 3 4) (punct 61 false (at 4 5) (leaf (ident (98 ∷ [])) (at 6 7) end)))))
    (leaf (ident (97 ∷ [])) call_site (punct 60 true call_site (punct 60 true call_site (punct 61 false call_site (leaf (ident (98 ∷ [])) call_site end)))))
    (end)
unfolding left is_end lookahead_at sees take_token take_lifetime take_mark take_group before rows_for rows run parse_rule
whole_a_shl_eq_b = computed whole_expression _ _ _ refl

-- `a < b < c`: nothing is read
whole_a_lt_b_lt_c : NotDerived (rule whole_expression)
    (leaf (ident (97 ∷ [])) (at 0 1) (punct 60 false (at 2 3) (leaf (ident (98 ∷ [])) (at 4 5) (punct 60 false (at 6 7) (leaf (ident (99 ∷ [])) (at 8 9) end)))))
unfolding left is_end lookahead_at sees take_token take_lifetime take_mark take_group before rows_for rows run parse_rule
whole_a_lt_b_lt_c = not_read whole_expression _ refl

-- `a || b` prints `a || b`
whole_a_or_b : DerivesAs whole_expression
    (leaf (ident (97 ∷ [])) (at 0 1) (punct 124 true (at 2 3) (punct 124 false (at 3 4) (leaf (ident (98 ∷ [])) (at 5 6) end))))
    (leaf (ident (97 ∷ [])) call_site (punct 124 true call_site (punct 124 false call_site (leaf (ident (98 ∷ [])) call_site end))))
    (end)
unfolding left is_end lookahead_at sees take_token take_lifetime take_mark take_group before rows_for rows run parse_rule
whole_a_or_b = computed whole_expression _ _ _ refl

-- `if a {}` prints `if a {}`
whole_if_a_braces : DerivesAs whole_expression
    (leaf (ident w_if) (at 0 2) (leaf (ident (97 ∷ [])) (at 3 4) (group Brace (at 5 6) (at 6 7) end end)))
    (leaf (ident w_if) call_site (leaf (ident (97 ∷ [])) call_site (group Brace call_site call_site end end)))
    (end)
unfolding left is_end lookahead_at sees take_token take_lifetime take_mark take_group before rows_for rows run parse_rule
whole_if_a_braces = computed whole_expression _ _ _ refl

-- `a == b == c`: nothing is read
whole_a_eq_eq_b_eq_eq_c : NotDerived (rule whole_expression)
    (leaf (ident (97 ∷ [])) (at 0 1) (punct 61 true (at 2 3) (punct 61 false (at 3 4) (leaf (ident (98 ∷ [])) (at 5 6) (punct 61 true (at 7 8) (punct 61 false (at 8 9) (leaf (ident (99 ∷ [])) (at 10 11) end)))))))
unfolding left is_end lookahead_at sees take_token take_lifetime take_mark take_group before rows_for rows run parse_rule
whole_a_eq_eq_b_eq_eq_c = not_read whole_expression _ refl

-- `a == b != c`: nothing is read
whole_a_eq_eq_b_not_eq_c : NotDerived (rule whole_expression)
    (leaf (ident (97 ∷ [])) (at 0 1) (punct 61 true (at 2 3) (punct 61 false (at 3 4) (leaf (ident (98 ∷ [])) (at 5 6) (punct 33 true (at 7 8) (punct 61 false (at 8 9) (leaf (ident (99 ∷ [])) (at 10 11) end)))))))
unfolding left is_end lookahead_at sees take_token take_lifetime take_mark take_group before rows_for rows run parse_rule
whole_a_eq_eq_b_not_eq_c = not_read whole_expression _ refl

-- `a as ! (b)`: nothing is read
whole_a_as_bang_in_paren_b : NotDerived (rule whole_expression)
    (leaf (ident (97 ∷ [])) (at 0 1) (leaf (ident w_as) (at 2 4) (punct 33 false (at 5 6) (group Paren (at 7 8) (at 9 10) (leaf (ident (98 ∷ [])) (at 8 9) end) end))))
unfolding left is_end lookahead_at sees take_token take_lifetime take_mark take_group before rows_for rows run parse_rule
whole_a_as_bang_in_paren_b = not_read whole_expression _ refl

-- `a as ! [b]`: nothing is read
whole_a_as_bang_in_bracket_b : NotDerived (rule whole_expression)
    (leaf (ident (97 ∷ [])) (at 0 1) (leaf (ident w_as) (at 2 4) (punct 33 false (at 5 6) (group Bracket (at 7 8) (at 9 10) (leaf (ident (98 ∷ [])) (at 8 9) end) end))))
unfolding left is_end lookahead_at sees take_token take_lifetime take_mark take_group before rows_for rows run parse_rule
whole_a_as_bang_in_bracket_b = not_read whole_expression _ refl

-- `a as !?`: nothing is read
whole_a_as_bang_question : NotDerived (rule whole_expression)
    (leaf (ident (97 ∷ [])) (at 0 1) (leaf (ident w_as) (at 2 4) (punct 33 true (at 5 6) (punct 63 false (at 6 7) end))))
unfolding left is_end lookahead_at sees take_token take_lifetime take_mark take_group before rows_for rows run parse_rule
whole_a_as_bang_question = not_read whole_expression _ refl

-- `a as !.b`: nothing is read
whole_a_as_bang_dot_b : NotDerived (rule whole_expression)
    (leaf (ident (97 ∷ [])) (at 0 1) (leaf (ident w_as) (at 2 4) (punct 33 true (at 5 6) (punct 46 false (at 6 7) (leaf (ident (98 ∷ [])) (at 7 8) end)))))
unfolding left is_end lookahead_at sees take_token take_lifetime take_mark take_group before rows_for rows run parse_rule
whole_a_as_bang_dot_b = not_read whole_expression _ refl

-- `a > b > c`: nothing is read
whole_a_gt_b_gt_c : NotDerived (rule whole_expression)
    (leaf (ident (97 ∷ [])) (at 0 1) (punct 62 false (at 2 3) (leaf (ident (98 ∷ [])) (at 4 5) (punct 62 false (at 6 7) (leaf (ident (99 ∷ [])) (at 8 9) end)))))
unfolding left is_end lookahead_at sees take_token take_lifetime take_mark take_group before rows_for rows run parse_rule
whole_a_gt_b_gt_c = not_read whole_expression _ refl

-- `a < b > c`: nothing is read
whole_a_lt_b_gt_c : NotDerived (rule whole_expression)
    (leaf (ident (97 ∷ [])) (at 0 1) (punct 60 false (at 2 3) (leaf (ident (98 ∷ [])) (at 4 5) (punct 62 false (at 6 7) (leaf (ident (99 ∷ [])) (at 8 9) end)))))
unfolding left is_end lookahead_at sees take_token take_lifetime take_mark take_group before rows_for rows run parse_rule
whole_a_lt_b_gt_c = not_read whole_expression _ refl

-- `true !` prints `true` and leaves `!`
whole_true_bang : DerivesAs whole_expression
    (leaf (ident w_true) (at 0 4) (punct 33 false (at 5 6) end))
    (leaf (ident w_true) call_site end)
    (punct 33 false (at 5 6) end)
unfolding left is_end lookahead_at sees take_token take_lifetime take_mark take_group before rows_for rows run parse_rule
whole_true_bang = computed whole_expression _ _ _ refl

-- `1 ..a` prints `1` and leaves `..a`
whole_n1_dots_a : DerivesAs whole_expression
    (leaf (literal Int (49 ∷ [])) (at 0 1) (punct 46 true (at 2 3) (punct 46 false (at 3 4) (leaf (ident (97 ∷ [])) (at 4 5) end))))
    (leaf (literal Int (49 ∷ [])) call_site end)
    (punct 46 true (at 2 3) (punct 46 false (at 3 4) (leaf (ident (97 ∷ [])) (at 4 5) end)))
unfolding left is_end lookahead_at sees take_token take_lifetime take_mark take_group before rows_for rows run parse_rule
whole_n1_dots_a = computed whole_expression _ _ _ refl

-- `= a b`: nothing is read
whole_eq_a_b : NotDerived (rule whole_expression)
    (punct 61 false (at 0 1) (leaf (ident (97 ∷ [])) (at 2 3) (leaf (ident (98 ∷ [])) (at 4 5) end)))
unfolding left is_end lookahead_at sees take_token take_lifetime take_mark take_group before rows_for rows run parse_rule
whole_eq_a_b = not_read whole_expression _ refl

-- `?` prints `?`
operand_question : DerivesAs operand_rest
    (punct 63 false (at 0 1) end)
    (punct 63 false call_site end)
    (end)
unfolding left is_end lookahead_at sees take_token take_lifetime take_mark take_group before rows_for rows run parse_rule
operand_question = computed operand_rest _ _ _ refl

-- `as T?` prints `as T` and leaves `?`
operand_as_T_question : DerivesAs operand_rest
    (leaf (ident w_as) (at 0 2) (leaf (ident (84 ∷ [])) (at 3 4) (punct 63 false (at 4 5) end)))
    (leaf (ident w_as) call_site (leaf (ident (84 ∷ [])) call_site end))
    (punct 63 false (at 4 5) end)
unfolding left is_end lookahead_at sees take_token take_lifetime take_mark take_group before rows_for rows run parse_rule
operand_as_T_question = computed operand_rest _ _ _ refl

-- `as T % b` prints `as T % b`
operand_as_T_percent_b : DerivesAs operand_rest
    (leaf (ident w_as) (at 0 2) (leaf (ident (84 ∷ [])) (at 3 4) (punct 37 false (at 5 6) (leaf (ident (98 ∷ [])) (at 7 8) end))))
    (leaf (ident w_as) call_site (leaf (ident (84 ∷ [])) call_site (punct 37 false call_site (leaf (ident (98 ∷ [])) call_site end))))
    (end)
unfolding left is_end lookahead_at sees take_token take_lifetime take_mark take_group before rows_for rows run parse_rule
operand_as_T_percent_b = computed operand_rest _ _ _ refl

-- `* a + b` prints `* a + b`
operand_star_a_plus_b : DerivesAs operand_rest
    (punct 42 false (at 0 1) (leaf (ident (97 ∷ [])) (at 2 3) (punct 43 false (at 4 5) (leaf (ident (98 ∷ [])) (at 6 7) end))))
    (punct 42 false call_site (leaf (ident (97 ∷ [])) call_site (punct 43 false call_site (leaf (ident (98 ∷ [])) call_site end))))
    (end)
unfolding left is_end lookahead_at sees take_token take_lifetime take_mark take_group before rows_for rows run parse_rule
operand_star_a_plus_b = computed operand_rest _ _ _ refl

-- `+ a << b` prints `+ a << b`
operand_plus_a_shl_b : DerivesAs operand_rest
    (punct 43 false (at 0 1) (leaf (ident (97 ∷ [])) (at 2 3) (punct 60 true (at 4 5) (punct 60 false (at 5 6) (leaf (ident (98 ∷ [])) (at 7 8) end)))))
    (punct 43 false call_site (leaf (ident (97 ∷ [])) call_site (punct 60 true call_site (punct 60 false call_site (leaf (ident (98 ∷ [])) call_site end)))))
    (end)
unfolding left is_end lookahead_at sees take_token take_lifetime take_mark take_group before rows_for rows run parse_rule
operand_plus_a_shl_b = computed operand_rest _ _ _ refl

-- `<< a & b` prints `<< a & b`
operand_shl_a_amp_b : DerivesAs operand_rest
    (punct 60 true (at 0 1) (punct 60 false (at 1 2) (leaf (ident (97 ∷ [])) (at 3 4) (punct 38 false (at 5 6) (leaf (ident (98 ∷ [])) (at 7 8) end)))))
    (punct 60 true call_site (punct 60 false call_site (leaf (ident (97 ∷ [])) call_site (punct 38 false call_site (leaf (ident (98 ∷ [])) call_site end)))))
    (end)
unfolding left is_end lookahead_at sees take_token take_lifetime take_mark take_group before rows_for rows run parse_rule
operand_shl_a_amp_b = computed operand_rest _ _ _ refl

-- `& a ^ b` prints `& a ^ b`
operand_amp_a_caret_b : DerivesAs operand_rest
    (punct 38 false (at 0 1) (leaf (ident (97 ∷ [])) (at 2 3) (punct 94 false (at 4 5) (leaf (ident (98 ∷ [])) (at 6 7) end))))
    (punct 38 false call_site (leaf (ident (97 ∷ [])) call_site (punct 94 false call_site (leaf (ident (98 ∷ [])) call_site end))))
    (end)
unfolding left is_end lookahead_at sees take_token take_lifetime take_mark take_group before rows_for rows run parse_rule
operand_amp_a_caret_b = computed operand_rest _ _ _ refl

-- `^ a | b` prints `^ a | b`
operand_caret_a_bar_b : DerivesAs operand_rest
    (punct 94 false (at 0 1) (leaf (ident (97 ∷ [])) (at 2 3) (punct 124 false (at 4 5) (leaf (ident (98 ∷ [])) (at 6 7) end))))
    (punct 94 false call_site (leaf (ident (97 ∷ [])) call_site (punct 124 false call_site (leaf (ident (98 ∷ [])) call_site end))))
    (end)
unfolding left is_end lookahead_at sees take_token take_lifetime take_mark take_group before rows_for rows run parse_rule
operand_caret_a_bar_b = computed operand_rest _ _ _ refl

-- `| a == b` prints `| a == b`
operand_bar_a_eq_eq_b : DerivesAs operand_rest
    (punct 124 false (at 0 1) (leaf (ident (97 ∷ [])) (at 2 3) (punct 61 true (at 4 5) (punct 61 false (at 5 6) (leaf (ident (98 ∷ [])) (at 7 8) end)))))
    (punct 124 false call_site (leaf (ident (97 ∷ [])) call_site (punct 61 true call_site (punct 61 false call_site (leaf (ident (98 ∷ [])) call_site end)))))
    (end)
unfolding left is_end lookahead_at sees take_token take_lifetime take_mark take_group before rows_for rows run parse_rule
operand_bar_a_eq_eq_b = computed operand_rest _ _ _ refl

-- `== a && b` prints `== a && b`
operand_eq_eq_a_and_b : DerivesAs operand_rest
    (punct 61 true (at 0 1) (punct 61 false (at 1 2) (leaf (ident (97 ∷ [])) (at 3 4) (punct 38 true (at 5 6) (punct 38 false (at 6 7) (leaf (ident (98 ∷ [])) (at 8 9) end))))))
    (punct 61 true call_site (punct 61 false call_site (leaf (ident (97 ∷ [])) call_site (punct 38 true call_site (punct 38 false call_site (leaf (ident (98 ∷ [])) call_site end))))))
    (end)
unfolding left is_end lookahead_at sees take_token take_lifetime take_mark take_group before rows_for rows run parse_rule
operand_eq_eq_a_and_b = computed operand_rest _ _ _ refl

-- `< a < b` prints `< a` and leaves `< b`
operand_lt_a_lt_b : DerivesAs operand_rest
    (punct 60 false (at 0 1) (leaf (ident (97 ∷ [])) (at 2 3) (punct 60 false (at 4 5) (leaf (ident (98 ∷ [])) (at 6 7) end))))
    (punct 60 false call_site (leaf (ident (97 ∷ [])) call_site end))
    (punct 60 false (at 4 5) (leaf (ident (98 ∷ [])) (at 6 7) end))
unfolding left is_end lookahead_at sees take_token take_lifetime take_mark take_group before rows_for rows run parse_rule
operand_lt_a_lt_b = computed operand_rest _ _ _ refl

-- `&& a || b` prints `&& a || b`
operand_and_a_or_b : DerivesAs operand_rest
    (punct 38 true (at 0 1) (punct 38 false (at 1 2) (leaf (ident (97 ∷ [])) (at 3 4) (punct 124 true (at 5 6) (punct 124 false (at 6 7) (leaf (ident (98 ∷ [])) (at 8 9) end))))))
    (punct 38 true call_site (punct 38 false call_site (leaf (ident (97 ∷ [])) call_site (punct 124 true call_site (punct 124 false call_site (leaf (ident (98 ∷ [])) call_site end))))))
    (end)
unfolding left is_end lookahead_at sees take_token take_lifetime take_mark take_group before rows_for rows run parse_rule
operand_and_a_or_b = computed operand_rest _ _ _ refl

-- `|| a = b` prints `|| a = b`
operand_or_a_eq_b : DerivesAs operand_rest
    (punct 124 true (at 0 1) (punct 124 false (at 1 2) (leaf (ident (97 ∷ [])) (at 3 4) (punct 61 false (at 5 6) (leaf (ident (98 ∷ [])) (at 7 8) end)))))
    (punct 124 true call_site (punct 124 false call_site (leaf (ident (97 ∷ [])) call_site (punct 61 false call_site (leaf (ident (98 ∷ [])) call_site end)))))
    (end)
unfolding left is_end lookahead_at sees take_token take_lifetime take_mark take_group before rows_for rows run parse_rule
operand_or_a_eq_b = computed operand_rest _ _ _ refl

-- `..a` prints `` and leaves `..a`
operand_dots_a : DerivesAs operand_rest
    (punct 46 true (at 0 1) (punct 46 false (at 1 2) (leaf (ident (97 ∷ [])) (at 2 3) end)))
    (end)
    (punct 46 true (at 0 1) (punct 46 false (at 1 2) (leaf (ident (97 ∷ [])) (at 2 3) end)))
unfolding left is_end lookahead_at sees take_token take_lifetime take_mark take_group before rows_for rows run parse_rule
operand_dots_a = computed operand_rest _ _ _ refl

-- `*`: nothing is read
operand_star : NotDerived (rule operand_rest)
    (punct 42 false (at 0 1) end)
unfolding left is_end lookahead_at sees take_token take_lifetime take_mark take_group before rows_for rows run parse_rule
operand_star = not_read operand_rest _ refl

-- `== a == b` prints `== a` and leaves `== b`
operand_eq_eq_a_eq_eq_b : DerivesAs operand_rest
    (punct 61 true (at 0 1) (punct 61 false (at 1 2) (leaf (ident (97 ∷ [])) (at 3 4) (punct 61 true (at 5 6) (punct 61 false (at 6 7) (leaf (ident (98 ∷ [])) (at 8 9) end))))))
    (punct 61 true call_site (punct 61 false call_site (leaf (ident (97 ∷ [])) call_site end)))
    (punct 61 true (at 5 6) (punct 61 false (at 6 7) (leaf (ident (98 ∷ [])) (at 8 9) end)))
unfolding left is_end lookahead_at sees take_token take_lifetime take_mark take_group before rows_for rows run parse_rule
operand_eq_eq_a_eq_eq_b = computed operand_rest _ _ _ refl
