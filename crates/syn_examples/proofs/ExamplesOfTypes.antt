-- Written by tools/grammar.py from specs/Table.antt; edits are lost.
-- Worked examples of types, their paths and expressions, from tools/examples.txt: what each rule reads, prints and refuses. The checker computes each.
use Rattle.std.proofs.Common.{true, false, [], ◌∷◌, refl}
use Rattle.syn_grammar.specs.Words.{w_underscore, w_as, w_const, w_crate, w_false, w_fn, w_mut, w_Self_type, w_self, w_super, w_true, w_unsafe, w_union, w_auto, w_default, w_safe}
use Rattle.syn_grammar.specs.Tokens.{call_site, Paren, Brace, Bracket, None, Str, ByteStr, CStr, Byte, Char, Int, Float, ident, literal, end, leaf, punct, group}
use Rattle.syn_grammar.specs.Rules.{type_path, type_words, type_arguments, return_type, generic_arguments, generic_argument, qualified_path, path_as_type, type, types, constant}
use Rattle.syn_grammar.specs.Grammar.{rule}
use Rattle.syn_grammar.specs.Take.{left, is_end, lookahead_at, sees, take_token, take_lifetime, take_mark, take_group, before}
use Rattle.syn_grammar.specs.Run.{rows_for, rows, run, parse_rule}
use Rattle.syn_grammar.specs.Promises.{Refused, NotDerived}
use Rattle.syn_grammar.proofs.Means.{not_derived}
use Rattle.syn_grammar.proofs.Shown.{at, DerivesAs, computed, not_read}

-- `Self::A` prints `Self :: A`
type_path_self : DerivesAs type_path
    (leaf (ident w_Self_type) (at 0 4) (punct 58 true (at 4 5) (punct 58 false (at 5 6) (leaf (ident (65 ∷ [])) (at 6 7) end))))
    (leaf (ident w_Self_type) call_site (punct 58 true call_site (punct 58 false call_site (leaf (ident (65 ∷ [])) call_site end))))
    (end)
unfolding left is_end lookahead_at sees take_token take_lifetime take_mark take_group before rows_for rows run parse_rule
type_path_self = computed type_path _ _ _ refl

-- `::A<B>::C` prints `:: A < B > :: C`
type_path_arguments : DerivesAs type_path
    (punct 58 true (at 0 1) (punct 58 false (at 1 2) (leaf (ident (65 ∷ [])) (at 2 3) (punct 60 false (at 3 4) (leaf (ident (66 ∷ [])) (at 4 5) (punct 62 true (at 5 6) (punct 58 true (at 6 7) (punct 58 false (at 7 8) (leaf (ident (67 ∷ [])) (at 8 9) end)))))))))
    (punct 58 true call_site (punct 58 false call_site (leaf (ident (65 ∷ [])) call_site (punct 60 false call_site (leaf (ident (66 ∷ [])) call_site (punct 62 false call_site (punct 58 true call_site (punct 58 false call_site (leaf (ident (67 ∷ [])) call_site end)))))))))
    (end)
unfolding left is_end lookahead_at sees take_token take_lifetime take_mark take_group before rows_for rows run parse_rule
type_path_arguments = computed type_path _ _ _ refl

-- `A::<B>(C) -> D` prints `A :: < B >` and leaves `(C) -> D`
type_path_turbofish : DerivesAs type_path
    (leaf (ident (65 ∷ [])) (at 0 1) (punct 58 true (at 1 2) (punct 58 true (at 2 3) (punct 60 false (at 3 4) (leaf (ident (66 ∷ [])) (at 4 5) (punct 62 false (at 5 6) (group Paren (at 6 7) (at 8 9) (leaf (ident (67 ∷ [])) (at 7 8) end) (punct 45 true (at 10 11) (punct 62 false (at 11 12) (leaf (ident (68 ∷ [])) (at 13 14) end))))))))))
    (leaf (ident (65 ∷ [])) call_site (punct 58 true call_site (punct 58 false call_site (punct 60 false call_site (leaf (ident (66 ∷ [])) call_site (punct 62 false call_site end))))))
    (group Paren (at 6 7) (at 8 9) (leaf (ident (67 ∷ [])) (at 7 8) end) (punct 45 true (at 10 11) (punct 62 false (at 11 12) (leaf (ident (68 ∷ [])) (at 13 14) end))))
unfolding left is_end lookahead_at sees take_token take_lifetime take_mark take_group before rows_for rows run parse_rule
type_path_turbofish = computed type_path _ _ _ refl

-- `Fn(A, B,) -> C` prints `Fn ( A , B , ) -> C`
type_path_parens : DerivesAs type_path
    (leaf (ident (70 ∷ 110 ∷ [])) (at 0 2) (group Paren (at 2 3) (at 8 9) (leaf (ident (65 ∷ [])) (at 3 4) (punct 44 false (at 4 5) (leaf (ident (66 ∷ [])) (at 6 7) (punct 44 false (at 7 8) end)))) (punct 45 true (at 10 11) (punct 62 false (at 11 12) (leaf (ident (67 ∷ [])) (at 13 14) end)))))
    (leaf (ident (70 ∷ 110 ∷ [])) call_site (group Paren call_site call_site (leaf (ident (65 ∷ [])) call_site (punct 44 false call_site (leaf (ident (66 ∷ [])) call_site (punct 44 false call_site end)))) (punct 45 true call_site (punct 62 false call_site (leaf (ident (67 ∷ [])) call_site end)))))
    (end)
unfolding left is_end lookahead_at sees take_token take_lifetime take_mark take_group before rows_for rows run parse_rule
type_path_parens = computed type_path _ _ _ refl

-- `A <= B` prints `A` and leaves `<= B`
type_path_less_equals : DerivesAs type_path
    (leaf (ident (65 ∷ [])) (at 0 1) (punct 60 true (at 2 3) (punct 61 false (at 3 4) (leaf (ident (66 ∷ [])) (at 5 6) end))))
    (leaf (ident (65 ∷ [])) call_site end)
    (punct 60 true (at 2 3) (punct 61 false (at 3 4) (leaf (ident (66 ∷ [])) (at 5 6) end)))
unfolding left is_end lookahead_at sees take_token take_lifetime take_mark take_group before rows_for rows run parse_rule
type_path_less_equals = computed type_path _ _ _ refl

-- `self<A>` prints `self` and leaves `<A>`
type_path_self_list : DerivesAs type_path
    (leaf (ident w_self) (at 0 4) (punct 60 false (at 4 5) (leaf (ident (65 ∷ [])) (at 5 6) (punct 62 false (at 6 7) end))))
    (leaf (ident w_self) call_site end)
    (punct 60 false (at 4 5) (leaf (ident (65 ∷ [])) (at 5 6) (punct 62 false (at 6 7) end)))
unfolding left is_end lookahead_at sees take_token take_lifetime take_mark take_group before rows_for rows run parse_rule
type_path_self_list = computed type_path _ _ _ refl

-- `::::a`: nothing is read
type_path_rooted_twice : NotDerived (rule type_path)
    (punct 58 true (at 0 1) (punct 58 true (at 1 2) (punct 58 true (at 2 3) (punct 58 false (at 3 4) (leaf (ident (97 ∷ [])) (at 4 5) end)))))
unfolding left is_end lookahead_at sees take_token take_lifetime take_mark take_group before rows_for rows run parse_rule
type_path_rooted_twice = not_read type_path _ refl

-- `a b` prints `a` and leaves `b`
type_path_leaves_word : DerivesAs type_path
    (leaf (ident (97 ∷ [])) (at 0 1) (leaf (ident (98 ∷ [])) (at 2 3) end))
    (leaf (ident (97 ∷ [])) call_site end)
    (leaf (ident (98 ∷ [])) (at 2 3) end)
unfolding left is_end lookahead_at sees take_token take_lifetime take_mark take_group before rows_for rows run parse_rule
type_path_leaves_word = computed type_path _ _ _ refl

-- `: a`: nothing is read
type_path_one_colon : NotDerived (rule type_path)
    (punct 58 false (at 0 1) (leaf (ident (97 ∷ [])) (at 2 3) end))
unfolding left is_end lookahead_at sees take_token take_lifetime take_mark take_group before rows_for rows run parse_rule
type_path_one_colon = not_read type_path _ refl

-- `.a`: nothing is read
type_path_dot : NotDerived (rule type_path)
    (punct 46 false (at 0 1) (leaf (ident (97 ∷ [])) (at 1 2) end))
unfolding left is_end lookahead_at sees take_token take_lifetime take_mark take_group before rows_for rows run parse_rule
type_path_dot = not_read type_path _ refl

-- `Vec<T>::Item` prints `Vec < T > :: Item`
type_words_item : DerivesAs type_words
    (leaf (ident (86 ∷ 101 ∷ 99 ∷ [])) (at 0 3) (punct 60 false (at 3 4) (leaf (ident (84 ∷ [])) (at 4 5) (punct 62 true (at 5 6) (punct 58 true (at 6 7) (punct 58 false (at 7 8) (leaf (ident (73 ∷ 116 ∷ 101 ∷ 109 ∷ [])) (at 8 12) end)))))))
    (leaf (ident (86 ∷ 101 ∷ 99 ∷ [])) call_site (punct 60 false call_site (leaf (ident (84 ∷ [])) call_site (punct 62 false call_site (punct 58 true call_site (punct 58 false call_site (leaf (ident (73 ∷ 116 ∷ 101 ∷ 109 ∷ [])) call_site end)))))))
    (end)
unfolding left is_end lookahead_at sees take_token take_lifetime take_mark take_group before rows_for rows run parse_rule
type_words_item = computed type_words _ _ _ refl

-- `crate::a b` prints `crate :: a` and leaves `b`
type_words_crate : DerivesAs type_words
    (leaf (ident w_crate) (at 0 5) (punct 58 true (at 5 6) (punct 58 false (at 6 7) (leaf (ident (97 ∷ [])) (at 7 8) (leaf (ident (98 ∷ [])) (at 9 10) end)))))
    (leaf (ident w_crate) call_site (punct 58 true call_site (punct 58 false call_site (leaf (ident (97 ∷ [])) call_site end))))
    (leaf (ident (98 ∷ [])) (at 9 10) end)
unfolding left is_end lookahead_at sees take_token take_lifetime take_mark take_group before rows_for rows run parse_rule
type_words_crate = computed type_words _ _ _ refl

-- `fn`: nothing is read
type_words_keyword : NotDerived (rule type_words)
    (leaf (ident w_fn) (at 0 2) end)
unfolding left is_end lookahead_at sees take_token take_lifetime take_mark take_group before rows_for rows run parse_rule
type_words_keyword = not_read type_words _ refl

-- `self:` prints `self` and leaves `:`
type_words_one_colon : DerivesAs type_words
    (leaf (ident w_self) (at 0 4) (punct 58 false (at 4 5) end))
    (leaf (ident w_self) call_site end)
    (punct 58 false (at 4 5) end)
unfolding left is_end lookahead_at sees take_token take_lifetime take_mark take_group before rows_for rows run parse_rule
type_words_one_colon = computed type_words _ _ _ refl

-- `super super` prints `super` and leaves `super`
type_words_leave_super : DerivesAs type_words
    (leaf (ident w_super) (at 0 5) (leaf (ident w_super) (at 6 11) end))
    (leaf (ident w_super) call_site end)
    (leaf (ident w_super) (at 6 11) end)
unfolding left is_end lookahead_at sees take_token take_lifetime take_mark take_group before rows_for rows run parse_rule
type_words_leave_super = computed type_words _ _ _ refl

-- `Self` prints `Self`
type_words_self_type : DerivesAs type_words
    (leaf (ident w_Self_type) (at 0 4) end)
    (leaf (ident w_Self_type) call_site end)
    (end)
unfolding left is_end lookahead_at sees take_token take_lifetime take_mark take_group before rows_for rows run parse_rule
type_words_self_type = computed type_words _ _ _ refl

-- `self::::a`: nothing is read
type_words_colons_twice : NotDerived (rule type_words)
    (leaf (ident w_self) (at 0 4) (punct 58 true (at 4 5) (punct 58 true (at 5 6) (punct 58 true (at 6 7) (punct 58 false (at 7 8) (leaf (ident (97 ∷ [])) (at 8 9) end))))))
unfolding left is_end lookahead_at sees take_token take_lifetime take_mark take_group before rows_for rows run parse_rule
type_words_colons_twice = not_read type_words _ refl

-- `a<><` prints `a < >` and leaves `<`
type_words_leave_less : DerivesAs type_words
    (leaf (ident (97 ∷ [])) (at 0 1) (punct 60 true (at 1 2) (punct 62 true (at 2 3) (punct 60 false (at 3 4) end))))
    (leaf (ident (97 ∷ [])) call_site (punct 60 false call_site (punct 62 false call_site end)))
    (punct 60 false (at 3 4) end)
unfolding left is_end lookahead_at sees take_token take_lifetime take_mark take_group before rows_for rows run parse_rule
type_words_leave_less = computed type_words _ _ _ refl

-- `self` prints `self`
type_words_self : DerivesAs type_words
    (leaf (ident w_self) (at 0 4) end)
    (leaf (ident w_self) call_site end)
    (end)
unfolding left is_end lookahead_at sees take_token take_lifetime take_mark take_group before rows_for rows run parse_rule
type_words_self = computed type_words _ _ _ refl

-- `safe` prints `safe`
type_words_safe : DerivesAs type_words
    (leaf (ident w_safe) (at 0 4) end)
    (leaf (ident w_safe) call_site end)
    (end)
unfolding left is_end lookahead_at sees take_token take_lifetime take_mark take_group before rows_for rows run parse_rule
type_words_safe = computed type_words _ _ _ refl

-- `auto` prints `auto`
type_words_auto : DerivesAs type_words
    (leaf (ident w_auto) (at 0 4) end)
    (leaf (ident w_auto) call_site end)
    (end)
unfolding left is_end lookahead_at sees take_token take_lifetime take_mark take_group before rows_for rows run parse_rule
type_words_auto = computed type_words _ _ _ refl

-- `union` prints `union`
type_words_union : DerivesAs type_words
    (leaf (ident w_union) (at 0 5) end)
    (leaf (ident w_union) call_site end)
    (end)
unfolding left is_end lookahead_at sees take_token take_lifetime take_mark take_group before rows_for rows run parse_rule
type_words_union = computed type_words _ _ _ refl

-- `default` prints `default`
type_words_default : DerivesAs type_words
    (leaf (ident w_default) (at 0 7) end)
    (leaf (ident w_default) call_site end)
    (end)
unfolding left is_end lookahead_at sees take_token take_lifetime take_mark take_group before rows_for rows run parse_rule
type_words_default = computed type_words _ _ _ refl

-- `self self` prints `self` and leaves `self`
type_words_leave_self : DerivesAs type_words
    (leaf (ident w_self) (at 0 4) (leaf (ident w_self) (at 5 9) end))
    (leaf (ident w_self) call_site end)
    (leaf (ident w_self) (at 5 9) end)
unfolding left is_end lookahead_at sees take_token take_lifetime take_mark take_group before rows_for rows run parse_rule
type_words_leave_self = computed type_words _ _ _ refl

-- `::a crate`: nothing is read
type_words_rooted : NotDerived (rule type_words)
    (punct 58 true (at 0 1) (punct 58 false (at 1 2) (leaf (ident (97 ∷ [])) (at 2 3) (leaf (ident w_crate) (at 4 9) end))))
unfolding left is_end lookahead_at sees take_token take_lifetime take_mark take_group before rows_for rows run parse_rule
type_words_rooted = not_read type_words _ refl

-- `crate crate` prints `crate` and leaves `crate`
type_words_leave_crate : DerivesAs type_words
    (leaf (ident w_crate) (at 0 5) (leaf (ident w_crate) (at 6 11) end))
    (leaf (ident w_crate) call_site end)
    (leaf (ident w_crate) (at 6 11) end)
unfolding left is_end lookahead_at sees take_token take_lifetime take_mark take_group before rows_for rows run parse_rule
type_words_leave_crate = computed type_words _ _ _ refl

-- `super.` prints `super` and leaves `.`
type_words_leave_dot : DerivesAs type_words
    (leaf (ident w_super) (at 0 5) (punct 46 false (at 5 6) end))
    (leaf (ident w_super) call_site end)
    (punct 46 false (at 5 6) end)
unfolding left is_end lookahead_at sees take_token take_lifetime take_mark take_group before rows_for rows run parse_rule
type_words_leave_dot = computed type_words _ _ _ refl

-- `a ()` prints `a ( )`
type_words_parentheses : DerivesAs type_words
    (leaf (ident (97 ∷ [])) (at 0 1) (group Paren (at 2 3) (at 3 4) end end))
    (leaf (ident (97 ∷ [])) call_site (group Paren call_site call_site end end))
    (end)
unfolding left is_end lookahead_at sees take_token take_lifetime take_mark take_group before rows_for rows run parse_rule
type_words_parentheses = computed type_words _ _ _ refl

-- `b::<>::auto` prints `b :: < > :: auto`
type_words_turbofish : DerivesAs type_words
    (leaf (ident (98 ∷ [])) (at 0 1) (punct 58 true (at 1 2) (punct 58 true (at 2 3) (punct 60 true (at 3 4) (punct 62 true (at 4 5) (punct 58 true (at 5 6) (punct 58 false (at 6 7) (leaf (ident w_auto) (at 7 11) end))))))))
    (leaf (ident (98 ∷ [])) call_site (punct 58 true call_site (punct 58 false call_site (punct 60 false call_site (punct 62 false call_site (punct 58 true call_site (punct 58 false call_site (leaf (ident w_auto) call_site end))))))))
    (end)
unfolding left is_end lookahead_at sees take_token take_lifetime take_mark take_group before rows_for rows run parse_rule
type_words_turbofish = computed type_words _ _ _ refl

-- `a {}` prints `a` and leaves `{}`
type_words_leave_braces : DerivesAs type_words
    (leaf (ident (97 ∷ [])) (at 0 1) (group Brace (at 2 3) (at 3 4) end end))
    (leaf (ident (97 ∷ [])) call_site end)
    (group Brace (at 2 3) (at 3 4) end end)
unfolding left is_end lookahead_at sees take_token take_lifetime take_mark take_group before rows_for rows run parse_rule
type_words_leave_braces = computed type_words _ _ _ refl

-- `T []` prints `T` and leaves `[]`
type_words_leave_brackets : DerivesAs type_words
    (leaf (ident (84 ∷ [])) (at 0 1) (group Bracket (at 2 3) (at 3 4) end end))
    (leaf (ident (84 ∷ [])) call_site end)
    (group Bracket (at 2 3) (at 3 4) end end)
unfolding left is_end lookahead_at sees take_token take_lifetime take_mark take_group before rows_for rows run parse_rule
type_words_leave_brackets = computed type_words _ _ _ refl

-- `T::b` prints `T :: b`
type_words_two : DerivesAs type_words
    (leaf (ident (84 ∷ [])) (at 0 1) (punct 58 true (at 1 2) (punct 58 false (at 2 3) (leaf (ident (98 ∷ [])) (at 3 4) end))))
    (leaf (ident (84 ∷ [])) call_site (punct 58 true call_site (punct 58 false call_site (leaf (ident (98 ∷ [])) call_site end))))
    (end)
unfolding left is_end lookahead_at sees take_token take_lifetime take_mark take_group before rows_for rows run parse_rule
type_words_two = computed type_words _ _ _ refl

-- `_`: nothing is read
type_words_underscore : NotDerived (rule type_words)
    (leaf (ident w_underscore) (at 0 1) end)
unfolding left is_end lookahead_at sees take_token take_lifetime take_mark take_group before rows_for rows run parse_rule
type_words_underscore = not_read type_words _ refl

-- `0`: nothing is read
type_words_literal : NotDerived (rule type_words)
    (leaf (literal Int (48 ∷ [])) (at 0 1) end)
unfolding left is_end lookahead_at sees take_token take_lifetime take_mark take_group before rows_for rows run parse_rule
type_words_literal = not_read type_words _ refl

-- `a <= b` prints `a` and leaves `<= b`
type_words_less_equals : DerivesAs type_words
    (leaf (ident (97 ∷ [])) (at 0 1) (punct 60 true (at 2 3) (punct 61 false (at 3 4) (leaf (ident (98 ∷ [])) (at 5 6) end))))
    (leaf (ident (97 ∷ [])) call_site end)
    (punct 60 true (at 2 3) (punct 61 false (at 3 4) (leaf (ident (98 ∷ [])) (at 5 6) end)))
unfolding left is_end lookahead_at sees take_token take_lifetime take_mark take_group before rows_for rows run parse_rule
type_words_less_equals = computed type_words _ _ _ refl

-- `a b<>` prints `a` and leaves `b<>`
type_words_leave_other_word : DerivesAs type_words
    (leaf (ident (97 ∷ [])) (at 0 1) (leaf (ident (98 ∷ [])) (at 2 3) (punct 60 true (at 3 4) (punct 62 false (at 4 5) end))))
    (leaf (ident (97 ∷ [])) call_site end)
    (leaf (ident (98 ∷ [])) (at 2 3) (punct 60 true (at 3 4) (punct 62 false (at 4 5) end)))
unfolding left is_end lookahead_at sees take_token take_lifetime take_mark take_group before rows_for rows run parse_rule
type_words_leave_other_word = computed type_words _ _ _ refl

-- `a:<b>` prints `a` and leaves `:<b>`
type_words_colon_less : DerivesAs type_words
    (leaf (ident (97 ∷ [])) (at 0 1) (punct 58 true (at 1 2) (punct 60 false (at 2 3) (leaf (ident (98 ∷ [])) (at 3 4) (punct 62 false (at 4 5) end)))))
    (leaf (ident (97 ∷ [])) call_site end)
    (punct 58 true (at 1 2) (punct 60 false (at 2 3) (leaf (ident (98 ∷ [])) (at 3 4) (punct 62 false (at 4 5) end))))
unfolding left is_end lookahead_at sees take_token take_lifetime take_mark take_group before rows_for rows run parse_rule
type_words_colon_less = computed type_words _ _ _ refl

-- `<T>::Item` prints `< T >` and leaves `::Item`
type_arguments_item : DerivesAs type_arguments
    (punct 60 false (at 0 1) (leaf (ident (84 ∷ [])) (at 1 2) (punct 62 true (at 2 3) (punct 58 true (at 3 4) (punct 58 false (at 4 5) (leaf (ident (73 ∷ 116 ∷ 101 ∷ 109 ∷ [])) (at 5 9) end))))))
    (punct 60 false call_site (leaf (ident (84 ∷ [])) call_site (punct 62 false call_site end)))
    (punct 58 true (at 3 4) (punct 58 false (at 4 5) (leaf (ident (73 ∷ 116 ∷ 101 ∷ 109 ∷ [])) (at 5 9) end)))
unfolding left is_end lookahead_at sees take_token take_lifetime take_mark take_group before rows_for rows run parse_rule
type_arguments_item = computed type_arguments _ _ _ refl

-- `() ()` prints `( )` and leaves `()`
type_arguments_leave_parentheses : DerivesAs type_arguments
    (group Paren (at 0 1) (at 1 2) end (group Paren (at 3 4) (at 4 5) end end))
    (group Paren call_site call_site end end)
    (group Paren (at 3 4) (at 4 5) end end)
unfolding left is_end lookahead_at sees take_token take_lifetime take_mark take_group before rows_for rows run parse_rule
type_arguments_leave_parentheses = computed type_arguments _ _ _ refl

-- `::a b`: nothing is read
type_arguments_path : NotDerived (rule type_arguments)
    (punct 58 true (at 0 1) (punct 58 false (at 1 2) (leaf (ident (97 ∷ [])) (at 2 3) (leaf (ident (98 ∷ [])) (at 4 5) end))))
unfolding left is_end lookahead_at sees take_token take_lifetime take_mark take_group before rows_for rows run parse_rule
type_arguments_path = not_read type_arguments _ refl

-- `<> <` prints `< >` and leaves `<`
type_arguments_leave_less : DerivesAs type_arguments
    (punct 60 true (at 0 1) (punct 62 false (at 1 2) (punct 60 false (at 3 4) end)))
    (punct 60 false call_site (punct 62 false call_site end))
    (punct 60 false (at 3 4) end)
unfolding left is_end lookahead_at sees take_token take_lifetime take_mark take_group before rows_for rows run parse_rule
type_arguments_leave_less = computed type_arguments _ _ _ refl

-- `()::a -> b` prints `( )` and leaves `::a -> b`
type_arguments_parentheses_leave_arrow : DerivesAs type_arguments
    (group Paren (at 0 1) (at 1 2) end (punct 58 true (at 2 3) (punct 58 false (at 3 4) (leaf (ident (97 ∷ [])) (at 4 5) (punct 45 true (at 6 7) (punct 62 false (at 7 8) (leaf (ident (98 ∷ [])) (at 9 10) end)))))))
    (group Paren call_site call_site end end)
    (punct 58 true (at 2 3) (punct 58 false (at 3 4) (leaf (ident (97 ∷ [])) (at 4 5) (punct 45 true (at 6 7) (punct 62 false (at 7 8) (leaf (ident (98 ∷ [])) (at 9 10) end))))))
unfolding left is_end lookahead_at sees take_token take_lifetime take_mark take_group before rows_for rows run parse_rule
type_arguments_parentheses_leave_arrow = computed type_arguments _ _ _ refl

-- `:`: nothing is read
type_arguments_one_colon : NotDerived (rule type_arguments)
    (punct 58 false (at 0 1) end)
unfolding left is_end lookahead_at sees take_token take_lifetime take_mark take_group before rows_for rows run parse_rule
type_arguments_one_colon = not_read type_arguments _ refl

-- `::::a`: nothing is read
type_arguments_colons_twice : NotDerived (rule type_arguments)
    (punct 58 true (at 0 1) (punct 58 true (at 1 2) (punct 58 true (at 2 3) (punct 58 false (at 3 4) (leaf (ident (97 ∷ [])) (at 4 5) end)))))
unfolding left is_end lookahead_at sees take_token take_lifetime take_mark take_group before rows_for rows run parse_rule
type_arguments_colons_twice = not_read type_arguments _ refl

-- `{}`: nothing is read
type_arguments_braces : NotDerived (rule type_arguments)
    (group Brace (at 0 1) (at 1 2) end end)
unfolding left is_end lookahead_at sees take_token take_lifetime take_mark take_group before rows_for rows run parse_rule
type_arguments_braces = not_read type_arguments _ refl

-- `[]`: nothing is read
type_arguments_brackets : NotDerived (rule type_arguments)
    (group Bracket (at 0 1) (at 1 2) end end)
unfolding left is_end lookahead_at sees take_token take_lifetime take_mark take_group before rows_for rows run parse_rule
type_arguments_brackets = not_read type_arguments _ refl

-- `(a),` prints `( a )` and leaves `,`
type_arguments_leave_comma : DerivesAs type_arguments
    (group Paren (at 0 1) (at 2 3) (leaf (ident (97 ∷ [])) (at 1 2) end) (punct 44 false (at 3 4) end))
    (group Paren call_site call_site (leaf (ident (97 ∷ [])) call_site end) end)
    (punct 44 false (at 3 4) end)
unfolding left is_end lookahead_at sees take_token take_lifetime take_mark take_group before rows_for rows run parse_rule
type_arguments_leave_comma = computed type_arguments _ _ _ refl

-- `::<a><b>` prints `:: < a >` and leaves `<b>`
type_arguments_turbofish_twice : DerivesAs type_arguments
    (punct 58 true (at 0 1) (punct 58 true (at 1 2) (punct 60 false (at 2 3) (leaf (ident (97 ∷ [])) (at 3 4) (punct 62 true (at 4 5) (punct 60 false (at 5 6) (leaf (ident (98 ∷ [])) (at 6 7) (punct 62 false (at 7 8) end))))))))
    (punct 58 true call_site (punct 58 false call_site (punct 60 false call_site (leaf (ident (97 ∷ [])) call_site (punct 62 false call_site end)))))
    (punct 60 false (at 5 6) (leaf (ident (98 ∷ [])) (at 6 7) (punct 62 false (at 7 8) end)))
unfolding left is_end lookahead_at sees take_token take_lifetime take_mark take_group before rows_for rows run parse_rule
type_arguments_turbofish_twice = computed type_arguments _ _ _ refl

-- `<=`: nothing is read
type_arguments_less_equals : NotDerived (rule type_arguments)
    (punct 60 true (at 0 1) (punct 61 false (at 1 2) end))
unfolding left is_end lookahead_at sees take_token take_lifetime take_mark take_group before rows_for rows run parse_rule
type_arguments_less_equals = not_read type_arguments _ refl

-- `::<a>::b` prints `:: < a >` and leaves `::b`
type_arguments_turbofish_item : DerivesAs type_arguments
    (punct 58 true (at 0 1) (punct 58 true (at 1 2) (punct 60 false (at 2 3) (leaf (ident (97 ∷ [])) (at 3 4) (punct 62 true (at 4 5) (punct 58 true (at 5 6) (punct 58 false (at 6 7) (leaf (ident (98 ∷ [])) (at 7 8) end))))))))
    (punct 58 true call_site (punct 58 false call_site (punct 60 false call_site (leaf (ident (97 ∷ [])) call_site (punct 62 false call_site end)))))
    (punct 58 true (at 5 6) (punct 58 false (at 6 7) (leaf (ident (98 ∷ [])) (at 7 8) end)))
unfolding left is_end lookahead_at sees take_token take_lifetime take_mark take_group before rows_for rows run parse_rule
type_arguments_turbofish_item = computed type_arguments _ _ _ refl

-- `.`: nothing is read
type_arguments_dot : NotDerived (rule type_arguments)
    (punct 46 false (at 0 1) end)
unfolding left is_end lookahead_at sees take_token take_lifetime take_mark take_group before rows_for rows run parse_rule
type_arguments_dot = not_read type_arguments _ refl

-- `() -> a -> b` prints `( ) -> a` and leaves `-> b`
type_arguments_return_leaves_arrow : DerivesAs type_arguments
    (group Paren (at 0 1) (at 1 2) end (punct 45 true (at 3 4) (punct 62 false (at 4 5) (leaf (ident (97 ∷ [])) (at 6 7) (punct 45 true (at 8 9) (punct 62 false (at 9 10) (leaf (ident (98 ∷ [])) (at 11 12) end)))))))
    (group Paren call_site call_site end (punct 45 true call_site (punct 62 false call_site (leaf (ident (97 ∷ [])) call_site end))))
    (punct 45 true (at 8 9) (punct 62 false (at 9 10) (leaf (ident (98 ∷ [])) (at 11 12) end)))
unfolding left is_end lookahead_at sees take_token take_lifetime take_mark take_group before rows_for rows run parse_rule
type_arguments_return_leaves_arrow = computed type_arguments _ _ _ refl

-- `(a b)`: nothing is read
type_arguments_no_comma : NotDerived (rule type_arguments)
    (group Paren (at 0 1) (at 4 5) (leaf (ident (97 ∷ [])) (at 1 2) (leaf (ident (98 ∷ [])) (at 3 4) end)) end)
unfolding left is_end lookahead_at sees take_token take_lifetime take_mark take_group before rows_for rows run parse_rule
type_arguments_no_comma = not_read type_arguments _ refl

-- `::::<>`: nothing is read
type_arguments_colons_before_less : NotDerived (rule type_arguments)
    (punct 58 true (at 0 1) (punct 58 true (at 1 2) (punct 58 true (at 2 3) (punct 58 true (at 3 4) (punct 60 true (at 4 5) (punct 62 false (at 5 6) end))))))
unfolding left is_end lookahead_at sees take_token take_lifetime take_mark take_group before rows_for rows run parse_rule
type_arguments_colons_before_less = not_read type_arguments _ refl

-- `:: ::<>`: nothing is read
type_arguments_colons_before_turbofish : NotDerived (rule type_arguments)
    (punct 58 true (at 0 1) (punct 58 false (at 1 2) (punct 58 true (at 3 4) (punct 58 true (at 4 5) (punct 60 true (at 5 6) (punct 62 false (at 6 7) end))))))
unfolding left is_end lookahead_at sees take_token take_lifetime take_mark take_group before rows_for rows run parse_rule
type_arguments_colons_before_turbofish = not_read type_arguments _ refl

-- `.<>`: nothing is read
type_arguments_dot_before_less : NotDerived (rule type_arguments)
    (punct 46 true (at 0 1) (punct 60 true (at 1 2) (punct 62 false (at 2 3) end)))
unfolding left is_end lookahead_at sees take_token take_lifetime take_mark take_group before rows_for rows run parse_rule
type_arguments_dot_before_less = not_read type_arguments _ refl

-- `:<>`: nothing is read
type_arguments_colon_before_less : NotDerived (rule type_arguments)
    (punct 58 true (at 0 1) (punct 60 true (at 1 2) (punct 62 false (at 2 3) end)))
unfolding left is_end lookahead_at sees take_token take_lifetime take_mark take_group before rows_for rows run parse_rule
type_arguments_colon_before_less = not_read type_arguments _ refl

-- no tokens: nothing is read
type_arguments_nothing : NotDerived (rule type_arguments)
    (end)
unfolding left is_end lookahead_at sees take_token take_lifetime take_mark take_group before rows_for rows run parse_rule
type_arguments_nothing = not_read type_arguments _ refl

-- `-> T {}` prints `-> T` and leaves `{}`
return_leaves_braces : DerivesAs return_type
    (punct 45 true (at 0 1) (punct 62 false (at 1 2) (leaf (ident (84 ∷ [])) (at 3 4) (group Brace (at 5 6) (at 6 7) end end))))
    (punct 45 true call_site (punct 62 false call_site (leaf (ident (84 ∷ [])) call_site end)))
    (group Brace (at 5 6) (at 6 7) end end)
unfolding left is_end lookahead_at sees take_token take_lifetime take_mark take_group before rows_for rows run parse_rule
return_leaves_braces = computed return_type _ _ _ refl

-- no tokens prints ``
return_nothing : DerivesAs return_type
    (end)
    (end)
    (end)
unfolding left is_end lookahead_at sees take_token take_lifetime take_mark take_group before rows_for rows run parse_rule
return_nothing = computed return_type _ _ _ refl

-- `->`: nothing is read
return_arrow_alone : NotDerived (rule return_type)
    (punct 45 true (at 0 1) (punct 62 false (at 1 2) end))
unfolding left is_end lookahead_at sees take_token take_lifetime take_mark take_group before rows_for rows run parse_rule
return_arrow_alone = not_read return_type _ refl

-- `-> a ->` prints `-> a` and leaves `->`
return_leaves_arrow : DerivesAs return_type
    (punct 45 true (at 0 1) (punct 62 false (at 1 2) (leaf (ident (97 ∷ [])) (at 3 4) (punct 45 true (at 5 6) (punct 62 false (at 6 7) end)))))
    (punct 45 true call_site (punct 62 false call_site (leaf (ident (97 ∷ [])) call_site end)))
    (punct 45 true (at 5 6) (punct 62 false (at 6 7) end))
unfolding left is_end lookahead_at sees take_token take_lifetime take_mark take_group before rows_for rows run parse_rule
return_leaves_arrow = computed return_type _ _ _ refl

-- `-> () a` prints `-> ( )` and leaves `a`
return_leaves_word : DerivesAs return_type
    (punct 45 true (at 0 1) (punct 62 false (at 1 2) (group Paren (at 3 4) (at 4 5) end (leaf (ident (97 ∷ [])) (at 6 7) end))))
    (punct 45 true call_site (punct 62 false call_site (group Paren call_site call_site end end)))
    (leaf (ident (97 ∷ [])) (at 6 7) end)
unfolding left is_end lookahead_at sees take_token take_lifetime take_mark take_group before rows_for rows run parse_rule
return_leaves_word = computed return_type _ _ _ refl

-- `=>>` prints `` and leaves `=>>`
return_other_arrow : DerivesAs return_type
    (punct 61 true (at 0 1) (punct 62 true (at 1 2) (punct 62 false (at 2 3) end)))
    (end)
    (punct 61 true (at 0 1) (punct 62 true (at 1 2) (punct 62 false (at 2 3) end)))
unfolding left is_end lookahead_at sees take_token take_lifetime take_mark take_group before rows_for rows run parse_rule
return_other_arrow = computed return_type _ _ _ refl

-- `-> -> a`: nothing is read
return_arrow_twice : NotDerived (rule return_type)
    (punct 45 true (at 0 1) (punct 62 false (at 1 2) (punct 45 true (at 3 4) (punct 62 false (at 4 5) (leaf (ident (97 ∷ [])) (at 6 7) end)))))
unfolding left is_end lookahead_at sees take_token take_lifetime take_mark take_group before rows_for rows run parse_rule
return_arrow_twice = not_read return_type _ refl

-- `-` prints `` and leaves `-`
return_leaves_minus : DerivesAs return_type
    (punct 45 false (at 0 1) end)
    (end)
    (punct 45 false (at 0 1) end)
unfolding left is_end lookahead_at sees take_token take_lifetime take_mark take_group before rows_for rows run parse_rule
return_leaves_minus = computed return_type _ _ _ refl

-- `<T, 'a>` prints `< 'a , T , >`
arguments_sorted : DerivesAs generic_arguments
    (punct 60 false (at 0 1) (leaf (ident (84 ∷ [])) (at 1 2) (punct 44 false (at 2 3) (punct 39 true (at 4 5) (leaf (ident (97 ∷ [])) (at 5 6) (punct 62 false (at 6 7) end))))))
    (punct 60 false call_site (punct 39 true call_site (leaf (ident (97 ∷ [])) call_site (punct 44 false call_site (leaf (ident (84 ∷ [])) call_site (punct 44 false call_site (punct 62 false call_site end)))))))
    (end)
unfolding left is_end lookahead_at sees take_token take_lifetime take_mark take_group before rows_for rows run parse_rule
arguments_sorted = computed generic_arguments _ _ _ refl

-- `<A = B, 1, true, &C>` prints `< A = B , 1 , true , & C >`
arguments_kinds : DerivesAs generic_arguments
    (punct 60 false (at 0 1) (leaf (ident (65 ∷ [])) (at 1 2) (punct 61 false (at 3 4) (leaf (ident (66 ∷ [])) (at 5 6) (punct 44 false (at 6 7) (leaf (literal Int (49 ∷ [])) (at 8 9) (punct 44 false (at 9 10) (leaf (ident w_true) (at 11 15) (punct 44 false (at 15 16) (punct 38 false (at 17 18) (leaf (ident (67 ∷ [])) (at 18 19) (punct 62 false (at 19 20) end))))))))))))
    (punct 60 false call_site (leaf (ident (65 ∷ [])) call_site (punct 61 false call_site (leaf (ident (66 ∷ [])) call_site (punct 44 false call_site (leaf (literal Int (49 ∷ [])) call_site (punct 44 false call_site (leaf (ident w_true) call_site (punct 44 false call_site (punct 38 false call_site (leaf (ident (67 ∷ [])) call_site (punct 62 false call_site end))))))))))))
    (end)
unfolding left is_end lookahead_at sees take_token take_lifetime take_mark take_group before rows_for rows run parse_rule
arguments_kinds = computed generic_arguments _ _ _ refl

-- `<>` prints `< >`
arguments_bare : DerivesAs generic_arguments
    (punct 60 true (at 0 1) (punct 62 false (at 1 2) end))
    (punct 60 false call_site (punct 62 false call_site end))
    (end)
unfolding left is_end lookahead_at sees take_token take_lifetime take_mark take_group before rows_for rows run parse_rule
arguments_bare = computed generic_arguments _ _ _ refl

-- `<A B>`: nothing is read
arguments_no_comma : NotDerived (rule generic_arguments)
    (punct 60 false (at 0 1) (leaf (ident (65 ∷ [])) (at 1 2) (leaf (ident (66 ∷ [])) (at 3 4) (punct 62 false (at 4 5) end))))
unfolding left is_end lookahead_at sees take_token take_lifetime take_mark take_group before rows_for rows run parse_rule
arguments_no_comma = not_read generic_arguments _ refl

-- no tokens: nothing is read
arguments_nothing : NotDerived (rule generic_arguments)
    (end)
unfolding left is_end lookahead_at sees take_token take_lifetime take_mark take_group before rows_for rows run parse_rule
arguments_nothing = not_read generic_arguments _ refl

-- `<><` prints `< >` and leaves `<`
arguments_leave_less : DerivesAs generic_arguments
    (punct 60 true (at 0 1) (punct 62 true (at 1 2) (punct 60 false (at 2 3) end)))
    (punct 60 false call_site (punct 62 false call_site end))
    (punct 60 false (at 2 3) end)
unfolding left is_end lookahead_at sees take_token take_lifetime take_mark take_group before rows_for rows run parse_rule
arguments_leave_less = computed generic_arguments _ _ _ refl

-- `<,>`: nothing is read
arguments_comma_alone : NotDerived (rule generic_arguments)
    (punct 60 true (at 0 1) (punct 44 true (at 1 2) (punct 62 false (at 2 3) end)))
unfolding left is_end lookahead_at sees take_token take_lifetime take_mark take_group before rows_for rows run parse_rule
arguments_comma_alone = not_read generic_arguments _ refl

-- `<'a 'b>`: nothing is read
arguments_lifetimes_no_comma : NotDerived (rule generic_arguments)
    (punct 60 true (at 0 1) (punct 39 true (at 1 2) (leaf (ident (97 ∷ [])) (at 2 3) (punct 39 true (at 4 5) (leaf (ident (98 ∷ [])) (at 5 6) (punct 62 false (at 6 7) end))))))
unfolding left is_end lookahead_at sees take_token take_lifetime take_mark take_group before rows_for rows run parse_rule
arguments_lifetimes_no_comma = not_read generic_arguments _ refl

-- `Item = T` prints `Item = T`
argument_item : DerivesAs generic_argument
    (leaf (ident (73 ∷ 116 ∷ 101 ∷ 109 ∷ [])) (at 0 4) (punct 61 false (at 5 6) (leaf (ident (84 ∷ [])) (at 7 8) end)))
    (leaf (ident (73 ∷ 116 ∷ 101 ∷ 109 ∷ [])) call_site (punct 61 false call_site (leaf (ident (84 ∷ [])) call_site end)))
    (end)
unfolding left is_end lookahead_at sees take_token take_lifetime take_mark take_group before rows_for rows run parse_rule
argument_item = computed generic_argument _ _ _ refl

-- `1 1` prints `1` and leaves `1`
argument_leaves_number : DerivesAs generic_argument
    (leaf (literal Int (49 ∷ [])) (at 0 1) (leaf (literal Int (49 ∷ [])) (at 2 3) end))
    (leaf (literal Int (49 ∷ [])) call_site end)
    (leaf (literal Int (49 ∷ [])) (at 2 3) end)
unfolding left is_end lookahead_at sees take_token take_lifetime take_mark take_group before rows_for rows run parse_rule
argument_leaves_number = computed generic_argument _ _ _ refl

-- no tokens: nothing is read
argument_nothing : NotDerived (rule generic_argument)
    (end)
unfolding left is_end lookahead_at sees take_token take_lifetime take_mark take_group before rows_for rows run parse_rule
argument_nothing = not_read generic_argument _ refl

-- `a b` prints `a` and leaves `b`
argument_leaves_word : DerivesAs generic_argument
    (leaf (ident (97 ∷ [])) (at 0 1) (leaf (ident (98 ∷ [])) (at 2 3) end))
    (leaf (ident (97 ∷ [])) call_site end)
    (leaf (ident (98 ∷ [])) (at 2 3) end)
unfolding left is_end lookahead_at sees take_token take_lifetime take_mark take_group before rows_for rows run parse_rule
argument_leaves_word = computed generic_argument _ _ _ refl

-- `a == b`: nothing is read
argument_equals_twice : NotDerived (rule generic_argument)
    (leaf (ident (97 ∷ [])) (at 0 1) (punct 61 true (at 2 3) (punct 61 false (at 3 4) (leaf (ident (98 ∷ [])) (at 5 6) end))))
unfolding left is_end lookahead_at sees take_token take_lifetime take_mark take_group before rows_for rows run parse_rule
argument_equals_twice = not_read generic_argument _ refl

-- `a<`: nothing is read
argument_open : NotDerived (rule generic_argument)
    (leaf (ident (97 ∷ [])) (at 0 1) (punct 60 false (at 1 2) end))
unfolding left is_end lookahead_at sees take_token take_lifetime take_mark take_group before rows_for rows run parse_rule
argument_open = not_read generic_argument _ refl

-- `a = b =` prints `a = b` and leaves `=`
argument_item_leaves_equals : DerivesAs generic_argument
    (leaf (ident (97 ∷ [])) (at 0 1) (punct 61 false (at 2 3) (leaf (ident (98 ∷ [])) (at 4 5) (punct 61 false (at 6 7) end))))
    (leaf (ident (97 ∷ [])) call_site (punct 61 false call_site (leaf (ident (98 ∷ [])) call_site end)))
    (punct 61 false (at 6 7) end)
unfolding left is_end lookahead_at sees take_token take_lifetime take_mark take_group before rows_for rows run parse_rule
argument_item_leaves_equals = computed generic_argument _ _ _ refl

-- `!` prints `!`
argument_never : DerivesAs generic_argument
    (punct 33 false (at 0 1) end)
    (punct 33 false call_site end)
    (end)
unfolding left is_end lookahead_at sees take_token take_lifetime take_mark take_group before rows_for rows run parse_rule
argument_never = computed generic_argument _ _ _ refl

-- `a =`: nothing is read
argument_item_without_type : NotDerived (rule generic_argument)
    (leaf (ident (97 ∷ [])) (at 0 1) (punct 61 false (at 2 3) end))
unfolding left is_end lookahead_at sees take_token take_lifetime take_mark take_group before rows_for rows run parse_rule
argument_item_without_type = not_read generic_argument _ refl

-- `a = <<b>::c>::d e` prints `a = < < b > :: c > :: d` and leaves `e`
argument_item_leaves_word : DerivesAs generic_argument
    (leaf (ident (97 ∷ [])) (at 0 1) (punct 61 false (at 2 3) (punct 60 true (at 4 5) (punct 60 false (at 5 6) (leaf (ident (98 ∷ [])) (at 6 7) (punct 62 true (at 7 8) (punct 58 true (at 8 9) (punct 58 false (at 9 10) (leaf (ident (99 ∷ [])) (at 10 11) (punct 62 true (at 11 12) (punct 58 true (at 12 13) (punct 58 false (at 13 14) (leaf (ident (100 ∷ [])) (at 14 15) (leaf (ident (101 ∷ [])) (at 16 17) end))))))))))))))
    (leaf (ident (97 ∷ [])) call_site (punct 61 false call_site (punct 60 false call_site (punct 60 false call_site (leaf (ident (98 ∷ [])) call_site (punct 62 false call_site (punct 58 true call_site (punct 58 false call_site (leaf (ident (99 ∷ [])) call_site (punct 62 false call_site (punct 58 true call_site (punct 58 false call_site (leaf (ident (100 ∷ [])) call_site end)))))))))))))
    (leaf (ident (101 ∷ [])) (at 16 17) end)
unfolding left is_end lookahead_at sees take_token take_lifetime take_mark take_group before rows_for rows run parse_rule
argument_item_leaves_word = computed generic_argument _ _ _ refl

-- `"s"` prints `"s"`
argument_text : DerivesAs generic_argument
    (leaf (literal Str (34 ∷ 115 ∷ 34 ∷ [])) (at 0 3) end)
    (leaf (literal Str (34 ∷ 115 ∷ 34 ∷ [])) call_site end)
    (end)
unfolding left is_end lookahead_at sees take_token take_lifetime take_mark take_group before rows_for rows run parse_rule
argument_text = computed generic_argument _ _ _ refl

-- `true true` prints `true` and leaves `true`
argument_leaves_true : DerivesAs generic_argument
    (leaf (ident w_true) (at 0 4) (leaf (ident w_true) (at 5 9) end))
    (leaf (ident w_true) call_site end)
    (leaf (ident w_true) (at 5 9) end)
unfolding left is_end lookahead_at sees take_token take_lifetime take_mark take_group before rows_for rows run parse_rule
argument_leaves_true = computed generic_argument _ _ _ refl

-- `safe = a` prints `safe = a`
argument_named_safe : DerivesAs generic_argument
    (leaf (ident w_safe) (at 0 4) (punct 61 false (at 5 6) (leaf (ident (97 ∷ [])) (at 7 8) end)))
    (leaf (ident w_safe) call_site (punct 61 false call_site (leaf (ident (97 ∷ [])) call_site end)))
    (end)
unfolding left is_end lookahead_at sees take_token take_lifetime take_mark take_group before rows_for rows run parse_rule
argument_named_safe = computed generic_argument _ _ _ refl

-- `auto = a` prints `auto = a`
argument_named_auto : DerivesAs generic_argument
    (leaf (ident w_auto) (at 0 4) (punct 61 false (at 5 6) (leaf (ident (97 ∷ [])) (at 7 8) end)))
    (leaf (ident w_auto) call_site (punct 61 false call_site (leaf (ident (97 ∷ [])) call_site end)))
    (end)
unfolding left is_end lookahead_at sees take_token take_lifetime take_mark take_group before rows_for rows run parse_rule
argument_named_auto = computed generic_argument _ _ _ refl

-- `1.5` prints `1.5`
argument_float : DerivesAs generic_argument
    (leaf (literal Float (49 ∷ 46 ∷ 53 ∷ [])) (at 0 3) end)
    (leaf (literal Float (49 ∷ 46 ∷ 53 ∷ [])) call_site end)
    (end)
unfolding left is_end lookahead_at sees take_token take_lifetime take_mark take_group before rows_for rows run parse_rule
argument_float = computed generic_argument _ _ _ refl

-- `'c'` prints `'c'`
argument_character : DerivesAs generic_argument
    (leaf (literal Char (39 ∷ 99 ∷ 39 ∷ [])) (at 0 3) end)
    (leaf (literal Char (39 ∷ 99 ∷ 39 ∷ [])) call_site end)
    (end)
unfolding left is_end lookahead_at sees take_token take_lifetime take_mark take_group before rows_for rows run parse_rule
argument_character = computed generic_argument _ _ _ refl

-- `union = a` prints `union = a`
argument_named_union : DerivesAs generic_argument
    (leaf (ident w_union) (at 0 5) (punct 61 false (at 6 7) (leaf (ident (97 ∷ [])) (at 8 9) end)))
    (leaf (ident w_union) call_site (punct 61 false call_site (leaf (ident (97 ∷ [])) call_site end)))
    (end)
unfolding left is_end lookahead_at sees take_token take_lifetime take_mark take_group before rows_for rows run parse_rule
argument_named_union = computed generic_argument _ _ _ refl

-- `false false` prints `false` and leaves `false`
argument_leaves_false : DerivesAs generic_argument
    (leaf (ident w_false) (at 0 5) (leaf (ident w_false) (at 6 11) end))
    (leaf (ident w_false) call_site end)
    (leaf (ident w_false) (at 6 11) end)
unfolding left is_end lookahead_at sees take_token take_lifetime take_mark take_group before rows_for rows run parse_rule
argument_leaves_false = computed generic_argument _ _ _ refl

-- `{a}` prints `{ a }`
argument_block : DerivesAs generic_argument
    (group Brace (at 0 1) (at 2 3) (leaf (ident (97 ∷ [])) (at 1 2) end) end)
    (group Brace call_site call_site (leaf (ident (97 ∷ [])) call_site end) end)
    (end)
unfolding left is_end lookahead_at sees take_token take_lifetime take_mark take_group before rows_for rows run parse_rule
argument_block = computed generic_argument _ _ _ refl

-- `[a]` prints `[ a ]`
argument_slice : DerivesAs generic_argument
    (group Bracket (at 0 1) (at 2 3) (leaf (ident (97 ∷ [])) (at 1 2) end) end)
    (group Bracket call_site call_site (leaf (ident (97 ∷ [])) call_site end) end)
    (end)
unfolding left is_end lookahead_at sees take_token take_lifetime take_mark take_group before rows_for rows run parse_rule
argument_slice = computed generic_argument _ _ _ refl

-- `default = a` prints `default = a`
argument_named_default : DerivesAs generic_argument
    (leaf (ident w_default) (at 0 7) (punct 61 false (at 8 9) (leaf (ident (97 ∷ [])) (at 10 11) end)))
    (leaf (ident w_default) call_site (punct 61 false call_site (leaf (ident (97 ∷ [])) call_site end)))
    (end)
unfolding left is_end lookahead_at sees take_token take_lifetime take_mark take_group before rows_for rows run parse_rule
argument_named_default = computed generic_argument _ _ _ refl

-- `c"x"` prints `c"x"`
argument_c_text : DerivesAs generic_argument
    (leaf (literal CStr (99 ∷ 34 ∷ 120 ∷ 34 ∷ [])) (at 0 4) end)
    (leaf (literal CStr (99 ∷ 34 ∷ 120 ∷ 34 ∷ [])) call_site end)
    (end)
unfolding left is_end lookahead_at sees take_token take_lifetime take_mark take_group before rows_for rows run parse_rule
argument_c_text = computed generic_argument _ _ _ refl

-- `b"x"` prints `b"x"`
argument_bytes : DerivesAs generic_argument
    (leaf (literal ByteStr (98 ∷ 34 ∷ 120 ∷ 34 ∷ [])) (at 0 4) end)
    (leaf (literal ByteStr (98 ∷ 34 ∷ 120 ∷ 34 ∷ [])) call_site end)
    (end)
unfolding left is_end lookahead_at sees take_token take_lifetime take_mark take_group before rows_for rows run parse_rule
argument_bytes = computed generic_argument _ _ _ refl

-- `b'x'` prints `b'x'`
argument_byte : DerivesAs generic_argument
    (leaf (literal Byte (98 ∷ 39 ∷ 120 ∷ 39 ∷ [])) (at 0 4) end)
    (leaf (literal Byte (98 ∷ 39 ∷ 120 ∷ 39 ∷ [])) call_site end)
    (end)
unfolding left is_end lookahead_at sees take_token take_lifetime take_mark take_group before rows_for rows run parse_rule
argument_byte = computed generic_argument _ _ _ refl

-- `(a, b)` prints `( a , b )`
argument_tuple : DerivesAs generic_argument
    (group Paren (at 0 1) (at 5 6) (leaf (ident (97 ∷ [])) (at 1 2) (punct 44 false (at 2 3) (leaf (ident (98 ∷ [])) (at 4 5) end))) end)
    (group Paren call_site call_site (leaf (ident (97 ∷ [])) call_site (punct 44 false call_site (leaf (ident (98 ∷ [])) call_site end))) end)
    (end)
unfolding left is_end lookahead_at sees take_token take_lifetime take_mark take_group before rows_for rows run parse_rule
argument_tuple = computed generic_argument _ _ _ refl

-- `a = (b)` prints `a = ( b )`
argument_item_tuple : DerivesAs generic_argument
    (leaf (ident (97 ∷ [])) (at 0 1) (punct 61 false (at 2 3) (group Paren (at 4 5) (at 6 7) (leaf (ident (98 ∷ [])) (at 5 6) end) end)))
    (leaf (ident (97 ∷ [])) call_site (punct 61 false call_site (group Paren call_site call_site (leaf (ident (98 ∷ [])) call_site end) end)))
    (end)
unfolding left is_end lookahead_at sees take_token take_lifetime take_mark take_group before rows_for rows run parse_rule
argument_item_tuple = computed generic_argument _ _ _ refl

-- `\(a\)` prints `\( a \)`
argument_invisible : DerivesAs generic_argument
    (group None (at 0 2) (at 3 5) (leaf (ident (97 ∷ [])) (at 2 3) end) end)
    (group None call_site call_site (leaf (ident (97 ∷ [])) call_site end) end)
    (end)
unfolding left is_end lookahead_at sees take_token take_lifetime take_mark take_group before rows_for rows run parse_rule
argument_invisible = computed generic_argument _ _ _ refl

-- `\(1\)`: nothing is read
argument_invisible_number : NotDerived (rule generic_argument)
    (group None (at 0 2) (at 3 5) (leaf (literal Int (49 ∷ [])) (at 2 3) end) end)
unfolding left is_end lookahead_at sees take_token take_lifetime take_mark take_group before rows_for rows run parse_rule
argument_invisible_number = not_read generic_argument _ refl

-- `<T as Iterator>::Item` prints `< T as Iterator > :: Item`
qualified_iterator : DerivesAs qualified_path
    (punct 60 false (at 0 1) (leaf (ident (84 ∷ [])) (at 1 2) (leaf (ident w_as) (at 3 5) (leaf (ident (73 ∷ 116 ∷ 101 ∷ 114 ∷ 97 ∷ 116 ∷ 111 ∷ 114 ∷ [])) (at 6 14) (punct 62 true (at 14 15) (punct 58 true (at 15 16) (punct 58 false (at 16 17) (leaf (ident (73 ∷ 116 ∷ 101 ∷ 109 ∷ [])) (at 17 21) end))))))))
    (punct 60 false call_site (leaf (ident (84 ∷ [])) call_site (leaf (ident w_as) call_site (leaf (ident (73 ∷ 116 ∷ 101 ∷ 114 ∷ 97 ∷ 116 ∷ 111 ∷ 114 ∷ [])) call_site (punct 62 false call_site (punct 58 true call_site (punct 58 false call_site (leaf (ident (73 ∷ 116 ∷ 101 ∷ 109 ∷ [])) call_site end))))))))
    (end)
unfolding left is_end lookahead_at sees take_token take_lifetime take_mark take_group before rows_for rows run parse_rule
qualified_iterator = computed qualified_path _ _ _ refl

-- `<a>::b c` prints `< a > :: b` and leaves `c`
qualified_leaves_word : DerivesAs qualified_path
    (punct 60 false (at 0 1) (leaf (ident (97 ∷ [])) (at 1 2) (punct 62 true (at 2 3) (punct 58 true (at 3 4) (punct 58 false (at 4 5) (leaf (ident (98 ∷ [])) (at 5 6) (leaf (ident (99 ∷ [])) (at 7 8) end)))))))
    (punct 60 false call_site (leaf (ident (97 ∷ [])) call_site (punct 62 false call_site (punct 58 true call_site (punct 58 false call_site (leaf (ident (98 ∷ [])) call_site end))))))
    (leaf (ident (99 ∷ [])) (at 7 8) end)
unfolding left is_end lookahead_at sees take_token take_lifetime take_mark take_group before rows_for rows run parse_rule
qualified_leaves_word = computed qualified_path _ _ _ refl

-- `<a b>::c`: nothing is read
qualified_two_types : NotDerived (rule qualified_path)
    (punct 60 false (at 0 1) (leaf (ident (97 ∷ [])) (at 1 2) (leaf (ident (98 ∷ [])) (at 3 4) (punct 62 true (at 4 5) (punct 58 true (at 5 6) (punct 58 false (at 6 7) (leaf (ident (99 ∷ [])) (at 7 8) end)))))))
unfolding left is_end lookahead_at sees take_token take_lifetime take_mark take_group before rows_for rows run parse_rule
qualified_two_types = not_read qualified_path _ refl

-- `<<a>::self<>::b`: nothing is read
qualified_self_arguments : NotDerived (rule qualified_path)
    (punct 60 true (at 0 1) (punct 60 false (at 1 2) (leaf (ident (97 ∷ [])) (at 2 3) (punct 62 true (at 3 4) (punct 58 true (at 4 5) (punct 58 false (at 5 6) (leaf (ident w_self) (at 6 10) (punct 60 true (at 10 11) (punct 62 true (at 11 12) (punct 58 true (at 12 13) (punct 58 false (at 13 14) (leaf (ident (98 ∷ [])) (at 14 15) end))))))))))))
unfolding left is_end lookahead_at sees take_token take_lifetime take_mark take_group before rows_for rows run parse_rule
qualified_self_arguments = not_read qualified_path _ refl

-- `<a>::> b`: nothing is read
qualified_greater_after_colons : NotDerived (rule qualified_path)
    (punct 60 false (at 0 1) (leaf (ident (97 ∷ [])) (at 1 2) (punct 62 true (at 2 3) (punct 58 true (at 3 4) (punct 58 true (at 4 5) (punct 62 false (at 5 6) (leaf (ident (98 ∷ [])) (at 7 8) end)))))))
unfolding left is_end lookahead_at sees take_token take_lifetime take_mark take_group before rows_for rows run parse_rule
qualified_greater_after_colons = not_read qualified_path _ refl

-- `<()::>::a`: nothing is read
qualified_type_ends_with_colons : NotDerived (rule qualified_path)
    (punct 60 false (at 0 1) (group Paren (at 1 2) (at 2 3) end (punct 58 true (at 3 4) (punct 58 true (at 4 5) (punct 62 true (at 5 6) (punct 58 true (at 6 7) (punct 58 false (at 7 8) (leaf (ident (97 ∷ [])) (at 8 9) end))))))))
unfolding left is_end lookahead_at sees take_token take_lifetime take_mark take_group before rows_for rows run parse_rule
qualified_type_ends_with_colons = not_read qualified_path _ refl

-- `<<a>::b>>::c`: nothing is read
qualified_two_greater : NotDerived (rule qualified_path)
    (punct 60 true (at 0 1) (punct 60 false (at 1 2) (leaf (ident (97 ∷ [])) (at 2 3) (punct 62 true (at 3 4) (punct 58 true (at 4 5) (punct 58 false (at 5 6) (leaf (ident (98 ∷ [])) (at 6 7) (punct 62 true (at 7 8) (punct 62 true (at 8 9) (punct 58 true (at 9 10) (punct 58 false (at 10 11) (leaf (ident (99 ∷ [])) (at 11 12) end))))))))))))
unfolding left is_end lookahead_at sees take_token take_lifetime take_mark take_group before rows_for rows run parse_rule
qualified_two_greater = not_read qualified_path _ refl

-- `<a> b`: nothing is read
qualified_no_colons : NotDerived (rule qualified_path)
    (punct 60 false (at 0 1) (leaf (ident (97 ∷ [])) (at 1 2) (punct 62 false (at 2 3) (leaf (ident (98 ∷ [])) (at 4 5) end))))
unfolding left is_end lookahead_at sees take_token take_lifetime take_mark take_group before rows_for rows run parse_rule
qualified_no_colons = not_read qualified_path _ refl

-- `a>::b`: nothing is read
qualified_no_less : NotDerived (rule qualified_path)
    (leaf (ident (97 ∷ [])) (at 0 1) (punct 62 true (at 1 2) (punct 58 true (at 2 3) (punct 58 false (at 3 4) (leaf (ident (98 ∷ [])) (at 4 5) end)))))
unfolding left is_end lookahead_at sees take_token take_lifetime take_mark take_group before rows_for rows run parse_rule
qualified_no_less = not_read qualified_path _ refl

-- `<>::a`: nothing is read
qualified_no_type : NotDerived (rule qualified_path)
    (punct 60 true (at 0 1) (punct 62 true (at 1 2) (punct 58 true (at 2 3) (punct 58 false (at 3 4) (leaf (ident (97 ∷ [])) (at 4 5) end)))))
unfolding left is_end lookahead_at sees take_token take_lifetime take_mark take_group before rows_for rows run parse_rule
qualified_no_type = not_read qualified_path _ refl

-- `<a>: b`: nothing is read
qualified_one_colon : NotDerived (rule qualified_path)
    (punct 60 false (at 0 1) (leaf (ident (97 ∷ [])) (at 1 2) (punct 62 true (at 2 3) (punct 58 false (at 3 4) (leaf (ident (98 ∷ [])) (at 5 6) end)))))
unfolding left is_end lookahead_at sees take_token take_lifetime take_mark take_group before rows_for rows run parse_rule
qualified_one_colon = not_read qualified_path _ refl

-- `<()::a`: nothing is read
qualified_no_greater : NotDerived (rule qualified_path)
    (punct 60 false (at 0 1) (group Paren (at 1 2) (at 2 3) end (punct 58 true (at 3 4) (punct 58 false (at 4 5) (leaf (ident (97 ∷ [])) (at 5 6) end)))))
unfolding left is_end lookahead_at sees take_token take_lifetime take_mark take_group before rows_for rows run parse_rule
qualified_no_greater = not_read qualified_path _ refl

-- `><a>::b`: nothing is read
qualified_greater_first : NotDerived (rule qualified_path)
    (punct 62 true (at 0 1) (punct 60 false (at 1 2) (leaf (ident (97 ∷ [])) (at 2 3) (punct 62 true (at 3 4) (punct 58 true (at 4 5) (punct 58 false (at 5 6) (leaf (ident (98 ∷ [])) (at 6 7) end)))))))
unfolding left is_end lookahead_at sees take_token take_lifetime take_mark take_group before rows_for rows run parse_rule
qualified_greater_first = not_read qualified_path _ refl

-- `<a><::b`: nothing is read
qualified_less_after_greater : NotDerived (rule qualified_path)
    (punct 60 false (at 0 1) (leaf (ident (97 ∷ [])) (at 1 2) (punct 62 true (at 2 3) (punct 60 true (at 3 4) (punct 58 true (at 4 5) (punct 58 false (at 5 6) (leaf (ident (98 ∷ [])) (at 6 7) end)))))))
unfolding left is_end lookahead_at sees take_token take_lifetime take_mark take_group before rows_for rows run parse_rule
qualified_less_after_greater = not_read qualified_path _ refl

-- `<> a>::b`: nothing is read
qualified_greater_before_type : NotDerived (rule qualified_path)
    (punct 60 true (at 0 1) (punct 62 false (at 1 2) (leaf (ident (97 ∷ [])) (at 3 4) (punct 62 true (at 4 5) (punct 58 true (at 5 6) (punct 58 false (at 6 7) (leaf (ident (98 ∷ [])) (at 7 8) end)))))))
unfolding left is_end lookahead_at sees take_token take_lifetime take_mark take_group before rows_for rows run parse_rule
qualified_greater_before_type = not_read qualified_path _ refl

-- `<a>::b as` prints `< a > :: b` and leaves `as`
qualified_leaves_as : DerivesAs qualified_path
    (punct 60 false (at 0 1) (leaf (ident (97 ∷ [])) (at 1 2) (punct 62 true (at 2 3) (punct 58 true (at 3 4) (punct 58 false (at 4 5) (leaf (ident (98 ∷ [])) (at 5 6) (leaf (ident w_as) (at 7 9) end)))))))
    (punct 60 false call_site (leaf (ident (97 ∷ [])) call_site (punct 62 false call_site (punct 58 true call_site (punct 58 false call_site (leaf (ident (98 ∷ [])) call_site end))))))
    (leaf (ident w_as) (at 7 9) end)
unfolding left is_end lookahead_at sees take_token take_lifetime take_mark take_group before rows_for rows run parse_rule
qualified_leaves_as = computed qualified_path _ _ _ refl

-- `<a>::::b`: nothing is read
qualified_colons_twice : NotDerived (rule qualified_path)
    (punct 60 false (at 0 1) (leaf (ident (97 ∷ [])) (at 1 2) (punct 62 true (at 2 3) (punct 58 true (at 3 4) (punct 58 true (at 4 5) (punct 58 true (at 5 6) (punct 58 false (at 6 7) (leaf (ident (98 ∷ [])) (at 7 8) end))))))))
unfolding left is_end lookahead_at sees take_token take_lifetime take_mark take_group before rows_for rows run parse_rule
qualified_colons_twice = not_read qualified_path _ refl

-- `<a as>::b`: nothing is read
qualified_as_nothing : NotDerived (rule qualified_path)
    (punct 60 false (at 0 1) (leaf (ident (97 ∷ [])) (at 1 2) (leaf (ident w_as) (at 3 5) (punct 62 true (at 5 6) (punct 58 true (at 6 7) (punct 58 false (at 7 8) (leaf (ident (98 ∷ [])) (at 8 9) end)))))))
unfolding left is_end lookahead_at sees take_token take_lifetime take_mark take_group before rows_for rows run parse_rule
qualified_as_nothing = not_read qualified_path _ refl

-- `::<a>::b`: nothing is read
qualified_colons_first : NotDerived (rule qualified_path)
    (punct 58 true (at 0 1) (punct 58 true (at 1 2) (punct 60 false (at 2 3) (leaf (ident (97 ∷ [])) (at 3 4) (punct 62 true (at 4 5) (punct 58 true (at 5 6) (punct 58 false (at 6 7) (leaf (ident (98 ∷ [])) (at 7 8) end))))))))
unfolding left is_end lookahead_at sees take_token take_lifetime take_mark take_group before rows_for rows run parse_rule
qualified_colons_first = not_read qualified_path _ refl

-- `<as a b>::c`: nothing is read
qualified_as_first : NotDerived (rule qualified_path)
    (punct 60 false (at 0 1) (leaf (ident w_as) (at 1 3) (leaf (ident (97 ∷ [])) (at 4 5) (leaf (ident (98 ∷ [])) (at 6 7) (punct 62 true (at 7 8) (punct 58 true (at 8 9) (punct 58 false (at 9 10) (leaf (ident (99 ∷ [])) (at 10 11) end))))))))
unfolding left is_end lookahead_at sees take_token take_lifetime take_mark take_group before rows_for rows run parse_rule
qualified_as_first = not_read qualified_path _ refl

-- `<::()>::a`: nothing is read
qualified_colons_before_type : NotDerived (rule qualified_path)
    (punct 60 true (at 0 1) (punct 58 true (at 1 2) (punct 58 false (at 2 3) (group Paren (at 3 4) (at 4 5) end (punct 62 true (at 5 6) (punct 58 true (at 6 7) (punct 58 false (at 7 8) (leaf (ident (97 ∷ [])) (at 8 9) end))))))))
unfolding left is_end lookahead_at sees take_token take_lifetime take_mark take_group before rows_for rows run parse_rule
qualified_colons_before_type = not_read qualified_path _ refl

-- `<a>::as b c`: nothing is read
qualified_as_after_colons : NotDerived (rule qualified_path)
    (punct 60 false (at 0 1) (leaf (ident (97 ∷ [])) (at 1 2) (punct 62 true (at 2 3) (punct 58 true (at 3 4) (punct 58 false (at 4 5) (leaf (ident w_as) (at 5 7) (leaf (ident (98 ∷ [])) (at 8 9) (leaf (ident (99 ∷ [])) (at 10 11) end))))))))
unfolding left is_end lookahead_at sees take_token take_lifetime take_mark take_group before rows_for rows run parse_rule
qualified_as_after_colons = not_read qualified_path _ refl

-- `<a, b>::c`: nothing is read
qualified_two_types_comma : NotDerived (rule qualified_path)
    (punct 60 false (at 0 1) (leaf (ident (97 ∷ [])) (at 1 2) (punct 44 false (at 2 3) (leaf (ident (98 ∷ [])) (at 4 5) (punct 62 true (at 5 6) (punct 58 true (at 6 7) (punct 58 false (at 7 8) (leaf (ident (99 ∷ [])) (at 8 9) end))))))))
unfolding left is_end lookahead_at sees take_token take_lifetime take_mark take_group before rows_for rows run parse_rule
qualified_two_types_comma = not_read qualified_path _ refl

-- `<a as b as>::c`: nothing is read
qualified_as_after_path : NotDerived (rule qualified_path)
    (punct 60 false (at 0 1) (leaf (ident (97 ∷ [])) (at 1 2) (leaf (ident w_as) (at 3 5) (leaf (ident (98 ∷ [])) (at 6 7) (leaf (ident w_as) (at 8 10) (punct 62 true (at 10 11) (punct 58 true (at 11 12) (punct 58 false (at 12 13) (leaf (ident (99 ∷ [])) (at 13 14) end)))))))))
unfolding left is_end lookahead_at sees take_token take_lifetime take_mark take_group before rows_for rows run parse_rule
qualified_as_after_path = not_read qualified_path _ refl

-- `<a as b as c>::d`: nothing is read
qualified_as_twice : NotDerived (rule qualified_path)
    (punct 60 false (at 0 1) (leaf (ident (97 ∷ [])) (at 1 2) (leaf (ident w_as) (at 3 5) (leaf (ident (98 ∷ [])) (at 6 7) (leaf (ident w_as) (at 8 10) (leaf (ident (99 ∷ [])) (at 11 12) (punct 62 true (at 12 13) (punct 58 true (at 13 14) (punct 58 false (at 14 15) (leaf (ident (100 ∷ [])) (at 15 16) end))))))))))
unfolding left is_end lookahead_at sees take_token take_lifetime take_mark take_group before rows_for rows run parse_rule
qualified_as_twice = not_read qualified_path _ refl

-- `<<a>::b>::<c`: nothing is read
qualified_less_after_colons : NotDerived (rule qualified_path)
    (punct 60 true (at 0 1) (punct 60 false (at 1 2) (leaf (ident (97 ∷ [])) (at 2 3) (punct 62 true (at 3 4) (punct 58 true (at 4 5) (punct 58 false (at 5 6) (leaf (ident (98 ∷ [])) (at 6 7) (punct 62 true (at 7 8) (punct 58 true (at 8 9) (punct 58 true (at 9 10) (punct 60 false (at 10 11) (leaf (ident (99 ∷ [])) (at 11 12) end))))))))))))
unfolding left is_end lookahead_at sees take_token take_lifetime take_mark take_group before rows_for rows run parse_rule
qualified_less_after_colons = not_read qualified_path _ refl

-- `<a>.b`: nothing is read
qualified_dot : NotDerived (rule qualified_path)
    (punct 60 false (at 0 1) (leaf (ident (97 ∷ [])) (at 1 2) (punct 62 true (at 2 3) (punct 46 false (at 3 4) (leaf (ident (98 ∷ [])) (at 4 5) end)))))
unfolding left is_end lookahead_at sees take_token take_lifetime take_mark take_group before rows_for rows run parse_rule
qualified_dot = not_read qualified_path _ refl

-- `<() as::a>::b` prints `< ( ) as :: a > :: b`
qualified_as_rooted : DerivesAs qualified_path
    (punct 60 false (at 0 1) (group Paren (at 1 2) (at 2 3) end (leaf (ident w_as) (at 4 6) (punct 58 true (at 6 7) (punct 58 false (at 7 8) (leaf (ident (97 ∷ [])) (at 8 9) (punct 62 true (at 9 10) (punct 58 true (at 10 11) (punct 58 false (at 11 12) (leaf (ident (98 ∷ [])) (at 12 13) end))))))))))
    (punct 60 false call_site (group Paren call_site call_site end (leaf (ident w_as) call_site (punct 58 true call_site (punct 58 false call_site (leaf (ident (97 ∷ [])) call_site (punct 62 false call_site (punct 58 true call_site (punct 58 false call_site (leaf (ident (98 ∷ [])) call_site end))))))))))
    (end)
unfolding left is_end lookahead_at sees take_token take_lifetime take_mark take_group before rows_for rows run parse_rule
qualified_as_rooted = computed qualified_path _ _ _ refl

-- `<a as as b>::c`: nothing is read
qualified_as_as : NotDerived (rule qualified_path)
    (punct 60 false (at 0 1) (leaf (ident (97 ∷ [])) (at 1 2) (leaf (ident w_as) (at 3 5) (leaf (ident w_as) (at 6 8) (leaf (ident (98 ∷ [])) (at 9 10) (punct 62 true (at 10 11) (punct 58 true (at 11 12) (punct 58 false (at 12 13) (leaf (ident (99 ∷ [])) (at 13 14) end)))))))))
unfolding left is_end lookahead_at sees take_token take_lifetime take_mark take_group before rows_for rows run parse_rule
qualified_as_as = not_read qualified_path _ refl

-- `self<a>::b`: nothing is read
qualified_word_first : NotDerived (rule qualified_path)
    (leaf (ident w_self) (at 0 4) (punct 60 false (at 4 5) (leaf (ident (97 ∷ [])) (at 5 6) (punct 62 true (at 6 7) (punct 58 true (at 7 8) (punct 58 false (at 8 9) (leaf (ident (98 ∷ [])) (at 9 10) end)))))))
unfolding left is_end lookahead_at sees take_token take_lifetime take_mark take_group before rows_for rows run parse_rule
qualified_word_first = not_read qualified_path _ refl

-- `<a b c>::d`: nothing is read
qualified_name_for_as : NotDerived (rule qualified_path)
    (punct 60 false (at 0 1) (leaf (ident (97 ∷ [])) (at 1 2) (leaf (ident (98 ∷ [])) (at 3 4) (leaf (ident (99 ∷ [])) (at 5 6) (punct 62 true (at 6 7) (punct 58 true (at 7 8) (punct 58 false (at 8 9) (leaf (ident (100 ∷ [])) (at 9 10) end))))))))
unfolding left is_end lookahead_at sees take_token take_lifetime take_mark take_group before rows_for rows run parse_rule
qualified_name_for_as = not_read qualified_path _ refl

-- `as self<a>::b`: nothing is read
qualified_as_before_less : NotDerived (rule qualified_path)
    (leaf (ident w_as) (at 0 2) (leaf (ident w_self) (at 3 7) (punct 60 false (at 7 8) (leaf (ident (97 ∷ [])) (at 8 9) (punct 62 true (at 9 10) (punct 58 true (at 10 11) (punct 58 false (at 11 12) (leaf (ident (98 ∷ [])) (at 12 13) end))))))))
unfolding left is_end lookahead_at sees take_token take_lifetime take_mark take_group before rows_for rows run parse_rule
qualified_as_before_less = not_read qualified_path _ refl

-- `<a as b c>::d`: nothing is read
qualified_two_paths : NotDerived (rule qualified_path)
    (punct 60 false (at 0 1) (leaf (ident (97 ∷ [])) (at 1 2) (leaf (ident w_as) (at 3 5) (leaf (ident (98 ∷ [])) (at 6 7) (leaf (ident (99 ∷ [])) (at 8 9) (punct 62 true (at 9 10) (punct 58 true (at 10 11) (punct 58 false (at 11 12) (leaf (ident (100 ∷ [])) (at 12 13) end)))))))))
unfolding left is_end lookahead_at sees take_token take_lifetime take_mark take_group before rows_for rows run parse_rule
qualified_two_paths = not_read qualified_path _ refl

-- `a` prints `a`
path_type_word : DerivesAs path_as_type
    (leaf (ident (97 ∷ [])) (at 0 1) end)
    (leaf (ident (97 ∷ [])) call_site end)
    (end)
unfolding left is_end lookahead_at sees take_token take_lifetime take_mark take_group before rows_for rows run parse_rule
path_type_word = computed path_as_type _ _ _ refl

-- `::a<B>::C` prints `:: a < B > :: C`
path_type_rooted : DerivesAs path_as_type
    (punct 58 true (at 0 1) (punct 58 false (at 1 2) (leaf (ident (97 ∷ [])) (at 2 3) (punct 60 false (at 3 4) (leaf (ident (66 ∷ [])) (at 4 5) (punct 62 true (at 5 6) (punct 58 true (at 6 7) (punct 58 false (at 7 8) (leaf (ident (67 ∷ [])) (at 8 9) end)))))))))
    (punct 58 true call_site (punct 58 false call_site (leaf (ident (97 ∷ [])) call_site (punct 60 false call_site (leaf (ident (66 ∷ [])) call_site (punct 62 false call_site (punct 58 true call_site (punct 58 false call_site (leaf (ident (67 ∷ [])) call_site end)))))))))
    (end)
unfolding left is_end lookahead_at sees take_token take_lifetime take_mark take_group before rows_for rows run parse_rule
path_type_rooted = computed path_as_type _ _ _ refl

-- `<a>::b` prints `< a > :: b`
path_type_qualified : DerivesAs path_as_type
    (punct 60 false (at 0 1) (leaf (ident (97 ∷ [])) (at 1 2) (punct 62 true (at 2 3) (punct 58 true (at 3 4) (punct 58 false (at 4 5) (leaf (ident (98 ∷ [])) (at 5 6) end))))))
    (punct 60 false call_site (leaf (ident (97 ∷ [])) call_site (punct 62 false call_site (punct 58 true call_site (punct 58 false call_site (leaf (ident (98 ∷ [])) call_site end))))))
    (end)
unfolding left is_end lookahead_at sees take_token take_lifetime take_mark take_group before rows_for rows run parse_rule
path_type_qualified = computed path_as_type _ _ _ refl

-- `<a as b>::c` prints `< a as b > :: c`
path_type_qualified_as : DerivesAs path_as_type
    (punct 60 false (at 0 1) (leaf (ident (97 ∷ [])) (at 1 2) (leaf (ident w_as) (at 3 5) (leaf (ident (98 ∷ [])) (at 6 7) (punct 62 true (at 7 8) (punct 58 true (at 8 9) (punct 58 false (at 9 10) (leaf (ident (99 ∷ [])) (at 10 11) end))))))))
    (punct 60 false call_site (leaf (ident (97 ∷ [])) call_site (leaf (ident w_as) call_site (leaf (ident (98 ∷ [])) call_site (punct 62 false call_site (punct 58 true call_site (punct 58 false call_site (leaf (ident (99 ∷ [])) call_site end))))))))
    (end)
unfolding left is_end lookahead_at sees take_token take_lifetime take_mark take_group before rows_for rows run parse_rule
path_type_qualified_as = computed path_as_type _ _ _ refl

-- `<<a>::b>::c` prints `< < a > :: b > :: c`
path_type_qualified_twice : DerivesAs path_as_type
    (punct 60 true (at 0 1) (punct 60 false (at 1 2) (leaf (ident (97 ∷ [])) (at 2 3) (punct 62 true (at 3 4) (punct 58 true (at 4 5) (punct 58 false (at 5 6) (leaf (ident (98 ∷ [])) (at 6 7) (punct 62 true (at 7 8) (punct 58 true (at 8 9) (punct 58 false (at 9 10) (leaf (ident (99 ∷ [])) (at 10 11) end)))))))))))
    (punct 60 false call_site (punct 60 false call_site (leaf (ident (97 ∷ [])) call_site (punct 62 false call_site (punct 58 true call_site (punct 58 false call_site (leaf (ident (98 ∷ [])) call_site (punct 62 false call_site (punct 58 true call_site (punct 58 false call_site (leaf (ident (99 ∷ [])) call_site end)))))))))))
    (end)
unfolding left is_end lookahead_at sees take_token take_lifetime take_mark take_group before rows_for rows run parse_rule
path_type_qualified_twice = computed path_as_type _ _ _ refl

-- `a b` prints `a` and leaves `b`
path_type_leaves_word : DerivesAs path_as_type
    (leaf (ident (97 ∷ [])) (at 0 1) (leaf (ident (98 ∷ [])) (at 2 3) end))
    (leaf (ident (97 ∷ [])) call_site end)
    (leaf (ident (98 ∷ [])) (at 2 3) end)
unfolding left is_end lookahead_at sees take_token take_lifetime take_mark take_group before rows_for rows run parse_rule
path_type_leaves_word = computed path_as_type _ _ _ refl

-- `self<a>::b` prints `self` and leaves `<a>::b`
path_type_leaves_qualified : DerivesAs path_as_type
    (leaf (ident w_self) (at 0 4) (punct 60 false (at 4 5) (leaf (ident (97 ∷ [])) (at 5 6) (punct 62 true (at 6 7) (punct 58 true (at 7 8) (punct 58 false (at 8 9) (leaf (ident (98 ∷ [])) (at 9 10) end)))))))
    (leaf (ident w_self) call_site end)
    (punct 60 false (at 4 5) (leaf (ident (97 ∷ [])) (at 5 6) (punct 62 true (at 6 7) (punct 58 true (at 7 8) (punct 58 false (at 8 9) (leaf (ident (98 ∷ [])) (at 9 10) end))))))
unfolding left is_end lookahead_at sees take_token take_lifetime take_mark take_group before rows_for rows run parse_rule
path_type_leaves_qualified = computed path_as_type _ _ _ refl

-- `<a>::self<b>::c` prints `< a > :: self` and leaves `<b>::c`
path_type_self_after : DerivesAs path_as_type
    (punct 60 false (at 0 1) (leaf (ident (97 ∷ [])) (at 1 2) (punct 62 true (at 2 3) (punct 58 true (at 3 4) (punct 58 false (at 4 5) (leaf (ident w_self) (at 5 9) (punct 60 false (at 9 10) (leaf (ident (98 ∷ [])) (at 10 11) (punct 62 true (at 11 12) (punct 58 true (at 12 13) (punct 58 false (at 13 14) (leaf (ident (99 ∷ [])) (at 14 15) end))))))))))))
    (punct 60 false call_site (leaf (ident (97 ∷ [])) call_site (punct 62 false call_site (punct 58 true call_site (punct 58 false call_site (leaf (ident w_self) call_site end))))))
    (punct 60 false (at 9 10) (leaf (ident (98 ∷ [])) (at 10 11) (punct 62 true (at 11 12) (punct 58 true (at 12 13) (punct 58 false (at 13 14) (leaf (ident (99 ∷ [])) (at 14 15) end))))))
unfolding left is_end lookahead_at sees take_token take_lifetime take_mark take_group before rows_for rows run parse_rule
path_type_self_after = computed path_as_type _ _ _ refl

-- `<a>::b c` prints `< a > :: b` and leaves `c`
path_type_qualified_leaves : DerivesAs path_as_type
    (punct 60 false (at 0 1) (leaf (ident (97 ∷ [])) (at 1 2) (punct 62 true (at 2 3) (punct 58 true (at 3 4) (punct 58 false (at 4 5) (leaf (ident (98 ∷ [])) (at 5 6) (leaf (ident (99 ∷ [])) (at 7 8) end)))))))
    (punct 60 false call_site (leaf (ident (97 ∷ [])) call_site (punct 62 false call_site (punct 58 true call_site (punct 58 false call_site (leaf (ident (98 ∷ [])) call_site end))))))
    (leaf (ident (99 ∷ [])) (at 7 8) end)
unfolding left is_end lookahead_at sees take_token take_lifetime take_mark take_group before rows_for rows run parse_rule
path_type_qualified_leaves = computed path_as_type _ _ _ refl

-- `a b` is refused
path_type_whole : Refused path_as_type
    (leaf (ident (97 ∷ [])) (at 0 1) (leaf (ident (98 ∷ [])) (at 2 3) end))
unfolding left is_end lookahead_at sees take_token take_lifetime take_mark take_group before rows_for rows run parse_rule
path_type_whole = not_derived path_as_type _ refl

-- no tokens: nothing is read
path_type_empty : NotDerived (rule path_as_type)
    (end)
unfolding left is_end lookahead_at sees take_token take_lifetime take_mark take_group before rows_for rows run parse_rule
path_type_empty = not_read path_as_type _ refl

-- `<a>`: nothing is read
path_type_qualified_alone : NotDerived (rule path_as_type)
    (punct 60 false (at 0 1) (leaf (ident (97 ∷ [])) (at 1 2) (punct 62 false (at 2 3) end)))
unfolding left is_end lookahead_at sees take_token take_lifetime take_mark take_group before rows_for rows run parse_rule
path_type_qualified_alone = not_read path_as_type _ refl

-- `::<a>::b`: nothing is read
path_type_colons_before : NotDerived (rule path_as_type)
    (punct 58 true (at 0 1) (punct 58 true (at 1 2) (punct 60 false (at 2 3) (leaf (ident (97 ∷ [])) (at 3 4) (punct 62 true (at 4 5) (punct 58 true (at 5 6) (punct 58 false (at 6 7) (leaf (ident (98 ∷ [])) (at 7 8) end))))))))
unfolding left is_end lookahead_at sees take_token take_lifetime take_mark take_group before rows_for rows run parse_rule
path_type_colons_before = not_read path_as_type _ refl

-- `<=a>::b`: nothing is read
path_type_less_equals : NotDerived (rule path_as_type)
    (punct 60 true (at 0 1) (punct 61 false (at 1 2) (leaf (ident (97 ∷ [])) (at 2 3) (punct 62 true (at 3 4) (punct 58 true (at 4 5) (punct 58 false (at 5 6) (leaf (ident (98 ∷ [])) (at 6 7) end)))))))
unfolding left is_end lookahead_at sees take_token take_lifetime take_mark take_group before rows_for rows run parse_rule
path_type_less_equals = not_read path_as_type _ refl

-- `&a`: nothing is read
path_type_reference : NotDerived (rule path_as_type)
    (punct 38 false (at 0 1) (leaf (ident (97 ∷ [])) (at 1 2) end))
unfolding left is_end lookahead_at sees take_token take_lifetime take_mark take_group before rows_for rows run parse_rule
path_type_reference = not_read path_as_type _ refl

-- `*mut a`: nothing is read
path_type_pointer : NotDerived (rule path_as_type)
    (punct 42 false (at 0 1) (leaf (ident w_mut) (at 1 4) (leaf (ident (97 ∷ [])) (at 5 6) end)))
unfolding left is_end lookahead_at sees take_token take_lifetime take_mark take_group before rows_for rows run parse_rule
path_type_pointer = not_read path_as_type _ refl

-- `(a)`: nothing is read
path_type_parentheses : NotDerived (rule path_as_type)
    (group Paren (at 0 1) (at 2 3) (leaf (ident (97 ∷ [])) (at 1 2) end) end)
unfolding left is_end lookahead_at sees take_token take_lifetime take_mark take_group before rows_for rows run parse_rule
path_type_parentheses = not_read path_as_type _ refl

-- `[a]`: nothing is read
path_type_brackets : NotDerived (rule path_as_type)
    (group Bracket (at 0 1) (at 2 3) (leaf (ident (97 ∷ [])) (at 1 2) end) end)
unfolding left is_end lookahead_at sees take_token take_lifetime take_mark take_group before rows_for rows run parse_rule
path_type_brackets = not_read path_as_type _ refl

-- `!`: nothing is read
path_type_never : NotDerived (rule path_as_type)
    (punct 33 false (at 0 1) end)
unfolding left is_end lookahead_at sees take_token take_lifetime take_mark take_group before rows_for rows run parse_rule
path_type_never = not_read path_as_type _ refl

-- `\(a\)`: nothing is read
path_type_invisible : NotDerived (rule path_as_type)
    (group None (at 0 2) (at 3 5) (leaf (ident (97 ∷ [])) (at 2 3) end) end)
unfolding left is_end lookahead_at sees take_token take_lifetime take_mark take_group before rows_for rows run parse_rule
path_type_invisible = not_read path_as_type _ refl

-- `1`: nothing is read
path_type_literal : NotDerived (rule path_as_type)
    (leaf (literal Int (49 ∷ [])) (at 0 1) end)
unfolding left is_end lookahead_at sees take_token take_lifetime take_mark take_group before rows_for rows run parse_rule
path_type_literal = not_read path_as_type _ refl

-- `_`: nothing is read
path_type_underscore : NotDerived (rule path_as_type)
    (leaf (ident w_underscore) (at 0 1) end)
unfolding left is_end lookahead_at sees take_token take_lifetime take_mark take_group before rows_for rows run parse_rule
path_type_underscore = not_read path_as_type _ refl

-- `::a::B` prints `:: a :: B`
type_rooted : DerivesAs type
    (punct 58 true (at 0 1) (punct 58 false (at 1 2) (leaf (ident (97 ∷ [])) (at 2 3) (punct 58 true (at 3 4) (punct 58 false (at 4 5) (leaf (ident (66 ∷ [])) (at 5 6) end))))))
    (punct 58 true call_site (punct 58 false call_site (leaf (ident (97 ∷ [])) call_site (punct 58 true call_site (punct 58 false call_site (leaf (ident (66 ∷ [])) call_site end))))))
    (end)
unfolding left is_end lookahead_at sees take_token take_lifetime take_mark take_group before rows_for rows run parse_rule
type_rooted = computed type _ _ _ refl

-- `1`: nothing is read
type_literal : NotDerived (rule type)
    (leaf (literal Int (49 ∷ [])) (at 0 1) end)
unfolding left is_end lookahead_at sees take_token take_lifetime take_mark take_group before rows_for rows run parse_rule
type_literal = not_read type _ refl

-- `&'a mut T` prints `& 'a mut T`
type_reference : DerivesAs type
    (punct 38 true (at 0 1) (punct 39 true (at 1 2) (leaf (ident (97 ∷ [])) (at 2 3) (leaf (ident w_mut) (at 4 7) (leaf (ident (84 ∷ [])) (at 8 9) end)))))
    (punct 38 false call_site (punct 39 true call_site (leaf (ident (97 ∷ [])) call_site (leaf (ident w_mut) call_site (leaf (ident (84 ∷ [])) call_site end)))))
    (end)
unfolding left is_end lookahead_at sees take_token take_lifetime take_mark take_group before rows_for rows run parse_rule
type_reference = computed type _ _ _ refl

-- `&&T` prints `& & T`
type_double_reference : DerivesAs type
    (punct 38 true (at 0 1) (punct 38 false (at 1 2) (leaf (ident (84 ∷ [])) (at 2 3) end)))
    (punct 38 false call_site (punct 38 false call_site (leaf (ident (84 ∷ [])) call_site end)))
    (end)
unfolding left is_end lookahead_at sees take_token take_lifetime take_mark take_group before rows_for rows run parse_rule
type_double_reference = computed type _ _ _ refl

-- `*const u8` prints `* const u8`
type_pointer : DerivesAs type
    (punct 42 false (at 0 1) (leaf (ident w_const) (at 1 6) (leaf (ident (117 ∷ 56 ∷ [])) (at 7 9) end)))
    (punct 42 false call_site (leaf (ident w_const) call_site (leaf (ident (117 ∷ 56 ∷ [])) call_site end)))
    (end)
unfolding left is_end lookahead_at sees take_token take_lifetime take_mark take_group before rows_for rows run parse_rule
type_pointer = computed type _ _ _ refl

-- `*u8`: nothing is read
type_pointer_alone : NotDerived (rule type)
    (punct 42 false (at 0 1) (leaf (ident (117 ∷ 56 ∷ [])) (at 1 3) end))
unfolding left is_end lookahead_at sees take_token take_lifetime take_mark take_group before rows_for rows run parse_rule
type_pointer_alone = not_read type _ refl

-- `[T; 3]` prints `[ T ; 3 ]`
type_array : DerivesAs type
    (group Bracket (at 0 1) (at 5 6) (leaf (ident (84 ∷ [])) (at 1 2) (punct 59 false (at 2 3) (leaf (literal Int (51 ∷ [])) (at 4 5) end))) end)
    (group Bracket call_site call_site (leaf (ident (84 ∷ [])) call_site (punct 59 false call_site (leaf (literal Int (51 ∷ [])) call_site end))) end)
    (end)
unfolding left is_end lookahead_at sees take_token take_lifetime take_mark take_group before rows_for rows run parse_rule
type_array = computed type _ _ _ refl

-- `[T; N]` prints `[ T ; N ]`
type_array_name : DerivesAs type
    (group Bracket (at 0 1) (at 5 6) (leaf (ident (84 ∷ [])) (at 1 2) (punct 59 false (at 2 3) (leaf (ident (78 ∷ [])) (at 4 5) end))) end)
    (group Bracket call_site call_site (leaf (ident (84 ∷ [])) call_site (punct 59 false call_site (leaf (ident (78 ∷ [])) call_site end))) end)
    (end)
unfolding left is_end lookahead_at sees take_token take_lifetime take_mark take_group before rows_for rows run parse_rule
type_array_name = computed type _ _ _ refl

-- `[T; 2 * N + 1]` prints `[ T ; 2 * N + 1 ]`
type_array_sum : DerivesAs type
    (group Bracket (at 0 1) (at 13 14) (leaf (ident (84 ∷ [])) (at 1 2) (punct 59 false (at 2 3) (leaf (literal Int (50 ∷ [])) (at 4 5) (punct 42 false (at 6 7) (leaf (ident (78 ∷ [])) (at 8 9) (punct 43 false (at 10 11) (leaf (literal Int (49 ∷ [])) (at 12 13) end))))))) end)
    (group Bracket call_site call_site (leaf (ident (84 ∷ [])) call_site (punct 59 false call_site (leaf (literal Int (50 ∷ [])) call_site (punct 42 false call_site (leaf (ident (78 ∷ [])) call_site (punct 43 false call_site (leaf (literal Int (49 ∷ [])) call_site end))))))) end)
    (end)
unfolding left is_end lookahead_at sees take_token take_lifetime take_mark take_group before rows_for rows run parse_rule
type_array_sum = computed type _ _ _ refl

-- `[T; a = b]` prints `[ T ; a = b ]`
type_array_assigned : DerivesAs type
    (group Bracket (at 0 1) (at 9 10) (leaf (ident (84 ∷ [])) (at 1 2) (punct 59 false (at 2 3) (leaf (ident (97 ∷ [])) (at 4 5) (punct 61 false (at 6 7) (leaf (ident (98 ∷ [])) (at 8 9) end))))) end)
    (group Bracket call_site call_site (leaf (ident (84 ∷ [])) call_site (punct 59 false call_site (leaf (ident (97 ∷ [])) call_site (punct 61 false call_site (leaf (ident (98 ∷ [])) call_site end))))) end)
    (end)
unfolding left is_end lookahead_at sees take_token take_lifetime take_mark take_group before rows_for rows run parse_rule
type_array_assigned = computed type _ _ _ refl

-- `[1; 1]`: nothing is read
type_array_number_first : NotDerived (rule type)
    (group Bracket (at 0 1) (at 5 6) (leaf (literal Int (49 ∷ [])) (at 1 2) (punct 59 false (at 2 3) (leaf (literal Int (49 ∷ [])) (at 4 5) end))) end)
unfolding left is_end lookahead_at sees take_token take_lifetime take_mark take_group before rows_for rows run parse_rule
type_array_number_first = not_read type _ refl

-- `[T; {N}]` prints `[ T ; { N } ]`
type_array_block : DerivesAs type
    (group Bracket (at 0 1) (at 7 8) (leaf (ident (84 ∷ [])) (at 1 2) (punct 59 false (at 2 3) (group Brace (at 4 5) (at 6 7) (leaf (ident (78 ∷ [])) (at 5 6) end) end))) end)
    (group Bracket call_site call_site (leaf (ident (84 ∷ [])) call_site (punct 59 false call_site (group Brace call_site call_site (leaf (ident (78 ∷ [])) call_site end) end))) end)
    (end)
unfolding left is_end lookahead_at sees take_token take_lifetime take_mark take_group before rows_for rows run parse_rule
type_array_block = computed type _ _ _ refl

-- `[T; f::<A, 'a>()]` prints `[ T ; f :: < 'a , A , > ( ) ]`
type_array_sorted : DerivesAs type
    (group Bracket (at 0 1) (at 16 17) (leaf (ident (84 ∷ [])) (at 1 2) (punct 59 false (at 2 3) (leaf (ident (102 ∷ [])) (at 4 5) (punct 58 true (at 5 6) (punct 58 true (at 6 7) (punct 60 false (at 7 8) (leaf (ident (65 ∷ [])) (at 8 9) (punct 44 false (at 9 10) (punct 39 true (at 11 12) (leaf (ident (97 ∷ [])) (at 12 13) (punct 62 false (at 13 14) (group Paren (at 14 15) (at 15 16) end end)))))))))))) end)
    (group Bracket call_site call_site (leaf (ident (84 ∷ [])) call_site (punct 59 false call_site (leaf (ident (102 ∷ [])) call_site (punct 58 true call_site (punct 58 false call_site (punct 60 false call_site (punct 39 true call_site (leaf (ident (97 ∷ [])) call_site (punct 44 false call_site (leaf (ident (65 ∷ [])) call_site (punct 44 false call_site (punct 62 false call_site (group Paren call_site call_site end end))))))))))))) end)
    (end)
unfolding left is_end lookahead_at sees take_token take_lifetime take_mark take_group before rows_for rows run parse_rule
type_array_sorted = computed type _ _ _ refl

-- `[T; #[a] 1]` prints `[ T ; # [ a ] 1 ]`
type_array_attribute : DerivesAs type
    (group Bracket (at 0 1) (at 10 11) (leaf (ident (84 ∷ [])) (at 1 2) (punct 59 false (at 2 3) (punct 35 false (at 4 5) (group Bracket (at 5 6) (at 7 8) (leaf (ident (97 ∷ [])) (at 6 7) end) (leaf (literal Int (49 ∷ [])) (at 9 10) end))))) end)
    (group Bracket call_site call_site (leaf (ident (84 ∷ [])) call_site (punct 59 false call_site (punct 35 false call_site (group Bracket call_site call_site (leaf (ident (97 ∷ [])) call_site end) (leaf (literal Int (49 ∷ [])) call_site end))))) end)
    (end)
unfolding left is_end lookahead_at sees take_token take_lifetime take_mark take_group before rows_for rows run parse_rule
type_array_attribute = computed type _ _ _ refl

-- `(A, (B), ())` prints `( A , ( B ) , ( ) )`
type_tuple : DerivesAs type
    (group Paren (at 0 1) (at 11 12) (leaf (ident (65 ∷ [])) (at 1 2) (punct 44 false (at 2 3) (group Paren (at 4 5) (at 6 7) (leaf (ident (66 ∷ [])) (at 5 6) end) (punct 44 false (at 7 8) (group Paren (at 9 10) (at 10 11) end end))))) end)
    (group Paren call_site call_site (leaf (ident (65 ∷ [])) call_site (punct 44 false call_site (group Paren call_site call_site (leaf (ident (66 ∷ [])) call_site end) (punct 44 false call_site (group Paren call_site call_site end end))))) end)
    (end)
unfolding left is_end lookahead_at sees take_token take_lifetime take_mark take_group before rows_for rows run parse_rule
type_tuple = computed type _ _ _ refl

-- `!` prints `!`
type_never : DerivesAs type
    (punct 33 false (at 0 1) end)
    (punct 33 false call_site end)
    (end)
unfolding left is_end lookahead_at sees take_token take_lifetime take_mark take_group before rows_for rows run parse_rule
type_never = computed type _ _ _ refl

-- `<A as B<C>>::D` prints `< A as B < C > > :: D`
type_qualified : DerivesAs type
    (punct 60 false (at 0 1) (leaf (ident (65 ∷ [])) (at 1 2) (leaf (ident w_as) (at 3 5) (leaf (ident (66 ∷ [])) (at 6 7) (punct 60 false (at 7 8) (leaf (ident (67 ∷ [])) (at 8 9) (punct 62 true (at 9 10) (punct 62 true (at 10 11) (punct 58 true (at 11 12) (punct 58 false (at 12 13) (leaf (ident (68 ∷ [])) (at 13 14) end)))))))))))
    (punct 60 false call_site (leaf (ident (65 ∷ [])) call_site (leaf (ident w_as) call_site (leaf (ident (66 ∷ [])) call_site (punct 60 false call_site (leaf (ident (67 ∷ [])) call_site (punct 62 false call_site (punct 62 false call_site (punct 58 true call_site (punct 58 false call_site (leaf (ident (68 ∷ [])) call_site end)))))))))))
    (end)
unfolding left is_end lookahead_at sees take_token take_lifetime take_mark take_group before rows_for rows run parse_rule
type_qualified = computed type _ _ _ refl

-- `<A>`: nothing is read
type_qualified_alone : NotDerived (rule type)
    (punct 60 false (at 0 1) (leaf (ident (65 ∷ [])) (at 1 2) (punct 62 false (at 2 3) end)))
unfolding left is_end lookahead_at sees take_token take_lifetime take_mark take_group before rows_for rows run parse_rule
type_qualified_alone = not_read type _ refl

-- `(a b)`: nothing is read
type_no_comma : NotDerived (rule type)
    (group Paren (at 0 1) (at 4 5) (leaf (ident (97 ∷ [])) (at 1 2) (leaf (ident (98 ∷ [])) (at 3 4) end)) end)
unfolding left is_end lookahead_at sees take_token take_lifetime take_mark take_group before rows_for rows run parse_rule
type_no_comma = not_read type _ refl

-- `[]`: nothing is read
type_empty_brackets : NotDerived (rule type)
    (group Bracket (at 0 1) (at 1 2) end end)
unfolding left is_end lookahead_at sees take_token take_lifetime take_mark take_group before rows_for rows run parse_rule
type_empty_brackets = not_read type _ refl

-- `&'a 'b c`: nothing is read
type_two_lifetimes : NotDerived (rule type)
    (punct 38 true (at 0 1) (punct 39 true (at 1 2) (leaf (ident (97 ∷ [])) (at 2 3) (punct 39 true (at 4 5) (leaf (ident (98 ∷ [])) (at 5 6) (leaf (ident (99 ∷ [])) (at 7 8) end))))))
unfolding left is_end lookahead_at sees take_token take_lifetime take_mark take_group before rows_for rows run parse_rule
type_two_lifetimes = not_read type _ refl

-- `*mut &a *` prints `* mut & a` and leaves `*`
type_pointer_leaves_star : DerivesAs type
    (punct 42 false (at 0 1) (leaf (ident w_mut) (at 1 4) (punct 38 false (at 5 6) (leaf (ident (97 ∷ [])) (at 6 7) (punct 42 false (at 8 9) end)))))
    (punct 42 false call_site (leaf (ident w_mut) call_site (punct 38 false call_site (leaf (ident (97 ∷ [])) call_site end))))
    (punct 42 false (at 8 9) end)
unfolding left is_end lookahead_at sees take_token take_lifetime take_mark take_group before rows_for rows run parse_rule
type_pointer_leaves_star = computed type _ _ _ refl

-- `[()]` prints `[ ( ) ]`
type_slice : DerivesAs type
    (group Bracket (at 0 1) (at 3 4) (group Paren (at 1 2) (at 2 3) end end) end)
    (group Bracket call_site call_site (group Paren call_site call_site end end) end)
    (end)
unfolding left is_end lookahead_at sees take_token take_lifetime take_mark take_group before rows_for rows run parse_rule
type_slice = computed type _ _ _ refl

-- `{ a }`: nothing is read
type_braces : NotDerived (rule type)
    (group Brace (at 0 1) (at 4 5) (leaf (ident (97 ∷ [])) (at 2 3) end) end)
unfolding left is_end lookahead_at sees take_token take_lifetime take_mark take_group before rows_for rows run parse_rule
type_braces = not_read type _ refl

-- `*mut mut a`: nothing is read
type_pointer_mut_twice : NotDerived (rule type)
    (punct 42 false (at 0 1) (leaf (ident w_mut) (at 1 4) (leaf (ident w_mut) (at 5 8) (leaf (ident (97 ∷ [])) (at 9 10) end))))
unfolding left is_end lookahead_at sees take_token take_lifetime take_mark take_group before rows_for rows run parse_rule
type_pointer_mut_twice = not_read type _ refl

-- `&mut mut a`: nothing is read
type_reference_mut_twice : NotDerived (rule type)
    (punct 38 false (at 0 1) (leaf (ident w_mut) (at 1 4) (leaf (ident w_mut) (at 5 8) (leaf (ident (97 ∷ [])) (at 9 10) end))))
unfolding left is_end lookahead_at sees take_token take_lifetime take_mark take_group before rows_for rows run parse_rule
type_reference_mut_twice = not_read type _ refl

-- `[a b]`: nothing is read
type_slice_two_types : NotDerived (rule type)
    (group Bracket (at 0 1) (at 4 5) (leaf (ident (97 ∷ [])) (at 1 2) (leaf (ident (98 ∷ [])) (at 3 4) end)) end)
unfolding left is_end lookahead_at sees take_token take_lifetime take_mark take_group before rows_for rows run parse_rule
type_slice_two_types = not_read type _ refl

-- `&a &` prints `& a` and leaves `&`
type_reference_leaves_ampersand : DerivesAs type
    (punct 38 false (at 0 1) (leaf (ident (97 ∷ [])) (at 1 2) (punct 38 false (at 3 4) end)))
    (punct 38 false call_site (leaf (ident (97 ∷ [])) call_site end))
    (punct 38 false (at 3 4) end)
unfolding left is_end lookahead_at sees take_token take_lifetime take_mark take_group before rows_for rows run parse_rule
type_reference_leaves_ampersand = computed type _ _ _ refl

-- `&`: nothing is read
type_reference_alone : NotDerived (rule type)
    (punct 38 false (at 0 1) end)
unfolding left is_end lookahead_at sees take_token take_lifetime take_mark take_group before rows_for rows run parse_rule
type_reference_alone = not_read type _ refl

-- `!!` prints `!` and leaves `!`
type_never_leaves_never : DerivesAs type
    (punct 33 true (at 0 1) (punct 33 false (at 1 2) end))
    (punct 33 false call_site end)
    (punct 33 false (at 1 2) end)
unfolding left is_end lookahead_at sees take_token take_lifetime take_mark take_group before rows_for rows run parse_rule
type_never_leaves_never = computed type _ _ _ refl

-- `*a b`: nothing is read
type_pointer_no_word : NotDerived (rule type)
    (punct 42 false (at 0 1) (leaf (ident (97 ∷ [])) (at 1 2) (leaf (ident (98 ∷ [])) (at 3 4) end)))
unfolding left is_end lookahead_at sees take_token take_lifetime take_mark take_group before rows_for rows run parse_rule
type_pointer_no_word = not_read type _ refl

-- `[a;]`: nothing is read
type_array_no_length : NotDerived (rule type)
    (group Bracket (at 0 1) (at 3 4) (leaf (ident (97 ∷ [])) (at 1 2) (punct 59 false (at 2 3) end)) end)
unfolding left is_end lookahead_at sees take_token take_lifetime take_mark take_group before rows_for rows run parse_rule
type_array_no_length = not_read type _ refl

-- `*mut`: nothing is read
type_pointer_no_type : NotDerived (rule type)
    (punct 42 false (at 0 1) (leaf (ident w_mut) (at 1 4) end))
unfolding left is_end lookahead_at sees take_token take_lifetime take_mark take_group before rows_for rows run parse_rule
type_pointer_no_type = not_read type _ refl

-- `() ()` prints `( )` and leaves `()`
type_leaves_parentheses : DerivesAs type
    (group Paren (at 0 1) (at 1 2) end (group Paren (at 3 4) (at 4 5) end end))
    (group Paren call_site call_site end end)
    (group Paren (at 3 4) (at 4 5) end end)
unfolding left is_end lookahead_at sees take_token take_lifetime take_mark take_group before rows_for rows run parse_rule
type_leaves_parentheses = computed type _ _ _ refl

-- `[a, 1]`: nothing is read
type_array_comma : NotDerived (rule type)
    (group Bracket (at 0 1) (at 5 6) (leaf (ident (97 ∷ [])) (at 1 2) (punct 44 false (at 2 3) (leaf (literal Int (49 ∷ [])) (at 4 5) end))) end)
unfolding left is_end lookahead_at sees take_token take_lifetime take_mark take_group before rows_for rows run parse_rule
type_array_comma = not_read type _ refl

-- `[; 1 a]`: nothing is read
type_array_length_first : NotDerived (rule type)
    (group Bracket (at 0 1) (at 6 7) (punct 59 false (at 1 2) (leaf (literal Int (49 ∷ [])) (at 3 4) (leaf (ident (97 ∷ [])) (at 5 6) end))) end)
unfolding left is_end lookahead_at sees take_token take_lifetime take_mark take_group before rows_for rows run parse_rule
type_array_length_first = not_read type _ refl

-- `&a mut` prints `& a` and leaves `mut`
type_reference_leaves_mut : DerivesAs type
    (punct 38 false (at 0 1) (leaf (ident (97 ∷ [])) (at 1 2) (leaf (ident w_mut) (at 3 6) end)))
    (punct 38 false call_site (leaf (ident (97 ∷ [])) call_site end))
    (leaf (ident w_mut) (at 3 6) end)
unfolding left is_end lookahead_at sees take_token take_lifetime take_mark take_group before rows_for rows run parse_rule
type_reference_leaves_mut = computed type _ _ _ refl

-- `[a] [b]` prints `[ a ]` and leaves `[b]`
type_leaves_brackets : DerivesAs type
    (group Bracket (at 0 1) (at 2 3) (leaf (ident (97 ∷ [])) (at 1 2) end) (group Bracket (at 4 5) (at 6 7) (leaf (ident (98 ∷ [])) (at 5 6) end) end))
    (group Bracket call_site call_site (leaf (ident (97 ∷ [])) call_site end) end)
    (group Bracket (at 4 5) (at 6 7) (leaf (ident (98 ∷ [])) (at 5 6) end) end)
unfolding left is_end lookahead_at sees take_token take_lifetime take_mark take_group before rows_for rows run parse_rule
type_leaves_brackets = computed type _ _ _ refl

-- `[a;; 1]`: nothing is read
type_array_two_semicolons : NotDerived (rule type)
    (group Bracket (at 0 1) (at 6 7) (leaf (ident (97 ∷ [])) (at 1 2) (punct 59 true (at 2 3) (punct 59 false (at 3 4) (leaf (literal Int (49 ∷ [])) (at 5 6) end)))) end)
unfolding left is_end lookahead_at sees take_token take_lifetime take_mark take_group before rows_for rows run parse_rule
type_array_two_semicolons = not_read type _ refl

-- `[a; 1;]`: nothing is read
type_array_semicolon_after : NotDerived (rule type)
    (group Bracket (at 0 1) (at 6 7) (leaf (ident (97 ∷ [])) (at 1 2) (punct 59 false (at 2 3) (leaf (literal Int (49 ∷ [])) (at 4 5) (punct 59 false (at 5 6) end)))) end)
unfolding left is_end lookahead_at sees take_token take_lifetime take_mark take_group before rows_for rows run parse_rule
type_array_semicolon_after = not_read type _ refl

-- `[a; 1 1]`: nothing is read
type_array_two_numbers : NotDerived (rule type)
    (group Bracket (at 0 1) (at 7 8) (leaf (ident (97 ∷ [])) (at 1 2) (punct 59 false (at 2 3) (leaf (literal Int (49 ∷ [])) (at 4 5) (leaf (literal Int (49 ∷ [])) (at 6 7) end)))) end)
unfolding left is_end lookahead_at sees take_token take_lifetime take_mark take_group before rows_for rows run parse_rule
type_array_two_numbers = not_read type _ refl

-- `[a; 1; 1]`: nothing is read
type_array_two_lengths : NotDerived (rule type)
    (group Bracket (at 0 1) (at 8 9) (leaf (ident (97 ∷ [])) (at 1 2) (punct 59 false (at 2 3) (leaf (literal Int (49 ∷ [])) (at 4 5) (punct 59 false (at 5 6) (leaf (literal Int (49 ∷ [])) (at 7 8) end))))) end)
unfolding left is_end lookahead_at sees take_token take_lifetime take_mark take_group before rows_for rows run parse_rule
type_array_two_lengths = not_read type _ refl

-- `*mut a mut` prints `* mut a` and leaves `mut`
type_pointer_leaves_mut : DerivesAs type
    (punct 42 false (at 0 1) (leaf (ident w_mut) (at 1 4) (leaf (ident (97 ∷ [])) (at 5 6) (leaf (ident w_mut) (at 7 10) end))))
    (punct 42 false call_site (leaf (ident w_mut) call_site (leaf (ident (97 ∷ [])) call_site end)))
    (leaf (ident w_mut) (at 7 10) end)
unfolding left is_end lookahead_at sees take_token take_lifetime take_mark take_group before rows_for rows run parse_rule
type_pointer_leaves_mut = computed type _ _ _ refl

-- `\(a\)` prints `\( a \)`
type_invisible : DerivesAs type
    (group None (at 0 2) (at 3 5) (leaf (ident (97 ∷ [])) (at 2 3) end) end)
    (group None call_site call_site (leaf (ident (97 ∷ [])) call_site end) end)
    (end)
unfolding left is_end lookahead_at sees take_token take_lifetime take_mark take_group before rows_for rows run parse_rule
type_invisible = computed type _ _ _ refl

-- `\((a, b)\)` prints `\( ( a , b ) \)`
type_invisible_tuple : DerivesAs type
    (group None (at 0 2) (at 8 10) (group Paren (at 2 3) (at 7 8) (leaf (ident (97 ∷ [])) (at 3 4) (punct 44 false (at 4 5) (leaf (ident (98 ∷ [])) (at 6 7) end))) end) end)
    (group None call_site call_site (group Paren call_site call_site (leaf (ident (97 ∷ [])) call_site (punct 44 false call_site (leaf (ident (98 ∷ [])) call_site end))) end) end)
    (end)
unfolding left is_end lookahead_at sees take_token take_lifetime take_mark take_group before rows_for rows run parse_rule
type_invisible_tuple = computed type _ _ _ refl

-- `\(\(a\)\)` prints `\( \( a \) \)`
type_invisible_twice : DerivesAs type
    (group None (at 0 2) (at 7 9) (group None (at 2 4) (at 5 7) (leaf (ident (97 ∷ [])) (at 4 5) end) end) end)
    (group None call_site call_site (group None call_site call_site (leaf (ident (97 ∷ [])) call_site end) end) end)
    (end)
unfolding left is_end lookahead_at sees take_token take_lifetime take_mark take_group before rows_for rows run parse_rule
type_invisible_twice = computed type _ _ _ refl

-- `&\(a\)` prints `& \( a \)`
type_invisible_reference : DerivesAs type
    (punct 38 false (at 0 1) (group None (at 1 3) (at 4 6) (leaf (ident (97 ∷ [])) (at 3 4) end) end))
    (punct 38 false call_site (group None call_site call_site (leaf (ident (97 ∷ [])) call_site end) end))
    (end)
unfolding left is_end lookahead_at sees take_token take_lifetime take_mark take_group before rows_for rows run parse_rule
type_invisible_reference = computed type _ _ _ refl

-- `(\(a\), b)` prints `( \( a \) , b )`
type_invisible_in_parentheses : DerivesAs type
    (group Paren (at 0 1) (at 9 10) (group None (at 1 3) (at 4 6) (leaf (ident (97 ∷ [])) (at 3 4) end) (punct 44 false (at 6 7) (leaf (ident (98 ∷ [])) (at 8 9) end))) end)
    (group Paren call_site call_site (group None call_site call_site (leaf (ident (97 ∷ [])) call_site end) (punct 44 false call_site (leaf (ident (98 ∷ [])) call_site end))) end)
    (end)
unfolding left is_end lookahead_at sees take_token take_lifetime take_mark take_group before rows_for rows run parse_rule
type_invisible_in_parentheses = computed type _ _ _ refl

-- `\(a\) \(b\)` prints `\( a \)` and leaves `\(b\)`
type_invisible_leaves_invisible : DerivesAs type
    (group None (at 0 2) (at 3 5) (leaf (ident (97 ∷ [])) (at 2 3) end) (group None (at 6 8) (at 9 11) (leaf (ident (98 ∷ [])) (at 8 9) end) end))
    (group None call_site call_site (leaf (ident (97 ∷ [])) call_site end) end)
    (group None (at 6 8) (at 9 11) (leaf (ident (98 ∷ [])) (at 8 9) end) end)
unfolding left is_end lookahead_at sees take_token take_lifetime take_mark take_group before rows_for rows run parse_rule
type_invisible_leaves_invisible = computed type _ _ _ refl

-- `\(a\)::b` prints `\( a \)` and leaves `::b`
type_invisible_leaves_path : DerivesAs type
    (group None (at 0 2) (at 3 5) (leaf (ident (97 ∷ [])) (at 2 3) end) (punct 58 true (at 5 6) (punct 58 false (at 6 7) (leaf (ident (98 ∷ [])) (at 7 8) end))))
    (group None call_site call_site (leaf (ident (97 ∷ [])) call_site end) end)
    (punct 58 true (at 5 6) (punct 58 false (at 6 7) (leaf (ident (98 ∷ [])) (at 7 8) end)))
unfolding left is_end lookahead_at sees take_token take_lifetime take_mark take_group before rows_for rows run parse_rule
type_invisible_leaves_path = computed type _ _ _ refl

-- `\(\)`: nothing is read
type_invisible_empty : NotDerived (rule type)
    (group None (at 0 2) (at 2 4) end end)
unfolding left is_end lookahead_at sees take_token take_lifetime take_mark take_group before rows_for rows run parse_rule
type_invisible_empty = not_read type _ refl

-- `\(a b\)`: nothing is read
type_invisible_two_types : NotDerived (rule type)
    (group None (at 0 2) (at 5 7) (leaf (ident (97 ∷ [])) (at 2 3) (leaf (ident (98 ∷ [])) (at 4 5) end)) end)
unfolding left is_end lookahead_at sees take_token take_lifetime take_mark take_group before rows_for rows run parse_rule
type_invisible_two_types = not_read type _ refl

-- `\(a,\)`: nothing is read
type_invisible_comma : NotDerived (rule type)
    (group None (at 0 2) (at 4 6) (leaf (ident (97 ∷ [])) (at 2 3) (punct 44 false (at 3 4) end)) end)
unfolding left is_end lookahead_at sees take_token take_lifetime take_mark take_group before rows_for rows run parse_rule
type_invisible_comma = not_read type _ refl

-- `\(1\)`: nothing is read
type_invisible_literal : NotDerived (rule type)
    (group None (at 0 2) (at 3 5) (leaf (literal Int (49 ∷ [])) (at 2 3) end) end)
unfolding left is_end lookahead_at sees take_token take_lifetime take_mark take_group before rows_for rows run parse_rule
type_invisible_literal = not_read type _ refl

-- `a::\(b\)`: nothing is read
type_invisible_word : NotDerived (rule type)
    (leaf (ident (97 ∷ [])) (at 0 1) (punct 58 true (at 1 2) (punct 58 false (at 2 3) (group None (at 3 5) (at 6 8) (leaf (ident (98 ∷ [])) (at 5 6) end) end))))
unfolding left is_end lookahead_at sees take_token take_lifetime take_mark take_group before rows_for rows run parse_rule
type_invisible_word = not_read type _ refl

-- `&const a`: nothing is read
type_reference_const : NotDerived (rule type)
    (punct 38 false (at 0 1) (leaf (ident w_const) (at 1 6) (leaf (ident (97 ∷ [])) (at 7 8) end)))
unfolding left is_end lookahead_at sees take_token take_lifetime take_mark take_group before rows_for rows run parse_rule
type_reference_const = not_read type _ refl

-- `&a 'b` prints `& a` and leaves `'b`
type_reference_leaves_lifetime : DerivesAs type
    (punct 38 false (at 0 1) (leaf (ident (97 ∷ [])) (at 1 2) (punct 39 true (at 3 4) (leaf (ident (98 ∷ [])) (at 4 5) end))))
    (punct 38 false call_site (leaf (ident (97 ∷ [])) call_site end))
    (punct 39 true (at 3 4) (leaf (ident (98 ∷ [])) (at 4 5) end))
unfolding left is_end lookahead_at sees take_token take_lifetime take_mark take_group before rows_for rows run parse_rule
type_reference_leaves_lifetime = computed type _ _ _ refl

-- `*const *a`: nothing is read
type_pointer_inner_alone : NotDerived (rule type)
    (punct 42 false (at 0 1) (leaf (ident w_const) (at 1 6) (punct 42 false (at 7 8) (leaf (ident (97 ∷ [])) (at 8 9) end))))
unfolding left is_end lookahead_at sees take_token take_lifetime take_mark take_group before rows_for rows run parse_rule
type_pointer_inner_alone = not_read type _ refl

-- `**const a`: nothing is read
type_pointer_two_stars : NotDerived (rule type)
    (punct 42 true (at 0 1) (punct 42 false (at 1 2) (leaf (ident w_const) (at 2 7) (leaf (ident (97 ∷ [])) (at 8 9) end))))
unfolding left is_end lookahead_at sees take_token take_lifetime take_mark take_group before rows_for rows run parse_rule
type_pointer_two_stars = not_read type _ refl

-- `<a>::self <b>::c` prints `< a > :: self` and leaves `<b>::c`
type_qualified_leaves_less : DerivesAs type
    (punct 60 false (at 0 1) (leaf (ident (97 ∷ [])) (at 1 2) (punct 62 true (at 2 3) (punct 58 true (at 3 4) (punct 58 false (at 4 5) (leaf (ident w_self) (at 5 9) (punct 60 false (at 10 11) (leaf (ident (98 ∷ [])) (at 11 12) (punct 62 true (at 12 13) (punct 58 true (at 13 14) (punct 58 false (at 14 15) (leaf (ident (99 ∷ [])) (at 15 16) end))))))))))))
    (punct 60 false call_site (leaf (ident (97 ∷ [])) call_site (punct 62 false call_site (punct 58 true call_site (punct 58 false call_site (leaf (ident w_self) call_site end))))))
    (punct 60 false (at 10 11) (leaf (ident (98 ∷ [])) (at 11 12) (punct 62 true (at 12 13) (punct 58 true (at 13 14) (punct 58 false (at 14 15) (leaf (ident (99 ∷ [])) (at 15 16) end))))))
unfolding left is_end lookahead_at sees take_token take_lifetime take_mark take_group before rows_for rows run parse_rule
type_qualified_leaves_less = computed type _ _ _ refl

-- `*const const a`: nothing is read
type_pointer_const_twice : NotDerived (rule type)
    (punct 42 false (at 0 1) (leaf (ident w_const) (at 1 6) (leaf (ident w_const) (at 7 12) (leaf (ident (97 ∷ [])) (at 13 14) end))))
unfolding left is_end lookahead_at sees take_token take_lifetime take_mark take_group before rows_for rows run parse_rule
type_pointer_const_twice = not_read type _ refl

-- `*a const b`: nothing is read
type_pointer_const_after : NotDerived (rule type)
    (punct 42 false (at 0 1) (leaf (ident (97 ∷ [])) (at 1 2) (leaf (ident w_const) (at 3 8) (leaf (ident (98 ∷ [])) (at 9 10) end))))
unfolding left is_end lookahead_at sees take_token take_lifetime take_mark take_group before rows_for rows run parse_rule
type_pointer_const_after = not_read type _ refl

-- `A, B,` prints `A , B ,`
types_two : DerivesAs types
    (leaf (ident (65 ∷ [])) (at 0 1) (punct 44 false (at 1 2) (leaf (ident (66 ∷ [])) (at 3 4) (punct 44 false (at 4 5) end))))
    (leaf (ident (65 ∷ [])) call_site (punct 44 false call_site (leaf (ident (66 ∷ [])) call_site (punct 44 false call_site end))))
    (end)
unfolding left is_end lookahead_at sees take_token take_lifetime take_mark take_group before rows_for rows run parse_rule
types_two = computed types _ _ _ refl

-- `(a) <` prints `( a )` and leaves `<`
types_leave_less : DerivesAs types
    (group Paren (at 0 1) (at 2 3) (leaf (ident (97 ∷ [])) (at 1 2) end) (punct 60 false (at 4 5) end))
    (group Paren call_site call_site (leaf (ident (97 ∷ [])) call_site end) end)
    (punct 60 false (at 4 5) end)
unfolding left is_end lookahead_at sees take_token take_lifetime take_mark take_group before rows_for rows run parse_rule
types_leave_less = computed types _ _ _ refl

-- `, a b`: nothing is read
types_comma_first : NotDerived (rule types)
    (punct 44 false (at 0 1) (leaf (ident (97 ∷ [])) (at 2 3) (leaf (ident (98 ∷ [])) (at 4 5) end)))
unfolding left is_end lookahead_at sees take_token take_lifetime take_mark take_group before rows_for rows run parse_rule
types_comma_first = not_read types _ refl

-- `a;` prints `a` and leaves `;`
types_semicolon : DerivesAs types
    (leaf (ident (97 ∷ [])) (at 0 1) (punct 59 false (at 1 2) end))
    (leaf (ident (97 ∷ [])) call_site end)
    (punct 59 false (at 1 2) end)
unfolding left is_end lookahead_at sees take_token take_lifetime take_mark take_group before rows_for rows run parse_rule
types_semicolon = computed types _ _ _ refl

-- `a, b>` prints `a , b` and leaves `>`
types_leave_greater : DerivesAs types
    (leaf (ident (97 ∷ [])) (at 0 1) (punct 44 false (at 1 2) (leaf (ident (98 ∷ [])) (at 3 4) (punct 62 false (at 4 5) end))))
    (leaf (ident (97 ∷ [])) call_site (punct 44 false call_site (leaf (ident (98 ∷ [])) call_site end)))
    (punct 62 false (at 4 5) end)
unfolding left is_end lookahead_at sees take_token take_lifetime take_mark take_group before rows_for rows run parse_rule
types_leave_greater = computed types _ _ _ refl

-- `a,,`: nothing is read
types_two_commas : NotDerived (rule types)
    (leaf (ident (97 ∷ [])) (at 0 1) (punct 44 true (at 1 2) (punct 44 false (at 2 3) end)))
unfolding left is_end lookahead_at sees take_token take_lifetime take_mark take_group before rows_for rows run parse_rule
types_two_commas = not_read types _ refl

-- `7u8` prints `7u8`
constant_literal : DerivesAs constant
    (leaf (literal Int (55 ∷ 117 ∷ 56 ∷ [])) (at 0 3) end)
    (leaf (literal Int (55 ∷ 117 ∷ 56 ∷ [])) call_site end)
    (end)
unfolding left is_end lookahead_at sees take_token take_lifetime take_mark take_group before rows_for rows run parse_rule
constant_literal = computed constant _ _ _ refl

-- `a`: nothing is read
constant_name : NotDerived (rule constant)
    (leaf (ident (97 ∷ [])) (at 0 1) end)
unfolding left is_end lookahead_at sees take_token take_lifetime take_mark take_group before rows_for rows run parse_rule
constant_name = not_read constant _ refl

-- `1 1` prints `1` and leaves `1`
constant_leaves_number : DerivesAs constant
    (leaf (literal Int (49 ∷ [])) (at 0 1) (leaf (literal Int (49 ∷ [])) (at 2 3) end))
    (leaf (literal Int (49 ∷ [])) call_site end)
    (leaf (literal Int (49 ∷ [])) (at 2 3) end)
unfolding left is_end lookahead_at sees take_token take_lifetime take_mark take_group before rows_for rows run parse_rule
constant_leaves_number = computed constant _ _ _ refl

-- `true true` prints `true` and leaves `true`
constant_leaves_true : DerivesAs constant
    (leaf (ident w_true) (at 0 4) (leaf (ident w_true) (at 5 9) end))
    (leaf (ident w_true) call_site end)
    (leaf (ident w_true) (at 5 9) end)
unfolding left is_end lookahead_at sees take_token take_lifetime take_mark take_group before rows_for rows run parse_rule
constant_leaves_true = computed constant _ _ _ refl

-- `false false` prints `false` and leaves `false`
constant_leaves_false : DerivesAs constant
    (leaf (ident w_false) (at 0 5) (leaf (ident w_false) (at 6 11) end))
    (leaf (ident w_false) call_site end)
    (leaf (ident w_false) (at 6 11) end)
unfolding left is_end lookahead_at sees take_token take_lifetime take_mark take_group before rows_for rows run parse_rule
constant_leaves_false = computed constant _ _ _ refl

-- `1 #` prints `1` and leaves `#`
constant_leaves_pound : DerivesAs constant
    (leaf (literal Int (49 ∷ [])) (at 0 1) (punct 35 false (at 2 3) end))
    (leaf (literal Int (49 ∷ [])) call_site end)
    (punct 35 false (at 2 3) end)
unfolding left is_end lookahead_at sees take_token take_lifetime take_mark take_group before rows_for rows run parse_rule
constant_leaves_pound = computed constant _ _ _ refl

-- `{}.a` prints `{}` and leaves `.a`
constant_leaves_point : DerivesAs constant
    (group Brace (at 0 1) (at 1 2) end (punct 46 false (at 2 3) (leaf (ident (97 ∷ [])) (at 3 4) end)))
    (group Brace call_site call_site end end)
    (punct 46 false (at 2 3) (leaf (ident (97 ∷ [])) (at 3 4) end))
unfolding left is_end lookahead_at sees take_token take_lifetime take_mark take_group before rows_for rows run parse_rule
constant_leaves_point = computed constant _ _ _ refl

-- `{} {}` prints `{}` and leaves `{}`
constant_leaves_braces : DerivesAs constant
    (group Brace (at 0 1) (at 1 2) end (group Brace (at 3 4) (at 4 5) end end))
    (group Brace call_site call_site end end)
    (group Brace (at 3 4) (at 4 5) end end)
unfolding left is_end lookahead_at sees take_token take_lifetime take_mark take_group before rows_for rows run parse_rule
constant_leaves_braces = computed constant _ _ _ refl

-- `#[a] 1`: nothing is read
constant_attribute : NotDerived (rule constant)
    (punct 35 false (at 0 1) (group Bracket (at 1 2) (at 3 4) (leaf (ident (97 ∷ [])) (at 2 3) end) (leaf (literal Int (49 ∷ [])) (at 5 6) end)))
unfolding left is_end lookahead_at sees take_token take_lifetime take_mark take_group before rows_for rows run parse_rule
constant_attribute = not_read constant _ refl

-- `\(1\)`: nothing is read
constant_invisible : NotDerived (rule constant)
    (group None (at 0 2) (at 3 5) (leaf (literal Int (49 ∷ [])) (at 2 3) end) end)
unfolding left is_end lookahead_at sees take_token take_lifetime take_mark take_group before rows_for rows run parse_rule
constant_invisible = not_read constant _ refl

-- `-1`: nothing is read
constant_minus : NotDerived (rule constant)
    (punct 45 false (at 0 1) (leaf (literal Int (49 ∷ [])) (at 1 2) end))
unfolding left is_end lookahead_at sees take_token take_lifetime take_mark take_group before rows_for rows run parse_rule
constant_minus = not_read constant _ refl

-- `{a; b}` prints `{ a; b }`
constant_block : DerivesAs constant
    (group Brace (at 0 1) (at 5 6) (leaf (ident (97 ∷ [])) (at 1 2) (punct 59 false (at 2 3) (leaf (ident (98 ∷ [])) (at 4 5) end))) end)
    (group Brace call_site call_site (leaf (ident (97 ∷ [])) call_site (punct 59 false call_site (leaf (ident (98 ∷ [])) call_site end))) end)
    (end)
unfolding left is_end lookahead_at sees take_token take_lifetime take_mark take_group before rows_for rows run parse_rule
constant_block = computed constant _ _ _ refl

-- `{#![a]}`: nothing is read
constant_block_inner : NotDerived (rule constant)
    (group Brace (at 0 1) (at 6 7) (punct 35 true (at 1 2) (punct 33 false (at 2 3) (group Bracket (at 3 4) (at 5 6) (leaf (ident (97 ∷ [])) (at 4 5) end) end))) end)
unfolding left is_end lookahead_at sees take_token take_lifetime take_mark take_group before rows_for rows run parse_rule
constant_block_inner = not_read constant _ refl

-- `{fn}`: nothing is read
constant_block_item : NotDerived (rule constant)
    (group Brace (at 0 1) (at 3 4) (leaf (ident w_fn) (at 1 3) end) end)
unfolding left is_end lookahead_at sees take_token take_lifetime take_mark take_group before rows_for rows run parse_rule
constant_block_item = not_read constant _ refl

-- `'a: {}`: nothing is read
constant_label : NotDerived (rule constant)
    (punct 39 true (at 0 1) (leaf (ident (97 ∷ [])) (at 1 2) (punct 58 false (at 2 3) (group Brace (at 4 5) (at 5 6) end end))))
unfolding left is_end lookahead_at sees take_token take_lifetime take_mark take_group before rows_for rows run parse_rule
constant_label = not_read constant _ refl

-- `unsafe {}`: nothing is read
constant_unsafe : NotDerived (rule constant)
    (leaf (ident w_unsafe) (at 0 6) (group Brace (at 7 8) (at 8 9) end end))
unfolding left is_end lookahead_at sees take_token take_lifetime take_mark take_group before rows_for rows run parse_rule
constant_unsafe = not_read constant _ refl

-- `(1)`: nothing is read
constant_parens : NotDerived (rule constant)
    (group Paren (at 0 1) (at 2 3) (leaf (literal Int (49 ∷ [])) (at 1 2) end) end)
unfolding left is_end lookahead_at sees take_token take_lifetime take_mark take_group before rows_for rows run parse_rule
constant_parens = not_read constant _ refl
