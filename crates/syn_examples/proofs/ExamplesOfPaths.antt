-- Written by tools/grammar.py from specs/Table.antt; edits are lost.
-- Worked examples of paths in module style and visibilities, from tools/examples.txt: what each rule reads, prints and refuses. The checker computes each.
use Rattle.std.proofs.Common.{true, false, [], ◌∷◌, refl}
use Rattle.syn_grammar.specs.Words.{w_underscore, w_crate, w_fn, w_in, w_pub, w_Self_type, w_self, w_super, w_union, w_auto, w_default, w_safe}
use Rattle.syn_grammar.specs.Tokens.{call_site, Paren, Brace, Bracket, None, Int, ident, literal, end, leaf, punct, group}
use Rattle.syn_grammar.specs.Rules.{module_path, module_words, visibility, restriction}
use Rattle.syn_grammar.specs.Grammar.{rule}
use Rattle.syn_grammar.specs.Take.{left, is_end, lookahead_at, sees, take_token, take_lifetime, take_mark, take_group, before}
use Rattle.syn_grammar.specs.Run.{rows_for, rows, run, parse_rule}
use Rattle.syn_grammar.specs.Promises.{Refused, NotDerived}
use Rattle.syn_grammar.proofs.Means.{not_derived}
use Rattle.syn_grammar.proofs.Shown.{at, DerivesAs, computed, not_read}

-- `a` prints `a`
path_word : DerivesAs module_path
    (leaf (ident (97 ∷ [])) (at 0 1) end)
    (leaf (ident (97 ∷ [])) call_site end)
    (end)
unfolding left is_end lookahead_at sees take_token take_lifetime take_mark take_group before rows_for rows run parse_rule
path_word = computed module_path _ _ _ refl

-- `self::Self::super::crate` prints `self :: Self :: super :: crate`
path_keywords : DerivesAs module_path
    (leaf (ident w_self) (at 0 4) (punct 58 true (at 4 5) (punct 58 false (at 5 6) (leaf (ident w_Self_type) (at 6 10) (punct 58 true (at 10 11) (punct 58 false (at 11 12) (leaf (ident w_super) (at 12 17) (punct 58 true (at 17 18) (punct 58 false (at 18 19) (leaf (ident w_crate) (at 19 24) end))))))))))
    (leaf (ident w_self) call_site (punct 58 true call_site (punct 58 false call_site (leaf (ident w_Self_type) call_site (punct 58 true call_site (punct 58 false call_site (leaf (ident w_super) call_site (punct 58 true call_site (punct 58 false call_site (leaf (ident w_crate) call_site end))))))))))
    (end)
unfolding left is_end lookahead_at sees take_token take_lifetime take_mark take_group before rows_for rows run parse_rule
path_keywords = computed module_path _ _ _ refl

-- `::a::b` prints `:: a :: b`
path_rooted : DerivesAs module_path
    (punct 58 true (at 0 1) (punct 58 false (at 1 2) (leaf (ident (97 ∷ [])) (at 2 3) (punct 58 true (at 3 4) (punct 58 false (at 4 5) (leaf (ident (98 ∷ [])) (at 5 6) end))))))
    (punct 58 true call_site (punct 58 false call_site (leaf (ident (97 ∷ [])) call_site (punct 58 true call_site (punct 58 false call_site (leaf (ident (98 ∷ [])) call_site end))))))
    (end)
unfolding left is_end lookahead_at sees take_token take_lifetime take_mark take_group before rows_for rows run parse_rule
path_rooted = computed module_path _ _ _ refl

-- `union::auto` prints `union :: auto`
path_contextual : DerivesAs module_path
    (leaf (ident w_union) (at 0 5) (punct 58 true (at 5 6) (punct 58 false (at 6 7) (leaf (ident w_auto) (at 7 11) end))))
    (leaf (ident w_union) call_site (punct 58 true call_site (punct 58 false call_site (leaf (ident w_auto) call_site end))))
    (end)
unfolding left is_end lookahead_at sees take_token take_lifetime take_mark take_group before rows_for rows run parse_rule
path_contextual = computed module_path _ _ _ refl

-- `a : : b` prints `a` and leaves `: : b`
path_split_colons : DerivesAs module_path
    (leaf (ident (97 ∷ [])) (at 0 1) (punct 58 false (at 2 3) (punct 58 false (at 4 5) (leaf (ident (98 ∷ [])) (at 6 7) end))))
    (leaf (ident (97 ∷ [])) call_site end)
    (punct 58 false (at 2 3) (punct 58 false (at 4 5) (leaf (ident (98 ∷ [])) (at 6 7) end)))
unfolding left is_end lookahead_at sees take_token take_lifetime take_mark take_group before rows_for rows run parse_rule
path_split_colons = computed module_path _ _ _ refl

-- `a<b>` prints `a` and leaves `<b>`
path_leaves_arguments : DerivesAs module_path
    (leaf (ident (97 ∷ [])) (at 0 1) (punct 60 false (at 1 2) (leaf (ident (98 ∷ [])) (at 2 3) (punct 62 false (at 3 4) end))))
    (leaf (ident (97 ∷ [])) call_site end)
    (punct 60 false (at 1 2) (leaf (ident (98 ∷ [])) (at 2 3) (punct 62 false (at 3 4) end)))
unfolding left is_end lookahead_at sees take_token take_lifetime take_mark take_group before rows_for rows run parse_rule
path_leaves_arguments = computed module_path _ _ _ refl

-- `a::fn`: nothing is read
path_of_keyword : NotDerived (rule module_path)
    (leaf (ident (97 ∷ [])) (at 0 1) (punct 58 true (at 1 2) (punct 58 false (at 2 3) (leaf (ident w_fn) (at 3 5) end))))
unfolding left is_end lookahead_at sees take_token take_lifetime take_mark take_group before rows_for rows run parse_rule
path_of_keyword = not_read module_path _ refl

-- `a::`: nothing is read
path_ends_with_colons : NotDerived (rule module_path)
    (leaf (ident (97 ∷ [])) (at 0 1) (punct 58 true (at 1 2) (punct 58 false (at 2 3) end)))
unfolding left is_end lookahead_at sees take_token take_lifetime take_mark take_group before rows_for rows run parse_rule
path_ends_with_colons = not_read module_path _ refl

-- `_`: nothing is read
path_underscore : NotDerived (rule module_path)
    (leaf (ident w_underscore) (at 0 1) end)
unfolding left is_end lookahead_at sees take_token take_lifetime take_mark take_group before rows_for rows run parse_rule
path_underscore = not_read module_path _ refl

-- no tokens: nothing is read
path_empty : NotDerived (rule module_path)
    (end)
unfolding left is_end lookahead_at sees take_token take_lifetime take_mark take_group before rows_for rows run parse_rule
path_empty = not_read module_path _ refl

-- `::::a`: nothing is read
path_rooted_twice : NotDerived (rule module_path)
    (punct 58 true (at 0 1) (punct 58 true (at 1 2) (punct 58 true (at 2 3) (punct 58 false (at 3 4) (leaf (ident (97 ∷ [])) (at 4 5) end)))))
unfolding left is_end lookahead_at sees take_token take_lifetime take_mark take_group before rows_for rows run parse_rule
path_rooted_twice = not_read module_path _ refl

-- `:a`: nothing is read
path_one_colon : NotDerived (rule module_path)
    (punct 58 false (at 0 1) (leaf (ident (97 ∷ [])) (at 1 2) end))
unfolding left is_end lookahead_at sees take_token take_lifetime take_mark take_group before rows_for rows run parse_rule
path_one_colon = not_read module_path _ refl

-- `.a`: nothing is read
path_dot : NotDerived (rule module_path)
    (punct 46 false (at 0 1) (leaf (ident (97 ∷ [])) (at 1 2) end))
unfolding left is_end lookahead_at sees take_token take_lifetime take_mark take_group before rows_for rows run parse_rule
path_dot = not_read module_path _ refl

-- `a b` prints `a` and leaves `b`
path_leaves_word : DerivesAs module_path
    (leaf (ident (97 ∷ [])) (at 0 1) (leaf (ident (98 ∷ [])) (at 2 3) end))
    (leaf (ident (97 ∷ [])) call_site end)
    (leaf (ident (98 ∷ [])) (at 2 3) end)
unfolding left is_end lookahead_at sees take_token take_lifetime take_mark take_group before rows_for rows run parse_rule
path_leaves_word = computed module_path _ _ _ refl

-- `a.b` prints `a` and leaves `.b`
path_leaves_dot : DerivesAs module_path
    (leaf (ident (97 ∷ [])) (at 0 1) (punct 46 false (at 1 2) (leaf (ident (98 ∷ [])) (at 2 3) end)))
    (leaf (ident (97 ∷ [])) call_site end)
    (punct 46 false (at 1 2) (leaf (ident (98 ∷ [])) (at 2 3) end))
unfolding left is_end lookahead_at sees take_token take_lifetime take_mark take_group before rows_for rows run parse_rule
path_leaves_dot = computed module_path _ _ _ refl

-- `a!` prints `a` and leaves `!`
path_leaves_bang : DerivesAs module_path
    (leaf (ident (97 ∷ [])) (at 0 1) (punct 33 false (at 1 2) end))
    (leaf (ident (97 ∷ [])) call_site end)
    (punct 33 false (at 1 2) end)
unfolding left is_end lookahead_at sees take_token take_lifetime take_mark take_group before rows_for rows run parse_rule
path_leaves_bang = computed module_path _ _ _ refl

-- `a::(b)`: nothing is read
path_group_after : NotDerived (rule module_path)
    (leaf (ident (97 ∷ [])) (at 0 1) (punct 58 true (at 1 2) (punct 58 false (at 2 3) (group Paren (at 3 4) (at 5 6) (leaf (ident (98 ∷ [])) (at 4 5) end) end))))
unfolding left is_end lookahead_at sees take_token take_lifetime take_mark take_group before rows_for rows run parse_rule
path_group_after = not_read module_path _ refl

-- `a::b::c` prints `a :: b :: c`
words_three : DerivesAs module_words
    (leaf (ident (97 ∷ [])) (at 0 1) (punct 58 true (at 1 2) (punct 58 false (at 2 3) (leaf (ident (98 ∷ [])) (at 3 4) (punct 58 true (at 4 5) (punct 58 false (at 5 6) (leaf (ident (99 ∷ [])) (at 6 7) end)))))))
    (leaf (ident (97 ∷ [])) call_site (punct 58 true call_site (punct 58 false call_site (leaf (ident (98 ∷ [])) call_site (punct 58 true call_site (punct 58 false call_site (leaf (ident (99 ∷ [])) call_site end)))))))
    (end)
unfolding left is_end lookahead_at sees take_token take_lifetime take_mark take_group before rows_for rows run parse_rule
words_three = computed module_words _ _ _ refl

-- `::a`: nothing is read
words_rooted : NotDerived (rule module_words)
    (punct 58 true (at 0 1) (punct 58 false (at 1 2) (leaf (ident (97 ∷ [])) (at 2 3) end)))
unfolding left is_end lookahead_at sees take_token take_lifetime take_mark take_group before rows_for rows run parse_rule
words_rooted = not_read module_words _ refl

-- `a:::b`: nothing is read
words_three_colons : NotDerived (rule module_words)
    (leaf (ident (97 ∷ [])) (at 0 1) (punct 58 true (at 1 2) (punct 58 true (at 2 3) (punct 58 false (at 3 4) (leaf (ident (98 ∷ [])) (at 4 5) end)))))
unfolding left is_end lookahead_at sees take_token take_lifetime take_mark take_group before rows_for rows run parse_rule
words_three_colons = not_read module_words _ refl

-- `self::Self::super::crate` prints `self :: Self :: super :: crate`
words_every : DerivesAs module_words
    (leaf (ident w_self) (at 0 4) (punct 58 true (at 4 5) (punct 58 false (at 5 6) (leaf (ident w_Self_type) (at 6 10) (punct 58 true (at 10 11) (punct 58 false (at 11 12) (leaf (ident w_super) (at 12 17) (punct 58 true (at 17 18) (punct 58 false (at 18 19) (leaf (ident w_crate) (at 19 24) end))))))))))
    (leaf (ident w_self) call_site (punct 58 true call_site (punct 58 false call_site (leaf (ident w_Self_type) call_site (punct 58 true call_site (punct 58 false call_site (leaf (ident w_super) call_site (punct 58 true call_site (punct 58 false call_site (leaf (ident w_crate) call_site end))))))))))
    (end)
unfolding left is_end lookahead_at sees take_token take_lifetime take_mark take_group before rows_for rows run parse_rule
words_every = computed module_words _ _ _ refl

-- `union::auto::default::safe` prints `union :: auto :: default :: safe`
words_contextual : DerivesAs module_words
    (leaf (ident w_union) (at 0 5) (punct 58 true (at 5 6) (punct 58 false (at 6 7) (leaf (ident w_auto) (at 7 11) (punct 58 true (at 11 12) (punct 58 false (at 12 13) (leaf (ident w_default) (at 13 20) (punct 58 true (at 20 21) (punct 58 false (at 21 22) (leaf (ident w_safe) (at 22 26) end))))))))))
    (leaf (ident w_union) call_site (punct 58 true call_site (punct 58 false call_site (leaf (ident w_auto) call_site (punct 58 true call_site (punct 58 false call_site (leaf (ident w_default) call_site (punct 58 true call_site (punct 58 false call_site (leaf (ident w_safe) call_site end))))))))))
    (end)
unfolding left is_end lookahead_at sees take_token take_lifetime take_mark take_group before rows_for rows run parse_rule
words_contextual = computed module_words _ _ _ refl

-- `a::::b`: nothing is read
words_two_colons : NotDerived (rule module_words)
    (leaf (ident (97 ∷ [])) (at 0 1) (punct 58 true (at 1 2) (punct 58 true (at 2 3) (punct 58 true (at 3 4) (punct 58 false (at 4 5) (leaf (ident (98 ∷ [])) (at 5 6) end))))))
unfolding left is_end lookahead_at sees take_token take_lifetime take_mark take_group before rows_for rows run parse_rule
words_two_colons = not_read module_words _ refl

-- `a b` prints `a` and leaves `b`
words_leave_word : DerivesAs module_words
    (leaf (ident (97 ∷ [])) (at 0 1) (leaf (ident (98 ∷ [])) (at 2 3) end))
    (leaf (ident (97 ∷ [])) call_site end)
    (leaf (ident (98 ∷ [])) (at 2 3) end)
unfolding left is_end lookahead_at sees take_token take_lifetime take_mark take_group before rows_for rows run parse_rule
words_leave_word = computed module_words _ _ _ refl

-- `a::b c::d` prints `a :: b` and leaves `c::d`
words_leave_rooted : DerivesAs module_words
    (leaf (ident (97 ∷ [])) (at 0 1) (punct 58 true (at 1 2) (punct 58 false (at 2 3) (leaf (ident (98 ∷ [])) (at 3 4) (leaf (ident (99 ∷ [])) (at 5 6) (punct 58 true (at 6 7) (punct 58 false (at 7 8) (leaf (ident (100 ∷ [])) (at 8 9) end))))))))
    (leaf (ident (97 ∷ [])) call_site (punct 58 true call_site (punct 58 false call_site (leaf (ident (98 ∷ [])) call_site end))))
    (leaf (ident (99 ∷ [])) (at 5 6) (punct 58 true (at 6 7) (punct 58 false (at 7 8) (leaf (ident (100 ∷ [])) (at 8 9) end))))
unfolding left is_end lookahead_at sees take_token take_lifetime take_mark take_group before rows_for rows run parse_rule
words_leave_rooted = computed module_words _ _ _ refl

-- `::a b`: nothing is read
words_rooted_more : NotDerived (rule module_words)
    (punct 58 true (at 0 1) (punct 58 false (at 1 2) (leaf (ident (97 ∷ [])) (at 2 3) (leaf (ident (98 ∷ [])) (at 4 5) end))))
unfolding left is_end lookahead_at sees take_token take_lifetime take_mark take_group before rows_for rows run parse_rule
words_rooted_more = not_read module_words _ refl

-- `a:b` prints `a` and leaves `:b`
words_one_colon : DerivesAs module_words
    (leaf (ident (97 ∷ [])) (at 0 1) (punct 58 false (at 1 2) (leaf (ident (98 ∷ [])) (at 2 3) end)))
    (leaf (ident (97 ∷ [])) call_site end)
    (punct 58 false (at 1 2) (leaf (ident (98 ∷ [])) (at 2 3) end))
unfolding left is_end lookahead_at sees take_token take_lifetime take_mark take_group before rows_for rows run parse_rule
words_one_colon = computed module_words _ _ _ refl

-- `a.b` prints `a` and leaves `.b`
words_dot : DerivesAs module_words
    (leaf (ident (97 ∷ [])) (at 0 1) (punct 46 false (at 1 2) (leaf (ident (98 ∷ [])) (at 2 3) end)))
    (leaf (ident (97 ∷ [])) call_site end)
    (punct 46 false (at 1 2) (leaf (ident (98 ∷ [])) (at 2 3) end))
unfolding left is_end lookahead_at sees take_token take_lifetime take_mark take_group before rows_for rows run parse_rule
words_dot = computed module_words _ _ _ refl

-- `fn`: nothing is read
words_keyword : NotDerived (rule module_words)
    (leaf (ident w_fn) (at 0 2) end)
unfolding left is_end lookahead_at sees take_token take_lifetime take_mark take_group before rows_for rows run parse_rule
words_keyword = not_read module_words _ refl

-- `a::_`: nothing is read
words_underscore : NotDerived (rule module_words)
    (leaf (ident (97 ∷ [])) (at 0 1) (punct 58 true (at 1 2) (punct 58 false (at 2 3) (leaf (ident w_underscore) (at 3 4) end))))
unfolding left is_end lookahead_at sees take_token take_lifetime take_mark take_group before rows_for rows run parse_rule
words_underscore = not_read module_words _ refl

-- `in`: nothing is read
words_in : NotDerived (rule module_words)
    (leaf (ident w_in) (at 0 2) end)
unfolding left is_end lookahead_at sees take_token take_lifetime take_mark take_group before rows_for rows run parse_rule
words_in = not_read module_words _ refl

-- `1`: nothing is read
words_literal : NotDerived (rule module_words)
    (leaf (literal Int (49 ∷ [])) (at 0 1) end)
unfolding left is_end lookahead_at sees take_token take_lifetime take_mark take_group before rows_for rows run parse_rule
words_literal = not_read module_words _ refl

-- `a::1`: nothing is read
words_literal_after : NotDerived (rule module_words)
    (leaf (ident (97 ∷ [])) (at 0 1) (punct 58 true (at 1 2) (punct 58 false (at 2 3) (leaf (literal Int (49 ∷ [])) (at 3 4) end))))
unfolding left is_end lookahead_at sees take_token take_lifetime take_mark take_group before rows_for rows run parse_rule
words_literal_after = not_read module_words _ refl

-- `(a)`: nothing is read
words_group : NotDerived (rule module_words)
    (group Paren (at 0 1) (at 2 3) (leaf (ident (97 ∷ [])) (at 1 2) end) end)
unfolding left is_end lookahead_at sees take_token take_lifetime take_mark take_group before rows_for rows run parse_rule
words_group = not_read module_words _ refl

-- `pub` prints `pub`
vis_public : DerivesAs visibility
    (leaf (ident w_pub) (at 0 3) end)
    (leaf (ident w_pub) call_site end)
    (end)
unfolding left is_end lookahead_at sees take_token take_lifetime take_mark take_group before rows_for rows run parse_rule
vis_public = computed visibility _ _ _ refl

-- no tokens prints ``
vis_inherited : DerivesAs visibility
    (end)
    (end)
    (end)
unfolding left is_end lookahead_at sees take_token take_lifetime take_mark take_group before rows_for rows run parse_rule
vis_inherited = computed visibility _ _ _ refl

-- `pub(crate)` prints `pub ( crate )`
vis_crate : DerivesAs visibility
    (leaf (ident w_pub) (at 0 3) (group Paren (at 3 4) (at 9 10) (leaf (ident w_crate) (at 4 9) end) end))
    (leaf (ident w_pub) call_site (group Paren call_site call_site (leaf (ident w_crate) call_site end) end))
    (end)
unfolding left is_end lookahead_at sees take_token take_lifetime take_mark take_group before rows_for rows run parse_rule
vis_crate = computed visibility _ _ _ refl

-- `pub (self)` prints `pub ( self )`
vis_self : DerivesAs visibility
    (leaf (ident w_pub) (at 0 3) (group Paren (at 4 5) (at 9 10) (leaf (ident w_self) (at 5 9) end) end))
    (leaf (ident w_pub) call_site (group Paren call_site call_site (leaf (ident w_self) call_site end) end))
    (end)
unfolding left is_end lookahead_at sees take_token take_lifetime take_mark take_group before rows_for rows run parse_rule
vis_self = computed visibility _ _ _ refl

-- `pub(super)` prints `pub ( super )`
vis_super : DerivesAs visibility
    (leaf (ident w_pub) (at 0 3) (group Paren (at 3 4) (at 9 10) (leaf (ident w_super) (at 4 9) end) end))
    (leaf (ident w_pub) call_site (group Paren call_site call_site (leaf (ident w_super) call_site end) end))
    (end)
unfolding left is_end lookahead_at sees take_token take_lifetime take_mark take_group before rows_for rows run parse_rule
vis_super = computed visibility _ _ _ refl

-- `pub(in foo::bar)` prints `pub ( in foo :: bar )`
vis_in_path : DerivesAs visibility
    (leaf (ident w_pub) (at 0 3) (group Paren (at 3 4) (at 15 16) (leaf (ident w_in) (at 4 6) (leaf (ident (102 ∷ 111 ∷ 111 ∷ [])) (at 7 10) (punct 58 true (at 10 11) (punct 58 false (at 11 12) (leaf (ident (98 ∷ 97 ∷ 114 ∷ [])) (at 12 15) end))))) end))
    (leaf (ident w_pub) call_site (group Paren call_site call_site (leaf (ident w_in) call_site (leaf (ident (102 ∷ 111 ∷ 111 ∷ [])) call_site (punct 58 true call_site (punct 58 false call_site (leaf (ident (98 ∷ 97 ∷ 114 ∷ [])) call_site end))))) end))
    (end)
unfolding left is_end lookahead_at sees take_token take_lifetime take_mark take_group before rows_for rows run parse_rule
vis_in_path = computed visibility _ _ _ refl

-- `pub(in crate)` prints `pub ( in crate )`
vis_in_crate : DerivesAs visibility
    (leaf (ident w_pub) (at 0 3) (group Paren (at 3 4) (at 12 13) (leaf (ident w_in) (at 4 6) (leaf (ident w_crate) (at 7 12) end)) end))
    (leaf (ident w_pub) call_site (group Paren call_site call_site (leaf (ident w_in) call_site (leaf (ident w_crate) call_site end)) end))
    (end)
unfolding left is_end lookahead_at sees take_token take_lifetime take_mark take_group before rows_for rows run parse_rule
vis_in_crate = computed visibility _ _ _ refl

-- `pub(in ::a)` prints `pub ( in :: a )`
vis_in_rooted : DerivesAs visibility
    (leaf (ident w_pub) (at 0 3) (group Paren (at 3 4) (at 10 11) (leaf (ident w_in) (at 4 6) (punct 58 true (at 7 8) (punct 58 false (at 8 9) (leaf (ident (97 ∷ [])) (at 9 10) end)))) end))
    (leaf (ident w_pub) call_site (group Paren call_site call_site (leaf (ident w_in) call_site (punct 58 true call_site (punct 58 false call_site (leaf (ident (97 ∷ [])) call_site end)))) end))
    (end)
unfolding left is_end lookahead_at sees take_token take_lifetime take_mark take_group before rows_for rows run parse_rule
vis_in_rooted = computed visibility _ _ _ refl

-- `pub (crate::A, crate::B)` prints `pub` and leaves `(crate::A, crate::B)`
vis_leaves_tuple : DerivesAs visibility
    (leaf (ident w_pub) (at 0 3) (group Paren (at 4 5) (at 23 24) (leaf (ident w_crate) (at 5 10) (punct 58 true (at 10 11) (punct 58 false (at 11 12) (leaf (ident (65 ∷ [])) (at 12 13) (punct 44 false (at 13 14) (leaf (ident w_crate) (at 15 20) (punct 58 true (at 20 21) (punct 58 false (at 21 22) (leaf (ident (66 ∷ [])) (at 22 23) end))))))))) end))
    (leaf (ident w_pub) call_site end)
    (group Paren (at 4 5) (at 23 24) (leaf (ident w_crate) (at 5 10) (punct 58 true (at 10 11) (punct 58 false (at 11 12) (leaf (ident (65 ∷ [])) (at 12 13) (punct 44 false (at 13 14) (leaf (ident w_crate) (at 15 20) (punct 58 true (at 20 21) (punct 58 false (at 21 22) (leaf (ident (66 ∷ [])) (at 22 23) end))))))))) end)
unfolding left is_end lookahead_at sees take_token take_lifetime take_mark take_group before rows_for rows run parse_rule
vis_leaves_tuple = computed visibility _ _ _ refl

-- `pub(foo::bar)` prints `pub` and leaves `(foo::bar)`
vis_leaves_path : DerivesAs visibility
    (leaf (ident w_pub) (at 0 3) (group Paren (at 3 4) (at 12 13) (leaf (ident (102 ∷ 111 ∷ 111 ∷ [])) (at 4 7) (punct 58 true (at 7 8) (punct 58 false (at 8 9) (leaf (ident (98 ∷ 97 ∷ 114 ∷ [])) (at 9 12) end)))) end))
    (leaf (ident w_pub) call_site end)
    (group Paren (at 3 4) (at 12 13) (leaf (ident (102 ∷ 111 ∷ 111 ∷ [])) (at 4 7) (punct 58 true (at 7 8) (punct 58 false (at 8 9) (leaf (ident (98 ∷ 97 ∷ 114 ∷ [])) (at 9 12) end)))) end)
unfolding left is_end lookahead_at sees take_token take_lifetime take_mark take_group before rows_for rows run parse_rule
vis_leaves_path = computed visibility _ _ _ refl

-- `pub()` prints `pub` and leaves `()`
vis_leaves_unit : DerivesAs visibility
    (leaf (ident w_pub) (at 0 3) (group Paren (at 3 4) (at 4 5) end end))
    (leaf (ident w_pub) call_site end)
    (group Paren (at 3 4) (at 4 5) end end)
unfolding left is_end lookahead_at sees take_token take_lifetime take_mark take_group before rows_for rows run parse_rule
vis_leaves_unit = computed visibility _ _ _ refl

-- `pub[crate]` prints `pub` and leaves `[crate]`
vis_leaves_brackets : DerivesAs visibility
    (leaf (ident w_pub) (at 0 3) (group Bracket (at 3 4) (at 9 10) (leaf (ident w_crate) (at 4 9) end) end))
    (leaf (ident w_pub) call_site end)
    (group Bracket (at 3 4) (at 9 10) (leaf (ident w_crate) (at 4 9) end) end)
unfolding left is_end lookahead_at sees take_token take_lifetime take_mark take_group before rows_for rows run parse_rule
vis_leaves_brackets = computed visibility _ _ _ refl

-- `crate` prints `` and leaves `crate`
vis_leaves_others : DerivesAs visibility
    (leaf (ident w_crate) (at 0 5) end)
    (end)
    (leaf (ident w_crate) (at 0 5) end)
unfolding left is_end lookahead_at sees take_token take_lifetime take_mark take_group before rows_for rows run parse_rule
vis_leaves_others = computed visibility _ _ _ refl

-- `pub(foo::bar)` is refused
vis_path_whole : Refused visibility
    (leaf (ident w_pub) (at 0 3) (group Paren (at 3 4) (at 12 13) (leaf (ident (102 ∷ 111 ∷ 111 ∷ [])) (at 4 7) (punct 58 true (at 7 8) (punct 58 false (at 8 9) (leaf (ident (98 ∷ 97 ∷ 114 ∷ [])) (at 9 12) end)))) end))
unfolding left is_end lookahead_at sees take_token take_lifetime take_mark take_group before rows_for rows run parse_rule
vis_path_whole = not_derived visibility _ refl

-- `pub(in)`: nothing is read
vis_in_nothing : NotDerived (rule visibility)
    (leaf (ident w_pub) (at 0 3) (group Paren (at 3 4) (at 6 7) (leaf (ident w_in) (at 4 6) end) end))
unfolding left is_end lookahead_at sees take_token take_lifetime take_mark take_group before rows_for rows run parse_rule
vis_in_nothing = not_read visibility _ refl

-- `pub(in some::path @@garbage)`: nothing is read
vis_in_more : NotDerived (rule visibility)
    (leaf (ident w_pub) (at 0 3) (group Paren (at 3 4) (at 27 28) (leaf (ident w_in) (at 4 6) (leaf (ident (115 ∷ 111 ∷ 109 ∷ 101 ∷ [])) (at 7 11) (punct 58 true (at 11 12) (punct 58 false (at 12 13) (leaf (ident (112 ∷ 97 ∷ 116 ∷ 104 ∷ [])) (at 13 17) (punct 64 true (at 18 19) (punct 64 false (at 19 20) (leaf (ident (103 ∷ 97 ∷ 114 ∷ 98 ∷ 97 ∷ 103 ∷ 101 ∷ [])) (at 20 27) end)))))))) end))
unfolding left is_end lookahead_at sees take_token take_lifetime take_mark take_group before rows_for rows run parse_rule
vis_in_more = not_read visibility _ refl

-- `pub(in in a)`: nothing is read
vis_in_twice : NotDerived (rule visibility)
    (leaf (ident w_pub) (at 0 3) (group Paren (at 3 4) (at 11 12) (leaf (ident w_in) (at 4 6) (leaf (ident w_in) (at 7 9) (leaf (ident (97 ∷ [])) (at 10 11) end))) end))
unfolding left is_end lookahead_at sees take_token take_lifetime take_mark take_group before rows_for rows run parse_rule
vis_in_twice = not_read visibility _ refl

-- `crate pub` is refused
vis_word_first : Refused visibility
    (leaf (ident w_crate) (at 0 5) (leaf (ident w_pub) (at 6 9) end))
unfolding left is_end lookahead_at sees take_token take_lifetime take_mark take_group before rows_for rows run parse_rule
vis_word_first = not_derived visibility _ refl

-- `pub pub` prints `pub` and leaves `pub`
vis_twice : DerivesAs visibility
    (leaf (ident w_pub) (at 0 3) (leaf (ident w_pub) (at 4 7) end))
    (leaf (ident w_pub) call_site end)
    (leaf (ident w_pub) (at 4 7) end)
unfolding left is_end lookahead_at sees take_token take_lifetime take_mark take_group before rows_for rows run parse_rule
vis_twice = computed visibility _ _ _ refl

-- `a` prints `` and leaves `a`
vis_leaves_name : DerivesAs visibility
    (leaf (ident (97 ∷ [])) (at 0 1) end)
    (end)
    (leaf (ident (97 ∷ [])) (at 0 1) end)
unfolding left is_end lookahead_at sees take_token take_lifetime take_mark take_group before rows_for rows run parse_rule
vis_leaves_name = computed visibility _ _ _ refl

-- `pub crate` prints `pub` and leaves `crate`
vis_leaves_word : DerivesAs visibility
    (leaf (ident w_pub) (at 0 3) (leaf (ident w_crate) (at 4 9) end))
    (leaf (ident w_pub) call_site end)
    (leaf (ident w_crate) (at 4 9) end)
unfolding left is_end lookahead_at sees take_token take_lifetime take_mark take_group before rows_for rows run parse_rule
vis_leaves_word = computed visibility _ _ _ refl

-- `pub in a` prints `pub` and leaves `in a`
vis_leaves_in : DerivesAs visibility
    (leaf (ident w_pub) (at 0 3) (leaf (ident w_in) (at 4 6) (leaf (ident (97 ∷ [])) (at 7 8) end)))
    (leaf (ident w_pub) call_site end)
    (leaf (ident w_in) (at 4 6) (leaf (ident (97 ∷ [])) (at 7 8) end))
unfolding left is_end lookahead_at sees take_token take_lifetime take_mark take_group before rows_for rows run parse_rule
vis_leaves_in = computed visibility _ _ _ refl

-- `pub(crate)(crate)` prints `pub ( crate )` and leaves `(crate)`
vis_two_groups : DerivesAs visibility
    (leaf (ident w_pub) (at 0 3) (group Paren (at 3 4) (at 9 10) (leaf (ident w_crate) (at 4 9) end) (group Paren (at 10 11) (at 16 17) (leaf (ident w_crate) (at 11 16) end) end)))
    (leaf (ident w_pub) call_site (group Paren call_site call_site (leaf (ident w_crate) call_site end) end))
    (group Paren (at 10 11) (at 16 17) (leaf (ident w_crate) (at 11 16) end) end)
unfolding left is_end lookahead_at sees take_token take_lifetime take_mark take_group before rows_for rows run parse_rule
vis_two_groups = computed visibility _ _ _ refl

-- `pub(crate) pub` prints `pub ( crate )` and leaves `pub`
vis_public_after : DerivesAs visibility
    (leaf (ident w_pub) (at 0 3) (group Paren (at 3 4) (at 9 10) (leaf (ident w_crate) (at 4 9) end) (leaf (ident w_pub) (at 11 14) end)))
    (leaf (ident w_pub) call_site (group Paren call_site call_site (leaf (ident w_crate) call_site end) end))
    (leaf (ident w_pub) (at 11 14) end)
unfolding left is_end lookahead_at sees take_token take_lifetime take_mark take_group before rows_for rows run parse_rule
vis_public_after = computed visibility _ _ _ refl

-- `pub{crate}` prints `pub` and leaves `{crate}`
vis_leaves_braces : DerivesAs visibility
    (leaf (ident w_pub) (at 0 3) (group Brace (at 3 4) (at 9 10) (leaf (ident w_crate) (at 4 9) end) end))
    (leaf (ident w_pub) call_site end)
    (group Brace (at 3 4) (at 9 10) (leaf (ident w_crate) (at 4 9) end) end)
unfolding left is_end lookahead_at sees take_token take_lifetime take_mark take_group before rows_for rows run parse_rule
vis_leaves_braces = computed visibility _ _ _ refl

-- `pub(crate crate)` prints `pub` and leaves `(crate crate)`
vis_leaves_two_words : DerivesAs visibility
    (leaf (ident w_pub) (at 0 3) (group Paren (at 3 4) (at 15 16) (leaf (ident w_crate) (at 4 9) (leaf (ident w_crate) (at 10 15) end)) end))
    (leaf (ident w_pub) call_site end)
    (group Paren (at 3 4) (at 15 16) (leaf (ident w_crate) (at 4 9) (leaf (ident w_crate) (at 10 15) end)) end)
unfolding left is_end lookahead_at sees take_token take_lifetime take_mark take_group before rows_for rows run parse_rule
vis_leaves_two_words = computed visibility _ _ _ refl

-- `pub(self,)` prints `pub` and leaves `(self,)`
vis_leaves_comma : DerivesAs visibility
    (leaf (ident w_pub) (at 0 3) (group Paren (at 3 4) (at 9 10) (leaf (ident w_self) (at 4 8) (punct 44 false (at 8 9) end)) end))
    (leaf (ident w_pub) call_site end)
    (group Paren (at 3 4) (at 9 10) (leaf (ident w_self) (at 4 8) (punct 44 false (at 8 9) end)) end)
unfolding left is_end lookahead_at sees take_token take_lifetime take_mark take_group before rows_for rows run parse_rule
vis_leaves_comma = computed visibility _ _ _ refl

-- `pub(super::a)` prints `pub` and leaves `(super::a)`
vis_leaves_super_path : DerivesAs visibility
    (leaf (ident w_pub) (at 0 3) (group Paren (at 3 4) (at 12 13) (leaf (ident w_super) (at 4 9) (punct 58 true (at 9 10) (punct 58 false (at 10 11) (leaf (ident (97 ∷ [])) (at 11 12) end)))) end))
    (leaf (ident w_pub) call_site end)
    (group Paren (at 3 4) (at 12 13) (leaf (ident w_super) (at 4 9) (punct 58 true (at 9 10) (punct 58 false (at 10 11) (leaf (ident (97 ∷ [])) (at 11 12) end)))) end)
unfolding left is_end lookahead_at sees take_token take_lifetime take_mark take_group before rows_for rows run parse_rule
vis_leaves_super_path = computed visibility _ _ _ refl

-- `pub(Self)` prints `pub` and leaves `(Self)`
vis_leaves_self_type : DerivesAs visibility
    (leaf (ident w_pub) (at 0 3) (group Paren (at 3 4) (at 8 9) (leaf (ident w_Self_type) (at 4 8) end) end))
    (leaf (ident w_pub) call_site end)
    (group Paren (at 3 4) (at 8 9) (leaf (ident w_Self_type) (at 4 8) end) end)
unfolding left is_end lookahead_at sees take_token take_lifetime take_mark take_group before rows_for rows run parse_rule
vis_leaves_self_type = computed visibility _ _ _ refl

-- `pub((crate))` prints `pub` and leaves `((crate))`
vis_leaves_inner_group : DerivesAs visibility
    (leaf (ident w_pub) (at 0 3) (group Paren (at 3 4) (at 11 12) (group Paren (at 4 5) (at 10 11) (leaf (ident w_crate) (at 5 10) end) end) end))
    (leaf (ident w_pub) call_site end)
    (group Paren (at 3 4) (at 11 12) (group Paren (at 4 5) (at 10 11) (leaf (ident w_crate) (at 5 10) end) end) end)
unfolding left is_end lookahead_at sees take_token take_lifetime take_mark take_group before rows_for rows run parse_rule
vis_leaves_inner_group = computed visibility _ _ _ refl

-- `pub(pub)` prints `pub` and leaves `(pub)`
vis_leaves_own_word : DerivesAs visibility
    (leaf (ident w_pub) (at 0 3) (group Paren (at 3 4) (at 7 8) (leaf (ident w_pub) (at 4 7) end) end))
    (leaf (ident w_pub) call_site end)
    (group Paren (at 3 4) (at 7 8) (leaf (ident w_pub) (at 4 7) end) end)
unfolding left is_end lookahead_at sees take_token take_lifetime take_mark take_group before rows_for rows run parse_rule
vis_leaves_own_word = computed visibility _ _ _ refl

-- `(crate) pub` prints `` and leaves `(crate) pub`
vis_group_first : DerivesAs visibility
    (group Paren (at 0 1) (at 6 7) (leaf (ident w_crate) (at 1 6) end) (leaf (ident w_pub) (at 8 11) end))
    (end)
    (group Paren (at 0 1) (at 6 7) (leaf (ident w_crate) (at 1 6) end) (leaf (ident w_pub) (at 8 11) end))
unfolding left is_end lookahead_at sees take_token take_lifetime take_mark take_group before rows_for rows run parse_rule
vis_group_first = computed visibility _ _ _ refl

-- `pub(in a in b)`: nothing is read
vis_in_two_paths : NotDerived (rule visibility)
    (leaf (ident w_pub) (at 0 3) (group Paren (at 3 4) (at 13 14) (leaf (ident w_in) (at 4 6) (leaf (ident (97 ∷ [])) (at 7 8) (leaf (ident w_in) (at 9 11) (leaf (ident (98 ∷ [])) (at 12 13) end)))) end))
unfolding left is_end lookahead_at sees take_token take_lifetime take_mark take_group before rows_for rows run parse_rule
vis_in_two_paths = not_read visibility _ refl

-- `pub(in a b)`: nothing is read
vis_in_path_and_word : NotDerived (rule visibility)
    (leaf (ident w_pub) (at 0 3) (group Paren (at 3 4) (at 10 11) (leaf (ident w_in) (at 4 6) (leaf (ident (97 ∷ [])) (at 7 8) (leaf (ident (98 ∷ [])) (at 9 10) end))) end))
unfolding left is_end lookahead_at sees take_token take_lifetime take_mark take_group before rows_for rows run parse_rule
vis_in_path_and_word = not_read visibility _ refl

-- `pub(in a,)`: nothing is read
vis_in_comma : NotDerived (rule visibility)
    (leaf (ident w_pub) (at 0 3) (group Paren (at 3 4) (at 9 10) (leaf (ident w_in) (at 4 6) (leaf (ident (97 ∷ [])) (at 7 8) (punct 44 false (at 8 9) end))) end))
unfolding left is_end lookahead_at sees take_token take_lifetime take_mark take_group before rows_for rows run parse_rule
vis_in_comma = not_read visibility _ refl

-- `pub(in fn)`: nothing is read
vis_in_keyword : NotDerived (rule visibility)
    (leaf (ident w_pub) (at 0 3) (group Paren (at 3 4) (at 9 10) (leaf (ident w_in) (at 4 6) (leaf (ident w_fn) (at 7 9) end)) end))
unfolding left is_end lookahead_at sees take_token take_lifetime take_mark take_group before rows_for rows run parse_rule
vis_in_keyword = not_read visibility _ refl

-- `\(\)` prints ``
vis_invisible : DerivesAs visibility
    (group None (at 0 2) (at 2 4) end end)
    (end)
    (end)
unfolding left is_end lookahead_at sees take_token take_lifetime take_mark take_group before rows_for rows run parse_rule
vis_invisible = computed visibility _ _ _ refl

-- `\(\) a` prints `` and leaves `a`
vis_invisible_leaves_name : DerivesAs visibility
    (group None (at 0 2) (at 2 4) end (leaf (ident (97 ∷ [])) (at 5 6) end))
    (end)
    (leaf (ident (97 ∷ [])) (at 5 6) end)
unfolding left is_end lookahead_at sees take_token take_lifetime take_mark take_group before rows_for rows run parse_rule
vis_invisible_leaves_name = computed visibility _ _ _ refl

-- `\(\) ()` prints `` and leaves `()`
vis_invisible_leaves_group : DerivesAs visibility
    (group None (at 0 2) (at 2 4) end (group Paren (at 5 6) (at 6 7) end end))
    (end)
    (group Paren (at 5 6) (at 6 7) end end)
unfolding left is_end lookahead_at sees take_token take_lifetime take_mark take_group before rows_for rows run parse_rule
vis_invisible_leaves_group = computed visibility _ _ _ refl

-- `\(\) \(\)` prints `` and leaves `\(\)`
vis_invisible_twice : DerivesAs visibility
    (group None (at 0 2) (at 2 4) end (group None (at 5 7) (at 7 9) end end))
    (end)
    (group None (at 5 7) (at 7 9) end end)
unfolding left is_end lookahead_at sees take_token take_lifetime take_mark take_group before rows_for rows run parse_rule
vis_invisible_twice = computed visibility _ _ _ refl

-- `\(\) pub` prints `` and leaves `pub`
vis_invisible_before_public : DerivesAs visibility
    (group None (at 0 2) (at 2 4) end (leaf (ident w_pub) (at 5 8) end))
    (end)
    (leaf (ident w_pub) (at 5 8) end)
unfolding left is_end lookahead_at sees take_token take_lifetime take_mark take_group before rows_for rows run parse_rule
vis_invisible_before_public = computed visibility _ _ _ refl

-- `\(\) pub(crate)` prints `` and leaves `pub(crate)`
vis_invisible_before_restricted : DerivesAs visibility
    (group None (at 0 2) (at 2 4) end (leaf (ident w_pub) (at 5 8) (group Paren (at 8 9) (at 14 15) (leaf (ident w_crate) (at 9 14) end) end)))
    (end)
    (leaf (ident w_pub) (at 5 8) (group Paren (at 8 9) (at 14 15) (leaf (ident w_crate) (at 9 14) end) end))
unfolding left is_end lookahead_at sees take_token take_lifetime take_mark take_group before rows_for rows run parse_rule
vis_invisible_before_restricted = computed visibility _ _ _ refl

-- `pub \(\)` prints `pub` and leaves `\(\)`
vis_invisible_after_public : DerivesAs visibility
    (leaf (ident w_pub) (at 0 3) (group None (at 4 6) (at 6 8) end end))
    (leaf (ident w_pub) call_site end)
    (group None (at 4 6) (at 6 8) end end)
unfolding left is_end lookahead_at sees take_token take_lifetime take_mark take_group before rows_for rows run parse_rule
vis_invisible_after_public = computed visibility _ _ _ refl

-- `pub(crate) \(\)` prints `pub ( crate )` and leaves `\(\)`
vis_invisible_after_restricted : DerivesAs visibility
    (leaf (ident w_pub) (at 0 3) (group Paren (at 3 4) (at 9 10) (leaf (ident w_crate) (at 4 9) end) (group None (at 11 13) (at 13 15) end end)))
    (leaf (ident w_pub) call_site (group Paren call_site call_site (leaf (ident w_crate) call_site end) end))
    (group None (at 11 13) (at 13 15) end end)
unfolding left is_end lookahead_at sees take_token take_lifetime take_mark take_group before rows_for rows run parse_rule
vis_invisible_after_restricted = computed visibility _ _ _ refl

-- `pub(\(\))` prints `pub` and leaves `(\(\))`
vis_invisible_inside : DerivesAs visibility
    (leaf (ident w_pub) (at 0 3) (group Paren (at 3 4) (at 8 9) (group None (at 4 6) (at 6 8) end end) end))
    (leaf (ident w_pub) call_site end)
    (group Paren (at 3 4) (at 8 9) (group None (at 4 6) (at 6 8) end end) end)
unfolding left is_end lookahead_at sees take_token take_lifetime take_mark take_group before rows_for rows run parse_rule
vis_invisible_inside = computed visibility _ _ _ refl

-- `\(a\)` prints `` and leaves `\(a\)`
vis_invisible_name : DerivesAs visibility
    (group None (at 0 2) (at 3 5) (leaf (ident (97 ∷ [])) (at 2 3) end) end)
    (end)
    (group None (at 0 2) (at 3 5) (leaf (ident (97 ∷ [])) (at 2 3) end) end)
unfolding left is_end lookahead_at sees take_token take_lifetime take_mark take_group before rows_for rows run parse_rule
vis_invisible_name = computed visibility _ _ _ refl

-- `\(pub\)` prints `` and leaves `\(pub\)`
vis_invisible_public : DerivesAs visibility
    (group None (at 0 2) (at 5 7) (leaf (ident w_pub) (at 2 5) end) end)
    (end)
    (group None (at 0 2) (at 5 7) (leaf (ident w_pub) (at 2 5) end) end)
unfolding left is_end lookahead_at sees take_token take_lifetime take_mark take_group before rows_for rows run parse_rule
vis_invisible_public = computed visibility _ _ _ refl

-- `\(\(\)\)` prints `` and leaves `\(\(\)\)`
vis_invisible_in_invisible : DerivesAs visibility
    (group None (at 0 2) (at 6 8) (group None (at 2 4) (at 4 6) end end) end)
    (end)
    (group None (at 0 2) (at 6 8) (group None (at 2 4) (at 4 6) end end) end)
unfolding left is_end lookahead_at sees take_token take_lifetime take_mark take_group before rows_for rows run parse_rule
vis_invisible_in_invisible = computed visibility _ _ _ refl

-- `()` prints `` and leaves `()`
vis_empty_parentheses : DerivesAs visibility
    (group Paren (at 0 1) (at 1 2) end end)
    (end)
    (group Paren (at 0 1) (at 1 2) end end)
unfolding left is_end lookahead_at sees take_token take_lifetime take_mark take_group before rows_for rows run parse_rule
vis_empty_parentheses = computed visibility _ _ _ refl

-- `{}` prints `` and leaves `{}`
vis_empty_braces : DerivesAs visibility
    (group Brace (at 0 1) (at 1 2) end end)
    (end)
    (group Brace (at 0 1) (at 1 2) end end)
unfolding left is_end lookahead_at sees take_token take_lifetime take_mark take_group before rows_for rows run parse_rule
vis_empty_braces = computed visibility _ _ _ refl

-- `[]` prints `` and leaves `[]`
vis_empty_brackets : DerivesAs visibility
    (group Bracket (at 0 1) (at 1 2) end end)
    (end)
    (group Bracket (at 0 1) (at 1 2) end end)
unfolding left is_end lookahead_at sees take_token take_lifetime take_mark take_group before rows_for rows run parse_rule
vis_empty_brackets = computed visibility _ _ _ refl

-- `super` prints `super`
restriction_super : DerivesAs restriction
    (leaf (ident w_super) (at 0 5) end)
    (leaf (ident w_super) call_site end)
    (end)
unfolding left is_end lookahead_at sees take_token take_lifetime take_mark take_group before rows_for rows run parse_rule
restriction_super = computed restriction _ _ _ refl

-- `in a::b` prints `in a :: b`
restriction_in : DerivesAs restriction
    (leaf (ident w_in) (at 0 2) (leaf (ident (97 ∷ [])) (at 3 4) (punct 58 true (at 4 5) (punct 58 false (at 5 6) (leaf (ident (98 ∷ [])) (at 6 7) end)))))
    (leaf (ident w_in) call_site (leaf (ident (97 ∷ [])) call_site (punct 58 true call_site (punct 58 false call_site (leaf (ident (98 ∷ [])) call_site end)))))
    (end)
unfolding left is_end lookahead_at sees take_token take_lifetime take_mark take_group before rows_for rows run parse_rule
restriction_in = computed restriction _ _ _ refl

-- `in`: nothing is read
restriction_in_alone : NotDerived (rule restriction)
    (leaf (ident w_in) (at 0 2) end)
unfolding left is_end lookahead_at sees take_token take_lifetime take_mark take_group before rows_for rows run parse_rule
restriction_in_alone = not_read restriction _ refl

-- `a` prints `a`
restriction_path : DerivesAs restriction
    (leaf (ident (97 ∷ [])) (at 0 1) end)
    (leaf (ident (97 ∷ [])) call_site end)
    (end)
unfolding left is_end lookahead_at sees take_token take_lifetime take_mark take_group before rows_for rows run parse_rule
restriction_path = computed restriction _ _ _ refl

-- `in ::a` prints `in :: a`
restriction_in_rooted : DerivesAs restriction
    (leaf (ident w_in) (at 0 2) (punct 58 true (at 3 4) (punct 58 false (at 4 5) (leaf (ident (97 ∷ [])) (at 5 6) end))))
    (leaf (ident w_in) call_site (punct 58 true call_site (punct 58 false call_site (leaf (ident (97 ∷ [])) call_site end))))
    (end)
unfolding left is_end lookahead_at sees take_token take_lifetime take_mark take_group before rows_for rows run parse_rule
restriction_in_rooted = computed restriction _ _ _ refl

-- `in in a`: nothing is read
restriction_in_twice : NotDerived (rule restriction)
    (leaf (ident w_in) (at 0 2) (leaf (ident w_in) (at 3 5) (leaf (ident (97 ∷ [])) (at 6 7) end)))
unfolding left is_end lookahead_at sees take_token take_lifetime take_mark take_group before rows_for rows run parse_rule
restriction_in_twice = not_read restriction _ refl

-- `in a in b` prints `in a` and leaves `in b`
restriction_leaves_in : DerivesAs restriction
    (leaf (ident w_in) (at 0 2) (leaf (ident (97 ∷ [])) (at 3 4) (leaf (ident w_in) (at 5 7) (leaf (ident (98 ∷ [])) (at 8 9) end))))
    (leaf (ident w_in) call_site (leaf (ident (97 ∷ [])) call_site end))
    (leaf (ident w_in) (at 5 7) (leaf (ident (98 ∷ [])) (at 8 9) end))
unfolding left is_end lookahead_at sees take_token take_lifetime take_mark take_group before rows_for rows run parse_rule
restriction_leaves_in = computed restriction _ _ _ refl

-- `crate crate` prints `crate` and leaves `crate`
restriction_leaves_word : DerivesAs restriction
    (leaf (ident w_crate) (at 0 5) (leaf (ident w_crate) (at 6 11) end))
    (leaf (ident w_crate) call_site end)
    (leaf (ident w_crate) (at 6 11) end)
unfolding left is_end lookahead_at sees take_token take_lifetime take_mark take_group before rows_for rows run parse_rule
restriction_leaves_word = computed restriction _ _ _ refl

-- `crate in` prints `crate` and leaves `in`
restriction_in_after : DerivesAs restriction
    (leaf (ident w_crate) (at 0 5) (leaf (ident w_in) (at 6 8) end))
    (leaf (ident w_crate) call_site end)
    (leaf (ident w_in) (at 6 8) end)
unfolding left is_end lookahead_at sees take_token take_lifetime take_mark take_group before rows_for rows run parse_rule
restriction_in_after = computed restriction _ _ _ refl

-- no tokens: nothing is read
restriction_nothing : NotDerived (rule restriction)
    (end)
unfolding left is_end lookahead_at sees take_token take_lifetime take_mark take_group before rows_for rows run parse_rule
restriction_nothing = not_read restriction _ refl

-- `pub`: nothing is read
restriction_keyword : NotDerived (rule restriction)
    (leaf (ident w_pub) (at 0 3) end)
unfolding left is_end lookahead_at sees take_token take_lifetime take_mark take_group before rows_for rows run parse_rule
restriction_keyword = not_read restriction _ refl

-- `\(\)`: nothing is read
restriction_invisible : NotDerived (rule restriction)
    (group None (at 0 2) (at 2 4) end end)
unfolding left is_end lookahead_at sees take_token take_lifetime take_mark take_group before rows_for rows run parse_rule
restriction_invisible = not_read restriction _ refl
