-- Written by tools/grammar.py from specs/Table.antt; edits are lost.
-- Worked examples of attributes, from tools/examples.txt: what each rule reads, prints and refuses. The checker computes each.
use Rattle.std.proofs.Common.{true, false, [], ◌∷◌, refl}
use Rattle.syn_grammar.specs.Words.{w_underscore, w_unsafe}
use Rattle.syn_grammar.specs.Tokens.{call_site, Paren, Brace, Bracket, Str, Int, ident, literal, end, leaf, punct, group}
use Rattle.syn_grammar.specs.Rules.{attributes, inner_attributes, meta, unsafe_path, unsafe_word, meta_value}
use Rattle.syn_grammar.specs.Grammar.{rule}
use Rattle.syn_grammar.specs.Take.{left, is_end, lookahead_at, sees, take_token, take_lifetime, take_mark, take_group, before}
use Rattle.syn_grammar.specs.Run.{rows_for, rows, run, parse_rule}
use Rattle.syn_grammar.specs.Promises.{NotDerived}
use Rattle.syn_grammar.proofs.Shown.{at, DerivesAs, computed, not_read}

-- `#[a::b(x==y)] #[c]` prints `# [ a :: b ( x == y ) ] # [ c ]`
attribute_list : DerivesAs attributes
    (punct 35 false (at 0 1) (group Bracket (at 1 2) (at 12 13) (leaf (ident (97 ∷ [])) (at 2 3) (punct 58 true (at 3 4) (punct 58 false (at 4 5) (leaf (ident (98 ∷ [])) (at 5 6) (group Paren (at 6 7) (at 11 12) (leaf (ident (120 ∷ [])) (at 7 8) (punct 61 true (at 8 9) (punct 61 false (at 9 10) (leaf (ident (121 ∷ [])) (at 10 11) end)))) end))))) (punct 35 false (at 14 15) (group Bracket (at 15 16) (at 17 18) (leaf (ident (99 ∷ [])) (at 16 17) end) end))))
    (punct 35 false call_site (group Bracket call_site call_site (leaf (ident (97 ∷ [])) call_site (punct 58 true call_site (punct 58 false call_site (leaf (ident (98 ∷ [])) call_site (group Paren call_site call_site (leaf (ident (120 ∷ [])) call_site (punct 61 true call_site (punct 61 false call_site (leaf (ident (121 ∷ [])) call_site end)))) end))))) (punct 35 false call_site (group Bracket call_site call_site (leaf (ident (99 ∷ [])) call_site end) end))))
    (end)
unfolding left is_end lookahead_at sees take_token take_lifetime take_mark take_group before rows_for rows run parse_rule
attribute_list = computed attributes _ _ _ refl

-- `a` prints `` and leaves `a`
attribute_none : DerivesAs attributes
    (leaf (ident (97 ∷ [])) (at 0 1) end)
    (end)
    (leaf (ident (97 ∷ [])) (at 0 1) end)
unfolding left is_end lookahead_at sees take_token take_lifetime take_mark take_group before rows_for rows run parse_rule
attribute_none = computed attributes _ _ _ refl

-- `#![a]`: nothing is read
attribute_inner : NotDerived (rule attributes)
    (punct 35 true (at 0 1) (punct 33 false (at 1 2) (group Bracket (at 2 3) (at 4 5) (leaf (ident (97 ∷ [])) (at 3 4) end) end)))
unfolding left is_end lookahead_at sees take_token take_lifetime take_mark take_group before rows_for rows run parse_rule
attribute_inner = not_read attributes _ refl

-- `#[a = 1] b` prints `# [ a = 1 ]` and leaves `b`
attribute_leaves_name : DerivesAs attributes
    (punct 35 false (at 0 1) (group Bracket (at 1 2) (at 7 8) (leaf (ident (97 ∷ [])) (at 2 3) (punct 61 false (at 4 5) (leaf (literal Int (49 ∷ [])) (at 6 7) end))) (leaf (ident (98 ∷ [])) (at 9 10) end)))
    (punct 35 false call_site (group Bracket call_site call_site (leaf (ident (97 ∷ [])) call_site (punct 61 false call_site (leaf (literal Int (49 ∷ [])) call_site end))) end))
    (leaf (ident (98 ∷ [])) (at 9 10) end)
unfolding left is_end lookahead_at sees take_token take_lifetime take_mark take_group before rows_for rows run parse_rule
attribute_leaves_name = computed attributes _ _ _ refl

-- `#[]`: nothing is read
attribute_empty : NotDerived (rule attributes)
    (punct 35 false (at 0 1) (group Bracket (at 1 2) (at 2 3) end end))
unfolding left is_end lookahead_at sees take_token take_lifetime take_mark take_group before rows_for rows run parse_rule
attribute_empty = not_read attributes _ refl

-- `#[a b]`: nothing is read
attribute_two_words : NotDerived (rule attributes)
    (punct 35 false (at 0 1) (group Bracket (at 1 2) (at 5 6) (leaf (ident (97 ∷ [])) (at 2 3) (leaf (ident (98 ∷ [])) (at 4 5) end)) end))
unfolding left is_end lookahead_at sees take_token take_lifetime take_mark take_group before rows_for rows run parse_rule
attribute_two_words = not_read attributes _ refl

-- `#[a] []` prints `# [ a ]` and leaves `[]`
attribute_leaves_brackets : DerivesAs attributes
    (punct 35 false (at 0 1) (group Bracket (at 1 2) (at 3 4) (leaf (ident (97 ∷ [])) (at 2 3) end) (group Bracket (at 5 6) (at 6 7) end end)))
    (punct 35 false call_site (group Bracket call_site call_site (leaf (ident (97 ∷ [])) call_site end) end))
    (group Bracket (at 5 6) (at 6 7) end end)
unfolding left is_end lookahead_at sees take_token take_lifetime take_mark take_group before rows_for rows run parse_rule
attribute_leaves_brackets = computed attributes _ _ _ refl

-- `##[a] [b]`: nothing is read
attribute_two_pounds : NotDerived (rule attributes)
    (punct 35 true (at 0 1) (punct 35 false (at 1 2) (group Bracket (at 2 3) (at 4 5) (leaf (ident (97 ∷ [])) (at 3 4) end) (group Bracket (at 6 7) (at 8 9) (leaf (ident (98 ∷ [])) (at 7 8) end) end))))
unfolding left is_end lookahead_at sees take_token take_lifetime take_mark take_group before rows_for rows run parse_rule
attribute_two_pounds = not_read attributes _ refl

-- `#{ a }`: nothing is read
attribute_braces : NotDerived (rule attributes)
    (punct 35 false (at 0 1) (group Brace (at 1 2) (at 5 6) (leaf (ident (97 ∷ [])) (at 3 4) end) end))
unfolding left is_end lookahead_at sees take_token take_lifetime take_mark take_group before rows_for rows run parse_rule
attribute_braces = not_read attributes _ refl

-- `#(a)`: nothing is read
attribute_parentheses : NotDerived (rule attributes)
    (punct 35 false (at 0 1) (group Paren (at 1 2) (at 3 4) (leaf (ident (97 ∷ [])) (at 2 3) end) end))
unfolding left is_end lookahead_at sees take_token take_lifetime take_mark take_group before rows_for rows run parse_rule
attribute_parentheses = not_read attributes _ refl

-- `unsafe(a)` prints `unsafe ( a )`
meta_unsafe : DerivesAs meta
    (leaf (ident w_unsafe) (at 0 6) (group Paren (at 6 7) (at 8 9) (leaf (ident (97 ∷ [])) (at 7 8) end) end))
    (leaf (ident w_unsafe) call_site (group Paren call_site call_site (leaf (ident (97 ∷ [])) call_site end) end))
    (end)
unfolding left is_end lookahead_at sees take_token take_lifetime take_mark take_group before rows_for rows run parse_rule
meta_unsafe = computed meta _ _ _ refl

-- `a == b` prints `a = = b`
meta_value_joint : DerivesAs meta
    (leaf (ident (97 ∷ [])) (at 0 1) (punct 61 true (at 2 3) (punct 61 false (at 3 4) (leaf (ident (98 ∷ [])) (at 5 6) end))))
    (leaf (ident (97 ∷ [])) call_site (punct 61 false call_site (punct 61 false call_site (leaf (ident (98 ∷ [])) call_site end))))
    (end)
unfolding left is_end lookahead_at sees take_token take_lifetime take_mark take_group before rows_for rows run parse_rule
meta_value_joint = computed meta _ _ _ refl

-- `= b`: nothing is read
meta_nothing : NotDerived (rule meta)
    (punct 61 false (at 0 1) (leaf (ident (98 ∷ [])) (at 2 3) end))
unfolding left is_end lookahead_at sees take_token take_lifetime take_mark take_group before rows_for rows run parse_rule
meta_nothing = not_read meta _ refl

-- `::a a` prints `:: a` and leaves `a`
meta_leaves_word : DerivesAs meta
    (punct 58 true (at 0 1) (punct 58 false (at 1 2) (leaf (ident (97 ∷ [])) (at 2 3) (leaf (ident (97 ∷ [])) (at 4 5) end))))
    (punct 58 true call_site (punct 58 false call_site (leaf (ident (97 ∷ [])) call_site end)))
    (leaf (ident (97 ∷ [])) (at 4 5) end)
unfolding left is_end lookahead_at sees take_token take_lifetime take_mark take_group before rows_for rows run parse_rule
meta_leaves_word = computed meta _ _ _ refl

-- `{} a`: nothing is read
meta_group_first : NotDerived (rule meta)
    (group Brace (at 0 1) (at 1 2) end (leaf (ident (97 ∷ [])) (at 3 4) end))
unfolding left is_end lookahead_at sees take_token take_lifetime take_mark take_group before rows_for rows run parse_rule
meta_group_first = not_read meta _ refl

-- `a::`: nothing is read
meta_path_ends_with_colons : NotDerived (rule meta)
    (leaf (ident (97 ∷ [])) (at 0 1) (punct 58 true (at 1 2) (punct 58 false (at 2 3) end)))
unfolding left is_end lookahead_at sees take_token take_lifetime take_mark take_group before rows_for rows run parse_rule
meta_path_ends_with_colons = not_read meta _ refl

-- `a() ()` prints `a ( )` and leaves `()`
meta_leaves_group : DerivesAs meta
    (leaf (ident (97 ∷ [])) (at 0 1) (group Paren (at 1 2) (at 2 3) end (group Paren (at 4 5) (at 5 6) end end)))
    (leaf (ident (97 ∷ [])) call_site (group Paren call_site call_site end end))
    (group Paren (at 4 5) (at 5 6) end end)
unfolding left is_end lookahead_at sees take_token take_lifetime take_mark take_group before rows_for rows run parse_rule
meta_leaves_group = computed meta _ _ _ refl

-- `unsafe unsafe` prints `unsafe` and leaves `unsafe`
meta_unsafe_twice : DerivesAs meta
    (leaf (ident w_unsafe) (at 0 6) (leaf (ident w_unsafe) (at 7 13) end))
    (leaf (ident w_unsafe) call_site end)
    (leaf (ident w_unsafe) (at 7 13) end)
unfolding left is_end lookahead_at sees take_token take_lifetime take_mark take_group before rows_for rows run parse_rule
meta_unsafe_twice = computed meta _ _ _ refl

-- `unsafe` prints `unsafe`
unsafe_path_word : DerivesAs unsafe_path
    (leaf (ident w_unsafe) (at 0 6) end)
    (leaf (ident w_unsafe) call_site end)
    (end)
unfolding left is_end lookahead_at sees take_token take_lifetime take_mark take_group before rows_for rows run parse_rule
unsafe_path_word = computed unsafe_path _ _ _ refl

-- `::unsafe`: nothing is read
unsafe_path_rooted : NotDerived (rule unsafe_path)
    (punct 58 true (at 0 1) (punct 58 false (at 1 2) (leaf (ident w_unsafe) (at 2 8) end)))
unfolding left is_end lookahead_at sees take_token take_lifetime take_mark take_group before rows_for rows run parse_rule
unsafe_path_rooted = not_read unsafe_path _ refl

-- no tokens: nothing is read
unsafe_path_nothing : NotDerived (rule unsafe_path)
    (end)
unfolding left is_end lookahead_at sees take_token take_lifetime take_mark take_group before rows_for rows run parse_rule
unsafe_path_nothing = not_read unsafe_path _ refl

-- `unsafe unsafe` prints `unsafe` and leaves `unsafe`
unsafe_path_leaves_word : DerivesAs unsafe_path
    (leaf (ident w_unsafe) (at 0 6) (leaf (ident w_unsafe) (at 7 13) end))
    (leaf (ident w_unsafe) call_site end)
    (leaf (ident w_unsafe) (at 7 13) end)
unfolding left is_end lookahead_at sees take_token take_lifetime take_mark take_group before rows_for rows run parse_rule
unsafe_path_leaves_word = computed unsafe_path _ _ _ refl

-- `:unsafe`: nothing is read
unsafe_path_one_colon : NotDerived (rule unsafe_path)
    (punct 58 false (at 0 1) (leaf (ident w_unsafe) (at 1 7) end))
unfolding left is_end lookahead_at sees take_token take_lifetime take_mark take_group before rows_for rows run parse_rule
unsafe_path_one_colon = not_read unsafe_path _ refl

-- `unsafe` prints `unsafe`
unsafe_word_alone : DerivesAs unsafe_word
    (leaf (ident w_unsafe) (at 0 6) end)
    (leaf (ident w_unsafe) call_site end)
    (end)
unfolding left is_end lookahead_at sees take_token take_lifetime take_mark take_group before rows_for rows run parse_rule
unsafe_word_alone = computed unsafe_word _ _ _ refl

-- `unsafe unsafe` prints `unsafe` and leaves `unsafe`
unsafe_word_leaves_word : DerivesAs unsafe_word
    (leaf (ident w_unsafe) (at 0 6) (leaf (ident w_unsafe) (at 7 13) end))
    (leaf (ident w_unsafe) call_site end)
    (leaf (ident w_unsafe) (at 7 13) end)
unfolding left is_end lookahead_at sees take_token take_lifetime take_mark take_group before rows_for rows run parse_rule
unsafe_word_leaves_word = computed unsafe_word _ _ _ refl

-- `unsafe :` prints `unsafe` and leaves `:`
unsafe_word_leaves_colon : DerivesAs unsafe_word
    (leaf (ident w_unsafe) (at 0 6) (punct 58 false (at 7 8) end))
    (leaf (ident w_unsafe) call_site end)
    (punct 58 false (at 7 8) end)
unfolding left is_end lookahead_at sees take_token take_lifetime take_mark take_group before rows_for rows run parse_rule
unsafe_word_leaves_colon = computed unsafe_word _ _ _ refl

-- `unsafe::a`: nothing is read
unsafe_word_more : NotDerived (rule unsafe_word)
    (leaf (ident w_unsafe) (at 0 6) (punct 58 true (at 6 7) (punct 58 false (at 7 8) (leaf (ident (97 ∷ [])) (at 8 9) end))))
unfolding left is_end lookahead_at sees take_token take_lifetime take_mark take_group before rows_for rows run parse_rule
unsafe_word_more = not_read unsafe_word _ refl

-- `_`: nothing is read
unsafe_word_other : NotDerived (rule unsafe_word)
    (leaf (ident w_underscore) (at 0 1) end)
unfolding left is_end lookahead_at sees take_token take_lifetime take_mark take_group before rows_for rows run parse_rule
unsafe_word_other = not_read unsafe_word _ refl

-- `a`: nothing is read
unsafe_word_name : NotDerived (rule unsafe_word)
    (leaf (ident (97 ∷ [])) (at 0 1) end)
unfolding left is_end lookahead_at sees take_token take_lifetime take_mark take_group before rows_for rows run parse_rule
unsafe_word_name = not_read unsafe_word _ refl

-- no tokens: nothing is read
unsafe_word_nothing : NotDerived (rule unsafe_word)
    (end)
unfolding left is_end lookahead_at sees take_token take_lifetime take_mark take_group before rows_for rows run parse_rule
unsafe_word_nothing = not_read unsafe_word _ refl

-- `=`: nothing is read
meta_value_empty : NotDerived (rule meta_value)
    (punct 61 false (at 0 1) end)
unfolding left is_end lookahead_at sees take_token take_lifetime take_mark take_group before rows_for rows run parse_rule
meta_value_empty = not_read meta_value _ refl

-- `= "text"` prints `= "text"`
value_text : DerivesAs meta_value
    (punct 61 false (at 0 1) (leaf (literal Str (34 ∷ 116 ∷ 101 ∷ 120 ∷ 116 ∷ 34 ∷ [])) (at 2 8) end))
    (punct 61 false call_site (leaf (literal Str (34 ∷ 116 ∷ 101 ∷ 120 ∷ 116 ∷ 34 ∷ [])) call_site end))
    (end)
unfolding left is_end lookahead_at sees take_token take_lifetime take_mark take_group before rows_for rows run parse_rule
value_text = computed meta_value _ _ _ refl

-- `[] []` prints `[ ]` and leaves `[]`
value_leaves_brackets : DerivesAs meta_value
    (group Bracket (at 0 1) (at 1 2) end (group Bracket (at 3 4) (at 4 5) end end))
    (group Bracket call_site call_site end end)
    (group Bracket (at 3 4) (at 4 5) end end)
unfolding left is_end lookahead_at sees take_token take_lifetime take_mark take_group before rows_for rows run parse_rule
value_leaves_brackets = computed meta_value _ _ _ refl

-- `{} {}` prints `{ }` and leaves `{}`
value_leaves_braces : DerivesAs meta_value
    (group Brace (at 0 1) (at 1 2) end (group Brace (at 3 4) (at 4 5) end end))
    (group Brace call_site call_site end end)
    (group Brace (at 3 4) (at 4 5) end end)
unfolding left is_end lookahead_at sees take_token take_lifetime take_mark take_group before rows_for rows run parse_rule
value_leaves_braces = computed meta_value _ _ _ refl

-- `() ()` prints `( )` and leaves `()`
value_leaves_parentheses : DerivesAs meta_value
    (group Paren (at 0 1) (at 1 2) end (group Paren (at 3 4) (at 4 5) end end))
    (group Paren call_site call_site end end)
    (group Paren (at 3 4) (at 4 5) end end)
unfolding left is_end lookahead_at sees take_token take_lifetime take_mark take_group before rows_for rows run parse_rule
value_leaves_parentheses = computed meta_value _ _ _ refl

-- no tokens prints ``
value_none : DerivesAs meta_value
    (end)
    (end)
    (end)
unfolding left is_end lookahead_at sees take_token take_lifetime take_mark take_group before rows_for rows run parse_rule
value_none = computed meta_value _ _ _ refl

-- `#![a]` prints `# ! [ a ]`
inner_one : DerivesAs inner_attributes
    (punct 35 true (at 0 1) (punct 33 false (at 1 2) (group Bracket (at 2 3) (at 4 5) (leaf (ident (97 ∷ [])) (at 3 4) end) end)))
    (punct 35 false call_site (punct 33 false call_site (group Bracket call_site call_site (leaf (ident (97 ∷ [])) call_site end) end)))
    (end)
unfolding left is_end lookahead_at sees take_token take_lifetime take_mark take_group before rows_for rows run parse_rule
inner_one = computed inner_attributes _ _ _ refl

-- `#![a] #![b(c)] #[d]` prints `# ! [ a ] # ! [ b ( c ) ]` and leaves `#[d]`
inner_two : DerivesAs inner_attributes
    (punct 35 true (at 0 1) (punct 33 false (at 1 2) (group Bracket (at 2 3) (at 4 5) (leaf (ident (97 ∷ [])) (at 3 4) end) (punct 35 true (at 6 7) (punct 33 false (at 7 8) (group Bracket (at 8 9) (at 13 14) (leaf (ident (98 ∷ [])) (at 9 10) (group Paren (at 10 11) (at 12 13) (leaf (ident (99 ∷ [])) (at 11 12) end) end)) (punct 35 false (at 15 16) (group Bracket (at 16 17) (at 18 19) (leaf (ident (100 ∷ [])) (at 17 18) end) end))))))))
    (punct 35 false call_site (punct 33 false call_site (group Bracket call_site call_site (leaf (ident (97 ∷ [])) call_site end) (punct 35 false call_site (punct 33 false call_site (group Bracket call_site call_site (leaf (ident (98 ∷ [])) call_site (group Paren call_site call_site (leaf (ident (99 ∷ [])) call_site end) end)) end))))))
    (punct 35 false (at 15 16) (group Bracket (at 16 17) (at 18 19) (leaf (ident (100 ∷ [])) (at 17 18) end) end))
unfolding left is_end lookahead_at sees take_token take_lifetime take_mark take_group before rows_for rows run parse_rule
inner_two = computed inner_attributes _ _ _ refl

-- `#![a::b = c d]` prints `# ! [ a :: b = c d ]`
inner_value : DerivesAs inner_attributes
    (punct 35 true (at 0 1) (punct 33 false (at 1 2) (group Bracket (at 2 3) (at 13 14) (leaf (ident (97 ∷ [])) (at 3 4) (punct 58 true (at 4 5) (punct 58 false (at 5 6) (leaf (ident (98 ∷ [])) (at 6 7) (punct 61 false (at 8 9) (leaf (ident (99 ∷ [])) (at 10 11) (leaf (ident (100 ∷ [])) (at 12 13) end))))))) end)))
    (punct 35 false call_site (punct 33 false call_site (group Bracket call_site call_site (leaf (ident (97 ∷ [])) call_site (punct 58 true call_site (punct 58 false call_site (leaf (ident (98 ∷ [])) call_site (punct 61 false call_site (leaf (ident (99 ∷ [])) call_site (leaf (ident (100 ∷ [])) call_site end))))))) end)))
    (end)
unfolding left is_end lookahead_at sees take_token take_lifetime take_mark take_group before rows_for rows run parse_rule
inner_value = computed inner_attributes _ _ _ refl

-- `#![unsafe(a)]` prints `# ! [ unsafe ( a ) ]`
inner_unsafe : DerivesAs inner_attributes
    (punct 35 true (at 0 1) (punct 33 false (at 1 2) (group Bracket (at 2 3) (at 12 13) (leaf (ident w_unsafe) (at 3 9) (group Paren (at 9 10) (at 11 12) (leaf (ident (97 ∷ [])) (at 10 11) end) end)) end)))
    (punct 35 false call_site (punct 33 false call_site (group Bracket call_site call_site (leaf (ident w_unsafe) call_site (group Paren call_site call_site (leaf (ident (97 ∷ [])) call_site end) end)) end)))
    (end)
unfolding left is_end lookahead_at sees take_token take_lifetime take_mark take_group before rows_for rows run parse_rule
inner_unsafe = computed inner_attributes _ _ _ refl

-- no tokens prints ``
inner_none : DerivesAs inner_attributes
    (end)
    (end)
    (end)
unfolding left is_end lookahead_at sees take_token take_lifetime take_mark take_group before rows_for rows run parse_rule
inner_none = computed inner_attributes _ _ _ refl

-- `a` prints `` and leaves `a`
inner_leaves_name : DerivesAs inner_attributes
    (leaf (ident (97 ∷ [])) (at 0 1) end)
    (end)
    (leaf (ident (97 ∷ [])) (at 0 1) end)
unfolding left is_end lookahead_at sees take_token take_lifetime take_mark take_group before rows_for rows run parse_rule
inner_leaves_name = computed inner_attributes _ _ _ refl

-- `#[a]` prints `` and leaves `#[a]`
inner_leaves_outer : DerivesAs inner_attributes
    (punct 35 false (at 0 1) (group Bracket (at 1 2) (at 3 4) (leaf (ident (97 ∷ [])) (at 2 3) end) end))
    (end)
    (punct 35 false (at 0 1) (group Bracket (at 1 2) (at 3 4) (leaf (ident (97 ∷ [])) (at 2 3) end) end))
unfolding left is_end lookahead_at sees take_token take_lifetime take_mark take_group before rows_for rows run parse_rule
inner_leaves_outer = computed inner_attributes _ _ _ refl

-- `#` prints `` and leaves `#`
inner_leaves_pound : DerivesAs inner_attributes
    (punct 35 false (at 0 1) end)
    (end)
    (punct 35 false (at 0 1) end)
unfolding left is_end lookahead_at sees take_token take_lifetime take_mark take_group before rows_for rows run parse_rule
inner_leaves_pound = computed inner_attributes _ _ _ refl

-- `![a]` prints `` and leaves `![a]`
inner_leaves_bang : DerivesAs inner_attributes
    (punct 33 false (at 0 1) (group Bracket (at 1 2) (at 3 4) (leaf (ident (97 ∷ [])) (at 2 3) end) end))
    (end)
    (punct 33 false (at 0 1) (group Bracket (at 1 2) (at 3 4) (leaf (ident (97 ∷ [])) (at 2 3) end) end))
unfolding left is_end lookahead_at sees take_token take_lifetime take_mark take_group before rows_for rows run parse_rule
inner_leaves_bang = computed inner_attributes _ _ _ refl

-- `a!{}` prints `` and leaves `a!{}`
inner_leaves_macro : DerivesAs inner_attributes
    (leaf (ident (97 ∷ [])) (at 0 1) (punct 33 false (at 1 2) (group Brace (at 2 3) (at 3 4) end end)))
    (end)
    (leaf (ident (97 ∷ [])) (at 0 1) (punct 33 false (at 1 2) (group Brace (at 2 3) (at 3 4) end end)))
unfolding left is_end lookahead_at sees take_token take_lifetime take_mark take_group before rows_for rows run parse_rule
inner_leaves_macro = computed inner_attributes _ _ _ refl

-- `##![a]` prints `` and leaves `##![a]`
inner_leaves_two_pounds : DerivesAs inner_attributes
    (punct 35 true (at 0 1) (punct 35 true (at 1 2) (punct 33 false (at 2 3) (group Bracket (at 3 4) (at 5 6) (leaf (ident (97 ∷ [])) (at 4 5) end) end))))
    (end)
    (punct 35 true (at 0 1) (punct 35 true (at 1 2) (punct 33 false (at 2 3) (group Bracket (at 3 4) (at 5 6) (leaf (ident (97 ∷ [])) (at 4 5) end) end))))
unfolding left is_end lookahead_at sees take_token take_lifetime take_mark take_group before rows_for rows run parse_rule
inner_leaves_two_pounds = computed inner_attributes _ _ _ refl

-- `[a]` prints `` and leaves `[a]`
inner_leaves_group : DerivesAs inner_attributes
    (group Bracket (at 0 1) (at 2 3) (leaf (ident (97 ∷ [])) (at 1 2) end) end)
    (end)
    (group Bracket (at 0 1) (at 2 3) (leaf (ident (97 ∷ [])) (at 1 2) end) end)
unfolding left is_end lookahead_at sees take_token take_lifetime take_mark take_group before rows_for rows run parse_rule
inner_leaves_group = computed inner_attributes _ _ _ refl

-- `#![a]#` prints `# ! [ a ]` and leaves `#`
inner_after_pound : DerivesAs inner_attributes
    (punct 35 true (at 0 1) (punct 33 false (at 1 2) (group Bracket (at 2 3) (at 4 5) (leaf (ident (97 ∷ [])) (at 3 4) end) (punct 35 false (at 5 6) end))))
    (punct 35 false call_site (punct 33 false call_site (group Bracket call_site call_site (leaf (ident (97 ∷ [])) call_site end) end)))
    (punct 35 false (at 5 6) end)
unfolding left is_end lookahead_at sees take_token take_lifetime take_mark take_group before rows_for rows run parse_rule
inner_after_pound = computed inner_attributes _ _ _ refl

-- `#![a]!` prints `# ! [ a ]` and leaves `!`
inner_after_bang : DerivesAs inner_attributes
    (punct 35 true (at 0 1) (punct 33 false (at 1 2) (group Bracket (at 2 3) (at 4 5) (leaf (ident (97 ∷ [])) (at 3 4) end) (punct 33 false (at 5 6) end))))
    (punct 35 false call_site (punct 33 false call_site (group Bracket call_site call_site (leaf (ident (97 ∷ [])) call_site end) end)))
    (punct 33 false (at 5 6) end)
unfolding left is_end lookahead_at sees take_token take_lifetime take_mark take_group before rows_for rows run parse_rule
inner_after_bang = computed inner_attributes _ _ _ refl

-- `#![a][b]` prints `# ! [ a ]` and leaves `[b]`
inner_after_group : DerivesAs inner_attributes
    (punct 35 true (at 0 1) (punct 33 false (at 1 2) (group Bracket (at 2 3) (at 4 5) (leaf (ident (97 ∷ [])) (at 3 4) end) (group Bracket (at 5 6) (at 7 8) (leaf (ident (98 ∷ [])) (at 6 7) end) end))))
    (punct 35 false call_site (punct 33 false call_site (group Bracket call_site call_site (leaf (ident (97 ∷ [])) call_site end) end)))
    (group Bracket (at 5 6) (at 7 8) (leaf (ident (98 ∷ [])) (at 6 7) end) end)
unfolding left is_end lookahead_at sees take_token take_lifetime take_mark take_group before rows_for rows run parse_rule
inner_after_group = computed inner_attributes _ _ _ refl

-- `#![a] b` prints `# ! [ a ]` and leaves `b`
inner_after_name : DerivesAs inner_attributes
    (punct 35 true (at 0 1) (punct 33 false (at 1 2) (group Bracket (at 2 3) (at 4 5) (leaf (ident (97 ∷ [])) (at 3 4) end) (leaf (ident (98 ∷ [])) (at 6 7) end))))
    (punct 35 false call_site (punct 33 false call_site (group Bracket call_site call_site (leaf (ident (97 ∷ [])) call_site end) end)))
    (leaf (ident (98 ∷ [])) (at 6 7) end)
unfolding left is_end lookahead_at sees take_token take_lifetime take_mark take_group before rows_for rows run parse_rule
inner_after_name = computed inner_attributes _ _ _ refl

-- `#![a] #!`: nothing is read
inner_after_end : NotDerived (rule inner_attributes)
    (punct 35 true (at 0 1) (punct 33 false (at 1 2) (group Bracket (at 2 3) (at 4 5) (leaf (ident (97 ∷ [])) (at 3 4) end) (punct 35 true (at 6 7) (punct 33 false (at 7 8) end)))))
unfolding left is_end lookahead_at sees take_token take_lifetime take_mark take_group before rows_for rows run parse_rule
inner_after_end = not_read inner_attributes _ refl

-- `#!![a]`: nothing is read
inner_two_bangs : NotDerived (rule inner_attributes)
    (punct 35 true (at 0 1) (punct 33 true (at 1 2) (punct 33 false (at 2 3) (group Bracket (at 3 4) (at 5 6) (leaf (ident (97 ∷ [])) (at 4 5) end) end))))
unfolding left is_end lookahead_at sees take_token take_lifetime take_mark take_group before rows_for rows run parse_rule
inner_two_bangs = not_read inner_attributes _ refl

-- `#!`: nothing is read
inner_no_group : NotDerived (rule inner_attributes)
    (punct 35 true (at 0 1) (punct 33 false (at 1 2) end))
unfolding left is_end lookahead_at sees take_token take_lifetime take_mark take_group before rows_for rows run parse_rule
inner_no_group = not_read inner_attributes _ refl

-- `#!a`: nothing is read
inner_name_first : NotDerived (rule inner_attributes)
    (punct 35 true (at 0 1) (punct 33 false (at 1 2) (leaf (ident (97 ∷ [])) (at 2 3) end)))
unfolding left is_end lookahead_at sees take_token take_lifetime take_mark take_group before rows_for rows run parse_rule
inner_name_first = not_read inner_attributes _ refl

-- `#[a]!` prints `` and leaves `#[a]!`
inner_group_first : DerivesAs inner_attributes
    (punct 35 false (at 0 1) (group Bracket (at 1 2) (at 3 4) (leaf (ident (97 ∷ [])) (at 2 3) end) (punct 33 false (at 4 5) end)))
    (end)
    (punct 35 false (at 0 1) (group Bracket (at 1 2) (at 3 4) (leaf (ident (97 ∷ [])) (at 2 3) end) (punct 33 false (at 4 5) end)))
unfolding left is_end lookahead_at sees take_token take_lifetime take_mark take_group before rows_for rows run parse_rule
inner_group_first = computed inner_attributes _ _ _ refl

-- `#![a] [b] #![c]` prints `# ! [ a ]` and leaves `[b] #![c]`
inner_two_groups : DerivesAs inner_attributes
    (punct 35 true (at 0 1) (punct 33 false (at 1 2) (group Bracket (at 2 3) (at 4 5) (leaf (ident (97 ∷ [])) (at 3 4) end) (group Bracket (at 6 7) (at 8 9) (leaf (ident (98 ∷ [])) (at 7 8) end) (punct 35 true (at 10 11) (punct 33 false (at 11 12) (group Bracket (at 12 13) (at 14 15) (leaf (ident (99 ∷ [])) (at 13 14) end) end)))))))
    (punct 35 false call_site (punct 33 false call_site (group Bracket call_site call_site (leaf (ident (97 ∷ [])) call_site end) end)))
    (group Bracket (at 6 7) (at 8 9) (leaf (ident (98 ∷ [])) (at 7 8) end) (punct 35 true (at 10 11) (punct 33 false (at 11 12) (group Bracket (at 12 13) (at 14 15) (leaf (ident (99 ∷ [])) (at 13 14) end) end))))
unfolding left is_end lookahead_at sees take_token take_lifetime take_mark take_group before rows_for rows run parse_rule
inner_two_groups = computed inner_attributes _ _ _ refl

-- `#![]`: nothing is read
inner_empty : NotDerived (rule inner_attributes)
    (punct 35 true (at 0 1) (punct 33 false (at 1 2) (group Bracket (at 2 3) (at 3 4) end end)))
unfolding left is_end lookahead_at sees take_token take_lifetime take_mark take_group before rows_for rows run parse_rule
inner_empty = not_read inner_attributes _ refl

-- `#![a b]`: nothing is read
inner_two_paths : NotDerived (rule inner_attributes)
    (punct 35 true (at 0 1) (punct 33 false (at 1 2) (group Bracket (at 2 3) (at 6 7) (leaf (ident (97 ∷ [])) (at 3 4) (leaf (ident (98 ∷ [])) (at 5 6) end)) end)))
unfolding left is_end lookahead_at sees take_token take_lifetime take_mark take_group before rows_for rows run parse_rule
inner_two_paths = not_read inner_attributes _ refl

-- `#![= a]`: nothing is read
inner_value_alone : NotDerived (rule inner_attributes)
    (punct 35 true (at 0 1) (punct 33 false (at 1 2) (group Bracket (at 2 3) (at 6 7) (punct 61 false (at 3 4) (leaf (ident (97 ∷ [])) (at 5 6) end)) end)))
unfolding left is_end lookahead_at sees take_token take_lifetime take_mark take_group before rows_for rows run parse_rule
inner_value_alone = not_read inner_attributes _ refl

-- `#![(a)]`: nothing is read
inner_values : NotDerived (rule inner_attributes)
    (punct 35 true (at 0 1) (punct 33 false (at 1 2) (group Bracket (at 2 3) (at 6 7) (group Paren (at 3 4) (at 5 6) (leaf (ident (97 ∷ [])) (at 4 5) end) end) end)))
unfolding left is_end lookahead_at sees take_token take_lifetime take_mark take_group before rows_for rows run parse_rule
inner_values = not_read inner_attributes _ refl

-- `#![#![a]]`: nothing is read
inner_in_inner : NotDerived (rule inner_attributes)
    (punct 35 true (at 0 1) (punct 33 false (at 1 2) (group Bracket (at 2 3) (at 8 9) (punct 35 true (at 3 4) (punct 33 false (at 4 5) (group Bracket (at 5 6) (at 7 8) (leaf (ident (97 ∷ [])) (at 6 7) end) end))) end)))
unfolding left is_end lookahead_at sees take_token take_lifetime take_mark take_group before rows_for rows run parse_rule
inner_in_inner = not_read inner_attributes _ refl

-- `#!(a)`: nothing is read
inner_in_parentheses : NotDerived (rule inner_attributes)
    (punct 35 true (at 0 1) (punct 33 false (at 1 2) (group Paren (at 2 3) (at 4 5) (leaf (ident (97 ∷ [])) (at 3 4) end) end)))
unfolding left is_end lookahead_at sees take_token take_lifetime take_mark take_group before rows_for rows run parse_rule
inner_in_parentheses = not_read inner_attributes _ refl

-- `#!{a}`: nothing is read
inner_in_braces : NotDerived (rule inner_attributes)
    (punct 35 true (at 0 1) (punct 33 false (at 1 2) (group Brace (at 2 3) (at 4 5) (leaf (ident (97 ∷ [])) (at 3 4) end) end)))
unfolding left is_end lookahead_at sees take_token take_lifetime take_mark take_group before rows_for rows run parse_rule
inner_in_braces = not_read inner_attributes _ refl
