-- Written by tools/grammar.py from specs/Table.antt; edits are lost.
-- Worked examples of structs, enums, unions and inputs of derives, from tools/examples.txt: what each rule reads, prints and refuses. The checker computes each.
use Rattle.std.proofs.Common.{true, false, [], ◌∷◌, refl}
use Rattle.syn_grammar.specs.Words.{w_underscore, w_as, w_const, w_crate, w_enum, w_fn, w_in, w_pub, w_Self_type, w_self, w_struct, w_super, w_where, w_union, w_auto, w_default, w_safe}
use Rattle.syn_grammar.specs.Tokens.{call_site, Paren, Brace, Bracket, None, Int, ident, literal, end, leaf, punct, group}
use Rattle.syn_grammar.specs.Rules.{structure, structure_rest, structure_body, enumeration, enumeration_rest, union_item, union_item_rest, derive_input}
use Rattle.syn_grammar.specs.Grammar.{rule}
use Rattle.syn_grammar.specs.Take.{left, is_end, lookahead_at, sees, take_token, take_lifetime, take_mark, take_group, before}
use Rattle.syn_grammar.specs.Run.{rows_for, rows, run, parse_rule}
use Rattle.syn_grammar.specs.Promises.{Refused, NotDerived}
use Rattle.syn_grammar.proofs.Means.{not_derived}
use Rattle.syn_grammar.proofs.Shown.{at, DerivesAs, computed, not_read}

-- `pub struct A(u8);` prints `pub struct A ( u8 ) ;`
struct_tuple : DerivesAs structure
    (leaf (ident w_pub) (at 0 3) (leaf (ident w_struct) (at 4 10) (leaf (ident (65 ∷ [])) (at 11 12) (group Paren (at 12 13) (at 15 16) (leaf (ident (117 ∷ 56 ∷ [])) (at 13 15) end) (punct 59 false (at 16 17) end)))))
    (leaf (ident w_pub) call_site (leaf (ident w_struct) call_site (leaf (ident (65 ∷ [])) call_site (group Paren call_site call_site (leaf (ident (117 ∷ 56 ∷ [])) call_site end) (punct 59 false call_site end)))))
    (end)
unfolding left is_end lookahead_at sees take_token take_lifetime take_mark take_group before rows_for rows run parse_rule
struct_tuple = computed structure _ _ _ refl

-- `struct A;?` prints `struct A ;` and leaves `?`
struct_joint : DerivesAs structure
    (leaf (ident w_struct) (at 0 6) (leaf (ident (65 ∷ [])) (at 7 8) (punct 59 true (at 8 9) (punct 63 false (at 9 10) end))))
    (leaf (ident w_struct) call_site (leaf (ident (65 ∷ [])) call_site (punct 59 false call_site end)))
    (punct 63 false (at 9 10) end)
unfolding left is_end lookahead_at sees take_token take_lifetime take_mark take_group before rows_for rows run parse_rule
struct_joint = computed structure _ _ _ refl

-- `struct fn;`: nothing is read
struct_keyword : NotDerived (rule structure)
    (leaf (ident w_struct) (at 0 6) (leaf (ident w_fn) (at 7 9) (punct 59 false (at 9 10) end)))
unfolding left is_end lookahead_at sees take_token take_lifetime take_mark take_group before rows_for rows run parse_rule
struct_keyword = not_read structure _ refl

-- `struct in;`: nothing is read
struct_named_in : NotDerived (rule structure)
    (leaf (ident w_struct) (at 0 6) (leaf (ident w_in) (at 7 9) (punct 59 false (at 9 10) end)))
unfolding left is_end lookahead_at sees take_token take_lifetime take_mark take_group before rows_for rows run parse_rule
struct_named_in = not_read structure _ refl

-- `struct S<T: A + 'b, const N: u8 = 3>([T; 3]) where T: ;` prints `struct S < T : A + 'b , const N : u8 = 3 > ( [ T ; 3 ] ) where T : ;`
struct_generic : DerivesAs structure
    (leaf (ident w_struct) (at 0 6) (leaf (ident (83 ∷ [])) (at 7 8) (punct 60 false (at 8 9) (leaf (ident (84 ∷ [])) (at 9 10) (punct 58 false (at 10 11) (leaf (ident (65 ∷ [])) (at 12 13) (punct 43 false (at 14 15) (punct 39 true (at 16 17) (leaf (ident (98 ∷ [])) (at 17 18) (punct 44 false (at 18 19) (leaf (ident w_const) (at 20 25) (leaf (ident (78 ∷ [])) (at 26 27) (punct 58 false (at 27 28) (leaf (ident (117 ∷ 56 ∷ [])) (at 29 31) (punct 61 false (at 32 33) (leaf (literal Int (51 ∷ [])) (at 34 35) (punct 62 false (at 35 36) (group Paren (at 36 37) (at 43 44) (group Bracket (at 37 38) (at 42 43) (leaf (ident (84 ∷ [])) (at 38 39) (punct 59 false (at 39 40) (leaf (literal Int (51 ∷ [])) (at 41 42) end))) end) (leaf (ident w_where) (at 45 50) (leaf (ident (84 ∷ [])) (at 51 52) (punct 58 false (at 52 53) (punct 59 false (at 54 55) end))))))))))))))))))))))
    (leaf (ident w_struct) call_site (leaf (ident (83 ∷ [])) call_site (punct 60 false call_site (leaf (ident (84 ∷ [])) call_site (punct 58 false call_site (leaf (ident (65 ∷ [])) call_site (punct 43 false call_site (punct 39 true call_site (leaf (ident (98 ∷ [])) call_site (punct 44 false call_site (leaf (ident w_const) call_site (leaf (ident (78 ∷ [])) call_site (punct 58 false call_site (leaf (ident (117 ∷ 56 ∷ [])) call_site (punct 61 false call_site (leaf (literal Int (51 ∷ [])) call_site (punct 62 false call_site (group Paren call_site call_site (group Bracket call_site call_site (leaf (ident (84 ∷ [])) call_site (punct 59 false call_site (leaf (literal Int (51 ∷ [])) call_site end))) end) (leaf (ident w_where) call_site (leaf (ident (84 ∷ [])) call_site (punct 58 false call_site (punct 59 false call_site end))))))))))))))))))))))
    (end)
unfolding left is_end lookahead_at sees take_token take_lifetime take_mark take_group before rows_for rows run parse_rule
struct_generic = computed structure _ _ _ refl

-- `struct S<> where {}` prints `struct S { }`
struct_no_generics : DerivesAs structure
    (leaf (ident w_struct) (at 0 6) (leaf (ident (83 ∷ [])) (at 7 8) (punct 60 true (at 8 9) (punct 62 false (at 9 10) (leaf (ident w_where) (at 11 16) (group Brace (at 17 18) (at 18 19) end end))))))
    (leaf (ident w_struct) call_site (leaf (ident (83 ∷ [])) call_site (group Brace call_site call_site end end)))
    (end)
unfolding left is_end lookahead_at sees take_token take_lifetime take_mark take_group before rows_for rows run parse_rule
struct_no_generics = computed structure _ _ _ refl

-- `struct S<T, 'a>(A<T, 'a>);` prints `struct S < 'a , T , > ( A < 'a , T , > ) ;`
struct_sorted : DerivesAs structure
    (leaf (ident w_struct) (at 0 6) (leaf (ident (83 ∷ [])) (at 7 8) (punct 60 false (at 8 9) (leaf (ident (84 ∷ [])) (at 9 10) (punct 44 false (at 10 11) (punct 39 true (at 12 13) (leaf (ident (97 ∷ [])) (at 13 14) (punct 62 false (at 14 15) (group Paren (at 15 16) (at 24 25) (leaf (ident (65 ∷ [])) (at 16 17) (punct 60 false (at 17 18) (leaf (ident (84 ∷ [])) (at 18 19) (punct 44 false (at 19 20) (punct 39 true (at 21 22) (leaf (ident (97 ∷ [])) (at 22 23) (punct 62 false (at 23 24) end))))))) (punct 59 false (at 25 26) end))))))))))
    (leaf (ident w_struct) call_site (leaf (ident (83 ∷ [])) call_site (punct 60 false call_site (punct 39 true call_site (leaf (ident (97 ∷ [])) call_site (punct 44 false call_site (leaf (ident (84 ∷ [])) call_site (punct 44 false call_site (punct 62 false call_site (group Paren call_site call_site (leaf (ident (65 ∷ [])) call_site (punct 60 false call_site (punct 39 true call_site (leaf (ident (97 ∷ [])) call_site (punct 44 false call_site (leaf (ident (84 ∷ [])) call_site (punct 44 false call_site (punct 62 false call_site end)))))))) (punct 59 false call_site end)))))))))))
    (end)
unfolding left is_end lookahead_at sees take_token take_lifetime take_mark take_group before rows_for rows run parse_rule
struct_sorted = computed structure _ _ _ refl

-- `struct S<T: A<B<C>>>(<T as A<B>>::D, &&'a T);` prints `struct S < T : A < B < C > > > ( < T as A < B > > :: D , & & 'a T ) ;`
struct_greater : DerivesAs structure
    (leaf (ident w_struct) (at 0 6) (leaf (ident (83 ∷ [])) (at 7 8) (punct 60 false (at 8 9) (leaf (ident (84 ∷ [])) (at 9 10) (punct 58 false (at 10 11) (leaf (ident (65 ∷ [])) (at 12 13) (punct 60 false (at 13 14) (leaf (ident (66 ∷ [])) (at 14 15) (punct 60 false (at 15 16) (leaf (ident (67 ∷ [])) (at 16 17) (punct 62 true (at 17 18) (punct 62 true (at 18 19) (punct 62 false (at 19 20) (group Paren (at 20 21) (at 43 44) (punct 60 false (at 21 22) (leaf (ident (84 ∷ [])) (at 22 23) (leaf (ident w_as) (at 24 26) (leaf (ident (65 ∷ [])) (at 27 28) (punct 60 false (at 28 29) (leaf (ident (66 ∷ [])) (at 29 30) (punct 62 true (at 30 31) (punct 62 true (at 31 32) (punct 58 true (at 32 33) (punct 58 false (at 33 34) (leaf (ident (68 ∷ [])) (at 34 35) (punct 44 false (at 35 36) (punct 38 true (at 37 38) (punct 38 true (at 38 39) (punct 39 true (at 39 40) (leaf (ident (97 ∷ [])) (at 40 41) (leaf (ident (84 ∷ [])) (at 42 43) end))))))))))))))))) (punct 59 false (at 44 45) end)))))))))))))))
    (leaf (ident w_struct) call_site (leaf (ident (83 ∷ [])) call_site (punct 60 false call_site (leaf (ident (84 ∷ [])) call_site (punct 58 false call_site (leaf (ident (65 ∷ [])) call_site (punct 60 false call_site (leaf (ident (66 ∷ [])) call_site (punct 60 false call_site (leaf (ident (67 ∷ [])) call_site (punct 62 false call_site (punct 62 false call_site (punct 62 false call_site (group Paren call_site call_site (punct 60 false call_site (leaf (ident (84 ∷ [])) call_site (leaf (ident w_as) call_site (leaf (ident (65 ∷ [])) call_site (punct 60 false call_site (leaf (ident (66 ∷ [])) call_site (punct 62 false call_site (punct 62 false call_site (punct 58 true call_site (punct 58 false call_site (leaf (ident (68 ∷ [])) call_site (punct 44 false call_site (punct 38 false call_site (punct 38 false call_site (punct 39 true call_site (leaf (ident (97 ∷ [])) call_site (leaf (ident (84 ∷ [])) call_site end))))))))))))))))) (punct 59 false call_site end)))))))))))))))
    (end)
unfolding left is_end lookahead_at sees take_token take_lifetime take_mark take_group before rows_for rows run parse_rule
struct_greater = computed structure _ _ _ refl

-- `struct S where T: A (u8);` prints `struct S where T : A ( u8 ) ;`
struct_where_named : DerivesAs structure
    (leaf (ident w_struct) (at 0 6) (leaf (ident (83 ∷ [])) (at 7 8) (leaf (ident w_where) (at 9 14) (leaf (ident (84 ∷ [])) (at 15 16) (punct 58 false (at 16 17) (leaf (ident (65 ∷ [])) (at 18 19) (group Paren (at 20 21) (at 23 24) (leaf (ident (117 ∷ 56 ∷ [])) (at 21 23) end) (punct 59 false (at 24 25) end))))))))
    (leaf (ident w_struct) call_site (leaf (ident (83 ∷ [])) call_site (leaf (ident w_where) call_site (leaf (ident (84 ∷ [])) call_site (punct 58 false call_site (leaf (ident (65 ∷ [])) call_site (group Paren call_site call_site (leaf (ident (117 ∷ 56 ∷ [])) call_site end) (punct 59 false call_site end))))))))
    (end)
unfolding left is_end lookahead_at sees take_token take_lifetime take_mark take_group before rows_for rows run parse_rule
struct_where_named = computed structure _ _ _ refl

-- `struct S(u8 = 1);`: nothing is read
struct_default : NotDerived (rule structure)
    (leaf (ident w_struct) (at 0 6) (leaf (ident (83 ∷ [])) (at 7 8) (group Paren (at 8 9) (at 15 16) (leaf (ident (117 ∷ 56 ∷ [])) (at 9 11) (punct 61 false (at 12 13) (leaf (literal Int (49 ∷ [])) (at 14 15) end))) (punct 59 false (at 16 17) end))))
unfolding left is_end lookahead_at sees take_token take_lifetime take_mark take_group before rows_for rows run parse_rule
struct_default = not_read structure _ refl

-- `#[a] pub struct S { a: u8 }` prints `# [ a ] pub struct S { a : u8 }`
struct_attribute : DerivesAs structure
    (punct 35 false (at 0 1) (group Bracket (at 1 2) (at 3 4) (leaf (ident (97 ∷ [])) (at 2 3) end) (leaf (ident w_pub) (at 5 8) (leaf (ident w_struct) (at 9 15) (leaf (ident (83 ∷ [])) (at 16 17) (group Brace (at 18 19) (at 26 27) (leaf (ident (97 ∷ [])) (at 20 21) (punct 58 false (at 21 22) (leaf (ident (117 ∷ 56 ∷ [])) (at 23 25) end))) end))))))
    (punct 35 false call_site (group Bracket call_site call_site (leaf (ident (97 ∷ [])) call_site end) (leaf (ident w_pub) call_site (leaf (ident w_struct) call_site (leaf (ident (83 ∷ [])) call_site (group Brace call_site call_site (leaf (ident (97 ∷ [])) call_site (punct 58 false call_site (leaf (ident (117 ∷ 56 ∷ [])) call_site end))) end))))))
    (end)
unfolding left is_end lookahead_at sees take_token take_lifetime take_mark take_group before rows_for rows run parse_rule
struct_attribute = computed structure _ _ _ refl

-- no tokens: nothing is read
struct_nothing : NotDerived (rule structure)
    (end)
unfolding left is_end lookahead_at sees take_token take_lifetime take_mark take_group before rows_for rows run parse_rule
struct_nothing = not_read structure _ refl

-- `struct a; #` prints `struct a ;` and leaves `#`
struct_leaves_pound : DerivesAs structure
    (leaf (ident w_struct) (at 0 6) (leaf (ident (97 ∷ [])) (at 7 8) (punct 59 false (at 8 9) (punct 35 false (at 10 11) end))))
    (leaf (ident w_struct) call_site (leaf (ident (97 ∷ [])) call_site (punct 59 false call_site end)))
    (punct 35 false (at 10 11) end)
unfolding left is_end lookahead_at sees take_token take_lifetime take_mark take_group before rows_for rows run parse_rule
struct_leaves_pound = computed structure _ _ _ refl

-- `struct a; struct` prints `struct a ;` and leaves `struct`
struct_leaves_struct : DerivesAs structure
    (leaf (ident w_struct) (at 0 6) (leaf (ident (97 ∷ [])) (at 7 8) (punct 59 false (at 8 9) (leaf (ident w_struct) (at 10 16) end))))
    (leaf (ident w_struct) call_site (leaf (ident (97 ∷ [])) call_site (punct 59 false call_site end)))
    (leaf (ident w_struct) (at 10 16) end)
unfolding left is_end lookahead_at sees take_token take_lifetime take_mark take_group before rows_for rows run parse_rule
struct_leaves_struct = computed structure _ _ _ refl

-- `#[a] \(\) struct S { \(\) a: u8 }` prints `# [ a ] struct S { a : u8 }`
struct_invisible : DerivesAs structure
    (punct 35 false (at 0 1) (group Bracket (at 1 2) (at 3 4) (leaf (ident (97 ∷ [])) (at 2 3) end) (group None (at 5 7) (at 7 9) end (leaf (ident w_struct) (at 10 16) (leaf (ident (83 ∷ [])) (at 17 18) (group Brace (at 19 20) (at 32 33) (group None (at 21 23) (at 23 25) end (leaf (ident (97 ∷ [])) (at 26 27) (punct 58 false (at 27 28) (leaf (ident (117 ∷ 56 ∷ [])) (at 29 31) end)))) end))))))
    (punct 35 false call_site (group Bracket call_site call_site (leaf (ident (97 ∷ [])) call_site end) (leaf (ident w_struct) call_site (leaf (ident (83 ∷ [])) call_site (group Brace call_site call_site (leaf (ident (97 ∷ [])) call_site (punct 58 false call_site (leaf (ident (117 ∷ 56 ∷ [])) call_site end))) end)))))
    (end)
unfolding left is_end lookahead_at sees take_token take_lifetime take_mark take_group before rows_for rows run parse_rule
struct_invisible = computed structure _ _ _ refl

-- `pub struct S<T>(T);` prints `pub struct S < T > ( T ) ;`
struct_rest_tuple : DerivesAs structure_rest
    (leaf (ident w_pub) (at 0 3) (leaf (ident w_struct) (at 4 10) (leaf (ident (83 ∷ [])) (at 11 12) (punct 60 false (at 12 13) (leaf (ident (84 ∷ [])) (at 13 14) (punct 62 false (at 14 15) (group Paren (at 15 16) (at 17 18) (leaf (ident (84 ∷ [])) (at 16 17) end) (punct 59 false (at 18 19) end))))))))
    (leaf (ident w_pub) call_site (leaf (ident w_struct) call_site (leaf (ident (83 ∷ [])) call_site (punct 60 false call_site (leaf (ident (84 ∷ [])) call_site (punct 62 false call_site (group Paren call_site call_site (leaf (ident (84 ∷ [])) call_site end) (punct 59 false call_site end))))))))
    (end)
unfolding left is_end lookahead_at sees take_token take_lifetime take_mark take_group before rows_for rows run parse_rule
struct_rest_tuple = computed structure_rest _ _ _ refl

-- `struct a;;` prints `struct a ;` and leaves `;`
struct_rest_leaves_semicolon : DerivesAs structure_rest
    (leaf (ident w_struct) (at 0 6) (leaf (ident (97 ∷ [])) (at 7 8) (punct 59 true (at 8 9) (punct 59 false (at 9 10) end))))
    (leaf (ident w_struct) call_site (leaf (ident (97 ∷ [])) call_site (punct 59 false call_site end)))
    (punct 59 false (at 9 10) end)
unfolding left is_end lookahead_at sees take_token take_lifetime take_mark take_group before rows_for rows run parse_rule
struct_rest_leaves_semicolon = computed structure_rest _ _ _ refl

-- `struct a b;`: nothing is read
struct_rest_two_names : NotDerived (rule structure_rest)
    (leaf (ident w_struct) (at 0 6) (leaf (ident (97 ∷ [])) (at 7 8) (leaf (ident (98 ∷ [])) (at 9 10) (punct 59 false (at 10 11) end))))
unfolding left is_end lookahead_at sees take_token take_lifetime take_mark take_group before rows_for rows run parse_rule
struct_rest_two_names = not_read structure_rest _ refl

-- `a;`: nothing is read
struct_rest_no_word : NotDerived (rule structure_rest)
    (leaf (ident (97 ∷ [])) (at 0 1) (punct 59 false (at 1 2) end))
unfolding left is_end lookahead_at sees take_token take_lifetime take_mark take_group before rows_for rows run parse_rule
struct_rest_no_word = not_read structure_rest _ refl

-- `struct _;`: nothing is read
struct_rest_underscore : NotDerived (rule structure_rest)
    (leaf (ident w_struct) (at 0 6) (leaf (ident w_underscore) (at 7 8) (punct 59 false (at 8 9) end)))
unfolding left is_end lookahead_at sees take_token take_lifetime take_mark take_group before rows_for rows run parse_rule
struct_rest_underscore = not_read structure_rest _ refl

-- `struct; a;`: nothing is read
struct_rest_body_before_name : NotDerived (rule structure_rest)
    (leaf (ident w_struct) (at 0 6) (punct 59 false (at 6 7) (leaf (ident (97 ∷ [])) (at 8 9) (punct 59 false (at 9 10) end))))
unfolding left is_end lookahead_at sees take_token take_lifetime take_mark take_group before rows_for rows run parse_rule
struct_rest_body_before_name = not_read structure_rest _ refl

-- `a struct b;`: nothing is read
struct_rest_name_first : NotDerived (rule structure_rest)
    (leaf (ident (97 ∷ [])) (at 0 1) (leaf (ident w_struct) (at 2 8) (leaf (ident (98 ∷ [])) (at 9 10) (punct 59 false (at 10 11) end))))
unfolding left is_end lookahead_at sees take_token take_lifetime take_mark take_group before rows_for rows run parse_rule
struct_rest_name_first = not_read structure_rest _ refl

-- `; struct a;`: nothing is read
struct_rest_body_first : NotDerived (rule structure_rest)
    (punct 59 false (at 0 1) (leaf (ident w_struct) (at 2 8) (leaf (ident (97 ∷ [])) (at 9 10) (punct 59 false (at 10 11) end))))
unfolding left is_end lookahead_at sees take_token take_lifetime take_mark take_group before rows_for rows run parse_rule
struct_rest_body_first = not_read structure_rest _ refl

-- `a b;`: nothing is read
struct_rest_other_word : NotDerived (rule structure_rest)
    (leaf (ident (97 ∷ [])) (at 0 1) (leaf (ident (98 ∷ [])) (at 2 3) (punct 59 false (at 3 4) end)))
unfolding left is_end lookahead_at sees take_token take_lifetime take_mark take_group before rows_for rows run parse_rule
struct_rest_other_word = not_read structure_rest _ refl

-- `<> struct a;`: nothing is read
struct_rest_generics_first : NotDerived (rule structure_rest)
    (punct 60 true (at 0 1) (punct 62 false (at 1 2) (leaf (ident w_struct) (at 3 9) (leaf (ident (97 ∷ [])) (at 10 11) (punct 59 false (at 11 12) end)))))
unfolding left is_end lookahead_at sees take_token take_lifetime take_mark take_group before rows_for rows run parse_rule
struct_rest_generics_first = not_read structure_rest _ refl

-- `struct a pub;`: nothing is read
struct_rest_public_after : NotDerived (rule structure_rest)
    (leaf (ident w_struct) (at 0 6) (leaf (ident (97 ∷ [])) (at 7 8) (leaf (ident w_pub) (at 9 12) (punct 59 false (at 12 13) end))))
unfolding left is_end lookahead_at sees take_token take_lifetime take_mark take_group before rows_for rows run parse_rule
struct_rest_public_after = not_read structure_rest _ refl

-- `struct a struct;`: nothing is read
struct_rest_word_after : NotDerived (rule structure_rest)
    (leaf (ident w_struct) (at 0 6) (leaf (ident (97 ∷ [])) (at 7 8) (leaf (ident w_struct) (at 9 15) (punct 59 false (at 15 16) end))))
unfolding left is_end lookahead_at sees take_token take_lifetime take_mark take_group before rows_for rows run parse_rule
struct_rest_word_after = not_read structure_rest _ refl

-- `struct fn;`: nothing is read
struct_rest_keyword : NotDerived (rule structure_rest)
    (leaf (ident w_struct) (at 0 6) (leaf (ident w_fn) (at 7 9) (punct 59 false (at 9 10) end)))
unfolding left is_end lookahead_at sees take_token take_lifetime take_mark take_group before rows_for rows run parse_rule
struct_rest_keyword = not_read structure_rest _ refl

-- `struct a; b` prints `struct a ;` and leaves `b`
struct_rest_leaves_name : DerivesAs structure_rest
    (leaf (ident w_struct) (at 0 6) (leaf (ident (97 ∷ [])) (at 7 8) (punct 59 false (at 8 9) (leaf (ident (98 ∷ [])) (at 10 11) end))))
    (leaf (ident w_struct) call_site (leaf (ident (97 ∷ [])) call_site (punct 59 false call_site end)))
    (leaf (ident (98 ∷ [])) (at 10 11) end)
unfolding left is_end lookahead_at sees take_token take_lifetime take_mark take_group before rows_for rows run parse_rule
struct_rest_leaves_name = computed structure_rest _ _ _ refl

-- `struct a; <` prints `struct a ;` and leaves `<`
struct_rest_leaves_less : DerivesAs structure_rest
    (leaf (ident w_struct) (at 0 6) (leaf (ident (97 ∷ [])) (at 7 8) (punct 59 false (at 8 9) (punct 60 false (at 10 11) end))))
    (leaf (ident w_struct) call_site (leaf (ident (97 ∷ [])) call_site (punct 59 false call_site end)))
    (punct 60 false (at 10 11) end)
unfolding left is_end lookahead_at sees take_token take_lifetime take_mark take_group before rows_for rows run parse_rule
struct_rest_leaves_less = computed structure_rest _ _ _ refl

-- `struct 1;`: nothing is read
struct_rest_number : NotDerived (rule structure_rest)
    (leaf (ident w_struct) (at 0 6) (leaf (literal Int (49 ∷ [])) (at 7 8) (punct 59 false (at 8 9) end)))
unfolding left is_end lookahead_at sees take_token take_lifetime take_mark take_group before rows_for rows run parse_rule
struct_rest_number = not_read structure_rest _ refl

-- `struct<> a;`: nothing is read
struct_rest_generics_before_name : NotDerived (rule structure_rest)
    (leaf (ident w_struct) (at 0 6) (punct 60 true (at 6 7) (punct 62 false (at 7 8) (leaf (ident (97 ∷ [])) (at 9 10) (punct 59 false (at 10 11) end)))))
unfolding left is_end lookahead_at sees take_token take_lifetime take_mark take_group before rows_for rows run parse_rule
struct_rest_generics_before_name = not_read structure_rest _ refl

-- `struct pub a;`: nothing is read
struct_rest_public_name : NotDerived (rule structure_rest)
    (leaf (ident w_struct) (at 0 6) (leaf (ident w_pub) (at 7 10) (leaf (ident (97 ∷ [])) (at 11 12) (punct 59 false (at 12 13) end))))
unfolding left is_end lookahead_at sees take_token take_lifetime take_mark take_group before rows_for rows run parse_rule
struct_rest_public_name = not_read structure_rest _ refl

-- `struct a<> <>;`: nothing is read
struct_rest_generics_twice : NotDerived (rule structure_rest)
    (leaf (ident w_struct) (at 0 6) (leaf (ident (97 ∷ [])) (at 7 8) (punct 60 true (at 8 9) (punct 62 false (at 9 10) (punct 60 true (at 11 12) (punct 62 true (at 12 13) (punct 59 false (at 13 14) end)))))))
unfolding left is_end lookahead_at sees take_token take_lifetime take_mark take_group before rows_for rows run parse_rule
struct_rest_generics_twice = not_read structure_rest _ refl

-- `struct a; pub` prints `struct a ;` and leaves `pub`
struct_rest_leaves_public : DerivesAs structure_rest
    (leaf (ident w_struct) (at 0 6) (leaf (ident (97 ∷ [])) (at 7 8) (punct 59 false (at 8 9) (leaf (ident w_pub) (at 10 13) end))))
    (leaf (ident w_struct) call_site (leaf (ident (97 ∷ [])) call_site (punct 59 false call_site end)))
    (leaf (ident w_pub) (at 10 13) end)
unfolding left is_end lookahead_at sees take_token take_lifetime take_mark take_group before rows_for rows run parse_rule
struct_rest_leaves_public = computed structure_rest _ _ _ refl

-- `struct struct;`: nothing is read
struct_rest_named_struct : NotDerived (rule structure_rest)
    (leaf (ident w_struct) (at 0 6) (leaf (ident w_struct) (at 7 13) (punct 59 false (at 13 14) end)))
unfolding left is_end lookahead_at sees take_token take_lifetime take_mark take_group before rows_for rows run parse_rule
struct_rest_named_struct = not_read structure_rest _ refl

-- `struct struct a;`: nothing is read
struct_rest_word_twice : NotDerived (rule structure_rest)
    (leaf (ident w_struct) (at 0 6) (leaf (ident w_struct) (at 7 13) (leaf (ident (97 ∷ [])) (at 14 15) (punct 59 false (at 15 16) end))))
unfolding left is_end lookahead_at sees take_token take_lifetime take_mark take_group before rows_for rows run parse_rule
struct_rest_word_twice = not_read structure_rest _ refl

-- `struct self;`: nothing is read
struct_rest_self : NotDerived (rule structure_rest)
    (leaf (ident w_struct) (at 0 6) (leaf (ident w_self) (at 7 11) (punct 59 false (at 11 12) end)))
unfolding left is_end lookahead_at sees take_token take_lifetime take_mark take_group before rows_for rows run parse_rule
struct_rest_self = not_read structure_rest _ refl

-- `struct safe;` prints `struct safe ;`
struct_rest_safe : DerivesAs structure_rest
    (leaf (ident w_struct) (at 0 6) (leaf (ident w_safe) (at 7 11) (punct 59 false (at 11 12) end)))
    (leaf (ident w_struct) call_site (leaf (ident w_safe) call_site (punct 59 false call_site end)))
    (end)
unfolding left is_end lookahead_at sees take_token take_lifetime take_mark take_group before rows_for rows run parse_rule
struct_rest_safe = computed structure_rest _ _ _ refl

-- `struct auto;` prints `struct auto ;`
struct_rest_auto : DerivesAs structure_rest
    (leaf (ident w_struct) (at 0 6) (leaf (ident w_auto) (at 7 11) (punct 59 false (at 11 12) end)))
    (leaf (ident w_struct) call_site (leaf (ident w_auto) call_site (punct 59 false call_site end)))
    (end)
unfolding left is_end lookahead_at sees take_token take_lifetime take_mark take_group before rows_for rows run parse_rule
struct_rest_auto = computed structure_rest _ _ _ refl

-- `struct a; struct` prints `struct a ;` and leaves `struct`
struct_rest_leaves_struct : DerivesAs structure_rest
    (leaf (ident w_struct) (at 0 6) (leaf (ident (97 ∷ [])) (at 7 8) (punct 59 false (at 8 9) (leaf (ident w_struct) (at 10 16) end))))
    (leaf (ident w_struct) call_site (leaf (ident (97 ∷ [])) call_site (punct 59 false call_site end)))
    (leaf (ident w_struct) (at 10 16) end)
unfolding left is_end lookahead_at sees take_token take_lifetime take_mark take_group before rows_for rows run parse_rule
struct_rest_leaves_struct = computed structure_rest _ _ _ refl

-- `struct Self;`: nothing is read
struct_rest_self_type : NotDerived (rule structure_rest)
    (leaf (ident w_struct) (at 0 6) (leaf (ident w_Self_type) (at 7 11) (punct 59 false (at 11 12) end)))
unfolding left is_end lookahead_at sees take_token take_lifetime take_mark take_group before rows_for rows run parse_rule
struct_rest_self_type = not_read structure_rest _ refl

-- `pub pub struct a;`: nothing is read
struct_rest_two_public : NotDerived (rule structure_rest)
    (leaf (ident w_pub) (at 0 3) (leaf (ident w_pub) (at 4 7) (leaf (ident w_struct) (at 8 14) (leaf (ident (97 ∷ [])) (at 15 16) (punct 59 false (at 16 17) end)))))
unfolding left is_end lookahead_at sees take_token take_lifetime take_mark take_group before rows_for rows run parse_rule
struct_rest_two_public = not_read structure_rest _ refl

-- `struct union;` prints `struct union ;`
struct_rest_union : DerivesAs structure_rest
    (leaf (ident w_struct) (at 0 6) (leaf (ident w_union) (at 7 12) (punct 59 false (at 12 13) end)))
    (leaf (ident w_struct) call_site (leaf (ident w_union) call_site (punct 59 false call_site end)))
    (end)
unfolding left is_end lookahead_at sees take_token take_lifetime take_mark take_group before rows_for rows run parse_rule
struct_rest_union = computed structure_rest _ _ _ refl

-- `struct super;`: nothing is read
struct_rest_super : NotDerived (rule structure_rest)
    (leaf (ident w_struct) (at 0 6) (leaf (ident w_super) (at 7 12) (punct 59 false (at 12 13) end)))
unfolding left is_end lookahead_at sees take_token take_lifetime take_mark take_group before rows_for rows run parse_rule
struct_rest_super = not_read structure_rest _ refl

-- `struct crate;`: nothing is read
struct_rest_crate : NotDerived (rule structure_rest)
    (leaf (ident w_struct) (at 0 6) (leaf (ident w_crate) (at 7 12) (punct 59 false (at 12 13) end)))
unfolding left is_end lookahead_at sees take_token take_lifetime take_mark take_group before rows_for rows run parse_rule
struct_rest_crate = not_read structure_rest _ refl

-- `struct default;` prints `struct default ;`
struct_rest_default : DerivesAs structure_rest
    (leaf (ident w_struct) (at 0 6) (leaf (ident w_default) (at 7 14) (punct 59 false (at 14 15) end)))
    (leaf (ident w_struct) call_site (leaf (ident w_default) call_site (punct 59 false call_site end)))
    (end)
unfolding left is_end lookahead_at sees take_token take_lifetime take_mark take_group before rows_for rows run parse_rule
struct_rest_default = computed structure_rest _ _ _ refl

-- `\(\) struct a;` prints `struct a ;`
struct_rest_invisible : DerivesAs structure_rest
    (group None (at 0 2) (at 2 4) end (leaf (ident w_struct) (at 5 11) (leaf (ident (97 ∷ [])) (at 12 13) (punct 59 false (at 13 14) end))))
    (leaf (ident w_struct) call_site (leaf (ident (97 ∷ [])) call_site (punct 59 false call_site end)))
    (end)
unfolding left is_end lookahead_at sees take_token take_lifetime take_mark take_group before rows_for rows run parse_rule
struct_rest_invisible = computed structure_rest _ _ _ refl

-- `\(\) pub struct a;`: nothing is read
struct_rest_invisible_public : NotDerived (rule structure_rest)
    (group None (at 0 2) (at 2 4) end (leaf (ident w_pub) (at 5 8) (leaf (ident w_struct) (at 9 15) (leaf (ident (97 ∷ [])) (at 16 17) (punct 59 false (at 17 18) end)))))
unfolding left is_end lookahead_at sees take_token take_lifetime take_mark take_group before rows_for rows run parse_rule
struct_rest_invisible_public = not_read structure_rest _ refl

-- `pub \(\) struct a;`: nothing is read
struct_rest_public_invisible : NotDerived (rule structure_rest)
    (leaf (ident w_pub) (at 0 3) (group None (at 4 6) (at 6 8) end (leaf (ident w_struct) (at 9 15) (leaf (ident (97 ∷ [])) (at 16 17) (punct 59 false (at 17 18) end)))))
unfolding left is_end lookahead_at sees take_token take_lifetime take_mark take_group before rows_for rows run parse_rule
struct_rest_public_invisible = not_read structure_rest _ refl

-- `\(\) \(\) struct a;`: nothing is read
struct_rest_invisible_twice : NotDerived (rule structure_rest)
    (group None (at 0 2) (at 2 4) end (group None (at 5 7) (at 7 9) end (leaf (ident w_struct) (at 10 16) (leaf (ident (97 ∷ [])) (at 17 18) (punct 59 false (at 18 19) end)))))
unfolding left is_end lookahead_at sees take_token take_lifetime take_mark take_group before rows_for rows run parse_rule
struct_rest_invisible_twice = not_read structure_rest _ refl

-- `\(a\) struct b;`: nothing is read
struct_rest_invisible_name : NotDerived (rule structure_rest)
    (group None (at 0 2) (at 3 5) (leaf (ident (97 ∷ [])) (at 2 3) end) (leaf (ident w_struct) (at 6 12) (leaf (ident (98 ∷ [])) (at 13 14) (punct 59 false (at 14 15) end))))
unfolding left is_end lookahead_at sees take_token take_lifetime take_mark take_group before rows_for rows run parse_rule
struct_rest_invisible_name = not_read structure_rest _ refl

-- `;` prints `;`
body_unit : DerivesAs structure_body
    (punct 59 false (at 0 1) end)
    (punct 59 false call_site end)
    (end)
unfolding left is_end lookahead_at sees take_token take_lifetime take_mark take_group before rows_for rows run parse_rule
body_unit = computed structure_body _ _ _ refl

-- `(a);` prints `( a ) ;`
body_tuple : DerivesAs structure_body
    (group Paren (at 0 1) (at 2 3) (leaf (ident (97 ∷ [])) (at 1 2) end) (punct 59 false (at 3 4) end))
    (group Paren call_site call_site (leaf (ident (97 ∷ [])) call_site end) (punct 59 false call_site end))
    (end)
unfolding left is_end lookahead_at sees take_token take_lifetime take_mark take_group before rows_for rows run parse_rule
body_tuple = computed structure_body _ _ _ refl

-- `(a)`: nothing is read
body_no_semicolon : NotDerived (rule structure_body)
    (group Paren (at 0 1) (at 2 3) (leaf (ident (97 ∷ [])) (at 1 2) end) end)
unfolding left is_end lookahead_at sees take_token take_lifetime take_mark take_group before rows_for rows run parse_rule
body_no_semicolon = not_read structure_body _ refl

-- `where T: A { a: T }` prints `where T : A { a : T }`
body_where_named : DerivesAs structure_body
    (leaf (ident w_where) (at 0 5) (leaf (ident (84 ∷ [])) (at 6 7) (punct 58 false (at 7 8) (leaf (ident (65 ∷ [])) (at 9 10) (group Brace (at 11 12) (at 18 19) (leaf (ident (97 ∷ [])) (at 13 14) (punct 58 false (at 14 15) (leaf (ident (84 ∷ [])) (at 16 17) end))) end)))))
    (leaf (ident w_where) call_site (leaf (ident (84 ∷ [])) call_site (punct 58 false call_site (leaf (ident (65 ∷ [])) call_site (group Brace call_site call_site (leaf (ident (97 ∷ [])) call_site (punct 58 false call_site (leaf (ident (84 ∷ [])) call_site end))) end)))))
    (end)
unfolding left is_end lookahead_at sees take_token take_lifetime take_mark take_group before rows_for rows run parse_rule
body_where_named = computed structure_body _ _ _ refl

-- `,`: nothing is read
body_comma : NotDerived (rule structure_body)
    (punct 44 false (at 0 1) end)
unfolding left is_end lookahead_at sees take_token take_lifetime take_mark take_group before rows_for rows run parse_rule
body_comma = not_read structure_body _ refl

-- `{} {}` prints `{ }` and leaves `{}`
body_leaves_braces : DerivesAs structure_body
    (group Brace (at 0 1) (at 1 2) end (group Brace (at 3 4) (at 4 5) end end))
    (group Brace call_site call_site end end)
    (group Brace (at 3 4) (at 4 5) end end)
unfolding left is_end lookahead_at sees take_token take_lifetime take_mark take_group before rows_for rows run parse_rule
body_leaves_braces = computed structure_body _ _ _ refl

-- `() where;` prints `( ) ;`
body_tuple_where : DerivesAs structure_body
    (group Paren (at 0 1) (at 1 2) end (leaf (ident w_where) (at 3 8) (punct 59 false (at 8 9) end)))
    (group Paren call_site call_site end (punct 59 false call_site end))
    (end)
unfolding left is_end lookahead_at sees take_token take_lifetime take_mark take_group before rows_for rows run parse_rule
body_tuple_where = computed structure_body _ _ _ refl

-- `() ();`: nothing is read
body_two_tuples : NotDerived (rule structure_body)
    (group Paren (at 0 1) (at 1 2) end (group Paren (at 3 4) (at 4 5) end (punct 59 false (at 5 6) end)))
unfolding left is_end lookahead_at sees take_token take_lifetime take_mark take_group before rows_for rows run parse_rule
body_two_tuples = not_read structure_body _ refl

-- `;;` prints `;` and leaves `;`
body_two_semicolons : DerivesAs structure_body
    (punct 59 true (at 0 1) (punct 59 false (at 1 2) end))
    (punct 59 false call_site end)
    (punct 59 false (at 1 2) end)
unfolding left is_end lookahead_at sees take_token take_lifetime take_mark take_group before rows_for rows run parse_rule
body_two_semicolons = computed structure_body _ _ _ refl

-- `();;` prints `( ) ;` and leaves `;`
body_tuple_two_semicolons : DerivesAs structure_body
    (group Paren (at 0 1) (at 1 2) end (punct 59 true (at 2 3) (punct 59 false (at 3 4) end)))
    (group Paren call_site call_site end (punct 59 false call_site end))
    (punct 59 false (at 3 4) end)
unfolding left is_end lookahead_at sees take_token take_lifetime take_mark take_group before rows_for rows run parse_rule
body_tuple_two_semicolons = computed structure_body _ _ _ refl

-- `(); ()` prints `( ) ;` and leaves `()`
body_tuple_leaves_parentheses : DerivesAs structure_body
    (group Paren (at 0 1) (at 1 2) end (punct 59 false (at 2 3) (group Paren (at 4 5) (at 5 6) end end)))
    (group Paren call_site call_site end (punct 59 false call_site end))
    (group Paren (at 4 5) (at 5 6) end end)
unfolding left is_end lookahead_at sees take_token take_lifetime take_mark take_group before rows_for rows run parse_rule
body_tuple_leaves_parentheses = computed structure_body _ _ _ refl

-- `; where` prints `;` and leaves `where`
body_unit_leaves_where : DerivesAs structure_body
    (punct 59 false (at 0 1) (leaf (ident w_where) (at 2 7) end))
    (punct 59 false call_site end)
    (leaf (ident w_where) (at 2 7) end)
unfolding left is_end lookahead_at sees take_token take_lifetime take_mark take_group before rows_for rows run parse_rule
body_unit_leaves_where = computed structure_body _ _ _ refl

-- `(#[a] b);` prints `( # [ a ] b ) ;`
body_tuple_attribute : DerivesAs structure_body
    (group Paren (at 0 1) (at 7 8) (punct 35 false (at 1 2) (group Bracket (at 2 3) (at 4 5) (leaf (ident (97 ∷ [])) (at 3 4) end) (leaf (ident (98 ∷ [])) (at 6 7) end))) (punct 59 false (at 8 9) end))
    (group Paren call_site call_site (punct 35 false call_site (group Bracket call_site call_site (leaf (ident (97 ∷ [])) call_site end) (leaf (ident (98 ∷ [])) call_site end))) (punct 59 false call_site end))
    (end)
unfolding left is_end lookahead_at sees take_token take_lifetime take_mark take_group before rows_for rows run parse_rule
body_tuple_attribute = computed structure_body _ _ _ refl

-- `(); where` prints `( ) ;` and leaves `where`
body_tuple_leaves_where : DerivesAs structure_body
    (group Paren (at 0 1) (at 1 2) end (punct 59 false (at 2 3) (leaf (ident w_where) (at 4 9) end)))
    (group Paren call_site call_site end (punct 59 false call_site end))
    (leaf (ident w_where) (at 4 9) end)
unfolding left is_end lookahead_at sees take_token take_lifetime take_mark take_group before rows_for rows run parse_rule
body_tuple_leaves_where = computed structure_body _ _ _ refl

-- `() where 'a: where;`: nothing is read
body_where_inside_where : NotDerived (rule structure_body)
    (group Paren (at 0 1) (at 1 2) end (leaf (ident w_where) (at 3 8) (punct 39 true (at 9 10) (leaf (ident (97 ∷ [])) (at 10 11) (punct 58 false (at 11 12) (leaf (ident w_where) (at 13 18) (punct 59 false (at 18 19) end)))))))
unfolding left is_end lookahead_at sees take_token take_lifetime take_mark take_group before rows_for rows run parse_rule
body_where_inside_where = not_read structure_body _ refl

-- `where a: b where c: d;`: nothing is read
body_two_where : NotDerived (rule structure_body)
    (leaf (ident w_where) (at 0 5) (leaf (ident (97 ∷ [])) (at 6 7) (punct 58 false (at 7 8) (leaf (ident (98 ∷ [])) (at 9 10) (leaf (ident w_where) (at 11 16) (leaf (ident (99 ∷ [])) (at 17 18) (punct 58 false (at 18 19) (leaf (ident (100 ∷ [])) (at 20 21) (punct 59 false (at 21 22) end)))))))))
unfolding left is_end lookahead_at sees take_token take_lifetime take_mark take_group before rows_for rows run parse_rule
body_two_where = not_read structure_body _ refl

-- `enum E { A = 1, B(u8), C {} }` prints `enum E { A = 1 , B ( u8 ) , C { } }`
enum_values : DerivesAs enumeration
    (leaf (ident w_enum) (at 0 4) (leaf (ident (69 ∷ [])) (at 5 6) (group Brace (at 7 8) (at 28 29) (leaf (ident (65 ∷ [])) (at 9 10) (punct 61 false (at 11 12) (leaf (literal Int (49 ∷ [])) (at 13 14) (punct 44 false (at 14 15) (leaf (ident (66 ∷ [])) (at 16 17) (group Paren (at 17 18) (at 20 21) (leaf (ident (117 ∷ 56 ∷ [])) (at 18 20) end) (punct 44 false (at 21 22) (leaf (ident (67 ∷ [])) (at 23 24) (group Brace (at 25 26) (at 26 27) end end))))))))) end)))
    (leaf (ident w_enum) call_site (leaf (ident (69 ∷ [])) call_site (group Brace call_site call_site (leaf (ident (65 ∷ [])) call_site (punct 61 false call_site (leaf (literal Int (49 ∷ [])) call_site (punct 44 false call_site (leaf (ident (66 ∷ [])) call_site (group Paren call_site call_site (leaf (ident (117 ∷ 56 ∷ [])) call_site end) (punct 44 false call_site (leaf (ident (67 ∷ [])) call_site (group Brace call_site call_site end end))))))))) end)))
    (end)
unfolding left is_end lookahead_at sees take_token take_lifetime take_mark take_group before rows_for rows run parse_rule
enum_values = computed enumeration _ _ _ refl

-- `enum E { pub A }` prints `enum E { A }`
enum_visible : DerivesAs enumeration
    (leaf (ident w_enum) (at 0 4) (leaf (ident (69 ∷ [])) (at 5 6) (group Brace (at 7 8) (at 15 16) (leaf (ident w_pub) (at 9 12) (leaf (ident (65 ∷ [])) (at 13 14) end)) end)))
    (leaf (ident w_enum) call_site (leaf (ident (69 ∷ [])) call_site (group Brace call_site call_site (leaf (ident (65 ∷ [])) call_site end) end)))
    (end)
unfolding left is_end lookahead_at sees take_token take_lifetime take_mark take_group before rows_for rows run parse_rule
enum_visible = computed enumeration _ _ _ refl

-- `enum E { A } ;` is refused
enum_semicolon : Refused enumeration
    (leaf (ident w_enum) (at 0 4) (leaf (ident (69 ∷ [])) (at 5 6) (group Brace (at 7 8) (at 11 12) (leaf (ident (65 ∷ [])) (at 9 10) end) (punct 59 false (at 13 14) end))))
unfolding left is_end lookahead_at sees take_token take_lifetime take_mark take_group before rows_for rows run parse_rule
enum_semicolon = not_derived enumeration _ refl

-- `#[a] enum E {}` prints `# [ a ] enum E { }`
enum_attribute : DerivesAs enumeration
    (punct 35 false (at 0 1) (group Bracket (at 1 2) (at 3 4) (leaf (ident (97 ∷ [])) (at 2 3) end) (leaf (ident w_enum) (at 5 9) (leaf (ident (69 ∷ [])) (at 10 11) (group Brace (at 12 13) (at 13 14) end end)))))
    (punct 35 false call_site (group Bracket call_site call_site (leaf (ident (97 ∷ [])) call_site end) (leaf (ident w_enum) call_site (leaf (ident (69 ∷ [])) call_site (group Brace call_site call_site end end)))))
    (end)
unfolding left is_end lookahead_at sees take_token take_lifetime take_mark take_group before rows_for rows run parse_rule
enum_attribute = computed enumeration _ _ _ refl

-- no tokens: nothing is read
enum_nothing : NotDerived (rule enumeration)
    (end)
unfolding left is_end lookahead_at sees take_token take_lifetime take_mark take_group before rows_for rows run parse_rule
enum_nothing = not_read enumeration _ refl

-- `enum a {} #` prints `enum a { }` and leaves `#`
enum_leaves_pound : DerivesAs enumeration
    (leaf (ident w_enum) (at 0 4) (leaf (ident (97 ∷ [])) (at 5 6) (group Brace (at 7 8) (at 8 9) end (punct 35 false (at 10 11) end))))
    (leaf (ident w_enum) call_site (leaf (ident (97 ∷ [])) call_site (group Brace call_site call_site end end)))
    (punct 35 false (at 10 11) end)
unfolding left is_end lookahead_at sees take_token take_lifetime take_mark take_group before rows_for rows run parse_rule
enum_leaves_pound = computed enumeration _ _ _ refl

-- `enum a {} enum` prints `enum a { }` and leaves `enum`
enum_leaves_enum : DerivesAs enumeration
    (leaf (ident w_enum) (at 0 4) (leaf (ident (97 ∷ [])) (at 5 6) (group Brace (at 7 8) (at 8 9) end (leaf (ident w_enum) (at 10 14) end))))
    (leaf (ident w_enum) call_site (leaf (ident (97 ∷ [])) call_site (group Brace call_site call_site end end)))
    (leaf (ident w_enum) (at 10 14) end)
unfolding left is_end lookahead_at sees take_token take_lifetime take_mark take_group before rows_for rows run parse_rule
enum_leaves_enum = computed enumeration _ _ _ refl

-- `\(\) enum E { \(\) A }` prints `enum E { A }`
enum_invisible : DerivesAs enumeration
    (group None (at 0 2) (at 2 4) end (leaf (ident w_enum) (at 5 9) (leaf (ident (69 ∷ [])) (at 10 11) (group Brace (at 12 13) (at 21 22) (group None (at 14 16) (at 16 18) end (leaf (ident (65 ∷ [])) (at 19 20) end)) end))))
    (leaf (ident w_enum) call_site (leaf (ident (69 ∷ [])) call_site (group Brace call_site call_site (leaf (ident (65 ∷ [])) call_site end) end)))
    (end)
unfolding left is_end lookahead_at sees take_token take_lifetime take_mark take_group before rows_for rows run parse_rule
enum_invisible = computed enumeration _ _ _ refl

-- `enum E<T> where T: A { B(T) }` prints `enum E < T > where T : A { B ( T ) }`
enum_rest_generic : DerivesAs enumeration_rest
    (leaf (ident w_enum) (at 0 4) (leaf (ident (69 ∷ [])) (at 5 6) (punct 60 false (at 6 7) (leaf (ident (84 ∷ [])) (at 7 8) (punct 62 false (at 8 9) (leaf (ident w_where) (at 10 15) (leaf (ident (84 ∷ [])) (at 16 17) (punct 58 false (at 17 18) (leaf (ident (65 ∷ [])) (at 19 20) (group Brace (at 21 22) (at 28 29) (leaf (ident (66 ∷ [])) (at 23 24) (group Paren (at 24 25) (at 26 27) (leaf (ident (84 ∷ [])) (at 25 26) end) end)) end))))))))))
    (leaf (ident w_enum) call_site (leaf (ident (69 ∷ [])) call_site (punct 60 false call_site (leaf (ident (84 ∷ [])) call_site (punct 62 false call_site (leaf (ident w_where) call_site (leaf (ident (84 ∷ [])) call_site (punct 58 false call_site (leaf (ident (65 ∷ [])) call_site (group Brace call_site call_site (leaf (ident (66 ∷ [])) call_site (group Paren call_site call_site (leaf (ident (84 ∷ [])) call_site end) end)) end))))))))))
    (end)
unfolding left is_end lookahead_at sees take_token take_lifetime take_mark take_group before rows_for rows run parse_rule
enum_rest_generic = computed enumeration_rest _ _ _ refl

-- `enum a {} b` prints `enum a { }` and leaves `b`
enum_rest_leaves_name : DerivesAs enumeration_rest
    (leaf (ident w_enum) (at 0 4) (leaf (ident (97 ∷ [])) (at 5 6) (group Brace (at 7 8) (at 8 9) end (leaf (ident (98 ∷ [])) (at 10 11) end))))
    (leaf (ident w_enum) call_site (leaf (ident (97 ∷ [])) call_site (group Brace call_site call_site end end)))
    (leaf (ident (98 ∷ [])) (at 10 11) end)
unfolding left is_end lookahead_at sees take_token take_lifetime take_mark take_group before rows_for rows run parse_rule
enum_rest_leaves_name = computed enumeration_rest _ _ _ refl

-- `enum a b {}`: nothing is read
enum_rest_two_names : NotDerived (rule enumeration_rest)
    (leaf (ident w_enum) (at 0 4) (leaf (ident (97 ∷ [])) (at 5 6) (leaf (ident (98 ∷ [])) (at 7 8) (group Brace (at 9 10) (at 10 11) end end))))
unfolding left is_end lookahead_at sees take_token take_lifetime take_mark take_group before rows_for rows run parse_rule
enum_rest_two_names = not_read enumeration_rest _ refl

-- `enum a { b c }`: nothing is read
enum_rest_no_comma : NotDerived (rule enumeration_rest)
    (leaf (ident w_enum) (at 0 4) (leaf (ident (97 ∷ [])) (at 5 6) (group Brace (at 7 8) (at 13 14) (leaf (ident (98 ∷ [])) (at 9 10) (leaf (ident (99 ∷ [])) (at 11 12) end)) end)))
unfolding left is_end lookahead_at sees take_token take_lifetime take_mark take_group before rows_for rows run parse_rule
enum_rest_no_comma = not_read enumeration_rest _ refl

-- `enum a enum {}`: nothing is read
enum_rest_word_after : NotDerived (rule enumeration_rest)
    (leaf (ident w_enum) (at 0 4) (leaf (ident (97 ∷ [])) (at 5 6) (leaf (ident w_enum) (at 7 11) (group Brace (at 12 13) (at 13 14) end end))))
unfolding left is_end lookahead_at sees take_token take_lifetime take_mark take_group before rows_for rows run parse_rule
enum_rest_word_after = not_read enumeration_rest _ refl

-- `enum a pub {}`: nothing is read
enum_rest_public_after : NotDerived (rule enumeration_rest)
    (leaf (ident w_enum) (at 0 4) (leaf (ident (97 ∷ [])) (at 5 6) (leaf (ident w_pub) (at 7 10) (group Brace (at 11 12) (at 12 13) end end))))
unfolding left is_end lookahead_at sees take_token take_lifetime take_mark take_group before rows_for rows run parse_rule
enum_rest_public_after = not_read enumeration_rest _ refl

-- `enum _ {}`: nothing is read
enum_rest_underscore : NotDerived (rule enumeration_rest)
    (leaf (ident w_enum) (at 0 4) (leaf (ident w_underscore) (at 5 6) (group Brace (at 7 8) (at 8 9) end end)))
unfolding left is_end lookahead_at sees take_token take_lifetime take_mark take_group before rows_for rows run parse_rule
enum_rest_underscore = not_read enumeration_rest _ refl

-- `a enum b {}`: nothing is read
enum_rest_name_first : NotDerived (rule enumeration_rest)
    (leaf (ident (97 ∷ [])) (at 0 1) (leaf (ident w_enum) (at 2 6) (leaf (ident (98 ∷ [])) (at 7 8) (group Brace (at 9 10) (at 10 11) end end))))
unfolding left is_end lookahead_at sees take_token take_lifetime take_mark take_group before rows_for rows run parse_rule
enum_rest_name_first = not_read enumeration_rest _ refl

-- `{} enum a {}`: nothing is read
enum_rest_braces_first : NotDerived (rule enumeration_rest)
    (group Brace (at 0 1) (at 1 2) end (leaf (ident w_enum) (at 3 7) (leaf (ident (97 ∷ [])) (at 8 9) (group Brace (at 10 11) (at 11 12) end end))))
unfolding left is_end lookahead_at sees take_token take_lifetime take_mark take_group before rows_for rows run parse_rule
enum_rest_braces_first = not_read enumeration_rest _ refl

-- `enum {} a {}`: nothing is read
enum_rest_braces_before_name : NotDerived (rule enumeration_rest)
    (leaf (ident w_enum) (at 0 4) (group Brace (at 5 6) (at 6 7) end (leaf (ident (97 ∷ [])) (at 8 9) (group Brace (at 10 11) (at 11 12) end end))))
unfolding left is_end lookahead_at sees take_token take_lifetime take_mark take_group before rows_for rows run parse_rule
enum_rest_braces_before_name = not_read enumeration_rest _ refl

-- `<> enum a {}`: nothing is read
enum_rest_generics_first : NotDerived (rule enumeration_rest)
    (punct 60 true (at 0 1) (punct 62 false (at 1 2) (leaf (ident w_enum) (at 3 7) (leaf (ident (97 ∷ [])) (at 8 9) (group Brace (at 10 11) (at 11 12) end end)))))
unfolding left is_end lookahead_at sees take_token take_lifetime take_mark take_group before rows_for rows run parse_rule
enum_rest_generics_first = not_read enumeration_rest _ refl

-- `enum a<> <>{}`: nothing is read
enum_rest_generics_twice : NotDerived (rule enumeration_rest)
    (leaf (ident w_enum) (at 0 4) (leaf (ident (97 ∷ [])) (at 5 6) (punct 60 true (at 6 7) (punct 62 false (at 7 8) (punct 60 true (at 9 10) (punct 62 false (at 10 11) (group Brace (at 11 12) (at 12 13) end end)))))))
unfolding left is_end lookahead_at sees take_token take_lifetime take_mark take_group before rows_for rows run parse_rule
enum_rest_generics_twice = not_read enumeration_rest _ refl

-- `a {}`: nothing is read
enum_rest_no_word : NotDerived (rule enumeration_rest)
    (leaf (ident (97 ∷ [])) (at 0 1) (group Brace (at 2 3) (at 3 4) end end))
unfolding left is_end lookahead_at sees take_token take_lifetime take_mark take_group before rows_for rows run parse_rule
enum_rest_no_word = not_read enumeration_rest _ refl

-- `pub enum a {}` prints `pub enum a { }`
enum_rest_public : DerivesAs enumeration_rest
    (leaf (ident w_pub) (at 0 3) (leaf (ident w_enum) (at 4 8) (leaf (ident (97 ∷ [])) (at 9 10) (group Brace (at 11 12) (at 12 13) end end))))
    (leaf (ident w_pub) call_site (leaf (ident w_enum) call_site (leaf (ident (97 ∷ [])) call_site (group Brace call_site call_site end end))))
    (end)
unfolding left is_end lookahead_at sees take_token take_lifetime take_mark take_group before rows_for rows run parse_rule
enum_rest_public = computed enumeration_rest _ _ _ refl

-- `a b {}`: nothing is read
enum_rest_other_word : NotDerived (rule enumeration_rest)
    (leaf (ident (97 ∷ [])) (at 0 1) (leaf (ident (98 ∷ [])) (at 2 3) (group Brace (at 4 5) (at 5 6) end end)))
unfolding left is_end lookahead_at sees take_token take_lifetime take_mark take_group before rows_for rows run parse_rule
enum_rest_other_word = not_read enumeration_rest _ refl

-- `where 'a: enum b {}`: nothing is read
enum_rest_where_first : NotDerived (rule enumeration_rest)
    (leaf (ident w_where) (at 0 5) (punct 39 true (at 6 7) (leaf (ident (97 ∷ [])) (at 7 8) (punct 58 false (at 8 9) (leaf (ident w_enum) (at 10 14) (leaf (ident (98 ∷ [])) (at 15 16) (group Brace (at 17 18) (at 18 19) end end)))))))
unfolding left is_end lookahead_at sees take_token take_lifetime take_mark take_group before rows_for rows run parse_rule
enum_rest_where_first = not_read enumeration_rest _ refl

-- `enum a[]`: nothing is read
enum_rest_brackets : NotDerived (rule enumeration_rest)
    (leaf (ident w_enum) (at 0 4) (leaf (ident (97 ∷ [])) (at 5 6) (group Bracket (at 6 7) (at 7 8) end end)))
unfolding left is_end lookahead_at sees take_token take_lifetime take_mark take_group before rows_for rows run parse_rule
enum_rest_brackets = not_read enumeration_rest _ refl

-- `enum a()`: nothing is read
enum_rest_parentheses : NotDerived (rule enumeration_rest)
    (leaf (ident w_enum) (at 0 4) (leaf (ident (97 ∷ [])) (at 5 6) (group Paren (at 6 7) (at 7 8) end end)))
unfolding left is_end lookahead_at sees take_token take_lifetime take_mark take_group before rows_for rows run parse_rule
enum_rest_parentheses = not_read enumeration_rest _ refl

-- `enum 1 {}`: nothing is read
enum_rest_number : NotDerived (rule enumeration_rest)
    (leaf (ident w_enum) (at 0 4) (leaf (literal Int (49 ∷ [])) (at 5 6) (group Brace (at 7 8) (at 8 9) end end)))
unfolding left is_end lookahead_at sees take_token take_lifetime take_mark take_group before rows_for rows run parse_rule
enum_rest_number = not_read enumeration_rest _ refl

-- `enum a {} <` prints `enum a { }` and leaves `<`
enum_rest_leaves_less : DerivesAs enumeration_rest
    (leaf (ident w_enum) (at 0 4) (leaf (ident (97 ∷ [])) (at 5 6) (group Brace (at 7 8) (at 8 9) end (punct 60 false (at 10 11) end))))
    (leaf (ident w_enum) call_site (leaf (ident (97 ∷ [])) call_site (group Brace call_site call_site end end)))
    (punct 60 false (at 10 11) end)
unfolding left is_end lookahead_at sees take_token take_lifetime take_mark take_group before rows_for rows run parse_rule
enum_rest_leaves_less = computed enumeration_rest _ _ _ refl

-- `enum a where 'b: where {}`: nothing is read
enum_rest_where_twice : NotDerived (rule enumeration_rest)
    (leaf (ident w_enum) (at 0 4) (leaf (ident (97 ∷ [])) (at 5 6) (leaf (ident w_where) (at 7 12) (punct 39 true (at 13 14) (leaf (ident (98 ∷ [])) (at 14 15) (punct 58 false (at 15 16) (leaf (ident w_where) (at 17 22) (group Brace (at 23 24) (at 24 25) end end))))))))
unfolding left is_end lookahead_at sees take_token take_lifetime take_mark take_group before rows_for rows run parse_rule
enum_rest_where_twice = not_read enumeration_rest _ refl

-- `enum<> a {}`: nothing is read
enum_rest_generics_before_name : NotDerived (rule enumeration_rest)
    (leaf (ident w_enum) (at 0 4) (punct 60 true (at 4 5) (punct 62 false (at 5 6) (leaf (ident (97 ∷ [])) (at 7 8) (group Brace (at 9 10) (at 10 11) end end)))))
unfolding left is_end lookahead_at sees take_token take_lifetime take_mark take_group before rows_for rows run parse_rule
enum_rest_generics_before_name = not_read enumeration_rest _ refl

-- `enum a {} {}` prints `enum a { }` and leaves `{}`
enum_rest_leaves_braces : DerivesAs enumeration_rest
    (leaf (ident w_enum) (at 0 4) (leaf (ident (97 ∷ [])) (at 5 6) (group Brace (at 7 8) (at 8 9) end (group Brace (at 10 11) (at 11 12) end end))))
    (leaf (ident w_enum) call_site (leaf (ident (97 ∷ [])) call_site (group Brace call_site call_site end end)))
    (group Brace (at 10 11) (at 11 12) end end)
unfolding left is_end lookahead_at sees take_token take_lifetime take_mark take_group before rows_for rows run parse_rule
enum_rest_leaves_braces = computed enumeration_rest _ _ _ refl

-- `enum enum {}`: nothing is read
enum_rest_named_enum : NotDerived (rule enumeration_rest)
    (leaf (ident w_enum) (at 0 4) (leaf (ident w_enum) (at 5 9) (group Brace (at 10 11) (at 11 12) end end)))
unfolding left is_end lookahead_at sees take_token take_lifetime take_mark take_group before rows_for rows run parse_rule
enum_rest_named_enum = not_read enumeration_rest _ refl

-- `enum fn {}`: nothing is read
enum_rest_keyword : NotDerived (rule enumeration_rest)
    (leaf (ident w_enum) (at 0 4) (leaf (ident w_fn) (at 5 7) (group Brace (at 8 9) (at 9 10) end end)))
unfolding left is_end lookahead_at sees take_token take_lifetime take_mark take_group before rows_for rows run parse_rule
enum_rest_keyword = not_read enumeration_rest _ refl

-- `enum enum a {}`: nothing is read
enum_rest_word_twice : NotDerived (rule enumeration_rest)
    (leaf (ident w_enum) (at 0 4) (leaf (ident w_enum) (at 5 9) (leaf (ident (97 ∷ [])) (at 10 11) (group Brace (at 12 13) (at 13 14) end end))))
unfolding left is_end lookahead_at sees take_token take_lifetime take_mark take_group before rows_for rows run parse_rule
enum_rest_word_twice = not_read enumeration_rest _ refl

-- `enum a {} enum` prints `enum a { }` and leaves `enum`
enum_rest_leaves_enum : DerivesAs enumeration_rest
    (leaf (ident w_enum) (at 0 4) (leaf (ident (97 ∷ [])) (at 5 6) (group Brace (at 7 8) (at 8 9) end (leaf (ident w_enum) (at 10 14) end))))
    (leaf (ident w_enum) call_site (leaf (ident (97 ∷ [])) call_site (group Brace call_site call_site end end)))
    (leaf (ident w_enum) (at 10 14) end)
unfolding left is_end lookahead_at sees take_token take_lifetime take_mark take_group before rows_for rows run parse_rule
enum_rest_leaves_enum = computed enumeration_rest _ _ _ refl

-- `enum self {}`: nothing is read
enum_rest_self : NotDerived (rule enumeration_rest)
    (leaf (ident w_enum) (at 0 4) (leaf (ident w_self) (at 5 9) (group Brace (at 10 11) (at 11 12) end end)))
unfolding left is_end lookahead_at sees take_token take_lifetime take_mark take_group before rows_for rows run parse_rule
enum_rest_self = not_read enumeration_rest _ refl

-- `enum safe {}` prints `enum safe { }`
enum_rest_safe : DerivesAs enumeration_rest
    (leaf (ident w_enum) (at 0 4) (leaf (ident w_safe) (at 5 9) (group Brace (at 10 11) (at 11 12) end end)))
    (leaf (ident w_enum) call_site (leaf (ident w_safe) call_site (group Brace call_site call_site end end)))
    (end)
unfolding left is_end lookahead_at sees take_token take_lifetime take_mark take_group before rows_for rows run parse_rule
enum_rest_safe = computed enumeration_rest _ _ _ refl

-- `enum pub a {}`: nothing is read
enum_rest_public_name : NotDerived (rule enumeration_rest)
    (leaf (ident w_enum) (at 0 4) (leaf (ident w_pub) (at 5 8) (leaf (ident (97 ∷ [])) (at 9 10) (group Brace (at 11 12) (at 12 13) end end))))
unfolding left is_end lookahead_at sees take_token take_lifetime take_mark take_group before rows_for rows run parse_rule
enum_rest_public_name = not_read enumeration_rest _ refl

-- `enum auto {}` prints `enum auto { }`
enum_rest_auto : DerivesAs enumeration_rest
    (leaf (ident w_enum) (at 0 4) (leaf (ident w_auto) (at 5 9) (group Brace (at 10 11) (at 11 12) end end)))
    (leaf (ident w_enum) call_site (leaf (ident w_auto) call_site (group Brace call_site call_site end end)))
    (end)
unfolding left is_end lookahead_at sees take_token take_lifetime take_mark take_group before rows_for rows run parse_rule
enum_rest_auto = computed enumeration_rest _ _ _ refl

-- `enum a {} pub` prints `enum a { }` and leaves `pub`
enum_rest_leaves_public : DerivesAs enumeration_rest
    (leaf (ident w_enum) (at 0 4) (leaf (ident (97 ∷ [])) (at 5 6) (group Brace (at 7 8) (at 8 9) end (leaf (ident w_pub) (at 10 13) end))))
    (leaf (ident w_enum) call_site (leaf (ident (97 ∷ [])) call_site (group Brace call_site call_site end end)))
    (leaf (ident w_pub) (at 10 13) end)
unfolding left is_end lookahead_at sees take_token take_lifetime take_mark take_group before rows_for rows run parse_rule
enum_rest_leaves_public = computed enumeration_rest _ _ _ refl

-- `enum Self {}`: nothing is read
enum_rest_self_type : NotDerived (rule enumeration_rest)
    (leaf (ident w_enum) (at 0 4) (leaf (ident w_Self_type) (at 5 9) (group Brace (at 10 11) (at 11 12) end end)))
unfolding left is_end lookahead_at sees take_token take_lifetime take_mark take_group before rows_for rows run parse_rule
enum_rest_self_type = not_read enumeration_rest _ refl

-- `enum union {}` prints `enum union { }`
enum_rest_union : DerivesAs enumeration_rest
    (leaf (ident w_enum) (at 0 4) (leaf (ident w_union) (at 5 10) (group Brace (at 11 12) (at 12 13) end end)))
    (leaf (ident w_enum) call_site (leaf (ident w_union) call_site (group Brace call_site call_site end end)))
    (end)
unfolding left is_end lookahead_at sees take_token take_lifetime take_mark take_group before rows_for rows run parse_rule
enum_rest_union = computed enumeration_rest _ _ _ refl

-- `enum super {}`: nothing is read
enum_rest_super : NotDerived (rule enumeration_rest)
    (leaf (ident w_enum) (at 0 4) (leaf (ident w_super) (at 5 10) (group Brace (at 11 12) (at 12 13) end end)))
unfolding left is_end lookahead_at sees take_token take_lifetime take_mark take_group before rows_for rows run parse_rule
enum_rest_super = not_read enumeration_rest _ refl

-- `enum crate {}`: nothing is read
enum_rest_crate : NotDerived (rule enumeration_rest)
    (leaf (ident w_enum) (at 0 4) (leaf (ident w_crate) (at 5 10) (group Brace (at 11 12) (at 12 13) end end)))
unfolding left is_end lookahead_at sees take_token take_lifetime take_mark take_group before rows_for rows run parse_rule
enum_rest_crate = not_read enumeration_rest _ refl

-- `enum a {} where` prints `enum a { }` and leaves `where`
enum_rest_leaves_where : DerivesAs enumeration_rest
    (leaf (ident w_enum) (at 0 4) (leaf (ident (97 ∷ [])) (at 5 6) (group Brace (at 7 8) (at 8 9) end (leaf (ident w_where) (at 10 15) end))))
    (leaf (ident w_enum) call_site (leaf (ident (97 ∷ [])) call_site (group Brace call_site call_site end end)))
    (leaf (ident w_where) (at 10 15) end)
unfolding left is_end lookahead_at sees take_token take_lifetime take_mark take_group before rows_for rows run parse_rule
enum_rest_leaves_where = computed enumeration_rest _ _ _ refl

-- `pub pub enum a {}`: nothing is read
enum_rest_two_public : NotDerived (rule enumeration_rest)
    (leaf (ident w_pub) (at 0 3) (leaf (ident w_pub) (at 4 7) (leaf (ident w_enum) (at 8 12) (leaf (ident (97 ∷ [])) (at 13 14) (group Brace (at 15 16) (at 16 17) end end)))))
unfolding left is_end lookahead_at sees take_token take_lifetime take_mark take_group before rows_for rows run parse_rule
enum_rest_two_public = not_read enumeration_rest _ refl

-- `enum default {}` prints `enum default { }`
enum_rest_default : DerivesAs enumeration_rest
    (leaf (ident w_enum) (at 0 4) (leaf (ident w_default) (at 5 12) (group Brace (at 13 14) (at 14 15) end end)))
    (leaf (ident w_enum) call_site (leaf (ident w_default) call_site (group Brace call_site call_site end end)))
    (end)
unfolding left is_end lookahead_at sees take_token take_lifetime take_mark take_group before rows_for rows run parse_rule
enum_rest_default = computed enumeration_rest _ _ _ refl

-- `enum where 'a: b {}`: nothing is read
enum_rest_where_before_name : NotDerived (rule enumeration_rest)
    (leaf (ident w_enum) (at 0 4) (leaf (ident w_where) (at 5 10) (punct 39 true (at 11 12) (leaf (ident (97 ∷ [])) (at 12 13) (punct 58 false (at 13 14) (leaf (ident (98 ∷ [])) (at 15 16) (group Brace (at 17 18) (at 18 19) end end)))))))
unfolding left is_end lookahead_at sees take_token take_lifetime take_mark take_group before rows_for rows run parse_rule
enum_rest_where_before_name = not_read enumeration_rest _ refl

-- `union U { _: struct { a: u8 } }` prints `union U { _ : struct { a : u8 } }`
union_nameless : DerivesAs union_item
    (leaf (ident w_union) (at 0 5) (leaf (ident (85 ∷ [])) (at 6 7) (group Brace (at 8 9) (at 30 31) (leaf (ident w_underscore) (at 10 11) (punct 58 false (at 11 12) (leaf (ident w_struct) (at 13 19) (group Brace (at 20 21) (at 28 29) (leaf (ident (97 ∷ [])) (at 22 23) (punct 58 false (at 23 24) (leaf (ident (117 ∷ 56 ∷ [])) (at 25 27) end))) end)))) end)))
    (leaf (ident w_union) call_site (leaf (ident (85 ∷ [])) call_site (group Brace call_site call_site (leaf (ident w_underscore) call_site (punct 58 false call_site (leaf (ident w_struct) call_site (group Brace call_site call_site (leaf (ident (97 ∷ [])) call_site (punct 58 false call_site (leaf (ident (117 ∷ 56 ∷ [])) call_site end))) end)))) end)))
    (end)
unfolding left is_end lookahead_at sees take_token take_lifetime take_mark take_group before rows_for rows run parse_rule
union_nameless = computed union_item _ _ _ refl

-- `union U(u8);`: nothing is read
union_tuple : NotDerived (rule union_item)
    (leaf (ident w_union) (at 0 5) (leaf (ident (85 ∷ [])) (at 6 7) (group Paren (at 7 8) (at 10 11) (leaf (ident (117 ∷ 56 ∷ [])) (at 8 10) end) (punct 59 false (at 11 12) end))))
unfolding left is_end lookahead_at sees take_token take_lifetime take_mark take_group before rows_for rows run parse_rule
union_tuple = not_read union_item _ refl

-- `#[a] pub union U { a: u8 }` prints `# [ a ] pub union U { a : u8 }`
union_attribute : DerivesAs union_item
    (punct 35 false (at 0 1) (group Bracket (at 1 2) (at 3 4) (leaf (ident (97 ∷ [])) (at 2 3) end) (leaf (ident w_pub) (at 5 8) (leaf (ident w_union) (at 9 14) (leaf (ident (85 ∷ [])) (at 15 16) (group Brace (at 17 18) (at 25 26) (leaf (ident (97 ∷ [])) (at 19 20) (punct 58 false (at 20 21) (leaf (ident (117 ∷ 56 ∷ [])) (at 22 24) end))) end))))))
    (punct 35 false call_site (group Bracket call_site call_site (leaf (ident (97 ∷ [])) call_site end) (leaf (ident w_pub) call_site (leaf (ident w_union) call_site (leaf (ident (85 ∷ [])) call_site (group Brace call_site call_site (leaf (ident (97 ∷ [])) call_site (punct 58 false call_site (leaf (ident (117 ∷ 56 ∷ [])) call_site end))) end))))))
    (end)
unfolding left is_end lookahead_at sees take_token take_lifetime take_mark take_group before rows_for rows run parse_rule
union_attribute = computed union_item _ _ _ refl

-- no tokens: nothing is read
union_nothing : NotDerived (rule union_item)
    (end)
unfolding left is_end lookahead_at sees take_token take_lifetime take_mark take_group before rows_for rows run parse_rule
union_nothing = not_read union_item _ refl

-- `union a {} #` prints `union a { }` and leaves `#`
union_leaves_pound : DerivesAs union_item
    (leaf (ident w_union) (at 0 5) (leaf (ident (97 ∷ [])) (at 6 7) (group Brace (at 8 9) (at 9 10) end (punct 35 false (at 11 12) end))))
    (leaf (ident w_union) call_site (leaf (ident (97 ∷ [])) call_site (group Brace call_site call_site end end)))
    (punct 35 false (at 11 12) end)
unfolding left is_end lookahead_at sees take_token take_lifetime take_mark take_group before rows_for rows run parse_rule
union_leaves_pound = computed union_item _ _ _ refl

-- `union a {} union` prints `union a { }` and leaves `union`
union_leaves_union : DerivesAs union_item
    (leaf (ident w_union) (at 0 5) (leaf (ident (97 ∷ [])) (at 6 7) (group Brace (at 8 9) (at 9 10) end (leaf (ident w_union) (at 11 16) end))))
    (leaf (ident w_union) call_site (leaf (ident (97 ∷ [])) call_site (group Brace call_site call_site end end)))
    (leaf (ident w_union) (at 11 16) end)
unfolding left is_end lookahead_at sees take_token take_lifetime take_mark take_group before rows_for rows run parse_rule
union_leaves_union = computed union_item _ _ _ refl

-- `\(\) union U { \(\) a: u8 }` prints `union U { a : u8 }`
union_invisible : DerivesAs union_item
    (group None (at 0 2) (at 2 4) end (leaf (ident w_union) (at 5 10) (leaf (ident (85 ∷ [])) (at 11 12) (group Brace (at 13 14) (at 26 27) (group None (at 15 17) (at 17 19) end (leaf (ident (97 ∷ [])) (at 20 21) (punct 58 false (at 21 22) (leaf (ident (117 ∷ 56 ∷ [])) (at 23 25) end)))) end))))
    (leaf (ident w_union) call_site (leaf (ident (85 ∷ [])) call_site (group Brace call_site call_site (leaf (ident (97 ∷ [])) call_site (punct 58 false call_site (leaf (ident (117 ∷ 56 ∷ [])) call_site end))) end)))
    (end)
unfolding left is_end lookahead_at sees take_token take_lifetime take_mark take_group before rows_for rows run parse_rule
union_invisible = computed union_item _ _ _ refl

-- `pub union U<T> { a: T }` prints `pub union U < T > { a : T }`
union_rest_generic : DerivesAs union_item_rest
    (leaf (ident w_pub) (at 0 3) (leaf (ident w_union) (at 4 9) (leaf (ident (85 ∷ [])) (at 10 11) (punct 60 false (at 11 12) (leaf (ident (84 ∷ [])) (at 12 13) (punct 62 false (at 13 14) (group Brace (at 15 16) (at 22 23) (leaf (ident (97 ∷ [])) (at 17 18) (punct 58 false (at 18 19) (leaf (ident (84 ∷ [])) (at 20 21) end))) end)))))))
    (leaf (ident w_pub) call_site (leaf (ident w_union) call_site (leaf (ident (85 ∷ [])) call_site (punct 60 false call_site (leaf (ident (84 ∷ [])) call_site (punct 62 false call_site (group Brace call_site call_site (leaf (ident (97 ∷ [])) call_site (punct 58 false call_site (leaf (ident (84 ∷ [])) call_site end))) end)))))))
    (end)
unfolding left is_end lookahead_at sees take_token take_lifetime take_mark take_group before rows_for rows run parse_rule
union_rest_generic = computed union_item_rest _ _ _ refl

-- `union a union {}`: nothing is read
union_rest_word_after : NotDerived (rule union_item_rest)
    (leaf (ident w_union) (at 0 5) (leaf (ident (97 ∷ [])) (at 6 7) (leaf (ident w_union) (at 8 13) (group Brace (at 14 15) (at 15 16) end end))))
unfolding left is_end lookahead_at sees take_token take_lifetime take_mark take_group before rows_for rows run parse_rule
union_rest_word_after = not_read union_item_rest _ refl

-- `union union {}` prints `union union { }`
union_rest_named_union : DerivesAs union_item_rest
    (leaf (ident w_union) (at 0 5) (leaf (ident w_union) (at 6 11) (group Brace (at 12 13) (at 13 14) end end)))
    (leaf (ident w_union) call_site (leaf (ident w_union) call_site (group Brace call_site call_site end end)))
    (end)
unfolding left is_end lookahead_at sees take_token take_lifetime take_mark take_group before rows_for rows run parse_rule
union_rest_named_union = computed union_item_rest _ _ _ refl

-- `union a<> where {}` prints `union a { }`
union_rest_no_generics : DerivesAs union_item_rest
    (leaf (ident w_union) (at 0 5) (leaf (ident (97 ∷ [])) (at 6 7) (punct 60 true (at 7 8) (punct 62 false (at 8 9) (leaf (ident w_where) (at 10 15) (group Brace (at 16 17) (at 17 18) end end))))))
    (leaf (ident w_union) call_site (leaf (ident (97 ∷ [])) call_site (group Brace call_site call_site end end)))
    (end)
unfolding left is_end lookahead_at sees take_token take_lifetime take_mark take_group before rows_for rows run parse_rule
union_rest_no_generics = computed union_item_rest _ _ _ refl

-- `union a pub {}`: nothing is read
union_rest_public_after : NotDerived (rule union_item_rest)
    (leaf (ident w_union) (at 0 5) (leaf (ident (97 ∷ [])) (at 6 7) (leaf (ident w_pub) (at 8 11) (group Brace (at 12 13) (at 13 14) end end))))
unfolding left is_end lookahead_at sees take_token take_lifetime take_mark take_group before rows_for rows run parse_rule
union_rest_public_after = not_read union_item_rest _ refl

-- `union _ {}`: nothing is read
union_rest_underscore : NotDerived (rule union_item_rest)
    (leaf (ident w_union) (at 0 5) (leaf (ident w_underscore) (at 6 7) (group Brace (at 8 9) (at 9 10) end end)))
unfolding left is_end lookahead_at sees take_token take_lifetime take_mark take_group before rows_for rows run parse_rule
union_rest_underscore = not_read union_item_rest _ refl

-- `a {}`: nothing is read
union_rest_no_word : NotDerived (rule union_item_rest)
    (leaf (ident (97 ∷ [])) (at 0 1) (group Brace (at 2 3) (at 3 4) end end))
unfolding left is_end lookahead_at sees take_token take_lifetime take_mark take_group before rows_for rows run parse_rule
union_rest_no_word = not_read union_item_rest _ refl

-- `{} union a {}`: nothing is read
union_rest_braces_first : NotDerived (rule union_item_rest)
    (group Brace (at 0 1) (at 1 2) end (leaf (ident w_union) (at 3 8) (leaf (ident (97 ∷ [])) (at 9 10) (group Brace (at 11 12) (at 12 13) end end))))
unfolding left is_end lookahead_at sees take_token take_lifetime take_mark take_group before rows_for rows run parse_rule
union_rest_braces_first = not_read union_item_rest _ refl

-- `union {} a {}`: nothing is read
union_rest_braces_before_name : NotDerived (rule union_item_rest)
    (leaf (ident w_union) (at 0 5) (group Brace (at 6 7) (at 7 8) end (leaf (ident (97 ∷ [])) (at 9 10) (group Brace (at 11 12) (at 12 13) end end))))
unfolding left is_end lookahead_at sees take_token take_lifetime take_mark take_group before rows_for rows run parse_rule
union_rest_braces_before_name = not_read union_item_rest _ refl

-- `<> union a {}`: nothing is read
union_rest_generics_first : NotDerived (rule union_item_rest)
    (punct 60 true (at 0 1) (punct 62 false (at 1 2) (leaf (ident w_union) (at 3 8) (leaf (ident (97 ∷ [])) (at 9 10) (group Brace (at 11 12) (at 12 13) end end)))))
unfolding left is_end lookahead_at sees take_token take_lifetime take_mark take_group before rows_for rows run parse_rule
union_rest_generics_first = not_read union_item_rest _ refl

-- `a b {}`: nothing is read
union_rest_other_word : NotDerived (rule union_item_rest)
    (leaf (ident (97 ∷ [])) (at 0 1) (leaf (ident (98 ∷ [])) (at 2 3) (group Brace (at 4 5) (at 5 6) end end)))
unfolding left is_end lookahead_at sees take_token take_lifetime take_mark take_group before rows_for rows run parse_rule
union_rest_other_word = not_read union_item_rest _ refl

-- `union a<> <>{}`: nothing is read
union_rest_generics_twice : NotDerived (rule union_item_rest)
    (leaf (ident w_union) (at 0 5) (leaf (ident (97 ∷ [])) (at 6 7) (punct 60 true (at 7 8) (punct 62 false (at 8 9) (punct 60 true (at 10 11) (punct 62 false (at 11 12) (group Brace (at 12 13) (at 13 14) end end)))))))
unfolding left is_end lookahead_at sees take_token take_lifetime take_mark take_group before rows_for rows run parse_rule
union_rest_generics_twice = not_read union_item_rest _ refl

-- `union a {} union` prints `union a { }` and leaves `union`
union_rest_leaves_union : DerivesAs union_item_rest
    (leaf (ident w_union) (at 0 5) (leaf (ident (97 ∷ [])) (at 6 7) (group Brace (at 8 9) (at 9 10) end (leaf (ident w_union) (at 11 16) end))))
    (leaf (ident w_union) call_site (leaf (ident (97 ∷ [])) call_site (group Brace call_site call_site end end)))
    (leaf (ident w_union) (at 11 16) end)
unfolding left is_end lookahead_at sees take_token take_lifetime take_mark take_group before rows_for rows run parse_rule
union_rest_leaves_union = computed union_item_rest _ _ _ refl

-- `where 'a: union b {}`: nothing is read
union_rest_where_first : NotDerived (rule union_item_rest)
    (leaf (ident w_where) (at 0 5) (punct 39 true (at 6 7) (leaf (ident (97 ∷ [])) (at 7 8) (punct 58 false (at 8 9) (leaf (ident w_union) (at 10 15) (leaf (ident (98 ∷ [])) (at 16 17) (group Brace (at 18 19) (at 19 20) end end)))))))
unfolding left is_end lookahead_at sees take_token take_lifetime take_mark take_group before rows_for rows run parse_rule
union_rest_where_first = not_read union_item_rest _ refl

-- `union a where 'b: where {}`: nothing is read
union_rest_where_twice : NotDerived (rule union_item_rest)
    (leaf (ident w_union) (at 0 5) (leaf (ident (97 ∷ [])) (at 6 7) (leaf (ident w_where) (at 8 13) (punct 39 true (at 14 15) (leaf (ident (98 ∷ [])) (at 15 16) (punct 58 false (at 16 17) (leaf (ident w_where) (at 18 23) (group Brace (at 24 25) (at 25 26) end end))))))))
unfolding left is_end lookahead_at sees take_token take_lifetime take_mark take_group before rows_for rows run parse_rule
union_rest_where_twice = not_read union_item_rest _ refl

-- `union 1 {}`: nothing is read
union_rest_number : NotDerived (rule union_item_rest)
    (leaf (ident w_union) (at 0 5) (leaf (literal Int (49 ∷ [])) (at 6 7) (group Brace (at 8 9) (at 9 10) end end)))
unfolding left is_end lookahead_at sees take_token take_lifetime take_mark take_group before rows_for rows run parse_rule
union_rest_number = not_read union_item_rest _ refl

-- `union a {} <` prints `union a { }` and leaves `<`
union_rest_leaves_less : DerivesAs union_item_rest
    (leaf (ident w_union) (at 0 5) (leaf (ident (97 ∷ [])) (at 6 7) (group Brace (at 8 9) (at 9 10) end (punct 60 false (at 11 12) end))))
    (leaf (ident w_union) call_site (leaf (ident (97 ∷ [])) call_site (group Brace call_site call_site end end)))
    (punct 60 false (at 11 12) end)
unfolding left is_end lookahead_at sees take_token take_lifetime take_mark take_group before rows_for rows run parse_rule
union_rest_leaves_less = computed union_item_rest _ _ _ refl

-- `union<> a {}`: nothing is read
union_rest_generics_before_name : NotDerived (rule union_item_rest)
    (leaf (ident w_union) (at 0 5) (punct 60 true (at 5 6) (punct 62 false (at 6 7) (leaf (ident (97 ∷ [])) (at 8 9) (group Brace (at 10 11) (at 11 12) end end)))))
unfolding left is_end lookahead_at sees take_token take_lifetime take_mark take_group before rows_for rows run parse_rule
union_rest_generics_before_name = not_read union_item_rest _ refl

-- `union a {} {}` prints `union a { }` and leaves `{}`
union_rest_leaves_braces : DerivesAs union_item_rest
    (leaf (ident w_union) (at 0 5) (leaf (ident (97 ∷ [])) (at 6 7) (group Brace (at 8 9) (at 9 10) end (group Brace (at 11 12) (at 12 13) end end))))
    (leaf (ident w_union) call_site (leaf (ident (97 ∷ [])) call_site (group Brace call_site call_site end end)))
    (group Brace (at 11 12) (at 12 13) end end)
unfolding left is_end lookahead_at sees take_token take_lifetime take_mark take_group before rows_for rows run parse_rule
union_rest_leaves_braces = computed union_item_rest _ _ _ refl

-- `union fn {}`: nothing is read
union_rest_keyword : NotDerived (rule union_item_rest)
    (leaf (ident w_union) (at 0 5) (leaf (ident w_fn) (at 6 8) (group Brace (at 9 10) (at 10 11) end end)))
unfolding left is_end lookahead_at sees take_token take_lifetime take_mark take_group before rows_for rows run parse_rule
union_rest_keyword = not_read union_item_rest _ refl

-- `union self {}`: nothing is read
union_rest_self : NotDerived (rule union_item_rest)
    (leaf (ident w_union) (at 0 5) (leaf (ident w_self) (at 6 10) (group Brace (at 11 12) (at 12 13) end end)))
unfolding left is_end lookahead_at sees take_token take_lifetime take_mark take_group before rows_for rows run parse_rule
union_rest_self = not_read union_item_rest _ refl

-- `union safe {}` prints `union safe { }`
union_rest_safe : DerivesAs union_item_rest
    (leaf (ident w_union) (at 0 5) (leaf (ident w_safe) (at 6 10) (group Brace (at 11 12) (at 12 13) end end)))
    (leaf (ident w_union) call_site (leaf (ident w_safe) call_site (group Brace call_site call_site end end)))
    (end)
unfolding left is_end lookahead_at sees take_token take_lifetime take_mark take_group before rows_for rows run parse_rule
union_rest_safe = computed union_item_rest _ _ _ refl

-- `union pub a {}`: nothing is read
union_rest_public_name : NotDerived (rule union_item_rest)
    (leaf (ident w_union) (at 0 5) (leaf (ident w_pub) (at 6 9) (leaf (ident (97 ∷ [])) (at 10 11) (group Brace (at 12 13) (at 13 14) end end))))
unfolding left is_end lookahead_at sees take_token take_lifetime take_mark take_group before rows_for rows run parse_rule
union_rest_public_name = not_read union_item_rest _ refl

-- `union auto {}` prints `union auto { }`
union_rest_auto : DerivesAs union_item_rest
    (leaf (ident w_union) (at 0 5) (leaf (ident w_auto) (at 6 10) (group Brace (at 11 12) (at 12 13) end end)))
    (leaf (ident w_union) call_site (leaf (ident w_auto) call_site (group Brace call_site call_site end end)))
    (end)
unfolding left is_end lookahead_at sees take_token take_lifetime take_mark take_group before rows_for rows run parse_rule
union_rest_auto = computed union_item_rest _ _ _ refl

-- `union a {} pub` prints `union a { }` and leaves `pub`
union_rest_leaves_public : DerivesAs union_item_rest
    (leaf (ident w_union) (at 0 5) (leaf (ident (97 ∷ [])) (at 6 7) (group Brace (at 8 9) (at 9 10) end (leaf (ident w_pub) (at 11 14) end))))
    (leaf (ident w_union) call_site (leaf (ident (97 ∷ [])) call_site (group Brace call_site call_site end end)))
    (leaf (ident w_pub) (at 11 14) end)
unfolding left is_end lookahead_at sees take_token take_lifetime take_mark take_group before rows_for rows run parse_rule
union_rest_leaves_public = computed union_item_rest _ _ _ refl

-- `union Self {}`: nothing is read
union_rest_self_type : NotDerived (rule union_item_rest)
    (leaf (ident w_union) (at 0 5) (leaf (ident w_Self_type) (at 6 10) (group Brace (at 11 12) (at 12 13) end end)))
unfolding left is_end lookahead_at sees take_token take_lifetime take_mark take_group before rows_for rows run parse_rule
union_rest_self_type = not_read union_item_rest _ refl

-- `union super {}`: nothing is read
union_rest_super : NotDerived (rule union_item_rest)
    (leaf (ident w_union) (at 0 5) (leaf (ident w_super) (at 6 11) (group Brace (at 12 13) (at 13 14) end end)))
unfolding left is_end lookahead_at sees take_token take_lifetime take_mark take_group before rows_for rows run parse_rule
union_rest_super = not_read union_item_rest _ refl

-- `union crate {}`: nothing is read
union_rest_crate : NotDerived (rule union_item_rest)
    (leaf (ident w_union) (at 0 5) (leaf (ident w_crate) (at 6 11) (group Brace (at 12 13) (at 13 14) end end)))
unfolding left is_end lookahead_at sees take_token take_lifetime take_mark take_group before rows_for rows run parse_rule
union_rest_crate = not_read union_item_rest _ refl

-- `union a {} where` prints `union a { }` and leaves `where`
union_rest_leaves_where : DerivesAs union_item_rest
    (leaf (ident w_union) (at 0 5) (leaf (ident (97 ∷ [])) (at 6 7) (group Brace (at 8 9) (at 9 10) end (leaf (ident w_where) (at 11 16) end))))
    (leaf (ident w_union) call_site (leaf (ident (97 ∷ [])) call_site (group Brace call_site call_site end end)))
    (leaf (ident w_where) (at 11 16) end)
unfolding left is_end lookahead_at sees take_token take_lifetime take_mark take_group before rows_for rows run parse_rule
union_rest_leaves_where = computed union_item_rest _ _ _ refl

-- `union default {}` prints `union default { }`
union_rest_default : DerivesAs union_item_rest
    (leaf (ident w_union) (at 0 5) (leaf (ident w_default) (at 6 13) (group Brace (at 14 15) (at 15 16) end end)))
    (leaf (ident w_union) call_site (leaf (ident w_default) call_site (group Brace call_site call_site end end)))
    (end)
unfolding left is_end lookahead_at sees take_token take_lifetime take_mark take_group before rows_for rows run parse_rule
union_rest_default = computed union_item_rest _ _ _ refl

-- `pub pub union a {}`: nothing is read
union_rest_two_public : NotDerived (rule union_item_rest)
    (leaf (ident w_pub) (at 0 3) (leaf (ident w_pub) (at 4 7) (leaf (ident w_union) (at 8 13) (leaf (ident (97 ∷ [])) (at 14 15) (group Brace (at 16 17) (at 17 18) end end)))))
unfolding left is_end lookahead_at sees take_token take_lifetime take_mark take_group before rows_for rows run parse_rule
union_rest_two_public = not_read union_item_rest _ refl

-- `union where 'a: b {}`: nothing is read
union_rest_where_before_name : NotDerived (rule union_item_rest)
    (leaf (ident w_union) (at 0 5) (leaf (ident w_where) (at 6 11) (punct 39 true (at 12 13) (leaf (ident (97 ∷ [])) (at 13 14) (punct 58 false (at 14 15) (leaf (ident (98 ∷ [])) (at 16 17) (group Brace (at 18 19) (at 19 20) end end)))))))
unfolding left is_end lookahead_at sees take_token take_lifetime take_mark take_group before rows_for rows run parse_rule
union_rest_where_before_name = not_read union_item_rest _ refl

-- `pub struct A(u8);` prints `pub struct A ( u8 ) ;`
derive_public : DerivesAs derive_input
    (leaf (ident w_pub) (at 0 3) (leaf (ident w_struct) (at 4 10) (leaf (ident (65 ∷ [])) (at 11 12) (group Paren (at 12 13) (at 15 16) (leaf (ident (117 ∷ 56 ∷ [])) (at 13 15) end) (punct 59 false (at 16 17) end)))))
    (leaf (ident w_pub) call_site (leaf (ident w_struct) call_site (leaf (ident (65 ∷ [])) call_site (group Paren call_site call_site (leaf (ident (117 ∷ 56 ∷ [])) call_site end) (punct 59 false call_site end)))))
    (end)
unfolding left is_end lookahead_at sees take_token take_lifetime take_mark take_group before rows_for rows run parse_rule
derive_public = computed derive_input _ _ _ refl

-- `struct B(pub(crate) x::y, z,);` prints `struct B ( pub ( crate ) x :: y , z , ) ;`
derive_two_fields : DerivesAs derive_input
    (leaf (ident w_struct) (at 0 6) (leaf (ident (66 ∷ [])) (at 7 8) (group Paren (at 8 9) (at 28 29) (leaf (ident w_pub) (at 9 12) (group Paren (at 12 13) (at 18 19) (leaf (ident w_crate) (at 13 18) end) (leaf (ident (120 ∷ [])) (at 20 21) (punct 58 true (at 21 22) (punct 58 false (at 22 23) (leaf (ident (121 ∷ [])) (at 23 24) (punct 44 false (at 24 25) (leaf (ident (122 ∷ [])) (at 26 27) (punct 44 false (at 27 28) end))))))))) (punct 59 false (at 29 30) end))))
    (leaf (ident w_struct) call_site (leaf (ident (66 ∷ [])) call_site (group Paren call_site call_site (leaf (ident w_pub) call_site (group Paren call_site call_site (leaf (ident w_crate) call_site end) (leaf (ident (120 ∷ [])) call_site (punct 58 true call_site (punct 58 false call_site (leaf (ident (121 ∷ [])) call_site (punct 44 false call_site (leaf (ident (122 ∷ [])) call_site (punct 44 false call_site end))))))))) (punct 59 false call_site end))))
    (end)
unfolding left is_end lookahead_at sees take_token take_lifetime take_mark take_group before rows_for rows run parse_rule
derive_two_fields = computed derive_input _ _ _ refl

-- `pub(in a) struct union;` prints `pub ( in a ) struct union ;`
derive_unit : DerivesAs derive_input
    (leaf (ident w_pub) (at 0 3) (group Paren (at 3 4) (at 8 9) (leaf (ident w_in) (at 4 6) (leaf (ident (97 ∷ [])) (at 7 8) end)) (leaf (ident w_struct) (at 10 16) (leaf (ident w_union) (at 17 22) (punct 59 false (at 22 23) end)))))
    (leaf (ident w_pub) call_site (group Paren call_site call_site (leaf (ident w_in) call_site (leaf (ident (97 ∷ [])) call_site end)) (leaf (ident w_struct) call_site (leaf (ident w_union) call_site (punct 59 false call_site end)))))
    (end)
unfolding left is_end lookahead_at sees take_token take_lifetime take_mark take_group before rows_for rows run parse_rule
derive_unit = computed derive_input _ _ _ refl

-- `struct S();` prints `struct S ( ) ;`
derive_empty : DerivesAs derive_input
    (leaf (ident w_struct) (at 0 6) (leaf (ident (83 ∷ [])) (at 7 8) (group Paren (at 8 9) (at 9 10) end (punct 59 false (at 10 11) end))))
    (leaf (ident w_struct) call_site (leaf (ident (83 ∷ [])) call_site (group Paren call_site call_site end (punct 59 false call_site end))))
    (end)
unfolding left is_end lookahead_at sees take_token take_lifetime take_mark take_group before rows_for rows run parse_rule
derive_empty = computed derive_input _ _ _ refl

-- `struct S(pub (crate));`: nothing is read
derive_tuple_in_public : NotDerived (rule derive_input)
    (leaf (ident w_struct) (at 0 6) (leaf (ident (83 ∷ [])) (at 7 8) (group Paren (at 8 9) (at 20 21) (leaf (ident w_pub) (at 9 12) (group Paren (at 13 14) (at 19 20) (leaf (ident w_crate) (at 14 19) end) end)) (punct 59 false (at 21 22) end))))
unfolding left is_end lookahead_at sees take_token take_lifetime take_mark take_group before rows_for rows run parse_rule
derive_tuple_in_public = not_read derive_input _ refl

-- `\(\) struct A(\(\) u8);` prints `struct A ( u8 ) ;`
derive_invisible : DerivesAs derive_input
    (group None (at 0 2) (at 2 4) end (leaf (ident w_struct) (at 5 11) (leaf (ident (65 ∷ [])) (at 12 13) (group Paren (at 13 14) (at 21 22) (group None (at 14 16) (at 16 18) end (leaf (ident (117 ∷ 56 ∷ [])) (at 19 21) end)) (punct 59 false (at 22 23) end)))))
    (leaf (ident w_struct) call_site (leaf (ident (65 ∷ [])) call_site (group Paren call_site call_site (leaf (ident (117 ∷ 56 ∷ [])) call_site end) (punct 59 false call_site end))))
    (end)
unfolding left is_end lookahead_at sees take_token take_lifetime take_mark take_group before rows_for rows run parse_rule
derive_invisible = computed derive_input _ _ _ refl

-- `\(\) \(\) struct A;`: nothing is read
derive_invisible_twice : NotDerived (rule derive_input)
    (group None (at 0 2) (at 2 4) end (group None (at 5 7) (at 7 9) end (leaf (ident w_struct) (at 10 16) (leaf (ident (65 ∷ [])) (at 17 18) (punct 59 false (at 18 19) end)))))
unfolding left is_end lookahead_at sees take_token take_lifetime take_mark take_group before rows_for rows run parse_rule
derive_invisible_twice = not_read derive_input _ refl

-- `struct S(u8 = 1);`: nothing is read
derive_default : NotDerived (rule derive_input)
    (leaf (ident w_struct) (at 0 6) (leaf (ident (83 ∷ [])) (at 7 8) (group Paren (at 8 9) (at 15 16) (leaf (ident (117 ∷ 56 ∷ [])) (at 9 11) (punct 61 false (at 12 13) (leaf (literal Int (49 ∷ [])) (at 14 15) end))) (punct 59 false (at 16 17) end))))
unfolding left is_end lookahead_at sees take_token take_lifetime take_mark take_group before rows_for rows run parse_rule
derive_default = not_read derive_input _ refl

-- `struct S(a)`: nothing is read
derive_no_semicolon : NotDerived (rule derive_input)
    (leaf (ident w_struct) (at 0 6) (leaf (ident (83 ∷ [])) (at 7 8) (group Paren (at 8 9) (at 10 11) (leaf (ident (97 ∷ [])) (at 9 10) end) end)))
unfolding left is_end lookahead_at sees take_token take_lifetime take_mark take_group before rows_for rows run parse_rule
derive_no_semicolon = not_read derive_input _ refl

-- `struct S;;` is refused
derive_two_semicolons : Refused derive_input
    (leaf (ident w_struct) (at 0 6) (leaf (ident (83 ∷ [])) (at 7 8) (punct 59 true (at 8 9) (punct 59 false (at 9 10) end))))
unfolding left is_end lookahead_at sees take_token take_lifetime take_mark take_group before rows_for rows run parse_rule
derive_two_semicolons = not_derived derive_input _ refl

-- no tokens: nothing is read
derive_nothing : NotDerived (rule derive_input)
    (end)
unfolding left is_end lookahead_at sees take_token take_lifetime take_mark take_group before rows_for rows run parse_rule
derive_nothing = not_read derive_input _ refl

-- `#[a::b(x==y)] struct S;` prints `# [ a :: b ( x == y ) ] struct S ;`
derive_attribute : DerivesAs derive_input
    (punct 35 false (at 0 1) (group Bracket (at 1 2) (at 12 13) (leaf (ident (97 ∷ [])) (at 2 3) (punct 58 true (at 3 4) (punct 58 false (at 4 5) (leaf (ident (98 ∷ [])) (at 5 6) (group Paren (at 6 7) (at 11 12) (leaf (ident (120 ∷ [])) (at 7 8) (punct 61 true (at 8 9) (punct 61 false (at 9 10) (leaf (ident (121 ∷ [])) (at 10 11) end)))) end))))) (leaf (ident w_struct) (at 14 20) (leaf (ident (83 ∷ [])) (at 21 22) (punct 59 false (at 22 23) end)))))
    (punct 35 false call_site (group Bracket call_site call_site (leaf (ident (97 ∷ [])) call_site (punct 58 true call_site (punct 58 false call_site (leaf (ident (98 ∷ [])) call_site (group Paren call_site call_site (leaf (ident (120 ∷ [])) call_site (punct 61 true call_site (punct 61 false call_site (leaf (ident (121 ∷ [])) call_site end)))) end))))) (leaf (ident w_struct) call_site (leaf (ident (83 ∷ [])) call_site (punct 59 false call_site end)))))
    (end)
unfolding left is_end lookahead_at sees take_token take_lifetime take_mark take_group before rows_for rows run parse_rule
derive_attribute = computed derive_input _ _ _ refl

-- `struct S(*const u8, [u8], !);` prints `struct S ( * const u8 , [ u8 ] , ! ) ;`
derive_types : DerivesAs derive_input
    (leaf (ident w_struct) (at 0 6) (leaf (ident (83 ∷ [])) (at 7 8) (group Paren (at 8 9) (at 27 28) (punct 42 false (at 9 10) (leaf (ident w_const) (at 10 15) (leaf (ident (117 ∷ 56 ∷ [])) (at 16 18) (punct 44 false (at 18 19) (group Bracket (at 20 21) (at 23 24) (leaf (ident (117 ∷ 56 ∷ [])) (at 21 23) end) (punct 44 false (at 24 25) (punct 33 false (at 26 27) end))))))) (punct 59 false (at 28 29) end))))
    (leaf (ident w_struct) call_site (leaf (ident (83 ∷ [])) call_site (group Paren call_site call_site (punct 42 false call_site (leaf (ident w_const) call_site (leaf (ident (117 ∷ 56 ∷ [])) call_site (punct 44 false call_site (group Bracket call_site call_site (leaf (ident (117 ∷ 56 ∷ [])) call_site end) (punct 44 false call_site (punct 33 false call_site end))))))) (punct 59 false call_site end))))
    (end)
unfolding left is_end lookahead_at sees take_token take_lifetime take_mark take_group before rows_for rows run parse_rule
derive_types = computed derive_input _ _ _ refl

-- `struct B { pub(crate) x: &'a u8, y: (), }` prints `struct B { pub ( crate ) x : & 'a u8 , y : ( ) , }`
derive_named : DerivesAs derive_input
    (leaf (ident w_struct) (at 0 6) (leaf (ident (66 ∷ [])) (at 7 8) (group Brace (at 9 10) (at 40 41) (leaf (ident w_pub) (at 11 14) (group Paren (at 14 15) (at 20 21) (leaf (ident w_crate) (at 15 20) end) (leaf (ident (120 ∷ [])) (at 22 23) (punct 58 false (at 23 24) (punct 38 true (at 25 26) (punct 39 true (at 26 27) (leaf (ident (97 ∷ [])) (at 27 28) (leaf (ident (117 ∷ 56 ∷ [])) (at 29 31) (punct 44 false (at 31 32) (leaf (ident (121 ∷ [])) (at 33 34) (punct 58 false (at 34 35) (group Paren (at 36 37) (at 37 38) end (punct 44 false (at 38 39) end))))))))))))) end)))
    (leaf (ident w_struct) call_site (leaf (ident (66 ∷ [])) call_site (group Brace call_site call_site (leaf (ident w_pub) call_site (group Paren call_site call_site (leaf (ident w_crate) call_site end) (leaf (ident (120 ∷ [])) call_site (punct 58 false call_site (punct 38 false call_site (punct 39 true call_site (leaf (ident (97 ∷ [])) call_site (leaf (ident (117 ∷ 56 ∷ [])) call_site (punct 44 false call_site (leaf (ident (121 ∷ [])) call_site (punct 58 false call_site (group Paren call_site call_site end (punct 44 false call_site end))))))))))))) end)))
    (end)
unfolding left is_end lookahead_at sees take_token take_lifetime take_mark take_group before rows_for rows run parse_rule
derive_named = computed derive_input _ _ _ refl

-- `union union { union: union }` prints `union union { union : union }`
derive_union : DerivesAs derive_input
    (leaf (ident w_union) (at 0 5) (leaf (ident w_union) (at 6 11) (group Brace (at 12 13) (at 27 28) (leaf (ident w_union) (at 14 19) (punct 58 false (at 19 20) (leaf (ident w_union) (at 21 26) end))) end)))
    (leaf (ident w_union) call_site (leaf (ident w_union) call_site (group Brace call_site call_site (leaf (ident w_union) call_site (punct 58 false call_site (leaf (ident w_union) call_site end))) end)))
    (end)
unfolding left is_end lookahead_at sees take_token take_lifetime take_mark take_group before rows_for rows run parse_rule
derive_union = computed derive_input _ _ _ refl

-- `struct S<T U>;`: nothing is read
derive_missing_comma : NotDerived (rule derive_input)
    (leaf (ident w_struct) (at 0 6) (leaf (ident (83 ∷ [])) (at 7 8) (punct 60 false (at 8 9) (leaf (ident (84 ∷ [])) (at 9 10) (leaf (ident (85 ∷ [])) (at 11 12) (punct 62 true (at 12 13) (punct 59 false (at 13 14) end)))))))
unfolding left is_end lookahead_at sees take_token take_lifetime take_mark take_group before rows_for rows run parse_rule
derive_missing_comma = not_read derive_input _ refl

-- `struct S(&'a);`: nothing is read
derive_bare_lifetime : NotDerived (rule derive_input)
    (leaf (ident w_struct) (at 0 6) (leaf (ident (83 ∷ [])) (at 7 8) (group Paren (at 8 9) (at 12 13) (punct 38 true (at 9 10) (punct 39 true (at 10 11) (leaf (ident (97 ∷ [])) (at 11 12) end))) (punct 59 false (at 13 14) end))))
unfolding left is_end lookahead_at sees take_token take_lifetime take_mark take_group before rows_for rows run parse_rule
derive_bare_lifetime = not_read derive_input _ refl

-- `pub enum E { A, B }` prints `pub enum E { A , B }`
derive_enum : DerivesAs derive_input
    (leaf (ident w_pub) (at 0 3) (leaf (ident w_enum) (at 4 8) (leaf (ident (69 ∷ [])) (at 9 10) (group Brace (at 11 12) (at 18 19) (leaf (ident (65 ∷ [])) (at 13 14) (punct 44 false (at 14 15) (leaf (ident (66 ∷ [])) (at 16 17) end))) end))))
    (leaf (ident w_pub) call_site (leaf (ident w_enum) call_site (leaf (ident (69 ∷ [])) call_site (group Brace call_site call_site (leaf (ident (65 ∷ [])) call_site (punct 44 false call_site (leaf (ident (66 ∷ [])) call_site end))) end))))
    (end)
unfolding left is_end lookahead_at sees take_token take_lifetime take_mark take_group before rows_for rows run parse_rule
derive_enum = computed derive_input _ _ _ refl

-- `enum a {} union` prints `enum a { }` and leaves `union`
derive_leaves_union : DerivesAs derive_input
    (leaf (ident w_enum) (at 0 4) (leaf (ident (97 ∷ [])) (at 5 6) (group Brace (at 7 8) (at 8 9) end (leaf (ident w_union) (at 10 15) end))))
    (leaf (ident w_enum) call_site (leaf (ident (97 ∷ [])) call_site (group Brace call_site call_site end end)))
    (leaf (ident w_union) (at 10 15) end)
unfolding left is_end lookahead_at sees take_token take_lifetime take_mark take_group before rows_for rows run parse_rule
derive_leaves_union = computed derive_input _ _ _ refl
