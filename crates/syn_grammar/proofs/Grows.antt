-- A grammar that has grown reads everything that the earlier grammar reads, as the lifted tree.
use Rattle.std.proofs.Common.{◌≡◌, Bool, true, false, List, [], ◌∷◌, refl, sym, ap, ap₂, ◌∙◌, subst, true≢false, ◌⊎◌, inl, inr}
use Rattle.syn_grammar.specs.Tokens.{Brace, Stream, end, ◌⧺◌, or, and, no, pick, Terminal, Ended, Name, Word, Punctuation, Literal, Delimited, mem, same_text, same_fact, Look, at_group, lookahead, present, is_group}
use Rattle.syn_grammar.specs.Rules.{Rule, attributes, trait_definition, trait_definition_rest, impl_definition, impl_definition_rest, odd_impl, const_trait, const_impl, odd_const_impl, kept_item, kept_item_rest, kept_in_block, statements, statement, after_block, after_expression, array_content, assigned, bit_and, bit_ands, bit_or, bit_ors, bit_xor, bit_xors, cast, compared, comparison, conjunction, conjunctions, disjunction, disjunctions, expressions, file, item, items, literal_field, literal_fields, named_field, named_fields, operand_rest, primary, product, products, root_mark, rooted_tree, rooted_trees, shift, shifts, statement_rest, sum, sums, unary, use_tree, use_trees, variant, variants, whole_expression}
use Rattle.syn_grammar.specs.RuleNumbers.{same_rule}
use Rattle.syn_grammar.specs.Shape.{Shape, same_shape, an_item, listed, single}
use Rattle.syn_grammar.specs.Grammar.{Syntax, Nothing, Token, Mark, Lifetime, Both, Left, Right, Node, Vanishing, Group, Raw, Rest, Case, Captured, Unshown, Impl, Done, Last, More, Order, Such, Shaped, DerivesPrefix, Test, trailing_brace, no_trailing_brace, has, has_no, one_where, fits, vacant, ends_brace, no_where, at_most_one_where, holds, Grammar, empty, token, mark, lifetime, ◌&◌, when◌then◌else◌, vanishing, inside, raw, rest_after, either, one_of, rule, such, shaped, captured, unshown, supplied, generics_before, row, ordered, among, at_unnamed}
use Rattle.syn_grammar.specs.Table.{table, at_item}
use Rattle.syn_grammar.specs.Before.{before}
use Rattle.syn_grammar.specs.Grows.{is_moved, is_part, renamed, by_form, lift_item, item_of_list, item_alone, lift_shaped, lift_in}
use Rattle.syn_grammar.proofs.Sets.{or_left, or_right, or_split, and_left, and_right, no_true, same_text_eq, same_fact_eq, same_delimiter_eq, same_look, same_look_eq}
use Rattle.syn_grammar.proofs.RuleLemmas.{same_rule_eq}
use Rattle.syn_grammar.proofs.FirstSets.{nullable, first_set, Begins, begins}
use Rattle.syn_grammar.proofs.FormEquality.{same_bool, same_bool_eq, same_test, same_test_eq, same_choice, same_choice_eq, same_delimiter, same_shape_eq}
use Rattle.syn_grammar.proofs.Said.{start_of, starts_hold}
use Rattle.syn_grammar.proofs.Alone.{of_every_rule, implies, by_implied}

abbrev at_brace_group : Look
at_brace_group = at_group Brace

pub brace_terminal : (f : Terminal) → is_group Brace f ≡ true → (v : Bool) × (f ≡ Delimited Brace v)
brace_terminal (Delimited d v) e = (v, ap (λ z. Delimited z v) (sym (same_delimiter_eq Brace d e)))
brace_terminal Ended e = absurd (true≢false (sym e))
brace_terminal Name e = absurd (true≢false (sym e))
brace_terminal (Word x) e = absurd (true≢false (sym e))
brace_terminal (Punctuation x) e = absurd (true≢false (sym e))
brace_terminal (Literal k) e = absurd (true≢false (sym e))

-- it reads nothing
abbrev pub is_empty : Grammar → Bool
is_empty empty = true
is_empty _ = false

-- where this is true, the next token is no brace group
abbrev Free : Bool → Stream → Type 0
Free a r = a ≡ true → present at_brace_group r ≡ false

-- WHAT IS SAID OF THE RULES

-- it is read by the table where no group in braces follows: `primary`, and each rule that may end with one of these
abbrev needs : Rule → Bool
needs k = among k (expressions ∷ array_content ∷ primary ∷ literal_fields ∷ literal_field ∷ unary ∷ cast ∷ products ∷ product ∷ sums ∷ sum ∷ shifts ∷ shift ∷ bit_ands ∷ bit_and ∷ bit_xors ∷ bit_xor ∷ bit_ors ∷ bit_or ∷ compared ∷ comparison ∷ conjunctions ∷ conjunction ∷ disjunctions ∷ disjunction ∷ assigned ∷ whole_expression ∷ operand_rest ∷ statements ∷ statement_rest ∷ after_block ∷ after_expression ∷ named_fields ∷ named_field ∷ variant ∷ variants ∷ [])

-- outside of groups it reads no item that may be verbatim
abbrev calm : Rule → Bool
calm k = no (among k (statements ∷ statement_rest ∷ after_block ∷ after_expression ∷ statement ∷ item ∷ items ∷ file ∷ []))

-- what it reads holds no item at any depth
abbrev plain : Rule → Bool
plain k = among k (use_tree ∷ use_trees ∷ root_mark ∷ rooted_tree ∷ rooted_trees ∷ [])

-- rules that are looked at one by one
abbrev is_list : Rule → Bool
is_list k = among k (statements ∷ statement ∷ [])

-- WHAT TWO FORMS READ ALIKE

abbrev no_brace_in : List Terminal → Bool
no_brace_in l = no (or (mem (Delimited Brace true) l) (mem (Delimited Brace false) l))

abbrev brace_free : Bool → Grammar → Bool
brace_free a h = and (no_brace_in (first_set start_of h)) (or (no (nullable start_of h)) a)

-- the rule may be named here
abbrev may_name : Bool → Bool → Rule → Bool
may_name b a k = and (no (is_part k)) (and (or a (no (needs k))) (or b (calm k)))

abbrev has_kinds : List Rule → Bool
has_kinds ls = and (among trait_definition ls) (and (among impl_definition ls) (among kept_item ls))

abbrev each_ready : Bool → Bool → List Rule → List Rule → Bool
each_ready b a [] ls = true
each_ready b a (k ∷ ks) ls = and (pick (same_rule k kept_item) (and b (has_kinds ls)) (and (among k ls) (may_name b a k))) (each_ready b a ks ls)

-- no shape that an item is moved in
abbrev plain_shape : Shape → Bool
plain_shape j = and (no (same_shape j listed)) (no (same_shape j single))

-- the test doesn't look into groups
abbrev outer_test : Test → Bool
outer_test trailing_brace = true
outer_test no_trailing_brace = true
outer_test (has k) = false
outer_test (has_no k) = false
outer_test one_where = true

abbrev all_plain : List Rule → Bool
all_plain [] = true
all_plain (k ∷ ks) = and (and (plain k) (no (same_rule k kept_item))) (all_plain ks)

-- what it reads holds no item
abbrev plain_form : Grammar → Bool
plain_form empty = true
plain_form (token b k) = true
plain_form (mark b cs) = true
plain_form (g & h) = and (plain_form g) (plain_form h)
plain_form (when c then g else h) = and (plain_form g) (plain_form h)
plain_form (inside d g) = plain_form g
plain_form (one_of ks) = all_plain ks
plain_form (rule k) = plain k
plain_form _ = false

-- the second form reads what the first does, as the same trees, lifted; b: outside of groups too; a: no brace group follows
abbrev grows : Bool → Bool → Grammar → Grammar → Bool
grows b a (one_of []) h = true
grows b a (one_of (k ∷ ks)) (one_of ls) = each_ready b a (k ∷ ks) ls
grows b a empty empty = true
grows b a (token t k) (token c l) = same_choice k l
grows b a (mark t cs) (mark c ds) = same_text cs ds
grows b a lifetime lifetime = true
grows b a (g & h) (g' & h') = and (grows b (brace_free a h') g g') (grows b a h h')
grows b a (when c then g else h) (when c' then g' else h') = and (same_look c c') (and (or (grows b a g g') (and (is_empty g) (and a (same_look c at_brace_group)))) (grows b a h h'))
grows b a (vanishing v c g) (vanishing v' c' g') = and (same_bool v v') (and (same_look c c') (grows b a g g'))
grows b a (inside d g) (inside e h) = and (same_delimiter d e) (grows true true g h)
grows b a (raw d) (raw e) = same_delimiter d e
grows b a (rest_after cs) (rest_after ds) = same_text cs ds
grows b a (either g h) (either g' h') = and (grows b a g g') (grows b a h h')
grows b a (rule k) (rule l) = and (same_rule k l) (may_name b a k)
grows b a (such p g) (such q h) = and (same_test p q) (and (or (outer_test p) (plain_form g)) (grows false a g h))
grows b a (shaped j g) (shaped k h) = and (same_shape j k) (and (plain_shape j) (grows b a g h))
grows b a (captured g) (captured h) = grows b a g h
grows b a unshown unshown = true
grows b a (supplied n p t) (supplied n' p' t') = and (same_fact n n') (and (grows b false p p') (grows b a t t'))
grows b a (generics_before x y h) (generics_before x' y' h') = and (and (grows b false x x') (grows b false y y')) (grows b a h h')
grows b a (row g h) (row g' h') = and (grows b false g g') (grows b false h h')
grows b a (ordered g h) (ordered g' h') = and (grows b false g g') (grows b false h h')
grows b a _ _ = false

-- the same of each rule
abbrev good_rule : Bool → Rule → Bool
good_rule b k = or (or (is_part k) (or (is_list k) (no (or b (calm k))))) (grows b (needs k) (before k) (table k))

all_good : (b : Bool) (k : Rule) → good_rule b k ≡ true
all_good true k = of_every_rule (good_rule true) refl refl k
all_good false k = of_every_rule (good_rule false) refl refl k

all_grow : (b : Bool) (k : Rule) → is_part k ≡ false → is_list k ≡ false → or b (calm k) ≡ true → grows b (needs k) (before k) (table k) ≡ true
all_grow b k p l c = go (or_split (or (is_part k) (or (is_list k) (no (or b (calm k))))) _ (all_good b k))
  where
    go : (or (is_part k) (or (is_list k) (no (or b (calm k)))) ≡ true) ⊎ (grows b (needs k) (before k) (table k) ≡ true) → grows b (needs k) (before k) (table k) ≡ true
    go (inl q) = absurd (true≢false (sym q ∙ ap₂ or p (ap₂ or l (ap no c))))
    go (inr q) = q

all_plain_rules : (k : Rule) → plain k ≡ true → plain_form (before k) ≡ true
all_plain_rules k = by_implied (plain k) _ (of_every_rule (λ k. implies (plain k) (plain_form (before k))) refl refl k)

-- LEMMAS OF LIFTED TREES

plain_lift : (j : Shape) (s : Syntax) → plain_shape j ≡ true → lift_shaped j s ≡ Shaped j s
plain_lift listed s e = absurd (true≢false (sym e))
plain_lift single s e = absurd (true≢false (sym e))
plain_lift j s e = refl

vacant_lift : (s : Syntax) → vacant (lift_in false s) ≡ vacant s
vacant_lift (Both s t) = ap₂ and (vacant_lift s) (vacant_lift t)
vacant_lift (Left s) = vacant_lift s
vacant_lift (Right s) = vacant_lift s
vacant_lift (Node s) = vacant_lift s
vacant_lift (Case k s) = vacant_lift s
vacant_lift (Such s) = vacant_lift s
vacant_lift (Shaped j s) = vacant_lift s
vacant_lift _ = refl

ends_lift : (s : Syntax) → ends_brace (lift_in false s) ≡ ends_brace s
ends_lift (Both s t) = ap₂ (λ v w. pick v w (ends_brace (lift_in false t))) (vacant_lift t) (ends_lift s) ∙ ap (λ v. pick (vacant t) (ends_brace s) v) (ends_lift t)
ends_lift (Left s) = ends_lift s
ends_lift (Right s) = ends_lift s
ends_lift (Node s) = ends_lift s
ends_lift (Case k s) = ends_lift s
ends_lift (Such s) = ends_lift s
ends_lift (Shaped j s) = ends_lift s
ends_lift (Group Brace o c s) = refl
ends_lift (Group _ o c s) = refl
ends_lift _ = refl

no_where_lift : (s : Syntax) → no_where (lift_in false s) ≡ no_where s
no_where_lift (Both s t) = ap₂ and (no_where_lift s) (no_where_lift t)
no_where_lift (Left s) = no_where_lift s
no_where_lift (Right s) = no_where_lift s
no_where_lift (Node s) = no_where_lift s
no_where_lift (Vanishing v s) = ap (or v) (no_where_lift s)
no_where_lift (Case k s) = no_where_lift s
no_where_lift (Such s) = no_where_lift s
no_where_lift _ = refl

one_where_lift : (s : Syntax) → at_most_one_where (lift_in false s) ≡ at_most_one_where s
one_where_lift (Both s t) = ap₂ or (ap₂ and (no_where_lift s) (one_where_lift t)) (ap₂ and (one_where_lift s) (no_where_lift t))
one_where_lift (Left s) = one_where_lift s
one_where_lift (Right s) = one_where_lift s
one_where_lift (Node s) = one_where_lift s
one_where_lift (Vanishing v s) = ap (or v) (one_where_lift s)
one_where_lift (Case k s) = one_where_lift s
one_where_lift (Such s) = one_where_lift s
one_where_lift _ = refl

outer_lift : (q : Test) (s : Syntax) → outer_test q ≡ true → holds q (lift_in false s) ≡ holds q s
outer_lift trailing_brace s e = ends_lift s
outer_lift no_trailing_brace s e = ap no (ends_lift s)
outer_lift one_where s e = one_where_lift s
outer_lift (has k) s e = absurd (true≢false (sym e))
outer_lift (has_no k) s e = absurd (true≢false (sym e))

plain_named : (k : Rule) (ks : List Rule) → among k ks ≡ true → all_plain ks ≡ true → (plain k ≡ true) × (same_rule k kept_item ≡ false)
plain_named k [] e w = absurd (true≢false (sym e))
plain_named k (l ∷ ks) e w = go (or_split (same_rule k l) (among k ks) e) (plain_named k ks)
  where
    go : (same_rule k l ≡ true) ⊎ (among k ks ≡ true) → (among k ks ≡ true → all_plain ks ≡ true → (plain k ≡ true) × (same_rule k kept_item ≡ false)) → (plain k ≡ true) × (same_rule k kept_item ≡ false)
    go (inl q) ih =
        let i = same_rule_eq k l q in
        let v = and_left (and (plain l) (no (same_rule l kept_item))) _ w in
        (ap plain i ∙ and_left (plain l) _ v, ap (λ z. same_rule z kept_item) i ∙ no_true (same_rule l kept_item) (and_right (plain l) _ v))
    go (inr q) ih = ih q (and_right (and (plain l) (no (same_rule l kept_item))) _ w)

and_off : (b v : Bool) → v ≡ false → and b v ≡ false
and_off true v e = e
and_off false v e = refl

-- what such a form reads isn't changed
plain_lifted : (b : Bool) (g : Grammar) (s : Syntax) (ts r : Stream) → plain_form g ≡ true → DerivesPrefix before g s ts r → lift_in b s ≡ s
plain_lifted b empty Nothing ts r e x = refl
plain_lifted b empty _ ts r e x = elim x [ ]
plain_lifted b (token t k) (Token y sp) ts r e x = refl
plain_lifted b (token t k) _ ts r e x = elim x [ ]
plain_lifted b (mark t cs) (Mark xs) ts r e x = refl
plain_lifted b (mark t cs) _ ts r e x = elim x [ ]
plain_lifted b (g & h) (Both s t) ts r e (m, x, y) = ap₂ Both (plain_lifted b g s ts m (and_left (plain_form g) _ e) x) (plain_lifted b h t m r (and_right (plain_form g) _ e) y)
plain_lifted b (g & h) _ ts r e x = elim x [ ]
plain_lifted b (when c then g else h) (Left s) ts r e (v, x) = ap Left (plain_lifted b g s ts r (and_left (plain_form g) _ e) x)
plain_lifted b (when c then g else h) (Right s) ts r e (v, x) = ap Right (plain_lifted b h s ts r (and_right (plain_form g) _ e) x)
plain_lifted b (when c then g else h) _ ts r e x = elim x [ ]
plain_lifted b (inside d g) (Group d' o c s) ts r e (p, i, q, x) = ap (Group d' o c) (plain_lifted true g s i end e x)
plain_lifted b (inside d g) _ ts r e x = elim x [ ]
plain_lifted b (one_of ks) (Case k s) ts r e (n, x) =
    let w = plain_named k ks n e in
    ap (λ v. pick v (lift_item (lift_in b s)) (Case k (lift_in b s))) (and_off b (same_rule k kept_item) w.1) ∙ ap (Case k) (plain_lifted b (before k) s ts r (all_plain_rules k w.0) x)
plain_lifted b (one_of ks) _ ts r e x = elim x [ ]
plain_lifted b (rule k) (Node s) ts r e x = ap Node (plain_lifted b (before k) s ts r (all_plain_rules k e) x)
plain_lifted b (rule k) _ ts r e x = elim x [ ]
plain_lifted b _ s ts r e x = absurd (true≢false (sym e))

none : (r : Stream) → Free false r
none r e = absurd (true≢false (sym e))

-- before what the second form begins with
before_form : (a : Bool) (h : Grammar) (t : Syntax) (m r : Stream) → Free a r → DerivesPrefix table h t m r → Free (brace_free a h) m
before_form a h t m r F y e = go (begins start_of table starts_hold h t m r y) (present at_brace_group m) refl
  where
    in_set : (v : Bool) → mem (Delimited Brace v) (first_set start_of h) ≡ true → or (mem (Delimited Brace true) (first_set start_of h)) (mem (Delimited Brace false) (first_set start_of h)) ≡ true
    in_set true i = or_left (mem (Delimited Brace true) (first_set start_of h)) _ i
    in_set false i = or_right (mem (Delimited Brace true) (first_set start_of h)) _ i

    go : Begins start_of h m r → (v : Bool) → present at_brace_group m ≡ v → v ≡ false
    go p false q = refl
    go (inl p) true q =
        let (v, f) = brace_terminal (lookahead m).terminal q in
        absurd (true≢false (sym (in_set v (sym (ap (λ f. mem f (first_set start_of h)) f) ∙ p)) ∙ no_true (or (mem (Delimited Brace true) (first_set start_of h)) (mem (Delimited Brace false) (first_set start_of h))) (and_left (no_brace_in (first_set start_of h)) _ e)))
    go (inr p) true q = at (or_split (no (nullable start_of h)) a (and_right (no_brace_in (first_set start_of h)) _ e))
      where
        at : (no (nullable start_of h) ≡ true) ⊎ (a ≡ true) → true ≡ false
        at (inl n) = absurd (true≢false (sym p.0 ∙ no_true (nullable start_of h) n))
        at (inr n) = sym q ∙ ap (present at_brace_group) p.1 ∙ F n

reads_nothing : (g : Grammar) (s : Syntax) (ts r : Stream) → is_empty g ≡ true → DerivesPrefix before g s ts r → ts ≡ r
reads_nothing empty Nothing ts r e x = x
reads_nothing empty _ ts r e x = elim x [ ]
reads_nothing _ s ts r e x = absurd (true≢false (sym e))

-- what is read in the place of this rule
abbrev ready_one : Bool → Bool → Rule → List Rule → Bool
ready_one b a k ls = pick (same_rule k kept_item) (and b (has_kinds ls)) (and (among k ls) (may_name b a k))

here_at : (b a : Bool) (k : Rule) (ks ls : List Rule) → among k ks ≡ true → each_ready b a ks ls ≡ true → ready_one b a k ls ≡ true
here_at b a k [] ls e w = absurd (true≢false (sym e))
here_at b a k (l ∷ ks) ls e w = go (or_split (same_rule k l) (among k ks) e) (here_at b a k ks ls)
  where
    go : (same_rule k l ≡ true) ⊎ (among k ks ≡ true) → (among k ks ≡ true → each_ready b a ks ls ≡ true → ready_one b a k ls ≡ true) → ready_one b a k ls ≡ true
    go (inl q) ih = ap (λ z. ready_one b a z ls) (same_rule_eq k l q) ∙ and_left (ready_one b a l ls) _ w
    go (inr q) ih = ih q (and_right (ready_one b a l ls) _ w)

-- what follows is as a rule needs it
enough : (a : Bool) (k : Rule) (r : Stream) → or a (no (needs k)) ≡ true → Free a r → Free (needs k) r
enough a k r w F e = go (or_split a (no (needs k)) w)
  where
    go : (a ≡ true) ⊎ (no (needs k) ≡ true) → present at_brace_group r ≡ false
    go (inl q) = F q
    go (inr q) = absurd (true≢false (sym e ∙ no_true (needs k) q))

-- THE FORMS OF ITEMS THAT WERE KEPT AS TOKENS

abbrev rules_of : Grammar → List Rule
rules_of (one_of ks) = ks
rules_of _ = []

abbrev kept_before : List Rule
kept_before = rules_of (before kept_item_rest)

abbrev kept_now : List Rule
kept_now = rules_of (table kept_item_rest)

-- none of them is a verbatim item; each but three is a rule of today
abbrev good_form : Rule → Bool
good_form k = implies (among k kept_before) (and (no (same_rule k kept_item)) (or (is_moved k) (and (among k kept_now) (and (no (is_part k)) (and (no (is_list k)) (no (needs k)))))))

form_holds : (k : Rule) → among k kept_before ≡ true → and (no (same_rule k kept_item)) (or (is_moved k) (and (among k kept_now) (and (no (is_part k)) (and (no (is_list k)) (no (needs k)))))) ≡ true
form_holds k = by_implied (among k kept_before) _ (of_every_rule good_form refl refl k)

-- such a form in place
form_lifted : (k : Rule) (s : Syntax) → among k kept_before ≡ true → lift_in true (Case k s) ≡ Case k (lift_in true s)
form_lifted k s n = ap (λ v. pick v (lift_item (lift_in true s)) (Case k (lift_in true s))) (no_true (same_rule k kept_item) (and_left (no (same_rule k kept_item)) _ (form_holds k n)))

-- what becomes of a form, by which it is
data Becomes (k : Rule) (s : Syntax) (ts r : Stream) : Type 0 where
  a_trait : same_rule k const_trait ≡ true → DerivesPrefix table (table trait_definition_rest) (lift_in true s) ts r → Becomes k s ts r
  an_impl : same_rule k const_trait ≡ false → same_rule k const_impl ≡ true → DerivesPrefix table (table impl_definition_rest) (lift_in true s) ts r → Becomes k s ts r
  a_kept : same_rule k const_trait ≡ false → same_rule k const_impl ≡ false → DerivesPrefix table (table kept_item_rest) (renamed k (lift_in true s)) ts r → Becomes k s ts r

-- as an item, and as a statement
item_becomes : (k : Rule) (a s : Syntax) (i ts m r : Stream) (ls : List Rule) → has_kinds ls ≡ true → ts ≡ i ⧺ r → DerivesPrefix table (rule attributes) a ts m → Becomes k s m r →
    DerivesPrefix table (one_of ls) (by_form k (Case trait_definition (Both a (Node (lift_in true s)))) (Case impl_definition (Both a (Node (lift_in true s)))) (Case kept_item (Captured (Both a (Node (renamed k (lift_in true s)))) i))) ts r
item_becomes k a s i ts m r ls w q x (a_trait e y) =
    subst (λ v. DerivesPrefix table (one_of ls) (pick v (Case trait_definition (Both a (Node (lift_in true s)))) (pick (same_rule k const_impl) (Case impl_definition (Both a (Node (lift_in true s)))) (Case kept_item (Captured (Both a (Node (renamed k (lift_in true s)))) i)))) ts r) (sym e)
    (and_left (among trait_definition ls) _ w, (m, x, y))
item_becomes k a s i ts m r ls w q x (an_impl e f y) =
    subst (λ v. DerivesPrefix table (one_of ls) (pick v (Case trait_definition (Both a (Node (lift_in true s)))) (pick (same_rule k const_impl) (Case impl_definition (Both a (Node (lift_in true s)))) (Case kept_item (Captured (Both a (Node (renamed k (lift_in true s)))) i)))) ts r) (sym e)
    (subst (λ v. DerivesPrefix table (one_of ls) (pick v (Case impl_definition (Both a (Node (lift_in true s)))) (Case kept_item (Captured (Both a (Node (renamed k (lift_in true s)))) i))) ts r) (sym f)
    (and_left (among impl_definition ls) _ (and_right (among trait_definition ls) _ w), (m, x, y)))
item_becomes k a s i ts m r ls w q x (a_kept e f y) =
    subst (λ v. DerivesPrefix table (one_of ls) (pick v (Case trait_definition (Both a (Node (lift_in true s)))) (pick (same_rule k const_impl) (Case impl_definition (Both a (Node (lift_in true s)))) (Case kept_item (Captured (Both a (Node (renamed k (lift_in true s)))) i)))) ts r) (sym e)
    (subst (λ v. DerivesPrefix table (one_of ls) (pick v (Case impl_definition (Both a (Node (lift_in true s)))) (Case kept_item (Captured (Both a (Node (renamed k (lift_in true s)))) i))) ts r) (sym f)
    (and_right (among impl_definition ls) _ (and_right (among trait_definition ls) _ w), (q, (m, x, y))))

-- THE FORMS of statements
abbrev then_of : Grammar → Grammar
then_of (when c then g else h) = g
then_of g = g

abbrev else_of : Grammar → Grammar
else_of (when c then g else h) = h
else_of g = g

abbrev within : Grammar → Grammar
within (shaped j g) = g
within g = g

abbrev one_side : Grammar → Grammar
one_side (either g h) = g
one_side g = g

abbrev other_side : Grammar → Grammar
other_side (either g h) = h
other_side g = g

-- a list of statements that isn't empty; after a `;` alone; and where a statement is next
abbrev some_statements : Grammar
some_statements = else_of (table statements)

abbrev after_semicolon : Grammar
after_semicolon = then_of (within some_statements)

abbrev some_statement : Grammar
some_statement = else_of (within some_statements)

-- an item that was verbatim, in a list of statements, is that item
listed_becomes : (k : Rule) (c s l : Syntax) (i ts m n r : Stream) → ts ≡ i ⧺ n → DerivesPrefix table (rule attributes) c ts m → present at_item m ≡ true → Becomes k s m n → DerivesPrefix table (rule statements) l n r →
    DerivesPrefix table some_statement (lift_shaped listed (Left (Both (Shaped an_item (Node (Captured (Both c (Left (Node (Case k (lift_in true s))))) i))) l))) ts r
listed_becomes k c s l i ts m n r q x h (a_trait e y) z =
    subst (λ v. DerivesPrefix table some_statement (pick v (item_of_list c trait_definition_rest (lift_in true s) l) (pick (same_rule k const_impl) (item_of_list c impl_definition_rest (lift_in true s) l) (Shaped listed (Left (Both (Shaped an_item (Node (Captured (Both c (Left (Node (renamed k (lift_in true s))))) i))) l))))) ts r) (sym e)
    (refl, (m, x, (h, (refl, (n, (refl, y), z)))))
listed_becomes k c s l i ts m n r q x h (an_impl e f y) z =
    subst (λ v. DerivesPrefix table some_statement (pick v (item_of_list c trait_definition_rest (lift_in true s) l) (pick (same_rule k const_impl) (item_of_list c impl_definition_rest (lift_in true s) l) (Shaped listed (Left (Both (Shaped an_item (Node (Captured (Both c (Left (Node (renamed k (lift_in true s))))) i))) l))))) ts r) (sym e)
    (subst (λ v. DerivesPrefix table some_statement (pick v (item_of_list c impl_definition_rest (lift_in true s) l) (Shaped listed (Left (Both (Shaped an_item (Node (Captured (Both c (Left (Node (renamed k (lift_in true s))))) i))) l)))) ts r) (sym f)
    (refl, (m, x, (h, (refl, (n, (refl, y), z))))))
listed_becomes k c s l i ts m n r q x h (a_kept e f y) z =
    subst (λ v. DerivesPrefix table some_statement (pick v (item_of_list c trait_definition_rest (lift_in true s) l) (pick (same_rule k const_impl) (item_of_list c impl_definition_rest (lift_in true s) l) (Shaped listed (Left (Both (Shaped an_item (Node (Captured (Both c (Left (Node (renamed k (lift_in true s))))) i))) l))))) ts r) (sym e)
    (subst (λ v. DerivesPrefix table some_statement (pick v (item_of_list c impl_definition_rest (lift_in true s) l) (Shaped listed (Left (Both (Shaped an_item (Node (Captured (Both c (Left (Node (renamed k (lift_in true s))))) i))) l)))) ts r) (sym f)
    (refl, (n, (refl, (q, (m, x, (h, y)))), z)))

-- and alone
lone_becomes : (k : Rule) (c s : Syntax) (i ts m r : Stream) → ts ≡ i ⧺ r → DerivesPrefix table (rule attributes) c ts m → present at_item m ≡ true → Becomes k s m r →
    DerivesPrefix table (table statement) (lift_shaped single (Left (Shaped an_item (Node (Captured (Both c (Left (Node (Case k (lift_in true s))))) i))))) ts r
lone_becomes k c s i ts m r q x h (a_trait e y) =
    subst (λ v. DerivesPrefix table (table statement) (pick v (item_alone c trait_definition_rest (lift_in true s)) (pick (same_rule k const_impl) (item_alone c impl_definition_rest (lift_in true s)) (Shaped single (Left (Shaped an_item (Node (Captured (Both c (Left (Node (renamed k (lift_in true s))))) i))))))) ts r) (sym e)
    (refl, (refl, (m, x, (h, (refl, (refl, y))))))
lone_becomes k c s i ts m r q x h (an_impl e f y) =
    subst (λ v. DerivesPrefix table (table statement) (pick v (item_alone c trait_definition_rest (lift_in true s)) (pick (same_rule k const_impl) (item_alone c impl_definition_rest (lift_in true s)) (Shaped single (Left (Shaped an_item (Node (Captured (Both c (Left (Node (renamed k (lift_in true s))))) i))))))) ts r) (sym e)
    (subst (λ v. DerivesPrefix table (table statement) (pick v (item_alone c impl_definition_rest (lift_in true s)) (Shaped single (Left (Shaped an_item (Node (Captured (Both c (Left (Node (renamed k (lift_in true s))))) i)))))) ts r) (sym f)
    (refl, (refl, (m, x, (h, (refl, (refl, y)))))))
lone_becomes k c s i ts m r q x h (a_kept e f y) =
    subst (λ v. DerivesPrefix table (table statement) (pick v (item_alone c trait_definition_rest (lift_in true s)) (pick (same_rule k const_impl) (item_alone c impl_definition_rest (lift_in true s)) (Shaped single (Left (Shaped an_item (Node (Captured (Both c (Left (Node (renamed k (lift_in true s))))) i))))))) ts r) (sym e)
    (subst (λ v. DerivesPrefix table (table statement) (pick v (item_alone c impl_definition_rest (lift_in true s)) (Shaped single (Left (Shaped an_item (Node (Captured (Both c (Left (Node (renamed k (lift_in true s))))) i)))))) ts r) (sym f)
    (refl, (refl, (q, (m, x, (h, y))))))

by : {D : Type 0} → (v : Bool) → (v ≡ true → D) → (v ≡ false → D) → D
by true f g = f refl
by false f g = g refl

pick_same : (b : Bool) (x y : Syntax) → x ≡ y → y ≡ pick b x y
pick_same true x y e = sym e
pick_same false x y e = refl

calm_list : (b : Bool) (k : Rule) → is_list k ≡ true → or b (calm k) ≡ true → b ≡ true
calm_list true k e w = refl
calm_list false k e w = absurd (true≢false (sym w ∙ no_true (calm k) (by_implied (is_list k) _ (of_every_rule (λ k. implies (is_list k) (no (calm k))) refl refl k) e)))

-- what is read in the place of a rule that reads no verbatim item
case_at : (b : Bool) (k : Rule) (s : Syntax) (ts r : Stream) (ls : List Rule) → same_rule k kept_item ≡ false → among k ls ≡ true → DerivesPrefix table (table k) (lift_in b s) ts r → DerivesPrefix table (one_of ls) (lift_in b (Case k s)) ts r
case_at b k s ts r ls e n y = subst (λ v. DerivesPrefix table (one_of ls) (pick v (lift_item (lift_in b s)) (Case k (lift_in b s))) ts r) (sym (and_off b (same_rule k kept_item) e)) (n, y)

-- and where it is one
case_kept : (b : Bool) (k : Rule) (s : Syntax) (ts r : Stream) (ls : List Rule) → same_rule k kept_item ≡ true → b ≡ true → DerivesPrefix table (one_of ls) (lift_item (lift_in true s)) ts r → DerivesPrefix table (one_of ls) (lift_in b (Case k s)) ts r
case_kept true k s ts r ls e i y = subst (λ v. DerivesPrefix table (one_of ls) (pick v (lift_item (lift_in true s)) (Case k (lift_in true s))) ts r) (sym e) y
case_kept false k s ts r ls e i y = absurd (true≢false (sym i))

of_rule : (k l : Rule) (s : Syntax) (ts r : Stream) → same_rule k l ≡ true → DerivesPrefix before (before k) s ts r → DerivesPrefix before (before l) s ts r
of_rule k l s ts r e x = subst (λ z. DerivesPrefix before (before z) s ts r) (same_rule_eq k l e) x

-- a form of an item that was verbatim: by the growth of its parts
becomes : (k : Rule) (s : Syntax) (ts r : Stream) → among k kept_before ≡ true →
    (DerivesPrefix before (before const_trait) s ts r → DerivesPrefix table (table trait_definition_rest) (lift_in true s) ts r) →
    (DerivesPrefix before (before const_impl) s ts r → DerivesPrefix table (table impl_definition_rest) (lift_in true s) ts r) →
    (DerivesPrefix before (before odd_const_impl) s ts r → DerivesPrefix table (table odd_impl) (lift_in true s) ts r) →
    (is_part k ≡ false → is_list k ≡ false → needs k ≡ false → DerivesPrefix before (before k) s ts r → DerivesPrefix table (table k) (lift_in true s) ts r) →
    DerivesPrefix before (before k) s ts r → Becomes k s ts r
becomes k s ts r n f_trait f_impl f_odd f_same x =
    by (same_rule k const_trait)
    (λ e. a_trait e (f_trait (of_rule k const_trait s ts r e x)))
    (λ e. by (same_rule k const_impl)
    (λ f. an_impl e f (f_impl (of_rule k const_impl s ts r f x)))
    (λ f. a_kept e f (by (same_rule k odd_const_impl)
    (λ q. subst (λ v. DerivesPrefix table (table kept_item_rest) (pick v (Case odd_impl (lift_in true s)) (Case k (lift_in true s))) ts r) (sym q)
    (refl, f_odd (of_rule k odd_const_impl s ts r q x)))
    (λ q. subst (λ v. DerivesPrefix table (table kept_item_rest) (pick v (Case odd_impl (lift_in true s)) (Case k (lift_in true s))) ts r) (sym q)
    (let w = still (and_right (no (same_rule k kept_item)) _ (form_holds k n)) (ap₂ or e (ap₂ or f (ap₂ or q refl))) in
    let u = and_right (among k kept_now) _ w in
    let v = and_right (no (is_part k)) _ u in
    (and_left (among k kept_now) _ w, f_same (no_true (is_part k) (and_left (no (is_part k)) _ u)) (no_true (is_list k) (and_left (no (is_list k)) _ v)) (no_true (needs k) (and_right (no (is_list k)) _ v)) x))))))
  where
    still : or (is_moved k) (and (among k kept_now) (and (no (is_part k)) (and (no (is_list k)) (no (needs k))))) ≡ true → is_moved k ≡ false → and (among k kept_now) (and (no (is_part k)) (and (no (is_list k)) (no (needs k)))) ≡ true
    still w f = go (or_split (is_moved k) _ w)
      where
        go : (is_moved k ≡ true) ⊎ (and (among k kept_now) (and (no (is_part k)) (and (no (is_list k)) (no (needs k)))) ≡ true) → and (among k kept_now) (and (no (is_part k)) (and (no (is_list k)) (no (needs k)))) ≡ true
        go (inl q) = absurd (true≢false (sym q ∙ f))
        go (inr q) = q

-- statements: by the growth of the two rules of them
list_grown : (b : Bool) (k : Rule) (s : Syntax) (ts r : Stream) → is_list k ≡ true → or b (calm k) ≡ true → Free (needs k) r →
    (Free true r → DerivesPrefix before (before statements) s ts r → DerivesPrefix table (table statements) (lift_in true s) ts r) →
    (DerivesPrefix before (before statement) s ts r → DerivesPrefix table (table statement) (lift_in true s) ts r) →
    DerivesPrefix before (before k) s ts r → DerivesPrefix table (table k) (lift_in b s) ts r
list_grown b k s ts r i c F many lone x =
    subst (λ z. DerivesPrefix table (table k) (lift_in z s) ts r) (sym (calm_list b k i c))
    (by (same_rule k statements)
    (λ q. let j = same_rule_eq k statements q in
    subst (λ z. DerivesPrefix table (table z) (lift_in true s) ts r) (sym j) (many (subst (λ z. Free (needs z) r) j F) (of_rule k statements s ts r q x)))
    (λ q. let u = other q in
    subst (λ z. DerivesPrefix table (table z) (lift_in true s) ts r) (sym (same_rule_eq k statement u)) (lone (of_rule k statement s ts r u x))))
  where
    other : same_rule k statements ≡ false → same_rule k statement ≡ true
    other q = go (or_split (same_rule k statements) _ i)
      where
        go : (same_rule k statements ≡ true) ⊎ (or (same_rule k statement) false ≡ true) → same_rule k statement ≡ true
        go (inl z) = absurd (true≢false (sym z ∙ q))
        go (inr z) = first (or_split (same_rule k statement) false z)
          where
            first : (same_rule k statement ≡ true) ⊎ (false ≡ true) → same_rule k statement ≡ true
            first (inl z) = z
            first (inr z) = absurd (true≢false (sym z))

mutual
  pub grown : (b a : Bool) (g h : Grammar) (s : Syntax) (ts r : Stream) → grows b a g h ≡ true → Free a r → DerivesPrefix before g s ts r → DerivesPrefix table h (lift_in b s) ts r
  grown b a (one_of []) h (Case k s) ts r e F x = absurd (true≢false (sym x.0))
  grown b a (one_of []) h _ ts r e F x = elim x [ ]
  grown b a (one_of (l ∷ ks)) (one_of ls) (Case k s) ts r e F (n, x) =
      let w = here_at b a k (l ∷ ks) ls n e in
      by (same_rule k kept_item)
      (λ q. let v = subst (λ z. pick z (and b (has_kinds ls)) (and (among k ls) (may_name b a k)) ≡ true) q w in
      case_kept b k s ts r ls q (and_left b _ v) (kept_grown s ts r ls (and_right b _ v) (of_rule k kept_item s ts r q x)))
      (λ q. let v = subst (λ z. pick z (and b (has_kinds ls)) (and (among k ls) (may_name b a k)) ≡ true) q w in
      let u = and_right (among k ls) _ v in
      let p = no_true (is_part k) (and_left (no (is_part k)) _ u) in
      let f = and_right (no (is_part k)) _ u in
      let c = and_right (or a (no (needs k))) _ f in
      let d = enough a k r (and_left (or a (no (needs k))) _ f) F in
      case_at b k s ts r ls q (and_left (among k ls) _ v) (by (is_list k) (λ i. list_grown b k s ts r i c d (λ w y. statements_grown s ts r w y) (λ y. statement_grown s ts r y) x) (λ i. grown b (needs k) (before k) (table k) s ts r (all_grow b k p i c) d x)))
  grown b a (one_of (l ∷ ks)) (one_of ls) _ ts r e F x = elim x [ ]
  grown b a empty empty Nothing ts r e F x = x
  grown b a empty empty _ ts r e F x = elim x [ ]
  grown b a (token t k) (token c l) (Token y sp) ts r e F x = (ap (λ z. fits z y) (sym (same_choice_eq k l e)) ∙ x.0, x.1)
  grown b a (token t k) (token c l) _ ts r e F x = elim x [ ]
  grown b a (mark t cs) (mark c ds) (Mark xs) ts r e F x = (x.0 ∙ same_text_eq cs ds e, x.1)
  grown b a (mark t cs) (mark c ds) _ ts r e F x = elim x [ ]
  grown b a lifetime lifetime (Lifetime sp y sq) ts r e F x = x
  grown b a lifetime lifetime _ ts r e F x = elim x [ ]
  grown b a (g & h) (g' & h') (Both s t) ts r e F (m, x, y) =
      let z = grown b a h h' t m r (and_right (grows b (brace_free a h') g g') _ e) F y in
      (m, grown b (brace_free a h') g g' s ts m (and_left (grows b (brace_free a h') g g') _ e) (before_form a h' (lift_in b t) m r F z) x, z)
  grown b a (g & h) (g' & h') _ ts r e F x = elim x [ ]
  grown b a (when c then g else h) (when c' then g' else h') (Left s) ts r e F (v, x) =
      let i = same_look_eq c c' (and_left (same_look c c') _ e) in
      (ap (λ z. present z ts) (sym i) ∙ v, go (or_split (grows b a g g') _ (and_left (or (grows b a g g') (and (is_empty g) (and a (same_look c at_brace_group)))) _ (and_right (same_look c c') _ e))) (λ q. grown b a g g' s ts r q F x))
    where
      go : (grows b a g g' ≡ true) ⊎ (and (is_empty g) (and a (same_look c at_brace_group)) ≡ true) → (grows b a g g' ≡ true → DerivesPrefix table g' (lift_in b s) ts r) → DerivesPrefix table g' (lift_in b s) ts r
      go (inl q) k = k q
      go (inr q) k =
          let w = and_right (is_empty g) _ q in
          absurd (true≢false (sym v ∙ ap (λ z. present z ts) (same_look_eq c at_brace_group (and_right a _ w)) ∙ ap (present at_brace_group) (reads_nothing g s ts r (and_left (is_empty g) _ q) x) ∙ F (and_left a _ w)))
  grown b a (when c then g else h) (when c' then g' else h') (Right s) ts r e F (v, x) =
      let i = same_look_eq c c' (and_left (same_look c c') _ e) in
      (ap (λ z. present z ts) (sym i) ∙ v, grown b a h h' s ts r (and_right (or (grows b a g g') (and (is_empty g) (and a (same_look c at_brace_group)))) _ (and_right (same_look c c') _ e)) F x)
  grown b a (when c then g else h) (when c' then g' else h') _ ts r e F x = elim x [ ]
  grown b a (vanishing u c g) (vanishing u' c' g') (Vanishing d (Left s)) ts r e F (p, (v, x)) =
      let w = and_right (same_bool u u') _ e in
      (sym (same_bool_eq u u' (and_left (same_bool u u') _ e)) ∙ p, (ap (λ z. present z ts) (sym (same_look_eq c c' (and_left (same_look c c') _ w))) ∙ v, grown b a g g' s ts r (and_right (same_look c c') _ w) F x))
  grown b a (vanishing u c g) (vanishing u' c' g') (Vanishing d (Right Nothing)) ts r e F (p, (v, x)) =
      let w = and_right (same_bool u u') _ e in
      (sym (same_bool_eq u u' (and_left (same_bool u u') _ e)) ∙ p, (ap (λ z. present z ts) (sym (same_look_eq c c' (and_left (same_look c c') _ w))) ∙ v, x))
  grown b a (vanishing u c g) (vanishing u' c' g') (Vanishing d (Right _)) ts r e F (p, (v, x)) = elim x [ ]
  grown b a (vanishing u c g) (vanishing u' c' g') (Vanishing d _) ts r e F (p, x) = elim x [ ]
  grown b a (vanishing u c g) (vanishing u' c' g') _ ts r e F x = elim x [ ]
  grown b a (inside d g) (inside f h) (Group d' o c s) ts r e F (p, i, q, x) =
      (sym (same_delimiter_eq d f (and_left (same_delimiter d f) _ e)) ∙ p, i, q, grown true true g h s i end (and_right (same_delimiter d f) _ e) (λ w. refl) x)
  grown b a (inside d g) (inside f h) _ ts r e F x = elim x [ ]
  grown b a (raw d) (raw f) (Raw d' o c i) ts r e F x = (sym (same_delimiter_eq d f e) ∙ x.0, x.1)
  grown b a (raw d) (raw f) _ ts r e F x = elim x [ ]
  grown b a (rest_after cs) (rest_after ds) (Rest xs i) ts r e F (p, q, v, w) = (p ∙ same_text_eq cs ds e, q, v, w)
  grown b a (rest_after cs) (rest_after ds) _ ts r e F x = elim x [ ]
  grown b a (either g h) (either g' h') (Left s) ts r e F x = grown b a g g' s ts r (and_left (grows b a g g') _ e) F x
  grown b a (either g h) (either g' h') (Right s) ts r e F x = grown b a h h' s ts r (and_right (grows b a g g') _ e) F x
  grown b a (either g h) (either g' h') _ ts r e F x = elim x [ ]
  grown b a (rule k) (rule l) (Node s) ts r e F x =
      let u = and_right (same_rule k l) _ e in
      let p = no_true (is_part k) (and_left (no (is_part k)) _ u) in
      let f = and_right (no (is_part k)) _ u in
      let c = and_right (or a (no (needs k))) _ f in
      let d = enough a k r (and_left (or a (no (needs k))) _ f) F in
      subst (λ z. DerivesPrefix table (table z) (lift_in b s) ts r) (same_rule_eq k l (and_left (same_rule k l) _ e))
      (by (is_list k) (λ i. list_grown b k s ts r i c d (λ w y. statements_grown s ts r w y) (λ y. statement_grown s ts r y) x) (λ i. grown b (needs k) (before k) (table k) s ts r (all_grow b k p i c) d x))
  grown b a (rule k) (rule l) _ ts r e F x = elim x [ ]
  grown b a (such p g) (such q h) (Such s) ts r e F (v, x) =
      let w = and_right (same_test p q) _ e in
      let o : holds p (lift_in false s) ≡ holds p s = go (or_split (outer_test p) (plain_form g) (and_left (or (outer_test p) (plain_form g)) _ w)) in
      (ap (λ z. holds z (lift_in false s)) (sym (same_test_eq p q (and_left (same_test p q) _ e))) ∙ o ∙ v, grown false a g h s ts r (and_right (or (outer_test p) (plain_form g)) _ w) F x)
    where
      go : (outer_test p ≡ true) ⊎ (plain_form g ≡ true) → holds p (lift_in false s) ≡ holds p s
      go (inl i) = outer_lift p s i
      go (inr i) = ap (holds p) (plain_lifted false g s ts r i x)
  grown b a (such p g) (such q h) _ ts r e F x = elim x [ ]
  grown b a (shaped j g) (shaped k h) (Shaped l s) ts r e F (v, x) =
      let w = and_right (same_shape j k) _ e in
      subst (λ z. DerivesPrefix table (shaped k h) z ts r) (pick_same b (lift_shaped l (lift_in b s)) (Shaped l (lift_in b s)) (plain_lift l (lift_in b s) (ap plain_shape (sym v) ∙ and_left (plain_shape j) _ w)))
      (sym (same_shape_eq j k (and_left (same_shape j k) _ e)) ∙ v, grown b a g h s ts r (and_right (plain_shape j) _ w) F x)
  grown b a (shaped j g) (shaped k h) _ ts r e F x = elim x [ ]
  grown b a (captured g) (captured h) (Captured s i) ts r e F (v, x) = (v, grown b a g h s ts r e F x)
  grown b a (captured g) (captured h) _ ts r e F x = elim x [ ]
  grown b a unshown unshown (Unshown s) ts r e F x = x
  grown b a unshown unshown _ ts r e F x = elim x [ ]
  grown b a (supplied n p t) (supplied n' p' t') (Both c (Both (Mark xs) s)) ts r e F (inl (v, y, sp, d, f, pa, w, q)) =
      let i = same_fact_eq n n' (and_left (same_fact n n') _ e) in
      let e' = and_right (same_fact n n') _ e in
      inl (ap (λ z. present (at_unnamed z) ts) (sym i) ∙ v, y, sp, d, f, grown b false p p' c _ end (and_left (grows b false p p') _ e') (none end) pa, w, grown b a t t' s ts r (and_right (grows b false p p') _ e') F q)
  grown b a (supplied n p t) (supplied n' p' t') (Both c (Both (Mark xs) s)) ts r e F (inr (v, m, pa, f, m', d, q)) =
      let i = same_fact_eq n n' (and_left (same_fact n n') _ e) in
      let e' = and_right (same_fact n n') _ e in
      inr (ap (λ z. present (at_unnamed z) ts) (sym i) ∙ v, m, grown b false p p' c ts m (and_left (grows b false p p') _ e') (none m) pa, f, m', d, grown b a t t' s m' r (and_right (grows b false p p') _ e') F q)
  grown b a (supplied n p t) (supplied n' p' t') (Both c (Both _ s)) ts r e F x = elim x [ ]
  grown b a (supplied n p t) (supplied n' p' t') (Both c _) ts r e F x = elim x [ ]
  grown b a (supplied n p t) (supplied n' p' t') _ ts r e F x = elim x [ ]
  grown b a (generics_before x y h) (generics_before x' y' h') (Impl (Left (Order xs l ys)) s) ts r e F (m, (v, c), d) =
      (m, (v, grown b false (ordered x y) (ordered x' y') (Order xs l ys) ts m (and_left (and (grows b false x x') (grows b false y y')) _ e) (none m) c), grown b a h h' s m r (and_right (and (grows b false x x') (grows b false y y')) _ e) F d)
  grown b a (generics_before x y h) (generics_before x' y' h') (Impl (Right Nothing) s) ts r e F (m, c, d) = (m, c, grown b a h h' s m r (and_right (and (grows b false x x') (grows b false y y')) _ e) F d)
  grown b a (generics_before x y h) (generics_before x' y' h') (Impl (Left _) s) ts r e F (m, (v, c), d) = elim c [ ]
  grown b a (generics_before x y h) (generics_before x' y' h') (Impl (Right _) s) ts r e F (m, (v, c), d) = elim c [ ]
  grown b a (generics_before x y h) (generics_before x' y' h') (Impl _ s) ts r e F (m, c, d) = elim c [ ]
  grown b a (generics_before x y h) (generics_before x' y' h') _ ts r e F z = elim z [ ]
  grown b a (row g h) (row g' h') Done ts r e F x = x
  grown b a (row g h) (row g' h') (Last true s) ts r e F (n, x, c) = (n, grown b false g g' s ts r (and_left (grows b false g g') _ e) (none r) x, c)
  grown b a (row g h) (row g' h') (Last false s) ts r e F (n, x, c) = (n, grown b false h h' s ts r (and_right (grows b false g g') _ e) (none r) x, c)
  grown b a (row g h) (row g' h') (More true s sp t) ts r e F (n, m, x, m', d, y) =
      (n, m, grown b false g g' s ts m (and_left (grows b false g g') _ e) (none m) x, m', d, grown b a (row g h) (row g' h') t m' r e F y)
  grown b a (row g h) (row g' h') (More false s sp t) ts r e F (n, m, x, m', d, y) =
      (n, m, grown b false h h' s ts m (and_right (grows b false g g') _ e) (none m) x, m', d, grown b a (row g h) (row g' h') t m' r e F y)
  grown b a (row g h) (row g' h') _ ts r e F x = elim x [ ]
  grown b a (ordered g h) (ordered g' h') (Order xs l ys) ts r e F (m, i, d, m', x, j, d') = (m, i, d, m', grown b false (row g h) (row g' h') l m m' e (none m') x, j, d')
  grown b a (ordered g h) (ordered g' h') _ ts r e F x = elim x [ ]
  grown b a _ _ s ts r e F x = absurd (true≢false (sym e))

  -- an item that was verbatim
  kept_grown : (s : Syntax) (ts r : Stream) (ls : List Rule) → has_kinds ls ≡ true → DerivesPrefix before (before kept_item) s ts r → DerivesPrefix table (one_of ls) (lift_item (lift_in true s)) ts r
  kept_grown (Captured (Both c (Node (Case k s))) i) ts r ls w (q, (m, x, (n, y))) =
      subst (λ z. DerivesPrefix table (one_of ls) (lift_item (Captured (Both (lift_in true c) (Node z)) i)) ts r) (sym (form_lifted k s n))
      (item_becomes k (lift_in true c) s i ts m r ls w q (grown true false (rule attributes) (rule attributes) c ts m refl (none m) x) (becomes k s m r n (λ z. grown true false (before const_trait) (table trait_definition_rest) s m r refl (none r) z) (λ z. grown true false (before const_impl) (table impl_definition_rest) s m r refl (none r) z) (λ z. grown true false (before odd_const_impl) (table odd_impl) s m r refl (none r) z) (λ p w u z. grown true (needs k) (before k) (table k) s m r (all_grow true k p w refl) (λ v. absurd (true≢false (sym v ∙ u))) z) y))
  kept_grown (Captured (Both c (Node _)) i) ts r ls w (q, (m, x, y)) = elim y [ ]
  kept_grown (Captured (Both c _) i) ts r ls w (q, (m, x, y)) = elim y [ ]
  kept_grown (Captured _ i) ts r ls w (q, x) = elim x [ ]
  kept_grown _ ts r ls w x = elim x [ ]

  -- statements
  statements_grown : (s : Syntax) (ts r : Stream) → Free true r → DerivesPrefix before (before statements) s ts r → DerivesPrefix table (table statements) (lift_in true s) ts r
  statements_grown (Left Nothing) ts r F x = x
  statements_grown (Left _) ts r F (v, x) = elim x [ ]
  statements_grown (Right (Shaped j t)) ts r F (v, (p, y)) = (v, subst (λ z. DerivesPrefix table some_statements (lift_shaped z (lift_in true t)) ts r) p (refl, some_grown t ts r F y))
  statements_grown (Right _) ts r F (v, x) = elim x [ ]
  statements_grown _ ts r F x = elim x [ ]

  some_grown : (s : Syntax) (ts r : Stream) → Free true r → DerivesPrefix before (within some_statements) s ts r → DerivesPrefix table (within some_statements) (lift_in true s) ts r
  some_grown (Left t) ts r F (w, y) = (w, grown true true after_semicolon after_semicolon t ts r refl F y)
  some_grown (Right (Shaped j t)) ts r F (w, (p, y)) = (w, subst (λ z. DerivesPrefix table some_statement (lift_shaped z (lift_in true t)) ts r) p (sides_grown t ts r F y))
  some_grown (Right _) ts r F (w, x) = elim x [ ]
  some_grown _ ts r F x = elim x [ ]

  sides_grown : (s : Syntax) (ts r : Stream) → Free true r → DerivesPrefix before (within some_statement) s ts r → DerivesPrefix table some_statement (lift_shaped listed (lift_in true s)) ts r
  sides_grown (Right t) ts r F y = (refl, grown true true (other_side (within some_statement)) (other_side (within some_statement)) t ts r refl F y)
  sides_grown (Left (Both (Shaped j t) l)) ts r F (m, (p, x), y) =
      subst (λ z. DerivesPrefix table some_statement (lift_shaped listed (Left (Both (lift_shaped z (lift_in true t)) (lift_in true l)))) ts r) p
      (block_grown t l ts m r x (grown true true (rule statements) (rule statements) l m r refl F y))
  sides_grown (Left (Both _ l)) ts r F (m, x, y) = elim x [ ]
  sides_grown (Left _) ts r F x = elim x [ ]
  sides_grown _ ts r F x = elim x [ ]

  block_grown : (s l : Syntax) (ts m r : Stream) → DerivesPrefix before (rule kept_in_block) s ts m → DerivesPrefix table (rule statements) (lift_in true l) m r →
      DerivesPrefix table some_statement (lift_shaped listed (Left (Both (Shaped an_item (lift_in true s)) (lift_in true l)))) ts r
  block_grown (Node (Captured (Both c (Left (Node (Case k s)))) i)) l ts m r (q, (m', x, (h, (n, y)))) z =
      subst (λ v. DerivesPrefix table some_statement (lift_shaped listed (Left (Both (Shaped an_item (Node (Captured (Both (lift_in true c) (Left (Node v))) i))) (lift_in true l)))) ts r) (sym (form_lifted k s n))
      (listed_becomes k (lift_in true c) s (lift_in true l) i ts m' m r q (grown true false (rule attributes) (rule attributes) c ts m' refl (none m') x) h (becomes k s m' m n (λ z. grown true false (before const_trait) (table trait_definition_rest) s m' m refl (none m) z) (λ z. grown true false (before const_impl) (table impl_definition_rest) s m' m refl (none m) z) (λ z. grown true false (before odd_const_impl) (table odd_impl) s m' m refl (none m) z) (λ p w u z. grown true (needs k) (before k) (table k) s m' m (all_grow true k p w refl) (λ v. absurd (true≢false (sym v ∙ u))) z) y) z)
  block_grown (Node (Captured (Both c (Left (Node _))) i)) l ts m r (q, (m', x, (h, y))) z = elim y [ ]
  block_grown (Node (Captured (Both c (Left _)) i)) l ts m r (q, (m', x, (h, y))) z = elim y [ ]
  block_grown (Node (Captured (Both c (Right (Case k s))) i)) l ts m r (q, (m', x, (h, y))) z = absurd (true≢false (sym y.0))
  block_grown (Node (Captured (Both c (Right _)) i)) l ts m r (q, (m', x, (h, y))) z = elim y [ ]
  block_grown (Node (Captured (Both c _) i)) l ts m r (q, (m', x, y)) z = elim y [ ]
  block_grown (Node (Captured _ i)) l ts m r (q, x) z = elim x [ ]
  block_grown (Node _) l ts m r x z = elim x [ ]
  block_grown _ l ts m r x z = elim x [ ]

  statement_grown : (s : Syntax) (ts r : Stream) → DerivesPrefix before (before statement) s ts r → DerivesPrefix table (table statement) (lift_in true s) ts r
  statement_grown (Shaped j t) ts r (p, y) = subst (λ z. DerivesPrefix table (table statement) (lift_shaped z (lift_in true t)) ts r) p (lone_sides t ts r y)
  statement_grown _ ts r x = elim x [ ]

  lone_sides : (s : Syntax) (ts r : Stream) → DerivesPrefix before (within (table statement)) s ts r → DerivesPrefix table (table statement) (lift_shaped single (lift_in true s)) ts r
  lone_sides (Right t) ts r y = (refl, grown true false (other_side (within (table statement))) (other_side (within (table statement))) t ts r refl (none r) y)
  lone_sides (Left (Shaped j t)) ts r (p, x) = subst (λ z. DerivesPrefix table (table statement) (lift_shaped single (Left (lift_shaped z (lift_in true t)))) ts r) p (lone_block t ts r x)
  lone_sides (Left _) ts r x = elim x [ ]
  lone_sides _ ts r x = elim x [ ]

  lone_block : (s : Syntax) (ts r : Stream) → DerivesPrefix before (rule kept_in_block) s ts r → DerivesPrefix table (table statement) (lift_shaped single (Left (Shaped an_item (lift_in true s)))) ts r
  lone_block (Node (Captured (Both c (Left (Node (Case k s)))) i)) ts r (q, (m', x, (h, (n, y)))) =
      subst (λ v. DerivesPrefix table (table statement) (lift_shaped single (Left (Shaped an_item (Node (Captured (Both (lift_in true c) (Left (Node v))) i))))) ts r) (sym (form_lifted k s n))
      (lone_becomes k (lift_in true c) s i ts m' r q (grown true false (rule attributes) (rule attributes) c ts m' refl (none m') x) h (becomes k s m' r n (λ z. grown true false (before const_trait) (table trait_definition_rest) s m' r refl (none r) z) (λ z. grown true false (before const_impl) (table impl_definition_rest) s m' r refl (none r) z) (λ z. grown true false (before odd_const_impl) (table odd_impl) s m' r refl (none r) z) (λ p w u z. grown true (needs k) (before k) (table k) s m' r (all_grow true k p w refl) (λ v. absurd (true≢false (sym v ∙ u))) z) y))
  lone_block (Node (Captured (Both c (Left (Node _))) i)) ts r (q, (m', x, (h, y))) = elim y [ ]
  lone_block (Node (Captured (Both c (Left _)) i)) ts r (q, (m', x, (h, y))) = elim y [ ]
  lone_block (Node (Captured (Both c (Right (Case k s))) i)) ts r (q, (m', x, (h, y))) = absurd (true≢false (sym y.0))
  lone_block (Node (Captured (Both c (Right _)) i)) ts r (q, (m', x, (h, y))) = elim y [ ]
  lone_block (Node (Captured (Both c _) i)) ts r (q, (m', x, y)) = elim y [ ]
  lone_block (Node (Captured _ i)) ts r (q, x) = elim x [ ]
  lone_block (Node _) ts r x = elim x [ ]
  lone_block _ ts r x = elim x [ ]
