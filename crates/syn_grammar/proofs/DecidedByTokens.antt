-- The tokens that were read decide what the tests of plans say of the values.
use Rattle.std.proofs.Common.{◌≡◌, ℕ, Bool, true, false, List, [], ◌∷◌, ◌++◌, Some, refl, sym, ap, ap₂, ◌∙◌, subst, true≢false, ◌⊎◌, inl, inr}
use Rattle.std.specs.Prelude.{nat_eq}
use Rattle.syn_grammar.specs.Words.{Text, keywords, contextual, w_where, w_use, w_type, w_as, equals, comma, star, colons}
use Rattle.syn_grammar.specs.Tokens.{Span, Leaf, ident, literal, Stream, end, leaf, punct, group, ◌⧺◌, and, or, no, pick, same_text, Brace, Word, Name, mem, one_of_texts, same_terminal, at_word, present}
use Rattle.syn_grammar.specs.Rules.{Rule, attributes, visibility, generics, type, where_clause, predicates, use_tree, use_trees, rooted_tree, rooted_trees, root_mark}
use Rattle.syn_grammar.specs.RuleNumbers.{same_rule}
use Rattle.syn_grammar.specs.Grammar.{Kind, name, among, terminals, underscore, suits, fits, word, has, one_where, holds, bare_leaf, no_where, at_most_one_where, has_part, Grammar, empty, token, mark, lifetime, ◌&◌, when◌then◌else◌, vanishing, inside, raw, either, one_of, rule, such, captured, unshown, supplied, row, ordered, shaped, generics_before, chars, Spelled, DerivesPrefix, Syntax, Nothing, Token, Mark, Lifetime, Both, Left, Right, Node, Vanishing, Group, Raw, Case, Such, Shaped, Captured, Unshown, Impl, Done, Last, More, Order}
use Rattle.syn_grammar.specs.Forms.{plainly, punctuation}
use Rattle.syn_grammar.specs.Table.{table, at_colons, at_comma, name_or_underscore}
use Rattle.syn_grammar.specs.Take.{before, sees}
use Rattle.syn_grammar.specs.Run.{value_of, parse_form}
use Rattle.syn_grammar.specs.ItemPlan.{parts}
use Rattle.syn_grammar.specs.DecidedByTokens.{is_text, opens_lifetime, once_at_most, has_one_where, roots, use_roots, wordless, opening, spares, Piece, WasRead, all_spare, OneWhereKnown, RootMarkKnown}
use Rattle.syn_grammar.proofs.Sets.{and_left, and_right, or_split, no_true, same_text_eq}
use Rattle.syn_grammar.proofs.RuleLemmas.{same_rule_eq}
use Rattle.syn_grammar.proofs.Streams.{append_append, append_end}
use Rattle.syn_grammar.proofs.Takes.{before_is, sees_present}
use Rattle.syn_grammar.proofs.Means.{holds_value, no_where_value, reported}
use Rattle.syn_grammar.proofs.Alone.{of_every_rule, implies, by_implied, one_said}
use Rattle.syn_grammar.proofs.UseGroups.{bare_parts}
use Rattle.syn_grammar.proofs.Spared.{Often, never, once, more, again, add, count, Counts, joined, counts_none, spared}

-- ---- what is stated of the rules holds
where_spared : (k : Rule) → wordless k ≡ true → spares true wordless w_where (table k) ≡ true
where_spared k = by_implied (wordless k) _ (of_every_rule (λ k. implies (wordless k) (spares true wordless w_where (table k))) refl refl k)

use_spared : (k : Rule) → opening k ≡ true → spares false opening w_use (table k) ≡ true
use_spared k = by_implied (opening k) _ (of_every_rule (λ k. implies (opening k) (spares false opening w_use (table k))) refl refl k)

-- ---- a value that was read piece by piece holds no such word
module _ (a : Bool) (x : Text) (said : Rule → Bool) (spared_form : (g : Grammar) (s : Syntax) (ts r : Stream) → spares a said x g ≡ true → DerivesPrefix table g s ts r → Counts a x never ts r) where
  pieces_spared : (l : List Piece) (b m : Stream) → all_spare a said x l ≡ true → WasRead l b m → Counts a x never b m
  pieces_spared [] b m e h = counts_none a x b m h
  pieces_spared (p ∷ l) b m e (n, h, i) =
      let (t, d, v) = reported p.0 n (p.1, m) i in
      joined a x never never b n m (pieces_spared l b n (and_right (spares a said x p.0) _ e) h) (spared_form p.0 t n m (and_left (spares a said x p.0) _ e) d)

no_word : (g : Grammar) (s : Syntax) (ts r : Stream) → spares true wordless w_where g ≡ true → DerivesPrefix table g s ts r → Counts true w_where never ts r
no_word g s ts r e d = spared true w_where refl wordless table where_spared g s ts r e d

no_use : (g : Grammar) (s : Syntax) (ts r : Stream) → spares false opening w_use g ≡ true → DerivesPrefix table g s ts r → Counts false w_use never ts r
no_use g s ts r e d = spared false w_use refl opening table use_spared g s ts r e d

-- ---- so often, or once at most
abbrev is_never : Often → Bool
is_never never = true
is_never _ = false

abbrev is_few : Often → Bool
is_few more = false
is_few _ = true

again_some : (k : Often) → false ≡ is_never (again k)
again_some never = refl
again_some once = refl
again_some more = refl

again_few : (k : Often) → is_never k ≡ is_few (again k)
again_few never = refl
again_few once = refl
again_few more = refl

none_more : (x : Text) (q : Bool) (i : Stream) → once_at_most x q true i ≡ is_never (count true x q i)
none_more x q end = refl
none_more x q (leaf y sp m) = go (and (no q) (is_text x y)) (none_more x false m)
  where
    go : (v : Bool) → once_at_most x false true m ≡ is_never (count true x false m) →
        pick v (and (no true) (once_at_most x false true m)) (once_at_most x false true m) ≡ is_never (pick v (again (count true x false m)) (count true x false m))
    go true e = again_some (count true x false m)
    go false e = e
none_more x q (punct c j sp m) = none_more x (opens_lifetime c j) m
none_more x q (group d o c i m) = none_more x false m

few_is : (x : Text) (q : Bool) (i : Stream) → once_at_most x q false i ≡ is_few (count true x q i)
few_is x q end = refl
few_is x q (leaf y sp m) = go (and (no q) (is_text x y)) (few_is x false m) (none_more x false m)
  where
    go : (v : Bool) → once_at_most x false false m ≡ is_few (count true x false m) → once_at_most x false true m ≡ is_never (count true x false m) →
        pick v (and (no false) (once_at_most x false true m)) (once_at_most x false false m) ≡ is_few (pick v (again (count true x false m)) (count true x false m))
    go true e f = f ∙ again_few (count true x false m)
    go false e f = e
few_is x q (punct c j sp m) = few_is x (opens_lifetime c j) m
few_is x q (group d o c i m) = few_is x false m

-- ---- `where` isn't in the trees of forms that spare it
not_bare : (y : Leaf) (k : Kind) → no (mem (Word w_where) (terminals k)) ≡ true → fits k y ≡ true → bare_leaf y ≡ false
not_bare (literal n y) k e h = refl
not_bare (ident y) k e h = go (same_text y w_where) refl
  where
    go : (v : Bool) → same_text y w_where ≡ v → same_text y w_where ≡ false
    go false q = q
    go true q =
        let f : fits k (ident w_where) ≡ true = ap (λ z. fits k (ident z)) (sym (same_text_eq y w_where q)) ∙ h in
        absurd (true≢false (sym (and_right (suits k (ident w_where)) _ f) ∙ no_true (mem (Word w_where) (terminals k)) e))

and_true : (a : Bool) → and a true ≡ a
and_true true = refl
and_true false = refl

false_true : false ≡ true → ⊥
false_true e = true≢false (sym e)

or_true : (b : Bool) → or b true ≡ true
or_true true = refl
or_true false = refl

abbrev Spares : Grammar → Bool
Spares g = spares true wordless w_where g

whereless : (g : Grammar) (s : Syntax) (ts r : Stream) → Spares g ≡ true → DerivesPrefix table g s ts r → no_where s ≡ true
whereless empty Nothing ts r e h = refl
whereless (token b k) (Token y sp) ts r e h = ap no (not_bare y k e h.0)
whereless (mark b cs) (Mark xs) ts r e h = refl
whereless lifetime (Lifetime sp y sq) ts r e h = refl
whereless (g & h) (Both s t) ts r e (m, a, b) = ap₂ and (whereless g s ts m (and_left (Spares g) _ e) a) (whereless h t m r (and_right (Spares g) _ e) b)
whereless (when c then g else h) (Left s) ts r e (v, a) = whereless g s ts r (and_left (Spares g) _ e) a
whereless (when c then g else h) (Right s) ts r e (v, a) = whereless h s ts r (and_right (Spares g) _ e) a
whereless (vanishing b c g) (Vanishing b' (Left s)) ts r e (v, (w, a)) = ap (or b') (whereless g s ts r e a) ∙ or_true b'
whereless (vanishing b c g) (Vanishing b' (Right Nothing)) ts r e (v, (w, a)) = or_true b'
whereless (inside d g) (Group d' o c s) ts r e h = refl
whereless (raw d) (Raw d' o c i) ts r e h = refl
whereless (either g h) (Left s) ts r e a = whereless g s ts r (and_left (Spares g) _ e) a
whereless (either g h) (Right s) ts r e a = whereless h s ts r (and_right (Spares g) _ e) a
whereless (one_of ks) (Case k s) ts r e (v, a) = whereless (table k) s ts r (where_spared k (one_said wordless k ks v e)) a
whereless (rule k) (Node s) ts r e a = whereless (table k) s ts r (where_spared k e) a
whereless (such q g) (Such s) ts r e (v, a) = whereless g s ts r e a
whereless (shaped j g) (Shaped i s) ts r e a = refl
whereless (captured g) (Captured s i) ts r e a = refl
whereless unshown (Unshown s) ts r e h = refl
whereless (supplied z p t) (Both n (Both (Mark xs) s)) ts r e (inl (w, y, sp, c, f, pa, i, q)) =
    ap₂ and (whereless p n (underscore sp) end (and_left (Spares p) _ e) pa) (whereless t s ts r (and_right (Spares p) _ e) q)
whereless (supplied z p t) (Both n (Both (Mark xs) s)) ts r e (inr (w, m, pa, f, m', d, q)) = ap₂ and (whereless p n ts m (and_left (Spares p) _ e) pa) (whereless t s m' r (and_right (Spares p) _ e) q)
whereless (generics_before g h f) (Impl l s) ts r e a = refl
whereless (row g h) Done ts r e a = refl
whereless (row g h) (Last b s) ts r e a = refl
whereless (row g h) (More b s sp t) ts r e a = refl
whereless (ordered g h) (Order xs l ys) ts r e a = refl
whereless _ _ ts r e a = search false_true

or_both : (a b : Bool) → a ≡ true → or a b ≡ true
or_both true b e = refl
or_both false b e = absurd (true≢false (sym e))

-- where it doesn't occur, it occurs at most once
none_then_one : (s : Syntax) → no_where s ≡ true → at_most_one_where s ≡ true
none_then_one (Both s t) e =
    or_both (and (no_where s) (at_most_one_where t)) _ (ap₂ and (and_left (no_where s) _ e) (none_then_one t (and_right (no_where s) _ e)))
none_then_one (Left s) e = none_then_one s e
none_then_one (Right s) e = none_then_one s e
none_then_one (Node s) e = none_then_one s e
none_then_one (Vanishing true s) e = refl
none_then_one (Vanishing false s) e = none_then_one s e
none_then_one (Case k s) e = none_then_one s e
none_then_one (Such s) e = none_then_one s e
none_then_one _ e = refl

-- ---- a where clause: it begins with `where`, or it is empty
abbrev often : Bool → Often
often true = once
often false = never

abbrev Clause : Syntax → Stream → Stream → Type 0
Clause w ts r = (b : Bool) × Counts true w_where (often b) ts r × (no_where w ≡ no b) × (at_most_one_where w ≡ true) × (present (at_word w_where) ts ≡ b)

pub word_leaf : (x : Text) (y : Leaf) → fits (word x) y ≡ true → y ≡ ident x
word_leaf x (literal k z) e = absurd (true≢false (sym e))
word_leaf x (ident z) e = go (one_of_texts z (keywords ++ contextual)) e
  where
    go : (b : Bool) → or (same_terminal (pick b (Word z) Name) (Word x)) false ≡ true → ident z ≡ ident x
    go true q = which (or_split (same_text z x) false q)
      where
        which : (same_text z x ≡ true) ⊎ (false ≡ true) → ident z ≡ ident x
        which (inl i) = ap ident (same_text_eq z x i)
        which (inr i) = absurd (true≢false (sym i))
    go false q = absurd (true≢false (sym q))

clause_tree : (t : Syntax) (ts r : Stream) → DerivesPrefix table (rule where_clause) t ts r → Clause (value_of t) ts r
clause_tree (Node (Vanishing b (Left (Both (Token y sp) (Node p))))) ts r (v, (w, (m, (f, g), h))) = go b v y (word_leaf w_where y f) g
  where
    none : no_where (value_of p) ≡ true
    none = no_where_value p ∙ whereless (table predicates) p m r refl h

    go : (b : Bool) → false ≡ b → (y : Leaf) → y ≡ ident w_where → ts ≡ leaf y sp m → Clause (value_of (Node (Vanishing b (Left (Both (Token y sp) (Node p)))))) ts r
    go true q y i k = absurd (true≢false (sym q))
    go false q y i k = subst (λ z. Clause (value_of (Node (Vanishing false (Left (Both (Token z sp) (Node p)))))) ts r) (sym i) (
      true,
      joined true w_where once never ts m r (leaf (ident w_where) sp end, k ∙ ap (λ z. leaf z sp m) i, λ n. refl) (no_word (rule predicates) (Node p) m r refl h),
      refl,
      none,
      w,
    )
clause_tree (Node (Vanishing b (Right Nothing))) ts r (v, (w, a)) = go b v
  where
    go : (b : Bool) → false ≡ b → Clause (value_of (Node (Vanishing b (Right Nothing)))) ts r
    go true q = absurd (true≢false (sym q))
    go false q = (false, counts_none true w_where ts r a, refl, refl, w)
clause_tree _ ts r a = search false_true

clause_known : (w : Syntax) (ts r : Stream) → parse_form (rule where_clause) ts ≡ Some (w, r) → Clause w ts r
clause_known w ts r e = let (t, d, v) = reported (rule where_clause) ts (w, r) e in subst (λ z. Clause z ts r) v (clause_tree t ts r d)

-- what else is read has none
other_known : (g : Grammar) (w : Syntax) (ts r : Stream) → Spares g ≡ true → parse_form g ts ≡ Some (w, r) → Counts true w_where never ts r × (no_where w ≡ true)
other_known g w ts r e h =
    let (t, d, v) = reported g ts (w, r) h in
    (no_word g t ts r e d, ap no_where (sym v) ∙ no_where_value t ∙ whereless g t ts r e d)

-- ---- a type alias
tests_alike : (a b : Bool) → or (no a) (no b) ≡ is_few (add (add (often a) (add never (add never (often b)))) never)
tests_alike true true = refl
tests_alike true false = refl
tests_alike false true = refl
tests_alike false false = refl

of_parts : (w q t x : Syntax) (u v : Bool) → no_where w ≡ no u → at_most_one_where w ≡ true → no_where q ≡ true → no_where t ≡ true → no_where x ≡ no v → at_most_one_where x ≡ true → holds one_where (parts (w ∷ q ∷ t ∷ x ∷ [])) ≡ or (no u) (no v)
of_parts w q t x u v nu ou nq nt nv ov =
    let oq = none_then_one q nq in
    let ot = none_then_one t nt in
    let last : at_most_one_where (Both t x) ≡ true = or_both (and (no_where t) (at_most_one_where x)) _ (ap₂ and nt ov) in
    let following : at_most_one_where (Both q (Both t x)) ≡ true = or_both (and (no_where q) (at_most_one_where (Both t x))) _ (ap₂ and nq last) in
    let none : no_where (Both q (Both t x)) ≡ no v = ap₂ and nq (ap₂ and nt nv) in
    ap₂ or (ap₂ and nu following ∙ and_true (no u)) (ap₂ and ou none)

pub one_where_known : OneWhereKnown
one_where_known l b m w q t x e (m3, (m2, (m1, (m0, h, iw), iq), it), ix) =
    let lead = pieces_spared true w_where wordless no_word l b m0 e h in
    let (u, cu, nu, ou, su) = clause_known w m0 m1 iw in
    let (v, cv, nv, ov, sv) = clause_known x m3 m ix in
    let (cq, nq) = other_known (punctuation equals) q m1 m2 refl iq in
    let (ct, nt) = other_known (rule type) t m2 m3 refl it in
    let after_type = joined true w_where never (often v) m2 m3 m ct cv in
    let after_clause = joined true w_where never (add never (often v)) m1 m2 m cq after_type in
    let (c, f, k) = joined true w_where never _ b m0 m lead (joined true w_where (often u) _ m0 m1 m cu after_clause) in
    ap has_one_where (before_is b c m f) ∙ few_is w_where false c ∙ ap is_few (ap (count true w_where false) (sym (append_end c)) ∙ k end) ∙ sym (tests_alike u v) ∙ sym (of_parts w q t x u v nu ou nq nt nv ov)

-- ---- `::` before trees of a use, among tokens
at_no_colon : (c : ℕ) (b : Bool) → nat_eq c 58 ≡ false → and b (nat_eq c 58) ≡ false
at_no_colon c true e = e
at_no_colon c false e = refl

star_roots : (xs : List (ℕ × Span)) (b : Bool) (ts r : Stream) → chars xs ≡ star → Spelled xs ts r → roots b ts ≡ roots false r
star_roots [] b ts r e h = elim h [ ]
star_roots (x ∷ []) b ts r e h =
    let n : x.0 ≡ 42 = cc e in
    ap (roots b) h.1 ∙ ap (λ z. or (and b (nat_eq z 58)) (roots (nat_eq z 44) r)) n ∙ ap (λ z. or z (roots false r)) (at_no_colon 42 b refl)
star_roots (x ∷ y ∷ l) b ts r e h = absurd (cc e)

comma_roots : (xs : List (ℕ × Span)) (ts r : Stream) → chars xs ≡ comma → Spelled xs ts r → roots false ts ≡ roots true r
comma_roots [] ts r e h = elim h [ ]
comma_roots (x ∷ []) ts r e h =
    let n : x.0 ≡ 44 = cc e in
    ap (roots false) h.1 ∙ ap (λ z. roots (nat_eq z 44) r) n
comma_roots (x ∷ y ∷ l) ts r e h = absurd (cc e)

colons_roots : (xs : List (ℕ × Span)) (b : Bool) (ts r : Stream) → chars xs ≡ colons → Spelled xs ts r → roots b ts ≡ or b (roots false r)
colons_roots [] b ts r e h = elim h [ ]
colons_roots (x ∷ []) b ts r e h = absurd (cc e)
colons_roots (x ∷ y ∷ []) b ts r e (m, h, (j, i)) =
    let p : x.0 ≡ 58 = cc e in
    let q : y.0 ≡ 58 = cc e in
    ap (roots b) (h ∙ ap₂ (λ z n. punct z true x.1 n) p i) ∙ ap (λ z. or (and b true) (roots false (punct z j y.1 r))) q ∙ ap (λ z. or z (roots false r)) (and_true b)
colons_roots (x ∷ y ∷ z ∷ l) b ts r e h = absurd (cc e)

-- what follows the first word of a tree
abbrev following_word : Grammar
following_word = when at_colons then punctuation colons & rule use_tree else when at_word w_as then plainly (word w_as) & name_or_underscore else empty

-- what follows a tree in braces
abbrev after_tree : Rule → Grammar
after_tree k = when at_comma then punctuation comma & rule k else empty

renamed_roots : (t : Syntax) (m r : Stream) → DerivesPrefix table (when at_word w_as then plainly (word w_as) & name_or_underscore else empty) t m r → roots false m ≡ roots false r
renamed_roots (Left (Both (Token z sq) (Token x q))) m r (k, (n, g, h)) = ap (roots false) (g.1 ∙ ap (leaf z sq) h.1)
renamed_roots (Left (Both (Token z sq) _)) m r (k, (n, g, h)) = elim h [ ]
renamed_roots (Left (Both _ x)) m r (k, (n, g, h)) = elim g [ ]
renamed_roots (Left _) m r (k, x) = elim x [ ]
renamed_roots (Right Nothing) m r (k, x) = ap (roots false) x
renamed_roots (Right _) m r (k, x) = elim x [ ]
renamed_roots _ m r x = elim x [ ]

mutual
  tree_roots : (s : Syntax) (ts r : Stream) (b : Bool) → DerivesPrefix table (table use_tree) s ts r → roots b ts ≡ roots false r
  tree_roots (Left (Mark xs)) ts r b (v, x) = star_roots xs b ts r x.0 x.1
  tree_roots (Left _) ts r b (v, x) = elim x [ ]
  tree_roots (Right (Left (Group d o c (Node l)))) ts r b (v, (w, (p, i, q, x))) = ap (roots b) q ∙ ap (λ z. or z (roots false r)) (trees_roots l i x)
  tree_roots (Right (Left (Group d o c _))) ts r b (v, (w, (p, i, q, x))) = elim x [ ]
  tree_roots (Right (Left _)) ts r b (v, (w, x)) = elim x [ ]
  tree_roots (Right (Right (Both (Token y sp) t))) ts r b (v, (w, (m, f, x))) = ap (roots b) f.1 ∙ word_roots t m r x
  tree_roots (Right (Right (Both _ t))) ts r b (v, (w, (m, f, x))) = elim f [ ]
  tree_roots (Right (Right _)) ts r b (v, (w, x)) = elim x [ ]
  tree_roots (Right _) ts r b (v, x) = elim x [ ]
  tree_roots _ ts r b x = elim x [ ]

  word_roots : (s : Syntax) (m r : Stream) → DerivesPrefix table following_word s m r → roots false m ≡ roots false r
  word_roots (Left (Both (Mark xs) (Node t))) m r (u, (n, g, d)) = colons_roots xs false m n g.0 g.1 ∙ tree_roots t n r false d
  word_roots (Left (Both (Mark xs) _)) m r (u, (n, g, d)) = elim d [ ]
  word_roots (Left (Both _ t)) m r (u, (n, g, d)) = elim g [ ]
  word_roots (Left _) m r (u, x) = elim x [ ]
  word_roots (Right t) m r (u, x) = renamed_roots t m r x
  word_roots _ m r x = elim x [ ]

  trees_roots : (s : Syntax) (i : Stream) → DerivesPrefix table (table use_trees) s i end → roots true i ≡ false
  trees_roots (Left Nothing) i (v, x) = ap (roots true) x
  trees_roots (Left _) i (v, x) = elim x [ ]
  trees_roots (Right (Both (Node t) l)) i (v, (m, x, y)) = tree_roots t i m true x ∙ more_roots l m y
  trees_roots (Right (Both _ l)) i (v, (m, x, y)) = elim x [ ]
  trees_roots (Right _) i (v, x) = elim x [ ]
  trees_roots _ i x = elim x [ ]

  more_roots : (s : Syntax) (m : Stream) → DerivesPrefix table (after_tree use_trees) s m end → roots false m ≡ false
  more_roots (Left (Both (Mark xs) (Node l))) m (w, (n, a, b)) = comma_roots xs m n a.0 a.1 ∙ trees_roots l n b
  more_roots (Left (Both (Mark xs) _)) m (w, (n, a, b)) = elim b [ ]
  more_roots (Left (Both _ l)) m (w, (n, a, b)) = elim a [ ]
  more_roots (Left _) m (w, y) = elim y [ ]
  more_roots (Right Nothing) m (w, y) = ap (roots false) y
  more_roots (Right _) m (w, y) = elim y [ ]
  more_roots _ m y = elim y [ ]

-- a rule of these is this rule
of_one : (k l : Rule) → among k (l ∷ []) ≡ true → k ≡ l
of_one k l e = go (or_split (same_rule k l) false e)
  where
    go : (same_rule k l ≡ true) ⊎ (false ≡ true) → k ≡ l
    go (inl q) = same_rule_eq k l q
    go (inr q) = absurd (true≢false (sym q))

mark_roots : (c : Syntax) (ts m : Stream) → DerivesPrefix table (table root_mark) c ts m → roots true ts ≡ true
mark_roots (Mark xs) ts m x = colons_roots xs true ts m x.0 x.1
mark_roots _ ts m x = elim x [ ]

-- with `::` before it
abbrev with_mark : Grammar
with_mark = one_of (root_mark ∷ []) & rule use_tree

marked_roots : (s : Syntax) (ts r : Stream) → DerivesPrefix table with_mark s ts r → roots true ts ≡ or (has_part root_mark s) (roots false r)
marked_roots (Both (Case k c) t) ts r (m, (e, x), y) =
    let q = of_one k root_mark e in
    mark_roots c ts m (subst (λ z. DerivesPrefix table (table z) c ts m) q x) ∙ sym (ap (λ z. or (or (or (same_rule root_mark z) (has_part root_mark c)) (has_part root_mark t)) (roots false r)) q)
marked_roots (Both _ t) ts r (m, x, y) = elim x [ ]
marked_roots _ ts r x = elim x [ ]

mutual
  rooted_roots : (s : Syntax) (ts r : Stream) → DerivesPrefix table (table rooted_tree) s ts r → roots true ts ≡ or (has_part root_mark s) (roots false r)
  rooted_roots (Left s) ts r (v, x) = marked_roots s ts r x
  rooted_roots (Right (Left (Group d o c (Node l)))) ts r (v, (w, (p, i, q, x))) = ap (roots true) q ∙ ap (λ z. or z (roots false r)) (all_roots l i x)
  rooted_roots (Right (Left (Group d o c _))) ts r (v, (w, (p, i, q, x))) = elim x [ ]
  rooted_roots (Right (Left _)) ts r (v, (w, x)) = elim x [ ]
  rooted_roots (Right (Right (Node t))) ts r (v, (w, x)) = tree_roots t ts r true x ∙ sym (ap (λ z. or z (roots false r)) (bare_parts t ts r x))
  rooted_roots (Right (Right _)) ts r (v, (w, x)) = elim x [ ]
  rooted_roots (Right _) ts r (v, x) = elim x [ ]
  rooted_roots _ ts r x = elim x [ ]

  all_roots : (s : Syntax) (i : Stream) → DerivesPrefix table (table rooted_trees) s i end → roots true i ≡ has_part root_mark s
  all_roots (Left Nothing) i (v, x) = ap (roots true) x
  all_roots (Left _) i (v, x) = elim x [ ]
  all_roots (Right (Both (Node t) l)) i (v, (m, x, y)) = rooted_roots t i m x ∙ ap (or (has_part root_mark t)) (other_roots l m y)
  all_roots (Right (Both _ l)) i (v, (m, x, y)) = elim x [ ]
  all_roots (Right _) i (v, x) = elim x [ ]
  all_roots _ i x = elim x [ ]

  other_roots : (s : Syntax) (m : Stream) → DerivesPrefix table (after_tree rooted_trees) s m end → roots false m ≡ has_part root_mark s
  other_roots (Left (Both (Mark xs) (Node l))) m (w, (n, a, b)) = comma_roots xs m n a.0 a.1 ∙ all_roots l n b
  other_roots (Left (Both (Mark xs) _)) m (w, (n, a, b)) = elim b [ ]
  other_roots (Left (Both _ l)) m (w, (n, a, b)) = elim a [ ]
  other_roots (Left _) m (w, y) = elim y [ ]
  other_roots (Right Nothing) m (w, y) = ap (roots false) y
  other_roots (Right _) m (w, y) = elim y [ ]
  other_roots _ m y = elim y [ ]

-- ---- after attributes and a visibility, no `use` among them
skipped : (c m : Stream) → count false w_use false c ≡ never → use_roots (c ⧺ m) ≡ use_roots m
skipped end m e = refl
skipped (leaf y sp c) m e = go (is_text w_use y) e (skipped c m)
  where
    go : (v : Bool) → pick v (again (count false w_use false c)) (count false w_use false c) ≡ never → (count false w_use false c ≡ never → use_roots (c ⧺ m) ≡ use_roots m) → pick v (roots false (c ⧺ m)) (use_roots (c ⧺ m)) ≡ use_roots m
    go true q ih = absurd (true≢false (sym (again_some (count false w_use false c) ∙ ap is_never q)))
    go false q ih = ih q
skipped (punct p j sp c) m e = skipped c m e
skipped (group d o k i c) m e = skipped c m e

group_roots : (t : Syntax) (n m : Stream) → DerivesPrefix table (inside Brace (rule rooted_trees)) t n m → (c : Stream) × (n ≡ c ⧺ m) × (roots false c ≡ has_part root_mark t)
group_roots (Group d o c (Node l)) n m (p, i, q, x) = (group d o c i end, q, ap (λ z. or z false) (all_roots l i x) ∙ or_none (has_part root_mark l))
  where
    or_none : (b : Bool) → or b false ≡ b
    or_none true = refl
    or_none false = refl
group_roots (Group d o c _) n m (p, i, q, x) = elim x [ ]
group_roots _ n m x = elim x [ ]

use_word : (t : Syntax) (b m : Stream) → DerivesPrefix table (plainly (word w_use)) t b m → (sp : Span) × (b ≡ leaf (ident w_use) sp m)
use_word (Token y sp) b m (e, f) = (sp, f ∙ ap (λ z. leaf z sp m) (word_leaf w_use y e))
use_word _ b m x = elim x [ ]

pub root_mark_known : RootMarkKnown
root_mark_known l b m k t e (n, (m0, h, ik), it) =
    let (c, f, q) = pieces_spared false w_use opening no_use l b m0 e h in
    let (kt, kd, kv) = reported (plainly (word w_use)) m0 (k, n) ik in
    let (tt, td, tv) = reported (inside Brace (rule rooted_trees)) n (t, m) it in
    let (sp, w) = use_word kt m0 n kd in
    let (i, g, z) = group_roots tt n m td in
    let none : count false w_use false c ≡ never = ap (count false w_use false) (sym (append_end c)) ∙ q end in
    let all : b ≡ (c ⧺ leaf (ident w_use) sp i) ⧺ m = f ∙ ap (λ x. c ⧺ x) (w ∙ ap (leaf (ident w_use) sp) g) ∙ sym (append_append c (leaf (ident w_use) sp i) m) in
    ap use_roots (before_is b (c ⧺ leaf (ident w_use) sp i) m all) ∙ skipped c (leaf (ident w_use) sp i) none ∙ z ∙ sym (holds_value (has root_mark) tt) ∙ ap (has_part root_mark) tv

-- ---- by what is seen at the place of each of the two clauses: `where` or not
pub one_where_seen : (m0 m1 m2 m3 m : Stream) (w q t x : Syntax) → parse_form (rule where_clause) m0 ≡ Some (w, m1) → parse_form (punctuation equals) m1 ≡ Some (q, m2) → parse_form (rule type) m2 ≡ Some (t, m3) →
    parse_form (rule where_clause) m3 ≡ Some (x, m) → holds one_where (parts (w ∷ q ∷ t ∷ x ∷ [])) ≡ or (no (sees (at_word w_where) m0)) (no (sees (at_word w_where) m3))
one_where_seen m0 m1 m2 m3 m w q t x iw iq it ix =
    let (u, cu, nu, ou, su) = clause_known w m0 m1 iw in
    let (v, cv, nv, ov, sv) = clause_known x m3 m ix in
    let (cq, nq) = other_known (punctuation equals) q m1 m2 refl iq in
    let (ct, nt) = other_known (rule type) t m2 m3 refl it in
    of_parts w q t x u v nu ou nq nt nv ov ∙ sym (ap₂ (λ a b. or (no a) (no b)) (sees_present (at_word w_where) m0 ∙ su) (sees_present (at_word w_where) m3 ∙ sv))

-- ---- the tokens of trees in braces
pub trees_known : (n m : Stream) (t : Syntax) → parse_form (inside Brace (rule rooted_trees)) n ≡ Some (t, m) → roots false (before n m) ≡ holds (has root_mark) t
trees_known n m t it =
    let (tt, td, tv) = reported (inside Brace (rule rooted_trees)) n (t, m) it in
    let (i, g, z) = group_roots tt n m td in
    ap (roots false) (before_is n i m g) ∙ z ∙ sym (holds_value (has root_mark) tt) ∙ ap (has_part root_mark) tv

-- ---- the tokens before these in an alias and in a use
pub alias_spared : (a v k n g : Syntax) → all_spare true wordless w_where ((rule generics, g) ∷ (plainly name, n) ∷ (plainly (word w_type), k) ∷ (rule visibility, v) ∷ (rule attributes, a) ∷ []) ≡ true
alias_spared a v k n g = refl

pub lead_spared : (a v : Syntax) → all_spare false opening w_use ((rule visibility, v) ∷ (rule attributes, a) ∷ []) ≡ true
lead_spared a v = refl
