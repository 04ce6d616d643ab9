-- FULL FORMS print what they read in its order, except parts that are never printed. Each form has a full one that reads the same tokens.
use Rattle.std.proofs.Common.{◌≡◌, ℕ, Bool, true, false, List, refl, sym, ap, ap₂, ◌∙◌, subst, true≢false, inl, inr}
use Rattle.syn_grammar.specs.Tokens.{Span, Stream, end, punct, ◌⧺◌, and, at_generics, Fact, pick}
use Rattle.syn_grammar.specs.Rules.{Rule}
use Rattle.syn_grammar.specs.Grammar.{Syntax, Nothing, Token, Mark, Lifetime, Both, Left, Right, Node, Vanishing, Group, Raw, Rest, Case, Such, Shaped, Captured, Unshown, Impl, Done, Last, More, Order, spell, holds, Grammar, empty, token, mark, lifetime, ◌&◌, when◌then◌else◌, vanishing, inside, raw, rest_after, either, one_of, rule, such, shaped, captured, unshown, supplied, generics_before, opt_generics, row, ordered, underscore, DerivesPrefix, show, sort, renew}
use Rattle.syn_grammar.specs.Table.{table}
use Rattle.syn_grammar.specs.IsAlone.{reads_shown}
use Rattle.syn_grammar.specs.Alone.{all_of}
use Rattle.syn_grammar.specs.Values.{shape}
use Rattle.syn_grammar.specs.Run.{value_of}
use Rattle.syn_grammar.proofs.Sets.{and_left, and_right}
use Rattle.syn_grammar.proofs.Shapes.{sum_shape, show_sum}
use Rattle.syn_grammar.proofs.Streams.{same_before}
use Rattle.syn_grammar.proofs.Extend.{closes, alone}
use Rattle.syn_grammar.proofs.Said.{closed_of, closed_hold}
use Rattle.syn_grammar.proofs.Means.{holds_value}
use Rattle.syn_grammar.proofs.Alone.{one_said}

abbrev pub full : Grammar → Grammar
full (g & h) = full g & full h
full (when c then g else h) = when c then full g else full h
full (vanishing true c g) = vanishing true c (full g)
full (vanishing false c g) = when c then full g else empty
full (inside d g) = inside d (full g)
full (either g h) = either (full g) (full h)
full (such q g) = full g
full (shaped j g) = full g
full (captured g) = captured (full g)
full (supplied n p t) = supplied n (full p) (full t)
full (generics_before x y h) = (when at_generics then ordered (either (full x) (full y)) (either (full x) (full y)) else empty) & full h
full (row g h) = row (either (full g) (full h)) (either (full g) (full h))
full (ordered g h) = ordered (either (full g) (full h)) (either (full g) (full h))
full g = g

-- if the shown tokens of a rule are read, its form is full
abbrev pub full_table : Rule → Grammar
full_table k = pick (reads_shown k) (full (table k)) (table k)

-- the tree that a full form reads in place of this one
abbrev pub full_tree : Syntax → Syntax
full_tree (Both s t) = Both (full_tree s) (full_tree t)
full_tree (Left s) = Left (full_tree s)
full_tree (Right s) = Right (full_tree s)
full_tree (Node s) = Node (full_tree s)
full_tree (Vanishing true s) = Vanishing true (full_tree s)
full_tree (Vanishing false s) = full_tree s
full_tree (Group d o c s) = Group d o c (full_tree s)
full_tree (Case k s) = Case k (full_tree s)
full_tree (Such s) = full_tree s
full_tree (Shaped j s) = full_tree s
full_tree (Captured s i) = Captured (full_tree s) i
full_tree (Impl l s) = Both (full_tree l) (full_tree s)
full_tree (Last true s) = Last true (Left (full_tree s))
full_tree (Last false s) = Last true (Right (full_tree s))
full_tree (More true s sp t) = More true (Left (full_tree s)) sp (full_tree t)
full_tree (More false s sp t) = More true (Right (full_tree s)) sp (full_tree t)
full_tree (Order xs l ys) = Order xs (full_tree l) ys
full_tree s = s

-- the shown tokens of each rule of the form are read, and what is captured ends by itself
abbrev pub shown_well : Grammar → Bool
shown_well (g & h) = and (shown_well g) (shown_well h)
shown_well (when c then g else h) = and (shown_well g) (shown_well h)
shown_well (vanishing b c g) = shown_well g
shown_well (inside d g) = shown_well g
shown_well (either g h) = and (shown_well g) (shown_well h)
shown_well (such q g) = shown_well g
shown_well (shaped j g) = shown_well g
shown_well (captured g) = and (closes closed_of g) (shown_well g)
shown_well (one_of ks) = all_of reads_shown ks
shown_well (rule k) = reads_shown k
shown_well (supplied n p t) = and (shown_well p) (shown_well t)
shown_well (generics_before x y h) = and (and (shown_well x) (shown_well y)) (shown_well h)
shown_well (row g h) = and (shown_well g) (shown_well h)
shown_well (ordered g h) = and (shown_well g) (shown_well h)
shown_well g = true

and_true : (b : Bool) → b ≡ true → and b true ≡ true
and_true true e = refl
and_true false e = e

-- ---- a full form reads what the form reads
module _ (law : (k : Rule) → reads_shown k ≡ true → shown_well (table k) ≡ true) where
  full_rule : (k : Rule) (s : Syntax) (ts r : Stream) → reads_shown k ≡ true → DerivesPrefix full_table (full (table k)) s ts r → DerivesPrefix full_table (full_table k) s ts r
  full_rule k s ts r w a = subst (λ b. DerivesPrefix full_table (pick b (full (table k)) (table k)) s ts r) (sym w) a

  pub full_read : (g : Grammar) (s : Syntax) (ts r : Stream) → shown_well g ≡ true → DerivesPrefix table g s ts r → DerivesPrefix full_table (full g) (full_tree s) ts r
  full_read empty Nothing ts r w a = a
  full_read (token b k) (Token x sp) ts r w a = a
  full_read (mark b cs) (Mark xs) ts r w a = a
  full_read lifetime (Lifetime sp x sq) ts r w a = a
  full_read (g & h) (Both s t) ts r w (m, a, b) = (m, full_read g s ts m (and_left (shown_well g) _ w) a, full_read h t m r (and_right (shown_well g) _ w) b)
  full_read (when c then g else h) (Left s) ts r w (v, a) = (v, full_read g s ts r (and_left (shown_well g) _ w) a)
  full_read (when c then g else h) (Right s) ts r w (v, a) = (v, full_read h s ts r (and_right (shown_well g) _ w) a)
  full_read (vanishing true c g) (Vanishing true s) ts r w (e, a) = (e, full_read (when c then g else empty) s ts r (and_true (shown_well g) w) a)
  full_read (vanishing false c g) (Vanishing false s) ts r w (e, a) = full_read (when c then g else empty) s ts r (and_true (shown_well g) w) a
  full_read (vanishing true c g) (Vanishing false s) ts r w (e, a) = absurd (true≢false e)
  full_read (vanishing false c g) (Vanishing true s) ts r w (e, a) = absurd (true≢false (sym e))
  full_read (inside d g) (Group d' o c s) ts r w (e, i, f, a) = (e, i, f, full_read g s i end w a)
  full_read (raw d) (Raw d' o c i) ts r w a = a
  full_read (rest_after cs) (Rest xs i) ts r w a = a
  full_read (either g h) (Left s) ts r w a = full_read g s ts r (and_left (shown_well g) _ w) a
  full_read (either g h) (Right s) ts r w a = full_read h s ts r (and_right (shown_well g) _ w) a
  full_read (one_of ks) (Case k s) ts r w (e, a) = (e, full_rule k (full_tree s) ts r (one_said reads_shown k ks e w) (full_read (table k) s ts r (law k (one_said reads_shown k ks e w)) a))
  full_read (rule k) (Node s) ts r w a = full_rule k (full_tree s) ts r w (full_read (table k) s ts r (law k w) a)
  full_read (such q g) (Such s) ts r w (e, a) = full_read g s ts r w a
  full_read (shaped j g) (Shaped i s) ts r w (e, a) = full_read g s ts r w a
  full_read (captured g) (Captured s i) ts r w (e, a) = (e, full_read g s ts r (and_right (closes closed_of g) _ w) a)
  full_read unshown (Unshown s) ts r w a = a
  full_read (supplied n p t) (Both a (Both (Mark xs) s)) ts r w (inl (v, x, sp, c, e, pa, f, q)) =
      inl (v, x, sp, c, e, full_read p a (underscore sp) end (and_left (shown_well p) _ w) pa, f, full_read t s ts r (and_right (shown_well p) _ w) q)
  full_read (supplied n p t) (Both a (Both (Mark xs) s)) ts r w (inr (v, m, pa, f, m', d, q)) =
      inr (v, m, full_read p a ts m (and_left (shown_well p) _ w) pa, f, m', d, full_read t s m' r (and_right (shown_well p) _ w) q)
  full_read (generics_before x y h) (Impl l s) ts r w (m, a, b) =
      let v = and_true (and (shown_well x) (shown_well y)) (and_left (and (shown_well x) (shown_well y)) _ w) in
      (m, full_read (opt_generics x y) l ts m v a, full_read h s m r (and_right (and (shown_well x) (shown_well y)) _ w) b)
  full_read (row g h) Done ts r w a = a
  full_read (row g h) (Last true s) ts r w (v, a, n) = (v, full_read g s ts r (and_left (shown_well g) _ w) a, n)
  full_read (row g h) (Last false s) ts r w (v, a, n) = (v, full_read h s ts r (and_right (shown_well g) _ w) a, n)
  full_read (row g h) (More true s sp t) ts r w (v, m, a, m', d, b) = (v, m, full_read g s ts m (and_left (shown_well g) _ w) a, m', d, full_read (row g h) t m' r w b)
  full_read (row g h) (More false s sp t) ts r w (v, m, a, m', d, b) = (v, m, full_read h s ts m (and_right (shown_well g) _ w) a, m', d, full_read (row g h) t m' r w b)
  full_read (ordered g h) (Order xs l ys) ts r w (m, e, d, m', a, e', d') = (m, e, d, m', full_read (row g h) l m m' w a, e', d')
  full_read _ _ ts r w a = elim a [ ]

-- ---- it prints as the tree does, nothing dropped and nothing sorted
sort_full : (s : Syntax) → sort (renew (full_tree s)) ≡ renew (full_tree s)
sort_full (Vanishing true s) = refl
sort_full (Vanishing false s) = sort_full s
sort_full (Such s) = sort_full s
sort_full (Shaped j s) = sort_full s
sort_full (Last true s) = refl
sort_full (Last false s) = refl
sort_full (More true s sp t) = ap (More true (Left (renew (full_tree s))) sp) (sort_full t)
sort_full (More false s sp t) = ap (More true (Right (renew (full_tree s))) sp) (sort_full t)
sort_full _ = refl

pub show_full : (s : Syntax) → show (renew (full_tree s)) ≡ show (value_of s)
show_full (Both s t) = ap₂ ◌⧺◌ (show_full s) (show_full t)
show_full (Left s) = show_full s
show_full (Right s) = show_full s
show_full (Node s) = show_full s
show_full (Vanishing true s) = refl
show_full (Vanishing false s) = show_full s
show_full (Group d o c s) = ap (λ i. Stream.group d o c i end) (show_full s)
show_full (Case k s) = show_full s
show_full (Such s) = show_full s
show_full (Shaped j s) = show_full s ∙ sym (sum_shape show_sum j (value_of s))
show_full (Impl l s) = ap₂ ◌⧺◌ (show_full l) (show_full s)
show_full (Last true s) = show_full s
show_full (Last false s) = show_full s
show_full (More true s sp t) = ap₂ (λ a b. a ⧺ punct 44 false sp b) (show_full s) (show_full t)
show_full (More false s sp t) = ap₂ (λ a b. a ⧺ punct 44 false sp b) (show_full s) (show_full t)
show_full (Order xs l ys) = ap (λ a. spell xs (show a ⧺ spell ys end)) (sort_full l) ∙ ap (λ a. spell xs (a ⧺ spell ys end)) (show_full l)
show_full _ = refl

-- ---- and the form reads its print, as a tree of the same value
-- some tree of the value of this one
abbrev pub Alike : Grammar → Syntax → Stream → Stream → Type 0
Alike g s ts r = (u : Syntax) × DerivesPrefix table g u ts r × (value_of u ≡ value_of s)

-- a supplied name: written, or left out
supplied_back : (n : Fact) (p t : Grammar) (a : Syntax) (xs : List (ℕ × Span)) (s : Syntax) (ts r : Stream) → DerivesPrefix full_table (full (supplied n p t)) (Both (renew (full_tree a)) (Both (Mark xs) (renew (full_tree s)))) ts r →
    ((i o : Stream) → DerivesPrefix full_table (full p) (renew (full_tree a)) i o → Alike p a i o) → ((i o : Stream) → DerivesPrefix full_table (full t) (renew (full_tree s)) i o → Alike t s i o) → Alike (supplied n p t) (Both a (Both (Mark xs) s)) ts r
supplied_back n p t a xs s ts r (inl (q, x, sp, c, e, pa, f, d)) first second =
    let (u, b, i) = first (underscore sp) end pa in
    let (v, h, j) = second ts r d in
    (Both u (Both (Mark xs) v), inl (q, x, sp, c, e, b, f, h), ap₂ (λ y z. Both y (Both (Mark xs) z)) i j)
supplied_back n p t a xs s ts r (inr (q, m, pa, f, m', l, d)) first second =
    let (u, b, i) = first ts m pa in
    let (v, h, j) = second m' r d in
    (Both u (Both (Mark xs) v), inr (q, m, b, f, m', l, h), ap₂ (λ y z. Both y (Both (Mark xs) z)) i j)

module _ (law : (k : Rule) → reads_shown k ≡ true → shown_well (table k) ≡ true) where
  rule_full : (k : Rule) (s : Syntax) (ts r : Stream) → reads_shown k ≡ true → DerivesPrefix full_table (full_table k) s ts r → DerivesPrefix full_table (full (table k)) s ts r
  rule_full k s ts r w a = subst (λ b. DerivesPrefix full_table (pick b (full (table k)) (table k)) s ts r) w a

  pub full_back : (g : Grammar) (s : Syntax) (ts r ts' r' : Stream) → shown_well g ≡ true → DerivesPrefix table g s ts r → DerivesPrefix full_table (full g) (renew (full_tree s)) ts' r' → Alike g s ts' r'
  full_back empty Nothing ts r ts' r' w a b = (Nothing, b, refl)
  full_back (token b' k) (Token x sp) ts r ts' r' w a b = (Token x sp, b, refl)
  full_back (mark b' cs) (Mark xs) ts r ts' r' w a b = (Mark xs, b, refl)
  full_back lifetime (Lifetime sp x sq) ts r ts' r' w a b = (Lifetime sp x sq, b, refl)
  full_back (g & h) (Both s t) ts r ts' r' w (m, a, b) (m', a', b') =
      let (u, d, e) = full_back g s ts m ts' m' (and_left (shown_well g) _ w) a a' in
      let (v, f, i) = full_back h t m r m' r' (and_right (shown_well g) _ w) b b' in
      (Both u v, (m', d, f), ap₂ Both e i)
  full_back (when c then g else h) (Left s) ts r ts' r' w (q, a) (q', a') =
      let (u, d, e) = full_back g s ts r ts' r' (and_left (shown_well g) _ w) a a' in
      (Left u, (q', d), ap Left e)
  full_back (when c then g else h) (Right s) ts r ts' r' w (q, a) (q', a') =
      let (u, d, e) = full_back h s ts r ts' r' (and_right (shown_well g) _ w) a a' in
      (Right u, (q', d), ap Right e)
  full_back (vanishing true c g) (Vanishing true s) ts r ts' r' w a (e, b) = (Vanishing true (Right Nothing), (refl, b), refl)
  full_back (vanishing false c g) (Vanishing false s) ts r ts' r' w (q, a) b =
      let (u, d, e) = full_back (when c then g else empty) s ts r ts' r' (and_true (shown_well g) w) a b in
      (Vanishing false u, (refl, d), ap (Vanishing false) e)
  full_back (vanishing true c g) (Vanishing false s) ts r ts' r' w (e, a) b = absurd (true≢false e)
  full_back (vanishing false c g) (Vanishing true s) ts r ts' r' w (e, a) b = absurd (true≢false (sym e))
  full_back (inside d g) (Group d' o c s) ts r ts' r' w (e, i, f, a) (e', i', f', a') =
      let (u, b, q) = full_back g s i end i' end w a a' in
      (Group d' o c u, (e', i', f', b), ap (Group d' o c) q)
  full_back (raw d) (Raw d' o c i) ts r ts' r' w a b = (Raw d' o c i, b, refl)
  full_back (rest_after cs) (Rest xs i) ts r ts' r' w a b = (Rest xs i, b, refl)
  full_back (either g h) (Left s) ts r ts' r' w a a' =
      let (u, d, e) = full_back g s ts r ts' r' (and_left (shown_well g) _ w) a a' in
      (Left u, d, ap Left e)
  full_back (either g h) (Right s) ts r ts' r' w a a' =
      let (u, d, e) = full_back h s ts r ts' r' (and_right (shown_well g) _ w) a a' in
      (Right u, d, ap Right e)
  full_back (one_of ks) (Case k s) ts r ts' r' w (q, a) (q', a') =
      let v = one_said reads_shown k ks q w in
      let (u, d, e) = full_back (table k) s ts r ts' r' (law k v) a (rule_full k (renew (full_tree s)) ts' r' v a') in
      (Case k u, (q', d), ap (Case k) e)
  full_back (rule k) (Node s) ts r ts' r' w a a' =
      let (u, d, e) = full_back (table k) s ts r ts' r' (law k w) a (rule_full k (renew (full_tree s)) ts' r' w a') in
      (Node u, d, ap Node e)
  full_back (such q g) (Such s) ts r ts' r' w (p, a) a' =
      let (u, d, e) = full_back g s ts r ts' r' w a a' in
      (Such u, (sym (holds_value q u) ∙ ap (holds q) e ∙ holds_value q s ∙ p, d), ap Such e)
  full_back (shaped j g) (Shaped i s) ts r ts' r' w (p, a) a' =
      let (u, d, e) = full_back g s ts r ts' r' w a a' in
      (Shaped i u, (p, d), ap (shape i) e)
  full_back (captured g) (Captured s i) ts r ts' r' w (e, a) (e', a') =
      let (c, f, k) = alone closed_of table closed_hold g s ts r (and_left (closes closed_of g) _ w) a in
      let same : c ≡ i = same_before c i r (sym f ∙ e) in
      (Captured s i, (e', subst (λ z. DerivesPrefix table g s z r') (ap (λ z. z ⧺ r') same ∙ sym e') (k r').0), refl)
  full_back unshown (Unshown s) ts r ts' r' w (e, a) b = (Unshown Nothing, (refl, b.1), ap (λ z. Unshown (value_of z)) (sym e))
  full_back (supplied n p t) (Both a (Both (Mark xs) s)) ts r ts' r' w (inl (q, x, sp, c, e, pa, f, d)) b = supplied_back n p t a xs s ts' r' b (λ i o. full_back p a (underscore sp) end i o (and_left (shown_well p) _ w) pa) (λ i o. full_back t s ts r i o (and_right (shown_well p) _ w) d)
  full_back (supplied n p t) (Both a (Both (Mark xs) s)) ts r ts' r' w (inr (q, m, pa, f, m', h, d)) b = supplied_back n p t a xs s ts' r' b (λ i o. full_back p a ts m i o (and_left (shown_well p) _ w) pa) (λ i o. full_back t s m' r i o (and_right (shown_well p) _ w) d)
  full_back (generics_before x y h) (Impl l s) ts r ts' r' w (m, a, b) (m', a', b') =
      let (u, d, e) = full_back (opt_generics x y) l ts m ts' m' (and_true (and (shown_well x) (shown_well y)) (and_left (and (shown_well x) (shown_well y)) _ w)) a a' in
      let (v, f, i) = full_back h s m r m' r' (and_right (and (shown_well x) (shown_well y)) _ w) b b' in
      (Impl u v, (m', d, f), ap₂ Impl e i)
  full_back (row g h) Done ts r ts' r' w a b = (Done, b, refl)
  full_back (row g h) (Last true s) ts r ts' r' w (q, a, n) (q', a', n') =
      let (u, d, e) = full_back g s ts r ts' r' (and_left (shown_well g) _ w) a a' in
      (Last true u, (q', d, n'), ap (Last true) e)
  full_back (row g h) (Last false s) ts r ts' r' w (q, a, n) (q', a', n') =
      let (u, d, e) = full_back h s ts r ts' r' (and_right (shown_well g) _ w) a a' in
      (Last false u, (q', d, n'), ap (Last false) e)
  full_back (row g h) (More true s sp t) ts r ts' r' w (q, m, a, n, c, b) (q', m', a', n', c', b') =
      let (u, d, e) = full_back g s ts m ts' m' (and_left (shown_well g) _ w) a a' in
      let (v, f, i) = full_back (row g h) t n r n' r' w b b' in
      (More true u sp v, (q', m', d, n', c', f), ap₂ (λ x y. More true x sp y) e i)
  full_back (row g h) (More false s sp t) ts r ts' r' w (q, m, a, n, c, b) (q', m', a', n', c', b') =
      let (u, d, e) = full_back h s ts m ts' m' (and_right (shown_well g) _ w) a a' in
      let (v, f, i) = full_back (row g h) t n r n' r' w b b' in
      (More false u sp v, (q', m', d, n', c', f), ap₂ (λ x y. More false x sp y) e i)
  full_back (ordered g h) (Order xs l ys) ts r ts' r' w (m, e, c, n, a, f, p) (m', e', c', n', a', f', p') =
      let b = subst (λ z. DerivesPrefix full_table (full (row g h)) z m' n') (sort_full l) a' in
      let (u, d, i) = full_back (row g h) l m n m' n' w a b in
      (Order xs u ys, (m', e', c', n', d, f', p'), ap (λ z. Order xs z ys) i)
  full_back _ _ ts r ts' r' w a b = elim a [ ]
