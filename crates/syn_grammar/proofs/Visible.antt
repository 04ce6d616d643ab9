-- The print of a visible stream is visible.
use Rattle.std.proofs.Common.{◌≡◌, ℕ, Bool, true, false, List, [], ◌∷◌, refl, sym, ap, ◌∙◌, ap₂, inl, inr}
use Rattle.syn_grammar.specs.Tokens.{Span, Delimiter, Stream, end, punct, group, ◌⧺◌, and, or, pick, is_visible, visible}
use Rattle.syn_grammar.specs.Rules.{Rule}
use Rattle.syn_grammar.specs.Grammar.{Syntax, Nothing, Token, Mark, Lifetime, Both, Left, Right, Node, Vanishing, Group, Raw, Rest, Case, Captured, Unshown, Impl, Added, Done, Last, More, Order, Such, added, spell, Spelled, DerivesPrefix, Grammar, empty, token, mark, lifetime, ◌&◌, when◌then◌else◌, vanishing, inside, raw, rest_after, either, one_of, rule, such, captured, unshown, supplied, generics_before, opt_generics, no_generics, row, ordered, choose, underscore, bare, show, following, sort, renew, print, Shaped, shaped, led}
use Rattle.syn_grammar.proofs.Sets.{and_left, and_right}
use Rattle.syn_grammar.proofs.Streams.{visible_append}

-- no invisible group is in what was read
abbrev seen : Syntax → Bool
seen (Both s t) = and (seen s) (seen t)
seen (Left s) = seen s
seen (Right s) = seen s
seen (Node s) = seen s
seen (Vanishing b s) = seen s
seen (Group d o c s) = and (is_visible d) (seen s)
seen (Raw d o c i) = and (is_visible d) (visible i)
seen (Rest xs i) = visible i
seen (Case k s) = seen s
seen (Such s) = seen s
seen (Shaped j s) = seen s
seen (Captured s i) = visible i
seen (Impl l s) = and (seen l) (seen s)
seen (Last k s) = seen s
seen (More k s sp t) = and (seen s) (seen t)
seen (Order xs l ys) = seen l
seen _ = true

visible_spell : (xs : List (ℕ × Span)) (r : Stream) → visible (spell xs r) ≡ visible r
visible_spell [] r = refl
visible_spell (x ∷ []) r = refl
visible_spell (x ∷ y ∷ l) r = visible_spell (y ∷ l) r

visible_spelled : (xs : List (ℕ × Span)) (ts r : Stream) → Spelled xs ts r → visible ts ≡ visible r
visible_spelled [] ts r h = elim h [ ]
visible_spelled (x ∷ []) ts r h = ap visible h.1
visible_spelled (x ∷ y ∷ l) ts r h = ap visible h.1 ∙ visible_spelled (y ∷ l) h.0 r h.2

and_true : (b : Bool) → and b true ≡ b
and_true true = refl
and_true false = refl

visible_show : (s : Syntax) → visible (show s) ≡ seen s
visible_show Nothing = refl
visible_show (Token x sp) = refl
visible_show (Mark xs) = visible_spell xs end
visible_show (Lifetime sp x sq) = refl
visible_show (Both s t) = visible_append (show s) (show t) ∙ ap₂ and (visible_show s) (visible_show t)
visible_show (Left s) = visible_show s
visible_show (Right s) = visible_show s
visible_show (Node s) = visible_show s
visible_show (Vanishing b s) = visible_show s
visible_show (Group d o c s) = ap (and (is_visible d)) (and_true (visible (show s)) ∙ visible_show s)
visible_show (Raw d o c i) = ap (and (is_visible d)) (and_true (visible i))
visible_show (Rest xs i) = visible_spell xs i
visible_show (Case k s) = visible_show s
visible_show (Such s) = visible_show s
visible_show (Shaped j s) = visible_show s
visible_show (Captured s i) = refl
visible_show (Unshown s) = refl
visible_show (Added cs) = visible_spell (added cs) end
visible_show (Impl l s) = visible_append (show l) (show s) ∙ ap₂ and (visible_show l) (visible_show s)
visible_show Done = refl
visible_show (Last k s) = visible_show s
visible_show (More k s sp t) = visible_append (show s) (punct 44 false sp (show t)) ∙ ap₂ and (visible_show s) (visible_show t)
visible_show (Order xs l ys) = visible_spell xs (show l ⧺ spell ys end) ∙ visible_append (show l) (spell ys end) ∙ ap₂ and (visible_show l) (visible_spell ys end) ∙ and_true (seen l)

both_true : (a b : Bool) → a ≡ true → b ≡ true → and a b ≡ true
both_true a b e f = ap₂ and e f

seen_after : (s : Syntax) (sp : Span) (t : Syntax) → seen s ≡ true → seen t ≡ true → seen (following s sp t) ≡ true
seen_after s sp (More true x q u) e f = both_true (seen x) _ (and_left (seen x) _ f) (seen_after s sp u e (and_right (seen x) _ f))
seen_after s sp (Last true x) e f = both_true (seen x) _ f (both_true (seen s) true e refl)
seen_after s sp t e f = both_true (seen s) (seen t) e f

seen_sort : (s : Syntax) → seen s ≡ true → seen (sort s) ≡ true
seen_sort (More true s sp t) e = both_true (seen s) _ (and_left (seen s) _ e) (seen_sort t (and_right (seen s) _ e))
seen_sort (More false s sp t) e = seen_after s sp (sort t) (and_left (seen s) _ e) (seen_sort t (and_right (seen s) _ e))
seen_sort _ e = e

seen_renew : (s : Syntax) → seen s ≡ true → seen (renew s) ≡ true
seen_renew (Both s t) e = both_true (seen (renew s)) _ (seen_renew s (and_left (seen s) _ e)) (seen_renew t (and_right (seen s) _ e))
seen_renew (Left s) e = seen_renew s e
seen_renew (Right s) e = seen_renew s e
seen_renew (Node s) e = seen_renew s e
seen_renew (Vanishing b s) e = go (or b (bare s)) (seen_renew s e)
  where
    go : (v : Bool) → seen (renew s) ≡ true → seen (pick v (Right Nothing) (renew s)) ≡ true
    go true h = refl
    go false h = h
seen_renew (Group d o c s) e = both_true (is_visible d) _ (and_left (is_visible d) _ e) (seen_renew s (and_right (is_visible d) _ e))
seen_renew (Case k s) e = seen_renew s e
seen_renew (Such s) e = seen_renew s e
seen_renew (Shaped j s) e = seen_renew s e
seen_renew (Last k s) e = seen_renew s e
seen_renew (More k s sp t) e = both_true (seen (renew s)) _ (seen_renew s (and_left (seen s) _ e)) (seen_renew t (and_right (seen s) _ e))
seen_renew (Order xs l ys) e = seen_sort (renew l) (seen_renew l e)
seen_renew (Impl l s) e = both_true (seen (pick (bare l) (pick (led (renew s)) no_generics (Right Nothing)) (renew l))) _ (go (bare l) (led (renew s)) (seen_renew l (and_left (seen l) _ e))) (seen_renew s (and_right (seen l) _ e))
  where
    go : (b v : Bool) → seen (renew l) ≡ true → seen (pick b (pick v no_generics (Right Nothing)) (renew l)) ≡ true
    go true true h = refl
    go true false h = refl
    go false v h = h
seen_renew Nothing e = e
seen_renew (Token x sp) e = e
seen_renew (Mark xs) e = e
seen_renew (Lifetime sp x sq) e = e
seen_renew (Raw d o c i) e = e
seen_renew (Rest xs i) e = e
seen_renew (Captured s i) e = e
seen_renew (Unshown s) e = e
seen_renew (Added cs) e = e
seen_renew Done e = e

module _ (table : Rule → Grammar) where
  abbrev Kept : Syntax → Stream → Type 0
  Kept s r = (seen s ≡ true) × (visible r ≡ true)

  group_kept : (d d' : Delimiter) (o c : Span) (i ts r : Stream) → ts ≡ group d' o c i r → visible ts ≡ true → (is_visible d' ≡ true) × (visible i ≡ true) × (visible r ≡ true)
  group_kept d d' o c i ts r f v =
      let w = ap visible (sym f) ∙ v in
      let z = and_right (is_visible d') _ w in
      (and_left (is_visible d') _ w, and_left (visible i) _ z, and_right (visible i) _ z)

  pub read_seen : (g : Grammar) (s : Syntax) (ts r : Stream) → DerivesPrefix table g s ts r → visible ts ≡ true → Kept s r
  read_seen empty Nothing ts r h v = (refl, ap visible (sym h) ∙ v)
  read_seen (token b k) (Token x sp) ts r h v = (refl, ap visible (sym h.1) ∙ v)
  read_seen (mark b cs) (Mark xs) ts r h v = (refl, sym (visible_spelled xs ts r h.1) ∙ v)
  read_seen lifetime (Lifetime sp x sq) ts r h v = (refl, ap visible (sym h) ∙ v)
  read_seen (g & h) (Both s t) ts r (m, a, b) v =
      let p = read_seen g s ts m a v in
      let q = read_seen h t m r b p.1 in
      (both_true (seen s) _ p.0 q.0, q.1)
  read_seen (when c then g else h) (Left s) ts r (e, a) v = read_seen g s ts r a v
  read_seen (when c then g else h) (Right s) ts r (e, a) v = read_seen h s ts r a v
  read_seen (vanishing b c g) (Vanishing b' s) ts r (e, a) v = read_seen (when c then g else empty) s ts r a v
  read_seen (inside d g) (Group d' o c s) ts r (e, i, f, a) v =
      let w = group_kept d d' o c i ts r f v in
      (both_true (is_visible d') _ w.0 (read_seen g s i end a w.1).0, w.2)
  read_seen (raw d) (Raw d' o c i) ts r (e, f) v = let w = group_kept d d' o c i ts r f v in (both_true (is_visible d') _ w.0 w.1, w.2)
  read_seen (rest_after cs) (Rest xs i) ts r (e, d, n, f) v = (sym (visible_spelled xs ts i d) ∙ v, ap visible f)
  read_seen (either g h) (Left s) ts r a v = read_seen g s ts r a v
  read_seen (either g h) (Right s) ts r a v = read_seen h s ts r a v
  read_seen (one_of ks) (Case k s) ts r (e, a) v = read_seen (table k) s ts r a v
  read_seen (rule k) (Node s) ts r a v = read_seen (table k) s ts r a v
  read_seen (such t g) (Such s) ts r (e, a) v = read_seen g s ts r a v
  read_seen (shaped j g) (Shaped i s) ts r (e, a) v = read_seen g s ts r a v
  read_seen (captured g) (Captured s i) ts r (e, a) v =
      let w = sym (visible_append i r) ∙ ap visible (sym e) ∙ v in
      (and_left (visible i) _ w, and_right (visible i) _ w)
  read_seen unshown (Unshown s) ts r h v = (refl, ap visible (sym h.1) ∙ v)
  read_seen (supplied n p t) (Both a (Both (Mark xs) s)) ts r (inl (w, x, sp, c, e, pa, f, q)) v =
      let z = read_seen t s ts r q v in
      (both_true (seen a) _ (read_seen p a (underscore sp) end pa refl).0 z.0, z.1)
  read_seen (supplied n p t) (Both a (Both (Mark xs) s)) ts r (inr (w, m, pa, f, m', d, q)) v =
      let y = read_seen p a ts m pa v in
      let z = read_seen t s m' r q (sym (visible_spelled xs m m' d) ∙ y.1) in
      (both_true (seen a) _ y.0 z.0, z.1)
  read_seen (generics_before x y h) (Impl l s) ts r (m, a, b) v =
      let p = read_seen (opt_generics x y) l ts m a v in
      let q = read_seen h s m r b p.1 in
      (both_true (seen l) _ p.0 q.0, q.1)
  read_seen (row g h) Done ts r (e, f) v = (refl, ap visible (sym f) ∙ v)
  read_seen (row g h) (Last b s) ts r (e, a, n) v = read_seen (choose b g h) s ts r a v
  read_seen (row g h) (More b s sp t) ts r (e, m, a, m', d, q) v =
      let p = read_seen (choose b g h) s ts m a v in
      let z = read_seen (row g h) t m' r q (ap visible (sym d.1) ∙ p.1) in
      (both_true (seen s) _ p.0 z.0, z.1)
  read_seen (ordered g h) (Order xs l ys) ts r (m, e, d, m', a, e', d') v =
      let p = read_seen (row g h) l m m' a (sym (visible_spelled xs ts m d) ∙ v) in
      (p.0, sym (visible_spelled ys m' r d') ∙ p.1)
  read_seen _ _ ts r a v = elim a [ ]

  pub visible_print : (g : Grammar) (s : Syntax) (ts r : Stream) → DerivesPrefix table g s ts r → visible ts ≡ true → visible (print s) ≡ true
  visible_print g s ts r a v = visible_show (renew s) ∙ seen_renew s (read_seen g s ts r a v).0
