-- Spans decide nothing: a form reads the same from every stream that differs in its spans alone.
use Rattle.std.proofs.Common.{◌≡◌, ℕ, Bool, true, List, [], ◌∷◌, refl, sym, ap, ◌∙◌, ap₂, subst, inl, inr}
use Rattle.syn_grammar.specs.Tokens.{Span, Delimiter, Leaf, Stream, end, leaf, ident, punct, group, ◌⧺◌, call_site, plain, lookahead_with, punctuation_lookahead, answers, lookahead, facts_for, asked, leaf_terminal, group_lookahead}
use Rattle.syn_grammar.specs.Rules.{Rule}
use Rattle.syn_grammar.specs.Grammar.{Syntax, Nothing, Token, Mark, Lifetime, Both, Left, Right, Node, Vanishing, Group, Raw, Rest, Case, Captured, Unshown, Impl, Done, Last, More, Order, Such, some_tree, plain_mark, plain_syntax, chars, Spelled, DerivesPrefix, Grammar, empty, token, mark, lifetime, ◌&◌, when◌then◌else◌, vanishing, inside, raw, rest_after, either, one_of, rule, such, captured, unshown, supplied, generics_before, opt_generics, holds, row, ordered, choose, at_unnamed, underscore, at_row_end, at_row_comma, Shaped, shaped}
use Rattle.syn_grammar.proofs.Plain.{holds_plain, plain_append}
use Rattle.syn_grammar.proofs.Streams.{same_before}
use Rattle.syn_grammar.proofs.Extend.{carried}

-- two streams that differ in spans alone
abbrev pub Like : Stream → Stream → Type 0
Like end end = Unit {0}
Like (leaf x sp m) (leaf y sp' m') = (x ≡ y) × Like m m'
Like (punct c j sp m) (punct c' j' sp' m') = (c ≡ c') × (j ≡ j') × Like m m'
Like (group d o c i m) (group d' o' c' i' m') = (d ≡ d') × Like i i' × Like m m'
Like _ _ = ⊥

pub like_refl : (a : Stream) → Like a a
like_refl end = tt
like_refl (leaf x sp m) = (refl, like_refl m)
like_refl (punct c j sp m) = (refl, refl, like_refl m)
like_refl (group d o c i m) = (refl, like_refl i, like_refl m)

pub like_of_plain : (a b : Stream) → Like (plain a) (plain b) → Like a b
like_of_plain end end h = h
like_of_plain (leaf x sp m) (leaf y sp' m') h = (h.0, like_of_plain m m' h.1)
like_of_plain (punct c j sp m) (punct c' j' sp' m') h = (h.0, h.1, like_of_plain m m' h.2)
like_of_plain (group d o c i m) (group d' o' c' i' m') h = (h.0, like_of_plain i i' h.1, like_of_plain m m' h.2)
like_of_plain _ _ h = elim h [ ]

pub like_of_eq : (a b : Stream) → plain a ≡ plain b → Like a b
like_of_eq a b e = like_of_plain a b (subst (λ t. Like (plain a) t) e (like_refl (plain a)))

pub plain_of_like : (a b : Stream) → Like a b → plain a ≡ plain b
plain_of_like end end h = refl
plain_of_like (leaf x sp m) (leaf y sp' m') h = ap₂ (λ v t. leaf v call_site t) h.0 (plain_of_like m m' h.1)
plain_of_like (punct c j sp m) (punct c' j' sp' m') h = ap (λ v. punct v j call_site (plain m)) h.0 ∙ ap₂ (λ v t. punct c' v call_site t) h.1 (plain_of_like m m' h.2)
plain_of_like (group d o c i m) (group d' o' c' i' m') h = ap (λ v. group v call_site call_site (plain i) (plain m)) h.0 ∙ ap₂ (group d' call_site call_site) (plain_of_like i i' h.1) (plain_of_like m m' h.2)
plain_of_like _ _ h = elim h [ ]

pub lookahead_like : (a b : Stream) → Like a b → lookahead a ≡ lookahead b
lookahead_like end end h = refl
lookahead_like (leaf x sp m) (leaf y sp' m') h = ap₂ (λ v n. lookahead_with (leaf_terminal v) (facts_for (asked (leaf_terminal v)) n)) h.0 (lookahead_like m m' h.1)
lookahead_like (punct c j sp m) (punct c' j' sp' m') h =
    ap₂ (λ v w. punctuation_lookahead v w (lookahead m)) h.0 h.1 ∙ ap (punctuation_lookahead c' j') (lookahead_like m m' h.2)
lookahead_like (group d o c i m) (group d' o' c' i' m') h = ap₂ group_lookahead h.0 (lookahead_like i i' h.1)
lookahead_like _ _ h = elim h [ ]

-- the tokens before rests that differ in spans alone
like_before : (a b r r' : Stream) → Like (a ⧺ r) (b ⧺ r') → Like r r' → plain a ≡ plain b
like_before a b r r' h k =
    let e : plain a ⧺ plain r ≡ plain b ⧺ plain r = sym (plain_append a r) ∙ plain_of_like (a ⧺ r) (b ⧺ r') h ∙ plain_append b r' ∙ ap (λ z. plain b ⧺ z) (sym (plain_of_like r r' k)) in
    same_before (plain a) (plain b) (plain r) e

some_like : (a b : Stream) → Like a b → some_tree a ≡ some_tree b
some_like end end h = refl
some_like (leaf x sp m) (leaf y sp' m') h = refl
some_like (punct c j sp m) (punct c' j' sp' m') h = refl
some_like (group d o c i m) (group d' o' c' i' m') h = refl
some_like _ _ h = elim h [ ]

like_leaf : (x : Leaf) (sp : Span) (r ts : Stream) → Like (leaf x sp r) ts → (sp' : Span) × (r' : Stream) × (ts ≡ leaf x sp' r') × Like r r'
like_leaf x sp r (leaf y sp' r') h = (sp', r', ap (λ v. leaf v sp' r') (sym h.0), h.1)
like_leaf x sp r _ h = elim h [ ]

like_punct : (c : ℕ) (j : Bool) (sp : Span) (r ts : Stream) → Like (punct c j sp r) ts → (sp' : Span) × (r' : Stream) × (ts ≡ punct c j sp' r') × Like r r'
like_punct c j sp r (punct c' j' sp' r') h = (sp', r', ap₂ (λ v w. punct v w sp' r') (sym h.0) (sym h.1), h.2)
like_punct c j sp r _ h = elim h [ ]

like_group : (d : Delimiter) (o c : Span) (i r ts : Stream) → Like (group d o c i r) ts → (o' c' : Span) × (i' r' : Stream) × (ts ≡ group d o' c' i' r') × Like i i' × Like r r'
like_group d o c i r (group d' o' c' i' r') h = (o', c', i', r', ap (λ v. group v o' c' i' r') (sym h.0), h.1, h.2)
like_group d o c i r _ h = elim h [ ]

like_end : (ts : Stream) → Like end ts → ts ≡ end
like_end end h = refl
like_end _ h = elim h [ ]

like_spelled : (xs : List (ℕ × Span)) (ts r ts' : Stream) → Spelled xs ts r → Like ts ts' →
    (ys : List (ℕ × Span)) × (r' : Stream) × Spelled ys ts' r' × (chars ys ≡ chars xs) × (plain_mark ys ≡ plain_mark xs) × Like r r'
like_spelled [] ts r ts' h k = elim h [ ]
like_spelled (x ∷ []) ts r ts' h k =
    let (sp', r', e, q) = like_punct x.0 h.0 x.1 r ts' (subst (λ t. Like t ts') h.1 k) in
    ((x.0, sp') ∷ [], r', (h.0, e), refl, refl, q)
like_spelled (x ∷ y ∷ l) ts r ts' h k =
    let (sp', m', e, q) = like_punct x.0 true x.1 h.0 ts' (subst (λ t. Like t ts') h.1 k) in
    go sp' m' e (like_spelled (y ∷ l) h.0 r m' h.2 q)
  where
    go : (sp' : Span) (m' : Stream) → ts' ≡ punct x.0 true sp' m' →
        ((ys : List (ℕ × Span)) × (r' : Stream) × Spelled ys m' r' × (chars ys ≡ chars (y ∷ l)) × (plain_mark ys ≡ plain_mark (y ∷ l)) × Like r r') →
        (ys : List (ℕ × Span)) × (r' : Stream) × Spelled ys ts' r' × (chars ys ≡ chars (x ∷ y ∷ l)) × (plain_mark ys ≡ plain_mark (x ∷ y ∷ l)) × Like r r'
    go sp' m' e ([], r', s, c, p, q) = elim s [ ]
    go sp' m' e (z ∷ zs, r', s, c, p, q) = ((x.0, sp') ∷ z ∷ zs, r', (m', e, s), ap (λ v. x.0 ∷ v) c, ap (λ v. (x.0, call_site) ∷ v) p, q)

module _ (table : Rule → Grammar) where
  -- what reading a stream with other spans gives
  abbrev pub Respanned : Grammar → Syntax → Stream → Stream → Type 0
  Respanned g s r ts' = (s' : Syntax) × (r' : Stream) × DerivesPrefix table g s' ts' r' × (plain_syntax s' ≡ plain_syntax s) × Like r r'

  pub respan : (g : Grammar) (s : Syntax) (ts r ts' : Stream) → DerivesPrefix table g s ts r → Like ts ts' → Respanned g s r ts'
  respan empty Nothing ts r ts' h k = (Nothing, ts', refl, refl, subst (λ t. Like t ts') h k)
  respan (token b kd) (Token x sp) ts r ts' h k =
      let (sp', r', e, q) = like_leaf x sp r ts' (subst (λ t. Like t ts') h.1 k) in
      (Token x sp', r', (h.0, e), refl, q)
  respan (mark b cs) (Mark xs) ts r ts' h k =
      let (ys, r', d, c, p, q) = like_spelled xs ts r ts' h.1 k in
      (Mark ys, r', (c ∙ h.0, d), ap Mark p, q)
  respan lifetime (Lifetime sp x sq) ts r ts' h k =
      let (sp', m', e, q) = like_punct 39 true sp (leaf (ident x) sq r) ts' (subst (λ t. Like t ts') h k) in
      let (sq', r', f, w) = like_leaf (ident x) sq r m' q in
      (Lifetime sp' x sq', r', e ∙ ap (punct 39 true sp') f, refl, w)
  respan (g & h) (Both s t) ts r ts' (m, a, b) k =
      let (s', m', a', p, q) = respan g s ts m ts' a k in
      let (t', r', b', p', q') = respan h t m r m' b q in
      (Both s' t', r', (m', a', b'), ap₂ Both p p', q')
  respan (when c then g else h) (Left s) ts r ts' (e, a) k =
      let (s', r', a', p, q) = respan g s ts r ts' a k in
      (Left s', r', (ap (answers c) (sym (lookahead_like ts ts' k)) ∙ e, a'), ap Left p, q)
  respan (when c then g else h) (Right s) ts r ts' (e, a) k =
      let (s', r', a', p, q) = respan h s ts r ts' a k in
      (Right s', r', (ap (answers c) (sym (lookahead_like ts ts' k)) ∙ e, a'), ap Right p, q)
  respan (vanishing b c g) (Vanishing b' s) ts r ts' (e, a) k =
      let (s', r', a', p, q) = respan (when c then g else empty) s ts r ts' a k in
      (Vanishing b' s', r', (e, a'), ap (Vanishing b') p, q)
  respan (inside d g) (Group d' o c s) ts r ts' (e, i, f, a) k =
      let (o', c', i', r', e', q, q') = like_group d' o c i r ts' (subst (λ t. Like t ts') f k) in
      let (s', z, a', p, w) = respan g s i end i' a q in
      (Group d' o' c' s', r', (e, i', e', subst (λ t. DerivesPrefix table g s' i' t) (like_end z w) a'), ap (Group d' call_site call_site) p, q')
  respan (raw d) (Raw d' o c i) ts r ts' (e, f) k =
      let (o', c', i', r', e', q, q') = like_group d' o c i r ts' (subst (λ t. Like t ts') f k) in
      (Raw d' o' c' i', r', (e, e'), ap (Raw d' call_site call_site) (sym (plain_of_like i i' q)), q')
  respan (rest_after cs) (Rest xs i) ts r ts' (e, d, n, f) k =
      let (ys, i', d', c, p, q) = like_spelled xs ts i ts' d k in
      (Rest ys i', end, (c ∙ e, d', sym (some_like i i' q) ∙ n, refl), ap₂ Rest p (sym (plain_of_like i i' q)), subst (λ z. Like z end) (sym f) tt)
  respan (one_of ks) (Case n s) ts r ts' (e, a) k =
      let (s', r', a', p, q) = respan (table n) s ts r ts' a k in
      (Case n s', r', (e, a'), ap (Case n) p, q)
  respan (captured g) (Captured s i) ts r ts' (e, a) k =
      let (s', r', a', p, q) = respan g s ts r ts' a k in
      let (i', f, w) = carried table g s' ts' r' a' in
      (Captured s' i', r', (f, a'), ap₂ Captured p (sym (like_before i i' r r' (subst (λ z. Like z (i' ⧺ r')) e (subst (λ z. Like ts z) f k)) q)), q)
  respan (either g h) (Left s) ts r ts' a k =
      let (s', r', a', p, q) = respan g s ts r ts' a k in
      (Left s', r', a', ap Left p, q)
  respan (either g h) (Right s) ts r ts' a k =
      let (s', r', a', p, q) = respan h s ts r ts' a k in
      (Right s', r', a', ap Right p, q)
  respan (rule n) (Node s) ts r ts' a k =
      let (s', r', a', p, q) = respan (table n) s ts r ts' a k in
      (Node s', r', a', ap Node p, q)
  respan (such t g) (Such s) ts r ts' (e, a) k =
      let (s', r', a', p, q) = respan g s ts r ts' a k in
      (Such s', r', (sym (holds_plain t s') ∙ ap (holds t) p ∙ holds_plain t s ∙ e, a'), ap Such p, q)
  respan (shaped j g) (Shaped i s) ts r ts' (e, a) k =
      let (s', r', a', p, q) = respan g s ts r ts' a k in
      (Shaped i s', r', (e, a'), ap (Shaped i) p, q)
  respan unshown (Unshown s) ts r ts' h k = (Unshown s, ts', (h.0, refl), refl, subst (λ t. Like t ts') h.1 k)
  respan (supplied n p t) (Both a (Both (Mark xs) s)) ts r ts' (inl (w, x, sp, c, e, pa, f, q)) k =
      let (s', r', q', ps, kr) = respan t s ts r ts' q k in
      let (d, e', _) = carried table t s' ts' r' q' in
      go s' r' q' ps kr d e' (like_before (leaf x sp c) d r r' (subst (λ z. Like z (d ⧺ r')) e (subst (λ z. Like ts z) e' k)) kr) (λ sp'. respan p a (underscore sp) end (underscore sp') pa (refl, tt))
    where
      go : (s' : Syntax) (r' : Stream) → DerivesPrefix table t s' ts' r' → plain_syntax s' ≡ plain_syntax s → Like r r' → (d : Stream) → ts' ≡ d ⧺ r' → plain (leaf x sp c) ≡ plain d → ((sp' : Span) → Respanned p a end (underscore sp')) →
          Respanned (supplied n p t) (Both a (Both (Mark xs) s)) r ts'
      go s' r' q' ps kr (leaf y sp' c') e' i again =
          let (a', z, pa', pp, kk) = again sp' in (
            Both a' (Both (Mark ((58, sp') ∷ [])) s'),
            r',
            inl (ap (answers (at_unnamed n)) (sym (lookahead_like ts ts' k)) ∙ w, y, sp', c', e', subst (λ t. DerivesPrefix table p a' (underscore sp') t) (like_end z kk) pa', refl, q'),
            ap₂ (λ u v. Both u (Both (Mark ((58, call_site) ∷ [])) v)) pp ps ∙ ap (λ z. Both (plain_syntax a) (Both (Mark (plain_mark z)) (plain_syntax s))) (sym f),
            kr,
          )
      go s' r' q' ps kr end e' i again = cc (i)
      go s' r' q' ps kr (punct b j sp' m) e' i again = cc (i)
      go s' r' q' ps kr (group b o j m z) e' i again = cc (i)
  respan (supplied n p t) (Both a (Both (Mark xs) s)) ts r ts' (inr (w, m, pa, f, m', d, q)) k =
      let (a', u, pa', pp, k1) = respan p a ts m ts' pa k in
      let (ys, v, d', cy, py, k2) = like_spelled xs m m' u d k1 in
      let (s', r', q', ps, k3) = respan t s m' r v q k2 in (
        Both a' (Both (Mark ys) s'),
        r',
        inr (ap (answers (at_unnamed n)) (sym (lookahead_like ts ts' k)) ∙ w, u, pa', cy ∙ f, v, d', q'),
        ap₂ (λ u v. Both u (Both (Mark (plain_mark ys)) v)) pp ps ∙ ap (λ z. Both (plain_syntax a) (Both (Mark z) (plain_syntax s))) py,
        k3,
      )
  respan (generics_before x y h) (Impl s t) ts r ts' (m, a, b) k =
      let (s', m', a', p, q) = respan (opt_generics x y) s ts m ts' a k in
      let (t', r', b', p', q') = respan h t m r m' b q in
      (Impl s' t', r', (m', a', b'), ap₂ Impl p p', q')
  respan (row g h) Done ts r ts' (e, f) k = (Done, ts', (ap (answers at_row_end) (sym (lookahead_like ts ts' k)) ∙ e, refl), refl, subst (λ t. Like t ts') f k)
  respan (row g h) (Last b s) ts r ts' (e, a, n) k =
      let (s', r', a', p, q) = respan (choose b g h) s ts r ts' a k in
      (Last b s', r', (ap (answers at_row_end) (sym (lookahead_like ts ts' k)) ∙ e, a', ap (answers at_row_comma) (sym (lookahead_like r r' q)) ∙ n), ap (Last b) p, q)
  respan (row g h) (More b s sp t) ts r ts' (e, m, a, m', d, rs) k =
      let (s', n, a', p, q) = respan (choose b g h) s ts m ts' a k in
      let (sp', n', de, q') = like_punct 44 d.0 sp m' n (subst (λ t. Like t n) d.1 q) in
      let (t', r', rs', p', q'') = respan (row g h) t m' r n' rs q' in
      (More b s' sp' t', r', (ap (answers at_row_end) (sym (lookahead_like ts ts' k)) ∙ e, n, a', n', (d.0, de), rs'), ap₂ (λ x y. More b x call_site y) p p', q'')
  respan (ordered g h) (Order xs l ys) ts r ts' (m, e, d, m', a, e', d') k =
      let (xs', n, dx, cx, px, q) = like_spelled xs ts m ts' d k in
      let (l', n', a', p, q') = respan (row g h) l m m' n a q in
      let (ys', r', dy, cy, py, q'') = like_spelled ys m' r n' d' q' in
      (Order xs' l' ys', r', (n, cx ∙ e, dx, n', a', cy ∙ e', dy), ap₂ (λ x y. Order x y (plain_mark ys')) px p ∙ ap (Order (plain_mark xs) (plain_syntax l)) py, q'')
  respan _ _ ts r ts' a k = elim a [ ]
