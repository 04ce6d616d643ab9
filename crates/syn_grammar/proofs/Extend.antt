-- What was read is read again, as the same tree, before another rest with the same lookahead; closed forms before any rest.
use Rattle.std.proofs.Common.{◌≡◌, ℕ, Bool, true, false, List, [], ◌∷◌, refl, sym, ap, ◌∙◌, subst, true≢false, ◌⊎◌, inl, inr}
use Rattle.syn_grammar.specs.Tokens.{Stream, end, leaf, ident, punct, group, ◌⧺◌, and, or, Terminal, Punctuation, mem, answers, asked, lookahead, present, char_terminal, punctuation_facts, punctuation_lookahead, Look, Lookahead, lookahead_with, is_ended}
use Rattle.syn_grammar.specs.Rules.{Rule}
use Rattle.syn_grammar.specs.RuleNumbers.{same_rule}
use Rattle.syn_grammar.specs.Grammar.{Syntax, Nothing, Token, Mark, Lifetime, Both, Left, Right, Node, Vanishing, Group, Raw, Rest, Case, Captured, Unshown, Impl, Done, Last, More, Order, Such, Spelled, DerivesPrefix, Grammar, empty, token, mark, lifetime, ◌&◌, when◌then◌else◌, vanishing, inside, raw, rest_after, either, one_of, rule, such, captured, unshown, supplied, generics_before, opt_generics, row, ordered, choose, among, at_unnamed, at_row_end, at_row_comma, Shaped, shaped}
use Rattle.syn_grammar.proofs.RuleLemmas.{same_rule_eq}
use Rattle.syn_grammar.proofs.Sets.{or_split, and_left, and_right, same_terminal_eq}
use Rattle.syn_grammar.proofs.FirstSets.{beginning, long_signs, char_start}
use Rattle.syn_grammar.proofs.Streams.{append_append, append_end, same_before, lookahead_same, lookahead_end, spelled_alone, quiet, silent_fact}

module _ (table : Rule → Grammar) where
  -- the tokens that were read, and the same reading before another rest
  abbrev pub Carried : Grammar → Syntax → Stream → Stream → Type 0
  Carried g s ts r = (c : Stream) × (ts ≡ c ⧺ r) × ((r' : Stream) → lookahead r' ≡ lookahead r → DerivesPrefix table g s (c ⧺ r') r')

  -- a condition is the same before a rest with the same lookahead
  moved : (l : Look) (b : Bool) (c ts r r' : Stream) → ts ≡ c ⧺ r → lookahead r' ≡ lookahead r → present l ts ≡ b → present l (c ⧺ r') ≡ b
  moved l b c ts r r' e f h = ap (answers l) (lookahead_same c r' r f ∙ ap lookahead (sym e)) ∙ h

  pub carried : (g : Grammar) (s : Syntax) (ts r : Stream) → DerivesPrefix table g s ts r → Carried g s ts r
  carried empty Nothing ts r h = (end, h, λ r' e. refl)
  carried (token b k) (Token x sp) ts r h = (leaf x sp end, h.1, λ r' e. (h.0, refl))
  carried (mark b cs) (Mark xs) ts r h =
      let (c, e, k) = spelled_alone xs ts r h.1 in
      (c, e, λ r' f. (h.0, k r'))
  carried lifetime (Lifetime sp x sq) ts r h = (punct 39 true sp (leaf (ident x) sq end), h, λ r' e. refl)
  carried (g & h) (Both s t) ts r (m, a, b) =
      let (c, e, k) = carried g s ts m a in
      let (d, f, l) = carried h t m r b in (
        c ⧺ d,
        e ∙ ap (λ z. c ⧺ z) f ∙ sym (append_append c d r),
        λ r' q.
            let x = k (d ⧺ r') (lookahead_same d r' r q ∙ ap lookahead (sym f)) in
            subst (λ z. DerivesPrefix table (g & h) (Both s t) z r') (sym (append_append c d r')) (d ⧺ r', x, l r' q),
      )
  carried (when l then g else h) (Left s) ts r (w, a) =
      let (c, e, k) = carried g s ts r a in
      (c, e, λ r' f. (moved l true c ts r r' e f w, k r' f))
  carried (when l then g else h) (Right s) ts r (w, a) =
      let (c, e, k) = carried h s ts r a in
      (c, e, λ r' f. (moved l false c ts r r' e f w, k r' f))
  carried (vanishing b l g) (Vanishing b' s) ts r (w, a) =
      let (c, e, k) = carried (when l then g else empty) s ts r a in
      (c, e, λ r' f. (w, k r' f))
  carried (inside d g) (Group d' o c s) ts r (e, i, f, a) = (group d' o c i end, f, λ r' q. (e, i, refl, a))
  carried (raw d) (Raw d' o c i) ts r (e, f) = (group d' o c i end, f, λ r' q. (e, refl))
  carried (rest_after cs) (Rest xs i) ts r (e, d, n, f) =
      let (c, q, k) = spelled_alone xs ts i d in (
        c ⧺ i,
        q ∙ ap (λ z. c ⧺ z) (sym (append_end i) ∙ ap (λ z. i ⧺ z) (sym f)) ∙ sym (append_append c i r),
        λ r' w.
            let z = lookahead_end r' (ap (λ v. is_ended v.terminal) (w ∙ ap lookahead f)) in
            (e, subst (λ v. Spelled xs v i) (sym (append_end (c ⧺ i)) ∙ ap (λ v. (c ⧺ i) ⧺ v) (sym z)) (k i), n, z),
      )
  carried (either g h) (Left s) ts r a = carried g s ts r a
  carried (either g h) (Right s) ts r a = carried h s ts r a
  carried (one_of ks) (Case n s) ts r (w, a) =
      let (c, e, k) = carried (table n) s ts r a in
      (c, e, λ r' f. (w, k r' f))
  carried (rule n) (Node s) ts r a = carried (table n) s ts r a
  carried (such t g) (Such s) ts r (w, a) =
      let (c, e, k) = carried g s ts r a in
      (c, e, λ r' f. (w, k r' f))
  carried (shaped j g) (Shaped i s) ts r (w, a) =
      let (c, e, k) = carried g s ts r a in
      (c, e, λ r' f. (w, k r' f))
  carried (captured g) (Captured s i) ts r (w, a) =
      let (c, e, k) = carried g s ts r a in
      (i, w, λ r' f. (refl, subst (λ z. DerivesPrefix table g s (z ⧺ r') r') (same_before c i r (sym e ∙ w)) (k r' f)))
  carried unshown (Unshown s) ts r h = (end, h.1, λ r' e. (h.0, refl))
  carried (supplied n p t) (Both a (Both (Mark xs) s)) ts r (inl (w, x, sp, c, e, pa, f, q)) =
      let (d, e', k) = carried t s ts r q in
      let same : leaf x sp c ≡ d = same_before (leaf x sp c) d r (sym e ∙ e') in
      (leaf x sp c, e, λ r' v. inl (moved (at_unnamed n) true (leaf x sp c) ts r r' e v w, x, sp, c, refl, pa, f, subst (λ z. DerivesPrefix table t s (z ⧺ r') r') (sym same) (k r' v)))
  carried (supplied n p t) (Both a (Both (Mark xs) s)) ts r (inr (w, m, pa, f, m', d, q)) =
      let (c1, e1, k1) = carried p a ts m pa in
      let (c2, e2, k2) = spelled_alone xs m m' d in
      let (c3, e3, k3) = carried t s m' r q in
      let all = c1 ⧺ (c2 ⧺ c3) in
      let whole : ts ≡ all ⧺ r = e1 ∙ ap (λ z. c1 ⧺ z) (e2 ∙ ap (λ z. c2 ⧺ z) e3 ∙ sym (append_append c2 c3 r)) ∙ sym (append_append c1 (c2 ⧺ c3) r) in (
        all,
        whole,
        λ r' v.
            let tail = c2 ⧺ (c3 ⧺ r') in
            let y = k1 tail (lookahead_same c2 (c3 ⧺ r') m' (lookahead_same c3 r' r v ∙ ap lookahead (sym e3)) ∙ ap lookahead (sym e2)) in
            let same : all ⧺ r' ≡ c1 ⧺ tail = append_append c1 (c2 ⧺ c3) r' ∙ ap (λ z. c1 ⧺ z) (append_append c2 c3 r') in
            inr (moved (at_unnamed n) false all ts r r' whole v w, tail, subst (λ z. DerivesPrefix table p a z tail) (sym same) y, f, c3 ⧺ r', k2 (c3 ⧺ r'), k3 r' v),
      )
  carried (generics_before x y h) (Impl s t) ts r (m, a, b) =
      let (c, e, k) = carried (opt_generics x y) s ts m a in
      let (d, f, l) = carried h t m r b in (
        c ⧺ d,
        e ∙ ap (λ z. c ⧺ z) f ∙ sym (append_append c d r),
        λ r' q.
            let x' = k (d ⧺ r') (lookahead_same d r' r q ∙ ap lookahead (sym f)) in
            subst (λ z. DerivesPrefix table (generics_before x y h) (Impl s t) z r') (sym (append_append c d r')) (d ⧺ r', x', l r' q),
      )
  carried (row g h) Done ts r (w, a) = (end, a, λ r' f. (ap (answers at_row_end) (f ∙ ap lookahead (sym a)) ∙ w, refl))
  carried (row g h) (Last b s) ts r (w, a, n) =
      let (c, e, k) = carried (choose b g h) s ts r a in
      (c, e, λ r' f. (moved at_row_end false c ts r r' e f w, k r' f, ap (answers at_row_comma) f ∙ n))
  carried (row g h) (More b s sp t) ts r (w, m, a, m', d, q) =
      let (c, e, k) = carried (choose b g h) s ts m a in
      let (u, f, l) = carried (row g h) t m' r q in
      let all = c ⧺ punct 44 d.0 sp u in
      let whole : ts ≡ all ⧺ r = e ∙ ap (λ z. c ⧺ z) (d.1 ∙ ap (punct 44 d.0 sp) f) ∙ sym (append_append c (punct 44 d.0 sp u) r) in (
        all,
        whole,
        λ r' v.
            let n = punct 44 d.0 sp (u ⧺ r') in
            let x = k n (ap (punctuation_lookahead 44 d.0) (lookahead_same u r' r v ∙ ap lookahead (sym f)) ∙ ap lookahead (sym d.1)) in
            (moved at_row_end false all ts r r' whole v w, n, subst (λ z. DerivesPrefix table (choose b g h) s z n) (sym (append_append c (punct 44 d.0 sp u) r')) x, u ⧺ r', (d.0, refl), l r' v),
      )
  carried (ordered g h) (Order xs l ys) ts r (m, e, d, m', a, e', d') =
      let (c, f, k) = spelled_alone xs ts m d in
      let (u, f1, k1) = carried (row g h) l m m' a in
      let (v, f2, k2) = spelled_alone ys m' r d' in
      let all = c ⧺ (u ⧺ v) in (
        all,
        f ∙ ap (λ z. c ⧺ z) (f1 ∙ ap (λ z. u ⧺ z) f2 ∙ sym (append_append u v r)) ∙ sym (append_append c (u ⧺ v) r),
        λ r' q.
            let y = k1 (v ⧺ r') (lookahead_same v r' r q ∙ ap lookahead (sym f2)) in
            let same : all ⧺ r' ≡ c ⧺ (u ⧺ (v ⧺ r')) = append_append c (u ⧺ v) r' ∙ ap (λ z. c ⧺ z) (append_append u v r') in
            subst (λ z. DerivesPrefix table (ordered g h) (Order xs l ys) z r') (sym same) (u ⧺ (v ⧺ r'), e, k (u ⧺ (v ⧺ r')), v ⧺ r', y, e', k2 r'),
      )
  carried _ _ ts r a = elim a [ ]

false_true : false ≡ true → ⊥
false_true e = true≢false (sym e)

abbrev none_of : List Terminal → Bool
none_of [] = true
none_of (x ∷ l) = false

module _ (said : Rule → Bool) where
  abbrev pub all_close : List Rule → Bool
  all_close [] = true
  all_close (k ∷ ks) = and (said k) (all_close ks)

  -- its last token looks the same whatever follows: `;`, or a group
  abbrev pub closes : Grammar → Bool
  closes (mark b (c ∷ [])) = and (none_of (beginning c long_signs)) (quiet (Punctuation (c ∷ [])))
  closes (inside d g) = true
  closes (raw d) = true
  closes (g & h) = closes h
  closes (when l then g else h) = and (closes g) (closes h)
  closes (either g h) = and (closes g) (closes h)
  closes (one_of ks) = all_close ks
  closes (rule k) = said k
  closes (such q g) = closes g
  closes (shaped j g) = closes g
  closes (captured g) = closes g
  closes (generics_before x y h) = closes h
  closes _ = false

  module _ (table : Rule → Grammar) (law : (k : Rule) → said k ≡ true → closes (table k) ≡ true) where
    -- the tokens that were read are read before every rest
    abbrev pub Alone : Grammar → Syntax → Stream → Stream → Type 0
    Alone g s ts r = (c : Stream) × (ts ≡ c ⧺ r) × ((r' : Stream) → DerivesPrefix table g s (c ⧺ r') r' × (lookahead (c ⧺ r') ≡ lookahead ts))

    one_closes : (k : Rule) (ks : List Rule) → among k ks ≡ true → all_close ks ≡ true → said k ≡ true
    one_closes k [] e w = absurd (true≢false (sym e))
    one_closes k (l ∷ ks) e w = go (or_split (same_rule k l) (among k ks) e) (one_closes k ks)
      where
        go : (same_rule k l ≡ true) ⊎ (among k ks ≡ true) → (among k ks ≡ true → all_close ks ≡ true → said k ≡ true) → said k ≡ true
        go (inl q) ih = ap said (same_rule_eq k l q) ∙ and_left (said l) _ w
        go (inr q) ih = ih q (and_right (said l) _ w)

    lone_terminal : (c : ℕ) (j : Bool) (f : Terminal) → none_of (beginning c long_signs) ≡ true → char_terminal c j f ≡ Punctuation (c ∷ [])
    lone_terminal c j f w = go (beginning c long_signs) w (char_start c j f)
      where
        go : (l : List Terminal) → none_of l ≡ true → mem (char_terminal c j f) (Punctuation (c ∷ []) ∷ l) ≡ true → char_terminal c j f ≡ Punctuation (c ∷ [])
        go [] w h = same_terminal_eq (char_terminal c j f) (Punctuation (c ∷ [])) (only _ h)
          where
            only : (b : Bool) → or b false ≡ true → b ≡ true
            only true e = refl
            only false e = e
        go (x ∷ l) w h = absurd (true≢false (sym w))

    lone_lookahead : (c : ℕ) (j : Bool) (f : Lookahead) → and (none_of (beginning c long_signs)) (quiet (Punctuation (c ∷ []))) ≡ true → punctuation_lookahead c j f ≡ lookahead_with (Punctuation (c ∷ [])) []
    lone_lookahead c j f w =
        ap (λ z. lookahead_with z (punctuation_facts c z f)) (lone_terminal c j f.terminal (and_left (none_of (beginning c long_signs)) _ w)) ∙ ap (lookahead_with (Punctuation (c ∷ []))) (silent_fact (asked (Punctuation (c ∷ []))) f (and_right (none_of (beginning c long_signs)) _ w))

    pub alone : (g : Grammar) (s : Syntax) (ts r : Stream) → closes g ≡ true → DerivesPrefix table g s ts r → Alone g s ts r
    alone (mark b (p ∷ [])) (Mark (x ∷ [])) ts r w (e, h) =
        let q : x.0 ≡ p = cc (e) in
        (punct x.0 h.0 x.1 end, h.1, λ r'. ((e, (h.0, refl)), terminal h.0 r' q ∙ sym (terminal h.0 r q) ∙ ap lookahead (sym h.1)))
      where
        terminal : (j : Bool) (r' : Stream) → x.0 ≡ p → punctuation_lookahead x.0 j (lookahead r') ≡ lookahead_with (Punctuation (p ∷ [])) []
        terminal j r' q = ap (λ z. punctuation_lookahead z j (lookahead r')) q ∙ lone_lookahead p j (lookahead r') w
    alone (mark b (p ∷ [])) (Mark (x ∷ y ∷ l)) ts r w (e, h) = cc (e)
    alone (mark b (p ∷ [])) (Mark []) ts r w (e, h) = elim h [ ]
    alone (inside d g) (Group d' o c s) ts r w (e, i, f, a) = (group d' o c i end, f, λ r'. ((e, i, refl, a), ap lookahead (sym f)))
    alone (raw d) (Raw d' o c i) ts r w (e, f) = (group d' o c i end, f, λ r'. ((e, refl), ap lookahead (sym f)))
    alone (g & h) (Both s t) ts r w (m, a, b) =
        let (c, e, k) = carried table g s ts m a in
        let (d, f, l) = alone h t m r w b in (
          c ⧺ d,
          e ∙ ap (λ z. c ⧺ z) f ∙ sym (append_append c d r),
          λ r'.
              let q = l r' in
              subst (λ z. DerivesPrefix table (g & h) (Both s t) z r' × (lookahead z ≡ lookahead ts)) (sym (append_append c d r'))
              ((d ⧺ r', k (d ⧺ r') q.1, q.0), lookahead_same c (d ⧺ r') m q.1 ∙ ap lookahead (sym e)),
        )
    alone (generics_before x y h) (Impl s t) ts r w (m, a, b) =
        let (c, e, k) = carried table (opt_generics x y) s ts m a in
        let (d, f, l) = alone h t m r w b in (
          c ⧺ d,
          e ∙ ap (λ z. c ⧺ z) f ∙ sym (append_append c d r),
          λ r'.
              let q = l r' in
              subst (λ z. DerivesPrefix table (generics_before x y h) (Impl s t) z r' × (lookahead z ≡ lookahead ts)) (sym (append_append c d r'))
              ((d ⧺ r', k (d ⧺ r') q.1, q.0), lookahead_same c (d ⧺ r') m q.1 ∙ ap lookahead (sym e)),
        )
    alone (when l then g else h) (Left s) ts r w (v, a) =
        let (c, e, k) = alone g s ts r (and_left (closes g) _ w) a in
        (c, e, λ r'. let q = k r' in ((ap (answers l) q.1 ∙ v, q.0), q.1))
    alone (when l then g else h) (Right s) ts r w (v, a) =
        let (c, e, k) = alone h s ts r (and_right (closes g) _ w) a in
        (c, e, λ r'. let q = k r' in ((ap (answers l) q.1 ∙ v, q.0), q.1))
    alone (either g h) (Left s) ts r w a = alone g s ts r (and_left (closes g) _ w) a
    alone (either g h) (Right s) ts r w a = alone h s ts r (and_right (closes g) _ w) a
    alone (one_of ks) (Case n s) ts r w (v, a) =
        let (c, e, k) = alone (table n) s ts r (law n (one_closes n ks v w)) a in
        (c, e, λ r'. let q = k r' in ((v, q.0), q.1))
    alone (rule n) (Node s) ts r w a = alone (table n) s ts r (law n w) a
    alone (such t g) (Such s) ts r w (v, a) =
        let (c, e, k) = alone g s ts r w a in
        (c, e, λ r'. let q = k r' in ((v, q.0), q.1))
    alone (shaped j g) (Shaped i s) ts r w (v, a) =
        let (c, e, k) = alone g s ts r w a in
        (c, e, λ r'. let q = k r' in ((v, q.0), q.1))
    alone (captured g) (Captured s i) ts r w (v, a) =
        let (c, e, k) = alone g s ts r w a in
        let same = same_before c i r (sym e ∙ v) in
        (i, v, λ r'. let q = k r' in ((refl, subst (λ z. DerivesPrefix table g s (z ⧺ r') r') same q.0), ap (λ z. lookahead (z ⧺ r')) (sym same) ∙ q.1))
    alone _ _ ts r w a = search false_true
