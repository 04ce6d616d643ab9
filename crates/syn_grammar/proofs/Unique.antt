-- The grammar is unambiguous: a form reads at most one tree from a stream, if the forms of each union are apart.
use Rattle.std.proofs.Common.{◌≡◌, ℕ, zero, suc, Bool, true, false, List, [], ◌∷◌, refl, sym, ap, ◌∙◌, ap₂, subst, true≢false, ◌⊎◌, inl, inr}
use Rattle.syn_grammar.specs.Words.{Text}
use Rattle.syn_grammar.specs.Shape.{Shape}
use Rattle.syn_grammar.specs.Tokens.{Span, Delimiter, Leaf, Stream, end, ident, ◌⧺◌, or, and, no, lookahead, present, mem}
use Rattle.syn_grammar.specs.Rules.{Rule}
use Rattle.syn_grammar.specs.RuleNumbers.{same_rule}
use Rattle.syn_grammar.specs.Grammar.{Syntax, Nothing, Token, Mark, Lifetime, Both, Left, Right, Node, Vanishing, Group, Raw, Rest, Case, Captured, Unshown, Impl, Added, Done, Last, More, Order, Such, Spelled, DerivesPrefix, Grammar, empty, token, mark, lifetime, ◌&◌, when◌then◌else◌, vanishing, inside, raw, rest_after, either, one_of, rule, such, captured, unshown, supplied, generics_before, opt_generics, holds, row, ordered, choose, among, underscore, at_row_comma, Shaped, shaped}
use Rattle.syn_grammar.proofs.RuleLemmas.{same_rule_eq}
use Rattle.syn_grammar.proofs.Sets.{or_split, and_left, and_right, no_true, apart_sets, mem_apart, every, every_at, same_look_eq}
use Rattle.syn_grammar.proofs.FirstSets.{Start, nullable, first_set, Begins, IsSaid, begins}
use Rattle.syn_grammar.proofs.Streams.{same_before}
use Rattle.syn_grammar.proofs.Again.{Off, excluded, excluded_off}
use Rattle.syn_grammar.proofs.NeverFollow.{never_follow, IsOff, ended_off}
use Rattle.syn_grammar.proofs.FormEquality.{opposite, opposite_sound, same, same_eq, single, all_forms, all_rules, some_form, spelled_same}
use Rattle.syn_grammar.proofs.Apart.{all_rules_at, on_left, on_right, comma_lookahead, each_form_at, each_seq_at, single_tail, shared, opposed, rest, trailed, first, part_of, turns, turn_of, on_side, turned, open_form as open_form_of, clears as clears_of, disjoint as disjoint_of, apart as apart_of, steps as steps_of, each_apart as each_apart_of, sound as sound_of}

module _ (table : Rule → Grammar) (said : Rule → Start) where
  -- the test of unions, of this table
  abbrev open_form : Grammar → List Grammar
  open_form = open_form_of table said

  abbrev clears : Grammar → Grammar → Bool
  clears = clears_of table said

  abbrev disjoint : Grammar → Grammar → Bool
  disjoint = disjoint_of table said

  abbrev apart : ℕ → Grammar → Grammar → Bool
  apart = apart_of table said

  abbrev steps : ℕ
  steps = steps_of table said

  abbrev each_apart : List Rule → Bool
  each_apart = each_apart_of table said

  abbrev sound : Grammar → Bool
  sound = sound_of table said

  module _ (law : IsSaid said table) (never_follow_hold : IsOff said table) (sounds : (k : Rule) → sound (table k) ≡ true) where
    abbrev pub Unique : Syntax → Type 0
    Unique s = (g : Grammar) → sound g ≡ true → (ts r : Stream) (s' : Syntax) (r' : Stream) → DerivesPrefix table g s ts r → DerivesPrefix table g s' ts r' → (s ≡ s') × (r ≡ r')

    abbrev pub Parts : Syntax → Type 0
    Parts (Both s t) = Unique s × Unique t × Parts s × Parts t
    Parts (Impl s t) = Unique s × Unique t × Parts s × Parts t
    Parts (Left s) = Unique s × Parts s
    Parts (Right s) = Unique s × Parts s
    Parts (Node s) = Unique s × Parts s
    Parts (Such s) = Unique s × Parts s
    Parts (Shaped j s) = Unique s × Parts s
    Parts (Case k s) = Unique s × Parts s
    Parts (Captured s i) = Unique s × Parts s
    Parts (Last k s) = Unique s × Parts s
    Parts (More k s sp t) = Unique s × Parts s
    Parts (Vanishing b s) = Unique s × Parts s
    Parts (Group d o c s) = Unique s × Parts s
    Parts _ = Unit {0}

    step_both : (s t : Syntax) → Unique s → Unique t → Parts t → Unique (Both s t)
    step_both s t us ut pt (g & h) w ts r (Both s' t') r' (m, a, b) (m', a', b') =
        let p = us g (and_left (sound g) _ w) ts m s' m' a a' in
        let q = ut h (and_right (sound g) _ w) m r t' r' b (subst (λ x. DerivesPrefix table h t' x r') (sym p.1) b') in
        (ap₂ Both p.0 q.0, q.1)
    step_both s t us ut pt (g & h) w ts r _ r' a b = elim b [ ]
    step_both s (Both (Mark xs) s2) us ut pt (supplied n p t) w ts r (Both a' (Both (Mark ys) s2')) r' (inl (v, x, sp, c, e, pa, f, q)) (inl (v', x', sp', c', e', pa', f', q')) =
        let d = sym e ∙ e' in
        let same_span : sp ≡ sp' = cc (d) in
        let y = us p (and_left (sound p) _ w) (underscore sp) end a' end pa (subst (λ z. DerivesPrefix table p a' (underscore z) end) (sym same_span) pa') in
        let z = pt.1 t (and_right (sound p) _ w) ts r s2' r' q q' in
        (ap₂ Both y.0 (ap₂ (λ u v. Both (Mark u) v) (f ∙ ap (λ z. (58, z) ∷ []) same_span ∙ sym f') z.0), z.1)
    step_both s (Both (Mark xs) s2) us ut pt (supplied n p t) w ts r (Both a' (Both (Mark ys) s2')) r' (inr (v, m, pa, f, m', d, q)) (inr (v', u, pa', f', u', d', q')) =
        let y = us p (and_left (sound p) _ w) ts m a' u pa pa' in
        let o = spelled_same xs ys m m' u' (f ∙ sym f') d (subst (λ z. Spelled ys z u') (sym y.1) d') in
        let z = pt.1 t (and_right (sound p) _ w) m' r s2' r' q (subst (λ z. DerivesPrefix table t s2' z r') (sym o.1) q') in
        (ap₂ Both y.0 (ap₂ (λ u v. Both (Mark u) v) o.0 z.0), z.1)
    step_both s (Both (Mark xs) s2) us ut pt (supplied n p t) w ts r (Both a' (Both (Mark ys) s2')) r' (inl h) (inr h') = absurd (true≢false (sym h.0 ∙ h'.0))
    step_both s (Both (Mark xs) s2) us ut pt (supplied n p t) w ts r (Both a' (Both (Mark ys) s2')) r' (inr h) (inl h') = absurd (true≢false (sym h'.0 ∙ h.0))
    step_both s (Both (Mark xs) s2) us ut pt (supplied n p t) w ts r (Both a' (Both _ s2')) r' a b = elim b [ ]
    step_both s (Both (Mark xs) s2) us ut pt (supplied n p t) w ts r (Both a' _) r' a b = elim b [ ]
    step_both s (Both (Mark xs) s2) us ut pt (supplied n p t) w ts r _ r' a b = elim b [ ]
    step_both s t us ut pt _ w ts r s' r' a b = elim a [ ]

    step_impl : (s t : Syntax) → Unique s → Unique t → Unique (Impl s t)
    step_impl s t us ut (generics_before x y h) w ts r (Impl s' t') r' (m, a, b) (m', a', b') =
        let p = us (opt_generics x y) (and_left (sound (opt_generics x y)) _ w) ts m s' m' a a' in
        let q = ut h (and_right (sound (opt_generics x y)) _ w) m r t' r' b (subst (λ z. DerivesPrefix table h t' z r') (sym p.1) b') in
        (ap₂ Impl p.0 q.0, q.1)
    step_impl s t us ut (generics_before x y h) w ts r _ r' a b = elim b [ ]
    step_impl s t us ut _ w ts r s' r' a b = elim a [ ]

    abbrev Opened : (Grammar → Bool) → Syntax → Stream → Stream → Type 0
    Opened p s ts r = (g' : Grammar) × (s' : Syntax) × (p g' ≡ true) × DerivesPrefix table g' s' ts r × (Parts s → Parts s') × (sound g' ≡ true)

    opened_seq : (p : Grammar → Bool) (g k : Grammar) (s t : Syntax) (ts m r : Stream) → DerivesPrefix table g s ts m → DerivesPrefix table k t m r →
        some_form (open_form (g & k)) ≡ true → all_forms p (open_form (g & k)) ≡ true → sound g ≡ true → sound k ≡ true → Opened p (Both s t) ts r
    opened_seq p empty k Nothing t ts m r a b n e w v = (k, t, and_left (p k) true e, subst (λ x. DerivesPrefix table k t x r) (sym a) b, λ q. q.3, v)
    opened_seq p (g & h) k (Both s s') t ts m r a b n e w v = (g & (h & k), Both s (Both s' t), and_left _ true e, (a.0, a.1, (m, a.2, b)), λ q. (q.2.0, step_both s' t q.2.1 q.1 q.3, q.2.2, (q.2.1, q.1, q.2.3, q.3)), and_regroup (sound g) (sound h) (sound k) w v)
      where
        and_regroup : (a b c : Bool) → and a b ≡ true → c ≡ true → and a (and b c) ≡ true
        and_regroup true true c e f = f
        and_regroup true false c e f = e
        and_regroup false b c e f = e
    opened_seq p (when c then g else h) k (Left s) t ts m r a b n e w v = (g & k, Both s t, and_left (p (g & k)) _ e, (m, a.1, b), λ q. (q.2.0, q.1, q.2.1, q.3), ap₂ and (and_left (sound g) _ w) v)
    opened_seq p (when c then g else h) k (Right s) t ts m r a b n e w v = (h & k, Both s t, and_left (p (h & k)) _ (and_right (p (g & k)) _ e), (m, a.1, b), λ q. (q.2.0, q.1, q.2.1, q.3), ap₂ and (and_right (sound g) _ w) v)
    opened_seq p (either g h) k (Left s) t ts m r a b n e w v = (g & k, Both s t, and_left (p (g & k)) _ e, (m, a, b), λ q. (q.2.0, q.1, q.2.1, q.3), ap₂ and (and_left (sound g) _ (and_right (apart steps g h) _ w)) v)
    opened_seq p (either g h) k (Right s) t ts m r a b n e w v = (h & k, Both s t, and_left (p (h & k)) _ (and_right (p (g & k)) _ e), (m, a, b), λ q. (q.2.0, q.1, q.2.1, q.3), ap₂ and (and_right (sound g) _ (and_right (apart steps g h) _ w)) v)
    opened_seq p (vanishing f c g) k (Vanishing f' s) t ts m r a b n e w v = ((when c then g else empty) & k, Both s t, and_left _ true e, (m, a.1, b), λ q. (q.2.0, q.1, q.2.1, q.3), ap₂ and (ap₂ and w refl) v)
    opened_seq p (rule i) k (Node s) t ts m r a b n e w v = (table i & k, Both s t, and_left _ true e, (m, a, b), λ q. (q.2.0, q.1, q.2.1, q.3), ap₂ and (sounds i) v)
    opened_seq p (one_of ks) k (Case n s) t ts m r a b nn e w v = (table n & k, Both s t, each_seq_at table said p ks k n a.0 e, (m, a.1, b), λ q. (q.2.0, q.1, q.2.1, q.3), ap₂ and (sounds n) v)
    opened_seq p (such q g) k (Such s) t ts m r a b n e w v = (g & k, Both s t, and_left _ true e, (m, a.1, b), λ q. (q.2.0, q.1, q.2.1, q.3), ap₂ and w v)
    opened_seq p (shaped j g) k (Shaped i s) t ts m r a b n e w v = (g & k, Both s t, and_left _ true e, (m, a.1, b), λ q. (q.2.0, q.1, q.2.1, q.3), ap₂ and w v)
    opened_seq p unshown k (Unshown s) t ts m r a b n e w v = (k, t, and_left (p k) true e, subst (λ x. DerivesPrefix table k t x r) (sym a.1) b, λ q. q.3, v)
    opened_seq p (generics_before x y h) k (Impl s s') t ts m r a b n e w v = (opt_generics x y & (h & k), Both s (Both s' t), and_left _ true e, (a.0, a.1, (m, a.2, b)), λ q. (q.2.0, step_both s' t q.2.1 q.1 q.3, q.2.2, (q.2.1, q.1, q.2.3, q.3)), regroup (sound (opt_generics x y)) (sound h) (sound k) w v)
      where
        regroup : (a b c : Bool) → and a b ≡ true → c ≡ true → and a (and b c) ≡ true
        regroup true true c e f = f
        regroup true false c e f = e
        regroup false b c e f = e
    opened_seq p (captured g) k (Captured s i) t ts m r a b n e w v = (g & k, Both s t, and_left _ true e, (m, a.1, b), λ q. (q.2.0, q.1, q.2.1, q.3), ap₂ and w v)
    opened_seq p (token b' i) k s t ts m r a b n e w v = absurd (true≢false (sym n))
    opened_seq p lifetime k s t ts m r a b n e w v = absurd (true≢false (sym n))
    opened_seq p (mark j i) k s t ts m r a b n e w v = absurd (true≢false (sym n))
    opened_seq p (inside d g) k s t ts m r a b n e w v = absurd (true≢false (sym n))
    opened_seq p (supplied o g h) k s t ts m r a b n e w v = absurd (true≢false (sym n))
    opened_seq p (row g h) k s t ts m r a b n e w v = absurd (true≢false (sym n))
    opened_seq p (ordered g h) k s t ts m r a b n e w v = absurd (true≢false (sym n))
    opened_seq p (rest_after i) k s t ts m r a b n e w v = absurd (true≢false (sym n))
    opened_seq p (raw d) k s t ts m r a b n e w v = absurd (true≢false (sym n))
    opened_seq p _ k _ t ts m r a b n e w v = elim a [ ]

    opened : (p : Grammar → Bool) (g : Grammar) (s : Syntax) (ts r : Stream) → DerivesPrefix table g s ts r →
        some_form (open_form g) ≡ true → all_forms p (open_form g) ≡ true → sound g ≡ true → Opened p s ts r
    opened p (g & k) (Both s t) ts r (m, a, b) n e w = opened_seq p g k s t ts m r a b n e (and_left (sound g) _ w) (and_right (sound g) _ w)
    opened p (when c then g else h) (Left s) ts r a n e w = (g, s, and_left (p g) _ e, a.1, λ q. q.1, and_left (sound g) _ w)
    opened p (when c then g else h) (Right s) ts r a n e w = (h, s, and_left (p h) _ (and_right (p g) _ e), a.1, λ q. q.1, and_right (sound g) _ w)
    opened p (either g h) (Left s) ts r a n e w = (g, s, and_left (p g) _ e, a, λ q. q.1, and_left (sound g) _ (and_right (apart steps g h) _ w))
    opened p (either g h) (Right s) ts r a n e w = (h, s, and_left (p h) _ (and_right (p g) _ e), a, λ q. q.1, and_right (sound g) _ (and_right (apart steps g h) _ w))
    opened p (rule i) (Node s) ts r a n e w = (table i, s, and_left _ true e, a, λ q. q.1, sounds i)
    opened p (one_of ks) (Case n s) ts r a nn e w = (table n, s, each_form_at table said p ks n a.0 e, a.1, λ q. q.1, sounds n)
    opened p (such q g) (Such s) ts r a n e w = (g, s, and_left _ true e, a.1, λ q. q.1, w)
    opened p (shaped j g) (Shaped i s) ts r a n e w = (g, s, and_left _ true e, a.1, λ q. q.1, w)
    opened p (generics_before x y h) (Impl s t) ts r a n e w = (opt_generics x y & h, Both s t, and_left _ true e, a, λ q. q, w)
    opened p (captured g) (Captured s i) ts r a n e w = (g, s, and_left _ true e, a.1, λ q. q.1, w)
    opened p empty s ts r a n e w = absurd (true≢false (sym n))
    opened p (token b i) s ts r a n e w = absurd (true≢false (sym n))
    opened p lifetime s ts r a n e w = absurd (true≢false (sym n))
    opened p (mark j i) s ts r a n e w = absurd (true≢false (sym n))
    opened p (vanishing b c g) s ts r a n e w = absurd (true≢false (sym n))
    opened p (inside d g) s ts r a n e w = absurd (true≢false (sym n))
    opened p unshown s ts r a n e w = absurd (true≢false (sym n))
    opened p (supplied o g h) s ts r a n e w = absurd (true≢false (sym n))
    opened p (row g h) s ts r a n e w = absurd (true≢false (sym n))
    opened p (ordered g h) s ts r a n e w = absurd (true≢false (sym n))
    opened p (rest_after i) s ts r a n e w = absurd (true≢false (sym n))
    opened p (raw d) s ts r a n e w = absurd (true≢false (sym n))
    opened p _ _ ts r a n e w = elim a [ ]

    clears_sound : (g h : Grammar) (s : Syntax) (ts r : Stream) → clears g h ≡ true → DerivesPrefix table g s ts r → nullable said g ≡ true → ts ≡ r → mem (lookahead ts).terminal (first_set said h) ≡ true → ⊥
    clears_sound g h s ts r e a p q m = go (or_split (no (nullable said g)) _ e)
      where
        go : (no (nullable said g) ≡ true) ⊎ (every (excluded (never_follow said [] g)) (first_set said h) ≡ true) → ⊥
        go (inl f) = true≢false (sym p ∙ no_true (nullable said g) f)
        go (inr f) = true≢false (sym (every_at (excluded (never_follow said [] g)) (lookahead ts).terminal (first_set said h) f m) ∙ excluded_off (never_follow said [] g) (lookahead ts) (subst (λ z. Off (never_follow said [] g) (lookahead z)) (sym q) (ended_off said table never_follow_hold [] g s ts r tt a)))

    disjoint_sound : (g h : Grammar) (s s' : Syntax) (ts r r' : Stream) → disjoint g h ≡ true → DerivesPrefix table g s ts r → DerivesPrefix table h s' ts r' → ⊥
    disjoint_sound g h s s' ts r r' e a b = go (begins said table law g s ts r a) (begins said table law h s' ts r' b)
      where
        both : and (nullable said g) (nullable said h) ≡ false
        both = no_true (and (nullable said g) (nullable said h)) (and_left (no (and (nullable said g) (nullable said h))) _ e)

        rest_of : and (and (clears g h) (clears h g)) (apart_sets (first_set said g) (first_set said h)) ≡ true
        rest_of = and_right (no (and (nullable said g) (nullable said h))) _ e

        cleared : and (clears g h) (clears h g) ≡ true
        cleared = and_left (and (clears g h) (clears h g)) _ rest_of

        go : Begins said g ts r → Begins said h ts r' → ⊥
        go (inl p) (inl q) = true≢false (sym q ∙ mem_apart (lookahead ts).terminal (first_set said g) (first_set said h) (and_right (and (clears g h) (clears h g)) _ rest_of) p)
        go (inr p) (inr q) = true≢false (sym (ap₂ and p.0 q.0) ∙ both)
        go (inr p) (inl q) = clears_sound g h s ts r (and_left (clears g h) _ cleared) a p.0 p.1 q
        go (inl p) (inr q) = clears_sound h g s' ts r' (and_right (clears g h) _ cleared) b q.0 q.1 p

    abbrev Apart : ℕ → Type 0
    Apart n = (g h : Grammar) (s s' : Syntax) (ts r r' : Stream) → apart n g h ≡ true → sound g ≡ true → sound h ≡ true → Parts s ⊎ Parts s' → DerivesPrefix table g s ts r → DerivesPrefix table h s' ts r' → ⊥

    opposed_sound : (g h : Grammar) (s s' : Syntax) (ts r r' : Stream) → opposed g h ≡ true → sound g ≡ true → sound h ≡ true → Parts s ⊎ Parts s' → DerivesPrefix table g s ts r → DerivesPrefix table h s' ts r' → ⊥
    opposed_sound (such a g & k) (such b h & l) (Both (Such s) t) (Both (Such s') t') ts r r' e w v (inl p) x y =
        let q = p.2.0 g (and_left (sound g) _ w) ts x.0 s' y.0 x.1.1 (subst (λ z. DerivesPrefix table z s' ts y.0) (sym (same_eq g h (and_right (opposite a b) _ e))) y.1.1) in
        opposite_sound a b s (and_left (opposite a b) _ e) x.1.0 (ap (holds b) q.0 ∙ y.1.0)
    opposed_sound (such a g & k) (such b h & l) (Both (Such s) t) (Both (Such s') t') ts r r' e w v (inr p) x y =
        let q = p.2.0 h (and_left (sound h) _ v) ts y.0 s x.0 y.1.1 (subst (λ z. DerivesPrefix table z s ts x.0) (same_eq g h (and_right (opposite a b) _ e)) x.1.1) in
        opposite_sound a b s (and_left (opposite a b) _ e) x.1.0 (ap (holds b) (sym q.0) ∙ y.1.0)
    opposed_sound (such a g & k) (such b h & l) (Both (Such s) t) (Both _ t') ts r r' e w v p x y = elim y.1 [ ]
    opposed_sound (such a g & k) (such b h & l) (Both (Such s) t) _ ts r r' e w v p x y = elim y [ ]
    opposed_sound (such a g & k) (such b h & l) (Both _ t) s' ts r r' e w v p x y = elim x.1 [ ]
    opposed_sound (such a g & k) (such b h & l) _ s' ts r r' e w v p x y = elim x [ ]
    opposed_sound _ _ s s' ts r r' e w v p x y = true≢false (sym e)

    shared_sound : (n : ℕ) → Apart n → (g h : Grammar) (s s' : Syntax) (ts r r' : Stream) → shared g h ≡ true → apart n (rest g) (rest h) ≡ true →
        sound g ≡ true → sound h ≡ true → Parts s ⊎ Parts s' → DerivesPrefix table g s ts r → DerivesPrefix table h s' ts r' → ⊥
    shared_sound n ih (a & k) (b & l) (Both s t) (Both s' t') ts r r' e f w v p x y =
        ih k l t t' x.0 r r' f (and_right (sound a) _ w) (and_right (sound b) _ v) (parts p) x.2 (subst (λ z. DerivesPrefix table l t' z r') (sym (go p (or_split (same a b) _ e))) y.2)
      where
        parts : Parts (Both s t) ⊎ Parts (Both s' t') → Parts t ⊎ Parts t'
        parts (inl p) = inl p.3
        parts (inr p) = inr p.3

        go : Parts (Both s t) ⊎ Parts (Both s' t') → (same a b ≡ true) ⊎ (and (single a) (single b) ≡ true) → x.0 ≡ y.0
        go (inl p) (inl e) = (p.0 a (and_left (sound a) _ w) ts x.0 s' y.0 x.1 (subst (λ z. DerivesPrefix table z s' ts y.0) (sym (same_eq a b e)) y.1)).1
        go (inr p) (inl e) = sym (p.0 b (and_left (sound b) _ v) ts y.0 s x.0 y.1 (subst (λ z. DerivesPrefix table z s ts x.0) (same_eq a b e) x.1)).1
        go p (inr e) = single_tail table said a s ts x.0 (and_left (single a) _ e) x.1 ∙ sym (single_tail table said b s' ts y.0 (and_right (single a) _ e) y.1)
    shared_sound n ih (a & k) (b & l) (Both s t) _ ts r r' e f w v p x y = elim y [ ]
    shared_sound n ih (a & k) (b & l) _ s' ts r r' e f w v p x y = elim x [ ]
    shared_sound n ih _ _ s s' ts r r' e f w v p x y = true≢false (sym e)

    trailed_sound : (n : ℕ) → Apart n → (g h : Grammar) (s s' : Syntax) (ts r r' : Stream) → trailed g h ≡ true → apart n (first g) (first h) ≡ true →
        sound g ≡ true → sound h ≡ true → Parts s ⊎ Parts s' → DerivesPrefix table g s ts r → DerivesPrefix table h s' ts r' → ⊥
    trailed_sound n ih (a & rule j) (b & rule k) (Both s t) (Both s' t') ts r r' e f w v p x y = ih a b s s' ts x.0 y.0 f (and_left (sound a) _ w) (and_left (sound b) _ v) (parts p) x.1 y.1
      where
        parts : Parts (Both s t) ⊎ Parts (Both s' t') → Parts s ⊎ Parts s'
        parts (inl p) = inl p.2
        parts (inr p) = inr p.2
    trailed_sound n ih (a & rule j) (b & rule k) (Both s t) _ ts r r' e f w v p x y = elim y [ ]
    trailed_sound n ih (a & rule j) (b & rule k) _ s' ts r r' e f w v p x y = elim x [ ]
    trailed_sound n ih _ _ s s' ts r r' e f w v p x y = true≢false (sym e)

    cut_sound : (n : ℕ) → Apart n → (g h : Grammar) (s s' : Syntax) (ts r r' : Stream) → or (shared g h) (trailed g h) ≡ true → apart n (part_of (shared g h) g) (part_of (shared g h) h) ≡ true →
        sound g ≡ true → sound h ≡ true → Parts s ⊎ Parts s' → DerivesPrefix table g s ts r → DerivesPrefix table h s' ts r' → ⊥
    cut_sound n ih g h s s' ts r r' e f w v p x y = go (shared g h) refl e f
      where
        go : (b : Bool) → shared g h ≡ b → or b (trailed g h) ≡ true → apart n (part_of b g) (part_of b h) ≡ true → ⊥
        go true q e f = shared_sound n ih g h s s' ts r r' q f w v p x y
        go false q e f = trailed_sound n ih g h s s' ts r r' e f w v p x y

    -- one side of a form that turns
    abbrev Sided : Grammar → Syntax → Stream → Stream → Type 0
    Sided g s ts r = (v : Bool) × (s' : Syntax) × (present (turn_of g) ts ≡ v) × DerivesPrefix table (on_side v g) s' ts r × (Parts s → Parts s') × (sound (on_side v g) ≡ true)

    sided : (g : Grammar) (s : Syntax) (ts r : Stream) → turns g ≡ true → sound g ≡ true → DerivesPrefix table g s ts r → Sided g s ts r
    sided (when c then a else b) (Left s) ts r e w x = (true, s, x.0, x.1, λ q. q.1, and_left (sound a) _ w)
    sided (when c then a else b) (Right s) ts r e w x = (false, s, x.0, x.1, λ q. q.1, and_right (sound a) _ w)
    sided ((when c then a else b) & k) (Both (Left s) t) ts r e w (m, x, y) = (true, Both s t, x.0, (m, x.1, y), λ q. (q.2.0, q.1, q.2.1, q.3), ap₂ and (and_left (sound a) _ (and_left (and (sound a) (sound b)) _ w)) (and_right (and (sound a) (sound b)) _ w))
    sided ((when c then a else b) & k) (Both (Right s) t) ts r e w (m, x, y) = (false, Both s t, x.0, (m, x.1, y), λ q. (q.2.0, q.1, q.2.1, q.3), ap₂ and (and_right (sound a) _ (and_left (and (sound a) (sound b)) _ w)) (and_right (and (sound a) (sound b)) _ w))
    sided (generics_before x y h) (Impl (Left l) s) ts r e w (m, (v, a), b) = (true, Both l s, v, (m, a, b), λ q. (q.2.0, q.1, q.2.1, q.3), side_sound (sound (ordered x y)) (sound h) w)
      where
        side_sound : (a b : Bool) → and (and a true) b ≡ true → and a b ≡ true
        side_sound true b e = e
        side_sound false b e = e
    sided (generics_before x y h) (Impl (Right Nothing) s) ts r e w (m, (v, a), b) = (false, s, v, subst (λ z. DerivesPrefix table h s z r) (sym a) b, λ q. q.3, and_right (and (sound (ordered x y)) true) _ w)
    sided (generics_before x y h & k) (Both (Impl (Left l) s) t) ts r e w (i, (m, (v, a), b), c) =
        (true, Both l (Both s t), v, (m, a, (i, b, c)), λ q. (q.2.2.0, step_both s t q.2.1 q.1 q.3, q.2.2.1, (q.2.1, q.1, q.2.3, q.3)), side_sound (sound (ordered x y)) (sound h) (sound k) w)
      where
        side_sound : (a b c : Bool) → and (and (and a true) b) c ≡ true → and a (and b c) ≡ true
        side_sound true true c e = e
        side_sound true false c e = e
        side_sound false b c e = e
    sided (generics_before x y h & k) (Both (Impl (Right Nothing) s) t) ts r e w (i, (m, (v, a), b), c) =
        (false, Both s t, v, (i, subst (λ z. DerivesPrefix table h s z i) (sym a) b, c), λ q. (q.2.1, q.1, q.2.3, q.3), side_sound (sound (ordered x y)) (sound h) (sound k) w)
      where
        side_sound : (a b c : Bool) → and (and (and a true) b) c ≡ true → and b c ≡ true
        side_sound true b c e = e
        side_sound false b c e = absurd (true≢false (sym e))
    sided (generics_before x y h) (Impl (Right _) s) ts r e w (m, (v, a), b) = elim a [ ]
    sided (generics_before x y h) (Impl _ s) ts r e w (m, a, b) = elim a [ ]
    sided (generics_before x y h) _ ts r e w x' = elim x' [ ]
    sided (generics_before x y h & k) (Both (Impl (Right _) s) t) ts r e w (i, (m, (v, a), b), c) = elim a [ ]
    sided (generics_before x y h & k) (Both (Impl _ s) t) ts r e w (i, (m, a, b), c) = elim a [ ]
    sided (generics_before x y h & k) (Both _ t) ts r e w (i, a, c) = elim a [ ]
    sided (generics_before x y h & k) _ ts r e w x' = elim x' [ ]
    sided (when c then a else b) _ ts r e w x = elim x [ ]
    sided ((when c then a else b) & k) (Both _ t) ts r e w x = elim x.1 [ ]
    sided ((when c then a else b) & k) _ ts r e w x = elim x [ ]
    sided _ s ts r e w x = absurd (true≢false (sym e))

    turned_sound : (n : ℕ) → Apart n → (g h : Grammar) (s s' : Syntax) (ts r r' : Stream) → turned g h ≡ true → and (apart n (on_side true g) (on_side true h)) (apart n (on_side false g) (on_side false h)) ≡ true →
        sound g ≡ true → sound h ≡ true → Parts s ⊎ Parts s' → DerivesPrefix table g s ts r → DerivesPrefix table h s' ts r' → ⊥
    turned_sound n ih g h s s' ts r r' e f w v p x y = go (sided g s ts r (and_left (turns g) _ both) w x) (sided h s' ts r' (and_right (turns g) _ both) v y)
      where
        both : and (turns g) (turns h) ≡ true
        both = and_left (and (turns g) (turns h)) _ e

        same_turn : present (turn_of g) ts ≡ present (turn_of h) ts
        same_turn = ap (λ z. present z ts) (same_look_eq (turn_of g) (turn_of h) (and_right (and (turns g) (turns h)) _ e))

        go : Sided g s ts r → Sided h s' ts r' → ⊥
        go (true, a, q, x', i, u) (true, b, q', y', i', u') = ih (on_side true g) (on_side true h) a b ts r r' (and_left (apart n (on_side true g) (on_side true h)) _ f) u u' (on_right i' (on_left i p)) x' y'
        go (false, a, q, x', i, u) (false, b, q', y', i', u') = ih (on_side false g) (on_side false h) a b ts r r' (and_right (apart n (on_side true g) (on_side true h)) _ f) u u' (on_right i' (on_left i p)) x' y'
        go (true, a, q, x', i, u) (false, b, q', y', i', u') = true≢false (sym q ∙ same_turn ∙ q')
        go (false, a, q, x', i, u) (true, b, q', y', i', u') = true≢false (sym q' ∙ sym same_turn ∙ q)

    apart_sound : (n : ℕ) → Apart n
    apart_sound zero g h s s' ts r r' e w v p x y = true≢false (sym e)
    apart_sound (suc n) g h s s' ts r r' e w v p x y = go (or (opposed g h) (disjoint g h)) refl e (apart_sound n)
      where
        reported : (opposed g h ≡ true) ⊎ (disjoint g h ≡ true) → ⊥
        reported (inl q) = opposed_sound g h s s' ts r r' q w v p x y
        reported (inr q) = disjoint_sound g h s s' ts r r' q x y

        go3 : Apart n → (b : Bool) → some_form (open_form g) ≡ b → elim b [
          | true ↦ all_forms (λ x. apart n x h) (open_form g)
          | false ↦
              and (some_form (open_form h)) (all_forms (λ x. apart n g x) (open_form h))
        ] ≡ true → ⊥
        go3 ih true f e =
            let o = opened (λ x. apart n x h) g s ts r x f e w in
            ih o.0 h o.1 s' ts r r' o.2 o.5 v (on_left o.4 p) o.3 y
        go3 ih false f e =
            let o = opened (λ x. apart n g x) h s' ts r' y (and_left (some_form (open_form h)) _ e) (and_right (some_form (open_form h)) _ e) v in
            ih g o.0 s o.1 ts r r' o.2 w o.5 (on_right o.4 p) x o.3

        go4 : Apart n → (b : Bool) → turned g h ≡ b → elim b [
          | true ↦ and (apart n (on_side true g) (on_side true h)) (apart n (on_side false g) (on_side false h))
          | false ↦
              elim (some_form (open_form g)) [
                | true ↦ all_forms (λ x. apart n x h) (open_form g)
                | false ↦
                    and (some_form (open_form h)) (all_forms (λ x. apart n g x) (open_form h))
              ]
        ] ≡ true → ⊥
        go4 ih true f e = turned_sound n ih g h s s' ts r r' f e w v p x y
        go4 ih false f e = go3 ih (some_form (open_form g)) refl e

        go2 : Apart n → (b : Bool) → or (shared g h) (trailed g h) ≡ b → elim b [
          | true ↦ apart n (part_of (shared g h) g) (part_of (shared g h) h)
          | false ↦
              elim (turned g h) [
                | true ↦ and (apart n (on_side true g) (on_side true h)) (apart n (on_side false g) (on_side false h))
                | false ↦
                    elim (some_form (open_form g)) [
                      | true ↦ all_forms (λ x. apart n x h) (open_form g)
                      | false ↦
                          and (some_form (open_form h)) (all_forms (λ x. apart n g x) (open_form h))
                    ]
              ]
        ] ≡ true → ⊥
        go2 ih true f e = cut_sound n ih g h s s' ts r r' f e w v p x y
        go2 ih false f e = go4 ih (turned g h) refl e

        go : (b : Bool) → or (opposed g h) (disjoint g h) ≡ b → elim b [
          | true ↦ true
          | false ↦ elim (or (shared g h) (trailed g h)) [
            | true ↦ apart n (part_of (shared g h) g) (part_of (shared g h) h)
            | false ↦
                elim (turned g h) [
                  | true ↦ and (apart n (on_side true g) (on_side true h)) (apart n (on_side false g) (on_side false h))
                  | false ↦
                      elim (some_form (open_form g)) [
                        | true ↦ all_forms (λ x. apart n x h) (open_form g)
                        | false ↦
                            and (some_form (open_form h)) (all_forms (λ x. apart n g x) (open_form h))
                      ]
                ]
          ]
        ] ≡ true → Apart n → ⊥
        go true f e ih = reported (or_split (opposed g h) (disjoint g h) f)
        go false f e ih = go2 ih (or (shared g h) (trailed g h)) refl e

    step_left : (s : Syntax) → Unique s → Parts s → Unique (Left s)
    step_left s u p (when c then g else h) w ts r (Left s') r' a b =
        let q = u g (and_left (sound g) _ w) ts r s' r' a.1 b.1 in (ap Left q.0, q.1)
    step_left s u p (when c then g else h) w ts r (Right s') r' a b = absurd (true≢false (sym a.0 ∙ b.0))
    step_left s u p (either g h) w ts r (Left s') r' a b =
        let q = u g (and_left (sound g) _ (and_right (apart steps g h) _ w)) ts r s' r' a b in (ap Left q.0, q.1)
    step_left s u p (either g h) w ts r (Right s') r' a b =
        let v = and_right (apart steps g h) _ w in
        absurd (apart_sound steps g h s s' ts r r' (and_left (apart steps g h) _ w) (and_left (sound g) _ v) (and_right (sound g) _ v) (inl p) a b)
    step_left s u p (when c then g else h) w ts r _ r' a b = elim b [ ]
    step_left s u p (either g h) w ts r _ r' a b = elim b [ ]
    step_left s u p _ w ts r s' r' a b = elim a [ ]

    step_right : (s : Syntax) → Unique s → Parts s → Unique (Right s)
    step_right s u p (when c then g else h) w ts r (Right s') r' a b =
        let q = u h (and_right (sound g) _ w) ts r s' r' a.1 b.1 in (ap Right q.0, q.1)
    step_right s u p (when c then g else h) w ts r (Left s') r' a b = absurd (true≢false (sym b.0 ∙ a.0))
    step_right s u p (either g h) w ts r (Right s') r' a b =
        let q = u h (and_right (sound g) _ (and_right (apart steps g h) _ w)) ts r s' r' a b in (ap Right q.0, q.1)
    step_right s u p (either g h) w ts r (Left s') r' a b =
        let v = and_right (apart steps g h) _ w in
        absurd (apart_sound steps g h s' s ts r' r (and_left (apart steps g h) _ w) (and_left (sound g) _ v) (and_right (sound g) _ v) (inr p) b a)
    step_right s u p (when c then g else h) w ts r _ r' a b = elim b [ ]
    step_right s u p (either g h) w ts r _ r' a b = elim b [ ]
    step_right s u p _ w ts r s' r' a b = elim a [ ]

    step_node : (s : Syntax) → Unique s → Unique (Node s)
    step_node s u (rule k) w ts r (Node s') r' a b = let q = u (table k) (sounds k) ts r s' r' a b in (ap Node q.0, q.1)
    step_node s u (rule k) w ts r _ r' a b = elim b [ ]
    step_node s u _ w ts r s' r' a b = elim a [ ]

    step_vanishing : (f : Bool) (s : Syntax) → Unique s → Unique (Vanishing f s)
    step_vanishing f s u (vanishing f' c g) w ts r (Vanishing f'' s') r' a b =
        let q = u (when c then g else empty) (ap₂ and w refl) ts r s' r' a.1 b.1 in (ap₂ Vanishing (sym a.0 ∙ b.0) q.0, q.1)
    step_vanishing f s u (vanishing f' c g) w ts r _ r' a b = elim b [ ]
    step_vanishing f s u _ w ts r s' r' a b = elim a [ ]

    step_group : (d : Delimiter) (o c : Span) (s : Syntax) → Unique s → Unique (Group d o c s)
    step_group d o c s u (inside n g) w ts r (Group d' o' c' s') r' (e, i, f, a) (e', i', f', a') =
        let p = sym f ∙ f' in
        let pd : d ≡ d' = cc (p) in
        let po : o ≡ o' = cc (p) in
        let pc : c ≡ c' = cc (p) in
        let pi : i ≡ i' = cc (p) in
        let pr : r ≡ r' = cc (p) in
        let q = u g w i end s' end a (subst (λ z. DerivesPrefix table g s' z end) (sym pi) a') in
        (ap₂ (λ x y. Group x y c s) pd po ∙ ap₂ (λ x y. Group d' o' x y) pc q.0, pr)
    step_group d o c s u (inside n g) w ts r _ r' a b = elim b [ ]
    step_group d o c s u _ w ts r s' r' a b = elim a [ ]

    step_raw : (d : Delimiter) (o c : Span) (i : Stream) → Unique (Raw d o c i)
    step_raw d o c i (raw n) w ts r (Raw d' o' c' i') r' (e, f) (e', f') =
        let p = sym f ∙ f' in
        let pd : d ≡ d' = cc (p) in
        let po : o ≡ o' = cc (p) in
        let pc : c ≡ c' = cc (p) in
        let pi : i ≡ i' = cc (p) in
        let pr : r ≡ r' = cc (p) in
        (ap₂ (λ x y. Raw x y c i) pd po ∙ ap₂ (λ x y. Raw d' o' x y) pc pi, pr)
    step_raw d o c i (raw n) w ts r _ r' a b = elim b [ ]
    step_raw d o c i _ w ts r s' r' a b = elim a [ ]

    step_token : (x : Leaf) (sp : Span) → Unique (Token x sp)
    step_token x sp (token f k) w ts r (Token y sp') r' a b =
        let p = sym a.1 ∙ b.1 in
        let px : x ≡ y = cc (p) in
        let ps : sp ≡ sp' = cc (p) in
        (ap₂ Token px ps, cc (p))
    step_token x sp (token f k) w ts r _ r' a b = elim b [ ]
    step_token x sp _ w ts r s' r' a b = elim a [ ]

    step_mark : (xs : List (ℕ × Span)) → Unique (Mark xs)
    step_mark xs (mark j cs) w ts r (Mark ys) r' a b = let q = spelled_same xs ys ts r r' (a.0 ∙ sym b.0) a.1 b.1 in (ap Mark q.0, q.1)
    step_mark xs (mark j cs) w ts r _ r' a b = elim b [ ]
    step_mark xs _ w ts r s' r' a b = elim a [ ]

    step_lifetime : (sp : Span) (x : Text) (sq : Span) → Unique (Lifetime sp x sq)
    step_lifetime sp x sq lifetime w ts r (Lifetime sp' x' sq') r' a b =
        let p = sym a ∙ b in
        let e : sp ≡ sp' = cc (p) in
        let f : ident x ≡ ident x' = cc (p) in
        let f' : x ≡ x' = cc (f) in
        let g : sq ≡ sq' = cc (p) in
        (ap₂ (λ u v. Lifetime u v sq) e f' ∙ ap (Lifetime sp' x') g, cc (p))
    step_lifetime sp x sq lifetime w ts r _ r' a b = elim b [ ]
    step_lifetime sp x sq _ w ts r s' r' a b = elim a [ ]

    step_nothing : Unique Nothing
    step_nothing empty w ts r Nothing r' a b = (refl, sym a ∙ b)
    step_nothing empty w ts r _ r' a b = elim b [ ]
    step_nothing _ w ts r s' r' a b = elim a [ ]

    step_unshown : (s : Syntax) → Unique (Unshown s)
    step_unshown s unshown w ts r (Unshown s') r' a b = (ap Unshown (a.0 ∙ sym b.0), sym a.1 ∙ b.1)
    step_unshown s unshown w ts r _ r' a b = elim b [ ]
    step_unshown s _ w ts r s' r' a b = elim a [ ]

    step_rest : (xs : List (ℕ × Span)) (i : Stream) → Unique (Rest xs i)
    step_rest xs i (rest_after cs) w ts r (Rest ys i') r' a b =
        let q = spelled_same xs ys ts i i' (a.0 ∙ sym b.0) a.1 b.1 in
        (ap₂ Rest q.0 q.1, a.3 ∙ sym b.3)
    step_rest xs i (rest_after cs) w ts r _ r' a b = elim b [ ]
    step_rest xs i _ w ts r s' r' a b = elim a [ ]

    -- two of the rules are one, or apart in one order
    abbrev Two : Rule → Rule → Type 0
    Two k l = (k ≡ l) ⊎ ((apart steps (table k) (table l) ≡ true) ⊎ (apart steps (table l) (table k) ≡ true))

    two : (ks : List Rule) (k l : Rule) → among k ks ≡ true → among l ks ≡ true → each_apart ks ≡ true → Two k l
    two [] k l a b e = absurd (true≢false (sym a))
    two (n ∷ ks) k l a b e = go (or_split (same_rule k n) (among k ks) a) (or_split (same_rule l n) (among l ks) b) (two ks k l)
      where
        each : all_rules (λ z. apart steps (table n) (table z)) ks ≡ true
        each = and_left (all_rules (λ z. apart steps (table n) (table z)) ks) _ e

        go : (same_rule k n ≡ true) ⊎ (among k ks ≡ true) → (same_rule l n ≡ true) ⊎ (among l ks ≡ true) → (among k ks ≡ true → among l ks ≡ true → each_apart ks ≡ true → Two k l) → Two k l
        go (inl p) (inl q) ih = inl (same_rule_eq k n p ∙ sym (same_rule_eq l n q))
        go (inl p) (inr q) ih = inr (inl (ap (λ z. apart steps (table z) (table l)) (same_rule_eq k n p) ∙ all_rules_at (λ z. apart steps (table n) (table z)) ks l q each))
        go (inr p) (inl q) ih = inr (inr (ap (λ z. apart steps (table z) (table k)) (same_rule_eq l n q) ∙ all_rules_at (λ z. apart steps (table n) (table z)) ks k p each))
        go (inr p) (inr q) ih = ih p q (and_right (all_rules (λ z. apart steps (table n) (table z)) ks) _ e)

    step_case : (k : Rule) (s : Syntax) → Unique s → Parts s → Unique (Case k s)
    step_case k s u p (one_of ks) w ts r (Case l s') r' a b = go (two ks k l a.0 b.0 w)
      where
        go : Two k l → (Case k s ≡ Case l s') × (r ≡ r')
        go (inl e) = let q = u (table k) (sounds k) ts r s' r' a.1 (subst (λ z. DerivesPrefix table (table z) s' ts r') (sym e) b.1) in (ap₂ Case e q.0, q.1)
        go (inr (inl e)) = absurd (apart_sound steps (table k) (table l) s s' ts r r' e (sounds k) (sounds l) (inl p) a.1 b.1)
        go (inr (inr e)) = absurd (apart_sound steps (table l) (table k) s' s ts r' r e (sounds l) (sounds k) (inr p) b.1 a.1)
    step_case k s u p (one_of ks) w ts r _ r' a b = elim b [ ]
    step_case k s u p _ w ts r s' r' a b = elim a [ ]

    step_captured : (s : Syntax) (i : Stream) → Unique s → Unique (Captured s i)
    step_captured s i u (captured g) w ts r (Captured s' i') r' a b =
        let q = u g w ts r s' r' a.1 b.1 in
        (ap₂ Captured q.0 (same_before i i' r (sym a.0 ∙ b.0 ∙ ap (λ z. i' ⧺ z) (sym q.1))), q.1)
    step_captured s i u (captured g) w ts r _ r' a b = elim b [ ]
    step_captured s i u _ w ts r s' r' a b = elim a [ ]

    step_such : (s : Syntax) → Unique s → Unique (Such s)
    step_such s u (such t g) w ts r (Such s') r' a b = let q = u g w ts r s' r' a.1 b.1 in (ap Such q.0, q.1)
    step_such s u (such t g) w ts r _ r' a b = elim b [ ]
    step_such s u _ w ts r s' r' a b = elim a [ ]

    step_shaped : (i : Shape) (s : Syntax) → Unique s → Unique (Shaped i s)
    step_shaped i s u (shaped j g) w ts r (Shaped i' s') r' a b = let q = u g w ts r s' r' a.1 b.1 in (ap₂ Shaped (sym a.0 ∙ b.0) q.0, q.1)
    step_shaped i s u (shaped j g) w ts r _ r' a b = elim b [ ]
    step_shaped i s u _ w ts r s' r' a b = elim a [ ]

    -- two of a row are read alike
    row_same : (g h : Grammar) (k k' : Bool) (s s' : Syntax) (ts r r' : Stream) → sound (row g h) ≡ true → Unique s → Parts s → DerivesPrefix table (choose k g h) s ts r → DerivesPrefix table (choose k' g h) s' ts r' → (k ≡ k') × (s ≡ s') × (r ≡ r')
    row_same g h true true s s' ts r r' w u p a b = let q = u g (and_left (sound g) _ (and_right (apart steps g h) _ w)) ts r s' r' a b in (refl, q.0, q.1)
    row_same g h false false s s' ts r r' w u p a b = let q = u h (and_right (sound g) _ (and_right (apart steps g h) _ w)) ts r s' r' a b in (refl, q.0, q.1)
    row_same g h true false s s' ts r r' w u p a b =
        let v = and_right (apart steps g h) _ w in
        absurd (apart_sound steps g h s s' ts r r' (and_left (apart steps g h) _ w) (and_left (sound g) _ v) (and_right (sound g) _ v) (inl p) a b)
    row_same g h false true s s' ts r r' w u p a b =
        let v = and_right (apart steps g h) _ w in
        absurd (apart_sound steps g h s' s ts r' r (and_left (apart steps g h) _ w) (and_left (sound g) _ v) (and_right (sound g) _ v) (inr p) b a)

    step_done : Unique Done
    step_done (row g h) w ts r Done r' a b = (refl, sym a.1 ∙ b.1)
    step_done (row g h) w ts r (Last k s) r' a b = absurd (true≢false (sym a.0 ∙ b.0))
    step_done (row g h) w ts r (More k s sp t) r' a b = absurd (true≢false (sym a.0 ∙ b.0))
    step_done (row g h) w ts r _ r' a b = elim b [ ]
    step_done _ w ts r s' r' a b = elim a [ ]

    step_last : (k : Bool) (s : Syntax) → Unique s → Parts s → Unique (Last k s)
    step_last k s u p (row g h) w ts r Done r' a b = absurd (true≢false (sym b.0 ∙ a.0))
    step_last k s u p (row g h) w ts r (Last k' s') r' a b =
        let q = row_same g h k k' s s' ts r r' w u p a.1 b.1 in
        (ap₂ Last q.0 q.1, q.2)
    step_last k s u p (row g h) w ts r (More k' s' sp t) r' a b =
        let q = row_same g h k k' s s' ts r b.1 w u p a.1 b.2 in
        absurd (true≢false (sym (comma_lookahead b.4.0 sp b.1 b.3 b.4.1) ∙ ap (present at_row_comma) (sym q.2) ∙ a.2))
    step_last k s u p (row g h) w ts r _ r' a b = elim b [ ]
    step_last k s u p _ w ts r s' r' a b = elim a [ ]

    step_more : (k : Bool) (s : Syntax) (sp : Span) (t : Syntax) → Unique s → Parts s → Unique t → Unique (More k s sp t)
    step_more k s sp t u p v (row g h) w ts r Done r' a b = absurd (true≢false (sym b.0 ∙ a.0))
    step_more k s sp t u p v (row g h) w ts r (Last k' s') r' a b =
        let q = row_same g h k k' s s' ts a.1 r' w u p a.2 b.1 in
        absurd (true≢false (sym (comma_lookahead a.4.0 sp a.1 a.3 a.4.1) ∙ ap (present at_row_comma) q.2 ∙ b.2))
    step_more k s sp t u p v (row g h) w ts r (More k' s' sp' t') r' a b =
        let q = row_same g h k k' s s' ts a.1 b.1 w u p a.2 b.2 in
        let d = sym a.4.1 ∙ (q.2 ∙ b.4.1) in
        let ds : sp ≡ sp' = cc (d) in
        let dm : a.3 ≡ b.3 = cc (d) in
        let z = v (row g h) w a.3 r t' r' a.5 (subst (λ x. DerivesPrefix table (row g h) t' x r') (sym dm) b.5) in
        (ap₂ (λ x y. More x y sp t) q.0 q.1 ∙ ap₂ (λ x y. More k' s' x y) ds z.0, z.1)
    step_more k s sp t u p v (row g h) w ts r _ r' a b = elim b [ ]
    step_more k s sp t u p v _ w ts r s' r' a b = elim a [ ]

    step_order : (xs : List (ℕ × Span)) (l : Syntax) (ys : List (ℕ × Span)) → Unique l → Unique (Order xs l ys)
    step_order xs l ys u (ordered g h) w ts r (Order xs' l' ys') r' (m, e, d, n, a, f, k) (m', e', d', n', a', f', k') =
        let p = spelled_same xs xs' ts m m' (e ∙ sym e') d d' in
        let q = u (row g h) w m n l' n' a (subst (λ z. DerivesPrefix table (row g h) l' z n') (sym p.1) a') in
        let z = spelled_same ys ys' n r r' (f ∙ sym f') k (subst (λ x. Spelled ys' x r') (sym q.1) k') in
        (ap₂ (λ x y. Order x y ys) p.0 q.0 ∙ ap (Order xs' l') z.0, z.1)
    step_order xs l ys u (ordered g h) w ts r _ r' a b = elim b [ ]
    step_order xs l ys u _ w ts r s' r' a b = elim a [ ]

    added_unread : (g : Grammar) (cs : Text) (ts r : Stream) → DerivesPrefix table g (Added cs) ts r → ⊥
    added_unread empty cs ts r a = elim a [ ]
    added_unread _ cs ts r a = elim a [ ]

    unique_all : (s : Syntax) → Unique s × Parts s
    unique_all Nothing = (step_nothing, tt)
    unique_all (Token x sp) = (step_token x sp, tt)
    unique_all (Mark xs) = (step_mark xs, tt)
    unique_all (Lifetime sp x sq) = (step_lifetime sp x sq, tt)
    unique_all (Both s t) = let p = unique_all s in let q = unique_all t in (step_both s t p.0 q.0 q.1, (p.0, q.0, p.1, q.1))
    unique_all (Left s) = let p = unique_all s in (step_left s p.0 p.1, p)
    unique_all (Right s) = let p = unique_all s in (step_right s p.0 p.1, p)
    unique_all (Node s) = let p = unique_all s in (step_node s p.0, p)
    unique_all (Vanishing b s) = let p = unique_all s in (step_vanishing b s p.0, p)
    unique_all (Group d o c s) = let p = unique_all s in (step_group d o c s p.0, p)
    unique_all (Raw d o c i) = (step_raw d o c i, tt)
    unique_all (Such s) = let p = unique_all s in (step_such s p.0, p)
    unique_all (Shaped j s) = let p = unique_all s in (step_shaped j s p.0, p)
    unique_all Done = (step_done, tt)
    unique_all (Rest xs i) = (step_rest xs i, tt)
    unique_all (Case k s) = let p = unique_all s in (step_case k s p.0 p.1, p)
    unique_all (Captured s i) = let p = unique_all s in (step_captured s i p.0, p)
    unique_all (Unshown s) = (step_unshown s, tt)
    unique_all (Impl s t) = let p = unique_all s in let q = unique_all t in (step_impl s t p.0 q.0, (p.0, q.0, p.1, q.1))
    unique_all (Added cs) = (λ g w ts r s' r' a b. elim (added_unread g cs ts r a) [ ], tt)
    unique_all (Last k s) = let p = unique_all s in (step_last k s p.0 p.1, p)
    unique_all (More k s sp t) = let p = unique_all s in let q = unique_all t in (step_more k s sp t p.0 p.1 q.0, p)
    unique_all (Order xs l ys) = let p = unique_all l in (step_order xs l ys p.0, tt)

    -- of every tree at once
    pub unique : (g : Grammar) → sound g ≡ true → (ts : Stream) (s : Syntax) (r : Stream) (s' : Syntax) (r' : Stream) → DerivesPrefix table g s ts r → DerivesPrefix table g s' ts r' → (s ≡ s') × (r ≡ r')
    unique g w ts s r s' r' a b = (unique_all s).0 g w ts r s' r' a b
