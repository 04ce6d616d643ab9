-- The computed reading agrees with the grammar.
use Rattle.std.proofs.Common.{◌≡◌, ℕ, zero, suc, Bool, true, false, Some, None, refl, sym, ap, ap₂, ◌∙◌, subst, true≢false, ◌⊎◌, inl, inr}
use Rattle.std.specs.Prelude.{List, [], ◌∷◌, ◌↔◌}
use Rattle.std.proofs.lemmas.Bool.{eq-eqb}
use Rattle.syn_grammar.specs.Words.{colon, comma, less, greater}
use Rattle.syn_grammar.specs.Tokens.{Span, Brace, Stream, end, punct, group, and, or, no, pick, visible, Terminal, Punctuation, char_terminal, starts_mark, present, lookahead, at_generics}
use Rattle.syn_grammar.specs.Rules.{Rule}
use Rattle.syn_grammar.specs.RuleNumbers.{place, same_rule}
use Rattle.syn_grammar.specs.Grammar.{Test, trailing_brace, no_trailing_brace, has, has_no, one_where, has_part, no_where, at_most_one_where, vacant, ends_brace, unshown, supplied, Unshown, at_unnamed, underscore, holds, Grammar, empty, token, mark, lifetime, ◌&◌, when◌then◌else◌, vanishing, inside, raw, rest_after, either, one_of, rule, such, captured, row, ordered, choose, among, Syntax, Nothing, Token, Mark, Lifetime, Both, Left, Right, Node, Vanishing, Group, Raw, Rest, Case, Such, Captured, Done, Last, More, Order, chars, Spelled, DerivesPrefix, at_row_end, at_row_comma, Shaped, shaped, Impl, generics_before, opt_generics}
use Rattle.syn_grammar.specs.Table.{table}
use Rattle.syn_grammar.specs.Promises.{Refused}
use Rattle.syn_grammar.specs.Take.{Out, Parser, only, is_end, sees, take_mark, take_group}
use Rattle.syn_grammar.specs.Values.{shape}
use Rattle.syn_grammar.specs.Run.{wrap, and_then, branch, vanish, close, within, raw_of, marks_of, rest_of, first_of, union, unwrapped, named, first_rule, such_as, caught, name_supplied, supplied_at, supplied_to, named_or_not, last, more, span_of, row_comma, row_after, row_member, row_from, rows_for, rows, close_row, row_closed, row_opened, runs, run, parse_rule, value_of, generics, and_impl}
use Rattle.syn_grammar.proofs.Sets.{and_left, and_right, or_split}
use Rattle.syn_grammar.proofs.Shapes.{sum_shape, ends_sum, is_shaped}
use Rattle.syn_grammar.proofs.RuleLemmas.{same_rule_eq}
use Rattle.syn_grammar.proofs.Extend.{carried}
use Rattle.syn_grammar.proofs.Visible.{read_seen}
use Rattle.syn_grammar.proofs.Apart.{sound, apart, steps}
use Rattle.syn_grammar.proofs.Unique.{unique}
use Rattle.syn_grammar.proofs.Said.{start_of, starts_hold, never_follow_hold, unions_hold}
use Rattle.syn_grammar.proofs.Takes.{TreeAndRest, sees_present, end_is, end_found, tree_is, token_known, token_found, lifetime_known, lifetime_found, mark_known, mark_found, group_taken, group_takes, before_is, span_known, span_found}
use Rattle.syn_grammar.proofs.Run.{inv_wrap, inv_then, inv_vanish, inv_within, inv_raw, inv_rest, inv_first, inv_rule, inv_such, inv_caught, inv_supplied, inv_row, Stepped, inv_ordered, parse_rule_is, row_is, inv_impl}

-- ---- tests see what is kept
vacant_value : (s : Syntax) → vacant (value_of s) ≡ vacant s
vacant_value (Both s t) = ap₂ and (vacant_value s) (vacant_value t)
vacant_value (Left s) = vacant_value s
vacant_value (Right s) = vacant_value s
vacant_value (Node s) = vacant_value s
vacant_value (Case k s) = vacant_value s
vacant_value (Such s) = vacant_value s
vacant_value (Shaped j s) = ap (λ p. p.0) (sum_shape ends_sum j (value_of s)) ∙ vacant_value s
vacant_value _ = refl

ends_value : (s : Syntax) → ends_brace (value_of s) ≡ ends_brace s
ends_value (Both s t) = ap (λ b. pick b (ends_brace (value_of s)) (ends_brace (value_of t))) (vacant_value t) ∙ ap₂ (pick (vacant t)) (ends_value s) (ends_value t)
ends_value (Left s) = ends_value s
ends_value (Right s) = ends_value s
ends_value (Node s) = ends_value s
ends_value (Case k s) = ends_value s
ends_value (Such s) = ends_value s
ends_value (Shaped j s) = ap (λ p. p.1) (sum_shape ends_sum j (value_of s)) ∙ ends_value s
ends_value (Group Brace o c s) = refl
ends_value (Group _ o c s) = refl
ends_value _ = refl

has_value : (k : Rule) (s : Syntax) → has_part k (value_of s) ≡ has_part k s
has_value k (Both s t) = ap₂ or (has_value k s) (has_value k t)
has_value k (Left s) = has_value k s
has_value k (Right s) = has_value k s
has_value k (Node s) = has_value k s
has_value k (Group d o c s) = has_value k s
has_value k (Case l s) = ap (or (same_rule k l)) (has_value k s)
has_value k (Such s) = has_value k s
has_value k (Shaped j s) = ap (has_part k) (is_shaped j (value_of s)).2
has_value k _ = refl

pub no_where_value : (s : Syntax) → no_where (value_of s) ≡ no_where s
no_where_value (Both s t) = ap₂ and (no_where_value s) (no_where_value t)
no_where_value (Left s) = no_where_value s
no_where_value (Right s) = no_where_value s
no_where_value (Node s) = no_where_value s
no_where_value (Vanishing true s) = refl
no_where_value (Vanishing false s) = no_where_value s
no_where_value (Case k s) = no_where_value s
no_where_value (Such s) = no_where_value s
no_where_value (Shaped j s) = ap no_where (is_shaped j (value_of s)).2
no_where_value _ = refl

one_where_value : (s : Syntax) → at_most_one_where (value_of s) ≡ at_most_one_where s
one_where_value (Both s t) = ap₂ or (ap₂ and (no_where_value s) (one_where_value t)) (ap₂ and (one_where_value s) (no_where_value t))
one_where_value (Left s) = one_where_value s
one_where_value (Right s) = one_where_value s
one_where_value (Node s) = one_where_value s
one_where_value (Vanishing true s) = refl
one_where_value (Vanishing false s) = one_where_value s
one_where_value (Case k s) = one_where_value s
one_where_value (Such s) = one_where_value s
one_where_value (Shaped j s) = ap at_most_one_where (is_shaped j (value_of s)).2
one_where_value _ = refl

pub holds_value : (q : Test) (s : Syntax) → holds q (value_of s) ≡ holds q s
holds_value trailing_brace s = ends_value s
holds_value no_trailing_brace s = ap no (ends_value s)
holds_value (has k) s = has_value k s
holds_value (has_no k) s = ap no (has_value k s)
holds_value one_where s = one_where_value s

-- ---- what a form is computed to read, it reads
-- some tree is read, and this is its value
abbrev pub Reported : Grammar → Stream → TreeAndRest → Type 0
Reported g ts x = (t : Syntax) × DerivesPrefix table g t ts x.1 × (value_of t ≡ x.0)

abbrev pub Settles : Parser → Grammar → Type 0
Settles p g = (ts : Stream) (x : TreeAndRest) → p ts ≡ Some x → Reported g ts x

comma_is : (m r : Stream) (s : Syntax) (xs : List (ℕ × Span)) → s ≡ Mark xs → chars xs ≡ comma → Spelled xs m r → Spelled ((44, span_of s) ∷ []) m r
comma_is m r s [] q e h = elim h [ ]
comma_is m r s (x ∷ []) q e h =
    let a : x.0 ≡ 44 = cc e in
    let b : span_of s ≡ x.1 = ap span_of q in
    (h.0, h.1 ∙ ap₂ (λ n p. punct n h.0 p r) a (sym b))
comma_is m r s (x ∷ y ∷ l) q e h = absurd (cc e)

-- a comma is seen where there is one
comma_seen : (j : Bool) (f : Terminal) → starts_mark comma (char_terminal 44 j f) ≡ true
comma_seen false f = refl
comma_seen true (Punctuation l) = refl
comma_seen true _ = refl

abbrev side : Bool → Syntax → Syntax
side true s = Left s
side false s = Right s

module _ (g h : Grammar) where
  -- one of the two forms, in a row
  abbrev Member : Stream → TreeAndRest → Type 0
  Member ts x = (k : Bool) × (s : Syntax) × DerivesPrefix table (choose k g h) s ts x.1 × (last x.0 ≡ value_of (Last k s)) × ((sp : Span) (u : Syntax) → more x.0 sp (value_of u) ≡ value_of (More k s sp u))

  member_of : (ts r : Stream) (s : Syntax) (t : Syntax) → value_of t ≡ s → DerivesPrefix table (either g h) t ts r → Member ts (s, r)
  member_of ts r s (Left t) e a = (true, t, a, ap last (sym e), λ sp u. ap (λ v. more v sp (value_of u)) (sym e))
  member_of ts r s (Right t) e a = (false, t, a, ap last (sym e), λ sp u. ap (λ v. more v sp (value_of u)) (sym e))
  member_of ts r s _ e a = elim a [ ]

  rows_known : (p : Parser) → Settles p (either g h) → (n : ℕ) → Settles (rows_for n p) (row g h)
  unfolding rows_for
  rows_known p law zero ts x e = absurd (cc e)
  rows_known p law (suc n) ts x e = go (rows_known p law n) (inv_row p (rows_for n p) ts x e)
    where
      after : Settles (rows_for n p) (row g h) → present at_row_end ts ≡ false → (y : TreeAndRest) → Member ts y →
          ((sees at_row_comma y.1 ≡ false) × (x ≡ (last y.0, y.1))) ⊎ ((c z : TreeAndRest) × (take_mark comma y.1 ≡ Some c) × (rows_for n p c.1 ≡ Some z) × (x ≡ (more y.0 (span_of c.0) z.0, z.1))) → Reported (row g h) ts x
      after ih q y (k, s, a, l, m) (inl (f, e)) =
          subst (Reported (row g h) ts) (sym e) (Last k s, (q, a, sym (sees_present at_row_comma y.1) ∙ f), sym l)
      after ih q y (k, s, a, l, m) (inr (c, z, f, i, e)) =
          let d = mark_known comma y.1 c f in
          let sp = comma_is y.1 c.1 c.0 d.0 d.1 d.2 d.3 in
          let b = ih c.1 z i in
          subst (Reported (row g h) ts) (sym e) (More k s (span_of c.0) b.0, (q, y.1, a, c.1, sp, b.1), sym (ap (more y.0 (span_of c.0)) (sym b.2) ∙ m (span_of c.0) b.0))

      go : Settles (rows_for n p) (row g h) → Stepped p (rows_for n p) ts x → Reported (row g h) ts x
      go ih (inl (q, e)) = subst (Reported (row g h) ts) (sym e) (Done, (sym (sees_present at_row_end ts) ∙ q, refl), refl)
      go ih (inr (q, y, k, m)) =
          let t = law ts y k in
          after ih (sym (sees_present at_row_end ts) ∙ q) y (member_of ts y.1 y.0 t.0 t.2 t.1) m

  union_known : (p q : Parser) → Settles p g → Settles q h → Settles (union p q) (either g h)
  union_known p q u w ts x e = go (inv_first (p ts) (q ts) x e)
    where
      go : ((y : TreeAndRest) × (p ts ≡ Some y) × (x ≡ (Left y.0, y.1))) ⊎ ((y : TreeAndRest) × (q ts ≡ Some y) × (x ≡ (Right y.0, y.1))) → Reported (either g h) ts x
      go (inl (y, k, e)) = let t = u ts y k in subst (Reported (either g h) ts) (sym e) (Left t.0, t.1, ap Left t.2)
      go (inr (y, k, e)) = let t = w ts y k in subst (Reported (either g h) ts) (sym e) (Right t.0, t.1, ap Right t.2)

  list_known : (p q : Parser) → Settles p g → Settles q h → (n : ℕ) → Settles (rows_for n (union p q)) (row g h)
  list_known p q u w n = rows_known (union p q) (union_known p q u w) n

rule_known : (k : Rule) (ts r : Stream) (s : Syntax) (t : Syntax) → value_of t ≡ s → DerivesPrefix table (rule k) t ts r → (u : Syntax) × DerivesPrefix table (table k) u ts r × (value_of u ≡ unwrapped s)
rule_known k ts r s (Node t) e a = (t, a, ap unwrapped e)
rule_known k ts r s _ e a = elim a [ ]

ordered_known : (g h : Grammar) (p q : Parser) → Settles p g → Settles q h → (ts : Stream) (x : TreeAndRest) → row_opened (take_mark less ts) (rows (union p q)) ≡ Some x → Reported (ordered g h) ts x
unfolding rows
ordered_known g h p q u w ts x e =
    let z = inv_ordered (take_mark less ts) (rows (union p q)) x e in
    let a = mark_known less ts z.0 z.3 in
    let b = list_known g h p q u w _ z.0.1 z.1 z.4 in
    let c = mark_known greater z.1.1 z.2 z.5 in
    subst (Reported (ordered g h) ts) (sym z.6) (
      Order a.0 b.0 c.0,
      (z.0.1, a.2, a.3, z.1.1, b.1, c.2, c.3),
      ap (λ s. Order (marks_of s) (value_of b.0) c.0) (sym a.1) ∙ ap (λ l. Order (marks_of z.0.0) l c.0) b.2 ∙ ap (λ s. Order (marks_of z.0.0) z.1.0 (marks_of s)) (sym c.1),
    )

runs_known : (P : Rule → Parser) → ((k : Rule) → Settles (P k) (rule k)) → (g : Grammar) → Settles (runs P g) g
unfolding rows
runs_known P law empty ts x e = let a : (Nothing, ts) ≡ x = cc e in subst (Reported empty ts) a (Nothing, refl, refl)
runs_known P law (token b k) ts x e =
    let h = token_known k ts x e in
    (Token h.0 h.1, (h.3, h.4), sym h.2)
runs_known P law (mark b cs) ts x e =
    let h = mark_known cs ts x e in
    (Mark h.0, (h.2, h.3), sym h.1)
runs_known P law lifetime ts x e =
    let h = lifetime_known ts x e in
    (Lifetime h.0 h.1 h.2, h.4, sym h.3)
runs_known P law (g & h) ts x e =
    let z = inv_then (runs P g ts) (runs P h) x e in
    let a = runs_known P law g ts z.0 z.2 in
    let b = runs_known P law h z.0.1 z.1 z.3 in
    subst (Reported (g & h) ts) (sym z.4) (Both a.0 b.0, (z.0.1, a.1, b.1), ap₂ Both a.2 b.2)
runs_known P law (when c then g else h) ts x e = go (sees c ts) refl (runs_known P law g ts) (runs_known P law h ts) e
  where
    go : (b : Bool) → sees c ts ≡ b → ((x : TreeAndRest) → runs P g ts ≡ Some x → Reported g ts x) → ((x : TreeAndRest) → runs P h ts ≡ Some x → Reported h ts x) → branch b (runs P g ts) (runs P h ts) ≡ Some x → Reported (when c then g else h) ts x
    go true q u w e = let z = inv_wrap Left (runs P g ts) x e in let t = u z.0 z.1 in subst (Reported (when c then g else h) ts) (sym z.2) (Left t.0, (sym (sees_present c ts) ∙ q, t.1), ap Left t.2)
    go false q u w e = let z = inv_wrap Right (runs P h ts) x e in let t = w z.0 z.1 in subst (Reported (when c then g else h) ts) (sym z.2) (Right t.0, (sym (sees_present c ts) ∙ q, t.1), ap Right t.2)
runs_known P law (vanishing b' c g) ts x e =
    let y = inv_vanish b' _ x e in
    let t = go (sees c ts) refl (runs_known P law g ts) y.0 y.1 in
    subst (Reported (vanishing b' c g) ts) (sym y.2) (Vanishing b' t.0, (refl, t.1), ap (λ s. Vanishing b' (pick b' (Right Nothing) s)) t.2)
  where
    go : (b : Bool) → sees c ts ≡ b → ((x : TreeAndRest) → runs P g ts ≡ Some x → Reported g ts x) → (x : TreeAndRest) → branch b (runs P g ts) (Some (Nothing, ts)) ≡ Some x → Reported (when c then g else empty) ts x
    go true q u x e = let z = inv_wrap Left (runs P g ts) x e in let t = u z.0 z.1 in subst (Reported (when c then g else empty) ts) (sym z.2) (Left t.0, (sym (sees_present c ts) ∙ q, t.1), ap Left t.2)
    go false q u x e = let a : (Right Nothing, ts) ≡ x = cc e in subst (Reported (when c then g else empty) ts) a (Right Nothing, (sym (sees_present c ts) ∙ q, refl), refl)
runs_known P law (inside d g) ts x e =
    let z = inv_within d (take_group d ts) (runs P g) x e in
    let f = group_taken d ts z.0 z.2 in
    let t = runs_known P law g z.0.content z.1 z.3 in
    let n = end_is z.1.1 z.4 in
    subst (Reported (inside d g) ts) (sym z.5) (Group d z.0.opening z.0.closing t.0, (refl, z.0.content, f, subst (DerivesPrefix table g t.0 z.0.content) n t.1), ap (Group d z.0.opening z.0.closing) t.2)
runs_known P law (raw d) ts x e =
    let z = inv_raw d (take_group d ts) x e in
    subst (Reported (raw d) ts) (sym z.2) (Raw d z.0.opening z.0.closing z.0.content, (refl, group_taken d ts z.0 z.1), refl)
runs_known P law (rest_after cs) ts x e =
    let z = inv_rest (take_mark cs ts) x e in
    let h = mark_known cs ts z.0 z.1 in
    subst (Reported (rest_after cs) ts) (sym z.3) (Rest h.0 z.0.1, (h.2, h.3, sym (tree_is z.0.1) ∙ z.2, refl), ap (λ s. Rest (marks_of s) z.0.1) (sym h.1))
runs_known P law (either g h) ts x e = union_known g h (runs P g) (runs P h) (runs_known P law g) (runs_known P law h) ts x e
runs_known P law (one_of ks) ts x e =
    let z = inv_rule P ks ts x e in
    let t = law z.0 ts z.1 z.3 in
    let u = rule_known z.0 ts z.1.1 z.1.0 t.0 t.2 t.1 in
    subst (Reported (one_of ks) ts) (sym z.4) (Case z.0 u.0, (z.2, u.1), ap (Case z.0) u.2)
runs_known P law (rule k) ts x e = law k ts x e
runs_known P law (such q g) ts x e =
    let z = inv_such q (runs P g ts) x e in
    let t = runs_known P law g ts z.0 z.1 in
    subst (Reported (such q g) ts) (sym z.3) (Such t.0, (sym (holds_value q t.0) ∙ ap (holds q) t.2 ∙ z.2, t.1), ap Such t.2)
runs_known P law (shaped j g) ts x e =
    let z = inv_wrap (shape j) (runs P g ts) x e in
    let t = runs_known P law g ts z.0 z.1 in
    subst (Reported (shaped j g) ts) (sym z.2) (Shaped j t.0, (refl, t.1), ap (shape j) t.2)
runs_known P law (generics_before f g h) ts x e =
    let l = rows (union (runs P f) (runs P g)) in
    let z = inv_impl (generics l ts) (runs P h) x e in
    let a = go (sees at_generics ts) refl (runs_known P law f) (runs_known P law g) z.0 z.2 in
    let b = runs_known P law h z.0.1 z.1 z.3 in
    subst (Reported (generics_before f g h) ts) (sym z.4) (Impl a.0 b.0, (z.0.1, a.1, b.1), ap₂ Impl a.2 b.2)
  where
    go : (b : Bool) → sees at_generics ts ≡ b → Settles (runs P f) f → Settles (runs P g) g → (x : TreeAndRest) → branch b (row_opened (take_mark less ts) (rows (union (runs P f) (runs P g)))) (Some (Nothing, ts)) ≡ Some x → Reported (opt_generics f g) ts x
    go true q u w x e =
        let z = inv_wrap Left (row_opened (take_mark less ts) (rows (union (runs P f) (runs P g)))) x e in
        let t = ordered_known f g (runs P f) (runs P g) u w ts z.0 z.1 in
        subst (Reported (opt_generics f g) ts) (sym z.2) (Left t.0, (sym (sees_present at_generics ts) ∙ q, t.1), ap Left t.2)
    go false q u w x e = let a : (Right Nothing, ts) ≡ x = cc e in subst (Reported (opt_generics f g) ts) a (Right Nothing, (sym (sees_present at_generics ts) ∙ q, refl), refl)
runs_known P law unshown ts x e = let a : (Unshown Nothing, ts) ≡ x = cc e in subst (Reported unshown ts) a (Unshown Nothing, (refl, refl), refl)
runs_known P law (supplied n p t) ts x e = go (sees (at_unnamed n) ts) refl (runs_known P law p) (runs_known P law t) e
  where
    go : (b : Bool) → sees (at_unnamed n) ts ≡ b → Settles (runs P p) p → Settles (runs P t) t → named_or_not b (runs P p) (runs P t) ts ≡ Some x → Reported (supplied n p t) ts x
    go true q u w e =
        let z = inv_supplied ts (runs P t ts) (runs P p) x e in
        let s = w ts z.0 z.3 in
        let (c, f, k) = carried table t s.0 ts z.0.1 s.1 in
        let d = span_known ts c z.0.1 z.2 f z.4 in
        let a = u (underscore z.2) z.1 z.5 in
        let m = end_is z.1.1 z.6 in
        subst (Reported (supplied n p t) ts) (sym z.7) (
          Both a.0 (Both (Mark ((58, z.2) ∷ [])) s.0),
          inl (sym (sees_present (at_unnamed n) ts) ∙ q, d.0, z.2, d.1, d.2, subst (DerivesPrefix table p a.0 (underscore z.2)) m a.1, refl, s.1),
          ap₂ (λ y r. Both y (Both (Mark ((58, z.2) ∷ [])) r)) a.2 s.2,
        )
    go false q u w e =
        let z = inv_then (runs P p ts) (λ m. and_then (take_mark colon m) (runs P t)) x e in
        let y = inv_then (take_mark colon z.0.1) (runs P t) z.1 z.3 in
        let a = u ts z.0 z.2 in
        let c = mark_known colon z.0.1 y.0 y.2 in
        let b = w y.0.1 y.1 y.3 in
        let f : ◌≡◌ {A = TreeAndRest} x (Both z.0.0 (Both y.0.0 y.1.0), y.1.1) = z.4 ∙ ap (λ r. (Both z.0.0 r.0, r.1)) y.4 in
        subst (Reported (supplied n p t) ts) (sym f) (
          Both a.0 (Both (Mark c.0) b.0),
          inr (sym (sees_present (at_unnamed n) ts) ∙ q, z.0.1, a.1, c.2, y.0.1, c.3, b.1),
          ap₂ Both a.2 (ap₂ Both (sym c.1) b.2),
        )
runs_known P law (captured g) ts x e =
    let z = inv_caught ts (runs P g ts) x e in
    let t = runs_known P law g ts z.0 z.1 in
    let (c, f, k) = carried table g t.0 ts z.0.1 t.1 in
    subst (Reported (captured g) ts) (sym z.2) (Captured t.0 c, (f, t.1), ap (Captured Nothing) (sym (before_is ts c z.0.1 f)))
runs_known P law (row g h) ts x e = list_known g h (runs P g) (runs P h) (runs_known P law g) (runs_known P law h) _ ts x e
runs_known P law (ordered g h) ts x e = ordered_known g h (runs P g) (runs P h) (runs_known P law g) (runs_known P law h) ts x e

run_known : (n : ℕ) (k : Rule) → Settles (run n k) (rule k)
unfolding run
run_known zero k ts x e = absurd (cc e)
run_known (suc n) k ts x e =
    let z = inv_wrap Node (runs (run n) (table k) ts) x e in
    let t = runs_known (run n) (run_known n) (table k) ts z.0 z.1 in
    subst (Reported (rule k) ts) (sym z.2) (Node t.0, t.1, ap Node t.2)

pub parse_rule_known : (k : Rule) → Settles (parse_rule k) (rule k)
unfolding parse_rule
parse_rule_known k ts x e = run_known _ k ts x e

pub reported : (g : Grammar) → Settles (runs parse_rule g) g
reported g = runs_known parse_rule parse_rule_known g

-- ---- and whatever it reads is computed
abbrev Found : Grammar → Syntax → Stream → Stream → Type 0
Found g s ts r = runs parse_rule g ts ≡ Some (value_of s, r)

-- a union's second form is computed where its first isn't read
second_found : (g h : Grammar) (s : Syntax) (ts r : Stream) → sound table start_of (either g h) ≡ true → DerivesPrefix table h s ts r → Found h s ts r → Found (either g h) (Right s) ts r
second_found g h s ts r w a e = go (runs parse_rule g ts) refl
  where
    go : (o : Out) → runs parse_rule g ts ≡ o → first_of o (runs parse_rule h ts) ≡ Some (Right (value_of s), r)
    go None q = ap (wrap Right) e
    go (Some p) q =
        let t = reported g ts p q in
        absurd (cc ((unique table start_of starts_hold never_follow_hold unions_hold (either g h) w ts (Left t.0) p.1 (Right s) r t.1 a).0))

-- of a union of rules the one that reads is found
rule_found : (ks : List Rule) → sound table start_of (one_of ks) ≡ true → (k : Rule) (s : Syntax) (ts r : Stream) → among k ks ≡ true → DerivesPrefix table (table k) s ts r → parse_rule k ts ≡ Some (Node (value_of s), r) →
    (ls : List Rule) → ((l : Rule) → among l ls ≡ true → among l ks ≡ true) → among k ls ≡ true → first_rule parse_rule ls ts ≡ Some (Case k (value_of s), r)
rule_found ks w k s ts r i a e [] u j = absurd (true≢false (sym j))
rule_found ks w k s ts r i a e (l ∷ ls) u j = go (parse_rule l ts) refl (or_split (same_rule k l) (among k ls) j) (rule_found ks w k s ts r i a e ls (λ m h. u m (later m h)))
  where
    later : (m : Rule) → among m ls ≡ true → or (same_rule m l) (among m ls) ≡ true
    later m h = after (same_rule m l)
      where
        after : (b : Bool) → or b (among m ls) ≡ true
        after true = refl
        after false = h

    here : (m : Rule) → same_rule m m ≡ true → among m (m ∷ ls) ≡ true
    here m h = ap (λ b. or b (among m ls)) h

    go : (o : Out) → parse_rule l ts ≡ o → (same_rule k l ≡ true) ⊎ (among k ls ≡ true) → (among k ls ≡ true → first_rule parse_rule ls ts ≡ Some (Case k (value_of s), r)) → named l o (first_rule parse_rule ls ts) ≡ Some (Case k (value_of s), r)
    go None q (inl h) ih = absurd (cc (sym q ∙ ap (λ m. parse_rule m ts) (sym (same_rule_eq k l h)) ∙ e))
    go None q (inr h) ih = ih h
    go (Some p) q h ih =
        let t = parse_rule_known l ts p q in
        let x = rule_known l ts p.1 p.0 t.0 t.2 t.1 in
        let y = unique table start_of starts_hold never_follow_hold unions_hold (one_of ks) w ts (Case l x.0) p.1 (Case k s) r (u l (here l (eq-eqb (place l) (place l) refl)), x.1) (i, a) in
        let n : l ≡ k = cc y.0 in
        let m : x.0 ≡ s = cc y.0 in
        ap₂ (λ c d. Some (Case c d, p.1)) n (sym x.2 ∙ ap value_of m) ∙ ap (λ d. Some (Case k (value_of s), d)) y.1

module _ (g h : Grammar) (w : sound table start_of (row g h) ≡ true) where
  sound_member : (k : Bool) → sound table start_of (choose k g h) ≡ true
  sound_member true = and_left (sound table start_of g) _ (and_right (apart table start_of (steps table start_of) g h) _ w)
  sound_member false = and_right (sound table start_of g) _ (and_right (apart table start_of (steps table start_of) g h) _ w)

  member_found : (k : Bool) (s : Syntax) (ts m : Stream) → DerivesPrefix table (choose k g h) s ts m → Found (choose k g h) s ts m → union (runs parse_rule g) (runs parse_rule h) ts ≡ Some (side k (value_of s), m)
  member_found true s ts m a e = ap (λ o. first_of o (runs parse_rule h ts)) e
  member_found false s ts m a e = second_found g h s ts m w a e

  last_side : (k : Bool) (s : Syntax) → last (side k s) ≡ Last k s
  last_side true s = refl
  last_side false s = refl

  more_side : (k : Bool) (s : Syntax) (sp : Span) (t : Syntax) → more (side k s) sp t ≡ More k s sp t
  more_side true s sp t = refl
  more_side false s sp t = refl

  row_last : (k : Bool) (s : Syntax) (ts r : Stream) → present at_row_end ts ≡ false → DerivesPrefix table (choose k g h) s ts r → present at_row_comma r ≡ false → Found (choose k g h) s ts r → Found (row g h) (Last k s) ts r
  row_last k s ts r n a m e =
      row_is g h ts
      ∙ ap (λ b. row_from b (union (runs parse_rule g) (runs parse_rule h)) (runs parse_rule (row g h)) ts) (sees_present at_row_end ts ∙ n)
      ∙ ap (λ o. row_member o (runs parse_rule (row g h))) (member_found k s ts r a e)
      ∙ ap (λ b. row_after b (side k (value_of s)) r (runs parse_rule (row g h))) (sees_present at_row_comma r ∙ m)
      ∙ ap (λ x. Some (x, r)) (last_side k (value_of s))

  row_more : (k : Bool) (s : Syntax) (sp : Span) (t : Syntax) (ts m m' r : Stream) → present at_row_end ts ≡ false → DerivesPrefix table (choose k g h) s ts m → Spelled ((44, sp) ∷ []) m m' →
      Found (choose k g h) s ts m → Found (row g h) t m' r → Found (row g h) (More k s sp t) ts r
  row_more k s sp t ts m m' r n a c e f =
      row_is g h ts
      ∙ ap (λ b. row_from b (union (runs parse_rule g) (runs parse_rule h)) (runs parse_rule (row g h)) ts) (sees_present at_row_end ts ∙ n)
      ∙ ap (λ o. row_member o (runs parse_rule (row g h))) (member_found k s ts m a e)
      ∙ ap (λ b. row_after b (side k (value_of s)) m (runs parse_rule (row g h))) (sees_present at_row_comma m ∙ ap (present at_row_comma) c.1 ∙ comma_seen c.0 (lookahead m').terminal)
      ∙ ap (λ o. row_comma (side k (value_of s)) o (runs parse_rule (row g h))) (mark_found ((44, sp) ∷ []) comma m m' refl c)
      ∙ ap (wrap (more (side k (value_of s)) sp)) f
      ∙ ap (λ x. Some (x, r)) (more_side k (value_of s) sp (value_of t))

pub found : (g : Grammar) (s : Syntax) (ts r : Stream) → sound table start_of g ≡ true → DerivesPrefix table g s ts r → runs parse_rule g ts ≡ Some (value_of s, r)
found empty Nothing ts r w a = ap (λ t. Some (Nothing, t)) a
found (token b k) (Token x sp) ts r w a = token_found k x sp ts r a.0 a.1
found (mark b cs) (Mark xs) ts r w a = mark_found xs cs ts r a.0 a.1
found lifetime (Lifetime sp x sq) ts r w a = lifetime_found sp x sq ts r a
found (g & h) (Both s t) ts r w (m, a, b) =
    ap (λ o. and_then o (runs parse_rule h)) (found g s ts m (and_left (sound table start_of g) _ w) a)
    ∙ ap (wrap (Both (value_of s))) (found h t m r (and_right (sound table start_of g) _ w) b)
found (when c then g else h) (Left s) ts r w a =
    ap (λ b. branch b (runs parse_rule g ts) (runs parse_rule h ts)) (sees_present c ts ∙ a.0) ∙ ap (wrap Left) (found g s ts r (and_left (sound table start_of g) _ w) a.1)
found (when c then g else h) (Right s) ts r w a =
    ap (λ b. branch b (runs parse_rule g ts) (runs parse_rule h ts)) (sees_present c ts ∙ a.0) ∙ ap (wrap Right) (found h s ts r (and_right (sound table start_of g) _ w) a.1)
found (vanishing b c g) (Vanishing b' s) ts r w a =
    ap (vanish b) (found (when c then g else empty) s ts r (with_true (sound table start_of g) w) a.1) ∙ ap (λ d. Some (Vanishing d (pick d (Right Nothing) (value_of s)), r)) a.0
  where
    with_true : (b : Bool) → b ≡ true → and b true ≡ true
    with_true true e = refl
    with_true false e = e
found (inside d g) (Group d' o c s) ts r w (e, i, f, a) =
    let f' : ts ≡ group d o c i r = f ∙ ap (λ z. group z o c i r) (sym e) in
    ap (λ z. within d z (runs parse_rule g)) (group_takes d o c i ts r f')
    ∙ ap (close d (record { opening = o; closing = c; content = i; rest = r })) (found g s i end w a)
    ∙ ap (λ b. only b (Some (Group d o c (value_of s), r))) end_found
    ∙ ap (λ z. Some (Group z o c (value_of s), r)) e
found (raw d) (Raw d' o c i) ts r w (e, f) =
    ap (raw_of d) (group_takes d o c i ts r (f ∙ ap (λ z. group z o c i r) (sym e))) ∙ ap (λ z. Some (Raw z o c i, r)) e
found (rest_after cs) (Rest xs i) ts r w (e, h, n, f) =
    ap rest_of (mark_found xs cs ts i e h)
    ∙ ap (λ b. only b (Some (Rest xs i, end))) (tree_is i ∙ n)
    ∙ ap (λ z. Some (Rest xs i, z)) (sym f)
found (either g h) (Left s) ts r w a =
    ap (λ o. first_of o (runs parse_rule h ts)) (found g s ts r (and_left (sound table start_of g) _ (and_right (apart table start_of (steps table start_of) g h) _ w)) a)
found (either g h) (Right s) ts r w a =
    second_found g h s ts r w a (found h s ts r (and_right (sound table start_of g) _ (and_right (apart table start_of (steps table start_of) g h) _ w)) a)
found (one_of ks) (Case k s) ts r w (i, a) =
    rule_found ks w k s ts r i a (parse_rule_is k ts ∙ ap (wrap Node) (found (table k) s ts r (unions_hold k) a)) ks (λ l h. h) i
found (rule k) (Node s) ts r w a = parse_rule_is k ts ∙ ap (wrap Node) (found (table k) s ts r (unions_hold k) a)
found (such q g) (Such s) ts r w a = ap (such_as q) (found g s ts r w a.1) ∙ ap (λ b. only b (Some (Such (value_of s), r))) (holds_value q s ∙ a.0)
found (shaped j g) (Shaped i s) ts r w (e, a) = ap (wrap (shape j)) (found g s ts r w a) ∙ ap (λ k. Some (shape k (value_of s), r)) e
found (generics_before f g h) (Impl l s) ts r w (m, a, b) =
    ap (λ o. and_impl o (runs parse_rule h)) (found (opt_generics f g) l ts m (and_left (sound table start_of (opt_generics f g)) _ w) a)
    ∙ ap (wrap (Impl (value_of l))) (found h s m r (and_right (sound table start_of (opt_generics f g)) _ w) b)
found unshown (Unshown s) ts r w (e, f) = ap₂ (λ a t. Some (Unshown a, t)) (sym (ap value_of e)) f
found (supplied n p t) (Both a (Both (Mark xs) s)) ts r w (inl (h, x, sp, c, e, pa, f, q)) =
    ap (λ b. named_or_not b (runs parse_rule p) (runs parse_rule t) ts) (sees_present (at_unnamed n) ts ∙ h)
    ∙ ap (λ o. supplied_to ts o (runs parse_rule p)) (found t s ts r (and_right (sound table start_of p) _ w) q)
    ∙ ap (λ o. supplied_at (value_of s) r o (runs parse_rule p)) (span_found x sp ts c r e)
    ∙ ap (name_supplied (value_of s) r sp) (found p a (underscore sp) end (and_left (sound table start_of p) _ w) pa)
    ∙ ap (λ b. only b (Some (Both (value_of a) (Both (Mark ((58, sp) ∷ [])) (value_of s)), r))) end_found
    ∙ ap (λ l. Some (Both (value_of a) (Both (Mark l) (value_of s)), r)) (sym f)
found (supplied n p t) (Both a (Both (Mark xs) s)) ts r w (inr (h, m, pa, f, m', d, q)) =
    ap (λ b. named_or_not b (runs parse_rule p) (runs parse_rule t) ts) (sees_present (at_unnamed n) ts ∙ h)
    ∙ ap (λ o. and_then o (λ m. and_then (take_mark colon m) (runs parse_rule t))) (found p a ts m (and_left (sound table start_of p) _ w) pa)
    ∙ ap (λ o. wrap (Both (value_of a)) (and_then o (runs parse_rule t))) (mark_found xs colon m m' f d)
    ∙ ap (λ o. wrap (Both (value_of a)) (wrap (Both (Mark xs)) o)) (found t s m' r (and_right (sound table start_of p) _ w) q)
found (captured g) (Captured s i) ts r w a =
    ap (caught ts) (found g s ts r w a.1) ∙ ap (λ c. Some (Captured Nothing c, r)) (before_is ts i r a.0)
found (row g h) Done ts r w (n, e) =
    row_is g h ts
    ∙ ap (λ b. row_from b (union (runs parse_rule g) (runs parse_rule h)) (runs parse_rule (row g h)) ts) (sees_present at_row_end ts ∙ n)
    ∙ ap (λ t. Some (Done, t)) e
found (row g h) (Last k s) ts r w (n, a, m) =
    row_last g h w k s ts r n a m (found (choose k g h) s ts r (sound_member g h w k) a)
found (row g h) (More k s sp t) ts r w (n, m, a, m', c, b) =
    row_more g h w k s sp t ts m m' r n a c (found (choose k g h) s ts m (sound_member g h w k) a)
    (found (row g h) t m' r w b)
found (ordered g h) (Order xs l ys) ts r w (m, e, c, m', a, e', c') =
    ap (λ o. row_opened o (runs parse_rule (row g h))) (mark_found xs less ts m e c)
    ∙ ap (row_closed (Mark xs)) (found (row g h) l m m' w a)
    ∙ ap (close_row (Mark xs) (value_of l)) (mark_found ys greater m' r e' c')
found _ _ ts r w a = elim a [ ]

pub parse_rule_found : (k : Rule) (ts : Stream) (s : Syntax) (r : Stream) → DerivesPrefix table (rule k) s ts r → parse_rule k ts ≡ Some (value_of s, r)
parse_rule_found k ts s r a = found (rule k) s ts r refl a

-- exactly the value of a reading
pub means : (k : Rule) (ts : Stream) (s : Syntax) (r : Stream) → (parse_rule k ts ≡ Some (s, r)) ↔ ((t : Syntax) × DerivesPrefix table (rule k) t ts r × (value_of t ≡ s))
means k ts s r = (λ e. parse_rule_known k ts (s, r) e, λ (t, a, f). parse_rule_found k ts t r a ∙ ap (λ z. Some (z, r)) f)

-- and nothing, exactly where no reading is
pub refused : (k : Rule) (ts : Stream) → parse_rule k ts ≡ None → (s : Syntax) (r : Stream) → DerivesPrefix table (rule k) s ts r → ⊥
refused k ts e s r a = absurd (cc (sym e ∙ parse_rule_found k ts s r a))

-- ---- the rest of a visible stream is visible
pub rest_seen : (g : Grammar) (t : Syntax) (ts r : Stream) → DerivesPrefix table g t ts r → visible ts ≡ true → visible r ≡ true
rest_seen g t ts r a v = (read_seen table g t ts r a v).1

-- ---- the whole of a stream
abbrev pub whole : Out → Out
whole (Some p) = only (is_end p.1) (Some p)
whole None = None

-- it isn't derived where its reading refuses it, or leaves something
pub not_derived : (k : Rule) (ts : Stream) → whole (parse_rule k ts) ≡ None → Refused k ts
not_derived k ts e s a = absurd (cc (sym e ∙ ap whole (parse_rule_found k ts s end a) ∙ ap (λ b. only b (Some (value_of s, end))) end_found))
