-- The first lookahead of what a form reads, and so where a parser may branch on the next token.
use Rattle.std.proofs.Common.{◌≡◌, ℕ, zero, suc, Bool, true, false, [], Some, None, refl, sym, ap, ap₂, ◌∙◌, subst, true≢false, ◌⊎◌, inl, inr}
use Rattle.syn_grammar.specs.Words.{colon, comma, less}
use Rattle.syn_grammar.specs.Tokens.{Stream, and, no, pick, is_name, mem, Look, at_generics}
use Rattle.syn_grammar.specs.Rules.{Rule}
use Rattle.syn_grammar.specs.Grammar.{Nothing, Left, Right, Node, Grammar, empty, token, mark, lifetime, ◌&◌, when◌then◌else◌, vanishing, inside, raw, rest_after, either, one_of, rule, such, captured, unshown, supplied, name, at_unnamed, row, ordered, among, Case, terminals, at_row_comma, shaped, generics_before}
use Rattle.syn_grammar.specs.Table.{table}
use Rattle.syn_grammar.specs.Take.{Out, Parser, lookahead_at, sees, take_mark, take_group}
use Rattle.syn_grammar.specs.Values.{shape}
use Rattle.syn_grammar.specs.Run.{and_then, branch, union, unwrapped, last, more, span_of, rows_for, rows, named_or_not, runs, run, parse_rule, parse_form, generics, row_opened}
use Rattle.syn_grammar.proofs.Sets.{or_left, or_right, and_left, and_right, no_true, mem_left, mem_right, mem_subset, every, every_at, may, must, may_of, must_not_of}
use Rattle.syn_grammar.proofs.FirstSets.{nullable, first_set, mark_first_set, name_terminal, one_first_set, one_nullable, mem_keep, mem_leave, keep}
use Rattle.syn_grammar.proofs.Said.{start_of, starts_hold}
use Rattle.syn_grammar.proofs.Takes.{TreeAndRest, sees_answers, token_begins, mark_begins, lifetime_begins, group_begins}
use Rattle.syn_grammar.proofs.Run.{inv_wrap, inv_then, inv_vanish, inv_within, inv_raw, inv_rest, inv_first, inv_rule, inv_such, inv_caught, inv_row, Stepped, inv_ordered, inv_impl}

-- it begins with one of the form's FIRST set, or reads nothing
abbrev pub Begins : Grammar → Stream → Stream → Type 0
Begins g ts r = (mem (lookahead_at ts).terminal (first_set start_of g) ≡ true) ⊎ ((nullable start_of g ≡ true) × (ts ≡ r))

abbrev Starts : Grammar → Parser → Type 0
Starts g p = (ts : Stream) (x : TreeAndRest) → p ts ≡ Some x → Begins g ts x.1

through : (g : Grammar) (ts m r : Stream) → r ≡ m → Begins g ts m → Begins g ts r
through g ts m r e (inl q) = inl q
through g ts m r e (inr (p, q)) = inr (p, q ∙ sym e)

two : (g h : Grammar) (ts m r : Stream) → Begins g ts m → Begins h m r → Begins (g & h) ts r
two g h ts m r (inl e) q = inl (mem_left (lookahead_at ts).terminal (first_set start_of g) _ e)
two g h ts m r (inr (p, e)) (inl q) = inl (mem_right (lookahead_at ts).terminal (first_set start_of g) _ (subst (λ v. mem (lookahead_at ts).terminal (pick v (first_set start_of h) []) ≡ true) (sym p) (ap (λ z. mem (lookahead_at z).terminal (first_set start_of h)) e ∙ q)))
two g h ts m r (inr (p, e)) (inr (p', e')) = inr (ap₂ and p p', e ∙ e')

on : (c : Look) (g h : Grammar) (ts r : Stream) → sees c ts ≡ true → Begins g ts r → Begins (when c then g else h) ts r
on c g h ts r e (inl q) = inl (mem_left (lookahead_at ts).terminal (keep c (first_set start_of g)) _ (mem_keep (lookahead_at ts) c (first_set start_of g) (sym (sees_answers c ts) ∙ e) q))
on c g h ts r e (inr (p, q)) = inr (or_left (nullable start_of g) (nullable start_of h) p, q)

off : (c : Look) (g h : Grammar) (ts r : Stream) → sees c ts ≡ false → Begins h ts r → Begins (when c then g else h) ts r
off c g h ts r e (inl q) = inl (mem_right (lookahead_at ts).terminal (keep c (first_set start_of g)) _ (mem_leave (lookahead_at ts) c (first_set start_of h) (sym (sees_answers c ts) ∙ e) q))
off c g h ts r e (inr (p, q)) = inr (or_right (nullable start_of g) (nullable start_of h) p, q)

one_side : (g h : Grammar) (p q : Parser) → Starts g p → Starts h q → Starts (either g h) (union p q)
one_side g h p q u v ts x e = go (inv_first (p ts) (q ts) x e)
  where
    go : ((y : TreeAndRest) × (p ts ≡ Some y) × (x ≡ (Left y.0, y.1))) ⊎ ((y : TreeAndRest) × (q ts ≡ Some y) × (x ≡ (Right y.0, y.1))) → Begins (either g h) ts x.1
    go (inl (y, k, e)) = left (u ts y k)
      where
        left : Begins g ts y.1 → Begins (either g h) ts x.1
        left (inl m) = inl (mem_left (lookahead_at ts).terminal (first_set start_of g) _ m)
        left (inr (a, b)) = inr (or_left (nullable start_of g) (nullable start_of h) a, b ∙ sym (ap (λ v. v.1) e))
    go (inr (y, k, e)) = right (v ts y k)
      where
        right : Begins h ts y.1 → Begins (either g h) ts x.1
        right (inl m) = inl (mem_right (lookahead_at ts).terminal (first_set start_of g) _ m)
        right (inr (a, b)) = inr (or_right (nullable start_of g) (nullable start_of h) a, b ∙ sym (ap (λ v. v.1) e))

rows_start : (g h : Grammar) (p : Parser) → Starts (either g h) p → (n : ℕ) → Starts (row g h) (rows_for n p)
unfolding rows_for
rows_start g h p law zero ts x e = absurd (cc e)
rows_start g h p law (suc n) ts x e = go (inv_row p (rows_for n p) ts x e)
  where
    after : (y : TreeAndRest) → Begins (either g h) ts y.1 → ((sees at_row_comma y.1 ≡ false) × (x ≡ (last y.0, y.1))) ⊎ ((c z : TreeAndRest) × (take_mark comma y.1 ≡ Some c) × (rows_for n p c.1 ≡ Some z) × (x ≡ (more y.0 (span_of c.0) z.0, z.1))) → Begins (row g h) ts x.1
    after y (inl m) o = inl (mem_right (lookahead_at ts).terminal (mark_first_set comma) _ m)
    after y (inr (a, b)) (inl (f, e)) = inr (refl, b ∙ sym (ap (λ v. v.1) e))
    after y (inr (a, b)) (inr (c, z, f, i, e)) = inl (mem_left (lookahead_at ts).terminal (mark_first_set comma) _ (ap (λ t. mem (lookahead_at t).terminal (mark_first_set comma)) b ∙ mark_begins comma y.1 c f))

    go : Stepped p (rows_for n p) ts x → Begins (row g h) ts x.1
    go (inl (q, e)) = inr (refl, sym (ap (λ v. v.1) e))
    go (inr (q, y, k, m)) = after y (law ts y k) m

runs_start : (P : Rule → Parser) → ((k : Rule) → Starts (rule k) (P k)) → (g : Grammar) → Starts g (runs P g)
unfolding rows
runs_start P law empty ts x e = let a : x.1 ≡ ts = cc e in inr (refl, sym a)
runs_start P law (token b k) ts x e = inl (token_begins k ts x e)
runs_start P law (mark b cs) ts x e = inl (mark_begins cs ts x e)
runs_start P law lifetime ts x e = inl (lifetime_begins ts x e)
runs_start P law (g & h) ts x e =
    let z = inv_then (runs P g ts) (runs P h) x e in
    through (g & h) ts z.1.1 x.1 (ap (λ v. v.1) z.4) (two g h ts z.0.1 z.1.1 (runs_start P law g ts z.0 z.2) (runs_start P law h z.0.1 z.1 z.3))
runs_start P law (when c then g else h) ts x e = go (sees c ts) refl (runs_start P law g ts) (runs_start P law h ts) e
  where
    go : (b : Bool) → sees c ts ≡ b → ((x : TreeAndRest) → runs P g ts ≡ Some x → Begins g ts x.1) → ((x : TreeAndRest) → runs P h ts ≡ Some x → Begins h ts x.1) → branch b (runs P g ts) (runs P h ts) ≡ Some x → Begins (when c then g else h) ts x.1
    go true q u w e = let z = inv_wrap Left (runs P g ts) x e in through (when c then g else h) ts z.0.1 x.1 (ap (λ v. v.1) z.2) (on c g h ts z.0.1 q (u z.0 z.1))
    go false q u w e = let z = inv_wrap Right (runs P h ts) x e in through (when c then g else h) ts z.0.1 x.1 (ap (λ v. v.1) z.2) (off c g h ts z.0.1 q (w z.0 z.1))
runs_start P law (vanishing b' c g) ts x e =
    let y = inv_vanish b' _ x e in
    through (vanishing b' c g) ts y.0.1 x.1 (ap (λ v. v.1) y.2) (weak (go (sees c ts) refl (runs_start P law g ts) y.0 y.1))
  where
    go : (b : Bool) → sees c ts ≡ b → ((x : TreeAndRest) → runs P g ts ≡ Some x → Begins g ts x.1) → (x : TreeAndRest) → branch b (runs P g ts) (Some (Nothing, ts)) ≡ Some x → Begins (when c then g else empty) ts x.1
    go true q u x e = let z = inv_wrap Left (runs P g ts) x e in through (when c then g else empty) ts z.0.1 x.1 (ap (λ v. v.1) z.2) (on c g empty ts z.0.1 q (u z.0 z.1))
    go false q u x e = let a : x.1 ≡ ts = cc e in inr (or_right (nullable start_of g) true refl, sym a)

    weak : {r : Stream} → Begins (when c then g else empty) ts r → Begins (vanishing b' c g) ts r
    weak (inl q) = inl q
    weak (inr (p, q)) = inr (refl, q)
runs_start P law (inside d g) ts x e = let z = inv_within d (take_group d ts) (runs P g) x e in inl (group_begins d ts z.0 z.2)
runs_start P law (raw d) ts x e = let z = inv_raw d (take_group d ts) x e in inl (group_begins d ts z.0 z.1)
runs_start P law (rest_after cs) ts x e = let z = inv_rest (take_mark cs ts) x e in inl (mark_begins cs ts z.0 z.1)
runs_start P law (either g h) ts x e = one_side g h (runs P g) (runs P h) (runs_start P law g) (runs_start P law h) ts x e
runs_start P law (one_of ks) ts x e = let z = inv_rule P ks ts x e in go z.0 z.1 z.2 z.4 (law z.0 ts z.1 z.3)
  where
    go : (k : Rule) (y : TreeAndRest) → among k ks ≡ true → x ≡ (Case k (unwrapped y.0), y.1) → Begins (rule k) ts y.1 → Begins (one_of ks) ts x.1
    go k y i e (inl q) = inl (one_first_set start_of k ks (lookahead_at ts).terminal i q)
    go k y i e (inr (p, q)) = inr (one_nullable start_of k ks i p, q ∙ sym (ap (λ v. v.1) e))
runs_start P law (rule k) ts x e = law k ts x e
runs_start P law (such q g) ts x e = let z = inv_such q (runs P g ts) x e in through g ts z.0.1 x.1 (ap (λ v. v.1) z.3) (runs_start P law g ts z.0 z.1)
runs_start P law (shaped j g) ts x e = let z = inv_wrap (shape j) (runs P g ts) x e in through g ts z.0.1 x.1 (ap (λ v. v.1) z.2) (runs_start P law g ts z.0 z.1)
runs_start P law (generics_before f g h) ts x e =
    let l = rows (union (runs P f) (runs P g)) in
    let z = inv_impl (generics l ts) (runs P h) x e in
    through (generics_before f g h) ts z.1.1 x.1 (ap (λ v. v.1) z.4) (go (sees at_generics ts) z.0 z.1.1 z.2 (runs_start P law h z.0.1 z.1 z.3))
  where
    there : (m r : Stream) → m ≡ ts → Begins h m r → Begins (generics_before f g h) ts r
    there m r e (inl q) = inl (mem_right (lookahead_at ts).terminal (mark_first_set less) _ (ap (λ u. mem (lookahead_at u).terminal (first_set start_of h)) (sym e) ∙ q))
    there m r e (inr (p, q)) = inr (p, sym e ∙ q)

    go : (b : Bool) (p : TreeAndRest) (r : Stream) → branch b (row_opened (take_mark less ts) (rows (union (runs P f) (runs P g)))) (Some (Nothing, ts)) ≡ Some p → Begins h p.1 r → Begins (generics_before f g h) ts r
    go true p r e i =
        let z = inv_wrap Left (row_opened (take_mark less ts) (rows (union (runs P f) (runs P g)))) p e in
        let y = inv_ordered (take_mark less ts) (rows (union (runs P f) (runs P g))) z.0 z.1 in
        inl (mem_left (lookahead_at ts).terminal (mark_first_set less) _ (mark_begins less ts y.0 y.3))
    go false p r e i = there p.1 r (cc e) i
runs_start P law unshown ts x e = let a : x.1 ≡ ts = cc e in inr (refl, sym a)
runs_start P law (supplied n p t) ts x e = go (sees (at_unnamed n) ts) refl (runs_start P law p ts) e
  where
    second : (y : TreeAndRest) (z : TreeAndRest) → take_mark colon y.1 ≡ Some z → Begins p ts y.1 → Begins (supplied n p t) ts x.1
    second y z f (inl m) = inl (mem_right (lookahead_at ts).terminal (terminals name) _ (mem_left (lookahead_at ts).terminal (first_set start_of p) _ m))
    second y z f (inr (a, b)) = inl (mem_right (lookahead_at ts).terminal (terminals name) _ (mem_right (lookahead_at ts).terminal (first_set start_of p) _ (ap (λ u. mem (lookahead_at u).terminal (mark_first_set colon)) b ∙ mark_begins colon y.1 z f)))

    go : (b : Bool) → sees (at_unnamed n) ts ≡ b → ((x : TreeAndRest) → runs P p ts ≡ Some x → Begins p ts x.1) → named_or_not b (runs P p) (runs P t) ts ≡ Some x → Begins (supplied n p t) ts x.1
    go true q u e = inl (mem_left (lookahead_at ts).terminal (terminals name) _ (name_terminal (lookahead_at ts).terminal (and_left (is_name (lookahead_at ts).terminal) _ (sym (sees_answers (at_unnamed n) ts) ∙ q))))
    go false q u e =
        let z = inv_then (runs P p ts) (λ m. and_then (take_mark colon m) (runs P t)) x e in
        let y = inv_then (take_mark colon z.0.1) (runs P t) z.1 z.3 in
        second z.0 y.0 y.2 (u z.0 z.2)
runs_start P law (captured g) ts x e = let z = inv_caught ts (runs P g ts) x e in through g ts z.0.1 x.1 (ap (λ v. v.1) z.2) (runs_start P law g ts z.0 z.1)
runs_start P law (row g h) ts x e = rows_start g h (union (runs P g) (runs P h)) (one_side g h (runs P g) (runs P h) (runs_start P law g) (runs_start P law h)) _ ts x e
runs_start P law (ordered g h) ts x e = let z = inv_ordered (take_mark less ts) (rows (union (runs P g) (runs P h))) x e in inl (mark_begins less ts z.0 z.3)

run_start : (n : ℕ) (k : Rule) → Starts (rule k) (run n k)
unfolding run
run_start zero k ts x e = absurd (cc e)
run_start (suc n) k ts x e = let z = inv_wrap Node (runs (run n) (table k) ts) x e in go z.0.1 (ap (λ v. v.1) z.2) (runs_start (run n) (run_start n) (table k) ts z.0 z.1)
  where
    go : (m : Stream) → x.1 ≡ m → Begins (table k) ts m → Begins (rule k) ts x.1
    go m e (inl q) = inl (mem_subset (lookahead_at ts).terminal (first_set start_of (table k)) _ (starts_hold k).0 q)
    go m e (inr (p, q)) = inr ((starts_hold k).1 p, q ∙ sym e)

-- a form reads nothing, or the first token is in its FIRST set
pub parse_start : (g : Grammar) → Starts g (parse_form g)
unfolding parse_rule
parse_start g = runs_start parse_rule (λ k ts x e. run_start _ k ts x e) g

-- the form reads something, and only where this is next
abbrev pub only_at : Look → Grammar → Bool
only_at c g = and (no (nullable start_of g)) (every (must c) (first_set start_of g))

-- the form reads something, and never where this is next
abbrev pub never_at : Look → Grammar → Bool
never_at c g = and (no (nullable start_of g)) (every (λ f. no (may c f)) (first_set start_of g))

pub not_there : (c : Look) (g : Grammar) → only_at c g ≡ true → (ts : Stream) → sees c ts ≡ false → parse_form g ts ≡ None
not_there c g w ts h = go (parse_form g ts) refl
  where
    go : (o : Out) → parse_form g ts ≡ o → o ≡ None
    go None e = refl
    go (Some x) e = which (parse_start g ts x e)
      where
        which : Begins g ts x.1 → Some x ≡ None
        which (inl m) = absurd (true≢false (sym (every_at (must c) (lookahead_at ts).terminal (first_set start_of g) (and_right (no (nullable start_of g)) _ w) m) ∙ no_true (must c (lookahead_at ts).terminal) (must_not_of c (lookahead_at ts) (sym (sees_answers c ts) ∙ h))))
        which (inr (p, q)) = absurd (true≢false (sym p ∙ no_true (nullable start_of g) (and_left (no (nullable start_of g)) _ w)))

pub not_here : (c : Look) (g : Grammar) → never_at c g ≡ true → (ts : Stream) → sees c ts ≡ true → parse_form g ts ≡ None
not_here c g w ts h = go (parse_form g ts) refl
  where
    go : (o : Out) → parse_form g ts ≡ o → o ≡ None
    go None e = refl
    go (Some x) e = which (parse_start g ts x e)
      where
        which : Begins g ts x.1 → Some x ≡ None
        which (inl m) = absurd (true≢false (sym (may_of c (lookahead_at ts) (sym (sees_answers c ts) ∙ h)) ∙ no_true (may c (lookahead_at ts).terminal) (every_at (λ f. no (may c f)) (lookahead_at ts).terminal (first_set start_of g) (and_right (no (nullable start_of g)) _ w) m)))
        which (inr (p, q)) = absurd (true≢false (sym p ∙ no_true (nullable start_of g) (and_left (no (nullable start_of g)) _ w)))
