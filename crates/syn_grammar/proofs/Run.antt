-- The computed reading of a rule is that of its form.
use Rattle.std.proofs.Common.{◌≡◌, ℕ, zero, suc, ◌+◌, ◌*◌, ◌<◌, ◌≤◌, Bool, true, false, Option, Some, None, refl, sym, ap, ◌∙◌, true≢false, ◌⊎◌, inl, inr, arith}
use Rattle.std.specs.Prelude.{List, [], ◌∷◌, nat_lt}
use Rattle.std.proofs.lemmas.Bool.{ltb-true, eq-eqb}
use Rattle.syn_grammar.specs.Words.{colon, comma, less, greater}
use Rattle.syn_grammar.specs.Tokens.{Span, Delimiter, Stream, end, and, or, no, pick, at_generics}
use Rattle.syn_grammar.specs.Rules.{Rule}
use Rattle.syn_grammar.specs.RuleNumbers.{place, same_rule}
use Rattle.syn_grammar.specs.Grammar.{Test, holds, Grammar, empty, token, mark, lifetime, ◌&◌, when◌then◌else◌, vanishing, inside, raw, rest_after, either, one_of, rule, such, captured, unshown, supplied, row, ordered, at_unnamed, underscore, among, Mark, Syntax, Nothing, Both, Left, Right, Node, Vanishing, Group, Raw, Rest, Case, Such, Captured, Done, Order, at_row_end, at_row_comma, shaped, Impl, generics_before}
use Rattle.syn_grammar.specs.Table.{table}
use Rattle.syn_grammar.specs.Take.{Out, Parser, left, is_end, sees, take_mark, Opened, take_group, before, first_span}
use Rattle.syn_grammar.specs.Values.{shape}
use Rattle.syn_grammar.specs.Run.{wrap, and_then, branch, vanish, close, within, raw_of, marks_of, rest_of, first_of, union, unwrapped, named, first_rule, such_as, caught, name_supplied, supplied_at, supplied_to, named_or_not, last, more, span_of, row_comma, row_after, row_member, row_from, row_step, rows_for, rows, close_row, row_closed, row_opened, runs, run, parse_rule, generics, and_impl}
use Rattle.syn_grammar.proofs.Sets.{and_left, and_right, or_right}
use Rattle.syn_grammar.proofs.FirstSets.{nullable, some_nullable, one_nullable}
use Rattle.syn_grammar.proofs.Said.{start_of, starts_hold}
use Rattle.syn_grammar.proofs.Low.{all_low, low}
use Rattle.syn_grammar.proofs.Ranks.{rank, ranks_low, lookaheads_low}
use Rattle.syn_grammar.proofs.Takes.{TreeAndRest, inv_only, token_less, lifetime_less, mark_less, group_less, end_least, span_less, span_some}

-- ---- what is inside
pub inv_wrap : (f : Syntax → Syntax) (o : Out) (x : TreeAndRest) → wrap f o ≡ Some x → (p : TreeAndRest) × (o ≡ Some p) × (x ≡ (f p.0, p.1))
inv_wrap f None x e = absurd (cc e)
inv_wrap f (Some p) x e = (p, refl, cc e)

pub inv_then : (o : Out) (q : Parser) (x : TreeAndRest) → and_then o q ≡ Some x → (p y : TreeAndRest) × (o ≡ Some p) × (q p.1 ≡ Some y) × (x ≡ (Both p.0 y.0, y.1))
inv_then None q x e = absurd (cc e)
inv_then (Some p) q x e = let z = inv_wrap (Both p.0) (q p.1) x e in (p, z.0, refl, z.1, z.2)

pub inv_vanish : (b : Bool) (o : Out) (x : TreeAndRest) → vanish b o ≡ Some x → (p : TreeAndRest) × (o ≡ Some p) × (x ≡ (Vanishing b (pick b (Right Nothing) p.0), p.1))
inv_vanish b None x e = absurd (cc e)
inv_vanish b (Some p) x e = (p, refl, cc e)

pub inv_within : (d : Delimiter) (o : Option Opened) (p : Parser) (x : TreeAndRest) → within d o p ≡ Some x →
    (g : Opened) × (y : TreeAndRest) × (o ≡ Some g) × (p g.content ≡ Some y) × (is_end y.1 ≡ true) × (x ≡ (Group d g.opening g.closing y.0, g.rest))
inv_within d None p x e = absurd (cc e)
inv_within d (Some g) p x e = go (p g.content) refl e
  where
    go : (o : Out) → p g.content ≡ o → close d g o ≡ Some x → (g' : Opened) × (y : TreeAndRest) × (Some g ≡ Some g') × (p g'.content ≡ Some y) × (is_end y.1 ≡ true) × (x ≡ (Group d g'.opening g'.closing y.0, g'.rest))
    go None q e = absurd (cc e)
    go (Some y) q e = let h = inv_only (is_end y.1) _ x e in (g, y, refl, q, h.0, cc h.1)

pub inv_raw : (d : Delimiter) (o : Option Opened) (x : TreeAndRest) → raw_of d o ≡ Some x → (g : Opened) × (o ≡ Some g) × (x ≡ (Raw d g.opening g.closing g.content, g.rest))
inv_raw d None x e = absurd (cc e)
inv_raw d (Some g) x e = (g, refl, cc e)

pub inv_rest : (o : Out) (x : TreeAndRest) → rest_of o ≡ Some x → (p : TreeAndRest) × (o ≡ Some p) × (no (is_end p.1) ≡ true) × (x ≡ (Rest (marks_of p.0) p.1, end))
inv_rest None x e = absurd (cc e)
inv_rest (Some p) x e = let h = inv_only (no (is_end p.1)) _ x e in (p, refl, h.0, cc h.1)

pub inv_first : (o q : Out) (x : TreeAndRest) → first_of o q ≡ Some x → ((y : TreeAndRest) × (o ≡ Some y) × (x ≡ (Left y.0, y.1))) ⊎ ((y : TreeAndRest) × (q ≡ Some y) × (x ≡ (Right y.0, y.1)))
inv_first None q x e = let z = inv_wrap Right q x e in inr (z.0, z.1, z.2)
inv_first (Some y) q x e = inl (y, refl, cc e)

pub inv_rule : (P : Rule → Parser) (ks : List Rule) (ts : Stream) (x : TreeAndRest) → first_rule P ks ts ≡ Some x → (k : Rule) × (y : TreeAndRest) × (among k ks ≡ true) × (P k ts ≡ Some y) × (x ≡ (Case k (unwrapped y.0), y.1))
inv_rule P [] ts x e = absurd (cc e)
inv_rule P (l ∷ ks) ts x e = go (P l ts) refl e (inv_rule P ks ts x)
  where
    go : (o : Out) → P l ts ≡ o → named l o (first_rule P ks ts) ≡ Some x → (first_rule P ks ts ≡ Some x → (k : Rule) × (y : TreeAndRest) × (among k ks ≡ true) × (P k ts ≡ Some y) × (x ≡ (Case k (unwrapped y.0), y.1))) →
        (k : Rule) × (y : TreeAndRest) × (or (same_rule k l) (among k ks) ≡ true) × (P k ts ≡ Some y) × (x ≡ (Case k (unwrapped y.0), y.1))
    go None q e ih = let z = ih e in (z.0, z.1, or_right (same_rule z.0 l) (among z.0 ks) z.2, z.3, z.4)
    go (Some y) q e ih = (l, y, ap (λ b. or b (among l ks)) (eq-eqb (place l) (place l) refl), q, cc e)

pub inv_such : (q : Test) (o : Out) (x : TreeAndRest) → such_as q o ≡ Some x → (p : TreeAndRest) × (o ≡ Some p) × (holds q p.0 ≡ true) × (x ≡ (Such p.0, p.1))
inv_such q None x e = absurd (cc e)
inv_such q (Some p) x e = let h = inv_only (holds q p.0) _ x e in (p, refl, h.0, cc h.1)

pub inv_impl : (o : Out) (q : Parser) (x : TreeAndRest) → and_impl o q ≡ Some x → (p y : TreeAndRest) × (o ≡ Some p) × (q p.1 ≡ Some y) × (x ≡ (Impl p.0 y.0, y.1))
inv_impl None q x e = absurd (cc e)
inv_impl (Some p) q x e = let z = inv_wrap (Impl p.0) (q p.1) x e in (p, z.0, refl, z.1, z.2)

pub inv_caught : (ts : Stream) (o : Out) (x : TreeAndRest) → caught ts o ≡ Some x → (p : TreeAndRest) × (o ≡ Some p) × (x ≡ (Captured Nothing (before ts p.1), p.1))
inv_caught ts None x e = absurd (cc e)
inv_caught ts (Some p) x e = (p, refl, cc e)

-- a row is at its end, or its last member is read, or a member, a comma and the others
abbrev pub Stepped : Parser → Parser → Stream → TreeAndRest → Type 0
Stepped p others ts x = ((sees at_row_end ts ≡ true) × (x ≡ (Done, ts)))
    ⊎ ((sees at_row_end ts ≡ false) × (y : TreeAndRest) × (p ts ≡ Some y)
    × (((sees at_row_comma y.1 ≡ false) × (x ≡ (last y.0, y.1)))
    ⊎ ((c z : TreeAndRest) × (take_mark comma y.1 ≡ Some c) × (others c.1 ≡ Some z) × (x ≡ (more y.0 (span_of c.0) z.0, z.1)))))

pub inv_row : (p others : Parser) (ts : Stream) (x : TreeAndRest) → row_step p others ts ≡ Some x → Stepped p others ts x
inv_row p others ts x e = from (sees at_row_end ts) refl e
  where
    Ended : TreeAndRest → Type 0
    Ended y = ((sees at_row_comma y.1 ≡ false) × (x ≡ (last y.0, y.1))) ⊎ ((c z : TreeAndRest) × (take_mark comma y.1 ≡ Some c) × (others c.1 ≡ Some z) × (x ≡ (more y.0 (span_of c.0) z.0, z.1)))

    comma_read : (y : TreeAndRest) (o : Out) → take_mark comma y.1 ≡ o → row_comma y.0 o others ≡ Some x → Ended y
    comma_read y None q e = absurd (cc e)
    comma_read y (Some c) q e = let w = inv_wrap (more y.0 (span_of c.0)) (others c.1) x e in inr (c, w.0, q, w.1, w.2)

    after : (y : TreeAndRest) (b : Bool) → sees at_row_comma y.1 ≡ b → row_after b y.0 y.1 others ≡ Some x → Ended y
    after y true q e = comma_read y (take_mark comma y.1) refl e
    after y false q e = inl (q, cc e)

    member : sees at_row_end ts ≡ false → (o : Out) → p ts ≡ o → row_member o others ≡ Some x → Stepped p others ts x
    member n None q e = absurd (cc e)
    member n (Some y) q e = inr (n, y, q, after y (sees at_row_comma y.1) refl e)

    from : (b : Bool) → sees at_row_end ts ≡ b → row_from b p others ts ≡ Some x → Stepped p others ts x
    from true q e = inl (q, cc e)
    from false q e = member q (p ts) refl e

pub inv_ordered : (o : Out) (l : Parser) (x : TreeAndRest) → row_opened o l ≡ Some x →
    (a b c : TreeAndRest) × (o ≡ Some a) × (l a.1 ≡ Some b) × (take_mark greater b.1 ≡ Some c) × (x ≡ (Order (marks_of a.0) b.0 (marks_of c.0), c.1))
inv_ordered None l x e = absurd (cc e)
inv_ordered (Some a) l x e = closed (l a.1) refl e
  where
    closing : (b : TreeAndRest) → l a.1 ≡ Some b → (o : Out) → take_mark greater b.1 ≡ o → close_row a.0 b.0 o ≡ Some x →
        (a' b c : TreeAndRest) × (Some a ≡ Some a') × (l a'.1 ≡ Some b) × (take_mark greater b.1 ≡ Some c) × (x ≡ (Order (marks_of a'.0) b.0 (marks_of c.0), c.1))
    closing b h None q e = absurd (cc e)
    closing b h (Some c) q e = (a, b, c, refl, h, q, cc e)

    closed : (o : Out) → l a.1 ≡ o → row_closed a.0 o ≡ Some x →
        (a' b c : TreeAndRest) × (Some a ≡ Some a') × (l a'.1 ≡ Some b) × (take_mark greater b.1 ≡ Some c) × (x ≡ (Order (marks_of a'.0) b.0 (marks_of c.0), c.1))
    closed None q e = absurd (cc e)
    closed (Some b) q e = closing b q (take_mark greater b.1) refl e

-- a name was supplied
abbrev pub Supplied : Stream → Out → Parser → TreeAndRest → Type 0
Supplied ts o p x = (y z : TreeAndRest) × (sp : Span) × (o ≡ Some y) × (first_span ts y.1 ≡ Some sp) × (p (underscore sp) ≡ Some z) × (is_end z.1 ≡ true) × (x ≡ (Both z.0 (Both (Mark ((58, sp) ∷ [])) y.0), y.1))

pub inv_supplied : (ts : Stream) (o : Out) (p : Parser) (x : TreeAndRest) → supplied_to ts o p ≡ Some x → Supplied ts o p x
inv_supplied ts None p x e = absurd (cc e)
inv_supplied ts (Some y) p x e = spanned (first_span ts y.1) refl e
  where
    given : (sp : Span) → first_span ts y.1 ≡ Some sp → (o : Out) → p (underscore sp) ≡ o → name_supplied y.0 y.1 sp o ≡ Some x → Supplied ts (Some y) p x
    given sp f None q e = absurd (cc e)
    given sp f (Some z) q e = let h = inv_only (is_end z.1) _ x e in (y, z, sp, refl, f, q, h.0, cc h.1)

    spanned : (o : Option Span) → first_span ts y.1 ≡ o → supplied_at y.0 y.1 o p ≡ Some x → Supplied ts (Some y) p x
    spanned None f e = absurd (cc e)
    spanned (Some sp) f e = given sp f (p (underscore sp)) refl e

-- ---- nothing is read twice
-- no more is left than there was, and less where something must be read (false)
abbrev pub Less : Bool → Stream → Stream → Type 0
Less true ts r = left r ≤ left ts
Less false ts r = left r < left ts

pub weaker : (b : Bool) (ts r : Stream) → Less b ts r → left r ≤ left ts
weaker true ts r h = h
weaker false ts r h = omega (arith, h)

less_then : (a b : Bool) (ts m r : Stream) → Less a ts m → Less b m r → Less (and a b) ts r
less_then true true ts m r h k = omega (arith, h, k)
less_then true false ts m r h k = omega (arith, h, k)
less_then false true ts m r h k = omega (arith, h, k)
less_then false false ts m r h k = omega (arith, h, k)

less_left : (a b : Bool) (ts r : Stream) → Less a ts r → Less (or a b) ts r
less_left true b ts r h = h
less_left false true ts r h = omega (arith, h)
less_left false false ts r h = h

less_right : (a b : Bool) (ts r : Stream) → Less b ts r → Less (or a b) ts r
less_right true b ts r h = weaker b ts r h
less_right false b ts r h = h

said_less : (a b : Bool) (ts r : Stream) → (a ≡ true → b ≡ true) → Less a ts r → Less b ts r
said_less true true ts r h k = k
said_less true false ts r h k = absurd (true≢false (sym (h refl)))
said_less false true ts r h k = omega (arith, k)
said_less false false ts r h k = k

-- a parser leaves no more than there was
abbrev pub Falls : Parser → Type 0
Falls p = (ts : Stream) (x : TreeAndRest) → p ts ≡ Some x → left x.1 ≤ left ts

rows_for_less : (p : Parser) → Falls p → (n : ℕ) → Falls (rows_for n p)
unfolding rows_for
rows_for_less p law zero ts x e = absurd (cc e)
rows_for_less p law (suc n) ts x e = go (rows_for_less p law n) (inv_row p (rows_for n p) ts x e)
  where
    after : Falls (rows_for n p) → (y : TreeAndRest) → left y.1 ≤ left ts → ((sees at_row_comma y.1 ≡ false) × (x ≡ (last y.0, y.1))) ⊎ ((c z : TreeAndRest) × (take_mark comma y.1 ≡ Some c) × (rows_for n p c.1 ≡ Some z) × (x ≡ (more y.0 (span_of c.0) z.0, z.1))) → left x.1 ≤ left ts
    after ih y h (inl (q, e)) = let a : x.1 ≡ y.1 = ap (λ v. v.1) e in rw a h
    after ih y h (inr (c, z, q, k, e)) =
        let a : x.1 ≡ z.1 = ap (λ v. v.1) e in
        rw a (omega (arith, h, mark_less comma y.1 c q, ih c.1 z k))

    go : Falls (rows_for n p) → Stepped p (rows_for n p) ts x → left x.1 ≤ left ts
    go ih (inl (q, e)) = let a : x.1 ≡ ts = ap (λ v. v.1) e in rw a (omega arith)
    go ih (inr (q, y, k, m)) = after ih y (law ts y k) m

pub rows_less : (p : Parser) → Falls p → Falls (rows p)
unfolding rows
rows_less p law ts x e = rows_for_less p law (suc (left ts)) ts x e

union_less : (p q : Parser) → Falls p → Falls q → Falls (union p q)
union_less p q u v ts x e = go (inv_first (p ts) (q ts) x e)
  where
    go : ((y : TreeAndRest) × (p ts ≡ Some y) × (x ≡ (Left y.0, y.1))) ⊎ ((y : TreeAndRest) × (q ts ≡ Some y) × (x ≡ (Right y.0, y.1))) → left x.1 ≤ left ts
    go (inl (y, k, e)) = let a : x.1 ≡ y.1 = ap (λ v. v.1) e in rw a (u ts y k)
    go (inr (y, k, e)) = let a : x.1 ≡ y.1 = ap (λ v. v.1) e in rw a (v ts y k)

generics_less : (l : Parser) → Falls l → Falls (generics l)
generics_less l law ts x e = go (sees at_generics ts) e
  where
    go : (b : Bool) → branch b (row_opened (take_mark less ts) l) (Some (Nothing, ts)) ≡ Some x → left x.1 ≤ left ts
    go true e =
        let z = inv_wrap Left (row_opened (take_mark less ts) l) x e in
        let y = inv_ordered (take_mark less ts) l z.0 z.1 in
        let a : x.1 ≡ y.2.1 = ap (λ v. v.1) z.2 ∙ ap (λ v. v.1) y.6 in
        rw a (omega (arith, mark_less less ts y.0 y.3, law y.0.1 y.1 y.4, mark_less greater y.1.1 y.2 y.5))
    go false e = let a : x.1 ≡ ts = cc e in rw a (omega arith)

onward : (b : Bool) (ts m r : Stream) → left m ≤ left ts → Less b m r → Less b ts r
onward true ts m r h k = omega (arith, h, k)
onward false ts m r h k = omega (arith, h, k)

abbrev pub Shrinks : (Rule → Parser) → Type 0
Shrinks P = (k : Rule) (ts : Stream) (x : TreeAndRest) → P k ts ≡ Some x → Less (start_of k).nullable ts x.1

abbrev Shorter : (Rule → Parser) → Grammar → Stream → Type 0
Shorter P g ts = (x : TreeAndRest) → runs P g ts ≡ Some x → Less (nullable start_of g) ts x.1

pub runs_shrinks : (P : Rule → Parser) → Shrinks P → (g : Grammar) (ts : Stream) (x : TreeAndRest) → runs P g ts ≡ Some x → Less (nullable start_of g) ts x.1
runs_shrinks P law empty ts x e = let a : x.1 ≡ ts = cc e in rw a (omega arith)
runs_shrinks P law (token b k) ts x e = token_less k ts x e
runs_shrinks P law (mark b cs) ts x e = mark_less cs ts x e
runs_shrinks P law lifetime ts x e = lifetime_less ts x e
runs_shrinks P law (g & h) ts x e =
    let z = inv_then (runs P g ts) (runs P h) x e in
    let a : x.1 ≡ z.1.1 = ap (λ v. v.1) z.4 in
    rw a (less_then (nullable start_of g) (nullable start_of h) ts z.0.1 z.1.1 (runs_shrinks P law g ts z.0 z.2) (runs_shrinks P law h z.0.1 z.1 z.3))
runs_shrinks P law (when c then g else h) ts x e = go (sees c ts) (runs_shrinks P law g ts) (runs_shrinks P law h ts) e
  where
    go : (b : Bool) → Shorter P g ts → Shorter P h ts → branch b (runs P g ts) (runs P h ts) ≡ Some x → Less (or (nullable start_of g) (nullable start_of h)) ts x.1
    go true u v e = let z = inv_wrap Left (runs P g ts) x e in let a : x.1 ≡ z.0.1 = ap (λ v. v.1) z.2 in rw a (less_left (nullable start_of g) (nullable start_of h) ts z.0.1 (u z.0 z.1))
    go false u v e = let z = inv_wrap Right (runs P h ts) x e in let a : x.1 ≡ z.0.1 = ap (λ v. v.1) z.2 in rw a (less_right (nullable start_of g) (nullable start_of h) ts z.0.1 (v z.0 z.1))
runs_shrinks P law (vanishing b' c g) ts x e = let y = inv_vanish b' _ x e in let a : x.1 ≡ y.0.1 = ap (λ v. v.1) y.2 in rw a (go (sees c ts) (runs_shrinks P law g ts) y.0 y.1)
  where
    go : (b : Bool) → Shorter P g ts → (x : TreeAndRest) → branch b (runs P g ts) (Some (Nothing, ts)) ≡ Some x → Less true ts x.1
    go true u x e = let z = inv_wrap Left (runs P g ts) x e in let a : x.1 ≡ z.0.1 = ap (λ v. v.1) z.2 in rw a (weaker (nullable start_of g) ts z.0.1 (u z.0 z.1))
    go false u x e = let a : x.1 ≡ ts = cc e in rw a (omega arith)
runs_shrinks P law (inside d g) ts x e =
    let z = inv_within d (take_group d ts) (runs P g) x e in
    let a : x.1 ≡ z.0.rest = ap (λ v. v.1) z.5 in
    rw a (group_less d ts z.0 z.2).0
runs_shrinks P law (raw d) ts x e =
    let z = inv_raw d (take_group d ts) x e in
    let a : x.1 ≡ z.0.rest = ap (λ v. v.1) z.2 in
    rw a (group_less d ts z.0 z.1).0
runs_shrinks P law (rest_after cs) ts x e =
    let z = inv_rest (take_mark cs ts) x e in
    let a : x.1 ≡ end = ap (λ v. v.1) z.3 in
    rw a (omega (arith, end_least z.0.1, mark_less cs ts z.0 z.1))
runs_shrinks P law (either g h) ts x e = go (runs_shrinks P law g ts) (runs_shrinks P law h ts) (inv_first (runs P g ts) (runs P h ts) x e)
  where
    go : Shorter P g ts → Shorter P h ts → ((y : TreeAndRest) × (runs P g ts ≡ Some y) × (x ≡ (Left y.0, y.1))) ⊎ ((y : TreeAndRest) × (runs P h ts ≡ Some y) × (x ≡ (Right y.0, y.1))) → Less (or (nullable start_of g) (nullable start_of h)) ts x.1
    go u v (inl (y, k, e)) = let a : x.1 ≡ y.1 = ap (λ v. v.1) e in rw a (less_left (nullable start_of g) (nullable start_of h) ts y.1 (u y k))
    go u v (inr (y, k, e)) = let a : x.1 ≡ y.1 = ap (λ v. v.1) e in rw a (less_right (nullable start_of g) (nullable start_of h) ts y.1 (v y k))
runs_shrinks P law (one_of ks) ts x e =
    let z = inv_rule P ks ts x e in
    let a : x.1 ≡ z.1.1 = ap (λ v. v.1) z.4 in
    rw a (said_less (start_of z.0).nullable (some_nullable start_of ks) ts z.1.1 (one_nullable start_of z.0 ks z.2) (law z.0 ts z.1 z.3))
runs_shrinks P law (rule k) ts x e = law k ts x e
runs_shrinks P law (such q g) ts x e =
    let z = inv_such q (runs P g ts) x e in
    let a : x.1 ≡ z.0.1 = ap (λ v. v.1) z.3 in
    rw a (runs_shrinks P law g ts z.0 z.1)
runs_shrinks P law (shaped j g) ts x e =
    let z = inv_wrap (shape j) (runs P g ts) x e in
    let a : x.1 ≡ z.0.1 = ap (λ v. v.1) z.2 in
    rw a (runs_shrinks P law g ts z.0 z.1)
runs_shrinks P law (generics_before f g h) ts x e =
    let l = rows (union (runs P f) (runs P g)) in
    let z = inv_impl (generics l ts) (runs P h) x e in
    let a : x.1 ≡ z.1.1 = ap (λ v. v.1) z.4 in
    let b = generics_less l (rows_less (union (runs P f) (runs P g)) (union_less (runs P f) (runs P g) (falls f (runs_shrinks P law f)) (falls g (runs_shrinks P law g)))) ts z.0 z.2 in
    rw a (onward (nullable start_of h) ts z.0.1 z.1.1 b (runs_shrinks P law h z.0.1 z.1 z.3))
  where
    falls : (f : Grammar) → ((ts : Stream) → Shorter P f ts) → Falls (runs P f)
    falls f u ts x e = weaker (nullable start_of f) ts x.1 (u ts x e)
runs_shrinks P law unshown ts x e = let a : x.1 ≡ ts = cc e in rw a (omega arith)
runs_shrinks P law (supplied n p t) ts x e = go (sees (at_unnamed n) ts) (runs_shrinks P law p) (runs_shrinks P law t) e
  where
    go : (b : Bool) → ((us : Stream) → Shorter P p us) → ((us : Stream) → Shorter P t us) → named_or_not b (runs P p) (runs P t) ts ≡ Some x → left x.1 < left ts
    go true u v e =
        let z = inv_supplied ts (runs P t ts) (runs P p) x e in
        let a : x.1 ≡ z.0.1 = ap (λ v. v.1) z.7 in
        rw a (span_less ts z.0.1 z.2 z.4)
    go false u v e =
        let z = inv_then (runs P p ts) (λ m. and_then (take_mark colon m) (runs P t)) x e in
        let y = inv_then (take_mark colon z.0.1) (runs P t) z.1 z.3 in
        let a : x.1 ≡ y.1.1 = ap (λ v. v.1) z.4 ∙ ap (λ v. v.1) y.4 in
        rw a (omega (arith, weaker (nullable start_of p) ts z.0.1 (u ts z.0 z.2), mark_less colon z.0.1 y.0 y.2, weaker (nullable start_of t) y.0.1 y.1.1 (v y.0.1 y.1 y.3)))
runs_shrinks P law (captured g) ts x e =
    let z = inv_caught ts (runs P g ts) x e in
    let a : x.1 ≡ z.0.1 = ap (λ v. v.1) z.2 in
    rw a (runs_shrinks P law g ts z.0 z.1)
runs_shrinks P law (row g h) ts x e = rows_less (union (runs P g) (runs P h)) (union_less (runs P g) (runs P h) (falls g (runs_shrinks P law g)) (falls h (runs_shrinks P law h))) ts x e
  where
    falls : (f : Grammar) → ((ts : Stream) → Shorter P f ts) → Falls (runs P f)
    falls f u ts x e = weaker (nullable start_of f) ts x.1 (u ts x e)
runs_shrinks P law (ordered g h) ts x e =
    let z = inv_ordered (take_mark less ts) (rows (union (runs P g) (runs P h))) x e in
    let a : x.1 ≡ z.2.1 = ap (λ v. v.1) z.6 in
    let b = rows_less (union (runs P g) (runs P h)) (union_less (runs P g) (runs P h) (falls g (runs_shrinks P law g)) (falls h (runs_shrinks P law h))) z.0.1 z.1 z.4 in
    rw a (omega (arith, mark_less less ts z.0 z.3, b, mark_less greater z.1.1 z.2 z.5))
  where
    falls : (f : Grammar) → ((ts : Stream) → Shorter P f ts) → Falls (runs P f)
    falls f u ts x e = weaker (nullable start_of f) ts x.1 (u ts x e)

pub run_shrinks : (n : ℕ) → Shrinks (run n)
unfolding run
run_shrinks zero k ts x e = absurd (cc e)
run_shrinks (suc n) k ts x e =
    let z = inv_wrap Node (runs (run n) (table k) ts) x e in
    let a : x.1 ≡ z.0.1 = ap (λ v. v.1) z.2 in
    rw a (said_less (nullable start_of (table k)) (start_of k).nullable ts z.0.1 (starts_hold k).1 (runs_shrinks (run n) (run_shrinks n) (table k) ts z.0 z.1))

-- ---- one step of a row
-- two rows are the same where their members and the others are
same_step : (p q others others' : Parser) (ts : Stream) → Falls p → p ts ≡ q ts → ((us : Stream) → left us < left ts → others us ≡ others' us) → row_step p others ts ≡ row_step q others' ts
same_step p q others others' ts law e u = from (sees at_row_end ts)
  where
    comma_same : (y : TreeAndRest) → left y.1 ≤ left ts → (o : Out) → take_mark comma y.1 ≡ o → row_comma y.0 o others ≡ row_comma y.0 o others'
    comma_same y h None k = refl
    comma_same y h (Some c) k = ap (wrap (more y.0 (span_of c.0))) (u c.1 (omega (arith, h, mark_less comma y.1 c k)))

    after : (y : TreeAndRest) → left y.1 ≤ left ts → (b : Bool) → row_after b y.0 y.1 others ≡ row_after b y.0 y.1 others'
    after y h true = comma_same y h (take_mark comma y.1) refl
    after y h false = refl

    member : (o : Out) → p ts ≡ o → row_member o others ≡ row_member o others'
    member None k = refl
    member (Some y) k = after y (law ts y k) (sees at_row_comma y.1)

    from : (b : Bool) → row_from b p others ts ≡ row_from b q others' ts
    from true = refl
    from false = member (p ts) refl ∙ ap (λ o. row_member o others') e

same_rows : (p q : Parser) → Falls p → (n m : ℕ) (ts : Stream) → left ts < n → left ts < m → p ts ≡ q ts → ((us : Stream) → left us < left ts → p us ≡ q us) → rows_for n p ts ≡ rows_for m q ts
unfolding rows_for
same_rows p q law zero m ts h k e u = absurd (omega (arith, h))
same_rows p q law (suc n) zero ts h k e u = absurd (omega (arith, k))
same_rows p q law (suc n) (suc m) ts h k e u =
    same_step p q (rows_for n p) (rows_for m q) ts law e
    (λ us l. same_rows p q law n m us (omega (arith, h, l)) (omega (arith, k, l)) (u us l) (λ vs l'. u vs (omega (arith, l, l'))))

-- a row is one member and then a row
pub rows_are : (p : Parser) → Falls p → (ts : Stream) → rows p ts ≡ row_step p (rows p) ts
unfolding rows rows_for
rows_are p law ts =
    same_step p p (rows_for (left ts) p) (rows p) ts law refl
    (λ us l. same_rows p p law (left ts) (suc (left us)) us (omega (arith, l)) (omega arith) refl (λ vs l'. refl))

-- ---- deep enough is deep enough
abbrev Agree : (P Q : Rule → Parser) → ℕ → Type 0
Agree P Q n = (k : Rule) (ts : Stream) → left ts * 256 + rank k < n → P k ts ≡ Q k ts

room_after : (b : Bool) (ts m : Stream) (top n : ℕ) → Less b ts m → top ≤ 256 → left ts * 256 + top ≤ n → left m * 256 + pick b top 256 ≤ n
room_after true ts m top n h t k = omega (arith, h, t, k)
room_after false ts m top n h t k = omega (arith, h, t, k)

top_after : (b : Bool) (top : ℕ) → top ≤ 256 → pick b top 256 ≤ 256
top_after true top h = h
top_after false top h = omega arith

same_rule_runs : (P Q : Rule → Parser) (n : ℕ) → Agree P Q n → (ks : List Rule) (top : ℕ) → all_low start_of rank top ks ≡ true → (ts : Stream) → left ts * 256 + top ≤ n → first_rule P ks ts ≡ first_rule Q ks ts
same_rule_runs P Q n agree [] top w ts h = refl
same_rule_runs P Q n agree (k ∷ ks) top w ts h =
    ap (λ o. named k o (first_rule P ks ts)) (agree k ts (omega (arith, ltb-true (rank k) top (and_left (nat_lt (rank k) top) _ w), h)))
    ∙ ap (named k (Q k ts)) (same_rule_runs P Q n agree ks top (and_right (nat_lt (rank k) top) _ w) ts h)

-- two unions are the same
same_union : (p p' q q' : Parser) (ts : Stream) → p ts ≡ p' ts → q ts ≡ q' ts → union p q ts ≡ union p' q' ts
same_union p p' q q' ts e f = ap (λ o. first_of o (q ts)) e ∙ ap (first_of (p' ts)) f

module _ (P Q : Rule → Parser) (n : ℕ) (law : Shrinks P) (agree : Agree P Q n) where
  abbrev Same : Grammar → ℕ → Type 0
  Same g top = (ts : Stream) → left ts * 256 + top ≤ n → runs P g ts ≡ runs Q g ts

  -- rows of two forms, whose first member has this top
  same_list : (g h : Grammar) (top : ℕ) → top ≤ 256 → Same g top → Same h top → Same g 256 → Same h 256 → (ts : Stream) → left ts * 256 + top ≤ n → rows (union (runs P g) (runs P h)) ts ≡ rows (union (runs Q g) (runs Q h)) ts
  unfolding rows
  same_list g h top t u v u' v' ts l =
      same_rows (union (runs P g) (runs P h)) (union (runs Q g) (runs Q h)) (union_less (runs P g) (runs P h) (falls g) (falls h)) (suc (left ts)) (suc (left ts)) ts (omega arith) (omega arith)
      (same_union (runs P g) (runs Q g) (runs P h) (runs Q h) ts (u ts l) (v ts l))
      (λ us k. same_union (runs P g) (runs Q g) (runs P h) (runs Q h) us (u' us (omega (arith, k, l, t))) (v' us (omega (arith, k, l, t))))
    where
      falls : (f : Grammar) → Falls (runs P f)
      falls f ts x e = weaker (nullable start_of f) ts x.1 (runs_shrinks P law f ts x e)

  same_runs : (g : Grammar) (top : ℕ) → top ≤ 256 → low start_of rank top g ≡ true → (ts : Stream) → left ts * 256 + top ≤ n → runs P g ts ≡ runs Q g ts
  same_runs empty top t w ts l = refl
  same_runs (token b k) top t w ts l = refl
  same_runs (mark b cs) top t w ts l = refl
  same_runs lifetime top t w ts l = refl
  same_runs (g & h) top t w ts l =
      go (runs P g ts) refl (λ p k. same_runs h (pick (nullable start_of g) top 256) (top_after (nullable start_of g) top t) (and_right (low start_of rank top g) _ w) p.1 k)
      ∙ ap (λ o. and_then o (runs Q h)) (same_runs g top t (and_left (low start_of rank top g) _ w) ts l)
    where
      go : (o : Out) → runs P g ts ≡ o → ((p : TreeAndRest) → left p.1 * 256 + pick (nullable start_of g) top 256 ≤ n → runs P h p.1 ≡ runs Q h p.1) → and_then o (runs P h) ≡ and_then o (runs Q h)
      go None e u = refl
      go (Some p) e u = ap (wrap (Both p.0)) (u p (room_after (nullable start_of g) ts p.1 top n (runs_shrinks P law g ts p e) t l))
  same_runs (when c then g else h) top t w ts l =
      ap (λ o. branch (sees c ts) o (runs P h ts)) (same_runs g top t (and_left (low start_of rank top g) _ w) ts l)
      ∙ ap (λ o. branch (sees c ts) (runs Q g ts) o) (same_runs h top t (and_right (low start_of rank top g) _ w) ts l)
  same_runs (vanishing b c g) top t w ts l = ap (λ o. vanish b (branch (sees c ts) o (Some (Nothing, ts)))) (same_runs g top t w ts l)
  same_runs (inside d g) top t w ts l = go (take_group d ts) refl (λ o k. same_runs g 256 (omega arith) w o.content k)
    where
      go : (o : Option Opened) → take_group d ts ≡ o → ((o : Opened) → left o.content * 256 + 256 ≤ n → runs P g o.content ≡ runs Q g o.content) → within d o (runs P g) ≡ within d o (runs Q g)
      go None e u = refl
      go (Some o) e u = ap (close d o) (u o (omega (arith, (group_less d ts o e).1, l)))
  same_runs (raw d) top t w ts l = refl
  same_runs (rest_after cs) top t w ts l = refl
  same_runs (either g h) top t w ts l = same_union (runs P g) (runs Q g) (runs P h) (runs Q h) ts (same_runs g top t (and_left (low start_of rank top g) _ w) ts l) (same_runs h top t (and_right (low start_of rank top g) _ w) ts l)
  same_runs (one_of ks) top t w ts l = same_rule_runs P Q n agree ks top w ts l
  same_runs (rule k) top t w ts l = agree k ts (omega (arith, ltb-true (rank k) top w, l))
  same_runs (such q g) top t w ts l = ap (such_as q) (same_runs g top t w ts l)
  same_runs (shaped j g) top t w ts l = ap (wrap (shape j)) (same_runs g top t w ts l)
  same_runs (generics_before f g h) top t w ts l =
      let a = and_left (and (low start_of rank 256 f) (low start_of rank 256 g)) _ w in
      go (generics lp ts) refl (λ us k. same_runs h top t (and_right (and (low start_of rank 256 f) (low start_of rank 256 g)) _ w) us k)
      ∙ ap (λ o. and_impl o (runs Q h)) (listed (sees at_generics ts) (opened (take_mark less ts) refl (λ us k. same_list f g 256 (omega arith)
      (λ us k. same_runs f 256 (omega arith) (and_left (low start_of rank 256 f) _ a) us k) (λ us k. same_runs g 256 (omega arith) (and_right (low start_of rank 256 f) _ a) us k)
      (λ us k. same_runs f 256 (omega arith) (and_left (low start_of rank 256 f) _ a) us k) (λ us k. same_runs g 256 (omega arith) (and_right (low start_of rank 256 f) _ a) us k) us k)))
    where
      lp : Parser
      lp = rows (union (runs P f) (runs P g))

      lq : Parser
      lq = rows (union (runs Q f) (runs Q g))

      falls : (f : Grammar) → Falls (runs P f)
      falls f ts x e = weaker (nullable start_of f) ts x.1 (runs_shrinks P law f ts x e)

      opened : (o : Out) → take_mark less ts ≡ o → ((us : Stream) → left us * 256 + 256 ≤ n → lp us ≡ lq us) → row_opened o lp ≡ row_opened o lq
      opened None e u = refl
      opened (Some x) e u = ap (row_closed x.0) (u x.1 (omega (arith, mark_less less ts x e, l)))

      listed : (b : Bool) → row_opened (take_mark less ts) lp ≡ row_opened (take_mark less ts) lq → branch b (row_opened (take_mark less ts) lp) (Some (Nothing, ts)) ≡ branch b (row_opened (take_mark less ts) lq) (Some (Nothing, ts))
      listed true e = ap (wrap Left) e
      listed false e = refl

      go : (o : Out) → generics lp ts ≡ o → ((us : Stream) → left us * 256 + top ≤ n → runs P h us ≡ runs Q h us) → and_impl o (runs P h) ≡ and_impl o (runs Q h)
      go None e u = refl
      go (Some p) e u = ap (wrap (Impl p.0)) (u p.1 (omega (arith, generics_less lp (rows_less (union (runs P f) (runs P g)) (union_less (runs P f) (runs P g) (falls f) (falls g))) ts p e, l)))
  same_runs unshown top t w ts l = refl
  same_runs (supplied i p q) top t w ts l =
      let a = and_right (low start_of rank top p) _ w in
      go (sees (at_unnamed i) ts) (λ us k. same_runs p top t (and_left (low start_of rank top p) _ w) us k) (same_runs q top t (and_left (low start_of rank top q) _ a) ts l) (λ us k. same_runs q 256 (omega arith) (and_right (low start_of rank top q) _ a) us k)
    where
      Alike : Stream → Grammar → Type 0
      Alike us g = runs P g us ≡ runs Q g us

      given : (y : TreeAndRest) → ((us : Stream) → left us * 256 + top ≤ n → Alike us p) → (o : Option Span) → first_span ts y.1 ≡ o → supplied_at y.0 y.1 o (runs P p) ≡ supplied_at y.0 y.1 o (runs Q p)
      given y u None f = refl
      given y u (Some sp) f = ap (name_supplied y.0 y.1 sp) (u (underscore sp) (omega (arith, span_some ts y.1 sp sp f, l)))

      one : (o : Out) → ((us : Stream) → left us * 256 + top ≤ n → Alike us p) → supplied_to ts o (runs P p) ≡ supplied_to ts o (runs Q p)
      one None u = refl
      one (Some y) u = given y u (first_span ts y.1) refl

      colons : (y : TreeAndRest) → left y.1 ≤ left ts → (o : Out) → take_mark colon y.1 ≡ o → ((us : Stream) → left us * 256 + 256 ≤ n → Alike us q) → and_then o (runs P q) ≡ and_then o (runs Q q)
      colons y h None e v = refl
      colons y h (Some c) e v = ap (wrap (Both c.0)) (v c.1 (omega (arith, h, mark_less colon y.1 c e, l)))

      two : (o : Out) → runs P p ts ≡ o → ((us : Stream) → left us * 256 + 256 ≤ n → Alike us q) → and_then o (λ m. and_then (take_mark colon m) (runs P q)) ≡ and_then o (λ m. and_then (take_mark colon m) (runs Q q))
      two None e v = refl
      two (Some y) e v = ap (wrap (Both y.0)) (colons y (weaker (nullable start_of p) ts y.1 (runs_shrinks P law p ts y e)) (take_mark colon y.1) refl v)

      go : (b : Bool) → ((us : Stream) → left us * 256 + top ≤ n → Alike us p) → Alike ts q → ((us : Stream) → left us * 256 + 256 ≤ n → Alike us q) → named_or_not b (runs P p) (runs P q) ts ≡ named_or_not b (runs Q p) (runs Q q) ts
      go true u v v' = one (runs P q ts) u ∙ ap (λ o. supplied_to ts o (runs Q p)) v
      go false u v v' = two (runs P p ts) refl v' ∙ ap (λ o. and_then o (λ m. and_then (take_mark colon m) (runs Q q))) (u ts l)
  same_runs (captured g) top t w ts l = ap (caught ts) (same_runs g top t w ts l)
  same_runs (row g h) top t w ts l =
      let a = and_left (and (low start_of rank top g) (low start_of rank top h)) _ w in
      let b = and_right (and (low start_of rank top g) (low start_of rank top h)) _ w in
      same_list g h top t
      (λ us k. same_runs g top t (and_left (low start_of rank top g) _ a) us k) (λ us k. same_runs h top t (and_right (low start_of rank top g) _ a) us k)
      (λ us k. same_runs g 256 (omega arith) (and_left (low start_of rank 256 g) _ b) us k) (λ us k. same_runs h 256 (omega arith) (and_right (low start_of rank 256 g) _ b) us k) ts l
  same_runs (ordered g h) top t w ts l =
      go (take_mark less ts) refl (λ us k. same_list g h 256 (omega arith)
      (λ us k. same_runs g 256 (omega arith) (and_left (low start_of rank 256 g) _ w) us k) (λ us k. same_runs h 256 (omega arith) (and_right (low start_of rank 256 g) _ w) us k)
      (λ us k. same_runs g 256 (omega arith) (and_left (low start_of rank 256 g) _ w) us k) (λ us k. same_runs h 256 (omega arith) (and_right (low start_of rank 256 g) _ w) us k) us k)
    where
      go : (o : Out) → take_mark less ts ≡ o → ((us : Stream) → left us * 256 + 256 ≤ n → rows (union (runs P g) (runs P h)) us ≡ rows (union (runs Q g) (runs Q h)) us) →
          row_opened o (rows (union (runs P g) (runs P h))) ≡ row_opened o (rows (union (runs Q g) (runs Q h)))
      go None e u = refl
      go (Some x) e u = ap (row_closed x.0) (u x.1 (omega (arith, mark_less less ts x e, l)))

stable : (n m j : ℕ) → j ≤ n → j ≤ m → Agree (run n) (run m) j
unfolding run
stable zero m j h h' k ts l = absurd (omega (arith, h, l))
stable (suc n) zero j h h' k ts l = absurd (omega (arith, h', l))
stable (suc n) (suc m) j h h' k ts l =
    ap (wrap Node) (same_runs (run n) (run m) (left ts * 256 + rank k) (run_shrinks n) (stable n m (left ts * 256 + rank k) (omega (arith, h, l)) (omega (arith, h', l)))
    (table k) (rank k) (omega (arith, ltb-true (rank k) 256 (ranks_low k))) (lookaheads_low k) ts (omega arith))

-- what a rule reads is what its form reads
pub parse_rule_is : (k : Rule) (ts : Stream) → parse_rule k ts ≡ wrap Node (runs parse_rule (table k) ts)
unfolding parse_rule run
parse_rule_is k ts = ap (wrap Node) (same_runs (run (left ts * 256 + 255)) parse_rule (left ts * 256 + rank k) (run_shrinks (left ts * 256 + 255)) agree (table k) (rank k) (omega (arith, ltb-true (rank k) 256 (ranks_low k))) (lookaheads_low k) ts (omega arith))
  where
    agree : (l : Rule) (us : Stream) → left us * 256 + rank l < left ts * 256 + rank k → run (left ts * 256 + 255) l us ≡ parse_rule l us
    agree l us h = stable (left ts * 256 + 255) (suc (left us * 256 + 255)) (suc (left us * 256 + rank l)) (omega (arith, h, ltb-true (rank k) 256 (ranks_low k))) (omega (arith, ltb-true (rank l) 256 (ranks_low l))) l us (omega arith)

pub parse_rule_less : (k : Rule) (ts : Stream) (x : TreeAndRest) → parse_rule k ts ≡ Some x → Less (start_of k).nullable ts x.1
unfolding parse_rule
parse_rule_less k ts x e = run_shrinks (suc (left ts * 256 + 255)) k ts x e

-- and so a form leaves no more than there was
pub parse_falls : (g : Grammar) → Falls (runs parse_rule g)
parse_falls g ts x e = weaker (nullable start_of g) ts x.1 (runs_shrinks parse_rule parse_rule_less g ts x e)

-- a list of these two forms is one member, and then such a list
pub row_is : (g h : Grammar) (ts : Stream) → rows (union (runs parse_rule g) (runs parse_rule h)) ts ≡ row_step (union (runs parse_rule g) (runs parse_rule h)) (rows (union (runs parse_rule g) (runs parse_rule h))) ts
row_is g h ts = rows_are (union (runs parse_rule g) (runs parse_rule h)) (union_less (runs parse_rule g) (runs parse_rule h) (parse_falls g) (parse_falls h)) ts
