-- What is taken from a stream: less is left, and it is what the forms of one token tree read.
-- (Of the computed reading only this file and specs/Take.antt look into a stream.)
use Rattle.std.proofs.Common.{◌≡◌, ℕ, ◌+◌, ◌-◌, ◌<◌, ◌≤◌, Bool, true, false, List, [], ◌∷◌, ◌++◌, nat_eq, Option, Some, None, refl, sym, ap, ◌∙◌, subst, true≢false, arith}
use Rattle.std.specs.Prelude.{nat_lt}
use Rattle.std.proofs.lemmas.Bool.{eqb-true, eq-eqb, ltb-true, lt-ltb}
use Rattle.syn_grammar.specs.Words.{Text, keywords, contextual, lifetime_mark}
use Rattle.syn_grammar.specs.Tokens.{Span, Delimiter, delimiter_number, Leaf, ident, literal, Stream, end, leaf, punct, group, ◌⧺◌, weight, no, pick, one_of_texts, Name, Word, Punctuation, Delimited, join, mem, Look, answers, lookahead, present, visible, holds_nothing}
use Rattle.syn_grammar.specs.Grammar.{Kind, terminals, suits, fits, underscore, Syntax, Token, Mark, Lifetime, chars, Spelled, some_tree}
use Rattle.syn_grammar.specs.Take.{only, left, is_end, lookahead_at, sees, take_token, take_lifetime, Chars, add_char, take_chars, marked, take_mark, Opened, same_delimiter, take_group, length, first, before, leaf_span, first_span}
use Rattle.syn_grammar.proofs.Sets.{same_delimiter_eq, and_right, group_terminals, group_terminal}
use Rattle.syn_grammar.proofs.FirstSets.{mark_first_set, mark_head}
use Rattle.syn_grammar.proofs.Streams.{weight_append}

less_than_itself : (n : ℕ) → n < n → ⊥
less_than_itself n h = omega (arith, h)

abbrev pub TreeAndRest : Type 0
TreeAndRest = Syntax × Stream

pub inv_only : {A : Type 0} (b : Bool) (o : Option A) (x : A) → only b o ≡ Some x → (b ≡ true) × (o ≡ Some x)
inv_only true o x e = (refl, e)
inv_only false o x e = absurd (cc e)

-- ---- less is left
pub token_less : (k : Kind) (ts : Stream) (x : TreeAndRest) → take_token k ts ≡ Some x → left x.1 < left ts
unfolding take_token left
token_less k end x e = absurd (cc e)
token_less k (leaf y sp r) x e = let a : x.1 ≡ r = cc (inv_only (fits k y) _ x e).1 in rw a (omega arith)
token_less k (punct c j sp m) x e = absurd (cc e)
token_less k (group d o c i m) x e = absurd (cc e)

pub lifetime_less : (ts : Stream) (x : TreeAndRest) → take_lifetime ts ≡ Some x → left x.1 < left ts
unfolding take_lifetime left
lifetime_less (punct c true sp (leaf (ident y) sq r)) x e = let a : x.1 ≡ r = cc (inv_only (nat_eq c 39) _ x e).1 in rw a (omega arith)
lifetime_less (punct c true sp (leaf (literal k y) sq r)) x e = absurd (cc e)
lifetime_less (punct c true sp end) x e = absurd (cc e)
lifetime_less (punct c true sp (punct c' j' sq m)) x e = absurd (cc e)
lifetime_less (punct c true sp (group d o q i m)) x e = absurd (cc e)
lifetime_less (punct c false sp m) x e = absurd (cc e)
lifetime_less end x e = absurd (cc e)
lifetime_less (leaf y sp m) x e = absurd (cc e)
lifetime_less (group d o c i m) x e = absurd (cc e)

abbrev Spelling : Type 0
Spelling = List (ℕ × Span) × Stream

chars_less : (cs : Text) (ts : Stream) (x : Spelling) → take_chars cs ts ≡ Some x → weight x.1 < weight ts
chars_less [] ts x e = absurd (cc e)
chars_less (c ∷ []) (punct d j sp r) x e = let a : x.1 ≡ r = cc (inv_only (nat_eq d c) _ x e).1 in rw a (omega arith)
chars_less (c ∷ f ∷ l) (punct d true sp r) x e = more (take_chars (f ∷ l) r) refl (λ p h. chars_less (f ∷ l) r p h) (inv_only (nat_eq d c) _ x e).1
  where
    more : (o : Chars) → take_chars (f ∷ l) r ≡ o → ((p : Spelling) → take_chars (f ∷ l) r ≡ Some p → weight p.1 < weight r) → add_char d sp o ≡ Some x → weight x.1 < weight (punct d true sp r)
    more None h u e = absurd (cc e)
    more (Some p) h u e = let a : x.1 ≡ p.1 = cc e in rw a (omega (arith, u p h))
chars_less _ _ x e = absurd (cc e)

pub mark_less : (cs : Text) (ts : Stream) (x : TreeAndRest) → take_mark cs ts ≡ Some x → left x.1 < left ts
unfolding take_mark left
mark_less cs ts x e = go (take_chars cs ts) refl e
  where
    go : (o : Chars) → take_chars cs ts ≡ o → marked o ≡ Some x → weight x.1 < weight ts
    go None h e = absurd (cc e)
    go (Some p) h e = let a : x.1 ≡ p.1 = cc e in rw a (chars_less cs ts p h)

pub group_less : (d : Delimiter) (ts : Stream) (g : Opened) → take_group d ts ≡ Some g → (left g.rest < left ts) × (left g.content < left ts)
unfolding take_group left
group_less d end g e = absurd (cc e)
group_less d (leaf x sp m) g e = absurd (cc e)
group_less d (punct c j sp m) g e = absurd (cc e)
group_less d (group d' o c i r) g e =
    let h = (inv_only (same_delimiter d d') _ g e).1 in
    let a : g.rest ≡ r = cc h in
    let b : g.content ≡ i = cc h in
    (rw a (omega arith), rw b (omega arith))

pub end_least : (ts : Stream) → left end ≤ left ts
unfolding left
end_least ts = omega arith

pub span_less : (ts r : Stream) (sp : Span) → first_span ts r ≡ Some sp → left r < left ts
unfolding first_span
span_less ts r sp e = ltb-true (left r) (left ts) (inv_only (nat_lt (left r) (left ts)) (leaf_span ts) sp e).0

pub span_some : (ts r : Stream) (sp sq : Span) → first_span ts r ≡ Some sp → left (underscore sq) ≤ left ts
unfolding left
span_some ts r sp sq e = let h = span_less ts r sp e in omega (arith, h)

-- ---- what they take, their forms read
pub sees_present : (c : Look) (ts : Stream) → sees c ts ≡ present c ts
unfolding sees lookahead_at
sees_present c ts = refl

pub end_is : (ts : Stream) → is_end ts ≡ true → ts ≡ end
unfolding is_end
end_is end e = refl
end_is (leaf x sp m) e = absurd (true≢false (sym e))
end_is (punct c j sp m) e = absurd (true≢false (sym e))
end_is (group d o c i m) e = absurd (true≢false (sym e))

pub end_found : is_end end ≡ true
unfolding is_end
end_found = refl

pub tree_is : (ts : Stream) → no (is_end ts) ≡ some_tree ts
unfolding is_end
tree_is end = refl
tree_is (leaf x sp m) = refl
tree_is (punct c j sp m) = refl
tree_is (group d o c i m) = refl

pub token_known : (k : Kind) (ts : Stream) (x : TreeAndRest) → take_token k ts ≡ Some x → (y : Leaf) × (sp : Span) × (x.0 ≡ Token y sp) × (fits k y ≡ true) × (ts ≡ leaf y sp x.1)
unfolding take_token
token_known k end x e = absurd (cc e)
token_known k (leaf y sp r) x e =
    let h = inv_only (fits k y) _ x e in
    let a : x.0 ≡ Token y sp = cc h.1 in
    let b : r ≡ x.1 = cc h.1 in
    (y, sp, a, h.0, ap (leaf y sp) b)
token_known k (punct c j sp m) x e = absurd (cc e)
token_known k (group d o c i m) x e = absurd (cc e)

pub token_found : (k : Kind) (y : Leaf) (sp : Span) (ts r : Stream) → fits k y ≡ true → ts ≡ leaf y sp r → take_token k ts ≡ Some (Token y sp, r)
unfolding take_token
token_found k y sp ts r h e = ap (take_token k) e ∙ ap (λ b. only b (Some (Token y sp, r))) h

pub lifetime_known : (ts : Stream) (x : TreeAndRest) → take_lifetime ts ≡ Some x → (sp : Span) × (y : Text) × (sq : Span) × (x.0 ≡ Lifetime sp y sq) × (ts ≡ punct 39 true sp (leaf (ident y) sq x.1))
unfolding take_lifetime
lifetime_known (punct c true sp (leaf (ident y) sq r)) x e =
    let h = inv_only (nat_eq c 39) _ x e in
    let a : x.0 ≡ Lifetime sp y sq = cc h.1 in
    let b : r ≡ x.1 = cc h.1 in
    (sp, y, sq, a, ap (λ n. punct n true sp (leaf (ident y) sq r)) (eqb-true c 39 h.0) ∙ ap (λ m. punct 39 true sp (leaf (ident y) sq m)) b)
lifetime_known (punct c true sp (leaf (literal k y) sq r)) x e = absurd (cc e)
lifetime_known (punct c true sp end) x e = absurd (cc e)
lifetime_known (punct c true sp (punct c' j' sq m)) x e = absurd (cc e)
lifetime_known (punct c true sp (group d o q i m)) x e = absurd (cc e)
lifetime_known (punct c false sp m) x e = absurd (cc e)
lifetime_known end x e = absurd (cc e)
lifetime_known (leaf y sp m) x e = absurd (cc e)
lifetime_known (group d o c i m) x e = absurd (cc e)

pub lifetime_found : (sp : Span) (y : Text) (sq : Span) (ts r : Stream) → ts ≡ punct 39 true sp (leaf (ident y) sq r) → take_lifetime ts ≡ Some (Lifetime sp y sq, r)
unfolding take_lifetime
lifetime_found sp y sq ts r e = ap take_lifetime e

-- a mark in front of what is left
abbrev Marked : Text → Stream → Spelling → Type 0
Marked cs ts p = (chars p.0 ≡ cs) × Spelled p.0 ts p.1

longer : (c : ℕ) (f : ℕ) (l : Text) (d : ℕ) (sp : Span) (r : Stream) (q : Spelling) → d ≡ c → Marked (f ∷ l) r q → Marked (c ∷ f ∷ l) (punct d true sp r) ((d, sp) ∷ q.0, q.1)
longer c f l d sp r ([], m) e h = absurd (cc (h.0))
longer c f l d sp r (y ∷ ys, m) e h = (ap (λ v. v ∷ chars (y ∷ ys)) e ∙ ap (λ v. c ∷ v) h.0, (r, refl, h.1))

chars_known : (cs : Text) (ts : Stream) (x : Spelling) → take_chars cs ts ≡ Some x → Marked cs ts x
chars_known [] ts x e = absurd (cc e)
chars_known (c ∷ []) (punct d j sp r) x e =
    let h = inv_only (nat_eq d c) _ x e in
    let a : ◌≡◌ {A = Spelling} ((d, sp) ∷ [], r) x = cc h.1 in
    subst (Marked (c ∷ []) (punct d j sp r)) a (ap (λ v. v ∷ []) (eqb-true d c h.0), (j, refl))
chars_known (c ∷ f ∷ l) (punct d true sp r) x e =
    let h = inv_only (nat_eq d c) _ x e in
    more (take_chars (f ∷ l) r) refl (eqb-true d c h.0) (λ p h. chars_known (f ∷ l) r p h) h.1
  where
    more : (o : Chars) → take_chars (f ∷ l) r ≡ o → d ≡ c → ((p : Spelling) → take_chars (f ∷ l) r ≡ Some p → Marked (f ∷ l) r p) → add_char d sp o ≡ Some x → Marked (c ∷ f ∷ l) (punct d true sp r) x
    more None h q u e = absurd (cc e)
    more (Some p) h q u e = let a : ◌≡◌ {A = Spelling} ((d, sp) ∷ p.0, p.1) x = cc e in subst (Marked (c ∷ f ∷ l) (punct d true sp r)) a (longer c f l d sp r p q (u p h))
chars_known _ _ x e = absurd (cc e)

pub mark_known : (cs : Text) (ts : Stream) (x : TreeAndRest) → take_mark cs ts ≡ Some x → (xs : List (ℕ × Span)) × (x.0 ≡ Mark xs) × (chars xs ≡ cs) × Spelled xs ts x.1
unfolding take_mark
mark_known cs ts x e = go (take_chars cs ts) refl e
  where
    go : (o : Chars) → take_chars cs ts ≡ o → marked o ≡ Some x → (xs : List (ℕ × Span)) × (x.0 ≡ Mark xs) × (chars xs ≡ cs) × Spelled xs ts x.1
    go None h e = absurd (cc e)
    go (Some p) h e =
        let a : x.0 ≡ Mark p.0 = cc e in
        let b : p.1 ≡ x.1 = cc e in
        let c = chars_known cs ts p h in
        (p.0, a, c.0, subst (Spelled p.0 ts) b c.1)

chars_found : (xs : List (ℕ × Span)) (ts r : Stream) → Spelled xs ts r → take_chars (chars xs) ts ≡ Some (xs, r)
chars_found [] ts r h = absurd h
chars_found (x ∷ []) ts r h = ap (take_chars (x.0 ∷ [])) h.1 ∙ ap (λ b. only b (Some (x ∷ [], r))) (eq-eqb x.0 x.0 refl)
chars_found (x ∷ y ∷ l) ts r h = ap (take_chars (x.0 ∷ y.0 ∷ chars l)) h.1 ∙ ap (λ b. only b (add_char x.0 x.1 (take_chars (chars (y ∷ l)) h.0))) (eq-eqb x.0 x.0 refl)
    ∙ ap (add_char x.0 x.1) (chars_found (y ∷ l) h.0 r h.2)

pub mark_found : (xs : List (ℕ × Span)) (cs : Text) (ts r : Stream) → chars xs ≡ cs → Spelled xs ts r → take_mark cs ts ≡ Some (Mark xs, r)
unfolding take_mark
mark_found xs cs ts r e h = ap (λ l. marked (take_chars l ts)) (sym e) ∙ ap marked (chars_found xs ts r h)

pub group_taken : (d : Delimiter) (ts : Stream) (g : Opened) → take_group d ts ≡ Some g → ts ≡ group d g.opening g.closing g.content g.rest
unfolding take_group
group_taken d end g e = absurd (cc e)
group_taken d (leaf x sp m) g e = absurd (cc e)
group_taken d (punct c j sp m) g e = absurd (cc e)
group_taken d (group d' o c i r) g e =
    let h = inv_only (same_delimiter d d') _ g e in
    let a : record { opening = o; closing = c; content = i; rest = r } ≡ g = cc h.1 in
    ap (λ v. group v o c i r) (sym (same_delimiter_eq d d' h.0)) ∙ ap (λ g. group d g.opening g.closing g.content g.rest) a

pub group_takes : (d : Delimiter) (o c : Span) (i ts r : Stream) → ts ≡ group d o c i r → take_group d ts ≡ Some (record { opening = o; closing = c; content = i; rest = r })
unfolding take_group
group_takes d o c i ts r e = ap (take_group d) e ∙ ap (λ b. only b (Some (record { opening = o; closing = c; content = i; rest = r }))) (eq-eqb (delimiter_number d) (delimiter_number d) refl)

-- ---- the tokens before a rest
length_append : (a b : Stream) → length (a ⧺ b) ≡ length a + length b
length_append end b = omega arith
length_append (leaf x sp m) b = let e = length_append m b in omega arith
length_append (punct c j sp m) b = let e = length_append m b in omega arith
length_append (group d o c i m) b = let e = length_append m b in omega arith

first_append : (a b : Stream) → first (length a) (a ⧺ b) ≡ a
first_append end b = refl
first_append (leaf x sp m) b = ap (leaf x sp) (first_append m b)
first_append (punct c j sp m) b = ap (punct c j sp) (first_append m b)
first_append (group d o c i m) b = ap (group d o c i) (first_append m b)

pub before_is : (ts c r : Stream) → ts ≡ c ⧺ r → before ts r ≡ c
unfolding before
before_is ts c r e =
    let n : length (c ⧺ r) - length r ≡ length c = let l = length_append c r in omega arith in
    ap (λ t. first (length t - length r) t) e ∙ ap (λ n. first n (c ⧺ r)) n ∙ first_append c r

pub span_known : (ts c r : Stream) (sp : Span) → ts ≡ c ⧺ r → first_span ts r ≡ Some sp → (x : Leaf) × (d : Stream) × (ts ≡ leaf x sp (d ⧺ r))
unfolding first_span
span_known ts end r sp e f = absurd (less_than_itself (left r) (subst (λ z. left r < left z) e (ltb-true (left r) (left ts) (inv_only (nat_lt (left r) (left ts)) (leaf_span ts) sp f).0)))
span_known ts (leaf x sq d) r sp e f =
    let a : sq ≡ sp = cc (sym (ap leaf_span e) ∙ (inv_only (nat_lt (left r) (left ts)) (leaf_span ts) sp f).1) in
    (x, d, e ∙ ap (λ z. leaf x z (d ⧺ r)) a)
span_known ts (punct c j sq d) r sp e f = absurd (cc (sym (ap leaf_span e) ∙ (inv_only (nat_lt (left r) (left ts)) (leaf_span ts) sp f).1))
span_known ts (group g o c i d) r sp e f = absurd (cc (sym (ap leaf_span e) ∙ (inv_only (nat_lt (left r) (left ts)) (leaf_span ts) sp f).1))

pub span_found : (x : Leaf) (sp : Span) (ts d r : Stream) → ts ≡ leaf x sp (d ⧺ r) → first_span ts r ≡ Some sp
unfolding first_span left
span_found x sp ts d r e =
    let h : weight r < weight (leaf x sp (d ⧺ r)) = let w = weight_append d r in omega (arith, w) in
    ap (λ z. only (nat_lt (weight r) (weight z)) (leaf_span z)) e ∙ ap (λ b. only b (Some sp)) (lt-ltb (weight r) (weight (leaf x sp (d ⧺ r))) h)

-- ---- the same where the stream is said to be visible, as callers are
pub sees_is : (c : Look) (ts : Stream) → visible ts ≡ true → sees c ts ≡ present c ts
sees_is c ts v = sees_present c ts

pub end_known : (ts : Stream) → visible ts ≡ true → is_end ts ≡ true → ts ≡ end
end_known ts v e = end_is ts e

pub group_known : (d : Delimiter) (ts : Stream) (g : Opened) → visible ts ≡ true → take_group d ts ≡ Some g → ts ≡ group d g.opening g.closing g.content g.rest
group_known d ts g v e = group_taken d ts g e

pub group_found : (d : Delimiter) (o c : Span) (i ts r : Stream) → visible ts ≡ true → ts ≡ group d o c i r → take_group d ts ≡ Some (record { opening = o; closing = c; content = i; rest = r })
group_found d o c i ts r v e = group_takes d o c i ts r e

-- ---- the first token of what is taken
pub sees_answers : (c : Look) (ts : Stream) → sees c ts ≡ answers c (lookahead_at ts)
unfolding sees
sees_answers c ts = refl

pub token_begins : (k : Kind) (ts : Stream) (x : TreeAndRest) → take_token k ts ≡ Some x → mem (lookahead_at ts).terminal (terminals k) ≡ true
unfolding take_token lookahead_at
token_begins k end x e = absurd (cc e)
token_begins k (leaf y sp r) x e = and_right (suits k y) _ (inv_only (fits k y) _ x e).0
token_begins k (punct c j sp m) x e = absurd (cc e)
token_begins k (group d o c i m) x e = absurd (cc e)

pub mark_begins : (cs : Text) (ts : Stream) (x : TreeAndRest) → take_mark cs ts ≡ Some x → mem (lookahead_at ts).terminal (mark_first_set cs) ≡ true
unfolding take_mark lookahead_at
mark_begins cs ts x e = go (take_chars cs ts) refl e
  where
    go : (o : Chars) → take_chars cs ts ≡ o → marked o ≡ Some x → mem (lookahead ts).terminal (mark_first_set cs) ≡ true
    go None h e = absurd (cc e)
    go (Some p) h e = let c = chars_known cs ts p h in ap (λ l. mem (lookahead ts).terminal (mark_first_set l)) (sym c.0) ∙ mark_head p.0 ts p.1 c.1

lifetime_terminal : (sp : Span) (y : Text) (sq : Span) (r : Stream) → (lookahead (punct 39 true sp (leaf (ident y) sq r))).terminal ≡ Punctuation lifetime_mark
lifetime_terminal sp y sq r = go (one_of_texts y (keywords ++ contextual))
  where
    go : (b : Bool) → join 39 (pick b (Word y) Name) ≡ Punctuation lifetime_mark
    go true = refl
    go false = refl

pub lifetime_begins : (ts : Stream) (x : TreeAndRest) → take_lifetime ts ≡ Some x → mem (lookahead_at ts).terminal (Punctuation lifetime_mark ∷ []) ≡ true
unfolding take_lifetime lookahead_at
lifetime_begins (punct c true sp (leaf (ident y) sq r)) x e =
    ap (λ n. mem (lookahead (punct n true sp (leaf (ident y) sq r))).terminal (Punctuation lifetime_mark ∷ [])) (eqb-true c 39 (inv_only (nat_eq c 39) _ x e).0)
    ∙ ap (λ z. mem z (Punctuation lifetime_mark ∷ [])) (lifetime_terminal sp y sq r)
lifetime_begins (punct c true sp (leaf (literal k y) sq r)) x e = absurd (cc e)
lifetime_begins (punct c true sp end) x e = absurd (cc e)
lifetime_begins (punct c true sp (punct c' j' sq m)) x e = absurd (cc e)
lifetime_begins (punct c true sp (group d o q i m)) x e = absurd (cc e)
lifetime_begins (punct c false sp m) x e = absurd (cc e)
lifetime_begins end x e = absurd (cc e)
lifetime_begins (leaf y sp m) x e = absurd (cc e)
lifetime_begins (group d o c i m) x e = absurd (cc e)

pub group_begins : (d : Delimiter) (ts : Stream) (g : Opened) → take_group d ts ≡ Some g → mem (lookahead_at ts).terminal (group_terminals d) ≡ true
unfolding take_group lookahead_at
group_begins d end g e = absurd (cc e)
group_begins d (leaf x sp m) g e = absurd (cc e)
group_begins d (punct c j sp m) g e = absurd (cc e)
group_begins d (group d' o c i r) g e =
    ap (λ z. mem (Delimited z (holds_nothing z (lookahead i).terminal)) (group_terminals d)) (sym (same_delimiter_eq d d' (inv_only (same_delimiter d d') _ g e).0)) ∙ group_terminal d (lookahead i).terminal
