-- How tokens and marks print: the lookahead at a token or a mark, and the facts it has of what follows.
use Rattle.std.proofs.Common.{◌≡◌, ℕ, Bool, true, false, List, [], ◌∷◌, ◌++◌, nat_eq, refl, sym, ap, ◌∙◌, ap₂, subst, true≢false, ◌⊎◌, inl, inr}
use Rattle.std.proofs.lemmas.Bool.{eqb-true, eq-eqb}
use Rattle.syn_grammar.specs.Words.{Text, lifetime_mark, long_marks}
use Rattle.syn_grammar.specs.Tokens.{Span, Stream, or, and, no, pick, Terminal, Ended, Name, Word, Punctuation, Literal, Delimited, Lookahead, lookahead_with, Fact, same_fact, fact_number, has_fact, same_terminal, mem, Look, ended, at_name, at_word, at_mark, at_literal, at_group, at_empty_group, ahead, ◌or_else◌, ◌and_also◌, ◌but_not◌, answers, Asked, facts_for, asked, longest, begins_text, before_identifier, join, char_terminal, lone_facts, punctuation_facts, punctuation_lookahead, lookahead}
use Rattle.syn_grammar.specs.Grammar.{chars, spell, Spelled}
use Rattle.syn_grammar.proofs.Sets.{or_left, or_split, and_left, and_right, true_or_false, no_true, those, mem_those, same_terminal_eq, same_fact_eq, or_right}
use Rattle.syn_grammar.proofs.Streams.{quiet, silent_fact}
use Rattle.syn_grammar.proofs.FirstSets.{mark_first_set, mark_head}
use Rattle.syn_grammar.proofs.Again.{Move, move, same_move, each_ahead, mem2, mem2_here, diagonal, mem2_diagonal, Agree, agree_left, agree_right, ahead_looks, fact_agrees}
use Rattle.syn_grammar.proofs.Summaries.{Summary, HasLookaheads, alike, altered, passed, vanished}

-- the terminal of a printed mark
abbrev pub mark_terminal : Text → Terminal
mark_terminal [] = Ended
mark_terminal (c ∷ []) = Punctuation (c ∷ [])
mark_terminal (c ∷ d ∷ l) = join c (mark_terminal (d ∷ l))

-- the lookahead of a printed mark, where this follows
abbrev pub mark_lookahead : Text → Lookahead → Lookahead
mark_lookahead [] f = f
mark_lookahead (c ∷ []) f = punctuation_lookahead c false f
mark_lookahead (c ∷ d ∷ l) f = punctuation_lookahead c true (mark_lookahead (d ∷ l) f)

pub lookahead_spell : (xs : List (ℕ × Span)) (r' : Stream) → lookahead (spell xs r') ≡ mark_lookahead (chars xs) (lookahead r')
lookahead_spell [] r' = refl
lookahead_spell (x ∷ []) r' = refl
lookahead_spell (x ∷ y ∷ l) r' = ap (punctuation_lookahead x.0 true) (lookahead_spell (y ∷ l) r')

abbrev pub some_text : Text → Bool
some_text [] = false
some_text (c ∷ l) = true

lookahead_terminal : (cs : Text) (f : Lookahead) → some_text cs ≡ true → (mark_lookahead cs f).terminal ≡ mark_terminal cs
lookahead_terminal [] f e = absurd (true≢false (sym e))
lookahead_terminal (c ∷ []) f e = refl
lookahead_terminal (c ∷ d ∷ l) f e = ap (join c) (lookahead_terminal (d ∷ l) f refl)

pub spell_spelled : (xs : List (ℕ × Span)) (ts r r' : Stream) → Spelled xs ts r → Spelled xs (spell xs r') r'
spell_spelled [] ts r r' h = h
spell_spelled (x ∷ []) ts r r' h = (false, refl)
spell_spelled (x ∷ y ∷ l) ts r r' h = (spell (y ∷ l) r', refl, spell_spelled (y ∷ l) h.0 r r' h.2)

-- no character of this mark tests what follows it
abbrev pub quiet_mark : Text → Bool
quiet_mark [] = true
quiet_mark (c ∷ l) = and (quiet (Punctuation (c ∷ []))) (quiet_mark l)

still_facts : (c : ℕ) (g : Terminal) (f : Lookahead) → quiet (Punctuation (c ∷ [])) ≡ true → lone_facts f.terminal f.facts ≡ [] → punctuation_facts c g f ≡ []
still_facts c (Punctuation (x ∷ [])) f q e = silent_fact (asked (Punctuation (c ∷ []))) f q
still_facts c (Punctuation (x ∷ y ∷ [])) f q e = go (nat_eq c 58)
  where
    go : (v : Bool) → pick v (lone_facts f.terminal f.facts) [] ≡ []
    go true = e
    go false = refl
still_facts c _ f q e = refl

lone_empty : (g : Terminal) → lone_facts g [] ≡ []
lone_empty (Punctuation (x ∷ [])) = refl
lone_empty _ = refl

lone_still : (g : Terminal) (c : ℕ) (f : Lookahead) → facts_for (asked (Punctuation (c ∷ []))) f ≡ [] → lone_facts g (punctuation_facts c g f) ≡ []
lone_still (Punctuation (x ∷ [])) c f e = e
lone_still _ c f e = refl

-- a quiet mark has no facts, in the print and in the source
printed_still : (cs : Text) (f : Lookahead) → some_text cs ≡ true → quiet_mark cs ≡ true → (mark_lookahead cs f).facts ≡ []
printed_still [] f e q = absurd (true≢false (sym e))
printed_still (c ∷ []) f e q = silent_fact (asked (Punctuation (c ∷ []))) f (and_left (quiet (Punctuation (c ∷ []))) _ q)
printed_still (c ∷ d ∷ l) f e q =
    let g = mark_lookahead (d ∷ l) f in
    still_facts c (join c g.terminal) g (and_left (quiet (Punctuation (c ∷ []))) _ q) (ap (lone_facts g.terminal) (printed_still (d ∷ l) f refl (and_right (quiet (Punctuation (c ∷ []))) _ q)) ∙ lone_empty g.terminal)

first_punctuation : (y : ℕ × Span) (l : List (ℕ × Span)) (ts r : Stream) → Spelled (y ∷ l) ts r → (j : Bool) × (m : Stream) × (lookahead ts ≡ punctuation_lookahead y.0 j (lookahead m))
first_punctuation y [] ts r h = (h.0, r, ap lookahead h.1)
first_punctuation y (z ∷ l) ts r h = (true, h.0, ap lookahead h.1)

source_still : (xs : List (ℕ × Span)) (ts r : Stream) → Spelled xs ts r → quiet_mark (chars xs) ≡ true → (lookahead ts).terminal ≡ mark_terminal (chars xs) → (lookahead ts).facts ≡ []
source_still [] ts r h q e = elim h [ ]
source_still (x ∷ []) ts r h q e =
    let f : char_terminal x.0 h.0 (lookahead r).terminal ≡ Punctuation (x.0 ∷ []) = ap (λ t. (lookahead t).terminal) (sym h.1) ∙ e in
    ap (λ t. (lookahead t).facts) h.1 ∙ ap (λ g. punctuation_facts x.0 g (lookahead r)) f ∙ silent_fact (asked (Punctuation (x.0 ∷ []))) (lookahead r) (and_left (quiet (Punctuation (x.0 ∷ []))) _ q)
source_still (x ∷ y ∷ l) ts r h q e =
    let (j, m, f) = first_punctuation y l h.0 r h.2 in
    let n : lone_facts (lookahead h.0).terminal (lookahead h.0).facts ≡ [] = ap (λ g. lone_facts g.terminal g.facts) f
    ∙ lone_still (char_terminal y.0 j (lookahead m).terminal) y.0 (lookahead m) (silent_fact (asked (Punctuation (y.0 ∷ []))) (lookahead m) (and_left (quiet (Punctuation (y.0 ∷ []))) _ (and_right (quiet (Punctuation (x.0 ∷ []))) _ q))) in
    ap (λ t. (lookahead t).facts) h.1 ∙ still_facts x.0 (join x.0 (lookahead h.0).terminal) (lookahead h.0) (and_left (quiet (Punctuation (x.0 ∷ []))) _ q) n

-- this mark doesn't begin with these two characters
abbrev pub begins_otherwise : ℕ → ℕ → Text → Bool
begins_otherwise y d (c ∷ e ∷ l) = no (and (nat_eq c y) (nat_eq e d))
begins_otherwise y d _ = false

abbrev pub none_begins : ℕ → ℕ → List Text → Bool
none_begins y d [] = true
none_begins y d (m ∷ l) = and (begins_otherwise y d m) (none_begins y d l)

-- no mark that it holds of continues a mark from this character
abbrev pub deaf : ℕ → Look → Bool
deaf y (at_mark []) = false
deaf y (at_mark (d ∷ x)) = none_begins y d long_marks
deaf y (ahead n) = false
deaf y (a or_else b) = and (deaf y a) (deaf y b)
deaf y (a and_also b) = or (deaf y a) (deaf y b)
deaf y (a but_not b) = deaf y a
deaf y _ = true

pub and_off_left : (a b : Bool) → a ≡ false → and a b ≡ false
and_off_left true b e = absurd (true≢false e)
and_off_left false b e = refl

pub and_off_right : (a b : Bool) → b ≡ false → and a b ≡ false
and_off_right true b e = e
and_off_right false b e = refl

-- no mark of this list begins with these two characters, so none is the longest there
none_longest : (y d : ℕ) (l : Text) (ms : List Text) → none_begins y d ms ≡ true → longest ms (y ∷ d ∷ l) (y ∷ []) ≡ y ∷ []
none_longest y d l [] w = refl
none_longest y d l ([] ∷ ms) w = absurd (true≢false (sym w))
none_longest y d l ((c ∷ []) ∷ ms) w = absurd (true≢false (sym w))
none_longest y d l ((c ∷ e ∷ m) ∷ ms) w =
    ap (λ v. pick v (c ∷ e ∷ m) (longest ms (y ∷ d ∷ l) (y ∷ []))) (go (nat_eq c y) (nat_eq e d) (and_left (no (and (nat_eq c y) (nat_eq e d))) _ w))
    ∙ none_longest y d l ms (and_right (no (and (nat_eq c y) (nat_eq e d))) _ w)
  where
    go : (u v : Bool) → no (and u v) ≡ true → and u (and v (begins_text m l)) ≡ false
    go true true e = absurd (true≢false (sym e))
    go true false e = refl
    go false v e = refl

-- where such a look holds of a mark, the character before it stays alone
heard : (y : ℕ) (c : Look) (x : Text) (l : List Fact) → deaf y c ≡ true → answers c (lookahead_with (Punctuation x) l) ≡ true → longest long_marks (y ∷ x) (y ∷ []) ≡ y ∷ []
heard y ended x l e h = absurd (true≢false (sym h))
heard y at_name x l e h = absurd (true≢false (sym h))
heard y (at_word w) x l e h = absurd (true≢false (sym h))
heard y (at_mark []) x l e h = absurd (true≢false (sym e))
heard y (at_mark (d ∷ m)) [] l e h = absurd (true≢false (sym h))
heard y (at_mark (d ∷ m)) (c ∷ x) l e h = ap (λ i. longest long_marks (y ∷ i ∷ x) (y ∷ [])) (sym (eqb-true d c (and_left (nat_eq d c) _ h))) ∙ none_longest y d x long_marks e
heard y (at_literal k) x l e h = absurd (true≢false (sym h))
heard y (at_group d) x l e h = absurd (true≢false (sym h))
heard y at_empty_group x l e h = absurd (true≢false (sym h))
heard y (ahead n) x l e h = absurd (true≢false (sym e))
heard y (a or_else b) x l e h =
    go (or_split (answers a (lookahead_with (Punctuation x) l)) (answers b (lookahead_with (Punctuation x) l)) h) (heard y a x l (and_left (deaf y a) _ e)) (heard y b x l (and_right (deaf y a) _ e))
  where
    go : (answers a (lookahead_with (Punctuation x) l) ≡ true) ⊎ (answers b (lookahead_with (Punctuation x) l) ≡ true)
        → (answers a (lookahead_with (Punctuation x) l) ≡ true → longest long_marks (y ∷ x) (y ∷ []) ≡ y ∷ []) → (answers b (lookahead_with (Punctuation x) l) ≡ true → longest long_marks (y ∷ x) (y ∷ []) ≡ y ∷ [])
        → longest long_marks (y ∷ x) (y ∷ []) ≡ y ∷ []
    go (inl q) f g = f q
    go (inr q) f g = g q
heard y (a and_also b) x l e h =
    go (or_split (deaf y a) (deaf y b) e) (λ q. heard y a x l q (and_left (answers a (lookahead_with (Punctuation x) l)) _ h)) (λ q. heard y b x l q (and_right (answers a (lookahead_with (Punctuation x) l)) _ h))
  where
    go : (deaf y a ≡ true) ⊎ (deaf y b ≡ true) → (deaf y a ≡ true → longest long_marks (y ∷ x) (y ∷ []) ≡ y ∷ []) → (deaf y b ≡ true → longest long_marks (y ∷ x) (y ∷ []) ≡ y ∷ [])
        → longest long_marks (y ∷ x) (y ∷ []) ≡ y ∷ []
    go (inl q) f g = f q
    go (inr q) f g = g q
heard y (a but_not b) x l e h = heard y a x l e (and_left (answers a (lookahead_with (Punctuation x) l)) _ h)

abbrev pub all_deaf : ℕ → Asked → Bool
all_deaf y [] = true
all_deaf y (p ∷ l) = and (deaf y p.0) (all_deaf y l)

-- none of the conditions holds of a mark, or the character before it stays alone
pub heard_or_none : (y : ℕ) (a : Asked) (x : Text) (l : List Fact) → all_deaf y a ≡ true → (facts_for a (lookahead_with (Punctuation x) l) ≡ []) ⊎ (longest long_marks (y ∷ x) (y ∷ []) ≡ y ∷ [])
heard_or_none y [] x l e = inl refl
heard_or_none y (p ∷ a) x l e = go (answers p.0 (lookahead_with (Punctuation x) l)) refl (heard_or_none y a x l (and_right (deaf y p.0) _ e))
  where
    go : (v : Bool) → answers p.0 (lookahead_with (Punctuation x) l) ≡ v → (facts_for a (lookahead_with (Punctuation x) l) ≡ []) ⊎ (longest long_marks (y ∷ x) (y ∷ []) ≡ y ∷ [])
        → (facts_for (p ∷ a) (lookahead_with (Punctuation x) l) ≡ []) ⊎ (longest long_marks (y ∷ x) (y ∷ []) ≡ y ∷ [])
    go true i r = inr (heard y p.0 x l (and_left (deaf y p.0) _ e) i)
    go false i (inr k) = inr k
    go false i (inl k) = inl (ap (λ v. pick v (p.1 ∷ facts_for a (lookahead_with (Punctuation x) l)) (facts_for a (lookahead_with (Punctuation x) l))) i ∙ k)

-- a mark of one character, or of two that is seen whole, reports what its last character tests
abbrev pub last_asked : Text → Asked
last_asked (c ∷ []) = asked (Punctuation (c ∷ []))
last_asked (c ∷ d ∷ []) = asked (Punctuation (d ∷ []))
last_asked _ = []

abbrev pub decided_mark : Text → Bool
decided_mark (c ∷ []) = true
decided_mark (c ∷ d ∷ []) = and (same_terminal (mark_terminal (c ∷ d ∷ [])) (Punctuation (c ∷ d ∷ []))) (all_deaf d (asked (Punctuation (d ∷ []))))
decided_mark _ = false

known_facts : (xs : List (ℕ × Span)) (ts r : Stream) (f : Lookahead) → Spelled xs ts r → decided_mark (chars xs) ≡ true → (lookahead ts).terminal ≡ mark_terminal (chars xs) →
    Agree (ahead_looks (last_asked (chars xs))) (lookahead r) f → (lookahead ts).facts ≡ (mark_lookahead (chars xs) f).facts
known_facts [] ts r f h q e A = elim h [ ]
known_facts (x ∷ []) ts r f h q e A =
    let d : char_terminal x.0 h.0 (lookahead r).terminal ≡ Punctuation (x.0 ∷ []) = ap (λ t. (lookahead t).terminal) (sym h.1) ∙ e in
    ap (λ t. (lookahead t).facts) h.1 ∙ ap (λ g. punctuation_facts x.0 g (lookahead r)) d ∙ fact_agrees (asked (Punctuation (x.0 ∷ []))) (lookahead r) f A
known_facts (x ∷ y ∷ []) ts r f h q e A =
    let w : mark_terminal (x.0 ∷ y.0 ∷ []) ≡ Punctuation (x.0 ∷ y.0 ∷ []) = same_terminal_eq (mark_terminal (x.0 ∷ y.0 ∷ [])) (Punctuation (x.0 ∷ y.0 ∷ [])) (and_left (same_terminal (mark_terminal (x.0 ∷ y.0 ∷ [])) (Punctuation (x.0 ∷ y.0 ∷ []))) _ q) in
    let d : join x.0 (lookahead h.0).terminal ≡ Punctuation (x.0 ∷ y.0 ∷ []) = ap (λ t. (lookahead t).terminal) (sym h.1) ∙ e ∙ w in
    ap (λ t. (lookahead t).facts) h.1 ∙ ap (λ g. punctuation_facts x.0 g (lookahead h.0)) d
    ∙ ap (λ z. pick (nat_eq x.0 58) z []) (ap (λ g. lone_facts g.terminal g.facts) (ap lookahead h.2.1) ∙ go h.2.0 (lookahead r) A)
    ∙ sym (ap (λ g. punctuation_facts x.0 g (punctuation_lookahead y.0 false f)) w)
  where
    same_facts_for : (g : Lookahead) → Agree (ahead_looks (asked (Punctuation (y.0 ∷ [])))) g f → facts_for (asked (Punctuation (y.0 ∷ []))) g ≡ facts_for (asked (Punctuation (y.0 ∷ []))) f
    same_facts_for g B = fact_agrees (asked (Punctuation (y.0 ∷ []))) g f B

    go : (j : Bool) (g : Lookahead) → Agree (ahead_looks (asked (Punctuation (y.0 ∷ [])))) g f → lone_facts (punctuation_lookahead y.0 j g).terminal (punctuation_lookahead y.0 j g).facts ≡ facts_for (asked (Punctuation (y.0 ∷ []))) f
    go false g B = same_facts_for g B
    go true g B = at g.terminal refl
      where
        -- a `'` tests nothing of what follows it
        identifier : (g : Lookahead) → Agree (ahead_looks (asked (Punctuation (y.0 ∷ [])))) g f → lone_facts (before_identifier y.0) (punctuation_facts y.0 (before_identifier y.0) g) ≡ facts_for (asked (Punctuation (y.0 ∷ []))) f
        identifier g B = of_punctuation (nat_eq y.0 39) refl
          where
            of_punctuation : (v : Bool) → nat_eq y.0 39 ≡ v → lone_facts (Punctuation (pick v lifetime_mark (y.0 ∷ []))) (punctuation_facts y.0 (Punctuation (pick v lifetime_mark (y.0 ∷ []))) g) ≡ facts_for (asked (Punctuation (y.0 ∷ []))) f
            of_punctuation true i = ap (λ c. facts_for (asked (Punctuation (c ∷ []))) f) (sym (eqb-true y.0 39 i))
            of_punctuation false i = same_facts_for g B

        at : (a : Terminal) → g.terminal ≡ a → lone_facts (join y.0 a) (punctuation_facts y.0 (join y.0 a) g) ≡ facts_for (asked (Punctuation (y.0 ∷ []))) f
        at (Punctuation l) i = of_mark (heard_or_none y.0 (asked (Punctuation (y.0 ∷ []))) l g.facts (and_right (same_terminal (mark_terminal (x.0 ∷ y.0 ∷ [])) (Punctuation (x.0 ∷ y.0 ∷ []))) _ q))
          where
            of_mark : (facts_for (asked (Punctuation (y.0 ∷ []))) (lookahead_with (Punctuation l) g.facts) ≡ []) ⊎ (longest long_marks (y.0 ∷ l) (y.0 ∷ []) ≡ y.0 ∷ [])
                → lone_facts (join y.0 (Punctuation l)) (punctuation_facts y.0 (join y.0 (Punctuation l)) g) ≡ facts_for (asked (Punctuation (y.0 ∷ []))) f
            of_mark (inl k) =
                let z : facts_for (asked (Punctuation (y.0 ∷ []))) g ≡ [] = ap (facts_for (asked (Punctuation (y.0 ∷ [])))) (ap (λ v. lookahead_with v g.facts) i) ∙ k in
                lone_still (join y.0 (Punctuation l)) y.0 g z ∙ sym z ∙ same_facts_for g B
            of_mark (inr k) = ap (λ v. lone_facts (Punctuation v) (punctuation_facts y.0 (Punctuation v) g)) k ∙ same_facts_for g B
        at Ended i = same_facts_for g B
        at Name i = identifier g B
        at (Word l) i = identifier g B
        at (Literal k) i = same_facts_for g B
        at (Delimited d v) i = same_facts_for g B
known_facts (x ∷ y ∷ z ∷ l) ts r f h q e A = absurd (true≢false (sym q))

-- the conditions of a token with this terminal on what follows, for these facts
abbrev pub kept_looks : List Fact → Asked → List Look
kept_looks k [] = []
kept_looks k (p ∷ l) = pick (has_fact p.1 k) (p.0 ∷ kept_looks k l) (kept_looks k l)

abbrev pub all_kept : List Fact → Asked → Bool
all_kept k [] = true
all_kept k (p ∷ l) = and (has_fact p.1 k) (all_kept k l)

all_kept_agree : (k : List Fact) (l : Asked) (a b : Lookahead) → all_kept k l ≡ true → Agree (kept_looks k l) a b → Agree (ahead_looks l) a b
all_kept_agree k [] a b w h = tt
all_kept_agree k (p ∷ l) a b w h = go (has_fact p.1 k) (and_left (has_fact p.1 k) _ w) (all_kept_agree k l a b (and_right (has_fact p.1 k) _ w)) h
  where
    go : (v : Bool) → v ≡ true → (Agree (kept_looks k l) a b → Agree (ahead_looks l) a b) → Agree (pick v (p.0 ∷ kept_looks k l) (kept_looks k l)) a b → Agree (ahead_looks (p ∷ l)) a b
    go true e ih h = (h.0, ih h.1)
    go false e ih h = absurd (true≢false (sym e))

-- one of these facts holds in both or in neither
kept_alike : (n : Fact) (k : List Fact) (l : Asked) (a b : Lookahead) → has_fact n k ≡ true → Agree (kept_looks k l) a b → has_fact n (facts_for l a) ≡ has_fact n (facts_for l b)
kept_alike n k [] a b e h = refl
kept_alike n k (p ∷ l) a b e h = go (has_fact p.1 k) refl h (kept_alike n k l a b e)
  where
    other : (v : Bool) (x : List Fact) → same_fact n p.1 ≡ false → has_fact n (pick v (p.1 ∷ x) x) ≡ has_fact n x
    other true x q = ap (λ z. or z (has_fact n x)) q
    other false x q = refl

    step : (v w : Bool) (x y : List Fact) → v ≡ w → has_fact n x ≡ has_fact n y → has_fact n (pick v (p.1 ∷ x) x) ≡ has_fact n (pick w (p.1 ∷ y) y)
    step true true x y q r = ap (or (same_fact n p.1)) r
    step false false x y q r = r
    step true false x y q r = absurd (true≢false q)
    step false true x y q r = absurd (true≢false (sym q))

    unlike : (v : Bool) → same_fact n p.1 ≡ v → has_fact p.1 k ≡ false → v ≡ false
    unlike false q r = refl
    unlike true q r = absurd (true≢false (sym e ∙ ap (λ z. has_fact z k) (same_fact_eq n p.1 q) ∙ r))

    go : (v : Bool) → has_fact p.1 k ≡ v → Agree (pick v (p.0 ∷ kept_looks k l) (kept_looks k l)) a b → (Agree (kept_looks k l) a b → has_fact n (facts_for l a) ≡ has_fact n (facts_for l b)) →
        has_fact n (facts_for (p ∷ l) a) ≡ has_fact n (facts_for (p ∷ l) b)
    go true q h ih = step (answers p.0 a) (answers p.0 b) (facts_for l a) (facts_for l b) h.0 (ih h.1)
    go false q h ih =
        let u = unlike (same_fact n p.1) refl q in
        other (answers p.0 a) (facts_for l a) u ∙ ih h ∙ sym (other (answers p.0 b) (facts_for l b) u)

kept_facts : (f : Terminal) (j k : List Fact) (l : Asked) (a b : Lookahead) → ((n : Fact) → has_fact n j ≡ true → has_fact n k ≡ true) → Agree (kept_looks k l) a b → Agree (each_ahead j) (lookahead_with f (facts_for l a)) (lookahead_with f (facts_for l b))
kept_facts f [] k l a b s h = tt
kept_facts f (n ∷ j) k l a b s h =
    (kept_alike n k l a b (s n (or_left (same_fact n n) (has_fact n j) (eq-eqb (fact_number n) (fact_number n) refl))) h, kept_facts f j k l a b (λ m e. s m (or_right (same_fact m n) (has_fact m j) e)) h)

abbrev pub all_asked : List Fact → List Terminal → List Look
all_asked k [] = []
all_asked k (f ∷ l) = kept_looks k (asked f) ++ all_asked k l

asked_agree : (k : List Fact) (f : Terminal) (l : List Terminal) (a b : Lookahead) → mem f l ≡ true → Agree (all_asked k l) a b → Agree (kept_looks k (asked f)) a b
asked_agree k f [] a b e h = absurd (true≢false (sym e))
asked_agree k f (x ∷ l) a b e h = go (or_split (same_terminal f x) (mem f l) e) (asked_agree k f l a b)
  where
    go : (same_terminal f x ≡ true) ⊎ (mem f l ≡ true) → (mem f l ≡ true → Agree (all_asked k l) a b → Agree (kept_looks k (asked f)) a b) → Agree (kept_looks k (asked f)) a b
    go (inl q) ih = subst (λ z. Agree (kept_looks k (asked z)) a b) (sym (same_terminal_eq f x q)) (agree_left (kept_looks k (asked x)) _ a b h)
    go (inr q) ih = ih q (agree_right (kept_looks k (asked x)) _ a b h)

-- a token with this terminal has these facts alone
abbrev pub settles_all : List Fact → Terminal → Bool
settles_all k f = all_kept k (asked f)

abbrev pub token_summary : List Fact → List Terminal → Summary
token_summary k l = record { stays = those (settles_all k) l; moves = diagonal k (those (λ f. no (settles_all k f)) l); nullable = false; gone = []; ends = all_asked k l; halts = []; shuns = [] }

pub token_lookahead : (k : List Fact) (l : List Terminal) (f : Terminal) (x y ra rb : Lookahead) → mem f l ≡ true → Agree (all_asked k l) x y → HasLookaheads (token_summary k l) (lookahead_with f (facts_for (asked f) x)) (lookahead_with f (facts_for (asked f) y)) ra rb
token_lookahead k l f x y ra rb e A = go (true_or_false (settles_all k f)) (asked_agree k f l x y e A)
  where
    go : (settles_all k f ≡ true) ⊎ (settles_all k f ≡ false) → Agree (kept_looks k (asked f)) x y → HasLookaheads (token_summary k l) (lookahead_with f (facts_for (asked f) x)) (lookahead_with f (facts_for (asked f) y)) ra rb
    go (inl q) h = alike (mem_those f (settles_all k) l q e) (ap (lookahead_with f) (fact_agrees (asked f) x y (all_kept_agree k (asked f) x y q h)))
    go (inr q) h = altered k (mem2_diagonal k f (those (λ f. no (settles_all k f)) l) (mem_those f (λ f. no (settles_all k f)) l (ap no q) e)) (kept_facts f k k (asked f) x y (λ n e. e) h)

abbrev pub others : Terminal → List Terminal → List Terminal
others f l = those (λ x. no (same_terminal x f)) l

-- ---- where a longer mark is seen in the source, a mark of one character has no facts there, nor in the print
abbrev pub longer : Terminal → Bool
longer (Punctuation (x ∷ y ∷ m)) = true
longer _ = false

abbrev pub facts_of : Asked → List Fact
facts_of [] = []
facts_of (p ∷ l) = p.1 ∷ facts_of l

-- the facts that source and print share where this terminal is seen
abbrev pub longer_known : Bool → Text → Terminal → List Fact
longer_known b (c ∷ []) f = pick (and b (and (longer f) (and (no (nat_eq c 58)) (all_deaf c (asked (Punctuation (c ∷ []))))))) (facts_of (asked (Punctuation (c ∷ [])))) []
longer_known b _ f = []

long_facts : (c : ℕ) (t : Terminal) (g : Lookahead) → longer t ≡ true → nat_eq c 58 ≡ false → punctuation_facts c t g ≡ []
long_facts c (Punctuation (x ∷ y ∷ [])) g e q = ap (λ v. pick v (lone_facts g.terminal g.facts) []) q
long_facts c (Punctuation (x ∷ y ∷ z ∷ m)) g e q = refl
long_facts c (Punctuation []) g e q = refl
long_facts c (Punctuation (x ∷ [])) g e q = absurd (true≢false (sym e))
long_facts c _ g e q = refl

-- the condition of a character fails of what makes a longer mark of it
longer_still : (c : ℕ) (g : Lookahead) → all_deaf c (asked (Punctuation (c ∷ []))) ≡ true → longer (join c g.terminal) ≡ true → facts_for (asked (Punctuation (c ∷ []))) g ≡ []
longer_still c g w e = at g.terminal refl
  where
    identifier : longer (before_identifier c) ≡ true → facts_for (asked (Punctuation (c ∷ []))) g ≡ []
    identifier e = of_character (nat_eq c 39) refl e
      where
        of_character : (v : Bool) → nat_eq c 39 ≡ v → longer (Punctuation (pick v lifetime_mark (c ∷ []))) ≡ true → facts_for (asked (Punctuation (c ∷ []))) g ≡ []
        of_character true i e = ap (λ d. facts_for (asked (Punctuation (d ∷ []))) g) (eqb-true c 39 i)
        of_character false i e = absurd (true≢false (sym e))

    at : (a : Terminal) → g.terminal ≡ a → facts_for (asked (Punctuation (c ∷ []))) g ≡ []
    at (Punctuation l) i = of_mark (heard_or_none c (asked (Punctuation (c ∷ []))) l g.facts w)
      where
        of_mark : (facts_for (asked (Punctuation (c ∷ []))) (lookahead_with (Punctuation l) g.facts) ≡ []) ⊎ (longest long_marks (c ∷ l) (c ∷ []) ≡ c ∷ []) → facts_for (asked (Punctuation (c ∷ []))) g ≡ []
        of_mark (inl k) = ap (facts_for (asked (Punctuation (c ∷ [])))) (ap (λ v. lookahead_with v g.facts) i) ∙ k
        of_mark (inr k) = absurd (true≢false (sym e ∙ ap (λ v. longer (join c v)) i ∙ ap (λ v. longer (Punctuation v)) k))
    at Ended i = absurd (true≢false (sym e ∙ ap (λ v. longer (join c v)) i))
    at Name i = identifier (sym (ap (λ v. longer (join c v)) i) ∙ e)
    at (Word l) i = identifier (sym (ap (λ v. longer (join c v)) i) ∙ e)
    at (Literal k) i = absurd (true≢false (sym e ∙ ap (λ v. longer (join c v)) i))
    at (Delimited d v) i = absurd (true≢false (sym e ∙ ap (λ v. longer (join c v)) i))

each_alike : (k : List Fact) (a b : Lookahead) → a.facts ≡ b.facts → Agree (each_ahead k) a b
each_alike [] a b e = tt
each_alike (n ∷ k) a b e = (ap (has_fact n) e, each_alike k a b e)

longer_agree : (b : Bool) (xs : List (ℕ × Span)) (ts r : Stream) (f : Lookahead) → Spelled xs ts r → Agree (pick b (ahead_looks (last_asked (chars xs))) []) (lookahead r) f →
    Agree (each_ahead (longer_known b (chars xs) (lookahead ts).terminal)) (lookahead ts) (mark_lookahead (chars xs) f)
longer_agree b [] ts r f h A = elim h [ ]
longer_agree b (x ∷ []) ts r f h A = go (and b (and (longer (lookahead ts).terminal) rest)) refl
  where
    c : ℕ
    c = x.0

    rest : Bool
    rest = and (no (nat_eq c 58)) (all_deaf c (asked (Punctuation (c ∷ []))))

    seen : (j : Bool) → longer (char_terminal c j (lookahead r).terminal) ≡ true → rest ≡ true → Agree (ahead_looks (asked (Punctuation (c ∷ [])))) (lookahead r) f →
        punctuation_facts c (char_terminal c j (lookahead r).terminal) (lookahead r) ≡ facts_for (asked (Punctuation (c ∷ []))) f
    seen false e w B = absurd (true≢false (sym e))
    seen true e w B =
        long_facts c (join c (lookahead r).terminal) (lookahead r) e (no_true (nat_eq c 58) (and_left (no (nat_eq c 58)) _ w))
        ∙ sym (longer_still c (lookahead r) (and_right (no (nat_eq c 58)) _ w) e) ∙ fact_agrees (asked (Punctuation (c ∷ []))) (lookahead r) f B

    reported : and b (and (longer (lookahead ts).terminal) rest) ≡ true → (lookahead ts).facts ≡ facts_for (asked (Punctuation (c ∷ []))) f
    reported e =
        let w = and_right b _ e in
        let l : longer (char_terminal c h.0 (lookahead r).terminal) ≡ true = ap (λ t. longer (lookahead t).terminal) (sym h.1) ∙ and_left (longer (lookahead ts).terminal) _ w in
        ap (λ t. (lookahead t).facts) h.1
        ∙ seen h.0 l (and_right (longer (lookahead ts).terminal) _ w) (subst (λ v. Agree (pick v (ahead_looks (asked (Punctuation (c ∷ [])))) []) (lookahead r) f) (and_left b _ e) A)

    go : (v : Bool) → and b (and (longer (lookahead ts).terminal) rest) ≡ v → Agree (each_ahead (longer_known b (c ∷ []) (lookahead ts).terminal)) (lookahead ts) (punctuation_lookahead c false f)
    go true e = each_alike (longer_known b (c ∷ []) (lookahead ts).terminal) (lookahead ts) (punctuation_lookahead c false f) (reported e)
    go false e = subst (λ v. Agree (each_ahead (pick v (facts_of (asked (Punctuation (c ∷ [])))) [])) (lookahead ts) (punctuation_lookahead c false f)) (sym e) tt
longer_agree b (x ∷ y ∷ l) ts r f h A = tt

-- these terminals before this one, each with the facts that source and print share
abbrev pub known_moves : (Terminal → List Fact) → List Terminal → Terminal → List Move
known_moves t [] x = []
known_moves t (f ∷ l) x = move f x (t f) ∷ known_moves t l x

known_in : (t : Terminal → List Fact) (f x : Terminal) (l : List Terminal) → mem f l ≡ true → mem2 (move f x (t f)) (known_moves t l x) ≡ true
known_in t f x [] e = absurd (true≢false (sym e))
known_in t f x (y ∷ l) e = go (or_split (same_terminal f y) (mem f l) e) (known_in t f x l)
  where
    go : (same_terminal f y ≡ true) ⊎ (mem f l ≡ true) → (mem f l ≡ true → mem2 (move f x (t f)) (known_moves t l x) ≡ true) → mem2 (move f x (t f)) (known_moves t (y ∷ l) x) ≡ true
    go (inl q) ih = subst (λ z. mem2 (move f x (t f)) (move z x (t z) ∷ known_moves t l x) ≡ true) (same_terminal_eq f y q) (mem2_here (move f x (t f)) (known_moves t l x))
    go (inr q) ih = or_right (same_move (move f x (t f)) (move y x (t y))) _ (ih q)

-- true: the lookahead of the mark may be tested for what follows it
abbrev pub mark_summary : Bool → Text → List Look → Summary
mark_summary b cs A = let s = or (quiet_mark cs) (and b (decided_mark cs)) in record {
  stays = pick s (mark_terminal cs ∷ []) [];
  moves = known_moves (longer_known b cs) (pick s (others (mark_terminal cs) (mark_first_set cs)) (mark_first_set cs)) (mark_terminal cs);
  nullable = false;
  gone = [];
  ends = pick b (ahead_looks (last_asked cs)) [] ++ A;
  halts = [];
  shuns = [];
}

some_chars : (xs : List (ℕ × Span)) (ts r : Stream) → Spelled xs ts r → some_text (chars xs) ≡ true
some_chars [] ts r h = elim h [ ]
some_chars (x ∷ l) ts r h = refl

mark_alike : (b : Bool) (xs : List (ℕ × Span)) (ts r : Stream) (f : Lookahead) → Spelled xs ts r → or (quiet_mark (chars xs)) (and b (decided_mark (chars xs))) ≡ true → (lookahead ts).terminal ≡ mark_terminal (chars xs) →
    Agree (pick b (ahead_looks (last_asked (chars xs))) []) (lookahead r) f → lookahead ts ≡ mark_lookahead (chars xs) f
mark_alike b xs ts r f d w e A = ap₂ lookahead_with (e ∙ sym (lookahead_terminal (chars xs) f (some_chars xs ts r d))) (go b (or_split (quiet_mark (chars xs)) _ w) A)
  where
    go : (b : Bool) → (quiet_mark (chars xs) ≡ true) ⊎ (and b (decided_mark (chars xs)) ≡ true) → Agree (pick b (ahead_looks (last_asked (chars xs))) []) (lookahead r) f → (lookahead ts).facts ≡ (mark_lookahead (chars xs) f).facts
    go b (inl q) A = source_still xs ts r d q e ∙ sym (printed_still (chars xs) f (some_chars xs ts r d) q)
    go true (inr q) A = known_facts xs ts r f d q e A
    go false (inr q) A = absurd (true≢false (sym q))

marks_lookahead : (b : Bool) (A : List Look) (xs : List (ℕ × Span)) (ts r r' : Stream) (ra rb : Lookahead) → Spelled xs ts r → Agree (pick b (ahead_looks (last_asked (chars xs))) []) (lookahead r) (lookahead r') →
    HasLookaheads (mark_summary b (chars xs) A) (lookahead ts) (lookahead (spell xs r')) ra rb
marks_lookahead b A xs ts r r' ra rb d B = subst (λ z. HasLookaheads (mark_summary b cs A) (lookahead ts) z ra rb) (sym (lookahead_spell xs r')) (go (or (quiet_mark cs) (and b (decided_mark cs))) refl (true_or_false (same_terminal (lookahead ts).terminal (mark_terminal cs))))
  where
    cs : Text
    cs = chars xs

    printed : Lookahead
    printed = mark_lookahead cs (lookahead r')

    terminal : printed.terminal ≡ mark_terminal cs
    terminal = lookahead_terminal cs (lookahead r') (some_chars xs ts r d)

    head : mem (lookahead ts).terminal (mark_first_set cs) ≡ true
    head = mark_head xs ts r d

    k : List Fact
    k = longer_known b cs (lookahead ts).terminal

    crossed : (l : List Terminal) → mem (lookahead ts).terminal l ≡ true → mem2 (move (lookahead ts).terminal printed.terminal k) (known_moves (longer_known b cs) l (mark_terminal cs)) ≡ true
    crossed l h = subst (λ z. mem2 (move (lookahead ts).terminal z k) (known_moves (longer_known b cs) l (mark_terminal cs)) ≡ true) (sym terminal) (known_in (longer_known b cs) (lookahead ts).terminal (mark_terminal cs) l h)

    agreed : Agree (each_ahead k) (lookahead ts) printed
    agreed = longer_agree b xs ts r (lookahead r') d B

    go : (v : Bool) → or (quiet_mark cs) (and b (decided_mark cs)) ≡ v → (same_terminal (lookahead ts).terminal (mark_terminal cs) ≡ true) ⊎ (same_terminal (lookahead ts).terminal (mark_terminal cs) ≡ false) →
        HasLookaheads (mark_summary b cs A) (lookahead ts) printed ra rb
    go true w (inl q) = alike (subst (λ v. mem (lookahead ts).terminal (pick v (mark_terminal cs ∷ []) []) ≡ true) (sym w) (or_left (same_terminal (lookahead ts).terminal (mark_terminal cs)) false q)) (mark_alike b xs ts r (lookahead r') d w (same_terminal_eq (lookahead ts).terminal (mark_terminal cs) q) B)
    go true w (inr q) = altered k (subst (λ v. mem2 (move (lookahead ts).terminal printed.terminal k) (known_moves (longer_known b cs) (pick v (others (mark_terminal cs) (mark_first_set cs)) (mark_first_set cs)) (mark_terminal cs)) ≡ true) (sym w) (crossed (others (mark_terminal cs) (mark_first_set cs)) (mem_those (lookahead ts).terminal (λ x. no (same_terminal x (mark_terminal cs))) (mark_first_set cs) (ap no q) head))) agreed
    go false w q = altered k (subst (λ v. mem2 (move (lookahead ts).terminal printed.terminal k) (known_moves (longer_known b cs) (pick v (others (mark_terminal cs) (mark_first_set cs)) (mark_first_set cs)) (mark_terminal cs)) ≡ true) (sym w) (crossed (mark_first_set cs) head)) agreed

pub marked : (b : Bool) (cs : Text) (A : List Look) (xs : List (ℕ × Span)) (ts r r' : Stream) (ra rb : Lookahead) → chars xs ≡ cs → Spelled xs ts r → Agree (pick b (ahead_looks (last_asked cs)) []) (lookahead r) (lookahead r') →
    HasLookaheads (mark_summary b cs A) (lookahead ts) (lookahead (spell xs r')) ra rb
marked b cs A xs ts r r' ra rb e d B =
    subst (λ z. HasLookaheads (mark_summary b z A) (lookahead ts) (lookahead (spell xs r')) ra rb) e (marks_lookahead b A xs ts r r' ra rb d (subst (λ z. Agree (pick b (ahead_looks (last_asked z)) []) (lookahead r) (lookahead r')) (sym e) B))

-- of a form that begins with this mark and includes what follows it
abbrev pub inner_summary : Bool → Text → List Look → Summary
inner_summary b cs A = record { stays = (mark_summary b cs A).stays; moves = (mark_summary b cs A).moves; nullable = false; gone = []; ends = A; halts = []; shuns = [] }

pub inner_lookahead : (b : Bool) (cs : Text) (A : List Look) (x y ra rb : Lookahead) → HasLookaheads (mark_summary b cs A) x y ra rb → HasLookaheads (inner_summary b cs A) x y ra rb
inner_lookahead b cs A x y ra rb (alike e f) = alike e f
inner_lookahead b cs A x y ra rb (altered k e w) = altered k e w
inner_lookahead b cs A x y ra rb (passed v e f) = passed v e f
inner_lookahead b cs A x y ra rb (vanished v e) = vanished v e
