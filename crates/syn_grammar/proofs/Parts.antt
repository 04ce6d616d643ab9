-- How groups, members of lists, supplied names and generics print, by the summaries of their forms.
use Rattle.std.proofs.Common.{◌≡◌, ℕ, Bool, true, false, List, [], ◌∷◌, ◌++◌, refl, sym, ap, ◌∙◌, subst, true≢false, ◌⊎◌, inl, inr, ap₂}
use Rattle.syn_grammar.specs.Words.{w_underscore, colon, comma, less, greater}
use Rattle.syn_grammar.specs.Tokens.{Span, Delimiter, Paren, Brace, Bracket, Stream, end, or, and, no, pick, Terminal, Ended, Word, Punctuation, Delimited, Lookahead, lookahead_with, Fact, same_terminal, mem, Look, ahead, ◌or_else◌, ◌and_also◌, ◌but_not◌, answers, asked_inside, lookahead, None, is_ended, holds_nothing, group_lookahead}
use Rattle.syn_grammar.specs.Grammar.{spell, terminals, at_row_end, name, at_unnamed, underscore}
use Rattle.syn_grammar.proofs.Sets.{or_split, and_left, and_right, no_true, mem_left, mem_right, every, every_at, may, must, off_of, on_of, or_left, group_terminals, group_terminal}
use Rattle.syn_grammar.proofs.Streams.{silent}
use Rattle.syn_grammar.proofs.FirstSets.{mark_first_set}
use Rattle.syn_grammar.proofs.Again.{move, stays_off, off_sound, those2, mem2_those, seconds, mem2_left, every2, every2_at, mem_seconds, cross, Agree, agree, clear, agree_sound, clear_sound, agree_same, agree_left, agree_right, stay_off_agreed, agree_neither, ahead_looks, fact_agrees, firsts, mem_firsts, mem2_cross}
use Rattle.syn_grammar.proofs.Summaries.{Summary, either_summary, seam, filled, HasLookaheads, alike, altered, passed, vanished, Ready, ready, either_right, prints, printed_mem}
use Rattle.syn_grammar.proofs.Marks.{mark_terminal, and_off_right, mark_summary}

-- the facts that a group has of its content are the same in the print
abbrev pub steady : List Look → Summary → Bool
steady A p = and (every2 (agree A) p.moves) (and (every (clear A) p.gone) (clear A Ended))

steady_sound : (A : List Look) (p : Summary) (a b : Lookahead) → steady A p ≡ true → HasLookaheads p a b (lookahead end) (lookahead end) → Agree A a b
steady_sound A p a b w (alike e f) = agree_same A a b f
steady_sound A p a b w (altered k e l) = agree_sound a b k l A (every2_at (agree A) (move a.terminal b.terminal k) p.moves (and_left _ _ w) e)
steady_sound A p a b w (passed v e f) = agree_same A a b (e ∙ sym f)
steady_sound A p a b w (vanished v f) =
    let u = and_right (every2 (agree A) p.moves) _ w in
    agree_neither A a b (clear_sound A a (every_at (clear A) a.terminal p.gone (and_left (every (clear A) p.gone) _ u) v)) (clear_sound A b (ap (λ z. clear A z.terminal) f ∙ and_right (every (clear A) p.gone) _ u))

filled_off : (a : Terminal) (l : List Terminal) → mem a l ≡ true → filled l ≡ true
filled_off a [] e = e
filled_off a (x ∷ l) e = refl

abbrev none_ended : List Terminal → Bool
none_ended l = every (λ f. no (is_ended f)) l

-- for the content of an invisible group: its tokens and its print are both empty, or neither is
abbrev pub lasting : Delimiter → Summary → Bool
lasting None p = and (no (filled p.gone)) (and (none_ended p.stays) (and (none_ended (firsts p.moves)) (none_ended (seconds p.moves))))
lasting d p = true

-- a group's terminals, by whether its content may be nothing
abbrev pub terminals_with : Delimiter → Bool → List Terminal
terminals_with d v = pick v (group_terminals d) (Delimited d false ∷ [])

-- a group, by whether its lookahead is the same in the print, and whether its content may be nothing
abbrev pub group_summary : Delimiter → Bool → Bool → Summary
group_summary d s v = record { stays = pick s (terminals_with d v) []; moves = pick s [] (cross (group_terminals d) (group_terminals d)); nullable = false; gone = []; ends = []; halts = []; shuns = [] }

abbrev pub inside_summary : Delimiter → Summary → Summary
inside_summary d p = group_summary d (and (steady (ahead_looks (asked_inside d)) p) (lasting d p)) p.nullable

visible_terminal : (a : Terminal) (v : Bool) → same_terminal a a ≡ true → mem a (pick v (a ∷ []) (a ∷ [])) ≡ true
visible_terminal a true e = or_left (same_terminal a a) false e
visible_terminal a false e = or_left (same_terminal a a) false e

filled_terminal : (f : Terminal) (v : Bool) → is_ended f ≡ false → mem (Delimited None (is_ended f)) (terminals_with None v) ≡ true
filled_terminal f true e = group_terminal None f
filled_terminal f false e = ap (λ z. mem (Delimited None z) (Delimited None false ∷ [])) e

not_ended_in : (a : Terminal) (l : List Terminal) → none_ended l ≡ true → mem a l ≡ true → is_ended a ≡ false
not_ended_in a l w e = no_true (is_ended a) (every_at (λ f. no (is_ended f)) a l w e)

-- both hold something, or neither does
same_terminals : (d : Delimiter) (p : Summary) (a b : Lookahead) → lasting d p ≡ true → HasLookaheads p a b (lookahead end) (lookahead end) →
    (holds_nothing d a.terminal ≡ holds_nothing d b.terminal) × (mem (Delimited d (holds_nothing d a.terminal)) (terminals_with d p.nullable) ≡ true)
same_terminals Paren p a b w h = (refl, visible_terminal (Delimited Paren false) p.nullable refl)
same_terminals Brace p a b w h = (refl, visible_terminal (Delimited Brace false) p.nullable refl)
same_terminals Bracket p a b w h = (refl, visible_terminal (Delimited Bracket false) p.nullable refl)
same_terminals None p a b w h = go h
  where
    w1 : and (none_ended p.stays) (and (none_ended (firsts p.moves)) (none_ended (seconds p.moves))) ≡ true
    w1 = and_right (no (filled p.gone)) _ w

    w2 : and (none_ended (firsts p.moves)) (none_ended (seconds p.moves)) ≡ true
    w2 = and_right (none_ended p.stays) _ w1

    go : HasLookaheads p a b (lookahead end) (lookahead end) → (is_ended a.terminal ≡ is_ended b.terminal) × (mem (Delimited None (is_ended a.terminal)) (terminals_with None p.nullable) ≡ true)
    go (alike e f) = (ap (λ z. is_ended z.terminal) f, filled_terminal a.terminal p.nullable (not_ended_in a.terminal p.stays (and_left (none_ended p.stays) _ w1) e))
    go (altered k e l) =
        let x = not_ended_in a.terminal (firsts p.moves) (and_left (none_ended (firsts p.moves)) _ w2) (mem_firsts (move a.terminal b.terminal k) p.moves e) in
        let y = not_ended_in b.terminal (seconds p.moves) (and_right (none_ended (firsts p.moves)) _ w2) (mem_seconds (move a.terminal b.terminal k) p.moves e) in
        (x ∙ sym y, filled_terminal a.terminal p.nullable x)
    go (passed v e f) = (ap (λ z. is_ended z.terminal) (e ∙ sym f), subst (λ n. mem (Delimited None (is_ended a.terminal)) (terminals_with None n) ≡ true) (sym v) (group_terminal None a.terminal))
    go (vanished v f) = absurd (true≢false (sym (filled_off a.terminal p.gone v) ∙ no_true (filled p.gone) (and_left (no (filled p.gone)) _ w)))

pub inside_lookahead : (d : Delimiter) (p : Summary) (a b ra rb : Lookahead) → HasLookaheads p a b (lookahead end) (lookahead end) →
    HasLookaheads (inside_summary d p) (group_lookahead d a) (group_lookahead d b) ra rb
inside_lookahead d p a b ra rb h = go (and (steady (ahead_looks (asked_inside d)) p) (lasting d p)) refl
  where
    go : (v : Bool) → and (steady (ahead_looks (asked_inside d)) p) (lasting d p) ≡ v → HasLookaheads (group_summary d v p.nullable) (group_lookahead d a) (group_lookahead d b) ra rb
    go true w =
        let (e, m) = same_terminals d p a b (and_right (steady (ahead_looks (asked_inside d)) p) _ w) h in
        let s = steady_sound (ahead_looks (asked_inside d)) p a b (and_left (steady (ahead_looks (asked_inside d)) p) _ w) h in
        alike m (ap₂ (λ v l. lookahead_with (Delimited d v) l) e (fact_agrees (asked_inside d) a b s))
    go false w = altered [] (mem2_cross (Delimited d (holds_nothing d a.terminal)) (Delimited d (holds_nothing d b.terminal)) (group_terminals d) (group_terminals d) (group_terminal d a.terminal) (group_terminal d b.terminal)) tt

-- ROWS: a comma or a `>` follows a member
abbrev pub edges : List Terminal
edges = mark_first_set comma ++ mark_first_set greater

abbrev pub one_way : List Look → Bool
one_way [] = true
one_way (c ∷ A) = and (or (every (must c) edges) (every (λ e. no (may c e)) edges)) (one_way A)

one_way_sound : (A : List Look) (a b : Lookahead) → one_way A ≡ true → mem a.terminal edges ≡ true → mem b.terminal edges ≡ true → Agree A a b
one_way_sound [] a b w x y = tt
one_way_sound (c ∷ A) a b w x y = (go (or_split (every (must c) edges) _ (and_left _ _ w)), one_way_sound A a b (and_right (or (every (must c) edges) (every (λ e. no (may c e)) edges)) _ w) x y)
  where
    go : (every (must c) edges ≡ true) ⊎ (every (λ e. no (may c e)) edges ≡ true) → answers c a ≡ answers c b
    go (inl q) = on_of c a (every_at (must c) a.terminal edges q x) ∙ sym (on_of c b (every_at (must c) b.terminal edges q y))
    go (inr q) = off_of c a (every_at (λ e. no (may c e)) a.terminal edges q x) ∙ sym (off_of c b (every_at (λ e. no (may c e)) b.terminal edges q y))

abbrev pub in_row : Summary → Bool
in_row p = and (and (no p.nullable) (no (filled p.gone))) (and (one_way (p.ends ++ p.halts)) (and (every (clear p.shuns) edges) (every (λ f. no (may at_row_end f)) (prints p))))

module _ (p : Summary) (w : in_row p ≡ true) where
  pub w1 : and (one_way (p.ends ++ p.halts)) (and (every (clear p.shuns) edges) (every (λ f. no (may at_row_end f)) (prints p))) ≡ true
  w1 = and_right (and (no p.nullable) (no (filled p.gone))) _ w

  pub w2 : and (every (clear p.shuns) edges) (every (λ f. no (may at_row_end f)) (prints p)) ≡ true
  w2 = and_right (one_way (p.ends ++ p.halts)) _ w1

  pub ready_at_edge : (a b : Lookahead) → mem a.terminal edges ≡ true → mem b.terminal edges ≡ true → Ready p a b
  ready_at_edge a b x y =
      let e = one_way_sound (p.ends ++ p.halts) a b (and_left (one_way (p.ends ++ p.halts)) _ w1) x y in
      ready p a b (agree_left p.ends p.halts a b e) (stay_off_agreed p.halts a b (agree_right p.ends p.halts a b e)) (clear_sound p.shuns b (every_at (clear p.shuns) b.terminal edges (and_left (every (clear p.shuns) edges) _ w2) y))

  pub not_ended : (a b ra rb : Lookahead) → HasLookaheads p a b ra rb → answers at_row_end b ≡ false
  not_ended a b ra rb (alike e f) = off_of at_row_end b (every_at (λ f. no (may at_row_end f)) b.terminal (prints p) (and_right (every (clear p.shuns) edges) _ w2) (printed_mem p a b ra rb (e, f)))
  not_ended a b ra rb (altered k e w) = off_of at_row_end b (every_at (λ f. no (may at_row_end f)) b.terminal (prints p) (and_right (every (clear p.shuns) edges) _ w2) (mem_right b.terminal p.stays _ (mem_seconds (move a.terminal b.terminal k) p.moves e)))
  not_ended a b ra rb (passed v e f) = absurd (true≢false (sym v ∙ no_true p.nullable (and_left (no p.nullable) _ (and_left (and (no p.nullable) (no (filled p.gone))) _ w))))
  not_ended a b ra rb (vanished v f) = absurd (true≢false (sym (filled_off a.terminal p.gone v) ∙ no_true (filled p.gone) (and_right (no p.nullable) _ (and_left (and (no p.nullable) (no (filled p.gone))) _ w))))

-- SUPPLIED `_` AND `:`: what the first form prints of `_`
abbrev pub wild_out : Summary → List Terminal
wild_out p = pick (mem (Word w_underscore) p.stays) (Word w_underscore ∷ []) [] ++ seconds (those2 (λ a. same_terminal a (Word w_underscore)) p.moves)

pub wild_lookahead : (p : Summary) (sp : Span) (b ra rb : Lookahead) → and (no p.nullable) (no (filled p.gone)) ≡ true → HasLookaheads p (lookahead (underscore sp)) b ra rb → mem b.terminal (wild_out p) ≡ true
wild_lookahead p sp b ra rb w (alike e f) =
    mem_left b.terminal (pick (mem (Word w_underscore) p.stays) (Word w_underscore ∷ []) []) _ (subst (λ v. mem b.terminal (pick v (Word w_underscore ∷ []) []) ≡ true) (sym e) (ap (λ z. mem z.terminal (Word w_underscore ∷ [])) (sym f)))
wild_lookahead p sp b ra rb w (altered k e h) =
    mem_right b.terminal (pick (mem (Word w_underscore) p.stays) (Word w_underscore ∷ []) []) _
    (mem_seconds (move (Word w_underscore) b.terminal k) (those2 (λ a. same_terminal a (Word w_underscore)) p.moves) (mem2_those (move (Word w_underscore) b.terminal k) (λ a. same_terminal a (Word w_underscore)) p.moves refl e))
wild_lookahead p sp b ra rb w (passed v e f) = absurd (true≢false (sym v ∙ no_true p.nullable (and_left (no p.nullable) _ w)))
wild_lookahead p sp b ra rb w (vanished v f) = absurd (true≢false (sym (filled_off (Word w_underscore) p.gone v) ∙ no_true (filled p.gone) (and_right (no p.nullable) _ w)))

-- the colon after it, read or supplied
abbrev pub colon_summary : Summary
colon_summary = either_summary (mark_summary false colon []) (record { stays = []; moves = move Ended (mark_terminal colon) [] ∷ []; nullable = false; gone = []; ends = []; halts = []; shuns = [] })

pub supplied_colon : (xs : List (ℕ × Span)) (sp : Span) (m : Stream) (ra rb : Lookahead) → xs ≡ (58, sp) ∷ [] → HasLookaheads colon_summary (lookahead end) (lookahead (spell xs m)) ra rb
supplied_colon xs sp m ra rb e =
    subst (λ l. HasLookaheads colon_summary (lookahead end) (lookahead (spell l m)) ra rb) (sym e) (either_right (mark_summary false colon []) (record { stays = []; moves = move Ended (mark_terminal colon) [] ∷ []; nullable = false; gone = []; ends = []; halts = []; shuns = [] }) (lookahead end) (lookahead (spell ((58, sp) ∷ []) m)) ra rb (altered [] refl tt))

abbrev pub supplied_summary : Fact → Summary → Summary → Summary
supplied_summary n p t = record { stays = p.stays; moves = p.moves ++ cross (terminals name) (wild_out p); nullable = false; gone = []; ends = t.ends; halts = t.halts; shuns = t.shuns }

abbrev pub supplied_fine : Fact → List Look → Summary → Bool
supplied_fine n off p = and (and (no p.nullable) (no (filled p.gone))) (and (seam off p colon_summary) (and (every (λ f. no (may (at_unnamed n) f)) (wild_out p)) (every2 (stays_off (at_unnamed n)) p.moves)))

-- a written pattern is none that is left out, in the print too
pub named_lookahead : (n : Fact) (off : List Look) (p t : Summary) (a b ma mb ra rb : Lookahead) → supplied_fine n off p ≡ true → answers (at_unnamed n) a ≡ false → HasLookaheads p a b ma mb → (answers (at_unnamed n) b ≡ false) × HasLookaheads (supplied_summary n p t) a b ra rb
named_lookahead n off p t a b ma mb ra rb w v (alike e f) = (ap (answers (at_unnamed n)) (sym f) ∙ v, alike e f)
named_lookahead n off p t a b ma mb ra rb w v (altered k e h) =
    let u = and_right (every (λ f. no (may (at_unnamed n) f)) (wild_out p)) _ (and_right (seam off p colon_summary) _ (and_right (and (no p.nullable) (no (filled p.gone))) _ w)) in
    (off_sound a b k h (at_unnamed n) (every2_at (stays_off (at_unnamed n)) (move a.terminal b.terminal k) p.moves u e) v, altered k (mem2_left (move a.terminal b.terminal k) p.moves _ e) h)
named_lookahead n off p t a b ma mb ra rb w v (passed z e f) = absurd (true≢false (sym z ∙ no_true p.nullable (and_left (no p.nullable) _ (and_left (and (no p.nullable) (no (filled p.gone))) _ w))))
named_lookahead n off p t a b ma mb ra rb w v (vanished z f) = absurd (true≢false (sym (filled_off a.terminal p.gone z) ∙ no_true (filled p.gone) (and_right (no p.nullable) _ (and_left (and (no p.nullable) (no (filled p.gone))) _ w))))

-- it contains a condition on facts
abbrev pub mentions : Look → Bool
mentions (ahead n) = true
mentions (a or_else b) = or (mentions a) (mentions b)
mentions (a and_also b) = or (mentions a) (mentions b)
mentions (a but_not b) = or (mentions a) (mentions b)
mentions c = false

abbrev pub some_mention : List Look → Bool
some_mention [] = false
some_mention (c ∷ A) = or (mentions c) (some_mention A)

-- a form tests the facts of the lookahead after it; a is true where one tests those before it
abbrev pub heeds : Bool → Summary → Bool
heeds a p = or (and a p.nullable) (or (some_mention p.ends) (or (some_mention p.halts) (some_mention p.shuns)))

abbrev pub listens : Delimiter → Bool
listens d = no (silent (asked_inside d))

-- by whether the facts of a form's lookahead are tested; the rules for which they are
-- GENERICS BEFORE A TYPE: any lookahead of the two may become any
abbrev pub lead_summary : List Terminal → Summary → Summary
lead_summary l q = record { stays = []; moves = cross (mark_first_set less ++ l) (Punctuation less ∷ prints q); nullable = false; gone = []; ends = q.ends; halts = q.halts; shuns = q.shuns }

abbrev pub solid : Summary → Bool
solid q = and (no q.nullable) (no (filled q.gone))

pub solid_lookahead : (q : Summary) (a b ra rb : Lookahead) → solid q ≡ true → HasLookaheads q a b ra rb → mem b.terminal (prints q) ≡ true
solid_lookahead q a b ra rb w (alike e f) = printed_mem q a b ra rb (e, f)
solid_lookahead q a b ra rb w (altered k e h) = mem_right b.terminal q.stays _ (mem_seconds (move a.terminal b.terminal k) q.moves e)
solid_lookahead q a b ra rb w (passed v e f) = absurd (true≢false (sym v ∙ no_true q.nullable (and_left (no q.nullable) _ w)))
solid_lookahead q a b ra rb w (vanished v f) = absurd (true≢false (sym (filled_off a.terminal q.gone v) ∙ no_true (filled q.gone) (and_right (no q.nullable) _ w)))

solid_off : (q : Summary) → q.nullable ≡ true → solid q ≡ false
solid_off q v = ap (λ z. and (no z) (no (filled q.gone))) v

pub sure_first : (c : Look) (p : Summary) (a b ra rb : Lookahead) → every (must c) (prints p) ≡ true → HasLookaheads p a b ra rb → (answers c b ≡ true) ⊎ ((solid p ≡ false) × (b ≡ rb))
sure_first c p a b ra rb w (alike e f) = inl (on_of c b (every_at (must c) b.terminal (prints p) w (printed_mem p a b ra rb (e, f))))
sure_first c p a b ra rb w (altered k e h) = inl (on_of c b (every_at (must c) b.terminal (prints p) w (mem_right b.terminal p.stays _ (mem_seconds (move a.terminal b.terminal k) p.moves e))))
sure_first c p a b ra rb w (passed v e f) = inr (solid_off p v, f)
sure_first c p a b ra rb w (vanished v f) = inr (and_off_right (no p.nullable) _ (ap no (filled_off a.terminal p.gone v)), f)

-- the print begins with one of these terminals, or with those of what follows it
pub printed_after : (q : Summary) (A : List Terminal) (a b ra rb : Lookahead) → mem rb.terminal A ≡ true → HasLookaheads q a b ra rb → mem b.terminal (prints q ++ A) ≡ true
printed_after q A a b ra rb m (alike e f) = mem_left b.terminal (prints q) A (printed_mem q a b ra rb (e, f))
printed_after q A a b ra rb m (altered k e h) = mem_left b.terminal (prints q) A (mem_right b.terminal q.stays _ (mem_seconds (move a.terminal b.terminal k) q.moves e))
printed_after q A a b ra rb m (passed v e f) = mem_right b.terminal (prints q) A (ap (λ z. mem z.terminal A) f ∙ m)
printed_after q A a b ra rb m (vanished v f) = mem_right b.terminal (prints q) A (ap (λ z. mem z.terminal A) f ∙ m)
