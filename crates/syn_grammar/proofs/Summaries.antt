-- The summary of each form: the first lookaheads of its source and of its print, and its conditions on what follows.
use Rattle.std.proofs.Common.{◌≡◌, Bool, true, false, List, [], ◌∷◌, ◌++◌, refl, sym, ap, ◌∙◌, ap₂, subst, true≢false, ◌⊎◌, inl, inr}
use Rattle.syn_grammar.specs.Tokens.{Terminal, Ended, Fact, Lookahead, lookahead_with, or, and, no, pick, mem, Look, answers}
use Rattle.syn_grammar.specs.Rules.{Rule}
use Rattle.syn_grammar.specs.RuleNumbers.{same_rule}
use Rattle.syn_grammar.specs.Grammar.{among}
use Rattle.syn_grammar.proofs.RuleLemmas.{same_rule_eq}
use Rattle.syn_grammar.proofs.Sets.{or_left, or_right, or_split, and_left, and_right, no_true, mem_left, mem_right, every, every_at, subset, mem_subset, may, must, may_of, must_not_of}
use Rattle.syn_grammar.proofs.FirstSets.{keep, leave, mem_keep, mem_leave}
use Rattle.syn_grammar.proofs.Again.{Move, move, each_ahead, stays_on, stays_off, on_sound, off_sound, mem2, mem2_left, mem2_right, every2, every2_at, those2, mem2_those, firsts, seconds, mem_firsts, mem_seconds, cross, mem2_cross, subset2, Agree, Off, StayOff, agree, stay_off, clear, excluded, agree_sound, clear_sound, excluded_off, agree_same, agree_left, agree_right, off_left, off_right, agree_by, agree_neither, stay_off_sound, stay_off_same, stay_off_left, stay_off_right, stay_off_by, stay_off_of, stay_off_sub, common, off_common_left, stay_off_common, off_after, guards, guards_agree, sub_looks, agree_sub, off_sub}

pub record Summary : Type 0 where
  pub stays : List Terminal  -- with one of these at its front the print has the same lookahead
  pub moves : List Move  -- or the lookahead changes so
  pub nullable : Bool  -- it may read nothing
  pub gone : List Terminal  -- with one of these at its front it may print nothing
  pub ends : List Look  -- conditions on what follows that must agree in the source and in the print
  pub halts : List Look  -- conditions that, where they are false of what follows in the source, are false of what follows in the print
  pub shuns : List Look  -- conditions that what follows its print must not meet

abbrev pub filled : List Terminal → Bool
filled [] = false
filled (x ∷ l) = true

filled_mem : (a : Terminal) (l : List Terminal) → mem a l ≡ true → filled l ≡ true
filled_mem a [] e = e
filled_mem a (x ∷ l) e = refl

abbrev pub prints : Summary → List Terminal
prints p = p.stays ++ seconds p.moves

-- by conditions that what follows the second never meets
abbrev pub seq_summary : List Look → Summary → Summary → Summary
seq_summary O p q = record {
  stays = p.stays ++ pick p.nullable q.stays [];
  moves = p.moves ++ (pick p.nullable q.moves [] ++ cross p.gone (prints q));
  nullable = and p.nullable q.nullable;
  gone = pick p.nullable q.gone [] ++ pick (or q.nullable (filled q.gone)) p.gone [];
  ends = q.ends ++ pick q.nullable (guards (common O q.halts) p.ends) [];
  halts = q.halts ++ pick q.nullable p.halts [];
  shuns = q.shuns ++ (pick (or q.nullable (filled q.gone)) p.shuns [] ++ pick (filled q.gone) (p.ends ++ p.halts) []);
}

abbrev pub keep2 : Look → List Move → List Move
keep2 c l = those2 (may c) l

abbrev pub leave2 : Look → List Move → List Move
leave2 c l = those2 (λ f. no (must c f)) l

abbrev pub when_summary : Look → Summary → Summary → Summary
when_summary c p q = record {
  stays = keep c p.stays ++ leave c q.stays;
  moves = keep2 c p.moves ++ leave2 c q.moves;
  nullable = or p.nullable q.nullable;
  gone = leave c q.gone;
  ends = p.ends ++ (q.ends ++ pick p.nullable (c ∷ []) []);
  halts = p.halts ++ (q.halts ++ pick q.nullable (c ∷ []) []);
  shuns = p.shuns ++ (q.shuns ++ pick (filled (leave c q.gone)) (c ∷ []) []);
}

abbrev pub empty_summary : Summary
empty_summary = record { stays = []; moves = []; nullable = true; gone = []; ends = []; halts = []; shuns = [] }

abbrev pub vanishing_summary : Bool → Look → Summary → Summary
vanishing_summary b c p = let w = when_summary c p empty_summary in record {
  stays = pick b [] w.stays;
  moves = pick b [] w.moves;
  nullable = true;
  gone = w.stays ++ firsts w.moves;
  ends = w.ends;
  halts = w.halts;
  shuns = w.shuns ++ (c ∷ []);
}

abbrev pub either_summary : Summary → Summary → Summary
either_summary p q = record {
  stays = p.stays ++ q.stays;
  moves = p.moves ++ q.moves;
  nullable = or p.nullable q.nullable;
  gone = p.gone ++ q.gone;
  ends = p.ends ++ q.ends;
  halts = p.halts ++ q.halts;
  shuns = p.shuns ++ q.shuns;
}

-- what follows a form may change so
abbrev pub keeps : Summary → Move → Bool
keeps p m = and (agree p.ends m) (and (stay_off p.halts m) (clear p.shuns m.printed))

-- two lookaheads after a form are as its summary requires
pub record Ready (p : Summary) (a b : Lookahead) : Type 0 where
  pub alike_ends : Agree p.ends a b
  pub halted : StayOff p.halts a b
  pub shunned : Off p.shuns b

abbrev pub ready : (p : Summary) (a b : Lookahead) → Agree p.ends a b → StayOff p.halts a b → Off p.shuns b → Ready p a b
ready p a b e h s = record { alike_ends = e; halted = h; shunned = s }

-- before the end the print is before the end
pub at_end : (p : Summary) → clear p.shuns Ended ≡ true → Ready p (lookahead_with Ended []) (lookahead_with Ended [])
at_end p w = ready p (lookahead_with Ended []) (lookahead_with Ended []) (agree_same p.ends _ _ refl) (stay_off_same p.halts _ _ refl) (clear_sound p.shuns (lookahead_with Ended []) w)

-- the lookahead after g keeps what g required of it, unless it is one that never follows g
abbrev pub seam : List Look → Summary → Summary → Bool
seam off p q = and (every2 (λ m. or (excluded off m.source) (keeps p m)) q.moves)
    (and (every (λ a. or (excluded off a) (clear p.shuns a)) q.stays) (every (λ a. or (excluded off a) (clear p.ends a)) q.gone))

-- a condition holds in the print as it did in the source
abbrev pub kept : Look → Summary → Summary → Bool
kept c p q = and (every2 (stays_on c) (keep2 c p.moves)) (and (every2 (stays_off c) (leave2 c q.moves)) (no (filled (keep c p.gone))))

-- of what doesn't meet the condition
pub kept_off : (c : Look) (p q : Summary) → kept c p q ≡ true → every2 (stays_off c) (leave2 c q.moves) ≡ true
kept_off c p q k = and_left (every2 (stays_off c) (leave2 c q.moves)) _ (and_right (every2 (stays_on c) (keep2 c p.moves)) _ k)

-- the lookahead a of the source and b of the print, where ra and rb follow
pub data HasLookaheads (p : Summary) (a b ra rb : Lookahead) : Type 0 where
  alike : mem a.terminal p.stays ≡ true → a ≡ b → HasLookaheads p a b ra rb
  altered : (reported : List Fact) → mem2 (move a.terminal b.terminal reported) p.moves ≡ true → Agree (each_ahead reported) a b → HasLookaheads p a b ra rb
  passed : p.nullable ≡ true → a ≡ ra → b ≡ rb → HasLookaheads p a b ra rb
  vanished : mem a.terminal p.gone ≡ true → b ≡ rb → HasLookaheads p a b ra rb

-- one summary says no less than another
abbrev pub covers : Summary → Summary → Bool
covers p q = and (subset q.stays p.stays) (and (subset2 q.moves p.moves) (and (or (no q.nullable) p.nullable) (and (subset q.gone p.gone) (and (sub_looks q.ends p.ends) (and (sub_looks q.halts p.halts) (sub_looks q.shuns p.shuns))))))

pub printed_mem : (p : Summary) (a b ra rb : Lookahead) → (mem a.terminal p.stays ≡ true) × (a ≡ b) → mem b.terminal (prints p) ≡ true
printed_mem p a b ra rb h = mem_left b.terminal p.stays _ (ap (λ z. mem z.terminal p.stays) (sym h.1) ∙ h.0)

pub seq_lookahead : (O : List Look) (p q : Summary) (a b ma mb ra rb : Lookahead) → HasLookaheads p a b ma mb → HasLookaheads q ma mb ra rb → HasLookaheads (seq_summary O p q) a b ra rb
seq_lookahead O p q a b ma mb ra rb (alike e h) f = alike (mem_left a.terminal p.stays _ e) h
seq_lookahead O p q a b ma mb ra rb (altered k e w) f = altered k (mem2_left (move a.terminal b.terminal k) p.moves _ e) w
seq_lookahead O p q a b ma mb ra rb (passed v e e') (alike f h) =
    alike (mem_right a.terminal p.stays _ (subst (λ z. mem a.terminal (pick z q.stays []) ≡ true) (sym v) (ap (λ x. mem x.terminal q.stays) e ∙ f))) (e ∙ h ∙ sym e')
seq_lookahead O p q a b ma mb ra rb (passed v e e') (altered k f w) =
    altered k (mem2_right (move a.terminal b.terminal k) p.moves _ (mem2_left (move a.terminal b.terminal k) (pick p.nullable q.moves []) _
    (subst (λ z. mem2 (move a.terminal b.terminal k) (pick z q.moves []) ≡ true) (sym v) (ap₂ (λ x y. mem2 (move x.terminal y.terminal k) q.moves) e e' ∙ f)))) (agree_by (each_ahead k) a ma b mb e e' w)
seq_lookahead O p q a b ma mb ra rb (passed v e e') (passed w f f') = passed (ap₂ and v w) (e ∙ f) (e' ∙ f')
seq_lookahead O p q a b ma mb ra rb (passed v e e') (vanished w f) =
    vanished (mem_left a.terminal (pick p.nullable q.gone []) _ (subst (λ z. mem a.terminal (pick z q.gone []) ≡ true) (sym v) (ap (λ x. mem x.terminal q.gone) e ∙ w))) (e' ∙ f)
seq_lookahead O p q a b ma mb ra rb (vanished v e) (alike f h) =
    altered [] (mem2_right (move a.terminal b.terminal []) p.moves _ (mem2_right (move a.terminal b.terminal []) (pick p.nullable q.moves []) _ (mem2_cross a.terminal b.terminal p.gone (prints q) v (ap (λ x. mem x.terminal (prints q)) e ∙ printed_mem q ma mb ra rb (f, h))))) tt
seq_lookahead O p q a b ma mb ra rb (vanished v e) (altered k f w) =
    altered [] (mem2_right (move a.terminal b.terminal []) p.moves _ (mem2_right (move a.terminal b.terminal []) (pick p.nullable q.moves []) _ (mem2_cross a.terminal b.terminal p.gone (prints q) v (ap (λ x. mem x.terminal (prints q)) e ∙ mem_right mb.terminal q.stays _ (mem_seconds (move ma.terminal mb.terminal k) q.moves f))))) tt
seq_lookahead O p q a b ma mb ra rb (vanished v e) (passed w f f') =
    vanished (mem_right a.terminal (pick p.nullable q.gone []) _ (subst (λ z. mem a.terminal (pick z p.gone []) ≡ true) (sym (or_left q.nullable (filled q.gone) w)) v)) (e ∙ f')
seq_lookahead O p q a b ma mb ra rb (vanished v e) (vanished w f) =
    vanished (mem_right a.terminal (pick p.nullable q.gone []) _ (subst (λ z. mem a.terminal (pick z p.gone []) ≡ true) (sym (or_right q.nullable (filled q.gone) (filled_mem ma.terminal q.gone w))) v)) (e ∙ f)

not_excluded : (off : List Look) (a : Lookahead) (x : Bool) → Off off a → or (excluded off a.terminal) x ≡ true → x ≡ true
not_excluded off a x h e = subst (λ z. or z x ≡ true) (excluded_off off a h) e

pub seam_sound : (off O : List Look) (p q : Summary) (a b ra rb : Lookahead) → seam off p q ≡ true → Off off a → Off O ra → HasLookaheads q a b ra rb → Ready (seq_summary O p q) ra rb → Ready p a b
seam_sound off O p q a b ra rb s o u (alike e h) R =
    ready p a b (agree_same p.ends a b h) (stay_off_same p.halts a b h)
    (subst (λ z. Off p.shuns z) h (clear_sound p.shuns a (not_excluded off a _ o (every_at (λ a. or (excluded off a) (clear p.shuns a)) a.terminal q.stays (and_left _ _ (and_right (every2 (λ m. or (excluded off m.source) (keeps p m)) q.moves) _ s)) e))))
seam_sound off O p q a b ra rb s o u (altered t e l) R =
    let m = move a.terminal b.terminal t in
    let h = not_excluded off a _ o (every2_at (λ m. or (excluded off m.source) (keeps p m)) m q.moves (and_left (every2 (λ m. or (excluded off m.source) (keeps p m)) q.moves) _ s) e) in
    let k = and_right (agree p.ends m) _ h in
    ready p a b (agree_sound a b t l p.ends (and_left (agree p.ends m) _ h)) (stay_off_sound a b t l p.halts (and_left (stay_off p.halts m) _ k)) (clear_sound p.shuns b (and_right (stay_off p.halts m) _ k))
seam_sound off O p q a b ra rb s o u (passed v e f) R =
    let G = common O q.halts in
    let g = off_common_left O q.halts ra u in
    let h = off_after G ra rb g (stay_off_common O q.halts ra rb (stay_off_left q.halts _ ra rb R.halted)) in
    ready p a b (agree_by p.ends a ra b rb e f (guards_agree G p.ends ra rb g h (subst (λ z. Agree (pick z (guards G p.ends) []) ra rb) v (agree_right q.ends _ ra rb R.alike_ends))))
    (stay_off_by p.halts a ra b rb e f (subst (λ z. StayOff (pick z p.halts []) ra rb) v (stay_off_right q.halts _ ra rb R.halted)))
    (subst (λ z. Off p.shuns z) (sym f) (subst (λ z. Off (pick z p.shuns []) rb) (or_left q.nullable (filled q.gone) v) (off_left (pick (or q.nullable (filled q.gone)) p.shuns []) _ rb (off_right q.shuns _ rb R.shunned))))
seam_sound off O p q a b ra rb s o u (vanished v f) R =
    let n = filled_mem a.terminal q.gone v in
    let off_both = subst (λ z. Off (pick z (p.ends ++ p.halts) []) rb) n (off_right (pick (or q.nullable (filled q.gone)) p.shuns []) _ rb (off_right q.shuns _ rb R.shunned)) in
    let h = not_excluded off a _ o (every_at (λ a. or (excluded off a) (clear p.ends a)) a.terminal q.gone (and_right (every (λ a. or (excluded off a) (clear p.shuns a)) q.stays) _ (and_right (every2 (λ m. or (excluded off m.source) (keeps p m)) q.moves) _ s)) v) in
    ready p a b (agree_neither p.ends a b (clear_sound p.ends a h) (subst (λ z. Off p.ends z) (sym f) (off_left p.ends p.halts rb off_both)))
    (stay_off_of p.halts a b (subst (λ z. Off p.halts z) (sym f) (off_right p.ends p.halts rb off_both)))
    (subst (λ z. Off p.shuns z) (sym f) (subst (λ z. Off (pick z p.shuns []) rb) (or_right q.nullable (filled q.gone) n) (off_left (pick (or q.nullable (filled q.gone)) p.shuns []) _ rb (off_right q.shuns _ rb R.shunned))))

module _ (p q : Summary) (c : covers p q ≡ true) where
  c1 : and (subset2 q.moves p.moves) (and (or (no q.nullable) p.nullable) (and (subset q.gone p.gone) (and (sub_looks q.ends p.ends) (and (sub_looks q.halts p.halts) (sub_looks q.shuns p.shuns))))) ≡ true
  c1 = and_right (subset q.stays p.stays) _ c

  c2 : and (or (no q.nullable) p.nullable) (and (subset q.gone p.gone) (and (sub_looks q.ends p.ends) (and (sub_looks q.halts p.halts) (sub_looks q.shuns p.shuns)))) ≡ true
  c2 = and_right (subset2 q.moves p.moves) _ c1

  c3 : and (subset q.gone p.gone) (and (sub_looks q.ends p.ends) (and (sub_looks q.halts p.halts) (sub_looks q.shuns p.shuns))) ≡ true
  c3 = and_right (or (no q.nullable) p.nullable) _ c2

  c4 : and (sub_looks q.ends p.ends) (and (sub_looks q.halts p.halts) (sub_looks q.shuns p.shuns)) ≡ true
  c4 = and_right (subset q.gone p.gone) _ c3

  pass_on : (x y : Bool) → or (no x) y ≡ true → x ≡ true → y ≡ true
  pass_on true y h e = h
  pass_on false y h e = absurd (true≢false (sym e))

  pub cover_lookahead : (a b ra rb : Lookahead) → HasLookaheads q a b ra rb → HasLookaheads p a b ra rb
  cover_lookahead a b ra rb (alike e h) = alike (mem_subset a.terminal q.stays p.stays (and_left (subset q.stays p.stays) _ c) e) h
  cover_lookahead a b ra rb (altered k e w) = altered k (every2_at (λ m. mem2 m p.moves) (move a.terminal b.terminal k) q.moves (and_left (subset2 q.moves p.moves) _ c1) e) w
  cover_lookahead a b ra rb (passed v e f) = passed (pass_on q.nullable p.nullable (and_left (or (no q.nullable) p.nullable) _ c2) v) e f
  cover_lookahead a b ra rb (vanished v e) = vanished (mem_subset a.terminal q.gone p.gone (and_left (subset q.gone p.gone) _ c3) v) e

  c5 : and (sub_looks q.halts p.halts) (sub_looks q.shuns p.shuns) ≡ true
  c5 = and_right (sub_looks q.ends p.ends) _ c4

  pub cover_ready : (a b : Lookahead) → Ready p a b → Ready q a b
  cover_ready a b R =
      ready q a b (agree_sub q.ends p.ends a b (and_left (sub_looks q.ends p.ends) _ c4) R.alike_ends) (stay_off_sub q.halts p.halts a b (and_left (sub_looks q.halts p.halts) _ c5) R.halted)
      (off_sub q.shuns p.shuns b (and_right (sub_looks q.halts p.halts) _ c5) R.shunned)

-- the first form of a choice: its condition holds in the print, and the lookahead is the choice's
pub when_left : (c : Look) (p q : Summary) (a b ra rb : Lookahead) → kept c p q ≡ true → answers c a ≡ true → HasLookaheads p a b ra rb → Ready (when_summary c p q) ra rb →
    (answers c b ≡ true) × HasLookaheads (when_summary c p q) a b ra rb
when_left c p q a b ra rb k h (alike e f) R = (ap (answers c) (sym f) ∙ h, alike (mem_left a.terminal (keep c p.stays) _ (mem_keep a c p.stays h e)) f)
when_left c p q a b ra rb k h (altered t e l) R =
    let m = move a.terminal b.terminal t in
    let i = mem2_those m (may c) p.moves (may_of c a h) e in
    (on_sound a b t l c (every2_at (stays_on c) m (keep2 c p.moves) (and_left (every2 (stays_on c) (keep2 c p.moves)) _ k) i) h, altered t (mem2_left m (keep2 c p.moves) _ i) l)
when_left c p q a b ra rb k h (passed v e f) R =
    let l = subst (λ z. Agree (pick z (c ∷ []) []) ra rb) v (agree_right q.ends _ ra rb (agree_right p.ends _ ra rb R.alike_ends)) in
    (ap (answers c) f ∙ sym l.0 ∙ ap (answers c) (sym e) ∙ h, passed (or_left p.nullable q.nullable v) e f)
when_left c p q a b ra rb k h (vanished v f) R =
    absurd (true≢false (sym (filled_mem a.terminal (keep c p.gone) (mem_keep a c p.gone h v)) ∙ no_true (filled (keep c p.gone)) (and_right (every2 (stays_off c) (leave2 c q.moves)) _ (and_right (every2 (stays_on c) (keep2 c p.moves)) _ k))))

-- where the first form's print surely meets the look
pub when_sure : (c : Look) (p q : Summary) (a b ra rb : Lookahead) → no (filled p.gone) ≡ true → answers c a ≡ true → HasLookaheads p a b ra rb → HasLookaheads (when_summary c p q) a b ra rb
when_sure c p q a b ra rb k h (alike e f) = alike (mem_left a.terminal (keep c p.stays) _ (mem_keep a c p.stays h e)) f
when_sure c p q a b ra rb k h (altered t e l) =
    let m = move a.terminal b.terminal t in
    altered t (mem2_left m (keep2 c p.moves) _ (mem2_those m (may c) p.moves (may_of c a h) e)) l
when_sure c p q a b ra rb k h (passed v e f) = passed (or_left p.nullable q.nullable v) e f
when_sure c p q a b ra rb k h (vanished v f) = absurd (true≢false (sym (filled_mem a.terminal p.gone v) ∙ no_true (filled p.gone) k))

pub when_right : (c : Look) (p q : Summary) (a b ra rb : Lookahead) → every2 (stays_off c) (leave2 c q.moves) ≡ true → answers c a ≡ false → HasLookaheads q a b ra rb → Ready (when_summary c p q) ra rb →
    (answers c b ≡ false) × HasLookaheads (when_summary c p q) a b ra rb
when_right c p q a b ra rb k h (alike e f) R = (ap (answers c) (sym f) ∙ h, alike (mem_right a.terminal (keep c p.stays) _ (mem_leave a c q.stays h e)) f)
when_right c p q a b ra rb k h (altered t e l) R =
    let m = move a.terminal b.terminal t in
    let i = mem2_those m (λ f. no (must c f)) q.moves (must_not_of c a h) e in (
      off_sound a b t l c (every2_at (stays_off c) m (leave2 c q.moves) k i) h,
      altered t (mem2_right m (keep2 c p.moves) _ i) l,
    )
when_right c p q a b ra rb k h (passed v e f) R =
    let l = subst (λ z. StayOff (pick z (c ∷ []) []) ra rb) v (stay_off_right q.halts _ ra rb (stay_off_right p.halts _ ra rb R.halted)) in
    (ap (answers c) f ∙ l.0 (ap (answers c) (sym e) ∙ h), passed (or_right p.nullable q.nullable v) e f)
when_right c p q a b ra rb k h (vanished v f) R =
    let g = mem_leave a c q.gone h v in
    (ap (answers c) f ∙ (subst (λ z. Off (pick z (c ∷ []) []) rb) (filled_mem a.terminal (leave c q.gone) g) (off_right q.shuns _ rb (off_right p.shuns _ rb R.shunned))).0, vanished g f)

-- where an optional part vanished
pub vanishing_gone : (d : Bool) (c : Look) (p : Summary) (a b ra rb : Lookahead) → HasLookaheads (when_summary c p empty_summary) a b ra rb → HasLookaheads (vanishing_summary d c p) a rb ra rb
vanishing_gone d c p a b ra rb (alike e f) = vanished (mem_left a.terminal (when_summary c p empty_summary).stays _ e) refl
vanishing_gone d c p a b ra rb (altered k e w) = vanished (mem_right a.terminal (when_summary c p empty_summary).stays _ (mem_firsts (move a.terminal b.terminal k) (when_summary c p empty_summary).moves e)) refl
vanishing_gone d c p a b ra rb (passed v e f) = passed refl e refl
vanishing_gone d c p a b ra rb (vanished v f) = absurd (true≢false (sym v))

pub vanishing_stays : (c : Look) (p : Summary) (a b ra rb : Lookahead) → HasLookaheads (when_summary c p empty_summary) a b ra rb → HasLookaheads (vanishing_summary false c p) a b ra rb
vanishing_stays c p a b ra rb (alike e f) = alike e f
vanishing_stays c p a b ra rb (altered k e w) = altered k e w
vanishing_stays c p a b ra rb (passed v e f) = passed refl e f
vanishing_stays c p a b ra rb (vanished v f) = absurd (true≢false (sym v))

pub ready_left : (p q : Summary) (a b : Lookahead) → Ready (either_summary p q) a b → Ready p a b
ready_left p q a b R = ready p a b (agree_left p.ends _ a b R.alike_ends) (stay_off_left p.halts _ a b R.halted) (off_left p.shuns _ b R.shunned)

pub ready_right : (p q : Summary) (a b : Lookahead) → Ready (either_summary p q) a b → Ready q a b
ready_right p q a b R = ready q a b (agree_right p.ends _ a b R.alike_ends) (stay_off_right p.halts _ a b R.halted) (off_right p.shuns _ b R.shunned)

-- the same for the forms of a choice
pub ready_then : (c : Look) (p q : Summary) (a b : Lookahead) → Ready (when_summary c p q) a b → Ready p a b
ready_then c p q a b R = ready p a b (agree_left p.ends _ a b R.alike_ends) (stay_off_left p.halts _ a b R.halted) (off_left p.shuns _ b R.shunned)

pub ready_else : (c : Look) (p q : Summary) (a b : Lookahead) → Ready (when_summary c p q) a b → Ready q a b
ready_else c p q a b R =
    ready q a b (agree_left q.ends _ a b (agree_right p.ends _ a b R.alike_ends)) (stay_off_left q.halts _ a b (stay_off_right p.halts _ a b R.halted)) (off_left q.shuns _ b (off_right p.shuns _ b R.shunned))

-- the second part of a sequence, and an optional part
pub ready_second : (O : List Look) (p q : Summary) (a b : Lookahead) → Ready (seq_summary O p q) a b → Ready q a b
ready_second O p q a b R = ready q a b (agree_left q.ends _ a b R.alike_ends) (stay_off_left q.halts _ a b R.halted) (off_left q.shuns _ b R.shunned)

pub ready_vanishing : (d : Bool) (c : Look) (p : Summary) (a b : Lookahead) → Ready (vanishing_summary d c p) a b → Ready (when_summary c p empty_summary) a b
ready_vanishing d c p a b R = ready (when_summary c p empty_summary) a b R.alike_ends R.halted (off_left (when_summary c p empty_summary).shuns _ b R.shunned)

pub either_left : (p q : Summary) (a b ra rb : Lookahead) → HasLookaheads p a b ra rb → HasLookaheads (either_summary p q) a b ra rb
either_left p q a b ra rb (alike e f) = alike (mem_left a.terminal p.stays q.stays e) f
either_left p q a b ra rb (altered k e w) = altered k (mem2_left (move a.terminal b.terminal k) p.moves q.moves e) w
either_left p q a b ra rb (passed v e f) = passed (or_left p.nullable q.nullable v) e f
either_left p q a b ra rb (vanished v e) = vanished (mem_left a.terminal p.gone q.gone v) e

pub either_right : (p q : Summary) (a b ra rb : Lookahead) → HasLookaheads q a b ra rb → HasLookaheads (either_summary p q) a b ra rb
either_right p q a b ra rb (alike e f) = alike (mem_right a.terminal p.stays q.stays e) f
either_right p q a b ra rb (altered k e w) = altered k (mem2_right (move a.terminal b.terminal k) p.moves q.moves e) w
either_right p q a b ra rb (passed v e f) = passed (or_right p.nullable q.nullable v) e f
either_right p q a b ra rb (vanished v e) = vanished (mem_right a.terminal p.gone q.gone v) e

module _ (said : Rule → Summary) where
  abbrev pub one_summary : List Rule → Summary
  one_summary [] = record { stays = []; moves = []; nullable = false; gone = []; ends = []; halts = []; shuns = [] }
  one_summary (k ∷ ks) = either_summary (said k) (one_summary ks)

  pub one_lookahead : (k : Rule) (ks : List Rule) (a b ra rb : Lookahead) → among k ks ≡ true → HasLookaheads (said k) a b ra rb → HasLookaheads (one_summary ks) a b ra rb
  one_lookahead k [] a b ra rb e f = absurd (true≢false (sym e))
  one_lookahead k (l ∷ ks) a b ra rb e f = go (or_split (same_rule k l) (among k ks) e) (one_lookahead k ks a b ra rb)
    where
      go : (same_rule k l ≡ true) ⊎ (among k ks ≡ true) → (among k ks ≡ true → HasLookaheads (said k) a b ra rb → HasLookaheads (one_summary ks) a b ra rb) → HasLookaheads (one_summary (l ∷ ks)) a b ra rb
      go (inl q) ih = either_left (said l) (one_summary ks) a b ra rb (subst (λ z. HasLookaheads (said z) a b ra rb) (same_rule_eq k l q) f)
      go (inr q) ih = either_right (said l) (one_summary ks) a b ra rb (ih q f)

  pub one_ready : (k : Rule) (ks : List Rule) (a b : Lookahead) → among k ks ≡ true → Ready (one_summary ks) a b → Ready (said k) a b
  one_ready k [] a b e h = absurd (true≢false (sym e))
  one_ready k (l ∷ ks) a b e h = go (or_split (same_rule k l) (among k ks) e) (one_ready k ks a b)
    where
      go : (same_rule k l ≡ true) ⊎ (among k ks ≡ true) → (among k ks ≡ true → Ready (one_summary ks) a b → Ready (said k) a b) → Ready (said k) a b
      go (inl q) ih = subst (λ z. Ready (said z) a b) (sym (same_rule_eq k l q)) (ready_left (said l) (one_summary ks) a b h)
      go (inr q) ih = ih q (ready_right (said l) (one_summary ks) a b h)
