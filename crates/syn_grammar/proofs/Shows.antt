-- The shown tokens of a value are read again as the same value.
use Rattle.std.proofs.Common.{◌≡◌, Bool, true, false, List, [], ◌∷◌, Some, None, refl, sym, ap, ◌∙◌, subst, true≢false, ◌⊎◌, inl, inr}
use Rattle.syn_grammar.specs.Words.{Text}
use Rattle.syn_grammar.specs.Tokens.{Stream, end, ◌⧺◌, and, or, no, same_text, one_of_texts, mem, Ended, Look, at_mark, Lookahead, lookahead}
use Rattle.syn_grammar.specs.Rules.{Rule}
use Rattle.syn_grammar.specs.Grammar.{Syntax, DerivesPrefix, rule, show, renew}
use Rattle.syn_grammar.specs.Table.{table}
use Rattle.syn_grammar.specs.Take.{Out, sees, take_mark, taken}
use Rattle.syn_grammar.specs.Run.{parse_rule, value_of}
use Rattle.syn_grammar.specs.IsAlone.{reads_shown, is_alone, is_before}
use Rattle.syn_grammar.specs.Alone.{ShowIsRead, ShowIsAlone, ShowIsBefore, SameShow}
use Rattle.syn_grammar.proofs.Sets.{or_split, or_right, and_left, and_right, every, every_at, subset, same_text_eq}
use Rattle.syn_grammar.proofs.Plain.{show_plain}
use Rattle.syn_grammar.proofs.Streams.{append_end}
use Rattle.syn_grammar.proofs.FirstSets.{first_set, mark_first_set, mark_head, nullable, IsSaid}
use Rattle.syn_grammar.proofs.NeverFollow.{never_follow, IsOff}
use Rattle.syn_grammar.proofs.Again.{move, sub_looks, clear, clear_sound, Agree, Off, agree, agree_sound, agree_same, stay_off, stay_off_of, stay_off_same, stay_off_sound}
use Rattle.syn_grammar.proofs.Summaries.{Summary, keeps, covers, Ready, ready, at_end}
use Rattle.syn_grammar.proofs.Extend.{closes}
use Rattle.syn_grammar.proofs.Reprint.{summary, fine, IsSummary, again}
use Rattle.syn_grammar.proofs.Said.{start_of, shown_summary_of, shown_heard_of, closed_of, cut_of, spaced_of}
use Rattle.syn_grammar.proofs.Takes.{mark_known}
use Rattle.syn_grammar.proofs.Looks.{known_mark, sees_mark}
use Rattle.syn_grammar.proofs.Means.{parse_rule_known, parse_rule_found}
use Rattle.syn_grammar.proofs.Alone.{of_every_rule, implies, by_implied, like_values}
use Rattle.syn_grammar.proofs.Full.{full_table, full_tree, full_read, full_back, show_full, shown_well}
use Rattle.syn_grammar.proofs.Cut.{cut, shown_unjoined}

-- ---- what holds of the rules holds of their full forms
abbrev starts_well : Rule → Bool
starts_well k = and (subset (first_set start_of (full_table k)) (start_of k).first_set) (implies (nullable start_of (full_table k)) (start_of k).nullable)

full_starts : IsSaid start_of full_table
full_starts k =
    let w = of_every_rule starts_well refl refl k in
    (and_left (subset (first_set start_of (full_table k)) (start_of k).first_set) _ w, by_implied (nullable start_of (full_table k)) (start_of k).nullable (and_right (subset (first_set start_of (full_table k)) (start_of k).first_set) _ w))

full_never_follow : IsOff start_of full_table
full_never_follow k = of_every_rule (λ k. sub_looks (start_of k).never_follow (never_follow start_of [] (full_table k))) refl refl k

full_closed : (k : Rule) → closed_of k ≡ true → closes closed_of (full_table k) ≡ true
full_closed k = by_implied (closed_of k) _ (of_every_rule (λ k. implies (closed_of k) (closes closed_of (full_table k))) refl refl k)

abbrev summed_up : Bool → Rule → Bool
summed_up a k = implies (or (no a) (shown_heard_of k)) (and (covers (shown_summary_of a k) (summary shown_summary_of shown_heard_of start_of closed_of a (full_table k))) (fine shown_summary_of shown_heard_of start_of closed_of a (full_table k)))

both_of : (a b : Bool) → and a b ≡ true → (a ≡ true) × (b ≡ true)
both_of a b e = (and_left a b e, and_right a b e)

full_summaries : IsSummary shown_summary_of shown_heard_of start_of closed_of full_table
full_summaries false k h = both_of (covers (shown_summary_of false k) _) _ (by_implied true _ (of_every_rule (summed_up false) refl refl k) refl)
full_summaries true k h = both_of (covers (shown_summary_of true k) _) _ (by_implied (shown_heard_of k) _ (of_every_rule (summed_up true) refl refl k) h)

full_ends : (k : Rule) → clear (shown_summary_of false k).shuns Ended ≡ true
full_ends k = of_every_rule (λ k. clear (shown_summary_of false k).shuns Ended) refl refl k

shown_hold : (k : Rule) → reads_shown k ≡ true → shown_well (table k) ≡ true
shown_hold k = by_implied (reads_shown k) _ (of_every_rule (λ k. implies (reads_shown k) (shown_well (table k))) refl refl k)

-- ---- before a lookahead that changes nothing, the shown tokens are derived, as a tree of the same value
shown_again : (k : Rule) (s : Syntax) (ts r r' : Stream) → reads_shown k ≡ true → DerivesPrefix table (rule k) s ts r → Ready (shown_summary_of false k) (lookahead r) (lookahead r') →
    (u : Syntax) × DerivesPrefix table (rule k) u (show (value_of s) ⧺ r') r' × (value_of u ≡ value_of s)
shown_again k s ts r r' w d R =
    let x = again shown_summary_of shown_heard_of start_of closed_of full_table full_summaries full_starts full_never_follow full_closed false (rule k) (full_tree s) ts r r' refl (full_read shown_hold (rule k) s ts r w d) R in
    let y = subst (λ z. DerivesPrefix full_table (rule k) (renew (full_tree s)) (z ⧺ r') r') (show_full s) x.0 in
    full_back shown_hold (rule k) s ts r (show (value_of s) ⧺ r') r' w d y

-- so it is computed at the end, where that changes nothing
shown_alone : (k : Rule) (ts : Stream) (s : Syntax) (r : Stream) → reads_shown k ≡ true → parse_rule k ts ≡ Some (s, r) → Ready (shown_summary_of false k) (lookahead r) (lookahead end) → parse_rule k (show s) ≡ Some (s, end)
shown_alone k ts s r w e R =
    let (t, a, h) = parse_rule_known k ts (s, r) e in
    let (u, d, i) = shown_again k t ts r end w a R in
    let b : DerivesPrefix table (rule k) u (show s) end = subst (λ z. DerivesPrefix table (rule k) u z end) (append_end (show (value_of t)) ∙ ap show h) d in
    parse_rule_found k (show s) u end b ∙ ap (λ z. Some (z, end)) (i ∙ h)

pub show_is_read : ShowIsRead
show_is_read k w ts s e = shown_alone k ts s end w e (at_end (shown_summary_of false k) (full_ends k))

-- ---- before the end, whatever followed
abbrev no_looks : List Look → Bool
no_looks [] = true
no_looks (c ∷ A) = false

none_agree : (A : List Look) (a b : Lookahead) → no_looks A ≡ true → Agree A a b
none_agree [] a b e = tt
none_agree (c ∷ A) a b e = absurd (true≢false (sym e))

-- a form with this summary tests nothing of what follows that might differ at the end
abbrev cut_well : Summary → Bool
cut_well p = and (no_looks p.ends) (and (clear p.halts Ended) (clear p.shuns Ended))

ready_at_end : (p : Summary) (a : Lookahead) → cut_well p ≡ true → Ready p a (lookahead end)
ready_at_end p a w =
    let v = and_right (no_looks p.ends) _ w in
    ready p a (lookahead end) (none_agree p.ends a (lookahead end) (and_left (no_looks p.ends) _ w))
    (stay_off_of p.halts a (lookahead end) (clear_sound p.halts (lookahead end) (and_left (clear p.halts Ended) _ v)))
    (clear_sound p.shuns (lookahead end) (and_right (clear p.halts Ended) _ v))

-- ---- or: the shown tokens are read before the same rest, and that rest is cut off
none_off : (A : List Look) (a : Lookahead) → no_looks A ≡ true → Off A a
none_off [] a e = tt
none_off (c ∷ A) a e = absurd (true≢false (sym e))

abbrev cut_off : Rule → Bool
cut_off k = and (no_looks (shown_summary_of false k).shuns) (and (cut_of k) (spaced_of k))

ready_there : (p : Summary) (a : Lookahead) → no_looks p.shuns ≡ true → Ready p a a
ready_there p a w = ready p a a (agree_same p.ends a a refl) (stay_off_same p.halts a a refl) (none_off p.shuns a w)

shown_cut : (k : Rule) (ts : Stream) (s : Syntax) (r : Stream) → reads_shown k ≡ true → cut_off k ≡ true → parse_rule k ts ≡ Some (s, r) → parse_rule k (show s) ≡ Some (s, end)
shown_cut k ts s r w v e =
    let (t, a, h) = parse_rule_known k ts (s, r) e in
    let v' = and_right (no_looks (shown_summary_of false k).shuns) _ v in
    let (u, d, i) = shown_again k t ts r r w a (ready_there (shown_summary_of false k) (lookahead r) (and_left (no_looks (shown_summary_of false k).shuns) _ v)) in
    let c = cut (rule k) u (show (value_of t)) end r (or_right (closed_of k) (cut_of k) (and_left (cut_of k) _ v')) (shown_unjoined (rule k) t ts r (and_right (cut_of k) _ v') a) d in
    let b : DerivesPrefix table (rule k) u (show s) end = subst (λ z. DerivesPrefix table (rule k) u z end) (ap show h) c in
    parse_rule_found k (show s) u end b ∙ ap (λ z. Some (z, end)) (i ∙ h)

abbrev well_placed : Rule → Bool
well_placed k = and (reads_shown k) (or (cut_well (shown_summary_of false k)) (cut_off k))

cut_holds : (k : Rule) → is_alone k ≡ true → well_placed k ≡ true
cut_holds k = by_implied (is_alone k) _ (of_every_rule (λ k. implies (is_alone k) (well_placed k)) refl refl k)

pub show_is_alone : ShowIsAlone
show_is_alone k w ts s r e = go (or_split (cut_well (shown_summary_of false k)) _ (and_right (reads_shown k) _ (cut_holds k w)))
  where
    go : (cut_well (shown_summary_of false k) ≡ true) ⊎ (cut_off k ≡ true) → parse_rule k (show s) ≡ Some (s, end)
    go (inl v) = shown_alone k ts s r (and_left (reads_shown k) _ (cut_holds k w)) e (ready_at_end (shown_summary_of false k) (lookahead r) v)
    go (inr v) = shown_cut k ts s r (and_left (reads_shown k) _ (cut_holds k w)) v e

-- ---- and before a mark
-- a form with this summary reads the same before the end as before this mark
abbrev ends_as : Summary → Text → Bool
ends_as p m = and (known_mark m) (every (λ f. keeps p (move f Ended [])) (mark_first_set m))

abbrev shown_before : Rule → Text → Bool
shown_before k m = and (reads_shown k) (or (ends_as (shown_summary_of false k) m) (cut_off k))

ready_before : (p : Summary) (m : Text) (a : Lookahead) → ends_as p m ≡ true → mem a.terminal (mark_first_set m) ≡ true → Ready p a (lookahead end)
ready_before p m a w e =
    let v = every_at (λ f. keeps p (move f Ended [])) a.terminal (mark_first_set m) (and_right (known_mark m) _ w) e in
    let n = move a.terminal Ended [] in
    let x = and_right (agree p.ends n) _ v in
    ready p a (lookahead end) (agree_sound a (lookahead end) [] tt p.ends (and_left (agree p.ends n) _ v))
    (stay_off_sound a (lookahead end) [] tt p.halts (and_left (stay_off p.halts n) _ x)) (clear_sound p.shuns (lookahead end) (and_right (stay_off p.halts n) _ x))

mark_present : (m : Text) (r : Stream) → known_mark m ≡ true → sees (at_mark m) r ≡ true → mem (lookahead r).terminal (mark_first_set m) ≡ true
mark_present m r w e = go (take_mark m r) refl (sym (sees_mark m w r) ∙ e)
  where
    go : (o : Out) → take_mark m r ≡ o → taken o ≡ true → mem (lookahead r).terminal (mark_first_set m) ≡ true
    go None f e = absurd (true≢false (sym e))
    go (Some x) f e =
        let (xs, i, q, h) = mark_known m r x f in
        ap (λ l. mem (lookahead r).terminal (mark_first_set l)) (sym q) ∙ mark_head xs r x.1 h

abbrev every_text : (Text → Bool) → List Text → Bool
every_text p [] = true
every_text p (m ∷ l) = and (p m) (every_text p l)

text_at : (p : Text → Bool) (m : Text) (l : List Text) → every_text p l ≡ true → one_of_texts m l ≡ true → p m ≡ true
text_at p m [] w e = absurd (true≢false (sym e))
text_at p m (x ∷ l) w e = go (or_split (same_text m x) (one_of_texts m l) e) (text_at p m l)
  where
    go : (same_text m x ≡ true) ⊎ (one_of_texts m l ≡ true) → (every_text p l ≡ true → one_of_texts m l ≡ true → p m ≡ true) → p m ≡ true
    go (inl q) ih = ap p (same_text_eq m x q) ∙ and_left (p x) _ w
    go (inr q) ih = ih (and_right (p x) _ w) q

marks_hold : (k : Rule) → every_text (shown_before k) (is_before k) ≡ true
marks_hold k = of_every_rule (λ k. every_text (shown_before k) (is_before k)) refl refl k

pub show_is_before : ShowIsBefore
show_is_before k m w ts s r e f =
    let u = text_at (shown_before k) m (is_before k) (marks_hold k) w in
    go (and_left (reads_shown k) _ u) (or_split (ends_as (shown_summary_of false k) m) _ (and_right (reads_shown k) _ u))
  where
    go : reads_shown k ≡ true → (ends_as (shown_summary_of false k) m ≡ true) ⊎ (cut_off k ≡ true) → parse_rule k (show s) ≡ Some (s, end)
    go u (inl v) = shown_alone k ts s r u e (ready_before (shown_summary_of false k) m (lookahead r) v (mark_present m r (and_left (known_mark m) _ v) f))
    go u (inr v) = shown_cut k ts s r u v e

pub same_show : SameShow
same_show k w a b s t e f = (
  λ p. like_values k (show s) (show t) s t p (show_is_read k w a s e) (show_is_read k w b t f),
  λ p. sym (show_plain s) ∙ ap show p ∙ show_plain t,
)
