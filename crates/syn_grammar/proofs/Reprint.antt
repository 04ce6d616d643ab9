-- Every print is read again, for every table whose summaries hold and whose forms are `fine`.
use Rattle.std.proofs.Common.{◌≡◌, ℕ, Bool, true, false, List, [], ◌∷◌, ◌++◌, refl, sym, ap, ◌∙◌, ap₂, subst, true≢false, ◌⊎◌, inl, inr}
use Rattle.syn_grammar.specs.Words.{colon, comma, less, greater, lifetime_mark}
use Rattle.syn_grammar.specs.Tokens.{Span, Stream, end, leaf, punct, group, ◌⧺◌, or, and, no, pick, Terminal, Ended, Punctuation, Lookahead, lookahead_with, same_terminal, mem, Look, ended, at_mark, ◌or_else◌, answers, starts_mark, is_name, is_ended, asked, leaf_terminal, punctuation_lookahead, lookahead, present, at_generics, at_parameter, Before_parameter, call_site}
use Rattle.syn_grammar.specs.Rules.{Rule}
use Rattle.syn_grammar.specs.Grammar.{Syntax, Nothing, Token, Mark, Lifetime, Both, Left, Right, Node, Vanishing, Group, Raw, Rest, Case, Captured, Done, Last, More, Order, Such, chars, spell, Spelled, DerivesPrefix, terminals, suits, Grammar, empty, token, mark, lifetime, ◌&◌, when◌then◌else◌, vanishing, inside, raw, rest_after, either, one_of, rule, such, captured, row, ordered, choose, among, at_row_end, bare, show, following, sort, print, renew, name, supplied, at_unnamed, underscore, Unshown, Impl, unshown, generics_before, opt_generics, no_generics, Shaped, shaped, led_part, led}
use Rattle.syn_grammar.proofs.Sets.{or_split, and_left, and_right, no_true, mem_here, mem_left, mem_right, every, every_at, may, must, off_of, or_right, group_terminal}
use Rattle.syn_grammar.specs.RuleNumbers.{same_rule}
use Rattle.syn_grammar.proofs.RuleLemmas.{same_rule_eq}
use Rattle.syn_grammar.proofs.Plain.{holds_renew}
use Rattle.syn_grammar.proofs.Streams.{append_end, append_append, append_spell, same_before, lookahead_end}
use Rattle.syn_grammar.proofs.FirstSets.{Start, nullable, first_set, mark_first_set, mark_head, lifetime_lookahead, name_terminal, IsSaid, begins}
use Rattle.syn_grammar.proofs.Extend.{closes, alone}
use Rattle.syn_grammar.proofs.NeverFollow.{never_follow, IsOff, ended_off}
use Rattle.syn_grammar.proofs.Again.{move, mem2_right, mem2_cross, clear, agree_same, agree_left, off_right, ahead_looks}
use Rattle.syn_grammar.proofs.Summaries.{Summary, seq_summary, when_summary, empty_summary, vanishing_summary, either_summary, one_summary, seam, kept, filled, HasLookaheads, alike, altered, passed, covers, seq_lookahead, seam_sound, Ready, ready, at_end, ready_left, ready_right, ready_then, ready_else, ready_second, ready_vanishing, cover_lookahead, cover_ready, when_left, when_right, kept_off, when_sure, vanishing_gone, vanishing_stays, either_left, either_right, one_lookahead, one_ready, prints}
use Rattle.syn_grammar.proofs.Marks.{mark_terminal, mark_lookahead, lookahead_spell, spell_spelled, last_asked, token_summary, token_lookahead, mark_summary, marked, inner_summary, inner_lookahead}
use Rattle.syn_grammar.proofs.Surely.{surely, surely_sound}
use Rattle.syn_grammar.proofs.Parts.{group_summary, edges, in_row, ready_at_edge, not_ended, wild_out, wild_lookahead, colon_summary, supplied_colon, supplied_summary, supplied_fine, named_lookahead, mentions, heeds, listens, lead_summary, solid, solid_lookahead, sure_first, printed_after, inside_summary, inside_lookahead}

module _ (said : Bool → Rule → Summary) (heard : Rule → Bool) (starts : Rule → Start) (closed : Rule → Bool) where
  abbrev pub summary : Bool → Grammar → Summary
  summary a empty = empty_summary
  summary a (token k x) = token_summary (pick a k []) (terminals x)
  summary a (mark b cs) = mark_summary (and a b) cs []
  summary a (rest_after cs) = inner_summary true cs (ended ∷ [])
  summary a lifetime = record { stays = Punctuation lifetime_mark ∷ []; moves = []; nullable = false; gone = []; ends = []; halts = []; shuns = [] }
  summary a (g & h) = seq_summary (never_follow starts [] h) (summary a g) (summary (heeds a (summary a g)) h)
  summary a (when c then g else h) = when_summary c (summary (or a (mentions c)) g) (summary (or a (mentions c)) h)
  summary a (vanishing b c g) = vanishing_summary b c (summary (or a (mentions c)) g)
  summary a (inside d g) = inside_summary d (summary (listens d) g)
  summary a (raw d) = group_summary d true true
  summary a (either g h) = either_summary (summary a g) (summary a h)
  summary a (one_of ks) = one_summary (said a) ks
  summary a (rule k) = said a k
  summary a (such q g) = summary a g
  summary a (shaped j g) = summary a g
  summary a (captured g) = record { stays = first_set starts g; moves = []; nullable = false; gone = []; ends = []; halts = []; shuns = [] }
  summary a unshown = empty_summary
  summary a (supplied n p t) = supplied_summary n (summary true p) (summary false t)
  summary a (generics_before x y h) = lead_summary (first_set starts h) (summary false h)
  summary a (row g h) = empty_summary
  summary a (ordered g h) = inner_summary false less []

  -- every print of the form, before a lookahead with one of these terminals, meets this condition
  abbrev token_sure : Look → List Terminal → Grammar → Bool
  token_sure c A (token k x) = every (λ f. surely true (asked f) A c f) (terminals x)
  token_sure c A _ = false

  abbrev sure : Bool → Look → List Terminal → Grammar → Bool
  sure a c A (g & h) = or (token_sure c (prints (summary (heeds a (summary a g)) h) ++ A) g) (and (every (must c) (prints (summary a g))) (or (solid (summary a g)) (sure (heeds a (summary a g)) c A h)))
  sure a c A (when d then g else h) = and (sure (or a (mentions d)) c A g) (sure (or a (mentions d)) c A h)
  sure a c A (either g h) = and (sure a c A g) (sure a c A h)
  sure a c A (rule k) = and (every (must c) (prints (said a k))) (solid (said a k))
  sure a c A _ = false

  -- the print of a list in `< >` meets the look, since each of its members begins a parameter
  abbrev sure_list : Look → Grammar → Bool
  sure_list c (ordered x y) = and (and (sure false at_parameter edges x) (sure false at_parameter edges y)) (answers c (lookahead_with (Punctuation less) (Before_parameter ∷ [])))
  sure_list c _ = false

  -- a `when` turns in the print as it did in the source
  abbrev turns : Bool → Look → Grammar → Summary → Bool
  turns a c g q = kept c (pick (sure_list c g) empty_summary (summary (or a (mentions c)) g)) q

  abbrev all_heard : List Rule → Bool
  all_heard [] = true
  all_heard (k ∷ ks) = and (heard k) (all_heard ks)

  -- each condition of the form holds in its print
  abbrev pub fine : Bool → Grammar → Bool
  fine a (g & h) = and (fine a g) (and (fine (heeds a (summary a g)) h) (seam (never_follow starts [] g) (summary a g) (summary (heeds a (summary a g)) h)))
  fine a (when c then g else h) = and (fine (or a (mentions c)) g) (and (fine (or a (mentions c)) h) (turns a c g (summary (or a (mentions c)) h)))
  fine a (vanishing b c g) = and (fine (or a (mentions c)) g) (turns a c g empty_summary)
  fine a (inside d g) = and (fine (listens d) g) (clear (summary (listens d) g).shuns Ended)
  fine a (either g h) = and (fine a g) (fine a h)
  fine a (one_of ks) = or (no a) (all_heard ks)
  fine a (rule k) = or (no a) (heard k)
  fine a (such q g) = fine a g
  fine a (shaped j g) = fine a g
  fine a (captured g) = and (closes closed g) (no (nullable starts g))
  fine a (supplied n p t) = and (and (fine true p) (fine false t)) (supplied_fine n (never_follow starts [] p) (summary true p))
  fine a (generics_before x y h) = and (and (and (fine false x) (and (fine false y) (and (in_row (summary false x)) (in_row (summary false y))))) (and (sure false at_parameter edges x) (sure false at_parameter edges y))) (and (fine false h) (and (closes closed h) (and (no (nullable starts h)) (solid (summary false h)))))
  fine a (row g h) = false
  fine a (ordered g h) = and (fine false g) (and (fine false h) (and (in_row (summary false g)) (in_row (summary false h))))
  fine a _ = true

  -- the members of generics before a type: each printed one begins a parameter
  abbrev lead_fine : Grammar → Grammar → Bool
  lead_fine x y = and (and (fine false x) (and (fine false y) (and (in_row (summary false x)) (in_row (summary false y))))) (and (sure false at_parameter edges x) (sure false at_parameter edges y))

  abbrev pub IsSummary : (Rule → Grammar) → Type 0
  IsSummary table = (a : Bool) (k : Rule) → or (no a) (heard k) ≡ true → (covers (said a k) (summary a (table k)) ≡ true) × (fine a (table k) ≡ true)

  module _ (table : Rule → Grammar) (law : IsSummary table) (starts_hold : IsSaid starts table) (never_follow_hold : IsOff starts table) (closed_hold : (k : Rule) → closed k ≡ true → closes closed (table k) ≡ true) where
    fine_choice : (k : Bool) (g h : Grammar) → fine false g ≡ true → fine false h ≡ true → fine false (choose k g h) ≡ true
    fine_choice true g h a b = a
    fine_choice false g h a b = b

    ready_choice : (k : Bool) (g h : Grammar) (a b : Lookahead) → and (in_row (summary false g)) (in_row (summary false h)) ≡ true → mem a.terminal edges ≡ true → mem b.terminal edges ≡ true →
        Ready (summary false (choose k g h)) a b
    ready_choice true g h a b w x y = ready_at_edge (summary false g) (and_left (in_row (summary false g)) _ w) a b x y
    ready_choice false g h a b w x y = ready_at_edge (summary false h) (and_right (in_row (summary false g)) _ w) a b x y

    not_ended_choice : (k : Bool) (g h : Grammar) (a b ra rb : Lookahead) → and (in_row (summary false g)) (in_row (summary false h)) ≡ true → HasLookaheads (summary false (choose k g h)) a b ra rb → answers at_row_end b ≡ false
    not_ended_choice true g h a b ra rb w f = not_ended (summary false g) (and_left (in_row (summary false g)) _ w) a b ra rb f
    not_ended_choice false g h a b ra rb w f = not_ended (summary false h) (and_right (in_row (summary false g)) _ w) a b ra rb f

    -- one of a row, at any place
    abbrev pub Member : Grammar → Grammar → Bool → Syntax → Type 0
    Member g h k s = (r' : Stream) → mem (lookahead r').terminal edges ≡ true → DerivesPrefix table (choose k g h) s (show s ⧺ r') r' × (present at_row_end (show s ⧺ r') ≡ false)

    abbrev pub Members : Grammar → Grammar → Syntax → Type 0
    Members g h Done = Unit {0}
    Members g h (Last k s) = Member g h k s
    Members g h (More k s sp t) = Member g h k s × Members g h t
    Members g h _ = ⊥

    members_after : (g h : Grammar) (s : Syntax) (sp : Span) (t : Syntax) → Member g h false s → Members g h t → Members g h (following s sp t)
    members_after g h s sp (More true x q u) a b = (b.0, members_after g h s sp u a b.1)
    members_after g h s sp (Last true x) a b = (b, (a, tt))
    members_after g h s sp _ a b = (a, b)

    members_sort : (g h : Grammar) (s : Syntax) → Members g h s → Members g h (sort s)
    members_sort g h (More true s sp t) a = (a.0, members_sort g h t a.1)
    members_sort g h (More false s sp t) a = members_after g h s sp (sort t) a.0 (members_sort g h t a.1)
    members_sort g h _ a = a

    row_again : (g h : Grammar) (s : Syntax) (r' : Stream) → Members g h s → (lookahead r').terminal ≡ Punctuation greater → DerivesPrefix table (row g h) s (show s ⧺ r') r'
    row_again g h Done r' a e = (ap (starts_mark greater) e, refl)
    row_again g h (Last k s) r' a e = let p = a r' (ap (λ z. mem z edges) e) in (p.1, p.0, ap (starts_mark comma) e)
    row_again g h (More k s sp t) r' a e =
        let m = punct 44 false sp (show t ⧺ r') in
        let p = a.0 m refl in
        subst (λ z. DerivesPrefix table (row g h) (More k s sp t) z r') (sym (append_append (show s) (punct 44 false sp (show t)) r'))
        (p.1, m, p.0, show t ⧺ r', (false, refl), row_again g h t r' a.1 e)
    row_again g h _ r' a e = elim a [ ]

    -- PRINTED PARAMETERS: each begins one, so generics are read where the printed list is
    abbrev Sure : Syntax → Type 0
    Sure s = (r' : Stream) → mem (lookahead r').terminal edges ≡ true → present at_parameter (show s ⧺ r') ≡ true

    abbrev Sures : Syntax → Type 0
    Sures Done = Unit {0}
    Sures (Last k s) = Sure s
    Sures (More k s sp t) = Sure s × Sures t
    Sures _ = ⊥

    sures_after : (s : Syntax) (sp : Span) (t : Syntax) → Sure s → Sures t → Sures (following s sp t)
    sures_after s sp (More true x q u) a b = (b.0, sures_after s sp u a b.1)
    sures_after s sp (Last true x) a b = (b, (a, tt))
    sures_after s sp _ a b = (a, b)

    sures_sort : (s : Syntax) → Sures s → Sures (sort s)
    sures_sort (More true s sp t) a = (a.0, sures_sort t a.1)
    sures_sort (More false s sp t) a = sures_after s sp (sort t) a.0 (sures_sort t a.1)
    sures_sort _ a = a

    abbrev at_list : Look
    at_list = at_mark greater or_else at_parameter

    sures_lookahead : (l : Syntax) (v : Stream) → Sures l → (lookahead v).terminal ≡ Punctuation greater → present at_list (show l ⧺ v) ≡ true
    sures_lookahead Done v w e = ap (λ f. or (starts_mark greater f) (present at_parameter v)) e
    sures_lookahead (Last k s) v w e = or_right (present (at_mark greater) (show s ⧺ v)) _ (w v (ap (λ z. mem z edges) e))
    sures_lookahead (More k s sp t) v w e =
        ap (present at_list) (append_append (show s) (punct 44 false sp (show t)) v)
        ∙ or_right (present (at_mark greater) (show s ⧺ punct 44 false sp (show t ⧺ v))) _ (w.0 (punct 44 false sp (show t ⧺ v)) refl)
    sures_lookahead _ v w e = elim w [ ]

    led_lookahead : (g h : Grammar) (xs : List (ℕ × Span)) (l : Syntax) (ys : List (ℕ × Span)) (u : Stream) → Sures l →
        DerivesPrefix table (ordered g h) (Order xs l ys) (show (Order xs l ys) ⧺ u) u → (present at_generics (show (Order xs l ys) ⧺ u) ≡ true) × ((lookahead (show (Order xs l ys) ⧺ u)).terminal ≡ Punctuation less)
    led_lookahead g h [] l ys u w (z, e, d, i, a, e', d') = elim d [ ]
    led_lookahead g h (p ∷ p' ∷ xs) l ys u w (z, e, d, i, a, e', d') = cc (e)
    led_lookahead g h (p ∷ []) l ys u w (z, e, d, i, a, e', d') =
        let c : p.0 ≡ 60 = cc (e) in
        let last : lookahead (spell ys u) ≡ mark_lookahead greater (lookahead u) = lookahead_spell ys u ∙ ap (λ z. mark_lookahead z (lookahead u)) e' in
        let after_less : (show l ⧺ spell ys end) ⧺ u ≡ show l ⧺ spell ys u = append_append (show l) (spell ys end) u ∙ ap (λ z. show l ⧺ z) (append_spell ys end u) in
        let t : present at_list ((show l ⧺ spell ys end) ⧺ u) ≡ true = ap (present at_list) after_less ∙ sures_lookahead l (spell ys u) w (ap (λ z. z.terminal) last) in
        (ap (λ k. answers at_generics (punctuation_lookahead k false (lookahead ((show l ⧺ spell ys end) ⧺ u)))) c ∙ ap (λ v. answers at_generics (lookahead_with (Punctuation less) (pick v (Before_parameter ∷ []) []))) t, ap (λ k. Punctuation (k ∷ [])) c)

    -- the lookahead of such a list
    led_exactly : (g h : Grammar) (xs : List (ℕ × Span)) (l : Syntax) (ys : List (ℕ × Span)) (u : Stream) → Sures l →
        DerivesPrefix table (ordered g h) (Order xs l ys) (show (Order xs l ys) ⧺ u) u → lookahead (show (Order xs l ys) ⧺ u) ≡ lookahead_with (Punctuation less) (Before_parameter ∷ [])
    led_exactly g h [] l ys u w (z, e, d, i, a, e', d') = elim d [ ]
    led_exactly g h (p ∷ p' ∷ xs) l ys u w (z, e, d, i, a, e', d') = cc (e)
    led_exactly g h (p ∷ []) l ys u w (z, e, d, i, a, e', d') =
        let c : p.0 ≡ 60 = cc (e) in
        let last : lookahead (spell ys u) ≡ mark_lookahead greater (lookahead u) = lookahead_spell ys u ∙ ap (λ z. mark_lookahead z (lookahead u)) e' in
        let after_less : (show l ⧺ spell ys end) ⧺ u ≡ show l ⧺ spell ys u = append_append (show l) (spell ys end) u ∙ ap (λ z. show l ⧺ z) (append_spell ys end u) in
        let t : present at_list ((show l ⧺ spell ys end) ⧺ u) ≡ true = ap (present at_list) after_less ∙ sures_lookahead l (spell ys u) w (ap (λ z. z.terminal) last) in
        ap (λ k. punctuation_lookahead k false (lookahead ((show l ⧺ spell ys end) ⧺ u))) c ∙ ap (λ v. lookahead_with (Punctuation less) (pick v (Before_parameter ∷ []) [])) t

    sure_choice : (k : Bool) (g h : Grammar) → and (sure false at_parameter edges g) (sure false at_parameter edges h) ≡ true → sure false at_parameter edges (choose k g h) ≡ true
    sure_choice true g h w = and_left (sure false at_parameter edges g) _ w
    sure_choice false g h w = and_right (sure false at_parameter edges g) _ w

    token_printed : (c : Look) (A : List Terminal) (g : Grammar) (s : Syntax) (ts m z : Stream) → token_sure c A g ≡ true → DerivesPrefix table g s ts m → mem (lookahead z).terminal A ≡ true → present c (print s ⧺ z) ≡ true
    token_printed c A (token k x) (Token y sp) ts m z w a e =
        surely_sound true (asked (leaf_terminal y)) A c (leaf_terminal y) (lookahead z) e (every_at (λ f. surely true (asked f) A c f) (leaf_terminal y) (terminals x) w (and_right (suits x y) _ a.0))
    token_printed c A (token k x) _ ts m z w a e = elim a [ ]
    token_printed c A _ s ts m z w a e = absurd (true≢false (sym w))

    or_off_left : (a b : Bool) → or a b ≡ false → a ≡ false
    or_off_left true b e = absurd (true≢false e)
    or_off_left false b e = refl

    -- `< >` is printed where generics would be read, and nothing only elsewhere
    led_empty : (x y h : Grammar) (l : List Terminal) (s : Syntax) (u r' : Stream) → DerivesPrefix table h s u r' → lookahead u ≡ lookahead (show s) → mem (lookahead u).terminal l ≡ true → (v : Bool) → led s ≡ v →
        DerivesPrefix table (generics_before x y h) (Impl (pick v no_generics (Right Nothing)) s) (show (pick v no_generics (Right Nothing)) ⧺ u) r' × (mem (lookahead (show (pick v no_generics (Right Nothing)) ⧺ u)).terminal (Punctuation less ∷ l) ≡ true)
    led_empty x y h l s u r' a e f true q = ((u, (refl, (punct 62 false call_site u, refl, (false, refl), punct 62 false call_site u, (refl, refl), refl, (false, refl))), a), mem_here (Punctuation less) l)
    led_empty x y h l s u r' a e f false q = ((u, (ap (answers at_generics) e ∙ or_off_left (present at_generics (show s)) (led_part s) q, refl), a), or_right (same_terminal (lookahead u).terminal (Punctuation less)) _ f)

    -- the print before r' is read as the tree without what vanished, and its lookahead is as said
    abbrev pub Again : Bool → Grammar → Syntax → Stream → Stream → Stream → Type 0
    Again j g s ts r r' = DerivesPrefix table g (renew s) (print s ⧺ r') r' × HasLookaheads (summary j g) (lookahead ts) (lookahead (print s ⧺ r')) (lookahead r) (lookahead r')

    named_print : (a : Syntax) (xs : List (ℕ × Span)) (s : Syntax) (r' : Stream) → print (Both a (Both (Mark xs) s)) ⧺ r' ≡ print a ⧺ spell xs (print s ⧺ r')
    named_print a xs s r' = append_append (print a) (spell xs end ⧺ print s) r' ∙ ap (λ u. print a ⧺ u) (append_append (spell xs end) (print s) r' ∙ append_spell xs end (print s ⧺ r'))

    -- the print of generics L and of s
    abbrev Led : Bool → Grammar → Grammar → Grammar → Syntax → Syntax → Stream → Stream → Stream → Type 0
    Led j x y h L s ts r r' = DerivesPrefix table (generics_before x y h) (Impl L (renew s)) (show (Impl L (renew s)) ⧺ r') r' × HasLookaheads (summary j (generics_before x y h)) (lookahead ts) (lookahead (show (Impl L (renew s)) ⧺ r')) (lookahead r) (lookahead r')

    lead : (j : Bool) (x y h : Grammar) (l s : Syntax) (ts m r r' : Stream) → fine j (generics_before x y h) ≡ true → DerivesPrefix table (opt_generics x y) l ts m × DerivesPrefix table h s m r → Again false h s m r r' →
        ((L : Syntax) → DerivesPrefix table (generics_before x y h) (Impl L (renew s)) (show L ⧺ (print s ⧺ r')) r' → mem (lookahead (show L ⧺ (print s ⧺ r'))).terminal (Punctuation less ∷ prints (summary false h)) ≡ true → Led j x y h L s ts r r') × Led j x y h (pick (led (renew s)) no_generics (Right Nothing)) s ts r r' × DerivesPrefix table h (renew s) (print s ⧺ r') r'
    lead j x y h l s ts m r r' w a o = (each, each (pick (led (renew s)) no_generics (Right Nothing)) bare_led.0 bare_led.1, o.0)
      where
        q : Summary
        q = summary false h

        w3 : and (no (nullable starts h)) (solid q) ≡ true
        w3 = and_right (closes closed h) _ (and_right (fine false h) _ (and_right (lead_fine x y) _ w))

        u : Stream
        u = print s ⧺ r'

        source : mem (lookahead ts).terminal (mark_first_set less ++ first_set starts h) ≡ true
        source = begun (begins starts table starts_hold (generics_before x y h) (Impl l s) ts r (m, a.0, a.1))
          where
            begun : (mem (lookahead ts).terminal (mark_first_set less ++ first_set starts h) ≡ true) ⊎ ((nullable starts h ≡ true) × (ts ≡ r)) → mem (lookahead ts).terminal (mark_first_set less ++ first_set starts h) ≡ true
            begun (inl z) = z
            begun (inr z) = absurd (true≢false (sym z.0 ∙ no_true (nullable starts h) (and_left (no (nullable starts h)) _ w3)))

        each : (L : Syntax) → DerivesPrefix table (generics_before x y h) (Impl L (renew s)) (show L ⧺ u) r' → mem (lookahead (show L ⧺ u)).terminal (Punctuation less ∷ prints q) ≡ true → Led j x y h L s ts r r'
        each L b f =
            subst (λ z. DerivesPrefix table (generics_before x y h) (Impl L (renew s)) z r' × HasLookaheads (summary j (generics_before x y h)) (lookahead ts) (lookahead z) (lookahead r) (lookahead r')) (sym (append_append (show L) (print s) r'))
            (b, altered [] (mem2_cross (lookahead ts).terminal (lookahead (show L ⧺ u)).terminal (mark_first_set less ++ first_set starts h) (Punctuation less ∷ prints q) source f) tt)

        lone : lookahead u ≡ lookahead (print s)
        lone =
            let (c, e, k) = alone closed table closed_hold h (renew s) u r' (and_left (closes closed h) _ (and_right (fine false h) _ (and_right (lead_fine x y) _ w))) o.0 in
            sym (k end).1 ∙ ap lookahead (append_end c ∙ same_before c (print s) r' (sym e))

        bare_led : DerivesPrefix table (generics_before x y h) (Impl (pick (led (renew s)) no_generics (Right Nothing)) (renew s)) (show (pick (led (renew s)) no_generics (Right Nothing)) ⧺ u) r'
            × (mem (lookahead (show (pick (led (renew s)) no_generics (Right Nothing)) ⧺ u)).terminal (Punctuation less ∷ prints q) ≡ true)
        bare_led = led_empty x y h (prints q) (renew s) u r' o.0 lone (solid_lookahead q (lookahead m) (lookahead u) (lookahead r) (lookahead r') (and_right (no (nullable starts h)) _ w3) o.1) (led (renew s)) refl

    or_true : (b : Bool) → or b true ≡ true
    or_true true = refl
    or_true false = refl

    heard_among : (j : Bool) (k : Rule) (ks : List Rule) → among k ks ≡ true → or (no j) (all_heard ks) ≡ true → or (no j) (heard k) ≡ true
    heard_among false k ks e w = refl
    heard_among true k [] e w = absurd (true≢false (sym e))
    heard_among true k (l ∷ ks) e w = go (or_split (same_rule k l) (among k ks) e) (heard_among true k ks)
      where
        go : (same_rule k l ≡ true) ⊎ (among k ks ≡ true) → (among k ks ≡ true → all_heard ks ≡ true → heard k ≡ true) → heard k ≡ true
        go (inl q) ih = ap heard (same_rule_eq k l q) ∙ and_left (heard l) _ w
        go (inr q) ih = ih q (and_right (heard l) _ w)

    mutual
      pub again : (j : Bool) (g : Grammar) (s : Syntax) (ts r r' : Stream) → fine j g ≡ true → DerivesPrefix table g s ts r → Ready (summary j g) (lookahead r) (lookahead r') → Again j g s ts r r'
      again j empty Nothing ts r r' w h R = (refl, passed refl (ap lookahead h) refl)
      again j (token b k) (Token x sp) ts r r' w h R = (
        (h.0, refl),
        subst (λ z. HasLookaheads (token_summary (pick j b []) (terminals k)) z (lookahead (leaf x sp r')) (lookahead r) (lookahead r')) (ap lookahead (sym h.1)) (token_lookahead (pick j b []) (terminals k) (leaf_terminal x) (lookahead r) (lookahead r') (lookahead r) (lookahead r') (and_right (suits k x) _ h.0) R.alike_ends),
      )
      again j (mark b cs) (Mark xs) ts r r' w h R =
          subst (λ z. DerivesPrefix table (mark b cs) (Mark xs) z r' × HasLookaheads (mark_summary (and j b) cs []) (lookahead ts) (lookahead z) (lookahead r) (lookahead r')) (sym (append_spell xs end r'))
          ((h.0, spell_spelled xs ts r r' h.1), marked (and j b) cs [] xs ts r r' (lookahead r) (lookahead r') h.0 h.1 (agree_left (pick (and j b) (ahead_looks (last_asked cs)) []) [] (lookahead r) (lookahead r') R.alike_ends))
      again j lifetime (Lifetime sp x sq) ts r r' w h R = (
        refl,
        alike (ap (λ z. mem z.terminal (Punctuation lifetime_mark ∷ [])) (ap lookahead h ∙ lifetime_lookahead sp x sq r)) (ap lookahead h ∙ lifetime_lookahead sp x sq r ∙ sym (lifetime_lookahead sp x sq r')),
      )
      again j (rest_after cs) (Rest xs i) ts r r' w (e, d, n, f) R =
          let z = lookahead_end r' (sym R.alike_ends.0 ∙ ap (λ v. is_ended (lookahead v).terminal) f) in
          subst (λ v. DerivesPrefix table (rest_after cs) (Rest xs i) v r' × HasLookaheads (inner_summary true cs (ended ∷ [])) (lookahead ts) (lookahead v) (lookahead r) (lookahead r'))
          (sym (append_spell xs i r' ∙ ap (spell xs) (ap (λ v. i ⧺ v) z ∙ append_end i)))
          ((e, spell_spelled xs ts i i d, n, z), inner_lookahead true cs (ended ∷ []) (lookahead ts) (lookahead (spell xs i)) (lookahead r) (lookahead r') (marked true cs (ended ∷ []) xs ts i i (lookahead r) (lookahead r') e d (agree_same (ahead_looks (last_asked cs)) (lookahead i) (lookahead i) refl)))
      again j (g & h) (Both s t) ts r r' w (m, a, b) R =
          let u = heeds j (summary j g) in
          let p = summary j g in
          let q = summary u h in
          let y = again u h t m r r' (and_left (fine u h) _ (and_right (fine j g) _ w)) b (ready_second (never_follow starts [] h) p q (lookahead r) (lookahead r') R) in
          let k = seam_sound (never_follow starts [] g) (never_follow starts [] h) p q (lookahead m) (lookahead (print t ⧺ r')) (lookahead r) (lookahead r') (and_right (fine u h) _ (and_right (fine j g) _ w)) (ended_off starts table never_follow_hold [] g s ts m tt a) (ended_off starts table never_follow_hold [] h t m r tt b) y.1 R in
          let x = again j g s ts m (print t ⧺ r') (and_left (fine j g) _ w) a k in
          subst (λ z. DerivesPrefix table (g & h) (Both (renew s) (renew t)) z r' × HasLookaheads (seq_summary (never_follow starts [] h) p q) (lookahead ts) (lookahead z) (lookahead r) (lookahead r')) (sym (append_append (print s) (print t) r'))
          ((print t ⧺ r', x.0, y.0), seq_lookahead (never_follow starts [] h) p q (lookahead ts) (lookahead (print s ⧺ (print t ⧺ r'))) (lookahead m) (lookahead (print t ⧺ r')) (lookahead r) (lookahead r') x.1 y.1)
      again j (when c then g else h) (Left s) ts r r' w (e, a) R =
          let u = or j (mentions c) in
          let p = summary u g in
          let q = summary u h in
          let x = again u g s ts r r' (and_left (fine u g) _ w) a (ready_then c p q (lookahead r) (lookahead r') R) in
          go (sure_list c g) refl (and_right (fine u h) _ (and_right (fine u g) _ w)) x (λ v. list_sure c g s ts r r' u v (and_left (fine u g) _ w) a x.0)
        where
          go : (v : Bool) → sure_list c g ≡ v → kept c (pick (sure_list c g) empty_summary (summary (or j (mentions c)) g)) (summary (or j (mentions c)) h) ≡ true → Again (or j (mentions c)) g s ts r r' →
              (sure_list c g ≡ true → (present c (print s ⧺ r') ≡ true) × (no (filled (summary (or j (mentions c)) g).gone) ≡ true)) →
              DerivesPrefix table (when c then g else h) (Left (renew s)) (print s ⧺ r') r' × HasLookaheads (summary j (when c then g else h)) (lookahead ts) (lookahead (print s ⧺ r')) (lookahead r) (lookahead r')
          go false i w x f =
              let p = summary (or j (mentions c)) g in
              let q = summary (or j (mentions c)) h in
              let k = when_left c p q (lookahead ts) (lookahead (print s ⧺ r')) (lookahead r) (lookahead r') (subst (λ v. kept c (pick v empty_summary p) q ≡ true) i w) e x.1 R in
              ((k.0, x.0), k.1)
          go true i w x f = (((f i).0, x.0), when_sure c (summary (or j (mentions c)) g) (summary (or j (mentions c)) h) (lookahead ts) (lookahead (print s ⧺ r')) (lookahead r) (lookahead r') (f i).1 e x.1)
      again j (when c then g else h) (Right s) ts r r' w (e, a) R =
          let u = or j (mentions c) in
          let p = summary u g in
          let q = summary u h in
          let x = again u h s ts r r' (and_left (fine u h) _ (and_right (fine u g) _ w)) a (ready_else c p q (lookahead r) (lookahead r') R) in
          let k = when_right c p q (lookahead ts) (lookahead (print s ⧺ r')) (lookahead r) (lookahead r') (kept_off c (pick (sure_list c g) empty_summary p) q (and_right (fine u h) _ (and_right (fine u g) _ w))) e x.1 R in
          ((k.0, x.0), k.1)
      again j (vanishing b c g) (Vanishing b' s) ts r r' w (e, a) R =
          let u = or j (mentions c) in
          let x = again j (when c then g else empty) s ts r r' (ap₂ and (and_left (fine u g) _ w) (and_right (fine u g) _ w)) a (ready_vanishing b c (summary u g) (lookahead r) (lookahead r') R) in
          go b e (or b' (bare s)) refl x
        where
          go : (d : Bool) → d ≡ b' → (v : Bool) → or b' (bare s) ≡ v → Again j (when c then g else empty) s ts r r' →
              DerivesPrefix table (vanishing d c g) (Vanishing b' (pick v (Right Nothing) (renew s))) (show (pick v (Right Nothing) (renew s)) ⧺ r') r' × HasLookaheads (vanishing_summary d c (summary (or j (mentions c)) g)) (lookahead ts) (lookahead (show (pick v (Right Nothing) (renew s)) ⧺ r')) (lookahead r) (lookahead r')
          go d e true q x = ((e, ((off_right (when_summary c (summary (or j (mentions c)) g) empty_summary).shuns (c ∷ []) (lookahead r') R.shunned).0, refl)), vanishing_gone d c (summary (or j (mentions c)) g) (lookahead ts) (lookahead (print s ⧺ r')) (lookahead r) (lookahead r') x.1)
          go false e false q x = ((e, x.0), vanishing_stays c (summary (or j (mentions c)) g) (lookahead ts) (lookahead (print s ⧺ r')) (lookahead r) (lookahead r') x.1)
          go true e false q x = absurd (true≢false (ap (λ z. or z (bare s)) e ∙ q))
      again j (inside d g) (Group d' o c s) ts r r' w (e, i, f, a) R =
          let x = again (listens d) g s i end end (and_left (fine (listens d) g) _ w) a (at_end (summary (listens d) g) (and_right (fine (listens d) g) _ w)) in
          let y = subst (λ z. DerivesPrefix table g (renew s) z end × HasLookaheads (summary (listens d) g) (lookahead i) (lookahead z) (lookahead end) (lookahead end)) (append_end (print s)) x in (
            (e, print s, refl, y.0),
            subst (λ z. HasLookaheads (summary j (inside d g)) z (lookahead (group d' o c (print s) r')) (lookahead r) (lookahead r')) (ap lookahead (sym f))
                (subst (λ v. HasLookaheads (summary j (inside d g)) (lookahead (group v o c i r)) (lookahead (group v o c (print s) r')) (lookahead r) (lookahead r')) e
                (inside_lookahead d (summary (listens d) g) (lookahead i) (lookahead (print s)) (lookahead r) (lookahead r') y.1)),
          )
      again j (raw d) (Raw d' o c i) ts r r' w (e, f) R = (
        (e, refl),
        subst (λ z. HasLookaheads (group_summary d true true) z (lookahead (group d' o c i r')) (lookahead r) (lookahead r')) (ap lookahead (sym f))
            (subst (λ v. HasLookaheads (group_summary d true true) (lookahead (group v o c i r)) (lookahead (group v o c i r')) (lookahead r) (lookahead r')) e (alike (group_terminal d (lookahead i).terminal) refl)),
      )
      again j (either g h) (Left s) ts r r' w a R =
          let x = again j g s ts r r' (and_left (fine j g) _ w) a (ready_left (summary j g) (summary j h) (lookahead r) (lookahead r') R) in
          (x.0, either_left (summary j g) (summary j h) (lookahead ts) (lookahead (print s ⧺ r')) (lookahead r) (lookahead r') x.1)
      again j (either g h) (Right s) ts r r' w a R =
          let x = again j h s ts r r' (and_right (fine j g) _ w) a (ready_right (summary j g) (summary j h) (lookahead r) (lookahead r') R) in
          (x.0, either_right (summary j g) (summary j h) (lookahead ts) (lookahead (print s ⧺ r')) (lookahead r) (lookahead r') x.1)
      again j (one_of ks) (Case k s) ts r r' w (e, a) R =
          let l = law j k (heard_among j k ks e w) in
          let c = l.0 in
          let x = again j (table k) s ts r r' l.1 a (cover_ready (said j k) (summary j (table k)) c (lookahead r) (lookahead r') (one_ready (said j) k ks (lookahead r) (lookahead r') e R)) in
          ((e, x.0), one_lookahead (said j) k ks (lookahead ts) (lookahead (print s ⧺ r')) (lookahead r) (lookahead r') e (cover_lookahead (said j k) (summary j (table k)) c (lookahead ts) (lookahead (print s ⧺ r')) (lookahead r) (lookahead r') x.1))
      again j (rule k) (Node s) ts r r' w a R =
          let l = law j k w in
          let c = l.0 in
          let x = again j (table k) s ts r r' l.1 a (cover_ready (said j k) (summary j (table k)) c (lookahead r) (lookahead r') R) in
          (x.0, cover_lookahead (said j k) (summary j (table k)) c (lookahead ts) (lookahead (print s ⧺ r')) (lookahead r) (lookahead r') x.1)
      again j (such t g) (Such s) ts r r' w (e, a) R = let x = again j g s ts r r' w a R in ((holds_renew t s e, x.0), x.1)
      again j (shaped i g) (Shaped i' s) ts r r' w (e, a) R = let x = again j g s ts r r' w a R in ((e, x.0), x.1)
      again j (captured g) (Captured s i) ts r r' w (e, a) R =
          let (c, f, k) = alone closed table closed_hold g s ts r (and_left (closes closed g) _ w) a in
          let same = same_before c i r (sym f ∙ e) in
          let q = k r' in
          let same_lookahead = ap (λ z. lookahead (z ⧺ r')) (sym same) ∙ q.1 in
          ((refl, subst (λ z. DerivesPrefix table g s (z ⧺ r') r') same q.0), go same_lookahead (begins starts table starts_hold g s ts r a))
        where
          go : lookahead (i ⧺ r') ≡ lookahead ts → (mem (lookahead ts).terminal (first_set starts g) ≡ true) ⊎ ((nullable starts g ≡ true) × (ts ≡ r)) → HasLookaheads (summary j (captured g)) (lookahead ts) (lookahead (i ⧺ r')) (lookahead r) (lookahead r')
          go f (inl h) = alike h (sym f)
          go f (inr h) = absurd (true≢false (sym h.0 ∙ no_true (nullable starts g) (and_right (closes closed g) _ w)))
      again j unshown (Unshown s) ts r r' w h R = ((ap renew h.0, refl), passed refl (ap lookahead h.1) refl)
      again j (supplied n p t) (Both a (Both (Mark xs) s)) ts r r' w (inl (v, x, sp, c, e, pa, f, q)) R =
          let o = never_follow starts [] p in
          let w' = and_right (and (fine true p) (fine false t)) _ w in
          let solid = and_left (and (no (summary true p).nullable) (no (filled (summary true p).gone))) _ w' in
          let w2 = and_right (and (no (summary true p).nullable) (no (filled (summary true p).gone))) _ w' in
          let y = again false t s ts r r' (and_right (fine true p) _ (and_left (and (fine true p) (fine false t)) _ w)) q (ready (summary false t) (lookahead r) (lookahead r') R.alike_ends R.halted R.shunned) in
          let u = print s ⧺ r' in
          let z = spell xs u in
          let k = seam_sound o [] (summary true p) colon_summary (lookahead end) (lookahead z) (lookahead end) (lookahead z) (and_left (seam o (summary true p) colon_summary) _ w2) (ended_off starts table never_follow_hold [] p a (underscore sp) end tt pa) tt (supplied_colon xs sp u (lookahead end) (lookahead z) f) (ready (seq_summary [] (summary true p) colon_summary) (lookahead end) (lookahead z) tt tt tt) in
          let y' = again true p a (underscore sp) end z (and_left (fine true p) _ (and_left (and (fine true p) (fine false t)) _ w)) pa k in
          let printed = lookahead (print a ⧺ z) in
          let out = wild_lookahead (summary true p) sp printed (lookahead end) (lookahead z) solid y'.1 in
          let v' = off_of (at_unnamed n) printed (every_at (λ f. no (may (at_unnamed n) f)) printed.terminal (wild_out (summary true p)) (and_left (every (λ f. no (may (at_unnamed n) f)) (wild_out (summary true p))) _ (and_right (seam o (summary true p) colon_summary) _ w2)) out) in
          subst (λ i. DerivesPrefix table (supplied n p t) (Both (renew a) (Both (Mark xs) (renew s))) i r' × HasLookaheads (supplied_summary n (summary true p) (summary false t)) (lookahead ts) (lookahead i) (lookahead r) (lookahead r')) (sym (named_print a xs s r')) (
            inr (v', z, y'.0, ap chars f, u, subst (λ l. Spelled l (spell l u) u) (sym f) (false, refl), y.0),
            altered [] (mem2_right (move (lookahead ts).terminal printed.terminal []) (summary true p).moves _ (mem2_cross (lookahead ts).terminal printed.terminal (terminals name) (wild_out (summary true p)) (name_terminal (lookahead ts).terminal (and_left (is_name (lookahead ts).terminal) _ v)) out)) tt,
          )
      again j (supplied n p t) (Both a (Both (Mark xs) s)) ts r r' w (inr (v, m, pa, f, m', d, q)) R =
          let o = never_follow starts [] p in
          let w' = and_right (and (fine true p) (fine false t)) _ w in
          let w2 = and_right (and (no (summary true p).nullable) (no (filled (summary true p).gone))) _ w' in
          let y = again false t s m' r r' (and_right (fine true p) _ (and_left (and (fine true p) (fine false t)) _ w)) q (ready (summary false t) (lookahead r) (lookahead r') R.alike_ends R.halted R.shunned) in
          let u = print s ⧺ r' in
          let z = spell xs u in
          let written = either_left (mark_summary false colon []) (record { stays = []; moves = move Ended (mark_terminal colon) [] ∷ []; nullable = false; gone = []; ends = []; halts = []; shuns = [] }) (lookahead m) (lookahead z) (lookahead m') (lookahead u) (marked false colon [] xs m m' u (lookahead m') (lookahead u) f d tt) in
          let k = seam_sound o [] (summary true p) colon_summary (lookahead m) (lookahead z) (lookahead m') (lookahead u) (and_left (seam o (summary true p) colon_summary) _ w2) (ended_off starts table never_follow_hold [] p a ts m tt pa) tt written (ready (seq_summary [] (summary true p) colon_summary) (lookahead m') (lookahead u) tt tt tt) in
          let y' = again true p a ts m z (and_left (fine true p) _ (and_left (and (fine true p) (fine false t)) _ w)) pa k in
          let b = named_lookahead n o (summary true p) (summary false t) (lookahead ts) (lookahead (print a ⧺ z)) (lookahead m) (lookahead z) (lookahead r) (lookahead r') w' v y'.1 in
          subst (λ i. DerivesPrefix table (supplied n p t) (Both (renew a) (Both (Mark xs) (renew s))) i r' × HasLookaheads (supplied_summary n (summary true p) (summary false t)) (lookahead ts) (lookahead i) (lookahead r) (lookahead r')) (sym (named_print a xs s r')) (
            inr (b.0, z, y'.0, f, u, spell_spelled xs m m' u d, y.0),
            b.1,
          )
      again j (generics_before x y h) (Impl (Left (Order xs l ys)) s) ts r r' w (m, (v, (i, e, d, i', a, e', d')), b) R =
          let w1 = and_right (lead_fine x y) _ w in
          let o = again false h s m r r' (and_left (fine false h) _ w1) b (ready (summary false h) (lookahead r) (lookahead r') R.alike_ends R.halted R.shunned) in
          let k = again false (ordered x y) (Order xs l ys) ts m (print s ⧺ r') (and_left (and (fine false x) (and (fine false y) (and (in_row (summary false x)) (in_row (summary false y))))) _ (and_left (lead_fine x y) _ w)) (i, e, d, i', a, e', d') (ready (inner_summary false less []) (lookahead m) (lookahead (print s ⧺ r')) tt tt tt) in
          let there = mem_right (lookahead i').terminal (mark_first_set comma) (mark_first_set greater) (ap (λ z. mem (lookahead i').terminal (mark_first_set z)) (sym e') ∙ mark_head ys i' m d') in
          let good = sures_sort (renew l) (sures x y l i i' (and_left (lead_fine x y) _ w) a there) in
          go (bare l) (lead j x y h (Left (Order xs l ys)) s ts m r r' w ((v, (i, e, d, i', a, e', d')), b) o) k.0 good
        where
          go : (b : Bool) →
              ((L : Syntax) → DerivesPrefix table (generics_before x y h) (Impl L (renew s)) (show L ⧺ (print s ⧺ r')) r' → mem (lookahead (show L ⧺ (print s ⧺ r'))).terminal (Punctuation less ∷ prints (summary false h)) ≡ true → Led j x y h L s ts r r') × Led j x y h (pick (led (renew s)) no_generics (Right Nothing)) s ts r r' × DerivesPrefix table h (renew s) (print s ⧺ r') r' →
              DerivesPrefix table (ordered x y) (renew (Order xs l ys)) (print (Order xs l ys) ⧺ (print s ⧺ r')) (print s ⧺ r') → Sures (sort (renew l)) → Led j x y h (pick b (pick (led (renew s)) no_generics (Right Nothing)) (Left (renew (Order xs l ys)))) s ts r r'
          go true p k good = p.1
          go false p k good =
              let f = led_lookahead x y xs (sort (renew l)) ys (print s ⧺ r') good k in
              p.0 (Left (renew (Order xs l ys))) (print s ⧺ r', (f.0, k), p.2) (ap (λ z. mem z (Punctuation less ∷ prints (summary false h))) f.1 ∙ mem_here (Punctuation less) (prints (summary false h)))
      again j (generics_before x y h) (Impl (Right Nothing) s) ts r r' w (m, a, b) R =
          let w1 = and_right (lead_fine x y) _ w in
          let o = again false h s m r r' (and_left (fine false h) _ w1) b (ready (summary false h) (lookahead r) (lookahead r') R.alike_ends R.halted R.shunned) in
          (lead j x y h (Right Nothing) s ts m r r' w (a, b) o).1
      again j (row g h) s ts r r' w a R = absurd (true≢false (sym w))
      again j (ordered g h) (Order xs l ys) ts r r' w (m, e, d, m', a, e', d') R =
          let last : lookahead (spell ys r') ≡ mark_lookahead greater (lookahead r') = lookahead_spell ys r' ∙ ap (λ z. mark_lookahead z (lookahead r')) e' in
          let there : mem (lookahead m').terminal (mark_first_set greater) ≡ true = ap (λ z. mem (lookahead m').terminal (mark_first_set z)) (sym e') ∙ mark_head ys m' r d' in
          let x = row_again g h (sort (renew l)) (spell ys r') (members_sort g h (renew l) (members g h l m m' w a (mem_right (lookahead m').terminal (mark_first_set comma) (mark_first_set greater) there))) (ap (λ z. z.terminal) last) in
          let z = show (sort (renew l)) ⧺ spell ys r' in
          let eq : show (renew (Order xs l ys)) ⧺ r' ≡ spell xs z =
          append_spell xs (show (sort (renew l)) ⧺ spell ys end) r' ∙ ap (spell xs) (append_append (show (sort (renew l))) (spell ys end) r' ∙ ap (λ z. show (sort (renew l)) ⧺ z) (append_spell ys end r')) in
          subst (λ u. DerivesPrefix table (ordered g h) (Order xs (sort (renew l)) ys) u r' × HasLookaheads (inner_summary false less []) (lookahead ts) (lookahead u) (lookahead r) (lookahead r')) (sym eq) (
            (z, e, spell_spelled xs ts m z d, spell ys r', x, e', spell_spelled ys m' r r' d'),
            inner_lookahead false less [] (lookahead ts) (lookahead (spell xs z)) (lookahead r) (lookahead r') (marked false less [] xs ts m z (lookahead r) (lookahead r') e d tt),
          )
      again j (generics_before x y h) (Impl (Left _) s) ts r r' w (m, (v, a), b) R = elim a [ ]
      again j (generics_before x y h) (Impl (Right _) s) ts r r' w (m, (v, a), b) R = elim a [ ]
      again j (generics_before x y h) (Impl _ s) ts r r' w (m, a, b) R = elim a [ ]
      again j _ _ ts r r' w h R = elim h [ ]

      list_sure : (c : Look) (g : Grammar) (s : Syntax) (ts r r' : Stream) (j : Bool) → sure_list c g ≡ true → fine j g ≡ true → DerivesPrefix table g s ts r → DerivesPrefix table g (renew s) (print s ⧺ r') r' →
          (present c (print s ⧺ r') ≡ true) × (no (filled (summary j g).gone) ≡ true)
      list_sure c (ordered x y) (Order xs l ys) ts r r' j v w (m, e, d, m', a, e', d') b =
          let q = and (sure false at_parameter edges x) (sure false at_parameter edges y) in
          let there = mem_right (lookahead m').terminal (mark_first_set comma) (mark_first_set greater) (ap (λ z. mem (lookahead m').terminal (mark_first_set z)) (sym e') ∙ mark_head ys m' r d') in
          let good = sures_sort (renew l) (sures x y l m m' (ap₂ and w (and_left q _ v)) a there) in
          (ap (answers c) (led_exactly x y xs (sort (renew l)) ys r' good b) ∙ and_right q _ v, refl)
      list_sure c (ordered x y) _ ts r r' j v w a b = elim a [ ]
      list_sure c _ s ts r r' j v w a b = absurd (true≢false (sym v))

      printed_sure : (j : Bool) (c : Look) (A : List Terminal) (g : Grammar) (s : Syntax) (ts r r' : Stream) → fine j g ≡ true → sure j c A g ≡ true → DerivesPrefix table g s ts r → Ready (summary j g) (lookahead r) (lookahead r') →
          mem (lookahead r').terminal A ≡ true → present c (print s ⧺ r') ≡ true
      printed_sure j c A (g & h) (Both s t) ts r r' w v (m, a, b) R e =
          let u = heeds j (summary j g) in
          let p = summary j g in
          let q = summary u h in
          let fh = and_left (fine u h) _ (and_right (fine j g) _ w) in
          let Rh = ready_second (never_follow starts [] h) p q (lookahead r) (lookahead r') R in
          let y = again u h t m r r' fh b Rh in
          let k = seam_sound (never_follow starts [] g) (never_follow starts [] h) p q (lookahead m) (lookahead (print t ⧺ r')) (lookahead r) (lookahead r') (and_right (fine u h) _ (and_right (fine j g) _ w)) (ended_off starts table never_follow_hold [] g s ts m tt a) (ended_off starts table never_follow_hold [] h t m r tt b) y.1 R in
          let x = again j g s ts m (print t ⧺ r') (and_left (fine j g) _ w) a k in
          let there = printed_after q A (lookahead m) (lookahead (print t ⧺ r')) (lookahead r) (lookahead r') e y.1 in
          ap (present c) (append_append (print s) (print t) r') ∙ go (or_split (token_sure c (prints q ++ A) g) _ v) there x.1 (λ v'. printed_sure u c A h t m r r' fh v' b Rh e)
        where
          rest_sure : (solid (summary j g) ≡ true) ⊎ (sure (heeds j (summary j g)) c A h ≡ true) → solid (summary j g) ≡ false → sure (heeds j (summary j g)) c A h ≡ true
          rest_sure (inl q) f = absurd (true≢false (sym q ∙ f))
          rest_sure (inr q) f = q

          first_sure : or (solid (summary j g)) (sure (heeds j (summary j g)) c A h) ≡ true → (answers c (lookahead (print s ⧺ (print t ⧺ r'))) ≡ true) ⊎ ((solid (summary j g) ≡ false) × (lookahead (print s ⧺ (print t ⧺ r')) ≡ lookahead (print t ⧺ r'))) →
              (sure (heeds j (summary j g)) c A h ≡ true → present c (print t ⧺ r') ≡ true) → present c (print s ⧺ (print t ⧺ r')) ≡ true
          first_sure v' (inl q) ih = q
          first_sure v' (inr q) ih = ap (answers c) q.1 ∙ ih (rest_sure (or_split (solid (summary j g)) _ v') q.0)

          go : (token_sure c (prints (summary (heeds j (summary j g)) h) ++ A) g ≡ true) ⊎ (and (every (must c) (prints (summary j g))) (or (solid (summary j g)) (sure (heeds j (summary j g)) c A h)) ≡ true) →
              mem (lookahead (print t ⧺ r')).terminal (prints (summary (heeds j (summary j g)) h) ++ A) ≡ true → HasLookaheads (summary j g) (lookahead ts) (lookahead (print s ⧺ (print t ⧺ r'))) (lookahead m) (lookahead (print t ⧺ r')) →
              (sure (heeds j (summary j g)) c A h ≡ true → present c (print t ⧺ r') ≡ true) → present c (print s ⧺ (print t ⧺ r')) ≡ true
          go (inl q) there f ih = token_printed c (prints (summary (heeds j (summary j g)) h) ++ A) g s ts m (print t ⧺ r') q a there
          go (inr q) there f ih =
              first_sure (and_right (every (must c) (prints (summary j g))) _ q) (sure_first c (summary j g) (lookahead ts) (lookahead (print s ⧺ (print t ⧺ r'))) (lookahead m) (lookahead (print t ⧺ r')) (and_left (every (must c) (prints (summary j g))) _ q) f) ih
      printed_sure j c A (when d then g else h) (Left s) ts r r' w v (i, a) R e =
          let u = or j (mentions d) in
          printed_sure u c A g s ts r r' (and_left (fine u g) _ w) (and_left (sure u c A g) _ v) a (ready_then d (summary u g) (summary u h) (lookahead r) (lookahead r') R) e
      printed_sure j c A (when d then g else h) (Right s) ts r r' w v (i, a) R e =
          let u = or j (mentions d) in
          printed_sure u c A h s ts r r' (and_left (fine u h) _ (and_right (fine u g) _ w)) (and_right (sure u c A g) _ v) a (ready_else d (summary u g) (summary u h) (lookahead r) (lookahead r') R) e
      printed_sure j c A (either g h) (Left s) ts r r' w v a R e = printed_sure j c A g s ts r r' (and_left (fine j g) _ w) (and_left (sure j c A g) _ v) a (ready_left (summary j g) (summary j h) (lookahead r) (lookahead r') R) e
      printed_sure j c A (either g h) (Right s) ts r r' w v a R e = printed_sure j c A h s ts r r' (and_right (fine j g) _ w) (and_right (sure j c A g) _ v) a (ready_right (summary j g) (summary j h) (lookahead r) (lookahead r') R) e
      printed_sure j c A (rule k) (Node s) ts r r' w v a R e =
          let l = law j k w in
          let x = again j (table k) s ts r r' l.1 a (cover_ready (said j k) (summary j (table k)) l.0 (lookahead r) (lookahead r') R) in
          go (sure_first c (said j k) (lookahead ts) (lookahead (print s ⧺ r')) (lookahead r) (lookahead r') (and_left (every (must c) (prints (said j k))) _ v) (cover_lookahead (said j k) (summary j (table k)) l.0 (lookahead ts) (lookahead (print s ⧺ r')) (lookahead r) (lookahead r') x.1))
        where
          go : (present c (print s ⧺ r') ≡ true) ⊎ ((solid (said j k) ≡ false) × (lookahead (print s ⧺ r') ≡ lookahead r')) → present c (print s ⧺ r') ≡ true
          go (inl q) = q
          go (inr q) = absurd (true≢false (sym (and_right (every (must c) (prints (said j k))) _ v) ∙ q.0))
      printed_sure j c A (g & h) _ ts r r' w v a R e = elim a [ ]
      printed_sure j c A (when d then g else h) _ ts r r' w v a R e = elim a [ ]
      printed_sure j c A (either g h) _ ts r r' w v a R e = elim a [ ]
      printed_sure j c A (rule k) _ ts r r' w v a R e = elim a [ ]
      printed_sure j c A _ s ts r r' w v a R e = absurd (true≢false (sym v))

      sures : (g h : Grammar) (l : Syntax) (ts r : Stream) → lead_fine g h ≡ true → DerivesPrefix table (row g h) l ts r → mem (lookahead r).terminal edges ≡ true → Sures (renew l)
      sures g h Done ts r w a e = tt
      sures g h (Last k s) ts r w (f, a, n) e = λ r' o.
          let wq = and_left (and (fine false g) (and (fine false h) (and (in_row (summary false g)) (in_row (summary false h))))) _ w in
          let wr = and_right (fine false h) _ (and_right (fine false g) _ wq) in
          printed_sure false at_parameter edges (choose k g h) s ts r r' (fine_choice k g h (and_left (fine false g) _ wq) (and_left (fine false h) _ (and_right (fine false g) _ wq)))
          (sure_choice k g h (and_right (and (fine false g) (and (fine false h) (and (in_row (summary false g)) (in_row (summary false h))))) _ w)) a (ready_choice k g h (lookahead r) (lookahead r') wr e o) o
      sures g h (More k s sp t) ts r w (f, m, a, m', d, b) e = (
        (λ r' o.
            let wq = and_left (and (fine false g) (and (fine false h) (and (in_row (summary false g)) (in_row (summary false h))))) _ w in
            let wr = and_right (fine false h) _ (and_right (fine false g) _ wq) in
            printed_sure false at_parameter edges (choose k g h) s ts m r' (fine_choice k g h (and_left (fine false g) _ wq) (and_left (fine false h) _ (and_right (fine false g) _ wq)))
            (sure_choice k g h (and_right (and (fine false g) (and (fine false h) (and (in_row (summary false g)) (in_row (summary false h))))) _ w)) a
            (ready_choice k g h (lookahead m) (lookahead r') wr (mem_left (lookahead m).terminal (mark_first_set comma) (mark_first_set greater) (mark_head ((44, sp) ∷ []) m m' d)) o) o),
        sures g h t m' r w b e,
      )
      sures g h _ ts r w a e = elim a [ ]

      members : (g h : Grammar) (l : Syntax) (ts r : Stream) → and (fine false g) (and (fine false h) (and (in_row (summary false g)) (in_row (summary false h)))) ≡ true → DerivesPrefix table (row g h) l ts r → mem (lookahead r).terminal edges ≡ true → Members g h (renew l)
      members g h Done ts r w a e = tt
      members g h (Last k s) ts r w (f, a, n) e = λ r' o.
          let wr = and_right (fine false h) _ (and_right (fine false g) _ w) in
          let p = ready_choice k g h (lookahead r) (lookahead r') wr e o in
          let x = again false (choose k g h) s ts r r' (fine_choice k g h (and_left (fine false g) _ w) (and_left (fine false h) _ (and_right (fine false g) _ w))) a p in
          (x.0, not_ended_choice k g h (lookahead ts) (lookahead (show (renew s) ⧺ r')) (lookahead r) (lookahead r') wr x.1)
      members g h (More k s sp t) ts r w (f, m, a, m', d, b) e = (
        (λ r' o.
            let wr = and_right (fine false h) _ (and_right (fine false g) _ w) in
            let p = ready_choice k g h (lookahead m) (lookahead r') wr (mem_left (lookahead m).terminal (mark_first_set comma) (mark_first_set greater) (mark_head ((44, sp) ∷ []) m m' d)) o in
            let x = again false (choose k g h) s ts m r' (fine_choice k g h (and_left (fine false g) _ w) (and_left (fine false h) _ (and_right (fine false g) _ w))) a p in
            (x.0, not_ended_choice k g h (lookahead ts) (lookahead (show (renew s) ⧺ r')) (lookahead m) (lookahead r') wr x.1)),
        members g h t m' r w b e,
      )
      members g h _ ts r w a e = elim a [ ]
