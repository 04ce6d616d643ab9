-- The courses of uses and of type aliases write what their plans write.
use Rattle.std.proofs.Common.{◌≡◌, Bool, true, false, Option, [], ◌∷◌, Some, None, refl, sym, ap, ap₂, ◌∙◌, subst}
use Rattle.syn_grammar.specs.Words.{w_where, semicolon, equals}
use Rattle.syn_grammar.specs.Tokens.{Stream, end, ◌⧺◌, or, no, pick, Look, at_word}
use Rattle.syn_grammar.specs.Rules.{Rule, type, where_clause, root_mark}
use Rattle.syn_grammar.specs.Grammar.{has, one_where, holds, Syntax, Nothing, Right, Node, Vanishing, Grammar, empty, mark, ◌&◌, vanishing, one_of, rule}
use Rattle.syn_grammar.specs.Forms.{punctuation}
use Rattle.syn_grammar.specs.Table.{table, at_equals}
use Rattle.syn_grammar.specs.Take.{Out, sees}
use Rattle.syn_grammar.specs.Run.{branch, parse_form, vanish, wrap}
use Rattle.syn_grammar.specs.Plan as plan
use Rattle.syn_grammar.specs.Plan.{Plan, follow, by_test, run_plan}
use Rattle.syn_grammar.specs.ItemPlan.{parts}
use Rattle.syn_grammar.proofs.Run.{parse_rule_is}
use Rattle.syn_grammar.proofs.Streams.{append_end}
use Rattle.syn_grammar.proofs.DecidedByTokens.{one_where_seen, trees_known}
use Rattle.syn_recognize.specs.PrintedRows.{way}
use Rattle.syn_recognize.specs.Written.{Written, adds}
use Rattle.syn_recognize.specs.Copies.{copied, next, copy_form, capturing}
use Rattle.syn_recognize.proofs.GuessedCourses.{Fair, Leads, copy_course, copy_kept, leads_same}
use Rattle.syn_recognize.specs.Course.{Course, reads, turns, rooted, rest, kept}
use Rattle.syn_recognize.specs.Courses.{by_roots, trees_in_braces}
use Rattle.syn_recognize.proofs.Writes.{adds_more}
use Rattle.syn_recognize.proofs.CourseProofs.{Goes, Meets, Written-as, Kept-as, reads_written, turns_written, rest_written, kept_written, reads_kept, turns_kept, kept_is, goes_written, goes_kept}

-- A USE with trees in braces
pub rooted_meets : (a : Bool) (d e : Course) (P Q : Syntax → Plan) (i m : Stream) → ((t : Syntax) (r : Stream) → parse_form trees_in_braces m ≡ Some (t, r) → Goes a d (P t) (i ⧺ way a t) r) →
    ((t : Syntax) (r : Stream) → parse_form trees_in_braces m ≡ Some (t, r) → Goes a e (Q t) (i ⧺ way a t) r) → Meets a (rooted d e) (plan.reads trees_in_braces λ t. plan.tests (has root_mark) t (P t) (Q t)) i m
unfolding copy_form adds
rooted_meets a d e P Q i m x y = record { written = written; all_kept = aside }
  where
    written : (k : Rule) (b : Stream) (w : Written) → w.printing ≡ a → (l : Option Bool) → Fair a l → Written-as k b w (rooted d e) (plan.reads trees_in_braces λ t. plan.tests (has root_mark) t (P t) (Q t)) l i m
    written k b w f l fair = go (parse_form trees_in_braces m) refl
      where
        fair' : Fair w.printing l
        fair' = subst (λ c. Fair c l) (sym f) fair

        choose : (t : Syntax) (r : Stream) (v : Bool) → holds (has root_mark) t ≡ v → parse_form trees_in_braces m ≡ Some (t, r) →
            Leads (copied w (by_test v (run_plan (P t) k b r) (run_plan (Q t) k b r))) (pick v (copy_course d l (adds w (i ⧺ way w.printing t)) r) (copy_course e l (adds w (i ⧺ way w.printing t)) r))
        choose t r true h q = goes_written k b w d (P t) l (i ⧺ way w.printing t) r fair' (subst (λ c. Goes c d (P t) (i ⧺ way c t) r) (sym f) (x t r q))
        choose t r false h q = goes_written k b w e (Q t) l (i ⧺ way w.printing t) r fair' (subst (λ c. Goes c e (Q t) (i ⧺ way c t) r) (sym f) (y t r q))

        more : (s : Syntax) → adds (adds w i) (way (adds w i).printing s) ≡ adds w (i ⧺ way w.printing s)
        more s = adds_more w i (way w.printing s)

        go : (o : Out) → parse_form trees_in_braces m ≡ o → Leads (copied w (follow (λ t r. by_test (holds (has root_mark) t) (run_plan (P t) k b r) (run_plan (Q t) k b r)) o)) (next (copied (adds w i) o) (by_roots m (copy_course d l) (copy_course e l)))
        go None q = refl
        go (Some p) q =
            subst (λ v. Leads (copied w (by_test (holds (has root_mark) p.0) (run_plan (P p.0) k b p.1) (run_plan (Q p.0) k b p.1))) (by_roots m (copy_course d l) (copy_course e l) v p.1)) (sym (more p.0))
            (subst (λ c. Leads (copied w (by_test (holds (has root_mark) p.0) (run_plan (P p.0) k b p.1) (run_plan (Q p.0) k b p.1))) (pick c (copy_course d l (adds w (i ⧺ way w.printing p.0)) p.1) (copy_course e l (adds w (i ⧺ way w.printing p.0)) p.1))) (sym (trees_known m p.1 p.0 q))
            (choose p.0 p.1 (holds (has root_mark) p.0) refl q))

    aside : (k : Rule) (b : Stream) (w : Written) → w.printing ≡ a → (v : Written) → Kept-as k b w (rooted d e) (plan.reads trees_in_braces λ t. plan.tests (has root_mark) t (P t) (Q t)) v m
    aside k b w f v = go (parse_form trees_in_braces m) refl
      where
        choose : (t : Syntax) (r : Stream) (u : Written) (c : Bool) → holds (has root_mark) t ≡ c → parse_form trees_in_braces m ≡ Some (t, r) →
            Leads (copied w (by_test c (run_plan (P t) k b r) (run_plan (Q t) k b r))) (next (pick c (copy_kept d u r) (copy_kept e u r)) (capturing w b))
        choose t r u true h q = goes_kept k b w d (P t) (i ⧺ way w.printing t) u r (subst (λ c. Goes c d (P t) (i ⧺ way c t) r) (sym f) (x t r q))
        choose t r u false h q = goes_kept k b w e (Q t) (i ⧺ way w.printing t) u r (subst (λ c. Goes c e (Q t) (i ⧺ way c t) r) (sym f) (y t r q))

        go : (o : Out) → parse_form trees_in_braces m ≡ o → Leads (copied w (follow (λ t r. by_test (holds (has root_mark) t) (run_plan (P t) k b r) (run_plan (Q t) k b r)) o)) (next (next (copied v o) (by_roots m (copy_kept d) (copy_kept e))) (capturing w b))
        go None q = refl
        go (Some p) q =
            let u = adds v (way v.printing p.0) in
            subst (λ c. Leads (copied w (by_test (holds (has root_mark) p.0) (run_plan (P p.0) k b p.1) (run_plan (Q p.0) k b p.1))) (next (pick c (copy_kept d u p.1) (copy_kept e u p.1)) (capturing w b))) (sym (trees_known m p.1 p.0 q)) (choose p.0 p.1 u (holds (has root_mark) p.0) refl q)

-- A TYPE ALIAS, from its first where clause on

abbrev at_where : Look
at_where = at_word w_where

-- the form of what may vanish
abbrev within : Grammar → Grammar
within (vanishing b c g) = g
within g = g

abbrev ended : Grammar
ended = mark false semicolon & empty

abbrev last_course : Course
last_course = turns at_where (reads (rule where_clause) (rest (one_of []))) (rest ended)

abbrev pub one_course : Course
one_course = reads (mark false equals) (reads (rule type) last_course)

abbrev pub more_course : Course
more_course = reads (mark false equals) (reads (rule type) (reads (rule where_clause) (rest ended)))

abbrev one_or_kept : Course
one_or_kept = turns at_equals one_course (kept ended)

abbrev more_or_kept : Course
more_or_kept = turns at_equals more_course (kept ended)

abbrev pub clause_course : Course
clause_course = turns at_where (reads (rule where_clause) one_or_kept) more_or_kept

abbrev pub alone_clause_course : Course
alone_clause_course = turns at_where (reads (rule where_clause) one_course) more_course

abbrev no_clause : Syntax
no_clause = Node (Vanishing false (Right Nothing))

absent_clause : (m : Stream) → sees at_where m ≡ false → parse_form (rule where_clause) m ≡ Some (no_clause, m)
absent_clause m e = parse_rule_is where_clause m ∙ ap (λ c. wrap Node (vanish false (branch c (parse_form (within (table where_clause)) m) (Some (Nothing, m))))) e

no_clause_text : (a : Bool) → way a no_clause ≡ end
no_clause_text true = refl
no_clause_text false = refl

module _ (V : Syntax → Syntax → Syntax → Syntax → Syntax → Syntax) where
  abbrev tested : Syntax → Syntax → Syntax → Syntax → Plan
  tested c q t x = plan.tests one_where (parts (c ∷ q ∷ t ∷ x ∷ [])) (plan.reads (punctuation semicolon) λ z. plan.ends (V c q t x z)) plan.fails

  abbrev equal_plan : Syntax → Plan
  equal_plan c = plan.reads (punctuation equals) λ q. plan.reads (rule type) λ t. plan.reads (rule where_clause) λ x. tested c q t x

  abbrev kept_plan : Plan
  kept_plan = plan.keeps (plan.reads (punctuation semicolon) λ z. plan.done)

  abbrev equal_or_kept : Syntax → Plan
  equal_or_kept c = plan.turns at_equals (equal_plan c) kept_plan

  abbrev type_plan : Syntax → Syntax → Plan
  type_plan c q = plan.reads (rule type) λ t. plan.reads (rule where_clause) λ x. tested c q t x

  abbrev last_plan : Syntax → Syntax → Syntax → Plan
  last_plan c q t = plan.reads (rule where_clause) λ x. tested c q t x

  abbrev pub clause_plan : Plan
  clause_plan = plan.reads (rule where_clause) equal_or_kept

  abbrev pub alone_clause_plan : Plan
  alone_clause_plan = plan.reads (rule where_clause) equal_plan

  module _ (k : Rule) (b : Stream) (w : Written) (i : Stream)
      (T : (c q t x z : Syntax) → way w.printing (V c q t x z) ≡ ((((i ⧺ way w.printing c) ⧺ way w.printing q) ⧺ way w.printing t) ⧺ way w.printing x) ⧺ way w.printing z) where
    abbrev As : Course → Plan → Option Bool → Stream → Stream → Type 0
    As d p l e m = Written-as k b w d p l e m

    abbrev by_text : Syntax → Syntax → Syntax → Stream
    by_text c q t = ((i ⧺ way w.printing c) ⧺ way w.printing q) ⧺ way w.printing t

    -- the test is passed
    passed : (c q t x : Syntax) (l : Option Bool) (e m : Stream) → holds one_where (parts (c ∷ q ∷ t ∷ x ∷ [])) ≡ true → by_text c q t ⧺ way w.printing x ≡ e → As (rest ended) (tested c q t x) l e m
    passed c q t x l e m h f =
        subst (λ o. Leads (copied w (by_test o (run_plan (plan.reads (punctuation semicolon) λ z. plan.ends (V c q t x z)) k b m) None)) (copy_course (rest ended) l (adds w e) m)) (sym h)
        (rest_written k b w ended (plan.reads (punctuation semicolon) λ z. plan.ends (V c q t x z)) l e m (refl, (refl, λ z r u. (refl, T c q t x z ∙ ap (λ y. y ⧺ way w.printing z) f))))

    -- it isn't
    failed : (c q t x : Syntax) (l : Option Bool) (e m : Stream) → holds one_where (parts (c ∷ q ∷ t ∷ x ∷ [])) ≡ false → As (rest (one_of [])) (tested c q t x) l e m
    failed c q t x l e m h =
        subst (λ o. Leads (copied w (by_test o (run_plan (plan.reads (punctuation semicolon) λ z. plan.ends (V c q t x z)) k b m) None)) (copy_course (rest (one_of [])) l (adds w e) m)) (sym h)
        (rest_written k b w (one_of []) plan.fails l e m refl)

    -- after `=` and a type, where `where` came before
    last_written : (c q t : Syntax) (m0 m1 m2 m3 : Stream) (l : Option Bool) → sees at_where m0 ≡ true → parse_form (rule where_clause) m0 ≡ Some (c, m1) → parse_form (punctuation equals) m1 ≡ Some (q, m2) →
        parse_form (rule type) m2 ≡ Some (t, m3) → As last_course (plan.reads (rule where_clause) λ x. tested c q t x) l (by_text c q t) m3
    last_written c q t m0 m1 m2 m3 l s0 ic iq it = go (sees at_where m3) refl
      where
        seen : (x : Syntax) (m4 : Stream) (v : Bool) → sees at_where m3 ≡ v → parse_form (rule where_clause) m3 ≡ Some (x, m4) → holds one_where (parts (c ∷ q ∷ t ∷ x ∷ [])) ≡ no v
        seen x m4 v y ix = one_where_seen m0 m1 m2 m3 m4 c q t x ic iq it ix ∙ ap₂ (λ f g. or (no f) (no g)) s0 y

        go : (v : Bool) → sees at_where m3 ≡ v → As last_course (plan.reads (rule where_clause) λ x. tested c q t x) l (by_text c q t) m3
        go true y =
            subst (λ v. Leads (copied w (run_plan (plan.reads (rule where_clause) λ x. tested c q t x) k b m3)) (pick v (copy_course (reads (rule where_clause) (rest (one_of []))) l (adds w (by_text c q t)) m3) (copy_course (rest ended) l (adds w (by_text c q t)) m3))) (sym y)
            (reads_written k b w (rule where_clause) (rule where_clause) (rest (one_of [])) (λ x. tested c q t x) l (by_text c q t) m3 refl (λ x m4 ix. failed c q t x l (by_text c q t ⧺ way w.printing x) m4 (seen x m4 true y ix)))
        go false y =
            let none = absent_clause m3 y in
            subst (λ v. Leads (copied w (run_plan (plan.reads (rule where_clause) λ x. tested c q t x) k b m3)) (pick v (copy_course (reads (rule where_clause) (rest (one_of []))) l (adds w (by_text c q t)) m3) (copy_course (rest ended) l (adds w (by_text c q t)) m3))) (sym y)
            (subst (λ o. Leads (copied w (follow (λ x r. run_plan (tested c q t x) k b r) o)) (copy_course (rest ended) l (adds w (by_text c q t)) m3)) (sym none)
            (passed c q t no_clause l (by_text c q t) m3 (seen no_clause m3 false y none) (ap (λ z. by_text c q t ⧺ z) (no_clause_text w.printing) ∙ append_end (by_text c q t))))

    one_written : (c : Syntax) (m0 m1 : Stream) (l : Option Bool) → sees at_where m0 ≡ true → parse_form (rule where_clause) m0 ≡ Some (c, m1) → As one_course (equal_plan c) l (i ⧺ way w.printing c) m1
    one_written c m0 m1 l s ic =
        reads_written k b w (mark false equals) (punctuation equals) (reads (rule type) last_course) (λ q. plan.reads (rule type) λ t. plan.reads (rule where_clause) λ x. tested c q t x) l (i ⧺ way w.printing c) m1 refl
        (λ q m2 iq. reads_written k b w (rule type) (rule type) last_course (λ t. plan.reads (rule where_clause) λ x. tested c q t x) l ((i ⧺ way w.printing c) ⧺ way w.printing q) m2 refl
        (λ t m3 it. last_written c q t m0 m1 m2 m3 l s ic iq it))

    more_written : (m0 : Stream) (l : Option Bool) → sees at_where m0 ≡ false → As more_course (equal_plan no_clause) l i m0
    more_written m0 l s =
        subst (λ e. As more_course (equal_plan no_clause) l e m0) (ap (λ z. i ⧺ z) (no_clause_text w.printing) ∙ append_end i)
        (reads_written k b w (mark false equals) (punctuation equals) (reads (rule type) (reads (rule where_clause) (rest ended))) (type_plan no_clause) l (i ⧺ way w.printing no_clause) m0 refl
        (λ q m2 iq. reads_written k b w (rule type) (rule type) (reads (rule where_clause) (rest ended)) (last_plan no_clause q) l ((i ⧺ way w.printing no_clause) ⧺ way w.printing q) m2 refl
        (λ t m3 it. reads_written k b w (rule where_clause) (rule where_clause) (rest ended) (λ x. tested no_clause q t x) l (by_text no_clause q t) m3 refl
        (λ x m4 ix. passed no_clause q t x l (by_text no_clause q t ⧺ way w.printing x) m4 (one_where_seen m0 m0 m2 m3 m4 no_clause q t x (absent_clause m0 s) iq it ix ∙ ap (λ f. or (no f) (no (sees at_where m3))) s) refl))))

    -- from the first clause on, `where` or not
    module _ (E : Syntax → Plan) (d e : Course) (each : (c : Syntax) (m0 m1 : Stream) (l : Option Bool) → sees at_where m0 ≡ true → parse_form (rule where_clause) m0 ≡ Some (c, m1) → As d (E c) l (i ⧺ way w.printing c) m1)
        (none : (m0 : Stream) (l : Option Bool) → sees at_where m0 ≡ false → As e (E no_clause) l i m0) where
      first_written : (l : Option Bool) (m : Stream) → As (turns at_where (reads (rule where_clause) d) e) (plan.reads (rule where_clause) E) l i m
      first_written l m = go (sees at_where m) refl
        where
          go : (v : Bool) → sees at_where m ≡ v → As (turns at_where (reads (rule where_clause) d) e) (plan.reads (rule where_clause) E) l i m
          go true y =
              subst (λ v. Leads (copied w (run_plan (plan.reads (rule where_clause) E) k b m)) (pick v (copy_course (reads (rule where_clause) d) l (adds w i) m) (copy_course e l (adds w i) m))) (sym y)
              (reads_written k b w (rule where_clause) (rule where_clause) d E l i m refl (λ c m1 ic. each c m m1 l y ic))
          go false y =
              subst (λ v. Leads (copied w (run_plan (plan.reads (rule where_clause) E) k b m)) (pick v (copy_course (reads (rule where_clause) d) l (adds w i) m) (copy_course e l (adds w i) m))) (sym y)
              (subst (λ o. Leads (copied w (follow (λ x r. run_plan (E x) k b r) o)) (copy_course e l (adds w i) m)) (sym (absent_clause m y)) (none m l y))

    pub clause_written : (l : Option Bool) (m : Stream) → As clause_course clause_plan l i m
    clause_written l m =
        first_written equal_or_kept one_or_kept more_or_kept
        (λ c m0 m1 l y ic. turns_written k b w at_equals one_course (kept ended) (equal_plan c) kept_plan l (i ⧺ way w.printing c) m1 (λ s. one_written c m0 m1 l y ic) (λ s. kept_written k b w ended kept_plan l (i ⧺ way w.printing c) m1 (refl, (refl, λ z. refl))))
        (λ m0 l y. turns_written k b w at_equals more_course (kept ended) (equal_plan no_clause) kept_plan l i m0 (λ s. more_written m0 l y) (λ s. kept_written k b w ended kept_plan l i m0 (refl, (refl, λ z. refl)))) l m

    pub alone_clause_written : (l : Option Bool) (m : Stream) → As alone_clause_course alone_clause_plan l i m
    alone_clause_written l m = first_written equal_plan one_course more_course (λ c m0 m1 l y ic. one_written c m0 m1 l y ic) (λ m0 l y. more_written m0 l y) l m

  -- where the guess is that it is stored verbatim
  module _ (k : Rule) (b : Stream) (w : Written) where
    abbrev Aside : Course → Plan → Written → Stream → Type 0
    Aside d p v m = Kept-as k b w d p v m

    last_kept : (F : Syntax → Plan) (v : Written) (m : Stream) → Aside last_course (plan.reads (rule where_clause) F) v m
    unfolding copy_form
    last_kept F v m = go (sees at_where m) refl
      where
        of : (o : Out) → Leads (copied w (follow (λ x r. run_plan (F x) k b r) o)) (next (next (copied v o) (copy_kept (rest (one_of [])))) (capturing w b))
        of None = refl
        of (Some p) = tt

        go : (c : Bool) → sees at_where m ≡ c → Aside last_course (plan.reads (rule where_clause) F) v m
        go true y = subst (λ c. Leads (copied w (run_plan (plan.reads (rule where_clause) F) k b m)) (next (pick c (copy_kept (reads (rule where_clause) (rest (one_of []))) v m) (copy_kept (rest ended) v m)) (capturing w b))) (sym y) (of (parse_form (rule where_clause) m))
        go false y = subst (λ c. Leads (copied w (run_plan (plan.reads (rule where_clause) F) k b m)) (next (pick c (copy_kept (reads (rule where_clause) (rest (one_of []))) v m) (copy_kept (rest ended) v m)) (capturing w b))) (sym y) tt

    one_kept : (c : Syntax) (v : Written) (m : Stream) → Aside one_course (equal_plan c) v m
    one_kept c v m =
        reads_kept k b w (mark false equals) (punctuation equals) (reads (rule type) last_course) (type_plan c) v m refl
        (λ q r u iq. reads_kept k b w (rule type) (rule type) last_course (last_plan c q) u r refl (λ t r u it. last_kept (λ x. tested c q t x) u r))

    more_kept : (c : Syntax) (v : Written) (m : Stream) → Aside more_course (equal_plan c) v m
    more_kept c v m =
        reads_kept k b w (mark false equals) (punctuation equals) (reads (rule type) (reads (rule where_clause) (rest ended))) (type_plan c) v m refl
        (λ q r u iq. reads_kept k b w (rule type) (rule type) (reads (rule where_clause) (rest ended)) (last_plan c q) u r refl
        (λ t r u it. reads_kept k b w (rule where_clause) (rule where_clause) (rest ended) (λ x. tested c q t x) u r refl (λ x r u ix. tt)))

    module _ (E : Syntax → Plan) (d e : Course) (each : (c : Syntax) (v : Written) (m : Stream) → Aside d (E c) v m) (none : (c : Syntax) (v : Written) (m : Stream) → Aside e (E c) v m) where
      first_kept : (v : Written) (m : Stream) → Aside (turns at_where (reads (rule where_clause) d) e) (plan.reads (rule where_clause) E) v m
      first_kept v m = go (sees at_where m) refl
        where
          go : (c : Bool) → sees at_where m ≡ c → Aside (turns at_where (reads (rule where_clause) d) e) (plan.reads (rule where_clause) E) v m
          go true y =
              subst (λ c. Leads (copied w (run_plan (plan.reads (rule where_clause) E) k b m)) (next (pick c (copy_kept (reads (rule where_clause) d) v m) (copy_kept e v m)) (capturing w b))) (sym y)
              (reads_kept k b w (rule where_clause) (rule where_clause) d E v m refl (λ c r u ic. each c u r))
          go false y =
              subst (λ c. Leads (copied w (run_plan (plan.reads (rule where_clause) E) k b m)) (next (pick c (copy_kept (reads (rule where_clause) d) v m) (copy_kept e v m)) (capturing w b))) (sym y)
              (subst (λ o. Leads (copied w (follow (λ x r. run_plan (E x) k b r) o)) (next (copy_kept e v m) (capturing w b))) (sym (absent_clause m y)) (none no_clause v m))

    all_ended : (v : Written) (m : Stream) → Aside (kept ended) kept_plan v m
    all_ended v m = leads_same (copied w (run_plan kept_plan k b m)) (next (copy_form ended v m) (capturing w b)) (sym (kept_is k b w ended kept_plan v m (refl, (refl, λ z. refl))))

    pub clause_kept : (v : Written) (m : Stream) → Aside clause_course clause_plan v m
    clause_kept v m =
        first_kept equal_or_kept one_or_kept more_or_kept
        (λ c v m. turns_kept k b w at_equals one_course (kept ended) (equal_plan c) kept_plan v m (λ s. one_kept c v m) (λ s. all_ended v m))
        (λ c v m. turns_kept k b w at_equals more_course (kept ended) (equal_plan c) kept_plan v m (λ s. more_kept c v m) (λ s. all_ended v m)) v m

    pub alone_clause_kept : (v : Written) (m : Stream) → Aside alone_clause_course alone_clause_plan v m
    alone_clause_kept v m = first_kept equal_plan one_course more_course (λ c v m. one_kept c v m) (λ c v m. more_kept c v m) v m

abbrev Texts : Bool → (Syntax → Syntax → Syntax → Syntax → Syntax → Syntax) → Stream → Type 0
Texts a V i = (c q t x z : Syntax) → way a (V c q t x z) ≡ ((((i ⧺ way a c) ⧺ way a q) ⧺ way a t) ⧺ way a x) ⧺ way a z

pub clause_meets : (a : Bool) (V : Syntax → Syntax → Syntax → Syntax → Syntax → Syntax) (i m : Stream) → Texts a V i → Meets a clause_course (clause_plan V) i m
clause_meets a V i m T = record { written = λ k b w e l fair. clause_written V k b w i (subst (λ c. Texts c V i) (sym e) T) l m; all_kept = λ k b w e v. clause_kept V k b w v m }

pub alone_clause_meets : (a : Bool) (V : Syntax → Syntax → Syntax → Syntax → Syntax → Syntax) (i m : Stream) → Texts a V i → Meets a alone_clause_course (alone_clause_plan V) i m
alone_clause_meets a V i m T = record { written = λ k b w e l fair. alone_clause_written V k b w i (subst (λ c. Texts c V i) (sym e) T) l m; all_kept = λ k b w e v. alone_clause_kept V k b w v m }
