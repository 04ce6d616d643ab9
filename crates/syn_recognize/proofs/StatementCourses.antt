-- The courses of statements write what statements write.
use Rattle.std.proofs.Common.{◌≡◌, Bool, true, false, Option, Some, None, refl, sym, ap, ap₂, ◌∙◌, subst, true≢false, ◌⊎◌, inl, inr}
use Rattle.syn_grammar.specs.Tokens.{Stream, end, ◌⧺◌, pick, or, and, Look, Lookahead, lookahead, answers, ended, at_name, at_word, at_mark, at_literal, at_group, at_empty_group, ahead, ◌or_else◌, ◌and_also◌, ◌but_not◌}
use Rattle.syn_grammar.specs.Rules.{Rule, attributes, statement, statements, statement_rest, kept_in_block, kept_item, kept_item_rest, item_rest, item}
use Rattle.syn_grammar.specs.Shape.{an_item, attributed, choice, listed, single}
use Rattle.syn_grammar.specs.Values.{shape, core, stated, in_list}
use Rattle.syn_grammar.specs.Grammar.{Syntax, Nothing, Unshown, Both, Right, Node, Shaped, Grammar, empty, ◌&◌, rule}
use Rattle.syn_grammar.specs.Table.{table, at_item, at_pound, at_semicolon}
use Rattle.syn_grammar.specs.Take.{Out, Parser, sees}
use Rattle.syn_grammar.specs.Run.{and_then, branch, caught, first_of, parse_form, parse_rule, wrap}
use Rattle.syn_grammar.specs.Plan.{follow, by_test, run_plan}
use Rattle.syn_grammar.specs.ItemPlan.{item_after, item_plan}
use Rattle.syn_grammar.specs.ItemStatements.{item_statement, item_listed}
use Rattle.syn_grammar.specs.StatementPlans.{other_statement, of_other}
use Rattle.syn_grammar.proofs.Each.{attributes_is}
use Rattle.syn_grammar.proofs.Known.{not_true, never_with, never_with_is}
use Rattle.syn_grammar.proofs.Sets.{or_split, and_left, and_right}
use Rattle.syn_grammar.proofs.Takes.{sees_present}
use Rattle.syn_grammar.proofs.PlanSteps.{seen_apart}
use Rattle.syn_grammar.proofs.Run.{parse_rule_is}
use Rattle.syn_grammar.proofs.ItemStatements.{item_statements}
use Rattle.syn_grammar.proofs.ItemPlan.{item_plan_is}
use Rattle.syn_grammar.proofs.StatementPlans.{statement_plan_is}
use Rattle.syn_recognize.specs.Within.{first, second}
use Rattle.syn_recognize.specs.PrintedRows.{way}
use Rattle.syn_recognize.specs.Written.{Written, adds}
use Rattle.syn_recognize.specs.Copies.{Copy, Reached, Refused, Stuck, copied, next, copy_form, capturing}
use Rattle.syn_recognize.proofs.GuessedCourses.{Fair, Leads, copy_course, copy_kept, leads_same}
use Rattle.syn_recognize.specs.Course.{Course, reads, turns, followed, rest}
use Rattle.syn_recognize.specs.Stages.{planned_course}
use Rattle.syn_recognize.specs.declared.plan.Planned.TheVariants as Planned-m
use Rattle.syn_recognize.proofs.Ways.{way_both, way_node, way_right, way_shape}
use Rattle.syn_recognize.proofs.Copied.{following, empty_is, then_is, wrapped}
use Rattle.syn_recognize.proofs.CourseProofs.{Goes, goes_written, goes_kept}
use Rattle.syn_recognize.proofs.PlannedCourses.{item_goes}

abbrev inner : Course → Course
inner (reads g d) = d
inner d = d

-- an item after its attributes
abbrev pub item_course : Course
item_course = inner (planned_course Planned-m.Item)

item_after_goes : (a : Bool) (ts m : Stream) (x : Syntax) → parse_rule attributes ts ≡ Some (x, m) → Goes a item_course (item_after x) (end ⧺ way a x) m
unfolding item_plan
item_after_goes a ts m x e = (item_goes a ts).1 x m e

-- a form with nothing after it
alone_is : (g : Grammar) (w : Written) (ts : Stream) → copy_form (g & empty) w ts ≡ copy_form g w ts
alone_is g w ts = then_is g empty w ts ∙ go (copy_form g w ts)
  where
    go : (o : Copy) → next o (copy_form empty) ≡ o
    go (Reached v r) = empty_is v r
    go Refused = refl
    go Stuck = refl

-- nothing is stored verbatim where no item is next, or where no attributes are read
in_block_none : (ts : Stream) → parse_rule attributes ts ≡ None → parse_rule kept_in_block ts ≡ None
in_block_none ts e = parse_rule_is kept_in_block ts ∙ ap (λ o. wrap Node (caught ts (and_then o (λ n. branch (sees at_item n) (parse_rule kept_item_rest n) None)))) e

in_block_other : (ts m : Stream) (a : Syntax) → parse_rule attributes ts ≡ Some (a, m) → sees at_item m ≡ false → parse_rule kept_in_block ts ≡ None
in_block_other ts m a e v =
    parse_rule_is kept_in_block ts ∙ ap (λ o. wrap Node (caught ts (and_then o (λ n. branch (sees at_item n) (parse_rule kept_item_rest n) None)))) e
    ∙ ap (λ v. wrap Node (caught ts (wrap (Both a) (branch v (parse_rule kept_item_rest m) None)))) v

abbrev listed_of : Out → Out → Parser → Out
listed_of k o f = wrap Node (wrap Right (wrap core (wrap Right (wrap in_list (first_of (and_then (wrap (shape an_item) k) (parse_rule statements)) (and_then o f))))))

abbrev after_in_list : Parser
after_in_list n = branch (sees at_item n) (wrap (shape an_item) (and_then (parse_rule item_rest n) (parse_rule statements))) (parse_rule statement_rest n)

listed_is : (ts : Stream) (nothing lone : Out) →
    parse_rule statements ts ≡ wrap Node (branch (sees ended ts) nothing (wrap core (branch (sees at_semicolon ts) lone (wrap in_list (first_of (and_then (wrap (shape an_item) (parse_rule kept_in_block ts)) (parse_rule statements)) (and_then (parse_rule attributes ts) after_in_list)))))) →
    sees ended ts ≡ false → sees at_semicolon ts ≡ false → parse_rule statements ts ≡ listed_of (parse_rule kept_in_block ts) (parse_rule attributes ts) after_in_list
listed_is ts nothing lone e u v =
    e ∙ ap₂ (λ u v. wrap Node (branch u nothing (wrap core (branch v lone (wrap in_list (first_of (and_then (wrap (shape an_item) (parse_rule kept_in_block ts)) (parse_rule statements)) (and_then (parse_rule attributes ts) after_in_list))))))) u v

-- TEXTS

item_text : (a : Bool) (s : Syntax) → way a (item_statement s) ≡ way a s
item_text true s = refl
item_text false s = refl

other_text : (a : Bool) (x s : Syntax) → way a (of_other x s) ≡ way a x ⧺ way a s
other_text a x s = way_node a (core (stated (Both x s))) ∙ way_shape single a (stated (Both x s)) ∙ way_shape attributed a (Both x s) ∙ way_both a x s

listed_text : (a : Bool) (s l : Syntax) → way a (item_listed (Both s l)) ≡ way a s ⧺ way a l
listed_text a s l = way_node a _ ∙ way_right a _ ∙ way_shape listed a (Both (Shaped an_item s) l) ∙ way_both a (Shaped an_item s) l ∙ ap (λ z. z ⧺ way a l) (item_shown a)
  where
    item_shown : (a : Bool) → way a (Shaped an_item s) ≡ way a s
    item_shown true = refl
    item_shown false = refl

-- what follows the attributes, where it is no item
rest_leads : (g : Grammar) (w : Written) (m : Stream) (l : Option Bool) (A : Copy) → A ≡ copy_form g w m → Leads A (copy_course (rest (g & empty)) l w m)
rest_leads g w m None A e = leads_same A (copy_form (g & empty) w m) (e ∙ sym (alone_is g w m))
rest_leads g w m (Some true) A e = tt
rest_leads g w m (Some false) A e = leads_same A (copy_form (g & empty) w m) (e ∙ sym (alone_is g w m))

-- A STATEMENT ALONE

abbrev other_course : Course
other_course = rest (other_statement & empty)

abbrev statement_course : Course
statement_course = reads (rule attributes) (turns at_item item_course other_course)

module _ (w : Written) (ts : Stream) where
  pub table_is : (k : Rule) → copy_form (table k) w ts ≡ copied w (parse_rule k ts)
  unfolding copy_form
  table_is k = sym (ap (copied w) (parse_rule_is k ts) ∙ wrapped Node way_node w (parse_form (table k) ts))

  abbrev statement_out : Out → Out
  statement_out o = follow (λ a m. by_test (sees at_item m) (wrap item_statement (run_plan (item_after a) kept_item ts m)) (wrap (of_other a) (parse_form other_statement m))) o

  other_written : (a : Syntax) (m : Stream) → copied w (wrap (of_other a) (parse_form other_statement m)) ≡ copy_form other_statement (adds w (way w.printing a)) m
  unfolding copy_form
  other_written a m = following (way w.printing a) (of_other a) w (other_text w.printing a) (parse_form other_statement m)

  pub statement_written : (l : Option Bool) → Fair w.printing l → Leads (copy_form (table statement) w ts) (copy_course statement_course l w ts)
  unfolding copy_form
  statement_written l fair = subst (λ o. Leads o (copy_course statement_course l w ts)) (sym (table_is statement ∙ ap (copied w) (statement_plan_is ts))) (go (parse_rule attributes ts) refl)
    where
      turn : (a : Syntax) (m : Stream) → parse_rule attributes ts ≡ Some (a, m) → (v : Bool) →
          Leads (copied w (by_test v (wrap item_statement (run_plan (item_after a) kept_item ts m)) (wrap (of_other a) (parse_form other_statement m)))) (pick v (copy_course item_course l (adds w (way w.printing a)) m) (copy_course other_course l (adds w (way w.printing a)) m))
      turn a m e true =
          subst (λ o. Leads o (copy_course item_course l (adds w (way w.printing a)) m)) (sym (wrapped item_statement item_text w (run_plan (item_after a) kept_item ts m)))
          (goes_written kept_item ts w item_course (item_after a) l (way w.printing a) m fair (item_after_goes w.printing ts m a e))
      turn a m e false = rest_leads other_statement (adds w (way w.printing a)) m l _ (other_written a m)

      go : (o : Out) → parse_rule attributes ts ≡ o → Leads (copied w (statement_out o)) (next (copied w o) (copy_course (turns at_item item_course other_course) l))
      go None e = refl
      go (Some p) e = turn p.0 p.1 e (sees at_item p.1)

  pub statement_kept : (v : Written) → Leads (copy_form (table statement) w ts) (next (copy_kept statement_course v ts) (capturing w ts))
  unfolding copy_form
  statement_kept v = subst (λ o. Leads o (next (copy_kept statement_course v ts) (capturing w ts))) (sym (table_is statement ∙ ap (copied w) (statement_plan_is ts))) (go (parse_rule attributes ts) refl)
    where
      turn : (a : Syntax) (m : Stream) → parse_rule attributes ts ≡ Some (a, m) → (c : Bool) → (u : Written) →
          Leads (copied w (by_test c (wrap item_statement (run_plan (item_after a) kept_item ts m)) (wrap (of_other a) (parse_form other_statement m)))) (next (pick c (copy_kept item_course u m) (copy_kept other_course u m)) (capturing w ts))
      turn a m e true u =
          subst (λ o. Leads o (next (copy_kept item_course u m) (capturing w ts))) (sym (wrapped item_statement item_text w (run_plan (item_after a) kept_item ts m)))
          (goes_kept kept_item ts w item_course (item_after a) (way w.printing a) u m (item_after_goes w.printing ts m a e))
      turn a m e false u = tt

      go : (o : Out) → parse_rule attributes ts ≡ o → Leads (copied w (statement_out o)) (next (next (copied v o) (copy_kept (turns at_item item_course other_course))) (capturing w ts))
      go None e = refl
      go (Some p) e = turn p.0 p.1 e (sees at_item p.1) (adds v (way v.printing p.0))

-- STATEMENTS

-- those that are neither nothing nor begin with `;`
abbrev some_statements : Grammar
some_statements = first (second (first (second (table statements))))

abbrev last_statement : Course
last_statement = rest (rule statement_rest & empty)

abbrev statements_course : Course
statements_course = reads (rule attributes) (turns at_item (followed item_course (rule statements)) last_statement)

-- each alternative of the first excludes the second
abbrev apart : Look → Look → Bool
apart (a or_else b) d = and (apart a d) (apart b d)
apart (a and_also b) d = or (apart a d) (apart b d)
apart (a but_not b) d = apart a d
apart c d = never_with c d

apart_is : (c d : Look) (f : Lookahead) → apart c d ≡ true → answers c f ≡ true → answers d f ≡ true → ⊥
apart_is (a or_else b) d f e h i = go (or_split (answers a f) (answers b f) h) (λ q. apart_is a d f (and_left (apart a d) _ e) q i) (λ q. apart_is b d f (and_right (apart a d) _ e) q i)
  where
    go : (answers a f ≡ true) ⊎ (answers b f ≡ true) → (answers a f ≡ true → ⊥) → (answers b f ≡ true → ⊥) → ⊥
    go (inl q) u v = u q
    go (inr q) u v = v q
apart_is (a and_also b) d f e h i = go (or_split (apart a d) (apart b d) e) (λ q. apart_is a d f q (and_left (answers a f) _ h) i) (λ q. apart_is b d f q (and_right (answers a f) _ h) i)
  where
    go : (apart a d ≡ true) ⊎ (apart b d ≡ true) → (apart a d ≡ true → ⊥) → (apart b d ≡ true → ⊥) → ⊥
    go (inl q) u v = u q
    go (inr q) u v = v q
apart_is (a but_not b) d f e h i = apart_is a d f e (and_left (answers a f) _ h) i
apart_is ended d f e h i = never_with_is ended d f e h i
apart_is at_name d f e h i = never_with_is at_name d f e h i
apart_is (at_word x) d f e h i = never_with_is (at_word x) d f e h i
apart_is (at_mark x) d f e h i = never_with_is (at_mark x) d f e h i
apart_is (at_literal x) d f e h i = never_with_is (at_literal x) d f e h i
apart_is (at_group x) d f e h i = never_with_is (at_group x) d f e h i
apart_is at_empty_group d f e h i = never_with_is at_empty_group d f e h i
apart_is (ahead x) d f e h i = never_with_is (ahead x) d f e h i

-- no attributes are next at the end or before `;`, and no item begins there
no_attributes_at : (ts m : Stream) (a : Syntax) → parse_rule attributes ts ≡ Some (a, m) → sees at_item m ≡ true → (sees ended ts ≡ false) × (sees at_semicolon ts ≡ false)
no_attributes_at ts m a e v = go (sees at_pound ts) refl
  where
    rest_from : Out → Stream
    rest_from (Some p) = p.1
    rest_from None = ts

    go : (b : Bool) → sees at_pound ts ≡ b → (sees ended ts ≡ false) × (sees at_semicolon ts ≡ false)
    go true q = (not_true (sees ended ts) (λ r. true≢false (sym q ∙ seen_apart ended at_pound ts refl r)), seen_apart at_pound at_semicolon ts refl q)
    go false q =
        let same : ts ≡ m = ap (λ c. rest_from (wrap Node (branch c (parse_form (first (table attributes)) ts) (Some (Unshown Nothing, ts))))) (sym q) ∙ ap rest_from (sym (attributes_is ts)) ∙ ap rest_from e in
        let h : sees at_item ts ≡ true = ap (sees at_item) same ∙ v in
        (not_true (sees ended ts) (λ r. true≢false (sym h ∙ seen_apart ended at_item ts refl r)), not_true (sees at_semicolon ts) (λ r. apart_is at_item at_semicolon (lookahead ts) refl (sym (sees_present at_item ts) ∙ h) (sym (sees_present at_semicolon ts) ∙ r)))

module _ (w : Written) (ts : Stream) where
  abbrev list_out : Out
  list_out = first_of (and_then (wrap (shape an_item) (parse_rule kept_in_block ts)) (parse_rule statements)) (and_then (parse_rule attributes ts) (λ n. branch (sees at_item n) (wrap (shape an_item) (and_then (parse_rule item_rest n) (parse_rule statements))) (parse_rule statement_rest n)))

  -- where an item is next
  items_listed : (a : Syntax) (m : Stream) → parse_rule attributes ts ≡ Some (a, m) → sees at_item m ≡ true → copied w list_out ≡ next (copied w (run_plan (item_after a) kept_item ts m)) (copy_form (rule statements))
  unfolding copy_form item_plan
  items_listed a m e v =
      sym (wrapped in_list (way_shape listed) w list_out) ∙ sym (wrapped Right way_right w (wrap in_list list_out)) ∙ sym (wrapped core (way_shape choice) w (wrap Right (wrap in_list list_out)))
      ∙ sym (wrapped Right way_right w (wrap core (wrap Right (wrap in_list list_out)))) ∙ sym (wrapped Node way_node w (wrap Right (wrap core (wrap Right (wrap in_list list_out)))))
      ∙ ap (copied w) (sym (listed_is ts _ _ (parse_rule_is statements ts) off.0 off.1)) ∙ ap (copied w) ((item_statements ts m a e v).1 off.0 off.1) ∙ of (parse_rule item ts)
      ∙ ap (λ o. next (copied w o) (λ u r. copied u (parse_rule statements r))) (item_plan_is ts ∙ ap (λ o. follow (λ s r. run_plan (item_after s) kept_item ts r) o) e)
    where
      off : (sees ended ts ≡ false) × (sees at_semicolon ts ≡ false)
      off = no_attributes_at ts m a e v

      each : (p : Syntax × Stream) (o : Out) → copied w (wrap item_listed (wrap (Both p.0) o)) ≡ copied (adds w (way w.printing p.0)) o
      each p None = refl
      each p (Some q) = following (way w.printing p.0) (λ s. item_listed (Both p.0 s)) w (listed_text w.printing p.0) (Some q)

      of : (o : Out) → copied w (wrap item_listed (and_then o (parse_rule statements))) ≡ next (copied w o) (λ u r. copied u (parse_rule statements r))
      of None = refl
      of (Some p) = each p (parse_rule statements p.1)

  -- where none is
  none_listed : (a : Syntax) (m : Stream) → parse_rule attributes ts ≡ Some (a, m) → sees at_item m ≡ false → copied w list_out ≡ copy_form (rule statement_rest) (adds w (way w.printing a)) m
  unfolding copy_form
  none_listed a m e v =
      ap₂ (λ k o. copied w (first_of (and_then (wrap (shape an_item) k) (parse_rule statements)) (and_then o (λ n. branch (sees at_item n) (wrap (shape an_item) (and_then (parse_rule item_rest n) (parse_rule statements))) (parse_rule statement_rest n))))) (in_block_other ts m a e v) e
      ∙ ap (λ c. copied w (wrap Right (wrap (Both a) (branch c (wrap (shape an_item) (and_then (parse_rule item_rest m) (parse_rule statements))) (parse_rule statement_rest m))))) v
      ∙ of (parse_rule statement_rest m)
    where
      text : (s : Syntax) → way w.printing (Right (Both a (Right s))) ≡ way w.printing a ⧺ way w.printing s
      text s = way_right w.printing (Both a (Right s)) ∙ way_both w.printing a (Right s) ∙ ap (λ z. way w.printing a ⧺ z) (way_right w.printing s)

      of : (o : Out) → copied w (wrap Right (wrap (Both a) (wrap Right o))) ≡ copied (adds w (way w.printing a)) o
      of None = refl
      of (Some q) = following (way w.printing a) (λ s. Right (Both a (Right s))) w text (Some q)

  none_read : parse_rule attributes ts ≡ None → copied w list_out ≡ Refused
  none_read e = ap₂ (λ k o. copied w (first_of (and_then (wrap (shape an_item) k) (parse_rule statements)) (and_then o (λ n. branch (sees at_item n) (wrap (shape an_item) (and_then (parse_rule item_rest n) (parse_rule statements))) (parse_rule statement_rest n))))) (in_block_none ts e) e

  -- an item, and what follows it
  followed_leads : (A B : Copy) → Leads A B → Leads (next A (copy_form (rule statements))) (next B (copy_form (rule statements)))
  followed_leads A (Reached v r) h = subst (λ o. Leads o (copy_form (rule statements) v r)) (sym (ap (λ o. next o (copy_form (rule statements))) h)) (leads_same _ _ refl)
  followed_leads A Refused h = ap (λ o. next o (copy_form (rule statements))) h
  followed_leads A Stuck h = tt

  pub statements_written : (l : Option Bool) → Fair w.printing l → Leads (copy_form some_statements w ts) (copy_course statements_course l w ts)
  unfolding copy_form
  statements_written l fair = go (parse_rule attributes ts) refl
    where
      turn : (a : Syntax) (m : Stream) → parse_rule attributes ts ≡ Some (a, m) → (v : Bool) → sees at_item m ≡ v →
          Leads (copied w list_out) (pick v (copy_course (followed item_course (rule statements)) l (adds w (way w.printing a)) m) (copy_course last_statement l (adds w (way w.printing a)) m))
      turn a m e true v =
          subst (λ o. Leads o (next (copy_course item_course l (adds w (way w.printing a)) m) (copy_form (rule statements)))) (sym (items_listed a m e v))
          (followed_leads (copied w (run_plan (item_after a) kept_item ts m)) (copy_course item_course l (adds w (way w.printing a)) m)
          (goes_written kept_item ts w item_course (item_after a) l (way w.printing a) m fair (item_after_goes w.printing ts m a e)))
      turn a m e false v = rest_leads (rule statement_rest) (adds w (way w.printing a)) m l _ (none_listed a m e v)

      go : (o : Out) → parse_rule attributes ts ≡ o → Leads (copied w list_out) (next (copied w (parse_rule attributes ts)) (copy_course (turns at_item (followed item_course (rule statements)) last_statement) l))
      go None e = subst (λ o. Leads (copied w list_out) (next (copied w o) (copy_course (turns at_item (followed item_course (rule statements)) last_statement) l))) (sym e) (none_read e)
      go (Some p) e = subst (λ o. Leads (copied w list_out) (next (copied w o) (copy_course (turns at_item (followed item_course (rule statements)) last_statement) l))) (sym e) (turn p.0 p.1 e (sees at_item p.1) refl)

  pub statements_kept : (v : Written) → Leads (copy_form some_statements w ts) (next (next (copy_kept statements_course v ts) (capturing w ts)) (copy_form (rule statements)))
  unfolding copy_form
  statements_kept v = go (parse_rule attributes ts) refl
    where
      turn : (a : Syntax) (m : Stream) → parse_rule attributes ts ≡ Some (a, m) → (c : Bool) → sees at_item m ≡ c → (u : Written) →
          Leads (copied w list_out) (next (next (pick c (copy_kept (followed item_course (rule statements)) u m) (copy_kept last_statement u m)) (capturing w ts)) (copy_form (rule statements)))
      turn a m e true c u =
          subst (λ o. Leads o (next (next (copy_kept item_course u m) (capturing w ts)) (copy_form (rule statements)))) (sym (items_listed a m e c))
          (followed_leads (copied w (run_plan (item_after a) kept_item ts m)) (next (copy_kept item_course u m) (capturing w ts))
          (goes_kept kept_item ts w item_course (item_after a) (way w.printing a) u m (item_after_goes w.printing ts m a e)))
      turn a m e false c u = tt

      go : (o : Out) → parse_rule attributes ts ≡ o → Leads (copied w list_out) (next (next (next (copied v (parse_rule attributes ts)) (copy_kept (turns at_item (followed item_course (rule statements)) last_statement))) (capturing w ts)) (copy_form (rule statements)))
      go None e = subst (λ o. Leads (copied w list_out) (next (next (next (copied v o) (copy_kept (turns at_item (followed item_course (rule statements)) last_statement))) (capturing w ts)) (copy_form (rule statements)))) (sym e) (none_read e)
      go (Some p) e =
          subst (λ o. Leads (copied w list_out) (next (next (next (copied v o) (copy_kept (turns at_item (followed item_course (rule statements)) last_statement))) (capturing w ts)) (copy_form (rule statements)))) (sym e)
          (turn p.0 p.1 e (sees at_item p.1) refl (adds v (way v.printing p.0)))
