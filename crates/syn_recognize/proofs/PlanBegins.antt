-- How a plan begins.
use Rattle.std.proofs.Common.{◌≡◌, Bool, true, false, Option, Some, None, refl, sym, ap, ◌∙◌, subst}
use Rattle.syn_grammar.specs.Tokens.{Stream, Look, end, pick}
use Rattle.syn_grammar.specs.Rules as rules
use Rattle.syn_grammar.specs.Rules.{Rule}
use Rattle.syn_grammar.specs.Grammar.{Grammar, empty, rule, ◌&◌}
use Rattle.syn_grammar.specs.Table.{table, at_item}
use Rattle.syn_grammar.specs.Take.{Out, sees}
use Rattle.syn_grammar.specs.Run.{parse_form, parse_rule}
use Rattle.syn_grammar.specs.Plan.{Plan, run_plan}
use Rattle.syn_grammar.specs.ItemPlan.{item_plan}
use Rattle.syn_grammar.specs.MemberPlans.{trait_item_plan, impl_item_plan, foreign_item_plan}
use Rattle.syn_grammar.specs.StatementPlans.{crate_macro_plan}
use Rattle.syn_grammar.specs.SmallPlans.{derive_input_plan}
use Rattle.syn_grammar.specs.AlonePlans.{use_alone, type_alone, impl_alone}
use Rattle.syn_grammar.proofs.ItemPlan.{item_plan_is}
use Rattle.syn_grammar.proofs.MemberPlans.{trait_item_plan_is, impl_item_plan_is, foreign_item_plan_is}
use Rattle.syn_grammar.proofs.StatementPlans.{crate_macro_plan_is}
use Rattle.syn_grammar.proofs.SmallPlans.{derive_input_plan_is}
use Rattle.syn_grammar.proofs.AlonePlans.{use_alone_is, type_alone_is, impl_alone_is}
use Rattle.syn_recognize.specs.PrintedRows.{way}
use Rattle.syn_recognize.specs.Written.{Written, adds, blank, drops}
use Rattle.syn_recognize.specs.Copies.{Copy, Reached, Refused, Stuck, copied, next, copy_form, capturing}
use Rattle.syn_recognize.proofs.GuessedCourses.{Fair, Leads, after_form, copy_course, copy_kept}
use Rattle.syn_recognize.specs.Course.{Course, reads, turns, followed, rest}
use Rattle.syn_recognize.specs.Courses.{copy_aside, copy_dropped}
use Rattle.syn_recognize.specs.Stages.{planned_course, planned_form}
use Rattle.syn_recognize.specs.declared.plan.Planned.{Planned}
use Rattle.syn_recognize.specs.declared.plan.Planned.TheVariants as Planned-m
use Rattle.syn_recognize.proofs.Writes.{adds_none}
use Rattle.syn_recognize.proofs.Copied.{empty_is}
use Rattle.syn_recognize.proofs.CourseProofs.{Goes, goes_written, goes_kept}
use Rattle.syn_recognize.proofs.PlannedCourses.{item_goes, trait_item_goes, impl_item_goes, foreign_item_goes, derive_input_goes, crate_macro_goes, use_item_rest_goes, type_item_rest_goes, impl_definition_rest_goes}
use Rattle.syn_recognize.proofs.PlannedAside.{sure, coming, guesses, fits, course_is, dropped_is, dropped_known, leads_known}
use Rattle.syn_recognize.proofs.StatementCourses.{item_course, table_is, statement_written, statement_kept, statements_written, statements_kept}

-- nothing follows it
nothing_after : (o : Copy) → next o (copy_form (after_form Planned-m.Item)) ≡ o
nothing_after (Reached v r) = empty_is v r
nothing_after Refused = refl
nothing_after Stuck = refl

-- A RULE that is read by a plan
module _ (k j : Rule) (d : Course) (p : Plan) (law : (ts : Stream) → parse_rule k ts ≡ run_plan p j ts ts) (goes : (a : Bool) (m : Stream) → Goes a d p end m) where
  by_plan : (w : Written) (ts : Stream) (l : Option Bool) → Fair w.printing l → Leads (copy_form (table k) w ts) (copy_course d l w ts)
  by_plan w ts l fair =
      subst (λ o. Leads o (copy_course d l w ts)) (sym (table_is w ts k ∙ ap (copied w) (law ts)))
      (subst (λ v. Leads (copied w (run_plan p j ts ts)) (copy_course d l v ts)) (adds_none w) (goes_written j ts w d p l end ts fair (goes w.printing ts)))

  by_plan_kept : (w v : Written) (ts : Stream) → Leads (copy_form (table k) w ts) (next (next (copy_kept d v ts) (capturing w ts)) (copy_form (after_form Planned-m.Item)))
  by_plan_kept w v ts =
      subst (Leads (copy_form (table k) w ts)) (sym (nothing_after (next (copy_kept d v ts) (capturing w ts))))
      (subst (λ o. Leads o (next (copy_kept d v ts) (capturing w ts))) (sym (table_is w ts k ∙ ap (copied w) (law ts))) (goes_kept j ts w d p end v ts (goes w.printing ts)))

planned_written : (k : Planned) (w : Written) (ts : Stream) (l : Option Bool) → Fair w.printing l → Leads (copy_form (planned_form k) w ts) (copy_course (planned_course k) l w ts)
planned_written Planned-m.Item w ts l fair = by_plan rules.item rules.kept_item (planned_course Planned-m.Item) item_plan item_plan_is item_goes w ts l fair
planned_written Planned-m.TraitItem w ts l fair = by_plan rules.trait_item rules.kept_trait_item (planned_course Planned-m.TraitItem) trait_item_plan trait_item_plan_is trait_item_goes w ts l fair
planned_written Planned-m.ImplItem w ts l fair = by_plan rules.impl_item rules.kept_impl_item (planned_course Planned-m.ImplItem) impl_item_plan impl_item_plan_is impl_item_goes w ts l fair
planned_written Planned-m.ForeignItem w ts l fair = by_plan rules.foreign_item rules.kept_foreign_item (planned_course Planned-m.ForeignItem) foreign_item_plan foreign_item_plan_is foreign_item_goes w ts l fair
planned_written Planned-m.CrateMacro w ts l fair = by_plan rules.crate_macro rules.kept_item (planned_course Planned-m.CrateMacro) crate_macro_plan crate_macro_plan_is crate_macro_goes w ts l fair
planned_written Planned-m.DeriveInput w ts l fair = by_plan rules.derive_input rules.kept_item (planned_course Planned-m.DeriveInput) derive_input_plan derive_input_plan_is derive_input_goes w ts l fair
planned_written Planned-m.UseItemRest w ts l fair = by_plan rules.use_item_rest rules.kept_item (planned_course Planned-m.UseItemRest) use_alone use_alone_is use_item_rest_goes w ts l fair
planned_written Planned-m.TypeItemRest w ts l fair = by_plan rules.type_item_rest rules.kept_item (planned_course Planned-m.TypeItemRest) type_alone type_alone_is type_item_rest_goes w ts l fair
planned_written Planned-m.ImplDefinitionRest w ts l fair = by_plan rules.impl_definition_rest rules.kept_item (planned_course Planned-m.ImplDefinitionRest) impl_alone impl_alone_is impl_definition_rest_goes w ts l fair
planned_written Planned-m.Statement w ts l fair = statement_written w ts l fair
planned_written Planned-m.Statements w ts l fair = statements_written w ts l fair

planned_kept : (k : Planned) (w v : Written) (ts : Stream) → Leads (copy_form (planned_form k) w ts) (next (next (copy_kept (planned_course k) v ts) (capturing w ts)) (copy_form (after_form k)))
planned_kept Planned-m.Item w v ts = by_plan_kept rules.item rules.kept_item (planned_course Planned-m.Item) item_plan item_plan_is item_goes w v ts
planned_kept Planned-m.TraitItem w v ts = by_plan_kept rules.trait_item rules.kept_trait_item (planned_course Planned-m.TraitItem) trait_item_plan trait_item_plan_is trait_item_goes w v ts
planned_kept Planned-m.ImplItem w v ts = by_plan_kept rules.impl_item rules.kept_impl_item (planned_course Planned-m.ImplItem) impl_item_plan impl_item_plan_is impl_item_goes w v ts
planned_kept Planned-m.ForeignItem w v ts = by_plan_kept rules.foreign_item rules.kept_foreign_item (planned_course Planned-m.ForeignItem) foreign_item_plan foreign_item_plan_is foreign_item_goes w v ts
planned_kept Planned-m.CrateMacro w v ts = by_plan_kept rules.crate_macro rules.kept_item (planned_course Planned-m.CrateMacro) crate_macro_plan crate_macro_plan_is crate_macro_goes w v ts
planned_kept Planned-m.DeriveInput w v ts = by_plan_kept rules.derive_input rules.kept_item (planned_course Planned-m.DeriveInput) derive_input_plan derive_input_plan_is derive_input_goes w v ts
planned_kept Planned-m.UseItemRest w v ts = by_plan_kept rules.use_item_rest rules.kept_item (planned_course Planned-m.UseItemRest) use_alone use_alone_is use_item_rest_goes w v ts
planned_kept Planned-m.TypeItemRest w v ts = by_plan_kept rules.type_item_rest rules.kept_item (planned_course Planned-m.TypeItemRest) type_alone type_alone_is type_item_rest_goes w v ts
planned_kept Planned-m.ImplDefinitionRest w v ts = by_plan_kept rules.impl_definition_rest rules.kept_item (planned_course Planned-m.ImplDefinitionRest) impl_alone impl_alone_is impl_definition_rest_goes w v ts
planned_kept Planned-m.Statement w v ts = subst (Leads (copy_form (table rules.statement) w ts)) (sym (nothing_after (next (copy_kept (planned_course Planned-m.Statement) v ts) (capturing w ts)))) (statement_kept w ts v)
planned_kept Planned-m.Statements w v ts = statements_kept w ts v

-- what is written aside from the beginning; how an impl's generics without parameters are printed is guessed where trees are written as
-- they are printed
module _ (A : Copy) (u : Written) (ts : Stream) (q : Grammar) where
  from : (d : Course) → fits true d ≡ true → (i m : Stream) (v : Written) → ((l : Option Bool) → Fair u.printing l → Leads A (next (copy_course d l (adds u i) m) (copy_form q))) →
      Leads A (next (next (copy_kept d v m) (capturing u ts)) (copy_form q)) → A ≡ next (copy_aside u ts d None (adds (blank u.printing) i) m) (copy_form q)
  from d f i m v x y = go u.printing refl
    where
      go : (a : Bool) → u.printing ≡ a → A ≡ next (copy_aside u ts d None (adds (blank u.printing) i) m) (copy_form q)
      go true e = course_is A u ts q d coming true (λ h. e) f i m v (λ l k. guessed l k) y
        where
          guessed : (l : Option Bool) → guesses coming l → Leads A (next (copy_course d l (adds u i) m) (copy_form q))
          guessed None k = absurd k
          guessed (Some z) k = x (Some z) (subst (λ c. Fair c (Some z)) (sym e) tt)
      go false e = course_is A u ts q d sure true (λ h. e) f i m v (λ l k. guessed l k) y
        where
          guessed : (l : Option Bool) → guesses sure l → Leads A (next (copy_course d l (adds u i) m) (copy_form q))
          guessed None k = x None (subst (λ c. Fair c None) (sym e) tt)
          guessed (Some z) k = absurd k

alone : (A : Copy) (u : Written) (ts : Stream) (d : Course) → fits true d ≡ true → ((l : Option Bool) → Fair u.printing l → Leads A (copy_course d l u ts)) →
    ((v : Written) → Leads A (next (next (copy_kept d v ts) (capturing u ts)) (copy_form empty))) → A ≡ copy_aside u ts d None (blank u.printing) ts
alone A u ts d f x y =
    from A u ts empty d f end ts u (λ l k. subst (Leads A) (sym (nothing_after (copy_course d l (adds u end) ts))) (subst (λ w. Leads A (copy_course d l w ts)) (sym (adds_none u)) (x l k))) (y u)
    ∙ nothing_after (copy_aside u ts d None (adds (blank u.printing) end) ts) ∙ ap (λ w. copy_aside u ts d None w ts) (adds_none (blank u.printing))

-- the statements of a block: an item, which a form follows, or the rest
module _ (a r h : Grammar) (c : Look) (d : Course) (f : fits true d ≡ true) (A : Copy) (u : Written) (ts : Stream) where
  abbrev one_followed : Course
  one_followed = turns c (followed d h) (rest r)

  statements_aside : ((l : Option Bool) → Fair u.printing l → Leads A (copy_course (reads a one_followed) l u ts)) → Leads A (next (next (copy_kept (reads a one_followed) u ts) (capturing u ts)) (copy_form h)) →
      A ≡ copy_aside u ts (reads a one_followed) None (blank u.printing) ts
  unfolding copy_form
  statements_aside x y = go (parse_form a ts) x y
    where
      go : (o : Out) → ((l : Option Bool) → Fair u.printing l → Leads A (next (copied u o) (copy_course one_followed l))) → Leads A (next (next (next (copied u o) (copy_kept one_followed)) (capturing u ts)) (copy_form h)) →
          A ≡ next (copied (blank u.printing) o) (copy_aside u ts one_followed None)
      go None x y = y
      go (Some p) x y = turn (sees c p.1) x y
        where
          i : Stream
          i = way u.printing p.0

          turn : (z : Bool) → ((l : Option Bool) → Fair u.printing l → Leads A (pick z (next (copy_course d l (adds u i) p.1) (copy_form h)) (copy_course (rest r) l (adds u i) p.1))) →
              Leads A (next (next (pick z (copy_kept d (adds u i) p.1) Stuck) (capturing u ts)) (copy_form h)) →
              A ≡ pick z (next (copy_aside u ts d None (adds (blank u.printing) i) p.1) (copy_form h)) (copy_aside u ts (rest r) None (adds (blank u.printing) i) p.1)
          turn true x y = from A u ts h d f i p.1 (adds u i) x y
          turn false x y =
              from A u ts empty (rest r) refl i p.1 u (λ l k. subst (Leads A) (sym (nothing_after (copy_course (rest r) l (adds u i) p.1))) (x l k)) tt
              ∙ nothing_after (copy_aside u ts (rest r) None (adds (blank u.printing) i) p.1)

pub planned_aside : (k : Planned) (u : Written) (ts : Stream) → copy_form (planned_form k) u ts ≡ copy_aside u ts (planned_course k) None (blank u.printing) ts
planned_aside Planned-m.Item u ts = alone _ u ts (planned_course Planned-m.Item) refl (planned_written Planned-m.Item u ts) (λ v. planned_kept Planned-m.Item u v ts)
planned_aside Planned-m.TraitItem u ts = alone _ u ts (planned_course Planned-m.TraitItem) refl (planned_written Planned-m.TraitItem u ts) (λ v. planned_kept Planned-m.TraitItem u v ts)
planned_aside Planned-m.ImplItem u ts = alone _ u ts (planned_course Planned-m.ImplItem) refl (planned_written Planned-m.ImplItem u ts) (λ v. planned_kept Planned-m.ImplItem u v ts)
planned_aside Planned-m.ForeignItem u ts = alone _ u ts (planned_course Planned-m.ForeignItem) refl (planned_written Planned-m.ForeignItem u ts) (λ v. planned_kept Planned-m.ForeignItem u v ts)
planned_aside Planned-m.CrateMacro u ts = alone _ u ts (planned_course Planned-m.CrateMacro) refl (planned_written Planned-m.CrateMacro u ts) (λ v. planned_kept Planned-m.CrateMacro u v ts)
planned_aside Planned-m.DeriveInput u ts = alone _ u ts (planned_course Planned-m.DeriveInput) refl (planned_written Planned-m.DeriveInput u ts) (λ v. planned_kept Planned-m.DeriveInput u v ts)
planned_aside Planned-m.Statement u ts = alone _ u ts (planned_course Planned-m.Statement) refl (planned_written Planned-m.Statement u ts) (λ v. planned_kept Planned-m.Statement u v ts)
planned_aside Planned-m.UseItemRest u ts = alone _ u ts (planned_course Planned-m.UseItemRest) refl (planned_written Planned-m.UseItemRest u ts) (λ v. planned_kept Planned-m.UseItemRest u v ts)
planned_aside Planned-m.TypeItemRest u ts = alone _ u ts (planned_course Planned-m.TypeItemRest) refl (planned_written Planned-m.TypeItemRest u ts) (λ v. planned_kept Planned-m.TypeItemRest u v ts)
planned_aside Planned-m.ImplDefinitionRest u ts = alone _ u ts (planned_course Planned-m.ImplDefinitionRest) refl (planned_written Planned-m.ImplDefinitionRest u ts) (λ v. planned_kept Planned-m.ImplDefinitionRest u v ts)
planned_aside Planned-m.Statements u ts =
    statements_aside (rule rules.attributes) (rule rules.statement_rest & empty) (rule rules.statements) at_item item_course refl _ u ts (planned_written Planned-m.Statements u ts) (planned_kept Planned-m.Statements u u ts)

-- where what is written is dropped
pub planned_dropped : (k : Planned) (u : Written) (ts : Stream) → drops u ≡ true → u.printing ≡ false → copy_form (planned_form k) u ts ≡ copy_dropped (planned_course k) u ts
planned_dropped k u ts e f =
    leads_known (copy_form (planned_form k) u ts) (copy_dropped (planned_course k) u ts)
    (subst (Leads (copy_form (planned_form k) u ts)) (sym (dropped_is (planned_course k) u ts e)) (planned_written k u ts None (subst (λ a. Fair a None) (sym f) tt))) (dropped_known (planned_course k) u ts)
