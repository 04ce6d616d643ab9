-- What is read as a whole: attributes, and what the plan reads after them; or, kept verbatim, all of it.
use Rattle.std.proofs.Common.{◌≡◌, ◌≤◌, ◌+◌, Bool, true, false, Some, None, refl, sym, ap, ◌∙◌, arith}
use Rattle.syn_grammar.specs.Tokens.{Stream}
use Rattle.syn_grammar.specs.Rules.{Rule, attributes, foreign_item, impl_item, item, kept_foreign_item, kept_impl_item, kept_item, kept_trait_item, trait_item}
use Rattle.syn_grammar.specs.Grammar.{Syntax, Nothing, Node, Case, Captured}
use Rattle.syn_grammar.specs.Take.{Out, before, left}
use Rattle.syn_grammar.specs.Run.{parse_rule}
use Rattle.syn_grammar.specs.Plan.{Plan, follow, kept_as, run_plan}
use Rattle.syn_grammar.specs.ItemPlan.{item_after, item_plan}
use Rattle.syn_grammar.specs.MemberPlans.{foreign_item_plan, impl_item_plan, trait_item_plan}
use Rattle.syn_grammar.proofs.ItemPlan.{item_plan_is}
use Rattle.syn_grammar.proofs.MemberPlans.{foreign_item_plan_is, impl_item_plan_is, trait_item_plan_is}
use Rattle.syn_grammar.proofs.Run.{parse_rule_less}
use Rattle.syn_item.specs.Planned.{OnlyKept}
use Rattle.syn_item.specs.Stages.{foreign_item_plan_after, impl_item_plan_after, trait_item_plan_after}
use Rattle.syn_item.proofs.Kept.{kept_whole}

-- ITEM

module _ (ts : Stream) where
  abbrev item_on : Out → Out
  item_on o = follow (λ a m. run_plan (item_after a) kept_item ts m) o

  item_goes : parse_rule item ts ≡ item_on (parse_rule attributes ts)
  unfolding item_plan
  item_goes = item_plan_is ts

  pub item_attributes_refused : parse_rule attributes ts ≡ None → parse_rule item ts ≡ None
  item_attributes_refused e = item_goes ∙ ap item_on e

  module _ (a : Syntax) (m : Stream) (outer : parse_rule attributes ts ≡ Some (a, m)) where
    item_past : parse_rule item ts ≡ run_plan (item_after a) kept_item ts m
    item_past = item_goes ∙ ap item_on outer

    pub item_refused : run_plan (item_after a) kept_item ts m ≡ None → parse_rule item ts ≡ None
    item_refused e = item_past ∙ e

    module _ (s : Syntax) (r : Stream) (read : run_plan (item_after a) kept_item ts m ≡ Some (s, r)) where
      pub item_read : parse_rule item ts ≡ Some (s, r)
      item_read = item_past ∙ read

      pub item_moved : left r + 1 ≤ left ts
      item_moved = let h = parse_rule_less item ts (s, r) item_read in omega (arith, h)

    module _ (kept : OnlyKept kept_item ts (run_plan (item_after a) kept_item ts m)) (tokens r : Stream) (copied : (s : Syntax) × (parse_rule item ts ≡ Some (s, r)) × (tokens ≡ before ts r)) where
      pub item_kept : parse_rule item ts ≡ Some (Node (Case kept_item (Captured Nothing tokens)), r)
      item_kept =
          let (s, e, q) = copied in
          item_past ∙ kept_whole kept_item ts (run_plan (item_after a) kept_item ts m) s r kept (sym item_past ∙ e)
          ∙ ap (λ (z : Stream). Some (Node (Case kept_item (Captured Nothing z)), r)) (sym q)

      pub item_kept_moved : left r + 1 ≤ left ts
      item_kept_moved = let h = parse_rule_less item ts (Node (Case kept_item (Captured Nothing tokens)), r) item_kept in omega (arith, h)

-- TRAIT ITEM

module _ (ts : Stream) where
  abbrev trait_on : Out → Out
  trait_on o = follow (λ a m. run_plan (trait_item_plan_after a) kept_trait_item ts m) o

  trait_goes : parse_rule trait_item ts ≡ trait_on (parse_rule attributes ts)
  unfolding trait_item_plan trait_item_plan_after
  trait_goes = trait_item_plan_is ts

  pub trait_attributes_refused : parse_rule attributes ts ≡ None → parse_rule trait_item ts ≡ None
  trait_attributes_refused e = trait_goes ∙ ap trait_on e

  module _ (a : Syntax) (m : Stream) (outer : parse_rule attributes ts ≡ Some (a, m)) where
    trait_past : parse_rule trait_item ts ≡ run_plan (trait_item_plan_after a) kept_trait_item ts m
    trait_past = trait_goes ∙ ap trait_on outer

    pub trait_refused : run_plan (trait_item_plan_after a) kept_trait_item ts m ≡ None → parse_rule trait_item ts ≡ None
    trait_refused e = trait_past ∙ e

    module _ (s : Syntax) (r : Stream) (read : run_plan (trait_item_plan_after a) kept_trait_item ts m ≡ Some (s, r)) where
      pub trait_read : parse_rule trait_item ts ≡ Some (s, r)
      trait_read = trait_past ∙ read

      pub trait_moved : left r + 1 ≤ left ts
      trait_moved = let h = parse_rule_less trait_item ts (s, r) trait_read in omega (arith, h)

    module _ (kept : OnlyKept kept_trait_item ts (run_plan (trait_item_plan_after a) kept_trait_item ts m)) (tokens r : Stream) (copied : (s : Syntax) × (parse_rule trait_item ts ≡ Some (s, r)) × (tokens ≡ before ts r)) where
      pub trait_kept : parse_rule trait_item ts ≡ Some (Node (Case kept_trait_item (Captured Nothing tokens)), r)
      trait_kept =
          let (s, e, q) = copied in
          trait_past ∙ kept_whole kept_trait_item ts (run_plan (trait_item_plan_after a) kept_trait_item ts m) s r kept (sym trait_past ∙ e)
          ∙ ap (λ (z : Stream). Some (Node (Case kept_trait_item (Captured Nothing z)), r)) (sym q)

      pub trait_kept_moved : left r + 1 ≤ left ts
      trait_kept_moved = let h = parse_rule_less trait_item ts (Node (Case kept_trait_item (Captured Nothing tokens)), r) trait_kept in omega (arith, h)

-- IMPL ITEM

module _ (ts : Stream) where
  abbrev impl_on : Out → Out
  impl_on o = follow (λ a m. run_plan (impl_item_plan_after a) kept_impl_item ts m) o

  impl_goes : parse_rule impl_item ts ≡ impl_on (parse_rule attributes ts)
  unfolding impl_item_plan impl_item_plan_after
  impl_goes = impl_item_plan_is ts

  pub impl_attributes_refused : parse_rule attributes ts ≡ None → parse_rule impl_item ts ≡ None
  impl_attributes_refused e = impl_goes ∙ ap impl_on e

  module _ (a : Syntax) (m : Stream) (outer : parse_rule attributes ts ≡ Some (a, m)) where
    impl_past : parse_rule impl_item ts ≡ run_plan (impl_item_plan_after a) kept_impl_item ts m
    impl_past = impl_goes ∙ ap impl_on outer

    pub impl_refused : run_plan (impl_item_plan_after a) kept_impl_item ts m ≡ None → parse_rule impl_item ts ≡ None
    impl_refused e = impl_past ∙ e

    module _ (s : Syntax) (r : Stream) (read : run_plan (impl_item_plan_after a) kept_impl_item ts m ≡ Some (s, r)) where
      pub impl_read : parse_rule impl_item ts ≡ Some (s, r)
      impl_read = impl_past ∙ read

      pub impl_moved : left r + 1 ≤ left ts
      impl_moved = let h = parse_rule_less impl_item ts (s, r) impl_read in omega (arith, h)

    module _ (kept : OnlyKept kept_impl_item ts (run_plan (impl_item_plan_after a) kept_impl_item ts m)) (tokens r : Stream) (copied : (s : Syntax) × (parse_rule impl_item ts ≡ Some (s, r)) × (tokens ≡ before ts r)) where
      pub impl_kept : parse_rule impl_item ts ≡ Some (Node (Case kept_impl_item (Captured Nothing tokens)), r)
      impl_kept =
          let (s, e, q) = copied in
          impl_past ∙ kept_whole kept_impl_item ts (run_plan (impl_item_plan_after a) kept_impl_item ts m) s r kept (sym impl_past ∙ e)
          ∙ ap (λ (z : Stream). Some (Node (Case kept_impl_item (Captured Nothing z)), r)) (sym q)

      pub impl_kept_moved : left r + 1 ≤ left ts
      impl_kept_moved = let h = parse_rule_less impl_item ts (Node (Case kept_impl_item (Captured Nothing tokens)), r) impl_kept in omega (arith, h)

-- FOREIGN ITEM

module _ (ts : Stream) where
  abbrev foreign_on : Out → Out
  foreign_on o = follow (λ a m. run_plan (foreign_item_plan_after a) kept_foreign_item ts m) o

  foreign_goes : parse_rule foreign_item ts ≡ foreign_on (parse_rule attributes ts)
  unfolding foreign_item_plan foreign_item_plan_after
  foreign_goes = foreign_item_plan_is ts

  pub foreign_attributes_refused : parse_rule attributes ts ≡ None → parse_rule foreign_item ts ≡ None
  foreign_attributes_refused e = foreign_goes ∙ ap foreign_on e

  module _ (a : Syntax) (m : Stream) (outer : parse_rule attributes ts ≡ Some (a, m)) where
    foreign_past : parse_rule foreign_item ts ≡ run_plan (foreign_item_plan_after a) kept_foreign_item ts m
    foreign_past = foreign_goes ∙ ap foreign_on outer

    pub foreign_refused : run_plan (foreign_item_plan_after a) kept_foreign_item ts m ≡ None → parse_rule foreign_item ts ≡ None
    foreign_refused e = foreign_past ∙ e

    module _ (s : Syntax) (r : Stream) (read : run_plan (foreign_item_plan_after a) kept_foreign_item ts m ≡ Some (s, r)) where
      pub foreign_read : parse_rule foreign_item ts ≡ Some (s, r)
      foreign_read = foreign_past ∙ read

      pub foreign_moved : left r + 1 ≤ left ts
      foreign_moved = let h = parse_rule_less foreign_item ts (s, r) foreign_read in omega (arith, h)

    module _ (kept : OnlyKept kept_foreign_item ts (run_plan (foreign_item_plan_after a) kept_foreign_item ts m)) (tokens r : Stream) (copied : (s : Syntax) × (parse_rule foreign_item ts ≡ Some (s, r)) × (tokens ≡ before ts r)) where
      pub foreign_kept : parse_rule foreign_item ts ≡ Some (Node (Case kept_foreign_item (Captured Nothing tokens)), r)
      foreign_kept =
          let (s, e, q) = copied in
          foreign_past ∙ kept_whole kept_foreign_item ts (run_plan (foreign_item_plan_after a) kept_foreign_item ts m) s r kept (sym foreign_past ∙ e)
          ∙ ap (λ (z : Stream). Some (Node (Case kept_foreign_item (Captured Nothing z)), r)) (sym q)

      pub foreign_kept_moved : left r + 1 ≤ left ts
      foreign_kept_moved = let h = parse_rule_less foreign_item ts (Node (Case kept_foreign_item (Captured Nothing tokens)), r) foreign_kept in omega (arith, h)
