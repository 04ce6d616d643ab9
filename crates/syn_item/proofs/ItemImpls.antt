-- Impls among items, by their plans.
use Rattle.std.proofs.Common.{◌≡◌, ℕ, Bool, true, false, List, [], ◌∷◌, Some, None, refl, sym, ap, ap₂, subst, ◌∙◌, true≢false, eqb-true}
use Rattle.std.specs.Prelude.{Option, Result, nat_eq}
use Rattle.syn_grammar.specs.Words.{exclamation, w_const, w_default, w_for, w_impl, w_unsafe, w_where}
use Rattle.syn_grammar.specs.Tokens.{Brace, Lone_word, Paren, Stream, ahead, end, leaf, punct, group, and, at_generics, at_word, no, or, ◌or_else◌}
use Rattle.syn_grammar.specs.Rules.{Rule, bare_trait, for_self_type, impl_body, impl_definition, impl_items, inner_attributes, predicates, restriction, type, type_path, where_clause}
use Rattle.syn_grammar.specs.Grammar.{Grammar, Syntax, Nothing, Both, Left, Mark, Right, Node, Case, Impl, ◌&◌, empty, inside, rule, when◌then◌else◌, word}
use Rattle.syn_grammar.specs.Forms.{optional, plainly, punctuation}
use Rattle.syn_grammar.specs.Table.{at_brace, at_exclamation, at_for, at_module_path, at_paren, at_where, item_word, kept_generics, optional_item_word}
use Rattle.syn_grammar.specs.Take.{Opened, Out, marked as marked_as, only, sees, take_group, take_mark, take_token, taken}
use Rattle.syn_grammar.specs.Run.{and_then, branch, parse_form, parse_rule, within, wrap}
use Rattle.syn_grammar.specs.Plan.{Plan, ends, by_test, follow, kept_as, run_plan}
use Rattle.syn_grammar.specs.ItemPlan.{Place, public, unwritten, plain, absent, at_in_restriction, at_lone_word, bare_impl_plan, impl_generics, impl_plan, impl_types, kept_impl, restricted_end}
use Rattle.syn_grammar.specs.MemberPlans.{no_clause}
use Rattle.syn_grammar.proofs.Each.{impl_body_is}
use Rattle.syn_grammar.proofs.Looks.{sees_and, sees_group}
use Rattle.syn_grammar.proofs.Known.{or_off}
use Rattle.syn_grammar.proofs.PlanSteps.{Event, happened, left_over, marked, refused_there, seen_apart, took, went}
use Rattle.syn_grammar.proofs.Sets.{and_left, and_right, no_true}
use Rattle.syn_grammar.proofs.Takes.{TreeAndRest, inv_only}
use Rattle.syn_parse.specs.Peeks.{past}
use Rattle.syn_item.specs.ImplForms.{impl_generics_form, types_then}
use Rattle.syn_item.specs.Impls.{inherent}
use Rattle.syn_item.specs.ItemTurns.{default_impl_turn, default_next, lone_word_turn, no_visibility}
use Rattle.syn_item.specs.NextWords.{odd_negative}
use Rattle.syn_item.specs.Planned.{Follows, OnlyKept}
use Rattle.syn_item.proofs.FirstTypes.{at_bang_first, at_path_first, at_type_first}
use Rattle.syn_item.proofs.Followed.{is_kept}
use Rattle.syn_item.proofs.ForeignPlans.{no_clause_read}
use Rattle.syn_item.proofs.ItemPlans.{plain_is}
use Rattle.syn_item.proofs.ItemWords.{ReadWord, word_known}
use Rattle.syn_item.proofs.NoSelfTypes.{left_as_read}
use Rattle.syn_item.proofs.OtherTypes.{other_type}
use Rattle.syn_item.proofs.PlanRows.{reads_row, row_is}

-- FROM `impl` ON

module _ (k : Rule) (ts : Stream) (a d c u : Syntax) (m : Stream) where
  abbrev run : Out
  run = run_plan (impl_plan a d c u) k ts m

  pub word_refused : take_token (word w_impl) m ≡ None → run ≡ None
  unfolding impl_plan
  word_refused e = ap (follow (λ w r. run_plan (impl_generics a d c u w) k ts r)) e

  pub word_follows : {X E : Type 0} (refusal : E → Type 0) (view : X → Syntax) (x : Result (Option X) E) (new : Stream) (w : Syntax) (r : Stream) → take_token (word w_impl) m ≡ Some (w, r) →
      Follows refusal view k ts (run_plan (impl_generics a d c u w) k ts r) x new → Follows refusal view k ts run x new
  unfolding impl_plan
  word_follows refusal view x new w r e f = subst (λ (o : Out). Follows refusal view k ts o x new) (sym (ap (follow (λ w r. run_plan (impl_generics a d c u w) k ts r)) e)) f

-- FROM `default` ON

module _ (k : Rule) (ts : Stream) (a : Syntax) (m : Stream) (at_default : default_next m ≡ true) where
  abbrev default_run : Out
  default_run = run_plan (default_impl_turn a) k ts m

  here : sees (at_word w_default) m ≡ true
  here = and_left (sees (at_word w_default) m) _ at_default

  pub default_refused : parse_form (optional_item_word w_default) m ≡ None → default_run ≡ None
  default_refused e = go (take_token (word w_default) m) refl (sym (ap (λ b. branch b (take_token (word w_default) m) (Some (Nothing, m))) here) ∙ e)
    where
      go : (o : Out) → take_token (word w_default) m ≡ o → wrap Left o ≡ None → run_plan (default_impl_turn a) k ts m ≡ None
      go None q i = ap (follow (λ d r. follow (λ c q. follow (λ u n. run_plan (impl_plan a (Left d) c u) k ts n) (parse_form (optional_item_word w_unsafe) q)) (parse_form (optional_item_word w_const) r))) q
      go (Some p) q i = absurd (cc i)

  module _ (d : Syntax) (r : Stream) (read : parse_form (optional_item_word w_default) m ≡ Some (d, r)) where
    abbrev consts : Syntax → Out → Out
    consts d o = follow (λ c q. follow (λ u n. run_plan (impl_plan a d c u) k ts n) (parse_form (optional_item_word w_unsafe) q)) o

    after_default : default_run ≡ consts d (parse_form (optional_item_word w_const) r)
    after_default =
        let (x, q, e) = word_known w_default m d r here read in
        ap (follow (λ d r. consts (Left d) (parse_form (optional_item_word w_const) r))) e ∙ ap (λ z. consts z (parse_form (optional_item_word w_const) r)) (sym q)

    pub const_refused : parse_form (optional_item_word w_const) r ≡ None → default_run ≡ None
    const_refused e = after_default ∙ ap (consts d) e

    module _ (c : Syntax) (q : Stream) (const_read : parse_form (optional_item_word w_const) r ≡ Some (c, q)) where
      abbrev unsafes : Out → Out
      unsafes o = follow (λ u n. run_plan (impl_plan a d c u) k ts n) o

      pub unsafe_refused : parse_form (optional_item_word w_unsafe) q ≡ None → default_run ≡ None
      unsafe_refused e = after_default ∙ ap (consts d) const_read ∙ ap unsafes e

      module _ (u : Syntax) (n : Stream) (unsafe_read : parse_form (optional_item_word w_unsafe) q ≡ Some (u, n)) where
        after_unsafe : default_run ≡ run_plan (impl_plan a d c u) k ts n
        after_unsafe = after_default ∙ ap (consts d) const_read ∙ ap unsafes unsafe_read

        pub impl_refused : take_token (word w_impl) n ≡ None → default_run ≡ None
        impl_refused e = after_unsafe ∙ word_refused k ts a d c u n e

        pub default_follows : {X E : Type 0} (refusal : E → Type 0) (view : X → Syntax) (x : Result (Option X) E) (new : Stream) (w : Syntax) (z : Stream) → take_token (word w_impl) n ≡ Some (w, z) →
            Follows refusal view k ts (run_plan (impl_generics a d c u w) k ts z) x new → Follows refusal view k ts default_run x new
        default_follows refusal view x new w z e f = subst (λ (o : Out). Follows refusal view k ts o x new) (sym after_unsafe) (word_follows k ts a d c u n refusal view x new w z e f)

-- GENERICS, or none

module _ (k : Rule) (ts : Stream) (a d c u w : Syntax) (m : Stream) where
  abbrev listed : Out
  listed = run_plan (impl_generics a d c u w) k ts m

  abbrev by_list : Out → Out
  by_list o = follow (λ g r. run_plan (impl_types a d c u w g) k ts r) o

  list_goes : listed ≡ by_list (parse_form impl_generics_form m)
  unfolding impl_generics
  list_goes = go (sees at_generics m) refl
    where
      read : (o : Out) → follow (λ g r. run_plan (impl_types a d c u w (Left g)) k ts r) o ≡ by_list (wrap Left o)
      read None = refl
      read (Some p) = refl

      go : (b : Bool) → sees at_generics m ≡ b → run_plan (impl_generics a d c u w) k ts m ≡ by_list (branch (sees at_generics m) (parse_form kept_generics m) (Some (Nothing, m)))
      go true h = happened k ts (went true ∷ []) (impl_generics a d c u w) m (h, tt) ∙ read (parse_form kept_generics m) ∙ sym (ap (λ b. by_list (branch b (parse_form kept_generics m) (Some (Nothing, m)))) h)
      go false h = happened k ts (went false ∷ []) (impl_generics a d c u w) m (h, tt) ∙ sym (ap (λ b. by_list (branch b (parse_form kept_generics m) (Some (Nothing, m)))) h)

  pub list_refused : parse_form impl_generics_form m ≡ None → listed ≡ None
  list_refused e = list_goes ∙ ap by_list e

  module _ (g : Syntax) (r : Stream) (list : parse_form impl_generics_form m ≡ Some (g, r)) where
    past_list : listed ≡ run_plan (impl_types a d c u w g) k ts r
    past_list = list_goes ∙ ap by_list list

    pub types_refused : run_plan (impl_types a d c u w g) k ts r ≡ None → listed ≡ None
    types_refused e = past_list ∙ e

    pub types_read : (s : Syntax) (q : Stream) → run_plan (impl_types a d c u w g) k ts r ≡ Some (s, q) → listed ≡ Some (s, q)
    types_read s q e = past_list ∙ e

    pub types_kept : OnlyKept k ts (run_plan (impl_types a d c u w g) k ts r) → OnlyKept k ts listed
    types_kept h = subst (OnlyKept k ts) (sym past_list) h

-- THE FIRST TYPES

-- the tokens after a `!` that was read
past_bang : (m : Stream) (p : Syntax × Stream) → take_mark exclamation m ≡ Some p → past m ≡ p.1
unfolding take_mark
past_bang end p e = absurd (cc e)
past_bang (leaf x sp m) p e = absurd (cc e)
past_bang (group d o c i m) p e = absurd (cc e)
past_bang (punct n j sp m) p e = go (nat_eq n 33) refl e
  where
    following : (j : Bool) → past (punct 33 j sp m) ≡ m
    following true = refl
    following false = refl

    go : (b : Bool) → nat_eq n 33 ≡ b → marked_as (only b (Some ((n, sp) ∷ [], m))) ≡ Some p → past (punct n j sp m) ≡ p.1
    go false h i = absurd (cc i)
    go true h i =
        let q : ◌≡◌ {A = TreeAndRest} (Mark ((n, sp) ∷ []), m) p = cc i in
        ap (λ (z : ℕ). past (punct z j sp m)) (eqb-true n 33 h) ∙ following j ∙ ap (λ (y : TreeAndRest). y.1) q

-- no end of an impl begins with `for`
no_body : (q : Stream) → sees at_for q ≡ true → parse_rule impl_body q ≡ None
no_body q h =
    impl_body_is q
    ∙ ap (λ o. wrap Node (and_then o (parse_form (inside Brace (rule inner_attributes & rule impl_items))))) (no_clause_read q (seen_apart at_for at_where q refl h))
    ∙ ap (λ o. wrap Node (wrap (Both no_clause) (within Brace o (parse_form (rule inner_attributes & rule impl_items))))) (go (take_group Brace q) (sym (sees_group Brace q) ∙ seen_apart at_for at_brace q refl h))
  where
    go : (o : Option Opened) → taken o ≡ false → o ≡ None
    go None e = refl
    go (Some x) e = absurd (true≢false e)

module _ (k : Rule) (ts : Stream) (a d c u w g : Syntax) (m : Stream) where
  abbrev first : Out
  first = run_plan (impl_types a d c u w g) k ts m

  abbrev an_impl : Syntax → Syntax
  an_impl s = Node (Case impl_definition (Both a (Node (Both d (Both c (Both u (Both w (Impl g s))))))))

  pub odd_kept : odd_negative m ≡ true → OnlyKept k ts first
  unfolding impl_types
  odd_kept h = go (take_mark exclamation m) refl
    where
      bang : sees at_exclamation m ≡ true
      bang = and_left (sees at_exclamation m) _ h

      others : and (no (sees at_brace (past m))) (no (sees at_module_path (past m))) ≡ true
      others = and_right (sees at_exclamation m) _ h

      go : (o : Out) → take_mark exclamation m ≡ o → OnlyKept k ts (run_plan (impl_types a d c u w g) k ts m)
      go None e = subst (OnlyKept k ts) (sym (happened k ts (went true ∷ []) (impl_types a d c u w g) m (bang, tt) ∙ refused_there k ts (left_over (went true ∷ []) (impl_types a d c u w g)) m e)) tt
      go (Some p) e =
          let s = sym (past_bang m p e) in
          is_kept k ts (went true ∷ took p.0 p.1 ∷ went false ∷ went false ∷ marked ∷ []) (impl_types a d c u w g) m
          (bang, (e, (ap (sees at_brace) s ∙ no_true (sees at_brace (past m)) (and_left (no (sees at_brace (past m))) _ others), (ap (sees at_module_path) s ∙ no_true (sees at_module_path (past m)) (and_right (no (sees at_brace (past m))) _ others), tt)))) (λ t. λ f. λ b. refl)

  abbrev whole : Out
  whole = wrap an_impl (types_then (parse_rule impl_body) m)

  -- `!` FIRST
  abbrev negative : Syntax → Stream → Bool → Bool → Out
  negative x r b c =
      by_test b (follow (λ y z. Some (an_impl (Left (Both x (Left y))), z)) (parse_rule impl_body r))
      (by_test c (run_plan (reads_row (rule type_path) (rule for_self_type ∷ rule impl_body ∷ []) (λ s. ends (an_impl (Left (Both x (Right s)))))) k ts r)
      (follow (λ t n. follow (λ f z. follow (λ y q. Some (kept_as k ts q, q)) (parse_rule impl_body z)) (parse_rule for_self_type n)) (parse_rule type r)))

  abbrev after_bang : Out → Out
  after_bang o = follow (λ x r. negative x r (sees at_brace r) (sees at_module_path r)) o

  abbrev bang_form : Grammar
  bang_form = when at_brace then rule impl_body else rule type_path & rule for_self_type & rule impl_body

  bang_goes : odd_negative m ≡ false → sees at_exclamation m ≡ true → first ≡ whole
  unfolding impl_types
  bang_goes even h =
      happened k ts (went true ∷ []) (impl_types a d c u w g) m (h, tt)
      ∙ go (take_mark exclamation m) refl
      ∙ sym (ap (wrap an_impl) (at_bang_first m h (parse_rule impl_body)))
    where
      not_odd : and (no (sees at_brace (past m))) (no (sees at_module_path (past m))) ≡ false
      not_odd = sym (ap (λ b. and b (and (no (sees at_brace (past m))) (no (sees at_module_path (past m))))) h) ∙ even

      never : (x : Syntax) (o : Out) → follow (λ y z. Some (an_impl (Left (Both x (Left y))), z)) o ≡ wrap an_impl (wrap Left (wrap (Both x) (wrap Left o)))
      never x None = refl
      never x (Some p) = refl

      trait_after : (x : Syntax) (o : Out) → follow (λ s z. Some (an_impl (Left (Both x (Right s))), z)) o ≡ wrap an_impl (wrap Left (wrap (Both x) (wrap Right o)))
      trait_after x None = refl
      trait_after x (Some p) = refl

      by_brace : (x : Syntax) (r : Stream) (b c : Bool) → sees at_brace r ≡ b → and (no b) (no c) ≡ false → negative x r b c ≡ wrap an_impl (wrap Left (wrap (Both x) (branch b (parse_rule impl_body r) (parse_form (rule type_path & rule for_self_type & rule impl_body) r))))
      by_brace x r true c e i = never x (parse_rule impl_body r)
      by_brace x r false true e i =
          row_is k ts (rule type_path) (rule for_self_type ∷ rule impl_body ∷ []) (λ s. ends (an_impl (Left (Both x (Right s))))) r
          ∙ trait_after x (parse_form (rule type_path & rule for_self_type & rule impl_body) r)
      by_brace x r false false e i = absurd (true≢false i)

      go : (o : Out) → take_mark exclamation m ≡ o → after_bang o ≡ wrap an_impl (wrap Left (and_then o (parse_form bang_form)))
      go None e = refl
      go (Some p) e =
          by_brace p.0 p.1 (sees at_brace p.1) (sees at_module_path p.1) refl
          (ap₂ (λ b c. and (no b) (no c)) (ap (sees at_brace) (sym (past_bang m p e))) (ap (sees at_module_path) (sym (past_bang m p e))) ∙ not_odd)

  -- A PATH FIRST
  path_goes : sees at_exclamation m ≡ false → sees at_module_path m ≡ true → first ≡ whole
  unfolding impl_types
  path_goes h i =
      happened k ts (went false ∷ went true ∷ []) (impl_types a d c u w g) m (h, (i, tt))
      ∙ row_is k ts (rule type_path) ((when at_for then rule for_self_type else empty) ∷ rule impl_body ∷ []) (λ s. ends (an_impl (Right (Left s)))) m
      ∙ plain_path (parse_form (rule type_path & (when at_for then rule for_self_type else empty) & rule impl_body) m)
      ∙ sym (ap (wrap an_impl) (at_path_first m h i (parse_rule impl_body)))
    where
      plain_path : (o : Out) → follow (λ s z. Some (an_impl (Right (Left s)), z)) o ≡ wrap an_impl (wrap Right (wrap Left o))
      plain_path None = refl
      plain_path (Some p) = refl

  -- ANOTHER TYPE FIRST
  module _ (no_bang : sees at_exclamation m ≡ false) (no_path : sees at_module_path m ≡ false) where
    abbrev typed : Syntax → Stream → Bool → Out
    typed t r b = by_test b (run_plan kept_impl k ts r) (follow (λ y z. Some (an_impl (Right (Right (Both t y))), z)) (parse_rule impl_body r))

    type_goes : first ≡ follow (λ t r. typed t r (sees at_for r)) (parse_rule type m)
    unfolding impl_types
    type_goes = happened k ts (went false ∷ went false ∷ []) (impl_types a d c u w g) m (no_bang, (no_path, tt))

    whole_goes : whole ≡ wrap an_impl (wrap Right (wrap Right (and_then (parse_rule type m) (parse_rule impl_body))))
    whole_goes = ap (wrap an_impl) (at_type_first m no_bang no_path (parse_rule impl_body))

  -- what is read where these types were read as a part before others
  module _ (even : odd_negative m ≡ false) where
    pub first_refused : ((f : Stream → Out) → types_then f m ≡ None) → first ≡ None
    first_refused types = go (sees at_exclamation m) refl (sees at_module_path m) refl
      where
        go : (b : Bool) → sees at_exclamation m ≡ b → (e : Bool) → sees at_module_path m ≡ e → run_plan (impl_types a d c u w g) k ts m ≡ None
        go true h e i = bang_goes even h ∙ ap (wrap an_impl) (types (parse_rule impl_body))
        go false h true i = path_goes h i ∙ ap (wrap an_impl) (types (parse_rule impl_body))
        go false h false i = type_goes h i ∙ ap (follow (λ t r. typed h i t r (sees at_for r))) (none (parse_rule type m) (sym (at_type_first m h i (λ n. Some (Nothing, n))) ∙ types (λ n. Some (Nothing, n))))
          where
            none : (o : Out) → wrap Right (wrap Right (and_then o (λ n. Some (Nothing, n)))) ≡ None → o ≡ None
            none None j = refl
            none (Some p) j = absurd (cc j)

    module _ (v : Syntax → Syntax) (q : Stream) (types : (f : Stream → Out) → types_then f m ≡ wrap v (f q)) where
      -- a type was read up to here
      up_to : (t : Syntax) (r : Stream) → sees at_exclamation m ≡ false → sees at_module_path m ≡ false → parse_rule type m ≡ Some (t, r) → r ≡ q
      up_to t r h i e =
          let z : ◌≡◌ {A = Out} (Some (Right (Right (Both t Nothing)), r)) (Some (v Nothing, q)) = sym (at_type_first m h i (λ n. Some (Nothing, n)) ∙ ap (λ o. wrap Right (wrap Right (and_then o (λ n. Some (Nothing, n))))) e) ∙ types (λ n. Some (Nothing, n)) in
          let y : ◌≡◌ {A = TreeAndRest} (Right (Right (Both t Nothing)), r) (v Nothing, q) = cc z in
          ap (λ (x : TreeAndRest). x.1) y

      first_goes : sees at_for q ≡ false → first ≡ wrap an_impl (wrap v (parse_rule impl_body q))
      first_goes n = go (sees at_exclamation m) refl (sees at_module_path m) refl ∙ ap (wrap an_impl) (types (parse_rule impl_body))
        where
          go : (b : Bool) → sees at_exclamation m ≡ b → (e : Bool) → sees at_module_path m ≡ e → run_plan (impl_types a d c u w g) k ts m ≡ whole
          go true h e i = bang_goes even h
          go false h true i = path_goes h i
          go false h false i = type_goes h i ∙ by_type (parse_rule type m) refl ∙ sym (whole_goes h i)
            where
              last : (t : Syntax) (o : Out) → follow (λ y z. Some (an_impl (Right (Right (Both t y))), z)) o ≡ wrap an_impl (wrap Right (wrap Right (wrap (Both t) o)))
              last t None = refl
              last t (Some p) = refl

              by_type : (o : Out) → parse_rule type m ≡ o → follow (λ t r. typed h i t r (sees at_for r)) o ≡ wrap an_impl (wrap Right (wrap Right (and_then o (parse_rule impl_body))))
              by_type None e = refl
              by_type (Some p) e = ap (typed h i p.0 p.1) (ap (sees at_for) (up_to p.0 p.1 h i e) ∙ n) ∙ last p.0 (parse_rule impl_body p.1)

      pub for_kept : sees at_for q ≡ true → OnlyKept k ts first
      unfolding kept_impl
      for_kept n = go (sees at_exclamation m) refl (sees at_module_path m) refl
        where
          nothing : run_plan (impl_types a d c u w g) k ts m ≡ whole → OnlyKept k ts (run_plan (impl_types a d c u w g) k ts m)
          nothing e = subst (OnlyKept k ts) (sym (e ∙ ap (wrap an_impl) (types (parse_rule impl_body)) ∙ ap (λ o. wrap an_impl (wrap v o)) (no_body q n))) tt

          go : (b : Bool) → sees at_exclamation m ≡ b → (e : Bool) → sees at_module_path m ≡ e → OnlyKept k ts (run_plan (impl_types a d c u w g) k ts m)
          go true h e i = nothing (bang_goes even h)
          go false h true i = nothing (path_goes h i)
          go false h false i = subst (OnlyKept k ts) (sym (type_goes h i)) (by_type (parse_rule type m) refl)
            where
              by_type : (o : Out) → parse_rule type m ≡ o → OnlyKept k ts (follow (λ t r. typed h i t r (sees at_for r)) o)
              by_type None e = tt
              by_type (Some p) e = subst (OnlyKept k ts) (sym (ap (typed h i p.0 p.1) (ap (sees at_for) (up_to p.0 p.1 h i e) ∙ n))) (is_kept k ts (marked ∷ []) kept_impl p.1 tt (λ f. λ b. refl))

      abbrev ended : Out
      ended = wrap (λ s. Both a (Node (Both d (Both c (Both u (Both w (Impl g (v s)))))))) (parse_rule impl_body q)

      at_last : (o : Out) → wrap an_impl (wrap v o) ≡ wrap (λ t. Node (Case impl_definition t)) (wrap (λ s. Both a (Node (Both d (Both c (Both u (Both w (Impl g (v s)))))))) o)
      at_last None = refl
      at_last (Some p) = refl

      pub impl_read : sees at_for q ≡ false → (t : Syntax) (r : Stream) → ended ≡ Some (t, r) → first ≡ Some (Node (Case impl_definition t), r)
      impl_read n t r e = first_goes n ∙ at_last (parse_rule impl_body q) ∙ ap (wrap (λ t. Node (Case impl_definition t))) e

      pub end_refused : sees at_for q ≡ false → ended ≡ None → first ≡ None
      end_refused n e = first_goes n ∙ at_last (parse_rule impl_body q) ∙ ap (wrap (λ t. Node (Case impl_definition t))) e

-- `impl` ALONE, or after a visibility

module _ (k : Rule) (ts : Stream) (p : Place) (a : Syntax) (m : Stream) where
  pub visible_kept : no_visibility p ≡ false → OnlyKept k ts (run_plan (bare_impl_plan p a) k ts m)
  unfolding bare_impl_plan restricted_end
  visible_kept h = go p h
    where
      go : (z : Place) → no_visibility z ≡ false → OnlyKept k ts (run_plan (bare_impl_plan z a) k ts m)
      go public i = is_kept k ts (marked ∷ []) (bare_impl_plan public a) m tt (λ w. (λ r. λ c. λ t. refl, (λ t. λ c. λ x. refl, tt)))
      go unwritten i = is_kept k ts (marked ∷ []) (bare_impl_plan unwritten a) m tt (λ w. (λ r. λ c. λ t. refl, (λ t. λ c. λ x. refl, tt)))
      go plain i = absurd (true≢false i)

  module _ (is_plain : no_visibility p ≡ true) where
    abbrev bare : Place → Out
    bare z = run_plan (bare_impl_plan z a) k ts m

    pub bare_refused : take_token (word w_impl) m ≡ None → bare p ≡ None
    unfolding bare_impl_plan
    bare_refused e = ap bare (plain_is p is_plain) ∙ refused_there k ts (bare_impl_plan plain a) m e

    module _ (w : Syntax) (r : Stream) (word_read : take_token (word w_impl) m ≡ Some (w, r)) where
      pub restriction_kept : sees at_in_restriction r ≡ true → OnlyKept k ts (bare p)
      unfolding bare_impl_plan restricted_end
      restriction_kept h = subst (OnlyKept k ts) (sym (ap bare (plain_is p is_plain))) (is_kept k ts (took w r ∷ went true ∷ marked ∷ []) (bare_impl_plan plain a) m (word_read, (h, tt)) (λ x. λ c. λ t. refl))

      module _ (no_restriction : sees at_in_restriction r ≡ false) {X E : Type 0} (refusal : E → Type 0) (view : X → Syntax) (y : Result (Option X) E) (new : Stream) where
        abbrev Goes : Out → Type 0
        Goes o = Follows refusal view k ts o y new

        pub lone_follows : sees at_lone_word r ≡ true → Follows refusal view k ts (run_plan (lone_word_turn a (Right Nothing) (Right Nothing) (Right Nothing) w) k ts r) y new → Follows refusal view k ts (bare p) y new
        unfolding bare_impl_plan
        lone_follows h = subst Goes (sym (ap bare (plain_is p is_plain) ∙ happened k ts (took w r ∷ went false ∷ went true ∷ []) (bare_impl_plan plain a) m (word_read, (no_restriction, (h, tt)))))

        pub generics_follow : sees at_lone_word r ≡ false → Follows refusal view k ts (run_plan (impl_generics a (Right Nothing) (Right Nothing) (Right Nothing) w) k ts r) y new → Follows refusal view k ts (bare p) y new
        unfolding bare_impl_plan
        generics_follow h = subst Goes (sym (ap bare (plain_is p is_plain) ∙ happened k ts (took w r ∷ went false ∷ went false ∷ []) (bare_impl_plan plain a) m (word_read, (no_restriction, (h, tt)))))

-- PARENTHESES that hold one word, after `impl`

module _ (k : Rule) (ts : Stream) (a d c u w : Syntax) (m : Stream) where
  abbrev lone : Out
  lone = run_plan (lone_word_turn a d c u w) k ts m

  pub lone_refused : parse_rule type m ≡ None → lone ≡ None
  lone_refused e = refused_there k ts (lone_word_turn a d c u w) m e

  module _ (t : Syntax) (q : Stream) (type_read : parse_rule type m ≡ Some (t, q)) where
    pub lone_for_kept : sees at_for q ≡ true → OnlyKept k ts lone
    unfolding kept_impl
    lone_for_kept h = is_kept k ts (took t q ∷ went true ∷ marked ∷ []) (lone_word_turn a d c u w) m (type_read, (h, tt)) (λ f. λ b. refl)

    module _ (no_for : sees at_for q ≡ false) where
      pub lone_restriction_kept : sees (at_where or_else at_brace) q ≡ false → OnlyKept k ts lone
      unfolding restricted_end
      lone_restriction_kept h = is_kept k ts (took t q ∷ went false ∷ went false ∷ marked ∷ []) (lone_word_turn a d c u w) m (type_read, (no_for, (h, tt))) (λ x. λ y. refl)

      module _ (at_lone : sees at_lone_word m ≡ true) (at_end : sees (at_where or_else at_brace) q ≡ true) where
        parens : sees at_paren m ≡ true
        parens = and_left (sees at_paren m) _ (sym (sees_and at_paren (ahead Lone_word) m) ∙ at_lone)

        as_read : (s : Syntax) → Right (Right (Both t s)) ≡ inherent t s
        as_read s =
            sym (other_type m t q (seen_apart at_paren at_exclamation m refl parens) (seen_apart at_paren at_module_path m refl parens) type_read s
            ∙ ap (λ (z : Syntax). Right (Right (Both z s))) (left_as_read (rule type) m q t refl type_read))

        abbrev of_lone : Syntax → Syntax
        of_lone s = Both a (Node (Both d (Both c (Both u (Both w (Impl (Right Nothing) s))))))

        abbrev lone_out : Out
        lone_out = wrap (λ s. of_lone (inherent t s)) (parse_rule impl_body q)

        lone_goes : lone ≡ wrap (λ y. Node (Case impl_definition y)) lone_out
        lone_goes = happened k ts (took t q ∷ went false ∷ went true ∷ []) (lone_word_turn a d c u w) m (type_read, (no_for, (at_end, tt))) ∙ go (parse_rule impl_body q)
          where
            go : (o : Out) → follow (λ b r. Some (Node (Case impl_definition (of_lone (Right (Right (Both t b))))), r)) o ≡ wrap (λ y. Node (Case impl_definition y)) (wrap (λ s. of_lone (inherent t s)) o)
            go None = refl
            go (Some p) = ap (λ (z : Syntax). Some (Node (Case impl_definition (of_lone z)), p.1)) (as_read p.0)

        pub lone_read : (y : Syntax) (r : Stream) → lone_out ≡ Some (y, r) → lone ≡ Some (Node (Case impl_definition y), r)
        lone_read y r e = lone_goes ∙ ap (wrap (λ y. Node (Case impl_definition y))) e

        pub lone_end_refused : lone_out ≡ None → lone ≡ None
        lone_end_refused e = lone_goes ∙ ap (wrap (λ y. Node (Case impl_definition y))) e
