-- Items that begin with `extern` or `unsafe`, by their plan.
use Rattle.std.proofs.Common.{◌≡◌, Bool, true, false, List, [], ◌∷◌, Some, None, refl, sym, ap, ap₂, subst, ◌∙◌, true≢false}
use Rattle.std.specs.Prelude.{Option, Result}
use Rattle.syn_grammar.specs.Words.{Text, semicolon, w_as, w_auto, w_async, w_const, w_crate, w_extern, w_impl, w_mod, w_self, w_trait, w_try, w_unsafe}
use Rattle.syn_grammar.specs.Tokens.{Brace, Str, Stream, and, at_literal, at_word, or, ◌or_else◌}
use Rattle.syn_grammar.specs.Rules.{Rule, abi, extern_crate, foreign_items, foreign_module, foreign_module_rest, inner_attributes, items, module_item, signature, signature_rest, unsafe_only}
use Rattle.syn_grammar.specs.Grammar.{Grammar, Syntax, Nothing, Both, Left, Right, Node, Case, ◌&◌, empty, inside, literal_of, name_or, rule, unshown, when◌then◌else◌, word}
use Rattle.syn_grammar.specs.Forms.{plainly, punctuation}
use Rattle.syn_grammar.specs.Table.{at_brace, at_extern, at_semicolon, item_word, name_or_underscore, optional_item_word}
use Rattle.syn_grammar.specs.Take.{Out, sees, take_token}
use Rattle.syn_grammar.specs.Values.{untag}
use Rattle.syn_grammar.specs.Run.{and_then, branch, parse_form, parse_rule, wrap}
use Rattle.syn_grammar.specs.Plan.{Plan, ends, reads, by_test, follow, run_plan}
use Rattle.syn_grammar.specs.ItemPlan.{Place, public, unwritten, plain, absent, extern_crate_plan, extern_plan, function_end, impl_plan, module_plan, signature_end, trait_plan, unsafe_plan}
use Rattle.syn_grammar.proofs.Looks.{sees_or}
use Rattle.syn_grammar.proofs.PlanSteps.{Event, happened, left_over, seen_apart, went}
use Rattle.syn_grammar.proofs.Takes.{TreeAndRest}
use Rattle.syn_parse.specs.Peeks.{past}
use Rattle.syn_item.specs.ItemTurns.{extern_turn, module_or_function_turn, no_visibility, unsafe_turn}
use Rattle.syn_item.specs.Planned.{Follows}
use Rattle.syn_item.proofs.ItemKinds.{module_goes}
use Rattle.syn_item.proofs.MemberFunctions.{past_word}
use Rattle.syn_item.proofs.PlanRows.{row_is}

-- a word that is next, as it is read where it may be absent
abbrev pub ReadWord : Text → Syntax → Stream → Stream → Type 0
ReadWord w u m r = (x : Syntax) × (u ≡ Left x) × (take_token (word w) m ≡ Some (x, r))

pub word_known : (w : Text) (m : Stream) (u : Syntax) (r : Stream) → sees (at_word w) m ≡ true → parse_form (optional_item_word w) m ≡ Some (u, r) → ReadWord w u m r
word_known w m u r h e = go (take_token (word w) m) refl (sym (ap (λ b. branch b (take_token (word w) m) (Some (Nothing, m))) h) ∙ e)
  where
    go : (o : Out) → take_token (word w) m ≡ o → wrap Left o ≡ Some (u, r) → ReadWord w u m r
    go None q i = absurd (cc i)
    go (Some p) q i =
        let j : ◌≡◌ {A = TreeAndRest} (Left p.0, p.1) (u, r) = cc i in
        (p.0, sym (ap (λ (y : TreeAndRest). y.0) j), q ∙ ap (λ (z : Stream). Some (p.0, z)) (ap (λ (y : TreeAndRest). y.1) j))

-- EXTERN CRATES

module _ (k : Rule) (ts : Stream) (p : Place) (a v : Syntax) (m : Stream) where
  abbrev extern_run : Out
  extern_run = run_plan (extern_turn p a v) k ts m

  abbrev rename_form : Grammar
  rename_form = when at_word w_as then plainly (word w_as) & name_or_underscore else empty

  abbrev crate_end : Grammar
  crate_end = plainly (word w_crate) & plainly (name_or (w_self ∷ [])) & rename_form & punctuation semicolon

  abbrev of_crate : Out → Out
  of_crate o = wrap (λ t. Node (Case extern_crate t)) (wrap (λ s. Both a (Node (Both v s))) o)

  crates : (e : Syntax) (o : Out) → follow (λ s r. Some (Node (Case extern_crate (Both a (Node (Both v (Both e s))))), r)) o ≡ of_crate (wrap (Both e) o)
  crates e None = refl
  crates e (Some q) = refl

  crate_plan_goes : (e : Syntax) (r : Stream) → run_plan (extern_crate_plan a v e) k ts r ≡ of_crate (wrap (Both e) (parse_form crate_end r))
  unfolding extern_crate_plan
  crate_plan_goes e r =
      row_is k ts (plainly (word w_crate)) (plainly (name_or (w_self ∷ [])) ∷ rename_form ∷ punctuation semicolon ∷ []) (λ s. ends (Node (Case extern_crate (Both a (Node (Both v (Both e s))))))) r
      ∙ crates e (parse_form crate_end r)

  abbrev after_extern : Syntax → Stream → Bool → Out
  after_extern e r b = by_test b (run_plan (extern_crate_plan a v e) k ts r) (run_plan (extern_plan p a v absent (Node absent) e) k ts r)

  crate_goes : sees (at_word w_crate) (past m) ≡ true → extern_run ≡ of_crate (parse_form (plainly (word w_extern) & crate_end) m)
  crate_goes h = go (take_token (word w_extern) m) refl
    where
      go : (o : Out) → take_token (word w_extern) m ≡ o → follow (λ e r. after_extern e r (sees (at_word w_crate) r)) o ≡ of_crate (and_then o (parse_form crate_end))
      go None e = refl
      go (Some q) e = ap (after_extern q.0 q.1) (ap (sees (at_word w_crate)) (sym (past_word w_extern m q e)) ∙ h) ∙ crate_plan_goes q.0 q.1

  pub crate_read : sees (at_word w_crate) (past m) ≡ true → (t : Syntax) (r : Stream) → wrap (λ s. Both a (Node (Both v s))) (parse_form (plainly (word w_extern) & crate_end) m) ≡ Some (t, r) → extern_run ≡ Some (Node (Case extern_crate t), r)
  crate_read h t r e = crate_goes h ∙ ap (wrap (λ t. Node (Case extern_crate t))) e

  pub crate_refused : sees (at_word w_crate) (past m) ≡ true → wrap (λ s. Both a (Node (Both v s))) (parse_form (plainly (word w_extern) & crate_end) m) ≡ None → extern_run ≡ None
  crate_refused h e = crate_goes h ∙ ap (wrap (λ t. Node (Case extern_crate t))) e

  no_crate_goes : sees at_extern m ≡ true → sees (at_word w_crate) (past m) ≡ false → extern_run ≡ run_plan (module_or_function_turn p a v) k ts m
  no_crate_goes x h = go (take_token (word w_extern) m) refl ∙ sym (happened k ts (went true ∷ []) (module_or_function_turn p a v) m (x, tt))
    where
      go : (o : Out) → take_token (word w_extern) m ≡ o → follow (λ e r. after_extern e r (sees (at_word w_crate) r)) o ≡ follow (λ e r. run_plan (extern_plan p a v absent (Node absent) e) k ts r) o
      go None e = refl
      go (Some q) e = ap (after_extern q.0 q.1) (ap (sees (at_word w_crate)) (sym (past_word w_extern m q e)) ∙ h)

  pub no_crate_follows : {X E : Type 0} (refusal : E → Type 0) (view : X → Syntax) (x : Result (Option X) E) (new : Stream) → sees at_extern m ≡ true → sees (at_word w_crate) (past m) ≡ false →
      Follows refusal view k ts (run_plan (module_or_function_turn p a v) k ts m) x new → Follows refusal view k ts extern_run x new
  no_crate_follows refusal view x new e h f = subst (λ (o : Out). Follows refusal view k ts o x new) (sym (no_crate_goes e h)) f

-- AFTER `unsafe`

module _ (k : Rule) (ts : Stream) (p : Place) (a v : Syntax) (m : Stream) (at_unsafe : sees (at_word w_unsafe) m ≡ true) where
  abbrev unsafe_run : Out
  unsafe_run = run_plan (unsafe_turn p a v) k ts m

  -- whether a module, or a trait, is next
  abbrev kinds : Syntax → Stream → Bool → Bool → Out
  kinds u r b c = by_test b (run_plan (module_plan a v (Left u)) k ts r) (by_test c (run_plan (trait_plan a v absent (Left u)) k ts r) (run_plan (unsafe_plan p a v u) k ts r))

  abbrev trait_next : Stream → Bool
  trait_next r = sees (at_word w_trait or_else at_word w_auto) r

  kinds_at : (u x : Syntax) (r : Stream) → u ≡ Left x → take_token (word w_unsafe) m ≡ Some (x, r) → (b c : Bool) → sees (at_word w_mod) (past m) ≡ b → trait_next (past m) ≡ c → unsafe_run ≡ kinds x r b c
  kinds_at u x r q e b c h i =
      ap (follow (λ u r. kinds u r (sees (at_word w_mod) r) (trait_next r))) e
      ∙ ap₂ (kinds x r) (ap (sees (at_word w_mod)) (sym (past_word w_unsafe m (x, r) e)) ∙ h) (ap trait_next (sym (past_word w_unsafe m (x, r) e)) ∙ i)

  module _ (u : Syntax) (r : Stream) (read : parse_form (optional_item_word w_unsafe) m ≡ Some (u, r)) where
    reported : ReadWord w_unsafe u m r
    reported = word_known w_unsafe m u r at_unsafe read

    abbrev module_out : Out
    module_out =
        wrap (λ s. Both a (Node (Both v (Both u s))))
        (parse_form (plainly (word w_mod) & plainly (name_or (w_try ∷ [])) & (when at_semicolon then punctuation semicolon else unshown & inside Brace (rule inner_attributes & rule items))) r)

    mod_goes : sees (at_word w_mod) (past m) ≡ true → unsafe_run ≡ wrap (λ t. Node (Case module_item t)) module_out
    mod_goes h =
        let (x, q, e) = reported in
        kinds_at u x r q e true (trait_next (past m)) h refl ∙ ap (λ z. run_plan (module_plan a v z) k ts r) (sym q) ∙ module_goes k ts a v r u

    pub mod_read : sees (at_word w_mod) (past m) ≡ true → (t : Syntax) (n : Stream) → module_out ≡ Some (t, n) → unsafe_run ≡ Some (Node (Case module_item t), n)
    mod_read h t n e = mod_goes h ∙ ap (wrap (λ t. Node (Case module_item t))) e

    pub mod_refused : sees (at_word w_mod) (past m) ≡ true → module_out ≡ None → unsafe_run ≡ None
    mod_refused h e = mod_goes h ∙ ap (wrap (λ t. Node (Case module_item t))) e

    module _ (no_mod : sees (at_word w_mod) (past m) ≡ false) {X E : Type 0} (refusal : E → Type 0) (view : X → Syntax) (y : Result (Option X) E) (new : Stream) where
      abbrev Goes : Out → Type 0
      Goes o = Follows refusal view k ts o y new

      pub trait_follows : or (sees (at_word w_trait) (past m)) (sees (at_word w_auto) (past m)) ≡ true → Follows refusal view k ts (run_plan (trait_plan a v (Right Nothing) u) k ts r) y new → Follows refusal view k ts unsafe_run y new
      trait_follows h f =
          let (x, q, e) = reported in
          subst Goes (ap (λ z. run_plan (trait_plan a v (Right Nothing) z) k ts r) q ∙ sym (kinds_at u x r q e false true no_mod (sees_or (at_word w_trait) (at_word w_auto) (past m) ∙ h))) f

      pub impl_follows : or (sees (at_word w_trait) (past m)) (sees (at_word w_auto) (past m)) ≡ false → and (no_visibility p) (sees (at_word w_impl) (past m)) ≡ true →
          Follows refusal view k ts (run_plan (impl_plan a (Right Nothing) (Right Nothing) u) k ts r) y new → Follows refusal view k ts unsafe_run y new
      unfolding unsafe_plan
      impl_follows h i f =
          let (x, q, e) = reported in
          subst Goes
          (ap (λ z. run_plan (impl_plan a (Right Nothing) (Right Nothing) z) k ts r) q
          ∙ sym (kinds_at u x r q e false false no_mod (sees_or (at_word w_trait) (at_word w_auto) (past m) ∙ h) ∙ plain_goes p x (ap (λ n. and (no_visibility p) (sees (at_word w_impl) n)) (sym (past_word w_unsafe m (x, r) e)) ∙ i))) f
        where
          plain_goes : (z : Place) (x : Syntax) → and (no_visibility z) (sees (at_word w_impl) r) ≡ true → run_plan (unsafe_plan z a v x) k ts r ≡ run_plan (impl_plan a (Right Nothing) (Right Nothing) (Left x)) k ts r
          plain_goes public x j = absurd (true≢false (sym j))
          plain_goes unwritten x j = absurd (true≢false (sym j))
          plain_goes plain x j = happened k ts (went true ∷ []) (unsafe_plan plain a v x) r (j, tt)

  pub rest_follows : {X E : Type 0} (refusal : E → Type 0) (view : X → Syntax) (y : Result (Option X) E) (new : Stream) → sees (at_word w_mod) (past m) ≡ false → or (sees (at_word w_trait) (past m)) (sees (at_word w_auto) (past m)) ≡ false →
      and (no_visibility p) (sees (at_word w_impl) (past m)) ≡ false → Follows refusal view k ts (run_plan (module_or_function_turn p a v) k ts m) y new → Follows refusal view k ts unsafe_run y new
  unfolding unsafe_plan
  rest_follows refusal view y new h i j f = subst (λ (o : Out). Follows refusal view k ts o y new) (sym rest_goes) f
    where
      following : Syntax → Stream → Out
      following u r =
          by_test (sees at_extern r) (follow (λ e n. run_plan (extern_plan p a v (Left u) (Node (Left (untag u))) e) k ts n) (take_token (word w_extern) r))
          (run_plan (signature_end a v absent absent (Node (Left (untag u))) absent) k ts r)

      by_place : (z : Place) (u : Syntax) (r : Stream) → and (no_visibility z) (sees (at_word w_impl) r) ≡ false →
          run_plan (unsafe_plan z a v u) k ts r
          ≡ by_test (sees at_extern r) (follow (λ e n. run_plan (extern_plan z a v (Left u) (Node (Left (untag u))) e) k ts n) (take_token (word w_extern) r)) (run_plan (signature_end a v absent absent (Node (Left (untag u))) absent) k ts r)
      by_place public u r q = refl
      by_place unwritten u r q = refl
      by_place plain u r q = happened k ts (went false ∷ []) (unsafe_plan plain a v u) r (q, tt)

      go : (o : Out) → take_token (word w_unsafe) m ≡ o → follow (λ u r. kinds u r (sees (at_word w_mod) r) (trait_next r)) o ≡ follow following o
      go None e = refl
      go (Some q) e =
          let s = sym (past_word w_unsafe m q e) in
          ap₂ (kinds q.0 q.1) (ap (sees (at_word w_mod)) s ∙ h) (ap trait_next s ∙ sees_or (at_word w_trait) (at_word w_auto) (past m) ∙ i)
          ∙ by_place p q.0 q.1 (ap (λ n. and (no_visibility p) (sees (at_word w_impl) n)) s ∙ j)

      rest_goes : run_plan (unsafe_turn p a v) k ts m ≡ run_plan (module_or_function_turn p a v) k ts m
      rest_goes =
          go (take_token (word w_unsafe) m) refl
          ∙ sym (happened k ts (went false ∷ []) (module_or_function_turn p a v) m (seen_apart (at_word w_unsafe) at_extern m refl at_unsafe, tt))
