-- Items that begin with `const`, by their plan.
use Rattle.std.proofs.Common.{◌≡◌, Bool, true, false, [], ◌∷◌, Some, None, refl, sym, ap, ap₂, subst, ◌∙◌, true≢false}
use Rattle.std.specs.Prelude.{Option, Result}
use Rattle.syn_grammar.specs.Words.{w_async, w_auto, w_const, w_fn, w_impl, w_trait, w_unsafe}
use Rattle.syn_grammar.specs.Tokens.{Stream, Begins_item, ahead, and, at_word, no, or, ◌and_also◌, ◌or_else◌}
use Rattle.syn_grammar.specs.Rules.{Rule, abi, signature, signature_rest, unsafe_only}
use Rattle.syn_grammar.specs.Shape.{untagged}
use Rattle.syn_grammar.specs.Grammar.{Grammar, Syntax, Nothing, Both, Left, Right, Node, ◌&◌, empty, rule, when◌then◌else◌, word}
use Rattle.syn_grammar.specs.Table.{at_extern, item_word, optional_item_word}
use Rattle.syn_grammar.specs.Take.{Out, sees, take_token}
use Rattle.syn_grammar.specs.Values.{shape, untag}
use Rattle.syn_grammar.specs.Run.{and_then, branch, parse_form, parse_rule, wrap}
use Rattle.syn_grammar.specs.Plan.{Plan, reads, by_test, follow, run_plan}
use Rattle.syn_grammar.specs.ItemPlan.{Place, public, unwritten, plain, absent, abi_and_signature, following_const, const_impl_plan, const_plan, const_trait_or_alias, function_end, impl_plan, signature_end, trait_plan, visible_impl}
use Rattle.syn_grammar.specs.MemberPlans.{function_after_const}
use Rattle.syn_grammar.proofs.Each.{unsafe_only_is}
use Rattle.syn_grammar.proofs.Looks.{sees_or}
use Rattle.syn_grammar.proofs.PlanSteps.{Event, happened, left_over, marked, refused_there, seen_apart, took, went}
use Rattle.syn_grammar.proofs.Sets.{and_left, and_right}
use Rattle.syn_parse.specs.Peeks.{past}
use Rattle.syn_recognize.proofs.ItemLooks.{auto_seen}
use Rattle.syn_item.specs.ItemTurns.{const_or_kept_turn, const_turn, function_turn}
use Rattle.syn_item.specs.Planned.{Follows, OnlyKept}
use Rattle.syn_item.proofs.Followed.{is_kept}
use Rattle.syn_item.proofs.ItemWords.{ReadWord, word_known}
use Rattle.syn_item.proofs.MemberFunctions.{past_word, signature_goes}

module _ (k : Rule) (ts : Stream) (p : Place) (a v : Syntax) (m : Stream) where
  abbrev run : Out
  run = run_plan (const_turn p a v) k ts m

  -- after the word that was read
  following : (x : Syntax) (r : Stream) → take_token (word w_const) m ≡ Some (x, r) → run ≡ run_plan (following_const p a v x) k ts r
  following x r e = ap (follow (λ c n. run_plan (following_const p a v c) k ts n)) e

  module _ {X E : Type 0} (refusal : E → Type 0) (view : X → Syntax) (y : Result (Option X) E) (new : Stream) where
    abbrev Goes : Out → Type 0
    Goes o = Follows refusal view k ts o y new

    module _ (no_unsafe : sees (at_word w_unsafe) (past m) ≡ false) where
      pub trait_follows : (x : Syntax) (r : Stream) → take_token (word w_const) m ≡ Some (x, r) → sees (at_word w_trait) (past m) ≡ true → Goes (run_plan (const_trait_or_alias a v (Left x)) k ts r) → Goes run
      unfolding following_const
      trait_follows x r e h f =
          let s = sym (past_word w_const m (x, r) e) in
          subst Goes (sym (following x r e ∙ happened k ts (went false ∷ went true ∷ []) (following_const p a v x) r (ap (sees (at_word w_unsafe)) s ∙ no_unsafe, (ap (sees (at_word w_trait)) s ∙ h, tt)))) f

      module _ (no_trait : sees (at_word w_trait) (past m) ≡ false) (at_const : sees (at_word w_const) m ≡ true) where
        abbrev auto_next : Stream → Bool
        auto_next n = and (sees (at_word w_auto) n) (sees (at_word w_trait) (past n))

        pub auto_follows : (c : Syntax) (r : Stream) → parse_form (optional_item_word w_const) m ≡ Some (c, r) → auto_next (past m) ≡ true → Goes (run_plan (trait_plan a v c (Right Nothing)) k ts r) → Goes run
        unfolding following_const
        auto_follows c r read h f =
            let (x, q, e) = word_known w_const m c r at_const read in
            let s = sym (past_word w_const m (x, r) e) in
            subst Goes
            (ap (λ z. run_plan (trait_plan a v z (Right Nothing)) k ts r) q
            ∙ sym (following x r e ∙ happened k ts (went false ∷ went false ∷ went true ∷ []) (following_const p a v x) r (ap (sees (at_word w_unsafe)) s ∙ no_unsafe, (ap (sees (at_word w_trait)) s ∙ no_trait, (ap (sees (at_word w_auto and_also ahead Begins_item)) s ∙ auto_seen (past m) ∙ h, tt))))) f

        module _ (no_auto : auto_next (past m) ≡ false) where
          pub impl_follows : (c : Syntax) (r : Stream) → parse_form (optional_item_word w_const) m ≡ Some (c, r) → sees (at_word w_impl) (past m) ≡ true → Goes (run_plan (const_impl_plan p a c (Right Nothing)) k ts r) → Goes run
          unfolding following_const
          impl_follows c r read h f =
              let (x, q, e) = word_known w_const m c r at_const read in
              let s = sym (past_word w_const m (x, r) e) in
              subst Goes
              (ap (λ z. run_plan (const_impl_plan p a z (Right Nothing)) k ts r) q
              ∙ sym (following x r e ∙ happened k ts (went false ∷ went false ∷ went false ∷ went true ∷ []) (following_const p a v x) r
              (ap (sees (at_word w_unsafe)) s ∙ no_unsafe, (ap (sees (at_word w_trait)) s ∙ no_trait, (ap (sees (at_word w_auto and_also ahead Begins_item)) s ∙ auto_seen (past m) ∙ no_auto, (ap (sees (at_word w_impl)) s ∙ h, tt)))))) f

          module _ (no_impl : sees (at_word w_impl) (past m) ≡ false) where
            abbrev function_next : Stream → Bool
            function_next n = or (sees (at_word w_async) n) (or (sees at_extern n) (sees (at_word w_fn) n))

            seen : (n : Stream) → sees (at_word w_async or_else at_extern or_else at_word w_fn) n ≡ function_next n
            seen n = sees_or (at_word w_async) (at_extern or_else at_word w_fn) n ∙ ap (or (sees (at_word w_async) n)) (sees_or at_extern (at_word w_fn) n)

            last_goes : (b : Bool) → function_next (past m) ≡ b → (f : Syntax → Plan) → ((x : Syntax) (r : Stream) → take_token (word w_const) m ≡ Some (x, r) → run_plan (following_const p a v x) k ts r ≡ run_plan (f x) k ts r) →
                run ≡ follow (λ x r. run_plan (f x) k ts r) (take_token (word w_const) m)
            last_goes b h f each = go (take_token (word w_const) m) refl
              where
                go : (o : Out) → take_token (word w_const) m ≡ o → follow (λ x r. run_plan (following_const p a v x) k ts r) o ≡ follow (λ x r. run_plan (f x) k ts r) o
                go None e = refl
                go (Some q) e = each q.0 q.1 e

            pub function_follows : function_next (past m) ≡ true → Goes (run_plan (function_turn a v) k ts m) → Goes run
            unfolding following_const function_after_const abi_and_signature signature_end
            function_follows h f = subst Goes (sym (last_goes true h (λ x. function_after_const (function_end a v) (Left x)) each ∙ sym (signature_goes k ts (function_end a v) m at_const))) f
              where
                each : (x : Syntax) (r : Stream) → take_token (word w_const) m ≡ Some (x, r) → run_plan (following_const p a v x) k ts r ≡ run_plan (function_after_const (function_end a v) (Left x)) k ts r
                each x r e =
                    let s = sym (past_word w_const m (x, r) e) in
                    happened k ts (went false ∷ went false ∷ went false ∷ went false ∷ went true ∷ []) (following_const p a v x) r
                    (ap (sees (at_word w_unsafe)) s ∙ no_unsafe, (ap (sees (at_word w_trait)) s ∙ no_trait, (ap (sees (at_word w_auto and_also ahead Begins_item)) s ∙ auto_seen (past m) ∙ no_auto, (ap (sees (at_word w_impl)) s ∙ no_impl, (ap (sees (at_word w_async or_else at_extern or_else at_word w_fn)) s ∙ seen (past m) ∙ h, tt)))))

            pub const_follows : function_next (past m) ≡ false → Goes (run_plan (const_or_kept_turn a v) k ts m) → Goes run
            unfolding following_const
            const_follows h f = subst Goes (sym (last_goes false h (const_plan a v) each)) f
              where
                each : (x : Syntax) (r : Stream) → take_token (word w_const) m ≡ Some (x, r) → run_plan (following_const p a v x) k ts r ≡ run_plan (const_plan a v x) k ts r
                each x r e =
                    let s = sym (past_word w_const m (x, r) e) in
                    happened k ts (went false ∷ went false ∷ went false ∷ went false ∷ went false ∷ []) (following_const p a v x) r
                    (ap (sees (at_word w_unsafe)) s ∙ no_unsafe, (ap (sees (at_word w_trait)) s ∙ no_trait, (ap (sees (at_word w_auto and_also ahead Begins_item)) s ∙ auto_seen (past m) ∙ no_auto, (ap (sees (at_word w_impl)) s ∙ no_impl, (ap (sees (at_word w_async or_else at_extern or_else at_word w_fn)) s ∙ seen (past m) ∙ h, tt)))))

-- AN IMPL after `const`, by its place

module _ (k : Rule) (ts : Stream) (p : Place) (a c u : Syntax) (m : Stream) where
  abbrev const_run : Place → Out
  const_run z = run_plan (const_impl_plan z a c u) k ts m

  pub public_kept : p ≡ public → OnlyKept k ts (const_run p)
  unfolding const_impl_plan visible_impl
  public_kept e = subst (OnlyKept k ts) (sym (ap const_run e)) (is_kept k ts (marked ∷ []) (const_impl_plan public a c u) m tt (λ w. λ g. (λ x. (λ b. refl, λ t. λ f. λ b. refl), λ t. λ f. λ b. refl)))

  pub unwritten_refused : p ≡ unwritten → const_run p ≡ None
  unfolding const_impl_plan
  unwritten_refused e = ap const_run e

  pub plain_follows : {X E : Type 0} (refusal : E → Type 0) (view : X → Syntax) (y : Result (Option X) E) (new : Stream) → p ≡ plain → Follows refusal view k ts (run_plan (impl_plan a (Right Nothing) c u) k ts m) y new → Follows refusal view k ts (const_run p) y new
  unfolding const_impl_plan
  plain_follows refusal view y new e f = subst (λ (o : Out). Follows refusal view k ts o y new) (sym (ap const_run e)) f

-- AFTER `const unsafe`

module _ (k : Rule) (ts : Stream) (p : Place) (a v : Syntax) (m : Stream) (next : and (sees (at_word w_const) m) (sees (at_word w_unsafe) (past m)) ≡ true) where
  abbrev both_run : Out
  both_run = run_plan (const_turn p a v) k ts m

  const_here : sees (at_word w_const) m ≡ true
  const_here = and_left (sees (at_word w_const) m) _ next

  unsafe_past : sees (at_word w_unsafe) (past m) ≡ true
  unsafe_past = and_right (sees (at_word w_const) m) _ next

  abbrev trait_at : Stream → Bool
  trait_at n = sees (at_word w_trait or_else at_word w_auto) n

  abbrev kinds : Syntax → Syntax → Stream → Bool → Bool → Out
  kinds x u n b c =
      by_test b (run_plan (trait_plan a v (Left x) (Left u)) k ts n)
      (by_test c (run_plan (const_impl_plan p a (Left x) (Left u)) k ts n) (run_plan (abi_and_signature a v (Left x) absent (Node (Left (untag u)))) k ts n))

  at_kinds : (x : Syntax) (r : Stream) → take_token (word w_const) m ≡ Some (x, r) → run_plan (following_const p a v x) k ts r ≡ follow (λ u n. kinds x u n (trait_at n) (sees (at_word w_impl) n)) (take_token (word w_unsafe) r)
  unfolding following_const
  at_kinds x r e = happened k ts (went true ∷ []) (following_const p a v x) r (ap (sees (at_word w_unsafe)) (sym (past_word w_const m (x, r) e)) ∙ unsafe_past, tt)

  -- past both words
  past_both : (x : Syntax) (r : Stream) → take_token (word w_const) m ≡ Some (x, r) → (u : Syntax) (n : Stream) → take_token (word w_unsafe) r ≡ Some (u, n) → past (past m) ≡ n
  past_both x r e u n h = ap past (past_word w_const m (x, r) e) ∙ past_word w_unsafe r (u, n) h

  module _ {X E : Type 0} (refusal : E → Type 0) (view : X → Syntax) (y : Result (Option X) E) (new : Stream) where
    abbrev Going : Out → Type 0
    Going o = Follows refusal view k ts o y new

    module _ (c : Syntax) (r : Stream) (const_read : parse_form (optional_item_word w_const) m ≡ Some (c, r)) (u : Syntax) (n : Stream) (unsafe_read : parse_form (optional_item_word w_unsafe) r ≡ Some (u, n)) where
      known_kinds : (b d : Bool) → trait_at (past (past m)) ≡ b → sees (at_word w_impl) (past (past m)) ≡ d →
          (x : Syntax) → c ≡ Left x → take_token (word w_const) m ≡ Some (x, r) → (z : Syntax) → u ≡ Left z → take_token (word w_unsafe) r ≡ Some (z, n) → both_run ≡ kinds x z n b d
      known_kinds b d h i x q e z w f =
          let s = sym (past_both x r e z n f) in
          ap (follow (λ c n. run_plan (following_const p a v c) k ts n)) e ∙ at_kinds x r e
          ∙ ap (follow (λ u n. kinds x u n (trait_at n) (sees (at_word w_impl) n))) f
          ∙ ap₂ (kinds x z n) (ap trait_at s ∙ h) (ap (sees (at_word w_impl)) s ∙ i)

      at_unsafe : (x : Syntax) → take_token (word w_const) m ≡ Some (x, r) → sees (at_word w_unsafe) r ≡ true
      at_unsafe x e = ap (sees (at_word w_unsafe)) (sym (past_word w_const m (x, r) e)) ∙ unsafe_past

      pub unsafe_trait_follows : or (sees (at_word w_trait) (past (past m))) (sees (at_word w_auto) (past (past m))) ≡ true → Going (run_plan (trait_plan a v c u) k ts n) → Going both_run
      unsafe_trait_follows h f =
          let (x, q, e) = word_known w_const m c r const_here const_read in
          let (z, w, g) = word_known w_unsafe r u n (at_unsafe x e) unsafe_read in
          subst Going
          (ap₂ (λ s t. run_plan (trait_plan a v s t) k ts n) q w
          ∙ sym (known_kinds true (sees (at_word w_impl) (past (past m))) (sees_or (at_word w_trait) (at_word w_auto) (past (past m)) ∙ h) refl x q e z w g)) f

      pub unsafe_impl_follows : or (sees (at_word w_trait) (past (past m))) (sees (at_word w_auto) (past (past m))) ≡ false → sees (at_word w_impl) (past (past m)) ≡ true →
          Going (run_plan (const_impl_plan p a c u) k ts n) → Going both_run
      unsafe_impl_follows h i f =
          let (x, q, e) = word_known w_const m c r const_here const_read in
          let (z, w, g) = word_known w_unsafe r u n (at_unsafe x e) unsafe_read in
          subst Going
          (ap₂ (λ s t. run_plan (const_impl_plan p a s t) k ts n) q w
          ∙ sym (known_kinds false true (sees_or (at_word w_trait) (at_word w_auto) (past (past m)) ∙ h) i x q e z w g)) f

    pub unsafe_function_follows : or (sees (at_word w_trait) (past (past m))) (sees (at_word w_auto) (past (past m))) ≡ false → sees (at_word w_impl) (past (past m)) ≡ false →
        Going (run_plan (function_turn a v) k ts m) → Going both_run
    unfolding function_after_const abi_and_signature signature_end
    unsafe_function_follows h i f = subst Going (sym (go (take_token (word w_const) m) refl ∙ sym (signature_goes k ts (function_end a v) m const_here))) f
      where
        after : Syntax → Syntax → Syntax → Stream → Out
        after x y u n = run_plan (abi_and_signature a v (Left x) y u) k ts n

        none : (x : Syntax) (r : Stream) (o : Out) → take_token (word w_const) m ≡ Some (x, r) → take_token (word w_unsafe) r ≡ o →
            follow (λ u n. kinds x u n (trait_at n) (sees (at_word w_impl) n)) o ≡ follow (λ u n. after x absent u n) (wrap Node (wrap Left (wrap (shape untagged) o)))
        none x r None e g = refl
        none x r (Some q) e g =
            let s = sym (past_both x r e q.0 q.1 g) in
            ap₂ (kinds x q.0 q.1) (ap trait_at s ∙ sees_or (at_word w_trait) (at_word w_auto) (past (past m)) ∙ h) (ap (sees (at_word w_impl)) s ∙ i)

        each : (x : Syntax) (r : Stream) → take_token (word w_const) m ≡ Some (x, r) → run_plan (following_const p a v x) k ts r ≡ run_plan (function_after_const (function_end a v) (Left x)) k ts r
        each x r e =
            let s = ap (sees (at_word w_unsafe)) (sym (past_word w_const m (x, r) e)) ∙ unsafe_past in
            at_kinds x r e
            ∙ none x r (take_token (word w_unsafe) r) e refl
            ∙ sym (ap (λ b. follow (λ y n. follow (λ u z. after x y u z) (parse_rule unsafe_only n)) (branch b (take_token (word w_async) r) (Some (Nothing, r)))) (seen_apart (at_word w_unsafe) (at_word w_async) r refl s)
            ∙ ap (follow (λ u z. after x absent u z)) (unsafe_only_is r)
            ∙ ap (λ b. follow (λ u z. after x absent u z) (wrap Node (branch b (wrap (shape untagged) (take_token (word w_unsafe) r)) (Some (Nothing, r))))) s)

        go : (o : Out) → take_token (word w_const) m ≡ o → follow (λ x r. run_plan (following_const p a v x) k ts r) o ≡ follow (λ x r. run_plan (function_after_const (function_end a v) (Left x)) k ts r) o
        go None e = refl
        go (Some q) e = each q.0 q.1 e
