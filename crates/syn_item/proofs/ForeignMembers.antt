-- The plan of foreign members, by the next token after their visibility.
use Rattle.std.proofs.Common.{◌≡◌, Bool, true, false, [], ◌∷◌, Some, None, refl, sym, ap, ap₂, subst, ◌∙◌, true≢false}
use Rattle.std.specs.Prelude.{Option, Result}
use Rattle.syn_grammar.specs.Words.{exclamation, w_Self_type, w_async, w_const, w_extern, w_fn, w_pub, w_safe, w_static, w_type, w_unsafe}
use Rattle.syn_grammar.specs.Tokens.{Stream, Before_colons, Before_macro, ahead, and, at_empty_group, at_path_word, at_word, no, or, pick, ◌or_else◌}
use Rattle.syn_grammar.specs.Rules.{Rule, abi, foreign_macro_as_item, foreign_signature, macro_end, member_macro, module_path, safe_or_unsafe, signature_rest, visibility}
use Rattle.syn_grammar.specs.Shape.{untagged}
use Rattle.syn_grammar.specs.Grammar.{Grammar, Syntax, Nothing, Both, Left, Right, Node, Case, ◌&◌, empty, rule, when◌then◌else◌, word}
use Rattle.syn_grammar.specs.Forms.{asking_punctuation, never, optional}
use Rattle.syn_grammar.specs.Table.{at_bang, at_colons, at_extern, at_safety, at_visibility}
use Rattle.syn_grammar.specs.Take.{Out, sees, take_token}
use Rattle.syn_grammar.specs.Values.{shape}
use Rattle.syn_grammar.specs.Run.{and_then, branch, parse_form, parse_rule, wrap}
use Rattle.syn_grammar.specs.Plan.{Plan, ends, fails, turns, by_test, follow, run_plan}
use Rattle.syn_grammar.specs.ItemPlan.{absent, inherited, parts}
use Rattle.syn_grammar.specs.MemberPlans.{foreign_function_end, foreign_item_plan, foreign_macro_plan, foreign_member_plan, foreign_static_plan, foreign_type_plan, safety_plan}
use Rattle.syn_grammar.proofs.Each.{foreign_signature_is, member_macro_is, safe_or_unsafe_is}
use Rattle.syn_grammar.proofs.Known.{or_off, some_is}
use Rattle.syn_grammar.proofs.Looks.{sees_or}
use Rattle.syn_grammar.proofs.PlanSteps.{Event, happened, left_over, seen_along, seen_apart, went}
use Rattle.syn_parse.specs.Peeks.{past}
use Rattle.syn_recognize.proofs.MacroLooks.{before_colons_seen}
use Rattle.syn_recognize.proofs.PathLooks.{word_settles}
use Rattle.syn_item.specs.Macros.{among_members}
use Rattle.syn_item.specs.NextWords.{foreign_function_next, foreign_word, static_next}
use Rattle.syn_item.specs.Planned.{Follows}
use Rattle.syn_item.specs.Stages.{foreign_function_or_kept, foreign_item_plan_after, foreign_static_or_kept, foreign_type_or_kept}
use Rattle.syn_item.proofs.ImplPlans.{none_written}
use Rattle.syn_item.proofs.MemberFunctions.{past_word}
use Rattle.syn_item.proofs.PlanRows.{of_macro, row_is}

-- `safe` OR `unsafe`

abbrev safe : Stream → Bool
safe n = sees (at_word w_safe) n

abbrev unsafe : Stream → Bool
unsafe n = sees (at_word w_unsafe) n

abbrev static : Stream → Bool
static n = sees (at_word w_static) n

-- before `static`, `safe` begins no path
no_macro : (n : Stream) → safe n ≡ true → static (past n) ≡ true → sees (ahead Before_macro) n ≡ false
no_macro n h i =
    (word_settles n (seen_along (at_word w_safe) at_path_word n refl h)).0
    ∙ ap₂ (λ a b. or a (and b (sees (ahead Before_macro) (past n)))) (seen_apart (at_word w_static) at_bang (past n) refl i) (seen_apart (at_word w_static) at_colons (past n) refl i)

no_colons : (n : Stream) → safe n ≡ true → static (past n) ≡ true → sees (ahead Before_colons) n ≡ false
no_colons n h i = before_colons_seen n ∙ ap₂ and (seen_along (at_word w_safe) at_path_word n refl h) (seen_apart (at_word w_static) at_colons (past n) refl i)

abbrev by_safety : Stream → Bool → Bool → Out
by_safety n b s = wrap Node (branch b (wrap (shape untagged) (branch s (take_token (word w_safe) n) (take_token (word w_unsafe) n))) (Some (Nothing, n)))

safety_is : (n : Stream) (s u : Bool) → safe n ≡ s → unsafe n ≡ u → parse_rule safe_or_unsafe n ≡ by_safety n (or s u) s
safety_is n s u h i = safe_or_unsafe_is n ∙ ap₂ (by_safety n) (sees_or (at_word w_safe) (at_word w_unsafe) n ∙ ap₂ or h i) h

abbrev Following : Out → Stream → Type 0
Following o m = (p : Syntax × Stream) → o ≡ Some p → m ≡ p.1

past_safety : (n : Stream) (s u : Bool) → or s u ≡ true → safe n ≡ s → unsafe n ≡ u → Following (parse_rule safe_or_unsafe n) (past n)
past_safety n false false t h i p e = absurd (true≢false (sym t))
past_safety n true u t h i p e = go (take_token (word w_safe) n) refl (sym (safety_is n true u h i) ∙ e)
  where
    go : (o : Out) → take_token (word w_safe) n ≡ o → wrap Node (wrap Left (wrap (shape untagged) (wrap Left o))) ≡ Some p → past n ≡ p.1
    go None q j = absurd (cc j)
    go (Some x) q j = past_word w_safe n x q ∙ ap (λ (y : Syntax × Stream). y.1) (some_is (Node (Left (shape untagged (Left x.0))), x.1) p j)
past_safety n false true t h i p e = go (take_token (word w_unsafe) n) refl (sym (safety_is n false true h i) ∙ e)
  where
    go : (o : Out) → take_token (word w_unsafe) n ≡ o → wrap Node (wrap Left (wrap (shape untagged) (wrap Right o))) ≡ Some p → past n ≡ p.1
    go None q j = absurd (cc j)
    go (Some x) q j = past_word w_unsafe n x q ∙ ap (λ (y : Syntax × Stream). y.1) (some_is (Node (Left (shape untagged (Right x.0))), x.1) p j)

module _ (k : Rule) (ts : Stream) (a v : Syntax) where
  -- after the visibility, by whether there is one
  abbrev member_plan : Bool → Plan
  member_plan true = turns (at_word w_safe) (safety_plan a v) (foreign_member_plan a v fails)
  member_plan false = turns (at_word w_safe) (turns (ahead Before_macro) (foreign_macro_plan a) (turns (ahead Before_colons) (foreign_macro_plan a) (safety_plan a v))) (foreign_member_plan a v (foreign_macro_plan a))

  abbrev at : Bool → Stream → Out
  at b n = run_plan (member_plan b) k ts n

  type_at : (b : Bool) (n : Stream) → sees (at_word w_type) n ≡ true → at b n ≡ run_plan (foreign_type_or_kept a v) k ts n
  unfolding foreign_member_plan
  type_at true n h = happened k ts (went false ∷ went true ∷ []) (member_plan true) n (seen_apart (at_word w_type) (at_word w_safe) n refl h, (h, tt))
  type_at false n h = happened k ts (went false ∷ went true ∷ []) (member_plan false) n (seen_apart (at_word w_type) (at_word w_safe) n refl h, (h, tt))

  -- STATICS AND FUNCTIONS after `safe` or `unsafe`
  abbrev abi_form : Grammar
  abi_form = when at_extern then rule abi else empty

  abbrev signed : Syntax → Stream → Out
  signed f r = follow (λ e z. follow (λ s q. run_plan (foreign_function_end a v (Node (parts (absent ∷ absent ∷ f ∷ e ∷ s ∷ [])))) k ts q) (parse_rule signature_rest z)) (parse_form abi_form r)

  abbrev marked_by : Syntax → Stream → Bool → Out
  marked_by f r b = by_test b (run_plan (foreign_static_plan a v f) k ts r) (signed f r)

  safety_goes : (n : Stream) (o : Out) (b : Bool) → Following o (past n) → static (past n) ≡ b → follow (λ f r. marked_by f r (static r)) o ≡ follow (λ f r. marked_by f r b) o
  safety_goes n None b h i = refl
  safety_goes n (Some p) b h i = ap (marked_by p.0 p.1) (ap static (sym (h p refl)) ∙ i)

  safety_run : (n : Stream) → run_plan (safety_plan a v) k ts n ≡ follow (λ f r. marked_by f r (static r)) (parse_rule safe_or_unsafe n)
  unfolding safety_plan
  safety_run n = refl

  abbrev on : Out → Out
  on o = follow (λ s r. run_plan (foreign_function_end a v s) k ts r) o

  -- the way to the words after a visibility
  to_safety : (b : Bool) (n : Stream) (s u : Bool) → or s u ≡ true → safe n ≡ s → unsafe n ≡ u → sees (at_word w_type) n ≡ false →
      (b ≡ false → s ≡ true → (sees (ahead Before_macro) n ≡ false) × (sees (ahead Before_colons) n ≡ false)) → at b n ≡ run_plan (safety_plan a v) k ts n
  unfolding foreign_member_plan
  to_safety b n false false t h i y q = absurd (true≢false (sym t))
  to_safety true n true u t h i y q = happened k ts (went true ∷ []) (member_plan true) n (h, tt)
  to_safety false n true u t h i y q = let z = q refl refl in happened k ts (went true ∷ went false ∷ went false ∷ []) (member_plan false) n (h, (z.0, (z.1, tt)))
  to_safety true n false true t h i y q =
      happened k ts (went false ∷ went false ∷ went false ∷ went true ∷ []) (member_plan true) n (h, (y, (seen_apart (at_word w_unsafe) (at_word w_static) n refl i, (i, tt))))
  to_safety false n false true t h i y q =
      happened k ts (went false ∷ went false ∷ went false ∷ went true ∷ []) (member_plan false) n (h, (y, (seen_apart (at_word w_unsafe) (at_word w_static) n refl i, (i, tt))))

  static_at : (b : Bool) (n : Stream) → sees (at_word w_type) n ≡ false → static_next n ≡ true → at b n ≡ run_plan (foreign_static_or_kept a v) k ts n
  unfolding foreign_member_plan foreign_static_or_kept
  static_at b n y h = go (safe n) refl (unsafe n) refl h
    where
      marked : (s u : Bool) → or s u ≡ true → safe n ≡ s → unsafe n ≡ u → static (past n) ≡ true → run_plan (member_plan b) k ts n ≡ run_plan (foreign_static_or_kept a v) k ts n
      marked s u t x z i =
          to_safety b n s u t x z y (λ e j. (no_macro n (x ∙ j) i, no_colons n (x ∙ j) i))
          ∙ safety_run n ∙ safety_goes n (parse_rule safe_or_unsafe n) true (past_safety n s u t x z) i

      bare : (b : Bool) → safe n ≡ false → unsafe n ≡ false → static n ≡ true → run_plan (member_plan b) k ts n ≡ run_plan (foreign_static_plan a v (Node absent)) k ts n
      bare true x z i = happened k ts (went false ∷ went false ∷ went true ∷ []) (member_plan true) n (x, (y, (i, tt)))
      bare false x z i = happened k ts (went false ∷ went false ∷ went true ∷ []) (member_plan false) n (x, (y, (i, tt)))

      go : (s : Bool) → safe n ≡ s → (u : Bool) → unsafe n ≡ u → pick (or s u) (static (past n)) (static n) ≡ true → run_plan (member_plan b) k ts n ≡ run_plan (foreign_static_or_kept a v) k ts n
      go true x u z i = marked true u refl x z i
      go false x true z i = marked false true refl x z i
      go false x false z i = bare b x z i ∙ sym (ap (follow (λ f r. run_plan (foreign_static_plan a v f) k ts r)) (safety_is n false false x z))

  -- a signature after `safe` or `unsafe`
  signature_at : (n : Stream) → sees (at_word w_const) n ≡ false → sees (at_word w_async) n ≡ false → follow (λ f r. signed f r) (parse_rule safe_or_unsafe n) ≡ on (parse_rule foreign_signature n)
  signature_at n c y =
      go (parse_rule safe_or_unsafe n)
      ∙ sym (ap on (foreign_signature_is n
      ∙ ap (λ b. wrap Node (and_then (branch b (take_token (word w_const) n) (Some (Nothing, n))) (parse_form (optional w_async & rule safe_or_unsafe & abi_form & rule signature_rest)))) c
      ∙ ap (λ b. wrap Node (wrap (Both absent) (and_then (branch b (take_token (word w_async) n) (Some (Nothing, n))) (parse_form (rule safe_or_unsafe & abi_form & rule signature_rest))))) y))
    where
      last : (f e : Syntax) (o : Out) → follow (λ s q. run_plan (foreign_function_end a v (Node (parts (absent ∷ absent ∷ f ∷ e ∷ s ∷ [])))) k ts q) o ≡ on (wrap Node (wrap (Both absent) (wrap (Both absent) (wrap (Both f) (wrap (Both e) o)))))
      last f e None = refl
      last f e (Some p) = refl

      by_abi : (f : Syntax) (o : Out) → follow (λ e z. follow (λ s q. run_plan (foreign_function_end a v (Node (parts (absent ∷ absent ∷ f ∷ e ∷ s ∷ [])))) k ts q) (parse_rule signature_rest z)) o ≡ on (wrap Node (wrap (Both absent) (wrap (Both absent) (wrap (Both f) (and_then o (parse_rule signature_rest))))))
      by_abi f None = refl
      by_abi f (Some p) = last f p.0 (parse_rule signature_rest p.1)

      go : (o : Out) → follow (λ f r. signed f r) o ≡ on (wrap Node (wrap (Both absent) (wrap (Both absent) (and_then o (parse_form (abi_form & rule signature_rest))))))
      go None = refl
      go (Some p) = by_abi p.0 (parse_form abi_form p.1)

  no_const : (n : Stream) (s u : Bool) → or s u ≡ true → safe n ≡ s → unsafe n ≡ u → (sees (at_word w_const) n ≡ false) × (sees (at_word w_async) n ≡ false)
  no_const n false false t h i = absurd (true≢false (sym t))
  no_const n true u t h i = (seen_apart (at_word w_safe) (at_word w_const) n refl h, seen_apart (at_word w_safe) (at_word w_async) n refl h)
  no_const n false true t h i = (seen_apart (at_word w_unsafe) (at_word w_const) n refl i, seen_apart (at_word w_unsafe) (at_word w_async) n refl i)

  function_at : (b : Bool) (n : Stream) → sees (at_word w_type) n ≡ false → static_next n ≡ false → foreign_function_next b n ≡ true → at b n ≡ run_plan (foreign_function_or_kept a v) k ts n
  unfolding foreign_member_plan foreign_function_or_kept
  function_at b n y h w = go (safe n) refl (unsafe n) refl h w
    where
      marked : (s u : Bool) → or s u ≡ true → safe n ≡ s → unsafe n ≡ u → static (past n) ≡ false → (b ≡ false → s ≡ true → (sees (ahead Before_macro) n ≡ false) × (sees (ahead Before_colons) n ≡ false)) → run_plan (member_plan b) k ts n ≡ run_plan (foreign_function_or_kept a v) k ts n
      marked s u t x z i q =
          let c = no_const n s u t x z in
          to_safety b n s u t x z y q ∙ safety_run n ∙ safety_goes n (parse_rule safe_or_unsafe n) false (past_safety n s u t x z) i ∙ signature_at n c.0 c.1

      reported : (b : Bool) → or b (no (or (sees (ahead Before_macro) n) (sees (ahead Before_colons) n))) ≡ true → b ≡ false → (sees (ahead Before_macro) n ≡ false) × (sees (ahead Before_colons) n ≡ false)
      reported true i j = absurd (true≢false j)
      reported false i j = or_off (sees (ahead Before_macro) n) (sees (ahead Before_colons) n) (off (or (sees (ahead Before_macro) n) (sees (ahead Before_colons) n)) i)
        where
          off : (c : Bool) → no c ≡ true → c ≡ false
          off true e = absurd (true≢false (sym e))
          off false e = refl

      seen : or (sees (at_word w_const) n) (or (sees (at_word w_async) n) (or (sees at_extern n) (sees (at_word w_fn) n))) ≡ true → sees (at_word w_const or_else at_word w_async or_else at_extern or_else at_word w_fn) n ≡ true
      seen i =
          sees_or (at_word w_const) (at_word w_async or_else at_extern or_else at_word w_fn) n
          ∙ ap (or (sees (at_word w_const) n)) (sees_or (at_word w_async) (at_extern or_else at_word w_fn) n ∙ ap (or (sees (at_word w_async) n)) (sees_or at_extern (at_word w_fn) n)) ∙ i

      bare : (b : Bool) → safe n ≡ false → unsafe n ≡ false → static n ≡ false → sees (at_word w_const or_else at_word w_async or_else at_extern or_else at_word w_fn) n ≡ true → run_plan (member_plan b) k ts n ≡ run_plan (foreign_function_or_kept a v) k ts n
      bare true x z i j = happened k ts (went false ∷ went false ∷ went false ∷ went false ∷ went true ∷ []) (member_plan true) n (x, (y, (i, (z, (j, tt)))))
      bare false x z i j = happened k ts (went false ∷ went false ∷ went false ∷ went false ∷ went true ∷ []) (member_plan false) n (x, (y, (i, (z, (j, tt)))))

      go : (s : Bool) → safe n ≡ s → (u : Bool) → unsafe n ≡ u → pick (or s u) (static (past n)) (static n) ≡ false →
          pick s (or b (no (or (sees (ahead Before_macro) n) (sees (ahead Before_colons) n)))) (or u (or (sees (at_word w_const) n) (or (sees (at_word w_async) n) (or (sees at_extern n) (sees (at_word w_fn) n))))) ≡ true →
          run_plan (member_plan b) k ts n ≡ run_plan (foreign_function_or_kept a v) k ts n
      go true x u z i j = marked true u refl x z i (λ e r. reported b j e)
      go false x true z i j = marked false true refl x z i (λ e r. absurd (true≢false (sym r)))
      go false x false z i j = bare b x z i (seen j)

  -- MACROS, without a visibility and without these words
  no_words : (n : Stream) → foreign_word n ≡ false → (unsafe n ≡ false) × (sees (at_word w_const or_else at_word w_async or_else at_extern or_else at_word w_fn) n ≡ false)
  no_words n h =
      let (u, o) = or_off (unsafe n) _ h in
      (u, sees_or (at_word w_const) (at_word w_async or_else at_extern or_else at_word w_fn) n ∙ ap (or (sees (at_word w_const) n)) (sees_or (at_word w_async) (at_extern or_else at_word w_fn) n ∙ ap (or (sees (at_word w_async) n)) (sees_or at_extern (at_word w_fn) n)) ∙ o)

  nothing_at : (n : Stream) → sees (at_word w_type) n ≡ false → static_next n ≡ false → foreign_function_next true n ≡ false → at true n ≡ None
  unfolding foreign_member_plan
  nothing_at n y h w = go (safe n) refl (unsafe n) refl h w
    where
      go : (s : Bool) → safe n ≡ s → (u : Bool) → unsafe n ≡ u → pick (or s u) (static (past n)) (static n) ≡ false → pick s true (foreign_word n) ≡ false → run_plan (member_plan true) k ts n ≡ None
      go true x u z i j = absurd (true≢false j)
      go false x true z i j = absurd (true≢false (sym z ∙ (no_words n j).0))
      go false x false z i j = happened k ts (went false ∷ went false ∷ went false ∷ went false ∷ went false ∷ []) (member_plan true) n (x, (y, (i, (z, ((no_words n j).1, tt)))))

  macro_at : (n : Stream) → sees (at_word w_type) n ≡ false → static_next n ≡ false → foreign_function_next false n ≡ false → at false n ≡ run_plan (foreign_macro_plan a) k ts n
  unfolding foreign_member_plan
  macro_at n y h w = go (safe n) refl (unsafe n) refl h w
    where
      by_path : safe n ≡ true → (b c : Bool) → sees (ahead Before_macro) n ≡ b → sees (ahead Before_colons) n ≡ c → no (or b c) ≡ false → run_plan (member_plan false) k ts n ≡ run_plan (foreign_macro_plan a) k ts n
      by_path x true c p q j = happened k ts (went true ∷ went true ∷ []) (member_plan false) n (x, (p, tt))
      by_path x false true p q j = happened k ts (went true ∷ went false ∷ went true ∷ []) (member_plan false) n (x, (p, (q, tt)))
      by_path x false false p q j = absurd (true≢false j)

      go : (s : Bool) → safe n ≡ s → (u : Bool) → unsafe n ≡ u → pick (or s u) (static (past n)) (static n) ≡ false → pick s (no (or (sees (ahead Before_macro) n) (sees (ahead Before_colons) n))) (foreign_word n) ≡ false →
          run_plan (member_plan false) k ts n ≡ run_plan (foreign_macro_plan a) k ts n
      go true x u z i j = by_path x (sees (ahead Before_macro) n) (sees (ahead Before_colons) n) refl refl j
      go false x true z i j = absurd (true≢false (sym z ∙ (no_words n j).0))
      go false x false z i j = happened k ts (went false ∷ went false ∷ went false ∷ went false ∷ went false ∷ []) (member_plan false) n (x, (y, (i, (z, ((no_words n j).1, tt)))))

  self_at : (n : Stream) → sees (at_word w_Self_type) n ≡ true → run_plan (foreign_macro_plan a) k ts n ≡ None
  unfolding foreign_macro_plan
  self_at n h = happened k ts (went true ∷ []) (foreign_macro_plan a) n (h, tt)

  path_at : (n : Stream) → sees (at_word w_Self_type) n ≡ false → run_plan (foreign_macro_plan a) k ts n ≡ wrap (λ s. Node (Case foreign_macro_as_item (among_members s))) (wrap (Both a) (parse_rule member_macro n))
  unfolding foreign_macro_plan
  path_at n h =
      happened k ts (went false ∷ []) (foreign_macro_plan a) n (h, tt)
      ∙ row_is k ts (rule module_path) ((when at_bang then asking_punctuation exclamation else never) ∷ rule macro_end ∷ []) (λ s. ends (Node (Case foreign_macro_as_item (Both a (Right (Node s)))))) n
      ∙ of_macro foreign_macro_as_item a (parse_form (rule module_path & (when at_bang then asking_punctuation exclamation else never) & rule macro_end) n)
      ∙ sym (ap (wrap (λ s. Node (Case foreign_macro_as_item (Both a (Right s))))) (member_macro_is n))
      ∙ attributed (parse_rule member_macro n)
    where
      attributed : (o : Out) → wrap (λ s. Node (Case foreign_macro_as_item (Both a (Right s)))) o ≡ wrap (λ s. Node (Case foreign_macro_as_item (among_members s))) (wrap (Both a) o)
      attributed None = refl
      attributed (Some p) = refl

-- A MEMBER after its attributes

module _ (k : Rule) (ts : Stream) (a : Syntax) (m : Stream) where
  abbrev run : Out
  run = run_plan (foreign_item_plan_after a) k ts m

  goes : (b : Bool) → or (sees (at_word w_pub) m) (sees at_empty_group m) ≡ b → run ≡ follow (λ v n. at k ts a v b n) (parse_rule visibility m)
  unfolding foreign_item_plan_after foreign_item_plan
  goes true h = happened k ts (went true ∷ []) (foreign_item_plan_after a) m (sees_or (at_word w_pub) at_empty_group m ∙ h, tt)
  goes false h = happened k ts (went false ∷ []) (foreign_item_plan_after a) m (sees_or (at_word w_pub) at_empty_group m ∙ h, tt) ∙ sym (ap (follow (λ v n. at k ts a v false n)) (none_written m h))

  pub visibility_refused : parse_rule visibility m ≡ None → run ≡ None
  visibility_refused e = goes (or (sees (at_word w_pub) m) (sees at_empty_group m)) refl ∙ ap (follow (λ v n. at k ts a v (or (sees (at_word w_pub) m) (sees at_empty_group m)) n)) e

  module _ (b : Bool) (marked : b ≡ or (sees (at_word w_pub) m) (sees at_empty_group m)) (v : Syntax) (n : Stream) (vis : parse_rule visibility m ≡ Some (v, n)) where
    following : run ≡ at k ts a v b n
    following = goes b (sym marked) ∙ ap (follow (λ v n. at k ts a v b n)) vis

    module _ {X E : Type 0} (refusal : E → Type 0) (view : X → Syntax) (x : Result (Option X) E) (new : Stream) where
      abbrev Goes : Out → Type 0
      Goes o = Follows refusal view k ts o x new

      pub type_follows : sees (at_word w_type) n ≡ true → Goes (run_plan (foreign_type_or_kept a v) k ts n) → Goes run
      type_follows h = subst Goes (sym (following ∙ type_at k ts a v b n h))

      pub static_follows : sees (at_word w_type) n ≡ false → static_next n ≡ true → Goes (run_plan (foreign_static_or_kept a v) k ts n) → Goes run
      static_follows y h = subst Goes (sym (following ∙ static_at k ts a v b n y h))

      pub function_follows : sees (at_word w_type) n ≡ false → static_next n ≡ false → foreign_function_next b n ≡ true → Goes (run_plan (foreign_function_or_kept a v) k ts n) → Goes run
      function_follows y s h = subst Goes (sym (following ∙ function_at k ts a v b n y s h))

    module _ (no_type : sees (at_word w_type) n ≡ false) (no_static : static_next n ≡ false) (no_function : foreign_function_next b n ≡ false) where
      pub marked_refused : b ≡ true → run ≡ None
      marked_refused e = following ∙ ap (λ c. at k ts a v c n) e ∙ nothing_at k ts a v n no_type no_static (sym (ap (λ c. foreign_function_next c n) e) ∙ no_function)

      bare : b ≡ false → run ≡ run_plan (foreign_macro_plan a) k ts n
      bare e = following ∙ ap (λ c. at k ts a v c n) e ∙ macro_at k ts a v n no_type no_static (sym (ap (λ c. foreign_function_next c n) e) ∙ no_function)

      pub self_refused : b ≡ false → sees (at_word w_Self_type) n ≡ true → run ≡ None
      self_refused e h = bare e ∙ self_at k ts a v n h

      pub macro_read : b ≡ false → sees (at_word w_Self_type) n ≡ false → (t : Syntax) (r : Stream) → wrap (Both a) (parse_rule member_macro n) ≡ Some (t, r) → run ≡ Some (Node (Case foreign_macro_as_item (among_members t)), r)
      macro_read e h t r i = bare e ∙ path_at k ts a v n h ∙ ap (wrap (λ s. Node (Case foreign_macro_as_item (among_members s)))) i

      pub macro_refused : b ≡ false → sees (at_word w_Self_type) n ≡ false → wrap (Both a) (parse_rule member_macro n) ≡ None → run ≡ None
      macro_refused e h i = bare e ∙ path_at k ts a v n h ∙ ap (wrap (λ s. Node (Case foreign_macro_as_item (among_members s)))) i
