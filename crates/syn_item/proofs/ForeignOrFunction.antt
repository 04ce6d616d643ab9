-- After `extern`, or `unsafe`, by the plan of items: a foreign module, or a function.
use Rattle.std.proofs.Common.{◌≡◌, Bool, true, false, [], ◌∷◌, Some, None, refl, sym, ap, subst, ◌∙◌, true≢false}
use Rattle.std.specs.Prelude.{Option, Result}
use Rattle.syn_grammar.specs.Words.{w_async, w_const, w_extern, w_unsafe}
use Rattle.syn_grammar.specs.Tokens.{Brace, Str, Stream, and, at_literal, at_word, or}
use Rattle.syn_grammar.specs.Rules.{Rule, abi, foreign_items, foreign_module, foreign_module_rest, inner_attributes, signature, signature_rest, unsafe_only}
use Rattle.syn_grammar.specs.Shape.{untagged}
use Rattle.syn_grammar.specs.Grammar.{Grammar, Syntax, Nothing, Both, Left, Right, Node, Case, ◌&◌, empty, inside, literal_of, rule, when◌then◌else◌, word}
use Rattle.syn_grammar.specs.Forms.{plainly}
use Rattle.syn_grammar.specs.Table.{at_brace, at_extern, optional_item_word}
use Rattle.syn_grammar.specs.Take.{Out, sees, take_token, taken}
use Rattle.syn_grammar.specs.Values.{shape, untag}
use Rattle.syn_grammar.specs.Run.{and_then, branch, parse_form, parse_rule, wrap}
use Rattle.syn_grammar.specs.Plan.{Plan, by_test, follow, run_plan}
use Rattle.syn_grammar.specs.ItemPlan.{Place, public, unwritten, plain, absent, extern_plan, function_end, parts, signature_end}
use Rattle.syn_grammar.proofs.Each.{abi_is, foreign_module_rest_is, signature_is, unsafe_only_is}
use Rattle.syn_grammar.proofs.PlanSteps.{Event, happened, seen_apart, went}
use Rattle.syn_grammar.proofs.Looks.{sees_word}
use Rattle.syn_grammar.proofs.Sets.{and_left, and_right}
use Rattle.syn_item.specs.ItemTurns.{braces_next, function_turn, module_next, module_or_function_turn, no_visibility}
use Rattle.syn_item.specs.Planned.{Follows}

-- the literal after `extern`, and what is in the braces of a foreign module
abbrev text_form : Grammar
text_form = when at_literal Str then plainly (literal_of (Str ∷ [])) else empty

abbrev members_form : Grammar
members_form = inside Brace (rule inner_attributes & rule foreign_items)

module _ (k : Rule) (ts : Stream) (a v : Syntax) where
  -- AN ABI THAT WAS READ, after these modifiers: `unsafe` as a foreign module has it, and as a signature does

  abbrev of_module : Out → Out
  of_module o = wrap (λ t. Node (Case foreign_module t)) (wrap (Both a) (wrap Node o))

  abbrev on : Out → Out
  on o = follow (λ s r. run_plan (function_end a v s) k ts r) o

  abbrev as_function : Syntax → Syntax → Stream → Out
  as_function u e r = on (wrap Node (wrap (Both absent) (wrap (Both absent) (wrap (Both u) (wrap (Both e) (parse_rule signature_rest r))))))

  abbrev as_module : Syntax → Syntax → Stream → Out
  as_module m e r = of_module (wrap (Both m) (wrap (Both e) (parse_form members_form r)))

  ends_signature : (u e : Syntax) (o : Out) → follow (λ s r. run_plan (function_end a v (Node (parts (absent ∷ absent ∷ u ∷ e ∷ s ∷ [])))) k ts r) o ≡ on (wrap Node (wrap (Both absent) (wrap (Both absent) (wrap (Both u) (wrap (Both e) o)))))
  ends_signature u e None = refl
  ends_signature u e (Some p) = refl

  signature_goes : (u e : Syntax) (r : Stream) → run_plan (signature_end a v absent absent u e) k ts r ≡ as_function u e r
  unfolding signature_end
  signature_goes u e r = ends_signature u e (parse_rule signature_rest r)

  ends_module : (m e : Syntax) (o : Out) → follow (λ b r. Some (Node (Case foreign_module (Both a (Node (parts (m ∷ e ∷ b ∷ []))))), r)) o ≡ of_module (wrap (Both m) (wrap (Both e) o))
  ends_module m e None = refl
  ends_module m e (Some p) = refl

  -- by what follows an ABI of this word, where no visibility was read
  abbrev by_braces : Syntax → Syntax → Syntax → Syntax → Stream → Bool → Out
  by_braces m u w l r b = by_test b (as_module m (Node (Both w l)) r) (as_function u (Left (Node (Both w l))) r)

  -- AN ABI, by whether it begins a foreign module
  module _ (m u : Syntax) where
    abbrev after_abi : Bool → Out → Out
    after_abi p o = follow (λ e r. by_test (and p (sees at_brace r)) (as_module m e r) (as_function u (Left e) r)) o

    abbrev plan_of : Place → Out → Out
    plan_of p o = follow (λ e r. run_plan (extern_plan p a v m u e) k ts r) o

    text_goes : (p : Place) (w : Syntax) (o : Out) → (r : Stream) → o ≡ parse_form text_form r → run_plan (extern_plan p a v m u w) k ts r ≡ after_abi (no_visibility p) (wrap Node (wrap (Both w) o))
    unfolding extern_plan
    text_goes public w o r e = ap (follow (λ l q. run_plan (signature_end a v absent absent u (Left (Node (Both w l)))) k ts q)) (sym e) ∙ go o
      where
        go : (o : Out) → follow (λ l q. run_plan (signature_end a v absent absent u (Left (Node (Both w l)))) k ts q) o ≡ after_abi false (wrap Node (wrap (Both w) o))
        go None = refl
        go (Some p) = signature_goes u (Left (Node (Both w p.0))) p.1
    text_goes unwritten w o r e = ap (follow (λ l q. run_plan (signature_end a v absent absent u (Left (Node (Both w l)))) k ts q)) (sym e) ∙ go o
      where
        go : (o : Out) → follow (λ l q. run_plan (signature_end a v absent absent u (Left (Node (Both w l)))) k ts q) o ≡ after_abi false (wrap Node (wrap (Both w) o))
        go None = refl
        go (Some p) = signature_goes u (Left (Node (Both w p.0))) p.1
    text_goes plain w o r e =
        ap
        (follow (λ l q. by_test (sees at_brace q) (follow (λ b z. Some (Node (Case foreign_module (Both a (Node (parts (m ∷ Node (Both w l) ∷ b ∷ []))))), z)) (parse_form members_form q)) (run_plan (signature_end a v absent absent u (Left (Node (Both w l)))) k ts q)))
        (sym e)
        ∙ go o
      where
        each : (l : Syntax) (q : Stream) (b : Bool) →
            by_test b (follow (λ b z. Some (Node (Case foreign_module (Both a (Node (parts (m ∷ Node (Both w l) ∷ b ∷ []))))), z)) (parse_form members_form q)) (run_plan (signature_end a v absent absent u (Left (Node (Both w l)))) k ts q)
            ≡ by_test b (as_module m (Node (Both w l)) q) (as_function u (Left (Node (Both w l))) q)
        each l q true = ends_module m (Node (Both w l)) (parse_form members_form q)
        each l q false = signature_goes u (Left (Node (Both w l))) q

        go : (o : Out) →
            follow (λ l q. by_test (sees at_brace q) (follow (λ b z. Some (Node (Case foreign_module (Both a (Node (parts (m ∷ Node (Both w l) ∷ b ∷ []))))), z)) (parse_form members_form q)) (run_plan (signature_end a v absent absent u (Left (Node (Both w l)))) k ts q)) o
            ≡ after_abi true (wrap Node (wrap (Both w) o))
        go None = refl
        go (Some p) = each p.0 p.1 (sees at_brace p.1)

    abi_goes : (p : Place) (r : Stream) → plan_of p (take_token (word w_extern) r) ≡ after_abi (no_visibility p) (parse_rule abi r)
    abi_goes p r = go (take_token (word w_extern) r) ∙ sym (ap (after_abi (no_visibility p)) (abi_is r))
      where
        go : (o : Out) → plan_of p o ≡ after_abi (no_visibility p) (wrap Node (and_then o (parse_form text_form)))
        go None = refl
        go (Some q) = text_goes p q.0 (parse_form text_form q.1) q.1 refl

    -- what a foreign module and a signature read after it
    is_module : (p b : Bool) (o : Out) → p ≡ true → braces_next o ≡ true → after_abi p o ≡ of_module (wrap (Both m) (and_then o (parse_form members_form)))
    is_module p b None h i = absurd (true≢false (sym i))
    is_module p b (Some q) h i = ap (λ c. by_test c (as_module m q.0 q.1) (as_function u (Left q.0) q.1)) (ap (λ c. and c (sees at_brace q.1)) h ∙ i)

    is_function : (p : Bool) (o : Out) → and p (braces_next o) ≡ false → after_abi p o ≡ on (wrap Node (wrap (Both absent) (wrap (Both absent) (wrap (Both u) (and_then (wrap Left o) (parse_rule signature_rest))))))
    is_function p None h = refl
    is_function p (Some q) h = ap (λ c. by_test c (as_module m q.0 q.1) (as_function u (Left q.0) q.1)) h

-- IF `extern` IS NEXT, or `unsafe`

braces_after : (f : Syntax → Syntax) (o : Out) → braces_next (wrap f o) ≡ braces_next o
braces_after f None = refl
braces_after f (Some p) = refl

no_extern : (r : Stream) → sees at_extern r ≡ false → take_token (word w_extern) r ≡ None
no_extern r h = go (take_token (word w_extern) r) (sym (sees_word w_extern r) ∙ h)
  where
    go : (o : Out) → taken o ≡ false → o ≡ None
    go None e = refl
    go (Some q) e = absurd (true≢false e)

abbrev rest_form : Grammar
rest_form = (when at_extern then rule abi else empty) & rule signature_rest

-- a signature, by its modifiers
abbrev by_modifiers : Stream → Bool → Bool → Bool → Out
by_modifiers m c y u =
    wrap Node (and_then (branch c (take_token (word w_const) m) (Some (Nothing, m))) (λ n. and_then (branch y (take_token (word w_async) n) (Some (Nothing, n))) (λ q. and_then (wrap Node (branch u (wrap (shape untagged) (take_token (word w_unsafe) q)) (Some (Nothing, q)))) (parse_form rest_form))))

abbrev only_unsafe : Stream → Bool → Out
only_unsafe m u = wrap Node (wrap (Both absent) (wrap (Both absent) (and_then (wrap Node (branch u (wrap (shape untagged) (take_token (word w_unsafe) m)) (Some (Nothing, m)))) (parse_form rest_form))))

unsafe_signature : (m : Stream) → sees (at_word w_const) m ≡ false → sees (at_word w_async) m ≡ false → parse_rule signature m ≡ only_unsafe m (sees (at_word w_unsafe) m)
unsafe_signature m c y =
    signature_is m
    ∙ ap (λ b. wrap Node (and_then (branch b (take_token (word w_const) m) (Some (Nothing, m))) (parse_form (optional_item_word w_async & rule unsafe_only & rest_form)))) c
    ∙ ap (λ b. wrap Node (wrap (Both absent) (and_then (branch b (take_token (word w_async) m) (Some (Nothing, m))) (parse_form (rule unsafe_only & rest_form))))) y
    ∙ ap (λ o. wrap Node (wrap (Both absent) (wrap (Both absent) (and_then o (parse_form rest_form))))) (unsafe_only_is m)

module _ (k : Rule) (ts : Stream) (p : Place) (a v : Syntax) (m : Stream) where
  abbrev run : Out
  run = run_plan (module_or_function_turn p a v) k ts m

  abbrev whole_module : Out
  whole_module = wrap (λ t. Node (Case foreign_module t)) (wrap (Both a) (parse_rule foreign_module_rest m))

  abbrev by_unsafe : Bool → Out
  by_unsafe b = of_module k ts a v (and_then (branch b (take_token (word w_unsafe) m) (Some (Nothing, m))) (parse_form (rule abi & members_form)))

  module_by : (b : Bool) → sees (at_word w_unsafe) m ≡ b → whole_module ≡ by_unsafe b
  module_by b h = ap (λ o. wrap (λ t. Node (Case foreign_module t)) (wrap (Both a) o)) (foreign_module_rest_is m) ∙ ap by_unsafe h

  braces_by : (b : Bool) → sees (at_word w_unsafe) m ≡ b → module_next m ≡ braces_next (and_then (branch b (take_token (word w_unsafe) m) (Some (Nothing, m))) (parse_rule abi))
  braces_by b h = ap (λ c. braces_next (and_then (branch c (take_token (word w_unsafe) m) (Some (Nothing, m))) (parse_rule abi))) h

  -- `extern` alone
  module _ (h : sees at_extern m ≡ true) where
    no_unsafe : sees (at_word w_unsafe) m ≡ false
    no_unsafe = seen_apart at_extern (at_word w_unsafe) m refl h

    extern_goes : run ≡ after_abi k ts a v absent (Node absent) (no_visibility p) (parse_rule abi m)
    extern_goes = happened k ts (went true ∷ []) (module_or_function_turn p a v) m (h, tt) ∙ abi_goes k ts a v absent (Node absent) p m

    extern_module : and (no_visibility p) (module_next m) ≡ true → run ≡ whole_module
    extern_module i =
        extern_goes
        ∙ is_module k ts a v absent (Node absent) (no_visibility p) true (parse_rule abi m) (and_left (no_visibility p) (module_next m) i)
        (sym (braces_by false no_unsafe ∙ braces_after (Both absent) (parse_rule abi m)) ∙ and_right (no_visibility p) (module_next m) i)
        ∙ sym (module_by false no_unsafe)

    extern_function : and (no_visibility p) (module_next m) ≡ false → run ≡ run_plan (function_turn a v) k ts m
    extern_function i =
        extern_goes
        ∙ is_function k ts a v absent (Node absent) (no_visibility p) (parse_rule abi m) (ap (and (no_visibility p)) (sym (braces_by false no_unsafe ∙ braces_after (Both absent) (parse_rule abi m))) ∙ i)
        ∙ sym (ap (on k ts a v)
        (unsafe_signature m (seen_apart at_extern (at_word w_const) m refl h) (seen_apart at_extern (at_word w_async) m refl h)
        ∙ ap (only_unsafe m) no_unsafe
        ∙ ap (λ b. wrap Node (wrap (Both absent) (wrap (Both absent) (wrap (Both (Node absent)) (and_then (branch b (parse_rule abi m) (Some (Nothing, m))) (parse_rule signature_rest)))))) h))

  -- after `unsafe`
  module _ (h : sees (at_word w_unsafe) m ≡ true) where
    abbrev extern_or_not : Syntax → Stream → Bool → Out
    extern_or_not u r b =
        by_test b (follow (λ e n. run_plan (extern_plan p a v (Left u) (Node (Left (untag u))) e) k ts n) (take_token (word w_extern) r))
        (run_plan (signature_end a v absent absent (Node (Left (untag u))) absent) k ts r)

    abbrev after_unsafe : Out → Out
    after_unsafe o = follow (λ u r. extern_or_not u r (sees at_extern r)) o

    unsafe_goes : run ≡ after_unsafe (take_token (word w_unsafe) m)
    unsafe_goes = happened k ts (went false ∷ []) (module_or_function_turn p a v) m (seen_apart (at_word w_unsafe) at_extern m refl h, tt)

    unsafe_module : and (no_visibility p) (module_next m) ≡ true → run ≡ whole_module
    unsafe_module i = unsafe_goes ∙ go (take_token (word w_unsafe) m) (sym (braces_by true h) ∙ and_right (no_visibility p) (module_next m) i) ∙ sym (module_by true h)
      where
        at_abi : (u : Syntax) (r : Stream) (b : Bool) → sees at_extern r ≡ b → braces_next (parse_rule abi r) ≡ true → extern_or_not u r b ≡ of_module k ts a v (wrap (Both (Left u)) (and_then (parse_rule abi r) (parse_form members_form)))
        at_abi u r true e j =
            abi_goes k ts a v (Left u) (Node (Left (untag u))) p r
            ∙ is_module k ts a v (Left u) (Node (Left (untag u))) (no_visibility p) true (parse_rule abi r) (and_left (no_visibility p) (module_next m) i) j
        at_abi u r false e j = absurd (true≢false (sym j ∙ ap braces_next (abi_is r ∙ ap (λ o. wrap Node (and_then o (parse_form text_form))) (no_extern r e))))

        go : (o : Out) → braces_next (and_then (wrap Left o) (parse_rule abi)) ≡ true → after_unsafe o ≡ of_module k ts a v (and_then (wrap Left o) (parse_form (rule abi & members_form)))
        go None j = absurd (true≢false (sym j))
        go (Some q) j = at_abi q.0 q.1 (sees at_extern q.1) refl (sym (braces_after (Both (Left q.0)) (parse_rule abi q.1)) ∙ j)

    unsafe_function : and (no_visibility p) (module_next m) ≡ false → run ≡ run_plan (function_turn a v) k ts m
    unsafe_function i =
        unsafe_goes
        ∙ go (take_token (word w_unsafe) m) (ap (and (no_visibility p)) (sym (braces_by true h)) ∙ i)
        ∙ sym (ap (on k ts a v)
        (unsafe_signature m (seen_apart (at_word w_unsafe) (at_word w_const) m refl h) (seen_apart (at_word w_unsafe) (at_word w_async) m refl h)
        ∙ ap (only_unsafe m) h))
      where
        at_abi : (u : Syntax) (r : Stream) (b : Bool) → sees at_extern r ≡ b → and (no_visibility p) (braces_next (parse_rule abi r)) ≡ false →
            extern_or_not u r b ≡ on k ts a v (wrap Node (wrap (Both absent) (wrap (Both absent) (wrap (Both (Node (Left (untag u)))) (and_then (branch b (parse_rule abi r) (Some (Nothing, r))) (parse_rule signature_rest))))))
        at_abi u r true e j =
            abi_goes k ts a v (Left u) (Node (Left (untag u))) p r
            ∙ is_function k ts a v (Left u) (Node (Left (untag u))) (no_visibility p) (parse_rule abi r) j
        at_abi u r false e j = signature_goes k ts a v (Node (Left (untag u))) absent r

        go : (o : Out) → and (no_visibility p) (braces_next (and_then (wrap Left o) (parse_rule abi))) ≡ false →
            after_unsafe o ≡ on k ts a v (wrap Node (wrap (Both absent) (wrap (Both absent) (and_then (wrap Node (wrap Left (wrap (shape untagged) o))) (parse_form rest_form)))))
        go None j = refl
        go (Some q) j = at_abi q.0 q.1 (sees at_extern q.1) refl (ap (and (no_visibility p)) (sym (braces_after (Both (Left q.0)) (parse_rule abi q.1))) ∙ j)

  -- BY WHICHEVER is next
  module_goes : or (sees at_extern m) (sees (at_word w_unsafe) m) ≡ true → and (no_visibility p) (module_next m) ≡ true → run ≡ whole_module
  module_goes b i = go (sees at_extern m) refl b
    where
      go : (x : Bool) → sees at_extern m ≡ x → or x (sees (at_word w_unsafe) m) ≡ true → run_plan (module_or_function_turn p a v) k ts m ≡ whole_module
      go true h e = extern_module h i
      go false h e = unsafe_module e i

  function_goes : or (sees at_extern m) (sees (at_word w_unsafe) m) ≡ true → and (no_visibility p) (module_next m) ≡ false → run ≡ run_plan (function_turn a v) k ts m
  function_goes b i = go (sees at_extern m) refl b
    where
      go : (x : Bool) → sees at_extern m ≡ x → or x (sees (at_word w_unsafe) m) ≡ true → run_plan (module_or_function_turn p a v) k ts m ≡ run_plan (function_turn a v) k ts m
      go true h e = extern_function h i
      go false h e = unsafe_function e i

  pub module_read : or (sees at_extern m) (sees (at_word w_unsafe) m) ≡ true → and (no_visibility p) (module_next m) ≡ true → (t : Syntax) (r : Stream) → wrap (Both a) (parse_rule foreign_module_rest m) ≡ Some (t, r) → run ≡ Some (Node (Case foreign_module t), r)
  module_read b i t r e = module_goes b i ∙ ap (wrap (λ t. Node (Case foreign_module t))) e

  pub module_refused : or (sees at_extern m) (sees (at_word w_unsafe) m) ≡ true → and (no_visibility p) (module_next m) ≡ true → wrap (Both a) (parse_rule foreign_module_rest m) ≡ None → run ≡ None
  module_refused b i e = module_goes b i ∙ ap (wrap (λ t. Node (Case foreign_module t))) e

  pub function_follows : {X E : Type 0} (refusal : E → Type 0) (view : X → Syntax) (x : Result (Option X) E) (new : Stream) → or (sees at_extern m) (sees (at_word w_unsafe) m) ≡ true → and (no_visibility p) (module_next m) ≡ false →
      Follows refusal view k ts (run_plan (function_turn a v) k ts m) x new → Follows refusal view k ts run x new
  function_follows refusal view x new b i f = subst (λ (o : Out). Follows refusal view k ts o x new) (sym (function_goes b i)) f
