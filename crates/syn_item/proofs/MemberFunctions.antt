-- Functions, as plans read them: after `const` a signature continues; a trait's function ends with `;` or a body.
use Rattle.std.proofs.Common.{◌≡◌, Bool, true, false, [], ◌∷◌, Some, None, refl, sym, ap, ◌∙◌}
use Rattle.syn_grammar.specs.Words.{Text, w_async, w_const, semicolon}
use Rattle.syn_grammar.specs.Tokens.{Stream, at_word}
use Rattle.syn_grammar.specs.Rules.{Rule, abi, bare_trait_function, body, signature, signature_rest, trait_function, unsafe_only}
use Rattle.syn_grammar.specs.Grammar.{Grammar, Syntax, Nothing, Both, Left, Right, Node, Case, Unshown, empty, ◌&◌, rule, unshown, when◌then◌else◌, word}
use Rattle.syn_grammar.specs.Forms.{plainly, punctuation}
use Rattle.syn_grammar.specs.Table.{at_extern, at_semicolon, optional_item_word}
use Rattle.syn_grammar.specs.Take.{Out, Parser, sees, take_mark, take_token}
use Rattle.syn_grammar.specs.Run.{and_then, branch, parse_form, parse_rule, wrap}
use Rattle.syn_grammar.specs.Plan.{Plan, reads, turns, ends, by_test, follow, run_plan}
use Rattle.syn_grammar.specs.ItemPlan.{hidden, item_of, parts}
use Rattle.syn_grammar.specs.MemberPlans.{at_function, function_after_const, trait_function_end}
use Rattle.syn_grammar.proofs.Each.{bare_trait_function_is, signature_is}
use Rattle.syn_grammar.proofs.Takes.{token_known}
use Rattle.syn_parse.specs.Peeks.{past}

-- the tokens after a word that was read
pub past_word : (w : Text) (ts : Stream) (p : Syntax × Stream) → take_token (word w) ts ≡ Some p → past ts ≡ p.1
past_word w ts p e =
    let (y, sp, a, b, c) = token_known (word w) ts p e in
    ap past c

abbrev abi_form : Grammar
abi_form = when at_extern then rule abi else empty

abbrev after_const_form : Grammar
after_const_form = optional_item_word w_async & rule unsafe_only & abi_form & rule signature_rest

module _ (k : Rule) (ts : Stream) (f : Syntax → Plan) where
  -- what follows a signature that was read
  abbrev on : Out → Out
  on o = follow (λ s r. run_plan (f s) k ts r) o

  module _ (c : Syntax) where
    abbrev whole : Out → Out
    whole o = on (wrap Node (wrap (Both c) o))

    abbrev by_rest : Syntax → Syntax → Syntax → Out → Out
    by_rest y u e o = follow (λ s r. run_plan (f (Node (parts (c ∷ y ∷ u ∷ e ∷ s ∷ [])))) k ts r) o

    abbrev by_abi : Syntax → Syntax → Out → Out
    by_abi y u o = follow (λ e n. by_rest y u e (parse_rule signature_rest n)) o

    abbrev by_unsafe : Syntax → Out → Out
    by_unsafe y o = follow (λ u n. by_abi y u (parse_form abi_form n)) o

    abbrev by_async : Out → Out
    by_async o = follow (λ y n. by_unsafe y (parse_rule unsafe_only n)) o

    rest_goes : (y u e : Syntax) (o : Out) → by_rest y u e o ≡ whole (wrap (Both y) (wrap (Both u) (wrap (Both e) o)))
    rest_goes y u e None = refl
    rest_goes y u e (Some p) = refl

    abi_goes : (y u : Syntax) (o : Out) → by_abi y u o ≡ whole (wrap (Both y) (wrap (Both u) (and_then o (parse_rule signature_rest))))
    abi_goes y u None = refl
    abi_goes y u (Some p) = rest_goes y u p.0 (parse_rule signature_rest p.1)

    unsafe_goes : (y : Syntax) (o : Out) → by_unsafe y o ≡ whole (wrap (Both y) (and_then o (parse_form (abi_form & rule signature_rest))))
    unsafe_goes y None = refl
    unsafe_goes y (Some p) = abi_goes y p.0 (parse_form abi_form p.1)

    async_goes : (o : Out) → by_async o ≡ whole (and_then o (parse_form (rule unsafe_only & abi_form & rule signature_rest)))
    async_goes None = refl
    async_goes (Some p) = unsafe_goes p.0 (parse_rule unsafe_only p.1)

    pub after_const : (m : Stream) → run_plan (function_after_const f c) k ts m ≡ whole (parse_form after_const_form m)
    unfolding function_after_const
    after_const m = async_goes (parse_form (optional_item_word w_async) m)

  -- `const` is next: by what follows it, a signature or something else
  const_read : (o : Out) → on (wrap Node (and_then (wrap Left o) (parse_form after_const_form))) ≡ follow (λ c r. on (wrap Node (wrap (Both (Left c)) (parse_form after_const_form r)))) o
  const_read None = refl
  const_read (Some p) = refl

  pub signature_goes : (m : Stream) → sees (at_word w_const) m ≡ true → on (parse_rule signature m) ≡ follow (λ c r. run_plan (function_after_const f (Left c)) k ts r) (take_token (word w_const) m)
  signature_goes m h =
      ap on (signature_is m ∙ ap (λ b. wrap Node (and_then (branch b (take_token (word w_const) m) (Some (Nothing, m))) (parse_form after_const_form))) h)
      ∙ const_read (take_token (word w_const) m)
      ∙ each (take_token (word w_const) m)
    where
      each : (o : Out) → follow (λ c r. on (wrap Node (wrap (Both (Left c)) (parse_form after_const_form r)))) o ≡ follow (λ c r. run_plan (function_after_const f (Left c)) k ts r) o
      each None = refl
      each (Some p) = sym (after_const (Left p.0) p.1)

  module _ (g : Syntax → Plan) where
    abbrev split : Out → Out
    split o = follow (λ c r. by_test (sees at_function r) (run_plan (function_after_const f (Left c)) k ts r) (run_plan (g c) k ts r)) o

    pub function_on : (m : Stream) → sees (at_word w_const) m ≡ true → sees at_function (past m) ≡ true →
        run_plan (reads (plainly (word w_const)) λ c. turns at_function (function_after_const f (Left c)) (g c)) k ts m ≡ on (parse_rule signature m)
    function_on m h i = go (take_token (word w_const) m) refl ∙ sym (signature_goes m h)
      where
        go : (o : Out) → take_token (word w_const) m ≡ o → split o ≡ follow (λ c r. run_plan (function_after_const f (Left c)) k ts r) o
        go None e = refl
        go (Some p) e = ap (λ b. by_test b (run_plan (function_after_const f (Left p.0)) k ts p.1) (run_plan (g p.0) k ts p.1)) (ap (sees at_function) (sym (past_word w_const m p e)) ∙ i)

    pub other_on : (m : Stream) → sees at_function (past m) ≡ false →
        run_plan (reads (plainly (word w_const)) λ c. turns at_function (function_after_const f (Left c)) (g c)) k ts m ≡ run_plan (reads (plainly (word w_const)) g) k ts m
    other_on m i = go (take_token (word w_const) m) refl
      where
        go : (o : Out) → take_token (word w_const) m ≡ o → split o ≡ follow (λ c r. run_plan (g c) k ts r) o
        go None e = refl
        go (Some p) e = ap (λ b. by_test b (run_plan (function_after_const f (Left p.0)) k ts p.1) (run_plan (g p.0) k ts p.1)) (ap (sees at_function) (sym (past_word w_const m p e)) ∙ i)

-- A FUNCTION OF A TRAIT, after its attributes

module _ (k : Rule) (ts : Stream) (a : Syntax) where
  abbrev of_function : Out → Out
  of_function o = wrap (λ s. Node (Case trait_function s)) (wrap (Both a) o)

  abbrev end_form : Grammar
  end_form = when at_semicolon then punctuation semicolon else unshown & rule body

  abbrev after_signature : Syntax → Out → Out
  after_signature s o = of_function (wrap Node (wrap (Both (Unshown Nothing)) (wrap (Both s) o)))

  by_semicolon : (s : Syntax) (o : Out) → follow (λ z r. Some (item_of trait_function a (parts (hidden ∷ s ∷ Left z ∷ [])), r)) o ≡ after_signature s (wrap Left o)
  by_semicolon s None = refl
  by_semicolon s (Some p) = refl

  by_body : (s : Syntax) (o : Out) → follow (λ b r. Some (item_of trait_function a (parts (hidden ∷ s ∷ Right (Both hidden b) ∷ [])), r)) o ≡ after_signature s (wrap Right (wrap (Both (Unshown Nothing)) o))
  by_body s None = refl
  by_body s (Some p) = refl

  end_is : (s : Syntax) (r : Stream) → run_plan (trait_function_end a s) k ts r ≡ after_signature s (parse_form end_form r)
  unfolding trait_function_end
  end_is s r = go (sees at_semicolon r)
    where
      go : (b : Bool) →
          by_test b (follow (λ z r. Some (item_of trait_function a (parts (hidden ∷ s ∷ Left z ∷ [])), r)) (take_mark semicolon r)) (follow (λ b r. Some (item_of trait_function a (parts (hidden ∷ s ∷ Right (Both hidden b) ∷ [])), r)) (parse_rule body r))
          ≡ after_signature s (branch b (take_mark semicolon r) (wrap (Both (Unshown Nothing)) (parse_rule body r)))
      go true = by_semicolon s (take_mark semicolon r)
      go false = by_body s (parse_rule body r)

  pub trait_function_goes : (m : Stream) → follow (λ s r. run_plan (trait_function_end a s) k ts r) (parse_rule signature m) ≡ of_function (parse_rule bare_trait_function m)
  trait_function_goes m = go (parse_rule signature m) ∙ sym (ap of_function (bare_trait_function_is m))
    where
      go : (o : Out) → follow (λ s r. run_plan (trait_function_end a s) k ts r) o ≡ of_function (wrap Node (wrap (Both (Unshown Nothing)) (and_then o (parse_form end_form))))
      go None = refl
      go (Some p) = end_is p.0 p.1
