-- The plan of foreign members, after their visibility.
use Rattle.std.proofs.Common.{◌≡◌, Bool, true, false, List, [], ◌∷◌, Some, None, refl, sym, ap, subst, ◌∙◌, true≢false}
use Rattle.syn_grammar.specs.Words.{colon, equals, semicolon, w_mut, w_static, w_type, w_where}
use Rattle.syn_grammar.specs.Tokens.{Stream, at_word}
use Rattle.syn_grammar.specs.Rules.{Rule, bare_foreign_static, foreign_function, foreign_signature, foreign_static, foreign_type, generics, predicates, safe_or_unsafe, type, where_clause, whole_expression}
use Rattle.syn_grammar.specs.Grammar.{Syntax, Nothing, Both, Right, Node, Vanishing, Case, Unshown, ◌&◌, name, rule, word}
use Rattle.syn_grammar.specs.Forms.{optional, plainly, punctuation}
use Rattle.syn_grammar.specs.Table.{at_colon, at_semicolon, at_where}
use Rattle.syn_grammar.specs.Take.{Out, sees}
use Rattle.syn_grammar.specs.Run.{branch, parse_form, parse_rule, vanish, wrap}
use Rattle.syn_grammar.specs.Plan.{Plan, ends, keeps, reads, turns, follow, run_plan}
use Rattle.syn_grammar.specs.ItemPlan.{kept_end}
use Rattle.syn_grammar.specs.MemberPlans.{foreign_function_end, foreign_static_plan, foreign_type_plan, no_clause}
use Rattle.syn_grammar.proofs.Each.{bare_foreign_static_is, where_clause_is}
use Rattle.syn_grammar.proofs.PlanSteps.{Event, happened, left_over, marked, took, went}
use Rattle.syn_lower.specs.Parts.{first, second}
use Rattle.syn_item.specs.ForeignForms.{foreign_function_of}
use Rattle.syn_item.specs.Planned.{OnlyKept}
use Rattle.syn_item.specs.Stages.{foreign_function_or_kept, foreign_static_or_kept, foreign_type_or_kept}
use Rattle.syn_item.proofs.Followed.{is_kept, is_refused}
use Rattle.syn_item.proofs.PlanRows.{on, row_is, row_read, row_refused}

-- A FUNCTION: with a body it is kept verbatim
module _ (k : Rule) (ts : Stream) (a v : Syntax) (m : Stream) where
  abbrev function_run : Out
  function_run = run_plan (foreign_function_or_kept a v) k ts m

  pub function_refused : parse_rule foreign_signature m ≡ None → function_run ≡ None
  unfolding foreign_function_or_kept
  function_refused e = ap (on k ts (foreign_function_end a v)) e

  module _ (s : Syntax) (r : Stream) (sig : parse_rule foreign_signature m ≡ Some (s, r)) where
    pub function_kept : sees at_semicolon r ≡ false → OnlyKept k ts function_run
    unfolding foreign_function_or_kept foreign_function_end
    function_kept h = is_kept k ts (took s r ∷ went false ∷ marked ∷ []) (foreign_function_or_kept a v) m (sig, (h, tt)) (λ b. refl)

    function_goes : sees at_semicolon r ≡ true → function_run ≡ wrap (λ t. Node (Case foreign_function t)) (wrap (foreign_function_of a v s) (parse_form (punctuation semicolon) r))
    unfolding foreign_function_or_kept foreign_function_end
    function_goes h = happened k ts (took s r ∷ went true ∷ []) (foreign_function_or_kept a v) m (sig, (h, tt)) ∙ go (parse_form (punctuation semicolon) r)
      where
        go : (o : Out) → follow (λ z q. Some (Node (Case foreign_function (foreign_function_of a v s z)), q)) o ≡ wrap (λ t. Node (Case foreign_function t)) (wrap (foreign_function_of a v s) o)
        go None = refl
        go (Some p) = refl

    pub function_end_refused : sees at_semicolon r ≡ true → wrap (foreign_function_of a v s) (parse_form (punctuation semicolon) r) ≡ None → function_run ≡ None
    function_end_refused h e = function_goes h ∙ ap (wrap (λ t. Node (Case foreign_function t))) e

    pub function_read : sees at_semicolon r ≡ true → (t : Syntax) (q : Stream) → wrap (foreign_function_of a v s) (parse_form (punctuation semicolon) r) ≡ Some (t, q) → function_run ≡ Some (Node (Case foreign_function t), q)
    function_read h t q e = function_goes h ∙ ap (wrap (λ t. Node (Case foreign_function t))) e

-- A STATIC: with a value it is kept verbatim
module _ (k : Rule) (ts : Stream) (a v : Syntax) (m : Stream) where
  abbrev static_run : Out
  static_run = run_plan (foreign_static_or_kept a v) k ts m

  abbrev static_end : Syntax → Plan
  static_end x = turns at_semicolon (reads (punctuation semicolon) λ z. ends (Node (Case foreign_static (Both a (Both v (Both x z)))))) (keeps (reads (punctuation equals) λ q. reads (rule whole_expression) λ e. kept_end))

  static_goes : static_run ≡ on k ts static_end (parse_rule bare_foreign_static m)
  unfolding foreign_static_plan foreign_static_or_kept
  static_goes =
      row_is k ts (rule safe_or_unsafe) (plainly (word w_static) ∷ optional w_mut ∷ plainly name ∷ punctuation colon ∷ rule type ∷ []) (λ s. static_end (Node s)) m
      ∙ go (parse_form (rule safe_or_unsafe & plainly (word w_static) & optional w_mut & plainly name & punctuation colon & rule type) m)
      ∙ sym (ap (on k ts static_end) (bare_foreign_static_is m))
    where
      go : (o : Out) → on k ts (λ s. static_end (Node s)) o ≡ on k ts static_end (wrap Node o)
      go None = refl
      go (Some p) = refl

  pub static_refused : parse_rule bare_foreign_static m ≡ None → static_run ≡ None
  static_refused e = static_goes ∙ ap (on k ts static_end) e

  module _ (x : Syntax) (r : Stream) (bare : parse_rule bare_foreign_static m ≡ Some (x, r)) where
    after_static : static_run ≡ run_plan (static_end x) k ts r
    after_static = static_goes ∙ ap (on k ts static_end) bare

    pub static_kept : sees at_semicolon r ≡ false → OnlyKept k ts static_run
    unfolding kept_end
    static_kept h = subst (OnlyKept k ts) (sym after_static) (is_kept k ts (went false ∷ marked ∷ []) (static_end x) r (h, tt) (λ q. λ e. λ z. refl))

    pub static_read : sees at_semicolon r ≡ true → (z : Syntax) (q : Stream) → parse_form (punctuation semicolon) r ≡ Some (z, q) → static_run ≡ Some (Node (Case foreign_static (Both a (Both v (Both x z)))), q)
    static_read h z q e = after_static ∙ happened k ts (went true ∷ took z q ∷ []) (static_end x) r (h, (e, tt))

    pub static_end_refused : sees at_semicolon r ≡ true → parse_form (punctuation semicolon) r ≡ None → static_run ≡ None
    static_end_refused h e = after_static ∙ is_refused k ts (went true ∷ []) (static_end x) r (h, tt) e

-- NO WHERE CLAUSE is read if there is none
pub no_clause_read : (ts : Stream) → sees at_where ts ≡ false → parse_rule where_clause ts ≡ Some (no_clause, ts)
no_clause_read ts h = where_clause_is ts ∙ ap (λ b. wrap Node (vanish false (branch b (parse_form (plainly (word w_where) & rule predicates) ts) (Some (Nothing, ts))))) h

-- A TYPE: with a colon or with `=` it is kept verbatim
module _ (k : Rule) (ts : Stream) (a v : Syntax) (m : Stream) where
  abbrev typed : Out
  typed = run_plan (foreign_type_or_kept a v) k ts m

  abbrev after_head : Syntax → Plan
  after_head h = left_over (took (first h) m ∷ took (first (second h)) m ∷ took (second (second h)) m ∷ []) (foreign_type_or_kept a v)

  pub head_refused : parse_form (plainly (word w_type) & plainly name & rule generics) m ≡ None → typed ≡ None
  unfolding foreign_type_plan
  head_refused e = row_refused k ts (plainly (word w_type)) (plainly name ∷ rule generics ∷ []) after_head m e

  module _ (t n g : Syntax) (q : Stream) (head : parse_form (plainly (word w_type) & plainly name & rule generics) m ≡ Some (Both t (Both n g), q)) where
    past_head : typed ≡ run_plan (after_head (Both t (Both n g))) k ts q
    unfolding foreign_type_plan
    past_head = row_read k ts (plainly (word w_type)) (plainly name ∷ rule generics ∷ []) after_head m (Both t (Both n g)) q head

    pub bounds_kept : sees at_colon q ≡ true → OnlyKept k ts typed
    unfolding foreign_type_plan kept_end
    bounds_kept h = subst (OnlyKept k ts) (sym past_head) (is_kept k ts (went true ∷ marked ∷ []) (after_head (Both t (Both n g))) q (h, tt) (λ c. λ b. λ o. λ z. refl))

    module _ (no_colon : sees at_colon q ≡ false) where
      pub clause_refused : parse_rule where_clause q ≡ None → typed ≡ None
      unfolding foreign_type_plan
      clause_refused e = go (sees at_where q) refl
        where
          go : (b : Bool) → sees at_where q ≡ b → run_plan (foreign_type_or_kept a v) k ts m ≡ None
          go true h = past_head ∙ is_refused k ts (went false ∷ went true ∷ []) (after_head (Both t (Both n g))) q (no_colon, (h, tt)) e
          go false h = absurd (cc (sym e ∙ no_clause_read q h))

      module _ (w : Syntax) (r : Stream) (clause : parse_rule where_clause q ≡ Some (w, r)) where
        none_is : sees at_where q ≡ false → ◌≡◌ {A = Out} (Some (w, r)) (Some (no_clause, q))
        none_is h = sym clause ∙ no_clause_read q h

        rest_is : sees at_where q ≡ false → q ≡ r
        rest_is h = let i : ◌≡◌ {A = Syntax × Stream} (w, r) (no_clause, q) = cc (none_is h) in sym (ap (λ (y : Syntax × Stream). y.1) i)

        value_is : sees at_where q ≡ false → no_clause ≡ w
        value_is h = let i : ◌≡◌ {A = Syntax × Stream} (w, r) (no_clause, q) = cc (none_is h) in sym (ap (λ (y : Syntax × Stream). y.0) i)

        pub type_kept : sees at_semicolon r ≡ false → OnlyKept k ts typed
        unfolding foreign_type_plan kept_end
        type_kept i = subst (OnlyKept k ts) (sym past_head) (go (sees at_where q) refl)
          where
            go : (b : Bool) → sees at_where q ≡ b → OnlyKept k ts (run_plan (after_head (Both t (Both n g))) k ts q)
            go true h = is_kept k ts (went false ∷ went true ∷ took w r ∷ went false ∷ marked ∷ []) (after_head (Both t (Both n g))) q (no_colon, (h, (clause, (i, tt)))) (λ x. λ y. λ z. refl)
            go false h = is_kept k ts (went false ∷ went false ∷ went false ∷ marked ∷ []) (after_head (Both t (Both n g))) q (no_colon, (h, (ap (sees at_semicolon) (rest_is h) ∙ i, tt))) (λ x. λ y. λ c. λ z. refl)

        pub type_end_refused : sees at_semicolon r ≡ true → parse_form (punctuation semicolon) r ≡ None → typed ≡ None
        unfolding foreign_type_plan
        type_end_refused i e = past_head ∙ go (sees at_where q) refl
          where
            go : (b : Bool) → sees at_where q ≡ b → run_plan (after_head (Both t (Both n g))) k ts q ≡ None
            go true h = is_refused k ts (went false ∷ went true ∷ took w r ∷ went true ∷ []) (after_head (Both t (Both n g))) q (no_colon, (h, (clause, (i, tt)))) e
            go false h = is_refused k ts (went false ∷ went false ∷ went true ∷ []) (after_head (Both t (Both n g))) q (no_colon, (h, (ap (sees at_semicolon) (rest_is h) ∙ i, tt))) (ap (parse_form (punctuation semicolon)) (rest_is h) ∙ e)

        pub type_read : sees at_semicolon r ≡ true → (z : Syntax) (p : Stream) → parse_form (punctuation semicolon) r ≡ Some (z, p) →
            typed ≡ Some (Node (Case foreign_type (Both a (Both v (Both (Unshown Nothing) (Both t (Both n (Both g (Both w z)))))))), p)
        unfolding foreign_type_plan
        type_read i z p e = past_head ∙ go (sees at_where q) refl
          where
            go : (b : Bool) → sees at_where q ≡ b → run_plan (after_head (Both t (Both n g))) k ts q ≡ Some (Node (Case foreign_type (Both a (Both v (Both (Unshown Nothing) (Both t (Both n (Both g (Both w z)))))))), p)
            go true h = happened k ts (went false ∷ went true ∷ took w r ∷ went true ∷ took z p ∷ []) (after_head (Both t (Both n g))) q (no_colon, (h, (clause, (i, (e, tt)))))
            go false h =
                happened k ts (went false ∷ went false ∷ went true ∷ took z p ∷ []) (after_head (Both t (Both n g))) q (no_colon, (h, (ap (sees at_semicolon) (rest_is h) ∙ i, (ap (parse_form (punctuation semicolon)) (rest_is h) ∙ e, tt))))
                ∙ ap (λ (x : Syntax). Some (Node (Case foreign_type (Both a (Both v (Both (Unshown Nothing) (Both t (Both n (Both g (Both x z)))))))), p)) (value_is h)
