-- Type aliases, by the plan of items: followed by a colon generics, or without `=`, they are kept verbatim.
use Rattle.std.proofs.Common.{◌≡◌, Bool, true, false, [], ◌∷◌, Some, None, refl, sym, ap, subst, ◌∙◌}
use Rattle.syn_grammar.specs.Words.{equals, semicolon, w_type}
use Rattle.syn_grammar.specs.Tokens.{Stream}
use Rattle.syn_grammar.specs.Rules.{Rule, generics, type, type_item, where_clause}
use Rattle.syn_grammar.specs.Grammar.{Syntax, Nothing, Both, Node, Case, Such, Unshown, ◌&◌, holds, name, one_where, rule, word}
use Rattle.syn_grammar.specs.Forms.{plainly, punctuation}
use Rattle.syn_grammar.specs.Table.{at_colon}
use Rattle.syn_grammar.specs.Take.{Out, only, sees, take_mark}
use Rattle.syn_grammar.specs.Run.{and_then, parse_form, parse_rule, such_as, wrap}
use Rattle.syn_grammar.specs.Plan.{Plan, by_test, ends, fails, follow, reads, tests, run_plan}
use Rattle.syn_grammar.specs.ItemPlan.{kept_end, type_plan}
use Rattle.syn_grammar.proofs.PlanSteps.{Event, happened, left_over, marked, took, went}
use Rattle.syn_item.specs.ImplForms.{type_head_form}
use Rattle.syn_item.specs.ItemForms.{alias_end_form, alias_syntax, aliased_form}
use Rattle.syn_item.specs.NextWords.{equals_ahead}
use Rattle.syn_item.specs.Planned.{OnlyKept}
use Rattle.syn_item.proofs.Followed.{is_kept}
use Rattle.syn_item.proofs.PlanRows.{on, row_is, row_read, row_refused}

abbrev left_part : Syntax → Syntax
left_part (Both s t) = s
left_part s = s

abbrev right_part : Syntax → Syntax
right_part (Both s t) = t
right_part s = s

module _ (k : Rule) (ts : Stream) (a v : Syntax) (m : Stream) where
  abbrev run : Out
  run = run_plan (type_plan a v) k ts m

  abbrev after_head : Syntax → Plan
  after_head h = left_over (took (left_part h) m ∷ took (left_part (right_part h)) m ∷ took (right_part (right_part h)) m ∷ []) (type_plan a v)

  pub head_refused : parse_form type_head_form m ≡ None → run ≡ None
  unfolding type_plan
  head_refused e = row_refused k ts (plainly (word w_type)) (plainly name ∷ rule generics ∷ []) after_head m e

  module _ (t n g : Syntax) (q : Stream) (head : parse_form type_head_form m ≡ Some (Both t (Both n g), q)) where
    abbrev of_type : Plan
    of_type = after_head (Both t (Both n g))

    past_head : run ≡ run_plan of_type k ts q
    unfolding type_plan
    past_head = row_read k ts (plainly (word w_type)) (plainly name ∷ rule generics ∷ []) after_head m (Both t (Both n g)) q head

    pub colon_kept : sees at_colon q ≡ true → OnlyKept k ts run
    unfolding type_plan kept_end
    colon_kept h = subst (OnlyKept k ts) (sym past_head) (is_kept k ts (went true ∷ marked ∷ []) of_type q (h, tt) (λ c. λ b. λ o. λ z. refl))

    module _ (no_colon : sees at_colon q ≡ false) where
      pub no_alias_kept : equals_ahead (parse_rule where_clause q) ≡ false → OnlyKept k ts run
      unfolding type_plan kept_end
      no_alias_kept h = subst (OnlyKept k ts) (sym past_head) (go (parse_rule where_clause q) refl h)
        where
          go : (o : Out) → parse_rule where_clause q ≡ o → equals_ahead o ≡ false → OnlyKept k ts (run_plan of_type k ts q)
          go None e i = absurd (cc i)
          go (Some p) e i = is_kept k ts (went false ∷ took p.0 p.1 ∷ went false ∷ marked ∷ []) of_type q (no_colon, (e, (i, tt))) (λ z. refl)

      -- `=`, the type and both clauses are read as one
      abbrev rest : Syntax → Plan
      rest s = reads (punctuation semicolon) λ z. ends (Node (Case type_item (alias_syntax a v t n g (Both s z))))

      abbrev tested : Syntax → Syntax → Plan
      tested w s = tests one_where (Both w s) (rest (Such (Both w s))) fails

      by_clauses : (w : Syntax) (o : Out) → on k ts (tested w) o ≡ on k ts rest (such_as one_where (wrap (Both w) o))
      by_clauses w None = refl
      by_clauses w (Some p) = go (holds one_where (Both w p.0))
        where
          go : (b : Bool) → by_test b (run_plan (rest (Such (Both w p.0))) k ts p.1) None ≡ on k ts rest (only b (Some (Such (Both w p.0), p.1)))
          go true = refl
          go false = refl

      alias_goes : equals_ahead (parse_rule where_clause q) ≡ true → run ≡ on k ts rest (parse_form aliased_form q)
      unfolding type_plan
      alias_goes h = past_head ∙ go (parse_rule where_clause q) refl h
        where
          go : (o : Out) → parse_rule where_clause q ≡ o → equals_ahead o ≡ true → run_plan of_type k ts q ≡ on k ts rest (parse_form aliased_form q)
          go None e i =
              happened k ts (went false ∷ []) of_type q (no_colon, tt)
              ∙ ap (λ o. follow (λ s r. run_plan (left_over (went false ∷ took s r ∷ []) of_type) k ts r) o) e
              ∙ sym (ap (λ o. on k ts rest (such_as one_where (and_then o (parse_form (punctuation equals & rule type & rule where_clause))))) e)
          go (Some p) e i =
              happened k ts (went false ∷ took p.0 p.1 ∷ went true ∷ []) of_type q (no_colon, (e, (i, tt)))
              ∙ row_is k ts (punctuation equals) (rule type ∷ rule where_clause ∷ []) (tested p.0) p.1
              ∙ by_clauses p.0 (parse_form (punctuation equals & rule type & rule where_clause) p.1)
              ∙ sym (ap (λ o. on k ts rest (such_as one_where (and_then o (parse_form (punctuation equals & rule type & rule where_clause))))) e)

      abbrev as_item : Out → Out
      as_item o = wrap (λ s. Node (Case type_item s)) (wrap (alias_syntax a v t n g) o)

      ended : (s : Syntax) (o : Out) → follow (λ z r. Some (Node (Case type_item (alias_syntax a v t n g (Both s z))), r)) o ≡ as_item (wrap (Both s) o)
      ended s None = refl
      ended s (Some p) = refl

      all_ended : (o : Out) → on k ts rest o ≡ as_item (and_then o (parse_form (punctuation semicolon)))
      all_ended None = refl
      all_ended (Some p) = ended p.0 (take_mark semicolon p.1)

      module _ (alias : equals_ahead (parse_rule where_clause q) ≡ true) where
        alias_is : run ≡ as_item (parse_form alias_end_form q)
        alias_is = alias_goes alias ∙ all_ended (parse_form aliased_form q)

        pub alias_refused : wrap (alias_syntax a v t n g) (parse_form alias_end_form q) ≡ None → run ≡ None
        alias_refused e = alias_is ∙ ap (wrap (λ s. Node (Case type_item s))) e

        pub alias_read : (x : Syntax) (r : Stream) → wrap (alias_syntax a v t n g) (parse_form alias_end_form q) ≡ Some (x, r) → run ≡ Some (Node (Case type_item x), r)
        alias_read x r e = alias_is ∙ ap (wrap (λ s. Node (Case type_item s))) e
