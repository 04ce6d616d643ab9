-- Traits and trait aliases, by their plans.
use Rattle.std.proofs.Common.{◌≡◌, true, false, [], ◌∷◌, Some, None, refl, sym, ap, subst, ◌∙◌}
use Rattle.syn_grammar.specs.Words.{colon, equals, semicolon, w_auto, w_trait}
use Rattle.syn_grammar.specs.Tokens.{Brace, Stream}
use Rattle.syn_grammar.specs.Rules.{Rule, alias_bounds, generics, inner_attributes, supertraits, trait_alias, trait_definition, trait_items, where_clause}
use Rattle.syn_grammar.specs.Grammar.{Grammar, Syntax, Both, Right, Node, Case, Nothing, ◌&◌, inside, name, rule, vanishing, word}
use Rattle.syn_grammar.specs.Forms.{plainly, punctuation}
use Rattle.syn_grammar.specs.Table.{at_colon, at_equals, optional_item_word}
use Rattle.syn_grammar.specs.Take.{Out, sees}
use Rattle.syn_grammar.specs.Run.{parse_form, wrap}
use Rattle.syn_grammar.specs.Plan.{Plan, ends, follow, run_plan}
use Rattle.syn_grammar.specs.ItemPlan.{absent, const_trait_or_alias, kept_end, trait_end, trait_or_alias, trait_plan}
use Rattle.syn_grammar.proofs.PlanSteps.{Event, happened, left_over, marked, took, went}
use Rattle.syn_lower.specs.Parts.{first, second}
use Rattle.syn_item.specs.Planned.{OnlyKept}
use Rattle.syn_item.proofs.Followed.{is_kept}
use Rattle.syn_item.proofs.ItemKinds.{trait_end_goes, trait_goes}
use Rattle.syn_item.proofs.PlanRows.{row_is, row_read, row_refused}

abbrev ending_form : Grammar
ending_form = vanishing false at_colon (punctuation colon & rule supertraits) & rule where_clause & inside Brace (rule inner_attributes & rule trait_items)

abbrev alias_form : Grammar
alias_form = punctuation equals & rule alias_bounds & rule where_clause & punctuation semicolon

module _ (k : Rule) (ts : Stream) (a v c u : Syntax) (m : Stream) where
  abbrev whole_trait : Out
  whole_trait = wrap (λ s. Both a (Node (Both v (Both c (Node (Both u s)))))) (parse_form (optional_item_word w_auto & plainly (word w_trait) & plainly name & rule generics & ending_form) m)

  pub trait_read : (t : Syntax) (r : Stream) → whole_trait ≡ Some (t, r) → run_plan (trait_plan a v c u) k ts m ≡ Some (Node (Case trait_definition t), r)
  trait_read t r e = trait_goes k ts a v m c u ∙ ap (wrap (λ t. Node (Case trait_definition t))) e

  pub trait_refused : whole_trait ≡ None → run_plan (trait_plan a v c u) k ts m ≡ None
  trait_refused e = trait_goes k ts a v m c u ∙ ap (wrap (λ t. Node (Case trait_definition t))) e

-- A TRAIT OR AN ALIAS, from `trait` on

abbrev named_form : Grammar
named_form = plainly (word w_trait) & plainly name & rule generics

module _ (k : Rule) (ts : Stream) (a v : Syntax) (m : Stream) where
  abbrev after_name : Syntax → Plan
  after_name h = left_over (took (first h) m ∷ took (first (second h)) m ∷ took (second (second h)) m ∷ []) (trait_or_alias a v)

  pub head_refused : parse_form named_form m ≡ None → run_plan (trait_or_alias a v) k ts m ≡ None
  unfolding trait_or_alias
  head_refused e = row_refused k ts (plainly (word w_trait)) (plainly name ∷ rule generics ∷ []) after_name m e

  module _ (w n g : Syntax) (q : Stream) (head : parse_form named_form m ≡ Some (Both w (Both n g), q)) where
    abbrev run : Out
    run = run_plan (trait_or_alias a v) k ts m

    past_name : run ≡ run_plan (after_name (Both w (Both n g))) k ts q
    unfolding trait_or_alias
    past_name = row_read k ts (plainly (word w_trait)) (plainly name ∷ rule generics ∷ []) after_name m (Both w (Both n g)) q head

    abbrev alias_out : Out
    alias_out = wrap (λ s. Both a (Node (Both v (Node (Both w (Both n (Both g s))))))) (parse_form alias_form q)

    aliases : (o : Out) → follow (λ s r. Some (Node (Case trait_alias (Both a (Node (Both v (Node (Both w (Both n (Both g s)))))))), r)) o ≡ wrap (λ t. Node (Case trait_alias t)) (wrap (λ s. Both a (Node (Both v (Node (Both w (Both n (Both g s))))))) o)
    aliases None = refl
    aliases (Some p) = refl

    alias_goes : sees at_equals q ≡ true → run ≡ wrap (λ t. Node (Case trait_alias t)) alias_out
    unfolding trait_or_alias
    alias_goes h =
        past_name
        ∙ happened k ts (went true ∷ []) (after_name (Both w (Both n g))) q (h, tt)
        ∙ row_is k ts (punctuation equals) (rule alias_bounds ∷ rule where_clause ∷ punctuation semicolon ∷ []) (λ s. ends (Node (Case trait_alias (Both a (Node (Both v (Node (Both w (Both n (Both g s)))))))))) q
        ∙ aliases (parse_form alias_form q)

    pub alias_read : sees at_equals q ≡ true → (t : Syntax) (r : Stream) → alias_out ≡ Some (t, r) → run ≡ Some (Node (Case trait_alias t), r)
    alias_read h t r e = alias_goes h ∙ ap (wrap (λ t. Node (Case trait_alias t))) e

    pub alias_refused : sees at_equals q ≡ true → alias_out ≡ None → run ≡ None
    alias_refused h e = alias_goes h ∙ ap (wrap (λ t. Node (Case trait_alias t))) e

    abbrev trait_out : Out
    trait_out = wrap (λ s. Both a (Node (Both v (Both (Right Nothing) (Node (Both (Right Nothing) (Both (Right Nothing) (Both w (Both n (Both g s)))))))))) (parse_form ending_form q)

    ending_goes : sees at_equals q ≡ false → run ≡ wrap (λ t. Node (Case trait_definition t)) trait_out
    unfolding trait_or_alias
    ending_goes h =
        past_name
        ∙ happened k ts (went false ∷ []) (after_name (Both w (Both n g))) q (h, tt)
        ∙ trait_end_goes k ts a v q absent absent absent w n g

    pub named_read : sees at_equals q ≡ false → (t : Syntax) (r : Stream) → trait_out ≡ Some (t, r) → run ≡ Some (Node (Case trait_definition t), r)
    named_read h t r e = ending_goes h ∙ ap (wrap (λ t. Node (Case trait_definition t))) e

    pub named_refused : sees at_equals q ≡ false → trait_out ≡ None → run ≡ None
    named_refused h e = ending_goes h ∙ ap (wrap (λ t. Node (Case trait_definition t))) e

-- AFTER `const` an alias is kept verbatim

module _ (k : Rule) (ts : Stream) (a v c : Syntax) (m : Stream) where
  abbrev after_const_name : Syntax → Plan
  after_const_name h = left_over (took (first h) m ∷ took (first (second h)) m ∷ took (second (second h)) m ∷ []) (const_trait_or_alias a v c)

  pub const_head_refused : parse_form named_form m ≡ None → run_plan (const_trait_or_alias a v c) k ts m ≡ None
  unfolding const_trait_or_alias
  const_head_refused e = row_refused k ts (plainly (word w_trait)) (plainly name ∷ rule generics ∷ []) after_const_name m e

  module _ (w n g : Syntax) (q : Stream) (head : parse_form named_form m ≡ Some (Both w (Both n g), q)) where
    abbrev const_run : Out
    const_run = run_plan (const_trait_or_alias a v c) k ts m

    past_const_name : const_run ≡ run_plan (after_const_name (Both w (Both n g))) k ts q
    unfolding const_trait_or_alias
    past_const_name = row_read k ts (plainly (word w_trait)) (plainly name ∷ rule generics ∷ []) after_const_name m (Both w (Both n g)) q head

    pub alias_kept : sees at_equals q ≡ true → OnlyKept k ts const_run
    unfolding const_trait_or_alias kept_end
    alias_kept h = subst (OnlyKept k ts) (sym past_const_name) (is_kept k ts (went true ∷ marked ∷ []) (after_const_name (Both w (Both n g))) q (h, tt) (λ e. λ b. λ x. λ z. refl))

    abbrev const_out : Out
    const_out = wrap (λ s. Both a (Node (Both v (Both c (Node (Both (Right Nothing) (Both (Right Nothing) (Both w (Both n (Both g s)))))))))) (parse_form ending_form q)

    const_goes : sees at_equals q ≡ false → const_run ≡ wrap (λ t. Node (Case trait_definition t)) const_out
    unfolding const_trait_or_alias
    const_goes h =
        past_const_name
        ∙ happened k ts (went false ∷ []) (after_const_name (Both w (Both n g))) q (h, tt)
        ∙ trait_end_goes k ts a v q c absent absent w n g

    pub const_read : sees at_equals q ≡ false → (t : Syntax) (r : Stream) → const_out ≡ Some (t, r) → const_run ≡ Some (Node (Case trait_definition t), r)
    const_read h t r e = const_goes h ∙ ap (wrap (λ t. Node (Case trait_definition t))) e

    pub const_refused : sees at_equals q ≡ false → const_out ≡ None → const_run ≡ None
    const_refused h e = const_goes h ∙ ap (wrap (λ t. Node (Case trait_definition t))) e
