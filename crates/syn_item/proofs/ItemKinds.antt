-- The plans of items of a kind of their own, from their first word on: what a form reads there.
use Rattle.std.proofs.Common.{◌≡◌, Bool, true, false, List, [], ◌∷◌, Some, None, refl, sym, ap, ◌∙◌}
use Rattle.syn_grammar.specs.Words.{colon, colons, equals, semicolon, w_auto, w_crate, w_enum, w_mod, w_self, w_static, w_struct, w_trait, w_try, w_type, w_union, w_unsafe, w_use}
use Rattle.syn_grammar.specs.Tokens.{Brace, Stream, at_word}
use Rattle.syn_grammar.specs.Rules.{Rule, enumeration, fields_named, generics, inner_attributes, items, module_item, structure, structure_body, trait_definition, trait_items, supertraits, union_item, variants, where_clause}
use Rattle.syn_grammar.specs.Grammar.{Grammar, Syntax, Nothing, Both, Left, Right, Node, Case, Unshown, ◌&◌, inside, name, name_or, rule, unshown, vanishing, when◌then◌else◌, word}
use Rattle.syn_grammar.specs.Forms.{plainly, punctuation}
use Rattle.syn_grammar.specs.Table.{at_colon, at_semicolon, item_word, optional_item_word}
use Rattle.syn_grammar.specs.Take.{Out, sees, take_mark, take_token}
use Rattle.syn_grammar.specs.Run.{and_then, branch, parse_form, parse_rule, wrap}
use Rattle.syn_grammar.specs.Plan.{Plan, ends, by_test, follow, run_plan}
use Rattle.syn_grammar.specs.ItemPlan.{enum_plan, hidden, module_plan, struct_plan, trait_end, trait_plan, union_plan}
use Rattle.syn_item.proofs.PlanRows.{row_is}

-- an item of this kind, of its attributes, its visibility and what follows it
abbrev pub of_visible : Rule → Syntax → Syntax → Out → Out
of_visible c a v o = wrap (λ t. Node (Case c t)) (wrap (λ s. Both a (Node (Both v s))) o)

visible : (c : Rule) (a v : Syntax) (o : Out) → follow (λ s r. Some (Node (Case c (Both a (Node (Both v s)))), r)) o ≡ of_visible c a v o
visible c a v None = refl
visible c a v (Some p) = refl

module _ (k : Rule) (ts : Stream) (a v : Syntax) (m : Stream) where
  pub struct_goes : run_plan (struct_plan a v) k ts m ≡ of_visible structure a v (parse_form (plainly (word w_struct) & plainly name & rule generics & rule structure_body) m)
  unfolding struct_plan
  struct_goes =
      row_is k ts (plainly (word w_struct)) (plainly name ∷ rule generics ∷ rule structure_body ∷ []) (λ s. ends (Node (Case structure (Both a (Node (Both v s)))))) m
      ∙ visible structure a v (parse_form (plainly (word w_struct) & plainly name & rule generics & rule structure_body) m)

  pub enum_goes : run_plan (enum_plan a v) k ts m ≡ of_visible enumeration a v (parse_form (plainly (word w_enum) & plainly name & rule generics & rule where_clause & inside Brace (rule variants)) m)
  unfolding enum_plan
  enum_goes =
      row_is k ts (plainly (word w_enum)) (plainly name ∷ rule generics ∷ rule where_clause ∷ inside Brace (rule variants) ∷ []) (λ s. ends (Node (Case enumeration (Both a (Node (Both v s)))))) m
      ∙ visible enumeration a v (parse_form (plainly (word w_enum) & plainly name & rule generics & rule where_clause & inside Brace (rule variants)) m)

  pub union_goes : run_plan (union_plan a v) k ts m ≡ of_visible union_item a v (parse_form (plainly (word w_union) & plainly name & rule generics & rule where_clause & rule fields_named) m)
  unfolding union_plan
  union_goes =
      row_is k ts (item_word w_union) (plainly name ∷ rule generics ∷ rule where_clause ∷ rule fields_named ∷ []) (λ s. ends (Node (Case union_item (Both a (Node (Both v s)))))) m
      ∙ visible union_item a v (parse_form (plainly (word w_union) & plainly name & rule generics & rule where_clause & rule fields_named) m)

  -- MODULES, after `unsafe` or without it

  module _ (u : Syntax) where
    abbrev content_form : Grammar
    content_form = when at_semicolon then punctuation semicolon else unshown & inside Brace (rule inner_attributes & rule items)

    abbrev module_form : Grammar
    module_form = plainly (word w_mod) & plainly (name_or (w_try ∷ [])) & content_form

    abbrev of_module : Out → Out
    of_module o = wrap (λ t. Node (Case module_item t)) (wrap (λ s. Both a (Node (Both v (Both u s)))) o)

    abbrev module_value : Syntax → Syntax → Syntax → Syntax
    module_value w n c = Node (Case module_item (Both a (Node (Both v (Both u (Both w (Both n c)))))))

    by_semicolon : (w n : Syntax) (o : Out) → follow (λ z r. Some (module_value w n (Left z), r)) o ≡ of_module (wrap (Both w) (wrap (Both n) (wrap Left o)))
    by_semicolon w n None = refl
    by_semicolon w n (Some p) = refl

    by_braces : (w n : Syntax) (o : Out) → follow (λ b r. Some (module_value w n (Right (Both hidden b)), r)) o ≡ of_module (wrap (Both w) (wrap (Both n) (wrap Right (wrap (Both (Unshown Nothing)) o))))
    by_braces w n None = refl
    by_braces w n (Some p) = refl

    abbrev by_content : Syntax → Syntax → Stream → Out
    by_content w n r =
        by_test (sees at_semicolon r) (follow (λ z r. Some (module_value w n (Left z), r)) (take_mark semicolon r))
        (follow (λ b r. Some (module_value w n (Right (Both hidden b)), r)) (parse_form (inside Brace (rule inner_attributes & rule items)) r))

    content_goes : (w n : Syntax) (r : Stream) → by_content w n r ≡ of_module (wrap (Both w) (wrap (Both n) (parse_form content_form r)))
    content_goes w n r = go (sees at_semicolon r)
      where
        go : (b : Bool) →
            by_test b (follow (λ z r. Some (module_value w n (Left z), r)) (take_mark semicolon r)) (follow (λ b r. Some (module_value w n (Right (Both hidden b)), r)) (parse_form (inside Brace (rule inner_attributes & rule items)) r))
            ≡ of_module (wrap (Both w) (wrap (Both n) (branch b (take_mark semicolon r) (wrap (Both (Unshown Nothing)) (parse_form (inside Brace (rule inner_attributes & rule items)) r)))))
        go true = by_semicolon w n (take_mark semicolon r)
        go false = by_braces w n (parse_form (inside Brace (rule inner_attributes & rule items)) r)

    name_goes : (w : Syntax) (o : Out) → follow (λ n r. by_content w n r) o ≡ of_module (wrap (Both w) (and_then o (parse_form content_form)))
    name_goes w None = refl
    name_goes w (Some p) = content_goes w p.0 p.1

    word_goes : (o : Out) → follow (λ w q. follow (λ n r. by_content w n r) (take_token (name_or (w_try ∷ [])) q)) o ≡ of_module (and_then o (parse_form (plainly (name_or (w_try ∷ [])) & content_form)))
    word_goes None = refl
    word_goes (Some p) = name_goes p.0 (take_token (name_or (w_try ∷ [])) p.1)

    pub module_goes : run_plan (module_plan a v u) k ts m ≡ of_module (parse_form module_form m)
    unfolding module_plan
    module_goes = word_goes (take_token (word w_mod) m)

  -- TRAITS

  module _ (c u : Syntax) where
    abbrev trait_value : Syntax → Syntax
    trait_value s = Both a (Node (Both v (Both c (Node (Both u s)))))

    abbrev of_trait : Out → Out
    of_trait o = wrap (λ t. Node (Case trait_definition t)) (wrap trait_value o)

    abbrev ending_form : Grammar
    ending_form = vanishing false at_colon (punctuation colon & rule supertraits) & rule where_clause & inside Brace (rule inner_attributes & rule trait_items)

    traits : (o : Out) → follow (λ s r. Some (Node (Case trait_definition (trait_value s)), r)) o ≡ of_trait o
    traits None = refl
    traits (Some p) = refl

    -- before `auto`
    pub trait_goes : run_plan (trait_plan a v c u) k ts m ≡ of_trait (parse_form (optional_item_word w_auto & plainly (word w_trait) & plainly name & rule generics & ending_form) m)
    unfolding trait_plan trait_end
    trait_goes =
        row_is k ts (optional_item_word w_auto) (plainly (word w_trait) ∷ plainly name ∷ rule generics ∷ vanishing false at_colon (punctuation colon & rule supertraits) ∷ rule where_clause ∷ inside Brace (rule inner_attributes & rule trait_items) ∷ [])
        (λ s. ends (Node (Case trait_definition (trait_value s)))) m
        ∙ traits (parse_form (optional_item_word w_auto & plainly (word w_trait) & plainly name & rule generics & ending_form) m)

    -- after generics
    module _ (o w n g : Syntax) where
      ended : (x : Out) → follow (λ s r. Some (Node (Case trait_definition (trait_value (Both o (Both w (Both n (Both g s)))))), r)) x ≡ wrap (λ t. Node (Case trait_definition t)) (wrap (λ s. trait_value (Both o (Both w (Both n (Both g s))))) x)
      ended None = refl
      ended (Some p) = refl

      pub trait_end_goes : run_plan (trait_end a v c u o w n g) k ts m ≡ wrap (λ t. Node (Case trait_definition t)) (wrap (λ s. trait_value (Both o (Both w (Both n (Both g s))))) (parse_form ending_form m))
      unfolding trait_end
      trait_end_goes =
          row_is k ts (vanishing false at_colon (punctuation colon & rule supertraits)) (rule where_clause ∷ inside Brace (rule inner_attributes & rule trait_items) ∷ [])
          (λ s. ends (Node (Case trait_definition (trait_value (Both o (Both w (Both n (Both g s)))))))) m
          ∙ ended (parse_form ending_form m)
