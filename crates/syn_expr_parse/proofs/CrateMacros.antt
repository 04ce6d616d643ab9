-- A macro of `crate` in braces as a statement alone: what its rule reads, by what follows it.
use Rattle.std.proofs.Common.{◌≡◌, Bool, true, false, [], ◌∷◌, Some, None, refl, sym, ap, ap₂, ◌∙◌}
use Rattle.syn_grammar.specs.Words.{w_try, semicolon}
use Rattle.syn_grammar.specs.Tokens.{Stream, Paren, Brace, Bracket, Look, pick}
use Rattle.syn_grammar.specs.Rules.{attributes, crate_macro, item, kept_item, macro_as_item, macro_invocation, module_path, statement_end}
use Rattle.syn_grammar.specs.Shape.{Macro, an_item}
use Rattle.syn_grammar.specs.Grammar.{Syntax, Nothing, Both, Left, Right, Node, Shaped, Grammar, empty, name_or, when◌then◌else◌, raw, ◌&◌}
use Rattle.syn_grammar.specs.Forms.{plainly, punctuation}
use Rattle.syn_grammar.specs.Table.{table, at_brace, at_bracket, at_crate_macro, at_macro_name, at_paren, at_postfix_mark, macro_group}
use Rattle.syn_grammar.specs.Take.{Out, Parser, sees}
use Rattle.syn_grammar.specs.Values.{alone, new}
use Rattle.syn_grammar.specs.Run.{wrap, and_then, branch, parse_rule, parse_form}
use Rattle.syn_grammar.specs.Plan.{follow, by_test, run_plan}
use Rattle.syn_grammar.specs.ItemPlan.{after_visibility, item_after, item_of, item_plan, macro_plan, other_plan, parts}
use Rattle.syn_grammar.specs.StatementPlans.{crate_item, crate_macro_plan, crate_statement}
use Rattle.syn_grammar.proofs.Each.{macro_end_is, macro_invocation_is, statement_end_is}
use Rattle.syn_grammar.proofs.ItemPlan.{item_plan_is}
use Rattle.syn_grammar.proofs.Known.{excludes}
use Rattle.syn_grammar.proofs.PlanSteps.{went, took, happened, seen_apart}
use Rattle.syn_grammar.proofs.StatementPlans.{crate_macro_plan_is}
use Rattle.syn_expr_parse.specs.StatementForms.{following_block, crate_macro_statement, proceeds, item_statement, then_by, unless_postfix}
use Rattle.syn_expr_parse.proofs.StatementEnds.{block_end, made}
use Rattle.syn_expr_parse.proofs.CratePaths.{Pieces, bang_form, crate_pieces}

-- perhaps a name
abbrev name_form : Grammar
name_form = when at_macro_name then plainly (name_or (w_try ∷ [])) else empty

-- the tree of a macro in braces, of what is read of its parts
abbrev in_braces : Syntax → Syntax → Syntax → Syntax
in_braces p x b = Node (Both p (Both x (Right (Right b))))

-- the value of an item, and of a macro statement
abbrev item_value : Syntax → Syntax → Syntax → Syntax → Syntax
item_value a p x b = item_of macro_as_item a (Right (Node (parts (p ∷ x ∷ Right Nothing ∷ Node (Right (Right b)) ∷ []))))

abbrev crate_value : Syntax → Syntax → Syntax → Parser
crate_value p x b q =
    by_test (sees at_postfix_mark q) (Some (crate_item (parts (p ∷ x ∷ Right Nothing ∷ Node (Right (Right b)) ∷ [])), q))
    (follow (λ z t. Some (crate_statement (parts (p ∷ x ∷ Right (Right b) ∷ [])) z, t)) (parse_rule statement_end q))

-- by what follows the braces
module _ (a p x : Syntax) where
  abbrev as_read : Out → Out
  as_read o = pick (proceeds (wrap (in_braces p x) o)) (wrap (Shaped an_item) (wrap (item_value a p x) o)) (then_by (wrap (new Macro) (wrap (in_braces p x) o)) (unless_postfix false a))

  ended : (s : Syntax) (o : Out) → made a (follow (λ z t. Some (crate_statement s z, t)) (wrap Node o)) ≡ wrap (alone true a (new Macro (Node s))) o
  ended s None = refl
  ended s (Some q) = refl

  read_so : (o : Out) → made a (follow (crate_value p x) o) ≡ as_read o
  read_so None = refl
  read_so (Some b) = go (sees at_postfix_mark b.1)
    where
      s : Syntax
      s = parts (p ∷ x ∷ Right (Right b.0) ∷ [])

      go : (v : Bool) → made a (by_test v (Some (crate_item (parts (p ∷ x ∷ Right Nothing ∷ Node (Right (Right b.0)) ∷ [])), b.1)) (follow (λ z t. Some (crate_statement s z, t)) (parse_rule statement_end b.1)))
          ≡ pick v (Some (Shaped an_item (item_value a p x b.0), b.1)) (pick v None (following_block false true a (new Macro (Node s)) b.1))
      go true = refl
      go false = ap (λ o. made a (follow (λ z t. Some (crate_statement s z, t)) o)) (statement_end_is b.1) ∙ ended s (parse_form (table statement_end) b.1) ∙ block_end a true (new Macro (Node s)) b.1

module _ (ts m : Stream) (a : Syntax) (outer : parse_rule attributes ts ≡ Some (a, m)) (crate : sees at_crate_macro m ≡ true) where
  abbrev off : (c : Look) → excludes at_crate_macro c ≡ true → sees c m ≡ false
  off c e = seen_apart at_crate_macro c m e crate

  -- an item that begins so is a macro: no look before it in the plan holds
  as_item : parse_rule item ts ≡ run_plan (macro_plan a) kept_item ts m
  unfolding item_plan item_after after_visibility other_plan
  as_item =
      item_plan_is ts
      ∙ happened kept_item ts
      (took a m ∷ went false ∷ went false ∷ went false ∷ went false ∷ went false ∷ went false ∷ went false ∷ went false ∷ went false ∷ went false ∷ went false ∷ went false ∷ went false ∷ went false ∷ went false ∷ went false ∷ went false ∷ went false ∷ [])
      item_plan ts
      (outer, (off _ refl, (off _ refl, (off _ refl, (off _ refl, (off _ refl, (off _ refl, (off _ refl, (off _ refl, (off _ refl, (off _ refl, (off _ refl, (off _ refl, (off _ refl, (off _ refl, (off _ refl, (off _ refl, (off _ refl, (off _ refl, tt)))))))))))))))))))

  module _ (p x : Syntax) (n r : Stream) (path : parse_rule module_path m ≡ Some (p, n)) (bang : parse_form bang_form n ≡ Some (x, r)) (brace : sees at_brace r ≡ true) where
    abbrev braces : Out
    braces = parse_form (raw Brace) r

    abbrev no_paren : sees at_paren r ≡ false
    no_paren = seen_apart at_brace at_paren r refl brace

    abbrev no_bracket : sees at_bracket r ≡ false
    no_bracket = seen_apart at_brace at_bracket r refl brace

    invoked : parse_rule macro_invocation m ≡ wrap (in_braces p x) braces
    invoked =
        macro_invocation_is m
        ∙ ap (λ o. wrap Node (and_then o (λ z. and_then (parse_form bang_form z) (parse_form macro_group)))) path
        ∙ ap (λ o. wrap Node (wrap (Both p) (and_then o (parse_form macro_group)))) bang
        ∙ ap₂ (λ u v. wrap Node (wrap (Both p) (wrap (Both x) (branch u (parse_form (raw Paren) r) (branch v (parse_form (raw Bracket) r) braces))))) no_paren no_bracket
        ∙ go braces
      where
        go : (o : Out) → wrap Node (wrap (Both p) (wrap (Both x) (wrap Right (wrap Right o)))) ≡ wrap (in_braces p x) o
        go None = refl
        go (Some b) = refl

    unnamed : parse_form name_form r ≡ Some (Right Nothing, r)
    unnamed = ap (λ b. branch b (parse_form (plainly (name_or (w_try ∷ []))) r) (Some (Nothing, r))) (seen_apart at_brace at_macro_name r refl brace)

    item_is : parse_rule item ts ≡ wrap (item_value a p x) braces
    unfolding macro_plan
    item_is =
        as_item
        ∙ happened kept_item ts (went false ∷ took p n ∷ took x r ∷ took (Right Nothing) r ∷ []) (macro_plan a) m (off _ refl, (path, (bang, (unnamed, tt))))
        ∙ ap (follow whole) (macro_end_is r)
        ∙ ap₂ (λ u v. follow whole (wrap Node (branch u (parse_form (raw Paren & punctuation semicolon) r) (branch v (parse_form (raw Bracket & punctuation semicolon) r) braces)))) no_paren no_bracket
        ∙ go braces
      where
        whole : Syntax → Parser
        whole g q = Some (item_of macro_as_item a (Right (Node (parts (p ∷ x ∷ Right Nothing ∷ g ∷ [])))), q)

        go : (o : Out) → follow whole (wrap Node (wrap Right (wrap Right o))) ≡ wrap (item_value a p x) o
        go None = refl
        go (Some b) = refl

    crate_is : parse_rule crate_macro m ≡ follow (crate_value p x) braces
    unfolding crate_macro_plan
    crate_is =
        crate_macro_plan_is m
        ∙ happened kept_item m (went false ∷ took p n ∷ took x r ∷ went true ∷ []) crate_macro_plan m (off _ refl, (path, (bang, (brace, tt))))

    by_pieces : made a (parse_rule crate_macro m) ≡ pick (proceeds (parse_rule macro_invocation m)) (item_statement ts) (crate_macro_statement false a m)
    by_pieces =
        ap (made a) crate_is ∙ read_so a p x braces
        ∙ ap₂ (λ o i. pick (proceeds o) (wrap (Shaped an_item) i) (then_by (wrap (new Macro) o) (unless_postfix false a))) (sym invoked) (sym item_is)

  -- what continues an expression after it makes it an item
  pub crate_alone : made a (parse_rule crate_macro m) ≡ pick (proceeds (parse_rule macro_invocation m)) (item_statement ts) (crate_macro_statement false a m)
  crate_alone = let w = crate_pieces m crate in by_pieces w.path w.bang w.following w.rest w.path_read w.bang_read w.brace
