-- Statements are read one at a time: what one step reads of a list, and of a statement alone.
use Rattle.std.proofs.Common.{◌≡◌, Bool, true, false, Some, None, refl, sym, ap, subst, ◌∙◌}
use Rattle.syn_grammar.specs.Words.{semicolon}
use Rattle.syn_grammar.specs.Tokens.{Stream, and, or, pick, ended, at_word}
use Rattle.syn_grammar.specs.Words.{w_let}
use Rattle.syn_grammar.specs.Rules.{after_block, after_expression, attributes, block_like, crate_macro, item, kept_item, local, macro_invocation, operand_rest, statement, statement_end, statement_rest, statements, whole_expression}
use Rattle.syn_grammar.specs.Shape.{Macro, a_local, an_item, attributed, said, said_macro}
use Rattle.syn_grammar.specs.Grammar.{Syntax, Nothing, Mark, Both, Left, Right, Node, Shaped}
use Rattle.syn_grammar.specs.Table.{table, at_block_like, at_brace_macro, at_crate_macro, at_item, at_postfix_mark, at_semicolon}
use Rattle.syn_grammar.specs.Take.{Out, Parser, Chars, only, sees, take_mark, take_chars, taken, marked}
use Rattle.syn_grammar.specs.Values.{alone, core, going_on, moved, new, onto, sentence, separated, stated}
use Rattle.syn_grammar.specs.Run.{wrap, and_then, branch, parse_rule, parse_form}
use Rattle.syn_grammar.proofs.Each.{after_block_is, after_expression_is, statement_end_is, statement_rest_is, statements_is}
use Rattle.syn_grammar.specs.Plan.{follow, by_test, run_plan}
use Rattle.syn_grammar.specs.ItemPlan.{item_after}
use Rattle.syn_grammar.specs.ItemStatements.{item_listed}
use Rattle.syn_grammar.specs.ItemStatements as listed_item
use Rattle.syn_grammar.specs.StatementPlans.{of_other, other_listed, other_statement}
use Rattle.syn_grammar.proofs.Looks.{sees_mark}
use Rattle.syn_grammar.proofs.Run.{parse_rule_is}
use Rattle.syn_grammar.proofs.Shapes.{is_shaped}
use Rattle.syn_grammar.proofs.ItemStatements.{item_statements}
use Rattle.syn_grammar.proofs.StatementPlans.{statement_plan_is, statements_plan_is}
use Rattle.syn_expr_parse.specs.StatementForms.{then_by, ending, following_block, unless_postfix, expression_statement, macro_statement, crate_macro_statement, proceeds, crate_item, item_statement, by_item, after_attributes, statement_by, lone_semicolon, next_statement, before_others}
use Rattle.syn_expr_parse.proofs.CrateMacros.{crate_alone}
use Rattle.syn_expr_parse.proofs.StatementEnds.{block_end, made, made_branch, with_semicolon}

-- A STATEMENT ALONE

module _ (a : Syntax) where
  of_block : (s : Syntax) (m : Stream) → made a (wrap (Shaped said) (wrap (Both s) (parse_rule statement_end m))) ≡ following_block false false a (core s) m
  of_block s m = ap (λ o. made a (wrap (Shaped said) (wrap (Both s) o))) (statement_end_is m) ∙ go (parse_form (table statement_end) m) ∙ block_end a false (core s) m
    where
      go : (o : Out) → made a (wrap (Shaped said) (wrap (Both s) (wrap Node o))) ≡ wrap (alone false a (core s)) o
      go None = refl
      go (Some p) = refl

  of_macro : (s : Syntax) (m : Stream) → made a (wrap (Shaped said_macro) (wrap (Both (new Macro s)) (parse_rule statement_end m))) ≡ following_block false true a (new Macro s) m
  of_macro s m = ap (λ o. made a (wrap (Shaped said_macro) (wrap (Both (new Macro s)) o))) (statement_end_is m) ∙ go (parse_form (table statement_end) m) ∙ block_end a true (new Macro s) m
    where
      go : (o : Out) → made a (wrap (Shaped said_macro) (wrap (Both (new Macro s)) (wrap Node o))) ≡ wrap (alone true a (new Macro s)) o
      go None = refl
      go (Some p) = refl

  of_expression : (s : Syntax) (m : Stream) → made a (wrap (Shaped said) (wrap (Both s) (take_mark semicolon m))) ≡ ending false false a (core s) m
  of_expression s m = go (take_mark semicolon m) ∙ with_semicolon a false (core s) m
    where
      go : (o : Out) → made a (wrap (Shaped said) (wrap (Both s) o)) ≡ wrap (alone false a (core s)) o
      go None = refl
      go (Some p) = refl

  of_local : (o : Out) → made a (wrap (Shaped a_local) o) ≡ wrap (Shaped a_local) (wrap (Both a) o)
  of_local None = refl
  of_local (Some p) = refl

  -- each after what it begins with
  macro_first : (o : Out) → made a (wrap (Shaped said_macro) (and_then (wrap (new Macro) o) (parse_rule statement_end))) ≡ then_by (wrap (new Macro) o) (following_block false true a)
  macro_first None = refl
  macro_first (Some p) = of_macro p.0 p.1

  block_first : (o : Out) → made a (wrap (Shaped said) (and_then o (parse_rule statement_end))) ≡ then_by (wrap core o) (following_block false false a)
  block_first None = refl
  block_first (Some p) = of_block p.0 p.1

  expression_first : (o : Out) → made a (wrap (Shaped said) (and_then o (take_mark semicolon))) ≡ then_by (wrap core o) (ending false false a)
  expression_first None = refl
  expression_first (Some p) = of_expression p.0 p.1

  following : (m : Stream) → made a (parse_form other_statement m)
      ≡ pick (sees at_crate_macro m) (made a (parse_rule crate_macro m)) (pick (sees at_brace_macro m) (macro_statement false a m)
      (pick (sees (at_word w_let) m) (wrap (Shaped a_local) (wrap (Both a) (parse_rule local m))) (expression_statement false a m)))
  following m =
      made_branch a (sees at_crate_macro m) _ _ _ _ refl
      (made_branch a (sees at_brace_macro m) _ _ _ _ (macro_first (parse_rule macro_invocation m))
      (made_branch a (sees (at_word w_let) m) _ _ _ _ (of_local (parse_rule local m))
      (made_branch a (sees at_block_like m) _ _ _ _ (block_first (parse_rule block_like m)) (expression_first (parse_rule whole_expression m)))))

-- a value of its own
core_stated : (a : Syntax) (o : Out) → wrap (of_other a) o ≡ wrap Node (made a o)
core_stated a None = refl
core_stated a (Some p) = let (j, t, e) = is_shaped attributed (Both a p.0) in ap (λ s. Some (Node s, p.1)) (ap core e ∙ sym e)

module _ (ts m : Stream) (a : Syntax) (outer : parse_rule attributes ts ≡ Some (a, m)) where
  -- where no item is next
  other : (u v : Bool) → sees at_crate_macro m ≡ u → proceeds (parse_rule macro_invocation m) ≡ v →
      pick (sees at_crate_macro m) (made a (parse_rule crate_macro m)) (pick (sees at_brace_macro m) (macro_statement false a m)
      (pick (sees (at_word w_let) m) (wrap (Shaped a_local) (wrap (Both a) (parse_rule local m))) (expression_statement false a m)))
      ≡ pick (and u v) (item_statement ts) (after_attributes false a m)
  other false v h k = rw h refl
  other true v h k = rw h (crate_alone ts m a outer h ∙ ap (λ b. pick b (item_statement ts) (crate_macro_statement false a m)) k)

  by_look : (b : Bool) → sees at_item m ≡ b → parse_rule statement ts ≡ wrap Node (by_item false ts a m)
  by_look true h = (item_statements ts m a outer h).0 ∙ go (parse_rule item ts) ∙ ap (λ b. wrap Node (pick (or b (crate_item false m)) (item_statement ts) (after_attributes false a m))) (sym h)
    where
      go : (o : Out) → wrap listed_item.item_statement o ≡ wrap Node (wrap (Shaped an_item) o)
      go None = refl
      go (Some p) = refl
  by_look false h =
      let way : Syntax → Parser = λ a m. by_test (sees at_item m) (wrap listed_item.item_statement (run_plan (item_after a) kept_item ts m)) (wrap (of_other a) (parse_form other_statement m)) in
      statement_plan_is ts ∙ ap (follow way) outer
      ∙ ap (λ b. by_test b (wrap listed_item.item_statement (run_plan (item_after a) kept_item ts m)) (wrap (of_other a) (parse_form other_statement m))) h
      ∙ core_stated a (parse_form other_statement m)
      ∙ ap (wrap Node) (following a m ∙ other (sees at_crate_macro m) (proceeds (parse_rule macro_invocation m)) refl refl)
      ∙ ap (λ b. wrap Node (pick (or b (crate_item false m)) (item_statement ts) (after_attributes false a m))) (sym h)

pub statement_alone : (ts : Stream) → parse_rule statement ts ≡ wrap Node (statement_by false ts)
unfolding statement_by
statement_alone ts = go (parse_rule attributes ts) refl
  where
    go : (o : Out) → parse_rule attributes ts ≡ o → parse_rule statement ts ≡ wrap Node (then_by o (by_item false ts))
    go None h =
        let way : Syntax → Parser = λ a m. by_test (sees at_item m) (wrap listed_item.item_statement (run_plan (item_after a) kept_item ts m)) (wrap (of_other a) (parse_form other_statement m)) in
        statement_plan_is ts ∙ ap (follow way) h
    go (Some p) h = by_look ts p.1 p.0 h (sees at_item p.1) refl

-- A LIST

pub statements_ended : (ts : Stream) → sees ended ts ≡ true → parse_rule statements ts ≡ Some (Node (Left Nothing), ts)
statements_ended ts h = statements_is ts ∙ rw h refl

-- the statements after one
abbrev pub more : Syntax → Stream → Out
more s m = wrap (before_others s) (parse_rule statements m)

-- what is read after a semicolon, or after nothing
module _ (b : Bool) (a : Syntax) where
  -- as its value is built
  abbrev listed_as : Syntax → Out → Out
  listed_as e o = wrap (λ t. Node (Right (core (Right (going_on b a e t))))) o

  semicolon_first : (e : Syntax) (o : Out) → listed_as e (wrap Left (and_then o (parse_rule statements))) ≡ then_by (wrap (λ m. sentence b (moved a e) (Left m)) o) more
  semicolon_first e None = refl
  semicolon_first e (Some p) = go (parse_rule statements p.1)
    where
      go : (z : Out) → listed_as e (wrap Left (wrap (Both p.0) z)) ≡ wrap (before_others (sentence b (moved a e) (Left p.0))) z
      go None = refl
      go (Some y) = refl

  expression_end : (e : Syntax) (m : Stream) → listed_as e (parse_form (table after_expression) m) ≡ then_by (ending true b a e m) more
  expression_end e m = go (sees at_semicolon m) (sees ended m) refl (take_mark semicolon m)
    where
      first : (o : Out) → listed_as e (wrap Left (and_then o (parse_rule statements))) ≡ then_by (wrap (λ s. sentence b (moved a e) s) (wrap Left o)) more
      first None = refl
      first (Some p) = semicolon_first e (Some p)

      go : (c d : Bool) → sees ended m ≡ d → (o : Out) → listed_as e (branch c (and_then o (parse_rule statements)) (branch d (Some (Nothing, m)) None))
          ≡ then_by (wrap (λ s. sentence b (moved a e) s) (pick c (wrap Left o) (only d (Some (Right Nothing, m))))) more
      go true d h o = first o
      go false true h o = ap (wrap (before_others (sentence b (moved a e) (Right Nothing)))) (sym (statements_ended m h))
      go false false h o = refl

  going_first : (e : Syntax) (o : Out) → listed_as e (wrap Right (wrap Left (and_then o (parse_rule after_expression)))) ≡ then_by (then_by (wrap (onto e) o) (λ x. ending true b a x)) more
  going_first e None = refl
  going_first e (Some p) = ap (λ o. listed_as e (wrap Right (wrap Left (wrap (Both p.0) o)))) (after_expression_is p.1) ∙ go (parse_form (table after_expression) p.1) ∙ expression_end (onto e p.0) p.1
    where
      go : (z : Out) → listed_as e (wrap Right (wrap Left (wrap (Both p.0) (wrap Node z)))) ≡ listed_as (onto e p.0) z
      go None = refl
      go (Some y) = refl

  block_after : (e : Syntax) (m : Stream) → listed_as e (parse_form (table after_block) m) ≡ then_by (following_block true b a e m) more
  block_after e m = go (sees at_semicolon m) (sees at_postfix_mark m)
    where
      last : (z : Out) → listed_as e (wrap Right (wrap Right z)) ≡ wrap (before_others (sentence b (moved a e) (Right Nothing))) z
      last None = refl
      last (Some y) = refl

      go : (c d : Bool) → listed_as e (branch c (and_then (take_mark semicolon m) (parse_rule statements)) (branch d (and_then (parse_rule operand_rest m) (parse_rule after_expression)) (parse_rule statements m)))
          ≡ then_by (pick c (wrap (λ s. sentence b (moved a e) (Left s)) (take_mark semicolon m)) (pick d (then_by (wrap (onto e) (parse_rule operand_rest m)) (λ x. ending true b a x)) (Some (sentence b (moved a e) (Right Nothing), m)))) more
      go true d = semicolon_first e (take_mark semicolon m)
      go false true = going_first e (parse_rule operand_rest m)
      go false false = last (parse_rule statements m)

-- attributes are in their rule's node
module _ (outer : Syntax) where
  abbrev a : Syntax
  a = Node outer

  abbrev built : Out → Out
  built o = wrap (other_listed a) o

  built_branch : (b : Bool) (x y u v : Out) → built x ≡ then_by u more → built y ≡ then_by v more → built (branch b x y) ≡ then_by (pick b u v) more
  built_branch true None y u v h k = h
  built_branch true (Some p) y u v h k = h
  built_branch false x None u v h k = k
  built_branch false x (Some p) u v h k = k

  list_of_block : (s : Syntax) (m : Stream) → built (wrap (Shaped said) (wrap (Both s) (parse_rule after_block m))) ≡ then_by (following_block true false a (core s) m) more
  list_of_block s m = ap (λ o. built (wrap (Shaped said) (wrap (Both s) o))) (after_block_is m) ∙ go (parse_form (table after_block) m) ∙ block_after false a (core s) m
    where
      go : (o : Out) → built (wrap (Shaped said) (wrap (Both s) (wrap Node o))) ≡ listed_as false a (core s) o
      go None = refl
      go (Some p) = refl

  list_of_macro : (s : Syntax) (m : Stream) → built (wrap (Shaped said_macro) (wrap (Both (new Macro s)) (parse_rule after_block m))) ≡ then_by (following_block true true a (new Macro s) m) more
  list_of_macro s m = ap (λ o. built (wrap (Shaped said_macro) (wrap (Both (new Macro s)) o))) (after_block_is m) ∙ go (parse_form (table after_block) m) ∙ block_after true a (new Macro s) m
    where
      go : (o : Out) → built (wrap (Shaped said_macro) (wrap (Both (new Macro s)) (wrap Node o))) ≡ listed_as true a (new Macro s) o
      go None = refl
      go (Some p) = refl

  list_of_crate_macro : (s : Syntax) (m : Stream) → built (wrap (Shaped said_macro) (wrap (Both (new Macro s)) (branch (sees at_postfix_mark m) None (parse_rule after_block m)))) ≡ then_by (unless_postfix true a (new Macro s) m) more
  list_of_crate_macro s m =
      ap (λ o. built (wrap (Shaped said_macro) (wrap (Both (new Macro s)) (branch (sees at_postfix_mark m) None o)))) (after_block_is m)
      ∙ go (sees at_postfix_mark m) (parse_form (table after_block) m)
      ∙ ap (pick (sees at_postfix_mark m) None) (block_after true a (new Macro s) m)
      ∙ turn (sees at_postfix_mark m) (following_block true true a (new Macro s) m)
    where
      go : (c : Bool) (o : Out) → built (wrap (Shaped said_macro) (wrap (Both (new Macro s)) (branch c None (wrap Node o)))) ≡ pick c None (listed_as true a (new Macro s) o)
      go true o = refl
      go false None = refl
      go false (Some p) = refl

      turn : (c : Bool) (o : Out) → pick c None (then_by o more) ≡ then_by (pick c None o) more
      turn true o = refl
      turn false o = refl

  list_of_expression : (s : Syntax) (m : Stream) → built (wrap (Shaped said) (wrap (Both s) (parse_rule after_expression m))) ≡ then_by (ending true false a (core s) m) more
  list_of_expression s m = ap (λ o. built (wrap (Shaped said) (wrap (Both s) o))) (after_expression_is m) ∙ go (parse_form (table after_expression) m) ∙ expression_end false a (core s) m
    where
      go : (o : Out) → built (wrap (Shaped said) (wrap (Both s) (wrap Node o))) ≡ listed_as false a (core s) o
      go None = refl
      go (Some p) = refl

  list_of_local : (o : Out) → built (wrap (Shaped a_local) (and_then o (parse_rule statements))) ≡ then_by (wrap (Shaped a_local) (wrap (Both a) o)) more
  list_of_local None = refl
  list_of_local (Some p) = go (parse_rule statements p.1)
    where
      go : (z : Out) → built (wrap (Shaped a_local) (wrap (Both p.0) z)) ≡ wrap (before_others (Shaped a_local (Both a p.0))) z
      go None = refl
      go (Some y) = refl

  list_macro_first : (o : Out) → built (wrap (Shaped said_macro) (and_then (wrap (new Macro) o) (parse_rule after_block))) ≡ then_by (then_by (wrap (new Macro) o) (following_block true true a)) more
  list_macro_first None = refl
  list_macro_first (Some p) = list_of_macro p.0 p.1

  list_crate_macro_first : (o : Out) → built (wrap (Shaped said_macro) (and_then (wrap (new Macro) o) (λ m. branch (sees at_postfix_mark m) None (parse_rule after_block m)))) ≡ then_by (then_by (wrap (new Macro) o) (unless_postfix true a)) more
  list_crate_macro_first None = refl
  list_crate_macro_first (Some p) = list_of_crate_macro p.0 p.1

  list_block_first : (o : Out) → built (wrap (Shaped said) (and_then o (parse_rule after_block))) ≡ then_by (then_by (wrap core o) (following_block true false a)) more
  list_block_first None = refl
  list_block_first (Some p) = list_of_block p.0 p.1

  list_expression_first : (o : Out) → built (wrap (Shaped said) (and_then o (parse_rule after_expression))) ≡ then_by (then_by (wrap core o) (ending true false a)) more
  list_expression_first None = refl
  list_expression_first (Some p) = list_of_expression p.0 p.1

  rest_following : (m : Stream) → built (parse_form (table statement_rest) m) ≡ then_by (after_attributes true a m) more
  rest_following m =
      built_branch (sees at_crate_macro m) _ _ _ _ (list_crate_macro_first (parse_rule macro_invocation m))
      (built_branch (sees at_brace_macro m) _ _ _ _ (list_macro_first (parse_rule macro_invocation m))
      (built_branch (sees (at_word w_let) m) _ _ _ _ (list_of_local (parse_rule local m))
      (built_branch (sees at_block_like m) _ _ _ _ (list_block_first (parse_rule block_like m)) (list_expression_first (parse_rule whole_expression m)))))

  rest_is : (m : Stream) → built (parse_rule statement_rest m) ≡ then_by (after_attributes true a m) more
  rest_is m = ap built (statement_rest_is m) ∙ go (parse_form (table statement_rest) m) ∙ rest_following m
    where
      go : (o : Out) → built (wrap Node o) ≡ built o
      go None = refl
      go (Some p) = refl

-- what a rule reads is in its node
is_node : (o : Out) (a : Syntax) (m : Stream) → wrap Node o ≡ Some (a, m) → (x : Syntax) × (a ≡ Node x)
is_node (Some p) a m e = let i : ◌≡◌ {A = Syntax × Stream} (Node p.0, p.1) (a, m) = cc e in (p.0, sym (ap (λ z. z.0) i))
is_node None a m e = absurd (cc e)

-- an item, and the statements after it
item_first : (o : Out) → wrap item_listed (and_then o (parse_rule statements)) ≡ then_by (wrap (Shaped an_item) o) more
item_first None = refl
item_first (Some p) = go (parse_rule statements p.1)
  where
    go : (z : Out) → wrap item_listed (wrap (Both p.0) z) ≡ wrap (before_others (Shaped an_item p.0)) z
    go None = refl
    go (Some y) = refl

module _ (ts : Stream) (h : sees ended ts ≡ false) where
  abbrev way : Syntax → Parser
  way a m = by_test (sees at_item m) (wrap item_listed (and_then (run_plan (item_after a) kept_item ts m) (parse_rule statements))) (wrap (other_listed a) (parse_rule statement_rest m))

  list_by_look : (m : Stream) (a : Syntax) (c : sees at_semicolon ts ≡ false) → parse_rule attributes ts ≡ Some (a, m) → (b : Bool) → sees at_item m ≡ b → parse_rule statements ts ≡ then_by (by_item true ts a m) more
  list_by_look m a c outer true k =
      (item_statements ts m a outer k).1 h c ∙ item_first (parse_rule item ts) ∙ ap (λ b. then_by (pick (or b false) (item_statement ts) (after_attributes true a m)) more) (sym k)
  list_by_look m a c outer false k =
      let (x, n) = is_node (parse_form (table attributes) ts) a m (sym (parse_rule_is attributes ts) ∙ outer) in
      statements_plan_is ts h c ∙ ap (follow way) outer
      ∙ ap (λ b. by_test b (wrap item_listed (and_then (run_plan (item_after a) kept_item ts m) (parse_rule statements))) (wrap (other_listed a) (parse_rule statement_rest m))) k
      ∙ subst (λ z. wrap (other_listed z) (parse_rule statement_rest m) ≡ then_by (after_attributes true z m) more) (sym n) (rest_is x m)
      ∙ ap (λ b. then_by (pick (or b false) (item_statement ts) (after_attributes true a m)) more) (sym k)

  list_by_attributes : (c : sees at_semicolon ts ≡ false) (o : Out) → parse_rule attributes ts ≡ o → parse_rule statements ts ≡ then_by (then_by o (by_item true ts)) more
  list_by_attributes c None k = statements_plan_is ts h c ∙ ap (follow way) k
  list_by_attributes c (Some p) k = list_by_look p.1 p.0 c k (sees at_item p.1) refl

pub statements_more : (ts : Stream) → sees ended ts ≡ false → parse_rule statements ts ≡ then_by (next_statement ts) more
unfolding next_statement statement_by take_mark
statements_more ts h = go (sees at_semicolon ts) refl
  where
    after : (m : Chars) → wrap Node (wrap Right (wrap core (wrap Left (wrap separated (and_then (marked m) (parse_rule statements)))))) ≡ then_by (wrap lone_semicolon (marked m)) more
    after None = refl
    after (Some p) = further (parse_rule statements p.1)
      where
        further : (z : Out) → wrap Node (wrap Right (wrap core (wrap Left (wrap separated (wrap (Both (Mark p.0)) z))))) ≡ wrap (before_others (lone_semicolon (Mark p.0))) z
        further None = refl
        further (Some y) = refl

    go : (c : Bool) → sees at_semicolon ts ≡ c → parse_rule statements ts ≡ then_by (pick c (wrap lone_semicolon (take_mark semicolon ts)) (then_by (parse_rule attributes ts) (by_item true ts))) more
    go true e = statements_is ts ∙ rw h (rw e (after (take_chars semicolon ts)))
    go false e = list_by_attributes ts h e (parse_rule attributes ts) refl

-- a block with what continues it
pub block_continues : (in_list b : Bool) (a e : Syntax) (ts : Stream) (x : Syntax) (m : Stream) → sees at_semicolon ts ≡ false → sees at_postfix_mark ts ≡ true → wrap (onto e) (parse_rule operand_rest ts) ≡ Some (x, m) →
    following_block in_list b a e ts ≡ ending in_list b a x m
block_continues in_list b a e ts x m h k got =
    let ended_by : Out = wrap (λ s. sentence b (moved a e) (Left s)) (take_mark semicolon ts) in
    let going : Out = then_by (wrap (onto e) (parse_rule operand_rest ts)) (λ z. ending in_list b a z) in
    let over : Out = Some (sentence b (moved a e) (Right Nothing), ts) in
    ap (λ c. pick c ended_by (pick (sees at_postfix_mark ts) going over)) h ∙ ap (λ c. pick c going over) k ∙ ap (λ o. then_by o (λ z. ending in_list b a z)) got

-- AN EXPRESSION AS A STATEMENT
pub by_block : (in_list : Bool) (a e : Syntax) (ts m : Stream) → sees at_block_like ts ≡ true → parse_rule block_like ts ≡ Some (Node e, m) → core e ≡ e → expression_statement in_list a ts ≡ following_block in_list false a e m
by_block in_list a e ts m h k c = rw h (ap (λ o. then_by (wrap core o) (following_block in_list false a)) k ∙ ap (λ s. following_block in_list false a s m) c)

pub by_expression : (in_list : Bool) (a e : Syntax) (ts m : Stream) → sees at_block_like ts ≡ false → parse_rule whole_expression ts ≡ Some (Node e, m) → core e ≡ e → expression_statement in_list a ts ≡ ending in_list false a e m
by_expression in_list a e ts m h k c = rw h (ap (λ o. then_by (wrap core o) (ending in_list false a)) k ∙ ap (λ s. ending in_list false a s m) c)
