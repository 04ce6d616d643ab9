-- Uses, by the plan of items: with `::` before a tree of their braces they are kept verbatim.
use Rattle.std.proofs.Common.{◌≡◌, Bool, true, false, [], ◌∷◌, Some, None, refl, sym, ap, subst, ◌∙◌, true≢false}
use Rattle.syn_grammar.specs.Words.{colons, semicolon, w_pub, w_use}
use Rattle.syn_grammar.specs.Tokens.{Brace, Stream, at_empty_group, at_word, no, or}
use Rattle.syn_grammar.specs.Rules.{Rule, root_mark, rooted_trees, use_item, use_item_rest, use_tree}
use Rattle.syn_grammar.specs.Grammar.{Grammar, Syntax, Both, Left, Right, Node, Case, Such, empty, has_no, has_part, inside, rule, such, when◌then◌else◌, word, ◌&◌}
use Rattle.syn_grammar.specs.Forms.{plainly, punctuation}
use Rattle.syn_grammar.specs.Table.{at_brace, at_colons}
use Rattle.syn_grammar.specs.Take.{Out, only, sees, take_mark, take_token}
use Rattle.syn_grammar.specs.Run.{and_then, branch, parse_form, parse_rule, such_as, wrap}
use Rattle.syn_grammar.specs.Plan.{by_test, follow, kept_as, run_plan}
use Rattle.syn_grammar.specs.ItemPlan.{inherited, kept_end, use_plan}
use Rattle.syn_grammar.proofs.Each.{use_item_rest_is}
use Rattle.syn_grammar.proofs.PlanSteps.{seen_apart}
use Rattle.syn_parse.specs.Peeks.{past}
use Rattle.syn_item.specs.NextWords.{IsRootedGroup}
use Rattle.syn_item.specs.Planned.{OnlyKept}
use Rattle.syn_item.proofs.ImplPlans.{none_written}
use Rattle.syn_item.proofs.MemberFunctions.{past_word}

abbrev group_form : Grammar
group_form = inside Brace (rule rooted_trees)

abbrev colons_form : Grammar
colons_form = when at_colons then punctuation colons else empty

abbrev end_form : Grammar
end_form = punctuation semicolon

abbrev used_form : Grammar
used_form = when at_brace then such (has_no root_mark) group_form else colons_form & rule use_tree

module _ (k : Rule) (ts : Stream) (a v : Syntax) (m : Stream) (at_use : sees (at_word w_use) m ≡ true) where
  abbrev run : Out
  run = run_plan (use_plan a v) k ts m

  abbrev value : Syntax → Syntax → Syntax → Syntax
  value w u z = Node (Case use_item (Both a (Node (Both v (Both w (Both u z))))))

  abbrev of_use : Out → Out
  of_use o = wrap (λ t. Node (Case use_item t)) (wrap (λ s. Both a (Node (Both v s))) o)

  -- what is read after `use`
  abbrev following_word : Syntax → Stream → Bool → Out
  following_word w r b = of_use (wrap (Both w) (and_then (branch b (such_as (has_no root_mark) (parse_form group_form r)) (parse_form (colons_form & rule use_tree) r)) (parse_form end_form)))

  abbrev last : Syntax → Syntax → Out → Out
  last w u o = follow (λ z q. Some (value w u z, q)) o

  ends : (w u : Syntax) (o : Out) → last w u o ≡ of_use (wrap (Both w) (wrap (Both u) o))
  ends w u None = refl
  ends w u (Some p) = refl

  -- A TREE
  abbrev tree_goes : Syntax → Stream → Out
  tree_goes w r = follow (λ c q. follow (λ t n. last w (Right (Both c t)) (take_mark semicolon n)) (parse_rule use_tree q)) (parse_form colons_form r)

  tree_is : (w : Syntax) (r : Stream) → tree_goes w r ≡ following_word w r false
  tree_is w r = go (parse_form colons_form r)
    where
      trees : (c : Syntax) (o : Out) → follow (λ t n. last w (Right (Both c t)) (take_mark semicolon n)) o ≡ of_use (wrap (Both w) (and_then (wrap Right (wrap (Both c) o)) (parse_form end_form)))
      trees c None = refl
      trees c (Some p) = ends w (Right (Both c p.0)) (take_mark semicolon p.1)

      go : (o : Out) → follow (λ c q. follow (λ t n. last w (Right (Both c t)) (take_mark semicolon n)) (parse_rule use_tree q)) o ≡ of_use (wrap (Both w) (and_then (wrap Right (and_then o (parse_rule use_tree))) (parse_form end_form)))
      go None = refl
      go (Some p) = trees p.0 (parse_rule use_tree p.1)

  -- TREES IN BRACES
  abbrev kept_or_read : Syntax → Syntax → Stream → Bool → Out
  kept_or_read w t n b = by_test b (follow (λ z q. Some (kept_as k ts q, q)) (take_mark semicolon n)) (last w (Left (Such t)) (take_mark semicolon n))

  abbrev group_goes : Syntax → Out → Out
  group_goes w o = follow (λ t n. kept_or_read w t n (has_part root_mark t)) o

  abbrev as_group : Syntax → Out → Out
  as_group w o = of_use (wrap (Both w) (and_then (wrap Left (such_as (has_no root_mark) o)) (parse_form end_form)))

  -- where the rule reads something, or nothing
  group_is : (w : Syntax) (o : Out) (p : Syntax × Stream) → as_group w o ≡ Some p → group_goes w o ≡ as_group w o
  group_is w None p e = refl
  group_is w (Some q) p e = go (has_part root_mark q.0) e
    where
      go : (b : Bool) → of_use (wrap (Both w) (and_then (wrap Left (only (no b) (Some (Such q.0, q.1)))) (parse_form end_form))) ≡ Some p →
          kept_or_read w q.0 q.1 b ≡ of_use (wrap (Both w) (and_then (wrap Left (only (no b) (Some (Such q.0, q.1)))) (parse_form end_form)))
      go true i = absurd (cc i)
      go false i = ends w (Left (Such q.0)) (take_mark semicolon q.1)

  only_kept : (o : Out) → OnlyKept k ts (follow (λ z q. Some (kept_as k ts q, q)) o)
  only_kept None = tt
  only_kept (Some p) = refl

  group_kept : (w : Syntax) (o : Out) → as_group w o ≡ None → OnlyKept k ts (group_goes w o)
  group_kept w None e = tt
  group_kept w (Some q) e = go (has_part root_mark q.0) e
    where
      nothing : (o : Out) → of_use (wrap (Both w) (wrap (Both (Left (Such q.0))) o)) ≡ None → OnlyKept k ts (last w (Left (Such q.0)) o)
      nothing None i = tt
      nothing (Some p) i = absurd (cc i)

      go : (b : Bool) → of_use (wrap (Both w) (and_then (wrap Left (only (no b) (Some (Such q.0, q.1)))) (parse_form end_form))) ≡ None → OnlyKept k ts (kept_or_read w q.0 q.1 b)
      go true i = only_kept (take_mark semicolon q.1)
      go false i = nothing (take_mark semicolon q.1) i

  -- AFTER THE WORD
  abbrev words : Syntax → Stream → Bool → Out
  words w r b = by_test b (group_goes w (parse_form group_form r)) (tree_goes w r)

  run_is : run ≡ follow (λ w r. words w r (sees at_brace r)) (take_token (word w_use) m)
  unfolding use_plan kept_end
  run_is = refl

  abbrev whole : Out
  whole = of_use (parse_form (plainly (word w_use) & used_form & punctuation semicolon) m)

  rest_read : parse_rule use_item_rest m ≡ wrap Node (wrap (Both inherited) (parse_form (plainly (word w_use) & used_form & punctuation semicolon) m))
  rest_read =
      use_item_rest_is m
      ∙ ap (λ o. wrap Node (and_then o (parse_form (plainly (word w_use) & used_form & punctuation semicolon))))
      (none_written m (ap (λ b. or b (sees at_empty_group m)) (seen_apart (at_word w_use) (at_word w_pub) m refl at_use) ∙ seen_apart (at_word w_use) at_empty_group m refl at_use))

  none_whole : (o : Out) → wrap Node (wrap (Both inherited) o) ≡ None → of_use o ≡ None
  none_whole None e = refl
  none_whole (Some p) e = absurd (cc e)

  abbrev Found : Out → Type 0
  Found o = (p : Syntax × Stream) × (o ≡ Some p)

  some_whole : (o : Out) (q : Syntax × Stream) → wrap Node (wrap (Both inherited) o) ≡ Some q → Found (of_use o)
  some_whole None q e = absurd (cc e)
  some_whole (Some p) q e = (_, refl)

  pub rooted_kept : IsRootedGroup true m → OnlyKept k ts run
  rooted_kept h = subst (OnlyKept k ts) (sym run_is) (go (take_token (word w_use) m) refl (none_whole (parse_form (plainly (word w_use) & used_form & punctuation semicolon) m) (sym rest_read ∙ h.1)))
    where
      go : (o : Out) → take_token (word w_use) m ≡ o → of_use (and_then o (parse_form (used_form & punctuation semicolon))) ≡ None → OnlyKept k ts (follow (λ w r. words w r (sees at_brace r)) o)
      go None e i = tt
      go (Some p) e i =
          let b : sees at_brace p.1 ≡ true = ap (sees at_brace) (sym (past_word w_use m p e)) ∙ h.0 in
          subst (OnlyKept k ts) (sym (ap (words p.0 p.1) b)) (group_kept p.0 (parse_form group_form p.1) (sym (ap (following_word p.0 p.1) b) ∙ i))

  goes : IsRootedGroup false m → run ≡ whole
  goes h = run_is ∙ go (take_token (word w_use) m) refl
    where
      go : (o : Out) → take_token (word w_use) m ≡ o → follow (λ w r. words w r (sees at_brace r)) o ≡ of_use (and_then o (parse_form (used_form & punctuation semicolon)))
      go None e = refl
      go (Some p) e = by_brace (sees at_brace p.1) refl
        where
          found : sees at_brace p.1 ≡ true → Found (as_group p.0 (parse_form group_form p.1))
          found b =
              let (q, i) = h (ap (sees at_brace) (past_word w_use m p e) ∙ b) in
              let (x, j) = some_whole (parse_form (plainly (word w_use) & used_form & punctuation semicolon) m) q (sym rest_read ∙ i) in
              (x, sym (ap (following_word p.0 p.1) b) ∙ sym (ap (λ o. of_use (and_then o (parse_form (used_form & punctuation semicolon)))) e) ∙ j)

          by_brace : (b : Bool) → sees at_brace p.1 ≡ b → words p.0 p.1 (sees at_brace p.1) ≡ following_word p.0 p.1 (sees at_brace p.1)
          by_brace true b = let (x, j) = found b in ap (words p.0 p.1) b ∙ group_is p.0 (parse_form group_form p.1) x j ∙ sym (ap (following_word p.0 p.1) b)
          by_brace false b = ap (words p.0 p.1) b ∙ tree_is p.0 p.1 ∙ sym (ap (following_word p.0 p.1) b)

  pub use_read : IsRootedGroup false m → (t : Syntax) (r : Stream) → wrap (λ s. Both a (Node (Both v s))) (parse_form (plainly (word w_use) & used_form & punctuation semicolon) m) ≡ Some (t, r) → run ≡ Some (Node (Case use_item t), r)
  use_read h t r e = goes h ∙ ap (wrap (λ t. Node (Case use_item t))) e

  pub use_refused : IsRootedGroup false m → wrap (λ s. Both a (Node (Both v s))) (parse_form (plainly (word w_use) & used_form & punctuation semicolon) m) ≡ None → run ≡ None
  use_refused h e = goes h ∙ ap (wrap (λ t. Node (Case use_item t))) e
