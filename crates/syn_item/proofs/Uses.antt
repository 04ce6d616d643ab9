-- The tree of a use, printed and read.
use Rattle.std.proofs.Common.{◌≡◌, Bool, true, false, refl, sym, ap, ap₂, ◌∙◌, subst}
use Rattle.std.specs.Prelude.{Option, Some, None}
use Rattle.syn_grammar.specs.Tokens.{Stream, Brace, ◌⧺◌, at_mark, ended, group, end, no}
use Rattle.syn_grammar.specs.Words.{comma}
use Rattle.syn_grammar.specs.Rules.{root_mark, rooted_trees, use_item_rest, use_tree, use_trees, visibility}
use Rattle.syn_grammar.specs.Grammar.{Syntax, Nothing, Mark, Both, Left, Right, Node, Group, Such, Test, has_no, has_part, mark, print, rule}
use Rattle.syn_grammar.specs.Table.{table, at_brace, at_star}
use Rattle.syn_grammar.specs.Take.{Opened, Out, is_end, only, sees, take_group}
use Rattle.syn_grammar.specs.Run.{and_then, branch, close, parse_form, parse_rule, such_as, within, wrap}
use Rattle.syn_grammar.specs.UseGroups.{rooted}
use Rattle.syn_grammar.proofs.Each.{rooted_trees_is, use_item_rest_is, use_tree_is, use_trees_is}
use Rattle.syn_grammar.proofs.PlanSteps.{seen_apart}
use Rattle.syn_grammar.proofs.UseGroups.{use_groups}
use Rattle.syn_parse.specs.Form.{by, of}
use Rattle.syn_parse.specs.Listing.{IsList}
use Rattle.syn_parse.proofs.Listing.{wrap_wrap}
use Rattle.syn_tokens.specs.Kinds.{PathSep, path_sep_syntax}
use Rattle.syn_tokens.specs.Leaves.{maybe}
use Rattle.syn_tree.specs.Derive.{item_of}
use Rattle.syn_item.specs.UseForms.{glob_form, group_form, read_braced, read_plain, use_form, word_form}
use Rattle.syn_item.specs.Uses.{used}

-- trees with commas between them
pub use_trees_list : IsList use_trees (of (rule use_tree)) (by ended) (by (at_mark comma)) (of (mark false comma))
use_trees_list = record { is = use_trees_is }

-- trees in braces print alike, by whichever rule they are read
print_rooted : (s : Syntax) → print (rooted s) ≡ print s
print_rooted (Right (Both (Node t) (Left (Both c (Node l))))) = ap₂ (λ x y. x ⧺ (print c ⧺ y)) (print_rooted t) (print_rooted l)
print_rooted (Right (Both (Node t) (Right s))) = ap (λ x. x ⧺ print s) (print_rooted t)
print_rooted (Right (Left (Group d o c (Node l)))) = ap (λ x. group d o c x end) (print_rooted l)
print_rooted (Right (Right s)) = refl
print_rooted (Left (Mark xs)) = refl
print_rooted s = refl

pub print_used : (o : Option PathSep) (tree : Syntax) → print (used (maybe path_sep_syntax o) tree) ≡ print (maybe path_sep_syntax o) ⧺ print tree
print_used (Some sign) tree = refl
print_used None (Node (Right (Left (Group d o c (Node l))))) = ap (λ x. group d o c x end) (print_rooted l)
print_used None tree = refl

-- TREES IN BRACES after `use` are read by a rule of their own, as such trees of which none has `::` before it

-- as that rule reads a group of trees
abbrev rooted_group : Syntax → Syntax
rooted_group (Group d o c (Node l)) = Group d o c (Node (rooted l))
rooted_group s = s

abbrev none_rooted : Test
none_rooted = has_no root_mark

abbrev Found : Type 0
Found = Syntax × Stream

some_none : (x : Found) → ◌≡◌ {A = Out} (Some x) None → ⊥
some_none x d = cc d

module _ (g : Opened) where
  abbrev group_of : Syntax → Syntax
  group_of l = Group Brace g.opening g.closing (Node l)

  abbrev by_rooted : Out → Out
  by_rooted o = such_as none_rooted (close Brace g o)

  abbrev by_trees : Out → Out
  by_trees o = wrap (λ s. Such (rooted_group s)) (close Brace g o)

  both_read : (s : Syntax) (r : Stream) → has_part root_mark (rooted s) ≡ false → by_rooted (Some (Node (rooted s), r)) ≡ by_trees (Some (Node s, r))
  unfolding is_end
  both_read s r h = go (is_end r)
    where
      go : (b : Bool) → such_as none_rooted (only b (Some (group_of (rooted s), g.rest))) ≡ wrap (λ t. Such (rooted_group t)) (only b (Some (group_of s, g.rest)))
      go true = ap (λ b. only (no b) (Some (Such (group_of (rooted s)), g.rest))) h
      go false = refl

  rooted_refused : (s : Syntax) (r : Stream) → has_part root_mark s ≡ true → by_rooted (Some (Node s, r)) ≡ None
  unfolding is_end
  rooted_refused s r h = go (is_end r)
    where
      go : (b : Bool) → such_as none_rooted (only b (Some (Group Brace g.opening g.closing (Node s), g.rest))) ≡ None
      go true = ap (λ b. only (no b) (Some (Such (Group Brace g.opening g.closing (Node s)), g.rest))) h
      go false = refl

  trees_in : by_rooted (parse_rule rooted_trees g.content) ≡ by_trees (parse_rule use_trees g.content)
  trees_in = go (parse_form (table use_trees) g.content) (parse_form (table rooted_trees) g.content) (use_trees_is g.content) (rooted_trees_is g.content)
    where
      go : (x y : Out) → parse_rule use_trees g.content ≡ wrap Node x → parse_rule rooted_trees g.content ≡ wrap Node y → by_rooted (parse_rule rooted_trees g.content) ≡ by_trees (parse_rule use_trees g.content)
      go (Some p) y e f =
          let u = (use_groups g.content p.0 p.1).0 e in
          ap by_rooted u.0 ∙ both_read p.0 p.1 u.1.0 ∙ ap by_trees (sym e)
      go None None e f = ap by_rooted f ∙ ap by_trees (sym e)
      go None (Some q) e f = by_mark (has_part root_mark q.0) refl
        where
          by_mark : (b : Bool) → has_part root_mark q.0 ≡ b → by_rooted (parse_rule rooted_trees g.content) ≡ by_trees (parse_rule use_trees g.content)
          by_mark true h = ap by_rooted f ∙ rooted_refused q.0 q.1 h ∙ ap by_trees (sym e)
          by_mark false h = absurd (some_none _ (sym ((use_groups g.content q.0 q.1).1 f h).0 ∙ e))

first_turn : (b : Bool) (x y : Out) → b ≡ true → branch b x y ≡ wrap Left x
first_turn b x y e = ap (λ c. branch c x y) e

second_turn : (b : Bool) (x y : Out) → b ≡ false → branch b x y ≡ wrap Right y
second_turn b x y e = ap (λ c. branch c x y) e

-- a tree where braces are next
tree_in_braces : (ts : Stream) → sees at_brace ts ≡ true → parse_rule use_tree ts ≡ wrap Node (wrap Right (wrap Left (within Brace (take_group Brace ts) (parse_rule use_trees))))
tree_in_braces ts h =
    use_tree_is ts ∙ ap (wrap Node) (second_turn _ _ _ (seen_apart at_brace at_star ts refl h) ∙ ap (wrap Right) (first_turn _ _ _ h))

-- a result that is a group of a rule's result
abbrev IsGroup : Out → Type 0
IsGroup None = Unit {0}
IsGroup (Some (Group Brace o c (Node l), r)) = Unit {0}
IsGroup _ = ⊥

abbrev as_used : Syntax → Syntax
as_used t = used (Right Nothing) t

pub braced_trees : (ts : Stream) → sees at_brace ts ≡ true → read_braced ts ≡ wrap as_used (parse_rule use_tree ts)
unfolding read_braced
braced_trees ts h = ap (wrap Left) (go (take_group Brace ts)) ∙ wrap_wrap Left _ _ ∙ reported (within Brace (take_group Brace ts) (parse_rule use_trees)) (content_is (take_group Brace ts)) ∙ ap (wrap as_used) (sym (tree_in_braces ts h))
  where
    go : (o : Option Opened) → such_as none_rooted (within Brace o (parse_rule rooted_trees)) ≡ wrap (λ s. Such (rooted_group s)) (within Brace o (parse_rule use_trees))
    go None = refl
    go (Some g) = trees_in g

    content_is : (o : Option Opened) → IsGroup (within Brace o (parse_rule use_trees))
    content_is None = tt
    content_is (Some g) = by_rule (parse_form (table use_trees) g.content) (use_trees_is g.content)
      where
        by_rule : (x : Out) → parse_rule use_trees g.content ≡ wrap Node x → IsGroup (close Brace g (parse_rule use_trees g.content))
        by_rule None e = subst (λ o. IsGroup (close Brace g o)) (sym e) tt
        by_rule (Some p) e = subst (λ o. IsGroup (close Brace g o)) (sym e) (by_end (is_end p.1))
          where
            by_end : (b : Bool) → IsGroup (only b (Some (Group Brace g.opening g.closing (Node p.0), g.rest)))
            by_end true = tt
            by_end false = tt

    reported : (o : Out) → IsGroup o → wrap (λ s. Left (Such (rooted_group s))) o ≡ wrap as_used (wrap Node (wrap Right (wrap Left o)))
    reported None h = refl
    reported (Some (Group Brace o c (Node l), r)) h = refl
    reported (Some (s, r)) h = absurd h

-- A TREE WITHOUT `::` BEFORE IT, and not in braces
pub plain_trees : (ts : Stream) → sees at_brace ts ≡ false → read_plain ts ≡ wrap as_used (parse_rule use_tree ts)
unfolding read_plain
plain_trees ts h = go (sees at_star ts) refl
  where
    as_plain : Out → Out
    as_plain o = wrap Right (wrap (Both (Right Nothing)) o)

    starred : (o : Out) → as_plain (wrap Node (wrap Left o)) ≡ wrap as_used (wrap Node (wrap Left o))
    starred None = refl
    starred (Some p) = refl

    worded : (o : Out) → as_plain (wrap Node (wrap Right (wrap Right o))) ≡ wrap as_used (wrap Node (wrap Right (wrap Right o)))
    worded None = refl
    worded (Some p) = refl

    tree_is : (b : Bool) → sees at_star ts ≡ b → parse_rule use_tree ts ≡ wrap Node (branch b (parse_form glob_form ts) (branch false (parse_form group_form ts) (parse_form word_form ts)))
    tree_is b e = use_tree_is ts ∙ ap₂ (λ c d. wrap Node (branch c (parse_form glob_form ts) (branch d (parse_form group_form ts) (parse_form word_form ts)))) e h

    go : (b : Bool) → sees at_star ts ≡ b → as_plain (parse_rule use_tree ts) ≡ wrap as_used (parse_rule use_tree ts)
    go true e = subst (λ o. as_plain o ≡ wrap as_used o) (sym (tree_is true e)) (starred (parse_form glob_form ts))
    go false e = subst (λ o. as_plain o ≡ wrap as_used o) (sym (tree_is false e)) (worded (parse_form word_form ts))

-- A USE AFTER ITS ATTRIBUTES
module _ (a v : Syntax) where
  following : (o : Out) → wrap (Both a) (wrap Node (wrap (Both v) o)) ≡ wrap (item_of a v) o
  following None = refl
  following (Some p) = refl

  pub after_visibility : (ts m : Stream) → parse_rule visibility ts ≡ Some (v, m) → wrap (Both a) (parse_rule use_item_rest ts) ≡ wrap (item_of a v) (parse_form use_form m)
  after_visibility ts m e = ap (wrap (Both a)) (use_item_rest_is ts ∙ ap (λ o. wrap Node (and_then o (parse_form use_form))) e) ∙ following (parse_form use_form m)

pub visibility_refused : (ts : Stream) → parse_rule visibility ts ≡ None → parse_rule use_item_rest ts ≡ None
visibility_refused ts e = use_item_rest_is ts ∙ ap (λ o. wrap Node (and_then o (parse_form use_form))) e
