-- WHAT A CHAIN OF OPERATORS MAKES OF THE EXPRESSION BEFORE IT, one operator at a time; and what a level reads by its chain.
-- (The proofs are here, since each level cites them.)
use Rattle.std.proofs.Common.{◌≡◌, Bool, true, false, List, [], ◌∷◌, Some, None, refl, ap, ◌∙◌}
use Rattle.syn_grammar.specs.Tokens.{Stream, pick}
use Rattle.syn_grammar.specs.Shape.{Variant, Binary, operator, chain}
use Rattle.syn_grammar.specs.Rules.{Rule}
use Rattle.syn_grammar.specs.Grammar.{Syntax, Both, Left, Right, Node, Shaped, shaped, rule, ◌&◌}
use Rattle.syn_grammar.specs.Take.{Out, Parser, sees, take_mark}
use Rattle.syn_grammar.specs.Values.{core, onto, chained}
use Rattle.syn_grammar.specs.Run.{wrap, and_then, branch, parse_rule, parse_form}
use Rattle.syn_expr_parse.specs.Spots.{head_of}
use Rattle.syn_expr_parse.specs.Levels.{Operator, chain_form, once_form, first_operator, joined, then_more, going, continuing_once, chained_out, IsLevel, Steps}
use Rattle.syn_expr_parse.specs.declared.parsing.nested.Spot.TheVariants as Spot-m

-- a rule's Node is nothing to a chain
pub through_node : (a : Syntax) (o : Out) → wrap (onto a) (wrap Node o) ≡ wrap (onto a) o
through_node a None = refl
through_node a (Some p) = refl

-- nor is the side of a choice
pub from_left : (a : Syntax) (o : Out) → wrap (onto a) (wrap Left o) ≡ wrap (onto a) o
from_left a None = refl
from_left a (Some p) = refl

pub from_right : (a : Syntax) (o : Out) → wrap (onto a) (wrap Right o) ≡ wrap (onto a) o
from_right a None = refl
from_right a (Some p) = refl

pub onto_both : (a x : Syntax) (o : Out) → wrap (onto a) (wrap (Both x) o) ≡ wrap (onto (onto a x)) o
onto_both a x None = refl
onto_both a x (Some p) = refl

module _ (v : Variant) (a : Syntax) where
  -- an operator and its right operand, once or followed by more
  pub one : (x : Syntax) (p : Out) → wrap (onto a) (wrap (Shaped (operator v)) (wrap (Both x) p)) ≡ joined v a x p
  one x None = refl
  one x (Some p) = refl

  pub one_more : (x : Syntax) (p : Out) (more : Parser) → wrap (onto a) (and_then (wrap (Shaped (operator v)) (wrap (Both x) p)) more) ≡ then_more (joined v a x p) more
  one_more x None more = refl
  one_more x (Some p) more = onto_both a _ (more p.1)

module _ (k : Rule) (a : Syntax) where
  pub once_step : (l : List Operator) (ts : Stream) → wrap (onto a) (parse_form (once_form l k) ts) ≡ continuing_once a ts (first_operator l ts) (parse_rule k)
  once_step [] ts = refl
  once_step (o ∷ l) ts = go (sees o.0 ts) (take_mark o.1 ts) (once_step l ts)
    where
      read : (t : Out) → wrap (onto a) (wrap (Shaped (operator Binary)) (and_then t (parse_rule k))) ≡ continuing_once a ts (Some t) (parse_rule k)
      read None = refl
      read (Some p) = one Binary a p.0 (parse_rule k p.1)

      go : (b : Bool) (t : Out) → wrap (onto a) (parse_form (once_form l k) ts) ≡ continuing_once a ts (first_operator l ts) (parse_rule k) →
          wrap (onto a) (branch b (wrap (Shaped (operator Binary)) (and_then t (parse_rule k))) (parse_form (once_form l k) ts)) ≡ continuing_once a ts (pick b (Some t) (first_operator l ts)) (parse_rule k)
      go true t ih = from_left a _ ∙ read t
      go false t ih = from_right a _ ∙ ih

  module _ (more : Rule) where
    step : (l : List Operator) (ts : Stream) → wrap (onto a) (parse_form (chain_form l k more) ts) ≡ going a ts (first_operator l ts) (parse_rule k) (parse_rule more)
    step [] ts = refl
    step (o ∷ l) ts = go (sees o.0 ts) (take_mark o.1 ts) (step l ts)
      where
        read : (t : Out) → wrap (onto a) (and_then (wrap (Shaped (operator Binary)) (and_then t (parse_rule k))) (parse_rule more)) ≡ going a ts (Some t) (parse_rule k) (parse_rule more)
        read None = refl
        read (Some p) = one_more Binary a p.0 (parse_rule k p.1) (parse_rule more)

        go : (b : Bool) (t : Out) → wrap (onto a) (parse_form (chain_form l k more) ts) ≡ going a ts (first_operator l ts) (parse_rule k) (parse_rule more) →
            wrap (onto a) (branch b (and_then (wrap (Shaped (operator Binary)) (and_then t (parse_rule k))) (parse_rule more)) (parse_form (chain_form l k more) ts))
            ≡ going a ts (pick b (Some t) (first_operator l ts)) (parse_rule k) (parse_rule more)
        go true t ih = from_left a _ ∙ read t
        go false t ih = from_right a _ ∙ ih

-- of a chain that is read by its operators
pub chain_step : (l : List Operator) (k more : Rule) → ((ts : Stream) → parse_rule more ts ≡ wrap Node (parse_form (chain_form l k more) ts)) →
    (a : Syntax) (ts : Stream) → wrap (onto a) (parse_rule more ts) ≡ going a ts (first_operator l ts) (parse_rule k) (parse_rule more)
chain_step l k more h a ts = ap (wrap (onto a)) (h ts) ∙ through_node a _ ∙ step k a more l ts

-- of a level: an operand and its chain
pub level : (o : Out) (q : Parser) → wrap Node (wrap chained (and_then o q)) ≡ chained_out o q
level None q = refl
level (Some p) q = go (q p.1)
  where
    go : (z : Out) → wrap Node (wrap chained (wrap (Both p.0) z)) ≡ wrap Node (wrap (onto (core p.0)) z)
    go None = refl
    go (Some y) = refl

pub level_is : (k more whole : Rule) → ((ts : Stream) → parse_rule whole ts ≡ wrap Node (parse_form (shaped chain (rule k & rule more)) ts)) →
    (ts : Stream) → parse_rule whole ts ≡ chained_out (parse_rule k ts) (parse_rule more)
level_is k more whole h ts = h ts ∙ level (parse_rule k ts) (parse_rule more)

-- AT ANY SPOT, by the equations of the two rules

pub steps_at : (l : List Operator) (k more : Rule) → ((ts : Stream) → parse_rule more ts ≡ wrap Node (parse_form (chain_form l k more) ts)) →
    ((ts : Stream) → parse_rule (head_of more) ts ≡ wrap Node (parse_form (chain_form l (head_of k) (head_of more)) ts)) → Steps l k more
steps_at l k more h i Spot-m.Anywhere = chain_step l k more h
steps_at l k more h i Spot-m.Head = chain_step l (head_of k) (head_of more) i

pub level_at : (k more whole : Rule) → ((ts : Stream) → parse_rule whole ts ≡ wrap Node (parse_form (shaped chain (rule k & rule more)) ts)) →
    ((ts : Stream) → parse_rule (head_of whole) ts ≡ wrap Node (parse_form (shaped chain (rule (head_of k) & rule (head_of more))) ts)) → IsLevel k more whole
level_at k more whole h i Spot-m.Anywhere = level_is k more whole h
level_at k more whole h i Spot-m.Head = level_is (head_of k) (head_of more) (head_of whole) i
