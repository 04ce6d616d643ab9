-- Casts, comparisons, assignments, whole expressions, and what continues after an operand.
use Rattle.std.proofs.Common.{◌≡◌, Bool, true, false, List, [], ◌∷◌, Some, None, refl, sym, ap, ◌∙◌}
use Rattle.syn_grammar.specs.Words.{w_as, equals}
use Rattle.syn_grammar.specs.Tokens.{Stream, pick, no, at_word}
use Rattle.syn_grammar.specs.Shape.{Assign, Cast, operator}
use Rattle.syn_grammar.specs.Rules.{Rule, type, unary, unary_head, casts, cast, cast_head, bit_or, bit_or_head, compared, comparison, disjunction, disjunction_head, assigned, assigned_head, whole_expression, whole_expression_head, operand_rest}
use Rattle.syn_grammar.specs.Grammar.{word, Syntax, Nothing, Both, Node, Shaped}
use Rattle.syn_grammar.specs.Table.{at_equals_operator, at_unfinished}
use Rattle.syn_grammar.specs.Take.{Out, Parser, only, sees, take_mark, take_token}
use Rattle.syn_grammar.specs.Values.{core, onto, chained}
use Rattle.syn_grammar.specs.Run.{wrap, and_then, branch, parse_rule, parse_form}
use Rattle.syn_grammar.proofs.Shapes.{IsShaped, core_shaped, onto_shaped}
use Rattle.syn_grammar.proofs.Each.{casts_is, cast_is, cast_head_is, compared_is, compared_head_is, comparison_is, comparison_head_is, assigned_is, assigned_head_is, whole_expression_is, whole_expression_head_is, operand_rest_is}
use Rattle.syn_expr_parse.specs.Spots.{Spot, within}
use Rattle.syn_expr_parse.specs.declared.parsing.nested.Spot.TheVariants as Spot-m
use Rattle.syn_expr_parse.specs.Levels.{assignment_operators, comparison_operators, once_form, first_operator, continuing_once, chained_out, cast_out, assign_out, assigned_form, unfinished_out, whole_out, whole_form, then_core, rest_out, rest_rules, rest_form, IsLevel}
use Rattle.syn_expr_parse.specs.LevelSteps.{through_node, from_left, from_right, onto_both, one, one_more, once_step, level_is, level_at}

-- CASTS
pub casts_step : (a : Syntax) (ts : Stream) → wrap (onto a) (parse_rule casts ts) ≡ pick (sees (at_word w_as) ts) (cast_out a (take_token (word w_as) ts)) (Some (a, ts))
casts_step a ts = ap (wrap (onto a)) (casts_is ts) ∙ through_node a _ ∙ go (sees (at_word w_as) ts) (take_token (word w_as) ts)
  where
    read : (t : Out) → wrap (onto a) (and_then (wrap (Shaped (operator Cast)) (and_then t (parse_rule type))) (parse_rule casts)) ≡ cast_out a t
    read None = refl
    read (Some p) = one_more Cast a p.0 (parse_rule type p.1) (parse_rule casts)

    go : (b : Bool) (t : Out) → wrap (onto a) (branch b (and_then (wrap (Shaped (operator Cast)) (and_then t (parse_rule type))) (parse_rule casts)) (Some (Nothing, ts))) ≡ pick b (cast_out a t) (Some (a, ts))
    go true t = from_left a _ ∙ read t
    go false t = refl

pub cast_are : (p : Spot) (ts : Stream) → parse_rule (within p cast) ts ≡ chained_out (parse_rule (within p unary) ts) (parse_rule casts)
cast_are Spot-m.Anywhere = level_is unary casts cast cast_is
cast_are Spot-m.Head = level_is unary_head casts cast_head cast_head_is

-- COMPARISONS
pub compared_step : (p : Spot) (a : Syntax) (ts : Stream) → wrap (onto a) (parse_rule (within p compared) ts) ≡ continuing_once a ts (first_operator comparison_operators ts) (parse_rule (within p bit_or))
compared_step Spot-m.Anywhere a ts = ap (wrap (onto a)) (compared_is ts) ∙ through_node a _ ∙ once_step bit_or a comparison_operators ts
compared_step Spot-m.Head a ts = ap (wrap (onto a)) (compared_head_is ts) ∙ through_node a _ ∙ once_step bit_or_head a comparison_operators ts

pub comparison_are : IsLevel bit_or compared comparison
comparison_are = level_at bit_or compared comparison comparison_is comparison_head_is

-- ASSIGNMENTS
-- with a value of this rule
assigned_by : (k : Rule) (a : Syntax) (ts : Stream) → wrap (onto a) (parse_form (assigned_form k) ts)
    ≡ pick (sees at_equals_operator ts) (assign_out k a (take_mark equals ts)) (continuing_once a ts (first_operator assignment_operators ts) (parse_rule k))
assigned_by k a ts =
    go (sees at_equals_operator ts) (take_mark equals ts) (parse_form (once_form assignment_operators k) ts)
    ∙ ap (pick (sees at_equals_operator ts) (assign_out k a (take_mark equals ts))) (once_step k a assignment_operators ts)
  where
    read : (t : Out) → wrap (onto a) (wrap (Shaped (operator Assign)) (and_then t (parse_rule k))) ≡ assign_out k a t
    read None = refl
    read (Some p) = one Assign a p.0 (parse_rule k p.1)

    go : (b : Bool) (t o : Out) → wrap (onto a) (branch b (wrap (Shaped (operator Assign)) (and_then t (parse_rule k))) o) ≡ pick b (assign_out k a t) (wrap (onto a) o)
    go true t o = from_left a _ ∙ read t
    go false t o = from_right a o

pub assigned_step : (p : Spot) (a : Syntax) (ts : Stream) → wrap (onto a) (parse_rule (within p assigned) ts)
    ≡ pick (sees at_equals_operator ts) (assign_out (within p whole_expression) a (take_mark equals ts)) (continuing_once a ts (first_operator assignment_operators ts) (parse_rule (within p whole_expression)))
assigned_step Spot-m.Anywhere a ts = ap (wrap (onto a)) (assigned_is ts) ∙ through_node a _ ∙ assigned_by whole_expression a ts
assigned_step Spot-m.Head a ts = ap (wrap (onto a)) (assigned_head_is ts) ∙ through_node a _ ∙ assigned_by whole_expression_head a ts

-- WHOLE EXPRESSIONS
whole_by : (d k : Rule) (ts : Stream) → wrap Node (parse_form (whole_form d k) ts) ≡ whole_out k (parse_rule d ts)
whole_by d k ts = go (parse_rule d ts)
  where
    ending : Parser
    ending ts = branch (sees at_unfinished ts) None (Some (Nothing, ts))

    ended : (s x : Syntax) (m : Stream) (b : Bool) → wrap Node (wrap chained (wrap (Both s) (wrap (Both x) (branch b None (Some (Nothing, m)))))) ≡ only (no b) (Some (Node (onto (core s) x), m))
    ended s x m true = refl
    ended s x m false = refl

    following : (s : Syntax) (o : Out) → wrap Node (wrap chained (wrap (Both s) (and_then o ending))) ≡ unfinished_out (wrap (onto (core s)) o)
    following s None = refl
    following s (Some p) = ended s p.0 p.1 (sees at_unfinished p.1)

    go : (o : Out) → wrap Node (wrap chained (and_then o (λ ts. and_then (parse_rule k ts) ending))) ≡ whole_out k o
    go None = refl
    go (Some p) = following p.0 (parse_rule k p.1)

pub whole_are : (p : Spot) (ts : Stream) → parse_rule (within p whole_expression) ts ≡ whole_out (within p assigned) (parse_rule (within p disjunction) ts)
whole_are Spot-m.Anywhere ts = whole_expression_is ts ∙ whole_by disjunction assigned ts
whole_are Spot-m.Head ts = whole_expression_head_is ts ∙ whole_by disjunction_head assigned_head ts

-- AFTER AN OPERAND: postfixes and operators

-- a shape has nothing around it
shaped_core : (s : Syntax) → IsShaped s → core s ≡ s
shaped_core s (j, t, e) = ap core e ∙ sym e

then_onto : (a : Syntax) → IsShaped a → (o : Out) (q : Parser) (f : Syntax → Parser) → ((b : Syntax) (m : Stream) → IsShaped b → wrap (onto b) (q m) ≡ f b m) → wrap (onto a) (and_then o q) ≡ then_core (wrap (onto a) o) f
then_onto a h None q f e = refl
then_onto a h (Some p) q f e =
    let s = onto_shaped a p.0 h in
    onto_both a p.0 (q p.1) ∙ e (onto a p.0) p.1 s ∙ ap (λ z. f z p.1) (sym (shaped_core (onto a p.0) s))

rest_step : (k : Rule) (l : List Rule) (a : Syntax) (ts : Stream) → IsShaped a → wrap (onto a) (parse_form (rest_form k l) ts) ≡ rest_out k l a ts
rest_step k [] a ts h = refl
rest_step k (n ∷ l) a ts h = then_onto a h (parse_rule k ts) (parse_form (rest_form n l)) (rest_out n l) (λ b m s. rest_step n l b m s)

pub rest_are : (a : Syntax) (ts : Stream) → wrap (onto (core a)) (parse_rule operand_rest ts) ≡ rest_out rest_rules.0 rest_rules.1 (core a) ts
rest_are a ts = ap (wrap (onto (core a))) (operand_rest_is ts) ∙ through_node (core a) _ ∙ rest_step rest_rules.0 rest_rules.1 (core a) ts (core_shaped a)
