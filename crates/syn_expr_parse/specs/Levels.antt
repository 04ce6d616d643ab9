-- LEVELS OF OPERATORS: what a level's chain is read by, and what it makes of the expression that is before it.
use Rattle.std.specs.Prelude.{◌≡◌, ◌<◌, List, [], ◌∷◌, ◌++◌, Option, Some, None, Result, Ok, Err}
use Rattle.syn_grammar.specs.Words.{Text, star, slash, percent, plus, minus, less_less, greater_greater, ampersand, caret, bar, equal_equal, not_equals, less, greater, less_equals, greater_equals, and_and, or_or, plus_equals, minus_equals, star_equals, slash_equals, percent_equals, caret_equals, ampersand_equals, bar_equals, less_less_equals, greater_greater_equals, equals}
use Rattle.syn_grammar.specs.Tokens.{Stream, no, pick, Look, at_mark}
use Rattle.syn_grammar.specs.Shape.{Variant, Assign, Binary, Cast, operator, chain}
use Rattle.syn_grammar.specs.Rules.{Rule, type, postfixes, casts, products, sums, shifts, bit_ands, bit_xors, bit_ors, compared, conjunctions, disjunctions, assigned, whole_expression}
use Rattle.syn_grammar.specs.Grammar.{Syntax, Both, Node, Grammar, empty, ◌&◌, when◌then◌else◌, rule, shaped}
use Rattle.syn_grammar.specs.Forms.{never, punctuation}
use Rattle.syn_grammar.specs.Table.{at_star_operator, at_slash_operator, at_percent_operator, at_plus_operator, at_minus_operator, at_less_less_operator, at_greater_greater_operator, at_ampersand_operator, at_caret_operator, at_bar_operator, at_less_operator, at_greater_operator, at_equals_operator, at_unfinished}
use Rattle.syn_grammar.specs.Take.{Out, Parser, only, sees, take_mark, left}
use Rattle.syn_grammar.specs.Values.{core, onto, new}
use Rattle.syn_grammar.specs.Run.{wrap, parse_rule}
use Rattle.syn_expr_parse.specs.Spots.{Spot, within}

-- an operator: what has to be next, and the mark that is read there
abbrev pub Operator : Type 0
Operator = Look × Text

-- a mark that is no other one's beginning
abbrev pub whole_mark : Text → Operator
whole_mark x = (at_mark x, x)

abbrev pub product_operators : List Operator
product_operators = (at_star_operator, star) ∷ (at_slash_operator, slash) ∷ (at_percent_operator, percent) ∷ []

abbrev pub sum_operators : List Operator
sum_operators = (at_plus_operator, plus) ∷ (at_minus_operator, minus) ∷ []

abbrev pub shift_operators : List Operator
shift_operators = (at_less_less_operator, less_less) ∷ (at_greater_greater_operator, greater_greater) ∷ []

abbrev pub bit_and_operators : List Operator
bit_and_operators = (at_ampersand_operator, ampersand) ∷ []

abbrev pub bit_xor_operators : List Operator
bit_xor_operators = (at_caret_operator, caret) ∷ []

abbrev pub bit_or_operators : List Operator
bit_or_operators = (at_bar_operator, bar) ∷ []

abbrev pub comparison_operators : List Operator
comparison_operators =
    whole_mark equal_equal ∷ whole_mark not_equals ∷ (at_less_operator, less) ∷ (at_greater_operator, greater) ∷ whole_mark less_equals ∷ whole_mark greater_equals ∷ []

abbrev pub conjunction_operators : List Operator
conjunction_operators = whole_mark and_and ∷ []

abbrev pub disjunction_operators : List Operator
disjunction_operators = whole_mark or_or ∷ []

abbrev pub arithmetic_assignments : List Operator
arithmetic_assignments =
    whole_mark plus_equals ∷ whole_mark minus_equals ∷ whole_mark star_equals ∷ whole_mark slash_equals ∷ whole_mark percent_equals ∷ []

abbrev pub bit_assignments : List Operator
bit_assignments =
    whole_mark caret_equals ∷ whole_mark ampersand_equals ∷ whole_mark bar_equals ∷ whole_mark less_less_equals ∷ whole_mark greater_greater_equals ∷ []

abbrev pub assignment_operators : List Operator
assignment_operators = arithmetic_assignments ++ bit_assignments

-- an operator and its right operand, and more of them
abbrev pub chain_form : List Operator → Rule → Rule → Grammar
chain_form [] k more = empty
chain_form (o ∷ l) k more = when o.0 then shaped (operator Binary) (punctuation o.1 & rule k) & rule more else chain_form l k more

-- an operator and its right operand, once at most
abbrev pub once_form : List Operator → Rule → Grammar
once_form [] k = empty
once_form (o ∷ l) k = when o.0 then shaped (operator Binary) (punctuation o.1 & rule k) else once_form l k

-- what is read of the first operator that is next; None if there is none
abbrev pub first_operator : List Operator → Stream → Option Out
first_operator [] ts = None
first_operator (o ∷ l) ts = pick (sees o.0 ts) (Some (take_mark o.1 ts)) (first_operator l ts)

-- what reads an operator returns it, or None where none is next; or it is refused, and none can be read
abbrev pub ReadsOperator : {X E : Type 0} → (E → Type 0) → (X → Syntax) → List Operator → Stream → Result (Option X) E → Stream → Type 0
ReadsOperator refusal view l old (Ok (Some x)) new = (first_operator l old ≡ Some (Some (view x, new))) × (left new < left old)
ReadsOperator refusal view l old (Ok None) new = (first_operator l old ≡ None) × (new ≡ old)
ReadsOperator refusal view l old (Err e) new = refusal e → first_operator l old ≡ Some None

-- FROM THE EXPRESSION a THAT PRECEDES IT

-- an operator and what is read right of it make a new expression
abbrev pub joined : Variant → Syntax → Syntax → Out → Out
joined v a o (Some p) = Some (new v (Both a (Both o p.0)), p.1)
joined v a o None = None

-- and the chain continues
abbrev pub then_more : Out → Parser → Out
then_more (Some p) more = wrap (onto p.0) (more p.1)
then_more None more = None

-- by what was read of an operator: more of the chain, or none
abbrev pub going : Syntax → Stream → Option Out → Parser → Parser → Out
going a ts (Some (Some o)) operand more = then_more (joined Binary a o.0 (operand o.1)) more
going a ts (Some None) operand more = None
going a ts None operand more = Some (a, ts)

-- once at most
abbrev pub continuing_once : Syntax → Stream → Option Out → Parser → Out
continuing_once a ts (Some (Some o)) operand = joined Binary a o.0 (operand o.1)
continuing_once a ts (Some None) operand = None
continuing_once a ts None operand = Some (a, ts)

-- an operand and its chain
abbrev pub chained_out : Out → Parser → Out
chained_out (Some p) more = wrap Node (wrap (onto (core p.0)) (more p.1))
chained_out None more = None

-- `as` and what is read after it
abbrev pub cast_out : Syntax → Out → Out
cast_out a (Some o) = then_more (joined Cast a o.0 (parse_rule type o.1)) (parse_rule casts)
cast_out a None = None

-- what is assigned, by this rule, and a whole expression, by those of its parts
abbrev pub assigned_form : Rule → Grammar
assigned_form k = when at_equals_operator then shaped (operator Assign) (punctuation equals & rule k) else once_form assignment_operators k

abbrev pub whole_form : Rule → Rule → Grammar
whole_form d k = shaped chain (rule d & rule k & (when at_unfinished then never else empty))

-- `=` and what is read after it, by this rule
abbrev pub assign_out : Rule → Syntax → Out → Out
assign_out k a (Some o) = joined Assign a o.0 (parse_rule k o.1)
assign_out k a None = None

-- no postfix and no comparison follows a whole expression
abbrev pub unfinished_out : Out → Out
unfinished_out (Some p) = only (no (sees at_unfinished p.1)) (Some (Node p.0, p.1))
unfinished_out None = None

-- of a disjunction, and what is assigned to it, by this rule
abbrev pub whole_out : Rule → Out → Out
whole_out k (Some p) = unfinished_out (wrap (onto (core p.0)) (parse_rule k p.1))
whole_out k None = None

-- AFTER AN OPERAND: one chain after another

abbrev pub rest_rules : Rule × List Rule
rest_rules = (postfixes, casts ∷ products ∷ sums ∷ shifts ∷ bit_ands ∷ bit_xors ∷ bit_ors ∷ compared ∷ conjunctions ∷ disjunctions ∷ assigned ∷ [])

abbrev pub rest_form : Rule → List Rule → Grammar
rest_form k [] = rule k
rest_form k (n ∷ l) = rule k & rest_form n l

-- what was read so far is what the next chain continues
abbrev pub then_core : Out → (Syntax → Parser) → Out
then_core (Some p) f = f (core p.0) p.1
then_core None f = None

abbrev pub rest_out : Rule → List Rule → Syntax → Parser
rest_out k [] a ts = wrap (onto a) (parse_rule k ts)
rest_out k (n ∷ l) a ts = then_core (wrap (onto a) (parse_rule k ts)) (rest_out n l)

-- AT ANY SPOT

-- what a chain makes of the expression before it, one operator at a time
abbrev pub Steps : List Operator → Rule → Rule → Type 0
Steps l operand more =
    (p : Spot) (a : Syntax) (ts : Stream) → wrap (onto a) (parse_rule (within p more) ts) ≡ going a ts (first_operator l ts) (parse_rule (within p operand)) (parse_rule (within p more))

-- a level is an operand and its chain
abbrev pub IsLevel : Rule → Rule → Rule → Type 0
IsLevel operand more whole = (p : Spot) (ts : Stream) → parse_rule (within p whole) ts ≡ chained_out (parse_rule (within p operand) ts) (parse_rule (within p more))
