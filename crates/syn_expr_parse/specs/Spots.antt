-- THE PLACE OF AN EXPRESSION. In the head of an `if`, a `while` or a `for` a path takes no braces: each rule of expressions has another
-- there, which is the same but for that.
use Rattle.syn_grammar.specs.Rules.{Rule, primary, unary, cast, products, product, sums, sum, shifts, shift, bit_ands, bit_and, bit_xors, bit_xor, bit_ors, bit_or, compared, comparison, conjunctions, conjunction, disjunctions, disjunction, assigned, whole_expression, primary_head, unary_head, cast_head, products_head, product_head, sums_head, sum_head, shifts_head, shift_head, bit_ands_head, bit_and_head, bit_xors_head, bit_xor_head, bit_ors_head, bit_or_head, compared_head, comparison_head, conjunctions_head, conjunction_head, disjunctions_head, disjunction_head, assigned_head, whole_expression_head}
use Rattle.syn_expr_parse.specs.declared.parsing.nested.Spot.TheVariants as Spot-m

abbrev pub Spot : Type 0
Spot = Spot-m.the_data

-- the rule of heads
abbrev pub head_of : Rule → Rule
head_of primary = primary_head
head_of unary = unary_head
head_of cast = cast_head
head_of products = products_head
head_of product = product_head
head_of sums = sums_head
head_of sum = sum_head
head_of shifts = shifts_head
head_of shift = shift_head
head_of bit_ands = bit_ands_head
head_of bit_and = bit_and_head
head_of bit_xors = bit_xors_head
head_of bit_xor = bit_xor_head
head_of bit_ors = bit_ors_head
head_of bit_or = bit_or_head
head_of compared = compared_head
head_of comparison = comparison_head
head_of conjunctions = conjunctions_head
head_of conjunction = conjunction_head
head_of disjunctions = disjunctions_head
head_of disjunction = disjunction_head
head_of assigned = assigned_head
head_of whole_expression = whole_expression_head
head_of k = k

-- the rule of this spot
abbrev pub within : Spot → Rule → Rule
within Spot-m.Anywhere k = k
within Spot-m.Head k = head_of k
