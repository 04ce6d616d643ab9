-- WHICH RULE READS AN EXPRESSION INSIDE OF ANOTHER.
use Rattle.syn_grammar.specs.Shape.{choice}
use Rattle.syn_grammar.specs.Rules.{Rule, if_expression, unary, whole_expression}
use Rattle.syn_grammar.specs.Grammar.{Grammar, rule, shaped}
use Rattle.syn_expr_parse.specs.Spots.{within}
use Rattle.syn_expr_parse.specs.declared.parsing.nested.Rung.TheVariants as Rung-m

abbrev pub rule_of : Rung-m.the_data → Rule
rule_of (Rung-m.Whole spot) = within spot whole_expression
rule_of (Rung-m.Unary spot) = within spot unary
rule_of Rung-m.If = if_expression

-- an expression without its rule's node
abbrev pub expression_form : Grammar
expression_form = shaped choice (rule whole_expression)
