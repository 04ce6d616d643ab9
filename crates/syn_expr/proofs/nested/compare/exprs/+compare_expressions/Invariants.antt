use Rattle.syn_lower.specs.Sizes.{tree_size}
use Rattle.syn_expr.specs.Expressions.{syntax_of_Expr}
use Rattle.syn_expr.proofs.nested.compare.exprs.+compare_expressions.Given as goal

abbrev pub decreases-is_same_expr : goal.decreases-is_same_expr
decreases-is_same_expr l = tree_size (syntax_of_Expr l.expr.now)
