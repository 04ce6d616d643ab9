use Rattle.syn_lower.specs.Sizes.{tree_size}
use Rattle.syn_expr.specs.Expressions.{syntax_of_Expr}
use Rattle.syn_expr.proofs.nested.print.exprs.+print_expressions.Given as goal

abbrev pub decreases-print_expr : goal.decreases-print_expr
decreases-print_expr l = tree_size (syntax_of_Expr l.expr.now)
