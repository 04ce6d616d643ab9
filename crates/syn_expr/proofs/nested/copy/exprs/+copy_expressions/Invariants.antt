use Rattle.syn_lower.specs.Sizes.{tree_size}
use Rattle.syn_expr.specs.Expressions.{syntax_of_Expr}
use Rattle.syn_expr.proofs.nested.copy.exprs.+copy_expressions.Given as goal

abbrev pub decreases-copy_expr : goal.decreases-copy_expr
decreases-copy_expr l = tree_size (syntax_of_Expr l.expr.now)
