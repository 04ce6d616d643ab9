use Rattle.syn_lower.specs.Sizes.{tree_size}
use Rattle.syn_expr.specs.Expressions.{syntax_of_Expr}
use Rattle.syn_expr.proofs.trees.moving.+move_down.Given as goal

abbrev pub decreases-move_down : goal.decreases-move_down
decreases-move_down l = tree_size (syntax_of_Expr l.expr.now)
