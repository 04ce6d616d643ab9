use Rattle.syn_expr.proofs.recursion.+knot.Given as goal

abbrev pub decreases-nested_expr : goal.decreases-nested_expr
decreases-nested_expr g l = l.inside.0

abbrev pub decreases-nested_statements : goal.decreases-nested_statements
decreases-nested_statements g l = l.inside.0
