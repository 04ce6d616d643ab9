use Rattle.syn_test_support.proofs.outline.exprs.+show.Given as goal

abbrev pub decreases-show_expr : goal.decreases-show_expr
decreases-show_expr l = l.depth

abbrev pub decreases-show_operation : goal.decreases-show_operation
decreases-show_operation l = l.depth

abbrev pub decreases-show_postfix : goal.decreases-show_postfix
decreases-show_postfix l = l.depth

abbrev pub decreases-show_group : goal.decreases-show_group
decreases-show_group l = l.depth

abbrev pub decreases-show_braces : goal.decreases-show_braces
decreases-show_braces l = l.depth

abbrev pub decreases-show_loop : goal.decreases-show_loop
decreases-show_loop l = l.depth

abbrev pub decreases-show_exprs : goal.decreases-show_exprs
decreases-show_exprs l = l.depth

abbrev pub decreases-show_block : goal.decreases-show_block
decreases-show_block l = l.depth

abbrev pub decreases-show_stmt : goal.decreases-show_stmt
decreases-show_stmt l = l.depth

abbrev pub decreases-show_local : goal.decreases-show_local
decreases-show_local l = l.depth
