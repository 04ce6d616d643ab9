use Rattle.syn_test_support.proofs.outline.uses.+show.Given as goal

abbrev pub decreases-show_tree : goal.decreases-show_tree
decreases-show_tree l = l.depth

abbrev pub decreases-show_trees : goal.decreases-show_trees
decreases-show_trees l = l.depth
