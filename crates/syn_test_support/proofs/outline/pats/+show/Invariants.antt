use Rattle.syn_test_support.proofs.outline.pats.+show.Given as goal

abbrev pub decreases-show_pat : goal.decreases-show_pat
decreases-show_pat l = l.depth

abbrev pub decreases-show_pats : goal.decreases-show_pats
decreases-show_pats l = l.depth
