use Rattle.syn_test_support.proofs.outline.types.+show.Given as goal

abbrev pub decreases-show_type : goal.decreases-show_type
decreases-show_type l = l.depth

abbrev pub decreases-show_group : goal.decreases-show_group
decreases-show_group l = l.depth

abbrev pub decreases-show_types : goal.decreases-show_types
decreases-show_types l = l.depth

abbrev pub decreases-show_self : goal.decreases-show_self
decreases-show_self l = l.depth

abbrev pub decreases-show_words : goal.decreases-show_words
decreases-show_words l = l.depth

abbrev pub decreases-show_segment : goal.decreases-show_segment
decreases-show_segment l = l.depth

abbrev pub decreases-show_arguments : goal.decreases-show_arguments
decreases-show_arguments l = l.depth

abbrev pub decreases-show_angle : goal.decreases-show_angle
decreases-show_angle l = l.depth

abbrev pub decreases-show_argument : goal.decreases-show_argument
decreases-show_argument l = l.depth

abbrev pub decreases-show_return : goal.decreases-show_return
decreases-show_return l = l.depth
