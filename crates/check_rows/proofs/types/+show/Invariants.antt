use Rattle.check_rows.proofs.types.+show.Given as goal

abbrev pub decreases-show_type : goal.decreases-show_type
decreases-show_type l = l.depth

abbrev pub decreases-show_types : goal.decreases-show_types
decreases-show_types l = l.depth

abbrev pub decreases-show_type_path : goal.decreases-show_type_path
decreases-show_type_path l = l.depth

abbrev pub decreases-show_path : goal.decreases-show_path
decreases-show_path l = l.depth

abbrev pub decreases-show_arguments : goal.decreases-show_arguments
decreases-show_arguments l = l.depth

abbrev pub decreases-show_return : goal.decreases-show_return
decreases-show_return l = l.depth

abbrev pub decreases-show_argument : goal.decreases-show_argument
decreases-show_argument l = l.depth
