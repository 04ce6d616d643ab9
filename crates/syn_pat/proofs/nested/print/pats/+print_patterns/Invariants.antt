use Rattle.syn_lower.specs.Sizes.{tree_size}
use Rattle.syn_pat.specs.Patterns.{syntax_of_Pat}
use Rattle.syn_pat.proofs.nested.print.pats.+print_patterns.Given as goal

abbrev pub decreases-print_pat : goal.decreases-print_pat
decreases-print_pat l = tree_size (syntax_of_Pat l.pat.now)
