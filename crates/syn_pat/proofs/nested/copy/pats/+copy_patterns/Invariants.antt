use Rattle.syn_lower.specs.Sizes.{tree_size}
use Rattle.syn_pat.specs.Patterns.{syntax_of_Pat}
use Rattle.syn_pat.proofs.nested.copy.pats.+copy_patterns.Given as goal

abbrev pub decreases-copy_pat : goal.decreases-copy_pat
decreases-copy_pat l = tree_size (syntax_of_Pat l.pat.now)
