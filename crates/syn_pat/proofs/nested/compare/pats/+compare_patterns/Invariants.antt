use Rattle.syn_lower.specs.Sizes.{tree_size}
use Rattle.syn_pat.specs.Patterns.{syntax_of_Pat}
use Rattle.syn_pat.proofs.nested.compare.pats.+compare_patterns.Given as goal

abbrev pub decreases-is_same_pat : goal.decreases-is_same_pat
decreases-is_same_pat l = tree_size (syntax_of_Pat l.pat.now)
