use Rattle.syn_lower.specs.Sizes.{tree_size}
use Rattle.syn_lower.specs.Types.{syntax_of_Type}
use Rattle.syn_lower.proofs.nested.compare.knot.+compare.Given as goal

abbrev pub decreases-is_same_type : goal.decreases-is_same_type
decreases-is_same_type l = tree_size (syntax_of_Type l.ty.now)
