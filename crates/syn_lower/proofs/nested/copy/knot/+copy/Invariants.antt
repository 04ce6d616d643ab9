use Rattle.syn_lower.specs.Sizes.{tree_size}
use Rattle.syn_lower.specs.Types.{syntax_of_Type}
use Rattle.syn_lower.proofs.nested.copy.knot.+copy.Given as goal

abbrev pub decreases-copy_type : goal.decreases-copy_type
decreases-copy_type l = tree_size (syntax_of_Type l.ty.now)
