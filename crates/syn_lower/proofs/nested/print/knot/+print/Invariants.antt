use Rattle.syn_lower.specs.Sizes.{tree_size}
use Rattle.syn_lower.specs.Types.{syntax_of_Type}
use Rattle.syn_lower.proofs.nested.print.knot.+print.Given as goal

abbrev pub decreases-print_type : goal.decreases-print_type
decreases-print_type l = tree_size (syntax_of_Type l.ty.now)
