use Rattle.syn_grammar.specs.Take.{left}
use Rattle.syn_lower.proofs.parsing.recursion.+knot.Given as goal

abbrev pub decreases-nested_type : goal.decreases-nested_type
decreases-nested_type g l = left l.input.now
