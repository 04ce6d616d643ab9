use Rattle.syn_grammar.specs.Take.{left}
use Rattle.syn_pat.proofs.parsing.pat.+pattern_knot.Given as goal

abbrev pub decreases-nested_pattern : goal.decreases-nested_pattern
decreases-nested_pattern g l = left l.input.now
