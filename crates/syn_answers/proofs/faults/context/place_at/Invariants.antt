use Rattle.syn_grammar.specs.Take.{left}
use Rattle.syn_answers.proofs.faults.context.place_at.Given as goal

abbrev pub decreases-trees : goal.decreases-trees
decreases-trees l = left l.place.trees
