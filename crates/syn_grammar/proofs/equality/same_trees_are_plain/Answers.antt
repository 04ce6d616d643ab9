use Rattle.syn_grammar.proofs.Same.{same_syntax_plain}
use Rattle.syn_grammar.proofs.equality.same_trees_are_plain.Goals as goal

pub returns : goal.returns
returns c = record { tested = same_syntax_plain }
