use Rattle.syn_grammar.specs.Take.{left}
use Rattle.syn_tree.proofs.data.parsing.+read_fields_named.Given as goal

abbrev pub decreases-read_fields_named : goal.decreases-read_fields_named
decreases-read_fields_named g l = left l.input.now
