use Rattle.std.specs.Prelude.{map}
use Rattle.syn_grammar.specs.Listed.{ListedSoFar}
use Rattle.syn_grammar.specs.Take.{left}
use Rattle.syn_answers.specs.Listing.{entry_of}
use Rattle.syn_answers.proofs.list.listed_to_end.Given as goal

abbrev pub invariant-items : goal.invariant-items
invariant-items l = ListedSoFar l.fn.tokens (map entry_of l.list.items) l.input

abbrev pub decreases-items : goal.decreases-items
decreases-items l = left l.input
