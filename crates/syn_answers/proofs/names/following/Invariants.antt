use Rattle.std.proofs.Common.{◌≡◌, ◌+◌}
use Rattle.syn_grammar.specs.Take.{length}
use Rattle.syn_grammar.specs.Listed.{past}
use Rattle.syn_answers.specs.Listing.{marker_of}
use Rattle.syn_answers.proofs.names.following.Given as goal

abbrev pub invariant-trees : goal.invariant-trees
invariant-trees l = (past (marker_of l.fn.marker) l.fn.trees ≡ past (marker_of l.fn.marker) l.rest) × (length l.rest + l._tree ≡ length l.fn.trees)
