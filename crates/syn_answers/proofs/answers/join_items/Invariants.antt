use Rattle.std.specs.Prelude.{drop}
use Rattle.syn_answers.specs.Joining.{JoinedSoFar}
use Rattle.syn_answers.proofs.answers.join_items.Given as goal

abbrev pub invariant-pieces : goal.invariant-pieces
invariant-pieces l = JoinedSoFar l.fn.pieces (drop l.piece-index l.fn.pieces) l.joined
