use Rattle.std.proofs.Common.{[], refl}
use Rattle.syn_reader.proofs.Spelling.{blank_here}
use Rattle.syn_reader.proofs.reader.trees.TreeBuilder.new.Goals as goal

-- no piece is read yet
pub returns : goal.returns
returns c = λ text. rw c.new.ensures ([], blank_here text 0, refl, tt)
