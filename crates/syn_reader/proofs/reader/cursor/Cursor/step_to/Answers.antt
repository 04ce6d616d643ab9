use Rattle.syn_reader.proofs.Places.{boundary_of_rest}
use Rattle.syn_reader.proofs.reader.cursor.Cursor.step_to.Goals as goal

pub invariant_of-self : goal.invariant_of-self
invariant_of-self c = record { boundary = boundary_of_rest _ _ c.args.self.now.offset c.requires c.utf8.rest }
