use Rattle.std.proofs.lemmas.Str.{IsCharBoundary-start}
use Rattle.syn_reader.proofs.reader.cursor.Cursor.new.Goals as goal

pub invariant_of-result : goal.invariant_of-result
invariant_of-result c = record { boundary = IsCharBoundary-start _ c.utf8.text }
