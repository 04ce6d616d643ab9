use Rattle.syn_reader.specs.Places.{left, Onward}
use Rattle.syn_reader.proofs.Scans.{Hashed}
use Rattle.syn_reader.proofs.reader.lexer.Lexer.skip_hashes.Given as goal

abbrev pub invariant-loop : goal.invariant-loop
invariant-loop l = Onward l.fn.self.cursor l.self.cursor × Hashed l.hashes l.counter (left l.fn.self.cursor) (left l.self.cursor)
