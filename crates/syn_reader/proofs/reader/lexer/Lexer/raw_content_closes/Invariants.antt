use Rattle.std.proofs.Common.{◌≡◌, length}
use Rattle.syn_reader.specs.Places.{left, Onward}
use Rattle.syn_reader.specs.Scanning.{after_raw}
use Rattle.syn_reader.proofs.reader.lexer.Lexer.raw_content_closes.Given as goal

abbrev pub decreases-loop-character : goal.decreases-loop-character
decreases-loop-character l = length (left l.self.cursor)

abbrev pub invariant-loop-character : goal.invariant-loop-character
invariant-loop-character l =
    Onward l.initial.self.cursor l.self.cursor × (after_raw l.hashes (left l.initial.self.cursor) ≡ after_raw l.hashes (left l.self.cursor))
