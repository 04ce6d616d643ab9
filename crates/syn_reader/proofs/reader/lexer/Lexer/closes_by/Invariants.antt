use Rattle.std.proofs.Common.{◌≡◌, length}
use Rattle.syn_reader.specs.Places.{left, Onward}
use Rattle.syn_reader.specs.Scanning.{after_quote}
use Rattle.syn_reader.proofs.reader.lexer.Lexer.closes_by.Given as goal

abbrev pub decreases-loop-character : goal.decreases-loop-character
decreases-loop-character l = length (left l.self.cursor)

abbrev pub invariant-loop-character : goal.invariant-loop-character
invariant-loop-character l =
    Onward l.initial.self.cursor l.self.cursor × (after_quote l.quote (left l.initial.self.cursor) ≡ after_quote l.quote (left l.self.cursor))
