use Rattle.std.proofs.Common.{◌≡◌, ◌+◌, ◌≤◌}
use Rattle.syn_reader.specs.Places.{left, Onward}
use Rattle.syn_reader.specs.Scanning.{after_raw_string}
use Rattle.syn_reader.proofs.reader.lexer.Lexer.raw_closes.Given as goal

abbrev pub invariant-loop-hashes : goal.invariant-loop-hashes
invariant-loop-hashes l =
    Onward l.fn.self.cursor l.self.cursor × (l.fn.self.cursor.offset + l.hashes ≤ l.self.cursor.offset)
    × (after_raw_string 0 (left l.fn.self.cursor) ≡ after_raw_string l.hashes (left l.self.cursor))
