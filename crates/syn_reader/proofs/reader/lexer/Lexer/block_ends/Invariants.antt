use Rattle.std.proofs.Common.{◌≡◌, ◌≤◌, ◌+◌, ◌-◌, length}
use Rattle.syn_reader.specs.Scanning.{after_blocks}
use Rattle.syn_reader.specs.Places.{left}
use Rattle.syn_reader.proofs.reader.lexer.Lexer.block_ends.Given as goal

abbrev pub invariant-loop-depth : goal.invariant-loop-depth
invariant-loop-depth l =
    (l.self.cursor.text ≡ l.initial.self.cursor.text) × (l.initial.self.cursor.offset ≤ l.self.cursor.offset)
    × (l.depth + l.initial.self.cursor.offset ≤ l.self.cursor.offset + 1)
    × (after_blocks 1 (left l.initial.self.cursor) ≡ after_blocks l.depth (left l.self.cursor))

abbrev pub decreases-loop-depth : goal.decreases-loop-depth
decreases-loop-depth l = length l.self.cursor.text.now - l.self.cursor.offset
