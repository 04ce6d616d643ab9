use Rattle.std.proofs.Common.{◌≡◌}
use Rattle.syn_reader.specs.Building.{Builds}
use Rattle.syn_reader.proofs.reader.read_tokens.Given as goal

abbrev pub invariant-loop-lexeme : goal.invariant-loop-lexeme
invariant-loop-lexeme l =
    (goal.iterator-loop-lexeme).can_next l.lexeme-iterator ×
    (goal.iterator-loop-lexeme).is_finite l.lexeme-iterator ×
    (l.lexeme-iterator.cursor.text.now ≡ l.text) ×
    Builds l.text l.trees l.lexeme-iterator.cursor.offset
