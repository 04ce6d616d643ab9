use Rattle.std.proofs.Common.{ap, sym, ◌∙◌, refl, lit<}
use Rattle.syn_reader.specs.Scanning.{literal_at}
use Rattle.syn_reader.proofs.Beginnings.{b_from, letter_starts}
use Rattle.syn_reader.proofs.reader.lexer.Lexer.following_b.Goals as goal

pub prefixed-requires-clause-may_start : goal.prefixed-requires-clause-may_start
prefixed-requires-clause-may_start c = letter_starts 98 (lit< tt) refl

pub prefixed-requires-clause-literal : goal.prefixed-requires-clause-literal
prefixed-requires-clause-literal c = ap literal_at c.requires.past.2 ∙ b_from _ (sym c.if-begins_byte.ensures)
