use Rattle.std.proofs.Common.{◌∷◌, [], ap, sym, ◌∙◌, inl, refl, lit<}
use Rattle.syn_reader.specs.Scanning.{literal_at}
use Rattle.syn_reader.proofs.Beginnings.{r_from, r_absent, plain_word, letter_starts}
use Rattle.syn_reader.proofs.reader.lexer.Lexer.following_r.Goals as goal

pub raw_string-requires-clause-literal : goal.raw_string-requires-clause-literal
raw_string-requires-clause-literal c = ap literal_at c.requires.past.2 ∙ r_from _ (sym c.if-begins_raw_string.ensures)

pub raw_identifier-requires-clause-absent : goal.raw_identifier-requires-clause-absent
raw_identifier-requires-clause-absent c = ap literal_at c.requires.past.2 ∙ r_absent _ (sym c.if-begins_raw_string.ensures)

pub identifier-requires-clause-front : goal.identifier-requires-clause-front
identifier-requires-clause-front c = (114 ∷ [], (114, letter_starts 114 (lit< tt) refl, inl refl), c.requires.past.2)

pub identifier-requires-clause-absent : goal.identifier-requires-clause-absent
identifier-requires-clause-absent c = ap literal_at c.requires.past.2 ∙ r_absent _ (sym c.if-begins_raw_string.ensures)

pub identifier-requires-clause-word : goal.identifier-requires-clause-word
identifier-requires-clause-word c = (114, _, c.requires.past.2, plain_word 114 _ (sym c.if-begins_raw_name.ensures))
