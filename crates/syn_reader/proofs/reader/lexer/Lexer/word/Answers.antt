use Rattle.std.proofs.Common.{◌∷◌, [], ap, ◌∙◌, inl, refl}
use Rattle.syn_reader.specs.Places.{left}
use Rattle.syn_reader.specs.Scanning.{literal_at, literal_from}
use Rattle.syn_reader.proofs.Beginnings.{c_from, other_letter, other_word}
use Rattle.syn_reader.proofs.reader.lexer.Lexer.word.Goals as goal

pub prefixed-requires-clause-literal : goal.prefixed-requires-clause-literal
prefixed-requires-clause-literal c =
    ap literal_at c.requires.past.2 ∙ (ap (λ n. literal_from n (left c.args.self.now.cursor)) c.if-first-eq99.true ∙ c_from _)

pub identifier-requires-clause-front : goal.identifier-requires-clause-front
identifier-requires-clause-front c = (c.args.first ∷ [], (c.args.first, c.requires.may_start, inl refl), c.requires.past.2)

pub identifier-requires-clause-absent : goal.identifier-requires-clause-absent
identifier-requires-clause-absent c =
    ap literal_at c.requires.past.2
    ∙ other_letter _ _ c.requires.may_start c.requires.no_digit c.if-first-eq114.false c.if-first-eq98.false c.if-first-eq99.false

pub identifier-requires-clause-word : goal.identifier-requires-clause-word
identifier-requires-clause-word c = (c.args.first, _, c.requires.past.2, other_word _ _ c.if-first-eq114.false)
