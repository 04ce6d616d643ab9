use Rattle.std.proofs.Common.{◌∷◌, [], ap, sym, ◌∙◌, drop, inr, refl}
use Rattle.syn_reader.proofs.Identifiers.{raw_front, raw_word}
use Rattle.syn_reader.proofs.reader.lexer.Lexer.raw_identifier.Goals as goal

pub identifier-requires-clause-front : goal.identifier-requires-clause-front
identifier-requires-clause-front c =
    let front = raw_front _ c.requires.raw in
    let rest = c.bump-2.ensures.drops ∙ ap (drop 1) c.bump.ensures.drops in (
      114 ∷ 35 ∷ front.0 ∷ [],
      (front.0, front.1, inr refl),
      c.requires.past.2 ∙ ap (λ l. 114 ∷ l) (front.2 ∙ ap (λ l. 35 ∷ front.0 ∷ l) (sym rest)),
    )

pub identifier-requires-clause-word : goal.identifier-requires-clause-word
identifier-requires-clause-word c =
    let rest = c.bump-2.ensures.drops ∙ ap (drop 1) c.bump.ensures.drops in
    (114, _, c.requires.past.2, raw_word _ _ c.requires.raw rest)
