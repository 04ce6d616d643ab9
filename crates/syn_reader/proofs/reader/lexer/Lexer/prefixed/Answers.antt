use Rattle.std.proofs.Common.{ℕ, List, [], ◌∷◌, sym, ap, ◌∙◌, inl, refl}
use Rattle.syn_reader.specs.Places.{left}
use Rattle.syn_reader.specs.Scanning.{closed, after_quote, after_raw_string}
use Rattle.syn_reader.proofs.Scans.{prefixed_string, prefixed_raw, no_prefixed, plain_word}
use Rattle.syn_reader.proofs.reader.lexer.Lexer.prefixed.Goals as goal

pub quoted-requires-clause-literal : goal.quoted-requires-clause-literal
quoted-requires-clause-literal c =
    c.requires.literal
    ∙ (prefixed_string _ _ (sym c.is_at.ensures ∙ c.if-is_at.true) ∙ ap (λ (l : List ℕ). closed c.args.kind (after_quote 34 l)) (sym c.step.ensures.rest))

pub raw_string-requires-clause-literal : goal.raw_string-requires-clause-literal
raw_string-requires-clause-literal c =
    c.requires.literal
    ∙ (prefixed_raw _ _ (sym c.is_at.ensures ∙ c.if-is_at.false) (sym c.begins_prefixed_raw_string.ensures ∙ c.if-begins_prefixed_raw_string.true)
    ∙ ap (λ (l : List ℕ). closed c.args.kind (after_raw_string 0 l)) (sym c.step-then-begins_prefixed_raw_string.ensures.rest))

pub identifier-requires-clause-front : goal.identifier-requires-clause-front
identifier-requires-clause-front c =
    (c.args.first ∷ [], (c.args.first, c.requires.may_start, inl refl), c.requires.past.2)

pub identifier-requires-clause-absent : goal.identifier-requires-clause-absent
identifier-requires-clause-absent c =
    c.requires.literal
    ∙ no_prefixed _ _ (sym c.is_at.ensures ∙ c.if-is_at.false) (sym c.begins_prefixed_raw_string.ensures ∙ c.if-begins_prefixed_raw_string.false)

pub identifier-requires-clause-word : goal.identifier-requires-clause-word
identifier-requires-clause-word c = (c.args.first, left c.args.self.now.cursor, c.requires.past.2, plain_word _ _ c.requires.letter)
