use Rattle.std.proofs.Common.{◌∷◌, ap, sym, ◌∙◌}
use Rattle.syn_reader.specs.Places.{left}
use Rattle.syn_reader.specs.Scanning.{literal_at, literal_from, begins_comment}
use Rattle.syn_reader.proofs.Beginnings.{digit_from, quote_from, comment_slash}
use Rattle.syn_reader.proofs.Unexpected.{sign_or_fault}
use Rattle.syn_reader.proofs.reader.lexer.Lexer.lexeme.Goals as goal

pub number-requires-clause-literal : goal.number-requires-clause-literal
number-requires-clause-literal c = ap literal_at c.requires.past.2 ∙ digit_from _ _ (sym c.if-is_ascii_digit.ensures.value)

pub comment-requires-clause-past : goal.comment-requires-clause-past
comment-requires-clause-past c =
    let past = c.requires.past in
    let slash = comment_slash _ _ (ap begins_comment (sym past.2) ∙ sym c.if-begins_comment.ensures) in
    (past.0, past.1, past.2 ∙ ap (λ n. n ∷ left c.args.self.now.cursor) slash)

pub quoted-requires-clause-literal : goal.quoted-requires-clause-literal
quoted-requires-clause-literal c =
    ap literal_at c.requires.past.2 ∙ (ap (λ n. literal_from n (left c.args.self.now.cursor)) c.if-first-eq34.true ∙ quote_from _)

pub returns-clause-present : goal.returns-clause-present
returns-clause-present c =
    sign_or_fault c.group_delimiter.result c.args.start.now c.args.self.now.cursor c.args.first c.span_since.result c.requires.past c.requires.first c.span_since.ensures
    c.requires.no_space (sym c.if-starts_identifier.ensures) c.if-first-eq34.false c.if-first-eq39.false (sym c.if-is_ascii_digit.ensures.value) (sym c.if-is_punct_character.ensures)
    c.group_delimiter.ensures.ok c.group_delimiter.ensures.none c.group_delimiter.ensures.err
