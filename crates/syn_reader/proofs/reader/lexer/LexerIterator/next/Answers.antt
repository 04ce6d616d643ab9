use Rattle.std.proofs.Common.{◌∙◌}
use Rattle.syn_reader.proofs.Spelling.{blank_append}
use Rattle.syn_reader.proofs.reader.lexer.LexerIterator.next.Goals as goal

pub returns-in_err-first-clause-steps : goal.returns-in_err-first-clause-steps
returns-in_err-first-clause-steps c =
    let same = c.skip_white_space.ensures.text in
    let left = rw same at c.in_err-first.ensures.present in
    (c.in_err-first.ensures.text ∙ same, rw c.from_residual.ensures (blank_append _ _ _ _ c.skip_white_space.ensures.blank left))

pub lexeme-requires-clause-no_space : goal.lexeme-requires-clause-no_space
lexeme-requires-clause-no_space c = c.skip_white_space.ensures.stops c.in_ok-first.first _ c.in_ok-first.ensures.left
