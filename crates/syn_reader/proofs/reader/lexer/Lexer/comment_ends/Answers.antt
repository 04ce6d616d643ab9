use Rattle.std.proofs.Common.{rules, not, ◌==◌, ap, sym, Some}
use Rattle.std.proofs.lemmas.Fn.{always_returns_same}
use Rattle.syn_reader.specs.Scanning.{after_comment}
use Rattle.syn_reader.proofs.reader.lexer.Lexer.comment_ends.Goals as goal

pub returns-clause-ends : goal.returns-clause-ends
unfolding after_comment
returns-clause-ends c =
    let left = c.skip_while.ensures.left (λ x. not (x == 10)) (always_returns_same _ _ _ (λ a r f h. search rules)) in
    rw (← c.if-is_at.ensures) (ap Some (sym left))
