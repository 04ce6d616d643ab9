use Rattle.std.proofs.Common.{sym, ◌∙◌, rules}
use Rattle.std.specs.Prelude.{◌==◌}
use Rattle.std.proofs.lemmas.List.Sorted.{answers_always}
use Rattle.syn_reader.proofs.Scans.{unsigned, no_exponent}
use Rattle.syn_reader.proofs.reader.lexer.numbers.following_sign.Goals as goal

pub returns-then-is_at_digit-2-clause-found : goal.returns-then-is_at_digit-2-clause-found
returns-then-is_at_digit-2-clause-found c =
    unsigned _ _ (sym c.is_at_sign.ensures ∙ c.if-is_at_sign.false) (c.skip_while.ensures.left (λ x. x == 95) (answers_always _ _ _ (λ f a r g k. search rules)))
    (sym c.is_at_digit-2.ensures ∙ c.if-is_at_digit-2.true)

pub returns-else-is_at_digit-2-clause-found : goal.returns-else-is_at_digit-2-clause-found
returns-else-is_at_digit-2-clause-found c =
    no_exponent _ _ (sym c.is_at_sign.ensures ∙ c.if-is_at_sign.false) (c.skip_while.ensures.left (λ x. x == 95) (answers_always _ _ _ (λ f a r g k. search rules)))
    (sym c.is_at_digit-2.ensures ∙ c.if-is_at_digit-2.false)
