use Rattle.std.proofs.Common.{◌≡◌, ◌&&◌, not, ap, ◌∙◌, rules}
use Rattle.std.specs.Prelude.{if◌then◌else◌}
use Rattle.std.proofs.lemmas.List.Sorted.{answers_always}
use Rattle.syn_reader.specs.Places.{left}
use Rattle.syn_reader.specs.Scanning.{first_passes, drop_while, is_decimal, continues_number, is_some, or_else, after_exponent, has_exponent, is_plain, after_digits}
use Rattle.syn_reader.proofs.reader.lexer.Lexer.digits.Goals as goal

pub returns-clause-exponent : goal.returns-clause-exponent
unfolding has_exponent
returns-clause-exponent c =
    let digits : left c.skip_while.new.self ≡ drop_while is_decimal (left c.args.self.now.cursor) = c.skip_while.ensures.left is_decimal (answers_always _ _ _ (λ f a r g k. search rules)) in
    c.exponent-has_exponent.ensures.found ∙ ap (λ l. c.args.may_have_exponent && is_some (after_exponent l)) digits

pub returns-clause-plain : goal.returns-clause-plain
unfolding is_plain
returns-clause-plain c =
    let digits : left c.skip_while.new.self ≡ drop_while is_decimal (left c.args.self.now.cursor) = c.skip_while.ensures.left is_decimal (answers_always _ _ _ (λ f a r g k. search rules)) in
    ap not (c.is_at_letter-is_plain.ensures ∙ ap (first_passes continues_number) digits)

pub returns-clause-left : goal.returns-clause-left
unfolding after_digits
returns-clause-left c =
    let digits : left c.skip_while.new.self ≡ drop_while is_decimal (left c.args.self.now.cursor) = c.skip_while.ensures.left is_decimal (answers_always _ _ _ (λ f a r g k. search rules)) in
    c.skip_while-2.ensures.left continues_number (answers_always _ _ _ (λ f a r g k. search rules))
    ∙ ap (drop_while continues_number) (c.exponent-has_exponent.ensures.left ∙ ap (λ l. if c.args.may_have_exponent then or_else (after_exponent l) l else l) digits)
