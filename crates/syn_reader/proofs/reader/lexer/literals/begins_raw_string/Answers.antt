use Rattle.std.proofs.Common.{ap, ◌∙◌, rules}
use Rattle.std.specs.Prelude.{◌==◌}
use Rattle.std.proofs.lemmas.List.Sorted.{answers_always}
use Rattle.syn_reader.specs.Scanning.{begins_with, begins_raw_string}
use Rattle.syn_reader.proofs.reader.lexer.literals.begins_raw_string.Goals as goal

pub returns : goal.returns
unfolding begins_raw_string
returns c = c.is_at.ensures ∙ ap (begins_with 34) (c.skip_while.ensures.left (λ x. x == 35) (answers_always _ _ _ (λ f a r g k. search rules)))
