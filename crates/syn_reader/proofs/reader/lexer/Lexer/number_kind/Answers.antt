use Rattle.std.proofs.Common.{sym, ◌∙◌, rules}
use Rattle.std.proofs.lemmas.List.Sorted.{answers_always}
use Rattle.syn_reader.specs.Scanning.{continues_number}
use Rattle.syn_reader.proofs.Scans.{based_number}
use Rattle.syn_reader.proofs.reader.lexer.Lexer.number_kind.Goals as goal

pub returns-then-is_at_base-clause-scanned : goal.returns-then-is_at_base-clause-scanned
returns-then-is_at_base-clause-scanned c =
    based_number _ _ _ c.if-first-eq48.true (sym c.is_at_base.ensures ∙ c.if-is_at_base.true)
    (c.skip_while.ensures.left continues_number (answers_always _ _ _ (λ f a r g k. search rules)))
