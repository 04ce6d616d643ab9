use Rattle.std.proofs.Common.{sym, ◌∙◌}
use Rattle.syn_reader.proofs.Scans.{fraction}
use Rattle.syn_reader.proofs.reader.lexer.Lexer.decimal.Goals as goal

pub returns-clause-scanned : goal.returns-clause-scanned
returns-clause-scanned c =
    fraction _ _ _ _ _ c.digits-digits.ensures.left (sym c.begins_fraction.ensures ∙ c.if-not-begins_fraction.false) c.digits-digits.ensures.plain c.step.ensures.rest c.digits.ensures.left
