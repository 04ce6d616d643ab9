use Rattle.std.proofs.Common.{◌∙◌, arith}
use Rattle.syn_reader.proofs.Scans.{quote_ends, quote_here, quote_later, quote_escaped}
use Rattle.syn_reader.proofs.reader.lexer.Lexer.closes_by.Goals as goal

pub returns-then-character-quote-clause-closes : goal.returns-then-character-quote-clause-closes
returns-then-character-quote-clause-closes c = c.loop-character.invariant.1 ∙ quote_here _ _ _ _ c.in-Some.ensures.left c.if-character-quote.true

pub loop-character-preserved-then-character-eq92 : goal.loop-character-preserved-then-character-eq92
loop-character-preserved-then-character-eq92 c = (
  (c.step-then-character-eq92.ensures.onward.0 ∙ (c.step.ensures.onward.0 ∙ c.loop-character.invariant.0.0), omega arith),
  c.loop-character.invariant.1 ∙ quote_escaped _ _ _ _ _ c.in-Some.ensures.left c.step-then-character-eq92.ensures.rest c.if-character-quote.false c.if-character-eq92.true,
)

pub loop-character-preserved : goal.loop-character-preserved
loop-character-preserved c = (
  (c.step.ensures.onward.0 ∙ c.loop-character.invariant.0.0, omega arith),
  c.loop-character.invariant.1 ∙ quote_later _ _ _ _ c.in-Some.ensures.left c.if-character-quote.false c.if-character-eq92.false,
)

pub returns-clause-closes : goal.returns-clause-closes
returns-clause-closes c = c.loop-character.invariant.1 ∙ quote_ends _ _ c.in_default.ensures.left
