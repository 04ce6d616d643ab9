use Rattle.std.proofs.Common.{sym, ◌∙◌, arith}
use Rattle.syn_reader.proofs.Scans.{hashed_more, hashed_stops, hashed_present}
use Rattle.syn_reader.proofs.reader.lexer.Lexer.skip_hashes.Goals as goal

pub returns-then-not-is_at-clause-hashes : goal.returns-then-not-is_at-clause-hashes
returns-then-not-is_at-clause-hashes c = sym (hashed_stops c.loop.invariant.1 c.loop-test.true (sym c.is_at.ensures ∙ c.if-not-is_at.true))

pub loop-preserved : goal.loop-preserved
loop-preserved c = (
  (c.step.ensures.onward.0 ∙ c.loop.invariant.0.0, omega arith),
  hashed_more c.loop.invariant.1 c.loop-test.true (sym c.is_at.ensures ∙ c.if-not-is_at.false) c.step.ensures.rest,
)

pub returns-clause-hashes : goal.returns-clause-hashes
returns-clause-hashes c = sym (hashed_present c.loop.invariant.1 c.loop-test.false)
