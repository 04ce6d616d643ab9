use Rattle.std.proofs.Common.{arith, ◌∙◌}
use Rattle.syn_reader.proofs.Comments.{blocks_close, blocks_open, blocks_stay, blocks_end, blocks_done}
use Rattle.syn_reader.proofs.reader.lexer.Lexer.block_ends.Goals as goal

pub returns-in_default-clause-ends : goal.returns-in_default-clause-ends
returns-in_default-clause-ends c = c.loop-depth.invariant.3 ∙ blocks_end _ _ c.loop-depth-test.true c.in_default.ensures.left

pub loop-depth-preserved-then-is_pair : goal.loop-depth-preserved-then-is_pair
loop-depth-preserved-then-is_pair c =
    let inv = c.loop-depth.invariant in (
      c.bump-then-is_pair.ensures.text ∙ (c.bump.ensures.text ∙ inv.0),
      omega (arith, inv.1, c.bump.ensures.onward, c.bump-then-is_pair.ensures.onward),
      omega (arith, inv.2, c.bump.ensures.onward, c.bump-then-is_pair.ensures.onward),
      inv.3 ∙ blocks_close _ _ _ _ _ c.loop-depth-test.true c.in-Some.ensures.left c.if-is_pair.ensures c.bump-then-is_pair.ensures.drops,
    )

pub overflow_add-depth : goal.overflow_add-depth
overflow_add-depth c =
    omega (arith, c.loop-depth.invariant.2, c.in-Some.ensures.moved, c.loop-depth.invariant.1, c.requires.inside, c.in-Some.ensures.fits)

pub loop-depth-preserved-then-is_pair-2 : goal.loop-depth-preserved-then-is_pair-2
loop-depth-preserved-then-is_pair-2 c =
    let inv = c.loop-depth.invariant in (
      c.bump-then-is_pair-2.ensures.text ∙ (c.bump.ensures.text ∙ inv.0),
      omega (arith, inv.1, c.bump.ensures.onward, c.bump-then-is_pair-2.ensures.onward),
      omega (arith, inv.2, c.in-Some.ensures.moved, c.bump-then-is_pair-2.ensures.onward),
      inv.3 ∙ blocks_open _ _ _ _ _ c.loop-depth-test.true c.in-Some.ensures.left c.if-is_pair.ensures c.if-is_pair-2.ensures c.bump-then-is_pair-2.ensures.drops,
    )

pub loop-depth-preserved : goal.loop-depth-preserved
loop-depth-preserved c =
    let inv = c.loop-depth.invariant in (
      c.bump.ensures.text ∙ inv.0,
      omega (arith, inv.1, c.bump.ensures.onward),
      omega (arith, inv.2, c.bump.ensures.onward),
      inv.3 ∙ blocks_stay _ _ _ _ c.loop-depth-test.true c.in-Some.ensures.left c.if-is_pair.ensures c.if-is_pair-2.ensures,
    )

pub returns-clause-ends : goal.returns-clause-ends
returns-clause-ends c = c.loop-depth.invariant.3 ∙ blocks_done _ _ (omega (arith, c.loop-depth-test.false))
