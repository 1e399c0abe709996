use Rattle.std.proofs.Common.{sym, refl, ◌∙◌, true≢false, arith}
use Rattle.im_contents.proofs.BlockLemmas.{begins_block, blocks_of_all, free_below}
use Rattle.im_contents.proofs.blocks.are_blocks.Goals as goal

pub returns-then-not-is_block_at : goal.returns-then-not-is_block_at
returns-then-not-is_block_at c = λ lists. (
  λ e. absurd (true≢false (sym e)),
  λ blocks.
      c.if-not-is_block_at.ensures.1
      (begins_block c.args.cells.now lists c.loop-at.at c.in-Some.block blocks c.loop-at.invariant.below
      (sym c.recorded_block_at.ensures ∙ c.in-Some.is)),
)

pub loop-at-preserved : goal.loop-at-preserved
loop-at-preserved c = record {
  below =
      free_below c.args.cells.now c.loop-at.at c.loop-at.invariant.below (sym c.in-None.is ∙ c.recorded_block_at.ensures);
  few = omega arith;
}

pub returns : goal.returns
returns c = λ lists. (
  λ _. blocks_of_all c.args.cells.now lists c.loop-at.at
      (omega arith) c.loop-at.invariant.below,
  λ _. refl,
)
