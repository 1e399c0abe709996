use Rattle.std.proofs.Common.{◌-◌, ◌≤◌, length}
use Rattle.im_contents.specs.Local.{HaveBlocksBelow}
use Rattle.im_contents.proofs.blocks.are_blocks.Given as goal

abbrev pub invariant-loop-at : goal.invariant-loop-at
invariant-loop-at l = record {
  below : HaveBlocksBelow l.cells l.at;
  few : l.at ≤ length l.cells;
}

abbrev pub decreases-loop-at : goal.decreases-loop-at
decreases-loop-at l = length l.cells - l.at
