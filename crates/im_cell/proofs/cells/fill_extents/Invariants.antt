use Rattle.std.proofs.Common.{◌<◌, ◌≤◌}
use Rattle.im_cell.specs.{Cells.IsFilled, declared.state.TheConstants.NOWHERE}

abbrev pub invariant-loop-k : Rattle.im_cell.proofs.cells.fill_extents.Given.invariant-loop-k
invariant-loop-k l = record {
  within : l.from < l.k → l.k ≤ l.to;
  filled : IsFilled NOWHERE l.initial.extents l.extents l.from l.k l.extent;
}
