use Rattle.std.proofs.Common.{◌<◌, ◌≤◌}
use Rattle.im_cell.specs.{Cells.IsFilled, declared.state.State.TheVariants.Free}

abbrev pub invariant-loop-k : Rattle.im_cell.proofs.cells.fill_states.Given.invariant-loop-k
invariant-loop-k l = record {
  within : l.from < l.k → l.k ≤ l.to;
  filled : IsFilled Free l.initial.states l.states l.from l.k l.state;
}
