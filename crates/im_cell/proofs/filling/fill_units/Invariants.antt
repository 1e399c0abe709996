use Rattle.std.proofs.Common.{◌<◌, ◌≤◌}
use Rattle.im_cell.specs.{Cells.IsFilled, declared.unit.Unit.TheVariants.Each}

abbrev pub invariant-loop-k : Rattle.im_cell.proofs.filling.fill_units.Given.invariant-loop-k
invariant-loop-k l = record {
  within : l.from < l.k → l.k ≤ l.to;
  filled : IsFilled Each l.initial.units l.units l.from l.k l.unit;
}
