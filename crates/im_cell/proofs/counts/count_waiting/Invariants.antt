use Rattle.std.proofs.Common.{length}
use Rattle.im_cell.specs.Table.{HasCounts, IsHeldBy, waits_before}

abbrev pub invariant-loop-a : Rattle.im_cell.proofs.counts.count_waiting.Given.invariant-loop-a
invariant-loop-a l = record {
  held : IsHeldBy l.holes (length l.cells);
  waits : HasCounts l.cells (waits_before l.cells l.a) l.holes;
}
