use Rattle.std.proofs.Common.{◌≡◌}
use Rattle.im_migration.{proofs.Chained.free_cell, specs.Resizing.fitted}

abbrev pub invariant-loop-a : Rattle.im_migration.proofs.resizing.row_of.Given.invariant-loop-a
invariant-loop-a l = l.row ≡ fitted free_cell l.a l.records.cells
