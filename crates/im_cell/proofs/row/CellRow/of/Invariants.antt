use Rattle.std.proofs.Common.{◌≡◌, take}

abbrev pub invariant-loop-cell : Rattle.im_cell.proofs.row.CellRow.of.Given.invariant-loop-cell
invariant-loop-cell l = l.row ≡ take l.cell-index l.cells
