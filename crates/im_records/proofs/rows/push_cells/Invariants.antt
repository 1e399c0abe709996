use Rattle.std.proofs.Common.{◌≡◌, ℕ, ◌+◌, ◌*◌, List, length}
use Rattle.im_records.specs.Rows.{BeginWithCells, StandsAt}

abbrev pub invariant-loop-i : Rattle.im_records.proofs.rows.push_cells.Given.invariant-loop-i
invariant-loop-i l = record {
  many : length l.row ≡ length l.initial.row + l.i;
  begin : (area : List ℕ) → StandsAt (32 * length l.initial.row) l.piece area
      → BeginWithCells (length l.initial.row) l.cells l.nodes area l.initial.row
      → BeginWithCells (length l.initial.row + l.i) l.cells l.nodes area l.row;
}
