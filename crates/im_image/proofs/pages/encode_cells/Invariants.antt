use Rattle.std.proofs.Common.{◌≡◌, length}
use Rattle.im_types.specs.Types.{NONE, layout_in_use, sizes_of, node_count, FreeCell, cell_bytes, FitsCell}
use Rattle.im_image.proofs.Encoding.{Spelled}

abbrev pub invariant-loop-place : Rattle.im_image.proofs.pages.encode_cells.Given.invariant-loop-place
invariant-loop-place l = (length l.page ≡ 4096)
    × Spelled 32 128 cell_bytes (FitsCell l.limits.cells (node_count layout_in_use (sizes_of l.limits)))
    (FreeCell 0 NONE) l.records.cells l.i l.page l.place
