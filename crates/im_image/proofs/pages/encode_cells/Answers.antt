use Rattle.std.proofs.Common.{◌≡◌, subst, arith}
use Rattle.im_types.specs.Types.{NONE, layout_in_use, sizes_of, node_count, FreeCell, cell_bytes, FitsCell}
use Rattle.im_image.proofs.Encoding.{Spelled, spelled-all}

pub returns : Rattle.im_image.proofs.pages.encode_cells.Goals.returns
returns c =
    let end : c.loop-place.place ≡ 128 = omega arith in
    spelled-all 32 128 cell_bytes (FitsCell c.args.limits.cells (node_count layout_in_use (sizes_of c.args.limits)))
    (FreeCell 0 NONE) c.args.records.now.cells c.args.i c.loop-place.page c.loop-place.invariant.0
    (subst (λ n. Spelled 32 128 cell_bytes
    (FitsCell c.args.limits.cells (node_count layout_in_use (sizes_of c.args.limits)))
    (FreeCell 0 NONE) c.args.records.now.cells c.args.i c.loop-place.page n) end c.loop-place.invariant.1)
