use Rattle.std.proofs.Common.{ℕ, ◌*◌, sym, subst}
use Rattle.im_types.specs.Types.{NONE, layout_of, sizes_of, page_bytes, node_count, cell_pages, FreeCell, cell_bytes}
use Rattle.im_types.specs.Types.{FitsCell}
use Rattle.im_records.{proofs.Parts.beginning_of_row, proofs.Parts.cells_fit, specs.Rows.BeginWithCells}

pub returns-clause-bad : Rattle.im_records.proofs.area.read_more_cells.Goals.returns-clause-bad
returns-clause-bad c = λ e area r stands spells.
    let s = sizes_of c.args.limits in
    let n = node_count (layout_of c.args.version) s in
    c.push_cells.ensures.bad e area r.cells stands
    (subst (λ (nodes : ℕ). BeginWithCells s.cells s.cells nodes area r.cells) (sym c.node_count-nodes.ensures)
    (beginning_of_row 32 cell_bytes (FitsCell s.cells n) (FreeCell 0 NONE) s.cells
    (page_bytes * cell_pages s) area r.cells (cells_fit s.cells) spells.cells))
