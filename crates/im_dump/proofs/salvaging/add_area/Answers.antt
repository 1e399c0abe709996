use Rattle.std.proofs.Common.{ℕ, drop, ap, ◌∙◌}
use Rattle.im_image.specs.Headers.{seen}
use Rattle.im_dump.proofs.SalvageLemmas.{area_told}

pub returns : Rattle.im_dump.proofs.salvaging.add_area.Goals.returns
returns c =
    let at = c.behind-nodes.ensures ∙ ap (λ (n : ℕ). drop n c.args.area.now) c.cell_bytes.ensures in
    let behind = c.behind-windows.ensures
    ∙ ap (λ (n : ℕ). drop n c.behind-nodes.result.now) c.node_bytes.ensures in
    area_told c.add_last.result (seen c.args.header.now) c.args.area.now _ _ _ _ _ _ _ _ _ _ _ c.layout-version.ensures
    at behind c.node_count.ensures c.in_ok-add_area_line.ensures c.in_ok-add_head.ensures
    c.in_ok-add_told_cells.ensures c.in_ok-add_told_nodes.ensures c.in_ok-add_told_windows.ensures c.add_last.ensures
