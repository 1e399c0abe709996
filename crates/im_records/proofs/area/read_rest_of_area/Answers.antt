use Rattle.std.proofs.Common.{ℕ, ◌+◌, ◌-◌, ◌*◌, List, length, take, drop, sym, ap, ◌∙◌, subst, arith}
use Rattle.im_types.specs.Types.{layout_of, sizes_of}
use Rattle.im_records.proofs.{Parts.end_of_rest, Parts.first_of_rest, Parts.middle_of_rest, RowLemmas.refused-same}
use Rattle.im_records.specs.Rows.{AreNodes, AreSessions}
use Rattle.im_types.specs.Layout as layout
use Rattle.im_records.proofs.area.read_rest_of_area.Goals as goal

pub returns-in-Err-clause-bad : goal.returns-in-Err-clause-bad
returns-in-Err-clause-bad c = λ e area r is spells.
    let at = c.cell_bytes.result - 32 * c.len.result in
    c.in-Err.ensures.bad (refused-same c.in-Err.refusal _ e) area r.cells
    (first_of_rest (32 * length c.args.cells) at c.args.rest.now area
    (omega (arith, c.requires.length, c.cell_bytes.ensures, c.len.ensures)) is) spells.cells

pub returns-in-Err-nodes_of-clause-bad : goal.returns-in-Err-nodes_of-clause-bad
returns-in-Err-nodes_of-clause-bad c = λ e area r is spells.
    let l = layout_of c.args.version in
    let s = sizes_of c.args.limits in
    let at = c.cell_bytes.result - 32 * c.len.result in
    let part = middle_of_rest (32 * length c.args.cells) at c.node_bytes.result
    (layout.page_bytes * layout.cell_pages s) c.args.rest.now area is
    (omega (arith, c.requires.few, c.cell_bytes.ensures, c.len.ensures))
    ∙ ap (λ (n : ℕ). take n (drop (layout.page_bytes * layout.cell_pages s) area)) c.node_bytes.ensures in
    c.in-Err-nodes_of.ensures.bad (refused-same c.in-Err-nodes_of.refusal _ e) r.nodes
    (subst (λ (bytes : List ℕ). AreNodes (layout.node_count l s) bytes r.nodes) (sym part) spells.nodes)

pub returns-in-Ok-windows_of-clause-found : goal.returns-in-Ok-windows_of-clause-found
returns-in-Ok-windows_of-clause-found c = λ area is first.
    let l = layout_of c.args.version in
    let s = sizes_of c.args.limits in
    let at = c.cell_bytes.result - 32 * c.len.result in
    let part = middle_of_rest (32 * length c.args.cells) at c.node_bytes.result
    (layout.page_bytes * layout.cell_pages s) c.args.rest.now area is
    (omega (arith, c.requires.few, c.cell_bytes.ensures, c.len.ensures))
    ∙ ap (λ (n : ℕ). take n (drop (layout.page_bytes * layout.cell_pages s) area)) c.node_bytes.ensures in
    let end = end_of_rest (32 * length c.args.cells) (at + c.node_bytes-2.result)
    (layout.page_bytes * (layout.cell_pages s + layout.node_pages l s)) c.args.rest.now area is
    (omega (arith, c.requires.few, c.cell_bytes.ensures, c.len.ensures, c.node_bytes-2.ensures)) in
    record {
      cells = c.in-Ok.ensures.found area
          (first_of_rest (32 * length c.args.cells) at c.args.rest.now area
          (omega (arith, c.requires.length, c.cell_bytes.ensures, c.len.ensures)) is) first;
      nodes = subst (λ (bytes : List ℕ). AreNodes
          (layout.node_count l s) bytes c.in-Ok-nodes_of.row.items) part c.in-Ok-nodes_of.ensures.found;
      sessions = subst (λ
          (bytes : List ℕ). AreSessions l s.elements bytes c.in-Ok-windows_of.windows.items) end c.in-Ok-windows_of.ensures.found;
    }

pub returns-in-Err-windows_of-clause-bad : goal.returns-in-Err-windows_of-clause-bad
returns-in-Err-windows_of-clause-bad c = λ e area r is spells.
    let l = layout_of c.args.version in
    let s = sizes_of c.args.limits in
    let at = c.cell_bytes.result - 32 * c.len.result in
    let end = end_of_rest (32 * length c.args.cells) (at + c.node_bytes-2.result)
    (layout.page_bytes * (layout.cell_pages s + layout.node_pages l s)) c.args.rest.now area is
    (omega (arith, c.requires.few, c.cell_bytes.ensures, c.len.ensures, c.node_bytes-2.ensures)) in
    c.in-Err-windows_of.ensures.bad (refused-same c.in-Err-windows_of.refusal _ e) r.windows
    (subst (λ (bytes : List ℕ). AreSessions l s.elements bytes r.windows) (sym end) spells.sessions)
