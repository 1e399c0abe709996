use Rattle.std.proofs.Common.{◌≡◌, length, sym, ap, ◌∙◌, subst, arith}
use Rattle.std.proofs.lemmas.List.{length-replicate}
use Rattle.{im_types.specs.Types.new_window, im_contents.proofs.BlockLemmas.length-cells_shown}
use Rattle.im_memory.specs.Restoring.{AreComplete, Parts}
use Rattle.im_image.proofs.Restored.{complete-of, parts-same, records-fit}
use Rattle.im_image.proofs.area.restore.Goals as goal

pub new-requires : goal.new-requires
new-requires c =
    ap length c.into_parts-cells.ensures.cells ∙ sym (length-cells_shown c.args.records.cells c.args.lists.now)
    ∙ c.requires.memory.cell_count

pub put_lists-requires-clause-room : goal.put_lists-requires-clause-room
put_lists-requires-clause-room c =
    let limits = c.args.limits in
    let fit =
    records-fit limits.elements limits.cells c.args.records c.args.lists.now c.requires.chained c.requires.memory in
    let places = ap (λ (p : Parts). length p.windows) c.in-Ok.ensures.parts
    ∙ length-replicate limits.elements new_window in
    omega (arith, fit, places)

pub put_windows-requires-clause-within : goal.put_windows-requires-clause-within
put_windows-requires-clause-within c = rw
    (c.deref.ensures.value, c.into_parts-cells.ensures.windows) c.requires.memory.windows

pub finish-requires : goal.finish-requires
finish-requires c =
    let r = c.args.records in
    let parts : Parts = record { cells = r.cells; lists = c.args.lists.now; windows = r.windows } in
    let cells : c.put_windows.new.restoring.cells ≡ r.cells =
    ap (λ (p : Parts). p.cells) c.put_windows.ensures ∙ ap (λ (p : Parts). p.cells) c.put_lists.ensures
    ∙ ap (λ (p : Parts). p.cells) c.in-Ok.ensures.parts ∙ c.into_parts-cells.ensures.cells in
    let lists : c.put_windows.new.restoring.lists
    ≡ c.args.lists.now = ap (λ (p : Parts). p.lists) c.put_windows.ensures
    ∙ ap (λ (p : Parts). p.lists) c.put_lists.ensures in
    let windows : c.put_windows.new.restoring.windows
    ≡ r.windows = ap (λ (p : Parts). p.windows) c.put_windows.ensures ∙ c.deref.ensures.value
    ∙ c.into_parts-cells.ensures.windows in
    subst AreComplete (sym (parts-same c.put_windows.new.restoring parts cells lists windows))
    (complete-of c.args.limits.elements c.args.limits.cells r c.args.lists.now c.requires.chained c.requires.memory)
