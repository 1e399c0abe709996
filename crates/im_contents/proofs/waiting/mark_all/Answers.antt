use Rattle.std.proofs.Common.{List, [], length, get_or, Some, None, sum_by, Option, sym, ap, ◌∙◌, arith, eqb-true}
use Rattle.std.proofs.lemmas.List.{drop_all}
use Rattle.im_types.specs.Types.{NONE, Held, kept_for, CellRecord, FreeCell as Free, cell_shown, cells_shown}
use Rattle.im_contents.proofs.BlockLemmas.{length-cells_shown}
use Rattle.im_contents.proofs.PlaceLemmas.{held_at-shown, mark_all-nobody, mark_all-step}
use Rattle.im_contents.specs.Marking.{mark_all, mark_held, place_of_mark}
use Rattle.im_contents.proofs.waiting.mark_all.Goals as goal

pub returns-then-has_nobody : goal.returns-then-has_nobody
returns-then-has_nobody c =
    mark_all-nobody (kept_for c.args.windows.now)
    (place_of_mark c.args.windows.now) 0 c.args.marks.now c.args.cells.now c.args.lists.now
    (eqb-true (sum_by length c.args.lists.now) 0 (sym c.has_nobody.ensures ∙ c.if-has_nobody.true))

pub returns-then-not-mark_cell : goal.returns-then-not-mark_cell
returns-then-not-mark_cell c =
    let count = length-cells_shown c.args.cells.now c.args.lists.now in
    mark_all-step (kept_for c.args.windows.now) (place_of_mark c.args.windows.now)
    (cells_shown c.args.cells.now c.args.lists.now) c.loop-address.address c.loop-address.marks _
    (omega arith) c.loop-address.invariant
    _ (held_at-shown c.args.cells.now c.args.lists.now c.loop-address.address (Free 0 NONE) c.requires.count
    (omega arith))
    None (ap (λ (cell : CellRecord). mark_held (kept_for c.args.windows.now)
    (place_of_mark c.args.windows.now) c.loop-address.address c.loop-address.marks
    (cell_shown cell (get_or c.args.lists.now c.loop-address.address []))) (sym c.at.ensures)
    ∙ c.if-not-mark_cell.ensures)

pub loop-address-preserved : goal.loop-address-preserved
loop-address-preserved c =
    let count = length-cells_shown c.args.cells.now c.args.lists.now in
    mark_all-step (kept_for c.args.windows.now) (place_of_mark c.args.windows.now)
    (cells_shown c.args.cells.now c.args.lists.now) c.loop-address.address c.loop-address.marks _
    (omega arith) c.loop-address.invariant
    _ (held_at-shown c.args.cells.now c.args.lists.now c.loop-address.address (Free 0 NONE) c.requires.count
    (omega arith))
    (Some c.mark_cell.new.marks)
    (ap (λ (cell : CellRecord). mark_held (kept_for c.args.windows.now)
    (place_of_mark c.args.windows.now) c.loop-address.address c.loop-address.marks
    (cell_shown cell (get_or c.args.lists.now c.loop-address.address []))) (sym c.at.ensures)
    ∙ c.if-not-mark_cell.ensures)

pub returns : goal.returns
returns c =
    let count = length-cells_shown c.args.cells.now c.args.lists.now in
    c.loop-address.invariant
    ∙ ap (λ (hs : List (Option Held)). mark_all (kept_for c.args.windows.now)
    (place_of_mark c.args.windows.now) c.loop-address.address c.loop-address.marks hs)
    (drop_all c.loop-address.address (cells_shown c.args.cells.now c.args.lists.now) (omega arith))
