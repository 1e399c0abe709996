use Rattle.std.proofs.Common.{◌≡◌, map, length, sym, ap, ◌∙◌, subst, arith}
use Rattle.std.proofs.lemmas.List.{length-map}
use Rattle.im_cell.specs.Slots.{HoldsBlocks, shown_slot}
use Rattle.im_stories_memory.proofs.cells.restored.Goals as goal

pub restore-requires-clause-few : goal.restore-requires-clause-few
restore-requires-clause-few c =
    let shown : map shown_slot c.as_slice.result.now ≡ c.args.table.now = ap (map shown_slot) c.as_slice.ensures.value ∙ c.in_ok-records.ensures.shown in
    omega (arith, length-map c.as_slice.result.now shown_slot, ap length shown, c.in_ok-records.ensures.few)

pub restore-requires-clause-blocks : goal.restore-requires-clause-blocks
restore-requires-clause-blocks c =
    let shown : map shown_slot c.as_slice.result.now ≡ c.args.table.now = ap (map shown_slot) c.as_slice.ensures.value ∙ c.in_ok-records.ensures.shown in
    subst HoldsBlocks (sym shown) c.in_ok-records.ensures.blocks
