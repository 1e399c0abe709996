use Rattle.std.proofs.Common.{◌≡◌, ◌+◌, ◌-◌, ◌/◌, map, length, replicate, Some, sym, ap, ◌∙◌, subst, arith}
use Rattle.im_cell.proofs.{Kept.length-slots, Rows.long-rows, Rows.slots-shown}
use Rattle.im_cell.specs.declared.unit.{TheConstants.UNIT, Unit.TheVariants.Each}
use Rattle.im_cell.specs.{Slots.HoldsBlocks, Slots.shown_slot, Table.IsTable}
use Rattle.im_cell.proofs.table.CellTable.in_room.Goals as goal

pub count_waiting-requires-clause-few : goal.count_waiting-requires-clause-few
count_waiting-requires-clause-few c =
    let n : length c.over-cells.result ≡ c.room.inside.cells = ap length c.over-cells.ensures
    ∙ length-slots c.row.inside.states.items c.row.inside.values.items c.row.inside.extents.items
    c.row.invariant.values_are c.row.invariant.extents_are
    ∙ long-rows c.row.inside.states.items c.row.inside.values.items c.row.inside.extents.items c.row.inside.lasts.items c.args.row
    c.row.invariant.values_are c.row.invariant.extents_are c.row.invariant.lasts_are c.row.view_is ∙ c.requires.count ∙ sym c.room.view_is in
    omega arith

pub count_waiting-requires-clause-blocks : goal.count_waiting-requires-clause-blocks
count_waiting-requires-clause-blocks c =
    let e : c.over-cells.result ≡ map shown_slot c.args.row = c.over-cells.ensures
    ∙ slots-shown c.row.inside.states.items c.row.inside.values.items c.row.inside.extents.items c.row.inside.lasts.items
    c.row.invariant.values_are c.row.invariant.extents_are c.row.invariant.lasts_are ∙ ap (map shown_slot) c.row.view_is in
    subst HoldsBlocks (sym e) c.requires.blocks

pub count_waiting-requires-clause-none : goal.count_waiting-requires-clause-none
count_waiting-requires-clause-none c =
    let n : length c.over-cells.result ≡ c.room.inside.cells = ap length c.over-cells.ensures
    ∙ length-slots c.row.inside.states.items c.row.inside.values.items c.row.inside.extents.items
    c.row.invariant.values_are c.row.invariant.extents_are
    ∙ long-rows c.row.inside.states.items c.row.inside.values.items c.row.inside.extents.items c.row.inside.lasts.items c.args.row
    c.row.invariant.values_are c.row.invariant.extents_are c.row.invariant.lasts_are c.row.view_is ∙ c.requires.count ∙ sym c.room.view_is in
    c.room.invariant.1 ∙ ap (λ k. replicate k (Some 0)) (sym n)

pub give_free-requires-clause-few : goal.give_free-requires-clause-few
give_free-requires-clause-few c =
    let n : length c.over-cells.result ≡ c.room.inside.cells = ap length c.over-cells.ensures
    ∙ length-slots c.row.inside.states.items c.row.inside.values.items c.row.inside.extents.items
    c.row.invariant.values_are c.row.invariant.extents_are
    ∙ long-rows c.row.inside.states.items c.row.inside.values.items c.row.inside.extents.items c.row.inside.lasts.items c.args.row
    c.row.invariant.values_are c.row.invariant.extents_are c.row.invariant.lasts_are c.row.view_is ∙ c.requires.count ∙ sym c.room.view_is in
    omega arith

pub give_free-requires-clause-blocks : goal.give_free-requires-clause-blocks
give_free-requires-clause-blocks c =
    let e : c.over-cells.result ≡ map shown_slot c.args.row = c.over-cells.ensures
    ∙ slots-shown c.row.inside.states.items c.row.inside.values.items c.row.inside.extents.items c.row.inside.lasts.items
    c.row.invariant.values_are c.row.invariant.extents_are c.row.invariant.lasts_are ∙ ap (map shown_slot) c.row.view_is in
    subst HoldsBlocks (sym e) c.requires.blocks

pub over-slots-requires-clause-few : goal.over-slots-requires-clause-few
over-slots-requires-clause-few c =
    let n : length c.over-cells.result ≡ c.room.inside.cells = ap length c.over-cells.ensures
    ∙ length-slots c.row.inside.states.items c.row.inside.values.items c.row.inside.extents.items
    c.row.invariant.values_are c.row.invariant.extents_are
    ∙ long-rows c.row.inside.states.items c.row.inside.values.items c.row.inside.extents.items c.row.inside.lasts.items c.args.row
    c.row.invariant.values_are c.row.invariant.extents_are c.row.invariant.lasts_are c.row.view_is ∙ c.requires.count ∙ sym c.room.view_is in
    omega arith

pub over-slots-requires-clause-units : goal.over-slots-requires-clause-units
over-slots-requires-clause-units c =
    let n : length c.over-cells.result ≡ c.room.inside.cells = ap length c.over-cells.ensures
    ∙ length-slots c.row.inside.states.items c.row.inside.values.items c.row.inside.extents.items
    c.row.invariant.values_are c.row.invariant.extents_are
    ∙ long-rows c.row.inside.states.items c.row.inside.values.items c.row.inside.extents.items c.row.inside.lasts.items c.args.row
    c.row.invariant.values_are c.row.invariant.extents_are c.row.invariant.lasts_are c.row.view_is ∙ c.requires.count ∙ sym c.room.view_is in
    c.room.invariant.0 ∙ ap (λ k. replicate ((k + (UNIT - 1)) / UNIT) Each) (sym n)

pub invariant_of-result : goal.invariant_of-result
invariant_of-result c = subst (λ s. IsTable s c.give_free.new.holes) (sym c.over-slots.ensures) c.give_free.ensures

pub returns : goal.returns
returns c =
    let e : c.over-slots.result ≡ map shown_slot c.args.row = c.over-slots.ensures ∙ c.over-cells.ensures
    ∙ slots-shown c.row.inside.states.items c.row.inside.values.items c.row.inside.extents.items c.row.inside.lasts.items
    c.row.invariant.values_are c.row.invariant.extents_are c.row.invariant.lasts_are ∙ ap (map shown_slot) c.row.view_is in
    e
