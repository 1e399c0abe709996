use Rattle.std.proofs.Common.{sym, refl}
use Rattle.{im_types.specs.Types.I, im_types.specs.Types.CellFull as Full, im_cell.specs.Slots.slot_at}
use Rattle.im_istore.proofs.{Accesses.found, Cells.AgreeBut-filled, Cells.slot_at-within}

pub returns-in_default-clause-draining : Rattle.im_istore.proofs.store.Goals.returns-in_default-clause-draining
returns-in_default-clause-draining c =
    let f = found I (slot_at c.args.table.now c.args.a) _ (sym c.in-Ok.ensures.cell) in
    λ _. rw (c.set-in_default.ensures, c.in-Ok.ensures.same, f.there)
    (AgreeBut-filled c.args.table.now c.args.arena.now c.args.a
    (record { block = f.slot.block; cell = Full c.args.value }) c.args.value c.requires
    (slot_at-within c.args.table.now c.args.a f.slot f.there) refl)
