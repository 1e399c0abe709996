use Rattle.std.proofs.{Common.sym, Common.ap, Common.◌∙◌, Common.arith, lemmas.List.with_items_is}
use Rattle.im_cell.{proofs.Seen.past-shown, proofs.Seen.same-long, specs.Slots.slot_at}
use Rattle.im_cell.proofs.units.CellUnits.slot_to_write.Goals as goal

pub returns-then-at-len-clause-slot : goal.returns-then-at-len-clause-slot
returns-then-at-len-clause-slot c =
    sym (past-shown c.self.inside.units.items c.self.inside.cells c.args.a (omega arith))
    ∙ ap (λ s. slot_at s c.args.a) c.self.view_is

pub invariant_of-self : goal.invariant_of-self
invariant_of-self c =
    let long = same-long c.as_mut_slice.result.now c.own_slot.new.units c.self.inside.cells c.own_slot.new.cells
    c.own_slot.ensures.same in
    rw (with_items_is c.self.inside.units c.own_slot.new.units
    (omega (arith, c.own_slot.auto.units, c.as_mut_slice.ensures.len))) (
      omega (arith, long, c.self.invariant.0, c.own_slot.auto.units, c.as_mut_slice.ensures.len),
      omega (arith, long, c.self.invariant.1),
      omega (arith, c.self.invariant.2, c.own_slot.auto.units, c.as_mut_slice.ensures.len),
    )
