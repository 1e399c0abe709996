use Rattle.std.proofs.Common.{◌/◌, length, set, IsSome, sym, ap, ◌∙◌, subst, arith}
use Rattle.std.proofs.lemmas.List.{with_items_is}
use Rattle.im_cell.{proofs.Kept.some-inside, specs.Slots.is_waiting_slot, specs.Slots.slot_at, specs.Slots.with_cell}
use Rattle.im_cell.proofs.Seen.{at-own, length-shown, own-read, set-long, shown-set}
use Rattle.im_cell.specs.{declared.unit.TheConstants.UNIT, Units.shown_units}
use Rattle.im_cell.proofs.units.CellUnits.set.Goals as goal

pub unit_of-requires : goal.unit_of-requires
unit_of-requires c = omega (
  arith,
  some-inside c.args.self.now c.args.a c.requires,
  length-shown c.self.inside.units.items c.self.inside.cells,
  ap length c.self.view_is,
  c.self.invariant.0,
  ap length c.as_slice.ensures.value,
)

pub set-requires : goal.set-requires
set-requires c = subst IsSome (ap (λ s. slot_at s c.args.a) (sym c.self.view_is)
    ∙ at-own c.self.inside.units.items c.self.inside.cells c.args.a (own-read c.self.inside.units.items _ (c.args.a / UNIT) _ _ c.as_slice.ensures.value c.unit_of.ensures
    c.is_own.ensures c.if-is_own.true)
    (omega (arith, some-inside c.args.self.now c.args.a c.requires, length-shown c.self.inside.units.items c.self.inside.cells, ap length c.self.view_is))) c.requires

pub returns-then-is_own-clause-set : goal.returns-then-is_own-clause-set
returns-then-is_own-clause-set c =
    let own = (own-read c.self.inside.units.items _ (c.args.a / UNIT) _ _ c.as_slice.ensures.value c.unit_of.ensures
    c.is_own.ensures c.if-is_own.true) in
    ap (shown_units c.self.inside.units.items) c.set.ensures.set
    ∙ shown-set c.self.inside.units.items c.self.inside.cells c.args.a _ own
    ∙ ap (λ o. set (shown_units c.self.inside.units.items c.self.inside.cells) c.args.a (with_cell c.args.cell o)) (sym (at-own c.self.inside.units.items c.self.inside.cells c.args.a own
    (omega (arith, some-inside c.args.self.now c.args.a c.requires, length-shown c.self.inside.units.items c.self.inside.cells, ap length c.self.view_is))))
    ∙ ap (λ s. set s c.args.a (with_cell c.args.cell (slot_at s c.args.a))) c.self.view_is

pub returns-then-is_own-clause-waited : goal.returns-then-is_own-clause-waited
returns-then-is_own-clause-waited c =
    let own = (own-read c.self.inside.units.items _ (c.args.a / UNIT) _ _ c.as_slice.ensures.value c.unit_of.ensures
    c.is_own.ensures c.if-is_own.true) in
    c.set.ensures.waited ∙ ap is_waiting_slot (sym (at-own c.self.inside.units.items c.self.inside.cells c.args.a own
    (omega (arith, some-inside c.args.self.now c.args.a c.requires, length-shown c.self.inside.units.items c.self.inside.cells, ap length c.self.view_is))) ∙ ap (λ s. slot_at s c.args.a) c.self.view_is)

pub set_among_same-requires-clause-inside : goal.set_among_same-requires-clause-inside
set_among_same-requires-clause-inside c = (omega (arith, some-inside c.args.self.now c.args.a c.requires, length-shown c.self.inside.units.items c.self.inside.cells, ap length c.self.view_is))

pub invariant_of-self-2 : goal.invariant_of-self-2
invariant_of-self-2 c =
    let long = set-long c.as_mut_slice.result.now c.set_among_same.new.units c.self.inside.cells
    c.set_among_same.new.cells _ _ c.set_among_same.ensures.set in
    rw (with_items_is c.self.inside.units c.set_among_same.new.units
    (omega (arith, c.set_among_same.auto.units, c.as_mut_slice.ensures.len))) (
      omega (arith, long, c.self.invariant.0, c.set_among_same.auto.units, c.as_mut_slice.ensures.len),
      omega (arith, long, c.self.invariant.1),
      omega (arith, c.self.invariant.2, c.set_among_same.auto.units, c.as_mut_slice.ensures.len),
    )
