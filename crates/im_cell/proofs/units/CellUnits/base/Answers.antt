use Rattle.std.proofs.Common.{◌/◌, length, IsSome, sym, ap, ◌∙◌, subst, arith}
use Rattle.im_cell.proofs.{Kept.some-inside, Seen.at-own, Seen.at-shown, Seen.length-shown}
use Rattle.im_cell.specs.{declared.unit.TheConstants.UNIT, Slots.slot_at, Table.base_in, Units.slot_by, Units.unit_at}
use Rattle.im_cell.proofs.units.CellUnits.base.Goals as goal

pub unit_of-requires : goal.unit_of-requires
unit_of-requires c = omega (
  arith,
  some-inside c.args.self.now c.args.a c.requires,
  length-shown c.self.inside.units.items c.self.inside.cells,
  ap length c.self.view_is,
  c.self.invariant.0,
  ap length c.as_slice.ensures.value,
)

pub base-requires : goal.base-requires
base-requires c = subst IsSome (ap (λ s. slot_at s c.args.a) (sym c.self.view_is)
    ∙ at-own c.self.inside.units.items c.self.inside.cells c.args.a
    (sym (c.in-Each.ensures ∙ ap (λ us. unit_at us (c.args.a / UNIT)) c.as_slice.ensures.value))
    (omega (
      arith,
      some-inside c.args.self.now c.args.a c.requires,
      length-shown c.self.inside.units.items c.self.inside.cells,
      ap length c.self.view_is,
    ))) c.requires

pub returns-in-Each : goal.returns-in-Each
returns-in-Each c = c.base.ensures
    ∙ ap base_in (sym (at-own c.self.inside.units.items c.self.inside.cells c.args.a
    (sym (c.in-Each.ensures ∙ ap (λ us. unit_at us (c.args.a / UNIT)) c.as_slice.ensures.value))
    (omega (
      arith,
      some-inside c.args.self.now c.args.a c.requires,
      length-shown c.self.inside.units.items c.self.inside.cells,
      ap length c.self.view_is,
    )))
    ∙ ap (λ s. slot_at s c.args.a) c.self.view_is)

pub returns-in-Free : goal.returns-in-Free
returns-in-Free c =
    ap (λ u. base_in (slot_by u (slot_at c.self.inside.cells c.args.a)))
    (c.in-Free.ensures ∙ ap (λ us. unit_at us (c.args.a / UNIT)) c.as_slice.ensures.value)
    ∙ ap base_in (sym (at-shown c.self.inside.units.items c.self.inside.cells c.args.a
    (omega (
      arith,
      some-inside c.args.self.now c.args.a c.requires,
      length-shown c.self.inside.units.items c.self.inside.cells,
      ap length c.self.view_is,
    )))
    ∙ ap (λ s. slot_at s c.args.a) c.self.view_is)

pub returns-in-BlockI : goal.returns-in-BlockI
returns-in-BlockI c =
    ap (λ u. base_in (slot_by u (slot_at c.self.inside.cells c.args.a)))
    (c.in-BlockI.ensures ∙ ap (λ us. unit_at us (c.args.a / UNIT)) c.as_slice.ensures.value)
    ∙ ap base_in (sym (at-shown c.self.inside.units.items c.self.inside.cells c.args.a
    (omega (
      arith,
      some-inside c.args.self.now c.args.a c.requires,
      length-shown c.self.inside.units.items c.self.inside.cells,
      ap length c.self.view_is,
    )))
    ∙ ap (λ s. slot_at s c.args.a) c.self.view_is)

pub returns-in-BlockM : goal.returns-in-BlockM
returns-in-BlockM c =
    ap (λ u. base_in (slot_by u (slot_at c.self.inside.cells c.args.a)))
    (c.in-BlockM.ensures ∙ ap (λ us. unit_at us (c.args.a / UNIT)) c.as_slice.ensures.value)
    ∙ ap base_in (sym (at-shown c.self.inside.units.items c.self.inside.cells c.args.a
    (omega (
      arith,
      some-inside c.args.self.now c.args.a c.requires,
      length-shown c.self.inside.units.items c.self.inside.cells,
      ap length c.self.view_is,
    )))
    ∙ ap (λ s. slot_at s c.args.a) c.self.view_is)
