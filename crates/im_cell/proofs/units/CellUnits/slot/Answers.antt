use Rattle.std.proofs.Common.{◌/◌, sym, ap, ◌∙◌, arith}
use Rattle.im_cell.proofs.Seen.{at-common, at-own, own-read, past-shown}
use Rattle.im_cell.specs.{declared.unit.TheConstants.UNIT, Slots.slot_at}
use Rattle.im_cell.specs.Units.{common_slot, is_own, unit_at}
use Rattle.im_cell.proofs.units.CellUnits.slot.Goals as goal

pub returns-then-at-len : goal.returns-then-at-len
returns-then-at-len c = sym (past-shown c.self.inside.units.items c.self.inside.cells c.args.a (omega arith))
    ∙ ap (λ s. slot_at s c.args.a) c.self.view_is

pub returns-then-is_own : goal.returns-then-is_own
returns-then-is_own c = c.slot.ensures ∙ sym (at-own c.self.inside.units.items c.self.inside.cells c.args.a
    (own-read c.self.inside.units.items _ (c.args.a / UNIT) _ _ c.as_slice.ensures.value c.unit_of-unit.ensures
    c.is_own.ensures c.if-is_own.true) (omega arith))
    ∙ ap (λ s. slot_at s c.args.a) c.self.view_is

pub returns : goal.returns
returns c = c.slot-2.ensures
    ∙ ap common_slot (c.unit_of-unit.ensures ∙ ap (λ us. unit_at us (c.args.a / UNIT)) c.as_slice.ensures.value)
    ∙ sym (at-common c.self.inside.units.items c.self.inside.cells c.args.a
    (ap is_own (sym (c.unit_of-unit.ensures ∙ ap (λ us. unit_at us (c.args.a / UNIT)) c.as_slice.ensures.value))
    ∙ sym c.is_own.ensures ∙ c.if-is_own.false) (omega arith))
    ∙ ap (λ s. slot_at s c.args.a) c.self.view_is
