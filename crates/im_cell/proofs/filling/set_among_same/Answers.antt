use Rattle.std.proofs.Common.{set, IsSome, sym, ap, ◌∙◌, subst}
use Rattle.im_cell.proofs.Seen.{own-there, shown-set}
use Rattle.im_cell.specs.{Slots.is_waiting_slot, Slots.slot_at, Slots.with_cell, Units.shown_units}
use Rattle.im_cell.proofs.filling.set_among_same.Goals as goal

pub set-requires : goal.set-requires
set-requires c = subst IsSome (sym (own-there c.args.units.now c.write_out.new.units c.args.cells.now
    c.write_out.new.cells c.args.at c.write_out.ensures.same c.write_out.ensures.own c.requires.inside)) c.requires.held

pub returns-clause-set : goal.returns-clause-set
returns-clause-set c =
    ap (shown_units c.write_out.new.units) c.set.ensures.set
    ∙ shown-set c.write_out.new.units c.write_out.new.cells c.args.at _ c.write_out.ensures.own
    ∙ ap (λ s. set s c.args.at (with_cell c.args.cell (slot_at c.write_out.new.cells c.args.at))) c.write_out.ensures.same
    ∙ ap (λ o. set (shown_units c.args.units.now c.args.cells.now) c.args.at (with_cell c.args.cell o))
    (own-there c.args.units.now c.write_out.new.units c.args.cells.now
    c.write_out.new.cells c.args.at c.write_out.ensures.same c.write_out.ensures.own c.requires.inside)

pub returns-clause-waited : goal.returns-clause-waited
returns-clause-waited c = c.set.ensures.waited ∙ ap is_waiting_slot (own-there c.args.units.now c.write_out.new.units
    c.args.cells.now c.write_out.new.cells c.args.at c.write_out.ensures.same c.write_out.ensures.own
    c.requires.inside)
