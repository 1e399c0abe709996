use Rattle.std.proofs.Common.{◌-◌, length, set, sym, ap, ◌∙◌, arith, get_or-set_other, get_or-set_same}
use Rattle.im_types.specs.Types.{fill}
use Rattle.im_cell.proofs.Seen.{shown-written, unit-beside, unit-bounds}
use Rattle.im_cell.specs.{declared.unit.Unit.TheVariants.Each, Units.common_slot, Units.is_own}

pub returns-clause-same : Rattle.im_cell.proofs.filling.write_out.Goals.returns-clause-same
returns-clause-same c = shown-written c.args.units.now (set c.args.units.now c.args.at Each) c.args.cells.now
    c.fill.new.self c.args.at c.min-from.result c.min-to.result
    (ap is_own (sym c.unit_of-unit.ensures) ∙ sym c.is_own.ensures ∙ c.if-is_own.false)
    (get_or-set_same c.args.units.now c.args.at Each Each c.requires.inside)
    (λ j ne. get_or-set_other c.args.units.now c.args.at j Each Each ne)
    (c.fill.ensures ∙ ap (λ u. fill c.args.cells.now c.min-from.result (c.min-to.result - c.min-from.result)
    (common_slot u)) c.unit_of-unit.ensures)
    (omega (arith, c.min-from.ensures, c.min-to.ensures))
    (unit-bounds (length c.args.cells.now) c.args.at c.min-from.result c.min-to.result
    (omega (arith, c.min-from.ensures)) (omega (arith, c.min-to.ensures)))
    (unit-beside (length c.args.cells.now) c.args.at c.min-from.result c.min-to.result
    (omega (arith, c.min-from.ensures)) (omega (arith, c.min-to.ensures)))
