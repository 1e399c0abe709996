use Rattle.std.proofs.Common.{◌+◌, ◌-◌, ◌/◌, length, ap, ◌∙◌, arith}
use Rattle.std.proofs.lemmas.List.{length-replicate}
use Rattle.im_cell.proofs.Seen.{all-each, shown-plain}
use Rattle.im_cell.specs.{declared.unit.TheConstants.UNIT, declared.unit.Unit.TheVariants.Each, Units.unit_at}
use Rattle.im_cell.proofs.units.CellUnits.over.Goals as goal

pub invariant_of-result : goal.invariant_of-result
invariant_of-result c =
    let m = ap length c.requires.units ∙ length-replicate ((length c.args.cells + (UNIT - 1)) / UNIT) Each in
    (omega arith, omega arith, omega arith)

pub returns : goal.returns
returns c = shown-plain c.args.units.items c.args.cells
    (λ j. ap (λ us. unit_at us j) c.requires.units ∙ all-each ((length c.args.cells + (UNIT - 1)) / UNIT) j)
