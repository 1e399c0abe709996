use Rattle.std.proofs.Common.{◌-◌, length, ap, arith}
use Rattle.im_laws.proofs.BlockLemmas.{length-fill}
use Rattle.im_cell.{proofs.Seen.shown-filled, specs.Units.common_slot}
use Rattle.im_cell.proofs.filling.fill_uncut.Goals as goal

pub fill-requires-2-clause-inside : goal.fill-requires-2-clause-inside
fill-requires-2-clause-inside c = omega (
  arith,
  ap length c.fill.ensures,
  c.requires.inside,
  length-fill c.args.cells.now c.args.base (c.min-low.result - c.args.base) (common_slot c.args.unit),
)

pub returns : goal.returns
returns c = shown-filled c.args.units.now c.fill_units.new.units c.args.cells.now c.fill.new.self c.fill-2.new.self
    c.args.base c.min-low.result c.max-high.result c.args.end c.args.unit c.requires.unit c.requires.order
    c.requires.inside c.requires.first c.requires.last (omega (arith, c.min-low.ensures)) (omega (arith, c.max-high.ensures))
    c.fill.ensures c.fill-2.ensures c.fill_units.ensures
