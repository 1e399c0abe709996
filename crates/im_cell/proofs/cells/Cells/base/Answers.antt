use Rattle.std.proofs.Common.{arith}
use Rattle.im_cell.proofs.Kept.{base-read, long-slots, some-inside}
use Rattle.im_cell.proofs.cells.Cells.base.Goals as goal

pub index-requires : goal.index-requires
index-requires c = omega (
  arith,
  some-inside c.args.self.now c.args.at c.requires,
  long-slots c.self.inside.states.items c.self.inside.values.items c.self.inside.extents.items c.args.self.now
      c.self.invariant.0 c.self.invariant.1 c.self.view_is,
)

pub returns : goal.returns
returns c = base-read c.self.inside.states.items c.self.inside.values.items c.self.inside.extents.items c.args.self.now
    c.args.at _ c.self.invariant.0 c.self.invariant.1 c.self.view_is
    (omega (
      arith,
      some-inside c.args.self.now c.args.at c.requires,
      long-slots c.self.inside.states.items c.self.inside.values.items c.self.inside.extents.items c.args.self.now
          c.self.invariant.0 c.self.invariant.1 c.self.view_is,
    ))
    c.index.ensures c.requires
