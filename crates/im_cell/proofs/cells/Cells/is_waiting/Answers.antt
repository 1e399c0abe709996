use Rattle.std.proofs.Common.{arith}
use Rattle.im_cell.{proofs.Kept.long-slots, proofs.Kept.tested-read, specs.Slots.is_waiting_slot}
use Rattle.im_cell.proofs.cells.Cells.is_waiting.Goals as goal

pub index-requires : goal.index-requires
index-requires c = omega (
  arith,
  long-slots c.self.inside.states.items c.self.inside.values.items
      c.self.inside.extents.items c.args.self.now c.self.invariant.0 c.self.invariant.1 c.self.view_is,
)

pub returns : goal.returns
returns c = tested-read is_waiting_slot c.self.inside.states.items c.self.inside.values.items
    c.self.inside.extents.items c.args.self.now c.args.at _ _ c.self.invariant.0 c.self.invariant.1 c.self.view_is
    (omega (
      arith,
      long-slots c.self.inside.states.items c.self.inside.values.items
          c.self.inside.extents.items c.args.self.now c.self.invariant.0 c.self.invariant.1 c.self.view_is,
    ))
    c.index.ensures c.is_waiting.ensures
