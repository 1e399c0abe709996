use Rattle.std.proofs.Common.{ap, ◌∙◌, arith}
use Rattle.im_cell.{proofs.Kept.at-read, proofs.Kept.long-slots, specs.Slots.slot_at}
use Rattle.im_cell.proofs.cells.Cells.slot.Goals as goal

pub index-requires : goal.index-requires
index-requires c = omega (
  arith,
  long-slots c.self.inside.states.items c.self.inside.values.items
      c.self.inside.extents.items c.args.self.now c.self.invariant.0 c.self.invariant.1 c.self.view_is,
)

pub index-requires-2 : goal.index-requires-2
index-requires-2 c = omega (
  arith,
  long-slots c.self.inside.states.items c.self.inside.values.items
      c.self.inside.extents.items c.args.self.now c.self.invariant.0 c.self.invariant.1 c.self.view_is,
)

pub index-requires-3 : goal.index-requires-3
index-requires-3 c = omega (
  arith,
  long-slots c.self.inside.states.items c.self.inside.values.items
      c.self.inside.extents.items c.args.self.now c.self.invariant.0 c.self.invariant.1 c.self.view_is,
)

pub returns : goal.returns
returns c = c.slot.ensures
    ∙ at-read c.self.inside.states.items c.self.inside.values.items c.self.inside.extents.items c.args.at _ _ _
    c.self.invariant.0 c.self.invariant.1
    (omega (
      arith,
      long-slots c.self.inside.states.items c.self.inside.values.items c.self.inside.extents.items
          c.args.self.now c.self.invariant.0 c.self.invariant.1 c.self.view_is,
    ))
    c.index.ensures c.index-2.ensures c.index-3.ensures
    ∙ ap (λ s. slot_at s c.args.at) c.self.view_is
