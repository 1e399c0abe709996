use Rattle.std.proofs.Common.{ap, ◌∙◌, arith}
use Rattle.im_cell.proofs.Kept.{long-slots, set-read, some-inside, tested-read}
use Rattle.im_cell.specs.{Cells.state_for, Slots.is_waiting_slot}
use Rattle.im_cell.proofs.cells.Cells.set.Goals as goal

pub index-state-requires : goal.index-state-requires
index-state-requires c = omega (
  arith,
  some-inside c.args.self.now c.args.at c.requires,
  long-slots c.self.inside.states.items c.self.inside.values.items c.self.inside.extents.items c.args.self.now c.self.invariant.0 c.self.invariant.1 c.self.view_is,
)

pub index_mut-requires : goal.index_mut-requires
index_mut-requires c = omega (
  arith,
  some-inside c.args.self.now c.args.at c.requires,
  long-slots c.self.inside.states.items c.self.inside.values.items c.self.inside.extents.items c.args.self.now c.self.invariant.0 c.self.invariant.1 c.self.view_is,
)

pub index_mut-requires-2 : goal.index_mut-requires-2
index_mut-requires-2 c = omega (
  arith,
  some-inside c.args.self.now c.args.at c.requires,
  long-slots c.self.inside.states.items c.self.inside.values.items c.self.inside.extents.items c.args.self.now c.self.invariant.0 c.self.invariant.1 c.self.view_is,
)

pub returns-clause-set : goal.returns-clause-set
returns-clause-set c = set-read c.self.inside.states.items c.self.inside.values.items c.self.inside.extents.items c.args.self.now c.args.at _ _ _ c.args.cell
    c.self.invariant.0 c.self.invariant.1 c.self.view_is
    (omega (
      arith,
      some-inside c.args.self.now c.args.at c.requires,
      long-slots c.self.inside.states.items c.self.inside.values.items c.self.inside.extents.items c.args.self.now c.self.invariant.0 c.self.invariant.1 c.self.view_is,
    ))
    c.index-state.ensures c.requires (c.state_of.ensures ∙ ap (λ k. state_for k c.args.cell) c.kind.ensures)
    c.value_in.ensures

pub returns-clause-waited : goal.returns-clause-waited
returns-clause-waited c = tested-read is_waiting_slot c.self.inside.states.items c.self.inside.values.items c.self.inside.extents.items c.args.self.now c.args.at _ _
    c.self.invariant.0 c.self.invariant.1 c.self.view_is
    (omega (
      arith,
      some-inside c.args.self.now c.args.at c.requires,
      long-slots c.self.inside.states.items c.self.inside.values.items c.self.inside.extents.items c.args.self.now c.self.invariant.0 c.self.invariant.1 c.self.view_is,
    ))
    c.index-state.ensures c.is_waiting.ensures
