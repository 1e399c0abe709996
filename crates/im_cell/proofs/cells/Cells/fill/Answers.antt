use Rattle.std.proofs.{Common.◌-◌, Common.ap, Common.◌∙◌, Common.subst, Common.arith, lemmas.List.with_items_is}
use Rattle.im_types.specs.Types.{fill}
use Rattle.im_cell.{proofs.Kept.fill-slots, proofs.Kept.long-slots, specs.Cells.IsFilled, specs.Units.common_slot}
use Rattle.im_cell.specs.declared.state.{State.TheVariants.Free, TheConstants.NOWHERE}
use Rattle.im_cell.proofs.cells.Cells.fill.Goals as goal

pub fill_states-requires : goal.fill_states-requires
fill_states-requires c = omega (
  arith,
  c.as_mut_slice.ensures.len,
  long-slots c.self.inside.states.items c.self.inside.values.items c.self.inside.extents.items c.args.self.now c.self.invariant.0 c.self.invariant.1 c.self.view_is,
)

pub fill_extents-requires : goal.fill_extents-requires
fill_extents-requires c = omega (
  arith,
  c.as_mut_slice-2.ensures.len,
  long-slots c.self.inside.states.items c.self.inside.values.items c.self.inside.extents.items c.args.self.now c.self.invariant.0 c.self.invariant.1 c.self.view_is,
)

pub returns : goal.returns
returns c =
    rw (
      with_items_is c.self.inside.states c.fill_states.new.states
          (omega (arith, c.fill_states.auto.states, c.as_mut_slice.ensures.len)),
      with_items_is c.self.inside.extents c.fill_extents.new.extents
          (omega (arith, c.fill_extents.auto.extents, c.as_mut_slice-2.ensures.len)),
    )
    (fill-slots c.self.inside.states.items c.fill_states.new.states c.self.inside.values.items
    c.self.inside.extents.items c.fill_extents.new.extents c.args.from c.args.to c.parts-state.result.0 c.parts-state.result.1 (common_slot c.args.unit)
    c.self.invariant.0 c.self.invariant.1
    (omega (arith, c.fill_states.auto.states, c.as_mut_slice.ensures.len))
    (omega (arith, c.fill_extents.auto.extents, c.as_mut_slice-2.ensures.len))
    c.requires.order
    (omega (arith, c.requires.inside, long-slots c.self.inside.states.items c.self.inside.values.items c.self.inside.extents.items c.args.self.now c.self.invariant.0 c.self.invariant.1 c.self.view_is))
    (subst (λ xs. IsFilled Free xs c.fill_states.new.states c.args.from c.args.to c.parts-state.result.0) c.as_mut_slice.ensures.value
    c.fill_states.ensures)
    (subst (λ xs. IsFilled NOWHERE xs c.fill_extents.new.extents c.args.from c.args.to c.parts-state.result.1)
    c.as_mut_slice-2.ensures.value c.fill_extents.ensures)
    c.parts-state.ensures
    ∙ ap (λ s. fill s c.args.from (c.args.to - c.args.from) (common_slot c.args.unit)) c.self.view_is)
