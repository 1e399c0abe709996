use Rattle.std.proofs.Common.{is_none, sym, ◌∙◌, arith}
use Rattle.im_cell.proofs.{Kept.long-slots, Kept.tested-read, Tables.none-is, Tables.none-some}
use Rattle.im_cell.specs.Slots.{slot_at}
use Rattle.im_cell.proofs.cells.Cells.is_free.Goals as goal

pub returns-then-at-len-clause-held : goal.returns-then-at-len-clause-held
returns-then-at-len-clause-held c = λ e less. absurd (omega (
  arith,
  long-slots c.self.inside.states.items c.self.inside.values.items
      c.self.inside.extents.items c.args.self.now c.self.invariant.0 c.self.invariant.1 c.self.view_is,
))

pub returns-clause-inside : goal.returns-clause-inside
returns-clause-inside c = λ e. omega (
  arith,
  long-slots c.self.inside.states.items c.self.inside.values.items
      c.self.inside.extents.items c.args.self.now c.self.invariant.0 c.self.invariant.1 c.self.view_is,
)

pub returns-clause-free : goal.returns-clause-free
returns-clause-free c = λ e. none-is (slot_at c.args.self.now c.args.at)
    (sym (tested-read is_none c.self.inside.states.items c.self.inside.values.items c.self.inside.extents.items
    c.args.self.now c.args.at _ _ c.self.invariant.0 c.self.invariant.1 c.self.view_is (omega arith) c.index.ensures
    c.is_free.ensures) ∙ e)

pub returns-clause-held : goal.returns-clause-held
returns-clause-held c = λ e less. none-some (slot_at c.args.self.now c.args.at)
    (sym (tested-read is_none c.self.inside.states.items c.self.inside.values.items c.self.inside.extents.items
    c.args.self.now c.args.at _ _ c.self.invariant.0 c.self.invariant.1 c.self.view_is (omega arith) c.index.ensures
    c.is_free.ensures) ∙ e)
