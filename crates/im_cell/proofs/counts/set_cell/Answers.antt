use Rattle.std.proofs.Common.{◌≡◌, ℕ, set, Some, sym, ◌∙◌, subst}
use Rattle.im_holes.specs.Holes.{holder_at}
use Rattle.im_cell.proofs.{Counted.differ-no, Counted.differ-yes, Tables.number-set, Tables.set-kept, Tables.set-moved}
use Rattle.im_cell.specs.{Slots.slot_at, Table.base_in, Table.CanMove, Table.IsTable, Table.moved}
use Rattle.im_cell.proofs.counts.set_cell.Goals as goal

pub recount-requires : goal.recount-requires
recount-requires c = record {
  held =
      subst (λ b. (n : ℕ) × (holder_at c.args.holes.now b ≡ Some n) × CanMove c.is_waited_for-waits.result n)
      (sym c.base.ensures)
      (subst (λ s. (n : ℕ) × (holder_at c.args.holes.now (base_in (slot_at s c.args.a)) ≡ Some n)
      × CanMove c.is_waited_for-waits.result n) (sym c.set-waited.ensures.set)
      (number-set c.args.slots.now c.args.holes.now c.args.a c.args.cell c.requires.table c.requires.held
      c.set-waited.result c.set-waited.ensures.waited c.is_waited_for-waits.result c.is_waited_for-waits.ensures
      (differ-yes c.is_waited_for-waits.result c.set-waited.result c.if-waits-waited.true)));
}

pub returns-then-waits-waited-clause-table : goal.returns-then-waits-waited-clause-table
returns-then-waits-waited-clause-table c =
    subst (λ s. IsTable s c.recount.new.holes) (sym c.set-waited.ensures.set)
    (set-moved c.args.slots.now c.args.holes.now c.args.a c.args.cell c.requires.table c.requires.held
    c.set-waited.result c.set-waited.ensures.waited c.is_waited_for-waits.result c.is_waited_for-waits.ensures
    (differ-yes c.is_waited_for-waits.result c.set-waited.result c.if-waits-waited.true) c.recount.new.holes
    (subst (λ s. (n : ℕ) → holder_at c.args.holes.now (base_in (slot_at s c.args.a)) ≡ Some n
    → c.recount.new.holes ≡ set c.args.holes.now (base_in (slot_at s c.args.a))
    (Some (moved c.is_waited_for-waits.result n))) c.set-waited.ensures.set
    (subst (λ b. (n : ℕ) → holder_at c.args.holes.now b ≡ Some n
    → c.recount.new.holes ≡ set c.args.holes.now b (Some (moved c.is_waited_for-waits.result n)))
    c.base.ensures c.recount.ensures)))

pub returns-else-waits-waited-clause-table : goal.returns-else-waits-waited-clause-table
returns-else-waits-waited-clause-table c =
    subst (λ s. IsTable s c.args.holes.now) (sym c.set-waited.ensures.set)
    (set-kept c.args.slots.now c.args.holes.now c.args.a c.args.cell c.requires.table c.requires.held
    c.set-waited.result c.set-waited.ensures.waited (sym c.is_waited_for-waits.ensures
    ∙ differ-no c.is_waited_for-waits.result c.set-waited.result c.if-waits-waited.false))
