use Rattle.std.proofs.Common.{◌≡◌, ℕ, true, set, Some, sym, ◌∙◌, subst}
use Rattle.im_holes.specs.Holes.{holder_at}
use Rattle.im_cell.proofs.Begun.{count-held, count-slot, counts-passed, counts-step, held-step}
use Rattle.im_cell.specs.Table.{CanMove, moved}
use Rattle.im_cell.proofs.counts.count_cell.Goals as goal

pub base-requires : goal.base-requires
base-requires c = count-slot c.args.cells.now c.args.holes.now c.args.a c.requires.blocks c.requires.few
    c.requires.held (sym c.is_waiting.ensures ∙ c.if-is_waiting.true) c.requires.waits

pub recount-requires : goal.recount-requires
recount-requires c = record {
  held =
      subst (λ b. (n : ℕ) × (holder_at c.args.holes.now b ≡ Some n) × CanMove true n) (sym c.base.ensures)
      (count-held c.args.cells.now c.args.holes.now c.args.a c.requires.blocks c.requires.few
      c.requires.held (sym c.is_waiting.ensures ∙ c.if-is_waiting.true) c.requires.waits);
}

pub returns-then-is_waiting-clause-held : goal.returns-then-is_waiting-clause-held
returns-then-is_waiting-clause-held c = held-step c.args.cells.now c.args.holes.now c.args.a c.requires.blocks
    c.requires.few c.requires.held (sym c.is_waiting.ensures ∙ c.if-is_waiting.true) c.requires.waits
    c.recount.new.holes
    (subst (λ b. (n : ℕ) → holder_at c.args.holes.now b ≡ Some n
    → c.recount.new.holes ≡ set c.args.holes.now b (Some (moved true n))) c.base.ensures c.recount.ensures)

pub returns-then-is_waiting-clause-waits : goal.returns-then-is_waiting-clause-waits
returns-then-is_waiting-clause-waits c = counts-step c.args.cells.now c.args.holes.now c.args.a c.requires.blocks
    c.requires.few c.requires.held (sym c.is_waiting.ensures ∙ c.if-is_waiting.true) c.requires.waits
    c.recount.new.holes
    (subst (λ b. (n : ℕ) → holder_at c.args.holes.now b ≡ Some n
    → c.recount.new.holes ≡ set c.args.holes.now b (Some (moved true n))) c.base.ensures c.recount.ensures)

pub returns-else-is_waiting-clause-waits : goal.returns-else-is_waiting-clause-waits
returns-else-is_waiting-clause-waits c = counts-passed c.args.cells.now c.args.holes.now c.args.a
    (sym c.is_waiting.ensures ∙ c.if-is_waiting.false) c.requires.waits
