use Rattle.std.proofs.Common.{◌≡◌, ℕ, ◌+◌, ◌-◌, true, false, ◌||◌, sym, ap, ◌∙◌, arith}
use Rattle.im_types.specs.Types.{held_at, is_waiting_cell}
use Rattle.im_changes.proofs.CellLemmas.{waits-step, waits_in}
use Rattle.im_changes.proofs.is_one_waiting.Goals as goal

pub returns-then-is_waiting : goal.returns-then-is_waiting
returns-then-is_waiting c =
    let cells = c.args.memory.now.contents.cells in let a = c.args.base + c.loop-i.i in let n = c.args.count - c.loop-i.i in
    let step = waits-step cells a n (omega (arith, c.requires)) (omega arith) in
    let waiting : is_waiting_cell (held_at cells a)
    ≡ true = sym (c.is_waiting.ensures (held_at cells a) c.cell.ensures) ∙ c.if-is_waiting.true in
    sym (ap (λ b. b || waits_in cells (a + 1) (n - 1)) waiting) ∙ sym step ∙ c.loop-i.invariant

pub loop-i-preserved : goal.loop-i-preserved
loop-i-preserved c =
    let cells = c.args.memory.now.contents.cells in let i = c.loop-i.i in let a = c.args.base + i in let n = c.args.count - i in
    let step = waits-step cells a n (omega (arith, c.requires)) (omega arith) in
    let not : is_waiting_cell (held_at cells a) ≡ false = sym (c.is_waiting.ensures (held_at cells a) c.cell.ensures)
    ∙ c.if-is_waiting.false in
    let at : c.args.base + (i + 1) ≡ a + 1 = omega arith in let left : c.args.count - (i + 1) ≡ n - 1 = omega arith in
    ap (λ (k : ℕ). waits_in cells k (c.args.count - (i + 1))) at ∙ ap (λ (k : ℕ). waits_in cells (a + 1) k) left
    ∙ sym (ap (λ b. b || waits_in cells (a + 1) (n - 1)) not) ∙ sym step ∙ c.loop-i.invariant
