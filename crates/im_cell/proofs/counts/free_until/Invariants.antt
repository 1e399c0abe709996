use Rattle.std.proofs.Common.{◌≡◌, ℕ, ◌-◌, ◌<◌, ◌≤◌, length, None}
use Rattle.im_cell.specs.Slots.{slot_at}
use Rattle.im_cell.proofs.counts.free_until.Given as goal

abbrev pub invariant-loop-at : goal.invariant-loop-at
invariant-loop-at l = record {
  order : l.from ≤ l.at;
  inside : l.at ≤ length l.cells;
  free : (k : ℕ) → l.from ≤ k → k < l.at → slot_at l.cells k ≡ None;
}

abbrev pub decreases-loop-at : goal.decreases-loop-at
decreases-loop-at l = length l.cells - l.at
