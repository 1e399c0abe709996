use Rattle.std.proofs.Common.{◌≡◌, ℕ, ◌+◌, ◌-◌, ◌*◌, ◌<◌, ◌≤◌}
use Rattle.im_holes.specs.Tree.{row_length}
use Rattle.im_holes.proofs.tree.room_for.Given as goal

abbrev pub invariant-loop-count : goal.invariant-loop-count
invariant-loop-count l = record {
  power : (height : ℕ) × (l.count ≡ row_length height);
  some : 0 < l.count;
  few : l.count ≤ 2 * l.leaves + 1;
}

abbrev pub decreases-loop-count : goal.decreases-loop-count
decreases-loop-count l = l.leaves - l.count
