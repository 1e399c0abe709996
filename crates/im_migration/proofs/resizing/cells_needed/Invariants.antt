use Rattle.std.proofs.Common.{◌≡◌, ℕ, ◌≤◌, None}
use Rattle.im_types.specs.Types.{held_at}
use Rattle.im_migration.proofs.resizing.cells_needed.Given as goal

abbrev pub invariant-loop-needed : goal.invariant-loop-needed
invariant-loop-needed l = (a : ℕ) → l.needed ≤ a → held_at l.memory.contents.cells a ≡ None

abbrev pub decreases-loop-needed : goal.decreases-loop-needed
decreases-loop-needed l = l.needed
