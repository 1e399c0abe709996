use Rattle.std.proofs.Common.{◌≡◌, ℕ, ◌≤◌}
use Rattle.im_types.specs.Types.{new_window}
use Rattle.im_migration.specs.Resizing.{window_at}
use Rattle.im_migration.proofs.resizing.elements_needed.Given as goal

abbrev pub invariant-loop-needed : goal.invariant-loop-needed
invariant-loop-needed l = (e : ℕ) → l.needed ≤ e → window_at l.memory.contents.windows e ≡ new_window

abbrev pub decreases-loop-needed : goal.decreases-loop-needed
decreases-loop-needed l = l.needed
