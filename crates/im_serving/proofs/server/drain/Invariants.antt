use Rattle.std.proofs.Common.{◌≡◌, ◌≤◌, false, length}
use mathlib.Core.List.{IsPrefix}
use Rattle.im_serving.proofs.server.drain.Given as goal

abbrev pub invariant-loop : goal.invariant-loop
invariant-loop g l =
    (goal.iterator-loop g).can_next l.iterator' × (goal.iterator-loop g).is_finite l.iterator'
    × (l.outlet.ended ≡ false) × (l.outlet.pipe ≡ l.fn.outlet.pipe)
    × (length l.fn.outlet.items ≤ length l.outlet.items) × IsPrefix l.fn.outlet.items l.outlet.items
