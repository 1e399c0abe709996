use Rattle.std.proofs.Common.{◌≡◌, ◌-◌, length}
use Rattle.im_contents.specs.Walk.{met_after, walk}

abbrev pub invariant-loop-step : Rattle.im_contents.proofs.walk.walk.Given.invariant-loop-step
invariant-loop-step l =
    met_after l.initial.waiters.items (walk l.nodes l.last (length l.nodes) l.initial.marks l.first)
    ≡ met_after l.waiters.items (walk l.nodes l.last (length l.nodes - l._step) l.marks l.at)
