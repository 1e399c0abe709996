use Rattle.std.proofs.Common.{◌≡◌, ◌+◌, ◌-◌}
use Rattle.im_types.specs.Types.{are_stale}
use Rattle.im_journal.specs.Holding.{ring_alone}

abbrev pub invariant-loop-i : Rattle.im_journal.proofs.ring.are_stale.Given.invariant-loop-i
invariant-loop-i l = are_stale (ring_alone l.slots) l.count l.«from» l.first l.ring
    ≡ are_stale (ring_alone l.slots) (l.count - l.i) (l.«from» + l.i) l.first l.ring
