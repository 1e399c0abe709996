use Rattle.std.proofs.Common.{◌≡◌, ◌+◌, ◌-◌}
use Rattle.im_types.specs.Types.{closed_from}
use Rattle.im_journal.specs.Holding.{ring_alone}

abbrev pub invariant-loop-i : Rattle.im_journal.proofs.ring.closed_in.Given.invariant-loop-i
invariant-loop-i l = closed_from (ring_alone l.slots) l.count l.«from» l.ring
    ≡ l.i + closed_from (ring_alone l.slots) (l.count - l.i) (l.«from» + l.i) l.ring
