use Rattle.std.proofs.Common.{◌≡◌, length, drop, sum_by}
use Rattle.im_trace.specs.Log.{unclaimed_lines}

abbrev pub invariant-loop-place : Rattle.im_trace.proofs.places.are_claimed.Given.invariant-loop-place
invariant-loop-place l =
    sum_by (λ place. length (unclaimed_lines place)) (drop l.place-index l.places)
    ≡ sum_by (λ place. length (unclaimed_lines place)) l.places
