use Rattle.std.proofs.Common.{◌≡◌, ℕ, ◌<◌, ◌≤◌, true}
use Rattle.im_asks.specs.Windows.{is_answered_at}

-- all entries so far are answered
abbrev pub invariant-loop-number : Rattle.im_asks.proofs.places.first_unanswered.Given.invariant-loop-number
invariant-loop-number l =
    (number : ℕ) → l.bounds.0 ≤ number → number < l.number → is_answered_at l.memory.contents l.element number ≡ true
