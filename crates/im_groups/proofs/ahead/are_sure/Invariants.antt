use Rattle.std.proofs.Common.{◌≡◌, ℕ, ◌<◌, ◌≤◌, true}
use Rattle.im_groups.specs.Ahead.{is_sure}

-- all numbers so far are
abbrev pub invariant-loop-number : Rattle.im_groups.proofs.ahead.are_sure.Given.invariant-loop-number
invariant-loop-number l = (number : ℕ) → l.from ≤ number → number < l.number
    → is_sure l.memory.contents l.ahead (record { element = l.element; number = number }) ≡ true
