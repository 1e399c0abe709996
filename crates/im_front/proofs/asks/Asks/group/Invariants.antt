use Rattle.std.proofs.Common.{◌≡◌, ◌++◌, length, drop}
use Rattle.im_front.specs.Lists.{commands_asked}

abbrev pub invariant-loop-i : Rattle.im_front.proofs.asks.Asks.group.Given.invariant-loop-i
invariant-loop-i l =
    (l.members.items ++ commands_asked (drop l.i l.self) ≡ commands_asked l.self) × (length l.members.items ≡ l.i)
