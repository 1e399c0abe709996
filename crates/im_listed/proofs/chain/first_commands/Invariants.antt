use Rattle.std.proofs.Common.{◌≡◌, ◌++◌, length, drop}
use Rattle.im_front.specs.Lists.{commands_asked}

abbrev pub invariant-loop-i : Rattle.im_listed.proofs.chain.first_commands.Given.invariant-loop-i
invariant-loop-i l =
    (l.members.items ++ commands_asked (drop l.i l.asked) ≡ commands_asked l.asked) × (length l.members.items ≡ l.i)
