use Rattle.std.proofs.Common.{◌≡◌, ◌++◌, map, drop}
use Rattle.im_types.specs.Types.{Asks}

abbrev pub invariant-loop-member : Rattle.im_engine.proofs.groups.commands_of.Given.invariant-loop-member
invariant-loop-member l = l.commands.items ++ map Asks (drop l.member-index l.members) ≡ map Asks l.members
