use Rattle.std.proofs.Common.{◌≡◌, ◌++◌, drop}
use Rattle.im_engine.specs.Commands.{each_refused}

abbrev pub invariant-loop-member : Rattle.im_engine.proofs.groups.refuse_all.Given.invariant-loop-member
invariant-loop-member l = l.served.items ++ each_refused l.refusal (drop l._member-index l.members)
    ≡ each_refused l.refusal l.members
