use Rattle.std.proofs.Common.{◌≡◌, ◌++◌, replicate}
use Rattle.im_c.specs.Group.{unserved}

abbrev pub invariant-loop : Rattle.im_c.proofs.group.add_unserved.Given.invariant-loop
invariant-loop l = l.outcomes.items ≡ l.initial.outcomes.items ++ replicate l.counter unserved
