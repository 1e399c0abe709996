use Rattle.std.proofs.Common.{◌≡◌, ◌++◌}
use Rattle.im_image.specs.Fresh.{repeated}

abbrev pub invariant-loop-turn : Rattle.im_image.proofs.fresh.push_repeated.Given.invariant-loop-turn
invariant-loop-turn l = l.image.items ≡ l.initial.image.items ++ repeated l._turn l.bytes
