use Rattle.std.proofs.Common.{◌≡◌, take}
use Rattle.im_serial.specs.Had.{numbers_had}

abbrev pub invariant-loop-element : Rattle.im_serial.proofs.past.Past.new.Given.invariant-loop-element
invariant-loop-element l = l.many.items ≡ take l.element (numbers_had l.memory.contents)
