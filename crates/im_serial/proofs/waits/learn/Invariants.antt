use Rattle.std.proofs.Common.{◌≡◌, map}
use Rattle.im_text.specs.Said.{who_of}
use Rattle.im_serial.specs.Noted.{Learns}

abbrev pub invariant-loop-number : Rattle.im_serial.proofs.waits.learn.Given.invariant-loop-number
invariant-loop-number l = (map who_of l.waited ≡ map who_of l.fn.waited) × Learns l.memory.contents l.element l.base l.number l.fn.places.marks.items l.fn.waited l.places.marks.items l.waited
