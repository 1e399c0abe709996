use Rattle.im_serial.proofs.SettledLemmas.{AreSettledTo}

abbrev pub invariant-loop-number : Rattle.im_serial.proofs.past.first_open_in.Given.invariant-loop-number
invariant-loop-number l = AreSettledTo l.memory.contents.windows l.element l.number
