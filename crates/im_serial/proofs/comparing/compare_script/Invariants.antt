use Rattle.im_serial.proofs.FittingLemmas.{AreWithin}

abbrev pub invariant-loop-element : Rattle.im_serial.proofs.comparing.compare_script.Given.invariant-loop-element
invariant-loop-element l = AreWithin l.memory.contents l.past.many.items l.element
