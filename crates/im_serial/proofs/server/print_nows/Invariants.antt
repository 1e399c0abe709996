use Rattle.im_text.specs.Said.{nows, PrintsMore}

abbrev pub invariant-loop-at : Rattle.im_serial.proofs.server.print_nows.Given.invariant-loop-at
invariant-loop-at g l = PrintsMore (g.W.Write.contents l.fn.out) l.fn.lines (g.W.Write.contents l.out) l.lines (nows l.waited l.at)
