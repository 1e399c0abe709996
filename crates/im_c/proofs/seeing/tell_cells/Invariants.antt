use Rattle.im_c.proofs.Cells.{Told}

abbrev pub invariant-loop-a : Rattle.im_c.proofs.seeing.tell_cells.Given.invariant-loop-a
invariant-loop-a l = Told l.memory.contents l.from l.fn.places l.a l.count l.places
