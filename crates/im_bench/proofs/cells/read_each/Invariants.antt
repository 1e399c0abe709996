use Rattle.im_istore.specs.Agreement.{Agree}

abbrev pub invariant-loop-a : Rattle.im_bench.proofs.cells.read_each.Given.invariant-loop-a
invariant-loop-a l = Agree l.table l.arena
