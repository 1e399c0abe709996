use Rattle.im_report.proofs.SumLemmas.{Rows}

abbrev pub invariant-loop-a : Rattle.im_report.proofs.counting.count_free.Given.invariant-loop-a
invariant-loop-a l = Rows l.memory.contents.cells l.a l.row l.cells l.holes l.longest
