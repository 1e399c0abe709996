use Rattle.im_report.{proofs.SumLemmas.Sums, proofs.SumLemmas.Tops, specs.Figures.queue_at}

abbrev pub invariant-loop-a : Rattle.im_report.proofs.counting.count_queues.Given.invariant-loop-a
invariant-loop-a l =
    Sums (queue_at l.memory.contents) 4096 l.a l.requests × Tops (queue_at l.memory.contents) l.a l.longest l.at
