use Rattle.std.proofs.Common.{if◌then◌else◌}
use Rattle.im_types.specs.Types.{block_at}
use Rattle.im_report.{proofs.SumLemmas.Sums, specs.Figures.begins_at}

abbrev pub invariant-loop-a : Rattle.im_report.proofs.counting.bases.Given.invariant-loop-a
invariant-loop-a l = Sums (λ a. if begins_at l.kind a (block_at l.memory.contents.cells a) then 1 else 0) 1 l.a l.count
