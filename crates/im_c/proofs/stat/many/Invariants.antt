use Rattle.std.proofs.Common.{if◌then◌else◌}
use Rattle.im_types.specs.Types.{held_at, block_at, presence_in}
use Rattle.im_report.proofs.SumLemmas.{Sums}
use Rattle.im_c.specs.Seeing.{is_of_sort}

abbrev pub invariant-loop-a : Rattle.im_c.proofs.stat.many.Given.invariant-loop-a
invariant-loop-a l = Sums (λ a. if is_of_sort l.sort a (block_at l.memory.contents.cells a)
    (presence_in (held_at l.memory.contents.cells a)) then 1 else 0) 1 l.a l.count
