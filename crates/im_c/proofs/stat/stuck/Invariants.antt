use Rattle.std.proofs.Common.{if◌then◌else◌}
use Rattle.im_report.proofs.SumLemmas.{Sums}
use Rattle.im_c.specs.Seeing.{asks_nothing}

abbrev pub invariant-loop-element : Rattle.im_c.proofs.stat.stuck.Given.invariant-loop-element
invariant-loop-element l =
    Sums (λ e. if asks_nothing l.memory.contents.windows e then 1 else 0) 1 l.element l.count
