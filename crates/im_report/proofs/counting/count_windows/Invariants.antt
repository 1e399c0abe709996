use Rattle.std.proofs.Common.{if◌then◌else◌, ◌==◌, slice_get}
use Rattle.im_types.specs.Types.{WINDOW}
use Rattle.im_report.{proofs.SumLemmas.Sums, specs.Figures.has_asked, specs.Figures.kept_in}

abbrev pub invariant-loop-element : Rattle.im_report.proofs.counting.count_windows.Given.invariant-loop-element
invariant-loop-element l =
    Sums (λ k. if has_asked (slice_get l.memory.contents.windows k) then 1 else 0) 1 l.element l.asked
    × Sums (λ k. kept_in (slice_get l.memory.contents.windows k)) WINDOW l.element l.kept
    × Sums (λ k. if kept_in (slice_get l.memory.contents.windows k) == WINDOW then 1 else 0) 1 l.element l.full
