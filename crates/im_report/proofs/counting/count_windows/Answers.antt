use Rattle.std.proofs.Common.{◌≡◌, ℕ, ◌+◌, ◌≤◌, length, if◌then◌else◌, ◌==◌, slice_get, ap, ◌∙◌, arith}
use Rattle.im_report.proofs.SumLemmas.{ap₃, one_few, sums_more, sums_none}
use Rattle.im_report.specs.declared.figures.WindowFigures.{WindowFigures}
use Rattle.im_report.specs.Figures.{has_asked, kept_in, sum_below}
use Rattle.im_report.proofs.counting.count_windows.Goals as goal

pub loop-element-init : goal.loop-element-init
loop-element-init c = (sums_none _ 1, sums_none _ 64, sums_none _ 1)

pub loop-element-preserved : goal.loop-element-preserved
loop-element-preserved c =
    let k = c.loop-element.element in
    let found = slice_get c.args.memory.now.contents.windows k in
    let is = c.kept_in-here.ensures.is in
    let few : kept_in found ≤ 64 = omega (arith, is, c.kept_in-here.ensures.few) in (
      sums_more _ 1 k c.loop-element.asked (c.loop-element.asked + c.one_if-asked.result) (one_few (has_asked found))
          c.loop-element.invariant.0
          (ap (λ n. c.loop-element.asked + n) (c.one_if-asked.ensures.is ∙ ap (λ t. if t then 1 else 0) c.has_asked.ensures)),
      sums_more _ 64 k c.loop-element.kept (c.loop-element.kept + c.kept_in-here.result) few c.loop-element.invariant.1
          (ap (λ n. c.loop-element.kept + n) is),
      sums_more _ 1 k c.loop-element.full (c.loop-element.full + c.one_if-full.result) (one_few (kept_in found == 64))
          c.loop-element.invariant.2
          (ap (λ n. c.loop-element.full + n) (c.one_if-full.ensures.is ∙ ap (λ (n : ℕ). if n == 64 then 1 else 0) is)),
    )

pub returns : goal.returns
returns c =
    let all : c.loop-element.element ≡ length c.args.memory.now.contents.windows = omega arith in
    ap₃ {T = WindowFigures} (λ asked kept full. record { asked = asked; kept = kept; full = full })
    (c.loop-element.invariant.0.is ∙ ap (sum_below _) all)
    (c.loop-element.invariant.1.is ∙ ap (sum_below _) all) (c.loop-element.invariant.2.is ∙ ap (sum_below _) all)
