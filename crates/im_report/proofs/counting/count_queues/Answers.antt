use Rattle.std.proofs.Common.{◌≡◌, ◌+◌, ◌≤◌, length, ap, ◌∙◌, arith}
use Rattle.im_report.proofs.SumLemmas.{ap₃, sums_more, sums_none, tops_more, tops_none}
use Rattle.im_report.specs.declared.figures.QueueFigures.{QueueFigures}
use Rattle.im_report.specs.Figures.{first_most, most_below, queue_at, sum_below}
use Rattle.im_report.proofs.counting.count_queues.Goals as goal

pub loop-a-init : goal.loop-a-init
loop-a-init c = (sums_none _ 4096, tops_none _)

pub loop-a-preserved : goal.loop-a-preserved
loop-a-preserved c =
    let queue = queue_at c.args.memory.now.contents in
    let is = c.queue_at-queue.ensures.is in
    let few : queue c.loop-a.a ≤ 4096 = omega (arith, is, c.queue_at-queue.ensures.few) in (
      sums_more queue 4096 c.loop-a.a c.loop-a.requests (c.loop-a.requests + c.queue_at-queue.result) few
          c.loop-a.invariant.0 (ap (λ n. c.loop-a.requests + n) is),
      tops_more queue c.loop-a.a c.loop-a.longest c.loop-a.at c.queue_at-queue.result c.max-longest.result
          c.first_most-at.result is c.loop-a.invariant.1 c.max-longest.ensures c.first_most-at.ensures,
    )

pub returns : goal.returns
returns c =
    let all : c.loop-a.a ≡ length c.args.memory.now.contents.cells = omega arith in
    ap₃ {T = QueueFigures} (λ requests longest at. record { requests = requests; longest = longest; at = at })
    (c.loop-a.invariant.0.is ∙ ap (sum_below _) all)
    (c.loop-a.invariant.1.longest_is ∙ ap (most_below _) all) (c.loop-a.invariant.1.at_is ∙ ap (first_most _) all)
