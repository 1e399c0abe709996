use Rattle.std.proofs.Common.{◌≡◌, ◌+◌, length, if◌then◌else◌, ap, ◌∙◌, arith}
use Rattle.im_report.proofs.SumLemmas.{one_few, sums_more, sums_none}
use Rattle.im_report.specs.Figures.{sum_below}
use Rattle.im_c.specs.Seeing.{asks_nothing}
use Rattle.im_c.proofs.stat.stuck.Goals as goal

pub loop-element-init : goal.loop-element-init
loop-element-init c = sums_none _ 1

pub loop-element-preserved : goal.loop-element-preserved
loop-element-preserved c =
    let windows = c.args.memory.now.contents.windows in
    sums_more _ 1 c.loop-element.element c.loop-element.count (c.loop-element.count + c.one_if-count.result)
    (one_few (asks_nothing windows c.loop-element.element)) c.loop-element.invariant
    (ap (λ n. c.loop-element.count + n)
    (c.one_if-count.ensures.is ∙ ap (λ t. if t then 1 else 0) c.asks_nothing.ensures))

pub returns : goal.returns
returns c =
    let all : c.loop-element.element ≡ length c.args.memory.now.contents.windows = omega arith in
    c.loop-element.invariant.is ∙ ap (sum_below _) all
