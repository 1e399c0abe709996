use Rattle.std.proofs.Common.{◌≡◌, ◌+◌, length, if◌then◌else◌, ap, ◌∙◌, ap₂, arith}
use Rattle.im_types.specs.Types.{held_at, block_at, presence_in}
use Rattle.im_report.proofs.SumLemmas.{one_few, sums_more, sums_none}
use Rattle.im_report.specs.Figures.{sum_below}
use Rattle.im_c.specs.Seeing.{is_of_sort}
use Rattle.im_c.proofs.stat.many.Goals as goal

pub loop-a-init : goal.loop-a-init
loop-a-init c = sums_none _ 1

pub loop-a-preserved : goal.loop-a-preserved
loop-a-preserved c =
    let cells = c.args.memory.now.contents.cells in
    let counted = c.is_of_sort.ensures ∙ ap₂ (is_of_sort c.args.sort c.loop-a.a) c.block.ensures c.cell.ensures in
    sums_more _ 1 c.loop-a.a c.loop-a.count (c.loop-a.count + c.one_if-count.result)
    (one_few (is_of_sort c.args.sort c.loop-a.a (block_at cells c.loop-a.a) (presence_in (held_at cells c.loop-a.a))))
    c.loop-a.invariant
    (ap (λ n. c.loop-a.count + n) (c.one_if-count.ensures.is ∙ ap (λ t. if t then 1 else 0) counted))

pub returns : goal.returns
returns c =
    let all : c.loop-a.a ≡ length c.args.memory.now.contents.cells = omega arith in
    c.loop-a.invariant.is ∙ ap (sum_below _) all
