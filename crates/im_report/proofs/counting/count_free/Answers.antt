use Rattle.std.proofs.Common.{◌≡◌, ◌+◌, length, is_none, if◌then◌else◌, ap, ◌∙◌, arith}
use Rattle.im_types.specs.Types.{block_at}
use Rattle.im_report.proofs.SumLemmas.{ap₃, rows_more, rows_none}
use Rattle.im_report.specs.declared.figures.FreeFigures.{FreeFigures}
use Rattle.im_report.specs.Figures.{most_below, row_after, sum_below}
use Rattle.im_report.proofs.counting.count_free.Goals as goal

pub loop-a-init : goal.loop-a-init
loop-a-init c = rows_none c.args.memory.now.contents.cells

pub loop-a-preserved : goal.loop-a-preserved
loop-a-preserved c =
    let cells = c.args.memory.now.contents.cells in
    let free : c.is_free-is_free.result ≡ is_none (block_at cells c.loop-a.a) =
    c.is_free-is_free.ensures ∙ ap (λ b. is_none b) c.block.ensures in
    rows_more cells c.loop-a.a c.loop-a.row c.loop-a.cells c.loop-a.holes c.loop-a.longest c.row_after-row.result
    (c.loop-a.cells + c.one_if-cells.result) (c.loop-a.holes + c.one_if-holes.result) c.max-longest.result
    c.loop-a.invariant (c.row_after-row.ensures ∙ ap (λ f. row_after f c.loop-a.row) free)
    (ap (λ n. c.loop-a.cells + n) (c.one_if-cells.ensures.is ∙ ap (λ t. if t then 1 else 0) free))
    (ap (λ n. c.loop-a.holes + n) c.one_if-holes.ensures.is) c.max-longest.ensures

pub returns : goal.returns
returns c =
    let all : c.loop-a.a ≡ length c.args.memory.now.contents.cells = omega arith in
    ap₃ {T = FreeFigures} (λ cells holes longest. record { cells = cells; holes = holes; longest = longest })
    (c.loop-a.invariant.free.is ∙ ap (sum_below _) all) (c.loop-a.invariant.holes.is ∙ ap (sum_below _) all)
    (c.loop-a.invariant.longest_is ∙ ap (most_below _) all)
