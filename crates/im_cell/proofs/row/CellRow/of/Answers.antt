use Rattle.std.proofs.Common.{◌∙◌, arith, take_all}
use Rattle.im_cell.proofs.Blocks.{row-more}
use Rattle.im_cell.proofs.row.CellRow.of.Goals as goal

pub loop-cell-preserved : goal.loop-cell-preserved
loop-cell-preserved c =
    row-more c.args.cells.now c.loop-cell.row c.push.new.self c.loop-cell.cell-index _ c.loop-cell.invariant c.loop-cell-test.true c.in_ok-push.ensures

pub returns : goal.returns
returns c = c.loop-cell.invariant ∙ take_all c.loop-cell.cell-index c.args.cells.now (omega arith)
