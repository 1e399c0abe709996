use Rattle.std.proofs.Common.{arith}
use Rattle.im_text.proofs.TextLemmas.{written_more, written_none}
use Rattle.im_dump.proofs.WritingLemmas.{one_cell_more}
use Rattle.im_dump.proofs.writing.add_cells.Goals as goal

pub loop-a-init : goal.loop-a-init
loop-a-init c = record { lines = written_none _ _; fits = λ k lt. absurd (omega arith) }

pub loop-a-preserved : goal.loop-a-preserved
loop-a-preserved c = record {
  lines = written_more _ _ _ _ _ c.loop-a.invariant.lines c.in_ok-add_cell.ensures.lines;
  fits = one_cell_more c.args.memory.now.contents.cells c.loop-a.a c.loop-a.invariant.fits
      c.in_ok-add_cell.ensures.fits;
}
