use Rattle.im_text.proofs.TextLemmas.{written_more, written_none}
use Rattle.im_dump.proofs.records.add_told_cells.Goals as goal

pub loop-a-init : goal.loop-a-init
loop-a-init c = written_none _ _

pub loop-a-preserved : goal.loop-a-preserved
loop-a-preserved c = written_more _ _ _ _ _ c.loop-a.invariant c.in_ok-add_told_cell.ensures
