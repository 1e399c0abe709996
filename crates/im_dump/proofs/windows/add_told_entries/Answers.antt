use Rattle.im_text.proofs.TextLemmas.{written_more, written_none}
use Rattle.im_dump.proofs.windows.add_told_entries.Goals as goal

pub loop-i-init : goal.loop-i-init
loop-i-init c = written_none _ _

pub loop-i-preserved : goal.loop-i-preserved
loop-i-preserved c = written_more _ _ _ _ _ c.loop-i.invariant c.in_ok-add_told_entry.ensures
