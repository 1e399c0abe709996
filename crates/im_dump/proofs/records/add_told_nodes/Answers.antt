use Rattle.im_text.proofs.TextLemmas.{written_more, written_none}
use Rattle.im_dump.proofs.records.add_told_nodes.Goals as goal

pub loop-n-init : goal.loop-n-init
loop-n-init c = written_none _ _

pub loop-n-preserved : goal.loop-n-preserved
loop-n-preserved c = written_more _ _ _ _ _ c.loop-n.invariant c.in_ok-add_told_node.ensures
