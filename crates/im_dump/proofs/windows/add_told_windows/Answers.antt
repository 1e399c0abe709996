use Rattle.im_dump.proofs.SalvageLemmas.{none_told, one_told_more}
use Rattle.im_dump.proofs.windows.add_told_windows.Goals as goal

pub loop-element-init : goal.loop-element-init
loop-element-init c = none_told _ _ _

pub loop-element-preserved : goal.loop-element-preserved
loop-element-preserved c = one_told_more _ _ _ _ _ _ c.loop-element.invariant c.in_ok-add_element.ensures
