use Rattle.std.proofs.Common.{drop}
use Rattle.im_controller.proofs.AdmitLemmas.{Admitting}

abbrev pub invariant-loop-i : Rattle.im_controller.proofs.admitting.admit.Given.invariant-loop-i
invariant-loop-i g l = Admitting l.plan l.asked l.memory.contents l.initial.left l.members l.fn.log l.fn.pane l.left
    (drop l.i l.members) l.lent.items l.log l.pane
