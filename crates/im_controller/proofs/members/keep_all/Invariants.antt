use Rattle.std.proofs.Common.{map, length, drop}
use Rattle.{im_session.specs.Serving.served_answer, im_trace.specs.Log.GoesOnAt}
use Rattle.im_controller.proofs.Keeping.{Keeps}

abbrev pub invariant-loop-i : Rattle.im_controller.proofs.members.keep_all.Given.invariant-loop-i
invariant-loop-i g l =
    Keeps g.K.Name.origin.memory l.fn.log.state l.fn.members (map served_answer l.fn.served) l.log.state
    (drop l.i l.members) (map served_answer (drop l.i l.served))
    × GoesOnAt (length (g.D.Disk.past l.fn.disk)) l.fn.log l.log
