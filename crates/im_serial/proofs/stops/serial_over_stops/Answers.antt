use Rattle.std.proofs.Common.{sym, ap, subst}
use Rattle.im_disk.specs.{Fuse.Fused, Recording.Recording, Since.LeavesNow}
use Rattle.im_session.specs.Carrying.{LedBy}
use Rattle.im_serial.{proofs.KeepsLemmas.crashed_keeps, specs.Asked.wanted_of, specs.Begun.HasComeTo}
use Rattle.im_serial.proofs.stops.serial_over_stops.Goals as goal

pub loop-at-preserved : goal.loop-at-preserved
loop-at-preserved g c = λ limits before.
    let P = LedBy (HasComeTo limits (wanted_of c.args.script.now)) in
    let so_far = c.loop-at.invariant limits before in
    let fresh = ap (λ (x : Fused). x.disk) c.new-fused.ensures.fresh in
    let ready = subst (λ (d : Recording). LeavesNow d.moment P) (sym fresh) so_far in
    let kept = (c.serial_once_on-status.ensures.keeps tt limits ready).after in
    let inner = subst (λ (d : Recording). LeavesNow d.moment P) (sym c.into_inner.ensures) kept in
    crashed_keeps c.into_inner.result.moment c.crash-disk.result.moment P c.crash-disk.ensures.left
    (ap (λ (d : Recording). d.moment.ranges) c.crash-disk.ensures.after) inner

pub returns-clause-keeps : goal.returns-clause-keeps
returns-clause-keeps g c = λ limits before.
    (c.serial_once_on-status-2.ensures.keeps tt limits (c.loop-at.invariant limits before)).after

pub returns-clause-now : goal.returns-clause-now
returns-clause-now g c = λ limits before zero.
    (c.serial_once_on-status-2.ensures.keeps tt limits (c.loop-at.invariant limits before)).done zero
