use Rattle.std.proofs.Common.{ap, subst}
use Rattle.im_disk.specs.{Fuse.Fused, Moment.Left, Recording.Recording}
use Rattle.im_promise.proofs.Recovering.{was_left}
use Rattle.im_promise.proofs.recovery.open_and_close.Goals as goal

pub returns-in-Ok : goal.returns-in-Ok
returns-in-Ok c = λ file left.
    let fresh = ap (λ (x : Fused). x.disk) c.new.ensures.fresh in
    let e = c.in-Ok.opened.disk in
    subst (λ (d : Recording). Left d.moment file) fresh
    (was_left c.new.result.disk.moment e.disk.moment c.new.result.disk.past e.disk.past (c.in-Ok.ensures.leaves tt) file
    (subst (λ (x : Fused). Left x.disk.moment file) c.close.ensures.disk left))

pub returns-in-Err : goal.returns-in-Err
returns-in-Err c = λ file left.
    let fresh = ap (λ (x : Fused). x.disk) c.new.ensures.fresh in
    let e = c.in-Err.unopened in
    subst (λ (d : Recording). Left d.moment file) fresh
    (was_left c.new.result.disk.moment e.disk.moment c.new.result.disk.past e.disk.past
    (c.in-Err.ensures.leaves tt) file left)
