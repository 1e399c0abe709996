use Rattle.std.proofs.Common.{ap, inl, inr, ⊎_elim}
use Rattle.im_disk.{proofs.SinceLemmas.left_now, specs.Recording.Recording}
use Rattle.im_promise.proofs.Recovering.{left_again, was_left}
use Rattle.im_promise.proofs.recovery.open_crashed.Goals as goal

pub returns-in-Ok-clause-left : goal.returns-in-Ok-clause-left
returns-in-Ok-clause-left c =
    let new = c.in-Ok.engine.disk in
    left_again c.args.disk.moment c.crash.result.moment
    (ap (λ (x : Recording). x.moment.ranges) c.crash.ensures.after) c.crash.ensures.left new.moment.bytes
    (was_left c.crash.result.moment new.moment c.crash.result.past new.past (c.in-Ok.ensures.leaves tt) new.moment.bytes
    (left_now new.moment))

pub returns-in-Ok-clause-means : goal.returns-in-Ok-clause-means
returns-in-Ok-clause-means c =
    c.in-Ok.ensures.means tt c.in-Ok.engine.disk.moment.bytes (left_now c.in-Ok.engine.disk.moment)

pub returns-clause-refused : goal.returns-clause-refused
returns-clause-refused c =
    let new = c.in-Err.field-0-1 in
    ⊎_elim (λ none. inl none) (λ more. ⊎_elim (λ device. inr (inl device)) (λ fault. inr (inr (
      new.moment.bytes,
      left_again c.args.disk.moment c.crash.result.moment
          (ap (λ (x : Recording). x.moment.ranges) c.crash.ensures.after) c.crash.ensures.left new.moment.bytes
          (was_left c.crash.result.moment new.moment c.crash.result.past new.past
          (c.in-Err.ensures.leaves tt) new.moment.bytes (left_now new.moment)),
      fault tt new.moment.bytes (left_now new.moment),
    ))) more) c.in-Err.ensures.fault
