use Rattle.std.proofs.Common.{ap, ◌∙◌}
use Rattle.im_planning.specs.Progress.{all_fetch}

pub loop-waiter-init : Rattle.im_planning.proofs.states.do_fetch.Goals.loop-waiter-init
loop-waiter-init c = ap (all_fetch c.args.plan.now c.args.a)
    (c.into_iter-waiter-iterator.ensures.into_iter_gives ∙ c.waiters-waiter-items.ensures)
