use Rattle.std.proofs.Common.{arith}
use Rattle.im_memory.proofs.RestoreLemmas.{one-more, room-left}

pub loop-waiter-preserved : Rattle.im_memory.proofs.restore.push_each.Goals.loop-waiter-preserved
loop-waiter-preserved c =
    let held = c.args.arena.now.held in
    let list = c.args.list in
    let room = room-left held list c.requires.list c.requires.empty c.loop-waiter.arena.held c.args.waiters.now c.loop-waiter.waiter-index c.loop-waiter.invariant c.loop-waiter-test.true c.requires.room in
    one-more held list c.requires.list c.requires.empty c.loop-waiter.arena.held c.push_back-pushed.new.self.held c.args.waiters.now c.loop-waiter.waiter-index _ _ c.loop-waiter.invariant c.loop-waiter-test.true (omega arith)
    (c.push_back-pushed.ensures.pushed (c.push_back-pushed.ensures.room.1 room))
