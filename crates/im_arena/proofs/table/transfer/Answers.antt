use Rattle.std.proofs.Common.{arith, length-set}
use Rattle.im_arena.proofs.Tables.{Detached-same, first_inside, last_inside, Transferred-attached}
use Rattle.im_arena.proofs.table.transfer.Goals as goal

pub overflow_cast-held : goal.overflow_cast-held
overflow_cast-held c = omega
    (arith, c.requires.sound.chains.few, first_inside _ _ _ c.requires.sound c.requires.from c.requires.some)

pub offset_bounds-nodes-node : goal.offset_bounds-nodes-node
offset_bounds-nodes-node c = omega
    (arith, c.requires.sound.chains.few, first_inside _ _ _ c.requires.sound c.requires.from c.requires.some)

pub slice_copy_out-held : goal.slice_copy_out-held
slice_copy_out-held c = first_inside _ _ _ c.requires.sound c.requires.from c.requires.some

pub overflow_cast-content : goal.overflow_cast-content
overflow_cast-content c = omega
    (arith, c.requires.sound.chains.few, first_inside _ _ _ c.requires.sound c.requires.from c.requires.some)

pub offset_bounds-nodes-node-2 : goal.offset_bounds-nodes-node-2
offset_bounds-nodes-node-2 c = omega
    (arith, c.requires.sound.chains.few, first_inside _ _ _ c.requires.sound c.requires.from c.requires.some)

pub bounds-nodes-node : goal.bounds-nodes-node
bounds-nodes-node c = first_inside _ _ _ c.requires.sound c.requires.from c.requires.some

pub attach-taker-requires : goal.attach-taker-requires
attach-taker-requires c = λ some. rw length-set (last_inside _ _ _ c.requires.sound c.requires.to some)

pub returns : goal.returns
returns c = rw c.waiter.ensures
    (Transferred-attached _ _ c.requires.sound _ _ _ c.requires.from c.requires.to c.requires.apart c.requires.some c.requires.link c.requires.mark _ _ _ (Detached-same _ _ _ _ (omega arith) c.without_first.ensures) c.attach-taker.ensures)
