use Rattle.std.proofs.lemmas.Result.{IfOk-weaker}
use Rattle.im_moves.proofs.MovingLemmas.{if_ok, leaves_moved, means_moved}
use Rattle.im_moves.proofs.moving.move_by_dump.Goals as goal

pub returns-in-Ok-prepare-clause-moved : goal.returns-in-Ok-prepare-clause-moved
returns-in-Ok-prepare-clause-moved g c = IfOk-weaker c.put_new.result _ _ (λ to laid old_honest new_honest file left.
    means_moved c.args.asked c.in-Ok.loaded c.in-Ok-prepare.resized c.in-Ok-prepare.ensures.whole
    c.in-Ok-prepare.ensures.sizes c.in-Ok-prepare.ensures.count c.in-Ok-prepare.ensures.memory (g.O.Disk.now c.args.old.now).bytes (c.in-Ok.ensures.means old_honest) file
    (laid new_honest file left)) c.put_new.ensures.laid

pub returns-in-Ok-prepare-clause-leaves : goal.returns-in-Ok-prepare-clause-leaves
returns-in-Ok-prepare-clause-leaves g c = if_ok c.put_new.result _ _ _ (λ to leaves.
    leaves_moved c.args.asked c.in-Ok.loaded c.in-Ok-prepare.resized c.in-Ok-prepare.ensures.whole
    c.in-Ok-prepare.ensures.sizes c.in-Ok-prepare.ensures.count c.in-Ok-prepare.ensures.memory (g.O.Disk.now c.args.old.now).bytes g.N.Disk c.args.new to
    (g.O.Disk.honest c.reread.new.old) c.in-Ok.ensures.means leaves) c.put_new.ensures.leaves
