use Rattle.std.proofs.Common.{sym, ◌∙◌}
use Rattle.im_queue.proofs.StuckLemmas.{stuck_next}

pub loop-i-preserved : Rattle.im_queue.proofs.servers.are_stuck.Goals.loop-i-preserved
loop-i-preserved c = stuck_next c.args.memory.now.contents _ c.args.servers.now c.loop-i.i _ c.loop-i-test.true
    (sym c.is_past.ensures ∙ c.if-not-is_past.false) ∙ c.loop-i.invariant
