use Rattle.im_queue.proofs.StuckLemmas.{stuck_is_each}

pub returns : Rattle.im_queue.proofs.servers.stuck_is_each.Goals.returns
returns _ = stuck_is_each
