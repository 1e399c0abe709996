use denote.Param.Send.{sendable}
use Rattle.std.proofs.Crossing.{crosses}
use Rattle.im_serving.proofs.Crosses.{Inlet-row-send}

pub spawn-requires-send-F : Rattle.im_bench_threads.proofs.items.pass_within.Goals.spawn-requires-send-F
spawn-requires-send-F g c κs within = let r = c.type_bounds.sync-R in let i = Inlet-row-send in search (sendable, crosses) depth 40
