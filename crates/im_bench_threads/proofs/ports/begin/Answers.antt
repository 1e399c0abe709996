use denote.Param.{param}
use denote.Param.Send.{sendable}
use Rattle.std.proofs.Crossing.{crosses}
use Rattle.im_serving.proofs.Crosses.{Controller-row-sync, Port-row-send}

pub spawn-requires-send-F : Rattle.im_bench_threads.proofs.ports.begin.Goals.spawn-requires-send-F
spawn-requires-send-F g c κs within = let controller = Controller-row-sync (param 1 g.row.D) (param 2 g.row.K) g.D.Disk g.K.Name c.type_bounds.send-D in let port = Port-row-send (param 2 g.row.K) g.K.Name in
    let r = c.type_bounds.sync-R in search (sendable, crosses) depth 40
