use Rattle.std.proofs.{Common.rules, Crossing.crosses}
use Rattle.im_serving.proofs.Crosses.{Controller-row-sync, Outlet-row-send, Server-row-send, Stopped-row-send}
use Rattle.im_serving.proofs.ElementLemmas.{unserved}
use denote.Param.{param}
use denote.Param.Send.{sendable}
use Rattle.im_serving.proofs.starting.begin_serving.Goals as goal

pub spawn_with-requires-send-F : goal.spawn_with-requires-send-F
spawn_with-requires-send-F g c κs within = let controller = Controller-row-sync (param 1 g.row.D)
    (param 2 g.row.K) g.D.Disk g.K.Name c.type_bounds.send-D in let server = Server-row-send
    (param 2 g.row.K) g.K.Name in
    let r = c.type_bounds.sync-R in let gate = c.type_bounds.sync-G in let o = Outlet-row-send in search
    (sendable, crosses) depth 40

pub spawn_with-requires-send-T : goal.spawn_with-requires-send-T
spawn_with-requires-send-T g c = let s = Stopped-row-send (param 2 g.row.K) g.K.Name in search (sendable, crosses)
    depth 40

pub returns-in-Err-clause-err : goal.returns-in-Err-clause-err
returns-in-Err-clause-err g c =
    let stopped = c.spawn_with-in-Err.result in
    unserved g.K.Name.origin.memory g.K.Name.origin.marks c.args.server stopped.done c.settle.result stopped.outlet
    c.send_none-sent.result.finished.items c.send_none-sent.result.all (search rules) c.settle.ensures.begins
    (search rules)
    c.send_none-sent.ensures.all c.settle.ensures.done
