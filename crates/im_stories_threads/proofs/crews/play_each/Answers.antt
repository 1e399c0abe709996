use denote.Param.{param}
use denote.Param.Send.{IsSend, sendable}
use Rattle.std.proofs.Crossing.{crosses}
use Rattle.im_serving.proofs.Crosses.{Controller-row-sync, Port-send}
use Rattle.im_stories_threads.specs.contracts.players.Player as Player
use Rattle.im_stories_threads.proofs.crews.play_each.Goals as goal

pub spawn-requires-send-F : goal.spawn-requires-send-F
spawn-requires-send-F g c κs within =
    let controller = Controller-row-sync (param 1 g.row.D) (param 2 g.row.K) g.D.Disk g.K.Name c.type_bounds.send-D in
    let port = Port-send (param 2 g.row.K) g.K.Name in
    let p : IsSend (Player.the_field (param 2 g.row.K) g.K.Name).row = search (sendable, crosses) depth 40 fits 30000 in
    let player : IsSend (Player.the_row (param 2 g.row.K) g.K.Name) = search sendable depth 20 in
    let r = c.type_bounds.sync-R in search (sendable, crosses) depth 40

pub spawn-requires-send-T : goal.spawn-requires-send-T
spawn-requires-send-T g c =
    let port = Port-send (param 2 g.row.K) g.K.Name in search (sendable, crosses) depth 40 fits 30000
