use denote.Param.{param}
use denote.Param.Send.{IsSend, sendable}
use Rattle.std.proofs.Crossing.{crosses}
use Rattle.im_bench_threads.proofs.Crosses.{FileDisk-row-send, FileDisk-send}
use Rattle.im_disk.specs.contracts.file.FileDisk as FileDisk

pub on_engine-requires-send-D : Rattle.im_bench_threads.proofs.on_file.Goals.on_engine-requires-send-D
on_engine-requires-send-D g c κs within =
    let s = c.type_bounds.send-S in
    let file : IsSend (FileDisk.the_field (param 1 g.row.S) g.S.Start).row = FileDisk-send (param 1 g.row.S) g.S.Start s in
    let disk : IsSend (FileDisk.the_row (param 1 g.row.S) g.S.Start) = FileDisk-row-send (param 1 g.row.S) g.S.Start s in
    search (sendable, crosses) depth 40 fits 30000
