use Rattle.std.proofs.Common.{◌<◌, length, arith}
use Rattle.im_c.proofs.Cells.{told_more, told_none}
use Rattle.im_c.proofs.seeing.tell_cells.Goals as goal

pub loop-a-init : goal.loop-a-init
loop-a-init c = told_none c.args.memory.now.contents c.args.from _

pub loop-a-preserved : goal.loop-a-preserved
loop-a-preserved c =
    let m = c.args.memory.now.contents in
    let below : c.loop-a.a < length m.cells = omega arith in
    let room : c.loop-a.count < length c.loop-a.places = omega arith in
    told_more m c.args.from _ c.loop-a.a c.loop-a.count c.loop-a.places c.cell_told_at.result c.cell_told_at.ensures
    below room c.loop-a.invariant
