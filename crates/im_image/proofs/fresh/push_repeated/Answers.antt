use Rattle.std.proofs.Common.{arith}
use Rattle.im_image.proofs.Rows.{longer_repeated}

pub returns-clause-longer : Rattle.im_image.proofs.fresh.push_repeated.Goals.returns-clause-longer
returns-clause-longer c =
    longer_repeated c.loop-turn._turn c.args.count c.loop-turn.image.items c.args.image.now.items c.args.bytes.now
    c.loop-turn.invariant (omega arith)
