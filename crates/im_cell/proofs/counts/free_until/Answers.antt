use Rattle.std.proofs.Common.{arith}

pub overflow_add-at : Rattle.im_cell.proofs.counts.free_until.Goals.overflow_add-at
overflow_add-at c = omega (arith, c.is_free.ensures.inside c.loop-at-test.true, c.requires.few)
