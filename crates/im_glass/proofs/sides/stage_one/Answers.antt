use Rattle.std.proofs.Common.{[], ◌∷◌, length, ap, arith, length-append}

pub returns-clause-count : Rattle.im_glass.proofs.sides.stage_one.Goals.returns-clause-count
returns-clause-count g c = omega (arith, ap length c.put.ensures, length-append c.args.all.now (c.args.change ∷ []))
