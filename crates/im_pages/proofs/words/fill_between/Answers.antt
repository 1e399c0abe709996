use Rattle.std.proofs.Common.{arith}

pub returns-clause-others : Rattle.im_pages.proofs.words.fill_between.Goals.returns-clause-others
returns-clause-others c = λ k out. c.loop-at.invariant.rest k
    (λ lo hi. out lo (omega (arith, lo, hi, c.loop-at.invariant.upto)))
