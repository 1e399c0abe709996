use Rattle.std.proofs.Common.{length, ◌==◌}

pub returns : Rattle.im_engine.proofs.ahead.Coming.is_whole.Goals.returns
returns c = (λ i. length (c.as_slice.ensures.value i) == c.args.self.now.many)
