use Rattle.std.proofs.Common.{length, ◌==◌, ◌∙◌}

pub returns : Rattle.im_engine.proofs.ahead.GroupAhead.is_whole.Goals.returns
returns c = (λ i. length ((c.as_slice.ensures.value ∙ c.put.ensures) i) == length (c.as_slice-2.ensures.value i))
