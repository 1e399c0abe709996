use Rattle.std.proofs.Common.{refl, inl}

pub returns-in-Format : Rattle.im_program.proofs.jobs.may_do.Goals.returns-in-Format
returns-in-Format g c = rw c.in-Format.is (inl (_, refl))
