use Rattle.im_dump.proofs.DumpLaw.{one_dump}

pub returns : Rattle.im_dump.proofs.laws.one_memory_has_a_dump.Goals.returns
returns c = one_dump
