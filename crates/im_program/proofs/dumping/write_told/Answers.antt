pub returns-in-Ok-None-clause-told : Rattle.im_program.proofs.dumping.write_told.Goals.returns-in-Ok-None-clause-told
returns-in-Ok-None-clause-told g c =
    let it = rw c.in-Ok-None.field-0-is at c.in-Ok-None.ensures.told in record { dumps = it.told }
