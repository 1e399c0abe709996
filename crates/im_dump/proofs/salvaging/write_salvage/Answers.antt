use Rattle.im_damage.proofs.ReadingLemmas.{reads-both}

pub returns-in-Ok-clause-reads : Rattle.im_dump.proofs.salvaging.write_salvage.Goals.returns-in-Ok-clause-reads
returns-in-Ok-clause-reads g c = reads-both g.D.Disk _ _ _
    (record { honest = c.read_best.ensures.reads.honest; reads = c.read_best.ensures.reads.reads })
    c.write_by.ensures.reads
