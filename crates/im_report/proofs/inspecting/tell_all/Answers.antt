use Rattle.im_damage.proofs.ReadingLemmas.{reads-both}

pub returns-in-Ok-clause-reads : Rattle.im_report.proofs.inspecting.tell_all.Goals.returns-in-Ok-clause-reads
returns-in-Ok-clause-reads g c = reads-both g.D.Disk _ _ _ c.tell.ensures.reads c.find_older.ensures.reads
