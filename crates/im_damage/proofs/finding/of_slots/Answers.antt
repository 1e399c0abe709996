use Rattle.im_damage.proofs.ReadingLemmas.{reads-both, reads-so}
use Rattle.im_damage.proofs.finding.of_slots.Goals as goal

pub returns-in_default-read_pages : goal.returns-in_default-read_pages
returns-in_default-read_pages g c = record {
  reads = reads-both g.D.Disk _ _ _
      (reads-so g.D.Disk _ _ _ _ c.read_header.ensures.reads) c.read_pages.ensures.reads;
}

pub returns-in-Some-read_part : goal.returns-in-Some-read_part
returns-in-Some-read_part g c = record {
  reads = reads-both g.D.Disk _ _ _
      (reads-both g.D.Disk _ _ _
      (reads-so g.D.Disk _ _ _ _ c.read_header.ensures.reads) c.read_pages.ensures.reads)
      c.read_part.ensures.reads;
}

pub returns : goal.returns
returns g c = record {
  reads = reads-both g.D.Disk _ _ _
      (reads-both g.D.Disk _ _ _
      (reads-so g.D.Disk _ _ _ _ c.read_header.ensures.reads) c.read_pages.ensures.reads)
      c.read_part.ensures.reads;
}
