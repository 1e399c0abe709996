use Rattle.im_damage.proofs.ReadingLemmas.{reads-both, reads-so}
use Rattle.im_damage.proofs.finding.of_pages.Goals as goal

pub returns-in-Some : goal.returns-in-Some
returns-in-Some g c = record {
  reads = reads-both g.D.Disk _ _ _
      (reads-so g.D.Disk _ _ _ _ c.read_header.ensures.reads) c.read_pages.ensures.reads;
}

pub returns-in-None : goal.returns-in-None
returns-in-None g c = record {
  reads = reads-both g.D.Disk _ _ _
      (reads-so g.D.Disk _ _ _ _ c.read_header.ensures.reads) c.read_pages.ensures.reads;
}
