use Rattle.std.proofs.Common.{ap}
use Rattle.im_image.specs.{Headers.seen, Reading.reached}
use Rattle.im_damage.proofs.ReadingLemmas.{reads-both, reads-so}
use Rattle.im_dump.proofs.{DumpingLemmas.dumps, SalvageLemmas.salvaged}
use Rattle.im_dump.proofs.salvaging.salvage.Goals as goal

pub returns-in-Ok-write_dump-clause-told : goal.returns-in-Ok-write_dump-clause-told
returns-in-Ok-write_dump-clause-told g c = record {
  told = λ honest. dumps (g.D.Disk.now c.args.disk.now).bytes (seen c.in-Ok.image.header) (reached c.in-Ok.image) _ _
      (c.in-Ok.ensures.header honest) (c.in-Ok.ensures.means honest) c.in-Ok-write_dump.ensures.text
      c.in-Ok-write_dump.ensures.fits;
}

pub returns-in-Ok-write_salvage-clause-told : goal.returns-in-Ok-write_salvage-clause-told
returns-in-Ok-write_salvage-clause-told g c = record {
  told = λ honest.
      let before = c.write_salvage.ensures.reads.honest honest in
      salvaged c.in-Err.fault (g.D.Disk.now c.args.disk.now).bytes (g.D.Disk.now c.read_image.new.disk).bytes _ _ before
      (ap (λ m. m.bytes) (c.read_image.ensures.reads.reads before).now) c.in-Err.ensures.fault
      (c.in-Ok-write_salvage.ensures.told.written honest);
}

pub returns-in-Ok-write_salvage-clause-reads : goal.returns-in-Ok-write_salvage-clause-reads
returns-in-Ok-write_salvage-clause-reads g c = reads-both g.D.Disk _ _ _
    (reads-so g.D.Disk _ _ _ _ c.read_image.ensures.reads) c.write_salvage.ensures.reads

pub returns-clause-reads : goal.returns-clause-reads
returns-clause-reads g c = reads-both g.D.Disk _ _ _ (reads-so g.D.Disk _ _ _ _ c.read_image.ensures.reads)
    c.write_salvage.ensures.reads
