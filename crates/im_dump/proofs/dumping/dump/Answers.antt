use Rattle.im_image.specs.{Headers.seen, Reading.reached}
use Rattle.im_dump.proofs.DumpingLemmas.{dumped}

pub returns-in-Ok-clause-told : Rattle.im_dump.proofs.dumping.dump.Goals.returns-in-Ok-clause-told
returns-in-Ok-clause-told g c =
    let image = c.in-Ok.image in
    dumped c.write_dump.result (g.D.Disk.now c.args.disk.now).bytes (seen image.header) (reached image) _ _ _
    c.in-Ok.ensures.header c.in-Ok.ensures.means c.write_dump.ensures.text c.write_dump.ensures.fits
