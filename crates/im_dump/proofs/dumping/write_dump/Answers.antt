use Rattle.std.proofs.Common.{◌^◌, ◌<◌, arith}
use Rattle.im_dump.proofs.DumpingLemmas.{fits_parts, whatever_ok}

pub returns-in-Ok-clause-fits : Rattle.im_dump.proofs.dumping.write_dump.Goals.returns-in-Ok-clause-fits
returns-in-Ok-clause-fits g c =
    let low : c.args.image.now.journal.count < 2 ^ 64 = omega (arith, c.count-count.ensures.count) in
    whatever_ok c.put_through.result
    (fits_parts c.args.image.now c.args.image.now.journal.count c.requires low c.cells-cells.ensures.memory c.in-Ok.ensures.fits)
