use Rattle.std.specs.Io.KnownBytes.{Keeps}
use Rattle.{im_report.proofs.InspectingLemmas.done_at_zero, im_dump.specs.Dumping.WasDumped}
use Rattle.im_program.proofs.Loads.{dumps_kept}

pub returns-clause-told : Rattle.im_program.proofs.dumping.dump_on.Goals.returns-clause-told
returns-clause-told g c = λ honest zero.
    let bytes = (g.D.Disk.now c.args.disk.now).bytes in
    let was = g.W.Write.contents c.args.out.now in
    let mid = g.W.Write.contents c.write_told-told.new.out in
    let is = g.W.Write.contents c.end.new.out in
    let told = done_at_zero c.write_told-told.result c.end.result
    (WasDumped (g.D.Disk.honest c.write_told-told.new.disk) bytes was mid) c.end.ensures.refused zero
    c.write_told-told.ensures.told in
    let same = done_at_zero c.write_told-told.result c.end.result (Keeps mid is) c.end.ensures.refused zero
    c.end.ensures.same in
    dumps_kept bytes was mid is (told.dumps honest) same
