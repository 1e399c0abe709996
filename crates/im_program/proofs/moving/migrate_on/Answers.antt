use Rattle.std.{proofs.Common.codes, specs.Io.KnownBytes.Appends, specs.Io.KnownBytes.Keeps}
use Rattle.{im_types.specs.Types.layout_1, im_report.proofs.InspectingLemmas.done_at_zero}
use Rattle.im_program.{proofs.MovedLemmas.told_count, specs.Moving.counted_line}

pub returns-in-Ok-clause-told : Rattle.im_program.proofs.moving.migrate_on.Goals.returns-in-Ok-clause-told
returns-in-Ok-clause-told g c = λ done honest.
    let was = g.W.Write.contents c.args.out.now in
    let mid = g.W.Write.contents c.print_counted-told.new.out in
    let is = g.W.Write.contents c.end.new.out in
    let added = done_at_zero c.print_counted-told.result c.end.result (Appends was mid (counted_line (codes "migrated")
    c.in-Ok.count)) c.end.ensures.refused done c.print_counted-told.ensures in
    let keeps = done_at_zero c.print_counted-told.result c.end.result (Keeps mid is) c.end.ensures.refused done
    c.end.ensures.same in
    told_count layout_1 (codes "migrated") (g.O.Disk.now c.args.old.now).bytes was mid is c.in-Ok.count
    (c.in-Ok.ensures.count honest) added keeps
