use Rattle.std.specs.Io.KnownBytes.{Keeps}
use Rattle.im_report.{proofs.InspectingLemmas.done_at_zero, proofs.InspectingLemmas.looks_kept, specs.Look.ShowsView}

pub returns-clause-told : Rattle.im_report.proofs.inspecting.look_on.Goals.returns-clause-told
returns-clause-told g c = λ honest zero.
    let bytes = (g.D.Disk.now c.args.disk).bytes in
    let was = g.W.Write.contents c.args.out.now in
    let mid = g.W.Write.contents c.tell_all-told.new.out in
    let is = g.W.Write.contents c.end.new.out in
    let told = done_at_zero c.tell_all-told.result c.end.result
    (g.D.Disk.honest c.tell_all-told.new.disk → ShowsView c.args.look.now bytes was mid) c.end.ensures.refused zero
    c.tell_all-told.ensures.told in
    let same = done_at_zero c.tell_all-told.result c.end.result (Keeps mid is)
    c.end.ensures.refused zero c.end.ensures.same in
    looks_kept c.args.look.now bytes was mid is (told honest) same
