use Rattle.std.{proofs.Common.codes, specs.Io.KnownBytes.Appends, specs.Io.KnownBytes.Keeps}
use Rattle.{im_text.proofs.PrintingLemmas.appends_kept, im_report.proofs.InspectingLemmas.done_at_zero}
use Rattle.im_program.{proofs.Loads.loaded_from, specs.Moving.counted_line}

pub returns-clause-loaded : Rattle.im_program.proofs.loading.load_file.Goals.returns-clause-loaded
returns-clause-loaded g c =
    let was = g.W.Write.contents c.args.out.now in
    let mid = g.W.Write.contents c.print_counted-told.new.out in
    let is = g.W.Write.contents c.end.new.out in
    let line = counted_line (codes "loaded") c.in-Ok.loaded.count in
    loaded_from c.args.making.now.asked c.in-Ok.loaded c.in_ok-resized.resized c.in_ok-resized.ensures.whole
    c.in_ok-resized.ensures.source g.S.Start c.in_ok-to.to c.in_ok-to.ensures.put _
    (rw c.parts-input.ensures.input at c.in-Ok.ensures) was is c.end.result
    (λ done. appends_kept was mid is line
    (done_at_zero c.print_counted-told.result c.end.result (Appends was mid line) c.end.ensures.refused done
    c.print_counted-told.ensures)
    (done_at_zero c.print_counted-told.result c.end.result (Keeps mid is) c.end.ensures.refused done
    c.end.ensures.same))
