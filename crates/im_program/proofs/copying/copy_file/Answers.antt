use Rattle.std.{proofs.Common.codes, specs.Io.KnownBytes.Appends, specs.Io.KnownBytes.Keeps}
use Rattle.{im_types.specs.Types.layout_in_use, im_disk.specs.File.account_of, im_migration.specs.Copying.MeansCopy}
use Rattle.{im_report.proofs.InspectingLemmas.done_at_zero}
use Rattle.im_program.proofs.MovedLemmas.{moved, read_since, same_bytes, told_count}
use Rattle.im_program.specs.Moving.{counted_line, TellsCount}
use Rattle.im_program.proofs.copying.copy_file.Goals as goal

pub returns-in-Ok-clause-copied : goal.returns-in-Ok-clause-copied
returns-in-Ok-clause-copied g c =
    let other = g.T.Start in
    let opened = c.in_ok-from.from in
    let mid = c.length_of.new.old in
    let old = c.copy.new.old in
    let bytes = (account_of other mid).now.bytes in
    let was = g.W.Write.contents c.args.out.now in
    let between = g.W.Write.contents c.print_counted-told.new.out in
    let is = g.W.Write.contents c.end.new.out in
    moved g.S.Start other (MeansCopy c.args.making.now.asked) (TellsCount layout_in_use (codes "copied")) bytes
    c.in_ok-length.length c.in_ok-to.to c.in-Ok.to old c.in_ok-to.ensures.found
    (same_bytes other opened mid old c.in_ok-from.ensures.found c.in_ok-length.ensures.reads.reads
    c.copy.ensures.reads.honest)
    was is c.end.result (λ honest. (c.in-Ok.ensures.leaves honest).1)
    (λ honest done h. c.in-Ok.ensures.copied h honest)
    (λ done h. told_count layout_in_use (codes "copied") bytes was between is c.in-Ok.count
    (c.in-Ok.ensures.count h)
    (done_at_zero c.print_counted-told.result c.end.result (Appends was between (counted_line (codes "copied")
    c.in-Ok.count)) c.end.ensures.refused done c.print_counted-told.ensures)
    (done_at_zero c.print_counted-told.result c.end.result (Keeps between is) c.end.ensures.refused done
    c.end.ensures.same))
    (read_since other opened mid old c.in_ok-from.ensures.found c.in_ok-length.ensures.reads.reads
    c.copy.ensures.reads.honest c.copy.ensures.reads.reads)

pub returns-in-Ok-clause-named : goal.returns-in-Ok-clause-named
returns-in-Ok-clause-named g c = λ honest. c.in_ok-to.ensures.named (c.in-Ok.ensures.leaves honest).0

pub returns-in-Ok-clause-old : goal.returns-in-Ok-clause-old
returns-in-Ok-clause-old g c = λ honest.
    c.in_ok-from.ensures.named (c.in_ok-length.ensures.reads.honest (c.copy.ensures.reads.honest honest))
