use Rattle.{im_disk.specs.contracts.file.FileDiskDisk.TheImpl.ghosts, im_words.specs.Words.texts_in}
use Rattle.im_program.proofs.{SourceLemmas.done_with, ToldLemmas.done_or_refused, ToldLemmas.nothing_done}
use Rattle.im_program.proofs.work.act.Goals as goal

pub returns-then-not-may_do-clause-done : goal.returns-then-not-may_do-clause-done
returns-then-not-may_do-clause-done g c = nothing_done _ _ _ _ _ _ _ c.refuse-status.ensures.status

pub returns-clause-done : goal.returns-clause-done
returns-clause-done g c =
    let d = ghosts g.row.S g.S.Start g.S.Start-dict g.S.Destruct-dict in
    let e = ghosts g.row.T g.T.Start g.T.Start-dict g.T.Destruct-dict in
    let work = texts_in c.args.line.now.work in
    let was = g.W.Write.contents c.args.out.now in
    let is = g.W.Write.contents c.or_refused-status.new.out in
    let r = c.or_refused-status.result in
    let done = done_or_refused g.S.Start g.T.Start d e (g.I.Read.remaining c.may_do.new.input) work
    (λ w. g.W.Write.contents w) was c.do_work-done.new.out c.or_refused-status.new.out c.do_work-done.result r
    c.do_work-done.ensures.done c.or_refused-status.ensures in
    rw c.parts-input.ensures.input at (done_with {I = g.row.I.Denot} g.S.Start g.T.Start d e
    (λ i. g.I.Read.remaining i) c.parts-input.result.2.now c.may_do.new.input work c.may_do.ensures was is
    r.0 r.1 r.2 done)
