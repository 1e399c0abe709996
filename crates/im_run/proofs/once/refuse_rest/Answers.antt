use Rattle.std.proofs.Common.{◌++◌, sym, ◌∙◌, subst}
use Rattle.im_session.specs.Kept.{Kept, SessionState}
use Rattle.im_text.{proofs.SaidLemmas.prints_begins, specs.declared.Lines.Lines, specs.Said.Prints}
use Rattle.im_run.proofs.once.refuse_rest.Goals as goal

pub returns-clause-last : goal.returns-clause-last
returns-clause-last g c = λ start text it.
    let f = c.finish-status in
    let end = f.ensures.last start text (subst (λ (l : Lines). Prints start (g.W.Write.contents c.args.out.now) l text)
    (sym c.leave-session.ensures.lines) it) in
    let begins = prints_begins start (g.W.Write.contents f.new.out) f.new.lines (text ++ end.0) end.1.1 in
    (end.0, end.1.0, (begins.0, c.faulted.ensures ∙ begins.1))

pub returns-clause-kept : goal.returns-clause-kept
returns-clause-kept g c = subst (λ (s : SessionState g.row.D.Denot). Kept g.D.Disk s) c.leave-session.ensures.session
    c.close.ensures.kept
