use Rattle.std.proofs.Common.{sym, ap, ◌∙◌, subst}
use Rattle.im_trace.specs.Ends.{RecordingState}
use Rattle.im_controller.specs.{Kept.IsSessionOf, Kept.KeptSince, Lines.time_at}
use mathlib.Core.List.{IsPrefix}
use Rattle.im_receipts.proofs.durable.finish_with.Goals as goal

pub returns-clause-begins : goal.returns-clause-begins
returns-clause-begins g c =
    subst (λ (r : RecordingState). IsPrefix c.args.history.now r.items)
    (sym (c.times.ensures.same ∙ c.knows.ensures.same)) c.knows.ensures.known

pub returns-clause-time : goal.returns-clause-time
returns-clause-time g c = c.times.ensures.time
    ∙ ap (λ (r : RecordingState). time_at r.times c.args.when.now.lines) (sym c.times.ensures.same)

pub returns-clause-keeps : goal.returns-clause-keeps
returns-clause-keeps g c =
    subst (λ (r : RecordingState). KeptSince _ g.K.Name.origin r.items r.times c.finish_kept-session.result.session)
    (sym (c.times.ensures.same ∙ c.knows.ensures.same)) c.finish_kept-session.ensures.keeps

pub returns-clause-put : goal.returns-clause-put
returns-clause-put g c =
    subst (λ (r : RecordingState). IsSessionOf g.D.Disk g.K.Name.origin r.items c.finish_kept-session.result.session)
    (sym (c.times.ensures.same ∙ c.knows.ensures.same)) c.finish_kept-session.ensures.put
