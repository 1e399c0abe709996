use Rattle.std.proofs.Common.{◌≡◌, map, None, count_by, sym, subst}
use Rattle.{im_trace.specs.Ends.RecordingState, im_controller.specs.Kept.IsSessionOf}
use Rattle.im_run.proofs.{AloneLemmas.none_marked, DoingLemmas.told_weaker}
use Rattle.im_run.specs.{Doing.AreAllTold, Orders.ask_of}
use Rattle.im_run.proofs.served.serve_orders.Goals as goal

pub returns-clause-told : goal.returns-clause-told
returns-clause-told g c =
    let notes = c.serve_parts-ports in
    let end = c.finish-session in
    told_weaker g.K.Name.origin.memory c.of.result.items (notes.result.refused ≡ None)
    (c.refused_at_end.result ≡ None) (map ask_of c.args.orders.items) notes.result.did.items
    c.refused_at_end.ensures.refused
    (subst (λ (t : RecordingState). AreAllTold g.K.Name.origin.memory t.items (notes.result.refused ≡ None)
    (map ask_of c.args.orders.items) notes.result.did.items) (sym c.of.ensures)
    (notes.ensures.told end.result.trace.items end.ensures.came.seen))

pub returns-clause-put : goal.returns-clause-put
returns-clause-put g c =
    let end = c.finish-session in
    subst (λ (t : RecordingState). IsSessionOf g.D.Disk g.K.Name.origin t.items end.result.session) (sym c.of.ensures)
    end.ensures.put

pub returns-clause-alone : goal.returns-clause-alone
returns-clause-alone g c = λ free none.
    let marks = g.K.Name.origin.marks in
    let notes = c.serve_parts-ports in
    let end = c.finish-session in
    subst (λ (t : RecordingState). count_by marks t.items ≡ 0) (sym c.of.ensures)
    (none_marked marks end.result.trace.items notes.result.ports.items end.result.came end.result.claimed
    (c.refused_at_end.ensures.came none) (c.refused_at_end.ensures.claimed none) end.ensures.came.counted
    (notes.ensures.alone free (c.refused_at_end.ensures.refused none)))
