use Rattle.std.proofs.Common.{subst}
use Rattle.im_serving.proofs.ElementLemmas.{sent_by, settled}
use Rattle.im_serving.specs.Elements.{Asked, Deeds, HasStopped, ServesIntents}

pub returns-in-Ok : Rattle.im_serving.proofs.ending.end.Goals.returns-in-Ok
returns-in-Ok g c =
    let part = c.running.inside.part.value in
    let outlet = c.join-stopped.result.outlet in
    let sent = c.end_sending.result in
    let state = rw c.in-Ok.is at c.running.invariant in
    let stopped : HasStopped g.K.Name.origin.memory g.K.Name.origin.marks part.deeds c.join-stopped.result.done outlet =
    subst (λ (p : Deeds). HasStopped g.K.Name.origin.memory g.K.Name.origin.marks p c.join-stopped.result.done
    outlet) state.0
    c.join-stopped.ensures.1 in
    let sends = sent_by c.in-Ok.pair.sender c.in-Ok.pair.server.promise.outlet.value.pipe part.intents
    (λ h. h.promise.inlet.value.pipe) (λ h. h.promise.intents.value.items) (λ s. s.finished) (λ s. s.all) sent
    state.1 c.end_sending.ensures in
    subst (λ (p : Asked). ServesIntents g.K.Name.origin.memory g.K.Name.origin.marks p.deeds c.settle.result.deeds
    c.settle.result.result
    p.intents)
    c.running.view_is
    (settled g.K.Name.origin.memory g.K.Name.origin.marks part.deeds c.join-stopped.result.done c.settle.result
    outlet sent.finished.items
    part.intents sent.all stopped c.settle.ensures.begins c.settle.ensures.whole sends.1 sends.2 c.settle.ensures.done)
