use Rattle.std.proofs.Common.{◌≡◌, sym, ap, ◌∙◌, subst}
use Rattle.im_serving.proofs.ElementLemmas.{unserved_part}
use Rattle.im_serving.specs.Elements.{Asked, Deeds, IsUnserved}
use Rattle.im_serving.proofs.starting.begin.Goals as goal

pub invariant_of-result : goal.invariant_of-result
invariant_of-result g c =
    let part = c.of-asked.result.value in
    let same : c.split-server.result.0 ≡ part.deeds = c.split-server.ensures.deeds
    ∙ sym (ap (λ (p : Asked). p.deeds) c.of-asked.ensures) in
    unserved_part g.K.Name.origin.memory g.K.Name.origin.marks part.deeds c.give_up.result part.intents
    (subst (λ (p : Deeds). IsUnserved g.K.Name.origin.memory g.K.Name.origin.marks p c.give_up.result) same
    c.give_up.ensures)

pub invariant_of-result-in-Err-begin_serving : goal.invariant_of-result-in-Err-begin_serving
invariant_of-result-in-Err-begin_serving g c =
    let part = c.of-asked.result.value in
    let same : c.split-server.result.0 ≡ part.deeds = c.split-server.ensures.deeds
    ∙ sym (ap (λ (p : Asked). p.deeds) c.of-asked.ensures) in
    unserved_part g.K.Name.origin.memory g.K.Name.origin.marks part.deeds c.in-Err.done part.intents
    (subst (λ (p : Deeds). IsUnserved g.K.Name.origin.memory g.K.Name.origin.marks p c.in-Err.done) same
    c.in-Err.ensures.err)
