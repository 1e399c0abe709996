use Rattle.std.proofs.Common.{◌∙◌}
use Rattle.im_controller.proofs.{PlannedLemmas.tells-some, ShownLemmas.told-all}
use Rattle.im_controller.proofs.groups.claim.Goals as goal

pub claim-requires : goal.claim-requires
claim-requires g c = record {
  told = told-all g.K.Name.origin.memory c.shared.inside.log.state.trace c.told-told.result (c.told-told.ensures ∙ c.shared.invariant.1);
}

pub returns-clause-planned : goal.returns-clause-planned
returns-clause-planned g c = tells-some g.K.Name.origin.memory g.K.Name.origin.plan c.shared.inside.log.state.trace
    c.claim.result
    c.shared.invariant.8 c.claim.ensures.proof

pub invariant_of-shared : goal.invariant_of-shared
invariant_of-shared g c = rw (c.claim.ensures.trace.0, c.claim.ensures.trace.1) c.shared.invariant
