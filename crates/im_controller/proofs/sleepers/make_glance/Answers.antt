use Rattle.im_controller.proofs.ShownLemmas.{opened-glance}

pub returns : Rattle.im_controller.proofs.sleepers.make_glance.Goals.returns
returns g c = opened-glance g.K.Name.origin.memory c.shared.inside.log.state.trace c.shared.inside.pane.shown c.glance.result c.shared.invariant.1 c.glance.ensures.found
