use Rattle.im_glass.proofs.RuleLemmas.{looks}

pub enter_as-requires : Rattle.im_glass.proofs.glance.look.Goals.enter_as-requires
enter_as-requires g c = looks _ _
