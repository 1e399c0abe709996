use Rattle.std.proofs.Common.{refl, subst}
use Rattle.im_session.specs.Kept.{Kept}
use Rattle.im_session.proofs.session.Session.engine.Goals as goal

pub returns-clause-state : goal.returns-clause-state
returns-clause-state g c = rw (← c.self.view_is) refl

pub returns-clause-kept : goal.returns-clause-kept
returns-clause-kept g c = subst (Kept g.D.Disk) c.self.view_is c.self.invariant
