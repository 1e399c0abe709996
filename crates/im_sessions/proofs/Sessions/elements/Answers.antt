use Rattle.std.proofs.Common.{subst}
use Rattle.im_sessions.specs.Windows.{AreWindows}

pub returns-clause-windows : Rattle.im_sessions.proofs.Sessions.elements.Goals.returns-clause-windows
returns-clause-windows c = subst AreWindows c.self.view_is c.self.invariant
