use Rattle.std.proofs.Common.{sym, subst}
use Rattle.im_sessions.{proofs.WindowsLemmas.AreWindows-replicate, specs.Windows.AreWindows}

pub invariant_of-result : Rattle.im_sessions.proofs.Sessions.new.Goals.invariant_of-result
invariant_of-result c = subst AreWindows (sym c.loop.invariant) (AreWindows-replicate c.loop.counter)
