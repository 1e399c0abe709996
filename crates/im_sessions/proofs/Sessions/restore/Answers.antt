use Rattle.im_sessions.proofs.WindowsLemmas.{AreWindows-set}

pub invariant_of-self : Rattle.im_sessions.proofs.Sessions.restore.Goals.invariant_of-self
invariant_of-self c = AreWindows-set c.self.inside.windows.items _ c.restore.result c.self.invariant c.restore.ensures.bounds
