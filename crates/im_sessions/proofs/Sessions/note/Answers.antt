use Rattle.im_sessions.proofs.WindowsLemmas.{AreWindows-set}

pub invariant_of-self : Rattle.im_sessions.proofs.Sessions.note.Goals.invariant_of-self
invariant_of-self c = AreWindows-set c.self.inside.windows.items _ c.note.new.self c.self.invariant c.note.ensures.bounds
