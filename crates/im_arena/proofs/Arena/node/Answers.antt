use Rattle.im_arena.proofs.Threads.{IsThreaded-shown}

pub returns-clause-threaded : Rattle.im_arena.proofs.Arena.node.Goals.returns-clause-threaded
returns-clause-threaded c = rw (← c.self.view_is) (IsThreaded-shown _ _ _ _ c.self.invariant)
