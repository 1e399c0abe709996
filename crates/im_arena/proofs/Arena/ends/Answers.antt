use Rattle.im_arena.proofs.{Threads.IsThreaded-shown, Views.ends-read, Views.inside-held}
use Rattle.im_arena.proofs.Arena.ends.Goals as goal

pub returns-clause-ends : goal.returns-clause-ends
returns-clause-ends c =
    let inside = inside-held _ _ _ _ c.self.invariant _ (rw (← c.self.view_is) at c.requires) in
    rw (← c.self.view_is, c.ends.ensures) (ends-read _ _ _ _ c.self.invariant _ _ inside c.index.ensures)

pub returns-clause-threaded : goal.returns-clause-threaded
returns-clause-threaded c = rw (← c.self.view_is) (IsThreaded-shown _ _ _ _ c.self.invariant)
