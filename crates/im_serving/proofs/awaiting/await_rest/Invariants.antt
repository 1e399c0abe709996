use Rattle.std.proofs.Common.{◌≡◌, []}
use Rattle.im_serving.specs.{Calls.IsOwnCall, Calls.MakesOnly, Serving.Looked, Told.AreSameNumbers}

abbrev pub invariant-loop-number : Rattle.im_serving.proofs.awaiting.await_rest.Given.invariant-loop-number
invariant-loop-number g l =
    (l.port.element ≡ l.fn.port.element) × (l.served.first ≡ l.fn.served.first)
    × Looked l.fn.port.history l.port.history l.fn.port.element l.fn.served.first l.fn.served.entries.items
    l.served.entries.items × AreSameNumbers l.fn.served l.served
    × MakesOnly g.K.Name.origin.marks (IsOwnCall l.fn.port.element l.fn.served.first l.served.untold []) l.fn.port
    l.port
