use Rattle.std.proofs.Common.{◌≡◌, []}
use Rattle.im_serving.specs.{Calls.IsOwnCall, Calls.MakesOnly, Serving.Looked, Told.TellsEarlier}

abbrev pub invariant-loop-number : Rattle.im_serving.proofs.awaiting.first_waiting.Given.invariant-loop-number
invariant-loop-number g l =
    (l.port.element ≡ l.fn.port.element) × (l.served.first ≡ l.fn.served.first)
    × Looked l.fn.port.history l.port.history l.fn.port.element l.fn.served.first l.fn.served.entries.items
    l.served.entries.items
    × TellsEarlier l.fn.port.history l.port.history l.fn.port.element l.fn.served l.served
    (g.T.Teller.told l.fn.context.teller) (g.T.Teller.told l.context.teller)
    × MakesOnly g.K.Name.origin.marks (IsOwnCall l.fn.port.element l.fn.served.first l.served.untold []) l.fn.port
    l.port
