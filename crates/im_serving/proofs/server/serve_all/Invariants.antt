use Rattle.std.proofs.Common.{◌≡◌, ◌+◌, false, length}
use Rattle.im_serving.specs.{Calls.IsOwnCall, Calls.MakesOnly, Told.TellsEarlier}
use Rattle.im_serving.specs.Serving.{AreDone, AreGlanced, ops_of}
use Rattle.im_serving.proofs.server.serve_all.Given as goal

abbrev pub invariant-loop : goal.invariant-loop
invariant-loop g l =
    (goal.iterator-loop g).can_next l.iterator' × (goal.iterator-loop g).is_finite l.iterator'
    × (l.port.element ≡ l.fn.port.element) × (l.served.first ≡ l.fn.served.first) × (l.outlet.ended ≡ false) ×
    (l.outlet.pipe ≡ l.fn.outlet.pipe)
    × (AreDone l.fn.port l.fn.served l.fn.glances.made.items l.fn.outlet.items
    → AreDone l.port l.served l.glances.made.items l.outlet.items)
    × (length l.served.entries.items + length l.glances.made.items + length l.fn.outlet.items
    ≡ length l.fn.served.entries.items + length l.fn.glances.made.items + length l.outlet.items)
    × (AreGlanced g.K.Name.origin.memory l.fn.port.element l.fn.glances.last l.fn.glances.glance l.fn.glances.made.items
    → AreGlanced g.K.Name.origin.memory l.fn.port.element l.glances.last l.glances.glance l.glances.made.items)
    × TellsEarlier l.fn.port.history l.port.history l.fn.port.element l.fn.served l.served
    (g.T.Teller.told l.fn.context.teller) (g.T.Teller.told l.context.teller)
    × (AreDone l.fn.port l.fn.served l.fn.glances.made.items l.fn.outlet.items
    → MakesOnly g.K.Name.origin.marks (IsOwnCall l.fn.port.element l.fn.served.first l.served.untold
    (ops_of l.outlet.items)) l.fn.port l.port)
