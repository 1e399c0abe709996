use Rattle.std.proofs.Common.{◌≡◌, ◌++◌, drop}
use Rattle.im_run.specs.Planned.{requests_from}

abbrev pub invariant-loop-intent : Rattle.im_run.proofs.planned.add_requests.Given.invariant-loop-intent
invariant-loop-intent l = l.requests.items ++ requests_from l.element l.number (drop l.intent-index l.intents)
    ≡ l.fn.requests.items ++ requests_from l.order.element l.order.next l.order.intents.items
