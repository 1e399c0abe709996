use Rattle.std.proofs.Common.{◌≡◌, length}
use Rattle.im_queue.specs.Places.{AskNothing}

abbrev pub invariant-loop : Rattle.im_queue.proofs.inbox.Inbox.new.Given.invariant-loop
invariant-loop l = (length l.places.items ≡ l.counter) × AskNothing l.places.items
