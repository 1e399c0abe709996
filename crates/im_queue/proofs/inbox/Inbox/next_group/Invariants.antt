use Rattle.std.proofs.Common.{◌≤◌, length}
use Rattle.im_queue.specs.{Members.Gathers, Places.AreTakenOut}

abbrev pub invariant-loop-element : Rattle.im_queue.proofs.inbox.Inbox.next_group.Given.invariant-loop-element
invariant-loop-element g l = Gathers l.log.state.places l.memory.contents l.element l.members.items
    × (length l.members.items ≤ l.most) × AreTakenOut l.fn.self l.members.items l.self
