use Rattle.std.proofs.Common.{◌≡◌, ◌++◌, string_bytes}
use Rattle.im_types.specs.Types.{waiters_at}
use Rattle.im_dialogue.specs.Showing.{queue_text}

abbrev pub invariant-loop-who : Rattle.im_dialogue.proofs.showing.add_queue.Given.invariant-loop-who
invariant-loop-who l =
    string_bytes l.out ++ queue_text l.who-iterator ≡ string_bytes l.fn.out ++ queue_text
    (waiters_at l.memory.contents.cells l.a)
