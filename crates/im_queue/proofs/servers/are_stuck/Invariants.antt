use Rattle.std.proofs.Common.{◌≡◌, drop}
use Rattle.im_queue.specs.Servers.{are_stuck}

abbrev pub invariant-loop-i : Rattle.im_queue.proofs.servers.are_stuck.Given.invariant-loop-i
invariant-loop-i l = are_stuck l.memory.contents l.caller l.i (drop l.i l.servers)
    ≡ are_stuck l.memory.contents l.caller 0 l.servers
