use Rattle.std.proofs.Common.{◌≡◌, ◌+◌, ◌≤◌, drop, count_by}
use Rattle.im_queue.specs.Servers.{is_waiting_server}

abbrev pub invariant-loop-i : Rattle.im_queue.proofs.servers.count_waiting.Given.invariant-loop-i
invariant-loop-i l = (l.waits ≤ l.i)
    × (l.waits + count_by is_waiting_server (drop l.i l.servers) ≡ count_by is_waiting_server l.servers)
