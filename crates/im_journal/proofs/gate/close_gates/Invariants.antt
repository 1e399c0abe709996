use Rattle.std.proofs.Common.{◌≡◌}
use Rattle.im_journal.{proofs.Closing.IsClosing, specs.Holding.ring_at}

abbrev pub invariant-loop-i : Rattle.im_journal.proofs.gate.close_gates.Given.invariant-loop-i
invariant-loop-i g l = record {
  honest : g.D.Disk.honest l.disk → g.D.Disk.honest l.fn.disk;
  closing : g.D.Disk.honest l.disk
      → IsClosing g.D.Disk.now g.D.Disk.past (ring_at l.base l.slots) l.«from» l.count l.i l.fn.disk l.disk;
  failures : g.D.Disk.failures l.disk ≡ g.D.Disk.failures l.fn.disk;
}
