use Rattle.std.proofs.Common.{◌≡◌, length, take}
use Rattle.im_journal.{proofs.Writing.IsWriting, specs.Holding.ring_at}

abbrev pub invariant-loop-i : Rattle.im_journal.proofs.group.write_bodies.Given.invariant-loop-i
invariant-loop-i g l = record {
  honest : g.D.Disk.honest l.disk → g.D.Disk.honest l.fn.disk;
  writing : g.D.Disk.honest l.disk
      → IsWriting g.D.Disk.now g.D.Disk.past (ring_at l.base l.slots) l.«from» (length l.commands)
      (take l.i l.commands) l.fn.disk l.disk;
  failures : g.D.Disk.failures l.disk ≡ g.D.Disk.failures l.fn.disk;
}
