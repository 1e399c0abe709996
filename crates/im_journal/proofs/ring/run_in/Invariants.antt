use Rattle.std.proofs.Common.{◌≡◌, ◌+◌, ◌-◌, ◌≤◌, length}
use Rattle.im_types.specs.Types.{LAST, run_from, commands_in}
use Rattle.im_journal.{proofs.Reading.behind_these, specs.Holding.ring_alone}

abbrev pub invariant-loop-i : Rattle.im_journal.proofs.ring.run_in.Given.invariant-loop-i
invariant-loop-i l = record {
  few : length l.commands.items ≡ l.i;
  last : l.first + l.i + l.due ≤ LAST;
  so_far : commands_in 0 l.first (run_from (ring_alone l.slots) l.slots 0 l.first l.ring)
      ≡ behind_these l.commands.items
      (commands_in l.due (l.first + l.i) (run_from (ring_alone l.slots) (l.slots - l.i) l.due (l.first + l.i) l.ring));
}
