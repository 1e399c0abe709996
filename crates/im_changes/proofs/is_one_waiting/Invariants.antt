use Rattle.std.proofs.Common.{◌≡◌, ◌+◌, ◌-◌}
use Rattle.im_changes.proofs.CellLemmas.{waits_in}

abbrev pub invariant-loop-i : Rattle.im_changes.proofs.is_one_waiting.Given.invariant-loop-i
invariant-loop-i l = waits_in l.memory.contents.cells (l.base + l.i) (l.count - l.i)
    ≡ waits_in l.memory.contents.cells l.base l.count
