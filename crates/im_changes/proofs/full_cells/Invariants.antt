use Rattle.std.proofs.Common.{◌≡◌, ◌++◌, drop}
use Rattle.im_types.specs.Types.{fills_from, opening}

abbrev pub invariant-loop-a : Rattle.im_changes.proofs.full_cells.Given.invariant-loop-a
invariant-loop-a l = l.changes.items ++ fills_from l.a (drop l.a l.memory.contents.cells) ≡ opening l.memory.contents
