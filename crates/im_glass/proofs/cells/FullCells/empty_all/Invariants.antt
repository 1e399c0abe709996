use Rattle.std.proofs.Common.{◌≡◌, None}
use Rattle.im_types.specs.Types.{fill}

abbrev pub invariant-loop-i : Rattle.im_glass.proofs.cells.FullCells.empty_all.Given.invariant-loop-i
invariant-loop-i l = l.self ≡ fill l.fn.self l.base l.i None
