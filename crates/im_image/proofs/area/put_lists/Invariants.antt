use Rattle.std.proofs.Common.{◌≡◌}
use Rattle.im_image.proofs.Restored.{ListsPut}

abbrev pub invariant-loop-cell : Rattle.im_image.proofs.area.put_lists.Given.invariant-loop-cell
invariant-loop-cell l = (l.restoring.cells ≡ l.initial.restoring.cells)
    × (l.restoring.windows ≡ l.initial.restoring.windows) × ListsPut l.lists l.restoring.lists l.cell
