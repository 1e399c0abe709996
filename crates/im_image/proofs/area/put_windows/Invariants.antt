use Rattle.std.proofs.Common.{◌≡◌}
use Rattle.im_types.specs.Types.{new_window}
use Rattle.im_image.proofs.Restored.{Begun}

abbrev pub invariant-loop-element : Rattle.im_image.proofs.area.put_windows.Given.invariant-loop-element
invariant-loop-element l = (l.restoring.cells ≡ l.initial.restoring.cells)
    × (l.restoring.lists ≡ l.initial.restoring.lists) × Begun new_window l.windows l.restoring.windows l.element
