use Rattle.std.proofs.Common.{◌≡◌}
use Rattle.{im_types.specs.Types.new_window, im_image.proofs.Restored.Begun}
use Rattle.im_migration.specs.Resizing.{fitted}

abbrev pub invariant-loop-element : Rattle.im_migration.proofs.resizing.put_windows.Given.invariant-loop-element
invariant-loop-element l = (l.restoring.cells ≡ l.initial.restoring.cells)
    × (l.restoring.lists ≡ l.initial.restoring.lists)
    × Begun new_window (fitted new_window l.elements l.memory.contents.windows) l.restoring.windows l.element
