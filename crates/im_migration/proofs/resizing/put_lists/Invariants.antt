use Rattle.std.proofs.Common.{◌≡◌}
use Rattle.im_image.proofs.Restored.{ListsPut}
use Rattle.im_migration.{proofs.OtherSizes.no_cell, specs.Resizing.fitted, specs.Resizing.lists_of}

abbrev pub invariant-loop-a : Rattle.im_migration.proofs.resizing.put_lists.Given.invariant-loop-a
invariant-loop-a l = (l.restoring.cells ≡ l.initial.restoring.cells)
    × (l.restoring.windows ≡ l.initial.restoring.windows)
    × ListsPut (lists_of (fitted no_cell l.cells l.memory.contents.cells)) l.restoring.lists l.a
