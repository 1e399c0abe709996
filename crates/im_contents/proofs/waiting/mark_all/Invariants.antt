use Rattle.std.proofs.Common.{◌≡◌, drop}
use Rattle.im_types.specs.Types.{kept_for, cells_shown}
use Rattle.im_contents.specs.Marking.{mark_all, place_of_mark}

abbrev pub invariant-loop-address : Rattle.im_contents.proofs.waiting.mark_all.Given.invariant-loop-address
invariant-loop-address l =
    mark_all (kept_for l.windows) (place_of_mark l.windows) 0 l.initial.marks (cells_shown l.cells l.lists)
    ≡ mark_all (kept_for l.windows) (place_of_mark l.windows) l.address l.marks
    (drop l.address (cells_shown l.cells l.lists))
