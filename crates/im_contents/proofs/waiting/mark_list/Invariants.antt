use Rattle.std.proofs.Common.{◌≡◌, drop}
use Rattle.im_types.specs.Types.{kept_for}
use Rattle.im_contents.specs.Marking.{mark_list, place_of_mark}

abbrev pub invariant-loop-who : Rattle.im_contents.proofs.waiting.mark_list.Given.invariant-loop-who
invariant-loop-who l =
    mark_list (kept_for l.windows) (place_of_mark l.windows) l.kind l.address l.initial.marks l.waiters
    ≡ mark_list (kept_for l.windows) (place_of_mark l.windows) l.kind l.address l.marks (drop l.who-index l.waiters)
