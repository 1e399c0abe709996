use Rattle.std.proofs.Common.{◌≡◌, drop}
use Rattle.im_glass.specs.{Copies.ChangeNothing, Rule.copy_state}

abbrev pub invariant-loop-place : Rattle.im_glass.proofs.sides.make_room.Given.invariant-loop-place
invariant-loop-place l =
    (l.both.desk ≡ l.fn.both.desk)
    × ChangeNothing (copy_state l.fn.both.desk.shown.value) (drop l.both.behind l.both.log.items)
