use Rattle.std.proofs.Common.{◌≡◌, ◌+◌, length, take, drop}
use Rattle.im_glass.proofs.CopyLemmas.{Staged}

abbrev pub invariant-loop-change : Rattle.im_glass.proofs.sides.stage.Given.invariant-loop-change
invariant-loop-change g l =
    (l.both.desk ≡ l.fn.both.desk)
    × (length l.all ≡ length l.fn.all + l.change-index)
    × Staged (length l.fn.both.desk.shown.value.cells) g.J.PaneName.book l.fn.all (take l.change-index l.fn.changes)
    l.all (drop l.both.behind l.both.log.items)
