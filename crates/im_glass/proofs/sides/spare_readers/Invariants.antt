use Rattle.std.{proofs.Common.◌≡◌, proofs.Common.length, specs.List.AllByRecursion}
use Rattle.left_right.specs.Sides.{view}

abbrev pub invariant-loop-reader : Rattle.im_glass.proofs.sides.spare_readers.Given.invariant-loop-reader
invariant-loop-reader l =
    (length l.spare.items ≡ l._reader)
    × AllByRecursion (λ b. b ≡ l.fn.both.desk.shown.value.seen.book) l.spare.items
    × (l.both.desk.shown ≡ l.fn.both.desk.shown)
    × (l.both.log ≡ l.fn.both.log)
    × (l.both.behind ≡ l.fn.both.behind)
    × (view l.both.desk.place ≡ view l.fn.both.desk.place)
