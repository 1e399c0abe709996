use Rattle.std.proofs.Common.{◌≡◌, ℕ, ◌*◌, ◌<◌, slice_get, Some}
use Rattle.im_types.specs.Types.{WINDOW, Window}
use Rattle.im_contents.specs.Marking.{ListMarked}

abbrev pub invariant-loop-element : Rattle.im_contents.proofs.waiting.are_marked.Given.invariant-loop-element
invariant-loop-element l =
    (element : ℕ) (w : Window) → element < l.element → slice_get l.windows element ≡ Some w
    → ListMarked w.kept (WINDOW * element) l.marks
