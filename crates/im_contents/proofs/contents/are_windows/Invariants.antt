use Rattle.std.proofs.Common.{◌≡◌, ℕ, ◌<◌, slice_get, Some}
use Rattle.im_types.specs.Types.{Window, IsWindow}

abbrev pub invariant-loop-element : Rattle.im_contents.proofs.contents.are_windows.Given.invariant-loop-element
invariant-loop-element l = (element : ℕ) (w : Window) → element < l.element → slice_get l.windows element ≡ Some w
    → IsWindow w
