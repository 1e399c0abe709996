-- All windows, by element.
use Rattle.std.specs.Prelude.{◌≡◌, ℕ, List, slice_get, Some}
use Rattle.im_types.specs.Types.{Window, IsWindow}

-- each window is within its bounds
abbrev pub AreWindows : List Window → Type 0
AreWindows windows = (element : ℕ) (w : Window) → slice_get windows element ≡ Some w → IsWindow w
