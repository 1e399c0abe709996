-- What records need to show a memory, besides lists of waiters. (Own.)
use Rattle.std.specs.Prelude.{◌≡◌, ℕ, List, length, slice_get, Some}
use Rattle.im_types.specs.Types.{Waiter, Window, HasBlocks, IsWindow, CellRecord, cells_shown}

-- each window is within its bounds
abbrev pub WindowsFit : List Window → Type 0
WindowsFit windows = (element : ℕ) (w : Window) → slice_get windows element ≡ Some w → IsWindow w

-- this many cells and windows, windows within their bounds, and whole blocks, whoever waits
pub record HaveParts (count elements : ℕ) (cells : List CellRecord) (windows : List Window) : Type 0 where
  pub cell_count : length cells ≡ count
  pub window_count : length windows ≡ elements
  pub within : WindowsFit windows
  pub blocks : (lists : List (List Waiter)) → HasBlocks (cells_shown cells lists)
