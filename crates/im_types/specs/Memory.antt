-- What makes contents those of a memory. (Own.)
use Rattle.std.specs.Prelude.{◌≡◌, ℕ, ◌+◌, ◌≤◌, length, slice_get, Some}
use Rattle.im_types.specs.{Agreement.WaitingAgrees, Contents.Contents, Contents.HasBlocks, Contents.Window}
use Rattle.im_types.specs.{declared.TheConstants.LAST, declared.TheConstants.WINDOW, Window.next_number}

-- a window is numbered from 1 on, keeps at most WINDOW entries, and numbers none past the last number of all
pub record IsWindow (w : Window) : Type 0 where
  pub from_one : 1 ≤ w.base
  pub few : length w.kept ≤ WINDOW
  pub to_last : next_number w ≤ LAST + 1

-- a memory has these numbers of cells and windows, whole blocks, windows within their bounds, and lists of waiters that
-- agree with the waiting entries
pub record IsMemory (cells elements : ℕ) (m : Contents) : Type 0 where
  pub cell_count : length m.cells ≡ cells
  pub window_count : length m.windows ≡ elements
  pub blocks : HasBlocks m.cells
  pub windows : (element : ℕ) (w : Window) → slice_get m.windows element ≡ Some w → IsWindow w
  pub agrees : WaitingAgrees m
