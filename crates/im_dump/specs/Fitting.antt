-- When each number in a dump has its own spelling: it fits the field that it is kept in. (Own.)
use Rattle.std.specs.Prelude.{◌≡◌, ℕ, ◌^◌, ◌<◌, slice_get, Some, None, Option}
use Rattle.std.specs.List.{AllByRecursion}
use Rattle.im_types.specs.Types.{Waiter, AreLimits, CellState, Empty, Full, Clashed, Held, Window, Contents, held_at}
use Rattle.im_types.specs.Types.{IsMemory, Sizes}
use Rattle.im_records.specs.Entries.{FitEntries}

-- the numbers of a request fit their fields
pub record FitsWaiter (who : Waiter) : Type 0 where
  pub element : who.element < 2 ^ 16
  pub number : who.number < 2 ^ 64

-- the numbers of a cell fit their fields
abbrev pub FitsState : CellState → Type 0
FitsState (Empty waiters) = AllByRecursion FitsWaiter waiters
FitsState (Full v) = v < 2 ^ 64
FitsState (Clashed v) = v < 2 ^ 64

-- the same where there may be no cell of a block
abbrev pub FitsHeld : Option Held → Type 0
FitsHeld None = Unit {0}
FitsHeld (Some held) = FitsState held.state

-- the numbers of all cells
abbrev pub FitCells : Contents → Type 0
FitCells m = (a : ℕ) → FitsHeld (held_at m.cells a)

-- the numbers of an element's entries
abbrev pub FitsWindowOf : Contents → ℕ → Type 0
FitsWindowOf m element = (w : Window) → slice_get m.windows element ≡ Some w → FitEntries w.kept

-- the numbers of all entries
abbrev pub FitWindows : Contents → Type 0
FitWindows m = (element : ℕ) → FitsWindowOf m element

-- the numbers of cells and of entries fit their fields
pub record FitsContents (m : Contents) : Type 0 where
  pub cells : FitCells m
  pub entries : FitWindows m

-- a memory in an image of these sizes, with this count, whose numbers fit their fields
pub record FitsDump (s : Sizes) (count : ℕ) (m : Contents) : Type 0 where
  pub limits : AreLimits s.cells s.elements s.slots
  pub counted : count < 2 ^ 64
  pub memory : IsMemory s.cells s.elements m
  pub fits : FitsContents m
