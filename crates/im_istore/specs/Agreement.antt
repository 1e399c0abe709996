-- The agreement of a table of cells and an arena of waiters. (Own.)
use Rattle.std.specs.Prelude.{◌≡◌, ℕ, Bool, true, false, ◌≢◌, List, [], ◌∷◌, length, Some, Option}
use Rattle.im_types.specs.Types.{Waiter, CellFull as Full}
use Rattle.im_arena.specs.Lists.{list_at, Shown}
use Rattle.im_cell.specs.{declared.Slot.Slot, Slots.cell_at, Slots.is_waiting_slot, Slots.slot_at}

-- whether a list has a waiter
abbrev pub has_some : List Waiter → Bool
has_some [] = false
has_some (waiter ∷ waiters) = true

-- the cell at an address waits if and only if its list has a waiter; the list of an address in no block is empty
abbrev pub AgreeAt : ℕ → List (Option Slot) → Shown → Type 0
AgreeAt a slots arena = is_waiting_slot (slot_at slots a) ≡ has_some (list_at arena.held a)

-- each cell has a list, and waits if and only if that list isn't empty
pub record Agree (slots : List (Option Slot)) (arena : Shown) : Type 0 where
  pub lists : length arena.held.lists ≡ length slots
  pub each : (a : ℕ) → AgreeAt a slots arena

-- the same at each address but this one; the full cell there still has its readers on its list
pub record AgreeBut (a : ℕ) (slots : List (Option Slot)) (arena : Shown) : Type 0 where
  pub lists : length arena.held.lists ≡ length slots
  pub others : (b : ℕ) → b ≢ a → AgreeAt b slots arena
  pub full : (v : ℕ) × (cell_at slots a ≡ Some (Full v))
