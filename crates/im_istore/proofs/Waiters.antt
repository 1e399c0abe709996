-- Who waits at a cell, by its list.
use Rattle.std.proofs.Common.{◌≡◌, ℕ, List, [], ◌∷◌, Some, None, Option, refl, ap, ◌∙◌}
use Rattle.im_types.specs.Types.{Waiter, waiters_of, waiters_in, waiters_at, Cell, CellEmpty as Empty}
use Rattle.im_types.specs.Types.{CellWaiting as Waiting, CellFull as Full, CellClashed as Clashed}
use Rattle.im_arena.specs.Lists.{list_at, Shown}
use Rattle.im_cell.specs.{declared.Slot.Slot, Slots.cell_waits, Slots.is_waiting_slot, Slots.slot_at}
use Rattle.im_istore.proofs.Cells.{held_at-cells}
use Rattle.im_istore.specs.{Agreement.Agree, Agreement.has_some, Joined.cells_of, Joined.held_of, Joined.state_of}

waiters_of-state : (cell : Cell) (waiters : List Waiter) → cell_waits cell ≡ has_some waiters
    → waiters_of (state_of cell waiters) ≡ waiters
waiters_of-state Empty waiters e = refl
waiters_of-state Waiting waiters e = refl
waiters_of-state (Full v) [] e = refl
waiters_of-state (Full v) (waiter ∷ waiters) e = absurd (cc)
waiters_of-state (Clashed v) [] e = refl
waiters_of-state (Clashed v) (waiter ∷ waiters) e = absurd (cc)

waiters_in-held : (slot : Option Slot) (waiters : List Waiter) → is_waiting_slot slot ≡ has_some waiters
    → waiters_in (held_of slot waiters) ≡ waiters
waiters_in-held None [] e = refl
waiters_in-held None (waiter ∷ waiters) e = absurd (cc)
waiters_in-held (Some slot) waiters e = waiters_of-state slot.cell waiters e

-- where cells and lists agree, those who wait at a cell by the definitions are those on its list
pub waiters_at-cells : (slots : List (Option Slot)) (arena : Shown) (a : ℕ) → Agree slots arena
    → waiters_at (cells_of slots arena) a ≡ list_at arena.held a
waiters_at-cells slots arena a agree = ap waiters_in (held_at-cells slots arena a)
    ∙ waiters_in-held (slot_at slots a) (list_at arena.held a) (agree.each a)
