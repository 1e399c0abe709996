-- The cells that a table of cells and an arena of waiters stand for. The list of a cell's waiters has the cell's
-- address as its number. (Own.)
use Rattle.std.specs.Prelude.{List, [], ◌∷◌, Some, None, Option}
use Rattle.im_types.specs.Types.{Waiter, CellState, Empty as IsEmpty, Full as IsFull, Clashed as IsClashed, Held, Cell}
use Rattle.im_types.specs.Types.{CellEmpty as Empty, CellWaiting as Waiting, CellFull as Full, CellClashed as Clashed}
use Rattle.{im_arena.specs.Lists.Shown, im_cell.specs.declared.Slot.Slot}

-- the state of a cell with these waiters
abbrev pub state_of : Cell → List Waiter → CellState
state_of Empty waiters = IsEmpty waiters
state_of Waiting waiters = IsEmpty waiters
state_of (Full v) waiters = IsFull v
state_of (Clashed v) waiters = IsClashed v

-- the cell of a slot with these waiters
abbrev pub held_of : Option Slot → List Waiter → Option Held
held_of None waiters = None
held_of (Some slot) waiters = Some (record { block = slot.block; state = state_of slot.cell waiters })

-- each slot with the list of its address
abbrev pub joined_cells : List (Option Slot) → List (List Waiter) → List (Option Held)
joined_cells [] lists = []
joined_cells (slot ∷ slots) [] = held_of slot [] ∷ joined_cells slots []
joined_cells (slot ∷ slots) (waiters ∷ lists) = held_of slot waiters ∷ joined_cells slots lists

-- the cells of a table and an arena
abbrev pub cells_of : List (Option Slot) → Shown → List (Option Held)
cells_of slots arena = joined_cells slots arena.held.lists
