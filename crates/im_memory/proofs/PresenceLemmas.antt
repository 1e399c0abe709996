-- What is shown of a cell.
use Rattle.std.proofs.Common.{◌≡◌, ℕ, List, [], ◌∷◌, Some, None, Option, sym, refl, ap, ◌∙◌}
use Rattle.im_types.specs.Types.{Waiter, held_at, presence_of, presence_in, Cell, CellEmpty as Empty}
use Rattle.im_types.specs.Types.{CellWaiting as Waiting, CellFull as Full, CellClashed as Clashed}
use Rattle.im_arena.specs.Lists.{list_at, Shown}
use Rattle.{im_cell.specs.declared.Slot.Slot, im_istore.proofs.Cells.held_at-cells}
use Rattle.im_cell.specs.Slots.{cell_at, cell_waits, is_waiting_slot, slot_at, slot_cell}
use Rattle.im_istore.specs.{Agreement.Agree, Agreement.has_some, Joined.cells_of, Joined.held_of, Joined.state_of}

-- a cell that waits exactly where somebody is on its list is the tag of its state
cell-shown : (cell : Cell) (waiters : List Waiter) → cell_waits cell ≡ has_some waiters → cell
    ≡ presence_of (state_of cell waiters)
cell-shown Empty [] agree = refl
cell-shown Empty (waiter ∷ waiters) agree = absurd (cc)
cell-shown Waiting [] agree = absurd (cc)
cell-shown Waiting (waiter ∷ waiters) agree = refl
cell-shown (Full v) waiters agree = refl
cell-shown (Clashed v) waiters agree = refl

slot-shown : (slot : Option Slot) (waiters : List Waiter) → is_waiting_slot slot ≡ has_some waiters → slot_cell slot
    ≡ presence_in (held_of slot waiters)
slot-shown None waiters agree = refl
slot-shown (Some slot) waiters agree = ap Some (cell-shown slot.cell waiters agree)

pub presence-at : (slots : List (Option Slot)) (arena : Shown) → Agree slots arena → (a : ℕ) → cell_at slots a
    ≡ presence_in (held_at (cells_of slots arena) a)
presence-at slots arena agree a = slot-shown (slot_at slots a) (list_at arena.held a) (agree.each a)
    ∙ sym (ap presence_in (held_at-cells slots arena a))
