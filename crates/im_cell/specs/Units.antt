-- Units of cells. One record may stand for all cells of a unit. (Own.)
use Rattle.std.specs.Prelude.{ℕ, suc, ◌/◌, Bool, true, false, List, [], ◌∷◌, slice_index_or, None, Option}
use Rattle.im_types.specs.Types.{I, M, CellEmpty as Empty}
use Rattle.im_cell.specs.{Cells.block_by_extent, declared.slots.Slot.Slot, Slots.new_slot}
use Rattle.im_cell.specs.declared.unit.{TheConstants.UNIT, Unit.Unit}
use Rattle.im_cell.specs.declared.unit.Unit.TheVariants.{BlockI, BlockM, Each, Free}

-- a unit; past the last unit each cell has its own record
abbrev pub unit_at : List Unit → ℕ → Unit
unit_at units j = slice_index_or units j Each

-- each cell of the unit has its own record
abbrev pub is_own : Unit → Bool
is_own Each = true
is_own Free = false
is_own (BlockI extent) = false
is_own (BlockM extent) = false

-- the slot of each cell of a unit with one record for all
abbrev pub common_slot : Unit → Option Slot
common_slot Each = None
common_slot Free = None
common_slot (BlockI extent) = new_slot (block_by_extent extent I) Empty
common_slot (BlockM extent) = new_slot (block_by_extent extent M) Empty

-- the slot of a cell in a unit, with this record of its own
abbrev pub slot_by : Unit → Option Slot → Option Slot
slot_by Each own = own
slot_by Free own = None
slot_by (BlockI extent) own = new_slot (block_by_extent extent I) Empty
slot_by (BlockM extent) own = new_slot (block_by_extent extent M) Empty

-- the slots of the cells from one on
abbrev pub shown_from : ℕ → List Unit → List (Option Slot) → List (Option Slot)
shown_from i units [] = []
shown_from i units (slot ∷ slots) = slot_by (unit_at units (i / UNIT)) slot ∷ shown_from (suc i) units slots

-- the slots of cells with these records of their own, in these units
unfoldable pub shown_units : List Unit → List (Option Slot) → List (Option Slot)
shown_units units slots = shown_from 0 units slots
