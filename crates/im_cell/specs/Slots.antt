-- A table of cells as a contract sees it: a slot for each address, None for a free cell. (Own.)
use Rattle.std.specs.Prelude.{◌≡◌, ℕ, ◌+◌, ◌<◌, ◌≤◌, Bool, true, false, not, List, length, take, drop, if◌then◌else◌}
use Rattle.std.specs.Prelude.{◌==◌, slice_index_or, Some, None, Option}
use Rattle.std.specs.List.{list_any}
use Rattle.im_types.specs.Types.{Kind, Block, Cell, CellEmpty as Empty, CellWaiting as Waiting, CellFull as Full}
use Rattle.im_types.specs.Types.{CellClashed as Clashed, PresenceTag, CellRecord, TagEmpty, TagWaiting, TagFull}
use Rattle.im_types.specs.Types.{TagClashed, FreeCell, BlockCell}
use Rattle.im_cell.specs.declared.slots.Slot.{Slot}

-- the slot at an address; None in no block and past the last cell
abbrev pub slot_at : List (Option Slot) → ℕ → Option Slot
slot_at slots a = slice_index_or slots a None

-- the block of a slot
abbrev pub block_in : Option Slot → Option Block
block_in None = None
block_in (Some slot) = Some slot.block

-- the cell of a slot
abbrev pub slot_cell : Option Slot → Option Cell
slot_cell None = None
slot_cell (Some slot) = Some slot.cell

-- the block that an address lies in
abbrev pub slot_block : List (Option Slot) → ℕ → Option Block
slot_block slots a = block_in (slot_at slots a)

-- the cell at an address
abbrev pub cell_at : List (Option Slot) → ℕ → Option Cell
cell_at slots a = slot_cell (slot_at slots a)

-- the slot of a cell of this block
abbrev pub new_slot : Block → Cell → Option Slot
new_slot block cell = Some (record { block = block; cell = cell })

-- the slot of each cell of a new block of n cells
abbrev pub empty_slot : ℕ → ℕ → Kind → Option Slot
empty_slot base n kind = new_slot (record { base = base; length = n; kind = kind }) Empty

-- a slot with another cell, in the same block
abbrev pub with_cell : Cell → Option Slot → Option Slot
with_cell cell None = None
with_cell cell (Some slot) = new_slot slot.block cell

-- the cell that a presence tag on a page shows
abbrev pub shown_cell : PresenceTag → Cell
shown_cell TagEmpty = Empty
shown_cell (TagWaiting first last) = Waiting
shown_cell (TagFull v) = Full v
shown_cell (TagClashed v) = Clashed v

-- the slot of a cell's record on a page; the hole in a free cell's record shows nothing
abbrev pub shown_slot : CellRecord → Option Slot
shown_slot (FreeCell hole next) = None
shown_slot (BlockCell block tag) = new_slot block (shown_cell tag)

-- each block lies below the cell count, and each of its cells is in that block alone
pub record HoldsBlocks (slots : List (Option Slot)) : Type 0 where
  pub within : (a : ℕ) (block : Block) → slot_block slots a ≡ Some block
      → (block.base ≤ a) × (a < block.base + block.length) × (block.base + block.length ≤ length slots)
  pub whole : (a : ℕ) (block : Block) → slot_block slots a ≡ Some block → (b : ℕ) → block.base ≤ b
      → b < block.base + block.length → slot_block slots b ≡ Some block

-- whether requests wait for a cell
abbrev pub cell_waits : Cell → Bool
cell_waits Empty = false
cell_waits Waiting = true
cell_waits (Full v) = false
cell_waits (Clashed v) = false

-- whether requests wait for the cell of a slot
abbrev pub is_waiting_slot : Option Slot → Bool
is_waiting_slot None = false
is_waiting_slot (Some slot) = cell_waits slot.cell

-- the block whose base is this address
abbrev pub block_from : ℕ → Option Block → Option Block
block_from a None = None
block_from a (Some block) = if block.base == a then Some block else None

-- there is a block, and no request waits for any of its cells, which begin at this address
abbrev pub is_quiet_block : List (Option Slot) → ℕ → Option Block → Bool
is_quiet_block slots a None = false
is_quiet_block slots a (Some block) = not (list_any is_waiting_slot (take block.length (drop a slots)))

-- there is a block with this base, and no request waits for any of its cells
abbrev pub is_releasable : List (Option Slot) → ℕ → Bool
is_releasable slots a = is_quiet_block slots a (block_from a (slot_block slots a))

-- the length of a block, or 0
abbrev pub length_of : Option Block → ℕ
length_of None = 0
length_of (Some block) = block.length

-- the number of cells of the block at an address
abbrev pub length_at : List (Option Slot) → ℕ → ℕ
length_at slots a = length_of (slot_block slots a)
