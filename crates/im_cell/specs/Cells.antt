-- The parts that are kept for a cell, and the cell that they stand for. (Own.)
use Rattle.std.specs.Prelude.{◌≡◌, ℕ, ◌%◌, ◌^◌, ◌<◌, ◌≤◌, List, [], ◌∷◌, slice_index_or, None, Option}
use Rattle.im_types.specs.Types.{Kind, Block, I, M, Cell, CellEmpty as Empty, CellWaiting as Waiting, CellFull as Full}
use Rattle.im_types.specs.Types.{CellClashed as Clashed, CellRecord, TagEmpty, TagWaiting, TagFull, TagClashed}
use Rattle.im_types.specs.Types.{FreeCell, BlockCell}
use Rattle.im_cell.specs.declared.{slots.Slot.Slot, state.Extent.Extent, state.State.State}
use Rattle.im_cell.specs.declared.state.State.TheVariants.{ClashedI, ClashedM, EmptyI, EmptyM, Free, FullI, FullM}
use Rattle.im_cell.specs.declared.state.State.TheVariants.{WaitingI, WaitingM}
use Rattle.im_cell.specs.Slots.{new_slot}

-- the block of this kind at this place
abbrev pub block_by_extent : Extent → Kind → Block
block_by_extent extent kind = record { base = extent.base; length = extent.length; kind = kind }

-- the slot of a cell in this state, with this value, in a block at this place
abbrev pub state_slot : State → ℕ → Extent → Option Slot
state_slot Free v extent = None
state_slot EmptyI v extent = new_slot (block_by_extent extent I) Empty
state_slot WaitingI v extent = new_slot (block_by_extent extent I) Waiting
state_slot FullI v extent = new_slot (block_by_extent extent I) (Full v)
state_slot ClashedI v extent = new_slot (block_by_extent extent I) (Clashed v)
state_slot EmptyM v extent = new_slot (block_by_extent extent M) Empty
state_slot WaitingM v extent = new_slot (block_by_extent extent M) Waiting
state_slot FullM v extent = new_slot (block_by_extent extent M) (Full v)
state_slot ClashedM v extent = new_slot (block_by_extent extent M) (Clashed v)

-- the state of a cell in a block of a kind
abbrev pub state_for : Kind → Cell → State
state_for I Empty = EmptyI
state_for I Waiting = WaitingI
state_for I (Full v) = FullI
state_for I (Clashed v) = ClashedI
state_for M Empty = EmptyM
state_for M Waiting = WaitingM
state_for M (Full v) = FullM
state_for M (Clashed v) = ClashedM

-- the value in a cell, or 0 if it has none
abbrev pub value_of : Cell → ℕ
value_of Empty = 0
value_of Waiting = 0
value_of (Full v) = v
value_of (Clashed v) = v

-- the kind of a cell's block, or I for a free cell
abbrev pub tag_kind : State → Kind
tag_kind Free = I
tag_kind EmptyI = I
tag_kind WaitingI = I
tag_kind FullI = I
tag_kind ClashedI = I
tag_kind EmptyM = M
tag_kind WaitingM = M
tag_kind FullM = M
tag_kind ClashedM = M

-- the slots of cells, from the parts that are kept for each
unfoldable pub slots_in : List State → List ℕ → List Extent → List (Option Slot)
slots_in [] values extents = []
slots_in (state ∷ states) [] extents = []
slots_in (state ∷ states) (value ∷ values) [] = []
slots_in (state ∷ states) (value ∷ values) (extent ∷ extents) =
    state_slot state value extent ∷ slots_in states values extents

-- the record of a cell, from the parts that are kept for it. A free cell's extent has the two numbers of its record. A
-- waiting cell's value is the first node of its list.
abbrev pub record_shown : State → ℕ → Extent → ℕ → CellRecord
record_shown Free v extent last = FreeCell extent.base extent.length
record_shown EmptyI v extent last = BlockCell (block_by_extent extent I) TagEmpty
record_shown WaitingI v extent last = BlockCell (block_by_extent extent I) (TagWaiting (v % 2 ^ 32) last)
record_shown FullI v extent last = BlockCell (block_by_extent extent I) (TagFull v)
record_shown ClashedI v extent last = BlockCell (block_by_extent extent I) (TagClashed v)
record_shown EmptyM v extent last = BlockCell (block_by_extent extent M) TagEmpty
record_shown WaitingM v extent last = BlockCell (block_by_extent extent M) (TagWaiting (v % 2 ^ 32) last)
record_shown FullM v extent last = BlockCell (block_by_extent extent M) (TagFull v)
record_shown ClashedM v extent last = BlockCell (block_by_extent extent M) (TagClashed v)

-- the records of cells, from the parts that are kept for each
unfoldable pub rows_in : List State → List ℕ → List Extent → List ℕ → List CellRecord
rows_in [] values extents lasts = []
rows_in (state ∷ states) [] extents lasts = []
rows_in (state ∷ states) (value ∷ values) [] lasts = []
rows_in (state ∷ states) (value ∷ values) (extent ∷ extents) [] = []
rows_in (state ∷ states) (value ∷ values) (extent ∷ extents) (last ∷ lasts) =
    record_shown state value extent last ∷ rows_in states values extents lasts

-- the elements `from` to `to - 1` are this one, and the others are as they were
pub record IsFilled {X : Type 0} (d : X) (old new : List X) (from to : ℕ) (x : X) : Type 0 where
  pub each : (k : ℕ) → from ≤ k → k < to → slice_index_or new k d ≡ x
  pub others : (k : ℕ) → (from ≤ k → k < to → ⊥) → slice_index_or new k d ≡ slice_index_or old k d

-- the four lists of a row have the same length, and each has room for this number of cells
pub record IsCellRow (states values extents lasts room fit_states fit_values fit_extents fit_lasts : ℕ) : Type 0 where
  pub values_are : values ≡ states
  pub extents_are : extents ≡ states
  pub lasts_are : lasts ≡ states
  pub states_fit : room ≤ fit_states
  pub values_fit : room ≤ fit_values
  pub extents_fit : room ≤ fit_extents
  pub lasts_fit : room ≤ fit_lasts
