-- When the pages of an area show a memory: they spell records, and the records show it. (Own.)
use Rattle.std.specs.Prelude.{◌≡◌, ℕ, ◌*◌, ◌<◌, List, [], ◌∷◌, length, drop, slice_index_or, Some, None, Option}
use Rattle.im_types.specs.{Bytes.zeros, Chains.ShowLists, Memory.IsMemory}
use Rattle.im_types.specs.Contents.{CellState, Clashed, Contents, Empty, Full, Held, new_window, Window}
use Rattle.im_types.specs.declared.{operations.Waiter.Waiter, TheConstants.NONE}
use Rattle.im_types.specs.declared.records.{CellRecord.CellRecord, PresenceTag.PresenceTag}
use Rattle.im_types.specs.declared.records.CellRecord.TheVariants.{Free as FreeCell, Held as BlockCell}
use Rattle.im_types.specs.declared.records.NodeRecord.{NodeRecord, TheVariants.Free as FreeNode}
use Rattle.im_types.specs.declared.records.PresenceTag.TheVariants.{Clashed as TagClashed, Empty as TagEmpty}
use Rattle.im_types.specs.declared.records.PresenceTag.TheVariants.{Full as TagFull, Waiting as TagWaiting}
use Rattle.im_types.specs.Layout.{cell_part, cell_record_bytes, Layout, node_count, node_part, node_record_bytes}
use Rattle.im_types.specs.Layout.{record_at, session_part, session_record_bytes, Sizes}
use Rattle.im_types.specs.Records.{cell_bytes, FitsCell, FitsNode, FitsWindow, node_bytes, session_bytes}

-- the records of an area
pub record Records : Type 0 where
  pub cells : List CellRecord
  pub nodes : List NodeRecord
  pub windows : List Window

-- the bytes are a row of records of one size, each spelled as it should be, and then zeros
pub record IsRow {X : Type 0} (size : ℕ) (spelled : X → List ℕ) (Fits : X → Type 0) (none : X) (count : ℕ)
    (bytes : List ℕ) (row : List X) : Type 0 where
  pub many : length row ≡ count
  pub each : (i : ℕ) → i < count → record_at size bytes i ≡ spelled (slice_index_or row i none)
  pub fits : (i : ℕ) → i < count → Fits (slice_index_or row i none)
  pub rest : drop (size * count) bytes ≡ zeros (length (drop (size * count) bytes))

-- an area's bytes spell these records
pub record SpellsArea (l : Layout) (s : Sizes) (area : List ℕ) (r : Records) : Type 0 where
  pub cells : IsRow cell_record_bytes cell_bytes (FitsCell s.cells (node_count l s)) (FreeCell 0 NONE) s.cells
      (cell_part s area) r.cells
  pub nodes : IsRow node_record_bytes node_bytes (FitsNode (node_count l s)) (FreeNode NONE) (node_count l s)
      (node_part l s area) r.nodes
  pub sessions : IsRow (session_record_bytes l) (session_bytes l) (FitsWindow l) new_window s.elements
      (session_part l s area) r.windows

-- the state of a cell with this tag and these waiters
abbrev pub state_shown : PresenceTag → List Waiter → CellState
state_shown TagEmpty waiters = Empty []
state_shown (TagWaiting first last) waiters = Empty waiters
state_shown (TagFull v) waiters = Full v
state_shown (TagClashed v) waiters = Clashed v

-- the cell that a record with these waiters stands for
abbrev pub cell_shown : CellRecord → List Waiter → Option Held
cell_shown (FreeCell hole next) waiters = None
cell_shown (BlockCell block tag) waiters = Some (record { block = block; state = state_shown tag waiters })

-- the cells that records with these lists of waiters stand for
abbrev pub cells_shown : List CellRecord → List (List Waiter) → List (Option Held)
cells_shown [] lists = []
cells_shown (cell ∷ cells) [] = cell_shown cell [] ∷ cells_shown cells []
cells_shown (cell ∷ cells) (waiters ∷ lists) = cell_shown cell waiters ∷ cells_shown cells lists

-- records show a memory: the lists stand in their nodes, the cells have them, the windows are the memory's own, and it
-- is a memory
pub record ShowsRecords (s : Sizes) (r : Records) (m : Contents) : Type 0 where
  pub lists : List (List Waiter)
  pub chained : ShowLists r.nodes r.cells lists
  pub cells : m.cells ≡ cells_shown r.cells lists
  pub windows : m.windows ≡ r.windows
  pub memory : IsMemory s.cells s.elements m

-- an area's pages show a memory
pub record Shows (l : Layout) (s : Sizes) (area : List ℕ) (m : Contents) : Type 0 where
  pub records : Records
  pub spelled : SpellsArea l s area records
  pub shown : ShowsRecords s records m
