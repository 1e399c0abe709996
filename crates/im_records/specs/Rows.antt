-- Records in a row, without what is behind them. (Own.)
use Rattle.std.specs.Prelude.{◌≡◌, ℕ, ◌+◌, ◌*◌, ◌<◌, List, length, take, drop, slice_index_or}
use Rattle.im_types.specs.Types.{NONE, Window, new_window, Layout, Sizes, cell_record_bytes, node_record_bytes}
use Rattle.im_types.specs.Types.{session_record_bytes, node_count, cell_part, record_at, CellRecord, NodeRecord}
use Rattle.im_types.specs.Types.{FreeCell, FreeNode, cell_bytes, node_bytes, FitsCell, FitsNode, session_bytes}
use Rattle.im_types.specs.Types.{FitsWindow, Records, IsRow, SpellsArea}

-- bytes spell a record that is within its bounds
pub record Spells {X : Type 0} (spelled : X → List ℕ) (Fits : X → Type 0) (bytes : List ℕ) (x : X) : Type 0 where
  pub is : bytes ≡ spelled x
  pub fits : Fits x

-- bytes begin with this many records of a size, each spelled as it should be
pub record BeginWith {X : Type 0} (size : ℕ) (spelled : X → List ℕ) (Fits : X → Type 0) (none : X) (count : ℕ)
    (bytes : List ℕ) (row : List X) : Type 0 where
  pub many : length row ≡ count
  pub each : (i : ℕ) → i < count → Spells spelled Fits (record_at size bytes i) (slice_index_or row i none)

-- bytes begin with the records of this many cells, within the bounds of these numbers of cells and nodes
abbrev pub BeginWithCells : ℕ → ℕ → ℕ → List ℕ → List CellRecord → Type 0
BeginWithCells count cells nodes bytes row =
    BeginWith cell_record_bytes cell_bytes (FitsCell cells nodes) (FreeCell 0 NONE) count bytes row

-- bytes begin with this many waiter nodes, within the bounds of this number of nodes
abbrev pub BeginWithNodes : ℕ → ℕ → List ℕ → List NodeRecord → Type 0
BeginWithNodes count nodes bytes row =
    BeginWith node_record_bytes node_bytes (FitsNode nodes) (FreeNode NONE) count bytes row

-- bytes begin with this many sessions
abbrev pub BeginWithSessions : Layout → ℕ → List ℕ → List Window → Type 0
BeginWithSessions l count bytes row =
    BeginWith (session_record_bytes l) (session_bytes l) (FitsWindow l) new_window count bytes row

-- bytes are the records of this many cells, within the bounds of this number of nodes, and zeros
abbrev pub AreCells : ℕ → ℕ → List ℕ → List CellRecord → Type 0
AreCells cells nodes bytes row =
    IsRow cell_record_bytes cell_bytes (FitsCell cells nodes) (FreeCell 0 NONE) cells bytes row

-- bytes are this many waiter nodes, and zeros
abbrev pub AreNodes : ℕ → List ℕ → List NodeRecord → Type 0
AreNodes nodes bytes row = IsRow node_record_bytes node_bytes (FitsNode nodes) (FreeNode NONE) nodes bytes row

-- bytes are this many sessions, and zeros
abbrev pub AreSessions : Layout → ℕ → List ℕ → List Window → Type 0
AreSessions l elements bytes row =
    IsRow (session_record_bytes l) (session_bytes l) (FitsWindow l) new_window elements bytes row

-- a piece is what an area has from a place on
abbrev pub StandsAt : ℕ → List ℕ → List ℕ → Type 0
StandsAt at piece area = piece ≡ take (length piece) (drop at area)

-- If a piece is at a place of an area that begins with the cells of `old`, the area begins with the cells of `new`.
abbrev pub LeadsOn : ℕ → ℕ → ℕ → ℕ → List ℕ → List CellRecord → List CellRecord → Type 0
LeadsOn cells nodes count at piece old new = (area : List ℕ) → StandsAt at piece area
    → BeginWithCells (length old) cells nodes area old → BeginWithCells (length old + count) cells nodes area new

-- If the area begins with the cells of `row`, and this last part of its cells is at this place, then `all` has all its
-- cells.
abbrev pub FillsUp : ℕ → ℕ → ℕ → ℕ → List ℕ → List CellRecord → List CellRecord → Type 0
FillsUp cells nodes at size part row all = (n : ℕ) (area : List ℕ) → at + size ≡ n → StandsAt at part area
    → BeginWithCells (length row) cells nodes area row → AreCells cells nodes (take n area) all

-- If this last part of an area's cells is at this place, no row has all its cells.
abbrev pub NoneFillsUp : ℕ → ℕ → ℕ → ℕ → List ℕ → Type 0
NoneFillsUp cells nodes at size part = (n : ℕ) (area : List ℕ) (all : List CellRecord) → at + size ≡ n
    → StandsAt at part area → AreCells cells nodes (take n area) all → ⊥

-- a row is the first cells of an area
abbrev pub AreFirstCells : Layout → Sizes → List ℕ → List CellRecord → Type 0
AreFirstCells l s area row = BeginWithCells (length row) s.cells (node_count l s) area row

-- If a piece is at a place of an area whose first cells are `old`, its first cells are `new` too.
abbrev pub CarriesOn : Layout → Sizes → ℕ → List ℕ → List CellRecord → List CellRecord → Type 0
CarriesOn l s at piece old new =
    (area : List ℕ) → StandsAt at piece area → AreFirstCells l s area old → AreFirstCells l s area new

-- a row is all cells of an area
abbrev pub AreAllCells : Layout → Sizes → List ℕ → List CellRecord → Type 0
AreAllCells l s area row = AreCells s.cells (node_count l s) (cell_part s area) row

-- If the first cells of an area are `row`, and this last part of its cells is behind them, all its cells are `all`.
abbrev pub CompleteCells : Layout → Sizes → List ℕ → List CellRecord → List CellRecord → Type 0
CompleteCells l s part row all =
    (area : List ℕ) → StandsAt (cell_record_bytes * length row) part area → AreFirstCells l s area row
    → AreAllCells l s area all

-- If this last part of an area's cells is behind as many of them, no row is all its cells.
abbrev pub NoneCompletes : Layout → Sizes → List ℕ → List CellRecord → Type 0
NoneCompletes l s part cells =
    (area : List ℕ) (all : List CellRecord) → StandsAt (cell_record_bytes * length cells) part area
    → AreAllCells l s area all → ⊥

-- each area with these first cells, and these bytes behind them, spells the records
abbrev pub SpellsBehind : Layout → Sizes → List CellRecord → List ℕ → Records → Type 0
SpellsBehind l s cells rest r =
    (area : List ℕ) → rest ≡ drop (cell_record_bytes * length cells) area → AreFirstCells l s area cells
    → SpellsArea l s area r

-- no area with these bytes behind as many cells spells records
abbrev pub NoneSpells : Layout → Sizes → List CellRecord → List ℕ → Type 0
NoneSpells l s cells rest =
    (area : List ℕ) (r : Records) → rest ≡ drop (cell_record_bytes * length cells) area → SpellsArea l s area r → ⊥
