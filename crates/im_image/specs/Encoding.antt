-- One page of an area, as it shows the records of a memory. (Own.)
use Rattle.std.specs.Prelude.{◌≡◌, ℕ, ◌+◌, ◌*◌, ◌<◌, List, length, slice_index_or}
use Rattle.im_types.specs.Types.{NONE, new_window, layout_in_use, Sizes, page_bytes, cell_record_bytes}
use Rattle.im_types.specs.Types.{node_record_bytes, session_record_bytes, node_count, on_a_page, cell_pages, node_pages}
use Rattle.im_types.specs.Types.{session_pages, area_pages, area_bytes, record_at, FreeCell, FreeNode, cell_bytes}
use Rattle.im_types.specs.Types.{node_bytes, FitsCell, FitsNode, session_bytes, FitsWindow, Records}
use Rattle.im_records.specs.Paging.{IsPageOf}

-- page i of a row has its records, each within its bounds
pub record SpellsPage {X : Type 0} (size per : ℕ) (spelled : X → List ℕ) (Fits : X → Type 0) (none : X) (row : List X)
    (i : ℕ) (page : List ℕ) : Type 0 where
  pub is_page : IsPageOf size per spelled row i page
  pub fits : (k : ℕ) → k < per → per * i + k < length row → Fits (slice_index_or row (per * i + k) none)

-- page i of the cells
abbrev pub SpellsCells : Sizes → Records → ℕ → List ℕ → Type 0
SpellsCells s r i page =
    SpellsPage cell_record_bytes (on_a_page cell_record_bytes) cell_bytes
    (FitsCell s.cells (node_count layout_in_use s))
    (FreeCell 0 NONE) r.cells i page

-- page i of the waiter nodes
abbrev pub SpellsNodes : Sizes → Records → ℕ → List ℕ → Type 0
SpellsNodes s r i page =
    SpellsPage node_record_bytes (on_a_page node_record_bytes) node_bytes (FitsNode (node_count layout_in_use s))
    (FreeNode NONE) r.nodes i page

-- page i of the sessions
abbrev pub SpellsSessions : Records → ℕ → List ℕ → Type 0
SpellsSessions r i page =
    SpellsPage (session_record_bytes layout_in_use) (on_a_page (session_record_bytes layout_in_use))
    (session_bytes layout_in_use) (FitsWindow layout_in_use) new_window r.windows i page

-- page i of an area: first come the pages of cells, then those of waiter nodes, then those of sessions
pub record IsAreaPage (s : Sizes) (r : Records) (i : ℕ) (page : List ℕ) : Type 0 where
  pub cells : i < cell_pages s → SpellsCells s r i page
  pub nodes : (n : ℕ) → i ≡ cell_pages s + n → n < node_pages layout_in_use s → SpellsNodes s r n page
  pub sessions : (n : ℕ) → i ≡ cell_pages s + node_pages layout_in_use s + n → n < session_pages layout_in_use s
      → SpellsSessions r n page

-- these are the pages of an area
abbrev pub AreAreaPages : Sizes → Records → (ℕ → List ℕ) → Type 0
AreAreaPages s r page = (i : ℕ) → i < area_pages layout_in_use s → IsAreaPage s r i (page i)

-- the area has these pages and nothing else
pub record HasAreaPages (s : Sizes) (r : Records) (area : List ℕ) : Type 0 where
  pub size : length area ≡ area_bytes layout_in_use s
  pub pages : AreAreaPages s r (record_at page_bytes area)

-- the numbers of records of each kind are those of these sizes
pub record AreCounted (s : Sizes) (r : Records) : Type 0 where
  pub cells : length r.cells ≡ s.cells
  pub nodes : length r.nodes ≡ node_count layout_in_use s
  pub windows : length r.windows ≡ s.elements

-- bytes that are this page of the one memory's records are the same page of the other's
pub record SameOn (s : Sizes) (old new : Records) (page : ℕ) : Type 0 where
  pub to : (bytes : List ℕ) → IsAreaPage s old page bytes → IsAreaPage s new page bytes
  pub from : (bytes : List ℕ) → IsAreaPage s new page bytes → IsAreaPage s old page bytes
