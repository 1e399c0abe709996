-- The pages of an area, one by one: which record is at which place of which page. (Own.)
use Rattle.std.specs.Prelude.{◌≡◌, ℕ, zero, suc, ◌+◌, ◌*◌, ◌<◌, List, [], ◌++◌, length, slice_get, slice_index_or, Some}
use Rattle.std.specs.Prelude.{None, Option}
use Rattle.im_types.specs.Types.{NONE, new_window, layout_in_use, Sizes, page_bytes, cell_record_bytes}
use Rattle.im_types.specs.Types.{node_record_bytes, session_record_bytes, node_count, on_a_page, cell_pages, node_pages}
use Rattle.im_types.specs.Types.{session_pages, record_at, zeros, FreeCell, FreeNode, cell_bytes, node_bytes, FitsCell}
use Rattle.im_types.specs.Types.{FitsNode, session_bytes, FitsWindow, Records}

-- the bytes of a record, or zeros for `None`
abbrev pub bytes_or_zeros : {X : Type 0} → ℕ → (X → List ℕ) → Option X → List ℕ
bytes_or_zeros size spelled None = zeros size
bytes_or_zeros size spelled (Some x) = spelled x

-- page i of a row of records: place k has record number per * i + k, or zeros if there is none
pub record IsPageOf {X : Type 0} (size per : ℕ) (spelled : X → List ℕ) (row : List X) (i : ℕ)
    (page : List ℕ) : Type 0 where
  pub long : length page ≡ page_bytes
  pub each : (k : ℕ) → k < per → record_at size page k ≡ bytes_or_zeros size spelled (slice_get row (per * i + k))

-- page i of the cells, with as many cells as fit a page
abbrev pub IsCellPage : Records → ℕ → List ℕ → Type 0
IsCellPage r i page = IsPageOf cell_record_bytes (on_a_page cell_record_bytes) cell_bytes r.cells i page

-- page i of the waiter nodes
abbrev pub IsNodePage : Records → ℕ → List ℕ → Type 0
IsNodePage r i page = IsPageOf node_record_bytes (on_a_page node_record_bytes) node_bytes r.nodes i page

-- page i of the sessions
abbrev pub IsSessionPage : Records → ℕ → List ℕ → Type 0
IsSessionPage r i page =
    IsPageOf (session_record_bytes layout_in_use) (on_a_page (session_record_bytes layout_in_use))
    (session_bytes layout_in_use) r.windows i page

-- these are the pages of an area, by their numbers: those of cells, of waiter nodes and of sessions
pub record ArePages (s : Sizes) (r : Records) (page : ℕ → List ℕ) : Type 0 where
  pub cells : (i : ℕ) → i < cell_pages s → IsCellPage r i (page i)
  pub nodes : (i : ℕ) → i < node_pages layout_in_use s → IsNodePage r i (page (cell_pages s + i))
  pub sessions : (i : ℕ) → i < session_pages layout_in_use s
      → IsSessionPage r i (page (cell_pages s + node_pages layout_in_use s + i))

-- the number of records of each kind is right, and each is within its bounds
pub record FitRecords (s : Sizes) (r : Records) : Type 0 where
  pub many_cells : length r.cells ≡ s.cells
  pub cells : (i : ℕ) → i < s.cells → FitsCell s.cells (node_count layout_in_use s)
      (slice_index_or r.cells i (FreeCell 0 NONE))
  pub many_nodes : length r.nodes ≡ node_count layout_in_use s
  pub nodes : (i : ℕ) → i < node_count layout_in_use s
      → FitsNode (node_count layout_in_use s) (slice_index_or r.nodes i (FreeNode NONE))
  pub many_windows : length r.windows ≡ s.elements
  pub windows : (i : ℕ) → i < s.elements → FitsWindow layout_in_use (slice_index_or r.windows i new_window)

-- the first n pages, joined
abbrev pub joined : ℕ → (ℕ → List ℕ) → List ℕ
joined zero page = []
joined (suc n) page = joined n page ++ page n
