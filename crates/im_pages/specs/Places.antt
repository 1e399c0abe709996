-- The page of an area that shows a record, and when the records of two memories agree on a page. (Own.)
use Rattle.std.specs.Prelude.{◌≡◌, ℕ, ◌+◌, ◌*◌, ◌/◌, slice_get}
use Rattle.im_types.specs.Types.{layout_in_use, cell_record_bytes, node_record_bytes, session_record_bytes, on_a_page}
use Rattle.im_types.specs.Types.{pages_for, Records}

-- the page that shows the cell at an address
abbrev pub page_of_cell : ℕ → ℕ
page_of_cell a = a / on_a_page cell_record_bytes

-- the page that shows a waiter node, in an area with this number of cells
abbrev pub page_of_node : ℕ → ℕ → ℕ
page_of_node cells n = pages_for cell_record_bytes cells + n / on_a_page node_record_bytes

-- the page that shows an element's session, in an area with these numbers of cells and elements
abbrev pub page_of_session : ℕ → ℕ → ℕ → ℕ
page_of_session cells elements element =
    pages_for cell_record_bytes cells + pages_for node_record_bytes (layout_in_use.window * elements)
    + element / on_a_page (session_record_bytes layout_in_use)

-- the records of two memories, with these numbers of cells and elements, agree on all that a page shows
pub record AgreeOnPage (cells elements : ℕ) (old new : Records) (page : ℕ) : Type 0 where
  pub cells_agree : (a : ℕ) → page_of_cell a ≡ page → slice_get new.cells a ≡ slice_get old.cells a
  pub nodes_agree : (n : ℕ) → page_of_node cells n ≡ page → slice_get new.nodes n ≡ slice_get old.nodes n
  pub windows_agree : (e : ℕ) → page_of_session cells elements e ≡ page
      → slice_get new.windows e ≡ slice_get old.windows e
