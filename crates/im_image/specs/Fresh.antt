-- A new image: its memory has no block and no entry. (Own.)
use Rattle.std.specs.Prelude.{ℕ, zero, suc, ◌+◌, ◌-◌, ◌*◌, List, [], ◌∷◌, ◌++◌}
use Rattle.im_types.specs.Types.{NONE, new_window, layout_in_use, Sizes, page_bytes, cell_record_bytes}
use Rattle.im_types.specs.Types.{node_record_bytes, session_record_bytes, node_count, cell_pages, node_pages}
use Rattle.im_types.specs.Types.{session_pages, area_bytes, zeros, Header, header_body, CellRecord, NodeRecord}
use Rattle.im_types.specs.Types.{FreeCell, FreeNode, cell_bytes, node_bytes, session_bytes}

-- these bytes, repeated
abbrev pub repeated : ℕ → List ℕ → List ℕ
repeated zero bytes = []
repeated (suc n) bytes = bytes ++ repeated n bytes

-- a new free cell
abbrev pub new_cell_record : CellRecord
new_cell_record = FreeCell 0 NONE

-- a new free node
abbrev pub new_node_record : NodeRecord
new_node_record = FreeNode NONE

-- this many pages, which begin with a record repeated
abbrev pub new_row : ℕ → ℕ → List ℕ → ℕ → List ℕ
new_row pages size record_bytes count = repeated count record_bytes ++ zeros (page_bytes * pages - size * count)

-- the pages of a new area
abbrev pub new_area : Sizes → List ℕ
new_area s =
    new_row (cell_pages s) cell_record_bytes (cell_bytes new_cell_record) s.cells
    ++ new_row (node_pages layout_in_use s) node_record_bytes (node_bytes new_node_record) (node_count layout_in_use s)
    ++ new_row (session_pages layout_in_use s) (session_record_bytes layout_in_use)
    (session_bytes layout_in_use new_window) s.elements

-- the header of a new image
abbrev pub new_header : Sizes → Header
new_header s = record { version = layout_in_use.version; area = 0; generation = 1; count = 0; sizes = s }

-- a new image, with this byte as the gate of its first header: that header, the second one closed, the area, and zeros
-- for the other area and the journal
abbrev pub new_image : ℕ → Sizes → List ℕ
new_image gate s =
    (gate ∷ header_body (new_header s)) ++ zeros (2 * page_bytes - 64) ++ new_area s
    ++ zeros (area_bytes layout_in_use s + 64 * s.slots)
