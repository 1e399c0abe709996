-- The places in an image. (Own.)
use Rattle.std.specs.Prelude.{ℕ, ◌+◌, ◌-◌, ◌*◌, ◌/◌, Bool, true, false, ◌&&◌, List, take, drop, if◌then◌else◌, nat_le}
use Rattle.std.specs.Prelude.{◌==◌, slice_range}
use Rattle.im_types.specs.declared.layout.Version.{TheVariants.One, TheVariants.Two, Version}
use Rattle.im_types.specs.{declared.sizes.Limits.Limits, Journal.Ring}
use Rattle.im_types.specs.declared.TheConstants.{MAX_ELEMENTS, MAX_SLOTS, MIN_SLOTS}

-- a version of the layout: the most entries that a window keeps, the most cells, and whether it has resets
pub record Layout : Type 0 where
  pub version : ℕ
  pub window : ℕ
  pub most_cells : ℕ
  pub resets : Bool

-- the first version of the layout
abbrev pub layout_1 : Layout
layout_1 = record { version = 1; window = 16; most_cells = 65536; resets = false }

-- the second version of the layout
abbrev pub layout_2 : Layout
layout_2 = record { version = 2; window = 64; most_cells = 1048576; resets = true }

-- the layout of a version
abbrev pub layout_of : Version → Layout
layout_of One = layout_1
layout_of Two = layout_2

-- the layout of an image with this number in its header: 1 stands for the first version, and each other number for the
-- second
abbrev pub layout_named : ℕ → Layout
layout_named number = if number == 1 then layout_1 else layout_2

-- the layout in use: that of each image that is made, served and written
abbrev pub layout_in_use : Layout
layout_in_use = layout_2

-- the numbers of cells, elements and journal slots of an image
pub record Sizes : Type 0 where
  pub cells : ℕ
  pub elements : ℕ
  pub slots : ℕ

-- limits, as sizes
abbrev pub sizes_of : Limits → Sizes
sizes_of limits = record { cells = limits.cells; elements = limits.elements; slots = limits.slots }

-- the sizes are in range
abbrev pub are_sizes : Layout → Sizes → Bool
are_sizes l s =
    nat_le 1 s.cells && nat_le s.cells l.most_cells && nat_le 1 s.elements && nat_le s.elements MAX_ELEMENTS
    && nat_le MIN_SLOTS s.slots && nat_le s.slots MAX_SLOTS

-- the bytes of a page, and of a header place
abbrev pub page_bytes : ℕ
page_bytes = 4096

-- the bytes of a cell record
abbrev pub cell_record_bytes : ℕ
cell_record_bytes = 32

-- the bytes of a waiter node
abbrev pub node_record_bytes : ℕ
node_record_bytes = 16

-- the bytes of a session record
abbrev pub session_record_bytes : Layout → ℕ
session_record_bytes l = 64 * l.window

-- each waiting request has a window entry, so there are as many nodes as entries
abbrev pub node_count : Layout → Sizes → ℕ
node_count l s = l.window * s.elements

-- the number of records of n bytes on a page; no record crosses a page
abbrev pub on_a_page : ℕ → ℕ
on_a_page size = page_bytes / size

-- the number of pages for a number of records of one size
abbrev pub pages_for : ℕ → ℕ → ℕ
pages_for size count = (count + on_a_page size - 1) / on_a_page size

-- the pages of cells; an area has these first, then those of nodes, then those of sessions
abbrev pub cell_pages : Sizes → ℕ
cell_pages s = pages_for cell_record_bytes s.cells

-- the pages of waiter nodes
abbrev pub node_pages : Layout → Sizes → ℕ
node_pages l s = pages_for node_record_bytes (node_count l s)

-- the pages of sessions
abbrev pub session_pages : Layout → Sizes → ℕ
session_pages l s = pages_for (session_record_bytes l) s.elements

-- the pages of an area
abbrev pub area_pages : Layout → Sizes → ℕ
area_pages l s = cell_pages s + node_pages l s + session_pages l s

-- the bytes of an area
abbrev pub area_bytes : Layout → Sizes → ℕ
area_bytes l s = page_bytes * area_pages l s

-- where a header begins: the two header places come first, then the two areas, then the journal
abbrev pub header_at : ℕ → ℕ
header_at number = page_bytes * number

-- where an area begins; the journal begins where a third one would
abbrev pub area_at : Layout → Sizes → ℕ → ℕ
area_at l s area = 2 * page_bytes + area_bytes l s * area

-- where the journal begins
abbrev pub journal_at : Layout → Sizes → ℕ
journal_at l s = area_at l s 2

-- the length of an image
abbrev pub image_length : Layout → Sizes → ℕ
image_length l s = journal_at l s + 64 * s.slots

-- the ring of the journal of an image
abbrev pub ring_of : Layout → Sizes → Ring
ring_of l s = record { base = journal_at l s; slots = s.slots }

-- the bytes of an area in a file
abbrev pub area_of : Layout → Sizes → ℕ → List ℕ → List ℕ
area_of l s area file = slice_range file (area_at l s area) (area_at l s area + area_bytes l s)

-- the pages of cells of an area
abbrev pub cell_part : Sizes → List ℕ → List ℕ
cell_part s area = take (page_bytes * cell_pages s) area

-- the pages of nodes of an area
abbrev pub node_part : Layout → Sizes → List ℕ → List ℕ
node_part l s area = take (page_bytes * node_pages l s) (drop (page_bytes * cell_pages s) area)

-- the pages of sessions of an area
abbrev pub session_part : Layout → Sizes → List ℕ → List ℕ
session_part l s area = drop (page_bytes * (cell_pages s + node_pages l s)) area

-- the record with number i in a row of records of n bytes
abbrev pub record_at : ℕ → List ℕ → ℕ → List ℕ
record_at n bytes i = slice_range bytes (n * i) (n * i + n)
