-- A memory that is put together from its records. (Own.)
use Rattle.std.specs.Prelude.{◌≡◌, ℕ, ◌*◌, ◌≤◌, List, length}
use Rattle.im_types.specs.Types.{Waiter, MAX_CELLS, MAX_ELEMENTS, WINDOW, Window, Contents, IsMemory, CellRecord}
use Rattle.im_types.specs.Types.{NodeRecord, ShowLists, cells_shown}
use Rattle.im_arena.specs.Lists.{Shown}

-- the records of the cells, the requests that wait at each of them, and the windows
pub record Parts : Type 0 where
  pub cells : List CellRecord
  pub lists : List (List Waiter)
  pub windows : List Window

-- the memory that parts stand for
abbrev pub contents_shown : Parts → Contents
contents_shown p = record { cells = cells_shown p.cells p.lists; windows = p.windows }

-- the parts are complete: the lists stand in some nodes as the cells' records say, and together the parts are a memory
pub record AreComplete (p : Parts) : Type 0 where
  pub nodes : List NodeRecord
  pub chained : ShowLists nodes p.cells p.lists
  pub memory : IsMemory (length p.cells) (length p.windows) (contents_shown p)

-- there are records and lists for all cells, nodes for all entries, and at least one cell; cells and elements are
-- within their bounds
pub record HaveRoom (cells : List CellRecord) (room : ℕ) (arena : Shown) (windows : List Window) : Type 0 where
  pub records : room ≡ length cells
  pub lists : length arena.held.lists ≡ length cells
  pub nodes : arena.held.nodes ≡ WINDOW * length windows
  pub some_cell : 1 ≤ length cells
  pub few_cells : length cells ≤ MAX_CELLS
  pub few_elements : length windows ≤ MAX_ELEMENTS
