-- Cells that are full or not, and how a change changes them. (Own.)
use Rattle.std.specs.Prelude.{ℕ, Bool, true, false, List, [], ◌∷◌, slice_set, Some, None, Option}
use Rattle.im_types.specs.Types.{fill, Change, Fills, Same, Gone}

-- a cell: its value if it is full
abbrev pub cell_seen : Bool → ℕ → Option ℕ
cell_seen true value = Some value
cell_seen false value = None

-- each cell: its value if it is full
abbrev pub cells_seen : List Bool → List ℕ → List (Option ℕ)
cells_seen [] values = []
cells_seen (full ∷ fulls) [] = []
cells_seen (full ∷ fulls) (value ∷ values) = cell_seen full value ∷ cells_seen fulls values

-- the cells after a change
abbrev pub cells_written : List (Option ℕ) → Change → List (Option ℕ)
cells_written cells Same = cells
cells_written cells (Fills a v) = slice_set cells a (Some v)
cells_written cells (Gone base n) = fill cells base n None
