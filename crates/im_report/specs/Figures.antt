-- The numbers that are counted of a memory. (Own.)
use Rattle.std.specs.Prelude.{ℕ, zero, suc, ◌+◌, max, Bool, false, not, ◌&&◌, List, length, is_none, if◌then◌else◌}
use Rattle.std.specs.Prelude.{nat_lt, ◌==◌, slice_get, Some, None, Option}
use Rattle.im_types.specs.Types.{Kind, Block, WINDOW, Held, Window, Contents, held_at, waiters_at, block_at}
use Rattle.im_types.specs.Types.{presence_in, Cell, CellEmpty as Empty, CellWaiting as Waiting, CellFull as Full}
use Rattle.im_types.specs.Types.{CellClashed as Clashed, same_kind}
use Rattle.im_report.specs.declared.figures.{FreeFigures.FreeFigures, KindFigures.KindFigures}
use Rattle.im_report.specs.declared.figures.{QueueFigures.QueueFigures, WindowFigures.WindowFigures}

-- ---- sums

-- the sum of the values at 0, at 1, and so on below n
unfoldable pub sum_below : (ℕ → ℕ) → ℕ → ℕ
sum_below f zero = 0
sum_below f (suc n) = sum_below f n + f n

-- how many numbers below n pass a test
abbrev pub count_below : (ℕ → Bool) → ℕ → ℕ
count_below test = sum_below (λ i. if test i then 1 else 0)

-- the greatest of the values below n
unfoldable pub most_below : (ℕ → ℕ) → ℕ → ℕ
most_below f zero = 0
most_below f (suc n) = max (most_below f n) (f n)

-- the least number below n with the greatest value
unfoldable pub first_most : (ℕ → ℕ) → ℕ → ℕ
first_most f zero = 0
first_most f (suc n) = if nat_lt (most_below f n) (f n) then n else first_most f n

-- ---- cells

-- the number of a presence tag
abbrev pub cell_tag : Cell → ℕ
cell_tag Empty = 0
cell_tag Waiting = 1
cell_tag (Full v) = 2
cell_tag (Clashed v) = 3

-- whether a cell of a block is of this kind and has the tag with this number
abbrev pub is_tagged : Kind → ℕ → Option Block → Option Cell → Bool
is_tagged kind tag None cell = false
is_tagged kind tag (Some b) None = false
is_tagged kind tag (Some b) (Some cell) = same_kind kind b.kind && (cell_tag cell == tag)

-- how many cells of this kind have the tag with this number
abbrev pub cells_tagged : Contents → Kind → ℕ → ℕ
cells_tagged m kind tag =
    count_below (λ a. is_tagged kind tag (block_at m.cells a) (presence_in (held_at m.cells a))) (length m.cells)

-- whether a block of this kind begins at an address
abbrev pub begins_at : Kind → ℕ → Option Block → Bool
begins_at kind a None = false
begins_at kind a (Some b) = same_kind kind b.kind && (b.base == a)

-- the numbers of one kind
abbrev pub kind_figures : Contents → Kind → KindFigures
kind_figures m kind = record {
  blocks = count_below (λ a. begins_at kind a (block_at m.cells a)) (length m.cells);
  empty = cells_tagged m kind 0;
  waiting = cells_tagged m kind 1;
  full = cells_tagged m kind 2;
  clashed = cells_tagged m kind 3;
}

-- ---- holes

-- one more if a cell is free, and else none
abbrev pub row_after : Bool → ℕ → ℕ
row_after free row = if free then suc row else 0

-- how many cells in a row, right below an address, lie in no block
unfoldable pub free_row : List (Option Held) → ℕ → ℕ
free_row cells zero = 0
free_row cells (suc a) = row_after (is_none (block_at cells a)) (free_row cells a)

-- the numbers of the cells in no block; a hole begins at a cell where such a row is one cell long
abbrev pub free_figures : Contents → FreeFigures
free_figures m = record {
  cells = count_below (λ a. is_none (block_at m.cells a)) (length m.cells);
  holes = count_below (λ a. free_row m.cells (suc a) == 1) (length m.cells);
  longest = most_below (λ a. free_row m.cells (suc a)) (length m.cells);
}

-- ---- requests that wait, and windows

-- how many requests wait at an address
abbrev pub queue_at : Contents → ℕ → ℕ
queue_at m a = length (waiters_at m.cells a)

-- the numbers of the requests that wait
abbrev pub queue_figures : Contents → QueueFigures
queue_figures m = record {
  requests = sum_below (queue_at m) (length m.cells);
  longest = most_below (queue_at m) (length m.cells);
  at = first_most (queue_at m) (length m.cells);
}

-- how many entries a window keeps
abbrev pub kept_in : Option Window → ℕ
kept_in None = 0
kept_in (Some w) = length w.kept

-- whether the element of a window has asked anything
abbrev pub has_asked : Option Window → Bool
has_asked None = false
has_asked (Some w) = not ((w.base == 1) && (length w.kept == 0))

-- the numbers of the windows
abbrev pub window_figures : Contents → WindowFigures
window_figures m = record {
  asked = count_below (λ k. has_asked (slice_get m.windows k)) (length m.windows);
  kept = sum_below (λ k. kept_in (slice_get m.windows k)) (length m.windows);
  full = count_below (λ k. kept_in (slice_get m.windows k) == WINDOW) (length m.windows);
}
