-- A cell, and the numbers of a memory, for C.
use Rattle.std.specs.Prelude.{◌≡◌, ℕ, zero, suc, ◌+◌, ◌-◌, min, Bool, true, false, ◌&&◌, List, [], ◌∷◌, ◌++◌, length}
use Rattle.std.specs.Prelude.{drop, if◌then◌else◌, ◌==◌, Some, None, Ok, Err, Option, Result}
use Rattle.im_types.specs.Types.{Block, Refusal, WINDOW, Window, Contents, held_at, kept_for, block_at, presence_in}
use Rattle.im_types.specs.Types.{Cell, CellEmpty as Empty, CellWaiting as Waiting, CellFull as Full}
use Rattle.im_types.specs.Types.{CellClashed as Clashed, bounds, kind_code}
use Rattle.{im_memory.specs.Confirming.does_wait, im_listed.specs.Image.ImageState}
use Rattle.im_report.specs.Figures.{count_below, queue_figures, window_figures}
use Rattle.im_c.specs.declared.seen.{LtFigures.LtFigures, LtPresence.LtPresence}

-- ---- cells

-- the number of a cell's state
abbrev pub state_code : Cell → ℕ
state_code Empty = 1
state_code Waiting = 2
state_code (Full v) = 3
state_code (Clashed v) = 4

-- the value of a cell, or 0
abbrev pub state_value : Cell → ℕ
state_value Empty = 0
state_value Waiting = 0
state_value (Full v) = v
state_value (Clashed v) = v

-- no cell
abbrev pub no_cell : LtPresence
no_cell = record { kind = 0; state = 0; base = 0; length = 0; value = 0 }

-- a cell and its block
abbrev pub cell_told : Option Block → Option Cell → LtPresence
cell_told None cell = no_cell
cell_told (Some b) None = no_cell
cell_told (Some b) (Some cell) = record {
  kind = kind_code b.kind;
  state = state_code cell;
  base = b.base;
  length = b.length;
  value = state_value cell;
}

-- the cell at an address
abbrev pub cell_told_at : Contents → ℕ → LtPresence
cell_told_at m a = cell_told (block_at m.cells a) (presence_in (held_at m.cells a))

-- so many cells, from an address on
unfoldable pub cells_told : Contents → ℕ → ℕ → List LtPresence
cells_told m from zero = []
cells_told m from (suc n) = cells_told m from n ++ cell_told_at m (from + n) ∷ []

-- The cells from an address on are told, as many as there are and as there are places.
pub record TellsCells (m : Contents) (from : ℕ) (old : List LtPresence) (count : ℕ)
    (new : List LtPresence) : Type 0 where
  pub few : count ≡ min (length m.cells - from) (length old)
  pub told : new ≡ cells_told m from count ++ drop count old

-- the same of an image; none after a lost step
pub record ShowsCells (i : ImageState) (from : ℕ) (old : List LtPresence) (count : ℕ)
    (new : List LtPresence) : Type 0 where
  pub lost : i.lost ≡ true → (count ≡ 0) × (new ≡ old)
  pub alive : i.lost ≡ false → TellsCells i.engine.memory from old count new

-- ---- numbers

-- whether an address is counted: 0 the base of a block, else the number of its cell's state
abbrev pub is_of_sort : ℕ → ℕ → Option Block → Option Cell → Bool
is_of_sort sort a None cell = false
is_of_sort sort a (Some b) cell = if sort == 0 then b.base == a else (cell_told (Some b) cell).state == sort

-- how many addresses are counted
abbrev pub many : Contents → ℕ → ℕ
many m sort =
    count_below (λ a. is_of_sort sort a (block_at m.cells a) (presence_in (held_at m.cells a))) (length m.cells)

-- whether a window with these bounds is full, and its oldest entry waits
abbrev pub asks_nothing_in : List Window → ℕ → Result (ℕ × ℕ) Refusal → Bool
asks_nothing_in windows e (Ok b) =
    (b.1 - b.0 == WINDOW) && does_wait (kept_for windows (record { element = e; number = b.0 }))
asks_nothing_in windows e (Err refusal) = false

-- whether an element can't ask before its oldest entry is answered
abbrev pub asks_nothing : List Window → ℕ → Bool
asks_nothing windows e = asks_nothing_in windows e (bounds windows e)

-- the numbers of a memory
abbrev pub stat_told : Contents → LtFigures
stat_told m = record {
  blocks = many m 0;
  empty = many m 1;
  awaited = many m 2;
  full = many m 3;
  clashed = many m 4;
  kept = (window_figures m).kept;
  waiting = (queue_figures m).requests;
  full_windows = (window_figures m).full;
  stuck = count_below (asks_nothing m.windows) (length m.windows);
}

-- all numbers 0
abbrev pub no_stat : LtFigures
no_stat = record {
  blocks = 0;
  empty = 0;
  awaited = 0;
  full = 0;
  clashed = 0;
  kept = 0;
  waiting = 0;
  full_windows = 0;
  stuck = 0;
}

-- the numbers of an image; all 0 after a lost step
pub record ShowsStat (i : ImageState) (out : LtFigures) : Type 0 where
  pub lost : i.lost ≡ true → out ≡ no_stat
  pub alive : i.lost ≡ false → out ≡ stat_told i.engine.memory
