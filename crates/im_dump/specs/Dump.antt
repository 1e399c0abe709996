-- The text of a dump: the sizes and the count of an image, and its memory, line by line. (Own.)
use Rattle.std.specs.Prelude.{ℕ, ◌+◌, ◌&&◌, List, [], ◌∷◌, ◌++◌, length, if◌then◌else◌, ◌==◌, slice_get, Some, None}
use Rattle.std.specs.Prelude.{codes, decimal, Option}
use Rattle.im_types.specs.Types.{Waiter, Block, Kept, Window, Contents, held_at, waiters_at, block_at, presence_in}
use Rattle.im_types.specs.Types.{Cell, CellEmpty as IsEmpty, CellWaiting as IsWaiting, CellFull as IsFull}
use Rattle.im_types.specs.Types.{CellClashed as IsClashed, Sizes}
use Rattle.im_text.specs.Texts.{entry_text, kind_text, line_feed, op_text, texts_below}

-- ---- the head

-- the first line; its number is the version of such texts
abbrev pub first_line : List ℕ
first_line = codes "imem dump 1" ++ line_feed

-- the sizes, and the count of commands
abbrev pub head_lines : Sizes → ℕ → List ℕ
head_lines s count =
    codes "cells " ++ decimal s.cells ++ line_feed ++ codes "elements " ++ decimal s.elements ++ line_feed
    ++ codes "slots " ++ decimal s.slots ++ line_feed ++ codes "count " ++ decimal count ++ line_feed

-- ---- cells

-- a block, at its first cell
abbrev pub begun_line : ℕ → Option Block → List ℕ
begun_line a None = []
begun_line a (Some b) =
    if b.base == a
    then codes "cell " ++ decimal a ++ codes " block " ++ kind_text b.kind ++ codes " " ++ decimal b.length ++ line_feed
    else []

-- a request that waits at a cell
abbrev pub waits_line : ℕ → Waiter → List ℕ
waits_line a who =
    codes "cell " ++ decimal a ++ codes " waits " ++ decimal who.element ++ codes "." ++ decimal who.number ++ line_feed

-- the requests that wait at a cell, in their order
unfoldable pub waits_lines : ℕ → List Waiter → List ℕ
waits_lines a [] = []
waits_lines a (who ∷ others) = waits_line a who ++ waits_lines a others

-- what a cell has: nothing for an empty one, and for one in no block
abbrev pub state_lines : ℕ → Option Cell → List Waiter → List ℕ
state_lines a None waiters = []
state_lines a (Some IsEmpty) waiters = []
state_lines a (Some IsWaiting) waiters = waits_lines a waiters
state_lines a (Some (IsFull v)) waiters = codes "cell " ++ decimal a ++ codes " full " ++ decimal v ++ line_feed
state_lines a (Some (IsClashed v)) waiters = codes "cell " ++ decimal a ++ codes " clashed " ++ decimal v ++ line_feed

-- the lines of the cell at an address
abbrev pub cell_lines : Contents → ℕ → List ℕ
cell_lines m a =
    begun_line a (block_at m.cells a) ++ state_lines a (presence_in (held_at m.cells a)) (waiters_at m.cells a)

-- ---- windows

-- what is kept under an element's number
abbrev pub kept_entry : ℕ → ℕ → Option Kept → List ℕ
kept_entry element number None = []
kept_entry element number (Some k) =
    codes "entry " ++ decimal element ++ codes "." ++ decimal number ++ codes " " ++ op_text k.op ++ codes " -> "
    ++ entry_text k.entry ++ line_feed

-- the base of an element's window
abbrev pub base_line : ℕ → ℕ → List ℕ
base_line element base = codes "element " ++ decimal element ++ codes " base " ++ decimal base ++ line_feed

-- the entries of a window, by number
abbrev pub kept_lines : ℕ → Window → List ℕ
kept_lines element w = texts_below (λ i. kept_entry element (w.base + i) (slice_get w.kept i)) (length w.kept)

-- an element and its entries; nothing if it has asked nothing yet
abbrev pub window_lines : ℕ → Option Window → List ℕ
window_lines element None = []
window_lines element (Some w) =
    if (w.base == 1) && (length w.kept == 0) then [] else base_line element w.base ++ kept_lines element w

-- ---- the whole

-- the last line
abbrev pub last_line : List ℕ
last_line = codes "end" ++ line_feed

-- all cells, by address
abbrev pub all_cells : Contents → List ℕ
all_cells m = texts_below (cell_lines m) (length m.cells)

-- all elements, by number
abbrev pub all_windows : Contents → List ℕ
all_windows m = texts_below (λ element. window_lines element (slice_get m.windows element)) (length m.windows)

-- the dump of a memory with this count of commands, in an image of these sizes
unfoldable pub dump_text : Sizes → ℕ → Contents → List ℕ
dump_text s count m = first_line ++ head_lines s count ++ all_cells m ++ all_windows m ++ last_line
