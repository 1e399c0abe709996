-- The invariant of a table, an arena and windows that make a memory. (Own.)
use Rattle.std.specs.Prelude.{◌≡◌, ◌*◌, ◌≤◌, List, length, Option}
use Rattle.im_types.specs.Types.{MAX_CELLS, MAX_ELEMENTS, WINDOW, Window, Contents, IsMemory}
use Rattle.{im_arena.specs.Lists.Shown, im_cell.specs.declared.Slot.Slot}
use Rattle.im_istore.specs.{Agreement.Agree, Joined.cells_of}

-- the memory that a table, an arena and windows stand for
abbrev pub contents_of : List (Option Slot) → Shown → List Window → Contents
contents_of slots arena windows = record { cells = cells_of slots arena; windows = windows }

-- a table, an arena and windows show a memory
pub record MakesMemory (slots : List (Option Slot)) (arena : Shown) (windows : List Window) : Type 0 where
  -- each cell has a list, and waits if and only if that list has a waiter
  pub agree : Agree slots arena
  -- together they are a memory with their own lengths
  pub memory : IsMemory (length slots) (length windows) (contents_of slots arena windows)
  -- there is at least one cell
  pub some_cell : 1 ≤ length slots
  -- there are no more cells than a memory may have
  pub few_cells : length slots ≤ MAX_CELLS
  -- there are no more elements than a memory may have
  pub few_elements : length windows ≤ MAX_ELEMENTS
  -- there is a node for each entry that windows may keep
  pub nodes : arena.held.nodes ≡ WINDOW * length windows
