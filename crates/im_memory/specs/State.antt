-- A memory as contracts see it. (Own.)
use Rattle.std.specs.Prelude.{ℕ, ◌*◌, List, [], replicate, Option}
use Rattle.im_types.specs.Types.{WINDOW, NONE, Window, Contents, new_window, FreeCell, Records}
use Rattle.{im_arena.specs.Lists.free_record, im_arena.specs.Lists.Shown, im_cell.specs.declared.Slot.Slot}
use Rattle.im_memory.specs.{MakesMemory.contents_of, Shown.records_of}

-- the contents of a memory, the records that show it, and the waiter node that the next waiting request takes (NONE if
-- no node is free)
pub record MemoryState : Type 0 where
  pub contents : Contents
  pub records : Records
  pub spare : ℕ

-- the memory state that a table, an arena and windows make
abbrev pub memory_state : List (Option Slot) → Shown → List Window → MemoryState
memory_state slots arena windows = record {
  contents = contents_of slots arena windows;
  records = records_of slots arena windows;
  spare = arena.links.spare;
}

-- the records of a memory with no block and no entry
abbrev pub empty_records : ℕ → ℕ → Records
empty_records cells elements = record {
  cells = replicate cells (FreeCell 0 NONE);
  nodes = replicate (WINDOW * elements) free_record;
  windows = replicate elements new_window;
}

-- the records of cells and nodes that a table and an arena make
abbrev pub rows_of : List (Option Slot) → Shown → Records
rows_of slots arena = records_of slots arena []
