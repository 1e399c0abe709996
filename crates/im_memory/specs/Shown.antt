-- A memory as records, which the pages of an image spell. (Own.)
use Rattle.std.specs.Prelude.{ℕ, ◌<◌, List, [], ◌∷◌, Some, None, Option}
use Rattle.im_types.specs.Types.{NONE, Window, Cell, CellEmpty as Empty, CellWaiting as Waiting, CellFull as Full}
use Rattle.im_types.specs.Types.{CellClashed as Clashed, PresenceTag, CellRecord, TagEmpty, TagWaiting, TagFull}
use Rattle.im_types.specs.Types.{TagClashed, FreeCell, BlockCell, Records}
use Rattle.im_arena.specs.{declared.Ends.Ends, Lists.IsThreaded, Lists.Shown}
use Rattle.im_cell.specs.declared.Slot.{Slot}
use Rattle.im_memory.specs.MakesMemory.{MakesMemory}

-- the tag of a cell whose list has these ends
abbrev pub tag_shown : Cell → Option Ends → PresenceTag
tag_shown Empty ends = TagEmpty
tag_shown Waiting None = TagEmpty
tag_shown Waiting (Some ends) = TagWaiting ends.first ends.last
tag_shown (Full v) ends = TagFull v
tag_shown (Clashed v) ends = TagClashed v

-- both ends of a list are below a number of nodes
abbrev pub AreWithin : ℕ → Option Ends → Type 0
AreWithin nodes None = Unit {0}
AreWithin nodes (Some ends) = (ends.first < nodes) × (ends.last < nodes)

-- the record of a slot whose list has these ends; a free cell shows no hole
abbrev pub cell_record : Option Slot → Option Ends → CellRecord
cell_record None ends = FreeCell 0 NONE
cell_record (Some slot) ends = BlockCell slot.block (tag_shown slot.cell ends)

-- the record of each cell
abbrev pub cell_records : List (Option Slot) → List (Option Ends) → List CellRecord
cell_records [] ends = []
cell_records (slot ∷ slots) [] = cell_record slot None ∷ cell_records slots []
cell_records (slot ∷ slots) (e ∷ ends) = cell_record slot e ∷ cell_records slots ends

-- all records of a table, an arena and windows
abbrev pub records_of : List (Option Slot) → Shown → List Window → Records
records_of slots arena windows =
    record { cells = cell_records slots arena.links.ends; nodes = arena.links.records; windows = windows }

-- the links of this memory lead through its lists
pub record IsShownMemory (slots : List (Option Slot)) (arena : Shown) (windows : List Window) : Type 0 where
  pub makes : MakesMemory slots arena windows
  pub threaded : IsThreaded arena
