-- The changes of an operation to a table and an arena, and those of the requests that it then resumes. (Own.)
use Rattle.std.specs.Prelude.{◌≡◌, ℕ, ◌<◌, ◌≢◌, List, length, slice_get, Option}
use Rattle.{im_types.specs.Types.Op, im_cell.specs.declared.Slot.Slot, im_istore.specs.Joined.cells_of}
use Rattle.im_arena.specs.Lists.{list_at, node_at, Shown}
use Rattle.im_memory.specs.declared.acts.Resumed.{Resumed, TheVariants.Nobody, TheVariants.Readers, TheVariants.Taker}
use Rattle.im_memory.specs.{State.rows_of, Touched.IsOther, Touched.Places, Touched.touched_places}

-- a table and an arena change only at these cells and nodes
pub record ChangesAt (p : Places) (slots : List (Option Slot)) (arena : Shown) (slots2 : List (Option Slot))
    (arena2 : Shown) : Type 0 where
  pub cells : (a : ℕ) → IsOther p.cells a → slice_get slots2 a ≡ slice_get slots a
  pub ends : (a : ℕ) → IsOther p.cells a → slice_get arena2.links.ends a ≡ slice_get arena.links.ends a
  pub nodes : (n : ℕ) → IsOther p.nodes n → slice_get arena2.links.records n ≡ slice_get arena.links.records n

-- the cells and nodes whose records an operation on a table and an arena may change
abbrev pub places_in : List (Option Slot) → Shown → Op → Places
places_in slots arena op = touched_places (cells_of slots arena) (rows_of slots arena) arena.links.spare op

-- a node is at no place of a list
abbrev pub IsAway : Shown → ℕ → ℕ → Type 0
IsAway arena list n = (i : ℕ) → i < length (list_at arena.held list) → n ≢ node_at arena.links list i

-- the cell and the nodes of the readers that are still to be resumed are among these
abbrev pub AreAmong : Places → Resumed → Shown → Type 0
AreAmong p Nobody arena = Unit {0}
AreAmong p (Taker who value) arena = Unit {0}
AreAmong p (Readers a value) arena =
    ((b : ℕ) → IsOther p.cells b → b ≢ a) × ((n : ℕ) → IsOther p.nodes n → IsAway arena a n)

-- the arena after the readers of a cell are taken off its list: other lists and nodes stay
pub record IsDrained (a : ℕ) (arena arena2 : Shown) : Type 0 where
  pub ends : (b : ℕ) → b ≢ a → slice_get arena2.links.ends b ≡ slice_get arena.links.ends b
  pub nodes : (n : ℕ) → IsAway arena a n → slice_get arena2.links.records n ≡ slice_get arena.links.records n

-- the arena after waiting requests are resumed
abbrev pub LeavesOthers : Resumed → Shown → Shown → Type 0
LeavesOthers Nobody arena arena2 = arena2 ≡ arena
LeavesOthers (Taker who value) arena arena2 = arena2 ≡ arena
LeavesOthers (Readers a value) arena arena2 = IsDrained a arena arena2
