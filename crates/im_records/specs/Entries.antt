-- The entries of a window, in the array where they lie. (Own.)
use Rattle.std.specs.Prelude.{◌≡◌, ℕ, ◌+◌, ◌≤◌, List, slice_get, Some}
use Rattle.im_types.specs.Types.{Kept, WINDOW, LAST, Window, next_number, Layout, FitsPlace, session_bytes, FitsWindow}
use Rattle.im_records.specs.Rows.{Spells}

-- the numbers of each entry fit their fields
abbrev pub FitEntries : List Kept → Type 0
FitEntries kept = (i : ℕ) (k : Kept) → slice_get kept i ≡ Some k → FitsPlace (Some k)

-- the first `count` entries of an array are the entries of a window
pub record AreEntries (count : ℕ) (entries : List Kept) : Type 0 where
  pub few : count ≤ WINDOW
  pub fit : FitEntries entries

-- bytes spell the session record of a window that is within the bounds of a layout
abbrev pub SpellsSession : Layout → List ℕ → Window → Type 0
SpellsSession l bytes w = Spells (session_bytes l) (FitsWindow l) bytes w

-- the base and the numbers of a window are in their ranges
pub record AreNumbers (w : Window) : Type 0 where
  pub from : 1 ≤ w.base
  pub to : w.base ≤ LAST + 1
  pub numbers : next_number w ≤ LAST + 1
