-- The records of cells and waiter nodes that an access of one cell leaves. (Own.)
use Rattle.std.specs.Prelude.{◌≡◌, ℕ, ◌≢◌, List, slice_get, Err, Option}
use Rattle.im_types.specs.Types.{Entry, Kind, Reply, Waiting, Answered}
use Rattle.im_arena.specs.Lists.{IsPushed, Shown}
use Rattle.im_cell.specs.{declared.Slot.Slot, Slots.slot_at}
use Rattle.im_istore.specs.Access.{access_in}

-- the links that a request leaves: if it waits, all but those that put it at the end of its cell's list; else all
abbrev pub LeavesLinks : Entry → ℕ → Shown → Shown → Type 0
LeavesLinks Waiting a old new = IsPushed a old new
LeavesLinks (Answered reply) a old new = new ≡ old

-- the cells that an access of the cell at an address leaves: the other cells, and all cells if the access is refused,
-- because the address lies in no block or in one of the other kind
pub record LeavesCells (kind : Kind) (a : ℕ) (old new : List (Option Slot)) : Type 0 where
  pub others : (b : ℕ) → b ≢ a → slice_get new b ≡ slice_get old b
  pub refused : (reply : Reply) → access_in kind (slot_at old a) ≡ Err reply → new ≡ old

-- the parts of a table and an arena that a request leaves, if it may wait at the cell
pub record LeavesRest (kind : Kind) (a : ℕ) (entry : Entry) (slots slots2 : List (Option Slot))
    (arena arena2 : Shown) : Type 0 where
  pub cells : LeavesCells kind a slots slots2
  pub nodes : arena2.held.nodes ≡ arena.held.nodes
  pub links : LeavesLinks entry a arena arena2
