-- The contents of a memory: cells with presence states, and a window of kept replies for each element. (Presence states
-- and deferred requests: Arvind, Nikhil, Pingali, TOPLAS 11(4), 1989. Windows: own.)
use Rattle.std.specs.Prelude.{◌≡◌, ℕ, ◌+◌, ◌-◌, ◌<◌, ◌≤◌, List, [], length, replicate, if◌then◌else◌, nat_lt, slice_get}
use Rattle.std.specs.Prelude.{slice_index_or, Some, None, Option, option_map, option_and_then}
use Rattle.im_types.specs.declared.operations.{Block.Block, Kept.Kept, Waiter.Waiter}
use Rattle.im_types.specs.declared.operations.Kind.{Kind, TheVariants.I, TheVariants.M}

-- the state of a cell: empty, with its deferred requests in their order; full; or full and then written again. An empty
-- cell with deferred requests is a waiting cell.
pub data CellState : Type 0 where
  Empty : List Waiter → CellState
  Full : ℕ → CellState
  Clashed : ℕ → CellState

-- a cell of a block, with its block
pub record Held : Type 0 where
  pub block : Block
  pub state : CellState

-- an element's entries, numbered from base on
pub record Window : Type 0 where
  pub base : ℕ
  pub kept : List Kept

-- the cells by address, None for a cell in no block; and the windows by element
pub record Contents : Type 0 where
  pub cells : List (Option Held)
  pub windows : List Window

-- the window of an element that has sent no request yet
abbrev pub new_window : Window
new_window = record { base = 1; kept = [] }

-- a memory with no block and no entry
unfoldable pub empty_contents : ℕ → ℕ → Contents
empty_contents cells elements = record { cells = replicate cells None; windows = replicate elements new_window }

-- the cell at an address; None in no block and past the last cell
abbrev pub held_at : List (Option Held) → ℕ → Option Held
held_at cells a = slice_index_or cells a None

-- the requests that wait at a cell, in their order
abbrev pub waiters_of : CellState → List Waiter
waiters_of (Empty waiters) = waiters
waiters_of (Full v) = []
waiters_of (Clashed v) = []

-- the requests that wait at a cell of a block; none if there is no cell
abbrev pub waiters_in : Option Held → List Waiter
waiters_in None = []
waiters_in (Some held) = waiters_of held.state

-- the requests that wait at an address
abbrev pub waiters_at : List (Option Held) → ℕ → List Waiter
waiters_at cells a = waiters_in (held_at cells a)

-- the operation and the entry that are kept under a number, if there are any
abbrev pub kept_under : Window → ℕ → Option Kept
kept_under w n = if nat_lt n w.base then None else slice_get w.kept (n - w.base)

-- the operation and the entry that are kept for a continuation, if there are any
abbrev pub kept_for : List Window → Waiter → Option Kept
kept_for windows who = option_and_then (λ w. kept_under w who.number) (slice_get windows who.element)

-- the value of a cell in this state, if it is a full I cell
abbrev pub full_value : Kind → CellState → Option ℕ
full_value I (Full v) = Some v
full_value I (Empty waiters) = None
full_value I (Clashed v) = None
full_value M state = None

-- the value of a full I cell of a block
abbrev pub full_in : Option Held → Option ℕ
full_in None = None
full_in (Some held) = full_value held.block.kind held.state

-- the value of the full I cell at an address, if there is one
abbrev pub full_at : Contents → ℕ → Option ℕ
full_at m a = full_in (held_at m.cells a)

-- the block that an address lies in
abbrev pub block_at : List (Option Held) → ℕ → Option Block
block_at cells a = option_map (λ held. held.block) (held_at cells a)

-- each block lies below the cell count, and each of its cells is in that block alone
pub record HasBlocks (cells : List (Option Held)) : Type 0 where
  pub within : (a : ℕ) (block : Block) → block_at cells a ≡ Some block
      → (block.base ≤ a) × (a < block.base + block.length) × (block.base + block.length ≤ length cells)
  pub whole : (a : ℕ) (block : Block) → block_at cells a ≡ Some block → (b : ℕ) → block.base ≤ b
      → b < block.base + block.length → block_at cells b ≡ Some block
