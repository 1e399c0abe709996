-- A table: the slots of its cells, and the holes among them. (Own.)
use Rattle.std.specs.Prelude.{◌≡◌, ℕ, zero, suc, ◌+◌, ◌-◌, ◌^◌, ◌<◌, ◌≤◌, Bool, true, false, List, length, is_none}
use Rattle.std.specs.Prelude.{if◌then◌else◌, IsSome, nat_lt, Some, None, Option}
use Rattle.{im_types.specs.Types.Block, im_holes.specs.Holes.holder_at}
use Rattle.im_cell.specs.declared.slots.Slot.{Slot}
use Rattle.im_cell.specs.Slots.{HoldsBlocks, is_waiting_slot, slot_at, slot_block}

-- 1 if a test holds, else 0
abbrev pub one_if : Bool → ℕ
one_if true = 1
one_if false = 0

-- the number of cells that pass a test, among n cells from one on
abbrev pub count_from : (ℕ → Bool) → ℕ → ℕ → ℕ
count_from test zero base = 0
count_from test (suc n) base = one_if (test base) + count_from test n (suc base)

-- whether requests wait for a cell
abbrev pub waits_at : List (Option Slot) → ℕ → Bool
waits_at slots k = is_waiting_slot (slot_at slots k)

-- the same for the cells before one; false for the others
abbrev pub waits_before : List (Option Slot) → ℕ → ℕ → Bool
waits_before slots at k = if nat_lt k at then waits_at slots k else false

-- the number of a block's first cell is the number of its cells that pass a test
abbrev pub HasCounts : List (Option Slot) → (ℕ → Bool) → List (Option ℕ) → Type 0
HasCounts slots test holes = (k : ℕ) (block : Block) → slot_block slots k ≡ Some block
    → holder_at holes block.base ≡ Some (count_from test block.length block.base)

-- the base of a slot's block, or 0
abbrev pub base_in : Option Slot → ℕ
base_in None = 0
base_in (Some slot) = slot.block.base

-- one more, or one less
abbrev pub moved : Bool → ℕ → ℕ
moved true n = n + 1
moved false n = n - 1

-- the number can become one more, or one less
abbrev pub CanMove : Bool → ℕ → Type 0
CanMove more n = (more ≡ true → n + 1 < 2 ^ 32) × (more ≡ false → 0 < n)

-- the invariant of a table
pub record IsTable (slots : List (Option Slot)) (holes : List (Option ℕ)) : Type 0 where
  pub count : length holes ≡ length slots
  pub few : length slots < 2 ^ 32
  -- each block lies in the table, and each of its cells is in that block alone
  pub blocks : HoldsBlocks slots
  -- a cell is free in `holes` if and only if it is free in `slots`
  pub free : (k : ℕ) → is_none (holder_at holes k) ≡ is_none (slot_at slots k)
  pub waits : HasCounts slots (waits_at slots) holes

-- n cells, each of them held
pub record IsHeldBy (holes : List (Option ℕ)) (n : ℕ) : Type 0 where
  pub count : length holes ≡ n
  pub held : (k : ℕ) → k < n → IsSome (holder_at holes k)

-- the cells `from` to `to - 1` are free, and the cell `to` isn't free or is past the last one
pub record IsFreeTo (slots : List (Option Slot)) (from to : ℕ) : Type 0 where
  pub order : from ≤ to
  pub inside : to ≤ length slots
  pub free : (k : ℕ) → from ≤ k → k < to → slot_at slots k ≡ None
  pub end : to < length slots → IsSome (slot_at slots to)
