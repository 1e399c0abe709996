-- A block whose cells nobody waits for. (Own.)
use Rattle.std.specs.Prelude.{◌≡◌, ℕ, true, false, List, take, drop, Some, Option}
use Rattle.std.specs.List.{list_any}
use Rattle.im_types.specs.Types.{Block}
use Rattle.im_cell.specs.{declared.slots.Slot.Slot, Slots.is_releasable, Slots.is_waiting_slot, Slots.slot_block}

-- the block begins here, and no request waits for any of its cells
pub record IsQuietBlock (slots : List (Option Slot)) (base : ℕ) (block : Block) : Type 0 where
  pub begins : block.base ≡ base
  pub found : slot_block slots base ≡ Some block
  pub releasable : is_releasable slots base ≡ true
  pub quiet : list_any is_waiting_slot (take block.length (drop block.base slots)) ≡ false
