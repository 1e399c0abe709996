-- The slot that an access finds.
use Rattle.std.proofs.Common.{◌≡◌, Bool, true, false, if◌then◌else◌, Some, None, Ok, Err, Option, refl}
use Rattle.im_types.specs.Types.{Kind, WrongKind, Cell, same_kind}
use Rattle.im_cell.specs.declared.Slot.{Slot}
use Rattle.im_istore.specs.Access.{access_in}

-- the slot of a cell that may be accessed
pub record Found (kind : Kind) (at : Option Slot) (cell : Cell) : Type 0 where
  pub slot : Slot
  pub there : at ≡ Some slot
  pub kind_is : same_kind kind slot.block.kind ≡ true
  pub cell_is : slot.cell ≡ cell

found_if : (kind : Kind) (slot : Slot) (cell : Cell) (b : Bool) → same_kind kind slot.block.kind ≡ b
    → (if b then Ok slot.cell else Err WrongKind) ≡ Ok cell → Found kind (Some slot) cell
found_if kind slot cell true same e = record { slot = slot; there = refl; kind_is = same; cell_is = cc }
found_if kind slot cell false same e = absurd (cc)

pub found : (kind : Kind) (at : Option Slot) (cell : Cell) → access_in kind at ≡ Ok cell → Found kind at cell
found kind None cell e = absurd (cc)
found kind (Some slot) cell e = found_if kind slot cell (same_kind kind slot.block.kind) refl e
