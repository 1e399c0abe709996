-- The checks before an access of one cell, and the replies to the requests that waited for it. (Own.)
use Rattle.std.specs.Prelude.{ℕ, List, map, if◌then◌else◌, Some, None, Ok, Err, Option, Result}
use Rattle.im_types.specs.Types.{Kind, Reply, Waiter, Value, NoCell, WrongKind, Cell, same_kind}
use Rattle.im_cell.specs.declared.Slot.{Slot}

-- each of these requests gets the value
abbrev pub replies_to : List Waiter → ℕ → List (Waiter × Reply)
replies_to waiters v = map (λ waiter. (waiter, Value v)) waiters

-- the requests that get these replies
abbrev pub askers_of : List (Waiter × Reply) → List Waiter
askers_of replies = map (λ reply. reply.0) replies

-- the cell of a slot, if it is in a block of this kind; else the reason why it can't be accessed
abbrev pub access_in : Kind → Option Slot → Result Cell Reply
access_in kind None = Err NoCell
access_in kind (Some slot) = if same_kind kind slot.block.kind then Ok slot.cell else Err WrongKind
