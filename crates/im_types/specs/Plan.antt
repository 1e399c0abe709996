-- The results of a planned run, whatever its order. (Own.)
use Rattle.std.specs.Prelude.{◌≡◌, ℕ, ◌≤◌, Bool, true, false, List, [], ◌∷◌, is_some, if◌then◌else◌, ◌==◌, slice_get}
use Rattle.std.specs.Prelude.{Some, None, Option}
use Rattle.im_types.specs.{Act.same_kind, Agreement.address_of, Step.asker, Window.next_number}
use Rattle.im_types.specs.Contents.{Contents, Empty, Held, held_at, Window}
use Rattle.im_types.specs.declared.{commands.Request.Request, TheConstants.LAST}
use Rattle.im_types.specs.declared.operations.{Kind.TheVariants.I, Reply.Reply}
use Rattle.im_types.specs.declared.operations.Op.{Op, TheVariants.Fetch, TheVariants.Store}
use Rattle.im_types.specs.declared.operations.Reply.TheVariants.{NoCell, Stored, Value, WrongKind}

-- the value that an operation stores at an address
abbrev pub stored_by : ℕ → Op → Option ℕ
stored_by a (Store b v) = if a == b then Some v else None
stored_by a op = None

-- the value of the plan's store to an address, if it has one
abbrev pub planned_value : ℕ → List Request → Option ℕ
planned_value a [] = None
planned_value a (r ∷ plan) = first (stored_by a r.op) (planned_value a plan)
  where
    first : Option ℕ → Option ℕ → Option ℕ
    first (Some v) rest = Some v
    first None rest = rest

-- the reply to a fetch of a planned value, if it is ever stored
abbrev pub fetched : Option ℕ → Option Reply
fetched None = None
fetched (Some v) = Some (Value v)

-- the reply to an operation on a cell: this one, if the cell is in an I block
abbrev pub in_block : Option Held → Option Reply → Option Reply
in_block None reply = Some NoCell
in_block (Some held) reply = if same_kind I held.block.kind then reply else Some WrongKind

-- the reply to a planned fetch or store; None for a fetch that stays waiting
abbrev pub result_of : List (Option Held) → List Request → Op → Option Reply
result_of cells plan (Fetch a) = in_block (held_at cells a) (fetched (planned_value a plan))
result_of cells plan (Store a v) = in_block (held_at cells a) (Some Stored)
result_of cells plan op = None

-- an operation that a plan may have
abbrev pub is_planned : Op → Bool
is_planned (Fetch a) = true
is_planned (Store a v) = true
is_planned op = false

-- fetches and stores, each under its own number, with at most one store to an address
pub record IsPlan (plan : List Request) : Type 0 where
  pub planned : (i : ℕ) (r : Request) → slice_get plan i ≡ Some r → is_planned r.op ≡ true
  pub numbered : (i j : ℕ) (r s : Request) → slice_get plan i ≡ Some r → slice_get plan j ≡ Some s → asker r ≡ asker s
      → i ≡ j
  pub stored_once : (i j a : ℕ) (r s : Request) → slice_get plan i ≡ Some r → slice_get plan j ≡ Some s
      → is_some (stored_by a r.op) ≡ true → is_some (stored_by a s.op) ≡ true → i ≡ j

-- the plan's requests are still to come, and each I cell that they name is empty
pub record FitsPlan (m : Contents) (plan : List Request) : Type 0 where
  pub element : (i : ℕ) (r : Request) → slice_get plan i ≡ Some r → is_some (slice_get m.windows r.element) ≡ true
  pub number : (i : ℕ) (r : Request) (w : Window) → slice_get plan i ≡ Some r → slice_get m.windows r.element ≡ Some w
      → (next_number w ≤ r.number) × (r.number ≤ LAST)
  pub empty : (i : ℕ) (r : Request) (held : Held) → slice_get plan i ≡ Some r
      → held_at m.cells (address_of r.op) ≡ Some held
      → held.block.kind ≡ I → held.state ≡ Empty []
