-- Tests whether a plan is under way in a memory. (Own.)
use Rattle.std.specs.Prelude.{ℕ, Bool, true, false, List, [], ◌∷◌, if◌then◌else◌, nat_lt, ◌==◌, slice_get, Some, None}
use Rattle.std.specs.Prelude.{Ok, Err, Option, Result}
use Rattle.im_types.specs.Types.{Entry, Op, Reply, Waiter, Kept, Waiting, Answered, I, Fetch, Store, Value, Stored}
use Rattle.im_types.specs.Types.{NoCell, WrongKind, Request, Refusal, LAST, Held, Contents, held_at, waiters_at}
use Rattle.im_types.specs.Types.{kept_for, presence_of, same_waiter, address_of, Cell, CellEmpty as IsEmpty}
use Rattle.im_types.specs.Types.{CellWaiting as IsWaiting, CellFull as IsFull, CellClashed as IsClashed, same_kind}
use Rattle.im_types.specs.Types.{same_op, bounds, asker, planned_value}
use Rattle.im_planning.specs.Making.{is_op, op_under}

-- ---- numbers

-- a number of a window that is there, and none past the last one
abbrev pub number_may_be : ℕ → Result (ℕ × ℕ) Refusal → Bool
number_may_be number (Ok bounds) = if nat_lt LAST number then false else true
number_may_be number (Err refusal) = false

-- a number below the next one of a window with these bounds
abbrev pub was_served : ℕ → Result (ℕ × ℕ) Refusal → Bool
was_served number (Ok bounds) = nat_lt number bounds.1
was_served number (Err refusal) = false

-- the request's number was used
abbrev pub is_done : Contents → Request → Bool
is_done m r = was_served r.number (bounds m.windows r.element)

-- ---- what is kept

-- the reply to an operation on a cell in no block
abbrev pub is_no_cell : Reply → Bool
is_no_cell NoCell = true
is_no_cell reply = false

-- the reply to an operation on an M cell
abbrev pub is_wrong_kind : Reply → Bool
is_wrong_kind WrongKind = true
is_wrong_kind reply = false

-- the reply to a store
abbrev pub is_stored_reply : Reply → Bool
is_stored_reply Stored = true
is_stored_reply reply = false

-- the reply that has this value
abbrev pub is_value : Option ℕ → Reply → Bool
is_value None reply = false
is_value (Some v) (Value w) = v == w
is_value (Some v) reply = false

-- the reply to an operation on an I cell that the plan stores this value to
abbrev pub is_answer : Op → Option ℕ → Reply → Bool
is_answer (Fetch a) stored reply = is_value stored reply
is_answer (Store a v) stored reply = is_stored_reply reply
is_answer op stored reply = false

-- the result of an operation, by its cell
abbrev pub is_result : Op → Option ℕ → Option Held → Reply → Bool
is_result op stored None reply = is_no_cell reply
is_result op stored (Some held) reply =
    if same_kind I held.block.kind then is_answer op stored reply else is_wrong_kind reply

-- an entry that waits, or is answered with the result
abbrev pub has_result : Op → Option ℕ → Option Held → Entry → Bool
has_result op stored held Waiting = true
has_result op stored held (Answered reply) = is_result op stored held reply

-- nothing is kept, or this operation with such an entry
abbrev pub kept_fits : Op → Option ℕ → Option Held → Option Kept → Bool
kept_fits op stored held None = true
kept_fits op stored held (Some k) = if same_op k.op op then has_result op stored held k.entry else false

-- ---- cells

-- the plan has a fetch of the address under this number
abbrev pub is_fetch_in : List Request → ℕ → Waiter → Bool
is_fetch_in plan a who = is_op (Fetch a) (op_under (who.element, who.number) plan)

-- so it is with each of these
abbrev pub all_fetch : List Request → ℕ → List Waiter → Bool
all_fetch plan a [] = true
all_fetch plan a (who ∷ waiters) = if is_fetch_in plan a who then all_fetch plan a waiters else false

-- The first of those who wait, if there is one, is a fetch of the plan. If it is this one, they all are.
abbrev pub first_fits : List Request → ℕ → Waiter → List Waiter → Option Waiter → Bool
first_fits plan a own waiters None = true
first_fits plan a own waiters (Some first) =
    if is_fetch_in plan a first then (if same_waiter first own then all_fetch plan a waiters else true) else false

-- an operation that may have been served while its cell is empty
abbrev pub may_be_empty : Bool → Op → Bool
may_be_empty served (Store a v) = if served then false else true
may_be_empty served op = true

-- an operation that need not have been served for its cell to be full
abbrev pub may_be_full : Bool → Op → Bool
may_be_full served (Store a v) = served
may_be_full served op = true

-- the value that the plan stores
abbrev pub is_planned_value : ℕ → Option ℕ → Bool
is_planned_value w None = false
is_planned_value w (Some v) = v == w

-- an I cell that a request of the plan names, if it is empty: with those who wait for it
abbrev pub empty_fits : Contents → List Request → Request → Bool
empty_fits m plan r =
    let waiters = waiters_at m.cells (address_of r.op) in
    if may_be_empty (is_done m r) r.op then first_fits plan (address_of r.op) (asker r) waiters (slice_get waiters 0)
    else false

-- the same, if it is full with this value
abbrev pub full_fits : Contents → List Request → Request → ℕ → Bool
full_fits m plan r w =
    if may_be_full (is_done m r) r.op then is_planned_value w (planned_value (address_of r.op) plan) else false

-- the same, by its presence tag
abbrev pub tag_fits : Contents → List Request → Request → Cell → Bool
tag_fits m plan r IsEmpty = empty_fits m plan r
tag_fits m plan r IsWaiting = empty_fits m plan r
tag_fits m plan r (IsFull w) = full_fits m plan r w
tag_fits m plan r (IsClashed w) = false

-- a cell that a request of the plan names, if it is an I cell
abbrev pub held_fits : Contents → List Request → Request → Option Held → Bool
held_fits m plan r None = true
held_fits m plan r (Some held) =
    if same_kind I held.block.kind then tag_fits m plan r (presence_of held.state) else true

-- ---- requests

-- what is kept for a request of a plan
abbrev pub entry_fits : Contents → List Request → Request → Bool
entry_fits m plan r =
    let a = address_of r.op in
    kept_fits r.op (planned_value a plan) (held_at m.cells a) (kept_for m.windows (asker r))

-- a request of a plan
abbrev pub goes_on : Contents → List Request → Request → Bool
goes_on m plan r =
    if number_may_be r.number (bounds m.windows r.element)
    then (if entry_fits m plan r then held_fits m plan r (held_at m.cells (address_of r.op)) else false)
    else false

-- these requests of a plan
abbrev pub all_go_on : Contents → List Request → List Request → Bool
all_go_on m plan [] = true
all_go_on m plan (r ∷ rest) = if goes_on m plan r then all_go_on m plan rest else false
