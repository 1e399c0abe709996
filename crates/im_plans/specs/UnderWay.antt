-- Memories in which a part of a plan is done. (Own.)
use Rattle.std.specs.Prelude.{◌≡◌, ℕ, ◌≤◌, true, List, [], ◌∷◌, is_some, slice_get, Some, None, Ok, Option}
use Rattle.std.specs.List.{AllByRecursion}
use Rattle.im_types.specs.Types.{Entry, Waiter, Kept, I, Fetch, Store, Request, Line, LAST, CellState, Empty, Full}
use Rattle.im_types.specs.Types.{Held, Window, Contents, held_at, kept_for, full_value, full_in, address_of}
use Rattle.im_types.specs.Types.{WaitingAgrees, ask, asker, result_of, IsPlan, IsLegal, end_of}
use Rattle.im_plans.specs.Runs.{HasServed, IsInPlan, IsPlannedRun, IsResultOrWaits, IsTaken}

-- a fetch of this address, under this number
abbrev pub fetch_by : ℕ → Waiter → Request
fetch_by a who = record { element = who.element; number = who.number; op = Fetch a }

-- the plan's store to the address, if it has one, wasn't served yet
abbrev pub IsUnstored : List Request → List Window → ℕ → Type 0
IsUnstored plan windows a =
    (r : Request) (v : ℕ) → IsInPlan plan r → r.op ≡ Store a v → IsTaken windows (asker r) → ⊥

-- An I cell that the plan names. It is empty until the plan's store to it was served, and only fetches of the plan wait
-- for it. From then on it is full, with the value of that store.
pub data IsCellOf (plan : List Request) (windows : List Window) (a : ℕ) (state : CellState) : Type 0 where
  ToStore : (waiters : List Waiter) → state ≡ Empty waiters
      → AllByRecursion (λ who. IsInPlan plan (fetch_by a who)) waiters → IsUnstored plan windows a
      → IsCellOf plan windows a state
  StoredBy : (r : Request) (v : ℕ) → IsInPlan plan r → r.op ≡ Store a v → IsTaken windows (asker r) → state ≡ Full v
      → IsCellOf plan windows a state

-- A part of the plan is done in the memory, or nothing, or all. What is kept under a number of the plan is its
-- operation, with its result, if it is answered. Of a number below the base of its window nothing is kept.
pub record IsPlanUnderWay (m : Contents) (plan : List Request) : Type 0 where
  pub element : (r : Request) → IsInPlan plan r → is_some (slice_get m.windows r.element) ≡ true
  pub number : (r : Request) → IsInPlan plan r → r.number ≤ LAST
  pub op : (r : Request) (k : Kept) → IsInPlan plan r → kept_for m.windows (asker r) ≡ Some k → k.op ≡ r.op
  pub result : (r : Request) (k : Kept) → IsInPlan plan r → kept_for m.windows (asker r) ≡ Some k
      → IsResultOrWaits (result_of m.cells plan r.op) k.entry
  pub cell : (r : Request) (held : Held) → IsInPlan plan r → held_at m.cells (address_of r.op) ≡ Some held
      → held.block.kind ≡ I → IsCellOf plan m.windows (address_of r.op) held.state

-- a memory, and a plan that is under way there
pub record PlanGoesOn (m : Contents) (plan : List Request) : Type 0 where
  pub agrees : WaitingAgrees m
  pub is_plan : IsPlan plan
  pub under_way : IsPlanUnderWay m plan

-- ---- runs that were stopped

-- the traces of several runs
abbrev pub Traces : Type 0
Traces = List (List Line)

-- the memory after several runs, each of which begins where the one before stopped
abbrev pub end_of_runs : Contents → Traces → Contents
end_of_runs m [] = m
end_of_runs m (trace ∷ runs) = end_of_runs (end_of m trace) runs

-- each of these traces is legal from there
abbrev pub AreLegal : Contents → Traces → Type 0
AreLegal m [] = Unit {0}
AreLegal m (trace ∷ runs) = IsLegal m trace × AreLegal (end_of m trace) runs

-- traces of planned calls, the first from a memory in which the plan is under way, and each from where the one before
-- stopped
pub record AreRunsOf (plan : List Request) (m : Contents) (runs : Traces) : Type 0 where
  pub goes_on : PlanGoesOn m plan
  pub planned : AllByRecursion (IsPlannedRun plan) runs

-- after these runs this entry is kept for this request of the plan
pub record IsKeptAfter (m : Contents) (plan : List Request) (runs : Traces) (r : Request) (entry : Entry) : Type 0 where
  pub are : AreRunsOf plan m runs
  pub in_plan : IsInPlan plan r
  pub kept : ask (end_of_runs m runs).windows (asker r) ≡ Ok entry

-- after these runs the whole plan was served
pub record HaveServed (m : Contents) (plan : List Request) (runs : Traces) : Type 0 where
  pub are : AreRunsOf plan m runs
  pub served : HasServed (end_of_runs m runs).windows plan

-- none of the plan was served yet
abbrev pub IsPlanUnserved : List Window → List Request → Type 0
IsPlanUnserved windows plan = (r : Request) → IsInPlan plan r → IsTaken windows (asker r) → ⊥

-- the value of a full I cell in the end: that of the plan's store to it, or, without one, what it was before
abbrev pub value_in_end : Option ℕ → Option Held → Option ℕ
value_in_end None held = full_in held
value_in_end (Some v) None = None
value_in_end (Some v) (Some held) = full_value held.block.kind (Full v)
