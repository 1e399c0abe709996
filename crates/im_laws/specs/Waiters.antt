-- Requests that wait at a cell, and what answers them. (Own.)
use Rattle.std.specs.Prelude.{◌≡◌, ℕ, List, ◌∷◌, Some}
use Rattle.im_types.specs.Types.{Op, Waiter, Waiting, Answered, Take, Value, Contents, waiters_at, kept_for}

-- the request's operation waits
abbrev pub WaitsWith : Contents → Waiter → Op → Type 0
WaitsWith m who op = kept_for m.windows who ≡ Some (record { op = op; entry = Waiting })

-- the request's operation was answered with this value
abbrev pub HasValue : Contents → Waiter → Op → ℕ → Type 0
HasValue m who op v = kept_for m.windows who ≡ Some (record { op = op; entry = Answered (Value v) })

-- takes wait for the cell, this one before the others
pub record TakersWait (m : Contents) (a : ℕ) (first : Waiter) (others : List Waiter) : Type 0 where
  pub listed : waiters_at m.cells a ≡ first ∷ others
  pub waits : WaitsWith m first (Take a)
