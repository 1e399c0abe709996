-- What may stand before a plan, and an index that follows one.
use Rattle.std.specs.Prelude.{◌≡◌, ℕ, true, List, ◌∷◌, is_some, None, Option}
use Rattle.im_types.specs.Types.{Op, Request, stored_by, planned_value, is_planned}
use Rattle.im_planning.specs.Making.{Key, op_under}

-- a request that may stand before those of a plan
pub record StandsBefore (r : Request) (plan : List Request) : Type 0 where
  pub planned : is_planned r.op ≡ true
  pub own : op_under (r.element, r.number) plan ≡ None
  pub alone : (a : ℕ) → is_some (stored_by a r.op) ≡ true → planned_value a plan ≡ None

-- an index that has each request of a plan, and one that has the value that is stored at each address
pub record IndexesPlan (under : Key → Option Op) (stored : ℕ → Option ℕ) (plan : List Request) : Type 0 where
  pub has : (key : Key) → under key ≡ op_under key plan
  pub stores : (a : ℕ) → stored a ≡ planned_value a plan

-- a request may stand before those of a plan, and these indices follow it with them
abbrev pub StandsFirst : Request → List Request → (Key → Option Op) → (ℕ → Option ℕ) → Type 0
StandsFirst r plan under stored = StandsBefore r plan × IndexesPlan under stored (r ∷ plan)
