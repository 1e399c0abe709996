-- The place where a request waits. (Own.)
use Rattle.std.specs.Prelude.{◌≡◌, ℕ, Some}
use Rattle.im_types.specs.Types.{Waiter, Waiting, Held, Contents, held_at, kept_for, awaiting}

-- the request's entry waits, for a fetch of this I cell or a take of this M cell
pub record WaitsAt (m : Contents) (who : Waiter) (a : ℕ) : Type 0 where
  pub held : Held
  pub there : held_at m.cells a ≡ Some held
  pub waits : kept_for m.windows who ≡ Some (record { op = awaiting held.block.kind a; entry = Waiting })
