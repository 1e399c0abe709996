-- The requests that wait at a cell, for C.
use Rattle.std.specs.Prelude.{◌≡◌, ℕ, min, true, false, List, ◌++◌, map, length, take, drop}
use Rattle.{im_types.specs.Types.Waiter, im_types.specs.Types.waiters_at, im_listed.specs.Image.ImageState}
use Rattle.im_c.specs.declared.plain.LtWaiter.{LtWaiter}

-- a request that waits, in C's form
abbrev pub waiter_told : Waiter → LtWaiter
waiter_told who = record { element = who.element; number = who.number }

-- as many of these as there are places, and after them what was there
abbrev pub first_places : List LtWaiter → List LtWaiter → List LtWaiter
first_places who places = take (length places) who ++ drop (length who) places

-- the requests that wait at a cell, in their order of arrival, as many as there are places; none after a lost step
pub record TellsWaiters (i : ImageState) (a : ℕ) (old : List LtWaiter) (count : ℕ) (new : List LtWaiter) : Type 0 where
  pub lost : i.lost ≡ true → (count ≡ 0) × (new ≡ old)
  pub alive : i.lost ≡ false → let who = waiters_at i.engine.memory.cells a in
      (count ≡ min (length who) (length old)) × (new ≡ first_places (map waiter_told who) old)
