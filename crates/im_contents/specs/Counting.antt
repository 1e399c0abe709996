-- The requests that wait, counted over all cells. (Own.)
use Rattle.std.specs.Prelude.{◌≡◌, ℕ, ◌+◌, ◌≤◌, true, List, [], ◌∷◌, Some, None, Option}
use Rattle.im_types.specs.Types.{Waiter, Kept, Held, held_at, waiters_in, waiters_at, times, waits_in, is_waiting, bit}

-- how often a request stands in the lists of all cells
abbrev pub all_times : Waiter → List (Option Held) → ℕ
all_times who [] = 0
all_times who (cell ∷ cells) = times who (waiters_in cell) + all_times who cells

-- 1 if what is kept waits, else 0
abbrev pub waiting : Option Kept → ℕ
waiting None = 0
waiting (Some kept) = bit (is_waiting kept)

-- A request in a list waits for that cell. A request that waits is in all lists together once, and no other is in any.
pub record AgreeByCount (cells : List (Option Held)) (kept : Waiter → Option Kept) : Type 0 where
  pub each : (who : Waiter) (a : ℕ) → 1 ≤ times who (waiters_at cells a)
      → waits_in a (held_at cells a) (kept who) ≡ true
  pub once : (who : Waiter) → all_times who cells ≡ waiting (kept who)
