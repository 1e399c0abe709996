-- A journal after writes to the gates of stale slots. (Own.)
use Rattle.std.specs.Prelude.{◌≡◌, ℕ, ◌+◌, ◌-◌, ◌<◌, ◌≤◌, false, List, length, Some}
use Rattle.im_types.specs.Types.{is_open, sequence_of, Ring, Tail, slot, tail}

-- A run of n slots is the same in both files. In the second one, the gates of the known room behind it are closed, and
-- each slot behind those is of a command before the run.
pub record HasStaleRest (r : Ring) (first n known : ℕ) (c d : List ℕ) : Type 0 where
  pub same : (i : ℕ) → i < n → slot r (first + i) d ≡ slot r (first + i) c
  pub inside : known ≤ r.slots - n
  pub shut : (j : ℕ) → j < known → is_open (slot r (first + n + j) d) ≡ false
  pub stale : (j : ℕ) → known ≤ j → j < r.slots - n → sequence_of (slot r (first + n + j) d) < first

-- the first file has this tail, and behind its run the second one has the known room and stale slots alone
pub record IsTailSwept (r : Ring) (first known : ℕ) (t : Tail) (c d : List ℕ) : Type 0 where
  pub reads : tail r first c ≡ Some t
  pub rest : HasStaleRest r first (length t.commands) known c d

-- each slot behind the tail's room is of a command before the run
abbrev pub IsStaleBehind : Ring → ℕ → Tail → List ℕ → Type 0
IsStaleBehind r first t file =
    (k : ℕ) → t.room ≤ k → k < r.slots - length t.commands
    → sequence_of (slot r (first + length t.commands + k) file) < first
