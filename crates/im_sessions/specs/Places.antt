-- The places of a ring. The place of an entry is its number modulo the size of the window.
use Rattle.std.specs.Prelude.{ℕ, zero, suc, ◌+◌, ◌%◌, ◌≤◌, List, [], ◌∷◌, slice_index_or}
use Rattle.im_types.specs.Types.{Kept, Waiting, Release, WINDOW, LAST}

-- the element that is read past the end of the places; no window shows it
abbrev pub blank : Kept
blank = record { op = Release 0; entry = Waiting }

-- the place of a number in the ring
abbrev pub ring_place : ℕ → ℕ
ring_place number = number % WINDOW

-- this number of entries, from this number on
abbrev pub entries_from : List Kept → ℕ → ℕ → List Kept
entries_from places number zero = []
entries_from places number (suc count) =
    slice_index_or places (ring_place number) blank ∷ entries_from places (suc number) count

-- the window is numbered from 1 on, keeps at most WINDOW entries, and numbers none past the last number of all
pub record AreBounds (base count : ℕ) : Type 0 where
  pub from_one : 1 ≤ base
  pub few : count ≤ WINDOW
  pub to_last : base + count ≤ LAST + 1
