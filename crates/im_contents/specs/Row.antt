-- Lists of waiters in one row: each ends where the next begins. (Own.)
use Rattle.std.specs.Prelude.{◌≡◌, ℕ, ◌-◌, ◌≤◌, List, [], ◌∷◌, ◌++◌, length, replicate, slice_range}
use Rattle.im_types.specs.Types.{Waiter}

-- the lists in a row: the first begins here, and each ends at its number
abbrev pub cut : List Waiter → ℕ → List ℕ → List (List Waiter)
cut waiters start [] = []
cut waiters start (end ∷ ends) = slice_range waiters start end ∷ cut waiters end ends

-- the lists of this many cells: those behind the last end are empty
abbrev pub spread : List Waiter → List ℕ → ℕ → List (List Waiter)
spread waiters ends cells = cut waiters 0 ends ++ replicate (cells - length ends) []

-- from here on the ends never fall, and the last is where the row ends
abbrev pub Rise : ℕ → List ℕ → ℕ → Type 0
Rise start [] size = start ≡ size
Rise start (end ∷ ends) size = (start ≤ end) × Rise end ends size
