-- What is noted of an element's numbers. (Own.)
use Rattle.std.specs.Prelude.{◌≡◌, ℕ, ◌+◌, ◌⊎◌, List, slice_set}
use Rattle.im_types.specs.Types.{Entry}

-- an entry was noted under a number, if it is one of these numbers
abbrev pub Noted : ℕ → List Entry → ℕ → Entry → List Entry → Type 0
Noted first entries number entry later =
    (later ≡ entries) ⊎ ((at : ℕ) × (number ≡ first + at) × (later ≡ slice_set entries at entry))
