-- Bytes that are compared several at a time. (Own.)
use Rattle.std.specs.Prelude.{◌≡◌, ℕ, ◌+◌, ◌<◌, List, slice_index}

-- the same n bytes from a place on
abbrev pub SameAt : List ℕ → List ℕ → ℕ → ℕ → Type 0
SameAt xs ys at n = (k : ℕ) → k < n → slice_index xs (at + k) ≡ slice_index ys (at + k)
