-- A number for each moment. Different moments have different numbers.
use Rattle.std.specs.Prelude.{ℕ, zero, suc, ◌+◌, Bool, true, false, List, [], ◌∷◌}
use Rattle.im_disk.specs.Moment.{Moment}

-- 2^a times 2 b + 1
abbrev pub pair : ℕ → ℕ → ℕ
pair zero b = b + b + 1
pair (suc a) b = pair a b + pair a b

-- the number of these bytes
abbrev pub bytes_number : List ℕ → ℕ
bytes_number [] = 0
bytes_number (b ∷ bs) = pair b (bytes_number bs)

-- the number of these ranges
abbrev pub ranges_number : List (ℕ × ℕ) → ℕ
ranges_number [] = 0
ranges_number (r ∷ rs) = pair r.0 (pair r.1 (ranges_number rs))

-- the number of a moment
abbrev pub moment_number : Moment → ℕ
moment_number m = pair (bytes_number m.bytes) (ranges_number m.ranges)

-- The number is even if no call has failed. After a failure it is odd and larger than before, so half of it is no
-- moment's number.
abbrev pub told_number : Bool → Moment → ℕ
told_number false m = moment_number m + moment_number m
told_number true m = moment_number m + moment_number m + 18446744073709551617
