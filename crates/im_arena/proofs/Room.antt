-- A list without its first waiter leaves as many nodes free, or one more.
use Rattle.std.proofs.Common.{ℕ, ◌-◌, ◌<◌, List, [], length, get_or, drop, set, sum_by, arith, length-drop}
use Rattle.std.proofs.lemmas.List.Sums.{sum_by-set}
use Rattle.im_types.specs.Types.{Waiter}

pub room_after_pop : (nodes : ℕ) (lists : List (List Waiter)) (list : ℕ) → list < length lists
    → 0 < nodes - sum_by length lists
    → 0 < nodes - sum_by length (set lists list (drop 1 (get_or lists list [])))
room_after_pop nodes lists list inside room =
    omega (
      arith,
      sum_by-set length lists list (drop 1 (get_or lists list [])) [] inside,
      length-drop 1
          (get_or lists list []),
    )
