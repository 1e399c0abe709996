-- The count of commands and its bound. (Own.)
use Rattle.std.specs.Prelude.{◌≡◌, ◌≤◌}
use Rattle.im_types.specs.Types.{LAST, Reached}

-- the count is at most the last number of all, and at that number there is no room
pub record IsCounted (s : Reached) : Type 0 where
  pub to_last : s.count ≤ LAST
  pub full_at_last : s.count ≡ LAST → s.room ≡ 0
