-- Where a session begins, for contracts that know no disk. (Own.)
use Rattle.std.specs.Prelude.{ℕ, List}
use Rattle.{im_types.specs.Types.Contents, im_disk.specs.Moment.Moment}

-- where a session begins: what is known of its disk, and the memory and the count of commands that its image has
pub record Begun : Type 0 where
  pub now : Moment
  pub past : List Moment
  pub failures : ℕ
  pub memory : Contents
  pub count : ℕ
