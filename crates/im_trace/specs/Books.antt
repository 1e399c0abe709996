-- The books of a controller, as contracts name them. (Own.)
use Rattle.std.specs.Prelude.{ℕ, Bool}
use Rattle.logbook.specs.Pages.{Book}

-- the book of the lines, and the key of its first pen
pub record LinesBook : Type 0 where
  pub book : Book
  pub root : ℕ

-- the book of what is shown, the book of the lines, and whether lines are recorded at run time
pub record BookNames : Type 0 where
  pub shown : Book
  pub lines : LinesBook
  pub recorded : Bool
