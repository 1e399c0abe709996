-- Where a controller begins, which all its parts agree on. (Own.)
use Rattle.std.specs.Prelude.{ℕ, Bool, List, Option}
use Rattle.im_types.specs.Types.{Request, Command, Line, Contents}
use Rattle.im_trace.specs.{Begun.Begun, Books.BookNames}

-- where a controller begins, which its ports, its receipts and what lies under its lock agree on
pub record Origin : Type 1 where
  -- the memory that the trace begins with, and the plan that all requests keep to, if there is one
  pub memory : Contents
  pub plan : Option (List Request)
  -- Which lines are counted apart. Any test will do, so the trace can be asked for any line.
  pub marks : Line → Bool
  -- the ledgers that count the lines and the marked lines, and how many ports share in them
  pub lines_name : ℕ
  pub marked_name : ℕ
  pub ports : ℕ
  -- the book of the changes that are shown, the book of the lines, and whether lines are recorded
  pub book : BookNames
  -- where the session began that is lent
  pub begun : Begun
  -- the commands that it had put when the trace began, how many moments its disk had had then, whether it had failed,
  -- and what holds if its disk was honest then
  pub first : List Command
  pub time : ℕ
  pub failed : Bool
  pub honest : Type 0
