-- What was put of a script from a new image on, whatever stopped it and however often. (Own.)
use Rattle.std.specs.Prelude.{◌≡◌, ℕ, List, [], ◌++◌, Some}
use Rattle.im_types.specs.Types.{Command, Limits, Contents, empty_contents, after, accept_each}
use Rattle.im_disk.specs.{declared.Disk.Ghosts, Moment.Moment, Since.Leaves, Since.LeavesNow}
use Rattle.im_session.specs.Carrying.{LedBy}
use Rattle.im_serial.specs.Asked.{IsAsked, Leads, Wanted, wanted_of}

-- the memory of a new image
abbrev pub new_memory : Limits → Contents
new_memory limits = empty_contents limits.cells limits.elements

-- These commands lead from a new image to this memory, each accepted in its turn. They are, confirmations aside, the
-- first requests of the script, in their order, each with its element's next number, and the names stand for the bases
-- in the blocks' answers. So a run of the script that was stopped, or done, has put them.
pub record HasComeTo (limits : Limits) (script : List Wanted) (put : List Command) (m : Contents) : Type 0 where
  pub left : List Wanted
  pub leads : Leads (new_memory limits) [] script put left
  pub accepted : accept_each (new_memory limits) put ≡ Some m

-- A run went on from a memory, and put these commands. With those before them it is, from a new image on, what a run is
-- that was never stopped: with status 0 they are all requests of the script, each once.
pub record HasGoneOn (limits : Limits) (script : List Wanted) (m : Contents) (put : List Command)
    (status : ℕ) : Type 0 where
  pub earlier : List Command
  pub begun : accept_each (new_memory limits) earlier ≡ Some m
  pub accepted : accept_each (new_memory limits) (earlier ++ put) ≡ Some (after m put)
  pub asked : IsAsked (new_memory limits) [] script (earlier ++ put) status

-- These commands are all requests of the script, each once, and lead to this memory.
abbrev pub HasDone : Limits → List Wanted → List Command → Contents → Type 0
HasDone limits script put m =
    IsAsked (new_memory limits) [] script put 0 × (accept_each (new_memory limits) put ≡ Some m)

-- Each file that a crash left before the run means a memory that a run of the script came to. So does each that a crash
-- leaves within it or after it. If the status is 0, each that is left after it means the memory after all requests.
pub record KeepsBegun {D : Type 0} (now : D → Moment) (past : D → List Moment) (limits : Limits) (script : List Wanted)
    (old new : D) (status : ℕ) : Type 0 where
  pub within : Leaves (now old) (now new) (past old) (past new) (LedBy (HasComeTo limits script))
  pub after : LeavesNow (now new) (LedBy (HasComeTo limits script))
  pub done : status ≡ 0 → LeavesNow (now new) (LedBy (HasDone limits script))

-- the same of a script of any sizes, on a disk that is honest at the end, if each file was left by runs of the script
abbrev pub KeepsOnce : {D : Type 0} → Ghosts D → List ℕ → D → D → ℕ → Type 0
KeepsOnce disk text old new status = disk.honest new → (limits : Limits)
    → LeavesNow (disk.now old) (LedBy (HasComeTo limits (wanted_of text)))
    → KeepsBegun disk.now disk.past limits (wanted_of text) old new status
