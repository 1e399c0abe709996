-- What a session keeps as it goes on.
use Rattle.std.specs.Prelude.{◌≡◌, ℕ, ◌+◌, ◌≤◌, ◌⊎◌, List, ◌∷◌, ◌++◌, length, take}
use Rattle.im_types.specs.Types.{Command, after, Means}
use Rattle.im_disk.specs.{declared.Disk.Ghosts, Moment.LeftSince, Since.CallsAtMost, Since.LeavesWithin}
use Rattle.im_engine.specs.{Commands.commands_put, Groups.calls_for_group}
use Rattle.im_session.specs.Kept.{MeansPut, SessionStart, SessionState}

-- the file means the memory after a prefix of these commands that has at least so many of them
abbrev pub MeansFrom : {D : Type 0} → SessionStart D → List Command → ℕ → List ℕ → Type 0
MeansFrom start put least file = (many : ℕ) × (least ≤ many) × (many ≤ length put)
    × Means (after start.memory (take many put)) (start.count + many) 0 file

-- Each file that a crash may leave at this time or later has at least so many of the session's commands. A time is the
-- number of the disk's moments before it.
abbrev pub KeptFrom : {D : Type 0} → Ghosts D → SessionState D → ℕ → ℕ → Type 0
KeptFrom disk s least time = (file : List ℕ) → LeftSince (disk.now s.engine.disk ∷ disk.past s.engine.disk) time file
    → MeansFrom s.start (s.put ++ s.doubt) least file

-- A session went on from the one to the other: more commands were put, or are in doubt. Each file left since then has
-- all that was acknowledged before.
pub record KeepsPut {D : Type 0} (disk : Ghosts D) (old new : SessionState D) : Type 0 where
  pub start : new.start ≡ old.start
  pub more : List Command
  pub put : new.put ++ new.doubt ≡ (old.put ++ old.doubt) ++ more
  pub honest : disk.honest new.engine.disk → disk.honest old.engine.disk
  pub leaves : disk.honest new.engine.disk → LeavesWithin disk.now disk.past old.engine.disk new.engine.disk
      (MeansFrom new.start (new.put ++ new.doubt) (length old.put))

-- Each file left within this one call means what was put before it, or all that is put or in doubt after it.
abbrev pub LeavesWhole : {D : Type 0} → Ghosts D → SessionState D → SessionState D → Type 0
LeavesWhole disk old new = disk.honest new.engine.disk → LeavesWithin disk.now disk.past old.engine.disk new.engine.disk
    (λ file. MeansPut old.start (old.put ++ old.doubt) file ⊎ MeansPut new.start (new.put ++ new.doubt) file)

-- it makes at most so many calls of the disk
abbrev pub MakesAtMost : {D : Type 0} → Ghosts D → SessionState D → ℕ → SessionState D → Type 0
MakesAtMost disk old most new =
    disk.honest new.engine.disk → CallsAtMost disk.past old.engine.disk new.engine.disk most

-- it makes no more calls of the disk than the engine for these commands
abbrev pub MakesFewCalls : {D : Type 0} → Ghosts D → SessionState D → List Command → SessionState D → Type 0
MakesFewCalls disk old members new =
    MakesAtMost disk old (calls_for_group (length (commands_put old.engine members))) new
