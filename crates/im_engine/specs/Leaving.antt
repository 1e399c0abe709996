-- What the files mean that a crash may leave, within a call of an engine and after it. (Own.)
use Rattle.std.specs.Prelude.{◌≡◌, ℕ, false, List}
use Rattle.im_disk.specs.{declared.Disk.Ghosts, Moment.Left, Since.LeavesNow, Since.LeavesOnly, Since.LeavesWithin}
use Rattle.im_engine.specs.State.{EngineState, MeansState}

module _ {D : Type 0} (disk : Ghosts D) where
  -- a crash leaves what it could leave at the start
  abbrev pub LeavesAsBefore : D → D → Type 0
  LeavesAsBefore old new =
      disk.honest new → LeavesWithin disk.now disk.past old new (Left (disk.now old))

  -- while the engine works, each file left means what it is
  abbrev pub LeavesState : EngineState D → Type 0
  LeavesState e = disk.honest e.disk → e.failed ≡ false → LeavesNow (disk.now e.disk) (MeansState e)

  -- if the engine worked at the start, each file left since then has P
  abbrev pub LeavesSince : EngineState D → EngineState D → (List ℕ → Type 0) → Type 0
  LeavesSince old new P =
      disk.honest new.disk → old.failed ≡ false → LeavesWithin disk.now disk.past old.disk new.disk P

  -- each file left since the start has P, and each file left at the return
  abbrev pub LeavesThroughout : EngineState D → EngineState D → (List ℕ → Type 0) → Type 0
  LeavesThroughout old new P = disk.honest new.disk → LeavesOnly disk.now disk.past old.disk new.disk P

  -- if the engine worked at the start, each file left at the return has P
  abbrev pub LeavesAfter : EngineState D → EngineState D → (List ℕ → Type 0) → Type 0
  LeavesAfter old new P = disk.honest new.disk → old.failed ≡ false → LeavesNow (disk.now new.disk) P
