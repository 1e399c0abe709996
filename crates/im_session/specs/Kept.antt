-- A session: what was put on a disk since it began, and what a crash leaves of it.
use Rattle.std.specs.Prelude.{◌≡◌, ℕ, ◌+◌, ◌≤◌, true, false, ◌⊎◌, List, [], ◌++◌, length, take}
use Rattle.im_types.specs.Types.{Command, Contents, after, accepted, Means}
use Rattle.im_disk.specs.{declared.Disk.Ghosts, Moment.Left, Moment.Rises, Since.LeavesNow, Since.LeavesWithin}
use Rattle.im_engine.specs.State.{EngineState}

-- where a session begins: the disk, and the memory and the count of commands that its image has
pub record SessionStart (D : Type 0) : Type 0 where
  pub disk : D
  pub memory : Contents
  pub count : ℕ

-- where a session begins, the commands that were acknowledged since, those in doubt, and the engine now
pub record SessionState (D : Type 0) : Type 0 where
  pub start : SessionStart D
  pub put : List Command
  pub doubt : List Command
  pub engine : EngineState D

-- a beginning with what this engine has
abbrev pub start_at : {D : Type 0} → D → EngineState D → SessionStart D
start_at disk engine = record { disk = disk; memory = engine.memory; count = engine.count }

-- a session of these parts
abbrev pub session_of : {D : Type 0} → SessionStart D → List Command → List Command → EngineState D → SessionState D
session_of start put doubt engine = record { start = start; put = put; doubt = doubt; engine = engine }

-- nothing was put yet
abbrev pub IsFresh : {D : Type 0} → SessionState D → Type 0
IsFresh s = s ≡ session_of (start_at s.start.disk s.engine) [] [] s.engine

-- the file means the memory after these commands
abbrev pub MeansPut : {D : Type 0} → SessionStart D → List Command → List ℕ → Type 0
MeansPut start put file = Means (after start.memory put) (start.count + length put) 0 file

-- the file means the memory after a prefix of these commands
abbrev pub MeansPrefix : {D : Type 0} → SessionStart D → List Command → List ℕ → Type 0
MeansPrefix start put file = (many : ℕ) × (many ≤ length put)
    × Means (after start.memory (take many put)) (start.count + many) 0 file

module _ {D : Type 0} (disk : Ghosts D) (s : SessionState D) where
  -- What the session began with could be left then. A crash at any moment since leaves that, or the memory after a
  -- prefix of the session's commands. A crash now leaves the memory after those that were acknowledged, with or without
  -- those in doubt.
  pub record LeavesPut : Type 0 where
    pub found : (file : List ℕ) × Left (disk.now s.start.disk) file
        × Means s.start.memory s.start.count 0 file
    pub since : LeavesWithin disk.now disk.past s.start.disk s.engine.disk (MeansPrefix s.start (s.put ++ s.doubt))
    pub now : LeavesNow (disk.now s.engine.disk)
        (λ file. MeansPut s.start s.put file ⊎ MeansPut s.start (s.put ++ s.doubt) file)

  -- The memory is the one after the commands that were acknowledged, each accepted in its turn. Nothing is in doubt
  -- while no call of the disk has failed, and what a crash leaves is known if the disk is honest.
  pub record Kept : Type 0 where
    pub in_turn : accepted s.start.memory (s.put ++ s.doubt) ≡ s.put ++ s.doubt
    pub memory : s.engine.memory ≡ after s.start.memory s.put
    pub count : s.engine.count ≡ s.start.count + length s.put
    pub sure : s.engine.failed ≡ false → s.doubt ≡ []
    pub rose : s.engine.failed ≡ true → Rises (disk.failures s.start.disk) (disk.failures s.engine.disk)
    pub stayed : s.engine.failed ≡ false → disk.failures s.engine.disk ≡ disk.failures s.start.disk
    pub honest : disk.honest s.engine.disk → disk.honest s.start.disk
    pub leaves : disk.honest s.engine.disk → LeavesPut
