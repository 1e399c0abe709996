-- A chain of groups: each is put ahead while the one before it is opened, so both share a sync. (Own.)
use Rattle.std.specs.Prelude.{◌≡◌, ℕ, zero, suc, ◌+◌, ◌-◌, ◌<◌, ◌≤◌, Bool, true, false, ◌⊎◌, List, [], ◌++◌, length}
use Rattle.std.specs.Prelude.{take, if◌then◌else◌, OnOk, ◌==◌, slice_get, Some, Ok, Err, Result}
use Rattle.im_types.specs.Types.{Command, Served, Refusal, Device, Failed, LAST, Contents}
use Rattle.im_disk.specs.{declared.Disk.Ghosts, Moment.Faults, Moment.Moment}
use Rattle.im_disk.specs.Since.{Calls, CallsAtMost, CallsBy, LeavesNow, LeavesWithin}
use Rattle.im_journal.specs.Holding.{IsJournal, JournalState, slots_ahead}
use Rattle.{im_groups.specs.Ahead.IsUnsure, im_checkpoint.specs.Turns.AddsAtMost}
use Rattle.im_groups.specs.Commands.{commands_at, most_pages_with, places, takes_at}
use Rattle.im_engine.specs.Commands.{after_commands, answers_in_turn, commands_put, each_refused}
use Rattle.im_engine.specs.State.{EngineState, MeansEither, MeansState}

-- the commands of members that take places: the members themselves, if all of them do
abbrev pub laid_of : Bool → List Command → List Command → List Command
laid_of whole members commands = if whole then members else commands

-- what was judged of members at this memory, with a place for each: `put` are the commands of those that are accepted,
-- and if these aren't all, `told` is of each whether it is
pub record WereJudged (m : Contents) (members put : List Command) (told : List Bool) : Type 0 where
  pub commands : put ≡ commands_at m (length members) members
  pub taken : (length put == length members) ≡ false → told ≡ takes_at m (length members) members

-- the group ahead of an engine: there is a place for each of its members, and its commands are those ahead of the
-- journal
pub record IsAhead (m : Contents) (j : JournalState) (members commands : List Command)
    (taken : List Bool) : Type 0 where
  pub enough : length members ≤ places j.count j.room
  pub told : WereJudged m members commands taken
  pub laid : j.ahead ≡ commands

-- the commands of the group ahead that take places
abbrev pub put_ahead : {D : Type 0} → EngineState D → List Command
put_ahead s = commands_put s s.ahead

-- the places behind the group ahead
abbrev pub places_left : {D : Type 0} → EngineState D → ℕ
places_left s = places s.count s.room - length (put_ahead s)

-- What a call is answered that advances a chain by these members, what the members of the group ahead are answered, and
-- the engine after it, on any disk.
pub record Advances {D : Type 0} (old : EngineState D) (next : List Command) (result : Result ℕ Refusal)
    (answers : List Served) (new : EngineState D) : Type 0 where
  -- there is a place for each member of the group ahead
  pub enough : length old.ahead ≤ places old.count old.room
  pub dead : old.failed ≡ true → (result ≡ Err Failed) × (answers ≡ each_refused Failed old.ahead) × (new ≡ old)
  -- the group ahead acted, and so many of the next members are ahead; or a call of the disk failed, and nothing acted
  pub alive : old.failed ≡ false →
      ((many : ℕ) × (result ≡ Ok many) × (answers ≡ answers_in_turn old old.ahead)
      × (new ≡ record (after_commands old old.ahead) { disk = new.disk; pages = new.pages; ahead = take many next }))
      ⊎ ((result ≡ Err Device) × (answers ≡ each_refused Device old.ahead)
      × (new ≡ record old { disk = new.disk; ahead = []; failed = true }))
  -- the pages that the commands on the disk may change are added to those that changed
  pub pages : old.failed ≡ false → new.failed ≡ false
      → AddsAtMost (most_pages_with old.memory (places old.count old.room) old.ahead) old.pages new.pages

-- So many of the next members come behind the group ahead, with these commands: all for which there are places, up to
-- the first whose acceptance isn't known before the group ahead acts; and at least one if no command is ahead.
pub record IsComing {D : Type 0} (s : EngineState D) (next commands : List Command) (many : ℕ) : Type 0 where
  pub within : many ≤ length next
  pub few : many ≤ places_left s
  pub some : put_ahead s ≡ [] → 0 < places_left s → 0 < length next → 0 < many
  pub stops : many < places_left s → (command : Command) → slice_get next many ≡ Some command
      → IsUnsure s.memory (put_ahead s ++ commands) command

-- So many of the next members are ahead of the new engine.
abbrev pub TakesNext : {D : Type 0} → EngineState D → List Command → EngineState D → ℕ → Type 0
TakesNext old next new many = IsComing old next (put_ahead new) many

-- the calls of the disk for so many commands ahead, and so many next ones: the gate, a body for each, and one sync;
-- none if there are none of both
abbrev pub calls_to_advance : ℕ → ℕ → ℕ
calls_to_advance zero zero = 0
calls_to_advance zero (suc next) = suc next + 1
calls_to_advance (suc ahead) next = next + 2

module _ {D : Type 0} (disk : Ghosts D) (old new : EngineState D) where
  -- The calls of the disk that advance a chain, by no more than so many members. Each file that a crash may leave, from
  -- the start to the end, is as before the group ahead or as after it: nothing of the next one has an effect.
  pub record ServesAhead (most : ℕ) (result : Result ℕ Refusal) : Type 0 where
    pub honest : disk.honest new.disk → disk.honest old.disk
    pub calls : OnOk result (disk.honest new.disk
        → Calls disk.past old.disk new.disk (calls_to_advance (length (put_ahead old)) (length (put_ahead new))))
    pub few : disk.honest new.disk → CallsAtMost disk.past old.disk new.disk (most + 2)
    pub faults : Faults (λ e. (e ≡ Failed) ⊎ (e ≡ Device)) result (disk.failures old.disk) (disk.failures new.disk)
    pub leaves : disk.honest new.disk → old.failed ≡ false
        → LeavesWithin disk.now disk.past old.disk new.disk (MeansEither old (after_commands old old.ahead))
    pub doubt : disk.honest new.disk → old.failed ≡ false
        → LeavesNow (disk.now new.disk) (MeansEither old (after_commands old old.ahead))
    pub means : disk.honest new.disk → new.failed ≡ false → LeavesNow (disk.now new.disk) (MeansState new)

-- the next commands can be put ahead of a journal behind what is ahead of it
pub record FitsBehind (j : JournalState) (next : List Command) : Type 0 where
  pub known : IsJournal j
  pub room : slots_ahead j next ≤ j.room
  pub last : j.count + slots_ahead j next ≤ LAST

-- The calls that open what is ahead and put the next commands ahead: this exact number, or no more at a refusal. If
-- there are none of both, nothing can fail, and the disk is as it was.
pub record BehindPut {D : Type 0} (past : D → List Moment) (honest : Type 0) (old new : D) (ahead next : List Command)
    (result : Result (Unit {0}) Refusal) : Type 0 where
  pub made : honest → CallsBy past old new (calls_to_advance (length ahead) (length next)) result
  pub none : ahead ≡ [] → next ≡ [] → (result ≡ Ok tt) × (new ≡ old)
