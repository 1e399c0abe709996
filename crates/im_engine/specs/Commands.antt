-- A group of commands that an engine serves together: requests, of one element or of several, and confirmations. (Own.)
use Rattle.std.specs.Prelude.{◌≡◌, ℕ, ◌+◌, ◌<◌, ◌≤◌, Bool, true, false, ◌⊎◌, List, [], map, length}
use Rattle.im_types.specs.Types.{Command, Served, Refused, Refusal, Device, Failed, MAX_GROUP, Contents, as_served}
use Rattle.im_disk.specs.{declared.Disk.Ghosts, Since.LeavesNow, Since.LeavesWithin}
use Rattle.{im_journal.specs.Holding.room_after, im_checkpoint.specs.Turns.AddsAtMost}
use Rattle.im_groups.specs.Ahead.{AreAccepted}
use Rattle.im_groups.specs.Commands.{answers_with, commands_at, contents_after_all, most_pages_with, places, takes_at}
use Rattle.im_engine.specs.Groups.{calls_for_group, GroupCalls, GroupFaults}
use Rattle.im_engine.specs.State.{EngineState, MeansEither, MeansState}

-- the commands that are put on the disk, each judged after those before it
abbrev pub commands_put : {D : Type 0} → EngineState D → List Command → List Command
commands_put s members = commands_at s.memory (places s.count s.room) members

-- members of a group that all take places: each is accepted in its turn, and there are places for all of them
pub record AreWhole (m : Contents) (left : ℕ) (members : List Command) : Type 0 where
  pub few : length members ≤ MAX_GROUP
  pub accepted : AreAccepted m members
  pub enough : length members ≤ left

-- members of a group, and of each whether it takes a place
pub record AreParted (m : Contents) (left : ℕ) (members : List Command) (told : List Bool) : Type 0 where
  pub few : length members ≤ MAX_GROUP
  pub taken : told ≡ takes_at m left members

-- members of a group, judged at this memory with this number of places: whether all of them take places, and if not, of
-- each whether it does
pub record AreJudged (m : Contents) (left : ℕ) (members : List Command) (all : Bool) (told : List Bool) : Type 0 where
  pub few : length members ≤ MAX_GROUP
  pub whole : all ≡ true → AreWhole m left members
  pub each : all ≡ false → AreParted m left members told

-- the engine after these commands, one after another, with nothing ahead
abbrev pub after_commands : {D : Type 0} → EngineState D → List Command → EngineState D
after_commands s members = let n = length (commands_put s members) in record s {
  memory = contents_after_all s.memory
      (places s.count s.room) members;
  count = s.count + n;
  room = room_after s.count n s.room;
  ahead = [];
}

-- each command gets this refusal
abbrev pub each_refused : Refusal → List Command → List Served
each_refused refusal members = map (λ _. Refused refusal) members

-- the answers to the commands, one after another
abbrev pub answers_in_turn : {D : Type 0} → EngineState D → List Command → List Served
answers_in_turn s members = map as_served (answers_with s.memory (places s.count s.room) members)

-- an engine's answers to a group of commands, and the engine after it, on any disk
pub record CommandsAnswered {D : Type 0} (old : EngineState D) (members : List Command) (answers : List Served) (new
    : EngineState D) : Type 0 where
  pub dead : old.failed ≡ true → (answers ≡ each_refused Failed members) × (new ≡ old)
  pub none : old.failed ≡ false → commands_put old members ≡ [] → (answers ≡ answers_in_turn old members) × (new ≡ old)
  pub put : old.failed ≡ false → 0 < length (commands_put old members) →
      ((answers ≡ answers_in_turn old members)
      × (new ≡ record (after_commands old members) { disk = new.disk; pages = new.pages }))
      ⊎ ((answers ≡ each_refused Device members) × (new ≡ record old { disk = new.disk; failed = true }))
  -- the pages that the commands on the disk may change are added to those that changed
  pub pages : old.failed ≡ false → new.failed ≡ false
      → AddsAtMost (most_pages_with old.memory (places old.count old.room) members) old.pages new.pages

module _ {D : Type 0} (disk : Ghosts D) (old new : EngineState D) where
  -- The calls of the disk for a group of commands: one for each command that is put there, and three more, or none if
  -- no command is. Each file that a crash may leave, from the start to the end, is as before the group or as after it.
  pub record ServesCommands (members : List Command) : Type 0 where
    pub honest : disk.honest new.disk → disk.honest old.disk
    pub calls : disk.honest new.disk → GroupCalls disk.past old.disk new.disk new.failed
        (calls_for_group (length (commands_put old members)))
    pub faults : GroupFaults old.failed new.failed (disk.failures old.disk) (disk.failures new.disk)
    pub leaves : disk.honest new.disk → old.failed ≡ false
        → LeavesWithin disk.now disk.past old.disk new.disk (MeansEither old (after_commands old members))
    pub doubt : disk.honest new.disk → old.failed ≡ false
        → LeavesNow (disk.now new.disk) (MeansEither old (after_commands old members))
    pub means : disk.honest new.disk → new.failed ≡ false → LeavesNow (disk.now new.disk) (MeansState new)
