-- An image in the hands of a caller that carries out the writes and syncs.
use Rattle.std.specs.Prelude.{◌≡◌, ℕ, Bool, false, ◌⊎◌, List, [], length, take, IfOk, if◌then◌else◌, Ok, Err, Result}
use Rattle.im_types.specs.Types.{Command, Served, Refusal, Device, NoMemory}
use Rattle.{im_disk.specs.Moment.Moment, im_disk.specs.Since.LeavesNow, im_groups.specs.Ahead.ServesPrefix}
use Rattle.im_engine.specs.{Answered.is_device, Chain.Advances, Chain.TakesNext}
use Rattle.im_engine.specs.Commands.{after_commands, commands_put, CommandsAnswered}
use Rattle.im_engine.specs.State.{EngineState, IsFirstFault, MeansEither, MeansState}
use Rattle.im_front.specs.{declared.AskedCommand.AskedCommand, Lists.commands_asked}
use Rattle.im_listed.specs.Listing.{carried, FileStep, LeftOnTheWay, Listing, MayLeave, with_no_steps}

-- an engine over a caller's bytes, whether a call of the disk failed, here or at the caller, and what is asked and not
-- told yet, the oldest command first
pub record ImageState : Type 0 where
  pub engine : EngineState Listing
  pub lost : Bool
  pub asked : List AskedCommand

-- If no step is lost, the engine works. Those that are ahead of the engine are the first of those that are asked.
pub record AheadComesFirst (engine : EngineState Listing) (lost : Bool) (asked : List AskedCommand) : Type 0 where
  pub works : lost ≡ false → engine.failed ≡ false
  pub first : commands_asked (take (length engine.ahead) asked) ≡ engine.ahead

-- the engine as a call finds it, without the list of the call before
abbrev pub begun_in : ImageState → EngineState Listing
begun_in s = record s.engine { disk = with_no_steps s.engine.disk }

-- what the caller has to carry out after a call: nothing, if a step was lost
abbrev pub steps_of : ImageState → List FileStep
steps_of s = if s.lost then [] else s.engine.disk.steps

-- the image works, and a crash on the way through the steps of a call may leave this file
abbrev pub MayLeaveBetween : ImageState → ImageState → List ℕ → Type 0
MayLeaveBetween old new file = (old.lost ≡ false) × MayLeave old.engine.disk.now (steps_of new) file

-- the answer says that a call of the disk failed
abbrev pub tells_device : {T : Type 0} → Result T Refusal → Bool
tells_device (Ok answer) = false
tells_device (Err refusal) = is_device refusal

-- there was no room for the image, or for a step
abbrev pub IsWant : Refusal → Type 0
IsWant refusal = (refusal ≡ NoMemory) ⊎ (refusal ≡ Device)

-- why these bytes aren't opened: their first fault, or no room for them or for a step
abbrev pub IsFaultOf : List ℕ → Refusal → Type 0
IsFaultOf file refusal = (refusal ≡ NoMemory) ⊎ (refusal ≡ Device) ⊎ IsFirstFault refusal file

-- What the steps of a call do to the caller's file, when they are carried out after the steps of earlier calls.
pub record Carries (old : Moment) (new : ImageState) (P : List ℕ → Type 0) : Type 0 where
  -- they lead to the file that the engine knows
  pub ends : new.lost ≡ false → new.engine.disk.now ≡ carried old (steps_of new)
  -- a crash on the way leaves what has P
  pub way : LeftOnTheWay old (steps_of new) P
  -- and a crash at their end leaves a file that means the engine
  pub means : new.lost ≡ false → LeavesNow new.engine.disk.now (MeansState new.engine)

-- The first members are served together, as many as there are answers. The others are untouched.
pub record ServesFirst (old : ImageState) (members : List Command) (answers : List Served)
    (new : ImageState) : Type 0 where
  -- how many are served, and where it ends
  pub begins : ServesPrefix (begun_in old).memory (commands_put (begun_in old) (take (length answers) members)) members
      (length answers)
  pub answered : CommandsAnswered (begun_in old) (take (length answers) members) answers new.engine
  -- on the way the file means the memory before those that are served, or after all of them
  pub carried : Carries old.engine.disk.now new
      (MeansEither (begun_in old) (after_commands (begun_in old) (take (length answers) members)))

-- The next members are put ahead behind the group that is ahead of the image, whose members are answered.
pub record PutsAhead (old : ImageState) (next : List Command) (result : Result ℕ Refusal) (answers : List Served)
    (new : ImageState) : Type 0 where
  pub answered : Advances (begun_in old) next result answers new.engine
  -- how many of the next members are ahead, and where they end
  pub takes : IfOk result (TakesNext (begun_in old) next new.engine)
  -- on the way the file means the memory before the group that was ahead, or after all of it
  pub carried : Carries old.engine.disk.now new
      (MeansEither (begun_in old) (after_commands (begun_in old) old.engine.ahead))
