-- What one call of an engine answers, and the engine after it. (Own.)
use Rattle.std.specs.Prelude.{◌≡◌, ℕ, ◌+◌, ◌<◌, Bool, true, false, ◌⊎◌, if◌then◌else◌, Ok, Err, Result}
use Rattle.im_types.specs.Types.{Command, Outcome, Refusal, JournalFull, Device, Failed, Contents, step, is_accepted}
use Rattle.im_checkpoint.specs.declared.TurnDone.{TurnDone}
use Rattle.im_checkpoint.specs.Turns.{AddsPages, Moved, swept_at_once, Turned}
use Rattle.im_engine.specs.State.{checkpoint_in, EngineState, journal_in, with_command}

-- an engine's answer to one command, and the engine after it, on any disk
pub record Answered {D : Type 0} (old : EngineState D) (command : Command) (answer : Result Outcome Refusal)
    (new : EngineState D) : Type 0 where
  pub dead : old.failed ≡ true → (answer ≡ Err Failed) × (new ≡ old)
  pub unaccepted : old.failed ≡ false → is_accepted old.memory command ≡ false
      → (answer ≡ (step old.memory command).answer) × (new ≡ old)
  pub full : old.failed ≡ false → is_accepted old.memory command ≡ true → old.room ≡ 0
      → (answer ≡ Err JournalFull) × (new ≡ old)
  pub put : old.failed ≡ false → is_accepted old.memory command ≡ true → 0 < old.room →
      ((answer ≡ (step old.memory command).answer)
      × (new ≡ record (with_command old command) { disk = new.disk; pages = new.pages }))
      ⊎ ((answer ≡ Err Device) × (new ≡ record old { disk = new.disk; failed = true }))
  -- the pages that it may change are added to those that changed
  pub pages : old.failed ≡ false → is_accepted old.memory command ≡ true → 0 < old.room → new.failed ≡ false
      → AddsPages old.memory command old.pages new.pages

-- the calls of the disk for a command: four if it is accepted, and none for a repeat or a refused command
abbrev pub calls_for : Contents → Command → ℕ
calls_for m command = if is_accepted m command then 4 else 0

-- A turn that was done. The memory, the count and what is ahead stay, the engine works, and the rest follows the table
-- of turns.
pub record TurnTaken {D : Type 0} (old : EngineState D) (done : TurnDone) (new : EngineState D) : Type 0 where
  pub memory : new.memory ≡ old.memory
  pub count : new.count ≡ old.count
  pub ahead : new.ahead ≡ old.ahead
  pub alive : new.failed ≡ false
  pub turned : Turned (checkpoint_in old) (journal_in old) done (checkpoint_in new) (journal_in new)
  -- a checkpoint that begins has to write the changed pages of the area that isn't in force, and no others
  pub pages : Moved old.pages done new.step new.pages

-- an engine's answer to one turn, and the engine after it, on any disk
pub record TurnAnswered {D : Type 0} (old : EngineState D) (answer : Result TurnDone Refusal)
    (new : EngineState D) : Type 0 where
  pub dead : old.failed ≡ true → (answer ≡ Err Failed) × (new ≡ old)
  pub alive : old.failed ≡ false →
      ((done : TurnDone) × (answer ≡ Ok done) × TurnTaken old done new)
      ⊎ ((answer ≡ Err Device) × (new ≡ record old { disk = new.disk; failed = true }))

-- an engine's answer to a sweep of at most `most` slots, and the engine after it, on any disk
pub record SweepAnswered {D : Type 0} (old : EngineState D) (most : ℕ) (answer : Result ℕ Refusal)
    (new : EngineState D) : Type 0 where
  pub dead : old.failed ≡ true → (answer ≡ Err Failed) × (new ≡ old)
  pub alive : old.failed ≡ false →
      (let n = swept_at_once old.step (journal_in old) most
      in (answer ≡ Ok n) × (new ≡ record old { disk = new.disk; room = old.room + n }))
      ⊎ ((answer ≡ Err Device) × (new ≡ record old { disk = new.disk; failed = true }))

-- the refusal says that a call of the disk failed
abbrev pub is_device : Refusal → Bool
is_device Device = true
is_device refusal = false
