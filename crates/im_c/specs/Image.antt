-- The calls of an image, for C.
use Rattle.std.specs.Prelude.{◌≡◌, ℕ, true, false, List, length, replicate, Some, None, Ok, Err, Option, Result}
use Rattle.im_types.specs.Types.{Kept, Command, Outcome, Refusal, Device, number_of, kept_for, address_of, ask, bounds}
use Rattle.im_types.specs.Types.{layout_in_use, Sizes, image_length, op_code, op_value}
use Rattle.{im_disk.specs.Moment.Moment, im_checkpoint.specs.declared.TurnDone.TurnDone}
use Rattle.im_checkpoint.specs.declared.TurnDone.TheVariants.{Began, Idle, InForce, Page, Swept, Synced}
use Rattle.im_engine.specs.Answered.{Answered, SweepAnswered, TurnAnswered}
use Rattle.im_engine.specs.State.{MeansEither, MeansState, with_command}
use Rattle.im_listed.specs.{History.given, Listing.FileStep, Listing.Puts, Listing.Settles}
use Rattle.im_listed.specs.Image.{begun_in, Carries, ImageState}
use Rattle.im_c.specs.declared.plain.{LtBounds.LtBounds, LtCommand.LtCommand, LtOutcome.LtOutcome, LtStep.LtStep}
use Rattle.im_c.specs.Plain.{entry_outcome, meant, no_call, outcome_of, refused}

-- a file with the length of an image, each byte of which is in doubt
abbrev pub blank_image : Sizes → Moment
blank_image s = given (replicate (image_length layout_in_use s) 0)

-- the effect of a call that is none: no step is left
abbrev pub idle_after : ImageState → ImageState
idle_after i = record i { engine = begun_in i }

-- the outcome of a command, and what the caller's file holds on the way
pub record ServesOne (old : ImageState) (c : LtCommand) (out : LtOutcome) (new : ImageState) : Type 0 where
  pub unknown : meant c ≡ None → (out ≡ no_call) × (new ≡ idle_after old)
  pub lost : (command : Command) → meant c ≡ Some command → old.lost ≡ true
      → (out ≡ outcome_of (Err Device)) × (new ≡ old)
  -- so the answer isn't `Failed`
  pub works : (command : Command) → meant c ≡ Some command → old.lost ≡ false → old.engine.failed ≡ false
  pub known : (command : Command) → meant c ≡ Some command → old.lost ≡ false
      → (answer : Result Outcome Refusal) × (out ≡ outcome_of answer)
      × Answered (begun_in old) command answer new.engine
      × Carries old.engine.disk.now new (MeansEither (begun_in old) (with_command (begun_in old) command))
  -- what is asked stays so
  pub asked : new.asked ≡ old.asked

-- what a turn did, by its number, and which page
abbrev pub turn_code : TurnDone → ℕ
turn_code Idle = 0
turn_code Began = 1
turn_code (Page page) = 2
turn_code Synced = 3
turn_code InForce = 4
turn_code Swept = 5

-- the page that a turn wrote, or 0
abbrev pub turn_page : TurnDone → ℕ
turn_page (Page page) = page
turn_page done = 0

-- the outcome for a turn
abbrev pub turn_outcome : Result TurnDone Refusal → LtOutcome
turn_outcome (Ok done) = record { refusal = 0; tag = turn_code done; value = turn_page done }
turn_outcome (Err refusal) = refused (number_of refusal)

-- the outcome of a turn, and what the caller's file holds on the way
pub record Turns (old : ImageState) (out : LtOutcome) (new : ImageState) : Type 0 where
  pub lost : old.lost ≡ true → (out ≡ outcome_of (Err Device)) × (new ≡ old)
  -- so the answer isn't `Failed`
  pub works : old.lost ≡ false → old.engine.failed ≡ false
  pub alive : old.lost ≡ false
      → (answer : Result TurnDone Refusal) × (out ≡ turn_outcome answer) × TurnAnswered (begun_in old) answer new.engine
      × Carries old.engine.disk.now new (MeansState (begun_in old))
  -- what is asked stays so
  pub asked : new.asked ≡ old.asked

-- the outcome for a sweep: how many slots it closed
abbrev pub sweep_outcome : Result ℕ Refusal → LtOutcome
sweep_outcome (Ok swept) = record { refusal = 0; tag = 5; value = swept }
sweep_outcome (Err refusal) = refused (number_of refusal)

-- the outcome of a sweep, and what the caller's file holds on the way
pub record SweepsBy (old : ImageState) (most : ℕ) (out : LtOutcome) (new : ImageState) : Type 0 where
  pub lost : old.lost ≡ true → (out ≡ outcome_of (Err Device)) × (new ≡ old)
  -- so the answer isn't `Failed`
  pub works : old.lost ≡ false → old.engine.failed ≡ false
  pub alive : old.lost ≡ false
      → (answer : Result ℕ Refusal) × (out ≡ sweep_outcome answer) × SweepAnswered (begun_in old) most answer new.engine
      × Carries old.engine.disk.now new (MeansState (begun_in old))
  -- what is asked stays so
  pub asked : new.asked ≡ old.asked

-- the entry that is kept under an element's number
pub record CollectsFrom (i : ImageState) (element number : ℕ) (out : LtOutcome) : Type 0 where
  pub lost : i.lost ≡ true → out ≡ entry_outcome (Err Device)
  pub alive : i.lost ≡ false
      → out ≡ entry_outcome (ask i.engine.memory.windows (record { element = element; number = number }))

-- the request of an element that is kept under a number; its tag is 0 if there is none
abbrev pub asked_as : ℕ → ℕ → Option Kept → LtCommand
asked_as element number None = record { tag = 0; element = element; address = 0; number = number; value = 0 }
asked_as element number (Some k) =
    record { tag = op_code k.op; element = element; address = address_of k.op; number = number; value = op_value k.op }

-- what was asked under an element's number
pub record TellsAsked (i : ImageState) (element number : ℕ) (asked : LtCommand) : Type 0 where
  pub lost : i.lost ≡ true → asked ≡ asked_as element number None
  pub alive : i.lost ≡ false
      → asked ≡ asked_as element number
      (kept_for i.engine.memory.windows (record { element = element; number = number }))

-- a window's bounds, or the refusal
abbrev pub window_of : Result (ℕ × ℕ) Refusal → LtBounds
window_of (Ok b) = record { refusal = 0; base = b.0; next = b.1 }
window_of (Err refusal) = record { refusal = number_of refusal; base = 0; next = 0 }

-- the window of an element
pub record ShowsWindow (i : ImageState) (element : ℕ) (out : LtBounds) : Type 0 where
  pub lost : i.lost ≡ true → out ≡ window_of (Err Device)
  pub alive : i.lost ≡ false → out ≡ window_of (bounds i.engine.memory.windows element)

-- a step, in C's form
abbrev pub step_told : Option FileStep → LtStep
step_told None = record { kind = 0; place = 0; length = 0 }
step_told (Some (Puts place bytes)) = record { kind = 1; place = place; length = length bytes }
step_told (Some Settles) = record { kind = 2; place = 0; length = 0 }

-- a buffer gets these bytes if it has their length; else it stays
pub record CopiesBytes (bytes old : List ℕ) (answer : ℕ) (new : List ℕ) : Type 0 where
  pub fits : length bytes ≡ length old → (answer ≡ 0) × (new ≡ bytes)
  pub other : (length bytes ≡ length old → ⊥) → (answer ≡ 255) × (new ≡ old)

-- a buffer gets the bytes of a write
abbrev pub Copies : Option FileStep → List ℕ → ℕ → List ℕ → Type 0
Copies None old answer new = (answer ≡ 255) × (new ≡ old)
Copies (Some (Puts place bytes)) old answer new = CopiesBytes bytes old answer new
Copies (Some Settles) old answer new = (answer ≡ 255) × (new ≡ old)
