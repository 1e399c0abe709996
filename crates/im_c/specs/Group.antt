-- A group of commands on an image, for C.
use Rattle.std.specs.Prelude.{◌≡◌, ℕ, ◌+◌, ◌-◌, ◌<◌, ◌≤◌, true, false, List, [], ◌∷◌, ◌++◌, map, length, replicate}
use Rattle.std.specs.Prelude.{Some, None, Ok, Err, Option}
use Rattle.im_types.specs.Types.{Command, Served, Unserved, Done, Refused, Device, number_of}
use Rattle.im_listed.specs.Image.{ImageState, ServesFirst}
use Rattle.im_c.specs.declared.plain.{LtCommand.LtCommand, LtOutcome.LtOutcome}
use Rattle.im_c.specs.{Image.idle_after, Plain.meant, Plain.outcome_of, Plain.refused}

-- a list of the command, if there is one
abbrev pub listed : Option Command → List Command
listed None = []
listed (Some command) = command ∷ []

-- all commands that are meant
abbrev pub all_meant : List LtCommand → List Command
all_meant [] = []
all_meant (c ∷ cs) = listed (meant c) ++ all_meant cs

-- one more if there is a command, else 0
abbrev pub one_more_for : Option Command → ℕ → ℕ
one_more_for None later = 0
one_more_for (Some command) later = later + 1

-- the index, from 0, of the first that means no command, or how many there are
abbrev pub first_unknown : List LtCommand → ℕ
first_unknown [] = 0
first_unknown (c ∷ cs) = one_more_for (meant c) (first_unknown cs)

-- There are 1 to 16, each means a command, and there are as many places for outcomes.
pub record IsGroup (commands : List LtCommand) (places : ℕ) : Type 0 where
  pub some : 0 < length commands
  pub few : length commands ≤ 16
  pub each : length (all_meant commands) ≡ length commands
  pub told : places ≡ length commands

-- the outcome of a member that isn't served
abbrev pub unserved : LtOutcome
unserved = refused 254

-- the outcome for a member's answer
abbrev pub outcome_served : Served → LtOutcome
outcome_served Unserved = unserved
outcome_served (Done outcome) = outcome_of (Ok outcome)
outcome_served (Refused refusal) = outcome_of (Err refusal)

-- the outcomes at this many places: those of the answers, and at each place after them that of a member that isn't
-- served
abbrev pub outcomes_of : ℕ → List Served → List LtOutcome
outcomes_of places answers = map outcome_served answers ++ replicate (places - length answers) unserved

-- the outcomes of a group, and what the caller's file holds on the way
pub record ServesGroup (old : ImageState) (commands : List LtCommand) (before : List LtOutcome) (answer : ℕ)
    (after : List LtOutcome) (new : ImageState) : Type 0 where
  pub unknown : (IsGroup commands (length before) → ⊥) → (answer ≡ 255) × (after ≡ before) × (new ≡ idle_after old)
  pub lost : IsGroup commands (length before) → old.lost ≡ true
      → (answer ≡ number_of Device) × (after ≡ before) × (new ≡ old)
  -- so no answer is `Failed`
  pub works : IsGroup commands (length before) → old.lost ≡ false → old.engine.failed ≡ false
  pub known : IsGroup commands (length before) → old.lost ≡ false
      → (answer ≡ 0) × (answers : List Served) × (after ≡ outcomes_of (length before) answers)
      × ServesFirst old (all_meant commands) answers new
  -- what is asked stays so
  pub asked : new.asked ≡ old.asked
