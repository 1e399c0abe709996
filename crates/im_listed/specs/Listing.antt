-- A disk over a caller's bytes, and what the list of its writes and syncs makes of the caller's file.
use Rattle.std.specs.Prelude.{◌≡◌, ℕ, ◌≤◌, Bool, true, false, List, [], ◌∷◌, ◌++◌, map, length, take, if◌then◌else◌}
use Rattle.std.specs.Prelude.{MatchResult, Result}
use Rattle.im_disk.specs.Moment.{Left, LeftSince, Moment, synced, written}
use Rattle.im_listed.specs.declared.step.Step.{Step, TheVariants.Sync, TheVariants.Write}
use Rattle.im_listed.specs.History.{CallHistory, given}

-- a step on the file: write these bytes at this place, or put all that was written on the disk
pub data FileStep : Type 0 where
  Puts : ℕ → List ℕ → FileStep
  Settles : FileStep

-- the step of the code as a task
abbrev pub task_of : Step → FileStep
task_of (Write place bytes) = Puts place bytes.items
task_of Sync = Settles

-- what carrying out one step makes of a file
abbrev pub stepped : FileStep → Moment → Moment
stepped (Puts place bytes) m = written place bytes m
stepped Settles m = synced m

-- what carrying out these steps in their order makes of a file
abbrev pub carried : Moment → List FileStep → Moment
carried m [] = m
carried m (t ∷ ts) = carried (stepped t m) ts

-- a disk over a caller's bytes, as contracts see it
pub record Listing : Type 0 where
  -- the file now, and the moments before it since the list was last emptied, newest first
  pub now : Moment
  pub past : List Moment
  -- the file when the list was last emptied
  pub begun : Moment
  -- the writes and syncs since, oldest first
  pub steps : List FileStep
  -- a call has failed, because the list could not grow
  pub failed : Bool

-- what the disk shows, by the history of its calls
abbrev pub listing_of : CallHistory → List Step → Bool → Listing
listing_of h steps failed =
    record { now = h.now; past = h.past; begun = h.begun; steps = map task_of steps; failed = failed }

-- a moment later, with these steps
abbrev pub later_with : Moment → List FileStep → Listing → Listing
later_with m steps d = record { now = m; past = d.now ∷ d.past; begun = d.begun; steps = steps; failed = d.failed }

-- with an empty list
abbrev pub with_no_steps : Listing → Listing
with_no_steps d = record { now = d.now; past = []; begun = d.now; steps = []; failed = d.failed }

-- over these bytes, each of which may be in doubt in the caller's file
abbrev pub over : List ℕ → Listing
over bytes = record { now = given bytes; past = []; begun = given bytes; steps = []; failed = false }

-- no range
abbrev pub no_range : List (ℕ × ℕ) → Bool
no_range [] = true
no_range (r ∷ rs) = false

-- nothing was written since the last sync
abbrev pub is_calm : Moment → Bool
is_calm m = no_range m.ranges

-- the steps with one more sync, if something was written since the last one
abbrev pub settled : Bool → List FileStep → List FileStep
settled calm steps = if calm then steps else steps ++ Settles ∷ []

-- only a failure happened
abbrev pub broken : Listing → Listing
broken d = record { now = d.now; past = d.past; begun = d.begun; steps = d.steps; failed = true }

-- at `Ok` the disk is as told here; at `Err` the list could not grow
abbrev pub ListsStep : {T E : Type 0} → Result T E → Listing → Listing → Listing → Type 0
ListsStep result told old new = MatchResult result (λ _. new ≡ told) (λ _. new ≡ broken old)

-- After any prefix of these steps, from this moment on, each file that a crash may leave has P.
abbrev pub LeftOnTheWay : Moment → List FileStep → (List ℕ → Type 0) → Type 0
LeftOnTheWay m steps P =
    (many : ℕ) (file : List ℕ) → many ≤ length steps → Left (carried m (take many steps)) file → P file

-- a crash after a beginning of these steps, or after all of them, may leave this file
abbrev pub MayLeave : Moment → List FileStep → List ℕ → Type 0
MayLeave m steps file = (many : ℕ) × (many ≤ length steps) × Left (carried m (take many steps)) file

-- Carrying out the list leads from its start to the file now. A crash on the way leaves what the disk says.
pub record Accounts (d : Listing) : Type 0 where
  pub ends : d.now ≡ carried d.begun d.steps
  pub way : LeftOnTheWay d.begun d.steps (LeftSince (d.now ∷ d.past) 0)

-- the bytes, the list, whether all was synced, and the history agree
pub record Agrees (bytes : List ℕ) (steps : List Step) (calm : Bool) (h : CallHistory) : Type 0 where
  pub same : bytes ≡ h.now.bytes
  pub calm_is : calm ≡ is_calm h.now
  pub accounts : Accounts (listing_of h steps false)
