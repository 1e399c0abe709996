-- What a turn of a checkpoint does, by the state that it finds. (Own.)
use Rattle.std.specs.Prelude.{◌≡◌, ℕ, ◌+◌, ◌-◌, ◌<◌, ◌≤◌, min, Bool, true, false, not, ◌&&◌, ◌≢◌, List, ◌∷◌, length}
use Rattle.std.specs.Prelude.{replicate, if◌then◌else◌, nat_lt, ◌==◌, Ok, Err, Result}
use Rattle.im_types.specs.Types.{Command, Asks, Confirm, Refusal, Device, LAST, Contents, layout_in_use, area_pages}
use Rattle.im_types.specs.Types.{Header}
use Rattle.im_pages.specs.PageSets.{has, IsWithin, pages_from, size_of, union}
use Rattle.im_pages.specs.Places.{page_of_session}
use Rattle.im_disk.specs.{declared.Disk.Ghosts, Runs.ObeysOrRefuses, Since.CallsAtMost, Since.CallsBy}
use Rattle.im_journal.specs.Holding.{JournalState, to_sweep, with_room}
use Rattle.im_memory.specs.Covering.{IsAlone, IsOfBlock, most_pages}
use Rattle.im_checkpoint.specs.declared.checkpoint.TurnDone.TheVariants.{Began, Idle, InForce, Page, Swept}
use Rattle.im_checkpoint.specs.declared.checkpoint.TurnDone.TheVariants.{Synced as SyncedNow}
use Rattle.im_checkpoint.specs.declared.checkpoint.TurnDone.{TurnDone}
use Rattle.im_checkpoint.specs.Step.{Changed, CheckpointState, left_in, NoCheckpoint, PagedCheckpoint, pages_step}
use Rattle.im_checkpoint.specs.Step.{PagesDone, PagesLeft, Step, Synced, turns_left}

-- there are commands since the header's count, and a later generation is possible
abbrev pub is_due : Header → JournalState → Bool
is_due h j = nat_lt h.count j.count && nat_lt h.generation LAST

-- the header of the other area, with this count of commands
abbrev pub next_header : Header → ℕ → Header
next_header h count = record {
  version = h.version;
  area = 1 - h.area;
  generation = h.generation + 1;
  count = count;
  sizes = h.sizes;
}

-- the run of a journal that begins at a later command
abbrev pub begun_at : ℕ → JournalState → JournalState
begun_at count j = record j { first = count }

-- no checkpoint; all pages of both areas count as changed, or only those of the other area
pub record IsIdle (h : Header) (other_alone : Bool) (c : PagedCheckpoint) : Type 0 where
  pub state : c.state ≡ record { header = h; step = NoCheckpoint }
  pub recent : c.recent ≡ replicate (area_pages layout_in_use h.sizes) (not other_alone)
  pub older : c.older ≡ replicate (area_pages layout_in_use h.sizes) other_alone

-- A checkpoint at its start. It has the current count. A set of the area's pages is left, to be written in rising
-- order, each once. It ends after at most one turn for each page of an area and two more.
pub record BeginsCheckpoint (h : Header) (count : ℕ) (new : CheckpointState) : Type 0 where
  pub changed : List Bool
  pub size : length changed ≡ area_pages layout_in_use h.sizes
  pub state : new ≡ record { header = h; step = pages_step count (pages_from 0 changed) }
  pub turns : turns_left new.step ≤ area_pages layout_in_use h.sizes + 2

-- the slots swept with one sync, `most` at most: none while a checkpoint is under way
abbrev pub swept_at_once : Step → JournalState → ℕ → ℕ
swept_at_once NoCheckpoint j most = min most (to_sweep j)
swept_at_once (PagesLeft count left) j most = 0
swept_at_once (PagesDone count) j most = 0
swept_at_once (Synced count) j most = 0

-- the device calls of a sweep of at most `most` of these slots: one for each swept slot and a sync, or none without
-- slots
abbrev pub calls_for_slots : ℕ → ℕ → ℕ
calls_for_slots slots most = if slots == 0 then 0 else min most slots + 1

-- the device calls of a sweep of a journal: none while a checkpoint is under way
abbrev pub calls_to_sweep : Step → JournalState → ℕ → ℕ
calls_to_sweep NoCheckpoint j most = calls_for_slots (to_sweep j) most
calls_to_sweep (PagesLeft count left) j most = 0
calls_to_sweep (PagesDone count) j most = 0
calls_to_sweep (Synced count) j most = 0

-- What a turn does, by the state that it finds.
pub record Turned (old : CheckpointState) (j : JournalState) (answer : TurnDone) (new : CheckpointState)
    (k : JournalState) : Type 0 where
  pub swept : old.step ≡ NoCheckpoint → 0 < to_sweep j → (answer ≡ Swept) × (new ≡ old)
      × (k ≡ with_room j (min 3 (to_sweep j)))
  pub began : old.step ≡ NoCheckpoint → to_sweep j ≡ 0 → is_due old.header j ≡ true → (answer ≡ Began)
      × BeginsCheckpoint old.header j.count new × (k ≡ j)
  pub idle : old.step ≡ NoCheckpoint → to_sweep j ≡ 0 → is_due old.header j ≡ false → (answer ≡ Idle) × (new ≡ old)
      × (k ≡ j)
  pub page : (count : ℕ) (i : ℕ) (left : List ℕ) → old.step ≡ PagesLeft count (i ∷ left)
      → (answer ≡ Page i) × (new ≡ record { header = old.header; step = pages_step count left }) × (k ≡ j)
  pub synced : (count : ℕ) → old.step ≡ PagesDone count → (answer ≡ SyncedNow)
      × (new ≡ record { header = old.header; step = Synced count }) × (k ≡ j)
  pub in_force : (count : ℕ) → old.step ≡ Synced count
      → (answer ≡ InForce) × (new ≡ record { header = next_header old.header count; step = NoCheckpoint })
      × (k ≡ begun_at count j)

-- What a turn does with the changed pages. `step` is the progress after it.
pub record Moved (old : Changed) (answer : TurnDone) (step : Step) (new : Changed) : Type 0 where
  -- a checkpoint that begins writes, in rising order, exactly the pages that changed since the other area's last
  -- checkpoint began; no page counts as changed since its own start
  pub begun : answer ≡ Began → (left_in step ≡ pages_from 0 (union old.older old.recent)) × (new.older ≡ old.recent)
      × (new.recent ≡ replicate (length old.older) false)
  -- any other turn leaves the pages
  pub stays : answer ≢ Began → (new.older ≡ old.older) × (new.recent ≡ old.recent)

-- At most this many pages are added to those that changed, and none is removed.
pub record AddsAtMost (most : ℕ) (old new : Changed) : Type 0 where
  pub older : new.older ≡ old.older
  pub size : length new.recent ≡ length old.recent
  pub kept : IsWithin old.recent new.recent
  pub few : size_of new.recent ≤ size_of old.recent + most

-- the set has the page of the session of the command's element
abbrev pub HasOwn : Contents → Command → List Bool → Type 0
HasOwn m (Asks r) set = has set (page_of_session (length m.cells) (length m.windows) r.element) ≡ true
HasOwn m (Confirm element upto) set = has set (page_of_session (length m.cells) (length m.windows) element) ≡ true

-- What an accepted command adds to the changed pages.
pub record AddsPages (m : Contents) (command : Command) (old new : Changed) : Type 0 where
  -- at most as many pages as it may change
  pub most : AddsAtMost (most_pages m command) old new
  -- the page of its own session
  pub own : HasOwn m command new.recent
  -- a command on a block, one whose cell isn't there, and a confirmation add just these
  pub block : IsOfBlock m command old.recent new.recent
  pub alone : IsAlone m command old.recent new.recent

-- at most this many device calls come before this answer: by what was done, and four before a refusal
abbrev pub most_calls : Result TurnDone Refusal → ℕ
most_calls (Ok Idle) = 0
most_calls (Ok Began) = 0
most_calls (Ok (Page i)) = 1
most_calls (Ok SyncedNow) = 3
most_calls (Ok InForce) = 4
most_calls (Ok Swept) = 4
most_calls (Err refusal) = 4

-- A turn makes at most the calls of the disk that its answer says. It fails if and only if a call does.
abbrev pub MakesTurn : {D : Type 0} → Ghosts D → D → D → Result TurnDone Refusal → Type 0
MakesTurn disk old new result =
    ObeysOrRefuses disk old new result (λ e. e ≡ Device) (CallsAtMost disk.past old new (most_calls result))

-- A sweep makes this many calls of the disk, or no more if it fails. It fails if and only if a call does.
abbrev pub MakesSweep : {D : Type 0} → Ghosts D → D → D → ℕ → Result ℕ Refusal → Type 0
MakesSweep disk old new n result =
    ObeysOrRefuses disk old new result (λ e. e ≡ Device) (CallsBy disk.past old new n result)
