-- Turns of a checkpoint, one after another: where they lead, and how many make room. (Own.)
use Rattle.std.specs.Prelude.{◌≡◌, ℕ, ◌+◌, ◌-◌, ◌≤◌, false, ◌&&◌, ◌⊎◌, List, [], ◌∷◌, length, if◌then◌else◌, nat_lt}
use Rattle.im_types.specs.Types.{LAST, layout_in_use, area_pages, Header}
use Rattle.im_journal.specs.Holding.{JournalState, room_after, to_sweep}
use Rattle.im_checkpoint.specs.declared.TurnDone.{TheVariants.Idle, TurnDone}
use Rattle.im_checkpoint.specs.Step.{CheckpointState, NoCheckpoint, PagesDone, PagesLeft, Step, Synced}
use Rattle.im_checkpoint.specs.Turns.{is_due, next_header, Turned}
use Rattle.im_engine.specs.State.{EngineState, journal_of}
use Rattle.im_turning.specs.declared.TheConstants.{MOST_TURNS}

-- where an engine stands: the header in force, the progress of the next one, the count of commands, and the room
pub record Point : Type 0 where
  pub header : Header
  pub step : Step
  pub count : ℕ
  pub room : ℕ

-- where this engine stands
abbrev pub point_of : {D : Type 0} → EngineState D → Point
point_of s = record { header = s.header; step = s.step; count = s.count; room = s.room }

-- the checkpoint there
abbrev pub checkpoint_at : Point → CheckpointState
checkpoint_at p = record { header = p.header; step = p.step }

-- the journal there
abbrev pub point_journal : Point → JournalState
point_journal p = journal_of p.header p.count p.room

-- the point behind a command that is put on the disk
abbrev pub with_one : Point → Point
with_one p = record p { count = p.count + 1; room = room_after p.count 1 p.room }

-- a turn that does this leads from one point to the other
abbrev pub TurnsInto : Point → TurnDone → Point → Type 0
TurnsInto p done q = Turned (checkpoint_at p) (point_journal p) done (checkpoint_at q) (point_journal q)

-- these turns, the last first, lead from one point to the other
abbrev pub TurnsLead : List TurnDone → Point → Point → Type 0
TurnsLead [] p q = q ≡ p
TurnsLead (done ∷ before) p q = (mid : Point) × (TurnsLead before p mid × TurnsInto mid done q)

-- no checkpoint is under way, no slot is to be swept, and no checkpoint is due
pub record IsAtRest (p : Point) : Type 0 where
  pub step : p.step ≡ NoCheckpoint
  pub swept : to_sweep (point_journal p) ≡ 0
  pub due : is_due p.header (point_journal p) ≡ false

-- this many turns lead from one point to the other
abbrev pub HasTurned : ℕ → Point → Point → Type 0
HasTurned many p q = (turns : List TurnDone) × (TurnsLead turns p q × (length turns ≡ many))

-- these turns came to an end: the last one had nothing to do, or they are as many as are taken at most
abbrev pub HaveEnded : List TurnDone → Type 0
HaveEnded turns = ((before : List TurnDone) × (turns ≡ Idle ∷ before)) ⊎ (MOST_TURNS ≤ length turns)

-- turns led from one point to the other, and there is room for this many commands, or the turns came to an end
pub record HasMadeRoom (least : ℕ) (p q : Point) : Type 0 where
  pub turns : List TurnDone
  pub lead : TurnsLead turns p q
  pub room : (least ≤ q.room) ⊎ HaveEnded turns

-- no further turn makes room there: turns that led there came to an end
abbrev pub IsSpent : Point → Type 0
IsSpent q = (p : Point) × ((turns : List TurnDone) × (TurnsLead turns p q × HaveEnded turns))

-- ---- how many turns are enough

-- the turns of the checkpoint that is due, with this header in force and after this many commands: none if none is due
abbrev pub due_turns : Header → ℕ → ℕ
due_turns h count = if nat_lt h.count count && nat_lt h.generation LAST then area_pages layout_in_use h.sizes + 3 else 0

-- the turns of the one that is due behind a checkpoint of the memory after `from` commands
abbrev pub later_turns : Header → ℕ → ℕ → ℕ
later_turns h from count = due_turns (next_header h from) count

-- the turns up to where no checkpoint is under way or due, sweeps aside
abbrev pub checkpoint_turns : Step → Header → ℕ → ℕ
checkpoint_turns NoCheckpoint h count = due_turns h count
checkpoint_turns (PagesLeft from left) h count = length left + 2 + later_turns h from count
checkpoint_turns (PagesDone from) h count = 2 + later_turns h from count
checkpoint_turns (Synced from) h count = 1 + later_turns h from count

-- so many turns make room for this many commands, or leave nothing to do
abbrev pub enough_turns : ℕ → Point → ℕ
enough_turns least p = (least - p.room) + checkpoint_turns p.step p.header p.count

-- a checkpoint whose pages are being written has one that is left
abbrev pub HasPageLeft : Step → Type 0
HasPageLeft (PagesLeft from []) = ⊥
HasPageLeft _ = Unit {0}
