-- The progress of a checkpoint. (Own.)
use Rattle.std.specs.Prelude.{◌≡◌, ℕ, ◌+◌, ◌<◌, ◌≤◌, Bool, true, List, [], ◌∷◌, length}
use Rattle.im_types.specs.Types.{LAST, layout_in_use, area_pages, Header}
use Rattle.im_pages.specs.PageSets.{has}
use Rattle.im_checkpoint.specs.declared.checkpoint.Phase.{Phase}
use Rattle.im_checkpoint.specs.declared.checkpoint.Phase.TheVariants.{NoCheckpoint as None_yet}
use Rattle.im_checkpoint.specs.declared.checkpoint.Phase.TheVariants.{PagesDone as All_written, PagesLeft as Some_left}
use Rattle.im_checkpoint.specs.declared.checkpoint.Phase.TheVariants.{Synced as On_disk}

-- No checkpoint. Or, of the memory after this count of commands: these pages are left to be written, or all are
-- written, or all are on the disk with the other header's gate closed.
pub data Step : Type 0 where
  NoCheckpoint : Step
  PagesLeft : ℕ → List ℕ → Step
  PagesDone : ℕ → Step
  Synced : ℕ → Step

-- the header in force, and the progress of the next area
pub record CheckpointState : Type 0 where
  pub header : Header
  pub step : Step

-- A checkpoint with its pages: those that changed since the last checkpoint began, and copies of pages as they were.
-- The older set has the pages that changed between the start of the checkpoint before the last one and the start of the
-- last one.
pub record PagedCheckpoint : Type 0 where
  pub state : CheckpointState
  pub recent : List Bool
  pub older : List Bool
  pub copies : List (List ℕ)

-- The pages that changed since the last checkpoint began. The older set has those that changed between the start of the
-- checkpoint before it and its own start.
pub record Changed : Type 0 where
  pub recent : List Bool
  pub older : List Bool

-- the pages of a checkpoint that changed
abbrev pub changed_in : PagedCheckpoint → Changed
changed_in c = record { recent = c.recent; older = c.older }

-- the state with these pages left
abbrev pub pages_step : ℕ → List ℕ → Step
pages_step count [] = PagesDone count
pages_step count (page ∷ left) = PagesLeft count (page ∷ left)

-- a checkpoint is under way
abbrev pub IsUnderWay : Step → Type 0
IsUnderWay NoCheckpoint = ⊥
IsUnderWay (PagesLeft count left) = Unit {0}
IsUnderWay (PagesDone count) = Unit {0}
IsUnderWay (Synced count) = Unit {0}

-- the turns until the header of the other area is in force: one for each page that is left, and two more
abbrev pub turns_left : Step → ℕ
turns_left NoCheckpoint = 0
turns_left (PagesLeft count left) = length left + 2
turns_left (PagesDone count) = 2
turns_left (Synced count) = 1

-- the pages that are left
abbrev pub left_in : Step → List ℕ
left_in NoCheckpoint = []
left_in (PagesLeft count left) = left
left_in (PagesDone count) = []
left_in (Synced count) = []

-- the state that a checkpoint's fields stand for
abbrev pub step_by_phase : Phase → ℕ → List ℕ → Step
step_by_phase None_yet count left = NoCheckpoint
step_by_phase Some_left count left = PagesLeft count left
step_by_phase All_written count left = PagesDone count
step_by_phase On_disk count left = Synced count

-- pages are left
abbrev pub IsPagesLeft : Step → Type 0
IsPagesLeft NoCheckpoint = ⊥
IsPagesLeft (PagesLeft count left) = Unit {0}
IsPagesLeft (PagesDone count) = ⊥
IsPagesLeft (Synced count) = ⊥

-- all pages are written
abbrev pub IsPagesDone : Step → Type 0
IsPagesDone NoCheckpoint = ⊥
IsPagesDone (PagesLeft count left) = ⊥
IsPagesDone (PagesDone count) = Unit {0}
IsPagesDone (Synced count) = ⊥

-- all pages are on the disk
abbrev pub IsSynced : Step → Type 0
IsSynced NoCheckpoint = ⊥
IsSynced (PagesLeft count left) = ⊥
IsSynced (PagesDone count) = ⊥
IsSynced (Synced count) = Unit {0}

-- a checkpoint under way leads to a generation that is possible
abbrev pub HasNext : Header → Phase → Type 0
HasNext h None_yet = Unit {0}
HasNext h Some_left = h.generation < LAST
HasNext h All_written = h.generation < LAST
HasNext h On_disk = h.generation < LAST

-- The fields of a checkpoint. Its area is one of two, and each set is of an area's pages. The next page is one of those
-- left, if there are any. There is a place for a copy of each page.
pub record IsCheckpoint (h : Header) (mark : Phase) (recent older left named : List Bool) (next : ℕ)
    (copies : List (List ℕ)) : Type 0 where
  pub number : h.area ≤ 1
  pub recent_size : length recent ≡ area_pages layout_in_use h.sizes
  pub older_size : length older ≡ area_pages layout_in_use h.sizes
  pub left_size : length left ≡ area_pages layout_in_use h.sizes
  pub named_size : length named ≡ area_pages layout_in_use h.sizes
  pub next_low : mark ≡ Some_left → next < length left
  pub next_left : mark ≡ Some_left → has left next ≡ true
  pub space : length copies ≡ area_pages layout_in_use h.sizes
  pub later : HasNext h mark
