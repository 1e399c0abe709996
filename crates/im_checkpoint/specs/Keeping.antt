-- What a checkpoint, a memory and a journal say about the file that keeps them. (Own.)
use Rattle.std.specs.Prelude.{◌≡◌, ℕ, ◌+◌, ◌-◌, ◌<◌, ◌≤◌, Bool, true, false, ◌||◌, List, [], length, take, OnOk, Some}
use Rattle.std.specs.Prelude.{Contains, Result}
use Rattle.im_types.specs.Types.{Command, LAST, Contents, layout_in_use, Sizes, page_bytes, area_pages, area_bytes}
use Rattle.im_types.specs.Types.{area_at, ring_of, area_of, record_at, Header, header_place, is_open_header, IsBoundary}
use Rattle.im_types.specs.Types.{Records, ShowsRecords, accept_each, Means}
use Rattle.{im_pages.specs.PageSets.has, im_meaning.specs.Images.IsImage, im_meaning.specs.Images.other}
use Rattle.im_disk.specs.{declared.Disk.Ghosts, Moment.Left, Moment.Moment, Since.LeavesOnly, Since.SameBut}
use Rattle.im_journal.specs.Holding.{Holds, JournalState}
use Rattle.im_memory.specs.{Covering.KeepsOutside, State.MemoryState}
use Rattle.im_image.specs.{Encoding.AreCounted, Encoding.IsAreaPage, Encoding.SameOn, Reading.HasSizes}
use Rattle.im_checkpoint.specs.{Copied.copy_of, declared.checkpoint.TurnDone.TurnDone}
use Rattle.im_checkpoint.specs.Step.{changed_in, CheckpointState, IsPagesLeft, IsSynced, IsUnderWay, left_in}
use Rattle.im_checkpoint.specs.Step.{NoCheckpoint, PagedCheckpoint, PagesDone, PagesLeft, Step, Synced, turns_left}
use Rattle.im_checkpoint.specs.Turns.{AddsPages, begun_at, Moved, next_header, Turned}

-- the file means this memory after all commands that the journal counts, with at least its room
abbrev pub MeansWith : Contents → JournalState → List ℕ → Type 0
MeansWith m j file = Means m j.count j.room file

-- this count is between the header's and the journal's
pub record IsBetween (h : Header) (j : JournalState) (count : ℕ) : Type 0 where
  pub from : h.count ≤ count
  pub to : count ≤ j.count

-- the count of a checkpoint under way is between the header's and the journal's
abbrev pub StepFits : Header → JournalState → Step → Type 0
StepFits h j NoCheckpoint = Unit {0}
StepFits h j (PagesLeft count left) = IsBetween h j count
StepFits h j (PagesDone count) = IsBetween h j count
StepFits h j (Synced count) = IsBetween h j count

-- the memory and the journal are of the sizes that the header says, and the journal's run begins at its count
pub record Fits (c : CheckpointState) (m : Contents) (j : JournalState) : Type 0 where
  pub cells : length m.cells ≡ c.header.sizes.cells
  pub elements : length m.windows ≡ c.header.sizes.elements
  pub ring : j.ring ≡ ring_of layout_in_use c.header.sizes
  pub first : j.first ≡ c.header.count
  pub step : StepFits c.header j c.step

-- no checkpoint is under way, and the memory and the journal are those of the header
pub record FitsIdle (c : CheckpointState) (m : Contents) (j : JournalState) : Type 0 where
  pub step : c.step ≡ NoCheckpoint
  pub fits : Fits c m j

-- pages are left to be written, and the memory has the header's sizes
pub record HasPagesLeft (c : CheckpointState) (m : Contents) : Type 0 where
  pub step : IsPagesLeft c.step
  pub sizes : HasSizes c.header.sizes m

-- all pages are on the disk, the journal's run begins at the header's count, and the checkpoint's count is between that
-- and the journal's
pub record IsReady (c : CheckpointState) (j : JournalState) : Type 0 where
  pub step : IsSynced c.step
  pub first : j.first ≡ c.header.count
  pub counted : StepFits c.header j c.step

-- what is ahead of a journal stays, and there is no less room
abbrev pub KeepsAhead : JournalState → JournalState → Type 0
KeepsAhead j k = (k.ahead ≡ j.ahead) × (j.room ≤ k.room)

-- What a turn that is done does.
pub record ComesTo (old : PagedCheckpoint) (j : JournalState) (m : Contents) (answer : TurnDone) (new : PagedCheckpoint)
    (k : JournalState) : Type 0 where
  -- its answer and its changes follow the table of turns
  pub turned : Turned old.state j answer new.state k
  -- so do the sets of changed pages
  pub moved : Moved (changed_in old) answer new.state.step (changed_in new)
  -- a checkpoint under way has one turn fewer to go: one for each page and two more, whatever is served in between
  pub nearer : IsUnderWay old.state.step → turns_left old.state.step ≡ turns_left new.state.step + 1
  -- the count of all commands stays
  pub count : k.count ≡ j.count
  -- and so does what is ahead of the journal
  pub ahead : KeepsAhead j k
  -- the memory and the journal still are those of the header
  pub fits : Fits new.state m k

-- what is known of pages: those that changed, copies of some, and the memory's records
pub record Paged : Type 0 where
  pub recent : List Bool
  pub older : List Bool
  pub copies : List (List ℕ)
  pub records : Records

-- a checkpoint's pages, and the records that a memory shows
abbrev pub paged : PagedCheckpoint → MemoryState → Paged
paged c m = record { recent = c.recent; older = c.older; copies = c.copies; records = m.records }

-- the page changed since the start of the checkpoint before the last one
abbrev pub has_changed : Paged → ℕ → Bool
has_changed x page = has x.older page || has x.recent page

-- the page changed since the last checkpoint began
abbrev pub changed_lately : Paged → ℕ → Bool
changed_lately x page = has x.recent page

-- a page of the area in force
abbrev pub own_page : Header → List ℕ → ℕ → List ℕ
own_page h file page = record_at page_bytes (area_of layout_in_use h.sizes h.area file) page

-- the area that isn't in force
abbrev pub other_area : Header → List ℕ → List ℕ
other_area h file = area_of layout_in_use h.sizes (other h) file

-- a page of the area that isn't in force
abbrev pub other_page : Header → List ℕ → ℕ → List ℕ
other_page h file page = record_at page_bytes (other_area h file) page

-- each page that hasn't changed is there as the memory's records spell it
abbrev pub Stand : Sizes → (ℕ → Bool) → Records → (ℕ → List ℕ) → Type 0
Stand s is_changed records on = (page : ℕ) → page < area_pages layout_in_use s → is_changed page ≡ false
    → IsAreaPage s records page (on page)

-- The pages as the checkpoint took them. Some of them are left to be written.
pub record AreTaken (s : Sizes) (x : Paged) (taken : Records) (left : List ℕ) (on : ℕ → List ℕ) : Type 0 where
  -- a page that hasn't changed since is as the checkpoint took it
  pub same : (page : ℕ) → page < area_pages layout_in_use s → changed_lately x page ≡ false
      → SameOn s taken x.records page
  -- a page that is left and has changed since was copied before it changed
  pub copied : (page : ℕ) → page < area_pages layout_in_use s → Contains left page → changed_lately x page ≡ true
      → IsAreaPage s taken page (copy_of x.copies page)
  -- a page that isn't left is in the other area as the checkpoint took it
  pub written : (page : ℕ) → page < area_pages layout_in_use s → (Contains left page → ⊥)
      → IsAreaPage s taken page (on page)
  -- the pages that are left are pages of the area
  pub inside : (page : ℕ) → Contains left page → page < area_pages layout_in_use s

-- what the checkpoint took: the records of the memory after some of the commands since the header's count; a later
-- generation is possible
pub record IsTakenAt (h : Header) (shown : Contents) (commands : List Command) (count : ℕ)
    (taken : Records) : Type 0 where
  pub many : ℕ
  pub few : many ≤ length commands
  pub count_is : count ≡ h.count + many
  pub to_last : count ≤ LAST
  pub memory : Contents
  pub accepts : accept_each shown (take many commands) ≡ Some memory
  pub counted : AreCounted h.sizes taken
  pub shows : ShowsRecords h.sizes taken memory
  pub later : h.generation < LAST

-- what a checkpoint under way says of the pages of the file that a read gives
pub record IsWriting (h : Header) (shown : Contents) (commands : List Command) (x : Paged) (count : ℕ) (left : List ℕ)
    (file : List ℕ) : Type 0 where
  pub taken : Records
  pub is_taken : IsTakenAt h shown commands count taken
  -- no group continues behind the commands that the checkpoint took
  pub boundary : IsBoundary (ring_of layout_in_use h.sizes) h.count is_taken.many file
  pub own : Stand h.sizes (has_changed x) x.records (own_page h file)
  pub others : AreTaken h.sizes x taken left (other_page h file)

-- the pages of both areas while no checkpoint is under way
pub record IsResting (h : Header) (x : Paged) (file : List ℕ) : Type 0 where
  pub own : Stand h.sizes (changed_lately x) x.records (own_page h file)
  pub others : Stand h.sizes (has_changed x) x.records (other_page h file)

-- what the state of a checkpoint says of the file that a read gives
abbrev pub KeepsStep : Header → Contents → List Command → Paged → Step → List ℕ → Type 0
KeepsStep h shown commands x NoCheckpoint file = IsResting h x file
KeepsStep h shown commands x (PagesLeft count left) file = IsWriting h shown commands x count left file
KeepsStep h shown commands x (PagesDone count) file = IsWriting h shown commands x count [] file
KeepsStep h shown commands x (Synced count) file = IsWriting h shown commands x count [] file
    × (is_open_header (header_place (other h) file) ≡ false)

-- What is known of the file that a read gives.
pub record Keeps (h : Header) (m : Contents) (j : JournalState) (file : List ℕ) : Type 0 where
  -- the memory that the area in force shows, the commands behind it, and the room that an opening would find
  pub shown : Contents
  pub commands : List Command
  pub there : ℕ
  -- the header is in force, its area shows that memory, and the journal has those commands and that room
  pub image : IsImage layout_in_use h shown commands there file
  -- the commands lead to this memory
  pub accepts : accept_each shown commands ≡ Some m
  pub count : j.count ≡ h.count + length commands
  -- the journal is that of the file, and its run begins at the header's count
  pub ring : j.ring ≡ ring_of layout_in_use h.sizes
  pub first : j.first ≡ h.count
  pub journal : Holds j file

-- without a checkpoint, or with all its pages on the disk, nothing that was written is in doubt
abbrev pub IsCalm : Step → Moment → Type 0
IsCalm NoCheckpoint now = now.ranges ≡ []
IsCalm (PagesLeft count left) now = Unit {0}
IsCalm (PagesDone count) now = Unit {0}
IsCalm (Synced count) now = now.ranges ≡ []

-- The one invariant: the file that a read gives is as the checkpoint says, and a file that a crash may leave differs
-- from it only in the area that isn't in force.
pub record IsKept (c : CheckpointState) (x : Paged) (m : Contents) (j : JournalState) (now : Moment) : Type 0 where
  pub read : Keeps c.header m j now.bytes
  -- each page that isn't known to have changed stands in its area, as far as the checkpoint has come
  pub step : KeepsStep c.header read.shown read.commands x c.step now.bytes
  pub elsewhere : (file : List ℕ) → Left now file
      → SameBut (area_at layout_in_use c.header.sizes (other c.header)) (area_bytes layout_in_use c.header.sizes)
      now.bytes file
  pub calm : IsCalm c.step now

-- What a turn's calls do to the disk: nothing that a crash may leave loses the meaning.
pub record KeepsMeaning {D T E : Type 0} (now : D → Moment) (past : D → List Moment) (old new : D) (m : Contents)
    (j : JournalState) (result : Result T E) (c : CheckpointState) (x : Paged) (k : JournalState) : Type 0 where
  -- each file that a crash may leave, within the turn and at its end, means the memory after all the journal's commands
  pub leaves : LeavesOnly now past old new (MeansWith m j)
  -- after the turn, the disk is as the new checkpoint and the new journal say
  pub kept : OnOk result (IsKept c x m k (now new))

module _ {D : Type 0} (disk : Ghosts D) (old new : D) where
  -- if the disk kept the memory and the journal so, each file that is left means them
  abbrev pub LeavesMeaning : Header → Step → Paged → Contents → JournalState → Type 0
  LeavesMeaning h step x m j = IsKept (record { header = h; step = step }) x m j (disk.now old)
      → LeavesOnly disk.now disk.past old new (MeansWith m j)

  -- if all pages were written, they are then on the disk, and the other header's gate is closed
  abbrev pub ClosesOther : Header → ℕ → Paged → Contents → JournalState → Type 0
  ClosesOther h count x m j = IsKept (record { header = h; step = PagesDone count }) x m j (disk.now old)
      → IsKept (record { header = h; step = Synced count }) x m j (disk.now new)

  -- if all pages were on the disk, the next header is then in force, and the journal's run begins later
  abbrev pub TakesOver : Header → ℕ → Paged → Contents → JournalState → Type 0
  TakesOver h count x m j = IsKept (record { header = h; step = Synced count }) x m j (disk.now old)
      → ((file : List ℕ) → Holds j file → IsBoundary j.ring j.first (count - j.first) file
      → Holds (begun_at count j) file)
      → IsKept (record { header = next_header h count; step = NoCheckpoint }) x m (begun_at count j) (disk.now new)

  -- if the memory was kept by the one checkpoint, it keeps its meaning, and the other checkpoint then keeps it
  abbrev pub StaysMeant : {T E : Type 0} → Result T E → CheckpointState → Paged → CheckpointState → Paged → Contents
      → JournalState → JournalState → Type 0
  StaysMeant result c x d y m j k = IsKept c x m j (disk.now old)
      → KeepsMeaning disk.now disk.past old new m j result d y k

  -- the same, from what is known of pages beside the records of a memory
  abbrev pub TurnKeeps : {T E : Type 0} → Result T E → PagedCheckpoint → PagedCheckpoint → MemoryState → Contents
      → JournalState → JournalState → Type 0
  TurnKeeps result c d n m j k = StaysMeant result c.state (paged c n) d.state (paged d n) m j k

  -- if the disk is honest at the end of a turn, what the image means stays, and the new checkpoint then keeps it
  abbrev pub TurnLeaves : {T E : Type 0} → Result T E → MemoryState → JournalState → PagedCheckpoint → JournalState
      → Type 0
  TurnLeaves result n j d k = disk.honest new
      → KeepsMeaning disk.now disk.past old new n.contents j result d.state (paged d n) k

-- What is done before a command acts.
pub record Prepares (old : PagedCheckpoint) (m : MemoryState) (command : Command) (new : PagedCheckpoint) : Type 0 where
  pub state : new.state ≡ old.state
  -- the pages that the command may change are added to those that changed
  pub adds : AddsPages m.contents command (changed_in old) (changed_in new)
  -- whichever records the command leaves, those of all other pages are as before
  pub others : KeepsOutside m command new.recent
  -- a page that is left and changes now for the first time is copied as it is
  pub copied : (page : ℕ) → page < area_pages layout_in_use old.state.header.sizes
      → Contains (left_in old.state.step) page → has old.recent page ≡ false → has new.recent page ≡ true
      → IsAreaPage old.state.header.sizes m.records page (copy_of new.copies page)
  -- and earlier copies stay
  pub stay : (page : ℕ) → page < area_pages layout_in_use old.state.header.sizes → has old.recent page ≡ true
      → copy_of new.copies page ≡ copy_of old.copies page
