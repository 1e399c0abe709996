-- An engine as clauses see it, and what the files mean that a crash may leave. (Own.)
use Rattle.std.specs.Prelude.{◌≡◌, ℕ, ◌+◌, Bool, true, not, ◌⊎◌, List, [], replicate, Ok, Err}
use Rattle.im_types.specs.Types.{Command, Refusal, Limits, Contents, empty_contents, step, layout_in_use, sizes_of}
use Rattle.im_types.specs.Types.{area_pages, ring_of, Header, header_of, Reached, Reads, Opens, Means}
use Rattle.{im_disk.specs.Moment.Moment, im_journal.specs.Holding.JournalState, im_journal.specs.Holding.room_after}
use Rattle.{im_image.specs.Fresh.new_header, im_checkpoint.specs.Keeping.IsKept, im_checkpoint.specs.Keeping.Paged}
use Rattle.im_memory.specs.State.{empty_records, MemoryState}
use Rattle.im_checkpoint.specs.Step.{Changed, changed_in, CheckpointState, NoCheckpoint, PagedCheckpoint, Step}

-- an engine: its disk, the header in force, the progress of the next one, the pages that changed, the memory, the count
-- of all commands, the room for more, the members of the group ahead, none of which has acted, and whether the disk has
-- failed it
pub record EngineState (D : Type 0) : Type 0 where
  pub disk : D
  pub header : Header
  pub step : Step
  pub pages : Changed
  pub memory : Contents
  pub count : ℕ
  pub room : ℕ
  pub ahead : List Command
  pub failed : Bool

-- an engine made of its parts
abbrev pub engine_of : {D : Type 0} → D → PagedCheckpoint → MemoryState → JournalState → List Command → Bool
    → EngineState D
engine_of d c m j ahead failed = record {
  disk = d;
  header = c.state.header;
  step = c.state.step;
  pages = changed_in c;
  memory = m.contents;
  count = j.count;
  room = j.room;
  ahead = ahead;
  failed = failed;
}

-- a memory is empty, and its records are those of an empty one
abbrev pub IsEmptyMemory : Limits → MemoryState → Type 0
IsEmptyMemory limits m =
    (m.contents ≡ empty_contents limits.cells limits.elements)
    × (m.records ≡ empty_records limits.cells limits.elements)

-- the file means what the engine is, with at least its room
abbrev pub MeansState : {D : Type 0} → EngineState D → List ℕ → Type 0
MeansState s file = Means s.memory s.count s.room file

-- the engine with one more accepted command, and nothing ahead
abbrev pub with_command : {D : Type 0} → EngineState D → Command → EngineState D
with_command s command = record s {
  memory = (step s.memory command).contents;
  count = s.count + 1;
  room = room_after s.count 1 s.room;
  ahead = [];
}

-- the file means what the engine is in the one state, or in the other
abbrev pub MeansEither : {D : Type 0} → EngineState D → EngineState D → List ℕ → Type 0
MeansEither s t file = MeansState s file ⊎ MeansState t file

-- the journal behind a header, with nothing ahead
abbrev pub journal_of : Header → ℕ → ℕ → JournalState
journal_of h count room = record {
  ring = ring_of layout_in_use h.sizes;
  first = h.count;
  count = count;
  room = room;
  ahead = [];
}

-- the journal of an engine, whatever is ahead
abbrev pub journal_in : {D : Type 0} → EngineState D → JournalState
journal_in s = journal_of s.header s.count s.room

-- the checkpoint of an engine
abbrev pub checkpoint_in : {D : Type 0} → EngineState D → CheckpointState
checkpoint_in s = record { header = s.header; step = s.step }

-- the pages that count as changed at first: those of the other area if the image was just formatted, else those of both
abbrev pub pages_at_first : Header → Bool → Changed
pages_at_first h formatted = let all = area_pages layout_in_use h.sizes in
    record { recent = replicate all (not formatted); older = replicate all formatted }

-- an engine over a new image: the empty memory, no command, room in every slot, the first header in force, no
-- checkpoint under way, all pages of the other area changed, and nothing ahead
abbrev pub IsNewImage : {D : Type 0} → Limits → EngineState D → Type 0
IsNewImage limits s = (s.memory ≡ empty_contents limits.cells limits.elements) × (s.count ≡ 0) × (s.room ≡ limits.slots)
    × (s.header ≡ new_header (sizes_of limits)) × (s.step ≡ NoCheckpoint) × (s.pages ≡ pages_at_first s.header true)
    × (s.ahead ≡ [])

-- opening the file gives this first fault
abbrev pub IsFirstFault : Refusal → List ℕ → Type 0
IsFirstFault fault file = Opens file (Err fault)

-- reading the file gives this header, and reaches this state
abbrev pub Finds : Header → Reached → List ℕ → Type 0
Finds h reached file = (h ≡ header_of file) × Reads layout_in_use file (Ok reached)

-- reading the file gives the engine's header, memory and count, and exactly its room
abbrev pub IsFound : {D : Type 0} → EngineState D → List ℕ → Type 0
IsFound s file = Finds s.header (record { contents = s.memory; count = s.count; room = s.room }) file

-- With no checkpoint under way, the disk keeps this memory with this journal at this moment, whatever is known of
-- pages, if all of them count as changed.
abbrev pub IsKeptIdle : Header → Contents → JournalState → Moment → Type 0
IsKeptIdle h m j now =
    (x : Paged) → x.recent ≡ replicate (area_pages layout_in_use h.sizes) true
    → IsKept (record { header = h; step = NoCheckpoint }) x m j now
