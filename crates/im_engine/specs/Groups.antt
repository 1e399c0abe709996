-- A group of requests that an engine serves together. (Own.)
use Rattle.std.specs.Prelude.{◌≡◌, ℕ, ◌+◌, ◌-◌, ◌<◌, ◌≤◌, Bool, true, false, ◌&&◌, ◌⊎◌, List, [], ◌∷◌, map, length}
use Rattle.std.specs.Prelude.{if◌then◌else◌, nat_lt, ◌==◌, Some, Ok, Result}
use Rattle.im_types.specs.Types.{Request, Command, Asks, Served, Refused, Refusal, Device, Failed, MAX_GROUP, LAST}
use Rattle.im_types.specs.Types.{Contents, is_accepted, as_served, is_put, reached_by_one, answers_of, reached_by_all}
use Rattle.im_types.specs.Types.{puts_of, Reached, accept_each}
use Rattle.im_disk.specs.{declared.Disk.Ghosts, Moment.Moment, Moment.Rises}
use Rattle.im_disk.specs.Since.{Calls, CallsAtMost, CallsBy, LeavesOnly}
use Rattle.im_journal.specs.Holding.{IsJournal, JournalState, longer}
use Rattle.im_memory.specs.Covering.{most_pages}
use Rattle.im_checkpoint.specs.{Keeping.IsKept, Keeping.MeansWith, Keeping.Paged, Turns.AddsAtMost}
use Rattle.im_checkpoint.specs.Step.{changed_in, CheckpointState, PagedCheckpoint}
use Rattle.im_engine.specs.State.{EngineState}

-- what an engine has reached: its memory, its count and its room
abbrev pub reached_in : {D : Type 0} → EngineState D → Reached
reached_in s = record { contents = s.memory; count = s.count; room = s.room }

-- the engine after the members of a group, one after another, with nothing ahead
abbrev pub after_group : {D : Type 0} → EngineState D → List Request → EngineState D
after_group s members = let r = reached_by_all (reached_in s) members in
    record s { memory = r.contents; count = r.count; room = r.room; ahead = [] }

-- the maximum number of pages with a record that the members may change, one after another
abbrev pub most_pages_in : Reached → List Request → ℕ
most_pages_in s [] = 0
most_pages_in s (r ∷ rs) =
    (if is_put s r then most_pages s.contents (Asks r) else 0) + most_pages_in (reached_by_one s r) rs

-- the commands that the members put on the disk
abbrev pub group_put : {D : Type 0} → EngineState D → List Request → List Command
group_put s members = puts_of (reached_in s) members

-- each member gets this refusal
abbrev pub all_refused : Refusal → List Request → List Served
all_refused refusal members = map (λ _. Refused refusal) members

-- the answers to the members, one after another
abbrev pub answers_in : {D : Type 0} → EngineState D → List Request → List Served
answers_in s members = map as_served (answers_of (reached_in s) members)

-- an engine's answers to a group, and the engine after it, on any disk
pub record GroupAnswered {D : Type 0} (old : EngineState D) (members : List Request) (answers : List Served)
    (new : EngineState D) : Type 0 where
  pub dead : old.failed ≡ true → (answers ≡ all_refused Failed members) × (new ≡ old)
  pub none : old.failed ≡ false → group_put old members ≡ [] → (answers ≡ answers_in old members) × (new ≡ old)
  pub put : old.failed ≡ false → 0 < length (group_put old members) →
      ((answers ≡ answers_in old members)
      × (new ≡ record (after_group old members) { disk = new.disk; pages = new.pages }))
      ⊎ ((answers ≡ all_refused Device members) × (new ≡ record old { disk = new.disk; failed = true }))
  -- the pages that the commands on the disk may change are added to those that changed
  pub pages : old.failed ≡ false → new.failed ≡ false
      → AddsAtMost (most_pages_in (reached_in old) members) old.pages new.pages

-- the calls of the disk that put this many commands there as one group: a write for each, one for the gate, and two
-- syncs
abbrev pub calls_for_group : ℕ → ℕ
calls_for_group many = if many == 0 then 0 else many + 3

-- these commands can be put into a journal as one group
pub record FitsGroup (j : JournalState) (commands : List Command) : Type 0 where
  pub known : IsJournal j
  pub few : length commands ≤ MAX_GROUP
  pub room : length commands ≤ j.room
  pub last : j.count + length commands ≤ LAST

-- The calls that put commands on the disk as one group: this exact number, or no more at a refusal. If there are no
-- commands, nothing can fail, and the disk is as it was.
pub record GroupPut {D : Type 0} (past : D → List Moment) (honest : Type 0) (old new : D) (commands : List Command)
    (result : Result (Unit {0}) Refusal) : Type 0 where
  pub made : honest → CallsBy past old new (calls_for_group (length commands)) result
  pub none : commands ≡ [] → (result ≡ Ok tt) × (new ≡ old)

module _ {D : Type 0} (disk : Ghosts D) (j : JournalState) (commands : List Command) (old new : D) where
  -- If the journal and the pages keep a memory on the disk that accepts these commands, each file left means the memory
  -- before all of them or after all of them.
  abbrev pub LeavesAllOrNone : Type 0
  LeavesAllOrNone =
      (c : CheckpointState) (x : Paged) (m after : Contents) → accept_each m commands ≡ Some after
      → IsKept c x m j (disk.now old)
      → LeavesOnly disk.now disk.past old new
      (λ file. MeansWith m j file ⊎ MeansWith after (longer (length commands) j) file)

  -- they then keep the memory after the commands, with the next journal
  abbrev pub KeepsAfter : JournalState → Type 0
  KeepsAfter next =
      (c : CheckpointState) (x : Paged) (m after : Contents) → accept_each m commands ≡ Some after
      → IsKept c x m j (disk.now old) → IsKept c x after next (disk.now new)

-- no more calls than these, and exactly these if the engine hasn't failed
pub record GroupCalls {D : Type 0} (past : D → List Moment) (old new : D) (failed : Bool) (many : ℕ) : Type 0 where
  pub exactly : failed ≡ false → Calls past old new many
  pub most : CallsAtMost past old new many

-- the checkpoint's state stays, and at most `most` more pages count as changed
pub record StaysBut (most : ℕ) (old new : PagedCheckpoint) : Type 0 where
  pub state : new.state ≡ old.state
  pub pages : AddsAtMost most (changed_in old) (changed_in new)

-- the count of failures rises exactly if the engine fails now
pub record GroupFaults (before after : Bool) (old new : ℕ) : Type 0 where
  pub failed : before ≡ false → after ≡ true → Rises old new × (old ≤ new)
  pub steady : after ≡ before → new ≡ old

-- ---- requests by the places that are left

-- the request is accepted at this memory, and there is a place for it
abbrev pub takes_request : Contents → ℕ → Request → Bool
takes_request m left r = is_accepted m (Asks r) && nat_lt 0 left

-- the places that are left after it
abbrev pub left_with : Contents → ℕ → Request → ℕ
left_with m left r = if takes_request m left r then left - 1 else left
