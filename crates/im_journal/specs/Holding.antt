-- A journal over a disk: what its file holds, and what an append leaves.
use Rattle.std.specs.Prelude.{◌≡◌, ℕ, zero, suc, ◌+◌, ◌-◌, ◌*◌, ◌^◌, ◌<◌, ◌≤◌, min, true, ◌≢◌, ◌⊎◌, ◌↔◌, List, [], ◌++◌}
use Rattle.std.specs.Prelude.{length, drop, if◌then◌else◌, ◌==◌, slice_index, Some, Result, option_map, IsErrOf}
use Rattle.im_types.specs.Types.{Command, Refusal, JournalFull, Device, MIN_SLOTS, MAX_SLOTS, MAX_GROUP, LAST, Limits}
use Rattle.im_types.specs.Types.{Version, layout_of, layout_in_use, ring_of, open_gate, is_open, sequence_of, Ring}
use Rattle.im_types.specs.Types.{IsBoundary, Tail, slot, tail}
use Rattle.im_disk.specs.{Moment.Left, Moment.Moment, Since.LeavesNow, Since.SameBut}
use Rattle.im_journal.specs.Groups.{AllFit, HasBodies, SameButGroup}

-- the ring of an image of a version with these limits
abbrev pub ring_in : Version → Limits → Ring
ring_in version limits =
    ring_of (layout_of version) (record { cells = limits.cells; elements = limits.elements; slots = limits.slots })

-- the ring of an image of the layout in use with these limits
abbrev pub ring_under : Limits → Ring
ring_under limits =
    ring_of layout_in_use (record { cells = limits.cells; elements = limits.elements; slots = limits.slots })

-- the ring of this many slots at this offset
abbrev pub ring_at : ℕ → ℕ → Ring
ring_at base slots = record { base = base; slots = slots }

-- a ring by itself
abbrev pub ring_alone : ℕ → Ring
ring_alone slots = record { base = 0; slots = slots }

-- The run goes from the sequence number `first` to the one before `count`, with this room behind it. The commands ahead
-- are no part of the run: their bodies are on the disk where the run goes on, and the gate before them is closed.
pub record JournalState : Type 0 where
  pub ring : Ring
  pub first : ℕ
  pub count : ℕ
  pub room : ℕ
  pub ahead : List Command

-- a journal with these numbers, and these commands ahead
abbrev pub journal_state : ℕ → ℕ → ℕ → ℕ → ℕ → List Command → JournalState
journal_state base slots first count room ahead = record {
  ring = record { base = base; slots = slots };
  first = first;
  count = count;
  room = room;
  ahead = ahead;
}

-- these commands can go on with a run as one group: there is room for all of them, and none is past the last count
pub record FitAhead (count left : ℕ) (commands : List Command) : Type 0 where
  pub few : length commands ≤ MAX_GROUP
  pub room : length commands ≤ left
  pub last : count + length commands ≤ LAST

-- the run and the room go once round the ring at most, and no further than the last count
pub record IsJournal (j : JournalState) : Type 0 where
  pub enough_slots : MIN_SLOTS ≤ j.ring.slots
  pub few_slots : j.ring.slots ≤ MAX_SLOTS
  pub inside : j.ring.base + 64 * j.ring.slots < 2 ^ 63
  pub begun : j.first ≤ j.count
  pub once_round : j.count + j.room ≤ j.first + j.ring.slots
  pub to_last : j.count ≤ LAST
  pub full_at_last : j.count ≡ LAST → j.room ≡ 0
  pub ahead : FitAhead j.count j.room j.ahead

-- these commands stand behind the gates of the slots from this sequence number on, as one group
pub record StandAhead (ring : Ring) (s : ℕ) (commands : List Command) (file : List ℕ) : Type 0 where
  pub bodies : HasBodies ring (length commands) s commands file
  pub fits : AllFit commands

-- The journal is the tail of the file. A read of the file may find more room than the journal knows of. Each slot
-- behind the known room is of a command before the run, whatever its gate is. The bodies of the commands ahead stand in
-- the first slots of the room, whose gates are closed.
pub record Holds (j : JournalState) (file : List ℕ) : Type 0 where
  pub size : j.ring.base + 64 * j.ring.slots ≤ length file
  pub commands : List Command
  pub there : ℕ
  pub reads : tail j.ring j.first file ≡ Some (record { commands = commands; room = there })
  pub count : j.count ≡ j.first + length commands
  pub enough : j.room ≤ there
  pub behind : j.count < LAST → (k : ℕ) → j.room ≤ k → k < j.ring.slots - (j.count - j.first)
      → sequence_of (slot j.ring (j.count + k) file) < j.first
  pub laid : StandAhead j.ring j.count j.ahead file

-- the journal is the tail of each file that a crash at this moment may leave
abbrev pub AllHold : JournalState → Moment → Type 0
AllHold j m = (file : List ℕ) → Left m file → Holds j file

-- the room behind n commands, the first of them with this sequence number, that take the room that was there
abbrev pub room_after : ℕ → ℕ → ℕ → ℕ
room_after count n room = if count + n == LAST then 0 else room - n

-- what is ahead still, once so many commands were added at the end of the run
abbrev pub ahead_after : {X : Type 0} → ℕ → List X → List X
ahead_after zero ahead = ahead
ahead_after (suc n) ahead = []

-- the journal with n commands more
abbrev pub longer : ℕ → JournalState → JournalState
longer n j = record j {
  count = j.count + n;
  room = room_after j.count n j.room;
  ahead = ahead_after n j.ahead;
}

-- the journal with these commands ahead
abbrev pub with_ahead : List Command → JournalState → JournalState
with_ahead commands j = record j { ahead = commands }

-- the number of slots outside the run and the known room; at the last count no slot can become room
abbrev pub to_sweep : JournalState → ℕ
to_sweep j = if j.count == LAST then 0 else j.ring.slots - (j.count - j.first) - j.room

-- a tail with these commands more, the first of them with this sequence number
abbrev pub longer_tail : ℕ → List Command → Tail → Tail
longer_tail count commands t = record {
  commands = t.commands ++ commands;
  room = room_after count (length commands) t.room;
}

-- the journal's run may begin anew at this sequence number: no group goes on behind the commands before it
abbrev pub MayBeginAt : JournalState → ℕ → List ℕ → Type 0
MayBeginAt j first file = IsBoundary j.ring j.first (first - j.first) file

-- a run may begin anew in the second file wherever it may in the first
abbrev pub KeepsBoundaries : Ring → ℕ → List ℕ → List ℕ → Type 0
KeepsBoundaries ring first c d = (k : ℕ) → IsBoundary ring first k c → IsBoundary ring first k d

-- Outside n slots behind the run, the file is one that could be left. Its tail has these commands at its end, behind
-- one open gate.
pub record IsAdded (n : ℕ) (j : JournalState) (commands : List Command) (m : Moment) (file : List ℕ) : Type 0 where
  pub from : List ℕ
  pub left : Left m from
  pub same : SameButGroup j.ring j.count n from file
  pub gate : is_open (slot j.ring j.count file) ≡ true
  pub bodies : HasBodies j.ring (length commands) j.count commands file
  pub reads : tail j.ring j.first file ≡ option_map (longer_tail j.count commands) (tail j.ring j.first from)
  pub boundaries : KeepsBoundaries j.ring j.first from file

-- The commands are on the disk for good, and the next journal is the tail of each file left. The bytes outside n slots
-- behind the run are as they were.
pub record Puts (n : ℕ) (j next : JournalState) (commands : List Command) (old new : Moment) : Type 0 where
  pub added : LeavesNow new (IsAdded n j commands old)
  pub holds : AllHold next new
  pub kept : SameButGroup j.ring j.count n old.bytes new.bytes
  pub calm : new.ranges ≡ []

-- the same, if no other slots are written
abbrev pub Adds : JournalState → JournalState → List Command → Moment → Moment → Type 0
Adds j next commands old new = Puts (length commands) j next commands old new

-- there is no room, or a call of the disk failed
abbrev pub IsFullOrFault : Refusal → Type 0
IsFullOrFault e = (e ≡ JournalFull) ⊎ (e ≡ Device)

-- The result is `JournalFull` exactly if this holds, and then the disk is as it was.
pub record IsFullBy {T D : Type 0} (full : Type 0) (old new : D) (result : Result T Refusal) : Type 0 where
  pub exactly : (IsErrOf result JournalFull) ↔ full
  pub untouched : IsErrOf result JournalFull → new ≡ old

-- the commands are put so, or the tail is as it was
pub record MayPut (n : ℕ) (j : JournalState) (commands : List Command) (m : Moment) (file : List ℕ) : Type 0 where
  pub from : List ℕ
  pub left : Left m from
  pub same : SameButGroup j.ring j.count n from file
  pub reads : (tail j.ring j.first file ≡ tail j.ring j.first from)
      ⊎ (tail j.ring j.first file ≡ option_map (longer_tail j.count commands) (tail j.ring j.first from))
  pub boundaries : KeepsBoundaries j.ring j.first from file

-- the same, if no other slots are written
abbrev pub MayAppend : JournalState → List Command → Moment → List ℕ → Type 0
MayAppend j commands m file = MayPut (length commands) j commands m file

-- the slots of the commands ahead, and of those that come behind them
abbrev pub slots_ahead : JournalState → List Command → ℕ
slots_ahead j next = length j.ahead + length next

-- there is no room for both
abbrev pub IsFullFor : JournalState → List Command → Type 0
IsFullFor j next = (j.room < slots_ahead j next) ⊎ (LAST < j.count + slots_ahead j next)

-- the journal with this much room more
abbrev pub with_room : JournalState → ℕ → JournalState
with_room j more = record j { room = j.room + more }

-- The files agree outside the ring, and both have the same commands in the journal's run. The second one still holds
-- the journal, with the known room or more.
pub record SameRun (j : JournalState) (c d : List ℕ) : Type 0 where
  pub same : SameBut j.ring.base (64 * j.ring.slots) c d
  pub commands : List Command
  pub there : ℕ
  pub before : tail j.ring j.first c ≡ Some (record { commands = commands; room = there })
  pub found : ℕ
  pub after : tail j.ring j.first d ≡ Some (record { commands = commands; room = found })
  pub enough : j.room ≤ found
  pub holds : Holds j d
  pub boundaries : KeepsBoundaries j.ring j.first c d

-- the file has the run of one that could be left
pub record MaySweep (j : JournalState) (m : Moment) (file : List ℕ) : Type 0 where
  pub from : List ℕ
  pub left : Left m from
  pub run : SameRun j from file

-- This many slots became room: all that were to be swept, but `most` at most.
pub record IsSweptBy (most : ℕ) (j : JournalState) (n : ℕ) (next : JournalState) : Type 0 where
  pub turn : n ≡ min most (to_sweep j)
  pub room : next ≡ with_room j n

-- The same with three at most.
abbrev pub IsSwept : JournalState → ℕ → JournalState → Type 0
IsSwept j n next = IsSweptBy 3 j n next

-- The room is on the disk for good: the journal with it is the tail of each file left. The run is as it was.
pub record Sweeps (j next : JournalState) (old new : Moment) : Type 0 where
  pub holds : AllHold next new
  pub run : SameRun j old.bytes new.bytes
  pub calm : new.ranges ≡ []

-- The same where bodies are written behind the run, behind closed gates: the run and the room stay.
abbrev pub MayLay : JournalState → Moment → List ℕ → Type 0
MayLay j m file = MaySweep j m file

-- The bodies of commands are ahead on the disk for good: the journal with them is the tail of each file left. The run
-- is as it was.
abbrev pub Lays : JournalState → JournalState → Moment → Moment → Type 0
Lays j next old new = Sweeps j next old new

-- what is left of the tail of a file that holds a journal, behind n of the run's commands
abbrev pub rest_behind : {j : JournalState} {file : List ℕ} → ℕ → Holds j file → Tail
rest_behind n held = record { commands = drop n held.commands; room = held.there }

-- The file's tail from a sequence number on has these commands and the room of the journal. The file holds the journal.
pub record IsTail (ring : Ring) (first : ℕ) (j : JournalState) (commands : List Command) (file : List ℕ) : Type 0 where
  pub reads : tail ring first file ≡ Some (record { commands = commands; room = j.room })
  pub holds : Holds j file

-- these are the bytes of this many slots
abbrev pub AreSlots : ℕ → List ℕ → Type 0
AreSlots slots bytes = (0 < slots) × (slots < 2 ^ 32) × (length bytes ≡ 64 * slots)

-- the gates of a ring are closed
abbrev pub AreClosed : Ring → List ℕ → Type 0
AreClosed ring file = (i : ℕ) → i < ring.slots → slice_index file (ring.base + 64 * i) ≢ open_gate
