-- What a journal holds, with no walk through its slots: the longest row of whole groups, and the room behind it. (Own.)
use Rattle.std.specs.Prelude.{◌≡◌, ℕ, zero, suc, ◌+◌, ◌<◌, ◌≤◌, true, false, ◌⊎◌, List, [], ◌∷◌, ◌++◌, length}
use Rattle.std.specs.Prelude.{if◌then◌else◌, ◌==◌, slice_get, Some}
use Rattle.im_types.specs.Types.{Command, MAX_GROUP, LAST, is_open, group_of, sequence_of, read_in, Ring, Tail, slot}
use Rattle.im_types.specs.Types.{continues}

-- the count in the slot of a group's command: that of all its commands for the first one, and 0 for each other
abbrev pub count_in : List Command → ℕ → ℕ
count_in group zero = length group
count_in group (suc i) = 0

-- The slots from sequence number s on hold a group: 1 to 16 commands, none past the last number of all. The gate of the
-- first slot is open, and each command is spelled in a slot of its own, under its own number.
pub record HoldsGroup (ring : Ring) (s : ℕ) (group : List Command) (file : List ℕ) : Type 0 where
  pub some : 0 < length group
  pub few : length group ≤ MAX_GROUP
  pub low : s + length group ≤ LAST
  pub opened : is_open (slot ring s file) ≡ true
  pub counted : group_of (slot ring s file) ≡ length group
  pub numbered : (i : ℕ) → i < length group → sequence_of (slot ring (s + i) file) ≡ s + i
  pub spelled : (i : ℕ) → i < length group
      → read_in (count_in group i) (slot ring (s + i) file) ≡ slice_get group i

-- the commands of groups, in order
abbrev pub commands_of_groups : List (List Command) → List Command
commands_of_groups [] = []
commands_of_groups (group ∷ groups) = group ++ commands_of_groups groups

-- groups in a row, from sequence number s on
abbrev pub HoldsRow : Ring → ℕ → List (List Command) → List ℕ → Type 0
HoldsRow ring s [] file = Unit {0}
HoldsRow ring s (group ∷ groups) file =
    HoldsGroup ring s group file × HoldsRow ring (s + length group) groups file

-- no group begins at this sequence number
abbrev pub StopsAt : Ring → ℕ → List ℕ → Type 0
StopsAt ring s file = continues (slot ring s file) s ≡ false

-- The longest row of groups from a sequence number on: at most once round the ring, and no group begins behind it.
pub record IsLongestRow (ring : Ring) (first : ℕ) (groups : List (List Command)) (file : List ℕ) : Type 0 where
  pub row : HoldsRow ring first groups file
  pub round : length (commands_of_groups groups) ≤ ring.slots
  pub ends : (length (commands_of_groups groups) ≡ ring.slots)
      ⊎ StopsAt ring (first + length (commands_of_groups groups)) file

-- these commands are those of the longest row
pub record HasLongestRow (ring : Ring) (first : ℕ) (file : List ℕ) (commands : List Command) : Type 0 where
  pub groups : List (List Command)
  pub longest : IsLongestRow ring first groups file
  pub are : commands ≡ commands_of_groups groups

-- these are the slots from a sequence number on, in their order
abbrev pub AreSlotsFrom : Ring → ℕ → List ℕ → List (List ℕ) → Type 0
AreSlotsFrom ring first file slots =
    (i : ℕ) → i < length slots → slice_get slots i ≡ Some (slot ring (first + i) file)

-- Behind a run of so many commands come so many closed gates, up to the first open one or once round the ring. Each
-- slot from there on has the number of a command before the run.
pub record AreClosedBehind (ring : Ring) (first count closed : ℕ) (file : List ℕ) : Type 0 where
  pub round : count + closed ≤ ring.slots
  pub shut : (i : ℕ) → i < closed → is_open (slot ring (first + count + i) file) ≡ false
  pub ends : (count + closed ≡ ring.slots) ⊎ (is_open (slot ring (first + count + closed) file) ≡ true)
  pub stale : (i : ℕ) → count + closed ≤ i → i < ring.slots → sequence_of (slot ring (first + i) file) < first

-- A journal's tail: the commands of the longest row, and the closed gates behind it as room, none at the last count.
pub record HasTail (ring : Ring) (first : ℕ) (file : List ℕ) (t : Tail) : Type 0 where
  pub run : HasLongestRow ring first file t.commands
  pub closed : ℕ
  pub behind : AreClosedBehind ring first (length t.commands) closed file
  pub room : t.room ≡ (if first + length t.commands == LAST then 0 else closed)
