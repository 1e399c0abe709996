-- A group of commands in the slots of a ring: what stands there, and how it is written.
use Rattle.std.specs.Prelude.{◌≡◌, ℕ, zero, suc, ◌+◌, ◌<◌, ◌≤◌, ◌≢◌, ◌⊎◌, List, [], ◌∷◌, length, drop, slice_index}
use Rattle.im_types.specs.Types.{Command, MAX_GROUP, LAST, slot_body, FitsCommand, Ring, slot_offset, slot}
use Rattle.im_disk.specs.Moment.{Left, Moment}
use Rattle.im_journal.specs.Gates.{IsRing}

-- the group count of the slot behind k others, in a group of `many` commands
abbrev pub count_at : ℕ → ℕ → ℕ
count_at group zero = group
count_at group (suc k) = 0

-- This many commands, from this sequence number on, can go as one group into this ring: once round it at most, and no
-- further than the last count.
pub record FitsRing (base slots s n : ℕ) : Type 0 where
  pub ring : IsRing base slots
  pub few : n ≤ MAX_GROUP
  pub once_round : n ≤ slots
  pub last : s + n ≤ LAST

-- behind the gates of the slots from sequence number s on are these commands, the first with this group count
abbrev pub HasBodies : Ring → ℕ → ℕ → List Command → List ℕ → Type 0
HasBodies ring group s [] file = Unit {0}
HasBodies ring group s (command ∷ commands) file = (drop 1 (slot ring s file) ≡ slot_body group s command)
    × HasBodies ring 0 (s + 1) commands file

-- the numbers of each command fit their fields
abbrev pub AllFit : List Command → Type 0
AllFit [] = Unit {0}
AllFit (command ∷ commands) = FitsCommand command × AllFit commands

-- byte i isn't behind the gate of any of n slots, from the slot of sequence number s on
abbrev pub IsNoBody : Ring → ℕ → ℕ → ℕ → Type 0
IsNoBody ring s n i = (k : ℕ) → k < n → (i ≤ slot_offset ring (s + k)) ⊎ (slot_offset ring (s + k) + 64 ≤ i)

-- the files agree outside what is behind the gates of n slots, from the slot of sequence number s on
pub record SameButBodies (ring : Ring) (s n : ℕ) (c d : List ℕ) : Type 0 where
  pub size : length d ≡ length c
  pub same : (i : ℕ) → IsNoBody ring s n i → slice_index d i ≡ slice_index c i

-- the files agree outside that and the gate of the first of these slots: the bytes of a group
pub record SameButGroup (ring : Ring) (s n : ℕ) (c d : List ℕ) : Type 0 where
  pub size : length d ≡ length c
  pub same : (i : ℕ) → i ≢ slot_offset ring s → IsNoBody ring s n i → slice_index d i ≡ slice_index c i

-- outside those bodies, the file is one that could be left
pub record MayWriteBodies (ring : Ring) (s n : ℕ) (m : Moment) (file : List ℕ) : Type 0 where
  pub from : List ℕ
  pub left : Left m from
  pub same : SameButBodies ring s n from file

-- the bodies of a group are written, and the other bytes are as they were
pub record AreWritten (ring : Ring) (s : ℕ) (commands : List Command) (old new : Moment) : Type 0 where
  pub kept : SameButBodies ring s (length commands) old.bytes new.bytes
  pub bodies : HasBodies ring (length commands) s commands new.bytes
  pub fits : AllFit commands

-- the same, and they are on the disk for good
pub record AreLaid (ring : Ring) (s : ℕ) (commands : List Command) (old new : Moment) : Type 0 where
  pub kept : SameButBodies ring s (length commands) old.bytes new.bytes
  pub bodies : HasBodies ring (length commands) s commands new.bytes
  pub fits : AllFit commands
  pub calm : new.ranges ≡ []
