-- Closing the gates of a ring's slots.
use Rattle.std.specs.Prelude.{◌≡◌, ℕ, ◌+◌, ◌*◌, ◌^◌, ◌<◌, List, [], length, slice_index}
use Rattle.im_types.specs.Types.{open_gate, Ring, slot_offset}
use Rattle.im_disk.specs.{Moment.Left, Moment.Moment, Since.SameBut}

-- the byte that closes a gate; any byte but that of an open gate would do
abbrev pub closed_gate : ℕ
closed_gate = 0

-- a ring of slots at this offset: it has at least one slot, and each of its bytes has a number
abbrev pub IsRing : ℕ → ℕ → Type 0
IsRing base slots = (0 < slots) × (base + 64 * slots < 2 ^ 63)

-- the files agree outside the gates of n slots, from the slot of sequence number s on
pub record SameButGates (ring : Ring) (s n : ℕ) (c d : List ℕ) : Type 0 where
  pub size : length d ≡ length c
  pub same : (i : ℕ) → ((k : ℕ) → k < n → i ≡ slot_offset ring (s + k) → ⊥) → slice_index d i ≡ slice_index c i

-- outside those gates, the file is one that could be left
pub record MayClose (ring : Ring) (s n : ℕ) (m : Moment) (file : List ℕ) : Type 0 where
  pub from : List ℕ
  pub left : Left m from
  pub same : SameButGates ring s n from file

-- those gates are closed
abbrev pub HasClosed : Ring → ℕ → ℕ → List ℕ → Type 0
HasClosed ring s n file = (k : ℕ) → k < n → slice_index file (slot_offset ring (s + k)) ≡ closed_gate

-- Those gates are closed on the disk for good, and all other bytes are as they were.
pub record AreShut (ring : Ring) (s n : ℕ) (old new : Moment) : Type 0 where
  pub kept : SameButGates ring s n old.bytes new.bytes
  pub closed : HasClosed ring s n new.bytes
  pub calm : new.ranges ≡ []

-- outside the byte of a gate, the file is one that could be left
pub record MayTouch (at : ℕ) (m : Moment) (file : List ℕ) : Type 0 where
  pub from : List ℕ
  pub left : Left m from
  pub same : SameBut at 1 from file

-- The gate at this offset is open for whoever reads it now, and all other bytes are as they were. It isn't synced.
pub record HasOpened (at : ℕ) (old new : Moment) : Type 0 where
  pub kept : SameBut at 1 old.bytes new.bytes
  pub opened : slice_index new.bytes at ≡ open_gate
