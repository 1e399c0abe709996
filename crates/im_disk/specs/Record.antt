-- The moments of a disk in memory, from its bytes and the record of its calls, newest first.
use Rattle.std.specs.Prelude.{ℕ, ◌+◌, ◌-◌, ◌≤◌, List, [], ◌∷◌, reverse, length, take, replicate}
use Rattle.im_disk.specs.declared.memory.Crash.{Crash, TheVariants.Byte, TheVariants.Kept, TheVariants.Lost}
use Rattle.im_disk.specs.{declared.record.DeviceCall.DeviceCall, Moment.Moment, Moment.overlaid, Recording.Recording}
use Rattle.im_disk.specs.declared.record.DeviceCall.TheVariants.{Other, Synced, Wrote}

-- the ranges since the last sync
abbrev pub ranges_of : List DeviceCall → List (ℕ × ℕ)
ranges_of [] = []
ranges_of (Other ∷ calls) = ranges_of calls
ranges_of (Wrote at old ∷ calls) = (at, length old.items) ∷ ranges_of calls
ranges_of (Synced ∷ calls) = []

-- the bytes before a call
abbrev pub before : DeviceCall → List ℕ → List ℕ
before Other bytes = bytes
before (Wrote at old) bytes = overlaid bytes at old.items
before Synced bytes = bytes

-- the bytes at the last sync: the writes since then are undone, newest first
abbrev pub settled_of : List ℕ → List DeviceCall → List ℕ
settled_of bytes [] = bytes
settled_of bytes (Other ∷ calls) = settled_of bytes calls
settled_of bytes (Wrote at old ∷ calls) = settled_of (overlaid bytes at old.items) calls
settled_of bytes (Synced ∷ calls) = bytes

-- the bytes with this byte over each of the ranges
abbrev pub filled : ℕ → List ℕ → List (ℕ × ℕ) → List ℕ
filled byte bytes [] = bytes
filled byte bytes (r ∷ rs) = filled byte (overlaid bytes r.0 (replicate r.1 byte)) rs

-- what a crash of this kind leaves of the bytes
abbrev pub left_by : Crash → List ℕ → List DeviceCall → List ℕ
left_by Kept bytes calls = bytes
left_by Lost bytes calls = settled_of bytes calls
left_by (Byte byte) bytes calls = filled byte bytes (ranges_of calls)

-- the moment given by bytes and a record of calls
abbrev pub moment_of : List ℕ → List DeviceCall → Moment
moment_of bytes calls = record { bytes = bytes; ranges = ranges_of calls }

-- the moments before each of the calls
abbrev pub past_of : List ℕ → List DeviceCall → List Moment
past_of bytes [] = []
past_of bytes (call ∷ calls) = moment_of (before call bytes) calls ∷ past_of (before call bytes) calls

-- the ranges lie in a file of this length
abbrev pub LieWithin : ℕ → List (ℕ × ℕ) → Type 0
LieWithin size [] = Unit {0}
LieWithin size (r ∷ rs) = (r.0 + r.1 ≤ size) × LieWithin size rs

-- What a disk in memory shows. Its calls come oldest first here. The first `begun` of them came before its last crash.
abbrev pub shown : List ℕ → List DeviceCall → ℕ → ℕ → Recording
shown bytes calls begun failures = record {
  moment = moment_of bytes (reverse calls);
  past = take (length calls - begun) (past_of bytes (reverse calls));
  settled = settled_of bytes (reverse calls);
  failures = failures;
}

-- a record of calls that can stand beside these bytes
pub record IsSound (bytes : List ℕ) (calls : List DeviceCall) (begun : ℕ) : Type 0 where
  pub within : LieWithin (length bytes) (ranges_of (reverse calls))
  pub begun_among : begun ≤ length calls
