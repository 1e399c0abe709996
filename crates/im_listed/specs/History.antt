-- What a crash may leave of a file, from the calls of the disk over its bytes.
use Rattle.std.specs.Prelude.{ℕ, List, [], ◌∷◌, length}
use Rattle.im_disk.specs.Moment.{Moment, synced, written}
use Rattle.im_listed.specs.declared.calls.ListedCall.{ListedCall}
use Rattle.im_listed.specs.declared.calls.ListedCall.TheVariants.{Emptied, Given, Read, Synced, Written}

-- the file now, the moments before it since the list was last emptied, newest first, and the moment of that emptying
pub record CallHistory : Type 0 where
  pub now : Moment
  pub past : List Moment
  pub begun : Moment

-- a file with these bytes, each of which may be in doubt
abbrev pub given : List ℕ → Moment
given bytes = record { bytes = bytes; ranges = (0, length bytes) ∷ [] }

-- the list was emptied at this moment
abbrev pub history_from : Moment → CallHistory
history_from m = record { now = m; past = []; begun = m }

-- a moment later
abbrev pub later : Moment → CallHistory → CallHistory
later m h = record { now = m; past = h.now ∷ h.past; begun = h.begun }

-- what a call makes of it
abbrev pub history_after : ListedCall → CallHistory → CallHistory
history_after Emptied h = history_from h.now
history_after (Given bytes) h = history_from (given bytes.value.items)
history_after Read h = later h.now h
history_after (Written at bytes) h = later (written at bytes.value.items h.now) h
history_after Synced h = later (synced h.now) h

-- after these calls, newest first
abbrev pub history_of : List ListedCall → CallHistory
history_of [] = history_from (given [])
history_of (call ∷ earlier) = history_after call (history_of earlier)
