-- What an honest file would have come to, if it had given the answers of a real one.
use Rattle.std.specs.Prelude.{ℕ, zero, suc, ◌+◌, Bool, true, false, not, ◌&&◌, ◌||◌, List, [], ◌∷◌, length, take, drop}
use Rattle.std.specs.Prelude.{replicate, if◌then◌else◌, IsTrue, nat_lt, nat_le, ◌==◌, slice_index, bytes_eq}
use Rattle.im_disk.specs.Moment.{Moment, overlaid, synced, written}

-- what is known of a file from its calls and their answers
pub record Account : Type 0 where
  -- the path of the file that this is about
  pub path : List ℕ
  -- the file now, and the moments before it, newest first
  pub now : Moment
  pub past : List Moment
  -- What the failing calls still to come leave, in their order. A `Start` gives it, like the first moment.
  pub outcomes : List (List ℕ)
  -- each answer so far was one of an honest file
  pub agrees : Bool

-- the answers so far are those of an honest file
abbrev pub IsHonest : Account → Type 0
IsHonest a = IsTrue a.agrees

-- what the next failing call comes to
abbrev pub first_outcome : List (List ℕ) → List ℕ
first_outcome [] = []
first_outcome (o ∷ os) = o

-- what the failing calls after it come to
abbrev pub later_outcomes : List (List ℕ) → List (List ℕ)
later_outcomes [] = []
later_outcomes (o ∷ os) = os

-- byte i lies in one of the ranges
abbrev pub is_inside : List (ℕ × ℕ) → ℕ → Bool
is_inside [] i = false
is_inside (r ∷ rs) i = (nat_le r.0 i && nat_lt i (r.0 + r.1)) || is_inside rs i

-- Two files have the same length, and the same bytes outside the ranges. These are their bytes from i on.
abbrev pub are_same_outside : List (ℕ × ℕ) → ℕ → List ℕ → List ℕ → Bool
are_same_outside rs i [] [] = true
are_same_outside rs i [] (d ∷ ds) = false
are_same_outside rs i (c ∷ cs) [] = false
are_same_outside rs i (c ∷ cs) (d ∷ ds) = (c == d || is_inside rs i) && are_same_outside rs (i + 1) cs ds

-- after a failed write of n bytes: its range holds the outcome
abbrev pub torn_by : ℕ → ℕ → List ℕ → Moment → Moment
torn_by at n outcome m = record {
  bytes = if length outcome == n then overlaid m.bytes at outcome else m.bytes;
  ranges = (at, n) ∷ m.ranges;
}

-- after a failed sync: the ranges hold what they hold in the outcome
abbrev pub shaken_by : List ℕ → Moment → Moment
shaken_by outcome m = record {
  bytes = if are_same_outside m.ranges 0 outcome m.bytes then outcome else m.bytes;
  ranges = m.ranges;
}

-- after a write, by whether it succeeded
abbrev pub after_write : Bool → ℕ → List ℕ → Account → Account
after_write true at bytes a = record {
  path = a.path;
  now = written at bytes a.now;
  past = a.now ∷ a.past;
  outcomes = a.outcomes;
  agrees = a.agrees;
}
after_write false at bytes a = record {
  path = a.path;
  now = torn_by at (length bytes) (first_outcome a.outcomes) a.now;
  past = a.now ∷ a.past;
  outcomes = later_outcomes a.outcomes;
  agrees = a.agrees;
}

-- after a sync, by whether it succeeded
abbrev pub after_sync : Bool → Account → Account
after_sync true a = record {
  path = a.path;
  now = synced a.now;
  past = a.now ∷ a.past;
  outcomes = a.outcomes;
  agrees = a.agrees;
}
after_sync false a = record {
  path = a.path;
  now = shaken_by (first_outcome a.outcomes) a.now;
  past = a.now ∷ a.past;
  outcomes = later_outcomes a.outcomes;
  agrees = a.agrees;
}

-- After a call, by its number: the file was made anew, measured, read, written or synced, or opened at the path of
-- these bytes. Each call but the last may fail.
abbrev pub after_call : ℕ → ℕ → Bool → List ℕ → Account → Account
after_call zero len ok bytes a = record {
  path = a.path;
  now = record { bytes = replicate len 0; ranges = [] };
  past = [];
  outcomes = a.outcomes;
  agrees = a.agrees;
}
after_call (suc zero) len ok bytes a = record {
  path = a.path;
  now = a.now;
  past = a.past;
  outcomes = a.outcomes;
  agrees = a.agrees && (not ok || len == length a.now.bytes);
}
after_call (suc (suc zero)) at ok bytes a = record {
  path = a.path;
  now = a.now;
  past = a.now ∷ a.past;
  outcomes = a.outcomes;
  agrees = a.agrees && (not ok || bytes_eq bytes (take (length bytes) (drop at a.now.bytes)));
}
after_call (suc (suc (suc zero))) at ok bytes a = after_write ok at bytes a
after_call (suc (suc (suc (suc zero)))) at ok bytes a = after_sync ok a
after_call (suc (suc (suc (suc (suc more))))) at ok bytes a = record {
  path = a.path;
  now = a.now;
  past = a.past;
  outcomes = a.outcomes;
  agrees = a.agrees && bytes_eq bytes a.path;
}

-- A call with its answer: its number, an offset or a length, whether it succeeded, and the bytes.
pub record AccountedCall : Type 0 where
  pub call : ℕ
  pub at : ℕ
  pub ok : Bool
  pub bytes : List ℕ

-- the call with these numbers: which call, an offset or a length, and 1 for success
abbrev pub accounted_call : List ℕ → List ℕ → AccountedCall
accounted_call numbers bytes = record {
  call = slice_index numbers 0;
  at = slice_index numbers 1;
  ok = slice_index numbers 2 == 1;
  bytes = bytes;
}

-- a file of this path with this first moment after these calls, newest first; its failing calls come to these outcomes
abbrev pub replay : List ℕ → Moment → List (List ℕ) → List AccountedCall → Account
replay path first outcomes [] = record { path = path; now = first; past = []; outcomes = outcomes; agrees = true }
replay path first outcomes (e ∷ earlier) =
    after_call e.call e.at e.ok e.bytes (replay path first outcomes earlier)

-- No sync has failed. After a failed sync nothing more is asked of the file, because what was written may be lost
-- without another error.
abbrev pub is_usable : List AccountedCall → Bool
is_usable [] = true
is_usable (e ∷ earlier) = (e.ok || not (e.call == 4)) && is_usable earlier

-- The length was asked for and answered since the last sync, and so before any later write.
abbrev pub is_measured : List AccountedCall → Bool
is_measured [] = false
is_measured (e ∷ earlier) = (e.call == 1 && e.ok) || (not (e.call == 4) && is_measured earlier)
