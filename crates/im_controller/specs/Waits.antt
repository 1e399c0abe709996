-- What a port is told while it holds the lock once. (Own.)
use Rattle.std.specs.Prelude.{◌≡◌, ℕ, ◌<◌, ◌≤◌, Bool, true, false, ◌≢◌, List, length, Some, None, Ok, Err, Option}
use Rattle.std.specs.Prelude.{Result}
use Rattle.im_types.specs.Types.{Entry, Waiting, Line, Collect, Refusal, Failed, TraceFull, Stalled, Contents, told}
use Rattle.im_types.specs.Types.{end_of}
use Rattle.im_trace.specs.{Lines.counts_after, Lines.GoesOnTo, Lines.left_lines, Lines.LineCounts, Log.FoundState}
use Rattle.im_queue.specs.Servers.{are_stuck, entry_under, is_answered}
use Rattle.im_controller.specs.State.{SharedState}

-- what was found, without the trace
abbrev pub found_entry : Result FoundState Refusal → Result Entry Refusal
found_entry (Ok found) = Ok found.entry
found_entry (Err refusal) = Err refusal

-- what was found is of this element and number
abbrev pub IsFoundOf : ℕ → ℕ → Result FoundState Refusal → Type 0
IsFoundOf element number (Ok found) = (found.element ≡ element) × (found.number ≡ number)
IsFoundOf element number (Err refusal) = Unit {0}

-- what was found has this trace
abbrev pub IsFoundAt : List Line → Result FoundState Refusal → Type 0
IsFoundAt history (Ok found) = found.history ≡ history
IsFoundAt history (Err refusal) = Unit {0}

-- what was found is answered
abbrev pub IsAwaited : Result FoundState Refusal → Type 0
IsAwaited (Ok found) = is_answered (Ok found.entry) ≡ true
IsAwaited (Err refusal) = Unit {0}

-- a port is told `Stalled` only while the entry isn't answered in the memory after the trace that the port has seen
abbrev pub StallsAt : Contents → List Line → ℕ → ℕ → Result FoundState Refusal → Type 0
StallsAt m seen element number (Ok found) = Unit {0}
StallsAt m seen element number (Err refusal) =
    refusal ≡ Stalled → is_answered (entry_under (end_of m seen) element number) ≡ false

-- what was found is answered; or the refusal is `Stalled` only if so
abbrev pub IsAwaitedAt : Contents → List Line → ℕ → ℕ → Result FoundState Refusal → Type 0
IsAwaitedAt m seen element number (Ok found) = is_answered (Ok found.entry) ≡ true
IsAwaitedAt m seen element number (Err refusal) = StallsAt m seen element number (Err refusal)

-- a port that awaits an answer holds the lock once: it is told nothing yet, or the answer, and then the line is counted
abbrev pub Awaits : (Line → Bool) → LineCounts → ℕ → ℕ → Option (Result FoundState Refusal) → LineCounts → Type 0
Awaits marks t element number None t' = t' ≡ t
Awaits marks t element number (Some answer) t' =
    (t' ≡ counts_after marks t (left_lines (Collect element number) (told (found_entry answer))))
    × IsFoundOf element number answer × IsAwaited answer

-- the same, without the trace
abbrev pub entry_told : Option (Result FoundState Refusal) → Option (Result Entry Refusal)
entry_told None = None
entry_told (Some answer) = Some (found_entry answer)

-- why it is told that, given what lay under the lock before
pub record TellsWhy {D : Type 0} (s : SharedState D) (element number : ℕ)
    (answer : Option (Result FoundState Refusal)) : Type 0 where
  pub dead : s.session.engine.failed ≡ true → answer ≡ Some (Err Failed)
  pub stalled : s.session.engine.failed ≡ false → entry_under s.session.engine.memory element number ≡ Ok Waiting
      → are_stuck s.session.engine.memory element 0 s.servers ≡ true → answer ≡ Some (Err Stalled)
  pub waits : s.session.engine.failed ≡ false → entry_under s.session.engine.memory element number ≡ Ok Waiting
      → are_stuck s.session.engine.memory element 0 s.servers ≡ false → answer ≡ None
  -- else the entry is answered or there is none; that is told, with its line
  pub full : s.session.engine.failed ≡ false → entry_under s.session.engine.memory element number ≢ Ok Waiting
      → s.log.limit ≤ length s.log.trace → answer ≡ Some (Err TraceFull)
  pub found : s.session.engine.failed ≡ false → entry_under s.session.engine.memory element number ≢ Ok Waiting
      → length s.log.trace < s.log.limit → entry_told answer ≡ Some (entry_under s.session.engine.memory element number)

-- What a port has seen of the trace, once it was told what is kept under a number: the collect's line, if it left one,
-- stands after all that the port saw before, and what was found has the same trace.
abbrev pub SeesEntry : List Line → ℕ → ℕ → Result FoundState Refusal → List Line → Type 0
SeesEntry seen element number answer seen' =
    GoesOnTo seen (left_lines (Collect element number) (told (found_entry answer))) seen' × IsFoundAt seen' answer

-- the same, while it awaits an answer: it sees no more as long as it is told nothing
abbrev pub SeesFound : List Line → ℕ → ℕ → Option (Result FoundState Refusal) → List Line → Type 0
SeesFound seen element number None seen' = seen' ≡ seen
SeesFound seen element number (Some answer) seen' = SeesEntry seen element number answer seen'
