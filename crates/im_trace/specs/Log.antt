-- The log: a trace with the answers that wait for their ports, and the receipts that are taken from it. (Own.)
use Rattle.std.specs.Prelude.{◌≡◌, ℕ, ◌+◌, ◌≤◌, Bool, List, [], ◌++◌, length, slice_get, slice_set, Some, None, Ok, Err}
use Rattle.std.specs.Prelude.{sum_by, count_by, Option, Result}
use Rattle.std.specs.List.{AllByRecursion}
use Rattle.im_types.specs.Types.{Entry, Command, Outcome, Call, Line, Asks, Confirm, Commands, Refusal, Contents}
use Rattle.im_types.specs.Types.{IsLegal, shown_by, Change}
use Rattle.im_trace.specs.Lines.{counts_after, EndsIn, GoesOnTo, left_lines, line_of, LineCounts, time_at, times_of}
use mathlib.Core.List.{IsPrefix}

-- a command, its outcome, the trace that ends in its line, that line's time, and what was shown when its port was told
pub record ReceiptState : Type 0 where
  pub command : Command
  pub outcome : Outcome
  pub history : List Line
  pub time : ℕ
  pub told : List Change

-- what was kept under a number, the trace that ends in the line of this collect, its time, and what was shown then
pub record FoundState : Type 0 where
  pub element : ℕ
  pub number : ℕ
  pub entry : Entry
  pub history : List Line
  pub time : ℕ
  pub told : List Change

-- the element of a command
abbrev pub sender_of : Command → ℕ
sender_of (Asks r) = r.element
sender_of (Confirm element upto) = element

-- the answer to a command that its port hasn't taken yet, and how many lines there were before its own
pub record UnclaimedState : Type 0 where
  pub command : Command
  pub answer : Result Outcome Refusal
  pub before : ℕ

-- a trace, how many lines it may have, and a place for each element's answer
pub record LogState : Type 0 where
  pub trace : List Line
  pub limit : ℕ
  pub places : List (Option UnclaimedState)

-- a log, and the times of its lines
pub record TimedLog : Type 0 where
  pub state : LogState
  pub times : List ℕ

-- lines were left, each at this time
pub record GoesOnAt (time : ℕ) (old new : TimedLog) : Type 0 where
  pub more : List Line
  pub lines : new.state.trace ≡ old.state.trace ++ more
  pub times : new.times ≡ old.times ++ times_of time more

-- an answer without its receipt
abbrev pub plain : Result ReceiptState Refusal → Result Outcome Refusal
plain (Ok receipt) = Ok receipt.outcome
plain (Err refusal) = Err refusal

-- an answer with its receipt, which has this trace, the time of its last line, and these shown changes
abbrev pub receipt_for : List Line → ℕ → List Change → Command → Result Outcome Refusal → Result ReceiptState Refusal
receipt_for history time shown command (Ok outcome) =
    Ok (record { command = command; outcome = outcome; history = history; time = time; told = shown })
receipt_for history time shown command (Err refusal) = Err refusal

-- the full cells that were opened, followed by the changes of this trace, are a prefix of what was shown
abbrev pub IsToldOf : Contents → List Line → List Change → Type 0
IsToldOf m history shown = IsPrefix (shown_by m history) shown

-- a legal trace that ends in the line of this answer, if that is an outcome
abbrev pub IsProof : Contents → Call → Result Outcome Refusal → List Line → Type 0
IsProof m call (Ok outcome) history = IsLegal m history × EndsIn history (line_of call (Ok outcome))
IsProof m call (Err refusal) history = Unit {0}

-- the lines that an answer in a place left
abbrev pub unclaimed_lines : Option UnclaimedState → List Line
unclaimed_lines None = []
unclaimed_lines (Some waiting) = left_lines (Commands waiting.command) waiting.answer

-- the log after the line of a call; its port was told
abbrev pub with_line : LogState → Call → Result Outcome Refusal → LogState
with_line l call answer = record l { trace = l.trace ++ left_lines call answer }

-- the log with the answer to a command in its element's place
abbrev pub with_unclaimed : LogState → Command → Result Outcome Refusal → LogState
with_unclaimed l command answer =
    record {
      trace = l.trace ++ left_lines (Commands command) answer;
      limit = l.limit;
      places = slice_set l.places (sender_of command)
          (Some (record { command = command; answer = answer; before = length l.trace }));
    }

-- the log with an element's place free
abbrev pub without_unclaimed : LogState → ℕ → LogState
without_unclaimed l element = record l { places = slice_set l.places element None }

-- a trace has so many lines, and then these
abbrev pub IsBefore : ℕ → List Line → List Line → Type 0
IsBefore before last lines = (start : List Line) × (length start ≡ before) × (lines ≡ start ++ last)

-- the line of an answer that waits in a place, if it left one, stands in the trace behind so many lines
abbrev pub StandsInTrace : List Line → Option UnclaimedState → Type 0
StandsInTrace trace None = Unit {0}
StandsInTrace trace (Some waiting) =
    (history : List Line) × IsPrefix history trace
    × IsBefore waiting.before (unclaimed_lines (Some waiting)) history

-- A legal trace with no more lines than it may have. The books count each line that its port was told: all but those of
-- answers that wait.
pub record IsLog (m : Contents) (marks : Line → Bool) (l : LogState) (books : LineCounts) : Type 0 where
  pub legal : IsLegal m l.trace
  pub few : length l.trace ≤ l.limit
  pub lines : books.lines + sum_by (λ p. length (unclaimed_lines p)) l.places ≡ length l.trace
  pub marked : books.marked + sum_by (λ p. count_by marks (unclaimed_lines p)) l.places ≡ count_by marks l.trace
  -- the line of each answer that waits stands in the trace
  pub stand : AllByRecursion (StandsInTrace l.trace) l.places

-- a receipt is of this command
abbrev pub IsOf : Command → Result ReceiptState Refusal → Type 0
IsOf command (Ok receipt) = receipt.command ≡ command
IsOf command (Err refusal) = Unit {0}

-- the answer to a command is taken from an element's place, or isn't there
abbrev pub Takes : List (Option UnclaimedState) → ℕ → Command → Option UnclaimedState → List (Option UnclaimedState)
    → Type 0
Takes places element command None others = others ≡ places
Takes places element command (Some w) others =
    (slice_get places element ≡ Some (Some w)) × (w.command ≡ command) × (others ≡ slice_set places element None)

-- A port looks for the answer to its command in its element's place. There is none, or it takes it, and its line is
-- counted.
abbrev pub Claims : (Line → Bool) → LogState → LineCounts → ℕ → Command → Option (Result ReceiptState Refusal)
    → LogState
    → LineCounts → Type 0
Claims marks l t element command None l' t' = (l' ≡ l) × (t' ≡ t)
Claims marks l t element command (Some answer) l' t' =
    (l' ≡ without_unclaimed l element) × (t' ≡ counts_after marks t (left_lines (Commands command) (plain answer)))
    × IsOf command answer

-- a receipt has this trace
abbrev pub HasHistory : List Line → Result ReceiptState Refusal → Type 0
HasHistory history (Ok receipt) = receipt.history ≡ history
HasHistory history (Err refusal) = Unit {0}

-- What a port has seen of the trace, once it was told the answer to a command: the command's line, if it left one,
-- stands after all that the port saw before, and the receipt has the same trace.
abbrev pub SeesReceipt : List Line → Command → Result ReceiptState Refusal → List Line → Type 0
SeesReceipt seen command answer seen' =
    GoesOnTo seen (left_lines (Commands command) (plain answer)) seen' × HasHistory seen' answer

-- the same, when it looks for the answer to its command: it sees no more if there is none
abbrev pub SeesAnswer : List Line → Command → Option (Result ReceiptState Refusal) → List Line → Type 0
SeesAnswer seen command None seen' = seen' ≡ seen
SeesAnswer seen command (Some answer) seen' = SeesReceipt seen command answer seen'

-- an outcome has a prefix of the trace, which is legal and ends in its line
abbrev pub IsOfTrace : Contents → List Line → Result ReceiptState Refusal → Type 0
IsOfTrace m trace (Ok r) = IsPrefix r.history trace × IsProof m (Commands r.command) (Ok r.outcome) r.history
IsOfTrace m trace (Err refusal) = Unit {0}

-- an outcome has the time of the last line of its trace
abbrev pub IsTimed : List ℕ → Result ReceiptState Refusal → Type 0
IsTimed times (Ok r) = r.time ≡ time_at times (length r.history)
IsTimed times (Err refusal) = Unit {0}

-- no answer waits in any of these places
abbrev pub AreVacant : List (Option UnclaimedState) → Type 0
AreVacant places = AllByRecursion (λ place. place ≡ None) places

-- no line waits in any of these places
abbrev pub AreClaimed : List (Option UnclaimedState) → Type 0
AreClaimed places = sum_by (λ place. length (unclaimed_lines place)) places ≡ 0
