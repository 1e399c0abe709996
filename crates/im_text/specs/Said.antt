-- The lines of a script as values, how each is said, and how far they were written. (Own.)
use Rattle.std.specs.Prelude.{◌≡◌, ℕ, ◌≤◌, Bool, false, ◌||◌, ◌⊎◌, List, [], ◌∷◌, ◌++◌, length, slice_get, MatchResult}
use Rattle.std.specs.Prelude.{Some, None, Ok, Err, codes, decimal, Option, Result}
use Rattle.std.specs.{Io.KnownBytes.Appends, List.list_any}
use Rattle.im_types.specs.Types.{Entry, Waiter, Waiting, Answered, Command, Outcome, Asks, Confirm, Tells, Confirmed}
use Rattle.im_types.specs.Types.{Refusal, Gap, Forgotten, WindowFull, Mismatch, NoElement, NotAnswered, JournalFull}
use Rattle.im_types.specs.Types.{Device, Failed, NoMemory, TraceFull, WrongLength, NoHeader, BadHeader, BadPage}
use Rattle.im_types.specs.Types.{BadRecord, BadLimits, BadScript, Stalled, OffPlan, OldVersion, NotBlank, BadPlan}
use Rattle.im_types.specs.Types.{PaneGone, number_of, Contents, asker, step}
use Rattle.im_text.specs.declared.{lines.Lines.Lines, replies.Waited.Waited, said.OutputLine.OutputLine}
use Rattle.im_text.specs.declared.said.OutputLine.TheVariants.{Done, Glance, Now, Refused, Reply}
use Rattle.im_text.specs.declared.said.Style.{Style, TheVariants.Json, TheVariants.Quiet, TheVariants.Text}
use Rattle.im_text.specs.Objects.{number_member, number_of_entry, object_start, word_of_entry}
use Rattle.im_text.specs.Printing.{Batches, Begins, now_line, refused_line, told_line}
use Rattle.im_text.specs.Texts.{is_fault_entry, line_feed, texts_below}

-- ---- the words of a line

-- K.N done: a request that was confirmed
abbrev pub done_text : ℕ → ℕ → List ℕ
done_text element number = decimal element ++ codes "." ++ decimal number ++ codes " done" ++ line_feed

-- what was seen of a cell
abbrev pub seen_text : Option ℕ → List ℕ
seen_text None = codes "none"
seen_text (Some v) = codes "value " ++ decimal v

-- K glance A value V, or K glance A none
abbrev pub glance_text : ℕ → ℕ → Option ℕ → List ℕ
glance_text element address value =
    decimal element ++ codes " glance " ++ decimal address ++ codes " " ++ seen_text value ++ line_feed

-- the name of a refusal
abbrev pub told_name : Refusal → List ℕ
told_name Gap = codes "Gap"
told_name Forgotten = codes "Forgotten"
told_name WindowFull = codes "WindowFull"
told_name Mismatch = codes "Mismatch"
told_name NoElement = codes "NoElement"
told_name NotAnswered = codes "NotAnswered"
told_name JournalFull = codes "JournalFull"
told_name Device = codes "Device"
told_name Failed = codes "Failed"
told_name NoMemory = codes "NoMemory"
told_name TraceFull = codes "TraceFull"
told_name WrongLength = codes "WrongLength"
told_name NoHeader = codes "NoHeader"
told_name BadHeader = codes "BadHeader"
told_name BadPage = codes "BadPage"
told_name BadRecord = codes "BadRecord"
told_name BadLimits = codes "BadLimits"
told_name BadScript = codes "BadScript"
told_name Stalled = codes "Stalled"
told_name OffPlan = codes "OffPlan"
told_name OldVersion = codes "OldVersion"
told_name NotBlank = codes "NotBlank"
told_name BadPlan = codes "BadPlan"
told_name PaneGone = codes "PaneGone"

-- a line in words
abbrev pub line_words : OutputLine → List ℕ
line_words (Reply w) = told_line w.element w.number w.entry
line_words (Now w) = now_line (Some w)
line_words (Done element number) = done_text element number
line_words (Glance element address value) = glance_text element address value
line_words (Refused refusal) = refused_line refusal (told_name refusal)

-- ---- its object of JSON

-- a request with its reply, and whether it is the later one
abbrev pub reply_start : ℕ → ℕ → List ℕ → List ℕ → List ℕ
reply_start element number now word =
    object_start element number ++ codes ",\"now\":" ++ now ++ codes ",\"reply\":\"" ++ word ++ codes "\""

-- the same, with the number of the reply under its word, if it has one
abbrev pub reply_object : ℕ → ℕ → List ℕ → List ℕ → Option ℕ → List ℕ
reply_object element number now word value =
    reply_start element number now word ++ number_member word value ++ codes "}\n"

-- what was seen of a cell
abbrev pub seen_member : Option ℕ → List ℕ
seen_member None = codes "null"
seen_member (Some v) = codes "\"" ++ decimal v ++ codes "\""

-- a glance, as far as what was seen
abbrev pub glance_start : ℕ → ℕ → List ℕ
glance_start element address =
    codes "{\"glance\":" ++ decimal address ++ codes ",\"element\":" ++ decimal element ++ codes ",\"value\":"

-- a glance
abbrev pub glance_object : ℕ → ℕ → Option ℕ → List ℕ
glance_object element address value = glance_start element address ++ seen_member value ++ codes "}\n"

-- the number of a refusal; here its object begins
abbrev pub refusal_start : ℕ → List ℕ
refusal_start number = codes "{\"refused\":{\"code\":" ++ decimal number

-- the name of a refusal; here its object ends
abbrev pub refusal_end : List ℕ → List ℕ
refusal_end name = codes ",\"name\":\"" ++ name ++ codes "\"}}\n"

-- a refusal, by its number and its name
abbrev pub refusal_object : ℕ → List ℕ → List ℕ
refusal_object number name = refusal_start number ++ refusal_end name

-- a line as an object
abbrev pub object_of : OutputLine → List ℕ
object_of (Reply w) = reply_object w.element w.number (codes "false") (word_of_entry w.entry) (number_of_entry w.entry)
object_of (Now w) = reply_object w.element w.number (codes "true") (word_of_entry w.entry) (number_of_entry w.entry)
object_of (Done element number) = reply_object element number (codes "false") (codes "done") None
object_of (Glance element address value) = glance_object element address value
object_of (Refused refusal) = refusal_object (number_of refusal) (told_name refusal)

-- ---- how it is said

-- a line where only refusals are told
abbrev pub quiet_of : OutputLine → List ℕ
quiet_of (Reply w) = []
quiet_of (Now w) = []
quiet_of (Done element number) = []
quiet_of (Glance element address value) = []
quiet_of (Refused refusal) = line_words (Refused refusal)

-- a line in this style
abbrev pub said_in : Style → OutputLine → List ℕ
said_in Text line = line_words line
said_in Json line = object_of line
said_in Quiet line = quiet_of line

-- lines, one after another
unfoldable pub said_all : Style → List OutputLine → List ℕ
said_all style [] = []
said_all style (line ∷ lines) = said_in style line ++ said_all style lines

-- ---- lines of commands

-- a request that was served
abbrev pub replied : ℕ → ℕ → Entry → List OutputLine
replied element number entry = Reply (record { element = element; number = number; entry = entry }) ∷ []

-- a request that had to wait, with the entry that was last kept for it
abbrev pub answered_now : Option Waited → List OutputLine
answered_now None = []
answered_now (Some w) = Now w ∷ []

-- the line of a command, by its answer: a confirmation has none
abbrev pub reply_line : Command → Result Outcome Refusal → List OutputLine
reply_line (Asks r) (Ok (Tells entry)) = replied r.element r.number entry
reply_line (Asks r) (Ok Confirmed) = []
reply_line (Asks r) (Err refusal) = []
reply_line (Confirm element upto) answer = []

-- the lines of commands, one after another
abbrev pub replies : Contents → List Command → List OutputLine
replies m [] = []
replies m (command ∷ commands) =
    reply_line command (step m command).answer ++ replies (step m command).contents commands

-- who has to wait, by the entry of a request
abbrev pub waits_if : Waiter → Entry → List Waiter
waits_if who Waiting = who ∷ []
waits_if who (Answered reply) = []

-- who has to wait, by a command's answer
abbrev pub waits_by : Command → Result Outcome Refusal → List Waiter
waits_by (Asks r) (Ok (Tells entry)) = waits_if (asker r) entry
waits_by (Asks r) (Ok Confirmed) = []
waits_by (Asks r) (Err refusal) = []
waits_by (Confirm element upto) answer = []

-- the requests among the commands that had to wait, in their order
abbrev pub waits : Contents → List Command → List Waiter
waits m [] = []
waits m (command ∷ commands) = waits_by command (step m command).answer ++ waits (step m command).contents commands

-- whose line it is
abbrev pub who_of : Waited → Waiter
who_of w = record { element = w.element; number = w.number }

-- the lines of a prefix of those that had to wait
abbrev pub nows : List Waited → ℕ → List OutputLine
nows waited many = texts_below (λ i. answered_now (slice_get waited i)) many

-- the line of a refusal, or none
abbrev pub IsLast : List OutputLine → Type 0
IsLast last = (last ≡ []) ⊎ ((refusal : Refusal) × (last ≡ Refused refusal ∷ []))

-- ---- how far they were written

-- whether a line tells an error of the program that asked
abbrev pub is_fault_line : OutputLine → Bool
is_fault_line (Reply w) = is_fault_entry w.entry
is_fault_line (Now w) = is_fault_entry w.entry
is_fault_line (Done element number) = false
is_fault_line (Glance element address value) = false
is_fault_line (Refused refusal) = false

-- how lines are said, what their writer holds, and whether one of those so far tells an error of the program that asked
pub record Output : Type 0 where
  pub style : Style
  pub held : Option (List ℕ)
  pub faulted : Bool

-- an output before its first line
abbrev pub output : Style → Option (List ℕ) → Output
output style held = record { style = style; held = held; faulted = false }

-- the output of a writer, with the lines on their way to it
abbrev pub output_by : Lines → Option (List ℕ) → Output
output_by lines held = record { style = lines.style; held = held; faulted = lines.faulted }

-- what a writer holds when its lines end, and whether one of them tells an error of the program that asked
abbrev pub Written : Type 0
Written = Option (List ℕ) × Bool

-- the same output, from there on
abbrev pub output_from : Output → Written → Output
output_from from is = record { style = from.style; held = is.0; faulted = is.1 }

-- whether one of these lines, or one before, tells an error
abbrev pub is_faulted : Output → List OutputLine → Bool
is_faulted from said = from.faulted || list_any is_fault_line said

-- a prefix of what is said of these lines was written
abbrev pub SaysSome : Output → Written → List OutputLine → Type 0
SaysSome from is said = Begins from.held is.0 (said_all from.style said) × (is.1 ≡ is_faulted from said)

-- all of it was written
abbrev pub SaysWhole : Output → Written → List OutputLine → Type 0
SaysWhole from is said = Appends from.held is.0 (said_all from.style said) × (is.1 ≡ is_faulted from said)

-- no more than the line of a refusal was said
abbrev pub SaysLast : Output → Option (List ℕ) → Type 0
SaysLast from is = (last : List OutputLine) × (IsLast last × Begins from.held is (said_all from.style last))

-- These lines were said: a prefix of that was written, and as long as no write has failed, the rest is kept back.
pub record Prints (from : Output) (now : Option (List ℕ)) (lines : Lines) (said : List OutputLine) : Type 0 where
  pub styled : lines.style ≡ from.style
  pub told : lines.faulted ≡ is_faulted from said
  pub printed : Batches from.held now lines.batch (said_all from.style said)

-- no line more
abbrev pub PrintsOn : Option (List ℕ) → Lines → Option (List ℕ) → Lines → Type 0
PrintsOn was before is after =
    (from : Output) (said : List OutputLine) → Prints from was before said → Prints from is after said

-- these lines more
abbrev pub PrintsMore : Option (List ℕ) → Lines → Option (List ℕ) → Lines → List OutputLine → Type 0
PrintsMore was before is after more =
    (from : Output) (said : List OutputLine) → Prints from was before said → Prints from is after (said ++ more)

-- these lines more, or at an error no line more
abbrev pub Pushes : {T E : Type 0} → Result T E → Option (List ℕ) → Lines → Option (List ℕ) → Lines → List OutputLine
    → Type 0
Pushes result was before is after more =
    MatchResult result (λ _. PrintsMore was before is after more) (λ _. PrintsOn was before is after)

-- these lines more or no line more
abbrev pub MayPrint : Option (List ℕ) → Lines → Option (List ℕ) → Lines → List OutputLine → Type 0
MayPrint was before is after more = (from : Output) (said : List OutputLine) → Prints from was before said
    → Prints from is after said ⊎ Prints from is after (said ++ more)

-- some of the lines of those that had to wait
abbrev pub PrintsNows : Option (List ℕ) → Lines → Option (List ℕ) → Lines → List Waited → Type 0
PrintsNows was before is after waited =
    (many : ℕ) × (many ≤ length waited) × PrintsMore was before is after (nows waited many)
