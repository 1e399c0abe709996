-- The lines of a trace, and what a run's trace is. (Own.)
use Rattle.std.specs.Prelude.{◌≡◌, ℕ, zero, suc, ◌<◌, Bool, true, false, List, [], ◌++◌, length, if◌then◌else◌}
use Rattle.std.specs.Prelude.{slice_get, Some, None, Ok, Err, codes, decimal, Option, Result}
use Rattle.std.specs.Io.KnownBytes.{Appends}
use Rattle.im_types.specs.Types.{Request, Outcome, Call, Line, Asks, Confirm, Tells, Confirmed, Commands, Collect}
use Rattle.im_types.specs.Types.{Refusal, number_of}
use Rattle.im_trace.specs.{Ends.empty_recording, Ends.RecordingState, Lines.may_begin}
use Rattle.im_text.specs.{declared.Batch.Batch, Printing.BatchesMore, Printing.Begins}
use Rattle.im_text.specs.Texts.{entry_text, line_feed, op_text, texts_below}
use Rattle.im_run.specs.Traced.{call_object}
pub use Rattle.im_trace.specs.declared.traced.Since.{Since}

-- K.N OPERATION
abbrev pub request_text : Request → List ℕ
request_text r = decimal r.element ++ codes "." ++ decimal r.number ++ codes " " ++ op_text r.op

-- K.N OPERATION, confirm K UPTO or collect K.N: the line of a dialogue that asks for a call
abbrev pub call_text : Call → List ℕ
call_text (Commands (Asks r)) = request_text r
call_text (Commands (Confirm element upto)) = codes "confirm " ++ decimal element ++ codes " " ++ decimal upto
call_text (Collect element number) = codes "collect " ++ decimal element ++ codes "." ++ decimal number

-- refused N
abbrev pub refusal_text : Refusal → List ℕ
refusal_text refusal = codes "refused " ++ decimal (number_of refusal)

-- what was answered
abbrev pub outcome_text : Result Outcome Refusal → List ℕ
outcome_text (Ok (Tells entry)) = entry_text entry
outcome_text (Ok Confirmed) = codes "confirmed"
outcome_text (Err refusal) = refusal_text refusal

-- a call, an arrow, and its answer
abbrev pub trace_line : Option Line → List ℕ
trace_line None = []
trace_line (Some line) = call_text line.call ++ codes " -> " ++ outcome_text line.answer ++ line_feed

-- the first of these lines
abbrev pub first_lines : List Line → ℕ → List ℕ
first_lines lines many = texts_below (λ i. trace_line (slice_get lines i)) many

-- all of these lines
abbrev pub lines_text : List Line → List ℕ
lines_text lines = first_lines lines (length lines)

-- the calls of the elements' servers, if any started
abbrev pub calls_in : Option RecordingState → RecordingState
calls_in None = empty_recording
calls_in (Some recording) = recording

-- a run's calls, each with its answer: those of the setup, and those of the elements' servers; and whether the latter
-- were recorded
pub record TraceState : Type 0 where
  pub setup : List Line
  pub served : List Line
  pub recorded : Bool

-- all lines that were recorded
abbrev pub trace_lines : TraceState → List Line
trace_lines t = t.setup ++ (if t.recorded then t.served else [])

-- their text
abbrev pub trace_text : TraceState → List ℕ
trace_text t = lines_text (trace_lines t)

-- ---- as lines, or as objects with marks

-- a call and its answer in a trace: a line, or an object with its marks
abbrev pub traced_text : Bool → Since → Option Line → List ℕ
traced_text false since line = trace_line line
traced_text true since line = call_object since line

-- no mark
abbrev pub unmarked : Since
unmarked = record { group = false; checkpoint = false }

-- These marks may stand at this place: none in the setup. A group begins only with a command that has an outcome.
pub record MayStand (setup lines : List Line) (at : ℕ) (since : Since) : Type 0 where
  pub early : at < length setup → since ≡ unmarked
  pub begins : (line : Line) → slice_get lines at ≡ Some line → since.group ≡ true
      → may_begin line.call line.answer ≡ true

-- this is the text of the first so many of these lines, or of their objects, each with marks that may stand there
abbrev pub IsTracedText : Bool → List Line → List Line → ℕ → List ℕ → Type 0
IsTracedText objects setup lines zero text = text ≡ []
IsTracedText objects setup lines (suc at) text = (before : List ℕ) × ((since : Since)
    × (IsTracedText objects setup lines at before × (MayStand setup lines at since
    × (text ≡ before ++ traced_text objects since (slice_get lines at)))))

-- the text of a run's trace: its lines, or their objects
abbrev pub IsTraceText : Bool → TraceState → List ℕ → Type 0
IsTraceText false t text = text ≡ trace_text t
IsTraceText true t text = IsTracedText true t.setup (trace_lines t) (length (trace_lines t)) text

-- it was written whole
abbrev pub WritesTrace : Bool → TraceState → Option (List ℕ) → Option (List ℕ) → Type 0
WritesTrace objects t was is = (text : List ℕ) × (IsTraceText objects t text × Appends was is text)

-- a prefix of it was written
abbrev pub BeginsTrace : Bool → TraceState → Option (List ℕ) → Option (List ℕ) → Type 0
BeginsTrace objects t was is = (text : List ℕ) × (IsTraceText objects t text × Begins was is text)

-- the text of the first so many lines was printed
abbrev pub PrintsTraced : Bool → List Line → List Line → ℕ → Option (List ℕ) → Batch → Option (List ℕ) → Batch → Type 0
PrintsTraced objects setup lines many was before is after =
    (text : List ℕ) × (IsTracedText objects setup lines many text × BatchesMore was before is after text)

-- the text of all lines was printed
abbrev pub PrintsAll : Bool → List Line → List Line → Option (List ℕ) → Batch → Option (List ℕ) → Batch → Type 0
PrintsAll objects setup lines was before is after = PrintsTraced objects setup lines (length lines) was before is after

-- a beginning of this text was printed
abbrev pub PrintsBeginning : Option (List ℕ) → Batch → Option (List ℕ) → Batch → List ℕ → Type 0
PrintsBeginning was before is after text =
    (part : List ℕ) × ((rest : List ℕ) × ((text ≡ part ++ rest) × BatchesMore was before is after part))

-- the same of the text of all lines
abbrev pub PrintsSome : Bool → List Line → List Line → Option (List ℕ) → Batch → Option (List ℕ) → Batch → Type 0
PrintsSome objects setup lines was before is after = (text : List ℕ)
    × (IsTracedText objects setup lines (length lines) text × PrintsBeginning was before is after text)
