-- The calls of a trace as objects of JSON. (Own.)
use Rattle.std.specs.Prelude.{ℕ, List, [], ◌++◌, if◌then◌else◌, Some, None, Ok, Err, codes, Option, Result}
use Rattle.im_types.specs.Types.{Request, Outcome, Call, Line, Asks, Confirm, Tells, Confirmed, Commands, Collect}
use Rattle.im_types.specs.Types.{Refusal, number_of}
use Rattle.im_trace.specs.declared.Since.{Since}
use Rattle.im_text.specs.Objects.{number_member, number_of_entry, object_start, op_members, op_word, word_of_entry}

-- the element, the number and the word of a call; here the object begins
abbrev pub call_start : ℕ → ℕ → List ℕ → List ℕ
call_start element number word = object_start element number ++ codes ",\"call\":\"" ++ word ++ codes "\""

-- a request, with what it asks for
abbrev pub request_members : Request → List ℕ
request_members r = call_start r.element r.number (op_word r.op) ++ op_members r.op

-- a call; of a confirmation the number is that up to which it is
abbrev pub call_members : Call → List ℕ
call_members (Commands (Asks r)) = request_members r
call_members (Commands (Confirm element upto)) = call_start element upto (codes "confirm")
call_members (Collect element number) = call_start element number (codes "collect")

-- the marks: that a group of commands began with the call, and that a checkpoint came in force before
abbrev pub mark_members : Since → List ℕ
mark_members since = (if since.group then codes ",\"group\":true" else [])
    ++ (if since.checkpoint then codes ",\"checkpoint\":true" else [])

-- the word of an answer
abbrev pub outcome_word : Result Outcome Refusal → List ℕ
outcome_word (Ok (Tells entry)) = word_of_entry entry
outcome_word (Ok Confirmed) = codes "confirmed"
outcome_word (Err refusal) = codes "refused"

-- the number of an answer, if it has one
abbrev pub outcome_number : Result Outcome Refusal → Option ℕ
outcome_number (Ok (Tells entry)) = number_of_entry entry
outcome_number (Ok Confirmed) = None
outcome_number (Err refusal) = Some (number_of refusal)

-- the word of an answer, in an object
abbrev pub reply_member : List ℕ → List ℕ
reply_member word = codes ",\"reply\":\"" ++ word ++ codes "\""

-- an answer, with its number under its word; here the object ends
abbrev pub answer_members : Result Outcome Refusal → List ℕ
answer_members answer =
    reply_member (outcome_word answer) ++ number_member (outcome_word answer) (outcome_number answer) ++ codes "}\n"

-- a call with its marks and its answer, if there is one
abbrev pub call_object : Since → Option Line → List ℕ
call_object since None = []
call_object since (Some line) = call_members line.call ++ mark_members since ++ answer_members line.answer
