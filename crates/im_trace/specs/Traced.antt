-- A line of the trace by the parts that are kept of it. (Own.)
use Rattle.std.specs.Prelude.{ℕ, Ok, Err, Result}
use Rattle.im_types.specs.Types.{Op, Reply, Waiting as Waits, Answered as Replies, Outcome, Call, Asks}
use Rattle.im_types.specs.Types.{Confirm as Confirms, Tells, Confirmed as Forgotten, Commands, Collect as Collects}
use Rattle.im_types.specs.Types.{Refusal}
use Rattle.im_trace.specs.declared.traced.TracedAnswer.TheVariants.{Answered, Confirmed, Refused, Waiting}
use Rattle.im_trace.specs.declared.traced.{TracedAnswer.TracedAnswer, TracedCall.TracedCall}
use Rattle.im_trace.specs.declared.traced.TracedCall.TheVariants.{Collect, Confirm, Request}

-- the call that asks this of an element
abbrev pub call_with : TracedCall → ℕ → ℕ → Op → Call
call_with Request element number op = Commands (Asks (record { element = element; number = number; op = op }))
call_with Confirm element number op = Commands (Confirms element number)
call_with Collect element number op = Collects element number

-- the answer that says this
abbrev pub traced_answer : TracedAnswer → Reply → Result Outcome Refusal
traced_answer Answered reply = Ok (Tells (Replies reply))
traced_answer Waiting reply = Ok (Tells Waits)
traced_answer Confirmed reply = Ok Forgotten
traced_answer (Refused refusal) reply = Err refusal
