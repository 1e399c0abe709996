-- One command on a memory: its answer, and the memory after it. (Own.)
use Rattle.std.specs.Prelude.{ℕ, Bool, true, false, nat_lt, slice_get, slice_index_or, slice_set, Ok, Err, Result}
use Rattle.im_types.specs.{Act.act, Act.Acted, Contents.Contents, Contents.new_window, Contents.Window}
use Rattle.im_types.specs.declared.commands.Command.{Command, TheVariants.Confirm, TheVariants.Request as Asks}
use Rattle.im_types.specs.declared.commands.Judged.{Judged, TheVariants.Fresh, TheVariants.Repeat}
use Rattle.im_types.specs.declared.commands.Outcome.{Outcome, TheVariants.Confirmed, TheVariants.Entry as Tells}
use Rattle.im_types.specs.declared.{commands.Request.Request, operations.Waiter.Waiter, refusals.Refusal.Refusal}
use Rattle.im_types.specs.Window.{answer_each, confirm_window, judge, note}

-- the answer to a command, and the memory after it
pub record Stepped : Type 0 where
  pub answer : Result Outcome Refusal
  pub contents : Contents

-- the continuation of a request
abbrev pub asker : Request → Waiter
asker r = record { element = r.element; number = r.number }

-- a new request is kept with its entry, and the requests that it resumes are answered
abbrev pub serve : Contents → Request → Acted → Stepped
serve m r acted = record {
  answer = Ok (Tells acted.entry);
  contents = record { cells = acted.cells; windows = answer_each (note m.windows r acted.entry) acted.resumed };
}

-- a request that was judged: refused, repeated or served
abbrev pub step_request : Contents → Request → Result Judged Refusal → Stepped
step_request m r (Err refusal) = record { answer = Err refusal; contents = m }
step_request m r (Ok (Repeat entry)) = record { answer = Ok (Tells entry); contents = m }
step_request m r (Ok Fresh) = serve m r (act m.cells (asker r) r.op)

-- a confirmation that was judged
abbrev pub step_confirm : Contents → ℕ → Result Window Refusal → Stepped
step_confirm m element (Err refusal) = record { answer = Err refusal; contents = m }
step_confirm m element (Ok window) =
    record {
      answer = Ok Confirmed;
      contents = record { cells = m.cells; windows = slice_set m.windows element window };
    }

-- one command on a memory
abbrev pub step : Contents → Command → Stepped
step m (Asks r) = step_request m r (judge m.windows r)
step m (Confirm element upto) = step_confirm m element (confirm_window upto (slice_get m.windows element))

-- whether a request is a new one
abbrev pub is_fresh : Result Judged Refusal → Bool
is_fresh (Ok Fresh) = true
is_fresh (Ok (Repeat entry)) = false
is_fresh (Err refusal) = false

-- whether a confirmation drops an entry
abbrev pub moves_base : ℕ → Window → Result Window Refusal → Bool
moves_base upto w (Ok window) = nat_lt w.base upto
moves_base upto w (Err refusal) = false

-- whether a command changes the memory: a new request, or a confirmation that drops an entry
abbrev pub is_accepted : Contents → Command → Bool
is_accepted m (Asks r) = is_fresh (judge m.windows r)
is_accepted m (Confirm element upto) =
    moves_base upto (slice_index_or m.windows element new_window) (confirm_window upto (slice_get m.windows element))

-- a verdict, unless the answer is a refusal
abbrev pub unless_refused : Bool → Result Outcome Refusal → Result Bool Refusal
unless_refused accepts (Ok outcome) = Ok accepts
unless_refused accepts (Err refusal) = Err refusal

-- whether a command would be accepted, or why it would be refused
abbrev pub acceptance : Contents → Command → Result Bool Refusal
acceptance m command = unless_refused (is_accepted m command) (step m command).answer
