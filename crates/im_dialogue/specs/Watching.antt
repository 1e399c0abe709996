-- What those that watch are told: which request that waited is answered, and how. (Own.)
use Rattle.std.specs.Prelude.{ℕ, Bool, true, false, List, [], ◌∷◌, ◌++◌, if◌then◌else◌, Some, None, Ok, Option}
use Rattle.im_types.specs.Types.{Kind, Op, Reply, Waiter, Answered, Store, Put, Command, Asks, Confirm, Held, Contents}
use Rattle.im_types.specs.Types.{same_kind, act, asker, is_accepted}
use Rattle.im_text.specs.{declared.OutputLine.TheVariants.Now, declared.Style.TheVariants.Text, Said.said_in}
use Rattle.im_dialogue.specs.declared.answers.LineAnswer.{LineAnswer, TheVariants.Served}

-- the lines of the requests that were resumed, in order: E.N now REPLY, the answer to a request that waited
abbrev pub nows_text : List (Waiter × Reply) → List ℕ
nows_text [] = []
nows_text (r ∷ others) =
    said_in Text (Now (record { element = r.0.element; number = r.0.number; entry = Answered r.1 })) ++ nows_text others

-- the waiting requests that a command resumes, with their answers; none if it isn't accepted
abbrev pub resumed_by : Contents → Command → List (Waiter × Reply)
resumed_by m (Asks r) = if is_accepted m (Asks r) then (act m.cells (asker r) r.op).resumed else []
resumed_by m (Confirm element upto) = []

-- what is told after the answer to a line, if the dialogue is watched
abbrev pub watch_text : Bool → Contents → LineAnswer → List ℕ
watch_text watch m (Served command (Ok outcome)) = if watch then nows_text (resumed_by m command) else []
watch_text watch m answer = []

-- no request that waits is answered by such an operation
abbrev pub is_quiet : Op → Bool
is_quiet (Store a v) = false
is_quiet (Put a v) = false
is_quiet op = true

-- no request that waits is answered by such a command
abbrev pub answers_nobody : Command → Bool
answers_nobody (Asks r) = is_quiet r.op
answers_nobody (Confirm element upto) = true

-- ---- as it is made

-- how much of these lines is told, given the line's answer
abbrev pub told_with : LineAnswer → List ℕ → List ℕ
told_with (Served command (Ok outcome)) nows = nows
told_with answer nows = []

-- a cell of a block of this kind
abbrev pub is_of_kind : Kind → Option Held → Bool
is_of_kind kind None = false
is_of_kind kind (Some held) = same_kind kind held.block.kind
