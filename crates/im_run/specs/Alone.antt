-- What may stand in the trace of a script's servers. (Own.)
use Rattle.std.specs.Prelude.{◌≡◌, Bool, true, false, not, ◌&&◌, ◌||◌, List, [], ◌∷◌, ◌==◌, count_by, Result}
use Rattle.std.specs.List.{AllByRecursion}
use Rattle.im_types.specs.Types.{Request, Outcome, Call, Line, Asks as Requests, Confirm, Commands, Collect, Refusal}
use Rattle.im_types.specs.Types.{same_op}
use Rattle.{im_controller.specs.Lines.line_of, im_controller.specs.State.PortState, im_serving.specs.Elements.End}
use Rattle.im_run.specs.{Orders.Ask, Planned.requests_from}

-- whether these are one request
abbrev pub same_request : Request → Request → Bool
same_request r q = (r.element == q.element && r.number == q.number) && same_op r.op q.op

-- whether a request is one of these
abbrev pub is_request_of : Request → List Request → Bool
is_request_of r [] = false
is_request_of r (q ∷ others) = same_request r q || is_request_of r others

-- whether a server of this order may make a call: one of its requests under its number, or a confirmation or a collect
-- of its element
abbrev pub is_call_of : Ask → Call → Bool
is_call_of o (Commands (Requests r)) = is_request_of r (requests_from o.element o.first o.intents)
is_call_of o (Commands (Confirm element upto)) = element == o.element
is_call_of o (Collect element number) = element == o.element

-- whether a server of one of these orders may
abbrev pub is_call_of_one : List Ask → Call → Bool
is_call_of_one [] call = false
is_call_of_one (o ∷ orders) call = is_call_of o call || is_call_of_one orders call

-- whether a line is of another call
abbrev pub is_strange : List Ask → Line → Bool
is_strange orders line = not (is_call_of_one orders line.call)

-- each line of a trace is of a call that a server of one of these orders may make
abbrev pub AreCallsOf : List Ask → List Line → Type 0
AreCallsOf orders trace = AllByRecursion (λ line. is_call_of_one orders line.call ≡ true) trace

-- ---- while it is counted

-- these ports were told no marked line
abbrev pub AreQuiet : List PortState → Type 0
AreQuiet ports = AllByRecursion (λ p. p.told.marked ≡ 0) ports

-- the same of the ports of these ends
abbrev pub AreQuietAtEnd : List End → Type 0
AreQuietAtEnd ends = AllByRecursion (λ d. d.deeds.port.told.marked ≡ 0) ends

-- no call is marked that a server of one of these orders may make
abbrev pub AreUnmarked : (Line → Bool) → List Ask → Type 0
AreUnmarked marks orders = (call : Call) (answer : Result Outcome Refusal) → is_call_of_one orders call ≡ true
    → marks (line_of call answer) ≡ false

-- no line of a trace is marked then, if nothing was refused
abbrev pub NoneMarked : (Line → Bool) → List Ask → Type 0 → List Line → Type 0
NoneMarked marks orders none trace = AreUnmarked marks orders → none → count_by marks trace ≡ 0
