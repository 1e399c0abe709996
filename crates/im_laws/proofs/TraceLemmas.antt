-- Traces, joined and grown line by line.
use Rattle.std.proofs.Common.{◌≡◌, List, [], ◌∷◌, ◌++◌, Result, refl, ◌∙◌}
use Rattle.im_types.specs.Types.{Outcome, Call, Line, Commands, Collect, Refusal, Contents, after, answers, answer_to}
use Rattle.im_types.specs.Types.{contents_after, IsLegal, end_of}
use Rattle.im_laws.specs.Traces.{answer_to_command, command_answers, commands_of, commands_of_call}

pub end_of-append : (m : Contents) (earlier later : List Line) → end_of m (earlier ++ later)
    ≡ end_of (end_of m earlier) later
end_of-append m [] later = refl
end_of-append m (line ∷ earlier) later = end_of-append (contents_after m line.call) earlier later

pub IsLegal-append : (m : Contents) (earlier later : List Line) → IsLegal m earlier
    → IsLegal (end_of m earlier) later → IsLegal m (earlier ++ later)
IsLegal-append m [] later first second = second
IsLegal-append m (line ∷ earlier) later first second =
    (first.0, IsLegal-append (contents_after m line.call) earlier later first.1 second)

pub IsLegal-split : (m : Contents) (earlier later : List Line) → IsLegal m (earlier ++ later) → IsLegal m earlier
    × IsLegal (end_of m earlier) later
IsLegal-split m [] later legal = (tt, legal)
IsLegal-split m (line ∷ earlier) later legal = let rest = IsLegal-split
    (contents_after m line.call) earlier later legal.1 in ((legal.0, rest.0), rest.1)

-- one line more
pub IsLegal-push : (m : Contents) (trace : List Line) (line : Line) → IsLegal m trace → line.answer
    ≡ answer_to (end_of m trace) line.call
    → IsLegal m (trace ++ line ∷ [])
IsLegal-push m trace line legal answer = IsLegal-append m trace (line ∷ []) legal (answer, tt)

-- the commands of a trace lead to its end
pub end_of-commands : (m : Contents) (trace : List Line) → end_of m trace ≡ after m (commands_of trace)
end_of-commands m [] = refl
end_of-commands m (line ∷ trace) = end_of-commands (contents_after m line.call) trace ∙ by_call line.call
  where
    by_call : (call : Call) → after (contents_after m call) (commands_of trace)
        ≡ after m (commands_of_call call ++ commands_of trace)
    by_call (Commands command) = refl
    by_call (Collect element number) = refl

-- and have the answers of the memories on the way
pub command_answers-legal : (m : Contents) (trace : List Line) → IsLegal m trace → command_answers trace
    ≡ answers m (commands_of trace)
command_answers-legal m [] legal = refl
command_answers-legal m (line ∷ trace) legal = by_call line.call line.answer legal.0
    (command_answers-legal (contents_after m line.call) trace legal.1)
  where
    by_call : (call : Call) (answer : Result Outcome Refusal) → answer ≡ answer_to m call
        → command_answers trace ≡ answers (contents_after m call) (commands_of trace)
        → answer_to_command call answer ++ command_answers trace
        ≡ answers m (commands_of_call call ++ commands_of trace)
    by_call (Commands command) answer is rest = λ i. is i ∷ rest i
    by_call (Collect element number) answer is rest = rest
