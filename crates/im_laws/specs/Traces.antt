-- The commands of a trace. (Own.)
use Rattle.std.specs.Prelude.{List, [], ◌∷◌, ◌++◌, Result}
use Rattle.im_types.specs.Types.{Command, Outcome, Call, Line, Commands, Collect, Refusal}

-- the command of a call, if it is one
abbrev pub commands_of_call : Call → List Command
commands_of_call (Commands command) = command ∷ []
commands_of_call (Collect element number) = []

-- the commands of a trace, in order
abbrev pub commands_of : List Line → List Command
commands_of [] = []
commands_of (line ∷ lines) = commands_of_call line.call ++ commands_of lines

-- an answer to a command, if it is one
abbrev pub answer_to_command : Call → Result Outcome Refusal → List (Result Outcome Refusal)
answer_to_command (Commands command) answer = answer ∷ []
answer_to_command (Collect element number) answer = []

-- the answers that a trace has for its commands, in order
abbrev pub command_answers : List Line → List (Result Outcome Refusal)
command_answers [] = []
command_answers (line ∷ lines) = answer_to_command line.call line.answer ++ command_answers lines
