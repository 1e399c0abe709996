-- What is asked and told, as lists. (Own.)
use Rattle.std.specs.Prelude.{ℕ, List, map}
use Rattle.im_types.specs.Types.{Command, Served}
use Rattle.im_front.specs.declared.asked.{AskedCommand.AskedCommand, ToldAnswer.ToldAnswer}

-- a command with its ticket
abbrev pub with_ticket : ℕ → Command → AskedCommand
with_ticket ticket command = record { ticket = ticket; command = command }

-- the commands that are asked
abbrev pub commands_asked : List AskedCommand → List Command
commands_asked asked = map (λ (a : AskedCommand). a.command) asked

-- what these answers were asked
abbrev pub asks_told : List ToldAnswer → List AskedCommand
asks_told told = map (λ (t : ToldAnswer). t.asked) told

-- the commands of these answers
abbrev pub commands_told : List ToldAnswer → List Command
commands_told told = commands_asked (asks_told told)

-- the answers alone
abbrev pub answers_told : List ToldAnswer → List Served
answers_told told = map (λ (t : ToldAnswer). t.served) told
