-- A group of commands with a number of places: the answers to its members and their effect, each after the one before.
-- (Own.)
use Rattle.std.specs.Prelude.{ℕ, ◌+◌, ◌-◌, min, Bool, ◌&&◌, List, [], ◌∷◌, ◌++◌, if◌then◌else◌, nat_lt, ◌==◌, Err}
use Rattle.std.specs.Prelude.{Result}
use Rattle.im_types.specs.Types.{Command, Outcome, Refusal, JournalFull, LAST, Contents, step, is_accepted}
use Rattle.im_memory.specs.Covering.{most_pages}

-- the number of further commands, after `count` commands and with this room in the journal
abbrev pub places : ℕ → ℕ → ℕ
places count room = min room (LAST - count)

-- the memory accepts the command, and there is a place for it
abbrev pub takes_place : Contents → ℕ → Command → Bool
takes_place m left command = is_accepted m command && nat_lt 0 left

-- a member's answer with `left` places: `JournalFull` if it would change the memory and there is no place
abbrev pub answer_with : Contents → ℕ → Command → Result Outcome Refusal
answer_with m left command = if is_accepted m command && (left == 0) then Err JournalFull else (step m command).answer

-- the memory after a member
abbrev pub contents_with : Contents → ℕ → Command → Contents
contents_with m left command = if takes_place m left command then (step m command).contents else m

-- the places that are left after a member
abbrev pub places_behind : Contents → ℕ → Command → ℕ
places_behind m left command = if takes_place m left command then left - 1 else left

-- the command of a member, if it takes a place
abbrev pub command_at : Contents → ℕ → Command → List Command
command_at m left command = if takes_place m left command then command ∷ [] else []

-- the members' answers, in order
abbrev pub answers_with : Contents → ℕ → List Command → List (Result Outcome Refusal)
answers_with m left [] = []
answers_with m left (command ∷ commands) = answer_with m left command ∷ answers_with (contents_with m left command)
    (places_behind m left command) commands

-- the memory after all members
abbrev pub contents_after_all : Contents → ℕ → List Command → Contents
contents_after_all m left [] = m
contents_after_all m left (command ∷ commands) =
    contents_after_all (contents_with m left command) (places_behind m left command)
    commands

-- the places that are left after all members
abbrev pub left_after : Contents → ℕ → List Command → ℕ
left_after m left [] = left
left_after m left (command ∷ commands) =
    left_after (contents_with m left command) (places_behind m left command) commands

-- the commands of the members that take a place, each judged after the members before it
abbrev pub commands_at : Contents → ℕ → List Command → List Command
commands_at m left [] = []
commands_at m left (command ∷ commands) = command_at m left command ++ commands_at (contents_with m left command)
    (places_behind m left command) commands

-- for each member, whether it takes a place, judged after the members before it
abbrev pub takes_at : Contents → ℕ → List Command → List Bool
takes_at m left [] = []
takes_at m left (command ∷ commands) = takes_place m left command ∷ takes_at (contents_with m left command)
    (places_behind m left command) commands

-- the most pages on which a member may change a record
abbrev pub most_pages_at : Contents → ℕ → Command → ℕ
most_pages_at m left command = if takes_place m left command then most_pages m command else 0

-- the most pages on which all members may change a record, one after another
abbrev pub most_pages_with : Contents → ℕ → List Command → ℕ
most_pages_with m left [] = 0
most_pages_with m left (command ∷ commands) =
    most_pages_at m left command
    + most_pages_with (contents_with m left command) (places_behind m left command) commands
