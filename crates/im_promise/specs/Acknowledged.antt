-- Whether events were answered as the sequential memory answers them, and how many calls left commands in doubt. (Own.)
use Rattle.std.specs.Prelude.{◌≡◌, ℕ, ◌+◌, ◌<◌, max, Bool, true, false, ◌⊎◌, List, [], ◌∷◌, map, length, take}
use Rattle.std.specs.Prelude.{if◌then◌else◌, IsOk, Ok, Err}
use Rattle.im_types.specs.Types.{Command, Asks, JournalFull, Device, Failed, Contents, step, is_accepted, after}
use Rattle.im_types.specs.Types.{as_served, answers_of, puts_of}
use Rattle.{im_journal.specs.Holding.ahead_after, im_groups.specs.Commands.answers_with}
use Rattle.im_engine.specs.{Answered.is_device, Commands.each_refused, Groups.all_refused}
use Rattle.im_session.specs.declared.{Answer.Answer, Event.Event}
use Rattle.im_session.specs.declared.Answer.TheVariants.{Advanced, Grouped, Served as Told, Swept as DidSweep}
use Rattle.im_session.specs.declared.Answer.TheVariants.{Turned as TookTurn}
use Rattle.im_session.specs.declared.Event.TheVariants.{Ahead, Command as Serve, Group as Together, Sweep, Turn}
use Rattle.im_session.specs.Events.{acknowledged_by, has_device, is_fault, reached_at}

-- the answer leaves the commands of its event in doubt
abbrev pub is_doubt : Answer → Bool
is_doubt (Told (Ok outcome)) = false
is_doubt (Told (Err refusal)) = is_device refusal
is_doubt (Grouped room served) = has_device served.items
is_doubt (Advanced ahead (Ok many) served) = false
is_doubt (Advanced ahead (Err refusal) served) = is_device refusal
is_doubt (TookTurn answer) = false
is_doubt (DidSweep answer) = false

-- how many of the calls left their commands in doubt
abbrev pub calls_in_doubt : List Answer → ℕ
calls_in_doubt [] = 0
calls_in_doubt (answer ∷ answers) = (if is_doubt answer then 1 else 0) + calls_in_doubt answers

-- the maximum number of commands of an event: one for a command, the members of a group, also of one that is put ahead,
-- and none for a turn or a sweep
abbrev pub most_of : Event → ℕ
most_of (Serve command) = 1
most_of (Together members) = length members
most_of (Ahead members) = length members
most_of Turn = 0
most_of (Sweep most) = 0

-- the maximum for one event of a list
abbrev pub most_of_one : List Event → ℕ
most_of_one [] = 0
most_of_one (event ∷ events) = max (most_of event) (most_of_one events)

-- the answer says that a call of the disk failed before
abbrev pub IsFailed : Event → Answer → Type 0
IsFailed (Serve command) (Told answer) = answer ≡ Err Failed
IsFailed (Together members) (Grouped room served) = served.items ≡ all_refused Failed members
IsFailed (Ahead members) (Advanced ahead result served) =
    (result ≡ Err Failed) × (served.items ≡ each_refused Failed ahead.items)
IsFailed Turn (TookTurn answer) = answer ≡ Err Failed
IsFailed (Sweep most) (DidSweep answer) = answer ≡ Err Failed
IsFailed event answer = ⊥

-- What an answer may be. A command gets its answer on this memory. If it would change the memory, it may get
-- `JournalFull` or `Device` instead. The members of a group get their answers one after another, and those without room
-- get `JournalFull`. If a member would have been put on the disk, all members may get `Device` instead. Where a group
-- is put ahead, the members that were ahead get their answers one after another, or all of them `Device`: there is a
-- place for each.
abbrev pub IsAnswer : Contents → ℕ → Event → Answer → Type 0
IsAnswer m count (Serve command) (Told answer) =
    ((step m command).answer ≡ answer)
    ⊎ ((is_accepted m command ≡ true) × ((answer ≡ Err JournalFull) ⊎ (answer ≡ Err Device)))
IsAnswer m count (Together members) (Grouped room served) =
    (served.items ≡ map as_served (answers_of (reached_at m count room) members))
    ⊎ ((served.items ≡ all_refused Device members) × (0 < length (puts_of (reached_at m count room) members)))
IsAnswer m count (Ahead members) (Advanced ahead result served) =
    (IsOk result × (served.items ≡ map as_served (answers_with m (length ahead.items) ahead.items)))
    ⊎ ((result ≡ Err Device) × (served.items ≡ each_refused Device ahead.items))
IsAnswer m count Turn (TookTurn answer) = Unit {0}
IsAnswer m count (Sweep most) (DidSweep answer) = Unit {0}
IsAnswer m count event answer = ⊥

-- an answer that tells which members were ahead names these
abbrev pub NamesAhead : List Command → Answer → Type 0
NamesAhead members (Advanced ahead result served) = ahead.items ≡ members
NamesAhead members answer = Unit {0}

-- The members that are ahead after an event. Those that were put ahead; none after `Device`. Else those that were
-- ahead, unless something was put.
abbrev pub ahead_by : Contents → List Command → Event → Answer → List Command
ahead_by m members (Ahead next) (Advanced ahead (Ok many) served) = take many (map Asks next)
ahead_by m members (Ahead next) (Advanced ahead (Err refusal) served) = if is_device refusal then [] else members
ahead_by m members event answer = ahead_after (length (acknowledged_by m event answer)) members

-- Each event is answered in its turn, on the memory and the count after the commands acknowledged before it, and with
-- the members ahead that the events before it left. After a call of the disk has failed, everything is answered
-- `Failed`.
abbrev pub AreAnswers : Bool → Contents → ℕ → List Command → List Event → List Answer → Type 0
AreAnswers failed m count ahead [] [] = Unit {0}
AreAnswers failed m count ahead [] (answer ∷ answers) = ⊥
AreAnswers failed m count ahead (event ∷ events) [] = ⊥
AreAnswers true m count ahead (event ∷ events) (answer ∷ answers) =
    IsFailed event answer × NamesAhead ahead answer × AreAnswers true m count ahead events answers
AreAnswers false m count ahead (event ∷ events) (answer ∷ answers) = let sure = acknowledged_by m event answer in
    IsAnswer m count event answer × NamesAhead ahead answer
    × AreAnswers (is_fault answer) (after m sure) (count + length sure) (ahead_by m ahead event answer) events answers
