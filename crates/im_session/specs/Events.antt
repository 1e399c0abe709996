-- Events of a session: how they are answered, what is acknowledged of them, and what is in doubt.
use Rattle.std.specs.Prelude.{◌≡◌, ℕ, ◌+◌, ◌≤◌, Bool, false, ◌||◌, List, [], ◌∷◌, ◌++◌, map, length, take, IfOk}
use Rattle.std.specs.Prelude.{if◌then◌else◌, Ok, Err}
use Rattle.im_types.specs.Types.{Command, Asks, Served, Unserved, Done, Refused, Contents, after, puts_of, Reached}
use Rattle.im_groups.specs.Commands.{commands_at}
use Rattle.im_engine.specs.Answered.{Answered, is_device, SweepAnswered, TurnAnswered}
use Rattle.im_engine.specs.{Chain.Advances, Chain.TakesNext, Groups.GroupAnswered, State.EngineState}
use Rattle.im_session.specs.{declared.events.Answer.Answer, declared.events.Event.Event, Kept.MeansPut, Kept.session_of}
use Rattle.im_session.specs.{Kept.SessionState, Put.doubted_by, Put.sure_by, Serving.served_answer}
use Rattle.im_session.specs.declared.events.Answer.TheVariants.{Advanced, Grouped, Served as Told, Swept as DidSweep}
use Rattle.im_session.specs.declared.events.Answer.TheVariants.{Turned as TookTurn}
use Rattle.im_session.specs.declared.events.Event.TheVariants.{Ahead, Command as Serve, Group as Together, Sweep, Turn}

-- An engine's answer to one event. The answer to a group has the room that it found, and that to a group that is put
-- ahead has the members that it found ahead, and what they are answered.
abbrev pub EventAnswered : {D : Type 0} → EngineState D → Event → Answer → EngineState D → Type 0
EventAnswered old (Serve command) (Told answer) new = Answered old command answer new
EventAnswered old (Together members) (Grouped room served) new =
    (room ≡ old.room) × GroupAnswered old members served.items new
EventAnswered old (Ahead members) (Advanced ahead result served) new =
    (ahead.items ≡ old.ahead) × Advances old (map Asks members) result served.items new
    × IfOk result (TakesNext old (map Asks members) new)
EventAnswered old Turn (TookTurn answer) new = TurnAnswered old answer new
EventAnswered old (Sweep most) (DidSweep answer) new = SweepAnswered old most answer new
EventAnswered old event answer new = ⊥

-- the answers to events, one after another
abbrev pub AnsweredInTurn : {D : Type 0} → EngineState D → List Event → List Answer → EngineState D → Type 0
AnsweredInTurn old [] [] new = new ≡ old
AnsweredInTurn old [] (answer ∷ answers) new = ⊥
AnsweredInTurn old (event ∷ events) [] new = ⊥
AnsweredInTurn {D} old (event ∷ events) (answer ∷ answers) new =
    (mid : EngineState D) × EventAnswered old event answer mid × AnsweredInTurn mid events answers new

-- ---- failures

-- a member's answer says that a call of the disk failed
abbrev pub says_device : Served → Bool
says_device Unserved = false
says_device (Done outcome) = false
says_device (Refused refusal) = is_device refusal

-- one of the members was answered so; then all are
abbrev pub has_device : List Served → Bool
has_device [] = false
has_device (answer ∷ served) = says_device answer || has_device served

-- the answer says that a call of the disk failed
abbrev pub is_fault : Answer → Bool
is_fault (Told (Ok outcome)) = false
is_fault (Told (Err refusal)) = is_device refusal
is_fault (Grouped room served) = has_device served.items
is_fault (Advanced ahead (Ok many) served) = false
is_fault (Advanced ahead (Err refusal) served) = is_device refusal
is_fault (TookTurn (Ok done)) = false
is_fault (TookTurn (Err refusal)) = is_device refusal
is_fault (DidSweep (Ok swept)) = false
is_fault (DidSweep (Err refusal)) = is_device refusal

-- one of the answers says so
abbrev pub has_fault : List Answer → Bool
has_fault [] = false
has_fault (answer ∷ answers) = is_fault answer || has_fault answers

-- ---- what was acknowledged

-- the acknowledged commands of the members of a group, one after another
abbrev pub acknowledged_members : Contents → List Command → List Served → List Command
acknowledged_members m [] served = []
acknowledged_members m (c ∷ members) [] = []
acknowledged_members m (c ∷ members) (answer ∷ served) =
    sure_by m c (served_answer answer)
    ++ acknowledged_members (after m (sure_by m c (served_answer answer))) members served

-- the commands that this event acknowledges: those that change the memory and were served, and for a group that is put
-- ahead those of the group that was ahead of it
abbrev pub acknowledged_by : Contents → Event → Answer → List Command
acknowledged_by m (Serve command) (Told answer) = sure_by m command answer
acknowledged_by m (Together members) (Grouped room served) = acknowledged_members m (map Asks members) served.items
acknowledged_by m (Ahead members) (Advanced ahead result served) = acknowledged_members m ahead.items served.items
acknowledged_by m event answer = []

-- the accepted commands that were acknowledged, in their order
abbrev pub acknowledged : Contents → List Event → List Answer → List Command
acknowledged m [] answers = []
acknowledged m (event ∷ events) [] = []
acknowledged m (event ∷ events) (answer ∷ answers) =
    acknowledged_by m event answer ++ acknowledged (after m (acknowledged_by m event answer)) events answers

-- ---- what is in doubt

-- a memory, a count of commands and a room
abbrev pub reached_at : Contents → ℕ → ℕ → Reached
reached_at m count room = record { contents = m; count = count; room = room }

-- The command of this event, if it would change the memory and was answered `Device`. For a group answered `Device`,
-- these are all commands that it would have put into the room that it found. For a group that is put ahead, these are
-- all that the group ahead of it had put: nothing of its own is ever in doubt.
abbrev pub in_doubt_by : Contents → ℕ → Event → Answer → List Command
in_doubt_by m count (Serve command) (Told answer) = doubted_by m command answer
in_doubt_by m count (Together members) (Grouped room served) =
    if has_device served.items then puts_of (reached_at m count room) members else []
in_doubt_by m count (Ahead members) (Advanced ahead result served) =
    if is_fault (Advanced ahead result served) then commands_at m (length ahead.items) ahead.items else []
in_doubt_by m count event answer = []

-- the commands in doubt: nobody knows whether all of them are on the disk, or none
abbrev pub in_doubt : Contents → ℕ → List Event → List Answer → List Command
in_doubt m count [] answers = []
in_doubt m count (event ∷ events) [] = []
in_doubt m count (event ∷ events) (answer ∷ answers) = let sure = acknowledged_by m event answer in
    in_doubt_by m count event answer ++ in_doubt (after m sure) (count + length sure) events answers

-- ---- the session

-- the session after this event, with its answer
abbrev pub after_event : {D : Type 0} → SessionState D → Event → Answer → EngineState D → SessionState D
after_event s event answer engine = session_of s.start (s.put ++ acknowledged_by s.engine.memory event answer)
    (s.doubt ++ in_doubt_by s.engine.memory s.engine.count event answer) engine

-- the session after these events, with their answers
abbrev pub after_events : {D : Type 0} → SessionState D → List Event → List Answer → EngineState D → SessionState D
after_events s events answers engine = session_of s.start (s.put ++ acknowledged s.engine.memory events answers)
    (s.doubt ++ in_doubt s.engine.memory s.engine.count events answers) engine

-- the file means what the session has after a prefix of these events: of each event all commands, or none
abbrev pub MeansEvents : {D : Type 0} → SessionState D → List Event → List Answer → List ℕ → Type 0
MeansEvents s events answers file = (many : ℕ) × (many ≤ length answers)
    × (let far = after_events s (take many events) (take many answers) s.engine
    in MeansPut far.start (far.put ++ far.doubt) file)
