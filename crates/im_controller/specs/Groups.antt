-- Groups of commands under the lock: what lending a group does. (Own.)
use Rattle.std.specs.Prelude.{◌≡◌, ℕ, ◌+◌, ◌<◌, ◌≤◌, Bool, true, false, List, [], ◌∷◌, ◌++◌, map, length, if◌then◌else◌}
use Rattle.std.specs.Prelude.{Some, None, Option, Result}
use Rattle.im_types.specs.Types.{Request, Command, Outcome, Line, Commands, Served, Refusal, TraceFull, Contents}
use Rattle.im_types.specs.Types.{answer_to, Change}
use Rattle.{im_disk.specs.declared.Disk.Ghosts, im_groups.specs.Commands.places_behind}
use Rattle.im_engine.specs.{Commands.CommandsAnswered, Commands.each_refused, State.EngineState}
use Rattle.im_session.specs.{Keeping.KeepsPut, Keeping.MakesFewCalls, Kept.SessionState}
use Rattle.im_session.specs.Serving.{served_answer, served_together}
use Rattle.im_trace.specs.Lines.{counts_after, leaves_line, left_lines, LineCounts, memory_after}
use Rattle.im_trace.specs.Log.{IsOf, LogState, plain, ReceiptState, with_unclaimed}
use Rattle.im_controller.specs.Admitted.{Admits, free_lines, is_asked, places_with}
use Rattle.im_controller.specs.{Lends.changes_put, State.SharedState}

-- ---- what the members are answered

-- the log with the answers to these commands, one after another
abbrev pub with_all_unclaimed : LogState → List Command → List (Result Outcome Refusal) → LogState
with_all_unclaimed l [] answers = l
with_all_unclaimed l (c ∷ cs) [] = l
with_all_unclaimed l (c ∷ cs) (answer ∷ answers) = with_all_unclaimed (with_unclaimed l c answer) cs answers

-- an answer that leaves a line is the memory's
abbrev pub IsAnswerTo : Contents → Command → Result Outcome Refusal → Type 0
IsAnswerTo m c answer = leaves_line answer ≡ true → answer ≡ answer_to m (Commands c)

-- each of these answers is the memory's, at the memory after the answers before it
abbrev pub AreAnswersTo : Contents → List Command → List (Result Outcome Refusal) → Type 0
AreAnswersTo m [] answers = Unit {0}
AreAnswersTo m (c ∷ cs) [] = ⊥
AreAnswersTo m (c ∷ cs) (answer ∷ answers) =
    IsAnswerTo m c answer × AreAnswersTo (memory_after m (Commands c) answer) cs answers

-- the memory after these answers
abbrev pub memory_after_all : Contents → List Command → List (Result Outcome Refusal) → Contents
memory_after_all m [] answers = m
memory_after_all m (c ∷ cs) [] = m
memory_after_all m (c ∷ cs) (answer ∷ answers) = memory_after_all (memory_after m (Commands c) answer) cs answers

-- how many lines the answers leave
abbrev pub lines_left : List (Result Outcome Refusal) → ℕ
lines_left [] = 0
lines_left (answer ∷ answers) = (if leaves_line answer then 1 else 0) + lines_left answers

-- The members' answers, given the lines that the trace has room for. They are `TraceFull` if it has room for none,
-- unless the engine has failed, and else the engine's.
pub record MembersAnswered {D : Type 0} (old : EngineState D) (room : ℕ) (members : List Command)
    (answers : List Served) (new : EngineState D) : Type 0 where
  pub full : old.failed ≡ false → room ≡ 0 → (answers ≡ each_refused TraceFull members) × (new ≡ old)
  pub dead : old.failed ≡ true → CommandsAnswered old members answers new
  pub served : 0 < room → CommandsAnswered old members answers new

-- What a session puts of the members, given the lines that the trace has room for: nothing if it has room for none, or
-- if the engine has failed.
pub record MembersPut {D : Type 0} (old : SessionState D) (room : ℕ) (members : List Command)
    (new : SessionState D) : Type 0 where
  pub full : old.engine.failed ≡ false → room ≡ 0 → new ≡ old
  pub dead : old.engine.failed ≡ true → new ≡ old
  pub put : 0 < room → new ≡ served_together old members new.engine

-- ---- what a group comes to

-- what these commands change, by the memory before all of them
abbrev pub changes_put_all : Contents → ℕ → List Command → List Change
changes_put_all m left [] = []
changes_put_all m left (c ∷ cs) = changes_put m left c ++ changes_put_all m (places_behind m left c) cs

-- A group whose members the session is lent to, one after another, but for those that are refused before. Their ports
-- take the answers later, and count the lines then.
pub record LendsGroup {D : Type 0} (disk : Ghosts D) (plan : Option (List Request)) (s : SharedState D)
    (members : List Command) (s' : SharedState D) : Type 0 where
  -- the members that are lent, and the log with the answers to the others: `OffPlan`, or `NoMemory` if the pane has no
  -- room for a member's change
  pub lent : List Command
  pub refused : LogState
  pub admits : Admits plan s.session.engine s.log members lent refused
  -- if the engine has failed or the trace is full, all are lent
  pub all : is_asked s.session.engine (free_lines s.log) ≡ false → lent ≡ members
  -- what those that are lent are answered, and what is put of them
  pub answers : List Served
  pub answered : MembersAnswered s.session.engine (free_lines s.log) lent answers s'.session.engine
  pub put : MembersPut s.session (free_lines s.log) lent s'.session
  pub log : s'.log ≡ with_all_unclaimed refused lent (map served_answer answers)
  pub servers : s'.servers ≡ s.servers
  -- all that the group changed is shown then, or nothing if the engine has failed
  pub shown : s'.session.engine.failed ≡ false → s'.shown
      ≡ s.shown ++ changes_put_all s.session.engine.memory (places_with s.session.engine (free_lines s.log)) lent
  pub hidden : s'.session.engine.failed ≡ true → s'.shown ≡ s.shown
  -- each file left since then has all that was put before
  pub keeps : KeepsPut disk s.session s'.session
  pub few : MakesFewCalls disk s.session lent s'.session

-- what a port gets while it holds the lock once: nothing yet, or the answer to its command, and then the line is
-- counted
abbrev pub CountsAnswer : (Line → Bool) → LineCounts → Command → Option (Result ReceiptState Refusal) → LineCounts
    → Type 0
CountsAnswer marks t c None t' = t' ≡ t
CountsAnswer marks t c (Some answer) t' =
    (t' ≡ counts_after marks t (left_lines (Commands c) (plain answer))) × IsOf c answer
