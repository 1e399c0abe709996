-- A script that is run once, whatever stopped it before. (Own.)
use Rattle.std.specs.Prelude.{◌≡◌, ℕ, Bool, true, false, ◌⊎◌, List, [], ◌++◌}
use Rattle.im_types.specs.Types.{Command, Line, Contents, after}
use Rattle.{im_plans.specs.Runs.HasServed, im_disk.specs.declared.Disk.Ghosts, im_engine.specs.State.EngineState}
use Rattle.{im_script.specs.declared.Heard.Heard, im_text.specs.declared.OutputLine.OutputLine}
use Rattle.im_session.specs.Kept.{Kept, session_of, SessionStart}
use Rattle.im_text.specs.Said.{IsLast, Output, output_from, SaysSome, SaysWhole, Written}
use Rattle.im_serial.specs.{Asked.Wanted, Asked.wanted_of, Fitting.FitsScript, Had.numbers_had}
use Rattle.im_serial.specs.Once.{HasMade, IsPrefix, lines_had}
use Rattle.im_run.specs.Orders.{AreAllOrders, Ask, bases_made, rest_of, scope_when, script_heard}
use Rattle.im_run.specs.Planned.{EndsOnPlan, GoesByPlan, plan_of}
use Rattle.im_run.specs.{Running.Opened, Running.RunOn, Tracing.TraceState}

-- It ended before the run: the script was refused, or what the memory has of it couldn't be printed. The session put
-- nothing. What was printed is a prefix of this text: the first lines of what the memory has of the script, and the
-- line of a refusal. If the memory doesn't fit the script, no line but that of the refusal is among them.
pub record IsUnrun {D : Type 0} (disk : Ghosts D) (script : List Wanted) (start : SessionStart D) (new : D)
    (was : Output) (is : Written) (calls : TraceState) (status : ℕ) : Type 0 where
  pub status_is : status ≡ 1
  pub engine : EngineState D
  pub kept : Kept disk (session_of start [] [] engine)
  pub closed : new ≡ engine.disk
  pub had : List OutputLine
  pub had_is : IsPrefix had (lines_had start.memory (numbers_had start.memory) script)
  pub fit : FitsScript start.memory script ⊎ (had ≡ [])
  pub last : List OutputLine
  pub last_is : IsLast last
  pub begins : SaysSome was is (had ++ last)
  pub unserved : calls ≡ record { setup = []; served = []; recorded = true }

-- All requests of a script's parts, the settled ones too: the n-th one of an element has number n. Its names stand for
-- these bases. Each was served at the end if nothing was refused.
pub record HasServedAll (bases : List ℕ) (script : List Heard) (end : Contents) (none : Type 0) : Type 0 where
  pub whole : List Ask
  pub is_whole : AreAllOrders bases script whole
  pub served : none → HasServed end.windows (plan_of whole)

-- The same of a run that began on this memory, with this setup, and put these commands. If it was planned, it went by
-- the plan of all those requests.
abbrev pub ServesRest : Bool → Contents → List ℕ → List Line → Type 0 → List Command → List Command → List Command
    → List Ask → Type 0
ServesRest planned m text trace none setup put doubt orders =
    (all : HasServedAll (bases_made (rest_of m text) m setup) (script_heard text) (after m put) none)
    × (planned ≡ true → EndsOnPlan (Unit {0}) (plan_of all.whole) (after m setup) trace doubt (after m put) none)

-- The lines of what the memory has of the script were printed and written out. It fits the script: what is kept under
-- the script's numbers is of its operations, and each block of the setup that it has was made. The rest was run, as a
-- whole script is, but for the requests before an element's first one that waits. The lines of what was done come
-- behind those. It was run by a plan of all requests of its parts, or freely.
pub record RanRest {D : Type 0} (disk : Ghosts D) (planned : Bool) (text : List ℕ) (start : SessionStart D) (new : D)
    (was : Output) (is : Written) (calls : TraceState) (status : ℕ) : Type 0 where
  pub fit : FitsScript start.memory (wanted_of text)
  pub made : HasMade start.memory (wanted_of text)
  pub mid : Written
  pub shown : SaysWhole was mid (lines_had start.memory (numbers_had start.memory) (wanted_of text))
  pub run : RunOn disk (rest_of start.memory text) (ServesRest planned start.memory text calls.served (status ≡ 0))
      start new (output_from was mid) is calls status

-- the one or the other
abbrev pub EndsOnce : {D : Type 0} → Ghosts D → Bool → List ℕ → SessionStart D → D → Output
    → Written → TraceState → ℕ → Type 0
EndsOnce disk planned text start new was is calls status = IsUnrun disk (wanted_of text) start new was is calls status
    ⊎ RanRest disk planned text start new was is calls status

-- a script was run once, by a plan or freely
abbrev pub RunsOnceOn : {D : Type 0} → Ghosts D → Bool → List ℕ → D → D → Output → Written
    → TraceState → ℕ → Type 0
RunsOnceOn disk planned text old new was is calls status = Opened disk
    (λ start. EndsOnce disk planned text start new was is calls status) old new was is status

-- ---- once or anew

-- what else is told of a run
abbrev pub also_when : Bool → Bool → Contents → List ℕ → List Line → Type 0 → List Command → List Command
    → List Command → List Ask → Type 0
also_when false false m text trace none setup put doubt orders = Unit {0}
also_when false true m text trace none setup put doubt orders = GoesByPlan m trace none setup put doubt orders
also_when true planned m text trace none setup put doubt orders =
    ServesRest planned m text trace none setup put doubt orders

-- a script was run, by a plan or freely
abbrev pub RunWhen : {D : Type 0} → Ghosts D → Bool → Bool → List ℕ → SessionStart D → D → Output
    → Written → TraceState → ℕ → Type 0
RunWhen disk once planned text start new was is calls status = RunOn disk (scope_when once start.memory text)
    (also_when once planned start.memory text calls.served (status ≡ 0)) start new was is calls status

-- the same, behind the lines of what the memory has of it if it is done once
abbrev pub EndsWhen : {D : Type 0} → Ghosts D → Bool → Bool → List ℕ → SessionStart D → D → Output
    → Written → TraceState → ℕ → Type 0
EndsWhen disk false planned text start new was is calls status =
    RunWhen disk false planned text start new was is calls status
EndsWhen disk true planned text start new was is calls status = EndsOnce disk planned text start new was is calls status

-- the same of an image that was opened, or it was not opened
abbrev pub RunsWhen : {D : Type 0} → Ghosts D → Bool → Bool → List ℕ → D → D → Output → Written
    → TraceState → ℕ → Type 0
RunsWhen disk once planned text old new was is calls status = Opened disk
    (λ start. EndsWhen disk once planned text start new was is calls status) old new was is status
