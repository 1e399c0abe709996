-- What the session under the lock has put, and since when the lines of its trace are kept. (Own.)
use Rattle.std.specs.Prelude.{◌≡◌, ℕ, ◌+◌, ◌<◌, ◌≤◌, Bool, false, List, ◌++◌, length}
use Rattle.im_types.specs.Types.{Command, Line, Contents, after, accepted}
use Rattle.{im_laws.specs.Traces.commands_of, im_disk.specs.declared.Disk.Ghosts}
use Rattle.im_session.specs.{Keeping.KeptFrom, Kept.SessionStart, Kept.SessionState}
use Rattle.im_trace.specs.{Lines.NeverGoBack, Lines.time_at, Origin.Origin}
use Rattle.im_controller.specs.{Planned.AreOnPlan, State.OpeningState}
use mathlib.Core.List.{IsPrefix}
pub use Rattle.im_trace.specs.Begun.{Begun}

-- where a session begins, given what is known of its disk
abbrev pub begun_by : {D : Type 0} → Ghosts D → SessionStart D → Begun
begun_by disk start = record {
  now = disk.now start.disk;
  past = disk.past start.disk;
  failures = disk.failures start.disk;
  memory = start.memory;
  count = start.count;
}

-- A controller that is made of this opening begins there. Its disk is honest then only if what the origin has of that
-- holds.
pub record IsOriginOf {D : Type 0} (disk : Ghosts D) (opening : OpeningState D) (origin : Origin) : Type 0 where
  pub memory : opening.session.engine.memory ≡ origin.memory
  pub plan : opening.plan ≡ origin.plan
  pub lines : opening.lines_name ≡ origin.lines_name
  pub marked : opening.marked_name ≡ origin.marked_name
  pub ports : opening.ports ≡ origin.ports
  pub book : opening.book ≡ origin.book
  pub begun : begun_by disk opening.session.start ≡ origin.begun
  pub first : opening.session.put ≡ origin.first
  pub time : length (disk.past opening.session.engine.disk) ≡ origin.time
  pub failed : opening.session.engine.failed ≡ origin.failed
  pub honest : disk.honest opening.session.engine.disk → origin.honest

-- where a controller begins that is made of this opening, if these lines are marked
abbrev pub origin_of : {D : Type 0} → Ghosts D → (Line → Bool) → OpeningState D → Origin
origin_of disk marks opening = record {
  memory = opening.session.engine.memory;
  plan = opening.plan;
  marks = marks;
  lines_name = opening.lines_name;
  marked_name = opening.marked_name;
  ports = opening.ports;
  book = opening.book;
  begun = begun_by disk opening.session.start;
  first = opening.session.put;
  time = length (disk.past opening.session.engine.disk);
  failed = opening.session.engine.failed;
  honest = disk.honest opening.session.engine.disk;
}

-- the accepted commands of a trace, in order
abbrev pub accepted_in : Contents → List Line → List Command
accepted_in m trace = accepted m (commands_of trace)

-- The session of a controller with this trace began where the origin says. It has put what it had put before the trace
-- began, and then the trace's accepted commands. If there is a plan, it has the requests in doubt, unless the session
-- had failed before.
pub record IsSessionOf {D : Type 0} (disk : Ghosts D) (origin : Origin) (trace : List Line)
    (s : SessionState D) : Type 0 where
  pub begun : begun_by disk s.start ≡ origin.begun
  pub memory : origin.memory ≡ after s.start.memory origin.first
  pub put : s.put ≡ origin.first ++ accepted_in origin.memory trace
  pub on_plan : origin.failed ≡ false → AreOnPlan origin.plan s.doubt
  pub honest : disk.honest s.engine.disk → origin.honest

-- a line of a trace with these times: the last one of this history, left at this time
pub record IsLeftAt (trace : List Line) (times : List ℕ) (history : List Line) (time : ℕ) : Type 0 where
  pub begins : IsPrefix history trace
  pub some : 0 < length history
  pub time_is : time ≡ time_at times (length history)

-- Since when the lines of a trace are kept. Each file that a crash may leave at the time of a line or later has all
-- accepted commands up to that line, and what was put before the trace began; and since it began, the latter. A time is
-- the number of the disk's moments before it.
pub record KeepsSince {D : Type 0} (disk : Ghosts D) (origin : Origin) (trace : List Line) (times : List ℕ)
    (s : SessionState D) : Type 0 where
  pub began : origin.time ≤ length (disk.past s.engine.disk)
  pub first : KeptFrom disk s (length origin.first) origin.time
  -- each line has a time, which is no earlier than that of a line before it, and no later than now
  pub whole : length times ≡ length trace
  pub order : NeverGoBack times
  pub by : (history : List Line) (time : ℕ) → IsLeftAt trace times history time
      → time ≤ length (disk.past s.engine.disk)
  pub since : (history : List Line) (time : ℕ) → IsLeftAt trace times history time
      → KeptFrom disk s (length origin.first + length (accepted_in origin.memory history)) time

-- the same of a disk that is honest
abbrev pub KeptSince : {D : Type 0} → Ghosts D → Origin → List Line → List ℕ → SessionState D → Type 0
KeptSince disk origin trace times s = disk.honest s.engine.disk → KeepsSince disk origin trace times s
