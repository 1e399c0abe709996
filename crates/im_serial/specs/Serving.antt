-- What serving a script leaves on a disk. (Own.)
use Rattle.std.specs.Prelude.{◌≡◌, ℕ, ◌≤◌, false, ◌⊎◌, List, [], ◌∷◌, ◌++◌, map, length, take, IfSome, IfOk, OnOk}
use Rattle.std.specs.Prelude.{MatchResult, Some, Ok, Option, Result}
use Rattle.im_types.specs.Types.{Entry, Op, Waiter, Command, Tells, Contents, IsMemory, after}
use Rattle.im_disk.specs.{declared.Disk.Ghosts, Moment.Left, Moment.Moment, Since.Leaves}
use Rattle.im_session.specs.Kept.{Kept, SessionStart, SessionState}
use Rattle.im_script.specs.Places.{action_op}
use Rattle.im_text.specs.declared.{Lines.Lines, OutputLine.OutputLine, Waited.Waited}
use Rattle.im_text.specs.Said.{IsLast, nows, Output, output_by, Prints, replies, SaysLast, SaysSome, SaysWhole, waits}
use Rattle.im_text.specs.Said.{who_of, Written}
use Rattle.im_serial.specs.Asked.{AreDue, bases_by, Course, earlier_in, HasNamed, HasReached, IsAsked, LeadsIf}
use Rattle.im_serial.specs.Asked.{Standing, standing, Wanted, wanted_of}
use Rattle.im_serial.specs.declared.{server.Server.Server as Whole, waits.Mark.Mark}
use Rattle.im_serial.specs.Noted.{AreKnown, AreLast, AreNoted, Notes, notes}

-- ---- while it is served

-- the notes of the requests that had to wait are right, on a memory after these commands
pub record IsRecorded (m : Contents) (put : List Command) (n : Notes) : Type 0 where
  pub memory : IsMemory (length m.cells) (length m.windows) m
  pub noted : AreNoted m put n.element n.upto n.marks n.waited

-- those that had to wait are these, behind those that waited when the script began
abbrev pub AreWaited : Option Course → List Waited → List Waiter → Type 0
AreWaited script waited names = map who_of waited ≡ earlier_in script ++ names

module _ {D : Type 0} (start : SessionStart D) (t : SessionState D) where
  -- What is known while it goes on, by a session that began there. Nothing is in doubt, and the text has the lines of
  -- the commands that were put. Where the script stands after them, with its names; those that had to wait; that no
  -- window was confirmed early; and, if there is a script, that the notes of those that had to wait are right.
  pub record IsServing (s : Standing) (text : List OutputLine) (n : Notes) : Type 0 where
    pub start_is : t.start ≡ start
    pub works : t.engine.failed ≡ false
    pub sure : t.doubt ≡ []
    pub memory : t.engine.memory ≡ after start.memory t.put
    pub lines : text ≡ replies start.memory t.put
    pub names : AreWaited s.script n.waited (waits start.memory t.put)
    pub reached : HasReached start.memory s t.put
    pub named : HasNamed start.memory s t.put
    pub due : AreDue start.memory t.put
    pub recorded : IfSome s.script (λ _. IsRecorded start.memory t.put n)

  -- What is known when it has ended, or goes on. The text has the lines of the first commands that were put. With those
  -- in doubt the commands are the first requests of the script, and confirmations. Of each request that had to wait, as
  -- far as one is noted, the last entry is noted, or it is kept.
  pub record IsOver (script : Option Course) (text : List OutputLine) (waited : List Waited) : Type 0 where
    pub start_is : t.start ≡ start
    pub told : List Command
    pub others : List Command
    pub split : t.put ≡ told ++ others
    pub lines : text ≡ replies start.memory told
    pub many : ℕ
    pub names : AreWaited script waited (take many (waits start.memory told))
    pub few : length t.doubt ≤ 1
    pub left : List Wanted
    pub leads : LeadsIf start.memory script (t.put ++ t.doubt) left
    pub due : AreDue start.memory (t.put ++ t.doubt)
    pub known : IfSome script (λ _. AreKnown start.memory t.put waited)

-- The call makes a place for the next request, if it succeeds: the requests that had to wait and their marks may
-- change.
abbrev pub MakesPlace : {D T E : Type 0} → Result T E → SessionState D → List Waited → List Mark → SessionState D
    → List Waited → List Mark → Type 0
MakesPlace {D} result old waited marks new learned later = MatchResult result
    (λ _. (start : SessionStart D) (s : Standing) (text : List OutputLine)
    → IsServing start old s text (notes waited marks) → IsServing start new s text (notes learned later))
    (λ _. (start : SessionStart D) (s : Standing) (text : List OutputLine)
    → IsServing start old s text (notes waited marks) → IsOver start new s.script text learned)

-- ---- by a script

-- a server that serves a script: its session, what the writer holds, the lines on their way to it, the requests that
-- had to wait, and their marks
pub record ScriptServer (D : Type 0) : Type 0 where
  pub session : SessionState D
  pub held : Option (List ℕ)
  pub lines : Lines
  pub waited : List Waited
  pub marks : List Mark

-- a server of these
abbrev pub server_of : {D : Type 0} → SessionState D → Option (List ℕ) → Lines → List Waited → List Mark
    → ScriptServer D
server_of session held lines waited marks =
    record { session = session; held = held; lines = lines; waited = waited; marks = marks }

-- its output
abbrev pub output_of : {D : Type 0} → ScriptServer D → Output
output_of t = output_by t.lines t.held

-- a server of the program, and what the writer holds
abbrev pub seen_by : {D : Type 0} → Whole D → Option (List ℕ) → ScriptServer D
seen_by t held = server_of t.session held t.lines t.waited.items t.places.marks.items

module _ {D : Type 0} where
  -- the script stands there, and the lines of what was put were printed
  pub record GoingAt (start : SessionStart D) (held : Output) (s : Standing) (t : ScriptServer D) : Type 0
    where
      pub text : List OutputLine
      pub serving : IsServing start t.session s text (notes t.waited t.marks)
      pub printed : Prints held t.held t.lines text

  -- the same, or it was ended
  pub record EndedAt (start : SessionStart D) (held : Output) (script : Option Course) (t : ScriptServer D)
      : Type 0 where
    pub text : List OutputLine
    pub over : IsOver start t.session script text t.waited
    pub printed : Prints held t.held t.lines text

  -- the script goes on from these requests, with these bases, to those
  abbrev pub Passes : List Wanted → List ℕ → List Wanted → List ℕ → ScriptServer D → ScriptServer D → Type 0
  Passes wanted before later after old new =
      (start : SessionStart D) (held : Output) (script : Option Course) (rest : List Wanted)
      → GoingAt start held (standing script before (wanted ++ rest)) old
      → GoingAt start held (standing script after (later ++ rest)) new

  -- it goes on from these requests or is ended, at the last of them at the latest
  abbrev pub EndsAt : List Wanted → List ℕ → ScriptServer D → ScriptServer D → Type 0
  EndsAt wanted before old new =
      (start : SessionStart D) (held : Output) (script : Option Course) (rest : List Wanted)
      → GoingAt start held (standing script before (wanted ++ rest)) old → EndedAt start held script new

  -- An element asked for an operation, and was answered: a request of the script was served.
  pub record HasAsked {E : Type 0} (element : ℕ) (op : Op) (result : Result Entry E) (old new : ScriptServer D) : Type 0
    where
      pub serves : IfOk result
          (λ entry. (w : Wanted) (before more : List ℕ) → w.element ≡ element → action_op before w.action ≡ Some op
          → bases_by w (Ok (Tells entry)) ≡ Some more → Passes (w ∷ []) before [] (before ++ more) old new)
      pub ends : (w : Wanted) (before : List ℕ) → w.element ≡ element → action_op before w.action ≡ Some op
          → EndsAt (w ∷ []) before old new

  -- These requests of the script were served, if the call succeeded.
  pub record HasServed {T E : Type 0} (wanted : List Wanted) (before after : List ℕ) (result : Result T E)
      (old new : ScriptServer D) : Type 0 where
    pub serves : OnOk result (Passes wanted before [] after old new)
    pub ends : EndsAt wanted before old new

  -- the same by a server of the program, which knows the bases, with what the writer held and holds
  abbrev pub ServedBy : {T E : Type 0} → List Wanted → Result T E → Whole D → Option (List ℕ) → Whole D
      → Option (List ℕ) → Type 0
  ServedBy wanted result old was new is =
      HasServed wanted old.bases.items new.bases.items result (seen_by old was) (seen_by new is)

-- ---- at its end

-- What was printed of the commands that were put, at the end: a prefix of this text, and all of it if the status is 0.
-- The text is the lines of the first of them, then those of requests that had to wait, then that of a refusal. A
-- request that had to wait is told with its last entry after all of them. It is known whether a line of the text tells
-- an error of the program that asked.
pub record Told (m : Contents) (put : List Command) (was : Output) (is : Written) (status : ℕ) : Type 0 where
  pub told : List Command
  pub others : List Command
  pub split : put ≡ told ++ others
  pub waited : List Waited
  pub waiting : (many : ℕ) × (map who_of waited ≡ take many (waits m told))
  pub last_entries : AreLast m put waited
  pub many : ℕ
  pub last : List OutputLine
  pub last_is : IsLast last
  pub begins : SaysSome was is (replies m told ++ nows waited many ++ last)
  pub whole : status ≡ 0 → (map who_of waited ≡ waits m put)
      × SaysWhole was is (replies m put ++ nows waited (length waited))

-- The image was opened, and a session with it put these commands of a script. With those in doubt, at most one, they
-- are the script's first requests, in their order, and confirmations, each of a full window; with status 0 all its
-- requests, and no call of the disk failed.
pub record ServedScript {D : Type 0} (disk : Ghosts D) (text : List ℕ) (old new : D) (was : Output)
    (is : Written) (status : ℕ) : Type 0 where
  pub session : SessionState D
  pub opened : session.start.disk ≡ old
  pub closed : new ≡ session.engine.disk
  pub kept : Kept disk session
  pub asked : IsAsked session.start.memory [] (wanted_of text) (session.put ++ session.doubt) status
  pub confirmed : AreDue session.start.memory (session.put ++ session.doubt)
  pub few : length session.doubt ≤ 1
  pub works : status ≡ 0 → session.engine.failed ≡ false
  pub printed : Told session.start.memory session.put was is status

-- The image was not opened: a crash leaves nothing that it couldn't leave before, and no more than a refusal was
-- printed.
pub record NotOpened {D : Type 0} (now : D → Moment) (past : D → List Moment) (old new : D) (was : Output)
    (is : Option (List ℕ)) (status : ℕ) : Type 0 where
  pub status_is : status ≡ 1
  pub printed : SaysLast was is
  pub leaves : Leaves (now old) (now new) (past old) (past new) (Left (now old))

-- The script was served on the image of a disk, or the image was not opened.
abbrev pub SerialOn : {D : Type 0} → Ghosts D → List ℕ → D → D → Output → Written → ℕ → Type 0
SerialOn disk text old new was is status = NotOpened disk.now disk.past old new was is.0 status
    ⊎ ServedScript disk text old new was is status
