-- A script that is served once: what a memory has of its requests, and which of them are new. (Own.)
use Rattle.std.specs.Prelude.{◌≡◌, ℕ, ◌+◌, ◌<◌, ◌≤◌, Bool, true, false, ◌⊎◌, List, [], ◌∷◌, ◌++◌, map, length, take}
use Rattle.std.specs.Prelude.{if◌then◌else◌, OnOk, slice_get, MatchResult, Some, Option, Result}
use Rattle.std.specs.Option.{option_map_or}
use Rattle.im_types.specs.Types.{Entry, Waiter, Answered, Base, Command, Limits, Contents, kept_for, IsMemory}
use Rattle.im_disk.specs.{declared.Disk.Ghosts, Since.LeavesNow}
use Rattle.{im_session.specs.Carrying.LedBy, im_text.specs.declared.Lines.Lines, im_text.specs.declared.Waited.Waited}
use Rattle.im_session.specs.Kept.{IsFresh, Kept as SessionKept, SessionStart, SessionState}
use Rattle.im_text.specs.declared.OutputLine.{OutputLine, TheVariants.Done as IsDone}
use Rattle.im_text.specs.Said.{IsLast, nows, Output, Prints, PrintsMore, PrintsOn, replied, replies, SaysSome}
use Rattle.im_text.specs.Said.{SaysWhole, waits, waits_if, who_of, Written}
use Rattle.im_serial.specs.Asked.{AreDue, Course, IsAsked, standing, Wanted, wanted_of}
use Rattle.im_serial.specs.{Begun.HasComeTo, Begun.HasGoneOn, declared.waits.Mark.Mark, Fitting.FitsScript}
use Rattle.im_serial.specs.declared.meeting.Met.{Met, TheVariants.Done, TheVariants.Kept, TheVariants.New}
use Rattle.im_serial.specs.Had.{bases_had, has_block, has_next, left_of, met, news, next_had, numbers_had, who_next}
use Rattle.im_serial.specs.Noted.{AreKnown, AreLast, IsMarked, noted_if, notes}
use Rattle.im_serial.specs.Serving.{IsOver, IsServing, NotOpened, output_of, ScriptServer}

-- ---- what is printed of it

-- K.N done: a request that was confirmed
abbrev pub done_line : Waiter → List OutputLine
done_line who = IsDone who.element who.number ∷ []

-- what an image has of this request: its entry, or that it was confirmed
abbrev pub met_of : Contents → Waiter → Met
met_of m who = option_map_or (λ k. Kept k.entry) (kept_for m.windows who) Done

-- the entry tells the base of a block
abbrev pub IsBase : Entry → Type 0
IsBase entry = (base : ℕ) × (entry ≡ Answered (Base base))

-- a name can stand for the block: it was made, or its request was confirmed
abbrev pub IsMade : Met → Type 0
IsMade New = ⊥
IsMade Done = Unit {0}
IsMade (Kept entry) = IsBase entry

-- each block of the setup that a memory has was made, or its request was confirmed
abbrev pub AreMade : Contents → List ℕ → List Wanted → Type 0
AreMade m many [] = Unit {0}
AreMade m many (w ∷ wanted) = (has_block many w ≡ true → IsMade (met_of m (who_next m many w.element)))
    × AreMade m (met many w.element) wanted

-- the same of all of a script
abbrev pub HasMade : Contents → List Wanted → Type 0
HasMade m script = AreMade m (numbers_had m) script

-- From these requests it comes to those: if the blocks of the rest were made, all were.
abbrev pub MakesBlocks : Contents → List ℕ → List Wanted → List ℕ → List Wanted → Type 0
MakesBlocks m many wanted later left = (rest : List Wanted) → AreMade m later (left ++ rest) → AreMade m many (wanted
    ++ rest)

-- the line of a request that the memory has: what is kept for it, or that it was confirmed
abbrev pub past_line : Contents → Waiter → List OutputLine
past_line m who = option_map_or (λ k. replied who.element who.number k.entry) (kept_for m.windows who) (done_line who)

-- it waits
abbrev pub waits_of : Contents → Waiter → List Waiter
waits_of m who = option_map_or (λ k. waits_if who k.entry) (kept_for m.windows who) []

-- the line of a request, if the memory has it
abbrev pub line_had : Contents → List ℕ → Wanted → List OutputLine
line_had m many w = if has_next many w.element then past_line m (who_next m many w.element) else []

-- it waits, if the memory has it
abbrev pub wait_had : Contents → List ℕ → Wanted → List Waiter
wait_had m many w = if has_next many w.element then waits_of m (who_next m many w.element) else []

-- the lines of those of the requests that it has
abbrev pub lines_had : Contents → List ℕ → List Wanted → List OutputLine
lines_had m many [] = []
lines_had m many (w ∷ wanted) = line_had m many w ++ lines_had m (met many w.element) wanted

-- those of them that wait
abbrev pub waits_had : Contents → List ℕ → List Wanted → List Waiter
waits_had m many [] = []
waits_had m many (w ∷ wanted) = wait_had m many w ++ waits_had m (met many w.element) wanted

-- what is noted of a request that the memory has, if it waits
abbrev pub noted_of : Contents → Waiter → List Waited
noted_of m who = option_map_or (λ k. noted_if who k.entry) (kept_for m.windows who) []

-- ---- while it is printed

-- the one list begins with the other
abbrev pub IsPrefix : {A : Type 0} → List A → List A → Type 0
IsPrefix {A} part all = (rest : List A) × (all ≡ part ++ rest)

-- What is known when the first requests of a script were met, and these are left: the lines of those that the memory
-- has were made, and those of them that wait are noted.
pub record HasMet (m : Contents) (script : List Wanted) (many : List ℕ) (left : List Wanted)
    (text : List OutputLine) (waited : List Waited) (marks : List Mark) : Type 0 where
  pub memory : IsMemory (length m.cells) (length m.windows) m
  pub lines : lines_had m (numbers_had m) script ≡ text ++ lines_had m many left
  pub names : waits_had m (numbers_had m) script ≡ map who_of waited ++ waits_had m many left
  pub marked : (at : ℕ) (w : Waited) → slice_get waited at ≡ Some w → IsMarked m 0 0 marks at w
  pub passed : (at : ℕ) (w : Waited) → slice_get waited at ≡ Some w
      → w.number + left_of many w.element < next_had m w.element

-- what is known when it was ended in the middle
pub record HasBroken (m : Contents) (script : List Wanted) (text : List OutputLine) (waited : List Waited) : Type 0
  where
    pub lines : IsPrefix text (lines_had m (numbers_had m) script)
    pub names : IsPrefix (map who_of waited) (waits_had m (numbers_had m) script)
    pub known : AreKnown m [] waited

module _ {D : Type 0} where
  -- these requests are left, and what was made of the others was printed
  abbrev pub MetAt : List Wanted → List ℕ → List Wanted → Output → ScriptServer D → Type 0
  MetAt script many left held t = (text : List OutputLine)
      × (HasMet t.session.engine.memory script many left text t.waited t.marks × Prints held t.held t.lines text)

  -- it was ended, and what was made of them was printed
  abbrev pub BrokenAt : List Wanted → Output → ScriptServer D → Type 0
  BrokenAt script held t = (text : List OutputLine)
      × (HasBroken t.session.engine.memory script text t.waited × Prints held t.held t.lines text)

  -- from these requests it comes to those
  abbrev pub Meets : List ℕ → List Wanted → List ℕ → List Wanted → ScriptServer D → ScriptServer D → Type 0
  Meets many wanted later left old new = (script rest : List Wanted) (held : Output)
      → MetAt script many (wanted ++ rest) held old → MetAt script later (left ++ rest) held new

  -- from these requests it is ended
  abbrev pub Breaks : List ℕ → List Wanted → ScriptServer D → ScriptServer D → Type 0
  Breaks many wanted old new = (script rest : List Wanted) (held : Output)
      → MetAt script many (wanted ++ rest) held old → BrokenAt script held new

  -- these requests were met, if the call succeeded
  abbrev pub HasPassed : {T E : Type 0} → List ℕ → List Wanted → List ℕ → Result T E
      → ScriptServer D → ScriptServer D → Type 0
  HasPassed many wanted later result old new = MatchResult result
      (λ _. Meets many wanted later [] old new) (λ _. Breaks many wanted old new)

-- From these requests it comes to those: the bases of the blocks among them were appended.
abbrev pub Names : List ℕ → ℕ → List Wanted → List ℕ → ℕ → List Wanted → List ℕ → List ℕ → Type 0
Names many end wanted later behind left before after = (all : List ℕ) (rest : List Wanted)
    → all ≡ before ++ bases_had many end (wanted ++ rest) → all ≡ after ++ bases_had later behind (left ++ rest)

-- What a memory has of a script was printed and written out: the bases of its blocks are known, and nothing was put.
pub record HasShown {D : Type 0} (script : List Wanted) (bases known : List ℕ) (old mid : ScriptServer D) : Type 0 where
  pub session : mid.session ≡ old.session
  pub later : List ℕ
  pub meets : Meets (numbers_had old.session.engine.memory) script later [] old mid
  pub made : HasMade old.session.engine.memory script
  pub names : known ≡ bases ++ bases_had (numbers_had old.session.engine.memory) 0 script
  pub pending : mid.lines.batch.pending.items ≡ []
  pub works : mid.lines.batch.broken ≡ false

-- What a memory has of a script was shown, or at a refusal it was ended there.
abbrev pub ShowsOrBreaks : {D T E : Type 0} → Result T E → List Wanted → List ℕ → List ℕ → ScriptServer D
    → ScriptServer D → Type 0
ShowsOrBreaks result script bases known old new = MatchResult result (λ _. HasShown script bases known old new)
    (λ _. Breaks (numbers_had old.session.engine.memory) script old new)

-- A script fits a memory, or there is a refusal, and nothing was printed.
abbrev pub FitsOrStays : {D T E : Type 0} → Result T E → List Wanted → ScriptServer D → ScriptServer D → Type 0
FitsOrStays result script old new = MatchResult result (λ _. FitsScript old.session.engine.memory script)
    (λ _. FitsScript old.session.engine.memory script ⊎ (new ≡ old))

-- The line of a request that a memory has was printed. At a refusal it may be printed.
abbrev pub TellsPast : {T E : Type 0} → Result T E → Option (List ℕ) → Lines → Option (List ℕ) → Lines
    → List OutputLine → Type 0
TellsPast result was before is after line = MatchResult result (λ _. PrintsMore was before is after line)
    (λ _. PrintsOn was before is after ⊎ PrintsMore was before is after line)

-- what an image has of a request: nothing, that it was confirmed, or its entry
abbrev pub is_had : Met → Bool
is_had New = false
is_had Done = true
is_had (Kept entry) = true

-- ---- at the end

-- the requests of a script that a memory doesn't have
abbrev pub new_of : Contents → List Wanted → List Wanted
new_of m script = news (numbers_had m) script

-- what is left of a script in a memory
abbrev pub course_of : Contents → List Wanted → Course
course_of m script = record {
  first = bases_had (numbers_had m) 0 script;
  wanted = new_of m script;
  earlier = waits_had m (numbers_had m) script;
}

-- it is this course, as far as it was printed which requests wait, and these lines
pub record IsCourse (m : Contents) (script : List Wanted) (c : Course) (had : List OutputLine) : Type 0 where
  pub first : c.first ≡ bases_had (numbers_had m) 0 script
  pub wanted : c.wanted ≡ new_of m script
  pub had_is : IsPrefix had (lines_had m (numbers_had m) script)
  pub earlier_is : IsPrefix c.earlier (waits_had m (numbers_had m) script)

-- a server that has served nothing
pub record HasServedNothing {D : Type 0} (t : ScriptServer D) (bases : List ℕ) : Type 0 where
  pub fresh : IsFresh t.session
  pub works : t.session.engine.failed ≡ false
  pub memory : let m = t.session.engine.memory in IsMemory (length m.cells) (length m.windows) m
  pub waited : t.waited ≡ []
  pub bases_is : bases ≡ []
  pub pending : t.lines.batch.pending.items ≡ []

-- Each block of the setup that a memory had was made, or no command was put. What it had fits the script, or nothing
-- was put, printed or noted.
pub record IsMadeOnce {D : Type 0} (m : Contents) (t : SessionState D) (script : List Wanted)
    (had : List OutputLine) (waited : List Waited) : Type 0 where
  pub made : HasMade m script ⊎ (t.put ++ t.doubt ≡ [])
  pub fit : FitsScript m script ⊎ ((t.put ++ t.doubt ≡ []) × ((had ≡ []) × (waited ≡ [])))

module _ {D : Type 0} where
  -- the script was ended, and what was told of it was printed
  pub record EndedOnce (start : SessionStart D) (script : List Wanted) (was : Output) (t : ScriptServer D)
      : Type 0 where
    pub course : Course
    pub had : List OutputLine
    pub course_is : IsCourse start.memory script course had
    pub text : List OutputLine
    pub over : IsOver start t.session (Some course) text t.waited
    pub once : IsMadeOnce start.memory t.session script had t.waited
    pub printed : Prints was t.held t.lines (had ++ text)

  -- nothing is left of the script, and what was told of it was printed
  pub record DoneOnce (start : SessionStart D) (script : List Wanted) (was : Output) (t : ScriptServer D)
      : Type 0 where
    pub made : HasMade start.memory script
    pub fit : FitsScript start.memory script
    pub bases : List ℕ
    pub text : List OutputLine
    pub serving : IsServing start t.session (standing (Some (course_of start.memory script)) bases []) text
        (notes t.waited t.marks)
    pub printed : Prints was t.held t.lines (lines_had start.memory (numbers_had start.memory) script ++ text)

  -- the script was served once, if the call succeeded
  abbrev pub HasServedOnce : {T E : Type 0} → List Wanted → List ℕ → Result T E → ScriptServer D → ScriptServer D
      → Type 0
  HasServedOnce script bases result old new = HasServedNothing old bases
      → EndedOnce old.session.start script (output_of old) new
      × OnOk result (DoneOnce old.session.start script (output_of old) new)

-- The commands that were put are, confirmations aside, the first of these, in their order, each with its element's next
-- number. The names stand for the blocks that the memory has and for those that were made.
abbrev pub IsAskedOnce : Contents → List Wanted → List Command → ℕ → Type 0
IsAskedOnce m script put status = IsAsked m (bases_had (numbers_had m) 0 script) (new_of m script) put status

-- What was printed at the end, a prefix of this text, and all of it if the status is 0: the lines of what the memory
-- had of the script, as far as they were made; those of the first commands that were put; those of requests that had to
-- wait, with their last entries; and that of a refusal. If what the memory had doesn't fit the script, no line but that
-- of the refusal is printed.
pub record ToldOnce (m : Contents) (script : List Wanted) (put : List Command) (was : Output)
    (is : Written) (status : ℕ) : Type 0 where
  pub had : List OutputLine
  pub had_is : IsPrefix had (lines_had m (numbers_had m) script)
  pub told : List Command
  pub others : List Command
  pub split : put ≡ told ++ others
  pub earlier : List Waiter
  pub earlier_is : IsPrefix earlier (waits_had m (numbers_had m) script)
  pub waited : List Waited
  pub waiting : (many : ℕ) × (map who_of waited ≡ earlier ++ take many (waits m told))
  pub last_entries : AreLast m put waited
  pub fit : FitsScript m script ⊎ ((had ≡ []) × (waited ≡ []))
  pub many : ℕ
  pub last : List OutputLine
  pub last_is : IsLast last
  pub begins : SaysSome was is (had ++ replies m told ++ nows waited many ++ last)
  pub whole : status ≡ 0 → (had ≡ lines_had m (numbers_had m) script)
      × (map who_of waited ≡ waits_had m (numbers_had m) script ++ waits m put)
      × SaysWhole was is (had ++ replies m put ++ nows waited (length waited))

-- The image was opened, and a session with it put these commands: with those in doubt, at most one, they are those
-- requests of this script that its memory didn't have, in their order, and confirmations, each of a full window; with
-- status 0 all of those, and no call of the disk failed. Nothing was put if a block of the setup that the memory had
-- wasn't made, or what it had doesn't fit the script. If each file that was left meant what runs of the script come to,
-- those runs and this one are one run from a new image on.
pub record ServedOnce {D : Type 0} (disk : Ghosts D) (text : List ℕ) (old new : D) (was : Output)
    (is : Written) (status : ℕ) : Type 0 where
  pub session : SessionState D
  pub opened : session.start.disk ≡ old
  pub closed : new ≡ session.engine.disk
  pub kept : SessionKept disk session
  pub asked : IsAskedOnce session.start.memory (wanted_of text) (session.put ++ session.doubt) status
  pub confirmed : AreDue session.start.memory (session.put ++ session.doubt)
  pub few : length session.doubt ≤ 1
  pub works : status ≡ 0 → session.engine.failed ≡ false
  pub made : HasMade session.start.memory (wanted_of text) ⊎ ((session.put ++ session.doubt ≡ []) × (status ≡ 0 → ⊥))
  pub fit : FitsScript session.start.memory (wanted_of text) ⊎ (session.put ++ session.doubt ≡ [])
  pub once : disk.honest new → (limits : Limits) → LeavesNow (disk.now old) (LedBy (HasComeTo limits (wanted_of text)))
      → HasGoneOn limits (wanted_of text) session.start.memory (session.put ++ session.doubt) status
  pub printed : ToldOnce session.start.memory (wanted_of text) session.put was is status

-- The script was served once on the image of a disk, or the image was not opened.
abbrev pub SerialOnceOn : {D : Type 0} → Ghosts D → List ℕ → D → D → Output → Written → ℕ → Type 0
SerialOnceOn disk text old new was is status = NotOpened disk.now disk.past old new was is.0 status
    ⊎ ServedOnce disk text old new was is status

-- The same of a disk that is honest at the end.
abbrev pub ServesOnceOn : {D : Type 0} → Ghosts D → List ℕ → D → D → Output → Written → ℕ → Type 0
ServesOnceOn disk text old new was is status = disk.honest new → SerialOnceOn disk text old new was is status
