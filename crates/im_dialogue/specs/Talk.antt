-- A dialogue over a session: what was asked, what it was answered, and what was put. (Own.)
use Rattle.std.specs.Prelude.{◌≡◌, ℕ, zero, suc, ◌+◌, ◌≤◌, Bool, true, false, ◌⊎◌, List, [], ◌∷◌, ◌++◌, length, IfOk}
use Rattle.std.specs.Prelude.{IfErr, MatchOption, MatchResult, Some, None, Ok, Err, Option, Result}
use Rattle.std.specs.Io.KnownBytes.{Appends}
use Rattle.im_types.specs.Types.{Command, Outcome, Refusal, JournalFull, MAX_GROUP, Contents, bounds, step, is_accepted}
use Rattle.im_types.specs.Types.{after, layout_in_use}
use Rattle.{im_checkpoint.specs.declared.TurnDone.TurnDone, im_text.specs.Printing.Begins}
use Rattle.im_turning.specs.Turning.{IsSpent, Point, point_of, TurnsLead, with_one}
use Rattle.im_session.specs.{Kept.session_of, Kept.SessionState, Put.sure_by, Serving.IsBroken, Serving.Rests}
use Rattle.im_script.specs.declared.LineFault.{LineFault}
use Rattle.im_dialogue.specs.{Answers.answer_text, Asking.asked_of, Backups.Backup, Backups.bytes_of}
use Rattle.im_dialogue.specs.{declared.backups.BackupFault.BackupFault, Watching.watch_text}
use Rattle.im_dialogue.specs.declared.{about.About.About, answers.LineAnswer.LineAnswer, asking.Question.Question}
use Rattle.im_dialogue.specs.declared.answers.LineAnswer.TheVariants.{About as Facts, Backup as BackedUp, Count, Looked}
use Rattle.im_dialogue.specs.declared.answers.LineAnswer.TheVariants.{Room, Served, Turned, Window, Wrong}
use Rattle.im_dialogue.specs.Hearing.{Hears, HearsSome, questions_left}
use Rattle.im_dialogue.specs.declared.asking.Question.TheVariants as asks

-- ---- what was said

-- a line that was asked, without its line feed, or the first 4,097 bytes of a longer one; its answer; the name of the
-- refusal, or the words for where the line goes wrong or why a backup isn't kept; and where the engine stood
pub record Exchange : Type 0 where
  pub line : List ℕ
  pub answer : LineAnswer
  pub name : List ℕ
  pub here : Point

-- what an answer says of a command: its result on this memory, or that there is no room for it in the journal, and that
-- no turn makes any
abbrev pub IsOutcomeOf : Contents → Point → Command → Result Outcome Refusal → Type 0
IsOutcomeOf m point command answer = (answer ≡ (step m command).answer)
    ⊎ ((is_accepted m command ≡ true) × ((answer ≡ Err JournalFull) × ((point.room ≡ 0) × IsSpent point)))

-- what `about` says of an image with this memory, this many slots, this many accepted commands and this room
abbrev pub about_of : Contents → ℕ → ℕ → ℕ → About
about_of m slots commands room = record {
  version = layout_in_use.version;
  cells = length m.cells;
  elements = length m.windows;
  slots = slots;
  count = commands;
  room = room;
}

-- The answer to what is asked, on this memory, after this many commands, of an engine that stands here behind these
-- turns, the last first. A backup that is kept is said to be of that many commands.
abbrev pub AnswersQuestion : Contents → ℕ → List TurnDone → Point → Option Question → LineAnswer → Type 0
AnswersQuestion m commands turns here (Some (asks.Serve command)) answer =
    (outcome : Result Outcome Refusal) × (answer ≡ Served command outcome) × IsOutcomeOf m here command outcome
AnswersQuestion m commands turns here (Some (asks.Look look)) answer = answer ≡ Looked look
AnswersQuestion m commands turns here (Some (asks.Window element)) answer =
    answer ≡ Window element (bounds m.windows element)
AnswersQuestion m commands turns here (Some asks.Room) answer = answer ≡ Room here.room
AnswersQuestion m commands turns here (Some asks.Turn) answer =
    (done : TurnDone) × ((answer ≡ Turned done) × ((before : List TurnDone) × (turns ≡ done ∷ before)))
AnswersQuestion m commands turns here (Some asks.Count) answer = answer ≡ Count commands
AnswersQuestion m commands turns here (Some asks.About) answer =
    (slots : ℕ) × (answer ≡ Facts (about_of m slots commands here.room))
AnswersQuestion m commands turns here (Some (asks.Backup name)) answer =
    (kept : Result ℕ BackupFault) × (answer ≡ BackedUp name kept) × IfOk kept (λ count. count ≡ commands)
AnswersQuestion m commands turns here (Some asks.Quit) answer = ⊥
AnswersQuestion m commands turns here None answer =
    (number : ℕ) × ((fault : LineFault) × (answer ≡ Wrong number fault))

-- the command, if this answer says that it was put on the disk
abbrev pub put_by : Contents → LineAnswer → List Command
put_by m (Served command outcome) = sure_by m command outcome
put_by m answer = []

-- the commands that were put on the disk, given what was said, the last first
abbrev pub put_of : Contents → List Exchange → List Command
put_of m [] = []
put_of m (x ∷ xs) = put_of m xs ++ put_by (after m (put_of m xs)) x.answer

-- the point behind this many commands that are put on the disk
abbrev pub point_behind : ℕ → Point → Point
point_behind zero p = p
point_behind (suc n) p = with_one (point_behind n p)

-- where an engine stands behind all that was said on this memory from this point on, with no turn since
abbrev pub stands_behind : Contents → Point → List Exchange → Point
stands_behind m p [] = p
stands_behind m p (x ∷ xs) = point_behind (length (put_by (after m (put_of m xs)) x.answer)) x.here

-- Each line was answered on the memory after what was put before it, at a point to which turns led from where the
-- engine stood behind the line before.
abbrev pub AreAnswered : Contents → Point → List Exchange → Type 0
AreAnswered m p [] = Unit {0}
AreAnswered m p (x ∷ xs) = (turns : List TurnDone)
    × (AnswersQuestion (after m (put_of m xs)) (p.count + length (put_of m xs)) turns x.here (asked_of x.line) x.answer
    × (TurnsLead turns (stands_behind m p xs) x.here × AreAnswered m p xs))

-- the lines that were answered on this memory, one below the other; if the dialogue is watched, each is followed by the
-- lines of the requests that it answered
abbrev pub texts_of : Bool → Contents → List Exchange → List ℕ
texts_of watch m [] = []
texts_of watch m (x ∷ xs) = texts_of watch m xs
    ++ (answer_text x.name (after m (put_of m xs)) x.answer ++ watch_text watch (after m (put_of m xs)) x.answer)

-- what the lines that were said ask for, in order
abbrev pub questions_of : List Exchange → List (Option Question)
questions_of [] = []
questions_of (x ∷ xs) = questions_of xs ++ asked_of x.line ∷ []

-- the backup that an answer on this memory says is kept
abbrev pub backup_by : Contents → LineAnswer → List Backup
backup_by m (BackedUp name (Ok count)) = record { name = bytes_of name; memory = m; count = count } ∷ []
backup_by m answer = []

-- an answer says of no backup that it is kept
abbrev pub KeepsNone : LineAnswer → Type 0
KeepsNone answer = (m : Contents) → backup_by m answer ≡ []

-- the backups that were kept, given what was said, the last first; each is of the memory after what was put before it
abbrev pub backups_of : Contents → List Exchange → List Backup
backups_of m [] = []
backups_of m (x ∷ xs) = backup_by (after m (put_of m xs)) x.answer ++ backups_of m xs

-- ---- with a session

-- a line with this answer and this name of a refusal was said where the engine stood here
abbrev pub exchange_at : List ℕ → LineAnswer → List ℕ → Point → Exchange
exchange_at line answer name here = record { line = line; answer = answer; name = name; here = here }

module _ {D : Type 0} (old new : SessionState D) where
  -- Only turns were taken: they led from where the engine stood to where it stands.
  pub record OnlyTurned : Type 0 where
    pub rests : Rests old new
    pub works : new.engine.failed ≡ old.engine.failed
    pub turns : List TurnDone
    pub lead : TurnsLead turns (point_of old.engine) (point_of new.engine)

  -- This was said between two states of a session, the last first. Each line was answered, and exactly what the answers
  -- say was put. Turns led from behind the last answer to where the engine stands, and it works.
  pub record HasSaid (said : List Exchange) : Type 0 where
    pub answered : AreAnswered old.engine.memory (point_of old.engine) said
    pub turns : List TurnDone
    pub lead : TurnsLead turns (stands_behind old.engine.memory (point_of old.engine) said) (point_of new.engine)
    pub same : new ≡ session_of old.start (old.put ++ put_of old.engine.memory said) old.doubt new.engine
    pub memory : new.engine.memory ≡ after old.engine.memory (put_of old.engine.memory said)
    pub count : new.engine.count ≡ old.engine.count + length (put_of old.engine.memory said)
    pub works : new.engine.failed ≡ false

  -- The same, and it was ended: commands of one line or group may be in doubt.
  pub record HasEnded (said : List Exchange) : Type 0 where
    pub answered : AreAnswered old.engine.memory (point_of old.engine) said
    pub doubt : List Command
    pub few : length doubt ≤ MAX_GROUP
    pub same : new ≡ session_of old.start (old.put ++ put_of old.engine.memory said) (old.doubt ++ doubt) new.engine

  -- if the engine worked, nothing was said, and it was ended
  abbrev pub Halts : Type 0
  Halts = old.engine.failed ≡ false → HasEnded []

  -- if the engine worked, this was asked and answered, if a line asks so
  abbrev pub SaysLine : Option Question → LineAnswer → Type 0
  SaysLine asked answer = old.engine.failed ≡ false → (line name : List ℕ) → asked_of line ≡ asked
      → (here : Point) × HasSaid (exchange_at line answer name here ∷ [])

  -- what a call comes to that does what is asked: it was answered, or it was ended
  abbrev pub SaysOrHalts : {E : Type 0} → Option Question → Result LineAnswer E → Type 0
  SaysOrHalts asked result = MatchResult result (λ answer. SaysLine asked answer) (λ e. Halts)

  -- the same of a call that may also be asked for the end; that has no answer, and changes nothing
  abbrev pub AnswersOrHalts : {E : Type 0} → Question → Result (Option LineAnswer) E → Type 0
  AnswersOrHalts asked result = MatchResult result
      (λ given. MatchOption given ((asked ≡ asks.Quit) × (new ≡ old)) (λ answer. SaysLine (Some asked) answer))
      (λ e. Halts)

-- a refusal says that a call of the disk failed, now or before, and the engine doesn't work
abbrev pub BreaksOff : {D T : Type 0} → Result T Refusal → SessionState D → Type 0
BreaksOff result new = IfErr result (λ e. IsBroken e × (new.engine.failed ≡ true))

-- this was asked and answered, and the session is as it was
abbrev pub SaysNow : {D : Type 0} → SessionState D → Option Question → LineAnswer → Type 0
SaysNow s asked answer = SaysLine s s asked answer

-- besides the backups that were kept, exactly the one is kept that was answered on this memory
abbrev pub KeepsAnswered : {E : Type 0} → Contents → List Backup → List Backup → Result (Option LineAnswer) E → Type 0
KeepsAnswered m was is result = MatchResult result
    (λ given. MatchOption given (is ≡ was) (λ answer. is ≡ backup_by m answer ++ was)) (λ e. is ≡ was)

-- ---- and printed

-- what a call comes to that prints the line of an answer on this memory, and what is told behind it: all of the line
-- was printed, or a prefix of it
abbrev pub PrintsAnswer : {T E : Type 0} → Option (List ℕ) → Option (List ℕ) → Contents → LineAnswer → List ℕ
    → Result T E → Type 0
PrintsAnswer was is m answer nows result = MatchResult result
    (λ done. (name : List ℕ) × Appends was is (answer_text name m answer ++ nows))
    (λ e. (name : List ℕ) × Begins was is (answer_text name m answer ++ nows))

-- what a dialogue puts out: what the writer holds, and the backups that are kept, the last first; and what its input
-- still asks for, where that is known
pub record Outputs : Type 0 where
  pub text : Option (List ℕ)
  pub backups : List Backup
  pub left : Option (List (Option Question))

-- what a writer holds, and what is kept, as one; nothing is known of the input
abbrev pub outputs : Option (List ℕ) → List Backup → Outputs
outputs text backups = record { text = text; backups = backups; left = None }

-- the same, where the input still asks for this
abbrev pub with_left : Option (List (Option Question)) → Outputs → Outputs
with_left left o = record o { left = left }

-- the same, where the input has these bytes
abbrev pub with_input : Option (List ℕ) → Outputs → Outputs
with_input known o = record o { left = questions_left known }

module _ {D : Type 0} (watch : Bool) (old : SessionState D) (was : Outputs) (new : SessionState D) (is : Outputs) where
  -- this was said, it was printed line by line, its backups are kept, and it is what the input asked for
  pub record Talking : Type 0 where
    pub said : List Exchange
    pub done : HasSaid old new said
    pub printed : Appends was.text is.text (texts_of watch old.engine.memory said)
    pub backups : is.backups ≡ backups_of old.engine.memory said ++ was.backups
    pub heard : Hears was.left is.left (questions_of said)

  -- This was said, and it was ended. A prefix of it was printed, the backups that were answered are kept, and the input
  -- asked for what was said before all else.
  pub record Silent : Type 0 where
    pub said : List Exchange
    pub ended : HasEnded old new said
    pub printed : Begins was.text is.text (texts_of watch old.engine.memory said)
    pub backups : is.backups ≡ backups_of old.engine.memory said ++ was.backups
    pub heard : HearsSome was.left (questions_of said)

  -- if the engine worked, lines were asked and answered, their answers printed, and their backups kept
  abbrev pub TalksOn : Type 0
  TalksOn = old.engine.failed ≡ false → Talking

  -- the same, and it was ended
  abbrev pub TalkEnds : Type 0
  TalkEnds = old.engine.failed ≡ false → Silent
