-- What a dialogue on the image of a disk comes to. (Own.)
use Rattle.std.specs.Prelude.{◌≡◌, ℕ, ◌≤◌, Bool, false, ◌⊎◌, List, [], ◌++◌, length, Option}
use Rattle.std.specs.Io.KnownBytes.{Appends}
use Rattle.im_types.specs.Types.{MAX_GROUP, AreLimits, Contents, layout_in_use, image_length}
use Rattle.im_disk.specs.{declared.Disk.Ghosts, Moment.Left, Moment.Moment, Since.Leaves, Since.LeavesWithin}
use Rattle.{im_engine.specs.State.EngineState, im_engine.specs.State.MeansState, im_turning.specs.Turning.point_of}
use Rattle.im_session.specs.Kept.{Kept, session_of, SessionState, start_at}
use Rattle.im_text.specs.{declared.Style.TheVariants.Text, Printing.Begins, Said.output, Said.SaysLast}
use Rattle.im_dialogue.specs.{Hearing.HearsAll, Talk.AreAnswered, Talk.backups_of, Talk.Exchange, Talk.Outputs}
use Rattle.im_dialogue.specs.{Talk.put_of, Talk.questions_of, Talk.texts_of, Talk.with_input}

-- An image was opened with this engine, and what could be left of the disk before is what could be left then: one of
-- those files means what the engine is, with at least its room.
pub record WasOpened {D : Type 0} (disk : Ghosts D) (old : D) (first : EngineState D) : Type 0 where
  pub leaves : LeavesWithin disk.now disk.past old first.disk (Left (disk.now old))
  pub found : (file : List ℕ) × Left (disk.now old) file × MeansState first file

-- the session begins with its engine as it is now: nothing was put yet
abbrev pub BeginsNow : {D : Type 0} → SessionState D → Type 0
BeginsNow s = s ≡ session_of (start_at s.engine.disk s.engine) [] [] s.engine

-- A session begins behind the opening of this disk's image.
pub record BeginsTalk {D : Type 0} (disk : Ghosts D) (old : D) (s : SessionState D) : Type 0 where
  pub begins : BeginsNow s
  pub works : s.engine.failed ≡ false
  pub honest : disk.honest s.engine.disk → disk.honest old
  pub opened : disk.honest s.engine.disk → WasOpened disk old s.engine

-- A session that began with this engine was ended, and this status was given. This was said by it, the last first: each
-- line was answered on the memory after those before it. What was put is what the answers say, and the commands of one
-- line or group may be in doubt. A prefix of the answers was printed, and then at most a refusal. If the status is 0,
-- nothing is in doubt, and all answers were printed, and nothing else. The backups that were answered are kept, each
-- with the memory and the count after the commands before it. What was said is what the input asked for, line by line;
-- if the status is 0, up to its end or to `quit`.
pub record TalkClosed {D : Type 0} (disk : Ghosts D) (watch : Bool) (first : EngineState D) (new : D)
    (was is : Outputs) (status : ℕ) : Type 0 where
  pub session : SessionState D
  pub begins : session.start ≡ start_at first.disk first
  pub closed : new ≡ session.engine.disk
  pub kept : Kept disk session
  pub said : List Exchange
  pub answered : AreAnswered first.memory (point_of first) said
  pub put : session.put ≡ put_of first.memory said
  pub few : length session.doubt ≤ MAX_GROUP
  pub printed : (mid : Option (List ℕ)) × Begins was.text mid (texts_of watch first.memory said)
      × SaysLast (output Text mid) is.text
  pub whole : status ≡ 0 → (session.doubt ≡ []) × Appends was.text is.text (texts_of watch first.memory said)
  pub backups : is.backups ≡ backups_of first.memory said ++ was.backups
  pub heard : HearsAll was.left (questions_of said) status

-- The image was opened, and lines were answered by a session that began with its engine.
pub record Talked {D : Type 0} (disk : Ghosts D) (watch : Bool) (old new : D) (was is : Outputs) (status : ℕ) : Type 0
  where
    pub first : EngineState D
    pub opened : WasOpened disk old first
    pub closed : TalkClosed disk watch first new was is status

-- The image was not opened: a crash leaves nothing that it couldn't leave before, at most a refusal was printed, and no
-- backup was kept.
pub record TalkUnopened {D : Type 0} (now : D → Moment) (past : D → List Moment) (old new : D) (was is : Outputs)
    (status : ℕ) : Type 0 where
  pub status_is : status ≡ 1
  pub printed : SaysLast (output Text was.text) is.text
  pub backups : is.backups ≡ was.backups
  pub leaves : Leaves (now old) (now new) (past old) (past new) (Left (now old))

-- what comes of a dialogue on the image of a disk, with these bytes as input, if the disk is honest at its end: the
-- image was not opened, or this was said on it
abbrev pub TalkedOn : {D : Type 0} → Ghosts D → Bool → Option (List ℕ) → D → D → Outputs → Outputs → ℕ → Type 0
TalkedOn disk watch input old new was is status = disk.honest new
    → TalkUnopened disk.now disk.past old new (with_input input was) is status
    ⊎ Talked disk watch old new (with_input input was) is status

-- The same of a disk that is at this moment, and has no moment before it.
pub record TalkedFrom {D : Type 0} (disk : Ghosts D) (watch : Bool) (first : Moment) (new : D)
    (before after : Outputs) (status : ℕ) : Type 0 where
  pub old : D
  pub was : disk.now old ≡ first
  pub none : disk.past old ≡ []
  pub talked : TalkUnopened disk.now disk.past old new before after status
      ⊎ Talked disk watch old new before after status

-- it is how many slots the journal has of an image with this memory, of this many bytes
abbrev pub CountsSlots : Contents → ℕ → ℕ → Type 0
CountsSlots m bytes told = (slots : ℕ) → AreLimits (length m.cells) (length m.windows) slots
    → bytes ≡ image_length layout_in_use
    (record { cells = length m.cells; elements = length m.windows; slots = slots }) → told ≡ slots
