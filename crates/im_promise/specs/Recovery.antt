-- What a recovery gives. (Own.)
use Rattle.std.specs.Prelude.{◌≡◌, ℕ, ◌+◌, ◌≤◌, max, false, ◌⊎◌, List, [], ◌++◌, length}
use Rattle.im_types.specs.Types.{Command, Refusal, Device, NoMemory, Contents, after}
use Rattle.im_session.specs.declared.{Answer.Answer, Event.Event}
use Rattle.im_session.specs.{Events.acknowledged, Events.in_doubt, Kept.SessionState}
use Rattle.im_promise.specs.Acknowledged.{AreAnswers, calls_in_doubt, most_of_one}

-- there was no room for the answers or the memory, or none for the record of the disk
abbrev pub HasNoRoom : Refusal → Type 0
HasNoRoom e = (e ≡ NoMemory) ⊎ (e ≡ Device)

-- An engine with this memory, this count of commands and these members ahead got these events and gave these answers.
-- Its disk stopped, or not, and a crash left a file. The image was opened again, with the memory `now` and the count
-- `many`. They are those after the acknowledged commands, in their order. The commands of the one call in doubt may
-- follow, all or none of them: one command, or all commands that a group had put into the journal's room, or all those
-- of the group whose gate was written in that call. A group that was only put ahead is never there.
pub record Recovers (m : Contents) (before : ℕ) (ahead : List Command) (events : List Event) (answers : List Answer)
    (now : Contents) (many : ℕ) : Type 0 where
  -- the answers are the sequential memory's
  pub answered : AreAnswers false m before ahead events answers
  -- the commands of at most one call are in doubt
  pub one_in_doubt : calls_in_doubt answers ≤ 1
  -- so at most one command is in doubt without groups, and at most the members of one group with them
  pub few_in_doubt : length (in_doubt m before events answers) ≤ max (length ahead) (most_of_one events)
  -- all of them are there, or none is
  pub also : List Command
  pub or_not : (also ≡ []) ⊎ (also ≡ in_doubt m before events answers)
  pub memory : now ≡ after m (acknowledged m events answers ++ also)
  pub count : many ≡ before + length (acknowledged m events answers ++ also)

-- A session's disk stopped, or not, and a crash left a file. The image was opened again, with the memory `now` and the
-- count `many`. They are those after the session's acknowledged commands, in their order. The commands of the one call
-- in doubt may follow, all or none of them.
pub record RecoversSession {D : Type 0} (s : SessionState D) (now : Contents) (many : ℕ) : Type 0 where
  pub also : List Command
  pub or_not : (also ≡ []) ⊎ (also ≡ s.doubt)
  pub memory : now ≡ after s.start.memory (s.put ++ also)
  pub count : many ≡ s.start.count + length (s.put ++ also)
