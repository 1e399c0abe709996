-- Two dialogues on images that mean one memory: what is compared of them. (Own.)
use Rattle.std.specs.Prelude.{◌≡◌, ℕ, Bool, true, false, List, [], ◌∷◌, ◌++◌, Some, Err, All, Option}
use Rattle.im_types.specs.Types.{Command, JournalFull, Contents, Means}
use Rattle.im_disk.specs.{declared.Disk.Ghosts, Since.LeavesNow}
use Rattle.im_dialogue.specs.{Asking.asked_of, Dialogue.Talked, Talk.Exchange, Talk.Outputs}
use Rattle.im_dialogue.specs.declared.{answers.LineAnswer.TheVariants.Served, asking.Question.Question}
use Rattle.im_dialogue.specs.declared.asking.Question.TheVariants as asks

-- The memory says the answer: to a command, to a line that only looks, to `window` and `count`. What the others are
-- answered is of one image: its room, its turns, its slots, its backups.
abbrev pub is_of_memory : Option Question → Bool
is_of_memory (Some (asks.Serve command)) = true
is_of_memory (Some (asks.Look look)) = true
is_of_memory (Some (asks.Window element)) = true
is_of_memory (Some asks.Count) = true
is_of_memory asked = false

-- the command that is asked for, if it is one
abbrev pub command_asked : Option Question → List Command
command_asked (Some (asks.Serve command)) = command ∷ []
command_asked asked = []

-- the commands among what was said, the last first
abbrev pub commands_said : List Exchange → List Command
commands_said [] = []
commands_said (x ∷ xs) = command_asked (asked_of x.line) ++ commands_said xs

-- A dialogue was talked on an image that means this memory after this many commands. No command was answered that the
-- journal is full.
pub record TalkOf {D : Type 0} (disk : Ghosts D) (m : Contents) (count : ℕ) : Type 0 where
  pub watch : Bool
  pub old : D
  pub new : D
  pub was : Outputs
  pub is : Outputs
  pub status : ℕ
  pub image : LeavesNow (disk.now old) (Means m count 0)
  pub talked : Talked disk watch old new was is status
  pub honest : disk.honest new
  pub room : All (λ (x : Exchange). (command : Command) → (x.answer ≡ Served command (Err JournalFull)) → ⊥)
      talked.closed.said

-- a line of such a dialogue, and those that were said before it, the last first
pub record LineOf {D : Type 0} (disk : Ghosts D) (m : Contents) (count : ℕ) : Type 0 where
  pub talk : TalkOf disk m count
  pub last : Exchange
  pub ahead : List Exchange
  pub later : List Exchange
  pub stands : talk.talked.closed.said ≡ later ++ (last ∷ ahead)

module _ {D E : Type 0} {disk : Ghosts D} {device : Ghosts E} {m : Contents} {count : ℕ} where
  -- both lines ask the same of the memory, behind the same commands
  abbrev pub AskAlike : LineOf disk m count → LineOf device m count → Type 0
  AskAlike one other = (commands_said one.ahead ≡ commands_said other.ahead)
      × ((asked_of one.last.line ≡ asked_of other.last.line) × (is_of_memory (asked_of one.last.line) ≡ true))

  -- both dialogues ended with status 0, behind the same commands
  abbrev pub EndAlike : TalkOf disk m count → TalkOf device m count → Type 0
  EndAlike one other = (commands_said one.talked.closed.said ≡ commands_said other.talked.closed.said)
      × ((one.status ≡ 0) × (other.status ≡ 0))

  -- each file that a crash then leaves of the one or of the other means one memory, after as many commands
  abbrev pub LeaveOne : TalkOf disk m count → TalkOf device m count → Type 0
  LeaveOne one other = (n : Contents) × ((many : ℕ)
      × (LeavesNow (disk.now one.new) (Means n many 0) × LeavesNow (device.now other.new) (Means n many 0)))
