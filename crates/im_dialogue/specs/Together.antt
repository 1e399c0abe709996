-- Commands that are served as one group: where the engine stands between two of them, and what is told of each. (Own.)
use Rattle.std.specs.Prelude.{◌≡◌, ℕ, ◌+◌, ◌≤◌, Bool, ◌⊎◌, List, [], ◌∷◌, ◌++◌, map, length, Some, Option, Result}
use Rattle.im_types.specs.Types.{Command, Outcome, Refusal, Contents, as_served}
use Rattle.im_groups.specs.Commands.{answer_with, answers_with, commands_at, contents_after_all, left_after, places}
use Rattle.{im_engine.specs.State.EngineState, im_session.specs.Serving.served_answer}
use Rattle.im_turning.specs.Turning.{IsSpent, Point, point_of}
use Rattle.im_front.specs.declared.{AskedCommand.AskedCommand, ToldAnswer.ToldAnswer}
use Rattle.im_front.specs.Lists.{answers_told, asks_told, commands_told}
use Rattle.im_dialogue.specs.{Answers.served_line, Asking.asked_of, Talk.point_behind}
use Rattle.im_dialogue.specs.declared.{answers.LineAnswer.LineAnswer, asking.Question.Question}
use Rattle.im_dialogue.specs.Watching.{told_with, watch_text}
use Rattle.im_dialogue.specs.declared.asking.Question.TheVariants as asks
use Rattle.im_dialogue.specs.declared.answers.LineAnswer.TheVariants as answer

-- ---- what lines ask for

-- a line asks for this
abbrev pub LineAsksFor : Question → Type 0
LineAsksFor asked = (line : List ℕ) × (asked_of line ≡ Some asked)

-- a line asks for each of these commands
abbrev pub AreAsked : List AskedCommand → Type 0
AreAsked [] = Unit {0}
AreAsked (first ∷ others) = LineAsksFor (asks.Serve first.command) × AreAsked others

-- what these commands were asked as
abbrev pub questions_asked : List AskedCommand → List (Option Question)
questions_asked asked = map (λ (a : AskedCommand). Some (asks.Serve a.command)) asked

-- ---- the memory between two members

-- where an engine is before a group: its memory, how many more commands it can accept, and where it stands
pub record GroupStart : Type 0 where
  pub memory : Contents
  pub places : ℕ
  pub point : Point

-- an engine as it is before a group
abbrev pub group_start : {D : Type 0} → EngineState D → GroupStart
group_start s = record { memory = s.memory; places = places s.count s.room; point = point_of s }

-- the memory after these members
abbrev pub memory_between : GroupStart → List Command → Contents
memory_between b ahead = contents_after_all b.memory b.places ahead

-- how many more commands can be accepted after them
abbrev pub places_between : GroupStart → List Command → ℕ
places_between b ahead = left_after b.memory b.places ahead

-- how many commands were accepted after them
abbrev pub count_between : GroupStart → List Command → ℕ
count_between b ahead = b.point.count + length (commands_at b.memory b.places ahead)

-- where the engine stands after them
abbrev pub point_between : GroupStart → List Command → Point
point_between b ahead = point_behind (length (commands_at b.memory b.places ahead)) b.point

-- there is a place for so many commands; or for none, no turn makes any, and it is one command
abbrev pub FitInto : GroupStart → ℕ → Type 0
FitInto b many = (many ≤ b.places) ⊎ ((many ≤ 1) × ((b.point.room ≡ 0) × IsSpent b.point))

-- ---- what is told behind an answer

-- the text is what those that watch are told behind the answer of a command, which stands behind these members
abbrev pub TellsWatchers : Bool → GroupStart → List Command → Command → List ℕ → Type 0
TellsWatchers watch b ahead command text = (outcome : Result Outcome Refusal)
    → outcome ≡ answer_with (memory_between b ahead) (places_between b ahead) command
    → told_with (answer.Served command outcome) text ≡ watch_text watch (memory_between b ahead)
    (answer.Served command outcome)

-- the first of these texts; none if there is none
abbrev pub first_text : List (List ℕ) → List ℕ
first_text [] = []
first_text (text ∷ texts) = text

-- those behind it
abbrev pub later_texts : List (List ℕ) → List (List ℕ)
later_texts [] = []
later_texts (text ∷ texts) = texts

-- the texts are what those that watch are told behind these commands, which stand behind these members
abbrev pub TellWatchers : Bool → GroupStart → List Command → List Command → List (List ℕ) → Type 0
TellWatchers watch b ahead [] texts = Unit {0}
TellWatchers watch b ahead (command ∷ commands) texts = TellsWatchers watch b ahead command (first_text texts)
    × TellWatchers watch b (ahead ++ command ∷ []) commands (later_texts texts)

-- ---- the answers

-- an answer to a command
abbrev pub answer_told : ToldAnswer → LineAnswer
answer_told told = answer.Served told.asked.command (served_answer told.served)

-- the text has the lines of these answers, each followed by what those that watch are told behind it
abbrev pub AreLinesOf : List ToldAnswer → List (List ℕ) → List ℕ → Type 0
AreLinesOf [] nows text = text ≡ []
AreLinesOf (first ∷ others) nows text = (name : List ℕ) × (rest : List ℕ)
    × (text ≡ (served_line name first.asked.command (served_answer first.served)
    ++ told_with (answer_told first) (first_text nows)) ++ rest)
    × AreLinesOf others (later_texts nows) rest

-- these answers were told from this start on
pub record GroupTold (watch : Bool) (b : GroupStart) (told : List ToldAnswer) (nows : List (List ℕ)) : Type 0 where
  pub asked : AreAsked (asks_told told)
  pub answers : answers_told told ≡ map as_served (answers_with b.memory b.places (commands_told told))
  pub room : FitInto b (length told)
  pub watched : TellWatchers watch b [] (commands_told told) nows
