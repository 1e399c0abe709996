-- What is said by the answers to a group. (Own.)
use Rattle.std.specs.Prelude.{◌≡◌, ℕ, Bool, List, [], Option}
use Rattle.{im_types.specs.Types.Command, im_types.specs.Types.after, im_groups.specs.Commands.commands_at}
use Rattle.{im_checkpoint.specs.declared.TurnDone.TurnDone, im_turning.specs.Turning.TurnsLead}
use Rattle.im_dialogue.specs.declared.asking.Question.{Question}
use Rattle.im_dialogue.specs.Talk.{AreAnswered, backups_of, Exchange, put_of, questions_of, stands_behind, texts_of}
use Rattle.im_dialogue.specs.Together.{GroupStart, memory_between, point_between}

-- lines of a group with these members and this text, which ask for this, were said from its start on; they come to the
-- memory, the count and the point behind the members, and no backup was kept
pub record SaysAll (watch : Bool) (b : GroupStart) (ahead : List Command) (text : List ℕ)
    (asked : List (Option Question)) : Type 0 where
  pub said : List Exchange
  pub answered : AreAnswered b.memory b.point said
  pub turns : List TurnDone
  pub lead : TurnsLead turns (stands_behind b.memory b.point said) (point_between b ahead)
  pub memory : memory_between b ahead ≡ after b.memory (put_of b.memory said)
  pub put : put_of b.memory said ≡ commands_at b.memory b.places ahead
  pub texts : texts_of watch b.memory said ≡ text
  pub backups : backups_of b.memory said ≡ []
  pub asks : questions_of said ≡ asked
