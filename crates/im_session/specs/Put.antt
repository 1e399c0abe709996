-- What a call put on a disk.
use Rattle.std.specs.Prelude.{Bool, not, ◌&&◌, List, [], ◌∷◌, if◌then◌else◌, Ok, Err, Result}
use Rattle.im_types.specs.Types.{Command, Outcome, Refusal, Contents, is_accepted}
use Rattle.im_engine.specs.Answered.{is_device}

-- the commands that were acknowledged, and those in doubt
pub record PutList : Type 0 where
  pub sure : List Command
  pub doubt : List Command

-- the command, if it changes this memory and was served
abbrev pub sure_by : Contents → Command → Result Outcome Refusal → List Command
sure_by m c (Ok outcome) = if is_accepted m c then c ∷ [] else []
sure_by m c (Err refusal) = []

-- the command, if it would change this memory and the disk failed
abbrev pub doubted_by : Contents → Command → Result Outcome Refusal → List Command
doubted_by m c (Ok outcome) = []
doubted_by m c (Err refusal) = if is_accepted m c && is_device refusal then c ∷ [] else []

-- of commands that were put together: all of them, unless the engine has failed
abbrev pub sure_of : Bool → List Command → List Command
sure_of failed commands = if failed then [] else commands

-- all of them, if it has failed since
abbrev pub doubted_of : Bool → Bool → List Command → List Command
doubted_of before failed commands = if failed && not before then commands else []
