-- What an opening leaves. (Own.)
use Rattle.std.specs.Prelude.{◌≡◌, false}
use Rattle.im_disk.specs.declared.Disk.{Ghosts}
use Rattle.im_engine.specs.{Leaving.LeavesAsBefore, State.EngineState}

-- An engine works, and since its disk was like this nothing was put on it: a crash leaves what it could leave then.
pub record CanBegin {D : Type 0} (disk : Ghosts D) (old : D) (engine : EngineState D) : Type 0 where
  pub works : engine.failed ≡ false
  pub leaves : LeavesAsBefore disk old engine.disk
  pub failures : disk.failures engine.disk ≡ disk.failures old
  pub honest : disk.honest engine.disk → disk.honest old
