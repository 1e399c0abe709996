-- A disk over a file may go to another thread if what stands for its start may.
use denote.RattleType.{RattleType}
use denote.Param.Send.{IsSend, sendable}
use Rattle.std.proofs.Crossing.{crosses}
use Rattle.im_disk.specs.declared.start.Start as start
use Rattle.im_disk.specs.contracts.failing.Failing as Failing
use Rattle.im_disk.specs.contracts.file.FileDisk as FileDisk

pub Failing-send : IsSend Failing.the_field.row
Failing-send = search (sendable, crosses) depth 100 fits 100000

module _ (S : RattleType) (s : start.Ghosts S.Denot) where
  pub FileDisk-send : IsSend S → IsSend (FileDisk.the_field S s).row
  FileDisk-send is = let f = Failing-send in search (sendable, crosses) depth 40 fits 30000

  -- the same, as a function names the type
  pub FileDisk-row-send : IsSend S → IsSend (FileDisk.the_row S s)
  FileDisk-row-send is = let d = FileDisk-send is in search sendable depth 20
