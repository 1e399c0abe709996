-- Two receipts, and their times. (Own.)
use Rattle.std.specs.Prelude.{◌≤◌}
use Rattle.{im_disk.specs.declared.Disk.Ghosts, im_controller.specs.Log.ReceiptState}
use mathlib.Core.List.{IsPrefix}

-- On a disk that is honest, a receipt whose history begins that of another has no later time.
abbrev pub AreInTime : {D : Type 0} → Ghosts D → ReceiptState → ReceiptState → D → Type 0
AreInTime disk one two end = disk.honest end → IsPrefix one.history two.history → one.time ≤ two.time
