-- The failure that is reported of a file.
use Rattle.std.specs.Prelude.{Bool, true, false, Some, None, Option}
use Rattle.im_disk.specs.declared.failure.Failure.{Failure}
use Rattle.im_disk.specs.declared.failure.Failure.TheVariants.{Length, Read, Sync, Write}

-- a failed sync is reported
abbrev pub is_of_sync : Option Failure → Bool
is_of_sync None = false
is_of_sync (Some (Sync kind)) = true
is_of_sync (Some (Length)) = false
is_of_sync (Some (Read kind)) = false
is_of_sync (Some (Write kind)) = false
