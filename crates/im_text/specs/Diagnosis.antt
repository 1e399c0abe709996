-- What looking for the reason of a refusal does to a disk. (Own.)
use Rattle.im_disk.specs.{declared.Disk.Ghosts, Since.OnlyReads}

-- the disk is only read, if it is honest at the end
abbrev pub OnlyLooks : {D : Type 0} → Ghosts D → D → D → Type 0
OnlyLooks disk old new = disk.honest new → OnlyReads disk.now disk.past old new
