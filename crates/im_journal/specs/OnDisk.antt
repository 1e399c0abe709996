-- What is known of a disk if it is honest. (Own.)
use Rattle.im_disk.specs.{declared.Disk.Ghosts, Moment.Moment}

-- if the disk is honest, this is known of its moment
abbrev pub KnownOf : {D : Type 0} → Ghosts D → D → (Moment → Type 0) → Type 0
KnownOf disk d P = disk.honest d → P (disk.now d)

-- if the disk is honest at the end, the run leads so from the one moment to the other
abbrev pub LeadsFrom : {D : Type 0} → Ghosts D → D → D → (Moment → Moment → Type 0) → Type 0
LeadsFrom disk old new P = disk.honest new → P (disk.now old) (disk.now new)
