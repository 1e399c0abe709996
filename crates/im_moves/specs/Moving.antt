-- What a new file means if it was made of the dump of an old one. (Own.)
use Rattle.std.specs.Prelude.{ℕ, ◌⊎◌, List, Ok}
use Rattle.im_types.specs.Types.{Contents, header_of, layout_in, Reached, Reads}
use Rattle.im_disk.specs.{declared.Disk.Ghosts, Since.LeavesNow, Since.LeavesWithin}
use Rattle.im_migration.specs.{declared.Asked.Asked, Resizing.IsResized, Resizing.sizes_asked}
use Rattle.im_migration.specs.Migration.{IsBlank, IsLaidDown, moved_header}
use Rattle.im_dump.specs.{declared.Loaded.Loaded, Dumping.MeansLoaded}

-- the file is an image of the sizes that are asked for, and means the old one's memory in them, after as many commands
pub record MeansMoved (asked : Asked) (old file : List ℕ) : Type 0 where
  pub reached : Reached
  pub contents : Contents
  pub was : Reads (layout_in old) old (Ok reached)
  pub resized : IsResized (sizes_asked asked (header_of old).sizes) reached.contents contents
  pub is : IsLaidDown (moved_header (sizes_asked asked (header_of old).sizes) reached.count) contents file

-- each file left of the new disk, honest from the start on if it is at the end, is no image, or, if this holds, means
-- what the old file means
abbrev pub LeavesBlankOrMoved : {D : Type 0} → Ghosts D → D → D → Asked → Type 0 → List ℕ → Type 0
LeavesBlankOrMoved disk from to asked H old =
    disk.honest to → disk.honest from
    × LeavesWithin disk.now disk.past from to (λ file. IsBlank file ⊎ (H → MeansMoved asked old file))

-- if this holds, and the new disk is honest, each file left of it means what the old file means
abbrev pub LeavesMoved : {D : Type 0} → Ghosts D → D → Asked → Type 0 → List ℕ → Type 0
LeavesMoved disk to asked H old = H → disk.honest to → LeavesNow (disk.now to) (MeansMoved asked old)

-- if this holds, what was loaded is what the file means
abbrev pub MayMeanLoaded : Type 0 → List ℕ → Loaded → Type 0
MayMeanLoaded H old l = H → MeansLoaded old l
