-- What a copy leaves of the new file, and why it can be refused. (Own.)
use Rattle.std.specs.Prelude.{◌≡◌, ℕ, ◌≤◌, ◌⊎◌, List, Ok, Err}
use Rattle.im_types.specs.Types.{Refusal, Device, NoMemory, BadLimits, NotBlank, LAST, Contents, layout_in_use}
use Rattle.im_types.specs.Types.{sizes_of, image_length, header_of, Reached, Reads, Opens}
use Rattle.im_disk.specs.{declared.Disk.Ghosts, Since.LeavesNow, Since.LeavesWithin}
use Rattle.im_image.specs.{Headers.MayRefuseOpening, Headers.seen, Reading.HasSizes}
use Rattle.im_migration.specs.declared.{asked.Asked.Asked, resized.Resized.Resized}
use Rattle.im_migration.specs.Migration.{IsBlank, IsLaidDown, IsNoPlace, moved_header}
use Rattle.im_migration.specs.Resizing.{HasNoCopy, IsResized, sizes_asked}

-- The new file is an image of the sizes that are asked for. It means the old one's memory in these sizes, after as many
-- commands.
pub record MeansCopy (asked : Asked) (old file : List ℕ) : Type 0 where
  pub reached : Reached
  pub contents : Contents
  pub was : Reads layout_in_use old (Ok reached)
  pub resized : IsResized (sizes_asked asked (header_of old).sizes) reached.contents contents
  pub is : IsLaidDown (moved_header (sizes_asked asked (header_of old).sizes) reached.count) contents file

-- the file is no image, or, if this holds, it is a copy of the old one
abbrev pub BlankOrCopy : Asked → Type 0 → List ℕ → List ℕ → Type 0
BlankOrCopy asked H old file = IsBlank file ⊎ (H → MeansCopy asked old file)

-- each file left of the new disk, honest from the start on if it is at the end, is no image, or, if this holds, a copy
-- of the old file
abbrev pub LeavesBlankOrCopy : {D : Type 0} → Ghosts D → D → D → Asked → Type 0 → List ℕ → Type 0
LeavesBlankOrCopy disk from to asked H old =
    disk.honest to → disk.honest from × LeavesWithin disk.now disk.past from to (BlankOrCopy asked H old)

-- if this holds, and the new disk is honest, each file left of it is a copy of the old file
abbrev pub LeavesCopy : {D : Type 0} → Ghosts D → D → Asked → Type 0 → List ℕ → Type 0
LeavesCopy disk to asked H old = H → disk.honest to → LeavesNow (disk.now to) (MeansCopy asked old)

-- why there is nothing to be copied: the old file isn't opened, or its memory doesn't stand in these sizes
abbrev pub IsNoSource : Asked → Refusal → List ℕ → Type 0
IsNoSource asked e old = Opens old (Err e) ⊎ ((e ≡ BadLimits) × ((reached : Reached)
    × Reads layout_in_use old (Ok reached) × HasNoCopy (sizes_asked asked (header_of old).sizes) reached.contents))

-- a refusal to read what is to be copied: too little memory, a call of the disk, or, if this holds, one of these
-- reasons
abbrev pub SourceFails : Asked → Type 0 → List ℕ → Refusal → Type 0
SourceFails asked H old e = (e ≡ NoMemory) ⊎ (e ≡ Device) ⊎ (H → IsNoSource asked e old)

-- why the old file isn't copied to the new one: there is nothing to be copied, or the new one can't become the image
abbrev pub IsRefusedCopy : Asked → Refusal → List ℕ → List ℕ → Type 0
IsRefusedCopy asked e old new = IsNoSource asked e old ⊎ (((reached : Reached) × Reads layout_in_use old (Ok reached))
    × IsNoPlace e (sizes_asked asked (header_of old).sizes) new)

-- a refusal to copy: too little memory, a call of a disk, or, if both these hold, one of these reasons
abbrev pub CopyFails : Asked → Type 0 → Type 0 → List ℕ → List ℕ → Refusal → Type 0
CopyFails asked H G old new e = (e ≡ NoMemory) ⊎ (e ≡ Device) ⊎ (H → G → IsRefusedCopy asked e old new)

-- why the image that is to be copied can be refused
abbrev pub MayRefuseSource : Refusal → Type 0
MayRefuseSource e = (e ≡ BadLimits) ⊎ MayRefuseOpening e

-- why a copy can be refused
abbrev pub MayRefuseCopy : Refusal → Type 0
MayRefuseCopy e = (e ≡ NotBlank) ⊎ MayRefuseSource e

-- the header is that of a whole new image, and the memory has its sizes
pub record IsWhole (r : Resized) : Type 0 where
  pub sizes : HasSizes (sizes_of r.header.limits) r.memory.contents
  pub header : seen r.header ≡ moved_header (sizes_of r.header.limits) r.header.count
  pub last : r.header.count ≤ LAST

-- they are what the old file means, in the sizes that are asked for
pub record IsSource (asked : Asked) (old : List ℕ) (r : Resized) : Type 0 where
  pub reached : Reached
  pub was : Reads layout_in_use old (Ok reached)
  pub sizes : sizes_of r.header.limits ≡ sizes_asked asked (header_of old).sizes
  pub count : r.header.count ≡ reached.count
  pub memory : IsResized (sizes_of r.header.limits) reached.contents r.memory.contents

-- if this holds, they are so
abbrev pub MayBeSource : Asked → Type 0 → List ℕ → Resized → Type 0
MayBeSource asked H old r = H → IsSource asked old r

-- if this holds, an image of the sizes that are asked for has this length
abbrev pub IsLengthFor : Asked → Type 0 → List ℕ → ℕ → Type 0
IsLengthFor asked H old n = H → n ≡ image_length layout_in_use (sizes_asked asked (header_of old).sizes)
