-- What a new file is given of the text of a dump. (Own.)
use Rattle.std.specs.Prelude.{◌≡◌, ℕ, ◌⊎◌, List, ◌∷◌, codes, Option}
use Rattle.std.specs.Io.KnownBytes.{Appends}
use Rattle.im_types.specs.Types.{Refusal, NoMemory, BadLimits, BadScript, Contents, sizes_of}
use Rattle.im_disk.specs.{Account.IsHonest, declared.FileDisk.FileDisk, declared.Start.Ghosts, File.account_of}
use Rattle.im_disk.specs.{Moment.Left, Moment.LeftSince, Moment.Moment, Since.LeavesNow}
use Rattle.{im_image.specs.Headers.seen, im_dump.specs.declared.Loaded.Loaded, im_dump.specs.Dumping.IsDumpOf}
use Rattle.im_migration.specs.{declared.Asked.Asked, declared.Resized.Resized, Resizing.IsResized, Resizing.sizes_asked}
use Rattle.im_migration.specs.Migration.{IsBlank, IsLaidDown, MayRefusePlace, moved_header}
use Rattle.im_program.specs.{Moving.counted_line, Sources.IsTextOf}

-- the file is an image of the sizes that are asked for, and means what was loaded, after as many commands
pub record MeansLoad (asked : Asked) (l : Loaded) (file : List ℕ) : Type 0 where
  pub contents : Contents
  pub resized : IsResized (sizes_asked asked (sizes_of l.limits)) l.memory.contents contents
  pub is : IsLaidDown (moved_header (sizes_asked asked (sizes_of l.limits)) l.count) contents file

-- A text of these bytes, where they are known, which is the dump of what was loaded, was put into a file, with this
-- status. The file held the first moment when it was opened; if it was made, it was blank then.
pub record LoadedFrom {D : Type 0} (now : D → Moment) (past : D → List Moment) (first : Moment) (asked : Asked)
    (known : Option (List ℕ)) (disk : D) (was is : Option (List ℕ)) (status : ℕ) : Type 0 where
  pub text : List ℕ
  pub read : IsTextOf known text
  pub loaded : Loaded
  pub dump : IsDumpOf loaded text
  pub leaves : (c : List ℕ) → LeftSince (now disk ∷ past disk) 0 c
      → Left first c ⊎ IsBlank c ⊎ MeansLoad asked loaded c
  pub done : LeavesNow (now disk) (MeansLoad asked loaded)
  pub told : status ≡ 0 → Appends was is (counted_line (codes "loaded") loaded.count)

-- why a text isn't loaded
abbrev pub MayRefuseText : Refusal → Type 0
MayRefuseText e = (e ≡ BadScript) ⊎ (e ≡ NoMemory)

-- why a text isn't put into a file
abbrev pub MayRefuseLoad : Refusal → Type 0
MayRefuseLoad e = (e ≡ BadLimits) ⊎ (e ≡ BadScript) ⊎ (e ≡ NoMemory) ⊎ MayRefusePlace e

-- the memory and the header of a new image are those of what was loaded, in the sizes that are asked for
pub record IsReadied (asked : Asked) (l : Loaded) (r : Resized) : Type 0 where
  pub sizes : sizes_of r.header.limits ≡ sizes_asked asked (sizes_of l.limits)
  pub count : r.header.count ≡ l.count
  pub memory : IsResized (sizes_of r.header.limits) l.memory.contents r.memory.contents

-- what was prepared was put into a new file
pub record IsPutInto {S : Type 0} (start : Ghosts S) (r : Resized) (to : FileDisk S start) : Type 0 where
  pub leaves : IsHonest (account_of start to) → (c : List ℕ)
      → LeftSince ((account_of start to).now ∷ (account_of start to).past) 0 c
      → Left start.first c ⊎ IsBlank c ⊎ IsLaidDown (seen r.header) r.memory.contents c
  pub laid : IsHonest (account_of start to)
      → LeavesNow (account_of start to).now (IsLaidDown (seen r.header) r.memory.contents)
