-- At which path a file was opened. (Own.)
use Rattle.std.specs.Prelude.{◌≡◌, ℕ, List, [], Some, None, Option}
use Rattle.{im_disk.specs.declared.Disk.Ghosts as DiskGhosts, im_words.specs.declared.Work.Work}
use Rattle.im_words.specs.declared.Work.TheVariants.{Copy, Demonstration, Dump, Format, Inspect, Load, Migrate, Run}
use Rattle.im_words.specs.declared.Work.TheVariants.{Serial, Serve}

-- The disk's file was opened at this path, if it is honest: the path that its start names is this one.
abbrev pub IsOpenAt : {D : Type 0} → DiskGhosts D → List ℕ → List ℕ → D → Type 0
IsOpenAt d named path disk = d.honest disk → named ≡ path

-- the path of the file that is worked on: of the image, or of the new one of two files
abbrev pub file_of : Work (List ℕ) → List ℕ
file_of Demonstration = []
file_of (Format it) = it.image
file_of (Serial it) = it.image
file_of (Run it) = it.image
file_of (Serve it) = it.image
file_of (Inspect it) = it.image
file_of (Dump it) = it.image
file_of (Load it) = it.new
file_of (Migrate it) = it.new
file_of (Copy it) = it.new

-- the path of the old one of two files, if the work has one
abbrev pub old_file_of : Work (List ℕ) → Option (List ℕ)
old_file_of (Migrate it) = Some it.old
old_file_of (Copy it) = Some it.from
old_file_of _ = None

-- the work has an old file, and this disk is that of it, if it is honest
abbrev pub IsOldOf : {D : Type 0} → DiskGhosts D → List ℕ → Work (List ℕ) → D → Type 0
IsOldOf d named work disk = (path : List ℕ) × (old_file_of work ≡ Some path) × IsOpenAt d named path disk
