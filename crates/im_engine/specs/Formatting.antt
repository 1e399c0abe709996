-- A file of which an image is made, or isn't. (Own.)
use Rattle.std.specs.Prelude.{◌≡◌, ◌≢◌, length}
use Rattle.im_types.specs.Types.{Limits, layout_in_use, sizes_of, image_length}
use Rattle.im_disk.specs.declared.Disk.{Ghosts}

module _ {D : Type 0} (disk : Ghosts D) (limits : Limits) (old : D) where
  -- the file is as long as an image with these limits
  abbrev pub HasLength : Type 0
  HasLength = length (disk.now old).bytes ≡ image_length layout_in_use (sizes_of limits)

  -- it is as long as that, and nothing was done to the disk
  abbrev pub HasLengthUntouched : D → Type 0
  HasLengthUntouched new =
      (length (disk.now old).bytes ≡ image_length layout_in_use (sizes_of limits)) × (disk.now new ≡ disk.now old)
      × (disk.past new ≡ disk.past old)

  -- it has another length, and nothing was done to the disk
  abbrev pub HasOtherLength : D → Type 0
  HasOtherLength new =
      (length (disk.now old).bytes ≢ image_length layout_in_use (sizes_of limits)) × (disk.now new ≡ disk.now old)
      × (disk.past new ≡ disk.past old)
