-- Notes beside the files of images. (Own.)
use Rattle.std.specs.Prelude.{◌≡◌, ℕ, Bool, true, false, not, ◌&&◌, List, ◌++◌, length, IfSome, ◌==◌, codes, bytes_eq}
use Rattle.std.specs.Prelude.{Option}
use Rattle.std.specs.Io.KnownBytes.{Appends}
use Rattle.im_files.specs.declared.notes.Noting.{Noting, TheVariants.Failed, TheVariants.Left, TheVariants.Unneeded}

-- the path of the note of the file at this path
abbrev pub note_of : List ℕ → List ℕ
note_of path = path ++ codes ".unsynced"

-- no note is needed
abbrev pub is_unneeded : Noting → Bool
is_unneeded (Unneeded) = true
is_unneeded (Left) = false
is_unneeded (Failed kind) = false

-- The note was left in another run of the machine. The note and the system's name for this run are each 37 bytes long
-- (36 characters and a line feed), and they differ.
abbrev pub is_earlier : List ℕ → List ℕ → Bool
is_earlier note boot = (length note == 37) && ((length boot == 37) && not (bytes_eq note boot))

-- a note was written; it isn't of an earlier run than the one whose name begins with these bytes, where they are known
abbrev pub IsOfRun : Option (List ℕ) → Option (List ℕ) → Option (List ℕ) → Type 0
IsOfRun boot was is = (note : List ℕ) × Appends was is note × IfSome boot (λ name. is_earlier note name ≡ false)
