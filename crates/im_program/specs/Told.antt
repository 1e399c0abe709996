-- What work comes to. (Own.)
use Rattle.std.specs.Prelude.{◌≡◌, ℕ, ◌⊎◌, List, IfSome, IfNone, Option}
use Rattle.std.specs.Borrow.{Bor}
use Rattle.im_disk.specs.declared.{Disk.Ghosts as DiskGhosts, FileDisk.FileDisk, Start.Ghosts}
use Rattle.im_words.specs.{declared.Work.TheVariants.Demonstration, declared.Work.Work, Words.texts_in}
use Rattle.im_program.specs.{Places.file_of, Places.IsOldOf, Places.IsOpenAt, Working.DoneOn}

-- What was done of a work holds of its disk, if one was given back. The disks are that of the image or the new file,
-- and that of the old file. If no file was opened, the work needs none, or was refused.
pub record HasWorked {S T : Type 0} (start : Ghosts S) (other : Ghosts T) (d : DiskGhosts (FileDisk S start))
    (e : DiskGhosts (FileDisk T other)) (work : Work (List ℕ)) (done : FileDisk S start → Type 0) (status : ℕ)
    (disk : Option (FileDisk S start)) (old : Option (FileDisk T other)) : Type 0 where
  pub result : IfSome disk done
  pub named : IfSome disk (λ it. IsOpenAt d start.path (file_of work) it)
  pub both : IfSome old (λ it. IsOldOf e other.path work it)
  pub none : IfNone disk ((work ≡ Demonstration) ⊎ (status ≡ 1))

module _ {S T : Type 0} (start : Ghosts S) (other : Ghosts T) (d : DiskGhosts (FileDisk S start))
    (e : DiskGhosts (FileDisk T other)) (input : Option (List ℕ)) (work : Work (List ℕ)) where
  -- a work was done with this status, with a writer
  abbrev pub WorkDone : Option (List ℕ) → Option (List ℕ) → ℕ → Option (FileDisk S start) → Option (FileDisk T other)
      → Type 0
  WorkDone was is status disk old = HasWorked start other d e work
      (λ it. DoneOn start other d input work was is status it old) status disk old

-- the work of a command line was done with this status, with a writer
abbrev pub LineDone : {S T : Type 0} (start : Ghosts S) (other : Ghosts T) → DiskGhosts (FileDisk S start)
    → DiskGhosts (FileDisk T other) → Option (List ℕ) → Work (Bor (List ℕ)) → Option (List ℕ) → Option (List ℕ) → ℕ
    → Option (FileDisk S start) → Option (FileDisk T other) → Type 0
LineDone start other d e input work = WorkDone start other d e input (texts_in work)
