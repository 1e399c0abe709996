-- How the program ends. (Own.)
use Rattle.std.specs.Prelude.{◌≡◌, ℕ, ◌≤◌, Bool, true, false, ◌≢◌, ◌⊎◌, List, IsSome, Some, Option}
use Rattle.clap.specs.Words.{takes}
use Rattle.im_disk.specs.declared.{Disk.Ghosts as DiskGhosts, FileDisk.FileDisk, Start.Ghosts}
use Rattle.im_words.specs.declared.{CommandLine.CommandLine, Work.Work}
use Rattle.im_words.specs.Words.{asks_statuses, asks_wait, asks_work, imem_app, texts_in}
use Rattle.im_program.specs.Told.{WorkDone}

-- The exit status of work with this status: the same, but 1, 4 or 5 for a refusal if refusals are told apart.
pub record EndsAs (statuses : Bool) (status result : ℕ) : Type 0 where
  pub same : (statuses ≡ false) ⊎ (status ≢ 1) → result ≡ status
  pub few : status ≤ 6 → result ≤ 6
  pub range : status ≡ 1 → (result ≡ 1) ⊎ (result ≡ 4) ⊎ (result ≡ 5)

module _ {S T : Type 0} (start : Ghosts S) (other : Ghosts T) (d : DiskGhosts (FileDisk S start))
    (e : DiskGhosts (FileDisk T other)) where
  -- a work was done with a writer and an input of these bytes, where they are known, and the program ends with this
  -- status
  pub record Ended (statuses : Bool) (work : Work (List ℕ)) (input was is : Option (List ℕ)) (result : ℕ)
      (disk : Option (FileDisk S start)) (old : Option (FileDisk T other)) : Type 0 where
    pub status : ℕ
    pub ends : EndsAs statuses status result
    pub done : WorkDone start other d e input work was is status disk old

  -- the same of a command line
  abbrev pub EndedOn : CommandLine → Option (List ℕ) → Option (List ℕ) → Option (List ℕ) → ℕ
      → Option (FileDisk S start) → Option (FileDisk T other) → Type 0
  EndedOn line = Ended line.statuses (texts_in line.work)

  -- the same of what these words ask for, if they are taken
  abbrev pub EndedBy : List (List ℕ) → Option (List ℕ) → Option (List ℕ) → Option (List ℕ) → ℕ
      → Option (FileDisk S start) → Option (FileDisk T other) → Type 0
  EndedBy words input was is result disk old = takes imem_app words ≡ true → IsSome (asks_wait words)
      → (work : Work (List ℕ)) → asks_work words ≡ Some work
      → Ended (asks_statuses words) work input was is result disk old
