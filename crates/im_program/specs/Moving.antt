-- What a new file is given of an old one. (Own.)
use Rattle.std.specs.Prelude.{◌≡◌, ℕ, ◌⊎◌, List, [], ◌∷◌, ◌++◌, replicate, codes, decimal, Option}
use Rattle.std.specs.Io.KnownBytes.{Appends}
use Rattle.im_types.specs.Types.{Layout, layout_1, layout_in_use}
use Rattle.im_disk.specs.{Account.IsHonest, declared.FileDisk.FileDisk, declared.Start.Ghosts, File.account_of}
use Rattle.im_disk.specs.{Moment.Left, Moment.LeftSince, Since.LeavesNow, Since.ReadsOnly}
use Rattle.im_migration.specs.{Copying.MeansCopy, declared.Asked.Asked}
use Rattle.im_migration.specs.Migration.{HasCountIn, IsBlank, MeansSame}
use Rattle.im_text.specs.Texts.{line_feed}

-- WORD COUNT
abbrev pub counted_line : List ℕ → ℕ → List ℕ
counted_line word count = word ++ codes " " ++ decimal count ++ line_feed

-- the count of the old file is printed behind this word
abbrev pub TellsCount : Layout → List ℕ → List ℕ → Option (List ℕ) → Option (List ℕ) → Type 0
TellsCount l word old was is = (count : ℕ) × HasCountIn l old count × Appends was is (counted_line word count)

module _ {S T : Type 0} (start : Ghosts S) (other : Ghosts T) where
  -- The new file was given what it is to mean of the old one, with this status, and the old one was only read. The
  -- starts are what the files held when they were opened. If the new file was made, it was blank then.
  pub record MovedFrom (Means : List ℕ → List ℕ → Type 0)
      (Tells : List ℕ → Option (List ℕ) → Option (List ℕ) → Type 0) (was is : Option (List ℕ)) (status : ℕ)
      (old : FileDisk T other) (new : FileDisk S start) : Type 0 where
    pub leaves : IsHonest (account_of start new) → (c : List ℕ)
        → LeftSince ((account_of start new).now ∷ (account_of start new).past) 0 c
        → Left start.first c ⊎ IsBlank c ⊎ (IsHonest (account_of other old) → Means other.first.bytes c)
    pub done : IsHonest (account_of start new) → status ≡ 0 → IsHonest (account_of other old)
        → LeavesNow (account_of start new).now (Means other.first.bytes)
    pub told : status ≡ 0 → IsHonest (account_of other old) → Tells other.first.bytes was is
    pub reads : IsHonest (account_of other old)
        → ReadsOnly other.first (account_of other old).now [] (account_of other old).past

  -- the new file was given the memory of the old one, of the first version
  abbrev pub MigratedFrom : Option (List ℕ) → Option (List ℕ) → ℕ → FileDisk T other → FileDisk S start → Type 0
  MigratedFrom = MovedFrom MeansSame (TellsCount layout_1 (codes "migrated"))

  -- the new file was made a copy of the old one, of the sizes that are asked for
  abbrev pub CopiedFrom : Asked → Option (List ℕ) → Option (List ℕ) → ℕ → FileDisk T other → FileDisk S start → Type 0
  CopiedFrom asked = MovedFrom (MeansCopy asked) (TellsCount layout_in_use (codes "copied"))

-- the old file was just opened
pub record BeginsOld {T : Type 0} (other : Ghosts T) (old : FileDisk T other) : Type 0 where
  pub now : (account_of other old).now ≡ other.first
  pub past : (account_of other old).past ≡ []

-- the new file was just opened, or made of this many zeros
pub record BeginsNew {S : Type 0} (start : Ghosts S) (len : ℕ) (new : FileDisk S start) : Type 0 where
  pub now : ((account_of start new).now ≡ start.first)
      ⊎ ((account_of start new).now ≡ record { bytes = replicate len 0; ranges = [] })
  pub past : (account_of start new).past ≡ []
