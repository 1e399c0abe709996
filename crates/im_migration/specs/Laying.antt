-- A new image while it is laid down behind the closed gate of its header. (Own.)
use Rattle.std.specs.Prelude.{◌≡◌, ℕ, ◌+◌, ◌*◌, ◌<◌, ◌≤◌, ◌≢◌, ◌⊎◌, List, length, slice_index}
use Rattle.im_types.specs.Types.{layout_in_use, Sizes, page_bytes, area_pages, journal_at, image_length, record_at}
use Rattle.im_types.specs.Types.{open_gate, Records}
use Rattle.im_disk.specs.{declared.Disk.Ghosts, Since.LeavesNow, Since.LeavesOnly}
use Rattle.im_image.specs.Encoding.{IsAreaPage}
use Rattle.im_migration.specs.Migration.{IsBlank}

-- no gate of a header is in the range
abbrev pub IsBeside : ℕ → ℕ → Type 0
IsBeside at n = ((1 ≤ at) × (at + n ≤ 4096)) ⊎ (4097 ≤ at)

-- each byte below this place is zero, unless it is the gate of a header
abbrev pub IsCleared : ℕ → List ℕ → Type 0
IsCleared n file = (i : ℕ) → 1 ≤ i → i < n → i ≢ 4096 → slice_index file i ≡ 0

-- the same for the bytes of the first pages of a file with this length
abbrev pub AreCleared : ℕ → ℕ → List ℕ → Type 0
AreCleared pages size file = (i : ℕ) → 1 ≤ i → i < 4096 * pages → i < size → i ≢ 4096 → slice_index file i ≡ 0

-- if no header was open, none is open in any file left
abbrev pub StaysBlank : {D : Type 0} → Ghosts D → D → D → Type 0
StaysBlank disk old new = LeavesNow (disk.now old) IsBlank → LeavesOnly disk.now disk.past old new IsBlank

-- A file of the length of an image has this many pages of records in its first area, which begins behind two pages.
-- This many gates of the journal's slots are closed.
pub record IsLaid (s : Sizes) (r : Records) (pages slots : ℕ) (file : List ℕ) : Type 0 where
  pub size : length file ≡ image_length layout_in_use s
  pub paged : (i : ℕ) → i < pages → IsAreaPage s r i (record_at page_bytes file (2 + i))
  pub closed : (i : ℕ) → i < slots → slice_index file (journal_at layout_in_use s + 64 * i) ≢ open_gate

-- if the one file has all pages of an area, the other has them too, and this many gates of slots are closed in it
abbrev pub ClosesSlots : Sizes → ℕ → List ℕ → List ℕ → Type 0
ClosesSlots s slots old new = (r : Records) → IsLaid s r (area_pages layout_in_use s) 0 old
    → IsLaid s r (area_pages layout_in_use s) slots new
