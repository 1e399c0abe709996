-- What a cell's record has beside the fields of the cell. (Own.)
use Rattle.std.specs.Prelude.{◌≡◌, ℕ, ◌-◌, ◌^◌, List, slice_index}
use Rattle.im_types.specs.Types.{number_at, PresenceTag, CellRecord, TagEmpty, TagWaiting, TagFull, TagClashed}
use Rattle.im_types.specs.Types.{FreeCell, BlockCell}

-- NONE, twice: the links of a record that names no waiter node
abbrev pub no_links : ℕ
no_links = 2 ^ 64 - 1

-- bytes have no links where the tag names no waiter node, and zeros where it carries no value
abbrev pub FillTag : List ℕ → PresenceTag → Type 0
FillTag bytes TagEmpty = (number_at 8 12 bytes ≡ no_links) × (number_at 8 24 bytes ≡ 0)
FillTag bytes (TagWaiting first last) = number_at 8 24 bytes ≡ 0
FillTag bytes (TagFull v) = number_at 8 12 bytes ≡ no_links
FillTag bytes (TagClashed v) = number_at 8 12 bytes ≡ no_links

-- the bytes that no record of a cell uses are zero
abbrev pub AreUnusedZero : List ℕ → Type 0
AreUnusedZero bytes = (number_at 2 2 bytes ≡ 0) × (number_at 4 20 bytes ≡ 0)

-- bytes have beside a cell's fields what its spelling has there
abbrev pub FillCell : List ℕ → CellRecord → Type 0
FillCell bytes (FreeCell hole next) = (slice_index bytes 0 ≡ 0) × AreUnusedZero bytes × FillTag bytes TagEmpty
FillCell bytes (BlockCell block tag) = AreUnusedZero bytes × FillTag bytes tag
