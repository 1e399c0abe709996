-- The records of an area, which are cells, waiter nodes and sessions, and their spelling. (Own.)
use Rattle.std.specs.Prelude.{◌≡◌, ℕ, ◌+◌, ◌-◌, ◌*◌, ◌%◌, ◌^◌, ◌<◌, ◌≤◌, Bool, true, false, not, ◌&&◌, ◌||◌, ◌⊎◌, List}
use Rattle.std.specs.Prelude.{[], ◌∷◌, ◌++◌, length, replicate, nat_le, slice_get, Some, None, Option}
use Rattle.byteorder.specs.Endian.{little_bytes}
use Rattle.std.specs.List.{list_any}
use Rattle.im_types.specs.{Agreement.address_of, Contents.Window, declared.TheConstants.LAST}
use Rattle.im_types.specs.{declared.TheConstants.NONE, Layout.Layout, Window.next_number}
use Rattle.im_types.specs.Bytes.{entry_code, entry_number, FitsEntry, FitsOp, kind_code, op_code, op_value, zeros}
use Rattle.im_types.specs.declared.operations.Entry.{Entry, TheVariants.Answered}
use Rattle.im_types.specs.declared.operations.{Kept.Kept, Op.Op, Op.TheVariants.Reset, Reply.TheVariants.Cleared}
use Rattle.im_types.specs.declared.records.{CellRecord.CellRecord, NodeRecord.NodeRecord, PresenceTag.PresenceTag}
use Rattle.im_types.specs.declared.records.CellRecord.TheVariants.{Free as FreeCell, Held as BlockCell}
use Rattle.im_types.specs.declared.records.NodeRecord.TheVariants.{Free as FreeNode, Listed as ListNode}
use Rattle.im_types.specs.declared.records.PresenceTag.TheVariants.{Clashed as TagClashed, Empty as TagEmpty}
use Rattle.im_types.specs.declared.records.PresenceTag.TheVariants.{Full as TagFull, Waiting as TagWaiting}

-- the code of a tag
abbrev pub tag_code : PresenceTag → ℕ
tag_code TagEmpty = 1
tag_code (TagWaiting first last) = 2
tag_code (TagFull v) = 3
tag_code (TagClashed v) = 4

-- the first waiter node that a tag names
abbrev pub tag_first : PresenceTag → ℕ
tag_first (TagWaiting first last) = first
tag_first tag = NONE

-- the last waiter node that a tag names
abbrev pub tag_last : PresenceTag → ℕ
tag_last (TagWaiting first last) = last
tag_last tag = NONE

-- the value that a tag carries
abbrev pub tag_value : PresenceTag → ℕ
tag_value (TagFull v) = v
tag_value (TagClashed v) = v
tag_value tag = 0

-- the 32 bytes of a cell
abbrev pub cell_bytes : CellRecord → List ℕ
cell_bytes (FreeCell hole next) =
    zeros 4 ++ little_bytes 4 hole ++ little_bytes 4 next ++ little_bytes 4 NONE ++ little_bytes 4 NONE ++ zeros 12
cell_bytes (BlockCell block tag) =
    tag_code tag ∷ kind_code block.kind ∷ zeros 2 ++ little_bytes 4 block.base ++ little_bytes 4 block.length
    ++ little_bytes 4 (tag_first tag) ++ little_bytes 4 (tag_last tag) ++ zeros 4 ++ little_bytes 8 (tag_value tag)

-- the 16 bytes of a node
abbrev pub node_bytes : NodeRecord → List ℕ
node_bytes (FreeNode next) = little_bytes 4 next ++ zeros 12
node_bytes (ListNode next who) =
    little_bytes 4 next ++ little_bytes 2 who.element ++ little_bytes 2 1 ++ little_bytes 8 who.number

-- a link to a number below n, or to NONE
abbrev pub IsLink : ℕ → ℕ → Type 0
IsLink n link = (link ≡ NONE) ⊎ (link < n)

-- a tag within its bounds
abbrev pub FitsTag : ℕ → PresenceTag → Type 0
FitsTag nodes TagEmpty = Unit {0}
FitsTag nodes (TagWaiting first last) = (first < nodes) × (last < nodes)
FitsTag nodes (TagFull v) = v < 2 ^ 64
FitsTag nodes (TagClashed v) = v < 2 ^ 64

-- a cell record within its bounds: a free cell has a hole of at most all cells and a link to a cell or to NONE, and a
-- block lies below the cell count
abbrev pub FitsCell : ℕ → ℕ → CellRecord → Type 0
FitsCell cells nodes (FreeCell hole next) = (hole ≤ cells) × IsLink cells next
FitsCell cells nodes (BlockCell block tag) = (block.base + block.length ≤ cells) × FitsTag nodes tag

-- a node record within its bounds
abbrev pub FitsNode : ℕ → NodeRecord → Type 0
FitsNode nodes (FreeNode next) = IsLink nodes next
FitsNode nodes (ListNode next who) = IsLink nodes next × (who.element < 2 ^ 16) × (who.number < 2 ^ 64)

-- the 32 bytes of a place of a session record: a kept entry, or none
abbrev pub place_bytes : Option Kept → List ℕ
place_bytes None = zeros 32
place_bytes (Some k) =
    op_code k.op ∷ 0 ∷ entry_code k.entry ∷ 0 ∷ little_bytes 4 (address_of k.op) ++ little_bytes 8 (op_value k.op)
    ++ little_bytes 8 (entry_number k.entry) ++ zeros 8

-- a kept entry within its bounds
abbrev pub FitsPlace : Option Kept → Type 0
FitsPlace None = Unit {0}
FitsPlace (Some k) = FitsOp k.op × FitsEntry k.entry

-- a window of n places is a ring: the entry with request number r stands at place r mod n
abbrev pub entry_at : ℕ → Window → ℕ → Option Kept
entry_at n w place = slice_get w.kept ((place + n - w.base % n) % n)

-- the bytes of the places from this one on, one for each element of the list
abbrev pub places_from : ℕ → Window → ℕ → List ℕ → List ℕ
places_from n w place [] = []
places_from n w place (one ∷ rest) = place_bytes (entry_at n w place) ++ places_from n w (place + 1) rest

-- a session record: the base, the number of entries, the places, and zeros to its end
abbrev pub session_bytes : Layout → Window → List ℕ
session_bytes l w =
    little_bytes 8 w.base ++ length w.kept ∷ zeros 23 ++ places_from l.window w 0 (replicate l.window 0)
    ++ zeros (32 * l.window - 32)

-- whether an operation is a reset
abbrev pub is_reset : Op → Bool
is_reset (Reset a) = true
is_reset op = false

-- whether an entry is a reset's
abbrev pub is_cleared : Entry → Bool
is_cleared (Answered Cleared) = true
is_cleared entry = false

-- whether the operation or the entry of a request is a reset's
abbrev pub is_of_reset : Kept → Bool
is_of_reset k = is_reset k.op || is_cleared k.entry

-- whether a layout has room for a window, and has each of its entries
abbrev pub has_room_for : Layout → Window → Bool
has_room_for l w = l.resets || (nat_le (length w.kept) l.window && not (list_any is_of_reset w.kept))

-- a window within the bounds of a layout, with each entry within its own bounds
pub record FitsWindow (l : Layout) (w : Window) : Type 0 where
  pub base_from : 1 ≤ w.base
  pub base_to : w.base ≤ LAST + 1
  pub few : length w.kept ≤ l.window
  pub numbers : next_number w ≤ LAST + 1
  pub known : has_room_for l w ≡ true
  pub fields : (i : ℕ) (k : Kept) → slice_get w.kept i ≡ Some k → FitsPlace (Some k)
