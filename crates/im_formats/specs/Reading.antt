-- How the records of an area are read: the fields give the only record that it can be, and the bytes must be that
-- record's spelling. (Own.)
use Rattle.std.specs.Prelude.{ℕ, List, if◌then◌else◌, nat_lt, ◌==◌, slice_index, Some, None, Option, option_and_then}
use Rattle.im_types.specs.Types.{Entry, Kind, Op, Kept, Waiting, Answered, I, M, Base, NoSpace, BadLength, Value}
use Rattle.im_types.specs.Types.{Stored, Clash, NoCell, WrongKind, Released, NoBlock, StillWaiting, Cleared, same_bytes}
use Rattle.im_types.specs.Types.{number_at, op_of, PresenceTag, CellRecord, NodeRecord, TagEmpty, TagWaiting, TagFull}
use Rattle.im_types.specs.Types.{TagClashed, FreeCell, BlockCell, ListNode, FreeNode, cell_bytes, node_bytes}
use Rattle.im_types.specs.Types.{place_bytes}

-- the entry that a code and a number stand for
abbrev pub entry_of : ℕ → ℕ → Option Entry
entry_of code n =
    if code == 0 then Some Waiting
    else if code == 1 then (if nat_lt n 0x1_0000_0000 then Some (Answered (Base n)) else None)
    else if code == 2 then Some (Answered NoSpace)
    else if code == 3 then Some (Answered BadLength)
    else if code == 4 then Some (Answered (Value n))
    else if code == 5 then Some (Answered Stored)
    else if code == 6 then Some (Answered Clash)
    else if code == 7 then Some (Answered NoCell)
    else if code == 8 then Some (Answered WrongKind)
    else if code == 9 then Some (Answered Released)
    else if code == 10 then Some (Answered NoBlock)
    else if code == 11 then Some (Answered StillWaiting)
    else if code == 12 then Some (Answered Cleared)
    else None

-- the operation with its entry, if both are read
abbrev pub kept_of : Option Op → Option Entry → Option (Option Kept)
kept_of None entry = None
kept_of (Some op) None = None
kept_of (Some op) (Some entry) = Some (Some (record { op = op; entry = entry }))

-- the place of a session record that these fields stand for
abbrev pub place_of : ℕ → ℕ → ℕ → ℕ → ℕ → Option (Option Kept)
place_of code reply address value n =
    if code == 0 then Some None else kept_of (op_of code address value) (entry_of reply n)

-- the place that the fields of bytes stand for
unfoldable pub place_in : List ℕ → Option (Option Kept)
place_in bytes =
    place_of (slice_index bytes 0) (slice_index bytes 2) (number_at 4 4 bytes) (number_at 8 8 bytes)
    (number_at 8 16 bytes)

-- a place, if bytes are its spelling
abbrev pub place_if : List ℕ → Option Kept → Option (Option Kept)
place_if bytes place = if same_bytes bytes (place_bytes place) then Some place else None

-- the place that bytes spell, if they spell one
unfoldable pub read_place : List ℕ → Option (Option Kept)
read_place bytes = option_and_then (place_if bytes) (place_in bytes)

-- the tag that a code and its fields stand for
abbrev pub tag_of : ℕ → ℕ → ℕ → ℕ → Option PresenceTag
tag_of code first last value =
    if code == 1 then Some TagEmpty
    else if code == 2 then Some (TagWaiting first last)
    else if code == 3 then Some (TagFull value)
    else if code == 4 then Some (TagClashed value)
    else None

-- the kind that a code stands for
abbrev pub kind_of : ℕ → Option Kind
kind_of code = if code == 1 then Some I else if code == 2 then Some M else None

-- the record of a cell in a block, if its kind and its tag are read
abbrev pub block_cell : ℕ → ℕ → Option Kind → Option PresenceTag → Option CellRecord
block_cell base length None tag = None
block_cell base length (Some kind) None = None
block_cell base length (Some kind) (Some tag) =
    Some (BlockCell (record { base = base; length = length; kind = kind }) tag)

-- the cell record that these fields stand for; a free cell has no kind
abbrev pub cell_of : ℕ → ℕ → ℕ → ℕ → ℕ → ℕ → ℕ → Option CellRecord
cell_of code kind base length first last value =
    if kind == 0 then Some (FreeCell base length)
    else block_cell base length (kind_of kind) (tag_of code first last value)

-- the cell record that the fields of bytes stand for
unfoldable pub cell_in : List ℕ → Option CellRecord
cell_in bytes =
    cell_of (slice_index bytes 0) (slice_index bytes 1) (number_at 4 4 bytes) (number_at 4 8 bytes)
    (number_at 4 12 bytes) (number_at 4 16 bytes) (number_at 8 24 bytes)

-- a cell record, if bytes are its spelling
abbrev pub cell_if : List ℕ → CellRecord → Option CellRecord
cell_if bytes cell = if same_bytes bytes (cell_bytes cell) then Some cell else None

-- the cell record that bytes spell, if they spell one
unfoldable pub read_cell : List ℕ → Option CellRecord
read_cell bytes = option_and_then (cell_if bytes) (cell_in bytes)

-- the node record that these fields stand for
abbrev pub node_of : ℕ → ℕ → ℕ → ℕ → NodeRecord
node_of next element mark number =
    if mark == 0 then FreeNode next else ListNode next (record { element = element; number = number })

-- the node record that the fields of bytes stand for
unfoldable pub node_in : List ℕ → NodeRecord
node_in bytes = node_of (number_at 4 0 bytes) (number_at 2 4 bytes) (number_at 2 6 bytes) (number_at 8 8 bytes)

-- the node record that bytes spell, if they spell one
unfoldable pub read_node : List ℕ → Option NodeRecord
read_node bytes = if same_bytes bytes (node_bytes (node_in bytes)) then Some (node_in bytes) else None
