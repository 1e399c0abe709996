-- The headers of an image, and the header in force. (Own.)
use Rattle.std.specs.Prelude.{ℕ, ◌+◌, Bool, not, ◌&&◌, ◌||◌, List, ◌∷◌, ◌++◌, length, is_none, if◌then◌else◌, nat_lt}
use Rattle.std.specs.Prelude.{nat_le, ◌==◌, slice_index, slice_range, Some, None, Option}
use Rattle.byteorder.specs.Endian.{little_bytes}
use Rattle.im_types.specs.Bytes.{number_at, open_gate, same_bytes, zeros}
use Rattle.im_types.specs.declared.{refusals.Refusal.Refusal, TheConstants.LAST}
use Rattle.im_types.specs.declared.refusals.Refusal.TheVariants.{BadHeader, NoHeader, WrongLength}
use Rattle.im_types.specs.Layout.{are_sizes, header_at, image_length, Layout, layout_named, page_bytes, Sizes}

-- the layout's version, the header's area, the generation of that area, the count of the commands that it holds, and
-- the sizes
pub record Header : Type 0 where
  pub version : ℕ
  pub area : ℕ
  pub generation : ℕ
  pub count : ℕ
  pub sizes : Sizes

-- the 63 bytes after a header's gate
abbrev pub header_body : Header → List ℕ
header_body h =
    h.area ∷ little_bytes 2 h.version ++ 0x49 ∷ 0x4D ∷ 0x45 ∷ 0x4D ∷ little_bytes 8 h.generation
    ++ little_bytes 8 h.count
    ++ little_bytes 4 h.sizes.cells ++ little_bytes 2 h.sizes.elements ++ zeros 2 ++ little_bytes 4 h.sizes.slots
    ++ zeros 28

-- the fields of a header, whatever its other bytes are
abbrev pub header_in : List ℕ → Header
header_in bytes = record {
  version = number_at 2 2 bytes;
  area = slice_index bytes 1;
  generation = number_at 8 8 bytes;
  count = number_at 8 16 bytes;
  sizes = record { cells = number_at 4 24 bytes; elements = number_at 2 28 bytes; slots = number_at 4 32 bytes };
}

-- these numbers can stand in the header of an area
abbrev pub is_header : Layout → ℕ → Header → Bool
is_header l number h =
    (h.version == l.version) && (h.area == number) && nat_le 1 h.generation && nat_le h.generation LAST
    && nat_le h.count LAST && are_sizes l h.sizes

-- the bytes spell the header of an area
abbrev pub spells_header : Layout → ℕ → List ℕ → Bool
spells_header l number bytes =
    same_bytes (slice_range bytes 1 64) (header_body (header_in bytes)) && is_header l number (header_in bytes)

-- the bytes of a header place that are read: its first 64
abbrev pub header_place : ℕ → List ℕ → List ℕ
header_place number file = slice_range file (header_at number) (header_at number + 64)

-- whether the header in these bytes is open
abbrev pub is_open_header : List ℕ → Bool
is_open_header place = slice_index place 0 == open_gate

-- the generation in these bytes
abbrev pub generation_in : List ℕ → ℕ
generation_in place = (header_in place).generation

-- whether the second header place is in force: it is open, and the first one is closed or has a lower generation
abbrev pub is_second : List ℕ → List ℕ → Bool
is_second zero one =
    is_open_header one && (not (is_open_header zero) || nat_lt (generation_in zero) (generation_in one))

-- the number of the header in force
abbrev pub number_in_force : List ℕ → List ℕ → ℕ
number_in_force zero one = if is_second zero one then 1 else 0

-- the bytes of the header in force
abbrev pub place_in_force : List ℕ → List ℕ → List ℕ
place_in_force zero one = if is_second zero one then one else zero

-- both headers are open and have the same generation
abbrev pub are_ambiguous : List ℕ → List ℕ → Bool
are_ambiguous zero one = is_open_header zero && is_open_header one && (generation_in zero == generation_in one)

-- the first fault of the two header places
abbrev pub place_fault : Layout → List ℕ → List ℕ → Option Refusal
place_fault l zero one =
    if not (is_open_header zero || is_open_header one) then Some NoHeader
    else if are_ambiguous zero one || not (spells_header l (number_in_force zero one) (place_in_force zero one))
    then Some BadHeader
    else None

-- the header in force
abbrev pub header_of : List ℕ → Header
header_of file = header_in (place_in_force (header_place 0 file) (header_place 1 file))

-- the first fault of two
abbrev pub or_else : Option Refusal → Option Refusal → Option Refusal
or_else None second = second
or_else (Some first) second = Some first

-- the first fault of a file's length and headers
abbrev pub header_fault : Layout → List ℕ → Option Refusal
header_fault l file =
    if nat_lt (length file) (page_bytes + page_bytes) then Some WrongLength
    else or_else (place_fault l (header_place 0 file) (header_place 1 file))
    (if length file == image_length l (header_of file).sizes then None else Some WrongLength)

-- the layout of an image, by the number in its header in force
abbrev pub layout_in : List ℕ → Layout
layout_in file = layout_named (header_of file).version

-- the header in force is a sound one of the first version, whatever the file's length is
abbrev pub is_old : List ℕ → Bool
is_old file =
    not (nat_lt (length file) (page_bytes + page_bytes)) && ((header_of file).version == 1)
    && is_none (place_fault (layout_in file) (header_place 0 file) (header_place 1 file))
