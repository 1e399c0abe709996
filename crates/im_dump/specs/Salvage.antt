-- What the bytes of a damaged image still say, record by record. (Own.)
use Rattle.std.specs.Prelude.{◌≡◌, ℕ, zero, suc, ◌+◌, ◌-◌, ◌*◌, Bool, false, ◌&&◌, ◌||◌, ◌⊎◌, List, [], ◌++◌, length}
use Rattle.std.specs.Prelude.{take, drop, if◌then◌else◌, nat_lt, ◌==◌, Some, None, Err, codes, decimal, Option}
use Rattle.std.specs.{Io.KnownBytes.Appends, Option.option_or}
use Rattle.im_types.specs.Types.{Block, Refusal, Device, NoMemory, NONE, Window, same_kind, Layout, layout_named}
use Rattle.im_types.specs.Types.{page_bytes, cell_record_bytes, node_record_bytes, session_record_bytes, node_count}
use Rattle.im_types.specs.Types.{cell_pages, node_pages, area_bytes, area_at, Header, header_in, spells_header}
use Rattle.im_types.specs.Types.{header_place, is_open_header, generation_in, layout_in, PresenceTag, CellRecord}
use Rattle.im_types.specs.Types.{NodeRecord, TagEmpty, TagWaiting, TagFull, TagClashed, FreeCell, BlockCell, ListNode}
use Rattle.im_types.specs.Types.{FreeNode, Reads}
use Rattle.im_formats.specs.Reading.{read_cell, read_node}
use Rattle.im_records.specs.Entries.{SpellsSession}
use Rattle.im_text.specs.Texts.{kind_text, line_feed, texts_below}
use Rattle.im_dump.specs.{Dump.begun_line, Dump.head_lines, Dump.last_line, Dump.window_lines, Dumping.Dumps}

-- ---- which area

-- the header that a place spells for this area, whatever its gate is
abbrev pub spelled_header : ℕ → List ℕ → Option Header
spelled_header number place =
    if spells_header (layout_named (header_in place).version) number place then Some (header_in place) else None

-- whether the second of two places comes first: it alone is open, or its generation is the greater one
abbrev pub is_second_first : List ℕ → List ℕ → Bool
is_second_first first second =
    if is_open_header first then is_open_header second && nat_lt (generation_in first) (generation_in second)
    else is_open_header second || nat_lt (generation_in first) (generation_in second)

-- the header that is spelled at the place that comes first, or else at the other one
abbrev pub best_of : List ℕ → List ℕ → Option Header
best_of first second =
    if is_second_first first second then option_or (spelled_header 1 second) (spelled_header 0 first)
    else option_or (spelled_header 0 first) (spelled_header 1 second)

-- the header whose area is read: the one in force, if it is spelled
abbrev pub best_header : List ℕ → Option Header
best_header file =
    if nat_lt (length file) (page_bytes + page_bytes) then None
    else best_of (header_place 0 file) (header_place 1 file)

-- ---- records

-- the bytes of record i in a row of records of a size, as far as they are there
abbrev pub record_there : ℕ → List ℕ → ℕ → List ℕ
record_there size part i = take size (drop (size * i) part)

-- WORD N damaged: a record that can't be read
abbrev pub damaged_line : List ℕ → ℕ → List ℕ
damaged_line word n = word ++ codes " " ++ decimal n ++ codes " damaged" ++ line_feed

-- the block that a record names
abbrev pub block_named : Option CellRecord → Option Block
block_named None = None
block_named (Some (FreeCell hole next)) = None
block_named (Some (BlockCell block tag)) = Some block

-- whether that is this block
abbrev pub is_block : Option Block → Block → Bool
is_block None b = false
is_block (Some c) b = (c.base == b.base) && (c.length == b.length) && same_kind c.kind b.kind

-- a cell that isn't the first one of the block that its record names
abbrev pub within_line : ℕ → Block → List ℕ
within_line a b =
    codes "cell " ++ decimal a ++ codes " of block " ++ decimal b.base ++ codes " " ++ kind_text b.kind ++ codes " "
    ++ decimal b.length ++ line_feed

-- the block that a record names, at its first cell, or where the record before names another one
abbrev pub named_line : ℕ → Option Block → Block → List ℕ
named_line a before b =
    if b.base == a then begun_line a (Some b) else if is_block before b then [] else within_line a b

-- what a record says that its cell has
abbrev pub tag_line : ℕ → PresenceTag → List ℕ
tag_line a TagEmpty = []
tag_line a (TagWaiting first last) =
    codes "cell " ++ decimal a ++ codes " waits nodes " ++ decimal first ++ codes " to " ++ decimal last ++ line_feed
tag_line a (TagFull v) = codes "cell " ++ decimal a ++ codes " full " ++ decimal v ++ line_feed
tag_line a (TagClashed v) = codes "cell " ++ decimal a ++ codes " clashed " ++ decimal v ++ line_feed

-- what the record of a cell says; the record before names this block
abbrev pub record_told : ℕ → Option Block → Option CellRecord → List ℕ
record_told a before None = damaged_line (codes "cell") a
record_told a before (Some (FreeCell hole next)) = []
record_told a before (Some (BlockCell block tag)) = named_line a before block ++ tag_line a tag

-- the block that the record before that of a cell names
abbrev pub block_before : List ℕ → ℕ → Option Block
block_before part a =
    if a == 0 then None else block_named (read_cell (record_there cell_record_bytes part (a - 1)))

-- what the record of a cell says, in the cells' part of an area
abbrev pub told_cell : List ℕ → ℕ → List ℕ
told_cell part a = record_told a (block_before part a) (read_cell (record_there cell_record_bytes part a))

-- the node that follows in a list
abbrev pub next_text : ℕ → List ℕ
next_text next = if next == NONE then codes " last" else codes " next " ++ decimal next

-- what the record of a waiter node says
abbrev pub node_told : ℕ → Option NodeRecord → List ℕ
node_told n None = damaged_line (codes "node") n
node_told n (Some (FreeNode next)) = []
node_told n (Some (ListNode next who)) =
    codes "node " ++ decimal n ++ codes " " ++ decimal who.element ++ codes "." ++ decimal who.number ++ next_text next
    ++ line_feed

-- the same in the nodes' part of an area
abbrev pub told_node : List ℕ → ℕ → List ℕ
told_node part n = node_told n (read_node (record_there node_record_bytes part n))

-- the window that bytes spell, if they spell one
abbrev pub SpellsWindow : Layout → List ℕ → Option Window → Type 0
SpellsWindow l bytes None = (w : Window) → SpellsSession l bytes w → ⊥
SpellsWindow l bytes (Some w) = SpellsSession l bytes w

-- what the record of an element says: its window as in a dump
abbrev pub window_told : ℕ → Option Window → List ℕ
window_told element None = damaged_line (codes "element") element
window_told element (Some w) = window_lines element (Some w)

-- this is what the record of an element says, in the windows' part of an area
abbrev pub TellsWindow : Layout → List ℕ → ℕ → List ℕ → Type 0
TellsWindow l part n text =
    (w : Option Window) × SpellsWindow l (record_there (session_record_bytes l) part n) w × (text ≡ window_told n w)

-- this is what the records of the elements below a number say, in the windows' part of an area
unfoldable pub TellsWindows : Layout → List ℕ → ℕ → List ℕ → Type 0
TellsWindows l part zero text = text ≡ []
TellsWindows l part (suc n) text =
    (before more : List ℕ) × TellsWindows l part n before × TellsWindow l part n more × (text ≡ before ++ more)

-- ---- the whole

-- the first line: which area is read, and that the journal behind it isn't
abbrev pub area_line : ℕ → List ℕ
area_line area = codes "imem salvage 1 without the journal, of area " ++ decimal area ++ line_feed

-- the same if no header can be read
abbrev pub no_area_line : List ℕ
no_area_line = codes "imem salvage 1 of no area: neither header can be read" ++ line_feed

-- this is what the bytes of an area say, by its header
pub record TellsArea (h : Header) (area text : List ℕ) : Type 0 where
  pub windows : List ℕ
  pub told : TellsWindows (layout_named h.version)
      (drop (page_bytes * node_pages (layout_named h.version) h.sizes) (drop (page_bytes * cell_pages h.sizes) area))
      h.sizes.elements windows
  pub is : text ≡ area_line h.area ++ head_lines h.sizes h.count ++ texts_below (told_cell area) h.sizes.cells
      ++ texts_below (told_node (drop (page_bytes * cell_pages h.sizes) area))
      (node_count (layout_named h.version) h.sizes) ++ windows ++ last_line

-- the bytes of the area of a header, as far as they are there
abbrev pub area_there : Header → List ℕ → List ℕ
area_there h file =
    let l = layout_named h.version in take (area_bytes l h.sizes) (drop (area_at l h.sizes h.area) file)

-- this is what the bytes of a file say, by this header, if there is one
abbrev pub TellsFile : Option Header → List ℕ → List ℕ → Type 0
TellsFile None file text = text ≡ no_area_line ++ last_line
TellsFile (Some h) file text = TellsArea h (area_there h file) text

-- what was read is this, if the disk is honest
pub record IsReadAs {X : Type 0} (Honest : Type 0) (found is : X) : Type 0 where
  pub same : Honest → found ≡ is

-- what the bytes of a file say, by this header, was written, if the disk is honest
pub record WasToldBy (best : Option Header) (Honest : Type 0) (file : List ℕ) (was now : Option (List ℕ)) :
    Type 0 where
  pub written : Honest → (text : List ℕ) × TellsFile best file text × Appends was now text

-- A file was refused for this reason, and what its bytes say was written. It is damaged, or memory was short, or a call
-- of the disk failed.
pub record Salvages (file : List ℕ) (fault : Refusal) (was now : Option (List ℕ)) : Type 0 where
  pub why : (fault ≡ NoMemory) ⊎ (fault ≡ Device) ⊎ Reads (layout_in file) file (Err fault)
  pub text : List ℕ
  pub tells : TellsFile (best_header file) file text
  pub added : Appends was now text

-- the dump of what a file means was written, or, behind a refusal, what its bytes say
abbrev pub DumpsOrSalvages : List ℕ → Option Refusal → Option (List ℕ) → Option (List ℕ) → Type 0
DumpsOrSalvages file None was now = Dumps file was now
DumpsOrSalvages file (Some fault) was now = Salvages file fault was now

-- the same, if the disk is honest
pub record WasSalvaged (Honest : Type 0) (file : List ℕ) (fault : Option Refusal) (was now : Option (List ℕ)) :
    Type 0 where
  pub told : Honest → DumpsOrSalvages file fault was now
