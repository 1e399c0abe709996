-- The text of a report: what an inspector says of an image, in lines of words, or with an object of JSON on each line.
-- In the objects a number that may pass 2^53 is a string. (Own.)
use Rattle.std.specs.Prelude.{◌≡◌, ℕ, ◌+◌, Bool, ◌&&◌, List, [], ◌∷◌, ◌++◌, length, if◌then◌else◌, ◌==◌, slice_get}
use Rattle.std.specs.Prelude.{Some, None, codes, decimal, Option}
use Rattle.im_types.specs.Types.{Waiter, Block, Kept, Window, Contents, held_at, waiters_at, block_at, presence_in}
use Rattle.im_types.specs.Types.{Cell, CellEmpty as IsEmpty, CellWaiting as IsWaiting, CellFull as IsFull}
use Rattle.im_types.specs.Types.{CellClashed as IsClashed, next_number, Header}
use Rattle.im_text.specs.Texts.{entry_text, kind_text, line_feed, op_text, texts_below}
use Rattle.im_report.specs.declared.notation.Notation.{Notation, TheVariants.Json, TheVariants.Lines}

-- ---- lines

-- a word, and a number behind it
unfoldable pub numbered : List ℕ → ℕ → List ℕ
numbered word n = word ++ decimal n

-- three words, each with a number behind it, and an end
unfoldable pub three_words : List ℕ → ℕ → List ℕ → ℕ → List ℕ → ℕ → List ℕ → List ℕ
three_words one a two b three c end = numbered one a ++ numbered two b ++ numbered three c ++ end

-- the version of the layout
abbrev pub version_line : Header → List ℕ
version_line h = codes "version " ++ decimal h.version ++ line_feed

-- the sizes
abbrev pub limits_line : Header → List ℕ
limits_line h =
    codes "limits " ++ decimal h.sizes.cells ++ codes " " ++ decimal h.sizes.elements ++ codes " "
    ++ decimal h.sizes.slots ++ line_feed

-- the header in force, whose number is that of its area
abbrev pub header_line : Header → List ℕ
header_line h =
    codes "header " ++ decimal h.area ++ codes " generation " ++ decimal h.generation ++ codes " area "
    ++ decimal h.area ++ codes " count " ++ decimal h.count ++ line_feed

-- the version, the sizes and the header in force
abbrev pub opening_lines : Header → List ℕ
opening_lines h = version_line h ++ limits_line h ++ header_line h

-- how many commands the journal's run has, and the room for more
abbrev pub journal_line : ℕ → ℕ → List ℕ
journal_line run room = codes "journal " ++ decimal run ++ codes " room " ++ decimal room ++ line_feed

-- a block
abbrev pub told_block : Notation → Block → List ℕ
told_block Lines b =
    codes "block " ++ decimal b.base ++ codes " " ++ kind_text b.kind ++ codes " " ++ decimal b.length ++ line_feed
told_block Json b =
    codes "{\"block\":" ++ decimal b.base ++ codes ",\"kind\":\"" ++ kind_text b.kind ++ codes "\",\"length\":"
    ++ decimal b.length ++ codes "}\n"

-- a block, reported only at its base
abbrev pub block_line : Notation → ℕ → Option Block → List ℕ
block_line notation a None = []
block_line notation a (Some b) = if b.base == a then told_block notation b else []

-- a request that waits
abbrev pub waiter_text : Waiter → List ℕ
waiter_text who = codes " " ++ decimal who.element ++ codes "." ++ decimal who.number

-- the requests that wait at a cell, in their order
unfoldable pub waiters_text : List Waiter → List ℕ
waiters_text [] = []
waiters_text (who ∷ others) = waiter_text who ++ waiters_text others

-- a request that waits, as an object
abbrev pub waiter_object : Waiter → List ℕ
waiter_object who =
    numbered (codes "{\"element\":") who.element ++ numbered (codes ",\"number\":\"") who.number ++ codes "\"}"

-- what stands before the first object of a list, and before another one
abbrev pub mark_of : Bool → List ℕ
mark_of is_first = if is_first then codes "[" else codes ","

-- objects of the requests that wait at a cell, in their order: the first behind this mark, each other one behind a
-- comma
unfoldable pub waiter_objects : List ℕ → List Waiter → List ℕ
waiter_objects mark [] = []
waiter_objects mark (who ∷ others) = (mark ++ waiter_object who) ++ waiter_objects (codes ",") others

-- the object of a cell that somebody waits for, as far as the requests
abbrev pub waiting_start : ℕ → List ℕ
waiting_start a = codes "{\"cell\":" ++ decimal a ++ codes ",\"state\":\"waiting\",\"waiters\":"

-- a cell that somebody waits for
abbrev pub told_waiting : Notation → ℕ → List Waiter → List ℕ
told_waiting Lines a waiters = codes "cell " ++ decimal a ++ codes " waiting" ++ waiters_text waiters ++ line_feed
told_waiting Json a waiters = waiting_start a ++ waiter_objects (codes "[") waiters ++ codes "]}\n"

-- a cell with a value, and the word for its state
abbrev pub told_value : Notation → ℕ → List ℕ → ℕ → List ℕ
told_value Lines a state v = codes "cell " ++ decimal a ++ codes " " ++ state ++ codes " " ++ decimal v ++ line_feed
told_value Json a state v =
    codes "{\"cell\":" ++ decimal a ++ codes ",\"state\":\"" ++ state ++ codes "\",\"value\":\"" ++ decimal v
    ++ codes "\"}\n"

-- a cell that isn't empty, with the requests that wait at it
abbrev pub cell_line : Notation → ℕ → Option Cell → List Waiter → List ℕ
cell_line notation a None waiters = []
cell_line notation a (Some IsEmpty) waiters = []
cell_line notation a (Some IsWaiting) waiters = told_waiting notation a waiters
cell_line notation a (Some (IsFull v)) waiters = told_value notation a (codes "full") v
cell_line notation a (Some (IsClashed v)) waiters = told_value notation a (codes "clashed") v

-- the object of an entry, as far as its operation
abbrev pub entry_start : ℕ → ℕ → List ℕ
entry_start element number =
    codes "{\"entry\":\"" ++ decimal number ++ codes "\",\"of\":" ++ decimal element ++ codes ",\"operation\":\""

-- an entry, kept under an element's number
abbrev pub told_kept : Notation → ℕ → ℕ → Kept → List ℕ
told_kept Lines element number k =
    codes "entry " ++ decimal element ++ codes "." ++ decimal number ++ codes " " ++ op_text k.op ++ codes " -> "
    ++ entry_text k.entry ++ line_feed
told_kept Json element number k =
    entry_start element number ++ op_text k.op ++ codes "\",\"reply\":\"" ++ entry_text k.entry ++ codes "\"}\n"

-- what is kept under an element's number
abbrev pub entry_line : Notation → ℕ → ℕ → Option Kept → List ℕ
entry_line notation element number None = []
entry_line notation element number (Some k) = told_kept notation element number k

-- the base of an element's window, and how many entries it keeps
abbrev pub element_line : Notation → ℕ → ℕ → ℕ → List ℕ
element_line Lines element base kept =
    codes "element " ++ decimal element ++ codes " base " ++ decimal base ++ codes " kept " ++ decimal kept ++ line_feed
element_line Json element base kept = three_words (codes "{\"element\":") element (codes ",\"base\":\"") base
    (codes "\",\"kept\":") kept (codes "}\n")

-- ---- the report

-- the numbers of a window's entries run from this one up to, but not including, the other
abbrev pub Bounds : ℕ → ℕ → Window → Type 0
Bounds base next w = (base ≡ w.base) × (next ≡ next_number w)

-- the entries of a window, by number
abbrev pub entries_text : Notation → ℕ → Window → List ℕ
entries_text notation element w =
    texts_below (λ i. entry_line notation element (w.base + i) (slice_get w.kept i)) (length w.kept)

-- an element and its entries; nothing if it has asked nothing yet
abbrev pub window_text : Notation → ℕ → Option Window → List ℕ
window_text notation element None = []
window_text notation element (Some w) =
    if (w.base == 1) && (length w.kept == 0) then []
    else element_line notation element w.base (length w.kept) ++ entries_text notation element w

-- all blocks, by base
abbrev pub blocks_text : Notation → Contents → List ℕ
blocks_text notation m = texts_below (λ a. block_line notation a (block_at m.cells a)) (length m.cells)

-- all cells that aren't empty, by address
abbrev pub cells_text : Notation → Contents → List ℕ
cells_text notation m = texts_below
    (λ a. cell_line notation a (presence_in (held_at m.cells a)) (waiters_at m.cells a)) (length m.cells)

-- all elements that have asked something, with their entries
abbrev pub elements_text : Notation → Contents → List ℕ
elements_text notation m =
    texts_below (λ element. window_text notation element (slice_get m.windows element)) (length m.windows)

-- the memory
abbrev pub contents_text : Notation → Contents → List ℕ
contents_text notation m = blocks_text notation m ++ cells_text notation m ++ elements_text notation m

-- the header in force, the journal's run and room, and the memory after the run
abbrev pub report_text : Header → ℕ → ℕ → Contents → List ℕ
report_text h run room m = opening_lines h ++ journal_line run room ++ contents_text Lines m
