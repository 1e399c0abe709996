-- What is read of an image: its header in force, the memory that its area shows, its journal, and the memory after the
-- journal. (Own.)
use Rattle.std.specs.Prelude.{◌≡◌, ℕ, ◌≤◌, List, [], length, None, Ok, Err, Result}
use Rattle.im_types.specs.Types.{Refusal, LAST, Contents, Layout, layout_1, layout_named, layout_in_use, Sizes}
use Rattle.im_types.specs.Types.{sizes_of, image_length, ring_of, area_of, Header, header_of, header_fault, layout_in}
use Rattle.im_types.specs.Types.{CellRecord, Records, SpellsArea, Reached, IsShown, Reads, Opens}
use Rattle.{im_journal.specs.Holding.Holds, im_journal.specs.Holding.JournalState, im_records.specs.Rows.AreFirstCells}
use Rattle.im_image.specs.{declared.reading.ImageParts.ImageParts, Headers.seen}
use Rattle.im_image.specs.declared.versions.Versions.{TheVariants.Any, TheVariants.First, TheVariants.InUse, Versions}

-- the journal of this header: the header's version and sizes give its ring, its run begins at the header's count, and
-- nothing is ahead of it
pub record JournalOf (h : Header) (j : JournalState) : Type 0 where
  pub ring : j.ring ≡ ring_of (layout_named h.version) h.sizes
  pub first : j.first ≡ h.count
  pub begun : h.count ≤ j.count
  pub none : j.ahead ≡ []

-- a memory has as many cells and elements as these sizes say
pub record HasSizes (s : Sizes) (m : Contents) : Type 0 where
  pub cells : length m.cells ≡ s.cells
  pub elements : length m.windows ≡ s.elements

-- this is the number of one of the two areas of an image of these sizes, and an honest file has the length of such an
-- image
pub record IsAreaOf (l : Layout) (s : Sizes) (area : ℕ) (Honest : Type 0) (file : List ℕ) : Type 0 where
  pub number : area ≤ 1
  pub long : Honest → length file ≡ image_length l s

-- a row is the first cells of one of the two areas of a file
abbrev pub HasFirstCells : Layout → Sizes → ℕ → List ℕ → List CellRecord → Type 0
HasFirstCells l s area file row = AreFirstCells l s (area_of l s area file) row

-- if the one row is the first cells of an area of a file, so is the other
abbrev pub StayFirstCells : Layout → Sizes → ℕ → List ℕ → List CellRecord → List CellRecord → Type 0
StayFirstCells l s area file old new = HasFirstCells l s area file old → HasFirstCells l s area file new

-- one of the two areas of a file spells these records
abbrev pub HasRecords : Layout → Sizes → ℕ → List ℕ → Records → Type 0
HasRecords l s area file r = SpellsArea l s (area_of l s area file) r

-- a file is sound up to its headers, and this one is in force
pub record HasHeader (h : Header) (file : List ℕ) : Type 0 where
  -- its length and its headers have no fault
  pub good : header_fault (layout_in file) file ≡ None
  pub is : h ≡ header_of file

-- a file is sound up to its area in force, and that shows this memory
pub record HasArea (h : Header) (m : Contents) (file : List ℕ) : Type 0 where
  pub header : HasHeader h file
  pub shown : IsShown (layout_in file) file m

-- a header and a memory whose numbers fit
pub record AreUnder (h : Header) (m : Contents) : Type 0 where
  -- the header is of one of the two areas
  pub area : h.area ≤ 1
  -- its count is in range
  pub last : h.count ≤ LAST
  -- the memory has its sizes
  pub sizes : HasSizes h.sizes m

-- the parts of an image that was read fit each other
pub record AreParts (i : ImageParts) : Type 0 where
  -- the header is of one of the two areas
  pub area : i.header.area ≤ 1
  -- the memory has as many cells and elements as the header says
  pub sizes : HasSizes (sizes_of i.header.limits) i.memory.contents
  -- the journal is the header's
  pub journal : JournalOf (seen i.header) i.journal

-- what an image that was read comes to
abbrev pub reached : ImageParts → Reached
reached i = record { contents = i.memory.contents; count = i.journal.count; room = i.journal.room }

-- the image is what this file is
pub record IsImageOf (file : List ℕ) (i : ImageParts) : Type 0 where
  -- its header is the one in force
  pub header : seen i.header ≡ header_of file
  -- the file holds its journal
  pub holds : Holds i.journal file
  -- reading the file comes to its memory, its count and its room
  pub means : Reads (layout_in file) file (Ok (reached i))

-- the outcome of reading a file, by the versions that are taken: of one in use it is that of opening it
abbrev pub ReadsBy : Versions → List ℕ → Result Reached Refusal → Type 0
ReadsBy Any file outcome = Reads (layout_in file) file outcome
ReadsBy InUse file (Ok r) = Reads layout_in_use file (Ok r)
ReadsBy InUse file (Err e) = Opens file (Err e)
ReadsBy First file outcome = Reads layout_1 file outcome
