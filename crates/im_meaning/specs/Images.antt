-- The parts of an image: which header is in force, what its pages show, what its journal has. (Own.)
use Rattle.std.specs.Prelude.{◌≡◌, ℕ, ◌+◌, ◌-◌, ◌*◌, ◌<◌, ◌≤◌, true, false, ◌⊎◌, List, length, drop, slice_range, Some}
use Rattle.im_types.specs.Types.{Command, Contents, Layout, area_bytes, area_at, image_length, ring_of, area_of, Header}
use Rattle.im_types.specs.Types.{header_body, header_in, is_header, spells_header, header_place, is_open_header}
use Rattle.im_types.specs.Types.{generation_in, IsBoundary, tail, Shows, Reached, accept_in}
use Rattle.im_formats.specs.Fitting.{FitsHeader}

-- the number of the other header, and of the other area
abbrev pub other : Header → ℕ
other h = 1 - h.area

-- a header place is closed, or of a lower generation
abbrev pub IsBelow : ℕ → List ℕ → Type 0
IsBelow generation place = (is_open_header place ≡ false) ⊎ (generation_in place < generation)

-- this header is in force, and the file's length and headers have no fault
pub record InForce (l : Layout) (h : Header) (file : List ℕ) : Type 0 where
  pub number : h.area ≤ 1
  pub size : length file ≡ image_length l h.sizes
  pub opened : is_open_header (header_place h.area file) ≡ true
  pub fields : header_in (header_place h.area file) ≡ h
  pub spelled : spells_header l h.area (header_place h.area file) ≡ true
  pub below : IsBelow h.generation (header_place (other h) file)

-- an image: the header in force, the memory that its pages show, the commands of its journal and the room behind them
pub record IsImage (l : Layout) (h : Header) (shown : Contents) (commands : List Command) (room : ℕ)
    (file : List ℕ) : Type 0 where
  pub in_force : InForce l h file
  pub shows : Shows l h.sizes (area_of l h.sizes h.area file) shown
  pub journal : tail (ring_of l h.sizes) h.count file ≡ Some (record { commands = commands; room = room })

-- whatever image of this header the first file is, the second one is too
abbrev pub KeepsImage : Layout → Header → List ℕ → List ℕ → Type 0
KeepsImage l h c d =
    (shown : Contents) (commands : List Command) (room : ℕ) → IsImage l h shown commands room c
    → IsImage l h shown commands room d

-- n bytes at this offset lie in the area that isn't in force
pub record LieInOtherArea (l : Layout) (h : Header) (at n : ℕ) : Type 0 where
  pub from : area_at l h.sizes (other h) ≤ at
  pub to : at + n ≤ area_at l h.sizes (other h) + area_bytes l h.sizes

-- n bytes at this offset lie in the other header, behind its gate
pub record LieBehindOtherGate (h : Header) (at n : ℕ) : Type 0 where
  pub from : 4096 * other h + 1 ≤ at
  pub to : at + n ≤ 4096 * other h + 64

-- a header that may follow this one: of the other area, of a later generation, and within its bounds
pub record Follows (l : Layout) (h next : Header) : Type 0 where
  pub area : next.area ≡ other h
  pub later : h.generation < next.generation
  pub sizes : next.sizes ≡ h.sizes
  pub fits : FitsHeader next
  pub good : is_header l next.area next ≡ true

-- the other header's place is closed and has the body of the next header, and the other area shows its memory
pub record IsPrepared (l : Layout) (h next : Header) (shown : Contents) (file : List ℕ) : Type 0 where
  pub closed : is_open_header (header_place (other h) file) ≡ false
  pub body : slice_range (header_place (other h) file) 1 64 ≡ header_body next
  pub shows : Shows l h.sizes (area_of l h.sizes (other h) file) shown

-- the file is an image that reads as this
pub record IsRead (l : Layout) (file : List ℕ) (reached : Reached) : Type 0 where
  pub header : Header
  pub shown : Contents
  pub commands : List Command
  pub image : IsImage l header shown commands reached.room file
  pub accepts : accept_in l shown commands ≡ Some reached.contents
  pub count : reached.count ≡ header.count + length commands

-- The file is an image, and the next header is prepared in it. That header's area holds k more of the journal's
-- commands, and no group goes on behind them.
pub record Turnover (l : Layout) (h next : Header) (file : List ℕ) : Type 0 where
  pub shown : Contents
  pub after : Contents
  pub commands : List Command
  pub room : ℕ
  pub k : ℕ
  pub image : IsImage l h shown commands room file
  pub some : 0 < h.sizes.slots
  pub follows : Follows l h next
  pub prepared : IsPrepared l h next after file
  pub count : next.count ≡ h.count + k
  pub boundary : IsBoundary (ring_of l h.sizes) h.count k file

-- the header in force stays, and so does its image
abbrev pub StaysInForce : (l : Layout) (h next : Header) (c : List ℕ) → Turnover l h next c → List ℕ → Type 0
StaysInForce l h next c t d = IsImage l h t.shown t.commands t.room d

-- the next header is in force, and the commands that its area holds are no longer in the journal
abbrev pub IsTurned : (l : Layout) (h next : Header) (c : List ℕ) → Turnover l h next c → List ℕ → Type 0
IsTurned l h next c t d = IsImage l next t.after (drop t.k t.commands) t.room d
