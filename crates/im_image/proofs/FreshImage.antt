-- A new image has no fault in its length and its headers, and its area in force shows the empty memory.
use Rattle.std.proofs.Common.{◌≡◌, ℕ, zero, suc, ◌+◌, ◌-◌, ◌*◌, ◌≤◌, Bool, true, not, ◌&&◌, List, ◌∷◌, ◌++◌, length}
use Rattle.std.proofs.Common.{take, drop, if◌then◌else◌, nat_lt, nat_le, ◌==◌, slice_range, Some, None, Option, sym}
use Rattle.std.proofs.Common.{refl, ap, ◌∙◌, subst, append_assoc, arith, length-append, drop-drop, take_at, drop_at}
use Rattle.im_types.specs.Types.{Refusal, WrongLength, BadHeader, MAX_CELLS, MAX_ELEMENTS, MIN_SLOTS, MAX_SLOTS}
use Rattle.im_types.specs.Types.{AreLimits, empty_contents, IsMemory, layout_in_use, Sizes, are_sizes, area_bytes}
use Rattle.im_types.specs.Types.{image_length, area_of, zeros, Header, header_body, header_in, spells_header}
use Rattle.im_types.specs.Types.{header_place, place_in_force as place_of, place_fault, header_of, or_else}
use Rattle.im_types.specs.Types.{header_fault, Shows, IsShown}
use Rattle.im_formats.{proofs.Headers.header_in-spelled, proofs.Headers.spells_header-spelled, specs.Fitting.FitsHeader}
use Rattle.im_image.proofs.FreshArea.{length-area, length-zeros, new_area_shows}
use Rattle.im_image.proofs.{Headers.le_is, Headers.same_itself, ImageStart.long}
use Rattle.im_image.specs.Fresh.{new_area, new_header, new_image}

abbrev first : Sizes → List ℕ
first s = 0xA5 ∷ header_body (new_header s)

abbrev rest : Sizes → List ℕ
rest s = zeros (area_bytes layout_in_use s + 64 * s.slots)

zeros-more : (a b : ℕ) → zeros (a + b) ≡ zeros a ++ zeros b
zeros-more zero b = ap (λ (n : ℕ). zeros n) (plain b)
  where
    plain : (n : ℕ) → 0 + n ≡ n
    plain n = omega arith
zeros-more (suc a) b = ap (λ (n : ℕ). zeros n) (next a b) ∙ ap (λ (l : List ℕ). 0 ∷ l) (zeros-more a b)
  where
    next : (m n : ℕ) → suc m + n ≡ suc (m + n)
    next m n = omega arith

-- the image, its first part apart
apart : (s : Sizes) → new_image 0xA5 s ≡ first s ++ (zeros 8128 ++ (new_area s ++ rest s))
apart s =
    append_assoc (first s ++ zeros 8128) (new_area s) (rest s)
    ∙ append_assoc (first s) (zeros 8128) (new_area s ++ rest s)

first_place : (s : Sizes) → header_place 0 (new_image 0xA5 s) ≡ first s
first_place s = ap (λ (l : List ℕ). header_place 0 l) (apart s)
    ∙ take_at (first s) (zeros 8128 ++ (new_area s ++ rest s)) 64 refl

second_place : (s : Sizes) → header_place 1 (new_image 0xA5 s) ≡ zeros 64
second_place s =
    ap (λ (l : List ℕ). take 64 (drop 4096 l))
    (apart s ∙ ap (λ (z : List ℕ). first s ++ (z ++ (new_area s ++ rest s))) (zeros-more 4032 4096))
    ∙ ap (λ (l : List ℕ). take 64 l)
    (sym (drop-drop 4032 64 (first s ++ ((zeros 4032 ++ zeros 4096) ++ (new_area s ++ rest s)))))
    ∙ ap (λ (l : List ℕ). take 64 (drop 4032 l))
    (drop_at (first s) ((zeros 4032 ++ zeros 4096) ++ (new_area s ++ rest s)) 64 refl)
    ∙ ap (λ (l : List ℕ). take 64 (drop 4032 l)) (append_assoc (zeros 4032) (zeros 4096) (new_area s ++ rest s))
    ∙ ap (λ (l : List ℕ). take 64 l)
    (drop_at (zeros 4032) (zeros 4096 ++ (new_area s ++ rest s)) 4032 (length-zeros 4032))
    ∙ ap (λ (z : List ℕ). take 64 (z ++ (new_area s ++ rest s))) (zeros-more 64 4032)
    ∙ ap (λ (l : List ℕ). take 64 l) (append_assoc (zeros 64) (zeros 4032) (new_area s ++ rest s))
    ∙ take_at (zeros 64) (zeros 4032 ++ (new_area s ++ rest s)) 64 refl

new_header_fits : (s : Sizes) → AreLimits s.cells s.elements s.slots → FitsHeader (new_header s)
new_header_fits s limits = record {
  version = omega arith;
  generation = omega arith;
  count = omega arith;
  cells = omega (arith, limits.few_cells);
  elements = omega (arith, limits.few_elements);
  slots = omega (arith, limits.few_slots);
}

pub sizes_are : (s : Sizes) → AreLimits s.cells s.elements s.slots → are_sizes layout_in_use s ≡ true
sizes_are s limits =
    ap (λ (b : Bool). b && nat_le s.cells MAX_CELLS && nat_le 1 s.elements && nat_le s.elements MAX_ELEMENTS
    && nat_le MIN_SLOTS s.slots && nat_le s.slots MAX_SLOTS) (le_is 1 s.cells limits.some_cell)
    ∙ ap (λ (b : Bool). b && nat_le 1 s.elements && nat_le s.elements MAX_ELEMENTS && nat_le MIN_SLOTS s.slots
    && nat_le s.slots MAX_SLOTS) (le_is s.cells MAX_CELLS limits.few_cells)
    ∙ ap (λ (b : Bool). b && nat_le s.elements MAX_ELEMENTS && nat_le MIN_SLOTS s.slots && nat_le s.slots MAX_SLOTS)
    (le_is 1 s.elements limits.some_element)
    ∙ ap (λ (b : Bool). b && nat_le MIN_SLOTS s.slots && nat_le s.slots MAX_SLOTS)
    (le_is s.elements MAX_ELEMENTS limits.few_elements)
    ∙ ap (λ (b : Bool). b && nat_le s.slots MAX_SLOTS) (le_is MIN_SLOTS s.slots limits.enough_slots)
    ∙ le_is s.slots MAX_SLOTS limits.few_slots

first_spelled : (s : Sizes) → AreLimits s.cells s.elements s.slots → spells_header layout_in_use 0 (first s) ≡ true
first_spelled s limits = spells_header-spelled layout_in_use 0 0xA5 (new_header s) (new_header_fits s limits)
    (sizes_are s limits)

new_places : (s : Sizes) → AreLimits s.cells s.elements s.slots → place_fault layout_in_use (first s) (zeros 64) ≡ None
new_places s limits = ap (λ (b : Bool). if not b then Some BadHeader else None) (first_spelled s limits)

pub length-image : (s : Sizes) → length (new_image 0xA5 s) ≡ image_length layout_in_use s
length-image s = omega (
  arith,
  length-append (first s ++ zeros 8128 ++ new_area s) (rest s),
  length-append
      (first s ++ zeros 8128) (new_area s),
  length-append (first s)
      (zeros 8128),
  length-area s,
  length-zeros 8128,
  length-zeros (area_bytes layout_in_use s + 64 * s.slots),
)

-- the image has its header in force
pub new_header_of : (s : Sizes) → AreLimits s.cells s.elements s.slots → header_of (new_image 0xA5 s) ≡ new_header s
new_header_of s limits =
    ap (λ (l : List ℕ). header_in (place_of l (header_place 1 (new_image 0xA5 s)))) (first_place s)
    ∙ ap (λ (l : List ℕ). header_in (place_of (first s) l)) (second_place s)
    ∙ header_in-spelled 0xA5 (new_header s) (new_header_fits s limits)

abbrev fault_of : ℕ → List ℕ → List ℕ → Option Refusal
fault_of n first second = if nat_lt n 8192 then Some WrongLength else or_else
    (place_fault layout_in_use first second)
    (if n == image_length layout_in_use (header_in (place_of first second)).sizes then None else Some WrongLength)

pub new_image_good : (s : Sizes) → AreLimits s.cells s.elements s.slots
    → header_fault layout_in_use (new_image 0xA5 s) ≡ None
new_image_good s limits =
    let n : ℕ = length (new_image 0xA5 s) in
    let enough : 8192 ≤ length (new_image 0xA5 s) = omega (arith, length-image s) in
    let is : (header_in (first s)).sizes
    ≡ s = ap (λ (h : Header). h.sizes) (header_in-spelled 0xA5 (new_header s) (new_header_fits s limits)) in
    ap (λ (l : List ℕ). fault_of n l (header_place 1 (new_image 0xA5 s))) (first_place s)
    ∙ ap (λ (l : List ℕ). fault_of n (first s) l) (second_place s)
    ∙ ap (λ (b : Bool). if b then Some WrongLength else or_else (place_fault layout_in_use (first s) (zeros 64))
    (if n == image_length layout_in_use (header_in (first s)).sizes then None else Some WrongLength))
    (long n enough)
    ∙ ap (λ (f : Option Refusal). or_else f
    (if n == image_length layout_in_use (header_in (first s)).sizes then None else Some WrongLength))
    (new_places s limits)
    ∙ ap (λ (z : Sizes). if n == image_length layout_in_use z then None else Some WrongLength) is
    ∙ ap (λ (b : Bool). if b then None else Some WrongLength)
    (same_itself n (image_length layout_in_use s) (length-image s))

-- the area of the header in force is the new one
pub area_in_place : (s : Sizes) → area_of layout_in_use s 0 (new_image 0xA5 s) ≡ new_area s
area_in_place s =
    ap (λ (at : ℕ). slice_range (new_image 0xA5 s) at (at + area_bytes layout_in_use s))
    (begins (area_bytes layout_in_use s))
    ∙ ap (λ (k : ℕ). take k (drop 8192 (new_image 0xA5 s))) (less 8192 (area_bytes layout_in_use s))
    ∙ ap (λ (l : List ℕ). take (area_bytes layout_in_use s) (drop 8192 l))
    (append_assoc (first s ++ zeros 8128) (new_area s) (rest s))
    ∙ ap (λ (l : List ℕ). take (area_bytes layout_in_use s) l)
    (drop_at (first s ++ zeros 8128) (new_area s ++ rest s) 8192 front)
    ∙ take_at (new_area s) (rest s) (area_bytes layout_in_use s) (length-area s)
  where
    begins : (n : ℕ) → 2 * 4096 + n * 0 ≡ 8192
    begins n = omega arith

    less : (a b : ℕ) → (a + b) - a ≡ b
    less a b = omega arith

    front : length (first s ++ zeros 8128) ≡ 8192
    front = omega (arith, length-append (first s) (zeros 8128), length-zeros 8128)

pub new_image_shows : (s : Sizes) → AreLimits s.cells s.elements s.slots
    → IsMemory s.cells s.elements (empty_contents s.cells s.elements)
    → IsShown layout_in_use (new_image 0xA5 s) (empty_contents s.cells s.elements)
new_image_shows s limits memory =
    subst (λ (h : Header). Shows layout_in_use h.sizes (area_of layout_in_use h.sizes h.area (new_image 0xA5 s))
    (empty_contents s.cells s.elements)) (sym (new_header_of s limits))
    (subst (λ (l : List ℕ). Shows layout_in_use s l (empty_contents s.cells s.elements)) (sym (area_in_place s))
    (new_area_shows s memory))
