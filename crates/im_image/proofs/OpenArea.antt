-- What the area of a header in force shows.
use Rattle.std.proofs.Common.{◌≡◌, ℕ, ◌+◌, ◌-◌, ◌≤◌, Bool, true, false, List, length, take, drop, if◌then◌else◌, nat_lt}
use Rattle.std.proofs.Common.{◌==◌, slice_range, Some, None, Option, sym, refl, ap, ◌∙◌, subst, arith, take-take}
use Rattle.std.proofs.Common.{drop-drop}
use Rattle.std.proofs.lemmas.List.{drop-take}
use Rattle.im_types.specs.Types.{Refusal, WrongLength, Contents, Layout, Sizes, area_bytes, area_at, image_length}
use Rattle.im_types.specs.Types.{area_of, Header, header_place, place_fault, header_of, or_else, header_fault, Shows}
use Rattle.im_types.specs.Types.{IsShown}
use Rattle.im_laws.proofs.Tests.{eq_by_test}

-- what a file shows, the area of its header in force shows
pub shown-in : (l : Layout) (h : Header) (file area : List ℕ) (m : Contents) → h ≡ header_of file → area
    ≡ area_of l h.sizes h.area file → IsShown l file m → Shows l h.sizes area m
shown-in l h file area m is read shown =
    subst (λ (a : List ℕ). Shows l h.sizes a m) (sym read)
    (subst (λ (k : Header). Shows l k.sizes (area_of l k.sizes k.area file) m) (sym is) shown)

-- an image without fault has the length that its header says
pub length_of_image : (l : Layout) (file : List ℕ) → header_fault l file ≡ None → length file
    ≡ image_length l (header_of file).sizes
length_of_image l file good = by_length (nat_lt (length file) 8192) refl
  where
    none_some : (e : Refusal) → Some e ≡ None → ⊥
    none_some e h = cc

    rest : Bool → Option Refusal
    rest b = if b then None else Some WrongLength

    by_same : (b : Bool) → (length file == image_length l (header_of file).sizes) ≡ b → rest b ≡ None → length file
        ≡ image_length l (header_of file).sizes
    by_same true is none = eq_by_test (length file) (image_length l (header_of file).sizes) is
    by_same false is none = absurd (none_some WrongLength none)

    by_places : (f : Option Refusal) → or_else f (rest (length file == image_length l (header_of file).sizes)) ≡ None
        → length file ≡ image_length l (header_of file).sizes
    by_places None none = by_same (length file == image_length l (header_of file).sizes) refl none
    by_places (Some e) none = absurd (none_some e none)

    by_length : (b : Bool) → nat_lt (length file) 8192 ≡ b → length file ≡ image_length l (header_of file).sizes
    by_length true is = absurd
        (none_some WrongLength
        (sym (ap (λ (b : Bool). if b then Some WrongLength else or_else
        (place_fault l (header_place 0 file) (header_place 1 file))
        (rest (length file == image_length l (header_of file).sizes))) is) ∙ good))
    by_length false is = by_places (place_fault l (header_place 0 file) (header_place 1 file))
        (sym (ap (λ (b : Bool). if b then Some WrongLength else or_else
        (place_fault l (header_place 0 file) (header_place 1 file))
        (rest (length file == image_length l (header_of file).sizes))) is) ∙ good)

pub length_by : (l : Layout) (h : Header) (file : List ℕ) → header_fault l file ≡ None → h ≡ header_of file
    → length file ≡ image_length l h.sizes
length_by l h file good is = length_of_image l file good ∙ ap (λ (k : Header). image_length l k.sizes) (sym is)

-- a part of an area, by its place in the file
pub part_of_area : (l : Layout) (s : Sizes) (begin also number at n : ℕ) (file : List ℕ) → begin ≡ area_at l s also
    → also ≡ number → at + n ≤ area_bytes l s → take n (drop (begin + at) file)
    ≡ take n (drop at (area_of l s number file))
part_of_area l s begin also number at n file is same inside = ap (λ (k : ℕ). take n (drop (k + at) file))
    (is ∙ ap (area_at l s) same) ∙ part_of_range (area_at l s number) (area_bytes l s) at n file inside
  where
    enough : (a b c : ℕ) → a + b ≤ c → b ≤ c - a
    enough a b c le = omega arith

    parted : (p a b c : ℕ) → a + b ≤ c → a + (c - a) ≡ (p + c) - p
    parted p a b c le = omega arith

    part_of_range : (a bytes at n : ℕ) (file : List ℕ) → at + n ≤ bytes → take n (drop (a + at) file)
        ≡ take n (drop at (slice_range file a (a + bytes)))
    part_of_range a bytes at n file inside =
        ap (take n) (sym (drop-drop at a file))
        ∙ sym (take-take n (bytes - at) (drop at (drop a file)) (enough at n bytes inside))
        ∙ ap (take n) (sym (drop-take at (bytes - at) (drop a file)))
        ∙ ap (λ (k : ℕ). take n (drop at (take k (drop a file)))) (parted a at n bytes inside)
