-- A header reads back what it spells.
use Rattle.std.proofs.Common.{◌≡◌, ℕ, ◌^◌, ◌<◌, Bool, true, ◌&&◌, List, [], ◌∷◌, ◌++◌, slice_range, refl, ap, ◌∙◌}
use Rattle.byteorder.specs.{Endian.little_bytes, Endian.little_number, Numbers.little_number-reads_back}
use Rattle.im_types.specs.Types.{Layout, same_bytes, Header, header_body, header_in, is_header, spells_header}
use Rattle.im_formats.proofs.Same.{both_true, same_bytes_self, same_bytes_true}
use Rattle.im_formats.specs.Fitting.{FitsHeader}

abbrev made : ℕ → ℕ → ℕ → ℕ → ℕ → ℕ → ℕ → Header
made area version generation count cells elements slots = record { version = version; area = area; generation = generation; count = count; sizes = record { cells = cells; elements = elements; slots = slots } }

reads : (n x : ℕ) → x < 256 ^ n → little_number n (little_bytes n x ++ []) ≡ x
reads n x fits = little_number-reads_back n x [] fits

pub header_in-spelled : (gate : ℕ) (h : Header) → FitsHeader h → header_in (gate ∷ header_body h) ≡ h
header_in-spelled gate h fits =
    ap (λ (n : ℕ). made h.area n (little_number 8 (little_bytes 8 h.generation ++ []))
    (little_number 8 (little_bytes 8 h.count ++ [])) (little_number 4 (little_bytes 4 h.sizes.cells ++ []))
    (little_number 2 (little_bytes 2 h.sizes.elements ++ []))
    (little_number 4 (little_bytes 4 h.sizes.slots ++ []))) (reads 2 h.version fits.version)
    ∙ ap (λ (n : ℕ). made h.area h.version n (little_number 8 (little_bytes 8 h.count ++ []))
    (little_number 4 (little_bytes 4 h.sizes.cells ++ []))
    (little_number 2 (little_bytes 2 h.sizes.elements ++ []))
    (little_number 4 (little_bytes 4 h.sizes.slots ++ []))) (reads 8 h.generation fits.generation)
    ∙ ap (λ (n : ℕ). made h.area h.version h.generation n (little_number 4 (little_bytes 4 h.sizes.cells ++ []))
    (little_number 2 (little_bytes 2 h.sizes.elements ++ []))
    (little_number 4 (little_bytes 4 h.sizes.slots ++ []))) (reads 8 h.count fits.count)
    ∙ ap (λ (n : ℕ). made h.area h.version h.generation h.count n
    (little_number 2 (little_bytes 2 h.sizes.elements ++ []))
    (little_number 4 (little_bytes 4 h.sizes.slots ++ []))) (reads 4 h.sizes.cells fits.cells)
    ∙ ap (λ (n : ℕ). made h.area h.version h.generation h.count h.sizes.cells n
    (little_number 4 (little_bytes 4 h.sizes.slots ++ []))) (reads 2 h.sizes.elements fits.elements)
    ∙ ap (λ (n : ℕ). made h.area h.version h.generation h.count h.sizes.cells h.sizes.elements n)
    (reads 4 h.sizes.slots fits.slots)

spells_as : (l : Layout) (number : ℕ) (bytes : List ℕ) (h : Header) → header_in bytes ≡ h → slice_range bytes 1 64
    ≡ header_body h → is_header l number h ≡ true → spells_header l number bytes ≡ true
spells_as l number bytes h is body good =
    ap (λ (k : Header). same_bytes (slice_range bytes 1 64) (header_body k) && is_header l number k) is
    ∙ ap (λ (b : List ℕ). same_bytes b (header_body h) && is_header l number h) body
    ∙ ap (λ (b : Bool). b && is_header l number h) (same_bytes_self (header_body h))
    ∙ good

pub spells_header-spelled : (l : Layout) (number gate : ℕ) (h : Header) → FitsHeader h → is_header l number h ≡ true
    → spells_header l number (gate ∷ header_body h) ≡ true
spells_header-spelled l number gate h fits good = spells_as l number (gate ∷ header_body h) h
    (header_in-spelled gate h fits) refl good

pub spells_header-only : (l : Layout) (number : ℕ) (bytes : List ℕ) → spells_header l number bytes ≡ true
    → (slice_range bytes 1 64 ≡ header_body (header_in bytes)) × (is_header l number (header_in bytes) ≡ true)
spells_header-only l number bytes e =
    let both = both_true (same_bytes (slice_range bytes 1 64) (header_body (header_in bytes)))
    (is_header l number (header_in bytes)) e in
    (same_bytes_true (slice_range bytes 1 64) (header_body (header_in bytes)) both.0, both.1)
