-- Parts of files that agree but for a range, and areas by their pages.
use Rattle.std.proofs.Common.{◌≡◌, ℕ, ◌+◌, ◌-◌, ◌*◌, ◌<◌, ◌≤◌, ◌⊎◌, List, length, get_or, drop, slice_range, sym, refl}
use Rattle.std.proofs.Common.{ap, ◌∙◌, inl, inr, ⊎_elim, arith, length-drop, length-take, get_or-drop, get_or-take}
use Rattle.std.proofs.Common.{ext_get_or}
use Rattle.{im_types.specs.Types.record_at, im_disk.specs.Moment.overlaid, im_disk.specs.Since.SameBut}
use Rattle.im_disk.proofs.OverlayLemmas.{length-overlaid, overlaid_inside, overlaid_outside}

-- files that agree but for a range

pub same_all : (at n : ℕ) (c : List ℕ) → SameBut at n c c
same_all at n c = record { size = refl; same = λ i out. refl }

pub same_back : (at n : ℕ) (c d : List ℕ) → SameBut at n c d → SameBut at n d c
same_back at n c d but = record { size = sym but.size; same = λ i out. sym (but.same i out) }

-- within a greater range
pub same_wider : (at n from many : ℕ) (c d : List ℕ) → SameBut at n c d → from ≤ at → at + n ≤ from + many
    → SameBut from many c d
same_wider at n from many c d but low high = record {
  size = but.size;
  same = λ i out. but.same i (⊎_elim (λ below. inl (omega arith)) (λ above. inr (omega arith)) out);
}

pub same_then : (at n : ℕ) (c d e : List ℕ) → SameBut at n c d → SameBut at n d e → SameBut at n c e
same_then at n c d e first second = record {
  size = second.size ∙ first.size;
  same = λ i out. second.same i out
      ∙ first.same i out;
}

pub same_overlaid : (c : List ℕ) (at : ℕ) (bytes : List ℕ) → at + length bytes ≤ length c
    → SameBut at (length bytes) c (overlaid c at bytes)
same_overlaid c at bytes fits =
    record { size = length-overlaid c at bytes fits; same = λ i out. overlaid_outside c at bytes fits i out }

-- parts of a file

pub range_byte : (c : List ℕ) (a b i : ℕ) → i < b - a → get_or (slice_range c a b) i 0 ≡ get_or c (a + i) 0
range_byte c a b i low = get_or-take (b - a) (drop a c) i 0 low ∙ get_or-drop a c i 0

pub range_length : (c : List ℕ) (a b : ℕ) → a ≤ b → b ≤ length c → length (slice_range c a b) ≡ b - a
range_length c a b low high = omega (arith, length-take (b - a) (drop a c), length-drop a c)

-- a part outside the range is the same
pub range_outside : (at n a b : ℕ) (c d : List ℕ) → SameBut at n c d → a ≤ b → b ≤ length c → (b ≤ at) ⊎ (at + n ≤ a)
    → slice_range d a b ≡ slice_range c a b
range_outside at n a b c d but order fits apart = ext_get_or 0 (slice_range d a b) (slice_range c a b)
    (range_length d a b order (omega (arith, but.size, fits)) ∙ sym (range_length c a b order fits))
    (λ i lt. let low : i < b - a = omega (arith, range_length d a b order (omega (arith, but.size, fits))) in
    range_byte d a b i low
    ∙ but.same (a + i) (⊎_elim (λ le. inl (omega arith)) (λ ge. inr (omega arith)) apart)
    ∙ sym (range_byte c a b i low))

-- a part that was written
pub range_written : (c : List ℕ) (at : ℕ) (bytes : List ℕ) (b : ℕ) → b ≡ at + length bytes → b ≤ length c
    → slice_range (overlaid c at bytes) at b ≡ bytes
range_written c at bytes b is fits =
    let inside : at + length bytes ≤ length c = omega (arith, is, fits) in
    let size : length (slice_range (overlaid c at bytes) at b) ≡ length bytes =
    omega (
      arith,
      range_length (overlaid c at bytes) at b (omega (arith, is))
          (omega (arith, fits, length-overlaid c at bytes inside)),
      is,
    ) in
    ext_get_or 0 (slice_range (overlaid c at bytes) at b) bytes size
    (λ i lt. let low : i < length bytes = omega (arith, size, lt) in
    range_byte (overlaid c at bytes) at b i (omega (arith, is, low))
    ∙ overlaid_inside c at bytes inside (at + i) (omega arith) (omega (arith, low))
    ∙ ap (λ (k : ℕ). get_or bytes k 0) (omega arith))

-- pages of an area

pub page_of_area : (c : List ℕ) (a pages p : ℕ) → p < pages → a + 4096 * pages ≤ length c
    → record_at 4096 (slice_range c a (a + 4096 * pages)) p ≡ slice_range c (a + 4096 * p) (a + 4096 * p + 4096)
page_of_area c a pages p low fits =
    let area : List ℕ = slice_range c a (a + 4096 * pages) in
    let size : length area ≡ (a + 4096 * pages) - a = range_length c a (a + 4096 * pages) (omega arith) fits in
    let whole : length (slice_range area (4096 * p) (4096 * p + 4096))
    ≡ (4096 * p + 4096) - 4096 * p = range_length area (4096 * p) (4096 * p + 4096) (omega arith)
    (omega (arith, size, low)) in
    let part : length (slice_range c (a + 4096 * p) (a + 4096 * p + 4096))
    ≡ (a + 4096 * p + 4096) - (a + 4096 * p) = range_length c (a + 4096 * p) (a + 4096 * p + 4096) (omega arith)
    (omega (arith, fits, low)) in
    ext_get_or 0 (slice_range area (4096 * p) (4096 * p + 4096)) (slice_range c (a + 4096 * p) (a + 4096 * p + 4096))
    (omega (arith, whole, part))
    (λ i lt. let short : i < 4096 = omega (arith, lt, whole) in
    range_byte area (4096 * p) (4096 * p + 4096) i (omega (arith, short))
    ∙ range_byte c a (a + 4096 * pages) (4096 * p + i) (omega (arith, short, low))
    ∙ ap (λ (k : ℕ). get_or c k 0) (omega arith)
    ∙ sym (range_byte c (a + 4096 * p) (a + 4096 * p + 4096) i (omega (arith, short))))
