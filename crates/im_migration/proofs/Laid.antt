-- What stands in the first area and in the journal's gates, as they are written.
use Rattle.std.proofs.Common.{◌≡◌, ℕ, ◌+◌, ◌-◌, ◌*◌, ◌<◌, ◌≤◌, ◌⊎◌, List, [], ◌∷◌, length, get_or, take, drop, sym}
use Rattle.std.proofs.Common.{refl, ap, ◌∙◌, subst, inl, inr, ⊎_elim, arith, length-drop, length-take, get_or-drop}
use Rattle.std.proofs.Common.{get_or-take, ext_get_or}
use Rattle.std.proofs.lemmas.Bool.{cases_lt}
use Rattle.im_types.specs.Types.{layout_in_use, Sizes, page_bytes, area_pages, journal_at, image_length, record_at}
use Rattle.im_types.specs.Types.{open_gate, Records}
use Rattle.im_disk.proofs.OverlayLemmas.{length-overlaid, overlaid_inside, overlaid_outside}
use Rattle.{im_disk.specs.Moment.overlaid, im_disk.specs.Since.SameBut, im_image.specs.Encoding.IsAreaPage}
use Rattle.im_records.proofs.{Pieces.record_is, Places.here_is}
use Rattle.im_migration.specs.Laying.{IsLaid}

-- a part of so many bytes that was written
pub but_part : (c : List ℕ) (at n : ℕ) (part : List ℕ) → length part ≡ n → at + n ≤ length c
    → SameBut at n c (overlaid c at part)
but_part c at n part long fits = subst (λ (k : ℕ). SameBut at k c (overlaid c at part)) long
    (record {
      size = length-overlaid c at part
          (omega (arith, long, fits));
      same = λ i out. overlaid_outside c at part (omega (arith, long, fits)) i out;
    })

-- a page outside the range
page_stays : (at n k : ℕ) (c d : List ℕ) → SameBut at n c d → (page_bytes * k + page_bytes ≤ at)
    ⊎ (at + n ≤ page_bytes * k) → record_at page_bytes d k ≡ record_at page_bytes c k
page_stays at n k c d but apart =
    record_is page_bytes k d
    ∙ ext_get_or 0 (take page_bytes (drop (page_bytes * k) d)) (take page_bytes (drop (page_bytes * k) c))
    (omega (
      arith,
      length-take page_bytes (drop (page_bytes * k) d),
      length-take page_bytes
          (drop (page_bytes * k) c),
      length-drop (page_bytes * k) d,
      length-drop (page_bytes * k) c,
      but.size,
    ))
    (λ i lt. let low : i < page_bytes = omega (arith, length-take page_bytes (drop (page_bytes * k) d), lt) in
    get_or-take page_bytes (drop (page_bytes * k) d) i 0 low ∙ get_or-drop (page_bytes * k) d i 0
    ∙ but.same (page_bytes * k + i)
    (⊎_elim (λ before. inl (omega (arith, before, low))) (λ behind. inr (omega (arith, behind))) apart)
    ∙ sym (get_or-drop (page_bytes * k) c i 0) ∙ sym (get_or-take page_bytes (drop (page_bytes * k) c) i 0 low))
    ∙ sym (record_is page_bytes k c)

-- where the journal begins, in pages
pub journal_is : (s : Sizes) → journal_at layout_in_use s
    ≡ page_bytes * (2 + area_pages layout_in_use s) + page_bytes * area_pages layout_in_use s
journal_is s = omega arith

pub length_is : (s : Sizes) → image_length layout_in_use s ≡ journal_at layout_in_use s + 64 * s.slots
length_is s = refl

module _ (s : Sizes) (r : Records) where
  -- what is written elsewhere leaves what was laid down
  pub laid_stays : (pages slots at n : ℕ) (c d : List ℕ) → pages ≤ area_pages layout_in_use s
      → at + n ≤ page_bytes * 2 → SameBut at n c d → IsLaid s r pages slots c → IsLaid s r pages slots d
  laid_stays pages slots at n c d few low but it = record {
    size = but.size ∙ it.size;
    paged = λ i lt. subst (IsAreaPage s r i) (sym (page_stays at n (2 + i) c d but (inr (omega (arith, low)))))
        (it.paged i lt);
    closed = λ i lt is. it.closed i lt
        (sym (but.same (journal_at layout_in_use s + 64 * i) (inr (omega (arith, low, journal_is s)))) ∙ is);
  }

  -- the next page
  pub laid_page : (i at : ℕ) (page c : List ℕ) → at ≡ page_bytes * (2 + i) → length page ≡ page_bytes
      → i < area_pages layout_in_use s → IsAreaPage s r i page → IsLaid s r i 0 c
      → IsLaid s r (i + 1) 0 (overlaid c at page)
  laid_page i at page c at_is long few here it = record {
    size = but.size ∙ it.size;
    paged = λ k lt. ⊎_elim
        (λ (before : k < i). subst (IsAreaPage s r k)
        (sym (page_stays at page_bytes (2 + k) c (overlaid c at page) but (inl (omega (arith, before, at_is)))))
        (it.paged k before))
        (λ (from : i ≤ k). let same : i
        ≡ k = omega (arith, from, lt) in subst
        (λ (j : ℕ). IsAreaPage s r j (record_at page_bytes (overlaid c at page) (2 + j))) same
        (subst (IsAreaPage s r i) (sym there) here))
        (cases_lt k i);
    closed = λ k lt. absurd (omega (arith, lt));
  }
    where
      room : page_bytes * (2 + i) + page_bytes ≤ length c
      room = omega (arith, it.size, few, journal_is s, length_is s)

      but : SameBut at page_bytes c (overlaid c at page)
      but = but_part c at page_bytes page long (omega (arith, at_is, room))

      there : record_at page_bytes (overlaid c at page) (2 + i) ≡ page
      there = here_is page_bytes (2 + i) page c (overlaid c at page) long room (ap (λ (n : ℕ). overlaid c n page) at_is)

  -- the gate of the next slot
  pub laid_slot : (i at : ℕ) (c : List ℕ) → at ≡ journal_at layout_in_use s + 64 * i → i < s.slots
      → IsLaid s r (area_pages layout_in_use s) i c
      → IsLaid s r (area_pages layout_in_use s) (i + 1) (overlaid c at (0 ∷ []))
  laid_slot i at c at_is few it = record {
    size = but.size ∙ it.size;
    paged = λ k lt. subst (IsAreaPage s r k)
        (sym (page_stays at 1 (2 + k) c (overlaid c at (0 ∷ [])) but (inl (omega (arith, lt, at_is, journal_is s)))))
        (it.paged k lt);
    closed = λ k lt is. ⊎_elim
        (λ (before : k < i). it.closed k before
        (sym (but.same (journal_at layout_in_use s + 64 * k) (inl (omega (arith, before, at_is)))) ∙ is))
        (λ (from : i ≤ k). let same : journal_at layout_in_use s + 64 * k
        ≡ at = omega (arith, from, lt, at_is) in none
        (sym (ap (λ (n : ℕ). get_or (overlaid c at (0 ∷ [])) n 0) same ∙ here) ∙ is))
        (cases_lt k i);
  }
    where
      room : at + 1 ≤ length c
      room = omega (arith, at_is, few, it.size, length_is s)

      but : SameBut at 1 c (overlaid c at (0 ∷ []))
      but = but_part c at 1 (0 ∷ []) refl room

      here : get_or (overlaid c at (0 ∷ [])) at 0 ≡ 0
      here =
          let first : at - at ≡ 0 = omega arith in
          overlaid_inside c at (0 ∷ []) room at (omega arith) (omega arith) ∙ ap (λ (n : ℕ). get_or (0 ∷ []) n 0) first

      none : 0 ≡ open_gate → ⊥
      none e = omega (arith, e)
