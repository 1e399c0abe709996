-- A page that is written, and the other header's gate.
use Rattle.std.proofs.Common.{◌≡◌, ℕ, ◌+◌, ◌-◌, ◌*◌, ◌<◌, ◌≤◌, true, false, ◌≢◌, List, [], ◌∷◌, length, get_or, ◌==◌}
use Rattle.std.proofs.Common.{slice_range, sym, ap, ◌∙◌, inl, inr, ⊎_elim, arith}
use Rattle.std.proofs.lemmas.Bool.{cases_lt}
use Rattle.im_types.specs.Types.{Contents, layout_in_use, area_pages, area_bytes, area_at, area_of, open_gate, Header}
use Rattle.im_types.specs.Types.{header_place, is_open_header}
use Rattle.im_disk.{proofs.OverlayLemmas.overlaid_inside, specs.Moment.overlaid, specs.Since.SameBut}
use Rattle.{im_journal.specs.Holding.JournalState, im_meaning.specs.Images.other}
use Rattle.im_checkpoint.proofs.Bytes.{page_of_area, range_outside, range_written, same_overlaid}
use Rattle.im_checkpoint.proofs.Files.{area_fits, facts, gate_is, size, Still, still_gate, still_in_area}
use Rattle.im_checkpoint.proofs.Headers.{area_apart, area_before, place_to}
use Rattle.im_checkpoint.specs.Keeping.{Keeps, other_page}

-- the next page is written
module _ (h : Header) (m : Contents) (j : JournalState) (file : List ℕ) (it : Keeps h m j file) (i : ℕ)
    (few : i < area_pages layout_in_use h.sizes) (bytes : List ℕ) (page_length : length bytes ≡ 4096)
    (at : ℕ) (at_is : at ≡ area_at layout_in_use h.sizes (other h) + 4096 * i) where
  abbrev start : ℕ
  start = area_at layout_in_use h.sizes (other h)

  abbrev pages : ℕ
  pages = area_pages layout_in_use h.sizes

  abbrev new_file : List ℕ
  new_file = overlaid file at bytes

  pub page_fits : at + length bytes ≤ length file
  page_fits = omega (arith, page_length, at_is, few, area_fits h m j file it)

  pub page_but : SameBut at (length bytes) file new_file
  page_but = same_overlaid file at bytes page_fits

  long : start + 4096 * pages ≤ length file
  long = area_fits h m j file it

  new_long : start + 4096 * pages ≤ length new_file
  new_long = omega (arith, long, page_but.size)

  pub page_still : Still h m j file it new_file
  page_still = still_in_area h m j file it at (length bytes) new_file page_but (omega (arith, at_is))
      (omega (arith, at_is, page_length, few))

  pub this_page : other_page h new_file i ≡ bytes
  this_page =
      page_of_area new_file start pages i few new_long
      ∙ ap (λ (n : ℕ). slice_range new_file n (n + 4096)) (sym at_is)
      ∙ range_written file at bytes (at + 4096) (omega (arith, page_length)) (omega (arith, page_fits, page_length))

  pub apart_page : (p : ℕ) → p < pages → p ≢ i → other_page h new_file p ≡ other_page h file p
  apart_page p low apart =
      page_of_area new_file start pages p low new_long
      ∙ range_outside at (length bytes) (start + 4096 * p) (start + 4096 * p + 4096) file new_file page_but
      (omega arith) (omega (arith, long, low))
      (⊎_elim (λ (before : p < i). inl (omega (arith, at_is)))
      (λ (after : i ≤ p). inr (omega (arith, at_is, page_length, apart))) (cases_lt p i))
      ∙ sym (page_of_area file start pages p low long)

  -- the area in force lies apart
  pub own_area : area_of layout_in_use h.sizes h.area new_file ≡ area_of layout_in_use h.sizes h.area file
  own_area =
      let g = facts h m j file it in
      range_outside at (length bytes) (area_at layout_in_use h.sizes h.area)
      (area_at layout_in_use h.sizes h.area + area_bytes layout_in_use h.sizes) file new_file page_but (omega arith)
      (omega (arith, size h m j file it, area_before (area_bytes layout_in_use h.sizes) h.area g.area))
      (⊎_elim (λ before. inl (omega (arith, before, at_is)))
      (λ behind. inr (omega (arith, behind, at_is, page_length, few)))
      (area_apart (area_bytes layout_in_use h.sizes) h.area g.area))

-- the other header's gate is being closed
module _ (h : Header) (m : Contents) (j : JournalState) (file : List ℕ) (it : Keeps h m j file) where
  abbrev shut_file : List ℕ
  shut_file = overlaid file (4096 * other h) (0 ∷ [])

  shut_fits : 4096 * other h + 1 ≤ length file
  shut_fits = omega (arith, place_to h.area, size h m j file it)

  pub shut_but : SameBut (4096 * other h) 1 file shut_file
  shut_but = same_overlaid file (4096 * other h) (0 ∷ []) shut_fits

  pub shut_gate : is_open_header (header_place (other h) shut_file) ≡ false
  shut_gate = gate_is (other h) shut_file
      ∙ ap (λ (b : ℕ). b == open_gate)
      (overlaid_inside file (4096 * other h) (0 ∷ []) shut_fits (4096 * other h) (omega arith) (omega arith)
      ∙ ap (λ (k : ℕ). get_or (0 ∷ []) k 0) none)
    where
      none : 4096 * other h - 4096 * other h ≡ 0
      none = omega arith

  pub shut_still : is_open_header (header_place (other h) file) ≡ true → Still h m j file it shut_file
  shut_still opened = still_gate h m j file it shut_file opened shut_but
