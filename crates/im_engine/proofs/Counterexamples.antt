-- The laws of files say no more than they do: a new image whose gate is closed means nothing. And those of images say something:
-- their premises are met.
use Rattle.std.proofs.Common.{◌≡◌, ℕ, ◌+◌, ◌-◌, ◌*◌, ◌<◌, ◌≤◌, true, false, ◌⊎◌, List, [], ◌∷◌, length, get_or, drop}
use Rattle.std.proofs.Common.{◌==◌, slice_range, sym, refl, ap, ◌∙◌, subst, inl, inr, arith, ext_get_or}
use Rattle.im_types.specs.Types.{Command, NoHeader, AreLimits, Contents, empty_contents, Layout, layout_in_use, Sizes}
use Rattle.im_types.specs.Types.{area_bytes, area_at, area_of, open_gate, Header, header_body, header_place}
use Rattle.im_types.specs.Types.{is_open_header, generation_in, Shows, Means}
use Rattle.{im_types.proofs.Tests.true_false, im_laws.proofs.MemoryLemmas.empty-memory}
use Rattle.im_disk.{proofs.OverlayLemmas.overlaid_inside, specs.Moment.overlaid, specs.Since.SameBut}
use Rattle.im_meaning.proofs.Meanings.{one_of_two, opened_image}
use Rattle.im_meaning.proofs.Writes.{write_behind_closed_gate, write_in_other_area, write_lower_gate}
use Rattle.im_meaning.specs.Images.{Follows, IsImage, IsPrepared, other}
use Rattle.im_image.proofs.FreshArea.{length-area, new_area_shows}
use Rattle.im_image.proofs.{FreshImage.length-image, VersionLemmas.places_open}
use Rattle.im_image.specs.Fresh.{new_area, new_header, new_image}
use Rattle.im_checkpoint.proofs.Bytes.{range_byte, range_length, range_outside, range_written, same_all, same_overlaid}
use Rattle.im_checkpoint.{proofs.Files.gate_is, proofs.Headers.follows, proofs.Headers.good, specs.Turns.next_header}
use Rattle.im_engine.proofs.{FilesMean.new_image_is_one, FilesMean.no_fault_and_meaning, Making.length_new_image}
use Rattle.im_engine.specs.State.{IsFirstFault}

-- In a new image whose gate is closed neither header is open: its first fault is that there is no header.
a_closed_image_has_no_header : (s : Sizes) → IsFirstFault NoHeader (new_image 0 s)
a_closed_image_has_no_header s =
    places_open (new_image 0 s) NoHeader (omega (arith, length_new_image s)) refl

-- `new_images_mean_the_empty_memory`: not with its gate closed.
a_closed_image_means_no_memory :
    ((s : Sizes) → AreLimits s.cells s.elements s.slots
    → Means (empty_contents s.cells s.elements) 0 s.slots (new_image 0 s)) → ⊥
a_closed_image_means_no_memory law =
    let least : Sizes = record { cells = 1; elements = 1; slots = 16 } in
    no_fault_and_meaning (new_image 0 least) NoHeader (empty_contents 1 1) 0 16 (a_closed_image_has_no_header least)
    (law least (record { some_cell = omega arith; few_cells = omega arith; some_element = omega arith; few_elements = omega arith; enough_slots = omega arith; few_slots = omega arith }))

-- The premises of the laws of images are met at a new image. It stays one whatever is written in its second area,
a_new_image_keeps_its_pages : (s : Sizes) → AreLimits s.cells s.elements s.slots → (d : List ℕ) (at n : ℕ)
    → SameBut at n (new_image 0xA5 s) d
    → area_at layout_in_use s 1 ≤ at → at + n ≤ area_at layout_in_use s 1 + area_bytes layout_in_use s
    → IsImage layout_in_use (new_header s) (empty_contents s.cells s.elements) [] s.slots d
a_new_image_keeps_its_pages s limits d at n but from to =
    write_in_other_area layout_in_use (new_header s) (empty_contents s.cells s.elements) [] s.slots
    (new_image 0xA5 s) d at n (new_image_is_one s limits) but
    (omega (arith, limits.enough_slots)) from to

-- behind the closed gate of its second header,
a_new_image_keeps_its_header : (s : Sizes) → AreLimits s.cells s.elements s.slots → (d : List ℕ) (at n : ℕ)
    → SameBut at n (new_image 0xA5 s) d
    → 4097 ≤ at → at + n ≤ 4160 → IsImage layout_in_use (new_header s) (empty_contents s.cells s.elements) [] s.slots d
a_new_image_keeps_its_header s limits d at n but from to =
    write_behind_closed_gate layout_in_use (new_header s) (empty_contents s.cells s.elements) [] s.slots
    (new_image 0xA5 s) d at n (new_image_is_one s limits) but
    (omega (arith, limits.enough_slots)) (omega (arith, from)) (omega (arith, to)) from refl

-- and to that gate itself, which is of a lower generation.
a_new_image_keeps_its_gate : (s : Sizes) → AreLimits s.cells s.elements s.slots → (d : List ℕ)
    → SameBut 4096 1 (new_image 0xA5 s) d
    → IsImage layout_in_use (new_header s) (empty_contents s.cells s.elements) [] s.slots d
a_new_image_keeps_its_gate s limits d but =
    let zero : generation_in (header_place 1 (new_image 0xA5 s)) ≡ 0 = refl in
    write_lower_gate layout_in_use (new_header s) (empty_contents s.cells s.elements) [] s.slots
    (new_image 0xA5 s) d 4096 1 (new_image_is_one s limits) but
    (omega (arith, limits.enough_slots)) (omega arith) (omega arith) (omega arith) (omega (arith, zero))

-- A new image in whose second area stand the pages of the empty memory too,
abbrev paged : Sizes → List ℕ
paged s = overlaid (new_image 0xA5 s) (area_at layout_in_use s 1) (new_area s)

-- under the header of the second generation,
abbrev second : Sizes → Header
second s = next_header (new_header s) 0

-- whose body stands behind the closed gate of the second header place.
abbrev staged : Sizes → List ℕ
staged s = overlaid (paged s) 4097 (header_body (second s))

-- The same with that gate opened.
abbrev opened : Sizes → List ℕ
opened s = overlaid (staged s) 4096 (open_gate ∷ [])

module _ (s : Sizes) (limits : AreLimits s.cells s.elements s.slots) where
  abbrev nothing : Contents
  nothing = empty_contents s.cells s.elements

  some_slots : 0 < s.slots
  some_slots = omega (arith, limits.enough_slots)

  area_fits : area_at layout_in_use s 1 + length (new_area s) ≤ length (new_image 0xA5 s)
  area_fits = omega (arith, length-area s, length-image s)

  paged_but : SameBut (area_at layout_in_use s 1) (length (new_area s)) (new_image 0xA5 s) (paged s)
  paged_but = same_overlaid (new_image 0xA5 s) (area_at layout_in_use s 1) (new_area s) area_fits

  paged_image : IsImage layout_in_use (new_header s) nothing [] s.slots (paged s)
  paged_image = a_new_image_keeps_its_pages s limits (paged s) (area_at layout_in_use s 1)
      (length (new_area s)) paged_but (omega arith) (omega (arith, length-area s))

  paged_gate : is_open_header (header_place 1 (paged s)) ≡ false
  paged_gate =
      let was : is_open_header (header_place 1 (new_image 0xA5 s)) ≡ false = refl in
      gate_is 1 (paged s) ∙ ap (λ (b : ℕ). b == open_gate) (paged_but.same 4096 (inl (omega arith)))
      ∙ sym (gate_is 1 (new_image 0xA5 s)) ∙ was

  body_fits : 4097 + length (header_body (second s)) ≤ length (paged s)
  body_fits = omega (arith, paged_but.size, length-image s)

  staged_but : SameBut 4097 63 (paged s) (staged s)
  staged_but = same_overlaid (paged s) 4097 (header_body (second s)) body_fits

  staged_image : IsImage layout_in_use (new_header s) nothing [] s.slots (staged s)
  staged_image =
      write_behind_closed_gate layout_in_use (new_header s) nothing [] s.slots (paged s)
      (staged s) 4097 63 paged_image staged_but some_slots (omega arith) (omega arith) (omega arith) paged_gate

  staged_gate : is_open_header (header_place 1 (staged s)) ≡ false
  staged_gate = gate_is 1 (staged s) ∙ ap (λ (b : ℕ). b == open_gate) (staged_but.same 4096 (inl (omega arith)))
      ∙ sym (gate_is 1 (paged s)) ∙ paged_gate

  staged_body : slice_range (header_place 1 (staged s)) 1 64 ≡ header_body (second s)
  staged_body =
      let whole : length (header_place 1 (staged s))
      ≡ 4160 - 4096 = range_length (staged s) 4096 4160 (omega arith)
      (omega (arith, staged_but.size, paged_but.size, length-image s)) in
      let part : length (slice_range (header_place 1 (staged s)) 1 64)
      ≡ 64 - 1 = range_length (header_place 1 (staged s)) 1 64 (omega arith) (omega (arith, whole)) in
      ext_get_or 0 (slice_range (header_place 1 (staged s)) 1 64) (header_body (second s)) (omega (arith, part))
      (λ i lt.
      let low : i < 63 = omega (arith, part, lt) in
      range_byte (header_place 1 (staged s)) 1 64 i (omega (arith, low))
      ∙ range_byte (staged s) 4096 4160 (1 + i) (omega (arith, low))
      ∙ overlaid_inside (paged s) 4097 (header_body (second s)) body_fits (4096 + (1 + i)) (omega arith)
      (omega (arith, low))
      ∙ ap (λ (k : ℕ). get_or (header_body (second s)) k 0) (behind i))
    where
      behind : (i : ℕ) → (4096 + (1 + i)) - 4097 ≡ i
      behind i = omega arith

  staged_area : area_of layout_in_use s 1 (staged s) ≡ new_area s
  staged_area =
      range_outside 4097 63 (area_at layout_in_use s 1) (area_at layout_in_use s 1 + area_bytes layout_in_use s)
      (paged s) (staged s) staged_but (omega arith) (omega (arith, paged_but.size, length-image s))
      (inr (omega arith))
      ∙ range_written (new_image 0xA5 s) (area_at layout_in_use s 1) (new_area s)
      (area_at layout_in_use s 1 + area_bytes layout_in_use s) (omega (arith, length-area s))
      (omega (arith, length-image s))

  is_prepared : IsPrepared layout_in_use (new_header s) (second s) nothing (staged s)
  is_prepared = record {
    closed = staged_gate;
    body = staged_body;
    shows = subst (λ (area : List ℕ). Shows layout_in_use s area nothing) (sym staged_area)
        (new_area_shows s (empty-memory s.cells s.elements));
  }

  it_follows : Follows layout_in_use (new_header s) (second s)
  it_follows = follows (new_header s) 0 (good (new_header s) (new_image 0xA5 s) (new_image_is_one s limits).in_force)
      (omega arith) (omega arith)

  -- `next_header_takes_over`: its premises are met. Whatever becomes of that gate, the file is one of the two images.
  the_second_header_takes_over : (d : List ℕ) → SameBut 4096 1 (staged s) d
      → IsImage layout_in_use (new_header s) nothing [] s.slots d
      ⊎ IsImage layout_in_use (second s) nothing [] s.slots d
  the_second_header_takes_over d but =
      one_of_two layout_in_use (new_header s) (second s) nothing nothing [] s.slots 0
      (staged s) d staged_image some_slots it_follows is_prepared but (omega arith) refl

  gate_fits : 4096 + 1 ≤ length (staged s)
  gate_fits = omega (arith, staged_but.size, paged_but.size, length-image s)

  opened_gate : is_open_header (header_place 1 (opened s)) ≡ true
  opened_gate = gate_is 1 (opened s)
      ∙ ap (λ (b : ℕ). b == open_gate)
      (overlaid_inside (staged s) 4096 (open_gate ∷ []) gate_fits 4096 (omega arith) (omega arith))

  -- `open_header_is_in_force`: and with the gate open it is the second one.
  the_second_header_is_in_force : IsImage layout_in_use (second s) nothing [] s.slots (opened s)
  the_second_header_is_in_force =
      opened_image layout_in_use (new_header s) (second s) nothing nothing [] s.slots 0 (staged s)
      (opened s) staged_image some_slots it_follows is_prepared
      (same_overlaid (staged s) 4096 (open_gate ∷ []) gate_fits) (omega arith) refl opened_gate

-- Not with the gate still closed.
a_prepared_header_is_not_in_force :
    ((l : Layout) (h next : Header) (shown after : Contents) (commands : List Command) (room k : ℕ) (c d : List ℕ)
    → IsImage l h shown commands room c
    → 0 < h.sizes.slots → Follows l h next → IsPrepared l h next after c → SameBut (4096 * other h) 1 c d
    → next.count ≡ h.count + k → k ≤ length commands → IsImage l next after (drop k commands) room d) → ⊥
a_prepared_header_is_not_in_force law =
    let s : Sizes = record { cells = 1; elements = 1; slots = 16 } in
    let limits : AreLimits 1 1 16 = record { some_cell = omega arith; few_cells = omega arith; some_element = omega arith; few_elements = omega arith; enough_slots = omega arith; few_slots = omega arith } in
    let m : Contents = empty_contents 1 1 in
    let image : IsImage layout_in_use (second s) m [] 16 (staged s) =
    law layout_in_use (new_header s) (second s) m m [] 16 0 (staged s) (staged s) (staged_image s limits)
    (omega arith) (it_follows s limits) (is_prepared s limits) (same_all 4096 1 (staged s)) (omega arith)
    (omega arith) in
    true_false (sym image.in_force.opened ∙ staged_gate s limits)
