-- The next header: behind its closed gate, and in force.
use Rattle.std.proofs.Common.{◌≡◌, ℕ, suc, ◌+◌, ◌-◌, ◌*◌, ◌<◌, ◌≤◌, true, false, ◌⊎◌, List, [], ◌∷◌, length, get_or}
use Rattle.std.proofs.Common.{drop, ◌==◌, slice_range, Some, sym, refl, ap, ◌∙◌, subst, inl, inr, ⊎_elim, arith}
use Rattle.std.proofs.Common.{length-drop, get_or-drop, get_or-take, ext_get_or}
use Rattle.std.proofs.lemmas.Bool.{cases_lt}
use Rattle.im_types.specs.Types.{Contents, layout_in_use, ring_of, open_gate, Header, header_body, header_place}
use Rattle.im_types.specs.Types.{is_open_header, Ring, IsBoundary, Shows, accept_each}
use Rattle.im_disk.proofs.{GateLemmas.body_and_gate, OverlayLemmas.overlaid_inside}
use Rattle.im_disk.specs.{Gate.HasThere, Gate.IsShut, Moment.overlaid, Since.SameBut}
use Rattle.im_journal.{proofs.Rings.other_number, specs.Holding.Holds, specs.Holding.JournalState}
use Rattle.im_meaning.proofs.Meanings.{one_of_two, opened_image}
use Rattle.im_meaning.specs.Images.{Follows, IsImage, IsPrepared, other}
use Rattle.im_checkpoint.proofs.Bytes.{range_byte, range_length, same_overlaid, same_then, same_wider}
use Rattle.im_checkpoint.proofs.Copies.{area_shows, resting_moved, takes_over}
use Rattle.im_checkpoint.proofs.Files.{accept_later, area_length, area_stays, boundaries_still, enough, facts, gate_is}
use Rattle.im_checkpoint.proofs.Files.{holds_still, means_of, size, some, Still, still_behind_gate, still_means}
use Rattle.im_checkpoint.proofs.Files.{still_shut}
use Rattle.im_checkpoint.proofs.Headers.{follows, place_to}
use Rattle.im_checkpoint.specs.Keeping.{IsResting, IsWriting, Keeps, MeansWith, Paged}
use Rattle.im_checkpoint.specs.Turns.{begun_at, next_header}

module _ (h : Header) (x : Paged) (m : Contents) (j : JournalState) (file : List ℕ) (it : Keeps h m j file)
    (count : ℕ) (known : IsWriting h it.shown it.commands x count [] file
    × (is_open_header (header_place (other h) file) ≡ false))
    (body : List ℕ) (body_is : body ≡ header_body (next_header h count)) (body_size : length body ≡ 63) where
  abbrev next : Header
  next = next_header h count

  -- where the other header stands
  place_low : 4096 * other h + 64 ≤ 8192
  place_low = place_to h.area

  place_fits : 4096 * other h + 64 ≤ length file
  place_fits = omega (arith, place_low, size h m j file it)

  body_fits : 4096 * other h + 1 + length body ≤ length file
  body_fits = omega (arith, place_fits, body_size)

  -- the body is written
  abbrev staged : List ℕ
  staged = overlaid file (4096 * other h + 1) body

  staged_but : SameBut (4096 * other h + 1) (length body) file staged
  staged_but = same_overlaid file (4096 * other h + 1) body body_fits

  staged_63 : SameBut (4096 * other h + 1) 63 file staged
  staged_63 = subst (λ (n : ℕ). SameBut (4096 * other h + 1) n file staged) body_size staged_but

  staged_still : Still h m j file it staged
  staged_still = still_behind_gate h m j file it staged known.1 staged_63

  staged_gate : is_open_header (header_place (other h) staged) ≡ false
  staged_gate =
      gate_is (other h) staged
      ∙ ap (λ (b : ℕ). b == open_gate) (staged_but.same (4096 * other h) (inl (omega arith)))
      ∙ sym (gate_is (other h) file)
      ∙ known.1

  staged_fits : 4096 * other h + 64 ≤ length staged
  staged_fits = omega (arith, place_fits, staged_but.size)

  staged_body : slice_range (header_place (other h) staged) 1 64 ≡ body
  staged_body =
      let whole : length (header_place (other h) staged)
      ≡ (4096 * other h + 64) - 4096 * other h = range_length staged (4096 * other h) (4096 * other h + 64)
      (omega arith) staged_fits in
      let part : length (slice_range (header_place (other h) staged) 1 64)
      ≡ 64 - 1 = range_length (header_place (other h) staged) 1 64 (omega arith) (omega (arith, whole)) in
      ext_get_or 0 (slice_range (header_place (other h) staged) 1 64) body (omega (arith, part, body_size)) (λ i lt.
      let low : i < 63 = omega (arith, part, lt) in
      range_byte (header_place (other h) staged) 1 64 i (omega (arith, low))
      ∙ range_byte staged (4096 * other h) (4096 * other h + 64) (1 + i) (omega (arith, low))
      ∙ overlaid_inside file (4096 * other h + 1) body body_fits (4096 * other h + (1 + i)) (omega arith)
      (omega (arith, low, body_size))
      ∙ ap (λ (k : ℕ). get_or body k 0) (omega arith))

  prepared : IsPrepared layout_in_use h next known.0.is_taken.memory staged
  prepared = record {
    closed = staged_gate;
    body = staged_body ∙ body_is;
    shows = subst (λ (area : List ℕ). Shows layout_in_use h.sizes area known.0.is_taken.memory)
        (sym (area_stays h m j file it (other h) (4096 * other h + 1) 63 staged staged_63 (omega (arith, place_low))
        (omega arith)))
        (area_shows h x file it.shown it.commands count known.0 (area_length h m j file it));
  }

  staged_boundary : IsBoundary (ring_of layout_in_use h.sizes) h.count known.0.is_taken.many staged
  staged_boundary = staged_still.boundaries known.0.is_taken.many known.0.boundary

  follow : Follows layout_in_use h next
  follow = follows h count (facts h m j file it) known.0.is_taken.later known.0.is_taken.to_last

  left_over : accept_each known.0.is_taken.memory (drop known.0.is_taken.many it.commands) ≡ Some m
  left_over =
      accept_later known.0.is_taken.many it.shown known.0.is_taken.memory m it.commands known.0.is_taken.accepts
      it.accepts

  left_count : j.count ≡ count + length (drop known.0.is_taken.many it.commands)
  left_count =
      omega (
        arith,
        it.count,
        known.0.is_taken.count_is,
        known.0.is_taken.few,
        length-drop known.0.is_taken.many
            it.commands,
      )

  -- the gate is being opened
  module _ (d : List ℕ) (but : SameBut (4096 * other h) 1 staged d) where
    either : IsImage layout_in_use h it.shown it.commands it.there d
        ⊎ IsImage layout_in_use next known.0.is_taken.memory (drop known.0.is_taken.many it.commands) it.there d
    either =
        one_of_two layout_in_use h next it.shown known.0.is_taken.memory it.commands it.there known.0.is_taken.many staged
        d staged_still.image (some h m j file it) follow prepared but known.0.is_taken.count_is staged_boundary

    gate_torn : MeansWith m j d
    gate_torn = ⊎_elim
        (λ image. means_of h m j it.shown it.commands it.there d image it.accepts it.count (enough h m j file it))
        (λ image. means_of next m j known.0.is_taken.memory
        (drop known.0.is_taken.many it.commands) it.there d image left_over left_count (enough h m j file it))
        either

  -- the header is being written
  module _ (d : List ℕ) (but : SameBut (4096 * other h) 64 file d) where
    -- its gate is closed
    pub shut_torn : IsShut (4096 * other h) d → MeansWith m j d
    shut_torn shut = still_means h m j file it d
        (still_shut h m j file it d (gate_is (other h) d ∙ other_number _ _ shut) but)

    -- all of it stands there
    module _ (there : HasThere (4096 * other h) (open_gate ∷ body) d) where
      there_byte : (k : ℕ) → k < 64 → get_or d (4096 * other h + k) 0 ≡ get_or (open_gate ∷ body) k 0
      there_byte k low =
          sym (get_or-drop (4096 * other h) d k 0)
          ∙ sym (get_or-take (length (open_gate ∷ body)) (drop (4096 * other h) d) k 0 (omega (arith, low, body_size)))
          ∙ ap (λ (l : List ℕ). get_or l k 0) there

      body_byte : (i : ℕ) → 4096 * other h + 1 ≤ i → i < 4096 * other h + 64 → get_or d i 0 ≡ get_or staged i 0
      body_byte i from to =
          let back : i ≡ 4096 * other h + (i - 4096 * other h) = omega (arith, from) in
          let behind : i - 4096 * other h ≡ suc (i - (4096 * other h + 1)) = omega (arith, from) in
          ap (λ (n : ℕ). get_or d n 0) back
          ∙ there_byte (i - 4096 * other h) (omega (arith, from, to))
          ∙ ap (λ (k : ℕ). get_or (open_gate ∷ body) k 0) behind
          ∙ sym (overlaid_inside file (4096 * other h + 1) body body_fits i from (omega (arith, to, body_size)))

      but_gate : SameBut (4096 * other h) 1 staged d
      but_gate = record {
        size = but.size ∙ sym staged_but.size;
        same = λ i out. ⊎_elim
            (λ (low : i < 4096 * other h). but.same i (inl low) ∙ sym (staged_but.same i (inl (omega arith))))
            (λ (high : 4096 * other h + 1 ≤ i). ⊎_elim
            (λ (inside : i < 4096 * other h + 64). body_byte i high inside)
            (λ (beyond : 4096 * other h + 64 ≤ i). but.same i (inr beyond)
            ∙ sym (staged_but.same i (inr (omega (arith, beyond, body_size)))))
            (cases_lt i (4096 * other h + 64)))
            out;
      }

      pub whole_there : MeansWith m j d
      whole_there = gate_torn d but_gate

  -- the gate is open
  abbrev opened_file : List ℕ
  opened_file = overlaid staged (4096 * other h) (open_gate ∷ [])

  gate_fits : 4096 * other h + 1 ≤ length staged
  gate_fits = omega (arith, staged_fits)

  opened_but : SameBut (4096 * other h) 1 staged opened_file
  opened_but = same_overlaid staged (4096 * other h) (open_gate ∷ []) gate_fits

  opened_gate : is_open_header (header_place (other h) opened_file) ≡ true
  opened_gate =
      gate_is (other h) opened_file
      ∙ ap (λ (b : ℕ). b == open_gate)
      (overlaid_inside staged (4096 * other h) (open_gate ∷ []) gate_fits (4096 * other h) (omega arith)
      (omega arith) ∙ ap (λ (k : ℕ). get_or (open_gate ∷ []) k 0) none)
    where
      none : 4096 * other h - 4096 * other h ≡ 0
      none = omega arith

  opened_place : SameBut (4096 * other h) 64 file opened_file
  opened_place = same_then (4096 * other h) 64 file staged opened_file
      (same_wider (4096 * other h + 1) 63 (4096 * other h) 64 file staged staged_63 (omega arith) (omega arith))
      (same_wider (4096 * other h) 1 (4096 * other h) 64 staged opened_file opened_but (omega arith) (omega arith))

  -- where the journal's run begins anew, no group goes on
  opened_boundary : IsBoundary j.ring j.first (count - j.first) opened_file
  opened_boundary =
      let there : IsBoundary
      (ring_of layout_in_use h.sizes) h.count known.0.is_taken.many opened_file = boundaries_still h m j file it
      (4096 * other h) 64 opened_file opened_place place_low known.0.is_taken.many known.0.boundary in
      let many_is : known.0.is_taken.many ≡ count - j.first = omega (arith, known.0.is_taken.count_is, it.first) in
      subst (λ (n : ℕ). IsBoundary j.ring j.first n opened_file) many_is
      (subst (λ (n : ℕ). IsBoundary j.ring n known.0.is_taken.many opened_file) (sym it.first)
      (subst (λ (r : Ring). IsBoundary r h.count known.0.is_taken.many opened_file) (sym it.ring) there))

  in_force_kept : ((f : List ℕ) → Holds j f → IsBoundary j.ring j.first (count - j.first) f
      → Holds (begun_at count j) f) → Keeps next m (begun_at count j) opened_file
  in_force_kept later = record {
    shown = known.0.is_taken.memory;
    commands = drop known.0.is_taken.many it.commands;
    there = it.there;
    image =
        opened_image layout_in_use h next it.shown known.0.is_taken.memory it.commands it.there known.0.is_taken.many
        staged opened_file staged_still.image
        (some h m j file it) follow prepared opened_but known.0.is_taken.count_is staged_boundary opened_gate;
    accepts = left_over;
    count = left_count;
    ring = it.ring;
    first = refl;
    journal = later opened_file
        (holds_still h m j file it (4096 * other h) 64 opened_file opened_place place_low) opened_boundary;
  }

  pub next_kept : ((f : List ℕ) → Holds j f → IsBoundary j.ring j.first (count - j.first) f
      → Holds (begun_at count j) f)
      → Keeps next m (begun_at count j) (overlaid file (4096 * other h) (open_gate ∷ body))
  next_kept later = subst (λ (l : List ℕ). Keeps next m (begun_at count j) l)
      (body_and_gate file body (4096 * other h) open_gate body_fits) (in_force_kept later)

  -- the area that was written has the pages of the memory now, but for those that changed
  pub next_rests : IsResting next x (overlaid file (4096 * other h) (open_gate ∷ body))
  next_rests =
      let low : h.area ≤ 1 = (facts h m j file it).area in
      subst (λ (l : List ℕ). IsResting next x l) (body_and_gate file body (4096 * other h) open_gate body_fits)
      (resting_moved next x file opened_file
      (area_stays h m j file it (other h) (4096 * other h) 64 opened_file opened_place place_low (omega arith))
      (area_stays h m j file it (other next) (4096 * other h) 64 opened_file opened_place place_low (omega arith))
      (takes_over h x file it.shown it.commands count known.0 low))
