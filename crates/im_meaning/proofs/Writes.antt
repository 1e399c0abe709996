-- What may be written to a file that leaves the image it is.
use Rattle.std.proofs.Common.{◌≡◌, ℕ, zero, suc, ◌+◌, ◌-◌, ◌*◌, ◌<◌, ◌≤◌, true, false, ◌⊎◌, List, [], ◌∷◌, length, take}
use Rattle.std.proofs.Common.{drop, ◌==◌, slice_index, slice_range, Some, sym, refl, ap, ◌∙◌, subst, inl, inr, ⊎_elim}
use Rattle.std.proofs.Common.{arith, length-drop, length-take, get_or-drop, take_all, get_or-take, ext_get_or}
use Rattle.byteorder.specs.Endian.{little_number}
use Rattle.im_types.specs.Types.{Command, Contents, Layout, Sizes, area_bytes, area_at, image_length, ring_of, area_of}
use Rattle.im_types.specs.Types.{open_gate, Header, header_body, header_in, spells_header, header_place, is_open_header}
use Rattle.im_types.specs.Types.{generation_in, tail, Shows}
use Rattle.im_formats.proofs.Headers.{header_in-spelled, spells_header-spelled}
use Rattle.{im_disk.specs.Since.SameBut, im_journal.proofs.Tails.tail_elsewhere}
use Rattle.im_meaning.specs.Images.{Follows, InForce, IsBelow, IsImage, IsPrepared, other}

slice_outside : (at n a b : ℕ) (c d : List ℕ) → SameBut at n c d → (b ≤ at) ⊎ (at + n ≤ a) → slice_range d a b
    ≡ slice_range c a b
slice_outside at n a b c d but apart = ext_get_or 0 (take (b - a) (drop a d)) (take (b - a) (drop a c))
    (omega (
      arith,
      length-take (b - a) (drop a d),
      length-take (b - a)
          (drop a c),
      length-drop a d,
      length-drop a c,
      but.size,
    ))
    (λ i lt. let low : i < b - a = omega (arith, length-take (b - a) (drop a d)) in
    get_or-take (b - a) (drop a d) i 0 low ∙ get_or-drop a d i 0
    ∙ but.same (a + i) (⊎_elim (λ le. inl (omega arith)) (λ ge. inr (omega arith)) apart)
    ∙ sym (get_or-drop a c i 0) ∙ sym (get_or-take (b - a) (drop a c) i 0 low))

-- the header in force stays, where its place does, and the other place is still below it
kept_in_force : (l : Layout) (h : Header) (c d : List ℕ) → InForce l h c → length d ≡ length c
    → header_place h.area d ≡ header_place h.area c → IsBelow h.generation (header_place (other h) d) → InForce l h d
kept_in_force l h c d it size same below = record {
  number = it.number;
  size = size ∙ it.size;
  opened = ap is_open_header same ∙ it.opened;
  fields = ap header_in same ∙ it.fields;
  spelled = ap (λ (place : List ℕ). spells_header l h.area place) same ∙ it.spelled;
  below = below;
}

-- an image stays one, where its header in force, its area and its journal do
kept : (l : Layout) (h : Header) (shown : Contents) (commands : List Command) (room : ℕ) (c d : List ℕ)
    → IsImage l h shown commands room c
    → InForce l h d → area_of l h.sizes h.area d ≡ area_of l h.sizes h.area c → tail (ring_of l h.sizes) h.count d
    ≡ tail (ring_of l h.sizes) h.count c
    → IsImage l h shown commands room d
kept l h shown commands room c d it in_force area journal = record {
  in_force = in_force;
  shows = subst (λ (bytes : List ℕ). Shows l h.sizes bytes shown) (sym area) it.shows;
  journal = journal ∙ it.journal;
}

-- the two areas lie one behind the other, behind the headers and before the journal
apart_areas : (bytes area : ℕ) → area ≤ 1 → (at n : ℕ) → 8192 + bytes * (1 - area) ≤ at
    → at + n ≤ 8192 + bytes * (1 - area) + bytes
    → (8192 + bytes * area + bytes ≤ at) ⊎ (at + n ≤ 8192 + bytes * area)
apart_areas bytes zero le at n from to = inl (omega (arith, from))
apart_areas bytes (suc zero) le at n from to = inr (omega (arith, to))
apart_areas bytes (suc (suc k)) le at n from to = absurd (omega (arith, le))

inside_areas : (bytes area : ℕ) → area ≤ 1 → (at n : ℕ) → at + n ≤ 8192 + bytes * (1 - area) + bytes
    → at + n ≤ 8192 + bytes * 2
inside_areas bytes zero le at n to = omega (arith, to)
inside_areas bytes (suc zero) le at n to = omega (arith, to)
inside_areas bytes (suc (suc k)) le at n to = absurd (omega (arith, le))

high : (k n : ℕ) → 4096 * k + 64 ≤ 8192 → 8192 ≤ n → 4096 * k + 64 ≤ n
high k n le from = omega (arith, le, from)

header_low : (k : ℕ) → k ≤ 1 → 4096 * k + 64 ≤ 8192
header_low zero le = omega arith
header_low (suc zero) le = omega arith
header_low (suc (suc k)) le = absurd (omega (arith, le))

-- L1: what is written in the area that isn't in force
module _ (l : Layout) (h : Header) (shown : Contents) (commands : List Command) (room : ℕ) (c d : List ℕ) (at n : ℕ)
    (it : IsImage l h shown commands room c) (but : SameBut at n c d) where
  headers_stay : 8192 ≤ at → InForce l h d
  headers_stay far =
      let f : InForce l h c = it.in_force in
      let mine : header_place h.area d
      ≡ header_place h.area c = slice_outside at n (4096 * h.area) (4096 * h.area + 64) c d but
      (inl (high h.area at (header_low h.area f.number) far)) in
      let theirs : header_place (other h) d
      ≡ header_place (other h) c = slice_outside at n (4096 * (1 - h.area)) (4096 * (1 - h.area) + 64) c d but
      (inl (high (1 - h.area) at (header_low (1 - h.area) (omega arith)) far)) in
      kept_in_force l h c d f but.size mine
      (subst (λ (place : List ℕ). IsBelow h.generation place) (sym theirs) f.below)

  pub write_in_other_area : 0 < h.sizes.slots → area_at l h.sizes (other h) ≤ at
      → at + n ≤ area_at l h.sizes (other h) + area_bytes l h.sizes → IsImage l h shown commands room d
  write_in_other_area some from to =
      kept l h shown commands room c d it (headers_stay (omega (arith, from)))
      (slice_outside at n (area_at l h.sizes h.area) (area_at l h.sizes h.area + area_bytes l h.sizes) c d but
      (apart_areas (area_bytes l h.sizes) h.area it.in_force.number at n from to))
      (tail_elsewhere (ring_of l h.sizes) h.count at n c d some
      (inl (inside_areas (area_bytes l h.sizes) h.area it.in_force.number at n to)) but)

-- the bytes of a header place, by those of the file
inside_place : (p a b : ℕ) (c d : List ℕ) → length d ≡ length c → b ≤ 64
    → ((i : ℕ) → a ≤ i → i < b → slice_index d (p + i) ≡ slice_index c (p + i))
    → slice_range (slice_range d p (p + 64)) a b ≡ slice_range (slice_range c p (p + 64)) a b
inside_place p a b c d size few same =
    let whole : (p + 64) - p ≡ 64 = omega arith in
    subst (λ (n : ℕ). take (b - a) (drop a (take n (drop p d))) ≡ take (b - a) (drop a (take n (drop p c)))) (sym whole)
    (ext_get_or 0 (take (b - a) (drop a (take 64 (drop p d)))) (take (b - a) (drop a (take 64 (drop p c))))
    (omega (
      arith,
      size,
      length-take (b - a) (drop a (take 64 (drop p d))),
      length-take (b - a) (drop a (take 64 (drop p c))),
      length-drop a (take 64 (drop p d)),
      length-drop a (take 64 (drop p c)),
      length-take 64 (drop p d),
      length-take 64 (drop p c),
      length-drop p d,
      length-drop p c,
    ))
    (λ i lt. let low : i < b - a = omega (arith, length-take (b - a) (drop a (take 64 (drop p d)))) in
    get_or-take (b - a) (drop a (take 64 (drop p d))) i 0 low ∙ get_or-drop a (take 64 (drop p d)) i 0
    ∙ get_or-take 64 (drop p d) (a + i) 0 (omega (arith, low, few)) ∙ get_or-drop p d (a + i) 0
    ∙ same (a + i) (omega arith) (omega (arith, low))
    ∙ sym (get_or-drop p c (a + i) 0) ∙ sym (get_or-take 64 (drop p c) (a + i) 0 (omega (arith, low, few)))
    ∙ sym (get_or-drop a (take 64 (drop p c)) i 0)
    ∙ sym (get_or-take (b - a) (drop a (take 64 (drop p c))) i 0 low)))

-- the gate of a header
gate_of : (k : ℕ) (file : List ℕ) → slice_index (header_place k file) 0 ≡ slice_index file (4096 * k)
gate_of k file =
    let whole : (4096 * k + 64) - 4096 * k ≡ 64 = omega arith in
    subst (λ (n : ℕ). slice_index (take n (drop (4096 * k) file)) 0 ≡ slice_index file (4096 * k)) (sym whole)
    (get_or-take 64 (drop (4096 * k) file) 0 0 (omega arith) ∙ get_or-drop (4096 * k) file 0 0
    ∙ ap (λ (n : ℕ). slice_index file n) (omega arith))

-- the two header places are apart
apart_places : (area : ℕ) → area ≤ 1 → (at n : ℕ) → 4096 * (1 - area) ≤ at → at + n ≤ 4096 * (1 - area) + 64
    → (4096 * area + 64 ≤ at) ⊎ (at + n ≤ 4096 * area)
apart_places zero le at n from to = inl (omega (arith, from))
apart_places (suc zero) le at n from to = inr (omega (arith, to))
apart_places (suc (suc k)) le at n from to = absurd (omega (arith, le))

low_places : (area : ℕ) → area ≤ 1 → (at n : ℕ) → at + n ≤ 4096 * (1 - area) + 64 → at + n ≤ 8192
low_places zero le at n to = omega (arith, to)
low_places (suc zero) le at n to = omega (arith, to)
low_places (suc (suc k)) le at n to = absurd (omega (arith, le))

module _ (l : Layout) (h : Header) (shown : Contents) (commands : List Command) (room : ℕ) (c d : List ℕ) (at n : ℕ)
    (it : IsImage l h shown commands room c) (but : SameBut at n c d) (some : 0 < h.sizes.slots)
    (from : 4096 * other h ≤ at) (to : at + n ≤ 4096 * other h + 64) where
  low : at + n ≤ 8192
  low = low_places h.area it.in_force.number at n to

  mine_stays : header_place h.area d ≡ header_place h.area c
  mine_stays = slice_outside at n (4096 * h.area) (4096 * h.area + 64) c d but
      (apart_places h.area it.in_force.number at n from to)

  area_stays : (k : ℕ) → area_of l h.sizes k d ≡ area_of l h.sizes k c
  area_stays k = slice_outside at n (area_at l h.sizes k) (area_at l h.sizes k + area_bytes l h.sizes) c d but
      (inr (omega (arith, low)))

  tail_stays : (first : ℕ) → tail (ring_of l h.sizes) first d ≡ tail (ring_of l h.sizes) first c
  tail_stays first = tail_elsewhere (ring_of l h.sizes) first at n c d some (inl (omega (arith, low))) but

  -- what is written in the other header's place, where that stays below
  pub write_in_other_header : IsBelow h.generation (header_place (other h) d) → IsImage l h shown commands room d
  write_in_other_header below =
      kept l h shown commands room c d it (kept_in_force l h c d it.in_force but.size mine_stays below)
      (area_stays h.area) (tail_stays h.count)

  -- behind a closed gate anything may be written
  pub write_behind_closed_gate : 4096 * other h + 1 ≤ at → is_open_header (header_place (other h) c) ≡ false
      → IsImage l h shown commands room d
  write_behind_closed_gate behind closed = write_in_other_header (inl (
      ap (λ (b : ℕ). b == open_gate)
      (gate_of (other h) d ∙ but.same (4096 * other h) (inl (omega (arith, behind))) ∙ sym (gate_of (other h) c))
      ∙ closed))

  generation_stays : at + n ≤ 4096 * other h + 8 → generation_in (header_place (other h) d)
      ≡ generation_in (header_place (other h) c)
  generation_stays short = ap (λ (bytes : List ℕ). little_number 8 bytes)
      (inside_place (4096 * other h) 8 16 c d but.size (omega arith)
      (λ i low high. but.same (4096 * other h + i) (inr (omega (arith, low, short)))))

  -- the gate of a header of a lower generation may be anything
  pub write_lower_gate : at + n ≤ 4096 * other h + 8 → generation_in (header_place (other h) c) < h.generation
      → IsImage l h shown commands room d
  write_lower_gate short lower = write_in_other_header
      (inr (subst (λ (g : ℕ). g < h.generation) (sym (generation_stays short)) lower))

long_file : (l : Layout) (h : Header) (c : List ℕ) → InForce l h c → 8192 ≤ length c
long_file l h c it = omega (arith, it.size)

place_length : (k : ℕ) (c : List ℕ) → k ≤ 1 → 8192 ≤ length c → length (header_place k c) ≡ 64
place_length zero c le long = omega (arith, long, length-take 64 (drop 0 c), length-drop 0 c)
place_length (suc zero) c le long = omega (arith, long, length-take 64 (drop 4096 c), length-drop 4096 c)
place_length (suc (suc k)) c le long = absurd (omega (arith, le))

gate_and_body : (bytes : List ℕ) → length bytes ≡ 64 → bytes ≡ slice_index bytes 0 ∷ slice_range bytes 1 64
gate_and_body [] size = absurd (omega (arith, size))
gate_and_body (gate ∷ body) size = ap (λ (rest : List ℕ). gate ∷ rest) (sym (take_all 63 body (omega (arith, size))))

-- where the next header's gate is all that is written, the old header is in force or the next one is
module _ (l : Layout) (h next : Header) (shown after : Contents) (commands later : List Command) (room : ℕ)
    (c d : List ℕ)
    (it : IsImage l h shown commands room c) (some : 0 < h.sizes.slots) (follows : Follows l h next)
    (ready : IsPrepared l h next after c) (but : SameBut (4096 * other h) 1 c d)
    (journal : tail (ring_of l h.sizes) next.count c ≡ Some (record { commands = later; room = room })) where
  from_place : 4096 * other h ≤ 4096 * other h
  from_place = omega arith

  to_place : 4096 * other h + 1 ≤ 4096 * other h + 64
  to_place = omega arith

  pub stays_closed : is_open_header (header_place (other h) d) ≡ false → IsImage l h shown commands room d
  stays_closed closed = write_in_other_header l h shown commands room c d
      (4096 * other h) 1 it but some from_place to_place (inl closed)

  body_stays : slice_range (header_place (other h) d) 1 64 ≡ header_body next
  body_stays = inside_place (4096 * other h) 1 64 c d but.size (omega arith)
      (λ i low high. but.same (4096 * other h + i) (inr (omega (arith, low)))) ∙ ready.body

  other_low : other h ≤ 1
  other_low = omega arith

  whole : header_place (other h) d ≡ slice_index (header_place (other h) d) 0 ∷ header_body next
  whole = gate_and_body (header_place (other h) d)
      (place_length (other h) d other_low (omega (arith, but.size, long_file l h c it.in_force)))
      ∙ ap (λ (rest : List ℕ). slice_index (header_place (other h) d) 0 ∷ rest) body_stays

  back : other next ≡ h.area
  back = by_area h.area refl it.in_force.number
    where
      by_area : (n : ℕ) → h.area ≡ n → n ≤ 1 → other next ≡ h.area
      by_area n is le = omega (arith, is, le, follows.area)

  next_in_force : is_open_header (header_place (other h) d) ≡ true → InForce l next d
  next_in_force opened =
      let gate : ℕ = slice_index (header_place (other h) d) 0 in
      let mine : header_place h.area d
      ≡ header_place h.area c = mine_stays l h shown commands room c d
      (4096 * other h) 1 it but some from_place to_place in
      record {
        number = subst (λ (n : ℕ). n ≤ 1) (sym follows.area) other_low;
        size = but.size ∙ it.in_force.size ∙ ap (λ (s : Sizes). image_length l s) (sym follows.sizes);
        opened = subst (λ (n : ℕ). is_open_header (header_place n d) ≡ true) (sym follows.area) opened;
        fields = subst (λ (n : ℕ). header_in (header_place n d) ≡ next) (sym follows.area)
            (ap header_in whole ∙ header_in-spelled gate next follows.fits);
        spelled = subst (λ (n : ℕ). spells_header l next.area (header_place n d) ≡ true) (sym follows.area)
            (ap (λ (place : List ℕ). spells_header l next.area place) whole
            ∙ spells_header-spelled l next.area gate next follows.fits follows.good);
        below = inr (subst (λ (n : ℕ). generation_in (header_place n d) < next.generation) (sym back)
            (subst (λ (x : Header). x.generation < next.generation)
            (sym (ap header_in mine ∙ it.in_force.fields)) follows.later));
      }

  pub takes_over : is_open_header (header_place (other h) d) ≡ true → IsImage l next after later room d
  takes_over opened = record {
    in_force = next_in_force opened;
    shows = subst (λ (n : ℕ). Shows l next.sizes (area_of l next.sizes n d) after) (sym follows.area)
        (subst (λ (s : Sizes). Shows l s (area_of l s (other h) d) after) (sym follows.sizes)
        (subst (λ (bytes : List ℕ). Shows l h.sizes bytes after)
        (sym (area_stays l h shown commands room c d (4096 * other h) 1 it but some from_place to_place
        (other h))) ready.shows));
    journal = subst (λ (s : Sizes). tail (ring_of l s) next.count d
        ≡ Some (record { commands = later; room = room })) (sym follows.sizes)
        (tail_stays l h shown commands room c d (4096 * other h) 1 it but some from_place to_place next.count
        ∙ journal);
  }
