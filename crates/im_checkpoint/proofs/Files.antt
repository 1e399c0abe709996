-- What the writes of a checkpoint's turns leave of a file that keeps a memory.
use Rattle.std.proofs.Common.{◌≡◌, ℕ, zero, suc, ◌+◌, ◌-◌, ◌*◌, ◌<◌, ◌≤◌, Bool, true, false, List, [], ◌∷◌, length}
use Rattle.std.proofs.Common.{get_or, take, drop, if◌then◌else◌, ◌==◌, Some, None, Ok, Option, sym, ap, ◌∙◌, subst, inl}
use Rattle.std.proofs.Common.{inr, arith}
use Rattle.im_types.specs.Types.{Command, Contents, step, is_accepted, layout_in_use, area_bytes, area_at, journal_at}
use Rattle.im_types.specs.Types.{image_length, ring_of, area_of, open_gate, Header, header_place, is_open_header}
use Rattle.im_types.specs.Types.{generation_in, sequence_of, Ring, Tail, slot, tail, accept_each, Reads}
use Rattle.im_disk.specs.Since.{SameBut}
use Rattle.im_journal.proofs.{Groups.same_there, Slots.same_slot, Slots.slot_inside}
use Rattle.im_journal.proofs.Tails.{boundaries_elsewhere, tail_elsewhere}
use Rattle.im_journal.specs.Holding.{Holds, JournalState, KeepsBoundaries}
use Rattle.im_meaning.proofs.{Meanings.image_reads, Writes.write_behind_closed_gate, Writes.write_in_other_area}
use Rattle.im_meaning.proofs.{Writes.write_in_other_header, Writes.write_lower_gate}
use Rattle.im_meaning.specs.Images.{IsBelow, IsImage, other}
use Rattle.im_checkpoint.proofs.Bytes.{range_byte, range_length, range_outside}
use Rattle.im_checkpoint.proofs.Headers.{area_before, area_from, area_to, good, IsGood, place_to}
use Rattle.im_checkpoint.specs.Keeping.{Keeps, MeansWith, other_area}

-- commands that are accepted, from a later one on
pub accept_later : (k : ℕ) (shown taken m : Contents) (commands : List Command) → accept_each shown (take k commands)
    ≡ Some taken → accept_each shown commands ≡ Some m → accept_each taken (drop k commands) ≡ Some m
accept_later zero shown taken m commands some all =
    let same : shown ≡ taken = cc in
    subst (λ (x : Contents). accept_each x commands ≡ Some m) same all
accept_later (suc k) shown taken m [] some all =
    let same : shown ≡ taken = cc in
    subst (λ (x : Contents). accept_each x [] ≡ Some m) same all
accept_later (suc k) shown taken m (command ∷ commands) some all = by_test (is_accepted shown command) some all
    (λ front whole. accept_later k (step shown command).contents taken m commands front whole)
  where
    by_test : (b : Bool) → (if b then accept_each (step shown command).contents (take k commands) else None)
        ≡ Some taken → (if b then accept_each (step shown command).contents commands else None) ≡ Some m
        → (accept_each (step shown command).contents (take k commands) ≡ Some taken
        → accept_each (step shown command).contents commands ≡ Some m → accept_each taken (drop k commands)
        ≡ Some m)
        → accept_each taken (drop k commands) ≡ Some m
    by_test true front whole rest = rest front whole
    by_test false front whole rest = absurd (cc)

-- a journal that lies behind what was written
pub holds_behind : (j : JournalState) (at n : ℕ) (c d : List ℕ) → 0 < j.ring.slots → at + n ≤ j.ring.base
    → SameBut at n c d → Holds j c → Holds j d
holds_behind j at n c d some before but held = record {
  size = subst (λ (l : ℕ). j.ring.base + 64 * j.ring.slots ≤ l) (sym but.size) held.size;
  commands = held.commands;
  there = held.there;
  reads = tail_elsewhere j.ring j.first at n c d some (inl before) but ∙ held.reads;
  count = held.count;
  enough = held.enough;
  behind = λ low k from to. subst (λ (l : List ℕ). sequence_of l < j.first) (sym (same (j.count + k)))
      (held.behind low k from to);
  laid = same_there j.ring c d j.count j.ahead
      (λ k less. ap (λ (l : List ℕ). drop 1 l) (same (j.count + k))) held.laid;
}
  where
    same : (s : ℕ) → slot j.ring s d ≡ slot j.ring s c
    same s = same_slot j.ring s d c but.size
        (λ i low high. but.same i (inr (omega (arith, low, before, slot_inside j.ring some s))))

abbrev room_in : Option Tail → ℕ
room_in None = 0
room_in (Some t) = t.room

-- an image means the memory that its commands lead to
pub means_of : (h : Header) (m : Contents) (j : JournalState) (shown : Contents) (commands : List Command)
    (there : ℕ) (file : List ℕ) → IsImage layout_in_use h shown commands there file
    → accept_each shown commands ≡ Some m → j.count ≡ h.count + length commands → j.room ≤ there → MeansWith m j file
means_of h m j shown commands there file image accepts count enough = (
  there,
  enough,
  subst (λ (n : ℕ). Reads layout_in_use file (Ok (record { contents = m; count = n; room = there }))) (sym count)
      (image_reads layout_in_use h shown m commands there file image accepts),
)

-- the gate of a header place
pub gate_is : (k : ℕ) (file : List ℕ) → is_open_header (header_place k file) ≡ (get_or file (4096 * k) 0 == open_gate)
gate_is k file = ap (λ (b : ℕ). b == open_gate)
    (range_byte file (4096 * k) (4096 * k + 64) 0 (omega arith) ∙ ap (λ (n : ℕ). get_or file n 0) (omega arith))

module _ (h : Header) (m : Contents) (j : JournalState) (file : List ℕ) (it : Keeps h m j file) where
  pub facts : IsGood h
  facts = good h file it.image.in_force

  pub some : 0 < h.sizes.slots
  some = omega (arith, facts.limits.enough_slots)

  some_slots : 0 < j.ring.slots
  some_slots = subst (λ (r : Ring). 0 < r.slots) (sym it.ring) some

  -- the room that is known is there
  pub enough : j.room ≤ it.there
  enough =
      let held : Holds j file = it.journal in
      let read : tail (ring_of layout_in_use h.sizes) h.count file
      ≡ Some (record { commands = held.commands; room = held.there }) =
      subst (λ (n : ℕ). tail (ring_of layout_in_use h.sizes) n file
      ≡ Some (record { commands = held.commands; room = held.there })) it.first
      (subst (λ (r : Ring). tail r j.first file
      ≡ Some (record { commands = held.commands; room = held.there })) it.ring held.reads) in
      omega (arith, held.enough, ap room_in (sym read ∙ it.image.journal))

  pub size : length file ≡ image_length layout_in_use h.sizes
  size = it.image.in_force.size

  other_from : 8192 ≤ area_at layout_in_use h.sizes (other h)
  other_from = area_from (area_bytes layout_in_use h.sizes) (1 - h.area)

  other_to : area_at layout_in_use h.sizes
      (other h) + area_bytes layout_in_use h.sizes ≤ journal_at layout_in_use h.sizes
  other_to = area_to (area_bytes layout_in_use h.sizes) h.area

  base_is : j.ring.base ≡ journal_at layout_in_use h.sizes
  base_is = ap (λ (r : Ring). r.base) it.ring

  -- another file with the same image and the same journal
  pub record Still (d : List ℕ) : Type 0 where
    pub image : IsImage layout_in_use h it.shown it.commands it.there d
    pub journal : Holds j d
    pub boundaries : KeepsBoundaries (ring_of layout_in_use h.sizes) h.count file d

  pub still_means : (d : List ℕ) → Still d → MeansWith m j d
  still_means d s = means_of h m j it.shown it.commands it.there d s.image it.accepts it.count enough

  abbrev pub keeps_at : (d : List ℕ) → Still d → Keeps h m j d
  keeps_at d s = record {
    shown = it.shown;
    commands = it.commands;
    there = it.there;
    image = s.image;
    accepts = it.accepts;
    count = it.count;
    ring = it.ring;
    first = it.first;
    journal = s.journal;
  }

  -- what is written in the area that isn't in force
  pub still_in_area : (at n : ℕ) (d : List ℕ) → SameBut at n file d → area_at layout_in_use h.sizes (other h) ≤ at
      → at + n ≤ area_at layout_in_use h.sizes (other h) + area_bytes layout_in_use h.sizes → Still d
  still_in_area at n d but from to = record {
    image = write_in_other_area layout_in_use h it.shown it.commands it.there file d at n it.image but some from to;
    journal = holds_behind j at n file d some_slots (omega (arith, to, other_to, base_is)) but it.journal;
    boundaries = boundaries_elsewhere (ring_of layout_in_use h.sizes) h.count at n file d some
        (inl (omega (arith, to, other_to))) but;
  }

  -- what is written before the areas leaves the journal
  pub holds_still : (at n : ℕ) (d : List ℕ) → SameBut at n file d → at + n ≤ 8192 → Holds j d
  holds_still at n d but to = holds_behind j at n file d some_slots
      (omega (arith, to, other_from, other_to, base_is)) but it.journal

  -- and where its run may begin anew
  pub boundaries_still : (at n : ℕ) (d : List ℕ) → SameBut at n file d → at + n ≤ 8192
      → KeepsBoundaries (ring_of layout_in_use h.sizes) h.count file d
  boundaries_still at n d but to = boundaries_elsewhere (ring_of layout_in_use h.sizes) h.count at n file d some
      (inl (omega (arith, to, other_from, other_to))) but

  -- what is written in the place of the other header
  still_in_header : (at n : ℕ) (d : List ℕ) → SameBut at n file d → at + n ≤ 4096 * other h + 64
      → IsImage layout_in_use h it.shown it.commands it.there d → Still d
  still_in_header at n d but to image = record {
    image = image;
    journal = holds_still at n d but (omega (arith, to, place_to h.area));
    boundaries = boundaries_still at n d but (omega (arith, to, place_to h.area));
  }

  -- and its gate is closed then
  pub still_shut : (d : List ℕ) → is_open_header (header_place (other h) d) ≡ false
      → SameBut (4096 * other h) 64 file d → Still d
  still_shut d closed but = still_in_header (4096 * other h) 64 d but (omega arith)
      (write_in_other_header layout_in_use h it.shown it.commands it.there file d
      (4096 * other h) 64 it.image but some (omega arith) (omega arith) (inl closed))

  pub still_behind_gate : (d : List ℕ) → is_open_header (header_place (other h) file) ≡ false
      → SameBut (4096 * other h + 1) 63 file d → Still d
  still_behind_gate d closed but = still_in_header (4096 * other h + 1) 63 d but (omega arith)
      (write_behind_closed_gate layout_in_use h it.shown it.commands it.there file d
      (4096 * other h + 1) 63 it.image but some (omega arith) (omega arith) (omega arith) closed)

  -- the gate of a header that is open is of a lower generation
  pub still_gate : (d : List ℕ) → is_open_header (header_place (other h) file) ≡ true
      → SameBut (4096 * other h) 1 file d → Still d
  still_gate d opened but = still_in_header (4096 * other h) 1 d but (omega arith)
      (write_lower_gate layout_in_use h it.shown it.commands it.there file d (4096 * other h) 1 it.image but some
      (omega arith) (omega arith) (omega arith) (by_below it.image.in_force.below))
    where
      clash : (b : Bool) → b ≡ true → b ≡ false → ⊥
      clash b is isnt = absurd (cc)

      by_below : IsBelow h.generation (header_place (other h) file)
          → generation_in (header_place (other h) file) < h.generation
      by_below (inl closed) = absurd (clash _ opened closed)
      by_below (inr lower) = lower

  -- the area is as long as its pages
  pub area_fits : area_at layout_in_use h.sizes (other h) + area_bytes layout_in_use h.sizes ≤ length file
  area_fits = omega (arith, other_to, size)

  pub area_length : length (other_area h file) ≡ area_bytes layout_in_use h.sizes
  area_length = range_length file (area_at layout_in_use h.sizes (other h))
      (area_at layout_in_use h.sizes (other h) + area_bytes layout_in_use h.sizes) (omega arith) area_fits
      ∙ omega arith

  -- the headers' places aren't of the areas
  pub area_stays : (k at n : ℕ) (d : List ℕ) → SameBut at n file d → at + n ≤ 8192 → k ≤ 1
      → area_of layout_in_use h.sizes k d ≡ area_of layout_in_use h.sizes k file
  area_stays k at n d but to low = range_outside at n (area_at layout_in_use h.sizes k)
      (area_at layout_in_use h.sizes k + area_bytes layout_in_use h.sizes) file d but
      (omega arith) (omega (arith, size, area_before (area_bytes layout_in_use h.sizes) k low))
      (inr (omega (arith, to, area_from (area_bytes layout_in_use h.sizes) k)))
