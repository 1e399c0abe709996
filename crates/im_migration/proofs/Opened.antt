-- What was laid down is an image once its header's gate is open.
use Rattle.std.proofs.Common.{◌≡◌, ℕ, ◌+◌, ◌-◌, ◌*◌, ◌%◌, ◌<◌, ◌≤◌, Bool, true, false, ◌&&◌, ◌≢◌, ◌⊎◌, List, [], ◌∷◌}
use Rattle.std.proofs.Common.{length, get_or, take, drop, if◌then◌else◌, nat_le, ◌==◌, slice_range, Some, Ok, sym, refl}
use Rattle.std.proofs.Common.{ap, ◌∙◌, subst, inl, inr, ⊎_elim, arith, length-drop, get_or-drop, get_or-take}
use Rattle.std.proofs.Common.{ext_get_or}
use Rattle.std.proofs.{lemmas.Bool.cases_eq, lemmas.Bool.cases_lt, lemmas.Bool.Decides.nat_tests, Math.Nat.mod-lt}
use Rattle.im_types.specs.Types.{LAST, AreLimits, Contents, layout_in_use, Sizes, are_sizes, page_bytes, area_pages}
use Rattle.im_types.specs.Types.{area_bytes, ring_of, area_of, record_at, open_gate, Header, header_body, header_in}
use Rattle.im_types.specs.Types.{is_header, spells_header, header_place, is_open_header, is_open, Ring, run}
use Rattle.im_types.specs.Types.{commands_in, closed_from, are_stale, slot, tail, Records, ShowsRecords, Shows, Reads}
use Rattle.im_formats.{proofs.Headers.header_in-spelled, proofs.Headers.spells_header-spelled, specs.Fitting.FitsHeader}
use Rattle.im_disk.proofs.{GateLemmas.body_and_gate, SinceLemmas.leaves_now_synced, SinceLemmas.leaves_then}
use Rattle.im_disk.proofs.OverlayLemmas.{length-overlaid, overlaid_inside, overlaid_outside, overlaid_part}
use Rattle.im_disk.specs.{Gate.IsShut, Gate.MayOpen, Since.LeavesNow, Since.LeavesOnly, Since.SameBut}
use Rattle.im_disk.specs.Moment.{Moment, overlaid, synced, written}
use Rattle.im_journal.proofs.{Rings.other_number, Runs.all_closed, Runs.stops, Tails.tail_of}
use Rattle.im_journal.{proofs.Slots.closed_gate, proofs.Slots.stops_closed, specs.Holding.AreClosed}
use Rattle.im_meaning.proofs.{Headers.in_force_is, Meanings.image_reads}
use Rattle.im_meaning.specs.Images.{InForce, IsImage}
use Rattle.im_records.proofs.Joining.{length_of_take, page_of_drop, page_of_take}
use Rattle.im_image.proofs.{Encoding.area-shows, FreshImage.sizes_are}
use Rattle.im_image.specs.Encoding.{AreCounted, IsAreaPage}
use Rattle.im_migration.proofs.Laid.{but_part, journal_is, laid_stays, length_is}
use Rattle.im_migration.specs.Laying.{IsLaid}
use Rattle.im_migration.specs.Migration.{IsBlank, IsLaidDown, moved_header, whole_room}

-- a journal all of whose gates are closed has no command, whatever the first one's number would be
module _ (r : Ring) (first : ℕ) (file : List ℕ) (some : 0 < r.slots) (closed : AreClosed r file) where
  shut : (s : ℕ) → is_open (slot r s file) ≡ false
  shut s = closed_gate r s file (closed (s % r.slots) (mod-lt s some))

  none : run r first file ≡ []
  none = stops r r.slots first file (λ more. stops_closed (slot r first file) first (shut first))

  abbrev gates : ℕ
  gates = closed_from r (r.slots - 0) (first + 0) file

  all : gates ≡ r.slots
  all = ap (λ (n : ℕ). closed_from r n (first + 0) file) whole
      ∙ all_closed r r.slots (first + 0) file (λ i low high. shut i)
    where
      whole : r.slots - 0 ≡ r.slots
      whole = omega arith

  pub tail_empty : tail r first file ≡ Some (record { commands = []; room = whole_room r.slots first })
  tail_empty = tail_of r first file (record { commands = []; room = whole_room r.slots first }) (record {
    read = ap (λ (l : List (List ℕ)). commands_in 0 first l) none;
    size = ap length none;
    stale = ap (λ (n : ℕ). are_stale r n (first + 0 + gates) first file) over;
    room = ap (λ (n : ℕ). if n == LAST then 0 else gates) here ∙ ap (λ (n : ℕ). if first == LAST then 0 else n) all;
  })
    where
      here : first + 0 ≡ first
      here = omega arith

      over : r.slots - 0 - gates ≡ 0
      over = omega (arith, all)

-- the byte of the second header's gate
second_gate : (file : List ℕ) → is_open_header (header_place 1 file) ≡ (get_or file 4096 0 == open_gate)
second_gate file = ap (λ (b : ℕ). b == open_gate)
    (get_or-take 64 (drop 4096 file) 0 0 (omega arith) ∙ get_or-drop 4096 file 0 0)

moved_fits : (s : Sizes) (count : ℕ) → AreLimits s.cells s.elements s.slots → count ≤ LAST
    → FitsHeader (moved_header s count)
moved_fits s count limits last = record {
  version = omega arith;
  generation = omega arith;
  count = omega (arith, last);
  cells = omega (arith, limits.few_cells);
  elements = omega (arith, limits.few_elements);
  slots = omega (arith, limits.few_slots);
}

moved_is_header : (s : Sizes) (count : ℕ) → AreLimits s.cells s.elements s.slots → count ≤ LAST
    → is_header layout_in_use 0 (moved_header s count) ≡ true
moved_is_header s count limits last = ap (λ (b : Bool). b && are_sizes layout_in_use s) (is_least count LAST last)
    ∙ sizes_are s limits
  where
    is_least : (m n : ℕ) → m ≤ n → nat_le m n ≡ true
    is_least m n le = grind (arith, nat_tests)

module _ (s : Sizes) (limits : AreLimits s.cells s.elements s.slots) (count : ℕ) (last : count ≤ LAST) (r : Records)
    (m : Contents) (counted : AreCounted s r) (shows : ShowsRecords s r m)
    (file : List ℕ) (laid : IsLaid s r (area_pages layout_in_use s) s.slots file) (apart : IsShut 4096 file) where
  abbrev h : Header
  h = moved_header s count

  -- the header and its open gate
  abbrev spelled : List ℕ
  spelled = open_gate ∷ header_body h

  -- the image
  abbrev opened : List ℕ
  opened = overlaid file 0 spelled

  long : 8192 ≤ length file
  long = omega (arith, laid.size, length_is s, journal_is s)

  fits : 0 + length spelled ≤ length file
  fits = omega (arith, long)

  but : SameBut 0 64 file opened
  but = but_part file 0 64 spelled refl fits

  still : IsLaid s r (area_pages layout_in_use s) s.slots opened
  still = laid_stays s r (area_pages layout_in_use s) s.slots 0 64 file opened (omega arith) (omega arith) but laid

  place : header_place 0 opened ≡ spelled
  place = overlaid_part file 0 spelled fits

  below : is_open_header (header_place 1 opened) ≡ false
  below = second_gate opened
      ∙ other_number (get_or opened 4096 0) open_gate (λ is. apart (sym (but.same 4096 (inr (omega arith))) ∙ is))

  in_force : InForce layout_in_use h opened
  in_force = record {
    number = omega arith;
    size = still.size;
    opened = ap is_open_header place;
    fields = ap header_in place ∙ header_in-spelled open_gate h (moved_fits s count limits last);
    spelled = ap (λ (l : List ℕ). spells_header layout_in_use 0 l) place
        ∙ spells_header-spelled layout_in_use 0 open_gate h (moved_fits s count limits last)
        (moved_is_header s count limits last);
    below = inl below;
  }

  abbrev area : List ℕ
  area = take (page_bytes * area_pages layout_in_use s) (drop (page_bytes * 2) opened)

  area_is : area_of layout_in_use s 0 opened ≡ area
  area_is =
      ap (λ (n : ℕ). slice_range opened n (n + area_bytes layout_in_use s)) (begins (area_bytes layout_in_use s))
      ∙ ap (λ (n : ℕ). take n (drop 8192 opened)) (less 8192 (area_bytes layout_in_use s))
    where
      begins : (n : ℕ) → 2 * 4096 + n * 0 ≡ 8192
      begins n = omega arith

      less : (a b : ℕ) → (a + b) - a ≡ b
      less a b = omega arith

  area_long : length area ≡ area_bytes layout_in_use s
  area_long = length_of_take (area_pages layout_in_use s) (drop (page_bytes * 2) opened)
      (omega (arith, length-drop (page_bytes * 2) opened, still.size, length_is s, journal_is s))

  page_is : (i : ℕ) → i < area_pages layout_in_use s → record_at page_bytes area i ≡ record_at page_bytes opened (2 + i)
  page_is i lt = page_of_take (area_pages layout_in_use s) i (drop (page_bytes * 2) opened) lt ∙ page_of_drop 2 i opened

  shown : Shows layout_in_use s (area_of layout_in_use s 0 opened) m
  shown = subst (λ (l : List ℕ). Shows layout_in_use s l m) (sym area_is)
      (area-shows s r m area counted shows area_long
      (λ i lt. subst (IsAreaPage s r i) (sym (page_is i lt)) (still.paged i lt)))

  image : IsImage layout_in_use h m [] (whole_room s.slots count) opened
  image = record {
    in_force = in_force;
    shows = shown;
    journal = tail_empty (ring_of layout_in_use s) count opened (omega (arith, limits.enough_slots)) still.closed;
  }

  pub laid_down : IsLaidDown h m opened
  laid_down = record {
    header = in_force_is layout_in_use h opened in_force;
    means = (
      whole_room s.slots count,
      omega arith,
      subst (λ (n : ℕ). Reads layout_in_use opened
          (Ok (record { contents = m; count = n; room = whole_room s.slots count }))) (omega arith)
          (image_reads layout_in_use h m m [] (whole_room s.slots count) opened image refl),
    );
  }

  -- the file once the header stands behind its closed gate
  abbrev staged : List ℕ
  staged = overlaid file 1 (header_body h)

  both : overlaid staged 0 (open_gate ∷ []) ≡ opened
  both = body_and_gate file (header_body h) 0 open_gate (omega (arith, long))

  staged_long : length staged ≡ length file
  staged_long = length-overlaid file 1 (header_body h) (omega (arith, long))

  pub laid_open : IsLaidDown h m (overlaid staged 0 (open_gate ∷ []))
  laid_open = subst (IsLaidDown h m) (sym both) laid_down

  -- a file that agrees with it but for the gate, which is open
  by_gate : (c : List ℕ) → SameBut 0 1 staged c → get_or c 0 0 ≡ open_gate → c ≡ overlaid staged 0 (open_gate ∷ [])
  by_gate c same is = ext_get_or 0 c (overlaid staged 0 (open_gate ∷ []))
      (same.size ∙ sym (length-overlaid staged 0 (open_gate ∷ []) room)) (λ i lt. ⊎_elim
      (λ (first : i < 1). let zero_is : i ≡ 0 = omega (arith, first) in
      ap (λ (n : ℕ). get_or c n 0) zero_is ∙ is
      ∙ sym (ap (λ (n : ℕ). get_or (overlaid staged 0 (open_gate ∷ [])) n 0) zero_is
      ∙ overlaid_inside staged 0 (open_gate ∷ []) room 0 (omega arith) (omega arith)))
      (λ (later : 1 ≤ i). same.same i (inr later) ∙ sym (overlaid_outside staged 0 (open_gate ∷ []) room i (inr later)))
      (cases_lt i 1))
    where
      room : 0 + 1 ≤ length staged
      room = omega (arith, staged_long, long)

  -- so whatever the opening of the gate leaves is no image, or this one
  pub blank_or_laid : (c : List ℕ) → SameBut 0 1 staged c → IsBlank c ⊎ IsLaidDown h m c
  blank_or_laid c same = ⊎_elim
      (λ (is : get_or c 0 0 ≡ open_gate). inr (subst (IsLaidDown h m) (sym (by_gate c same is)) laid_open))
      (λ (shut_here : get_or c 0 0 ≢ open_gate). inl (
        shut_here,
        λ is. apart
            (sym (same.same 4096 (inr (omega arith))
            ∙ overlaid_outside file 1 (header_body h) (omega (arith, long)) 4096 (inr (omega arith))) ∙ is),
      ))
      (cases_eq (get_or c 0 0) open_gate)

  -- the same of a disk on which the header stands behind its closed gate, while that is opened
  module _ {D : Type 0} (now : D → Moment) (past : D → List Moment) (old mid new : D) (is : (now mid).bytes ≡ staged)
      (first : LeavesOnly now past old mid IsBlank) (opens : LeavesOnly now past mid new (MayOpen 0 (now mid))) where
    by_opening : (c : List ℕ) → MayOpen 0 (now mid) c → IsBlank c ⊎ IsLaidDown h m c
    by_opening c (inl left) = inl (first.after c left)
    by_opening c (inr same) = blank_or_laid c (subst (λ (l : List ℕ). SameBut 0 1 l c) is same)

    pub leaves_laid : LeavesOnly now past old new (λ file. IsBlank file ⊎ IsLaidDown h m file)
    leaves_laid = record {
      within = leaves_then (now old) (now mid) (now new) (past old) (past mid) (past new) IsBlank
          (MayOpen 0 (now mid)) (λ file. IsBlank file ⊎ IsLaidDown h m file) first.within opens.within
          (λ c blank. inl blank) by_opening;
      after = λ c left. by_opening c (opens.after c left);
    }

    pub laid_now : now new ≡ synced (written 0 (open_gate ∷ []) (now mid)) → LeavesNow (now new) (IsLaidDown h m)
    laid_now done = leaves_now_synced (written 0 (open_gate ∷ []) (now mid)) (now new) (IsLaidDown h m) done
        (subst (λ (l : List ℕ). IsLaidDown h m (overlaid l 0 (open_gate ∷ []))) (sym is) laid_open)
