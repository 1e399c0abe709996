-- What a turn's writes come to, by the fields of a checkpoint.
use Rattle.std.proofs.Common.{◌≡◌, ℕ, ◌-◌, ◌*◌, ◌<◌, ◌≤◌, true, false, ◌≢◌, List, [], ◌∷◌, length, get_or, take, drop}
use Rattle.std.proofs.Common.{replicate, ◌==◌, sym, refl, ap, ◌∙◌, subst, arith, get_or-drop, take_all, get_or-take}
use Rattle.im_types.specs.Types.{Command, LAST, Contents, layout_in_use, area_pages, ring_of, open_gate, Header}
use Rattle.im_types.specs.Types.{header_body, header_place, is_open_header, IsBoundary, ShowsRecords, accept_each}
use Rattle.{im_pages.specs.PageSets.pages_from, im_pages.specs.PageSets.union, im_journal.proofs.Rings.other_number}
use Rattle.{im_journal.proofs.Tails.boundary_end, im_journal.specs.Holding.Holds, im_journal.specs.Holding.JournalState}
use Rattle.{im_meaning.specs.Images.other, im_image.proofs.Headers.same_itself, im_image.specs.Encoding.AreCounted}
use Rattle.im_disk.specs.{Gate.IsClosed, Gate.MayWrite, Moment.Moment, Moment.synced, Moment.written}
use Rattle.im_checkpoint.{proofs.Copies.begins, proofs.Files.gate_is, specs.Turns.begun_at, specs.Turns.next_header}
use Rattle.im_checkpoint.proofs.Moments.{calm_left, in_force_done, next_closed, next_means}
use Rattle.im_checkpoint.specs.Keeping.{IsKept, IsTakenAt, IsWriting, KeepsStep, MeansWith, Paged}
use Rattle.im_checkpoint.specs.Step.{CheckpointState, NoCheckpoint, pages_step, Synced}

-- the gate that was read

gate_byte : (k : ℕ) (file gate : List ℕ) → gate ≡ take 1 (drop (4096 * k) file) → get_or gate 0 0
    ≡ get_or file (4096 * k) 0
gate_byte k file gate read =
    ap (λ (l : List ℕ). get_or l 0 0) read ∙ get_or-take 1 (drop (4096 * k) file) 0 0 (omega arith)
    ∙ get_or-drop (4096 * k) file 0 0 ∙ ap (λ (n : ℕ). get_or file n 0) (omega arith)

pub opened_by : (k : ℕ) (file gate : List ℕ) → gate ≡ take 1 (drop (4096 * k) file) → get_or gate 0 0 ≡ open_gate
    → is_open_header (header_place k file) ≡ true
opened_by k file gate read is = gate_is k file
    ∙ same_itself (get_or file (4096 * k) 0) open_gate (sym (gate_byte k file gate read) ∙ is)

pub closed_by : (k : ℕ) (file gate : List ℕ) → gate ≡ take 1 (drop (4096 * k) file) → get_or gate 0 0 ≢ open_gate
    → is_open_header (header_place k file) ≡ false
closed_by k file gate read isnt = gate_is k file
    ∙ other_number (get_or file (4096 * k) 0) open_gate (λ e. isnt (gate_byte k file gate read ∙ e))

-- the next header as it is spelled
module _ (y : Header) (spelled : List ℕ) (spelled_is : spelled ≡ open_gate ∷ header_body y)
    (long : length spelled ≡ 64) (h : Header) (count : ℕ) (is : y ≡ next_header h count)
    (x : Paged) (m : Contents) (j : JournalState) (m0 : Moment)
    (kept : IsKept (record { header = h; step = Synced count }) x m j m0) where
  abbrev at_sync : CheckpointState
  at_sync = record { header = h; step = Synced count }

  abbrev body : List ℕ
  body = header_body (next_header h count)

  area_is : y.area ≡ other h
  area_is = ap (λ (z : Header). z.area) is

  spelled_next : spelled ≡ open_gate ∷ header_body (next_header h count)
  spelled_next = spelled_is ∙ ap (λ (z : Header). open_gate ∷ header_body z) is

  body_size : length (header_body (next_header h count)) ≡ 63
  body_size = omega (arith, long, ap length spelled_next)

  pub opening_means : (d : List ℕ) → MayWrite (4096 * y.area) spelled m0 d → MeansWith m j d
  opening_means d may = next_means at_sync x m j m0 kept count refl body refl body_size spelled spelled_next d
      (subst (λ (n : ℕ). MayWrite (4096 * n) spelled m0 d) area_is may)

  pub opening_done : ((f : List ℕ) → Holds j f → IsBoundary j.ring j.first (count - j.first) f
      → Holds (begun_at count j) f) → (m1 : Moment) → m1 ≡ synced (written (4096 * y.area) spelled m0)
      → IsKept (record { header = next_header h count; step = NoCheckpoint }) x m (begun_at count j) m1
  opening_done later m1 is_written =
      in_force_done at_sync x m j m0 kept count refl body refl body_size spelled spelled_next later m1
      (subst (λ (n : ℕ). m1 ≡ synced (written (4096 * n) spelled m0)) area_is is_written)

-- where all pages are on the disk, the other header's gate is closed there
pub other_closed : (h : Header) (count : ℕ) (x : Paged) (m : Contents) (j : JournalState) (m0 : Moment)
    → IsKept (record { header = h; step = Synced count }) x m j m0 → IsClosed (4096 * other h) 64 m0
other_closed h count x m j m0 kept = next_closed (record { header = h; step = Synced count }) x m j m0 kept count refl

-- a checkpoint that begins
pub begun_kept : (h : Header) (x : Paged) (copies : List (List ℕ)) (m : Contents) (j : JournalState) (now : Moment)
    → IsKept (record { header = h; step = NoCheckpoint }) x m j now → j.count ≤ LAST → h.generation < LAST
    → AreCounted h.sizes x.records → ShowsRecords h.sizes x.records m → length x.older
    ≡ area_pages layout_in_use h.sizes → length x.recent ≡ area_pages layout_in_use h.sizes
    → IsKept (record { header = h; step = pages_step j.count (pages_from 0 (union x.older x.recent)) })
    (record {
      recent = replicate
          (length x.older) false;
      older = x.recent;
      copies = copies;
      records = x.records;
    }) m j now
begun_kept h x copies m j now kept to_last later counted shows older_size recent_size = record {
  read = kept.read;
  step = by_left (pages_from 0 (union x.older x.recent))
      (begins h x copies now.bytes older_size recent_size kept.read.shown kept.read.commands j.count is_taken ends
      kept.step);
  elsewhere = kept.elsewhere;
  calm = calm_left j.count (pages_from 0 (union x.older x.recent)) now;
}
  where
    is_taken : IsTakenAt h kept.read.shown kept.read.commands j.count x.records
    is_taken = record {
      many = length kept.read.commands;
      few = omega arith;
      count_is = kept.read.count;
      to_last = to_last;
      memory = m;
      accepts = ap (λ (l : List Command). accept_each kept.read.shown l)
          (take_all (length kept.read.commands) kept.read.commands (omega arith)) ∙ kept.read.accepts;
      counted = counted;
      shows = shows;
      later = later;
    }

    ends : IsBoundary (ring_of layout_in_use h.sizes) h.count is_taken.many now.bytes
    ends = boundary_end (ring_of layout_in_use h.sizes) h.count now.bytes
        (record { commands = kept.read.commands; room = kept.read.there }) kept.read.image.journal

    begun : Paged
    begun = record { recent = replicate (length x.older) false; older = x.recent; copies = copies; records = x.records }

    by_left : (l : List ℕ) → IsWriting h kept.read.shown kept.read.commands begun j.count l now.bytes
        → KeepsStep h kept.read.shown kept.read.commands begun (pages_step j.count l) now.bytes
    by_left [] w = w
    by_left (p ∷ l) w = w
