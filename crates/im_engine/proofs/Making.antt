-- A new image means the empty memory.
use Rattle.std.proofs.Common.{◌≡◌, ℕ, ◌+◌, ◌-◌, ◌*◌, ◌<◌, ◌≤◌, Bool, true, false, List, [], ◌∷◌, ◌++◌, length}
use Rattle.std.proofs.Common.{replicate, Some, None, Option, sym, refl, ap, ◌∙◌, subst, arith, length-append}
use Rattle.std.proofs.lemmas.List.{get_or-append_right, get_or-replicate, length-replicate, nil_from_length}
use Rattle.im_types.specs.Types.{Command, Limits, AreLimits, Contents, new_window, empty_contents, layout_in_use, Sizes}
use Rattle.im_types.specs.Types.{sizes_of, page_bytes, area_pages, area_bytes, image_length, ring_of, area_of}
use Rattle.im_types.specs.Types.{record_at, zeros, Header, header_body, header_fault, Tail, tail, Records, Shows}
use Rattle.im_types.specs.Types.{IsShown}
use Rattle.im_laws.proofs.{MemoryLemmas.empty-memory, Tests.or_left, Tests.or_right, Tests.true_false}
use Rattle.{im_pages.specs.PageSets.has, im_disk.specs.Moment.Moment, im_image.proofs.AreaPages.page_of_area}
use Rattle.im_journal.proofs.Laws.{closed_zeros}
use Rattle.im_journal.specs.Holding.{AreClosed, Holds, JournalState, ring_under}
use Rattle.im_meaning.{proofs.Headers.in_force, specs.Images.InForce}
use Rattle.im_memory.specs.State.{empty_records, MemoryState}
use Rattle.im_image.proofs.FreshArea.{area_spelled, length-area, length-zeros, new_window_fits, records_with}
use Rattle.im_image.proofs.FreshImage.{area_in_place, length-image, new_header_of, new_image_good, new_image_shows}
use Rattle.im_image.specs.{Encoding.IsAreaPage, Fresh.new_area, Fresh.new_header, Fresh.new_image}
use Rattle.im_checkpoint.{proofs.Moments.kept_calm, specs.Turns.IsIdle}
use Rattle.im_checkpoint.specs.Keeping.{Fits, IsKept, IsResting, Keeps, own_page, Paged, paged}
use Rattle.im_checkpoint.specs.Step.{changed_in, CheckpointState, NoCheckpoint, PagedCheckpoint}
use Rattle.im_engine.specs.State.{journal_of, pages_at_first}

-- the pages of a checkpoint as it is made
pub first_pages : (c : PagedCheckpoint) (h : Header) (formatted : Bool) → IsIdle h formatted c
    → changed_in c ≡ pages_at_first c.state.header formatted
first_pages c h formatted it = (λ i. record { recent = it.recent i; older = it.older i })
    ∙ ap (λ (x : CheckpointState). pages_at_first x.header formatted) (sym it.state)

front : Sizes → List ℕ
front s = (0xA5 ∷ header_body (new_header s)) ++ zeros 8128 ++ new_area s

length-front : (s : Sizes) → length (front s) ≡ 8192 + area_bytes layout_in_use s
unfolding front
length-front s = omega (
  arith,
  length-append ((0xA5 ∷ header_body (new_header s)) ++ zeros 8128)
      (new_area s),
  length-append (0xA5 ∷ header_body (new_header s)) (zeros 8128),
  length-area s,
  length-zeros 8128,
)

pub new_image_closed : (s : Sizes) → AreClosed (ring_of layout_in_use s) (new_image 0xA5 s)
unfolding front
new_image_closed s = closed_zeros (ring_of layout_in_use s) (new_image 0xA5 s) (λ i low high.
    let n : ℕ = 8192 + area_bytes layout_in_use s in
    get_or-append_right (front s) (zeros (area_bytes layout_in_use s + 64 * s.slots)) n i 0 (length-front s)
    (omega arith)
    ∙ get_or-replicate (area_bytes layout_in_use s + 64 * s.slots) (i - n) 0 0 (omega arith))

no_commands : (t : Option Tail) (commands : List Command) (room : ℕ) → t
    ≡ Some (record { commands = commands; room = room }) → commands ≡ [] → t
    ≡ Some (record { commands = []; room = room })
no_commands t commands room is none = is
    ∙ ap (λ (l : List Command). Some (let t : Tail = record { commands = l; room = room } in t)) none

-- so it keeps the empty memory, where its journal is the fresh one
new_image_keeps : (s : Sizes) → AreLimits s.cells s.elements s.slots
    → ((file : List ℕ) → (ring_of layout_in_use s).base + 64 * (ring_of layout_in_use s).slots ≤ length file
    → AreClosed (ring_of layout_in_use s) file → Holds (journal_of (new_header s) 0 s.slots) file)
    → Keeps (new_header s) (empty_contents s.cells s.elements) (journal_of (new_header s) 0 s.slots) (new_image 0xA5 s)
new_image_keeps s limits holds =
    let file : List ℕ = new_image 0xA5 s in
    let m : Contents = empty_contents s.cells s.elements in
    let held : Holds (journal_of (new_header s) 0 s.slots) (new_image 0xA5 s) = holds (new_image 0xA5 s)
    (omega (arith, length-image s)) (new_image_closed s) in
    let none : held.commands ≡ [] = nil_from_length held.commands (omega (arith, held.count)) in
    let good : header_fault layout_in_use file ≡ None = new_image_good s limits in
    let shows : IsShown layout_in_use file m = new_image_shows s limits (empty-memory s.cells s.elements) in
    record {
      shown = m;
      commands = [];
      there = held.there;
      image = record {
        in_force = subst (λ (h : Header). InForce layout_in_use h file) (new_header_of s limits)
            (in_force layout_in_use file good);
        shows = subst (λ (h : Header). Shows layout_in_use h.sizes (area_of layout_in_use h.sizes h.area file) m)
            (new_header_of s limits) shows;
        journal = no_commands (tail (ring_of layout_in_use s) 0 file) held.commands held.there held.reads none;
      };
      accepts = refl;
      count = refl;
      ring = refl;
      first = refl;
      journal = held;
    }

-- the length, whatever its gate is
pub length_new_image : (s : Sizes) → length (new_image 0 s) ≡ image_length layout_in_use s
length_new_image s = length-image s

-- where all pages count as changed, whatever stands in the areas will do
pub rests : (h : Header) (x : Paged) (file : List ℕ) → x.recent ≡ replicate (area_pages layout_in_use h.sizes) true
    → IsResting h x file
rests h x file all = record {
  own = λ p low out. absurd (true_false (sym (changed_here p low) ∙ out));
  others = λ p low out. absurd (true_false (sym (changed_here p low) ∙ or_right (has x.older p) (has x.recent p) out));
}
  where
    changed_here : (p : ℕ) → p < area_pages layout_in_use h.sizes → has x.recent p ≡ true
    changed_here p low = ap (λ (set : List Bool). has set p) all
        ∙ get_or-replicate (area_pages layout_in_use h.sizes) p true true low

-- the pages of a new image's area are those of the empty memory
empty_are : (s : Sizes) → records_with new_window s ≡ empty_records s.cells s.elements
unfolding records_with
empty_are s = refl

new_rests : (s : Sizes) (x : Paged) → x.recent ≡ replicate (area_pages layout_in_use s) false → x.older
    ≡ replicate (area_pages layout_in_use s) true → x.records ≡ empty_records s.cells s.elements
    → IsResting (new_header s) x (new_image 0xA5 s)
new_rests s x none all records = record {
  own = λ p low out. subst (λ (r : Records). IsAreaPage s r p (own_page (new_header s) (new_image 0xA5 s) p))
      (empty_are s ∙ sym records)
      (subst (λ (area : List ℕ). IsAreaPage s (records_with new_window s) p (record_at page_bytes area p))
      (sym (area_in_place s))
      (page_of_area s (records_with new_window s) (new_area s) (length-area s)
      (area_spelled new_window s refl new_window_fits) p low));
  others = λ p low out. absurd (true_false (sym (changed_there p low) ∙ or_left (has x.older p) (has x.recent p) out));
}
  where
    changed_there : (p : ℕ) → p < area_pages layout_in_use s → has x.older p ≡ true
    changed_there p low = ap (λ (set : List Bool). has set p) all
        ∙ get_or-replicate (area_pages layout_in_use s) p true true low

module _ (l : Limits) (range : AreLimits l.cells l.elements l.slots) (c : PagedCheckpoint)
    (c_is : IsIdle (new_header (sizes_of l)) true c)
    (m : MemoryState) (m_is : m.contents ≡ empty_contents l.cells l.elements)
    (records_are : m.records ≡ empty_records l.cells l.elements) (j : JournalState)
    (j_is : j ≡ record { ring = ring_under l; first = 0; count = 0; room = l.slots; ahead = [] }) where
  -- a new checkpoint, an empty memory and a fresh journal are of the same sizes
  pub fresh_fits : Fits c.state m.contents j
  unfolding empty_contents
  fresh_fits =
      subst (λ (x : CheckpointState). Fits x m.contents j) (sym c_is.state)
      (subst (λ (x : Contents). Fits (record { header = new_header (sizes_of l); step = NoCheckpoint }) x j) (sym m_is)
      (subst (λ (x : JournalState). Fits (record { header = new_header (sizes_of l); step = NoCheckpoint })
      (empty_contents l.cells l.elements) x) (sym j_is)
      (record { cells = length-replicate _ _; elements = length-replicate _ _; ring = refl; first = refl; step = tt })))

  -- a disk with a new image keeps them
  pub fresh_kept : ((file : List ℕ) → j.ring.base + 64 * j.ring.slots ≤ length file → AreClosed j.ring file
      → Holds j file)
      → (now : Moment) → now.bytes ≡ new_image 0xA5 (sizes_of l) → now.ranges ≡ []
      → IsKept c.state (paged c m) m.contents j now
  fresh_kept holds now bytes calm =
      let fresh : (file : List ℕ)
      → (ring_of layout_in_use (sizes_of l)).base + 64 * (ring_of layout_in_use (sizes_of l)).slots ≤ length file
      → AreClosed (ring_of layout_in_use (sizes_of l)) file
      → Holds (journal_of (new_header (sizes_of l)) 0 l.slots) file =
      subst (λ (x : JournalState). (file : List ℕ) → x.ring.base + 64 * x.ring.slots ≤ length file
      → AreClosed x.ring file → Holds x file) j_is holds in
      let keeps : Keeps (new_header (sizes_of l)) (empty_contents l.cells l.elements)
      (journal_of (new_header (sizes_of l)) 0 l.slots) (new_image 0xA5 (sizes_of l)) =
      new_image_keeps (sizes_of l) range fresh in
      let read : Keeps (new_header (sizes_of l)) m.contents j now.bytes =
      subst (λ (x : Contents). Keeps (new_header (sizes_of l)) x j now.bytes) (sym m_is)
      (subst (λ (x : JournalState). Keeps (new_header (sizes_of l)) (empty_contents l.cells l.elements) x now.bytes)
      (sym j_is)
      (subst (λ (x : List ℕ). Keeps (new_header (sizes_of l)) (empty_contents l.cells l.elements)
      (journal_of (new_header (sizes_of l)) 0 l.slots) x) (sym bytes) keeps)) in
      subst (λ (x : CheckpointState). IsKept x (paged c m) m.contents j now) (sym c_is.state)
      (kept_calm (record { header = new_header (sizes_of l); step = NoCheckpoint })
      (paged c m) m.contents j now calm read
      (subst (λ (file : List ℕ). IsResting (new_header (sizes_of l)) (paged c m) file) (sym bytes)
      (new_rests (sizes_of l) (paged c m) c_is.recent c_is.older records_are)))
