-- What is known of the pages of both areas, from turn to turn and from command to command.
use Rattle.std.proofs.Common.{◌≡◌, ℕ, zero, ◌-◌, ◌<◌, ◌≤◌, Bool, true, false, ◌||◌, ◌≢◌, List, [], ◌∷◌, ◌++◌, length}
use Rattle.std.proofs.Common.{replicate, slice_index_or, Contains, sym, refl, ap, ◌∙◌, subst, ⊎_elim, true≢false, arith}
use Rattle.std.proofs.Common.{length-append}
use Rattle.std.proofs.lemmas.{Bool.cases_eq, List.get_or-replicate, List.get_or_default, List.take-append-le}
use Rattle.im_types.specs.Types.{Command, Contents, layout_in_use, Sizes, page_bytes, area_pages, area_bytes, ring_of}
use Rattle.im_types.specs.Types.{area_of, record_at, Header, header_place, is_open_header, IsBoundary, Records, Shows}
use Rattle.im_types.specs.Types.{accept_each}
use Rattle.im_laws.proofs.Tests.{or_left, or_right, true_or_false}
use Rattle.im_pages.proofs.SetLemmas.{contains_more, contains_rest, length-union, listed, lists-each, read-union}
use Rattle.im_pages.specs.PageSets.{has, pages_from, union}
use Rattle.{im_journal.specs.Holding.KeepsBoundaries, im_meaning.specs.Images.other}
use Rattle.im_image.{proofs.Encoding.area-shows, specs.Encoding.IsAreaPage, specs.Encoding.SameOn}
use Rattle.im_checkpoint.specs.{Copied.copy_of, Turns.next_header}
use Rattle.im_checkpoint.specs.Keeping.{changed_lately, has_changed, IsResting, IsTakenAt, IsWriting, KeepsStep}
use Rattle.im_checkpoint.specs.Keeping.{other_area, other_page, own_page, Paged, Stand}
use Rattle.im_checkpoint.specs.Step.{left_in, NoCheckpoint, PagesDone, PagesLeft, Step, Synced}

pub SameOn-itself : (s : Sizes) (r : Records) (p : ℕ) → SameOn s r r p
SameOn-itself s r p = record { to = λ bytes it. it; from = λ bytes it. it }

SameOn-then : (s : Sizes) (r q t : Records) (p : ℕ) → SameOn s r q p → SameOn s q t p → SameOn s r t p
SameOn-then s r q t p a b = record {
  to = λ bytes it. b.to bytes (a.to bytes it);
  from = λ bytes it. a.from bytes
      (b.from bytes it);
}

contains_none : (p : ℕ) → Contains [] p → ⊥
contains_none p (k, lt, is) = omega (arith, lt)

neither : (a b : Bool) → a ≡ false → b ≡ false → (a || b) ≡ false
neither a b first second = ap (λ x. x || b) first ∙ second

-- files whose areas are the same
module _ (h : Header) (x : Paged) (c d : List ℕ)
    (own : area_of layout_in_use h.sizes h.area d ≡ area_of layout_in_use h.sizes h.area c)
    (others : other_area h d ≡ other_area h c) where
  own_is : (p : ℕ) → own_page h c p ≡ own_page h d p
  own_is p = ap (λ (area : List ℕ). record_at page_bytes area p) (sym own)

  other_is : (p : ℕ) → other_page h c p ≡ other_page h d p
  other_is p = ap (λ (area : List ℕ). record_at page_bytes area p) (sym others)

  pub resting_moved : IsResting h x c → IsResting h x d
  resting_moved it = record {
    own = λ p lt out. subst (IsAreaPage h.sizes x.records p) (own_is p) (it.own p lt out);
    others = λ p lt out. subst (IsAreaPage h.sizes x.records p) (other_is p) (it.others p lt out);
  }

  pub writing_moved : (shown : Contents) (commands : List Command) (count : ℕ) (left : List ℕ)
      → KeepsBoundaries (ring_of layout_in_use h.sizes) h.count c d → IsWriting h shown commands x count left c
      → IsWriting h shown commands x count left d
  writing_moved shown commands count left keeps it = record {
    taken = it.taken;
    is_taken = it.is_taken;
    boundary = keeps it.is_taken.many it.boundary;
    own = λ p lt out. subst (IsAreaPage h.sizes x.records p) (own_is p) (it.own p lt out);
    others = record {
      same = it.others.same;
      copied = it.others.copied;
      written = λ p lt out. subst (IsAreaPage h.sizes it.taken p) (other_is p) (it.others.written p lt out);
      inside = it.others.inside;
    };
  }

  pub step_moved : (shown : Contents) (commands : List Command) (s : Step) → header_place (other h) d
      ≡ header_place (other h) c → KeepsBoundaries (ring_of layout_in_use h.sizes) h.count c d
      → KeepsStep h shown commands x s c → KeepsStep h shown commands x s d
  step_moved shown commands NoCheckpoint place keeps it = resting_moved it
  step_moved shown commands (PagesLeft count left) place keeps it = writing_moved shown commands count left keeps it
  step_moved shown commands (PagesDone count) place keeps it = writing_moved shown commands count [] keeps it
  step_moved shown commands (Synced count) place keeps it =
      (writing_moved shown commands count [] keeps it.0, ap is_open_header place ∙ it.1)

-- a checkpoint begins: the pages that changed are left
module _ (h : Header) (x : Paged) (copies : List (List ℕ)) (file : List ℕ)
    (older_size : length x.older ≡ area_pages layout_in_use h.sizes)
    (recent_size : length x.recent ≡ area_pages layout_in_use h.sizes) where
  abbrev begun : Paged
  begun = record { recent = replicate (length x.older) false; older = x.recent; copies = copies; records = x.records }

  abbrev left : List ℕ
  left = pages_from 0 (union x.older x.recent)

  has_none : (p : ℕ) → p < area_pages layout_in_use h.sizes → has (replicate (length x.older) false) p ≡ false
  has_none p lt = get_or-replicate (length x.older) p false true (omega (arith, lt, older_size))

  has_union : (p : ℕ) → p < area_pages layout_in_use h.sizes → has (union x.older x.recent) p
      ≡ (has x.older p || has x.recent p)
  has_union p lt =
      get_or_default (union x.older x.recent) p true false
      (omega (arith, lt, length-union x.older x.recent, older_size))
      ∙ read-union x.older x.recent p (omega (arith, lt, older_size)) (older_size ∙ sym recent_size)
      ∙ ap (λ b. b || slice_or x.recent p) (get_or_default x.older p false true (omega (arith, lt, older_size)))
      ∙ ap (λ b. has x.older p || b) (get_or_default x.recent p false true (omega (arith, lt, recent_size)))
    where
      slice_or : List Bool → ℕ → Bool
      slice_or set at = slice_index_or set at false

  not_left : (p : ℕ) → p < area_pages layout_in_use h.sizes → (Contains left p → ⊥) → has_changed x p ≡ false
  not_left p lt out = ⊎_elim
      (λ there. absurd (out
      (lists-each (union x.older x.recent) 0 p (omega arith)
      (omega (arith, lt, length-union x.older x.recent, older_size)) (has_union p lt ∙ there))))
      (λ none. none)
      (true_or_false (has_changed x p))

  pub begins : (shown : Contents) (commands : List Command) (count : ℕ)
      → (is_taken : IsTakenAt h shown commands count x.records)
      → IsBoundary (ring_of layout_in_use h.sizes) h.count is_taken.many file → IsResting h x file
      → IsWriting h shown commands begun count left file
  begins shown commands count is_taken boundary it = record {
    taken = x.records;
    is_taken = is_taken;
    boundary = boundary;
    own = λ p lt out. it.own p lt (or_left (has x.recent p) (has (replicate (length x.older) false) p) out);
    others = record {
      same = λ p lt out. SameOn-itself h.sizes x.records p;
      copied = λ p lt among in_it. absurd (true≢false (sym in_it ∙ has_none p lt));
      written = λ p lt out. it.others p lt (not_left p lt out);
      inside = λ p among. omega
          (arith, (listed (union x.older x.recent) 0 p among).inside, length-union x.older x.recent, older_size);
    };
  }

-- a command that names pages
pub record IsPrepared (s : Sizes) (left : List ℕ) (x y : Paged) : Type 0 where
  pub older : y.older ≡ x.older
  pub kept : (p : ℕ) → p < area_pages layout_in_use s → has y.recent p ≡ false → has x.recent p ≡ false
  pub same : (p : ℕ) → p < area_pages layout_in_use s → has y.recent p ≡ false → SameOn s x.records y.records p
  pub copied : (p : ℕ) → p < area_pages layout_in_use s → Contains left p → has x.recent p ≡ false → has y.recent p
      ≡ true → IsAreaPage s x.records p (copy_of y.copies p)
  pub stay : (p : ℕ) → p < area_pages layout_in_use s → has x.recent p ≡ true → copy_of y.copies p ≡ copy_of x.copies p

module _ (h : Header) (x y : Paged) (file : List ℕ) (left : List ℕ) (prepared : IsPrepared h.sizes left x y) where
  unchanged : (p : ℕ) → p < area_pages layout_in_use h.sizes → has_changed y p ≡ false → has_changed x p ≡ false
  unchanged p lt out =
      neither (has x.older p) (has x.recent p)
      (ap (λ (set : List Bool). has set p) (sym prepared.older) ∙ or_left (has y.older p) (has y.recent p) out)
      (prepared.kept p lt (or_right (has y.older p) (has y.recent p) out))

  stands : (on : ℕ → List ℕ) → Stand h.sizes (has_changed x) x.records on → Stand h.sizes (has_changed y) y.records on
  stands on it p lt out = (prepared.same p lt (or_right (has y.older p) (has y.recent p) out)).to (on p)
      (it p lt (unchanged p lt out))

  pub resting_named : IsResting h x file → IsResting h y file
  resting_named it = record {
    own = λ p lt out. (prepared.same p lt out).to (own_page h file p) (it.own p lt (prepared.kept p lt out));
    others = stands (other_page h file) it.others;
  }

  pub writing_named : (shown : Contents) (commands : List Command) (count : ℕ)
      → IsWriting h shown commands x count left file → IsWriting h shown commands y count left file
  writing_named shown commands count it = record {
    taken = it.taken;
    is_taken = it.is_taken;
    boundary = it.boundary;
    own = stands (own_page h file) it.own;
    others = record {
      same = λ p lt out. SameOn-then h.sizes it.taken x.records y.records p
          (it.others.same p lt (prepared.kept p lt out)) (prepared.same p lt out);
      copied = λ p lt among in_it. ⊎_elim
          (λ before. subst (IsAreaPage h.sizes it.taken p) (sym (prepared.stay p lt before))
          (it.others.copied p lt among before))
          (λ fresh. (it.others.same p lt fresh).from (copy_of y.copies p) (prepared.copied p lt among fresh in_it))
          (true_or_false (has x.recent p));
      written = it.others.written;
      inside = it.others.inside;
    };
  }

pub step_named : (h : Header) (x y : Paged) (file : List ℕ) (shown : Contents) (commands : List Command) (s : Step)
    → IsPrepared h.sizes (left_in s) x y → KeepsStep h shown commands x s file → KeepsStep h shown commands y s file
step_named h x y file shown commands NoCheckpoint prepared it = resting_named h x y file [] prepared it
step_named h x y file shown commands
    (PagesLeft count left) prepared it = writing_named h x y file left prepared shown commands count it
step_named h x y file shown commands
    (PagesDone count) prepared it = writing_named h x y file [] prepared shown commands count it
step_named h x y file shown commands (Synced count) prepared it =
    (writing_named h x y file [] prepared shown commands count it.0, it.1)

-- the bytes of a page that is left: its copy where it has changed since, else what the memory's records spell
pub record IsPageFor (s : Sizes) (x : Paged) (i : ℕ) (page : List ℕ) : Type 0 where
  pub copy : changed_lately x i ≡ true → page ≡ copy_of x.copies i
  pub fresh : changed_lately x i ≡ false → IsAreaPage s x.records i page

-- the next page is written
module _ (h : Header) (x : Paged) (c d : List ℕ) (i : ℕ) (rest page : List ℕ) (for_it : IsPageFor h.sizes x i page)
    (own : area_of layout_in_use h.sizes h.area d ≡ area_of layout_in_use h.sizes h.area c)
    (here : other_page h d i ≡ page)
    (apart : (p : ℕ) → p < area_pages layout_in_use h.sizes → p ≢ i → other_page h d p ≡ other_page h c p)
    (shown : Contents) (commands : List Command) (count : ℕ)
    (keeps : KeepsBoundaries (ring_of layout_in_use h.sizes) h.count c d)
    (it : IsWriting h shown commands x count (i ∷ rest) c) where
  first : Contains (i ∷ rest) i
  first = (zero, omega arith, refl)

  pub page_low : i < area_pages layout_in_use h.sizes
  page_low = it.others.inside i first

  this : IsAreaPage h.sizes it.taken i page
  this = ⊎_elim
      (λ copied. subst (IsAreaPage h.sizes it.taken i) (sym (for_it.copy copied))
      (it.others.copied i page_low first copied))
      (λ fresh. (it.others.same i page_low fresh).from page (for_it.fresh fresh))
      (true_or_false (changed_lately x i))

  pub page_written : IsWriting h shown commands x count rest d
  page_written = record {
    taken = it.taken;
    is_taken = it.is_taken;
    boundary = keeps it.is_taken.many it.boundary;
    own = λ p lt out. subst (IsAreaPage h.sizes x.records p)
        (ap (λ (area : List ℕ). record_at page_bytes area p) (sym own)) (it.own p lt out);
    others = record {
      same = it.others.same;
      copied = λ p lt among. it.others.copied p lt (contains_more i rest p among);
      written = λ p lt out. ⊎_elim
          (λ (same : p ≡ i). subst (λ (q : ℕ). IsAreaPage h.sizes it.taken q (other_page h d q)) (sym same)
          (subst (IsAreaPage h.sizes it.taken i) (sym here) this))
          (λ (other_one : p ≢ i). subst (IsAreaPage h.sizes it.taken p) (sym (apart p lt other_one))
          (it.others.written p lt
          (λ among. ⊎_elim (λ (same : i ≡ p). other_one (sym same)) out (contains_rest i rest p among))))
          (cases_eq p i);
      inside = λ p among. it.others.inside p (contains_more i rest p among);
    };
  }

-- all pages are written
module _ (h : Header) (x : Paged) (file : List ℕ) (shown : Contents) (commands : List Command) (count : ℕ)
    (it : IsWriting h shown commands x count [] file) where
  pub area_shows : length (other_area h file) ≡ area_bytes layout_in_use h.sizes
      → Shows layout_in_use h.sizes (other_area h file) it.is_taken.memory
  area_shows long = area-shows h.sizes it.taken it.is_taken.memory
      (other_area h file) it.is_taken.counted it.is_taken.shows long (λ p lt. it.others.written p lt (contains_none p))

  -- and the area takes over
  pub takes_over : h.area ≤ 1 → IsResting (next_header h count) x file
  takes_over low =
      let back : 1 - (1 - h.area) ≡ h.area = omega (arith, low) in
      record {
        own = λ p lt out. (it.others.same p lt out).to (other_page h file p) (it.others.written p lt (contains_none p));
        others = subst (λ (area : ℕ). Stand h.sizes (has_changed x) x.records
            (λ p. record_at page_bytes (area_of layout_in_use h.sizes area file) p)) (sym back) it.own;
      }

-- what was taken was taken of a beginning of more commands too
pub taken_longer : (h : Header) (shown : Contents) (commands later : List Command) (x : Paged) (s : Step)
    (file : List ℕ) → KeepsStep h shown commands x s file → KeepsStep h shown (commands ++ later) x s file
taken_longer h shown commands later x s file it = by_step s it
  where
    writing : (count : ℕ) (left : List ℕ) → IsWriting h shown commands x count left file
        → IsWriting h shown (commands ++ later) x count left file
    writing count left w =
        let few : w.is_taken.many ≤ length commands = w.is_taken.few in
        record {
          taken = w.taken;
          is_taken = record {
            many = w.is_taken.many;
            few = omega (arith, length-append commands later);
            count_is = w.is_taken.count_is;
            to_last = w.is_taken.to_last;
            memory = w.is_taken.memory;
            accepts = ap (λ (l : List Command). accept_each shown l)
                (take-append-le w.is_taken.many commands later w.is_taken.few) ∙ w.is_taken.accepts;
            counted = w.is_taken.counted;
            shows = w.is_taken.shows;
            later = w.is_taken.later;
          };
          boundary = w.boundary;
          own = w.own;
          others = w.others;
        }

    by_step : (s : Step) → KeepsStep h shown commands x s file → KeepsStep h shown (commands ++ later) x s file
    by_step NoCheckpoint w = w
    by_step (PagesLeft count left) w = writing count left w
    by_step (PagesDone count) w = writing count [] w
    by_step (Synced count) w = (writing count [] w.0, w.1)
