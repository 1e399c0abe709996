-- What each device call of a turn may leave.
use Rattle.std.proofs.Common.{◌≡◌, ℕ, zero, ◌+◌, ◌-◌, ◌*◌, ◌<◌, ◌≤◌, true, false, List, [], ◌∷◌, length, ◌==◌, sym}
use Rattle.std.proofs.Common.{refl, ap, ◌∙◌, subst, inl, ⊎_elim, arith}
use Rattle.im_types.specs.Types.{Contents, layout_in_use, area_pages, area_bytes, area_at, open_gate, header_body}
use Rattle.im_types.specs.Types.{header_place, is_open_header, IsBoundary}
use Rattle.{im_laws.proofs.Tests.true_false, im_meaning.specs.Images.other, im_image.proofs.Headers.same_itself}
use Rattle.im_disk.proofs.SinceLemmas.{leaves_start, leaves_step, left_settled, left_sync, left_torn}
use Rattle.im_disk.specs.Gate.{HasThere, IsClosed, IsShut, MayWrite}
use Rattle.im_disk.specs.Moment.{Left, MayTick, Moment, overlaid, Shaken, synced, Torn, written}
use Rattle.im_disk.specs.Since.{Leaves, LeavesNow, SameBut}
use Rattle.im_journal.specs.Holding.{Holds, JournalState}
use Rattle.im_checkpoint.proofs.{Bytes.same_all, Bytes.same_back, Bytes.same_overlaid, Bytes.same_then}
use Rattle.im_checkpoint.proofs.{Bytes.same_wider, Copies.IsPageFor, Copies.page_written, Copies.writing_moved}
use Rattle.im_checkpoint.proofs.{Files.area_stays, Files.gate_is, Files.keeps_at, Files.size, Files.Still}
use Rattle.im_checkpoint.proofs.{Files.still_gate, Files.still_in_area, Files.still_means, Headers.area_from}
use Rattle.im_checkpoint.proofs.{Headers.place_to, Pages.apart_page, Pages.own_area, Pages.page_fits, Pages.page_still}
use Rattle.im_checkpoint.proofs.{Pages.shut_but, Pages.shut_gate, Pages.shut_still, Pages.this_page, Takeover.next_kept}
use Rattle.im_checkpoint.proofs.{Takeover.next_rests, Takeover.shut_torn, Takeover.whole_there}
use Rattle.im_checkpoint.specs.Keeping.{IsCalm, IsKept, IsWriting, Keeps, KeepsStep, MeansWith, Paged}
use Rattle.im_checkpoint.specs.Step.{CheckpointState, NoCheckpoint, pages_step, PagesDone, PagesLeft, Step, Synced}
use Rattle.im_checkpoint.specs.Turns.{begun_at, next_header}

-- where nothing is in doubt every state is calm
calm_all : (s : Step) (now : Moment) → now.ranges ≡ [] → IsCalm s now
calm_all NoCheckpoint now none = none
calm_all (PagesLeft count left) now none = tt
calm_all (PagesDone count) now none = tt
calm_all (Synced count) now none = none

pub calm_left : (count : ℕ) (left : List ℕ) (now : Moment) → IsCalm (pages_step count left) now
calm_left count [] now = tt
calm_left count (page ∷ left) now = tt

-- what is read where nothing is in doubt is kept
pub kept_calm : (c : CheckpointState) (x : Paged) (m : Contents) (j : JournalState) (now : Moment) → now.ranges ≡ []
    → (read : Keeps c.header m j now.bytes) → KeepsStep c.header read.shown read.commands x c.step now.bytes
    → IsKept c x m j now
kept_calm c x m j now none read step = record {
  read = read;
  step = step;
  elsewhere = λ d left. subst
      (λ (l : List ℕ). SameBut (area_at layout_in_use c.header.sizes (other c.header))
      (area_bytes layout_in_use c.header.sizes) now.bytes l) (sym (left_settled now d none left))
      (same_all (area_at layout_in_use c.header.sizes (other c.header))
      (area_bytes layout_in_use c.header.sizes) now.bytes);
  calm = calm_all c.step now none;
}

-- the same of bytes that are those of a file
pub kept_file : (c : CheckpointState) (x : Paged) (m : Contents) (j : JournalState) (now : Moment) (file : List ℕ)
    → now.ranges ≡ [] → now.bytes ≡ file → (read : Keeps c.header m j file)
    → KeepsStep c.header read.shown read.commands x c.step file → IsKept c x m j now
kept_file c x m j now file none is read step = by_file now.bytes (sym is) none
  where
    AtBytes : List ℕ → Type 0
    AtBytes file = (read : Keeps c.header m j file) × KeepsStep c.header read.shown read.commands x c.step file

    by_file : (bytes : List ℕ) → file ≡ bytes → now.ranges ≡ [] → IsKept c x m j now
    by_file bytes same none = let at : AtBytes now.bytes = subst AtBytes (sym is)
        (read, step) in kept_calm c x m j now none at.0 at.1

module _ (c : CheckpointState) (x : Paged) (m : Contents) (j : JournalState) (m0 : Moment)
    (kept : IsKept c x m j m0) where
  abbrev P : List ℕ → Type 0
  P = MeansWith m j

  abbrev start : ℕ
  start = area_at layout_in_use c.header.sizes (other c.header)

  abbrev many : ℕ
  many = area_bytes layout_in_use c.header.sizes

  still : (d : List ℕ) → SameBut start many m0.bytes d → Still c.header m j m0.bytes kept.read d
  still d but = still_in_area c.header m j m0.bytes kept.read start many d but (omega arith) (omega arith)

  near_means : (d : List ℕ) → SameBut start many m0.bytes d → P d
  near_means d but = still_means c.header m j m0.bytes kept.read d (still d but)

  -- each file that may be left means the memory
  pub means_left : (d : List ℕ) → Left m0 d → P d
  means_left d left = near_means d (kept.elsewhere d left)

  -- a page
  module _ (count : ℕ) (i : ℕ) (left : List ℕ) (is : c.step ≡ PagesLeft count (i ∷ left)) (bytes : List ℕ)
      (size_page : length bytes ≡ 4096) (page : IsPageFor c.header.sizes x i bytes)
      (at : ℕ) (at_is : at ≡ area_at layout_in_use c.header.sizes (other c.header) + 4096 * i) where
    known : IsWriting c.header kept.read.shown kept.read.commands x count (i ∷ left) m0.bytes
    known = subst (λ (s : Step). KeepsStep c.header kept.read.shown kept.read.commands x s m0.bytes) is kept.step

    few : i < area_pages layout_in_use c.header.sizes
    few = known.others.inside i (zero, omega arith, refl)

    fits : at + length bytes ≤ length m0.bytes
    fits = page_fits c.header m j m0.bytes kept.read i few bytes size_page at at_is

    wide : (d e : List ℕ) → SameBut at (length bytes) d e → SameBut start many d e
    wide d e but = same_wider at (length bytes) start many d e but (omega (arith, at_is))
        (omega (arith, at_is, size_page, few))

    module _ (past0 : List Moment) (m1 : Moment) (past1 : List Moment)
        (tick : MayTick (Torn at (length bytes)) m0 m1 past0 past1) where
      near : (d : List ℕ) → Left m1 d → SameBut start many m0.bytes d
      near d here = ⊎_elim
          (λ nothing. kept.elsewhere d (subst (λ (y : Moment). Left y d) nothing.0 here))
          (λ ticked. let from : (e : List ℕ) × Left m0 e
          × SameBut at (length bytes) e d = left_torn at (length bytes) m0 m1 fits ticked.now d here in
          same_then start many m0.bytes from.0 d (kept.elsewhere from.0 from.1) (wide from.0 d from.2))
          tick

      pub page_now : LeavesNow m1 (MeansWith m j)
      page_now d here = near_means d (near d here)

      pub page_leaves : Leaves m0 m1 past0 past1 (MeansWith m j)
      page_leaves = leaves_step m0 m0 m1 past0 past0 past1 P (Torn at (length bytes))
          (leaves_start m0 past0 P) tick page_now

      new_step : KeepsStep c.header kept.read.shown kept.read.commands x (pages_step count left)
          (overlaid m0.bytes at bytes)
      new_step = by_left left (page_written c.header x m0.bytes (overlaid m0.bytes at bytes) i left bytes page
          (own_area c.header m j m0.bytes kept.read i few bytes size_page at at_is)
          (this_page c.header m j m0.bytes kept.read i few bytes size_page at at_is)
          (apart_page c.header m j m0.bytes kept.read i few bytes size_page at at_is)
          kept.read.shown kept.read.commands count
          (page_still c.header m j m0.bytes kept.read i few bytes size_page at at_is).boundaries known)
        where
          by_left : (l : List ℕ)
              → IsWriting c.header kept.read.shown kept.read.commands x count l (overlaid m0.bytes at bytes)
              → KeepsStep c.header kept.read.shown kept.read.commands x (pages_step count l)
              (overlaid m0.bytes at bytes)
          by_left [] w = w
          by_left (p ∷ l) w = w

      pub page_done : m1 ≡ written at bytes m0
          → IsKept (record { header = c.header; step = pages_step count left }) x m j m1
      page_done is_written =
          let bytes_are : m1.bytes ≡ overlaid m0.bytes at bytes = ap (λ (y : Moment). y.bytes) is_written in
          let both : (read : Keeps c.header m j m1.bytes)
          × KeepsStep c.header read.shown read.commands x (pages_step count left) m1.bytes =
          subst (λ (l : List ℕ). (read : Keeps c.header m j l)
          × KeepsStep c.header read.shown read.commands x (pages_step count left) l) (sym bytes_are) (
            keeps_at c.header m j m0.bytes kept.read (overlaid m0.bytes at bytes)
                (page_still c.header m j m0.bytes kept.read i few bytes size_page at at_is),
            new_step,
          ) in
          record {
            read = both.0;
            step = both.1;
            elsewhere = λ d here. same_then start many m1.bytes m0.bytes d
                (same_back start many m0.bytes m1.bytes
                (wide m0.bytes m1.bytes
                (subst (λ (l : List ℕ). SameBut at (length bytes) m0.bytes l) (sym bytes_are)
                (same_overlaid m0.bytes at bytes fits))))
                (near d here);
            calm = calm_left count left m1;
          }

  -- a call that only reads
  pub read_now : (past0 : List Moment) (m1 : Moment) (past1 : List Moment) → MayTick (λ a b. b ≡ a) m0 m1 past0 past1
      → LeavesNow m1 (MeansWith m j)
  read_now past0 m1 past1 tick d here = means_left d
      (subst (λ (x : Moment). Left x d) (⊎_elim (λ nothing. nothing.0) (λ ticked. ticked.now) tick) here)

  pub read_leaves : (past0 : List Moment) (m1 : Moment) (past1 : List Moment)
      → MayTick (λ a b. b ≡ a) m0 m1 past0 past1 → Leaves m0 m1 past0 past1 (MeansWith m j)
  read_leaves past0 m1 past1 tick = leaves_step m0 m0 m1 past0 past0 past1 P (λ a b. b ≡ a)
      (leaves_start m0 past0 P) tick (read_now past0 m1 past1 tick)

  -- the other header's gate
  module _ (past0 : List Moment) (m1 : Moment) (past1 : List Moment)
      (read_tick : MayTick (λ a b. b ≡ a) m0 m1 past0 past1) where
    m1_is : m1 ≡ m0
    m1_is = ⊎_elim (λ nothing. nothing.0) (λ ticked. ticked.now) read_tick

    -- it is closed
    module _ (m2 : Moment) (past2 : List Moment) (sync_tick : MayTick Shaken m1 m2 past1 past2) where
      pub closed_now : LeavesNow m2 (MeansWith m j)
      closed_now d here = read_now past0 m1 past1 read_tick d (left_sync m1 m2 past1 past2 sync_tick d here)

      pub closed_leaves : Leaves m0 m2 past0 past2 (MeansWith m j)
      closed_leaves = leaves_step m0 m1 m2 past0 past1 past2 P Shaken
          (read_leaves past0 m1 past1 read_tick) sync_tick closed_now

      pub closed_done : (count : ℕ) → c.step ≡ PagesDone count
          → is_open_header (header_place (other c.header) m0.bytes) ≡ false → m2 ≡ synced m1
          → IsKept (record { header = c.header; step = Synced count }) x m j m2
      closed_done count is closed is_synced =
          let known : IsWriting c.header kept.read.shown kept.read.commands x count [] m0.bytes = subst
          (λ (s : Step). KeepsStep c.header kept.read.shown kept.read.commands x s m0.bytes) is kept.step in
          kept_file (record { header = c.header; step = Synced count }) x m j m2 m0.bytes
          (ap (λ (y : Moment). y.ranges) is_synced)
          (ap (λ (y : Moment). y.bytes) is_synced ∙ ap (λ (y : Moment). y.bytes) m1_is) kept.read (known, closed)

    -- it is open, and is being closed
    module _ (opened : is_open_header (header_place (other c.header) m0.bytes) ≡ true) (m2 : Moment)
        (past2 : List Moment) (write_tick : MayTick (Torn (4096 * other c.header) 1) m1 m2 past1 past2) where
      before : (e : List ℕ) → Left m1 e → Left m0 e
      before e here = subst (λ (x : Moment). Left x e) m1_is here

      place_fits : 4096 * other c.header + 1 ≤ length m1.bytes
      place_fits = subst (λ (x : Moment). 4096 * other c.header + 1 ≤ length x.bytes) (sym m1_is)
          (omega (arith, place_to c.header.area, size c.header m j m0.bytes kept.read))

      -- a file that might be left before keeps the memory too, with the gate open
      gate_before : (e : List ℕ) → SameBut start many m0.bytes e → is_open_header (header_place (other c.header) e)
          ≡ true
      gate_before e but =
          gate_is (other c.header) e
          ∙ ap (λ (b : ℕ). b == open_gate)
          (but.same (4096 * other c.header)
          (inl (omega (arith, place_to c.header.area, area_from many (other c.header)))))
          ∙ sym (gate_is (other c.header) m0.bytes) ∙ opened

      torn_means : (e d : List ℕ) → SameBut start many m0.bytes e → SameBut (4096 * other c.header) 1 e d → P d
      torn_means e d but gate =
          let keeps : Keeps c.header m j e = keeps_at c.header m j m0.bytes kept.read e (still e but) in
          still_means c.header m j e keeps d (still_gate c.header m j e keeps d (gate_before e but) gate)

      pub shut_now : LeavesNow m2 (MeansWith m j)
      shut_now d here = ⊎_elim
          (λ nothing. means_left d (before d (subst (λ (x : Moment). Left x d) nothing.0 here)))
          (λ ticked. let from : (e : List ℕ) × Left m1 e
          × SameBut (4096 * other c.header) 1 e d = left_torn
          (4096 * other c.header) 1 m1 m2 place_fits ticked.now d here in
          torn_means from.0 d (kept.elsewhere from.0 (before from.0 from.1)) from.2)
          write_tick

      pub shut_leaves : Leaves m0 m2 past0 past2 (MeansWith m j)
      shut_leaves = leaves_step m0 m1 m2 past0 past1 past2 P (Torn (4096 * other c.header) 1)
          (read_leaves past0 m1 past1 read_tick) write_tick shut_now

      module _ (m3 : Moment) (past3 : List Moment) (sync_tick : MayTick Shaken m2 m3 past2 past3) where
        pub shut_sync_now : LeavesNow m3 (MeansWith m j)
        shut_sync_now d here = shut_now d (left_sync m2 m3 past2 past3 sync_tick d here)

        pub shut_sync_leaves : Leaves m0 m3 past0 past3 (MeansWith m j)
        shut_sync_leaves = leaves_step m0 m2 m3 past0 past2 past3 P Shaken shut_leaves sync_tick shut_sync_now

        pub shut_done : (count : ℕ) → c.step ≡ PagesDone count → m2 ≡ written (4096 * other c.header) (0 ∷ []) m1
            → m3 ≡ synced m2
            → IsKept (record { header = c.header; step = Synced count }) x m j m3
        shut_done count is is_written is_synced =
            let file : List ℕ = overlaid m0.bytes (4096 * other c.header) (0 ∷ []) in
            let bytes_are : m3.bytes ≡ overlaid m0.bytes (4096 * other c.header) (0 ∷ []) =
            ap (λ (y : Moment). y.bytes) is_synced ∙ ap (λ (y : Moment). y.bytes) is_written
            ∙ ap (λ (y : Moment). overlaid y.bytes (4096 * other c.header) (0 ∷ [])) m1_is in
            let known : IsWriting c.header kept.read.shown kept.read.commands x count [] m0.bytes = subst
            (λ (s : Step). KeepsStep c.header kept.read.shown kept.read.commands x s m0.bytes) is kept.step in
            let but = shut_but c.header m j m0.bytes kept.read in
            let low : 4096 * other c.header + 1 ≤ 8192 = omega (arith, place_to c.header.area) in
            kept_file (record { header = c.header; step = Synced count }) x m j m3 file
            (ap (λ (y : Moment). y.ranges) is_synced) bytes_are
            (keeps_at c.header m j m0.bytes kept.read file (shut_still c.header m j m0.bytes kept.read opened)) (
              writing_moved c.header x m0.bytes file
                  (area_stays c.header m j m0.bytes kept.read c.header.area
                  (4096 * other c.header) 1 file but low kept.read.image.in_force.number)
                  (area_stays c.header m j m0.bytes kept.read (other c.header) (4096 * other c.header) 1 file but low
                  (omega arith)) kept.read.shown kept.read.commands count []
                  (shut_still c.header m j m0.bytes kept.read opened).boundaries known,
              shut_gate c.header m j m0.bytes kept.read,
            )

  -- the next header
  module _ (count : ℕ) (is : c.step ≡ Synced count) where
    at_sync : IsWriting c.header kept.read.shown kept.read.commands x count [] m0.bytes
        × (is_open_header (header_place (other c.header) m0.bytes) ≡ false)
    at_sync = subst (λ (s : Step). KeepsStep c.header kept.read.shown kept.read.commands x s m0.bytes) is kept.step

    only : (d : List ℕ) → Left m0 d → d ≡ m0.bytes
    only d here = left_settled m0 d (subst (λ (s : Step). IsCalm s m0) is kept.calm) here

    shut_there : IsShut (4096 * other c.header) m0.bytes
    shut_there opened =
        true_false (sym (same_itself _ _ opened) ∙ sym (gate_is (other c.header) m0.bytes) ∙ at_sync.1)

    -- its gate is closed in each file that may be left
    pub next_closed : IsClosed (4096 * other c.header) 64 m0
    next_closed = record {
      inside = omega (arith, place_to c.header.area, size c.header m j m0.bytes kept.read);
      shut = λ d here. subst (λ (l : List ℕ). IsShut (4096 * other c.header) l) (sym (only d here)) shut_there;
    }

    module _ (body : List ℕ) (body_is : body ≡ header_body (next_header c.header count))
        (body_size : length body ≡ 63) (bytes : List ℕ) (bytes_are : bytes ≡ open_gate ∷ body) where
      long : length bytes ≡ 64
      long = omega (arith, ap length bytes_are, body_size)

      pub next_means : (d : List ℕ) → MayWrite (4096 * other c.header) bytes m0 d → MeansWith m j d
      next_means d may =
          let but : SameBut (4096 * other c.header) 64 m0.bytes d =
          subst (λ (l : List ℕ). SameBut (4096 * other c.header) 64 l d) (only may.from may.left)
          (subst (λ (n : ℕ). SameBut (4096 * other c.header) n may.from d) long may.same) in
          ⊎_elim
          (λ shut. shut_torn c.header x m j m0.bytes kept.read count at_sync body body_is body_size d but shut)
          (λ there. whole_there c.header x m j m0.bytes kept.read count at_sync body body_is body_size d but
          (subst (λ (l : List ℕ). HasThere (4096 * other c.header) l d) bytes_are there))
          may.gated

      pub in_force_done :
          ((f : List ℕ) → Holds j f → IsBoundary j.ring j.first (count - j.first) f → Holds (begun_at count j) f)
          → (m1 : Moment) → m1 ≡ synced (written (4096 * other c.header) bytes m0)
          → IsKept (record { header = next_header c.header count; step = NoCheckpoint }) x m (begun_at count j) m1
      in_force_done later m1 is_written =
          let file : List ℕ = overlaid m0.bytes (4096 * other c.header) (open_gate ∷ body) in
          let bytes_is : m1.bytes ≡ overlaid m0.bytes (4096 * other c.header) (open_gate ∷ body) =
          ap (λ (y : Moment). y.bytes) is_written
          ∙ ap (λ (l : List ℕ). overlaid m0.bytes (4096 * other c.header) l) bytes_are in
          kept_file (record { header = next_header c.header count; step = NoCheckpoint }) x m
          (begun_at count j) m1 file (ap (λ (y : Moment). y.ranges) is_written) bytes_is
          (next_kept c.header x m j m0.bytes kept.read count at_sync body body_is body_size later)
          (next_rests c.header x m j m0.bytes kept.read count at_sync body body_is body_size)
