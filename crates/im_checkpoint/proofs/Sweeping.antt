-- Gates that a sweep may have closed.
use Rattle.std.proofs.Common.{◌≡◌, ℕ, ◌+◌, ◌*◌, ◌≤◌, List, [], length, OnOk, slice_range, Some, None, Ok, Err, Option}
use Rattle.std.proofs.Common.{Result, MatchResult, sym, refl, ap, ◌∙◌, subst, inl, arith}
use Rattle.im_types.specs.Types.{Command, Refusal, Contents, layout_in_use, area_bytes, area_at, journal_at, ring_of}
use Rattle.im_types.specs.Types.{area_of, Header, header_in, spells_header, header_place, is_open_header, Ring, Tail}
use Rattle.im_types.specs.Types.{tail, Shows}
use Rattle.im_disk.proofs.SinceLemmas.{leaves_start, left_now, left_settled}
use Rattle.im_disk.specs.{Moment.Moment, Since.SameBut}
use Rattle.im_journal.specs.Holding.{AllHold, IsSweptBy, JournalState, KeepsBoundaries, MaySweep, SameRun, Sweeps}
use Rattle.im_journal.specs.Holding.{with_room}
use Rattle.im_meaning.specs.Images.{InForce, IsBelow, IsImage, other}
use Rattle.im_checkpoint.proofs.{Bytes.range_outside, Copies.step_moved, Headers.area_before, Headers.place_to}
use Rattle.im_checkpoint.proofs.Files.{means_of, size, Still, still_in_area}
use Rattle.im_checkpoint.{proofs.Moments.kept_calm, proofs.Moments.means_left, specs.declared.checkpoint.Phase.Phase}
use Rattle.im_checkpoint.specs.declared.checkpoint.Phase.TheVariants.{NoCheckpoint as None_yet}
use Rattle.im_checkpoint.specs.declared.checkpoint.Phase.TheVariants.{PagesDone as All_written, PagesLeft as Some_left}
use Rattle.im_checkpoint.specs.declared.checkpoint.Phase.TheVariants.{Synced as On_disk}
use Rattle.im_checkpoint.specs.Keeping.{IsCalm, IsKept, Keeps, KeepsMeaning, MeansWith, Paged}
use Rattle.im_checkpoint.specs.Step.{CheckpointState, NoCheckpoint, PagesDone, PagesLeft, Step, step_by_phase, Synced}

abbrev commands_of : Option Tail → List Command
commands_of None = []
commands_of (Some t) = t.commands

-- what stands before the journal stays, where only the journal is written
module _ (h : Header) (m : Contents) (j : JournalState) (file : List ℕ) (it : Keeps h m j file) (d : List ℕ)
    (but : SameBut j.ring.base (64 * j.ring.slots) file d) where
  base_is : j.ring.base ≡ journal_at layout_in_use h.sizes
  base_is = ap (λ (r : Ring). r.base) it.ring

  low_base : 8192 ≤ j.ring.base
  low_base = omega (arith, base_is)

  long : j.ring.base ≤ length file
  long = omega (arith, base_is, size h m j file it)

  before : (a b : ℕ) → a ≤ b → b ≤ j.ring.base → slice_range d a b ≡ slice_range file a b
  before a b order low = range_outside j.ring.base (64 * j.ring.slots) a b file d but order
      (omega (arith, low, long)) (inl low)

  place_stays : (k : ℕ) → 4096 * k + 64 ≤ 8192 → header_place k d ≡ header_place k file
  place_stays k low = before (4096 * k) (4096 * k + 64) (omega arith) (omega (arith, low, low_base))

  pub other_place_stays : header_place (other h) d ≡ header_place (other h) file
  other_place_stays = place_stays (other h) (place_to h.area)

  mine_low : (k : ℕ) → k ≤ 1 → 4096 * k + 64 ≤ 8192
  mine_low k low = omega (arith, low)

  pub area_before_stays : (k : ℕ) → k ≤ 1 → area_of layout_in_use h.sizes k d ≡ area_of layout_in_use h.sizes k file
  area_before_stays k low = before (area_at layout_in_use h.sizes k)
      (area_at layout_in_use h.sizes k + area_bytes layout_in_use h.sizes) (omega arith)
      (omega (arith, base_is, area_before (area_bytes layout_in_use h.sizes) k low))

  pub in_force_stays : InForce layout_in_use h d
  in_force_stays =
      let f : InForce layout_in_use h file = it.image.in_force in
      let mine : header_place h.area d ≡ header_place h.area file = place_stays h.area (mine_low h.area f.number) in
      record {
        number = f.number;
        size = but.size ∙ f.size;
        opened = ap is_open_header mine ∙ f.opened;
        fields = ap header_in mine ∙ f.fields;
        spelled = ap (λ (place : List ℕ). spells_header layout_in_use h.area place) mine ∙ f.spelled;
        below = subst (λ (place : List ℕ). IsBelow h.generation place) (sym other_place_stays) f.below;
      }

  pub shows_stays : Shows layout_in_use h.sizes (area_of layout_in_use h.sizes h.area d) it.shown
  shows_stays = subst (λ (area : List ℕ). Shows layout_in_use h.sizes area it.shown)
      (sym (area_before_stays h.area it.image.in_force.number)) it.image.shows

  pub tail_of_image : (t : Tail) → tail j.ring j.first d ≡ Some t → tail (ring_of layout_in_use h.sizes) h.count d
      ≡ Some t
  tail_of_image t is =
      subst (λ (n : ℕ). tail (ring_of layout_in_use h.sizes) n d ≡ Some t) it.first
      (subst (λ (r : Ring). tail r j.first d ≡ Some t) it.ring is)

-- a file whose run is the same
module _ (h : Header) (m : Contents) (j : JournalState) (file : List ℕ) (it : Keeps h m j file) (d : List ℕ)
    (run : SameRun j file d) where
  before_is : tail (ring_of layout_in_use h.sizes) h.count file
      ≡ Some (record { commands = run.commands; room = run.there })
  before_is =
      subst (λ (n : ℕ). tail (ring_of layout_in_use h.sizes) n file
      ≡ Some (record { commands = run.commands; room = run.there })) it.first
      (subst (λ (r : Ring). tail r j.first file
      ≡ Some (record { commands = run.commands; room = run.there })) it.ring run.before)

  same_commands : run.commands ≡ it.commands
  same_commands = ap commands_of (sym before_is ∙ it.image.journal)

  pub swept_image : IsImage layout_in_use h it.shown it.commands run.found d
  swept_image = record {
    in_force = in_force_stays h m j file it d run.same;
    shows = shows_stays h m j file it d run.same;
    journal = subst (λ (l : List Command). tail (ring_of layout_in_use h.sizes) h.count d
        ≡ Some (record { commands = l; room = run.found })) same_commands
        (tail_of_image h m j file it d run.same (record { commands = run.commands; room = run.found }) run.after);
  }

  pub swept_boundaries : KeepsBoundaries (ring_of layout_in_use h.sizes) h.count file d
  swept_boundaries =
      subst (λ (n : ℕ). KeepsBoundaries (ring_of layout_in_use h.sizes) n file d) it.first
      (subst (λ (r : Ring). KeepsBoundaries r j.first file d) it.ring run.boundaries)

  pub swept_means : MeansWith m j d
  swept_means = means_of h m j it.shown it.commands run.found d swept_image it.accepts it.count run.enough

-- the journal is held by each file that may be left
pub all_hold : (c : CheckpointState) (x : Paged) (m : Contents) (j : JournalState) (now : Moment)
    → IsKept c x m j now → AllHold j now
all_hold c x m j now kept d left =
    let still : Still c.header m j now.bytes kept.read d = still_in_area c.header m j now.bytes kept.read
    (area_at layout_in_use c.header.sizes (other c.header)) (area_bytes layout_in_use c.header.sizes) d
    (kept.elsewhere d left) (omega arith) (omega arith) in
    still.journal

-- once the run is as it was on the disk, the memory is kept with a journal of the same run
pub run_kept : (c : CheckpointState) (x : Paged) (m : Contents) (j k : JournalState) (m0 m1 : Moment)
    → IsKept c x m j m0 → k.ring ≡ j.ring → k.first ≡ j.first → k.count ≡ j.count → SameRun j m0.bytes m1.bytes
    → m1.ranges ≡ [] → AllHold k m1 → IsKept c x m k m1
run_kept c x m j k m0 m1 kept ring first count run none holds = kept_calm c x m k m1 none
    (record {
      shown = kept.read.shown;
      commands = kept.read.commands;
      there = run.found;
      image = swept_image c.header m j m0.bytes kept.read m1.bytes run;
      accepts = kept.read.accepts;
      count = count ∙ kept.read.count;
      ring = ring ∙ kept.read.ring;
      first = first ∙ kept.read.first;
      journal = holds m1.bytes (left_now m1);
    })
    (step_moved c.header x m0.bytes m1.bytes
    (area_before_stays c.header m j m0.bytes kept.read m1.bytes run.same c.header.area
    kept.read.image.in_force.number)
    (area_before_stays c.header m j m0.bytes kept.read m1.bytes run.same (other c.header)
    (omega arith)) kept.read.shown kept.read.commands c.step
    (other_place_stays c.header m j m0.bytes kept.read m1.bytes run.same)
    (swept_boundaries c.header m j m0.bytes kept.read m1.bytes run) kept.step)

module _ (c : CheckpointState) (x : Paged) (m : Contents) (j : JournalState) (m0 : Moment)
    (is : c.step ≡ NoCheckpoint) (kept : IsKept c x m j m0) where
  calm : m0.ranges ≡ []
  calm = subst (λ (s : Step). IsCalm s m0) is kept.calm

  pub sweep_means : (d : List ℕ) → MaySweep j m0 d → MeansWith m j d
  sweep_means d may = swept_means c.header m j m0.bytes kept.read d
      (subst (λ (l : List ℕ). SameRun j l d) (left_settled m0 may.from calm may.left) may.run)

  pub sweep_done : (m1 : Moment) (n : ℕ) (k : JournalState) → k ≡ with_room j n → SameRun j m0.bytes m1.bytes
      → m1.ranges ≡ [] → AllHold k m1 → IsKept c x m k m1
  sweep_done m1 n k k_is run none holds = run_kept c x m j k m0 m1 kept (ap (λ (y : JournalState). y.ring) k_is)
      (ap (λ (y : JournalState). y.first) k_is) (ap (λ (y : JournalState). y.count) k_is) run none holds

  -- whichever way so many were swept at once
  pub swept_kept : {H : Type 0} (h : H) (r : Result ℕ Refusal) (most : ℕ) (m1 : Moment) (k : JournalState)
      → MatchResult r (λ n. IsSweptBy most j n k) (λ e. k ≡ j) → OnOk r (H → Sweeps j k m0 m1)
      → OnOk r (IsKept c x m k m1)
  swept_kept h (Ok n) most m1 k by swept = sweep_done m1 n k by.room (swept h).run (swept h).calm (swept h).holds
  swept_kept h (Err e) most m1 k by swept = tt

-- where none is swept
pub none_more : (j : JournalState) → j ≡ with_room j 0
none_more j = (λ i. record j { room = same i })
  where
    same : j.room ≡ j.room + 0
    same = omega arith

-- where a checkpoint is under way, a number that is none then
pub none_under_way : (n : Step → ℕ) → ((count : ℕ) (left : List ℕ) → 0 ≡ n (PagesLeft count left))
    → ((count : ℕ) → 0 ≡ n (PagesDone count)) → ((count : ℕ) → 0 ≡ n (Synced count))
    → (mark : Phase) (count : ℕ) (left : List ℕ) → (mark ≡ None_yet → ⊥) → 0 ≡ n (step_by_phase mark count left)
none_under_way n some all synced None_yet count left other = absurd (other refl)
none_under_way n some all synced Some_left count left other = some count left
none_under_way n some all synced All_written count left other = all count
none_under_way n some all synced On_disk count left other = synced count

pub kept_still : {D : Type 0} (now : D → Moment) (past : D → List Moment) (d : D) (c : CheckpointState) (x : Paged)
    (m : Contents) (j : JournalState) → IsKept c x m j (now d)
    → KeepsMeaning {T = ℕ} {E = Refusal} now past d d m j (Ok 0) c x j
kept_still now past d c x m j kept = record {
  leaves = record {
    within = leaves_start (now d) (past d) (MeansWith m j);
    after = means_left c x m j (now d) kept;
  };
  kept = kept;
}
