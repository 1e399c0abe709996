-- What appended commands leave of a disk that keeps a memory.
use Rattle.std.proofs.Common.{◌≡◌, ℕ, ◌+◌, ◌-◌, ◌*◌, ◌<◌, ◌≤◌, Bool, true, false, ◌⊎◌, List, [], ◌∷◌, ◌++◌, length}
use Rattle.std.proofs.Common.{if◌then◌else◌, ◌==◌, Some, None, Option, option_map, sym, refl, ap, ◌∙◌, subst, inl, inr}
use Rattle.std.proofs.Common.{⊎_elim, arith, length-append}
use Rattle.im_types.specs.Types.{Command, LAST, Contents, step, is_accepted, layout_in_use, area_bytes, area_at}
use Rattle.im_types.specs.Types.{ring_of, Header, Ring, Tail, tail, accept_each}
use Rattle.im_disk.specs.{Moment.Left, Moment.Moment, Since.LeavesNow, Since.SameBut}
use Rattle.im_journal.{proofs.Slots.slot_inside, specs.Groups.SameButGroup}
use Rattle.im_journal.specs.Holding.{AllHold, Holds, IsAdded, JournalState, KeepsBoundaries, Lays, longer, longer_tail}
use Rattle.im_journal.specs.Holding.{MayLay, MayPut, room_after, with_ahead}
use Rattle.{im_meaning.specs.Images.IsImage, im_meaning.specs.Images.other, im_image.specs.Reading.HasSizes}
use Rattle.im_memory.specs.{State.MemoryState, Touched.ChangesOnly, Touched.touched}
use Rattle.im_checkpoint.proofs.{Bytes.same_all, Copying.prepared_for, Moments.kept_calm, Moments.means_left}
use Rattle.im_checkpoint.proofs.Copies.{IsPrepared, step_moved, step_named, taken_longer}
use Rattle.im_checkpoint.proofs.Files.{enough, keeps_at, means_of, some, Still, still_in_area}
use Rattle.im_checkpoint.proofs.Sweeping.{area_before_stays, in_force_stays, other_place_stays, run_kept, shows_stays}
use Rattle.im_checkpoint.proofs.Sweeping.{swept_means, tail_of_image}
use Rattle.im_checkpoint.specs.Keeping.{IsKept, Keeps, MeansWith, Paged, paged, Prepares}
use Rattle.im_checkpoint.specs.Step.{CheckpointState, left_in, PagedCheckpoint}

-- commands that are accepted, and then others
pub accept_both : (m m2 m3 : Contents) (commands added : List Command) → accept_each m commands ≡ Some m2
    → accept_each m2 added ≡ Some m3 → accept_each m (commands ++ added) ≡ Some m3
accept_both m m2 m3 [] added is more = let same : m
    ≡ m2 = cc in subst (λ (x : Contents). accept_each x added ≡ Some m3) (sym same) more
accept_both m m2 m3 (c ∷ commands) added is more = by_test (is_accepted m c) is
    (λ rest. accept_both (step m c).contents m2 m3 commands added rest more)
  where
    by_test : (b : Bool) → (if b then accept_each (step m c).contents commands else None) ≡ Some m2
        → (accept_each (step m c).contents commands ≡ Some m2 → accept_each (step m c).contents (commands ++ added)
        ≡ Some m3)
        → (if b then accept_each (step m c).contents (commands ++ added) else None) ≡ Some m3
    by_test true e more = more e
    by_test false e more = absurd (cc)

pub accept_one : (m : Contents) (command : Command) → is_accepted m command ≡ true → accept_each m (command ∷ [])
    ≡ Some (step m command).contents
accept_one m command accepted = ap (λ (b : Bool). if b then Some (step m command).contents else None) accepted

pub room_grows : (count n room there : ℕ) → room ≤ there → room_after count n room ≤ room_after count n there
room_grows count n room there le = by_test (count + n == LAST)
  where
    by_test : (b : Bool) → (if b then 0 else room - n) ≤ (if b then 0 else there - n)
    by_test true = omega arith
    by_test false = omega arith

-- a file that differs from one that keeps a memory in the journal's ring alone
module _ (h : Header) (m : Contents) (j : JournalState) (file : List ℕ) (it : Keeps h m j file) (d : List ℕ)
    (but : SameBut j.ring.base (64 * j.ring.slots) file d) where
  tail_there : tail j.ring j.first file ≡ Some (record { commands = it.commands; room = it.there })
  tail_there = (λ i. tail (it.ring i) (it.first i) file) ∙ it.image.journal

  pub with_tail : (later : List Command) (there : ℕ) → tail j.ring j.first d
      ≡ Some (record { commands = later; room = there }) → IsImage layout_in_use h it.shown later there d
  with_tail later there e = record {
    in_force = in_force_stays h m j file it d but;
    shows = shows_stays h m j file it d but;
    journal = tail_of_image h m j file it d but (record { commands = later; room = there }) e;
  }

  -- its tail is the same
  pub means_same : tail j.ring j.first d ≡ tail j.ring j.first file → MeansWith m j d
  means_same e = means_of h m j it.shown it.commands it.there d
      (with_tail it.commands it.there (e ∙ tail_there)) it.accepts it.count (enough h m j file it)

  -- its tail has these commands more, and the journal with them has its room at the least
  module _ (added : List Command) (m2 : Contents) (accepts : accept_each m added ≡ Some m2) (k : JournalState)
      (ring : k.ring ≡ j.ring) (first : k.first ≡ j.first) (count : k.count ≡ j.count + length added)
      (there : ℕ) (room : k.room ≤ there)
      (e : tail j.ring j.first d ≡ Some (record { commands = it.commands ++ added; room = there })) where
    pub all_accepted : accept_each it.shown (it.commands ++ added) ≡ Some m2
    all_accepted = accept_both it.shown m m2 it.commands added it.accepts accepts

    pub counted : k.count ≡ h.count + length (it.commands ++ added)
    counted = omega (arith, count, it.count, length-append it.commands added)

    pub means_more : MeansWith m2 k d
    means_more = means_of h m2 k it.shown (it.commands ++ added) there d
        (with_tail (it.commands ++ added) there e) all_accepted counted room

    abbrev pub keeps_more : Holds k d → Keeps h m2 k d
    keeps_more holds = record {
      shown = it.shown;
      commands = it.commands ++ added;
      there = there;
      image = with_tail (it.commands ++ added) there e;
      accepts = all_accepted;
      count = counted;
      ring = ring ∙ it.ring;
      first = first ∙ it.first;
      journal = holds;
    }

module _ (c : CheckpointState) (x : Paged) (m : Contents) (j : JournalState) (now : Moment)
    (kept : IsKept c x m j now) where
  still : (file : List ℕ) → Left now file → Still c.header m j now.bytes kept.read file
  still file left = still_in_area c.header m j now.bytes kept.read
      (area_at layout_in_use c.header.sizes (other c.header)) (area_bytes layout_in_use c.header.sizes) file
      (kept.elsewhere file left) (omega arith) (omega arith)

  pub all_mean : LeavesNow now (MeansWith m j)
  all_mean file left = means_left c x m j now kept file left

  pub all_hold : AllHold j now
  all_hold file left = (still file left).journal

  abbrev there : (from : List ℕ) → Left now from → Keeps c.header m j from
  there from left = keeps_at c.header m j now.bytes kept.read from (still from left)

  some_slots : 0 < j.ring.slots
  some_slots = subst (λ (r : Ring). 0 < r.slots) (sym kept.read.ring) (some c.header m j now.bytes kept.read)

  in_ring : (n : ℕ) (c d : List ℕ) → SameButGroup j.ring j.count n c d → SameBut j.ring.base (64 * j.ring.slots) c d
  in_ring n c d but = record {
    size = but.size;
    same = λ i out. ⊎_elim
        (λ (low : i < j.ring.base). but.same i (omega arith) (λ k below. inl (omega arith)))
        (λ (high : j.ring.base + 64 * j.ring.slots ≤ i). but.same i
        (omega (arith, slot_inside j.ring some_slots j.count))
        (λ k below. inr (omega (arith, slot_inside j.ring some_slots (j.count + k)))))
        out;
  }

  -- commands that are accepted one after another, as one group
  module _ (commands : List Command) (m2 : Contents) (accepts : accept_each m commands ≡ Some m2) where
    abbrev more : JournalState
    more = longer (length commands) j

    added_tail : (from file : List ℕ) → Left now from → tail j.ring j.first file
        ≡ option_map (longer_tail j.count commands) (tail j.ring j.first from)
        → tail j.ring j.first file
        ≡ Some (record {
          commands = kept.read.commands ++ commands;
          room = room_after j.count
              (length commands) kept.read.there;
        })
    added_tail from file left e = e
        ∙ ap (λ (t : Option Tail). option_map (longer_tail j.count commands) t)
        (tail_there c.header m j from (there from left) from (same_all j.ring.base (64 * j.ring.slots) from))

    room_there : room_after j.count (length commands) j.room ≤ room_after j.count (length commands) kept.read.there
    room_there = room_grows j.count (length commands) j.room kept.read.there (enough c.header m j now.bytes kept.read)

    pub may_put_means : (n : ℕ) (file : List ℕ) → MayPut n j commands now file → MeansWith m j file
        ⊎ MeansWith m2 (longer (length commands) j) file
    may_put_means n file may = ⊎_elim
        (λ same. inl (means_same c.header m j may.from (there may.from may.left) file
        (in_ring n may.from file may.same) same))
        (λ added. inr (means_more c.header m j may.from (there may.from may.left) file
        (in_ring n may.from file may.same) commands m2 accepts
        more refl refl refl (room_after j.count (length commands) kept.read.there) room_there
        (added_tail may.from file may.left added)))
        may.reads

    -- once they are put, the disk keeps it with the longer journal, whatever is ahead of that
    pub kept_put : (n : ℕ) (new : Moment) (k : JournalState) (next : List Command) → k ≡ with_ahead next more
        → SameButGroup j.ring j.count n now.bytes new.bytes → new.ranges ≡ [] → IsAdded n j commands now new.bytes
        → Holds k new.bytes → IsKept c x m2 k new
    kept_put n new k next k_is but calm added holds =
        let ring : SameBut j.ring.base (64 * j.ring.slots) now.bytes new.bytes = in_ring n now.bytes new.bytes but in
        let boundaries : KeepsBoundaries (ring_of layout_in_use c.header.sizes) c.header.count added.from new.bytes =
        subst (λ (n : ℕ). KeepsBoundaries (ring_of layout_in_use c.header.sizes) n added.from new.bytes) kept.read.first
        (subst (λ (r : Ring). KeepsBoundaries r j.first added.from new.bytes) kept.read.ring added.boundaries) in
        kept_calm c x m2 k new calm
        (keeps_more c.header m j now.bytes kept.read new.bytes ring commands m2 accepts k
        (ap (λ (y : JournalState). y.ring) k_is) (ap (λ (y : JournalState). y.first) k_is)
        (ap (λ (y : JournalState). y.count) k_is) (room_after j.count (length commands) kept.read.there)
        (omega (arith, ap (λ (y : JournalState). y.room) k_is, room_there))
        (added_tail added.from new.bytes added.left added.reads) holds)
        (taken_longer c.header kept.read.shown kept.read.commands commands x c.step new.bytes
        (step_moved c.header x now.bytes new.bytes
        (area_before_stays c.header m j now.bytes kept.read new.bytes ring c.header.area kept.read.image.in_force.number)
        (area_before_stays c.header m j now.bytes kept.read new.bytes ring (other c.header)
        (omega arith)) kept.read.shown kept.read.commands c.step
        (other_place_stays c.header m j now.bytes kept.read new.bytes ring)
        (λ i boundary. boundaries i ((still added.from added.left).boundaries i boundary)) kept.step))

    -- the same with nothing more ahead
    pub kept_longer : (new : Moment) → SameButGroup j.ring j.count (length commands) now.bytes new.bytes → new.ranges
        ≡ [] → IsAdded (length commands) j commands now new.bytes → Holds (longer (length commands) j) new.bytes
        → IsKept c x m2 (longer (length commands) j) new
    kept_longer new but calm added holds = kept_put (length commands) new more more.ahead refl but calm added holds

  -- bodies that are laid behind the run change nothing
  pub lay_means : (file : List ℕ) → MayLay j now file → MeansWith m j file
  lay_means file may = swept_means c.header m j may.from (there may.from may.left) file may.run

  pub kept_laid : (new : Moment) (k : JournalState) (next : List Command) → k ≡ with_ahead next j → Lays j k now new
      → IsKept c x m k new
  kept_laid new k next k_is lays = run_kept c x m j k now new kept (ap (λ (y : JournalState). y.ring) k_is)
      (ap (λ (y : JournalState). y.first) k_is) (ap (λ (y : JournalState). y.count) k_is) lays.run lays.calm lays.holds

-- before a command acts, its pages were named
module _ (c d : PagedCheckpoint) (m n : MemoryState) (command : Command) (prepares : Prepares c m command d)
    (sizes : HasSizes c.state.header.sizes m.contents)
    (changes : ChangesOnly (touched m command) m.records n.records) where
  prepared : IsPrepared c.state.header.sizes (left_in c.state.step) (paged c m) (paged d n)
  prepared = prepared_for c d m n command prepares changes sizes.cells sizes.elements

  -- so what is known of the file stays known once it acted
  pub kept_prepared : (contents : Contents) (j : JournalState) (now : Moment)
      → IsKept c.state (paged c m) contents j now → IsKept d.state (paged d n) contents j now
  kept_prepared contents j now kept = subst (λ (s : CheckpointState). IsKept s (paged d n) contents j now)
      (sym prepares.state) (record {
        read = kept.read;
        step = step_named c.state.header (paged c m)
            (paged d n) now.bytes kept.read.shown kept.read.commands c.state.step prepared kept.step;
        elsewhere = kept.elsewhere;
        calm = kept.calm;
      })
