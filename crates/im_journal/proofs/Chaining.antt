-- The gate of the commands ahead, and the bodies of the next ones behind it.
use Rattle.std.proofs.Common.{◌≡◌, ℕ, ◌+◌, ◌-◌, ◌*◌, ◌<◌, ◌≤◌, Bool, true, ◌&&◌, ◌≢◌, ◌⊎◌, List, length, get_or, drop}
use Rattle.std.proofs.Common.{if◌then◌else◌, nat_le, option_map, sym, ap, ◌∙◌, subst, inl, inr, ⊎_elim, arith, leb-true}
use Rattle.std.proofs.lemmas.Bool.{cases_eq}
use Rattle.im_types.specs.Types.{Command, LAST, open_gate, is_open, slot_offset, Tail, slot, tail}
use Rattle.im_types.proofs.Tests.{and_both}
use Rattle.im_disk.proofs.SinceLemmas.{leaves_then, left_now, left_settled, only_weaker}
use Rattle.im_disk.specs.{declared.Disk.Ghosts, Moment.Left, Moment.Moment}
use Rattle.im_disk.specs.Since.{LeavesNow, LeavesOnly, SameBut}
use Rattle.im_journal.proofs.Appending.{added_boundaries, added_to, beside_gate, bodies_stay, IsNext, longer_held}
use Rattle.im_journal.proofs.{Groups.same_bodies, Rings.other_number, Writing.none_yet}
use Rattle.im_journal.proofs.Laying.{before_laid, boundaries_laid, holds_laid, tail_laid}
use Rattle.im_journal.proofs.Slots.{no_gate_behind, opened_gate, slot_inside}
use Rattle.im_journal.proofs.Tails.{boundaries_kept, Parts, parts_of, tail_kept}
use Rattle.im_journal.specs.Gates.{HasOpened, MayTouch}
use Rattle.im_journal.specs.Groups.{AreLaid, HasBodies, MayWriteBodies, SameButBodies, SameButGroup}
use Rattle.im_journal.specs.Holding.{AllHold, Holds, IsAdded, IsJournal, journal_state, JournalState, KeepsBoundaries}
use Rattle.im_journal.specs.Holding.{longer, longer_tail, MayPut, Puts, room_after, slots_ahead, StandAhead, with_ahead}

-- commands are ahead, and there is room for them and for the next ones
pub record IsChain (j : JournalState) (next : List Command) (m0 : Moment) : Type 0 where
  pub known : IsJournal j
  pub all : AllHold j m0
  pub some : 0 < length j.ahead
  pub room : slots_ahead j next ≤ j.room
  pub last : j.count + slots_ahead j next ≤ LAST

-- that there is, by the test; `s` is the journal, as its fields show it
pub chain_of : (s j : JournalState) (next : List Command) (m0 : Moment) (laid many : ℕ) (test : Bool) → s ≡ j
    → IsJournal s → AllHold j m0 → 0 < length j.ahead → laid ≡ length s.ahead → many ≡ length next
    → test ≡ (nat_le (laid + many) s.room && nat_le (s.count + (laid + many)) LAST) → test ≡ true → IsChain s next m0
chain_of s j next m0 laid many test is known all some so_laid so_many tested passed =
    let both = and_both (nat_le (laid + many) s.room) (nat_le (s.count + (laid + many)) LAST) (sym tested ∙ passed) in
    record {
      known = known;
      all = λ c left. subst (λ (x : JournalState). Holds x c) (sym is) (all c left);
      some = subst (λ (x : JournalState). 0 < length x.ahead) (sym is) some;
      room = omega (arith, so_laid, so_many, leb-true (laid + many) s.room both.0);
      last = omega (arith, so_laid, so_many, leb-true (s.count + (laid + many)) LAST both.1);
    }

-- the journal with what was ahead, and the next commands ahead, as its fields show it
pub chained_state : (base slots first count room from more : ℕ) (ahead next l : List Command)
    → from ≡ count + length ahead → more ≡ room_after count (length ahead) room → l ≡ next
    → journal_state base slots first from more l
    ≡ with_ahead next (longer (length ahead) (journal_state base slots first count room ahead))
chained_state base slots first count room from more ahead next l from_is more_is l_is =
    (λ i. journal_state base slots first (from_is i) (more_is i) (l_is i))

module _ {j : JournalState} {next : List Command} {m0 : Moment} (chain : IsChain j next m0) where
  abbrev g : ℕ
  g = length j.ahead

  abbrev h : ℕ
  h = length next

  abbrev at : ℕ
  at = slot_offset j.ring j.count

  abbrev k : JournalState
  k = longer g j

  some_slots : 0 < j.ring.slots
  some_slots = omega (arith, chain.known.enough_slots)

  pub round : g + h ≤ j.ring.slots
  round = omega (arith, chain.room, chain.known.once_round, chain.known.begun)

  pub inside : j.ring.base + 64 * j.ring.slots ≤ length m0.bytes
  inside = (chain.all m0.bytes (left_now m0)).size

  pub gate_inside : at + 1 ≤ length m0.bytes
  gate_inside = omega (arith, inside, slot_inside j.ring some_slots j.count)

  as_next : IsNext j j.ahead m0
  as_next = record {
    known = chain.known;
    all = chain.all;
    some = chain.some;
    few = chain.known.ahead.few;
    room = chain.known.ahead.room;
    last = chain.known.ahead.last;
  }

  -- behind what was ahead there is room for the next ones
  room_next : h ≤ k.room
  room_next = ⊎_elim
      (λ (last : j.count + g ≡ LAST). omega (arith, chain.last, last))
      (λ (other : j.count + g ≢ LAST).
      let less : room_after j.count g j.room ≡ j.room - g = ap (λ (b : Bool). if b then 0 else j.room - g)
      (other_number (j.count + g) LAST other) in
      omega (arith, less, chain.room))
      (cases_eq (j.count + g) LAST)

  -- a file that was left, the file with another byte for the gate, and that file with the bodies
  module _ (d : List ℕ) (held : Holds j d) (e : List ℕ) (gate : SameBut at 1 d e) (c : List ℕ)
      (but : SameButBodies j.ring (j.count + g) h e c) where
    abbrev t : Tail
    t = record { commands = held.commands; room = held.there }

    parts : Parts j.ring j.first d t
    parts = parts_of j.ring j.first d t held.reads

    gate_stays : get_or c at 0 ≡ get_or e at 0
    gate_stays = but.same at (λ m less. no_gate_behind j.ring j.count (j.count + g + m))

    group_same : SameButGroup j.ring j.count g d e
    group_same = record { size = gate.size; same = λ i other out. gate.same i (beside_gate i at other) }

    pub both_same : SameButGroup j.ring j.count (g + h) d c
    both_same = record {
      size = but.size ∙ gate.size;
      same = λ i other out. but.same i (λ m less. later i m (out (g + m) (omega (arith, less))))
          ∙ gate.same i (beside_gate i at other);
    }
      where
        later : (i m : ℕ) → (i ≤ slot_offset j.ring (j.count + (g + m)))
            ⊎ (slot_offset j.ring (j.count + (g + m)) + 64 ≤ i)
            → (i ≤ slot_offset j.ring (j.count + g + m)) ⊎ (slot_offset j.ring (j.count + g + m) + 64 ≤ i)
        later i m out = let there : j.count + (g + m) ≡ j.count + g + m = omega arith in
            subst (λ (s : ℕ). (i ≤ slot_offset j.ring s) ⊎ (slot_offset j.ring s + 64 ≤ i)) there out

    -- behind a closed gate the tail is as it was
    tail_shut : get_or c at 0 ≢ open_gate → tail j.ring j.first c ≡ tail j.ring j.first d
    tail_shut shut = tail_kept j.ring some_slots j.first j.count (g + h) d c t parts held.count
        (omega (arith, chain.some)) (omega (arith, held.enough, chain.room)) both_same shut ∙ sym held.reads

    boundaries_shut : get_or c at 0 ≢ open_gate → KeepsBoundaries j.ring j.first d c
    boundaries_shut shut = boundaries_kept j.ring some_slots j.first j.count (g + h) d c t parts held.count
        (omega (arith, chain.some)) (omega (arith, held.enough, chain.room)) both_same shut

    -- behind an open one it has what was ahead
    module _ (opened : get_or c at 0 ≡ open_gate) where
      opened_e : is_open (slot j.ring j.count e) ≡ true
      opened_e = opened_gate j.ring j.count e (sym gate_stays ∙ opened)

      pub opened_c : is_open (slot j.ring j.count c) ≡ true
      opened_c = opened_gate j.ring j.count c opened

      bodies_e : HasBodies j.ring g j.count j.ahead e
      bodies_e = bodies_stay j.ring j.count d e j.ahead gate held.laid.bodies

      longer_e : Holds k e
      longer_e = longer_held as_next d held e group_same held.laid.fits opened_e bodies_e

      pub bodies_c : HasBodies j.ring g j.count j.ahead c
      bodies_c = same_bodies j.ring e c g j.count j.ahead
          (λ m less. ap (λ (l : List ℕ). drop 1 l) (before_laid k some_slots h room_next e c longer_e but (j.count + m)
          (omega (arith, less)) (omega (arith, round)))) bodies_e

      pub tail_open : tail j.ring j.first c ≡ option_map (longer_tail j.count j.ahead) (tail j.ring j.first d)
      tail_open = tail_laid k some_slots h room_next e c longer_e but
          ∙ added_to as_next d held e group_same held.laid.fits opened_e bodies_e

      pub boundaries_open : KeepsBoundaries j.ring j.first d c
      boundaries_open m b = boundaries_laid k some_slots h room_next e c longer_e but m
          (added_boundaries as_next d held e group_same held.laid.fits opened_e bodies_e m b)

      pub holds_open : StandAhead j.ring (j.count + g) next c → Holds (with_ahead next k) c
      holds_open there = holds_laid k some_slots h room_next e c longer_e but next there

    pub may_put : Left m0 d → MayPut (g + h) j j.ahead m0 c
    may_put left = by_gate (cases_eq (get_or c at 0) open_gate)
      where
        by_gate : (get_or c at 0 ≡ open_gate) ⊎ (get_or c at 0 ≢ open_gate) → MayPut (g + h) j j.ahead m0 c
        by_gate (inl is) = record {
          from = d;
          left = left;
          same = both_same;
          reads = inr (tail_open is);
          boundaries = boundaries_open is;
        }
        by_gate (inr shut) = record {
          from = d;
          left = left;
          same = both_same;
          reads = inl (tail_shut shut);
          boundaries = boundaries_shut shut;
        }

  -- the gate may be written
  pub touch_puts : (c : List ℕ) → MayTouch at m0 c → MayPut (g + h) j j.ahead m0 c
  touch_puts c w = may_put w.from (chain.all w.from w.left) c w.same c (none_yet j.ring (j.count + g) h c) w.left

  module _ (m1 : Moment) where
    -- and then the bodies
    pub lay_puts : LeavesNow m1 (MayTouch at m0) → (c : List ℕ) → MayWriteBodies j.ring (j.count + g) h m1 c
        → MayPut (g + h) j j.ahead m0 c
    lay_puts touched c w =
        let gated : MayTouch at m0 w.from = touched w.from w.left in
        may_put gated.from (chain.all gated.from gated.left) w.from gated.same c w.same gated.left

    -- once all is on the disk
    module _ (o : HasOpened at m0 m1) (m2 : Moment) (w : AreLaid j.ring (j.count + g) next m1 m2) where
      held_now : Holds j m0.bytes
      held_now = chain.all m0.bytes (left_now m0)

      gate_now : get_or m2.bytes at 0 ≡ open_gate
      gate_now = gate_stays m0.bytes held_now m1.bytes o.kept m2.bytes w.kept ∙ o.opened

      is_put : IsAdded (g + h) j j.ahead m0 m2.bytes
      is_put = record {
        from = m0.bytes;
        left = left_now m0;
        same = both_same m0.bytes held_now m1.bytes o.kept m2.bytes w.kept;
        gate = opened_c m0.bytes held_now m1.bytes o.kept m2.bytes w.kept gate_now;
        bodies = bodies_c m0.bytes held_now m1.bytes o.kept m2.bytes w.kept gate_now;
        reads = tail_open m0.bytes held_now m1.bytes o.kept m2.bytes w.kept gate_now;
        boundaries = boundaries_open m0.bytes held_now m1.bytes o.kept m2.bytes w.kept gate_now;
      }

      pub puts : (l : JournalState) → l ≡ with_ahead next k → Puts (g + h) j l j.ahead m0 m2
      puts l l_is = record {
        added = λ c left. subst (λ (f : List ℕ). IsAdded (g + h) j j.ahead m0 f) (sym (left_settled m2 c w.calm left))
            is_put;
        holds = λ c left. subst (λ (f : List ℕ). Holds l f) (sym (left_settled m2 c w.calm left))
            (subst (λ (x : JournalState). Holds x m2.bytes) (sym l_is)
            (holds_open m0.bytes held_now m1.bytes o.kept m2.bytes w.kept gate_now
            (record { bodies = w.bodies; fits = w.fits })));
        kept = both_same m0.bytes held_now m1.bytes o.kept m2.bytes w.kept;
        calm = w.calm;
      }

-- since the start, and at the end: while the gate is written, and then the bodies
module _ {D : Type 0} (disk : Ghosts D) (d0 d1 : D) {s j : JournalState}
    {l next : List Command} (is : s ≡ j) (same : l ≡ next) (chain : IsChain s l (disk.now d0))
    (touch : LeavesOnly disk.now disk.past d0 d1 (MayTouch (slot_offset s.ring s.count) (disk.now d0))) where
  abbrev May : JournalState → List Command → List ℕ → Type 0
  May x xs = MayPut (slots_ahead x xs) x x.ahead (disk.now d0)

  moved : (d : D) → LeavesOnly disk.now disk.past d0 d (May s l) → LeavesOnly disk.now disk.past d0 d (May j next)
  moved d only = subst (λ (x : JournalState). LeavesOnly disk.now disk.past d0 d (May x next)) is
      (subst (λ (xs : List Command). LeavesOnly disk.now disk.past d0 d (May s xs)) same only)

  pub gate_leaves_put : LeavesOnly disk.now disk.past d0 d1 (May j next)
  gate_leaves_put = moved d1 (only_weaker disk.now disk.past d0 d1
      (MayTouch (slot_offset s.ring s.count) (disk.now d0)) (May s l) touch (touch_puts chain))

  module _ (from : ℕ) (from_is : from ≡ s.count + length s.ahead) (d2 : D) where
    pub bodies_leave_put : LeavesOnly disk.now disk.past d1 d2 (MayWriteBodies s.ring from (length l) (disk.now d1))
        → LeavesOnly disk.now disk.past d0 d2 (May j next)
    bodies_leave_put only = moved d2 (record {
      within = leaves_then (disk.now d0) (disk.now d1) (disk.now d2) (disk.past d0) (disk.past d1) (disk.past d2)
          (MayTouch (slot_offset s.ring s.count) (disk.now d0)) (MayWriteBodies s.ring (s.count + length s.ahead)
          (length l) (disk.now d1)) (May s l) touch.within there.within (touch_puts chain)
          (lay_puts chain (disk.now d1) touch.after);
      after = λ c left. lay_puts chain (disk.now d1) touch.after c (there.after c left);
    })
      where
        there : LeavesOnly disk.now disk.past d1 d2
            (MayWriteBodies s.ring (s.count + length s.ahead) (length l) (disk.now d1))
        there = subst (λ (n : ℕ). LeavesOnly disk.now disk.past d1 d2
            (MayWriteBodies s.ring n (length l) (disk.now d1))) from_is only

    pub group_puts : HasOpened (slot_offset s.ring s.count) (disk.now d0) (disk.now d1)
        → AreLaid s.ring from l (disk.now d1) (disk.now d2) → (k : JournalState) → k ≡ with_ahead l
        (longer (length s.ahead) s)
        → Puts (slots_ahead j next) j k j.ahead (disk.now d0) (disk.now d2)
    group_puts opened laid k k_is =
        subst (λ (x : JournalState). Puts (slots_ahead x next) x k x.ahead (disk.now d0) (disk.now d2)) is
        (subst (λ (xs : List Command). Puts (slots_ahead s xs) s k s.ahead (disk.now d0) (disk.now d2)) same
        (puts chain (disk.now d1) opened (disk.now d2)
        (subst (λ (n : ℕ). AreLaid s.ring n l (disk.now d1) (disk.now d2)) from_is laid) k k_is))
