-- A journal some of whose gates behind the known room were written.
use Rattle.std.proofs.Common.{◌≡◌, ℕ, ◌+◌, ◌-◌, ◌*◌, ◌<◌, ◌≤◌, min, false, ◌≢◌, List, length, get_or, take, drop}
use Rattle.std.proofs.Common.{if◌then◌else◌, ◌==◌, Some, sym, ap, ◌∙◌, subst, ⊎_elim, arith, length-drop, length-take}
use Rattle.std.proofs.Common.{get_or-drop, get_or-take, ext_get_or, eq-eqb}
use Rattle.byteorder.specs.Endian.{little_number}
use Rattle.std.proofs.lemmas.Bool.{cases_eq, cases_lt}
use Rattle.im_types.specs.Types.{Command, LAST, open_gate, is_open, sequence_of, Ring, slot_offset, closed_from}
use Rattle.im_types.specs.Types.{room_of, slot, tail}
use Rattle.im_disk.proofs.SinceLemmas.{left_now, left_settled, only_weaker}
use Rattle.im_disk.specs.{Moment.Moment, Since.LeavesOnly, Since.SameBut}
use Rattle.im_journal.proofs.{Groups.same_there, Rings.closed_at, Rings.other_number, Tails.Parts, Tails.parts_of}
use Rattle.im_journal.proofs.Slots.{away, closed_gate, no_gate_behind, same_body, same_slot, slot_inside}
use Rattle.im_journal.proofs.Sweeps.{boundaries_swept, no_less, tail_swept}
use Rattle.im_journal.specs.Gates.{AreShut, closed_gate as shut_gate, HasClosed, MayClose, SameButGates}
use Rattle.im_journal.specs.Holding.{AllHold, Holds, IsJournal, JournalState, KeepsBoundaries, MaySweep, SameRun}
use Rattle.im_journal.specs.Holding.{Sweeps, to_sweep, with_room}

-- a slot's sequence number doesn't depend on its gate
sequence_bytes : (r : Ring) (s : ℕ) (c : List ℕ) (i : ℕ) → i < 8 → get_or (take 8 (drop 8 (slot r s c))) i 0
    ≡ get_or c (slot_offset r s + (8 + i)) 0
unfolding slot
sequence_bytes r s c i low =
    get_or-take 8 (drop 8 (take 64 (drop (slot_offset r s) c))) i 0 low
    ∙ get_or-drop 8 (take 64 (drop (slot_offset r s) c)) i 0
    ∙ get_or-take 64 (drop (slot_offset r s) c) (8 + i) 0 (omega (arith, low))
    ∙ get_or-drop (slot_offset r s) c (8 + i) 0

sequence_size : (r : Ring) (s : ℕ) (c d : List ℕ) → length d ≡ length c → length (take 8 (drop 8 (slot r s d)))
    ≡ length (take 8 (drop 8 (slot r s c)))
unfolding slot
sequence_size r s c d size = omega (
  arith,
  size,
  length-take 8 (drop 8 (take 64 (drop (slot_offset r s) d))),
  length-drop 8 (take 64 (drop (slot_offset r s) d)),
  length-take 64 (drop (slot_offset r s) d),
  length-drop (slot_offset r s) d,
  length-take 8 (drop 8 (take 64 (drop (slot_offset r s) c))),
  length-drop 8 (take 64 (drop (slot_offset r s) c)),
  length-take 64 (drop (slot_offset r s) c),
  length-drop (slot_offset r s) c,
)

same_sequence : (r : Ring) (s : ℕ) (c d : List ℕ) → length d ≡ length c
    → ((i : ℕ) → i < 8 → get_or d (slot_offset r s + (8 + i)) 0 ≡ get_or c (slot_offset r s + (8 + i)) 0)
    → sequence_of (slot r s d) ≡ sequence_of (slot r s c)
unfolding sequence_of
same_sequence r s c d size same = ap (λ (l : List ℕ). little_number 8 l)
    (ext_get_or 0 (take 8 (drop 8 (slot r s d))) (take 8 (drop 8 (slot r s c))) (sequence_size r s c d size)
    (λ i lt. let low : i < 8 = omega (arith, lt, length-take 8 (drop 8 (slot r s d))) in sequence_bytes r s d i low
    ∙ same i low ∙ sym (sequence_bytes r s c i low)))

-- n slots behind the known room are swept
module _ (j : JournalState) (known : IsJournal j) (n : ℕ) (low : j.count < LAST)
    (few : j.room + n ≤ j.ring.slots - (j.count - j.first)) where
  abbrev next : ℕ
  next = j.count + j.room

  some_slots : 0 < j.ring.slots
  some_slots = omega (arith, known.enough_slots)

  module _ (c d : List ℕ) (held : Holds j c) (but : SameButGates j.ring next n c d) where
    abbrev commands : List Command
    commands = held.commands

    -- the slots before them stay
    stays : (s : ℕ) → j.first ≤ s → s < next → slot j.ring s d ≡ slot j.ring s c
    stays s from to = same_slot j.ring s d c but.size (λ b lo hi. but.same b (λ k less is. apart k b less is lo hi))
      where
        apart : (k b : ℕ) → k < n → b ≡ slot_offset j.ring (next + k) → slot_offset j.ring s ≤ b
            → b < slot_offset j.ring s + 64 → ⊥
        apart k b less is lo hi = ⊎_elim
            (λ (before : b < slot_offset j.ring (next + k)). absurd (omega (arith, before, is)))
            (λ (behind : slot_offset j.ring (next + k) + 64 ≤ b). absurd (omega (arith, behind, is)))
            (away j.ring some_slots s (next + k) b (omega (arith, to))
            (omega (arith, from, less, few, known.once_round, known.begun)) lo hi)

    sequences_stay : (s : ℕ) → sequence_of (slot j.ring s d) ≡ sequence_of (slot j.ring s c)
    sequences_stay s = same_sequence j.ring s c d but.size
        (λ i less. but.same (slot_offset j.ring s + (8 + i)) (λ k few_k is. absurd (omega (arith, less, is))))

    -- a body doesn't depend on a gate
    body_stays : (s : ℕ) → drop 1 (slot j.ring s d) ≡ drop 1 (slot j.ring s c)
    body_stays s = same_body j.ring s d c but.size (λ i lo hi. but.same i (λ k less is. ⊎_elim
        (λ (before : slot_offset j.ring (next + k) ≤ slot_offset j.ring s). absurd (omega (arith, before, lo, is)))
        (λ (behind : slot_offset j.ring s + 64 ≤ slot_offset j.ring (next + k)). absurd (omega (arith, behind, hi, is)))
        (no_gate_behind j.ring (next + k) s)))

    -- the known room's gates
    count_is : j.first + length commands ≡ j.count
    count_is = sym held.count

    run_is : j.count - j.first ≡ length commands
    run_is = omega (arith, held.count)

    parts : Parts j.ring j.first c (record { commands = commands; room = held.there })
    parts = parts_of j.ring j.first c (record { commands = commands; room = held.there }) held.reads

    not_last : (j.first + length commands == LAST) ≡ false
    not_last = other_number (j.first + length commands) LAST (λ last. absurd (omega (arith, low, last, held.count)))

    room_is : closed_from j.ring (j.ring.slots - length commands) (j.first + length commands) c ≡ held.there
    room_is = sym (ap (λ b. if b then 0 else closed_from j.ring (j.ring.slots - length commands)
        (j.first + length commands) c) not_last) ∙ parts.room

    shut_before : (k : ℕ) → k < j.room → is_open (slot j.ring (j.first + length commands + k) c) ≡ false
    shut_before k less = closed_at j.ring c (j.ring.slots - length commands) (j.first + length commands) k
        (omega (arith, less, room_is, held.enough))

    -- so many of the gates that were written are known to be closed
    module _ (more : ℕ) (of : more ≤ n) (closed : HasClosed j.ring next more d) where
      abbrev room_known : ℕ
      room_known = j.room + more

      swept_shut : (k : ℕ) → k < room_known → is_open (slot j.ring (j.first + length commands + k) d) ≡ false
      swept_shut k less = ⊎_elim
          (λ (before : k < j.room). ap is_open
          (stays (j.first + length commands + k) (omega arith) (omega (arith, before, count_is)))
          ∙ shut_before k before)
          (λ (behind : j.room ≤ k).
          let at : next + (k - j.room) ≡ j.first + length commands + k = omega (arith, behind, count_is) in
          subst (λ (s : ℕ). is_open (slot j.ring s d) ≡ false) at
          (closed_gate j.ring (next + (k - j.room)) d
          (λ is. absurd
          (clash (get_or d (slot_offset j.ring (next + (k - j.room))) 0)
          (closed (k - j.room) (omega (arith, less, behind))) is))))
          (cases_lt k j.room)
        where
          clash : (b : ℕ) → b ≡ shut_gate → b ≡ open_gate → ⊥
          clash b e f = omega (arith, e, f)

      run_stays : (i : ℕ) → i < length commands → slot j.ring (j.first + i) d ≡ slot j.ring (j.first + i) c
      run_stays i less = stays (j.first + i) (omega arith) (omega (arith, less, count_is))

      enough_known : room_known ≤ j.ring.slots - length commands
      enough_known = omega (arith, of, few, run_is)

      still_stale : (k : ℕ) → room_known ≤ k → k < j.ring.slots - length commands
          → sequence_of (slot j.ring (j.first + length commands + k) d) < j.first
      still_stale k from to =
          let at : j.count + k ≡ j.first + length commands + k = ap (λ (m : ℕ). m + k) held.count in
          subst (λ (s : ℕ). sequence_of (slot j.ring s d) < j.first) at
          (subst (λ (m : ℕ). m < j.first) (sym (sequences_stay (j.count + k)))
          (held.behind low k (omega (arith, from)) (omega (arith, to, run_is))))

      boundaries_kept : KeepsBoundaries j.ring j.first c d
      boundaries_kept = boundaries_swept j.ring j.first c d commands held.there held.reads room_known run_stays enough_known swept_shut still_stale

      abbrev found : ℕ
      found = room_of j.ring j.first (length commands) d

      pub reads_swept : tail j.ring j.first d ≡ Some (record { commands = commands; room = found })
      reads_swept = tail_swept j.ring j.first c d commands held.there held.reads room_known run_stays enough_known swept_shut still_stale

      found_is : found ≡ closed_from j.ring (j.ring.slots - length commands) (j.first + length commands) d
      found_is = ap (λ b. if b then 0 else closed_from j.ring (j.ring.slots - length commands)
          (j.first + length commands) d) not_last

      pub found_enough : room_known ≤ found
      found_enough = omega
          (arith, found_is, no_less j.ring j.first c d commands held.there held.reads room_known run_stays enough_known swept_shut still_stale)

      pub holds_swept : Holds (with_room j more) d
      holds_swept = record {
        size = subst (λ (l : ℕ). j.ring.base + 64 * j.ring.slots ≤ l) (sym but.size) held.size;
        commands = commands;
        there = found;
        reads = reads_swept;
        count = held.count;
        enough = found_enough;
        behind = λ lower k from to. subst (λ (m : ℕ). m < j.first) (sym (sequences_stay (j.count + k)))
            (held.behind low k (omega (arith, from)) to);
        laid = same_there j.ring c d j.count j.ahead (λ k less. body_stays (j.count + k)) held.laid;
      }

    none_closed : HasClosed j.ring next 0 d
    none_closed k less = absurd (omega (arith, less))

    none_more : with_room j 0 ≡ j
    none_more = (λ i. record j { room = same i })
      where
        same : j.room + 0 ≡ j.room
        same = omega arith

    only_ring : SameBut j.ring.base (64 * j.ring.slots) c d
    only_ring = record {
      size = but.size;
      same = λ i out. but.same i (λ k less is. let end = slot_inside j.ring some_slots (next + k) in ⊎_elim
          (λ (before : i < j.ring.base). absurd (omega (arith, before, is)))
          (λ (behind : j.ring.base + 64 * j.ring.slots ≤ i). absurd (omega (arith, behind, is, end)))
          out);
    }

    pub same_run_there : SameRun j c d
    same_run_there = record {
      same = only_ring;
      commands = commands;
      there = held.there;
      before = held.reads;
      found = found 0 (omega arith) none_closed;
      after = reads_swept 0 (omega arith) none_closed;
      enough = omega (arith, found_enough 0 (omega arith) none_closed);
      holds = subst (λ (x : JournalState). Holds x d) none_more (holds_swept 0 (omega arith) none_closed);
      boundaries = boundaries_kept 0 (omega arith) none_closed;
    }

-- A turn of the sweep. `s` is the journal, as its fields show it.
pub record IsTurn (s j : JournalState) (n : ℕ) (m0 : Moment) : Type 0 where
  pub is : s ≡ j
  pub known : IsJournal s
  pub all : AllHold s m0
  pub low : s.count < LAST
  pub few : s.room + n ≤ s.ring.slots - (s.count - s.first)

some_to_sweep : (j : JournalState) → 0 < to_sweep j → (j.count ≢ LAST)
    × (to_sweep j ≡ j.ring.slots - (j.count - j.first) - j.room)
some_to_sweep j some = ⊎_elim
    (λ (last : j.count ≡ LAST). absurd
    (omega (
      arith,
      some,
      ap (λ b. if b then 0 else j.ring.slots - (j.count - j.first) - j.room)
          (eq-eqb j.count LAST last),
    )))
    (λ (other : j.count ≢ LAST). (
      other,
      ap (λ b. if b then 0 else j.ring.slots - (j.count - j.first) - j.room)
          (other_number j.count LAST other),
    ))
    (cases_eq j.count LAST)

pub no_more : (n most t u : ℕ) → n ≡ min most t → t ≡ u → n ≤ u
no_more n most t u is same = omega (arith, is, same)

pub turn_of : (s j : JournalState) (n : ℕ) (m0 : Moment) → s ≡ j → IsJournal s → 0 < to_sweep j → AllHold j m0
    → n ≤ to_sweep j → IsTurn s j n m0
turn_of s j n m0 is known some all few =
    let parts = some_to_sweep s (subst (λ (x : JournalState). 0 < to_sweep x) (sym is) some) in
    let few_s : n ≤ to_sweep s = subst (λ (x : JournalState). n ≤ to_sweep x) (sym is) few in
    let some_s : 0 < to_sweep s = subst (λ (x : JournalState). 0 < to_sweep x) (sym is) some in
    record {
      is = is;
      known = known;
      all = λ c left. subst (λ (x : JournalState). Holds x c) (sym is) (all c left);
      low = below parts.0 known.to_last;
      few = omega (arith, few_s, some_s, parts.1);
    }
  where
    below : s.count ≢ LAST → s.count ≤ LAST → s.count < LAST
    below other le = omega (arith, other, le)

module _ {s j : JournalState} {n : ℕ} {m0 : Moment} (t : IsTurn s j n m0) where
  pub may_sweep : (c : List ℕ) → MayClose s.ring (s.count + s.room) n m0 c → MaySweep j m0 c
  may_sweep c w = subst (λ (x : JournalState). MaySweep x m0 c) t.is (record {
    from = w.from;
    left = w.left;
    run = same_run_there s t.known n t.low t.few w.from c (t.all w.from w.left) w.same;
  })

  module _ (m : Moment) (shut : AreShut s.ring (s.count + s.room) n m0 m) where
    held : Holds s m0.bytes
    held = t.all m0.bytes (left_now m0)

    -- the journal, as its fields show it once they are swept
    pub sweeps : Sweeps j (with_room s n) m0 m
    sweeps = record {
      holds = λ c left. subst (λ (l : List ℕ). Holds (with_room s n) l) (sym (left_settled m c shut.calm left))
          (holds_swept s t.known n t.low t.few m0.bytes m.bytes held shut.kept n (omega arith) shut.closed);
      run = subst (λ (x : JournalState). SameRun x m0.bytes m.bytes) t.is
          (same_run_there s t.known n t.low t.few m0.bytes m.bytes held shut.kept);
      calm = shut.calm;
    }

-- the same of a disk
pub sweep_leaves : {D : Type 0} (now : D → Moment) (past : D → List Moment) (d0 d1 : D) {s j : JournalState} {n : ℕ}
    → IsTurn s j n (now d0)
    → LeavesOnly now past d0 d1 (MayClose s.ring (s.count + s.room) n (now d0))
    → LeavesOnly now past d0 d1 (MaySweep j (now d0))
sweep_leaves now past d0 d1 {s} {j} {n} t leaves = only_weaker now past d0 d1
    (MayClose s.ring (s.count + s.room) n (now d0)) (MaySweep j (now d0)) leaves (may_sweep t)
