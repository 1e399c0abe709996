-- Bodies that are written behind a run, behind closed gates.
use Rattle.std.proofs.Common.{◌≡◌, ℕ, ◌+◌, ◌-◌, ◌*◌, ◌<◌, ◌≤◌, Bool, true, ◌&&◌, ◌≢◌, List, [], length, get_or, nat_le}
use Rattle.std.proofs.Common.{sym, refl, ap, ◌∙◌, subst, inl, inr, ⊎_elim, arith, ext_get_or, leb-true}
use Rattle.std.proofs.lemmas.Bool.{cases_lt}
use Rattle.im_types.specs.Types.{Command, LAST, open_gate, sequence_of, slot_offset, IsBoundary, Tail, slot, tail}
use Rattle.im_types.proofs.Tests.{and_both}
use Rattle.im_disk.proofs.SinceLemmas.{left_now, left_settled, only_weaker}
use Rattle.im_disk.specs.{declared.Disk.Ghosts, Moment.Moment, Since.LeavesOnly, Since.SameBut}
use Rattle.im_journal.proofs.Groups.{beside_group, none_there}
use Rattle.im_journal.proofs.Slots.{away, away_after, no_gate_behind, slot_inside}
use Rattle.im_journal.proofs.Tails.{boundaries_kept, next_closed, Parts, parts_of, tail_kept}
use Rattle.im_journal.specs.Groups.{AreLaid, MayWriteBodies, SameButBodies, SameButGroup}
use Rattle.im_journal.specs.Holding.{AllHold, Holds, IsJournal, JournalState, KeepsBoundaries, Lays, MayLay, SameRun}
use Rattle.im_journal.specs.Holding.{StandAhead, with_ahead}

-- h bodies, for which there is room; the file d holds the journal
module _ (j : JournalState) (some : 0 < j.ring.slots) (h : ℕ) (room : h ≤ j.room) (d c : List ℕ) (held : Holds j d)
    (same : SameButBodies j.ring j.count h d c) where
  abbrev at : ℕ
  at = slot_offset j.ring j.count

  -- no byte is written where there are none
  nothing : h ≤ 0 → c ≡ d
  nothing none = ext_get_or 0 c d same.size (λ i lt. same.same i (λ k less. absurd (omega (arith, less, none))))

  group_same : SameButGroup j.ring j.count h d c
  group_same = record { size = same.size; same = λ i other out. same.same i out }

  none_changed : SameButGroup j.ring j.count h d d
  none_changed = record { size = refl; same = λ i other out. refl }

  abbrev t : Tail
  t = record { commands = held.commands; room = held.there }

  parts : Parts j.ring j.first d t
  parts = parts_of j.ring j.first d t held.reads

  room_there : h ≤ held.there
  room_there = omega (arith, held.enough, room)

  gate_stays : get_or c at 0 ≡ get_or d at 0
  gate_stays = same.same at (λ k less. no_gate_behind j.ring j.count (j.count + k))

  gate_shut : 0 < h → get_or c at 0 ≢ open_gate
  gate_shut more is = next_closed j.ring some j.first j.count h d d t parts held.count more room_there none_changed
      (sym gate_stays ∙ is)

  pub tail_laid : tail j.ring j.first c ≡ tail j.ring j.first d
  tail_laid = ⊎_elim
      (λ (more : 0 < h). tail_kept j.ring some j.first j.count h d c t parts held.count more room_there group_same
      (gate_shut more) ∙ sym held.reads)
      (λ (none : h ≤ 0). ap (λ (f : List ℕ). tail j.ring j.first f) (nothing none))
      (cases_lt 0 h)

  pub boundaries_laid : KeepsBoundaries j.ring j.first d c
  boundaries_laid k e = ⊎_elim
      (λ (more : 0 < h). boundaries_kept j.ring some j.first j.count h d c t parts held.count more room_there group_same
      (gate_shut more) k e)
      (λ (none : h ≤ 0). subst (λ (f : List ℕ). IsBoundary j.ring j.first k f) (sym (nothing none)) e)
      (cases_lt 0 h)

  -- the slots before the bodies stay, and those behind them
  pub before_laid : (s : ℕ) → s < j.count → j.count + h ≤ s + j.ring.slots → slot j.ring s c ≡ slot j.ring s d
  before_laid s low round = ⊎_elim
      (λ (more : 0 < h). beside_group j.ring j.count h s d c more group_same
      (λ m i less lo hi. away j.ring some s (j.count + m) i (omega (arith, low)) (omega (arith, less, round)) lo hi))
      (λ (none : h ≤ 0). ap (λ (f : List ℕ). slot j.ring s f) (nothing none))
      (cases_lt 0 h)

  behind_laid : (k : ℕ) → j.room ≤ k → k < j.ring.slots - (j.count - j.first) → slot j.ring (j.count + k) c
      ≡ slot j.ring (j.count + k) d
  behind_laid k low high = ⊎_elim
      (λ (more : 0 < h). beside_group j.ring j.count h (j.count + k) d c more group_same
      (λ m i less lo hi. away_after j.ring some (j.count + k) (j.count + m) i
      (omega (arith, less, room, low)) (omega (arith, high)) lo hi))
      (λ (none : h ≤ 0). ap (λ (f : List ℕ). slot j.ring (j.count + k) f) (nothing none))
      (cases_lt 0 h)

  -- the journal with these commands ahead
  pub holds_laid : (commands : List Command) → StandAhead j.ring j.count commands c → Holds (with_ahead commands j) c
  holds_laid commands stands = record {
    size = subst (λ (n : ℕ). j.ring.base + 64 * j.ring.slots ≤ n) (sym same.size) held.size;
    commands = held.commands;
    there = held.there;
    reads = tail_laid ∙ held.reads;
    count = held.count;
    enough = held.enough;
    behind = λ low k from to. subst (λ (l : List ℕ). sequence_of l < j.first) (sym (behind_laid k from to))
        (held.behind low k from to);
    laid = stands;
  }

  only_ring : SameBut j.ring.base (64 * j.ring.slots) d c
  only_ring = record {
    size = same.size;
    same = λ i out. ⊎_elim
        (λ (low : i < j.ring.base). same.same i (λ k less. inl (omega (arith, low))))
        (λ (high : j.ring.base + 64 * j.ring.slots ≤ i). same.same i
        (λ k less. inr (omega (arith, high, slot_inside j.ring some (j.count + k)))))
        out;
  }

  -- where none were ahead, the run is the same
  pub run_laid : j.ahead ≡ [] → SameRun j d c
  run_laid none = record {
    same = only_ring;
    commands = held.commands;
    there = held.there;
    before = held.reads;
    found = held.there;
    after = tail_laid ∙ held.reads;
    enough = held.enough;
    holds = holds_laid j.ahead (none_there j.ring j.count j.ahead c none);
    boundaries = boundaries_laid;
  }

-- There is room for commands ahead, by the test. `s` is the journal, as its fields show it, and `l` are the commands.
pub record IsFirst (s j : JournalState) (l next : List Command) (m0 : Moment) : Type 0 where
  pub is : s ≡ j
  pub same : l ≡ next
  pub known : IsJournal s
  pub none : s.ahead ≡ []
  pub all : AllHold s m0
  pub room : length l ≤ s.room
  pub last : s.count + length l ≤ LAST

pub first_of : (s j : JournalState) (l next : List Command) (m0 : Moment) (many : ℕ) (test : Bool) → s ≡ j → l ≡ next
    → IsJournal s → j.ahead ≡ [] → AllHold j m0 → many ≡ length l
    → test ≡ (nat_le many s.room && nat_le (s.count + many) LAST) → test ≡ true → IsFirst s j l next m0
first_of s j l next m0 many test is same known none all so_many tested passed =
    let both = and_both (nat_le many s.room) (nat_le (s.count + many) LAST) (sym tested ∙ passed) in
    record {
      is = is;
      same = same;
      known = known;
      none = ap (λ (x : JournalState). x.ahead) is ∙ none;
      all = λ c left. subst (λ (x : JournalState). Holds x c) (sym is) (all c left);
      room = omega (arith, so_many, leb-true many s.room both.0);
      last = omega (arith, so_many, leb-true (s.count + many) LAST both.1);
    }

module _ {s j : JournalState} {l next : List Command} {m0 : Moment} (f : IsFirst s j l next m0) where
  some_slots : 0 < s.ring.slots
  some_slots = omega (arith, f.known.enough_slots)

  pub round : length l ≤ s.ring.slots
  round = omega (arith, f.room, f.known.once_round, f.known.begun)

  pub inside : s.ring.base + 64 * s.ring.slots ≤ length m0.bytes
  inside = (f.all m0.bytes (left_now m0)).size

  pub may_lay : (c : List ℕ) → MayWriteBodies s.ring s.count (length l) m0 c → MayLay j m0 c
  may_lay c w = subst (λ (x : JournalState). MayLay x m0 c) f.is (record {
    from = w.from;
    left = w.left;
    run = run_laid s some_slots (length l) f.room w.from c (f.all w.from w.left) w.same f.none;
  })

  -- the journal with them, as its fields show it
  pub lays : (m : Moment) → AreLaid s.ring s.count l m0 m → (k : JournalState) → k ≡ with_ahead l s → Lays j k m0 m
  lays m w k k_is = subst (λ (x : JournalState). Lays x k m0 m) f.is (record {
    holds = λ c left. subst (λ (file : List ℕ). Holds k file) (sym (left_settled m c w.calm left))
        (subst (λ (x : JournalState). Holds x m.bytes) (sym k_is)
        (holds_laid s some_slots (length l) f.room m0.bytes m.bytes (f.all m0.bytes (left_now m0)) w.kept l
        (record { bodies = w.bodies; fits = w.fits })));
    run = run_laid s some_slots (length l) f.room m0.bytes m.bytes (f.all m0.bytes (left_now m0)) w.kept f.none;
    calm = w.calm;
  })

-- the same of a disk
pub lay_leaves : {D : Type 0} (disk : Ghosts D) (d0 d1 : D) {s j : JournalState}
    {l next : List Command} → IsFirst s j l next (disk.now d0)
    → LeavesOnly disk.now disk.past d0 d1 (MayWriteBodies s.ring s.count (length l) (disk.now d0))
    → LeavesOnly disk.now disk.past d0 d1 (MayLay j (disk.now d0))
lay_leaves disk d0 d1 {s} {j} {l} {next} f leaves = only_weaker disk.now disk.past d0 d1
    (MayWriteBodies s.ring s.count (length l) (disk.now d0)) (MayLay j (disk.now d0)) leaves (may_lay f)
