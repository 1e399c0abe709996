-- What the slots of a group that is written, or may be, do to the tail.
use Rattle.std.proofs.Common.{◌≡◌, ℕ, zero, suc, ◌+◌, ◌-◌, ◌*◌, ◌<◌, ◌≤◌, Bool, true, false, ◌&&◌, ◌≢◌, ◌⊎◌, List, []}
use Rattle.std.proofs.Common.{◌∷◌, ◌++◌, length, get_or, drop, if◌then◌else◌, nat_le, ◌==◌, Some, Result, option_map}
use Rattle.std.proofs.Common.{sym, refl, ap, ◌∙◌, subst, inl, inr, ⊎_elim, arith, length-append, get_or-drop}
use Rattle.std.proofs.Common.{get_or-take, leb-true}
use Rattle.std.proofs.lemmas.Bool.{cases_eq, cases_lt}
use Rattle.im_types.specs.Types.{Command, Refusal, MAX_GROUP, LAST, open_gate, is_open, sequence_of, Ring, slot_offset}
use Rattle.im_types.specs.Types.{Tail, slot, tail}
use Rattle.im_types.proofs.Tests.{and_both}
use Rattle.im_disk.proofs.GateLemmas.{done_calm, done_kept, done_same, done_there}
use Rattle.im_disk.proofs.SinceLemmas.{leaves_then, left_now, only_weaker}
use Rattle.im_disk.specs.{Gate.HasThere, Gate.MayOpen, Moment.Left, Moment.Moment, Moment.synced, Moment.written}
use Rattle.im_disk.specs.Since.{LeavesNow, LeavesOnly, SameBut}
use Rattle.im_journal.proofs.{Groups.beside_group, Groups.none_there, Groups.same_bodies, Rings.other_number}
use Rattle.im_journal.proofs.Slots.{away_after, no_gate_behind, opened_gate, same_body, slot_inside}
use Rattle.im_journal.proofs.Tails.{boundaries_added, boundaries_kept, next_closed, Parts, parts_of, tail_added}
use Rattle.im_journal.proofs.Tails.{tail_kept}
use Rattle.im_journal.specs.Groups.{AllFit, AreWritten, HasBodies, MayWriteBodies, SameButBodies, SameButGroup}
use Rattle.im_journal.specs.Holding.{Adds, ahead_after, AllHold, Holds, IsAdded, IsFullBy, IsJournal, journal_state}
use Rattle.im_journal.specs.Holding.{JournalState, KeepsBoundaries, longer, longer_tail, MayAppend, room_after}

-- what is ahead is no more once commands were added
pub none_ahead : {X : Type 0} (g : ℕ) (ahead : List X) → 0 < g → ahead_after g ahead ≡ []
none_ahead zero ahead some = absurd (omega (arith, some))
none_ahead (suc g) ahead some = refl

-- the journal with a group more, as its fields show it
pub longer_state : (base slots first count room more g : ℕ) (ahead none : List Command) → 0 < g → more
    ≡ room_after count g room → none ≡ [] → journal_state base slots first (count + g) more none
    ≡ longer g (journal_state base slots first count room ahead)
longer_state base slots first count room more g ahead none some room_is none_is = (λ i. journal_state base slots first
    (count + g) (room_is i) (ahead_is i))
  where
    ahead_is : none ≡ ahead_after g ahead
    ahead_is = none_is ∙ sym (none_ahead g ahead some)

-- a byte that isn't a gate is before it or behind it
pub beside_gate : (i a : ℕ) → i ≢ a → (i < a) ⊎ (a + 1 ≤ i)
beside_gate i a other = ⊎_elim (λ (low : i < a). inl low) (λ (high : a ≤ i). inr (omega (arith, high, other)))
    (cases_lt i a)

-- so is each byte behind the gate of a slot
pub behind_gate : (r : Ring) (n s i : ℕ) → slot_offset r s < i → i < slot_offset r s + 64
    → (i < slot_offset r n) ⊎ (slot_offset r n + 1 ≤ i)
behind_gate r n s i low high = ⊎_elim
    (λ (before : slot_offset r n ≤ slot_offset r s). inr (omega (arith, before, low)))
    (λ (after : slot_offset r s + 64 ≤ slot_offset r n). inl (omega (arith, after, high)))
    (no_gate_behind r n s)

-- bodies stay where one gate alone is written
pub bodies_stay : (r : Ring) (n : ℕ) (d c : List ℕ) (commands : List Command) → SameBut (slot_offset r n) 1 d c
    → HasBodies r (length commands) n commands d → HasBodies r (length commands) n commands c
bodies_stay r n d c commands but bodies = same_bodies r d c (length commands) n commands
    (λ k less. same_body r (n + k) c d but.size
    (λ i low high. but.same i (behind_gate r n (n + k) i low high))) bodies

-- there is room for these commands
pub record IsNext (j : JournalState) (commands : List Command) (m0 : Moment) : Type 0 where
  pub known : IsJournal j
  pub all : AllHold j m0
  pub some : 0 < length commands
  pub few : length commands ≤ MAX_GROUP
  pub room : length commands ≤ j.room
  pub last : j.count + length commands ≤ LAST

-- that there is, by the test; `s` is the journal, as its fields show it
pub next_of : (s j : JournalState) (commands : List Command) (m0 : Moment) (test : Bool) → s ≡ j → IsJournal s
    → AllHold j m0 → 0 < length commands → length commands ≤ MAX_GROUP
    → test ≡ (nat_le (length commands) s.room && nat_le (s.count + length commands) LAST) → test ≡ true
    → IsNext s commands m0
next_of s j commands m0 test is known all some few tested passed =
    let both = and_both (nat_le (length commands) s.room) (nat_le (s.count + length commands) LAST)
    (sym tested ∙ passed) in
    record {
      known = known;
      all = λ c left. subst (λ (x : JournalState). Holds x c) (sym is) (all c left);
      some = some;
      few = few;
      room = leb-true (length commands) s.room both.0;
      last = leb-true (s.count + length commands) LAST both.1;
    }

module _ {j : JournalState} {commands : List Command} {m0 : Moment} (next : IsNext j commands m0) where
  abbrev g : ℕ
  g = length commands

  abbrev at : ℕ
  at = slot_offset j.ring j.count

  some_slots : 0 < j.ring.slots
  some_slots = omega (arith, next.known.enough_slots)

  -- it goes once round the ring at most
  pub round : g ≤ j.ring.slots
  round = omega (arith, next.room, next.known.once_round, next.known.begun)

  pub inside : j.ring.base + 64 * j.ring.slots ≤ length m0.bytes
  inside = (next.all m0.bytes (left_now m0)).size

  module _ (d : List ℕ) (held : Holds j d) where
    abbrev t : Tail
    t = record { commands = held.commands; room = held.there }

    room_there : g ≤ held.there
    room_there = omega (arith, held.enough, next.room)

    parts : Parts j.ring j.first d t
    parts = parts_of j.ring j.first d t held.reads

    none_changed : SameButGroup j.ring j.count g d d
    none_changed = record { size = refl; same = λ i other out. refl }

    gate_shut : get_or d at 0 ≢ open_gate
    gate_shut = next_closed j.ring some_slots j.first j.count g d d t parts held.count next.some room_there none_changed

    module _ (c : List ℕ) (same : SameButGroup j.ring j.count g d c) where
      kept : get_or c at 0 ≢ open_gate → tail j.ring j.first c ≡ tail j.ring j.first d
      kept shut = tail_kept j.ring some_slots j.first j.count g d c t parts held.count next.some room_there same shut
          ∙ sym held.reads

      kept_boundaries : get_or c at 0 ≢ open_gate → KeepsBoundaries j.ring j.first d c
      kept_boundaries shut = boundaries_kept j.ring some_slots j.first j.count g d c t parts held.count next.some
          room_there same shut

      module _ (fits : AllFit commands) (opened : is_open (slot j.ring j.count c) ≡ true)
          (bodies : HasBodies j.ring g j.count commands c) where
        added : tail j.ring j.first c ≡ Some (longer_tail j.count commands t)
        added = tail_added j.ring some_slots j.first j.count g d c t parts held.count next.some room_there same
            commands refl next.few fits next.known.begun next.last opened bodies

        pub added_to : tail j.ring j.first c ≡ option_map (longer_tail j.count commands) (tail j.ring j.first d)
        added_to = added ∙ ap (λ o. option_map (longer_tail j.count commands) o) (sym held.reads)

        pub added_boundaries : KeepsBoundaries j.ring j.first d c
        added_boundaries = boundaries_added j.ring some_slots j.first j.count g d c t parts held.count next.some
            room_there same commands refl next.few fits next.known.begun next.last opened bodies

        pub longer_held : Holds (longer g j) c
        longer_held = record {
          size = subst (λ (n : ℕ). j.ring.base + 64 * j.ring.slots ≤ n) (sym same.size) held.size;
          commands = held.commands ++ commands;
          there = room_after j.count g held.there;
          reads = added;
          count = omega (arith, held.count, length-append held.commands commands);
          enough = less_room (j.count + g == LAST) held.enough;
          behind = still_behind;
          laid = none_there j.ring (j.count + g) (ahead_after g j.ahead) c (none_ahead g j.ahead next.some);
        }
          where
            less_room : (b : Bool) → j.room ≤ held.there
                → (if b then 0 else j.room - g) ≤ (if b then 0 else held.there - g)
            less_room true le = omega arith
            less_room false le = omega (arith, le)

            -- the slots behind the known room stay: they are others of the ring
            slot_kept : (k : ℕ) → j.room ≤ g + k → g + k < j.ring.slots - (j.count - j.first)
                → sequence_of (slot j.ring (j.count + (g + k)) c) < j.first
            slot_kept k low_k high =
                let is_same : slot j.ring (j.count + (g + k)) c ≡ slot j.ring (j.count + (g + k)) d =
                beside_group j.ring j.count g (j.count + (g + k)) d c next.some same
                (λ m i less lo hi. away_after j.ring some_slots (j.count + (g + k)) (j.count + m) i
                (omega (arith, less)) (omega (arith, high)) lo hi) in
                subst (λ (l : List ℕ). sequence_of l < j.first) (sym is_same)
                (held.behind (omega (arith, next.last, next.some)) (g + k) low_k high)

            still_behind : j.count + g < LAST → (k : ℕ) → room_after j.count g j.room ≤ k
                → k < j.ring.slots - (j.count + g - j.first) → sequence_of (slot j.ring (j.count + g + k) c) < j.first
            still_behind lower k from to =
                let not_last : (j.count + g == LAST)
                ≡ false = other_number (j.count + g) LAST (λ last. absurd (omega (arith, lower, last))) in
                let less : room_after j.count g j.room
                ≡ j.room - g = ap (λ (b : Bool). if b then 0 else j.room - g) not_last in
                let there : j.count + (g + k) ≡ j.count + g + k = omega arith in
                subst (λ (m : ℕ). sequence_of (slot j.ring m c) < j.first) there
                (slot_kept k (omega (arith, from, less)) (omega (arith, to, next.known.begun)))

  -- what a write of bodies leaves
  abbrev Bodies : List ℕ → Type 0
  Bodies = MayWriteBodies j.ring j.count g m0

  bodies_group : (c d : List ℕ) → SameButBodies j.ring j.count g c d → SameButGroup j.ring j.count g c d
  bodies_group c d same = record { size = same.size; same = λ i other out. same.same i out }

  gate_stays : (c d : List ℕ) → SameButBodies j.ring j.count g c d → get_or d at 0 ≡ get_or c at 0
  gate_stays c d same = same.same at (λ k less. no_gate_behind j.ring j.count (j.count + k))

  pub may_bodies : (c : List ℕ) → Bodies c → MayAppend j commands m0 c
  may_bodies c w =
      let shut : get_or c at 0 ≢ open_gate =
      (λ is. gate_shut w.from (next.all w.from w.left) (sym (gate_stays w.from c w.same) ∙ is)) in
      record {
        from = w.from;
        left = w.left;
        same = bodies_group w.from c w.same;
        reads = inl (kept w.from (next.all w.from w.left) c (bodies_group w.from c w.same) shut);
        boundaries = kept_boundaries w.from (next.all w.from w.left) c (bodies_group w.from c w.same) shut;
      }

  -- the bodies are written, and then the gate may be
  module _ (m1 : Moment) (w : AreWritten j.ring j.count commands m0 m1) where
    held : Holds j m0.bytes
    held = next.all m0.bytes (left_now m0)

    group_same : (c : List ℕ) → SameBut at 1 m1.bytes c → SameButGroup j.ring j.count g m0.bytes c
    group_same c but = record {
      size = but.size ∙ w.kept.size;
      same = λ i other out. but.same i (beside_gate i at other) ∙ w.kept.same i out;
    }

    bodies_there : (c : List ℕ) → SameBut at 1 m1.bytes c → HasBodies j.ring g j.count commands c
    bodies_there c but = bodies_stay j.ring j.count m1.bytes c commands but w.bodies

    may_gate : (c : List ℕ) → SameBut at 1 m1.bytes c → MayAppend j commands m0 c
    may_gate c but = by_gate (cases_eq (get_or c at 0) open_gate)
      where
        by_gate : (get_or c at 0 ≡ open_gate) ⊎ (get_or c at 0 ≢ open_gate) → MayAppend j commands m0 c
        by_gate (inl is) = record {
          from = m0.bytes;
          left = left_now m0;
          same = group_same c but;
          reads = inr (added_to m0.bytes held c (group_same c but) w.fits (opened_gate j.ring j.count c is)
              (bodies_there c but));
          boundaries = added_boundaries m0.bytes held c (group_same c but) w.fits (opened_gate j.ring j.count c is)
              (bodies_there c but);
        }
        by_gate (inr shut) = record {
          from = m0.bytes;
          left = left_now m0;
          same = group_same c but;
          reads = inl (kept m0.bytes held c (group_same c but) shut);
          boundaries = kept_boundaries m0.bytes held c (group_same c but) shut;
        }

    pub may_open : LeavesNow m1 Bodies → (c : List ℕ) → MayOpen at m1 c → MayAppend j commands m0 c
    may_open before c (inl left) = may_bodies c (before c left)
    may_open before c (inr but) = may_gate c but

    -- once the gate is open on the disk
    module _ (m2 : Moment) (is : m2 ≡ synced (written at (open_gate ∷ []) m1)) where
      fits_gate : at + 1 ≤ length m1.bytes
      fits_gate = omega (arith, w.kept.size, inside, slot_inside j.ring some_slots j.count)

      module _ (c : List ℕ) (same_c : SameBut at 1 m1.bytes c) (there_c : HasThere at (open_gate ∷ []) c) where
        gate_c : get_or c at 0 ≡ open_gate
        gate_c =
            let here : at + 0 ≡ at = omega arith in
            sym (get_or-take 1 (drop at c) 0 0 (omega arith) ∙ get_or-drop at c 0 0
            ∙ ap (λ (i : ℕ). get_or c i 0) here) ∙ ap (λ (l : List ℕ). get_or l 0 0) there_c

        opened_c : is_open (slot j.ring j.count c) ≡ true
        opened_c = opened_gate j.ring j.count c gate_c

        appended : IsAdded (length commands) j commands m0 c
        appended = record {
          from = m0.bytes;
          left = left_now m0;
          same = group_same c same_c;
          gate = opened_c;
          bodies = bodies_there c same_c;
          reads = added_to m0.bytes held c (group_same c same_c) w.fits opened_c (bodies_there c same_c);
          boundaries = added_boundaries m0.bytes held c (group_same c same_c) w.fits opened_c (bodies_there c same_c);
        }

        holds_longer : Holds (longer g j) c
        holds_longer = longer_held m0.bytes held c (group_same c same_c) w.fits opened_c (bodies_there c same_c)

      same_in : (c : List ℕ) → Left m2 c → SameBut at 1 m1.bytes c
      same_in c left = done_same at (open_gate ∷ []) m1 m2 fits_gate is c left

      there_in : (c : List ℕ) → Left m2 c → HasThere at (open_gate ∷ []) c
      there_in c left = done_there at (open_gate ∷ []) m1 m2 fits_gate is c left

      pub adds : (longer_j : JournalState) → longer_j ≡ longer g j → Adds j longer_j commands m0 m2
      adds longer_j longer_is = record {
        added = λ c left. appended c (same_in c left) (there_in c left);
        holds = λ c left. subst (λ (x : JournalState). Holds x c) (sym longer_is)
            (holds_longer c (same_in c left) (there_in c left));
        kept = group_same m2.bytes (done_kept at (open_gate ∷ []) m1 m2 fits_gate is);
        calm = done_calm at (open_gate ∷ []) m1 m2 fits_gate is;
      }

-- since the start, and at the end: while the bodies are written, and then the gate
module _ {D : Type 0} (now : D → Moment) (past : D → List Moment)
    (d0 d1 : D) {s j : JournalState} {commands : List Command} (is : s ≡ j) (next : IsNext s commands (now d0))
    (leaves : LeavesOnly now past d0 d1 (MayWriteBodies s.ring s.count (length commands) (now d0))) where
  abbrev May : JournalState → List ℕ → Type 0
  May x = MayAppend x commands (now d0)

  pub bodies_leave : LeavesOnly now past d0 d1 (MayAppend j commands (now d0))
  bodies_leave = subst (λ (x : JournalState). LeavesOnly now past d0 d1 (May x)) is
      (only_weaker now past d0 d1 (MayWriteBodies s.ring s.count (length commands) (now d0)) (May s) leaves
      (may_bodies next))

  module _ (w : AreWritten s.ring s.count commands (now d0) (now d1)) (d2 : D) where
    may : (c : List ℕ) → MayOpen (slot_offset s.ring s.count) (now d1) c → May s c
    may = may_open next (now d1) w leaves.after

    pub gate_leaves : LeavesOnly now past d1 d2 (MayOpen (slot_offset s.ring s.count) (now d1))
        → LeavesOnly now past d0 d2 (MayAppend j commands (now d0))
    gate_leaves opens = subst (λ (x : JournalState). LeavesOnly now past d0 d2 (May x)) is (record {
      within = leaves_then (now d0) (now d1) (now d2) (past d0) (past d1) (past d2)
          (MayWriteBodies s.ring s.count (length commands) (now d0)) (MayOpen (slot_offset s.ring s.count) (now d1))
          (May s)
          leaves.within opens.within (may_bodies next) may;
      after = λ c left. may c (opens.after c left);
    })

    pub group_adds : (longer_j : JournalState) → longer_j ≡ longer (length commands) s → now d2
        ≡ synced (written (slot_offset s.ring s.count) (open_gate ∷ []) (now d1))
        → Adds j longer_j commands (now d0) (now d2)
    group_adds longer_j longer_is opened = subst
        (λ (x : JournalState). Adds x longer_j commands (now d0) (now d2)) is
        (adds next (now d1) w (now d2) opened longer_j longer_is)

-- of one command: there is no room, as the last count has none
pub full_of_one : {T D : Type 0} (j : JournalState) (old new : D) (result : Result T Refusal) → IsJournal j
    → IsFullBy ((j.room < 1) ⊎ (LAST < j.count + 1)) old new result → IsFullBy (j.room ≡ 0) old new result
full_of_one j old new result known full = record {
  exactly = (
    λ e. ⊎_elim
        (λ (none : j.room < 1). omega (arith, none))
        (λ (past : LAST < j.count + 1). known.full_at_last (omega (arith, past, known.to_last)))
        (full.exactly.0 e),
    λ none. full.exactly.1 (inl (omega (arith, none))),
  );
  untouched = full.untouched;
}
