-- A journal with commands more, and with others ahead, is one.
use Rattle.std.proofs.Common.{◌≡◌, ℕ, ◌+◌, ◌-◌, ◌<◌, ◌≤◌, Bool, true, false, ◌&&◌, ◌≢◌, ◌⊎◌, List, [], length}
use Rattle.std.proofs.Common.{if◌then◌else◌, nat_le, ◌==◌, Ok, Err, Result, sym, refl, ap, ◌∙◌, subst, inl, inr, ⊎_elim}
use Rattle.std.proofs.Common.{arith, eq-eqb, le-leb, leb-true}
use Rattle.std.proofs.lemmas.Bool.{cases_eq, cases_lt}
use Rattle.im_types.specs.Types.{Command, Refusal, JournalFull, Device, MAX_GROUP, LAST}
use Rattle.im_types.proofs.Tests.{and_both}
use Rattle.im_journal.proofs.{Groups.none_there, Rings.other_number}
use Rattle.im_journal.specs.Holding.{FitAhead, Holds, IsFullBy, IsFullFor, IsJournal, JournalState, longer, room_after}
use Rattle.im_journal.specs.Holding.{slots_ahead, to_sweep, with_ahead, with_room}

-- what is ahead fits where there is more room
pub fit_more : (count room more : ℕ) (commands : List Command) → room ≤ more → FitAhead count room commands
    → FitAhead count more commands
fit_more count room more commands le it = record { few = it.few; room = omega (arith, it.room, le); last = it.last }

-- that there is room, by the test
pub room_by : (count room many : ℕ) (test : Bool) → test ≡ (nat_le many room && nat_le (count + many) LAST)
    → test ≡ true → (many ≤ room) × (count + many ≤ LAST)
room_by count room many test tested passed =
    let both = and_both (nat_le many room) (nat_le (count + many) LAST) (sym tested ∙ passed) in
    (leb-true many room both.0, leb-true (count + many) LAST both.1)

-- that there is none
no_room_by : (count room many : ℕ) (test : Bool) → test ≡ (nat_le many room && nat_le (count + many) LAST)
    → test ≡ false → (room < many) ⊎ (LAST < count + many)
no_room_by count room many test tested failed = ⊎_elim
    (λ (less : room < many). inl less)
    (λ (enough : many ≤ room). ⊎_elim
    (λ (past : LAST < count + many). inr past)
    (λ (low : count + many ≤ LAST).
    let a : nat_le many room ≡ true = le-leb many room enough in
    let b : nat_le (count + many) LAST ≡ true = le-leb (count + many) LAST low in
    absurd (true_is_false (sym (λ i. a i && b i) ∙ sym tested ∙ failed)))
    (cases_lt LAST (count + many)))
    (cases_lt room many)
  where
    true_is_false : true ≡ false → ⊥
    true_is_false e = cc

-- the same of a journal, by its fields, behind what is ahead
pub full_by : (s j : JournalState) (next : List Command) (many : ℕ) (test : Bool) → s ≡ j → many ≡ slots_ahead s next
    → test ≡ (nat_le many s.room && nat_le (s.count + many) LAST) → test ≡ false → IsFullFor j next
full_by s j next many test is all tested failed =
    subst (λ (x : JournalState). IsFullFor x next) is
    (subst (λ (n : ℕ). (s.room < n) ⊎ (LAST < s.count + n)) all (no_room_by s.count s.room many test tested failed))

pub not_full_by : (s j : JournalState) (next : List Command) (many : ℕ) (test : Bool) → s ≡ j
    → many ≡ slots_ahead s next → test ≡ (nat_le many s.room && nat_le (s.count + many) LAST) → test ≡ true
    → IsFullFor j next → ⊥
not_full_by s j next many test is all tested passed full =
    let fits = room_by s.count s.room many test tested passed in
    ⊎_elim
    (λ (less : s.room < slots_ahead s next). absurd (omega (arith, less, all, fits.0)))
    (λ (past : LAST < s.count + slots_ahead s next). absurd (omega (arith, past, all, fits.1)))
    (subst (λ (x : JournalState). IsFullFor x next) (sym is) full)

-- the answer then, and elsewhere
pub full_here : {T D : Type 0} (full : Type 0) (d : D) → full → IsFullBy {T = T} full d d (Err JournalFull)
full_here full d is = record { exactly = (λ e. is, λ f. refl); untouched = λ e. refl }

not_full : {T D : Type 0} (full : Type 0) (old new : D) (r : Result T Refusal) → (full → ⊥)
    → (r ≡ Err JournalFull → ⊥) → IsFullBy full old new r
not_full full old new r none other = record {
  exactly = (λ e. absurd (other e), λ f. absurd (none f));
  untouched = λ e. absurd (other e);
}

pub full_no_device : {T D : Type 0} (full : Type 0) (old new : D) → (full → ⊥)
    → IsFullBy {T = T} full old new (Err Device)
full_no_device {T} {D} full old new none = not_full full old new (Err Device) none other
  where
    other : ◌≡◌ {A = Result T Refusal} (Err Device) (Err JournalFull) → ⊥
    other e = cc

pub full_no_ok : {T D : Type 0} (full : Type 0) (old new : D) (x : T) → (full → ⊥) → IsFullBy full old new (Ok x)
full_no_ok {T} {D} full old new x none = not_full full old new (Ok x) none other
  where
    other : ◌≡◌ {A = Result T Refusal} (Ok x) (Err JournalFull) → ⊥
    other e = cc

-- with commands ahead for which there is room
pub known_laid : (s : JournalState) → IsJournal s → (l : List Command) → length l ≤ MAX_GROUP → length l ≤ s.room
    → s.count + length l ≤ LAST → IsJournal (with_ahead l s)
known_laid s known l few room last = record {
  enough_slots = known.enough_slots;
  few_slots = known.few_slots;
  inside = known.inside;
  begun = known.begun;
  once_round = known.once_round;
  to_last = known.to_last;
  full_at_last = known.full_at_last;
  ahead = record { few = few; room = room; last = last };
}

-- with nothing ahead
pub known_none : (s : JournalState) → IsJournal s → (l : List Command) → l ≡ [] → IsJournal (with_ahead l s)
known_none s known l none = known_laid s known l (omega (arith, ap length none)) (omega (arith, ap length none))
    (omega (arith, ap length none, known.to_last))

holds_alone : (s : JournalState) (l : List Command) → l ≡ [] → (file : List ℕ) → Holds s file
    → Holds (with_ahead l s) file
holds_alone s l none file held = record {
  size = held.size;
  commands = held.commands;
  there = held.there;
  reads = held.reads;
  count = held.count;
  enough = held.enough;
  behind = held.behind;
  laid = none_there s.ring s.count l file none;
}

pub holds_none : (s j : JournalState) (l : List Command) → s ≡ j → l ≡ [] → (file : List ℕ) → Holds j file
    → Holds (with_ahead l s) file
holds_none s j l is none file held = holds_alone s l none file
    (subst (λ (x : JournalState). Holds x file) (sym is) held)

-- with n slots of those to be swept as room
pub known_swept : (s : JournalState) → IsJournal s → (n : ℕ) → n ≤ to_sweep s → IsJournal (with_room s n)
known_swept s known n few = by_test (s.count == LAST) refl few
  where
    by_test : (b : Bool) → (s.count == LAST) ≡ b → n ≤ (if b then 0 else s.ring.slots - (s.count - s.first) - s.room)
        → IsJournal (with_room s n)
    by_test true e le = record {
      enough_slots = known.enough_slots;
      few_slots = known.few_slots;
      inside = known.inside;
      begun = known.begun;
      once_round = omega (arith, le, known.once_round);
      to_last = known.to_last;
      full_at_last = λ last. omega (arith, le, known.full_at_last last);
      ahead = fit_more s.count s.room (s.room + n) s.ahead (omega arith) known.ahead;
    }
    by_test false e le = record {
      enough_slots = known.enough_slots;
      few_slots = known.few_slots;
      inside = known.inside;
      begun = known.begun;
      once_round = omega (arith, le, known.once_round, known.begun);
      to_last = known.to_last;
      full_at_last = λ last. let is : (s.count == LAST) ≡ true = eq-eqb s.count LAST last in absurd (cc);
      ahead = fit_more s.count s.room (s.room + n) s.ahead (omega arith) known.ahead;
    }

-- n commands more, for which there is room, and for these behind them
module _ (s : JournalState) (known : IsJournal s) (n : ℕ) (next : List Command) (few : length next ≤ MAX_GROUP)
    (room : n + length next ≤ s.room) (last : s.count + (n + length next) ≤ LAST) where
  abbrev test : Bool
  test = s.count + n == LAST

  none_at_last : s.count + n ≡ LAST → room_after s.count n s.room ≡ 0
  none_at_last is = ap (λ (b : Bool). if b then 0 else s.room - n) (eq-eqb (s.count + n) LAST is)

  less_before : s.count + n ≢ LAST → room_after s.count n s.room ≡ s.room - n
  less_before other = ap (λ (b : Bool). if b then 0 else s.room - n) (other_number (s.count + n) LAST other)

  no_more : room_after s.count n s.room ≤ s.room - n
  no_more = ⊎_elim
      (λ (is : s.count + n ≡ LAST). omega (arith, none_at_last is))
      (λ (other : s.count + n ≢ LAST). omega (arith, less_before other))
      (cases_eq (s.count + n) LAST)

  enough : length next ≤ room_after s.count n s.room
  enough = ⊎_elim
      (λ (is : s.count + n ≡ LAST). omega (arith, last, is))
      (λ (other : s.count + n ≢ LAST). omega (arith, less_before other, room))
      (cases_eq (s.count + n) LAST)

  pub known_longer : (k : JournalState) → k ≡ with_ahead next (longer n s) → IsJournal k
  known_longer k is = subst IsJournal (sym is) (record {
    enough_slots = known.enough_slots;
    few_slots = known.few_slots;
    inside = known.inside;
    begun = omega (arith, known.begun);
    once_round = omega (arith, no_more, room, known.once_round);
    to_last = omega (arith, last);
    full_at_last = none_at_last;
    ahead = record { few = few; room = enough; last = omega (arith, last) };
  })
