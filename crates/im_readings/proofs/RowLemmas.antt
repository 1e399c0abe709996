-- A run that spells commands is the longest row of groups.
use Rattle.std.proofs.Common.{◌≡◌, ℕ, zero, suc, ◌+◌, ◌-◌, ◌<◌, ◌≤◌, Bool, true, false, ◌&&◌, ◌⊎◌, List, [], ◌∷◌, ◌++◌}
use Rattle.std.proofs.Common.{length, nat_lt, nat_le, ◌==◌, slice_get, Some, Option, sym, refl, ap, ◌∙◌, subst, inl}
use Rattle.std.proofs.Common.{inr, arith, ltb-true, lt-ltb, eq-eqb, eqb-true, le-leb, leb-true}
use Rattle.im_types.specs.Types.{Command, MAX_GROUP, LAST, group_of, sequence_of, read_in, Ring, run_from, with_first}
use Rattle.im_types.specs.Types.{if_true, leads, commands_in, slot, continues}
use Rattle.im_types.proofs.Tests.{and_both}
use Rattle.im_journal.proofs.{Rings.continues_is, Runs.bool_cases, Runs.firsts, Runs.goes, Runs.stops, Slots.goes_on}
use Rattle.im_readings.specs.Rows.{commands_of_groups, count_in, HasLongestRow, HoldsGroup, HoldsRow, StopsAt}

-- what a test lets through
tested : (b : Bool) (o : Option Command) (c : Command) → if_true b o ≡ Some c → (b ≡ true) × (o ≡ Some c)
tested true o c e = (refl, e)
tested false o c e = absurd (cc)

-- the tests of a slot that leads a group
module _ (bytes : List ℕ) (s : ℕ) where
  lead_parts : leads s bytes ≡ true → (0 < group_of bytes) × (group_of bytes ≤ MAX_GROUP) × (s + group_of bytes ≤ LAST)
  lead_parts e =
      let g = group_of bytes in
      let outer = and_both (nat_lt 0 g && nat_le g MAX_GROUP) (nat_le (s + g) LAST) e in
      let inner = and_both (nat_lt 0 g) (nat_le g MAX_GROUP) outer.0 in
      (ltb-true 0 g inner.0, leb-true g MAX_GROUP inner.1, leb-true (s + g) LAST outer.1)

module _ (r : Ring) (file : List ℕ) where
  -- followers of a group, slot by slot
  abbrev Follow : ℕ → List Command → Type 0
  Follow s [] = Unit {0}
  Follow s (c ∷ cs) = (sequence_of (slot r s file) ≡ s) × (read_in 0 (slot r s file) ≡ Some c) × Follow (s + 1) cs

  follow_number : (s : ℕ) (cs : List Command) → Follow s cs → (i : ℕ) → i < length cs
      → sequence_of (slot r (s + i) file) ≡ s + i
  follow_number s [] f i low = absurd (omega (arith, low))
  follow_number s (c ∷ cs) f zero low =
      let here : s + 0 ≡ s = omega arith in
      subst (λ (m : ℕ). sequence_of (slot r m file) ≡ m) (sym here) f.0
  follow_number s (c ∷ cs) f (suc i) low =
      let next : s + 1 + i ≡ s + suc i = omega arith in
      subst (λ (m : ℕ). sequence_of (slot r m file) ≡ m) next (follow_number (s + 1) cs f.2 i (omega (arith, low)))

  follow_read : (s : ℕ) (cs : List Command) → Follow s cs → (i : ℕ) → i < length cs
      → read_in 0 (slot r (s + i) file) ≡ slice_get cs i
  follow_read s [] f i low = absurd (omega (arith, low))
  follow_read s (c ∷ cs) f zero low =
      let here : s + 0 ≡ s = omega arith in
      subst (λ (m : ℕ). read_in 0 (slot r m file) ≡ Some c) (sym here) f.1
  follow_read s (c ∷ cs) f (suc i) low =
      let next : s + 1 + i ≡ s + suc i = omega arith in
      subst (λ (m : ℕ). read_in 0 (slot r m file) ≡ slice_get cs i) next
      (follow_read (s + 1) cs f.2 i (omega (arith, low)))

  follow_of : (s : ℕ) (cs : List Command)
      → ((i : ℕ) → i < length cs → sequence_of (slot r (s + i) file) ≡ s + i)
      → ((i : ℕ) → i < length cs → read_in 0 (slot r (s + i) file) ≡ slice_get cs i) → Follow s cs
  follow_of s [] number read = tt
  follow_of s (c ∷ cs) number read =
      let here : s + 0 ≡ s = omega arith in (
        subst (λ (m : ℕ). sequence_of (slot r m file) ≡ m) here (number 0 (omega arith)),
        subst (λ (m : ℕ). read_in 0 (slot r m file) ≡ Some c) here (read 0 (omega arith)),
        follow_of (s + 1) cs
            (λ i low. let next : s + suc i ≡ s + 1 + i = omega arith in
            subst (λ (m : ℕ). sequence_of (slot r m file) ≡ m) next (number (suc i) (omega (arith, low))))
            (λ i low. let next : s + suc i ≡ s + 1 + i = omega arith in
            subst (λ (m : ℕ). read_in 0 (slot r m file) ≡ slice_get cs i) next (read (suc i) (omega (arith, low)))),
      )

  -- a group, by its leader and its followers
  holds : (s : ℕ) (c : Command) (cs : List Command) → continues (slot r s file) s ≡ true
      → leads s (slot r s file) ≡ true → read_in (group_of (slot r s file)) (slot r s file) ≡ Some c
      → length cs ≡ group_of (slot r s file) - 1 → Follow (s + 1) cs → HoldsGroup r s (c ∷ cs) file
  holds s c cs on led read long follow =
      let on_both = continues_is (slot r s file) s on in
      let led_by = lead_parts (slot r s file) s led in
      let size : group_of (slot r s file) ≡ suc (length cs) = omega (arith, long, led_by.0) in
      let here : s + 0 ≡ s = omega arith in
      record {
        some = omega arith;
        few = omega (arith, size, led_by.1);
        low = omega (arith, size, led_by.2);
        opened = on_both.0;
        counted = size;
        numbered = number (on_both.1);
        spelled = spell (ap (λ (m : ℕ). read_in m (slot r s file)) (sym size) ∙ read);
      }
    where
      number : sequence_of (slot r s file) ≡ s → (i : ℕ) → i < suc (length cs)
          → sequence_of (slot r (s + i) file) ≡ s + i
      number is zero low =
          let here : s + 0 ≡ s = omega arith in
          subst (λ (m : ℕ). sequence_of (slot r m file) ≡ m) (sym here) is
      number is (suc i) low =
          let next : s + 1 + i ≡ s + suc i = omega arith in
          subst (λ (m : ℕ). sequence_of (slot r m file) ≡ m) next
          (follow_number (s + 1) cs follow i (omega (arith, low)))

      spell : read_in (suc (length cs)) (slot r s file) ≡ Some c → (i : ℕ) → i < suc (length cs)
          → read_in (count_in (c ∷ cs) i) (slot r (s + i) file) ≡ slice_get (c ∷ cs) i
      spell is zero low =
          let here : s + 0 ≡ s = omega arith in
          subst (λ (m : ℕ). read_in (suc (length cs)) (slot r m file) ≡ Some c) (sym here) is
      spell is (suc i) low =
          let next : s + 1 + i ≡ s + suc i = omega arith in
          subst (λ (m : ℕ). read_in 0 (slot r m file) ≡ slice_get cs i) next
          (follow_read (s + 1) cs follow i (omega (arith, low)))

  -- the slots from sequence number s on, of which the first `due` follow in a group that began before, as rows
  record Rowed (n due s : ℕ) (cs : List Command) : Type 0 where
    pub behind : List Command
    pub groups : List (List Command)
    pub is : cs ≡ behind ++ commands_of_groups groups
    pub due_is : length behind ≡ due
    pub follow : Follow s behind
    pub row : HoldsRow r (s + due) groups file
    pub round : length cs ≤ n
    pub ends : (length cs ≡ n) ⊎ (continues (slot r (s + length cs) file) (s + length cs) ≡ false)

  ends_later : (n s m k : ℕ) → k ≡ suc m
      → (m ≡ n) ⊎ (continues (slot r (s + 1 + m) file) (s + 1 + m) ≡ false)
      → (k ≡ suc n) ⊎ (continues (slot r (s + k) file) (s + k) ≡ false)
  ends_later n s m k is (inl whole) = inl (omega (arith, is, whole))
  ends_later n s m k is (inr stops) =
      let next : s + 1 + m ≡ s + k = omega (arith, is) in
      inr (subst (λ (i : ℕ). continues (slot r i file) i ≡ false) next stops)

  rowed : (n due s : ℕ) (cs : List Command) → commands_in due s (run_from r n due s file) ≡ Some cs
      → Rowed n due s cs
  rowed zero zero s cs e =
      let none : ◌≡◌ {A = List Command} cs [] = cc in
      let size : length cs ≡ 0 = ap length none in
      record {
        behind = [];
        groups = [];
        is = none;
        due_is = refl;
        follow = tt;
        row = tt;
        round = omega (arith, size);
        ends = inl size;
      }
  rowed zero (suc due) s cs e = absurd (cc)
  rowed (suc n) (suc due) s cs e =
      let p = firsts (if_true (sequence_of (slot r s file) == s) (read_in 0 (slot r s file)))
      (commands_in due (s + 1) (run_from r n due (s + 1) file)) cs e in
      let test = tested (sequence_of (slot r s file) == s) (read_in 0 (slot r s file)) p.0 p.2 in
      let rest = rowed n due (s + 1) p.1 p.3 in
      let size : length cs ≡ suc (length p.1) = ap length p.4 in
      let place : s + 1 + due ≡ s + suc due = omega arith in
      let round : length p.1 ≤ n = rest.round in
      record {
        behind = p.0 ∷ rest.behind;
        groups = rest.groups;
        is = p.4 ∙ ap (λ (l : List Command). p.0 ∷ l) rest.is;
        due_is = ap (λ (m : ℕ). suc m) rest.due_is;
        follow = (eqb-true (sequence_of (slot r s file)) s test.0, test.1, rest.follow);
        row = subst (λ (m : ℕ). HoldsRow r m rest.groups file) place rest.row;
        round = omega (arith, size, round);
        ends = ends_later n s (length p.1) (length cs) size rest.ends;
      }
  rowed (suc n) zero s cs e = elim (bool_cases (continues (slot r s file) s)) [
    | inl on ↦
        let due = group_of (slot r s file) - 1 in
        let read = subst (λ (l : List (List ℕ)). commands_in 0 s l ≡ Some cs) (goes r n s file on) e in
        let p = firsts (if_true (leads s (slot r s file)) (read_in (group_of (slot r s file)) (slot r s file)))
        (commands_in (group_of (slot r s file) - 1) (s + 1)
        (run_from r n (group_of (slot r s file) - 1) (s + 1) file)) cs read in
        let test = tested (leads s (slot r s file)) (read_in (group_of (slot r s file)) (slot r s file)) p.0 p.2 in
        let rest = rowed n (group_of (slot r s file) - 1) (s + 1) p.1 p.3 in
        let size : length cs ≡ suc (length p.1) = ap length p.4 in
        let round : length p.1 ≤ n = rest.round in
        let long : length rest.behind ≡ group_of (slot r s file) - 1 = rest.due_is in
        let place : s + 1 + (group_of (slot r s file) - 1) ≡ s + 0 + suc (length rest.behind) = omega (arith, long) in
        let begin : s ≡ s + 0 = omega arith in
        record {
          behind = [];
          groups = (p.0 ∷ rest.behind) ∷ rest.groups;
          is = p.4 ∙ ap (λ (l : List Command). p.0 ∷ l) rest.is;
          due_is = refl;
          follow = tt;
          row = (
            subst (λ (m : ℕ). HoldsGroup r m (p.0 ∷ rest.behind) file) begin
                (holds s p.0 rest.behind on test.0 test.1 rest.due_is rest.follow),
            subst (λ (m : ℕ). HoldsRow r m rest.groups file) place rest.row,
          );
          round = omega (arith, size, round);
          ends = ends_later n s (length p.1) (length cs) size rest.ends;
        }
    | inr off ↦
        let none_read = stops r (suc n) s file (λ some. off) in
        let read = subst (λ (l : List (List ℕ)). commands_in 0 s l ≡ Some cs) none_read e in
        let none : ◌≡◌ {A = List Command} cs [] = cc in
        let size : length cs ≡ 0 = ap length none in
        let here : s ≡ s + length cs = omega (arith, size) in
        record {
          behind = [];
          groups = [];
          is = none;
          due_is = refl;
          follow = tt;
          row = tt;
          round = omega (arith, size);
          ends = inr (subst (λ (m : ℕ). continues (slot r m file) m ≡ false) here off);
        }
  ]

  pub longest_of : (n first : ℕ) (cs : List Command) → n ≡ r.slots
      → commands_in 0 first (run_from r n 0 first file) ≡ Some cs → HasLongestRow r first file cs
  longest_of n first cs slots e = from (rowed n 0 first cs e)
    where
      from : Rowed n 0 first cs → HasLongestRow r first file cs
      from it = with_behind it.behind refl
        where
          with_behind : (behind : List Command) → it.behind ≡ behind → HasLongestRow r first file cs
          with_behind (c ∷ more) is =
              let due : length it.behind ≡ 0 = it.due_is in
              let some : length it.behind ≡ suc (length more) = ap length is in
              absurd (omega (arith, due, some))
          with_behind [] is =
              let whole : cs ≡ commands_of_groups it.groups =
              it.is ∙ ap (λ (l : List Command). l ++ commands_of_groups it.groups) is in
              let begin : first + 0 ≡ first = omega arith in
              record {
                groups = it.groups;
                longest = record {
                  row = subst (λ (m : ℕ). HoldsRow r m it.groups file) begin it.row;
                  round = subst (λ (l : List Command). length l ≤ r.slots) whole
                      (subst (λ (m : ℕ). length cs ≤ m) slots it.round);
                  ends = subst (λ (l : List Command). (length l ≡ r.slots) ⊎ StopsAt r (first + length l) file) whole
                      (subst (λ (m : ℕ). (length cs ≡ m) ⊎ StopsAt r (first + length cs) file) slots it.ends);
                };
                are = whole;
              }

  -- the slots of a row read as its commands
  ends_sooner : (n s m : ℕ) → (suc m ≡ suc n) ⊎ (continues (slot r (s + suc m) file) (s + suc m) ≡ false)
      → (m ≡ n) ⊎ (continues (slot r (s + 1 + m) file) (s + 1 + m) ≡ false)
  ends_sooner n s m (inl whole) = inl (omega (arith, whole))
  ends_sooner n s m (inr off) =
      let next : s + suc m ≡ s + 1 + m = omega arith in
      inr (subst (λ (i : ℕ). continues (slot r i file) i ≡ false) next off)

  stops_here : (n s : ℕ) → (0 ≡ suc n) ⊎ (continues (slot r (s + 0) file) (s + 0) ≡ false)
      → continues (slot r s file) s ≡ false
  stops_here n s (inl whole) = absurd (omega (arith, whole))
  stops_here n s (inr off) =
      let here : s + 0 ≡ s = omega arith in
      subst (λ (i : ℕ). continues (slot r i file) i ≡ false) here off

  -- a group's leader, and its followers
  record Led (s : ℕ) (c : Command) (cs : List Command) : Type 0 where
    pub on : continues (slot r s file) s ≡ true
    pub leads : leads s (slot r s file) ≡ true
    pub read : read_in (group_of (slot r s file)) (slot r s file) ≡ Some c
    pub due : group_of (slot r s file) - 1 ≡ length cs
    pub follow : Follow (s + 1) cs

  led_of : (s : ℕ) (c : Command) (cs : List Command) → HoldsGroup r s (c ∷ cs) file → Led s c cs
  led_of s c cs h =
      let here : s + 0 ≡ s = omega arith in
      let few : suc (length cs) ≤ MAX_GROUP = h.few in
      let low : s + suc (length cs) ≤ LAST = h.low in
      let size : group_of (slot r s file) ≡ suc (length cs) = h.counted in
      let number : sequence_of (slot r s file) ≡ s = subst (λ (m : ℕ). sequence_of (slot r m file) ≡ m) here
      (h.numbered 0 (omega arith)) in
      record {
        on = goes_on (slot r s file) s h.opened number (lt-ltb s LAST (omega (arith, low)));
        leads =
            ap (λ (m : ℕ). nat_lt 0 m && nat_le m MAX_GROUP && nat_le (s + m) LAST) size
            ∙ ap (λ (b : Bool). b && nat_le (suc (length cs)) MAX_GROUP && nat_le (s + suc (length cs)) LAST)
            (lt-ltb 0 (suc (length cs)) (omega arith))
            ∙ ap (λ (b : Bool). b && nat_le (s + suc (length cs)) LAST)
            (le-leb (suc (length cs)) MAX_GROUP few)
            ∙ le-leb (s + suc (length cs)) LAST low;
        read = ap (λ (m : ℕ). read_in m (slot r s file)) size
            ∙ subst (λ (m : ℕ). read_in (suc (length cs)) (slot r m file) ≡ Some c) here (h.spelled 0 (omega arith));
        due = omega (arith, size);
        follow = follow_of (s + 1) cs
            (λ i less. let next : s + suc i ≡ s + 1 + i = omega arith in
            subst (λ (m : ℕ). sequence_of (slot r m file) ≡ m) next (h.numbered (suc i) (omega (arith, less))))
            (λ i less. let next : s + suc i ≡ s + 1 + i = omega arith in
            subst (λ (m : ℕ). read_in 0 (slot r m file) ≡ slice_get cs i) next
            (h.spelled (suc i) (omega (arith, less))));
      }

  spelled : (n s : ℕ) (behind : List Command) (groups : List (List Command)) → Follow s behind
      → HoldsRow r (s + length behind) groups file → length (behind ++ commands_of_groups groups) ≤ n
      → (length (behind ++ commands_of_groups groups) ≡ n)
      ⊎ (continues (slot r (s + length (behind ++ commands_of_groups groups)) file)
      (s + length (behind ++ commands_of_groups groups)) ≡ false)
      → commands_in (length behind) s (run_from r n (length behind) s file)
      ≡ Some (behind ++ commands_of_groups groups)
  spelled zero s [] [] follow row round ends = refl
  spelled zero s [] ([] ∷ groups) follow row round ends = absurd (omega (arith, row.0.some))
  spelled zero s [] ((c ∷ cs) ∷ groups) follow row round ends = absurd (omega (arith, round))
  spelled zero s (c ∷ cs) groups follow row round ends = absurd (omega (arith, round))
  spelled (suc n) s [] [] follow row round ends =
      ap (λ (l : List (List ℕ)). commands_in 0 s l) (stops r (suc n) s file (λ some. stops_here n s ends))
  spelled (suc n) s [] ([] ∷ groups) follow row round ends = absurd (omega (arith, row.0.some))
  spelled (suc n) s [] ((c ∷ cs) ∷ groups) follow row round ends =
      let here : s + 0 ≡ s = omega arith in
      let led = led_of s c cs (subst (λ (m : ℕ). HoldsGroup r m (c ∷ cs) file) here row.0) in
      let next : s + 0 + suc (length cs) ≡ s + 1 + length cs = omega arith in
      let rest = spelled n (s + 1) cs groups led.follow (subst (λ (m : ℕ). HoldsRow r m groups file) next row.1)
      (omega (arith, round)) (ends_sooner n s (length (cs ++ commands_of_groups groups)) ends) in
      ap (λ (l : List (List ℕ)). commands_in 0 s l) (goes r n s file led.on)
      ∙ ap (λ (b : Bool). with_first (if_true b (read_in (group_of (slot r s file)) (slot r s file)))
      (commands_in (group_of (slot r s file) - 1) (s + 1)
      (run_from r n (group_of (slot r s file) - 1) (s + 1) file))) led.leads
      ∙ ap (λ (o : Option Command). with_first o (commands_in (group_of (slot r s file) - 1) (s + 1)
      (run_from r n (group_of (slot r s file) - 1) (s + 1) file))) led.read
      ∙ ap (λ (m : ℕ). with_first (Some c) (commands_in m (s + 1) (run_from r n m (s + 1) file))) led.due
      ∙ ap (λ (o : Option (List Command)). with_first (Some c) o) rest
  spelled (suc n) s (c ∷ cs) groups follow row round ends =
      let next : s + suc (length cs) ≡ s + 1 + length cs = omega arith in
      let rest = spelled n (s + 1) cs groups follow.2 (subst (λ (m : ℕ). HoldsRow r m groups file) next row)
      (omega (arith, round)) (ends_sooner n s (length (cs ++ commands_of_groups groups)) ends) in
      ap (λ (b : Bool). with_first (if_true b (read_in 0 (slot r s file)))
      (commands_in (length cs) (s + 1) (run_from r n (length cs) (s + 1) file)))
      (eq-eqb (sequence_of (slot r s file)) s follow.0)
      ∙ ap (λ (o : Option Command). with_first o
      (commands_in (length cs) (s + 1) (run_from r n (length cs) (s + 1) file))) follow.1
      ∙ ap (λ (o : Option (List Command)). with_first (Some c) o) rest

  pub spelled_by : (first : ℕ) (cs : List Command) → HasLongestRow r first file cs
      → commands_in 0 first (run_from r r.slots 0 first file) ≡ Some cs
  spelled_by first cs has =
      let begin : first ≡ first + 0 = omega arith in
      spelled r.slots first [] has.groups tt (subst (λ (m : ℕ). HoldsRow r m has.groups file) begin has.longest.row)
      has.longest.round has.longest.ends ∙ ap (λ (l : List Command). Some l) (sym has.are)

  -- a list that goes on from a slot to those behind it
  by_place : (s i : ℕ) (rest : List (List ℕ)) → i < suc (length rest)
      → ((j : ℕ) → j < length rest → slice_get rest j ≡ Some (slot r (s + 1 + j) file))
      → slice_get (slot r s file ∷ rest) i ≡ Some (slot r (s + i) file)
  by_place s zero rest low behind =
      let here : s ≡ s + 0 = omega arith in ap (λ (m : ℕ). Some (slot r m file)) here
  by_place s (suc j) rest low behind =
      let next : s + 1 + j ≡ s + suc j = omega arith in
      behind j (omega (arith, low)) ∙ ap (λ (m : ℕ). Some (slot r m file)) next

  -- the i-th slot of a run
  pub nth_slot : (n due s i : ℕ) → i < length (run_from r n due s file)
      → slice_get (run_from r n due s file) i ≡ Some (slot r (s + i) file)
  nth_slot zero due s i low = absurd (omega (arith, low))
  nth_slot (suc n) (suc due) s i low =
      by_place s i (run_from r n due (s + 1) file) low (λ j less. nth_slot n due (s + 1) j less)
  nth_slot (suc n) zero s i low = elim (bool_cases (continues (slot r s file) s)) [
    | inl on ↦
        let there = subst (λ (l : List (List ℕ)). i < length l) (goes r n s file on) low in
        ap (λ (l : List (List ℕ)). slice_get l i) (goes r n s file on)
        ∙ by_place s i (run_from r n (group_of (slot r s file) - 1) (s + 1) file) there
        (λ j less. nth_slot n (group_of (slot r s file) - 1) (s + 1) j less)
    | inr off ↦
        let none : length (run_from r (suc n) 0 s file) ≡ 0 = ap length (stops r (suc n) s file (λ some. off)) in
        absurd (omega (arith, none, low))
  ]
