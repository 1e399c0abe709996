-- The tail of a journal, by its longest row and the closed gates behind it.
use Rattle.std.proofs.Common.{◌≡◌, ℕ, zero, suc, ◌+◌, ◌-◌, ◌<◌, ◌≤◌, Bool, true, false, ◌⊎◌, List, length}
use Rattle.std.proofs.Common.{if◌then◌else◌, ◌==◌, Some, sym, refl, ap, ◌∙◌, subst, inl, inr, arith}
use Rattle.im_types.specs.Types.{Command, LAST, is_open, sequence_of, Ring, run, closed_from, are_stale, ends_stale}
use Rattle.im_types.specs.Types.{Tail, slot, tail}
use Rattle.im_journal.proofs.{Rings.closed_at, Rings.stale_at, Rings.stale_each, Tails.parts_of, Tails.tail_of}
use Rattle.im_journal.proofs.Runs.{bool_cases, closed_at_most, length-commands}
use Rattle.im_readings.proofs.RowLemmas.{longest_of, spelled_by}
use Rattle.im_readings.specs.Rows.{AreClosedBehind, HasLongestRow, HasTail}

module _ (r : Ring) (file : List ℕ) where
  -- the closed gates end at the last slot, or before an open gate
  closed_ends : (n s : ℕ) → (closed_from r n s file ≡ n)
      ⊎ (is_open (slot r (s + closed_from r n s file) file) ≡ true)
  closed_ends zero s = inl refl
  closed_ends (suc n) s = elim (bool_cases (is_open (slot r s file))) [
    | inl opened ↦
        let none : closed_from r (suc n) s file ≡ 0 =
        ap (λ (b : Bool). if b then 0 else suc (closed_from r n (s + 1) file)) opened in
        let here : s ≡ s + closed_from r (suc n) s file = omega (arith, none) in
        inr (subst (λ (m : ℕ). is_open (slot r m file) ≡ true) here opened)
    | inr shut ↦
        let more : closed_from r (suc n) s file ≡ suc (closed_from r n (s + 1) file) =
        ap (λ (b : Bool). if b then 0 else suc (closed_from r n (s + 1) file)) shut in
        one_more n s more (closed_ends n (s + 1))
  ]
    where
      one_more : (n s : ℕ) → closed_from r (suc n) s file ≡ suc (closed_from r n (s + 1) file)
          → (closed_from r n (s + 1) file ≡ n)
          ⊎ (is_open (slot r (s + 1 + closed_from r n (s + 1) file) file) ≡ true)
          → (closed_from r (suc n) s file ≡ suc n)
          ⊎ (is_open (slot r (s + closed_from r (suc n) s file) file) ≡ true)
      one_more n s more (inl whole) = inl (omega (arith, more, whole))
      one_more n s more (inr opened) =
          let next : s + 1 + closed_from r n (s + 1) file ≡ s + closed_from r (suc n) s file = omega (arith, more) in
          inr (subst (λ (m : ℕ). is_open (slot r m file) ≡ true) next opened)

  -- gates that are closed, up to the last slot or before an open gate, are the closed ones
  closed_is : (n s m : ℕ) → m ≤ n → ((i : ℕ) → i < m → is_open (slot r (s + i) file) ≡ false)
      → (m ≡ n) ⊎ (is_open (slot r (s + m) file) ≡ true) → closed_from r n s file ≡ m
  closed_is zero s m few shut ends = omega (arith, few)
  closed_is (suc n) s zero few shut (inl whole) = absurd (omega (arith, whole))
  closed_is (suc n) s zero few shut (inr opened) =
      let here : s + 0 ≡ s = omega arith in
      ap (λ (b : Bool). if b then 0 else suc (closed_from r n (s + 1) file))
      (subst (λ (i : ℕ). is_open (slot r i file) ≡ true) here opened)
  closed_is (suc n) s (suc m) few shut ends =
      let here : s + 0 ≡ s = omega arith in
      ap (λ (b : Bool). if b then 0 else suc (closed_from r n (s + 1) file))
      (subst (λ (i : ℕ). is_open (slot r i file) ≡ false) here (shut 0 (omega arith)))
      ∙ ap (λ (k : ℕ). suc k) (closed_is n (s + 1) m (omega (arith, few))
      (λ i less. let next : s + suc i ≡ s + 1 + i = omega arith in
      subst (λ (k : ℕ). is_open (slot r k file) ≡ false) next (shut (suc i) (omega (arith, less))))
      (sooner n s m ends))
    where
      sooner : (n s m : ℕ) → (suc m ≡ suc n) ⊎ (is_open (slot r (s + suc m) file) ≡ true)
          → (m ≡ n) ⊎ (is_open (slot r (s + 1 + m) file) ≡ true)
      sooner n s m (inl whole) = inl (omega (arith, whole))
      sooner n s m (inr opened) =
          let next : s + suc m ≡ s + 1 + m = omega arith in
          inr (subst (λ (k : ℕ). is_open (slot r k file) ≡ true) next opened)

  behind_of : (first count : ℕ) → count ≤ r.slots → ends_stale r first count file ≡ true
      → AreClosedBehind r first count (closed_from r (r.slots - count) (first + count) file) file
  behind_of first count few stale =
      let closed = closed_from r (r.slots - count) (first + count) file in
      let most : closed_from r (r.slots - count) (first + count) file ≤ r.slots - count =
      closed_at_most r (r.slots - count) (first + count) file in
      record {
        round = omega (arith, most, few);
        shut = λ i less. closed_at r file (r.slots - count) (first + count) i less;
        ends = whole (closed_ends (r.slots - count) (first + count));
        stale = λ i from to.
            let place : first + count + closed_from r (r.slots - count) (first + count) file
            + (i - count - closed_from r (r.slots - count) (first + count) file) ≡ first + i = omega (arith, from) in
            subst (λ (m : ℕ). sequence_of (slot r m file) < first) place
            (stale_at r file (r.slots - count - closed_from r (r.slots - count) (first + count) file)
            (first + count + closed_from r (r.slots - count) (first + count) file) first
            (i - count - closed_from r (r.slots - count) (first + count) file) stale (omega (arith, from, to)));
      }
    where
      whole : (closed_from r (r.slots - count) (first + count) file ≡ r.slots - count)
          ⊎ (is_open (slot r (first + count + closed_from r (r.slots - count) (first + count) file) file) ≡ true)
          → (count + closed_from r (r.slots - count) (first + count) file ≡ r.slots)
          ⊎ (is_open (slot r (first + count + closed_from r (r.slots - count) (first + count) file) file) ≡ true)
      whole (inl all) = inl (omega (arith, few, all))
      whole (inr opened) = inr opened

  closed_there : (first count closed : ℕ) → AreClosedBehind r first count closed file
      → closed_from r (r.slots - count) (first + count) file ≡ closed
  closed_there first count closed b =
      closed_is (r.slots - count) (first + count) closed (omega (arith, b.round)) b.shut (part b.ends)
    where
      part : (count + closed ≡ r.slots) ⊎ (is_open (slot r (first + count + closed) file) ≡ true)
          → (closed ≡ r.slots - count) ⊎ (is_open (slot r (first + count + closed) file) ≡ true)
      part (inl all) = inl (omega (arith, all))
      part (inr opened) = inr opened

  stale_there : (first count closed : ℕ) → AreClosedBehind r first count closed file
      → ends_stale r first count file ≡ true
  stale_there first count closed b =
      ap (λ (m : ℕ). are_stale r (r.slots - count - m) (first + count + m) first file)
      (closed_there first count closed b)
      ∙ stale_each r file (r.slots - count - closed) (first + count + closed) first
      (λ i less. let place : first + (count + closed + i) ≡ first + count + closed + i = omega arith in
      subst (λ (m : ℕ). sequence_of (slot r m file) < first) place
      (b.stale (count + closed + i) (omega arith) (omega (arith, less))))

  pub has_tail : (first : ℕ) (t : Tail) → tail r first file ≡ Some t → HasTail r first file t
  has_tail first t e =
      let p = parts_of r first file t e in
      let run = longest_of r file r.slots first t.commands refl p.read in
      let few : length t.commands ≤ r.slots =
      subst (λ (l : List Command). length l ≤ r.slots) (sym run.are) run.longest.round in
      record {
        run = run;
        closed = closed_from r (r.slots - length t.commands) (first + length t.commands) file;
        behind = behind_of first (length t.commands) few p.stale;
        room = sym p.room;
      }

  pub run_count : (first : ℕ) (cs : List Command) → HasLongestRow r first file cs
      → length (run r first file) ≡ length cs
  run_count first cs has = sym (length-commands 0 first (run r first file) cs (spelled_by r file first cs has))

  pub tail_there : (first : ℕ) (t : Tail) → HasTail r first file t → tail r first file ≡ Some t
  tail_there first t h = tail_of r first file t (record {
    read = spelled_by r file first t.commands h.run;
    size = run_count first t.commands h.run;
    stale = stale_there first (length t.commands) h.closed h.behind;
    room =
        ap (λ (m : ℕ). if first + length t.commands == LAST then 0 else m)
        (closed_there first (length t.commands) h.closed h.behind) ∙ sym h.room;
  })
