-- Who waits and what waits agree exactly where each entry can be marked once.
use Rattle.std.proofs.Common.{◌≡◌, ℕ, zero, suc, ◌+◌, ◌<◌, ◌≤◌, Bool, true, false, not, ◌&&◌, ◌⊎◌, List, [], ◌∷◌}
use Rattle.std.proofs.Common.{length, get_or, set, replicate, if◌then◌else◌, ◌==◌, Some, None, Option, option_and_then}
use Rattle.std.proofs.Common.{sym, refl, ap, ◌∙◌, subst, inl, inr, ⊎_elim, true≢false, arith, length-set}
use Rattle.std.proofs.lemmas.{Bool.and_parts, Bool.cases_lt, Bool.not-true, List.length-replicate}
use Rattle.im_types.specs.Types.{Kind, Waiter, Kept, Held, held_at, waiters_of, waiters_in, waiters_at, same_waiter}
use Rattle.im_types.specs.Types.{times, awaiting, waits_for, waits_in, WaitersAgree, is_waiting, bit}
use Rattle.im_laws.proofs.AgreementLemmas.{same_waiter-equal, same_waiter-self, waits_for-kept}
use Rattle.im_contents.proofs.CountLemmas.{agree_of_count, count_of_agree, none_in, waiting_one, waits_at}
use Rattle.im_contents.proofs.ListLemmas.{then_some}
use Rattle.im_contents.proofs.MarkLemmas.{bit_one, bit_other, bit_same, bool_cases, marked, marked-none, marked-set}
use Rattle.im_contents.proofs.MarkLemmas.{none_some, not_marked, some_same, unless, when}
use Rattle.im_contents.specs.Counting.{AgreeByCount, all_times, waiting}
use Rattle.im_contents.specs.Marking.{AgreesByMarks, HavePlaces, mark_all, mark_held, mark_list, mark_one, may_mark}

nothing : 1 ≤ 0 → ⊥
nothing h = omega arith

module _ (kept : Waiter → Option Kept) (place : Waiter → ℕ) (size : ℕ) (places : HavePlaces kept place size) where
  -- one more of a request in a list is one more use of its place
  times-cons : (who other : Waiter) (waiters : List Waiter) → waiting (kept who) ≡ 1 → waiting (kept other) ≡ 1
      → times who (other ∷ waiters) ≡ bit (place who == place other) + times who waiters
  times-cons who other waiters one two = ⊎_elim
      (λ (yes : same_waiter who other ≡ true).
      let t : times who (other ∷ waiters)
      ≡ suc (times who waiters) = when (same_waiter who other) (suc (times who waiters)) (times who waiters) yes in
      let h = bit_same (place who) (place other) (ap place (same_waiter-equal who other yes)) in
      omega arith)
      (λ (nay : same_waiter who other ≡ false).
      let t : times who (other ∷ waiters)
      ≡ times who waiters = unless (same_waiter who other) (suc (times who waiters)) (times who waiters) nay in
      let h = bit_other (place who) (place other)
      (λ e. true≢false
      (sym (ap (same_waiter who) (sym (places.apart who other one two e)) ∙ same_waiter-self who) ∙ nay)) in
      omega arith)
      (bool_cases (same_waiter who other))

  waits_one : (kind : Kind) (a : ℕ) (who : Waiter) → waits_for (awaiting kind a) (kept who) ≡ true
      → waiting (kept who) ≡ 1
  waits_one kind a who e = let w = waits_for-kept kind a (kept who) e in ap waiting w.1 ∙ ap bit w.2

  -- an entry was marked
  record OneMarked (kind : Kind) (a : ℕ) (marks : List Bool) (who : Waiter) (after : List Bool) : Type 0 where
    pub waits : waits_for (awaiting kind a) (kept who) ≡ true
    pub free : get_or marks (place who) true ≡ false
    pub is : set marks (place who) true ≡ after

  mark_one-sound : (kind : Kind) (a : ℕ) (marks : List Bool) (who : Waiter) (after : List Bool)
      → mark_one kept place kind a marks who ≡ Some after → OneMarked kind a marks who after
  mark_one-sound kind a marks who after e = ⊎_elim
      (λ (yes : may_mark kept place kind a marks who ≡ true).
      let parts = and_parts (waits_for (awaiting kind a) (kept who)) (not (get_or marks (place who) true)) yes in
      record {
        waits = parts.0;
        free = not-true (get_or marks (place who) true) parts.1;
        is = some_same (set marks (place who) true) after
            (sym (when (may_mark kept place kind a marks who) (Some (set marks (place who) true)) None yes) ∙ e);
      })
      (λ (nay : may_mark kept place kind a marks who ≡ false). absurd
      (none_some after
      (sym (unless (may_mark kept place kind a marks who) (Some (set marks (place who) true)) None nay) ∙ e)))
      (bool_cases (may_mark kept place kind a marks who))

  -- the entries of a list were marked
  pub record Marked (kind : Kind) (a : ℕ) (marks : List Bool) (waiters : List Waiter) (after : List Bool) : Type 0 where
    pub each : (who : Waiter) → 1 ≤ times who waiters → waits_for (awaiting kind a) (kept who) ≡ true
    pub counts : (who : Waiter) → waiting (kept who) ≡ 1 → times who waiters + marked marks (place who)
        ≡ marked after (place who)

  mark_list-sound : (kind : Kind) (a : ℕ) (waiters : List Waiter) (marks after : List Bool)
      → mark_list kept place kind a marks waiters ≡ Some after → Marked kind a marks waiters after
  mark_list-sound kind a [] marks after e = subst (λ (m : List Bool). Marked kind a marks [] m)
      (some_same marks after e)
      (record { each = λ who h. absurd (nothing h); counts = λ who one. omega arith })
  mark_list-sound kind a (other ∷ waiters) marks after e =
      let first = then_some (λ m. mark_list kept place kind a m waiters)
      (mark_one kept place kind a marks other) after e in
      let o = mark_one-sound kind a marks other first.value first.is in
      let two = waits_one kind a other o.waits in
      let rest = mark_list-sound kind a waiters (set marks (place other) true) after
      (ap (λ (m : List Bool). mark_list kept place kind a m waiters) o.is ∙ first.gives) in
      record {
        each = λ who h. ⊎_elim
            (λ (same : same_waiter who other ≡ true). subst
            (λ (w : Waiter). waits_for (awaiting kind a) (kept w) ≡ true)
            (sym (same_waiter-equal who other same)) o.waits)
            (λ (differ : same_waiter who other ≡ false).
            let t : times who (other ∷ waiters)
            ≡ times who waiters = unless (same_waiter who other) (suc (times who waiters))
            (times who waiters) differ in
            rest.each who (omega arith))
            (bool_cases (same_waiter who other));
        counts = λ who one.
            let t = times-cons who other waiters one two in
            let m = marked-set marks (place other) o.free (place who) in
            let r = rest.counts who one in
            omega arith;
      }

  -- the entries of those who wait at a cell were marked
  record HeldMarked (a : ℕ) (marks : List Bool) (held : Option Held) (after : List Bool) : Type 0 where
    pub each : (who : Waiter) → 1 ≤ times who (waiters_in held) → waits_in a held (kept who) ≡ true
    pub counts : (who : Waiter) → waiting (kept who) ≡ 1 → times who (waiters_in held) + marked marks (place who)
        ≡ marked after (place who)

  mark_held-sound : (a : ℕ) (held : Option Held) (marks after : List Bool) → mark_held kept place a marks held
      ≡ Some after → HeldMarked a marks held after
  mark_held-sound a None marks after e = subst (λ (m : List Bool). HeldMarked a marks None m) (some_same marks after e)
      (record { each = λ who h. absurd (nothing h); counts = λ who one. omega arith })
  mark_held-sound a (Some held) marks after e =
      let m = mark_list-sound held.block.kind a (waiters_of held.state) marks after e in
      record { each = m.each; counts = m.counts }

  -- the entries of those who wait at the cells from an address on were marked
  record AllMarked (a : ℕ) (marks : List Bool) (cells : List (Option Held)) (after : List Bool) : Type 0 where
    pub each : (who : Waiter) (b : ℕ) → 1 ≤ times who (waiters_at cells b)
        → waits_in (a + b) (held_at cells b) (kept who) ≡ true
    pub counts : (who : Waiter) → waiting (kept who) ≡ 1 → all_times who cells + marked marks (place who)
        ≡ marked after (place who)

  mark_all-sound : (a : ℕ) (cells : List (Option Held)) (marks after : List Bool) → mark_all kept place a marks cells
      ≡ Some after → AllMarked a marks cells after
  mark_all-sound a [] marks after e = subst (λ (m : List Bool). AllMarked a marks [] m) (some_same marks after e)
      (record { each = λ who b h. absurd (nothing h); counts = λ who one. omega arith })
  mark_all-sound a (cell ∷ cells) marks after e =
      let first = then_some (λ m. mark_all kept place (a + 1) m cells) (mark_held kept place a marks cell) after e in
      let here = mark_held-sound a cell marks first.value first.is in
      let rest = mark_all-sound (a + 1) cells first.value after first.gives in
      record {
        each = each_of here.each rest.each;
        counts = λ who one. let h = here.counts who one in let r = rest.counts who one in omega arith;
      }
    where
      each_of : ((who : Waiter) → 1 ≤ times who (waiters_in cell) → waits_in a cell (kept who) ≡ true)
          → ((who : Waiter) (b : ℕ) → 1 ≤ times who (waiters_at cells b)
          → waits_in (a + 1 + b) (held_at cells b) (kept who) ≡ true)
          → (who : Waiter) (b : ℕ) → 1 ≤ times who (waiters_at (cell ∷ cells) b)
          → waits_in (a + b) (held_at (cell ∷ cells) b) (kept who) ≡ true
      each_of here rest who zero h = subst (λ (k : ℕ). waits_in k cell (kept who) ≡ true) (same a) (here who h)
        where
          same : (k : ℕ) → k ≡ k + 0
          same k = omega arith
      each_of here rest who (suc b) h = subst (λ (k : ℕ). waits_in k (held_at cells b) (kept who) ≡ true) (same a b)
          (rest who b h)
        where
          same : (k n : ℕ) → k + 1 + n ≡ k + suc n
          same k n = omega arith

  -- the entries of a list can be marked
  record ListDone (kind : Kind) (a : ℕ) (marks : List Bool) (waiters : List Waiter) : Type 0 where
    pub after : List Bool
    pub is : mark_list kept place kind a marks waiters ≡ Some after
    pub long : length after ≡ size

  more_times : (who other : Waiter) (waiters : List Waiter) → times who waiters ≤ times who (other ∷ waiters)
  more_times who other waiters = by_test (same_waiter who other)
    where
      by_test : (b : Bool) → times who waiters ≤ (if b then suc (times who waiters) else times who waiters)
      by_test true = omega arith
      by_test false = omega arith

  own_time : (who : Waiter) (waiters : List Waiter) → 1 ≤ times who (who ∷ waiters)
  own_time who waiters = let t : times who (who ∷ waiters)
      ≡ suc (times who waiters) = when (same_waiter who who) (suc (times who waiters)) (times who waiters)
      (same_waiter-self who) in omega arith

  mark_list-complete : (kind : Kind) (a : ℕ) (waiters : List Waiter) (marks : List Bool) → length marks ≡ size
      → ((who : Waiter) → 1 ≤ times who waiters → waits_for (awaiting kind a) (kept who) ≡ true)
      → ((who : Waiter) → waiting (kept who) ≡ 1 → times who waiters + marked marks (place who) ≤ 1)
      → ListDone kind a marks waiters
  mark_list-complete kind a [] marks long each once = record { after = marks; is = refl; long = long }
  mark_list-complete kind a (other ∷ waiters) marks long each once =
      let here : waits_for (awaiting kind a) (kept other) ≡ true = each other (own_time other waiters) in
      let two = waits_one kind a other here in
      let t = times-cons other other waiters two two in
      let h = bit_same (place other) (place other) refl in
      let o = once other two in
      let none : marked marks (place other) ≡ 0 = omega arith in
      let room = places.within other two in
      let free : get_or marks (place other) true ≡ false = not_marked marks (place other) (omega arith) none in
      let may : may_mark kept place kind a marks other
      ≡ true = ap (λ (b : Bool). b && not (get_or marks (place other) true)) here ∙ ap not free in
      let rest = mark_list-complete kind a waiters (set marks (place other) true)
      (length-set marks (place other) true ∙ long)
      (λ who some. let m = more_times who other waiters in each who (omega arith))
      (λ who one. let tw = times-cons who other waiters one two in let m = marked-set marks (place other) free
      (place who) in let ow = once who one in omega arith) in
      record {
        after = rest.after;
        is = ap (λ (m : Option (List Bool)). option_and_then (λ n. mark_list kept place kind a n waiters) m)
            (when (may_mark kept place kind a marks other) (Some (set marks (place other) true)) None may) ∙ rest.is;
        long = rest.long;
      }

  record HeldDone (a : ℕ) (marks : List Bool) (held : Option Held) : Type 0 where
    pub after : List Bool
    pub is : mark_held kept place a marks held ≡ Some after
    pub long : length after ≡ size

  mark_held-complete : (a : ℕ) (held : Option Held) (marks : List Bool) → length marks ≡ size
      → ((who : Waiter) → 1 ≤ times who (waiters_in held) → waits_in a held (kept who) ≡ true)
      → ((who : Waiter) → waiting (kept who) ≡ 1 → times who (waiters_in held) + marked marks (place who) ≤ 1)
      → HeldDone a marks held
  mark_held-complete a None marks long each once = record { after = marks; is = refl; long = long }
  mark_held-complete a (Some held) marks long each once =
      let d = mark_list-complete held.block.kind a (waiters_of held.state) marks long each once in
      record { after = d.after; is = d.is; long = d.long }

  record AllDone (a : ℕ) (marks : List Bool) (cells : List (Option Held)) : Type 0 where
    pub after : List Bool
    pub is : mark_all kept place a marks cells ≡ Some after

  mark_all-complete : (a : ℕ) (cells : List (Option Held)) (marks : List Bool) → length marks ≡ size
      → ((who : Waiter) (b : ℕ) → 1 ≤ times who (waiters_at cells b) → waits_in (a + b) (held_at cells b) (kept who)
      ≡ true)
      → ((who : Waiter) → waiting (kept who) ≡ 1 → all_times who cells + marked marks (place who) ≤ 1)
      → AllDone a marks cells
  mark_all-complete a [] marks long each once = record { after = marks; is = refl }
  mark_all-complete a (cell ∷ cells) marks long each once =
      let here = mark_held-complete a cell marks long (λ who some. at_zero who (each who zero some))
      (λ who one. let o = once who one in omega arith) in
      let did = mark_held-sound a cell marks here.after here.is in
      let rest = mark_all-complete (a + 1) cells here.after here.long
      (λ who b some. at_more who b (each who (suc b) some))
      (λ who one. let o = once who one in let d = did.counts who one in omega arith) in
      record {
        after = rest.after;
        is = ap (λ (o : Option (List Bool)). option_and_then (λ m. mark_all kept place (a + 1) m cells) o) here.is
            ∙ rest.is;
      }
    where
      at_zero : (who : Waiter) → waits_in (a + 0) cell (kept who) ≡ true → waits_in a cell (kept who) ≡ true
      at_zero who e = subst (λ (k : ℕ). waits_in k cell (kept who) ≡ true) (same a) e
        where
          same : (k : ℕ) → k + 0 ≡ k
          same k = omega arith

      at_more : (who : Waiter) (b : ℕ) → waits_in (a + suc b) (held_at cells b) (kept who) ≡ true
          → waits_in (a + 1 + b) (held_at cells b) (kept who) ≡ true
      at_more who b e = subst (λ (k : ℕ). waits_in k (held_at cells b) (kept who) ≡ true) (same a b) e
        where
          same : (k n : ℕ) → k + suc n ≡ k + 1 + n
          same k n = omega arith

  module _ (cells : List (Option Held)) where
    by_marks : AgreesByMarks kept place size cells → AgreeByCount cells kept
    by_marks by =
        let all = mark_all-sound 0 cells (replicate size false) by.after by.is in
        record {
          each = λ who b some. subst (λ (k : ℕ). waits_in k (held_at cells b) (kept who) ≡ true) (zero_more b)
              (all.each who b some);
          once = λ who. ⊎_elim
              (λ (one : waiting (kept who) ≡ 1).
              let c = all.counts who one in
              let none = marked-none size (place who) in
              let m : marked by.after (place who) ≡ 1 = ap bit (by.all who one) in
              omega arith)
              (λ (nil : waiting (kept who) ≡ 0). none_in who cells (λ b. ⊎_elim
              (λ (some : 0 < times who (waiters_at cells b)). let w = waiting_one (0 + b) (kept who)
              (waits_at (0 + b) (held_at cells b) (kept who) (all.each who b (omega arith))) in absurd
              (omega arith))
              (λ (none : times who (waiters_at cells b) ≤ 0). omega arith)
              (cases_lt 0 (times who (waiters_at cells b)))) ∙ sym nil)
              (one_or_none (kept who));
        }
      where
        zero_more : (k : ℕ) → 0 + k ≡ k
        zero_more k = omega arith

        bits : (b : Bool) → (bit b ≡ 1) ⊎ (bit b ≡ 0)
        bits true = inl refl
        bits false = inr refl

        one_or_none : (entry : Option Kept) → (waiting entry ≡ 1) ⊎ (waiting entry ≡ 0)
        one_or_none None = inr refl
        one_or_none (Some k) = bits (is_waiting k)

    marks_of : AgreeByCount cells kept → AgreesByMarks kept place size cells
    marks_of by =
        let done = mark_all-complete 0 cells (replicate size false) (length-replicate size false)
        (λ who b some. subst (λ (k : ℕ). waits_in k (held_at cells b) (kept who) ≡ true) (more_zero b)
        (by.each who b some))
        (λ who one. let none = marked-none size (place who) in let o = by.once who in omega arith) in
        let all = mark_all-sound 0 cells (replicate size false) done.after done.is in
        record {
          after = done.after;
          is = done.is;
          all = λ who one. let c = all.counts who one in let none = marked-none size
              (place who) in let o = by.once who in bit_one (get_or done.after (place who) false) (omega arith);
        }
      where
        more_zero : (k : ℕ) → k ≡ 0 + k
        more_zero k = omega arith

    pub agree_of_marks : AgreesByMarks kept place size cells → WaitersAgree cells kept
    agree_of_marks by = agree_of_count cells kept (by_marks by)

    pub marks_of_agree : WaitersAgree cells kept → AgreesByMarks kept place size cells
    marks_of_agree agree = marks_of (count_of_agree cells kept agree)
