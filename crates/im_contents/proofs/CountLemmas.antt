-- Who waits and what waits agree exactly where they do by count.
use Rattle.std.proofs.Common.{◌≡◌, ℕ, zero, suc, ◌<◌, ◌≤◌, Bool, true, false, List, [], ◌∷◌, if◌then◌else◌, Some, None}
use Rattle.std.proofs.Common.{Option, sym, refl, ap, ◌∙◌, ⊎_elim, true≢false, arith}
use Rattle.std.proofs.lemmas.Bool.{cases_lt}
use Rattle.im_types.specs.Types.{Waiter, Kept, Held, held_at, waiters_in, waiters_at, times, waits_in, address_of}
use Rattle.im_types.specs.Types.{WaitersAgree, is_waiting, bit}
use Rattle.im_laws.proofs.AgreementLemmas.{waits_for-kept}
use Rattle.im_contents.proofs.MarkLemmas.{bool_cases, none_some}
use Rattle.im_contents.specs.Counting.{AgreeByCount, all_times, waiting}

bit_some : (b : Bool) → 1 ≤ bit b → b ≡ true
bit_some true h = refl
bit_some false h = absurd (none h)
  where
    none : 1 ≤ bit false → ⊥
    none h = omega arith

bit_if : (b : Bool) → (if b then 1 else 0) ≡ bit b
bit_if true = refl
bit_if false = refl

-- what is kept waits for the cell at an address
pub record Waits (a : ℕ) (entry : Option Kept) : Type 0 where
  pub kept : Kept
  pub is : entry ≡ Some kept
  pub waits : is_waiting kept ≡ true
  pub there : address_of kept.op ≡ a

pub waits_at : (a : ℕ) (held : Option Held) (entry : Option Kept) → waits_in a held entry ≡ true → Waits a entry
waits_at a None entry e = absurd (true≢false (sym e))
waits_at a (Some held) entry e =
    let w = waits_for-kept held.block.kind a entry e in record { kept = w.0; is = w.1; waits = w.2; there = w.3 }

same_kept : (x y : Kept) (o : Option Kept) → o ≡ Some x → o ≡ Some y → x ≡ y
same_kept x y o a b = cc

-- one waits at one address
one_address : (a b : ℕ) (entry : Option Kept) → Waits a entry → Waits b entry → a ≡ b
one_address a b entry v w = sym v.there
    ∙ ap (λ (k : Kept). address_of k.op) (same_kept v.kept w.kept entry v.is w.is) ∙ w.there

pub waiting_one : (a : ℕ) (entry : Option Kept) → Waits a entry → waiting entry ≡ 1
waiting_one a entry w = ap waiting w.is ∙ ap bit w.waits

module _ (who : Waiter) where
  pub none_in : (cells : List (Option Held)) → ((b : ℕ) → times who (waiters_at cells b) ≡ 0) → all_times who cells ≡ 0
  none_in [] none = refl
  none_in (cell ∷ cells) none =
      let here : times who (waiters_in cell) ≡ 0 = none zero in
      let rest : all_times who cells ≡ 0 = none_in cells (λ b. none (suc b)) in
      omega arith

  -- who stands in no list but one
  only_at : (cells : List (Option Held)) (a : ℕ) → ((b : ℕ) → (b ≡ a → ⊥) → times who (waiters_at cells b) ≡ 0)
      → all_times who cells ≡ times who (waiters_at cells a)
  only_at [] a none = refl
  only_at (cell ∷ cells) zero none =
      let rest : all_times who cells ≡ 0 = none_in cells (λ b. none (suc b) (λ e. omega arith)) in
      let same : times who (waiters_at (cell ∷ cells) zero) ≡ times who (waiters_in cell) = refl in
      omega arith
  only_at (cell ∷ cells) (suc a) none =
      let here : times who (waiters_in cell) ≡ 0 = none zero (λ e. omega arith) in
      let rest : all_times who cells
      ≡ times who (waiters_at cells a) = only_at cells a (λ b ne. none (suc b) (λ e. ne (omega arith))) in
      let same : times who (waiters_at (cell ∷ cells) (suc a)) ≡ times who (waiters_at cells a) = refl in
      omega arith

  some_at : (cells : List (Option Held)) → 1 ≤ all_times who cells → (a : ℕ) × (1 ≤ times who (waiters_at cells a))
  some_at [] h = absurd (nothing h)
    where
      nothing : 1 ≤ 0 → ⊥
      nothing h = omega arith
  some_at (cell ∷ cells) h = ⊎_elim
      (λ (here : 0 < times who (waiters_in cell)). (zero, at_least here))
      (λ (none : times who (waiters_in cell) ≤ 0). let r = some_at cells (omega arith) in (suc r.0, r.1))
      (cases_lt 0 (times who (waiters_in cell)))
    where
      at_least : {n : ℕ} → 0 < n → 1 ≤ n
      at_least h = omega arith

module _ (cells : List (Option Held)) (kept : Waiter → Option Kept) where
  module _ (by : AgreeByCount cells kept) where
    -- who waits for one cell stands in no list of another
    elsewhere : (who : Waiter) (a : ℕ) → Waits a (kept who) → (b : ℕ) → (b ≡ a → ⊥) → times who (waiters_at cells b) ≡ 0
    elsewhere who a w b ne = ⊎_elim
        (λ (some : 0 < times who (waiters_at cells b)). absurd
        (ne (one_address b a (kept who) (waits_at b (held_at cells b) (kept who) (by.each who b (omega arith))) w)))
        (λ (none : times who (waiters_at cells b) ≤ 0). omega arith)
        (cases_lt 0 (times who (waiters_at cells b)))

    pub agree_of_count : WaitersAgree cells kept
    agree_of_count = record {
      listed = λ who a. ⊎_elim
          (λ (yes : waits_in a (held_at cells a) (kept who) ≡ true).
          let w = waits_at a (held_at cells a) (kept who) yes in
          sym (only_at who cells a (elsewhere who a w)) ∙ by.once who ∙ waiting_one a (kept who) w ∙ sym (ap bit yes)
          ∙ sym (bit_if (waits_in a (held_at cells a) (kept who))))
          (λ (nay : waits_in a (held_at cells a) (kept who) ≡ false).
          ⊎_elim
          (λ (some : 0 < times who (waiters_at cells a)). absurd (true≢false (sym (by.each who a (omega arith)) ∙ nay)))
          (λ (none : times who (waiters_at cells a) ≤ 0). zeros (times who (waiters_at cells a))
          (bit (waits_in a (held_at cells a) (kept who))) none (ap bit nay)
          ∙ sym (bit_if (waits_in a (held_at cells a) (kept who))))
          (cases_lt 0 (times who (waiters_at cells a))))
          (bool_cases (waits_in a (held_at cells a) (kept who)));
      somewhere = λ who k is waits.
          let one : all_times who cells ≡ 1 = by.once who ∙ ap waiting is ∙ ap bit waits in
          let s = some_at who cells (omega arith) in
          let in_it = by.each who s.0 s.1 in
          let w = waits_at s.0 (held_at cells s.0) (kept who) in_it in
          let here : address_of k.op
          ≡ s.0 = ap (λ (x : Kept). address_of x.op) (same_kept k w.kept (kept who) is w.is) ∙ w.there in
          ap (λ (x : ℕ). waits_in x (held_at cells x) (Some k)) here
          ∙ ap (λ (x : Option Kept). waits_in s.0 (held_at cells s.0) x) (sym is) ∙ in_it;
    }
      where
        zeros : (x y : ℕ) → x ≤ 0 → y ≡ 0 → x ≡ y
        zeros x y h e = omega arith

  module _ (agree : WaitersAgree cells kept) where
    stands : (who : Waiter) (a : ℕ) → times who (waiters_at cells a) ≡ bit (waits_in a (held_at cells a) (kept who))
    stands who a = agree.listed who a ∙ bit_if (waits_in a (held_at cells a) (kept who))

    absent : (who : Waiter) (a : ℕ) → waits_in a (held_at cells a) (kept who) ≡ false
        → times who (waiters_at cells a) ≡ 0
    absent who a e = stands who a ∙ ap bit e

    -- who waits for no cell stands in no list
    quiet : (who : Waiter) → ((a : ℕ) → Waits a (kept who) → ⊥) → all_times who cells ≡ 0
    quiet who none = none_in who cells (λ b. ⊎_elim
        (λ (yes : waits_in b (held_at cells b) (kept who) ≡ true). absurd
        (none b (waits_at b (held_at cells b) (kept who) yes)))
        (λ (nay : waits_in b (held_at cells b) (kept who) ≡ false). absent who b nay)
        (bool_cases (waits_in b (held_at cells b) (kept who))))

    at_own : (who : Waiter) (k : Kept) → kept who ≡ Some k → is_waiting k ≡ true → all_times who cells ≡ 1
    at_own who k is waits =
        let a : ℕ = address_of k.op in
        let yes : waits_in a (held_at cells a) (kept who)
        ≡ true = ap (λ (x : Option Kept). waits_in a (held_at cells a) x) is ∙ agree.somewhere who k is waits in
        let w = waits_at a (held_at cells a) (kept who) yes in
        only_at who cells a (λ b ne. ⊎_elim
        (λ (there : waits_in b (held_at cells b) (kept who) ≡ true). absurd
        (ne (one_address b a (kept who) (waits_at b (held_at cells b) (kept who) there) w)))
        (λ (nay : waits_in b (held_at cells b) (kept who) ≡ false). absent who b nay)
        (bool_cases (waits_in b (held_at cells b) (kept who))))
        ∙ stands who a ∙ ap bit yes

    once_of : (who : Waiter) (entry : Option Kept) → kept who ≡ entry → all_times who cells ≡ waiting entry
    once_of who None is = quiet who (λ a w. none_some w.kept (sym is ∙ w.is))
    once_of who (Some k) is = ⊎_elim
        (λ (yes : is_waiting k ≡ true). at_own who k is yes ∙ sym (ap bit yes))
        (λ (nay : is_waiting k ≡ false). quiet who
        (λ a w. true≢false (sym w.waits ∙ ap is_waiting (same_kept w.kept k (kept who) w.is is) ∙ nay))
        ∙ sym (ap bit nay))
        (bool_cases (is_waiting k))

    pub count_of_agree : AgreeByCount cells kept
    count_of_agree = record {
      each = λ who a some. bit_some (waits_in a (held_at cells a) (kept who)) (at_least (stands who a) some);
      once = λ who. once_of who (kept who) refl;
    }
      where
        at_least : {x y : ℕ} → x ≡ y → 1 ≤ x → 1 ≤ y
        at_least e h = omega arith
