-- The first request of an element that waits. (Own.)
use Rattle.std.proofs.Common.{◌≡◌, ℕ, zero, suc, ◌+◌, ◌-◌, ◌<◌, ◌≤◌, Bool, true, false, List, [], ◌∷◌, ◌++◌, map}
use Rattle.std.proofs.Common.{length, get_or, take, drop, slice_get, Some, Ok, Option, sym, refl, ap, ◌∙◌, ap₂, arith}
use Rattle.std.proofs.Common.{take_all}
use Rattle.std.{proofs.lemmas.List.length-map, proofs.lemmas.List.take_more, specs.Option.option_map_or}
use Rattle.im_types.specs.Types.{Entry, Kept, Waiting, Answered, Window, Contents, kept_for, next_number, bounds}
use Rattle.im_laws.proofs.Tests.{some_same, true_false}
use Rattle.im_text.proofs.WindowLemmas.{bounds_found, kept_at}
use Rattle.im_serial.specs.Had.{first_open, numbers_settled, settled_in, settled_with, still_waits}

-- ---- one window

-- whether what is kept, if anything is, waits
abbrev pub is_unsettled : Option Kept → Bool
is_unsettled found = option_map_or (λ k. still_waits k.entry) found false

-- one entry more is answered
answered : (kept : List Kept) (i : ℕ) → i < length kept → is_unsettled (slice_get kept i) ≡ false
    → settled_in (drop i kept) ≡ suc (settled_in (drop (suc i) kept))
answered [] i inside shut = absurd (omega arith)
answered (k ∷ kept) zero inside shut = by_entry k.entry shut
  where
    by_entry : (e : Entry) → still_waits e ≡ false → settled_with e (settled_in kept)
        ≡ suc (settled_in kept)
    by_entry Waiting shut = absurd (true_false shut)
    by_entry (Answered reply) shut = refl
answered (k ∷ kept) (suc i) inside shut = answered kept i (omega arith) shut

-- the next one waits
open_there : (kept : List Kept) (i : ℕ) → is_unsettled (slice_get kept i) ≡ true → settled_in (drop i kept) ≡ 0
open_there [] i waits = absurd (true_false (sym waits))
open_there (k ∷ kept) zero waits = by_entry k.entry waits
  where
    by_entry : (e : Entry) → still_waits e ≡ true → settled_with e (settled_in kept) ≡ 0
    by_entry Waiting waits = refl
    by_entry (Answered reply) waits = absurd (true_false (sym waits))
open_there (k ∷ kept) (suc i) waits = open_there kept i waits

none_there : (kept : List Kept) (i : ℕ) → length kept ≤ i → settled_in (drop i kept) ≡ 0
none_there [] zero past = refl
none_there [] (suc i) past = refl
none_there (k ∷ kept) zero past = absurd (omega arith)
none_there (k ∷ kept) (suc i) past = none_there kept i (omega arith)

few_with : (e : Entry) (behind n : ℕ) → behind ≤ n → settled_with e behind ≤ suc n
few_with Waiting behind n few = omega arith
few_with (Answered reply) behind n few = omega arith

pub settled_few : (kept : List Kept) → settled_in kept ≤ length kept
settled_few [] = omega arith
settled_few (k ∷ kept) = few_with k.entry (settled_in kept) (length kept) (settled_few kept)

-- ---- up to a number

-- the entries of this window before this number are answered
pub record IsSettledTo (w : Window) (number : ℕ) : Type 0 where
  pub from : w.base ≤ number
  pub settled : settled_in w.kept ≡ (number - w.base) + settled_in (drop (number - w.base) w.kept)

-- the same of an element's window
abbrev pub AreSettledTo : List Window → ℕ → ℕ → Type 0
AreSettledTo windows element number = (w : Window) → slice_get windows element ≡ Some w → IsSettledTo w number

module _ (windows : List Window) (element base next : ℕ) (there : bounds windows element ≡ Ok (base, next)) where
  pub settled_first : AreSettledTo windows element base
  settled_first w is =
      let it = bounds_found (slice_get windows element) base next there in
      let same : it.window ≡ w = some_same it.window w (sym it.found_is ∙ is) in
      let from : base ≡ w.base = it.base_is ∙ ap (λ (x : Window). x.base) same in
      let none : 0 ≡ base - w.base = omega arith in
      let all : settled_in w.kept ≡ 0 + settled_in w.kept = omega arith in
      record {
        from = omega arith;
        settled = all ∙ ap (λ (n : ℕ). n + settled_in (drop n w.kept)) none;
      }

  module _ (number : ℕ) (so_far : AreSettledTo windows element number) where
    pub settled_more : number < next
        → is_unsettled (kept_for windows (record { element = element; number = number })) ≡ false
        → AreSettledTo windows element (number + 1)
    settled_more inside shut w is =
        let it = bounds_found (slice_get windows element) base next there in
        let same : it.window ≡ w = some_same it.window w (sym it.found_is ∙ is) in
        let end : next ≡ next_number w = it.next_is ∙ ap next_number same in
        let s = so_far w is in
        let from = s.from in
        let within : number - w.base < length w.kept = omega arith in
        let one = answered w.kept (number - w.base) within
        (ap is_unsettled (sym (kept_at windows element w number is from)) ∙ shut) in
        let later : suc (number - w.base) ≡ (number + 1) - w.base = omega arith in
        let sum : settled_in w.kept ≡ suc (number - w.base) + settled_in (drop (suc (number - w.base)) w.kept) =
        omega (arith, s.settled, one) in
        record {
          from = omega arith;
          settled = sum ∙ ap (λ (n : ℕ). n + settled_in (drop n w.kept)) later;
        }

    pub settled_here : is_unsettled (kept_for windows (record { element = element; number = number })) ≡ true
        → number ≡ option_map_or first_open (slice_get windows element) 0
    settled_here waits =
        let it = bounds_found (slice_get windows element) base next there in
        let w : Window = it.window in
        let s = so_far w it.found_is in
        let from = s.from in
        let none = open_there w.kept (number - w.base)
        (ap is_unsettled (sym (kept_at windows element w number it.found_is from)) ∙ waits) in
        let sum : number ≡ w.base + settled_in w.kept = omega (arith, s.settled, none) in
        sum ∙ ap (λ (o : Option Window). option_map_or first_open o 0) (sym it.found_is)

    pub settled_last : next ≤ number → next ≡ option_map_or first_open (slice_get windows element) 0
    settled_last past =
        let it = bounds_found (slice_get windows element) base next there in
        let w : Window = it.window in
        let s = so_far w it.found_is in
        let from = s.from in
        let end = it.next_is in
        let none = none_there w.kept (number - w.base) (omega arith) in
        let few : settled_in w.kept ≤ length w.kept = settled_few w.kept in
        let sum : next ≡ w.base + settled_in w.kept = omega (arith, s.settled, none, few, end) in
        sum ∙ ap (λ (o : Option Window). option_map_or first_open o 0) (sym it.found_is)

-- ---- of all elements

pub count_at : (windows : List Window) (k : ℕ) → get_or (map (λ (w : Window). first_open w - 1) windows) k 0
    ≡ option_map_or first_open (slice_get windows k) 0 - 1
count_at [] k = refl
count_at (w ∷ windows) zero = refl
count_at (w ∷ windows) (suc k) = count_at windows k

-- one element more
pub counted_more : (m : Contents) (k count : ℕ) (many : List ℕ) → many ≡ take k (numbers_settled m)
    → k < length m.windows → count ≡ option_map_or first_open (slice_get m.windows k) 0 - 1
    → many ++ count ∷ [] ≡ take (k + 1) (numbers_settled m)
counted_more m k count many so_far inside is =
    let same = length-map m.windows (λ (w : Window). first_open w - 1) in
    ap₂ (λ (l : List ℕ) (n : ℕ). l ++ n ∷ []) so_far (is ∙ sym (count_at m.windows k))
    ∙ sym (take_more (numbers_settled m) k 0 (omega arith))

-- all of them
pub counted_all : (m : Contents) (k : ℕ) → length m.windows ≤ k → take k (numbers_settled m) ≡ numbers_settled m
counted_all m k past =
    let same = length-map m.windows (λ (w : Window). first_open w - 1) in
    take_all k (numbers_settled m) (omega arith)
