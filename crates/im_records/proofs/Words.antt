-- Bytes that are compared several at a time.
use Rattle.std.proofs.Common.{◌≡◌, ℕ, zero, suc, ◌+◌, ◌-◌, ◌<◌, ◌≤◌, true, List, length, get_or, take, drop}
use Rattle.std.proofs.Common.{slice_range, sym, ap, ◌∙◌, inl, inr, arith, get_or-drop, get_or-take}
use Rattle.byteorder.specs.Endian.{little_from}
use Rattle.std.proofs.lemmas.{Bool.cases_eq, Bool.cases_lt, Grind.same_number_lists}
use Rattle.{im_types.specs.Types.same_bytes, im_types.specs.Types.number_at, im_formats.proofs.Same.same_bytes_self}
use Rattle.im_records.specs.Words.{SameAt}

-- other bytes have other numbers
from_same : (n i : ℕ) (xs ys : List ℕ) → ((k : ℕ) → k < i + n → get_or xs k 0 < 256)
    → ((k : ℕ) → k < i + n → get_or ys k 0 < 256) → little_from i n xs ≡ little_from i n ys → (k : ℕ) → i ≤ k
    → k < i + n → get_or xs k 0 ≡ get_or ys k 0
from_same zero i xs ys few less e k low high = absurd (omega arith)
from_same (suc n) i xs ys few less e k low high =
    let x = few i (omega arith) in
    let y = less i (omega arith) in
    elim (cases_eq k i) [
      | inl here ↦ let first : get_or xs i 0 ≡ get_or ys i 0 = omega arith in ap (λ j. get_or xs j 0) here ∙ first
          ∙ ap (λ j. get_or ys j 0) (sym here)
      | inr there ↦ from_same n (suc i) xs ys (λ j under. few j (omega arith)) (λ j under. less j (omega arith))
          (omega arith) k (omega arith) (omega arith)
    ]

-- a byte of a range
in_range : (n : ℕ) (xs : List ℕ) (at k : ℕ) → k < n → get_or (slice_range xs at (at + n)) k 0 ≡ get_or xs (at + k) 0
in_range n xs at k less =
    let e : at + n - at ≡ n = omega arith in
    ap (λ m. get_or (take m (drop at xs)) k 0) e ∙ get_or-take n (drop at xs) k 0 less ∙ get_or-drop at xs k 0

pub same_of_number : (n : ℕ) (xs ys : List ℕ) (at : ℕ) → ((i : ℕ) → get_or xs i 0 < 256)
    → ((i : ℕ) → get_or ys i 0 < 256) → number_at n at xs ≡ number_at n at ys → SameAt xs ys at n
same_of_number n xs ys at few less e k high =
    sym (in_range n xs at k high)
    ∙ from_same n 0 (slice_range xs at (at + n)) (slice_range ys at (at + n))
    (λ j under. omega (arith, in_range n xs at j (omega arith), few (at + j)))
    (λ j under. omega (arith, in_range n ys at j (omega arith), less (at + j))) e k
    (omega arith) (omega arith)
    ∙ in_range n ys at k high

pub same_byte : (xs ys : List ℕ) (at : ℕ) → get_or xs at 0 ≡ get_or ys at 0 → SameAt xs ys at 1
same_byte xs ys at e k less =
    let here : at + k ≡ at = omega arith in
    ap (λ j. get_or xs j 0) here ∙ e ∙ ap (λ j. get_or ys j 0) (sym here)

pub same_both : (xs ys : List ℕ) (at n m : ℕ) → SameAt xs ys at n → SameAt xs ys (at + n) m → SameAt xs ys at (n + m)
same_both xs ys at n m first rest k less = elim (cases_lt k n) [
  | inl low ↦ first k low
  | inr high ↦ let there : at + n + (k - n) ≡ at + k = omega arith in
      ap (λ j. get_or xs j 0) (sym there) ∙ rest (k - n) (omega arith) ∙ ap (λ j. get_or ys j 0) there
]

pub all_same : (xs ys : List ℕ) (n : ℕ) → length xs ≡ n → length ys ≡ n → SameAt xs ys 0 n → true ≡ same_bytes xs ys
all_same xs ys n long as_long same =
    let first : (k : ℕ) → 0 + k ≡ k = λ k. omega arith in
    let e : xs ≡ ys = same_number_lists xs ys (omega arith)
    (λ k less. ap (λ j. get_or xs j 0) (sym (first k)) ∙ same k (omega arith)
    ∙ ap (λ j. get_or ys j 0) (first k)) in
    sym (same_bytes_self xs) ∙ ap (same_bytes xs) e
