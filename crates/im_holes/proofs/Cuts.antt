-- What is left of the marks and lengths of holes where cells are taken and given back.
use Rattle.std.proofs.Common.{◌≡◌, ℕ, ◌+◌, ◌*◌, ◌/◌, ◌<◌, ◌≤◌, max, Bool, false, List, length, ap, inl, inr, arith}
use Rattle.std.proofs.lemmas.{Bool.cases_eq, Bool.cases_lt, List.get_or_past}
use Rattle.im_holes.specs.{declared.tags.TheConstants.PART, Holes.begin_at, Holes.kept_at, Holes.length_by}

-- the largest among the cells of a part before this one
pub record IsLargestTo (lengths : ℕ → ℕ) (part at largest : ℕ) : Type 0 where
  pub over : (k : ℕ) → k / PART ≡ part → k < at → lengths k ≤ largest
  pub reached : 0 < largest → (k : ℕ) × (k / PART ≡ part) × (lengths k ≡ largest)

pub IsLargestTo-more : (lengths : ℕ → ℕ) (part at largest : ℕ) → at / PART ≡ part → IsLargestTo lengths part at largest
    → IsLargestTo lengths part (at + 1) (max (lengths at) largest)
IsLargestTo-more lengths part at largest inside r = record {
  over = λ k e less. elim (cases_eq k at) [
    | inl z ↦ let same = ap lengths z in omega arith
    | inr ne ↦ let o = r.over k e (omega arith) in omega arith
  ];
  reached = λ some. elim (cases_lt largest (lengths at)) [
    | inl more ↦ (at, inside, omega arith)
    | inr less ↦ let b = r.reached (omega arith) in (b.0, b.1, (let s = b.2 in omega arith))
  ];
}

-- the length of the hole that begins past the last cell
pub begin-past : (begins : List Bool) (tags : List ℕ) (k : ℕ) → length begins ≤ k → begin_at begins tags k ≡ 0
begin-past begins tags k past = ap (λ b. length_by b (kept_at tags k)) (get_or_past begins k false past)

-- no cell of a part before this one has so long a hole
pub record IsLeastFrom (lengths : ℕ → ℕ) (n part at : ℕ) : Type 0 where
  pub from : part * PART ≤ at
  pub before : (k : ℕ) → part * PART ≤ k → k < at → lengths k < n
