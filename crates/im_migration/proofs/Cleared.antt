-- Zeros over a file, piece by piece.
use Rattle.std.proofs.Common.{◌≡◌, ℕ, zero, suc, ◌+◌, ◌-◌, ◌*◌, ◌<◌, ◌≤◌, ◌⊎◌, List, [], ◌∷◌, length, get_or, take}
use Rattle.std.proofs.Common.{replicate, refl, ◌∙◌, inl, ⊎_elim, arith}
use Rattle.std.proofs.lemmas.Bool.{cases_lt}
use Rattle.im_disk.{proofs.OverlayLemmas.overlaid_inside, proofs.OverlayLemmas.overlaid_outside, specs.Moment.overlaid}
use Rattle.im_migration.specs.Laying.{AreCleared}

-- each element is zero
abbrev pub AreZeros : List ℕ → Type 0
AreZeros z = (i : ℕ) → get_or z i 0 ≡ 0

pub replicated : (n : ℕ) → AreZeros (replicate n 0)
replicated zero i = refl
replicated (suc n) zero = refl
replicated (suc n) (suc i) = replicated n i

pub taken : (m : ℕ) (z : List ℕ) → AreZeros z → AreZeros (take m z)
taken zero z all i = refl
taken (suc m) [] all i = refl
taken (suc m) (x ∷ xs) all zero = all 0
taken (suc m) (x ∷ xs) all (suc i) = taken m xs (λ k. all (suc k)) i

-- The next page: from its first byte, or the one behind it where that is a gate, up to its end, or that of the file.
pub cleared_more : (page at end size : ℕ) (z c : List ℕ) → AreZeros z → at + length z ≡ end → end ≤ length c
    → length c ≡ size
    → at ≤ 4096 * page + 1 → (2 ≤ page → at ≡ 4096 * page) → ((end ≡ 4096 * (page + 1)) ⊎ (end ≡ size))
    → AreCleared page size c → AreCleared (page + 1) size (overlaid c at z)
cleared_more page at end size z c zeros ends fits long from gate to before k some low inside apart = ⊎_elim
    (λ (below : k < at). overlaid_outside c at z room k (inl below) ∙ before k some (lower below) inside apart)
    (λ (above : at ≤ k). overlaid_inside c at z room k above (omega (arith, ends, high)) ∙ zeros (k - at))
    (cases_lt k at)
  where
    room : at + length z ≤ length c
    room = omega (arith, ends, fits)

    high : k < end
    high = ⊎_elim (λ (e : end ≡ 4096 * (page + 1)). omega (arith, e, low))
        (λ (e : end ≡ size). omega (arith, e, inside)) to

    -- where the piece begins behind a gate, the byte before it is that gate
    lower : k < at → k < 4096 * page
    lower below = ⊎_elim (λ (few : page < 2). few_pages few) (λ (many : 2 ≤ page). omega (arith, gate many, below))
        (cases_lt page 2)
      where
        few_pages : page < 2 → k < 4096 * page
        few_pages few = ⊎_elim (λ (none : page < 1). absurd (omega (arith, none, below, from, some)))
            (λ (one : 1 ≤ page). ⊎_elim (λ (l : k < 4096). omega (arith, one, l))
            (λ (h : 4096 ≤ k). absurd (apart (omega (arith, h, few, below, from)))) (cases_lt k 4096))
            (cases_lt page 1)
