-- The entries of a window fit their fields, one more too.
use Rattle.std.proofs.Common.{ℕ, zero, suc, List, [], ◌∷◌, take, slice_set, Some, subst}
use Rattle.im_types.specs.Types.{Kept, FitsPlace}
use Rattle.im_records.{proofs.Reading.none_some, proofs.Reading.some_inj, specs.Entries.FitEntries}

pub fit_set : (entries : List Kept) (place : ℕ) (kept : Kept) → FitEntries entries → FitsPlace (Some kept)
    → FitEntries (slice_set entries place kept)
fit_set [] place kept fit fits i k e = fit i k e
fit_set (x ∷ xs) zero kept fit fits zero k e = subst (λ (y : Kept). FitsPlace (Some y)) (some_inj kept k e) fits
fit_set (x ∷ xs) zero kept fit fits (suc i) k e = fit (suc i) k e
fit_set (x ∷ xs) (suc place) kept fit fits zero k e = fit zero k e
fit_set (x ∷ xs) (suc place) kept fit fits (suc i) k e = fit_set xs place kept (λ j l f. fit (suc j) l f) fits i k e

pub fit_take : (n : ℕ) (entries : List Kept) → FitEntries entries → FitEntries (take n entries)
fit_take zero entries fit i k e = absurd (none_some k e)
fit_take (suc n) [] fit i k e = fit i k e
fit_take (suc n) (x ∷ xs) fit zero k e = fit zero k e
fit_take (suc n) (x ∷ xs) fit (suc i) k e = fit_take n xs (λ j l f. fit (suc j) l f) i k e
