-- The least place, by the lengths of holes at their first cells.
use Rattle.std.proofs.Common.{◌≡◌, ℕ, zero, suc, ◌+◌, ◌<◌, ◌≤◌, Bool, true, false, List, [], ◌∷◌, length, Some, None}
use Rattle.std.proofs.Common.{Option, refl, inl, inr, arith}
use Rattle.std.proofs.lemmas.Bool.{cases_lt}
use Rattle.im_types.specs.Types.{begins_free, is_free, place}
use Rattle.im_laws.proofs.{PlaceLemmas.place-is_least, PlaceLemmas.place-is_none, Tests.true_or_false}
use Rattle.im_holes.proofs.{Runs.hole-at, Runs.neither, Shown.begin-hole, Shown.hole-begins}
use Rattle.im_holes.specs.Holes.{begin_at, free_at, HasTags}

-- where all of n cells are free
free-front : (n : ℕ) (cells : List (Option ℕ)) → ((k : ℕ) → k < n → free_at cells k ≡ true) → begins_free n cells ≡ true
free-front zero cells all = refl
free-front (suc n) [] all = all 0 (omega arith)
free-front (suc n) (None ∷ cells) all = free-front n cells (λ k less. all (suc k) (omega arith))
free-front (suc n) (Some x ∷ cells) all = all 0 (omega arith)

free-all : (cells : List (Option ℕ)) (base n : ℕ) → ((k : ℕ) → base ≤ k → k < base + n → free_at cells k ≡ true)
    → is_free cells base n ≡ true
free-all cells zero n all = free-front n cells (λ k less. all k (omega arith) (omega arith))
free-all [] (suc base) zero all = refl
free-all [] (suc base) (suc n) all = all (suc base) (omega arith) (omega arith)
free-all (x ∷ cells) (suc base) n all = free-all cells base n (λ k lo hi. all (suc k) (omega arith) (omega arith))

-- and back
front-free : (n : ℕ) (cells : List (Option ℕ)) → begins_free n cells ≡ true → (k : ℕ) → k < n → free_at cells k ≡ true
front-free zero cells e k less = absurd (omega arith)
front-free (suc n) [] e k less = e
front-free (suc n) (None ∷ cells) e zero less = refl
front-free (suc n) (None ∷ cells) e (suc k) less = front-free n cells e k (omega arith)
front-free (suc n) (Some x ∷ cells) e k less = absurd (let f : false ≡ true = e in cc)

all-free : (cells : List (Option ℕ)) (base n : ℕ) → is_free cells base n ≡ true → (k : ℕ) → base ≤ k → k < base + n
    → free_at cells k ≡ true
all-free cells zero n e k lo hi = front-free n cells e k (omega arith)
all-free [] (suc base) zero e k lo hi = absurd (omega arith)
all-free [] (suc base) (suc n) e k lo hi = e
all-free (x ∷ cells) (suc base) n e zero lo hi = absurd (omega arith)
all-free (x ∷ cells) (suc base) n e (suc k) lo hi = all-free cells base n e k (omega arith) (omega arith)

module _ (cells : List (Option ℕ)) (begins : List Bool) (tags : List ℕ) (t : HasTags (free_at cells) begins tags)
    (n : ℕ) (some : 0 < n) where
  -- where n cells are free a hole begins that is long enough, there or before
  begins-before : (b : ℕ) → is_free cells b n ≡ true → (h : ℕ) × (h ≤ b) × (n ≤ begin_at begins tags h)
  begins-before b e =
      let r = hole-at (free_at cells) (length tags) t.past b (all-free cells b n e b (omega arith) (omega arith)) in
      let own = begin-hole (free_at cells) begins tags r.base r.n t r.is in
      let low = r.low in let high = r.high in (
        r.base,
        low,
        elim (cases_lt (r.base + r.n) (b + n)) [
          | inl less ↦ absurd (neither (all-free cells b n e (r.base + r.n) (omega arith) less) (r.is.behind))
          | inr more ↦ omega arith
        ],
      )

  -- the first hole that is long enough
  pub place-first : (at : ℕ) → n ≤ begin_at begins tags at → ((h : ℕ) → h < at → begin_at begins tags h < n)
      → place n cells ≡ Some at
  place-first at room before =
      let hole = hole-begins (free_at cells) begins tags at t (omega arith) in
      place-is_least n cells at some (record {
        free = free-all cells at n (λ k lo hi. hole.each k lo (omega arith));
        least = λ b less. elim (true_or_false (is_free cells b n)) [
          | inr not_so ↦ not_so
          | inl is ↦ let h = begins-before b is in let s = before h.0 (let l = h.1 in omega arith) in
              let l = h.2 in absurd (omega arith)
        ];
      })

  -- none is
  pub place-none_first : ((h : ℕ) → begin_at begins tags h < n) → place n cells ≡ None
  place-none_first all = place-is_none n cells (λ b. elim (true_or_false (is_free cells b n)) [
    | inr not_so ↦ not_so
    | inl is ↦ let h = begins-before b is in let s = all h.0 in let l = h.2 in absurd (omega arith)
  ])
