-- The entries of earlier scripts that were named. (Own.)
use Rattle.std.proofs.Common.{◌≡◌, ℕ, suc, ◌+◌, ◌≤◌, List, ◌∷◌, Some, None, sym, refl, ap, ◌∙◌, subst, ⊎_elim, arith}
use Rattle.std.proofs.lemmas.{Bool.cases_lt, Option.same_Some}
use Rattle.im_types.specs.Types.{Kept, Contents, kept_for}
use Rattle.im_text.specs.declared.Waited.{Waited}
use Rattle.im_serial.{proofs.NotedLemmas.none_some, specs.Named.AreNamed, specs.Named.IsNamed}

-- one was named last
pub named_last : (old new : List Waited) (w : Waited) → new ≡ w ∷ old → IsNamed new w
named_last old new w is = subst (λ (l : List Waited). IsNamed l w) (sym is) (0, refl)

-- and those before it
pub named_behind : (old new : List Waited) (w other : Waited) → new ≡ w ∷ old → IsNamed old other → IsNamed new other
named_behind old new w other is there = subst (λ (l : List Waited). IsNamed l other) (sym is) (suc there.0, there.1)

module _ (m : Contents) (last element : ℕ) where
  -- no number
  pub named_none : (from : ℕ) (named : List Waited) → AreNamed m last element from from named
  named_none from named number k low high few is = absurd (omega (arith, low, high))

  -- one number, of which this is kept
  pub named_kept : (number : ℕ) (old named : List Waited) (k : Kept)
      → kept_for m.windows (record { element = element; number = number }) ≡ Some k
      → (number ≤ last → named ≡ record { element = element; number = number; entry = k.entry } ∷ old)
      → AreNamed m last element number (number + 1) named
  named_kept number old named k there is other j low high few found =
      let same : number ≡ other = omega (arith, low, high) in
      subst (λ (n : ℕ). IsNamed named (record { element = element; number = n; entry = j.entry })) same
      (subst (λ (x : Kept). IsNamed named (record { element = element; number = number; entry = x.entry }))
      (same_Some k j (sym there ∙ ap (λ (n : ℕ). kept_for m.windows (record { element = element; number = n })) same
      ∙ found))
      (named_last old named _ (is (omega (arith, same, few)))))

  -- one number, of which nothing is kept
  pub named_unkept : (number : ℕ) (named : List Waited)
      → kept_for m.windows (record { element = element; number = number }) ≡ None
      → AreNamed m last element number (number + 1) named
  named_unkept number named none other j low high few found =
      let same : number ≡ other = omega (arith, low, high) in
      absurd (none_some _ j (ap (λ (n : ℕ). kept_for m.windows (record { element = element; number = n })) (sym same)
      ∙ none) found)

  -- one number more
  pub named_more : (from number : ℕ) (old new : List Waited) → AreNamed m last element from number old
      → AreNamed m last element number (number + 1) new → ((w : Waited) → IsNamed old w → IsNamed new w)
      → AreNamed m last element from (number + 1) new
  named_more from number old new before here kept other k low high few is =
      ⊎_elim (λ below. kept _ (before other k low below few is)) (λ at. here other k at high few is)
      (cases_lt other number)

  -- fewer numbers
  pub named_until : (from reached upto : ℕ) (named : List Waited) → upto ≤ reached
      → AreNamed m last element from reached named → AreNamed m last element from upto named
  named_until from reached upto named past it number k low high few is =
      it number k low (omega (arith, past, high)) few is
