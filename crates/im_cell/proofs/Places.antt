-- The place as the least base.
use Rattle.std.proofs.Common.{◌≡◌, ℕ, zero, suc, ◌<◌, Bool, true, false, cond, List, [], ◌∷◌, IfSome, Some, None}
use Rattle.std.proofs.Common.{Option, option_map, sym, refl, ap, ◌∙◌, arith, rules}
use Rattle.im_types.specs.Types.{begins_free, is_free, place, IsLeastFree}

module _ {X : Type 0} where
  least_step : (n : ℕ) (x : Option X) (xs : List (Option X)) → ((b : ℕ) → place n xs ≡ Some b → IsLeastFree xs n b)
      → (t : Bool) → begins_free n (x ∷ xs) ≡ t → (o : Option ℕ) → place n xs ≡ o → (base : ℕ)
      → cond t (Some 0) (option_map suc o) ≡ Some base → IsLeastFree (x ∷ xs) n base
  least_step n x xs further true t o p zero e = record { free = t; least = λ b under. absurd (omega arith) }
  least_step n x xs further true t o p (suc base) e = let at_start : 0 ≡ suc base = cc in absurd (omega arith)
  least_step n x xs further false t None p base e = absurd (cc)
  least_step n x xs further false t (Some b) p zero e = let later : suc b ≡ 0 = cc in absurd (omega arith)
  least_step n x xs further false t (Some b) p (suc base) e =
      let later : suc b ≡ suc base = cc in
      let rest = further base (p ∙ ap Some (omega arith)) in
      record { free = rest.free; least = below rest }
    where
      below : IsLeastFree xs n base → (c : ℕ) → c < suc base → is_free (x ∷ xs) c n ≡ false
      below rest zero under = t
      below rest (suc c) under = rest.least c (omega arith)

  -- the place is the least base from which on so many cells are free
  pub place-is_least : (cells : List (Option X)) (n base : ℕ) → place n cells ≡ Some base → IsLeastFree cells n base
  place-is_least [] n base e = absurd (cc)
  place-is_least (x ∷ cells) n base e = least_step n x cells (place-is_least cells n)
      (begins_free n (x ∷ cells)) refl (place n cells) refl base e

-- the same of what was looked for
pub least-if : {X : Type 0} (cells : List (Option X)) (n : ℕ) (o : Option ℕ) → o ≡ place n cells
    → IfSome o (IsLeastFree cells n)
least-if cells n None e = search rules
least-if cells n (Some base) e = place-is_least cells n base (sym e)
