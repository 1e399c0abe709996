-- Where a block may stand, and what a fill leaves.
use Rattle.std.proofs.Common.{◌≡◌, ℕ, zero, suc, ◌+◌, ◌<◌, ◌≤◌, Bool, true, false, cond, ◌⊎◌, List, [], ◌∷◌, length}
use Rattle.std.proofs.Common.{get_or, Some, None, Option, option_map, sym, refl, ap, ◌∙◌, subst, inl, inr, ⊎_elim}
use Rattle.std.proofs.Common.{arith}
use Rattle.im_types.specs.Types.{begins_free, is_free, place, fill, change_each, IsLeastFree}
use Rattle.im_laws.proofs.Tests.{below_or_from, some_none, some_same, true_false}

-- a slot after a fill is the new one, within the range, or the old one
pub get_or-fill : {X : Type 0} (xs : List (Option X)) (base n : ℕ) (x : Option X) (a : ℕ)
    → (get_or (fill xs base n x) a None ≡ get_or xs a None)
    ⊎ ((base ≤ a) × (a < base + n) × (get_or (fill xs base n x) a None ≡ x))
get_or-fill [] base n x a = inl refl
get_or-fill (y ∷ xs) zero zero x a = inl refl
get_or-fill (y ∷ xs) zero (suc n) x zero = inr (omega arith, omega arith, refl)
get_or-fill (y ∷ xs) zero (suc n) x (suc a) = ⊎_elim inl (λ h. inr (omega arith, omega arith, h.2))
    (get_or-fill xs zero n x a)
get_or-fill (y ∷ xs) (suc base) n x zero = inl refl
get_or-fill (y ∷ xs) (suc base) n x (suc a) = ⊎_elim inl (λ h. inr (omega arith, omega arith, h.2))
    (get_or-fill xs base n x a)

pub get_or-change_each : {X : Type 0} (change : Option X → Option X) (xs : List (Option X)) (base n a : ℕ)
    → (get_or (change_each change xs base n) a None ≡ get_or xs a None)
    ⊎ (base ≤ a) × (a < base + n) × (get_or (change_each change xs base n) a None ≡ change (get_or xs a None))
get_or-change_each change [] base n a = inl refl
get_or-change_each change (y ∷ xs) zero zero a = inl refl
get_or-change_each change (y ∷ xs) zero (suc n) zero = inr (omega arith, omega arith, refl)
get_or-change_each change (y ∷ xs) zero (suc n) (suc a) = ⊎_elim inl (λ h. inr (omega arith, omega arith, h.2))
    (get_or-change_each change xs zero n a)
get_or-change_each change (y ∷ xs) (suc base) n zero = inl refl
get_or-change_each change (y ∷ xs) (suc base) n (suc a) = ⊎_elim inl (λ h. inr (omega arith, omega arith, h.2))
    (get_or-change_each change xs base n a)

pub get_or-change_each_in : {X : Type 0} (change : Option X → Option X) (xs : List (Option X)) (base n a : ℕ)
    → base ≤ a → a < base + n → a < length xs
    → get_or (change_each change xs base n) a None ≡ change (get_or xs a None)
get_or-change_each_in change [] base n a lo hi h = absurd (omega arith)
get_or-change_each_in change (y ∷ xs) zero zero a lo hi h = absurd (omega arith)
get_or-change_each_in change (y ∷ xs) zero (suc n) zero lo hi h = refl
get_or-change_each_in change (y ∷ xs) zero (suc n) (suc a) lo hi h = get_or-change_each_in change xs zero n a
    (omega arith) (omega arith) (omega arith)
get_or-change_each_in change (y ∷ xs) (suc base) n zero lo hi h = absurd (omega arith)
get_or-change_each_in change (y ∷ xs) (suc base) n (suc a) lo hi h = get_or-change_each_in change xs base n a
    (omega arith) (omega arith) (omega arith)

-- at a place that was found the slots are free
begins_free-get : {X : Type 0} (n : ℕ) (xs : List (Option X)) → begins_free n xs ≡ true → (a : ℕ) → a < n
    → get_or xs a None ≡ None
begins_free-get zero xs e a h = absurd (omega arith)
begins_free-get (suc n) [] e a h = refl
begins_free-get (suc n) (None ∷ xs) e zero h = refl
begins_free-get (suc n) (None ∷ xs) e (suc a) h = begins_free-get n xs e a (omega arith)
begins_free-get (suc n) (Some x ∷ xs) e a h = absurd (cc)

abbrev pub IsFreeFrom : {X : Type 0} → List (Option X) → ℕ → ℕ → Type 0
IsFreeFrom xs base n = (a : ℕ) → base ≤ a → a < base + n → get_or xs a None ≡ None

place-free_step : {X : Type 0} (n : ℕ) (x : Option X) (xs : List (Option X))
    → ((b : ℕ) → place n xs ≡ Some b → IsFreeFrom xs b n)
    → (t : Bool) → begins_free n (x ∷ xs) ≡ t → (o : Option ℕ) → place n xs ≡ o → (base : ℕ)
    → cond t (Some 0) (option_map suc o) ≡ Some base → IsFreeFrom (x ∷ xs) base n
place-free_step n x xs further true t o p base e a lo hi = let at_start : 0
    ≡ base = cc in begins_free-get n (x ∷ xs) t a (omega arith)
place-free_step n x xs further false t None p base e a lo hi = absurd (cc)
place-free_step n x xs further false t (Some b) p base e zero lo hi = let later : suc b
    ≡ base = cc in absurd (omega arith)
place-free_step n x xs further false t (Some b) p base e (suc a) lo hi = let later : suc b
    ≡ base = cc in further b p a (omega arith) (omega arith)

pub place-free : {X : Type 0} (n : ℕ) (xs : List (Option X)) (base : ℕ) → place n xs ≡ Some base → IsFreeFrom xs base n
place-free n [] base e = λ a lo hi. refl
place-free n (x ∷ xs) base e = place-free_step n x xs (place-free n xs) (begins_free n (x ∷ xs)) refl
    (place n xs) refl base e

-- the place that is computed is the least that is free
begins_free-none : (X : Type 0) (n b : ℕ) → 1 ≤ n → is_free {X = X} [] b n ≡ false
begins_free-none X zero b h = absurd (omega arith)
begins_free-none X (suc n) zero h = refl
begins_free-none X (suc n) (suc b) h = refl

place-least_step : {X : Type 0} (n : ℕ) (x : Option X) (xs : List (Option X))
    → ((b : ℕ) → place n xs ≡ Some b → IsLeastFree xs n b)
    → (t : Bool) → begins_free n (x ∷ xs) ≡ t → (o : Option ℕ) → place n xs ≡ o → (base : ℕ)
    → cond t (Some 0) (option_map suc o) ≡ Some base → IsLeastFree (x ∷ xs) n base
place-least_step n x xs further true t o p base e = subst (IsLeastFree (x ∷ xs) n) (some_same 0 base e)
    (record { free = t; least = λ b h. absurd (omega arith) })
place-least_step n x xs further false t None p base e = absurd (cc)
place-least_step n x xs further false t (Some b) p base e =
    let later = further b p in
    subst (IsLeastFree (x ∷ xs) n) (some_same (suc b) base e) (record { free = later.free; least = least })
  where
    least : (c : ℕ) → c < suc b → is_free (x ∷ xs) c n ≡ false
    least zero h = t
    least (suc c) h = (further b p).least c (omega arith)

pub place-least : {X : Type 0} (n : ℕ) (xs : List (Option X)) (base : ℕ) → place n xs ≡ Some base
    → IsLeastFree xs n base
place-least n [] base e = absurd (cc)
place-least n (x ∷ xs) base e = place-least_step n x xs (place-least n xs) (begins_free n (x ∷ xs)) refl
    (place n xs) refl base e

place-none_step : {X : Type 0} (n : ℕ) (x : Option X) (xs : List (Option X))
    → (place n xs ≡ None → (b : ℕ) → is_free xs b n ≡ false)
    → (t : Bool) → begins_free n (x ∷ xs) ≡ t → (o : Option ℕ) → place n xs ≡ o → cond t (Some 0) (option_map suc o)
    ≡ None → (b : ℕ)
    → is_free (x ∷ xs) b n ≡ false
place-none_step n x xs further true t o p e b = absurd (some_none 0 e)
place-none_step n x xs further false t (Some c) p e b = absurd (some_none (suc c) e)
place-none_step n x xs further false t None p e zero = t
place-none_step n x xs further false t None p e (suc b) = further p b

-- no place: none is free
pub place-none : {X : Type 0} (n : ℕ) (xs : List (Option X)) → 1 ≤ n → place n xs ≡ None → (base : ℕ)
    → is_free xs base n ≡ false
place-none {X = X} n [] h e base = begins_free-none X n base h
place-none n (x ∷ xs) h e base = place-none_step n x xs (place-none n xs h) (begins_free n (x ∷ xs)) refl
    (place n xs) refl e base

-- the least that is free is the place that is computed
pub place-is_least : {X : Type 0} (n : ℕ) (xs : List (Option X)) (base : ℕ) → 1 ≤ n → IsLeastFree xs n base
    → place n xs ≡ Some base
place-is_least n xs base h is = by_place (place n xs) refl
  where
    by_place : (o : Option ℕ) → place n xs ≡ o → o ≡ Some base
    by_place None e = absurd (true_false (sym is.free ∙ place-none n xs h e base))
    by_place (Some b) e =
        let found = place-least n xs b e in
        ⊎_elim
        (λ (h : b < base). absurd (true_false (sym found.free ∙ is.least b h)))
        (λ (h : base ≤ b). ⊎_elim
        (λ (g : base < b). absurd (true_false (sym is.free ∙ found.least base g)))
        (λ (g : b ≤ base). ap Some (omega arith))
        (below_or_from base b))
        (below_or_from b base)

pub place-is_none : {X : Type 0} (n : ℕ) (xs : List (Option X)) → ((base : ℕ) → is_free xs base n ≡ false)
    → place n xs ≡ None
place-is_none n xs taken = by_place (place n xs) refl
  where
    by_place : (o : Option ℕ) → place n xs ≡ o → o ≡ None
    by_place None e = refl
    by_place (Some b) e = absurd (true_false (sym (place-least n xs b e).free ∙ taken b))
